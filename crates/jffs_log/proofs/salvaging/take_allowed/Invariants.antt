use Rattle.std.proofs.Common.{◌≡◌, take}
use Rattle.jffs_log.specs.Salvage.{sifted, IsMadeOf}
use Rattle.jffs_log.proofs.salvaging.take_allowed.Given as goal

-- what the records so far make
abbrev pub invariant-loop-next : goal.invariant-loop-next
invariant-loop-next l = record {
  made : IsMadeOf (sifted (take l.next-index l.records)) l.made;
  cut : l.made.cut ≡ l.fn.cut;
}
