use Rattle.std.proofs.Common.{◌≡◌, ◌*◌, true, take}
use Rattle.jffs_text.specs.Dump.{hex}
use Rattle.jffs_text.proofs.word.read_hex.Given as goal

abbrev pub invariant-loop-index : goal.invariant-loop-index
invariant-loop-index l = l.all_read ≡ true → hex (take l.index l.bytes) ≡ take (2 * l.index) l.digits
