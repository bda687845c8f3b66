use Rattle.std.proofs.Common.{◌≡◌, ◌*◌, take}
use Rattle.jffs_text.specs.Dump.{hex}
use Rattle.jffs_text.proofs.dumping.fill_hex.Given as goal

abbrev pub invariant-loop-index : goal.invariant-loop-index
invariant-loop-index l = take (2 * l.index) l.digits ≡ hex (take l.index l.bytes)
