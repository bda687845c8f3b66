use Rattle.std.proofs.Common.{◌≡◌, take}
use Rattle.std.specs.Int.{is_in_range}
use Rattle.std.specs.List.{list_all}
use Rattle.jffs_text.proofs.lines.is_printable.Given as goal

abbrev pub invariant-loop-byte : goal.invariant-loop-byte
invariant-loop-byte l = l.printable ≡ list_all (is_in_range 32 126) (take l.byte-index l.line)
