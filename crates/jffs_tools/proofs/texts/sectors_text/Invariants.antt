use Rattle.std.proofs.Common.{◌≡◌, ◌++◌, codes, string_bytes, ◌-◌}
use Rattle.jffs_tools.specs.Texts.{ring_text}
use Rattle.jffs_tools.proofs.texts.sectors_text.Given as goal

abbrev pub invariant-loop : goal.invariant-loop
invariant-loop l = string_bytes l.text ++ ring_text l.sectors (l.fn.held - l.counter) l.sector ≡ codes "sectors" ++ ring_text l.fn.sectors l.fn.held l.fn.first
