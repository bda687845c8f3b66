use Rattle.std.proofs.Common.{rules}
use mathlib.Core.List.{append_assoc}
use Rattle.jffs_tools.proofs.Ring.{ring_step, ring_end}
use Rattle.jffs_tools.proofs.texts.sectors_text.Goals as goal

pub loop-preserved : goal.loop-preserved
loop-preserved c = search (rules, ring_step, append_assoc)

pub returns : goal.returns
returns c = search (rules, ring_end)
