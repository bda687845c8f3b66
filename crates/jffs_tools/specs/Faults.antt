-- The faults of the tools.
use Rattle.std.specs.Prelude.{ℕ}
use Rattle.jffs_tools.specs.declared.fault.ToolFault.{ToolFault}
use Rattle.jffs_tools.specs.declared.fault.ToolFault.TheVariants.{Read, Write, Memory}

-- the status that a tool ends with: 1 where the machine failed it, and 2 where it was called
-- wrongly
abbrev pub status_of : ToolFault → ℕ
status_of Read = 1
status_of Write = 1
status_of Memory = 1
status_of fault = 2
