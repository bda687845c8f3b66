-- The names of causes.
use Rattle.std.specs.Prelude.{ℕ, List, codes}
use Rattle.jffs_tree.specs.declared.wish.Cause.{Cause}
use Rattle.jffs_tree.specs.declared.wish.Cause.TheVariants.{RootFixed, NoParent, NameTaken}
use Rattle.jffs_tree.specs.declared.wish.Cause.TheVariants.{NotFound, IsDirectory, DataLong}
use Rattle.jffs_tree.specs.declared.wish.Cause.TheVariants.{FileLong, NotEmpty, NotNeeded, Stale}
use Rattle.jffs_tree.specs.declared.wish.Cause.TheVariants.{InodesSpent, VersionsSpent, Memory}
use Rattle.jffs_tree.specs.declared.wish.Cause.TheVariants.{NoSpace, Device, Failed}

-- the name of a cause
abbrev pub cause_text : Cause → List ℕ
cause_text RootFixed = codes "RootFixed"
cause_text NoParent = codes "NoParent"
cause_text NameTaken = codes "NameTaken"
cause_text NotFound = codes "NotFound"
cause_text IsDirectory = codes "IsDirectory"
cause_text DataLong = codes "DataLong"
cause_text FileLong = codes "FileLong"
cause_text NotEmpty = codes "NotEmpty"
cause_text NotNeeded = codes "NotNeeded"
cause_text Stale = codes "Stale"
cause_text InodesSpent = codes "InodesSpent"
cause_text VersionsSpent = codes "VersionsSpent"
cause_text Memory = codes "Memory"
cause_text NoSpace = codes "NoSpace"
cause_text Device = codes "Device"
cause_text Failed = codes "Failed"
