-- The numbers of codes.
use Rattle.std.specs.Prelude.{ℕ}
use Rattle.jffs_c.specs.declared.code.Code.{Code}
use Rattle.jffs_c.specs.declared.code.Code.TheVariants as code

-- the number by which C knows a code
abbrev pub number_of : Code → ℕ
number_of code.Done = 0
number_of code.RootFixed = 1
number_of code.NoParent = 2
number_of code.NameTaken = 3
number_of code.NotFound = 4
number_of code.IsDirectory = 5
number_of code.DataLong = 6
number_of code.FileLong = 7
number_of code.NotEmpty = 8
number_of code.NotNeeded = 9
number_of code.Stale = 10
number_of code.InodesSpent = 11
number_of code.VersionsSpent = 12
number_of code.Memory = 13
number_of code.NoSpace = 14
number_of code.Device = 15
number_of code.Failed = 16
number_of code.CallsLeft = 17
number_of code.Nothing = 18
number_of code.BufferShort = 19
number_of code.PathNoSlash = 20
number_of code.PathNameEmpty = 21
number_of code.PathNameLong = 22
number_of code.PathNameByte = 23
number_of code.PathDeep = 24
number_of code.Geometry = 25
number_of code.BadRecord = 26
number_of code.NoErased = 27
number_of code.Scattered = 28
number_of code.BadOrder = 29
number_of code.BadTree = 30
