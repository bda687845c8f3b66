-- The requests of `serve`: the line of each, and how many bytes follow it.
use Rattle.std.specs.Prelude.{ℕ, ◌+◌, List, ◌++◌, codes, decimal}
use Rattle.jffs_protocol.specs.declared.asking.Ask.{Ask}
use Rattle.jffs_protocol.specs.declared.asking.Ask.TheVariants as ask

-- the line, without its line feed
abbrev pub ask_line : Ask → List ℕ
ask_line (ask.Stat path) = codes "stat " ++ decimal path
ask_line (ask.List path) = codes "list " ++ decimal path
ask_line (ask.Read path offset len) =
    codes "read " ++ (decimal path ++ (codes " " ++ (decimal offset ++ (codes " " ++ decimal len))))
ask_line ask.Room = codes "room"
ask_line ask.Limits = codes "limits"
ask_line ask.Check = codes "check"
ask_line (ask.Create path) = codes "create " ++ decimal path
ask_line (ask.MakeDir path) = codes "mkdir " ++ decimal path
ask_line (ask.Write path offset len) =
    codes "write "
    ++ (decimal path ++ (codes " " ++ (decimal offset ++ (codes " " ++ decimal len))))
ask_line (ask.Truncate path size) =
    codes "truncate " ++ (decimal path ++ (codes " " ++ decimal size))
ask_line (ask.Remove path) = codes "remove " ++ decimal path
ask_line (ask.Rename from to) = codes "rename " ++ (decimal from ++ (codes " " ++ decimal to))
ask_line ask.Sync = codes "sync"
ask_line ask.Unmount = codes "unmount"

-- the length of the first path after the line, in bytes
abbrev pub first_len : Ask → ℕ
first_len (ask.Stat path) = path
first_len (ask.List path) = path
first_len (ask.Read path offset len) = path
first_len (ask.Create path) = path
first_len (ask.MakeDir path) = path
first_len (ask.Write path offset len) = path
first_len (ask.Truncate path size) = path
first_len (ask.Remove path) = path
first_len (ask.Rename from to) = from
first_len _ = 0

-- the length of what follows it: the second path, or data
abbrev pub second_len : Ask → ℕ
second_len (ask.Write path offset len) = len
second_len (ask.Rename from to) = to
second_len _ = 0

-- how many bytes follow the line
abbrev pub body_len : Ask → ℕ
body_len a = first_len a + second_len a
