-- What a script's commands wish for.
use Rattle.std.specs.Prelude.{List, map, replicate, box_value}
use Rattle.jffs_text.specs.declared.command.Command.{Command}
use Rattle.jffs_text.specs.declared.command.Command.TheVariants as command
use Rattle.jffs_tree.specs.declared.wish.Wish.{Wish}
use Rattle.jffs_tree.specs.declared.wish.Wish.TheVariants as wish

-- the wish of a command
abbrev pub wish_of : Command → Wish
wish_of (command.MakeDir path) = wish.MakeDir path
wish_of (command.Create path) = wish.Create path
wish_of (command.Write path offset bytes) = wish.Write path offset (box_value bytes)
wish_of (command.Fill path offset count byte) = wish.Write path offset (replicate count byte)
wish_of (command.Truncate path size) = wish.Truncate path size
wish_of (command.Rename from to) = wish.Rename from to
wish_of (command.Remove path) = wish.Remove path

abbrev pub wishes_of : List Command → List Wish
wishes_of commands = map wish_of commands
