-- What the fields of an inode are seen as.
use Rattle.std.specs.Prelude.{◌≤◌, map, Some}
use Rattle.jffs_node.specs.Record.{file_max}
use Rattle.jffs_inodes.specs.declared.inode.Inode.TheInside.{Inside}
use Rattle.jffs_inodes.specs.Held.{Held}
use Rattle.jffs_inodes.specs.Fragments.{AreLaid, laid, byte_of, writer_of}

abbrev pub held_of : Inside → Held
held_of a = record {
  entry = record {
    kind = a.kind;
    parent = a.parent;
    name = a.name;
    bytes = map byte_of (laid 0 a.size a.fragments.entries);
  };
  writers = map writer_of (laid 0 a.size a.fragments.entries);
  newest = Some a.newest;
  states_size = a.states_size;
}

-- The fragments lie one after another in the file, and no file is too long.
pub record IsLaidOut (a : Inside) : Type 0 where
  pub laid : AreLaid 0 a.size a.fragments.entries
  pub small : a.size ≤ file_max
