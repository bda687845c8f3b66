-- A handle and the volume that it leads to.
use Rattle.std.specs.Prelude.{Option, Some, None}
use base.Fml.{Fml, ftrue}
use denote.Ref.{MutBor}
use denote.RawPtr.{Ptr}
use denote.Follow.{follows}
use Rattle.std_alloc.specs.Box.Ownership.{box_owns}
use Rattle.jffs_c.specs.declared.handle.Handle.{Handle}
use Rattle.jffs_c.specs.declared.volume.Volume.{Volume}
use Rattle.jffs_c.specs.contracts.handle.Handle.{the_row as handle_row}
use Rattle.jffs_c.specs.contracts.volume.Volume.{the_row as volume_row}
use Rattle.jffs_c.specs.Heap.{chunk}

-- the handle when the volume behind it is another
abbrev pub with_value : Handle → Volume → Handle
with_value handle volume = record { at = handle.at; value = volume }

-- once the borrow r ends, the handle behind h leads to what was written last through r
abbrev pub handle_follows : MutBor Handle → MutBor Volume → Fml
handle_follows h r = follows handle_row volume_row h.ghost_name r.ghost_name (with_value h.now)

-- what a slot owns: nothing, or the block of a box with this volume in it
abbrev pub slot_owns : Ptr → Option Volume → Fml
slot_owns at None = ftrue
slot_owns at (Some volume) = box_owns chunk volume_row at volume
