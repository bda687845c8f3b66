-- The right to free a block of the heap.
use base.Fml.{Fml}
use mir.Syntax.{Ty}
use denote.RawPtr.{Ptr}
use Rattle.std.below.std_heap.specs.contracts.GlobalAllocator.TheImpl.{ghosts}

-- every allocator that takes its memory from the heap has the same
abbrev pub chunk : Ty → Ptr → Fml
chunk ty ptr = ghosts.dealloc_token (record { memory = record { seal = tt } }) ty ptr
