-- How outcomes are kept: in blocks, each with a slot for every one of some numbers that follow one
-- another.
use Rattle.std.specs.Prelude.{◌≡◌, ℕ, zero, suc, ◌+◌, ◌*◌, false, List, [], ◌∷◌, length, Option}
use Rattle.std.specs.Prelude.{Some, None, slice_index_or, if◌then◌else◌}
use Rattle.std.specs.FinMap as map
use Rattle.jffs_tree.specs.declared.wish.Outcome.{Outcome}
use Rattle.jffs_tree.specs.declared.wish.Outcome.TheVariants.{Closed}
use Rattle.jffs_index.specs.declared.block.Slots.{Slots}
use Rattle.jffs_index.specs.declared.block.TheConstants.{SLOTS}
use Rattle.jffs_index.specs.Outcomes.{Outcomes, request_cmp}

-- what a slot holds
abbrev pub slot : Slots → ℕ → Option Outcome
slot slots at =
    if slice_index_or slots.filled at false then Some (slice_index_or slots.outcomes at Closed)
    else None

abbrev pub IsWhole : Slots → Type 0
IsWhole slots = (length slots.filled ≡ SLOTS) × (length slots.outcomes ≡ SLOTS)

-- blocks by their senders and numbers
abbrev pub Blocks : Type 0
Blocks = List ((ℕ × ℕ) × Slots)

-- outcomes by their requests
abbrev pub Entries : Type 0
Entries = map.FinMap request_cmp Outcome

-- with what a slot holds as the outcome of a request
abbrev pub with_slot : Entries → ℕ × ℕ → Option Outcome → Entries
with_slot entries request None = map.remove entries request
with_slot entries request (Some outcome) = map.insert entries request outcome

-- with the first slots of a block
unfoldable pub with_slots : Entries → ℕ × ℕ → Slots → ℕ → Entries
with_slots entries block slots zero = entries
with_slots entries block slots (suc n) =
    with_slot (with_slots entries block slots n) (block.0, block.1 * SLOTS + n) (slot slots n)

-- what all blocks hold
abbrev pub entries_of : Blocks → Entries
entries_of [] = map.empty
entries_of (e ∷ blocks) = with_slots (entries_of blocks) e.0 e.1 SLOTS

-- the outcomes in all blocks
abbrev pub outcomes_of : Blocks → Outcomes
outcomes_of blocks = map.entries (entries_of blocks)

-- what a slot of a block holds, where the block is there
abbrev pub slot_in : Option Slots → ℕ → Option Outcome
slot_in None at = None
slot_in (Some slots) at = slot slots at
