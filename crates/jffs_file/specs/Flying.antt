-- What a device knows of the writes that are in flight.
use Rattle.std.specs.Prelude.{◌≡◌, ◌⊎◌, ℕ, ◌≤◌, List, All, Option, Some, None, true, false}
use Rattle.jffs_flash.specs.Device.{Device}
use Rattle.jffs_file.specs.declared.span.Span.{Span}
use Rattle.jffs_file.specs.declared.span.TheConstants.{BLOCK_LEN, INDEX_MAX}
use Rattle.jffs_file.specs.declared.flight.InFlight.{InFlight}
use Rattle.jffs_file.specs.declared.store.StoreEvent.{StoreEvent}
use Rattle.jffs_file.specs.Held.{IsHeld}
use Rattle.jffs_file.specs.Order.{IsErase, IsInPiece, Begins, in_flight, IsOrdered}

-- it is the erase that is known, or lies in what is known to be programmed; and if it begins a
-- sector it is known that one was begun
abbrev pub IsKnown : ℕ → InFlight → Span → Type 0
IsKnown size flight span =
    ((flight.erasing ≡ Some span) × IsErase size span)
    ⊎ ((IsHeld flight.last span ⊎ IsHeld flight.rest span)
    × (Begins size span → flight.begun ≡ true))

-- what is known after a sync: nothing is in flight
abbrev pub no_flight : InFlight
no_flight = record { last = None; rest = None; begun = false; erasing = None }

-- what is known of a store that somebody else has written: nothing
abbrev pub any_flight : InFlight
any_flight =
    record {
      last = None;
      rest = Some (record { from = 0; to = INDEX_MAX });
      begun = true;
      erasing = None;
    }

-- a program and the last one before it are in one block, and none is in another sector
pub record IsOneBlock (size : ℕ) (flight : InFlight) (write : Span) : Type 0 where
  pub whole : IsInPiece BLOCK_LEN write.from write
  pub last : (s : Span) → IsHeld flight.last s
      → IsInPiece BLOCK_LEN write.from s × IsInPiece size write.from s
  pub rest : (s : Span) → IsHeld flight.rest s → IsInPiece size write.from s

-- A store notes what is asked of it; all was in order so far, and each write in flight is known.
pub record IsInOrder (held : Device) (past : Option (List StoreEvent)) (flight : InFlight)
    : Type 0 where
  pub events : List StoreEvent
  pub noted : past ≡ Some events
  pub ordered : IsOrdered held.sectors held.sector_size events
  pub known : All (IsKnown held.sector_size flight) (in_flight events)

-- A store notes what is asked of it, and all was in order, whatever of it is in flight still.
pub record WasInOrder (held : Device) (past : Option (List StoreEvent)) : Type 0 where
  pub events : List StoreEvent
  pub noted : past ≡ Some events
  pub ordered : IsOrdered held.sectors held.sector_size events
  pub fits : All (λ span. span.to ≤ INDEX_MAX) (in_flight events)

-- what was in order is in order
abbrev pub KeepsOrder : Device → Option (List StoreEvent) → InFlight → Option (List StoreEvent)
    → InFlight → Type 0
KeepsOrder held old old_flight new new_flight =
    IsInOrder held old old_flight → IsInOrder held new new_flight
