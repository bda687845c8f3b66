-- A store that was written and synced in order still is after one call more.
use Rattle.std.proofs.Common.{◌≡◌, ◌⊎◌, inl, inr, ℕ, ◌+◌, ◌<◌, ◌≤◌, List, [], ◌∷◌, Some, Ok, Err, refl, sym, ap, ◌∙◌, subst, arith}
use Rattle.std.specs.Prelude.{Option, Result}
use Rattle.std.specs.List.{All}
use Rattle.std.proofs.lemmas.List.Elements.{All-nil, All-tail, All-weaker}
use Rattle.jffs_flash.specs.Device.{Device}
use Rattle.jffs_file.specs.declared.span.Span.{Span}
use Rattle.jffs_file.specs.declared.flight.InFlight.{InFlight}
use Rattle.jffs_file.specs.declared.store.StoreEvent.{StoreEvent}
use Rattle.jffs_file.specs.declared.store.StoreEvent.TheVariants.{Wrote, Synced}
use Rattle.jffs_file.specs.declared.span.TheConstants.{INDEX_MAX}
use Rattle.jffs_flash.specs.declared.dooming.TheConstants.{DOOM_LEN}
use Rattle.jffs_file.specs.Stored.{wrote, NotesCall, NotesDoom}
use Rattle.jffs_file.specs.Order.{MayProgram, MayWrite, IsOrdered, IsDoomed, in_flight}
use Rattle.jffs_file.specs.Flying.{IsKnown, WasInOrder, IsInOrder, any_flight}

-- after a sync
pub order_settled : (held : Device) (old new : Option (List StoreEvent)) (flight after : InFlight)
    → ((past : List StoreEvent) → old ≡ Some past → new ≡ Some (Synced ∷ past))
    → IsInOrder held old flight → IsInOrder held new after
order_settled held old new flight after notes order =
    record {
      events = Synced ∷ order.events;
      noted = notes order.events order.noted;
      ordered = order.ordered;
      known = All-nil (IsKnown held.sector_size after);
    }

-- a program that may follow
may_write : (sectors size : ℕ) (write : Span) (past : List StoreEvent) → write.to < write.from + size
    → MayProgram sectors size (in_flight past) write → MayWrite sectors size write past
may_write sectors size write past short may =
    record { erase = λ whole. absurd (omega arith); program = λ _. may }

-- where anything may be in flight each write is known
known_any : (size : ℕ) (flight : InFlight) (span : Span) → flight ≡ any_flight → span.to ≤ INDEX_MAX → IsKnown size flight span
known_any size flight span is fits =
    let here : IsKnown size any_flight span = inr (inr (omega arith, fits), λ _. refl) in
    subst (λ (f : InFlight). IsKnown size f span) (sym is) here

pub order_unknown : (held : Device) (past : Option (List StoreEvent)) (flight : InFlight) → flight ≡ any_flight
    → WasInOrder held past
    → IsInOrder held past flight
order_unknown held past flight is was =
    record {
      events = was.events;
      noted = was.noted;
      ordered = was.ordered;
      known = All-weaker (λ (span : Span). span.to ≤ INDEX_MAX) (IsKnown held.sector_size flight)
          (λ span. known_any held.sector_size flight span is) (in_flight was.events) was.fits;
    }

-- a call is noted, or where it failed perhaps not
either : {A E : Type 0} (event : StoreEvent) (result : Result A E) (old new : Option (List StoreEvent)) (past : List StoreEvent)
    → NotesCall event result old new → old ≡ Some past
    → (new ≡ Some (event ∷ past)) ⊎ (new ≡ Some past)
either event (Ok x) old new past notes is = inl (notes past is)
either event (Err e) old new past notes is = notes past is

-- after a program that may follow what is in flight
pub order_programmed : {A E : Type 0} (held : Device) (old new : Option (List StoreEvent)) (flight after : InFlight) (write : Span)
    (at len : ℕ) (result : Result A E)
    → write ≡ record { from = at; to = at + len }
    → len < held.sector_size
    → ((flying : List Span) → All (IsKnown held.sector_size flight) flying → MayProgram held.sectors held.sector_size flying write)
    → ((flying : List Span) → All (IsKnown held.sector_size flight) flying → All (IsKnown held.sector_size after) (write ∷ flying))
    → NotesCall (wrote at len) result old new
    → IsInOrder held old flight
    → IsInOrder held new after
order_programmed held old new flight after write at len result is short may adds notes order =
    let known = adds (in_flight order.events) order.known in
    let event : wrote at len ≡ Wrote write = ap (λ (w : Span). Wrote w) (sym is) in
    let less : write.to < write.from + held.sector_size =
    omega (arith, ap (λ (w : Span). w.from) is, ap (λ (w : Span). w.to) is) in
    elim (either (wrote at len) result old new order.events notes order.noted) [
      | inl noted ↦ record {
        events = Wrote write ∷ order.events;
        noted = noted ∙ ap (λ (e : StoreEvent). Some (e ∷ order.events)) event;
        ordered = (
          may_write held.sectors held.sector_size write order.events less (may (in_flight order.events) order.known),
          order.ordered,
        );
        known = known;
      }
      | inr none ↦ record {
        events = order.events;
        noted = none;
        ordered = order.ordered;
        known = All-tail (IsKnown held.sector_size after) write (in_flight order.events) known;
      }
    ]

-- after the erase of a doomed sector
pub order_erased : {A E : Type 0} (held : Device) (before old new : Option (List StoreEvent)) (flight mid after : InFlight)
    (sector : Span) (at size : ℕ) (result : Result A E)
    → sector ≡ record { from = at; to = at + size }
    → size ≡ held.sector_size
    → NotesDoom at DOOM_LEN before old
    → NotesCall (wrote at size) result old new
    → All (IsKnown held.sector_size after) (sector ∷ [])
    → IsInOrder held before flight
    → IsInOrder held old mid
    → IsInOrder held new after
order_erased held before old new flight mid after sector at size result is whole dooms notes known was order =
    let doom : Span = record { from = at; to = at + DOOM_LEN } in
    let past : List StoreEvent = Synced ∷ Wrote doom ∷ Synced ∷ was.events in
    let there : old ≡ Some past = dooms was.events was.noted in
    let same : order.events ≡ past = cc (there, order.noted) in
    let ordered : IsOrdered held.sectors held.sector_size past =
    subst (λ (events : List StoreEvent). IsOrdered held.sectors held.sector_size events) same order.ordered in
    let from : at ≡ sector.from = sym (ap (λ (s : Span). s.from) is) in
    let to : sector.to ≡ at + size = ap (λ (s : Span). s.to) is in
    let doomed : IsDoomed sector past =
    record { before = Synced ∷ was.events; doom = doom; is = refl; from = from; to = omega (arith, from); alone = refl } in
    let event : wrote at size ≡ Wrote sector = ap (λ (w : Span). Wrote w) (sym is) in
    elim (either (wrote at size) result old new past notes there) [
      | inl noted ↦ record {
        events = Wrote sector ∷ past;
        noted = noted ∙ ap (λ (e : StoreEvent). Some (e ∷ past)) event;
        ordered = (record { erase = λ _. doomed; program = λ short. absurd (omega (arith, from, to, whole)) }, ordered);
        known = known;
      }
      | inr none ↦ record { events = past; noted = none; ordered = ordered; known = All-nil (IsKnown held.sector_size after) }
    ]
