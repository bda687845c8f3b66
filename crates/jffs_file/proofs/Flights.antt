-- What a device knows of the writes in flight says whether another may follow.
use Rattle.std.proofs.Common.{◌≡◌, ◌⊎◌, inl, inr, ℕ, ◌*◌, List, ◌∷◌, Some, true, false, sym, subst}
use Rattle.std.specs.Prelude.{Option}
use Rattle.std.specs.List.{All}
use Rattle.std.proofs.Math.Nat.{le_refl}
use Rattle.std.proofs.lemmas.List.Elements.{All-cons, All-weaker}
use Rattle.jffs_file.specs.declared.span.Span.{Span}
use Rattle.jffs_file.specs.declared.flight.InFlight.{InFlight}
use Rattle.jffs_file.specs.Held.{IsHeld}
use Rattle.jffs_file.specs.Order.{Meets, Begins, IsErase, IsBefore, IsInPiece, MayProgram}
use Rattle.jffs_file.specs.Flying.{IsKnown, IsOneBlock, no_flight}

-- bytes lie over no write that a range holds
abbrev Misses : Option Span → Span → Type 0
Misses range write = (s : Span) → IsHeld range s → Meets s write → ⊥

-- what is known of a program that may follow
pub record Follows (sectors size : ℕ) (flight : InFlight) (write : Span) : Type 0 where
  pub rest : (s : Span) → IsHeld flight.rest s → Meets s write → ⊥
  pub erasing : (s : Span) → IsHeld flight.erasing s → Meets s write → ⊥
  pub last : ((s : Span) → IsHeld flight.last s → Meets s write → ⊥) ⊎ IsOneBlock size flight write
  pub begun : Begins size write → flight.begun ≡ false
  pub before : Begins size write → (s : Span) → flight.erasing ≡ Some s → IsBefore (sectors * size) size write s → ⊥

-- a known write that bytes lie over is in the last program, and in one block with them
pub met : (sectors size : ℕ) (flight : InFlight) (write s : Span) → Follows sectors size flight write
    → IsKnown size flight s → Meets s write → IsHeld flight.last s × IsOneBlock size flight write
met sectors size flight write s follows known meets =
    elim known [
      | inl erase ↦ absurd (follows.erasing s (subst (λ (o : Option Span). IsHeld o s) (sym erase.0) (le_refl s.from, le_refl s.to)) meets)
      | inr program ↦
          elim program.0 [
            | inl held ↦ elim follows.last [ inl misses ↦ absurd (misses s held meets) | inr one ↦ (held, one) ]
            | inr held ↦ absurd (follows.rest s held meets)
          ]
    ]

-- a known write is an erase or in the sector of bytes that are in one block with the last program
pub apart : (size : ℕ) (flight : InFlight) (write s : Span) → IsOneBlock size flight write → IsKnown size flight s
    → IsErase size s ⊎ IsInPiece size write.from s
apart size flight write s one known =
    elim known [
      | inl erase ↦ inl erase.1
      | inr program ↦ elim program.0 [ inl held ↦ inr (one.last s held).1 | inr held ↦ inr (one.rest s held) ]
    ]

-- a known write doesn't keep bytes from beginning a sector
pub unbegun : (sectors size : ℕ) (flight : InFlight) (write s : Span) → Follows sectors size flight write → IsKnown size flight s
    → Begins size write
    → (IsErase size s × (IsBefore (sectors * size) size write s → ⊥)) ⊎ (Begins size s → ⊥)
unbegun sectors size flight write s follows known begins =
    elim known [
      | inl erase ↦ inl (erase.1, follows.before begins s erase.0)
      | inr program ↦ inr (λ other. let was = program.1 other in let not = follows.begun begins in absurd (cc (was, not)))
    ]

pub may_program : (sectors size : ℕ) (flight : InFlight) (write : Span) (flying : List Span)
    → Follows sectors size flight write → All (IsKnown size flight) flying → MayProgram sectors size flying write
may_program sectors size flight write flying follows known =
    record {
      over = λ k d in'. λ meets.
          let m = met sectors size flight write _ follows (known k d in') meets in
          ((m.1.last _ m.0).0, m.1.whole);
      gate = λ k d in'. λ meets.
          let m = met sectors size flight write _ follows (known k d in') meets in
          (λ j e within. apart size flight write _ m.1 (known j e within));
      begin = λ begins. λ k d in'. unbegun sectors size flight write _ follows (known k d in') begins;
    }

-- where nothing is known to be in flight nothing is
pub unknown_none : (size : ℕ) (flight : InFlight) (s : Span) → flight ≡ no_flight → IsKnown size flight s → ⊥
unknown_none size flight s is known =
    let here : IsKnown size no_flight s = subst (λ (f : InFlight). IsKnown size f s) is known in
    elim here [ inl erase ↦ absurd (cc (erase.0)) | inr program ↦ elim program.0 [ inl held ↦ held | inr held ↦ held ] ]

pub may_program_alone : (sectors size : ℕ) (flight : InFlight) (write : Span) (flying : List Span)
    → flight ≡ no_flight → All (IsKnown size flight) flying → MayProgram sectors size flying write
may_program_alone sectors size flight write flying is known =
    record {
      over = λ k d in'. λ _. absurd (unknown_none size flight _ is (known k d in'));
      gate = λ k d in'. λ _. absurd (unknown_none size flight _ is (known k d in'));
      begin = λ _. λ k d in'. absurd (unknown_none size flight _ is (known k d in'));
    }

-- what one more program leaves known
pub record Adds (size : ℕ) (old new : InFlight) (write : Span) : Type 0 where
  pub rest : (s : Span) → IsHeld old.rest s ⊎ IsHeld old.last s → IsHeld new.rest s
  pub last : new.last ≡ Some write
  pub erasing : new.erasing ≡ old.erasing
  pub begun : old.begun ≡ true → new.begun ≡ true
  pub begins : Begins size write → new.begun ≡ true

known_still : (size : ℕ) (old new : InFlight) (write s : Span) → Adds size old new write → IsKnown size old s → IsKnown size new s
known_still size old new write s adds known =
    elim known [
      | inl erase ↦ inl (cc (adds.erasing, erase.0), erase.1)
      | inr program ↦
          inr (
            elim program.0 [ inl held ↦ inr (adds.rest s (inr held)) | inr held ↦ inr (adds.rest s (inl held)) ],
            λ begins. adds.begun (program.1 begins),
          )
    ]

pub known_more : (size : ℕ) (old new : InFlight) (write : Span) (flying : List Span) → Adds size old new write
    → All (IsKnown size old) flying → All (IsKnown size new) (write ∷ flying)
known_more size old new write flying adds known =
    All-cons (IsKnown size new) write flying
    (inr (inl (subst (λ (o : Option Span). IsHeld o write) (sym adds.last) (le_refl write.from, le_refl write.to)), adds.begins))
    (All-weaker (IsKnown size old) (IsKnown size new) (λ s. known_still size old new write s adds) flying known)
