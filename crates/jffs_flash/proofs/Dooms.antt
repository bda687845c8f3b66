-- A sector that is erased after its doom, or half erased, is as one that was not doomed.
use Rattle.std.proofs.Common.{◌≡◌, ◌⊎◌, inl, inr, ℕ, ◌+◌, ◌*◌, ◌≤◌, List, [], ◌∷◌, ◌++◌, length, drop, replicate, Result, Ok, Err, IsErr, refl, sym, ap, subst, ◌∙◌, arith}
use Rattle.std.proofs.lemmas.List.{length-replicate}
use Rattle.jffs_flash.specs.Device.{Device, Unchanged, with_image, Fails, EraseFails, Erases}
use Rattle.jffs_flash.specs.Image.{window, replaced, programmed, both_bits, erased, erased_byte, AreBetween, IsHalfProgrammed, IsHalfErased}
use Rattle.jffs_flash.specs.Dooming.{doom, with_failed_dooms, IsDoomAt}
use Rattle.jffs_flash.proofs.Bits.{length-both_bits}
use Rattle.jffs_flash.proofs.Halves.{length-window, length-part, replaced_within}
use Rattle.jffs_flash.proofs.Replaced.{replaced_over}

-- bytes between others are as many
pub between_long : (old bytes left : List ℕ) → AreBetween old bytes left → length left ≡ length bytes
between_long [] [] [] h = refl
between_long (o ∷ old) (b ∷ bytes) (l ∷ left) h = let more = between_long old bytes left h.1 in omega arith
between_long [] [] (l ∷ left) h = absurd h
between_long [] (b ∷ bytes) left h = absurd h
between_long (o ∷ old) [] left h = absurd h
between_long (o ∷ old) (b ∷ bytes) [] h = absurd h

module _ (sector : ℕ) (old : Device) (at : ℕ) (here : IsDoomAt sector old at) where
  pub doomed_long : length (both_bits (window at (length doom) old.image) doom) ≡ length doom
  doomed_long =
      let room = here.room in
      let inside = here.inside in
      length-both_bits (window at (length doom) old.image) doom (length-window at (length doom) old.image (omega arith))

  erased_over : (left : List ℕ) → length left ≡ old.sector_size → replaced at left (programmed at doom old.image) ≡ replaced at left old.image
  erased_over left long =
      let room = here.room in
      let inside = here.inside in
      let few = doomed_long in
      replaced_over at (both_bits (window at (length doom) old.image) doom) left old.image (omega arith) (omega arith)

  pub half_doomed : (new : List ℕ) → IsHalfProgrammed at doom old.image new → IsHalfErased (sector * old.sector_size) old.sector_size old.image new
  half_doomed new h =
      let room = here.room in
      let few = between_long (window at (length doom) old.image) doom h.left h.between in
      let short : length h.left ≤ old.sector_size = omega arith in
      let P : ℕ → Type 0 = λ k. IsHalfErased k old.sector_size old.image new in
      subst P here.begins
      (record {
        left = h.left ++ drop (length h.left) (window at old.sector_size old.image);
        long = length-part at old.sector_size h.left old.image short here.inside;
        rest = h.rest ∙ replaced_within at old.sector_size h.left old.image short here.inside;
      })

  pub half_over : (new : List ℕ) → IsHalfErased (sector * old.sector_size) old.sector_size (programmed at doom old.image) new → IsHalfErased (sector * old.sector_size) old.sector_size old.image new
  half_over new h = record {
    left = h.left;
    long = h.long;
    rest =
        h.rest
        ∙ ap (λ k. replaced k h.left (programmed at doom old.image)) (sym here.begins)
        ∙ erased_over h.left h.long
        ∙ ap (λ k. replaced k h.left old.image) here.begins;
  }

  pub all_over : erased old.sector_size sector (programmed at doom old.image) ≡ erased old.sector_size sector old.image
  all_over =
      let ones = replicate old.sector_size erased_byte in
      ap (λ k. replaced k ones (programmed at doom old.image)) (sym here.begins)
      ∙ erased_over ones (length-replicate old.sector_size erased_byte)
      ∙ ap (λ k. replaced k ones old.image) here.begins

-- an erase of the device as it was, where that was doomed before
over_doomed : {A E : Type 0} (r : Result A E) (sector at : ℕ) (old new : Device) → IsDoomAt sector old at → Erases sector r (with_image old (programmed at doom old.image)) new → Erases sector r old new
over_doomed (Ok a) sector at old new here h = h ∙ ap (with_image old) (all_over sector old at here)
over_doomed (Err e) sector at old new here h = record { left = half_over sector old at here new.image h.left; faults = h.faults; rest = h.rest }

-- and as its callers see it
seen_erased : {A E : Type 0} (r : Result A E) (sector f : ℕ) (old new : Device) → Erases sector r old new → Erases sector r (with_failed_dooms f old) (with_failed_dooms f new)
seen_erased (Ok a) sector f old new h = ap (with_failed_dooms f) h
seen_erased (Err e) sector f old new h =
    let count : old.failed_erases + 1 + f ≡ old.failed_erases + f + 1 = omega arith in
    record {
      left = h.left;
      faults = h.faults;
      rest = ap (with_failed_dooms f) h.rest ∙ ap (λ (k : ℕ). record old { image = new.image; faults = new.faults; failed_erases = k }) count;
    }

pub erased_seen : {A E : Type 0} (r : Result A E) (sector f g : ℕ) (old doomed new : Device) → g ≡ f
    → Unchanged old doomed ⊎ ((at : ℕ) × IsDoomAt sector old at × (doomed ≡ with_image old (programmed at doom old.image)))
    → Erases sector r doomed new → Erases sector r (with_failed_dooms f old) (with_failed_dooms g new)
erased_seen r sector f g old doomed new same is h =
    subst (λ k. Erases sector r (with_failed_dooms f old) (with_failed_dooms k new)) (sym same)
    (seen_erased r sector f old new (
    elim is [
      | inl stays ↦ subst (λ d. Erases sector r d new) stays h
      | inr at ↦ over_doomed r sector at.0 old new at.1 (subst (λ d. Erases sector r d new) at.2 h)
    ]))

-- where the doom failed the erase did
pub doom_seen : (sector f g at : ℕ) (old new : Device) → g ≡ f + 1 → IsDoomAt sector old at → Fails (IsHalfProgrammed at doom old.image) old new
    → EraseFails (IsHalfErased (sector * old.sector_size) old.sector_size old.image) (with_failed_dooms f old) (with_failed_dooms g new)
doom_seen sector f g at old new more here h =
    let count : old.failed_erases + g ≡ old.failed_erases + f + 1 = omega arith in
    record {
      left = half_doomed sector old at here new.image h.left;
      faults = h.faults;
      rest = ap (with_failed_dooms g) h.rest ∙ ap (λ (k : ℕ). record old { image = new.image; faults = new.faults; failed_erases = k }) count;
    }

-- an erase that failed
pub erase_failed : {A E : Type 0} (r : Result A E) (sector : ℕ) (old new : Device) → IsErr r → EraseFails (IsHalfErased (sector * old.sector_size) old.sector_size old.image) old new → Erases sector r old new
erase_failed (Ok a) sector old new h fails = cc
erase_failed (Err e) sector old new h fails = fails
