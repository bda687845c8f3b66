-- What calls that are carried out leave of an image.
use Rattle.std.proofs.lemmas.Bool.{and_parts, leb-true}
use Rattle.std.proofs.Common.{◌≡◌, inl, inr, leb, ltb, ◌^◌, ℕ, ◌+◌, ◌*◌, ◌<◌, ◌≤◌, List, [], ◌∷◌, length, replicate, drop, Ok, Err, refl, sym, ap, subst, ◌∙◌, arith}
use Rattle.std.specs.Prelude.{Result}
use Rattle.std.specs.List.{AllByRecursion}
use Rattle.std.proofs.lemmas.List.{length-replicate}
use Rattle.std.proofs.lemmas.List.Sums.{fold-append}
use Rattle.std.proofs.Math.Nat.{mul-le-mul_right}
use Rattle.jffs_flash.specs.Device.{Device, with_image, Programs, Fails, EraseFails}
use Rattle.jffs_flash.specs.Dooming.{IsDoomAt}
use Rattle.jffs_flash.proofs.Dooms.{all_over}
use Rattle.jffs_flash.specs.Image.{window, erased, erased_byte, programmed, IsHalfProgrammed, IsHalfErased}
use Rattle.jffs_flash.specs.declared.fuse.Fail.TheVariants.{Nothing}
use Rattle.jffs_flash.proofs.Bits.{length-programmed}
use Rattle.jffs_flash.proofs.Halves.{half_programmed, half_erased, length-window}
use Rattle.jffs_queue.specs.declared.call.Call.{Call}
use Rattle.jffs_queue.specs.declared.call.Call.TheVariants.{Erase, Program}
use Rattle.jffs_queue.specs.Queue.{Queued, after_call, carried_out, with_call, seen_device, IsInside, IsLaidOver, IsQueue, IsDoom, AddsErase}
use Rattle.jffs_queue.proofs.Overlays.{length-replaced}

-- a call leaves as many bytes as there were
pub length-after_call : (sectors size : ℕ) (image : List ℕ) (call : Call) → length image ≡ sectors * size → IsInside sectors size call
    → length (after_call size image call) ≡ sectors * size
length-after_call sectors size image (Erase sector) whole inside =
    let fits = mul-le-mul_right size inside in
    length-replaced (sector * size) (replicate size erased_byte) image (omega (arith, whole, fits, length-replicate size erased_byte)) ∙ whole
length-after_call sectors size image (Program at bytes) whole inside =
    length-programmed at bytes.items image (omega (arith, whole, inside)) ∙ whole

pub length-carried_out : (sectors size : ℕ) (calls : List Call) (image : List ℕ) → length image ≡ sectors * size
    → AllByRecursion (IsInside sectors size) calls → length (carried_out size calls image) ≡ sectors * size
length-carried_out sectors size [] image whole inside = whole
length-carried_out sectors size (call ∷ calls) image whole inside =
    length-carried_out sectors size calls (after_call size image call) (length-after_call sectors size image call whole inside.0) inside.1

-- of a device that counts no failure no call failed
pub is_programmed : {A E : Type 0} (at : ℕ) (bytes : List ℕ) (r : Result A E) (old new : Device) → new.faults ≡ 0
    → Programs at bytes r old new → new ≡ with_image old (programmed at bytes old.image)
is_programmed at bytes (Ok x) old new none is = is
is_programmed at bytes (Err x) old new none fails = let risen = fails.faults in absurd (omega arith)

-- A buffer shows the image that the first calls left, and those that are left make the whole image
-- of it.
pub record IsUnderway (sectors size at n : ℕ) (buffer : List ℕ) (left : List Call) (image : List ℕ) : Type 0 where
  pub sofar : List ℕ
  pub whole : length sofar ≡ sectors * size
  pub long : length buffer ≡ n
  pub shows : buffer ≡ window at (length buffer) sofar
  pub goes : carried_out size left sofar ≡ image
  pub inside : AllByRecursion (IsInside sectors size) left

-- the first call that waits goes once it is carried out
pub one_less : (old new : Queued)
    → ((call : Call) (later : List Call) → old.calls ≡ call ∷ later → new ≡ with_call (record old { calls = later }) call)
    → (old.calls ≡ [] → new ≡ old) → new.calls ≡ drop 1 old.calls
one_less old new first none = from old.calls refl
  where
    from : (calls : List Call) → old.calls ≡ calls → new.calls ≡ drop 1 calls
    from [] is = ap (λ (q : Queued). q.calls) (none is) ∙ is
    from (call ∷ later) is = ap (λ (q : Queued). q.calls) (first call later is)

-- callers see as many bytes as the sectors have
pub length-seen : (held seen : Queued) → held ≡ seen → IsQueue held → length (seen_device seen).image ≡ seen.sectors * seen.sector_size
length-seen held seen is sound =
    subst (λ (q : Queued). length (seen_device q).image ≡ q.sectors * q.sector_size) is
    (length-carried_out held.sectors held.sector_size held.calls held.medium sound.whole sound.inside)

-- a program that had no memory was a failure that did nothing
pub program_fails : (at : ℕ) (bytes : List ℕ) (old new : Queued) → at + length bytes ≤ length (seen_device old).image → new ≡ old
    → Fails (IsHalfProgrammed at bytes (seen_device old).image) (seen_device old) (seen_device (record new { faults = new.faults + 1 }))
program_fails at bytes old new inside same =
    let P : Queued → Type 0 = λ q. Fails (IsHalfProgrammed at bytes (seen_device old).image) (seen_device old) (seen_device (record q { faults = q.faults + 1 })) in
    subst P (sym same) (record { left = half_programmed Nothing at bytes (seen_device old).image inside; faults = omega arith; rest = refl })

pub erase_fails : (sector : ℕ) (old new : Queued) → sector < old.sectors → length (seen_device old).image ≡ old.sectors * old.sector_size → new ≡ old
    → EraseFails (IsHalfErased (sector * old.sector_size) old.sector_size (seen_device old).image) (seen_device old)
    (seen_device (record new { faults = new.faults + 1; failed_erases = new.failed_erases + 1 }))
erase_fails sector old new known whole same =
    let fits = mul-le-mul_right old.sector_size known in
    let P : Queued → Type 0 = λ q. EraseFails (IsHalfErased (sector * old.sector_size) old.sector_size (seen_device old).image) (seen_device old) (seen_device (record q { faults = q.faults + 1; failed_erases = q.failed_erases + 1 })) in
    subst P (sym same) (record { left = half_erased Nothing old.sector_size sector (seen_device old).image (omega (arith, whole, fits)); faults = omega arith; rest = refl })

-- what is erased after its doom is as what is only erased
after_doom : (sector size : ℕ) (device : Device) (call : Call) → device.sector_size ≡ size → IsDoom sector size call → sector * size + size ≤ length device.image
    → after_call size (after_call size device.image call) (Erase sector) ≡ erased size sector device.image
after_doom sector size device (Erase other) same h inside = absurd h.is
after_doom sector size device (Program at bytes) same h inside =
    let room = leb-true 4 size (and_parts (leb 4 size) (ltb (sector * size) (2 ^ 32)) h.can).0 in
    let here : IsDoomAt sector (record device { sector_size = size }) (sector * size) = record { begins = refl; room = room; inside = inside } in
    (λ i. erased size sector (programmed (h.is.0 i) (h.is.1 i) device.image)) ∙ all_over sector (record device { sector_size = size }) (sector * size) here

-- an erase that waits is seen as one that was carried out
pub erase_seen : (sector : ℕ) (old new : Queued) → sector < old.sectors → length (seen_device old).image ≡ old.sectors * old.sector_size → AddsErase sector old new
    → seen_device new ≡ with_image (seen_device old) (erased old.sector_size sector (seen_device old).image)
erase_seen sector old new known whole (inl h) =
    let fits = mul-le-mul_right old.sector_size known in
    ap seen_device h.2
    ∙ ap (with_image (seen_device old)) (fold-append (after_call old.sector_size) old.medium old.calls (h.0 ∷ Erase sector ∷ []) ∙ after_doom sector old.sector_size (seen_device old) h.0 refl h.1 (omega (arith, whole, fits)))
erase_seen sector old new known whole (inr h) =
    ap seen_device h.1 ∙ ap (with_image (seen_device old)) (fold-append (after_call old.sector_size) old.medium old.calls (Erase sector ∷ []))

-- one call more was laid over it
pub goes_on : (sectors size at n : ℕ) (old new : List ℕ) (call : Call) (later : List Call) (image : List ℕ) → at + n ≤ sectors * size
    → IsUnderway sectors size at n old (call ∷ later) image → IsLaidOver size call at old new → IsUnderway sectors size at n new later image
goes_on sectors size at n old new call later image fits way laid =
    let wide = length-after_call sectors size way.sofar call way.whole way.inside.0 in
    let whole = way.whole in
    let few = way.long in
    let is = laid sectors way.sofar whole way.inside.0 (omega arith) way.shows in
    let long : length new ≡ length old = ap (λ (xs : List ℕ). length xs) is ∙ length-window at (length old) (after_call size way.sofar call) (omega arith) in
    record {
      sofar = after_call size way.sofar call;
      whole = wide;
      long = long ∙ few;
      shows = is ∙ ap (λ k. window at k (after_call size way.sofar call)) (sym long);
      goes = way.goes;
      inside = way.inside.1;
    }
