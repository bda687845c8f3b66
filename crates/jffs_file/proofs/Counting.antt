-- How many erases are among the failures of a file's device.
use Rattle.std.proofs.Common.{◌≡◌, ℕ, ◌+◌, ◌<◌, eqb, true, false, cond, refl, sym, ap, ◌∙◌, arith}
use Rattle.std.proofs.lemmas.Bool.{cond-true, cond-false, eq-eqb, ne_eqb}
use Rattle.jffs_file.specs.Kept.{erases_among}

-- none before the first failure
pub among_none : (faults failed : ℕ) → faults ≡ 0 → erases_among faults failed ≡ 0
among_none faults failed none = cond-true (eqb faults 0) 0 failed (eq-eqb faults 0 none)

-- those that are counted from then on
pub among_some : (faults failed : ℕ) → 0 < faults → erases_among faults failed ≡ failed
among_some faults failed some = cond-false (eqb faults 0) 0 failed (ne_eqb faults 0 (λ none. omega arith))

-- as many with a failure more that is none of an erase
pub among_more : (faults failed : ℕ) → 0 < faults → erases_among (faults + 1) failed ≡ erases_among faults failed
among_more faults failed some = among_some (faults + 1) failed (omega arith) ∙ sym (among_some faults failed some)

-- with a failure more, of an erase
pub among_one_more : (faults failed : ℕ) → 0 < faults → erases_among (faults + 1) (failed + 1) ≡ erases_among faults failed + 1
among_one_more faults failed some = among_some (faults + 1) (failed + 1) (omega arith) ∙ ap (λ (n : ℕ). n + 1) (sym (among_some faults failed some))

pub among_zero : (faults : ℕ) → erases_among faults 0 ≡ 0
among_zero faults = elim (eqb faults 0) as (λ t. ◌≡◌ {A = ℕ} (cond t 0 0) 0) [ true ↦ refl | false ↦ refl ]
