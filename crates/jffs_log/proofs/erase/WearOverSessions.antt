-- Over sessions the ring goes on where it was left.
use Rattle.std.proofs.Common.{◌≡◌, ℕ, zero, suc, ◌+◌, cond, eqb, List, [], ◌∷◌, refl, sym, ap, subst, ◌∙◌, arith}
use Rattle.jffs_log.specs.Image.{Sector}
use Rattle.jffs_log.specs.Ring.{IsRing}
use Rattle.jffs_log.specs.Volume.{sectors_in}
use Rattle.jffs_log.specs.Wear.{sector_after_each, erases_of, erases_over, ImagesFixFirst, ErasesAreEven}
use Rattle.jffs_log.proofs.ring.Ring.{ring_once}
use Rattle.jffs_log.proofs.erase.Wear.{after_both, wear_even}

pub images_fix_first : ImagesFixFirst
images_fix_first image left found l f sizes some =
    let counted = l.counted in
    let same : sectors_in found.sectors found.sector_size image ≡ sectors_in left.sectors left.sector_size image =
    ap (λ (count : ℕ). sectors_in count found.sector_size image) (sym sizes.0) ∙ ap (λ (len : ℕ). sectors_in left.sectors len image) (sym sizes.1) in
    ring_once left.first found.first (sectors_in left.sectors left.sector_size image) l.held l.blank f.held f.blank l.ring
    (subst (λ (sectors : List Sector). IsRing found.first sectors f.held f.blank) same f.ring) (omega arith)

moved : (x y a b c : ℕ) → x ≡ y → a ≡ b + c → x + a ≡ b + (y + c)
moved x y a b c same sum = omega arith

-- Erases one after another are counted in two parts.
pub erases_both : (count first more many k : ℕ) → erases_of count first (many + more) k ≡ erases_of count first many k + erases_of count (sector_after_each count first many) more k
erases_both count first zero many k =
    let same : many + 0 ≡ many = omega arith in
    let e = ap (λ (n : ℕ). erases_of count first n k) same in
    omega arith
erases_both count first (suc more) many k =
    let same : many + suc more ≡ suc (many + more) = omega arith in
    let last = ap (λ (c : ℕ). cond (eqb c k) 1 0) (after_both count first more many) in
    ap (λ (n : ℕ). erases_of count first n k) same
    ∙ moved _ _ (erases_of count first (many + more) k) (erases_of count first many k) (erases_of count (sector_after_each count first many) more k) (sym last) (erases_both count first more many k)

-- All sessions are as one.
over_is : (count first : ℕ) (sessions : List ℕ) → (many : ℕ) × ((k : ℕ) → erases_over count first sessions k ≡ erases_of count first many k)
over_is count first [] = (0, λ k. refl)
over_is count first (many ∷ sessions) =
    let later = over_is count (sector_after_each count first many) sessions in
    (many + later.0, λ k. ap (λ (n : ℕ). erases_of count first many k + n) (later.1 k) ∙ sym (erases_both count first later.0 many k))

pub sessions_wear_evenly : ErasesAreEven
sessions_wear_evenly count first sessions j k inside low high =
    let one = over_is count first sessions in
    let a = one.1 j in
    let b = one.1 k in
    let even = wear_even count first one.0 j k inside low high in
    omega arith
