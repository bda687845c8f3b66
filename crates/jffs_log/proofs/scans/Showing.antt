-- what is shown of an image, sector by sector.
use Rattle.std.proofs.Common.{◌≡◌, ◌≢◌, inl, inr, ℕ, ◌+◌, ◌*◌, ◌<◌, ◌≤◌, cond, eqb, List, [], ◌++◌, length, drop, replicate, set, get_or, refl, sym, ap, ◌∙◌, arith}
use Rattle.std.proofs.Math.Seq.{drop-length}
use Rattle.std.proofs.lemmas.Bool.{cases_eq, eq-eqb, ne_eqb}
use Rattle.std.proofs.lemmas.List.{append-nil, length-replicate, get_or-set_same, get_or-set_other}
use Rattle.jffs_node.specs.Record.{magic}
use Rattle.jffs_flash.specs.Image.{replaced, erased, erased_byte}
use Rattle.jffs_log.specs.declared.shown.Shown.{Shown}
use Rattle.jffs_log.specs.declared.shown.Shown.TheVariants.{AsTheyAre, Erased, Restored}
use Rattle.jffs_log.specs.Volume.{split, sector_bytes}
use Rattle.jffs_log.specs.Shown.{shown_image, shown_bytes, IsAmong}
use Rattle.jffs_log.proofs.ring.Volume.{sector_fits, length-split, length-sector, length-replaced, split_replaced}
use Rattle.jffs_log.proofs.append.Open.{get_or-split}

-- the beginning of one sector is replaced
pub sector_replaced : (count len s k : ℕ) (part image : List ℕ) → s < count → k < count → length part ≤ len → length image ≡ count * len
    → sector_bytes len k (replaced (s * len) part image) ≡ cond (eqb s k) (replaced 0 part (sector_bytes len k image)) (sector_bytes len k image)
sector_replaced count len s k part image inside below short whole =
    let at : s * len ≡ s * len + 0 = omega arith in
    let changed = ap (λ (j : ℕ). split count len (replaced j part image)) at ∙ split_replaced count len s 0 part image inside (omega arith) whole in
    let seen = sym (get_or-split count len k (replaced (s * len) part image) [] below) ∙ ap (λ (xs : List (List ℕ)). get_or xs k []) changed in
    let many = length-split count len image in
    elim (cases_eq s k) [
      | inl same ↦
          let there : s < length (split count len image) = omega arith in
          seen
          ∙ ap (λ (j : ℕ). get_or (set (split count len image) s (replaced 0 part (sector_bytes len s image))) j []) (sym same)
          ∙ get_or-set_same (split count len image) s (replaced 0 part (sector_bytes len s image)) [] there
          ∙ ap (λ (j : ℕ). replaced 0 part (sector_bytes len j image)) same
          ∙ ap (λ b. cond b (replaced 0 part (sector_bytes len k image)) (sector_bytes len k image)) (sym (eq-eqb s k same))
      | inr other ↦
          seen
          ∙ get_or-set_other (split count len image) s k (replaced 0 part (sector_bytes len s image)) [] (λ e. other (sym e))
          ∙ get_or-split count len k image [] below
          ∙ ap (λ b. cond b (replaced 0 part (sector_bytes len k image)) (sector_bytes len k image)) (sym (ne_eqb s k other))
    ]

-- all bytes of a sector are replaced
all_replaced : (len : ℕ) (bytes : List ℕ) → length bytes ≡ len → replaced 0 (replicate len erased_byte) bytes ≡ replicate (length bytes) erased_byte
all_replaced len bytes long =
    let ones = length-replicate len erased_byte in
    let all : 0 + length {A = ℕ} (replicate len erased_byte) ≡ length bytes = omega arith in
    ap (λ (j : ℕ). replicate len erased_byte ++ drop j bytes) all
    ∙ ap (λ (xs : List ℕ). replicate len erased_byte ++ xs) (drop-length bytes)
    ∙ append-nil (replicate len erased_byte)
    ∙ ap (λ (j : ℕ). replicate j erased_byte) (sym long)

pub sector_shown : (shown : Shown) (count len k : ℕ) (image : List ℕ) → length image ≡ count * len → 4 ≤ len → IsAmong shown count → k < count
    → sector_bytes len k (shown_image shown len image) ≡ shown_bytes shown k (sector_bytes len k image)
sector_shown AsTheyAre count len k image whole room among below = refl
sector_shown (Erased s) count len k image whole room among below =
    let ones = length-replicate len erased_byte in
    let bytes = sector_bytes len k image in
    sector_replaced count len s k (replicate len erased_byte) image among below (omega arith) whole
    ∙ ap (λ (xs : List ℕ). cond (eqb s k) xs bytes) (all_replaced len bytes (length-sector count len k image whole below))
sector_shown (Restored s) count len k image whole room among below = sector_replaced count len s k magic image among below room whole

pub length-shown : (shown : Shown) (count len : ℕ) (image : List ℕ) → length image ≡ count * len → 4 ≤ len → IsAmong shown count → length (shown_image shown len image) ≡ length image
length-shown AsTheyAre count len image whole room among = refl
length-shown (Erased s) count len image whole room among =
    let ones : length {A = ℕ} (replicate len erased_byte) ≡ len = length-replicate len erased_byte in
    let fits = sector_fits count len s among in
    length-replaced (s * len) (replicate len erased_byte) image (omega arith)
length-shown (Restored s) count len image whole room among =
    let fits = sector_fits count len s among in
    let four : length magic ≡ 4 = refl in
    length-replaced (s * len) magic image (omega arith)
