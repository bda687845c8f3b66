-- The index after the oldest sector was erased.
use Rattle.std.proofs.Common.{◌≡◌, ℕ, [], ◌∷◌, None, refl, ◌+◌, ◌-◌, ◌*◌, ◌<◌, ◌≤◌, List, ◌++◌, length, flat_map, sym, ap, subst, ◌∙◌, arith}
use Rattle.jffs_flash.specs.Image.{erased}
use Rattle.jffs_flash.specs.declared.sizes.TheConstants.{VOLUME_MAX}
use Rattle.jffs_log.specs.declared.log_index.RecordRef.{RecordRef}
use Rattle.std.specs.List.{last_or}
use Rattle.jffs_log.specs.Image.{records_in, records_in_first, log_sectors, is_clean, is_clean_tail}
use Rattle.jffs_log.specs.Volume.{sectors_in}
use Rattle.jffs_log.specs.Ring.{IsNext}
use Rattle.jffs_log.specs.Wear.{sector_after}
use Rattle.jffs_log.specs.Live.{live_log}
use Rattle.jffs_log.specs.Cleaning.{layout_of, erase_oldest}
use Rattle.jffs_log.specs.LogIndex.{Describes, from_other}
use Rattle.jffs_log.proofs.ring.Ring.{Numbered, ring_log}
use Rattle.jffs_log.proofs.append.Appended.{described_inside, image_small}
use Rattle.jffs_log.proofs.erase.Wear.{next_after}
use Rattle.jffs_log.proofs.erase.Erased.{IsErasedOldest, oldest_erased, placed_go}
use Rattle.jffs_log.proofs.ring.Layouts.{layout_erased}
use Rattle.jffs_log.proofs.ring.Volume.{sector_fits}

-- the last sector is the same without the first
same_last : (first : Numbered) (later : List Numbered) → 1 ≤ length later → is_clean_tail (last_or None later) ≡ is_clean_tail (last_or None (first ∷ later))
same_last first [] some = absurd (omega arith)
same_last first (s ∷ later) some = refl

-- how many sectors hold the log
pub held_many : (count len : ℕ) (image : List ℕ) (first many tail used free : ℕ) (records : List RecordRef) → Describes count len image first many tail used free records → length (log_sectors (sectors_in count len image)) ≡ many
held_many count len image first many tail used free records h = ap (λ (xs : List Numbered). length xs) (ring_log first (sectors_in count len image) h.held h.blank h.ring).0 ∙ h.counted

pub record IsIndexErased (count len : ℕ) (old new : List ℕ) (next left tail used free : ℕ) (rest : List RecordRef) : Type 0 where
  pub index : Describes count len new next left tail used free rest
  pub gone : live_log count len old ≡ records_in_first (log_sectors (sectors_in count len old)) ++ live_log count len new
  pub layout : layout_of len (sectors_in count len new) ≡ erase_oldest (layout_of len (sectors_in count len old))
  pub clean : is_clean (sectors_in count len new) ≡ is_clean (sectors_in count len old)

pub index_erased : (count len : ℕ) (old new : List ℕ) (first many tail used free next : ℕ) (records rest : List RecordRef) → Describes count len old first many tail used free records → 2 ≤ many → next ≡ sector_after count first
    → new ≡ erased len first old → rest ≡ from_other first records → IsIndexErased count len old new next (many - 1) tail used free rest
index_erased count len old new first many tail used free next records rest h several at changed left =
    subst (λ (xs : List ℕ). IsIndexErased count len old xs next (many - 1) tail used free rest) (sym changed) on_erased
  where
    inside : first < count
    inside = (described_inside count len old first many tail used free records h).0

    e : IsErasedOldest count len old (erased len first old) first next (many - 1) tail used free records
    e = oldest_erased count len old first many tail used free next records h several (subst (IsNext first count) (sym at) (next_after first count inside))

    others : rest ≡ e.others
    others =
        left
        ∙ ap (λ k. from_other k records) (sym e.number)
        ∙ ap (from_other e.oldest.0) e.listed
        ∙ placed_go e.oldest.0 0 e.oldest.1.reading.nodes e.others
        ∙ e.forgets

    on_erased : IsIndexErased count len old (erased len first old) next (many - 1) tail used free rest
    on_erased = record {
      index = subst (λ (rs : List RecordRef). Describes count len (erased len first old) next (many - 1) tail used free rs) (sym others) e.index;
      gone =
          ap (flat_map records_in) e.sectors
          ∙ ap (λ (xs : List Numbered). records_in_first xs ++ live_log count len (erased len first old)) (sym e.sectors);
      layout = layout_erased count len old (erased len first old) first next many tail used free records e.others e.oldest h e.index several e.sectors;
      clean =
          let new = erased len first old in
          let many_left = held_many count len new next (many - 1) tail used free e.others e.index in
          same_last e.oldest (log_sectors (sectors_in count len new)) (omega arith) ∙ ap (λ (xs : List Numbered). is_clean_tail (last_or None xs)) (sym e.sectors);
    }

-- The oldest sector lies inside the image.
pub oldest_inside : (count len : ℕ) (image : List ℕ) (first many tail used free : ℕ) (records : List RecordRef) → Describes count len image first many tail used free records
    → (first * len + len ≤ length image) × (length image ≤ VOLUME_MAX)
oldest_inside count len image first many tail used free records h =
    let fits = sector_fits count len first (described_inside count len image first many tail used free records h).0 in
    let whole = h.whole in
    (omega arith, image_small count len image h.sizes h.whole)
