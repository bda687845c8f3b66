-- A record is written where the log puts it: into the tail, or into the next sector.
use Rattle.std.proofs.Common.{◌≡◌, ◌⊎◌, inl, inr, ℕ, ◌+◌, ◌-◌, ◌*◌, ◌/◌, ◌≤◌, ◌<◌, true, leb, List, [], ◌∷◌, ◌++◌, sym, ap, subst, ◌∙◌, arith}
use Rattle.std.proofs.lemmas.Bool.{le-leb, lt-leb, cases_lt, and_from, or_right}
use Rattle.jffs_node.specs.declared.node.Node.{Node}
use Rattle.jffs_node.specs.Record.{record_len, dsize, spelling, is_lawful, is_unmount, fits_rest}
use Rattle.jffs_flash.specs.Image.{replaced}
use Rattle.jffs_log.specs.declared.log_index.LogIndex.{LogIndex}
use Rattle.jffs_log.specs.declared.log_index.RecordRef.{RecordRef}
use Rattle.jffs_log.specs.declared.place.Place.{Place}
use Rattle.jffs_log.specs.declared.room.Room.{Room}
use Rattle.jffs_log.specs.Ring.{IsAt}
use Rattle.jffs_log.specs.Room.{tail_need}
use Rattle.jffs_log.specs.Place.{IsPlace, end_of_tail, start_of}
use Rattle.jffs_log.specs.LogIndex.{Describes, HasTail, IsLogIndex, ref_of, layout_in, placed_at}
use Rattle.jffs_log.specs.Gate.{IsWritten, MayWrite}
use Rattle.jffs_log.specs.Cleaning.{layout_of, put, in_last}
use Rattle.jffs_log.specs.Volume.{sectors_in}
use Rattle.jffs_log.specs.LogState.{LogState, MayAppendAt}
use Rattle.jffs_log.proofs.ring.SectorSpellings.{rest_fits, record_long}
use Rattle.jffs_log.proofs.ring.Layouts.{layout_tail, layout_next, put_in_tail, put_in_next}
use Rattle.jffs_log.proofs.rooms.Rooms.{described_room, described_free}
use Rattle.jffs_log.proofs.append.Appended.{IsReady, Appended, Cut, logged, sizes_small, tail_ready, tail_appended, tail_cut, next_ready, next_appended, next_cut}
use Rattle.jffs_log.proofs.append.Fits.{tail_fits, two_erased}
use Rattle.jffs_log.proofs.append.Open.{room_is}

-- a short record fits an erased sector
next_fits : (n : Node) (len : ℕ) → record_len n ≤ len / 4 → fits_rest n.kind (dsize n) (len / 4) len ≡ true
next_fits n len short =
    let long = record_long n in
    and_from _ _ (and_from _ _ (le-leb (record_len n) (len / 4) short) (le-leb (record_len n) len (omega arith)))
    (or_right (is_unmount n.kind) (leb (record_len n + 64) len) (le-leb (record_len n + 64) len (omega arith)))

-- A record may be written there, and what it makes of the image, whole or in part.
pub record PutsAt (b : LogIndex) (image : List ℕ) (n : Node) (p : Place) : Type 0 where
  pub may : MayWrite (p.sector * b.sector_size + p.offset) n image
  pub fits : record_len n ≤ p.free
  pub inside : p.offset + record_len n ≤ b.sector_size
  pub nodes : List (List Node)
  pub whole : Appended b.sectors b.sector_size image b.first p.held (p.free - record_len n) b.records.items n nodes p.sector p.offset
  pub layout : (r : Room) → IsPlace r (record_len n) b p
      → layout_of b.sector_size (sectors_in b.sectors b.sector_size (replaced (p.sector * b.sector_size + p.offset) (spelling n) image)) ≡ put b.sector_size r n (layout_in image b)
  pub cut : (new : List ℕ) → IsWritten (p.sector * b.sector_size + p.offset) n image new → Cut b.sectors b.sector_size image new n p.sector p.offset

module _ (b : LogIndex) (image : List ℕ) (h : IsLogIndex image b) (n : Node) (lawful : is_lawful n ≡ true) (short : record_len n ≤ b.sector_size / 4) where
  may_write : (sector offset : ℕ) → IsReady b.sectors b.sector_size image sector offset (record_len n) → MayWrite (sector * b.sector_size + offset) n image
  may_write sector offset there =
      let small = (sizes_small b.sectors b.sector_size h.sizes).1 in
      record {
        lawful = lawful;
        short = omega arith;
        free = record { inside = there.inside; erased = there.erased };
        small = omega (arith, there.short);
      }

  free_is : (r : Room) → leb (tail_need r (record_len n)) (layout_in image b).free ≡ leb (tail_need r (record_len n)) b.free
  free_is r = ap (leb (tail_need r (record_len n))) (described_free _ _ _ _ _ _ _ _ _ h)

  -- where a record is put into the tail, that has room for it
  tail_alone : (r : Room) → IsPlace r (record_len n) b (end_of_tail b) → tail_need r (record_len n) ≤ b.free
  tail_alone r is = elim (cases_lt b.free (tail_need r (record_len n))) [
    | inl less ↦ let more = ap (λ (p : Place). p.held) (is.in_next less).start in absurd (omega arith)
    | inr need ↦ need
  ]

  next_alone : (r : Room) (next : ℕ) → IsPlace r (record_len n) b (start_of next b) → b.free < tail_need r (record_len n)
  next_alone r next is = elim (cases_lt b.free (tail_need r (record_len n))) [
    | inl less ↦ less
    | inr need ↦ let more = ap (λ (p : Place). p.held) (is.in_tail need) in absurd (omega arith)
  ]

  -- the records of the tail and this one are no longer than a sector
  end_inside : record_len n ≤ b.free → (b.free ≡ 0) ⊎ HasTail b.sectors b.sector_size image h.held b.tail b.used b.free → b.used + record_len n ≤ b.sector_size
  end_inside fits (inl none) = let long = record_long n in absurd (omega arith)
  end_inside fits (inr t) =
      let whole = room_is b.sectors b.sector_size image t.last.0 t.nodes b.free t.opened in
      let used = t.filled in
      omega arith

  at_tail : fits_rest n.kind (dsize n) (b.sector_size / 4) b.free ≡ true → PutsAt b image n (end_of_tail b)
  at_tail fits =
      let all = tail_appended _ _ _ _ _ _ _ _ _ n h lawful fits in
      record {
        may = may_write b.tail b.used (tail_ready _ _ _ _ _ _ _ _ _ n h lawful fits);
        fits = rest_fits n.kind (dsize n) (b.sector_size / 4) b.free fits;
        inside = end_inside (rest_fits n.kind (dsize n) (b.sector_size / 4) b.free fits) h.room;
        nodes = in_last n (logged b.sectors b.sector_size image);
        whole = all;
        layout = λ r is.
            layout_tail _ _ _ _ _ _ _ _ _ _ _ _ _ n h all.0 all.2
            ∙ sym (put_in_tail b.sector_size r n (layout_in image b) (free_is r ∙ le-leb (tail_need r (record_len n)) b.free (tail_alone r is)));
        cut = tail_cut _ _ _ _ _ _ _ _ _ n h lawful fits;
      }

  at_next : (next : ℕ) → IsAt b.first b.sectors b.held next → b.held + 2 ≤ b.sectors → PutsAt b image n (start_of next b)
  at_next next at room =
      let fits = next_fits n b.sector_size short in
      let all = next_appended _ _ _ _ _ _ _ _ next _ n h room at lawful fits in
      record {
        may = may_write next 0 (next_ready _ _ _ _ _ _ _ _ next _ n h room at lawful fits);
        fits = rest_fits n.kind (dsize n) (b.sector_size / 4) b.sector_size fits;
        inside = omega (arith, short);
        nodes = logged b.sectors b.sector_size image ++ (n ∷ []) ∷ [];
        whole = all;
        layout = λ r is.
            layout_next _ _ _ _ _ _ _ _ _ _ _ _ _ n h all.0 all.2
            ∙ sym (put_in_next b.sector_size r n (layout_in image b) (free_is r ∙ lt-leb (tail_need r (record_len n)) b.free (next_alone r next is)));
        cut = next_cut _ _ _ _ _ _ _ _ next _ n h room at lawful fits;
      }

pub puts : (s : LogState) (n : Node) (p : Place) → IsLogIndex s.device.image s.index → MayAppendAt p n s → PutsAt s.index s.device.image n p
puts s n p h here =
    let b = s.index in
    let may = here.may in
    let need = tail_need here.room (record_len n) in
    elim (cases_lt b.free need) [
      | inl less ↦ let at = here.is_place.in_next less in
          subst (PutsAt b s.device.image n) (sym at.start) (at_next b s.device.image h n may.lawful may.short p.sector at.next
          (two_erased here.room (record_len n) b.free b.sectors b.held (sym (described_room _ _ _ _ _ _ _ _ _ h here.room (record_len n)) ∙ may.has_room) less))
      | inr enough ↦ subst (PutsAt b s.device.image n) (sym (here.is_place.in_tail enough)) (at_tail b s.device.image h n may.lawful may.short
          (tail_fits here.room n b.free b.sector_size may.lawful may.unmounts may.short enough))
    ]

-- the index with the record
pub index_after : (b : LogIndex) (old new : List ℕ) (n : Node) (p : Place) → PutsAt b old n p → new ≡ replaced (p.sector * b.sector_size + p.offset) (spelling n) old → (len size : ℕ) (items : List RecordRef) → len ≡ record_len n → size ≡ dsize n
    → items ≡ b.records.items ++ record { version = n.version; inode = n.inode; data_offset = n.offset; data_len = size; length = len; sector = p.sector; offset = p.offset } ∷ []
    → Describes b.sectors b.sector_size new b.first p.held p.sector (p.offset + len) (p.free - len) items
index_after b old new n p made written len size items is sized e =
    let listed : items ≡ b.records.items ++ ref_of (placed_at p.sector p.offset n) ∷ [] =
    e ∙ ap (λ (k : ℕ). b.records.items ++ record { version = n.version; inode = n.inode; data_offset = n.offset; data_len = size; length = k; sector = p.sector; offset = p.offset } ∷ []) is ∙ ap (λ (k : ℕ). b.records.items ++ record { version = n.version; inode = n.inode; data_offset = n.offset; data_len = k; length = record_len n; sector = p.sector; offset = p.offset } ∷ []) sized in
    subst (λ (xs : List ℕ). Describes b.sectors b.sector_size xs b.first p.held p.sector (p.offset + len) (p.free - len) items) (sym written)
    (subst (λ (k : ℕ). Describes b.sectors b.sector_size (replaced (p.sector * b.sector_size + p.offset) (spelling n) old) b.first p.held p.sector (p.offset + k) (p.free - k) items) (sym is)
    (subst (λ (rs : List RecordRef). Describes b.sectors b.sector_size (replaced (p.sector * b.sector_size + p.offset) (spelling n) old) b.first p.held p.sector (p.offset + record_len n) (p.free - record_len n) rs) (sym listed) made.whole.0))
