-- The layout of an image, by its index.
use Rattle.std.proofs.Common.{◌≡◌, ℕ, ◌+◌, ◌-◌, ◌≤◌, List, [], ◌∷◌, ◌++◌, Bool, true, false, cond, leb, sym, ap, ◌∙◌, arith}
use Rattle.jffs_node.specs.declared.node.Node.{Node}
use Rattle.jffs_log.specs.declared.log_index.RecordRef.{RecordRef}
use Rattle.jffs_log.specs.Image.{log_sectors}
use Rattle.jffs_log.specs.Volume.{sectors_in}
use Rattle.jffs_log.specs.Cleaning.{Layout, layout_of, in_last, in_tail, in_next, put, erase_oldest}
use Rattle.jffs_log.specs.LogIndex.{Describes}
use Rattle.jffs_log.specs.declared.room.Room.{Room}
use Rattle.jffs_log.specs.Room.{tail_need}
use Rattle.jffs_node.specs.Record.{record_len}
use Rattle.jffs_log.proofs.append.Appended.{logged}
use Rattle.jffs_log.proofs.ring.Ring.{Numbered, nodes_by_sector, ring_lengths}
use Rattle.jffs_log.proofs.append.Open.{length-sectors_in}
use Rattle.jffs_log.proofs.rooms.Rooms.{described_free, described_erased}

pub described_layout : (count len : ℕ) (image : List ℕ) (first many tail used free : ℕ) (records : List RecordRef) → Describes count len image first many tail used free records
    → layout_of len (sectors_in count len image) ≡ record { sectors = nodes_by_sector (log_sectors (sectors_in count len image)); free = free; erased = count - many }
described_layout count len image first many tail used free records h =
    let f = described_free count len image first many tail used free records h in
    let e = described_erased count len image first many tail used free records h in
    λ i. record { sectors = nodes_by_sector (log_sectors (sectors_in count len image)); free = f i; erased = e i }

pub some_erased : (count len : ℕ) (image : List ℕ) (first many tail used free : ℕ) (records : List RecordRef) → Describes count len image first many tail used free records → many + 1 ≤ count
some_erased count len image first many tail used free records h =
    let all = ring_lengths first (sectors_in count len image) h.held h.blank h.ring in
    let m = length-sectors_in count len image in
    let c = h.counted in
    let s = h.ring.some in
    omega arith

-- the oldest sector is erased
pub layout_erased : (count len : ℕ) (old new : List ℕ) (first next many tail used free : ℕ) (records others : List RecordRef) (oldest : Numbered)
    → Describes count len old first many tail used free records → Describes count len new next (many - 1) tail used free others → 2 ≤ many
    → log_sectors (sectors_in count len old) ≡ oldest ∷ log_sectors (sectors_in count len new)
    → layout_of len (sectors_in count len new) ≡ erase_oldest (layout_of len (sectors_in count len old))
layout_erased count len old new first next many tail used free records others oldest h k several sectors =
    let e : count - (many - 1) ≡ (count - many) + 1 = let s = some_erased count len old first many tail used free records h in omega arith in
    described_layout count len new next (many - 1) tail used free others k
    ∙ (λ i. record { sectors = nodes_by_sector (log_sectors (sectors_in count len new)); free = free; erased = e i })
    ∙ ap (λ (xs : List Numbered). erase_oldest (record { sectors = nodes_by_sector xs; free = free; erased = count - many })) (sym sectors)
    ∙ ap erase_oldest (sym (described_layout count len old first many tail used free records h))

-- a record was put into the tail
pub layout_tail : (count len : ℕ) (old new : List ℕ) (first many tail used free next more : ℕ) (records others : List RecordRef) (n : Node)
    → Describes count len old first many tail used free records → Describes count len new first many next more (free - record_len n) others
    → logged count len new ≡ in_last n (logged count len old) → layout_of len (sectors_in count len new) ≡ in_tail n (layout_of len (sectors_in count len old))
layout_tail count len old new first many tail used free next more records others n h k e =
    described_layout count len new first many next more (free - record_len n) others k
    ∙ (λ i. record { sectors = e i; free = free - record_len n; erased = count - many })
    ∙ ap (in_tail n) (sym (described_layout count len old first many tail used free records h))

-- or into the next sector
pub layout_next : (count len : ℕ) (old new : List ℕ) (first many tail used free next more : ℕ) (records others : List RecordRef) (n : Node)
    → Describes count len old first many tail used free records → Describes count len new first (many + 1) next more (len - record_len n) others
    → logged count len new ≡ logged count len old ++ (n ∷ []) ∷ [] → layout_of len (sectors_in count len new) ≡ in_next len n (layout_of len (sectors_in count len old))
layout_next count len old new first many tail used free next more records others n h k e =
    let one : count - (many + 1) ≡ (count - many) - 1 = omega arith in
    described_layout count len new first (many + 1) next more (len - record_len n) others k
    ∙ (λ i. record { sectors = e i; free = len - record_len n; erased = one i })
    ∙ ap (in_next len n) (sym (described_layout count len old first many tail used free records h))

pub put_in_tail : (len : ℕ) (room : Room) (n : Node) (log : Layout) → leb (tail_need room (record_len n)) log.free ≡ true → put len room n log ≡ in_tail n log
put_in_tail len room n log h = ap (λ (t : Bool). cond t (in_tail n log) (in_next len n log)) h

pub put_in_next : (len : ℕ) (room : Room) (n : Node) (log : Layout) → leb (tail_need room (record_len n)) log.free ≡ false → put len room n log ≡ in_next len n log
put_in_next len room n log h = ap (λ (t : Bool). cond t (in_tail n log) (in_next len n log)) h
