-- What a scan found is a history that the core knows.
use Rattle.std.proofs.Common.{◌≡◌, ℕ, zero, suc, ◌*◌, ◌<◌, Bool, true, false, List, [], ◌∷◌, ◌++◌, length, get_or, drop, flat_map, None, sym, ap, subst, ◌∙◌, arith, length-drop, reverse}
use Rattle.std.specs.List.{AllByRecursion, last_or}
use Rattle.std.proofs.lemmas.List.{length-take-le, append-nil}
use Rattle.std.proofs.lemmas.Bool.{and_parts, both_ways}
use Rattle.jffs_node.specs.declared.node.Node.{Node}
use Rattle.jffs_inodes.specs.Inodes.{Tree}
use Rattle.jffs_tree.specs.Origin.{tree_of}
use Rattle.jffs_tree.specs.declared.wish.Limits.{Limits}
use Rattle.jffs_log.specs.declared.log_index.LogIndex.{LogIndex}
use Rattle.jffs_log.specs.Image.{records_in, log_sectors, nodes_of, past_of, is_free, is_clean, is_clean_tail, ends_with_unmount as log_ends}
use Rattle.jffs_log.specs.Volume.{split, sectors_in}
use Rattle.jffs_log.specs.Scan.{Scanned}
use Rattle.jffs_log.specs.LogState.{LogState}
use Rattle.jffs_log.specs.ScanFound.{IsFound, IsMounted}
use Rattle.jffs_log.specs.Live.{live_log}
use Rattle.jffs_log.specs.LogIndex.{log_in, layout_in}
use Rattle.jffs_log.specs.RoomLaws.{IsSound}
use Rattle.jffs_log.proofs.append.Appended.{described_inside}
use Rattle.jffs_log.proofs.ring.Ring.{Numbered}
use Rattle.jffs_log.proofs.ring.Volume.{length-split}
use Rattle.jffs_log.proofs.scans.MountedLog.{mounts_are_sound, ok_same, nodes_mapped, placed_nodes}
use Rattle.jffs_log.proofs.scans.MountHistory.{mounts_are_histories}
use Rattle.jffs_log.proofs.Histories.{histories_are_scanned, turned_round}
use Rattle.jffs_core.specs.CoreState.{CoreState}
use Rattle.jffs_core.specs.Step.{newest_is_unmount}
use Rattle.jffs_flash.specs.Device.{Device}
use Rattle.jffs_core.specs.Past.{IsPast, HasLogIndex, IsFresh, IsLeftBy}
use Rattle.jffs_core.proofs.answers.Contents.{no_growth}

abbrev pub Bytes : List ℕ → Type 0
Bytes xs = (i : ℕ) → get_or xs i 0 < 256

whole_sectors : (count len : ℕ) (image : List ℕ) → length image ≡ count * len → AllByRecursion Bytes (split count len image) → AllByRecursion (λ xs. (length xs ≡ len) × Bytes xs) (split count len image)
whole_sectors zero len image whole h = tt
whole_sectors (suc more) len image whole h =
    let d = length-drop len image in
    ((length-take-le len image (omega arith), h.0), whole_sectors more len (drop len image) (omega arith) h.1)

pub found_past : (image : List ℕ) (b : LogIndex) (tree : Tree) (clean : Bool) (limits : Limits) → IsFound b.sectors b.sector_size image b tree clean limits → IsPast (past_of (log_in image b)) image b tree limits clean
found_past image b tree clean limits h =
    let count = b.sectors in
    let len = b.sector_size in
    let scanned : Scanned = record { log = log_in image b; tree = tree; clean = clean } in
    let past = past_of (log_in image b) in
    let history = mounts_are_histories count len image scanned h.bytes h.answer in
    let again : Scanned = record { log = live_log count len image; tree = tree_of past; clean = is_clean (sectors_in count len image) } in
    let same = ok_same scanned again (sym h.answer ∙ histories_are_scanned count len image past history) in
    let sound = mounts_are_sound len (split count len image) scanned (whole_sectors count len image h.index.whole h.bytes) h.answer in
    record {
      history = history;
      index = h.index;
      sound = subst (λ k. IsSound k len (record { past = past; log = layout_in image b })) (length-split count len image) sound;
      tree_is = ap (λ (s : Scanned). s.tree) same;
      limits_are = h.limits_are;
      clean_is = ap (λ (s : Scanned). s.clean) same;
    }

by_index : (count len : ℕ) (image : List ℕ) (b : LogIndex) (tree : Tree) (clean : Bool) (limits : Limits) → IsFound count len image b tree clean limits → IsFound b.sectors b.sector_size image b tree clean limits
by_index count len image b tree clean limits h =
    subst (λ k. IsFound b.sectors k image b tree clean limits) h.sizes.1 (subst (λ k. IsFound k len image b tree clean limits) h.sizes.0 h)

pub found_index : (device : Device) (log : LogState) (tree : Tree) (clean : Bool) (limits : Limits) → IsMounted device log tree clean limits
    → HasLogIndex log.failed log.device.sectors log.device.sector_size log.device.image log.index tree limits clean
found_index device log tree clean limits m =
    let h = subst (λ (d : Device). IsFound d.sectors d.sector_size d.image log.index tree clean limits) (sym m.device_is) m.found in
    record {
      sizes = h.sizes;
      index = λ works. h.index;
      past = λ works. (past_of (log_in log.device.image log.index), found_past log.device.image log.index tree clean limits (by_index log.device.sectors log.device.sector_size log.device.image log.index tree clean limits h));
    }

pub found_fresh : (device : Device) (c : CoreState) → IsFound device.sectors device.sector_size device.image c.index c.tree c.clean c.limits → IsLeftBy c device
    → c.failed ≡ false → c.erase_failed ≡ false → c.closed ≡ false → c.answers ≡ [] → IsFresh device c
found_fresh device c h left works no_erase_failed not_closed none =
    let past = past_of (log_in device.image c.index) in
    record {
      scanned = record { log = log_in device.image c.index; tree = c.tree; clean = c.clean };
      found = h.answer;
      stands = record {
        grown = no_growth past;
        stands = record {
          working = λ w. subst (λ (xs : List ℕ). IsPast past xs c.index c.tree c.limits c.clean) left.image_is (found_past device.image c.index c.tree c.clean c.limits (by_index device.sectors device.sector_size device.image c.index c.tree c.clean c.limits h));
          broken = λ f. absurd (both_ways c.failed works f);
        };
      };
      device_is = left;
      begins = (described_inside _ _ _ _ _ _ _ _ _ h.index).0;
      erases = h.erases;
      works = works;
      no_erase_failed = no_erase_failed;
      not_closed = not_closed;
      no_answers = none;
    }

-- A clean log ends with an unmount node, and so does its history.
ends_more : (xs ys : List Node) → log_ends ys ≡ true → log_ends (xs ++ ys) ≡ true
ends_more [] ys h = h
ends_more (x ∷ []) [] h = cc
ends_more (x ∷ []) (y ∷ ys) h = h
ends_more (x ∷ z ∷ xs) ys h = ends_more (z ∷ xs) ys h

clean_log : (held : List Numbered) → is_clean_tail (last_or None held) ≡ true → log_ends (nodes_of (flat_map records_in held)) ≡ true
clean_log [] h = cc
clean_log (s ∷ []) h =
    let both = and_parts (log_ends s.1.reading.nodes) (is_free s.1.reading.ending) h in
    ap log_ends (ap nodes_of (append-nil (records_in s)) ∙ placed_nodes s.0 0 s.1.reading.nodes) ∙ both.0
clean_log (s ∷ t ∷ held) h =
    ap log_ends (nodes_mapped (records_in s) (flat_map records_in (t ∷ held)))
    ∙ ends_more (nodes_of (records_in s)) (nodes_of (flat_map records_in (t ∷ held))) (clean_log (t ∷ held) h)

ends_turned : (nodes gone : List Node) → log_ends nodes ≡ true → newest_is_unmount (reverse nodes ++ gone) ≡ true
ends_turned [] gone h = cc
ends_turned (n ∷ []) gone h = ap newest_is_unmount (turned_round n [] gone) ∙ h
ends_turned (n ∷ m ∷ nodes) gone h = ap newest_is_unmount (turned_round n (m ∷ nodes) gone) ∙ ends_turned (m ∷ nodes) (n ∷ gone) h

pub clean_ends : (past : List Node) (image : List ℕ) (b : LogIndex) (tree : Tree) (limits : Limits) (clean : Bool) → IsPast past image b tree limits clean → clean ≡ true → newest_is_unmount past ≡ true
clean_ends past image b tree limits clean h is =
    ap newest_is_unmount h.history.front
    ∙ ends_turned (nodes_of (live_log b.sectors b.sector_size image)) h.history.gone (clean_log (log_sectors (sectors_in b.sectors b.sector_size image)) (sym h.clean_is ∙ is))
