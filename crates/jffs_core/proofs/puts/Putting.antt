-- One node more: what the core knows then.
use Rattle.std.proofs.Common.{◌≡◌, inr, ℕ, ◌+◌, ◌<◌, ◌≤◌, ◌/◌, ◌==◌, Bool, true, ◌&&◌, List, [], ◌∷◌, max, refl, sym, ap, subst, ◌∙◌, arith}
use Rattle.std.specs.List.{list_all, AllByRecursion}
use Rattle.std.proofs.Math.Nat.{max_comm}
use Rattle.std.proofs.lemmas.Bool.{and_parts, and_from}
use Rattle.jffs_node.specs.declared.node.Node.{Node}
use Rattle.jffs_node.specs.Record.{record_len, dsize, is_lawful, is_unmount}
use Rattle.jffs_inodes.specs.Inodes.{Tree, keeps_offsets_in}
use Rattle.jffs_tree.specs.Origin.{tree_of}
use Rattle.jffs_tree.specs.Check.{each_fits, check}
use Rattle.jffs_tree.specs.declared.wish.Limits.{Limits}
use Rattle.jffs_tree.proofs.states.Entries.{fits_parts}
use Rattle.jffs_tree.proofs.trees.Tested.{trees_test_as_nodes}
use Rattle.jffs_log.specs.declared.log_index.LogIndex.{LogIndex}
use Rattle.jffs_log.specs.declared.room.Room.{Room}
use Rattle.jffs_log.specs.declared.room.Room.TheVariants as rooms
use Rattle.jffs_flash.specs.Device.{Device as FlashDevice}
use Rattle.jffs_log.specs.declared.place.Place.{Place}
use Rattle.jffs_log.specs.Place.{IsPlace}
use Rattle.jffs_log.specs.LogState.{LogState, IsSameLog, MayAppendAt, Appended}
use Rattle.jffs_log.specs.Room.{has_room, following, greatest_inode, next_inode, limits as limits_of}
use Rattle.jffs_log.specs.LogIndex.{HasSizes, IsLogIndex, IsSameLogIndex, layout_in}
use Rattle.jffs_log.specs.Cleaning.{Layout, put, is_history, versions_fall, keeps_length}
use Rattle.jffs_log.specs.RoomLaws.{IsSound, suits_room}
use Rattle.jffs_log.specs.History.{IsHistory, IsLawfulHistory, KeepsRules}
use Rattle.jffs_log.proofs.scans.MountedLog.{lawful_keeps}
use Rattle.jffs_log.proofs.rooms.Bound.{puts_keep_sound}
use Rattle.jffs_tree.specs.declared.wish.Cause.{Cause}
use Rattle.jffs_tree.specs.declared.wish.Cause.TheVariants.{NoSpace, Device}
use Rattle.jffs_core.specs.CoreState.{CoreState}
use Rattle.jffs_core.specs.Past.{IsPast, HasLogIndex, RepresentsWorking, is_clean_in, HasFailed}
use Rattle.jffs_core.specs.Appending.{MayPut, PutRefused}

-- Nodes that keep the rules never move a byte.
pub keeps_all_lengths : (past : List Node) → AllByRecursion (λ n. is_lawful n ≡ true) past → list_all keeps_length past ≡ true
keeps_all_lengths [] h = refl
keeps_all_lengths (n ∷ past) h = and_from (keeps_length n) (list_all keeps_length past) (lawful_keeps n h.0) (keeps_all_lengths past h.1)

pub rules_history : (past : List Node) → KeepsRules past → is_history past ≡ true
rules_history past h =
    let fits = (and_parts (each_fits past) (check (tree_of past)) h.lawful.tree).0 in
    and_from (each_fits past && versions_fall past) (list_all keeps_length past)
    (and_from (each_fits past) (versions_fall past) fits h.falls)
    (keeps_all_lengths past h.lawful.each)

-- The tree takes the node.
pub offsets_kept : (past : List Node) (n : Node) (tree : Tree) → tree ≡ tree_of past → KeepsRules (n ∷ past) → keeps_offsets_in tree n ≡ true
offsets_kept past n tree is h =
    let fits = fits_parts n past (and_parts (each_fits (n ∷ past)) (check (tree_of (n ∷ past))) h.lawful.tree).0 in
    ap (λ t. keeps_offsets_in t n) is ∙ (trees_test_as_nodes past n h.lawful.each.0).1 ∙ fits.2

-- The numbers that come next.
pub counted : (z : ℕ) (past : List Node) (n : Node) (old new : Limits) → old ≡ limits_of z past → new.data_max ≡ old.data_max → new.next_version ≡ following n.version
    → ((most : ℕ) → old.next_inode ≡ following most → new.next_inode ≡ following (max most n.inode)) → new ≡ limits_of z (n ∷ past)
counted z past n old new is data_max version inode =
    let most = greatest_inode past in
    let numbers : new.next_inode ≡ next_inode (n ∷ past) = inode most (ap (λ (l : Limits). l.next_inode) is) ∙ ap following (max_comm most n.inode) in
    let most_data : new.data_max ≡ (limits_of z past).data_max = data_max ∙ ap (λ (l : Limits). l.data_max) is in
    λ i. record { data_max = most_data i; next_inode = numbers i; next_version = version i }

-- The same history and log by an index that is the same but for capacity.
pub same_history : (image : List ℕ) (b c : LogIndex) (past : List Node) → b.sectors ≡ c.sectors → b.sector_size ≡ c.sector_size → IsHistory image b past → IsHistory image c past
same_history image b c past sectors size h = subst (λ k. IsLawfulHistory c.sectors k image past) size (subst (λ k. IsLawfulHistory k b.sector_size image past) sectors h)

pub same_layout : (image : List ℕ) (b c : LogIndex) → b.sectors ≡ c.sectors → b.sector_size ≡ c.sector_size → layout_in image b ≡ layout_in image c
same_layout image b c sectors size = ap (λ k. layout_in image (record b { sectors = k })) sectors ∙ ap (λ k. layout_in image (record c { sector_size = k })) size

-- A log that is the same but for capacity has the same layout and history.
pub mid_layout : (old mid : LogState) → IsSameLog old mid → layout_in mid.device.image mid.index ≡ layout_in old.device.image old.index
mid_layout old mid same =
    ap (λ (d : FlashDevice). layout_in d.image mid.index) same.device ∙ same_layout old.device.image mid.index old.index same.index.sectors same.index.sector_size

pub mid_history : (past : List Node) (old mid : LogState) → IsSameLog old mid → IsHistory old.device.image old.index past → IsHistory mid.device.image mid.index past
mid_history past old mid same h =
    subst (λ (d : FlashDevice). IsHistory d.image mid.index past) (sym same.device) (same_history old.device.image old.index mid.index past (sym same.index.sectors) (sym same.index.sector_size) h)

-- What the core represented before memory was reserved, it represents then.
pub mid_index :
    (old mid : LogState) (tree : Tree) (limits : Limits) (clean : Bool) → IsSameLog old mid
    → HasLogIndex old.failed old.device.sectors old.device.sector_size old.device.image old.index tree limits clean
    → HasLogIndex mid.failed mid.device.sectors mid.device.sector_size mid.device.image mid.index tree limits clean
mid_index old mid tree limits clean same h = record {
  sizes = (
    ap (λ (d : FlashDevice). d.sectors) same.device ∙ h.sizes.0 ∙ sym same.index.sectors,
    ap (λ (d : FlashDevice). d.sector_size) same.device ∙ h.sizes.1 ∙ sym same.index.sector_size,
  );
  index = λ works. described (h.index (sym same.failed ∙ works));
  past = λ works. let known = h.past (sym same.failed ∙ works) in (known.0, past_is known.0 known.1);
}
  where
    image : mid.device.image ≡ old.device.image
    image = ap (λ (d : FlashDevice). d.image) same.device

    described : IsLogIndex old.device.image old.index → IsLogIndex mid.device.image mid.index
    described d =
        rw (image, same.index.sectors, same.index.sector_size, same.index.first, same.index.held, same.index.tail, same.index.used, same.index.free, same.index.records) d

    past_is : (past : List Node) → IsPast past old.device.image old.index tree limits clean → IsPast past mid.device.image mid.index tree limits clean
    past_is past p = record {
      history = mid_history past old mid same p.history;
      index = described p.index;
      sound = rw (mid_layout old mid same, same.index.sectors, same.index.sector_size) p.sound;
      tree_is = p.tree_is;
      limits_are = rw same.index.sector_size p.limits_are;
      clean_is = rw (image, same.index.sectors, same.index.sector_size) p.clean_is;
    }

-- A node was put.
module _ (past : List Node) (room : Room) (n : Node) (old new : List ℕ) (b c d : LogIndex) (before after : Tree) (limits next : Limits) (was clean : Bool)
    (h : IsPast past old b before limits was) (may : MayPut past b.sector_size room n) (same : IsSameLogIndex b c) (sizes : HasSizes c.sectors c.sector_size d) where
  pub put_past : has_room room (record_len n) (layout_in old b).free (layout_in old b).erased ≡ true → IsHistory new d (n ∷ past) → IsLogIndex new d → layout_in new d ≡ put c.sector_size room n (layout_in old c) → after ≡ tree_of (n ∷ past)
      → next ≡ limits_of b.sector_size (n ∷ past) → clean ≡ is_clean_in new d → IsPast (n ∷ past) new d after next clean
  put_past had_room history told log tree numbers ends =
      let sound = puts_keep_sound b.sectors b.sector_size room n (record { past = past; log = layout_in old b }) h.sound (rules_history (n ∷ past) may.rules) may.suits may.short had_room in
      let there = put_log log in
      record {
        history = history;
        index = told;
        sound =
            subst (λ k. IsSound d.sectors k (record { past = n ∷ past; log = layout_in new d })) (sym same.sector_size ∙ sizes.1)
            (subst (λ k. IsSound k b.sector_size (record { past = n ∷ past; log = layout_in new d })) (sym same.sectors ∙ sizes.0)
            (subst (λ (l : Layout). IsSound b.sectors b.sector_size (record { past = n ∷ past; log = l })) (sym there) sound));
        tree_is = tree;
        limits_are = numbers ∙ ap (λ k. limits_of k (n ∷ past)) (sym same.sector_size ∙ sizes.1);
        clean_is = ends;
      }
    where
      put_log : layout_in new d ≡ put c.sector_size room n (layout_in old c) → layout_in new d ≡ put b.sector_size room n (layout_in old b)
      put_log e = e ∙ ap (λ k. put k room n (layout_in old c)) same.sector_size ∙ ap (put b.sector_size room n) (same_layout old c b same.sectors same.sector_size)

-- The core knows the history with the node, once its record is in the log.
pub put_known : (past : List Node) (room : Room) (n : Node) (old mid new : LogState) (before after : Tree) (limits next : Limits) (was clean : Bool) → IsPast past old.device.image old.index before limits was
    → MayPut past old.index.sector_size room n → IsSameLog old mid → has_room room (record_len n) (layout_in old.device.image old.index).free (layout_in old.device.image old.index).erased ≡ true
    → Appended room n mid new → after ≡ tree_of (n ∷ past) → next ≡ limits_of old.index.sector_size (n ∷ past) → clean ≡ is_unmount n.kind → IsPast (n ∷ past) new.device.image new.index after next clean
put_known past room n old mid new before after limits next was clean h may same had e tree numbers ends =
    let image : mid.device.image ≡ old.device.image = ap (λ (d : FlashDevice). d.image) same.device in
    put_past past room n old.device.image new.device.image old.index mid.index new.index before after limits next was clean h may same.index e.numbers.sizes had
    (e.history past (mid_history past old mid same h.history) may.rules) e.works.told
    (e.layout_is ∙ ap (λ (xs : List ℕ). put mid.index.sector_size room n (layout_in xs mid.index)) image)
    tree numbers (ends ∙ sym e.clean)

-- the node's record may be put at a place, where it has room
pub may_append : (past : List Node) (room : Room) (n : Node) (p : Place) (old mid : LogState) → MayPut past old.index.sector_size room n → IsSameLog old mid
    → has_room room (record_len n) (layout_in old.device.image old.index).free (layout_in old.device.image old.index).erased ≡ true → IsPlace room (record_len n) mid.index p → MayAppendAt p n mid
may_append past room n p old mid may same had found = record {
  room = room;
  may = record {
    lawful = may.rules.lawful.each.0;
    short = subst (λ k. record_len n ≤ k / 4) (sym same.index.sector_size) may.short;
    has_room = ap (λ (l : Layout). has_room room (record_len n) l.free l.erased) (mid_layout old mid same) ∙ had;
    unmounts = suits room n may.suits;
  };
  is_place = found;
}
  where
    suits : (r : Room) (n : Node) → suits_room r n ≡ true → r ≡ rooms.Unmount → is_unmount n.kind ≡ true
    suits rooms.Fresh n h e = cc
    suits rooms.Copy n h e = cc
    suits rooms.Unmount n h e = (and_parts (is_unmount n.kind) (dsize n == 0) h).0

-- The device failed while a node was put.
pub put_failed : (room : Room) (n : Node) (cause : Cause) (old new : CoreState) → cause ≡ Device → new.failed ≡ true → old.faults < new.faults → ((past : List Node) → RepresentsWorking past old → MayPut past old.index.sector_size room n → HasFailed (λ m. m ≡ n) past new) → new.wear.bytes ≤ old.wear.bytes + (record_len n + 1) → PutRefused room n cause old new
put_failed room n cause old new device fails faults left programs = subst (λ c. PutRefused room n c old new) (sym device) (record {
  stands = λ past known may. record { fails = fails; faults = faults; programs = inr (n, refl, omega (arith, programs)); left = left past known may };
  no_room = λ is. absurd (other is);
  as_it_was = λ is. absurd (other is);
  same = λ is. absurd (is refl);
})
  where
    other : ◌≡◌ {A = Cause} Device NoSpace → ⊥
    other e = cc
