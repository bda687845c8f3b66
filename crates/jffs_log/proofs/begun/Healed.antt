-- Healing finds the tree of the log whose oldest sector was being erased.
use Rattle.std.proofs.Common.{◌≡◌, ◌≢◌, inl, inr, ℕ, ◌+◌, ◌*◌, ◌<◌, ◌≤◌, Bool, true, false, not, ◌&&◌, eqb, List, [], ◌∷◌, ◌++◌, length, take, flat_map, replicate, reverse, set, get_or, Option, Some, None, Result, Ok, Err, refl, sym, ap, subst, ◌∙◌, arith}
use Rattle.std.specs.Prelude.{bytes_eq, is_ok}
use Rattle.std.specs.Option.{option_map_or}
use Rattle.std.specs.List.{AllByRecursion}
use Rattle.std.proofs.lemmas.Bool.{cases_Bool, cases_eq, eq-eqb, ne_eqb}
use Rattle.std.proofs.lemmas.List.{reverse-append, length-replicate}
use Rattle.jffs_node.specs.declared.node.Node.{Node}
use Rattle.jffs_node.specs.Record.{magic}
use Rattle.jffs_node.specs.Reading.{reading, is_erased}
use Rattle.jffs_node.specs.declared.read.Why.TheVariants.{Magic}
use Rattle.jffs_flash.specs.Image.{replaced, erased, erased_byte}
use Rattle.jffs_flash.proofs.Replaced.{replaced_over}
use Rattle.jffs_tree.specs.Origin.{tree_of, is_live}
use Rattle.jffs_tree.specs.Check.{makes_tree}
use Rattle.jffs_tree.specs.Laws.{NoneLive}
use Rattle.jffs_tree.proofs.states.Rules.{erasing_keeps_rules}
use Rattle.jffs_log.specs.declared.scanning.ScanWhy.{ScanWhy}
use Rattle.jffs_log.specs.declared.scanning.ScanWhy.TheVariants.{BadRecord}
use Rattle.jffs_log.specs.Image.{Sector, Placed, sector_of, placed_from, records_in, log_of, nodes_of, past_of}
use Rattle.jffs_log.specs.Volume.{split, sector_bytes, sectors_in}
use Rattle.jffs_log.specs.Live.{IsGoodEnding, live_log}
use Rattle.jffs_log.specs.Scan.{Scanned, first_bad, or_refuse, versions_rise}
use Rattle.jffs_log.specs.Cleaning.{versions_fall}
use Rattle.jffs_log.specs.History.{IsLawfulHistory}
use Rattle.jffs_log.specs.LogIndex.{lives_in, live_in}
use Rattle.jffs_log.specs.Heal.{scan_in, stopped_at, is_damaged, is_last_erased, was_begun, only_if, begun_erase, healed}
use Rattle.jffs_log.specs.Begun.{begins_record, IsFoundDead, IsHealable, FindsTree, ErasesAreHealed, LawfulStay}
use Rattle.jffs_log.specs.Erasable.{MayErase}
use Rattle.jffs_log.proofs.ring.Live.{geometry_passed, rest_of_causes}
use Rattle.jffs_log.proofs.ring.Volume.{length-split, sector_fits}
use Rattle.jffs_log.proofs.append.Open.{get_or-split, length-sectors_in}
use Rattle.jffs_log.proofs.Histories.{histories_are_scanned, dead_as, all_turned}
use Rattle.jffs_log.proofs.scans.MountedLog.{IsScan, scan_parts, falls_backwards, nodes_mapped, among_left, among_reversed}
use Rattle.jffs_log.proofs.scans.ReadOnce.{sizes_long}
use Rattle.jffs_log.proofs.begun.Emptied.{Oldest, oldest, all_dead, ring_other, log_other, history_without, history_erased, last_erased, sectors_half, sector_half}
use Rattle.jffs_log.proofs.ring.Sectors.{all_among}
use Rattle.jffs_log.specs.RoomLaws.{Among}
use Rattle.jffs_log.proofs.begun.Found.{is_begun}
use Rattle.jffs_log.proofs.begun.Sector.{open_good, not_blank, bad_reading, bad_set}

-- What a scan takes is left as it is.
pub as_found : (count len : ℕ) (image : List ℕ) (scanned : Scanned) → scan_in count len image ≡ Ok scanned → healed count len image ≡ image
as_found count len image scanned is =
    ap (λ (r : Result Scanned ScanWhy). option_map_or (λ k. erased len k image) (only_if (was_begun count len image) (stopped_at r)) image) is

pub lawful_stay : LawfulStay
lawful_stay count len image past h = as_found count len image _ (histories_are_scanned count len image past h)

found_as : (count len : ℕ) (image : List ℕ) (past : List Node) (scanned : Scanned) → scan_in count len image ≡ Ok scanned → scanned.tree ≡ tree_of past → FindsTree (tree_of past) count len (healed count len image)
found_as count len image past scanned is tree =
    subst (FindsTree (tree_of past) count len) (sym (as_found count len image scanned is)) (record { scanned = scanned; found = is; tree_is = tree })

pub lawful_found : (count len : ℕ) (image : List ℕ) (past : List Node) → IsLawfulHistory count len image past → FindsTree (tree_of past) count len (healed count len image)
lawful_found count len image past h = found_as count len image past _ (histories_are_scanned count len image past h) refl

module _ (count len : ℕ) (old : List ℕ) (past : List Node) (k : ℕ) (may : MayErase count len old past k) (left : List ℕ) (all : length left ≡ len) where
  abbrev cut : List ℕ
  cut = replaced (k * len) left old

  abbrev sectors : List Sector
  sectors = sectors_in count len old

  place : Oldest count len old past k
  place = oldest count len old past k may

  long : 64 ≤ length left
  long = let z = sizes_long count len may.history.sizes in omega arith

  changed : sectors_in count len cut ≡ set sectors k (sector_of left)
  changed = sectors_half count len old past k may place left all

  -- once the sector is erased the log goes on without it
  erased_same : erased len k cut ≡ erased len k old
  erased_same =
      let fits = sector_fits count len k place.below in
      let whole = may.whole in
      let ones : length {A = ℕ} (replicate len erased_byte) ≡ len = length-replicate len erased_byte in
      replaced_over (k * len) left (replicate len erased_byte) old (omega arith) (omega arith)

  history_after : IsLawfulHistory count len (erased len k cut) past
  history_after = subst (λ (xs : List ℕ). IsLawfulHistory count len xs past) (sym erased_same) (history_erased count len old past k may place).0

  last_after : is_last_erased k (sectors_in count len (erased len k cut)) ≡ true
  last_after = ap (λ (xs : List ℕ). is_last_erased k (sectors_in count len xs)) erased_same ∙ last_erased count len old past k may place

  -- The gate is open.
  pub open_found : get_or left 7 0 ≢ 0 → FindsTree (tree_of past) count len (healed count len cut)
  open_found open_gate =
      let good = open_good left open_gate in
      lawful_found count len cut past (history_without count len old past k may place cut (sector_of left) changed good.0 good.1).0

  -- It is closed, and the magic is wrong.
  stops : get_or left 7 0 ≡ 0 → bytes_eq (take 4 left) magic ≡ false → scan_in count len cut ≡ Err (BadRecord k 0 Magic)
  stops closed wrong =
      let many = length-sectors_in count len old in
      let below = place.below in
      let bad = bad_set 0 k sectors (sector_of left) may.history.readable.sound (omega arith) (bad_reading left long closed wrong) in
      let at : 0 + k ≡ k = omega arith in
      geometry_passed count len cut may.history.sizes
      ∙ ap (λ (ss : List Sector). or_refuse (first_bad 0 ss) (rest_of_causes (sectors_in count len cut))) changed
      ∙ ap (λ (w : Option ScanWhy). or_refuse w (rest_of_causes (sectors_in count len cut))) (bad ∙ ap (λ (j : ℕ). Some (BadRecord j 0 Magic)) at)

  pub closed_found : get_or left 7 0 ≡ 0 → bytes_eq (take 4 left) magic ≡ false → is_damaged count len cut k ≡ false → FindsTree (tree_of past) count len (healed count len cut)
  closed_found closed wrong sound =
      let answer = histories_are_scanned count len (erased len k cut) past history_after in
      let begun : was_begun count len cut k ≡ true = λ i. not (sound i) && is_ok (answer i) && last_after i in
      let is = is_begun count len k cut (BadRecord k 0 Magic) (stops closed wrong) refl begun in
      let same : healed count len cut ≡ erased len k cut = ap (λ (w : Option ℕ). option_map_or (λ j. erased len j cut) w cut) is in
      subst (FindsTree (tree_of past) count len) (sym same) (record { scanned = _; found = answer; tree_is = refl })

  -- It is closed, the magic is right, and what stands there is dead.
  pub record_found : get_or left 7 0 ≡ 0 → IsFoundDead count len cut k → FindsTree (tree_of past) count len (healed count len cut)
  record_found closed found = found_as count len cut past found.scanned found.found (sym parts.made ∙ tree)
    where
      parts : IsScan len (split count len cut) found.scanned
      parts = scan_parts len (split count len cut) found.scanned found.found

      here : List Placed
      here = placed_from k 0 (reading left).nodes

      others : List Placed
      others = flat_map records_in place.rest

      log : live_log count len cut ≡ here ++ others
      log = ap log_of changed ∙ log_other count len old past k may place (sector_of left) (not_blank left long closed)

      joined : past_of (here ++ others) ≡ past_of others ++ past_of here
      joined = ap (λ (xs : List Node). reverse xs) (nodes_mapped here others) ∙ reverse-append (nodes_of here) (nodes_of others)

      falls : versions_fall (past_of (here ++ others)) ≡ true
      falls = falls_backwards (nodes_of (here ++ others)) (ap (λ (xs : List Placed). versions_rise (nodes_of xs)) (sym log) ∙ parts.rise)

      dead : NoneLive (past_of others ++ past_of here) (past_of here)
      dead =
          let tree = tree_of (past_of (here ++ others)) in
          let none : live_in k tree (here ++ others) ≡ 0 = (λ i. live_in k ((ap (λ (xs : List Placed). tree_of (past_of xs)) (sym log) ∙ parts.made) i) ((sym log ∙ parts.log) i)) ∙ found.dead in
          let known = all_among (λ m. Among m (past_of (here ++ others))) (nodes_of here) (λ n a. among_reversed n (nodes_of (here ++ others)) (subst (Among n) (sym (nodes_mapped here others)) (among_left n (nodes_of here) (nodes_of others) a))) in
          let each = (dead_as (past_of (here ++ others)) here falls known).0 (all_dead k 0 tree (reading left).nodes others none) in
          subst (λ (p : List Node). NoneLive p (past_of here)) joined (all_turned (λ n. is_live (past_of (here ++ others)) n.version ≡ false) (nodes_of here) each)

      tree : tree_of (past_of (live_log count len cut)) ≡ tree_of past
      tree =
          let rules = ap makes_tree (sym joined) ∙ ap (λ (xs : List Placed). makes_tree (past_of xs)) (sym log) ∙ parts.tree in
          let without = scan_parts len (split count len (erased len k old)) _ (histories_are_scanned count len (erased len k old) past (history_erased count len old past k may place).0) in
          ap (λ (xs : List Placed). tree_of (past_of xs)) log
          ∙ ap tree_of joined
          ∙ sym (erasing_keeps_rules (past_of others) (past_of here) dead rules).0
          ∙ ap (λ (xs : List Placed). tree_of (past_of xs)) (sym (history_erased count len old past k may place).1)
          ∙ without.made

pub erases_are_healed : ErasesAreHealed
erases_are_healed count len old new past k may half healable =
    subst (λ (image : List ℕ). FindsTree (tree_of past) count len (healed count len image)) (sym half.rest) (
    elim (cases_eq (get_or left 7 0) 0) [
      | inr open_gate ↦ open_found count len old past k may left half.long open_gate
      | inl closed ↦ elim (cases_Bool (bytes_eq (take 4 left) magic)) [
        | inl right ↦ record_found count len old past k may left half.long closed (subst (λ (image : List ℕ). IsFoundDead count len image k) half.rest (healable.as_record (begins ∙ (λ i. eq-eqb (get_or left 7 0) 0 closed i && right i))))
        | inr wrong ↦ closed_found count len old past k may left half.long closed wrong (ap (λ (image : List ℕ). is_damaged count len image k) (sym half.rest) ∙ healable.otherwise (begins ∙ (λ i. eq-eqb (get_or left 7 0) 0 closed i && wrong i)))
      ]
    ])
  where
    left : List ℕ
    left = half.left

    bytes : sector_bytes len k new ≡ left
    bytes = ap (sector_bytes len k) half.rest ∙ sector_half count len old past k may (oldest count len old past k may) left half.long

    begins : begins_record (sector_bytes len k new) ≡ (eqb (get_or left 7 0) 0 && bytes_eq (take 4 left) magic)
    begins = ap begins_record bytes
