-- While it is doomed a sector is healable, and what is cut off again is as what was cut off once.
use Rattle.std.proofs.Common.{cond, ◌≡◌, ◌≢◌, inl, inr, ℕ, ◌+◌, ◌*◌, ◌<◌, ◌≤◌, Bool, true, false, not, ◌&&◌, ltb, eqb, List, [], ◌∷◌, ◌++◌, length, take, drop, flat_map, set, get_or, Result, Ok, refl, sym, ap, subst, ◌∙◌, arith}
use Rattle.std.specs.Prelude.{bytes_eq}
use Rattle.std.specs.Int.Bits.{bit_and}
use Rattle.std.specs.List.{AllByRecursion}
use Rattle.std.proofs.Math.Seq.{take-append_seam}
use Rattle.std.proofs.lemmas.Bool.{cases_eq, eq-eqb, ne_eqb, and_parts}
use Rattle.std.proofs.lemmas.Nat.{and_assoc}
use Rattle.std.proofs.lemmas.List.{get_or-append-add, get_or-drop, take-take}
use Rattle.std.proofs.lemmas.Slice.Eq.{bytes_eq-Decides}
use Rattle.jffs_node.specs.declared.node.Node.{Node}
use Rattle.jffs_node.specs.Record.{magic}
use Rattle.jffs_node.specs.Reading.{reading}
use Rattle.jffs_node.proofs.Each.{each_at}
use Rattle.jffs_flash.specs.Dooming.{doom}
use Rattle.jffs_flash.specs.Image.{window, replaced, IsBetween, AreBetween, IsHalfProgrammed}
use Rattle.jffs_flash.proofs.Dooms.{between_long}
use Rattle.jffs_flash.proofs.Replaced.{replaced_over, replaced_same, window-replaced}
use Rattle.jffs_tree.specs.Origin.{tree_of}
use Rattle.jffs_log.specs.Image.{Sector, Placed, sector_of, is_clean}
use Rattle.jffs_log.specs.Volume.{sector_bytes, sectors_in}
use Rattle.jffs_log.specs.Live.{IsGoodEnding, live_log}
use Rattle.jffs_log.specs.Scan.{Scanned}
use Rattle.jffs_log.specs.declared.scanning.ScanWhy.{ScanWhy}
use Rattle.jffs_log.specs.LogIndex.{live_in}
use Rattle.jffs_log.specs.Shown.{restored}
use Rattle.jffs_log.specs.Heal.{scan_in, is_cleared, live_found, is_damaged}
use Rattle.jffs_log.specs.Begun.{begins_record, IsFoundDead, IsHealable, DoomsAreHealable, DoomsGoOn, ErasesGoOn}
use Rattle.jffs_log.specs.Erasable.{MayErase}
use Rattle.jffs_log.proofs.ring.Volume.{length-sector, sector_fits, sectors_replaced}
use Rattle.jffs_log.proofs.append.Open.{get_or-sectors_in, length-sectors_in}
use Rattle.jffs_log.proofs.Histories.{histories_are_scanned}
use Rattle.jffs_log.proofs.scans.ReadOnce.{sizes_long}
use Rattle.jffs_log.proofs.scans.Showing.{sector_replaced}
use Rattle.jffs_log.proofs.begun.Emptied.{Oldest, oldest, none_dead, none_elsewhere, log_old, history_without}
use Rattle.jffs_log.proofs.begun.Sector.{open_good, right_magic}

-- bytes that were changed at their begin
changed_gate : (part bytes : List ℕ) → length part ≡ 4 → get_or (replaced 0 part bytes) 7 0 ≡ get_or bytes 7 0
changed_gate part bytes four =
    let at : 7 ≡ length part + 3 = omega arith in
    let from : 0 + length part ≡ 4 = omega arith in
    ap (λ (i : ℕ). get_or (part ++ drop (0 + length part) bytes) i 0) at
    ∙ get_or-append-add part (drop (0 + length part) bytes) 3 0
    ∙ ap (λ (n : ℕ). get_or (drop n bytes) 3 0) from
    ∙ get_or-drop 4 bytes 3 0

changed_begin : (part bytes : List ℕ) → length part ≡ 4 → take 4 (replaced 0 part bytes) ≡ part
changed_begin part bytes four = ap (λ (n : ℕ). take n (part ++ drop (0 + length part) bytes)) (sym four) ∙ take-append_seam part (drop (0 + length part) bytes)

-- where nothing lives a sector isn't damaged
not_damaged : (count len k : ℕ) (image : List ℕ) → live_found k (scan_in count len (restored len k image)) ≡ 0 → is_damaged count len image k ≡ false
not_damaged count len k image none = ap (λ n. not (is_cleared len k image) && ltb 0 n) none ∙ neither (not (is_cleared len k image))
  where
    neither : (b : Bool) → (b && false) ≡ false
    neither true = refl
    neither false = refl

module _ (count len : ℕ) (old : List ℕ) (past : List Node) (k : ℕ) (may : MayErase count len old past k) (left : List ℕ) (four : length left ≡ 4) where
  abbrev doomed : List ℕ
  doomed = replaced (k * len) left old

  abbrev was : List ℕ
  was = sector_bytes len k old

  place : Oldest count len old past k
  place = oldest count len old past k may

  long : 64 ≤ length was
  long = let z = sizes_long count len may.history.sizes in let all = length-sector count len k old may.whole place.below in omega arith

  room : 4 ≤ len
  room = let z = sizes_long count len may.history.sizes in omega arith

  inside : k * len + 4 ≤ length old
  inside = let fits = sector_fits count len k place.below in let whole = may.whole in let r = room in omega arith

  changed_bytes : sector_bytes len k doomed ≡ replaced 0 left was
  changed_bytes =
      let r = room in
      sector_replaced count len k k left old place.below place.below (omega arith) may.whole ∙ ap (λ b. cond b (replaced 0 left was) was) (eq-eqb k k refl)

  gate : get_or (sector_bytes len k doomed) 7 0 ≡ get_or was 7 0
  gate = ap (λ (xs : List ℕ). get_or xs 7 0) changed_bytes ∙ changed_gate left was four

  -- with the right magic it is the old sector with that magic
  restored_same : restored len k doomed ≡ replaced (k * len) magic old
  restored_same = let i = inside in replaced_over (k * len) left magic old (omega arith) inside

  -- Its gate is open.
  pub open_healable : get_or was 7 0 ≢ 0 → IsHealable count len doomed k
  open_healable open_gate = record {
    as_record = λ h. let wrong = sym (ap (λ b. b && bytes_eq (take 4 (sector_bytes len k doomed)) magic) (ne_eqb _ 0 (λ e. open_gate (sym gate ∙ e)))) ∙ h in cc;
    otherwise = λ h. not_damaged count len k doomed (ap (λ (xs : List ℕ). live_found k (scan_in count len xs)) restored_same ∙ none);
  }
    where
      s : Sector
      s = sector_of (replaced 0 magic was)

      at : k * len ≡ k * len + 0
      at = omega arith

      with_magic : sectors_in count len (replaced (k * len) magic old) ≡ set (sectors_in count len old) k s
      with_magic = let r = room in ap (λ (j : ℕ). sectors_in count len (replaced j magic old)) at ∙ sectors_replaced count len k 0 magic old place.below (omega arith) may.whole

      good : (reading (replaced 0 magic was)).nodes ≡ [] × IsGoodEnding (reading (replaced 0 magic was)).ending
      good = open_good (replaced 0 magic was) (λ e. open_gate (sym (changed_gate magic was refl) ∙ e))

      none : live_found k (scan_in count len (replaced (k * len) magic old)) ≡ 0
      none =
          let h = history_without count len old past k may place (replaced (k * len) magic old) s with_magic good.0 good.1 in
          ap (live_found k) (histories_are_scanned count len (replaced (k * len) magic old) past h.0)
          ∙ ap (λ (log : List Placed). live_in k (tree_of past) log) h.1
          ∙ none_elsewhere k (tree_of past) place.rest place.elsewhere

  -- It is closed, so the magic was right.
  module _ (closed : get_or was 7 0 ≡ 0) where
    good_old : IsGoodEnding (reading was).ending
    good_old =
        let many = length-sectors_in count len old in
        let below = place.below in
        subst (λ (x : Sector). IsGoodEnding x.reading.ending) (get_or-sectors_in count len k old (sector_of was) place.below)
        (each_at (λ (x : Sector). IsGoodEnding x.reading.ending) (sectors_in count len old) k (sector_of was) (omega arith) may.history.readable.sound)

    was_right : take 4 was ≡ magic
    was_right = (bytes_eq-Decides (take 4 was) magic).0 (right_magic was long closed good_old)

    magic_same : replaced (k * len) magic old ≡ old
    magic_same =
        let r = room in
        replaced_same (k * len) magic old inside (sym (take-take 4 len (drop (k * len) old) (omega arith)) ∙ was_right)

    answer : scan_in count len old ≡ Ok (record { log = live_log count len old; tree = tree_of past; clean = is_clean (sectors_in count len old) })
    answer = histories_are_scanned count len old past may.history

    dead : live_in k (tree_of past) (live_log count len old) ≡ 0
    dead =
        ap (λ (log : List Placed). live_in k (tree_of past) log) (log_old count len old past k may place)
        ∙ none_dead k (tree_of past) place.sector.reading.nodes place.rest place.dead place.elsewhere

    -- nothing was cleared
    unchanged : bytes_eq (take 4 (sector_bytes len k doomed)) magic ≡ true → doomed ≡ old
    unchanged right =
        let is = (bytes_eq-Decides (take 4 (sector_bytes len k doomed)) magic).0 right in
        let same : left ≡ magic = sym (ap (λ (xs : List ℕ). take 4 xs) changed_bytes ∙ changed_begin left was four) ∙ is in
        ap (λ (xs : List ℕ). replaced (k * len) xs old) same ∙ magic_same

    pub closed_healable : IsHealable count len doomed k
    closed_healable = record {
      as_record = λ h.
          let both = and_parts (eqb (get_or (sector_bytes len k doomed) 7 0) 0) (bytes_eq (take 4 (sector_bytes len k doomed)) magic) h in
          record { scanned = _; found = ap (scan_in count len) (unchanged both.1) ∙ answer; dead = dead };
      otherwise = λ h. not_damaged count len k doomed (ap (λ (xs : List ℕ). live_found k (scan_in count len xs)) (restored_same ∙ magic_same) ∙ ap (live_found k) answer ∙ dead);
    }

pub dooms_are_healable : DoomsAreHealable
dooms_are_healable count len old new past k may half =
    let four : length half.left ≡ 4 = between_long (window (k * len) 4 old) doom half.left half.between in
    subst (λ (image : List ℕ). IsHealable count len image k) (sym half.rest) (
    elim (cases_eq (get_or (sector_bytes len k old) 7 0) 0) [
      | inl closed ↦ closed_healable count len old past k may half.left four closed
      | inr open_gate ↦ open_healable count len old past k may half.left four open_gate
    ])

-- Once more.
between_again : (o b l m : ℕ) → IsBetween o b l → IsBetween l b m → IsBetween o b m
between_again o b l m h k =
    let same : bit_and l b ≡ bit_and o b = ap (λ x. bit_and x b) (sym h.only) ∙ and_assoc b l o ∙ h.kept in
    record {
      only = ap (λ x. bit_and x o) (sym k.only) ∙ and_assoc o m l ∙ ap (λ x. bit_and m x) h.only ∙ k.only;
      kept = ap (λ x. bit_and m x) (sym same) ∙ k.kept ∙ same;
    }

all_again : (old bytes left more : List ℕ) → AreBetween old bytes left → AreBetween left bytes more → AreBetween old bytes more
all_again [] [] [] [] h k = tt
all_again (o ∷ old) (b ∷ bytes) (l ∷ left) (m ∷ more) h k = (between_again o b l m h.0 k.0, all_again old bytes left more h.1 k.1)
all_again [] [] [] (m ∷ more) h k = k
all_again [] [] (l ∷ left) more h k = absurd h
all_again [] (b ∷ bytes) left more h k = absurd h
all_again (o ∷ old) [] left more h k = absurd h
all_again (o ∷ old) (b ∷ bytes) [] more h k = absurd h
all_again (o ∷ old) (b ∷ bytes) (l ∷ left) [] h k = absurd k

pub dooms_go_on : DoomsGoOn
dooms_go_on at old between new inside first later =
    let one = between_long (window at 4 old) doom first.left first.between in
    let two = between_long (window at 4 between) doom later.left later.between in
    let seen : window at 4 between ≡ first.left =
    (λ i. window at ((sym one) i) (first.rest i)) ∙ window-replaced at first.left old (omega arith) in
    record {
      left = later.left;
      between = all_again (window at 4 old) doom first.left later.left first.between (subst (λ (xs : List ℕ). AreBetween xs doom later.left) seen later.between);
      rest = later.rest ∙ ap (replaced at later.left) first.rest ∙ replaced_over at first.left later.left old (omega arith) (omega arith);
    }

pub erases_go_on : ErasesGoOn
erases_go_on at len old between new inside first later =
    let one = first.long in
    let two = later.long in
    record {
      left = later.left;
      long = later.long;
      rest = later.rest ∙ ap (replaced at later.left) first.rest ∙ replaced_over at first.left later.left old (omega arith) (omega arith);
    }
