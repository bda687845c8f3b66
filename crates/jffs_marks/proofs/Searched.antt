-- Where a search for a key ends, and what the entries on both sides of a place are.
use Rattle.std.proofs.Common.{◌≡◌, ℕ, true, true≢false, zero, suc, ◌+◌, ◌-◌, ◌<◌, ◌≤◌, ⊎_elim, cond, length, get_or, set, slice_get, nat_lt, Option, Some, None, sym, ap, subst, ◌∙◌, arith}
use Rattle.std.specs.List.{insert}
use Rattle.std.specs.Option.{option_map_or, unwrap_or}
use Rattle.std.specs.Ordering.{is_gt, ordering_reverse}
use Rattle.std.specs.declared.cmp.Ordering.{Ordering}
use Rattle.std.specs.declared.cmp.Ordering.TheVariants.{Less, Greater}
use Rattle.std.specs.Map.{lookup, keys_of}
use Rattle.std.specs.BTreeMap.{is_at}
use Rattle.std.proofs.lemmas.Bool.{cases_lt, ltb-true}
use Rattle.std.proofs.lemmas.Option.{same_Some, slice_get_within, slice_get-get_or, get_or_from_slice_get}
use Rattle.std.proofs.lemmas.Map.Entries.{length-keys_of, lookup_at_gap}
use Rattle.jffs_marks.specs.Marks.{MarkKey, Counts, mark_key, mark_cmp, mark_of, HaveMore, IsKeyAt, BelongsAt, SplitsAt}
use Rattle.jffs_marks.proofs.Marking.{mark_newer, mark_low, mark_from, added, taken}
use Rattle.jffs_marks.proofs.Places.{InOrder, mark_total, key_at, read_at, mark_at, before, no_newer, written, still_in_order, inserted, inserted_in_order}

turned_round : (a b : MarkKey) (o : Ordering) → mark_cmp b a ≡ o → mark_cmp a b ≡ ordering_reverse o
turned_round a b o is = mark_total.antisymm a b ∙ ap ordering_reverse is

module _ (counts : Counts) (ordered : InOrder counts) (key : MarkKey) where
  -- A version above the newest belongs at the front.
  pub in_front : (e : MarkKey × ℕ) → slice_get counts 0 ≡ Some e → e.0.0.0 < key.0.0 → BelongsAt counts key 0
  in_front e is older = record {
    within = omega arith;
    between = (λ k d l h. absurd (omega (arith, h)), λ k d l h. turned_round (get_or counts k d).0 key Less (mark_newer key (get_or counts k d).0 (low k d h)));
  }
    where
      low : (k : ℕ) (d : MarkKey × ℕ) → k < length counts → (get_or counts k d).0.0.0 < key.0.0
      low zero d h = let same = get_or_from_slice_get counts 0 e d is in subst (λ (x : MarkKey × ℕ). x.0.0.0 < key.0.0) (sym same) older
      low (suc k) d h = let l = no_newer counts ordered 0 (suc k) e (get_or counts (suc k) d) is (slice_get-get_or counts (suc k) d h) (omega arith) in omega (arith, l, older)

  pub before_place : (i : ℕ) → BelongsAt counts key i → (j : ℕ) (e : MarkKey × ℕ) → j < i → slice_get counts j ≡ Some e → mark_cmp e.0 key ≡ Less
  before_place i b j e l is = subst (λ (x : MarkKey × ℕ). mark_cmp x.0 key ≡ Less) (get_or_from_slice_get counts j e e is) (b.between.0 j e (omega arith) l)

  pub from_place : (i : ℕ) → BelongsAt counts key i → (j : ℕ) (e : MarkKey × ℕ) → i ≤ j → slice_get counts j ≡ Some e → mark_cmp key e.0 ≡ Less
  from_place i b j e l is =
      turned_round key e.0 Greater (subst (λ (x : MarkKey × ℕ). mark_cmp x.0 key ≡ Greater) (get_or_from_slice_get counts j e e is) (b.between.1 j e l (slice_get_within counts j e is)))

  -- A key that belongs at a place has no entry.
  absent : (i : ℕ) → BelongsAt counts key i → lookup (is_at (mark_cmp key)) counts ≡ None
  absent i b = lookup_at_gap mark_total key counts i ordered
      (λ j e l is. turned_round key e.0 Less (before_place i b j e l is))
      (λ e is. from_place i b i e (omega arith) is)

  -- A version between those of two neighbours belongs between them.
  pub belongs_between : (i : ℕ) (e : MarkKey × ℕ) → slice_get counts i ≡ Some e → key.0.0 < e.0.0.0 → option_map_or (λ d. nat_lt d.0.0.0 key.0.0) (slice_get counts (i + 1)) true ≡ true → BelongsAt counts key (i + 1)
  belongs_between i e at newer older = record {
    within = inside;
    between = (
      λ k d h l. mark_newer (get_or counts k d).0 key (let v = up_to k d l in omega (arith, v, newer)),
      λ k d l h. turned_round (get_or counts k d).0 key Less (mark_newer key (get_or counts k d).0 (from k d l h)),
    );
  }
    where
      inside : i + 1 ≤ length counts
      inside = let l = slice_get_within counts i e at in omega (arith, l)

      up_to : (k : ℕ) (d : MarkKey × ℕ) → k < i + 1 → e.0.0.0 ≤ (get_or counts k d).0.0.0
      up_to k d l = ⊎_elim
          (λ below. no_newer counts ordered k i (get_or counts k d) e (slice_get-get_or counts k d (omega (arith, l, inside))) at below)
          (λ above. let same : k ≡ i = omega (arith, above, l) in
          let version = ap (λ (x : MarkKey × ℕ). x.0.0.0) (get_or_from_slice_get counts k e d (ap (λ n. slice_get counts n) same ∙ at)) in
          omega (arith, version))
          (cases_lt k i)

      next_older : (d : MarkKey × ℕ) → i + 1 < length counts → (get_or counts (i + 1) d).0.0.0 < key.0.0
      next_older d h = ltb-true (get_or counts (i + 1) d).0.0.0 key.0.0
          (sym (ap (λ o. option_map_or (λ (x : MarkKey × ℕ). nat_lt x.0.0.0 key.0.0) o true) (slice_get-get_or counts (i + 1) d h)) ∙ older)

      from : (k : ℕ) (d : MarkKey × ℕ) → i + 1 ≤ k → k < length counts → (get_or counts k d).0.0.0 < key.0.0
      from k d l h = ⊎_elim
          (λ after. let v = no_newer counts ordered (i + 1) k (get_or counts (i + 1) d) (get_or counts k d) (slice_get-get_or counts (i + 1) d (omega (arith, after, h))) (slice_get-get_or counts k d h) after in
          let w = next_older d (omega (arith, after, h)) in
          omega (arith, v, w))
          (λ here. let same : k ≡ i + 1 = omega (arith, here, l) in
          subst (λ n. (get_or counts n d).0.0.0 < key.0.0) (sym same) (next_older d (subst (λ n. n < length counts) same h)))
          (cases_lt (i + 1) k)

pub key_within : (counts : Counts) (i : ℕ) (k : MarkKey) → IsKeyAt counts k i → i < length counts
key_within counts i k key = subst (λ n. i < n) (length-keys_of counts) (slice_get_within (keys_of counts) i k key)

-- The entry of a key at an index.
entry_is : (counts : Counts) (i : ℕ) (k : MarkKey) (e : MarkKey × ℕ) → IsKeyAt counts k i → e ≡ get_or counts i e → slice_get counts i ≡ Some (k, e.1)
entry_is counts i k e key read =
    let at = read_at counts i e (key_within counts i k key) read in
    let same = same_Some e.0 k (sym (key_at counts i e at) ∙ key) in
    at ∙ ap (λ (x : MarkKey). Some (x, e.1)) same

-- A key that is before the first that a version may have is of a newer one.
newer_than : (q : MarkKey) (v : ℕ) → mark_cmp q (mark_key v 0) ≡ Less → v + 1 ≤ q.0.0
newer_than q v less = ⊎_elim
    (λ l. omega (arith, l))
    (λ low. absurd (true≢false (sym (ap is_gt (turned_round (mark_key v 0) q Less less)) ∙ mark_from v q low)))
    (cases_lt v q.0.0)

older_from : (q : MarkKey) (v : ℕ) → mark_cmp (mark_key v 0) q ≡ Less → q.0.0 < v + 1
older_from q v less = let l = mark_low (mark_key v 0) q (ap is_gt less) in omega (arith, l)

module _ (counts : Counts) (ordered : InOrder counts) (v : ℕ) where
  pub split_at_gap : (i : ℕ) → BelongsAt counts (mark_key v 0) i → SplitsAt counts (v + 1) i
  split_at_gap i b = record {
    within = b.within;
    parts = (
      λ k d low l. newer_than (get_or counts k d).0 v (b.between.0 k d low l),
      λ k d l h. older_from (get_or counts k d).0 v (turned_round (mark_key v 0) (get_or counts k d).0 Greater (b.between.1 k d l h)),
    );
  }

  pub split_at_key : (i : ℕ) → IsKeyAt counts (mark_key v 0) i → SplitsAt counts (v + 1) i
  split_at_key i key =
      let within = key_within counts i (mark_key v 0) key in
      let d : MarkKey × ℕ = (mark_key v 0, 0) in
      let at = slice_get-get_or counts i d within in
      let same : (get_or counts i d).0 ≡ mark_key v 0 = same_Some (get_or counts i d).0 (mark_key v 0) (sym (key_at counts i (get_or counts i d) at) ∙ key) in
      let version : (get_or counts i d).0.0.0 ≡ v = ap (λ (k : MarkKey). k.0.0) same in
      record {
        within = omega (arith, within);
        parts = (
          λ k e low l. newer_than (get_or counts k e).0 v
              (subst (λ (x : MarkKey). mark_cmp (get_or counts k e).0 x ≡ Less) same
              (before counts ordered k i (get_or counts k e) (get_or counts i d) (slice_get-get_or counts k e (omega (arith, l, within))) at l)),
          λ k e l h. ⊎_elim
              (λ less. let low = no_newer counts ordered i k (get_or counts i d) (get_or counts k e) at (slice_get-get_or counts k e h) less in omega (arith, low, version))
              (λ more. let equal : k ≡ i = omega (arith, more, l) in
              let x = get_or_from_slice_get counts k (get_or counts i d) e (subst (λ n. slice_get counts n ≡ Some (get_or counts i d)) (sym equal) at) in
              let y : (get_or counts k e).0.0.0 ≡ v = ap (λ (t : MarkKey × ℕ). t.0.0.0) x ∙ version in
              omega (arith, y))
              (cases_lt i k),
        );
      }

-- All entries are of versions from `first` on where the last one is.
pub split_at_end : (counts : Counts) → InOrder counts → (first : ℕ) (e : MarkKey × ℕ) → slice_get counts (length counts - 1) ≡ Some e → first ≤ e.0.0.0 → SplitsAt counts first (length counts)
split_at_end counts ordered first e last low = record {
  within = omega arith;
  parts = (
    λ k d l h. ⊎_elim
        (λ less. let l = no_newer counts ordered k (length counts - 1) (get_or counts k d) e (slice_get-get_or counts k d h) last less in omega (arith, l, low))
        (λ more. let equal : k ≡ length counts - 1 = omega (arith, more, h) in
        let x = get_or_from_slice_get counts k e d (subst (λ n. slice_get counts n ≡ Some e) (sym equal) last) in
        let y : (get_or counts k d).0.0.0 ≡ e.0.0.0 = ap (λ (t : MarkKey × ℕ). t.0.0.0) x in
        omega (arith, y, low))
        (cases_lt k (length counts - 1)),
    λ k d l h. absurd (omega (arith, l, h)),
  );
}

-- The entries as they are kept, `items`, and as they are seen, `now`: the key stands at the index.
module _ (items now : Counts) (seen : items ≡ now) (ordered : InOrder items) (v j i : ℕ) (e : MarkKey × ℕ) (read : e ≡ get_or items i e) (key : IsKeyAt now (mark_key v j) i) where
  at_place : slice_get items i ≡ Some (mark_key v j, e.1)
  at_place = entry_is items i (mark_key v j) e (subst (λ (t : Counts). IsKeyAt t (mark_key v j) i) (sym seen) key) read

  -- The entry that was read is the key's, and has its marks.
  own : mark_key v j ≡ e.0
  own = ap (λ (x : MarkKey × ℕ). x.0) (same_Some (mark_key v j, e.1) e (sym at_place ∙ read_at items i e (slice_get_within items i (mark_key v j, e.1) at_place) read))

  count_is : mark_of items v j ≡ e.1
  count_is = mark_at items ordered i (mark_key v j) e.1 at_place

  pub marks_there : mark_of now v j ≡ e.1
  marks_there = subst (λ (t : Counts). mark_of t v j ≡ e.1) seen count_is

  -- Another count is written there.
  rewritten : (w : ℕ) (q : MarkKey) → lookup (is_at (mark_cmp q)) (set items i (e.0, w)) ≡ cond (is_at (mark_cmp (mark_key v j)) q) (Some w) (lookup (is_at (mark_cmp q)) items)
  rewritten w q =
      ap (λ (x : MarkKey). lookup (is_at (mark_cmp q)) (set items i (x, w))) (sym own) ∙ written items i (mark_key v j) e.1 w ordered at_place q

  pub rewritten_in_order : (w : ℕ) → InOrder (set items i (e.0, w))
  rewritten_in_order w = subst (λ (x : MarkKey). InOrder (set items i (x, w))) own (still_in_order items i (mark_key v j) e.1 w ordered at_place)

  pub raised : (count : ℕ) → HaveMore now (set items i (e.0, e.1 + count)) v j count
  raised count =
      subst (λ (t : Counts). HaveMore t (set items i (e.0, e.1 + count)) v j count) seen
      (added items (set items i (e.0, e.1 + count)) v j (Some (e.1 + count)) (rewritten (e.1 + count)) count (omega (arith, count_is)))

  pub lowered : (count : ℕ) → count ≤ mark_of now v j → HaveMore (set items i (e.0, e.1 - count)) now v j count
  lowered count enough =
      subst (λ (t : Counts). HaveMore (set items i (e.0, e.1 - count)) t v j count) seen
      (taken items (set items i (e.0, e.1 - count)) v j (Some (e.1 - count)) (rewritten (e.1 - count)) count (omega (arith, count_is, marks_there, enough)))

-- The same entries, where the key belongs at the index: a new entry is put in there.
module _ (items now : Counts) (seen : items ≡ now) (ordered : InOrder items) (v j i : ℕ) (place : BelongsAt now (mark_key v j) i) where
  stored : BelongsAt items (mark_key v j) i
  stored = subst (λ (t : Counts). BelongsAt t (mark_key v j) i) (sym seen) place

  missing : lookup (is_at (mark_cmp (mark_key v j))) items ≡ None
  missing = absent items ordered (mark_key v j) i stored

  pub no_marks : mark_of now v j ≡ 0
  no_marks = subst (λ (t : Counts). mark_of t v j ≡ 0) seen (ap (λ (o : Option ℕ). unwrap_or o 0) missing)

  pub entered_in_order : (count : ℕ) → InOrder (insert items i (mark_key v j, count))
  entered_in_order count =
      inserted_in_order items i (mark_key v j) count ordered (before_place items ordered (mark_key v j) i stored) (from_place items ordered (mark_key v j) i stored)

  pub entered : (count : ℕ) → HaveMore now (insert items i (mark_key v j, count)) v j count
  entered count =
      subst (λ (t : Counts). HaveMore t (insert items i (mark_key v j, count)) v j count) seen
      (added items (insert items i (mark_key v j, count)) v j (Some count) (inserted items i (mark_key v j) count missing) count
      (let none = ap (λ (o : Option ℕ). unwrap_or o 0) missing in omega (arith, none)))
