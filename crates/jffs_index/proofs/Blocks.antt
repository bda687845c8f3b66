-- What is found in blocks, and what a slot that is set changes.
use Rattle.std.proofs.Common.{◌≡◌, ℕ, zero, suc, ◌+◌, ◌*◌, ◌/◌, ◌%◌, ◌<◌, Bool, true, false, cond, eqb, List, [], ◌∷◌, length, get_or, replicate, set, Option, Some, None, refl, sym, ap, subst, ◌∙◌, ⊎_elim, arith}
use Rattle.std.specs.declared.cmp.Ordering.{Ordering}
use Rattle.std.specs.declared.cmp.Ordering.TheVariants.{Less, Equal, Greater}
use Rattle.std.specs.Ordering.{is_eq, match_ordering}
use Rattle.std.specs.Cmp.{IsTotalOrder, nat_cmp_total, on_total, then_total}
use Rattle.std.specs.Map.{lookup, remove_entry}
use Rattle.std.specs.BTreeMap.{insert_entry, is_at}
use Rattle.std.specs.FinMap as map
use Rattle.std.specs.FinMap.Entries as entries
use Rattle.std.proofs.lemmas.Bool.{true≢false, cond-true, cond-false, cases_eq, cases_lt, eq-eqb, ne_eqb}
use Rattle.std.proofs.lemmas.List.{nil_from_length, length-replicate, get_or-replicate, get_or_past, get_or-set_same, get_or-set_other}
use Rattle.jffs_tree.specs.declared.wish.Outcome.{Outcome}
use Rattle.jffs_tree.specs.declared.wish.Outcome.TheVariants.{Closed}
use Rattle.jffs_index.specs.declared.block.Slots.{Slots}
use Rattle.jffs_index.specs.declared.block.TheConstants.{SLOTS}
use Rattle.jffs_index.specs.Outcomes.{Outcomes, request_cmp, outcome_at, with_outcome, restored}
use Rattle.jffs_index.specs.Blocks.{slot, slot_in, Blocks, Entries, with_slot, with_slots, entries_of, outcomes_of}
use Rattle.jffs_index.proofs.Entered.{tied_same, at_itself, back_at}

request_total : IsTotalOrder request_cmp
request_total = then_total (on_total (λ (k : ℕ × ℕ). k.0) nat_cmp_total) (on_total (λ (k : ℕ × ℕ). k.1) nat_cmp_total)

request_same : map.IsAntisymmetric request_cmp
request_same j k is = tied_same j k (ap is_eq is)

abbrev AreSame : ℕ × ℕ → ℕ × ℕ → Type 0
AreSame j k = j ≡ k

-- two requests that differ don't tie
apart : (j k : ℕ × ℕ) → (AreSame j k → ⊥) → is_eq (request_cmp j k) ≡ false
apart j k differ = test (is_eq (request_cmp j k)) refl
  where
    test : (b : Bool) → is_eq (request_cmp j k) ≡ b → b ≡ false
    test true is = absurd (differ (tied_same j k is))
    test false is = refl

get-with_slot : (m : Entries) (k : ℕ × ℕ) (v : Option Outcome) (q : ℕ × ℕ) → map.get (with_slot m k v) q ≡ cond (is_eq (request_cmp q k)) v (map.get m q)
get-with_slot m k None q = map.get-remove request_total m k q
get-with_slot m k (Some outcome) q = map.get-insert request_total m k outcome q

module _ (m : Entries) (k : ℕ × ℕ) (slots : Slots) where
  at_slot : (n i : ℕ) → i < n → map.get (with_slots m k slots n) (k.0, k.1 * SLOTS + i) ≡ slot slots i
  unfolding with_slots
  at_slot zero i below = absurd (omega arith)
  at_slot (suc n) i below =
      get-with_slot (with_slots m k slots n) (k.0, k.1 * SLOTS + n) (slot slots n) (k.0, k.1 * SLOTS + i)
      ∙ ⊎_elim here (earlier (at_slot n i)) (cases_eq i n)
    where
      found : ℕ → Type 0
      found j = cond (is_eq (request_cmp (k.0, k.1 * SLOTS + j) (k.0, k.1 * SLOTS + n))) (slot slots n) (map.get (with_slots m k slots n) (k.0, k.1 * SLOTS + j)) ≡ slot slots j

      here : i ≡ n → found i
      here same = subst found (sym same) (cond-true _ _ _ (at_itself (k.0, k.1 * SLOTS + n)))

      earlier : (i < n → map.get (with_slots m k slots n) (k.0, k.1 * SLOTS + i) ≡ slot slots i) → (i ≡ n → ⊥) → found i
      earlier rest other = cond-false _ _ _ (apart (k.0, k.1 * SLOTS + i) (k.0, k.1 * SLOTS + n) (λ e. other (omega (arith, ap (λ (p : ℕ × ℕ). p.1) e)))) ∙ rest (omega arith)

  past_slots : (n : ℕ) (q : ℕ × ℕ) → ((i : ℕ) → i < n → AreSame q (k.0, k.1 * SLOTS + i) → ⊥) → map.get (with_slots m k slots n) q ≡ map.get m q
  unfolding with_slots
  past_slots zero q none = refl
  past_slots (suc n) q none =
      get-with_slot (with_slots m k slots n) (k.0, k.1 * SLOTS + n) (slot slots n) q
      ∙ cond-false _ _ _ (apart q (k.0, k.1 * SLOTS + n) (none n (omega arith)))
      ∙ past_slots n q (λ i below. none i (omega arith))

-- an outcome is found in the slot of its number
found_in : (blocks : Blocks) (w s : ℕ) → map.get (entries_of blocks) (w, s) ≡ slot_in (lookup (is_at (request_cmp (w, s / SLOTS))) blocks) (s % SLOTS)
found_in [] w s = map.get-empty request_cmp (w, s)
found_in (e ∷ blocks) w s = test (found_in blocks w s) (is_eq (request_cmp (w, s / SLOTS) e.0)) refl
  where
    test : map.get (entries_of blocks) (w, s) ≡ slot_in (lookup (is_at (request_cmp (w, s / SLOTS))) blocks) (s % SLOTS)
        → (b : Bool) → is_eq (request_cmp (w, s / SLOTS) e.0) ≡ b
        → map.get (with_slots (entries_of blocks) e.0 e.1 SLOTS) (w, s) ≡ slot_in (cond b (Some e.1) (lookup (is_at (request_cmp (w, s / SLOTS))) blocks)) (s % SLOTS)
    test rest true is =
        subst (λ (k : ℕ × ℕ). map.get (with_slots (entries_of blocks) k e.1 SLOTS) (w, s) ≡ slot e.1 (s % SLOTS)) (tied_same (w, s / SLOTS) e.0 is)
        (ap (λ n. map.get (with_slots (entries_of blocks) (w, s / SLOTS) e.1 SLOTS) (w, n)) parts ∙ at_slot (entries_of blocks) (w, s / SLOTS) e.1 SLOTS (s % SLOTS) (omega arith))
      where
        parts : s ≡ s / SLOTS * SLOTS + s % SLOTS
        parts = omega arith
    test rest false is = past_slots (entries_of blocks) e.0 e.1 SLOTS (w, s) away ∙ rest
      where
        away : (i : ℕ) → i < SLOTS → AreSame (w, s) (e.0.0, e.0.1 * SLOTS + i) → ⊥
        away i below same =
            let n : s ≡ e.0.1 * SLOTS + i = ap (λ (p : ℕ × ℕ). p.1) same in
            let block : s / SLOTS ≡ e.0.1 = omega arith in
            let k : AreSame (w, s / SLOTS) e.0 = λ j. ((same j).0, block j) in
            true≢false (sym (subst (λ (z : ℕ × ℕ). is_eq (request_cmp (w, s / SLOTS) z) ≡ true) k (at_itself (w, s / SLOTS))) ∙ is)

find_lookup : (q : ℕ × ℕ) (es : Outcomes) → entries.find request_cmp q es ≡ lookup (is_at (request_cmp q)) es
find_lookup q [] = refl
find_lookup q (e ∷ es) = ap (λ o. cond (is_eq (request_cmp q e.0)) (Some e.1) o) (find_lookup q es)

get_lookup : (m : Entries) (q : ℕ × ℕ) → map.get m q ≡ lookup (is_at (request_cmp q)) (map.entries m)
get_lookup m q = map.get-entries m q ∙ find_lookup q (map.entries m)

-- without blocks
pub none_entered : outcomes_of [] ≡ []
none_entered = nil_from_length (map.entries map.empty) (sym (map.len-entries (map.empty {X = Outcome} {R = request_cmp})) ∙ map.len-empty request_cmp Outcome)

-- the outcome of a request is what its slot holds
pub outcome_in : (blocks : Blocks) (w s : ℕ) → slot_in (lookup (is_at (request_cmp (w, s / SLOTS))) blocks) (s % SLOTS) ≡ outcome_at (outcomes_of blocks) w s
outcome_in blocks w s = sym (found_in blocks w s) ∙ get_lookup (entries_of blocks) (w, s)

put_insert : (k : ℕ × ℕ) (v : Outcome) (es : Outcomes) → entries.put request_cmp k v es ≡ insert_entry request_cmp es k v
put_insert k v [] = refl
put_insert k v (e ∷ es) = test (put_insert k v es) (request_cmp k e.0)
  where
    test : entries.put request_cmp k v es ≡ insert_entry request_cmp es k v
        → (o : Ordering) → entries.by_order o ((k, v) ∷ e ∷ es) ((e.0, v) ∷ es) (e ∷ entries.put request_cmp k v es) ≡ match_ordering o ((k, v) ∷ e ∷ es) ((e.0, v) ∷ es) (e ∷ insert_entry request_cmp es k v)
    test rest Less = refl
    test rest Equal = refl
    test rest Greater = ap (λ (z : Outcomes). e ∷ z) rest

entries_with : (m : Entries) (k : ℕ × ℕ) (v : Outcome) → map.entries (map.insert m k v) ≡ insert_entry request_cmp (map.entries m) k v
entries_with m k v = map.entries-insert request_total m k v ∙ put_insert k v (map.entries m)

-- what isn't there is not taken out
none_removed : (k : ℕ × ℕ) (es : Outcomes) → lookup (is_at (request_cmp k)) es ≡ None → remove_entry (is_at (request_cmp k)) es ≡ es
none_removed k [] none = refl
none_removed k (e ∷ es) none = test (none_removed k es) (is_eq (request_cmp k e.0)) none
  where
    test : (lookup (is_at (request_cmp k)) es ≡ None → remove_entry (is_at (request_cmp k)) es ≡ es)
        → (b : Bool) → cond b (Some e.1) (lookup (is_at (request_cmp k)) es) ≡ None → cond b es (e ∷ remove_entry (is_at (request_cmp k)) es) ≡ e ∷ es
    test rest true none = cc
    test rest false none = ap (λ (z : Outcomes). e ∷ z) (rest none)

entries_without : (m : Entries) (k : ℕ × ℕ) → map.entries (map.remove m k) ≡ remove_entry (is_at (request_cmp k)) (map.entries m)
entries_without m k = test (map.get m k) refl
  where
    test : (o : Option Outcome) → map.get m k ≡ o → map.entries (map.remove m k) ≡ remove_entry (is_at (request_cmp k)) (map.entries m)
    test None none =
        ap map.entries (map.same_map request_total request_same (map.remove m k) m kept) ∙ sym (none_removed k (map.entries m) (sym (get_lookup m k) ∙ none))
      where
        kept : (q : ℕ × ℕ) → map.get (map.remove m k) q ≡ map.get m q
        kept q = map.get-remove request_total m k q ∙ same (is_eq (request_cmp q k)) refl
          where
            same : (b : Bool) → is_eq (request_cmp q k) ≡ b → cond b None (map.get m q) ≡ map.get m q
            same true is = sym (ap (map.get m) (tied_same q k is) ∙ none)
            same false is = refl
    test (Some v) some =
        sym (ap (remove_entry (is_at (request_cmp k))) (ap map.entries (sym whole) ∙ entries_with (map.remove m k) k v) ∙ back_at k v (map.entries (map.remove m k)) gone)
      where
        gone : lookup (is_at (request_cmp k)) (map.entries (map.remove m k)) ≡ None
        gone = sym (get_lookup (map.remove m k) k) ∙ map.get-remove request_total m k k ∙ cond-true _ _ _ (at_itself k)

        again : (q : ℕ × ℕ) (b : Bool) → is_eq (request_cmp q k) ≡ b → cond b (Some v) (cond b None (map.get m q)) ≡ map.get m q
        again q true is = sym (ap (map.get m) (tied_same q k is) ∙ some)
        again q false is = refl

        whole : map.insert (map.remove m k) k v ≡ m
        whole = map.same_map request_total request_same (map.insert (map.remove m k) k v) m both
          where
            both : (q : ℕ × ℕ) → map.get (map.insert (map.remove m k) k v) q ≡ map.get m q
            both q =
                map.get-insert request_total (map.remove m k) k v q
                ∙ ap (cond (is_eq (request_cmp q k)) (Some v)) (map.get-remove request_total m k q)
                ∙ again q (is_eq (request_cmp q k)) refl

-- the new blocks are the old ones, but for a slot of one block: of block b of a sender, in which
-- slot p holds v
pub record SetsSlot (old new : Blocks) (w b p : ℕ) (v : Option Outcome) (slots : Slots) : Type 0 where
  pub block : (q : ℕ × ℕ) → lookup (is_at (request_cmp q)) new ≡ cond (is_at (request_cmp (w, b)) q) (Some slots) (lookup (is_at (request_cmp q)) old)
  pub held : (i : ℕ) → slot slots i ≡ cond (eqb i p) v (slot_in (lookup (is_at (request_cmp (w, b))) old) i)

module _ (old new : Blocks) (w s : ℕ) (v : Option Outcome) (slots : Slots) (sets : SetsSlot old new w (s / SLOTS) (s % SLOTS) v slots) where
  same_block : (t : ℕ) → s / SLOTS ≡ t / SLOTS → slot slots (t % SLOTS) ≡ cond (is_eq (request_cmp (w, t) (w, s))) v (slot_in (lookup (is_at (request_cmp (w, s / SLOTS))) old) (t % SLOTS))
  same_block t block = sets.held (t % SLOTS) ∙ ap (λ b. cond b v (slot_in (lookup (is_at (request_cmp (w, s / SLOTS))) old) (t % SLOTS))) (⊎_elim here other (cases_eq t s))
    where
      here : t ≡ s → eqb (t % SLOTS) (s % SLOTS) ≡ is_eq (request_cmp (w, t) (w, s))
      here same = eq-eqb (t % SLOTS) (s % SLOTS) (ap (λ n. n % SLOTS) same) ∙ sym (subst (λ n. is_eq (request_cmp (w, n) (w, s)) ≡ true) (sym same) (at_itself (w, s)))

      other : (t ≡ s → ⊥) → eqb (t % SLOTS) (s % SLOTS) ≡ is_eq (request_cmp (w, t) (w, s))
      other differ = ne_eqb (t % SLOTS) (s % SLOTS) (λ e. differ (omega arith)) ∙ sym (apart (w, t) (w, s) (λ e. differ (ap (λ (p : ℕ × ℕ). p.1) e)))

  set_at : (x t : ℕ) (b : Bool) → is_eq (request_cmp (w, s / SLOTS) (x, t / SLOTS)) ≡ b
      → slot_in (cond b (Some slots) (lookup (is_at (request_cmp (x, t / SLOTS))) old)) (t % SLOTS) ≡ cond (is_eq (request_cmp (x, t) (w, s))) v (slot_in (lookup (is_at (request_cmp (x, t / SLOTS))) old) (t % SLOTS))
  set_at x t true is =
      let both = tied_same (w, s / SLOTS) (x, t / SLOTS) is in
      let here = same_block t (ap (λ (p : ℕ × ℕ). p.1) both) in
      subst (λ (p : ℕ × ℕ). slot slots (t % SLOTS) ≡ cond (is_eq (request_cmp (p.0, t) (w, s))) v (slot_in (lookup (is_at (request_cmp p)) old) (t % SLOTS))) both here
  set_at x t false is = sym (cond-false _ _ _ (apart (x, t) (w, s) differ))
    where
      differ : AreSame (x, t) (w, s) → ⊥
      differ same = true≢false (sym (at_itself (w, s / SLOTS)) ∙ ap (λ (p : ℕ × ℕ). is_eq (request_cmp (w, s / SLOTS) (p.0, p.1 / SLOTS))) (sym same) ∙ is)

  slot_set : entries_of new ≡ with_slot (entries_of old) (w, s) v
  slot_set = map.same_map request_total request_same (entries_of new) (with_slot (entries_of old) (w, s) v) alike
    where
      alike : (q : ℕ × ℕ) → map.get (entries_of new) q ≡ map.get (with_slot (entries_of old) (w, s) v) q
      alike q =
          found_in new q.0 q.1
          ∙ ap (λ o. slot_in o (q.1 % SLOTS)) (sets.block (q.0, q.1 / SLOTS))
          ∙ set_at q.0 q.1 (is_eq (request_cmp (w, s / SLOTS) (q.0, q.1 / SLOTS))) refl
          ∙ sym (get-with_slot (entries_of old) (w, s) v q ∙ ap (cond (is_eq (request_cmp q (w, s))) v) (found_in old q.0 q.1))

module _ (old new : Blocks) (w s b p : ℕ) (block : b ≡ s / SLOTS) (place : p ≡ s % SLOTS) where
  at_place : (v : Option Outcome) (slots : Slots) → SetsSlot old new w b p v slots → SetsSlot old new w (s / SLOTS) (s % SLOTS) v slots
  at_place v slots sets = subst (λ n. SetsSlot old new w (s / SLOTS) n v slots) place (subst (λ n. SetsSlot old new w n p v slots) block sets)

  -- a slot that is set or emptied
  pub outcome_set : (v : Option Outcome) (slots : Slots) → SetsSlot old new w b p v slots → outcomes_of new ≡ restored (outcomes_of old) w s v
  outcome_set v slots sets = ap map.entries (slot_set old new w s v slots (at_place v slots sets)) ∙ with-slot v
    where
      with-slot : (v : Option Outcome) → map.entries (with_slot (entries_of old) (w, s) v) ≡ restored (outcomes_of old) w s v
      with-slot None = entries_without (entries_of old) (w, s)
      with-slot (Some outcome) = entries_with (entries_of old) (w, s) outcome

module _ (blocks : Blocks) (w s b : ℕ) (block : b ≡ s / SLOTS) where
  -- what a look-up finds
  pub outcome_found : (p : ℕ) → p ≡ s % SLOTS → (found : Option Slots) → found ≡ lookup (is_at (request_cmp (w, b))) blocks → slot_in found p ≡ outcome_at (outcomes_of blocks) w s
  outcome_found p place found is =
      ap (slot_in found) place ∙ ap (λ o. slot_in o (s % SLOTS)) (is ∙ ap (λ n. lookup (is_at (request_cmp (w, n))) blocks) block) ∙ outcome_in blocks w s

  -- a request without a block has no outcome
  pub no_outcome : None ≡ lookup (is_at (request_cmp (w, b))) blocks → outcome_at (outcomes_of blocks) w s ≡ None
  no_outcome none = sym (outcome_found (s % SLOTS) refl None none)

-- what stood there is put back
module _ (blocks : Blocks) (w s : ℕ) where
  restores : (outcome : Outcome) (was : Option Outcome) → was ≡ outcome_at (outcomes_of blocks) w s → restored (with_outcome (outcomes_of blocks) w s outcome) w s was ≡ outcomes_of blocks
  restores outcome None none = back_at (w, s) outcome (outcomes_of blocks) (sym none)
  restores outcome (Some v) some =
      ap (λ (es : Outcomes). with_outcome es w s v) (sym (entries_with m (w, s) outcome)) ∙ sym (entries_with (map.insert m (w, s) outcome) (w, s) v) ∙ ap map.entries whole
    where
      m : Entries
      m = entries_of blocks

      there : map.get m (w, s) ≡ Some v
      there = get_lookup m (w, s) ∙ sym some

      again : (q : ℕ × ℕ) (b : Bool) → is_eq (request_cmp q (w, s)) ≡ b → cond b (Some v) (cond b (Some outcome) (map.get m q)) ≡ map.get m q
      again q true is = sym (ap (map.get m) (tied_same q (w, s) is) ∙ there)
      again q false is = refl

      whole : map.insert (map.insert m (w, s) outcome) (w, s) v ≡ m
      whole = map.same_map request_total request_same (map.insert (map.insert m (w, s) outcome) (w, s) v) m both
        where
          both : (q : ℕ × ℕ) → map.get (map.insert (map.insert m (w, s) outcome) (w, s) v) q ≡ map.get m q
          both q =
              map.get-insert request_total (map.insert m (w, s) outcome) (w, s) v q
              ∙ ap (cond (is_eq (request_cmp q (w, s))) (Some v)) (map.get-insert request_total m (w, s) outcome q)
              ∙ again q (is_eq (request_cmp q (w, s))) refl

  pub put_back : (outcome : Outcome) (was : Option Outcome) (before after : Outcomes) → outcomes_of blocks ≡ before → after ≡ with_outcome before w s outcome
      → was ≡ outcome_at (outcomes_of blocks) w s → restored after w s was ≡ before
  put_back outcome was before after is entered held =
      ap (λ (z : Outcomes). restored z w s was) entered
      ∙ subst (λ (z : Outcomes). restored (with_outcome z w s outcome) w s was ≡ z) is (restores outcome was held)

-- a slot that nothing was put into
pub none_filled : (n at : ℕ) → get_or (replicate n false) at false ≡ false
none_filled n at =
    ⊎_elim (λ below. get_or-replicate n at false false below) (λ past. get_or_past (replicate n false) at false (omega (arith, length-replicate n false))) (cases_lt at n)

abbrev held : Bool → Outcome → Option Outcome
held filled outcome = cond filled (Some outcome) None

-- an element that is set
set_here : {A : Type 0} (xs : List A) (at k : ℕ) (x d : A) → at < length xs → k ≡ at → get_or (set xs at x) k d ≡ x
set_here xs at k x d below same = ap (λ n. get_or (set xs at x) n d) same ∙ get_or-set_same xs at x d below

-- a slot after one was filled
pub slot_put : (slots : Slots) (at k : ℕ) (outcome : Outcome) → at < length slots.filled → at < length slots.outcomes
    → held (get_or (set slots.filled at true) k false) (get_or (set slots.outcomes at outcome) k Closed) ≡ cond (eqb k at) (Some outcome) (slot slots k)
slot_put slots at k outcome filled whole = ⊎_elim here other (cases_eq k at)
  where
    here : k ≡ at → held (get_or (set slots.filled at true) k false) (get_or (set slots.outcomes at outcome) k Closed) ≡ cond (eqb k at) (Some outcome) (slot slots k)
    here same = (λ i. held (set_here slots.filled at k true false filled same i) (set_here slots.outcomes at k outcome Closed whole same i)) ∙ sym (cond-true _ _ _ (eq-eqb k at same))

    other : (k ≡ at → ⊥) → held (get_or (set slots.filled at true) k false) (get_or (set slots.outcomes at outcome) k Closed) ≡ cond (eqb k at) (Some outcome) (slot slots k)
    other differ =
        (λ i. held (get_or-set_other slots.filled at k true false differ i) (get_or-set_other slots.outcomes at k outcome Closed differ i)) ∙ sym (cond-false _ _ _ (ne_eqb k at differ))
