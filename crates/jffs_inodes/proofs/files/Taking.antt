-- Fragments that are taken out or put in, and the marks that go with them.
use Rattle.std.proofs.Common.{◌≡◌, ℕ, ◌+◌, ◌<◌, ◌≤◌, Bool, true, false, cond, not, ◌&&◌, eqb, leb, ltb, [], ◌∷◌, length, ◌⊎◌, inl, inr, ⊎_elim, Some, unwrap_or, option_map, refl, sym, ap, subst, ◌∙◌, arith, nat_cmp}
use Rattle.std.specs.List.{AllByRecursion, filter}
use Rattle.std.specs.List.Sorted.{IsStrictlySortedBy}
use Rattle.std.specs.Ordering.{is_lt}
use Rattle.std.specs.Cmp.{unsigned_tied}
use Rattle.std.specs.Map.{lookup, remove_entry, keys_of}
use Rattle.std.specs.BTreeMap.{is_at, insert_entry}
use Rattle.std.specs.declared.cmp.Ordering.TheVariants.{Less}
use Rattle.std.proofs.lemmas.Bool.{cases_Bool, cases_lt, eqb-true, le-leb, lt-leb, lt-ltb, le-ltb, eq-eqb}
use Rattle.std.proofs.lemmas.Cmp.{nat_cmp_total}
use Rattle.std.proofs.lemmas.Map.Entries.{sum_by-insert_entry, sum_by-remove_entry}
use Rattle.std.proofs.lemmas.Option.{none-some, same_Some}
use Rattle.jffs_node.specs.Record.{file_max}
use Rattle.jffs_inodes.specs.declared.fragment.Fragment.{Fragment}
use Rattle.jffs_inodes.specs.Fragments.{Fragments, AreShort, before, outside, part_by, amount_by, HasAmounts, MovesAmounts}
use Rattle.jffs_marks.specs.Marks.{Counts}
use Rattle.jffs_marks.proofs.Maps.{is_less}
use Rattle.jffs_marks.proofs.Marking.{same_either_way}

-- ---- which ones a range of offsets has
abbrev pub begins_from : ℕ → (ℕ × Fragment) → Bool
begins_from p e = leb p e.0

abbrev pub within : ℕ → ℕ → (ℕ × Fragment) → Bool
within p q e = not (leb p e.0 && ltb e.0 q)

pub not_within : (p q k : ℕ) → (k < p) ⊎ (q ≤ k) → not (leb p k && ltb k q) ≡ true
not_within p q k h = ⊎_elim
    (λ low. ap (λ t. not (t && ltb k q)) (lt-leb p k low))
    (λ high. let t = le-ltb k q high in by_first (leb p k) t)
    h
  where
    by_first : (b : Bool) → ltb k q ≡ false → not (b && ltb k q) ≡ true
    by_first true t = ap not t
    by_first false t = refl

pub none_within : (p q : ℕ) (es : Fragments) → AllByRecursion (λ e. (e.0 < p) ⊎ (q ≤ e.0)) es → outside p q es ≡ es
none_within p q [] h = refl
none_within p q (e ∷ es) h =
    ap (λ b. cond b (e ∷ outside p q es) (outside p q es)) (not_within p q e.0 h.0) ∙ ap (λ x. e ∷ x) (none_within p q es h.1)

pub none_in_none : (p q : ℕ) (es : Fragments) → q ≤ p → outside p q es ≡ es
none_in_none p q es h = none_within p q es (apart es)
  where
    apart : (xs : Fragments) → AllByRecursion (λ e. (e.0 < p) ⊎ (q ≤ e.0)) xs
    apart [] = tt
    apart (e ∷ xs) = (⊎_elim inl (λ l. inr (omega (arith, l, h))) (cases_lt e.0 p), apart xs)

early : (p k : ℕ) (f : Fragment) → begins_from p (k, f) ≡ false → k < p
early p k f h = ⊎_elim (λ l. l) (λ l. let z : true ≡ false = sym (le-leb p k l) ∙ h in cc) (cases_lt k p)

take_filter : (p : ℕ) (e : ℕ × Fragment) (es : Fragments) → begins_from p e ≡ true → filter (begins_from p) (e ∷ es) ≡ e ∷ filter (begins_from p) es
take_filter p e es h = ap (λ b. cond b (e ∷ filter (begins_from p) es) (filter (begins_from p) es)) h

skip_filter : (p : ℕ) (e : ℕ × Fragment) (es : Fragments) → begins_from p e ≡ false → filter (begins_from p) (e ∷ es) ≡ filter (begins_from p) es
skip_filter p e es h = ap (λ b. cond b (e ∷ filter (begins_from p) es) (filter (begins_from p) es)) h

pub none_from_here : (p q : ℕ) (es : Fragments) → filter (begins_from p) es ≡ [] → outside p q es ≡ es
none_from_here p q es h = none_within p q es (all_early es h)
  where
    all_early : (xs : Fragments) → filter (begins_from p) xs ≡ [] → AllByRecursion (λ e. (e.0 < p) ⊎ (q ≤ e.0)) xs
    all_early [] k = tt
    all_early (e ∷ xs) k = ⊎_elim
        (λ yes. let z : e ∷ filter (begins_from p) xs ≡ [] = sym (take_filter p e xs yes) ∙ k in cc)
        (λ no. (inl (early p e.0 e.1 no), all_early xs (sym (skip_filter p e xs no) ∙ k)))
        (cases_Bool (begins_from p e))

each_above : (k : ℕ) (es : Fragments) → AllByRecursion (λ y. nat_cmp k y ≡ Less) (keys_of es) → AllByRecursion (λ e. k < e.0) es
each_above k [] h = tt
each_above k (e ∷ es) h = (is_less k e.0 (ap is_lt h.0), each_above k es h.1)

-- Where the first of those from p on begins at q or later, none begins between.
pub first_too_late : (p q : ℕ) (es rest : Fragments) (k : ℕ) (f : Fragment) → IsStrictlySortedBy nat_cmp (keys_of es) → filter (begins_from p) es ≡ (k, f) ∷ rest → q ≤ k → outside p q es ≡ es
unfolding IsStrictlySortedBy
first_too_late p q [] rest k f s h l = cc
first_too_late p q (e ∷ es) rest k f s h l = ⊎_elim
    (λ yes.
    let this : e ≡ (k, f) = let z : e ∷ filter (begins_from p) es ≡ (k, f) ∷ rest = sym (take_filter p e es yes) ∙ h in cc in
    let at : e.0 ≡ k = ap (λ x. x.0) this in
    let above = each_above e.0 es s.0 in
    none_within p q (e ∷ es) (inr (omega arith), all_later es above (omega arith)))
    (λ no.
    let r = first_too_late p q es rest k f s.1 (sym (skip_filter p e es no) ∙ h) l in
    ap (λ b. cond b (e ∷ outside p q es) (outside p q es)) (not_within p q e.0 (inl (early p e.0 e.1 no))) ∙ ap (λ x. e ∷ x) r)
    (cases_Bool (begins_from p e))
  where
    all_later : (xs : Fragments) → AllByRecursion (λ x. e.0 < x.0) xs → q ≤ e.0 → AllByRecursion (λ x. (x.0 < p) ⊎ (q ≤ x.0)) xs
    all_later [] a b = tt
    all_later (x ∷ xs) a b = let c = a.0 in (inr (omega arith), all_later xs a.1 b)

-- ---- what is left when one is taken out
pub drop_within : (p q k : ℕ) → p ≤ k → k < q → not (leb p k && ltb k q) ≡ false
drop_within p q k l m = ap (λ t. not (t && ltb k q)) (le-leb p k l) ∙ ap not (lt-ltb k q m)

pub outside_removed : (p q k : ℕ) (es : Fragments) → p ≤ k → k < q → outside p q (remove_entry (is_at (nat_cmp k)) es) ≡ outside p q es
outside_removed p q k [] l m = refl
outside_removed p q k (e ∷ es) l m = ⊎_elim
    (λ (tied : is_at (nat_cmp k) e.0 ≡ true).
    let same : k ≡ e.0 = eqb-true k e.0 (sym (unsigned_tied k e.0) ∙ tied) in
    ap (λ t. outside p q (cond t es (e ∷ remove_entry (is_at (nat_cmp k)) es))) tied
    ∙ sym (ap (λ b. cond b (e ∷ outside p q es) (outside p q es)) (drop_within p q e.0 (omega arith) (omega arith))))
    (λ (apart : is_at (nat_cmp k) e.0 ≡ false).
    ap (λ t. outside p q (cond t es (e ∷ remove_entry (is_at (nat_cmp k)) es))) apart
    ∙ ap (λ x. cond (within p q e) (e ∷ x) x) (outside_removed p q k es l m))
    (cases_Bool (is_at (nat_cmp k) e.0))

pub short_removed : (test : ℕ → Bool) (es : Fragments) → AreShort es → AreShort (remove_entry test es)
short_removed test [] h = tt
short_removed test (e ∷ es) h = ⊎_elim
    (λ (yes : test e.0 ≡ true). subst AreShort (sym (ap (λ t. cond t es (e ∷ remove_entry test es)) yes)) h.1)
    (λ (no : test e.0 ≡ false). let k : AreShort (e ∷ remove_entry test es) = (h.0, short_removed test es h.1) in subst AreShort (sym (ap (λ t. cond t es (e ∷ remove_entry test es)) no)) k)
    (cases_Bool (test e.0))

pub short_found : (test : ℕ → Bool) (es : Fragments) (f : Fragment) → AreShort es → lookup test es ≡ Some f → length f.bytes ≤ file_max
short_found test [] f h is = absurd (none-some f is)
short_found test (e ∷ es) f h is = ⊎_elim
    (λ (yes : test e.0 ≡ true). let same = same_Some e.1 f (sym (ap (λ t. cond t (Some e.1) (lookup test es)) yes) ∙ is) in subst (λ (x : Fragment). length x.bytes ≤ file_max) same h.0)
    (λ (no : test e.0 ≡ false). short_found test es f h.1 (sym (ap (λ t. cond t (Some e.1) (lookup test es)) no) ∙ is))
    (cases_Bool (test e.0))

-- the marks that go with it
pub amount_removed : (v : ℕ) (test : ℕ → Bool) (es : Fragments) (f : Fragment) → lookup test es ≡ Some f → amount_by v (remove_entry test es) + part_by v f ≡ amount_by v es
amount_removed v test es f is = ap (λ o. amount_by v (remove_entry test es) + unwrap_or (option_map (part_by v) o) 0) (sym is) ∙ sum_by-remove_entry (part_by v) test es

-- What is there is counted for its own writer.
pub part_of_all : (test : ℕ → Bool) (es : Fragments) (f : Fragment) → lookup test es ≡ Some f → length f.bytes ≤ amount_by f.writer es
part_of_all test es f is =
    let a = amount_removed f.writer test es f is in
    let b : part_by f.writer f ≡ length f.bytes = ap (λ t. cond t (length f.bytes) 0) (eq-eqb f.writer f.writer refl) in
    omega arith

pub amount_inserted : (v k : ℕ) (f : Fragment) (es : Fragments) → IsStrictlySortedBy nat_cmp (keys_of es) → amount_by v (insert_entry nat_cmp es k f) + unwrap_or (option_map (part_by v) (lookup (is_at (nat_cmp k)) es)) 0 ≡ amount_by v es + part_by v f
amount_inserted v k f es s = sum_by-insert_entry (part_by v) nat_cmp_total es k f s

-- ---- marks that are moved
pub part_marks : (v i inode : ℕ) (f : Fragment) → cond (eqb v f.writer && eqb i inode) (length f.bytes) 0 ≡ cond (eqb i inode) (part_by v f) 0
part_marks v i inode f = ap (λ t. cond (t && eqb i inode) (length f.bytes) 0) (same_either_way v f.writer) ∙ by_tests (eqb f.writer v) (eqb i inode)
  where
    by_tests : (t u : Bool) → cond (t && u) (length f.bytes) 0 ≡ cond u (cond t (length f.bytes) 0) 0
    by_tests true true = refl
    by_tests true false = refl
    by_tests false true = refl
    by_tests false false = refl

pub sum_in : (t : Bool) (a b : ℕ) → cond t (a + b) 0 ≡ cond t a 0 + cond t b 0
sum_in true a b = refl
sum_in false a b = omega arith

pub same_in : (t : Bool) (a b : ℕ) → a ≡ b → cond t a 0 ≡ cond t b 0
same_in t a b e = ap (λ x. cond t x 0) e

-- one fragment taken out
pub one_moved : (v i inode : ℕ) (f : Fragment) (before after : ℕ) (was now : ℕ) → after + cond (eqb v f.writer && eqb i inode) (length f.bytes) 0 ≡ before → now + part_by v f ≡ was
    → after + cond (eqb i inode) was 0 ≡ before + cond (eqb i inode) now 0
one_moved v i inode f before after was now lowered left =
    let a = part_marks v i inode f in
    let b = same_in (eqb i inode) (now + part_by v f) was left in
    let c = sum_in (eqb i inode) now (part_by v f) in
    omega arith

-- one put in, instead of what began there
pub one_put : (v i inode : ℕ) (f : Fragment) (before after : ℕ) (was now new : ℕ) → after + cond (eqb v f.writer && eqb i inode) (length f.bytes) 0 ≡ before → now + part_by v f ≡ was + new
    → after + cond (eqb i inode) (was + new) 0 ≡ before + cond (eqb i inode) now 0
one_put v i inode f before after was now new lowered put =
    let a = part_marks v i inode f in
    let b = same_in (eqb i inode) (now + part_by v f) (was + new) put in
    let c = sum_in (eqb i inode) now (part_by v f) in
    omega arith

-- A count of one inode, in that inode and elsewhere.
pub own_count : (inode x : ℕ) → cond (eqb inode inode) x 0 ≡ x
own_count inode x = ap (λ b. cond b x 0) (eq-eqb inode inode refl)

pub other_count : (b : Bool) (x : ℕ) → b ≡ false → cond b x 0 ≡ 0
other_count b x other = ap (λ t. cond t x 0) other

pub still_marked : (old new : Counts) (inode : ℕ) (was now : Fragments) → MovesAmounts old new inode was now → HasAmounts old inode was → HasAmounts new inode now
still_marked old new inode was now moved has v =
    omega (arith, moved v inode, own_count inode (amount_by v was), own_count inode (amount_by v now), has v)
