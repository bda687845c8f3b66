-- Fragments found by their first offset, and one of them cut in two.
use Rattle.std.proofs.Common.{◌≡◌, ℕ, ◌+◌, ◌-◌, ◌<◌, ◌≤◌, Bool, true, false, cond, eqb, ltb, [], ◌∷◌, ◌++◌, length, map, take, drop, sum_by, ◌⊎◌, inl, inr, ⊎_elim, Some, refl, sym, ap, subst, ◌∙◌, arith, append_assoc, length-take, length-drop, nat_cmp}
use Rattle.std.specs.List.{AllByRecursion, filter}
use Rattle.std.specs.Ordering.{match_ordering}
use Rattle.std.specs.Cmp.{nat_cmp_is}
use Rattle.std.specs.declared.cmp.Ordering.{Ordering}
use Rattle.std.specs.declared.cmp.Ordering.TheVariants.{Less, Greater}
use Rattle.jffs_node.proofs.Each.{each_append, each_front}
use Rattle.std.specs.Map.{lookup, set_value, values_of}
use Rattle.std.proofs.lemmas.List.Sums.{sum_by-append, sum_by-cons}
use Rattle.std.specs.BTreeMap.{is_at, insert_entry}
use Rattle.std.proofs.lemmas.Bool.{cases_Bool, eqb-true, ne_eqb, eq-eqb, ltb-false}
use Rattle.std.proofs.lemmas.Option.{none-some, same_Some}
use Rattle.std.proofs.lemmas.List.{map-append, take-append-drop}
use Rattle.std.specs.Cmp.{unsigned_tied}
use Rattle.jffs_inodes.specs.declared.fragment.Fragment.{Fragment}
use Rattle.jffs_inodes.specs.Fragments.{Fragments, cells_of, end_of, before, laid, AreLaid, AreCut, SameCells, part_by, amount_by}
use Rattle.jffs_inodes.proofs.files.Fragments.{blanks, begins_within, are_laid_append, laid_append, laid_bound}

-- where the fragment of a first offset stands
pub record Found (k : ℕ) (f : Fragment) (es : Fragments) : Type 0 where
  pub front : Fragments
  pub back : Fragments
  pub whole : es ≡ front ++ (k, f) ∷ back

-- It stands there behind one more fragment too.
abbrev one_on : {k : ℕ} {f : Fragment} {es : Fragments} (e : ℕ × Fragment) → Found k f es → Found k f (e ∷ es)
one_on e r = record { front = e ∷ r.front; back = r.back; whole = ap (λ x. e ∷ x) r.whole }

pub found : (k : ℕ) (f : Fragment) (es : Fragments) → lookup (is_at (nat_cmp k)) es ≡ Some f → Found k f es
found k f [] is = absurd (none-some f is)
found k f (e ∷ es) is = ⊎_elim
    (λ tied.
    let same : k ≡ e.0 = eqb-true k e.0 (sym (unsigned_tied k e.0) ∙ tied) in
    let this : e.1 ≡ f = same_Some e.1 f (sym (ap (λ t. cond t (Some e.1) (lookup (is_at (nat_cmp k)) es)) tied) ∙ is) in
    record { front = []; back = es; whole = ap (λ j. (j, e.1) ∷ es) (sym same) ∙ ap (λ x. (k, x) ∷ es) this })
    (λ apart. one_on e (found k f es (sym (ap (λ t. cond t (Some e.1) (lookup (is_at (nat_cmp k)) es)) apart) ∙ is)))
    (cases_Bool (is_at (nat_cmp k) e.0))

-- what stands before a fragment, and after it
parts_around : (at size : ℕ) (a b : Fragments) (k : ℕ) (f : Fragment) → AreLaid at size (a ++ (k, f) ∷ b) → AreLaid at k a × (0 < length f.bytes) × AreLaid (k + length f.bytes) size b
parts_around at size [] b k f h = (h.0, h.1, h.2)
parts_around at size (e ∷ a) b k f h = let r = parts_around (end_of e) size a b k f h.2 in ((h.0, h.1, r.0), r.1, r.2)

pub laid_parts : {k : ℕ} {f : Fragment} {es : Fragments} (size : ℕ) (at : Found k f es) → AreLaid 0 size es → AreLaid 0 k at.front × (0 < length f.bytes) × AreLaid (k + length f.bytes) size at.back
laid_parts {k} {f} size at h = parts_around 0 size at.front at.back k f (subst (AreLaid 0 size) at.whole h)

-- ---- the last fragment that begins before an offset
abbrev pub begins_before : ℕ → (ℕ × Fragment) → Bool
begins_before p e = ltb e.0 p

abbrev pub AllFrom : ℕ → Fragments → Type 0
AllFrom p es = AllByRecursion (λ e. p ≤ e.0) es

pub none_begins_before : (p : ℕ) (es : Fragments) → filter (begins_before p) es ≡ [] → AllFrom p es
none_begins_before p [] h = tt
none_begins_before p (e ∷ es) h = ⊎_elim
    (λ yes. let k : e ∷ filter (begins_before p) es ≡ [] = sym (ap (λ b. cond b (e ∷ filter (begins_before p) es) (filter (begins_before p) es)) yes) ∙ h in absurd (no_first e (filter (begins_before p) es) k))
    (λ no. (ltb-false e.0 p no, none_begins_before p es (sym (ap (λ b. cond b (e ∷ filter (begins_before p) es) (filter (begins_before p) es)) no) ∙ h)))
    (cases_Bool (begins_before p e))
  where
    no_first : (x : ℕ × Fragment) (xs : Fragments) → x ∷ xs ≡ [] → ⊥
    no_first x xs k = cc

-- What begins at the offset before, or earlier, begins before it.
pub at_or_before : (p : ℕ) (es : Fragments) → 0 < p → before (p - 1 + 1) es ≡ before p es
at_or_before p es some = ap (λ q. before q es) (omega (arith, some))

-- where the last of those stands: the others that stand after it begin later
pub record LastBefore (p k : ℕ) (f : Fragment) (es : Fragments) : Type 0 where
  pub at : Found k f es
  pub later : AllFrom p at.back

pub last_before : (p : ℕ) (es t : Fragments) (k : ℕ) (f : Fragment) → filter (begins_before p) es ≡ t ++ (k, f) ∷ [] → LastBefore p k f es
last_before p [] [] k f h = cc
last_before p [] (x ∷ t) k f h = cc
last_before p (e ∷ es) t k f h = ⊎_elim
    (λ yes. taken (λ u g. last_before p es u k f g) t (sym (ap (λ b. cond b (e ∷ filter (begins_before p) es) (filter (begins_before p) es)) yes) ∙ h))
    (λ no.
    let r = last_before p es t k f (sym (ap (λ b. cond b (e ∷ filter (begins_before p) es) (filter (begins_before p) es)) no) ∙ h) in
    record { at = one_on e r.at; later = r.later })
    (cases_Bool (begins_before p e))
  where
    taken : ((u : Fragments) → filter (begins_before p) es ≡ u ++ (k, f) ∷ [] → LastBefore p k f es) → (u : Fragments) → e ∷ filter (begins_before p) es ≡ u ++ (k, f) ∷ [] → LastBefore p k f (e ∷ es)
    taken more [] g =
        let this : e ≡ (k, f) = cc in
        let rest : filter (begins_before p) es ≡ [] = cc in
        record { at = record { front = []; back = es; whole = ap (λ x. x ∷ es) this }; later = none_begins_before p es rest }
    taken more (x ∷ u) g =
        let rest : filter (begins_before p) es ≡ u ++ (k, f) ∷ [] = cc in
        let r = more u rest in
        record { at = one_on e r.at; later = r.later }

-- ---- where fragments are cut
pub cut_if_all_from : (p : ℕ) (es : Fragments) → AllFrom p es → AreCut p es
cut_if_all_from p [] h = tt
cut_if_all_from p (e ∷ es) h = (inr h.0, cut_if_all_from p es h.1)

pub cut_past : (at size p : ℕ) (es : Fragments) → AreLaid at size es → size ≤ p → AreCut p es
cut_past at size p [] h l = tt
cut_past at size p (e ∷ es) h l = let b = laid_bound (end_of e) size es h.2 in (inl (omega arith), cut_past (end_of e) size p es h.2 l)

pub all_later : (at size p : ℕ) (es : Fragments) → AreLaid at size es → p ≤ at → AllFrom p es
all_later at size p [] h l = tt
all_later at size p (e ∷ es) h l = (omega (arith, h.0), all_later (end_of e) size p es h.2 (omega arith))

-- The last fragment before p doesn't reach across it: none does.
pub cut_by_last : (size p k : ℕ) (f : Fragment) (es : Fragments) → AreLaid 0 size es → LastBefore p k f es → k + length f.bytes ≤ p → AreCut p es
cut_by_last size p k f es h l short =
    subst (AreCut p) (sym l.at.whole)
    (each_append (λ e. (end_of e ≤ p) ⊎ (p ≤ e.0)) l.at.front ((k, f) ∷ l.at.back) (cut_past 0 k p l.at.front (laid_parts size l.at h).0 (omega arith)) (inl short, cut_if_all_from p l.at.back l.later))

pub last_fits : (size p k : ℕ) (f : Fragment) (es : Fragments) → AreLaid 0 size es → LastBefore p k f es → k + length f.bytes ≤ size
last_fits size p k f es h l = laid_bound (k + length f.bytes) size l.at.back (laid_parts size l.at h).2

-- A fragment that is found lies within the file, and no other reaches across its ends.
pub record Whole (size k : ℕ) (f : Fragment) (es : Fragments) : Type 0 where
  pub fits : k + length f.bytes ≤ size
  pub first : AreCut k es
  pub end : AreCut (k + length f.bytes) es

pub whole_there : (size k : ℕ) (f : Fragment) (es : Fragments) → AreLaid 0 size es → lookup (is_at (nat_cmp k)) es ≡ Some f → Whole size k f es
whole_there size k f es h is =
    let at = found k f es is in
    let end = k + length f.bytes in
    let parts = laid_parts size at h in
    let here : k ≤ k = omega arith in
    let low : k ≤ end = omega arith in
    let there : end ≤ end = omega arith in
    record {
      fits = laid_bound end size at.back parts.2;
      first = subst (AreCut k) (sym at.whole)
          (each_append (λ e. (end_of e ≤ k) ⊎ (k ≤ e.0)) at.front ((k, f) ∷ at.back) (cut_past 0 k k at.front parts.0 here)
          (inr here, cut_if_all_from k at.back (all_later end size k at.back parts.2 low)));
      end = subst (AreCut end) (sym at.whole)
          (each_append (λ e. (end_of e ≤ end) ⊎ (end ≤ e.0)) at.front ((k, f) ∷ at.back) (cut_past 0 k end at.front parts.0 low)
          (inl there, cut_if_all_from end at.back (all_later end size end at.back parts.2 there)));
    }

-- ---- one fragment cut in two
pub greater : (x y : ℕ) → y < x → nat_cmp x y ≡ Greater
greater x y l = sym (nat_cmp_is x y Greater l)

pub less : (x y : ℕ) → x < y → nat_cmp x y ≡ Less
less x y l = sym (nat_cmp_is x y Less l)

put_first : (p : ℕ) (x : Fragment) (at size : ℕ) (b : Fragments) → p < at → AreLaid at size b → insert_entry nat_cmp b p x ≡ (p, x) ∷ b
put_first p x at size [] l h = refl
put_first p x at size (e ∷ b) l h = ap (λ (o : Ordering). match_ordering o ((p, x) ∷ e ∷ b) ((e.0, x) ∷ b) (e ∷ insert_entry nat_cmp b p x)) (less p e.0 (omega (arith, h.0)))

put_after : (p : ℕ) (x : Fragment) (at : ℕ) (k : ℕ) (f : Fragment) (a b : Fragments) → AreLaid at k a → k < p → insert_entry nat_cmp b p x ≡ (p, x) ∷ b → insert_entry nat_cmp (a ++ (k, f) ∷ b) p x ≡ a ++ (k, f) ∷ (p, x) ∷ b
put_after p x at k f [] b h l is =
    ap (λ (o : Ordering). match_ordering o ((p, x) ∷ (k, f) ∷ b) ((k, x) ∷ b) ((k, f) ∷ insert_entry nat_cmp b p x)) (greater p k l) ∙ ap (λ y. (k, f) ∷ y) is
put_after p x at k f (e ∷ a) b h l is =
    ap (λ (o : Ordering). match_ordering o ((p, x) ∷ e ∷ (a ++ (k, f) ∷ b)) ((e.0, x) ∷ (a ++ (k, f) ∷ b)) (e ∷ insert_entry nat_cmp (a ++ (k, f) ∷ b) p x)) (greater p e.0 (omega (arith, begins_within at k e a h)))
    ∙ ap (λ y. e ∷ y) (put_after p x (end_of e) k f a b h.2 l is)

pub set_after : (k : ℕ) (f x : Fragment) (at : ℕ) (a b : Fragments) → AreLaid at k a → set_value (is_at (nat_cmp k)) (a ++ (k, f) ∷ b) x ≡ a ++ (k, x) ∷ b
set_after k f x at [] b h = ap (λ t. cond t ((k, x) ∷ b) ((k, f) ∷ set_value (is_at (nat_cmp k)) b x)) (unsigned_tied k k ∙ eq-eqb k k refl)
set_after k f x at (e ∷ a) b h =
    ap (λ t. cond t ((e.0, x) ∷ (a ++ (k, f) ∷ b)) (e ∷ set_value (is_at (nat_cmp k)) (a ++ (k, f) ∷ b) x)) (unsigned_tied k e.0 ∙ ne_eqb k e.0 (λ same. omega (arith, begins_within at k e a h)))
    ∙ ap (λ y. e ∷ y) (set_after k f x (end_of e) a b h.2)

pub amount_append : (v : ℕ) (a b : Fragments) → amount_by v (a ++ b) ≡ amount_by v a + amount_by v b
amount_append v a b = ap (λ x. sum_by (part_by v) x) (map-append (λ (e : ℕ × Fragment). e.1) a b) ∙ sum_by-append (part_by v) (values_of a) (values_of b)

pub amount_cons : (v : ℕ) (e : ℕ × Fragment) (b : Fragments) → amount_by v (e ∷ b) ≡ part_by v e.1 + amount_by v b
amount_cons v e b = sum_by-cons (part_by v) e.1 (values_of b)

module _ (k p : ℕ) (f : Fragment) (low : k < p) (high : p < k + length f.bytes) where
  abbrev pub left : Fragment
  left = record { bytes = take (p - k) f.bytes; writer = f.writer }

  abbrev pub right : Fragment
  right = record { bytes = drop (p - k) f.bytes; writer = f.writer }

  -- The left part ends where the right one begins, and that one where the fragment ended.
  left_end : k + length left.bytes ≡ p
  left_end = omega (arith, length-take (p - k) f.bytes)

  right_end : p + length right.bytes ≡ k + length f.bytes
  right_end = omega (arith, length-drop (p - k) f.bytes)

  parts_sum : (v : ℕ) → part_by v f ≡ part_by v left + part_by v right
  parts_sum v = by_test (eqb f.writer v) (omega (arith, left_end, right_end))
    where
      by_test : (t : Bool) → length f.bytes ≡ length (take (p - k) f.bytes) + length (drop (p - k) f.bytes) → cond t (length f.bytes) 0 ≡ cond t (length (take (p - k) f.bytes)) 0 + cond t (length (drop (p - k) f.bytes)) 0
      by_test true n = n
      by_test false n = omega arith

  cells_split : cells_of f ≡ cells_of left ++ cells_of right
  cells_split = ap (λ x. map (λ b. Some (b, f.writer)) x) (sym (take-append-drop (p - k) f.bytes)) ∙ map-append (λ b. Some (b, f.writer)) (take (p - k) f.bytes) (drop (p - k) f.bytes)

  laid_split : (size : ℕ) (b : Fragments) → AreLaid k size ((k, f) ∷ b) → AreLaid k size ((k, left) ∷ (p, right) ∷ b)
  laid_split size b h = (h.0, omega (arith, left_end), (omega (arith, left_end), omega (arith, right_end), subst (λ x. AreLaid x size b) (sym right_end) h.2))

  cells_stay : (size : ℕ) (b : Fragments) → laid k size ((k, left) ∷ (p, right) ∷ b) ≡ laid k size ((k, f) ∷ b)
  cells_stay size b =
      let gap : p - (k + length left.bytes) ≡ 0 = omega (arith, left_end) in
      let start = blanks (k - k) in
      let rest : blanks (p - (k + length left.bytes)) ++ (cells_of right ++ laid (p + length right.bytes) size b) ≡ cells_of right ++ laid (k + length f.bytes) size b =
      ap (λ x. blanks x ++ (cells_of right ++ laid (p + length right.bytes) size b)) gap ∙ ap (λ x. cells_of right ++ laid x size b) right_end in
      ap (λ x. start ++ (cells_of left ++ x)) rest
      ∙ ap (λ x. start ++ x) (sym (append_assoc (cells_of left) (cells_of right) (laid (k + length f.bytes) size b)))
      ∙ ap (λ x. start ++ (x ++ laid (k + length f.bytes) size b)) (sym cells_split)

  -- Cut in two, a fragment says of its offsets what it said.
  pub split_same : (a b : Fragments) → SameCells (a ++ (k, f) ∷ b) (a ++ (k, left) ∷ (p, right) ∷ b)
  split_same a b = record {
    stay = λ size h. let q = parts_around 0 size a b k f h in are_laid_append 0 k size a ((k, left) ∷ (p, right) ∷ b) q.0 (laid_split size b (omega arith, q.1, q.2));
    cells = λ size h.
        let q = parts_around 0 size a b k f h in
        let whole : AreLaid k size ((k, f) ∷ b) = (omega arith, q.1, q.2) in
        laid_append 0 k size a ((k, left) ∷ (p, right) ∷ b) q.0 (laid_split size b whole)
        ∙ ap (λ x. laid 0 k a ++ x) (cells_stay size b)
        ∙ sym (laid_append 0 k size a ((k, f) ∷ b) q.0 whole);
    amounts = λ v.
        let s = parts_sum v in
        let x = amount_append v a ((k, f) ∷ b) in
        let x1 = amount_cons v (k, f) b in
        let y = amount_append v a ((k, left) ∷ (p, right) ∷ b) in
        let y1 = amount_cons v (k, left) ((p, right) ∷ b) in
        let y2 = amount_cons v (p, right) b in
        omega arith;
    cuts = λ q h.
        let parts = each_front (λ e. (end_of e ≤ q) ⊎ (q ≤ e.0)) a ((k, f) ∷ b) h in
        each_append (λ e. (end_of e ≤ q) ⊎ (q ≤ e.0)) a ((k, left) ∷ (p, right) ∷ b) parts.0 (cut_left q parts.1.0, (cut_right q parts.1.0, parts.1.1));
  }
    where
      cut_left : (q : ℕ) → ((k + length f.bytes) ≤ q) ⊎ (q ≤ k) → ((k + length left.bytes) ≤ q) ⊎ (q ≤ k)
      cut_left q h = ⊎_elim (λ x. inl (omega (arith, left_end))) (λ x. inr x) h

      cut_right : (q : ℕ) → ((k + length f.bytes) ≤ q) ⊎ (q ≤ k) → ((p + length right.bytes) ≤ q) ⊎ (q ≤ p)
      cut_right q h = ⊎_elim (λ x. inl (omega (arith, right_end))) (λ x. inr (omega arith)) h

  -- And nothing reaches across the cut.
  pub split_cuts : (at size : ℕ) (a b : Fragments) → AreLaid at size (a ++ (k, f) ∷ b) → AreCut p (a ++ (k, left) ∷ (p, right) ∷ b)
  split_cuts at size a b h =
      let q = parts_around at size a b k f h in
      let ends : k + length left.bytes ≤ p = omega (arith, left_end) in
      let here : p ≤ p = omega arith in
      each_append (λ e. (end_of e ≤ p) ⊎ (p ≤ e.0)) a ((k, left) ∷ (p, right) ∷ b) (cut_past at k p a q.0 (omega arith))
      (inl ends, (inr here, cut_if_all_from p b (all_later (k + length f.bytes) size p b q.2 (omega arith))))

  -- What the map's calls leave: the right part put in, then the left one instead of the whole.
  pub split_entries : (size : ℕ) (a b es : Fragments) → es ≡ a ++ (k, f) ∷ b → AreLaid 0 size es
      → set_value (is_at (nat_cmp k)) (insert_entry nat_cmp es p right) left ≡ a ++ (k, left) ∷ (p, right) ∷ b
  split_entries size a b es is h =
      let q = parts_around 0 size a b k f (subst (AreLaid 0 size) is h) in
      let put : insert_entry nat_cmp es p right ≡ a ++ (k, f) ∷ (p, right) ∷ b =
      ap (λ x. insert_entry nat_cmp x p right) is ∙ put_after p right 0 k f a b q.0 low (put_first p right (k + length f.bytes) size b high q.2) in
      ap (λ x. set_value (is_at (nat_cmp k)) x left) put ∙ set_after k f left 0 a ((p, right) ∷ b) q.0

-- After a cut of the fragment found at k.
pub record CutThere (p : ℕ) (old new : Fragments) : Type 0 where
  pub same : SameCells old new
  pub cut : AreCut p new

pub cut_there : (size k p : ℕ) (f : Fragment) (es new : Fragments) → AreLaid 0 size es → lookup (is_at (nat_cmp k)) es ≡ Some f → k < p → p < k + length f.bytes
    → (x y : Fragment) → x ≡ record { bytes = take (p - k) f.bytes; writer = f.writer } → y ≡ record { bytes = drop (p - k) f.bytes; writer = f.writer }
    → new ≡ set_value (is_at (nat_cmp k)) (insert_entry nat_cmp es p y) x → CutThere p es new
cut_there size k p f es new h is low high x y is_left is_right made =
    let at = found k f es is in
    let whole = subst (AreLaid 0 size) at.whole h in
    let entries : new ≡ at.front ++ (k, record { bytes = take (p - k) f.bytes; writer = f.writer }) ∷ (p, record { bytes = drop (p - k) f.bytes; writer = f.writer }) ∷ at.back =
    made ∙ ap (λ z. set_value (is_at (nat_cmp k)) (insert_entry nat_cmp es p z) x) is_right
    ∙ ap (λ z. set_value (is_at (nat_cmp k)) (insert_entry nat_cmp es p (record { bytes = drop (p - k) f.bytes; writer = f.writer })) z) is_left
    ∙ split_entries k p f low high size at.front at.back es at.whole h in
    record {
      same = subst (λ z. SameCells es z) (sym entries) (subst (λ z. SameCells z (at.front ++ (k, record { bytes = take (p - k) f.bytes; writer = f.writer }) ∷ (p, record { bytes = drop (p - k) f.bytes; writer = f.writer }) ∷ at.back)) (sym at.whole) (split_same k p f low high at.front at.back));
      cut = subst (AreCut p) (sym entries) (split_cuts k p f low high 0 size at.front at.back whole);
    }
