-- A node's data instead of the fragments that they cover.
use Rattle.std.proofs.Common.{◌≡◌, ℕ, ◌+◌, ◌<◌, ◌≤◌, min, true, false, cond, eqb, [], ◌∷◌, ◌++◌, length, ◌⊎◌, inl, inr, ⊎_elim, Option, Some, None, refl, sym, ap, subst, ◌∙◌, arith, nat_cmp}
use Rattle.std.specs.Ordering.{match_ordering}
use Rattle.std.specs.Cmp.{nat_cmp_is}
use Rattle.std.specs.BTreeMap.{insert_entry, is_at}
use Rattle.std.specs.List.{AllByRecursion}
use Rattle.std.specs.Map.{lookup}
use Rattle.std.specs.Option.{option_map_or}
use Rattle.std.specs.declared.cmp.Ordering.{Ordering}
use Rattle.std.specs.declared.cmp.Ordering.TheVariants.{Less, Equal, Greater}
use Rattle.std.proofs.lemmas.Bool.{cases_lt, cases_order, le-leb, lt-leb, lt-ltb, le-ltb}
use Rattle.jffs_node.proofs.Each.{each_append}
use Rattle.jffs_node.specs.declared.node.Node.{Node}
use Rattle.jffs_node.specs.Record.{dsize, file_max}
use Rattle.jffs_marks.proofs.Marking.{same_either_way}
use Rattle.jffs_inodes.specs.declared.fragment.Fragment.{Fragment}
use Rattle.jffs_inodes.specs.Marked.{brought_by}
use Rattle.jffs_inodes.specs.Fragments.{Fragments, end_of, AreLaid, AreShort, before, from, outside, with_node_data, part_by}
use Rattle.jffs_inodes.proofs.files.Fragments.{laid_bound, none_before}
use Rattle.jffs_inodes.proofs.files.Taking.{not_within, none_within, drop_within, short_found}
use Rattle.jffs_inodes.proofs.files.Splitting.{found, laid_parts}

pub short_from_laid : (at size : ℕ) (es : Fragments) → AreLaid at size es → size ≤ file_max → AreShort es
short_from_laid at size [] h l = tt
short_from_laid at size (e ∷ es) h l = let b = laid_bound (end_of e) size es h.2 in (omega arith, short_from_laid (end_of e) size es h.2 l)

pub short_inserted : (k : ℕ) (f : Fragment) (es : Fragments) → AreShort es → length f.bytes ≤ file_max → AreShort (insert_entry nat_cmp es k f)
short_inserted k f [] h l = (l, tt)
short_inserted k f (e ∷ es) h l = by_order (nat_cmp k e.0) (short_inserted k f es h.1 l)
  where
    by_order : (o : Ordering) → AreShort (insert_entry nat_cmp es k f) → AreShort (match_ordering o ((k, f) ∷ e ∷ es) ((e.0, f) ∷ es) (e ∷ insert_entry nat_cmp es k f))
    by_order Less r = (l, (h.0, h.1))
    by_order Equal r = (l, h.1)
    by_order Greater r = (h.0, r)

keeps_before : (p k : ℕ) (e : ℕ × Fragment) (es : Fragments) → e.0 < p → before p (e ∷ es) ≡ e ∷ before p es
keeps_before p k e es l = ap (λ b. cond b (e ∷ before p es) (before p es)) (lt-ltb e.0 p l)

no_before : (p : ℕ) (e : ℕ × Fragment) (es : Fragments) → p ≤ e.0 → before p (e ∷ es) ≡ before p es
no_before p e es l = ap (λ b. cond b (e ∷ before p es) (before p es)) (le-ltb e.0 p l)

keeps_from : (q : ℕ) (e : ℕ × Fragment) (es : Fragments) → q ≤ e.0 → from q (e ∷ es) ≡ e ∷ from q es
keeps_from q e es l = ap (λ b. cond b (e ∷ from q es) (from q es)) (le-leb q e.0 l)

no_from : (q : ℕ) (e : ℕ × Fragment) (es : Fragments) → e.0 < q → from q (e ∷ es) ≡ from q es
no_from q e es l = ap (λ b. cond b (e ∷ from q es) (from q es)) (lt-leb q e.0 l)

keeps_outside : (p q : ℕ) (e : ℕ × Fragment) (es : Fragments) → (e.0 < p) ⊎ (q ≤ e.0) → outside p q (e ∷ es) ≡ e ∷ outside p q es
keeps_outside p q e es h = ap (λ b. cond b (e ∷ outside p q es) (outside p q es)) (not_within p q e.0 h)

no_outside : (p q : ℕ) (e : ℕ × Fragment) (es : Fragments) → p ≤ e.0 → e.0 < q → outside p q (e ∷ es) ≡ outside p q es
no_outside p q e es l m = ap (λ b. cond b (e ∷ outside p q es) (outside p q es)) (drop_within p q e.0 l m)

pub outside_parts : (at size p q : ℕ) (es : Fragments) → AreLaid at size es → p ≤ q → outside p q es ≡ before p es ++ from q es
outside_parts at size p q [] h l = refl
outside_parts at size p q (e ∷ es) h l =
    let r = outside_parts (end_of e) size p q es h.2 l in
    ⊎_elim
    (λ early.
    keeps_outside p q e es (inl early) ∙ ap (λ x. e ∷ x) r
    ∙ ap (λ x. e ∷ (before p es ++ x)) (sym (no_from q e es (omega arith)))
    ∙ ap (λ x. x ++ from q (e ∷ es)) (sym (keeps_before p e.0 e es early)))
    (λ later.
    let none : before p es ≡ [] = none_before (end_of e) size p es h.2 (omega arith) in
    let none_here : before p (e ∷ es) ≡ [] = no_before p e es later ∙ none in
    let rest : outside p q es ≡ from q es = r ∙ ap (λ x. x ++ from q es) none in
    ⊎_elim
    (λ inside. no_outside p q e es later inside ∙ rest ∙ sym (no_from q e es inside) ∙ ap (λ x. x ++ from q (e ∷ es)) (sym none_here))
    (λ past. keeps_outside p q e es (inr past) ∙ ap (λ x. e ∷ x) rest ∙ sym (keeps_from q e es past) ∙ ap (λ x. x ++ from q (e ∷ es)) (sym none_here))
    (cases_lt e.0 q))
    (cases_lt e.0 p)

pub insert_outside : (at size p q : ℕ) (f : Fragment) (es : Fragments) → AreLaid at size es → p < q → outside (p + 1) q (insert_entry nat_cmp es p f) ≡ before p es ++ ((p, f) ∷ from q es)
insert_outside at size p q f [] h l = keeps_outside (p + 1) q (p, f) [] (inl (omega arith))
insert_outside at size p q f (e ∷ es) h l = ⊎_elim
    (λ same.
    let none : before p es ≡ [] = none_before (end_of e) size p es h.2 (omega arith) in
    let none_next : before (p + 1) es ≡ [] = let some = h.1 in none_before (end_of e) size (p + 1) es h.2 (omega arith) in
    let none_here : before p (e ∷ es) ≡ [] = no_before p e es (omega arith) ∙ none in
    ap (λ (o : Ordering). outside (p + 1) q (match_ordering o ((p, f) ∷ e ∷ es) ((e.0, f) ∷ es) (e ∷ insert_entry nat_cmp es p f))) (sym (nat_cmp_is p e.0 Equal same))
    ∙ keeps_outside (p + 1) q (e.0, f) es (inl (omega arith))
    ∙ ap (λ x. (e.0, f) ∷ x) (outside_parts (end_of e) size (p + 1) q es h.2 (omega arith) ∙ ap (λ x. x ++ from q es) none_next)
    ∙ ap (λ k. (k, f) ∷ from q es) (sym same)
    ∙ ap (λ x. (p, f) ∷ x) (sym (no_from q e es (omega arith)))
    ∙ ap (λ x. x ++ ((p, f) ∷ from q (e ∷ es))) (sym none_here))
    (λ apart. ⊎_elim
    (λ less.
    let none_here : before p (e ∷ es) ≡ [] = no_before p e es (omega arith) ∙ none_before (end_of e) size p es h.2 (omega arith) in
    let none_next : before (p + 1) (e ∷ es) ≡ [] = no_before (p + 1) e es (omega arith) ∙ none_before (end_of e) size (p + 1) es h.2 (omega arith) in
    ap (λ (o : Ordering). outside (p + 1) q (match_ordering o ((p, f) ∷ e ∷ es) ((e.0, f) ∷ es) (e ∷ insert_entry nat_cmp es p f))) (sym (nat_cmp_is p e.0 Less less))
    ∙ keeps_outside (p + 1) q (p, f) (e ∷ es) (inl (omega arith))
    ∙ ap (λ x. (p, f) ∷ x) (outside_parts at size (p + 1) q (e ∷ es) h (omega arith) ∙ ap (λ x. x ++ from q (e ∷ es)) none_next)
    ∙ ap (λ x. x ++ ((p, f) ∷ from q (e ∷ es))) (sym none_here))
    (λ more.
    ap (λ (o : Ordering). outside (p + 1) q (match_ordering o ((p, f) ∷ e ∷ es) ((e.0, f) ∷ es) (e ∷ insert_entry nat_cmp es p f))) (sym (nat_cmp_is p e.0 Greater more))
    ∙ keeps_outside (p + 1) q e (insert_entry nat_cmp es p f) (inl (omega arith))
    ∙ ap (λ x. e ∷ x) (insert_outside (end_of e) size p q f es h.2 l)
    ∙ ap (λ x. e ∷ (before p es ++ ((p, f) ∷ x))) (sym (no_from q e es (omega arith)))
    ∙ ap (λ x. x ++ ((p, f) ∷ from q (e ∷ es))) (sym (keeps_before p e.0 e es more)))
    apart)
    (cases_order p e.0)

-- ---- where the fragment that a new one replaces reached as far
abbrev pub Beside : ℕ → ℕ → Fragments → Type 0
Beside p q es = AllByRecursion (λ e. (e.0 < p) ⊎ (q ≤ e.0)) es

beside_inserted : (p q k : ℕ) (f : Fragment) (es : Fragments) → Beside p q es → (k < p) ⊎ (q ≤ k) → Beside p q (insert_entry nat_cmp es k f)
beside_inserted p q k f [] h l = (l, tt)
beside_inserted p q k f (e ∷ es) h l = by_order (nat_cmp k e.0) (beside_inserted p q k f es h.1 l)
  where
    by_order : (o : Ordering) → Beside p q (insert_entry nat_cmp es k f) → Beside p q (match_ordering o ((k, f) ∷ e ∷ es) ((e.0, f) ∷ es) (e ∷ insert_entry nat_cmp es k f))
    by_order Less r = (l, (h.0, h.1))
    by_order Equal r = (h.0, h.1)
    by_order Greater r = (h.0, r)

all_early : (at size p q : ℕ) (es : Fragments) → AreLaid at size es → size < p → Beside p q es
all_early at size p q [] h l = tt
all_early at size p q (e ∷ es) h l = let b = laid_bound (end_of e) size es h.2 in (inl (omega arith), all_early (end_of e) size p q es h.2 l)

all_late : (at size p q : ℕ) (es : Fragments) → AreLaid at size es → min q size ≤ at → Beside p q es
all_late at size p q [] h l = tt
all_late at size p q (e ∷ es) h l =
    let b = laid_bound (end_of e) size es h.2 in
    let some = h.1 in
    let low = h.0 in
    (inr (omega arith), all_late (end_of e) size p q es h.2 (omega arith))

abbrev pub covered_at : ℕ → Fragments → ℕ
covered_at p es = option_map_or (λ (f : Fragment). length f.bytes) (lookup (is_at (nat_cmp p)) es) 0

pub covered_short : (p : ℕ) (es : Fragments) → AreShort es → covered_at p es ≤ file_max
covered_short p es h = by_found (lookup (is_at (nat_cmp p)) es) (λ f is. short_found (is_at (nat_cmp p)) es f h is) refl
  where
    by_found : (o : Option Fragment) → ((f : Fragment) → lookup (is_at (nat_cmp p)) es ≡ Some f → length f.bytes ≤ file_max) → lookup (is_at (nat_cmp p)) es ≡ o → option_map_or (λ (f : Fragment). length f.bytes) o 0 ≤ file_max
    by_found None short is = omega arith
    by_found (Some f) short is = short f is

others_beside : (size p q : ℕ) (es : Fragments) → AreLaid 0 size es → p < q → min q size ≤ p + covered_at p es → Beside (p + 1) q es
others_beside size p q es h low far = by_found (lookup (is_at (nat_cmp p)) es) refl far
  where
    by_found : (o : Option Fragment) → lookup (is_at (nat_cmp p)) es ≡ o → min q size ≤ p + option_map_or (λ (f : Fragment). length f.bytes) o 0 → Beside (p + 1) q es
    by_found None is l = all_early 0 size (p + 1) q es h (omega arith)
    by_found (Some f) is l =
        let here = found p f es is in
        let parts = laid_parts size here h in
        subst (Beside (p + 1) q) (sym here.whole)
        (each_append (λ e. (e.0 < p + 1) ⊎ (q ≤ e.0)) here.front ((p, f) ∷ here.back) (all_early 0 p (p + 1) q here.front parts.0 (omega arith))
        (inl (omega arith), all_late (p + length f.bytes) size (p + 1) q here.back parts.2 l))

pub covers_all : (size p q covered : ℕ) (x : Fragment) (es : Fragments) → AreLaid 0 size es → covered ≡ covered_at p es → p < q → min q size ≤ p + covered
    → insert_entry nat_cmp es p x ≡ before p es ++ ((p, x) ∷ from q es)
covers_all size p q covered x es h is low far =
    sym (none_within (p + 1) q (insert_entry nat_cmp es p x) (beside_inserted (p + 1) q p x es (others_beside size p q es h low (subst (λ k. min q size ≤ p + k) is far)) (inl (omega arith))))
    ∙ insert_outside 0 size p q x es h low

pub no_data : (end : ℕ) (n : Node) (es : Fragments) → eqb (dsize n) 0 ≡ true → with_node_data end n es ≡ before n.offset es ++ from end es
no_data end n es h = ap (λ b. before n.offset es ++ (cond b [] ((n.offset, record { bytes = n.bytes; writer = n.version }) ∷ []) ++ from end es)) h

pub some_data : (end : ℕ) (n : Node) (es : Fragments) → eqb (dsize n) 0 ≡ false → with_node_data end n es ≡ before n.offset es ++ ((n.offset, record { bytes = n.bytes; writer = n.version }) ∷ from end es)
some_data end n es h = ap (λ b. before n.offset es ++ (cond b [] ((n.offset, record { bytes = n.bytes; writer = n.version }) ∷ []) ++ from end es)) h

pub brought_part : (v : ℕ) (n : Node) → part_by v (record { bytes = n.bytes; writer = n.version }) ≡ brought_by v n
brought_part v n = ap (λ t. cond t (length n.bytes) 0) (same_either_way n.version v)
