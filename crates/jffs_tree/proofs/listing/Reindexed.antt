-- The index of children after a node.
use Rattle.std.proofs.Common.{◌≡◌, ℕ, Bool, true, false, cond, ◌&&◌, eqb, List, [], ◌⊎◌, inl, inr, Option, Some, None, option_map, refl, sym, ap, ◌∙◌, ⊎_elim}
use Rattle.std.specs.Option.{option_map_or, unwrap_or}
use Rattle.std.specs.Cmp.{both_ways}
use Rattle.std.specs.BTreeMap.{is_at}
use Rattle.std.proofs.lemmas.Bool.{cases_Bool, and_parts, and_from, eqb-true, eq-eqb}
use Rattle.std.proofs.lemmas.Slice.Eq.{bytes_eq-Decides}
use Rattle.jffs_node.specs.declared.node.Node.{Node}
use Rattle.jffs_inodes.specs.Held.{Held, held_after}
use Rattle.jffs_inodes.specs.Inodes.{Tree, held_in, without_inode, WritesInode}
use Rattle.jffs_tree.specs.Look.{parent_name_in}
use Rattle.jffs_tree.specs.Index.{ChildKey, key_cmp, has_child, is_named, stands_at, IsIndexOf}
use Rattle.jffs_tree.proofs.listing.KeyOrder.{same_key, own_key}
use Rattle.jffs_tree.proofs.listing.Indexed.{named_by, names}
use Rattle.jffs_inodes.proofs.Put.{find_without}

abbrev pub tied : ChildKey → ChildKey → Bool
tied a q = is_at (key_cmp a) q

-- where an inode stands is its one key
own_stand : (p : ℕ) (name : List ℕ) (i : ℕ) (q : ChildKey) → i ≡ q.2 → ((eqb p q.0) && is_named name q.1) ≡ tied (p, Some name, i) q
own_stand p name i q at = both_ways ((eqb p q.0) && is_named name q.1) (tied (p, Some name, i) q)
    (λ h.
    let parts = and_parts (eqb p q.0) (is_named name q.1) h in
    let a = eqb-true p q.0 parts.0 in
    let b = named_by name q.1 parts.1 in
    ap (λ (x : ChildKey). tied (p, Some name, i) x) (λ j. (sym a j, b j, sym at j)) ∙ own_key (p, Some name, i))
    (λ h.
    let e = same_key (p, Some name, i) q h in
    and_from (eqb p q.0) (is_named name q.1) (eq-eqb p q.0 (ap (λ (x : ChildKey). x.0) e)) (ap (λ (x : ChildKey). is_named name x.1) (sym e) ∙ names name))

apart : (a q : ChildKey) → eqb a.2 q.2 ≡ false → tied a q ≡ false
apart a q other = ⊎_elim
    (λ yes. let same : eqb a.2 q.2 ≡ true = eq-eqb a.2 q.2 (ap (λ (x : ChildKey). x.2) (same_key a q yes)) in cc)
    (λ n. n)
    (cases_Bool (tied a q))

-- the key where an inode stood
abbrev stood : Option (ℕ × List ℕ) → ℕ → ChildKey → Bool
stood None i q = false
stood (Some o) i q = tied (o.0, Some o.1, i) q

stands_there : (tree : Tree) (i : ℕ) (q : ChildKey) → i ≡ q.2 → stands_at tree q ≡ stood (parent_name_in tree i) i q
stands_there tree i q at = ap (λ k. option_map_or (λ h. (eqb h.entry.parent q.0) && is_named h.entry.name q.1) (held_in tree k) false) (sym at) ∙ by_held (held_in tree i)
  where
    by_held : (o : Option Held) → option_map_or (λ h. (eqb h.entry.parent q.0) && is_named h.entry.name q.1) o false ≡ stood (option_map (λ h. (h.entry.parent, h.entry.name)) o) i q
    by_held None = refl
    by_held (Some h) = own_stand h.entry.parent h.entry.name i q at

-- Tests on one key.
added : (t : Bool) → cond t true false ≡ t
added true = refl
added false = refl

again : (t : Bool) → cond t true t ≡ t
again true = refl
again false = refl

moved_on : (t o : Bool) → (o ≡ true → t ≡ false) → cond o false (cond t true o) ≡ t
moved_on true true h = let never = h refl in cc
moved_on false true h = refl
moved_on true false h = refl
moved_on false false h = refl

gone : (o : Bool) → cond o false o ≡ false
gone true = refl
gone false = refl

module _ (old new : Tree) (n : Node) (name : List ℕ) (before : List ChildKey) (index : IsIndexOf old before) where
  abbrev pub here : ChildKey
  here = (n.parent, Some name, n.inode)

  -- what the index has of each key after the inode's new one is entered and its old one is left
  abbrev pub Left : Option (ℕ × List ℕ) → List ChildKey → Type 0
  Left None after = (q : ChildKey) → has_child after q ≡ cond (tied here q) true (has_child before q)
  Left (Some o) after = ((q : ChildKey) → has_child after q ≡ cond (tied (o.0, Some o.1, n.inode) q) false (cond (tied here q) true (has_child before q))) × (tied (o.0, Some o.1, n.inode) here ≡ false)
      ⊎ ((q : ChildKey) → has_child after q ≡ cond (tied here q) true (has_child before q)) × (◌≡◌ {A = ℕ × List ℕ} o (n.parent, name))

  module _ (after : List ChildKey) (is : n.name ≡ Some name) (w : WritesInode old new n) where
    at_inode : (q : ChildKey) → n.inode ≡ q.2 → stands_at new q ≡ tied here q
    at_inode q at =
        ap (λ o. option_map_or (λ h. (eqb h.entry.parent q.0) && is_named h.entry.name q.1) o false)
        (w.found q.2 ∙ ap (λ b. cond b (Some (held_after n (held_in old q.2))) (held_in old q.2)) (eq-eqb n.inode q.2 at))
        ∙ ap (λ o. (eqb n.parent q.0) && is_named (unwrap_or o []) q.1) is
        ∙ own_stand n.parent name n.inode q at

    elsewhere : (q : ChildKey) → eqb n.inode q.2 ≡ false → stands_at new q ≡ stands_at old q
    elsewhere q other = ap (λ o. option_map_or (λ h. (eqb h.entry.parent q.0) && is_named h.entry.name q.1) o false)
        (w.found q.2 ∙ ap (λ b. cond b (Some (held_after n (held_in old q.2))) (held_in old q.2)) other)

    pub by_key : (o : Option (ℕ × List ℕ)) → parent_name_in old n.inode ≡ o → Left o after → IsIndexOf new after
    by_key None was l q = ⊎_elim
        (λ yes.
        let at = eqb-true n.inode q.2 yes in
        l q ∙ ap (λ b. cond (tied here q) true b) (index q ∙ stands_there old n.inode q at ∙ ap (λ x. stood x n.inode q) was) ∙ added (tied here q) ∙ sym (at_inode q at))
        (λ other. l q ∙ ap (λ b. cond b true (has_child before q)) (apart here q other) ∙ index q ∙ sym (elsewhere q other))
        (cases_Bool (eqb n.inode q.2))
    by_key (Some o) was (inl l) q = ⊎_elim
        (λ yes.
        let at = eqb-true n.inode q.2 yes in
        l.0 q ∙ ap (λ b. cond (tied (o.0, Some o.1, n.inode) q) false (cond (tied here q) true b)) (index q ∙ stands_there old n.inode q at ∙ ap (λ x. stood x n.inode q) was)
        ∙ moved_on (tied here q) (tied (o.0, Some o.1, n.inode) q) (λ left. ⊎_elim
        (λ both. let same : tied (o.0, Some o.1, n.inode) here ≡ true = ap (λ (x : ChildKey). tied (o.0, Some o.1, n.inode) x) (same_key here q both) ∙ left in cc)
        (λ n. n)
        (cases_Bool (tied here q)))
        ∙ sym (at_inode q at))
        (λ other.
        l.0 q ∙ ap (λ b. cond b false (cond (tied here q) true (has_child before q))) (apart (o.0, Some o.1, n.inode) q other)
        ∙ ap (λ b. cond b true (has_child before q)) (apart here q other) ∙ index q ∙ sym (elsewhere q other))
        (cases_Bool (eqb n.inode q.2))
    by_key (Some o) was (inr l) q = ⊎_elim
        (λ yes.
        let at = eqb-true n.inode q.2 yes in
        l.0 q ∙ ap (λ b. cond (tied here q) true b) (index q ∙ stands_there old n.inode q at ∙ ap (λ x. stood x n.inode q) was ∙ ap (λ (x : ℕ × List ℕ). tied (x.0, Some x.1, n.inode) q) l.1)
        ∙ again (tied here q) ∙ sym (at_inode q at))
        (λ other. l.0 q ∙ ap (λ b. cond b true (has_child before q)) (apart here q other) ∙ index q ∙ sym (elsewhere q other))
        (cases_Bool (eqb n.inode q.2))

  -- a key that was entered and taken out again
  pub restored : (after : List ChildKey) → has_child before here ≡ false → ((q : ChildKey) → has_child after q ≡ cond (tied here q) false (cond (tied here q) true (has_child before q))) → IsIndexOf old after
  restored after absent back q = back q ∙ ⊎_elim
      (λ yes. ap (λ b. cond b false (cond b true (has_child before q))) yes ∙ sym (ap (λ (x : ChildKey). has_child before x) (sym (same_key here q yes)) ∙ absent))
      (λ other. ap (λ b. cond b false (cond b true (has_child before q))) other)
      (cases_Bool (tied here q))
      ∙ index q

-- whether an inode stays where it stood
pub parted : (p : ℕ) (name : List ℕ) (i : ℕ) (o : ℕ × List ℕ) → ((eqb o.0 p) && is_named name (Some o.1)) ≡ false → tied (o.0, Some o.1, i) (p, Some name, i) ≡ false
parted p name i o other = ⊎_elim
    (λ yes.
    let e = same_key (o.0, Some o.1, i) (p, Some name, i) yes in
    let stays = and_from (eqb o.0 p) (is_named name (Some o.1)) (eq-eqb o.0 p (ap (λ (x : ChildKey). x.0) e)) (ap (λ (x : ChildKey). is_named name x.1) e ∙ names name) in
    cc)
    (λ n. n)
    (cases_Bool (tied (o.0, Some o.1, i) (p, Some name, i)))

pub stayed : (p : ℕ) (name : List ℕ) (o : ℕ × List ℕ) → ((eqb o.0 p) && is_named name (Some o.1)) ≡ true → o ≡ (p, name)
stayed p name o same =
    let parts = and_parts (eqb o.0 p) (is_named name (Some o.1)) same in
    let a = eqb-true o.0 p parts.0 in
    let b = (bytes_eq-Decides name o.1).0 parts.1 in
    λ j. (a j, sym b j)

-- An inode that is taken away.
pub removed_index : (old new : Tree) (i : ℕ) (o : ℕ × List ℕ) (before after : List ChildKey) → IsIndexOf old before → parent_name_in old i ≡ Some o
    → new ≡ without_inode old i → ((q : ChildKey) → has_child after q ≡ cond (tied (o.0, Some o.1, i) q) false (has_child before q)) → IsIndexOf new after
removed_index old new i o before after index was is left q = ⊎_elim
    (λ yes.
    let at = eqb-true i q.2 yes in
    left q ∙ ap (λ b. cond (tied (o.0, Some o.1, i) q) false b) (index q ∙ stands_there old i q at ∙ ap (λ x. stood x i q) was)
    ∙ gone (tied (o.0, Some o.1, i) q)
    ∙ sym (ap (λ x. option_map_or (λ h. (eqb h.entry.parent q.0) && is_named h.entry.name q.1) x false) (found q.2 ∙ ap (λ b. cond b None (held_in old q.2)) yes)))
    (λ other.
    left q ∙ ap (λ b. cond b false (has_child before q)) (apart (o.0, Some o.1, i) q other) ∙ index q
    ∙ sym (ap (λ x. option_map_or (λ h. (eqb h.entry.parent q.0) && is_named h.entry.name q.1) x false) (found q.2 ∙ ap (λ b. cond b None (held_in old q.2)) other)))
    (cases_Bool (eqb i q.2))
  where
    found : (j : ℕ) → held_in new j ≡ cond (eqb i j) None (held_in old j)
    found j = ap (λ (t : Tree). held_in t j) is ∙ find_without i old j
