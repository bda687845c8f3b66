-- The marks of a tree, after one more node.
use Rattle.std.proofs.Common.{◌≡◌, ℕ, ◌+◌, ◌≤◌, Bool, true, false, cond, eqb, List, ◌∷◌, [], length, flat_map, count_by, Option, Some, None, option_map, refl, sym, ap, subst, ◌∙◌, arith, ⊎_elim}
use Rattle.std.specs.Option.{option_map_or, option_to_list}
use Rattle.std.proofs.lemmas.Bool.{cases_Bool, eqb-true, eq-eqb}
use Rattle.std.proofs.lemmas.Option.{same_Some}
use Rattle.std.proofs.lemmas.List.Sums.{sum_by-append, sum_by-cons}
use Rattle.jffs_node.specs.declared.node.Node.{Node}
use Rattle.jffs_node.specs.Record.{dsize}
use Rattle.jffs_inodes.specs.Held.{Held, versions_held, held_after}
use Rattle.jffs_inodes.specs.Inodes.{Tree, held_in, without_inode, WritesInode}
use Rattle.jffs_marks.specs.Marks.{Counts, mark_of, HaveMore, SameMarks}
use Rattle.jffs_inodes.specs.Marked.{bytes_by, bytes_by_in, MovesMarks, MovesMarksIn, HasByteMarks, LosesByteMarks, held_marks, AreMarksOf}
use Rattle.jffs_marks.proofs.Marking.{same_either_way, more_here, more_elsewhere}
use Rattle.jffs_inodes.proofs.Put.{find_without}

-- one for the newest of an inode that is present
abbrev pub newest_marks : Tree → ℕ → ℕ → ℕ
newest_marks tree v i = option_map_or (λ h. count_by (λ w. eqb w v) (option_to_list h.newest)) (held_in tree i) 0

pub in_parts : (tree : Tree) (v i : ℕ) → held_marks tree v i ≡ newest_marks tree v i + bytes_by_in tree v i
in_parts tree v i = by_held (held_in tree i)
  where
    by_held : (o : Option Held) → option_map_or (λ h. count_by (λ w. eqb w v) (versions_held (i, h))) o 0 ≡ option_map_or (λ h. count_by (λ w. eqb w v) (option_to_list h.newest)) o 0 + option_map_or (λ h. bytes_by v h) o 0
    by_held None = refl
    by_held (Some h) = sum_by-append (λ w. cond (eqb w v) 1 0) (option_to_list h.newest) (flat_map option_to_list h.writers)

one_newest : (v : ℕ) (o : Option ℕ) (k : ℕ) → o ≡ Some k → count_by (λ w. eqb w v) (option_to_list o) ≡ cond (eqb v k) 1 0
one_newest v o k is =
    ap (λ x. count_by (λ w. eqb w v) (option_to_list x)) is
    ∙ sum_by-cons (λ w. cond (eqb w v) 1 0) k [] ∙ by_test (eqb k v) ∙ ap (λ b. cond b 1 0) (same_either_way k v)
  where
    by_test : (b : Bool) → cond b 1 0 + 0 ≡ cond b 1 0
    by_test true = refl
    by_test false = refl

pub newest_is : (tree : Tree) (v i k : ℕ) → option_map (λ h. h.newest) (held_in tree i) ≡ Some (Some k) → newest_marks tree v i ≡ cond (eqb v k) 1 0
newest_is tree v i k is = by_held (held_in tree i) is
  where
    by_held : (o : Option Held) → option_map (λ h. h.newest) o ≡ Some (Some k) → option_map_or (λ h. count_by (λ w. eqb w v) (option_to_list h.newest)) o 0 ≡ cond (eqb v k) 1 0
    by_held None e = cc
    by_held (Some h) e = one_newest v h.newest k (same_Some h.newest (Some k) e)

module _ (old : Tree) (n : Node) (m0 m1 : Counts) (marked : AreMarksOf old m0) (raised : HaveMore m0 m1 n.version n.inode (dsize n + 1)) where
  -- what a raise leaves in the node's inode
  raised_here : (v : ℕ) → mark_of m1 v n.inode ≡ newest_marks old v n.inode + bytes_by_in old v n.inode + cond (eqb v n.version) (dsize n + 1) 0
  raised_here v = omega (arith, more_here m0 m1 n.version n.inode (dsize n + 1) raised v, marked v n.inode, in_parts old v n.inode)

  by_version : (b : Bool) → cond b (dsize n + 1) 0 ≡ cond b (dsize n) 0 + cond b 1 0
  by_version true = refl
  by_version false = refl

  elsewhere : (v i : ℕ) → eqb i n.inode ≡ false → mark_of m1 v i ≡ held_marks old v i
  elsewhere v i other = sym (more_elsewhere m0 m1 n.version n.inode (dsize n + 1) raised v i other) ∙ marked v i

  -- The write was done: the marks are those of the new tree, and of the old newest.
  module _ (new : Tree) (m2 : Counts) (w : WritesInode old new n) (moved : MovesMarksIn m1 m2 n old new) where
    found_here : held_in new n.inode ≡ Some (held_after n (held_in old n.inode))
    found_here = w.found n.inode ∙ ap (λ b. cond b (Some (held_after n (held_in old n.inode))) (held_in old n.inode)) (eq-eqb n.inode n.inode refl)

    newest_here : (v : ℕ) → newest_marks new v n.inode ≡ cond (eqb v n.version) 1 0
    newest_here v = newest_is new v n.inode n.version (ap (λ o. option_map (λ h. h.newest) o) found_here)

    here : (v : ℕ) → mark_of m2 v n.inode ≡ held_marks new v n.inode + newest_marks old v n.inode
    here v =
        let f = raised_here v in
        let g = by_version (eqb v n.version) in
        let h = newest_here v in
        let k = in_parts new v n.inode in
        omega (arith, moved.here v, f, g, h, k)

    others : (v i : ℕ) → eqb i n.inode ≡ false → mark_of m2 v i ≡ held_marks new v i
    others v i other =
        let same : held_in new i ≡ held_in old i = w.found i ∙ ap (λ b. cond b (Some (held_after n (held_in old i))) (held_in old i)) (same_either_way n.inode i ∙ other) in
        moved.elsewhere v i other ∙ elsewhere v i other ∙ sym (ap (λ (o : Option Held). option_map_or (λ h. count_by (λ w. eqb w v) (versions_held (i, h))) o 0) same)

    -- an inode with that newest version was there
    module _ (k : ℕ) (was : option_map (λ h. h.newest) (held_in old n.inode) ≡ Some (Some k)) where
      pub has_newest : 1 ≤ mark_of m2 k n.inode
      has_newest =
          let e = here k in
          let f = newest_is old k n.inode k was in
          let g : ◌≡◌ {A = ℕ} (cond (eqb k k) 1 0) 1 = ap (λ b. cond b 1 0) (eq-eqb k k refl) in
          omega (arith, e, f, g)

      pub of_old : (m3 : Counts) → HaveMore m3 m2 k n.inode 1 → AreMarksOf new m3
      of_old m3 less v i = ⊎_elim
          (λ at.
          let same : i ≡ n.inode = eqb-true i n.inode at in
          let h : mark_of m3 v n.inode ≡ held_marks new v n.inode = omega (arith, more_here m3 m2 k n.inode 1 less v, here v, newest_is old v n.inode k was) in
          subst (λ j. mark_of m3 v j ≡ held_marks new v j) (sym same) h)
          (λ other. more_elsewhere m3 m2 k n.inode 1 less v i other ∙ others v i other)
          (cases_Bool (eqb i n.inode))

-- the same marks are marks of the same tree
pub same_marks_of : (tree : Tree) (m n : Counts) → AreMarksOf tree m → SameMarks m n → AreMarksOf tree n
same_marks_of tree m n marked same v i = same v i ∙ marked v i

-- A present inode has marks for all of its bytes.
pub has_byte_marks : (old : Tree) (i : ℕ) (h : Held) → held_in old i ≡ Some h → (m : Counts) → AreMarksOf old m → HasByteMarks m i h
has_byte_marks old i h is m marked v =
    let e = marked v i in
    let f = in_parts old v i in
    let p : bytes_by_in old v i ≡ bytes_by v h = ap (λ o. option_map_or (λ x. bytes_by v x) o 0) is in
    omega (arith, e, f, p)

-- An inode that is taken away.
module _ (old : Tree) (i : ℕ) (h : Held) (k : ℕ) (is : held_in old i ≡ Some h) (newest : h.newest ≡ Some k) (m0 : Counts) (marked : AreMarksOf old m0) where
  split_here : (v : ℕ) → mark_of m0 v i ≡ cond (eqb v k) 1 0 + bytes_by v h
  split_here v =
      let e = marked v i in
      let f = in_parts old v i in
      let g = newest_is old v i k (ap (λ o. option_map (λ x. x.newest) o) is ∙ ap (λ o. Some o) newest) in
      let p : bytes_by_in old v i ≡ bytes_by v h = ap (λ o. option_map_or (λ x. bytes_by v x) o 0) is in
      omega (arith, e, f, g, p)

  module _ (m1 : Counts) (lost : LosesByteMarks m0 m1 i h) where
    lost_here : (v : ℕ) → mark_of m1 v i ≡ cond (eqb v k) 1 0
    lost_here v = omega (arith, lost.here v, split_here v)

    pub one_left : 1 ≤ mark_of m1 k i
    one_left = let e = lost_here k in let g : ◌≡◌ {A = ℕ} (cond (eqb k k) 1 0) 1 = ap (λ b. cond b 1 0) (eq-eqb k k refl) in omega (arith, e, g)

    pub of_removed : (m2 : Counts) → HaveMore m2 m1 k i 1 → AreMarksOf (without_inode old i) m2
    of_removed m2 less v j = ⊎_elim
        (λ at.
        let same : j ≡ i = eqb-true j i at in
        let gone : held_in (without_inode old i) i ≡ None = find_without i old i ∙ ap (λ b. cond b None (held_in old i)) (eq-eqb i i refl) in
        let g : held_marks (without_inode old i) v i ≡ 0 = ap (λ (o : Option Held). option_map_or (λ x. count_by (λ w. eqb w v) (versions_held (i, x))) o 0) gone in
        let r : mark_of m2 v i ≡ held_marks (without_inode old i) v i = omega (arith, more_here m2 m1 k i 1 less v, lost_here v, g) in
        subst (λ x. mark_of m2 v x ≡ held_marks (without_inode old i) v x) (sym same) r)
        (λ other.
        let kept : held_in (without_inode old i) j ≡ held_in old j = find_without i old j ∙ ap (λ b. cond b None (held_in old j)) (same_either_way i j ∙ other) in
        more_elsewhere m2 m1 k i 1 less v j other
        ∙ lost.elsewhere v j other
        ∙ marked v j
        ∙ sym (ap (λ (o : Option Held). option_map_or (λ x. count_by (λ w. eqb w v) (versions_held (j, x))) o 0) kept))
        (cases_Bool (eqb j i))

-- Marks that move for an inode's bytes move in trees where the inode has those bytes.
pub moved_in : (n : Node) (h x : Held) (old new : Tree) (m k : Counts) → ((v : ℕ) → bytes_by_in old v n.inode ≡ bytes_by v h) → ((v : ℕ) → bytes_by_in new v n.inode ≡ bytes_by v x)
    → MovesMarks m k n h x → MovesMarksIn m k n old new
moved_in n h x old new m k before after moved = record { here = λ v. omega (arith, moved.here v, before v, after v); elsewhere = moved.elsewhere }

-- An inode that is present, written over.
pub moved_own : (old : Tree) (n : Node) (h : Held) → held_in old n.inode ≡ Some h → (m : Counts) (new : Tree) (x : Held) (k : Counts) → held_in new n.inode ≡ Some x → MovesMarks m k n h x → MovesMarksIn m k n old new
moved_own old n h is m new x k at =
    moved_in n h x old new m k (λ v. ap (λ o. option_map_or (λ y. bytes_by v y) o 0) is) (λ v. ap (λ o. option_map_or (λ y. bytes_by v y) o 0) at)

-- No version has more marks in an inode than it has bytes, and one.
few_bytes : (v : ℕ) (ws : List (Option ℕ)) → count_by (λ w. eqb w v) (flat_map option_to_list ws) ≤ length ws
few_bytes v [] = omega arith
few_bytes v (None ∷ ws) = let rest = few_bytes v ws in omega (arith, rest)
few_bytes v (Some w ∷ ws) =
    let rest = few_bytes v ws in
    let e = sum_by-cons (λ x. cond (eqb x v) 1 0) w (flat_map option_to_list ws) in
    let one = at_most_one (eqb w v) in
    omega (arith, rest, e, one)
  where
    at_most_one : (b : Bool) → cond b 1 0 ≤ 1
    at_most_one true = omega arith
    at_most_one false = omega arith

pub few_marks : (tree : Tree) (v i : ℕ) (h : Held) (k most : ℕ) → held_in tree i ≡ Some h → h.newest ≡ Some k → length h.writers ≤ most → held_marks tree v i ≤ most + 1
few_marks tree v i h k most is newest small =
    let e = in_parts tree v i in
    let f = newest_is tree v i k (ap (λ o. option_map (λ x. x.newest) o) is ∙ ap (λ o. Some o) newest) in
    let g = few_bytes v h.writers in
    let p : bytes_by_in tree v i ≡ bytes_by v h = ap (λ o. option_map_or (λ x. bytes_by v x) o 0) is in
    let one = at_most_one (eqb v k) in
    omega (arith, small, e, f, g, p, one)
  where
    at_most_one : (b : Bool) → cond b 1 0 ≤ 1
    at_most_one true = omega arith
    at_most_one false = omega arith
