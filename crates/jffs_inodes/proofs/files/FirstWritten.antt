-- What the first node of an inode brings: its data, and nothing else.
use Rattle.std.proofs.Common.{◌≡◌, ℕ, zero, suc, ◌+◌, ◌-◌, ◌≤◌, Bool, true, false, cond, eqb, List, [], ◌∷◌, ◌++◌, length, take, drop, replicate, flat_map, count_by, Option, Some, None, is_some, IfSome, append_assoc, length-append, refl, sym, ap, ◌∙◌, ⊎_elim, subst, arith}
use Rattle.std.specs.List.{AllByRecursion}
use Rattle.std.specs.Option.{option_map_or, option_to_list}
use Rattle.std.proofs.lemmas.Bool.{cases_Bool, eqb-true}
use Rattle.std.proofs.lemmas.Grind.{flat_map-append}
use Rattle.std.proofs.lemmas.List.Sums.{sum_by-append, sum_by-cons}
use Rattle.jffs_node.specs.declared.node.Node.{Node}
use Rattle.jffs_node.specs.Record.{dsize}
use Rattle.jffs_inodes.specs.Held.{Held, padded_with, sized_with, writers_after}
use Rattle.jffs_inodes.specs.Inodes.{Tree, held_in}
use Rattle.jffs_marks.specs.Marks.{Counts, mark_of, SameMarks}
use Rattle.jffs_inodes.specs.Marked.{bytes_by, brought_by, MovesMarks, MovesMarksIn}
use Rattle.jffs_marks.proofs.Marking.{same_either_way}
use Rattle.jffs_inodes.proofs.Marked.{moved_in}

abbrev counted : ℕ → List (Option ℕ) → ℕ
counted v ws = count_by (λ w. eqb w v) (flat_map option_to_list ws)

counted_append : (v : ℕ) (a b : List (Option ℕ)) → counted v (a ++ b) ≡ counted v a + counted v b
counted_append v a b =
    ap (count_by (λ w. eqb w v)) (flat_map-append option_to_list a b)
    ∙ sum_by-append (λ w. cond (eqb w v) 1 0) (flat_map option_to_list a) (flat_map option_to_list b)

-- ---- places that no node wrote
abbrev AreBlank : List (Option ℕ) → Type 0
AreBlank ws = AllByRecursion (λ w. w ≡ None) ws

blank_counted : (v : ℕ) (ws : List (Option ℕ)) → AreBlank ws → counted v ws ≡ 0
blank_counted v [] h = refl
blank_counted v (w ∷ ws) h = ap (λ o. count_by (λ x. eqb x v) (option_to_list o ++ flat_map option_to_list ws)) h.0 ∙ blank_counted v ws h.1

blank_replicate : (k : ℕ) → AreBlank (replicate k None)
blank_replicate zero = tt
blank_replicate (suc k) = (refl, blank_replicate k)

blank_take : (k : ℕ) (ws : List (Option ℕ)) → AreBlank ws → AreBlank (take k ws)
blank_take zero ws h = tt
blank_take (suc k) [] h = tt
blank_take (suc k) (w ∷ ws) h = (h.0, blank_take k ws h.1)

blank_drop : (k : ℕ) (ws : List (Option ℕ)) → AreBlank ws → AreBlank (drop k ws)
blank_drop zero ws h = h
blank_drop (suc k) [] h = tt
blank_drop (suc k) (w ∷ ws) h = blank_drop k ws h.1

blank_append : (a b : List (Option ℕ)) → AreBlank a → AreBlank b → AreBlank (a ++ b)
blank_append [] b h g = g
blank_append (w ∷ a) b h g = (h.0, blank_append a b h.1 g)

-- ---- places that one version wrote
data_counted : (v w d : ℕ) → counted v (replicate d (Some w)) ≡ cond (eqb v w) d 0
data_counted v w zero = by_test (eqb v w)
  where
    by_test : (b : Bool) → ◌≡◌ {A = ℕ} 0 (cond b 0 0)
    by_test true = refl
    by_test false = refl
data_counted v w (suc d) =
    sum_by-cons (λ x. cond (eqb x v) 1 0) w (flat_map option_to_list (replicate d (Some w)))
    ∙ ap (λ n. cond (eqb w v) 1 0 + n) (data_counted v w d)
    ∙ ap (λ b. cond b 1 0 + cond (eqb v w) d 0) (same_either_way w v)
    ∙ by_test (eqb v w)
  where
    by_test : (b : Bool) → cond b 1 0 + cond b d 0 ≡ cond b (suc d) 0
    by_test true = omega arith
    by_test false = refl

-- ---- lengths
take_most : (k : ℕ) (ws : List (Option ℕ)) → length (take k ws) ≤ k
take_most zero ws = omega arith
take_most (suc k) [] = omega arith
take_most (suc k) (w ∷ ws) = let r = take_most k ws in omega (arith, r)

data_long : (d : ℕ) (w : Option ℕ) → length (replicate d w) ≡ d
data_long zero w = refl
data_long (suc d) w = let r = data_long d w in omega (arith, r)

take_front : (a b : List (Option ℕ)) (k : ℕ) → length a ≤ k → (m : ℕ) × (take k (a ++ b) ≡ a ++ take m b)
take_front [] b k h = (k, refl)
take_front (x ∷ a) b zero h = absurd (omega (arith, h))
take_front (x ∷ a) b (suc k) h = let r = take_front a b k (omega (arith, h)) in (r.0, ap (λ l. x ∷ l) r.1)

-- ---- the first write
module _ (n : Node) (v : ℕ) (inside : IfSome n.size (λ s. n.offset + dsize n ≤ s)) where
  abbrev gap : List (Option ℕ)
  gap = padded_with None n.offset []

  abbrev front : List (Option ℕ)
  front = take n.offset gap

  abbrev own : List (Option ℕ)
  own = replicate (dsize n) (Some n.version)

  abbrev rest : List (Option ℕ)
  rest = drop (n.offset + n.rsize) gap

  blank_front : AreBlank front
  blank_front = blank_take n.offset gap (blank_replicate (n.offset - 0))

  blank_rest : AreBlank rest
  blank_rest = blank_drop (n.offset + n.rsize) gap (blank_replicate (n.offset - 0))

  brought : (after : List (Option ℕ)) → AreBlank after → counted v ((front ++ own) ++ after) ≡ brought_by v n
  brought after blank =
      let a = counted_append v (front ++ own) after in
      let b = counted_append v front own in
      let c = blank_counted v front blank_front in
      let d = data_counted v n.version (dsize n) in
      let e = blank_counted v after blank in
      omega (arith, a, b, c, d, e)

  at_size : (size : Option ℕ) → IfSome size (λ s. n.offset + dsize n ≤ s) → counted v (sized_with None size ((front ++ own) ++ rest)) ≡ brought_by v n
  at_size None h = brought rest blank_rest
  at_size (Some k) h =
      let more = replicate (k - length ((front ++ own) ++ rest)) None in
      let a = take_most n.offset gap in
      let b = data_long (dsize n) (Some n.version) in
      let c = length-append front own in
      let cut = take_front (front ++ own) (rest ++ more) k (omega (arith, h, a, b, c)) in
      ap (λ l. counted v (take k l)) (append_assoc (front ++ own) rest more)
      ∙ ap (counted v) cut.1
      ∙ brought (take cut.0 (rest ++ more)) (blank_take cut.0 (rest ++ more) (blank_append rest more blank_rest (blank_replicate (k - length ((front ++ own) ++ rest)))))

  pub first_brought : counted v (writers_after n []) ≡ brought_by v n
  first_brought = at_size n.size inside

-- So its marks stay as they are,
pub first_same : (n : Node) (h x : Held) (old new : Counts) → IfSome n.size (λ s. n.offset + dsize n ≤ s) → h.writers ≡ [] → x.writers ≡ writers_after n [] → MovesMarks old new n h x → SameMarks old new
first_same n h x old new inside none first moved v i =
    let f : bytes_by v h ≡ 0 = ap (counted v) none in
    let g : bytes_by v x ≡ brought_by v n = ap (counted v) first ∙ first_brought n v inside in
    ⊎_elim
    (λ at. subst (λ j. mark_of new v j ≡ mark_of old v j) (sym (eqb-true i n.inode at)) (omega (arith, moved.here v, f, g)))
    (λ other. moved.elsewhere v i other)
    (cases_Bool (eqb i n.inode))

-- and they are moved in the tree.
pub first_moved : (n : Node) (h x : Held) (before after : Tree) (old new : Counts) → h.writers ≡ [] → held_in before n.inode ≡ None → held_in after n.inode ≡ Some x → MovesMarks old new n h x → MovesMarksIn old new n before after
first_moved n h x before after old new none absent found =
    moved_in n h x before after old new (λ v. ap (λ o. option_map_or (λ y. bytes_by v y) o 0) absent ∙ sym (ap (counted v) none)) (λ v. ap (λ o. option_map_or (λ y. bytes_by v y) o 0) found)

pub absent_none : (o : Option Held) → is_some o ≡ false → o ≡ None
absent_none None h = refl
absent_none (Some x) h = cc
