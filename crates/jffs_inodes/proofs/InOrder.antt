-- Inodes that stand in any order, and the tree that they are seen as.
use Rattle.std.proofs.Common.{◌≡◌, ℕ, Bool, true, false, cond, ◌&&◌, eqb, T, List, [], ◌∷◌, Some, None, Option, refl, sym, ap, ◌∙◌, nat_cmp}
use Rattle.std.specs.Cmp.{nat_cmp_total}
use Rattle.std.specs.FinMap.{nat_cmp-IsAntisymmetric}
use Rattle.std.specs.FinMap.Entries as entries
use Rattle.std.specs.List.{list_all, AllByRecursion, IsDistinct}
use Rattle.std.specs.Map.{lookup, keys_of}
use Rattle.std.specs.Ordering.{is_eq}
use Rattle.std.specs.declared.cmp.Ordering.TheVariants.{Less, Equal, Greater}
use Rattle.std.proofs.lemmas.Bool.{eq-eqb}
use Rattle.std.proofs.lemmas.Option.{none-some}
use Rattle.jffs_node.specs.declared.node.Node.{Node}
use Rattle.jffs_inodes.specs.Held.{Held, held_after}
use Rattle.jffs_inodes.specs.Inodes.{Tree, held_in, in_order, with_inode, without_inode, put_node, AreOrdered, WritesInode}
use Rattle.jffs_marks.proofs.Maps.{t_true}
use Rattle.jffs_marks.proofs.Marking.{same_either_way}
use Rattle.jffs_inodes.proofs.Put.{find_put, find_without, find_rewritten}

pub found_in_order : (q : ℕ) (es : List (ℕ × Held)) → held_in (in_order es) q ≡ lookup (eqb q) es
found_in_order q [] = refl
found_in_order q (e ∷ es) =
    find_put e.0 e.1 (in_order es) q
    ∙ ap (λ b. cond b (Some e.1) (held_in (in_order es) q)) (same_either_way e.0 q)
    ∙ ap (λ (o : Option Held). cond (eqb q e.0) (Some e.1) o) (found_in_order q es)

in_order_sorted : (es : List (ℕ × Held)) → T (entries.is_sorted nat_cmp (in_order es))
in_order_sorted [] = tt
in_order_sorted (e ∷ es) = entries.is_sorted-put nat_cmp nat_cmp_total e.0 e.1 (in_order es) (in_order_sorted es)

pub in_order_ordered : (es : List (ℕ × Held)) → AreOrdered (in_order es)
in_order_ordered es = t_true _ (in_order_sorted es)

module _ (old new : List (ℕ × Held)) (k : ℕ) where
  pub one_put : (h : Held) → ((q : ℕ) → lookup (eqb q) new ≡ cond (eqb k q) (Some h) (lookup (eqb q) old)) → in_order new ≡ with_inode (in_order old) k h
  one_put h updates =
      entries.same_entries nat_cmp nat_cmp_total nat_cmp-IsAntisymmetric (in_order new) (with_inode (in_order old) k h)
      (in_order_sorted new) (entries.is_sorted-put nat_cmp nat_cmp_total k h (in_order old) (in_order_sorted old))
      (λ q.
      found_in_order q new ∙ updates q
      ∙ ap (λ (o : Option Held). cond (eqb k q) (Some h) o) (sym (found_in_order q old))
      ∙ sym (find_put k h (in_order old) q))

  pub one_gone : ((q : ℕ) → lookup (eqb q) new ≡ cond (eqb k q) None (lookup (eqb q) old)) → in_order new ≡ without_inode (in_order old) k
  one_gone updates =
      entries.same_entries nat_cmp nat_cmp_total nat_cmp-IsAntisymmetric (in_order new) (without_inode (in_order old) k)
      (in_order_sorted new) (entries.is_sorted-where_key nat_cmp _ (in_order old) (in_order_sorted old))
      (λ q.
      found_in_order q new ∙ updates q
      ∙ ap (λ (o : Option Held). cond (eqb k q) None o) (sym (found_in_order q old))
      ∙ sym (find_without k (in_order old) q))

-- what is there once it was put in
pub found_put : (k : ℕ) (h : Held) (tree : Tree) → held_in (with_inode tree k h) k ≡ Some h
found_put k h tree = find_put k h tree k ∙ ap (λ b. cond b (Some h) (held_in tree k)) (eq-eqb k k refl)

-- What passes a test of all is the same in either order.
swapped : (a b c : Bool) → (a && (b && c)) ≡ (b && (a && c))
swapped true true c = refl
swapped true false c = refl
swapped false true c = refl
swapped false false c = refl

module _ (test : ℕ × Held → Bool) where
  all_with : (k : ℕ) (h : Held) (s : List (ℕ × Held)) → held_in s k ≡ None → list_all test (with_inode s k h) ≡ (test (k, h) && list_all test s)
  all_with k h [] none = refl
  all_with k h (e ∷ s) none =
      elim (nat_cmp k e.0) as (λ r. cond (is_eq r) (Some e.1) (held_in s k) ≡ None
      → list_all test (entries.by_order r ((k, h) ∷ e ∷ s) ((e.0, h) ∷ s) (e ∷ with_inode s k h)) ≡ (test (k, h) && list_all test (e ∷ s))) [
        | Less ↦ λ _. refl
        | Equal ↦ λ is. absurd (none-some e.1 (sym is))
        | Greater ↦ λ is. ap (λ b. test e && b) (all_with k h s is) ∙ swapped (test e) (test (k, h)) (list_all test s)
      ] none

  absent : (k : ℕ) (es : List (ℕ × Held)) → AllByRecursion (λ y. eqb k y ≡ false) (keys_of es) → lookup (eqb k) es ≡ None
  absent k [] h = refl
  absent k (e ∷ es) h = ap (λ b. cond b (Some e.1) (lookup (eqb k) es)) h.0 ∙ absent k es h.1

  pub all_in_order : (es : List (ℕ × Held)) → IsDistinct eqb (keys_of es) → list_all test es ≡ list_all test (in_order es)
  unfolding IsDistinct
  all_in_order [] d = refl
  all_in_order (e ∷ es) d =
      ap (λ b. test e && b) (all_in_order es d.1)
      ∙ sym (all_with e.0 e.1 (in_order es) (found_in_order e.0 es ∙ absent e.0 es d.0))

-- A node that is written over its inode, present or not.
pub put_written : (tree new : Tree) (n : Node) → new ≡ put_node tree n → AreOrdered new → WritesInode tree new n
put_written tree new n is ordered = record {
  ordered = ordered;
  found = λ i. ap (λ (t : Tree). held_in t i) is ∙ find_rewritten (λ o. held_after n o) n.inode tree i;
}
