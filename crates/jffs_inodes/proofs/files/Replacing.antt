-- A node's data instead of the one fragment that has their range.
use Rattle.std.proofs.Common.{◌≡◌, ℕ, ◌+◌, [], ◌∷◌, ◌++◌, length, Option, Some, refl, sym, ap, ◌∙◌, arith, nat_cmp}
use Rattle.std.specs.Ordering.{match_ordering}
use Rattle.std.specs.Cmp.{nat_cmp_is}
use Rattle.std.specs.BTreeMap.{insert_entry, is_at}
use Rattle.std.specs.Map.{lookup, set_value}
use Rattle.std.specs.Option.{option_map_or}
use Rattle.std.specs.declared.cmp.Ordering.{Ordering}
use Rattle.std.specs.declared.cmp.Ordering.TheVariants.{Equal}
use Rattle.std.proofs.lemmas.Bool.{ne_eqb}
use Rattle.jffs_node.specs.declared.node.Node.{Node}
use Rattle.jffs_node.specs.Record.{dsize}
use Rattle.jffs_inodes.specs.declared.fragment.Fragment.{Fragment}
use Rattle.jffs_inodes.specs.Fragments.{Fragments, end_of, AreLaid, before, from, with_node_data, part_by, amount_by}
use Rattle.jffs_inodes.proofs.files.Fragments.{begins_within}
use Rattle.jffs_inodes.proofs.files.Splitting.{Found, found, laid_parts, greater, set_after, amount_append, amount_cons}
use Rattle.jffs_inodes.proofs.files.Overwriting.{covers_all, some_data}

put_over : (k : ℕ) (f x : Fragment) (at : ℕ) (a b : Fragments) → AreLaid at k a → insert_entry nat_cmp (a ++ (k, f) ∷ b) k x ≡ a ++ (k, x) ∷ b
put_over k f x at [] b h = ap (λ (o : Ordering). match_ordering o ((k, x) ∷ (k, f) ∷ b) ((k, x) ∷ b) ((k, f) ∷ insert_entry nat_cmp b k x)) (sym (nat_cmp_is k k Equal refl))
put_over k f x at (e ∷ a) b h =
    ap (λ (o : Ordering). match_ordering o ((k, x) ∷ e ∷ (a ++ (k, f) ∷ b)) ((e.0, x) ∷ (a ++ (k, f) ∷ b)) (e ∷ insert_entry nat_cmp (a ++ (k, f) ∷ b) k x)) (greater k e.0 (omega (arith, begins_within at k e a h)))
    ∙ ap (λ y. e ∷ y) (put_over k f x (end_of e) a b h.2)

module _ (size k : ℕ) (f x : Fragment) (es : Fragments) (h : AreLaid 0 size es) (is : lookup (is_at (nat_cmp k)) es ≡ Some f) where
  at : Found k f es
  at = found k f es is

  -- Set or put in, it stands in the other's place.
  set_there : set_value (is_at (nat_cmp k)) es x ≡ at.front ++ (k, x) ∷ at.back
  set_there = ap (λ l. set_value (is_at (nat_cmp k)) l x) at.whole ∙ set_after k f x 0 at.front at.back (laid_parts size at h).0

  set_put : set_value (is_at (nat_cmp k)) es x ≡ insert_entry nat_cmp es k x
  set_put =
      set_there
      ∙ sym (put_over k f x 0 at.front at.back (laid_parts size at h).0)
      ∙ ap (λ l. insert_entry nat_cmp l k x) (sym at.whole)

  pub amount_set : (v : ℕ) → amount_by v (set_value (is_at (nat_cmp k)) es x) + part_by v f ≡ amount_by v es + part_by v x
  amount_set v =
      let now = ap (amount_by v) set_there in
      let was = ap (amount_by v) at.whole in
      let a = amount_append v at.front ((k, x) ∷ at.back) in
      let b = amount_cons v (k, x) at.back in
      let c = amount_append v at.front ((k, f) ∷ at.back) in
      let d = amount_cons v (k, f) at.back in
      omega arith

  pub covered_set : length f.bytes ≡ length x.bytes → set_value (is_at (nat_cmp k)) es x ≡ before k es ++ ((k, x) ∷ from (k + length x.bytes) es)
  covered_set same =
      let some = (laid_parts size at h).1 in
      set_put ∙ covers_all size k (k + length x.bytes) (length f.bytes) x es h (sym (ap (λ (o : Option Fragment). option_map_or (λ (y : Fragment). length y.bytes) o 0) is)) (omega arith) (omega arith)

-- So the map's call leaves the fragments that the node written over them makes.
pub node_data_set : (size : ℕ) (n : Node) (f : Fragment) (es : Fragments) → AreLaid 0 size es → lookup (is_at (nat_cmp n.offset)) es ≡ Some f → length f.bytes ≡ dsize n
    → set_value (is_at (nat_cmp n.offset)) es (record { bytes = n.bytes; writer = n.version }) ≡ with_node_data (n.offset + dsize n) n es
node_data_set size n f es h is long =
    let some = (laid_parts size (found n.offset f es is) h).1 in
    covered_set size n.offset f (record { bytes = n.bytes; writer = n.version }) es h is long
    ∙ sym (some_data (n.offset + dsize n) n es (ne_eqb (dsize n) 0 (λ none. omega arith)))
