-- What a call of `apply` leaves is the tree after the node.
use Rattle.std.proofs.Common.{IfSome, ◌≡◌, ℕ, ◌+◌, ◌≤◌, Bool, true, false, cond, not, ◌&&◌, ◌||◌, leb, List, ◌∷◌, Option, Some, None, is_some, refl, sym, ap, ◌∙◌, arith}
use Rattle.std.specs.Option.{option_map_or, unwrap_or}
use Rattle.std.proofs.lemmas.Bool.{and_parts, and_from, or_left, or_right, leb-true}
use Rattle.jffs_node.specs.declared.node.Node.{Node}
use Rattle.jffs_node.specs.declared.node.Kind.TheVariants.{File, Directory, Unmount}
use Rattle.jffs_node.specs.Name.{is_name}
use Rattle.jffs_node.specs.Record.{dsize, file_max, is_unmount, fits_fields, suits_kind, kind_numbers, numbers_hold, is_lawful}
use Rattle.jffs_inodes.specs.Inodes.{Tree, keeps_offsets_in, without_inode, put_node}
use Rattle.jffs_tree.specs.Origin.{tree_of}
use Rattle.jffs_tree.specs.After.{suits_tree, tree_after}
use Rattle.jffs_inodes.specs.Held.{IsSmall}
use Rattle.jffs_node.proofs.Lawfulness.{rules_of, no_range, unmount_range, file_numbers, directory_numbers}
use Rattle.jffs_tree.proofs.trees.Grown.{tree_steps}

-- What a lawful node keeps.
named : (u : Bool) (o : Option (List ℕ)) → option_map_or (λ name. not u && is_name name) o u ≡ true → (u || is_some o) ≡ true
named u None h = or_left u false h
named u (Some name) h = or_right u true refl

range : (n : Node) → kind_numbers n.kind n (dsize n) ≡ true → n.offset + dsize n ≤ file_max
range n =
    elim n.kind as (λ k. kind_numbers k n (dsize n) ≡ true → n.offset + dsize n ≤ file_max) [
      | Unmount ↦ λ x. let none = no_range n (unmount_range n x) in omega (arith, none.0, none.1)
      | Directory ↦ λ x. let none = directory_numbers n x in omega (arith, none.offset, none.amount)
      | File ↦ λ x. (file_numbers n x).range
    ]

no_size : (n : Node) (o : Option ℕ) → option_map_or (λ size. leb size file_max && leb (n.offset + dsize n) size) o true ≡ true → unwrap_or o 0 ≤ file_max
no_size n None h = omega arith
no_size n (Some k) h = leb-true k file_max (and_parts _ _ h).0

data_inside : (n : Node) (o : Option ℕ) → option_map_or (λ k. leb k file_max && leb (n.offset + dsize n) k) o true ≡ true → IfSome o (λ k. n.offset + dsize n ≤ k)
data_inside n None h = tt
data_inside n (Some k) h = leb-true (n.offset + dsize n) k (and_parts _ _ h).1

pub small_by_numbers : (n : Node) → numbers_hold n (dsize n) ≡ true → IsSmall n
small_by_numbers n h =
    let sized = and_parts _ _ h in
    let copied = and_parts _ _ sized.0 in
    let gone = and_parts _ _ copied.0 in
    let kind = and_parts _ _ gone.0 in
    record { range = range n kind.1; size = no_size n n.size sized.1; inside = data_inside n n.size sized.1 }

numbers_of : (n : Node) → is_lawful n ≡ true → numbers_hold n (dsize n) ≡ true
numbers_of n h = (and_parts (fits_fields n && suits_kind n) (numbers_hold n (dsize n)) h).1

pub small : (n : Node) → is_lawful n ≡ true → IsSmall n
small n h = small_by_numbers n (numbers_of n h)

-- The parts of what a tree asks of a node.
pub record SuitsTree (tree : Tree) (n : Node) : Type 0 where
  pub name : (is_unmount n.kind || is_some n.name) ≡ true
  pub numbers : numbers_hold n (dsize n) ≡ true
  pub offsets : keeps_offsets_in tree n ≡ true

pub suits_parts : (tree : Tree) (n : Node) → suits_tree tree n ≡ true → SuitsTree tree n
suits_parts tree n h =
    let all = and_parts ((is_unmount n.kind || is_some n.name) && numbers_hold n (dsize n)) (keeps_offsets_in tree n) h in
    let own = and_parts (is_unmount n.kind || is_some n.name) (numbers_hold n (dsize n)) all.0 in
    record { name = own.0; numbers = own.1; offsets = all.1 }

-- A lawful node that moves no byte after its range may be taken in.
pub lawful_suits : (tree : Tree) (n : Node) → is_lawful n ≡ true → keeps_offsets_in tree n ≡ true → suits_tree tree n ≡ true
lawful_suits tree n lawful offsets =
    and_from ((is_unmount n.kind || is_some n.name) && numbers_hold n (dsize n)) (keeps_offsets_in tree n)
    (and_from (is_unmount n.kind || is_some n.name) (numbers_hold n (dsize n)) (named (is_unmount n.kind) n.name (rules_of n lawful).name) (numbers_of n lawful)) offsets

-- By what the node is, the tree after it.
module _ (n : Node) (tree : Tree) where
  pub unmounted : is_unmount n.kind ≡ true → tree ≡ tree_after tree n
  unmounted u = sym (ap (λ b. cond b tree (cond n.deleted (without_inode tree n.inode) (put_node tree n))) u)

  stands : is_unmount n.kind ≡ false → (d : Bool) → n.deleted ≡ d → cond d (without_inode tree n.inode) (put_node tree n) ≡ tree_after tree n
  stands u d e = sym (
      ap (λ b. cond b tree (cond n.deleted (without_inode tree n.inode) (put_node tree n))) u
      ∙ ap (λ b. cond b (without_inode tree n.inode) (put_node tree n)) e)

  pub removed : is_unmount n.kind ≡ false → n.deleted ≡ true → without_inode tree n.inode ≡ tree_after tree n
  removed u d = stands u true d

  pub grown : is_unmount n.kind ≡ false → n.deleted ≡ false → put_node tree n ≡ tree_after tree n
  grown u d = stands u false d

-- A tree of nodes is then the tree of the nodes and that one.
pub stepped : (n : Node) (old new : Tree) → new ≡ tree_after old n → (past : List Node) → old ≡ tree_of past → new ≡ tree_of (n ∷ past)
stepped n old new after past is = after ∙ ap (λ t. tree_after t n) is ∙ tree_steps past n
