-- A tree tests a node as its nodes do.
use Rattle.std.proofs.Common.{◌≡◌, ◌+◌, Bool, true, false, not, ◌||◌, eqb, leb, List, [], length, option_map, Option, Some, None, refl, sym, ap, ◌∙◌}
use Rattle.std.specs.Option.{option_map_or, unwrap_or}
use Rattle.jffs_node.specs.declared.node.Node.{Node}
use Rattle.jffs_node.specs.Record.{dsize, is_file, kind_byte, is_lawful}
use Rattle.jffs_inodes.specs.Held.{Entry, bytes_of}
use Rattle.jffs_tree.specs.Origin.{entry, size_in, tree_of}
use Rattle.jffs_tree.specs.Check.{keeps_kind, keeps_offsets}
use Rattle.jffs_tree.specs.After.{keeps_kind_in}
use Rattle.jffs_inodes.specs.Inodes.{keeps_offsets_in}
use Rattle.jffs_tree.specs.Laws.{TreesTestAsNodes}
use Rattle.jffs_node.proofs.Lawfulness.{as_long}
use Rattle.jffs_tree.proofs.trees.Grown.{at-tree, held_at}

kind_same : (past : List Node) (n : Node) → keeps_kind_in (tree_of past) n ≡ keeps_kind past n
kind_same past n =
    ap (λ o. n.deleted || option_map_or (λ h. eqb (kind_byte h.entry.kind) (kind_byte n.kind)) o true) (at-tree past n.inode)
    ∙ ap (λ b. n.deleted || b) (by_entry (entry past n.inode))
  where
    by_entry : (o : Option Entry) → option_map_or (λ h. eqb (kind_byte h.entry.kind) (kind_byte n.kind)) (option_map (λ e. held_at past n.inode e) o) true
        ≡ option_map_or (λ e. eqb (kind_byte e.kind) (kind_byte n.kind)) o true
    by_entry None = refl
    by_entry (Some e) = refl

-- only a file's node has a range
file_or_none : (n : Node) → is_lawful n ≡ true → (not (is_file n.kind) || eqb (dsize n) n.rsize) ≡ eqb (dsize n) n.rsize
file_or_none n h = by_kind (is_file n.kind) (eqb (dsize n) n.rsize) (as_long n h)
  where
    by_kind : (file same : Bool) → (file || same) ≡ true → (not file || same) ≡ same
    by_kind true same e = refl
    by_kind false same e = sym e

offsets_same : (past : List Node) (n : Node) → is_lawful n ≡ true → keeps_offsets_in (tree_of past) n ≡ keeps_offsets past n
offsets_same past n h =
    ap (λ o. eqb (dsize n) n.rsize || leb (length (unwrap_or (option_map (λ x. x.entry.bytes) o) [])) (n.offset + n.rsize)) (at-tree past n.inode)
    ∙ ap (λ k. eqb (dsize n) n.rsize || leb k (n.offset + n.rsize)) (by_entry (entry past n.inode))
    ∙ ap (λ b. b || leb (size_in past n.inode) (n.offset + n.rsize)) (sym (file_or_none n h))
  where
    by_entry : (o : Option Entry) → length (unwrap_or (option_map (λ x. x.entry.bytes) (option_map (λ e. held_at past n.inode e) o)) []) ≡ length (bytes_of o)
    by_entry None = refl
    by_entry (Some e) = refl

pub trees_test_as_nodes : TreesTestAsNodes
trees_test_as_nodes past n h = (kind_same past n, offsets_same past n h)
