-- One node more, in a tree.
use Rattle.std.proofs.Common.{◌≡◌, T, IsTrue, sym, ap, subst, ◌∙◌, nat_cmp}
use Rattle.std.specs.Cmp.{nat_cmp_total}
use Rattle.std.specs.FinMap.{nat_cmp-IsAntisymmetric}
use Rattle.std.specs.FinMap.Entries as entries
use Rattle.jffs_node.specs.declared.node.Node.{Node}
use Rattle.jffs_inodes.specs.Inodes.{Tree, held_in, put_node, WritesInode}
use Rattle.jffs_inodes.specs.Held.{held_after}
use Rattle.jffs_inodes.proofs.Put.{find_rewritten}

-- That is the tree with the node put in.
pub put_there : (old seen new : Tree) (n : Node) → old ≡ seen → IsTrue (entries.is_sorted nat_cmp old) → WritesInode old new n → new ≡ put_node seen n
put_there old seen new n is ordered w =
    entries.same_entries nat_cmp nat_cmp_total nat_cmp-IsAntisymmetric new (put_node old n)
    (subst T (sym w.ordered) tt) (entries.is_sorted-put nat_cmp nat_cmp_total n.inode (held_after n (held_in old n.inode)) old (subst T (sym ordered) tt))
    (λ i. w.found i ∙ sym (find_rewritten (λ o. held_after n o) n.inode old i))
    ∙ ap (λ t. put_node t n) is
