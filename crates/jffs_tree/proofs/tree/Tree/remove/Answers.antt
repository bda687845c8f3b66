use Rattle.std.proofs.Common.{◌≡◌, ℕ, List, T, Some, option_map, ap, subst, sym, ◌∙◌, nat_cmp}
use Rattle.std.specs.FinMap.Entries as entries
use Rattle.jffs_marks.proofs.Maps.{t_true}
use Rattle.jffs_inodes.specs.Held.{Held}
use Rattle.jffs_inodes.specs.Inodes.{held_in, without_inode, AreOrdered}
use Rattle.jffs_inodes.specs.Marked.{AreMarksOf}
use Rattle.jffs_inodes.proofs.Marked.{of_removed, has_byte_marks, one_left}
use Rattle.jffs_tree.specs.Look.{parent_name_in}
use Rattle.jffs_tree.proofs.listing.Reindexed.{removed_index}
use Rattle.jffs_tree.proofs.tree.Tree.remove.Goals as goal

pub invariant_of-self : goal.invariant_of-self
invariant_of-self c =
    let old = c.self.inside.inodes in
    let is : held_in old c.args.inode ≡ Some c.in-Some.old = sym c.in-Some.ensures.gone in
    let was : parent_name_in old c.args.inode ≡ Some (c.parent.result, c.name.result) =
    ap (option_map (λ h. (h.entry.parent, h.entry.name))) is ∙ (λ i. Some (sym c.parent.ensures i, sym c.name.ensures i)) in
    record {
      ordered = subst (λ (t : List (ℕ × Held)). AreOrdered t) (sym c.in-Some.ensures.left)
          (t_true _ (entries.is_sorted-where_key nat_cmp _ old (subst T (sym c.self.invariant.ordered) tt)));
      indexed = removed_index old c.remove.new.self c.args.inode (c.parent.result, c.name.result) c.self.inside.children.keys c.remove-in-Some.new.self.keys
          c.self.invariant.indexed was
          c.in-Some.ensures.left
          c.remove-in-Some.ensures.updates.0;
      marked = subst (λ (t : List (ℕ × Held)). AreMarksOf t c.lower.new.self)
          (sym c.in-Some.ensures.left)
          (of_removed old c.args.inode c.in-Some.old c.newest.result is c.newest.ensures.newest
          c.self.inside.marks c.self.invariant.marked c.release.new.marks
          c.release.ensures
          c.lower.new.self c.lower.ensures);
    }

pub returns-in-Some : goal.returns-in-Some
returns-in-Some c =
    c.in-Some.ensures.left ∙ ap (λ (t : List (ℕ × Held)). without_inode t c.args.inode) c.self.view_is

pub returns-in_default : goal.returns-in_default
returns-in_default c =
    c.in_default.ensures.left ∙ ap (λ (t : List (ℕ × Held)). without_inode t c.args.inode) c.self.view_is

pub release-requires : goal.release-requires
release-requires c =
    has_byte_marks c.self.inside.inodes c.args.inode c.in-Some.old (sym c.in-Some.ensures.gone) c.self.inside.marks c.self.invariant.marked

pub lower-requires : goal.lower-requires
lower-requires c =
    one_left c.self.inside.inodes c.args.inode c.in-Some.old c.newest.result (sym c.in-Some.ensures.gone) c.newest.ensures.newest
    c.self.inside.marks c.self.invariant.marked c.release.new.marks c.release.ensures
