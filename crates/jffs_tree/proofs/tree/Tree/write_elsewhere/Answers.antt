use Rattle.std.proofs.Common.{◌≡◌, ℕ, true, false, cond, ◌&&◌, eqb, List, Option, None, Some, IsTrue, inl, inr, ap, subst, sym, rules, nat_cmp, ◌∙◌}
use Rattle.std.specs.FinMap.Entries as entries
use Rattle.std.proofs.lemmas.Bool.{not-true}
use Rattle.jffs_inodes.specs.Held.{Held}
use Rattle.jffs_tree.specs.Look.{parent_name_in}
use Rattle.jffs_tree.specs.Index.{ChildKey, has_child, is_named, IsIndexOf}
use Rattle.jffs_inodes.specs.Marked.{AreMarksOf}
use Rattle.jffs_tree.proofs.trees.Written.{put_there}
use Rattle.jffs_inodes.proofs.Marked.{same_marks_of}
use Rattle.jffs_tree.proofs.listing.Reindexed.{tied, by_key, restored, parted, stayed}
use Rattle.jffs_tree.proofs.tree.Tree.write_elsewhere.Goals as goal

pub invariant_of-self-then-is_new : goal.invariant_of-self-then-is_new
invariant_of-self-then-is_new c =
    let old = c.self.inside.inodes in
    let before = c.self.inside.children.keys in
    let here : ChildKey = (c.args.node.now.parent, Some c.args.name, c.args.node.now.inode) in
    let kept = restored old old c.args.node.now c.args.name before c.self.invariant.indexed c.remove.new.self.keys
    (not-true (has_child before here) (sym c.in_ok-is_new.ensures.added ∙ c.if-is_new.true))
    (λ q. c.remove.ensures.updates.0 q ∙ ap (λ b. cond (tied here q) false b) (c.in_ok-is_new.ensures.updates.0 q)) in
    record {
      ordered = subst (λ (t : List (ℕ × Held)). IsTrue (entries.is_sorted nat_cmp t)) (sym c.in-Err.ensures.err.0) c.self.invariant.ordered;
      indexed = subst (λ (t : List (ℕ × Held)). IsIndexOf t c.remove.new.self.keys) (sym c.in-Err.ensures.err.0) kept;
      marked = same_marks_of c.write_marked.new.inodes c.self.inside.marks c.write_marked.new.marks
          (subst (λ (t : List (ℕ × Held)). AreMarksOf t c.self.inside.marks) (sym c.in-Err.ensures.err.0) c.self.invariant.marked)
          c.in-Err.ensures.err.1;
    }

pub invariant_of-self-in_default-old : goal.invariant_of-self-in_default-old
invariant_of-self-in_default-old c =
    let old = c.self.inside.inodes in
    let was : ◌≡◌ {A = Option (ℕ × List ℕ)} None (parent_name_in c.args.self.now c.args.node.now.inode) = search rules in
    record {
      ordered = c.in_default.ensures.ok.ordered;
      indexed = by_key old c.write_marked.new.inodes c.args.node.now c.args.name c.self.inside.children.keys c.self.invariant.indexed c.insert.new.self.keys
          c.requires.writable.named c.in_default.ensures.ok None
          (ap (λ (t : List (ℕ × Held)). parent_name_in t c.args.node.now.inode) c.self.view_is ∙ sym was)
          c.in_ok-is_new.ensures.updates.0;
      marked = c.in_default.ensures.marks;
    }

pub invariant_of-self-then-not-bears : goal.invariant_of-self-then-not-bears
invariant_of-self-then-not-bears c =
    let old = c.self.inside.inodes in
    let here : ChildKey = (c.args.node.now.parent, Some c.args.name, c.args.node.now.inode) in
    let left : ChildKey = (c.in-Some.parent, Some c.in-Some.left, c.args.node.now.inode) in
    let was : Some (c.in-Some.parent, c.in-Some.left) ≡ parent_name_in c.args.self.now c.args.node.now.inode = search rules in
    let other : ((eqb c.in-Some.parent c.args.node.now.parent) && is_named c.args.name (Some c.in-Some.left)) ≡ false = search rules in
    record {
      ordered = c.in_default.ensures.ok.ordered;
      indexed = by_key old c.write_marked.new.inodes c.args.node.now c.args.name c.self.inside.children.keys c.self.invariant.indexed c.remove-then-not-bears.new.self.keys
          c.requires.writable.named c.in_default.ensures.ok (Some (c.in-Some.parent, c.in-Some.left))
          (ap (λ (t : List (ℕ × Held)). parent_name_in t c.args.node.now.inode) c.self.view_is ∙ sym was)
          (inl (
            λ q. c.remove-then-not-bears.ensures.updates.0 q ∙ ap (λ b. cond (tied left q) false b) (c.in_ok-is_new.ensures.updates.0 q),
            parted c.args.node.now.parent c.args.name c.args.node.now.inode (c.in-Some.parent, c.in-Some.left) other,
          ));
      marked = c.in_default.ensures.marks;
    }

pub invariant_of-self-else-not-bears : goal.invariant_of-self-else-not-bears
invariant_of-self-else-not-bears c =
    let old = c.self.inside.inodes in
    let was : Some (c.in-Some.parent, c.in-Some.left) ≡ parent_name_in c.args.self.now c.args.node.now.inode = search rules in
    let same : ((eqb c.in-Some.parent c.args.node.now.parent) && is_named c.args.name (Some c.in-Some.left)) ≡ true = search rules in
    record {
      ordered = c.in_default.ensures.ok.ordered;
      indexed = by_key old c.write_marked.new.inodes c.args.node.now c.args.name c.self.inside.children.keys c.self.invariant.indexed c.insert.new.self.keys
          c.requires.writable.named c.in_default.ensures.ok (Some (c.in-Some.parent, c.in-Some.left))
          (ap (λ (t : List (ℕ × Held)). parent_name_in t c.args.node.now.inode) c.self.view_is ∙ sym was)
          (inr (c.in_ok-is_new.ensures.updates.0, stayed c.args.node.now.parent c.args.name (c.in-Some.parent, c.in-Some.left) same));
      marked = c.in_default.ensures.marks;
    }

pub returns-in_default-old-clause-ok : goal.returns-in_default-old-clause-ok
returns-in_default-old-clause-ok c =
    put_there c.self.inside.inodes c.args.self.now c.write_marked.new.inodes c.args.node.now c.self.view_is c.self.invariant.ordered c.in_default.ensures.ok

pub returns-then-not-bears-clause-ok : goal.returns-then-not-bears-clause-ok
returns-then-not-bears-clause-ok c =
    put_there c.self.inside.inodes c.args.self.now c.write_marked.new.inodes c.args.node.now c.self.view_is c.self.invariant.ordered c.in_default.ensures.ok

pub returns-else-not-bears-clause-ok : goal.returns-else-not-bears-clause-ok
returns-else-not-bears-clause-ok c =
    put_there c.self.inside.inodes c.args.self.now c.write_marked.new.inodes c.args.node.now c.self.view_is c.self.invariant.ordered c.in_default.ensures.ok
