-- By what the node is: an unmount node, one that is deleted, or one that is written.
use Rattle.std.proofs.Common.{not, sym, ap, ◌∙◌}
use Rattle.std.proofs.lemmas.Bool.{and_from}
use Rattle.jffs_node.specs.Record.{is_unmount}
use Rattle.jffs_tree.proofs.trees.Applied.{small_by_numbers, suits_parts, unmounted, grown, removed, stepped}
use Rattle.jffs_node.proofs.Results.{at_error}
use Rattle.jffs_tree.proofs.tree.Tree.apply.Goals as goal

pub returns-then-is_unmount-clause-after : goal.returns-then-is_unmount-clause-after
returns-then-is_unmount-clause-after c = unmounted c.args.node.now c.args.self.now (sym c.is_unmount.ensures ∙ c.if-is_unmount.true)

pub returns-then-is_unmount-clause-ok : goal.returns-then-is_unmount-clause-ok
returns-then-is_unmount-clause-ok c = stepped c.args.node.now c.args.self.now c.args.self.now
    (unmounted c.args.node.now c.args.self.now (sym c.is_unmount.ensures ∙ c.if-is_unmount.true))

pub returns-then-node-clause-after : goal.returns-then-node-clause-after
returns-then-node-clause-after c =
    c.remove.ensures ∙ removed c.args.node.now c.args.self.now (sym c.is_unmount.ensures ∙ c.if-is_unmount.false) c.if-node.true

pub returns-then-node-clause-ok : goal.returns-then-node-clause-ok
returns-then-node-clause-ok c = stepped c.args.node.now c.args.self.now c.remove.new.self
    (c.remove.ensures ∙ removed c.args.node.now c.args.self.now (sym c.is_unmount.ensures ∙ c.if-is_unmount.false) c.if-node.true)

pub write-requires : goal.write-requires
write-requires c =
    let parts = suits_parts c.args.self.now c.args.node.now c.requires in
    record {
      writable = record { named = c.in-Some.is; small = small_by_numbers c.args.node.now parts.numbers; offsets = parts.offsets };
    }

pub returns-in_err-write-clause-memory : goal.returns-in_err-write-clause-memory
returns-in_err-write-clause-memory c = at_error _ (and_from (not (is_unmount c.args.node.now.kind)) (not c.args.node.now.deleted)
    (ap not (sym c.is_unmount.ensures ∙ c.if-is_unmount.false)) (ap not c.if-node.false))

pub returns-clause-after : goal.returns-clause-after
returns-clause-after c =
    c.in_ok-write.ensures.ok ∙ grown c.args.node.now c.args.self.now (sym c.is_unmount.ensures ∙ c.if-is_unmount.false) c.if-node.false

pub returns-clause-ok : goal.returns-clause-ok
returns-clause-ok c = stepped c.args.node.now c.args.self.now c.write.new.self
    (c.in_ok-write.ensures.ok ∙ grown c.args.node.now c.args.self.now (sym c.is_unmount.ensures ∙ c.if-is_unmount.false) c.if-node.false)
