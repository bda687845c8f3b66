-- A node that fits makes the tree of one node more, and one that doesn't fit refuses all.
use Rattle.std.proofs.Common.{◌≡◌, Bool, true, false, ◌||◌, ◌&&◌, ◌++◌, List, take, reverse, inr, refl, sym, ap, ◌∙◌}
use Rattle.std.specs.Prelude.{is_some}
use Rattle.std.proofs.Math.Bool.{or_comm}
use Rattle.jffs_node.specs.declared.node.Node.{Node}
use Rattle.jffs_node.specs.Record.{is_lawful}
use Rattle.jffs_tree.specs.Origin.{tree_of}
use Rattle.jffs_tree.specs.Check.{each_fits}
use Rattle.jffs_tree.specs.After.{can_apply}
use Rattle.jffs_tree.proofs.trees.Applied.{lawful_suits}
use Rattle.jffs_tree.specs.Check.{keeps_form_after, has_second_form}
use Rattle.jffs_log.proofs.scans.ScanFold.{lawful_at, refused_at, fits_next, next_past, fits_after}
use Rattle.jffs_log.proofs.folding.MadeTree.add.Goals as goal
use Rattle.jffs_log.proofs.folding.MadeTree.add.Goals.{After-node-item}

-- the test on the tree is the test on the nodes so far
same_test : (old : Bool) (tree : _) (past : List Node) (n : Node) (answer : Bool) → tree ≡ tree_of past → old ≡ has_second_form past → answer ≡ (keeps_form_after old n && can_apply tree n) → fits_after past n ≡ answer
same_test old tree past n answer is sizes h = sym (h ∙ (λ i. keeps_form_after (sizes i) n && can_apply (is i) n))

-- the node at hand is lawful
lawful : (c : After-node-item) → is_lawful c.node-item.result ≡ true
lawful c = lawful_at c.args.nodes.now c.loop-node.node-index c.node-item.result c.loop-node-test.true c.node-item.is c.requires

pub fits-requires : goal.fits-requires
fits-requires c = lawful (goal.at.fits-requires c).After-node-item

pub apply-requires : goal.apply-requires
apply-requires c = lawful_suits c.loop-node.self.tree c.node-item.result (lawful (goal.at.apply-requires c).After-node-item) (c.if-not-fits.ensures.offsets refl)

pub loop-node-preserved : goal.loop-node-preserved
loop-node-preserved c = λ past made.
    let w = c.loop-node.invariant past made in
    let n = c.node-item.result in
    let older = reverse (take c.loop-node.node-index c.args.nodes.now) ++ past in
    let more = next_past past c.args.nodes.now c.loop-node.node-index n c.loop-node-test.true c.node-item.is in
    let fits = same_test c.loop-node.self.has_sizes c.loop-node.self.tree older n true w.tree w.sizes c.if-not-fits.ensures.value in
    record {
      tree = c.in-Ok.ensures.ok older w.tree ∙ ap tree_of (sym more);
      fit = ap each_fits more ∙ fits_next older n w.fit fits;
      sizes = ap (λ b. c.loop-node.self.has_sizes || b) c.is_some.ensures ∙ ap (λ b. b || is_some n.size) w.sizes ∙ or_comm (has_second_form older) (is_some n.size) ∙ ap has_second_form (sym more);
    }

pub returns-then-not-fits-clause-refused : goal.returns-then-not-fits-clause-refused
returns-then-not-fits-clause-refused c = inr (
  refl,
  λ past made.
      let w = c.loop-node.invariant past made in
      let n = c.node-item.result in
      let older = reverse (take c.loop-node.node-index c.args.nodes.now) ++ past in
      let unfit = same_test c.loop-node.self.has_sizes c.loop-node.self.tree older n false w.tree w.sizes c.if-not-fits.ensures.value in
      refused_at past c.args.nodes.now c.loop-node.node-index n c.loop-node-test.true c.node-item.is c.requires unfit,
)
