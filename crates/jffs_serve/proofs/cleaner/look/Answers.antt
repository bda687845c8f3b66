use Rattle.std.proofs.Common.{rules, ◌≡◌, ℕ, List, [], subst, ◌∙◌, Option, Some, None, IfSome}
use Rattle.jffs_node.specs.declared.node.Node.{Node}
use Rattle.jffs_inodes.specs.Inodes.{Tree}
use Rattle.jffs_index.specs.Histories.{view_of}
use Rattle.jffs_index.specs.Ends.{known}
use Rattle.jffs_serve.specs.declared.cleaner.Found.{Found}
use Rattle.jffs_serve.specs.declared.copies.Copying.{Copying}
use Rattle.jffs_serve.specs.Copies.{AreSome, AddsSome}
use Rattle.jffs_serve.specs.Copying.{copies_of, nodes_in}
use Rattle.jffs_serve.specs.Cleaning.{bytes_of}
use Rattle.jffs_serve.proofs.Copying.{copies_looked}
use Rattle.jffs_serve.proofs.cleaner.look.Goals as goal

-- copies of some nodes are among those of all
looked :
    (tree : Tree) (some all : List Node) (found : Option Found)
    → AreSome some all → IfSome found (λ f. AddsSome [] f.copies.items (copies_of tree some))
    → IfSome found (λ f. AreSome f.copies.items (copies_of tree all))
looked tree some all None are is = tt
looked tree some all (Some f) are is = copies_looked tree some all f.copies.items are is

pub returns-clause-found : goal.returns-clause-found
returns-clause-found c =
    let tree : Tree = (view_of (known c.find.new.reader)).tree in
    let none : c.reserve.new.self.items ≡ [] = c.reserve.ensures.items ∙ c.new-copies.ensures.items in
    let same : c.nodes_of-nodes.result.items ≡ c.deref.result.now = search rules in
    let nodes : AreSome c.deref.result.now (nodes_in (bytes_of c.args.image.now)) =
    subst (λ (image : List ℕ). AreSome c.deref.result.now (nodes_in image)) c.bytes_in.ensures
    (subst (λ (ns : List Node). AreSome ns (nodes_in c.bytes_in.result.now)) same c.nodes_of-nodes.ensures) in
    looked tree c.deref.result.now (nodes_in (bytes_of c.args.image.now)) c.find.result nodes
    (subst (λ (before : List Copying). IfSome c.find.result (λ f. AddsSome before f.copies.items (copies_of tree c.deref.result.now))) none c.find.ensures.found)
