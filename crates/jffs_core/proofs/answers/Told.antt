-- The node that an answer tells of.
use Rattle.std.proofs.Common.{◌≡◌, List, [], ◌∷◌, Option, Some, None, refl, sym, ap, ◌∙◌}
use Rattle.jffs_node.specs.declared.node.Node.{Node}
use Rattle.jffs_tree.specs.declared.wish.Outcome.{Outcome}
use Rattle.jffs_tree.specs.declared.wish.Outcome.TheVariants.{Appended, Copied, Closed, Refused}
use Rattle.jffs_line.specs.declared.request.Request.{Request}
use Rattle.jffs_core.specs.Step.{Turn, IsStep}
use Rattle.jffs_core.specs.Nodes.{HasNode, listed}

is_one : (a b : Node) → ◌≡◌ {A = List Node} (a ∷ []) (b ∷ []) → a ≡ b
is_one a b e = cc

not_none : (a : Node) → ◌≡◌ {A = List Node} [] (a ∷ []) → ⊥
not_none a e = cc

-- The node of a lawful step has the numbers of its outcome.
pub node_told : (t : Turn) (q : Request) (o : Outcome) (after : List Node) (node : Option Node) → (s : IsStep t q o after) → s.own ≡ listed node → HasNode o node
node_told t q (Appended inode version) after None s is = absurd (not_none _ (sym is ∙ s.outcome.added))
node_told t q (Appended inode version) after (Some node) s is =
    let same = is_one node _ (sym is ∙ s.outcome.added) in
    (ap (λ (m : Node). m.inode) same ∙ s.outcome.inode_is, ap (λ (m : Node). m.version) same)
node_told t q (Copied version) after None s is = absurd (not_none _ (sym is ∙ s.outcome.added))
node_told t q (Copied version) after (Some node) s is = ap (λ (m : Node). m.version) (is_one node _ (sym is ∙ s.outcome.added))
node_told t q Closed after None s is = tt
node_told t q Closed after (Some node) s is = tt
node_told t q (Refused cause) after None s is = refl
node_told t q (Refused cause) after (Some node) s is = absurd (not_none node (sym s.outcome.1 ∙ is))
