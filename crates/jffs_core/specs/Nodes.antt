-- An answer and the node that was appended for it.
use Rattle.std.specs.Prelude.{◌≡◌, Option, Some, None, List, [], ◌∷◌}
use Rattle.jffs_node.specs.declared.node.Node.{Node}
use Rattle.jffs_tree.specs.declared.wish.Outcome.{Outcome}
use Rattle.jffs_tree.specs.declared.wish.Outcome.TheVariants.{Appended, Copied, Closed, Refused}

-- the node, where there is one
abbrev pub listed : Option Node → List Node
listed None = []
listed (Some node) = node ∷ []

-- a node that was appended or copied has the outcome's numbers
abbrev pub HasNumbers : Outcome → Node → Type 0
HasNumbers (Appended inode version) node = (node.inode ≡ inode) × (node.version ≡ version)
HasNumbers (Copied version) node = node.version ≡ version
HasNumbers Closed node = Unit {0}
HasNumbers (Refused cause) node = Unit {0}

-- there is such a node, and for a refused request there is none
abbrev pub HasNode : Outcome → Option Node → Type 0
HasNode (Appended inode version) None = ⊥
HasNode (Copied version) None = ⊥
HasNode Closed made = Unit {0}
HasNode (Refused cause) made = made ≡ None
HasNode outcome (Some node) = HasNumbers outcome node
