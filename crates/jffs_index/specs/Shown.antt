-- What a view shows.
use Rattle.std.specs.Prelude.{ℕ, ◌+◌, Bool, true, false, ◌&&◌, ◌||◌, List, [], ◌∷◌, Option, Some}
use Rattle.std.specs.Prelude.{None, if◌then◌else◌}
use Rattle.jffs_node.specs.declared.node.Node.{Node}
use Rattle.jffs_inodes.specs.Inodes.{Tree}
use Rattle.jffs_tree.specs.After.{tree_after, can_apply}
use Rattle.jffs_tree.specs.declared.wish.Outcome.{Outcome}
use Rattle.jffs_tree.specs.declared.wish.Outcome.TheVariants.{Closed}
use Rattle.jffs_index.specs.declared.step.Step.{Step}
use Rattle.jffs_index.specs.Outcomes.{Outcomes, with_outcome}

-- A tree, how requests were answered, how many answers there were, and whether one of them was
-- Closed.
pub record Shown : Type 0 where
  pub tree : Tree
  pub outcomes : Outcomes
  pub answered : ℕ
  pub closed : Bool

-- the tree after a step
abbrev pub tree_with : Tree → Option Node → Tree
tree_with tree None = tree
tree_with tree (Some node) = tree_after tree node

abbrev pub closes : Outcome → Bool
closes Closed = true
closes _ = false

-- what is shown after a step
abbrev pub after_step : Shown → Step → Shown
after_step x s = record {
  tree = tree_with x.tree s.node;
  outcomes = with_outcome x.outcomes s.writer s.seq s.outcome;
  answered = x.answered + 1;
  closed = x.closed || closes s.outcome;
}

-- what is shown before the first step
abbrev pub opened : Tree → Shown
opened tree = record { tree = tree; outcomes = []; answered = 0; closed = false }

-- whether a step's node may be applied
abbrev pub fits_node : Tree → Option Node → Bool
fits_node tree None = true
fits_node tree (Some node) = can_apply tree node

abbrev pub fits : Shown → Step → Bool
fits x s = fits_node x.tree s.node

-- whether each step's node may be applied at its turn
abbrev pub all_fit : Shown → List Step → Bool
all_fit x [] = true
all_fit x (s ∷ steps) = fits x s && all_fit (after_step x s) steps

-- a step whose node may not be applied leaves the tree: no such step is put
abbrev pub after_tested : Shown → Step → Shown
after_tested x s = if fits x s then after_step x s else after_step x (record s { node = None })

-- the tree of that
abbrev pub tree_tested : Tree → Option Node → Tree
tree_tested tree node = if fits_node tree node then tree_with tree node else tree
