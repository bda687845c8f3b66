-- The history of an index.
use Rattle.std.specs.Prelude.{◌≡◌, List, [], ◌++◌}
use Rattle.std.specs.List.{fold}
use Rattle.jffs_inodes.specs.Inodes.{Tree}
use Rattle.jffs_index.specs.declared.step.Step.{Step}
use Rattle.jffs_index.specs.declared.rule.History.{History}
use Rattle.jffs_index.specs.Shown.{Shown, opened, after_step}

-- what is shown after these steps, over the opening tree
abbrev pub view_of : History → Shown
view_of h = fold after_step (opened h.opening) h.steps

-- the history of an index that was just opened
abbrev pub opening_of : Tree → History
opening_of tree = record { opening = tree; steps = [] }

-- the history with more steps at its end
abbrev pub extended : History → List Step → History
extended h steps = record { opening = h.opening; steps = h.steps ++ steps }

-- one history is the beginning of the other
abbrev pub BeginsWith : History → History → Type 0
BeginsWith h k = (rest : List Step) × (h ≡ extended k rest)

-- a look, by one who knew `known` before and `known'` after it, was at a view of which P holds: the
-- view of a history that begins with all that was known, and is known now
abbrev pub LooksAt : History → History → (Shown → Type 0) → Type 0
LooksAt known known' P = BeginsWith known' known × P (view_of known')
