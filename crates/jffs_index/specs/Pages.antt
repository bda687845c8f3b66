-- What a page shows, and the rule that the threads keep.
use Rattle.std.specs.Prelude.{◌≡◌, ℕ, List, [], ◌∷◌, Option, Some, None, ⊤}
use mathlib.Core.Option.{some}
use lib.ListN.{get_elem?}
use Rattle.jffs_index.specs.declared.step.Step.{Step}
use Rattle.jffs_index.specs.declared.rule.History.{History}
use Rattle.jffs_index.specs.declared.rule.Index.{Index}
use Rattle.jffs_index.specs.declared.page.Page.{Page}
use Rattle.jffs_index.specs.declared.page.Change.{Change}
use Rattle.jffs_index.specs.declared.page.Change.TheVariants.{Put, Reach}
use Rattle.jffs_index.specs.Shown.{after_tested}
use Rattle.jffs_index.specs.Histories.{view_of}
use Rattle.jffs_index.specs.Books.{head_of}
use Rattle.jffs_index.specs.Sights.{opened_tree}

-- which index a page is of
abbrev pub page_index : Page → Index
page_index p = record { head = head_of p.seen.book; opening = opened_tree p.opening.log }

-- the history that a page carries
abbrev pub history_of : Page → History
history_of p = record { opening = opened_tree p.opening.log; steps = p.seen.log }

-- the page shows what its history makes
abbrev pub IsFaithful : Page → Type 0
IsFaithful p = p.view ≡ view_of (history_of p)

abbrev pub after_change : Page → Change → Page
after_change p (Put s) = record p { view = after_tested p.view s }
after_change p (Reach t) = record p { seen = t }

-- the steps among these changes
abbrev pub steps_of : List Change → List Step
steps_of [] = []
steps_of (Put s ∷ changes) = s ∷ steps_of changes
steps_of (Reach t ∷ changes) = steps_of changes

-- a seat that knows an index knows this one
abbrev pub Knows : Index → Option Index → Type 0
Knows index None = ⊤
Knows index (Some known) = known ≡ index

-- The page that is published shows what its history makes, and each seat that knows an index knows
-- the page's.
abbrev pub Keeps : Page → List (Option Index) → Type 0
Keeps x views =
    IsFaithful x × ((seat : ℕ) (known : Option Index) → get_elem? views seat ≡ some known
    → Knows (page_index x) known)

-- the page y is of the index that was known, if one was, and shows what its history makes
abbrev pub Sees : Option Index → Page → Page → Option Index → Type 0
Sees known x y known' = (known' ≡ Some (page_index y)) × Knows (page_index y) known × IsFaithful y
