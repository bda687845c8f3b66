use Rattle.std.specs.Prelude.{⊤}
use Rattle.std.proofs.Common.{◌≡◌, ℕ, true, false, List, Some, sym}
use Rattle.std.specs.Ordering.{is_gt}
use Rattle.jffs_tree.specs.Index.{ChildKey, key_cmp, has_child}
use Rattle.jffs_tree.proofs.listing.KeyOrder.{first_of_name}
use Rattle.jffs_marks.proofs.Order.{of_first}
use Rattle.jffs_tree.proofs.listing.Indexed.{is_least, no_child}
use Rattle.jffs_tree.proofs.children.first_named.Goals as goal

-- a key of the index from the first key of the name on
abbrev In : List ChildKey → ℕ → List ℕ → ChildKey → Type 0
In keys p name k = ((is_gt (key_cmp (p, Some name, 0) k) ≡ false) × ⊤) × (has_child keys k ≡ true)

pub returns-in_default-clause-none : goal.returns-in_default-clause-none
returns-in_default-clause-none c =
    λ j. (c.range-rest.ensures.in_range tt).5 c.in_default.ensures.steps.0 (c.args.parent, Some c.args.name.now, j) (first_of_name c.args.parent (Some c.args.name.now) j, tt)

pub returns-then-bears-clause-least : goal.returns-then-bears-clause-least
returns-then-bears-clause-least c =
    let part = c.range-rest.ensures.in_range tt in
    is_least c.args.children.now.keys c.args.parent c.args.name.now c.in-Some.first.now
    (λ q low has. of_first (λ (k : ChildKey). is_gt (key_cmp k q) ≡ false) c.in-Some.ensures.steps (part.2 q (low, tt) has))
    (of_first (In c.args.children.now.keys c.args.parent c.args.name.now) c.in-Some.ensures.steps part.1).0.0

pub returns-else-bears-clause-none : goal.returns-else-bears-clause-none
returns-else-bears-clause-none c =
    let part = c.range-rest.ensures.in_range tt in
    no_child c.args.children.now.keys c.args.parent c.args.name.now c.in-Some.first.now
    (λ q low has. of_first (λ (k : ChildKey). is_gt (key_cmp k q) ≡ false) c.in-Some.ensures.steps (part.2 q (low, tt) has))
    (of_first (In c.args.children.now.keys c.args.parent c.args.name.now) c.in-Some.ensures.steps part.1).0.0
    (sym c.if-bears.ensures)
