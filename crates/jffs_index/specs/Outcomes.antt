-- How requests were answered: the latest outcome for each sender and number, in their order.
use Rattle.std.specs.Prelude.{◌≡◌, ℕ, ◌==◌, ◌&&◌, List, Option, Some, None, if◌then◌else◌}
use Rattle.std.specs.Ordering.{nat_cmp, ordering_then}
use Rattle.std.specs.declared.cmp.Ordering.{Ordering}
use Rattle.std.specs.Map.{lookup, remove_entry}
use Rattle.std.specs.BTreeMap.{insert_entry, is_at}
use Rattle.jffs_tree.specs.declared.wish.Outcome.{Outcome}

abbrev pub Outcomes : Type 0
Outcomes = List ((ℕ × ℕ) × Outcome)

-- by the sender, then by the number
abbrev pub request_cmp : ℕ × ℕ → ℕ × ℕ → Ordering
request_cmp a b = ordering_then (nat_cmp a.0 b.0) (nat_cmp a.1 b.1)

abbrev pub outcome_at : Outcomes → ℕ → ℕ → Option Outcome
outcome_at outcomes writer seq = lookup (is_at (request_cmp (writer, seq))) outcomes

abbrev pub with_outcome : Outcomes → ℕ → ℕ → Outcome → Outcomes
with_outcome outcomes writer seq outcome = insert_entry request_cmp outcomes (writer, seq) outcome

-- with what stood there before an outcome was entered
abbrev pub restored : Outcomes → ℕ → ℕ → Option Outcome → Outcomes
restored outcomes writer seq None = remove_entry (is_at (request_cmp (writer, seq))) outcomes
restored outcomes writer seq (Some outcome) = with_outcome outcomes writer seq outcome

-- The latest outcome of a request counts, and those of others stay.
abbrev pub LatestCounts : Type 0
LatestCounts = (outcomes : Outcomes) (writer seq w s : ℕ) (outcome : Outcome)
    → outcome_at (with_outcome outcomes writer seq outcome) w s
    ≡ (if (writer == w) && (seq == s) then Some outcome else outcome_at outcomes w s)
