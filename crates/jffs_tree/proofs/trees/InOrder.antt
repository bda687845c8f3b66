-- The inodes of a tree, in any order.
use Rattle.std.proofs.Common.{◌≡◌, ℕ, Bool, List, sym, ap, ◌∙◌}
use Rattle.std.specs.List.{list_all}
use Rattle.std.proofs.lemmas.List.Folds.{list_all-map}
use Rattle.jffs_inodes.specs.Held.{Entry, Held}
use Rattle.jffs_tree.specs.Origin.{state_in}

-- A test of what stands at each inode, over a list with the inodes of a tree in any order.
pub same_tests : (test : ℕ × Entry → Bool) (left listed inodes tree : List (ℕ × Held)) → left ≡ listed
    → ((q : ℕ × Held → Bool) → list_all q listed ≡ list_all q inodes) → inodes ≡ tree → list_all test (state_in left) ≡ list_all test (state_in tree)
same_tests test left listed inodes tree begins all is =
    ap (λ (es : List (ℕ × Held)). list_all test (state_in es)) begins
    ∙ list_all-map test (λ e. (e.0, e.1.entry)) listed
    ∙ all (λ e. test (e.0, e.1.entry))
    ∙ sym (list_all-map test (λ e. (e.0, e.1.entry)) inodes)
    ∙ ap (λ (es : List (ℕ × Held)). list_all test (state_in es)) is
