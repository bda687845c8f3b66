-- The index lists the directory, and it is searched from the key of the name that was given.
use Rattle.std.proofs.Common.{ℕ, List, Option, Some, None, sym, subst, ◌∙◌}
use Rattle.jffs_tree.specs.Listing.{IsFirst, is_after, is_past}
use Rattle.jffs_tree.specs.Index.{names_under}
use Rattle.jffs_tree.proofs.listing.After.{index_names, past_name, past_none, same_first}
use Rattle.jffs_tree.proofs.listing.Directories.{first_listed, nothing_listed}
use Rattle.jffs_tree.proofs.tree.Tree.entry_after.Goals as goal

pub returns-then-not-is_directory : goal.returns-then-not-is_directory
returns-then-not-is_directory c =
    nothing_listed (is_after c.args.given) c.args.self.now c.args.directory (sym c.is_directory.ensures ∙ c.if-not-is_directory.true)

pub name_past-requires : goal.name_past-requires
name_past-requires c = record { named = index_names c.self.inside.inodes c.self.inside.children.keys c.self.invariant.indexed }

pub name_past-requires-in-None : goal.name_past-requires-in-None
name_past-requires-in-None c = record { named = index_names c.self.inside.inodes c.self.inside.children.keys c.self.invariant.indexed }

pub returns-in-Some : goal.returns-in-Some
returns-in-Some c =
    subst (λ (given : Option (List ℕ × ℕ)). IsFirst (is_after given) c.args.self.now c.args.directory c.name_past.result) (sym c.in-Some.is)
    (first_listed (is_after (Some c.in-Some.entry)) (is_past (c.args.directory, Some c.in-Some.entry.0, c.in-Some.entry.1)) c.args.directory
    c.self.inside.inodes c.args.self.now c.self.inside.children.keys c.name_past.result c.self.view_is c.self.invariant.ordered c.self.invariant.indexed
    c.name_past.ensures.ordered (sym c.is_directory.ensures ∙ c.if-not-is_directory.false)
    (same_first (names_under c.args.directory c.self.inside.children.keys) (λ e. past_name c.args.directory c.in-Some.entry.0 c.in-Some.entry.1 e)) c.name_past.ensures.first)

pub returns-in-None : goal.returns-in-None
returns-in-None c =
    subst (λ (given : Option (List ℕ × ℕ)). IsFirst (is_after given) c.args.self.now c.args.directory c.name_past-in-None.result) (sym c.in-None.is)
    (first_listed (is_after None) (is_past (c.args.directory, None, 0)) c.args.directory
    c.self.inside.inodes c.args.self.now c.self.inside.children.keys c.name_past-in-None.result c.self.view_is c.self.invariant.ordered c.self.invariant.indexed
    c.name_past-in-None.ensures.ordered (sym c.is_directory.ensures ∙ c.if-not-is_directory.false)
    (same_first (names_under c.args.directory c.self.inside.children.keys) (λ e. past_none c.args.directory e)) c.name_past-in-None.ensures.first)
