-- The index lists the directory, and it is searched after the last key that the name may have.
use Rattle.std.proofs.Common.{ℕ, List, ◌≤◌, Option, Some, None, IfSome, sym, subst, ◌∙◌}
use Rattle.jffs_tree.specs.Index.{names_under}
use Rattle.jffs_tree.specs.Listing.{IsFirst, is_name_after, is_past}
use Rattle.jffs_tree.proofs.listing.After.{index_names, past_none, same_first, first_later, up_to_last}
use Rattle.jffs_tree.proofs.listing.Directories.{first_listed, nothing_listed}
use Rattle.jffs_tree.proofs.tree.Tree.name_after.Goals as goal

pub returns-then-not-is_directory : goal.returns-then-not-is_directory
returns-then-not-is_directory c =
    nothing_listed (is_name_after c.args.given) c.args.self.now c.args.directory (sym c.is_directory.ensures ∙ c.if-not-is_directory.true)

pub name_past-requires : goal.name_past-requires
name_past-requires c = record { named = index_names c.self.inside.inodes c.self.inside.children.keys c.self.invariant.indexed }

pub name_past-requires-in-None : goal.name_past-requires-in-None
name_past-requires-in-None c = record { named = index_names c.self.inside.inodes c.self.inside.children.keys c.self.invariant.indexed }

pub returns-in-Some : goal.returns-in-Some
returns-in-Some c =
    let names = names_under c.args.directory c.self.inside.children.keys in
    let small = up_to_last c.name_past.result c.name_past.ensures.fits in
    subst (λ (given : Option (List ℕ)). IsFirst (is_name_after given) c.args.self.now c.args.directory c.name_past.result) (sym c.in-Some.is)
    (first_listed (is_name_after (Some c.in-Some.name)) (is_past (c.args.directory, Some c.in-Some.name, 4294967295)) c.args.directory
    c.self.inside.inodes c.args.self.now c.self.inside.children.keys c.name_past.result c.self.view_is c.self.invariant.ordered c.self.invariant.indexed
    c.name_past.ensures.ordered (sym c.is_directory.ensures ∙ c.if-not-is_directory.false)
    (first_later c.args.directory c.in-Some.name 4294967295 names (subst (λ (o : Option (List ℕ × ℕ)). IfSome o (λ e. e.1 ≤ 4294967295)) c.name_past.ensures.first small))
    c.name_past.ensures.first)

pub returns-in-None : goal.returns-in-None
returns-in-None c =
    subst (λ (given : Option (List ℕ)). IsFirst (is_name_after given) c.args.self.now c.args.directory c.name_past-in-None.result) (sym c.in-None.is)
    (first_listed (is_name_after None) (is_past (c.args.directory, None, 0)) c.args.directory
    c.self.inside.inodes c.args.self.now c.self.inside.children.keys c.name_past-in-None.result c.self.view_is c.self.invariant.ordered c.self.invariant.indexed
    c.name_past-in-None.ensures.ordered (sym c.is_directory.ensures ∙ c.if-not-is_directory.false)
    (same_first (names_under c.args.directory c.self.inside.children.keys) (λ e. past_none c.args.directory e)) c.name_past-in-None.ensures.first)
