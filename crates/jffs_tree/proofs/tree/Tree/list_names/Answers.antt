use Rattle.std.proofs.Common.{◌≡◌, true, sym, ◌∙◌}
use Rattle.std.specs.List.Sorted.{IsStrictlySortedBy, IsPermutation, IsSorted}
use Rattle.std.proofs.lemmas.Result.{IfOk-weaker}
use Rattle.jffs_tree.specs.State.{is_directory_in}
use Rattle.jffs_tree.specs.Origin.{state_in}
use Rattle.jffs_tree.specs.Index.{names_under}
use Rattle.jffs_tree.specs.Look.{names_in, name_cmp}
use Rattle.jffs_tree.proofs.listing.Directories.{sorted_names, lists_directory, from_both}
use Rattle.jffs_tree.proofs.tree.Tree.list_names.Goals as goal

pub returns-then-is_directory-clause-all : goal.returns-then-is_directory-clause-all
returns-then-is_directory-clause-all c =
    let is_dir : is_directory_in (state_in c.args.self.now) c.args.inode ≡ true = sym c.is_directory.ensures ∙ c.if-is_directory.true in
    from_both c.names_of.result
    (λ names. names.items ≡ names_under c.args.inode c.self.inside.children.keys)
    (λ names. IsStrictlySortedBy name_cmp names.items)
    (λ names. IsPermutation (names_in c.args.self.now c.args.inode) names.items)
    (λ names all rising. lists_directory c.args.inode c.self.inside.inodes c.args.self.now c.self.inside.children.keys names.items c.self.view_is c.self.invariant.ordered
    c.self.invariant.indexed is_dir all rising)
    c.names_of.ensures.all
    c.names_of.ensures.rising

pub returns-then-is_directory-clause-ordered : goal.returns-then-is_directory-clause-ordered
returns-then-is_directory-clause-ordered c =
    IfOk-weaker c.names_of.result (λ names. IsStrictlySortedBy name_cmp names.items) (λ names. IsSorted name_cmp names.items)
    (λ names rising. sorted_names names.items rising) c.names_of.ensures.rising
