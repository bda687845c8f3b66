use Rattle.std.proofs.Common.{ℕ, List, Some, ap, subst, sym, ◌∙◌, ◌<◌, ◌^◌}
use Rattle.jffs_tree.proofs.listing.After.{none_past, other_past, name_past}
use Rattle.jffs_tree.proofs.children.name_past.Goals as goal

pub returns-in_default-clause-first : goal.returns-in_default-clause-first
returns-in_default-clause-first c =
    none_past c.args.parent c.args.name c.args.inode c.args.children.now.keys c.range-rest.result c.range-rest.ensures.ordered c.requires.named
    (c.range-rest.ensures.between tt) c.in_default.ensures.steps.0

pub returns-then-directory-parent-clause-first : goal.returns-then-directory-parent-clause-first
returns-then-directory-parent-clause-first c =
    other_past c.args.parent c.args.name c.args.inode c.args.children.now.keys c.range-rest.result c.range-rest.ensures.ordered c.requires.named
    (c.range-rest.ensures.between tt) c.in-Some.key.now c.next.new.self c.in-Some.ensures.steps c.if-directory-parent.true

pub returns-in-Some-found-clause-first : goal.returns-in-Some-found-clause-first
returns-in-Some-found-clause-first c =
    ap (λ (e : List ℕ × ℕ). Some e) c.entry.ensures.is
    ∙ name_past c.args.parent c.args.name c.args.inode c.args.children.now.keys c.range-rest.result c.range-rest.ensures.ordered c.requires.named
    (c.range-rest.ensures.between tt) c.in-Some.key.now c.next.new.self c.in-Some-found.name c.in-Some.ensures.steps c.if-directory-parent.false c.in-Some-found.is

pub returns-in-Some-found-clause-fits : goal.returns-in-Some-found-clause-fits
returns-in-Some-found-clause-fits c =
    subst (λ (e : List ℕ × ℕ). e.1 < 2 ^ 32) (sym c.entry.ensures.is) c.entry.ensures.fits
