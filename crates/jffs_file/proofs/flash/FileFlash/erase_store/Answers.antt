-- What stands in the store after an erase.
use Rattle.std.proofs.Common.{ℕ, List, ap, subst, arith}
use Rattle.jffs_flash.specs.Image.{window}
use Rattle.jffs_flash.proofs.Halves.{length-window}
use Rattle.jffs_file.specs.declared.span.Span.{Span}
use Rattle.jffs_file.specs.Stored.{Overwrites}
use Rattle.jffs_file.specs.Order.{IsErase}
use Rattle.jffs_file.proofs.Written.{rewritten}
use Rattle.jffs_file.proofs.Ordering.{order_erased}
use Rattle.jffs_file.proofs.flash.FileFlash.erase_store.Goals as goal

pub returns-clause-written : goal.returns-clause-written
returns-clause-written g c = λ _ image same inside.
    let held = c.args.self.now.held in
    let all = window c.args.at c.args.size held.image in
    let doomed = record c.args.self.now { store = c.begin_erase.new.self.store; flight = c.begin_erase.new.self.flight } in
    let kept = ap (λ (f : _). f.held.image) {y = doomed} c.begin_erase.ensures.rest in
    let over = subst (λ (xs : List ℕ). Overwrites c.args.at (window c.args.at c.args.size xs) c.write_through.result
    (g.S.Store.stored c.begin_erase.new.self.store) (g.S.Store.stored c.write_through.new.self.store)) kept c.write_through.ensures.written in
    rewritten c.args.at c.args.size all image c.write_through.result _ _ (length-window c.args.at c.args.size held.image c.requires.inside)
    inside (c.begin_erase.ensures.changes image same inside) over

pub returns-clause-ordered : goal.returns-clause-ordered
returns-clause-ordered g c = λ on more was.
    let held = c.args.self.now.held in
    let whole : IsErase held.sector_size c.span.result =
    omega (arith, ap (λ (s : Span). s.from) c.span.ensures, ap (λ (s : Span). s.to) c.span.ensures, c.requires.size) in
    rw c.write_through.ensures.rest
    (order_erased held _ _ _ _ c.begin_erase.new.self.flight c.erase-self.result c.span.result c.args.at c.args.size c.write_through.result
    c.span.ensures c.requires.size (c.in_ok-begin_erase.ensures.noted on more) c.write_through.ensures.noted (c.erase-self.ensures held.sector_size whole)
    was (c.begin_erase.ensures.ordered on more was))
