-- What stands in the store after a program.
use Rattle.std.proofs.Common.{◌≡◌, ℕ, List, ◌∷◌, Some, sym, ap, subst, ◌∙◌}
use Rattle.std.specs.List.{All}
use Rattle.std.proofs.lemmas.Result.{MatchResult-from_err}
use Rattle.jffs_file.specs.declared.span.Span.{Span}
use Rattle.jffs_file.specs.Flying.{IsKnown}
use Rattle.jffs_file.proofs.Written.{window_again}
use Rattle.jffs_file.proofs.Ordering.{order_programmed}
use Rattle.jffs_file.proofs.flash.FileFlash.program_store.Goals as goal

pub returns-in_err-make_way-clause-written : goal.returns-in_err-make_way-clause-written
returns-in_err-make_way-clause-written g c = λ _ image same inside.
    let none = ap (λ (xs : List ℕ). Some xs) (sym (window_again c.args.at _ image inside)) in
    MatchResult-from_err _ _ _ c.from_residual.ensures.0 (λ _. (0, c.make_way.ensures.same ∙ same ∙ none))

pub returns-clause-ordered : goal.returns-clause-ordered
returns-clause-ordered g c = λ on short order.
    let held = c.args.self.now.held in
    let way = c.make_way.ensures.ordered on order in
    let waited = record c.args.self.now { store = c.make_way.new.self.store; flight = c.make_way.new.self.flight } in
    let size : c.sector_size.result ≡ held.sector_size =
    c.sector_size.ensures.size ∙ ap (λ (f : _). f.held.sector_size) {y = waited} c.make_way.ensures.rest in
    let adds : (flying : List Span) → All (IsKnown held.sector_size c.make_way.new.self.flight) flying
    → All (IsKnown held.sector_size c.add.new.self) (c.span-write.result ∷ flying) =
    subst (λ (z : ℕ). (flying : List Span) → All (IsKnown z c.make_way.new.self.flight) flying → All (IsKnown z c.add.new.self) (c.span-write.result ∷ flying))
    size c.add.ensures in
    rw c.write_through.ensures.rest
    (order_programmed held _ _ c.make_way.new.self.flight c.add.new.self c.span-write.result c.from-from.result c.args.len
    c.write_through.result c.span-write.ensures short (c.in_ok-make_way.ensures.ready on) adds c.write_through.ensures.noted way)
