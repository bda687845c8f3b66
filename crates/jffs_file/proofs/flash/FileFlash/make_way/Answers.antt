-- What nothing delays may follow.
use Rattle.std.proofs.Common.{ℕ, sym, subst, subst₂}
use Rattle.std.specs.List.{All}
use Rattle.jffs_file.specs.Order.{MayProgram}
use Rattle.jffs_file.specs.Flying.{IsKnown}
use Rattle.jffs_file.proofs.flash.FileFlash.make_way.Goals as goal

pub returns-then-not-delays-clause-ready : goal.returns-then-not-delays-clause-ready
returns-then-not-delays-clause-ready g c = λ _ flying known.
    let size = c.sector_size-sector_size.ensures.size in
    subst₂ (λ (k z : ℕ). MayProgram k z flying c.args.write) c.sectors-sectors.ensures.count size
    (c.delays.ensures c.if-not-delays.true flying (subst (λ (z : ℕ). All (IsKnown z c.args.self.now.flight) flying) (sym size) known))
