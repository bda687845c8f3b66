-- A program that nothing delays may follow what is in flight.
use Rattle.std.proofs.Common.{ℕ, sym, subst, subst₂, ◌∙◌}
use Rattle.std.specs.List.{All}
use Rattle.jffs_file.specs.Order.{MayProgram}
use Rattle.jffs_file.specs.Flying.{IsKnown}
use Rattle.jffs_file.proofs.Flights.{may_program}
use Rattle.jffs_file.proofs.flight.InFlight.delays.Goals as goal
use Rattle.jffs_file.proofs.flight.InFlight.delays.Goals.{then-lies_over_others, else-lies_over_others}

pub returns-else-lies_apart : goal.returns-else-lies_apart
returns-else-lies_apart c = λ none flying known.
    elim c.if-lies_over_others.branch [
      | then-lies_over_others w ↦ absurd (cc)
      | else-lies_over_others w ↦
          let same = c.from-size.ensures in
          subst₂ (λ (k z : ℕ). MayProgram k z flying c.args.write) c.from.ensures same
          (may_program c.from.result c.from-size.result c.args.self.now c.args.write flying
          (record {
            rest = c.lies_over_others.ensures.rest w.if-lies_over_others.false;
            erasing = c.lies_over_others.ensures.erasing w.if-lies_over_others.false;
            last = w.lies_apart.ensures (sym w.value-is ∙ c.if-lies_apart.false);
            begun = c.delays_begin.ensures.begun none;
            before = c.delays_begin.ensures.before none;
          })
          (subst (λ (z : ℕ). All (IsKnown z c.args.self.now) flying) (sym same) known))
    ]
