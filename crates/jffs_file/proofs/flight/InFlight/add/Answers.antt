-- One more program is known.
use Rattle.std.proofs.Common.{ℕ, ◌%◌, ap, ◌∙◌, refl}
use Rattle.std.proofs.lemmas.Bool.{false≢true}
use Rattle.jffs_file.proofs.Flights.{known_more}
use Rattle.jffs_file.proofs.flight.InFlight.add.Goals as goal

pub returns-then-begins : goal.returns-then-begins
returns-then-begins c = λ flying known.
    known_more _ c.args.self.now _ c.args.write flying
    (record { rest = c.joined-self.ensures; last = refl; erasing = refl; begun = λ _. refl; begins = λ _. refl }) known

pub returns-else-begins : goal.returns-else-begins
returns-else-begins c = λ flying known.
    known_more _ c.args.self.now _ c.args.write flying
    (record {
      rest = c.joined-self.ensures;
      last = refl;
      erasing = refl;
      begun = λ was. was;
      begins = λ at.
          absurd (false≢true (c.if-begins.ensures (ap (λ (n : ℕ). c.args.write.from % n) c.from.ensures ∙ at)));
    }) known
