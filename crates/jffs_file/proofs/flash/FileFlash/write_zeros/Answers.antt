-- What stands in the store once some zeros were written.
use Rattle.std.proofs.Common.{◌≡◌, ℕ, ◌≤◌, List, [], ◌∷◌, length, take, subst, arith}
use Rattle.std.specs.List.{All}
use Rattle.std.proofs.lemmas.List.{length-take-le}
use Rattle.jffs_file.specs.declared.span.Span.{Span}
use Rattle.jffs_file.specs.Stored.{NotesCall, wrote}
use Rattle.jffs_file.specs.Flying.{IsKnown}
use Rattle.jffs_file.proofs.Flights.{may_program_alone}
use Rattle.jffs_file.proofs.Ordering.{order_programmed}
use Rattle.jffs_file.proofs.Written.{changed_by}
use Rattle.jffs_file.proofs.flash.FileFlash.write_zeros.Goals as goal

abbrev zeros : List ℕ
zeros = 0 ∷ 0 ∷ 0 ∷ 0 ∷ []

-- some of four zeros are as many
length-some : (n : ℕ) → n ≤ 4 → length (take n zeros) ≡ n
length-some n few = length-take-le n zeros few

pub returns-clause-changes : goal.returns-clause-changes
returns-clause-changes g c = λ size fits image same inside.
    let long = length-some c.args.len c.requires.few in
    changed_by c.args.at size (take c.args.len zeros) image c.overwrite.result _ (omega (arith, long)) inside
    (c.overwrite.ensures.bytes image same (omega (arith, long)))

pub returns-clause-ordered : goal.returns-clause-ordered
returns-clause-ordered g c = λ short order.
    let held = c.args.self.now.held in
    let was = c.args.self.now.flight in
    let long = length-some c.args.len c.requires.few in
    let notes = subst (λ (n : ℕ). NotesCall (wrote c.args.at n) c.overwrite.result (g.S.Store.past c.args.self.now.store) (g.S.Store.past c.overwrite.new.self))
    long c.overwrite.ensures.noted in
    let adds : (flying : List Span) → All (IsKnown held.sector_size was) flying → All (IsKnown held.sector_size c.add.new.self) (c.span-write.result ∷ flying) =
    subst (λ (z : ℕ). (flying : List Span) → All (IsKnown z was) flying → All (IsKnown z c.add.new.self) (c.span-write.result ∷ flying))
    c.sector_size.ensures.size c.add.ensures in
    order_programmed held _ _ was c.add.new.self c.span-write.result c.args.at c.args.len c.overwrite.result c.span-write.ensures short
    (λ flying known. may_program_alone held.sectors held.sector_size was c.span-write.result flying c.requires.settled known)
    adds notes order
