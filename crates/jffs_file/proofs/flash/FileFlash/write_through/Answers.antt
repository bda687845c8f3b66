-- What is noted has the length of what was asked for.
use Rattle.std.proofs.Common.{◌≡◌, ℕ, ◌+◌, ◌-◌, List, length, take, drop, ap, ◌∙◌, subst, arith, length-drop}
use Rattle.std.proofs.lemmas.List.{length-take-le}
use Rattle.jffs_file.specs.Stored.{NotesCall, wrote}
use Rattle.jffs_file.proofs.flash.FileFlash.write_through.Goals as goal

pub returns-clause-noted : goal.returns-clause-noted
returns-clause-noted g c =
    let rest = drop c.args.at c.bytes.result.now in
    let held = ap (λ (xs : List ℕ). length xs) c.bytes.ensures in
    let cut : (c.args.at + c.args.len) - c.args.at ≡ c.args.len = omega arith in
    let long : length (take ((c.args.at + c.args.len) - c.args.at) rest) ≡ c.args.len =
    ap (λ n. length (take n rest)) cut
    ∙ length-take-le c.args.len rest (omega (arith, length-drop c.args.at c.bytes.result.now, held)) in
    subst (λ (n : ℕ). NotesCall (wrote c.args.at n) c.overwrite.result (g.S.Store.past c.args.self.now.store) (g.S.Store.past c.overwrite.new.self))
    long c.overwrite.ensures.noted
