use Rattle.std.proofs.Common.{◌≡◌, ℕ, ◌+◌, ◌≤◌, true, List, [], ◌∷◌, length, take, replicate, refl, ap, subst, ◌∙◌, arith}
use Rattle.jffs_node.specs.declared.node.Node.{Node}
use Rattle.jffs_node.specs.Record.{spelling, spelling_open, record_len, is_lawful}
use Rattle.jffs_flash.specs.Wear.{Wear, Wears, no_erase}
use Rattle.jffs_flash.specs.Device.{Device, with_image, Fails}
use Rattle.jffs_flash.specs.Image.{replaced, programmed, IsHalfProgrammed}
use Rattle.jffs_log.specs.Gate.{IsWritten}
use Rattle.jffs_log.proofs.append.Gate.{length-open, first_half, second_whole, second_half}
use Rattle.std.proofs.lemmas.List.{take-replicate}
use Rattle.std.proofs.lemmas.Result.{MatchResult-from_err, MatchResult-weaker}
use Rattle.jffs_log.proofs.writing.write_through.Goals as goal

pub encode_open_into-requires-clause-erased : goal.encode_open_into-requires-clause-erased
encode_open_into-requires-clause-erased g c =
    let len = c.record_len.result in
    let is = c.record_len.ensures in
    let long = c.requires.long in
    ap (λ (xs : List ℕ). take len xs) c.requires.erased ∙ take-replicate len (length c.args.buffer.now) 255 (omega arith)
    ∙ ap (λ k. replicate k 255) is

pub returns-in_err-program_erased-clause-written : goal.returns-in_err-program_erased-clause-written
returns-in_err-program_erased-clause-written g c =
    let n = c.args.node.now in
    let at = c.args.at in
    let old = g.F.Flash.device c.args.flash.now in
    let new = g.F.Flash.device c.program_erased.new.flash in
    let fails = c.in_err-program_erased.ensures.programmed in
    let open_gate : c.encode_open_into.new.out ≡ spelling_open n = c.encode_open_into.ensures in
    let half = subst (λ (xs : List ℕ). IsHalfProgrammed at xs old.image new.image) open_gate fails.left in
    let written : Fails (IsWritten at n old.image) old new = record {
      left = first_half at n old.image new.image c.requires.may.lawful c.requires.may.free.erased half;
      faults = fails.faults;
      rest = fails.rest;
    } in
    MatchResult-from_err c.from_residual.result (λ _. new ≡ with_image old (replaced at (spelling n) old.image)) (λ _. Fails (IsWritten at n old.image) old new)
    c.from_residual.ensures.0 (λ _. written)

pub returns-clause-written : goal.returns-clause-written
returns-clause-written g c =
    let n = c.args.node.now in
    let at = c.args.at in
    let old = g.F.Flash.device c.args.flash.now in
    let mid = g.F.Flash.device c.program_erased.new.flash in
    let new = g.F.Flash.device c.program.new.self in
    let open_gate : c.encode_open_into.new.out ≡ spelling_open n = c.encode_open_into.ensures in
    let first : mid ≡ with_image old (replaced at (spelling_open n) old.image) =
    c.in_ok-program_erased.ensures.programmed ∙ ap (λ (xs : List ℕ). with_image old (replaced at xs old.image)) open_gate in
    let Done : Device → Type 0 = λ d. new ≡ with_image d (programmed (at + 7) (0 ∷ []) d.image) in
    let Failed : Device → Type 0 = λ d. Fails (IsHalfProgrammed (at + 7) (0 ∷ []) d.image) d new in
    MatchResult-weaker c.program.result c.program.ensures.device
    (λ _ e. subst Done first e ∙ ap (with_image old) (second_whole at n old.image c.requires.may.lawful c.requires.may.free.inside))
    (λ _ h.
    let fails = subst Failed first h in
    record {
      left = second_half at n old.image new.image c.requires.may.lawful c.requires.may.free.inside fails.left;
      faults = fails.faults;
      rest = fails.rest;
    })

-- a record that was written, or perhaps its gate besides
record_wears : (n : Node) (old mid new : Wear) (bytes : List ℕ) (gate : ℕ) → length bytes ≡ record_len n → gate ≤ 1 → Wears no_erase (length bytes) old mid → Wears no_erase gate mid new → Wears no_erase (record_len n + 1) old new
record_wears n old mid new bytes gate long few one two = record {
  erased = λ k. let none : no_erase k ≡ 0 = refl in let a = one.erased k in let b = two.erased k in omega arith;
  programmed = let a = one.programmed in let b = two.programmed in omega arith;
}

-- the bytes that are programmed first are as many as the record's
record_long : (n : Node) (out : List ℕ) → out ≡ spelling_open n → is_lawful n ≡ true → length out ≡ record_len n
record_long n out is lawful = ap (λ (xs : List ℕ). length xs) is ∙ length-open n lawful

pub returns-in_err-program_erased-clause-worn : goal.returns-in_err-program_erased-clause-worn
returns-in_err-program_erased-clause-worn g c =
    let n = c.args.node.now in
    let mid = g.F.Flash.wear c.program_erased.new.flash in
    record_wears n _ mid mid _ 0 (record_long n _ c.encode_open_into.ensures c.requires.may.lawful) (omega arith) c.program_erased.ensures.worn
    (record { erased = λ k. omega arith; programmed = omega arith })

pub returns-clause-worn : goal.returns-clause-worn
returns-clause-worn g c =
    let n = c.args.node.now in
    record_wears n _ _ _ _ 1 (record_long n _ c.encode_open_into.ensures c.requires.may.lawful) (omega arith) c.program_erased.ensures.worn c.program.ensures.worn
