-- What stands in the block, and one byte more.
use Rattle.std.proofs.Common.{◌∙◌, ℕ, Bool, false, [], ◌∷◌, Option, None, Some, subst, ap}
use Rattle.std.specs.Io.KnownBytes.{Consumes}
use Rattle.std.specs.Io.Buffered.{reader_remaining}
use Rattle.jffs_protocol.specs.Hearing.{line_feed, TakesNext, TakesPart}
use Rattle.jffs_protocol.proofs.Taking.{part_more, byte_more, line_cut, line_ended, line_kept}
use Rattle.jffs_protocol.proofs.hearing.hear_line.Goals as goal

pub loop-preserved : goal.loop-preserved
loop-preserved g c =
    let old = reader_remaining g.R.Read.remaining c.args.input.now in
    let before = reader_remaining g.R.Read.remaining c.loop.input in
    let mid = reader_remaining g.R.Read.remaining c.take_part.new.input in
    let new = reader_remaining g.R.Read.remaining c.next_byte.new.input in
    let byte = c.in-Some.byte in
    let takes : Consumes mid new (byte ∷ []) =
    subst (λ (o : Option ℕ). TakesNext mid new o) c.in-Some.is c.in_ok-next_byte.ensures in
    let part : TakesPart old mid c.in_ok-long.long c.take_part.new.line.items =
    part_more old before mid _ _ _ _ c.loop.invariant c.in_ok-long.ensures in
    part_more old mid new _ _ _ _ part (byte_more mid new _ _ _ _ byte takes c.in-Some.byte-test.1 c.in_ok-long-in-Some.ensures)

pub returns-in-Some-eq10 : goal.returns-in-Some-eq10
returns-in-Some-eq10 g c =
    let old = reader_remaining g.R.Read.remaining c.args.input.now in
    let before = reader_remaining g.R.Read.remaining c.loop.input in
    let mid = reader_remaining g.R.Read.remaining c.take_part.new.input in
    let new = reader_remaining g.R.Read.remaining c.next_byte.new.input in
    let takes : Consumes mid new line_feed =
    subst (λ (o : Option ℕ). TakesNext mid new o) (c.in-Some-eq10.is ∙ ap (λ b. Some b) c.in-Some-eq10.field-0-test) c.in_ok-next_byte.ensures in
    let part : TakesPart old mid c.in_ok-long.long c.take_part.new.line.items =
    part_more old before mid _ _ _ _ c.loop.invariant c.in_ok-long.ensures in
    line_ended old mid new _ _ part takes

pub returns-in-Some-eq10-2 : goal.returns-in-Some-eq10-2
returns-in-Some-eq10-2 g c =
    let old = reader_remaining g.R.Read.remaining c.args.input.now in
    let before = reader_remaining g.R.Read.remaining c.loop.input in
    let mid = reader_remaining g.R.Read.remaining c.take_part.new.input in
    let new = reader_remaining g.R.Read.remaining c.next_byte.new.input in
    let takes : Consumes mid new line_feed =
    subst (λ (o : Option ℕ). TakesNext mid new o) (c.in-Some-eq10.is ∙ ap (λ b. Some b) c.in-Some-eq10.field-0-test) c.in_ok-next_byte.ensures in
    let part : TakesPart old mid c.in_ok-long.long c.take_part.new.line.items =
    part_more old before mid _ _ _ _ c.loop.invariant c.in_ok-long.ensures in
    let short : TakesPart old mid false c.take_part.new.line.items =
    subst (λ (b : Bool). TakesPart old mid b c.take_part.new.line.items) c.if-long.false part in
    line_kept old mid new _ short takes

pub returns-in-None : goal.returns-in-None
returns-in-None g c =
    let old = reader_remaining g.R.Read.remaining c.args.input.now in
    let before = reader_remaining g.R.Read.remaining c.loop.input in
    let mid = reader_remaining g.R.Read.remaining c.take_part.new.input in
    let new = reader_remaining g.R.Read.remaining c.next_byte.new.input in
    let none : TakesNext mid new None =
    subst (λ (o : Option ℕ). TakesNext mid new o) c.in-None.is c.in_ok-next_byte.ensures in
    let part : TakesPart old mid c.in_ok-long.long c.take_part.new.line.items =
    part_more old before mid _ _ _ _ c.loop.invariant c.in_ok-long.ensures in
    line_cut old mid new _ _ part none
