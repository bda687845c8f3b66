-- A request's line, and then what it counts.
use Rattle.std.proofs.Common.{◌≡◌, ◌∙◌, Option, IfSome, sym, subst}
use Rattle.std.specs.Io.Buffered.{reader_remaining}
use Rattle.jffs_protocol.specs.Asks.{ask_line}
use Rattle.jffs_protocol.specs.Hearing.{HearsLine, HearsBody, Hears, TakesLine}
use Rattle.jffs_protocol.specs.declared.asking.Ask.{Ask}
use Rattle.jffs_protocol.specs.declared.hearing.Heard.{Heard}
use Rattle.jffs_protocol.specs.declared.hearing.LineEnd.{LineEnd}
use Rattle.jffs_protocol.proofs.Heard.{if_ok_as, body_heard}
use Rattle.jffs_protocol.proofs.hearing.hear.Goals as goal

pub returns-in-Some : goal.returns-in-Some
returns-in-Some g c =
    let old = reader_remaining g.R.Read.remaining c.args.input.now in
    let mid = reader_remaining g.R.Read.remaining c.hear_line.new.input in
    let new = reader_remaining g.R.Read.remaining c.hear_body.new.input in
    let line = c.hear_line.new.line.items in
    let room = c.hear_body.new.room.body.items in
    let ask = c.in-Some.ask in
    let takes : TakesLine old mid line = subst (λ (e : LineEnd). HearsLine old mid e line) c.in-Whole.is c.in_ok-hear_line.ensures in
    let is : line ≡ ask_line ask =
    sym c.deref.ensures.value ∙ subst (λ (o : Option Ask). IfSome o (λ a. c.deref.result.now ≡ ask_line a)) c.in-Some.is c.in_ok-ask_of-in-Whole.ensures in
    if_ok_as (λ (h : Heard). HearsBody ask mid new h room) (λ (h : Heard). Hears old new h room) c.hear_body.result
    (λ h b. body_heard ask line old mid new room h takes is b) c.hear_body.ensures
