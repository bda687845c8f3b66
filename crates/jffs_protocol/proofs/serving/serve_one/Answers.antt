-- What was heard is answered.
use Rattle.std.proofs.Common.{◌≡◌, take, subst}
use Rattle.std.specs.Io.KnownBytes.{Appends}
use Rattle.std.specs.Io.Buffered.{reader_remaining}
use Rattle.jffs_protocol.specs.Asks.{body_len}
use Rattle.jffs_protocol.specs.Hearing.{Hears, Drops, Takes}
use Rattle.jffs_protocol.specs.Serving.{Responds, ServesNext, malformed_text}
use Rattle.jffs_protocol.specs.declared.hearing.Heard.{Heard}
use Rattle.jffs_protocol.specs.declared.serving.Next.{Next}
use Rattle.jffs_protocol.specs.declared.serving.Next.TheVariants as next
use Rattle.jffs_protocol.proofs.Exchanges.{none_served, one_served}
use Rattle.jffs_protocol.proofs.Heard.{if_ok_as}
use Rattle.jffs_protocol.proofs.serving.serve_one.Goals as goal

pub returns-in-Ok-Malformed : goal.returns-in-Ok-Malformed
returns-in-Ok-Malformed g c =
    let m = g.S.Server.manner in
    let s = c.args.server.now in
    let i = reader_remaining g.R.Read.remaining c.args.input.now in
    let j = reader_remaining g.R.Read.remaining c.hear.new.input in
    let o = g.W.Write.contents c.args.out.now in
    let p = g.W.Write.contents c.deny.new.out in
    let drops : Drops i j = subst (λ (h : Heard). Hears i j h c.hear.new.room.body.items) c.in-Ok-Malformed.field-0-is c.in-Ok-Malformed.ensures in
    record {
      served = if_ok_as (λ (n : Next). (n ≡ next.More) × Appends o p malformed_text) (λ (n : Next). ServesNext m n s s i j o p) c.deny.result
          (λ n h. none_served m n s i j o p h.0 drops h.1) c.deny.ensures;
    }

pub returns-in-Ok-Asked : goal.returns-in-Ok-Asked
returns-in-Ok-Asked g c =
    let m = g.S.Server.manner in
    let s = c.args.server.now in
    let t = c.respond.new.server in
    let i = reader_remaining g.R.Read.remaining c.args.input.now in
    let j = reader_remaining g.R.Read.remaining c.hear.new.input in
    let o = g.W.Write.contents c.args.out.now in
    let p = g.W.Write.contents c.respond.new.out in
    let ask = c.in-Ok-Asked.ask in
    let room = c.hear.new.room.body.items in
    let takes : Takes i j ask room = subst (λ (h : Heard). Hears i j h room) c.in-Ok-Asked.field-0-is c.in-Ok-Asked.ensures in
    record {
      served = if_ok_as (λ (n : Next). Responds m ask (take (body_len ask) room) n s t o p) (λ (n : Next). ServesNext m n s t i j o p) c.respond.result
          (λ n h. one_served m n s t ask room i j o p takes h) c.respond.ensures;
    }
