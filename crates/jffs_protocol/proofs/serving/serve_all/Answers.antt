-- One exchange after another.
use Rattle.std.proofs.Common.{subst}
use Rattle.std.specs.Io.Buffered.{reader_remaining}
use Rattle.jffs_protocol.specs.Serving.{ServesNext}
use Rattle.jffs_protocol.specs.declared.serving.Next.{Next}
use Rattle.jffs_protocol.proofs.Exchanges.{served_all, served_last, served_more, served_none}
use Rattle.jffs_protocol.proofs.serving.serve_all.Goals as goal

pub loop-init : goal.loop-init
loop-init g c =
    served_none g.S.Server.manner c.args.server.now (reader_remaining g.R.Read.remaining c.args.input.now) (g.W.Write.contents c.args.out.now) (g.W.Write.contents c.greet.new.out)
    c.in_ok-greet.ensures

pub returns-in-Last : goal.returns-in-Last
returns-in-Last g c =
    let m = g.S.Server.manner in
    let s = c.loop.server in
    let t = c.serve_one.new.server in
    let i = reader_remaining g.R.Read.remaining c.loop.input in
    let j = reader_remaining g.R.Read.remaining c.serve_one.new.input in
    let o = g.W.Write.contents c.loop.out in
    let p = g.W.Write.contents c.serve_one.new.out in
    let one = subst (λ (n : Next). ServesNext m n s t i j o p) c.in-Last.is c.in_ok-serve_one.ensures.served in
    served_last m c.args.server.now s t (reader_remaining g.R.Read.remaining c.args.input.now) i j (g.W.Write.contents c.args.out.now) o p c.loop.invariant one

pub returns-in-End : goal.returns-in-End
returns-in-End g c =
    let m = g.S.Server.manner in
    let s = c.loop.server in
    let t = c.serve_one.new.server in
    let i = reader_remaining g.R.Read.remaining c.loop.input in
    let j = reader_remaining g.R.Read.remaining c.serve_one.new.input in
    let o = g.W.Write.contents c.loop.out in
    let p = g.W.Write.contents c.serve_one.new.out in
    let none = subst (λ (n : Next). ServesNext m n s t i j o p) c.in-End.is c.in_ok-serve_one.ensures.served in
    served_all m c.args.server.now s t (reader_remaining g.R.Read.remaining c.args.input.now) i j (g.W.Write.contents c.args.out.now) o p c.loop.invariant none

pub loop-preserved : goal.loop-preserved
loop-preserved g c =
    let m = g.S.Server.manner in
    let s = c.loop.server in
    let t = c.serve_one.new.server in
    let i = reader_remaining g.R.Read.remaining c.loop.input in
    let j = reader_remaining g.R.Read.remaining c.serve_one.new.input in
    let o = g.W.Write.contents c.loop.out in
    let p = g.W.Write.contents c.serve_one.new.out in
    let one = subst (λ (n : Next). ServesNext m n s t i j o p) c.in-More.is c.in_ok-serve_one.ensures.served in
    served_more m c.args.server.now s t (reader_remaining g.R.Read.remaining c.args.input.now) i j (g.W.Write.contents c.args.out.now) o p c.loop.invariant one
