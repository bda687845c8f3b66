use Rattle.std.proofs.Common.{◌≡◌, ◌+◌, ℕ, List, length, arith, sym, ◌∙◌}
use Rattle.std.proofs.lemmas.List.{length_push}
use Rattle.jffs_line.specs.declared.request.Request.{Request}
use Rattle.jffs_line.specs.Requests.{request}
use Rattle.jffs_run.proofs.asked.Numbers.{numbered-more}
use Rattle.jffs_run.proofs.writer.run_writer.Goals as goal

pub loop-command-preserved : goal.loop-command-preserved
loop-command-preserved g c =
    let before = c.loop-command.invariant in
    let sender : ℕ = g.H.Hand.sender c.args.hand in
    let old : List Request = g.H.Hand.accepted c.loop-command.hand in
    let slot : ℕ = c.loop-command.command-index in
    let added = c.offer_until.ensures.accepted c.in-Accepted.is in
    let more = numbered-more sender 1 c.args.commands.now slot c.command-item.result c.loop-command-test.true (sym c.command-item.is) in
    let number : length old + 1 ≡ 1 + slot = let count = before.count in omega arith in
    let longer : length (g.H.Hand.accepted c.offer_until.new.hand) ≡ length old + 1 =
    rw added (length_push old (request (g.H.Hand.sender c.loop-command.hand) (length old + 1) c.in-Ok.wish)) in
    record {
      sender = c.offer_until.ensures.end.0 ∙ before.sender;
      line = c.offer_until.ensures.end.1 ∙ before.line;
      count = let count = before.count in omega arith;
      accepted = rw (added, before.sender, number, c.in-Ok.ensures, before.accepted) (sym more);
    }
