-- All that the request counts was taken, or less was left.
use Rattle.std.proofs.Common.{arith, ◌≡◌, ◌+◌}
use Rattle.jffs_protocol.specs.Asks.{body_len}
use Rattle.jffs_protocol.proofs.Heard.{has_body, body_dropped}
use Rattle.jffs_protocol.proofs.hearing.hear_body.Goals as goal

pub returns-then-branch-2 : goal.returns-then-branch-2
returns-then-branch-2 g c =
    let first = c.first_len-first.ensures in
    let second = c.second_len-second.ensures in
    let all : c.first_len-first.result + c.second_len-second.result ≡ body_len c.args.ask = omega (arith, first, second) in
    has_body c.args.ask c.in_ok-fill.field-0 _ _ _ _ c.if-branch-2.true all c.in_ok-fill.ensures

pub returns-then-branch : goal.returns-then-branch
returns-then-branch g c =
    let first = c.first_len-first.ensures in
    let second = c.second_len-second.ensures in
    let all : c.first_len-first.result + c.second_len-second.result ≡ body_len c.args.ask = omega (arith, first, second) in
    body_dropped c.args.ask c.in_ok-skip.field-0 _ _ _ c.if-branch.true all c.in_ok-skip.ensures
