use Rattle.std.proofs.Common.{◌≡◌, take, arith, rules, take-add, take_all, append-nil, length-drop, sym}
use Rattle.std.proofs.lemmas.List.{take_rest}
use Rattle.std.proofs.KnownBytes.{Appends-kept, Appends-nil, Appends-trans}
use Rattle.jffs_text.proofs.Adding.{begun_taken}
use Rattle.jffs_text.proofs.dumping.put.Goals as goal
use Rattle.jffs_text.proofs.dumping.put.Goals.{in-Ok, in-Err+else-ne}

pub writes-init : goal.writes-init
writes-init g c = (omega arith, Appends-nil _)

pub returns-then-sent-bytes-clause-whole : goal.returns-then-sent-bytes-clause-whole
returns-then-sent-bytes-clause-whole g c = rw (sym (take_all c.writes.sent c.args.bytes.now (omega (arith, c.if-sent-bytes.true)))) c.writes.invariant.1

pub returns-then-sent-bytes-clause-begun : goal.returns-then-sent-bytes-clause-begun
returns-then-sent-bytes-clause-begun g c = begun_taken _ _ c.args.bytes.now c.writes.sent c.writes.invariant.1

pub returns-in-Ok-eq0-clause-begun : goal.returns-in-Ok-eq0-clause-begun
returns-in-Ok-eq0-clause-begun g c =
    let zero : c.in-Ok-eq0.field-0 ≡ 0 = search rules in
    let none = rw zero at c.in-Ok-eq0.ensures.bytes in
    begun_taken _ _ c.args.bytes.now c.writes.sent (rw (append-nil (take c.writes.sent c.args.bytes.now)) at (Appends-trans _ _ _ _ _ c.writes.invariant.1 none))

pub returns-then-ne-clause-begun : goal.returns-then-ne-clause-begun
returns-then-ne-clause-begun g c = begun_taken _ _ c.args.bytes.now c.writes.sent (Appends-kept _ _ _ _ c.writes.invariant.1 c.in-Err.ensures.bytes)

pub writes-preserved : goal.writes-preserved
writes-preserved g c =
    let inv = c.writes.invariant in
    let all = c.args.bytes.now in
    let sent = c.writes.sent in
    elim c.match-write.branch [
      | in-Ok w ↦
          let more = rw (take_rest all sent) at w.in-Ok.ensures.bytes in
          let bound = rw (take_rest all sent) at w.in-Ok.ensures.bound in
          rw (w.sent-is, take-add sent w.in-Ok.count all) (omega (arith, inv.0, bound, length-drop sent all), Appends-trans _ _ _ _ _ inv.1 more)
      | in-Err+else-ne w ↦ rw w.sent-is (inv.0, Appends-kept _ _ _ _ inv.1 w.in-Err.ensures.bytes)
    ]

pub returns-clause-begun : goal.returns-clause-begun
returns-clause-begun g c = begun_taken _ _ c.args.bytes.now c.writes.sent c.writes.invariant.1
