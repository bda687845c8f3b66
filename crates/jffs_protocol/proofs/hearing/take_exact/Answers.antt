-- What was read stands after what was read before.
use Rattle.std.proofs.Common.{◌-◌, ℕ, length, take, rules, le_refl, sym, subst, take_all}
use Rattle.std.specs.Io.KnownBytes.{Consumes}
use Rattle.std.proofs.KnownBytes.{Consumes-kept}
use Rattle.std.proofs.lemmas.Slice.{take-put_mid_below}
use borrow.Rule.Slice.PartMut.{put_mid}
use Rattle.jffs_protocol.proofs.Taking.{read_more}
use Rattle.jffs_protocol.proofs.hearing.take_exact.Goals as goal
use Rattle.jffs_protocol.proofs.hearing.take_exact.Goals.{in-Ok, in-Err}

pub returns-then-at-bytes : goal.returns-then-at-bytes
returns-then-at-bytes g c = record {
  taken = (c.loop.invariant.long, subst (Consumes _ _) (take_all c.loop.at c.loop.bytes c.if-at-bytes.true) c.loop.invariant.taken);
  same_length = c.loop.invariant.long;
}

pub loop-preserved : goal.loop-preserved
loop-preserved g c =
    let old = g.R.Read.remaining c.args.input.now in
    let mid = g.R.Read.remaining c.loop.input in
    let new = g.R.Read.remaining c.read.new.self in
    let from = c.loop.at in
    let room = length c.loop.bytes - from in
    let all = put_mid from room c.loop.bytes c.read.new.buf in
    let within = c.loop.invariant.within in
    elim c.match-read.branch [
      | in-Ok w ↦ record {
        long = search rules;
        within = search rules;
        taken = subst (λ (n : ℕ). Consumes old new (take n all)) (sym w.at-is)
            (read_more from room w.in-Ok.count c.loop.bytes c.read.new.buf old mid new within w.in-Ok.ensures.bound.0 c.loop.invariant.taken w.in-Ok.ensures.bytes.0);
      }
      | in-Err w ↦ record {
        long = search rules;
        within = search rules;
        taken = subst (λ (n : ℕ). Consumes old new (take n all)) (sym w.at-is)
            (subst (Consumes old new) (sym (take-put_mid_below from room c.loop.bytes c.read.new.buf from (le_refl _) within))
            (Consumes-kept old mid new _ c.loop.invariant.taken w.in-Err.ensures.bytes));
      }
    ]
