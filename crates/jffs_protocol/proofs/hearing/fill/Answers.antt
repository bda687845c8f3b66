-- All of the vector was read.
use Rattle.std.proofs.Common.{◌∙◌, Bool, length}
use Rattle.jffs_protocol.specs.Hearing.{TakesBytes}
use Rattle.jffs_protocol.proofs.Heard.{if_ok_as}
use Rattle.jffs_protocol.proofs.Taking.{filled}
use Rattle.jffs_protocol.proofs.hearing.fill.Goals as goal

pub returns : goal.returns
returns g c =
    if_ok_as
    (λ (all : Bool). TakesBytes all (g.R.Read.remaining c.args.input.now) (g.R.Read.remaining c.take_exact.new.input) (length c.deref_mut.result.now) c.take_exact.new.bytes) _
    c.take_exact.result
    (λ all h.
    filled all _ c.take_exact.new.bytes _ _ _ _ _ (c.take_exact.ensures.same_length ∙ c.deref_mut.ensures.len) c.in_ok-resize.ensures.len
    (c.deref_mut.ensures.len ∙ c.in_ok-resize.ensures.len) h) c.take_exact.ensures.taken
