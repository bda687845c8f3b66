-- When a run answers NoSpace.
use Rattle.std.proofs.Common.{◌≡◌, ◌∙◌, ◌≤◌, ℕ, List, Ok, refl, sym, ap, subst, arith}
use Rattle.jffs_node.specs.declared.node.Node.{Node}
use Rattle.jffs_tree.specs.declared.wish.Cause.{Cause}
use Rattle.jffs_tree.specs.declared.wish.Cause.TheVariants as causes
use Rattle.jffs_tree.specs.declared.wish.NewNode.{NewNode}
use Rattle.jffs_tree.specs.declared.wish.Outcome.TheVariants.{Refused}
use Rattle.jffs_line.specs.declared.request.Request.{Request}
use Rattle.jffs_log.specs.Image.{past_of}
use Rattle.jffs_log.specs.Room.{heavy, weight}
use Rattle.jffs_core.specs.CoreState.{CoreState}
use Rattle.jffs_flash.specs.Device.{Device}
use Rattle.jffs_core.specs.Past.{IsFresh}
use Rattle.jffs_core.specs.Answering.{turn_of}
use Rattle.jffs_serve.specs.Chain.{IsReplied}
use Rattle.jffs_core.specs.Step.{Volume, Turn, RefusedBy, decision}
use Rattle.jffs_serve.specs.Replies.{Reply}
use Rattle.jffs_serve.proofs.ChainLaws.{no_space_is_heavy, no_space_is_heavy_then, outcome_is, same_volume, unmounts_have_space, unmounts_have_space_then}
use Rattle.jffs_run.specs.Heavy.{RunsHaveRoom, SpaceIsSure, TurnsHaveRoom, SpaceIsSureThen, IsWant}
use Rattle.jffs_run.specs.Account.{Account}
use Rattle.jffs_run.specs.Headline.{IsRun}
use Rattle.jffs_run.specs.Turns.{InRun}
use Rattle.jffs_run.proofs.promises.Turns.{turn_in, so_far}

pub runs_have_room : RunsHaveRoom
runs_have_room before start account fresh run first later r two are keep is =
    let turn = turn_in fresh run first r later are in
    let at = turn.within in
    record {
      turn = turn;
      share = λ n decided made. no_space_is_heavy _ _ at.taken start at.was at.now first r n fresh.stands at.so_far two keep at.replied is decided made;
      no_unmount = λ unmount. unmounts_have_space _ _ at.taken start at.was at.now first r fresh.stands at.so_far two keep at.replied unmount is;
    }

-- where a node was decided on, the cause is a want, or room was missing
which_want : (cause : Cause) (t : Turn) (q : Request) (copies : List Node) (n : NewNode) → RefusedBy cause t q copies → decision t q ≡ Ok n → (cause ≡ causes.NoSpace → ⊥) → IsWant cause
which_want causes.VersionsSpent t q copies n why decided other = tt
which_want causes.Memory t q copies n why decided other = tt
which_want causes.Device t q copies n why decided other = tt
which_want causes.Failed t q copies n why decided other = tt
which_want causes.NoSpace t q copies n why decided other = absurd (other refl)
which_want _ t q copies n why decided other = absurd (let both = sym why.1 ∙ decided in cc)

answered_by_want :
    {mounted past : List Node} {was now : CoreState} {r : Reply} (replied : IsReplied mounted past was r now) (cause : Cause) (n : NewNode)
    → r.step.outcome ≡ Refused cause → decision (turn_of past was now) r.request ≡ Ok n → (cause ≡ causes.NoSpace → ⊥) → IsWant cause
answered_by_want {r = r} replied cause n is decided other = let why = outcome_is replied (Refused cause) is in which_want cause _ r.request _ n why.0 decided other

pub space_is_sure : SpaceIsSure
space_is_sure before start account fresh run first later r two are keep =
    let turn = turn_in fresh run first r later are in
    let at = turn.within in
    record {
      turn = turn;
      sure = λ n cause light decided made is. answered_by_want at.replied cause n is decided
          (λ space. let full = no_space_is_heavy _ _ at.taken start at.was at.now first r n fresh.stands at.so_far two keep at.replied (is ∙ ap Refused space) decided made in omega (arith, light, full));
    }

-- the stated share of a volume is the same at each turn
heavy_then :
    {before : Device} {start : CoreState} {account : Account} {run : IsRun start account} {first : List Reply} {r : Reply} {later : List Reply}
    (fresh : IsFresh before start) (turn : InRun run (past_of fresh.scanned.log) first r later)
    → heavy turn.within.was.index.sectors turn.within.was.index.sector_size ≡ heavy start.index.sectors start.index.sector_size
heavy_then {start = start} fresh turn = let so = so_far fresh turn in ap (λ (v : Volume). heavy v.sectors v.sector_size) (same_volume start turn.within.was so.sizes)

pub turns_have_room : TurnsHaveRoom
turns_have_room before start account fresh run first later r are is =
    let turn = turn_in fresh run first r later are in
    let at = turn.within in (
      turn,
      λ two. record {
        share = λ n decided made. subst (λ (h : ℕ). h ≤ weight at.taken) (heavy_then fresh turn) (no_space_is_heavy_then _ at.taken at.was at.now r n at.replied two is decided made);
        no_unmount = λ unmount. unmounts_have_space_then _ at.taken at.was at.now r at.replied two unmount is;
      },
    )

pub space_is_sure_then : SpaceIsSureThen
space_is_sure_then before start account fresh run first later r are =
    let turn = turn_in fresh run first r later are in
    let at = turn.within in (
      turn,
      λ two n cause light decided made is. answered_by_want at.replied cause n is decided
          (λ space. let full = no_space_is_heavy_then _ at.taken at.was at.now r n at.replied two (is ∙ ap Refused space) decided made in omega (arith, light, full, heavy_then fresh turn)),
    )
