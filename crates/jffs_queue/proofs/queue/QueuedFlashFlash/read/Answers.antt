use Rattle.std.proofs.Common.{◌≡◌, ◌+◌, ◌*◌, ◌≤◌, ◌++◌, List, length, refl, subst, sym, ap, ◌∙◌, arith}
use Rattle.jffs_flash.specs.Device.{Device}
use Rattle.jffs_queue.specs.declared.call.Call.{Call}
use Rattle.jffs_queue.specs.Queue.{Queued, IsQueue, seen_device, carried_out, IsLaidOver}
use Rattle.jffs_queue.proofs.Carrying.{IsUnderway, length-seen, goes_on}
use Rattle.jffs_queue.proofs.queue.QueuedFlashFlash.read.Goals as goal

pub read-requires : goal.read-requires
read-requires c =
    let long = length-seen _ _ refl c.self.invariant in
    let P : Queued → Type 0 = λ q. c.args.at + length c.args.buffer.now ≤ length (seen_device q).image in
    let inside = subst P (sym c.self.view_is) c.requires in
    omega (arith, long, inside, c.self.invariant.whole)

pub calls-preserved : goal.calls-preserved
calls-preserved c =
    let q = c.args.self.now in
    let n = length c.args.buffer.now in
    let long = length-seen _ q c.self.view_is c.self.invariant in
    let fits : c.args.at + n ≤ q.sectors * q.sector_size = omega (arith, long, c.requires) in
    let size : c.sector_size-size.result ≡ q.sector_size =
    c.sector_size-size.ensures.size ∙ ap (λ (d : Device). d.sector_size) c.in_ok-read.ensures.device ∙ ap (λ (f : Queued). f.sector_size) c.self.view_is in
    let laid = subst (λ k. IsLaidOver k c.in-Some.call.now c.args.at c.calls.buffer c.lay_over.new.buffer) size c.lay_over.ensures in
    let later = c.next.new.self.head.now ++ c.next.new.self.wrapped.now in
    let all = carried_out q.sector_size q.calls q.medium in
    let way = subst (λ (left : List Call). IsUnderway q.sectors q.sector_size c.args.at n c.calls.buffer left all) c.in-Some.ensures.steps c.calls.invariant.shows in
    record {
      can_next = tt;
      is_finite = tt;
      shows = goes_on q.sectors q.sector_size c.args.at n c.calls.buffer c.lay_over.new.buffer c.in-Some.call.now later all fits way laid;
    }

pub invariant_of-self-2 : goal.invariant_of-self-2
invariant_of-self-2 c =
    let f = c.self.inside in
    let P : Device → Type 0 = λ d. IsQueue (record { sectors = d.sectors; sector_size = d.sector_size; medium = d.image; calls = f.calls.items; faults = f.faults; failed_erases = f.failed_erases }) in
    subst P (sym c.in_ok-read.ensures.device) c.self.invariant
