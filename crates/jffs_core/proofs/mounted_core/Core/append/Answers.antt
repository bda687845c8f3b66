use Rattle.std.proofs.Common.{◌≡◌, ℕ, true, inl, inr, ◌<◌, List, ◌∷◌, refl, sym, ap, subst, ◌∙◌, arith}
use Rattle.std.proofs.lemmas.Bool.{both_ways}
use Rattle.jffs_node.specs.declared.node.Node.{Node}
use Rattle.jffs_node.specs.Record.{record_len}
use Rattle.jffs_flash.specs.Device.{Device, Fails}
use Rattle.jffs_flash.specs.Wear.{Wear}
use Rattle.jffs_inodes.specs.Inodes.{Tree}
use Rattle.jffs_tree.proofs.trees.Applied.{lawful_suits}
use Rattle.jffs_log.specs.declared.room.Room.{Room}
use Rattle.jffs_log.specs.LogIndex.{layout_in}
use Rattle.jffs_log.specs.LogState.{Appended}
use Rattle.jffs_log.specs.Place.{IsPlace}
use Rattle.jffs_log.specs.Room.{has_room_in}
use Rattle.jffs_log.specs.Cleaning.{put}
use Rattle.jffs_log.proofs.Results.{err_from}
use Rattle.jffs_log.proofs.Seen.{log_sizes, place_stays}
use Rattle.jffs_core.specs.CoreState.{CoreState}
use Rattle.jffs_core.specs.Past.{IsPast, HasLogIndex, RepresentsWorking, has_room_for}
use Rattle.jffs_core.specs.Appending.{MayPut, PutRefused}
use Rattle.jffs_core.proofs.room.Erasing.{leaves_kept, leaves_reserved}
use Rattle.jffs_core.proofs.puts.Putting.{mid_index, put_failed, offsets_kept, counted, put_known, may_append, mid_history, mid_layout}
use Rattle.jffs_core.proofs.scans.Mounting.{clean_ends}
use Rattle.jffs_core.proofs.mounted_core.Core.append.Goals as goal
use Rattle.jffs_core.proofs.mounted_core.Core.append.Goals.{In_ok-reserve, After-is_unmount-self-inside}

-- what is known of the core by its other name is known of the core inside
known_inside : (past : List Node) (inside seen : CoreState) → inside ≡ seen → RepresentsWorking past seen → RepresentsWorking past inside
known_inside past inside seen same known = subst (λ (v : CoreState). RepresentsWorking past v) (sym same) known

may_inside : (past : List Node) (room : Room) (n : Node) (inside seen : CoreState) → inside ≡ seen → MayPut past seen.index.sector_size room n → MayPut past inside.index.sector_size room n
may_inside past room n inside seen same may = subst (λ (v : CoreState). MayPut past v.index.sector_size room n) (sym same) may

-- where a program failed, no erase did
no_erase_fails : (P : List ℕ → Type 0) (old new : Device) → Fails P old new → new.failed_erases ≡ old.failed_erases
no_erase_fails P old new h = ap (λ (d : Device). d.failed_erases) h.rest

-- the record has room in the log, which puts it at the place that was found
had : (g : _) (c : In_ok-reserve g) → has_room_in c.self.inside.log.index.sectors c.self.inside.log.index.sector_size c.self.inside.log.device.image c.args.room (record_len c.args.node.now) ≡ true
had g c =
    let b = c.self.inside.log.index in
    let room = λ (k : ℕ). has_room_in b.sectors b.sector_size c.self.inside.log.device.image c.args.room k in
    ap room (sym c.record_len.ensures) ∙ sym {b = room c.record_len.result} (c.in-Some.ensures.exact (ap (λ (v : CoreState). v.failed) c.self.view_is ∙ c.requires.working))

found : (g : _) (c : In_ok-reserve g) → IsPlace c.args.room (record_len c.args.node.now) c.reserve.new.self.index c.in-Some.place
found g c =
    place_stays c.self.inside.log.index c.reserve.new.self.index c.args.room _ c.in-Some.place c.in_ok-reserve.ensures.same.index
    (subst (λ k. IsPlace c.args.room k c.self.inside.log.index c.in-Some.place) c.record_len.ensures c.in-Some.ensures.here)

pub apply-requires : goal.apply-requires
apply-requires g c =
    let past = c.requires.follows.0 in
    let may = c.requires.follows.2 in
    let h = known_inside past _ _ c.self.view_is c.requires.follows.1 in
    lawful_suits c.self.inside.tree c.args.node.now may.rules.lawful.each.0 (offsets_kept past c.args.node.now c.self.inside.tree h.tree_is may.rules)

pub write_at-requires-clause-may : goal.write_at-requires-clause-may
write_at-requires-clause-may g c =
    let here = goal.at.write_at-requires-clause-may g c in
    may_append _ c.args.room c.args.node.now _ c.self.inside.log c.reserve.new.self (may_inside _ _ _ _ _ c.self.view_is c.requires.follows.2) c.in_ok-reserve.ensures.same (had g here.In_ok-reserve) (found g here.In_ok-reserve)

-- the node is the newest of the history
put_here : (g : _) (c : After-is_unmount-self-inside g)
    → has_room_in c.self.inside.log.index.sectors c.self.inside.log.index.sector_size c.self.inside.log.device.image c.args.room (record_len c.args.node.now) ≡ true
    → Appended c.args.room c.args.node.now c.reserve.new.self c.write_at.new.self → (past : List Node) → RepresentsWorking past c.args.self.now → MayPut past c.args.self.now.index.sector_size c.args.room c.args.node.now
    → IsPast (c.args.node.now ∷ past) c.write_at.new.self.device.image c.write_at.new.self.index c.apply.new.self c.count.new.limits c.is_unmount-self-inside.result
put_here g c had e past known fits =
    let n = c.args.node.now in
    let old = c.self.inside.log in
    let h = known_inside past _ _ c.self.view_is known in
    put_known past c.args.room n old c.reserve.new.self c.write_at.new.self c.self.inside.tree c.apply.new.self c.self.inside.limits c.count.new.limits c.self.inside.clean _ h (may_inside past _ n _ _ c.self.view_is fits) c.in_ok-reserve.ensures.same
    had e
    (c.in_ok-apply.ensures.ok past h.tree_is)
    (counted old.index.sector_size past n c.self.inside.limits c.count.new.limits h.limits_are c.count.ensures.data_max c.count.ensures.version c.count.ensures.inode)
    c.is_unmount-self-inside.ensures

pub returns-in_err-write_at-clause-refused : goal.returns-in_err-write_at-clause-refused
returns-in_err-write_at-clause-refused g c =
    let n = c.args.node.now in
    let old = c.self.inside.log in
    let mid = c.reserve.new.self in
    let new = c.write_at.new.self in
    let f = c.in_err-write_at.ensures.failed in
    let same = c.in_ok-reserve.ensures.same in
    let before = ap (λ (d : Device). d.faults) same.device ∙ ap (λ (v : CoreState). v.faults) c.self.view_is in
    err_from c.from_residual-in_err-write_at.result c.in_err-write_at.field-0.0 (λ why. PutRefused c.args.room n why c.args.self.now _) c.from_residual-in_err-write_at.ensures.1
    (put_failed c.args.room n _ c.args.self.now _ f.cause_is f.failed (subst (λ k. k < new.device.faults) before f.device.faults)
    (λ past known may.
    let h : IsPast past old.device.image old.index c.self.inside.tree c.self.inside.limits c.self.inside.clean = known_inside past _ _ c.self.view_is known in
    record {
      clean = λ is. clean_ends past old.device.image old.index c.self.inside.tree c.self.inside.limits c.self.inside.clean h is;
      tree = inr (n, refl, c.in_ok-apply.ensures.ok past h.tree_is);
      left = λ intact. elim (f.history past (mid_history past old mid same h.history) may.rules) [ inl as_it_was ↦ inl as_it_was | inr more ↦ inr (n, refl, more) ];
      erasing = λ failed. absurd (both_ways _ f.intact failed);
    })
    (let more = f.worn.programmed in let reserved = ap (λ (w : Wear). w.bytes) same.wear in let seen = ap (λ (v : CoreState). v.wear.bytes) c.self.view_is in omega arith))

pub returns-in_err-reserve-clause-leaves : goal.returns-in_err-reserve-clause-leaves
returns-in_err-reserve-clause-leaves g c =
    let same = c.in_err-reserve.ensures.same in
    leaves_reserved _ _ _ c.self.view_is (record { answers = refl; capacity = refl; closed = refl }) same.index (ap (λ (d : Device). d.failed_erases) same.device) same.erase_failed same.wear same.unread

pub invariant_of-self-in_err-apply : goal.invariant_of-self-in_err-apply
invariant_of-self-in_err-apply g c =
    let v = c.self.inside in
    let mid = c.reserve.new.self in
    subst (λ (t : Tree). HasLogIndex mid.failed mid.device.sectors mid.device.sector_size mid.device.image mid.index t v.limits v.clean) (sym c.in_err-apply.ensures.err)
    (mid_index v.log mid v.tree v.limits v.clean c.in_ok-reserve.ensures.same c.self.invariant)

pub returns-in_err-apply-clause-leaves : goal.returns-in_err-apply-clause-leaves
returns-in_err-apply-clause-leaves g c =
    let same = c.in_ok-reserve.ensures.same in
    leaves_reserved _ _ _ c.self.view_is (record { answers = refl; capacity = refl; closed = refl }) same.index (ap (λ (d : Device). d.failed_erases) same.device) same.erase_failed same.wear same.unread

pub returns-clause-leaves : goal.returns-clause-leaves
returns-clause-leaves g c =
    let same = c.in_ok-reserve.ensures.same in
    let e = c.in_ok-write_at.ensures.done c.args.room (found g (goal.at.returns-clause-leaves g c).In_ok-reserve) in
    leaves_kept _ _ _ c.reserve.new.self _ c.self.view_is (record { answers = refl; capacity = refl; closed = refl }) same.index (ap (λ (d : Device). d.failed_erases) same.device) same.erase_failed same.wear
    e.numbers (ap (λ (d : Device). d.failed_erases) e.works.device) e.works.no_erase_failed e.worn (c.write_at.ensures.unread ∙ same.unread)

pub returns-in_err-write_at-clause-leaves : goal.returns-in_err-write_at-clause-leaves
returns-in_err-write_at-clause-leaves g c =
    let same = c.in_ok-reserve.ensures.same in
    let f = c.in_err-write_at.ensures.failed in
    leaves_kept _ _ _ c.reserve.new.self _ c.self.view_is (record { answers = refl; capacity = refl; closed = refl }) same.index (ap (λ (d : Device). d.failed_erases) same.device) same.erase_failed same.wear
    f.numbers (no_erase_fails _ _ _ f.device) f.no_erase_failed f.worn (c.write_at.ensures.unread ∙ same.unread)

pub invariant_of-self-2 : goal.invariant_of-self-2
invariant_of-self-2 g c =
    let here = goal.at.invariant_of-self-2 g c in
    let e = c.in_ok-write_at.ensures.done c.args.room (found g here.In_ok-reserve) in
    let same = c.in_ok-reserve.ensures.same in
    record {
      sizes = log_sizes c.self.inside.log c.write_at.new.self
          (ap (λ (d : Device). d.sectors) e.works.device ∙ ap (λ (d : Device). d.sectors) same.device)
          (ap (λ (d : Device). d.sector_size) e.works.device ∙ ap (λ (d : Device). d.sector_size) same.device)
          c.self.invariant.sizes (sym same.index.sectors ∙ e.numbers.sizes.0, sym same.index.sector_size ∙ e.numbers.sizes.1);
      index = λ w. e.works.told;
      past = λ w. (c.args.node.now ∷ c.requires.follows.0, put_here g here.After-is_unmount-self-inside (had g here.In_ok-reserve) e c.requires.follows.0 c.requires.follows.1 c.requires.follows.2);
    }

pub returns-clause-done : goal.returns-clause-done
returns-clause-done g c =
    let here = goal.at.returns-clause-done g c in
    let n = c.args.node.now in
    let old = c.self.inside.log in
    let e = c.in_ok-write_at.ensures.done c.args.room (found g here.In_ok-reserve) in
    let same = c.in_ok-reserve.ensures.same in
    record {
      works = e.works.failed;
      faults = ap (λ (d : Device). d.faults) e.works.device ∙ ap (λ (d : Device). d.faults) same.device ∙ ap (λ (v : CoreState). v.faults) c.self.view_is;
      programs = let more = e.worn.programmed in let reserved = ap (λ (w : Wear). w.bytes) same.wear in let seen = ap (λ (v : CoreState). v.wear.bytes) c.self.view_is in omega arith;
      had_room = ap (λ (v : CoreState). has_room_for v c.args.room (record_len n)) (sym c.self.view_is) ∙ had g here.In_ok-reserve;
      log =
          e.layout_is
          ∙ ap (λ k. put k c.args.room n (layout_in c.reserve.new.self.device.image c.reserve.new.self.index)) same.index.sector_size
          ∙ ap (put old.index.sector_size c.args.room n) (mid_layout old c.reserve.new.self same)
          ∙ ap (λ (v : CoreState). put v.index.sector_size c.args.room n (layout_in v.image v.index)) c.self.view_is;
      represents = put_here g here.After-is_unmount-self-inside (had g here.In_ok-reserve) e;
    }
