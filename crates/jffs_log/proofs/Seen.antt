-- What is known of a log before and after a call.
use Rattle.std.proofs.Common.{◌≡◌, inl, inr, ◌-◌, Bool, false, List, ℕ, sym, ap, subst, ◌∙◌, arith}
use Rattle.jffs_flash.specs.Device.{Device, with_image}
use Rattle.jffs_log.specs.LogIndex.{IsLogIndex, HasSizes, IsSameLogIndex}
use Rattle.jffs_log.specs.declared.log_index.LogIndex.{LogIndex}
use Rattle.jffs_log.specs.LogState.{LogState, IsLog}
use Rattle.jffs_log.specs.Place.{IsPlace}
use Rattle.jffs_log.specs.declared.place.Place.{Place}
use Rattle.jffs_log.specs.declared.room.Room.{Room}
use Rattle.jffs_log.specs.Room.{has_room, has_room_in}
use Rattle.jffs_log.proofs.rooms.Rooms.{described_room}
use Rattle.jffs_log.proofs.append.Appended.{described_inside}
use Rattle.jffs_log.proofs.ring.Layouts.{some_erased}
use Rattle.jffs_log.proofs.rooms.Weighed.{records_few}

-- the index tells of the image, where the log is known by another name to work
pub told : (inside seen : LogState) → inside ≡ seen → IsLog inside → seen.failed ≡ false → IsLogIndex inside.device.image inside.index
told inside seen same h works = h.told (ap (λ (v : LogState). v.failed) same ∙ works)

-- the index tells of the image of the log by its other name too
pub told_seen : (inside seen : LogState) → inside ≡ seen → IsLog inside → seen.failed ≡ false → IsLogIndex seen.device.image seen.index
told_seen inside seen same h works = subst (λ (v : LogState). IsLogIndex v.device.image v.index) same (told inside seen same h works)

-- a log whose index tells of the image
pub log_holds : (s : LogState) → HasSizes s.device.sectors s.device.sector_size s.index → IsLogIndex s.device.image s.index → (s.failed ≡ false → s.erase_failed ≡ false) → IsLog s
log_holds s sizes index intact =
    let one = some_erased _ _ _ _ _ _ _ _ _ index in
    let inside = described_inside _ _ _ _ _ _ _ _ _ index in
    record {
      sizes = sizes;
      held = omega (arith, one);
      first = inside.0;
      sectors = inside.1;
      few = records_few _ _ _ _ _ _ _ _ _ index;
      told = λ works. index;
      intact = intact;
    }

-- a device of which only the bytes changed
pub only_image : (old new : Device) (image : List ℕ) → new ≡ with_image old image → new ≡ with_image old new.image
only_image old new image e = e ∙ ap (λ (d : Device). with_image old d.image) (sym e)

-- the index has its sizes too
pub same_sizes : (old new : Device) (b : LogIndex) (image : List ℕ) → new ≡ with_image old image → HasSizes old.sectors old.sector_size b → HasSizes new.sectors new.sector_size b
same_sizes old new b image e sizes = (ap (λ (d : Device). d.sectors) e ∙ sizes.0, ap (λ (d : Device). d.sector_size) e ∙ sizes.1)

-- what the index says of room is so of the image
pub room_seen : (inside seen : LogState) (room : Room) (len : ℕ) (found : Bool) → inside ≡ seen → IsLog inside → found ≡ has_room room len inside.index.free (inside.index.sectors - inside.index.held)
    → seen.failed ≡ false → found ≡ has_room_in seen.index.sectors seen.index.sector_size seen.device.image room len
room_seen inside seen room len found same h known = subst (λ (v : LogState). v.failed ≡ false → found ≡ has_room_in v.index.sectors v.index.sector_size v.device.image room len) same
    (λ works. known ∙ sym (described_room _ _ _ _ _ _ _ _ _ (h.told works) room len))

-- the log has the sizes of the device after a call, which changes neither
pub log_sizes : (old new : LogState) → new.device.sectors ≡ old.device.sectors → new.device.sector_size ≡ old.device.sector_size
    → HasSizes old.device.sectors old.device.sector_size old.index → HasSizes old.index.sectors old.index.sector_size new.index → HasSizes new.device.sectors new.device.sector_size new.index
log_sizes old new sectors size before after = (sectors ∙ before.0 ∙ after.0, size ∙ before.1 ∙ after.1)

-- a record is put at the same place by an index that is the same but for capacity
pub place_stays : (b c : LogIndex) (room : Room) (len : ℕ) (p : Place) → IsSameLogIndex b c → IsPlace room len b p → IsPlace room len c p
place_stays b c room len p same is = record {
  in_tail = λ need. is.in_tail (omega arith) ∙ cc;
  in_next = λ less. let at = is.in_next (omega arith) in record {
    next = elim at.next [ inl here ↦ inl (omega arith, omega arith) | inr here ↦ inr (omega arith, omega arith) ];
    start = at.start ∙ cc;
  };
}
