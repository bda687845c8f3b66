-- What stands in memory and in the store once a sector was erased.
use Rattle.std.proofs.Common.{◌≡◌, ◌+◌, ◌*◌, ◌≤◌, length, replicate, ap, ap₂, ◌∙◌, arith}
use Rattle.std.proofs.lemmas.List.{length-replicate}
use Rattle.jffs_flash.specs.declared.fuse.Fail.TheVariants.{Nothing}
use Rattle.jffs_flash.specs.Device.{Device}
use Rattle.jffs_flash.specs.Image.{erased_byte}
use Rattle.jffs_flash.proofs.Halves.{half_erased}
use Rattle.jffs_file.specs.Kept.{with_counts}
use Rattle.jffs_file.proofs.Counting.{among_one_more}
use Rattle.jffs_file.proofs.Written.{sector_inside, kept_rewritten, left_rewritten}
use Rattle.jffs_file.proofs.flash.FileFlashFlash.erase.Goals as goal
use Rattle.jffs_file.proofs.flash.FileFlashFlash.erase.Goals.{After-sector_size-size, After-erase_store}

-- the sector lies inside the image
inside : (g : _) (c : After-sector_size-size g)
    → c.args.sector * c.args.self.now.held.sector_size + c.args.self.now.held.sector_size ≤ length c.args.self.now.held.image
inside g c = sector_inside c.args.sector _ _ c.args.self.now.held.image c.requires c.sector_size-size.ensures.whole

-- what is written through begins where the sector begins
offset : (g : _) (c : After-erase_store g) → c.from.result * c.from-2.result ≡ c.args.sector * c.args.self.now.held.sector_size
offset g c = ap₂ ◌*◌ c.from.ensures (c.from-2.ensures ∙ c.sector_size-size.ensures.size)

pub returns-then-erases_have_stopped-clause-device : goal.returns-then-erases_have_stopped-clause-device
returns-then-erases_have_stopped-clause-device g c =
    let old = c.args.self.now in
    record {
      left = half_erased Nothing old.held.sector_size c.args.sector old.held.image (inside g (goal.at.returns-then-erases_have_stopped-clause-device g c).After-sector_size-size);
      faults = omega arith;
      rest = ap (with_counts old.held (old.faults + 1)) (among_one_more old.faults old.failed_erases (c.erases_have_stopped.ensures.0 c.if-erases_have_stopped.true).0);
    }

pub returns-in-Ok-clause-kept : goal.returns-in-Ok-clause-kept
returns-in-Ok-clause-kept g c = λ kept.
    let size = c.args.self.now.held.sector_size in
    let here = goal.at.returns-in-Ok-clause-kept g c in
    let same = kept_rewritten _ _ c.sector_size-size.result size (replicate size erased_byte) _ c.erase.new.self.image _ _
    (offset g here.After-erase_store) c.sector_size-size.ensures.size (length-replicate size erased_byte) (inside g here.After-sector_size-size)
    (ap (λ (d : Device). d.image) c.in_ok-erase.ensures.device) (c.in-Ok.ensures.written kept.sound) kept.same in
    rw c.erase_store.ensures.rest (record { sound = kept.sound; same = same })

pub returns-in-Err-clause-left : goal.returns-in-Err-clause-left
returns-in-Err-clause-left g c = λ kept.
    let held = c.args.self.now.held in
    let size = held.sector_size in
    let here = goal.at.returns-in-Err-clause-left g c in
    left_rewritten _ _ c.sector_size-size.result size held.image _ _ (offset g here.After-erase_store)
    c.sector_size-size.ensures.size (inside g here.After-sector_size-size) (c.in-Err.ensures.written kept.sound) kept.same
