-- What stands in memory and in the store once bytes were programmed.
use Rattle.std.proofs.Common.{◌+◌, refl, sym, ap, ◌∙◌, arith}
use Rattle.jffs_flash.specs.declared.fuse.Fail.TheVariants.{Nothing}
use Rattle.jffs_flash.specs.Device.{Device}
use Rattle.jffs_flash.specs.Image.{window, both_bits}
use Rattle.jffs_flash.proofs.Halves.{half_programmed}
use Rattle.jffs_file.specs.Kept.{seen_device, with_counts}
use Rattle.jffs_file.proofs.Counting.{among_none, among_more, among_zero}
use Rattle.jffs_file.proofs.Written.{all_programmed, part_programmed, length-new, kept_written, left_written}
use Rattle.jffs_file.proofs.flash.FileFlashFlash.program.Goals as goal

pub returns-then-has_stopped-clause-device : goal.returns-then-has_stopped-clause-device
returns-then-has_stopped-clause-device g c =
    let old = c.args.self.now in
    record {
      left = half_programmed Nothing c.args.at c.args.bytes.now old.held.image c.requires;
      faults = omega arith;
      rest = ap (with_counts old.held (old.faults + 1)) (among_more old.faults old.failed_erases (c.has_stopped.ensures.0 c.if-has_stopped.true).0);
    }

pub returns-in-Ok-clause-kept : goal.returns-in-Ok-clause-kept
returns-in-Ok-clause-kept g c = λ kept.
    let at = c.args.at in
    let bytes = c.args.bytes.now in
    let image = c.args.self.now.held.image in
    let now = ap (λ (d : Device). d.image) c.in_ok-program.ensures.device in
    let same = kept_written _ at _ _ (both_bits (window at _ image) bytes) image c.program.new.self.image _ _ refl refl (length-new at bytes image c.requires) c.requires now (c.in-Ok.ensures.written kept.sound) kept.same in
    rw c.program_store.ensures.rest (record { sound = kept.sound; same = same })

pub returns-in-Err-clause-left : goal.returns-in-Err-clause-left
returns-in-Err-clause-left g c = λ kept.
    let at = c.args.at in
    let bytes = c.args.bytes.now in
    let image = c.args.self.now.held.image in
    let now = ap (λ (d : Device). d.image) c.in_ok-program.ensures.device in
    let same = left_written _ at _ _ (both_bits (window at _ image) bytes) image c.program.new.self.image _ _ refl refl (length-new at bytes image c.requires) c.requires now (c.in-Err.ensures.written kept.sound) kept.same in
    record { image = _; same = same.1; left = part_programmed at same.0 bytes image c.requires }

pub returns-in-Err-clause-device : goal.returns-in-Err-clause-device
returns-in-Err-clause-device g c =
    let bytes = c.args.bytes.now in
    let old = c.args.self.now in
    let now = c.program.new.self in
    rw c.program_store.ensures.rest (record {
      left = rw (ap (λ (d : Device). d.image) c.in_ok-program.ensures.device) (all_programmed c.args.at bytes old.held.image c.requires);
      faults = omega arith;
      rest = ap (with_counts now (old.faults + 1)) (among_zero (old.faults + 1) ∙ sym (among_none old.faults old.failed_erases (c.in-Err.ensures.sound refl)))
          ∙ ap (λ (d : Device). record (seen_device d old.faults old.failed_erases) { image = now.image; faults = old.faults + 1 }) c.in_ok-program.ensures.device;
    })
