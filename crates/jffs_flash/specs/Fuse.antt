-- A device with a fuse: it lets a number of fused calls pass, and then fails each.
use Rattle.std.specs.Prelude.{◌≡◌, ℕ, Bool, true, false, ◌+◌, ◌-◌, ◌*◌, ◌/◌, ◌&&◌, ◌==◌, nat_lt}
use Rattle.std.specs.Prelude.{List, ◌++◌, length, take, drop, replicate}
use Rattle.jffs_flash.specs.declared.fuse.Fused.{Fused}
use Rattle.jffs_flash.specs.declared.fuse.Fused.TheVariants.{Writes, All}
use Rattle.jffs_flash.specs.declared.fuse.Fail.{Fail}
use Rattle.jffs_flash.specs.declared.fuse.Fail.TheVariants.{Nothing, Half}
use Rattle.jffs_flash.specs.Device.{Device, with_image}
use Rattle.jffs_flash.specs.Image.{window, replaced, programmed, erased_byte}

-- the device inside, which never fails, how many fused calls still pass, which calls are fused,
-- what a failing call does, how many failed, and how many erases among them
pub record Fuse : Type 0 where
  pub inner : Device
  pub calls_left : ℕ
  pub fused : Fused
  pub fail : Fail
  pub faults : ℕ
  pub failed_erases : ℕ

-- a new fuse over a device
abbrev pub fuse_of : Device → ℕ → Fused → Fail → Fuse
fuse_of device calls fused fail =
    record {
      inner = device;
      calls_left = calls;
      fused = fused;
      fail = fail;
      faults = 0;
      failed_erases = 0;
    }

-- the device as its callers see it
abbrev pub seen_device : Fuse → Device
seen_device fuse = record fuse.inner { faults = fuse.faults; failed_erases = fuse.failed_erases }

-- the last value that the count of faults can have
abbrev pub last_fault_count : ℕ
last_fault_count = 18446744073709551615

-- reads are fused too
abbrev pub fuses_reads : Fused → Bool
fuses_reads Writes = false
fuses_reads All = true

-- the next fused call fails: no call is left, and the count of faults can still rise
abbrev pub is_blown : Fuse → Bool
is_blown fuse = fuse.calls_left == 0 && nat_lt fuse.faults last_fault_count

-- after a fused call that passed and left this image
abbrev pub after_pass : Fuse → List ℕ → Fuse
after_pass fuse image =
    record fuse { inner = with_image fuse.inner image; calls_left = fuse.calls_left - 1 }

-- after a fused call that failed and left this image
abbrev pub after_fault : Fuse → List ℕ → Fuse
after_fault fuse image =
    record fuse { inner = with_image fuse.inner image; faults = fuse.faults + 1 }

-- after an erase that failed and left this image
abbrev pub after_failed_erase : Fuse → List ℕ → Fuse
after_failed_erase fuse image =
    record (after_fault fuse image) { failed_erases = fuse.failed_erases + 1 }

-- after a read that passed: it is counted where reads are fused
abbrev pub after_read : Fused → Fuse → Fuse
after_read Writes fuse = fuse
after_read All fuse = after_pass fuse fuse.inner.image

-- what a failing program leaves of the image: the first half of its bytes, rounded down, may be
-- programmed
abbrev pub program_left : Fail → ℕ → List ℕ → List ℕ → List ℕ
program_left Nothing at bytes image = image
program_left Half at bytes image = programmed at (take (length bytes / 2) bytes) image

-- what a failing erase leaves of the image: the first half of the sector, rounded down, may be
-- erased
abbrev pub erase_left : Fail → ℕ → ℕ → List ℕ → List ℕ
erase_left Nothing sector_size sector image = image
erase_left Half sector_size sector image =
    replaced (sector * sector_size) (replicate (sector_size / 2) erased_byte) image

-- what a failing read leaves in the buffer: its first half, rounded down, may be filled
abbrev pub read_left : Fail → ℕ → List ℕ → List ℕ → List ℕ
read_left Nothing at buffer image = buffer
read_left Half at buffer image =
    window at (length buffer / 2) image ++ drop (length buffer / 2) buffer

-- A read failed: the fuse counts it, and its buffer is as the failure left it.
pub record FailsRead (at : ℕ) (was now : List ℕ) (old new : Fuse) : Type 0 where
  pub fuse : new ≡ after_fault old old.inner.image
  pub buffer : now ≡ read_left old.fail at was old.inner.image
