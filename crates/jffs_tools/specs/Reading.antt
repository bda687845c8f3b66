-- What the tools read.
use Rattle.std.specs.Prelude.{ℕ, ◌+◌, ◌*◌, min}
use Rattle.jffs_flash.specs.declared.sizes.TheConstants.{VOLUME_MAX}

-- how many bytes of an image are read for a device of these sizes: one more than the device has, or
-- than the largest volume
abbrev pub wanted : ℕ → ℕ → ℕ
wanted sectors sector_size = min (sectors * sector_size) VOLUME_MAX + 1
