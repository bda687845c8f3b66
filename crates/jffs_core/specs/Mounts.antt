-- How often a mount reads a byte of the device.
use Rattle.std.specs.Prelude.{◌≢◌, ℕ, List, length}
use Rattle.jffs_flash.specs.Device.{Device}
use Rattle.jffs_flash.specs.ReadsLeft.{CanBeRead, FailsWhereSpent}
use Rattle.jffs_log.specs.declared.scanning.ScanWhy.{ScanWhy}
use Rattle.jffs_log.specs.declared.scanning.ScanWhy.TheVariants as why
use Rattle.jffs_log.specs.ScanFound.{IsRefused}

-- A mount reads each byte of the device once at most: where each can be read once more, no read of
-- it fails, so it isn't refused for that.
abbrev pub MountsReadOnce : Type 0
MountsReadOnce =
    (left : List ℕ) (given after : Device) (cause : ScanWhy) → IsRefused given cause after
    → FailsWhereSpent left given after → CanBeRead left 0 (length given.image)
    → cause ≢ why.Device
