-- The bytes of a device as a scan is to see them.
use Rattle.std.specs.Prelude.{ℕ, ◌*◌, ◌<◌, ◌==◌, List, length, replicate, if◌then◌else◌}
use Rattle.jffs_node.specs.Record.{magic}
use Rattle.jffs_flash.specs.Image.{erased, erased_byte, replaced}
use Rattle.jffs_flash.specs.Device.{Device, with_image}
use Rattle.jffs_log.specs.declared.shown.Shown.{Shown}
use Rattle.jffs_log.specs.declared.shown.Shown.TheVariants.{AsTheyAre, Erased, Restored}

-- the image with a record's magic at the beginning of that sector
abbrev pub restored : ℕ → ℕ → List ℕ → List ℕ
restored len k image = replaced (k * len) magic image

-- the image as it is shown
abbrev pub shown_image : Shown → ℕ → List ℕ → List ℕ
shown_image AsTheyAre len image = image
shown_image (Erased k) len image = erased len k image
shown_image (Restored k) len image = restored len k image

-- and the bytes of one sector
abbrev pub shown_bytes : Shown → ℕ → List ℕ → List ℕ
shown_bytes AsTheyAre sector bytes = bytes
shown_bytes (Erased k) sector bytes =
    if k == sector then replicate (length bytes) erased_byte else bytes
shown_bytes (Restored k) sector bytes = if k == sector then replaced 0 magic bytes else bytes

-- the sector that is shown otherwise is one of so many
abbrev pub IsAmong : Shown → ℕ → Type 0
IsAmong AsTheyAre count = Unit {0}
IsAmong (Erased k) count = k < count
IsAmong (Restored k) count = k < count

-- the device with the image that is shown
abbrev pub shown_device : Shown → Device → Device
shown_device shown device = with_image device (shown_image shown device.sector_size device.image)
