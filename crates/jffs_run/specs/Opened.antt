-- A device as it is opened after a session.
use Rattle.std.specs.Prelude.{◌≡◌, ◌⊎◌}
use Rattle.jffs_flash.specs.Device.{Device}
use Rattle.jffs_log.specs.Heal.{healed_device}
use Rattle.jffs_core.specs.CoreState.{CoreState}
use Rattle.jffs_core.specs.Past.{IsSpared}

-- It is as a session left it in which no erase failed: the device's count of those is what it was
-- when the session was given it. Or it is healed, and what a failed erase left of its sector can be
-- told from a log's.
abbrev pub IsOpenedAs : Device → Device → CoreState → Device → Type 0
IsOpenedAs given left core opened =
    ((left.failed_erases ≡ given.failed_erases) × (opened ≡ left))
    ⊎ (IsSpared core × (opened ≡ healed_device left))
