-- When a cleaner is wanted, and why it isn't handed the oldest sector's bytes.
use Rattle.std.specs.Prelude.{◌≡◌, ◌<◌, ◌/◌, ◌&&◌, Bool, true, false, not, nat_le}
use Rattle.jffs_tree.specs.declared.wish.Cause.{Cause}
use Rattle.jffs_tree.specs.declared.wish.Cause.TheVariants.{Memory, Device, Failed}
use Rattle.jffs_log.specs.Image.{erased_count}
use Rattle.jffs_log.specs.Volume.{sectors_in}
use Rattle.jffs_core.specs.CoreState.{CoreState}

-- the device works, the oldest sector isn't the tail, and at most half of the sectors are erased
abbrev pub wants_cleaning : CoreState → Bool
wants_cleaning s = not s.failed
    && (nat_le 2 s.index.held
    && nat_le (erased_count (sectors_in s.index.sectors s.index.sector_size s.image))
    (s.index.sectors / 2))

-- Why the oldest sector wasn't read: for want of memory or on a core that had failed, where nothing
-- is changed, or the device failed in a read, and so has the core.
abbrev pub ReadRefused : Cause → CoreState → CoreState → Type 0
ReadRefused Memory old new = (old.failed ≡ false) × (new ≡ old)
ReadRefused Device old new =
    (old.failed ≡ false) × (new.failed ≡ true) × (old.faults < new.faults)
    × (new.erase_failed ≡ false)
ReadRefused Failed old new = (old.failed ≡ true) × (new ≡ old)
ReadRefused _ old new = ⊥
