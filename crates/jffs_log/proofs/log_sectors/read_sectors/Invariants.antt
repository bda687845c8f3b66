use Rattle.std.proofs.Common.{◌≡◌, ℕ, ◌*◌, ◌≤◌, length}
use Rattle.jffs_flash.specs.ReadsLeft.{left_at}
use Rattle.jffs_log.specs.ScanRead.{AreRead}
use Rattle.jffs_log.specs.Shown.{shown_image}
use Rattle.jffs_log.proofs.log_sectors.read_sectors.Given as goal

-- the sectors so far; the device is as it was, worn by nothing, and those to come can be read as
-- often as before
abbrev pub invariant-loop-sector : goal.invariant-loop-sector
invariant-loop-sector g l = record {
  read : AreRead l.sector l.sector_size (shown_image l.shown l.sector_size (g.F.Flash.device l.fn.flash).image) l.found.items;
  device : g.F.Flash.device l.flash ≡ g.F.Flash.device l.fn.flash;
  unworn : g.F.Flash.wear l.flash ≡ g.F.Flash.wear l.fn.flash;
  buffer : length l.buffer.items ≡ l.sector_size;
  left : (i : ℕ) → l.sector * l.sector_size ≤ i → left_at (g.F.Flash.reads_left l.fn.flash) i ≤ left_at (g.F.Flash.reads_left l.flash) i;
}
