-- What is printed of a core.
use Rattle.std.specs.Prelude.{ℕ, ◌+◌, ◌*◌, ◌^◌, Bool, true, false, nat_eq, Option, Some, None}
use Rattle.std.specs.Prelude.{if◌then◌else◌}
use Rattle.jffs_tree.specs.declared.wish.Outcome.{Outcome}
use Rattle.jffs_tree.specs.declared.wish.Outcome.TheVariants.{Appended, Copied, Closed, Refused}
use Rattle.jffs_log.specs.declared.log_index.RecordRef.{RecordRef}
use Rattle.jffs_log.specs.LogIndex.{log_in, weight_in}
use Rattle.jffs_log.specs.Image.{erased_count}
use Rattle.jffs_log.specs.Volume.{sectors_in}
use Rattle.jffs_core.specs.CoreState.{CoreState}
use Rattle.jffs_tools.specs.declared.did.Did.{Did}
use Rattle.jffs_tools.specs.declared.did.Did.TheVariants as did
use Rattle.jffs_tools.specs.declared.did.Totals.{Totals}

-- the byte of the image at which a record begins
abbrev pub offset_of : ℕ → RecordRef → ℕ
offset_of sector_size k = k.sector * sector_size + k.offset

-- the totals of a core that works
abbrev pub totals_of : CoreState → Totals
totals_of c = record {
  erased = erased_count (sectors_in c.index.sectors c.index.sector_size c.image);
  erases = c.index.erases;
  weight = weight_in c.tree (log_in c.image c.index);
  limits = c.limits;
}

-- the totals of a core, unless it failed
abbrev pub totals_unless : Bool → CoreState → Option Totals
totals_unless true c = None
totals_unless false c = Some (totals_of c)

-- the version that comes next, and 2 ^ 32 after the last one
abbrev pub count_given : Option ℕ → ℕ
count_given (Some version) = version
count_given None = 2 ^ 32

-- what a request did that appended `appended` records, the newest of which begins at the byte `at`
abbrev pub did_of : Outcome → ℕ → ℕ → Did
did_of (Appended inode version) appended at = did.Appended inode version at
did_of (Copied version) appended at = did.Copied version at
did_of Closed appended at = if nat_eq appended 0 then did.Closed else did.ClosedAt at
did_of (Refused cause) appended at = did.Refused cause

-- how many of the records that a request appended are its own
abbrev pub own_records : Outcome → ℕ → ℕ
own_records (Refused cause) appended = 0
own_records outcome appended = if nat_eq appended 0 then 0 else 1
