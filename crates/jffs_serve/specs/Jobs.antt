-- Which jobs are sent.
use Rattle.std.specs.Prelude.{◌≡◌, ◌≢◌, ℕ, true, List, [], ◌∷◌, ◌++◌, Option, Some}
use Rattle.std.specs.Global.{Vec}
use Rattle.rtrb.specs.Ring.{IsPair, sent, received, producer_capacity}
use Rattle.jffs_log.specs.Volume.{sector_bytes}
use Rattle.jffs_core.specs.CoreState.{CoreState}
use Rattle.jffs_core.specs.Jobs.{wants_cleaning}
use Rattle.jffs_serve.specs.declared.jobs.Jobs.{Jobs}
use Rattle.jffs_serve.specs.declared.jobs.JobEnd.{JobEnd}

-- a cleaner is wanted, and since the last job an erase has given the log another oldest sector
abbrev pub IsDue : CoreState → Option ℕ → Type 0
IsDue core sent_at = (wants_cleaning core ≡ true) × (sent_at ≢ Some core.index.erases)

-- one image more, that of the oldest sector
abbrev pub SendsOldest : CoreState → List (Vec ℕ) → List (Vec ℕ) → Type 0
SendsOldest core before now = (image : Vec ℕ) × (now ≡ before ++ image ∷ [])
    × (image.items ≡ sector_bytes core.index.sector_size core.index.first core.image)

-- the two ends of one ring, in which nothing is, and which has room for so many images
pub record IsJobRing (capacity : ℕ) (jobs : Jobs) (end : JobEnd) : Type 0 where
  pub pair : IsPair jobs.producer end.consumer
  pub unsent : sent jobs.producer ≡ []
  pub untaken : received end.consumer ≡ []
  pub room : producer_capacity jobs.producer ≡ capacity
