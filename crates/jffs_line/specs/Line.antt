-- What contracts see of the ends of a line.
use Rattle.std.specs.Prelude.{ℕ, List, [], ◌∷◌, ◌++◌}
use Rattle.std.specs.List.{range_with_len}
use denote.RawPtr.{Ptr}
use Rattle.std.proofs.Common.{Global}
use Rattle.atomic_table.specs.Seated.{TableId}
use Rattle.atomic_table.specs.declared.badge.Badge.{Badge}
use Rattle.crossbeam_channel.specs.declared.flavors.array.Key.{Key}
use Rattle.jffs_line.specs.declared.request.Request.{Request}
use Rattle.jffs_line.specs.declared.hand.TheConstants.{CLEANER, CONTROL}

-- the name of a shared line, or of a sender's ring: each line that is made has its own
pub data Line : Type 0 where
  Shared : TableId → Badge (Key Request) → Line
  Ring : Ptr → Ptr → ℕ × (ℕ × ℕ) → Global → Line

-- a sender's number, and where its requests go
abbrev pub End : Type 0
End = ℕ × Line

-- the numbers of the writers, then the cleaner's and the control's
abbrev pub senders : ℕ → List ℕ
senders writers = range_with_len 1 writers ++ CLEANER ∷ CONTROL ∷ []
