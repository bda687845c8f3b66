-- What C is told of a call of the device.
use Rattle.std.specs.Prelude.{◌≡◌, ◌⊎◌, ◌*◌, ◌-◌, ◌^◌, ◌<◌, ◌≤◌, ◌++◌, ℕ, List, [], true, false, Err}
use Rattle.std.specs.Prelude.{length, drop, min}
use Rattle.jffs_queue.specs.declared.call.Call.{Call}
use Rattle.jffs_queue.specs.declared.call.Call.TheVariants.{Erase, Program}
use Rattle.jffs_c.specs.declared.calls.NextCall.{NextCall}
use Rattle.jffs_c.specs.declared.code.Code.{Code}
use Rattle.jffs_c.specs.declared.code.Code.TheVariants as code
use Rattle.jffs_c.specs.declared.volume.Phase.TheVariants as phase
use Rattle.jffs_c.specs.declared.volume.Volume.{Volume}
use Rattle.jffs_c.specs.Blocked.{looks_blocked}

-- what C is told of a call: its kind, where it begins and how many bytes it changes, both at most
-- the greatest number that C can be told
abbrev pub told_of : ℕ → Call → NextCall
told_of sector_size (Erase sector) = record {
  erase = true;
  at = min (sector * sector_size) (2 ^ 32 - 1);
  len = sector_size;
}
told_of sector_size (Program at bytes) = record {
  erase = false;
  at = at;
  len = min (length bytes.items) (2 ^ 32 - 1);
}

-- the bytes that a call programs
abbrev pub bytes_of : Call → List ℕ
bytes_of (Erase sector) = []
bytes_of (Program at bytes) = bytes.items

-- Done, and the bytes stand at the start of the buffer; or BufferShort, since they are more than it
-- takes, and it is as it was
abbrev pub IsPut : List ℕ → List ℕ → List ℕ → Code → Type 0
IsPut bytes old new answer =
    ((answer ≡ code.Done) × (length bytes ≤ length old)
    × (new ≡ bytes ++ drop (length bytes) old))
    ⊎ ((answer ≡ code.BufferShort) × (length old < length bytes) × (new ≡ old))

-- C was told of this call, and the bytes that it programs were put into a buffer
pub record IsTold (sector_size : ℕ) (call : Call) (told : NextCall) (old new : List ℕ)
    (answer : Code) : Type 0 where
  pub told_is : told ≡ told_of sector_size call
  pub put : IsPut (bytes_of call) old new answer

-- no call is told of: the volume has failed, or none is left
abbrev pub HasNoCall : Volume → Code → Type 0
HasNoCall volume answer = (looks_blocked volume.phase ≡ Err answer) ⊎ (answer ≡ code.Nothing)

-- a call is told of, and then calls are left; or none is, and nothing is written
abbrev pub TellsNext : Volume → NextCall → NextCall → List ℕ → List ℕ → Code → Type 0
TellsNext volume old new before after answer =
    (HasNoCall volume answer × (new ≡ old) × (after ≡ before))
    ⊎ ((volume.phase ≡ phase.Carrying)
    × (next : Call) × IsTold volume.core.index.sector_size next new before after answer)
