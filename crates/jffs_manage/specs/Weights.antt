-- What takes the room of a volume.
use Rattle.std.specs.Prelude.{ℕ, List, map, sum}
use Rattle.jffs_log.specs.declared.log_index.RecordRef.{RecordRef}

-- the lengths of all records together
abbrev pub recorded_in : List RecordRef → ℕ
recorded_in records = sum (map (λ k. k.length) records)
