-- An image is the list of its sectors, each a list of bytes. What its sectors read as, and the log
-- that they hold.
use Rattle.std.specs.Prelude.{ℕ, ◌+◌, ◌-◌, Bool, true, false, not, ◌&&◌, nat_le, List, [], ◌∷◌}
use Rattle.std.specs.Prelude.{◌++◌, length, map, filter, take, drop, reverse, flat_map, Option}
use Rattle.std.specs.Prelude.{Some, None, if◌then◌else◌}
use Rattle.std.specs.List.{last_or, enumerate_from}
use Rattle.jffs_node.specs.declared.node.Node.{Node}
use Rattle.jffs_node.specs.Record.{record_len, is_unmount}
use Rattle.jffs_node.specs.declared.read.Read.{Read}
use Rattle.jffs_node.specs.declared.read.Read.TheVariants.{Free}
use Rattle.jffs_node.specs.Reading.{Reading, reading, reading_len, is_erased}

-- one sector as it reads
pub record Sector : Type 0 where
  pub erased : Bool
  pub reading : Reading

-- as these bytes read
abbrev pub sector_of : List ℕ → Sector
sector_of bytes = record { erased = is_erased bytes; reading = reading bytes }

-- A record of the log, with its sector and its offset there.
pub record Placed : Type 0 where
  pub sector : ℕ
  pub offset : ℕ
  pub node : Node

-- the records of a sector, one after another
abbrev pub placed_from : ℕ → ℕ → List Node → List Placed
placed_from sector offset [] = []
placed_from sector offset (n ∷ nodes) = record { sector = sector; offset = offset; node = n }
    ∷ placed_from sector (offset + record_len n) nodes

-- all records of a numbered sector
abbrev pub records_in : (ℕ × Sector) → List Placed
records_in s = placed_from s.0 0 s.1.reading.nodes

-- the sectors that are written right after an erased one, where the one before the first is the
-- last
abbrev pub starts_from : Bool → ℕ → List Sector → List ℕ
starts_from erased_before k [] = []
starts_from erased_before k (s ∷ sectors) =
    if erased_before && not s.erased then k ∷ starts_from s.erased (k + 1) sectors
    else starts_from s.erased (k + 1) sectors

-- there is a sector, and it is erased
abbrev pub is_erased_option : Option Sector → Bool
is_erased_option None = false
is_erased_option (Some s) = s.erased

-- where the log begins: once, unless the erased sectors are scattered
abbrev pub starts : List Sector → List ℕ
starts sectors = starts_from (is_erased_option (last_or None sectors)) 0 sectors

-- the erased sectors are one run, counted cyclically
abbrev pub is_one_run : List Sector → Bool
is_one_run sectors = nat_le (length (starts sectors)) 1

-- the first of them, or the first sector of all
abbrev pub oldest_of : List ℕ → ℕ
oldest_of [] = 0
oldest_of (k ∷ ks) = k

-- the list without its first elements, and then those
abbrev pub turned : {A : Type 0} → ℕ → List A → List A
turned k xs = drop k xs ++ take k xs

-- the sectors of the log with their numbers, the oldest first
abbrev pub log_sectors : List Sector → List (ℕ × Sector)
log_sectors sectors =
    filter (λ s. not s.1.erased) (turned (oldest_of (starts sectors)) (enumerate_from 0 sectors))

-- the records of the first of these sectors
abbrev pub records_in_first : List (ℕ × Sector) → List Placed
records_in_first [] = []
records_in_first (s ∷ sectors) = records_in s

-- the records of the log, the oldest first
abbrev pub log_of : List Sector → List Placed
log_of sectors = flat_map records_in (log_sectors sectors)

-- their nodes
abbrev pub nodes_of : List Placed → List Node
nodes_of log = map (λ p. p.node) log

-- the newest first
abbrev pub past_of : List Placed → List Node
past_of log = reverse (nodes_of log)

-- how many sectors are erased
abbrev pub erased_count : List Sector → ℕ
erased_count sectors = length (filter (λ s. s.erased) sectors)

-- the sector that was begun last, with its number
abbrev pub tail_of : List Sector → Option (ℕ × Sector)
tail_of sectors = last_or None (log_sectors sectors)

-- all that follows the records is erased
abbrev pub is_free : Read → Bool
is_free Free = true
is_free _ = false

-- the bytes that are free in a sector of that many bytes
abbrev pub free_in : ℕ → Reading → ℕ
free_in sector_size r = if is_free r.ending then sector_size - reading_len r else 0

-- and in the tail, where there is one
abbrev pub free_of_tail : ℕ → Option (ℕ × Sector) → ℕ
free_of_tail sector_size None = 0
free_of_tail sector_size (Some tail) = free_in sector_size tail.1.reading

-- the last node ends a session
abbrev pub ends_with_unmount : List Node → Bool
ends_with_unmount [] = false
ends_with_unmount (n ∷ []) = is_unmount n.kind
ends_with_unmount (n ∷ m ∷ nodes) = ends_with_unmount (m ∷ nodes)

-- the tail ends with an unmount node, and the rest of it is free
abbrev pub is_clean_tail : Option (ℕ × Sector) → Bool
is_clean_tail None = false
is_clean_tail (Some tail) = ends_with_unmount tail.1.reading.nodes && is_free tail.1.reading.ending

-- the log ends with an unmount node, and nothing was programmed after it
abbrev pub is_clean : List Sector → Bool
is_clean sectors = is_clean_tail (tail_of sectors)
