-- Weight, room, and the numbers that come next.
use Rattle.std.specs.Prelude.{ℕ, ◌+◌, ◌-◌, ◌*◌, ◌/◌, ◌^◌, Bool, ◌||◌, nat_le, nat_lt, List, [], ◌∷◌}
use Rattle.std.specs.Prelude.{filter, sum_by, max, Option, Some, None, if◌then◌else◌}
use Rattle.jffs_node.specs.declared.node.Node.{Node}
use Rattle.jffs_node.specs.Record.{record_len}
use Rattle.jffs_tree.specs.declared.wish.Limits.{Limits}
use Rattle.jffs_tree.specs.Origin.{is_live}
use Rattle.jffs_log.specs.Image.{tail_of, free_of_tail, erased_count}
use Rattle.jffs_log.specs.Volume.{sectors_in}
use Rattle.jffs_log.specs.declared.room.Room.{Room}
use Rattle.jffs_log.specs.declared.room.Room.TheVariants.{Fresh, Unmount}
use Rattle.jffs_log.specs.declared.sector.TheConstants.{RECORDS_PER_SECTOR}
use Rattle.jffs_node.specs.declared.layout.TheConstants.{HEADER_LEN}

-- the sum of the record lengths of the live nodes
abbrev pub weight : List Node → ℕ
weight past = sum_by record_len (filter (λ n. is_live past n.version) past)

-- from this weight on a volume of these sizes is heavy
abbrev pub heavy : ℕ → ℕ → ℕ
heavy sectors sector_size = (sectors - 4) * (3 * sector_size / 4 - HEADER_LEN)

-- what a record needs in the tail, and the erased sectors that it needs otherwise
abbrev pub tail_need : Room → ℕ → ℕ
tail_need Unmount len = HEADER_LEN
tail_need _ len = len + HEADER_LEN

-- the erased sectors that a record needs to open the next one
abbrev pub erased_need : Room → ℕ
erased_need Fresh = 4
erased_need _ = 2

-- a record of `len` bytes has room, with `free` bytes free in the tail and `erased` sectors erased
abbrev pub has_room : Room → ℕ → ℕ → ℕ → Bool
has_room room len free erased = nat_le (tail_need room len) free || nat_le (erased_need room) erased

-- the same of an image: the free bytes of its tail, and how many of its sectors are erased
abbrev pub has_room_in : ℕ → ℕ → List ℕ → Room → ℕ → Bool
has_room_in count len image room k =
    let sectors = sectors_in count len image in
    has_room room k (free_of_tail len (tail_of sectors)) (erased_count sectors)

-- one more, where a number of 32 bits is left
abbrev pub following : ℕ → Option ℕ
following k = if nat_lt (k + 1) (2 ^ 32) then Some (k + 1) else None

-- the version after the newest, where one is left
abbrev pub next_version : List Node → Option ℕ
next_version [] = Some 1
next_version (n ∷ past) = following n.version

-- the greatest inode of any node, at least that of the root
abbrev pub greatest_inode : List Node → ℕ
greatest_inode [] = 1
greatest_inode (n ∷ nodes) = max n.inode (greatest_inode nodes)

-- the number after it, where one is left
abbrev pub next_inode : List Node → Option ℕ
next_inode past = following (greatest_inode past)

-- the most bytes of data that a record of a quarter of a sector has
abbrev pub data_max : ℕ → ℕ
data_max sector_size = sector_size / RECORDS_PER_SECTOR - HEADER_LEN

-- what a decision has to know of the log
abbrev pub limits : ℕ → List Node → Limits
limits sector_size past =
    record {
      data_max = data_max sector_size;
      next_inode = next_inode past;
      next_version = next_version past;
    }
