-- The texts that `ls` and `df` write.
use Rattle.std.specs.Prelude.{ℕ, ◌-◌, Bool, List, [], ◌++◌, flat_map, unwrap_or}
use Rattle.std.specs.Prelude.{codes, decimal, if◌then◌else◌}
use Rattle.std.specs.Option.{option_map_or}
use Rattle.jffs_tree.specs.State.{is_directory_in}
use Rattle.jffs_inodes.specs.Inodes.{Tree}
use Rattle.jffs_tree.specs.Origin.{state_in}
use Rattle.jffs_tree.specs.Look.{children, parent_name_in, size_of}
use Rattle.jffs_text.specs.Dump.{by_name, line_end}
use Rattle.jffs_log.specs.declared.log_index.RecordRef.{RecordRef}
use Rattle.jffs_log.specs.LogIndex.{live_bytes_in, weight_in, log_in}
use Rattle.jffs_log.specs.Room.{heavy}
use Rattle.jffs_core.specs.CoreState.{CoreState}
use Rattle.jffs_manage.specs.declared.looking.Stat.{Stat}
use Rattle.jffs_manage.specs.declared.looking.SpaceUsage.{SpaceUsage}

abbrev pub letter_text : Bool → List ℕ
letter_text directory = if directory then codes "d" else codes "f"

-- what stands before a name: its size, and what its live records take, where that is asked for
abbrev pub stat_text : Bool → Stat → List ℕ
stat_text long stat =
    if long then letter_text stat.directory ++
    (codes " " ++ (decimal stat.size ++ (codes " " ++ (decimal stat.live ++ codes " "))))
    else if stat.directory then codes "d "
    else codes "f " ++ (decimal stat.size ++ codes " ")

abbrev pub entry_text : Bool → Stat → List ℕ → List ℕ
entry_text long stat name = stat_text long stat ++ (name ++ line_end)

-- what is to be seen of an inode; what its records take is counted only in long lines
abbrev pub stat_in : Bool → Tree → List RecordRef → ℕ → Stat
stat_in long tree records i = record {
  directory = is_directory_in (state_in tree) i;
  size = unwrap_or (size_of tree i) 0;
  live = if long then live_bytes_in tree i records else 0;
}

-- the line of a name and its inode
abbrev pub name_line : Bool → Tree → List RecordRef → (List ℕ × ℕ) → List ℕ
name_line long tree records a = entry_text long (stat_in long tree records a.1) a.0

-- the lines of the names in a directory, in the order of their bytes
abbrev pub directory_lines : Bool → Tree → List RecordRef → ℕ → List ℕ
directory_lines long tree records i =
    flat_map (name_line long tree records) (by_name (children i (state_in tree)))

-- the line of an inode under its own name
abbrev pub own_line : Bool → Tree → List RecordRef → ℕ → List ℕ
own_line long tree records i =
    option_map_or (λ a. name_line long tree records (a.1, i)) (parent_name_in tree i) []

-- what `ls` writes of the inode at its path
abbrev pub list_text : Bool → Tree → List RecordRef → ℕ → List ℕ
list_text long tree records i =
    if is_directory_in (state_in tree) i then directory_lines long tree records i
    else own_line long tree records i

abbrev pub sectors_line : SpaceUsage → List ℕ
sectors_line u =
    codes "sectors " ++ (decimal u.sectors ++ (codes " of " ++ (decimal u.sector_size ++
    (codes " bytes, " ++ (decimal u.erased ++ (codes " erased" ++ line_end))))))

abbrev pub weight_line : SpaceUsage → List ℕ
weight_line u =
    codes "live " ++ (decimal u.weight ++ (codes " bytes in records, room is sure below " ++
    (decimal u.sure ++ line_end)))

-- the two lines of `df`
abbrev pub usage_text : SpaceUsage → List ℕ
usage_text u = sectors_line u ++ weight_line u

-- how full a core's volume is
abbrev pub usage_in : CoreState → SpaceUsage
usage_in c = record {
  sectors = c.index.sectors;
  sector_size = c.index.sector_size;
  erased = c.index.sectors - c.index.held;
  weight = weight_in c.tree (log_in c.image c.index);
  sure = heavy c.index.sectors c.index.sector_size;
}
