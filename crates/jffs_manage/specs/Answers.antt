-- What `serve` answers to a look, byte for byte.
use Rattle.std.specs.Prelude.{ℕ, true, false, List, ◌++◌, ◌==◌, length, take, drop, count_by}
use Rattle.std.specs.Prelude.{codes, decimal, if◌then◌else◌}
use Rattle.std.specs.Option.{option_map_or}
use Rattle.jffs_node.specs.declared.node.TheConstants.{FILE_MAX}
use Rattle.jffs_node.specs.declared.name.TheConstants.{NAME_MAX}
use Rattle.jffs_node.specs.declared.path.TheConstants.{PATH_DEPTH_MAX}
use Rattle.jffs_tree.specs.State.{resolve, is_directory_in}
use Rattle.jffs_tree.specs.Origin.{state_in}
use Rattle.jffs_tree.specs.Look.{bytes_in}
use Rattle.jffs_tree.specs.declared.wish.Cause.{Cause}
use Rattle.jffs_tree.specs.declared.wish.Cause.TheVariants.{NotFound, IsDirectory}
use Rattle.jffs_text.specs.Causes.{cause_text}
use Rattle.jffs_text.specs.Dump.{line_end}
use Rattle.jffs_manage.specs.declared.answering.TheConstants.{PATH_TEXT_MAX}
use Rattle.jffs_manage.specs.declared.wanting.Query.{Query}
use Rattle.jffs_manage.specs.declared.wanting.Query.TheVariants as query
use Rattle.jffs_core.specs.CoreState.{CoreState}
use Rattle.jffs_manage.specs.declared.looking.Stat.{Stat}
use Rattle.jffs_manage.specs.declared.looking.SpaceUsage.{SpaceUsage}
use Rattle.jffs_manage.specs.Looks.{letter_text, stat_in, list_text, usage_in}

abbrev pub refused_text : Cause → List ℕ
refused_text cause = codes "refused " ++ (cause_text cause ++ line_end)

abbrev pub stat_line : Stat → List ℕ
stat_line s =
    codes "ok " ++ (letter_text s.directory ++ (codes " " ++ (decimal s.size ++ (codes " " ++
    (decimal s.live ++ line_end)))))

-- what stands at a path
abbrev pub stat_answer : CoreState → List (List ℕ) → List ℕ
stat_answer c path =
    option_map_or (λ i. stat_line (stat_in true c.tree c.index.records.items i))
    (resolve (state_in c.tree) path) (refused_text NotFound)

-- lines, after how many they are and how many bytes
abbrev pub lines_text : List ℕ → List ℕ
lines_text lines =
    codes "ok " ++ (decimal (count_by (λ b. b == 10) lines) ++ (codes " " ++
    (decimal (length lines) ++ (line_end ++ lines))))

-- what `ls` shows of a path
abbrev pub list_answer : CoreState → List (List ℕ) → List ℕ
list_answer c path =
    option_map_or (λ i. lines_text (list_text false c.tree c.index.records.items i))
    (resolve (state_in c.tree) path) (refused_text NotFound)

-- bytes, after how many they are
abbrev pub counted_text : List ℕ → List ℕ
counted_text bytes = codes "ok " ++ (decimal (length bytes) ++ (line_end ++ bytes))

-- the bytes of a file from an offset on, at most so many
abbrev pub read_answer : CoreState → List (List ℕ) → ℕ → ℕ → List ℕ
read_answer c path offset len =
    option_map_or (λ i. if is_directory_in (state_in c.tree) i then refused_text IsDirectory
    else counted_text (take len (drop offset (bytes_in c.tree i))))
    (resolve (state_in c.tree) path) (refused_text NotFound)

-- the numbers of `df`
abbrev pub room_text : SpaceUsage → List ℕ
room_text u =
    codes "ok " ++ (decimal u.sectors ++ (codes " " ++ (decimal u.sector_size ++ (codes " " ++
    (decimal u.erased ++ (codes " " ++ (decimal u.weight ++ (codes " " ++
    (decimal u.sure ++ line_end)))))))))

-- the longest write, path, name, names of a path, and file
abbrev pub limits_answer : CoreState → List ℕ
limits_answer c =
    codes "ok " ++ (decimal c.limits.data_max ++ (codes " " ++ (decimal PATH_TEXT_MAX ++
    (codes " " ++ (decimal NAME_MAX ++ (codes " " ++ (decimal PATH_DEPTH_MAX ++ (codes " " ++
    (decimal FILE_MAX ++ line_end)))))))))

-- whether the volume is clean, and its records
abbrev pub check_answer : CoreState → List ℕ
check_answer c =
    codes "ok " ++ ((if c.clean then codes "clean" else codes "unclean") ++ (codes " " ++
    (decimal (length c.index.records.items) ++ line_end)))

-- what is answered to a look
abbrev pub query_answer : CoreState → Query → List ℕ
query_answer c (query.Stat path) = stat_answer c path
query_answer c (query.List path) = list_answer c path
query_answer c (query.Read path offset len) = read_answer c path offset len
query_answer c query.Room = room_text (usage_in c)
query_answer c query.Limits = limits_answer c
query_answer c query.Check = check_answer c
