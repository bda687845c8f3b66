-- What stands on a volume of a put that was stopped.
use Rattle.std.specs.Prelude.{◌≡◌, ⊤, ℕ, List, ◌==◌, if◌then◌else◌, Option, Some, unwrap_or}
use Rattle.std.specs.Option.{option_map, option_map_or}
use Rattle.jffs_tree.specs.State.{resolve}
use Rattle.jffs_inodes.specs.Inodes.{Tree}
use Rattle.jffs_tree.specs.Origin.{state_in}
use Rattle.jffs_tree.specs.Look.{size_of}
use Rattle.jffs_manage.specs.declared.leftover.Leftover.{Leftover}
use Rattle.jffs_manage.specs.declared.leftover.Leftover.TheVariants as leftover

-- a new file that is whole, where something stands at its path, or nothing
abbrev pub whole_left : Tree → List (List ℕ) → Leftover
whole_left tree path =
    option_map_or (λ i. leftover.Whole) (resolve (state_in tree) path) leftover.Alone

-- what is left of a new file of so many bytes for this path, that stands at the other one till then
abbrev pub left_of : Tree → List (List ℕ) → List (List ℕ) → ℕ → Option Leftover
left_of tree path unfinished len =
    option_map (λ i. if unwrap_or (size_of tree i) 0 == len then whole_left tree path
    else leftover.Part) (resolve (state_in tree) unfinished)

-- This is what is left, unless the device failed: then it isn't known.
abbrev pub IsLeft : Option Leftover → Tree → List (List ℕ) → List (List ℕ) → ℕ → Type 0
IsLeft (Some (leftover.Unseen seen)) tree path unfinished len = ⊤
IsLeft left tree path unfinished len = left ≡ left_of tree path unfinished len
