-- What a cleaner does in its rounds.
use Rattle.std.specs.Prelude.{◌≡◌, ◌≤◌, ℕ, List, [], ◌∷◌, ◌++◌, length, map, flat_map}
use Rattle.std.specs.Prelude.{Option, Some, None}
use Rattle.std.specs.Global.{Vec}
use Rattle.std.specs.List.{AllByRecursion}
use Rattle.rtrb.specs.Ring.{received}
use Rattle.jffs_tree.specs.declared.wish.Wish.{Wish}
use Rattle.jffs_inodes.specs.Inodes.{Tree}
use Rattle.jffs_line.specs.declared.request.Request.{Request}
use Rattle.jffs_index.specs.declared.rule.History.{History}
use Rattle.jffs_index.specs.Histories.{BeginsWith, view_of}
use Rattle.jffs_serve.specs.declared.jobs.JobEnd.{JobEnd}
use Rattle.jffs_serve.specs.Copies.{HandsIn}
use Rattle.jffs_serve.specs.Copying.{nodes_in, copies_of, wish_of}

-- the bytes of an image, if there is one
abbrev pub bytes_of : Option (Vec ℕ) → List ℕ
bytes_of None = []
bytes_of (Some image) = image.items

-- the image, if there is one
abbrev pub images_of : Option (Vec ℕ) → List (Vec ℕ)
images_of None = []
images_of (Some image) = image ∷ []

-- A round that had an image, and the tree that was looked at.
pub record Round : Type 0 where
  pub image : Vec ℕ
  pub tree : Tree

-- the copies to be asked for then: of the image's records those that live in the tree, in order
abbrev pub wishes_in : Round → List Wish
wishes_in r = map wish_of (copies_of r.tree (nodes_in r.image.items))

-- one who knew the first history and knows the second now has seen this tree meanwhile
abbrev pub SawMeanwhile : History → History → Tree → Type 0
SawMeanwhile before now tree = (seen : History) × BeginsWith seen before × BeginsWith now seen
    × (tree ≡ (view_of seen).tree)

-- So many rounds had an image at most, each the one that was sent next, and looked once. What was
-- handed in are copies of what lived there, each of them once at most, in order.
pub record DoesRounds (limit : ℕ) (old new : JobEnd) (before now : History)
    (accepted accepted' : List Request) : Type 0 where
  pub rounds : List Round
  pub few : length rounds ≤ limit
  pub taken : received new.consumer
      ≡ received old.consumer ++ map (λ (r : Round). r.image) rounds
  pub seen : AllByRecursion (λ (r : Round). SawMeanwhile before now r.tree) rounds
  pub asked : HandsIn (flat_map wishes_in rounds) accepted accepted'
