-- The history of a log: all nodes that were ever appended, the newest first.
use Rattle.std.specs.Prelude.{◌≡◌, ◌⊎◌, ℕ, true, false, List, [], ◌∷◌, ◌++◌, ◌<◌, get_or, Ok}
use Rattle.std.specs.List.{AllByRecursion}
use Rattle.jffs_node.specs.declared.node.Node.{Node}
use Rattle.jffs_tree.specs.Origin.{tree_of}
use Rattle.jffs_tree.specs.Deciding.{IsLawfulPast}
use Rattle.jffs_tree.specs.Laws.{NoneLive}
use Rattle.jffs_flash.specs.Sizes.{is_geometry}
use Rattle.jffs_log.specs.declared.log_index.LogIndex.{LogIndex}
use Rattle.jffs_log.specs.Image.{Placed, past_of, is_clean}
use Rattle.jffs_log.specs.Volume.{split, sectors_in}
use Rattle.jffs_log.specs.Live.{IsReadable, live_log}
use Rattle.jffs_log.specs.Scan.{Scanned, scan}
use Rattle.jffs_log.specs.Cleaning.{versions_fall}
use Rattle.jffs_log.specs.LogIndex.{IsCut, lives_in}

-- lawful nodes that keep the rules, and whose versions rise
pub record KeepsRules (past : List Node) : Type 0 where
  pub lawful : IsLawfulPast past
  pub falls : versions_fall past ≡ true

-- The log of the image is the newest part of the history, and the rest of it was erased and isn't
-- live.
pub record IsLawfulHistory (count len : ℕ) (image : List ℕ) (past : List Node) : Type 0 where
  pub sizes : is_geometry count len ≡ true
  pub readable : IsReadable (sectors_in count len image)
  pub rules : KeepsRules past
  pub gone : List Node
  pub front : past ≡ past_of (live_log count len image) ++ gone
  pub dead : NoneLive past gone

-- the same by the sizes of an index
abbrev pub IsHistory : List ℕ → LogIndex → List Node → Type 0
IsHistory image b past = IsLawfulHistory b.sectors b.sector_size image past

-- A scan finds the log, and the tree of the whole history.
abbrev pub HistoriesAreScanned : Type 0
HistoriesAreScanned =
    (count len : ℕ) (image : List ℕ) (past : List Node) → IsLawfulHistory count len image past
    → scan len (split count len image)
    ≡ Ok (record {
      log = live_log count len image;
      tree = tree_of past;
      clean = is_clean (sectors_in count len image);
    })

-- A log that a scan finds in bytes is a lawful history.
abbrev pub MountsAreHistories : Type 0
MountsAreHistories =
    (count len : ℕ) (image : List ℕ) (scanned : Scanned)
    → AllByRecursion (λ bytes. (i : ℕ) → get_or bytes i 0 < 256) (split count len image)
    → scan len (split count len image) ≡ Ok scanned
    → IsLawfulHistory count len image (past_of scanned.log)

-- What is appended is the newest of the history.
abbrev pub AppendsKeepHistory : Type 0
AppendsKeepHistory =
    (count len : ℕ) (old new : List ℕ) (past : List Node) (p : Placed)
    → IsLawfulHistory count len old past → KeepsRules (p.node ∷ past)
    → IsReadable (sectors_in count len new)
    → live_log count len new ≡ live_log count len old ++ p ∷ []
    → IsLawfulHistory count len new (p.node ∷ past)

-- An append that failed leaves the history as it was, or with the node.
abbrev pub CutsKeepHistory : Type 0
CutsKeepHistory =
    (b : LogIndex) (old new : List ℕ) (past : List Node) (p : Placed) → IsHistory old b past
    → KeepsRules (p.node ∷ past) → IsCut b old new p
    → IsHistory new b past ⊎ IsHistory new b (p.node ∷ past)

-- What is erased while it isn't live stays in the history.
abbrev pub ErasingKeepsHistory : Type 0
ErasingKeepsHistory =
    (count len : ℕ) (old new : List ℕ) (past : List Node) (erased : List Placed)
    → IsLawfulHistory count len old past → IsReadable (sectors_in count len new)
    → live_log count len old ≡ erased ++ live_log count len new
    → AllByRecursion (λ p. lives_in (tree_of past) p ≡ false) erased
    → IsLawfulHistory count len new past
