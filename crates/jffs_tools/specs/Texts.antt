-- The texts that the tools print.
use Rattle.std.specs.Prelude.{ℕ, zero, suc, ◌+◌, Bool, true, false, nat_eq, List, [], ◌++◌}
use Rattle.std.specs.Prelude.{Option, Some, None, codes, decimal, if◌then◌else◌}
use Rattle.jffs_tree.specs.declared.wish.Limits.{Limits}
use Rattle.jffs_log.specs.declared.log_index.RecordRef.{RecordRef}
use Rattle.jffs_log.specs.Wear.{sector_after}
use Rattle.jffs_tools.specs.declared.did.Did.{Did}
use Rattle.jffs_tools.specs.declared.did.Did.TheVariants.{Appended, Copied, ClosedAt, Closed}
use Rattle.jffs_tools.specs.declared.did.Did.TheVariants.{Cleaned, OneSector, Erased, Refused}
use Rattle.jffs_tools.specs.declared.did.Totals.{Totals}
use Rattle.jffs_tools.specs.declared.did.Answered.{Answered}
use Rattle.jffs_text.specs.Causes.{cause_text}

-- a number that comes next, where one is left
abbrev pub number_text : Option ℕ → List ℕ
number_text (Some n) = decimal n
number_text None = codes "none"

-- the numbers that come next
abbrev pub next_text : Limits → List ℕ
next_text l =
    codes "next " ++ (number_text l.next_version ++ (codes " " ++ number_text l.next_inode))

-- whether a volume is clean
abbrev pub mounted_text : Bool → List ℕ
mounted_text true = codes "mounted clean"
mounted_text false = codes "mounted unclean"

-- whether a record is live
abbrev pub life_text : Bool → List ℕ
life_text true = codes "live"
life_text false = codes "dead"

-- where a record stands, how long it is, its version, and whether it is live
abbrev pub record_text : RecordRef → Bool → List ℕ
record_text k live =
    codes "record " ++ (decimal k.sector ++ (codes " " ++ (decimal k.offset ++ (codes " " ++
    (decimal k.length ++ (codes " " ++ (decimal k.version ++ (codes " " ++ life_text live))))))))

-- a refused request
abbrev pub refused_text : List ℕ → List ℕ
refused_text name = codes "refused " ++ name

-- what an operation did
abbrev pub did_text : Did → List ℕ
did_text (Appended inode version at) = codes "appended "
    ++ (decimal inode ++ (codes " " ++ (decimal version ++ (codes " at " ++ decimal at))))
did_text (Copied version at) = codes "copied " ++ (decimal version ++ (codes " at " ++ decimal at))
did_text (ClosedAt at) = codes "closed at " ++ decimal at
did_text Closed = codes "closed"
did_text (Cleaned sector copies) =
    codes "erased sector " ++ (decimal sector ++ (codes " copies " ++ decimal copies))
did_text OneSector = codes "one sector"
did_text (Erased n) = codes "erased " ++ decimal n
did_text (Refused cause) = refused_text (cause_text cause)

-- how many copies were made, where there were any
abbrev pub copies_text : ℕ → List ℕ
copies_text n = if nat_eq n 0 then [] else codes " after " ++ (decimal n ++ codes " copies")

-- what stands after an answer
abbrev pub totals_text : Totals → List ℕ
totals_text t = codes " ; erased " ++ (decimal t.erased ++ (codes " erases " ++ (decimal t.erases ++
    (codes " weight " ++ (decimal t.weight ++ (codes " " ++ next_text t.limits))))))

-- what stands after what was done: copies and totals, and nothing of a core that failed
abbrev pub rest_text : ℕ → Option Totals → List ℕ
rest_text copies None = []
rest_text copies (Some t) = copies_text copies ++ totals_text t

-- the line that answers an operation on a core
abbrev pub answered_text : Answered → List ℕ
answered_text a = did_text a.did ++ rest_text a.copies a.totals

-- the numbers of the sectors from `first` on, round a device; the second number says how many
unfoldable pub ring_text : ℕ → ℕ → ℕ → List ℕ
ring_text sectors zero first = []
ring_text sectors (suc held) first =
    codes " " ++ (decimal first ++ ring_text sectors held (sector_after sectors first))
