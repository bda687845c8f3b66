-- Laws over the definitions.
use Rattle.std.specs.Prelude.{◌≡◌, ◌↔◌, ℕ, ◌<◌, List, drop, get_or}
use Rattle.jffs_node.specs.declared.node.Node.{Node}
use Rattle.jffs_node.specs.declared.read.Read.{Read}
use Rattle.jffs_node.specs.declared.read.Read.TheVariants.{Closed}
use Rattle.jffs_node.specs.Record.{BeginsWith, record_len}
use Rattle.jffs_node.specs.Reading.{found}

-- What begins with the record of a node is read as that node.
abbrev pub RecordsAreFound : Type 0
RecordsAreFound =
    (rest : List ℕ) (record_max : ℕ) (n : Node) (after : List ℕ)
    → BeginsWith rest record_max n after → found record_max rest ≡ Closed n (record_len n)

-- What is read as a node begins with its record, where each element is a byte.
abbrev pub FoundAreRecords : Type 0
FoundAreRecords =
    (rest : List ℕ) (record_max : ℕ) (n : Node) (len : ℕ) → ((i : ℕ) → get_or rest i 0 < 256)
    → found record_max rest ≡ Closed n len
    → BeginsWith rest record_max n (drop (record_len n) rest) × (len ≡ record_len n)

-- A closed record is read exactly where one begins: of this node, which is lawful at this offset,
-- and of this length.
abbrev pub IsClosedExactly : ℕ → List ℕ → Read → Type 0
IsClosedExactly record_max rest read =
    (n : Node) (len : ℕ)
    → (read ≡ Closed n len) ↔ (BeginsWith rest record_max n (drop len rest) × (len ≡ record_len n))
