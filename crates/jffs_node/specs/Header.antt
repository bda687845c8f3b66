-- What the functions that read a header answer.
use Rattle.std.specs.Prelude.{ℕ, ◌<◌, Bool, List, [], length, Option}
use Rattle.std.specs.Prelude.{Some, None, Result, Ok, Err, if◌then◌else◌}
use Rattle.jffs_node.specs.declared.read.Why.{Why}
use Rattle.jffs_node.specs.declared.read.Read.{Read}
use Rattle.jffs_node.specs.declared.read.Read.TheVariants.{Closed, Free, Torn, Bad}
use Rattle.jffs_node.specs.declared.header.Flags.{Flags}
use Rattle.jffs_node.specs.declared.header.Labels.{Labels}
use Rattle.jffs_node.specs.declared.header.Head.{Head}
use Rattle.jffs_node.specs.Reading.{node_at, data_len}

-- what was read where its rule holds, else the rule
abbrev pub checked : {A : Type 0} → Bool → Why → A → Result A Why
checked holds rule found = if holds then Ok found else Err rule

-- what the flags say
abbrev pub flags_at : List ℕ → Flags
flags_at rest = record { deleted = (node_at rest).deleted; copy = (node_at rest).copy }

-- what the header says besides its numbers
abbrev pub labels_at : List ℕ → Labels
labels_at rest = record {
  kind = (node_at rest).kind;
  flags = flags_at rest;
  name = (node_at rest).name;
  size = (node_at rest).size;
}

-- what the labels are where their rules hold
abbrev pub labels_or_why : List ℕ → Option Why → Result Labels Why
labels_or_why rest None = Ok (labels_at rest)
labels_or_why rest (Some reason) = Err reason

-- the node, still without its data, and how much data follows
abbrev pub head_at : List ℕ → Head
head_at rest = record { node = record (node_at rest) { bytes = [] }; amount = data_len rest }

-- the head of a record that breaks no rule
abbrev pub head_or_why : List ℕ → Option Why → Result Head Why
head_or_why rest None = Ok (head_at rest)
head_or_why rest (Some reason) = Err reason

-- a closed record with data
abbrev pub HasData : Read → Type 0
HasData (Closed n len) = 0 < length n.bytes
HasData Free = ⊥
HasData Torn = ⊥
HasData (Bad reason) = ⊥
