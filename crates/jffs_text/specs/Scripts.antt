-- The bounds of a script: the smallest and the largest that each part of one may be.
use Rattle.std.specs.Prelude.{◌≡◌, ◌≤◌, ◌<◌, ⊤, ℕ, true, List, length, vec_len, IfSome}
use Rattle.std.specs.List.{All}
use Rattle.jffs_flash.specs.Sizes.{is_geometry}
use Rattle.jffs_text.specs.declared.command.Command.{Command}
use Rattle.jffs_text.specs.declared.command.Command.TheVariants as command
use Rattle.jffs_text.specs.declared.command.TheConstants.{FILL_MAX}
use Rattle.jffs_text.specs.declared.keyword.Keyword.{Keyword}
use Rattle.jffs_text.specs.declared.keyword.Keyword.TheVariants as keyword
use Rattle.jffs_text.specs.declared.script.Draft.{Draft}
use Rattle.jffs_text.specs.declared.script.LineChoice.{LineChoice}
use Rattle.jffs_text.specs.declared.script.ReaderStatement.{ReaderStatement}
use Rattle.jffs_text.specs.declared.script.Script.{Script}
use Rattle.jffs_text.specs.declared.script.Writer.{Writer}
use Rattle.jffs_text.specs.declared.script.TheConstants.{READERS_MAX, WRITERS_MAX, COMMANDS_MAX}
use Rattle.jffs_text.specs.declared.script.TheConstants.{CAPACITY_MAX, ROUNDS_MAX}

-- a line holds 1 to 256 requests
pub record IsLine (l : LineChoice) : Type 0 where
  pub some : 1 ≤ l.capacity
  pub most : l.capacity ≤ CAPACITY_MAX

-- a cleaner has 1 to 1,000,000 rounds
abbrev pub AreRounds : ℕ → Type 0
AreRounds n = (1 ≤ n) × (n ≤ ROUNDS_MAX)

-- a reader waits for a request that a writer of a script may make
pub record IsReader (r : ReaderStatement) : Type 0 where
  pub some : 1 ≤ r.writer
  pub most : r.writer ≤ WRITERS_MAX
  pub seq : 1 ≤ r.seq

-- at most 16 of them
pub record AreReaders (readers : List ReaderStatement) : Type 0 where
  pub few : length readers ≤ READERS_MAX
  pub each : All IsReader readers

-- one fill writes at most 4,096 bytes
abbrev pub IsCommand : Command → Type 0
IsCommand (command.Fill path offset count byte) = count ≤ FILL_MAX
IsCommand _ = ⊤

-- a writer has at most 4,096 commands
pub record IsWriter (w : Writer) : Type 0 where
  pub few : vec_len w.commands ≤ COMMANDS_MAX
  pub each : All IsCommand w.commands.items

-- at most 8 of them
pub record AreWriters (writers : List Writer) : Type 0 where
  pub few : length writers ≤ WRITERS_MAX
  pub each : All IsWriter writers

-- what was read so far keeps within the bounds
pub record IsDraft (d : Draft) : Type 0 where
  pub volume : IfSome d.volume (λ sizes. is_geometry sizes.0 sizes.1 ≡ true)
  pub line : IfSome d.line IsLine
  pub cleaner : IfSome d.cleaner AreRounds
  pub readers : AreReaders d.readers.items
  pub writers : AreWriters d.writers.items

-- there is room for one more statement of that kind
abbrev pub Admits : Draft → Keyword → Type 0
Admits d keyword.Reader = vec_len d.readers < READERS_MAX
Admits d keyword.Writer = vec_len d.writers < WRITERS_MAX
Admits d _ = ⊤

-- a script keeps within the bounds
pub record IsInBounds (s : Script) : Type 0 where
  pub volume : is_geometry s.sectors s.sector_size ≡ true
  pub line : IsLine s.line
  pub cleaner : IfSome s.cleaner AreRounds
  pub readers : AreReaders s.readers.items
  pub writers : AreWriters s.writers.items
