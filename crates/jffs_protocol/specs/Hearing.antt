-- What is taken from a reader, where the bytes that it has left are known.
use Rattle.std.specs.Prelude.{◌≡◌, ◌≢◌, ◌⊎◌, ◌≤◌, ◌<◌, ℕ, Bool, true, false, List, [], ◌∷◌}
use Rattle.std.specs.Prelude.{◌++◌, All}
use Rattle.std.specs.Prelude.{length, take, Option, Some, None}
use Rattle.std.specs.Io.KnownBytes.{Consumes, IsAtEnd}
use Rattle.jffs_protocol.specs.declared.asking.Ask.{Ask}
use Rattle.jffs_protocol.specs.declared.hearing.Heard.{Heard}
use Rattle.jffs_protocol.specs.declared.hearing.Heard.TheVariants as heard
use Rattle.jffs_protocol.specs.declared.hearing.LineEnd.{LineEnd}
use Rattle.jffs_protocol.specs.declared.hearing.LineEnd.TheVariants as line_end_kind
use Rattle.jffs_protocol.specs.Asks.{ask_line, body_len}

abbrev pub line_feed : List ℕ
line_feed = 10 ∷ []

-- the next byte, or none where no byte is left
abbrev pub TakesNext : Option (List ℕ) → Option (List ℕ) → Option ℕ → Type 0
TakesNext old new (Some byte) = Consumes old new (byte ∷ [])
TakesNext old new None = Consumes old new [] × IsAtEnd new

-- a line with its line feed
pub record IsLine (taken : List ℕ) : Type 0 where
  pub line : List ℕ
  pub one : All (λ b. b ≢ 10) line
  pub is : taken ≡ line ++ line_feed

-- the line of a request, and the bytes that it counts
pub record IsRequest (ask : Ask) (body taken : List ℕ) : Type 0 where
  pub counted : length body ≡ body_len ask
  pub is : taken ≡ (ask_line ask ++ line_feed) ++ body

-- some bytes of a line
pub record TakesPart (old new : Option (List ℕ)) (long : Bool) (line : List ℕ) : Type 0 where
  pub bytes : List ℕ
  pub taken : Consumes old new bytes
  pub one : All (λ b. b ≢ 10) bytes
  pub kept : long ≡ false → line ≡ bytes

-- some bytes more of a line that is long or not, which is longer then or has them
pub record TakesMore (old new : Option (List ℕ)) (long : Bool) (line : List ℕ) (longer : Bool)
    (grown : List ℕ) : Type 0 where
  pub bytes : List ℕ
  pub taken : Consumes old new bytes
  pub one : All (λ b. b ≢ 10) bytes
  pub kept : longer ≡ false → (long ≡ false) × (grown ≡ line ++ bytes)

-- so many bytes
pub record TakesCount (old new : Option (List ℕ)) (count : ℕ) : Type 0 where
  pub bytes : List ℕ
  pub taken : Consumes old new bytes
  pub counted : length bytes ≡ count

-- fewer bytes than so many, and then the end
pub record TakesFew (old new : Option (List ℕ)) (count : ℕ) : Type 0 where
  pub bytes : List ℕ
  pub taken : Consumes old new bytes
  pub few : length bytes < count
  pub ended : IsAtEnd new

-- so many bytes and these, or fewer and then the end
abbrev pub TakesBytes : Bool → Option (List ℕ) → Option (List ℕ) → ℕ → List ℕ → Type 0
TakesBytes true old new count bytes = (length bytes ≡ count) × Consumes old new bytes
TakesBytes false old new count bytes = TakesFew old new count

-- the same, of bytes that are dropped
abbrev pub DropsBytes : Bool → Option (List ℕ) → Option (List ℕ) → ℕ → Type 0
DropsBytes true old new count = TakesCount old new count
DropsBytes false old new count = TakesFew old new count

-- the front of the room has what this request counts
pub record HasBody (ask : Ask) (old new : Option (List ℕ)) (asked : Ask) (room : List ℕ) :
    Type 0 where
  pub same : asked ≡ ask
  pub fits : body_len ask ≤ length room
  pub taken : Consumes old new (take (body_len ask) room)

-- a line that was taken whole
pub record TakesLine (old new : Option (List ℕ)) (line : List ℕ) : Type 0 where
  pub one : All (λ b. b ≢ 10) line
  pub taken : Consumes old new (line ++ line_feed)

pub record TakesSomeLine (old new : Option (List ℕ)) : Type 0 where
  pub line : List ℕ
  pub takes : TakesLine old new line

-- the begin of a line, and then the end
pub record TakesCutLine (old new : Option (List ℕ)) : Type 0 where
  pub bytes : List ℕ
  pub one : All (λ b. b ≢ 10) bytes
  pub taken : Consumes old new bytes
  pub ended : IsAtEnd new

-- how a line was heard, and what of it is kept
abbrev pub HearsLine : Option (List ℕ) → Option (List ℕ) → LineEnd → List ℕ → Type 0
HearsLine old new line_end_kind.Cut line = TakesCutLine old new
HearsLine old new line_end_kind.Long line = TakesSomeLine old new
HearsLine old new line_end_kind.Whole line = TakesLine old new line

-- What is no request: a line, or one with what it counts.
abbrev pub IsNoRequest : List ℕ → Type 0
IsNoRequest taken = IsLine taken ⊎ ((ask : Ask) × (body : List ℕ) × IsRequest ask body taken)

pub record Drops (old new : Option (List ℕ)) : Type 0 where
  pub bytes : List ℕ
  pub taken : Consumes old new bytes
  pub dropped : IsNoRequest bytes

-- the line of a request, and fewer bytes than it counts
pub record IsCutRequest (ask : Ask) (body taken : List ℕ) : Type 0 where
  pub few : length body < body_len ask
  pub is : taken ≡ (ask_line ask ++ line_feed) ++ body

-- What is less than a request: bytes of a line without its line feed, or less than a line counts.
abbrev pub IsLessThanOne : List ℕ → Type 0
IsLessThanOne taken =
    All (λ b. b ≢ 10) taken ⊎ ((ask : Ask) × (body : List ℕ) × IsCutRequest ask body taken)

-- The input ended, and what was left of it was less than a request.
pub record Ends (old new : Option (List ℕ)) : Type 0 where
  pub bytes : List ℕ
  pub taken : Consumes old new bytes
  pub ended : IsAtEnd new
  pub less : IsLessThanOne bytes

-- A request was taken, and what it counts stands at the front of the room.
pub record Takes (old new : Option (List ℕ)) (ask : Ask) (room : List ℕ) : Type 0 where
  pub bytes : List ℕ
  pub taken : Consumes old new bytes
  pub fits : body_len ask ≤ length room
  pub request : IsRequest ask (take (body_len ask) room) bytes

-- what became of the bytes that a request counts, once its line was taken
abbrev pub HearsBody : Ask → Option (List ℕ) → Option (List ℕ) → Heard → List ℕ → Type 0
HearsBody ask old new heard.End room = TakesFew old new (body_len ask)
HearsBody ask old new heard.Malformed room = TakesCount old new (body_len ask)
HearsBody ask old new (heard.Asked a) room = HasBody ask old new a room

-- What was heard is what was taken, and nothing after it.
abbrev pub Hears : Option (List ℕ) → Option (List ℕ) → Heard → List ℕ → Type 0
Hears old new heard.End room = Ends old new
Hears old new heard.Malformed room = Drops old new
Hears old new (heard.Asked ask) room = Takes old new ask room
