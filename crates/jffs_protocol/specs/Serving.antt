-- What is served: requests and their answers, one after another.
use Rattle.std.specs.Prelude.{◌≡◌, ◌⊎◌, ℕ, Bool, true, false, if◌then◌else◌, List, [], ◌∷◌}
use Rattle.std.specs.Prelude.{◌++◌, All}
use Rattle.std.specs.Prelude.{Option, codes}
use Rattle.std.specs.Io.KnownBytes.{Consumes, Appends}
use Rattle.std.specs.List.{flat_map}
use Rattle.jffs_protocol.specs.declared.asking.Ask.{Ask}
use Rattle.jffs_protocol.specs.declared.serving.Said.{Said}
use Rattle.jffs_protocol.specs.declared.serving.Said.TheVariants as said
use Rattle.jffs_protocol.specs.declared.serving.Failure.{Failure}
use Rattle.jffs_protocol.specs.declared.serving.Failure.TheVariants as failure
use Rattle.jffs_protocol.specs.declared.serving.Next.{Next}
use Rattle.jffs_protocol.specs.declared.serving.Next.TheVariants as next
use Rattle.jffs_protocol.specs.Hearing.{IsRequest, IsNoRequest, Ends}

-- the first line, with the protocol's version
abbrev pub greeting : List ℕ
greeting = codes "pumpgrape 1\n"

abbrev pub ok_text : List ℕ
ok_text = codes "ok\n"

abbrev pub malformed_text : List ℕ
malformed_text = codes "malformed\n"

abbrev pub failure_text : Failure → List ℕ
failure_text failure.Device = codes "failed Device\n"
failure_text failure.Medium = codes "failed Medium\n"
failure_text failure.Memory = codes "failed Memory\n"

-- the bytes of an answer, of which these were written
abbrev pub said_text : Said → List ℕ → List ℕ
said_text said.Answered written = written
said_text said.Done written = ok_text
said_text said.Last written = ok_text
said_text said.Malformed written = malformed_text
said_text said.Memory written = codes "memory\n"
said_text (said.Failed why) written = failure_text why

-- whether no request follows once this is said
abbrev pub is_last : Said → Bool
is_last said.Last = true
is_last (said.Failed why) = true
is_last _ = false

-- A request: the server before and after, the bytes of the request, those of its answer, and
-- whether no request follows it.
pub record Exchange (S : Type 0) : Type 0 where
  pub before : S
  pub taken : List ℕ
  pub given : List ℕ
  pub after : S
  pub last : Bool

-- requests after which others may follow
abbrev pub AreOpen : {S : Type 0} → List (Exchange S) → Type 0
AreOpen {S} exchanges = All (λ (e : Exchange S). e.last ≡ false) exchanges

-- the last of these requests is the first that none follows
pub record AreClosed {S : Type 0} (exchanges : List (Exchange S)) : Type 0 where
  pub front : List (Exchange S)
  pub end : Exchange S
  pub are : exchanges ≡ front ++ end ∷ []
  pub goes_on : AreOpen front
  pub last : end.last ≡ true

-- Such requests, and the input ended where less than one more was left.
pub record AreAll {S : Type 0} (exchanges : List (Exchange S)) (left : Option (List ℕ)) :
    Type 0 where
  pub goes_on : AreOpen exchanges
  pub rest : Option (List ℕ)
  pub ends : Ends left rest

-- what comes after an answer, by whether it is the last
abbrev pub next_of : Bool → Next
next_of last = if last then next.Last else next.More

-- How a server of a kind answers: what it is before and after, the request with the bytes after its
-- line, what is said of it, and what is written.
abbrev pub Manner : Type 0 → Type 1
Manner S = S → Ask → List ℕ → S → Said → List ℕ → Type 0

module _ {S : Type 0} (manner : Manner S) where
  -- the server answered a request in its manner, that answer was given, and it says what comes next
  pub record Responds (ask : Ask) (body : List ℕ) (comes : Next) (old new : S)
      (out_old out_new : Option (List ℕ)) : Type 0 where
    pub said : Said
    pub written : List ℕ
    pub manner_is : manner old ask body new said written
    pub gives : Appends out_old out_new (said_text said written)
    pub comes_is : comes ≡ next_of (is_last said)

  -- a request that was understood, with its answer
  pub record IsUnderstood (e : Exchange S) : Type 0 where
    pub ask : Ask
    pub body : List ℕ
    pub said : Said
    pub written : List ℕ
    pub request : IsRequest ask body e.taken
    pub manner_is : manner e.before ask body e.after said written
    pub given_is : e.given ≡ said_text said written
    pub last_is : e.last ≡ is_last said

  -- one that wasn't
  pub record IsMalformed (e : Exchange S) : Type 0 where
    pub none : IsNoRequest e.taken
    pub same : e.after ≡ e.before
    pub given_is : e.given ≡ malformed_text
    pub last_is : e.last ≡ false

  -- one exchange
  abbrev pub IsExchange : Exchange S → Type 0
  IsExchange e = IsUnderstood e ⊎ IsMalformed e

  -- exchanges, one after another, from one server to another
  abbrev pub AreExchanges : S → List (Exchange S) → S → Type 0
  AreExchanges old [] new = new ≡ old
  AreExchanges old (e ∷ es) new = (e.before ≡ old) × IsExchange e × AreExchanges e.after es new

  -- From one server to another whole requests were taken, and after the first line their answers
  -- given, in order and each once.
  pub record Serves (old new : S) (in_old in_new out_old out_new : Option (List ℕ)) : Type 0 where
    pub exchanges : List (Exchange S)
    pub are : AreExchanges old exchanges new
    pub taken : Consumes in_old in_new (flat_map (λ e. e.taken) exchanges)
    pub given : Appends out_old out_new (greeting ++ flat_map (λ e. e.given) exchanges)

  -- the same, and each of them is one that others may follow
  pub record ServesOn (old new : S) (in_old in_new out_old out_new : Option (List ℕ)) :
      Type 0 where
    pub serves : Serves old new in_old in_new out_old out_new
    pub goes_on : AreOpen serves.exchanges

  -- one request was taken, and its answer given
  pub record ServesOne (last : Bool) (old new : S)
      (in_old in_new out_old out_new : Option (List ℕ)) : Type 0 where
    pub taken : List ℕ
    pub given : List ℕ
    pub exchange : IsExchange
        record { before = old; taken = taken; given = given; after = new; last = last }
    pub takes : Consumes in_old in_new taken
    pub gives : Appends out_old out_new given

  -- one request was served, or the input ended where less than one was left, and nothing was given
  abbrev pub ServesNext : Next → S → S → Option (List ℕ) → Option (List ℕ) → Option (List ℕ)
      → Option (List ℕ) → Type 0
  ServesNext next.End old new in_old in_new out_old out_new =
      (new ≡ old) × (out_new ≡ out_old) × Ends in_old in_new
  ServesNext next.More old new in_old in_new out_old out_new =
      ServesOne false old new in_old in_new out_old out_new
  ServesNext next.Last old new in_old in_new out_old out_new =
      ServesOne true old new in_old in_new out_old out_new

  -- Whole requests were served, up to the first that none follows, or all that were in the input.
  pub record ServesAll (old new : S) (in_old out_old out_new : Option (List ℕ)) : Type 0 where
    pub in_new : Option (List ℕ)
    pub serves : Serves old new in_old in_new out_old out_new
    pub ends : AreClosed serves.exchanges ⊎ AreAll serves.exchanges in_new
