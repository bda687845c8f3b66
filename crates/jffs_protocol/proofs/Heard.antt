-- What was heard, once a line and what it counts were taken.
use Rattle.std.proofs.Common.{◌≡◌, ℕ, Bool, true, false, List, ◌++◌, take, Option, Result, Ok, Err, refl, sym, subst, inr, length-take-le, arith}
use Rattle.std.specs.Io.KnownBytes.{Consumes}
use Rattle.std.proofs.KnownBytes.{Consumes-trans}
use Rattle.std.specs.Prelude.{IfOk}
use Rattle.std.proofs.lemmas.List.{take_all}
use Rattle.jffs_protocol.specs.Asks.{ask_line, body_len}
use Rattle.jffs_protocol.specs.Hearing.{line_feed, TakesLine, TakesBytes, TakesCount, DropsBytes, HasBody, Takes, HearsBody, Hears}
use Rattle.jffs_protocol.specs.declared.asking.Ask.{Ask}
use Rattle.jffs_protocol.specs.declared.hearing.Heard.{Heard}
use Rattle.jffs_protocol.specs.declared.hearing.Heard.TheVariants as heard

pub if_ok_as : {A E : Type 0} (P Q : A → Type 0) (r : Result A E) → ((x : A) → P x → Q x) → IfOk r P → IfOk r Q
if_ok_as P Q (Ok x) f h = f x h
if_ok_as P Q (Err e) f h = h

-- all that was taken is what a request counts
pub has_body : (ask : Ask) (all : Bool) (a b : Option (List ℕ)) (count : ℕ) (room : List ℕ) → all ≡ true → count ≡ body_len ask
    → TakesBytes all a b count room → HasBody ask a b ask room
has_body ask false a b count room whole e t = absurd cc
has_body ask true a b count room whole e t =
    let counted = t.0 in
    record {
      same = refl;
      fits = omega (arith, e, counted);
      taken = subst (λ l. Consumes a b l) (sym (take_all (body_len ask) room (omega (arith, e, counted)))) t.1;
    }

-- what a request counts was dropped
pub body_dropped : (ask : Ask) (all : Bool) (a b : Option (List ℕ)) (count : ℕ) → all ≡ true → count ≡ body_len ask
    → DropsBytes all a b count → TakesCount a b (body_len ask)
body_dropped ask false a b count whole e t = absurd cc
body_dropped ask true a b count whole e t = subst (λ (n : ℕ). TakesCount a b n) e t

module _ (ask : Ask) (line : List ℕ) (old mid new : Option (List ℕ)) (room : List ℕ) where
  -- the line of a request, and then what it counts
  pub body_heard : (h : Heard) → TakesLine old mid line → line ≡ ask_line ask → HearsBody ask mid new h room → Hears old new h room
  body_heard heard.End t e b = record {
    bytes = (ask_line ask ++ line_feed) ++ b.bytes;
    taken = Consumes-trans old mid new (ask_line ask ++ line_feed) b.bytes (subst (λ l. Consumes old mid (l ++ line_feed)) e t.taken) b.taken;
    ended = b.ended;
    less = inr (ask, b.bytes, record { few = b.few; is = refl });
  }
  body_heard heard.Malformed t e b = record {
    bytes = (ask_line ask ++ line_feed) ++ b.bytes;
    taken = Consumes-trans old mid new (ask_line ask ++ line_feed) b.bytes (subst (λ l. Consumes old mid (l ++ line_feed)) e t.taken) b.taken;
    dropped = inr (ask, b.bytes, record { counted = b.counted; is = refl });
  }
  body_heard (heard.Asked a) t e b = subst (λ (x : Ask). Takes old new x room) (sym b.same) (record {
    bytes = (ask_line ask ++ line_feed) ++ take (body_len ask) room;
    taken = Consumes-trans old mid new (ask_line ask ++ line_feed) (take (body_len ask) room) (subst (λ l. Consumes old mid (l ++ line_feed)) e t.taken) b.taken;
    fits = b.fits;
    request = record { counted = length-take-le (body_len ask) room b.fits; is = refl };
  })
