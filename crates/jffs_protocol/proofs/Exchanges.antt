-- One exchange after others.
use Rattle.std.proofs.Common.{◌≡◌, ◌∙◌, ℕ, Bool, true, false, List, [], ◌∷◌, ◌++◌, Option, refl, sym, ap, subst, append-nil, take, inl, inr}
use Rattle.std.specs.Io.KnownBytes.{Consumes, Appends}
use Rattle.std.proofs.KnownBytes.{Consumes-nil, Consumes-trans, Appends-trans}
use Rattle.std.proofs.lemmas.List.{flat_map_more}
use Rattle.std.proofs.lemmas.List.Elements.{All-append, All-cons, All-nil}
use Rattle.jffs_protocol.specs.Serving.{Manner, Exchange, IsExchange, AreExchanges, Serves}
use Rattle.jffs_protocol.specs.Serving.{ServesOn, ServesOne, ServesNext, ServesAll, Responds, greeting, is_last, malformed_text, next_of, said_text}
use Rattle.jffs_protocol.specs.Hearing.{Drops, Ends, Takes}
use Rattle.jffs_protocol.specs.Asks.{body_len}
use Rattle.jffs_protocol.specs.declared.asking.Ask.{Ask}
use Rattle.jffs_protocol.specs.declared.serving.Next.{Next}
use Rattle.jffs_protocol.specs.declared.serving.Next.TheVariants as next

module _ {S : Type 0} (manner : Manner S) where
  are_more : (old : S) (es : List (Exchange S)) (mid : S) (e : Exchange S) → AreExchanges manner old es mid
      → e.before ≡ mid → IsExchange manner e → AreExchanges manner old (es ++ e ∷ []) e.after
  are_more old [] mid e h p i = (p ∙ h, i, refl)
  are_more old (d ∷ es) mid e h p i = (h.0, h.1, are_more d.after es mid e h.2 p i)

  joined : (old mid new : S) (last : Bool) (a b c d e f : Option (List ℕ))
      → Serves manner old mid a b d e → ServesOne manner last mid new b c e f → Serves manner old new a c d f
  joined old mid new last a b c d e f so one =
      let x : Exchange S = record { before = mid; taken = one.taken; given = one.given; after = new; last = last } in
      record {
        exchanges = so.exchanges ++ x ∷ [];
        are = are_more old so.exchanges mid x so.are refl one.exchange;
        taken = subst (λ l. Consumes a c l) (flat_map_more (λ (y : Exchange S). y.taken) [] so.exchanges x) (Consumes-trans a b c _ _ so.taken one.takes);
        given = subst (λ l. Appends d f l) (flat_map_more (λ (y : Exchange S). y.given) greeting so.exchanges x) (Appends-trans d e f _ _ so.given one.gives);
      }

  -- nothing but the first line was given
  pub served_none : (s : S) (a d e : Option (List ℕ)) → Appends d e greeting → ServesOn manner s s a a d e
  served_none s a d e h = record {
    serves = record { exchanges = []; are = refl; taken = Consumes-nil a; given = subst (λ l. Appends d e l) (sym (append-nil greeting)) h };
    goes_on = All-nil (λ (y : Exchange S). y.last ≡ false);
  }

  -- one more, after which another may follow
  pub served_more : (old mid new : S) (a b c d e f : Option (List ℕ))
      → ServesOn manner old mid a b d e → ServesOne manner false mid new b c e f → ServesOn manner old new a c d f
  unfolding joined
  served_more old mid new a b c d e f so one =
      let x : Exchange S = record { before = mid; taken = one.taken; given = one.given; after = new; last = false } in
      record {
        serves = joined old mid new false a b c d e f so.serves one;
        goes_on = All-append (λ (y : Exchange S). y.last ≡ false) so.serves.exchanges (x ∷ []) so.goes_on
            (All-cons (λ (y : Exchange S). y.last ≡ false) x [] refl (All-nil (λ (y : Exchange S). y.last ≡ false)));
      }

  -- a request that was taken, and answered
  responded : (last : Bool) (old new : S) (ask : Ask) (room : List ℕ) (comes : Next) (a b c d : Option (List ℕ)) → Takes a b ask room
      → (r : Responds manner ask (take (body_len ask) room) comes old new c d) → last ≡ is_last r.said → ServesOne manner last old new a b c d
  responded last old new ask room comes a b c d t r is = record {
    taken = t.bytes;
    given = said_text r.said r.written;
    exchange = inl record { ask = ask; body = take (body_len ask) room; said = r.said; written = r.written; request = t.request; manner_is = r.manner_is; given_is = refl; last_is = is };
    takes = t.taken;
    gives = r.gives;
  }

  -- what was taken is no request, and was answered as that
  dropped : (s : S) (a b c d : Option (List ℕ)) → Drops a b → Appends c d malformed_text → ServesOne manner false s s a b c d
  dropped s a b c d t h = record {
    taken = t.bytes;
    given = malformed_text;
    exchange = inr record { none = t.dropped; same = refl; given_is = refl; last_is = refl };
    takes = t.taken;
    gives = h;
  }

  -- one request was served, and what comes next is as it was answered
  pub one_served : (n : Next) (old new : S) (ask : Ask) (room : List ℕ) (a b c d : Option (List ℕ)) → Takes a b ask room
      → Responds manner ask (take (body_len ask) room) n old new c d → ServesNext manner n old new a b c d
  one_served n old new ask room a b c d t r = by_last (is_last r.said) refl
    where
      by_last : (last : Bool) → last ≡ is_last r.said → ServesNext manner n old new a b c d
      by_last true is =
          subst (λ (m : Next). ServesNext manner m old new a b c d) (ap next_of is ∙ sym r.comes_is) (responded true old new ask room n a b c d t r is)
      by_last false is =
          subst (λ (m : Next). ServesNext manner m old new a b c d) (ap next_of is ∙ sym r.comes_is) (responded false old new ask room n a b c d t r is)

  -- and so it was where what was taken is none
  pub none_served : (n : Next) (s : S) (a b c d : Option (List ℕ)) → n ≡ next.More → Drops a b → Appends c d malformed_text
      → ServesNext manner n s s a b c d
  none_served n s a b c d e t h = subst (λ (m : Next). ServesNext manner m s s a b c d) (sym e) (dropped s a b c d t h)

  -- the last request was served
  pub served_last : (old mid new : S) (a b c d e f : Option (List ℕ))
      → ServesOn manner old mid a b d e → ServesOne manner true mid new b c e f → ServesAll manner old new a d f
  unfolding joined
  served_last old mid new a b c d e f so one =
      let x : Exchange S = record { before = mid; taken = one.taken; given = one.given; after = new; last = true } in
      record {
        in_new = c;
        serves = joined old mid new true a b c d e f so.serves one;
        ends = inl record { front = so.serves.exchanges; end = x; are = refl; goes_on = so.goes_on; last = refl };
      }

  -- or none was left
  pub served_all : (old mid new : S) (a b c d e f : Option (List ℕ)) → ServesOn manner old mid a b d e
      → (new ≡ mid) × (f ≡ e) × Ends b c → ServesAll manner old new a d f
  served_all old mid new a b c d e f so h =
      subst (λ (s : S). ServesAll manner old s a d f) (sym h.0) (subst (λ (o : Option (List ℕ)). ServesAll manner old mid a d o) (sym h.1) record {
        in_new = b;
        serves = so.serves;
        ends = inr record { goes_on = so.goes_on; rest = c; ends = h.2 };
      })
