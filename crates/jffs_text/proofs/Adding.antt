-- What calls in turn add to a writer's bytes.
use Rattle.std.proofs.Common.{◌≡◌, ℕ, ◌+◌, ◌<◌, List, [], ◌++◌, length, take, drop, get_or, Option, refl, sym, ap, subst, ◌∙◌}
use Rattle.std.specs.List.{flat_map}
use Rattle.std.specs.Io.KnownBytes.{Appends}
use Rattle.std.proofs.KnownBytes.{Appends-nil, Appends-trans}
use Rattle.std.proofs.lemmas.List.{append-nil, append_assoc, flat_map_more, take-append-drop, take_more}
use Rattle.std.proofs.lemmas.Grind.{flat_map-append}
use Rattle.jffs_text.specs.Added.{IsBegun}

module _ (a b : Option (List ℕ)) (x : List ℕ) where
  pub begun_whole : Appends a b x → IsBegun a b x
  begun_whole h = record { done = x; rest = []; whole = append-nil x; added = h }

  pub begun_more : (y : List ℕ) → IsBegun a b x → IsBegun a b (x ++ y)
  begun_more y h = record { done = h.done; rest = h.rest ++ y; whole = sym (append_assoc h.done h.rest y) ∙ ap (λ l. l ++ y) h.whole; added = h.added }

pub begun_none : (a : Option (List ℕ)) (x : List ℕ) → IsBegun a a x
begun_none a x = record { done = []; rest = x; whole = refl; added = Appends-nil a }

pub begun_then : (a b c : Option (List ℕ)) (x y : List ℕ) → Appends a b x → IsBegun b c y → IsBegun a c (x ++ y)
begun_then a b c x y h k = record {
  done = x ++ k.done;
  rest = k.rest;
  whole = append_assoc x k.done k.rest ∙ ap (λ l. x ++ l) k.whole;
  added = Appends-trans a b c x k.done h k.added;
}

-- The texts of a list's elements, of which those before the i-th were added.
module _ {X : Type 0} (f : X → List ℕ) (xs : List X) (i : ℕ) (d : X) (inside : i < length xs) where
  before_next : flat_map f (take (i + 1) xs) ≡ flat_map f (take i xs) ++ f (get_or xs i d)
  before_next = ap (λ l. flat_map f l) (take_more xs i d inside) ∙ sym (flat_map_more f [] (take i xs) (get_or xs i d))

  from_next : (flat_map f (take i xs) ++ f (get_or xs i d)) ++ flat_map f (drop (i + 1) xs) ≡ flat_map f xs
  from_next =
      ap (λ l. l ++ flat_map f (drop (i + 1) xs)) (sym before_next)
      ∙ sym (flat_map-append f (take (i + 1) xs) (drop (i + 1) xs))
      ∙ ap (λ l. flat_map f l) (take-append-drop (i + 1) xs)

  module _ (a b c : Option (List ℕ)) (so_far : Appends a b (flat_map f (take i xs))) where
    pub one_more : Appends b c (f (get_or xs i d)) → Appends a c (flat_map f (take (i + 1) xs))
    one_more h = subst (λ l. Appends a c l) (sym before_next) (Appends-trans a b c (flat_map f (take i xs)) (f (get_or xs i d)) so_far h)

    pub begun_here : IsBegun b c (f (get_or xs i d)) → IsBegun a c (flat_map f xs)
    begun_here h = subst (λ l. IsBegun a c l) from_next (begun_more a c (flat_map f (take i xs) ++ f (get_or xs i d)) (flat_map f (drop (i + 1) xs)) (begun_then a b c (flat_map f (take i xs)) (f (get_or xs i d)) so_far h))

pub begun_taken : (a b : Option (List ℕ)) (x : List ℕ) (n : ℕ) → Appends a b (take n x) → IsBegun a b x
begun_taken a b x n h = record { done = take n x; rest = drop n x; whole = take-append-drop n x; added = h }

pub begun_as : (a b : Option (List ℕ)) (x y : List ℕ) → x ≡ y → IsBegun a b x → IsBegun a b y
begun_as a b x y e h = subst (λ l. IsBegun a b l) e h

pub added_as : (a b : Option (List ℕ)) (x y : List ℕ) → x ≡ y → Appends a b x → Appends a b y
added_as a b x y e h = subst (λ l. Appends a b l) e h
