-- What the two comparisons say.
use Rattle.std.proofs.Common.{◌≡◌, ◌∙◌, ℕ, ◌-◌, ◌+◌, ◌<◌, Bool, true, false, not, List, [], ◌∷◌, take, drop, length, refl, sym, ap, arith}
use Rattle.std.specs.Str.{bytes_eq}
use Rattle.std.specs.Cmp.Lexicographic.{pointwise}
use Rattle.std.proofs.lemmas.Bool.{both_ways, eqb-false}
use Rattle.std.proofs.lemmas.List.{drop_all, drop_more}
use Rattle.std.proofs.lemmas.Slice.Eq.{bytes_eq-Decides, slice_eq-Decides}
use Rattle.jffs_tree.specs.Decide.{last_name, is_root}
use Rattle.jffs_session.specs.Put.{AreBeside}
use Rattle.jffs_session.proofs.putting.are_beside.Goals as goal

-- the last name by itself
last_alone : (path : List (List ℕ)) → is_root path ≡ false → drop (length path - 1) path ≡ last_name path ∷ []
last_alone path some =
    let k = length path - 1 in
    let inside : k < length path = let apart = eqb-false (length path) 0 some in omega (arith, apart) in
    drop_more path k [] inside ∙ ap (λ rest. last_name path ∷ rest) (drop_all (k + 1) path (omega (arith, inside)))

beside : (path other : List (List ℕ)) (same apart : Bool) → is_root path ≡ false → is_root other ≡ false → same ≡ pointwise bytes_eq (take (length path - 1) path) (take (length other - 1) other) → same ≡ true
    → apart ≡ not (pointwise bytes_eq (drop (length path - 1) path) (drop (length other - 1) other)) → apart ≡ true → AreBeside path other
beside path other same apart some other_some is_same same_is is_apart apart_is = record {
  some = some;
  other_some = other_some;
  directory = (slice_eq-Decides bytes_eq-Decides (take (length path - 1) path) (take (length other - 1) other) same is_same).0 same_is;
  apart = λ named.
      let equal = last_alone path some ∙ ap (λ name. name ∷ []) named ∙ sym (last_alone other other_some) in
      let yes_is = (slice_eq-Decides bytes_eq-Decides (drop (length path - 1) path) (drop (length other - 1) other) _ refl).1 equal in
      both_ways apart (is_apart ∙ ap not yes_is) apart_is;
}

pub returns-then-eq : goal.returns-then-eq
returns-then-eq c = λ apart_is.
    let path = c.args.path.now in
    let other = c.args.other.now in
    let named = c.names-names.ensures.value in
    let other_named = c.names-others.ensures.value in
    let front = c.split_at.ensures.front ∙ ap (λ (xs : List (List ℕ)). take (length xs - 1) xs) named in
    let back = c.split_at.ensures.back ∙ ap (λ (xs : List (List ℕ)). drop (length xs - 1) xs) named in
    let other_front = c.split_at-2.ensures.front ∙ ap (λ (xs : List (List ℕ)). take (length xs - 1) xs) other_named in
    let other_back = c.split_at-2.ensures.back ∙ ap (λ (xs : List (List ℕ)). drop (length xs - 1) xs) other_named in
    beside path other c.eq.result c.ne.result
    (ap is_root (sym named) ∙ sym c.is_empty.ensures ∙ c.if-is_empty.false)
    (ap is_root (sym other_named) ∙ sym c.is_empty-else-is_empty.ensures ∙ c.if-is_empty-2.false)
    (c.eq.ensures ∙ ap (λ (xs : List (List ℕ)). pointwise bytes_eq xs c.split_at-2.result.0.now) front ∙ ap (λ (xs : List (List ℕ)). pointwise bytes_eq (take (length path - 1) path) xs) other_front)
    c.if-eq.true
    (c.ne.ensures ∙ ap (λ (xs : List (List ℕ)). not (pointwise bytes_eq xs c.split_at-2.result.1.now)) back ∙ ap (λ (xs : List (List ℕ)). not (pointwise bytes_eq (drop (length path - 1) path) xs)) other_back)
    apart_is
