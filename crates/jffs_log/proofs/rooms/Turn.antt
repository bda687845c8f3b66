-- What is counted over one turn of cleaning: of the sectors that held the log at its start what is
-- live, of those since opened all.
use Rattle.std.proofs.Common.{◌≡◌, ℕ, zero, suc, ◌+◌, ◌-◌, ◌*◌, ◌/◌, ◌≤◌, ◌<◌, Bool, true, false, List, [], ◌∷◌, ◌++◌, length, filter, flat_map, refl, sym, ap, subst, ◌∙◌, arith}
use Rattle.std.specs.List.{AllByRecursion}
use Rattle.std.proofs.Math.Nat.{mul-div-le}
use Rattle.jffs_node.specs.declared.node.Node.{Node}
use Rattle.jffs_node.specs.Record.{record_len}
use Rattle.jffs_log.specs.Cleaning.{used, live_used, in_last, without_oldest}
use Rattle.jffs_tree.specs.Origin.{is_live}
use Rattle.std.proofs.lemmas.List.Elements.{filter-append}
use Rattle.std.proofs.lemmas.List.Sums.{sum_by-append}
use Rattle.jffs_log.specs.RoomLaws.{Among}
use Rattle.jffs_log.proofs.ring.Sectors.{used-cons, used_more, used_by, used_by_is, by_none, by_most, by_more, NoOther, by_fewer, by_fewer_one}

-- `left` sectors are left of those that held the log
pub charged : (Node → Bool) → ℕ → List (List Node) → ℕ
charged p left [] = 0
charged p zero (s ∷ sectors) = used s + charged p zero sectors
charged p (suc left) (s ∷ sectors) = used_by p s + charged p left sectors

pub charged_in_last : (p : Node → Bool) (left : ℕ) (n : Node) (sectors : List (List Node)) → charged p left (in_last n sectors) ≤ charged p left sectors + record_len n
unfolding charged
charged_in_last p zero n [] = let e = used-cons n [] in omega arith
charged_in_last p (suc left) n [] = let e = by_most p n [] in let z = by_none p in omega arith
charged_in_last p zero n (s ∷ []) = let e = used_more s n in omega arith
charged_in_last p (suc left) n (s ∷ []) = let e = by_more p s n in omega arith
charged_in_last p zero n (s ∷ t ∷ sectors) = let later = charged_in_last p zero n (t ∷ sectors) in omega arith
charged_in_last p (suc left) n (s ∷ t ∷ sectors) = let later = charged_in_last p left n (t ∷ sectors) in omega arith

pub charged_in_next : (p : Node → Bool) (left : ℕ) (n : Node) (sectors : List (List Node)) → charged p left (sectors ++ (n ∷ []) ∷ []) ≤ charged p left sectors + record_len n
unfolding charged
charged_in_next p zero n [] = let e = used-cons n [] in omega arith
charged_in_next p (suc left) n [] = let e = by_most p n [] in let z = by_none p in omega arith
charged_in_next p zero n (s ∷ sectors) = let later = charged_in_next p zero n sectors in omega arith
charged_in_next p (suc left) n (s ∷ sectors) = let later = charged_in_next p left n sectors in omega arith

pub charged_fewer : (p q : Node → Bool) (left : ℕ) (sectors : List (List Node)) → AllByRecursion (λ s. AllByRecursion (λ n. NoOther p q n) s) sectors → charged q left sectors ≤ charged p left sectors
unfolding charged
charged_fewer p q left [] h = omega arith
charged_fewer p q zero (s ∷ sectors) h = let later = charged_fewer p q zero sectors h.1 in omega arith
charged_fewer p q (suc left) (s ∷ sectors) h = let here = by_fewer p q s h.0 in let later = charged_fewer p q left sectors h.1 in omega arith

-- the oldest sector, with another after it
abbrev pub IsOldest : List Node → List (List Node) → Type 0
IsOldest oldest [] = ⊥
IsOldest oldest (s ∷ []) = ⊥
IsOldest oldest (s ∷ t ∷ sectors) = s ≡ oldest

pub oldest_in_last : (oldest : List Node) (n : Node) (sectors : List (List Node)) → IsOldest oldest sectors → IsOldest oldest (in_last n sectors)
oldest_in_last oldest n [] h = absurd h
oldest_in_last oldest n (s ∷ []) h = absurd h
oldest_in_last oldest n (s ∷ t ∷ []) h = h
oldest_in_last oldest n (s ∷ t ∷ u ∷ sectors) h = h

pub oldest_in_next : (oldest : List Node) (n : Node) (sectors : List (List Node)) → IsOldest oldest sectors → IsOldest oldest (sectors ++ (n ∷ []) ∷ [])
oldest_in_next oldest n [] h = absurd h
oldest_in_next oldest n (s ∷ []) h = absurd h
oldest_in_next oldest n (s ∷ t ∷ sectors) h = h

pub of_oldest : (P : List Node → Type 0) (oldest : List Node) (sectors : List (List Node)) → IsOldest oldest sectors → AllByRecursion P sectors → P oldest
of_oldest P oldest [] h a = absurd h
of_oldest P oldest (s ∷ []) h a = absurd h
of_oldest P oldest (s ∷ t ∷ sectors) h a = subst P h a.0

pub charged_fewer_one : (p q : Node → Bool) (left : ℕ) (oldest : List Node) (m : Node) (sectors : List (List Node)) → IsOldest oldest sectors
    → AllByRecursion (λ s. AllByRecursion (λ n. NoOther p q n) s) sectors → Among m oldest → p m ≡ true → q m ≡ false → charged q (suc left) sectors + record_len m ≤ charged p (suc left) sectors
unfolding charged
charged_fewer_one p q left oldest m [] is h among t f = absurd is
charged_fewer_one p q left oldest m (s ∷ []) is h among t f = absurd is
charged_fewer_one p q left oldest m (s ∷ u ∷ sectors) is h among t f =
    let here = by_fewer_one p q s m h.0 (subst (Among m) (sym is) among) t f in
    let later = charged_fewer p q left (u ∷ sectors) h.1 in
    omega arith

-- Each sector opened since, but the last, is full.
abbrev pub full_at : ℕ → ℕ
full_at z = 3 * z / 4 - 64

abbrev pub IsFull : ℕ → ℕ → ℕ → List (List Node) → Type 0
IsFull z free left [] = Unit {0}
IsFull z free zero (s ∷ []) = z ≤ used s + free
IsFull z free zero (s ∷ t ∷ sectors) = (full_at z ≤ used s) × IsFull z free zero (t ∷ sectors)
IsFull z free (suc left) (s ∷ sectors) = IsFull z free left sectors

pub full_when : (z free k u : ℕ) → z ≤ u + free → free < k + 64 → k ≤ z / 4 → full_at z ≤ u
full_when z free k u whole none short =
    let a = mul-div-le z 4 in
    let b = mul-div-le (3 * z) 4 in
    let c : 3 * z / 4 + z / 4 ≤ z = omega arith in
    omega arith

pub full_in_last : (z free left : ℕ) (n : Node) (s : List Node) (sectors : List (List Node)) → record_len n ≤ free → IsFull z free left (s ∷ sectors) → IsFull z (free - record_len n) left (in_last n (s ∷ sectors))
full_in_last z free zero n s [] fits h = let e = used_more s n in omega arith
full_in_last z free (suc left) n s [] fits h = tt
full_in_last z free zero n s (t ∷ []) fits h = (h.0, full_in_last z free zero n t [] fits h.1)
full_in_last z free zero n s (t ∷ u ∷ sectors) fits h = (h.0, full_in_last z free zero n t (u ∷ sectors) fits h.1)
full_in_last z free (suc left) n s (t ∷ sectors) fits h = full_in_last z free left n t sectors fits h

pub full_in_next : (z free left : ℕ) (n : Node) (sectors : List (List Node)) → free < record_len n + 64 → record_len n ≤ z / 4 → IsFull z free left sectors → IsFull z (z - record_len n) left (sectors ++ (n ∷ []) ∷ [])
full_in_next z free zero n [] none short h = let e = used-cons n [] in omega arith
full_in_next z free (suc left) n [] none short h = tt
full_in_next z free zero n (s ∷ []) none short h = (full_when z free (record_len n) (used s) h none short, full_in_next z free zero n [] none short tt)
full_in_next z free zero n (s ∷ t ∷ sectors) none short h = (h.0, full_in_next z free zero n (t ∷ sectors) none short h.1)
full_in_next z free (suc left) n (s ∷ sectors) none short h = full_in_next z free left n sectors none short h

pub full_counts : (p : Node → Bool) (z free k : ℕ) (s : List Node) (sectors : List (List Node)) → free < k + 64 → k ≤ z / 4 → IsFull z free zero (s ∷ sectors) → length (s ∷ sectors) * full_at z ≤ charged p zero (s ∷ sectors)
unfolding charged
full_counts p z free k s [] none short h = let e = full_when z free k (used s) h none short in omega arith
full_counts p z free k s (t ∷ sectors) none short h = let later = full_counts p z free k t sectors none short h.1 in let here = h.0 in omega arith

pub newer_charged : (p : Node → Bool) (left : ℕ) (sectors : List (List Node)) → charged p left (without_oldest sectors) ≤ charged p (suc left) sectors
unfolding charged
newer_charged p left [] = omega arith
newer_charged p left (s ∷ sectors) = omega arith

-- Before a turn, what is charged is what is live.
pub live-append : (past xs ys : List Node) → live_used past (xs ++ ys) ≡ live_used past xs + live_used past ys
live-append past xs ys = ap used (filter-append (λ n. is_live past n.version) xs ys) ∙ sum_by-append record_len (filter (λ n. is_live past n.version) xs) (filter (λ n. is_live past n.version) ys)

pub charged_live : (past : List Node) (sectors : List (List Node)) → charged (λ n. is_live past n.version) (length sectors) sectors ≡ live_used past (flat_map (λ nodes. nodes) sectors)
unfolding charged
charged_live past [] = refl
charged_live past (s ∷ sectors) =
    let here = used_by_is (λ n. is_live past n.version) s in
    let later = charged_live past sectors in
    let both = live-append past s (flat_map (λ nodes. nodes) sectors) in
    omega arith
