-- The log of a ring of sectors, and what a ring becomes where one sector changes.
use Rattle.std.proofs.Common.{◌≡◌, ◌⊎◌, inl, inr, ℕ, zero, suc, ◌+◌, ◌-◌, ◌<◌, ◌≤◌, Bool, true, false, cond, not, ◌&&◌, leb, List, [], ◌∷◌, ◌++◌, length, take, drop, map, filter, set, get_or, Option, None, Some, refl, sym, ap, subst, ◌∙◌, arith, append_assoc, length-append, length-drop}
use Rattle.std.specs.List.{last_or, enumerate_from, AllByRecursion}
use Rattle.std.proofs.Math.Seq.{drop-cons, take-suc, take-length, drop-length, set-append_seam, get_or-append_seam, take-set-lt, take-append_seam, drop-append_seam}
use Rattle.std.proofs.lemmas.Bool.{cases_lt}
use Rattle.std.proofs.lemmas.List.{append-nil, take-append-drop, get_or_append_left, get_or-append-add, get_or-drop, get_or-take, take-append-le, drop-append-le, length-set, length-take-le, drop-set-lt, drop-set-add, take-set-le, set-append_left, set-append_right}
use Rattle.std.proofs.lemmas.List.FromFn.{length-enumerate_from, get_or-enumerate_from}
use Rattle.jffs_node.specs.declared.node.Node.{Node}
use Rattle.jffs_node.proofs.Each.{each_append, each_front}
use Rattle.jffs_log.specs.Image.{Sector, starts_from, starts, is_erased_option, is_one_run, oldest_of, turned, log_sectors}
use Rattle.jffs_log.specs.Ring.{IsRing, IsAt, IsNext}

abbrev pub Numbered : Type 0
Numbered = ℕ × Sector

abbrev pub sectors_of : List Numbered → List Sector
sectors_of xs = map (λ s. s.1) xs

abbrev pub nodes_by_sector : List Numbered → List (List Node)
nodes_by_sector xs = map (λ s. s.1.reading.nodes) xs

abbrev pub AreUsed : List Numbered → Type 0
AreUsed xs = AllByRecursion (λ s. s.1.erased ≡ false) xs

abbrev pub AreBlank : List Numbered → Type 0
AreBlank xs = AllByRecursion (λ s. s.1.erased ≡ true) xs

-- whether the last sector is erased
abbrev pub last_erased : Bool → List Numbered → Bool
last_erased e [] = e
last_erased e (s ∷ xs) = last_erased s.1.erased xs

pub last_is : (o : _) (xs : List Numbered) → is_erased_option (last_or o (sectors_of xs)) ≡ last_erased (is_erased_option o) xs
last_is o [] = refl
last_is o (s ∷ xs) = last_is _ xs

-- the last of a list is what stands at its end
pub last_end : (o : Option Numbered) (xs : List Numbered) (x : Numbered) → last_or o (xs ++ x ∷ []) ≡ Some x
last_end o [] x = refl
last_end o (y ∷ xs) x = last_end (Some y) xs x

pub last_append : (e : Bool) (xs ys : List Numbered) → last_erased e (xs ++ ys) ≡ last_erased (last_erased e xs) ys
last_append e [] ys = refl
last_append e (s ∷ xs) ys = last_append s.1.erased xs ys

last_same : (e b : Bool) (xs : List Numbered) → AllByRecursion (λ s. s.1.erased ≡ b) xs → (1 ≤ length xs) ⊎ (e ≡ b) → last_erased e xs ≡ b
last_same e b [] h (inl long) = absurd (omega arith)
last_same e b [] h (inr same) = same
last_same e b (s ∷ xs) h long = last_same s.1.erased b xs h.1 (inr h.0)

-- Where sectors of the log begin after erased ones.
kept_end : (t : Bool) (k : ℕ) (xs ys : List ℕ) → cond t (k ∷ (xs ++ ys)) (xs ++ ys) ≡ cond t (k ∷ xs) xs ++ ys
kept_end true k xs ys = refl
kept_end false k xs ys = refl

starts_append : (e : Bool) (k : ℕ) (xs ys : List Numbered)
    → starts_from e k (sectors_of (xs ++ ys)) ≡ starts_from e k (sectors_of xs) ++ starts_from (last_erased e xs) (k + length xs) (sectors_of ys)
starts_append e k [] ys = let same : k ≡ k + 0 = omega arith in ap (λ j. starts_from e j (sectors_of ys)) same
starts_append e k (s ∷ xs) ys =
    let same : k + 1 + length xs ≡ k + length (s ∷ xs) = omega arith in
    let more = starts_append s.1.erased (k + 1) xs ys in
    let later = more ∙ ap (λ j. starts_from s.1.erased (k + 1) (sectors_of xs) ++ starts_from (last_erased s.1.erased xs) j (sectors_of ys)) same in
    ap (λ (r : List ℕ). cond (e && not s.1.erased) (k ∷ r) r) later
    ∙ kept_end (e && not s.1.erased) k (starts_from s.1.erased (k + 1) (sectors_of xs)) (starts_from (last_erased s.1.erased xs) (k + length (s ∷ xs)) (sectors_of ys))

no_start : (e b : Bool) (k : ℕ) (r : List ℕ) → b ≡ true → cond (e && not b) (k ∷ r) r ≡ r
no_start true true k r h = refl
no_start true false k r h = cc
no_start false b k r h = refl

blank_starts : (e : Bool) (k : ℕ) (xs : List Numbered) → AreBlank xs → starts_from e k (sectors_of xs) ≡ []
blank_starts e k [] h = refl
blank_starts e k (s ∷ xs) h = no_start e s.1.erased k (starts_from s.1.erased (k + 1) (sectors_of xs)) h.0 ∙ blank_starts s.1.erased (k + 1) xs h.1

used_starts : (k : ℕ) (xs : List Numbered) → AreUsed xs → starts_from false k (sectors_of xs) ≡ []
used_starts k [] h = refl
used_starts k (s ∷ xs) h = ap (λ e. starts_from e (k + 1) (sectors_of xs)) h.0 ∙ used_starts (k + 1) xs h.1

abbrev pub start_of : List Numbered → ℕ → List ℕ
start_of [] k = []
start_of (s ∷ xs) k = k ∷ []

first_starts : (e : Bool) (k : ℕ) (xs : List Numbered) → AreUsed xs → e ≡ true → starts_from e k (sectors_of xs) ≡ start_of xs k
first_starts e k [] h erased = refl
first_starts e k (s ∷ xs) h erased =
    ap (λ b. cond (b && not s.1.erased) (k ∷ starts_from s.1.erased (k + 1) (sectors_of xs)) (starts_from s.1.erased (k + 1) (sectors_of xs))) erased
    ∙ ap (λ b. cond (not b) (k ∷ starts_from b (k + 1) (sectors_of xs)) (starts_from b (k + 1) (sectors_of xs))) h.0
    ∙ ap (λ (r : List ℕ). k ∷ r) (used_starts (k + 1) xs h.1)

start_end : (held : List Numbered) (k : ℕ) → start_of held k ++ [] ≡ start_of held k
start_end [] k = refl
start_end (s ∷ held) k = refl

start_longer : (xs ys : List Numbered) (k : ℕ) → 1 ≤ length xs → start_of (xs ++ ys) k ≡ start_of xs k
start_longer [] ys k h = absurd (omega arith)
start_longer (s ∷ xs) ys k h = refl

abbrev end_of : List Numbered → Bool
end_of whole = is_erased_option (last_or None (sectors_of whole))

ends_by : (xs ys : List Numbered) (b : Bool) → AllByRecursion (λ s. s.1.erased ≡ b) ys → 1 ≤ length ys → end_of (xs ++ ys) ≡ b
ends_by xs ys b h long = last_is None (xs ++ ys) ∙ last_append false xs ys ∙ last_same (last_erased false xs) b ys h (inl long)

-- the log lies between erased sectors
starts_straight : (before held after : List Numbered) → AreBlank before → AreUsed held → AreBlank after → 1 ≤ length (after ++ before)
    → starts (sectors_of (before ++ (held ++ after))) ≡ start_of held (length before)
starts_straight before held after b h a some =
    let e = end_of (before ++ (held ++ after)) in
    let ending : (1 ≤ length after) → e ≡ true = λ long. ap end_of (sym (append_assoc before held after)) ∙ ends_by (before ++ held) after true a long in
    let lengths = length-append after before in
    let open_end : last_erased e before ≡ true = elim (cases_lt 0 (length after)) [
      | inl long ↦ last_same e true before b (inr (ending (omega arith)))
      | inr none ↦ last_same e true before b (inl (omega arith))
    ] in
    starts_append e 0 before (held ++ after)
    ∙ ap (λ (r : List ℕ). r ++ starts_from (last_erased e before) (0 + length before) (sectors_of (held ++ after))) (blank_starts e 0 before b)
    ∙ starts_append (last_erased e before) (0 + length before) held after
    ∙ ap (λ (r : List ℕ). starts_from (last_erased e before) (0 + length before) (sectors_of held) ++ r) (blank_starts _ _ after a)
    ∙ ap (λ (r : List ℕ). r ++ []) (first_starts (last_erased e before) (0 + length before) held h open_end)
    ∙ start_end held (0 + length before)
    ∙ ap (start_of held) (omega arith)

-- the erased sectors lie inside the log
starts_around : (newer blank older : List Numbered) → AreUsed newer → AreBlank blank → AreUsed older → 1 ≤ length blank → 1 ≤ length older
    → starts (sectors_of (newer ++ (blank ++ older))) ≡ start_of older (length newer + length blank)
starts_around newer blank older n b o some long =
    let e = end_of (newer ++ (blank ++ older)) in
    let ending : e ≡ false = ap end_of (sym (append_assoc newer blank older)) ∙ ends_by (newer ++ blank) older false o long in
    ap (λ t. starts_from t 0 (sectors_of (newer ++ (blank ++ older)))) ending
    ∙ starts_append false 0 newer (blank ++ older)
    ∙ ap (λ (r : List ℕ). r ++ starts_from (last_erased false newer) (0 + length newer) (sectors_of (blank ++ older))) (used_starts 0 newer n)
    ∙ starts_append (last_erased false newer) (0 + length newer) blank older
    ∙ ap (λ (r : List ℕ). r ++ starts_from (last_erased (last_erased false newer) blank) (0 + length newer + length blank) (sectors_of older)) (blank_starts _ _ blank b)
    ∙ first_starts (last_erased (last_erased false newer) blank) (0 + length newer + length blank) older o (last_same _ true blank b (inl some))
    ∙ ap (start_of older) (omega arith)

split_same : (a b c d : List Numbered) → a ++ b ≡ c ++ d → length c ≤ length a → (m : List Numbered) × (a ≡ c ++ m) × (d ≡ m ++ b)
split_same a b c d same short =
    let k = length c in
    let front : take k a ≡ c = sym (take-append-le k a b short) ∙ ap (take k) same ∙ take-append_seam c d in
    let back : d ≡ drop k a ++ b = sym (drop-append_seam c d) ∙ ap (drop k) (sym same) ∙ drop-append-le k a b short in
    (drop k a, sym (take-append-drop k a) ∙ ap (λ (xs : List Numbered). xs ++ drop k a) front, back)

pub sectors_numbered : (k : ℕ) (sectors : List Sector) → sectors ≡ sectors_of (enumerate_from k sectors)
sectors_numbered k [] = refl
sectors_numbered k (s ∷ sectors) = ap (λ (xs : List Sector). s ∷ xs) (sectors_numbered (k + 1) sectors)

-- how long the two parts of a turned list are
turned_lengths : (first : ℕ) (sectors : List Sector) → first ≤ length sectors → (length (take first (enumerate_from 0 sectors)) ≡ first) × (length (drop first (enumerate_from 0 sectors)) + first ≡ length sectors)
turned_lengths first sectors inside =
    let n = enumerate_from 0 sectors in
    let many : length n ≡ length sectors = length-enumerate_from 0 sectors in
    let back = length-drop first n in
    (length-take-le first n (omega arith), omega arith)

pub ring_starts : (first : ℕ) (sectors : List Sector) (held blank : List Numbered) → IsRing first sectors held blank → starts sectors ≡ start_of held first
ring_starts first sectors held blank h =
    let n = enumerate_from 0 sectors in
    let d = drop first n in
    let t = take first n in
    let inside = h.inside in
    let lengths = turned_lengths first sectors (omega arith) in
    let whole : sectors ≡ sectors_of (t ++ d) = sectors_numbered 0 sectors ∙ ap sectors_of (sym (take-append-drop first n)) in
    elim (cases_lt (length d) (length held)) [
      | inr straight ↦
          let parts = split_same d t held blank h.order straight in
          let m = parts.0 in
          let blanks = each_front (λ s. s.1.erased ≡ true) m t (subst AreBlank parts.2 h.unused) in
          ap starts whole
          ∙ ap (λ (xs : List Numbered). starts (sectors_of (t ++ xs))) parts.1
          ∙ starts_straight t held m blanks.1 h.used blanks.0 (subst (λ (xs : List Numbered). 1 ≤ length xs) parts.2 h.some)
          ∙ ap (start_of held) lengths.0
      | inl around ↦
          let parts = split_same held blank d t (sym h.order) (omega arith) in
          let m = parts.0 in
          let useds = each_front (λ s. s.1.erased ≡ false) d m (subst AreUsed parts.1 h.used) in
          let long : 1 ≤ length d = omega arith in
          let sum : length t ≡ length m + length blank = ap length parts.2 ∙ length-append m blank in
          ap starts whole
          ∙ ap (λ (xs : List Numbered). starts (sectors_of (xs ++ d))) parts.2
          ∙ ap (λ (xs : List Numbered). starts (sectors_of xs)) (append_assoc m blank d)
          ∙ starts_around m blank d useds.1 h.unused useds.0 h.some long
          ∙ ap (start_of d) (sym sum ∙ lengths.0)
          ∙ sym (start_longer d m first long)
          ∙ ap (λ (xs : List Numbered). start_of xs first) (sym parts.1)
    ]

same_start : (held : List Numbered) (j k : ℕ) → start_of held k ≡ j ∷ [] → k ≡ j
same_start [] j k e = absurd (cc)
same_start (s ∷ held) j k e = ap oldest_of e

-- Sectors are a ring of one log only, where any holds it.
pub ring_once : (j k : ℕ) (sectors : List Sector) (held blank more empty : List Numbered) → IsRing j sectors held blank → IsRing k sectors more empty → 1 ≤ length held → k ≡ j
ring_once j k sectors [] blank more empty a b some = absurd (omega arith)
ring_once j k sectors (s ∷ held) blank more empty a b some = same_start more j k (sym (ring_starts k sectors more empty b) ∙ ring_starts j sectors (s ∷ held) blank a)

abbrev is_used : Numbered → Bool
is_used s = not s.1.erased

filter_used : (held blank : List Numbered) → AreUsed held → AreBlank blank → filter is_used (held ++ blank) ≡ held
filter_used [] [] u b = refl
filter_used [] (s ∷ blank) u b = ap (λ t. cond (not t) (s ∷ filter is_used blank) (filter is_used blank)) b.0 ∙ filter_used [] blank u b.1
filter_used (s ∷ held) blank u b =
    ap (λ t. cond (not t) (s ∷ filter is_used (held ++ blank)) (filter is_used (held ++ blank))) u.0 ∙ ap (λ (xs : List Numbered). s ∷ xs) (filter_used held blank u.1 b)

-- The log of a ring is what its used sectors hold, and its erased sectors are one run.
pub ring_log : (first : ℕ) (sectors : List Sector) (held blank : List Numbered) → IsRing first sectors held blank → (log_sectors sectors ≡ held) × (is_one_run sectors ≡ true)
ring_log first sectors held blank h = (
  ap (λ (k : List ℕ). filter is_used (turned (oldest_of k) (enumerate_from 0 sectors))) (ring_starts first sectors held blank h) ∙ by_held held h.used h.order,
  ap (λ (k : List ℕ). leb (length k) 1) (ring_starts first sectors held blank h) ∙ one held,
)
  where
    one : (xs : List Numbered) → leb (length (start_of xs first)) 1 ≡ true
    one [] = refl
    one (s ∷ xs) = refl

    by_held : (xs : List Numbered) → AreUsed xs → turned first (enumerate_from 0 sectors) ≡ xs ++ blank → filter is_used (turned (oldest_of (start_of xs first)) (enumerate_from 0 sectors)) ≡ xs
    by_held [] u order =
        let n = enumerate_from 0 sectors in
        let both = each_front (λ s. s.1.erased ≡ true) (drop first n) (take first n) (subst AreBlank (sym order) h.unused) in
        let all : AreBlank n = subst AreBlank (take-append-drop first n) (each_append _ (take first n) (drop first n) both.1 both.0) in
        filter_used [] (n ++ []) tt (each_append _ n [] all tt)
    by_held (s ∷ xs) u order = ap (filter is_used) order ∙ filter_used (s ∷ xs) blank u h.unused

-- One sector of a ring changes.
set_numbered : (a k : ℕ) (sectors : List Sector) (s : Sector) → enumerate_from a (set sectors k s) ≡ set (enumerate_from a sectors) k (a + k, s)
set_numbered a k [] s = refl
set_numbered a zero (x ∷ sectors) s = let same : a ≡ a + 0 = omega arith in ap (λ (j : ℕ). (j, s) ∷ enumerate_from (a + 1) sectors) same
set_numbered a (suc k) (x ∷ sectors) s =
    let same : a + 1 + k ≡ a + suc k = omega arith in
    ap (λ (xs : List Numbered). (a, x) ∷ xs) (set_numbered (a + 1) k sectors s ∙ ap (λ (j : ℕ). set (enumerate_from (a + 1) sectors) k (j, s)) same)

turned_set : (first j k : ℕ) (xs : List Numbered) (v : Numbered) → first ≤ length xs → IsAt first (length xs) j k → turned first (set xs k v) ≡ set (turned first xs) j v
turned_set first j k xs v h (inl at) =
    let long = length-drop first xs in
    let near : j < length (drop first xs) = omega arith in
    ap (λ i. turned first (set xs i v)) (sym at.0)
    ∙ ap (λ (ys : List Numbered). ys ++ take first (set xs (first + j) v)) (drop-set-add first xs j v)
    ∙ ap (λ (ys : List Numbered). set (drop first xs) j v ++ ys) (take-set-le first xs (first + j) v (omega arith))
    ∙ sym (set-append_left (drop first xs) (take first xs) j v near)
turned_set first j k xs v h (inr at) =
    let long = length-drop first xs in
    let there : j - length (drop first xs) ≡ k = omega arith in
    ap (λ (ys : List Numbered). ys ++ take first (set xs k v)) (drop-set-lt first xs k v at.1)
    ∙ ap (λ (ys : List Numbered). drop first xs ++ ys) (take-set-lt first xs k v at.1)
    ∙ ap (λ i. drop first xs ++ set (take first xs) i v) (sym there)
    ∙ sym (set-append_right (drop first xs) (take first xs) (length (drop first xs)) j v refl (omega arith))

-- what stands in the ring
record IsFound (first : ℕ) (sectors : List Sector) (j : ℕ) (t : Numbered) : Type 0 where
  number : IsAt first (length sectors) j t.0
  reads : t.1 ≡ get_or sectors t.0 t.1

found_at : (first i j : ℕ) (sectors : List Sector) (t : Numbered) → i < length sectors → IsAt first (length sectors) j i → t ≡ get_or (enumerate_from 0 sectors) i t → IsFound first sectors j t
found_at first i j sectors t below at read =
    let both : t ≡ (0 + i, get_or sectors i t.1) = read ∙ get_or-enumerate_from 0 sectors i t below in
    let zero_first : 0 + i ≡ i = omega arith in
    let number : t.0 ≡ i = ap (λ (s : Numbered). s.0) both ∙ zero_first in
    record {
      number = subst (IsAt first (length sectors) j) (sym number) at;
      reads = ap (λ (s : Numbered). s.1) both ∙ ap (λ k. get_or sectors k t.1) (sym number);
    }

module _ (first : ℕ) (sectors : List Sector) (xs ys : List Numbered) (t : Numbered) (inside : first < length sectors) (order : turned first (enumerate_from 0 sectors) ≡ xs ++ t ∷ ys) where
  found_in_ring : IsFound first sectors (length xs) t
  found_in_ring =
      let n = enumerate_from 0 sectors in
      let lengths = turned_lengths first sectors (omega arith) in
      let d = length (drop first n) in
      let whole = ap length order in
      let sum_left = length-append (drop first n) (take first n) in
      let sum_right = length-append xs (t ∷ ys) in
      let there : get_or (turned first n) (length xs) t ≡ t = ap (λ (zs : List Numbered). get_or zs (length xs) t) order ∙ get_or-append_seam xs t ys t in
      elim (cases_lt (length xs) d) [
        | inl near ↦
            let read : t ≡ get_or n (first + length xs) t = sym there ∙ get_or_append_left (drop first n) (take first n) t (length xs) near ∙ get_or-drop first n (length xs) t in
            found_at first (first + length xs) (length xs) sectors t (omega arith) (inl (refl, omega arith)) read
        | inr far ↦
            let r = length xs - d in
            let sum : length xs ≡ d + r = omega arith in
            let read : t ≡ get_or n r t =
            sym there ∙ ap (λ i. get_or (turned first n) i t) sum ∙ get_or-append-add (drop first n) (take first n) r t ∙ get_or-take first n r t (omega arith) in
            found_at first r (length xs) sectors t (omega arith) (inr (omega arith, omega arith)) read
      ]

  pub number_in_ring : IsAt first (length sectors) (length xs) t.0
  number_in_ring = found_in_ring.number

  -- the number of a sector of a ring is below their number, and the sector is the one of that number
  pub ring_reads : (t.0 < length sectors) × (t.1 ≡ get_or sectors t.0 t.1)
  ring_reads = (elim number_in_ring [ inl at ↦ at.1 | inr at ↦ omega arith ], found_in_ring.reads)

  pub ring_set : (s : Sector) → turned first (enumerate_from 0 (set sectors t.0 s)) ≡ xs ++ (t.0, s) ∷ ys
  ring_set s =
      let n = enumerate_from 0 sectors in
      let many : length n ≡ length sectors = length-enumerate_from 0 sectors in
      let zero_first : 0 + t.0 ≡ t.0 = omega arith in
      ap (turned first) (set_numbered 0 t.0 sectors s ∙ ap (λ (k : ℕ). set n t.0 (k, s)) zero_first)
      ∙ turned_set first (length xs) t.0 n (t.0, s) (omega arith) (subst (λ m. IsAt first m (length xs) t.0) (sym many) number_in_ring)
      ∙ ap (λ (zs : List Numbered). set zs (length xs) (t.0, s)) order
      ∙ set-append_seam xs t ys (t.0, s)

-- The tail changes.
pub ring_tail : (first : ℕ) (sectors : List Sector) (older : List Numbered) (t : Numbered) (blank : List Numbered) (s : Sector) → IsRing first sectors (older ++ t ∷ []) blank → s.erased ≡ false
    → IsRing first (set sectors t.0 s) (older ++ (t.0, s) ∷ []) blank
ring_tail first sectors older t blank s h used =
    let parts = each_front (λ s. s.1.erased ≡ false) older (t ∷ []) h.used in
    record {
      inside = subst (λ k. first < k) (sym (length-set sectors t.0 s)) h.inside;
      order = ring_set first sectors older blank t h.inside (h.order ∙ append_assoc older (t ∷ []) blank) s ∙ sym (append_assoc older ((t.0, s) ∷ []) blank);
      used = each_append _ older ((t.0, s) ∷ []) parts.0 (used, tt);
      unused = h.unused;
      some = h.some;
    }

-- The first erased sector becomes the tail.
pub ring_next : (first : ℕ) (sectors : List Sector) (held : List Numbered) (b : Numbered) (blank : List Numbered) (s : Sector) → IsRing first sectors held (b ∷ blank) → 1 ≤ length blank → s.erased ≡ false
    → IsRing first (set sectors b.0 s) (held ++ (b.0, s) ∷ []) blank
ring_next first sectors held b blank s h some used = record {
  inside = subst (λ k. first < k) (sym (length-set sectors b.0 s)) h.inside;
  order = ring_set first sectors held blank b h.inside h.order s ∙ sym (append_assoc held ((b.0, s) ∷ []) blank);
  used = each_append _ held ((b.0, s) ∷ []) h.used (used, tt);
  unused = h.unused.1;
  some = some;
}

-- The first erased sector stays erased.
pub ring_stays : (first : ℕ) (sectors : List Sector) (held : List Numbered) (b : Numbered) (blank : List Numbered) (s : Sector) → IsRing first sectors held (b ∷ blank) → s.erased ≡ true
    → IsRing first (set sectors b.0 s) held ((b.0, s) ∷ blank)
ring_stays first sectors held b blank s h erased = record {
  inside = subst (λ k. first < k) (sym (length-set sectors b.0 s)) h.inside;
  order = ring_set first sectors held blank b h.inside h.order s;
  used = h.used;
  unused = (erased, h.unused.1);
  some = h.some;
}

-- The oldest sector is erased, and the ring begins after it.
turned_next : (first next : ℕ) (xs : List Numbered) (o : Numbered) (ys : List Numbered) → first < length xs → IsNext first (length xs) next → turned first xs ≡ o ∷ ys → turned next xs ≡ ys ++ o ∷ []
turned_next first next xs o ys inside is order =
    let head : drop first xs ≡ get_or xs first o ∷ drop (suc first) xs = drop-cons xs first o inside in
    let both : get_or xs first o ∷ (drop (suc first) xs ++ take first xs) ≡ o ∷ ys = ap (λ (zs : List Numbered). zs ++ take first xs) (sym head) ∙ order in
    let same : get_or xs first o ≡ o = ap (λ (zs : List Numbered). get_or zs 0 o) both in
    let rest : drop (suc first) xs ++ take first xs ≡ ys = ap (λ (zs : List Numbered). drop 1 zs) both in
    let more : take (suc first) xs ≡ take first xs ++ o ∷ [] = take-suc xs first o inside ∙ ap (λ (s : Numbered). take first xs ++ s ∷ []) same in
    elim is [
      | inl at ↦
          let e : next ≡ suc first = omega arith in
          ap (λ k. turned k xs) e ∙ ap (λ (zs : List Numbered). drop (suc first) xs ++ zs) more ∙ sym (append_assoc (drop (suc first) xs) (take first xs) (o ∷ [])) ∙ ap (λ (zs : List Numbered). zs ++ o ∷ []) rest
      | inr at ↦
          let e : suc first ≡ length xs = omega arith in
          let none : drop (suc first) xs ≡ [] = ap (λ k. drop k xs) e ∙ drop-length xs in
          let all : take (suc first) xs ≡ xs = ap (λ k. take k xs) e ∙ take-length xs in
          let front : take first xs ≡ ys = ap (λ (zs : List Numbered). zs ++ take first xs) (sym none) ∙ rest in
          ap (λ k. turned k xs) at.1 ∙ append-nil xs ∙ sym all ∙ more ∙ ap (λ (zs : List Numbered). zs ++ o ∷ []) front
    ]

pub ring_erase : (first next : ℕ) (sectors : List Sector) (o : Numbered) (held blank : List Numbered) (s : Sector) → IsRing first sectors (o ∷ held) blank → IsNext first (length sectors) next → s.erased ≡ true
    → IsRing next (set sectors o.0 s) held (blank ++ (o.0, s) ∷ [])
ring_erase first next sectors o held blank s h is erased =
    let many : length (set sectors o.0 s) ≡ length sectors = length-set sectors o.0 s in
    let numbers : length (enumerate_from 0 (set sectors o.0 s)) ≡ length (set sectors o.0 s) = length-enumerate_from 0 (set sectors o.0 s) in
    let order = ring_set first sectors [] (held ++ blank) o h.inside h.order s in
    let inside = h.inside in
    let some = h.some in
    let sum = length-append blank ((o.0, s) ∷ []) in
    record {
      inside = elim is [ inl at ↦ omega arith | inr at ↦ omega arith ];
      order =
          turned_next first next (enumerate_from 0 (set sectors o.0 s)) (o.0, s) (held ++ blank) (omega arith) (subst (λ k. IsNext first k next) (sym (numbers ∙ many)) is) order
          ∙ append_assoc held blank ((o.0, s) ∷ []);
      used = h.used.1;
      unused = each_append _ blank ((o.0, s) ∷ []) h.unused (erased, tt);
      some = omega arith;
    }

pub ring_lengths : (first : ℕ) (sectors : List Sector) (held blank : List Numbered) → IsRing first sectors held blank → length held + length blank ≡ length sectors
ring_lengths first sectors held blank h =
    let inside = h.inside in
    let lengths = turned_lengths first sectors (omega arith) in
    let left = length-append (drop first (enumerate_from 0 sectors)) (take first (enumerate_from 0 sectors)) in
    let right = ap length h.order ∙ length-append held blank in
    omega arith

pub at_once : (first many j k l : ℕ) → IsAt first many j k → IsAt first many j l → k ≡ l
at_once first many j k l (inl p) (inl q) = omega arith
at_once first many j k l (inl p) (inr q) = absurd (omega arith)
at_once first many j k l (inr p) (inl q) = absurd (omega arith)
at_once first many j k l (inr p) (inr q) = omega arith
