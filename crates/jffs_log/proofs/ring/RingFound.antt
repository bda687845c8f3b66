-- Where some sector is erased and the erased ones are one run, the sectors are a ring.
use Rattle.std.proofs.Common.{◌≡◌, ⊎_elim, ℕ, ◌+◌, ◌<◌, ◌≤◌, Bool, true, false, cond, not, ◌&&◌, ◌||◌, leb, List, [], ◌∷◌, ◌++◌, length, take, refl, sym, ap, subst, ◌∙◌, arith, length-append}
use Rattle.std.specs.List.{last_or, list_any, enumerate_from}
use Rattle.std.specs.Prelude.{None}
use Rattle.std.proofs.Math.Seq.{drop-append_seam, take-append_seam}
use Rattle.std.proofs.lemmas.Bool.{and_parts, cases_Bool, leb-true, not-true, not-false}
use Rattle.std.proofs.lemmas.List.{append-nil}
use Rattle.std.proofs.lemmas.List.FromFn.{length-enumerate_from}
use Rattle.jffs_log.specs.Image.{Sector, starts_from, starts, is_erased_option, is_one_run, oldest_of, turned}
use Rattle.jffs_log.specs.Ring.{IsRing}
use Rattle.jffs_log.proofs.ring.Ring.{Numbered, AreUsed, AreBlank, sectors_of, sectors_numbered, last_erased, last_is, last_append}

-- No sector is written right after an erased one.
abbrev pub NoStart : Bool → List Numbered → Type 0
NoStart e [] = Unit {0}
NoStart e (s ∷ xs) = ((e && not s.1.erased) ≡ false) × NoStart s.1.erased xs

no_start_append : (e : Bool) (xs ys : List Numbered) → NoStart e xs → NoStart (last_erased e xs) ys → NoStart e (xs ++ ys)
no_start_append e [] ys h k = k
no_start_append e (s ∷ xs) ys h k = (h.0, no_start_append s.1.erased xs ys h.1 k)

-- the two ways in which the list of starts goes on
start_here : (t : Bool) (k : ℕ) (r : List ℕ) → t ≡ true → cond t (k ∷ r) r ≡ k ∷ r
start_here t k r h = ap (λ b. cond b (k ∷ r) r) h

start_later : (t : Bool) (k : ℕ) (r : List ℕ) → t ≡ false → cond t (k ∷ r) r ≡ r
start_later t k r h = ap (λ b. cond b (k ∷ r) r) h

none_starts : (e : Bool) (k : ℕ) (xs : List Numbered) → starts_from e k (sectors_of xs) ≡ [] → NoStart e xs
none_starts e k [] h = tt
none_starts e k (s ∷ xs) h =
    let r = starts_from s.1.erased (k + 1) (sectors_of xs) in
    let t = e && not s.1.erased in
    ⊎_elim
    (λ (yes : t ≡ true). let wrong : k ∷ r ≡ [] = sym (start_here t k r yes) ∙ h in cc)
    (λ (no : t ≡ false). (no, none_starts s.1.erased (k + 1) xs (sym (start_later t k r no) ∙ h)))
    (cases_Bool t)

-- One sector is written right after an erased one.
pub record OneStart (e : Bool) (k a : ℕ) (xs : List Numbered) : Type 0 where
  pub before : List Numbered
  pub first : Numbered
  pub after : List Numbered
  pub whole : xs ≡ before ++ first ∷ after
  pub number : a ≡ k + length before
  pub none_before : NoStart e before
  pub erased_before : last_erased e before ≡ true
  pub used : first.1.erased ≡ false
  pub none_after : NoStart false after

one_start : (e : Bool) (k a : ℕ) (xs : List Numbered) → starts_from e k (sectors_of xs) ≡ a ∷ [] → OneStart e k a xs
one_start e k a [] h = absurd (cc)
one_start e k a (s ∷ xs) h =
    let r = starts_from s.1.erased (k + 1) (sectors_of xs) in
    let t = e && not s.1.erased in
    ⊎_elim
    (λ (yes : t ≡ true).
    let same : k ∷ r ≡ a ∷ [] = sym (start_here t k r yes) ∙ h in
    let parts = and_parts e (not s.1.erased) yes in
    let used = not-true s.1.erased parts.1 in
    let number : k ≡ a = cc in
    let none : r ≡ [] = cc in
    record {
      before = [];
      first = s;
      after = xs;
      whole = refl;
      number = let z : k ≡ k + 0 = omega arith in sym number ∙ z;
      none_before = tt;
      erased_before = parts.0;
      used = used;
      none_after = subst (λ b. NoStart b xs) used (none_starts s.1.erased (k + 1) xs none);
    })
    (λ (no : t ≡ false).
    let later = one_start s.1.erased (k + 1) a xs (sym (start_later t k r no) ∙ h) in
    let n = later.number in
    record {
      before = s ∷ later.before;
      first = later.first;
      after = later.after;
      whole = ap (λ (ys : List Numbered). s ∷ ys) later.whole;
      number = omega arith;
      none_before = (no, later.none_before);
      erased_before = later.erased_before;
      used = later.used;
      none_after = later.none_after;
    })
    (cases_Bool t)

-- After an erased sector all are erased, where none is written after one.
all_blank : (e : Bool) (xs : List Numbered) → e ≡ true → NoStart e xs → AreBlank xs
all_blank e [] h n = tt
all_blank e (s ∷ xs) h n =
    let erased : s.1.erased ≡ true = not-false s.1.erased (sym (ap (λ b. b && not s.1.erased) h) ∙ n.0) in
    (erased, all_blank s.1.erased xs erased n.1)

any_then_blank : (e : Bool) (xs : List Numbered) → list_any (λ s. s.erased) (sectors_of xs) ≡ true → NoStart e xs → last_erased e xs ≡ true
any_then_blank e [] some n = absurd (cc)
any_then_blank e (s ∷ xs) some n = ⊎_elim
    (λ (yes : s.1.erased ≡ true). end_blank s.1.erased xs yes (all_blank s.1.erased xs yes n.1))
    (λ (no : s.1.erased ≡ false). any_then_blank s.1.erased xs (sym (ap (λ b. b || list_any (λ s. s.erased) (sectors_of xs)) no) ∙ some) n.1)
    (cases_Bool s.1.erased)
  where
    end_blank : (e : Bool) (xs : List Numbered) → e ≡ true → AreBlank xs → last_erased e xs ≡ true
    end_blank e [] h b = h
    end_blank e (s ∷ xs) h b = end_blank s.1.erased xs b.0 b.1

-- Used sectors, and then erased ones.
pub record UsedBlank (xs : List Numbered) : Type 0 where
  pub held : List Numbered
  pub blank : List Numbered
  pub whole : xs ≡ held ++ blank
  pub used : AreUsed held
  pub unused : AreBlank blank

used_blank : (e : Bool) (xs : List Numbered) → NoStart e xs → UsedBlank xs
used_blank e [] n = record { held = []; blank = []; whole = refl; used = tt; unused = tt }
used_blank e (s ∷ xs) n = ⊎_elim
    (λ (yes : s.1.erased ≡ true). record { held = []; blank = s ∷ xs; whole = refl; used = tt; unused = (yes, all_blank s.1.erased xs yes n.1) })
    (λ (no : s.1.erased ≡ false).
    let later = used_blank s.1.erased xs n.1 in
    record {
      held = s ∷ later.held;
      blank = later.blank;
      whole = ap (λ (ys : List Numbered). s ∷ ys) later.whole;
      used = (no, later.used);
      unused = later.unused;
    })
    (cases_Bool s.1.erased)

end_used : (xs : List Numbered) → AreUsed xs → last_erased false xs ≡ false
end_used [] u = refl
end_used (s ∷ xs) u = ap (λ e. last_erased e xs) u.0 ∙ end_used xs u.1

some_blank : (held blank xs : List Numbered) → AreUsed held → xs ≡ held ++ blank → last_erased false xs ≡ true → 1 ≤ length blank
some_blank held [] xs u whole h = let wrong = sym (end_used held u) ∙ ap (last_erased false) (sym (append-nil held) ∙ sym whole) ∙ h in absurd (cc)
some_blank held (b ∷ blank) xs u whole h = omega arith

-- A ring that was found.
pub record FoundRing (sectors : List Sector) : Type 0 where
  pub held : List Numbered
  pub blank : List Numbered
  pub ring : IsRing (oldest_of (starts sectors)) sectors held blank

abbrev numbered : List Sector → List Numbered
numbered sectors = enumerate_from 0 sectors

all_erased : (sectors : List Sector) → list_any (λ s. s.erased) sectors ≡ true → starts sectors ≡ [] → FoundRing sectors
all_erased sectors some none =
    let n = numbered sectors in
    let same = sectors_numbered 0 sectors in
    let e = is_erased_option (last_or None sectors) in
    let starting : NoStart e n = none_starts e 0 n (sym (ap (starts_from e 0) same) ∙ none) in
    let some_numbered : list_any (λ s. s.erased) (sectors_of n) ≡ true = sym (ap (list_any (λ s. s.erased)) same) ∙ some in
    let ending : e ≡ true = ap (λ (xs : List Sector). is_erased_option (last_or None xs)) same ∙ last_is None n ∙ end_any e n some_numbered ∙ any_then_blank e n some_numbered starting in
    let many : length n ≡ length sectors = length-enumerate_from 0 sectors in
    let long : 1 ≤ length sectors = some_long sectors some in
    record {
      held = [];
      blank = n;
      ring = record {
        inside = subst (λ k. oldest_of k < length sectors) (sym none) (omega arith);
        order = ap (λ k. turned (oldest_of k) n) none ∙ append-nil n;
        used = tt;
        unused = all_blank e n ending starting;
        some = omega arith;
      };
    }
  where
    end_any : (e : Bool) (xs : List Numbered) → list_any (λ s. s.erased) (sectors_of xs) ≡ true → last_erased false xs ≡ last_erased e xs
    end_any e [] some = cc
    end_any e (s ∷ xs) some = refl

    some_long : (xs : List Sector) → list_any (λ s. s.erased) xs ≡ true → 1 ≤ length xs
    some_long [] some = absurd (cc)
    some_long (s ∷ xs) some = omega arith

-- a list that is turned to one of its elements
turned_seam : (before after held blank xs : List Numbered) (first : Numbered) (a : ℕ) → xs ≡ before ++ first ∷ after → length before ≡ a → after ++ before ≡ held ++ blank → turned a xs ≡ first ∷ held ++ blank
turned_seam before after held blank xs first a whole at rest =
    ap (turned a) whole
    ∙ ap (λ k. turned k (before ++ first ∷ after)) (sym at)
    ∙ ap (λ (ys : List Numbered). ys ++ take (length before) (before ++ first ∷ after)) (drop-append_seam before (first ∷ after))
    ∙ ap (λ (ys : List Numbered). (first ∷ after) ++ ys) (take-append_seam before (first ∷ after))
    ∙ ap (λ (ys : List Numbered). first ∷ ys) rest

one_written : (sectors : List Sector) (a : ℕ) → starts sectors ≡ a ∷ [] → FoundRing sectors
one_written sectors a one =
    let n = numbered sectors in
    let same = sectors_numbered 0 sectors in
    let e = is_erased_option (last_or None sectors) in
    let o = one_start e 0 a n (sym (ap (starts_from e 0) same) ∙ one) in
    let number = o.number in
    let at : length o.before ≡ a = omega arith in
    -- the last sector, after the first of the log
    let ending : e ≡ last_erased false o.after =
    ap (λ (xs : List Sector). is_erased_option (last_or None xs)) same
    ∙ last_is None n
    ∙ ap (last_erased false) o.whole
    ∙ last_append false o.before (o.first ∷ o.after)
    ∙ ap (λ b. last_erased b o.after) o.used in
    let rest = o.after ++ o.before in
    let none : NoStart false rest = no_start_append false o.after o.before o.none_after (subst (λ b. NoStart b o.before) ending o.none_before) in
    let erased : last_erased false rest ≡ true = last_append false o.after o.before ∙ sym (ap (λ b. last_erased b o.before) ending) ∙ o.erased_before in
    let parts = used_blank false rest none in
    let many : length n ≡ length sectors = length-enumerate_from 0 sectors in
    let sum : length n ≡ length o.before + length (o.first ∷ o.after) = ap length o.whole ∙ length-append o.before (o.first ∷ o.after) in
    record {
      held = o.first ∷ parts.held;
      blank = parts.blank;
      ring = record {
        inside = subst (λ k. oldest_of k < length sectors) (sym one) (omega arith);
        order = ◌∙◌ {c = (o.first ∷ parts.held) ++ parts.blank} (ap (λ k. turned (oldest_of k) n) one) (turned_seam o.before o.after parts.held parts.blank n o.first a o.whole at parts.whole);
        used = (o.used, parts.used);
        unused = parts.unused;
        some = some_blank parts.held parts.blank rest parts.used parts.whole erased;
      };
    }

pub ring_of : (sectors : List Sector) → list_any (λ s. s.erased) sectors ≡ true → is_one_run sectors ≡ true → FoundRing sectors
ring_of sectors some run = by_starts (starts sectors) refl run
  where
    by_starts : (ks : List ℕ) → starts sectors ≡ ks → leb (length ks) 1 ≡ true → FoundRing sectors
    by_starts [] is few = all_erased sectors some is
    by_starts (a ∷ []) is few = one_written sectors a is
    by_starts (a ∷ b ∷ ks) is few = let most = leb-true (length (a ∷ b ∷ ks)) 1 few in absurd (omega arith)
