-- Fragments laid one after another, cut at an offset, and what stands before it and from it on.
use Rattle.std.proofs.Common.{◌≡◌, ℕ, ◌+◌, ◌-◌, ◌<◌, ◌≤◌, cond, List, [], ◌∷◌, ◌++◌, length, take, drop, replicate, ⊎_elim, Some, None, refl, sym, ap, subst, ◌∙◌, arith, append_assoc, length-append}
use Rattle.std.proofs.Math.Seq.{take-append_seam, drop-append_seam, take-length}
use Rattle.std.proofs.lemmas.Bool.{cases_lt, lt-ltb, le-ltb, le-leb, lt-leb}
use Rattle.std.proofs.lemmas.List.{length-map, length-replicate, append-nil, replicate-append-replicate}
use Rattle.jffs_inodes.specs.Held.{padded_with}
use Rattle.jffs_inodes.specs.declared.fragment.Fragment.{Fragment}
use Rattle.jffs_inodes.specs.Fragments.{Fragments, Cell, cells_of, end_of, laid, AreLaid, AreCut, before, from}

-- None reaches past the size.
pub laid_bound : (at size : ℕ) (es : Fragments) → AreLaid at size es → at ≤ size
laid_bound at size [] h = h
laid_bound at size (e ∷ es) h = omega (arith, laid_bound (end_of e) size es h.2, h.0)

-- None begins before the offset from which they are laid.
begins_from : (at size p : ℕ) (e : ℕ × Fragment) (es : Fragments) → AreLaid at size (e ∷ es) → p ≤ at → p ≤ e.0
begins_from at size p e es h l = omega (arith, h.0)

-- cells of bytes that no fragment holds
abbrev pub blanks : ℕ → List Cell
blanks n = replicate n None

pub laid_start : (at p size : ℕ) (es : Fragments) → at ≤ p → AreLaid p size es → laid at size es ≡ blanks (p - at) ++ laid p size es
laid_start at p size [] l h =
    let e = replicate-append-replicate {A = Cell} (p - at) (size - p) None in
    let n : (p - at) + (size - p) ≡ size - at = omega arith in
    ap blanks (sym n) ∙ sym e
laid_start at p size (e ∷ es) l h =
    let r = replicate-append-replicate {A = Cell} (p - at) (e.0 - p) None in
    let n : (p - at) + (e.0 - p) ≡ e.0 - at = omega (arith, h.0) in
    ap (λ k. blanks k ++ (cells_of e.1 ++ laid (end_of e) size es)) (sym n)
    ∙ ap (λ x. x ++ (cells_of e.1 ++ laid (end_of e) size es)) (sym r)
    ∙ append_assoc (blanks (p - at)) (blanks (e.0 - p)) (cells_of e.1 ++ laid (end_of e) size es)

pub laid_from_earlier : (at p size : ℕ) (es : Fragments) → at ≤ p → AreLaid p size es → AreLaid at size es
laid_from_earlier at p size [] l h = let k : p ≤ size = h in omega arith
laid_from_earlier at p size (e ∷ es) l h = (begins_from p size at e es h l, h.1, h.2)

pub are_laid_append : (at p size : ℕ) (a b : Fragments) → AreLaid at p a → AreLaid p size b → AreLaid at size (a ++ b)
are_laid_append at p size [] b h k = laid_from_earlier at p size b h k
are_laid_append at p size (e ∷ a) b h k = (h.0, h.1, are_laid_append (end_of e) p size a b h.2 k)

pub laid_append : (at p size : ℕ) (a b : Fragments) → AreLaid at p a → AreLaid p size b → laid at size (a ++ b) ≡ laid at p a ++ laid p size b
laid_append at p size [] b h k = laid_start at p size b h k
laid_append at p size (e ∷ a) b h k =
    let r = laid_append (end_of e) p size a b h.2 k in
    ap (λ x. blanks (e.0 - at) ++ (cells_of e.1 ++ x)) r
    ∙ ap (λ x. blanks (e.0 - at) ++ x) (sym (append_assoc (cells_of e.1) (laid (end_of e) p a) (laid p size b)))
    ∙ sym (append_assoc (blanks (e.0 - at)) (cells_of e.1 ++ laid (end_of e) p a) (laid p size b))

pub length_cells : (f : Fragment) → length (cells_of f) ≡ length f.bytes
length_cells f = length-map f.bytes (λ (x : ℕ). Some (x, f.writer))

pub length-laid : (at size : ℕ) (es : Fragments) → AreLaid at size es → length (laid at size es) + at ≡ size
length-laid at size [] h = let l = length-replicate {A = Cell} (size - at) None in omega arith
length-laid at size (e ∷ es) h =
    let a = length-append (blanks (e.0 - at)) (cells_of e.1 ++ laid (end_of e) size es) in
    let b = length-append (cells_of e.1) (laid (end_of e) size es) in
    let c = length-replicate {A = Cell} (e.0 - at) None in
    omega (arith, length_cells e.1, length-laid (end_of e) size es h.2, h.0)

-- A larger file has a hole at its end.
pub are_laid_grown : (at size more : ℕ) (es : Fragments) → AreLaid at size es → size ≤ more → AreLaid at more es
are_laid_grown at size more [] h l = omega arith
are_laid_grown at size more (e ∷ es) h l = (h.0, h.1, are_laid_grown (end_of e) size more es h.2 l)

pub laid_grown : (at size more : ℕ) (es : Fragments) → AreLaid at size es → size ≤ more → laid at more es ≡ laid at size es ++ blanks (more - size)
laid_grown at size more es h l = ap (laid at more) (sym (append-nil es)) ∙ laid_append at size more es [] h l

-- Fragments from p on: all of them are from p on, and none is before it.
pub none_before : (at size p : ℕ) (es : Fragments) → AreLaid at size es → p ≤ at → before p es ≡ []
none_before at size p [] h l = refl
none_before at size p (e ∷ es) h l =
    let low = begins_from at size p e es h l in
    ap (λ b. cond b (e ∷ before p es) (before p es)) (le-ltb e.0 p low) ∙ none_before (end_of e) size p es h.2 (omega arith)

pub all_from : (at size p : ℕ) (es : Fragments) → AreLaid at size es → p ≤ at → from p es ≡ es
all_from at size p [] h l = refl
all_from at size p (e ∷ es) h l =
    let low = begins_from at size p e es h l in
    ap (λ b. cond b (e ∷ from p es) (from p es)) (le-leb p e.0 low) ∙ ap (λ x. e ∷ x) (all_from (end_of e) size p es h.2 (omega arith))

-- Each begins before the size, and from there on there are none.
pub begins_within : (at size : ℕ) (e : ℕ × Fragment) (es : Fragments) → AreLaid at size (e ∷ es) → e.0 < size
begins_within at size e es h = omega (arith, laid_bound (end_of e) size es h.2, h.1)

pub all_before : (at size p : ℕ) (es : Fragments) → AreLaid at size es → size ≤ p → before p es ≡ es
all_before at size p [] h l = refl
all_before at size p (e ∷ es) h l =
    ap (λ b. cond b (e ∷ before p es) (before p es)) (lt-ltb e.0 p (omega (arith, begins_within at size e es h))) ∙ ap (λ x. e ∷ x) (all_before (end_of e) size p es h.2 l)

pub none_from : (at size p : ℕ) (es : Fragments) → AreLaid at size es → size ≤ p → from p es ≡ []
none_from at size p [] h l = refl
none_from at size p (e ∷ es) h l =
    ap (λ b. cond b (e ∷ from p es) (from p es)) (lt-leb p e.0 (omega (arith, begins_within at size e es h))) ∙ none_from (end_of e) size p es h.2 l

-- Cut at p, fragments fall into those before p and those from p on.
pub record Parted (at p size : ℕ) (es : Fragments) : Type 0 where
  pub whole : es ≡ before p es ++ from p es
  pub front : AreLaid at p (before p es)
  pub back : p ≤ size → AreLaid p size (from p es)

pub parted : (at p size : ℕ) (es : Fragments) → AreLaid at size es → AreCut p es → at ≤ p → Parted at p size es
parted at p size [] h c l = record { whole = refl; front = l; back = λ k. k }
parted at p size (e ∷ es) h c l = ⊎_elim
    (λ ends.
    let r = parted (end_of e) p size es h.2 c.1 ends in
    let less : e.0 < p = omega (arith, ends, h.1) in
    let f : before p (e ∷ es) ≡ e ∷ before p es = ap (λ b. cond b (e ∷ before p es) (before p es)) (lt-ltb e.0 p less) in
    let g : from p (e ∷ es) ≡ from p es = ap (λ b. cond b (e ∷ from p es) (from p es)) (lt-leb p e.0 less) in
    let w : AreLaid at p (e ∷ before p es) = (h.0, h.1, r.front) in
    record {
      whole = ap (λ x. e ∷ x) r.whole ∙ ap (λ x. x ++ from p es) (sym f) ∙ ap (λ x. before p (e ∷ es) ++ x) (sym g);
      front = subst (AreLaid at p) (sym f) w;
      back = λ k. subst (AreLaid p size) (sym g) (r.back k);
    })
    (λ begins.
    let here : AreLaid p size (e ∷ es) = (begins, h.1, h.2) in
    let f = none_before p size p (e ∷ es) here (omega arith) in
    let g = all_from p size p (e ∷ es) here (omega arith) in
    record {
      whole = sym g ∙ ap (λ x. x ++ from p (e ∷ es)) (sym f);
      front = subst (AreLaid at p) (sym f) l;
      back = λ k. subst (AreLaid p size) (sym g) here;
    })
    c.0

-- What stands before p, with zeros up to it, and what stands from q on.
pub front_cells : (size p : ℕ) (es : Fragments) → AreLaid 0 size es → AreCut p es → take p (padded_with None p (laid 0 size es)) ≡ laid 0 p (before p es)
front_cells size p es h c =
    let n = length-laid 0 size es h in
    let parts = parted 0 p size es h c (omega arith) in
    let m = length-laid 0 p (before p es) parts.front in
    ⊎_elim
    (λ short.
    let gap : p - length (laid 0 size es) ≡ p - size = omega arith in
    let grown = laid_grown 0 size p es h (omega arith) in
    let all = all_before 0 size p es h (omega arith) in
    let full : laid 0 size es ++ blanks (p - length (laid 0 size es)) ≡ laid 0 p (before p es) =
    ap (λ k. laid 0 size es ++ blanks k) gap ∙ sym grown ∙ ap (laid 0 p) (sym all) in
    ap (take p) full ∙ ap (λ k. take k (laid 0 p (before p es))) (omega arith) ∙ take-length (laid 0 p (before p es)))
    (λ long.
    let gap : p - length (laid 0 size es) ≡ 0 = omega arith in
    let split : laid 0 size es ≡ laid 0 p (before p es) ++ laid p size (from p es) =
    ap (laid 0 size) parts.whole ∙ laid_append 0 p size (before p es) (from p es) parts.front (parts.back long) in
    let full : laid 0 size es ++ blanks (p - length (laid 0 size es)) ≡ laid 0 p (before p es) ++ laid p size (from p es) =
    ap (λ k. laid 0 size es ++ blanks k) gap ∙ append-nil (laid 0 size es) ∙ split in
    ap (take p) full ∙ ap (λ k. take k (laid 0 p (before p es) ++ laid p size (from p es))) (omega arith) ∙ take-append_seam (laid 0 p (before p es)) (laid p size (from p es)))
    (cases_lt size p)

pub back_cells : (size q : ℕ) (es : Fragments) → AreLaid 0 size es → AreCut q es → q ≤ size → drop q (laid 0 size es) ≡ laid q size (from q es)
back_cells size q es h c l =
    let parts = parted 0 q size es h c (omega arith) in
    let m = length-laid 0 q (before q es) parts.front in
    let split : laid 0 size es ≡ laid 0 q (before q es) ++ laid q size (from q es) =
    ap (laid 0 size) parts.whole ∙ laid_append 0 q size (before q es) (from q es) parts.front (parts.back l) in
    ap (drop q) split ∙ ap (λ k. drop k (laid 0 q (before q es) ++ laid q size (from q es))) (omega arith) ∙ drop-append_seam (laid 0 q (before q es)) (laid q size (from q es))
