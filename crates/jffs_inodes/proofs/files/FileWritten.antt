-- A node written over a file of fragments: the cells are spliced and sized as it says.
use Rattle.std.proofs.Common.{◌≡◌, ◌≢◌, ℕ, max, ◌+◌, ◌-◌, ◌<◌, ◌≤◌, true, false, cond, eqb, List, [], ◌∷◌, ◌++◌, Bool, length, map, take, drop, ◌⊎◌, inl, ⊎_elim, Option, Some, None, unwrap_or, refl, sym, ap, subst, ◌∙◌, arith, append_assoc, length-append}
use Rattle.std.specs.List.{filter}
use Rattle.std.proofs.lemmas.Bool.{cases_Bool, cases_lt, eqb-true, eqb-false}
use Rattle.std.proofs.Math.ListN.{drop_of_length-le}
use Rattle.std.proofs.lemmas.List.{append-nil, nil_from_length, length-replicate}
use Rattle.jffs_node.specs.declared.node.Node.{Node}
use Rattle.jffs_node.specs.Record.{dsize, file_max}
use Rattle.jffs_node.proofs.Each.{each_append}
use Rattle.jffs_inodes.specs.declared.fragment.Fragment.{Fragment}
use Rattle.jffs_inodes.specs.Held.{padded_with, spliced_with, sized_with}
use Rattle.jffs_inodes.specs.Fragments.{Fragments, Cell, end_of, laid, AreLaid, AreCut, FitsFile, IsFileAfter, SameCells, before, from, outside, with_node_data, fragment_of}
use Rattle.jffs_inodes.proofs.files.Fragments.{blanks, laid_from_earlier, are_laid_append, laid_append, length-laid, all_before, none_from, parted, front_cells, back_cells}
use Rattle.jffs_inodes.proofs.files.Overwriting.{outside_parts}
use Rattle.jffs_inodes.proofs.files.SameCells.{same_cells}
use Rattle.jffs_inodes.proofs.files.Splitting.{Whole, cut_past}

abbrev pub node_cells : Node → List Cell
node_cells n = map (λ b. Some (b, n.version)) n.bytes

-- a filter keeps the cuts
cut_filtered : (q : ℕ) (test : (ℕ × Fragment) → Bool) (es : Fragments) → AreCut q es → AreCut q (filter test es)
cut_filtered q test [] h = tt
cut_filtered q test (e ∷ es) h = by_test (test e) (cut_filtered q test es h.1)
  where
    by_test : (t : Bool) → AreCut q (filter test es) → AreCut q (cond t (e ∷ filter test es) (filter test es))
    by_test true r = (h.0, r)
    by_test false r = r

module _ (n : Node) (size end after : ℕ) (es : Fragments) (h : AreLaid 0 size es) (cut : AreCut n.offset es)
    (back : AreLaid (n.offset + dsize n) after (from end es)) (rest : laid (n.offset + dsize n) after (from end es) ≡ drop (n.offset + n.rsize) (padded_with None n.offset (laid 0 size es))) where
  front : AreLaid 0 n.offset (before n.offset es)
  front = (parted 0 n.offset size es h cut (omega arith)).front

  middle : AreLaid n.offset after (fragment_of n ++ from end es)
  middle = ⊎_elim
      (λ nothing.
      let zero_long = eqb-true (dsize n) 0 nothing in
      subst (λ t. AreLaid n.offset after (cond t [] ((n.offset, record { bytes = n.bytes; writer = n.version }) ∷ []) ++ from end es)) (sym nothing) (laid_from_earlier n.offset (n.offset + dsize n) after (from end es) (omega arith) back))
      (λ something.
      let some = eqb-false (dsize n) 0 something in
      let low : n.offset ≤ n.offset = omega arith in
      let long : 0 < length n.bytes = omega arith in
      subst (λ t. AreLaid n.offset after (cond t [] ((n.offset, record { bytes = n.bytes; writer = n.version }) ∷ []) ++ from end es)) (sym something) (low, long, back))
      (cases_Bool (eqb (dsize n) 0))

  middle_cells : laid n.offset after (fragment_of n ++ from end es) ≡ node_cells n ++ laid (n.offset + dsize n) after (from end es)
  middle_cells = ⊎_elim
      (λ nothing.
      let zero_long = eqb-true (dsize n) 0 nothing in
      let none : n.bytes ≡ [] = nil_from_length n.bytes zero_long in
      ap (λ t. laid n.offset after (cond t [] ((n.offset, record { bytes = n.bytes; writer = n.version }) ∷ []) ++ from end es)) nothing
      ∙ ap (λ k. laid k after (from end es)) (omega arith)
      ∙ ap (λ (b : List ℕ). map {B = Cell} (λ x. Some (x, n.version)) b ++ laid (n.offset + dsize n) after (from end es)) (sym none))
      (λ something.
      let gap : n.offset - n.offset ≡ 0 = omega arith in
      ap (λ t. laid n.offset after (cond t [] ((n.offset, record { bytes = n.bytes; writer = n.version }) ∷ []) ++ from end es)) something
      ∙ ap (λ k. blanks k ++ (node_cells n ++ laid (n.offset + dsize n) after (from end es))) gap)
      (cases_Bool (eqb (dsize n) 0))

  pub node_data_laid : AreLaid 0 after (with_node_data end n es)
  node_data_laid = are_laid_append 0 n.offset after (before n.offset es) (fragment_of n ++ from end es) front middle

  pub node_data_cells : laid 0 after (with_node_data end n es) ≡ spliced_with None n.offset n.rsize (node_cells n) (laid 0 size es)
  node_data_cells =
      let f = front_cells size n.offset es h cut in
      laid_append 0 n.offset after (before n.offset es) (fragment_of n ++ from end es) front middle
      ∙ ap (λ x. laid 0 n.offset (before n.offset es) ++ x) (middle_cells ∙ ap (λ x. node_cells n ++ x) rest)
      ∙ ap (λ x. x ++ (node_cells n ++ drop (n.offset + n.rsize) (padded_with None n.offset (laid 0 size es)))) (sym f)
      ∙ sym (append_assoc (take n.offset (padded_with None n.offset (laid 0 size es))) (node_cells n) (drop (n.offset + n.rsize) (padded_with None n.offset (laid 0 size es))))

length_padded : (k : ℕ) (c : List Cell) → length (padded_with None k c) ≡ length c + (k - length c)
length_padded k c = length-append c (blanks (k - length c)) ∙ ap (λ n. length c + n) (length-replicate {A = Cell} (k - length c) None)

-- Where no byte after the range moves: the data cover as much as they remove.
module _ (n : Node) (size : ℕ) (es : Fragments) (h : AreLaid 0 size es) (same : dsize n ≡ n.rsize) (cut : AreCut (n.offset + dsize n) es) where
  pub back_stays : AreLaid (n.offset + dsize n) (max (n.offset + dsize n) size) (from (n.offset + dsize n) es)
  back_stays = ⊎_elim
      (λ short. subst (AreLaid (n.offset + dsize n) (max (n.offset + dsize n) size)) (sym (none_from 0 size (n.offset + dsize n) es h (omega arith))) (omega arith))
      (λ long. subst (λ k. AreLaid (n.offset + dsize n) k (from (n.offset + dsize n) es)) (omega arith) ((parted 0 (n.offset + dsize n) size es h cut (omega arith)).back long))
      (cases_lt size (n.offset + dsize n))

  pub rest_stays : laid (n.offset + dsize n) (max (n.offset + dsize n) size) (from (n.offset + dsize n) es) ≡ drop (n.offset + n.rsize) (padded_with None n.offset (laid 0 size es))
  rest_stays =
      let amount = length-laid 0 size es h in
      let padded = length_padded n.offset (laid 0 size es) in
      ⊎_elim
      (λ short.
      let none = none_from 0 size (n.offset + dsize n) es h (omega arith) in
      let gap : max (n.offset + dsize n) size - (n.offset + dsize n) ≡ 0 = omega arith in
      ap (laid (n.offset + dsize n) (max (n.offset + dsize n) size)) none
      ∙ ap blanks gap
      ∙ sym (drop_of_length-le (padded_with None n.offset (laid 0 size es)) {i = n.offset + n.rsize} (omega arith)))
      (λ long.
      let gap : n.offset - length (laid 0 size es) ≡ 0 = omega arith in
      let reach : max (n.offset + dsize n) size ≡ size = omega arith in
      ap (λ k. laid (n.offset + dsize n) k (from (n.offset + dsize n) es)) reach
      ∙ sym (back_cells size (n.offset + dsize n) es h cut long)
      ∙ ap (λ k. drop k (laid 0 size es)) (omega arith)
      ∙ ap (drop (n.offset + n.rsize)) (sym (ap (λ k. laid 0 size es ++ blanks k) gap ∙ append-nil (laid 0 size es))))
      (cases_lt size (n.offset + dsize n))

-- Where the range reaches the end of the file: nothing is after it.
module _ (n : Node) (size : ℕ) (es : Fragments) (h : AreLaid 0 size es) (small : size ≤ file_max) (last : size ≤ n.offset + n.rsize) where
  none_left : from file_max es ≡ []
  none_left = none_from 0 size file_max es h small

  pub back_gone : AreLaid (n.offset + dsize n) (n.offset + dsize n) (from file_max es)
  back_gone = subst (AreLaid (n.offset + dsize n) (n.offset + dsize n)) (sym none_left) (omega arith)

  pub rest_gone : laid (n.offset + dsize n) (n.offset + dsize n) (from file_max es) ≡ drop (n.offset + n.rsize) (padded_with None n.offset (laid 0 size es))
  rest_gone =
      let amount = length-laid 0 size es h in
      let padded = length_padded n.offset (laid 0 size es) in
      let gap : (n.offset + dsize n) - (n.offset + dsize n) ≡ 0 = omega arith in
      ap (laid (n.offset + dsize n) (n.offset + dsize n)) none_left
      ∙ ap blanks gap
      ∙ sym (drop_of_length-le (padded_with None n.offset (laid 0 size es)) {i = n.offset + n.rsize} (omega arith))

-- The data don't reach across the size that the node states.
pub cut_with_node_data : (s end : ℕ) (n : Node) (es : Fragments) → AreCut s es → n.offset + dsize n ≤ s → AreCut s (with_node_data end n es)
cut_with_node_data s end n es h l =
    each_append (λ e. (end_of e ≤ s) ⊎ (s ≤ e.0)) (before n.offset es) (fragment_of n ++ from end es) (cut_filtered s _ es h)
    (each_append (λ e. (end_of e ≤ s) ⊎ (s ≤ e.0)) (fragment_of n) (from end es) (by_test (eqb (dsize n) 0)) (cut_filtered s _ es h))
  where
    by_test : (t : Bool) → AreCut s (cond t [] ((n.offset, record { bytes = n.bytes; writer = n.version }) ∷ []))
    by_test true = tt
    by_test false = (inl l, tt)

-- Cut or grown to a stated size: what is left stands before it.
kept_before : (s size : ℕ) (es : Fragments) → AreLaid 0 size es → size ≤ file_max → s ≤ file_max → outside s file_max es ≡ before s es
kept_before s size es h small low = outside_parts 0 size s file_max es h low ∙ ap (λ x. before s es ++ x) (none_from 0 size file_max es h small) ∙ append-nil (before s es)

pub sized_laid : (s size : ℕ) (es : Fragments) → AreLaid 0 size es → size ≤ file_max → s ≤ file_max → AreCut s es → AreLaid 0 s (outside s file_max es)
sized_laid s size es h small low cut =
    subst (AreLaid 0 s) (sym (kept_before s size es h small low)) (parted 0 s size es h cut (omega arith)).front

pub sized_cells : (s size : ℕ) (es : Fragments) → AreLaid 0 size es → size ≤ file_max → s ≤ file_max → AreCut s es → laid 0 s (outside s file_max es) ≡ sized_with None (Some s) (laid 0 size es)
sized_cells s size es h small low cut =
    ap (laid 0 s) (kept_before s size es h small low) ∙ sym (front_cells size s es h cut)

-- ---- the whole write, in its steps
pub record Spliced (n : Node) (size : ℕ) (es : Fragments) (after : ℕ) (now : Fragments) : Type 0 where
  pub ordered : AreLaid 0 after now
  pub small : after ≤ file_max
  pub cells : laid 0 after now ≡ spliced_with None n.offset n.rsize (node_cells n) (laid 0 size es)

pub spliced_moving : (n : Node) (size : ℕ) (es now : Fragments) → AreLaid 0 size es → FitsFile n size → AreCut n.offset es → dsize n ≢ n.rsize → now ≡ with_node_data file_max n es
    → Spliced n size es (n.offset + dsize n) now
spliced_moving n size es now h fits cut moves is =
    let last = fits.offsets moves in
    let back = back_gone n size es h fits.small last in
    let rest = rest_gone n size es h fits.small last in
    record {
      ordered = subst (AreLaid 0 (n.offset + dsize n)) (sym is) (node_data_laid n size file_max (n.offset + dsize n) es h cut back rest);
      small = fits.node.range;
      cells = ap (laid 0 (n.offset + dsize n)) is ∙ node_data_cells n size file_max (n.offset + dsize n) es h cut back rest;
    }

pub spliced_staying : (n : Node) (size : ℕ) (es now : Fragments) → AreLaid 0 size es → FitsFile n size → AreCut n.offset es → AreCut (n.offset + dsize n) es → dsize n ≡ n.rsize → now ≡ with_node_data (n.offset + dsize n) n es
    → Spliced n size es (max (n.offset + dsize n) size) now
spliced_staying n size es now h fits cut end same is =
    let back = back_stays n size es h same end in
    let rest = rest_stays n size es h same end in
    let after : ℕ = max (n.offset + dsize n) size in
    let low = fits.small in
    let range = fits.node.range in
    record {
      ordered = subst (AreLaid 0 after) (sym is) (node_data_laid n size (n.offset + dsize n) after es h cut back rest);
      small = omega arith;
      cells = ap (laid 0 after) is ∙ node_data_cells n size (n.offset + dsize n) after es h cut back rest;
    }

-- where the range ends: after all fragments where bytes after it would move, else after the data
abbrev pub Ends : Node → ℕ → ℕ → Type 0
Ends n amount end = ((amount ≢ n.rsize) × (end ≡ file_max)) ⊎ ((amount ≡ n.rsize) × (end ≡ n.offset + amount))

pub spliced_either : (n : Node) (size amount end : ℕ) (es now : Fragments) → amount ≡ dsize n → Ends n amount end → AreLaid 0 size es → FitsFile n size → AreCut n.offset es → AreCut end es → now ≡ with_node_data end n es
    → (after : ℕ) × Spliced n size es after now × (after ≤ max (n.offset + dsize n) size)
spliced_either n size amount end es now long ends h fits cut cut_end is = ⊎_elim
    (λ moves. (n.offset + dsize n, spliced_moving n size es now h fits cut (λ same. moves.0 (long ∙ same)) (is ∙ ap (λ k. with_node_data k n es) moves.1), omega arith))
    (λ stays.
    let at : end ≡ n.offset + dsize n = stays.1 ∙ ap (λ k. n.offset + k) long in
    (max (n.offset + dsize n) size, spliced_staying n size es now h fits cut (subst (λ k. AreCut k es) at cut_end) (sym long ∙ stays.0) (is ∙ ap (λ k. with_node_data k n es) at), omega arith))
    ends

pub spliced_moved : (n : Node) (size amount end : ℕ) (es now : Fragments) → amount ≡ dsize n → Ends n amount end → amount ≢ n.rsize → AreLaid 0 size es → FitsFile n size → AreCut n.offset es → now ≡ with_node_data end n es
    → Spliced n size es (n.offset + amount) now
spliced_moved n size amount end es now long ends apart h fits cut is = ⊎_elim
    (λ moves. subst (λ k. Spliced n size es (n.offset + k) now) (sym long) (spliced_moving n size es now h fits cut (λ same. moves.0 (long ∙ same)) (is ∙ ap (λ k. with_node_data k n es) moves.1)))
    (λ stays. absurd (apart stays.0))
    ends

pub spliced_stayed : (n : Node) (size amount end : ℕ) (es now : Fragments) → amount ≡ dsize n → Ends n amount end → amount ≡ n.rsize → AreLaid 0 size es → FitsFile n size → AreCut n.offset es → AreCut end es → now ≡ with_node_data end n es
    → Spliced n size es (max (n.offset + amount) size) now
spliced_stayed n size amount end es now long ends same h fits cut cut_end is = ⊎_elim
    (λ moves. absurd (moves.0 same))
    (λ stays.
    let at : end ≡ n.offset + dsize n = stays.1 ∙ ap (λ k. n.offset + k) long in
    subst (λ k. Spliced n size es (max (n.offset + k) size) now) (sym long)
    (spliced_staying n size es now h fits cut (subst (λ k. AreCut k es) at cut_end) (sym long ∙ stays.0) (is ∙ ap (λ k. with_node_data k n es) at)))
    ends

pub file_plain : (n : Node) (size after : ℕ) (was cut now : Fragments) → SameCells was cut → AreLaid 0 size was → Spliced n size cut after now → n.size ≡ None → IsFileAfter n size was after now
file_plain n size after was cut now same h s none = record {
  ordered = s.ordered;
  small = s.small;
  cells = s.cells
      ∙ ap (spliced_with None n.offset n.rsize (node_cells n)) (same.cells size h)
      ∙ ap (λ (o : Option ℕ). sized_with None o (spliced_with None n.offset n.rsize (node_cells n) (laid 0 size was))) (sym none);
}

pub file_stated : (n : Node) (size after stated : ℕ) (was cut now last : Fragments) → SameCells was cut → AreLaid 0 size was → Spliced n size cut after now → n.size ≡ Some stated → stated ≤ file_max → AreCut stated now
    → last ≡ outside stated file_max now → IsFileAfter n size was stated last
file_stated n size after stated was cut now last same h s some low at is = record {
  ordered = subst (AreLaid 0 stated) (sym is) (sized_laid stated after now s.ordered s.small low at);
  small = low;
  cells = ap (laid 0 stated) is
      ∙ sized_cells stated after now s.ordered s.small low at
      ∙ ap (sized_with None (Some stated)) (s.cells ∙ ap (spliced_with None n.offset n.rsize (node_cells n)) (same.cells size h))
      ∙ ap (λ (o : Option ℕ). sized_with None o (spliced_with None n.offset n.rsize (node_cells n) (laid 0 size was))) (sym some);
}

-- A stated size that the file doesn't exceed takes nothing out.
pub file_within : (n : Node) (size after stated : ℕ) (was cut now : Fragments) → SameCells was cut → AreLaid 0 size was → Spliced n size cut after now → n.size ≡ Some stated → stated ≤ file_max → after ≤ stated
    → IsFileAfter n size was stated now
file_within n size after stated was cut now same h s some low long =
    file_stated n size after stated was cut now now same h s some low (cut_past 0 after stated now s.ordered long) (sym (kept_before stated after now s.ordered s.small low ∙ all_before 0 after stated now s.ordered long))

-- Where the data stand for one fragment of their range, the rest of the file stays.
pub file_replaced : (n : Node) (size after : ℕ) (f : Fragment) (was now : Fragments) → AreLaid 0 size was → FitsFile n size → Whole size n.offset f was → length f.bytes ≡ dsize n → dsize n ≡ n.rsize
    → now ≡ with_node_data (n.offset + dsize n) n was → after ≡ unwrap_or n.size size → size ≤ after → IsFileAfter n size was after now
file_replaced n size after f was now h fits there long same is stated grown = by_size n.size refl stated
  where
    spliced : Spliced n size was (max (n.offset + dsize n) size) now
    spliced = spliced_staying n size was now h fits there.first (subst (λ k. AreCut (n.offset + k) was) long there.end) same is

    by_size : (o : Option ℕ) → n.size ≡ o → after ≡ unwrap_or o size → IsFileAfter n size was after now
    by_size None none all =
        let inside = there.fits in
        let reach : max (n.offset + dsize n) size ≡ after = omega arith in
        file_plain n size after was was now (same_cells was) h (subst (λ k. Spliced n size was k now) reach spliced) none
    by_size (Some k) some all =
        let inside = there.fits in
        let low : k ≤ file_max = subst (λ (o : Option ℕ). unwrap_or o 0 ≤ file_max) some fits.node.size in
        subst (λ s. IsFileAfter n size was s now) (sym all)
        (file_within n size (max (n.offset + dsize n) size) k was was now (same_cells was) h spliced some low (omega arith))
