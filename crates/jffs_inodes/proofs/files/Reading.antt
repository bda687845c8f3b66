-- What fragments say of a file's bytes: those of the fragment that holds an offset, or zeros.
use Rattle.std.proofs.Common.{◌≡◌, ℕ, zero, suc, ◌+◌, ◌-◌, ◌<◌, ◌≤◌, Bool, true, false, cond, not, ◌&&◌, leb, ltb, List, [], ◌∷◌, ◌++◌, length, get_or, map, take, drop, replicate, is_some, ◌⊎◌, inl, inr, ⊎_elim, Some, None, refl, sym, ap, subst, ◌∙◌, arith, append_assoc, length-append, length-take, length-drop, nat_cmp}
use Rattle.std.specs.List.{AllByRecursion, list_all}
use Rattle.std.specs.Map.{lookup}
use Rattle.std.specs.BTreeMap.{is_at}
use Rattle.std.proofs.Math.Seq.{take-append_seam, drop-append_seam, take-add}
use Rattle.std.proofs.lemmas.Bool.{cases_Bool, cases_lt}
use Rattle.std.proofs.lemmas.List.{length-map, length-replicate, length-take-le, map-append, drop-append-le, drop-drop, take-append-drop, replicate-append-replicate, get_or-append_right, get_or_append_left, get_or-replicate, get_or_past}
use Rattle.std.proofs.lemmas.Slice.{drop-append-drop}
use borrow.Rule.Slice.PartMut.{put_mid}
use Rattle.jffs_node.proofs.Each.{each_append, each_front}
use Rattle.jffs_inodes.specs.declared.fragment.Fragment.{Fragment}
use Rattle.jffs_inodes.specs.Fragments.{Fragments, Cell, byte_of, writer_of, cells_of, end_of, laid, AreLaid, NoneHolds, Says, outside}
use Rattle.jffs_inodes.proofs.files.Counted.{bytes_of_cells, writers_of_cells}
use Rattle.jffs_inodes.proofs.files.Fragments.{blanks, length_cells, laid_bound, laid_append, length-laid}
use Rattle.jffs_inodes.proofs.files.Splitting.{AllFrom, LastBefore, found, laid_parts}
use Rattle.jffs_inodes.proofs.files.Taking.{drop_within}

-- ---- where no fragment is
pub none_holds_from : (p : ℕ) (es : Fragments) → AllFrom (p + 1) es → NoneHolds p es
none_holds_from p [] h = tt
none_holds_from p (e ∷ es) h = (inr (omega (arith, h.0)), none_holds_from p es h.1)

none_holds_past : (at size p : ℕ) (es : Fragments) → AreLaid at size es → size ≤ p → NoneHolds p es
none_holds_past at size p [] h l = tt
none_holds_past at size p (e ∷ es) h l = let b = laid_bound (end_of e) size es h.2 in (inl (omega arith), none_holds_past (end_of e) size p es h.2 l)

-- The last fragment that begins at p or before it ends there or before it: none holds p.
pub held_by_last : (size p k : ℕ) (f : Fragment) (es : Fragments) → AreLaid 0 size es → LastBefore (p + 1) k f es → k + length f.bytes ≤ p → NoneHolds p es
held_by_last size p k f es h l short =
    subst (NoneHolds p) (sym l.at.whole)
    (each_append (λ e. (end_of e ≤ p) ⊎ (p < e.0)) l.at.front ((k, f) ∷ l.at.back) (none_holds_past 0 k p l.at.front (laid_parts size l.at h).0 (omega arith)) (inl short, none_holds_from p l.at.back l.later))

-- A fragment that begins at p or later, where none holds p, begins later.
pub begins_later : (size p k : ℕ) (f : Fragment) (es : Fragments) → AreLaid 0 size es → NoneHolds p es → lookup (is_at (nat_cmp k)) es ≡ Some f → p ≤ k → p < k
begins_later size p k f es h none is low =
    let at = found k f es is in
    let split = each_front (λ e. (end_of e ≤ p) ⊎ (p < e.0)) at.front ((k, f) ∷ at.back) (subst (NoneHolds p) at.whole none) in
    ⊎_elim (λ ends. omega (arith, (laid_parts size at h).1)) (λ later. later) split.1.0

-- no fragment holds an offset from p on and before r
abbrev pub IsClear : ℕ → ℕ → Fragments → Type 0
IsClear p r es = AllByRecursion (λ e. (end_of e ≤ p) ⊎ (r ≤ e.0)) es

length_outside : (p q : ℕ) (es : Fragments) → length (outside p q es) ≤ length es
length_outside p q [] = omega arith
length_outside p q (e ∷ es) = by_test (not (leb p e.0 && ltb e.0 q)) (length_outside p q es)
  where
    by_test : (b : Bool) → length (outside p q es) ≤ length es → length (cond b (e ∷ outside p q es) (outside p q es)) ≤ length (e ∷ es)
    by_test true r = omega arith
    by_test false r = omega arith

stays_outside : (p q : ℕ) (e : ℕ × Fragment) (es : Fragments) → outside p q (e ∷ es) ≡ e ∷ es → not (leb p e.0 && ltb e.0 q) ≡ true
stays_outside p q e es h = ⊎_elim
    (λ stays. stays)
    (λ goes.
    let n : length (outside p q es) ≡ length (e ∷ es) = ap length (sym (ap (λ b. cond b (e ∷ outside p q es) (outside p q es)) goes) ∙ h) in
    let m = length_outside p q es in
    absurd (omega arith))
    (cases_Bool (not (leb p e.0 && ltb e.0 q)))

rest_outside : (p q : ℕ) (e : ℕ × Fragment) (es : Fragments) → outside p q (e ∷ es) ≡ e ∷ es → outside p q es ≡ es
rest_outside p q e es h =
    let r : e ∷ outside p q es ≡ e ∷ es = sym (ap (λ b. cond b (e ∷ outside p q es) (outside p q es)) (stays_outside p q e es h)) ∙ h in
    cc

pub clear : (p q : ℕ) (es : Fragments) → NoneHolds p es → outside p q es ≡ es → IsClear p q es
clear p q [] none h = tt
clear p q (e ∷ es) none h = (
  ⊎_elim
      (λ ends. inl ends)
      (λ later. ⊎_elim
      (λ before.
      let t : true ≡ false = sym (stays_outside p q e es h) ∙ drop_within p q e.0 (omega arith) before in
      absurd (different t))
      (λ past. inr past)
      (cases_lt e.0 q))
      none.0,
  clear p q es none.1 (rest_outside p q e es h),
)
  where
    different : true ≡ false → ⊥
    different t = cc

pub clear_here : (p : ℕ) (es : Fragments) → NoneHolds p es → IsClear p (p + 1) es
clear_here p [] none = tt
clear_here p (e ∷ es) none = (⊎_elim (λ ends. inl ends) (λ later. inr (omega arith)) none.0, clear_here p es none.1)

-- ---- the cells around a fragment and around a hole
pub record Beside {A : Type 0} (at : ℕ) (part whole : List A) : Type 0 where
  pub front : List A
  pub back : List A
  pub parts : whole ≡ front ++ (part ++ back)
  pub before : length front ≡ at

pub beside_fragment : (size k : ℕ) (f : Fragment) (es : Fragments) → AreLaid 0 size es → lookup (is_at (nat_cmp k)) es ≡ Some f → Beside k (cells_of f) (laid 0 size es)
beside_fragment size k f es h is =
    let at = found k f es is in
    let parts = laid_parts size at h in
    let here : k ≤ k = omega arith in
    let gap : k - k ≡ 0 = omega arith in
    let n = length-laid 0 k at.front parts.0 in
    record {
      front = laid 0 k at.front;
      back = laid (k + length f.bytes) size at.back;
      parts = ap (laid 0 size) at.whole
          ∙ laid_append 0 k size at.front ((k, f) ∷ at.back) parts.0 (here, parts.1, parts.2)
          ∙ ap (λ x. laid 0 k at.front ++ (blanks x ++ (cells_of f ++ laid (k + length f.bytes) size at.back))) gap;
      before = omega arith;
    }

three_blanks : (a b c n : ℕ) → a + (b + c) ≡ n → blanks n ≡ blanks a ++ (blanks b ++ blanks c)
three_blanks a b c n e =
    ap blanks (sym e)
    ∙ sym (replicate-append-replicate {A = Cell} a (b + c) None)
    ∙ ap (λ x. blanks a ++ x) (sym (replicate-append-replicate {A = Cell} b c None))

pub beside_hole : (at size p r : ℕ) (es : Fragments) → AreLaid at size es → IsClear p r es → at ≤ p → p ≤ r → r ≤ size → Beside (p - at) (blanks (r - p)) (laid at size es)
beside_hole at size p r [] h clear low some high =
    record {
      front = blanks (p - at);
      back = blanks (size - r);
      parts = three_blanks (p - at) (r - p) (size - r) (size - at) (omega arith);
      before = length-replicate {A = Cell} (p - at) None;
    }
beside_hole at size p r (e ∷ es) h clear low some high = ⊎_elim
    (λ ends.
    let rest = beside_hole (end_of e) size p r es h.2 clear.1 ends some high in
    let blank = blanks (e.0 - at) in
    let n = length-append blank (cells_of e.1 ++ rest.front) in
    let m = length-append (cells_of e.1) rest.front in
    let o = length-replicate {A = Cell} (e.0 - at) None in
    record {
      front = blank ++ (cells_of e.1 ++ rest.front);
      back = rest.back;
      parts = ap (λ x. blank ++ (cells_of e.1 ++ x)) rest.parts
          ∙ ap (λ x. blank ++ x) (sym (append_assoc (cells_of e.1) rest.front (blanks (r - p) ++ rest.back)))
          ∙ sym (append_assoc blank (cells_of e.1 ++ rest.front) (blanks (r - p) ++ rest.back));
      before = omega (arith, length_cells e.1, h.0, rest.before);
    })
    (λ begins.
    let rest = cells_of e.1 ++ laid (end_of e) size es in
    let a = blanks (p - at) in
    let b = blanks (r - p) in
    let c = blanks (e.0 - r) in
    record {
      front = a;
      back = c ++ rest;
      parts = ap (λ x. x ++ rest) (three_blanks (p - at) (r - p) (e.0 - r) (e.0 - at) (omega arith))
          ∙ append_assoc a (b ++ c) rest
          ∙ ap (λ x. a ++ x) (append_assoc b c rest);
      before = length-replicate {A = Cell} (p - at) None;
    })
    clear.0

-- a hole in a whole file
hole_cells : (size p n : ℕ) (es : Fragments) → AreLaid 0 size es → IsClear p (p + n) es → p + n ≤ size → Beside p (blanks n) (laid 0 size es)
hole_cells size p n es h free high =
    let start : p - 0 ≡ p = omega arith in
    let gap : p + n - p ≡ n = omega arith in
    subst (λ k. Beside k (blanks n) (laid 0 size es)) start
    (subst (λ k. Beside (p - 0) (blanks k) (laid 0 size es)) gap (beside_hole 0 size p (p + n) es h free (omega arith) (omega arith) high))

-- ---- bytes
-- what stands beside others, read where it stands
part_stands : (at : ℕ) (part whole : List ℕ) → Beside at part whole → take (length part) (drop at whole) ≡ part
part_stands at part whole b =
    ap (λ x. take (length part) (drop at x)) b.parts
    ∙ ap (λ k. take (length part) (drop k (b.front ++ (part ++ b.back)))) (sym b.before)
    ∙ ap (λ x. take (length part) x) (drop-append_seam b.front (part ++ b.back))
    ∙ take-append_seam part b.back

bytes_of_blanks : (n : ℕ) → map byte_of (blanks n) ≡ replicate n 0
bytes_of_blanks zero = refl
bytes_of_blanks (suc n) = ap (λ x. 0 ∷ x) (bytes_of_blanks n)

-- What stands beside others as cells does so as bytes.
bytes_beside : (at : ℕ) (part whole : List Cell) (bytes : List ℕ) → map byte_of part ≡ bytes → Beside at part whole → Beside at bytes (map byte_of whole)
bytes_beside at part whole bytes are b = record {
  front = map byte_of b.front;
  back = map byte_of b.back;
  parts = ap (map byte_of) b.parts
      ∙ map-append byte_of b.front (part ++ b.back)
      ∙ ap (λ x. map byte_of b.front ++ x) (map-append byte_of part b.back ∙ ap (λ x. x ++ map byte_of b.back) are);
  before = length-map b.front byte_of ∙ b.before;
}

fragment_bytes : (size k : ℕ) (f : Fragment) (es : Fragments) → AreLaid 0 size es → lookup (is_at (nat_cmp k)) es ≡ Some f → Beside k f.bytes (map byte_of (laid 0 size es))
fragment_bytes size k f es h is = bytes_beside k (cells_of f) (laid 0 size es) f.bytes (bytes_of_cells f.writer f.bytes) (beside_fragment size k f es h is)

-- the first bytes of a fragment from an offset within it on
pub says_fragment : (k at : ℕ) (f : Fragment) (es : Fragments) → lookup (is_at (nat_cmp k)) es ≡ Some f → k ≤ at → at < k + length f.bytes → (n : ℕ) → Says es at (take n (drop (at - k) f.bytes))
says_fragment k at f es is low high n = λ size h fits.
    let b = fragment_bytes size k f es h is in
    let early = take (at - k) f.bytes in
    let late = drop (at - k) f.bytes in
    let cut : f.bytes ≡ early ++ (take n late ++ drop n late) =
    sym (take-append-drop (at - k) f.bytes) ∙ ap (λ (x : List ℕ). early ++ x) (sym (take-append-drop n late)) in
    part_stands at (take n late) (map byte_of (laid 0 size es))
    (record {
      front = b.front ++ early;
      back = drop n late ++ b.back;
      parts = b.parts
          ∙ ap (λ (x : List ℕ). b.front ++ (x ++ b.back)) cut
          ∙ ap (λ (x : List ℕ). b.front ++ x) (append_assoc early (take n late ++ drop n late) b.back ∙ ap (λ (x : List ℕ). early ++ x) (append_assoc (take n late) (drop n late) b.back))
          ∙ sym (append_assoc b.front early (take n late ++ (drop n late ++ b.back)));
      before = omega (arith, length-append b.front early, length-take (at - k) f.bytes, b.before);
    })

-- All bytes of a fragment stand in the file from its first offset on.
pub whole_fragment : (size k : ℕ) (f : Fragment) (es : Fragments) → AreLaid 0 size es → lookup (is_at (nat_cmp k)) es ≡ Some f
    → (k + length f.bytes ≤ size) × (take (length f.bytes) (drop k (map byte_of (laid 0 size es))) ≡ f.bytes)
whole_fragment size k f es h is =
    let b = fragment_bytes size k f es h is in
    let all = length-laid 0 size es h in
    let l = length-map (laid 0 size es) byte_of in
    let n : length (map byte_of (laid 0 size es)) ≡ length (b.front ++ (f.bytes ++ b.back)) = ap length b.parts in
    (omega (arith, length-append b.front (f.bytes ++ b.back), length-append f.bytes b.back, b.before), part_stands k f.bytes (map byte_of (laid 0 size es)) b)

-- zeros in a hole
pub says_hole : (at n : ℕ) (es : Fragments) → IsClear at (at + n) es → Says es at (replicate n 0)
says_hole at n es clear = λ size h fits.
    part_stands at (replicate n 0) (map byte_of (laid 0 size es))
    (bytes_beside at (blanks n) (laid 0 size es) (replicate n 0) (bytes_of_blanks n) (hole_cells size at n es h clear (omega (arith, length-replicate {A = ℕ} n 0))))

-- ---- writers
-- the writer of one of the cells beside others
one_writer : (part whole : List Cell) (k at : ℕ) → Beside k part whole → k ≤ at → at < k + length part → get_or (map writer_of whole) at None ≡ get_or (map writer_of part) (at - k) None
one_writer part whole k at b low high =
    ap (λ x. get_or (map writer_of x) at None) b.parts
    ∙ ap (λ x. get_or x at None) (map-append writer_of b.front (part ++ b.back) ∙ ap (λ x. map writer_of b.front ++ x) (map-append writer_of part b.back))
    ∙ get_or-append_right (map writer_of b.front) (map writer_of part ++ map writer_of b.back) k at None (length-map b.front writer_of ∙ b.before) low
    ∙ get_or_append_left (map writer_of part) (map writer_of b.back) None (at - k) (omega (arith, length-map part writer_of))

pub writer_in_fragment : (size k at : ℕ) (f : Fragment) (es : Fragments) → AreLaid 0 size es → lookup (is_at (nat_cmp k)) es ≡ Some f → k ≤ at → at < k + length f.bytes → get_or (map writer_of (laid 0 size es)) at None ≡ Some f.writer
writer_in_fragment size k at f es h is low high =
    one_writer (cells_of f) (laid 0 size es) k at (beside_fragment size k f es h is) low (omega (arith, length_cells f))
    ∙ ap (λ x. get_or x (at - k) None) (writers_of_cells f.writer f.bytes)
    ∙ get_or-replicate (length f.bytes) (at - k) (Some f.writer) None (omega arith)

pub writer_in_hole : (size at : ℕ) (es : Fragments) → AreLaid 0 size es → NoneHolds at es → at < size → get_or (map writer_of (laid 0 size es)) at None ≡ None
writer_in_hole size at es h none inside =
    let start : at - at ≡ 0 = omega arith in
    one_writer (blanks 1) (laid 0 size es) at at (hole_cells size at 1 es h (clear_here at es none) (omega arith)) (omega arith) (omega arith)
    ∙ ap (λ k. get_or (map writer_of (blanks 1)) k None) start

pub writer_past : (size at : ℕ) (es : Fragments) → AreLaid 0 size es → size ≤ at → get_or (map writer_of (laid 0 size es)) at None ≡ None
writer_past size at es h past =
    let n = length-laid 0 size es h in
    let m = length-map (laid 0 size es) writer_of in
    get_or_past (map writer_of (laid 0 size es)) at None (omega arith)

-- ---- whether all bytes are written
abbrev pub all_written : List Cell → Bool
all_written cs = list_all is_some (map writer_of cs)

written_cells : (v : ℕ) (bs : List ℕ) (rest : List Cell) → all_written (map (λ b. Some (b, v)) bs ++ rest) ≡ all_written rest
written_cells v [] rest = refl
written_cells v (b ∷ bs) rest = written_cells v bs rest

-- What lies before the first fragment is not written.
pub gap_unwritten : (end size k : ℕ) (f : Fragment) (es : Fragments) → end < k → all_written (laid end size ((k, f) ∷ es)) ≡ false
gap_unwritten end size k f es gap =
    let some : k - end ≡ suc (k - end - 1) = omega (arith, gap) in
    ap (λ x. all_written (blanks x ++ (cells_of f ++ laid (k + length f.bytes) size es))) some

pub written_step : (end size k : ℕ) (f : Fragment) (es : Fragments) → k ≡ end → all_written (laid end size ((k, f) ∷ es)) ≡ all_written (laid (end + length f.bytes) size es)
written_step end size k f es same =
    let gap : k - end ≡ 0 = omega arith in
    ap (λ x. all_written (blanks x ++ (cells_of f ++ laid (k + length f.bytes) size es))) gap
    ∙ written_cells f.writer f.bytes (laid (k + length f.bytes) size es)
    ∙ ap (λ x. all_written (laid (x + length f.bytes) size es)) same

-- ---- one more piece read
pub said_next : (es : Fragments) (size start done n : ℕ) (piece : List ℕ) → Says es (start + done) (take n piece) → AreLaid 0 size es → n ≤ length piece → start + done + n ≤ size → take n (drop done (drop start (map byte_of (laid 0 size es)))) ≡ take n piece
said_next es size start done n piece says h some fits =
    let bytes = map byte_of (laid 0 size es) in
    let len = length-take-le n piece some in
    ap (λ x. take n x) (drop-drop done start bytes)
    ∙ ap (λ k. take k (drop (start + done) bytes)) (sym len)
    ∙ says size h (omega arith)

module _ (all old out piece : List ℕ) (done count n : ℕ)
    (read : out ≡ take done all ++ drop done old)
    (fits : count ≤ length old) (there : count ≤ length all) (low : done ≤ count)
    (same_length : length piece ≡ count - done) (some : n ≤ count - done)
    (copied : take n (drop done all) ≡ take n piece)
    (kept : drop n piece ≡ drop n (take (count - done) (drop done out))) where
  so_far : length (take done all) ≡ done
  so_far = length-take-le done all (omega arith)

  rest_of_old : drop done out ≡ drop done old
  rest_of_old = ap (λ x. drop done x) read ∙ drop-append-drop done old (take done all) done (omega arith) so_far

  first_of_all : take done out ≡ take done all
  first_of_all = ap (λ x. take done x) read ∙ ap (λ k. take k (take done all ++ drop done old)) (sym so_far) ∙ take-append_seam (take done all) (drop done old)

  rest_of_piece : drop n piece ++ drop (count - done) (drop done out) ≡ drop (done + n) old
  rest_of_piece =
      let m = count - done in
      let left = drop done old in
      let len = length-drop done old in
      let whole = length-take-le m left (omega arith) in
      ap (λ x. x ++ drop m (drop done out)) kept
      ∙ ap (λ x. drop n (take m x) ++ drop m x) rest_of_old
      ∙ sym (drop-append-le n (take m left) (drop m left) (omega arith))
      ∙ ap (λ x. drop n x) (take-append-drop m left)
      ∙ drop-drop n done old

  pub read_more : put_mid done (count - done) out piece ≡ take (done + n) all ++ drop (done + n) old
  read_more =
      let m = count - done in
      let after = drop m (drop done out) in
      ap (λ x. x ++ (piece ++ after)) first_of_all
      ∙ ap (λ x. take done all ++ (x ++ after)) (sym (take-append-drop n piece))
      ∙ ap (λ x. take done all ++ x) (append_assoc (take n piece) (drop n piece) after)
      ∙ ap (λ x. take done all ++ (take n piece ++ x)) rest_of_piece
      ∙ ap (λ x. take done all ++ (x ++ drop (done + n) old)) (sym copied)
      ∙ sym (append_assoc (take done all) (take n (drop done all)) (drop (done + n) old))
      ∙ ap (λ x. x ++ drop (done + n) old) (sym (take-add done n all))
