-- Bytes of a file compared with others, a chunk at a time.
use Rattle.std.proofs.Common.{◌≡◌, ℕ, ◌+◌, ◌-◌, ◌<◌, ◌≤◌, Bool, true, false, not, ◌&&◌, leb, List, ◌++◌, length, min, take, drop, ⊎_elim, refl, sym, ap, ◌∙◌, arith, append_assoc, length-take, length-drop}
use Rattle.std.specs.Str.{bytes_eq}
use Rattle.std.proofs.Math.Seq.{take-append_seam, take-add}
use Rattle.std.proofs.lemmas.Bool.{cases_Bool, le-leb, lt-leb, not-false}
use Rattle.std.proofs.lemmas.List.{length-map, length-take-le, take-append-drop, take-append-le, drop-append-le, drop-drop}
use Rattle.std.proofs.lemmas.Slice.Eq.{bytes_eq-Decides}
use Rattle.jffs_node.specs.Record.{file_max}
use Rattle.jffs_inodes.specs.declared.inode.Inode.TheInside.{Inside}
use Rattle.jffs_inodes.specs.Held.{Entry, Held, is_current}
use Rattle.jffs_inodes.specs.Shown.{held_of, IsLaidOut}
use Rattle.jffs_inodes.specs.Fragments.{laid, byte_of, writer_of}
use Rattle.jffs_inodes.proofs.files.Fragments.{length-laid}

-- An inode's size is the number of its bytes.
pub size_is : (a : Inside) (h : Held) → IsLaidOut a → held_of a ≡ h → a.size ≡ length h.entry.bytes
size_is a h kept seen =
    let n = length-laid 0 a.size a.fragments.entries kept.laid in
    let m = length-map (laid 0 a.size a.fragments.entries) byte_of in
    let same = ap (λ (x : Held). length x.entry.bytes) seen in
    omega arith

-- No file has more writers than bytes.
pub few_writers : (a : Inside) (h : Held) → IsLaidOut a → held_of a ≡ h → length h.writers ≤ file_max
few_writers a h kept seen =
    let n = length-laid 0 a.size a.fragments.entries kept.laid in
    let m = length-map (laid 0 a.size a.fragments.entries) writer_of in
    let same = ap (λ (x : Held). length x.writers) seen in
    let small = kept.small in
    omega (arith, n, m, same, small)

-- a chunk as it was read
pub chunk_read : (all chunk piece : List ℕ) (at count amount : ℕ) → piece ≡ take amount (drop at all) ++ drop amount (take count chunk) → amount ≡ min (length (take count chunk)) (length all - at) → count ≤ length chunk → at + count ≤ length all → take count (piece ++ drop count chunk) ≡ take count (drop at all)
chunk_read all chunk piece at count amount is most fits there =
    let a = length-take-le count chunk fits in
    let b = length-drop at all in
    let whole : amount ≡ count = omega arith in
    let part = take count (drop at all) in
    let over = drop amount (take count chunk) in
    let n = length-take-le count (drop at all) (omega arith) in
    ap (λ x. take count (x ++ drop count chunk)) (is ∙ ap (λ k. take k (drop at all) ++ over) whole)
    ∙ ap (λ x. take count x) (append_assoc part over (drop count chunk))
    ∙ ap (λ k. take k (part ++ (over ++ drop count chunk))) (sym n)
    ∙ take-append_seam part (over ++ drop count chunk)

pub same_further : (all bytes : List ℕ) (offset done count : ℕ) → take done (drop offset all) ≡ take done bytes → take count (drop (offset + done) all) ≡ take count (drop done bytes) → take (done + count) (drop offset all) ≡ take (done + count) bytes
same_further all bytes offset done count so_far next =
    take-add done count (drop offset all)
    ∙ ap (λ x. x ++ take count (drop done (drop offset all))) so_far
    ∙ ap (λ x. take done bytes ++ take count x) (drop-drop done offset all)
    ∙ ap (λ x. take done bytes ++ x) next
    ∙ sym (take-add done count bytes)

-- Where all are the same, so is each chunk.
pub chunk_same : (all bytes : List ℕ) (offset done count : ℕ) → take (length bytes) (drop offset all) ≡ bytes → done + count ≤ length bytes → take count (drop (offset + done) all) ≡ take count (drop done bytes)
chunk_same all bytes offset done count same fits =
    let later = drop (length bytes) (drop offset all) in
    let whole : drop offset all ≡ bytes ++ later = sym (take-append-drop (length bytes) (drop offset all)) ∙ ap (λ x. x ++ later) same in
    let n = length-drop done bytes in
    ap (λ x. take count x) (sym (drop-drop done offset all))
    ∙ ap (λ x. take count (drop done x)) whole
    ∙ ap (λ x. take count x) (drop-append-le done bytes later (omega arith))
    ∙ take-append-le count (drop done bytes) later (omega arith)

-- ---- the test of a chunk
module _ (all bytes chunk piece : List ℕ) (offset done count amount : ℕ)
    (is : piece ≡ take amount (drop (offset + done) all) ++ drop amount (take count chunk))
    (most : amount ≡ min (length (take count chunk)) (length all - (offset + done)))
    (fits : count ≤ length chunk) (within : done + count ≤ length bytes) (there : offset + length bytes ≤ length all) where
  abbrev pub other : Bool
  other = not (bytes_eq (take count (piece ++ drop count chunk)) (take (done + count - done) (drop done bytes)))

  read : take count (piece ++ drop count chunk) ≡ take count (drop (offset + done) all)
  read = chunk_read all chunk piece (offset + done) count amount is most fits (omega arith)

  given : take (done + count - done) (drop done bytes) ≡ take count (drop done bytes)
  given = let same : done + count - done ≡ count = omega arith in ap (λ k. take k (drop done bytes)) same

  pub found_same : other ≡ false → take count (drop (offset + done) all) ≡ take count (drop done bytes)
  found_same h =
      let xs = take count (piece ++ drop count chunk) in
      let ys = take (done + count - done) (drop done bytes) in
      sym read ∙ (bytes_eq-Decides xs ys).0 (not-false (bytes_eq xs ys) h) ∙ given

  pub found_other : other ≡ true → take (length bytes) (drop offset all) ≡ bytes → ⊥
  found_other h same =
      let xs = take count (piece ++ drop count chunk) in
      let ys = take (done + count - done) (drop done bytes) in
      let e : xs ≡ ys = read ∙ chunk_same all bytes offset done count same within ∙ sym given in
      let z : false ≡ true = sym (ap not ((bytes_eq-Decides xs ys).1 e)) ∙ h in
      cc

-- ---- the whole
pub current : (e : Entry) (offset : ℕ) (bytes : List ℕ) → offset ≤ length e.bytes → take (length bytes) (drop offset e.bytes) ≡ bytes → is_current e offset bytes ≡ true
current e offset bytes l same =
    ap (λ b. b && bytes_eq (take (length bytes) (drop offset e.bytes)) bytes) (le-leb offset (length e.bytes) l)
    ∙ (bytes_eq-Decides (take (length bytes) (drop offset e.bytes)) bytes).1 same

pub not_current : (e : Entry) (offset : ℕ) (bytes : List ℕ) → (take (length bytes) (drop offset e.bytes) ≡ bytes → ⊥) → is_current e offset bytes ≡ false
not_current e offset bytes differ = ⊎_elim
    (λ same. absurd (differ ((bytes_eq-Decides (take (length bytes) (drop offset e.bytes)) bytes).0 same)))
    (λ other. ap (λ b. leb offset (length e.bytes) && b) other ∙ and_false (leb offset (length e.bytes)))
    (cases_Bool (bytes_eq (take (length bytes) (drop offset e.bytes)) bytes))
  where
    and_false : (b : Bool) → (b && false) ≡ false
    and_false true = refl
    and_false false = refl

pub not_past_end : (e : Entry) (offset : ℕ) (bytes : List ℕ) → length e.bytes < offset → is_current e offset bytes ≡ false
not_past_end e offset bytes past = ap (λ b. b && bytes_eq (take (length bytes) (drop offset e.bytes)) bytes) (lt-leb offset (length e.bytes) past)

pub not_too_short : (e : Entry) (offset : ℕ) (bytes : List ℕ) → length e.bytes - offset < length bytes → is_current e offset bytes ≡ false
not_too_short e offset bytes short = not_current e offset bytes (λ same.
    let a = length-take (length bytes) (drop offset e.bytes) in
    let b = length-drop offset e.bytes in
    let n : length (take (length bytes) (drop offset e.bytes)) ≡ length bytes = ap length same in
    omega arith)
