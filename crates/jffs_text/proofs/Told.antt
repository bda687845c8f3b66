-- What the pieces of a dump tell, put together.
use Rattle.std.proofs.Common.{◌≡◌, ℕ, zero, suc, ◌+◌, ◌-◌, ◌<◌, ◌≤◌, true, false, cond, eqb, List, [], ◌∷◌, ◌++◌, length, take, drop, take_at, length-drop, length-take-le, option_map, Option, Some, None, refl, sym, ap, subst, ◌∙◌, arith}
use Rattle.std.specs.List.{flat_map}
use Rattle.std.specs.List.Sorted.{IsPermutation, IsSorted}
use Rattle.std.specs.Option.{unwrap_or}
use Rattle.std.specs.Io.KnownBytes.{Appends}
use Rattle.std.proofs.KnownBytes.{Appends-trans}
use Rattle.std.proofs.lemmas.Bool.{or_parts, cond-true, cond-false}
use Rattle.std.proofs.Math.Seq.{take-append_seam}
use Rattle.std.specs.Prelude.{codes}
use Rattle.jffs_tree.specs.State.{State, at, root, is_directory_in}
use Rattle.jffs_inodes.specs.Held.{bytes_of, Held}
use Rattle.jffs_inodes.specs.Inodes.{Tree, held_in}
use Rattle.jffs_tree.specs.Origin.{state_in}
use Rattle.jffs_tree.specs.Look.{bytes_in, size_of, names_in, children, name_cmp}
use Rattle.jffs_tree.proofs.trees.Looked.{bytes_told}
use Rattle.jffs_text.specs.Added.{IsBegun}
use Rattle.jffs_text.specs.Dump.{hex, shown_bytes, size_text, directory_line, file_line, extended_path, name_text, by_name, below}
use Rattle.jffs_text.proofs.Adding.{begun_then, begun_more, begun_as, added_as}
use Rattle.jffs_text.proofs.Hex.{part_told, part_begun}
use Rattle.jffs_text.proofs.InOrder.{in_order}

module _ (tree : Tree) (i : ℕ) where
  pub size_told : is_directory_in (state_in tree) i ≡ false → unwrap_or (size_of tree i) 0 ≡ length (bytes_in tree i)
  size_told file = ap (λ b. unwrap_or (cond b (Some 0) (option_map (λ h. length h.entry.bytes) (held_in tree i))) 0) (or_parts (eqb i root) _ file).0 ∙ by_held (held_in tree i)
    where
      by_held : (o : Option Held) → unwrap_or (option_map (λ h. length h.entry.bytes) o) 0 ≡ length (unwrap_or (option_map (λ h. h.entry.bytes) o) [])
      by_held None = refl
      by_held (Some h) = refl

  pub size_text_told : is_directory_in (state_in tree) i ≡ false → size_text (unwrap_or (size_of tree i) 0) ≡ size_text (length (bytes_of (at (state_in tree) i)))
  size_text_told file = ap size_text (size_told file ∙ ap length (bytes_told tree i))

  pub names_told : (names : List (List ℕ × ℕ)) → is_directory_in (state_in tree) i ≡ true → IsPermutation (names_in tree i) names → IsSorted name_cmp names → names ≡ by_name (children i (state_in tree))
  names_told names here shuffled sorted =
      in_order (children i (state_in tree)) names (subst (λ b. IsPermutation (cond b (children i (state_in tree)) []) names) here shuffled) sorted

pub shown_some : (bytes : List ℕ) → 0 < length bytes → shown_bytes bytes ≡ hex bytes
shown_some [] h = absurd (omega arith)
shown_some (b ∷ bytes) h = refl

-- A chunk of n bytes was read from the o-th on, into a buffer with other bytes after it.
module _ (bytes : List ℕ) (o n : ℕ) (behind chunk : List ℕ) (read : chunk ≡ take n (drop o bytes) ++ behind) (inside : n ≤ length bytes - o) (a b c : Option (List ℕ)) (so_far : Appends a b (hex (take o bytes))) where
  chunk_is : take n chunk ≡ take n (drop o bytes)
  chunk_is = ap (take n) read ∙ take_at (take n (drop o bytes)) behind n (length-take-le n (drop o bytes) (let long = length-drop o bytes in omega arith))

  module _ (x : List ℕ) (it : x ≡ take n chunk) where
    pub hex_told : Appends b c (hex x) → Appends a c (hex (take (o + n) bytes))
    hex_told h = part_told bytes o n (hex x) (ap hex (it ∙ chunk_is)) a b c so_far h

    pub hex_begun : 0 < length bytes → IsBegun b c (hex x) → IsBegun a c (shown_bytes bytes)
    hex_begun some h = subst (λ l. IsBegun a c l) (sym (shown_some bytes some)) (part_begun bytes o n (hex x) (ap hex (it ∙ chunk_is)) a b c so_far h)

-- the text of one name in the directory of that path, at most so many levels down
abbrev pub text_in : Tree → ℕ → List ℕ → (List ℕ × ℕ) → List ℕ
text_in tree levels = name_text (state_in tree) (below (levels - 1) (state_in tree))

pub below_none : (s : State) (above : List ℕ) (i : ℕ) → below 0 s above i ≡ []
unfolding below
below_none s above i = refl

pub below_some : (levels : ℕ) (s : State) (above : List ℕ) (i : ℕ) → 0 < levels → below levels s above i ≡ flat_map (name_text s (below (levels - 1) s) above) (by_name (children i s))
unfolding below
below_some zero s above i some = absurd (omega arith)
below_some (suc levels) s above i some =
    let back : levels ≡ suc levels - 1 = omega arith in
    ap (λ n. flat_map (name_text s (below n s) above) (by_name (children i s))) back

module _ (tree : Tree) (levels : ℕ) (path : List ℕ) (i : ℕ) (names items : List (List ℕ × ℕ)) where
  pub text_below : 0 < levels → is_directory_in (state_in tree) i ≡ true → IsPermutation (names_in tree i) names → IsSorted name_cmp names → items ≡ names
      → flat_map (text_in tree levels path) items ≡ below levels (state_in tree) path i
  text_below some here shuffled sorted is =
      ap (λ l. flat_map (text_in tree levels path) l) (is ∙ names_told tree i names here shuffled sorted)
      ∙ sym (below_some levels (state_in tree) path i some)

-- What is written of one name.
module _ (tree : Tree) (levels : ℕ) (above : List ℕ) (a : List ℕ × ℕ) (path : List ℕ) (is : path ≡ extended_path above a.0) (x y : Option (List ℕ)) where
  directory_is : is_directory_in (state_in tree) a.1 ≡ true → directory_line path ++ below (levels - 1) (state_in tree) path a.1 ≡ text_in tree levels above a
  directory_is here = ap (λ p. directory_line p ++ below (levels - 1) (state_in tree) p a.1) is ∙ sym (cond-true _ _ _ here)

  file_is : is_directory_in (state_in tree) a.1 ≡ false → file_line path (bytes_of (at (state_in tree) a.1)) ≡ text_in tree levels above a
  file_is here = ap (λ p. file_line p (bytes_of (at (state_in tree) a.1))) is ∙ sym (cond-false _ _ _ here)

  pub line_begun : is_directory_in (state_in tree) a.1 ≡ true → IsBegun x y (directory_line path) → IsBegun x y (text_in tree levels above a)
  line_begun here h = begun_as x y _ _ (directory_is here) (begun_more x y (directory_line path) (below (levels - 1) (state_in tree) path a.1) h)

  pub file_begun : is_directory_in (state_in tree) a.1 ≡ false → IsBegun x y (file_line path (bytes_of (at (state_in tree) a.1))) → IsBegun x y (text_in tree levels above a)
  file_begun here h = begun_as x y _ _ (file_is here) h

  pub file_told : is_directory_in (state_in tree) a.1 ≡ false → Appends x y (file_line path (bytes_of (at (state_in tree) a.1))) → Appends x y (text_in tree levels above a)
  file_told here h = added_as x y _ _ (file_is here) h

  module _ (z : Option (List ℕ)) (here : is_directory_in (state_in tree) a.1 ≡ true) (h : Appends x y (directory_line path)) where
    pub deeper_begun : IsBegun y z (below (levels - 1) (state_in tree) path a.1) → IsBegun x z (text_in tree levels above a)
    deeper_begun k = begun_as x z _ _ (directory_is here) (begun_then x y z (directory_line path) (below (levels - 1) (state_in tree) path a.1) h k)

    pub directory_told : Appends y z (below (levels - 1) (state_in tree) path a.1) → Appends x z (text_in tree levels above a)
    directory_told k = added_as x z _ _ (directory_is here) (Appends-trans x y z (directory_line path) (below (levels - 1) (state_in tree) path a.1) h k)

-- the path of a name, cut back to its directory's
pub cut_back : (n : ℕ) (above path name : List ℕ) → n ≡ length above → path ≡ extended_path above name → take n path ≡ above
cut_back n above path name long is = ap (λ l. take n l) is ∙ ap (λ m. take m (extended_path above name)) long ∙ take-append_seam above (codes "/" ++ name)
