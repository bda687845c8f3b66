-- A node written at the end of a file or past it: its data come after all fragments.
use Rattle.std.proofs.Common.{◌≡◌, ℕ, max, ◌+◌, ◌<◌, ◌≤◌, true, false, cond, eqb, [], ◌∷◌, ◌++◌, ◌⊎◌, inl, ⊎_elim, Option, Some, None, IfSome, unwrap_or, refl, sym, ap, subst, ◌∙◌, arith, nat_cmp}
use Rattle.std.specs.List.{AllByRecursion}
use Rattle.std.specs.Ordering.{match_ordering}
use Rattle.std.specs.Cmp.{nat_cmp_is}
use Rattle.std.specs.BTreeMap.{insert_entry}
use Rattle.std.specs.declared.cmp.Ordering.{Ordering}
use Rattle.std.specs.declared.cmp.Ordering.TheVariants.{Greater}
use Rattle.std.proofs.lemmas.Bool.{cases_eq}
use Rattle.std.proofs.lemmas.List.{append-nil}
use Rattle.jffs_node.specs.declared.node.Node.{Node}
use Rattle.jffs_node.specs.Record.{dsize, file_max}
use Rattle.jffs_inodes.specs.declared.fragment.Fragment.{Fragment}
use Rattle.jffs_inodes.specs.Fragments.{Fragments, end_of, AreLaid, FitsFile, IsFileAfter, before, with_node_data, fragment_of}
use Rattle.jffs_inodes.proofs.files.Fragments.{laid_bound, all_before, none_from}
use Rattle.jffs_inodes.proofs.files.Splitting.{cut_past}
use Rattle.jffs_inodes.proofs.files.Taking.{none_within}
use Rattle.jffs_inodes.proofs.files.SameCells.{same_cells}
use Rattle.jffs_inodes.proofs.files.FileWritten.{Spliced, spliced_moving, spliced_staying, file_plain, file_stated}

pub put_last : (p : ℕ) (f : Fragment) (at size : ℕ) (es : Fragments) → AreLaid at size es → size ≤ p → insert_entry nat_cmp es p f ≡ es ++ (p, f) ∷ []
put_last p f at size [] h l = refl
put_last p f at size (e ∷ es) h l =
    let bound = laid_bound (end_of e) size es h.2 in
    let some = h.1 in
    ap (λ (o : Ordering). match_ordering o ((p, f) ∷ e ∷ es) ((e.0, f) ∷ es) (e ∷ insert_entry nat_cmp es p f)) (sym (nat_cmp_is p e.0 Greater (omega arith)))
    ∙ ap (λ x. e ∷ x) (put_last p f (end_of e) size es h.2 l)

all_early : (at size s q : ℕ) (es : Fragments) → AreLaid at size es → size ≤ s → AllByRecursion (λ e. (e.0 < s) ⊎ (q ≤ e.0)) es
all_early at size s q [] h l = tt
all_early at size s q (e ∷ es) h l =
    let bound = laid_bound (end_of e) size es h.2 in
    let some = h.1 in
    (inl (omega arith), all_early (end_of e) size s q es h.2 l)

module _ (n : Node) (size : ℕ) (es now : Fragments) (h : AreLaid 0 size es) (fits : FitsFile n size) (past : size ≤ n.offset) (is : now ≡ es ++ fragment_of n) where
  behind : (end : ℕ) → size ≤ end → now ≡ with_node_data end n es
  behind end l =
      is
      ∙ ap (λ x. x ++ fragment_of n) (sym (all_before 0 size n.offset es h past))
      ∙ ap (λ x. before n.offset es ++ x) (sym (append-nil (fragment_of n)))
      ∙ ap (λ x. before n.offset es ++ (fragment_of n ++ x)) (sym (none_from 0 size end es h l))

  appended : Spliced n size es (n.offset + dsize n) now
  appended = ⊎_elim
      (λ same.
      let reach : max (n.offset + dsize n) size ≡ n.offset + dsize n = omega arith in
      subst (λ k. Spliced n size es k now) reach
      (spliced_staying n size es now h fits (cut_past 0 size n.offset es h past) (cut_past 0 size (n.offset + dsize n) es h (omega arith)) same (behind (n.offset + dsize n) (omega arith))))
      (λ apart. spliced_moving n size es now h fits (cut_past 0 size n.offset es h past) apart (behind file_max fits.small))
      (cases_eq (dsize n) n.rsize)

  by_size : (o : Option ℕ) → n.size ≡ o → IsFileAfter n size es (unwrap_or o (n.offset + dsize n)) now
  by_size None none = file_plain n size (n.offset + dsize n) es es now (same_cells es) h appended none
  by_size (Some s) some =
      let inside : n.offset + dsize n ≤ s = subst (λ (o : Option ℕ). IfSome o (λ k. n.offset + dsize n ≤ k)) some fits.node.inside in
      let low : s ≤ file_max = subst (λ (o : Option ℕ). unwrap_or o 0 ≤ file_max) some fits.node.size in
      file_stated n size (n.offset + dsize n) s es es now now (same_cells es) h appended some low (cut_past 0 (n.offset + dsize n) s now appended.ordered inside)
      (sym (none_within s file_max now (all_early 0 (n.offset + dsize n) s file_max now appended.ordered inside)))

  pub file_appended : IsFileAfter n size es (unwrap_or n.size (n.offset + dsize n)) now
  file_appended = by_size n.size refl

pub nothing_brought : (n : Node) → eqb (dsize n) 0 ≡ true → fragment_of n ≡ []
nothing_brought n h = ap (λ b. cond b [] ((n.offset, record { bytes = n.bytes; writer = n.version }) ∷ [])) h

pub one_brought : (n : Node) → eqb (dsize n) 0 ≡ false → fragment_of n ≡ (n.offset, record { bytes = n.bytes; writer = n.version }) ∷ []
one_brought n h = ap (λ b. cond b [] ((n.offset, record { bytes = n.bytes; writer = n.version }) ∷ [])) h
