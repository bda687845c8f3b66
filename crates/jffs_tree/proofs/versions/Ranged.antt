-- What the marks of a range of versions tell of the tree.
use Rattle.std.proofs.Common.{◌≡◌, ℕ, ◌<◌, true, false, ltb, Option, Some, None, IfNone, sym, ap, ◌∙◌}
use Rattle.std.proofs.lemmas.Bool.{lt-ltb}
use Rattle.jffs_inodes.specs.Inodes.{Tree}
use Rattle.jffs_tree.specs.Look.{holds_version}
use Rattle.jffs_marks.specs.Marks.{Counts, mark_of}
use Rattle.jffs_inodes.specs.Marked.{AreMarksOf}
use Rattle.jffs_tree.proofs.versions.Finding.{marks_hold}

module _ (tree seen : Tree) (counts : Counts) (marked : AreMarksOf tree counts) (same : tree ≡ seen) where
  told : (v i : ℕ) → ltb 0 (mark_of counts v i) ≡ holds_version seen i v
  told v i = ap (λ n. ltb 0 n) (marked v i) ∙ marks_hold tree v i ∙ ap (λ (t : Tree). holds_version t i v) same

  pub is_live : (v i : ℕ) → 0 < mark_of counts v i → holds_version seen i v ≡ true
  is_live v i some = sym (told v i) ∙ lt-ltb 0 (mark_of counts v i) some

  pub is_dead : (v i : ℕ) → mark_of counts v i ≡ 0 → holds_version seen i v ≡ false
  is_dead v i none = sym (told v i) ∙ ap (λ n. ltb 0 n) none

-- what follows from what a clause says where there is no value
pub IfNone_then : {X : Type 0} (r : Option X) {P Q : Type 0} → IfNone r P → (P → Q) → IfNone r Q
IfNone_then None p f = f p
IfNone_then (Some x) p f = tt
