-- Lemmas on the hands of a crew.
use Rattle.std.proofs.Common.{◌≡◌, ℕ, List, [], ◌∷◌, ◌++◌, map, sym, ◌∙◌, ap₂}
use Rattle.std.proofs.lemmas.List.{map-append}
use Rattle.jffs_line.specs.Line.{Line, End}
use Rattle.jffs_line.specs.declared.hand.Hand as Hand
use Rattle.jffs_run.specs.Ends.{end_of}

module _ {H : Type 0} (g : Hand.Ghosts H) where
  pub same_end : (a b : H) → g.sender a ≡ g.sender b → g.line a ≡ g.line b → end_of g a ≡ end_of g b
  same_end a b sender line = ap₂ (λ (s : ℕ) (l : Line). let e : End = (s, l) in e) sender line

  -- hands with the same ends, and the two after them
  pub same_ends :
      (hands before : List H) (cleaner cleaner' control control' : H)
      → map (end_of g) hands ≡ map (end_of g) before → end_of g cleaner ≡ end_of g cleaner' → end_of g control ≡ end_of g control'
      → map (end_of g) (hands ++ cleaner ∷ control ∷ []) ≡ map (end_of g) (before ++ cleaner' ∷ control' ∷ [])
  same_ends hands before cleaner cleaner' control control' same first second =
      map-append (end_of g) hands (cleaner ∷ control ∷ [])
      ∙ (ap₂ (λ (l m : List End). l ++ m) same (ap₂ (λ (c k : End). c ∷ k ∷ []) first second)
      ∙ sym (map-append (end_of g) before (cleaner' ∷ control' ∷ [])))
