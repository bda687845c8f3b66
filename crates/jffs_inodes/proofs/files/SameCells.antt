-- Fragments that say the same of all offsets.
use Rattle.std.proofs.Common.{◌≡◌, refl, subst, sym, ◌∙◌}
use Rattle.jffs_inodes.specs.Fragments.{Fragments, SameCells}

pub same_cells : (es : Fragments) → SameCells es es
same_cells es = record { stay = λ size h. h; cells = λ size h. refl; amounts = λ v. refl; cuts = λ q h. h }

pub unchanged : (es now : Fragments) → now ≡ es → SameCells es now
unchanged es now is = subst (λ x. SameCells es x) (sym is) (same_cells es)

pub same_then : (a b c : Fragments) → SameCells a b → SameCells b c → SameCells a c
same_then a b c p q = record {
  stay = λ size h. q.stay size (p.stay size h);
  cells = λ size h. q.cells size (p.stay size h) ∙ p.cells size h;
  amounts = λ v. q.amounts v ∙ p.amounts v;
  cuts = λ k h. q.cuts k (p.cuts k h);
}
