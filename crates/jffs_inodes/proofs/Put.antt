-- What is found in a map after a key was put in, taken out or rewritten.
use Rattle.std.proofs.Common.{◌≡◌, ℕ, Bool, true, false, cond, not, eqb, List, Option, Some, None, refl, sym, ap, ◌∙◌, nat_cmp}
use Rattle.std.proofs.lemmas.Bool.{eqb-true}
use Rattle.std.specs.Cmp.{nat_cmp_total, unsigned_tied}
use Rattle.std.specs.FinMap.{nat_cmp-IsAntisymmetric}
use Rattle.std.specs.FinMap.Entries as entries
use Rattle.jffs_marks.proofs.Marking.{same_either_way}

swapped : {A : Type 0} (b : Bool) (x y : A) → cond (not b) x y ≡ cond b y x
swapped true x y = refl
swapped false x y = refl

module _ {X : Type 0} where
  pub find_put : (k : ℕ) (v : X) (s : List (ℕ × X)) (i : ℕ) → entries.find nat_cmp i (entries.put nat_cmp k v s) ≡ cond (eqb k i) (Some v) (entries.find nat_cmp i s)
  find_put k v s i = entries.find-put nat_cmp nat_cmp_total i k v s ∙ ap (λ b. cond b (Some v) (entries.find nat_cmp i s)) (unsigned_tied i k ∙ same_either_way i k)

  pub find_without : (k : ℕ) (s : List (ℕ × X)) (i : ℕ) → entries.find nat_cmp i (entries.where_key nat_cmp (λ j. not (eqb k j)) s) ≡ cond (eqb k i) None (entries.find nat_cmp i s)
  find_without k s i =
      entries.find-where_key nat_cmp (λ j. not (eqb k j)) i (λ j tied. ap (λ x. not (eqb k x)) (sym (nat_cmp-IsAntisymmetric i j tied))) s
      ∙ swapped (eqb k i) (entries.find nat_cmp i s) None

  -- a value that is made of the one at the key
  pub find_rewritten : (make : Option X → X) (k : ℕ) (s : List (ℕ × X)) (i : ℕ)
      → entries.find nat_cmp i (entries.put nat_cmp k (make (entries.find nat_cmp k s)) s) ≡ cond (eqb k i) (Some (make (entries.find nat_cmp i s))) (entries.find nat_cmp i s)
  find_rewritten make k s i =
      find_put k (make (entries.find nat_cmp k s)) s i
      ∙ elim (eqb k i) as (λ t. eqb k i ≡ t → cond t (Some (make (entries.find nat_cmp k s))) (entries.find nat_cmp i s) ≡ cond t (Some (make (entries.find nat_cmp i s))) (entries.find nat_cmp i s)) [
        | true ↦ λ e. ap (λ j. Some (make (entries.find nat_cmp j s))) (eqb-true k i e)
        | false ↦ λ e. refl
      ] refl
