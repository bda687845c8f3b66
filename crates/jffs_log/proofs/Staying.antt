-- A node that isn't live never comes to life.
use Rattle.std.proofs.Common.{◌≡◌, ℕ, ◌<◌, true, false, ltb, List, [], ◌∷◌, ⊎_elim, Option, Some, None, length, sym, ap, subst, ◌∙◌, arith}
use Rattle.std.specs.List.{list_all}
use Rattle.std.proofs.lemmas.Bool.{and_parts, ltb-true, cases_Bool, cases_lt, both_ways}
use Rattle.std.proofs.lemmas.Option.{none-some, same_Some}
use Rattle.jffs_node.specs.declared.node.Node.{Node}
use Rattle.jffs_tree.specs.Origin.{concerns, size_in, writes, offset_before, origin, newest, version_of, is_live}
use Rattle.jffs_tree.specs.Laws.{NoneLive}
use Rattle.jffs_tree.proofs.states.Steps.{entry-other, newest-other, newest-deleted, newest-written, origin-other, origin-deleted, origin-written, origin-moved, origin-padding}
use Rattle.jffs_inodes.specs.Held.{bytes_of}
use Rattle.jffs_log.proofs.rooms.Copied.{comes_from, is_newest_live, is_origin_live}

of_none : (o : Option Node) (v : ℕ) → o ≡ None → version_of o ≡ Some v → ⊥
of_none o v e f = none-some v (sym (ap version_of e) ∙ f)

-- what is live with one more node is that node, or was live before
module _ (n : Node) (past : List Node) (v : ℕ) (older : v < n.version) where
  not_own : (o : Option Node) → o ≡ Some n → version_of o ≡ Some v → ⊥
  not_own o e f = let same = same_Some n.version v (sym (ap version_of e) ∙ f) in absurd (omega arith)

  newest_before : (i : ℕ) → version_of (newest (n ∷ past) i) ≡ Some v → is_live past v ≡ true
  newest_before i h = ⊎_elim
      (λ c. ⊎_elim
      (λ d. absurd (of_none (newest (n ∷ past) i) v (newest-deleted i n past c d) h))
      (λ d. absurd (not_own (newest (n ∷ past) i) (newest-written i n past c d) h))
      (cases_Bool n.deleted))
      (λ c. is_newest_live past v i (ap version_of (sym (newest-other i n past c)) ∙ h))
      (cases_Bool (concerns i n))

  origin_before : (i p : ℕ) → p < size_in (n ∷ past) i → version_of (origin (n ∷ past) i p) ≡ Some v → is_live past v ≡ true
  origin_before i p there h = ⊎_elim
      (λ c. ⊎_elim
      (λ d. absurd (of_none (origin (n ∷ past) i p) v (origin-deleted i n past p c d) h))
      (λ d. ⊎_elim
      (λ w. absurd (not_own (origin (n ∷ past) i p) (origin-written i n past p c d w) h))
      (λ w. ⊎_elim
      (λ inside. is_origin_live past v i (offset_before n p, inside, ap version_of (sym (origin-moved i n past p c d w inside)) ∙ h))
      (λ behind. absurd (of_none (origin (n ∷ past) i p) v (origin-padding i n past p c d w behind) h))
      (cases_lt (offset_before n p) (size_in past i)))
      (cases_Bool (writes n p)))
      (cases_Bool n.deleted))
      (λ c. is_origin_live past v i (
        p,
        subst (λ k. p < k) (ap (λ o. length (bytes_of o)) (entry-other i n past c)) there,
        ap version_of (sym (origin-other i n past p c)) ∙ h,
      ))
      (cases_Bool (concerns i n))

  pub stays_dead : is_live past v ≡ false → is_live (n ∷ past) v ≡ false
  stays_dead dead = ⊎_elim
      (λ live.
      let from = comes_from (n ∷ past) v live in
      absurd (both_ways (is_live past v) dead (⊎_elim
      (λ new. newest_before from.0 new)
      (λ old. origin_before from.0 old.0 old.1 old.2)
      from.1)))
      (λ off. off)
      (cases_Bool (is_live (n ∷ past) v))

pub all_stay_dead : (n : Node) (past gone : List Node) → list_all (λ m. ltb m.version n.version) gone ≡ true → NoneLive past gone → NoneLive (n ∷ past) gone
all_stay_dead n past [] older dead = tt
all_stay_dead n past (m ∷ gone) older dead =
    let parts = and_parts (ltb m.version n.version) (list_all (λ k. ltb k.version n.version) gone) older in
    (stays_dead n past m.version (ltb-true m.version n.version parts.0) dead.0, all_stay_dead n past gone parts.1 dead.1)
