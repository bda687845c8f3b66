-- How often a session erases.
use Rattle.std.proofs.Common.{◌≡◌, ◌+◌, ◌*◌, ℕ, inl, inr, true, false, List, [], ◌∷◌, ◌++◌, length, sym, ap, subst, arith, length-append}
use Rattle.std.proofs.Math.Nat.{add-mul}
use Rattle.std.proofs.lemmas.Bool.{both_ways, cases_Bool}
use Rattle.jffs_tree.specs.declared.wish.Outcome.{Outcome}
use Rattle.jffs_log.specs.declared.log_index.LogIndex.{LogIndex}
use Rattle.jffs_core.specs.CoreState.{CoreState}
use Rattle.jffs_core.specs.Answering.{KeepsAnswer}
use Rattle.jffs_core.specs.Erases.{ErasesAtMost}
use Rattle.jffs_serve.specs.Replies.{Reply}
use Rattle.jffs_serve.specs.Chain.{KeepsHistory}
use Rattle.jffs_serve.specs.Answered.{ErasesSince}

-- nothing was answered yet
pub since_start : (start : CoreState) → ErasesSince start 0 start
since_start start = record { erases = omega arith; held = λ works. omega arith }

-- a call of a core that worked, which erased no more than `more` answers may
since_worked : (start old new : CoreState) (answers more : ℕ) → old.failed ≡ false → ErasesSince start answers old → ErasesAtMost (more * start.index.sectors) old new → ErasesSince start (answers + more) new
since_worked start old new answers more works was erased =
    let before = was.held works in
    let both : (answers + more) * start.index.sectors ≡ answers * start.index.sectors + more * start.index.sectors = add-mul answers more start.index.sectors in
    record {
      erases = let now = erased.erases in omega (arith, before, both, now);
      held = λ still. let now = erased.held still in omega (arith, before, both, now);
    }

-- one request was answered
pub since_answer :
    (start old new : CoreState) (replies : List Reply) (r : Reply) (writer seq : ℕ) (o : Outcome)
    → start.index.sectors ≡ old.index.sectors → (old.failed ≡ true → KeepsAnswer writer seq o old new)
    → ErasesSince start (length replies) old → ErasesAtMost old.index.sectors old new → ErasesSince start (length (replies ++ r ∷ [])) new
since_answer start old new replies r writer seq o same kept was erased =
    let many : length replies + 1 ≡ length (replies ++ r ∷ []) = sym (length-append replies (r ∷ [])) in
    subst (λ (k : ℕ). ErasesSince start k new) many (elim (cases_Bool old.failed) [
      | inl had ↦ of_failed had
      | inr works ↦
          let once : old.index.sectors ≡ 1 * start.index.sectors = omega (arith, same) in
          since_worked start old new (length replies) 1 works was (subst (λ (k : ℕ). ErasesAtMost k old new) once erased)
    ])
  where
    of_failed : old.failed ≡ true → ErasesSince start (length replies + 1) new
    of_failed had = subst (ErasesSince start (length replies + 1)) (sym (kept had)) (record {
      erases =
          let before = was.erases in
          let both : (length replies + 1) * start.index.sectors ≡ length replies * start.index.sectors + 1 * start.index.sectors = add-mul (length replies) 1 start.index.sectors in
          omega (arith, before, both);
      held = λ works. absurd (both_ways old.failed works had);
    })

-- nothing was answered meanwhile
pub since_same : (start old new : CoreState) (answers : ℕ) → KeepsHistory old new → ErasesSince start answers old → ErasesSince start answers new
since_same start old new answers keeps was = elim (cases_Bool old.failed) [
  | inl had ↦ subst (ErasesSince start answers) (sym (keeps.failed had)) (record { erases = was.erases; held = was.held })
  | inr works ↦
      let before = was.held works in
      let erased = keeps.erases in
      record { erases = let now = erased.erases in omega arith; held = λ still. let now = erased.held still in omega arith }
]

-- one stretch of answers after another
pub since_along :
    (start old new : CoreState) (first second : ℕ) → start.index.sectors ≡ old.index.sectors
    → (old.failed ≡ true → (new.failed ≡ true) × (new.index ≡ old.index))
    → ErasesSince start first old → ErasesSince old second new → ErasesSince start (first + second) new
since_along start old new first second same kept was more =
    let both : (first + second) * start.index.sectors ≡ first * start.index.sectors + second * start.index.sectors = add-mul first second start.index.sectors in
    elim (cases_Bool old.failed) [
      | inl had ↦
          let stays = kept had in
          let erases : new.index.erases ≡ old.index.erases = ap (λ (b : LogIndex). b.erases) stays.1 in
          let before = was.erases in
          record { erases = omega (arith, before, both, erases); held = λ works. absurd (both_ways new.failed works stays.0) }
      | inr works ↦
          let before = was.held works in
          let sizes : second * old.index.sectors ≡ second * start.index.sectors = ap (λ (z : ℕ). second * z) (sym same) in
          record {
            erases = let now = more.erases in omega (arith, before, both, sizes, now);
            held = λ still. let now = more.held still in omega (arith, before, both, sizes, now);
          }
    ]
