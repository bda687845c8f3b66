-- Where nothing is done, nothing but the answers is changed.
use Rattle.std.proofs.Common.{◌≡◌, ℕ, ◌||◌, [], ◌∷◌, ◌++◌, refl, sym, ap, subst, ◌∙◌}
use Rattle.jffs_tree.specs.declared.wish.Cause.{Cause}
use Rattle.jffs_tree.specs.declared.wish.Cause.TheVariants.{Device}
use Rattle.jffs_tree.specs.declared.wish.Outcome.{Outcome}
use Rattle.jffs_tree.specs.declared.wish.Outcome.TheVariants.{Refused}
use Rattle.jffs_line.specs.declared.request.Request.{Request}
use Rattle.jffs_log.specs.LogIndex.{layout_in}
use Rattle.jffs_core.specs.CoreState.{CoreState, IsSameButAnswers}
use Rattle.jffs_core.specs.Step.{Turn}
use Rattle.jffs_core.specs.Answering.{DoesNothing, KeepsAnswer, is_closed}
use Rattle.jffs_core.proofs.puts.Putting.{same_layout}

pub none_changed : (old new : CoreState) → new ≡ old → IsSameButAnswers old new
none_changed old new same = subst (IsSameButAnswers old) (sym same) (record {
  index = record { sectors = refl; sector_size = refl; first = refl; held = refl; tail = refl; used = refl; free = refl; erases = refl; records = refl };
  rest = refl;
})

pub layout_unchanged : (old new : CoreState) → IsSameButAnswers old new → layout_in new.image new.index ≡ layout_in old.image old.index
layout_unchanged old new h = ap (λ (c : CoreState). layout_in c.image new.index) h.rest ∙ same_layout old.image new.index old.index h.index.sectors h.index.sector_size

-- with an answer more
pub kept_unchanged : (writer seq : ℕ) (o : Outcome) (old middle new : CoreState) → KeepsAnswer writer seq o middle new → IsSameButAnswers old middle → IsSameButAnswers old new
kept_unchanged writer seq o old middle new kept h = subst (IsSameButAnswers old) (sym kept) (record {
  index = h.index;
  rest = ap (λ (c : CoreState). record c { answers = middle.answers ++ record { writer = writer; seq = seq; outcome = o } ∷ []; closed = middle.closed || is_closed o }) h.rest;
})

-- Something may be done before the answer Device.
pub does_something : (cause : Cause) (t : Turn) (q : Request) → DoesNothing (Refused cause) t q → cause ≡ Device → ⊥
does_something cause t q none is = subst (λ c. DoesNothing (Refused c) t q) is none
