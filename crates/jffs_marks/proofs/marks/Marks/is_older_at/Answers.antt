use Rattle.std.proofs.Common.{nat_lt, ◌<◌, ◌≤◌, ℕ, true, Option, length, refl, sym, ap, subst, ◌∙◌, ⊎_elim}
use Rattle.std.proofs.lemmas.Bool.{cases_lt}
use Rattle.std.proofs.lemmas.Option.{slice_get_past, slice_get_read}
use Rattle.std.specs.List.{slice_get}
use Rattle.std.specs.Option.{option_map_or}
use Rattle.jffs_marks.specs.Marks.{MarkKey, Counts}
use Rattle.jffs_marks.proofs.marks.Marks.is_older_at.Goals as goal

pub returns-in-Some : goal.returns-in-Some
returns-in-Some c =
    let items = c.self.inside.counts.items in
    let within = c.in-Some.ensures.variant.0 refl in
    ap (λ (o : Option (MarkKey × ℕ)). option_map_or (λ e. nat_lt e.0.0.0 c.args.version) o true)
    (sym (slice_get_read items c.self.inside.counts.len c.args.index c.in-Some.entry.now c.self.inside.counts.ok.0 within c.in-Some.ensures.lookup)
    ∙ ap (λ (t : Counts). slice_get t c.args.index) c.self.view_is)

pub returns-in-None : goal.returns-in-None
returns-in-None c =
    let items = c.self.inside.counts.items in
    let past : length items ≤ c.args.index = ⊎_elim
    (λ l. let some = c.in-None.ensures.variant.1 (subst (λ n. c.args.index < n) (sym c.self.inside.counts.ok.0) l) in cc)
    (λ h. h)
    (cases_lt c.args.index (length items)) in
    ap (λ (o : Option (MarkKey × ℕ)). option_map_or (λ e. nat_lt e.0.0.0 c.args.version) o true)
    (sym (slice_get_past items c.args.index past) ∙ ap (λ (t : Counts). slice_get t c.args.index) c.self.view_is)
