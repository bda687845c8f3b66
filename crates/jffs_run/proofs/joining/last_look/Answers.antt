use Rattle.std.proofs.Common.{◌≡◌, inr, refl, sym, ◌∙◌, ap, subst}
use Rattle.jffs_index.specs.declared.rule.History.{History}
use Rattle.jffs_index.specs.Shown.{Shown}
use Rattle.jffs_index.specs.Histories.{view_of, BeginsWith}
use Rattle.jffs_index.specs.Ends.{known, told_of}
use Rattle.jffs_index.proofs.Kept.{same_length, begins_trans}
use Rattle.jffs_run.proofs.joining.last_look.Goals as goal

pub returns-in-Some : goal.returns-in-Some
returns-in-Some c =
    let told : History = told_of c.args.told in
    let learnt : History = known c.learn.new.self in
    let now : History = known c.look-seen.new.self in
    let looked = c.in-Some.ensures.seen in
    let counted : (view_of told).answered ≡ c.args.answered = c.requires.whole c.if-whole.true in
    let shown : c.in-Some.seen ≡ (view_of now).answered = looked.1.1 ∙ ap (λ (v : Shown). v.answered) looked.1.2 in
    let same : now ≡ told = same_length now told (begins_trans now learnt told looked.0 c.learn.ensures.known.1) (sym shown ∙ (c.if-seen-answered.true ∙ sym counted)) in
    inr (refl, subst (λ (h : History). BeginsWith h (known c.args.reader)) same (begins_trans now learnt (known c.args.reader) looked.0 c.learn.ensures.known.0), counted)
