-- The file is made, and written piece by piece.
use Rattle.std.proofs.Common.{◌≡◌, ◌⊎◌, ◌∙◌, ◌+◌, ◌-◌, ◌≤◌, inl, inr, ⊎_elim, take, length, sym, subst, arith}
use Rattle.std.proofs.Math.Nat.{min-le_right}
use Rattle.std.proofs.lemmas.List.{length-take-le}
use Rattle.jffs_tree.specs.declared.wish.Wish.TheVariants as wishes
use Rattle.jffs_session.specs.Session.{files}
use Rattle.jffs_session.specs.Told.{IsDone}
use Rattle.jffs_session.specs.Put.{IsAdded, IsPartOf}
use Rattle.jffs_session.proofs.Steps.{finds_more, made, written, joined}
use Rattle.jffs_session.proofs.session.Session.make_file.Goals as goal

pub returns-in-Err-clause-made : goal.returns-in-Err-clause-made
returns-in-Err-clause-made g c =
    let old = c.args.self.now.core in
    let h = c.in-Err.ensures.made in (
      λ w. inl (h.1 w),
      λ f. finds_more (λ s. (s ≡ files old) ⊎ IsDone (wishes.Create c.args.path.now) old s) (IsPartOf c.args.path.now c.args.bytes.now (files old))
          (λ s o. ⊎_elim (λ same. inl same) (λ d. inr (0, made c.args.path.now old s d)) o) c.create.new.self.core (h.2 f),
    )

pub loop-done-init : goal.loop-done-init
loop-done-init g c = record {
  in_range = omega arith;
  mounted = c.create.ensures.mounted;
  works = c.in_default.ensures.made.0;
  begun = c.create.ensures.begun;
  added = made c.args.path.now c.args.self.now.core (files c.create.new.self.core) c.in_default.ensures.made.1;
}

pub returns-in-Err-write_piece-clause-made : goal.returns-in-Err-write_piece-clause-made
returns-in-Err-write_piece-clause-made g c =
    let old = c.args.self.now.core in
    let so_far = c.loop-done.self.core in
    let v = c.loop-done.invariant in
    let h = c.in-Err-write_piece.ensures.written in
    let before : IsAdded c.args.path.now (take c.loop-done.done c.args.bytes.now) (files old) (files so_far) = v.added in (
      λ w. inr (c.loop-done.done, subst (IsAdded c.args.path.now (take c.loop-done.done c.args.bytes.now) (files old)) (sym (h.1 w)) before),
      λ f. finds_more (λ s. (s ≡ files so_far) ⊎ IsDone (wishes.Write c.args.path.now _ _) so_far s) (IsPartOf c.args.path.now c.args.bytes.now (files old))
          (λ s o. ⊎_elim
          (λ same. inr (c.loop-done.done, subst (IsAdded c.args.path.now (take c.loop-done.done c.args.bytes.now) (files old)) (sym same) before))
          (λ d. inr (
            c.loop-done.done + c.min.result,
            subst (λ b. IsAdded c.args.path.now b (files old) s) (joined c.loop-done.done c.min.result c.args.bytes.now)
                (written c.args.path.now (take c.loop-done.done c.args.bytes.now) _ _ old so_far s c.requires.mounted c.requires.works v.mounted v.works (length-take-le c.loop-done.done c.args.bytes.now v.in_range) before d),
          ))
          o) c.write_piece.new.self.core (h.2 f),
    )

pub loop-done-preserved : goal.loop-done-preserved
loop-done-preserved g c =
    let old = c.args.self.now.core in
    let so_far = c.loop-done.self.core in
    let v = c.loop-done.invariant in
    let h = c.in_default-write_piece.ensures.written in
    let rest = length c.args.bytes.now - c.loop-done.done in
    let least : c.min.result ≤ rest = subst (λ n. n ≤ rest) (sym c.min.ensures) (min-le_right c.max-most.result rest) in
    record {
      in_range = let fits = v.in_range in omega (arith, least, fits);
      mounted = c.write_piece.ensures.mounted;
      works = h.0;
      begun = c.write_piece.ensures.begun ∙ v.begun;
      added = subst (λ b. IsAdded c.args.path.now b (files old) (files c.write_piece.new.self.core)) (joined c.loop-done.done c.min.result c.args.bytes.now)
          (written c.args.path.now (take c.loop-done.done c.args.bytes.now) _ _ old so_far (files c.write_piece.new.self.core) c.requires.mounted c.requires.works v.mounted v.works
          (length-take-le c.loop-done.done c.args.bytes.now v.in_range) v.added h.1);
    }
