use Rattle.std.proofs.Common.{◌≤◌, ◌+◌, ℕ, max, inl, inr, Option, IfSome, unwrap_or, subst, sym, ◌∙◌, ◌≡◌, arith}
use Rattle.std.proofs.lemmas.Option.{same_Some}
use Rattle.jffs_node.specs.Record.{dsize, file_max}
use Rattle.jffs_inodes.specs.Fragments.{AreCut, IsFileAfter}
use Rattle.jffs_inodes.proofs.files.FileWritten.{Ends, Spliced, spliced_either, spliced_moved, spliced_stayed, file_plain, file_stated, file_within, cut_with_node_data}
use Rattle.jffs_inodes.proofs.files.Overwriting.{short_from_laid}
use Rattle.jffs_inodes.proofs.fragment.splice.Goals as goal
use Rattle.jffs_inodes.proofs.fragment.splice.Goals.{In_ok-overwrite, then-moves, else-moves}

pub make_cuts-requires : goal.make_cuts-requires
make_cuts-requires c = record { laid = (c.requires.laid, c.requires.fits.small) }

pub overwrite-requires-clause-laid : goal.overwrite-requires-clause-laid
overwrite-requires-clause-laid c = (c.in_ok-make_cuts.ensures.same.stay c.args.size c.requires.laid, c.requires.fits.small)

-- where the bytes that the node covers end
ends : (c : In_ok-overwrite) → Ends c.args.node.now c.len-amount.result c.if-moves.end
ends c = elim c.if-moves.branch [
  | then-moves w ↦ inl (w.if-moves.true, w.end-is)
  | else-moves w ↦ inr (w.if-moves.false, w.end-is)
]

-- The fragments that the node was written over are a file's.
spliced : (c : In_ok-overwrite)
    → (after : ℕ) × Spliced c.args.node.now c.args.size c.make_cuts.new.fragments.entries after c.overwrite.new.fragments.entries × (after ≤ max (c.args.node.now.offset + dsize c.args.node.now) c.args.size)
spliced c =
    spliced_either c.args.node.now c.args.size c.len-amount.result c.if-moves.end c.make_cuts.new.fragments.entries c.overwrite.new.fragments.entries c.len-amount.ensures.value (ends c)
    (c.in_ok-make_cuts.ensures.same.stay c.args.size c.requires.laid) c.requires.fits c.in_ok-make_cuts.ensures.offset c.in_ok-make_cuts.ensures.end c.in_ok-overwrite.ensures.ok

pub take_out-requires-clause-short : goal.take_out-requires-clause-short
take_out-requires-clause-short c =
    let s = spliced (goal.at.take_out-requires-clause-short c).In_ok-overwrite in
    short_from_laid 0 s.0 c.overwrite.new.fragments.entries s.1.ordered s.1.small

pub returns-in-Some-clause-ok : goal.returns-in-Some-clause-ok
returns-in-Some-clause-ok c =
    let s = spliced (goal.at.returns-in-Some-clause-ok c).In_ok-overwrite in
    let is = c.in-Some.is in
    let low : c.in-Some.stated ≤ file_max = subst (λ (o : Option ℕ). unwrap_or o 0 ≤ file_max) is c.requires.fits.node.size in
    let inside : c.args.node.now.offset + dsize c.args.node.now ≤ c.in-Some.stated = subst (λ (o : Option ℕ). IfSome o (λ k. c.args.node.now.offset + dsize c.args.node.now ≤ k)) is c.requires.fits.node.inside in
    let cut : AreCut c.in-Some.stated c.make_cuts.new.fragments.entries = subst (λ (o : Option ℕ). IfSome o (λ k. AreCut k c.make_cuts.new.fragments.entries)) is c.in_ok-make_cuts.ensures.size in
    let at : AreCut c.in-Some.stated c.overwrite.new.fragments.entries = subst (AreCut c.in-Some.stated) (sym c.in_ok-overwrite.ensures.ok) (cut_with_node_data c.in-Some.stated c.if-moves.end c.args.node.now c.make_cuts.new.fragments.entries cut inside) in
    file_stated c.args.node.now c.args.size s.0 c.in-Some.stated c.args.fragments.now.entries c.make_cuts.new.fragments.entries c.overwrite.new.fragments.entries c.take_out.new.fragments.entries
    c.in_ok-make_cuts.ensures.same c.requires.laid s.1 is low at c.take_out.ensures.left

pub returns-in-Some-2-clause-ok : goal.returns-in-Some-2-clause-ok
returns-in-Some-2-clause-ok c =
    let s = spliced (goal.at.returns-in-Some-2-clause-ok c).In_ok-overwrite in
    let is = c.in-Some-2.is in
    let same : c.in-Some-2.stated ≡ c.in-Some.stated = same_Some c.in-Some-2.stated c.in-Some.stated (sym is ∙ c.in-Some.is) in
    let low : c.in-Some-2.stated ≤ file_max = subst (λ (o : Option ℕ). unwrap_or o 0 ≤ file_max) is c.requires.fits.node.size in
    let inside : c.args.node.now.offset + dsize c.args.node.now ≤ c.in-Some-2.stated = subst (λ (o : Option ℕ). IfSome o (λ k. c.args.node.now.offset + dsize c.args.node.now ≤ k)) is c.requires.fits.node.inside in
    let most = s.2 in
    let long : c.args.size ≤ c.in-Some.stated = c.if-stated-size.false in
    file_within c.args.node.now c.args.size s.0 c.in-Some-2.stated c.args.fragments.now.entries c.make_cuts.new.fragments.entries c.overwrite.new.fragments.entries
    c.in_ok-make_cuts.ensures.same c.requires.laid s.1 is low (omega arith)

pub returns-in-None-clause-ok : goal.returns-in-None-clause-ok
returns-in-None-clause-ok c =
    file_plain c.args.node.now c.args.size (c.args.node.now.offset + c.len-amount.result) c.args.fragments.now.entries c.make_cuts.new.fragments.entries c.overwrite.new.fragments.entries c.in_ok-make_cuts.ensures.same c.requires.laid
    (spliced_moved c.args.node.now c.args.size c.len-amount.result c.if-moves.end c.make_cuts.new.fragments.entries c.overwrite.new.fragments.entries c.len-amount.ensures.value (ends (goal.at.returns-in-None-clause-ok c).In_ok-overwrite) c.if-moves-2.true
    (c.in_ok-make_cuts.ensures.same.stay c.args.size c.requires.laid) c.requires.fits c.in_ok-make_cuts.ensures.offset c.in_ok-overwrite.ensures.ok)
    c.in-None.is

pub returns-in-None-2-clause-ok : goal.returns-in-None-2-clause-ok
returns-in-None-2-clause-ok c =
    subst (λ k. IsFileAfter c.args.node.now c.args.size c.args.fragments.now.entries k c.overwrite.new.fragments.entries) (sym c.max.ensures)
    (file_plain c.args.node.now c.args.size (max (c.args.node.now.offset + c.len-amount.result) c.args.size) c.args.fragments.now.entries c.make_cuts.new.fragments.entries c.overwrite.new.fragments.entries c.in_ok-make_cuts.ensures.same c.requires.laid
    (spliced_stayed c.args.node.now c.args.size c.len-amount.result c.if-moves.end c.make_cuts.new.fragments.entries c.overwrite.new.fragments.entries c.len-amount.ensures.value (ends (goal.at.returns-in-None-2-clause-ok c).In_ok-overwrite) c.if-moves-2.false
    (c.in_ok-make_cuts.ensures.same.stay c.args.size c.requires.laid) c.requires.fits c.in_ok-make_cuts.ensures.offset c.in_ok-make_cuts.ensures.end c.in_ok-overwrite.ensures.ok)
    c.in-None-2.is)
