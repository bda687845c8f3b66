use Rattle.std.proofs.Common.{◌≡◌, ◌+◌, ◌≤◌, ◌∙◌, ◌&&◌, ◌∷◌, [], cond, eqb, length, refl, sym, ap, subst, arith}
use Rattle.std.proofs.lemmas.Bool.{eq-eqb}
use Rattle.jffs_node.specs.Record.{file_max}
use Rattle.jffs_node.proofs.Each.{each_front}
use Rattle.jffs_marks.specs.Marks.{mark_of}
use Rattle.jffs_inodes.specs.Fragments.{Fragments, AreShort, ascending, part_by, amount_by}
use Rattle.jffs_inodes.proofs.files.Reversed.{Late}
use Rattle.jffs_inodes.proofs.files.Splitting.{amount_append, amount_cons}
use Rattle.jffs_inodes.proofs.files.Taking.{one_moved, still_marked}
use Rattle.jffs_inodes.proofs.leaving.lower_all.Goals as goal

pub loop-fragment-init : goal.loop-fragment-init
loop-fragment-init c =
    let given = ap ascending c.into_iter-fragment-iterator.ensures.into_iter_gives ∙ c.from_last-fragment-items.ensures in
    record {
      can_next = tt;
      is_finite = tt;
      short = subst AreShort (sym given) c.requires.short;
      moved = λ v i. ap (λ (es : Fragments). mark_of c.args.marks.now v i + cond (eqb i c.args.inode) (amount_by v es) 0) (sym given);
    }

pub len-requires : goal.len-requires
len-requires c =
    (each_front (λ e. length e.1.bytes ≤ file_max) (ascending c.next.new.self) ((c.in-Some.field-0-0.now.0, c.in-Some.fragment.now) ∷ [])
    (subst (λ (ms : Late). AreShort (ascending ms)) c.in-Some.ensures.steps c.loop-fragment.invariant.short)).1.0

pub lower-requires : goal.lower-requires
lower-requires c =
    let f = c.in-Some.fragment.now in
    let b = still_marked c.args.marks.now c.loop-fragment.marks c.args.inode c.args.fragments.now.entries (ascending c.loop-fragment.fragment-iterator) c.loop-fragment.invariant.moved c.requires.marked f.writer in
    let all = ap (λ (ms : Late). amount_by f.writer (ascending ms)) c.in-Some.ensures.steps
    ∙ amount_append f.writer (ascending c.next.new.self) ((c.in-Some.field-0-0.now.0, f) ∷ []) in
    let one = amount_cons f.writer (c.in-Some.field-0-0.now.0, f) [] in
    let own : part_by f.writer f ≡ length f.bytes = ap (λ t. cond t (length f.bytes) 0) (eq-eqb f.writer f.writer refl) in
    omega arith

pub loop-fragment-preserved : goal.loop-fragment-preserved
loop-fragment-preserved c =
    let f = c.in-Some.fragment.now in
    let last : Fragments = (c.in-Some.field-0-0.now.0, f) ∷ [] in
    record {
      can_next = tt;
      is_finite = tt;
      short = (each_front (λ e. length e.1.bytes ≤ file_max) (ascending c.next.new.self) last
          (subst (λ (ms : Late). AreShort (ascending ms)) c.in-Some.ensures.steps c.loop-fragment.invariant.short)).0;
      moved = λ v i.
          let lowered = ap (λ n. mark_of c.lower.new.self v i + cond (eqb v f.writer && eqb i c.args.inode) n 0) (sym c.len.ensures) ∙ c.lower.ensures v i in
          let all = ap (λ (ms : Late). amount_by v (ascending ms)) c.in-Some.ensures.steps ∙ amount_append v (ascending c.next.new.self) last in
          let own = amount_cons v (c.in-Some.field-0-0.now.0, f) [] in
          let left : amount_by v (ascending c.next.new.self) + part_by v f ≡ amount_by v (ascending c.loop-fragment.fragment-iterator) = omega arith in
          let one = one_moved v i c.args.inode f (mark_of c.loop-fragment.marks v i) (mark_of c.lower.new.self v i) (amount_by v (ascending c.loop-fragment.fragment-iterator)) (amount_by v (ascending c.next.new.self)) lowered left in
          let so_far = c.loop-fragment.invariant.moved v i in
          omega arith;
    }

pub returns : goal.returns
returns c = λ v i. c.loop-fragment.invariant.moved v i ∙ ap (λ (ms : Late). mark_of c.args.marks.now v i + cond (eqb i c.args.inode) (amount_by v (ascending ms)) 0) c.in-None.ensures.steps.0
