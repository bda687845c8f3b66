-- A lawful run keeps the contents.
use Rattle.std.proofs.Common.{◌≡◌, ℕ, true, false, cond, not, List, [], ◌∷◌, ◌++◌, filter, inl, inr, ⊎_elim, Ok, refl, sym, ap, subst, ◌∙◌, append_assoc}
use Rattle.std.proofs.lemmas.Bool.{and_left, and_right, not_from_true}
use Rattle.jffs_node.specs.declared.node.Node.{Node}
use Rattle.jffs_node.specs.Record.{is_fresh, is_unmount}
use Rattle.jffs_tree.specs.declared.wish.Wish.{Wish}
use Rattle.jffs_tree.specs.declared.wish.Wish.TheVariants.{Copy, Unmount}
use Rattle.jffs_tree.specs.declared.wish.Limits.{Limits}
use Rattle.jffs_tree.specs.declared.wish.NewNode.{NewNode}
use Rattle.jffs_tree.specs.declared.wish.Outcome.{Outcome}
use Rattle.jffs_tree.specs.declared.wish.Outcome.TheVariants.{Appended, Copied, Closed, Refused}
use Rattle.jffs_inodes.specs.Held.{Entry}
use Rattle.jffs_tree.specs.State.{State, apply, state_of_past}
use Rattle.jffs_tree.specs.Origin.{IsTrueCopy}
use Rattle.jffs_tree.specs.Decide.{decide, with, unmount_node, is_copy_wish, is_unmount_wish}
use Rattle.jffs_line.specs.declared.request.Request.{Request}
use Rattle.jffs_core.specs.declared.answer.Answer.{Answer}
use Rattle.jffs_core.specs.History.{apply_all, AreOwnCopies, MayFollow, IsGrown, Grows, ContentsAreState}
use Rattle.jffs_core.specs.Step.{Volume, Turn, IsStep, OutcomeIs, node_of}
use Rattle.jffs_core.specs.Run.{OnlyCopies, AreAnswered, LawfulRunsGrow}
use Rattle.jffs_tree.proofs.states.TrueCopy.{true_copy_keeps_state}
use Rattle.jffs_tree.proofs.decisions.Copies.{accepted_copies_are_true}
use Rattle.jffs_tree.proofs.decisions.Decided.{nothing_stands}

fresh_step : (s : State) (n : Node) (nodes : List Node) → is_fresh n ≡ true → apply_all s (filter is_fresh (n ∷ nodes)) ≡ apply (apply_all s (filter is_fresh nodes)) n
fresh_step s n nodes f = ap (λ t. apply_all s (cond t (n ∷ filter is_fresh nodes) (filter is_fresh nodes))) f

other_step : (s : State) (n : Node) (nodes : List Node) → is_fresh n ≡ false → apply_all s (filter is_fresh (n ∷ nodes)) ≡ apply_all s (filter is_fresh nodes)
other_step s n nodes f = ap (λ t. apply_all s (cond t (n ∷ filter is_fresh nodes) (filter is_fresh nodes))) f

unmount_keeps : (s : State) (n : Node) → is_unmount n.kind ≡ true → apply s n ≡ s
unmount_keeps s n u = rw u

pub contents_are_state : ContentsAreState
contents_are_state mounted [] h = refl
contents_are_state mounted (n ∷ added) h =
    let before = contents_are_state mounted added h.0 in
    let s = state_of_past mounted in
    ⊎_elim
    (λ fresh. fresh_step s n added fresh ∙ ap (λ x. apply x n) before)
    (λ other. ⊎_elim
    (λ unmount. other_step s n added (and_right (not n.copy) (not (is_unmount n.kind)) (not_from_true (is_unmount n.kind) unmount))
    ∙ before ∙ sym (unmount_keeps (state_of_past (added ++ mounted)) n unmount))
    (λ copy. other_step s n added (and_left (not n.copy) (not (is_unmount n.kind)) (not_from_true n.copy copy.1.flag))
    ∙ before ∙ sym (true_copy_keeps_state (added ++ mounted) n copy.0 copy.1))
    other)
    h.1

-- Growing.
pub no_growth : (past : List Node) → Grows past past
no_growth past = record { added = []; joined = refl; grown = tt }

more_growth : (past first later : List Node) → IsGrown past first → IsGrown (first ++ past) later → IsGrown past (later ++ first)
more_growth past first [] h k = h
more_growth past first (n ∷ later) h k =
    (more_growth past first later h k.0, let P : List Node → Type 0 = λ nodes. MayFollow nodes n in subst P (sym (append_assoc later first past)) k.1)

pub grows_along : (past middle after : List Node) → Grows past middle → Grows middle after → Grows past after
grows_along past middle after h k = record {
  added = k.added ++ h.added;
  joined = k.joined ∙ ap (λ nodes. k.added ++ nodes) h.joined ∙ sym (append_assoc k.added h.added past);
  grown = more_growth past h.added k.added h.grown (let P : List Node → Type 0 = λ nodes. IsGrown nodes k.added in subst P h.joined k.grown);
}

copies_grow : (past copies : List Node) → AreOwnCopies past copies → IsGrown past copies
copies_grow past [] h = tt
copies_grow past (c ∷ copies) h = (copies_grow past copies h.0, inr (inr h.1.3))

pub only_copies_grow : (past after : List Node) → OnlyCopies past after → Grows past after
only_copies_grow past after h = record { added = h.copies; joined = h.joined; grown = copies_grow past h.copies h.true_copies }

-- an accepted Unmount gives the unmount node
pub unmount_given : (past : List Node) (limits : Limits) (wish : Wish) (n : NewNode) → is_unmount_wish wish ≡ true → decide past limits wish ≡ Ok n → unmount_node ≡ n
unmount_given past limits Unmount n w is = (nothing_stands past limits Unmount n is).1
unmount_given past limits _ n w is = cc

-- an accepted Copy gives a true copy
pub copy_given : (past : List Node) (limits : Limits) (wish : Wish) (n : NewNode) (version writer seq : ℕ) → is_copy_wish wish ≡ true → decide past limits wish ≡ Ok n
    → (e : Entry) × IsTrueCopy past (with n version writer seq) e
copy_given past limits (Copy source parent name offset bytes) n version writer seq w is = accepted_copies_are_true past limits source parent name offset bytes n version writer seq is
copy_given past limits _ n version writer seq w is = cc

-- what the request itself added
own_grows : (t : Turn) (q : Request) (o : Outcome) (copies own : List Node) → OutcomeIs o t q copies own → IsGrown (copies ++ t.past) own
own_grows t q (Appended inode version) copies own h =
    subst (λ nodes. IsGrown (copies ++ t.past) nodes) (sym h.added) (tt, inl h.fresh)
own_grows t q (Copied version) copies own h =
    let true_copy = copy_given t.past _ q.wish h.new version q.writer q.seq h.wish h.decided in
    subst (λ nodes. IsGrown (copies ++ t.past) nodes) (sym h.added)
    (tt, inr (inr (subst (λ (cs : List Node). (e : Entry) × IsTrueCopy (cs ++ t.past) (node_of h.new q version) e) (sym h.none) true_copy)))
own_grows t q Closed copies own h = ⊎_elim
    (λ clean. subst (λ nodes. IsGrown (copies ++ t.past) nodes) (sym clean.1) tt)
    (λ made. subst (λ nodes. IsGrown (copies ++ t.past) nodes) (sym made.added)
    (tt, inr (inl (ap (λ (n : NewNode). is_unmount n.kind) (sym (unmount_given t.past _ q.wish made.new h.wish made.decided))))))
    h.node
own_grows t q (Refused cause) copies own h = subst (λ nodes. IsGrown (copies ++ t.past) nodes) (sym h.1) tt

pub step_grows : (t : Turn) (q : Request) (o : Outcome) (after : List Node) → IsStep t q o after → Grows t.past after
step_grows t q o after h = record {
  added = h.own ++ h.copies;
  joined = h.joined ∙ append_assoc_own h.own h.copies t.past;
  grown = more_growth t.past h.copies h.own (copies_grow t.past h.copies h.copies_are_true) (own_grows t q o h.copies h.own h.outcome);
}
  where
    append_assoc_own : (a b c : List Node) → a ++ b ++ c ≡ (a ++ b) ++ c
    append_assoc_own a b c = refl

answered_grow : (volume : Volume) (past after : List Node) (requests : List Request) (answers : List Answer) → AreAnswered volume past requests answers after → Grows past after
answered_grow volume past after [] [] h = only_copies_grow past after h
answered_grow volume past after [] (a ∷ answers) h = absurd h
answered_grow volume past after (q ∷ requests) [] h = absurd h
answered_grow volume past after (q ∷ requests) (a ∷ answers) h =
    grows_along past h.0 after
    (grows_along past h.1.turn.past h.0 (only_copies_grow past h.1.turn.past h.1.between) (step_grows h.1.turn q a.outcome h.0 h.1.step))
    (answered_grow volume h.0 after requests answers h.2)

pub lawful_runs_grow : LawfulRunsGrow
lawful_runs_grow volume past after requests answers h = answered_grow volume past after requests answers h.each
