-- A lawful run goes on by one request.
use Rattle.std.proofs.Common.{List, [], ◌∷◌, ◌++◌, refl, sym, ap, subst, ◌∙◌, append_assoc}
use Rattle.jffs_node.specs.declared.node.Node.{Node}
use Rattle.jffs_line.specs.declared.request.Request.{Request}
use Rattle.jffs_core.specs.declared.answer.Answer.{Answer}
use Rattle.jffs_core.specs.History.{AreOwnCopies, IsOwnCopy}
use Rattle.jffs_core.specs.Step.{Volume}
use Rattle.jffs_core.specs.Run.{OnlyCopies, IsAnswered, AreAnswered, IsInOrder, MayFollowAll, RunsGoOn}

-- copies after copies are copies
more_copies : (past copies later : List Node) → AreOwnCopies past copies → AreOwnCopies (copies ++ past) later → AreOwnCopies past (later ++ copies)
more_copies past copies [] h k = h
more_copies past copies (c ∷ later) h k =
    (more_copies past copies later h k.0, let P : List Node → Type 0 = λ nodes. IsOwnCopy nodes c in subst P (sym (append_assoc later copies past)) k.1)

pub copies_along : (past middle after : List Node) → OnlyCopies past middle → OnlyCopies middle after → OnlyCopies past after
copies_along past middle after h k = record {
  copies = k.copies ++ h.copies;
  true_copies = more_copies past h.copies k.copies h.true_copies (let P : List Node → Type 0 = λ nodes. AreOwnCopies nodes k.copies in subst P h.joined k.true_copies);
  joined = k.joined ∙ ap (λ nodes. k.copies ++ nodes) h.joined ∙ sym (append_assoc k.copies h.copies past);
}

pub none_made : (past : List Node) → OnlyCopies past past
none_made past = record { copies = []; true_copies = tt; joined = refl }

answered_later : (volume : Volume) (past middle after : List Node) (q : Request) (a : Answer) → OnlyCopies past middle → IsAnswered volume middle q a after → IsAnswered volume past q a after
answered_later volume past middle after q a h k = record {
  turn = k.turn;
  same_volume = k.same_volume;
  between = copies_along past middle k.turn.past h k.between;
  writer = k.writer;
  seq = k.seq;
  step = k.step;
}

one_more : (volume : Volume) (past middle after : List Node) (requests : List Request) (answers : List Answer) (q : Request) (a : Answer)
    → AreAnswered volume past requests answers middle → IsAnswered volume middle q a after → AreAnswered volume past (requests ++ q ∷ []) (answers ++ a ∷ []) after
one_more volume past middle after [] [] q a run step = (after, answered_later volume past middle after q a run step, none_made after)
one_more volume past middle after [] (b ∷ answers) q a run step = absurd run
one_more volume past middle after (r ∷ requests) [] q a run step = absurd run
one_more volume past middle after (r ∷ requests) (b ∷ answers) q a run step =
    (run.0, run.1, one_more volume run.0 middle after requests answers q a run.2 step)

order_goes_on : (answers : List Answer) (b : Answer) → IsInOrder answers → MayFollowAll answers b → IsInOrder (answers ++ b ∷ [])
order_goes_on [] b h k = tt
order_goes_on (a ∷ []) b h k = (k, tt)
order_goes_on (a ∷ c ∷ answers) b h k = (h.0, order_goes_on (c ∷ answers) b h.1 k)

pub run_goes_on : RunsGoOn
run_goes_on volume past middle after requests answers q a run may step = record {
  each = one_more volume past middle after requests answers q a run.each step;
  in_order = order_goes_on answers a run.in_order may;
}
