use Rattle.std.proofs.Common.{◌≡◌, List, [], ◌∷◌, ◌++◌, map, ◌∙◌, sym, subst}
use Rattle.std.proofs.lemmas.List.Elements.{All-nil, All-cons, All-append, All-weaker}
use Rattle.crossbeam_channel.specs.Ends.{sends_on, ruled_capacity}
use Rattle.jffs_line.specs.declared.shared.SharedHand.{SharedHand}
use Rattle.jffs_line.specs.Line.{senders}
use Rattle.jffs_line.specs.Shared.{channel_line, shared_end, shared_accepted, shared_capacity}
use Rattle.jffs_line.proofs.Steps.{begins}
use Rattle.jffs_line.proofs.Making.{named, ends_all, numbers_all}
use Rattle.jffs_line.proofs.shared.make.line.Goals as goal

pub bounded_with-requires-clause-rule : goal.bounded_with-requires-clause-rule
bounded_with-requires-clause-rule c = begins

all_ends : (c : goal.After-drop-sends-2)
    → map shared_end (c.in_ok-hands.hands.items ++ c.in_ok-cleaner.cleaner ∷ c.new.result.hand ∷ []) ≡ map (named (channel_line (sends_on c.in_ok-sends.sends))) (senders c.args.writers)
all_ends c =
    let line = channel_line (sends_on c.in_ok-sends.sends) in
    let hs = c.in_ok-hands.hands.items in
    let cleaner = c.in_ok-cleaner.cleaner in
    subst (λ (h : SharedHand). map shared_end (hs ++ cleaner ∷ h ∷ []) ≡ map (named line) (senders c.args.writers)) (sym c.new.ensures)
    (ends_all line hs cleaner c.in_ok-control.control c.args.writers c.in_ok-hands.ensures.writers.ends c.in_ok-cleaner.ensures.hand.0 c.in_ok-control.ensures.hand.0)

pub returns-clause-ends : goal.returns-clause-ends
returns-clause-ends c = rw c.in_ok-sends.ensures.0 (sym (all_ends c))

pub returns-clause-senders : goal.returns-clause-senders
returns-clause-senders c = numbers_all _ _ c.args.writers (all_ends c)

pub returns-clause-fresh : goal.returns-clause-fresh
returns-clause-fresh c =
    let Q : SharedHand → Type 0 = λ h. (shared_accepted h ≡ []) × (shared_capacity h ≡ ruled_capacity (sends_on c.in_ok-sends.sends)) in
    let P : SharedHand → Type 0 = λ h. (shared_accepted h ≡ []) × (shared_capacity h ≡ c.args.capacity) in
    let cleaner = c.in_ok-cleaner in
    let control = c.in_ok-control in
    let last : Q c.new.result.hand = subst Q (sym c.new.ensures) (control.ensures.hand.1, control.ensures.hand.2) in
    let rest : List SharedHand = c.new.result.hand ∷ [] in
    All-weaker Q P (λ h q. (q.0, q.1 ∙ c.in_ok-sends.ensures.1)) (c.in_ok-hands.hands.items ++ cleaner.cleaner ∷ rest)
    (All-append Q c.in_ok-hands.hands.items (cleaner.cleaner ∷ rest) c.in_ok-hands.ensures.writers.fresh
    (All-cons Q cleaner.cleaner rest (cleaner.ensures.hand.1, cleaner.ensures.hand.2) (All-cons Q c.new.result.hand [] last (All-nil Q))))
