use Rattle.std.proofs.Common.{rules, ◌≤◌, List, [], ◌∷◌, ◌++◌, length, map, refl, sym, subst, ◌∙◌, append_assoc, append-nil, arith}
use Rattle.jffs_tree.specs.declared.wish.Wish.{Wish}
use Rattle.jffs_line.specs.declared.request.Request.{Request}
use Rattle.jffs_line.specs.Requests.{request}
use Rattle.jffs_serve.specs.Copies.{HandsInCopies, AreSome}
use Rattle.jffs_serve.specs.Copying.{wish_of}
use Rattle.jffs_serve.proofs.Copying.{hands_in_more, counted, asks_one, asks_none}
use Rattle.jffs_serve.proofs.cleaner.hand_in_all.Goals as goal

pub loop-copy-preserved-in-Some-hand_in : goal.loop-copy-preserved-in-Some-hand_in
loop-copy-preserved-in-Some-hand_in g c =
    let one = c.in-Some-hand_in.ensures.accepted.1 in
    let grown = counted (g.H.Hand.accepted c.loop-copy.hand) (g.H.Hand.accepted c.hand_in.new.hand) 1 one in
    let before = c.loop-copy.invariant.asked in
    let r : Request = request (g.H.Hand.sender c.loop-copy.hand) c.in-Some-hand_in._seq (wish_of c.in-Some.copy) in
    record {
      counted = omega arith;
      copies = λ before was. hands_in_more before (g.H.Hand.accepted c.loop-copy.hand) (g.H.Hand.accepted c.hand_in.new.hand) c.loop-copy.end.handed_in 1 (c.loop-copy.invariant.copies before was) one;
      asked = (
        before.0 ++ r ∷ [],
        rw (c.in-Some-hand_in.ensures.asked, before.1) (append_assoc (g.H.Hand.accepted c.args.hand.now) before.0 (r ∷ [])),
        asks_one before.0 r c.in-Some.copy c.loop-copy.copy-iterator.rest.items c.next.new.self.rest.items c.args.copies.items c.in-Some.ensures.steps.0 refl before.2,
      );
      sender = search rules;
      line = search rules;
    }

pub loop-copy-preserved : goal.loop-copy-preserved
loop-copy-preserved g c =
    let same = sym c.in_default.ensures.refused in
    let before = c.loop-copy.invariant.asked in
    record {
      counted = subst (λ (now : List Request). c.loop-copy.end.handed_in ≤ length now) same c.loop-copy.invariant.counted;
      copies = λ before was. subst (λ (now : List Request). HandsInCopies before now c.loop-copy.end.handed_in) same (c.loop-copy.invariant.copies before was);
      asked = (
        before.0,
        c.in_default.ensures.refused ∙ before.1,
        asks_none before.0 c.in-Some.copy c.loop-copy.copy-iterator.rest.items c.next.new.self.rest.items c.args.copies.items c.in-Some.ensures.steps.0 before.2,
      );
      sender = search rules;
      line = search rules;
    }

pub returns-clause-asked : goal.returns-clause-asked
returns-clause-asked g c =
    let all = c.loop-copy.invariant.asked in
    let wish : Request → Wish = λ r. r.wish in
    (all.0, all.1, subst (λ (ws : List Wish). AreSome ws (map wish_of c.args.copies.items)) (append-nil (map wish all.0)) (all.2 [] tt))
