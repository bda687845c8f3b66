use Rattle.std.proofs.Common.{rules, ◌≡◌, List, [], ◌∷◌, ◌++◌, map, length, ap, sym, ◌∙◌, append_assoc, arith}
use Rattle.std.proofs.lemmas.List.{map-append}
use Rattle.rtrb.specs.Ring.{received, known_items}
use Rattle.jffs_line.specs.declared.request.Request.{Request}
use Rattle.jffs_line.specs.declared.rings.Note.{Note}
use Rattle.jffs_line.specs.Line.{End}
use Rattle.jffs_line.specs.Rings.{as_request}
use Rattle.jffs_line.proofs.Emptying.{left_in}
use Rattle.jffs_line.proofs.rings.settling.empty.Goals as goal

pub returns-in_err-reserve : goal.returns-in_err-reserve
returns-in_err-reserve c =
    let looked = c.slots_beside-count.ensures in
    let known : List Note = known_items c.slots_beside-count.new.self in (
      map (as_request c.args.ring.number) known,
      left_in c.args.ring c.args.hand known (ap (λ (x : End). x.0) c.requires) (ap (λ (l : List Note). l ++ known) (sym looked.looked.1) ∙ (looked.fifo ∙ looked.producer.1)),
      search rules,
    )

pub loop-index-preserved : goal.loop-index-preserved
loop-index-preserved c =
    let before = c.loop-index.invariant in
    let taken = before.taken_out in
    let note : Note = c.pop_known-note.result in
    let popped = c.pop_known-note.ensures.received in
    let known : List Note = known_items c.pop_known-note.new.self in
    let old : List Request = c.args.waiting.now.items in
    let request_of : Note → Request = as_request c.args.ring.number in
    let cons : length (known_items c.loop-index.consumer) ≡ length (note ∷ known) = ap length popped.1 in
    record {
      left = let left = before.left in omega arith;
      whole = ap (λ (l : List Note). l ++ known) popped.0
          ∙ (append_assoc (received c.loop-index.consumer) (note ∷ []) known
          ∙ (ap (λ (l : List Note). received c.loop-index.consumer ++ l) (sym popped.1) ∙ before.whole));
      taken_out = (
        taken.0 ++ note ∷ [],
        popped.0 ∙ (ap (λ (l : List Note). l ++ note ∷ []) taken.1 ∙ append_assoc (received c.args.ring.consumer) taken.0 (note ∷ [])),
        c.push_reserved.ensures.items
            ∙ (ap (λ (l : List Request). l ++ request_of note ∷ []) (c.reserve.ensures.items ∙ taken.2)
            ∙ (append_assoc old (map request_of taken.0) (request_of note ∷ [])
            ∙ ap (λ (l : List Request). old ++ l) (sym (map-append request_of taken.0 (note ∷ []))))),
      );
    }
