use Rattle.std.proofs.Common.{◌≡◌, ℕ, ◌+◌, ◌-◌, List, take, drop, ap, ◌∙◌, arith}
use Rattle.jffs_node.specs.declared.header.Head.{Head}
use Rattle.jffs_node.specs.Record.{len_of_data}
use Rattle.jffs_node.specs.Reading.{data_at}
use Rattle.jffs_node.specs.Header.{head_at}
use Rattle.jffs_node.proofs.Decoded.{fits_word, whole}
use Rattle.jffs_node.proofs.decoding.with_data.Goals as goal

pub overflow_cast-result : goal.overflow_cast-result
overflow_cast-result c = fits_word _ _ (c.len_with_data.ensures ∙ ap (λ (h : Head). len_of_data h.amount) c.requires.head) c.requires.short

-- the bytes after a head that are the record's data
part_is : (rest : List ℕ) (head : Head) → head ≡ head_at rest → take ((64 + head.amount) - 64) (drop 64 rest) ≡ data_at rest
part_is rest head e =
    let k : (64 + head.amount) - 64 ≡ head.amount = omega arith in
    ap (λ j. take j (drop 64 rest)) (k ∙ ap (λ (h : Head). h.amount) e)

pub returns-clause-read : goal.returns-clause-read
returns-clause-read c =
    whole c.args.rest.now c.args.head _ _ c.requires.head
    (c.in_ok-node.ensures.copied ∙ part_is c.args.rest.now c.args.head c.requires.head) c.len_with_data.ensures
