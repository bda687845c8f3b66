use Rattle.std.proofs.Common.{◌≡◌, ◌∙◌, ◌+◌, ◌-◌, List, ◌++◌, ℕ, drop, replicate, ap, arith}
use Rattle.std.proofs.lemmas.List.{drop-replicate}
use Rattle.jffs_node.specs.Record.{dsize, fields, fill_len, record_len}
use Rattle.jffs_node.proofs.record.encode_open_into.Goals as goal

pub returns : goal.returns
returns c =
    let n = c.args.node.now in
    let end = 64 + c.len-end.result in
    let filled : record_len n - end ≡ fill_len (dsize n) = omega arith in
    let rest : drop end c.args.out.now ≡ replicate (fill_len (dsize n)) 255 =
    ap (drop end) c.requires.erased ∙ drop-replicate end (record_len n) 255 ∙ ap (λ k. replicate k 255) filled in
    ap (λ (xs : List ℕ). xs ++ drop end c.args.out.now) c.put_fields.ensures ∙ ap (λ (xs : List ℕ). fields 255 n ++ xs) rest
