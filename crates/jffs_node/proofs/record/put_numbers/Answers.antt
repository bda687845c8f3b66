use Rattle.std.proofs.Common.{◌≡◌, ℕ, List, [], ◌∷◌, ◌++◌, length, take, unwrap_or, ap, ◌∙◌, w16, w32, arith}
use Rattle.std.specs.Int.{to_be_bytes}
use Rattle.jffs_node.specs.Record.{dsize, magic, name_bytes, kind_byte, flags_byte, form_number}
use Rattle.jffs_node.proofs.record.put_numbers.Goals as goal

-- one more field
more : (front before part after field : List ℕ) → front ≡ before ++ part → before ≡ after → part ≡ field → front ≡ after ++ field
more front before part after field e f g = e ∙ ap (λ (xs : List ℕ). xs ++ part) f ∙ ap (λ (xs : List ℕ). after ++ xs) g

pub returns-clause-front : goal.returns-clause-front
returns-clause-front c =
    let n = c.args.node.now in
    let e1 : take c.put-at.result c.put-at.new.out ≡ magic = c.put-at.ensures.front in
    let e2 = more _ _ _ _ (kind_byte n.kind ∷ flags_byte n ∷ length (name_bytes n) ∷ c.args.gate ∷ []) c.put-at-2.ensures.front e1 (λ i. c.kind_byte.ensures i ∷ c.flags_byte.ensures i ∷ length (c.bytes_of_name.ensures.value i) ∷ c.args.gate ∷ []) in
    let e3 = more _ _ _ _ (to_be_bytes w32 n.inode) c.put-at-3.ensures.front e2 c.to_be_bytes.ensures in
    let e4 = more _ _ _ _ (to_be_bytes w32 n.parent) c.put-at-4.ensures.front e3 c.to_be_bytes-2.ensures in
    let e5 = more _ _ _ _ (to_be_bytes w32 n.version) c.put-at-5.ensures.front e4 c.to_be_bytes-3.ensures in
    let e6 = more _ _ _ _ (to_be_bytes w32 n.offset) c.put-at-6.ensures.front e5 c.to_be_bytes-4.ensures in
    let e7 = more _ _ _ _ (to_be_bytes w32 (dsize n)) c.put-at-7.ensures.front e6 (c.to_be_bytes-5.ensures ∙ ap (λ (xs : List ℕ). to_be_bytes w32 (length xs)) c.as_slice.ensures) in
    let e8 = more _ _ _ _ (to_be_bytes w32 n.rsize) c.put-at-8.ensures.front e7 c.to_be_bytes-6.ensures in
    let e9 = more _ _ _ _ (to_be_bytes w16 n.writer) c.put-at-9.ensures.front e8 c.to_be_bytes-7.ensures in
    let e10 = more _ _ _ _ (to_be_bytes w16 (form_number n)) c.put-at-10.ensures.front e9 (c.to_be_bytes-8.ensures ∙ ap (to_be_bytes w16) c.form_number.ensures) in
    let e11 = more _ _ _ _ (to_be_bytes w32 n.seq) c.put-at-11.ensures.front e10 c.to_be_bytes-9.ensures in
    let e12 = more _ _ _ _ (to_be_bytes w32 (unwrap_or n.size 0)) c.put.ensures.front e11 (c.to_be_bytes-10.ensures ∙ ap (to_be_bytes w32) c.unwrap_or.ensures) in
    let at : 44 ≡ c.put.result = omega arith in
    ap (λ k. take k c.put.new.out) at ∙ e12
