-- Each byte is that of its origin, or 0 where it has none.
use Rattle.std.proofs.Common.{◌≡◌, ℕ, ◌-◌, ◌<◌, true, false, cond, not, List, [], ◌∷◌, length, get_or, ⊎_elim, Option, sym, ap, ◌∙◌, arith}
use Rattle.std.specs.Option.{option_map_or}
use Rattle.std.proofs.lemmas.Bool.{cases_Bool, cases_lt}
use Rattle.std.proofs.lemmas.List.{get_or_past}
use Rattle.jffs_node.specs.declared.node.Node.{Node}
use Rattle.jffs_inodes.specs.Held.{bytes_of}
use Rattle.jffs_tree.specs.Origin.{concerns, entry, size_in, writes, offset_before, origin, origin_offset}
use Rattle.jffs_tree.specs.Laws.{BytesComeFromOrigins}
use Rattle.jffs_tree.proofs.states.Pointwise.{at-state}
use Rattle.jffs_tree.proofs.states.Steps.{entry-other, entry-deleted, entry-written, origin-other, origin-written, origin-moved, origin-padding, where_is, rewritten, byte_inside, byte_outside}

-- where in its origin's data a byte stood, one node back
module _ (i : ℕ) (n : Node) (past : List Node) (p : ℕ) where
  offset-other : concerns i n ≡ false → origin_offset (n ∷ past) i p ≡ origin_offset past i p
  offset-other c = ap (λ t. cond (not t) (origin_offset past i p) (cond (writes n p) (p - n.offset) (origin_offset past i (offset_before n p)))) c

  offset-written : concerns i n ≡ true → writes n p ≡ true → origin_offset (n ∷ past) i p ≡ p - n.offset
  offset-written c w =
      ap (λ t. cond (not t) (origin_offset past i p) (cond (writes n p) (p - n.offset) (origin_offset past i (offset_before n p)))) c
      ∙ ap (λ t. cond t (p - n.offset) (origin_offset past i (offset_before n p))) w

  offset-moved : concerns i n ≡ true → writes n p ≡ false → origin_offset (n ∷ past) i p ≡ origin_offset past i (offset_before n p)
  offset-moved c w =
      ap (λ t. cond (not t) (origin_offset past i p) (cond (writes n p) (p - n.offset) (origin_offset past i (offset_before n p)))) c
      ∙ ap (λ t. cond t (p - n.offset) (origin_offset past i (offset_before n p))) w

-- the byte at an offset of the data of a node, or 0 without a node
abbrev byte_at : Option Node → ℕ → ℕ
byte_at o q = option_map_or (λ n. get_or n.bytes q 0) o 0

sourced : (past : List Node) (i p : ℕ) → p < size_in past i → get_or (bytes_of (entry past i)) p 0 ≡ byte_at (origin past i p) (origin_offset past i p)
sourced [] i p l = absurd (omega arith)
sourced (n ∷ past) i p l = ⊎_elim
    (λ c. ⊎_elim
    (λ d. absurd (let e : size_in (n ∷ past) i ≡ 0 = ap (λ o. length (bytes_of o)) (entry-deleted i n past c d) in omega arith))
    (λ d.
    let after : bytes_of (entry (n ∷ past) i) ≡ rewritten n (bytes_of (entry past i)) = ap bytes_of (entry-written i n past c d) in
    let long : p < length (rewritten n (bytes_of (entry past i))) = (let e = ap (λ (x : List ℕ). length x) after in omega arith) in
    ap (λ (x : List ℕ). get_or x p 0) after ∙ ⊎_elim
    (λ w. byte_inside n (bytes_of (entry past i)) p w long
    ∙ ap (λ q. get_or n.bytes q 0) (sym (offset-written i n past p c w.0))
    ∙ ap (λ o. byte_at o (origin_offset (n ∷ past) i p)) (sym (origin-written i n past p c d w.0)))
    (λ w. byte_outside n (bytes_of (entry past i)) p w long ∙ ⊎_elim
    (λ there. sourced past i (offset_before n p) there
    ∙ ap (λ q. byte_at (origin past i (offset_before n p)) q) (sym (offset-moved i n past p c w.0))
    ∙ ap (λ o. byte_at o (origin_offset (n ∷ past) i p)) (sym (origin-moved i n past p c d w.0 there)))
    (λ beyond. get_or_past (bytes_of (entry past i)) (offset_before n p) 0 beyond
    ∙ ap (λ o. byte_at o (origin_offset (n ∷ past) i p)) (sym (origin-padding i n past p c d w.0 beyond)))
    (cases_lt (offset_before n p) (size_in past i)))
    (where_is n p))
    (cases_Bool n.deleted))
    (λ c.
    let same = ap bytes_of (entry-other i n past c) in
    let l' : p < size_in past i = (let e = ap (λ (x : List ℕ). length x) same in omega arith) in
    ap (λ (x : List ℕ). get_or x p 0) same ∙ sourced past i p l'
    ∙ ap (λ q. byte_at (origin past i p) q) (sym (offset-other i n past p c))
    ∙ ap (λ o. byte_at o (origin_offset (n ∷ past) i p)) (sym (origin-other i n past p c)))
    (cases_Bool (concerns i n))

pub bytes_come_from_origins : BytesComeFromOrigins
bytes_come_from_origins past i p l = ap (λ o. get_or (bytes_of o) p 0) (at-state past i) ∙ sourced past i p l
