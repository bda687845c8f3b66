use Rattle.std.proofs.Common.{◌≡◌, ℕ, ◌+◌, ◌-◌, true, false, eqb, List, take, drop, sym, ap, ◌∙◌, arith}
use Rattle.std.specs.List.{list_all}
use Rattle.std.proofs.lemmas.List.{drop-take}
use Rattle.jffs_node.specs.Record.{len_of_data, fill_len}
use Rattle.jffs_node.specs.Reading.{data_len, padding_holds}
use Rattle.jffs_node.specs.declared.read.Why.TheVariants.{Pad}
use Rattle.jffs_node.specs.Header.{checked}
use Rattle.jffs_node.proofs.decoding.check_padding.Goals as goal

-- the padding, cut from the other side
padding_is : (rest : List ℕ) (amount len : ℕ) → amount ≡ data_len rest → len ≡ len_of_data amount → list_all (λ b. eqb b 255) (take (len - (64 + amount)) (drop (64 + amount) rest)) ≡ padding_holds rest
padding_is rest amount len a l =
    let k : len - (64 + amount) ≡ fill_len amount = omega arith in
    ap (λ k. list_all (λ b. eqb b 255) (take k (drop (64 + amount) rest))) k
    ∙ ap (λ (xs : List ℕ). list_all (λ b. eqb b 255) xs) (sym (drop-take (64 + amount) (fill_len amount) rest))
    ∙ ap (λ k. list_all (λ b. eqb b 255) (drop (64 + k) (take (len_of_data k) rest))) a

pub returns-then-is_erased : goal.returns-then-is_erased
returns-then-is_erased c =
    let rest = c.args.rest.now in
    let holds : padding_holds rest ≡ true = sym (padding_is rest _ _ c.requires.amount c.len_with_data-len.ensures) ∙ sym c.is_erased.ensures ∙ c.if-is_erased.true in
    sym (ap (λ t. checked t Pad tt) holds)

pub returns-else-is_erased : goal.returns-else-is_erased
returns-else-is_erased c =
    let rest = c.args.rest.now in
    let broken : padding_holds rest ≡ false = sym (padding_is rest _ _ c.requires.amount c.len_with_data-len.ensures) ∙ sym c.is_erased.ensures ∙ c.if-is_erased.false in
    sym (ap (λ t. checked t Pad tt) broken)
