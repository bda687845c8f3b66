use Rattle.std.proofs.Common.{◌≡◌, ℕ, ◌&&◌, List, [], ◌∷◌, length, drop, Ok, Err, refl, sym, ap, ◌∙◌}
use Rattle.std.proofs.lemmas.Bool.{and_parts}
use Rattle.std.proofs.lemmas.Result.{err_from_is_err_and}
use Rattle.jffs_node.specs.declared.node.Node.{Node}
use Rattle.jffs_node.specs.declared.read.Why.TheVariants as why
use Rattle.jffs_node.specs.Record.{numbers_hold, fits_rest}
use Rattle.jffs_node.specs.Reading.{node_at, data_len, size_holds, padding_holds, first_broken, label_rules, rules, broken_rule}
use Rattle.jffs_node.specs.Header.{head_at, head_or_why}
use Rattle.jffs_node.proofs.Found.{none_broken}
use Rattle.jffs_node.proofs.Sound.{all_hold}
use Rattle.jffs_node.proofs.Rules.{rule_holds, refused, labels_read, labels_refused, broken_front, first_later, numbers_without_data, fits_rest_parts}
use Rattle.jffs_node.proofs.decoding.head_of.Goals as goal
use Rattle.jffs_node.proofs.decoding.head_of.Goals.{After-word_at-amount}

-- the rule on numbers, of the node that was read without its data
size_is : (rest : List ℕ) (record_max : ℕ) (n : Node) (amount : ℕ) → n ≡ (head_at rest).node → amount ≡ data_len rest
    → (numbers_hold n amount && fits_rest n.kind amount record_max (length rest)) ≡ size_holds record_max rest
size_is rest record_max n amount e a =
    (λ i. numbers_hold (e i) (a i) && fits_rest (e i).kind (a i) record_max (length rest))
    ∙ ap (λ t. t && fits_rest (node_at rest).kind (data_len rest) record_max (length rest)) (numbers_without_data (node_at rest) (data_len rest))

-- Where the labels were read, the last two rules decide.
others : (c : After-word_at-amount)
    → broken_rule c.args.record_max c.args.rest.now
    ≡ first_broken
    ((numbers_hold c.node_of-node.result c.word_at-amount.result && fits_rest c.node_of-node.result.kind c.word_at-amount.result c.args.record_max (length c.args.rest.now), why.Size)
    ∷ (padding_holds c.args.rest.now, why.Pad)
    ∷ [])
others c =
    let rest = c.args.rest.now in
    first_later (label_rules rest) (drop 6 (rules c.args.record_max rest)) (all_hold (label_rules rest) (labels_read rest (first_broken (label_rules rest)) _ c.in_ok-labels.ensures).0)
    ∙ ap (λ t. first_broken ((t, why.Size) ∷ (padding_holds rest, why.Pad) ∷ [])) (sym (size_is rest c.args.record_max _ _ c.node_of-node.ensures c.word_at-amount.ensures))

pub node_of-node-requires-clause-labels : goal.node_of-node-requires-clause-labels
node_of-node-requires-clause-labels c = (labels_read c.args.rest.now _ _ c.in_ok-labels.ensures).1

pub check_padding-requires-clause-fits : goal.check_padding-requires-clause-fits
check_padding-requires-clause-fits c = (fits_rest_parts _ _ _ _ (and_parts _ _ (rule_holds _ _ _ _ c.in_ok-check_numbers.ensures).0).1).1

pub returns-in_err-labels : goal.returns-in_err-labels
returns-in_err-labels c =
    let rest = c.args.rest.now in
    let is = err_from_is_err_and c.from_residual.result c.from_residual.ensures.1 in
    is.1
    ∙ ap (λ w. Err w) is.2
    ∙ sym (ap (head_or_why rest) (broken_front (label_rules rest) (drop 6 (rules c.args.record_max rest)) _ (labels_refused rest (first_broken (label_rules rest)) _ c.in_err-labels.ensures)))

pub returns-in_err-check_numbers : goal.returns-in_err-check_numbers
returns-in_err-check_numbers c =
    refused (head_or_why c.args.rest.now) [] ((padding_holds c.args.rest.now, why.Pad) ∷ []) _ _ _ _ _ _ (others (goal.at.returns-in_err-check_numbers c).After-word_at-amount) tt c.in_err-check_numbers.ensures
    (err_from_is_err_and c.from_residual-in_err-check_numbers.result c.from_residual-in_err-check_numbers.ensures.1) refl

pub returns-in_err-check_padding : goal.returns-in_err-check_padding
returns-in_err-check_padding c =
    refused (head_or_why c.args.rest.now) ((_, why.Size) ∷ []) [] _ _ _ _ _ _ (others (goal.at.returns-in_err-check_padding c).After-word_at-amount)
    ((rule_holds _ _ _ _ c.in_ok-check_numbers.ensures).0, tt) c.in_err-check_padding.ensures
    (err_from_is_err_and c.from_residual-in_err-check_padding.result c.from_residual-in_err-check_padding.ensures.1) refl

pub returns : goal.returns
returns c =
    (λ i. Ok (record { node = c.node_of-node.ensures i; amount = c.word_at-amount.ensures i }))
    ∙ sym (ap (head_or_why c.args.rest.now) (others (goal.at.returns c).After-word_at-amount
    ∙ none_broken ((_, why.Size) ∷ (_, why.Pad) ∷ []) ((rule_holds _ _ _ _ c.in_ok-check_numbers.ensures).0, ((rule_holds _ _ _ _ c.in_ok-check_padding.ensures).0, tt))))
