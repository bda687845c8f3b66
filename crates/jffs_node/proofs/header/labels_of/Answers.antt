use Rattle.std.proofs.Common.{◌≡◌, [], take, drop, Ok, refl, sym, ap, ◌∙◌}
use Rattle.std.proofs.lemmas.Result.{err_from_is_err_and}
use Rattle.jffs_node.specs.Reading.{first_broken, label_rules}
use Rattle.jffs_node.specs.Header.{labels_or_why}
use Rattle.jffs_node.proofs.Found.{none_broken}
use Rattle.jffs_node.proofs.Rules.{rule_holds, first_later, refused}
use Rattle.jffs_node.proofs.header.labels_of.Goals as goal
use Rattle.jffs_node.proofs.header.labels_of.Goals.{In_ok-flags}

-- The first three rules hold, so the others decide.
others : (c : In_ok-flags) → first_broken (label_rules c.args.rest.now) ≡ first_broken (drop 3 (label_rules c.args.rest.now))
others c =
    first_later (take 3 (label_rules c.args.rest.now)) (drop 3 (label_rules c.args.rest.now))
    ((rule_holds _ _ _ _ c.in_ok-check_magic.ensures).0, ((rule_holds _ _ _ _ c.in_ok-kind.ensures).0, ((rule_holds _ _ _ _ c.in_ok-flags.ensures).0, tt)))

pub returns-in_err-name : goal.returns-in_err-name
returns-in_err-name c =
    refused (labels_or_why c.args.rest.now) [] (drop 4 (label_rules c.args.rest.now)) _ _ _ _ _ _ (others (goal.at.returns-in_err-name c).In_ok-flags) tt c.in_err-name.ensures
    (err_from_is_err_and c.from_residual-in_err-name.result c.from_residual-in_err-name.ensures.1) refl

pub returns-in_err-stated : goal.returns-in_err-stated
returns-in_err-stated c =
    let rules = drop 3 (label_rules c.args.rest.now) in
    refused (labels_or_why c.args.rest.now) (take 1 rules) (drop 2 rules) _ _ _ _ _ _ (others (goal.at.returns-in_err-stated c).In_ok-flags)
    ((rule_holds _ _ _ _ c.in_ok-name.ensures).0, tt) c.in_err-stated.ensures
    (err_from_is_err_and c.from_residual-in_err-stated.result c.from_residual-in_err-stated.ensures.1) refl

pub returns-in_err-size : goal.returns-in_err-size
returns-in_err-size c =
    let rules = drop 3 (label_rules c.args.rest.now) in
    refused (labels_or_why c.args.rest.now) (take 2 rules) [] _ _ _ _ _ _ (others (goal.at.returns-in_err-size c).In_ok-flags)
    ((rule_holds _ _ _ _ c.in_ok-name.ensures).0, ((rule_holds _ _ _ _ c.in_ok-stated.ensures).0, tt)) c.in_err-size.ensures
    (err_from_is_err_and c.from_residual-in_err-size.result c.from_residual-in_err-size.ensures.1) refl

pub returns : goal.returns
returns c =
    let kind = (rule_holds _ _ _ _ c.in_ok-kind.ensures).1 in
    let flags = (rule_holds _ _ _ _ c.in_ok-flags.ensures).1 in
    let name = rule_holds _ _ _ _ c.in_ok-name.ensures in
    let size = rule_holds _ _ _ _ c.in_ok-size.ensures in
    (λ i. Ok (record { kind = kind i; flags = flags i; name = name.1 i; size = size.1 i }))
    ∙ sym (ap (labels_or_why c.args.rest.now) (others (goal.at.returns c).In_ok-flags
    ∙ none_broken (drop 3 (label_rules c.args.rest.now)) (name.0, ((rule_holds _ _ _ _ c.in_ok-stated.ensures).0, (size.0, tt)))))
