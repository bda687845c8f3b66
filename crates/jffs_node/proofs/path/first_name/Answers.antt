use Rattle.std.proofs.Common.{sym, ◌∙◌}
use Rattle.jffs_node.proofs.Pieces.{piece_before, whole_name, name_to_slash}
use Rattle.jffs_node.proofs.path.first_name.Goals as goal

pub returns-in-None-clause-pieces : goal.returns-in-None-clause-pieces
returns-in-None-clause-pieces c = (whole_name c.args.text.now (sym c.in-None.ensures)).0

pub returns-in-None-clause-fault : goal.returns-in-None-clause-fault
returns-in-None-clause-fault c = c.fault_of_length.ensures ∙ sym (whole_name c.args.text.now (sym c.in-None.ensures)).1

pub returns-in-Some-clause-pieces : goal.returns-in-Some-clause-pieces
returns-in-Some-clause-pieces c =
    piece_before c.args.text.now c.in-Some.end (name_to_slash c.args.text.now c.in-Some.end (sym c.in-Some.ensures) c.if-text-end-eq-SLASH.true).0

pub returns-in-Some-clause-fault : goal.returns-in-Some-clause-fault
returns-in-Some-clause-fault c =
    c.fault_of_length-in-Some.ensures ∙ sym (name_to_slash c.args.text.now c.in-Some.end (sym c.in-Some.ensures) c.if-text-end-eq-SLASH.true).1
