use Rattle.std.proofs.Common.{sym}
use Rattle.jffs_node.proofs.Pieces.{piece_before, one_piece_if}
use Rattle.jffs_node.proofs.path.split_first_name.Goals as goal

pub returns-in-Some-clause-pieces : goal.returns-in-Some-clause-pieces
returns-in-Some-clause-pieces c = piece_before c.args.text.now c.in-Some.end (sym c.in-Some.ensures)

pub returns-in-None-clause-pieces : goal.returns-in-None-clause-pieces
returns-in-None-clause-pieces c = one_piece_if c.args.text.now (sym c.in-None.ensures)
