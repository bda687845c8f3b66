use Rattle.jffs_tree.proofs.states.Erasing.{erasing_keeps_state, erasing_keeps_tree as by_bytes, erasing_keeps_origins}
use Rattle.jffs_tree.proofs.states.Rules.{rules_give_origins, erasing_keeps_rules}
use Rattle.jffs_tree.proofs.laws.erasing_keeps_tree.Goals as goal

pub returns : goal.returns
returns c = record {
  state = erasing_keeps_state;
  tree = by_bytes;
  origins = erasing_keeps_origins;
  given = rules_give_origins;
  rules = erasing_keeps_rules;
}
