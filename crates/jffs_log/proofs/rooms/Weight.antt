-- The weight of the live log is that of the whole history.
use Rattle.std.proofs.Common.{◌≡◌, Bool, false, cond, eqb, List, [], ◌∷◌, ◌++◌, filter, flat_map, sum_by, refl, sym, ap, ◌∙◌}
use Rattle.std.specs.List.{list_any, AllByRecursion}
use Rattle.jffs_node.specs.declared.node.Node.{Node}
use Rattle.jffs_node.specs.Record.{record_len}
use Rattle.jffs_tree.specs.Origin.{is_live}
use Rattle.jffs_inodes.specs.Held.{versions_held}
use Rattle.jffs_tree.proofs.states.Rules.{erasing_keeps_rules}
use Rattle.jffs_log.specs.Laws.{ErasingKeepsWeight}

pub kept_front : (p : Node → Bool) (xs ys : List Node) → AllByRecursion (λ n. p n ≡ false) ys → filter p (xs ++ ys) ≡ filter p xs
kept_front p [] [] h = refl
kept_front p [] (y ∷ ys) h = ap (λ t. cond t (y ∷ filter p ys) (filter p ys)) h.0 ∙ kept_front p [] ys h.1
kept_front p (x ∷ xs) ys h = let later = kept_front p xs ys h in λ i. cond (p x) (x ∷ later i) (later i)

pub weight_kept : ErasingKeepsWeight
weight_kept recent oldest dead rules =
    let same = (erasing_keeps_rules recent oldest dead rules).0 in
    ap (λ tree. sum_by record_len (filter (λ n. list_any (λ w. eqb w n.version) (flat_map versions_held tree)) recent)) same
    ∙ ap (λ nodes. sum_by record_len nodes) (sym (kept_front (λ n. is_live (recent ++ oldest) n.version) recent oldest dead))
