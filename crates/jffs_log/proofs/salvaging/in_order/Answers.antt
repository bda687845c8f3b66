-- Each call of the closure gives the version.
use Rattle.std.proofs.Common.{◌≡◌, rules}
use Rattle.std.proofs.lemmas.Fn.{always_returns_same}
use Rattle.std.proofs.lemmas.List.Sorted.{IsNonDecreasingBy-from_sort}
use Rattle.jffs_log.specs.Salvage.{version_at}
use Rattle.jffs_log.proofs.salvaging.in_order.Goals as goal

pub returns : goal.returns
returns c =
    let gives = always_returns_same _ (λ a r. r ≡ version_at a.0.now) _ (λ a r q k. search rules) in
    record {
      same = c.in_ok-sort_by_key.ensures.permutation;
      rise = IsNonDecreasingBy-from_sort version_at _ (c.in_ok-sort_by_key.ensures.sorted version_at gives);
      stable = c.in_ok-sort_by_key.ensures.stable version_at gives;
    }
