use Rattle.std.proofs.Common.{◌++◌, List, ℕ, ap, subst, sym, ◌∙◌}
use Rattle.std.specs.List.Sorted.{IsStrictlySortedBy}
use Rattle.jffs_tree.specs.Index.{ChildKey, names_under}
use Rattle.jffs_tree.specs.Look.{name_cmp}
use Rattle.jffs_tree.proofs.listing.Listed.{IsFrom, same_names, range_from, names_rise, behind_first, read_name, read_none, read_all, stopped}
use Rattle.jffs_tree.proofs.children.names_of.Goals as goal
use Rattle.jffs_tree.proofs.children.names_of.Goals.{in-None, in-Some+then-directory-parent}

pub loop-key-init : goal.loop-key-init
loop-key-init c =
    let p = c.args.parent in
    let all = c.args.children.now.keys in
    let given = c.into_iter-key-iterator.ensures.into_iter_gives ∙ c.range-key-items.ensures.between tt in
    record {
      can_next = tt;
      is_finite = tt;
      from = subst (λ (xs : List ChildKey). IsFrom p xs) (sym given) (range_from p all c.range-key-items.ensures.ordered);
      left = ap (λ (xs : List (List ℕ × ℕ)). xs ++ names_under p c.into_iter-key-iterator.result) c.new-names.ensures.items
          ∙ ap (λ (xs : List ChildKey). names_under p xs) given ∙ same_names p all;
    }

pub loop-key-preserved-in-Continue-1 : goal.loop-key-preserved-in-Continue-1
loop-key-preserved-in-Continue-1 c =
    let p = c.args.parent in
    let old = c.loop-key.invariant in
    record {
      can_next = tt;
      is_finite = tt;
      from = behind_first p c.loop-key.key-iterator c.in-Some.key.now c.next.new.self c.in-Some.ensures.steps old.from;
      left = ap (λ (xs : List (List ℕ × ℕ)). xs ++ names_under p c.next.new.self) c.in_ok-push.ensures.items
          ∙ read_name p c.loop-key.names.items (names_under p c.args.children.now.keys) c.loop-key.key-iterator old.left
          c.in-Some.key.now c.next.new.self c.in-Some-name.name c.in-Some.ensures.steps c.if-directory-parent.false c.in-Some-name.is;
    }

pub loop-key-preserved : goal.loop-key-preserved
loop-key-preserved c =
    let p = c.args.parent in
    let old = c.loop-key.invariant in
    record {
      can_next = tt;
      is_finite = tt;
      from = behind_first p c.loop-key.key-iterator c.in-Some.key.now c.next.new.self c.in-Some.ensures.steps old.from;
      left = read_none p c.loop-key.names.items (names_under p c.args.children.now.keys) c.loop-key.key-iterator old.left
          c.in-Some.key.now c.next.new.self c.in-Some.ensures.steps c.in_default.is;
    }

pub returns-clause-all : goal.returns-clause-all
returns-clause-all c = elim c.match-next.branch [
  | in-None w ↦ read_all c.args.parent c.loop-key.names.items (names_under c.args.parent c.args.children.now.keys) c.loop-key.key-iterator c.loop-key.invariant.left
      w.in-None.ensures.steps.0
  | in-Some+then-directory-parent w ↦ stopped c.args.parent c.loop-key.names.items (names_under c.args.parent c.args.children.now.keys) c.loop-key.key-iterator c.loop-key.invariant.left
      w.in-Some.key.now c.next.new.self w.in-Some.ensures.steps c.loop-key.invariant.from w.if-directory-parent.true
]

pub returns-clause-rising : goal.returns-clause-rising
returns-clause-rising c =
    subst (λ (xs : List (List ℕ × ℕ)). IsStrictlySortedBy name_cmp xs) (sym (returns-clause-all c))
    (names_rise c.args.parent c.args.children.now.keys c.range-key-items.ensures.ordered)
