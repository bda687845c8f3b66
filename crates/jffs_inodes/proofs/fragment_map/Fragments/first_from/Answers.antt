use Rattle.std.proofs.Common.{◌∙◌, sym, ap, subst, nat_cmp}
use Rattle.std.specs.List.Sorted.{IsStrictlySortedBy}
use Rattle.std.specs.Map.{keys_of}
use Rattle.jffs_inodes.specs.Fragments.{FragmentMap, ascending, from, get}
use Rattle.jffs_marks.proofs.Order.{nat_low}
use Rattle.jffs_inodes.proofs.files.Reversed.{from_ascending, last_ascending, lookup_ascending, sorted_ascending}
use Rattle.jffs_inodes.proofs.fragment_map.Fragments.first_from.Goals as goal

pub returns-in_default-clause-none : goal.returns-in_default-clause-none
returns-in_default-clause-none c =
    sym (ap ascending (c.range-later.ensures.between tt) ∙ from_ascending c.args.at c.self.inside.map.entries ∙ ap (λ (m : FragmentMap). from c.args.at m.entries) c.self.view_is)
    ∙ ap ascending c.in_default.ensures.steps.0

pub returns-in_default-clause-ordered : goal.returns-in_default-clause-ordered
returns-in_default-clause-ordered c = subst (λ (m : FragmentMap). IsStrictlySortedBy nat_cmp (keys_of m.entries)) c.self.view_is (sorted_ascending c.self.inside.map.entries c.self.invariant)

pub returns-clause-first : goal.returns-clause-first
returns-clause-first c = (
  ascending c.next_back.new.self,
  sym (ap ascending (c.range-later.ensures.between tt) ∙ from_ascending c.args.at c.self.inside.map.entries ∙ ap (λ (m : FragmentMap). from c.args.at m.entries) c.self.view_is)
      ∙ last_ascending c.range-later.result c.next_back.new.self (c.in-Some.first.now, c.in-Some.fragment.now) c.in-Some.ensures.steps,
)

pub returns-clause-ordered : goal.returns-clause-ordered
returns-clause-ordered c = subst (λ (m : FragmentMap). IsStrictlySortedBy nat_cmp (keys_of m.entries)) c.self.view_is (sorted_ascending c.self.inside.map.entries c.self.invariant)

pub returns-clause-there : goal.returns-clause-there
returns-clause-there c =
    let last = (c.range-later.ensures.in_range tt).3 (c.in-Some.first.now, c.in-Some.fragment.now) c.next_back.new.self c.in-Some.ensures.steps in (
      sym (ap (λ (m : FragmentMap). get nat_cmp m c.in-Some.first.now.0) c.self.view_is) ∙ sym (lookup_ascending c.in-Some.first.now.0 c.self.inside.map.entries c.self.invariant) ∙ last.1,
      nat_low c.args.at c.in-Some.first.now.0 last.0.1,
    )
