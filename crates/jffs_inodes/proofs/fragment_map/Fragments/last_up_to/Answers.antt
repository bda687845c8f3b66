use Rattle.std.proofs.Common.{◌∙◌, ◌+◌, ℕ, sym, ap, nat_cmp}
use Rattle.std.specs.BTreeMap.Range.{IsEntryInRange}
use Rattle.std.specs.declared.cmp.Reverse.{Reverse}
use Rattle.std.specs.declared.ops.Bound.TheVariants.{Unbounded, Included}
use Rattle.jffs_inodes.specs.declared.fragment.Fragment.{Fragment}
use Rattle.jffs_inodes.specs.Fragments.{FragmentMap, ascending, before, get, late_cmp}
use Rattle.jffs_marks.proofs.Order.{of_first, nat_low}
use Rattle.jffs_inodes.proofs.files.Reversed.{before_ascending, lookup_ascending}
use Rattle.jffs_inodes.proofs.fragment_map.Fragments.last_up_to.Goals as goal

pub returns-in_default-clause-none : goal.returns-in_default-clause-none
returns-in_default-clause-none c =
    sym (ap ascending (c.range-earlier.ensures.between tt) ∙ before_ascending c.args.at c.self.inside.map.entries ∙ ap (λ (m : FragmentMap). before (c.args.at + 1) m.entries) c.self.view_is)
    ∙ ap ascending c.in_default.ensures.steps.0

pub returns-clause-last : goal.returns-clause-last
returns-clause-last c = (
  ascending c.next.new.self,
  sym (ap ascending (c.range-earlier.ensures.between tt) ∙ before_ascending c.args.at c.self.inside.map.entries ∙ ap (λ (m : FragmentMap). before (c.args.at + 1) m.entries) c.self.view_is)
      ∙ ap ascending c.in-Some.ensures.steps,
)

pub returns-clause-there : goal.returns-clause-there
returns-clause-there c =
    let first = of_first {X = Reverse ℕ × Fragment} (λ e. IsEntryInRange late_cmp (Included (record { 0 = c.args.at })) Unbounded c.self.inside.map e) c.in-Some.ensures.steps (c.range-earlier.ensures.in_range tt).1 in (
      sym (ap (λ (m : FragmentMap). get nat_cmp m c.in-Some.first.now.0) c.self.view_is) ∙ sym (lookup_ascending c.in-Some.first.now.0 c.self.inside.map.entries c.self.invariant) ∙ first.1,
      nat_low c.in-Some.first.now.0 c.args.at first.0.0,
    )
