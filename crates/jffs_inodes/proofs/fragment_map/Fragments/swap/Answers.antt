use Rattle.std.proofs.Common.{◌∙◌, Some, length, sym, ap, nat_cmp}
use Rattle.std.specs.Map.{set_value}
use Rattle.std.specs.BTreeMap.{is_at}
use Rattle.std.proofs.lemmas.Map.Steps.{set_value_same}
use Rattle.jffs_inodes.specs.declared.fragment.Fragment.{Fragment}
use Rattle.jffs_inodes.specs.Fragments.{FragmentMap, ascending, get}
use Rattle.jffs_inodes.proofs.files.Reversed.{view, lookup_ascending, set_ascending}
use Rattle.jffs_node.proofs.Results.{at_error}
use Rattle.jffs_inodes.proofs.fragment_map.Fragments.swap.Goals as goal

pub returns-then-len-clause-none : goal.returns-then-len-clause-none
returns-then-len-clause-none c =
    ap view ((c.get_mut.follows.holds c.in-Some.there.now).0 ∙ set_value_same _ c.self.inside.map.entries c.in-Some.there.now (sym c.in-Some.ensures.value)) ∙ c.self.view_is

pub returns-in_err-fragment_of-clause-err : goal.returns-in_err-fragment_of-clause-err
returns-in_err-fragment_of-clause-err c =
    at_error c.from_residual.result
    (ap view ((c.get_mut.follows.holds c.in-Some.there.now).0 ∙ set_value_same _ c.self.inside.map.entries c.in-Some.there.now (sym c.in-Some.ensures.value)) ∙ c.self.view_is)

pub returns-clause-swapped : goal.returns-clause-swapped
returns-clause-swapped c =
    let gone = c.replace.ensures.value in
    let part : Fragment = c.replace.new.dest in
    record {
      there = sym (c.in-Some.ensures.value ∙ lookup_ascending c.args.node.now.offset c.self.inside.map.entries c.self.invariant ∙ ap (λ (m : FragmentMap). get nat_cmp m c.args.node.now.offset) c.self.view_is)
          ∙ ap (λ (f : Fragment). Some f) (sym gone);
      long = ap (λ (f : Fragment). length f.bytes) gone ∙ sym c.len.ensures.value ∙ c.if-len.false ∙ c.len-2.ensures.value;
      entries = ap ascending (c.get_mut.follows.holds part).0
          ∙ set_ascending c.args.node.now.offset part c.self.inside.map.entries c.self.invariant
          ∙ ap (λ (m : FragmentMap). set_value (is_at (nat_cmp c.args.node.now.offset)) m.entries part) c.self.view_is
          ∙ ap (λ (f : Fragment). set_value (is_at (nat_cmp c.args.node.now.offset)) c.args.self.now.entries f) (c.replace.ensures.after ∙ c.in_ok-fragment_of.ensures);
    }
