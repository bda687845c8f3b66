use Rattle.std.proofs.Common.{◌∙◌, ap, subst, nat_cmp}
use Rattle.std.specs.List.Sorted.{IsStrictlySortedBy}
use Rattle.std.specs.Map.{keys_of}
use Rattle.std.specs.BTreeMap.{insert_entry}
use Rattle.jffs_inodes.specs.Fragments.{FragmentMap, get, ascending}
use Rattle.jffs_inodes.proofs.files.Reversed.{lookup_ascending, insert_ascending, sorted_ascending}
use Rattle.jffs_inodes.proofs.fragment_map.Fragments.insert.Goals as goal

pub returns-in_err-insert-clause-was_ordered : goal.returns-in_err-insert-clause-was_ordered
returns-in_err-insert-clause-was_ordered c = subst (λ (m : FragmentMap). IsStrictlySortedBy nat_cmp (keys_of m.entries)) c.self.view_is (sorted_ascending c.self.inside.map.entries c.self.invariant)

pub returns-clause-old : goal.returns-clause-old
returns-clause-old c = c.in_ok-insert.ensures.old ∙ lookup_ascending c.args.first c.self.inside.map.entries c.self.invariant ∙ ap (λ (m : FragmentMap). get nat_cmp m c.args.first) c.self.view_is

pub returns-clause-entries : goal.returns-clause-entries
returns-clause-entries c =
    ap ascending c.in_ok-insert.ensures.entries
    ∙ insert_ascending c.args.first c.args.fragment c.self.inside.map.entries c.self.invariant
    ∙ ap (λ (m : FragmentMap). insert_entry nat_cmp m.entries c.args.first c.args.fragment) c.self.view_is

pub returns-clause-was_ordered : goal.returns-clause-was_ordered
returns-clause-was_ordered c = subst (λ (m : FragmentMap). IsStrictlySortedBy nat_cmp (keys_of m.entries)) c.self.view_is (sorted_ascending c.self.inside.map.entries c.self.invariant)
