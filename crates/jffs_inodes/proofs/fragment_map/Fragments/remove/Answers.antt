use Rattle.std.proofs.Common.{◌≡◌, ◌∙◌, length, ap, arith, nat_cmp}
use Rattle.std.specs.Map.{remove_entry}
use Rattle.std.specs.BTreeMap.{is_at}
use Rattle.jffs_inodes.specs.Fragments.{FragmentMap, get, ascending}
use Rattle.jffs_inodes.proofs.files.Reversed.{lookup_ascending, remove_ascending, length_ascending}
use Rattle.jffs_inodes.proofs.fragment_map.Fragments.remove.Goals as goal

pub returns-clause-value : goal.returns-clause-value
returns-clause-value c = c.remove.ensures.value ∙ lookup_ascending c.args.first c.self.inside.map.entries c.self.invariant ∙ ap (λ (m : FragmentMap). get nat_cmp m c.args.first) c.self.view_is

pub returns-clause-entries : goal.returns-clause-entries
returns-clause-entries c =
    ap ascending c.remove.ensures.entries
    ∙ remove_ascending c.args.first c.self.inside.map.entries c.self.invariant
    ∙ ap (λ (m : FragmentMap). remove_entry (is_at (nat_cmp c.args.first)) m.entries) c.self.view_is

pub returns-clause-len : goal.returns-clause-len
returns-clause-len c =
    let now = length_ascending c.remove.new.self.entries in
    let was = length_ascending c.self.inside.map.entries in
    let len = c.remove.ensures.len in
    let same : length (ascending c.self.inside.map.entries) ≡ length c.args.self.now.entries = ap (λ (m : FragmentMap). length m.entries) c.self.view_is in
    omega arith
