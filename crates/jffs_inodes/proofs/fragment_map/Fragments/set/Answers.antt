use Rattle.std.proofs.Common.{◌≡◌, ◌∙◌, None, sym, ap, nat_cmp}
use Rattle.std.specs.Map.{lookup, set_value}
use Rattle.std.specs.BTreeMap.{is_at}
use Rattle.jffs_inodes.specs.Fragments.{FragmentMap, ascending, get}
use Rattle.jffs_inodes.proofs.files.Reversed.{lookup_ascending, set_ascending, set_none}
use Rattle.jffs_inodes.proofs.fragment_map.Fragments.set.Goals as goal

pub returns-in_default : goal.returns-in_default
returns-in_default c =
    let none : lookup (is_at (nat_cmp c.args.first)) c.args.self.now.entries ≡ None =
    sym (c.in_default.ensures.value ∙ lookup_ascending c.args.first c.self.inside.map.entries c.self.invariant ∙ ap (λ (m : FragmentMap). get nat_cmp m c.args.first) c.self.view_is) in
    ap (λ m. ascending m.entries) c.get_mut.follows.holds-at-none
    ∙ ap (λ (m : FragmentMap). m.entries) c.self.view_is
    ∙ sym (set_none (is_at (nat_cmp c.args.first)) c.args.fragment c.args.self.now.entries none)

pub returns : goal.returns
returns c =
    ap ascending (c.get_mut.follows.holds c.args.fragment).0
    ∙ set_ascending c.args.first c.args.fragment c.self.inside.map.entries c.self.invariant
    ∙ ap (λ (m : FragmentMap). set_value (is_at (nat_cmp c.args.first)) m.entries c.args.fragment) c.self.view_is
