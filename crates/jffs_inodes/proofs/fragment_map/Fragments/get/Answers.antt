use Rattle.std.proofs.Common.{◌∙◌, ap, nat_cmp}
use Rattle.jffs_inodes.specs.Fragments.{FragmentMap, get}
use Rattle.jffs_inodes.proofs.files.Reversed.{lookup_ascending}
use Rattle.jffs_inodes.proofs.fragment_map.Fragments.get.Goals as goal

pub returns : goal.returns
returns c = c.get.ensures.value ∙ lookup_ascending c.args.first c.self.inside.map.entries c.self.invariant ∙ ap (λ (m : FragmentMap). get nat_cmp m c.args.first) c.self.view_is
