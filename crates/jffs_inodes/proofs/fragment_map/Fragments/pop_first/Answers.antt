use Rattle.std.proofs.Common.{◌≡◌, ◌∙◌, length, sym, ap, arith}
use Rattle.jffs_inodes.specs.Fragments.{FragmentMap, ascending}
use Rattle.jffs_inodes.proofs.files.Reversed.{last_ascending, length_ascending}
use Rattle.jffs_inodes.proofs.fragment_map.Fragments.pop_first.Goals as goal

pub returns-clause-first : goal.returns-clause-first
returns-clause-first c = (
  c.in_ok-first.field-0-0.0,
  sym (ap (λ (m : FragmentMap). m.entries) c.self.view_is)
      ∙ last_ascending c.self.inside.map.entries c.pop_last.new.self.entries (c.in_ok-first.field-0-0, c.in_ok-first.first) c.in_ok-first.ensures.removal,
)

pub returns-clause-len : goal.returns-clause-len
returns-clause-len c =
    let now = length_ascending c.pop_last.new.self.entries in
    let was = length_ascending c.self.inside.map.entries in
    let len = c.in_ok-first.ensures.len in
    let same : length (ascending c.self.inside.map.entries) ≡ length c.args.self.now.entries = ap (λ (m : FragmentMap). length m.entries) c.self.view_is in
    omega arith
