use Rattle.std.proofs.Common.{◌≡◌, ◌∙◌, ◌<◌, ◌+◌, ◌-◌, ℕ, List, length, take, drop, sym, ap, subst, nat_cmp}
use Rattle.std.proofs.lemmas.Option.{same_Some}
use Rattle.std.specs.Map.{set_value}
use Rattle.std.specs.BTreeMap.{is_at}
use Rattle.jffs_inodes.specs.declared.fragment.Fragment.{Fragment}
use Rattle.jffs_inodes.proofs.files.Splitting.{CutThere, cut_there}
use Rattle.jffs_inodes.proofs.fragment.cut.Goals as goal

cut : (c : goal.After-set) → CutThere c.args.at c.args.fragments.now.entries c.set.new.self.entries
cut c =
    let whole = c.in-Some.whole.now in
    let there = c.requires.there in
    let this : there.0 ≡ whole = same_Some there.0 whole (sym there.1 ∙ sym c.in-Some.ensures) in
    let high : c.args.at < c.args.first + length whole.bytes = subst (λ (f : Fragment). c.args.at < c.args.first + length f.bytes) this there.3 in
    let left : c.split_off.new.self ≡ take (c.args.at - c.args.first) whole.bytes = c.in_ok-rest.ensures.front ∙ ap (λ (x : List ℕ). take (c.args.at - c.args.first) x) c.in_ok-front.ensures.cases in
    let right : c.in_ok-rest.rest ≡ drop (c.args.at - c.args.first) whole.bytes = c.in_ok-rest.ensures.rest ∙ ap (λ (x : List ℕ). drop (c.args.at - c.args.first) x) c.in_ok-front.ensures.cases in
    let x : Fragment = record { bytes = c.split_off.new.self; writer = whole.writer } in
    let y : Fragment = record { bytes = c.in_ok-rest.rest; writer = whole.writer } in
    cut_there c.args.size c.args.first c.args.at whole c.args.fragments.now.entries c.set.new.self.entries c.requires.laid.0 (sym c.in-Some.ensures) there.2 high
    x y
    (ap (λ (b : List ℕ). record { bytes = b; writer = whole.writer }) left)
    (ap (λ (b : List ℕ). record { bytes = b; writer = whole.writer }) right)
    (c.set.ensures ∙ ap (λ es. set_value (is_at (nat_cmp c.args.first)) es x) c.in_ok-insert.ensures.entries)

pub returns-clause-ok : goal.returns-clause-ok
returns-clause-ok c = (cut c).same

pub returns-clause-cut : goal.returns-clause-cut
returns-clause-cut c = (cut c).cut
