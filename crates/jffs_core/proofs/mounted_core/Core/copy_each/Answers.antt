use Rattle.std.proofs.Common.{◌≡◌, ℕ, ◌≤◌, ◌<◌, ◌+◌, ◌/◌, Bool, true, false, List, length, get_or, take, refl, sym, ap, subst, ◌∙◌, arith, take_all}
use Rattle.std.specs.Int.{from_bool}
use Rattle.std.proofs.lemmas.List.{length-map}
use Rattle.std.proofs.lemmas.Result.{err_from_is_err_and}
use Rattle.jffs_node.specs.declared.node.Node.{Node}
use Rattle.jffs_node.specs.Record.{record_len, len_of_data}
use Rattle.jffs_tree.specs.declared.cleaning.CopySource.{CopySource}
use Rattle.jffs_tree.specs.Decide.{source_of}
use Rattle.jffs_log.specs.Image.{Placed, nodes_of}
use Rattle.jffs_log.specs.LogIndex.{layout_in, oldest_in}
use Rattle.jffs_log.specs.RoomLaws.{Among}
use Rattle.jffs_log.proofs.append.Appended.{sizes_small}
use Rattle.jffs_core.specs.CoreState.{CoreState}
use Rattle.jffs_core.specs.Past.{RepresentsWorking}
use Rattle.jffs_core.specs.Cleaning.{HasCopied, IsSourceIn}
use Rattle.jffs_core.proofs.room.Copying.{the_oldest, copying_begins, copying_goes_on, copying_has_room, among_more, one_known, one_short, are_few, oldest_still, oldest_many, node_at, at_node}
use Rattle.jffs_core.proofs.room.Erasing.{leaves_along}
use Rattle.jffs_core.proofs.mounted_core.Core.copy_each.Goals as goal
use Rattle.jffs_core.proofs.mounted_core.Core.copy_each.Goals.{After-oldest_source-source}

one_most : (b : Bool) (r : ℕ) → r ≡ from_bool b → r ≤ 1
one_most true r e = omega arith
one_most false r e = omega arith

-- as many are handled as there are
counted : (end : ℕ) (inside c : CoreState) → inside ≡ c → end ≡ length (oldest_in inside.image inside.index) → end ≡ length (the_oldest c)
counted end inside c same is = subst (λ (v : CoreState). end ≡ length (oldest_in v.image v.index)) same is ∙ oldest_many c

pub loop-at-init : goal.loop-at-init
loop-at-init g c = copying_begins _ c.args.self.now c.requires.several.works

-- The oldest sector of the core inside holds what it held.
still : (k copies : ℕ) (past after : List Node) (old middle inside : CoreState) → inside ≡ middle → 2 ≤ length (layout_in old.image old.index).sectors → HasCopied (take k (the_oldest old)) past after copies old middle
    → nodes_of (oldest_in inside.image inside.index) ≡ the_oldest old
still k copies past after old middle inside same several h =
    subst (λ (v : CoreState). nodes_of (oldest_in v.image v.index) ≡ the_oldest old) (sym same) (oldest_still (take k (the_oldest old)) past after copies old middle several h)

pub oldest_source-source-requires-clause-inside : goal.oldest_source-source-requires-clause-inside
oldest_source-source-requires-clause-inside g c =
    let o = c.requires.several in
    let d = c.loop-at.invariant.done o.past o.known in
    let many = counted c.oldest_count-at-end.result _ c.args.self.now c.self.view_is c.oldest_count-at-end.ensures in
    let kept = still c.loop-at.at c.loop-at.copies o.past d.0 c.args.self.now c.loop-at.self _ c.self-in-loop-at.view_is o.several d.1 in
    let inside = c.self-in-loop-at.inside.log in
    let same = sym (length-map (oldest_in inside.device.image inside.index) (λ (p : Placed). p.node)) ∙ ap (λ (ns : List Node). length ns) kept in
    let test = c.loop-at-test.true in
    omega arith

-- the record that is next, and what is known of it
module _ (g : _) (c : After-oldest_source-source g) where
  abbrev old : CoreState
  old = c.args.self.now

  below : c.loop-at.at < length (the_oldest old)
  below =
      let many = counted c.oldest_count-at-end.result _ old c.self.view_is c.oldest_count-at-end.ensures in
      let test = c.loop-at-test.true in
      omega arith

  abbrev next : Node
  next = node_at (the_oldest old) c.loop-at.at below

  is_next : next ≡ get_or (the_oldest old) c.loop-at.at next
  is_next = at_node (the_oldest old) c.loop-at.at next below

  is_source : c.oldest_source-source.result ≡ source_of next
  is_source =
      let o = c.requires.several in
      let d = c.loop-at.invariant.done o.past o.known in
      let kept = still c.loop-at.at c.loop-at.copies o.past d.0 old c.loop-at.self _ c.self-in-loop-at.view_is o.several d.1 in
      c.oldest_source-source.ensures next ∙ ap (λ (ns : List Node). source_of (get_or ns c.loop-at.at next)) kept ∙ ap source_of (sym is_next)

  stands : (past : List Node) (known : RepresentsWorking past old) → IsSourceIn (c.loop-at.invariant.done past known).0 next c.oldest_source-source.result c.loop-at.self
  stands past known =
      let d = c.loop-at.invariant.done past known in
      let h = d.1 in
      record {
        known = h.stands.represents;
        among = among_more next h.added.copies past d.0 h.added.joined
            (subst (λ n. Among n past) (sym is_next) (one_known (the_oldest old) past old known refl c.loop-at.at next below));
        is = is_source;
      }

  short : len_of_data c.oldest_source-source.result.len ≤ c.loop-at.self.index.sector_size / 4
  short =
      let o = c.requires.several in
      let leaves = c.loop-at.invariant.leaves in
      subst (λ z. len_of_data c.oldest_source-source.result.len ≤ z / 4) leaves.sizes.1
      (subst (λ (k : CopySource). len_of_data k.len ≤ old.index.sector_size / 4) (sym is_source)
      (subst (λ (n : Node). record_len n ≤ old.index.sector_size / 4) (sym is_next) (one_short (the_oldest old) o.past old o.known refl c.loop-at.at next below)))

pub handle-requires : goal.handle-requires
handle-requires g c =
    let o = c.requires.several in
    let here = (goal.at.handle-requires g c).After-oldest_source-source in
    record {
      source = record {
        works = c.loop-at.invariant.works;
        past = (c.loop-at.invariant.done o.past o.known).0;
        node = next g here;
        stands = stands g here o.past o.known;
        short = short g here;
      };
    }

pub overflow_add-copies : goal.overflow_add-copies
overflow_add-copies g c =
    let o = c.requires.several in
    let few = are_few (the_oldest c.args.self.now) o.past c.args.self.now o.known refl in
    let small = sizes_small c.args.self.now.index.sectors c.args.self.now.index.sector_size (let h = o.known in h.history.sizes) in
    let so_far = c.loop-at.invariant.few in
    let one = one_most c.in_ok-handle.field-0 c.from.result c.from.ensures in
    let inside = below g (goal.at.overflow_add-copies g c).After-oldest_source-source in
    omega arith

pub loop-at-preserved : goal.loop-at-preserved
loop-at-preserved g c =
    let v = c.loop-at.invariant in
    let e = c.in_ok-handle.ensures in
    let one = one_most c.in_ok-handle.field-0 c.from.result c.from.ensures in
    let here = (goal.at.loop-at-preserved g c).After-oldest_source-source in
    record {
      works = e.works;
      leaves = leaves_along 0 0 0 c.args.self.now c.loop-at.self c.handle.new.self (omega arith) v.works v.leaves e.leaves;
      few = let few = v.few in omega arith;
      done = λ past known.
          let d = v.done past known in
          let h = d.1 in
          copying_goes_on (the_oldest c.args.self.now) past d.0 c.loop-at.at c.loop-at.copies _ (next g here) c.in_ok-handle.field-0 c.args.self.now c.loop-at.self c.handle.new.self (below g here) (is_next g here) v.leaves.sizes h
          (e.handled d.0 (next g here) (stands g here past known)) (ap (λ k. c.loop-at.copies + k) c.from.ensures);
    }

pub returns-in_err-handle-clause-stopped : goal.returns-in_err-handle-clause-stopped
returns-in_err-handle-clause-stopped g c = let p = err_from_is_err_and c.from_residual.result c.from_residual.ensures.1 in rw (p.1, p.2) λ past known.
    let here = (goal.at.returns-in_err-handle-clause-stopped g c).After-oldest_source-source in
    let d = c.loop-at.invariant.done past known in
    let h = d.1 in (
      d.0,
      copying_has_room (the_oldest c.args.self.now) past d.0 c.loop-at.at c.loop-at.copies (next g here) _ c.args.self.now c.loop-at.self c.handle.new.self known refl c.requires.several.several (below g here) (is_next g here) h
          (c.in_err-handle.ensures.stopped d.0 (next g here) (stands g here past known)),
    )

pub returns-clause-copied : goal.returns-clause-copied
returns-clause-copied g c = λ past known.
    let d = c.loop-at.invariant.done past known in
    let many = counted c.oldest_count-at-end.result _ c.args.self.now c.self.view_is c.oldest_count-at-end.ensures in
    let test = c.loop-at-test.false in
    (d.0, subst (λ (ns : List Node). HasCopied ns past d.0 c.loop-at.copies c.args.self.now c.loop-at.self) (take_all c.loop-at.at (the_oldest c.args.self.now) (omega arith)) d.1)

pub returns-in_err-handle-clause-leaves : goal.returns-in_err-handle-clause-leaves
returns-in_err-handle-clause-leaves g c =
    let v = c.loop-at.invariant in
    leaves_along 0 0 0 c.args.self.now c.loop-at.self c.handle.new.self (omega arith) v.works v.leaves c.in_err-handle.ensures.leaves
