use Rattle.std.proofs.Common.{◌≡◌, ◌≤◌, ℕ, true, Some, ◌∙◌, sym, ap, subst, None}
use Rattle.std.proofs.lemmas.Result.{on_ok_weaker, IfErr-weaker, err_from_is_err_and}
use Rattle.jffs_node.specs.declared.node.Node.{Node}
use Rattle.jffs_node.specs.Record.{record_len, len_of_data}
use Rattle.jffs_inodes.specs.Inodes.{Tree}
use Rattle.jffs_tree.specs.declared.cleaning.CopySource.{CopySource}
use Rattle.jffs_tree.specs.declared.wish.NewNode.{NewNode}
use Rattle.jffs_tree.specs.Decide.{source_of, copy_of_source, cleaning_copy}
use Rattle.jffs_tree.specs.Look.{holds_version}
use Rattle.jffs_tree.specs.State.{State}
use Rattle.jffs_log.specs.declared.room.Room.TheVariants as rooms
use Rattle.jffs_core.specs.CoreState.{CoreState}
use Rattle.jffs_core.specs.Appending.{PutRefused}
use Rattle.jffs_core.proofs.room.Sweeping.{lives_by_tree, copy_may, copy_put, copy_refused}
use Rattle.jffs_core.proofs.answers.Asked.{known_version}
use Rattle.jffs_core.proofs.answers.Refusing.{works_still}
use Rattle.jffs_core.proofs.answers.Stepping.{none_left}
use Rattle.jffs_core.proofs.mounted_core.Core.copy.Goals as goal

-- What is said of what cleaning knows of a record is said of the record.
module _ (source : CopySource) (n : Node) (is : source ≡ source_of n) where
  lives : (tree : Tree) → holds_version tree source.inode source.version ≡ true → holds_version tree n.inode n.version ≡ true
  lives tree h = ap (λ (k : CopySource). holds_version tree k.inode k.version) (sym is) ∙ h

  made : (s : State) (copy : NewNode) → copy ≡ copy_of_source s source → copy ≡ cleaning_copy s n
  made s copy h = h ∙ ap (copy_of_source s) is

  short : (most : ℕ) → len_of_data source.len ≤ most → record_len n ≤ most
  short most h = subst (λ (k : CopySource). len_of_data k.len ≤ most) is h

pub append-requires-clause-follows : goal.append-requires-clause-follows
append-requires-clause-follows g c =
    let k = c.requires.source in
    let s = k.stands in
    let source = c.args.source in (
      k.past,
      s.known,
      copy_may k.past _ _ k.node c.with.result _ _ s.known s.among (lives source k.node s.is _ c.requires.live) c.self.view_is (made source k.node s.is _ _ c.in_ok-copied.ensures) c.in-Some.is c.with.ensures (short source k.node s.is _ k.short),
    )

pub returns-clause-copied : goal.returns-clause-copied
returns-clause-copied g c = on_ok_weaker c.append.result
    (λ h past n s.
    let source = c.args.source in
    copy_put past _ _ n c.with.result _ _ s.known s.among (lives source n s.is _ c.requires.live) c.self.view_is (made source n s.is _ _ c.in_ok-copied.ensures) c.in-Some.is c.with.ensures (short source n s.is _ c.requires.source.short) c.append.new.self h)
    c.append.ensures.done

pub returns-clause-stopped : goal.returns-clause-stopped
returns-clause-stopped g c = IfErr-weaker c.append.result (λ cause. PutRefused rooms.Copy c.with.result cause c.args.self.now c.append.new.self) _
    (λ cause h past n s.
    let source = c.args.source in
    copy_refused past _ _ n c.with.result _ _ s.known s.among (lives source n s.is _ c.requires.live) c.self.view_is (made source n s.is _ _ c.in_ok-copied.ensures) c.in-Some.is c.with.ensures (short source n s.is _ c.requires.source.short) c.append.new.self cause h)
    c.append.ensures.refused

pub returns-in_default-clause-stopped : goal.returns-in_default-clause-stopped
returns-in_default-clause-stopped g c = λ past n s.
    let old : CoreState = c.args.self.now in
    let none = ap (λ (v : CoreState). v.limits.next_version) (sym c.self.view_is) ∙ none_left _ c.in_default.not-Some in
    record {
      live = lives_by_tree past old n s.known s.among (lives c.args.source n s.is _ c.requires.live);
      stands = (works_still past _ c.requires.source.works s.known, known_version past old None s.known none);
      no_room = λ e. cc;
      version = λ e. cc;
    }

pub returns-in_err-copied-clause-stopped : goal.returns-in_err-copied-clause-stopped
returns-in_err-copied-clause-stopped g c = let p = err_from_is_err_and c.from_residual.result c.from_residual.ensures.1 in rw (p.1, p.2) λ past n s. record {
  live = lives_by_tree past c.args.self.now n s.known s.among (lives c.args.source n s.is _ c.requires.live);
  stands = works_still past _ c.requires.source.works s.known;
  no_room = λ e. cc;
  version = λ e. (c.in-Some.version, known_version past c.args.self.now (Some c.in-Some.version) s.known (ap (λ (v : CoreState). v.limits.next_version) (sym c.self.view_is) ∙ c.in-Some.is));
}
