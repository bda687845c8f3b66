-- What an answer says was done.
use Rattle.std.proofs.Common.{◌≡◌, ℕ, inl, inr, ⊎_elim, true, List, [], ◌∷◌, ◌++◌, Ok, refl, sym, ap, subst, ◌∙◌}
use Rattle.jffs_node.specs.declared.node.Node.{Node}
use Rattle.jffs_tree.specs.State.{State, apply, state_of_past}
use Rattle.jffs_tree.specs.Origin.{state_in}
use Rattle.jffs_tree.specs.Decide.{is_copy_wish, is_unmount_wish}
use Rattle.jffs_tree.specs.Done.{done, IsFreeFor}
use Rattle.jffs_tree.specs.declared.wish.NewNode.{NewNode}
use Rattle.jffs_tree.specs.declared.wish.Wish.{Wish}
use Rattle.jffs_tree.specs.declared.wish.Wish.TheVariants.{Copy, Unmount}
use Rattle.jffs_tree.specs.declared.wish.Cause.TheVariants.{Device}
use Rattle.jffs_tree.specs.declared.wish.Outcome.{Outcome}
use Rattle.jffs_tree.specs.declared.wish.Outcome.TheVariants.{Appended, Copied, Closed, Refused}
use Rattle.jffs_tree.proofs.decisions.Copies.{state_of_tree}
use Rattle.jffs_tree.proofs.decisions.Done.{decided_is_done, new_inodes_are_free}
use Rattle.jffs_line.specs.declared.request.Request.{Request}
use Rattle.jffs_log.specs.Room.{limits}
use Rattle.jffs_core.specs.CoreState.{CoreState}
use Rattle.jffs_core.specs.History.{Grows, contents}
use Rattle.jffs_core.specs.Step.{Turn, IsStep, IsNodeFor, OutcomeIs, decision, node_of}
use Rattle.jffs_core.specs.Past.{RepresentsWorking}
use Rattle.jffs_core.specs.Answering.{turn_of}
use Rattle.jffs_core.specs.Done.{done_by, IsFreeBy, AnswersAreDone, AnswersAreFree, TreesAreDone, DeviceIsDoneOrNot}
use Rattle.jffs_core.proofs.answers.Contents.{contents_are_state}
use Rattle.jffs_core.proofs.answers.Deciding.{copies_state, limits_given}
use Rattle.jffs_core.proofs.scans.Scanning.{failed_found}

-- a Copy and an Unmount do nothing
nothing_copied : (inode : ℕ) (s : State) (wish : Wish) → is_copy_wish wish ≡ true → done inode s wish ≡ s
nothing_copied inode s (Copy source parent name offset bytes) is = refl
nothing_copied inode s _ is = cc

nothing_unmounted : (inode : ℕ) (s : State) (wish : Wish) → is_unmount_wish wish ≡ true → done inode s wish ≡ s
nothing_unmounted inode s Unmount is = refl
nothing_unmounted inode s _ is = cc

module _ (t : Turn) (q : Request) where
  abbrev before : State
  before = state_of_past t.past

  -- the node that was decided on does it
  decided_done : (n : NewNode) (version : ℕ) → decision t q ≡ Ok n → apply before (node_of n q version) ≡ done n.inode before q.wish
  decided_done n version is = decided_is_done t.past (limits t.volume.sector_size t.past) q.wish n version q.writer q.seq (limits_given t.volume.sector_size t.past) is

  pub node_done : (after : List Node) (n : Node) → IsNodeFor t q after n → apply before n ≡ done n.inode before q.wish
  node_done after n h =
      ap (λ m. apply before m) h.is ∙ decided_done h.new n.version h.decided ∙ ap (λ m. done m.inode before q.wish) (sym h.is)

  decided_free : (n : NewNode) → decision t q ≡ Ok n → IsFreeFor q.wish before n.inode
  decided_free n is = new_inodes_are_free t.past (limits t.volume.sector_size t.past) q.wish n (limits_given t.volume.sector_size t.past) is

  pub node_free : (after : List Node) (n : Node) → IsNodeFor t q after n → IsFreeFor q.wish before n.inode
  node_free after n h = subst (λ (m : Node). IsFreeFor q.wish before m.inode) (sym h.is) (decided_free h.new h.decided)

  -- after copies that keep the state
  module _ (copies own : List Node) (same : state_of_past (copies ++ t.past) ≡ before) where
    none_added : own ≡ [] → state_of_past (own ++ copies ++ t.past) ≡ before
    none_added is = ap (λ (nodes : List Node). state_of_past (nodes ++ copies ++ t.past)) is ∙ same

    one_added : (n : NewNode) (version : ℕ) → decision t q ≡ Ok n → own ≡ node_of n q version ∷ [] → state_of_past (own ++ copies ++ t.past) ≡ done n.inode before q.wish
    one_added n version decided is =
        ap (λ (nodes : List Node). state_of_past (nodes ++ copies ++ t.past)) is ∙ ap (λ s. apply s (node_of n q version)) same ∙ decided_done n version decided

    own_done : (o : Outcome) → OutcomeIs o t q copies own → state_of_past (own ++ copies ++ t.past) ≡ done_by before q.wish o
    own_done (Appended inode version) h = one_added h.new version h.decided h.added ∙ ap (λ i. done i before q.wish) h.inode_is
    own_done (Copied version) h = one_added h.new version h.decided h.added ∙ nothing_copied h.new.inode before q.wish h.wish
    own_done Closed h = ⊎_elim
        (λ clean. none_added clean.1)
        (λ made. one_added made.new made.version made.decided made.added ∙ nothing_unmounted made.new.inode before q.wish h.wish)
        h.node
    own_done (Refused cause) h = none_added h.1

  -- A step leaves the state as its outcome says.
  pub step_done : (o : Outcome) (after : List Node) → IsStep t q o after → state_of_past after ≡ done_by before q.wish o
  step_done o after h = ap state_of_past h.joined ∙ own_done h.copies h.own (copies_state t.past h.copies h.copies_are_true) o h.outcome

  own_free : (o : Outcome) (copies own : List Node) → OutcomeIs o t q copies own → IsFreeBy o q.wish before
  own_free (Appended inode version) copies own h = subst (λ (i : ℕ). IsFreeFor q.wish before i) h.inode_is (decided_free h.new h.decided)
  own_free (Copied version) copies own h = tt
  own_free Closed copies own h = tt
  own_free (Refused cause) copies own h = tt

  pub step_free : (o : Outcome) (after : List Node) → IsStep t q o after → IsFreeBy o q.wish before
  step_free o after h = own_free o h.copies h.own h.outcome

-- the contents are the state of the history
pub contents_grown : (mounted past : List Node) (g : Grows mounted past) → contents mounted g.added ≡ state_of_past past
contents_grown mounted past g = contents_are_state mounted g.added g.grown ∙ sym (ap state_of_past g.joined)

pub answers_are_done : AnswersAreDone
answers_are_done mounted past old new q o before answer =
    contents_grown mounted answer.after (let s = answer.stands in s.grown)
    ∙ step_done (turn_of past old new) q o answer.after answer.step
    ∙ ap (λ s. done_by s q.wish o) (sym (contents_grown mounted past before.grown))

pub answers_are_free : AnswersAreFree
answers_are_free mounted past old new q o before answer =
    subst (λ (s : State). IsFreeBy o q.wish s) (sym (contents_grown mounted past before.grown)) (step_free (turn_of past old new) q o answer.after answer.step)

-- a core that works has the state of its history
pub state_known : (past : List Node) (c : CoreState) → RepresentsWorking past c → state_in c.tree ≡ state_of_past past
state_known past c h = ap state_in h.tree_is ∙ state_of_tree past (state_of_past past)

pub trees_are_done : TreesAreDone
trees_are_done mounted past old new q o before answer worked works =
    let s = answer.stands in
    state_known answer.after new (s.stands.working works)
    ∙ step_done (turn_of past old new) q o answer.after answer.step
    ∙ ap (λ x. done_by x q.wish o) (sym (state_known past old (before.stands.working worked)))

pub device_is_done_or_not : DeviceIsDoneOrNot
device_is_done_or_not mounted past old new q image before answer opened =
    let t = turn_of past old new in
    let f = failed_found (IsNodeFor t q answer.after) answer.after new image (answer.in_hand refl) opened in
    let same = sym (contents_grown mounted past before.grown) in
    let kept = step_done t q (Refused Device) answer.after answer.step in
    record {
      scanned = f.0;
      found = f.1;
      state_is = ⊎_elim
          (λ as_before. inl (as_before ∙ kept ∙ same))
          (λ more. inr (
            more.0.inode,
            subst (λ (s : State). IsFreeFor q.wish s more.0.inode) same (node_free t q answer.after more.0 more.1),
            more.2 ∙ ap (λ s. apply s more.0) kept ∙ node_done t q answer.after more.0 more.1 ∙ ap (λ s. done more.0.inode s q.wish) same,
          ))
          f.2;
    }
