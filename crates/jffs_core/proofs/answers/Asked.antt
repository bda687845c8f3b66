-- The node of a request.
use Rattle.std.proofs.Common.{◌≡◌, inl, inr, ℕ, ◌/◌, ◌^◌, ◌≤◌, ◌<◌, Bool, true, false, not, List, length, Option, Some, Ok, refl, sym, ap, subst, ◌∙◌, arith}
use Rattle.std.proofs.lemmas.Bool.{and_parts, both_ways, not-true}
use Rattle.jffs_node.specs.declared.node.Node.{Node}
use Rattle.jffs_node.specs.Record.{record_len, is_fresh, is_unmount}
use Rattle.jffs_tree.specs.declared.wish.Limits.{Limits}
use Rattle.jffs_tree.specs.declared.wish.NewNode.{NewNode}
use Rattle.jffs_inodes.specs.Held.{Entry}
use Rattle.jffs_tree.specs.Origin.{IsTrueCopy}
use Rattle.jffs_tree.specs.Decide.{decide, decide_on, with, unmount_node, is_unmount_wish, is_copy_wish}
use Rattle.jffs_tree.proofs.decisions.Copies.{decides_by_tree}
use Rattle.jffs_line.specs.declared.request.Request.{Request}
use Rattle.jffs_log.specs.declared.room.Room.{Room}
use Rattle.jffs_log.specs.declared.room.Room.TheVariants as rooms
use Rattle.jffs_log.specs.Room.{next_version, has_room, limits as limits_of}
use Rattle.jffs_log.specs.LogIndex.{HasSizes, layout_in}
use Rattle.jffs_core.specs.CoreState.{CoreState}
use Rattle.jffs_core.specs.History.{MayFollow}
use Rattle.jffs_core.specs.Run.{OnlyCopies}
use Rattle.jffs_core.specs.Step.{IsInHand, HadNoRoom, MakesRoom, had_room, gets_room, past_with_room, room_can_be_made, room_of}
use Rattle.jffs_core.specs.Past.{RepresentsWorking, gc_state, has_room_for}
use Rattle.jffs_core.specs.Appending.{MayPut}
use Rattle.jffs_core.specs.Cleaning.{HasMadeRoom}
use Rattle.jffs_core.specs.Answering.{IsNodeOf, WantsFresh, turn_of}
use Rattle.jffs_log.specs.Cleaning.{GcState, room_made}
use Rattle.jffs_log.specs.RoomLaws.{suits_room}
use Rattle.jffs_log.specs.History.{KeepsRules}
use Rattle.jffs_log.proofs.append.Appended.{sizes_small}
use Rattle.jffs_core.proofs.answers.Deciding.{may_put, put_short, is_made_fresh, limits_given, limits_stay, decision_stays}
use Rattle.jffs_core.proofs.answers.Contents.{copy_given, unmount_given}

-- the decision that the core takes is that on its history
pub decision_is : (past : List Node) (c : CoreState) (q : Request) → RepresentsWorking past c → decide past (limits_of c.index.sector_size past) q.wish ≡ decide_on c.tree c.limits q.wish
decision_is past c q h =
    sym (decides_by_tree past (limits_of c.index.sector_size past) q.wish)
    ∙ ap (λ t. decide_on t (limits_of c.index.sector_size past) q.wish) (sym h.tree_is)
    ∙ ap (λ l. decide_on c.tree l q.wish) (sym h.limits_are)

fresh_room_of : (n : NewNode) → is_unmount n.kind ≡ false → rooms.Fresh ≡ room_of n
fresh_room_of n e = ap (λ t. elim t [ true ↦ rooms.Unmount | false ↦ rooms.Fresh ]) (sym e)

module _ (past : List Node) (c : CoreState) (q : Request) (node : Node) (known : RepresentsWorking past c) (of : IsNodeOf c q node) where
  its_decision : decide past (limits_of c.index.sector_size past) q.wish ≡ Ok of.new
  its_decision = decision_is past c q known ∙ of.decided

  pub its_version : next_version past ≡ Some node.version
  its_version = ap (λ (l : Limits). l.next_version) (sym known.limits_are) ∙ of.next

  its_may : (room : Room) → suits_room room (with of.new node.version q.writer q.seq) ≡ true → MayFollow past (with of.new node.version q.writer q.seq) → MayPut past c.index.sector_size room node
  its_may room suits follows = subst (MayPut past c.index.sector_size room) (sym of.is)
      (may_put c.index.sectors c.index.sector_size past past q.wish of.new node.version q.writer q.seq known.history.sizes known.history.rules (limits_given c.index.sector_size past) its_decision of.wish its_version of.writer of.seq room suits follows)

  pub its_short : record_len node ≤ c.index.sector_size / 4
  its_short = subst (λ (n : Node). record_len n ≤ c.index.sector_size / 4) (sym of.is)
      (put_short c.index.sectors c.index.sector_size past past q.wish of.new node.version q.writer q.seq known.history.sizes known.history.rules (limits_given c.index.sector_size past) its_decision of.wish its_version of.writer of.seq)

  pub its_len : record_len node < 2 ^ 32
  its_len = let short = its_short in let small = sizes_small c.index.sectors c.index.sector_size known.history.sizes in omega arith

  pub unmount_may : is_unmount_wish q.wish ≡ true → MayPut past c.index.sector_size rooms.Unmount node
  unmount_may u =
      let same = unmount_given past (limits_of c.index.sector_size past) q.wish of.new u its_decision in
      its_may rooms.Unmount (ap (λ n. suits_room rooms.Unmount (with n node.version q.writer q.seq)) (sym same)) (inr (inl (ap (λ (n : NewNode). is_unmount n.kind) (sym same))))

  pub unmount_room : is_unmount_wish q.wish ≡ true → rooms.Unmount ≡ room_of of.new
  unmount_room u = ap room_of (unmount_given past (limits_of c.index.sector_size past) q.wish of.new u its_decision)

  pub unmount_old : is_unmount_wish q.wish ≡ true → is_fresh (with of.new 0 0 0) ≡ true → ⊥
  unmount_old u f = both_ways (is_fresh (with unmount_node 0 0 0)) refl (ap (λ n. is_fresh (with n 0 0 0)) (unmount_given past (limits_of c.index.sector_size past) q.wish of.new u its_decision) ∙ f)

  its_copy : is_copy_wish q.wish ≡ true → (e : Entry) × IsTrueCopy past (with of.new node.version q.writer q.seq) e
  its_copy k = copy_given past (limits_of c.index.sector_size past) q.wish of.new node.version q.writer q.seq k its_decision

  pub copy_may : is_copy_wish q.wish ≡ true → MayPut past c.index.sector_size rooms.Fresh node
  copy_may k = its_may rooms.Fresh refl (inr (inr (its_copy k)))

  pub copy_room : is_copy_wish q.wish ≡ true → rooms.Fresh ≡ room_of of.new
  copy_room k = let e = its_copy k in fresh_room_of of.new (not-true (is_unmount of.new.kind) (and_parts (not (is_unmount of.new.kind)) (not of.new.deleted) e.1.stands).0)

  pub copy_old : is_copy_wish q.wish ≡ true → is_fresh (with of.new 0 0 0) ≡ true → ⊥
  copy_old k f = let e = its_copy k in both_ways (not of.new.copy) (ap not e.1.flag) (and_parts (not of.new.copy) (not (is_unmount of.new.kind)) f).0

  pub fresh_is : WantsFresh q.wish → is_fresh (with of.new 0 0 0) ≡ true
  fresh_is f =
      is_made_fresh c.index.sectors c.index.sector_size past past q.wish of.new node.version q.writer q.seq known.history.sizes known.history.rules (limits_given c.index.sector_size past) its_decision of.wish its_version of.writer of.seq f.no_copy f.no_unmount

  pub fresh_may : WantsFresh q.wish → MayPut past c.index.sector_size rooms.Fresh node
  fresh_may f = its_may rooms.Fresh refl (inl (fresh_is f))

  pub fresh_room : WantsFresh q.wish → rooms.Fresh ≡ room_of of.new
  fresh_room f = fresh_room_of of.new (not-true (is_unmount of.new.kind) (and_parts (not of.new.copy) (not (is_unmount of.new.kind)) (fresh_is f)).1)

  pub its_room : (new : CoreState) (room : Room) (b : Bool) → room ≡ room_of of.new → has_room_for c room (record_len node) ≡ b → had_room (turn_of past c new) of.new ≡ b
  its_room new room b is e =
      let log = layout_in c.image c.index in
      ap (λ r. has_room r (record_len (with of.new 0 0 0)) log.free log.erased) (sym is) ∙ ap (λ k. has_room room k log.free log.erased) (ap record_len (sym of.is)) ∙ e

  pub its_full : (new : CoreState) → WantsFresh q.wish → has_room_for c rooms.Fresh (record_len node) ≡ false → HadNoRoom (turn_of past c new) q of.new
  its_full new f e = record { decided = its_decision; none = its_room new rooms.Fresh false (fresh_room f) e }

  -- what is said of its length, of the length of the node that was decided on
  pub by_length : (P : ℕ → Type 0) → P (record_len node) → P (record_len (with of.new 0 0 0))
  by_length P h = subst P (ap record_len of.is) h

  -- whether it gets room, and what the history is then, by the length of the record
  pub its_gets : (new : CoreState) (len : ℕ) (b : Bool) → len ≡ record_len node → room_can_be_made c.index.sector_size len (length (layout_in c.image c.index).sectors) (gc_state past c) ≡ b → gets_room (turn_of past c new) of.new ≡ b
  its_gets new len b same e = ap (λ k. room_can_be_made c.index.sector_size k (length (layout_in c.image c.index).sectors) (gc_state past c)) (ap record_len (sym of.is) ∙ sym same) ∙ e

  pub gets_made : (after : List Node) (middle new : CoreState) (len : ℕ) (b : Bool) → len ≡ record_len node → HasMadeRoom len past after c middle → has_room_for middle rooms.Fresh (record_len node) ≡ b → gets_room (turn_of past c new) of.new ≡ b
  gets_made after middle new len b same made e = its_gets new len b same (made.room ∙ ap (has_room_for middle rooms.Fresh) same ∙ e)

  pub past_made : (after : List Node) (middle new : CoreState) (len : ℕ) → len ≡ record_len node → HasMadeRoom len past after c middle → after ≡ past_with_room (turn_of past c new) of.new
  past_made after middle new len same made =
      ap (λ (s : GcState). s.past) made.turn ∙ ap (λ k. (room_made c.index.sector_size k (length (layout_in c.image c.index).sectors) (gc_state past c)).past) (same ∙ ap record_len of.is)

  pub its_makes_room : (new : CoreState) → WantsFresh q.wish → has_room_for c rooms.Fresh (record_len node) ≡ false → MakesRoom (turn_of past c new) q
  its_makes_room new f e = (of.new, its_full new f e, fresh_is f)

  -- after own copies, with the version that comes next then
  pub later_may : (after : List Node) (later : Node) → WantsFresh q.wish → OnlyCopies past after → KeepsRules after → next_version after ≡ Some later.version → later ≡ with of.new later.version q.writer q.seq
      → MayPut after c.index.sector_size rooms.Fresh later
  later_may after later f copies rules next is =
      let stays = decision_stays past after (limits_of c.index.sector_size past) q.wish copies f.no_copy ∙ its_decision in
      let fits = limits_stay c.index.sector_size past after copies in
      let fresh = is_made_fresh c.index.sectors c.index.sector_size past after q.wish of.new later.version q.writer q.seq known.history.sizes rules fits stays of.wish next of.writer of.seq f.no_copy f.no_unmount in
      subst (MayPut after c.index.sector_size rooms.Fresh) (sym is)
      (may_put c.index.sectors c.index.sector_size past after q.wish of.new later.version q.writer q.seq known.history.sizes rules fits stays of.wish next of.writer of.seq rooms.Fresh refl (inl fresh))

-- the node in hand is that of the request
pub own_in_hand : (past : List Node) (c : CoreState) (q : Request) → RepresentsWorking past c → (node next : Node) (of : IsNodeOf c q node) (after : List Node) (new : CoreState) → next ≡ with of.new next.version q.writer q.seq → next_version after ≡ Some next.version
    → IsInHand (turn_of past c new) q after next
own_in_hand past c q known node next of after new is version = inr (record { new = of.new; decided = decision_is past c q known ∙ of.decided; is = is; next = version })

-- the version that comes next, as the core has it
pub known_version : (past : List Node) (c : CoreState) (o : Option ℕ) → RepresentsWorking past c → c.limits.next_version ≡ o → next_version past ≡ o
known_version past c o known is = ap (λ (l : Limits). l.next_version) (sym known.limits_are) ∙ is

pub may_later : (past after : List Node) (old middle : CoreState) (q : Request) (node : Node) (of : IsNodeOf old q node) (v : ℕ) → RepresentsWorking past old → WantsFresh q.wish → OnlyCopies past after → RepresentsWorking after middle
    → HasSizes old.index.sectors old.index.sector_size middle.index → middle.limits.next_version ≡ Some v → MayPut after middle.index.sector_size rooms.Fresh (record node { version = v })
may_later past after old middle q node of v known f copies represents sizes is =
    let later : Node = record node { version = v } in
    subst (λ z. MayPut after z rooms.Fresh later) sizes.1
    (later_may past old q node known of after later f copies represents.history.rules (known_version after middle (Some v) represents is) (ap (λ (m : Node). record m { version = v }) of.is))
