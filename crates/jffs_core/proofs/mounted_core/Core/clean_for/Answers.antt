use Rattle.std.proofs.Common.{◌≡◌, ◌∷◌, ◌∙◌, true, false, List, ◌/◌, ◌≤◌, inl, Some, None, ap, sym, subst, arith}
use Rattle.std.proofs.lemmas.Result.{err_from_is_err_and}
use Rattle.jffs_node.specs.declared.node.Node.{Node}
use Rattle.jffs_tree.specs.declared.wish.Outcome.TheVariants.{Appended}
use Rattle.jffs_tree.specs.declared.wish.Cause.{Cause}
use Rattle.jffs_tree.specs.declared.wish.Cause.TheVariants as causes
use Rattle.jffs_log.specs.declared.room.Room.TheVariants as rooms
use Rattle.jffs_log.specs.Cleaning.{Layout}
use Rattle.jffs_core.specs.CoreState.{CoreState}
use Rattle.jffs_core.specs.History.{IsOwnCopy, MayFollow}
use Rattle.jffs_core.specs.Step.{IsInHand}
use Rattle.jffs_core.specs.Past.{RepresentsWorking, has_room_for}
use Rattle.jffs_core.specs.Appending.{MayPut}
use Rattle.jffs_core.specs.Answering.{turn_of}
use Rattle.jffs_core.proofs.answers.Refusing.{copies_follow, works_past, refused_along, programs_along, put_programs}
use Rattle.jffs_core.proofs.answers.Unchanged.{layout_unchanged}
use Rattle.jffs_core.proofs.answers.Asked.{own_in_hand, known_version, may_later, its_len, its_short, its_gets, gets_made, past_made}
use Rattle.jffs_core.proofs.answers.Full.{turn_was_full}
use Rattle.jffs_core.proofs.answers.Working.{made_is_little}
use Rattle.jffs_core.proofs.answers.Stepping.{answers_same, make_stopped, later_put_keeps, not_for_room, put_fresh, none_left}
use Rattle.jffs_core.proofs.room.Erasing.{leaves_along}
use Rattle.jffs_core.proofs.mounted_core.Core.clean_for.Goals as goal
use Rattle.jffs_core.proofs.mounted_core.Core.clean_for.Goals.{In-Some}

-- the version of the node comes next after the copies
next : (g : _) (c : In-Some g) → c.make_room.new.self.limits.next_version ≡ Some c.in-Some.version
next g c = ap (λ (v : CoreState). v.limits.next_version) (sym c.self.view_is) ∙ c.in-Some.is

-- and the node with it may follow them
may : (g : _) (c : In-Some g) (past : List Node) (known : RepresentsWorking past c.args.self.now)
    → MayPut (c.in_ok-make_room.ensures.made past known).0 c.make_room.new.self.index.sector_size rooms.Fresh (record c.args.node.now { version = c.in-Some.version })
may g c past known =
    let made = c.in_ok-make_room.ensures.made past known in
    let h = made.1 in
    may_later past made.0 _ c.make_room.new.self c.args.request.now c.args.node.now c.requires.decided c.in-Some.version known c.requires.fresh h.copies h.stands.represents (let l = c.make_room.ensures.leaves in l.sizes) (next g c)

pub record_len-requires : goal.record_len-requires
record_len-requires g c = let d = c.requires.decided in its_len d.past _ c.args.request.now c.args.node.now d.known d

pub make_room-requires-clause-no_room : goal.make_room-requires-clause-no_room
make_room-requires-clause-no_room g c = ap (has_room_for c.args.self.now rooms.Fresh) c.record_len.ensures ∙ c.requires.no_room

pub returns-then-not-branch-clause-acted : goal.returns-then-not-branch-clause-acted
returns-then-not-branch-clause-acted g c = λ past known.
    let d = c.requires.decided in
    let q = c.args.request.now in
    let n = c.args.node.now in
    let m = c.in_ok-make_room.ensures.made past known in
    let h = m.1 in
    let len = c.record_len.ensures in
    let none : has_room_for c.make_room.new.self rooms.Fresh c.record_len.result ≡ false = c.in_ok-make_room.ensures.works.1 ∙ c.if-not-branch.true in
    make_stopped past _ _ q c.requires.working known (IsOwnCopy m.0) n causes.NoSpace m.0 d (λ m2 own. (inl own, copies_follow m.0 m2 own)) c.requires.fresh c.requires.no_room h.copies (made_is_little c.record_len.result past m.0 _ c.make_room.new.self known h) h.stands
    (λ is. (
      turn_was_full c.record_len.result past m.0 _ c.make_room.new.self known h (subst (λ k. k ≤ c.args.self.now.index.sector_size / 4) (sym len) (its_short past _ q n known d)) none,
      gets_made past _ q n known d m.0 c.make_room.new.self c.make_room.new.self c.record_len.result false len h (ap (has_room_for c.make_room.new.self rooms.Fresh) (sym len) ∙ none),
      h.two,
    ))

pub returns-in_err-make_room-clause-acted : goal.returns-in_err-make_room-clause-acted
returns-in_err-make_room-clause-acted g c = let p = err_from_is_err_and c.from_residual.result c.from_residual.ensures.1 in rw (p.1, p.2) λ past known.
    let d = c.requires.decided in
    let q = c.args.request.now in
    let n = c.args.node.now in
    let made = c.in_err-make_room.ensures.refused past known in
    let making = made.1 in
    let stopped = making.stopped in
    make_stopped past _ _ q c.requires.working known (IsOwnCopy made.0) n _ made.0 d (λ m own. (inl own, copies_follow made.0 m own)) c.requires.fresh c.requires.no_room stopped.copies making.little stopped.stands
    (λ is. ((λ two. absurd (stopped.no_room is two)), its_gets past _ q n known d c.make_room.new.self c.record_len.result false c.record_len.ensures (making.none is), (λ two. absurd (stopped.no_room is two))))

pub returns-in_default-clause-acted : goal.returns-in_default-clause-acted
returns-in_default-clause-acted g c = λ past known.
    let d = c.requires.decided in
    let q = c.args.request.now in
    let n = c.args.node.now in
    let m = c.in_ok-make_room.ensures.made past known in
    let h = m.1 in
    let none = none_left _ c.in_default.not-Some in
    let spent = known_version m.0 c.make_room.new.self None h.stands.represents (ap (λ (v : CoreState). v.limits.next_version) (sym c.self.view_is) ∙ none) in
    make_stopped past _ _ q c.requires.working known (IsOwnCopy m.0) n causes.VersionsSpent m.0 d (λ m2 own. (inl own, copies_follow m.0 m2 own)) c.requires.fresh c.requires.no_room h.copies (made_is_little c.record_len.result past m.0 _ c.make_room.new.self known h) (h.stands, spent) (λ is. absurd (other is))
  where
    other : ◌≡◌ {A = Cause} causes.VersionsSpent causes.NoSpace → ⊥
    other e = cc

pub append-requires-clause-follows : goal.append-requires-clause-follows
append-requires-clause-follows g c =
    let d = c.requires.decided in
    let m = c.in_ok-make_room.ensures.made d.past d.known in
    let h = m.1 in
    (m.0, h.stands.represents, may g (goal.at.append-requires-clause-follows g c).In-Some d.past d.known)

pub returns-clause-acted : goal.returns-clause-acted
returns-clause-acted g c = λ past known.
    let d = c.requires.decided in
    let q = c.args.request.now in
    let n = c.args.node.now in
    let later : Node = record n { version = c.in-Some.version } in
    let m = c.in_ok-make_room.ensures.made past known in
    let h = m.1 in
    let p = c.in_ok-append.ensures.done in
    let at = (goal.at.returns-clause-acted g c).In-Some in
    answers_same past _ _ q c.appended.result (Appended later.inode later.version) later c.appended.ensures
    (put_fresh past _ _ q c.requires.working known n later m.0 d c.requires.fresh c.requires.no_room h.copies (made_is_little c.record_len.result past m.0 _ c.make_room.new.self known h) (
      gets_made past _ q n known d m.0 c.make_room.new.self c.append.new.self c.record_len.result true c.record_len.ensures h p.had_room,
      past_made past _ q n known d m.0 c.make_room.new.self c.append.new.self c.record_len.result c.record_len.ensures h,
    )
    (ap (λ (x : Node). record x { version = c.in-Some.version }) d.is)
    (known_version m.0 c.make_room.new.self (Some c.in-Some.version) h.stands.represents (next g at))
    p.works (p.faults ∙ h.stands.faults) (later_put_keeps later c.args.self.now c.make_room.new.self c.append.new.self h.two p)
    (programs_along past m.0 (later ∷ m.0) c.args.self.now c.make_room.new.self c.append.new.self h.stands.programs (put_programs later m.0 c.make_room.new.self c.append.new.self p.programs)) (works_past _ _ p.works (p.represents m.0 h.stands.represents (may g at past known))))

pub returns-in_err-append-clause-acted : goal.returns-in_err-append-clause-acted
returns-in_err-append-clause-acted g c = let p = err_from_is_err_and c.from_residual-in_err-append.result c.from_residual-in_err-append.ensures.1 in rw (p.1, p.2) λ past known.
    let d = c.requires.decided in
    let q = c.args.request.now in
    let n = c.args.node.now in
    let later : Node = record n { version = c.in-Some.version } in
    let m = c.in_ok-make_room.ensures.made past known in
    let h = m.1 in
    let r = c.in_err-append.ensures.refused in
    let at = (goal.at.returns-in_err-append-clause-acted g c).In-Some in
    let follows = may g at past known in
    let len = c.record_len.ensures in
    let own : IsInHand (turn_of past c.args.self.now c.append.new.self) q m.0 later = own_in_hand past c.args.self.now q known n later d m.0 c.append.new.self (ap (λ (x : Node). record x { version = c.in-Some.version }) d.is)
    (known_version m.0 c.make_room.new.self (Some c.in-Some.version) h.stands.represents (next g at)) in
    make_stopped past _ _ q c.requires.working known (λ x. x ≡ later) n _ m.0 d
    (λ x same. (subst (IsInHand (turn_of past c.args.self.now c.append.new.self) q m.0) (sym same) own, subst (MayFollow m.0) (sym same) follows.follows)) c.requires.fresh c.requires.no_room h.copies (made_is_little c.record_len.result past m.0 _ c.make_room.new.self known h)
    (refused_along (λ x. x ≡ later) _ past m.0 m.0 _ c.make_room.new.self _ h.stands (r.stands m.0 h.stands.represents follows))
    (λ is. (
      (λ two. turn_was_full c.record_len.result past m.0 _ c.make_room.new.self known h (subst (λ k. k ≤ c.args.self.now.index.sector_size / 4) (sym len) (its_short past _ q n known d))
          (subst (λ k. has_room_for c.make_room.new.self rooms.Fresh k ≡ false) (sym len) (r.no_room is)) two),
      gets_made past _ q n known d m.0 c.make_room.new.self c.append.new.self c.record_len.result false len h (r.no_room is),
      (λ two. subst (λ (l : Layout). 2 ≤ l.erased) (sym (layout_unchanged c.make_room.new.self _ (r.same (not_for_room _ is)))) (h.two two)),
    ))

pub returns-clause-leaves : goal.returns-clause-leaves
returns-clause-leaves g c =
    leaves_along _ 0 _ c.args.self.now c.make_room.new.self c.append.new.self (omega arith) c.in_ok-make_room.ensures.works.0 c.make_room.ensures.leaves c.append.ensures.leaves

pub returns-in_err-append-clause-leaves : goal.returns-in_err-append-clause-leaves
returns-in_err-append-clause-leaves g c =
    leaves_along _ 0 _ c.args.self.now c.make_room.new.self c.append.new.self (omega arith) c.in_ok-make_room.ensures.works.0 c.make_room.ensures.leaves c.append.ensures.leaves
