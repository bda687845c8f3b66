-- The room bound.
use Rattle.std.proofs.Common.{◌≡◌, ℕ, zero, suc, ◌+◌, ◌-◌, ◌*◌, ◌/◌, ◌≤◌, ◌<◌, Bool, true, false, cond, ◌&&◌, leb, eqb, List, [], ◌∷◌, length, ◌⊎◌, inl, inr, ⊎_elim, refl, sym, ap, subst, ◌∙◌, arith}
use Rattle.std.proofs.lemmas.Bool.{le-leb, eqb-true, and_parts, or_left, or_right, cases_Bool, cases_lt, both_ways}
use Rattle.std.proofs.Math.Nat.{mul-le-mul_right}
use Rattle.jffs_node.specs.declared.node.Node.{Node}
use Rattle.jffs_node.specs.Record.{record_len, len_of_data, dsize, is_unmount}
use Rattle.jffs_node.specs.declared.layout.TheConstants.{HEADER_LEN}
use Rattle.jffs_flash.specs.declared.sizes.TheConstants.{MIN_SECTORS}
use Rattle.jffs_tree.specs.Origin.{is_live}
use Rattle.jffs_log.specs.declared.room.Room.{Room}
use Rattle.jffs_log.specs.declared.room.Room.TheVariants.{Fresh, Unmount}
use Rattle.jffs_log.specs.declared.room.Room.TheVariants as rooms
use Rattle.jffs_log.specs.Room.{heavy, has_room, tail_need}
use Rattle.jffs_log.specs.Cleaning.{GcState, is_history, put, copied, handled, cleaned, fresh_has_room, room_made, cleanings, oldest_records, handled_each}
use Rattle.std.specs.List.{AllByRecursion}
use Rattle.jffs_log.specs.RoomLaws.{Among, CopiesKeepSound, HandledAreDead, IsSound, CopiesTakeOver, UnmountNodesAreDead, CleaningHasRoom, CleaningMayStop, PutsKeepErased, FreshKeepsTwo, PutsKeepSound, ErasingKeepsSound, MakingRoomKeepsSound, FullLogsFill, FullLogsAreHeavy, CleaningsAreFew, UnmountHasRoom}
use Rattle.jffs_log.proofs.ring.Sectors.{needs_more, needs_itself}
use Rattle.jffs_log.proofs.rooms.Turn.{charged, charged_live, full_at, IsFull, full_counts}
use Rattle.jffs_log.proofs.append.Puts.{map_all, put_by, handled_live, handled_dead, next_erased, enough_erased, tail_sound, next_sound, quarter_fits}
use Rattle.jffs_log.proofs.rooms.Cleanings.{live_in, charged_in, IsUnderWay, IsTurn, begun, some_handled, turn_cleaned, sound_erased}

-- At the start of a turn.
full_at_start : (z free : ℕ) (sectors : List (List Node)) → IsFull z free (length sectors) sectors
full_at_start z free [] = tt
full_at_start z free (s ∷ sectors) = full_at_start z free sectors

pub start : (total z : ℕ) (s : GcState) → IsSound total z s → 2 ≤ s.log.erased → IsTurn total z (charged (live_in s.past) (length s.log.sectors) s.log.sectors) (length s.log.sectors) s
start total z s sound two = record { sound = sound; two = two; charge = omega arith; full = full_at_start z s.log.free s.log.sectors }

-- a k of at least 2 is one more than another number
one_less : (total z weight k : ℕ) (s : GcState) → 2 ≤ k → IsTurn total z weight k s → (left : ℕ) × IsTurn total z weight (suc left) s
one_less total z weight zero s h w = absurd (omega arith)
one_less total z weight (suc left) s h w = (left, w)

module _ (takes : CopiesTakeOver) (unmounts : UnmountNodesAreDead) where
  pub cleaning_has_room : CleaningHasRoom
  cleaning_has_room total z s low sound two many =
      let w = one_less total z _ (length s.log.sectors) s many (start total z s sound two) in
      let c = turn_cleaned takes unmounts total z _ low w.0 s w.1 many in
      (c.0, c.1.sound, c.2)

  pub cleaning_may_stop : CleaningMayStop
  cleaning_may_stop total z s done rest low sound two many is =
      let weight = charged (live_in s.past) (length s.log.sectors) s.log.sectors in
      let w = one_less total z weight (length s.log.sectors) s many (start total z s sound two) in
      let b = begun takes unmounts total z weight low w.0 s w.1 many in
      let e = some_handled takes total z weight w.0 s.log.erased two (oldest_records s.log.sectors) done rest s
      (subst (λ r. IsUnderWay total z weight w.0 s.log.erased (oldest_records s.log.sectors) r s) is b) in
      (e.sound, ⊎_elim (λ f. omega arith) (λ f. let g = f.0 in omega arith) e.space)

  module _ (total z weight len : ℕ) (low : HEADER_LEN ≤ z) (enough : MIN_SECTORS ≤ total) where
    pub no_room : (s : GcState) → fresh_has_room len s ≡ false → (s.log.free < len + 64) × (s.log.erased < 4)
    no_room s h =
        let a = ⊎_elim (λ l. l) (λ g. absurd (both_ways _ h (or_left (leb (len + 64) s.log.free) (leb 4 s.log.erased) (le-leb (len + 64) s.log.free g)))) (cases_lt s.log.free (len + 64)) in
        let b = ⊎_elim (λ l. l) (λ g. absurd (both_ways _ h (or_right (leb (len + 64) s.log.free) (leb 4 s.log.erased) (le-leb 4 s.log.erased g)))) (cases_lt s.log.erased 4) in
        (a, b)

    -- the turn ends with room, or with no sector left
    made : (left : ℕ) (s : GcState) → IsTurn total z weight left s → (k : ℕ) × IsTurn total z weight k (room_made z len left s) × ((fresh_has_room len (room_made z len left s) ≡ true) ⊎ (k ≡ 0))
    made zero s w = (0, w, inr refl)
    made (suc left) s w = ⊎_elim
        (λ has.
        subst (λ t. (k : ℕ) × IsTurn total z weight k (cond t s (room_made z len left (cleaned z s))) × ((fresh_has_room len (cond t s (room_made z len left (cleaned z s))) ≡ true) ⊎ (k ≡ 0)))
        (sym has) (suc left, w, inl has))
        (λ none.
        let m = no_room s none in
        let few = m.1 in
        let counted = w.sound.counted in
        let c = turn_cleaned takes unmounts total z weight low left s w (omega arith) in
        subst (λ t. (k : ℕ) × IsTurn total z weight k (cond t s (room_made z len left (cleaned z s))) × ((fresh_has_room len (cond t s (room_made z len left (cleaned z s))) ≡ true) ⊎ (k ≡ 0)))
        (sym none) (made left (cleaned z s) c.1))
        (cases_Bool (fresh_has_room len s))

    heavy_by : (free : ℕ) (sectors : List (List Node)) → total < length sectors + 4 → free < len + 64 → len ≤ z / 4 → IsFull z free zero sectors
        → (q : Node → Bool) → charged q zero sectors ≤ weight → (total - 3) * full_at z ≤ weight
    heavy_by free [] many none short full q charge = absurd (omega arith)
    heavy_by free (s ∷ sectors) many none short full q charge =
        let a = full_counts q z free len s sectors none short full in
        let b : (total - 3) * full_at z ≤ length (s ∷ sectors) * full_at z = mul-le-mul_right (full_at z) (omega arith) in
        omega arith

  pub making_room_keeps_sound : MakingRoomKeepsSound
  making_room_keeps_sound total z len s low enough sound two =
      let m = made total z (charged (live_in s.past) (length s.log.sectors) s.log.sectors) len low enough (length s.log.sectors) s (start total z s sound two) in
      (m.1.sound, m.1.two)

  pub full_logs_fill : FullLogsFill
  full_logs_fill total z len s low enough short sound two none =
      let weight = charged (live_in s.past) (length s.log.sectors) s.log.sectors in
      let m = made total z weight len low enough (length s.log.sectors) s (start total z s sound two) in
      let after = room_made z len (length s.log.sectors) s in
      let last : IsTurn total z weight 0 after = ⊎_elim (λ has. absurd (both_ways _ none has)) (λ zero_left. subst (λ k. IsTurn total z weight k after) zero_left m.1) m.2 in
      let f = no_room total z weight len low enough after none in
      let counted = last.sound.counted in
      let few = f.1 in
      let h = heavy_by total z weight len low enough after.log.free after.log.sectors (omega arith) f.0 short last.full (live_in after.past) last.charge in
      subst (λ k. (total - 3) * full_at z ≤ k) (charged_in s.past (length s.log.sectors) s.log.sectors ∙ charged_live s.past s.log.sectors) h

  pub full_logs_are_heavy : FullLogsAreHeavy
  full_logs_are_heavy total z len s low enough short sound two none =
      let more = full_logs_fill total z len s low enough short sound two none in
      let less : heavy total z ≤ (total - 3) * full_at z = mul-le-mul_right (full_at z) (omega arith) in
      omega arith

  few_cleanings : (z len left : ℕ) (s : GcState) → cleanings z len left s ≤ left
  few_cleanings z len zero s = omega arith
  few_cleanings z len (suc left) s = ⊎_elim
      (λ has. subst (λ t. cond t 0 (1 + cleanings z len left (cleaned z s)) ≤ suc left) (sym has) (omega arith))
      (λ none. subst (λ t. cond t 0 (1 + cleanings z len left (cleaned z s)) ≤ suc left) (sym none) (let later = few_cleanings z len left (cleaned z s) in omega arith))
      (cases_Bool (fresh_has_room len s))

  pub cleanings_are_few : CleaningsAreFew
  cleanings_are_few total z len s sound = let e = few_cleanings z len (length s.log.sectors) s in let k = sound.counted in omega arith

pub puts_keep_erased : PutsKeepErased
puts_keep_erased z room n log has one = put_by (λ l. 1 ≤ l.erased) z room n log
    (λ fits. one)
    (λ less. let e = next_erased room (record_len n) log.free log.erased has less in let k = enough_erased room in omega arith)

pub fresh_keeps_two : FreshKeepsTwo
fresh_keeps_two z n log has two = put_by (λ l. 2 ≤ l.erased) z Fresh n log
    (λ fits. two)
    (λ less. let e = next_erased Fresh (record_len n) log.free log.erased has less in omega arith)

unmount_len : (n : Node) → (is_unmount n.kind && eqb (dsize n) 0) ≡ true → (is_unmount n.kind ≡ true) × (record_len n ≡ 64)
unmount_len n h =
    let parts = and_parts (is_unmount n.kind) (eqb (dsize n) 0) h in
    let none = eqb-true (dsize n) 0 parts.1 in
    (parts.0, ap len_of_data none)

module _ (total z : ℕ) (n : Node) (s : GcState) (sound : IsSound total z s) (history : is_history (n ∷ s.past) ≡ true) (short : record_len n ≤ z / 4) where
  more_sound : (room : Room) → tail_need room (record_len n) ≡ record_len n + 64 → has_room room (record_len n) s.log.free s.log.erased ≡ true → IsSound total z (record { past = n ∷ s.past; log = put z room n s.log })
  more_sound room need has = put_by (λ l. IsSound total z (record { past = n ∷ s.past; log = l })) z room n s.log
      (λ fits. tail_sound total z (record_len n + 64) n s sound history (needs_more n) (omega arith) short (omega arith))
      (λ less. next_sound total z (record_len n + 64) n s sound history (needs_more n) (omega arith) short (quarter_fits z (record_len n) (omega arith) short)
      (let e = next_erased room (record_len n) s.log.free s.log.erased has less in let k = enough_erased room in omega arith))

  unmount_sound : (is_unmount n.kind && eqb (dsize n) 0) ≡ true → has_room Unmount (record_len n) s.log.free s.log.erased ≡ true → IsSound total z (record { past = n ∷ s.past; log = put z Unmount n s.log })
  unmount_sound suits has =
      let u = unmount_len n suits in
      let len = u.1 in
      put_by (λ l. IsSound total z (record { past = n ∷ s.past; log = l })) z Unmount n s.log
      (λ fits. tail_sound total z (record_len n) n s sound history (needs_itself n u.0) (omega arith) short (omega arith))
      (λ less. next_sound total z (record_len n) n s sound history (needs_itself n u.0) (omega arith) short (let e = quarter_fits z (record_len n) (omega arith) short in omega arith)
      (let e = next_erased Unmount (record_len n) s.log.free s.log.erased has less in omega arith))

pub puts_keep_sound : PutsKeepSound
puts_keep_sound total z rooms.Fresh n s sound history suits short has = more_sound total z n s sound history short rooms.Fresh refl has
puts_keep_sound total z rooms.Copy n s sound history suits short has = more_sound total z n s sound history short rooms.Copy refl has
puts_keep_sound total z rooms.Unmount n s sound history suits short has = unmount_sound total z n s sound history short suits has

pub erasing_keeps_sound : ErasingKeepsSound
erasing_keeps_sound total z s sound many = sound_erased total z s sound many

pub unmount_has_room : UnmountHasRoom
unmount_has_room log two = or_right (leb 64 log.free) (leb 2 log.erased) (le-leb 2 log.erased two)

module _ (takes : CopiesTakeOver) where
  pub copies_keep_sound : CopiesKeepSound
  copies_keep_sound total z n s sound among live short has =
      let over = takes s.past n sound.history among live in
      let l = over.shorter in
      puts_keep_sound total z rooms.Copy (copied s.past n) s sound over.history refl (omega arith) has

  -- what a record's turn keeps
  pub record IsKept (z : ℕ) (n : Node) (s : GcState) : Type 0 where
    pub history : is_history (handled z n s).past ≡ true
    pub known : (m : Node) → Among m s.past → Among m (handled z n s).past
    stays : (m : Node) → Among m s.past → is_live s.past m.version ≡ false → is_live (handled z n s).past m.version ≡ false
    dead : is_live (handled z n s).past n.version ≡ false

  pub one_kept : (z : ℕ) (n : Node) (s : GcState) → is_history s.past ≡ true → Among n s.past → IsKept z n s
  one_kept z n s h a = ⊎_elim
      (λ live.
      let over = takes s.past n h a live in
      let is : (handled z n s).past ≡ copied s.past n ∷ s.past = ap (λ t. t.past) (handled_live z n s live) in
      record {
        history = ap is_history is ∙ over.history;
        known = λ m b. subst (Among m) (sym is) (inr b);
        stays = λ m b d. ap (λ past. is_live past m.version) is ∙ over.no_other m b d;
        dead = ap (λ past. is_live past n.version) is ∙ over.obsolete;
      })
      (λ off.
      let is : (handled z n s).past ≡ s.past = ap (λ t. t.past) (handled_dead z n s off) in
      record {
        history = ap is_history is ∙ h;
        known = λ m b. subst (Among m) (sym is) b;
        stays = λ m b d. ap (λ past. is_live past m.version) is ∙ d;
        dead = ap (λ past. is_live past n.version) is ∙ off;
      })
      (cases_Bool (is_live s.past n.version))

  stays_dead : (z : ℕ) (nodes : List Node) (s : GcState) → is_history s.past ≡ true → AllByRecursion (λ n. Among n s.past) nodes → (m : Node) → Among m s.past → is_live s.past m.version ≡ false
      → is_live (handled_each z nodes s).past m.version ≡ false
  stays_dead z [] s h known m a dead = dead
  stays_dead z (n ∷ nodes) s h known m a dead =
      let one = one_kept z n s h known.0 in
      stays_dead z nodes (handled z n s) one.history (map_all (λ k. Among k s.past) (λ k. Among k (handled z n s).past) (λ k b. one.known k b) nodes known.1) m (one.known m a) (one.stays m a dead)

  pub handled_are_dead : HandledAreDead
  handled_are_dead z [] s h known = tt
  handled_are_dead z (n ∷ nodes) s h known =
      let one = one_kept z n s h known.0 in
      let later = map_all (λ k. Among k s.past) (λ k. Among k (handled z n s).past) (λ k b. one.known k b) nodes known.1 in
      (stays_dead z nodes (handled z n s) one.history later n (one.known n known.0) one.dead, handled_are_dead z nodes (handled z n s) one.history later)
