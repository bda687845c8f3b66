-- One cleaning, and a turn of cleanings.
use Rattle.std.proofs.Common.{◌≡◌, ℕ, suc, ◌+◌, ◌-◌, ◌/◌, ◌≤◌, ◌<◌, Bool, true, false, not, leb, List, [], ◌∷◌, ◌++◌, length, ◌⊎◌, inl, inr, ⊎_elim, refl, sym, ap, subst, arith}
use Rattle.std.specs.List.{AllByRecursion}
use Rattle.std.proofs.lemmas.Bool.{le-leb, and_from, or_left, or_right, cases_Bool}
use Rattle.jffs_node.specs.declared.node.Node.{Node}
use Rattle.jffs_node.specs.Record.{record_len, is_unmount}
use Rattle.jffs_tree.specs.Origin.{is_live}
use Rattle.jffs_log.specs.declared.room.Room.TheVariants.{Copy}
use Rattle.jffs_log.specs.Room.{has_room}
use Rattle.jffs_log.specs.Cleaning.{GcState, copied, with_copy, handled, handled_each, copy_has_room, copies_have_room, cleaned, erase_oldest, oldest_records, without_oldest, stands_from, last_fits, in_last, in_tail, in_next}
use Rattle.jffs_log.specs.RoomLaws.{Among, IsSound, TakesOver, CopiesTakeOver, UnmountNodesAreDead}
use Rattle.jffs_log.proofs.ring.Sectors.{used_by, by-cons-true, by-cons-false, NoOther, by_fewer, needs_more, all_among, each_among, stands_among, leaves_room}
use Rattle.jffs_log.proofs.rooms.Turn.{charged, charged_in_last, charged_in_next, charged_fewer_one, newer_charged, IsOldest, oldest_in_last, oldest_in_next, of_oldest, IsFull, full_in_last, full_in_next}
use Rattle.jffs_log.proofs.append.Puts.{map_all, put_by, handled_live, handled_dead, tail_sound, next_sound, quarter_fits}

pub live_in : List Node → Node → Bool
live_in past n = is_live past n.version

pub charged_in : (past : List Node) (left : ℕ) (sectors : List (List Node)) → charged (live_in past) left sectors ≡ charged (λ n. is_live past n.version) left sectors
unfolding live_in
charged_in past left sectors = refl

-- At most one sector was opened, and what is left to be copied fits what is free in it.
abbrev pub Space : ℕ → List Node → GcState → Type 0
Space before rest s = (s.log.erased ≡ before) ⊎ ((s.log.erased + 1 ≡ before) × (used_by (live_in s.past) rest + 64 ≤ s.log.free))

-- The oldest sector is being cleaned, and these of its records are left.
pub record IsUnderWay (total z weight left before : ℕ) (oldest rest : List Node) (s : GcState) : Type 0 where
  pub sound : IsSound total z s
  pub older : IsOldest oldest s.log.sectors
  pub rest_in : AllByRecursion (λ n. Among n oldest) rest
  pub rest_fits : used_by (live_in s.past) rest + 64 ≤ z
  pub space : Space before rest s
  pub charge : charged (live_in s.past) (suc left) s.log.sectors ≤ weight
  pub full : IsFull z s.log.free (suc left) s.log.sectors

full_in_oldest : (z free left : ℕ) (n : Node) (oldest : List Node) (sectors : List (List Node)) → IsOldest oldest sectors → record_len n ≤ free → IsFull z free left sectors → IsFull z (free - record_len n) left (in_last n sectors)
full_in_oldest z free left n oldest [] is fits h = absurd is
full_in_oldest z free left n oldest (s ∷ sectors) is fits h = full_in_last z free left n s sectors fits h

module _ (takes : CopiesTakeOver) (total z weight left before : ℕ) (two : 2 ≤ before) (oldest : List Node) where
  abbrev UnderWay : List Node → GcState → Type 0
  UnderWay rest s = IsUnderWay total z weight left before oldest rest s

  module _ (n : Node) (rest : List Node) (s : GcState) (w : IsUnderWay total z weight left before oldest (n ∷ rest) s) (live : live_in s.past n ≡ true) where
    abbrev c : Node
    c = copied s.past n

    among : Among n s.past
    among = each_among (λ m. Among m s.past) oldest n (of_oldest (λ nodes. AllByRecursion (λ m. Among m s.past) nodes) oldest s.log.sectors w.older w.sound.known) w.rest_in.0

    over : TakesOver s.past n
    unfolding live_in
    over = takes s.past n w.sound.history among live

    short : record_len c ≤ z / 4
    short =
        let k = each_among (λ m. record_len m ≤ z / 4) oldest n (stands_among z 0 oldest (of_oldest (λ nodes. stands_from z 0 nodes ≡ true) oldest s.log.sectors w.older w.sound.stands)) w.rest_in.0 in
        let l = over.shorter in
        omega arith

    abbrev Fewer : Node → Type 0
    Fewer m = NoOther (live_in s.past) (live_in (c ∷ s.past)) m

    others : AllByRecursion (λ nodes. AllByRecursion (λ m. Fewer m) nodes) s.log.sectors
    unfolding live_in
    others = map_all (λ nodes. AllByRecursion (λ m. Among m s.past) nodes) (λ nodes. AllByRecursion (λ m. Fewer m) nodes)
        (λ nodes k. map_all (λ m. Among m s.past) (λ m. Fewer m) (λ m a. over.no_other m a) nodes k) s.log.sectors w.sound.known

    rest_less : used_by (live_in (c ∷ s.past)) rest ≤ used_by (live_in s.past) rest
    rest_less = by_fewer (live_in s.past) (live_in (c ∷ s.past)) rest
        (map_all (λ m. Among m oldest) (λ m. Fewer m) (λ m a. each_among (λ k. Fewer k) oldest m (of_oldest (λ nodes. AllByRecursion (λ k. Fewer k) nodes) oldest s.log.sectors w.older others) a) rest w.rest_in.1)

    -- the copy takes no more than is left less to be copied
    spares : record_len c + used_by (live_in (c ∷ s.past)) rest ≤ used_by (live_in s.past) (n ∷ rest)
    spares =
        let shorter = over.shorter in
        let here = by-cons-true (live_in s.past) n rest live in
        let fewer = rest_less in
        omega arith

    left_fits : used_by (live_in (c ∷ s.past)) rest + 64 ≤ z
    left_fits =
        let most = w.rest_fits in
        let less = spares in
        omega arith

    room : has_room Copy (record_len c) s.log.free s.log.erased ≡ true
    room =
        let less = spares in
        ⊎_elim
        (λ e. or_right (leb (record_len c + 64) s.log.free) (leb 2 s.log.erased) (le-leb 2 s.log.erased (omega arith)))
        (λ e. or_left (leb (record_len c + 64) s.log.free) (leb 2 s.log.erased) (le-leb (record_len c + 64) s.log.free (let f = e.1 in omega arith)))
        w.space

    dead : live_in (c ∷ s.past) n ≡ false
    unfolding live_in
    dead = over.obsolete

    less : charged (live_in (c ∷ s.past)) (suc left) s.log.sectors + record_len n ≤ charged (live_in s.past) (suc left) s.log.sectors
    less = charged_fewer_one (live_in s.past) (live_in (c ∷ s.past)) left oldest n s.log.sectors w.older others w.rest_in.0 live dead

    -- the log with the copy weighs as much as before, at most
    charge_kept : (sectors : List (List Node)) → charged (live_in (c ∷ s.past)) (suc left) sectors ≤ charged (live_in (c ∷ s.past)) (suc left) s.log.sectors + record_len c
        → charged (live_in (c ∷ s.past)) (suc left) sectors ≤ weight
    charge_kept sectors more =
        let shorter = over.shorter in
        let dead = less in
        let most = w.charge in
        omega arith

    after_tail : record_len c + 64 ≤ s.log.free → UnderWay rest (record { past = c ∷ s.past; log = in_tail c s.log })
    after_tail fits =
        let less = spares in
        record {
          sound = tail_sound total z (record_len c + 64) c s w.sound over.history (needs_more c) (omega arith) short fits;
          older = oldest_in_last oldest c s.log.sectors w.older;
          rest_in = w.rest_in.1;
          rest_fits = left_fits;
          space = ⊎_elim (λ e. inl e) (λ e. inr (e.0, (let f = e.1 in omega arith))) w.space;
          charge = charge_kept (in_last c s.log.sectors) (charged_in_last (live_in (c ∷ s.past)) (suc left) c s.log.sectors);
          full = full_in_oldest z s.log.free (suc left) c oldest s.log.sectors w.older (omega arith) w.full;
        }

    after_next : s.log.free < record_len c + 64 → UnderWay rest (record { past = c ∷ s.past; log = in_next z c s.log })
    after_next none =
        let less = spares in
        let e : s.log.erased ≡ before = ⊎_elim (λ e. e) (λ e. absurd (let f = e.1 in omega arith)) w.space in
        record {
          sound = next_sound total z (record_len c + 64) c s w.sound over.history (needs_more c) (omega arith) short
              (quarter_fits z (record_len c) (omega arith) short) (omega arith);
          older = oldest_in_next oldest c s.log.sectors w.older;
          rest_in = w.rest_in.1;
          rest_fits = left_fits;
          space = inr (omega arith, (let f = w.rest_fits in omega arith));
          charge = charge_kept (s.log.sectors ++ (c ∷ []) ∷ []) (charged_in_next (live_in (c ∷ s.past)) (suc left) c s.log.sectors);
          full = full_in_next z s.log.free (suc left) c s.log.sectors none short w.full;
        }

    after : UnderWay rest (with_copy z n s)
    after = put_by (λ log. UnderWay rest (record { past = c ∷ s.past; log = log })) z Copy c s.log after_tail after_next

  -- a dead record is skipped
  skipped : (n : Node) (rest : List Node) (s : GcState) → UnderWay (n ∷ rest) s → live_in s.past n ≡ false → UnderWay rest s
  skipped n rest s w off =
      let same = by-cons-false (live_in s.past) n rest off in
      record {
        sound = w.sound;
        older = w.older;
        rest_in = w.rest_in.1;
        rest_fits = let f = w.rest_fits in omega arith;
        space = ⊎_elim (λ e. inl e) (λ e. inr (e.0, (let f = e.1 in omega arith))) w.space;
        charge = w.charge;
        full = w.full;
      }

  one_handled : (n : Node) (rest : List Node) (s : GcState) → UnderWay (n ∷ rest) s → (copy_has_room n s ≡ true) × UnderWay rest (handled z n s)
  unfolding live_in
  one_handled n rest s w = ⊎_elim
      (λ live. (
        or_right (not (is_live s.past n.version)) (has_room Copy (record_len (copied s.past n)) s.log.free s.log.erased) (room n rest s w live),
        subst (UnderWay rest) (sym (handled_live z n s live)) (after n rest s w live),
      ))
      (λ off. (
        or_left (not (is_live s.past n.version)) (has_room Copy (record_len (copied s.past n)) s.log.free s.log.erased) (ap not off),
        subst (UnderWay rest) (sym (handled_dead z n s off)) (skipped n rest s w off),
      ))
      (cases_Bool (is_live s.past n.version))

  pub all_handled : (rest : List Node) (s : GcState) → IsUnderWay total z weight left before oldest rest s → (copies_have_room z rest s ≡ true) × IsUnderWay total z weight left before oldest [] (handled_each z rest s)
  all_handled [] s w = (refl, w)
  all_handled (n ∷ rest) s w =
      let first = one_handled n rest s w in
      let later = all_handled rest (handled z n s) first.1 in
      (and_from (copy_has_room n s) (copies_have_room z rest (handled z n s)) first.0 later.0, later.1)

  -- and after some of them
  pub some_handled : (done rest : List Node) (s : GcState) → IsUnderWay total z weight left before oldest (done ++ rest) s → IsUnderWay total z weight left before oldest rest (handled_each z done s)
  some_handled [] rest s w = w
  some_handled (n ∷ done) rest s w = some_handled done rest (handled z n s) (one_handled n (done ++ rest) s w).1

-- What goes with the oldest sector.
pub newer_all : (P : List Node → Type 0) (sectors : List (List Node)) → AllByRecursion P sectors → AllByRecursion P (without_oldest sectors)
newer_all P [] h = tt
newer_all P (s ∷ sectors) h = h.1

newer_fits : (z free : ℕ) (oldest : List Node) (sectors : List (List Node)) → IsOldest oldest sectors → last_fits z free sectors ≡ true → last_fits z free (without_oldest sectors) ≡ true
newer_fits z free oldest [] is h = absurd is
newer_fits z free oldest (s ∷ []) is h = absurd is
newer_fits z free oldest (s ∷ t ∷ sectors) is h = h

newer_length : (oldest : List Node) (sectors : List (List Node)) → IsOldest oldest sectors → length (without_oldest sectors) + 1 ≡ length sectors
newer_length oldest [] is = absurd is
newer_length oldest (s ∷ sectors) is = omega arith

newer_full : (z free left : ℕ) (sectors : List (List Node)) → IsFull z free (suc left) sectors → IsFull z free left (without_oldest sectors)
newer_full z free left [] h = tt
newer_full z free left (s ∷ sectors) h = h

is_oldest : (sectors : List (List Node)) → 2 ≤ length sectors → IsOldest (oldest_records sectors) sectors
is_oldest [] h = absurd (omega arith)
is_oldest (s ∷ []) h = absurd (omega arith)
is_oldest (s ∷ t ∷ sectors) h = refl

pub sound_erased : (total z : ℕ) (s : GcState) → IsSound total z s → 2 ≤ length s.log.sectors → IsSound total z (record { past = s.past; log = erase_oldest s.log })
sound_erased total z s sound many =
    let is = is_oldest s.log.sectors many in
    record {
      history = sound.history;
      known = newer_all (λ nodes. AllByRecursion (λ n. Among n s.past) nodes) s.log.sectors sound.known;
      stands = newer_all (λ nodes. stands_from z 0 nodes ≡ true) s.log.sectors sound.stands;
      tail = newer_fits z s.log.free (oldest_records s.log.sectors) s.log.sectors is sound.tail;
      counted = let e = newer_length (oldest_records s.log.sectors) s.log.sectors is in let k = sound.counted in omega arith;
    }

many_left : (oldest : List Node) (sectors : List (List Node)) → IsOldest oldest sectors → 2 ≤ length sectors
many_left oldest [] is = absurd is
many_left oldest (s ∷ []) is = absurd is
many_left oldest (s ∷ t ∷ sectors) is = omega arith

-- Between two cleanings: `left` sectors are left of those that held the log, and what was live then
-- weighed `weight`.
pub record IsTurn (total z weight left : ℕ) (s : GcState) : Type 0 where
  pub sound : IsSound total z s
  pub two : 2 ≤ s.log.erased
  pub charge : charged (live_in s.past) left s.log.sectors ≤ weight
  pub full : IsFull z s.log.free left s.log.sectors

module _ (takes : CopiesTakeOver) (unmounts : UnmountNodesAreDead) (total z weight : ℕ) (low : 64 ≤ z) where
  pub begun : (left : ℕ) (s : GcState) → IsTurn total z weight (suc left) s → 2 ≤ length s.log.sectors
      → IsUnderWay total z weight left s.log.erased (oldest_records s.log.sectors) (oldest_records s.log.sectors) s
  unfolding live_in
  begun left s w many =
      let is = is_oldest s.log.sectors many in
      let oldest = oldest_records s.log.sectors in
      record {
        sound = w.sound;
        older = is;
        rest_in = all_among (λ n. Among n oldest) oldest (λ n a. a);
        rest_fits = leaves_room (λ n. is_live s.past n.version) z oldest low (of_oldest (λ nodes. stands_from z 0 nodes ≡ true) oldest s.log.sectors is w.sound.stands)
            (map_all (λ n. Among n s.past) (λ n. is_unmount n.kind ≡ true → is_live s.past n.version ≡ false) (λ n a u. unmounts s.past n w.sound.history a u) oldest
            (of_oldest (λ nodes. AllByRecursion (λ n. Among n s.past) nodes) oldest s.log.sectors is w.sound.known));
        space = inl refl;
        charge = w.charge;
        full = w.full;
      }

  ended : (left before : ℕ) (oldest : List Node) (s : GcState) → 2 ≤ before → IsUnderWay total z weight left before oldest [] s
      → IsTurn total z weight left (record { past = s.past; log = erase_oldest s.log }) × (before ≤ s.log.erased + 1)
  ended left before oldest s two w =
      let enough : before ≤ s.log.erased + 1 = ⊎_elim (λ e. omega arith) (λ e. let f = e.0 in omega arith) w.space in (
        record {
          sound = sound_erased total z s w.sound (many_left oldest s.log.sectors w.older);
          two = omega arith;
          charge = let e = newer_charged (live_in s.past) left s.log.sectors in let k = w.charge in omega arith;
          full = newer_full z s.log.free left s.log.sectors w.full;
        },
        enough,
      )

  pub turn_cleaned : (left : ℕ) (s : GcState) → IsTurn total z weight (suc left) s → 2 ≤ length s.log.sectors
      → (copies_have_room z (oldest_records s.log.sectors) s ≡ true) × IsTurn total z weight left (cleaned z s) × (s.log.erased ≤ (cleaned z s).log.erased)
  turn_cleaned left s w many =
      let oldest = oldest_records s.log.sectors in
      let all = all_handled takes total z weight left s.log.erased w.two oldest oldest s (begun left s w many) in
      let last = ended left s.log.erased oldest (handled_each z oldest s) w.two all.1 in
      (all.0, last.0, last.1)
