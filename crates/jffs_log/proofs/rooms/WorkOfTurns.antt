-- What a turn of cleanings copies.
use Rattle.std.proofs.Common.{◌≡◌, ℕ, zero, suc, ◌+◌, ◌-◌, ◌*◌, ◌≤◌, ◌<◌, Bool, true, false, cond, List, [], ◌∷◌, ◌++◌, length, flat_map, inl, inr, ⊎_elim, refl, sym, ap, subst, ◌∙◌, arith}
use Rattle.std.specs.List.{AllByRecursion}
use Rattle.std.proofs.lemmas.Bool.{cases_Bool}
use Rattle.std.proofs.lemmas.List.{append_assoc}
use Rattle.std.proofs.lemmas.List.Sums.{sum_by-append}
use Rattle.jffs_node.specs.declared.node.Node.{Node}
use Rattle.jffs_node.specs.Record.{record_len}
use Rattle.jffs_node.proofs.Each.{each_append}
use Rattle.jffs_tree.specs.Origin.{is_live}
use Rattle.jffs_log.specs.declared.room.Room.TheVariants.{Copy}
use Rattle.jffs_log.specs.Cleaning.{GcState, Layout, used, live_used, is_history, copied, with_copy, handled, handled_each, cleaned, fresh_has_room, room_made, oldest_records, without_oldest, in_last, in_tail, in_next, erase_oldest}
use Rattle.jffs_log.specs.RoomLaws.{Among, TakesOver, CopiesTakeOver}
use Rattle.jffs_log.specs.Work.{copies, live_and_free, MakingRoomCopiesLittle, MakingRoomCopiesTheWeight, CopiesAreFew}
use Rattle.jffs_log.proofs.ring.Sectors.{used-cons, used_by, used_by_is, by_none, by_most, by_more, NoOther, by_fewer, by_fewer_one, all_among, each_among, length_in_last, length_in_next}
use Rattle.jffs_log.proofs.ring.SectorSpellings.{record_long}
use Rattle.jffs_log.proofs.rooms.Turn.{live-append}
use Rattle.jffs_log.proofs.rooms.Cleanings.{newer_all}
use Rattle.jffs_log.proofs.append.Puts.{map_all, put_by, handled_by}
use Rattle.jffs_log.proofs.Parts.{logs_weigh_less}
use Rattle.jffs_log.proofs.rooms.Work.{newest_are, of_first}

-- What a turn may still copy: what is live in the `left` sectors that it may still clean, and what
-- is free in the tail, where that is one of them.
pub pending : (Node → Bool) → ℕ → ℕ → List (List Node) → ℕ
pending p free left [] = free
pending p free zero (s ∷ sectors) = 0
pending p free (suc left) (s ∷ sectors) = used_by p s + pending p free left sectors

pub pending_in_last : (p : Node → Bool) (free left : ℕ) (n : Node) (sectors : List (List Node)) → record_len n ≤ free → pending p (free - record_len n) left (in_last n sectors) ≤ pending p free left sectors
unfolding pending
pending_in_last p free zero n [] fits = omega arith
pending_in_last p free (suc left) n [] fits = let e = by_most p n [] in let z = by_none p in omega arith
pending_in_last p free zero n (s ∷ []) fits = omega arith
pending_in_last p free (suc left) n (s ∷ []) fits = let e = by_more p s n in omega arith
pending_in_last p free zero n (s ∷ t ∷ sectors) fits = omega arith
pending_in_last p free (suc left) n (s ∷ t ∷ sectors) fits = let later = pending_in_last p free left n (t ∷ sectors) fits in omega arith

pub pending_in_next : (p : Node → Bool) (free more left : ℕ) (n : Node) (sectors : List (List Node)) → left ≤ length sectors → pending p more left (sectors ++ (n ∷ []) ∷ []) ≤ pending p free left sectors
unfolding pending
pending_in_next p free more zero n [] few = omega arith
pending_in_next p free more (suc left) n [] few = absurd (omega arith)
pending_in_next p free more zero n (s ∷ sectors) few = omega arith
pending_in_next p free more (suc left) n (s ∷ sectors) few = let later = pending_in_next p free more left n sectors (omega arith) in omega arith

pending_fewer : (p q : Node → Bool) (free left : ℕ) (sectors : List (List Node)) → AllByRecursion (λ s. AllByRecursion (λ n. NoOther p q n) s) sectors → pending q free left sectors ≤ pending p free left sectors
unfolding pending
pending_fewer p q free left [] h = omega arith
pending_fewer p q free zero (s ∷ sectors) h = omega arith
pending_fewer p q free (suc left) (s ∷ sectors) h = let here = by_fewer p q s h.0 in let later = pending_fewer p q free left sectors h.1 in omega arith

pub pending_fewer_one : (p q : Node → Bool) (free left : ℕ) (m : Node) (sectors : List (List Node)) → AllByRecursion (λ s. AllByRecursion (λ n. NoOther p q n) s) sectors
    → Among m (oldest_records sectors) → p m ≡ true → q m ≡ false → pending q free (suc left) sectors + record_len m ≤ pending p free (suc left) sectors
unfolding pending
pending_fewer_one p q free left m [] h among t f = absurd among
pending_fewer_one p q free left m (s ∷ sectors) h among t f =
    let here = by_fewer_one p q s m h.0 among t f in
    let later = pending_fewer p q free left sectors h.1 in
    omega arith

pending_newer : (p : Node → Bool) (free left : ℕ) (sectors : List (List Node)) → pending p free left (without_oldest sectors) ≤ pending p free (suc left) sectors
unfolding pending
pending_newer p free left [] = omega arith
pending_newer p free left (s ∷ sectors) = omega arith

newer_longer : (sectors : List (List Node)) → length sectors ≤ length (without_oldest sectors) + 1
newer_longer [] = omega arith
newer_longer (s ∷ sectors) = omega arith

lives : List Node → Node → Bool
lives past n = is_live past n.version

pending_most : (past : List Node) (free left : ℕ) (sectors : List (List Node)) → pending (lives past) free left sectors ≤ live_used past (flat_map (λ nodes. nodes) sectors) + free
unfolding pending lives
pending_most past free left [] = omega arith
pending_most past free zero (s ∷ sectors) = omega arith
pending_most past free (suc left) (s ∷ sectors) =
    let here = used_by_is (λ n. is_live past n.version) s in
    let both = live-append past s (flat_map (λ nodes. nodes) sectors) in
    let later = pending_most past free left sectors in
    omega arith

among_more : (m n : Node) (nodes : List Node) → Among m nodes → Among m (nodes ++ n ∷ [])
among_more m n [] a = absurd a
among_more m n (k ∷ nodes) a = ⊎_elim (λ here. inl here) (λ there. inr (among_more m n nodes there)) a

-- The oldest sector keeps its records where one more is put.
oldest_put_last : (m n : Node) (sectors : List (List Node)) → Among m (oldest_records sectors) → Among m (oldest_records (in_last n sectors))
oldest_put_last m n [] a = absurd a
oldest_put_last m n (s ∷ []) a = among_more m n s a
oldest_put_last m n (s ∷ t ∷ sectors) a = a

oldest_put_next : (m n : Node) (sectors : List (List Node)) → Among m (oldest_records sectors) → Among m (oldest_records (sectors ++ (n ∷ []) ∷ []))
oldest_put_next m n [] a = absurd a
oldest_put_next m n (s ∷ sectors) a = a

last_longer : (n : Node) (sectors : List (List Node)) → length sectors ≤ length (in_last n sectors)
last_longer n [] = omega arith
last_longer n (s ∷ sectors) = let e = length_in_last n s sectors in omega arith

-- A property of the sectors where one more record is put, of that record alone or beside others.
each_last : (P : Node → Type 0) (n : Node) (sectors : List (List Node)) → P n → AllByRecursion (λ nodes. AllByRecursion P nodes) sectors → AllByRecursion (λ nodes. AllByRecursion P nodes) (in_last n sectors)
each_last P n [] h a = ((h, tt), tt)
each_last P n (s ∷ []) h a = (each_append P s (n ∷ []) a.0 (h, tt), tt)
each_last P n (s ∷ t ∷ sectors) h a = (a.0, each_last P n (t ∷ sectors) h a.1)

used_append : (xs ys : List Node) → used (xs ++ ys) ≡ used xs + used ys
used_append xs ys = sum_by-append record_len xs ys

-- Of a turn: the history is lawful, the log holds records of it, and `left` of its sectors may
-- still be cleaned.
pub record IsTurning (left : ℕ) (s : GcState) : Type 0 where
  pub history : is_history s.past ≡ true
  pub known : AllByRecursion (λ nodes. AllByRecursion (λ n. Among n s.past) nodes) s.log.sectors
  pub few : left ≤ length s.log.sectors

pub pending_at : ℕ → GcState → ℕ
pending_at left s = pending (lives s.past) s.log.free left s.log.sectors

-- What was copied between two states of a turn is no longer pending.
pub record IsSpent (before after : ℕ) (s t : GcState) : Type 0 where
  pub new : List Node
  pub past : t.past ≡ new ++ s.past
  pub bytes : used new + pending_at after t ≤ pending_at before s

pub spent_none : (left : ℕ) (s : GcState) → IsSpent left left s s
spent_none left s = record { new = []; past = refl; bytes = omega arith }

pub spent_both : (i j k : ℕ) (s t u : GcState) → IsSpent i j s t → IsSpent j k t u → IsSpent i k s u
spent_both i j k s t u a b =
    record {
      new = b.new ++ a.new;
      past = b.past ∙ ap (λ xs. b.new ++ xs) a.past ∙ sym (append_assoc b.new a.new s.past);
      bytes = let x = a.bytes in let y = b.bytes in let e = used_append b.new a.new in omega arith;
    }

-- Whatever was copied since the start of a turn is little.
pub spent_little : (before after : ℕ) (s t : GcState) (made : List Node) → IsSpent before after s t → t.past ≡ made ++ s.past → used made ≤ live_and_free s
unfolding pending_at
spent_little before after s t made h are =
    let same : used made ≡ used h.new = ap used (sym (newest_are made s.past t.past are) ∙ newest_are h.new s.past t.past h.past) in
    let bytes = h.bytes in
    let start = pending_most s.past s.log.free before s.log.sectors in
    omega arith

-- A record of the oldest sector was handled.
record IsOneSpent (left : ℕ) (s t : GcState) : Type 0 where
  spent : IsSpent left left s t
  turning : IsTurning left t
  stays : (m : Node) → Among m (oldest_records s.log.sectors) → Among m (oldest_records t.log.sectors)

module _ (takes : CopiesTakeOver) (z left : ℕ) where
  module _ (n : Node) (s : GcState) (w : IsTurning (suc left) s) (among : Among n (oldest_records s.log.sectors)) (live : lives s.past n ≡ true) where
    past_among : Among n s.past
    past_among = each_among (λ m. Among m s.past) (oldest_records s.log.sectors) n (of_first (λ nodes. AllByRecursion (λ m. Among m s.past) nodes) s.log.sectors tt w.known) among

    over : TakesOver s.past n
    unfolding lives
    over = takes s.past n w.history past_among live

    others : AllByRecursion (λ nodes. AllByRecursion (λ m. NoOther (lives s.past) (lives (copied s.past n ∷ s.past)) m) nodes) s.log.sectors
    unfolding lives
    others = map_all (λ nodes. AllByRecursion (λ m. Among m s.past) nodes) (λ nodes. AllByRecursion (λ m. NoOther (lives s.past) (lives (copied s.past n ∷ s.past)) m) nodes)
        (λ nodes k. map_all (λ m. Among m s.past) (λ m. NoOther (lives s.past) (lives (copied s.past n ∷ s.past)) m) (λ m a. over.no_other m a) nodes k) s.log.sectors w.known

    dead : lives (copied s.past n ∷ s.past) n ≡ false
    unfolding lives
    dead = over.obsolete

    less : pending (lives (copied s.past n ∷ s.past)) s.log.free (suc left) s.log.sectors + record_len n ≤ pending (lives s.past) s.log.free (suc left) s.log.sectors
    less = pending_fewer_one (lives s.past) (lives (copied s.past n ∷ s.past)) s.log.free left n s.log.sectors others among live dead

    more_known : AllByRecursion (λ nodes. AllByRecursion (λ m. Among m (copied s.past n ∷ s.past)) nodes) s.log.sectors
    more_known = map_all (λ nodes. AllByRecursion (λ m. Among m s.past) nodes) (λ nodes. AllByRecursion (λ m. Among m (copied s.past n ∷ s.past)) nodes)
        (λ nodes k. map_all (λ m. Among m s.past) (λ m. Among m (copied s.past n ∷ s.past)) (λ m a. inr a) nodes k) s.log.sectors w.known

    alone : used (copied s.past n ∷ []) ≡ record_len (copied s.past n)
    alone = let e = used-cons (copied s.past n) [] in omega arith

    abbrev Put : Layout → Type 0
    Put log = IsOneSpent (suc left) s (record { past = copied s.past n ∷ s.past; log = log })

    put_tail : record_len (copied s.past n) + 64 ≤ s.log.free → Put (in_tail (copied s.past n) s.log)
    unfolding pending_at
    put_tail fits = record {
      spent = record {
        new = copied s.past n ∷ [];
        past = refl;
        bytes =
            let a = pending_in_last (lives (copied s.past n ∷ s.past)) s.log.free (suc left) (copied s.past n) s.log.sectors (omega arith) in
            let b = less in
            let l = over.shorter in
            let e = alone in
            omega arith;
      };
      turning = record {
        history = over.history;
        known = each_last (λ m. Among m (copied s.past n ∷ s.past)) (copied s.past n) s.log.sectors (inl refl) more_known;
        few = let e = last_longer (copied s.past n) s.log.sectors in let f = w.few in omega arith;
      };
      stays = λ m a. oldest_put_last m (copied s.past n) s.log.sectors a;
    }

    put_next : s.log.free < record_len (copied s.past n) + 64 → Put (in_next z (copied s.past n) s.log)
    unfolding pending_at
    put_next none = record {
      spent = record {
        new = copied s.past n ∷ [];
        past = refl;
        bytes =
            let a = pending_in_next (lives (copied s.past n ∷ s.past)) s.log.free (z - record_len (copied s.past n)) (suc left) (copied s.past n) s.log.sectors w.few in
            let b = less in
            let l = over.shorter in
            let e = alone in
            omega arith;
      };
      turning = record {
        history = over.history;
        known = each_append (λ nodes. AllByRecursion (λ m. Among m (copied s.past n ∷ s.past)) nodes) s.log.sectors ((copied s.past n ∷ []) ∷ []) more_known ((inl refl, tt), tt);
        few = let e = length_in_next (copied s.past n) s.log.sectors in let f = w.few in omega arith;
      };
      stays = λ m a. oldest_put_next m (copied s.past n) s.log.sectors a;
    }

    copy_spent : IsOneSpent (suc left) s (with_copy z n s)
    copy_spent = put_by Put z Copy (copied s.past n) s.log put_tail put_next

  one_spent : (n : Node) (s : GcState) → IsTurning (suc left) s → Among n (oldest_records s.log.sectors) → IsOneSpent (suc left) s (handled z n s)
  unfolding lives
  one_spent n s w among = handled_by (IsOneSpent (suc left) s) z n s
      (λ live. copy_spent n s w among live)
      (λ off. record { spent = spent_none (suc left) s; turning = w; stays = λ m a. a })

  pub each_spent : (nodes : List Node) (s : GcState) → IsTurning (suc left) s → AllByRecursion (λ n. Among n (oldest_records s.log.sectors)) nodes
      → IsSpent (suc left) (suc left) s (handled_each z nodes s) × IsTurning (suc left) (handled_each z nodes s)
  each_spent [] s w among = (spent_none (suc left) s, w)
  each_spent (n ∷ nodes) s w among =
      let one = one_spent n s w among.0 in
      let later = each_spent nodes (handled z n s) one.turning (map_all (λ m. Among m (oldest_records s.log.sectors)) (λ m. Among m (oldest_records (handled z n s).log.sectors)) (λ m a. one.stays m a) nodes among.1) in
      (spent_both (suc left) (suc left) (suc left) s (handled z n s) (handled_each z nodes (handled z n s)) one.spent later.0, later.1)

  erased_spent : (s : GcState) → IsTurning (suc left) s
      → IsSpent (suc left) left s (record { past = s.past; log = erase_oldest s.log }) × IsTurning left (record { past = s.past; log = erase_oldest s.log })
  unfolding pending_at
  erased_spent s w = (
    record { new = []; past = refl; bytes = let e = pending_newer (lives s.past) s.log.free left s.log.sectors in omega arith },
    record {
      history = w.history;
      known = newer_all (λ nodes. AllByRecursion (λ n. Among n s.past) nodes) s.log.sectors w.known;
      few = let f = w.few in let e = newer_longer s.log.sectors in omega arith;
    },
  )

  pub cleaned_spent : (s : GcState) → IsTurning (suc left) s → IsSpent (suc left) left s (cleaned z s) × IsTurning left (cleaned z s)
  cleaned_spent s w =
      let oldest = oldest_records s.log.sectors in
      let each = each_spent oldest s w (all_among (λ n. Among n oldest) oldest (λ n a. a)) in
      let end = erased_spent (handled_each z oldest s) each.1 in
      (spent_both (suc left) (suc left) left s (handled_each z oldest s) (cleaned z s) each.0 end.0, end.1)

module _ (takes : CopiesTakeOver) where
  made_spent : (z len left : ℕ) (s : GcState) → IsTurning left s → (k : ℕ) × IsSpent left k s (room_made z len left s)
  made_spent z len zero s w = (0, spent_none 0 s)
  made_spent z len (suc left) s w = ⊎_elim
      (λ has. subst (λ t. (k : ℕ) × IsSpent (suc left) k s (cond t s (room_made z len left (cleaned z s)))) (sym has) (suc left, spent_none (suc left) s))
      (λ none.
      let one = cleaned_spent takes z left s w in
      let later = made_spent z len left (cleaned z s) one.1 in
      subst (λ t. (k : ℕ) × IsSpent (suc left) k s (cond t s (room_made z len left (cleaned z s)))) (sym none)
      (later.0, spent_both (suc left) left later.0 s (cleaned z s) (room_made z len left (cleaned z s)) one.0 later.1))
      (cases_Bool (fresh_has_room len s))

  pub making_room_copies_little : MakingRoomCopiesLittle
  unfolding pending_at
  making_room_copies_little total z len most s sound few =
      let made = (made_spent z len most s (record { history = sound.history; known = sound.known; few = few })).1 in
      let after = room_made z len most s in
      let are : copies s after ≡ made.new = newest_are made.new s.past after.past made.past in
      let same : used (copies s after) ≡ used made.new = ap used are in
      let bytes = made.bytes in
      let start = pending_most s.past s.log.free most s.log.sectors in
      record {
        past = made.past ∙ ap (λ xs. xs ++ s.past) (sym are);
        bytes = omega arith;
      }

  pub making_room_copies_the_weight : MakingRoomCopiesTheWeight
  making_room_copies_the_weight total z len most s gone sound few holds =
      let little = (making_room_copies_little total z len most s sound few).bytes in
      let less = logs_weigh_less s gone holds in
      omega arith

pub each_long : (nodes : List Node) → 64 * length nodes ≤ used nodes
each_long [] = omega arith
each_long (n ∷ nodes) =
    let later = each_long nodes in
    let here = record_long n in
    let e = used-cons n nodes in
    omega arith

pub copies_are_few : CopiesAreFew
copies_are_few before after = each_long (copies before after)
