-- A put keeps a log lawful.
use Rattle.std.proofs.Common.{◌≡◌, ℕ, ◌+◌, ◌/◌, ◌≤◌, ◌<◌, true, false, cond, leb, List, [], ◌∷◌, length, inl, inr, ⊎_elim, refl, sym, subst, arith}
use Rattle.std.specs.List.{AllByRecursion}
use Rattle.std.proofs.lemmas.Bool.{eqb-true, leb-true, le-leb, lt-leb, cases_lt, cases_Bool, cond-true, cond-false}
use Rattle.std.proofs.Math.Nat.{mul-div-le}
use Rattle.jffs_node.specs.declared.node.Node.{Node}
use Rattle.jffs_node.specs.Record.{record_len}
use Rattle.jffs_tree.specs.Origin.{is_live}
use Rattle.jffs_node.proofs.Each.{each_append}
use Rattle.jffs_node.proofs.Fitting.{or_second}
use Rattle.jffs_log.specs.declared.room.Room.{Room}
use Rattle.jffs_log.specs.declared.room.Room.TheVariants as rooms
use Rattle.jffs_log.specs.Room.{tail_need, erased_need, has_room}
use Rattle.jffs_log.specs.Cleaning.{Layout, GcState, handled, with_copy, put, in_tail, in_next, in_last, stands_from, last_fits, is_history}
use Rattle.jffs_log.specs.RoomLaws.{Among, IsSound}
use Rattle.jffs_log.proofs.ring.Sectors.{Needs, stands_more, each_in_last, last_in_last, last_in_next, free_small, length_in_last, length_in_next}

pub map_all : {A : Type 0} (P Q : A → Type 0) → ((x : A) → P x → Q x) → (xs : List A) → AllByRecursion P xs → AllByRecursion Q xs
map_all P Q f [] h = tt
map_all P Q f (x ∷ xs) h = (f x h.0, map_all P Q f xs h.1)

pub put_by : (P : Layout → Type 0) (z : ℕ) (room : Room) (n : Node) (log : Layout) → (tail_need room (record_len n) ≤ log.free → P (in_tail n log)) → (log.free < tail_need room (record_len n) → P (in_next z n log))
    → P (put z room n log)
put_by P z room n log tail next = ⊎_elim
    (λ less. subst (λ t. P (cond t (in_tail n log) (in_next z n log))) (sym (lt-leb (tail_need room (record_len n)) log.free less)) (next less))
    (λ enough. subst (λ t. P (cond t (in_tail n log) (in_next z n log))) (sym (le-leb (tail_need room (record_len n)) log.free enough)) (tail enough))
    (cases_lt log.free (tail_need room (record_len n)))

-- A live record is copied at its turn, a dead one is skipped.
pub handled_live : (z : ℕ) (n : Node) (s : GcState) → is_live s.past n.version ≡ true → handled z n s ≡ with_copy z n s
handled_live z n s live = cond-true _ _ _ live

pub handled_dead : (z : ℕ) (n : Node) (s : GcState) → is_live s.past n.version ≡ false → handled z n s ≡ s
handled_dead z n s off = cond-false _ _ _ off

pub handled_by : (P : GcState → Type 0) (z : ℕ) (n : Node) (s : GcState) → (is_live s.past n.version ≡ true → P (with_copy z n s)) → (is_live s.past n.version ≡ false → P s) → P (handled z n s)
handled_by P z n s copy skip = ⊎_elim
    (λ live. subst P (sym (handled_live z n s live)) (copy live))
    (λ off. subst P (sym (handled_dead z n s off)) (skip off))
    (cases_Bool (is_live s.past n.version))

-- where there is room but none in the tail, enough sectors are erased
pub next_erased : (room : Room) (len free erased : ℕ) → has_room room len free erased ≡ true → free < tail_need room len → erased_need room ≤ erased
next_erased room len free erased h less = leb-true (erased_need room) erased (or_second (leb (tail_need room len) free) (leb (erased_need room) erased) h (lt-leb (tail_need room len) free less))

pub enough_erased : (room : Room) → 2 ≤ erased_need room
enough_erased rooms.Fresh = omega arith
enough_erased rooms.Copy = omega arith
enough_erased rooms.Unmount = omega arith

pub Known : List Node → List (List Node) → Type 0
Known past sectors = AllByRecursion (λ nodes. AllByRecursion (λ n. Among n past) nodes) sectors

pub known_more : (past : List Node) (c : Node) (sectors : List (List Node)) → Known past sectors → Known (c ∷ past) sectors
unfolding Known
known_more past c sectors h = map_all (λ nodes. AllByRecursion (λ n. Among n past) nodes) (λ nodes. AllByRecursion (λ n. Among n (c ∷ past)) nodes)
    (λ nodes k. map_all (λ n. Among n past) (λ n. Among n (c ∷ past)) (λ n a. inr a) nodes k) sectors h

module _ (total z need : ℕ) (c : Node) (s : GcState) (sound : IsSound total z s) (history : is_history (c ∷ s.past) ≡ true) (needs : Needs need c) (long : record_len c ≤ need) (short : record_len c ≤ z / 4) where
  known : Known (c ∷ s.past) s.log.sectors
  unfolding Known
  known = known_more s.past c s.log.sectors sound.known

  alone : need ≤ z → stands_from z 0 (c ∷ []) ≡ true
  alone small = stands_more z 0 need [] c refl needs long short (omega arith)

  counted_by : (sectors : List (List Node)) → last_fits z s.log.free sectors ≡ true → need ≤ s.log.free → length (in_last c sectors) ≡ length sectors
  counted_by [] l fits = let e = eqb-true s.log.free 0 l in absurd (omega arith)
  counted_by (first ∷ sectors) l fits = length_in_last c first sectors

  pub tail_sound : need ≤ s.log.free → IsSound total z (record { past = c ∷ s.past; log = in_tail c s.log })
  unfolding Known
  tail_sound fits =
      let small = free_small z s.log.free s.log.sectors sound.tail in
      record {
        history = history;
        known = each_in_last (λ nodes. AllByRecursion (λ n. Among n (c ∷ s.past)) nodes) c s.log.sectors z s.log.free sound.tail
            (λ nodes h l. each_append (λ n. Among n (c ∷ s.past)) nodes (c ∷ []) h (inl refl, tt)) (inl refl, tt) known;
        stands = each_in_last (λ nodes. stands_from z 0 nodes ≡ true) c s.log.sectors z s.log.free sound.tail
            (λ nodes h l. stands_more z 0 need nodes c h needs long short (omega arith)) (alone (omega arith)) sound.stands;
        tail = last_in_last c s.log.sectors z s.log.free (omega arith) small sound.tail;
        counted = let e = counted_by s.log.sectors sound.tail fits in let k = sound.counted in omega arith;
      }

  pub next_sound : need ≤ z → 1 ≤ s.log.erased → IsSound total z (record { past = c ∷ s.past; log = in_next z c s.log })
  unfolding Known
  next_sound small one = record {
    history = history;
    known = each_append (λ nodes. AllByRecursion (λ n. Among n (c ∷ s.past)) nodes) s.log.sectors ((c ∷ []) ∷ []) known ((inl refl, tt), tt);
    stands = each_append (λ nodes. stands_from z 0 nodes ≡ true) s.log.sectors ((c ∷ []) ∷ []) sound.stands (alone small, tt);
    tail = last_in_next c s.log.sectors z (omega arith);
    counted = let e = length_in_next c s.log.sectors in let k = sound.counted in omega arith;
  }

-- a quarter of a sector and 64 bytes more are in a sector
pub quarter_fits : (z k : ℕ) → 64 ≤ k → k ≤ z / 4 → k + 64 ≤ z
quarter_fits z k low short = let q = mul-div-le z 4 in omega arith
