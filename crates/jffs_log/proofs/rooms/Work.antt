-- What cleaning copies.
use Rattle.std.proofs.Common.{◌≡◌, ℕ, suc, ◌+◌, ◌-◌, ◌≤◌, Bool, true, false, cond, List, [], ◌∷◌, ◌++◌, length, take, filter, inr, ⊎_elim, refl, sym, ap, subst, ◌∙◌, arith}
use Rattle.std.specs.List.{AllByRecursion}
use Rattle.std.proofs.lemmas.Bool.{cases_Bool}
use Rattle.std.proofs.lemmas.List.{length-append, append_assoc}
use Rattle.jffs_node.specs.declared.node.Node.{Node}
use Rattle.jffs_node.specs.Record.{is_unmount}
use Rattle.jffs_tree.specs.Origin.{is_live}
use Rattle.jffs_log.specs.Cleaning.{GcState, used, is_history, stands_from, copied, with_copy, handled_each, cleaned, oldest_records}
use Rattle.jffs_log.specs.RoomLaws.{Among, IsSound, CopiesTakeOver, UnmountNodesAreDead}
use Rattle.jffs_log.specs.Work.{copies, CleaningsCopyTheLive, CleaningsFitASector}
use Rattle.jffs_log.proofs.ring.Sectors.{used_more, used_by, used_by_is, by-cons-true, by-cons-false, NoOther, by_fewer, leaves_room}
use Rattle.jffs_log.proofs.append.Puts.{map_all, handled_live, handled_dead}

-- The newest nodes of a longer list are those before the others.
take_front : (new past : List Node) → take (length new) (new ++ past) ≡ new
take_front [] past = refl
take_front (n ∷ new) past = ap (λ xs. n ∷ xs) (take_front new past)

pub newest_are : (new past after : List Node) → after ≡ new ++ past → take (length after - length past) after ≡ new
newest_are new past after is =
    let e = length-append new past in
    let k : length (new ++ past) - length past ≡ length new = omega arith in
    ap (λ xs. take (length xs - length past) xs) is ∙ ap (λ k. take k (new ++ past)) k ∙ take_front new past

-- fewer are counted, where no other comes to count
count_true : (p : Node → Bool) (n : Node) (nodes : List Node) → p n ≡ true → length (filter p (n ∷ nodes)) ≡ suc (length (filter p nodes))
count_true p n nodes h = ap (λ t. length (cond t (n ∷ filter p nodes) (filter p nodes))) h

count_false : (p : Node → Bool) (n : Node) (nodes : List Node) → p n ≡ false → length (filter p (n ∷ nodes)) ≡ length (filter p nodes)
count_false p n nodes h = ap (λ t. length (cond t (n ∷ filter p nodes) (filter p nodes))) h

count_fewer : (p q : Node → Bool) (nodes : List Node) → AllByRecursion (λ n. NoOther p q n) nodes → length (filter q nodes) ≤ length (filter p nodes)
count_fewer p q [] h = omega arith
count_fewer p q (n ∷ nodes) h =
    let later = count_fewer p q nodes h.1 in
    ⊎_elim
    (λ t. let e = count_true p n nodes t in ⊎_elim (λ u. let f = count_true q n nodes u in omega arith) (λ u. let f = count_false q n nodes u in omega arith) (cases_Bool (q n)))
    (λ t. let e = count_false p n nodes t in let f = count_false q n nodes (h.0 t) in omega arith)
    (cases_Bool (p n))

abbrev Lives : List Node → Node → Bool
Lives past n = is_live past n.version

-- What was copied of these records, each at its turn.
pub record IsCopied (nodes : List Node) (s after : GcState) : Type 0 where
  pub new : List Node
  pub past : after.past ≡ new ++ s.past
  pub bytes : used new ≤ used_by (λ n. is_live s.past n.version) nodes
  pub count : length new ≤ length (filter (λ n. is_live s.past n.version) nodes)

module _ (takes : CopiesTakeOver) (z : ℕ) where
  pub each_copied : (nodes : List Node) (s : GcState) → is_history s.past ≡ true → AllByRecursion (λ n. Among n s.past) nodes → IsCopied nodes s (handled_each z nodes s)
  each_copied [] s h known = record { new = []; past = refl; bytes = omega arith; count = omega arith }
  each_copied (n ∷ nodes) s h known = ⊎_elim
      (λ live.
      let over = takes s.past n h known.0 live in
      let c = copied s.past n in
      let later = each_copied nodes (with_copy z n s) over.history (map_all (λ m. Among m s.past) (λ m. Among m (c ∷ s.past)) (λ m a. inr a) nodes known.1) in
      let others = map_all (λ m. Among m s.past) (λ m. NoOther (Lives s.past) (Lives (c ∷ s.past)) m) (λ m a. over.no_other m a) nodes known.1 in
      let fewer = by_fewer (Lives s.past) (Lives (c ∷ s.past)) nodes others in
      let less = count_fewer (Lives s.past) (Lives (c ∷ s.past)) nodes others in
      let long = over.shorter in
      let bytes = later.bytes in
      let count = later.count in
      subst (λ t. IsCopied (n ∷ nodes) s (handled_each z nodes t)) (sym (handled_live z n s live)) (record {
        new = later.new ++ c ∷ [];
        past = later.past ∙ sym (append_assoc later.new (c ∷ []) s.past);
        bytes = let e = used_more later.new c in let f = by-cons-true (Lives s.past) n nodes live in omega arith;
        count = let e = length-append later.new (c ∷ []) in let f = count_true (Lives s.past) n nodes live in omega arith;
      }))
      (λ off.
      let later = each_copied nodes s h known.1 in
      let bytes = later.bytes in
      let count = later.count in
      subst (λ t. IsCopied (n ∷ nodes) s (handled_each z nodes t)) (sym (handled_dead z n s off)) (record {
        new = later.new;
        past = later.past;
        bytes = let f = by-cons-false (Lives s.past) n nodes off in omega arith;
        count = let f = count_false (Lives s.past) n nodes off in omega arith;
      }))
      (cases_Bool (is_live s.past n.version))

pub of_first : (P : List Node → Type 0) (sectors : List (List Node)) → P [] → AllByRecursion P sectors → P (oldest_records sectors)
of_first P [] none h = none
of_first P (s ∷ sectors) none h = h.0

module _ (takes : CopiesTakeOver) (total z : ℕ) (s : GcState) (sound : IsSound total z s) where
  pub oldest_copied : IsCopied (oldest_records s.log.sectors) s (cleaned z s)
  oldest_copied =
      let one = each_copied takes z (oldest_records s.log.sectors) s sound.history (of_first (λ nodes. AllByRecursion (λ n. Among n s.past) nodes) s.log.sectors tt sound.known) in
      record { new = one.new; past = one.past; bytes = one.bytes; count = one.count }

  pub oldest_small : UnmountNodesAreDead → 64 ≤ z → used_by (λ n. is_live s.past n.version) (oldest_records s.log.sectors) + 64 ≤ z
  oldest_small unmounts low = leaves_room (λ n. is_live s.past n.version) z (oldest_records s.log.sectors) low (of_first (λ nodes. stands_from z 0 nodes ≡ true) s.log.sectors refl sound.stands)
      (map_all (λ n. Among n s.past) (λ n. is_unmount n.kind ≡ true → is_live s.past n.version ≡ false) (λ n a u. unmounts s.past n sound.history a u) (oldest_records s.log.sectors)
      (of_first (λ nodes. AllByRecursion (λ n. Among n s.past) nodes) s.log.sectors tt sound.known))

module _ (takes : CopiesTakeOver) where
  pub cleanings_copy_the_live : CleaningsCopyTheLive
  cleanings_copy_the_live total z s sound =
      let one = oldest_copied takes total z s sound in
      let after = cleaned z s in
      let are : copies s after ≡ one.new = newest_are one.new s.past after.past one.past in
      let is = used_by_is (λ n. is_live s.past n.version) (oldest_records s.log.sectors) in
      let bytes = one.bytes in
      let same : used (copies s after) ≡ used one.new = ap used are in
      record {
        past = one.past ∙ ap (λ xs. xs ++ s.past) (sym are);
        bytes = omega arith;
        count = subst (λ xs. length xs ≤ length (filter (λ n. is_live s.past n.version) (oldest_records s.log.sectors))) (sym are) one.count;
      }

  pub cleanings_fit_a_sector : UnmountNodesAreDead → CleaningsFitASector
  cleanings_fit_a_sector unmounts total z s low sound =
      let one = oldest_copied takes total z s sound in
      let after = cleaned z s in
      let same : used (copies s after) ≡ used one.new = ap used (newest_are one.new s.past after.past one.past) in
      let bytes = one.bytes in
      let small = oldest_small takes total z s sound unmounts low in
      omega arith
