-- Erasing the oldest nodes keeps the state, where none of them is live. `oldest` are those, `r` the
-- ones since, the newest first.
use Rattle.std.proofs.Common.{◌≡◌, ℕ, zero, suc, map, is_some, ◌+◌, ◌<◌, ◌≤◌, true, false, List, [], ◌∷◌, ◌++◌, length, get_or, ◌⊎◌, inl, inr, ⊎_elim, Option, Some, None, IsSome, refl, sym, ap, subst, ◌∙◌, arith}
use Rattle.std.specs.List.{AllByRecursion, range_with_len}
use Rattle.std.proofs.lemmas.Bool.{cases_lt, cases_Bool, both_ways}
use Rattle.std.proofs.lemmas.Option.{none-some}
use Rattle.std.proofs.lemmas.List.{ext_get_or, get_or_past}
use Rattle.jffs_node.specs.declared.node.Node.{Node}
use Rattle.jffs_inodes.specs.Held.{Entry, bytes_of, written, sized, splice}
use Rattle.jffs_tree.specs.State.{state_of_past}
use Rattle.jffs_tree.specs.Origin.{concerns, entry, size_in, offset_before, origin, newest, is_live, held, writers_of, version_of, has_size}
use Rattle.jffs_tree.specs.Laws.{NoneLive, BytesHaveOrigins, ErasingKeepsState, ErasingKeepsTree, ErasingKeepsOrigins}
use Rattle.jffs_tree.proofs.states.Offsets.{length-sized}
use Rattle.jffs_tree.proofs.states.Pointwise.{same_state}
use Rattle.jffs_tree.proofs.states.Live.{newest_is_live, origin_is_live}
use Rattle.jffs_tree.proofs.states.Steps.{of_newest, of_origin, entry-other, entry-deleted, entry-written, newest-other, newest-deleted, newest-written, origin-other, origin-written, origin-moved, origin-padding, where_is, Outside, rewritten, byte_inside, byte_outside, byte_outside_part, rewritten_longer, inside_both, outside_both}

-- Where bytes come from.
module _ (i : ℕ) where
  size-other : (n : Node) (past : List Node) → concerns i n ≡ false → size_in (n ∷ past) i ≡ size_in past i
  size-other n past c = ap (λ o. length (bytes_of o)) (entry-other i n past c)

  size-deleted : (n : Node) (past : List Node) → concerns i n ≡ true → n.deleted ≡ true → size_in (n ∷ past) i ≡ 0
  size-deleted n past c d = ap (λ o. length (bytes_of o)) (entry-deleted i n past c d)

  size-written : (n : Node) (past : List Node) → concerns i n ≡ true → n.deleted ≡ false → size_in (n ∷ past) i ≡ length (rewritten n (bytes_of (entry past i)))
  size-written n past c d = ap (λ o. length (bytes_of o)) (entry-written i n past c d)

  read-other : (n : Node) (past : List Node) (p : ℕ) → concerns i n ≡ false → get_or (bytes_of (entry (n ∷ past) i)) p 0 ≡ get_or (bytes_of (entry past i)) p 0
  read-other n past p c = ap (λ o. get_or (bytes_of o) p 0) (entry-other i n past c)

  read-written : (n : Node) (past : List Node) (p : ℕ) → concerns i n ≡ true → n.deleted ≡ false → get_or (bytes_of (entry (n ∷ past) i)) p 0 ≡ get_or (rewritten n (bytes_of (entry past i))) p 0
  read-written n past p c d = ap (λ o. get_or (bytes_of o) p 0) (entry-written i n past c d)

  -- what no node wrote is zero
  unwritten : (past : List Node) (p : ℕ) → p < size_in past i → origin past i p ≡ None → get_or (bytes_of (entry past i)) p 0 ≡ 0
  unwritten [] p l e = refl
  unwritten (n ∷ past) p l e = ⊎_elim
      (λ c. ⊎_elim
      (λ d. let s = size-deleted n past c d in absurd (omega arith))
      (λ d.
      let s = size-written n past c d in
      let there : p < length (rewritten n (bytes_of (entry past i))) = omega arith in
      ⊎_elim
      (λ w. absurd (none-some n (sym e ∙ origin-written i n past p c d w.0)))
      (λ w. read-written n past p c d ∙ byte_outside n (bytes_of (entry past i)) p w there ∙ ⊎_elim
      (λ was. unwritten past (offset_before n p) was (sym (origin-moved i n past p c d w.0 was) ∙ e))
      (λ past_end. get_or_past (bytes_of (entry past i)) (offset_before n p) 0 past_end)
      (cases_lt (offset_before n p) (size_in past i)))
      (where_is n p))
      (cases_Bool n.deleted))
      (λ c. let s = size-other n past c in
      read-other n past p c ∙ unwritten past p (omega arith) (sym (origin-other i n past p c) ∙ e))
      (cases_Bool (concerns i n))

-- the same but for the bytes
abbrev SameButBytes : Option Entry → Option Entry → Type 0
SameButBytes None None = Unit {0}
SameButBytes (Some a) (Some b) = (a.kind ≡ b.kind) × (a.parent ≡ b.parent) × (a.name ≡ b.name)
SameButBytes _ _ = ⊥

both_same : {a b x y : Option Entry} → a ≡ x → b ≡ y → SameButBytes x y → SameButBytes a b
both_same {a = a} {y = y} e f h = subst (λ o. SameButBytes a o) (sym f) (subst (λ o. SameButBytes o y) (sym e) h)

-- without a newest node the inode is absent
absent : (past : List Node) (i : ℕ) → newest past i ≡ None → entry past i ≡ None
absent [] i e = refl
absent (n ∷ past) i e = ⊎_elim
    (λ c. ⊎_elim
    (λ d. entry-deleted i n past c d)
    (λ d. absurd (none-some n (sym e ∙ newest-written i n past c d)))
    (cases_Bool n.deleted))
    (λ c. entry-other i n past c ∙ absent past i (sym (newest-other i n past c) ∙ e))
    (cases_Bool (concerns i n))

-- a newest node that states the size is right
size_stated : (past : List Node) (i : ℕ) (m : Node) (k : ℕ) → newest past i ≡ Some m → m.size ≡ Some k → size_in past i ≡ k
size_stated [] i m k e h = absurd (none-some m e)
size_stated (n ∷ past) i m k e h = ⊎_elim
    (λ c. ⊎_elim
    (λ d. absurd (none-some m (sym (newest-deleted i n past c d) ∙ e)))
    (λ d.
    let f = newest-written i n past c d in
    let same : n ≡ m = cc in
    size-written i n past c d ∙ ap (λ s. length (sized s (splice (bytes_of (entry past i)) n))) (ap (λ x. x.size) same ∙ h) ∙ length-sized 0 k (splice (bytes_of (entry past i)) n))
    (cases_Bool n.deleted))
    (λ c. size-other i n past c ∙ size_stated past i m k (sym (newest-other i n past c) ∙ e) h)
    (cases_Bool (concerns i n))

-- The same file, with and without the oldest nodes.
module _ (oldest : List Node) (i : ℕ) where
  pub size-grows : (r : List Node) → size_in r i ≤ size_in (r ++ oldest) i
  size-grows [] = omega arith
  size-grows (n ∷ r) = ⊎_elim
      (λ c. ⊎_elim
      (λ d. let a = size-deleted i n r c d in let b = size-deleted i n (r ++ oldest) c d in omega arith)
      (λ d.
      let a = size-written i n r c d in
      let b = size-written i n (r ++ oldest) c d in
      let k = rewritten_longer n (bytes_of (entry r i)) (bytes_of (entry (r ++ oldest) i)) (size-grows r) in
      omega arith)
      (cases_Bool n.deleted))
      (λ c. let a = size-other i n r c in let b = size-other i n (r ++ oldest) c in let k = size-grows r in omega arith)
      (cases_Bool (concerns i n))

  -- the byte is the same without them, and is there if a node wrote it
  record SameByte (r : List Node) (p : ℕ) : Type 0 where
    same : get_or (bytes_of (entry (r ++ oldest) i)) p 0 ≡ get_or (bytes_of (entry r i)) p 0
    kept : (m : Node) → origin (r ++ oldest) i p ≡ Some m → p < size_in r i
    origin_same : origin (r ++ oldest) i p ≡ origin r i p

  -- past the end of the shorter file there is no origin
  nothing_there : (q : ℕ) (r : List Node) → SameByte r q → size_in r i ≤ q → origin r i q ≡ None
  nothing_there q r s gone =
      elim (origin (r ++ oldest) i q) as (λ o. origin (r ++ oldest) i q ≡ o → origin r i q ≡ None) [
        | Some m ↦ λ e. let k = s.kept m e in absurd (omega arith)
        | None ↦ λ e. sym s.origin_same ∙ e
      ] refl

  -- the inode is the same without them, but for its bytes, and so is its newest node
  record SameNode (r : List Node) : Type 0 where
    same : SameButBytes (entry (r ++ oldest) i) (entry r i)
    newest_same : newest (r ++ oldest) i ≡ newest r i

  -- What holds of each of the oldest holds of a node that a byte comes from, or that is the newest,
  -- if it is one of them.
  module _ (Q : Node → Type 0) (each : AllByRecursion Q oldest) where
    -- the byte comes from one of the oldest
    record FromOldest (r : List Node) (p : ℕ) : Type 0 where
      node : Node
      holds : Q node
      is : origin (r ++ oldest) i p ≡ Some node

    at_end : (p : ℕ) → p < size_in oldest i → (o : Option Node) → origin oldest i p ≡ o → FromOldest [] p ⊎ SameByte [] p
    at_end p l (Some m) e = inl (record { node = m; holds = (of_origin Q i oldest p m each e).1; is = e })
    at_end p l None e = inr (record { same = unwritten i oldest p l e; kept = λ m is. absurd (none-some m (sym e ∙ is)); origin_same = e })

    -- a byte that stood elsewhere before the node
    moved_back : (n : Node) (r : List Node) (p : ℕ) → concerns i n ≡ true → n.deleted ≡ false → Outside n p
        → p < length (rewritten n (bytes_of (entry (r ++ oldest) i)))
        → (offset_before n p < size_in (r ++ oldest) i → FromOldest r (offset_before n p) ⊎ SameByte r (offset_before n p))
        → FromOldest (n ∷ r) p ⊎ SameByte (n ∷ r) p
    moved_back n r p c d w l back =
        let whole = read-written i n (r ++ oldest) p c d ∙ byte_outside n (bytes_of (entry (r ++ oldest) i)) p w l in
        let there = size-written i n r c d in
        let part : get_or (bytes_of (entry (n ∷ r) i)) p 0 ≡ get_or (bytes_of (entry r i)) (offset_before n p) 0 = read-written i n r p c d ∙ byte_outside_part n (bytes_of (entry r i)) (bytes_of (entry (r ++ oldest) i)) p w l in
        ⊎_elim
        (λ was. ⊎_elim
        (λ f. inl (record { node = f.node; holds = f.holds; is = origin-moved i n (r ++ oldest) p c d w.0 was ∙ f.is }))
        (λ s. inr (record {
          same = whole ∙ s.same ∙ sym part;
          kept = λ m is.
              let k = s.kept m (sym (origin-moved i n (r ++ oldest) p c d w.0 was) ∙ is) in
              let b = outside_both n (bytes_of (entry r i)) (bytes_of (entry (r ++ oldest) i)) p w k l in
              omega arith;
          origin_same = origin-moved i n (r ++ oldest) p c d w.0 was ∙ s.origin_same ∙ ⊎_elim
              (λ still. sym (origin-moved i n r p c d w.0 still))
              (λ gone. nothing_there (offset_before n p) r s gone ∙ sym (origin-padding i n r p c d w.0 gone))
              (cases_lt (offset_before n p) (size_in r i));
        }))
        (back was))
        (λ past_end. inr (record {
          same =
              let g = size-grows r in
              whole ∙ get_or_past (bytes_of (entry (r ++ oldest) i)) (offset_before n p) 0 past_end
              ∙ sym (part ∙ get_or_past (bytes_of (entry r i)) (offset_before n p) 0 (omega arith));
          kept = λ m is. absurd (none-some m (sym (origin-padding i n (r ++ oldest) p c d w.0 past_end) ∙ is));
          origin_same = let g = size-grows r in origin-padding i n (r ++ oldest) p c d w.0 past_end ∙ sym (origin-padding i n r p c d w.0 (omega arith));
        }))
        (cases_lt (offset_before n p) (size_in (r ++ oldest) i))

    -- each byte comes from one of the oldest, or is the same without them
    fate : (r : List Node) (p : ℕ) → p < size_in (r ++ oldest) i → FromOldest r p ⊎ SameByte r p
    fate [] p l = at_end p l (origin oldest i p) refl
    fate (n ∷ r) p l = ⊎_elim
        (λ c. ⊎_elim
        (λ d. let s = size-deleted i n (r ++ oldest) c d in absurd (omega arith))
        (λ d.
        let s = size-written i n (r ++ oldest) c d in
        let t = size-written i n r c d in
        let there : p < length (rewritten n (bytes_of (entry (r ++ oldest) i))) = omega arith in
        ⊎_elim
        (λ w.
        let b = inside_both n (bytes_of (entry r i)) (bytes_of (entry (r ++ oldest) i)) p w there in
        inr (record {
          same = read-written i n (r ++ oldest) p c d ∙ byte_inside n (bytes_of (entry (r ++ oldest) i)) p w there
              ∙ sym (read-written i n r p c d ∙ byte_inside n (bytes_of (entry r i)) p w b);
          kept = λ m is. omega arith;
          origin_same = origin-written i n (r ++ oldest) p c d w.0 ∙ sym (origin-written i n r p c d w.0);
        }))
        (λ w. moved_back n r p c d w there (λ was. fate r (offset_before n p) was))
        (where_is n p))
        (cases_Bool n.deleted))
        (λ c.
        let s = size-other i n (r ++ oldest) c in
        let t = size-other i n r c in
        ⊎_elim
        (λ f. inl (record { node = f.node; holds = f.holds; is = origin-other i n (r ++ oldest) p c ∙ f.is }))
        (λ b. inr (record {
          same = read-other i n (r ++ oldest) p c ∙ b.same ∙ sym (read-other i n r p c);
          kept = λ m is. let k = b.kept m (sym (origin-other i n (r ++ oldest) p c) ∙ is) in omega arith;
          origin_same = origin-other i n (r ++ oldest) p c ∙ b.origin_same ∙ sym (origin-other i n r p c);
        }))
        (fate r p (omega arith)))
        (cases_Bool (concerns i n))

    -- the newest node is one of the oldest
    record NewestIsOld (r : List Node) : Type 0 where
      node : Node
      holds : Q node
      is : newest (r ++ oldest) i ≡ Some node

    last_one : (o : Option Node) → newest oldest i ≡ o → NewestIsOld [] ⊎ SameNode []
    last_one (Some m) e = inl (record { node = m; holds = (of_newest Q i oldest m each e).1; is = e })
    last_one None e = inr (record { same = subst (λ o. SameButBytes o None) (sym (absent oldest i e)) tt; newest_same = e })

    fate_of_newest : (r : List Node) → NewestIsOld r ⊎ SameNode r
    fate_of_newest [] = last_one (newest oldest i) refl
    fate_of_newest (n ∷ r) = ⊎_elim
        (λ c. ⊎_elim
        (λ d. inr (record {
          same = both_same (entry-deleted i n (r ++ oldest) c d) (entry-deleted i n r c d) tt;
          newest_same = newest-deleted i n (r ++ oldest) c d ∙ sym (newest-deleted i n r c d);
        }))
        (λ d. inr (record {
          same = both_same (entry-written i n (r ++ oldest) c d) (entry-written i n r c d) (refl, refl, refl);
          newest_same = newest-written i n (r ++ oldest) c d ∙ sym (newest-written i n r c d);
        }))
        (cases_Bool n.deleted))
        (λ c. ⊎_elim
        (λ f. inl (record { node = f.node; holds = f.holds; is = newest-other i n (r ++ oldest) c ∙ f.is }))
        (λ s. inr (record {
          same = both_same (entry-other i n (r ++ oldest) c) (entry-other i n r c) s.same;
          newest_same = newest-other i n (r ++ oldest) c ∙ s.newest_same ∙ sym (newest-other i n r c);
        }))
        (fate_of_newest r))
        (cases_Bool (concerns i n))

-- a newest node makes its inode present
pub present : (past : List Node) (i : ℕ) (m : Node) → newest past i ≡ Some m → (e : Entry) × (entry past i ≡ Some e)
present [] i m e = absurd (none-some m e)
present (n ∷ past) i m e = ⊎_elim
    (λ c. ⊎_elim
    (λ d. absurd (none-some m (sym (newest-deleted i n past c d) ∙ e)))
    (λ d. (written n (entry past i), entry-written i n past c d))
    (cases_Bool n.deleted))
    (λ c. let h = present past i m (sym (newest-other i n past c) ∙ e) in (h.0, entry-other i n past c ∙ h.1))
    (cases_Bool (concerns i n))

some_of : {A : Type 0} (o : Option A) → IsSome o → (x : A) × (o ≡ Some x)
some_of (Some x) h = (x, refl)
some_of None h = cc

pub there_or_not : {A : Type 0} (o : Option A) → ((x : A) × (o ≡ Some x)) ⊎ (o ≡ None)
there_or_not (Some x) = inl (x, refl)
there_or_not None = inr refl

-- functions that agree on a range have the same values there
same_writers : (f g : ℕ → Option ℕ) (n a : ℕ) → ((p : ℕ) → a ≤ p → p < a + n → f p ≡ g p) → map f (range_with_len a n) ≡ map g (range_with_len a n)
same_writers f g zero a h = refl
same_writers f g (suc n) a h =
    let first : f a ≡ g a = h a (omega arith) (omega arith) in
    let later = same_writers f g n (a + 1) (λ p low high. h p (omega arith) (omega arith)) in
    λ j. first j ∷ later j

module _ (recent oldest : List Node) (dead : NoneLive (recent ++ oldest) oldest) (origins : BytesHaveOrigins (recent ++ oldest)) (i : ℕ) where
  node_kept : SameNode oldest i recent
  node_kept = ⊎_elim
      (λ f.
      let e = present (recent ++ oldest) i f.node f.is in
      absurd (both_ways (is_live (recent ++ oldest) f.node.version) f.holds (newest_is_live (recent ++ oldest) i e.0 f.node e.1 f.is)))
      (λ s. s)
      (fate_of_newest oldest i (λ n. is_live (recent ++ oldest) n.version ≡ false) dead recent)

  byte_kept : (e : Entry) → entry (recent ++ oldest) i ≡ Some e → (p : ℕ) → p < size_in (recent ++ oldest) i → SameByte oldest i recent p
  byte_kept e is p l = ⊎_elim
      (λ f.
      absurd (both_ways (is_live (recent ++ oldest) f.node.version) f.holds (origin_is_live (recent ++ oldest) i p e f.node is l f.is)))
      (λ s. s)
      (fate oldest i (λ n. is_live (recent ++ oldest) n.version ≡ false) dead recent p l)

  size_by : (e : Entry) → entry (recent ++ oldest) i ≡ Some e → (m : Node) → newest (recent ++ oldest) i ≡ Some m → (size : Option ℕ) → m.size ≡ size
      → size_in (recent ++ oldest) i ≡ size_in recent i
  size_by e is m n (Some k) s = size_stated (recent ++ oldest) i m k n s ∙ sym (size_stated recent i m k (sym node_kept.newest_same ∙ n) s)
  size_by e is m n None s =
      let grows = size-grows oldest i recent in
      ⊎_elim
      (λ shorter.
      let o = some_of (origin (recent ++ oldest) i (size_in recent i)) (origins i m (size_in recent i) n s shorter) in
      let k = (byte_kept e is (size_in recent i) shorter).kept o.0 o.1 in
      absurd (omega arith))
      (λ enough. omega arith)
      (cases_lt (size_in recent i) (size_in (recent ++ oldest) i))

  size_kept : (e : Entry) → entry (recent ++ oldest) i ≡ Some e → (o : Option Node) → newest (recent ++ oldest) i ≡ o → size_in (recent ++ oldest) i ≡ size_in recent i
  size_kept e is (Some m) n = size_by e is m n m.size refl
  size_kept e is None n = absurd (none-some e (sym (absent (recent ++ oldest) i n) ∙ is))

  bytes_kept : (a b : Entry) → entry (recent ++ oldest) i ≡ Some a → entry recent i ≡ Some b → b.bytes ≡ a.bytes
  bytes_kept a b is was =
      let s = size_kept a is (newest (recent ++ oldest) i) refl in
      let la : size_in (recent ++ oldest) i ≡ length a.bytes = ap (λ o. length (bytes_of o)) is in
      let lb : size_in recent i ≡ length b.bytes = ap (λ o. length (bytes_of o)) was in
      ext_get_or 0 b.bytes a.bytes (omega arith) (λ p l.
      let k = byte_kept a is p (omega arith) in
      sym (sym (ap (λ o. get_or (bytes_of o) p 0) is) ∙ k.same ∙ ap (λ o. get_or (bytes_of o) p 0) was))

  entry_by : (a b : Option Entry) → entry (recent ++ oldest) i ≡ a → entry recent i ≡ b → SameButBytes a b → entry recent i ≡ entry (recent ++ oldest) i
  entry_by None None is was h = was ∙ sym is
  entry_by None (Some b) is was h = absurd h
  entry_by (Some a) None is was h = absurd h
  entry_by (Some a) (Some b) is was h =
      let bytes = bytes_kept a b is was in
      let same : b ≡ a = (λ j. record { kind = sym h.0 j; parent = sym h.1 j; name = sym h.2 j; bytes = bytes j }) in
      was ∙ ap (λ x. Some x) same ∙ sym is

  entry_kept : entry recent i ≡ entry (recent ++ oldest) i
  entry_kept = entry_by (entry (recent ++ oldest) i) (entry recent i) refl refl node_kept.same

  same_size : size_in recent i ≡ size_in (recent ++ oldest) i
  same_size = ap (λ o. length (bytes_of o)) entry_kept

  origin_kept : (p : ℕ) → p < size_in (recent ++ oldest) i → origin recent i p ≡ origin (recent ++ oldest) i p
  origin_kept p l = ⊎_elim
      (λ is. sym (byte_kept is.0 is.1 p l).origin_same)
      (λ none. absurd (let e : size_in (recent ++ oldest) i ≡ 0 = ap (λ o. length (bytes_of o)) none in omega arith))
      (there_or_not (entry (recent ++ oldest) i))

  writers_kept : writers_of recent i ≡ writers_of (recent ++ oldest) i
  writers_kept =
      ap (λ n. map (λ p. version_of (origin recent i p)) (range_with_len 0 n)) same_size
      ∙ same_writers (λ p. version_of (origin recent i p)) (λ p. version_of (origin (recent ++ oldest) i p)) (size_in (recent ++ oldest) i) 0
      (λ p low high. ap version_of (origin_kept p (omega arith)))

  held_kept : (e : Entry) → held recent (i, e) ≡ held (recent ++ oldest) (i, e)
  held_kept e j = (i, record { entry = e; writers = writers_kept j; newest = version_of (sym node_kept.newest_same j); states_size = has_size (sym node_kept.newest_same j) })

  origins_kept : (n : Node) (p : ℕ) → newest recent i ≡ Some n → n.size ≡ None → p < size_in recent i → IsSome (origin recent i p)
  origins_kept n p is none l =
      let e = same_size in
      let reach : p < size_in (recent ++ oldest) i = omega arith in
      ap is_some (origin_kept p reach) ∙ origins i n p (node_kept.newest_same ∙ is) none reach

pub erasing_keeps_state : ErasingKeepsState
erasing_keeps_state recent oldest dead origins = same_state recent (recent ++ oldest) (λ i. entry_kept recent oldest dead origins i)

pub erasing_keeps_tree : ErasingKeepsTree
erasing_keeps_tree recent oldest dead origins =
    ap (λ s. map (held recent) s) (erasing_keeps_state recent oldest dead origins)
    ∙ (λ j. map (λ x. held_kept recent oldest dead origins x.0 x.1 j) (state_of_past (recent ++ oldest)))

pub erasing_keeps_origins : ErasingKeepsOrigins
erasing_keeps_origins recent oldest dead origins i n p = origins_kept recent oldest dead origins i n p
