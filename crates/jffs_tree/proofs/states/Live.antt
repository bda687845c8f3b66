-- The newest node of a present inode is live, and so is the origin of each of its bytes.
use Rattle.std.proofs.Common.{◌≡◌, ℕ, zero, suc, ◌+◌, ◌<◌, ◌≤◌, Bool, true, false, cond, eqb, List, [], ◌∷◌, map, flat_map, option_to_list, ⊎_elim, Option, Some, refl, sym, ap, ◌∙◌, arith}
use Rattle.std.specs.List.{list_any, range_with_len}
use Rattle.std.specs.Ordering.{nat_cmp, eq_by_cmp}
use Rattle.std.specs.Cmp.{unsigned_tied}
use Rattle.std.proofs.lemmas.Bool.{eqb-true, eq-eqb, or_left, or_right, cases_Bool, cases_eq}
use Rattle.std.proofs.lemmas.List.Folds.{list_any-append}
use Rattle.std.proofs.lemmas.Option.{same_Some}
use Rattle.jffs_node.specs.declared.node.Node.{Node}
use Rattle.jffs_inodes.specs.Held.{Entry, versions_held}
use Rattle.jffs_tree.specs.State.{State, at, state_of_past}
use Rattle.jffs_tree.specs.Origin.{entry, size_in, origin, newest, held, version_of, writers_of, is_live}
use Rattle.jffs_tree.proofs.states.Pointwise.{at-state}

is_it : ℕ → ℕ → Bool
is_it v w = eqb w v

held_in : (past : List Node) (v : ℕ) (s : State) (i : ℕ) (e : Entry) → at s i ≡ Some e
    → list_any (λ w. eqb w v) (versions_held (held past (i, e))) ≡ true → list_any (λ w. eqb w v) (flat_map versions_held (map (held past) s)) ≡ true
held_in past v [] i e is h = cc
held_in past v (x ∷ s) i e is h =
    list_any-append (λ w. eqb w v) (versions_held (held past x)) (flat_map versions_held (map (held past) s))
    ∙ ⊎_elim
    (λ tied.
    let here : i ≡ x.0 = eqb-true i x.0 (sym (unsigned_tied i x.0) ∙ tied) in
    let same = same_Some x.1 e (sym (ap (λ t. cond t (Some x.1) (at s i)) tied) ∙ is) in
    or_left _ _ (ap (λ (y : ℕ × Entry). list_any (λ w. eqb w v) (versions_held (held past y))) (λ j. (sym here j, same j)) ∙ h))
    (λ apart. or_right _ _ (held_in past v s i e (sym (ap (λ t. cond t (Some x.1) (at s i)) apart) ∙ is) h))
    (cases_Bool (eq_by_cmp nat_cmp i x.0))

-- the versions that a tree holds of a present inode are live
pub live_by : (past : List Node) (v i : ℕ) (e : Entry) → entry past i ≡ Some e → list_any (λ w. eqb w v) (versions_held (held past (i, e))) ≡ true → is_live past v ≡ true
live_by past v i e is h = held_in past v (state_of_past past) i e (at-state past i ∙ is) h

pub newest_is_live : (past : List Node) (i : ℕ) (e : Entry) (m : Node) → entry past i ≡ Some e → newest past i ≡ Some m → is_live past m.version ≡ true
newest_is_live past i e m is n = live_by past m.version i e is (
    list_any-append (λ w. eqb w m.version) (option_to_list (version_of (newest past i))) (flat_map option_to_list (writers_of past i))
    ∙ or_left _ _ (ap (λ o. list_any (λ w. eqb w m.version) (option_to_list (version_of o))) n ∙ or_left (eqb m.version m.version) false (eq-eqb m.version m.version refl)))

-- a version that stands at an offset of a range
in_range : (f : ℕ → Option ℕ) (v n a p : ℕ) → a ≤ p → p < a + n → f p ≡ Some v → list_any (λ w. eqb w v) (flat_map option_to_list (map f (range_with_len a n))) ≡ true
in_range f v zero a p low high is = absurd (omega arith)
in_range f v (suc n) a p low high is =
    list_any-append (λ w. eqb w v) (option_to_list (f a)) (flat_map option_to_list (map f (range_with_len (a + 1) n)))
    ∙ ⊎_elim
    (λ here. or_left _ _ (ap (λ q. list_any (λ w. eqb w v) (option_to_list (f q))) here ∙ ap (λ o. list_any (λ w. eqb w v) (option_to_list o)) is ∙ or_left (eqb v v) false (eq-eqb v v refl)))
    (λ later. or_right _ _ (in_range f v n (a + 1) p (omega arith) (omega arith) is))
    (cases_eq a p)

pub origin_is_live : (past : List Node) (i p : ℕ) (e : Entry) (m : Node) → entry past i ≡ Some e → p < size_in past i → origin past i p ≡ Some m → is_live past m.version ≡ true
origin_is_live past i p e m is l o = live_by past m.version i e is (
    list_any-append (λ w. eqb w m.version) (option_to_list (version_of (newest past i))) (flat_map option_to_list (writers_of past i))
    ∙ or_right _ _ (in_range (λ q. version_of (origin past i q)) m.version (size_in past i) 0 p (omega arith) (omega arith) (ap version_of o)))
