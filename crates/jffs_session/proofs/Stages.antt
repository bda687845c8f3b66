-- The files of a put, stage by stage.
use Rattle.std.proofs.Common.{◌≡◌, ℕ, ◌+◌, ◌-◌, ◌<◌, ◌≤◌, Bool, true, false, not, cond, eqb, T, List, [], ◌∷◌, ◌++◌, take, drop, length, replicate, Option, Some, None, option_and_then, refl, sym, ap, subst, ◌∙◌, arith, nat_cmp}
use Rattle.std.specs.Option.{option_map_or}
use Rattle.std.specs.Cmp.{nat_cmp_total}
use Rattle.std.specs.FinMap.{nat_cmp-IsAntisymmetric}
use Rattle.std.specs.FinMap.Entries as entries
use Rattle.std.proofs.lemmas.Bool.{eqb-true, eq-eqb, both_ways}
use Rattle.std.proofs.lemmas.Option.{same_Some}
use Rattle.jffs_node.specs.Record.{is_directory}
use Rattle.jffs_inodes.specs.Held.{Entry}
use Rattle.jffs_inodes.proofs.Put.{find_without, find_rewritten}
use Rattle.jffs_tree.specs.State.{State, at, child, resolve, is_directory_in}
use Rattle.jffs_tree.specs.Decide.{last_name, parent_in, is_root}
use Rattle.jffs_tree.specs.Done.{done_at, without, with_changed}
use Rattle.jffs_tree.proofs.decisions.Resolving.{the_parent, led_to_last}
use Rattle.jffs_session.specs.Put.{file_entry, IsFreePlace, IsAdded, AreBeside, cleared}
use Rattle.jffs_session.proofs.Paths.{IsSound, child_found, only_child, childless, still_leads}

-- two sorted states that agree at each inode
same_states : (s t : State) → T (entries.is_sorted nat_cmp s) → T (entries.is_sorted nat_cmp t) → ((i : ℕ) → at s i ≡ at t i) → s ≡ t
same_states s t a b same = entries.same_entries nat_cmp nat_cmp_total nat_cmp-IsAntisymmetric s t a b same

at_put : (i : ℕ) (e : Entry) (s : State) (k : ℕ) → at (entries.put nat_cmp i e s) k ≡ cond (eqb i k) (Some e) (at s k)
at_put i e s k = find_rewritten (λ o. e) i s k

sorted_put : (i : ℕ) (e : Entry) (s : State) → T (entries.is_sorted nat_cmp s) → T (entries.is_sorted nat_cmp (entries.put nat_cmp i e s))
sorted_put i e s h = entries.is_sorted-put nat_cmp nat_cmp_total i e s h

sorted_without : (j : ℕ) (s : State) → T (entries.is_sorted nat_cmp s) → T (entries.is_sorted nat_cmp (without s j))
sorted_without j s h = entries.is_sorted-where_key nat_cmp (λ k. not (eqb j k)) s h

-- the inode of an entry that is put, or the others
put_here : (i : ℕ) (e : Entry) (s : State) → at (entries.put nat_cmp i e s) i ≡ Some e
put_here i e s = at_put i e s i ∙ ap (λ t. cond t (Some e) (at s i)) (eq-eqb i i refl)

elsewhere : {A : Type 0} (i k : ℕ) (a b : A) → (k ≡ i → ⊥) → cond (eqb i k) a b ≡ b
elsewhere i k a b apart = by_test (eqb i k) refl
  where
    by_test : (t : Bool) → eqb i k ≡ t → cond t a b ≡ b
    by_test true is = absurd (apart (sym (eqb-true i k is)))
    by_test false is = refl

-- an inode that has an entry isn't a free one
not_free : (s : State) (i k : ℕ) (f : Entry) → at s i ≡ None → at s k ≡ Some f → k ≡ i → ⊥
not_free s i k f free is same = let there : at s i ≡ Some f = ap (at s) (sym same) ∙ is in cc

-- the entry put over another
put_twice : (i : ℕ) (d e : Entry) (s : State) → T (entries.is_sorted nat_cmp s) → entries.put nat_cmp i e (entries.put nat_cmp i d s) ≡ entries.put nat_cmp i e s
put_twice i d e s h = same_states _ _ (sorted_put i e _ (sorted_put i d s h)) (sorted_put i e s h) (λ k.
    at_put i e (entries.put nat_cmp i d s) k ∙ ap (λ o. cond (eqb i k) (Some e) o) (at_put i d s k) ∙ again (eqb i k) (at s k) ∙ sym (at_put i e s k))
  where
    again : (t : Bool) (o : Option Entry) → cond t (Some e) (cond t (Some d) o) ≡ cond t (Some e) o
    again true o = refl
    again false o = refl

-- a free inode's entry put and taken away
put_away : (i : ℕ) (e : Entry) (s : State) → T (entries.is_sorted nat_cmp s) → at s i ≡ None → without (entries.put nat_cmp i e s) i ≡ s
put_away i e s h free = same_states _ _ (sorted_without i _ (sorted_put i e s h)) h (λ k.
    find_without i (entries.put nat_cmp i e s) k ∙ ap (λ o. cond (eqb i k) None o) (at_put i e s k) ∙ by_test k (eqb i k) refl)
  where
    by_test : (k : ℕ) (t : Bool) → eqb i k ≡ t → cond t None (cond t (Some e) (at s k)) ≡ at s k
    by_test k true is = sym (ap (at s) (sym (eqb-true i k is)) ∙ free)
    by_test k false is = refl

-- one inode's entry put, and another's taken away
put_apart : (i j : ℕ) (e : Entry) (s : State) → T (entries.is_sorted nat_cmp s) → (i ≡ j → ⊥) → without (entries.put nat_cmp i e s) j ≡ entries.put nat_cmp i e (without s j)
put_apart i j e s h apart = same_states _ _ (sorted_without j _ (sorted_put i e s h)) (sorted_put i e _ (sorted_without j s h)) (λ k.
    find_without j (entries.put nat_cmp i e s) k ∙ ap (λ o. cond (eqb j k) None o) (at_put i e s k)
    ∙ either k (eqb i k) (eqb j k) refl refl (at s k)
    ∙ sym (at_put i e (without s j) k ∙ ap (λ o. cond (eqb i k) (Some e) o) (find_without j s k)))
  where
    either : (k : ℕ) (a b : Bool) → eqb i k ≡ a → eqb j k ≡ b → (o : Option Entry) → cond b None (cond a (Some e) o) ≡ cond a (Some e) (cond b None o)
    either k true true here there o = absurd (apart (eqb-true i k here ∙ sym (eqb-true j k there)))
    either k true false here there o = refl
    either k false true here there o = refl
    either k false false here there o = refl

-- whether an inode is a directory is a matter of its entry
same_directory : (s t : State) (k : ℕ) → at s k ≡ at t k → is_directory_in s k ≡ is_directory_in t k
same_directory s t k same = ap (λ (o : Option Entry). Rattle.std.specs.List.list_any (λ b. b) (eqb k 1 ∷ option_map_or (λ e. is_directory e.kind) o false ∷ [])) same

-- what a path whose directory is known leads to
module _ (s : State) (path : List (List ℕ)) (q : ℕ) (some : is_root path ≡ false) (parent : parent_in s path ≡ Some q) where
  pub leads_to : resolve s path ≡ child s q (last_name path)
  leads_to = led_to_last s path q some parent

-- A new file in files that are sound, as long as all is sound.
module _ (path : List (List ℕ)) (bytes : List ℕ) (s t : State) (a : IsAdded path bytes s t) (sound : IsSound s) (after : IsSound t) where
  abbrev place : IsFreePlace path s
  place = a.place

  abbrev pub q : ℕ
  q = Rattle.std.proofs.Common.unwrap_or (parent_in s path) 0

  abbrev new : Entry
  new = file_entry q (last_name path) bytes

  pub parent_was : parent_in s path ≡ Some q
  parent_was = (the_parent s path place.parent).0

  pub is_put : t ≡ entries.put nat_cmp a.inode new s
  is_put = a.is ∙ ap (λ o. option_map_or (λ parent. entries.put nat_cmp a.inode (file_entry parent (last_name path) bytes) s) o s) parent_was

  pub at_new : at t a.inode ≡ Some new
  at_new = ap (λ x. at x a.inode) is_put ∙ put_here a.inode new s

  pub kept : (c : ℕ) (e : Entry) → at s c ≡ Some e → at t c ≡ Some e
  kept c e is = ap (λ x. at x c) is_put ∙ at_put a.inode new s c ∙ elsewhere a.inode c (Some new) (at s c) (not_free s a.inode c e a.free is) ∙ is

  pub leads_still : (other : List (List ℕ)) (y : ℕ) → resolve s other ≡ Some y → resolve t other ≡ Some y
  leads_still other y is = still_leads s t sound after (λ c. ⊥) (λ c e there no. kept c e there) (λ c d no. no) other 1 y is (λ no. no)

  pub parent_is : parent_in t path ≡ Some q
  parent_is = leads_still (take (length path - 1) path) q parent_was

  pub new_leads : resolve t path ≡ Some a.inode
  new_leads = led_to_last t path q place.below_root parent_is ∙ only_child t after q (last_name path) a.inode new at_new refl refl

  -- its bytes are others
  pub rewritten : (other : List ℕ) (change : Entry → Entry) → change new ≡ file_entry q (last_name path) other → IsAdded path other s (done_at path t (with_changed change t))
  rewritten other change is = record {
    place = a.place;
    inode = a.inode;
    above_root = a.above_root;
    free = a.free;
    is =
        ap (λ o. option_map_or (with_changed change t) o t) new_leads
        ∙ ap (λ o. option_map_or (λ e. entries.put nat_cmp a.inode (change e) t) o t) at_new
        ∙ ap (λ e. entries.put nat_cmp a.inode e t) is
        ∙ ap (λ x. entries.put nat_cmp a.inode (file_entry q (last_name path) other) x) is_put
        ∙ put_twice a.inode new (file_entry q (last_name path) other) s sound.sorted
        ∙ sym (ap (λ o. option_map_or (λ parent. entries.put nat_cmp a.inode (file_entry parent (last_name path) other) s) o s) parent_was);
  }

  -- it is gone again
  pub taken_back : done_at path t (without t) ≡ s
  taken_back =
      ap (λ o. option_map_or (without t) o t) new_leads ∙ ap (λ x. without x a.inode) is_put ∙ put_away a.inode new s sound.sorted a.free

  -- it is renamed in its directory
  pub renamed : (target : List (List ℕ)) → is_root target ≡ false → take (length target - 1) target ≡ take (length path - 1) path → resolve s target ≡ None
      → IsAdded target bytes s (option_map_or (λ parent. done_at path t (with_changed (λ e. record e { parent = parent; name = last_name target }) t)) (parent_in t target) t)
  renamed target some beside nothing =
      let same_parent : (x : State) → parent_in x target ≡ parent_in x path = λ x. ap (λ d. resolve x d) beside in
      record {
        place = record { below_root = some; parent = ap (λ o. option_map_or (is_directory_in s) o false) (same_parent s) ∙ place.parent; nothing = nothing };
        inode = a.inode;
        above_root = a.above_root;
        free = a.free;
        is =
            ap (λ o. option_map_or (λ parent. done_at path t (with_changed (λ e. record e { parent = parent; name = last_name target }) t)) o t) (same_parent t ∙ parent_is)
            ∙ ap (λ o. option_map_or (with_changed (λ e. record e { parent = q; name = last_name target }) t) o t) new_leads
            ∙ ap (λ o. option_map_or (λ (e : Entry). entries.put nat_cmp a.inode (record e { parent = q; name = last_name target }) t) o t) at_new
            ∙ ap (λ x. entries.put nat_cmp a.inode (file_entry q (last_name target) bytes) x) is_put
            ∙ put_twice a.inode new (file_entry q (last_name target) bytes) s sound.sorted
            ∙ sym (ap (λ o. option_map_or (λ parent. entries.put nat_cmp a.inode (file_entry parent (last_name target) bytes) s) o s) (same_parent s ∙ parent_was));
      }

-- Files without one of them, which is no directory.
module _ (s : State) (sound : IsSound s) (j : ℕ) (file : is_directory_in s j ≡ false) where
  at_rest : (k : ℕ) → at (without s j) k ≡ cond (eqb j k) None (at s k)
  at_rest k = find_without j s k

  pub rest_kept : (k : ℕ) (e : Entry) → at s k ≡ Some e → (k ≡ j → ⊥) → at (without s j) k ≡ Some e
  rest_kept k e is apart = at_rest k ∙ elsewhere j k None (at s k) apart ∙ is

  pub rest_was : (k : ℕ) (e : Entry) → at (without s j) k ≡ Some e → at s k ≡ Some e
  rest_was k e is = by_test (eqb j k) (sym (at_rest k) ∙ is)
    where
      by_test : (t : Bool) → cond t None (at s k) ≡ Some e → at s k ≡ Some e
      by_test true h = cc
      by_test false h = h

  no_directory : (k : ℕ) → is_directory_in s k ≡ true → k ≡ j → ⊥
  no_directory k is same = both_ways (is_directory_in s j) file (ap (is_directory_in s) (sym same) ∙ is)

  directory_kept : (k : ℕ) → is_directory_in s k ≡ true → is_directory_in (without s j) k ≡ true
  directory_kept k is = same_directory (without s j) s k (at_rest k ∙ elsewhere j k None (at s k) (no_directory k is)) ∙ is

  pub rest_sound : IsSound (without s j)
  rest_sound = record {
    sorted = sorted_without j s sound.sorted;
    parents = λ k f is. directory_kept f.parent (sound.parents k f (rest_was k f is));
    names = λ k m f g is was. sound.names k m f g (rest_was k f is) (rest_was m g was);
  }

  pub rest_leads : (path : List (List ℕ)) (y : ℕ) → resolve s path ≡ Some y → (y ≡ j → ⊥) → resolve (without s j) path ≡ Some y
  rest_leads path y is apart = still_leads s (without s j) sound rest_sound (λ c. c ≡ j) rest_kept no_directory path 1 y is apart

  -- a place in a directory that was free is free, and so is that of the file itself
  module _ (path : List (List ℕ)) (q : ℕ) (some : is_root path ≡ false) (parent : parent_in s path ≡ Some q) (directory : is_directory_in s q ≡ true) where
    parent_rests : parent_in (without s j) path ≡ Some q
    parent_rests = rest_leads (take (length path - 1) path) q parent (no_directory q directory)

    pub rest_place : ((k : ℕ) (e : Entry) → at (without s j) k ≡ Some e → e.parent ≡ q → e.name ≡ last_name path → ⊥) → IsFreePlace path (without s j)
    rest_place none = record {
      below_root = some;
      parent = ap (λ o. option_map_or (is_directory_in (without s j)) o false) parent_rests ∙ directory_kept q directory;
      nothing = led_to_last (without s j) path q some parent_rests ∙ childless (without s j) q (last_name path) (sorted_without j s sound.sorted) none;
    }

    pub still_free : resolve s path ≡ None → IsFreePlace path (without s j)
    still_free nothing = rest_place (λ k e is up named.
        let found = only_child s sound q (last_name path) k e (rest_was k e is) up named in
        let none = sym (led_to_last s path q some parent) ∙ nothing in
        cc)

    pub freed : resolve s path ≡ Some j → resolve (without s j) path ≡ None
    freed leads =
        let place = rest_place (λ k e is up named.
        let found = only_child s sound q (last_name path) k e (rest_was k e is) up named in
        let here : k ≡ j = same_Some k j (sym found ∙ sym (led_to_last s path q some parent) ∙ leads) in
        let gone : at (without s j) k ≡ None = at_rest k ∙ ap (λ t. cond t None (at s k)) (eq-eqb j k (sym here)) in
        cc) in
        place.nothing

-- The old file is gone, and the new one stands beside.
module _ (path unfinished : List (List ℕ)) (bytes : List ℕ) (s t : State) (beside : AreBeside path unfinished) (a : IsAdded unfinished bytes s t) (sound : IsSound s) (after : IsSound t)
    (j : ℕ) (leads : resolve s path ≡ Some j) (file : is_directory_in s j ≡ false) where
  abbrev home : ℕ
  home = Rattle.std.proofs.Common.unwrap_or (parent_in s unfinished) 0

  at_home : parent_in s unfinished ≡ Some home
  at_home = parent_was unfinished bytes s t a sound after

  home_there : is_directory_in s home ≡ true
  home_there = let place = a.place in (the_parent s unfinished place.parent).1

  path_home : parent_in s path ≡ Some home
  path_home = ap (λ d. resolve s d) beside.directory ∙ at_home

  -- the old file has an entry, so it isn't the new one
  old_there : (e : Entry) × (at s j ≡ Some e) × (e.parent ≡ home) × (e.name ≡ last_name path)
  old_there = child_found s home (last_name path) j sound.sorted (sym (led_to_last s path home beside.some path_home) ∙ leads)

  apart : a.inode ≡ j → ⊥
  apart same = not_free s a.inode j old_there.0 a.free old_there.1 (sym same)

  cleared_is : cleared path s ≡ without s j
  cleared_is = ap (λ o. option_map_or (without s) o s) leads

  pub replaced : IsAdded unfinished bytes (cleared path s) (done_at path t (without t))
  replaced = subst (λ x. IsAdded unfinished bytes x (done_at path t (without t))) (sym cleared_is) (record {
    place = let place = a.place in still_free s sound j file unfinished home place.below_root at_home home_there place.nothing;
    inode = a.inode;
    above_root = a.above_root;
    free = find_without j s a.inode ∙ elsewhere j a.inode None (at s a.inode) apart ∙ a.free;
    is =
        ap (λ o. option_map_or (without t) o t) (leads_still unfinished bytes s t a sound after path j leads)
        ∙ ap (λ x. without x j) (is_put unfinished bytes s t a sound after)
        ∙ put_apart a.inode j (new unfinished bytes s t a sound after) s sound.sorted apart
        ∙ sym (ap (λ o. option_map_or (λ parent. entries.put nat_cmp a.inode (file_entry parent (last_name unfinished) bytes) (without s j)) o (without s j))
        (rest_leads s sound j file (take (length unfinished - 1) unfinished) home at_home (λ same. both_ways (is_directory_in s j) file (ap (is_directory_in s) (sym same) ∙ home_there))));
  })

  pub cleared_sound : IsSound (cleared path s)
  cleared_sound = subst IsSound (sym cleared_is) (rest_sound s sound j file)

  pub cleared_free : resolve (cleared path s) path ≡ None
  cleared_free = ap (λ x. resolve x path) cleared_is ∙ freed s sound j file path home beside.some path_home home_there leads
