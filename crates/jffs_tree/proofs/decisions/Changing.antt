-- Nodes that change an inode, make one or remove one, as decisions give them.
use Rattle.std.proofs.Common.{◌≡◌, ℕ, min, max, ◌+◌, ◌-◌, ◌<◌, ◌≤◌, ◌^◌, Bool, true, false, cond, not, ◌&&◌, eqb, ltb, List, [], ◌∷◌, length, take, drop, get_or, ◌⊎◌, inl, inr, ⊎_elim, Option, Some, None, refl, sym, ap, subst, ◌∙◌, arith}
use Rattle.std.specs.List.{AllByRecursion, list_all, list_any}
use Rattle.std.proofs.lemmas.Bool.{eqb-true, eqb-false, cases_Bool, cases_lt, both_ways, not-false}
use Rattle.std.proofs.lemmas.List.{get_or_past, get_or-take, get_or-drop, length-take, length-drop}
use Rattle.jffs_node.specs.declared.node.Node.{Node}
use Rattle.jffs_node.specs.declared.node.Kind.{Kind}
use Rattle.jffs_node.specs.declared.node.Kind.TheVariants.{File, Directory}
use Rattle.jffs_node.specs.Name.{is_name}
use Rattle.jffs_node.specs.Record.{file_max, is_file, is_directory}
use Rattle.jffs_tree.specs.declared.wish.NewNode.{NewNode}
use Rattle.jffs_inodes.specs.Held.{Entry, bytes_of}
use Rattle.jffs_tree.specs.State.{at, child, is_directory_in, state_of_past}
use Rattle.jffs_tree.specs.Origin.{concerns, entry, size_in, stated_size}
use Rattle.jffs_tree.specs.Check.{is_within}
use Rattle.jffs_tree.specs.Decide.{plain, write_node, truncate_node, copy_node, has_names, with}
use Rattle.jffs_tree.specs.Deciding.{IsLawfulPast, AreNumbers, IsNewInode}
use Rattle.jffs_tree.proofs.states.Pointwise.{at-state}
use Rattle.jffs_tree.proofs.states.Steps.{its_inode, entry-other}
use Rattle.jffs_node.proofs.Fitting.{small_bytes}
use Rattle.jffs_tree.proofs.states.States.{none_at}
use Rattle.jffs_tree.proofs.states.Kept.{IsOrderly, directory_there, which_directory, one_less}
use Rattle.jffs_tree.proofs.decisions.Resolving.{no_child}
use Rattle.jffs_tree.proofs.states.Entries.{IsLawfulEntry, lawful_entry}
use Rattle.jffs_tree.proofs.states.Ruled.{kept_rules}
use Rattle.jffs_tree.proofs.decisions.Putting.{IsFileNode, IsDirectoryNode, put_keeps_past, gone_keeps_past}

-- what is present has an inode below each that is above those of all nodes
pub below_new : (past : List Node) (k i : ℕ) (e : Entry) → AllByRecursion (λ n. n.inode < k) past → entry past i ≡ Some e → i < k
below_new [] k i e above is = cc
below_new (n ∷ past) k i e above is = ⊎_elim
    (λ c. let same = its_inode i n c in let first = above.0 in omega arith)
    (λ c. below_new past k i e above.1 (sym (entry-other i n past c) ∙ is))
    (cases_Bool (concerns i n))

-- an inode's node with other data
abbrev pub changed : ℕ → Entry → Bool → ℕ → ℕ → Option ℕ → List ℕ → NewNode
changed i e copy offset rsize size bytes = record (plain i e) { copy = copy; offset = offset; rsize = rsize; size = size; bytes = bytes }

module _ (past : List Node) (before : IsLawfulPast past) (version writer seq : ℕ) (v : AreNumbers version writer seq) where
  old : IsOrderly 8 (state_of_past past)
  old = (kept_rules past before).orderly

  pub its : (i : ℕ) (e : Entry) → at (state_of_past past) i ≡ Some e → IsLawfulEntry i e
  its i e is = lawful_entry past i e before.each (kept_rules past before).fits (sym (at-state past i) ∙ is)

  -- the new node leaves a lawful list
  abbrev pub Keeps : NewNode → Type 0
  Keeps n = IsLawfulPast (with n version writer seq ∷ past)

  module _ (i : ℕ) (e : Entry) (is : at (state_of_past past) i ≡ Some e) where
    here : entry past i ≡ Some e
    here = sym (at-state past i) ∙ is

    only : (f : Entry) → entry past i ≡ Some f → f ≡ e
    only f was = let same : Some f ≡ Some e = sym was ∙ here in cc

    stated : e.kind ≡ File → stated_size e ≡ Some (length e.bytes)
    stated file = ap (λ k. cond (is_file k) (Some (length e.bytes)) None) file

    unstated : e.kind ≡ Directory → stated_size e ≡ None
    unstated directory = ap (λ k. cond (is_file k) (Some (length e.bytes)) None) directory

    its_size : size_in past i ≡ length e.bytes
    its_size = ap (λ o. length (bytes_of o)) here

    not_root : i ≡ 1 → ⊥
    not_root top = let l = (its i e is).low in omega arith

    -- what is no directory is a file
    pub its_file : is_directory_in (state_of_past past) i ≡ false → e.kind ≡ File
    its_file other = ⊎_elim
        (λ file. file)
        (λ directory. absurd (both_ways (is_directory_in (state_of_past past) i) other (directory_there (state_of_past past) i e is (ap is_directory directory.0))))
        (its i e is).kind

    module _ (copy : Bool) (offset rsize : ℕ) (size : Option ℕ) (bytes : List ℕ) where
      file_node : e.kind ≡ File → (k : ℕ) → size ≡ Some k → k ≤ file_max → offset + length bytes ≤ k → offset + rsize ≤ file_max → (rsize ≤ length bytes) ⊎ (length bytes ≡ 0)
          → (length bytes ≡ rsize) ⊎ (length e.bytes ≤ offset + rsize) → IsFileNode past (with (changed i e copy offset rsize size bytes) version writer seq)
      file_node file k says most reaches taken fills offsets = record {
        file = file;
        size = k;
        stated = says;
        most = most;
        reaches = reaches;
        range = record { low = (its i e is).low; parent = (its i e is).parent_low; range = omega arith; taken = taken; fills = fills };
        offsets = ⊎_elim (λ same. inl same) (λ last. inr (let l = its_size in omega arith)) offsets;
      }

      directory_node : (e.kind ≡ Directory) × (e.parent < i) × (e.bytes ≡ []) → size ≡ None → offset ≡ 0 → rsize ≡ 0 → length bytes ≡ 0
          → IsDirectoryNode (with (changed i e copy offset rsize size bytes) version writer seq)
      directory_node d says o r b = record {
        directory = d.0;
        stated = says;
        range = record { low = (its i e is).low; parent = (its i e is).parent_low; below = d.1; offset = o; amount = b; rsize = r };
      }

      changed_keeps : list_all (λ b. ltb b 256) bytes ≡ true → (copy ≡ false) ⊎ (rsize ≡ length bytes)
          → IsFileNode past (with (changed i e copy offset rsize size bytes) version writer seq) ⊎ IsDirectoryNode (with (changed i e copy offset rsize size bytes) version writer seq)
          → Keeps (changed i e copy offset rsize size bytes)
      changed_keeps small copied kind =
          let l = its i e is in
          put_keeps_past past (with (changed i e copy offset rsize size bytes) version writer seq)
          (record {
            numbers = v;
            stands = refl;
            name = e.name;
            named = refl;
            lawful_name = l.name;
            high = l.high;
            parent_high = l.parent_high;
            bytes = small;
            copied = copied;
            kind = kind;
            parent = old.parents i e is;
            free = λ j f there parent name. old.names i j e f is there (sym parent) (sym name);
            within = one_less (state_of_past past) 7 i e not_root is (old.depth i e is);
            was = λ f was. (ap (λ x. x.kind) (only f was), λ _. ap (λ x. x.parent) (sym (only f was)));
          })
          before

    -- Write, Truncate and Copy.
    pub write_keeps : e.kind ≡ File → (offset : ℕ) (bytes : List ℕ) → offset + length bytes ≤ file_max → list_all (λ b. ltb b 256) bytes ≡ true → Keeps (write_node i e offset bytes)
    write_keeps file offset bytes most small =
        let l = (its i e is).amount in
        ⊎_elim
        (λ none. subst Keeps (sym (ap (λ t. cond t (nothing_written) (some_written)) none))
        (changed_keeps false (min offset (length e.bytes)) 0 (stated_size e) [] refl (inl refl)
        (inl (file_node false (min offset (length e.bytes)) 0 (stated_size e) [] file (length e.bytes) (stated file) l (omega arith) (omega arith) (inr refl) (inl refl)))))
        (λ some. subst Keeps (sym (ap (λ t. cond t (nothing_written) (some_written)) some))
        (changed_keeps false offset (min (length bytes) (length e.bytes - offset)) (Some (max (length e.bytes) (offset + length bytes))) bytes small (inl refl)
        (inl (file_node false offset (min (length bytes) (length e.bytes - offset)) (Some (max (length e.bytes) (offset + length bytes))) bytes
        file (max (length e.bytes) (offset + length bytes)) refl (omega arith) (omega arith) (omega arith) (inl (omega arith))
        (⊎_elim (λ more. inr (omega arith)) (λ less. inl (omega arith)) (cases_lt (length e.bytes - offset) (length bytes)))))))
        (cases_Bool (eqb (length bytes) 0))
      where
        nothing_written : NewNode
        nothing_written = changed i e false (min offset (length e.bytes)) 0 (stated_size e) []

        some_written : NewNode
        some_written = changed i e false offset (min (length bytes) (length e.bytes - offset)) (Some (max (length e.bytes) (offset + length bytes))) bytes

    pub truncate_keeps : e.kind ≡ File → (size : ℕ) → size ≤ file_max → Keeps (truncate_node i e size)
    truncate_keeps file size most =
        let l = (its i e is).amount in
        changed_keeps false (min size (length e.bytes)) (length e.bytes - min size (length e.bytes)) (Some size) [] refl (inl refl)
        (inl (file_node false (min size (length e.bytes)) (length e.bytes - min size (length e.bytes)) (Some size) [] file size refl most (omega arith) (omega arith) (inr refl) (inr (omega arith))))

    current_small : (offset : ℕ) (bytes : List ℕ) → bytes ≡ take (length bytes) (drop offset e.bytes) → (p : ℕ) → get_or bytes p 0 < 256
    current_small offset bytes current p = ⊎_elim
        (λ there. subst (λ b. b < 256) (sym (ap (λ (x : List ℕ). get_or x p 0) current ∙ get_or-take (length bytes) (drop offset e.bytes) p 0 there ∙ get_or-drop offset e.bytes p 0)) ((its i e is).small _))
        (λ beyond. subst (λ b. b < 256) (sym (get_or_past bytes p 0 beyond)) (omega arith))
        (cases_lt p (length bytes))

    pub copy_keeps : (offset : ℕ) (bytes : List ℕ) → offset ≤ length e.bytes → bytes ≡ take (length bytes) (drop offset e.bytes) → Keeps (copy_node i e offset bytes)
    copy_keeps offset bytes low current =
        let l = (its i e is).amount in
        let long = ap (λ (x : List ℕ). length x) current in
        let t = length-take (length bytes) (drop offset e.bytes) in
        let d = length-drop offset e.bytes in
        let reaches : offset + length bytes ≤ length e.bytes = omega arith in
        changed_keeps true offset (length bytes) (stated_size e) bytes (small_bytes bytes (current_small offset bytes current)) (inr refl)
        (⊎_elim
        (λ file. inl (file_node true offset (length bytes) (stated_size e) bytes file (length e.bytes) (stated file) l reaches (omega arith) (inl (omega arith)) (inl refl)))
        (λ directory.
        let none : length e.bytes ≡ 0 = ap (λ (x : List ℕ). length x) directory.2 in
        inr (directory_node true offset (length bytes) (stated_size e) bytes directory (unstated directory.0) (omega arith) (omega arith) (omega arith)))
        (its i e is).kind)

    -- Remove.
    pub remove_keeps : has_names (state_of_past past) i ≡ false → Keeps (record (plain i e) { deleted = true; size = None })
    remove_keeps bare =
        let l = its i e is in
        let under : ℕ × Entry → Bool = λ x. eqb x.1.parent i in
        gone_keeps_past past (with (record (plain i e) { deleted = true; size = None }) version writer seq)
        (record {
          numbers = v;
          deleted = refl;
          plain = refl;
          name = e.name;
          named = refl;
          lawful_name = l.name;
          low = l.low;
          high = l.high;
          parent_low = l.parent_low;
          parent_high = l.parent_high;
          kind = ⊎_elim (λ file. inl file) (λ directory. inr (directory.0, directory.1)) l.kind;
          offset = refl;
          rsize = refl;
          size = refl;
          bytes = refl;
          empty = λ j f there parent.
              let directory : is_directory_in (state_of_past past) i ≡ true = ap (is_directory_in (state_of_past past)) parent ∙ old.parents j f there in
              let none : list_any under (state_of_past past) ≡ false = sym (ap (λ b. b && list_any under (state_of_past past)) directory) ∙ bare in
              absurd (eqb-false f.parent i (none_at under (state_of_past past) j f none there) (sym parent));
        })
        before

  -- A directory with room for one name more below it.
  pub record IsHome (p : ℕ) (name : List ℕ) : Type 0 where
    pub directory : is_directory_in (state_of_past past) p ≡ true
    pub within : is_within 7 (state_of_past past) p ≡ true
    pub lawful : is_name name ≡ true
    pub free : child (state_of_past past) p name ≡ None

  module _ (p : ℕ) (name : List ℕ) (home : IsHome p name) where
    home_numbers : (1 ≤ p) × (p < 2 ^ 32)
    home_numbers = ⊎_elim
        (λ top. (omega arith, omega arith))
        (λ under. let l = its p under.0 under.1 in (let k = l.low in omega arith, l.high))
        (which_directory (state_of_past past) p home.directory)

    -- Rename.
    pub rename_keeps : (i : ℕ) (e : Entry) → at (state_of_past past) i ≡ Some e → (is_directory e.kind && not (eqb e.parent p)) ≡ false → Keeps (plain i (record e { parent = p; name = name }))
    rename_keeps i e is stays =
        let l = its i e is in
        put_keeps_past past (with (plain i (record e { parent = p; name = name })) version writer seq)
        (record {
          numbers = v;
          stands = refl;
          name = name;
          named = refl;
          lawful_name = home.lawful;
          high = l.high;
          parent_high = home_numbers.1;
          bytes = refl;
          copied = inl refl;
          kind = ⊎_elim
              (λ file. inl (record {
                file = file;
                size = length e.bytes;
                stated = stated i e is file;
                most = l.amount;
                reaches = omega arith;
                range = record { low = l.low; parent = home_numbers.0; range = omega arith; taken = omega arith; fills = inr refl };
                offsets = inl refl;
              }))
              (λ directory. inr (record {
                directory = directory.0;
                stated = unstated i e is directory.0;
                range = record { low = l.low; parent = home_numbers.0; below = (let same = home_same (ap is_directory directory.0) in let b = directory.1 in omega arith); offset = refl; amount = refl; rsize = refl };
              }))
              l.kind;
          parent = home.directory;
          free = λ j f there parent same. absurd (no_child (state_of_past past) p name home.free j f there parent same);
          within = home.within;
          was = λ f was. (
            ap (λ x. x.kind) (only i e is f was),
            λ d. sym (ap (λ x. x.parent) (only i e is f was) ∙ home_same (ap (λ x. is_directory x.kind) (sym (only i e is f was)) ∙ d)),
          );
        })
        before
      where
        home_same : is_directory e.kind ≡ true → e.parent ≡ p
        home_same d = eqb-true e.parent p (not-false (eqb e.parent p) (sym (ap (λ b. b && not (eqb e.parent p)) d) ∙ stays))

    -- MakeDir and Create.
    module _ (k : ℕ) (new : IsNewInode past k) where
      absent : (f : Entry) → entry past k ≡ Some f → ⊥
      absent f was = let l = below_new past k k f new.above was in omega arith

      home_below : p < k
      home_below = ⊎_elim
          (λ top. let l = new.low in omega arith)
          (λ under. below_new past k p under.0 new.above (sym (at-state past p) ∙ under.1))
          (which_directory (state_of_past past) p home.directory)

      made : (kind : Kind) → IsFileNode past (with (plain k (record { kind = kind; parent = p; name = name; bytes = [] })) version writer seq) ⊎ IsDirectoryNode (with (plain k (record { kind = kind; parent = p; name = name; bytes = [] })) version writer seq)
          → Keeps (plain k (record { kind = kind; parent = p; name = name; bytes = [] }))
      made kind its_kind = put_keeps_past past (with (plain k (record { kind = kind; parent = p; name = name; bytes = [] })) version writer seq)
          (record {
            numbers = v;
            stands = refl;
            name = name;
            named = refl;
            lawful_name = home.lawful;
            high = new.high;
            parent_high = home_numbers.1;
            bytes = refl;
            copied = inl refl;
            kind = its_kind;
            parent = home.directory;
            free = λ j f there parent same. absurd (no_child (state_of_past past) p name home.free j f there parent same);
            within = home.within;
            was = λ f was. absurd (absent f was);
          })
          before

      pub create_keeps : Keeps (plain k (record { kind = File; parent = p; name = name; bytes = [] }))
      create_keeps = made File (inl (record {
        file = refl;
        size = 0;
        stated = refl;
        most = omega arith;
        reaches = omega arith;
        range = record { low = new.low; parent = home_numbers.0; range = omega arith; taken = omega arith; fills = inr refl };
        offsets = inl refl;
      }))

      pub make_directory_keeps : Keeps (plain k (record { kind = Directory; parent = p; name = name; bytes = [] }))
      make_directory_keeps = made Directory (inr (record {
        directory = refl;
        stated = refl;
        range = record { low = new.low; parent = home_numbers.0; below = home_below; offset = refl; amount = refl; rsize = refl };
      }))
