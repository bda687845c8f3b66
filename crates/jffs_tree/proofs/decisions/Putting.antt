-- A node that is put as a decision puts it is lawful and keeps the rules of a tree.
use Rattle.std.proofs.Common.{◌≡◌, ℕ, ◌+◌, ◌<◌, ◌≤◌, ◌^◌, true, false, not, ◌&&◌, ◌||◌, eqb, leb, ltb, List, [], ◌∷◌, length, ◌⊎◌, inl, inr, ⊎_elim, Option, Some, None, is_some, is_none, unwrap_or, refl, sym, ap, subst, ◌∙◌, arith}
use Rattle.std.specs.List.{list_all, list_any}
use Rattle.std.specs.Option.{option_map_or}
use Rattle.std.proofs.lemmas.Bool.{eq-eqb, ne_eqb, le-leb, and_from, and_right, or_left, or_right}
use Rattle.jffs_node.specs.declared.node.Node.{Node}
use Rattle.jffs_node.specs.declared.node.Kind.{Kind}
use Rattle.jffs_node.specs.declared.node.Kind.TheVariants.{File, Directory}
use Rattle.jffs_node.specs.Name.{is_name}
use Rattle.jffs_node.specs.Record.{dsize, file_max, is_file, is_unmount, is_directory, kind_byte, kind_numbers, size_numbers, is_lawful, has_no_range}
use Rattle.jffs_inodes.specs.Held.{Entry, written}
use Rattle.jffs_tree.specs.State.{at, state_of_past, is_directory_in}
use Rattle.jffs_tree.specs.Origin.{entry, size_in}
use Rattle.jffs_tree.specs.Check.{keeps_kind, keeps_offsets, keeps_form, each_fits, is_within}
use Rattle.jffs_tree.specs.Deciding.{IsLawfulPast, AreNumbers}
use Rattle.jffs_tree.proofs.states.Pointwise.{at-state}
use Rattle.jffs_tree.proofs.states.Steps.{entry-other, entry-deleted, entry-written}
use Rattle.jffs_tree.proofs.states.Kept.{IsPutIn, IsGoneIn, put_keeps, gone_keeps}
use Rattle.jffs_node.proofs.Lawfulness.{HasRange, HasNoRange, lawful_from, no_range_from, file_numbers_from, directory_numbers_from}
use Rattle.jffs_tree.proofs.states.Entries.{each_fits_from}
use Rattle.jffs_tree.proofs.states.Ruled.{kept_rules, keeps_past}

-- a file's node, with the size that it states
pub record IsFileNode (past : List Node) (n : Node) : Type 0 where
  pub file : n.kind ≡ File
  pub size : ℕ
  pub stated : n.size ≡ Some size
  pub most : size ≤ file_max
  pub reaches : n.offset + dsize n ≤ size
  pub range : HasRange n
  pub offsets : (dsize n ≡ n.rsize) ⊎ (size_in past n.inode ≤ n.offset + n.rsize)

pub record IsDirectoryNode (n : Node) : Type 0 where
  pub directory : n.kind ≡ Directory
  pub stated : n.size ≡ None
  pub range : HasNoRange n

-- A node that puts its inode in a directory that is there, under a name that no other inode has
-- there.
pub record IsPut (past : List Node) (n : Node) : Type 0 where
  pub numbers : AreNumbers n.version n.writer n.seq
  pub stands : n.deleted ≡ false
  pub name : List ℕ
  pub named : n.name ≡ Some name
  pub lawful_name : is_name name ≡ true
  pub high : n.inode < 2 ^ 32
  pub parent_high : n.parent < 2 ^ 32
  pub bytes : list_all (λ b. ltb b 256) n.bytes ≡ true
  pub copied : (n.copy ≡ false) ⊎ (n.rsize ≡ dsize n)
  pub kind : IsFileNode past n ⊎ IsDirectoryNode n
  pub parent : is_directory_in (state_of_past past) n.parent ≡ true
  pub free : (j : ℕ) (f : Entry) → at (state_of_past past) j ≡ Some f → f.parent ≡ n.parent → f.name ≡ name → n.inode ≡ j
  pub within : is_within 7 (state_of_past past) n.parent ≡ true
  pub was : (f : Entry) → entry past n.inode ≡ Some f → (f.kind ≡ n.kind) × (is_directory f.kind ≡ true → n.parent ≡ f.parent)

copy_rule : (n : Node) → (n.copy ≡ false) ⊎ (n.rsize ≡ dsize n) → (not n.copy || eqb n.rsize (dsize n)) ≡ true
copy_rule n h = ⊎_elim (λ no. ap (λ b. not b || eqb n.rsize (dsize n)) no) (λ same. or_right (not n.copy) (eqb n.rsize (dsize n)) (eq-eqb n.rsize (dsize n) same)) h

module _ (past : List Node) (n : Node) (h : IsPut past n) where
  -- It is lawful where its range, its form and its size are.
  lawful_as : (k : Kind) → n.kind ≡ k → is_unmount k ≡ false → (n.offset < 2 ^ 32) × (n.rsize < 2 ^ 32) × (dsize n < 2 ^ 32) → unwrap_or n.size 0 < 2 ^ 32
      → (is_none n.size || (is_file n.kind && not n.deleted)) ≡ true → kind_numbers k n (dsize n) ≡ true → size_numbers n (dsize n) ≡ true → is_lawful n ≡ true
  lawful_as k is stands small fits form range size =
      lawful_from n
      (record {
        inode = h.high;
        parent = h.parent_high;
        version = h.numbers.version_fits;
        offset = small.0;
        rsize = small.1;
        writer = h.numbers.writer_fits;
        seq = h.numbers.seq_fits;
        amount = small.2;
        size = fits;
        bytes = h.bytes;
      })
      (record {
        flags = ap (λ b. not (b && n.copy)) h.stands;
        unmount = ap (λ u. not u || (not n.deleted && not n.copy)) (ap is_unmount is ∙ stands);
        name = (λ i. option_map_or (λ x. not ((ap is_unmount is ∙ stands) i) && is_name x) (h.named i) (is_unmount n.kind)) ∙ h.lawful_name;
        form = form;
        version = le-leb 1 n.version h.numbers.first;
        kind = ap (λ x. kind_numbers x n (dsize n)) is ∙ range;
        gone = ap (λ b. not b || has_no_range n (dsize n)) h.stands;
        copied = copy_rule n h.copied;
        size = size;
      })

  file_lawful : IsFileNode past n → is_lawful n ≡ true
  file_lawful f =
      let range = f.range in
      lawful_as File f.file refl (omega (arith, range.range), omega (arith, range.taken), omega (arith, range.range)) (subst (λ o. unwrap_or o 0 < 2 ^ 32) (sym f.stated) (omega (arith, f.most)))
      (λ i. is_none (f.stated i) || (is_file (f.file i) && not (h.stands i))) (file_numbers_from n range)
      (ap (λ o. option_map_or (λ size. leb size file_max && leb (n.offset + dsize n) size) o true) f.stated
      ∙ and_from (leb f.size file_max) (leb (n.offset + dsize n) f.size) (le-leb f.size file_max f.most) (le-leb (n.offset + dsize n) f.size f.reaches))

  directory_lawful : IsDirectoryNode n → is_lawful n ≡ true
  directory_lawful f =
      let range = f.range in
      lawful_as Directory f.directory refl (omega (arith, range.offset), omega (arith, range.rsize), omega (arith, range.amount)) (subst (λ o. unwrap_or o 0 < 2 ^ 32) (sym f.stated) (omega arith))
      (ap (λ o. is_none o || (is_file n.kind && not n.deleted)) f.stated) (directory_numbers_from n range)
      (ap (λ o. option_map_or (λ size. leb size file_max && leb (n.offset + dsize n) size) o true) f.stated)

  put_lawful : is_lawful n ≡ true
  put_lawful = ⊎_elim (λ f. file_lawful f) (λ d. directory_lawful d) h.kind

  put_kind : keeps_kind past n ≡ true
  put_kind = or_right n.deleted (option_map_or (λ e. eqb (kind_byte e.kind) (kind_byte n.kind)) (entry past n.inode) true) (by_entry (entry past n.inode) refl)
    where
      by_entry : (o : Option Entry) → entry past n.inode ≡ o → option_map_or (λ e. eqb (kind_byte e.kind) (kind_byte n.kind)) o true ≡ true
      by_entry None is = refl
      by_entry (Some f) is = eq-eqb (kind_byte f.kind) (kind_byte n.kind) (ap kind_byte (h.was f is).0)

  put_offsets : keeps_offsets past n ≡ true
  put_offsets = ⊎_elim
      (λ f. ⊎_elim
      (λ same. or_left (not (is_file n.kind) || eqb (dsize n) n.rsize) _ (or_right (not (is_file n.kind)) (eqb (dsize n) n.rsize) (eq-eqb (dsize n) n.rsize same)))
      (λ last. or_right (not (is_file n.kind) || eqb (dsize n) n.rsize) (leb (size_in past n.inode) (n.offset + n.rsize)) (le-leb (size_in past n.inode) (n.offset + n.rsize) last))
      f.offsets)
      (λ d. ap (λ k. (not (is_file k) || eqb (dsize n) n.rsize) || leb (size_in past n.inode) (n.offset + n.rsize)) d.directory)
      h.kind

  put_form : keeps_form past n ≡ true
  put_form = ⊎_elim
      (λ f. or_left ((not (is_file n.kind) || n.deleted) || is_some n.size) _ (or_right (not (is_file n.kind) || n.deleted) (is_some n.size) (ap is_some f.stated)))
      (λ d. ap (λ k. ((not (is_file k) || n.deleted) || is_some n.size) || not (list_any (λ (m : Node). is_some m.size) past)) d.directory)
      h.kind

  not_unmount : is_unmount n.kind ≡ false
  not_unmount = ⊎_elim (λ f. ap is_unmount f.file) (λ d. ap is_unmount d.directory) h.kind

  low_inode : 2 ≤ n.inode
  low_inode = ⊎_elim (λ f. f.range.low) (λ d. d.range.low) h.kind

  put_in : IsPutIn 7 (state_of_past past) (state_of_past (n ∷ past)) n.inode (written n (entry past n.inode))
  put_in =
      let low = low_inode in
      record {
        other = λ j apart. at-state (n ∷ past) j ∙ entry-other j n past (and_right (not (is_unmount n.kind)) (eqb n.inode j) (ne_eqb n.inode j apart)) ∙ sym (at-state past j);
        here = at-state (n ∷ past) n.inode
            ∙ entry-written n.inode n past (and_from (not (is_unmount n.kind)) (eqb n.inode n.inode) (ap not not_unmount) (eq-eqb n.inode n.inode refl)) h.stands;
        low = λ top. omega arith;
        parent = h.parent;
        free = λ j f is parent name. h.free j f is parent (name ∙ ap (λ o. unwrap_or o []) h.named);
        within = h.within;
        was = λ f is d. let same = h.was f (sym (at-state past n.inode) ∙ is) in (ap is_directory (sym same.0) ∙ d, same.1 d);
      }

  put_sized : n.kind ≡ File → n.deleted ≡ false → is_some n.size ≡ true
  put_sized file d = ⊎_elim (λ f. ap is_some f.stated) (λ f. let no : File ≡ Directory = sym file ∙ f.directory in cc) h.kind

  pub put_keeps_past : IsLawfulPast past → IsLawfulPast (n ∷ past)
  put_keeps_past before =
      let old = kept_rules past before in
      keeps_past n past (put_lawful, before.each) (each_fits_from n past old.fits put_kind put_offsets put_form) put_sized old.writers
      (put_keeps 7 (state_of_past past) (state_of_past (n ∷ past)) n.inode (written n (entry past n.inode)) old.orderly put_in)

-- A node that removes an inode without children.
pub record IsGone (past : List Node) (n : Node) : Type 0 where
  pub numbers : AreNumbers n.version n.writer n.seq
  pub deleted : n.deleted ≡ true
  pub plain : n.copy ≡ false
  pub name : List ℕ
  pub named : n.name ≡ Some name
  pub lawful_name : is_name name ≡ true
  pub low : 2 ≤ n.inode
  pub high : n.inode < 2 ^ 32
  pub parent_low : 1 ≤ n.parent
  pub parent_high : n.parent < 2 ^ 32
  pub kind : (n.kind ≡ File) ⊎ ((n.kind ≡ Directory) × (n.parent < n.inode))
  pub offset : n.offset ≡ 0
  pub rsize : n.rsize ≡ 0
  pub size : n.size ≡ None
  pub bytes : n.bytes ≡ []
  pub empty : (j : ℕ) (f : Entry) → at (state_of_past past) j ≡ Some f → n.inode ≡ f.parent → ⊥

module _ (past : List Node) (n : Node) (h : IsGone past n) where
  nothing : dsize n ≡ 0
  nothing = ap (λ (x : List ℕ). length x) h.bytes

  gone_suits : (k : Kind) → n.kind ≡ k → is_unmount k ≡ false → kind_numbers k n (dsize n) ≡ true → is_lawful n ≡ true
  gone_suits k is stands numbers =
      lawful_from n
      (record {
        inode = h.high;
        parent = h.parent_high;
        version = h.numbers.version_fits;
        offset = omega (arith, h.offset);
        rsize = omega (arith, h.rsize);
        writer = h.numbers.writer_fits;
        seq = h.numbers.seq_fits;
        amount = omega (arith, nothing);
        size = subst (λ x. unwrap_or x 0 < 2 ^ 32) (sym h.size) (omega arith);
        bytes = ap (λ x. list_all (λ b. ltb b 256) x) h.bytes;
      })
      (record {
        flags = λ i. not (h.deleted i && h.plain i);
        unmount = ap (λ u. not u || (not n.deleted && not n.copy)) (ap is_unmount is ∙ stands);
        name = (λ i. option_map_or (λ x. not ((ap is_unmount is ∙ stands) i) && is_name x) (h.named i) (is_unmount n.kind)) ∙ h.lawful_name;
        form = ap (λ x. is_none x || (is_file n.kind && not n.deleted)) h.size;
        version = le-leb 1 n.version h.numbers.first;
        kind = ap (λ x. kind_numbers x n (dsize n)) is ∙ numbers;
        gone = or_right (not n.deleted) (has_no_range n (dsize n)) (no_range_from n h.offset nothing h.rsize);
        copied = copy_rule n (inl h.plain);
        size = ap (λ x. option_map_or (λ size. leb size file_max && leb (n.offset + dsize n) size) x true) h.size;
      })

  gone_lawful : is_lawful n ≡ true
  gone_lawful =
      ⊎_elim
      (λ file. gone_suits File file refl (file_numbers_from n (record { low = h.low; parent = h.parent_low; range = omega (arith, h.offset, nothing); taken = omega (arith, h.offset, h.rsize); fills = inr nothing })))
      (λ directory. gone_suits Directory directory.0 refl (directory_numbers_from n (record { low = h.low; parent = h.parent_low; below = directory.1; offset = h.offset; amount = nothing; rsize = h.rsize })))
      h.kind

  not_unmounted : is_unmount n.kind ≡ false
  not_unmounted = ⊎_elim (λ file. ap is_unmount file) (λ directory. ap is_unmount directory.0) h.kind

  gone_fits : each_fits past ≡ true → each_fits (n ∷ past) ≡ true
  gone_fits before = each_fits_from n past before
      (or_left n.deleted _ h.deleted)
      (or_left (not (is_file n.kind) || eqb (dsize n) n.rsize) _ (or_right (not (is_file n.kind)) (eqb (dsize n) n.rsize) (eq-eqb (dsize n) n.rsize (nothing ∙ sym h.rsize))))
      (or_left ((not (is_file n.kind) || n.deleted) || is_some n.size) _ (or_left (not (is_file n.kind) || n.deleted) _ (or_right (not (is_file n.kind)) n.deleted h.deleted)))

  gone_in : IsGoneIn (state_of_past past) (state_of_past (n ∷ past)) n.inode
  gone_in = record {
    other = λ j apart. at-state (n ∷ past) j ∙ entry-other j n past (and_right (not (is_unmount n.kind)) (eqb n.inode j) (ne_eqb n.inode j apart)) ∙ sym (at-state past j);
    here = at-state (n ∷ past) n.inode
        ∙ entry-deleted n.inode n past (and_from (not (is_unmount n.kind)) (eqb n.inode n.inode) (ap not not_unmounted) (eq-eqb n.inode n.inode refl)) h.deleted;
    empty = h.empty;
  }

  gone_sized : n.kind ≡ File → n.deleted ≡ false → is_some n.size ≡ true
  gone_sized file d = let no : true ≡ false = sym h.deleted ∙ d in cc

  pub gone_keeps_past : IsLawfulPast past → IsLawfulPast (n ∷ past)
  gone_keeps_past before =
      let old = kept_rules past before in
      keeps_past n past (gone_lawful, before.each) (gone_fits old.fits) gone_sized old.writers
      (gone_keeps 8 (state_of_past past) (state_of_past (n ∷ past)) n.inode old.orderly gone_in)
