-- What lawful nodes that fit make of an inode.
use Rattle.std.proofs.Common.{◌≡◌, ℕ, ◌+◌, ◌<◌, ◌≤◌, ◌^◌, true, false, not, ◌&&◌, ◌||◌, eqb, leb, IsTrue, List, [], ◌∷◌, length, get_or, ◌⊎◌, inl, inr, ⊎_elim, Option, Some, None, is_none, unwrap_or, refl, sym, ap, subst, ◌∙◌, arith}
use Rattle.std.specs.List.{AllByRecursion}
use Rattle.std.specs.Option.{option_map_or}
use Rattle.std.proofs.lemmas.Bool.{eqb-true, leb-true, and_parts, and_from, or_cases, cases_Bool, cases_lt, both_ways}
use Rattle.std.proofs.lemmas.Option.{none-some, same_Some}
use Rattle.std.proofs.lemmas.List.{get_or_past, nil_from_length}
use Rattle.jffs_node.specs.declared.node.Node.{Node}
use Rattle.jffs_node.specs.declared.node.Kind.{Kind}
use Rattle.jffs_node.specs.declared.node.Kind.TheVariants.{File, Directory, Unmount}
use Rattle.jffs_node.specs.Name.{is_name}
use Rattle.jffs_node.specs.Record.{dsize, file_max, is_file, is_unmount, kind_byte, kind_numbers, is_lawful, name_bytes}
use Rattle.jffs_inodes.specs.Held.{Entry, bytes_of, sized, written}
use Rattle.jffs_tree.specs.Origin.{concerns, entry, size_in}
use Rattle.jffs_tree.specs.Check.{keeps_kind, keeps_offsets, keeps_form, each_fits}
use Rattle.jffs_tree.proofs.trees.Applied.{small}
use Rattle.jffs_tree.proofs.states.Offsets.{spliced, length-spliced, length-sized}
use Rattle.jffs_tree.proofs.states.Steps.{not_unmount, its_inode, entry-other, entry-deleted, entry-written, rewritten, where_is, byte_inside, byte_outside}
use Rattle.jffs_node.proofs.Lawfulness.{fields_of, rules_of, file_numbers, directory_numbers, which_kind, has_name, each_small}

pub record IsLawfulEntry (i : ℕ) (e : Entry) : Type 0 where
  pub low : 2 ≤ i
  pub high : i < 2 ^ 32
  pub parent_low : 1 ≤ e.parent
  pub parent_high : e.parent < 2 ^ 32
  pub name : is_name e.name ≡ true
  pub amount : length e.bytes ≤ file_max
  pub small : (p : ℕ) → get_or e.bytes p 0 < 256
  pub kind : (e.kind ≡ File) ⊎ ((e.kind ≡ Directory) × (e.parent < i) × (e.bytes ≡ []))

same_byte : (a b : Kind) → eqb (kind_byte a) (kind_byte b) ≡ true → a ≡ b
same_byte File File h = refl
same_byte File Directory h = cc
same_byte File Unmount h = cc
same_byte Directory File h = cc
same_byte Directory Directory h = refl
same_byte Directory Unmount h = cc
same_byte Unmount File h = cc
same_byte Unmount Directory h = cc
same_byte Unmount Unmount h = refl

-- no file grows too long
not_longer : (size : Option ℕ) (c b : List ℕ) (o r : ℕ) → o + length b ≤ file_max → length c ≤ file_max → (length b ≡ r) ⊎ (length c ≤ o + r) → unwrap_or size 0 ≤ file_max
    → length (sized size (spliced c o r b)) ≤ file_max
not_longer None c b o r range was offsets stated = let e = length-spliced 0 c o r b in ⊎_elim (λ same. omega arith) (λ last. omega arith) offsets
not_longer (Some k) c b o r range was offsets stated = let e = length-sized 0 k (spliced c o r b) in omega arith

-- nothing is put into nothing
still_empty : (size : Option ℕ) (c b : List ℕ) (o r : ℕ) → size ≡ None → c ≡ [] → o ≡ 0 → length b ≡ 0 → sized size (spliced c o r b) ≡ []
still_empty None c b o r none was start nothing =
    let e = length-spliced 0 c o r b in
    let l : length c ≡ 0 = ap (λ (x : List ℕ). length x) was in
    nil_from_length (spliced c o r b) (omega arith)
still_empty (Some k) c b o r none was start nothing = cc

module _ (n : Node) (past : List Node) (lawful : is_lawful n ≡ true) (stands : is_unmount n.kind ≡ false) (d : n.deleted ≡ false)
    (kind : keeps_kind past n ≡ true) (offsets : keeps_offsets past n ≡ true) (was : (e : Entry) → entry past n.inode ≡ Some e → IsLawfulEntry n.inode e) where
  old_amount : length (bytes_of (entry past n.inode)) ≤ file_max
  old_amount = by_entry (entry past n.inode) refl
    where
      by_entry : (o : Option Entry) → entry past n.inode ≡ o → length (bytes_of o) ≤ file_max
      by_entry None is = omega arith
      by_entry (Some e) is = (was e is).amount

  old_small : (p : ℕ) → get_or (bytes_of (entry past n.inode)) p 0 < 256
  old_small p = by_entry (entry past n.inode) refl
    where
      by_entry : (o : Option Entry) → entry past n.inode ≡ o → get_or (bytes_of o) p 0 < 256
      by_entry None is = omega arith
      by_entry (Some e) is = (was e is).small p

  old_kind : (e : Entry) → entry past n.inode ≡ Some e → e.kind ≡ n.kind
  old_kind e is = ⊎_elim
      (λ gone. absurd (both_ways n.deleted d gone))
      (λ same. same_byte e.kind n.kind (sym (ap (λ o. option_map_or (λ x. eqb (kind_byte x.kind) (kind_byte n.kind)) o true) is) ∙ same))
      (or_cases n.deleted (option_map_or (λ x. eqb (kind_byte x.kind) (kind_byte n.kind)) (entry past n.inode) true) kind)

  old_empty : n.kind ≡ Directory → bytes_of (entry past n.inode) ≡ []
  old_empty is = by_entry (entry past n.inode) refl
    where
      by_entry : (o : Option Entry) → entry past n.inode ≡ o → bytes_of o ≡ []
      by_entry None there = refl
      by_entry (Some e) there = ⊎_elim
          (λ file. let no : Directory ≡ File = sym is ∙ sym (old_kind e there) ∙ file in cc)
          (λ directory. directory.2)
          (was e there).kind

  new_small : (p : ℕ) → get_or (rewritten n (bytes_of (entry past n.inode))) p 0 < 256
  new_small p = ⊎_elim
      (λ there. ⊎_elim
      (λ w. subst (λ b. b < 256) (sym (byte_inside n (bytes_of (entry past n.inode)) p w there)) (each_small n.bytes _ (fields_of n lawful).bytes))
      (λ w. subst (λ b. b < 256) (sym (byte_outside n (bytes_of (entry past n.inode)) p w there)) (old_small _))
      (where_is n p))
      (λ beyond. subst (λ b. b < 256) (sym (get_or_past (rewritten n (bytes_of (entry past n.inode))) p 0 beyond)) (omega arith))
      (cases_lt p (length (rewritten n (bytes_of (entry past n.inode)))))

  its_name : is_name (name_bytes n) ≡ true
  its_name = let h = has_name n stands (rules_of n lawful) in ap (λ o. is_name (unwrap_or o [])) h.1 ∙ h.2

  file_written : n.kind ≡ File → IsLawfulEntry n.inode (written n (entry past n.inode))
  file_written is =
      let fields = fields_of n lawful in
      let numbers = file_numbers n (ap (λ k. kind_numbers k n (dsize n)) (sym is) ∙ (rules_of n lawful).kind) in
      record {
        low = numbers.low;
        high = fields.inode;
        parent_low = numbers.parent;
        parent_high = fields.parent;
        name = its_name;
        amount = not_longer n.size (bytes_of (entry past n.inode)) n.bytes n.offset n.rsize numbers.range old_amount offsets_kept (small n lawful).size;
        small = new_small;
        kind = inl is;
      }
    where
      offsets_kept : (dsize n ≡ n.rsize) ⊎ (length (bytes_of (entry past n.inode)) ≤ n.offset + n.rsize)
      offsets_kept = ⊎_elim
          (λ same. inl (eqb-true (dsize n) n.rsize same))
          (λ last. inr (leb-true (size_in past n.inode) (n.offset + n.rsize) last))
          (or_cases (eqb (dsize n) n.rsize) (leb (size_in past n.inode) (n.offset + n.rsize))
          (sym (ap (λ k. (not (is_file k) || eqb (dsize n) n.rsize) || leb (size_in past n.inode) (n.offset + n.rsize)) is) ∙ offsets))

  directory_written : n.kind ≡ Directory → IsLawfulEntry n.inode (written n (entry past n.inode))
  directory_written is =
      let fields = fields_of n lawful in
      let numbers = directory_numbers n (ap (λ k. kind_numbers k n (dsize n)) (sym is) ∙ (rules_of n lawful).kind) in
      let empty = still_empty n.size (bytes_of (entry past n.inode)) n.bytes n.offset n.rsize (no_size n.size (ap (λ k. is_none n.size || (is_file k && not n.deleted)) (sym is) ∙ (rules_of n lawful).form)) (old_empty is) numbers.offset numbers.amount in
      record {
        low = numbers.low;
        high = fields.inode;
        parent_low = numbers.parent;
        parent_high = fields.parent;
        name = its_name;
        amount = subst (λ (x : List ℕ). length x ≤ file_max) (sym empty) (omega arith);
        small = new_small;
        kind = inr (is, numbers.below, empty);
      }
    where
      no_size : (o : Option ℕ) → (is_none o || false) ≡ true → o ≡ None
      no_size None h = refl
      no_size (Some k) h = cc

  lawful_written : IsLawfulEntry n.inode (written n (entry past n.inode))
  lawful_written = ⊎_elim (λ file. file_written file) (λ directory. directory_written directory) (which_kind n.kind stands)

-- A node of a list that fits fits at its turn.
pub fits_parts : (n : Node) (past : List Node) → each_fits (n ∷ past) ≡ true → (each_fits past ≡ true) × (keeps_kind past n ≡ true) × (keeps_offsets past n ≡ true) × (keeps_form past n ≡ true)
fits_parts n past h =
    let a = and_parts (each_fits past && keeps_kind past n && keeps_offsets past n) (keeps_form past n) h in
    let b = and_parts (each_fits past && keeps_kind past n) (keeps_offsets past n) a.0 in
    let c = and_parts (each_fits past) (keeps_kind past n) b.0 in
    (c.0, c.1, b.1, a.1)

pub each_fits_from : (n : Node) (past : List Node) → each_fits past ≡ true → keeps_kind past n ≡ true → keeps_offsets past n ≡ true → keeps_form past n ≡ true → each_fits (n ∷ past) ≡ true
each_fits_from n past a k p f =
    and_from ((each_fits past && keeps_kind past n) && keeps_offsets past n) (keeps_form past n)
    (and_from (each_fits past && keeps_kind past n) (keeps_offsets past n) (and_from (each_fits past) (keeps_kind past n) a k) p) f

pub lawful_entry : (past : List Node) (i : ℕ) (e : Entry) → AllByRecursion (λ n. IsTrue (is_lawful n)) past → each_fits past ≡ true → entry past i ≡ Some e → IsLawfulEntry i e
lawful_entry [] i e lawful fits is = cc
lawful_entry (n ∷ past) i e lawful fits is =
    let parts = fits_parts n past fits in
    ⊎_elim
    (λ c. ⊎_elim
    (λ d. absurd (none-some e (sym (entry-deleted i n past c d) ∙ is)))
    (λ d.
    let made = subst (λ k. IsLawfulEntry k (written n (entry past k))) (its_inode i n c)
    (lawful_written n past lawful.0 (not_unmount i n c) d parts.1 parts.2 (λ f was. lawful_entry past n.inode f lawful.1 parts.0 was)) in
    let same = same_Some (written n (entry past i)) e (sym (entry-written i n past c d) ∙ is) in
    subst (λ x. IsLawfulEntry i x) same made)
    (cases_Bool n.deleted))
    (λ c. lawful_entry past i e lawful.1 parts.0 (sym (entry-other i n past c) ∙ is))
    (cases_Bool (concerns i n))
