-- The parts of a node's lawfulness.
use Rattle.std.proofs.Common.{◌≡◌, ℕ, zero, suc, ◌+◌, ◌<◌, ◌≤◌, ◌^◌, true, false, not, ◌&&◌, ◌||◌, eqb, leb, ltb, is_none, List, [], ◌∷◌, get_or, ◌⊎◌, inl, inr, ⊎_elim, Option, Some, None, unwrap_or, refl, sym, ◌∙◌, arith}
use Rattle.std.specs.List.{list_all}
use Rattle.std.specs.Option.{option_map_or}
use Rattle.std.proofs.lemmas.Bool.{eqb-true, eq-eqb, ltb-true, lt-ltb, leb-true, le-leb, and_parts, and_from, or_left, or_right, or_cases}
use Rattle.jffs_node.specs.declared.node.Node.{Node}
use Rattle.jffs_node.specs.declared.node.Kind.{Kind}
use Rattle.jffs_node.specs.declared.node.Kind.TheVariants.{File, Directory, Unmount}
use Rattle.jffs_node.specs.Name.{is_name}
use Rattle.jffs_node.specs.Record.{dsize, file_max, is_file, is_unmount, fits_fields, suits_kind, numbers_hold, kind_numbers, size_numbers, has_no_range, is_lawful}

-- Each number in its field.
pub record FitsFields (n : Node) : Type 0 where
  pub inode : n.inode < 2 ^ 32
  pub parent : n.parent < 2 ^ 32
  pub version : n.version < 2 ^ 32
  pub offset : n.offset < 2 ^ 32
  pub rsize : n.rsize < 2 ^ 32
  pub writer : n.writer < 2 ^ 16
  pub seq : n.seq < 2 ^ 32
  pub amount : dsize n < 2 ^ 32
  pub size : unwrap_or n.size 0 < 2 ^ 32
  pub bytes : list_all (λ b. ltb b 256) n.bytes ≡ true

pub fields_of : (n : Node) → is_lawful n ≡ true → FitsFields n
fields_of n h =
    let all = (and_parts (fits_fields n) (suits_kind n) (and_parts (fits_fields n && suits_kind n) (numbers_hold n (dsize n)) h).0).0 in
    let a = and_parts _ _ all in
    let b = and_parts _ _ a.0 in
    let c = and_parts _ _ b.0 in
    let d = and_parts _ _ c.0 in
    let e = and_parts _ _ d.0 in
    let f = and_parts _ _ e.0 in
    let g = and_parts _ _ f.0 in
    let k = and_parts _ _ g.0 in
    let l = and_parts _ _ k.0 in
    record {
      inode = ltb-true n.inode (2 ^ 32) l.0;
      parent = ltb-true n.parent (2 ^ 32) l.1;
      version = ltb-true n.version (2 ^ 32) k.1;
      offset = ltb-true n.offset (2 ^ 32) g.1;
      rsize = ltb-true n.rsize (2 ^ 32) f.1;
      writer = ltb-true n.writer (2 ^ 16) e.1;
      seq = ltb-true n.seq (2 ^ 32) d.1;
      amount = ltb-true (dsize n) (2 ^ 32) c.1;
      size = ltb-true (unwrap_or n.size 0) (2 ^ 32) b.1;
      bytes = a.1;
    }

fits_from : (n : Node) → FitsFields n → fits_fields n ≡ true
fits_from n h =
    and_from _ _ (and_from _ _ (and_from _ _ (and_from _ _ (and_from _ _ (and_from _ _ (and_from _ _ (and_from _ _ (and_from _ _
    (lt-ltb n.inode (2 ^ 32) h.inode) (lt-ltb n.parent (2 ^ 32) h.parent)) (lt-ltb n.version (2 ^ 32) h.version)) (lt-ltb n.offset (2 ^ 32) h.offset)) (lt-ltb n.rsize (2 ^ 32) h.rsize))
    (lt-ltb n.writer (2 ^ 16) h.writer)) (lt-ltb n.seq (2 ^ 32) h.seq)) (lt-ltb (dsize n) (2 ^ 32) h.amount)) (lt-ltb (unwrap_or n.size 0) (2 ^ 32) h.size)) h.bytes

-- Flags, name and form suit the kind, and the numbers hold.
pub record SuitsRules (n : Node) : Type 0 where
  pub flags : not (n.deleted && n.copy) ≡ true
  pub unmount : (not (is_unmount n.kind) || (not n.deleted && not n.copy)) ≡ true
  pub name : option_map_or (λ name. not (is_unmount n.kind) && is_name name) n.name (is_unmount n.kind) ≡ true
  pub form : (is_none n.size || (is_file n.kind && not n.deleted)) ≡ true
  pub version : leb 1 n.version ≡ true
  pub kind : kind_numbers n.kind n (dsize n) ≡ true
  pub gone : (not n.deleted || has_no_range n (dsize n)) ≡ true
  pub copied : (not n.copy || eqb n.rsize (dsize n)) ≡ true
  pub size : size_numbers n (dsize n) ≡ true

pub rules_of : (n : Node) → is_lawful n ≡ true → SuitsRules n
rules_of n h =
    let all = and_parts (fits_fields n && suits_kind n) (numbers_hold n (dsize n)) h in
    let suits = (and_parts (fits_fields n) (suits_kind n) all.0).1 in
    let a = and_parts _ _ suits in
    let b = and_parts _ _ a.0 in
    let c = and_parts _ _ b.0 in
    let p = and_parts _ _ all.1 in
    let q = and_parts _ _ p.0 in
    let r = and_parts _ _ q.0 in
    let s = and_parts _ _ r.0 in
    record { flags = c.0; unmount = c.1; name = b.1; form = a.1; version = s.0; kind = s.1; gone = r.1; copied = q.1; size = p.1 }

pub lawful_from : (n : Node) → FitsFields n → SuitsRules n → is_lawful n ≡ true
lawful_from n f r = and_from (fits_fields n && suits_kind n) (numbers_hold n (dsize n))
    (and_from (fits_fields n) (suits_kind n) (fits_from n f) (and_from _ _ (and_from _ _ (and_from _ _ r.flags r.unmount) r.name) r.form))
    (and_from _ _ (and_from _ _ (and_from _ _ (and_from _ _ r.version r.kind) r.gone) r.copied) r.size)

-- The numbers of a file's node, and those of a directory's.
pub record HasRange (n : Node) : Type 0 where
  pub low : 2 ≤ n.inode
  pub parent : 1 ≤ n.parent
  pub range : n.offset + dsize n ≤ file_max
  pub taken : n.offset + n.rsize ≤ file_max
  pub fills : (n.rsize ≤ dsize n) ⊎ (dsize n ≡ 0)

pub record HasNoRange (n : Node) : Type 0 where
  pub low : 2 ≤ n.inode
  pub parent : 1 ≤ n.parent
  pub below : n.parent < n.inode
  pub offset : n.offset ≡ 0
  pub amount : dsize n ≡ 0
  pub rsize : n.rsize ≡ 0

pub no_range_from : (n : Node) → n.offset ≡ 0 → dsize n ≡ 0 → n.rsize ≡ 0 → has_no_range n (dsize n) ≡ true
no_range_from n o a r = and_from _ _ (and_from _ _ (eq-eqb n.offset 0 o) (eq-eqb (dsize n) 0 a)) (eq-eqb n.rsize 0 r)

pub no_range : (n : Node) → has_no_range n (dsize n) ≡ true → (n.offset ≡ 0) × (dsize n ≡ 0) × (n.rsize ≡ 0)
no_range n h =
    let a = and_parts (eqb n.offset 0 && eqb (dsize n) 0) (eqb n.rsize 0) h in
    let b = and_parts (eqb n.offset 0) (eqb (dsize n) 0) a.0 in
    (eqb-true n.offset 0 b.0, eqb-true (dsize n) 0 b.1, eqb-true n.rsize 0 a.1)

pub file_numbers : (n : Node) → kind_numbers File n (dsize n) ≡ true → HasRange n
file_numbers n h =
    let a = and_parts _ _ h in
    let b = and_parts _ _ a.0 in
    let c = and_parts _ _ b.0 in
    let d = and_parts _ _ c.0 in
    record {
      low = leb-true 2 n.inode d.0;
      parent = leb-true 1 n.parent d.1;
      range = leb-true (n.offset + dsize n) file_max c.1;
      taken = leb-true (n.offset + n.rsize) file_max b.1;
      fills = ⊎_elim (λ l. inl (leb-true n.rsize (dsize n) l)) (λ z. inr (eqb-true (dsize n) 0 z)) (or_cases (leb n.rsize (dsize n)) (eqb (dsize n) 0) a.1);
    }

pub file_numbers_from : (n : Node) → HasRange n → kind_numbers File n (dsize n) ≡ true
file_numbers_from n h =
    and_from _ _ (and_from _ _ (and_from _ _ (and_from _ _ (le-leb 2 n.inode h.low) (le-leb 1 n.parent h.parent)) (le-leb (n.offset + dsize n) file_max h.range)) (le-leb (n.offset + n.rsize) file_max h.taken))
    (⊎_elim (λ l. or_left (leb n.rsize (dsize n)) (eqb (dsize n) 0) (le-leb n.rsize (dsize n) l)) (λ z. or_right (leb n.rsize (dsize n)) (eqb (dsize n) 0) (eq-eqb (dsize n) 0 z)) h.fills)

pub directory_numbers : (n : Node) → kind_numbers Directory n (dsize n) ≡ true → HasNoRange n
directory_numbers n h =
    let a = and_parts _ (has_no_range n (dsize n)) h in
    let b = and_parts _ _ a.0 in
    let c = and_parts _ _ b.0 in
    let p = no_range n a.1 in
    record {
      low = leb-true 2 n.inode c.0;
      parent = leb-true 1 n.parent c.1;
      below = ltb-true n.parent n.inode b.1;
      offset = p.0;
      amount = p.1;
      rsize = p.2;
    }

pub directory_numbers_from : (n : Node) → HasNoRange n → kind_numbers Directory n (dsize n) ≡ true
directory_numbers_from n h =
    and_from _ _ (and_from _ _ (and_from _ _ (le-leb 2 n.inode h.low) (le-leb 1 n.parent h.parent)) (lt-ltb n.parent n.inode h.below)) (no_range_from n h.offset h.amount h.rsize)

-- an unmount node has no range
pub unmount_range : (n : Node) → kind_numbers Unmount n (dsize n) ≡ true → has_no_range n (dsize n) ≡ true
unmount_range n h = (and_parts (eqb n.inode 0 && eqb n.parent 0) (has_no_range n (dsize n)) h).1

-- a node writes as many bytes as it replaces, unless it is a file's
pub as_long : (n : Node) → is_lawful n ≡ true → (is_file n.kind || eqb (dsize n) n.rsize) ≡ true
as_long n h =
    (elim n.kind as (λ k. kind_numbers k n (dsize n) ≡ true → (is_file k || eqb (dsize n) n.rsize) ≡ true) [
      | File ↦ λ x. refl
      | Directory ↦ λ x. let d = directory_numbers n x in eq-eqb (dsize n) n.rsize (d.amount ∙ sym d.rsize)
      | Unmount ↦ λ x. let none = no_range n (unmount_range n x) in eq-eqb (dsize n) n.rsize (none.1 ∙ sym none.2)
    ]) (rules_of n h).kind

-- what is no unmount node is a file's or a directory's
pub which_kind : (k : Kind) → is_unmount k ≡ false → (k ≡ File) ⊎ (k ≡ Directory)
which_kind File h = inl refl
which_kind Directory h = inr refl
which_kind Unmount h = cc

-- such a node has a name
pub has_name : (n : Node) → is_unmount n.kind ≡ false → SuitsRules n → (name : List ℕ) × (n.name ≡ Some name) × (is_name name ≡ true)
has_name n stands r = by_name n.name refl r.name
  where
    by_name : (o : Option (List ℕ)) → n.name ≡ o → option_map_or (λ name. not (is_unmount n.kind) && is_name name) o (is_unmount n.kind) ≡ true → (name : List ℕ) × (n.name ≡ Some name) × (is_name name ≡ true)
    by_name None is h = cc
    by_name (Some name) is h = (name, is, (and_parts (not (is_unmount n.kind)) (is_name name) h).1)

-- bytes are below 256
pub each_small : (xs : List ℕ) (p : ℕ) → list_all (λ b. ltb b 256) xs ≡ true → get_or xs p 0 < 256
each_small [] p h = omega arith
each_small (x ∷ xs) zero h = ltb-true x 256 (and_parts (ltb x 256) (list_all (λ b. ltb b 256) xs) h).0
each_small (x ∷ xs) (suc p) h = each_small xs p (and_parts (ltb x 256) (list_all (λ b. ltb b 256) xs) h).1
