-- What one more node makes of an inode: its entry, its newest node, and where a byte comes from.
use Rattle.std.proofs.Common.{◌≡◌, ℕ, ◌+◌, ◌-◌, ◌<◌, ◌≤◌, true, false, cond, not, eqb, leb, ltb, List, [], ◌∷◌, length, get_or, ◌⊎◌, inl, inr, ⊎_elim, Option, Some, None, refl, sym, ap, subst, ◌∙◌, arith}
use Rattle.std.proofs.lemmas.Bool.{cases_Bool, cases_lt, lt-ltb, le-ltb, le-leb, lt-leb, eqb-true, not-true, and_parts, and_from, and_left, and_right}
use Rattle.std.proofs.lemmas.Option.{none-some, same_Some}
use Rattle.std.specs.List.{AllByRecursion}
use Rattle.jffs_node.specs.declared.node.Node.{Node}
use Rattle.jffs_node.specs.Record.{dsize, is_unmount}
use Rattle.jffs_inodes.specs.Held.{written, sized, splice}
use Rattle.jffs_tree.specs.Origin.{concerns, entry, size_in, writes, offset_before, origin, newest}
use Rattle.jffs_tree.proofs.states.Offsets.{spliced, length-spliced, read_before, read_written, read_after, length-sized, read_sized}

-- a node that concerns an inode is no unmount node, and is that inode's
module _ (i : ℕ) (n : Node) (c : concerns i n ≡ true) where
  pub not_unmount : is_unmount n.kind ≡ false
  not_unmount = not-true (is_unmount n.kind) (and_parts (not (is_unmount n.kind)) (eqb n.inode i) c).0

  pub its_inode : n.inode ≡ i
  its_inode = eqb-true n.inode i (and_parts (not (is_unmount n.kind)) (eqb n.inode i) c).1

module _ (i : ℕ) (n : Node) (past : List Node) where
  pub entry-other : concerns i n ≡ false → entry (n ∷ past) i ≡ entry past i
  entry-other c = ap (λ t. cond t (cond n.deleted None (Some (written n (entry past i)))) (entry past i)) c

  pub entry-deleted : concerns i n ≡ true → n.deleted ≡ true → entry (n ∷ past) i ≡ None
  entry-deleted c d = ap (λ t. cond t (cond n.deleted None (Some (written n (entry past i)))) (entry past i)) c ∙ ap (λ t. cond t None (Some (written n (entry past i)))) d

  pub entry-written : concerns i n ≡ true → n.deleted ≡ false → entry (n ∷ past) i ≡ Some (written n (entry past i))
  entry-written c d = ap (λ t. cond t (cond n.deleted None (Some (written n (entry past i)))) (entry past i)) c ∙ ap (λ t. cond t None (Some (written n (entry past i)))) d

  pub newest-other : concerns i n ≡ false → newest (n ∷ past) i ≡ newest past i
  newest-other c = ap (λ t. cond t (cond n.deleted None (Some n)) (newest past i)) c

  pub newest-deleted : concerns i n ≡ true → n.deleted ≡ true → newest (n ∷ past) i ≡ None
  newest-deleted c d = ap (λ t. cond t (cond n.deleted None (Some n)) (newest past i)) c ∙ ap (λ t. cond t None (Some n)) d

  pub newest-written : concerns i n ≡ true → n.deleted ≡ false → newest (n ∷ past) i ≡ Some n
  newest-written c d = ap (λ t. cond t (cond n.deleted None (Some n)) (newest past i)) c ∙ ap (λ t. cond t None (Some n)) d

-- the part of an origin that looks back
abbrev pub looked_back : ℕ → Node → List Node → ℕ → Option Node
looked_back i n past p = cond (ltb (offset_before n p) (size_in past i)) (origin past i (offset_before n p)) None

abbrev pub own_or_back : ℕ → Node → List Node → ℕ → Option Node
own_or_back i n past p = cond (writes n p) (Some n) (looked_back i n past p)

module _ (i : ℕ) (n : Node) (past : List Node) (p : ℕ) where
  pub origin-other : concerns i n ≡ false → origin (n ∷ past) i p ≡ origin past i p
  origin-other c = ap (λ t. cond (not t) (origin past i p) (cond n.deleted None (own_or_back i n past p))) c

  pub origin-deleted : concerns i n ≡ true → n.deleted ≡ true → origin (n ∷ past) i p ≡ None
  origin-deleted c d = ap (λ t. cond (not t) (origin past i p) (cond n.deleted None (own_or_back i n past p))) c ∙ ap (λ t. cond t None (own_or_back i n past p)) d

  origin-standing : concerns i n ≡ true → n.deleted ≡ false → origin (n ∷ past) i p ≡ own_or_back i n past p
  origin-standing c d = ap (λ t. cond (not t) (origin past i p) (cond n.deleted None (own_or_back i n past p))) c ∙ ap (λ t. cond t None (own_or_back i n past p)) d

  pub origin-written : concerns i n ≡ true → n.deleted ≡ false → writes n p ≡ true → origin (n ∷ past) i p ≡ Some n
  origin-written c d w = origin-standing c d ∙ ap (λ t. cond t (Some n) (looked_back i n past p)) w

  pub origin-moved : concerns i n ≡ true → n.deleted ≡ false → writes n p ≡ false → offset_before n p < size_in past i → origin (n ∷ past) i p ≡ origin past i (offset_before n p)
  origin-moved c d w l = origin-standing c d ∙ ap (λ t. cond t (Some n) (looked_back i n past p)) w
      ∙ ap (λ t. cond t (origin past i (offset_before n p)) None) (lt-ltb (offset_before n p) (size_in past i) l)

  pub origin-padding : concerns i n ≡ true → n.deleted ≡ false → writes n p ≡ false → size_in past i ≤ offset_before n p → origin (n ∷ past) i p ≡ None
  origin-padding c d w l = origin-standing c d ∙ ap (λ t. cond t (Some n) (looked_back i n past p)) w
      ∙ ap (λ t. cond t (origin past i (offset_before n p)) None) (le-ltb (offset_before n p) (size_in past i) l)

-- An offset before, in, or after a node's data.
abbrev pub Before : Node → ℕ → Type 0
Before n p = (p < n.offset) × (offset_before n p ≡ p)

abbrev pub Behind : Node → ℕ → Type 0
Behind n p = (n.offset + dsize n ≤ p) × (offset_before n p ≡ (p - dsize n) + n.rsize)

abbrev pub Outside : Node → ℕ → Type 0
Outside n p = (writes n p ≡ false) × (Before n p ⊎ Behind n p)

abbrev pub Inside : Node → ℕ → Type 0
Inside n p = (writes n p ≡ true) × (n.offset ≤ p) × (p < n.offset + dsize n)

pub where_is : (n : Node) (p : ℕ) → Inside n p ⊎ Outside n p
where_is n p = ⊎_elim
    (λ before. inr (and_left (leb n.offset p) (ltb p (n.offset + dsize n)) (lt-leb n.offset p before), inl (before, ap (λ t. cond t p ((p - dsize n) + n.rsize)) (lt-ltb p n.offset before))))
    (λ from. ⊎_elim
    (λ inside. inl (and_from (leb n.offset p) (ltb p (n.offset + dsize n)) (le-leb n.offset p from) (lt-ltb p (n.offset + dsize n) inside), from, inside))
    (λ behind. inr (and_right (leb n.offset p) (ltb p (n.offset + dsize n)) (le-ltb p (n.offset + dsize n) behind), inr (behind, ap (λ t. cond t p ((p - dsize n) + n.rsize)) (le-ltb p n.offset from))))
    (cases_lt p (n.offset + dsize n)))
    (cases_lt p n.offset)

-- the bytes that a node makes of bytes
abbrev pub rewritten : Node → List ℕ → List ℕ
rewritten n c = sized n.size (splice c n)

pub byte_inside : (n : Node) (c : List ℕ) (p : ℕ) → Inside n p → p < length (rewritten n c) → get_or (rewritten n c) p 0 ≡ get_or n.bytes (p - n.offset) 0
byte_inside n c p w l = read_sized 0 n.size (splice c n) p l ∙ read_written 0 c n.offset n.rsize n.bytes p w.1 w.2

pub byte_outside : (n : Node) (c : List ℕ) (p : ℕ) → Outside n p → p < length (rewritten n c) → get_or (rewritten n c) p 0 ≡ get_or c (offset_before n p) 0
byte_outside n c p w l = read_sized 0 n.size (splice c n) p l ∙ ⊎_elim
    (λ before. read_before 0 c n.offset n.rsize n.bytes p before.0 ∙ ap (λ q. get_or c q 0) (sym before.1))
    (λ behind. read_after 0 c n.offset n.rsize n.bytes p behind.0 ∙ ap (λ q. get_or c q 0) (sym behind.1))
    w.1

-- A stated size is the length, whatever the bytes were.
stated_length : (k : ℕ) (c d : List ℕ) → length (sized (Some k) c) ≡ length (sized (Some k) d)
stated_length k c d = length-sized 0 k c ∙ sym (length-sized 0 k d)

-- Lengths, by what the node says of the size.
longer_by : (size : Option ℕ) (c d : List ℕ) (o r : ℕ) (b : List ℕ) → length c ≤ length d → length (sized size (spliced c o r b)) ≤ length (sized size (spliced d o r b))
longer_by None c d o r b h = omega (arith, length-spliced 0 c o r b, length-spliced 0 d o r b)
longer_by (Some k) c d o r b h = omega (arith, stated_length k (spliced c o r b) (spliced d o r b))

pub rewritten_longer : (n : Node) (c d : List ℕ) → length c ≤ length d → length (rewritten n c) ≤ length (rewritten n d)
rewritten_longer n c d h = longer_by n.size c d n.offset n.rsize n.bytes h

written_there : (size : Option ℕ) (c d : List ℕ) (o r : ℕ) (b : List ℕ) (p : ℕ) → p < o + length b → p < length (sized size (spliced d o r b)) → p < length (sized size (spliced c o r b))
written_there None c d o r b p h l = omega (arith, length-spliced 0 c o r b)
written_there (Some k) c d o r b p h l = omega (arith, stated_length k (spliced c o r b) (spliced d o r b))

pub inside_both : (n : Node) (c d : List ℕ) (p : ℕ) → Inside n p → p < length (rewritten n d) → p < length (rewritten n c)
inside_both n c d p w l = written_there n.size c d n.offset n.rsize n.bytes p w.2 l

moved_there : (size : Option ℕ) (c d : List ℕ) (o r : ℕ) (b : List ℕ) (p q : ℕ) → ((p < o) × (q ≡ p)) ⊎ ((o + length b ≤ p) × (q ≡ (p - length b) + r))
    → q < length c → p < length (sized size (spliced d o r b)) → p < length (sized size (spliced c o r b))
moved_there None c d o r b p q w h l =
    let e = length-spliced 0 c o r b in
    ⊎_elim (λ before. omega (arith, before.0)) (λ behind. omega (arith, behind.0, behind.1)) w
moved_there (Some k) c d o r b p q w h l = omega (arith, stated_length k (spliced c o r b) (spliced d o r b))

pub outside_both : (n : Node) (c d : List ℕ) (p : ℕ) → Outside n p → offset_before n p < length c → p < length (rewritten n d) → p < length (rewritten n c)
outside_both n c d p w h l = moved_there n.size c d n.offset n.rsize n.bytes p (offset_before n p) w.1 h l

-- The same byte where the shorter bytes don't reach it: it reads as zero there, and so did its
-- offset before.
outside_part : (size : Option ℕ) (c d : List ℕ) (o r : ℕ) (b : List ℕ) (p q : ℕ) → ((p < o) × (q ≡ p)) ⊎ ((o + length b ≤ p) × (q ≡ (p - length b) + r))
    → p < length (sized size (spliced d o r b)) → get_or (sized size (spliced c o r b)) p 0 ≡ get_or (spliced c o r b) p 0
outside_part None c d o r b p q w l = refl
outside_part (Some k) c d o r b p q w l = read_sized 0 (Some k) (spliced c o r b) p (omega (arith, stated_length k (spliced c o r b) (spliced d o r b)))

pub byte_outside_part : (n : Node) (c d : List ℕ) (p : ℕ) → Outside n p → p < length (rewritten n d) → get_or (rewritten n c) p 0 ≡ get_or c (offset_before n p) 0
byte_outside_part n c d p w l = outside_part n.size c d n.offset n.rsize n.bytes p (offset_before n p) w.1 l ∙ ⊎_elim
    (λ before. read_before 0 c n.offset n.rsize n.bytes p before.0 ∙ ap (λ q. get_or c q 0) (sym before.1))
    (λ behind. read_after 0 c n.offset n.rsize n.bytes p behind.0 ∙ ap (λ q. get_or c q 0) (sym behind.1))
    w.1

-- The newest node and each origin of an inode are nodes of it, in the list.
module _ (Q : Node → Type 0) (i : ℕ) where
  this_one : (n m : Node) → concerns i n ≡ true → Q n → n ≡ m → (concerns i m ≡ true) × Q m
  this_one n m c q same = (ap (concerns i) (sym same) ∙ c, subst Q same q)

  pub of_newest : (past : List Node) (m : Node) → AllByRecursion Q past → newest past i ≡ Some m → (concerns i m ≡ true) × Q m
  of_newest [] m q is = absurd (none-some m is)
  of_newest (n ∷ past) m q is = ⊎_elim
      (λ c. ⊎_elim
      (λ d. absurd (none-some m (sym (newest-deleted i n past c d) ∙ is)))
      (λ d. this_one n m c q.0 (same_Some n m (sym (newest-written i n past c d) ∙ is)))
      (cases_Bool n.deleted))
      (λ c. of_newest past m q.1 (sym (newest-other i n past c) ∙ is))
      (cases_Bool (concerns i n))

  pub of_origin : (past : List Node) (p : ℕ) (m : Node) → AllByRecursion Q past → origin past i p ≡ Some m → (concerns i m ≡ true) × Q m
  of_origin [] p m q is = absurd (none-some m is)
  of_origin (n ∷ past) p m q is = ⊎_elim
      (λ c. ⊎_elim
      (λ d. absurd (none-some m (sym (origin-deleted i n past p c d) ∙ is)))
      (λ d. ⊎_elim
      (λ w. this_one n m c q.0 (same_Some n m (sym (origin-written i n past p c d w) ∙ is)))
      (λ w. ⊎_elim
      (λ was. of_origin past (offset_before n p) m q.1 (sym (origin-moved i n past p c d w was) ∙ is))
      (λ past_end. absurd (none-some m (sym (origin-padding i n past p c d w past_end) ∙ is)))
      (cases_lt (offset_before n p) (size_in past i)))
      (cases_Bool (writes n p)))
      (cases_Bool n.deleted))
      (λ c. of_origin past p m q.1 (sym (origin-other i n past p c) ∙ is))
      (cases_Bool (concerns i n))
