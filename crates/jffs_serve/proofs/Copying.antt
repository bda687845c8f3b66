-- Copies that are handed in.
use Rattle.std.proofs.Common.{◌≡◌, ℕ, suc, ◌+◌, ◌≤◌, ◌<◌, List, [], ◌∷◌, ◌++◌, length, map, take, drop, get_or, inl, inr, refl, sym, ap, subst, ◌∙◌, append_assoc, append-nil, length-append, arith, Option, Some, None}
use Rattle.std.specs.List.{cons_option}
use Rattle.std.proofs.Math.Seq.{take-suc}
use Rattle.std.proofs.lemmas.List.{map-append}
use Rattle.std.proofs.lemmas.List.Elements.{filter_map-append}
use Rattle.jffs_node.specs.declared.node.Node.{Node}
use Rattle.jffs_node.specs.declared.read.Read.{Read}
use Rattle.jffs_node.specs.declared.read.Read.TheVariants.{Closed, Free, Torn, Bad}
use Rattle.jffs_node.specs.Reading.{Reading, found, reading_of, after_record}
use Rattle.jffs_node.proofs.Each.{each_append}
use Rattle.jffs_tree.specs.declared.wish.Wish.{Wish}
use Rattle.jffs_inodes.specs.Inodes.{Tree}
use Rattle.jffs_line.specs.declared.request.Request.{Request}
use Rattle.jffs_serve.specs.declared.copies.Copying.{Copying}
use Rattle.jffs_serve.specs.Copies.{IsCopy, HandsInCopies, AreSome, AddsSome}
use Rattle.jffs_serve.specs.Copying.{copy_in, copies_of, wish_of, KeepsCopy}

-- two stretches are one
pub hands_in_more : (before between now : List Request) (m n : ℕ) → HandsInCopies before between m → HandsInCopies between now n → HandsInCopies before now (m + n)
hands_in_more before between now m n first second = (
  first.0 ++ second.0,
  second.1 ∙ (ap (λ (l : List Request). l ++ second.0) first.1 ∙ append_assoc before first.0 second.0),
  each_append (λ (r : Request). IsCopy r.wish) first.0 second.0 first.2 second.2,
  ap (λ (k : ℕ). k + n) first.3 ∙ (ap (λ (k : ℕ). length first.0 + k) second.3 ∙ sym (length-append first.0 second.0)),
)

-- no more were counted than stand there
pub counted : (before now : List Request) (n : ℕ) → HandsInCopies before now n → n + length before ≤ length now
counted before now n has =
    let e : length now ≡ length before + length has.0 = ap length has.1 ∙ length-append before has.0 in
    let f = has.3 in omega arith

-- some of these are some of one more
pub some_of_more : {A : Type 0} (xs ys : List A) (y : A) → AreSome xs ys → AreSome xs (y ∷ ys)
some_of_more [] ys y some = tt
some_of_more (x ∷ xs) ys y some = inr some

-- and what all of them are mapped to
pub some_mapped : {A B : Type 0} (f : A → B) (xs ys : List A) → AreSome xs ys → AreSome (map f xs) (map f ys)
some_mapped f [] ys some = tt
some_mapped f (x ∷ xs) [] some = absurd some
some_mapped f (x ∷ xs) (y ∷ ys) some = elim some [
  | inl here ↦ inl (ap f here.0, some_mapped f xs ys here.1)
  | inr later ↦ inr (some_mapped f (x ∷ xs) ys later)
]

-- some of some of them
pub some_of_some : {A : Type 0} (xs ys zs : List A) → AreSome xs ys → AreSome ys zs → AreSome xs zs
some_of_some [] ys zs some more = tt
some_of_some (x ∷ xs) [] zs some more = absurd some
some_of_some (x ∷ xs) (y ∷ ys) [] some more = absurd more
some_of_some (x ∷ xs) (y ∷ ys) (z ∷ zs) some more = elim more [
  | inl there ↦ elim some [
    | inl here ↦ inl (here.0 ∙ there.0, some_of_some xs ys zs here.1 there.1)
    | inr later ↦ inr (some_of_some (x ∷ xs) ys zs later there.1)
  ]
  | inr there ↦ inr (some_of_some (x ∷ xs) (y ∷ ys) zs some there)
]

-- two stretches are one
pub some_along : {A : Type 0} (xs ys us vs : List A) → AreSome xs ys → AreSome us vs → AreSome (xs ++ us) (ys ++ vs)
some_along [] [] us vs some more = more
some_along [] (y ∷ ys) us vs some more = some_of_more us (ys ++ vs) y (some_along [] ys us vs tt more)
some_along (x ∷ xs) [] us vs some more = absurd some
some_along (x ∷ xs) (y ∷ ys) us vs some more = elim some [
  | inl here ↦ inl (here.0, some_along xs ys us vs here.1 more)
  | inr later ↦ inr (some_along (x ∷ xs) ys us vs later more)
]

-- requests for some of these copies were accepted, whatever is accepted of the rest
abbrev pub AsksOn : List Request → List Copying → List Copying → Type 0
AsksOn more rest all = (later : List Wish) → AreSome later (map wish_of rest) → AreSome (map (λ (r : Request). r.wish) more ++ later) (map wish_of all)

-- one more was accepted
pub asks_one : (more : List Request) (r : Request) (copy : Copying) (items rest all : List Copying) → items ≡ copy ∷ rest → r.wish ≡ wish_of copy → AsksOn more items all → AsksOn (more ++ r ∷ []) rest all
asks_one more r copy items rest all is same asks = λ later some.
    let wish : Request → Wish = λ q. q.wish in
    let joined : map wish (more ++ r ∷ []) ++ later ≡ map wish more ++ r.wish ∷ later =
    ap (λ (ws : List Wish). ws ++ later) (map-append wish more (r ∷ [])) ∙ append_assoc (map wish more) (r.wish ∷ []) later in
    subst (λ (ws : List Wish). AreSome ws (map wish_of all)) (sym joined)
    (asks (r.wish ∷ later) (subst (λ (cs : List Copying). AreSome (r.wish ∷ later) (map wish_of cs)) (sym is) (inl (same, some))))

-- or it wasn't
pub asks_none : (more : List Request) (copy : Copying) (items rest all : List Copying) → items ≡ copy ∷ rest → AsksOn more items all → AsksOn more rest all
asks_none more copy items rest all is asks = λ later some.
    asks later (subst (λ (cs : List Copying). AreSome later (map wish_of cs)) (sym is) (some_of_more later (map wish_of rest) (wish_of copy) some))

-- a node is passed over
pub node_passed : (tree : Tree) (n : Node) (nodes : List Node) (more : List Copying) → AreSome more (copies_of tree nodes) → AreSome more (copies_of tree (n ∷ nodes))
node_passed tree n nodes more some = passed (copy_in tree n)
  where
    passed : (copy : Option Copying) → AreSome more (cons_option copy (copies_of tree nodes))
    passed None = some
    passed (Some c) = some_of_more more (copies_of tree nodes) c some

-- or its copy is taken
pub node_taken : (tree : Tree) (n : Node) (nodes : List Node) (copy : Copying) (more : List Copying) → Some copy ≡ copy_in tree n → AreSome more (copies_of tree nodes) → AreSome (copy ∷ more) (copies_of tree (n ∷ nodes))
node_taken tree n nodes copy more is some =
    subst (λ (o : Option Copying). AreSome (copy ∷ more) (cons_option o (copies_of tree nodes))) is (inl (refl, some))

-- one record of an image is read
pub record_read : (more max : ℕ) (rest : List ℕ) (n : Node) (len : ℕ) → Closed n len ≡ found max rest → (reading_of (suc more) max rest).nodes ≡ n ∷ (reading_of more max (drop len rest)).nodes
record_read more max rest n len is = subst (λ (r : Read). (elim r as (λ _. Reading) [
  | Closed n len ↦ after_record (Closed n len) (reading_of more max (drop len rest))
  | Free ↦ record { nodes = []; ending = Free }
  | Torn ↦ record { nodes = []; ending = Torn }
  | Bad reason ↦ record { nodes = []; ending = Bad reason }
]).nodes ≡ n ∷ (reading_of more max (drop len rest)).nodes) is refl

-- the copies of some nodes are some of the copies of all
pub copies_of_some : (tree : Tree) (xs ys : List Node) → AreSome xs ys → AreSome (copies_of tree xs) (copies_of tree ys)
copies_of_some tree [] ys some = tt
copies_of_some tree (x ∷ xs) [] some = absurd some
copies_of_some tree (x ∷ xs) (y ∷ ys) some = elim some [
  | inl here ↦ subst (λ (n : Node). AreSome (copies_of tree (x ∷ xs)) (copies_of tree (n ∷ ys))) here.0 (with_one (copy_in tree x) (copies_of tree xs) (copies_of tree ys) (copies_of_some tree xs ys here.1))
  | inr later ↦ node_passed tree y ys (copies_of tree (x ∷ xs)) (copies_of_some tree (x ∷ xs) ys later)
]
  where
    with_one : (copy : Option Copying) (these all : List Copying) → AreSome these all → AreSome (cons_option copy these) (cons_option copy all)
    with_one None these all are = are
    with_one (Some c) these all are = inl (refl, are)

-- where some of what is left to come are some of all after those that there are, so it is after one
-- record more
pub image_goes_on :
    (all : List Node) (count left max : ℕ) (rest rest' : List ℕ) (n : Node) (len : ℕ) (old : List Node)
    → Closed n len ≡ found max rest → rest' ≡ drop len rest → count ≡ suc left
    → ((more : List Node) → AreSome more (reading_of count max rest).nodes → AreSome (old ++ more) all)
    → (more : List Node) → AreSome more (reading_of left max rest').nodes → AreSome ((old ++ n ∷ []) ++ more) all
image_goes_on all count left max rest rest' n len old is dropped counted goes more some =
    let nodes : List Node = (reading_of left max (drop len rest)).nodes in
    let here : AreSome more nodes = subst (λ (r : List ℕ). AreSome more (reading_of left max r).nodes) dropped some in
    let reads : (reading_of count max rest).nodes ≡ n ∷ nodes = ap (λ (k : ℕ). (reading_of k max rest).nodes) counted ∙ record_read left max rest n len is in
    subst (λ (xs : List Node). AreSome xs all) (sym (append_assoc old (n ∷ []) more))
    (goes (n ∷ more) (subst (λ (ns : List Node). AreSome (n ∷ more) ns) (sym reads) (inl (refl, here))))

-- nothing is left to come
pub image_ends : {A : Type 0} (xs all : List A) → AreSome (xs ++ []) all → AreSome xs all
image_ends xs all some = subst (λ ys. AreSome ys all) (append-nil xs) some

-- copies of one node more
copies_added : (tree : Tree) (n : Node) (nodes : List Node) (before old new : List Copying) → KeepsCopy tree n old new → AddsSome before old (copies_of tree nodes) → AddsSome before new (copies_of tree (nodes ++ n ∷ []))
copies_added tree n nodes before old new keeps added =
    let all : copies_of tree (nodes ++ n ∷ []) ≡ copies_of tree nodes ++ copies_of tree (n ∷ []) = filter_map-append (copy_in tree) nodes (n ∷ []) in
    elim keeps [
      | inl same ↦ (
        added.0,
        same ∙ added.1,
        subst (AreSome added.0) (sym all) (image_ends added.0 _ (some_along added.0 (copies_of tree nodes) [] (copies_of tree (n ∷ [])) added.2 tt)),
      )
      | inr kept ↦ (
        added.0 ++ kept.0 ∷ [],
        kept.2 ∙ (ap (λ (xs : List Copying). xs ++ kept.0 ∷ []) added.1 ∙ append_assoc before added.0 (kept.0 ∷ [])),
        subst (AreSome (added.0 ++ kept.0 ∷ [])) (sym all)
            (some_along added.0 (copies_of tree nodes) (kept.0 ∷ []) (copies_of tree (n ∷ [])) added.2 (node_taken tree n [] kept.0 [] (sym kept.1) tt)),
      )
    ]

-- of a list's next node
pub copies_go_on :
    (tree : Tree) (nodes : List Node) (k : ℕ) (n : Node) (before old new : List Copying)
    → k < length nodes → n ≡ get_or nodes k n → KeepsCopy tree n old new
    → AddsSome before old (copies_of tree (take k nodes)) → AddsSome before new (copies_of tree (take (k + 1) nodes))
copies_go_on tree nodes k n before old new below is keeps added =
    let one_more : k + 1 ≡ suc k = omega arith in
    let taken : take (k + 1) nodes ≡ take k nodes ++ n ∷ [] = ap (λ j. take j nodes) one_more ∙ take-suc nodes k n below ∙ ap (λ m. take k nodes ++ m ∷ []) (sym is) in
    subst (λ (ns : List Node). AddsSome before new (copies_of tree ns)) (sym taken) (copies_added tree n (take k nodes) before old new keeps added)

-- some copies of some of an image's nodes are some of the copies of all
pub copies_looked : (tree : Tree) (some all : List Node) (copies : List Copying) → AreSome some all → AddsSome [] copies (copies_of tree some) → AreSome copies (copies_of tree all)
copies_looked tree some all copies are added =
    some_of_some copies (copies_of tree some) (copies_of tree all) (subst (λ (cs : List Copying). AreSome cs (copies_of tree some)) (sym added.1) added.2) (copies_of_some tree some all are)
