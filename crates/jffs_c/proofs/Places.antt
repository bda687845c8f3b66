-- From one name of a directory to the next.
use Rattle.std.proofs.Common.{◌≡◌, ◌≤◌, ℕ, zero, suc, ◌+◌, false, List, [], ◌∷◌, length, get_or, Option, Some, None, slice_get, sym, ap, subst, ◌∙◌, arith, refl}
use Rattle.std.specs.List.{find}
use Rattle.std.specs.List.Sorted.{IsPermutation, IsSorted}
use Rattle.std.specs.Ordering.{is_lt, is_eq, ordering_reverse}
use Rattle.std.specs.declared.cmp.Ordering.{Ordering}
use Rattle.std.specs.declared.cmp.Ordering.TheVariants.{Less, Equal, Greater}
use Rattle.std.proofs.lemmas.List.Sorted.{length_permutation, IsPermutation-sym}
use Rattle.std.proofs.lemmas.Map.Keys.{IsDistinct-from_sorted, IsDistinct-IsPermutation, apart_from_distinct, sorted_from_all_adjacent}
use Rattle.jffs_inodes.specs.Inodes.{Tree}
use Rattle.jffs_tree.specs.Look.{names_in, name_cmp}
use Rattle.jffs_tree.specs.Listing.{IsFirst, IsListing, is_after}
use Rattle.jffs_tree.proofs.listing.Directories.{name_total, same_name, sorted_names}
use Rattle.jffs_tree.proofs.listing.Following.{listings_are_one, names_begin, names_follow}
use Rattle.jffs_c.specs.declared.place.Place.{Place}
use Rattle.jffs_c.specs.Volume.{IsPlaceAt}
use Rattle.jffs_c.specs.Numbered.{IsNumbered}

-- a list that has nothing at a number is no longer
past_end : {X : Type 0} (xs : List X) (n : ℕ) → slice_get xs n ≡ None → length xs ≤ n
past_end [] n is = omega arith
past_end (x ∷ xs) zero is = cc
past_end (x ∷ xs) (suc n) is = let rest = past_end xs n is in omega (arith, rest)

-- so many names has a directory of which a listing has nothing at a number
few : (tree : Tree) (directory : ℕ) (names : List (List ℕ × ℕ)) (n : ℕ) → IsPermutation (names_in tree directory) names → slice_get names n ≡ None
    → length (names_in tree directory) ≤ n
few tree directory names n all is =
    subst (λ (len : ℕ). len ≤ n) (length_permutation (names_in tree directory) names all) (past_end names n is)

flips : (x y : List ℕ × ℕ) → same_name x y ≡ same_name y x
flips x y = ap is_eq (name_total.antisymm x y) ∙ either (name_cmp y x)
  where
    either : (o : Ordering) → is_eq (ordering_reverse o) ≡ is_eq o
    either Less = refl
    either Equal = refl
    either Greater = refl

-- neither above nor the same is below
rises : (x y : List ℕ × ℕ) → is_lt (name_cmp y x) ≡ false → same_name x y ≡ false → name_cmp x y ≡ Less
rises x y low apart = by_order (name_cmp x y) (sym (ap is_lt (name_total.antisymm y x)) ∙ low) apart
  where
    by_order : (o : Ordering) → is_lt (ordering_reverse o) ≡ false → is_eq o ≡ false → o ≡ Less
    by_order Less l a = refl
    by_order Equal l a = cc
    by_order Greater l a = cc

-- a listing, by another one that rises
listing : (tree : Tree) (directory : ℕ) (names rising : List (List ℕ × ℕ)) → IsPermutation (names_in tree directory) names → IsSorted name_cmp names
    → IsListing tree directory rising → IsListing tree directory names
listing tree directory names rising all ordered other = record {
  all = all;
  rising =
      sorted_from_all_adjacent name_total names ([], 0) (λ k short.
      rises (get_or names k ([], 0)) (get_or names (k + 1) ([], 0)) (ordered k ([], 0) (omega arith) short)
      (apart_from_distinct same_name names k (k + 1) ([], 0)
      (IsDistinct-IsPermutation same_name flips (names_in tree directory) names all
      (IsDistinct-IsPermutation same_name flips rising (names_in tree directory)
      (IsPermutation-sym (names_in tree directory) rising other.all) (IsDistinct-from_sorted name_cmp rising other.rising)))
      (omega arith) short));
}

module _ (tree : Tree) (directory : ℕ) (found : Option (List ℕ × ℕ)) (first : IsFirst (is_after None) tree directory found) where
  begins : slice_get first.names 0 ≡ found
  begins = sym (names_begin first.names) ∙ sym first.is

  pub is_first : (e : List ℕ × ℕ) → found ≡ Some e → IsNumbered tree directory 0 e.0 e.1
  is_first e is = record {
    names = first.names;
    all = first.listing.all;
    ordered = sorted_names first.names first.listing.rising;
    numbered = begins ∙ is;
  }

  pub has_none : found ≡ None → length (names_in tree directory) ≤ 0
  has_none is = few tree directory first.names 0 first.listing.all (begins ∙ is)

module _ (tree : Tree) (directory number : ℕ) (name : List ℕ) (inode : ℕ) (at : IsNumbered tree directory number name inode) (found : Option (List ℕ × ℕ))
    (first : IsFirst (is_after (Some (name, inode))) tree directory found) where
  listed : IsListing tree directory at.names
  listed = listing tree directory at.names first.names at.all at.ordered first.listing

  follows : slice_get at.names (number + 1) ≡ found
  follows =
      sym (names_follow tree directory at.names number (name, inode) listed at.numbered)
      ∙ ap (λ (names : List (List ℕ × ℕ)). find (is_after (Some (name, inode))) names) (listings_are_one tree directory at.names first.names listed first.listing)
      ∙ sym first.is

  pub is_next : (e : List ℕ × ℕ) → found ≡ Some e → IsNumbered tree directory (number + 1) e.0 e.1
  is_next e is = record { names = at.names; all = at.all; ordered = at.ordered; numbered = follows ∙ is }

  pub has_no_next : found ≡ None → length (names_in tree directory) ≤ number + 1
  has_no_next is = few tree directory at.names (number + 1) at.all (follows ∙ is)

-- a place with these fields
pub place_is : (tree : Tree) (directory number : ℕ) (name : List ℕ) (inode : ℕ) (place : Place)
    → place ≡ record { directory = directory; number = number; name = name; inode = inode } → IsNumbered tree directory number name inode → IsPlaceAt tree directory number place
place_is tree directory number name inode place is at =
    subst (λ (p : Place). IsPlaceAt tree directory number p) (sym is) (record { is = at; there = refl; numbered = refl })

-- a name of the list of all names
module _ (tree : Tree) (directory number : ℕ) (names items : List (List ℕ × ℕ)) (are : items ≡ names) (all : IsPermutation (names_in tree directory) names) where
  pub listed_at : (found : List ℕ × ℕ) → IsSorted name_cmp names → slice_get items number ≡ Some found → IsNumbered tree directory number found.0 found.1
  listed_at found ordered at = record {
    names = names;
    all = all;
    ordered = ordered;
    numbered = subst (λ (list : List (List ℕ × ℕ)). slice_get list number ≡ Some found) are at;
  }

  pub listed_fewer : length items ≤ number → length (names_in tree directory) ≤ number
  listed_fewer short =
      subst (λ (len : ℕ). len ≤ number) (length_permutation (names_in tree directory) names all)
      (subst (λ (list : List (List ℕ × ℕ)). length list ≤ number) are short)
