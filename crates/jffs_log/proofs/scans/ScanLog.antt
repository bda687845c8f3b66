-- The sectors of the log, and the nodes in them.
use Rattle.std.proofs.Common.{◌≡◌, suc, ◌-◌, Bool, false, List, [], ◌∷◌, length, map, Option, Some, None, option_map, refl, ap, ◌∙◌, arith}
use Rattle.std.specs.Prelude.{slice_get}
use Rattle.std.specs.List.{last_or}
use Rattle.jffs_node.specs.declared.node.Node.{Node}
use Rattle.jffs_node.specs.Record.{is_unmount}
use Rattle.jffs_log.specs.Image.{ends_with_unmount, is_erased_option}
use Rattle.jffs_log.proofs.ring.Ring.{Numbered}

-- the last element
pub last_is : {A : Type 0} (xs : List A) → slice_get xs (length xs - 1) ≡ last_or None xs
last_is [] = refl
last_is (x ∷ []) = refl
last_is (x ∷ y ∷ xs) =
    let same : length (x ∷ y ∷ xs) - 1 ≡ suc (length (y ∷ xs) - 1) = omega arith in
    ap (slice_get (x ∷ y ∷ xs)) same ∙ last_is (y ∷ xs)

-- whether the last node is an unmount node
abbrev pub unmounts : Option Node → Bool
unmounts None = false
unmounts (Some n) = is_unmount n.kind

pub unmounts_last : (nodes : List Node) → ends_with_unmount nodes ≡ unmounts (last_or None nodes)
unmounts_last [] = refl
unmounts_last (n ∷ []) = refl
unmounts_last (n ∷ m ∷ nodes) = unmounts_last (m ∷ nodes)

-- whether the last sector is erased
abbrev pub ends_blank : Option Numbered → Bool
ends_blank None = false
ends_blank (Some s) = s.1.erased

blank_from : (o : Option Numbered) (xs : List Numbered) → is_erased_option (last_or (option_map (λ s. s.1) o) (map (λ s. s.1) xs)) ≡ ends_blank (last_or o xs)
blank_from None [] = refl
blank_from (Some s) [] = refl
blank_from o (s ∷ xs) = blank_from (Some s) xs

pub blank_last : (xs : List Numbered) → is_erased_option (last_or None (map (λ s. s.1) xs)) ≡ ends_blank (last_or None xs)
blank_last xs = blank_from None xs
