-- What a cleaner hands in.
use Rattle.std.specs.Prelude.{◌≡◌, ◌⊎◌, ℕ, List, [], ◌∷◌, ◌++◌, length, map}
use Rattle.std.specs.List.{AllByRecursion}
use Rattle.jffs_line.specs.declared.request.Request.{Request}
use Rattle.jffs_tree.specs.declared.wish.Wish.{Wish}
use Rattle.jffs_tree.specs.declared.wish.Wish.TheVariants.{Copy}

-- the wish asks for a copy
abbrev pub IsCopy : Wish → Type 0
IsCopy (Copy source parent name offset bytes) = Unit {0}
IsCopy _ = ⊥

-- `count` requests were accepted since, and each asks for a copy
abbrev pub HandsInCopies : List Request → List Request → ℕ → Type 0
HandsInCopies before now count =
    (more : List Request) × (now ≡ before ++ more)
    × AllByRecursion (λ (r : Request). IsCopy r.wish) more × (count ≡ length more)

-- the first are some of the second, each at most once and in their order
abbrev pub AreSome : {A : Type 0} → List A → List A → Type 0
AreSome [] ys = Unit {0}
AreSome (x ∷ xs) [] = ⊥
AreSome (x ∷ xs) (y ∷ ys) = ((x ≡ y) × AreSome xs ys) ⊎ AreSome (x ∷ xs) ys

-- some of these were added
abbrev pub AddsSome : {A : Type 0} → List A → List A → List A → Type 0
AddsSome {A} before now all = (more : List A) × (now ≡ before ++ more) × AreSome more all

-- some of these wishes were accepted since
abbrev pub HandsIn : List Wish → List Request → List Request → Type 0
HandsIn wishes before now = (more : List Request) × (now ≡ before ++ more)
    × AreSome (map (λ (r : Request). r.wish) more) wishes
