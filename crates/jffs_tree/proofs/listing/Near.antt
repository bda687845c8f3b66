-- Paths are short where each inode's directory is near enough.
use Rattle.std.proofs.Common.{◌≡◌, false, ℕ, ◌&&◌, ◌||◌, ◌-◌, eqb, T, [], ◌∷◌, Some, refl, sym, ap, nat_cmp}
use Rattle.std.specs.List.{AllByRecursion, list_all}
use Rattle.std.specs.Option.{option_map_or}
use Rattle.std.specs.FinMap.Entries as entries
use Rattle.jffs_node.specs.declared.path.TheConstants.{PATH_DEPTH_MAX}
use Rattle.jffs_inodes.specs.Held.{Entry}
use Rattle.jffs_tree.specs.State.{State, at}
use Rattle.jffs_inodes.specs.Inodes.{Tree}
use Rattle.jffs_tree.specs.Origin.{state_in}
use Rattle.jffs_tree.specs.Check.{is_within, is_near}
use Rattle.jffs_marks.proofs.Maps.{tail_sorted, at_first, at_later}
use Rattle.jffs_tree.proofs.listing.Apart.{sorted_state_in}

-- each entry is found under its number
each_found : (s : State) → T (entries.is_sorted nat_cmp s) → AllByRecursion (λ e. at s e.0 ≡ Some e.1) s
each_found [] sorted = tt
each_found (x ∷ s) sorted = (at_first x s, later s (each_found s (tail_sorted x s sorted)))
  where
    later : (t : State) → AllByRecursion (λ e. at s e.0 ≡ Some e.1) t → AllByRecursion (λ e. at (x ∷ s) e.0 ≡ Some e.1) t
    later [] h = tt
    later (e ∷ t) h = (at_later x s e.0 e.1 sorted h.0, later t h.1)

module _ (s : State) where
  near_within : (e : ℕ × Entry) → at s e.0 ≡ Some e.1 → is_near s e ≡ is_within PATH_DEPTH_MAX s e.0
  near_within e is = ap (λ o. (eqb e.0 1) || option_map_or (λ (x : Entry). is_within (PATH_DEPTH_MAX - 1) s x.parent) o false) (sym is)

  all_within : (t : State) → AllByRecursion (λ e. at s e.0 ≡ Some e.1) t → list_all (is_near s) t ≡ list_all (λ (e : ℕ × Entry). is_within PATH_DEPTH_MAX s e.0) t
  all_within [] h = refl
  all_within (e ∷ t) h = λ i. near_within e h.0 i && all_within t h.1 i

pub near_exactly : (tree : Tree) → T (entries.is_sorted nat_cmp tree) → list_all (is_near (state_in tree)) (state_in tree) ≡ list_all (λ (e : ℕ × Entry). is_within PATH_DEPTH_MAX (state_in tree) e.0) (state_in tree)
near_exactly tree sorted = all_within (state_in tree) (state_in tree) (each_found (state_in tree) (sorted_state_in tree sorted))
