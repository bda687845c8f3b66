-- The oldest sector of a log may be erased where it is dead and not the tail.
use Rattle.std.proofs.Common.{◌≡◌, ℕ, ◌≤◌, false, List, [], ◌∷◌, length, refl, sym, ap, subst, ◌∙◌, arith}
use Rattle.std.specs.List.{AllByRecursion}
use Rattle.jffs_node.specs.declared.node.Node.{Node}
use Rattle.jffs_inodes.specs.Inodes.{Tree}
use Rattle.jffs_tree.specs.Origin.{tree_of}
use Rattle.jffs_log.specs.declared.log_index.LogIndex.{LogIndex}
use Rattle.jffs_log.specs.Image.{starts, oldest_of}
use Rattle.jffs_log.specs.Volume.{sectors_in}
use Rattle.jffs_log.specs.LogIndex.{IsLogIndex, lives_in, oldest_in}
use Rattle.jffs_log.specs.History.{IsHistory}
use Rattle.jffs_log.specs.Erasable.{MayErase}
use Rattle.jffs_log.proofs.ring.Ring.{Numbered, ring_starts, start_of}
use Rattle.jffs_log.proofs.erase.ErasedIndex.{held_many}

pub may_erase : (image : List ℕ) (b : LogIndex) (tree : Tree) (past : List Node) → IsLogIndex image b → 2 ≤ b.held → AllByRecursion (λ p. lives_in tree p ≡ false) (oldest_in image b)
    → tree ≡ tree_of past → IsHistory image b past → MayErase b.sectors b.sector_size image past b.first
may_erase image b tree past index several dead is history =
    let many = held_many _ _ _ _ _ _ _ _ _ index in
    let counted = index.counted in
    record {
      history = history;
      whole = index.whole;
      oldest = sym (ap oldest_of (ring_starts b.first (sectors_in b.sectors b.sector_size image) index.held index.blank index.ring) ∙ first_of index.held (omega arith));
      several = omega arith;
      dead = subst (λ (t : Tree). AllByRecursion (λ p. lives_in t p ≡ false) (oldest_in image b)) is dead;
    }
  where
    first_of : (xs : List Numbered) → 1 ≤ length xs → oldest_of (start_of xs b.first) ≡ b.first
    first_of [] h = absurd (omega arith)
    first_of (x ∷ xs) h = refl
