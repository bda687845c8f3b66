-- How often a call erases, in which order, and that a sector stays erased.
use Rattle.std.specs.Prelude.{◌≡◌, ℕ, ◌+◌, ◌<◌, ◌≤◌, ◌||◌, true, false, List, if◌then◌else◌}
use Rattle.jffs_node.specs.declared.node.Node.{Node}
use Rattle.jffs_flash.specs.Device.{Device}
use Rattle.jffs_flash.specs.Wear.{erases_at}
use Rattle.jffs_tree.specs.declared.wish.Wish.{Wish}
use Rattle.jffs_tree.specs.Decide.{is_copy_wish, is_unmount_wish}
use Rattle.jffs_log.specs.LogIndex.{HasSizes, layout_in}
use Rattle.jffs_log.specs.Wear.{ErasedInTurn, erases_of}
use Rattle.jffs_core.specs.CoreState.{CoreState, SameAnswers}
use Rattle.jffs_core.specs.Past.{Represents, IsFresh}

-- The sectors were erased in turn, and by the device's own count none of them more often than that.
pub record ErasesInTurn (old new : CoreState) : Type 0 where
  pub turned : ErasedInTurn old.index new.index
  pub worn : (k : ℕ) → erases_at new.wear k
      ≤ erases_at old.wear k + erases_of old.index.sectors old.index.first turned.many k

-- What the device was asked for: while the core works, no other erases than in turn; and where an
-- erase failed since the mount that wasn't known before, the device has counted one more.
pub record UsesDevice (old new : CoreState) : Type 0 where
  pub erases : new.failed ≡ false → ErasesInTurn old new
  pub failed_erases : old.failed_erases ≤ new.failed_erases
  pub counted : old.erase_failed ≡ false → new.erase_failed ≡ true
      → old.failed_erases < new.failed_erases

-- Each erase takes a sector from the log, and a sector that is begun gives it one: erases and,
-- while the core works, the sectors that hold the log, counted together, rise by at most so many.
pub record ErasesAtMost (more : ℕ) (old new : CoreState) : Type 0 where
  pub erases : new.index.erases ≤ old.index.erases + old.index.held
  pub held : new.failed ≡ false
      → new.index.erases + new.index.held ≤ old.index.erases + old.index.held + more
  pub device : UsesDevice old new

-- How many sectors may be erased for a wish where so many hold the log: all of them for a fresh
-- node, none for a copy that was handed in, nor for an unmount node.
abbrev pub erased_for : Wish → ℕ → ℕ
erased_for wish held = if is_copy_wish wish || is_unmount_wish wish then 0 else held

-- The device keeps its sizes over an answer, which erases no more than that, and no more sectors
-- than there are; and no byte of it is read.
pub record StaysBounded (wish : Wish) (old new : CoreState) : Type 0 where
  pub sizes : HasSizes old.index.sectors old.index.sector_size new.index
  pub erases : ErasesAtMost old.index.sectors old new
  pub for_wish : new.index.erases ≤ old.index.erases + erased_for wish old.index.held
  pub few : new.index.erases ≤ old.index.erases + old.index.sectors
  pub unread : new.reads_left ≡ old.reads_left

-- What a call inside the core leaves: the answers and the sizes as they were, no more than that
-- many sectors erased, and no byte read.
pub record Leaves (most : ℕ) (old new : CoreState) : Type 0 where
  pub same : SameAnswers old new
  pub sizes : HasSizes old.index.sectors old.index.sector_size new.index
  pub erases : new.index.erases ≤ old.index.erases + most
  pub device : UsesDevice old new
  pub unread : new.reads_left ≡ old.reads_left

-- While a core works, and so after each of its appends and erases, a sector is erased.
abbrev pub OneIsErased : Type 0
OneIsErased =
    (mounted past : List Node) (c : CoreState) → Represents mounted past c → c.failed ≡ false
    → 1 ≤ (layout_in c.image c.index).erased

-- A mount of the bytes that a working core left finds the log begin with the sector that it began
-- with there, where any sector held it. So over sessions too the sectors are erased in turn.
abbrev pub MountsGoOn : Type 0
MountsGoOn =
    (mounted past : List Node) (left next : CoreState) (given : Device)
    → Represents mounted past left → left.failed ≡ false → 1 ≤ left.index.held
    → IsFresh given next → given.image ≡ left.image
    → HasSizes given.sectors given.sector_size left.index → next.index.first ≡ left.index.first
