-- The state of a core.
use Rattle.std.specs.Prelude.{◌≡◌, ℕ, Bool, List}
use Rattle.jffs_flash.specs.Wear.{Wear}
use Rattle.jffs_inodes.specs.Inodes.{Tree}
use Rattle.jffs_tree.specs.declared.wish.Limits.{Limits}
use Rattle.jffs_log.specs.declared.log_index.LogIndex.{LogIndex}
use Rattle.jffs_log.specs.LogIndex.{IsSameLogIndex}
use Rattle.jffs_core.specs.declared.answer.Answer.{Answer}

-- The image of the device, how often it failed, how many erases were among that, whether one of
-- them since the mount, what it counts of its wear, how often each byte of it can still be read,
-- the log's index, and the core's tree, numbers, flags and answers.
pub record CoreState : Type 0 where
  pub image : List ℕ
  pub faults : ℕ
  pub failed_erases : ℕ
  pub erase_failed : Bool
  pub wear : Wear
  pub reads_left : List ℕ
  pub index : LogIndex
  pub tree : Tree
  pub limits : Limits
  pub clean : Bool
  pub failed : Bool
  pub closed : Bool
  pub answers : List Answer
  pub capacity : ℕ

-- the same in all but the capacity reserved for answers
abbrev pub IsSameButCapacity : CoreState → CoreState → Type 0
IsSameButCapacity old new = new ≡ record old { capacity = new.capacity }

-- The same in all but what was answered and the capacities: the image, the device's faults and
-- wear, the index with its erases, the tree, the numbers, and whether the core works.
pub record IsSameButAnswers (old new : CoreState) : Type 0 where
  pub index : IsSameLogIndex old.index new.index
  pub rest : new
      ≡ record old {
        index = new.index;
        closed = new.closed;
        answers = new.answers;
        capacity = new.capacity;
      }

-- bytes were read, and nothing else has changed
abbrev pub SameButReads : CoreState → CoreState → Type 0
SameButReads old new = new ≡ record old { reads_left = new.reads_left }

-- the answers, their capacity, and whether the session is over, are the same
pub record SameAnswers (old new : CoreState) : Type 0 where
  pub answers : new.answers ≡ old.answers
  pub capacity : new.capacity ≡ old.capacity
  pub closed : new.closed ≡ old.closed
