-- The requests that a sender makes of its wishes.
use Rattle.std.specs.Prelude.{◌≡◌, ℕ, ◌+◌, List, [], ◌∷◌, length, take}
use Rattle.jffs_text.specs.declared.command.Command.{Command}
use Rattle.jffs_tree.specs.declared.wish.Wish.{Wish}
use Rattle.jffs_line.specs.declared.request.Request.{Request}
use Rattle.jffs_line.specs.Requests.{request}
use Rattle.jffs_run.specs.declared.writer.Stop.{Stop}
use Rattle.jffs_run.specs.declared.writer.Stop.TheVariants.{Done}
use Rattle.jffs_text.specs.Wishes.{wishes_of}

-- a sender's wishes, numbered from n on
abbrev pub numbered : ℕ → ℕ → List Wish → List Request
numbered sender n [] = []
numbered sender n (wish ∷ wishes) = request sender n wish ∷ numbered sender (n + 1) wishes

-- the first of the commands, in order, and all of them where the writer came to its end
pub record Wrote (sender : ℕ) (commands : List Command) (accepted : List Request) (stop : Stop) :
    Type 0 where
  pub first : accepted ≡ numbered sender 1 (take (length accepted) (wishes_of commands))
  pub whole : stop ≡ Done → length accepted ≡ length commands
