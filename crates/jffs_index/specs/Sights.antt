-- What was seen of an index.
use Rattle.std.specs.Prelude.{List, [], ◌∷◌}
use Rattle.logbook.specs.Pages.{Book}
use Rattle.jffs_inodes.specs.Inodes.{Tree}
use Rattle.jffs_index.specs.declared.step.Step.{Step}
use Rattle.jffs_index.specs.declared.rule.History.{History}
use Rattle.jffs_index.specs.declared.rule.Index.{Index}
use Rattle.jffs_index.specs.Books.{head_of}

-- the opening tree, which is the one entry of a book of its own
abbrev pub opened_tree : List Tree → Tree
opened_tree [] = []
opened_tree (tree ∷ trees) = tree

-- which index, and a beginning of its history
pub record Sighted : Type 0 where
  pub index : Index
  pub history : History

abbrev pub sighted : Book → List Step → Tree → Sighted
sighted book steps opening =
    record {
      index = record { head = head_of book; opening = opening };
      history = record { opening = opening; steps = steps };
    }
