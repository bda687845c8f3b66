-- What a text spells.
use Rattle.std.specs.Prelude.{ℕ, List, [], Result, Ok, Err}
use Rattle.jffs_node.specs.declared.path.PathFault.{PathFault}
use Rattle.jffs_node.specs.Path.{path_of}

abbrev pub names_or_none : Result (List (List ℕ)) PathFault → List (List ℕ)
names_or_none (Ok names) = names
names_or_none (Err _) = []

-- the names of a path that a text spells
abbrev pub spelled : List ℕ → List (List ℕ)
spelled text = names_or_none (path_of text)
