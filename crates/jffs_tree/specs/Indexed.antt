-- What the fields of a tree keep.
use Rattle.jffs_tree.specs.declared.tree.Tree.TheInside.{Inside}
use Rattle.jffs_inodes.specs.Inodes.{AreOrdered}
use Rattle.jffs_tree.specs.Index.{IsIndexOf}
use Rattle.jffs_inodes.specs.Marked.{AreMarksOf}

-- The inodes stand in order, the index has just their keys, and the marks are theirs.
pub record IsIndexed (t : Inside) : Type 0 where
  pub ordered : AreOrdered t.inodes
  pub indexed : IsIndexOf t.inodes t.children.keys
  pub marked : AreMarksOf t.inodes t.marks
