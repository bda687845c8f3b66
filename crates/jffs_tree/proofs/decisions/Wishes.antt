-- What a wish is.
use Rattle.std.proofs.Common.{◌≡◌, true, refl}
use Rattle.jffs_tree.specs.declared.wish.Wish.{Wish}
use Rattle.jffs_tree.specs.declared.wish.Wish.TheVariants.{Unmount}
use Rattle.jffs_tree.specs.Decide.{is_unmount_wish}

pub unmount_wish : (w : Wish) → is_unmount_wish w ≡ true → w ≡ Unmount
unmount_wish Unmount is = refl
unmount_wish _ is = cc
