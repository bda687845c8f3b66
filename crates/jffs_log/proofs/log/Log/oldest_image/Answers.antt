use Rattle.std.proofs.Common.{arith}
use Rattle.jffs_log.proofs.erase.ErasedIndex.{oldest_inside}
use Rattle.jffs_log.proofs.Seen.{told}
use Rattle.jffs_log.proofs.log.Log.oldest_image.Goals as goal

pub overflow_mul-self-inside : goal.overflow_mul-self-inside
overflow_mul-self-inside g c =
    let inside = oldest_inside _ _ _ _ _ _ _ _ _ (told _ _ c.self.view_is c.self.invariant c.requires.working) in
    omega (arith, inside.0, inside.1)

pub read-requires : goal.read-requires
read-requires g c =
    let inside = oldest_inside _ _ _ _ _ _ _ _ _ (told _ _ c.self.view_is c.self.invariant c.requires.working) in
    let long = c.in_ok-bytes.ensures.len in
    let same = c.deref_mut.ensures.len in
    omega (arith, inside.0, long, same)
