-- Whether a record has room, and fits what is left of its sector.
use Rattle.std.proofs.Common.{◌≡◌, ℕ, ◌+◌, ◌-◌, ◌/◌, ◌<◌, ◌≤◌, true, leb, refl, subst, arith}
use Rattle.std.proofs.lemmas.Bool.{or_left, or_right, and_from, le-leb}
use Rattle.jffs_node.specs.declared.node.Node.{Node}
use Rattle.jffs_node.specs.declared.node.Kind.{Kind}
use Rattle.jffs_node.specs.declared.node.Kind.TheVariants.{File, Directory, Unmount}
use Rattle.jffs_node.specs.Record.{record_len, dsize, is_lawful, is_unmount, fits_rest, kind_numbers}
use Rattle.jffs_log.specs.declared.room.Room.{Room}
use Rattle.jffs_log.specs.declared.room.Room.TheVariants as room
use Rattle.jffs_log.specs.Room.{tail_need, has_room}
use Rattle.jffs_node.proofs.Lawfulness.{rules_of, no_range, unmount_range}
use Rattle.jffs_log.proofs.append.Puts.{next_erased, enough_erased}

kind_is : (k : Kind) → is_unmount k ≡ true → k ≡ Unmount
kind_is File h = cc
kind_is Directory h = cc
kind_is Unmount h = refl

-- an unmount node has no bytes
unmount_empty : (n : Node) → is_lawful n ≡ true → is_unmount n.kind ≡ true → dsize n ≡ 0
unmount_empty n lawful unmount =
    (no_range n (unmount_range n (subst (λ k. kind_numbers k n (dsize n) ≡ true) (kind_is n.kind unmount) (rules_of n lawful).kind))).1

pub tail_fits : (r : Room) (n : Node) (free len : ℕ) → is_lawful n ≡ true → (r ≡ room.Unmount → is_unmount n.kind ≡ true) → record_len n ≤ len / 4 → tail_need r (record_len n) ≤ free
    → fits_rest n.kind (dsize n) (len / 4) free ≡ true
tail_fits room.Fresh n free len lawful u short need =
    and_from _ _ (and_from _ _ (le-leb (record_len n) (len / 4) short) (le-leb (record_len n) free (omega arith))) (or_right (is_unmount n.kind) (leb (record_len n + 64) free) (le-leb (record_len n + 64) free need))
tail_fits room.Copy n free len lawful u short need =
    and_from _ _ (and_from _ _ (le-leb (record_len n) (len / 4) short) (le-leb (record_len n) free (omega arith))) (or_right (is_unmount n.kind) (leb (record_len n + 64) free) (le-leb (record_len n + 64) free need))
tail_fits room.Unmount n free len lawful u short need =
    let none = unmount_empty n lawful (u refl) in
    let least : record_len n ≤ free = omega arith in
    and_from _ _ (and_from _ _ (le-leb (record_len n) (len / 4) short) (le-leb (record_len n) free least)) (or_left (is_unmount n.kind) (leb (record_len n + 64) free) (u refl))

pub two_erased : (r : Room) (len free sectors held : ℕ) → has_room r len free (sectors - held) ≡ true → free < tail_need r len → held + 2 ≤ sectors
two_erased r len free sectors held h less = let e = next_erased r len free (sectors - held) h less in let k = enough_erased r in omega arith
