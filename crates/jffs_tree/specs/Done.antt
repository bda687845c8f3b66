-- What a granted request does, said of files and directories alone.
use Rattle.std.specs.Prelude.{◌≡◌, ℕ, ◌+◌, ◌-◌, ◌<◌, Bool, true, false, not, ◌==◌, List, []}
use Rattle.std.specs.Prelude.{◌++◌, length, take, drop, replicate, None, Ok, if◌then◌else◌}
use Rattle.std.specs.Option.{option_map_or}
use Rattle.std.specs.Ordering.{nat_cmp}
use Rattle.std.specs.FinMap.Entries as entries
use Rattle.jffs_node.specs.declared.node.Node.{Node}
use Rattle.jffs_node.specs.declared.node.Kind.{Kind}
use Rattle.jffs_node.specs.declared.node.Kind.TheVariants.{File, Directory}
use Rattle.jffs_tree.specs.declared.wish.Limits.{Limits}
use Rattle.jffs_tree.specs.declared.wish.NewNode.{NewNode}
use Rattle.jffs_tree.specs.declared.wish.Wish.{Wish}
use Rattle.jffs_tree.specs.declared.wish.Wish.TheVariants.{MakeDir, Create, Write, Truncate, Rename}
use Rattle.jffs_tree.specs.declared.wish.Wish.TheVariants.{Remove, Copy, Unmount}
use Rattle.jffs_inodes.specs.Held.{Entry}
use Rattle.jffs_tree.specs.State.{State, root, at, apply, resolve, state_of_past}
use Rattle.jffs_tree.specs.Decide.{last_name, parent_in, decide, with}
use Rattle.jffs_tree.specs.Deciding.{AreLimitsOf}

-- a file's first bytes, up to a size, and zeros where it is shorter
abbrev pub resized : ℕ → List ℕ → List ℕ
resized size old = take size old ++ replicate (size - length old) 0

-- These bytes from an offset on, and after them what stood there. Without bytes nothing changes.
abbrev pub overwritten : ℕ → List ℕ → List ℕ → List ℕ
overwritten offset bytes old =
    if length bytes == 0 then old
    else (resized offset old ++ bytes ++ drop (offset + length bytes) old)

-- the state with a new entry, without bytes, at a path, if the directory of the path is there
abbrev pub with_new : ℕ → Kind → State → List (List ℕ) → State
with_new inode kind s path =
    option_map_or
    (λ parent.
    entries.put nat_cmp inode
    (record { kind = kind; parent = parent; name = last_name path; bytes = [] }) s)
    (parent_in s path) s

-- the state with the entry of an inode changed so, if it has one
abbrev pub with_changed : (Entry → Entry) → State → ℕ → State
with_changed change s i = option_map_or (λ e. entries.put nat_cmp i (change e) s) (at s i) s

-- the state without the entry of an inode
abbrev pub without : State → ℕ → State
without s i = entries.where_key nat_cmp (λ j. not (i == j)) s

-- the state with the inode that a path leads to changed so; unchanged, if it leads to none
abbrev pub done_at : List (List ℕ) → State → (ℕ → State) → State
done_at path s change = option_map_or change (resolve s path) s

-- The state after a granted wish. A new entry gets the inode that the answer names.
abbrev pub done : ℕ → State → Wish → State
done inode s (MakeDir path) = with_new inode Directory s path
done inode s (Create path) = with_new inode File s path
done inode s (Write path offset bytes) =
    done_at path s
    (with_changed (λ e. record e { bytes = overwritten offset bytes e.bytes }) s)
done inode s (Truncate path size) =
    done_at path s (with_changed (λ e. record e { bytes = resized size e.bytes }) s)
done inode s (Rename source target) =
    option_map_or
    (λ parent.
    done_at source s
    (with_changed (λ e. record e { parent = parent; name = last_name target }) s))
    (parent_in s target) s
done inode s (Remove path) = done_at path s (without s)
done inode s (Copy source parent name offset bytes) = s
done inode s Unmount = s

-- whether a wish makes an entry
abbrev pub makes_entry : Wish → Bool
makes_entry (MakeDir path) = true
makes_entry (Create path) = true
makes_entry _ = false

-- If a wish makes an entry, it gets a number above the root's that no entry has.
abbrev pub IsFreeFor : Wish → State → ℕ → Type 0
IsFreeFor wish s inode = makes_entry wish ≡ true → (root < inode) × (at s inode ≡ None)

-- The node that is decided on makes of the state what the wish asks for.
abbrev pub DecidedIsDone : Type 0
DecidedIsDone =
    (past : List Node) (limits : Limits) (wish : Wish) (n : NewNode) (version writer seq : ℕ)
    → AreLimitsOf past limits → decide past limits wish ≡ Ok n
    → apply (state_of_past past) (with n version writer seq)
    ≡ done n.inode (state_of_past past) wish

-- A new entry never takes the place of another.
abbrev pub NewInodesAreFree : Type 0
NewInodesAreFree = (past : List Node) (limits : Limits) (wish : Wish) (n : NewNode)
    → AreLimitsOf past limits → decide past limits wish ≡ Ok n
    → IsFreeFor wish (state_of_past past) n.inode
