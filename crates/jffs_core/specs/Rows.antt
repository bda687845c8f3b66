-- What the definitions give on examples.
use Rattle.std.specs.Prelude.{◌≡◌, ℕ, zero, suc, ◌+◌, ◌*◌, true, false, List, [], ◌∷◌, ◌++◌}
use Rattle.std.specs.Prelude.{replicate, map, Option, Some, None, Ok, Err, Result, codes}
use Rattle.jffs_node.specs.declared.node.Node.{Node}
use Rattle.jffs_node.specs.declared.node.Kind.TheVariants.{File, Directory}
use Rattle.jffs_node.specs.Record.{spelling}
use Rattle.jffs_tree.specs.declared.wish.Wish.{Wish}
use Rattle.jffs_tree.specs.declared.wish.Wish.TheVariants.{MakeDir, Create, Write, Truncate, Rename}
use Rattle.jffs_tree.specs.declared.wish.Wish.TheVariants.{Unmount}
use Rattle.jffs_tree.specs.declared.wish.Cause.{Cause}
use Rattle.jffs_tree.specs.declared.wish.NewNode.{NewNode}
use Rattle.jffs_node.specs.Rows.{created, hello_one, unmount_three}
use Rattle.jffs_tree.specs.declared.wish.Cause.TheVariants.{FileLong, NameTaken, VersionsSpent}
use Rattle.jffs_inodes.specs.Held.{bytes_of}
use Rattle.jffs_tree.specs.State.{state_of_past}
use Rattle.jffs_tree.specs.Origin.{entry, is_live, marks}
use Rattle.jffs_tree.specs.Decide.{decide, with, cleaning_copy}
use Rattle.jffs_log.specs.Room.{limits, next_version, next_inode, heavy, weight}

-- the history with the wish's node, where it gets one
abbrev pub after_wish : List Node → Option ℕ → ℕ → Result NewNode Cause → List Node
after_wish past (Some version) seq (Ok n) = with n version 1 seq ∷ past
after_wish past _ seq _ = past

-- wishes of writer 1, one after another, in sectors of 1024 bytes
abbrev pub wished_from : ℕ → List Node → List Wish → List Node
wished_from seq past [] = past
wished_from seq past (wish ∷ wishes) =
    wished_from (seq + 1)
    (after_wish past (next_version past) seq (decide past (limits 1024 past) wish)) wishes

-- paths
abbrev pub slash_d : List (List ℕ)
slash_d = codes "d" ∷ []

abbrev pub slash_d_a : List (List ℕ)
slash_d_a = codes "d" ∷ codes "a" ∷ []

abbrev pub slash_d_b : List (List ℕ)
slash_d_b = codes "d" ∷ codes "b" ∷ []

abbrev pub slash_z : List (List ℕ)
slash_z = codes "z" ∷ []

-- a renamed file, and a file that is written over and over
abbrev pub busy : List Node
busy = wished_from 1 [] (
    MakeDir slash_d ∷ Create slash_d_a ∷ Write slash_d_a 0 (codes "hello")
    ∷ Rename slash_d_a slash_d_b ∷ Create slash_z
    ∷ Write slash_z 0 (replicate 192 97) ∷ Write slash_z 0 (replicate 192 97)
    ∷ Write slash_z 0 (replicate 192 97) ∷ [])

abbrev pub the_write : Node
the_write = with (cleaning_copy (state_of_past busy)
    (record {
      kind = File;
      deleted = false;
      copy = false;
      inode = 3;
      parent = 2;
      version = 3;
      offset = 0;
      rsize = 0;
      writer = 1;
      seq = 3;
      size = Some 5;
      name = Some (codes "a");
      bytes = codes "hello";
    })) 10 0 0

pub record Cleaning : Type 0 where
  pub write_marks : marks busy 3 ≡ 5
  pub rename_marks : marks busy 4 ≡ 1
  pub covered_marks : marks busy 7 ≡ 0
  pub last_marks : marks busy 8 ≡ 193
  pub copied_bytes : spelling the_write ≡
      0x4A ∷ 0x46 ∷ 0x46 ∷ 0x31 ∷ 1 ∷ 2 ∷ 1 ∷ 0 ∷ 0 ∷ 0 ∷ 0 ∷ 3 ∷ 0 ∷ 0 ∷ 0 ∷ 2 ∷ 0 ∷ 0 ∷ 0 ∷ 10 ∷ 0
      ∷ 0 ∷ 0 ∷ 0
      ∷ 0 ∷ 0 ∷ 0 ∷ 5 ∷ 0 ∷ 0 ∷ 0 ∷ 5 ∷ 0 ∷ 0 ∷ 0 ∷ 2 ∷ 0 ∷ 0 ∷ 0 ∷ 0 ∷ 0 ∷ 0 ∷ 0 ∷ 5 ∷ 0x62
      ∷ replicate 19 0
      ++ (0x68 ∷ 0x65 ∷ 0x6C ∷ 0x6C ∷ 0x6F ∷ 0xFF ∷ 0xFF ∷ 0xFF ∷ [])

-- three writes of the same bytes stand in the tail, all else is erased; then the same write once
-- more
abbrev pub slash_f : List (List ℕ)
slash_f = codes "f" ∷ []

abbrev pub same_write : ℕ → Node
same_write version =
    record {
      kind = File;
      deleted = false;
      copy = false;
      inode = 2;
      parent = 1;
      version = version;
      offset = 0;
      rsize = 192;
      writer = 1;
      seq = version;
      size = Some 192;
      name = Some (codes "f");
      bytes = replicate 192 97;
    }

abbrev pub three_left : List Node
three_left = same_write 100 ∷ same_write 99 ∷ same_write 98 ∷ []

pub record LastOfHundred : Type 0 where
  pub next : wished_from 101 three_left (Write slash_f 0 (replicate 192 97) ∷ [])
      ≡ same_write 101 ∷ three_left
  pub others_dead : map (is_live (same_write 101 ∷ three_left)) (98 ∷ 99 ∷ 100 ∷ 101 ∷ [])
      ≡ false ∷ false ∷ false ∷ true ∷ []
  pub unmounts : next_version (same_write 101 ∷ three_left) ≡ Some 102

pub record Numbers : Type 0 where
  pub first_version : next_version [] ≡ Some 1
  pub first_inode : next_inode [] ≡ Some 2
  pub last_version : next_version (record (same_write 1) { version = 4294967295 } ∷ []) ≡ None
  pub one_left : next_version (record (same_write 1) { version = 4294967294 } ∷ [])
      ≡ Some 4294967295
  pub inode : next_inode three_left ≡ Some 3
  pub heavy : heavy 6 1024 ≡ 1408

-- A mounted volume of the first form, whose file then grows in the second.
abbrev pub old_form : List Node
old_form = unmount_three ∷ hello_one ∷ created ∷ []

abbrev pub grown : List Node
grown = wished_from 1 old_form (Write slash_f 8 (0x21 ∷ []) ∷ [])

abbrev pub longer : List Node
longer = wished_from 2 grown (Truncate slash_f 12 ∷ [])

abbrev pub asked : List Node → Wish → Result NewNode Cause
asked past wish = decide past (limits 1024 past) wish

-- offset, rsize and size, or the cause
abbrev pub range_of : Result NewNode Cause → Result (ℕ × ℕ × Option ℕ) Cause
range_of (Ok n) = Ok (n.offset, n.rsize, n.size)
range_of (Err cause) = Err cause

abbrev pub newest_bytes : List Node → List ℕ
newest_bytes [] = []
newest_bytes (n ∷ past) = spelling n

pub record Growing : Type 0 where
  pub record_bytes : newest_bytes grown ≡
      0x4A ∷ 0x46 ∷ 0x46 ∷ 0x31 ∷ 1 ∷ 0 ∷ 1 ∷ 0 ∷ 0 ∷ 0 ∷ 0 ∷ 2 ∷ 0 ∷ 0 ∷ 0 ∷ 1 ∷ 0 ∷ 0 ∷ 0 ∷ 4 ∷ 0
      ∷ 0 ∷ 0 ∷ 8
      ∷ 0 ∷ 0 ∷ 0 ∷ 1 ∷ 0 ∷ 0 ∷ 0 ∷ 0 ∷ 0 ∷ 1 ∷ 0 ∷ 2 ∷ 0 ∷ 0 ∷ 0 ∷ 1 ∷ 0 ∷ 0 ∷ 0 ∷ 9 ∷ 0x66
      ∷ replicate 19 0
      ++ (0x21 ∷ 0xFF ∷ 0xFF ∷ 0xFF ∷ [])
  pub bytes : bytes_of (entry grown 2) ≡ codes "hello" ++ (0 ∷ 0 ∷ 0 ∷ 0x21 ∷ [])
  pub longer_range : range_of (asked grown (Truncate slash_f 12)) ≡ Ok (9, 0, Some 12)
  pub longer_bytes : bytes_of (entry longer 2)
      ≡ codes "hello" ++ (0 ∷ 0 ∷ 0 ∷ 0x21 ∷ 0 ∷ 0 ∷ 0 ∷ [])
  pub too_long : range_of (asked longer (Truncate slash_f 1048577)) ≡ Err FileLong
  pub written_too_far : range_of (asked longer (Write slash_f 1048576 (0x21 ∷ []))) ≡ Err FileLong
  pub empty_far : range_of (asked longer (Write slash_f 1048576 [])) ≡ Ok (12, 0, Some 12)
  pub next : next_version longer ≡ Some 6

-- a directory `/a` with the last version
abbrev pub spent : List Node
spent = record {
  kind = Directory;
  deleted = false;
  copy = false;
  inode = 2;
  parent = 1;
  version = 4294967295;
  offset = 0;
  rsize = 0;
  writer = 1;
  seq = 1;
  size = None;
  name = Some (codes "a");
  bytes = [];
} ∷ []

pub record Spent : Type 0 where
  pub create : asked spent (Create (codes "x" ∷ [])) ≡ Err VersionsSpent
  pub make_dir : asked spent (MakeDir (codes "a" ∷ [])) ≡ Err NameTaken
  pub unmount : asked spent Unmount ≡ Err VersionsSpent

-- Nine appending writes of 192 bytes fill three sectors with live records.
abbrev pub appending : ℕ → List Wish
appending zero = []
appending (suc k) = appending k ++ (Write slash_f (192 * k) (replicate 192 97) ∷ [])

abbrev pub filled : List Node
filled = wished_from 1 [] (Create slash_f ∷ appending 9)

pub record Filled : Type 0 where
  pub weight : weight filled ≡ 2304
