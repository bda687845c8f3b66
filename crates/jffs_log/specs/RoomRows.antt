-- What cleaning makes of two volumes, smaller than any real one so that it is soon computed. One is
-- full: nine writes of 8 bytes, none over another, in sectors of 288 bytes. The other is of mostly
-- dead records.
use Rattle.std.specs.Prelude.{◌≡◌, ℕ, ◌+◌, ◌*◌, true, false, List, [], ◌∷◌, replicate, map, Some}
use Rattle.std.specs.Prelude.{codes, reverse, take, drop, length}
use Rattle.jffs_node.specs.declared.node.Node.{Node}
use Rattle.jffs_node.specs.declared.node.Kind.TheVariants.{File}
use Rattle.jffs_log.specs.Room.{heavy}
use Rattle.jffs_log.specs.Cleaning.{GcState, used, is_history, copies_have_room, oldest_records}
use Rattle.jffs_log.specs.Cleaning.{fresh_has_room, cleaned, room_made, cleanings}
use Rattle.jffs_log.specs.RoomLaws.{IsSound, live_weight}
use Rattle.jffs_log.specs.Work.{copies, copied_bytes}

-- a write to the file f, over as many bytes as the third number says
abbrev pub named_f : ℕ → ℕ → ℕ → ℕ → List ℕ → Node
named_f version offset over size bytes = record {
  kind = File;
  deleted = false;
  copy = false;
  inode = 2;
  parent = 1;
  version = version;
  offset = offset;
  rsize = over;
  writer = 1;
  seq = version;
  size = Some size;
  name = Some (codes "f");
  bytes = bytes;
}

-- eight bytes more at its end
abbrev pub appended : ℕ → Node
appended k = named_f (k + 1) (8 * k) 0 (8 * (k + 1)) (replicate 8 97)

-- the log, the oldest first
abbrev pub records : List Node
records = map appended (0 ∷ 1 ∷ 2 ∷ 3 ∷ 4 ∷ 5 ∷ 6 ∷ 7 ∷ 8 ∷ [])

-- the volume that they fill
abbrev pub full : GcState
full = record {
  past = reverse records;
  log = record {
    sectors = take 3 records ∷ take 3 (drop 3 records) ∷ drop 6 records ∷ [];
    free = 72;
    erased = 3;
  };
}

-- lengths and versions of what the log holds
abbrev pub seen : GcState → List (List (ℕ × ℕ))
seen s = map (λ nodes. map (λ n. (used (n ∷ []), n.version)) nodes) s.log.sectors

-- the volume after a whole turn of cleaning
abbrev pub after_turn : GcState
after_turn = room_made 288 72 3 full

-- what a whole turn makes of it
pub record FullVolume : Type 0 where
  pub sound : IsSound 6 288 full
  pub history : is_history full.past ≡ true
  pub weighs : live_weight full ≡ 648
  pub bound : heavy 6 288 ≡ 304
  pub copies : copies_have_room 288 (oldest_records full.log.sectors) full ≡ true
  pub turn : cleanings 288 72 3 full ≡ 3
  pub none : fresh_has_room 72 after_turn ≡ false
  pub holds : seen after_turn
      ≡ ((72, 10) ∷ (72, 11) ∷ (72, 12) ∷ []) ∷ ((72, 13) ∷ (72, 14) ∷ (72, 15) ∷ [])
      ∷ ((72, 16) ∷ (72, 17) ∷ (72, 18) ∷ []) ∷ []
  pub left : after_turn.log.erased ≡ 3

-- the second eight bytes, written over
abbrev pub rewritten : ℕ → Node
rewritten version = named_f version 8 8 16 (replicate 8 98)

-- the first eight bytes of f, the next eight, and those five times more
abbrev pub rewrites : List Node
rewrites = appended 0 ∷ appended 1 ∷ map rewritten (3 ∷ 4 ∷ 5 ∷ 6 ∷ 7 ∷ [])

-- Two sectors of 360 bytes hold them. Of each one record is live. The tail has room for a copy of
-- 72 bytes, and none for a fresh record of 88.
abbrev pub two_live : GcState
two_live = record {
  past = reverse rewrites;
  log = record {
    sectors = take 4 rewrites ∷ drop 4 rewrites ∷ [];
    free = 144;
    erased = 2;
  };
}

-- the volume once a fresh record of 88 bytes has room
abbrev pub after_two : GcState
after_two = room_made 360 88 2 two_live

-- The first cleaning copies version 1 into the tail, as 8; the second copies 7 and 8, as 9 and 10.
-- That is more than the 144 bytes that were live, and less than those with the 144 that were free.
pub record CopiedAgain : Type 0 where
  pub sound : IsSound 4 360 two_live
  pub live : live_weight two_live ≡ 144
  pub none : fresh_has_room 88 two_live ≡ false
  pub turn : cleanings 360 88 2 two_live ≡ 2
  pub first : seen (cleaned 360 two_live)
      ≡ ((72, 5) ∷ (72, 6) ∷ (72, 7) ∷ (72, 8) ∷ []) ∷ []
  pub room : fresh_has_room 88 after_two ≡ true
  pub many : length (copies two_live after_two) ≡ 3
  pub bytes : copied_bytes two_live after_two ≡ 216
  pub holds : seen after_two ≡ ((72, 9) ∷ (72, 10) ∷ []) ∷ []
