-- What cleaning leaves.
use Rattle.std.proofs.Common.{◌≡◌, inr, ℕ, ◌/◌, ◌≤◌, Bool, true, false, not, ◌||◌, cond, ltb, List, [], ◌∷◌, length, map, Some, refl, sym, ap, subst, ◌∙◌, arith}
use Rattle.std.specs.List.{list_all}
use Rattle.std.proofs.lemmas.Bool.{and_from}
use Rattle.std.proofs.lemmas.List.{length-map}
use Rattle.jffs_node.specs.declared.node.Node.{Node}
use Rattle.jffs_node.specs.Record.{record_len}
use Rattle.jffs_tree.specs.declared.wish.Cause.{Cause}
use Rattle.jffs_tree.specs.declared.wish.Cause.TheVariants as causes
use Rattle.jffs_tree.specs.declared.wish.Limits.{Limits}
use Rattle.jffs_tree.specs.declared.wish.NewNode.{NewNode}
use Rattle.jffs_inodes.specs.Held.{Entry}
use Rattle.jffs_tree.specs.State.{state_of_past}
use Rattle.jffs_inodes.specs.Inodes.{Tree}
use Rattle.jffs_tree.specs.Origin.{entry, is_live, state_in, tree_of}
use Rattle.jffs_tree.specs.Look.{holds_version}
use Rattle.jffs_tree.specs.Decide.{cleaning_copy, with}
use Rattle.jffs_tree.proofs.decisions.Copies.{cleaning_copies_are_true, state_of_tree}
use Rattle.jffs_tree.proofs.decisions.Decided.{cleaning_copies_keep_rules}
use Rattle.jffs_tree.proofs.versions.WholeTree.{live_whole}
use Rattle.jffs_log.specs.declared.log_index.LogIndex.{LogIndex}
use Rattle.jffs_log.specs.declared.room.Room.TheVariants as rooms
use Rattle.jffs_log.specs.Image.{Placed, log_sectors, records_in_first}
use Rattle.jffs_log.specs.Volume.{sectors_in}
use Rattle.jffs_log.specs.Room.{has_room, next_version, limits as limits_of}
use Rattle.jffs_log.specs.LogIndex.{IsLogIndex, HasSizes, layout_in, oldest_in}
use Rattle.jffs_log.specs.History.{IsHistory}
use Rattle.jffs_log.specs.Cleaning.{Layout, copied, with_copy, version_after, versions_fall, oldest_records, erase_oldest}
use Rattle.jffs_log.specs.RoomLaws.{Among, IsSound}
use Rattle.jffs_log.proofs.ring.Ring.{Numbered, ring_log}
use Rattle.jffs_log.proofs.scans.MountedLog.{placed_nodes}
use Rattle.jffs_log.proofs.Histories.{own}
use Rattle.jffs_log.proofs.rooms.Copied.{copies_take_over, live_present}
use Rattle.jffs_log.proofs.Parts.{versions_follow}
use Rattle.jffs_log.proofs.rooms.Bound.{erasing_keeps_sound}
use Rattle.jffs_core.specs.CoreState.{CoreState}
use Rattle.jffs_core.specs.History.{IsOwnCopy}
use Rattle.jffs_core.specs.Past.{IsPast, RepresentsWorking, is_clean_in, gc_state}
use Rattle.jffs_core.specs.Calls.{RefusedAt}
use Rattle.jffs_core.specs.Appending.{MayPut, HasPut, PutRefused}
use Rattle.jffs_core.specs.Cleaning.{HasHandled, CopyStopped, EraseStopped}
use Rattle.jffs_core.proofs.answers.Deciding.{next_is_newest}
use Rattle.jffs_core.proofs.answers.Refusing.{refused_more, works_still, put_programs}
use Rattle.jffs_core.proofs.answers.Asked.{known_version}

-- An erase that stopped is a refusal as others are.
pub erase_refused : (cause : Cause) (past : List Node) (old new : CoreState) → RepresentsWorking past old → EraseStopped cause old new → RefusedAt cause past past old new
erase_refused cause past old new known stopped =
    let d = stopped.history past known in
    subst (λ c. RefusedAt c past past old new) (sym stopped.cause_is) (refused_more (λ n. ⊥) (IsOwnCopy past) (λ n none. absurd none) causes.Device past past old new d)

-- The sectors of the log, and the oldest of them.
pub held_is : (image : List ℕ) (b : LogIndex) → IsLogIndex image b → length (layout_in image b).sectors ≡ b.held
held_is image b h =
    let sectors = sectors_in b.sectors b.sector_size image in
    length-map (log_sectors sectors) (λ (s : Numbered). s.1.reading.nodes) ∙ ap (λ (xs : List Numbered). length xs) (ring_log b.first sectors h.held h.blank h.ring).0 ∙ h.counted

first_nodes : (xs : List Numbered) → map (λ (p : Placed). p.node) (records_in_first xs) ≡ oldest_records (map (λ (s : Numbered). s.1.reading.nodes) xs)
first_nodes [] = refl
first_nodes (s ∷ xs) = placed_nodes s.0 0 s.1.reading.nodes

pub oldest_is : (image : List ℕ) (b : LogIndex) → map (λ (p : Placed). p.node) (oldest_in image b) ≡ oldest_records (layout_in image b).sectors
oldest_is image b = first_nodes (log_sectors (sectors_in b.sectors b.sector_size image))

-- The oldest sector was erased.
pub erased_past : (past : List Node) (old new : List ℕ) (b d : LogIndex) (tree : Tree) (limits : Limits) (clean : Bool) → IsPast past old b tree limits clean → IsHistory new d past → IsLogIndex new d → layout_in new d ≡ erase_oldest (layout_in old b)
    → is_clean_in new d ≡ is_clean_in old b → HasSizes b.sectors b.sector_size d → 2 ≤ length (layout_in old b).sectors → IsPast past new d tree limits clean
erased_past past old new b d tree limits clean h history told log same sizes two = record {
  history = history;
  index = told;
  sound =
      let sound = erasing_keeps_sound b.sectors b.sector_size (record { past = past; log = layout_in old b }) h.sound two in
      subst (λ k. IsSound d.sectors k (record { past = past; log = layout_in new d })) sizes.1
      (subst (λ k. IsSound k b.sector_size (record { past = past; log = layout_in new d })) sizes.0
      (subst (λ (l : Layout). IsSound b.sectors b.sector_size (record { past = past; log = l })) (sym log) sound));
  tree_is = h.tree_is;
  limits_are = h.limits_are ∙ ap (λ k. limits_of k past) sizes.1;
  clean_is = h.clean_is ∙ sym same;
}

-- A record at its turn.
pub is_live_in : (past : List Node) (tree : Tree) (source : Node) → tree ≡ tree_of past → versions_fall past ≡ true → Among source past → holds_version tree source.inode source.version ≡ is_live past source.version
is_live_in past tree source is falls among = live_whole past tree source.version source.inode is (own past source falls among)

-- what the tree says of a record of the history
pub lives_by_tree : (past : List Node) (c : CoreState) (source : Node) → RepresentsWorking past c → Among source past → holds_version c.tree source.inode source.version ≡ true → is_live past source.version ≡ true
lives_by_tree past c source known among held = sym (is_live_in past c.tree source known.tree_is known.history.rules.falls among) ∙ held

pub skipped : (past : List Node) (source : Node) (c : CoreState) → c.failed ≡ false → RepresentsWorking past c → is_live past source.version ≡ false → HasHandled past source false c c
skipped past source c works known dead = record {
  after = past;
  added = record { copies = []; true_copies = tt; joined = refl };
  stands = works_still past c works known;
  turn = ap (λ t. cond t (with_copy c.index.sector_size source (gc_state past c)) (gc_state past c)) (sym dead);
  room = ap (λ t. not t || has_room rooms.Copy (record_len (copied past source)) (layout_in c.image c.index).free (layout_in c.image c.index).erased) dead;
  counted = omega arith;
}

-- The copy of a live record, as the core inside makes it.
module _ (past : List Node) (c inside : CoreState) (source node : Node) (copy : NewNode) (version : ℕ) (known : RepresentsWorking past c) (among : Among source past) (held : holds_version c.tree source.inode source.version ≡ true)
    (same : inside ≡ c) (made : copy ≡ cleaning_copy (state_in inside.tree) source) (given : inside.limits.next_version ≡ Some version) (is : node ≡ with copy version 0 0) (short : record_len source ≤ c.index.sector_size / 4) where
  live : is_live past source.version ≡ true
  live = lives_by_tree past c source known among held

  next : next_version past ≡ Some version
  next = known_version past c (Some version) known (ap (λ (v : CoreState). v.limits.next_version) (sym same) ∙ given)

  is_next : next_version past ≡ Some (version_after past)
  is_next = next ∙ ap (λ (k : ℕ). Some k) (sym (versions_follow past version next))

  is_copy : node ≡ copied past source
  is_copy =
      let state : state_in inside.tree ≡ state_of_past past = ap (λ (v : CoreState). state_in v.tree) same ∙ ap state_in known.tree_is ∙ state_of_tree past (state_of_past past) in
      is ∙ ap (λ (n : NewNode). with n version 0 0) (made ∙ ap (λ s. cleaning_copy s source) state) ∙ ap (λ k. with (cleaning_copy (state_of_past past) source) k 0 0) (sym (versions_follow past version next))

  there : (e : Entry) × (entry past source.inode ≡ Some e)
  there = live_present past source known.sound.history among live

  may_put : MayPut past c.index.sector_size rooms.Copy (copied past source)
  may_put =
      let v = next_is_newest past (version_after past) known.history.rules.falls is_next in
      let keeps = cleaning_copies_keep_rules past source there.0 (version_after past) 0 0 known.history.rules.lawful there.1 (record { first = v.1; version_fits = v.2; writer_fits = omega arith; seq_fits = omega arith }) in
      let less = (copies_take_over past source known.sound.history among live).shorter in
      record {
        rules = record { lawful = keeps.0; falls = and_from (list_all (λ m. ltb m.version (version_after past)) past) (versions_fall past) v.0 known.history.rules.falls };
        short = omega arith;
        suits = refl;
        follows = inr (inr (there.0, cleaning_copies_are_true past source there.0 (version_after past) there.1));
        next = is_next;
      }

  pub copy_may : MayPut past c.index.sector_size rooms.Copy node
  copy_may = subst (MayPut past c.index.sector_size rooms.Copy) (sym is_copy) may_put

  is_own : IsOwnCopy past (copied past source)
  is_own = (refl, refl, is_next, (there.0, cleaning_copies_are_true past source there.0 (version_after past) there.1))

  pub copy_put : (new : CoreState) → HasPut rooms.Copy node c new → HasHandled past source true c new
  copy_put new h =
      let h2 : HasPut rooms.Copy (copied past source) c new = subst (λ m. HasPut rooms.Copy m c new) is_copy h in
      let s = gc_state past c in
      let log = layout_in c.image c.index in
      record {
        after = copied past source ∷ past;
        added = record {
          copies = copied past source ∷ [];
          true_copies = (tt, is_own);
          joined = refl;
        };
        stands = record { works = h2.works; faults = h2.faults; programs = put_programs (copied past source) past c new h2.programs; represents = h2.represents past known may_put };
        turn = (λ i. record { past = copied past source ∷ past; log = h2.log i }) ∙ ap (λ t. cond t (with_copy c.index.sector_size source s) s) (sym live);
        room = ap (λ t. not t || has_room rooms.Copy (record_len (copied past source)) log.free log.erased) live ∙ h2.had_room;
        counted = omega arith;
      }

  pub copy_refused : (new : CoreState) (cause : Cause) → PutRefused rooms.Copy node cause c new → CopyStopped cause past source c new
  copy_refused new cause h =
      let h2 : PutRefused rooms.Copy (copied past source) cause c new = subst (λ m. PutRefused rooms.Copy m cause c new) is_copy h in
      let log = layout_in c.image c.index in
      record {
        live = live;
        stands = refused_more (λ m. m ≡ copied past source) (IsOwnCopy past) (λ m same. subst (IsOwnCopy past) (sym same) is_own) cause past past c new (h2.stands past known may_put);
        no_room = λ e. ap (λ t. not t || has_room rooms.Copy (record_len (copied past source)) log.free log.erased) live ∙ h2.no_room e;
        version = λ e. (version_after past, is_next);
      }

-- The device was read, and nothing else is changed.
pub read_past : (past : List Node) (old new : List ℕ) (b d : LogIndex) (tree : Tree) (limits : Limits) (clean : Bool) → new ≡ old → d ≡ b → IsPast past old b tree limits clean → IsPast past new d tree limits clean
read_past past old new b d tree limits clean same_image same_book h =
    subst (λ (xs : List ℕ). IsPast past xs d tree limits clean) (sym same_image) (subst (λ (x : LogIndex). IsPast past old x tree limits clean) (sym same_book) h)
