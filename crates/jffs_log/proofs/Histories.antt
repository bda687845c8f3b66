-- A history stays lawful, and a scan finds it.
use Rattle.std.proofs.Common.{◌≡◌, ◌⊎◌, ℕ, Bool, true, false, not, cond, ltb, List, [], ◌∷◌, ◌++◌, reverse, Result, Ok, Err, inl, inr, refl, sym, ap, subst, ◌∙◌, arith, append_assoc}
use Rattle.std.specs.List.{list_all, AllByRecursion}
use Rattle.std.proofs.lemmas.Bool.{and_parts, and_from, ltb-true}
use Rattle.std.proofs.lemmas.List.{reverse-append}
use Rattle.std.proofs.lemmas.List.Folds.{list_all-append}
use Rattle.jffs_node.specs.declared.node.Node.{Node}
use Rattle.jffs_node.proofs.Each.{each_append}
use Rattle.jffs_tree.specs.Origin.{is_live, tree_of}
use Rattle.jffs_tree.specs.Check.{makes_tree}
use Rattle.jffs_tree.specs.Laws.{NoneLive}
use Rattle.jffs_tree.specs.Look.{IsVersionOf}
use Rattle.jffs_tree.proofs.states.Rules.{erasing_keeps_rules}
use Rattle.jffs_tree.proofs.versions.WholeTree.{live_whole}
use Rattle.jffs_log.specs.declared.scanning.ScanWhy.{ScanWhy}
use Rattle.jffs_log.specs.declared.scanning.ScanWhy.TheVariants.{BadOrder, BadTree}
use Rattle.jffs_log.specs.Image.{Placed, nodes_of, past_of, is_clean}
use Rattle.jffs_log.specs.Volume.{sectors_in}
use Rattle.jffs_log.specs.Live.{IsReadable, live_log}
use Rattle.jffs_log.specs.Scan.{Scanned, versions_rise}
use Rattle.jffs_log.specs.Cleaning.{versions_fall}
use Rattle.jffs_log.specs.RoomLaws.{Among}
use Rattle.jffs_log.specs.declared.log_index.LogIndex.{LogIndex}
use Rattle.jffs_log.specs.LogIndex.{IsLogIndex, HasSizes, IsCut, log_in, lives_in}
use Rattle.jffs_log.proofs.append.Appended.{described_readable}
use Rattle.jffs_log.specs.History.{KeepsRules, IsLawfulHistory, IsHistory, HistoriesAreScanned, AppendsKeepHistory, CutsKeepHistory, ErasingKeepsHistory}
use Rattle.jffs_log.proofs.scans.MountedLog.{reversed, nodes_mapped, among_left, among_reversed}
use Rattle.jffs_log.proofs.rooms.Copied.{all_test}
use Rattle.jffs_log.proofs.ring.Sectors.{all_among}
use Rattle.jffs_log.proofs.ring.Live.{scan_reads}
use Rattle.jffs_log.proofs.Staying.{all_stay_dead}

-- Parts of a history.
falls_part : (xs ys : List Node) → versions_fall (xs ++ ys) ≡ true → versions_fall ys ≡ true
falls_part [] ys h = h
falls_part (x ∷ xs) ys h = falls_part xs ys (and_parts (list_all (λ m. ltb m.version x.version) (xs ++ ys)) (versions_fall (xs ++ ys)) h).1

all_part : (p : Node → Bool) (xs ys : List Node) → list_all p (xs ++ ys) ≡ true → list_all p ys ≡ true
all_part p xs ys h = (and_parts (list_all p xs) (list_all p ys) (sym (list_all-append p xs ys) ∙ h)).1

pub turned_round : (n : Node) (nodes gone : List Node) → reverse (n ∷ nodes) ++ gone ≡ reverse nodes ++ (n ∷ gone)
turned_round n nodes gone = ap (λ (xs : List Node). xs ++ gone) (reversed n nodes) ∙ append_assoc (reverse nodes) (n ∷ []) gone

rises : (nodes gone : List Node) → versions_fall (reverse nodes ++ gone) ≡ true → versions_rise nodes ≡ true
rises [] gone h = refl
rises (n ∷ []) gone h = refl
rises (n ∷ m ∷ nodes) gone h =
    let later : versions_fall (reverse (m ∷ nodes) ++ (n ∷ gone)) ≡ true = ap versions_fall (sym (turned_round n (m ∷ nodes) gone)) ∙ h in
    let both : versions_fall (m ∷ n ∷ gone) ≡ true = falls_part (reverse nodes) (m ∷ n ∷ gone) (ap versions_fall (sym (turned_round m nodes (n ∷ gone))) ∙ later) in
    let head = (and_parts (list_all (λ k. ltb k.version m.version) (n ∷ gone)) (versions_fall (n ∷ gone)) both).0 in
    and_from (ltb n.version m.version) (versions_rise (m ∷ nodes)) (and_parts (ltb n.version m.version) (list_all (λ k. ltb k.version m.version) gone) head).0 (rises (m ∷ nodes) (n ∷ gone) later)

-- What a scan finds.
answered : (rise tree : Bool) (s t : Scanned) → rise ≡ true → tree ≡ true → s ≡ t → ◌≡◌ {A = Result Scanned ScanWhy} (cond (not rise) (Err BadOrder) (cond (not tree) (Err BadTree) (Ok s))) (Ok t)
answered true true s t h k e = ap (λ (x : Scanned). Ok x) e
answered true false s t h k e = cc
answered false _ s t h k e = cc

pub histories_are_scanned : HistoriesAreScanned
histories_are_scanned count len image past h =
    let sectors = sectors_in count len image in
    let log = live_log count len image in
    let rules : makes_tree (past_of log ++ h.gone) ≡ true = ap makes_tree (sym h.front) ∙ h.rules.lawful.tree in
    let dead = subst (λ (xs : List Node). NoneLive xs h.gone) h.front h.dead in
    let same = erasing_keeps_rules (past_of log) h.gone dead rules in
    let tree : tree_of (past_of log) ≡ tree_of past = same.0 ∙ ap tree_of (sym h.front) in
    scan_reads count len image h.sizes h.readable
    ∙ answered (versions_rise (nodes_of log)) (makes_tree (past_of log)) _ _ (rises (nodes_of log) h.gone (ap versions_fall (sym h.front) ∙ h.rules.falls)) same.1
    (λ i. record { log = log; tree = tree i; clean = is_clean sectors })

-- One node more.
past_more : (log : List Placed) (p : Placed) → past_of (log ++ p ∷ []) ≡ p.node ∷ past_of log
past_more log p = ap (λ (xs : List Node). reverse xs) (nodes_mapped log (p ∷ [])) ∙ reverse-append (nodes_of log) (p.node ∷ [])

pub appends_keep_history : AppendsKeepHistory
appends_keep_history count len old new past p h rules readable log =
    let older = (and_parts (list_all (λ m. ltb m.version p.node.version) past) (versions_fall past) rules.falls).0 in
    record {
      sizes = h.sizes;
      readable = readable;
      rules = rules;
      gone = h.gone;
      front =
          ap (λ (xs : List Node). p.node ∷ xs) h.front
          ∙ ap (λ (xs : List Node). xs ++ h.gone) (sym (ap past_of log ∙ past_more (live_log count len old) p));
      dead = all_stay_dead p.node past h.gone (all_part (λ m. ltb m.version p.node.version) (past_of (live_log count len old)) h.gone (ap (list_all (λ m. ltb m.version p.node.version)) (sym h.front) ∙ older)) h.dead;
    }

same_log : (count len : ℕ) (old new : List ℕ) (past : List Node) → IsLawfulHistory count len old past → IsReadable (sectors_in count len new) → live_log count len new ≡ live_log count len old → IsLawfulHistory count len new past
same_log count len old new past h readable log = record {
  sizes = h.sizes;
  readable = readable;
  rules = h.rules;
  gone = h.gone;
  front = h.front ∙ ap (λ (xs : List Placed). past_of xs ++ h.gone) (sym log);
  dead = h.dead;
}

pub cuts_keep_history : CutsKeepHistory
cuts_keep_history b old new past p h rules cut = elim cut.log [
  | inl same ↦ inl (same_log b.sectors b.sector_size old new past h cut.readable same)
  | inr more ↦ inr (appends_keep_history b.sectors b.sector_size old new past p h rules cut.readable more)
]

-- The oldest records are erased.
pub own : (past : List Node) (m : Node) → versions_fall past ≡ true → Among m past → IsVersionOf past m.version m.inode
own [] m h a = absurd a
own (n ∷ past) m h (inl same) =
    let parts = and_parts (list_all (λ k. ltb k.version n.version) past) (versions_fall past) h in
    (λ e. ap (λ (k : Node). k.inode) (sym same), none_other past parts.0)
  where
    none_other : (nodes : List Node) → list_all (λ k. ltb k.version n.version) nodes ≡ true → IsVersionOf nodes m.version m.inode
    none_other [] k = tt
    none_other (x ∷ nodes) k =
        let parts = and_parts (ltb x.version n.version) (list_all (λ y. ltb y.version n.version) nodes) k in
        let less = ltb-true x.version n.version parts.0 in
        let number : m.version ≡ n.version = ap (λ (y : Node). y.version) same in
        (λ e. absurd (omega arith), none_other nodes parts.1)
own (n ∷ past) m h (inr later) =
    let parts = and_parts (list_all (λ k. ltb k.version n.version) past) (versions_fall past) h in
    let less = ltb-true m.version n.version (all_test (λ k. ltb k.version n.version) past m parts.0 later) in
    (λ e. absurd (omega arith), own past m parts.1 later)

pub lives_as : (past : List Node) (p : Placed) → versions_fall past ≡ true → Among p.node past → lives_in (tree_of past) p ≡ is_live past p.node.version
lives_as past p falls a = live_whole past (tree_of past) p.node.version p.node.inode refl (own past p.node falls a)

-- Records are dead in the tree of a history exactly where they are dead in the history.
pub dead_as : (past : List Node) (ps : List Placed) → versions_fall past ≡ true → AllByRecursion (λ n. Among n past) (nodes_of ps)
    → (AllByRecursion (λ p. lives_in (tree_of past) p ≡ false) ps → NoneLive past (nodes_of ps)) × (NoneLive past (nodes_of ps) → AllByRecursion (λ p. lives_in (tree_of past) p ≡ false) ps)
dead_as past [] falls among = ((λ h. tt), (λ h. tt))
dead_as past (p ∷ ps) falls among =
    let one = lives_as past p falls among.0 in
    let rest = dead_as past ps falls among.1 in
    ((λ h. (sym one ∙ h.0, rest.0 h.1)), (λ h. (one ∙ h.0, rest.1 h.1)))

pub all_turned : (P : Node → Type 0) (nodes : List Node) → AllByRecursion P nodes → AllByRecursion P (reverse nodes)
all_turned P [] h = tt
all_turned P (n ∷ nodes) h = subst (AllByRecursion P) (sym (reversed n nodes)) (each_append P (reverse nodes) (n ∷ []) (all_turned P nodes h.1) (h.0, tt))

pub erasing_keeps_history : ErasingKeepsHistory
erasing_keeps_history count len old new past erased h readable log dead =
    let left = live_log count len new in
    let split_past : past_of (live_log count len old) ≡ past_of left ++ reverse (nodes_of erased) =
    ap past_of log ∙ ap (λ (xs : List Node). reverse xs) (nodes_mapped erased left) ∙ reverse-append (nodes_of erased) (nodes_of left) in
    let among : (n : Node) → Among n (nodes_of erased) → Among n past =
    λ n a. subst (Among n) (sym h.front) (among_left n (past_of (live_log count len old)) h.gone (among_reversed n (nodes_of (live_log count len old))
    (subst (Among n) (sym (ap nodes_of log ∙ nodes_mapped erased left)) (among_left n (nodes_of erased) (nodes_of left) a)))) in
    let P : Node → Type 0 = λ n. is_live past n.version ≡ false in
    let known = all_among (λ m. Among m past) (nodes_of erased) among in
    record {
      sizes = h.sizes;
      readable = readable;
      rules = h.rules;
      gone = reverse (nodes_of erased) ++ h.gone;
      front = h.front ∙ ap (λ (xs : List Node). xs ++ h.gone) split_past ∙ append_assoc (past_of left) (reverse (nodes_of erased)) h.gone;
      dead = each_append P (reverse (nodes_of erased)) h.gone (all_turned P (nodes_of erased) ((dead_as past erased h.rules.falls known).0 dead)) h.dead;
    }

-- The history after an append, by the index.
sized : (ob nb : LogIndex) (image : List ℕ) (past : List Node) → HasSizes ob.sectors ob.sector_size nb → IsHistory image ob past → IsHistory image nb past
sized ob nb image past sizes h =
    subst (λ k. IsLawfulHistory k nb.sector_size image past) sizes.0 (subst (λ k. IsLawfulHistory ob.sectors k image past) sizes.1 h)

pub index_appends : (ob nb : LogIndex) (old new : List ℕ) (past : List Node) (p : Placed) → HasSizes ob.sectors ob.sector_size nb → IsHistory old ob past → KeepsRules (p.node ∷ past)
    → IsLogIndex new nb → log_in new nb ≡ log_in old ob ++ p ∷ [] → IsHistory new nb (p.node ∷ past)
index_appends ob nb old new past p sizes h rules index log =
    let same : log_in old ob ≡ log_in old nb = ap (λ k. live_log k ob.sector_size old) sizes.0 ∙ ap (λ k. live_log nb.sectors k old) sizes.1 in
    appends_keep_history nb.sectors nb.sector_size old new past p (sized ob nb old past sizes h) rules
    (described_readable nb.sectors nb.sector_size new nb.first nb.held nb.tail nb.used nb.free nb.records.items index)
    (log ∙ ap (λ (xs : List Placed). xs ++ p ∷ []) same)

pub index_cuts : (ob nb : LogIndex) (old new : List ℕ) (past : List Node) (p : Placed) → HasSizes ob.sectors ob.sector_size nb → IsHistory old ob past → KeepsRules (p.node ∷ past)
    → IsCut ob old new p → IsHistory new nb past ⊎ IsHistory new nb (p.node ∷ past)
index_cuts ob nb old new past p sizes h rules cut = elim (cuts_keep_history ob old new past p h rules cut) [
  | inl same ↦ inl (sized ob nb new past sizes same)
  | inr more ↦ inr (sized ob nb new (p.node ∷ past) sizes more)
]
