-- The live records of a log weigh what the live nodes of its history weigh, and as many live in a
-- sector as the history has live there.
use Rattle.std.proofs.Common.{◌≡◌, ℕ, ◌+◌, suc, Bool, true, false, cond, ◌&&◌, eqb, List, [], ◌∷◌, length, filter, sum_by, inl, inr, refl, sym, ap, subst, ◌∙◌}
use Rattle.std.proofs.lemmas.List.Sums.{sum_by-cons}
use Rattle.jffs_node.specs.declared.node.Node.{Node}
use Rattle.jffs_node.specs.Record.{record_len}
use Rattle.jffs_tree.specs.Origin.{is_live, tree_of}
use Rattle.jffs_log.specs.Image.{Placed, nodes_of, past_of}
use Rattle.jffs_log.specs.Live.{live_log}
use Rattle.jffs_log.specs.Room.{weight}
use Rattle.jffs_log.specs.Cleaning.{versions_fall, live_used}
use Rattle.jffs_log.specs.RoomLaws.{Among}
use Rattle.jffs_log.specs.LogIndex.{lives_in, weight_in, live_in, live_records_in}
use Rattle.jffs_log.specs.History.{IsLawfulHistory}
use Rattle.jffs_log.proofs.rooms.Weight.{kept_front}
use Rattle.jffs_log.proofs.Parts.{live_reversed}
use Rattle.jffs_log.proofs.scans.MountedLog.{among_left, among_reversed}
use Rattle.jffs_log.proofs.Histories.{lives_as}

log_weight : (past : List Node) (log : List Placed) → versions_fall past ≡ true → ((n : Node) → Among n (nodes_of log) → Among n past) → weight_in (tree_of past) log ≡ live_used past (nodes_of log)
log_weight past [] falls among = refl
log_weight past (p ∷ log) falls among =
    let later = log_weight past log falls (λ n a. among n (inr a)) in
    let rest = filter (lives_in (tree_of past)) log in
    let others = filter (λ (n : Node). is_live past n.version) (nodes_of log) in
    let len : Placed → ℕ = λ q. record_len q.node in
    ap (λ t. sum_by len (cond t (p ∷ rest) rest)) (lives_as past p falls (among p.node (inl refl)))
    ∙ elim (is_live past p.node.version) as (λ t. sum_by len (cond t (p ∷ rest) rest) ≡ sum_by record_len (cond t (p.node ∷ others) others)) [
      | true ↦ sum_by-cons len p rest ∙ ap (λ s. record_len p.node + s) later ∙ sym (sum_by-cons record_len p.node others)
      | false ↦ later
    ]

-- the records of the log are of the history
log_among : (count len : ℕ) (image : List ℕ) (past : List Node) → IsLawfulHistory count len image past → (n : Node) → Among n (nodes_of (live_log count len image)) → Among n past
log_among count len image past h n a =
    let log = live_log count len image in
    subst (Among n) (sym h.front) (among_left n (past_of log) h.gone (among_reversed n (nodes_of log) a))

pub history_weight : (count len : ℕ) (image : List ℕ) (past : List Node) → IsLawfulHistory count len image past → weight_in (tree_of past) (live_log count len image) ≡ weight past
history_weight count len image past h =
    let log = live_log count len image in
    let P : Node → Bool = λ n. is_live past n.version in
    log_weight past log h.rules.falls (log_among count len image past h)
    ∙ sym (live_reversed past (nodes_of log))
    ∙ sym (ap (λ (xs : List Node). sum_by record_len (filter P xs)) h.front ∙ ap (sum_by record_len) (kept_front P (past_of log) h.gone h.dead))

log_count : (sector : ℕ) (past : List Node) (log : List Placed) → versions_fall past ≡ true → ((n : Node) → Among n (nodes_of log) → Among n past) → live_in sector (tree_of past) log ≡ live_records_in sector past log
log_count sector past [] falls among = refl
log_count sector past (p ∷ log) falls among =
    let later = log_count sector past log falls (λ n a. among n (inr a)) in
    let rest = filter (λ (q : Placed). eqb q.sector sector && lives_in (tree_of past) q) log in
    let others = filter (λ (q : Placed). eqb q.sector sector && is_live past q.node.version) log in
    ap (λ t. length (cond (eqb p.sector sector && t) (p ∷ rest) rest)) (lives_as past p falls (among p.node (inl refl)))
    ∙ elim (eqb p.sector sector && is_live past p.node.version) as (λ t. length (cond t (p ∷ rest) rest) ≡ length (cond t (p ∷ others) others)) [
      | true ↦ ap (λ n. suc n) later
      | false ↦ later
    ]

pub history_count : (count len : ℕ) (image : List ℕ) (past : List Node) (sector : ℕ) → IsLawfulHistory count len image past
    → live_in sector (tree_of past) (live_log count len image) ≡ live_records_in sector past (live_log count len image)
history_count count len image past sector h = log_count sector past (live_log count len image) h.rules.falls (log_among count len image past h)
