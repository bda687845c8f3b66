-- A scan of a core's image.
use Rattle.std.proofs.Common.{◌≡◌, ◌⊎◌, inl, inr, ⊎_elim, ℕ, ◌≤◌, Bool, true, ◌||◌, cond, List, [], ◌∷◌, ◌++◌, length, filter, Ok, refl, sym, ap, subst, ◌∙◌, arith}
use Rattle.std.specs.List.{list_any}
use Rattle.std.proofs.lemmas.Bool.{cases_Bool}
use Rattle.jffs_node.specs.declared.node.Node.{Node}
use Rattle.jffs_tree.specs.State.{State, apply, state_of_past}
use Rattle.jffs_tree.specs.Origin.{tree_of, state_in}
use Rattle.jffs_tree.proofs.states.TrueCopy.{true_copy_keeps_state}
use Rattle.jffs_tree.proofs.decisions.Copies.{state_of_tree}
use Rattle.jffs_log.specs.Image.{Sector, erased_count, is_clean}
use Rattle.jffs_log.specs.Volume.{split, sectors_in}
use Rattle.jffs_log.specs.Scan.{Scanned, scan}
use Rattle.jffs_log.specs.Live.{live_log}
use Rattle.jffs_log.specs.History.{IsHistory}
use Rattle.jffs_log.specs.Heal.{scan_in}
use Rattle.jffs_log.specs.Begun.{FindsTree}
use Rattle.jffs_log.proofs.Histories.{histories_are_scanned}
use Rattle.jffs_log.proofs.begun.Healed.{erases_are_healed, lawful_found}
use Rattle.jffs_core.specs.CoreState.{CoreState}
use Rattle.jffs_core.specs.History.{IsOwnCopy, Grows, MayFollow, contents}
use Rattle.jffs_core.specs.Step.{IsNodeFor}
use Rattle.jffs_core.specs.Past.{ScansFindContents, FailedScansFind, HasFailed, IsOpened, FindsTreeOf}
use Rattle.jffs_core.specs.Answering.{turn_of}
use Rattle.jffs_core.specs.Erases.{OneIsErased}
use Rattle.jffs_core.specs.Calls.{FailsIn}
use Rattle.jffs_core.specs.Finding.{FindsWith, DeviceScansFind, StoppedScansFind}
use Rattle.jffs_core.proofs.answers.Contents.{contents_are_state}
use Rattle.jffs_core.proofs.answers.Deciding.{copies_state}
use Rattle.jffs_core.proofs.answers.Refusing.{failed_more}

pub scans_find : ScansFindContents
scans_find mounted past c h works =
    let k = h.stands.working works in
    let g = h.grown in
    record {
      scanned = record { log = live_log c.index.sectors c.index.sector_size c.image; tree = tree_of past; clean = is_clean (sectors_in c.index.sectors c.index.sector_size c.image) };
      found = histories_are_scanned c.index.sectors c.index.sector_size c.image past k.history;
      tree_is = sym k.tree_is;
      clean_is = sym k.clean_is;
      added = g.added;
      since = g.joined;
      state_is = state_of_tree past (state_of_past past) ∙ ap state_of_past g.joined ∙ sym (contents_are_state mounted g.added g.grown);
    }

-- What a scan finds in the image of an opening, where the core failed.
pub opened_finds : (More : Node → Type 0) (past : List Node) (c : CoreState) (image : List ℕ) → HasFailed More past c → IsOpened c image → FindsTreeOf More past c image
opened_finds More past c image h (inl as_left) =
    let seen : (found : List Node) → IsHistory c.image c.index found → FindsTree (tree_of found) c.index.sectors c.index.sector_size image =
    λ found k. record {
      scanned = _;
      found = ap (λ (xs : List ℕ). scan_in c.index.sectors c.index.sector_size xs) as_left.1 ∙ histories_are_scanned c.index.sectors c.index.sector_size c.image found k;
      tree_is = refl;
    } in
    elim (h.left as_left.0) [
      | inl same ↦ inl (seen past same)
      | inr more ↦ inr (more.0, more.1, seen (more.0 ∷ past) more.2)
    ]
opened_finds More past c image h (inr once_healed) =
    subst (FindsTreeOf More past c) (sym once_healed.1) (
    elim (cases_Bool c.erase_failed) [
      | inl failed ↦
          let e = h.erasing failed in
          inl (erases_are_healed c.index.sectors c.index.sector_size e.was c.image past c.index.first e.may e.left (once_healed.0 failed))
      | inr intact ↦ elim (h.left intact) [
        | inl same ↦ inl (lawful_found c.index.sectors c.index.sector_size c.image past same)
        | inr more ↦ inr (more.0, more.1, lawful_found c.index.sectors c.index.sector_size c.image (more.0 ∷ past) more.2)
      ]
    ])

pub failed_scans_find : FailedScansFind
failed_scans_find mounted past c image h fails opened = opened_finds (MayFollow past) past c image (h.stands.broken fails) opened

-- After a failure, by the node in hand.
pub failed_found : (One : Node → Type 0) (past : List Node) (c : CoreState) (image : List ℕ) → HasFailed (λ n. IsOwnCopy past n ⊎ One n) past c → IsOpened c image
    → (scanned : Scanned) × (scan c.index.sector_size (split c.index.sectors c.index.sector_size image) ≡ Ok scanned)
    × ((state_in scanned.tree ≡ state_of_past past) ⊎ ((n : Node) × One n × (state_in scanned.tree ≡ apply (state_of_past past) n)))
failed_found One past c image h opened = elim (opened_finds (λ n. IsOwnCopy past n ⊎ One n) past c image h opened) [
  | inl same ↦ (same.scanned, same.found, inl (ap state_in same.tree_is ∙ state_of_tree past (state_of_past past)))
  | inr more ↦
      let n = more.0 in
      let is = ap state_in more.2.tree_is ∙ state_of_tree (n ∷ past) (state_of_past (n ∷ past)) in (
        more.2.scanned,
        more.2.found,
        elim more.1 [
          | inl copy ↦ inl (is ∙ true_copy_keeps_state past n copy.3.0 copy.3.1)
          | inr one ↦ inr (n, one, is)
        ],
      )
]

-- the same in words of the contents of a history with that state
found_with : (One : Node → Type 0) (mounted past before : List Node) (c : CoreState) (image : List ℕ) → Grows mounted before → state_of_past past ≡ state_of_past before → HasFailed (λ n. IsOwnCopy past n ⊎ One n) past c → IsOpened c image
    → FindsWith One mounted before c.index.sectors c.index.sector_size image
found_with One mounted past before c image g same h opened =
    let f = failed_found One past c image h opened in
    let state : state_of_past past ≡ contents mounted g.added = same ∙ ap state_of_past g.joined ∙ sym (contents_are_state mounted g.added g.grown) in
    record {
      scanned = f.0;
      found = f.1;
      added = g.added;
      since = g.joined;
      state_is = subst (λ (s : State). (state_in f.0.tree ≡ s) ⊎ ((n : Node) × One n × (state_in f.0.tree ≡ apply s n))) state f.2;
    }

pub failed_finds_with : (One : Node → Type 0) (mounted past : List Node) (c : CoreState) (image : List ℕ) → Grows mounted past → HasFailed (λ n. IsOwnCopy past n ⊎ One n) past c → IsOpened c image
    → FindsWith One mounted past c.index.sectors c.index.sector_size image
failed_finds_with One mounted past c image g h opened = found_with One mounted past past c image g refl h opened

pub device_scans_find : DeviceScansFind
device_scans_find mounted past old new q image s h opened =
    let step = h.step in
    let same : state_of_past h.after ≡ state_of_past past =
    ap state_of_past step.joined ∙ ap (λ (own : List Node). state_of_past (own ++ step.copies ++ past)) step.outcome.1 ∙ copies_state past step.copies step.copies_are_true in
    found_with (IsNodeFor (turn_of past old new) q h.after) mounted h.after past new image s.grown same (h.in_hand refl) opened

pub stopped_scans_find : StoppedScansFind
stopped_scans_find mounted past old new image s h opened =
    let copies = h.added in
    let same : state_of_past h.after ≡ state_of_past past = ap state_of_past copies.joined ∙ copies_state past copies.copies copies.true_copies in
    let fails : FailsIn (IsOwnCopy h.after) past h.after old new = h.why.1 in
    found_with (λ n. ⊥) mounted h.after past new image s.grown same (failed_more (IsOwnCopy h.after) (λ n. IsOwnCopy h.after n ⊎ ⊥) (λ n own. inl own) h.after new fails.left) opened

-- One of these sectors is erased.
any_counted : (sectors : List Sector) → list_any (λ (s : Sector). s.erased) sectors ≡ true → 1 ≤ erased_count sectors
any_counted [] h = cc
any_counted (x ∷ sectors) h = ⊎_elim
    (λ here. subst (λ (t : Bool). 1 ≤ length (cond t (x ∷ filter (λ (s : Sector). s.erased) sectors) (filter (λ (s : Sector). s.erased) sectors))) (sym here) (omega arith))
    (λ other.
    let later = any_counted sectors (ap (λ (t : Bool). t || list_any (λ (s : Sector). s.erased) sectors) (sym other) ∙ h) in
    subst (λ (t : Bool). 1 ≤ length (cond t (x ∷ filter (λ (s : Sector). s.erased) sectors) (filter (λ (s : Sector). s.erased) sectors))) (sym other) later)
    (cases_Bool x.erased)

pub one_is_erased : OneIsErased
one_is_erased mounted past c h works =
    let k = h.stands.working works in
    any_counted (sectors_in c.index.sectors c.index.sector_size c.image) k.history.readable.erased
