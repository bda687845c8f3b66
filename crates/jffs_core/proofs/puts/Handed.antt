-- What a call of the log leaves of the core that made it.
use Rattle.std.proofs.Common.{◌≡◌, ◌*◌, ◌<◌, ◌≤◌, ℕ, inl, Bool, false, List, length, sym, ap, subst, ◌∙◌, Result, Ok, Err, OnOk, IfErr}
use Rattle.std.proofs.lemmas.Bool.{both_ways}
use Rattle.jffs_node.specs.declared.node.Node.{Node}
use Rattle.jffs_inodes.specs.Inodes.{Tree}
use Rattle.jffs_tree.specs.declared.wish.Limits.{Limits}
use Rattle.jffs_tree.specs.declared.wish.Cause.{Cause}
use Rattle.jffs_tree.specs.declared.wish.Cause.TheVariants as causes
use Rattle.jffs_flash.specs.Device.{Device}
use Rattle.jffs_flash.specs.Image.{IsHalfErased}
use Rattle.jffs_log.specs.declared.log_index.LogIndex.{LogIndex}
use Rattle.jffs_log.specs.LogIndex.{layout_in, HasSizes}
use Rattle.jffs_log.specs.Erasable.{MayErase}
use Rattle.jffs_log.specs.LogState.{LogState, ErasedOldest, EraseFailed, ReadFailed, ReadStopped, SameButReads}
use Rattle.jffs_core.specs.CoreState.{CoreState}
use Rattle.jffs_core.specs.History.{IsOwnCopy}
use Rattle.jffs_core.specs.Past.{IsPast, HasFailed, HasLogIndex, WasErasing}
use Rattle.jffs_core.specs.Calls.{RefusedAt}
use Rattle.jffs_core.proofs.scans.Mounting.{clean_ends}
use Rattle.jffs_core.proofs.answers.Refusing.{same_programs}
use Rattle.jffs_core.proofs.room.Sweeping.{erased_past, read_past}

-- The core knows the same history after the oldest sector was erased.
pub erased_left : (past : List Node) (old new : LogState) (tree : Tree) (limits : Limits) (clean : Bool) → IsPast past old.device.image old.index tree limits clean
    → 2 ≤ length (layout_in old.device.image old.index).sectors → ErasedOldest tree old new → IsPast past new.device.image new.index tree limits clean
erased_left past old new tree limits clean h several e =
    erased_past past old.device.image new.device.image old.index new.index tree limits clean h (e.history past h.tree_is h.history) e.works.told e.layout_is e.clean e.sizes several

-- what an erase that failed left of the log
erased_part : (past : List Node) (old new : LogState) (image : List ℕ) (b : LogIndex) → image ≡ new.device.image → b ≡ new.index → HasSizes old.index.sectors old.index.sector_size new.index → new.index.first ≡ old.index.first
    → IsHalfErased (old.index.first * old.index.sector_size) old.index.sector_size old.device.image new.device.image → MayErase old.index.sectors old.index.sector_size old.device.image past old.index.first → WasErasing past image b
erased_part past old new image b same_image same_index sizes first left may =
    let count : old.index.sectors ≡ b.sectors = sizes.0 ∙ ap (λ (i : LogIndex). i.sectors) (sym same_index) in
    let len : old.index.sector_size ≡ b.sector_size = sizes.1 ∙ ap (λ (i : LogIndex). i.sector_size) (sym same_index) in
    let begins : old.index.first ≡ b.first = sym first ∙ ap (λ (i : LogIndex). i.first) (sym same_index) in
    record {
      was = old.device.image;
      may = subst (λ k. MayErase b.sectors b.sector_size old.device.image past k) begins
          (subst (λ z. MayErase b.sectors z old.device.image past old.index.first) len
          (subst (λ n. MayErase n old.index.sector_size old.device.image past old.index.first) count may));
      left = subst (λ xs. IsHalfErased (b.first * b.sector_size) b.sector_size old.device.image xs) (sym same_image)
          (subst (λ k. IsHalfErased (k * b.sector_size) b.sector_size old.device.image new.device.image) begins
          (subst (λ z. IsHalfErased (old.index.first * z) z old.device.image new.device.image) len left));
    }

-- What is left where the device failed in a call that appends nothing: an erase, or a read.
pub erase_left : (past : List Node) (old new : LogState) (core : CoreState) (why : Cause) → IsPast past old.device.image old.index core.tree core.limits core.clean → EraseFailed core.tree why old new
    → core.erase_failed ≡ new.erase_failed → core.image ≡ new.device.image → core.index ≡ new.index → HasFailed (λ n. ⊥) past core
erase_left past old new core why h f same same_image same_index = record {
  clean = λ is. clean_ends past old.device.image old.index core.tree core.limits core.clean h is;
  tree = inl h.tree_is;
  left = λ intact. absurd (both_ways _ intact (same ∙ f.erase_failed));
  erasing = λ failed. erased_part past old new core.image core.index same_image same_index f.sizes f.first f.device.left (f.may past h.tree_is h.history);
}

pub read_left : (past : List Node) (old new : LogState) (core : CoreState) → IsPast past old.device.image old.index core.tree core.limits core.clean → ReadFailed old new
    → core.image ≡ new.device.image → core.index ≡ new.index → core.erase_failed ≡ new.erase_failed → HasFailed (IsOwnCopy past) past core
read_left past old new core h f same_image same_book same_erase =
    let now = read_past past old.device.image core.image old.index core.index core.tree core.limits core.clean (same_image ∙ f.device.left) (same_book ∙ f.index) h in
    record {
      clean = λ is. clean_ends past old.device.image old.index core.tree core.limits core.clean h is;
      tree = inl h.tree_is;
      left = λ intact. inl now.history;
      erasing = λ failed. absurd (both_ways _ (same_erase ∙ f.intact) failed);
    }

-- A read is stopped for want of memory or by the device, and by nothing else.
pub read_refused : (F : Cause → Type 0) (old new : LogState) → (new ≡ old → F causes.Memory) → (ReadFailed old new → F causes.Device) → (why : Cause) → ReadStopped why old new → F why
read_refused F old new same failed causes.Memory h = same h
read_refused F old new same failed causes.Device h = failed h
read_refused F old new same failed causes.RootFixed h = absurd h
read_refused F old new same failed causes.NoParent h = absurd h
read_refused F old new same failed causes.NameTaken h = absurd h
read_refused F old new same failed causes.NotFound h = absurd h
read_refused F old new same failed causes.IsDirectory h = absurd h
read_refused F old new same failed causes.DataLong h = absurd h
read_refused F old new same failed causes.FileLong h = absurd h
read_refused F old new same failed causes.NotEmpty h = absurd h
read_refused F old new same failed causes.NotNeeded h = absurd h
read_refused F old new same failed causes.Stale h = absurd h
read_refused F old new same failed causes.InodesSpent h = absurd h
read_refused F old new same failed causes.VersionsSpent h = absurd h
read_refused F old new same failed causes.NoSpace h = absurd h
read_refused F old new same failed causes.Failed h = absurd h

-- What a core is left with where a read stopped.
pub read_stops : (why : Cause) (past : List Node) (old new : LogState) (before after : CoreState) → ReadStopped why old new → old.failed ≡ false → IsPast past old.device.image old.index after.tree after.limits after.clean → before.faults ≡ old.device.faults
    → before.wear ≡ old.wear → after.failed ≡ new.failed → after.faults ≡ new.device.faults → after.wear ≡ new.wear → after.image ≡ new.device.image → after.index ≡ new.index → after.erase_failed ≡ new.erase_failed → RefusedAt why past past before after
read_stops why past old new before after stopped works known begun unworn failed faults wear image index erases =
    read_refused (λ c. RefusedAt c past past before after) old new
    (λ same. record {
      works = failed ∙ ap (λ (l : LogState). l.failed) same ∙ works;
      faults = faults ∙ ap (λ (l : LogState). l.device.faults) same ∙ sym begun;
      programs = same_programs past before after (wear ∙ ap (λ (l : LogState). l.wear) same ∙ sym unworn);
      represents = read_past past old.device.image after.image old.index after.index after.tree after.limits after.clean (image ∙ ap (λ (l : LogState). l.device.image) same) (index ∙ ap (λ (l : LogState). l.index) same) known;
    })
    (λ read. record {
      fails = failed ∙ read.failed;
      faults = subst (λ (k : ℕ). before.faults < k) (sym faults) (subst (λ (k : ℕ). k < new.device.faults) (sym begun) read.device.faults);
      programs = inl (same_programs past before after (wear ∙ read.wear ∙ sym unworn));
      left = read_left past old new after known read image index erases;
    })
    why stopped

-- what is known in memory of a log
abbrev Known : LogState → Tree → Limits → Bool → Type 0
Known log tree limits clean = HasLogIndex log.failed log.device.sectors log.device.sector_size log.device.image log.index tree limits clean

-- It is known after a read too.
pub read_known : {A : Type 0} (r : Result A Cause) (old new : LogState) (tree : Tree) (limits : Limits) (clean : Bool) → OnOk r (SameButReads old new) → IfErr r (λ why. ReadStopped why old new) → Known old tree limits clean → Known new tree limits clean
read_known (Ok x) old new tree limits clean same stopped h = subst (λ (l : LogState). Known l tree limits clean) (sym same) h
read_known (Err why) old new tree limits clean same stopped h = read_refused (λ c. Known new tree limits clean) old new
    (λ same. subst (λ (l : LogState). Known l tree limits clean) (sym same) h)
    (λ read. record {
      sizes = (
        ap (λ (d : Device). d.sectors) read.device.rest ∙ h.sizes.0 ∙ ap (λ (b : LogIndex). b.sectors) (sym read.index),
        ap (λ (d : Device). d.sector_size) read.device.rest ∙ h.sizes.1 ∙ ap (λ (b : LogIndex). b.sector_size) (sym read.index),
      );
      index = λ works. absurd (both_ways new.failed works read.failed);
      past = λ works. absurd (both_ways new.failed works read.failed);
    })
    why stopped

-- What follows both of Ok and of an error holds.
pub either_way : {A E : Type 0} (r : Result A E) (P : Type 0) → OnOk r P → IfErr r (λ _. P) → P
either_way (Ok x) P h k = h
either_way (Err e) P h k = k
