-- Step by step, in the definition's order.
use Rattle.std.proofs.Common.{◌≡◌, ◌⊎◌, ◌*◌, false, ℕ, ◌<◌, get_or, List, length, map, flat_map, reverse, Result, refl, sym, ap, subst, ◌∙◌, arith}
use Rattle.std.specs.List.{AllByRecursion, last_or}
use Rattle.std.specs.Prelude.{None}
use Rattle.std.proofs.lemmas.Bool.{false_from_ne_true, false≢true}
use Rattle.jffs_node.specs.declared.node.Node.{Node}
use Rattle.jffs_tree.specs.Origin.{tree_of}
use Rattle.jffs_tree.specs.Check.{makes_tree}
use Rattle.jffs_log.specs.declared.scanning.ScanWhy.{ScanWhy}
use Rattle.jffs_log.specs.declared.scanning.ScanWhy.TheVariants.{Geometry, BadTree, Memory}
use Rattle.jffs_log.specs.Image.{records_in, free_of_tail, is_clean_tail}
use Rattle.jffs_log.specs.LogIndex.{ref_of}
use Rattle.jffs_log.specs.Scan.{versions_rise, first_bad}
use Rattle.jffs_log.specs.ScanRead.{number_of_tail, used_of_tail, oldest_sector, AreRead, IsReadFault, IsSmall}
use Rattle.jffs_log.specs.Room.{greatest_inode, limits as limits_after}
use Rattle.jffs_log.specs.ScanFound.{IsCause, IsUnfound, last_version, nodes_held}
use Rattle.jffs_flash.specs.Device.{Device as FlashDevice}
use Rattle.jffs_log.specs.declared.shown.Shown.{Shown}
use Rattle.jffs_log.specs.Shown.{shown_image, IsAmong}
use Rattle.jffs_log.specs.Volume.{sectors_in}
use Rattle.jffs_log.proofs.ring.Ring.{Numbered}
use Rattle.jffs_log.proofs.append.Appended.{sizes_small}
use Rattle.jffs_log.proofs.scans.MountHistory.{IsLawful}
use Rattle.jffs_log.proofs.Results.{err_from}
use Rattle.jffs_log.proofs.scans.ReadOnce.{sizes_some, sizes_room}
use Rattle.jffs_log.proofs.scans.Showing.{length-shown}
use Rattle.jffs_log.proofs.scans.Small.{held_small}
use Rattle.jffs_log.proofs.scans.ScanSectors.{all_split}
use Rattle.jffs_log.proofs.scans.ScanIndex.{described_is}
use Rattle.jffs_log.proofs.scans.ScanFound.{answer, unmoved, cause_at, found_at, held_lawful, geometry_refused, read_refused, oldest_refused, order_refused, tree_refused, scan_is, IsAll, log_nodes, located_in, described_in, first_below, held_below, limits_are}
use Rattle.jffs_log.proofs.scanning.find_log.Goals as goal
use Rattle.jffs_log.proofs.scanning.find_log.Goals.{In_ok-held, After-keep_log}

-- the sector where the log begins, as the definition finds it among those that were read
begins : (list read : List Numbered) (found : Result ℕ ScanWhy) → found ≡ oldest_sector (map (λ (s : Numbered). s.1) read) → read ≡ list → found ≡ oldest_sector (map (λ (s : Numbered). s.1) list)
begins list read found is same = is ∙ ap (λ (xs : List Numbered). oldest_sector (map (λ (s : Numbered). s.1) xs)) same

-- the image that is shown
abbrev image_of : Shown → FlashDevice → List ℕ
image_of shown device = shown_image shown device.sector_size device.image

-- what is said of it by the size that was asked for is said of it by the device's
of_size : (P : List ℕ → Type 0) (shown : Shown) (device : FlashDevice) (len : ℕ) → len ≡ device.sector_size → P (shown_image shown len device.image) → P (image_of shown device)
of_size P shown device len same h = subst (λ n. P (shown_image shown n device.image)) same h

-- its sectors were read
read_in : (shown : Shown) (device : FlashDevice) (count len : ℕ) (list : List Numbered) → len ≡ device.sector_size → AreRead count len (shown_image shown len device.image) list
    → AreRead count len (image_of shown device) list
read_in shown device count len list same read = of_size (λ image. AreRead count len image list) shown device len same read

-- the sectors of the log, and where they stand on the device
all : (g : _) (c : After-keep_log g) → IsAll c.sectors-sectors.result c.sector_size-sector_size.result (image_of c.args.shown (g.F.Flash.device c.args.flash.now)) c.in_ok-first.first c.keep_log.new.found.items
all g c = record {
  sizes = c.if-not-is_geometry.ensures.0 refl;
  list = c.in_ok-held.held.items;
  read = (read_in c.args.shown (g.F.Flash.device c.args.flash.now) _ _ _ c.sector_size-sector_size.ensures c.in_ok-held.ensures.read);
  log = located_in _ _ _ c.in_ok-held.held.items c.in_ok-first.first _ (read_in c.args.shown (g.F.Flash.device c.args.flash.now) _ _ _ c.sector_size-sector_size.ensures c.in_ok-held.ensures.read) (begins _ _ _ c.in_ok-first.ensures c.deref.ensures.value) c.keep_log.ensures;
}

-- No read failed, and this is why no log was found.
refused : (g : _) (c : In_ok-held g) (why : ScanWhy)
    → IsCause why (g.F.Flash.device c.args.flash.now).faults (g.F.Flash.device c.args.flash.now).faults
    (answer c.sectors-sectors.result c.sector_size-sector_size.result (image_of c.args.shown (g.F.Flash.device c.args.flash.now)))
    → IsUnfound c.args.shown (g.F.Flash.device c.args.flash.now) why (g.F.Flash.device c.read_sectors.new.flash)
refused g c why cause =
    let device = g.F.Flash.device c.args.flash.now in
    unmoved c.args.shown why device (g.F.Flash.device c.read_sectors.new.flash) c.in_ok-held.ensures.same
    (cause_at why device.faults device.faults _ _ _ _ (image_of c.args.shown device) c.sectors-sectors.ensures.count c.sector_size-sector_size.ensures cause)

pub returns-then-not-is_geometry-clause-refused : goal.returns-then-not-is_geometry-clause-refused
returns-then-not-is_geometry-clause-refused g c =
    let device = g.F.Flash.device c.args.flash.now in
    unmoved c.args.shown Geometry device _ refl
    (cause_at Geometry device.faults device.faults c.sectors-sectors.result _ c.sector_size-sector_size.result _ (image_of c.args.shown device) c.sectors-sectors.ensures.count c.sector_size-sector_size.ensures
    (geometry_refused c.sectors-sectors.result c.sector_size-sector_size.result (image_of c.args.shown device) device.faults device.faults (false_from_ne_true _ (λ t. false≢true (c.if-not-is_geometry.ensures.1 t))) refl))

pub read_sectors-requires-clause-among : goal.read_sectors-requires-clause-among
read_sectors-requires-clause-among g c = subst (IsAmong c.args.shown) (sym c.sectors-sectors.ensures.count) c.requires

pub returns-in_err-held-clause-refused : goal.returns-in_err-held-clause-refused
returns-in_err-held-clause-refused g c =
    let device = g.F.Flash.device c.args.flash.now in
    let after = g.F.Flash.device c.read_sectors.new.flash in
    err_from c.from_residual.result c.in_err-held.field-0.0 (λ (v : ScanWhy). IsUnfound c.args.shown device v after) c.from_residual.ensures.1
    (record {
      cause = cause_at c.in_err-held.field-0.0 device.faults after.faults _ _ _ _ (image_of c.args.shown device) c.sectors-sectors.ensures.count c.sector_size-sector_size.ensures
          (read_refused c.in_err-held.field-0.0 c.sectors-sectors.result c.sector_size-sector_size.result (image_of c.args.shown device) device.faults after.faults (c.if-not-is_geometry.ensures.0 refl)
          (of_size (λ image. IsReadFault c.in_err-held.field-0.0 device.faults after.faults (first_bad 0 (sectors_in c.sectors-sectors.result c.sector_size-sector_size.result image))) c.args.shown device _ c.sector_size-sector_size.ensures c.in_err-held.ensures.refused.cause));
      rest = c.in_err-held.ensures.refused.rest;
    })

pub returns-in_err-held-clause-once : goal.returns-in_err-held-clause-once
returns-in_err-held-clause-once g c =
    c.read_sectors.ensures.once (sizes_some c.sectors-sectors.result c.sector_size-sector_size.result (c.if-not-is_geometry.ensures.0 refl))

pub returns-in_err-first-clause-refused : goal.returns-in_err-first-clause-refused
returns-in_err-first-clause-refused g c =
    let device = g.F.Flash.device c.args.flash.now in
    let why = c.in_err-first.field-0.0 in
    err_from c.from_residual-in_err-first.result why (λ (v : ScanWhy). IsUnfound c.args.shown device v (g.F.Flash.device c.read_sectors.new.flash)) c.from_residual-in_err-first.ensures.1
    (refused g (goal.at.returns-in_err-first-clause-refused g c).In_ok-held why
    (oldest_refused why c.sectors-sectors.result c.sector_size-sector_size.result (image_of c.args.shown device) c.in_ok-held.held.items device.faults device.faults (c.if-not-is_geometry.ensures.0 refl) (read_in c.args.shown (g.F.Flash.device c.args.flash.now) _ _ _ c.sector_size-sector_size.ensures c.in_ok-held.ensures.read)
    (sym (begins _ _ _ c.in_err-first.ensures c.deref.ensures.value)) refl))

pub keep_log-requires-clause-inside : goal.keep_log-requires-clause-inside
keep_log-requires-clause-inside g c =
    let both = first_below c.sectors-sectors.result _ _ c.in_ok-held.held.items c.in_ok-first.first (read_in c.args.shown (g.F.Flash.device c.args.flash.now) _ _ _ c.sector_size-sector_size.ensures c.in_ok-held.ensures.read) (begins _ _ _ c.in_ok-first.ensures c.deref.ensures.value) in
    let below = both.0 in
    let long = both.1 in
    omega arith

pub keep_log-requires-clause-ring : goal.keep_log-requires-clause-ring
keep_log-requires-clause-ring g c =
    described_in _ _ _ c.in_ok-held.held.items c.in_ok-first.first (read_in c.args.shown (g.F.Flash.device c.args.flash.now) _ _ _ c.sector_size-sector_size.ensures c.in_ok-held.ensures.read) (begins _ _ _ c.in_ok-first.ensures c.deref.ensures.value)

pub overflow_cast-many : goal.overflow_cast-many
overflow_cast-many g c =
    let here = all g (goal.at.overflow_cast-many g c).After-keep_log in
    let below = held_below c.sectors-sectors.result c.sector_size-sector_size.result _ c.in_ok-first.first c.keep_log.new.found.items here.log in
    let few = (sizes_small c.sectors-sectors.result c.sector_size-sector_size.result here.sizes).0 in
    let is = c.len-many.ensures in
    let same = c.keep_log.new.found.ok in
    omega arith

pub overflow_cast-index : goal.overflow_cast-index
overflow_cast-index g c =
    let below = (first_below c.sectors-sectors.result _ _ c.in_ok-held.held.items c.in_ok-first.first (read_in c.args.shown (g.F.Flash.device c.args.flash.now) _ _ _ c.sector_size-sector_size.ensures c.in_ok-held.ensures.read) (begins _ _ _ c.in_ok-first.ensures c.deref.ensures.value)).0 in
    let few = (sizes_small c.sectors-sectors.result c.sector_size-sector_size.result (c.if-not-is_geometry.ensures.0 refl)).0 in
    omega arith

pub list_records-requires : goal.list_records-requires
list_records-requires g c =
    subst (AllByRecursion IsSmall) (sym c.deref-4.ensures.value)
    (held_small _ _ _ c.in_ok-held.held.items c.keep_log.new.found.items c.in_ok-first.first (c.if-not-is_geometry.ensures.0 refl) (read_in c.args.shown (g.F.Flash.device c.args.flash.now) _ _ _ c.sector_size-sector_size.ensures c.in_ok-held.ensures.read) c.keep_log.ensures)

pub of-requires : goal.of-requires
of-requires g c =
    subst (λ (xs : List Numbered). AllByRecursion IsLawful (nodes_held xs)) (sym c.deref-5.ensures.value)
    (held_lawful _ _ _ c.in_ok-first.first c.keep_log.new.found.items (all g (goal.at.of-requires g c).After-keep_log))

pub returns-in_err-numbers-clause-refused : goal.returns-in_err-numbers-clause-refused
returns-in_err-numbers-clause-refused g c =
    let device = g.F.Flash.device c.args.flash.now in
    let why = c.in_err-numbers.field-0.0 in
    let here = goal.at.returns-in_err-numbers-clause-refused g c in
    let falls = c.in_err-numbers.ensures.refused in
    err_from c.from_residual-in_err-numbers.result why (λ (v : ScanWhy). IsUnfound c.args.shown device v (g.F.Flash.device c.read_sectors.new.flash)) c.from_residual-in_err-numbers.ensures.1
    (refused g here.In_ok-held why
    (order_refused _ _ (image_of c.args.shown device) c.in_ok-first.first c.keep_log.new.found.items (all g here.After-keep_log) why device.faults device.faults
    (falls.0, ap (λ (xs : List Numbered). versions_rise (nodes_held xs)) (sym c.deref-5.ensures.value) ∙ falls.1) refl))

pub tree_of_log-requires : goal.tree_of_log-requires
tree_of_log-requires g c =
    subst (λ (xs : List Numbered). AllByRecursion IsLawful (nodes_held xs)) (sym c.deref-6.ensures.value)
    (held_lawful _ _ _ c.in_ok-first.first c.keep_log.new.found.items (all g (goal.at.tree_of_log-requires g c).After-keep_log))

pub returns-in_err-tree-clause-refused : goal.returns-in_err-tree-clause-refused
returns-in_err-tree-clause-refused g c =
    let device = g.F.Flash.device c.args.flash.now in
    let why = c.in_err-tree.field-0.0 in
    let here = goal.at.returns-in_err-tree-clause-refused g c in
    let rise = ap (λ (xs : List Numbered). versions_rise (nodes_held xs)) (sym c.deref-5.ensures.value) ∙ c.in_ok-numbers.ensures.rise in
    let unfit = subst (λ (xs : List Numbered). (why ≡ Memory) ⊎ ((why ≡ BadTree) × (makes_tree (reverse (nodes_held xs)) ≡ false))) c.deref-6.ensures.value c.in_err-tree.ensures.refused in
    err_from c.from_residual-in_err-tree.result why (λ (v : ScanWhy). IsUnfound c.args.shown device v (g.F.Flash.device c.read_sectors.new.flash)) c.from_residual-in_err-tree.ensures.1
    (refused g here.In_ok-held why
    (tree_refused _ _ (image_of c.args.shown device) c.in_ok-first.first c.keep_log.new.found.items (all g here.After-keep_log) why device.faults device.faults rise unfit refl))

pub returns-clause-found : goal.returns-clause-found
returns-clause-found g c =
    let count = c.sectors-sectors.result in
    let len = c.sector_size-sector_size.result in
    let device = g.F.Flash.device c.args.flash.now in
    let image = image_of c.args.shown device in
    let held = c.keep_log.new.found.items in
    let here = all g (goal.at.returns-clause-found g c).After-keep_log in
    let rise = ap (λ (xs : List Numbered). versions_rise (nodes_held xs)) (sym c.deref-5.ensures.value) ∙ c.in_ok-numbers.ensures.rise in
    let lawful = ap (λ (xs : List Numbered). makes_tree (reverse (nodes_held xs))) (sym c.deref-6.ensures.value) ∙ c.in_ok-tree.ensures.lawful in
    let made = c.in_ok-tree.ensures.value ∙ ap (λ (xs : List Numbered). tree_of (reverse (nodes_held xs))) c.deref-6.ensures.value in
    let ends = c.is_clean-clean.ensures ∙ ap (λ (xs : List Numbered). is_clean_tail (last_or None xs)) c.deref-3.ensures.value in
    let sized : length device.image ≡ count * len = c.sectors-sectors.ensures.whole ∙ (λ i. (sym c.sectors-sectors.ensures.count) i * (sym c.sector_size-sector_size.ensures) i) in
    let whole : length image ≡ count * len = of_size (λ (xs : List ℕ). length xs ≡ count * len) c.args.shown device len c.sector_size-sector_size.ensures (length-shown c.args.shown count len device.image sized (sizes_room count len here.sizes) (subst (IsAmong c.args.shown) (sym c.sectors-sectors.ensures.count) c.requires) ∙ sized) in
    let is = c.len-many.ensures in
    let same = c.keep_log.new.found.ok in
    let counted : length held ≡ c.len-many.result = omega arith in
    let inodes = c.in_ok-numbers.ensures.inode ∙ ap (λ (xs : List Numbered). greatest_inode (nodes_held xs)) c.deref-5.ensures.value in
    let versions = c.in_ok-numbers.ensures.version ∙ ap (λ (xs : List Numbered). last_version (nodes_held xs)) c.deref-5.ensures.value in
    found_at count _ len _ image _ _ _ _ c.sectors-sectors.ensures.count c.sector_size-sector_size.ensures
    (record {
      answer = scan_is count len image c.in_ok-first.first held here c.in_ok-tree.tree c.is_clean-clean.result rise lawful made ends;
      index = described_is count len image c.in_ok-held.held.items c.in_ok-first.first held whole (read_in c.args.shown (g.F.Flash.device c.args.flash.now) _ _ _ c.sector_size-sector_size.ensures c.in_ok-held.ensures.read) here.log here.sizes c.len-many.result c.of-tail.result.sector c.of-tail.result.used c.of-tail.result.free c.in_ok-records.records.items
          counted
          (c.of-tail.ensures.sector ∙ ap (λ (xs : List Numbered). number_of_tail (last_or None xs)) c.deref-2.ensures.value)
          (c.of-tail.ensures.used ∙ ap (λ (xs : List Numbered). used_of_tail (last_or None xs)) c.deref-2.ensures.value)
          (c.of-tail.ensures.free ∙ ap (λ (xs : List Numbered). free_of_tail len (last_or None xs)) c.deref-2.ensures.value)
          (c.in_ok-records.ensures ∙ ap (λ (xs : List Numbered). map ref_of (flat_map records_in xs)) c.deref-4.ensures.value);
      sizes = (refl, refl);
      erases = refl;
      begins = here.log.begins;
      limits_are =
          limits_are len (nodes_held held) c.limits.result c.in_ok-numbers.numbers.inode c.in_ok-numbers.numbers.version c.limits.ensures.data_max c.limits.ensures.inode c.limits.ensures.version inodes versions
          ∙ ap (λ (xs : List Node). limits_after len (reverse xs)) (sym (log_nodes count len image c.in_ok-first.first held here));
      bytes = all_split (λ (xs : List ℕ). (i : ℕ) → get_or xs i 0 < 256) count len image (λ k below. let spelled = (read_in c.args.shown (g.F.Flash.device c.args.flash.now) _ _ _ c.sector_size-sector_size.ensures c.in_ok-held.ensures.read).spelled k below in spelled.bytes);
    })
