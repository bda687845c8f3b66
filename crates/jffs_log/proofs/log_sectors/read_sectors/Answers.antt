-- Sector by sector; the count of faults is the first one's until a read fails.
use Rattle.std.proofs.Common.{◌≡◌, inr, ℕ, ◌*◌, List, length, take, drop, ◌++◌, sym, ap, subst, ◌∙◌, arith, length-append}
use Rattle.std.proofs.lemmas.List.{length-take-le}
use Rattle.jffs_log.specs.declared.scanning.ScanWhy.{ScanWhy}
use Rattle.jffs_flash.specs.Device.{Device as FlashDevice}
use Rattle.jffs_log.specs.ScanRead.{AreRead, HasRead, IsUnread, IsReadOnce, bad_in}
use Rattle.jffs_log.specs.Image.{sector_of}
use Rattle.jffs_log.specs.Volume.{sectors_in, sector_bytes}
use Rattle.jffs_log.specs.Scan.{first_bad}
use Rattle.jffs_log.specs.Shown.{shown_image, shown_bytes}
use Rattle.jffs_log.proofs.scans.ReadOnce.{sector_spent}
use Rattle.jffs_log.proofs.scans.ScanSectors.{one_read, bad_read, fault_read}
use Rattle.jffs_log.proofs.scans.Showing.{sector_shown}
use Rattle.jffs_log.proofs.Results.{err_from}
use Rattle.jffs_log.proofs.log_sectors.read_sectors.Goals as goal
use Rattle.jffs_log.proofs.log_sectors.read_sectors.Goals.{After-read_one}

-- a buffer that was filled is as long as before
refilled : (n : ℕ) (xs ys : List ℕ) → length xs ≡ n → length (take n (xs ++ drop (length xs) ys)) ≡ n
refilled n xs ys h = let e = length-append xs (drop (length xs) ys) in length-take-le n (xs ++ drop (length xs) ys) (omega arith)

-- the buffer is as long as a sector, and the device is as it was at first
at_first : (g : _) (c : After-read_one g) (P : ℕ → FlashDevice → Type 0) → P (length c.deref_mut.result.now) (g.F.Flash.device c.loop-sector.flash) → P c.args.sector_size (g.F.Flash.device c.args.flash.now)
at_first g c P h =
    let w = c.loop-sector.invariant in
    subst (λ (n : ℕ). P n (g.F.Flash.device c.args.flash.now)) (ap length c.deref_mut.ensures.value ∙ w.buffer)
    (subst (λ (d : FlashDevice). P (length c.deref_mut.result.now) d) w.device h)

-- what holds of the bytes that are shown of a sector holds of that sector of the image that is shown
in_image : (g : _) (c : After-read_one g) (P : List ℕ → Type 0)
    → P (shown_bytes c.args.shown c.loop-sector.sector (sector_bytes c.args.sector_size c.loop-sector.sector (g.F.Flash.device c.args.flash.now).image))
    → P (sector_bytes c.args.sector_size c.loop-sector.sector (shown_image c.args.shown c.args.sector_size (g.F.Flash.device c.args.flash.now).image))
in_image g c P h =
    subst P (sym (sector_shown c.args.shown c.args.sectors c.args.sector_size c.loop-sector.sector _ c.requires.sizes.2 c.requires.sizes.1 c.requires.among c.loop-sector-test.true)) h

-- the sector was read once
read_once : (g : _) (c : After-read_one g)
    → IsReadOnce (c.loop-sector.sector * c.args.sector_size) c.args.sector_size (g.F.Flash.device c.args.flash.now) (g.F.Flash.device c.read_one.new.flash) (g.F.Flash.reads_left c.loop-sector.flash) (g.F.Flash.reads_left c.read_one.new.flash)
read_once g c = at_first g c
    (λ n d. IsReadOnce (c.loop-sector.sector * n) n d (g.F.Flash.device c.read_one.new.flash) (g.F.Flash.reads_left c.loop-sector.flash) (g.F.Flash.reads_left c.read_one.new.flash))
    c.read_one.ensures.once

pub returns-in_err-read-clause-refused : goal.returns-in_err-read-clause-refused
returns-in_err-read-clause-refused g c =
    let k = c.loop-sector.sector in
    let len = c.args.sector_size in
    let device = g.F.Flash.device c.args.flash.now in
    let after = g.F.Flash.device c.read_one.new.flash in
    let why = c.in_err-read.field-0.0 in
    let image = shown_image c.args.shown len device.image in
    let all = first_bad 0 (sectors_in c.args.sectors len image) in
    let here = (goal.at.returns-in_err-read-clause-refused g c).After-read_one in
    let unread = in_image g here (λ bytes. IsUnread why device after (bad_in (k, sector_of bytes)))
    (at_first g here (λ n d. IsUnread why d after (bad_in (k, sector_of (shown_bytes c.args.shown k (sector_bytes n k d.image))))) c.in_err-read.ensures.refused) in
    let cause = fault_read why _ after.faults _ all
    (λ bad. bad_read c.args.sectors k len image c.loop-sector.found.items why c.loop-sector-test.true c.loop-sector.invariant.read bad) unread.cause in
    err_from c.from_residual-in_err-read.result why (λ (v : ScanWhy). IsUnread v device after all) c.from_residual-in_err-read.ensures.1 (record { cause = cause; rest = unread.rest })

pub returns-in_err-read-clause-once : goal.returns-in_err-read-clause-once
returns-in_err-read-clause-once g c some rose =
    let once = read_once g (goal.at.returns-in_err-read-clause-once g c).After-read_one in
    sector_spent c.args.sectors c.loop-sector.sector c.args.sector_size (g.F.Flash.device c.args.flash.now).image (g.F.Flash.reads_left c.args.flash.now) (g.F.Flash.reads_left c.loop-sector.flash)
    c.requires.sizes.2 c.loop-sector-test.true c.loop-sector.invariant.left (once.fails rose some)

pub loop-sector-preserved : goal.loop-sector-preserved
loop-sector-preserved g c =
    let here = (goal.at.loop-sector-preserved g c).After-read_one in
    let w = c.loop-sector.invariant in
    let k = c.loop-sector.sector in
    let one = in_image g here (HasRead c.in_ok-read.read k)
    (at_first g here (λ n d. HasRead c.in_ok-read.read k (shown_bytes c.args.shown k (sector_bytes n k d.image))) c.in_ok-read.ensures.read.0) in
    let full : length c.read_one.new.buffer ≡ c.loop-sector.buffer.len = c.read_one.ensures.length ∙ c.deref_mut.ensures.len in
    let same = c.in_ok-read.ensures.read.1 in
    let once = read_once g here in
    record {
      read = one_read k c.args.sector_size (shown_image c.args.shown c.args.sector_size (g.F.Flash.device c.args.flash.now).image) c.loop-sector.found.items c.push.new.self.items c.in_ok-read.read w.read one.read one.sound one.spelled c.in_ok-push.ensures.items;
      device = same ∙ w.device;
      unworn = c.read_one.ensures.unworn ∙ w.unworn;
      buffer = refilled c.loop-sector.buffer.len c.read_one.new.buffer c.loop-sector.buffer.items full ∙ sym c.deref_mut.ensures.len ∙ ap length c.deref_mut.ensures.value ∙ w.buffer;
      left = λ i from.
          let kept = once.rest (ap (λ (d : FlashDevice). d.faults) (same ∙ w.device)) i (inr (omega arith)) in
          let before = w.left i (omega arith) in
          omega arith;
    }

pub returns-clause-read : goal.returns-clause-read
returns-clause-read g c =
    let all : c.loop-sector.sector ≡ c.args.sectors = omega arith in
    subst (λ k. AreRead k c.args.sector_size (shown_image c.args.shown c.args.sector_size (g.F.Flash.device c.args.flash.now).image) c.loop-sector.found.items) all c.loop-sector.invariant.read
