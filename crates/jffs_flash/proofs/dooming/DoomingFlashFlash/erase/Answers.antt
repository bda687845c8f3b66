-- The doom leaves nothing that the erase doesn't.
use Rattle.std.proofs.Common.{◌≡◌, ◌+◌, ℕ, arith}
use Rattle.jffs_flash.proofs.Dooms.{erased_seen, doom_seen, erase_failed}
use Rattle.jffs_flash.proofs.dooming.DoomingFlashFlash.erase.Goals as goal

pub returns-in_err-doom-clause-device : goal.returns-in_err-doom-clause-device
returns-in_err-doom-clause-device g c =
    let h = c.in_err-doom.ensures.device in
    erase_failed c.from_residual.result c.args.sector _ _ c.from_residual.ensures.0
    (doom_seen c.args.sector c.args.self.now.failed_dooms c.doom.new.self.failed_dooms h.0 _ _ c.in_err-doom.ensures.counted h.1 h.2)

pub returns-clause-device : goal.returns-clause-device
returns-clause-device g c =
    let same : c.doom.new.self.failed_dooms ≡ c.args.self.now.failed_dooms = omega (arith, c.in_ok-doom.ensures.counted) in
    erased_seen c.erase.result c.args.sector c.args.self.now.failed_dooms c.doom.new.self.failed_dooms _ _ _ same c.in_ok-doom.ensures.device c.erase.ensures.device
