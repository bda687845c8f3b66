use Rattle.std.proofs.Common.{◌*◌, ap, ◌∙◌, arith}
use Rattle.jffs_flash.specs.Device.{Device}
use Rattle.jffs_queue.proofs.Carrying.{length-seen, program_fails}
use Rattle.jffs_queue.proofs.queue.QueuedFlashFlash.program.Goals as goal

pub program_medium-requires : goal.program_medium-requires
program_medium-requires c =
    let long = length-seen _ c.args.self.now c.self.view_is c.self.invariant in
    omega (arith, long, c.requires, ap (λ (d : Device). d.sectors * d.sector_size) c.carry_out_all.ensures.seen)

pub add_program-requires : goal.add_program-requires
add_program-requires c =
    let long = length-seen _ c.args.self.now c.self.view_is c.self.invariant in
    omega (arith, long, c.requires)

pub returns-in-Err-clause-device : goal.returns-in-Err-clause-device
returns-in-Err-clause-device c =
    program_fails c.args.at c.args.bytes.now c.args.self.now _ c.requires (c.self-2.view_is ∙ c.in-Err.ensures.refused)
