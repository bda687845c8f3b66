use Rattle.std.proofs.Common.{ap, ◌∙◌, arith}
use Rattle.jffs_flash.specs.Device.{with_image}
use Rattle.jffs_log.proofs.append.Gate.{programmed_erased}
use Rattle.jffs_log.proofs.writing.program_erased.Goals as goal

pub returns-clause-programmed : goal.returns-clause-programmed
returns-clause-programmed g c =
    let old = g.F.Flash.device c.args.flash.now in
    c.in_ok-program.ensures.device
    ∙ ap (with_image old) (programmed_erased c.args.at c.args.bytes.now old.image c.requires.erased (λ i. omega (arith, c.type_inv.bytes i)))
