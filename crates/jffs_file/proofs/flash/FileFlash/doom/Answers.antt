-- Where the first sync fails nothing was written.
use Rattle.std.proofs.Common.{◌∙◌}
use Rattle.jffs_file.proofs.Written.{half_erased_none}
use Rattle.jffs_file.proofs.flash.FileFlash.doom.Goals as goal

pub returns-in_err-settle-clause-changes : goal.returns-in_err-settle-clause-changes
returns-in_err-settle-clause-changes g c = λ image same inside.
    record { image = image; same = c.settle.ensures.same ∙ same; left = half_erased_none c.args.at c.args.size image inside }
