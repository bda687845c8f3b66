-- Off a medium nothing is written.
use Rattle.jffs_file.proofs.Written.{half_erased_none}
use Rattle.jffs_file.proofs.flash.FileFlash.begin_erase.Goals as goal

pub returns-then-not-self-clause-changes : goal.returns-then-not-self-clause-changes
returns-then-not-self-clause-changes g c = λ image same inside.
    record { image = image; same = same; left = half_erased_none c.args.at c.args.size image inside }
