-- What may go wrong in a run.
use Rattle.std.specs.Prelude.{◌≡◌, ◌⊎◌}
use Rattle.jffs_run.specs.declared.fault.RunWhy.{RunWhy}
use Rattle.jffs_run.specs.declared.fault.RunWhy.TheVariants.{Numbers, Spawn, Memory}

-- What may go wrong with threads: one can't be started, a writer's last number is used, or
-- allocation failed.
abbrev pub IsOfThreads : RunWhy → Type 0
IsOfThreads why = (why ≡ Spawn) ⊎ ((why ≡ Numbers) ⊎ (why ≡ Memory))
