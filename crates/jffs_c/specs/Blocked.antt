-- What is refused of a volume, and when.
use Rattle.std.specs.Prelude.{◌≡◌, Result, Ok, Err, IfErr}
use Rattle.jffs_c.specs.declared.code.Code.{Code}
use Rattle.jffs_c.specs.declared.code.Code.TheVariants as code
use Rattle.jffs_c.specs.declared.volume.Phase.{Phase}
use Rattle.jffs_c.specs.declared.volume.Phase.TheVariants as phase
use Rattle.jffs_c.specs.declared.volume.Volume.{Volume}

-- whether a volume in this phase may be changed, or what a change is answered
abbrev pub blocked : Phase → Result (Unit {0}) Code
blocked phase.Ready = Ok tt
blocked phase.Carrying = Err code.CallsLeft
blocked phase.Failed = Err code.Failed

-- whether a volume in this phase may be looked at, or what a look is answered
abbrev pub looks_blocked : Phase → Result (Unit {0}) Code
looks_blocked phase.Ready = Ok tt
looks_blocked phase.Carrying = Ok tt
looks_blocked phase.Failed = Err code.Failed

-- what a program is answered that says how the next call went
abbrev pub noted : Phase → Code
noted phase.Ready = code.Nothing
noted phase.Carrying = code.Done
noted phase.Failed = code.Failed

-- the phase after a call that failed
abbrev pub after_failure : Phase → Phase
after_failure phase.Ready = phase.Ready
after_failure phase.Carrying = phase.Failed
after_failure phase.Failed = phase.Failed

-- a change that may not be is answered why, and changes nothing
abbrev pub IsHeldBack : Volume → Volume → Code → Type 0
IsHeldBack old new answer = IfErr (blocked old.phase) (λ why. (answer ≡ why) × (new ≡ old))
