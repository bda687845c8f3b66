-- A range that is kept of a store, or none.
use Rattle.std.specs.Prelude.{◌≤◌, Option, Some, None}
use Rattle.jffs_file.specs.declared.span.Span.{Span}

-- it lies in the range, where there is one
abbrev pub IsHeld : Option Span → Span → Type 0
IsHeld None span = ⊥
IsHeld (Some range) span = (range.from ≤ span.from) × (span.to ≤ range.to)
