use Rattle.std.proofs.Common.{◌≤◌, length}
use Rattle.std.specs.Io.KnownBytes.{Consumes}
use Rattle.jffs_text.specs.declared.script.TheConstants.{SCRIPT_MAX}
use Rattle.jffs_program.proofs.reading.read_script.Given as goal

abbrev pub invariant-loop : goal.invariant-loop
invariant-loop g l = record {
  taken : Consumes (g.R.Read.remaining l.fn.input) (g.R.Read.remaining l.input) l.text.items;
  bounded : length l.text.items ≤ SCRIPT_MAX;
}
