-- What stands before the next place was taken.
use Rattle.std.proofs.Common.{◌≡◌, ◌≤◌, length, take}
use Rattle.std.specs.Io.KnownBytes.{Consumes}
use Rattle.jffs_protocol.proofs.hearing.take_exact.Given as goal

abbrev pub invariant-loop : goal.invariant-loop
invariant-loop g l = record {
  long : length l.bytes ≡ length l.initial.bytes;
  within : l.at ≤ length l.bytes;
  taken : Consumes (g.R.Read.remaining l.initial.input) (g.R.Read.remaining l.input) (take l.at l.bytes);
}
