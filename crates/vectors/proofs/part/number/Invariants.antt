-- `number`: no number above 999 is kept.
use Rattle.std.proofs.Common.{◌≤◌}
use Rattle.vectors.proofs.part.number.Given as goal

abbrev pub invariant-loop-byte : goal.invariant-loop-byte
invariant-loop-byte l = l.number ≤ 999
