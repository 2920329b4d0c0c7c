-- `run` holds no more than its buffer: each turn says so of the next.
use Rattle.std.proofs.Common.{◌≤◌}
use Rattle.strips.proofs.run.Given as goal

abbrev pub invariant-loop : goal.invariant-loop
invariant-loop l = l.have ≤ 65536
