-- `print_held` takes no more than is held: each roomful is taken of what is left, and a full one takes something.
use Rattle.std.proofs.Common.{◌-◌, ◌≤◌, length}
use Rattle.strips.proofs.print_held.Given as goal

abbrev pub invariant-loop-run : goal.invariant-loop-run
invariant-loop-run l = l.taken ≤ length l.held

abbrev pub decreases-loop-run : goal.decreases-loop-run
decreases-loop-run l = length l.held - l.taken
