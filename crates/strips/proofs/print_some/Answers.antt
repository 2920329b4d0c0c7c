-- `print_some`: what `run_held` promises of a room that holds a line.
use Rattle.jobs.proofs.Runs.{full-took}
use Rattle.jobs.proofs.Pieces.{left_none}
use Rattle.strips.proofs.print_some.Goals as goal

pub returns-clause-full_took : goal.returns-clause-full_took
returns-clause-full_took c = rw c.run_held-run.ensures.value (full-took _ _ _ _ c.requires)

pub returns-clause-left : goal.returns-clause-left
returns-clause-left c = rw c.run_held-run.ensures.value (left_none _ _ _ _)
