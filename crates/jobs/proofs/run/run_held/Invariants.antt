-- `run_held`: what is taken and written, and the same run over what is left, are all along the run over the held bytes.
-- Assumes nothing.
use Rattle.std.proofs.Common.{◌-◌, ◌≤◌, length}
use Rattle.jobs.proofs.Runs.{Going}
use Rattle.jobs.proofs.run.run_held.Given as goal

abbrev pub invariant-loop-record : goal.invariant-loop-record
invariant-loop-record l = record {
  going : Going l.held l.records l.drawn l.initial.out l.out l.run.taken l.run.written l.run.records l.run.drawn;
  records_fit : l.run.records ≤ 18446744073709551615;
  drawn_fits : l.run.drawn ≤ 18446744073709551615;
}

abbrev pub decreases-loop-record : goal.decreases-loop-record
decreases-loop-record l = length l.held - l.run.taken
