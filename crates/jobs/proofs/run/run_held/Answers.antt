-- `run_held`: what is taken and written, and the same run over what is left, are all along the run over the held bytes.
-- Assumes nothing.
use Rattle.std.proofs.Common.{refl, ◌∙◌, arith}
use Rattle.std.proofs.lemmas.List.{take_rest}
use Rattle.jobs.proofs.Runs.{begun, next, ended-none, ended-full, counted-one, counted-test}
use Rattle.jobs.proofs.run.run_held.Goals as goal

pub loop-record-init : goal.loop-record-init
loop-record-init c =
    record { going = begun c.args.held.now c.args.records c.args.drawn c.args.out.now; records_fit = omega arith; drawn_fits = omega arith }

pub returns-in-Err : goal.returns-in-Err
returns-in-Err c =
    let both = ended-none c.loop-record.invariant.going c.in-Err.ended (rw take_rest at c.in-Err.ensures) _ refl in
    record { value = both.0; out_after = both.1.0; taken_in_bounds = both.1.1.0; written_in_bounds = both.1.1.1 }

pub returns-then-out-run-lt-LONGEST_LINE : goal.returns-then-out-run-lt-LONGEST_LINE
returns-then-out-run-lt-LONGEST_LINE c =
    let both = ended-full c.loop-record.invariant.going _ _ (rw take_rest at c.in-Ok.ensures) (omega arith) _ refl in
    record { value = both.0; out_after = both.1.0; taken_in_bounds = both.1.1.0; written_in_bounds = both.1.1.1 }

pub loop-record-preserved : goal.loop-record-preserved
loop-record-preserved c =
    let l = c.loop-record in
    let n = c.saturating_add.ensures ∙ counted-one l.run.records l.invariant.records_fit in
    let d = c.saturating_add-in-loop-record.ensures in
    record {
      going = next l.invariant.going _ _ _ _ _ _ _ (rw take_rest at c.in-Ok.ensures) (omega arith) refl n _ c.symbology_of.ensures c.put_line-line.ensures.put
          c.put_line-line.result.drawn c.put_line-line.ensures.drawn_value (d ∙ rw c.from.ensures (counted-test c.put_line-line.result.drawn l.run.drawn l.invariant.drawn_fits));
      records_fit = omega arith;
      drawn_fits = omega arith;
    }
