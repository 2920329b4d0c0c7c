-- `judge_count`: each return is one law of Verdicts, by what the tests before it said.
-- Assumes nothing.
use Rattle.std.proofs.Common.{refl}
use Rattle.std.proofs.lemmas.Result.{err_from_is_err_and}
use Rattle.symbologies.proofs.Verdicts.{offered-by, no-count, not-held, not-even, is-drawable}
use Rattle.symbologies.proofs.judging.judge_count.Goals.{then-not-takes-via-then-not-takes, then-not-takes-via-else-not-takes+then-is_odd}
use Rattle.symbologies.proofs.judging.judge_count.Goals as goal

pub returns-in_err-limits : goal.returns-in_err-limits
returns-in_err-limits c =
    let p = err_from_is_err_and c.from_residual.result c.from_residual.ensures.1 in
    rw (p.1, p.2) (no-count _ _ _ c.limits_for.ensures _ _ c.in_err-limits.was)

pub returns-then-not-takes : goal.returns-then-not-takes
returns-then-not-takes c =
    let o = offered-by _ _ _ c.limits_for.ensures _ c.in_ok-limits.was in
    elim c.then-not-takes.branch [
      | then-not-takes-via-then-not-takes w ↦ not-held _ _ _ _ o _ c.data_count.ensures _ c.takes.ensures _ refl w.if-not-takes.true
      | then-not-takes-via-else-not-takes+then-is_odd w ↦
          not-even _ _ _ _ o _ c.data_count.ensures _ c.takes.ensures _ w.is_odd.ensures w.if-not-takes.false w.if-is_odd.true
    ]

pub returns : goal.returns
returns c =
    is-drawable _ _ _ _ (offered-by _ _ _ c.limits_for.ensures _ c.in_ok-limits.was) _ c.data_count.ensures _ c.takes.ensures _ c.is_odd.ensures
    c.if-not-takes.false c.if-is_odd.false
