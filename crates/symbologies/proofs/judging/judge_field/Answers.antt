-- `judge_field`: each return is one law of Verdicts, by what the tests before it said.
-- Assumes nothing.
use Rattle.std.proofs.lemmas.Result.{err_from_is_err_and}
use Rattle.symbologies.proofs.Fields.{some-nonzero, all-zero}
use Rattle.symbologies.proofs.Verdicts.{offered-by, no-field, bad-count, not-zero, all-zeros}
use Rattle.symbologies.proofs.judging.judge_field.Goals as goal

pub returns-in_err-limits : goal.returns-in_err-limits
returns-in_err-limits c =
    let p = err_from_is_err_and c.from_residual.result c.from_residual.ensures.1 in
    rw (p.1, p.2) (no-field _ _ _ c.limits_for.ensures _ _ _ c.in_err-limits.was)

pub returns-then-not-takes : goal.returns-then-not-takes
returns-then-not-takes c =
    bad-count _ _ _ (offered-by _ _ _ c.limits_for.ensures _ c.in_ok-limits.was) _ _ _ c.takes.ensures c.then-not-takes.either

pub returns-in-Some : goal.returns-in-Some
returns-in-Some c =
    not-zero _ _ _ (offered-by _ _ _ c.limits_for.ensures _ c.in_ok-limits.was) _ _ _ c.takes.ensures c.if-not-takes.false c.if-field-count.false _
    (some-nonzero c.args.count c.args.field.now _ c.first_nonzero.ensures _ c.in-Some.is)

pub returns-in-None : goal.returns-in-None
returns-in-None c =
    all-zeros _ _ _ (offered-by _ _ _ c.limits_for.ensures _ c.in_ok-limits.was) _ _ _ c.takes.ensures c.if-not-takes.false c.if-field-count.false
    (all-zero c.args.count c.args.field.now _ c.first_nonzero.ensures c.in-None.is)
