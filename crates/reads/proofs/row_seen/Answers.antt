-- The count that a length gives passes 1, 2 and 9, and then the units are read, or it does not, and its answer is the strip's.
-- Assumes nothing.
use Rattle.std.proofs.Common.{◌∙◌, sym, refl}
use Rattle.std.proofs.lemmas.Result.{err_from_is_err_and}
use Rattle.reads.proofs.Seeing.{given_counted, turned-seen, given-seen, refused-seen}
use Rattle.reads.proofs.row_seen.Goals as goal

pub returns-in_err-judge_count : goal.returns-in_err-judge_count
returns-in_err-judge_count c =
    let p = err_from_is_err_and c.from_residual.result c.from_residual.ensures.1 in
    rw (p.1, p.2) (turned-seen _ _ _ _ c.count_for-n.ensures _ (sym c.judge_count.ensures ∙ c.in_err-judge_count.was))

pub read_strip-requires : goal.read_strip-requires
read_strip-requires c = (given_counted _ _ _ (sym c.judge_count.ensures ∙ c.in_ok-judge_count.was), refl)

pub returns-in-Ok : goal.returns-in-Ok
returns-in-Ok c =
    let seen = rw c.in-Ok.is at c.read_strip.ensures in
    rw (c.give.ensures.value, c.give.ensures.row_after)
    (given-seen _ _ _ _ c.count_for-n.ensures _ (sym c.judge_count.ensures ∙ c.in_ok-judge_count.was) seen)

pub returns-in-Err : goal.returns-in-Err
returns-in-Err c =
    let seen = rw c.in-Err.is at c.read_strip.ensures in
    c.refuse.ensures ∙ refused-seen _ _ _ _ c.count_for-n.ensures _ _ (sym c.judge_count.ensures ∙ c.in_ok-judge_count.was) seen
