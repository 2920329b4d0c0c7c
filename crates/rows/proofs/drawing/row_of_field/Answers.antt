-- `row_of_field`: 1, 2, 3, 13 by the verdict on the field, and then what `fill` says.
-- Assumes nothing.
use Rattle.std.proofs.Common.{◌∙◌, refl, sym, length-take-le}
use Rattle.std.proofs.lemmas.Result.{err_from_is_err_and}
use Rattle.symbologies.proofs.Verdicts.{Held, field-held}
use Rattle.rows.proofs.Returns.{field-turned, field-given}
use Rattle.rows.proofs.drawing.row_of_field.Goals as goal

pub returns-in_err-judge_field : goal.returns-in_err-judge_field
returns-in_err-judge_field c =
    let a = c.args in
    let p = err_from_is_err_and c.from_residual.result c.from_residual.ensures.1 in
    rw (p.1, p.2) (field-turned a.symbology a.mode a.count a.field.now _ (sym c.judge_field.ensures ∙ c.in_err-judge_field.was))

pub slice_bounds-fill-end : goal.slice_bounds-fill-end
slice_bounds-fill-end c =
    let a = c.args in
    sym (length-take-le a.count a.field.now (field-held a.symbology a.mode a.count a.field.now (sym c.judge_field.ensures ∙ c.in_ok-judge_field.was)).within)

pub fill-requires : goal.fill-requires
fill-requires c =
    let a = c.args in
    let h : Held a.mode a.count a.field.now = field-held a.symbology a.mode a.count a.field.now (sym c.judge_field.ensures ∙ c.in_ok-judge_field.was) in
    (h.mode, ((h.some, h.few), refl))

pub returns-in-Ok : goal.returns-in-Ok
returns-in-Ok c =
    let a = c.args in
    c.in-Ok.ensures ∙ field-given a.symbology a.mode a.count a.field.now (sym c.judge_field.ensures ∙ c.in_ok-judge_field.was)

pub returns-in-Err : goal.returns-in-Err
returns-in-Err c =
    let a = c.args in
    c.refuse.ensures ∙ c.in-Err.ensures ∙ field-given a.symbology a.mode a.count a.field.now (sym c.judge_field.ensures ∙ c.in_ok-judge_field.was)
