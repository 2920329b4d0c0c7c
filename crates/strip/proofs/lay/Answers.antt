-- `lay`: an answer is handed on, a row is laid out.
-- Assumes nothing.
use Rattle.std.proofs.lemmas.Result.{err_from_is_err_and}
use Rattle.symbologies.specs.Told.{filled_as}
use Rattle.strip.proofs.Calls.{turned-away, row-ready, laid_out}
use Rattle.strip.proofs.lay.Goals as goal

pub draw_row-requires : goal.draw_row-requires
draw_row-requires c =
    let a = c.args in
    let r = c.row_of_field in
    row-ready a.kind a.mode a.count a.field.now (filled_as r.result r.new.row) r.ensures c.in_ok-row_of_field.was

pub returns-in_err-row_of_field : goal.returns-in_err-row_of_field
returns-in_err-row_of_field c =
    let a = c.args in
    let r = c.row_of_field in
    let p = err_from_is_err_and c.from_residual.result c.from_residual.ensures.1 in
    let both = turned-away a.kind a.mode a.count a.field.now a.out.now (filled_as r.result r.new.row) _ r.ensures c.in_err-row_of_field.was in
    record { value = rw (p.1, p.2) both.0; out_after = both.1 }

pub returns : goal.returns
returns c =
    let a = c.args in
    let r = c.row_of_field in
    let d = c.draw_row in
    let both = laid_out a.kind a.mode a.count a.field.now (filled_as r.result r.new.row) r.ensures c.in_ok-row_of_field.was a.out.now d.new.out d.result
    d.ensures.value d.ensures.out_after in
    record { value = both.0; out_after = both.1 }
