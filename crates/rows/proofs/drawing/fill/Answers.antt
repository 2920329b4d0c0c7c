-- `fill`: 4 by how the spelling ended, 5 and 6 by the number of what is drawn, and then what `close` says.
-- Assumes nothing.
use Rattle.std.proofs.Common.{◌∙◌, sym, arith}
use Rattle.std.proofs.lemmas.Result.{err_from_is_err_and}
use Rattle.symbologies.specs.Symbologies.{symbology_of}
use Rattle.symbologies.proofs.Proper.{last-place}
use Rattle.symbologies.proofs.Verdicts.{drawn-few}
use Rattle.rows.proofs.Returns.{bad-byte, some-chars, few-chars, not-drawn, let-close}
use Rattle.rows.proofs.drawing.fill.Goals as goal

pub returns-in_err-sum : goal.returns-in_err-sum
returns-in_err-sum c =
    let p = err_from_is_err_and c.from_residual.result c.from_residual.ensures.1 in
    rw (p.1, p.2) (bad-byte (symbology_of c.args.symbology) c.args.mode c.args.text.now _ c.in_err-sum.ensures)

pub drawn_count-requires : goal.drawn_count-requires
drawn_count-requires c = few-chars c.args.symbology _ _ _ _ c.in_ok-sum.ensures c.requires.1.0.1

pub returns-in_err-judge_drawn : goal.returns-in_err-judge_drawn
returns-in_err-judge_drawn c =
    let p = err_from_is_err_and c.from_residual-in_err-judge_drawn.result c.from_residual-in_err-judge_drawn.ensures.1 in
    rw (p.1, p.2) (not-drawn c.args.symbology _ _ _ _ c.in_ok-sum.ensures _ c.drawn_count.ensures _ (sym c.judge_drawn.ensures ∙ c.in_err-judge_drawn.was))

pub close-requires : goal.close-requires
close-requires c =
    let v = drawn-few c.args.symbology _ (sym c.judge_drawn.ensures ∙ c.in_ok-judge_drawn.was) in
    (c.requires.0, (some-chars c.args.symbology _ _ _ _ c.in_ok-sum.ensures c.requires.1.0.0, omega (arith, c.drawn_count.ensures, v)))

pub returns : goal.returns
returns c =
    let w = c.in_ok-sum.ensures in
    c.close.ensures (symbology_of c.args.symbology) w.body (last-place c.args.symbology) w.row_is (c.check.ensures ∙ w.check)
    ∙ let-close c.args.symbology _ _ _ _ w _ c.drawn_count.ensures (sym c.judge_drawn.ensures ∙ c.in_ok-judge_drawn.was)
