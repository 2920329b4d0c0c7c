-- `data_of`: a row whose count does not pass is turned away with the count's answer; one whose count passes is read.
-- Assumes nothing.
use Rattle.std.proofs.Common.{◌≡◌, sym, ◌∙◌, arith, length, take, length-take-le}
use Rattle.std.proofs.lemmas.Result.{err_from_is_err_and}
use Rattle.data.proofs.Readings.{turned-away, count-turned, count-given, count_fits}
use Rattle.data.proofs.reading.data_of.Goals as goal

pub returns-in_err-judge_count : goal.returns-in_err-judge_count
returns-in_err-judge_count c =
    let p = err_from_is_err_and c.from_residual.result c.from_residual.ensures.1 in
    let both = turned-away _ _ _ (count-turned c.args.symbology c.args.mode c.args.row.now _ (sym c.judge_count.ensures ∙ c.in_err-judge_count.was)) in
    record { value = rw (p.1, p.2) both.0; out_after = both.1 }

pub shared_ref_as_front-hand_over : goal.shared_ref_as_front-hand_over
shared_ref_as_front-hand_over c =
    let f = count_fits c.args.symbology c.args.mode c.args.row.now (sym c.judge_count.ensures ∙ c.in_ok-judge_count.was) in
    omega (arith, f.1.1)

pub hand_over-requires : goal.hand_over-requires
hand_over-requires c =
    let f = count_fits c.args.symbology c.args.mode c.args.row.now (sym c.judge_count.ensures ∙ c.in_ok-judge_count.was) in
    let long : length (take c.args.row.now.len c.args.row.now.codes) ≡ c.args.row.now.len = length-take-le _ _ (omega (arith, f.1.1)) in
    (f.0, (omega (arith, long, f.1.0), omega (arith, long, f.1.1)))

pub returns : goal.returns
returns c =
    let h = c.hand_over.ensures in
    let e = count-given c.args.symbology c.args.mode c.args.row.now (sym c.judge_count.ensures ∙ c.in_ok-judge_count.was) in
    record { value = rw e h.value; out_after = rw e h.out_after }
