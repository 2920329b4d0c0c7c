-- `hand_back`: an answer is handed on, the row that is seen is handed back as its data.
-- Assumes nothing.
use Rattle.std.proofs.lemmas.Result.{err_from_is_err_and}
use Rattle.symbologies.specs.Told.{filled_as}
use Rattle.strip.proofs.Hands.{read-away, read-over}
use Rattle.strip.proofs.hand_back.Goals as goal

pub returns-in_err-row_seen : goal.returns-in_err-row_seen
returns-in_err-row_seen c =
    let a = c.args in
    let r = c.row_seen in
    let p = err_from_is_err_and c.from_residual.result c.from_residual.ensures.1 in
    let both = read-away a.symbology a.mode a.strip.now a.out.now (filled_as r.result r.new.row) r.ensures _ c.in_err-row_seen.was in
    record { value = rw (p.1, p.2) both.0; out_after = both.1 }

pub returns-in_err-bytes : goal.returns-in_err-bytes
returns-in_err-bytes c =
    let a = c.args in
    let r = c.row_seen in
    let d = c.data_of in
    let p = err_from_is_err_and c.from_residual-in_err-bytes.result c.from_residual-in_err-bytes.ensures.1 in
    let both = read-over a.symbology a.mode a.strip.now a.out.now (filled_as r.result r.new.row) r.ensures c.in_ok-row_seen.was d.result d.new.out d.ensures.value d.ensures.out_after in
    record { value = rw (p.1, p.2) (rw c.in_err-bytes.was at both.0); out_after = both.1 }

pub returns : goal.returns
returns c =
    let a = c.args in
    let r = c.row_seen in
    let d = c.data_of in
    let both = read-over a.symbology a.mode a.strip.now a.out.now (filled_as r.result r.new.row) r.ensures c.in_ok-row_seen.was d.result d.new.out d.ensures.value d.ensures.out_after in
    record { value = rw c.modules_of.ensures (rw c.in_ok-bytes.was at both.0); out_after = both.1 }
