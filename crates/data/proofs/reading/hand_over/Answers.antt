-- `hand_over`: 12 by what is measured, 7 by the last character, 8 by the room, and then the data.
-- Assumes nothing.
use Rattle.std.proofs.Common.{◌≡◌, sym, ◌∙◌, arith}
use Rattle.std.proofs.lemmas.Result.{err_from_is_err_and}
use Rattle.words.specs.Order.{gives}
use Rattle.symbologies.specs.Symbologies.{symbology_of}
use Rattle.data.specs.Held.{read_data}
use Rattle.data.proofs.Readings.{turned-away, too_short, handed-over, mapped, no-expansion, measured-all, bad-check, plain-data, right-data}
use Rattle.data.proofs.reading.hand_over.Goals as goal
use Rattle.data.proofs.reading.hand_over.Goals.{else-mode-ne0-via-then-mode-ne0+else-codes-last, else-mode-ne0-via-else-mode-ne0}

pub returns-in_err-measured : goal.returns-in_err-measured
returns-in_err-measured c =
    let p = err_from_is_err_and c.from_residual.result c.from_residual.ensures.1 in
    let q = sym (mapped _ _ c.map_err.ensures.cases) ∙ c.in_err-measured.was in
    let both = turned-away _ _ _ (no-expansion c.args.symbology _ _ c.requires _ c.spelling-spelled.ensures _ c.measure.ensures _ q) in
    record { value = rw (p.1, p.2) both.0; out_after = both.1 }

pub returns-then-codes-last : goal.returns-then-codes-last
returns-then-codes-last c =
    let q = sym (mapped _ _ c.map_err.ensures.cases) ∙ c.in_ok-measured.was in
    let w = measured-all c.args.symbology _ _ c.requires _ c.spelling-spelled.ensures _ c.measure.ensures _ q in
    let both = turned-away _ _ _ (bad-check c.args.symbology _ _ c.requires _ c.spelling-spelled.ensures _ w c.if-mode-ne0.true _ c.check.ensures c.if-codes-last.true) in
    record { value = both.0; out_after = both.1 }

pub returns-then-out-bytes : goal.returns-then-out-bytes
returns-then-out-bytes c =
    let q = sym (mapped _ _ c.map_err.ensures.cases) ∙ c.in_ok-measured.was in
    let w = measured-all c.args.symbology _ _ c.requires _ c.spelling-spelled.ensures _ c.measure.ensures _ q in
    let d : read_data (symbology_of c.args.symbology) c.args.mode c.args.codes.now ≡ gives w.text
    = elim c.else-mode-ne0.branch [
      | else-mode-ne0-via-then-mode-ne0+else-codes-last u ↦ right-data c.args.symbology _ _ c.requires _ c.spelling-spelled.ensures _ w u.if-mode-ne0.true _ u.check.ensures u.if-codes-last.false
      | else-mode-ne0-via-else-mode-ne0 u ↦ plain-data c.args.symbology _ _ c.requires _ c.spelling-spelled.ensures _ w u.if-mode-ne0.false
    ] in
    let both = too_short _ _ w.text d _ w.bytes c.if-out-bytes.true in
    record { value = both.0; out_after = both.1 }

pub write_text-requires : goal.write_text-requires
write_text-requires c =
    let q = sym (mapped _ _ c.map_err.ensures.cases) ∙ c.in_ok-measured.was in
    let w = measured-all c.args.symbology _ _ c.requires _ c.spelling-spelled.ensures _ c.measure.ensures _ q in
    record { text = w.text; is = w.is; fits = omega (arith, w.bytes, c.if-out-bytes.false) }

pub returns : goal.returns
returns c =
    let q = sym (mapped _ _ c.map_err.ensures.cases) ∙ c.in_ok-measured.was in
    let w = measured-all c.args.symbology _ _ c.requires _ c.spelling-spelled.ensures _ c.measure.ensures _ q in
    let d : read_data (symbology_of c.args.symbology) c.args.mode c.args.codes.now ≡ gives w.text
    = elim c.else-mode-ne0.branch [
      | else-mode-ne0-via-then-mode-ne0+else-codes-last u ↦ right-data c.args.symbology _ _ c.requires _ c.spelling-spelled.ensures _ w u.if-mode-ne0.true _ u.check.ensures u.if-codes-last.false
      | else-mode-ne0-via-else-mode-ne0 u ↦ plain-data c.args.symbology _ _ c.requires _ c.spelling-spelled.ensures _ w u.if-mode-ne0.false
    ] in
    let both = handed-over _ _ w.text d _ w.bytes c.if-out-bytes.false _ (rw w.is at c.write_text.ensures) in
    record { value = both.0; out_after = both.1 }
