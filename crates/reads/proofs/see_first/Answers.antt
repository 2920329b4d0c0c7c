-- The sets of the left units must have a first digit; it goes to the free place, and the row is EAN-13's.
-- Assumes nothing.
use Rattle.std.proofs.Common.{rules, tests}
use Rattle.std.proofs.lemmas.Result.{err_from_is_err_and}
use Rattle.tables.specs.Ean.{first_digit}
use Rattle.reads.proofs.Seeing.{is-first, is-none, no-first, first-row}
use Rattle.reads.proofs.see_first.Goals as goal

pub returns-in_err-codes : goal.returns-in_err-codes
returns-in_err-codes c =
    let p = err_from_is_err_and c.from_residual.result c.from_residual.ensures.1 in
    let q = is-none (first_digit c.sides.result) (search (rules, tests)) c.ok_or.ensures.value c.in_err-codes.was in
    rw (p.1, p.2, ← q.1) (no-first c.args.codes.now _ c.sides.ensures.value _ q.0)

pub returns : goal.returns
returns c =
    let q = is-first (first_digit c.sides.result) (search (rules, tests)) c.ok_or.ensures.value c.in_ok-codes.was in
    rw (← q.1) (first-row c.args.codes.now _ c.sides.ensures.value c.sides.new.codes q.0 c.requires.codes_bound.1.1 c.sides.array_long c.sides.ensures.digits)
