-- `found_in`: the row of the digit, where there is one.
-- Assumes nothing.
use Rattle.std.proofs.Common.{◌+◌, arith}
use Rattle.search.proofs.Matches.{digit-bound}
use Rattle.search.proofs.seek.found_in.Goals as goal

pub overflow_add-row-2 : goal.overflow_add-row-2
overflow_add-row-2 c =
    let a = c.args in
    omega (arith, c.requires.low, c.requires.few, c.digit_in-digit.ensures, digit-bound a.sets.now (a.sought.set + a.i) a.sought.word)
