-- `seek_pair`: the bars are five of the first nine elements, the spaces five of the last nine.
-- Assumes nothing.
use Rattle.std.proofs.Common.{arith}
use Rattle.search.proofs.Matches.{digit-bound}
use Rattle.search.proofs.seek.seek_pair.Goals as goal

pub overflow_mul-digit : goal.overflow_mul-digit
overflow_mul-digit c = omega (arith, c.digit_in-digit.ensures, digit-bound c.args.sets.now c.args.set c.five_of.result)
