-- `modules_of`: the most modules for each character, and the base, less what the characters have less.
-- Assumes nothing.
use Rattle.std.proofs.Common.{arith}
use Rattle.symbologies.proofs.Measuring.{less-under, modules-by}
use Rattle.symbologies.proofs.lengths.modules_of.Goals as goal

pub overflow_sub-limits : goal.overflow_sub-limits
overflow_sub-limits c =
    omega (arith, c.less_in-less.ensures, less-under _ _ c.limits_of-limits.ensures c.args.row.now.codes c.args.row.now.len (omega (arith, c.if-row-gt-PLACES.false)))

pub returns : goal.returns
returns c =
    modules-by _ _ c.limits_of-limits.ensures c.args.row.now.codes _ (omega (arith, c.if-row-gt-PLACES.false)) _ _ c.if-row-gt-PLACES.false c.less_in-less.ensures c.saturating_sub.ensures
