-- `count_digits`: one more than the power of ten that the number reaches.
-- Assumes nothing.
use Rattle.lines.proofs.Digits.{counted}
use Rattle.lines.proofs.text.count_digits.Goals as goal

pub returns-clause-value : goal.returns-clause-value
returns-clause-value c =
    let e = c.checked_ilog10.ensures in
    rw c.unwrap_or.ensures (counted c.args.n c.checked_ilog10.result e.none e.power_le e.next_power_gt e.bound)
