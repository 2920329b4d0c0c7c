-- `put_digits`: the digits to come, before those that stand, are the number's all along.
-- Assumes nothing.
use Rattle.std.proofs.Common.{◌≡◌, ◌++◌, drop}
use Rattle.lines.specs.Text.{decimal}
use Rattle.lines.proofs.Digits.{fixed}
use Rattle.lines.proofs.text.put_digits.Given as goal

abbrev pub invariant-loop-i : goal.invariant-loop-i
invariant-loop-i l = fixed l.i l.left ++ drop l.i l.digits ≡ decimal l.n
