-- `put_digits`: the digits to come, before those that stand, are the number's all along.
-- Assumes nothing.
use Rattle.std.proofs.Common.{arith, suc, ◌-◌, ◌≡◌}
use Rattle.lines.specs.Text.{decimal}
use Rattle.lines.proofs.Putting.{digits-start, digits-more}
use Rattle.lines.proofs.text.put_digits.Goals as goal

pub loop-i-init : goal.loop-i-init
loop-i-init c = digits-start c.args.digits.now c.args.n c.requires

pub loop-i-preserved : goal.loop-i-preserved
loop-i-preserved c =
    let l = c.loop-i in
    let e : l.i ≡ suc (l.i - 1) = omega arith in
    digits-more l.digits (decimal c.args.n) (l.i - 1) l.left (omega arith) (rw e at l.invariant)
