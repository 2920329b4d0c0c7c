-- `put_widths`: what stands are the digits of the widths so far.
-- Assumes nothing.
use Rattle.std.proofs.Common.{◌≡◌, take}
use Rattle.lines.specs.Text.{widths}
use Rattle.lines.proofs.text.put_widths.Given as goal

abbrev pub invariant-loop-i : goal.invariant-loop-i
invariant-loop-i l = take l.i l.digits ≡ widths (take l.i l.strip)
