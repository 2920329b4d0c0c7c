-- `is_shift`: /, + and % begin a pair, where full ASCII is drawn.
-- Assumes nothing.
use Rattle.std.proofs.Common.{◌∙◌, arith, ne_eqb}
use Rattle.coders.proofs.Numbers.{as-shift, shift-low, shift-mid, shift-high, unshifted}
use Rattle.coders.proofs.is_shift.Goals as goal

pub returns-in-40 : goal.returns-in-40
returns-in-40 c = shift-mid _ _ _ c.if-drawn_as-eq2.true (omega arith) (omega arith) ∙ as-shift _ _ _ _ _ c.drawn_as.ensures

pub returns-in_default : goal.returns-in_default
returns-in_default c = shift-low _ _ _ c.if-drawn_as-eq2.true (omega arith) ∙ as-shift _ _ _ _ _ c.drawn_as.ensures

pub returns-in_default-2 : goal.returns-in_default-2
returns-in_default-2 c = shift-high _ _ _ c.if-drawn_as-eq2.true (omega arith) ∙ as-shift _ _ _ _ _ c.drawn_as.ensures

pub returns-else-drawn_as-eq2 : goal.returns-else-drawn_as-eq2
returns-else-drawn_as-eq2 c = ne_eqb _ 2 c.if-drawn_as-eq2.false ∙ unshifted _ _ _ c.if-drawn_as-eq2.false ∙ as-shift _ _ _ _ _ c.drawn_as.ensures
