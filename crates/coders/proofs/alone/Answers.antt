-- `alone` finds the byte that draws a character: each arm is one of the four coders, by the symbology of `drawn_as`.
-- Assumes nothing.
use Rattle.std.proofs.Common.{sym, ◌∙◌, rules, tests}
use Rattle.coders.proofs.Numbers.{as-for, alone-first, alone-full, alone-third, out-third, alone-others}
use Rattle.coders.proofs.alone.Goals as goal

pub returns-in-1 : goal.returns-in-1
returns-in-1 c = alone-first _ _ _ _ c.in-1.is c.byte.ensures ∙ as-for _ _ _ _ _ c.drawn_as.ensures

pub returns-in-2 : goal.returns-in-2
returns-in-2 c = alone-full _ _ _ _ c.in-2.is c.alone.ensures ∙ as-for _ _ _ _ _ c.drawn_as.ensures

pub returns-then-is_placed : goal.returns-then-is_placed
returns-then-is_placed c =
    alone-third _ _ _ _ _ c.in-3.is c.is_end.ensures (sym c.is_placed.ensures ∙ c.if-is_placed.true) c.byte-then-is_placed.ensures
    ∙ as-for _ _ _ _ _ c.drawn_as.ensures

pub returns-else-is_placed : goal.returns-else-is_placed
returns-else-is_placed c =
    out-third _ _ _ _ c.in-3.is c.is_end.ensures (sym c.is_placed.ensures ∙ c.if-is_placed.false) ∙ as-for _ _ _ _ _ c.drawn_as.ensures

pub returns-in_default : goal.returns-in_default
returns-in_default c =
    alone-others _ _ _ _ (search rules) (search rules) (search rules) (search (rules, tests)) ∙ as-for _ _ _ _ _ c.drawn_as.ensures
