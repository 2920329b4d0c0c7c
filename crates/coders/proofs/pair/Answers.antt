-- `pair`: the three shift characters, each with the bytes that stand behind it, where full ASCII is drawn.
-- Assumes nothing.
use Rattle.std.proofs.Common.{◌∙◌, rules}
use Rattle.coders.proofs.Numbers.{as-for, unpaired, pair-full, pair-none}
use Rattle.coders.proofs.pair.Goals as goal

pub returns-then-drawn_as-ne2 : goal.returns-then-drawn_as-ne2
returns-then-drawn_as-ne2 c = unpaired _ _ _ _ c.if-drawn_as-ne2.true ∙ as-for _ _ _ _ _ c.drawn_as.ensures

pub returns-in-40 : goal.returns-in-40
returns-in-40 c =
    c.behind_slash.ensures ∙ pair-full _ _ _ _ _ c.if-drawn_as-ne2.false c.in-40.is ∙ as-for _ _ _ _ _ c.drawn_as.ensures

pub returns-in-41 : goal.returns-in-41
returns-in-41 c =
    c.behind_plus.ensures ∙ pair-full _ _ _ _ _ c.if-drawn_as-ne2.false c.in-41.is ∙ as-for _ _ _ _ _ c.drawn_as.ensures

pub returns-in-42 : goal.returns-in-42
returns-in-42 c =
    c.behind_percent.ensures ∙ pair-full _ _ _ _ _ c.if-drawn_as-ne2.false c.in-42.is ∙ as-for _ _ _ _ _ c.drawn_as.ensures

pub returns-in_default : goal.returns-in_default
returns-in_default c =
    pair-none _ _ _ _ c.if-drawn_as-ne2.false (search rules) (search rules) (search rules) ∙ as-for _ _ _ _ _ c.drawn_as.ensures
