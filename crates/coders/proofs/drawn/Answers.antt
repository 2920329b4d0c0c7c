-- `drawn`: each arm is one of the four coders, by the symbology of `drawn_as`, which but for full ASCII is the own one.
-- Assumes nothing.
use Rattle.std.proofs.Common.{◌≡◌, ◌∙◌, rules, tests, arith}
use Rattle.std.proofs.lemmas.Map.Entries.{option_filter}
use Rattle.symbologies.specs.Coders.{placed}
use Rattle.coders.proofs.Numbers.{as-drawn, itself, raw, first-by, drawn-full, drawn-third, drawn-others}
use Rattle.coders.proofs.drawn.Goals as goal

pub returns-in-1 : goal.returns-in-1
returns-in-1 c = first-by c.args.byte _ _ c.plain.ensures c.in-1.is (search (rules, tests)) ∙ as-drawn _ _ _ _ _ (itself _ _ _ (λ q. omega (arith, c.in-1.is, q)))

pub returns-in-2 : goal.returns-in-2
returns-in-2 c = c.drawn.ensures ∙ drawn-full _ _ _ c.if-drawn_as-eq2.true ∙ as-drawn _ _ _ _ _ c.drawn_as.ensures

pub returns-in-2-2 : goal.returns-in-2-2
returns-in-2-2 c =
    first-by c.args.byte _ _ c.plain-in-2-2.ensures (raw _ _ _ _ c.in-2.is c.drawn_as.ensures c.if-drawn_as-eq2.false) (search (rules, tests))
    ∙ as-drawn _ _ _ _ _ c.drawn_as.ensures

pub returns-in-3 : goal.returns-in-3
returns-in-3 c =
    let kept : c.filter.result ≡ option_filter (placed c.is_end-end.result) c.value-in-3.result = search (rules, tests) in
    c.plain-in-3.ensures
    ∙ drawn-third _ _ _ _ _ c.in-3.is c.is_end-end.ensures (rw c.value-in-3.ensures at kept)
    ∙ as-drawn _ _ _ _ _ (itself _ _ _ (λ q. omega (arith, c.in-3.is, q)))

pub returns-in_default : goal.returns-in_default
returns-in_default c =
    c.plain-in_default.ensures
    ∙ drawn-others _ _ _ _ (search rules) (search rules) (search rules) c.value-in_default.ensures
    ∙ as-drawn _ _ _ _ _ (itself c.args.symbology _ _ (search rules))
