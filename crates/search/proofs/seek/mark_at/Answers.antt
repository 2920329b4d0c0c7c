-- `mark_at` makes the tests of the definition, in its order.
-- Assumes nothing.
use Rattle.std.proofs.Common.{rules, ne_eqb, ◌≡◌, ◌+◌, ◌-◌, ◌∙◌, arith}
use Rattle.search.specs.Sought.{mark_of}
use Rattle.search.proofs.Places.{begun-long, mark-begun}
use Rattle.search.proofs.seek.mark_at.Goals as goal

pub returns-then-k-eq0 : goal.returns-then-k-eq0
unfolding mark_of
returns-then-k-eq0 c = search rules

pub returns-in-Ok : goal.returns-in-Ok
returns-in-Ok c =
    let m = rw c.in-Ok.is at (mark-begun c.args.strip.now c.args.place.0 c.args.mark (ne_eqb c.args.mark.elements 0 c.if-k-eq0.false) c.begin.ensures) in
    let k = c.args.mark.elements in
    let at = c.in-Ok.at in
    let e : at + k - at ≡ k = omega arith in
    let w = rw (e, begun-long c.args.mark.gap c.args.strip.now c.args.place.0 k at c.begin.ensures c.in-Ok.is) at c.word_of.ensures in
    rw (c.new-in-Ok.ensures, w) m

pub returns-in-Err : goal.returns-in-Err
returns-in-Err c =
    let m = rw c.in-Err.is at (mark-begun c.args.strip.now c.args.place.0 c.args.mark (ne_eqb c.args.mark.elements 0 c.if-k-eq0.false) c.begin.ensures) in
    c.new-in-Err.ensures ∙ m
