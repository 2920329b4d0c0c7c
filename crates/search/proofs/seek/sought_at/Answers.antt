-- `sought_at` makes the tests of the definition, in its order.
-- Assumes nothing.
use Rattle.std.proofs.Common.{◌≡◌, ◌+◌, ◌-◌, ◌∙◌, arith}
use Rattle.search.proofs.Places.{sought-begun}
use Rattle.search.proofs.seek.sought_at.Goals as goal

pub returns-in-Ok : goal.returns-in-Ok
returns-in-Ok c =
    let s = rw c.in-Ok.is at (sought-begun c.args.strip.now c.args.place.0 c.args.sets.now c.args.unit c.begin.ensures) in
    let e : c.in-Ok.at + c.args.unit.elements - c.in-Ok.at ≡ c.args.unit.elements = omega arith in
    rw e at c.seek.ensures ∙ s

pub returns-in-Err : goal.returns-in-Err
returns-in-Err c =
    let s = rw c.in-Err.is at (sought-begun c.args.strip.now c.args.place.0 c.args.sets.now c.args.unit c.begin.ensures) in
    c.nowhere.ensures ∙ s
