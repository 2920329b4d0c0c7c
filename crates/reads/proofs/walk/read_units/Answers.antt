-- `read_units` makes the definition's turns: what is sought at the position is sought in the strip, and what each set gives goes on.
-- Assumes nothing.
use Rattle.std.proofs.Common.{◌≡◌, ◌-◌, ◌<◌, List, ℕ, length, sym, ap, subst, ◌∙◌, arith}
use Rattle.shapes.specs.declared.parts.Unit.{Unit as Like}
use Rattle.shapes.specs.Searched.{found_by}
use Rattle.search.specs.declared.seek.Sought.{Sought}
use Rattle.search.specs.Sought.{sought_of, Bounded}
use Rattle.search.proofs.Bounds.{sought-bounded}
use Rattle.reads.proofs.Turns.{comes, one_more, set_more}
use Rattle.reads.proofs.walk.read_units.Goals as goal

over : (sets : List (List ℕ)) (u : Like) {s t : List ℕ} (at : ℕ) {q : Sought} → q ≡ sought_of sets u s at → s ≡ t → q ≡ sought_of sets u t at
over sets u at e o = e ∙ ap (λ (t : List ℕ). sought_of sets u t at) o

pub loop-i-init : goal.loop-i-init
loop-i-init c =
    let a = c.args in
    let u = c.units in
    let e = over a.sets.now a.unit u.p.at.0 c.sought-sought.ensures u.invariant.over in
    one_more a.sets.now a.unit a.strip.now (length a.codes.now - u.place) u.p.at.0 u.place u.codes c.sought-sought.result (omega arith) e ∙ u.invariant.same

pub found_in-found-requires : goal.found_in-found-requires
found_in-found-requires c =
    let a = c.args in
    let u = c.units in
    let e = over a.sets.now a.unit u.p.at.0 c.sought-sought.ensures u.invariant.over in
    let k : c.loop-i.i - 1 < c.sought-sought.result.sets = omega arith in
    subst (λ (z : Sought). Bounded (length a.sets.now) z (c.loop-i.i - 1)) (sym e)
    (sought-bounded a.sets.now a.unit a.strip.now u.p.at.0 (c.loop-i.i - 1) c.requires (subst (λ (z : Sought). c.loop-i.i - 1 < z.sets) e k))

pub loop-i-preserved : goal.loop-i-preserved
loop-i-preserved c =
    let a = c.args in
    let u = c.units in
    let y = c.sought-sought.result in
    ap (comes a.sets.now a.unit a.strip.now (length a.codes.now - u.place) u.place u.codes y)
    (ap (found_by a.sets.now y.set y.first y.word (c.loop-i.i - 1)) c.found_in-found.ensures ∙ set_more a.sets.now y c.loop-i.i c.loop-i.found (omega arith))
    ∙ c.loop-i.invariant
