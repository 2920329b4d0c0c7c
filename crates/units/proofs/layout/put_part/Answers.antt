-- `put_part`: the mark, and then a unit a turn.
-- Assumes nothing.
use Rattle.std.proofs.Common.{◌≡◌, arith, length, length-append, drop, drop_of_length-le, []}
use Rattle.laws.proofs.Writing.{then, rest_put, rest_end}
use Rattle.units.proofs.Parts.{sound-unit, next-choice}
use Rattle.units.proofs.layout.put_part.Goals as goal

pub put_unit-at-requires : goal.put_unit-at-requires
put_unit-at-requires c =
    let l = c.loop-choice in
    let a = c.args in
    let e = next-choice a.choices.now l.choice-index (omega arith) in
    let r = rw (e, length-append) at l.invariant.rest.ends in
    let z = sound-unit (length a.sets.now) a.part c.requires.part_value.0 (c.requires.part_value.1 (omega arith)) in
    record { elements_value = (z.0, (z.1, (rw e at l.invariant.small).0)); c_in_bounds = omega (arith, l.invariant.rest.long, l.invariant.rest.fits) }

pub loop-choice-preserved : goal.loop-choice-preserved
loop-choice-preserved c =
    let l = c.loop-choice in
    let e = next-choice c.args.choices.now l.choice-index (omega arith) in
    record { small = (rw e at l.invariant.small).1; rest = rest_put _ (rw e at l.invariant.rest) c.put_unit-at.ensures }

pub returns : goal.returns
returns c =
    let l = c.loop-choice in
    let m = c.put_mark-at.ensures in
    let h = rw length-append at c.requires.choices_in_bounds in
    let e : drop l.choice-index c.args.choices.now ≡ [] = drop_of_length-le c.args.choices.now (omega arith) in
    then m (rest_end _ _ _ (rw e at l.invariant.rest) (omega (arith, m.behind, m.long)))
