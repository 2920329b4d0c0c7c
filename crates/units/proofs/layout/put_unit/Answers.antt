-- `put_unit`: the parting space, and what the unit shows.
-- Assumes nothing.
use Rattle.std.proofs.Common.{sym, arith, length-append}
use Rattle.laws.proofs.Writing.{then, same_text}
use Rattle.units.proofs.Marks.{unit-shows, shown-length}
use Rattle.units.proofs.layout.put_unit.Goals as goal

pub put_shown-requires : goal.put_shown-requires
put_shown-requires c =
    let u = c.args.unit in
    let h = rw (unit-shows c.args.sets.now u c.args.c c.requires.elements_value.1.1, length-append, shown-length c.args.sets.now u c.args.c c.requires.elements_value.1.1 c.requires.elements_value.0) at c.requires.c_in_bounds in
    let g = c.put_gap-at.ensures in
    record { elements_value = c.requires.elements_value; elements_in_bounds = omega (arith, g.behind, g.long) }

pub returns : goal.returns
returns c =
    same_text (sym (unit-shows c.args.sets.now c.args.unit c.args.c c.requires.elements_value.1.1)) (then c.put_gap-at.ensures c.put_shown.ensures)
