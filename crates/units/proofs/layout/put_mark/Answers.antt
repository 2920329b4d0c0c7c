-- `put_mark`: nothing, or the parting space and the mark's row.
-- Assumes nothing.
use Rattle.std.proofs.Common.{sym, arith, length-append}
use Rattle.laws.proofs.Writing.{then, same_text}
use Rattle.shapes.proofs.Words.{row-length}
use Rattle.units.proofs.Marks.{mark-some, mark-sized}
use Rattle.units.proofs.layout.put_mark.Goals as goal

pub put_row-requires : goal.put_row-requires
put_row-requires c =
    let m = c.args.mark in
    let n = c.if-k-eq0.false in
    let z = mark-sized m c.requires.elements_value n in
    let h = rw (mark-some m n, length-append, row-length m.elements m.word z.1) at c.requires.mark_in_bounds in
    let g = c.put_gap-at.ensures in
    (z.0, (z.1, omega (arith, g.behind, g.long)))

pub returns : goal.returns
returns c =
    let m = c.args.mark in
    same_text (sym (mark-some m c.if-k-eq0.false)) (then c.put_gap-at.ensures c.put_row.ensures)
