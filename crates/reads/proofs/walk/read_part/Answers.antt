-- `read_part`: the mark, and then its units.
-- Assumes nothing.
use Rattle.std.proofs.Common.{arith}
use Rattle.std.proofs.lemmas.Bool.{not-true, not-false}
use Rattle.reads.proofs.Units.{mark-small, unit-seekable, part-stops, part-goes}
use Rattle.reads.proofs.walk.read_part.Goals as goal

pub mark_at-mark-requires : goal.mark_at-mark-requires
mark_at-mark-requires c = mark-small c.args.sets.now c.args.part c.requires

pub returns-then-not-mark : goal.returns-then-not-mark
returns-then-not-mark c =
    let a = c.args in
    part-stops a.strip.now (λ i. omega (arith, c.type_inv.strip i)) a.sets.now a.part _ a.from.0 0 a.codes.now c.requires
    c.mark_at-mark.result c.mark_at-mark.ensures (not-true _ c.if-not-mark.true)

pub read_units-requires : goal.read_units-requires
read_units-requires c = unit-seekable c.args.sets.now c.args.part c.requires

pub returns : goal.returns
returns c =
    let a = c.args in
    part-goes a.strip.now (λ i. omega (arith, c.type_inv.strip i)) a.sets.now a.part _ a.from.0 0 a.codes.now c.requires
    c.mark_at-mark.result c.mark_at-mark.ensures (omega arith) (not-false _ c.if-not-mark.false) _ _ c.read_units.ensures.0 c.read_units.ensures.1
