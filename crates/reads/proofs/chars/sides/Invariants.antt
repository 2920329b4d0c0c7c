-- `sides`: before index i stand digits, from there on the rows, and the bits so far and those of the units that are left always end at the
-- same number.
-- Assumes nothing.
use Rattle.reads.specs.Walk.{shown_in}
use Rattle.reads.proofs.Characters.{Sided}
use Rattle.reads.proofs.chars.sides.Given as goal

abbrev pub invariant-loop-code : goal.invariant-loop-code
invariant-loop-code l = Sided (shown_in 7 l.fn.codes) l.code-items l.bits l.code-index
