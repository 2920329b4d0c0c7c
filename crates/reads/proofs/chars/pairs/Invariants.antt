-- `pairs`: from place 2 i on stand the digits, and before place i the rows are as they were.
-- Assumes nothing.
use Rattle.reads.specs.Walk.{shown_in}
use Rattle.reads.proofs.Characters.{Paired}
use Rattle.reads.proofs.chars.pairs.Given as goal

abbrev pub invariant-loop-i : goal.invariant-loop-i
invariant-loop-i l = Paired (shown_in 5 l.initial.codes) l.n l.codes l.i
