-- `pairs`: from place 2 i on stand the digits, and before place i the rows are as they were.
-- Assumes nothing.
use Rattle.std.proofs.Common.{zero-add, arith}
use Rattle.reads.proofs.Characters.{full}
use Rattle.reads.proofs.chars.pairs.Goals as goal

pub returns : goal.returns
returns c = full _ c.requires.n_bound.1 _ _ _ c.loop-i.invariant (omega arith) (λ j h. rw zero-add (c.requires.behind j h))
