-- `read_parts`: a part a turn, in its order, until one stops or none is left.
-- Assumes nothing.
use Rattle.reads.proofs.Parts.{Left}
use Rattle.reads.proofs.walk.read_parts.Given as goal

abbrev pub invariant-loop-i : goal.invariant-loop-i
invariant-loop-i l = Left l.symbology l.n l.strip l.fn.codes l.i l.at.0 l.place l.codes
