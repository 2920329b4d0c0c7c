-- `put_pair`: a bar and a space more a turn.
-- Assumes nothing.
use Rattle.std.proofs.Common.{◌+◌, ◌*◌, take}
use Rattle.laws.specs.Writing.{Put}
use Rattle.tables.specs.Bits.{weave}
use Rattle.writers.proofs.put_pair.Given as goal

abbrev pub invariant-loop-i : goal.invariant-loop-i
invariant-loop-i l = Put l.initial.out l.at (weave (take l.i l.bars) (take l.i l.spaces)) l.out (l.at + 2 * l.i)
