-- `put_parts`: a part a turn, in its order, until none is left.
-- Assumes nothing.
use Rattle.std.proofs.Common.{◌+◌, length}
use Rattle.laws.specs.Units.{strip}
use Rattle.laws.specs.Writing.{put_in}
use Rattle.symbologies.specs.Strips.{units_of}
use Rattle.units.proofs.Parts.{Left}
use Rattle.units.proofs.layout.put_parts.Given as goal

abbrev pub invariant-loop-i : goal.invariant-loop-i
invariant-loop-i l =
    Left l.symbology l.n (put_in 0 (strip (units_of l.symbology l.n) l.choices) l.initial.out) (0 + length (strip (units_of l.symbology l.n) l.choices)) l.i l.rest l.out l.at.0
