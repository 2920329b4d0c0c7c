-- `put_part`: the mark, and then a unit a turn.
-- Assumes nothing.
use Rattle.std.proofs.Common.{◌+◌, length, drop}
use Rattle.laws.specs.Writing.{put_in}
use Rattle.laws.proofs.Writing.{Rest}
use Rattle.laws.proofs.Spelling.{Below}
use Rattle.shapes.specs.Described.{unit_in}
use Rattle.units.specs.Units.{laid}
use Rattle.units.proofs.layout.put_part.Given as goal

abbrev pub invariant-loop-choice : goal.invariant-loop-choice
invariant-loop-choice l = record {
  small : Below l.part.unit.size (drop l.choice-index l.choices);
  rest : Rest (put_in l.initial.at.0 (laid (unit_in l.sets l.part.unit) l.choices) l.initial.out) (l.initial.at.0 + length (laid (unit_in l.sets l.part.unit) l.choices))
      l.out l.at.0 (laid (unit_in l.sets l.part.unit) (drop l.choice-index l.choices));
}
