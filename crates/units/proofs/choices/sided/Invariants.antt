-- `sided`: a unit more a turn, each in the set that the parities say, and at the end none is left.
-- Assumes nothing.
use Rattle.std.proofs.Common.{◌≡◌, ◌-◌, length, drop}
use Rattle.laws.proofs.Spelling.{Below}
use Rattle.symbologies.specs.Parts.{sides, sided}
use Rattle.units.proofs.Choosing.{Making}
use Rattle.units.proofs.choices.sided.Given as goal

abbrev pub invariant-loop-i : goal.invariant-loop-i
invariant-loop-i l = record {
  twelve : length l.digit-items ≡ 12;
  small : Below 10 l.digit-items;
  made : Making 12 (sided l.chars) l.rows l.i (sides l.parities (6 - l.i) (drop l.i l.digit-items));
}
