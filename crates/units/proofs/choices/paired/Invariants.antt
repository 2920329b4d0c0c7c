-- `paired`: a pair more a turn, and at the end none is left.
-- Assumes nothing.
use Rattle.std.proofs.Common.{◌≡◌, ◌+◌, ◌*◌, length}
use Rattle.symbologies.specs.Sizes.{places}
use Rattle.symbologies.specs.Parts.{paired}
use Rattle.laws.proofs.Spelling.{Below}
use Rattle.units.proofs.Choosing.{Making}
use Rattle.units.proofs.choices.paired.Given as goal

abbrev pub invariant-loop-i : goal.invariant-loop-i
invariant-loop-i l = record {
  pairs : l.i-iterator.iter.size ≡ 2;
  number : 2 * l.i-iterator.count + length l.i-iterator.iter.rest.now ≡ length l.chars;
  small : Below 10 l.i-iterator.iter.rest.now;
  making : Making places (paired l.chars) l.rows l.i-iterator.count (paired l.i-iterator.iter.rest.now);
}
