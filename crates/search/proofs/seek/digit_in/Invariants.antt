-- `digit_in` looks at one word a turn, and has found what stands among those behind it.
-- Assumes nothing.
use Rattle.std.proofs.Common.{◌≡◌, take}
use Rattle.shapes.specs.Searched.{matches}
use Rattle.search.proofs.seek.digit_in.Given as goal

abbrev pub invariant-loop-digit : goal.invariant-loop-digit
invariant-loop-digit l = l.found ≡ matches l.word (take l.digit l.row-items) 0
