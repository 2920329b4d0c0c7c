-- `industrial`: the words as they stand in the code are those of the table's rows, by computation.
-- Assumes nothing.
use Rattle.std.proofs.Common.{refl}
use Rattle.tables.specs.TwoOfFive.{industrial_rows, digit_rows, alphabet_digits, table44}
use Rattle.tables.specs.Alphabet.{rows_of}
use Rattle.shapes.specs.Sets.{sets_industrial}
use Rattle.shapes.proofs.sets.industrial.Goals as goal

pub returns : goal.returns
unfolding sets_industrial industrial_rows digit_rows alphabet_digits table44 rows_of
returns c = refl
