-- `code39`: the words as they stand in the code are those of the table's rows, by computation.
-- Assumes nothing.
use Rattle.std.proofs.Common.{refl}
use Rattle.tables.specs.Code39.{rows39, alphabet39, chars39, table42}
use Rattle.tables.specs.Alphabet.{rows_of}
use Rattle.shapes.specs.Sets.{sets39}
use Rattle.shapes.proofs.sets.code39.Goals as goal

pub returns : goal.returns
unfolding sets39 rows39 alphabet39 chars39 table42 rows_of
returns c = refl
