-- `codabar`: the words as they stand in the code are those of the table's rows, by computation.
-- Assumes nothing.
use Rattle.std.proofs.Common.{refl}
use Rattle.tables.specs.Codabar.{inner_rows, letter_rows, alphabet_codabar, table41}
use Rattle.tables.specs.Alphabet.{rows_of}
use Rattle.shapes.specs.Sets.{sets_codabar}
use Rattle.shapes.proofs.sets.codabar.Goals as goal

pub returns : goal.returns
unfolding sets_codabar inner_rows letter_rows alphabet_codabar table41 rows_of
returns c = refl
