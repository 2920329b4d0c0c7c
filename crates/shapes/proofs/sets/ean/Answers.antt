-- `ean`: the words as they stand in the code are those of the table's rows, by computation.
-- Assumes nothing.
use Rattle.std.proofs.Common.{refl}
use Rattle.tables.specs.Ean.{odd_rows, even_rows, right_rows, patterns, table52}
use Rattle.shapes.specs.Sets.{sets_ean}
use Rattle.shapes.proofs.sets.ean.Goals as goal

pub returns : goal.returns
unfolding sets_ean odd_rows even_rows right_rows patterns table52
returns c = refl
