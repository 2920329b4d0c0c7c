-- `ten_of`: the half-byte of the definition.
-- Assumes nothing.
use Rattle.std.proofs.Common.{refl}
use Rattle.shapes.specs.Searched.{ten_of}
use Rattle.search.proofs.seek.ten_of.Goals as goal

pub returns : goal.returns
unfolding ten_of
returns c = refl
