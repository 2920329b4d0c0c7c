-- `measure` reads back: the loop keeps what `Measuring` says, item by item.
-- Assumes nothing.
use Rattle.std.proofs.Common.{◌-◌, length}
use Rattle.symbologies.specs.Symbologies.{symbology_of}
use Rattle.sums.specs.Sums.{own_in}
use Rattle.data.proofs.Measures.{Measuring}
use Rattle.data.proofs.items.measure.Given as goal

abbrev pub invariant-loop-at : goal.invariant-loop-at
invariant-loop-at l = Measuring ((symbology_of l.symbology).coder l.mode) (own_in l.mode (length l.codes)) l.codes l.initial.sum l.bytes l.at l.sum

abbrev pub decreases-loop-at : goal.decreases-loop-at
decreases-loop-at l = length l.codes - l.at
