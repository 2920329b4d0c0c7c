-- `write_text` writes what is read back: the loop keeps what `Writing` says, item by item.
-- Assumes nothing.
use Rattle.std.proofs.Common.{◌-◌, length}
use Rattle.symbologies.specs.Symbologies.{symbology_of}
use Rattle.data.proofs.Measures.{Writing}
use Rattle.data.proofs.items.write_text.Given as goal

abbrev pub invariant-loop-at : goal.invariant-loop-at
invariant-loop-at l = Writing ((symbology_of l.symbology).coder l.mode) l.codes l.initial.out l.out l.len l.at

abbrev pub decreases-loop-at : goal.decreases-loop-at
decreases-loop-at l = length l.codes - l.at
