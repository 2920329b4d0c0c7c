-- A turn stands at a place of the same strip, with the places that are left, and what they come to is what all come to. The sets that a unit
-- may stand in are looked through from the last to the first: what was found, and what those that are left give, is always the same.
use Rattle.std.proofs.Common.{◌≡◌, ◌-◌, ◌≤◌, length}
use Rattle.shapes.specs.Searched.{found_by}
use Rattle.reads.specs.Walk.{walk_by}
use Rattle.reads.proofs.Turns.{comes}
use Rattle.reads.proofs.walk.read_units.Given as goal

abbrev pub invariant-units : goal.invariant-units
invariant-units l =
    record {
      over : l.p.strip.now ≡ l.strip;
      within : l.place ≤ length l.fn.codes;
      same : walk_by l.sets l.unit l.strip (length l.fn.codes - l.place) l.p.at.0 l.place l.codes
          ≡ walk_by l.sets l.unit l.strip (length l.fn.codes) l.fn.from.0 0 l.fn.codes;
    }

abbrev pub decreases-units : goal.decreases-units
decreases-units l = length l.fn.codes - l.place

abbrev pub invariant-loop-i : goal.invariant-loop-i
invariant-loop-i l =
    comes l.sets l.unit l.strip (length l.fn.codes - l.place) l.place l.codes l.sought (found_by l.sets l.sought.set l.sought.first l.sought.word l.i l.found)
    ≡ walk_by l.sets l.unit l.strip (length l.fn.codes) l.fn.from.0 0 l.fn.codes
