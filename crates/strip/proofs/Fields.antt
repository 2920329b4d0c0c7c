-- A job record's field that is drawn draws as its data do alone: the bytes behind them are zero, and nothing else looks at them.
--
--   field-data    so its row is that of the data
--
-- Assumes nothing.
use Rattle.std.proofs.Common.{◌≡◌, ◌∙◌, true, ◌&&◌, List, ℕ, arith, leb, length, take, length-take-le, take_all, leb-true, le-leb}
use Rattle.std.proofs.lemmas.Bool.{not-false}
use Rattle.laws.proofs.Finite.{both_left, both_right}
use Rattle.words.specs.Order.{gives, turned}
use Rattle.words.proofs.Order.{None, none-on, given}
use Rattle.symbologies.specs.Limits.{holds}
use Rattle.symbologies.specs.Symbologies.{Symbology, symbology_of}
use Rattle.symbologies.specs.Rows.{row_drawn, row_checks, row_of_field, row_of}
use Rattle.symbologies.proofs.Undo.{Passed, passed-row, row-passed, empty-rest}

data-passed : (y : Symbology) (m count : ℕ) (field : List ℕ) → Passed y m count field → Passed y m (length (take count field)) (take count field)
data-passed y m count field p =
    let t : (holds y.limits m count && leb count (length field)) ≡ true = not-false _ p.held in
    let l : length (take count field) ≡ count = length-take-le count field (leb-true count (length field) (both_right (holds y.limits m count) _ t)) in
    let a : take (length (take count field)) (take count field) ≡ take count field = take_all (length (take count field)) (take count field) (omega arith) in
    record {
      known = p.known;
      offers = p.offers;
      held = rw (l, both_left (holds y.limits m count) _ t, le-leb count count (omega arith));
      clean = empty-rest (take count field);
      spells = rw a p.spells;
      paired = rw a p.paired;
      fits = rw a p.fits;
      right = rw a p.right;
    }

pub field-data : (s m count : ℕ) (field r : List ℕ) → row_of_field s m count field ≡ gives r → row_of s m (take count field) ≡ gives r
unfolding row_of row_of_field
field-data s m count field r e =
    let y : Symbology = symbology_of s in
    let d : List ℕ = take count field in
    let g : None (row_checks y m count field) × (row_drawn y m d ≡ r) = given (row_checks y m count field) (row_drawn y m d) r e in
    let p : Passed y m (length d) d = data-passed y m count field (passed-row y m count field g.0) in
    none-on turned (row_checks y m (length d) d) (gives (row_drawn y m (take (length d) d))) (row-passed y m (length d) d p)
    ∙ rw (take_all (length d) d (omega arith), g.1)
