-- Every strip fits a record's room, which is as long as the longest: 8 needs a buffer that is too short.
--
--   fits          a row that is drawn has a strip of at most so many elements
--   drawn-room    so a strip that is drawn has no more
--   no-eight      no record's answer is 8
--
-- Assumes nothing.
use Rattle.std.proofs.Common.{◌≡◌, ◌≢◌, List, ℕ, ◌<◌, ◌≤◌, arith, length, take, replicate, ltb-true}
use Rattle.std.proofs.lemmas.List.{length-replicate}
use Rattle.words.specs.Said.{said_of}
use Rattle.words.specs.Order.{gives, turned}
use Rattle.words.proofs.Order.{none-on, Reached, first-reached, hit}
use Rattle.symbologies.specs.Sizes.{longest}
use Rattle.symbologies.specs.Symbologies.{symbology_of}
use Rattle.symbologies.specs.Rows.{row_drawn, row_checks, row_of_field}
use Rattle.symbologies.specs.Strips.{elements_of}
use Rattle.symbologies.proofs.Ready.{drawn-ready, few}
use Rattle.strip.specs.Drawing.{drawing_checks, draw_field, drawn_answer}
use Rattle.strip.proofs.Fields.{field-data}
use Rattle.strip.proofs.Order.{draw-first}
use Rattle.strip.proofs.Requests.{Drew, drew-row}
use Rattle.lines.specs.Line.{call_of, said_for}

fits : (s m count : ℕ) (field r : List ℕ) → row_of_field s m count field ≡ gives r → elements_of s (length r) ≤ longest
fits s m count field r e = few s r (drawn-ready s m (take count field) r (field-data s m count field r e))

pub drawn-room : (symbology mode count : ℕ) (field : List ℕ) → (said_for symbology mode count field).number ≡ 0 → (said_for symbology mode count field).count ≤ longest
unfolding call_of
drawn-room symbology mode count field n =
    let w : Drew symbology mode count field (replicate longest 0) = drew-row symbology mode count field (replicate longest 0) n in
    rw w.whole (fits symbology mode count field w.row w.given-row)

-- where 8 is the answer, the row was drawn, and the buffer is shorter than its strip
record Short (s m count : ℕ) (field out : List ℕ) : Type 0 where
  row : List ℕ
  given-row : row_of_field s m count field ≡ gives row
  short : length out < elements_of s (length row)

short-only : (s m count : ℕ) (field out : List ℕ) → (said_of (draw_field s m count field out).answer).number ≡ 8 → Short s m count field out
unfolding drawing_checks drawn_answer row_of_field
short-only s m count field out e =
    let w : Reached 8 (drawing_checks s m count field out)
    = first-reached 8 (drawing_checks s m count field out) (drawn_answer s m (take count field)) (omega arith) (rw (draw-first s m count field out) at e) in
    let b = w.1.1.1.1 in
    record {
      row = row_drawn (symbology_of s) m (take count field);
      given-row = none-on turned (row_checks (symbology_of s) m count field) (gives (row_drawn (symbology_of s) m (take count field)))
          (w.0, (w.1.0, (w.1.1.0, (w.1.1.1.0, (b.0, (b.1.0, (b.1.1.0, (b.1.1.1.0, tt))))))));
      short = ltb-true _ _ (hit (λ r. r) b.1.1.1.1);
    }

-- No line has the answer 8, whatever the symbology, the mode, the count and the field.
pub no-eight : (symbology mode count : ℕ) (field : List ℕ) → (said_for symbology mode count field).number ≢ 8
unfolding call_of
no-eight symbology mode count field n =
    let w : Short symbology mode count field (replicate longest 0) = short-only symbology mode count field (replicate longest 0) n in
    omega (arith, w.short, fits symbology mode count field w.row w.given-row, length-replicate {A = ℕ} longest 0)
