-- The line of a record (document 01, "Job file"): "record number from 1, answer, place, elements, modules and the widths as
-- digits, or - if refused". What is drawn is a symbology, a mode, a count and a field. And the last line of a run.
--
--   call_of     the record's drawing, into a room of zeros, as long as the longest strip
--   said_for    its answer, place, count and total
--   is_drawn    whether it is drawn: its answer is 0
--   shown      the widths of a strip, or - where there is none
--   line_said   the line of an answer; line_of, of a record
--   end_line, stop_line    the last line
use Rattle.std.specs.Prelude.{Bool, List, [], ◌∷◌, ℕ, eqb, take, replicate}
use Rattle.laws.specs.Search.{pick}
use Rattle.words.specs.declared.Said.{Said}
use Rattle.words.specs.Said.{said_of}
use Rattle.tables.specs.Printed.{text}
use Rattle.symbologies.specs.Sizes.{longest}
use Rattle.strip.specs.Drawing.{Call, draw_field}
use Rattle.lines.specs.Text.{decimal, widths, line}

unfoldable pub call_of : ℕ → ℕ → ℕ → List ℕ → Call
call_of symbology mode count field = draw_field symbology mode count field (replicate longest 0)

abbrev pub said_for : ℕ → ℕ → ℕ → List ℕ → Said
said_for symbology mode count field = said_of (call_of symbology mode count field).answer

abbrev pub is_drawn : ℕ → ℕ → ℕ → List ℕ → Bool
is_drawn symbology mode count field = eqb (said_for symbology mode count field).number 0

abbrev pub shown : Said → List ℕ → List ℕ
shown said buffer = pick (eqb said.number 0) (widths (take said.count buffer)) (text "-")

abbrev pub line_said : ℕ → Said → List ℕ → List ℕ
line_said number said buffer =
    line
    (decimal number ∷ decimal said.number ∷ decimal said.place ∷ decimal said.count ∷ decimal said.total ∷ shown said buffer ∷ [])

unfoldable pub line_of : ℕ → ℕ → ℕ → ℕ → List ℕ → List ℕ
line_of number symbology mode count field = line_said number (said_for symbology mode count field) (call_of symbology mode count field).buffer

unfoldable pub end_line : ℕ → ℕ → List ℕ
end_line records drawn = line (text "end" ∷ decimal records ∷ decimal drawn ∷ [])

unfoldable pub stop_line : ℕ → List ℕ
stop_line records = line (text "stop" ∷ decimal records ∷ [])
