-- What drawing answers, and the lent buffer afterwards: one definition for every input.
--
--   Call            an answer and a buffer
--   refused         an answer that leaves the buffer as it was
--   drawn           a strip in front of what stood behind it
--   drawing_checks   "Drawing checks 1, 2, 3, 13, 4, 5, 6, 7, 8 in that order"
--   draw_field       a job record's field: the first of them that applies, and the strip of its data where none does
--   draw_data        plain data: a field of just their length, so that 13 can't come
--   drawn_answer     the answer of number 0
--   answer_of        how an answer stands in the words that the crates share
use Rattle.std.specs.Prelude.{List, [], ◌∷◌, ◌++◌, Result, Ok, Err, ℕ, ltb, length, take, drop}
use Rattle.words.specs.declared.Elements.{Elements}
use Rattle.words.specs.declared.Modules.{Modules}
use Rattle.words.specs.declared.Answer.{Answer}
use Rattle.words.specs.declared.Answer.TheVariants.{Drawn, ShortForStrip}
use Rattle.words.specs.Order.{Check, check, first_of, element_count, module_count}
use Rattle.symbologies.specs.Symbologies.{symbology_of}
use Rattle.symbologies.specs.Rows.{row_drawn, row_checks}
use Rattle.symbologies.specs.Strips.{elements_of, modules_of, strip_of}

pub record Call : Type 0 where
  pub answer : Answer
  pub buffer : List ℕ

abbrev pub refused : List ℕ → Answer → Call
refused out a = record { answer = a; buffer = out }

abbrev pub drawn : ℕ → List ℕ → List ℕ → Call
drawn s r out = record {
  answer = Drawn (element_count (elements_of s (length r))) (module_count (modules_of s r));
  buffer = strip_of s r ++ drop (elements_of s (length r)) out;
}

-- 8, of drawn characters
abbrev pub short_for : ℕ → List ℕ → List ℕ → Check
short_for s r out = check (ltb (length out) (elements_of s (length r))) (ShortForStrip (element_count (elements_of s (length r))))

-- 1, 2, 3, 13, 4, 5, 6, 7, and 8
unfoldable pub drawing_checks : ℕ → ℕ → ℕ → List ℕ → List ℕ → List Check
drawing_checks s m count field out = row_checks (symbology_of s) m count field ++ short_for s (row_drawn (symbology_of s) m (take count field)) out ∷ []

unfoldable pub draw_field : ℕ → ℕ → ℕ → List ℕ → List ℕ → Call
draw_field s m count field out = first_of (refused out) (drawing_checks s m count field out) (drawn s (row_drawn (symbology_of s) m (take count field)) out)

unfoldable pub draw_data : ℕ → ℕ → List ℕ → List ℕ → Call
draw_data s m d out = draw_field s m (length d) d out

-- 0: the elements drawn, and the total of the strip
unfoldable pub drawn_answer : ℕ → ℕ → List ℕ → Answer
drawn_answer s m d =
    Drawn (element_count (elements_of s (length (row_drawn (symbology_of s) m d)))) (module_count (modules_of s (row_drawn (symbology_of s) m d)))

abbrev pub answer_of : Result (Elements × Modules) Answer → Answer
answer_of (Ok laid) = Drawn laid.0 laid.1
answer_of (Err a) = a
