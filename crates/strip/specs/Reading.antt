-- What reading answers, and the lent buffer afterwards: one definition for every input.
--
--   data_in          the data of the row that a strip shows
--   reading_checks   "Reading checks 1, 2, 9, 10, 11, 12, 7, 8"
--   data_seen        a strip's data, behind these checks but the last
--   handed          data in front of what stood behind them; the total is the sum of the strip's elements
--   read_strip       the first of the checks that applies, and the data where none does
--   handed_answer    the answer of number 0
--   answer_for       how an answer stands in the words that the crates share
use Rattle.std.specs.Prelude.{List, [], ◌∷◌, ◌++◌, Result, Ok, Err, ℕ, ltb, length, drop}
use Rattle.laws.specs.Elements.{sum}
use Rattle.words.specs.declared.Bytes.{Bytes}
use Rattle.words.specs.declared.Modules.{Modules}
use Rattle.words.specs.declared.Answer.{Answer}
use Rattle.words.specs.declared.Answer.TheVariants.{HandedBack, ShortForData}
use Rattle.words.specs.Order.{Check, check, first_of, Outcome, outcome, byte_count, module_count}
use Rattle.symbologies.specs.Symbologies.{symbology_of}
use Rattle.symbologies.specs.Rows.{data_read, data_checks}
use Rattle.symbologies.specs.Strips.{row_read, seen_checks}
use Rattle.strip.specs.Drawing.{Call, refused}

abbrev pub data_in : ℕ → ℕ → List ℕ → List ℕ
data_in s m t = data_read (symbology_of s) m (row_read s t)

-- 1, 2, 9, 10, 11, and 12, 7
abbrev pub data_seen_checks : ℕ → ℕ → List ℕ → List Check
data_seen_checks s m t = seen_checks s m t ++ data_checks (symbology_of s) m (row_read s t)

unfoldable pub data_seen : ℕ → ℕ → List ℕ → Outcome
data_seen s m t = outcome (data_seen_checks s m t) (data_in s m t)

-- 8, of data
abbrev pub short_data : List ℕ → List ℕ → Check
short_data d out = check (ltb (length out) (length d)) (ShortForData (byte_count (length d)))

-- 1, 2, 9, 10, 11, 12, 7, and 8
unfoldable pub reading_checks : ℕ → ℕ → List ℕ → List ℕ → List Check
reading_checks s m t out = data_seen_checks s m t ++ short_data (data_in s m t) out ∷ []

abbrev pub handed : List ℕ → List ℕ → List ℕ → Call
handed t d out = record { answer = HandedBack (byte_count (length d)) (module_count (sum t)); buffer = d ++ drop (length d) out }

unfoldable pub read_strip : ℕ → ℕ → List ℕ → List ℕ → Call
read_strip s m t out = first_of (refused out) (reading_checks s m t out) (handed t (data_in s m t) out)

-- 0: the data bytes read, and the total of the strip
unfoldable pub handed_answer : ℕ → ℕ → List ℕ → Answer
handed_answer s m t = HandedBack (byte_count (length (data_in s m t))) (module_count (sum t))

-- handed over: how an answer stands in the words that the crates share
abbrev pub answer_for : Result (Bytes × Modules) Answer → Answer
answer_for (Ok back) = HandedBack back.0 back.1
answer_for (Err a) = a
