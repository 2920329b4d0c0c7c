-- How lists stand in the structs of src/.
--
--   pushed, put_all   a row with one character more, and with several
--   SpelledAs, SpelledAll, Stopped    what data spell, as the code holds it: the row and its sum, or 4 with the place of the byte that stops them
--   settled          what a step answers, and its row, or none where it turns the data away
--   closed_row, finished_row, filled_row    the row of what was spelled, behind 7, behind 5, 6, 7, and of data, behind 4, 5, 6, 7
use Rattle.std.specs.Prelude.{◌≡◌, List, [], ◌∷◌, ℕ, ◌+◌, set, Result, Ok, Err}
use Rattle.laws.specs.Units.{found, stopped}
use Rattle.words.specs.declared.DataPlace.{DataPlace}
use Rattle.words.specs.declared.Answer.{Answer}
use Rattle.words.specs.declared.Answer.TheVariants.{BadByte}
use Rattle.words.specs.Order.{check, Outcome, turned, outcome}
use Rattle.symbologies.specs.declared.row.Row.{Row}
use Rattle.symbologies.specs.Symbologies.{Symbology}
use Rattle.symbologies.specs.Rows.{wrong, wrong_at, spelled, drawn_of, row_drawn, closing, text_checks}
use Rattle.symbologies.specs.Told.{row_in, Rowed, told}
use Rattle.sums.specs.declared.Sum.{Sum}
use Rattle.sums.specs.Sums.{others_in, Checks}

-- a store past the places changes nothing
abbrev pub pushed : Row → ℕ → Row
pushed r v = record { codes = set r.codes r.len v; len = r.len + 1 }

abbrev pub put_all : Row → List ℕ → Row
put_all r [] = r
put_all r (c ∷ cs) = put_all (pushed r c) cs

-- data that spell `body`, with the sum of what is beside the check
pub record SpelledAll (y : Symbology) (m : ℕ) (text : List ℕ) (row : Row) (sum : Sum) : Type 0 where
  pub body : List ℕ
  pub is : spelled y m text ≡ found body
  pub row_is : row ≡ row_in body
  pub check : Checks y.rule (others_in m body) sum

-- data with a byte that stops them, and 4 with its place
pub record Stopped (y : Symbology) (m : ℕ) (text : List ℕ) (a : Answer) : Type 0 where
  pub place : DataPlace
  pub is : a ≡ BadByte place
  pub stops : spelled y m text ≡ stopped place.0

abbrev pub SpelledAs : Symbology → ℕ → List ℕ → Row → Result Sum Answer → Type 0
SpelledAs y m text row (Ok sum) = SpelledAll y m text row sum
SpelledAs y m text row (Err a) = Stopped y m text a

-- ---- what the calls answer

-- of a step that leaves the row unfinished where it turns the data away
abbrev pub settled : Result (Unit {0}) Answer → Row → Rowed
settled (Ok u) row = record { verdict = Ok u; row = row }
settled (Err a) row = told (turned a)

unfoldable pub closed_row : Symbology → ℕ → List ℕ → Outcome
closed_row y m h = outcome (check (wrong y m (drawn_of y m h)) (wrong_at y (drawn_of y m h)) ∷ []) (drawn_of y m h)

unfoldable pub finished_row : Symbology → ℕ → List ℕ → Outcome
finished_row y m h = outcome (closing y m (drawn_of y m h)) (drawn_of y m h)

unfoldable pub filled_row : Symbology → ℕ → List ℕ → Outcome
filled_row y m d = outcome (text_checks y m d) (row_drawn y m d)
