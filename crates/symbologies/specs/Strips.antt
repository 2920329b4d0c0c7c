-- Row to strip and strip to row (document 01, "Two-width strips", "EAN and UPC strips", "Units and working room", "Turned away: numbers and
-- order").
--
--   elements_of   elements of n drawn characters, as document 01's table prints them
--   modules_of    modules of a row, as "Total modules" prints them
--   units_of      the units of a strip of n drawn characters
--   strip_of      the strip of a row: its elements' widths, bar first
--   counts       whether a mode is offered and gives so many drawn characters; counted, whether some mode does
--   all_allowed   whether each character of a row may stand where it stands
--   ready        whether a row is one of its symbology: its count and every character
--   count_for     the drawn count that a strip's length comes from, 0 where there is none
--   units_read    the units of that count, tested left to right; rows_read, the rows that they show
--   chars_of      the drawn characters, by the rows that the free units show; row_read, those of a strip
--   seen_checks   "1, 2, 9, 10, 11"
--   row_seen      the row of a strip, behind these checks
use Rattle.std.specs.Prelude.{Bool, true, ◌&&◌, ◌||◌, List, [], ◌∷◌, ◌++◌, map, ℕ, ◌+◌, ◌-◌, leb, length, get_or}
use Rattle.laws.specs.Search.{pick}
use Rattle.laws.specs.Elements.{sum}
use Rattle.laws.specs.Units.{Kind, strip, Reading, read}
use Rattle.laws.specs.Spelling.{fitting, counted as numbered}
use Rattle.words.specs.declared.Answer.TheVariants.{NoSuchUnit, NoSuchParities}
use Rattle.words.specs.Order.{Check, check, Outcome, outcome, element_place}
use Rattle.symbologies.specs.Sizes.{longest}
use Rattle.symbologies.specs.Limits.{offered, drawable, elements_in, count_in}
use Rattle.symbologies.specs.Parts.{part_units, Shown}
use Rattle.symbologies.specs.Symbologies.{Symbology, symbology_of}
use Rattle.symbologies.specs.Rows.{stops, stop_at, finds, count_checks}

unfoldable pub elements_of : ℕ → ℕ → ℕ
elements_of s n = elements_in (symbology_of s).limits n

unfoldable pub modules_of : ℕ → List ℕ → ℕ
modules_of s r = sum (map (λ c. (symbology_of s).limits.each - (symbology_of s).less c) r) + (symbology_of s).limits.rest - 1

unfoldable pub units_of : ℕ → ℕ → List Kind
units_of s n = part_units n (symbology_of s).parts

unfoldable pub strip_of : ℕ → List ℕ → List ℕ
strip_of s r = strip (units_of s (length r)) ((symbology_of s).shows.choices r)

abbrev pub counts : Symbology → ℕ → ℕ → Bool
counts y n m = offered y.limits m && drawable y.limits m n

unfoldable pub counted : ℕ → ℕ → Bool
counted s n = counts (symbology_of s) n 0 || (counts (symbology_of s) n 1 || counts (symbology_of s) n 2)

abbrev pub all_allowed : ℕ → Bool → List ℕ → Bool
all_allowed s start r = fitting (symbology_of s).allowed start r

unfoldable pub ready : ℕ → List ℕ → Bool
ready s r = counted s (length r) && all_allowed s true r

-- ---- reading

unfoldable pub count_for : ℕ → ℕ → ℕ
count_for s long = pick (leb long longest) (count_in (symbology_of s).limits long) 0

abbrev pub units_read : ℕ → List ℕ → Reading
units_read s t = read (units_of s (count_for s (length t))) t

abbrev pub rows_read : ℕ → List ℕ → Shown
rows_read s t = λ i. get_or (finds (units_read s t)) i 0

unfoldable pub chars_of : ℕ → ℕ → Shown → List ℕ
chars_of s n f = map ((symbology_of s).shows.char n f) (numbered 0 n)

abbrev pub row_read : ℕ → List ℕ → List ℕ
row_read s t = chars_of s (count_for s (length t)) (rows_read s t)

-- 1, 2, 9, 10, 11
abbrev pub seen_checks : ℕ → ℕ → List ℕ → List Check
seen_checks s m t =
    count_checks (symbology_of s) m (count_for s (length t))
    ++ check (stops (units_read s t)) (NoSuchUnit (element_place (stop_at (units_read s t))))
    ∷ check ((symbology_of s).shows.unlike (rows_read s t)) NoSuchParities
    ∷ []

unfoldable pub row_seen : ℕ → ℕ → List ℕ → Outcome
row_seen s m t = outcome (seen_checks s m t) (row_read s t)
