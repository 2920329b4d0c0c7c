-- Data to row and row to data, with document 01's refusals in its order. A row is the drawn characters, as values.
--
--   stops, stop_at, finds    a reading: whether it stops, where, and what it found
--   offers      1, 2
--   wrong       7: there is a check, and the character at its place is another; wrong_at, its place among the drawn characters
--
-- Drawing:
--   spelled     what the data spell: in mode 1 the check among them
--   drawn_of     the drawn characters of what is spelled: mode 2 puts the check in at its place; row_drawn, those of data
--   nonzero     the index of the first byte that is not zero, or the length; unclean, whether there is one behind the data
--   closing     "5, 6, 7", of drawn characters, 5 and 6 of their number (drawn_checks); text_checks, 4 and those, of data
--   row_checks   "1, 2, 3, 13, 4, 5, 6, 7", of a field with its count, the first four before its data are looked at (field_checks)
--   row_of_field  a job record's field with its count: the row, behind these checks
--   row_of       plain data: a field of just its length, so that 13 can't come
--
-- Reading:
--   chars_read   the characters that spell the data: in mode 2 without the check
--   unspelled   what they spell; data_read, the data
--   count_checks "1, 2, 9": of a number of drawn characters
--   data_checks  "12, 7"
--   data_of_count a row's data, behind these checks: of a row with its number
--   data_of      of a row
use Rattle.std.specs.Prelude.{Bool, true, false, ◌&&◌, not, List, [], ◌∷◌, ◌++◌, ℕ, ◌+◌, eqb, ltb, leb, length, take, drop}
use Rattle.laws.specs.Search.{pick, first}
use Rattle.laws.specs.Units.{Reading, found, stopped}
use Rattle.laws.specs.Spelling.{spell, unspell}
use Rattle.laws.specs.Rules.{place_of, others_of, checked_of, passes}
use Rattle.words.specs.declared.Answer.{Answer}
use Rattle.words.specs.declared.Answer.TheVariants.{NoSymbology, NoMode, BadCount, BadByte, OddCount, TooManyDrawn, BadCheck, BadLength, NoExpansion, FieldNotZero}
use Rattle.words.specs.Order.{Check, check, Outcome, outcome, data_place, char_place}
use Rattle.symbologies.specs.Limits.{offered, holds, odd, drawable}
use Rattle.symbologies.specs.Symbologies.{Symbology, symbology_of}

abbrev pub stops : Reading → Bool
stops (stopped i) = true
stops (found xs) = false

abbrev pub stop_at : Reading → ℕ
stop_at (stopped i) = i
stop_at (found xs) = 0

abbrev pub finds : Reading → List ℕ
finds (stopped i) = []
finds (found xs) = xs

abbrev pub offers : Symbology → ℕ → List Check
offers y m = check (not y.limits.known) NoSymbology ∷ check (not (offered y.limits m)) NoMode ∷ []

abbrev pub wrong : Symbology → ℕ → List ℕ → Bool
wrong y m r = not (eqb m 0) && not (passes y.rule r)

abbrev pub wrong_at : Symbology → List ℕ → Answer
wrong_at y r = BadCheck (char_place (place_of y.rule (length r)))

-- ---- drawing

abbrev pub spelled : Symbology → ℕ → List ℕ → Reading
spelled y m d = spell (y.coder m) true 0 d

abbrev pub drawn_of : Symbology → ℕ → List ℕ → List ℕ
drawn_of y m h = pick (eqb m 2) (checked_of y.rule h) h

abbrev pub row_drawn : Symbology → ℕ → List ℕ → List ℕ
row_drawn y m d = drawn_of y m (finds (spelled y m d))

abbrev pub nonzero : List ℕ → ℕ
nonzero rest = first (λ b. not (eqb b 0)) rest

abbrev pub unclean : ℕ → List ℕ → Bool
unclean count field = ltb (nonzero (drop count field)) (length (drop count field))

-- 5, 6
abbrev pub drawn_checks : Symbology → ℕ → List Check
drawn_checks y n = check (odd y.limits n) OddCount ∷ check (ltb y.limits.room n) TooManyDrawn ∷ []

-- 5, 6, 7
abbrev pub closing : Symbology → ℕ → List ℕ → List Check
closing y m r = drawn_checks y (length r) ++ check (wrong y m r) (wrong_at y r) ∷ []

-- 4, 5, 6, 7
abbrev pub text_checks : Symbology → ℕ → List ℕ → List Check
text_checks y m d = check (stops (spelled y m d)) (BadByte (data_place (stop_at (spelled y m d)))) ∷ closing y m (row_drawn y m d)

-- 1, 2, 3, 13
abbrev pub field_checks : Symbology → ℕ → ℕ → List ℕ → List Check
field_checks y m count field =
    offers y m
    ++ check (not (holds y.limits m count && leb count (length field))) BadCount
    ∷ check (unclean count field) (FieldNotZero (data_place (count + nonzero (drop count field))))
    ∷ []

-- 1, 2, 3, 13, 4, 5, 6, 7
abbrev pub row_checks : Symbology → ℕ → ℕ → List ℕ → List Check
row_checks y m count field = field_checks y m count field ++ text_checks y m (take count field)

unfoldable pub row_of_field : ℕ → ℕ → ℕ → List ℕ → Outcome
row_of_field s m count field = outcome (row_checks (symbology_of s) m count field) (row_drawn (symbology_of s) m (take count field))

unfoldable pub row_of : ℕ → ℕ → List ℕ → Outcome
row_of s m d = row_of_field s m (length d) d

-- ---- reading

abbrev pub chars_read : Symbology → ℕ → List ℕ → List ℕ
chars_read y m r = pick (eqb m 2) (others_of y.rule r) r

abbrev pub unspelled : Symbology → ℕ → List ℕ → Reading
unspelled y m r = unspell (y.coder m) true 0 (chars_read y m r)

abbrev pub data_read : Symbology → ℕ → List ℕ → List ℕ
data_read y m r = finds (unspelled y m r)

-- 1, 2, 9
abbrev pub count_checks : Symbology → ℕ → ℕ → List Check
count_checks y m n = offers y m ++ check (not (drawable y.limits m n)) BadLength ∷ []

-- 12, 7
abbrev pub data_checks : Symbology → ℕ → List ℕ → List Check
data_checks y m r =
    check (stops (unspelled y m r)) (NoExpansion (char_place (stop_at (unspelled y m r))))
    ∷ check (wrong y m r) (wrong_at y r)
    ∷ []

unfoldable pub data_of_count : ℕ → ℕ → ℕ → List ℕ → Outcome
data_of_count s m n r = outcome (count_checks (symbology_of s) m n ++ data_checks (symbology_of s) m r) (data_read (symbology_of s) m r)

unfoldable pub data_of : ℕ → ℕ → List ℕ → Outcome
data_of s m r = data_of_count s m (length r) r
