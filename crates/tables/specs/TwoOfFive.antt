-- Industrial, Interleaved and Matrix 2 of 5: source 001, tables 4.4 to 4.6. The digits, which EAN and UPC share.
--
--   table44           the five-bit codes; tables 4.4, 4.5 (bars and spaces alike) and 4.6 print the same ten
--   alphabet_digits    the ten digits
--   digit_rows         the five elements that carry a digit
--   industrial_rows    five bars carry the code, all spaces are narrow
--   interleaved_rows   the first digit in five bars, the second in the five spaces between and behind them: pair d, e is row 10 d + e
--   matrix_rows        five elements a digit
--   industrial_start, industrial_stop, interleaved_start, interleaved_stop, matrix_ends    the lines ST and SP of the three tables
use Rattle.std.specs.Prelude.{List, [], ◌∷◌, map, ℕ}
use Rattle.tables.specs.Bits.{spread, spaced, pairs}
use Rattle.tables.specs.Printed.{◌is◌, bytes, numbers}
use Rattle.tables.specs.Alphabet.{Alphabet, rows_of}

unfoldable pub table44 : List (ℕ × ℕ)
table44 =
    "0" is 0b00110
    ∷ "1" is 0b10001
    ∷ "2" is 0b01001
    ∷ "3" is 0b11000
    ∷ "4" is 0b00101
    ∷ "5" is 0b10100
    ∷ "6" is 0b01100
    ∷ "7" is 0b00011
    ∷ "8" is 0b10010
    ∷ "9" is 0b01010
    ∷ []

unfoldable pub alphabet_digits : Alphabet
alphabet_digits = record { chars = bytes table44; codes = numbers table44 }

unfoldable pub digit_rows : List (List ℕ)
digit_rows = rows_of 5 alphabet_digits

unfoldable pub industrial_rows : List (List ℕ)
industrial_rows = map spaced digit_rows

unfoldable pub interleaved_rows : List (List ℕ)
interleaved_rows = pairs digit_rows digit_rows

unfoldable pub matrix_rows : List (List ℕ)
matrix_rows = digit_rows

unfoldable pub industrial_start : List ℕ
industrial_start = spaced (spread 3 0b110)

unfoldable pub industrial_stop : List ℕ
industrial_stop = spaced (spread 3 0b101)

unfoldable pub interleaved_start : List ℕ
interleaved_start = spread 4 0b0000

unfoldable pub interleaved_stop : List ℕ
interleaved_stop = spread 3 0b100

unfoldable pub matrix_ends : List ℕ
matrix_ends = spread 5 0b10000
