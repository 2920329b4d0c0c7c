-- Codabar: source 001, table 4.1, without the aliases T, N, *, E and the small letters, which document 01 refuses.
--
--   table41             the seven-bit codes, in the order in which the source prints them: by value from 0 on
--   alphabet_codabar     the 20 characters. The first 16 stand inside, the other four, the letters, start and stop
--   inner_rows, letter_rows    the two sets as elements
use Rattle.std.specs.Prelude.{List, [], ◌∷◌, ℕ, take, drop}
use Rattle.tables.specs.Printed.{◌is◌, bytes, numbers}
use Rattle.tables.specs.Alphabet.{Alphabet, rows_of}

unfoldable pub table41 : List (ℕ × ℕ)
table41 =
    "0" is 0b0000011
    ∷ "1" is 0b0000110
    ∷ "2" is 0b0001001
    ∷ "3" is 0b1100000
    ∷ "4" is 0b0010010
    ∷ "5" is 0b1000010
    ∷ "6" is 0b0100001
    ∷ "7" is 0b0100100
    ∷ "8" is 0b0110000
    ∷ "9" is 0b1001000
    ∷ "-" is 0b0001100
    ∷ "$" is 0b0011000
    ∷ ":" is 0b1000101
    ∷ "/" is 0b1010001
    ∷ "." is 0b1010100
    ∷ "+" is 0b0010101
    ∷ "A" is 0b0011010
    ∷ "B" is 0b0101001
    ∷ "C" is 0b0001011
    ∷ "D" is 0b0001110
    ∷ []

unfoldable pub alphabet_codabar : Alphabet
alphabet_codabar = record { chars = bytes table41; codes = numbers table41 }

unfoldable pub inner_rows : List (List ℕ)
inner_rows = take 16 (rows_of 7 alphabet_codabar)

unfoldable pub letter_rows : List (List ℕ)
letter_rows = drop 16 (rows_of 7 alphabet_codabar)
