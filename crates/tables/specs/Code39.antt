-- Code 39: source 001, tables 4.2 and 4.3. Document 01: "nine elements a character; * first and last, never in the data".
--
--   table42       the nine-bit codes, in the order in which the source prints them
--   chars39       table 4.3: the character of each value from 0 on, 43 of them
--   alphabet39    the characters and the codes by value; the last code, the 44th, is the star's
--   rows39        the 43 characters as elements; star39, the start and the stop
use Rattle.std.specs.Prelude.{List, [], ◌∷◌, ◌++◌, map, ℕ}
use Rattle.tables.specs.Bits.{spread}
use Rattle.tables.specs.Printed.{text, ◌is◌, given}
use Rattle.tables.specs.Alphabet.{Alphabet, bits_of, rows_of}

unfoldable pub table42 : List (ℕ × ℕ)
table42 =
    "1" is 0b100100001
    ∷ "2" is 0b001100001
    ∷ "3" is 0b101100000
    ∷ "4" is 0b000110001
    ∷ "5" is 0b100110000
    ∷ "6" is 0b001110000
    ∷ "7" is 0b000100101
    ∷ "8" is 0b100100100
    ∷ "9" is 0b001100100
    ∷ "0" is 0b000110100
    ∷ "A" is 0b100001001
    ∷ "B" is 0b001001001
    ∷ "C" is 0b101001000
    ∷ "D" is 0b000011001
    ∷ "E" is 0b100011000
    ∷ "F" is 0b001011000
    ∷ "G" is 0b000001101
    ∷ "H" is 0b100001100
    ∷ "I" is 0b001001100
    ∷ "J" is 0b000011100
    ∷ "K" is 0b100000011
    ∷ "L" is 0b001000011
    ∷ "M" is 0b101000010
    ∷ "N" is 0b000010011
    ∷ "O" is 0b100010010
    ∷ "P" is 0b001010010
    ∷ "Q" is 0b000000111
    ∷ "R" is 0b100000110
    ∷ "S" is 0b001000110
    ∷ "T" is 0b000010110
    ∷ "U" is 0b110000001
    ∷ "V" is 0b011000001
    ∷ "W" is 0b111000000
    ∷ "X" is 0b010010001
    ∷ "Y" is 0b110010000
    ∷ "Z" is 0b011010000
    ∷ "-" is 0b010000101
    ∷ "." is 0b110000100
    ∷ " " is 0b011000100
    ∷ "*" is 0b010010100
    ∷ "$" is 0b010101000
    ∷ "/" is 0b010100010
    ∷ "+" is 0b010001010
    ∷ "%" is 0b000101010
    ∷ []

unfoldable pub chars39 : List ℕ
chars39 = text "0123456789ABCDEFGHIJKLMNOPQRSTUVWXYZ-. $/+%"

unfoldable pub alphabet39 : Alphabet
alphabet39 = record { chars = chars39; codes = map (given table42) (chars39 ++ text "*") }

unfoldable pub rows39 : List (List ℕ)
rows39 = rows_of 9 alphabet39

unfoldable pub star39 : List ℕ
star39 = spread 9 (bits_of alphabet39 43)
