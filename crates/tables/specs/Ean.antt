-- EAN-13, EAN-8 and UPC-A: source 001, table 5.2, of which tables 5.3 and 5.4 print a part. 1 is a bar module (document 01:
-- "where 2.2 of source 001 says the reverse, the table decides").
--
--   Line, line      a line of the table: parities as the letters O and E, and three patterns
--   table52         a line to a digit: the parities of D2 to D7 where D1 is that digit, and its patterns left odd, left even, right
--   patterns        the three sets of ten: left odd, left even, right, by set (0, 1, 2) and digit
--   even            the bit of a letter: 0 is odd and 1 is even, the number of the set
--   parities        by D1: six bits, D2's the highest
--   parities_of      the parities of a first digit, 0 past 9
--   first_digit      the first digit of parities, 10 where none has them
--   odd_rows, even_rows, right_rows, left_rows    the sets as elements; EAN-13's left units come from twenty rows
--   guard, centre                             the guards 101 and the centre 01010
use Rattle.std.specs.Prelude.{List, [], ◌∷◌, ◌++◌, map, ℕ, eqb, get_or}
use Prim.Native.Char.{code}
use Prim.Native.String.{String}
use Rattle.laws.specs.Search.{pick, index_in}
use Rattle.tables.specs.Bits.{runs, number}
use Rattle.tables.specs.Printed.{text}

pub record Line : Type 0 where
  pub parities : List ℕ
  pub odd : ℕ
  pub even : ℕ
  pub right : ℕ

abbrev pub line : String → ℕ → ℕ → ℕ → Line
line p o e r = record { parities = text p; odd = o; even = e; right = r }

unfoldable pub table52 : List Line
table52 =
    line "OOOOOO" 0b0001101 0b0100111 0b1110010
    ∷ line "OOEOEE" 0b0011001 0b0110011 0b1100110
    ∷ line "OOEEOE" 0b0010011 0b0011011 0b1101100
    ∷ line "OOEEEO" 0b0111101 0b0100001 0b1000010
    ∷ line "OEOOEE" 0b0100011 0b0011101 0b1011100
    ∷ line "OEEOOE" 0b0110001 0b0111001 0b1001110
    ∷ line "OEEEOO" 0b0101111 0b0000101 0b1010000
    ∷ line "OEOEOE" 0b0111011 0b0010001 0b1000100
    ∷ line "OEOEEO" 0b0110111 0b0001001 0b1001000
    ∷ line "OEEOEO" 0b0001011 0b0010111 0b1110100
    ∷ []

unfoldable pub patterns : List (List ℕ)
patterns = map (λ (l : Line). l.odd) table52 ∷ map (λ (l : Line). l.even) table52 ∷ map (λ (l : Line). l.right) table52 ∷ []

abbrev pub even : ℕ → ℕ
even letter = pick (eqb letter (code "E")) 1 0

unfoldable pub parities : List ℕ
parities = map (λ (l : Line). number (map even l.parities)) table52

unfoldable pub parities_of : ℕ → ℕ
parities_of d = get_or parities d 0

unfoldable pub first_digit : ℕ → ℕ
first_digit p = index_in parities p

unfoldable pub odd_rows : List (List ℕ)
odd_rows = map (runs 7) (get_or patterns 0 [])

unfoldable pub even_rows : List (List ℕ)
even_rows = map (runs 7) (get_or patterns 1 [])

unfoldable pub right_rows : List (List ℕ)
right_rows = map (runs 7) (get_or patterns 2 [])

-- a left unit of EAN-13 comes from either set: digit d of set s is row 10 s + d
unfoldable pub left_rows : List (List ℕ)
left_rows = odd_rows ++ even_rows

unfoldable pub guard : List ℕ
guard = runs 3 0b101

unfoldable pub centre : List ℕ
centre = runs 5 0b01010
