-- An alphabet: the characters of a symbology by value, and the code of each. One set of definitions serves them all.
--
--   Alphabet   the bytes of the characters, and the codes, both by value from 0 on. Codes behind the last character, as that
--              of Code 39's star, belong to no character
--   size       how many characters
--   value_of    the value of a byte, the size where it is no character
--   byte_of     the byte of a value, 0 past the characters
--   bits_of     the code of a value, 0 past the codes
--   rows_of     the characters as elements, n to a character
use Rattle.std.specs.Prelude.{List, map, ℕ, length, get_or, take}
use Rattle.laws.specs.Search.{index_in}
use Rattle.tables.specs.Bits.{spread}

pub record Alphabet : Type 0 where
  pub chars : List ℕ
  pub codes : List ℕ

abbrev pub size : Alphabet → ℕ
size a = length a.chars

unfoldable pub value_of : Alphabet → ℕ → ℕ
value_of a b = index_in a.chars b

unfoldable pub byte_of : Alphabet → ℕ → ℕ
byte_of a v = get_or a.chars v 0

unfoldable pub bits_of : Alphabet → ℕ → ℕ
bits_of a v = get_or a.codes v 0

unfoldable pub rows_of : ℕ → Alphabet → List (List ℕ)
rows_of n a = map (spread n) (take (size a) a.codes)
