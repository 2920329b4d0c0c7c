-- Rows of elements as words, and the rows of each symbology as sets of ten words, indexed by set and digit (document 01, "three sets of
-- ten", and so for all). A word has a byte for each element, the first in the lowest.
--
--   low, bytes   the number whose bytes these are; k bytes of a number
--   top          what the ninth element counts: it stands in the upper half of the eighth byte, which no width reaches
--   word_of       the word of a row
--   row_of        the row of k elements, at most nine, of a word
--   word_at       the word of row c, counted through the sets from set s on: digit c % 10 of set s + c / 10
--   tens         words in n sets of ten, with zeros behind the last
--   sets39, sets_codabar, ...   the sets of each table of source 001: the letters of Codabar are a set of their own
--   sets_of       by symbology; Interleaved's pairs are woven of the digits
use Rattle.std.specs.Prelude.{List, [], ◌∷◌, ◌++◌, map, ℕ, zero, suc, ◌+◌, ◌*◌, ◌/◌, ◌%◌, ltb, get_or, take, drop}
use Rattle.laws.specs.Search.{pick}
use Rattle.tables.specs.Code39.{rows39}
use Rattle.tables.specs.Codabar.{inner_rows, letter_rows}
use Rattle.tables.specs.TwoOfFive.{digit_rows, industrial_rows}
use Rattle.tables.specs.Ean.{odd_rows, even_rows, right_rows}
use Rattle.symbologies.specs.Told.{pad}

abbrev pub low : List ℕ → ℕ
low [] = 0
low (x ∷ xs) = x + 256 * low xs

abbrev pub bytes : ℕ → ℕ → List ℕ
bytes zero w = []
bytes (suc k) w = (w % 256) ∷ bytes k (w / 256)

abbrev pub top : ℕ
top = 0x1000000000000000

abbrev pub word_of : List ℕ → ℕ
word_of row = low (take 8 row) + top * get_or row 8 0

abbrev pub row_of : ℕ → ℕ → List ℕ
row_of k w = pick (ltb k 9) (bytes k w) (bytes 8 (w % top) ++ (w / top ∷ []))

abbrev pub word_at : List (List ℕ) → ℕ → ℕ → ℕ
word_at sets s c = get_or (get_or sets (s + c / 10) []) (c % 10) 0

abbrev pub tens : ℕ → List ℕ → List (List ℕ)
tens zero ws = []
tens (suc n) ws = pad 10 ws ∷ tens n (drop 10 ws)

unfoldable pub sets39 : List (List ℕ)
sets39 = tens 5 (map word_of rows39)

unfoldable pub sets_codabar : List (List ℕ)
sets_codabar = tens 2 (map word_of inner_rows) ++ tens 1 (map word_of letter_rows)

unfoldable pub sets_industrial : List (List ℕ)
sets_industrial = tens 1 (map word_of industrial_rows)

unfoldable pub sets_digits : List (List ℕ)
sets_digits = tens 1 (map word_of digit_rows)

unfoldable pub sets_ean : List (List ℕ)
sets_ean = tens 1 (map word_of odd_rows) ++ tens 1 (map word_of even_rows) ++ tens 1 (map word_of right_rows)

unfoldable pub sets_of : ℕ → List (List ℕ)
sets_of s =
    get_or
    ([] ∷ sets39 ∷ sets39 ∷ sets_codabar ∷ sets_industrial ∷ sets_digits ∷ sets_digits ∷ sets_ean ∷ sets_ean ∷ sets_ean ∷ [])
    s []
