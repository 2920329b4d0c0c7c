-- Document 01 held against the definitions: its formulas as its table and "Total modules" print them, and corners of it and of ticket 1 of
-- document 02 (4, 5 and 6 each behind an odd number of digits), computed: which answer a request, a field or a row gets.
--
--   elements-printed    "Elements for n drawn characters"
--   of_codabar, light    12 for each digit, - or $, 14 for each other character; the values 0 to 11 are those of the digits, - and $
--   modules-printed     "Total modules", and "Totals 95, 67, 95"
--   listed, nine        "A strip length for 9 must come from a drawn count that the mode can give": the list behind these words, and that the
--                       definitions have it, a test of every count up to 35; nine-past, no mode gives more
--   numbers             the numbers of a list of checks
--   row-numbers, seen-numbers, data-numbers    of this crate's lists, in the document's words
--   requests    1 to 7, and which of two comes first
--   fields      3, 13 and 4 in this order
--   rows        9, 12 and 7 in this order
--   corners     all of them are answered so
--   at_once     a pair more of which two come at once, 3 before 13 and 12 before 7; corners-at-once, they are answered so
--
-- Assumes nothing.
use Rattle.std.proofs.Common.{◌≡◌, refl, Bool, true, false, ◌&&◌, not, List, [], ◌∷◌, ◌++◌, map, ℕ, ◌+◌, ◌*◌, ◌-◌, ◌%◌, ◌<◌, arith, eqb, ltb, leb, length}
use Prim.Native.String.{String}
use Rattle.laws.specs.Search.{pick, index_in, upto}
use Rattle.laws.specs.Elements.{sum}
use Rattle.laws.specs.Spelling.{counted, byte_for}
use Rattle.laws.specs.Rules.{check_of}
use Rattle.words.specs.declared.Answer.{Answer}
use Rattle.words.specs.declared.Answer.TheVariants.{NoSymbology, NoMode, BadCount, BadByte, OddCount, TooManyDrawn, BadCheck, BadLength, NoExpansion, FieldNotZero}
use Rattle.words.specs.Said.{said_of}
use Rattle.words.specs.Order.{Check, Outcome, gives, turned, data_place, char_place}
use Rattle.tables.specs.Printed.{text}
use Rattle.tables.specs.Alphabet.{value_of, byte_of}
use Rattle.tables.specs.FullAscii.{drawing, ranges}
use Rattle.tables.specs.Code39.{alphabet39, chars39, table42}
use Rattle.tables.specs.Codabar.{alphabet_codabar, table41}
use Rattle.tables.specs.TwoOfFive.{alphabet_digits, table44}
use Rattle.symbologies.specs.Limits.{offered, drawable}
use Rattle.symbologies.specs.Coders.{plain, codabar_coder, full_coder, raw_coder, shifts}
use Rattle.symbologies.specs.Checks.{by43, right10, no_check}
use Rattle.symbologies.specs.Symbologies.{Symbology, symbology_of, symbologies}
use Rattle.symbologies.specs.Rows.{row_checks, row_of, row_of_field, data_checks, data_of_count, data_of}
use Rattle.symbologies.specs.Strips.{elements_of, modules_of, counted as drawn_counted, seen_checks}
use Rattle.symbologies.proofs.Counted.{counted-few}
use Rattle.symbologies.proofs.Totals.{level-modules}

-- ---- the formulas

pub elements-printed : (n : ℕ)
    → (elements_of 1 n ≡ 10 * n + 19)
    × (elements_of 2 n ≡ 10 * n + 19)
    × (elements_of 3 n ≡ 8 * n - 1)
    × (elements_of 4 n ≡ 10 * n + 11)
    × (elements_of 5 n ≡ 5 * n + 7)
    × (elements_of 6 n ≡ 6 * n + 11)
    × (elements_of 7 13 ≡ 59)
    × (elements_of 8 8 ≡ 43)
    × (elements_of 9 12 ≡ 59)
unfolding elements_of symbology_of symbologies
elements-printed n = (omega arith, omega arith, omega arith, omega arith, omega arith, omega arith, refl, refl, refl)

abbrev pub of_codabar : List ℕ → ℕ
of_codabar [] = 0
of_codabar (c ∷ cs) = pick (ltb c 12) 12 14 + of_codabar cs

pub light : map (value_of alphabet_codabar) (text "0123456789-$") ≡ counted 0 12
unfolding value_of index_in alphabet_codabar table41
light = refl

by-character : (r : List ℕ) → sum (map (λ c. 14 - pick (ltb c 12) 2 0) r) ≡ of_codabar r
by-character [] = refl
by-character (c ∷ cs) = rw (one (ltb c 12), by-character cs)
  where
    one : (b : Bool) → 14 - pick b 2 0 ≡ pick b 12 14
    one true = refl
    one false = refl

codabar-printed : (r : List ℕ) → modules_of 3 r ≡ of_codabar r - 1
unfolding modules_of symbology_of symbologies
codabar-printed r = omega (arith, by-character r)

pub modules-printed : (r : List ℕ)
    → (modules_of 1 r ≡ 16 * (length r + 2) - 1)
    × (modules_of 2 r ≡ 16 * (length r + 2) - 1)
    × (modules_of 3 r ≡ of_codabar r - 1)
    × (modules_of 4 r ≡ 14 * length r + 19)
    × (modules_of 5 r ≡ 9 * length r + 9)
    × (modules_of 6 r ≡ 10 * length r + 15)
    × (length r ≡ 13 → modules_of 7 r ≡ 95)
    × (length r ≡ 8 → modules_of 8 r ≡ 67)
    × (length r ≡ 12 → modules_of 9 r ≡ 95)
unfolding symbology_of symbologies
modules-printed r = (
  omega (arith, level-modules 1 (λ c. refl) r),
  omega (arith, level-modules 2 (λ c. refl) r),
  codabar-printed r,
  omega (arith, level-modules 4 (λ c. refl) r),
  omega (arith, level-modules 5 (λ c. refl) r),
  omega (arith, level-modules 6 (λ c. refl) r),
  λ n. omega (arith, level-modules 7 (λ c. refl) r),
  λ n. omega (arith, level-modules 8 (λ c. refl) r),
  λ n. omega (arith, level-modules 9 (λ c. refl) r),
)

-- ---- the list for 9

-- a sentence that speaks of some symbologies only
abbrev only : Bool → Bool → Bool
only here test = pick here test true

abbrev is_one : ℕ → List ℕ → Bool
is_one s ss = ltb (index_in ss s) (length ss)

abbrev pub listed : ℕ → ℕ → ℕ → Bool
listed s m n =
    leb (pick (eqb m 0) 1 2) n
    && only (eqb s 5) (eqb (n % 2) 0)
    && only (eqb s 3) (leb 3 n && leb n 34)
    && only (is_one s (1 ∷ 2 ∷ 4 ∷ 5 ∷ 6 ∷ [])) (leb n 32)
    && only (is_one s (7 ∷ 8 ∷ 9 ∷ [])) (eqb n (pick (eqb s 7) 13 (pick (eqb s 8) 8 12)))

abbrev same : Bool → Bool → Bool
same a b = pick a b (not b)

pub nine : upto 10 (λ s. upto 3 (λ m. upto 36 (λ n. only (offered (symbology_of s).limits m) (same (drawable (symbology_of s).limits m n) (listed s m n))))) ≡ true
unfolding symbology_of symbologies index_in
nine = refl

pub nine-past : (s n : ℕ) → drawn_counted s n ≡ true → n < 36
nine-past s n e = omega (arith, counted-few s n e)

-- ---- the order

abbrev pub numbers : List Check → List ℕ
numbers = map (λ (c : Check). (said_of c.answer).number)

-- "Drawing checks 1, 2, 3, 13, 4, 5, 6, 7, 8 in that order": all but the last, which asks for a buffer
pub row-numbers : (y : Symbology) (m count : ℕ) (field : List ℕ) → numbers (row_checks y m count field) ≡ 1 ∷ 2 ∷ 3 ∷ 13 ∷ 4 ∷ 5 ∷ 6 ∷ 7 ∷ []
row-numbers y m count field = refl

-- "Reading checks 1, 2, 9, 10, 11, 12, 7, 8": those of the strip,
pub seen-numbers : (s m : ℕ) (t : List ℕ) → numbers (seen_checks s m t) ≡ 1 ∷ 2 ∷ 9 ∷ 10 ∷ 11 ∷ []
seen-numbers s m t = refl

-- and those of its row
pub data-numbers : (y : Symbology) (m : ℕ) (r : List ℕ) → numbers (data_checks y m r) ≡ 12 ∷ 7 ∷ []
data-numbers y m r = refl

-- ---- the corners

infix 80 ◌draws◌
abbrev ◌draws◌ : Outcome → List ℕ → Outcome × Outcome
o draws r = (o, gives r)

infix 80 ◌gets◌
abbrev ◌gets◌ : Outcome → Answer → Outcome × Outcome
o gets a = (o, turned a)

-- drawn characters, as values of the symbology's alphabet
abbrev row : ℕ → String → List ℕ
row s t = map (value_of (symbology_of s).alphabet) (text t)

abbrev pub requests : List (Outcome × Outcome)
requests =
    row_of 0 0 (text "A") gets NoSymbology
    ∷ row_of 10 0 (text "A") gets NoSymbology
    ∷ row_of 255 255 [] gets NoSymbology
    ∷ row_of 1 3 [] gets NoMode
    ∷ row_of 3 1 (text "A5B") gets NoMode
    ∷ row_of 7 0 [] gets NoMode
    ∷ row_of 1 0 [] gets BadCount
    ∷ row_of 1 0 (text "000000000000000000000000000000000") gets BadCount
    ∷ row_of 1 1 (text "*") gets BadCount
    ∷ row_of 1 0 (text "A*") gets BadByte (data_place 1)
    ∷ row_of 1 0 (text "a") gets BadByte (data_place 0)
    ∷ row_of 3 0 (text "5AB") gets BadByte (data_place 0)
    ∷ row_of 3 0 (text "AAB") gets BadByte (data_place 1)
    ∷ row_of 3 0 (text "A5T") gets BadByte (data_place 2)
    ∷ row_of 4 0 (177 ∷ []) gets BadByte (data_place 0)
    ∷ row_of 2 0 (128 ∷ []) gets BadByte (data_place 0)
    ∷ row_of 2 0 (31 ∷ []) gets BadByte (data_place 0)
    ∷ row_of 2 1 (text "a1a") gets BadByte (data_place 2)
    ∷ row_of 2 1 (text "a1A") gets BadCheck (char_place 3)
    ∷ row_of 2 1 (text "a19") draws row 2 "+A19"
    ∷ row_of 2 0 (text "$~_/:@`") draws row 2 "/D%S%O/O/Z%V%W"
    ∷ row_of 2 0 (text " 0-.Z") draws row 2 " 0-.Z"
    ∷ row_of 2 2 (text "aaaaaaaaaaaaaaaa") gets TooManyDrawn
    ∷ row_of 2 1 (text "aaaaaaaaaaaaaaaaA") gets TooManyDrawn
    ∷ row_of 4 2 (text "10417") draws row 4 "104173"
    ∷ row_of 6 1 (text "104175") gets BadCheck (char_place 5)
    ∷ row_of 5 1 (text "418") gets OddCount
    ∷ row_of 5 1 (text "4175") gets BadCheck (char_place 3)
    ∷ row_of 5 2 (text "41") gets OddCount
    ∷ row_of 5 0 (text "4a7") gets BadByte (data_place 1)
    ∷ []

abbrev pub fields : List (Outcome × Outcome)
fields =
    row_of_field 5 0 3 (text "17") gets BadCount
    ∷ row_of_field 5 0 33 (text "a" ++ (7 ∷ [])) gets BadCount
    ∷ row_of_field 5 0 2 (text "17" ++ (0 ∷ 7 ∷ 9 ∷ [])) gets FieldNotZero (data_place 3)
    ∷ row_of_field 5 0 2 (text "a7" ++ (0 ∷ 7 ∷ [])) gets FieldNotZero (data_place 3)
    ∷ row_of_field 5 0 2 (text "a7" ++ (0 ∷ 0 ∷ [])) gets BadByte (data_place 0)
    ∷ row_of_field 5 0 2 (text "00" ++ (0 ∷ 0 ∷ [])) draws row 5 "00"
    ∷ []

abbrev pub rows : List (Outcome × Outcome)
rows =
    data_of 1 1 (row 1 "Z") gets BadLength
    ∷ data_of 5 0 (row 5 "417") gets BadLength
    ∷ data_of 3 0 (row 3 "AB") gets BadLength
    ∷ data_of 2 0 (row 2 "/M") gets NoExpansion (char_place 0)
    ∷ data_of 2 0 (row 2 "%U") gets NoExpansion (char_place 0)
    ∷ data_of 2 0 (row 2 "+1") gets NoExpansion (char_place 0)
    ∷ data_of 2 0 (row 2 "A$") gets NoExpansion (char_place 1)
    ∷ data_of 2 0 (row 2 "+A/") gets NoExpansion (char_place 2)
    ∷ data_of 2 1 (row 2 "//") gets NoExpansion (char_place 0)
    ∷ data_of 2 2 (row 2 "+A18") gets BadCheck (char_place 3)
    ∷ data_of 2 1 (row 2 "+A19") draws text "a19"
    ∷ data_of 2 2 (row 2 "+A19") draws text "a1"
    ∷ data_of 5 2 (row 5 "004176") draws text "00417"
    ∷ data_of 5 2 (row 5 "0123456784") draws text "012345678"
    ∷ []

-- each by itself, and one side only: the other is what it should compute to
abbrev Same : List (Outcome × Outcome) → Type 0
Same [] = Unit {0}
Same (c ∷ cs) = (c.0 ≡ c.1) × Same cs

sides : (cs : List (Outcome × Outcome)) → Same cs → map (λ (c : Outcome × Outcome). c.0) cs ≡ map (λ (c : Outcome × Outcome). c.1) cs
sides [] s = refl
sides (c ∷ cs) s = rw (s.0, sides cs s.1)

all : Same (requests ++ fields ++ rows)
unfolding row_of row_of_field data_of data_of_count byte_for symbology_of symbologies value_of byte_of plain codabar_coder full_coder raw_coder shifts check_of by43 right10 no_check index_in drawing ranges alphabet39 chars39 table42 alphabet_codabar table41 alphabet_digits table44
all = (refl, (refl, (refl, (refl, (refl, (refl, (refl, (refl, (refl, (refl, (refl, (refl, (refl, (refl, (refl, (refl, (refl, (refl, (refl, (refl, (refl, (refl, (refl, (refl, (refl, (refl, (refl, (refl, (refl, (refl, (refl, (refl, (refl, (refl, (refl, (refl, (refl, (refl, (refl, (refl, (refl, (refl, (refl, (refl, (refl, (refl, (refl, (refl, (refl, (refl, tt))))))))))))))))))))))))))))))))))))))))))))))))))

pub corners : map (λ (c : Outcome × Outcome). c.0) (requests ++ fields ++ rows) ≡ map (λ (c : Outcome × Outcome). c.1) (requests ++ fields ++ rows)
corners = sides (requests ++ fields ++ rows) all

-- no data and a rest: 3 comes before 13; a row that spells no data and has a wrong check: 12 comes before 7
abbrev pub at_once : List (Outcome × Outcome)
at_once =
    row_of_field 5 0 0 (text "17") gets BadCount
    ∷ data_of 2 2 (row 2 "/M9") gets NoExpansion (char_place 0)
    ∷ []

both : Same at_once
unfolding row_of row_of_field data_of data_of_count byte_for symbology_of symbologies value_of byte_of plain codabar_coder full_coder raw_coder shifts check_of by43 right10 no_check index_in drawing ranges alphabet39 chars39 table42 alphabet_codabar table41 alphabet_digits table44
both = (refl, (refl, tt))

pub corners-at-once : map (λ (c : Outcome × Outcome). c.0) at_once ≡ map (λ (c : Outcome × Outcome). c.1) at_once
corners-at-once = sides at_once both
