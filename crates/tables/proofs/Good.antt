-- Every set that a unit may come from is good: its rows have one length, no two are the same, and no two differ in exactly
-- one element. Where all rows of a set have as many modules, that follows from the count: a changed element changes it.
--
--   Uniform     a good set of n elements a row whose rows all have m modules
--   uniform39             Code 39: 43 rows of nine elements, 15 modules
--   uniform-matrix        10 rows of five elements, 9 modules
--   good-inner            Codabar's inner characters: 16 rows of seven elements, of 11 or 13 modules
--   uniform-letter        Codabar's letters: 4 rows of seven elements, 13 modules
--   uniform-industrial    10 rows of nine elements, 13 modules
--   uniform-interleaved   100 pairs of ten elements, 18 modules
--   uniform-odd, uniform-right, uniform-left    EAN and UPC: 10, 10 and (EAN-13's left side) 20 rows of four elements, 7 modules
--
-- Assumes nothing.
use Rattle.std.proofs.Common.{◌≡◌, refl, true, List, ℕ, arith}
use Rattle.laws.specs.Units.{Good, Level}
use Rattle.laws.proofs.Sets.{row-test, level-test, level, good-level, good-far}
use Rattle.tables.specs.Alphabet.{rows_of}
use Rattle.tables.specs.Code39.{table42, chars39, alphabet39, rows39}
use Rattle.tables.specs.Codabar.{table41, alphabet_codabar, inner_rows, letter_rows}
use Rattle.tables.specs.TwoOfFive.{table44, alphabet_digits, digit_rows, industrial_rows, interleaved_rows, matrix_rows}
use Rattle.tables.specs.Ean.{table52, patterns, odd_rows, even_rows, right_rows, left_rows}
use Rattle.tables.proofs.Wide.{level-rows}
use Rattle.tables.proofs.Rules.{three-wide, two-wide}

pub record Uniform (n m : ℕ) (k : List (List ℕ)) : Type 0 where
  pub good : Good n k
  pub same : Level m k

from-level : (n m : ℕ) (k : List (List ℕ)) → row-test n k ≡ true → Level m k → Uniform n m k
from-level n m k t v = record { good = good-level n k t m v; same = v }

tested : (n m : ℕ) (k : List (List ℕ)) → row-test n k ≡ true → level-test m k ≡ true → Uniform n m k
tested n m k t l = from-level n m k t (level m k l)

-- ---- where the count of wide elements drives it

pub uniform39 : Uniform 9 15 rows39
unfolding rows39 rows_of alphabet39 chars39 table42
uniform39 = from-level 9 15 rows39 refl (level-rows 9 3 alphabet39 (λ v h. three-wide v (omega arith)))

pub uniform-matrix : Uniform 5 9 matrix_rows
unfolding matrix_rows digit_rows rows_of alphabet_digits table44
uniform-matrix = from-level 5 9 matrix_rows refl (level-rows 5 2 alphabet_digits two-wide)

-- ---- by a test of the modules, or of every pair

pub good-inner : Good 7 inner_rows
unfolding inner_rows rows_of alphabet_codabar table41
good-inner = good-far 7 inner_rows refl refl

pub uniform-letter : Uniform 7 13 letter_rows
unfolding letter_rows rows_of alphabet_codabar table41
uniform-letter = tested 7 13 letter_rows refl refl

pub uniform-industrial : Uniform 9 13 industrial_rows
unfolding industrial_rows digit_rows rows_of alphabet_digits table44
uniform-industrial = tested 9 13 industrial_rows refl refl

pub uniform-interleaved : Uniform 10 18 interleaved_rows
unfolding interleaved_rows digit_rows rows_of alphabet_digits table44
uniform-interleaved = tested 10 18 interleaved_rows refl refl

pub uniform-odd : Uniform 4 7 odd_rows
unfolding odd_rows patterns table52
uniform-odd = tested 4 7 odd_rows refl refl

pub uniform-right : Uniform 4 7 right_rows
unfolding right_rows patterns table52
uniform-right = tested 4 7 right_rows refl refl

pub uniform-left : Uniform 4 7 left_rows
unfolding left_rows odd_rows even_rows patterns table52
uniform-left = tested 4 7 left_rows refl refl
