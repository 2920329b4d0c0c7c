-- The rules of the tables, each one test that is computed over the whole table. They are theorems for the reader, who holds the tables to
-- the sources; only `three-wide` and `two-wide` are needed further on (Good.antt).
--
--   three-wide       Code 39: three wide elements in every one of the 44 codes
--   two-wide         2 of 5: two wide elements in every digit
--   two-classes      Codabar: two wide elements in digits, - and $, three in : / . + and in the letters
--   pattern_of        EAN and UPC: the pattern of a set and a digit, 0 past the table
--   four-and-seven   EAN and UPC: every pattern has four elements and seven modules
--   turned, right-odd    bars and spaces exchanged: the right set is the odd set turned
--   mirror, even_odd     read from the other end: the even set is the right set mirrored
--   distinct-parities    no parities stand twice, so searches undo lookups; distinct-patterns, nor do patterns, in one set or in two
--
-- Assumes nothing.
use Rattle.std.proofs.Common.{◌≡◌, refl, [], ◌++◌, ℕ, zero, suc, ◌+◌, ◌*◌, ◌-◌, ◌^◌, ◌<◌, ltb, length, get_or}
use Rattle.laws.specs.Search.{pick, index_in, Distinct}
use Rattle.laws.specs.Elements.{sum}
use Rattle.laws.proofs.Finite.{line, grid}
use Rattle.laws.proofs.Search.{distinct}
use Rattle.tables.specs.Bits.{bit, ones, runs}
use Rattle.tables.specs.Alphabet.{bits_of}
use Rattle.tables.specs.Code39.{table42, chars39, alphabet39}
use Rattle.tables.specs.Codabar.{table41, alphabet_codabar}
use Rattle.tables.specs.TwoOfFive.{table44, alphabet_digits}
use Rattle.tables.specs.Ean.{table52, patterns, parities}

-- ---- wide elements, elements, modules

pub three-wide : (v : ℕ) → v < 44 → ones 9 (bits_of alphabet39 v) ≡ 3
unfolding bits_of alphabet39 chars39 table42
three-wide = line 44 (λ v. ones 9 (bits_of alphabet39 v)) (λ v. 3) refl

pub two-wide : (d : ℕ) → d < 10 → ones 5 (bits_of alphabet_digits d) ≡ 2
unfolding bits_of alphabet_digits table44
two-wide = line 10 (λ d. ones 5 (bits_of alphabet_digits d)) (λ d. 2) refl

pub two-classes : (v : ℕ) → v < 20 → ones 7 (bits_of alphabet_codabar v) ≡ pick (ltb v 12) 2 3
unfolding bits_of alphabet_codabar table41
two-classes = line 20 (λ v. ones 7 (bits_of alphabet_codabar v)) (λ v. pick (ltb v 12) 2 3) refl

unfoldable pub pattern_of : ℕ → ℕ → ℕ
pattern_of set digit = get_or (get_or patterns set []) digit 0

pub four-and-seven : (s d : ℕ) → s < 3 → d < 10 → (length (runs 7 (pattern_of s d)) ≡ 4) × (sum (runs 7 (pattern_of s d)) ≡ 7)
unfolding pattern_of patterns table52
four-and-seven s d h k = (
  grid 3 10 (λ s d. length (runs 7 (pattern_of s d))) (λ s d. 4) refl s d h k,
  grid 3 10 (λ s d. sum (runs 7 (pattern_of s d))) (λ s d. 7) refl s d h k,
)

-- ---- the right set and the even set, computed from the odd set

abbrev pub turned : ℕ → ℕ
turned p = 127 - p

-- of the n low bits
abbrev pub mirror : ℕ → ℕ → ℕ
mirror zero p = 0
mirror (suc n) p = bit n p * 2 ^ (6 - n) + mirror n p

pub right-odd : (d : ℕ) → d < 10 → pattern_of 2 d ≡ turned (pattern_of 0 d)
unfolding pattern_of patterns table52
right-odd = line 10 (pattern_of 2) (λ d. turned (pattern_of 0 d)) refl

pub even_odd : (d : ℕ) → d < 10 → pattern_of 1 d ≡ mirror 7 (turned (pattern_of 0 d))
unfolding pattern_of patterns table52
even_odd = line 10 (pattern_of 1) (λ d. mirror 7 (turned (pattern_of 0 d))) refl

-- ---- nothing stands twice

pub distinct-parities : Distinct parities
unfolding parities table52 index_in
distinct-parities = distinct parities refl

pub distinct-patterns : Distinct (get_or patterns 0 [] ++ get_or patterns 1 [] ++ get_or patterns 2 [])
unfolding patterns table52 index_in
distinct-patterns = distinct (get_or patterns 0 [] ++ get_or patterns 1 [] ++ get_or patterns 2 []) refl
