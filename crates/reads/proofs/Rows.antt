-- How many characters a strip's free units are, by symbology and count.
--
--   frees-append   the free units of units behind others
--   rows_are       the characters are the free units, two to one in Interleaved, and EAN-13's first digit beside them
--   rows_few       so their rows have room before the places end
--
-- Assumes nothing.
use Rattle.std.proofs.Common.{◌≡◌, Bool, true, false, List, [], ◌∷◌, ◌++◌, ℕ, ◌+◌, ◌*◌, ◌≤◌, arith, eqb}
use Rattle.laws.specs.Search.{pick}
use Rattle.laws.specs.Units.{Kind, fixed, free, frees}
use Rattle.laws.proofs.Finite.{From}
use Rattle.symbologies.specs.Parts.{starred, lettering, industrial, interleaved, matrix, halved}
use Rattle.symbologies.specs.Symbologies.{symbologies, symbology_of}
use Rattle.symbologies.specs.Strips.{units_of, counted}
use Rattle.symbologies.proofs.Laying.{total, add_parts}
use Rattle.symbologies.proofs.Counted.{counted-codabar, counted-even, counted-ean13, counted-ean8, counted-upc, by_number}
use Rattle.reads.specs.Walk.{lead}

pub frees-append : (a b : List Kind) → frees (a ++ b) ≡ frees a + frees b
frees-append [] b = omega arith
frees-append (fixed r ∷ a) b = frees-append a b
frees-append (free k ∷ a) b = omega (arith, frees-append a b)

abbrev Rows : ℕ → Type 0
Rows s = (n : ℕ) → counted s n ≡ true → lead s + pick (eqb s 5) 2 1 * total frees n (symbology_of s).parts ≡ n

by-line : From Rows 1 9
unfolding symbology_of symbologies starred lettering industrial interleaved matrix halved
by-line = (
  λ n c. omega arith,
  (
    λ n c. omega arith,
    (
      λ n c. omega (arith, (counted-codabar n c).0),
      (
        λ n c. omega arith,
        (
          λ n c. omega (arith, counted-even n c),
          (λ n c. omega arith, (λ n c. omega (arith, counted-ean13 n c), (λ n c. omega (arith, counted-ean8 n c), (λ n c. omega (arith, counted-upc n c), tt)))),
        ),
      ),
    ),
  ),
)

pub rows_are : (s n : ℕ) → counted s n ≡ true → lead s + pick (eqb s 5) 2 1 * frees (units_of s n) ≡ n
unfolding units_of
rows_are s n c = rw (add_parts frees frees-append n (symbology_of s).parts) (by_number Rows by-line s n c n c)

pub rows_few : (s n : ℕ) → counted s n ≡ true → lead s + frees (units_of s n) ≤ n
rows_few s n c = go (eqb s 5) (rows_are s n c)
  where
    go : (b : Bool) → lead s + pick b 2 1 * frees (units_of s n) ≡ n → lead s + frees (units_of s n) ≤ n
    go true e = omega arith
    go false e = omega arith
