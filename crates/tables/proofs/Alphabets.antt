-- Bytes and values undo one another in every proper alphabet; and the three alphabets are proper.
--
--   Proper        no character stands twice; nor does a code, and each character has one, which are rules for the reader
--   value-byte, byte-value    bytes and values
--   proper39, proper-codabar, proper-digits    the three alphabets
--
-- Assumes nothing.
use Rattle.std.proofs.Common.{◌≡◌, refl, ℕ, ◌<◌, ◌≤◌, length, lit≤}
use Rattle.laws.specs.Search.{index_in, Distinct}
use Rattle.laws.proofs.Search.{index-hit, index-own, distinct}
use Rattle.tables.specs.Alphabet.{Alphabet, size, value_of, byte_of}
use Rattle.tables.specs.Code39.{table42, chars39, alphabet39}
use Rattle.tables.specs.Codabar.{table41, alphabet_codabar}
use Rattle.tables.specs.TwoOfFive.{table44, alphabet_digits}

pub record Proper (a : Alphabet) : Type 0 where
  pub chars : Distinct a.chars
  pub codes : Distinct a.codes
  pub coded : size a ≤ length a.codes

module _ (a : Alphabet) (p : Proper a) where
  pub value-byte : (v : ℕ) → v < size a → value_of a (byte_of a v) ≡ v
  unfolding value_of byte_of
  value-byte v h = index-own a.chars p.chars v h

  pub byte-value : (b : ℕ) → value_of a b < size a → byte_of a (value_of a b) ≡ b
  unfolding value_of byte_of
  byte-value b h = index-hit a.chars b h

pub proper39 : Proper alphabet39
unfolding alphabet39 chars39 table42 index_in
proper39 = record { chars = distinct alphabet39.chars refl; codes = distinct alphabet39.codes refl; coded = lit≤ tt }

pub proper-codabar : Proper alphabet_codabar
unfolding alphabet_codabar table41 index_in
proper-codabar = record { chars = distinct alphabet_codabar.chars refl; codes = distinct alphabet_codabar.codes refl; coded = lit≤ tt }

pub proper-digits : Proper alphabet_digits
unfolding alphabet_digits table44 index_in
proper-digits = record { chars = distinct alphabet_digits.chars refl; codes = distinct alphabet_digits.codes refl; coded = lit≤ tt }
