-- Symbologies of which a character is a byte, Code 39 and the digits: what a row of theirs hands back.
--
--   Plain, digits-are-plain, code39-is-plain    characters are read back as their own bytes
--   chars-front   the characters that spell the data are the first ones: the check is last
--   plain-read    so a row hands back its first characters as bytes
--   data-long     as many as the data of one that reads
--
-- Assumes nothing.
use Rattle.std.proofs.Common.{◌≡◌, sym, ap, ◌∙◌, true, List, map, append-nil, ℕ, suc, ◌-◌, ◌<◌, ◌≤◌, arith, length, take, drop_of_length-le, take_all, length-take-le, eq-eqb, ne_eqb}
use native.Mathlib.Decide.{ℕ_discrete}
use Rattle.std.proofs.lemmas.List.{length-map}
use Rattle.laws.specs.Units.{found}
use Rattle.laws.specs.Spelling.{unspell}
use Rattle.laws.specs.Rules.{place_of}
use Rattle.laws.proofs.Finite.{from_at}
use Rattle.laws.proofs.Spelling.{Below, below_split}
use Rattle.tables.specs.Alphabet.{size, byte_of}
use Rattle.tables.specs.Code39.{chars39, alphabet39}
use Rattle.tables.specs.TwoOfFive.{table44, alphabet_digits}
use Rattle.symbologies.specs.Limits.{added}
use Rattle.symbologies.specs.Symbologies.{symbologies, symbology_of}
use Rattle.symbologies.specs.Rows.{chars_read, unspelled}
use Rattle.symbologies.proofs.Coders.{back39, back-digits}
use Rattle.symbologies.proofs.Proper.{last-place}
use Rattle.symbologies.proofs.Undo.{Reads}

abbrev pub bytes : ℕ → List ℕ → List ℕ
bytes s cs = map (byte_of (symbology_of s).alphabet) cs

-- characters are read back as their own bytes
abbrev pub Plain : ℕ → Type 0
Plain s = (m : ℕ) (cs : List ℕ) → Below (size (symbology_of s).alphabet) cs → unspell ((symbology_of s).coder m) true 0 cs ≡ found (bytes s cs)

pub digits-are-plain : (s : ℕ) → 4 ≤ s → s < 10 → Plain s
unfolding symbology_of symbologies alphabet_digits table44
digits-are-plain = from_at Plain 4 6 (λ m. back-digits, (λ m. back-digits, (λ m. back-digits, (λ m. back-digits, (λ m. back-digits, (λ m. back-digits, tt))))))

pub code39-is-plain : Plain 1
unfolding symbology_of symbologies alphabet39 chars39
code39-is-plain = λ m. back39

pub chars-front : (s m : ℕ) (r : List ℕ) → 0 < length r → chars_read (symbology_of s) m r ≡ take (length r - added m) r
chars-front s m r h = go (ℕ_discrete m 2)
  where
    place : place_of (symbology_of s).rule (length r) ≡ length r - 1
    place = omega (arith, last-place s)

    go : Dec (m ≡ 2) → chars_read (symbology_of s) m r ≡ take (length r - added m) r
    go (yes q) = rw (eq-eqb m 2 q, place, drop_of_length-le r {i = suc (length r - 1)} (omega arith)) (append-nil (take (length r - 1) r))
    go (no q) = rw (ne_eqb m 2 q) (sym (take_all (length r - 0) r (omega arith)))

module _ (s m : ℕ) (plain : Plain s) where
  pub plain-read : (r : List ℕ) → 0 < length r → Below (size (symbology_of s).alphabet) r → unspelled (symbology_of s) m r ≡ found (bytes s (take (length r - added m) r))
  plain-read r h b = rw (chars-front s m r h) (plain m (take (length r - added m) r) (below_split _ (length r - added m) r b).0)

  pub data-long : (d r : List ℕ) → 0 < length r → Below (size (symbology_of s).alphabet) r → Reads (symbology_of s) m d r → length d ≡ length r - added m
  data-long d r h b a =
      let f : found (bytes s (take (length r - added m) r)) ≡ found d = sym (plain-read r h b) ∙ a.spells in
      let e : bytes s (take (length r - added m) r) ≡ d = cc in
      ap length (sym e) ∙ length-map (take (length r - added m) r) (byte_of (symbology_of s).alphabet) ∙ length-take-le (length r - added m) r (omega arith)
