-- A strip whose row is seen: what its length, its symbology and its mode are, and what its units read.
--
--   Shown       the mode is offered, and gives so many characters, whose strip has just so many elements; the units are all read, and the
--               characters are those of the rows that they show
--   shown-row   so it is for every row that is seen
--
-- Assumes nothing.
use Rattle.std.proofs.Common.{◌≡◌, sym, ap, ◌∙◌, true, false, List, ℕ, length}
use Rattle.std.proofs.lemmas.Bool.{not-false}
use Rattle.std.proofs.lemmas.List.{length-map}
use Rattle.laws.specs.Units.{read}
use Rattle.laws.proofs.Spelling.{counted-length}
use Rattle.words.specs.Order.{gives}
use Rattle.words.proofs.Order.{None, given}
use Rattle.symbologies.specs.Limits.{offered, drawable}
use Rattle.symbologies.specs.Symbologies.{symbology_of}
use Rattle.symbologies.specs.Rows.{stops, finds}
use Rattle.symbologies.specs.Strips.{elements_of, units_of, count_for, chars_of, row_read, seen_checks, row_seen}
use Rattle.symbologies.proofs.Counting.{drawn-counted, same_length}
use Rattle.symbologies.proofs.Choices.{shows}

pub record Shown (s m : ℕ) (t r : List ℕ) : Type 0 where
  pub known : (symbology_of s).limits.known ≡ true
  pub offers : offered (symbology_of s).limits m ≡ true
  pub can : drawable (symbology_of s).limits m (length r) ≡ true
  pub long : length t ≡ elements_of s (length r)
  pub count : count_for s (length t) ≡ length r
  pub all : stops (read (units_of s (length r)) t) ≡ false
  pub like : (symbology_of s).shows.unlike (shows (finds (read (units_of s (length r)) t))) ≡ false
  pub is : chars_of s (length r) (shows (finds (read (units_of s (length r)) t))) ≡ r

pub shown-row : (s m : ℕ) (t r : List ℕ) → row_seen s m t ≡ gives r → Shown s m t r
unfolding row_seen chars_of
shown-row s m t r e =
    let g : None (seen_checks s m t) × (row_read s t ≡ r) = given (seen_checks s m t) (row_read s t) r e in
    let n : count_for s (length t) ≡ length r = sym (ap length (sym g.1) ∙ rw (length-map, counted-length)) in
    let o : offered (symbology_of s).limits m ≡ true = not-false _ g.0.1.0 in
    let d : drawable (symbology_of s).limits m (count_for s (length t)) ≡ true = not-false _ g.0.1.1.0 in
    record {
      known = not-false _ g.0.0;
      offers = o;
      can = rw n at d;
      long = rw (← n) (sym (same_length s (length t) (drawn-counted s m (count_for s (length t)) o d)));
      count = n;
      all = rw (← n) g.0.1.1.1.0;
      like = rw (← n) g.0.1.1.1.1.0;
      is = rw (← n) g.1;
    }
