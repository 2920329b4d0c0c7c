-- Document 01's numbers are those of the strip: as many elements, as many modules. The elements follow from the parts alone, and so do the
-- modules where every free set is uniform; in Codabar they are counted character by character.
--
--   stepped           what parts add up to is document 01's formula, by step and base: one law for elements and modules
--   unit-widths       the elements of a strip's units, for every count of the symbology
--   level-modules     the modules where no character has fewer than another
--   elements          the length of the strip of a ready row
--   modules           its sum
--   drawn-elements, drawn-modules    so of every row that is drawn
--
-- Assumes nothing.
use Rattle.std.proofs.Common.{◌≡◌, refl, sym, ◌∙◌, true, false, List, [], ◌∷◌, map, ℕ, suc, ◌+◌, ◌*◌, ◌-◌, ◌<◌, ◌≤◌, arith, eqb, ltb, length, get_or, ltb-true, le-ltb, ne_eqb}
use native.Mathlib.Decide.{ℕ_discrete}
use Rattle.laws.specs.Search.{pick}
use Rattle.laws.specs.Elements.{sum}
use Rattle.laws.specs.Units.{Kind, free, widths, strip}
use Rattle.laws.specs.Shapes.{many}
use Rattle.laws.proofs.Finite.{both_left, both_right, line, From}
use Rattle.laws.proofs.Elements.{sum-append}
use Rattle.laws.proofs.Strips.{strip-length}
use Rattle.words.specs.Order.{gives}
use Rattle.tables.specs.Alphabet.{bits_of, rows_of}
use Rattle.tables.specs.Code39.{table42, chars39, alphabet39, rows39, star39}
use Rattle.tables.specs.Codabar.{table41, alphabet_codabar, inner_rows, letter_rows}
use Rattle.tables.specs.TwoOfFive.{table44, alphabet_digits, digit_rows, industrial_rows, industrial_start, industrial_stop, interleaved_rows, interleaved_start, interleaved_stop, matrix_rows, matrix_ends}
use Rattle.tables.specs.Ean.{table52, patterns, odd_rows, even_rows, left_rows, right_rows, guard, centre}
use Rattle.tables.proofs.Good.{uniform-letter}
use Rattle.symbologies.specs.Coders.{placed}
use Rattle.symbologies.specs.Parts.{Part, parted, part_units, starred, lettering, industrial, interleaved, matrix, halved, lowered}
use Rattle.symbologies.specs.Symbologies.{symbologies, symbology_of}
use Rattle.symbologies.specs.Rows.{row_of}
use Rattle.symbologies.specs.Strips.{elements_of, modules_of, units_of, strip_of, counted, all_allowed, ready}
use Rattle.symbologies.proofs.Measuring.{less-most, apart, nothing-less}
use Rattle.symbologies.proofs.Laying.{total, add-widths, add-tally, Steady, tally, steady-sum}
use Rattle.symbologies.proofs.Counted.{counted-codabar, counted-even, counted-ean13, counted-ean8, counted-upc, by_number}
use Rattle.symbologies.proofs.Ready.{drawn-ready, ready-counted, ready-allowed, letter-high, letter-low, ready-fits, steady-39, steady-industrial, steady-interleaved, steady-matrix, steady-left, steady-odd, all-good}

-- ---- elements and modules of the parts, by step and base

-- what parts add up to, and one more: so much for each character, and so much besides
abbrev Stepped : (List Kind → ℕ) → ℕ → ℕ → ℕ → ℕ → Type 0
Stepped f s n step base = total f n (symbology_of s).parts + 1 ≡ step * n + base

stepped : (f : List Kind → ℕ) (s n step base : ℕ) → ((ps : List Part) → f (part_units n ps) ≡ total f n ps) → Stepped f s n step base → f (units_of s n) ≡ step * n + base - 1
unfolding units_of
stepped f s n step base add e = omega (arith, add (symbology_of s).parts)

-- the line's own steps and bases: the elements for every count, the modules where no row of a set has fewer than another
abbrev Formulas : ℕ → Type 0
Formulas s = (n : ℕ) → counted s n ≡ true
    → Stepped widths s n (symbology_of s).limits.step (symbology_of s).limits.more × (eqb s 3 ≡ false → Stepped tally s n (symbology_of s).limits.each (symbology_of s).limits.rest)

formulas : From Formulas 1 9
unfolding symbology_of symbologies starred lettering industrial interleaved matrix halved rows39 star39 inner_rows letter_rows industrial_rows industrial_start industrial_stop interleaved_rows interleaved_start interleaved_stop matrix_rows matrix_ends digit_rows left_rows odd_rows even_rows right_rows guard centre rows_of bits_of alphabet39 chars39 table42 alphabet_codabar table41 alphabet_digits table44 patterns table52
formulas = (
  λ n c. (omega arith, λ e. omega arith),
  (
    λ n c. (omega arith, λ e. omega arith),
    (
      λ n c. (omega (arith, (counted-codabar n c).0), λ e. cc),
      (
        λ n c. (omega arith, λ e. omega arith),
        (
          λ n c. (omega (arith, counted-even n c), λ e. omega (arith, counted-even n c)),
          (
            λ n c. (omega arith, λ e. omega arith),
            (
              λ n c. (omega (arith, counted-ean13 n c), λ e. omega (arith, counted-ean13 n c)),
              (λ n c. (omega (arith, counted-ean8 n c), λ e. omega (arith, counted-ean8 n c)), (λ n c. (omega (arith, counted-upc n c), λ e. omega (arith, counted-upc n c)), tt)),
            ),
          ),
        ),
      ),
    ),
  ),
)

pub unit-widths : (s n : ℕ) → counted s n ≡ true → widths (units_of s n) ≡ elements_of s n
unfolding elements_of
unit-widths s n e = stepped widths s n (symbology_of s).limits.step (symbology_of s).limits.more (add-widths n) (by_number Formulas formulas s n e n e).0

-- ---- modules where no character has fewer than another

pub level-modules : (s : ℕ) → ((c : ℕ) → (symbology_of s).less c ≡ 0) → (r : List ℕ)
    → modules_of s r ≡ (symbology_of s).limits.each * length r + (symbology_of s).limits.rest - 1
unfolding modules_of
level-modules s z r = omega (arith, apart (symbology_of s).limits.each (symbology_of s).less (less-most s) r, nothing-less (symbology_of s).less z r)

-- ---- Codabar, character by character

-- with the parting space beside it
abbrev unit_of : ℕ → ℕ
unit_of c = 14 - pick (ltb c 12) 2 0

inner-modules : (c : ℕ) → c < 16 → sum (get_or inner_rows c []) + 1 ≡ unit_of c
unfolding inner_rows rows_of alphabet_codabar table41
inner-modules = line 16 (λ c. sum (get_or inner_rows c []) + 1) unit_of refl

letter-modules : (c : ℕ) → placed true c ≡ true → sum (get_or letter_rows (c - 16) []) + 1 ≡ unit_of c
unfolding letter_rows rows_of alphabet_codabar table41
letter-modules c p = rw (le-ltb c 12 (omega (arith, letter-high c p))) (omega (arith, uniform-letter.same (c - 16) (letter-low c p)))

-- what stands behind the first letter
abbrev inside : ℕ → List Kind
inside n = many n (parted (free inner_rows)) (parted (free letter_rows))

modules-inner : (c : ℕ) (cs : List ℕ) → all_allowed 3 false (c ∷ cs) ≡ true
    → sum (strip (inside (length cs)) (lowered false (c ∷ cs))) ≡ sum (map unit_of (c ∷ cs))
unfolding symbology_of symbologies
modules-inner c [] e = omega (arith, sum-append (get_or letter_rows (c - 16) []) [], letter-modules c (both_left (placed true c) true e))
modules-inner c (d ∷ cs) e =
    let low : c < 16 = ltb-true c 16 (both_left (placed false c) (all_allowed 3 false (d ∷ cs)) e) in
    omega (arith, sum-append (get_or inner_rows c []) (strip (inside (length cs)) (lowered false (d ∷ cs))), inner-modules c low, modules-inner d cs (both_right (placed false c) (all_allowed 3 false (d ∷ cs)) e))

modules-codabar : (r : List ℕ) → 3 ≤ length r → all_allowed 3 true r ≡ true → sum (strip (part_units (length r) lettering) (lowered true r)) ≡ sum (map unit_of r) - 1
unfolding lettering symbology_of symbologies
modules-codabar [] l e = absurd (omega arith)
modules-codabar (a ∷ []) l e = absurd (omega arith)
modules-codabar (a ∷ b ∷ cs) l e =
    let n : suc (suc (length cs)) - 2 ≡ length cs = omega arith in
    let first : sum (get_or letter_rows (a - 16) []) + 1 ≡ unit_of a = letter-modules a (both_left (placed true a) (all_allowed 3 false (b ∷ cs)) e) in
    rw (n, sum-append) (omega (arith, modules-inner b cs (both_right (placed true a) (all_allowed 3 false (b ∷ cs)) e)))

-- ---- modules

-- where every free set is uniform
abbrev Even : ℕ → Type 0
Even s = eqb s 3 ≡ false → ((c : ℕ) → (symbology_of s).less c ≡ 0) × ((n : ℕ) → Steady (units_of s n))

even : From Even 1 9
unfolding units_of symbology_of symbologies
even = (
  λ e. (λ c. refl, steady-39),
  (
    λ e. (λ c. refl, steady-39),
    (
      λ e. absurd (let z : ◌≡◌ {A = ℕ} 0 1 = cc in omega arith),
      (
        λ e. (λ c. refl, steady-industrial),
        (
          λ e. (λ c. refl, steady-interleaved),
          (λ e. (λ c. refl, steady-matrix), (λ e. (λ c. refl, steady-left 6), (λ e. (λ c. refl, steady-odd 4), (λ e. (λ c. refl, steady-odd 6), tt)))),
        ),
      ),
    ),
  ),
)

steadily : (s : ℕ) (r : List ℕ) → ready s r ≡ true → eqb s 3 ≡ false → sum (strip_of s r) ≡ modules_of s r
unfolding strip_of
steadily s r h e =
    let n : ℕ = length r in
    let c : counted s n ≡ true = ready-counted s r h in
    let g : ((c : ℕ) → (symbology_of s).less c ≡ 0) × ((n : ℕ) → Steady (units_of s n)) = by_number Even even s n c e in
    steady-sum (units_of s n) ((symbology_of s).shows.choices r) (g.1 n) (ready-fits s r h)
    ∙ stepped tally s n (symbology_of s).limits.each (symbology_of s).limits.rest (add-tally n) ((by_number Formulas formulas s n c n c).1 e) ∙ sym (level-modules s g.0 r)

measured-codabar : (r : List ℕ) → ready 3 r ≡ true → sum (strip_of 3 r) ≡ modules_of 3 r
unfolding strip_of units_of modules_of symbology_of symbologies
measured-codabar r h = modules-codabar r (counted-codabar (length r) (ready-counted 3 r h)).0 (ready-allowed 3 r h) ∙ omega arith

-- ---- the theorems

module _ (s : ℕ) (r : List ℕ) (h : ready s r ≡ true) where
  pub elements : length (strip_of s r) ≡ elements_of s (length r)
  unfolding strip_of
  elements =
      strip-length (units_of s (length r)) ((symbology_of s).shows.choices r) (all-good s (length r)) (ready-fits s r h)
      ∙ unit-widths s (length r) (ready-counted s r h)

  pub modules : sum (strip_of s r) ≡ modules_of s r
  modules = go (ℕ_discrete s 3)
    where
      go : Dec (s ≡ 3) → sum (strip_of s r) ≡ modules_of s r
      go (yes e) = rw e (measured-codabar r (rw e at h))
      go (no e) = steadily s r h (ne_eqb s 3 e)

module _ (s m : ℕ) (d r : List ℕ) (e : row_of s m d ≡ gives r) where
  pub drawn-elements : length (strip_of s r) ≡ elements_of s (length r)
  drawn-elements = elements s r (drawn-ready s m d r e)

  pub drawn-modules : sum (strip_of s r) ≡ modules_of s r
  drawn-modules = modules s r (drawn-ready s m d r e)
