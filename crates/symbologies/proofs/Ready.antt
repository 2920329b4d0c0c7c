-- Rows that are ready: every row that is drawn is, and what is ready has a strip. A ready row has a count of its symbology's and
-- characters of its set, so each free unit is shown a row that stands in its set.
--
--   ready-counted, ready-allowed, ready-below    what a ready row passed: its count, its characters, outside Codabar each of its set
--   free-set        outside Codabar a character may stand anywhere
--   below-allowed   so each of its set may stand where it stands
--   no-codabar      Codabar offers no check
--   drawn-ready     a row that is drawn is ready
--   letter-high, letter-low    Codabar's letters have the values 16 to 19
--   Sided, sided-is    EAN-13's twelve units, the first six of either left set
--   ready-fits      the choices that a ready row makes fit the units of its strip
--   steady-39, steady-industrial, steady-interleaved, steady-matrix, steady-left, steady-odd    every free set of these strips is uniform
--                   (all but Codabar's inner one)
--   all-good        every free set of every strip is good
--   few-elements, few    a strip has at most as many elements as the longest
--
-- Assumes nothing.
use Rattle.std.proofs.Common.{◌≡◌, refl, ap, ◌≢◌, Bool, true, false, List, [], ◌∷◌, ℕ, zero, suc, ◌+◌, ◌-◌, ◌/◌, ◌^◌, ◌<◌, ◌≤◌, arith, le_of_suc-le-suc, not-suc-le-zero, mod-lt, mul-le-mul_left, eqb, ltb, leb, lit<, length, take, drop, length-drop, ltb-true, leb-true, ne_eqb}
use native.Mathlib.Decide.{ℕ_discrete}
use Rattle.std.proofs.lemmas.Bool.{eqb-false}
use Rattle.laws.specs.Units.{fixed, free, Fits, All}
use Rattle.laws.specs.Shapes.{many}
use Rattle.laws.proofs.Finite.{both_left, both_right, both_true, From}
use Rattle.laws.proofs.Shapes.{all-many}
use Rattle.laws.proofs.Spelling.{Below, below_split}
use Rattle.laws.proofs.Fitting.{Free, free-below, below_free}
use Rattle.words.specs.Order.{gives}
use Rattle.tables.specs.Bits.{bit}
use Rattle.tables.specs.Alphabet.{size, rows_of}
use Rattle.tables.specs.Code39.{table42, chars39, alphabet39, rows39, star39}
use Rattle.tables.specs.Codabar.{table41, alphabet_codabar, inner_rows, letter_rows}
use Rattle.tables.specs.TwoOfFive.{table44, alphabet_digits, digit_rows, industrial_rows, industrial_start, industrial_stop, interleaved_rows, matrix_rows, matrix_ends}
use Rattle.tables.specs.Ean.{table52, patterns, odd_rows, even_rows, left_rows, right_rows, guard, parities_of}
use Rattle.tables.proofs.Good.{uniform39, uniform-matrix, good-inner, uniform-letter, uniform-industrial, uniform-interleaved, uniform-odd, uniform-right, uniform-left}
use Rattle.symbologies.specs.declared.limits.Limits.{Limits}
use Rattle.symbologies.specs.Sizes.{longest}
use Rattle.symbologies.specs.Limits.{offered, added, elements_in, most_of}
use Rattle.symbologies.specs.Coders.{placed}
use Rattle.symbologies.specs.Parts.{parted, bare, part_units, between, starred, lettering, industrial, interleaved, matrix, halved, lowered, paired, sides, sided}
use Rattle.symbologies.specs.Symbologies.{Symbology, symbologies, symbology_of}
use Rattle.symbologies.specs.Rows.{row_of}
use Rattle.symbologies.specs.Strips.{elements_of, units_of, counted, all_allowed, ready}
use Rattle.symbologies.proofs.Numbers.{Digits, others, by-test, by_number as by-line}
use Rattle.symbologies.proofs.Undo.{Reads, reads}
use Rattle.symbologies.proofs.Within.{row_fits}
use Rattle.symbologies.proofs.Proper.{proper, undo}
use Rattle.symbologies.proofs.Laying.{fits-many, repeated, Steady, steady-parts, steady-good}
use Rattle.symbologies.proofs.Counted.{in-modes, mode-at, by_mode, counted-by, counted-codabar, counted-ean13, counted-ean8, counted-upc, by_number}

-- ---- what a ready row passed

pub ready-counted : (s : ℕ) (r : List ℕ) → ready s r ≡ true → counted s (length r) ≡ true
unfolding ready
ready-counted s r h = both_left (counted s (length r)) (all_allowed s true r) h

pub ready-allowed : (s : ℕ) (r : List ℕ) → ready s r ≡ true → all_allowed s true r ≡ true
unfolding ready
ready-allowed s r h = both_right (counted s (length r)) (all_allowed s true r) h

pub free-set : (s : ℕ) → eqb s 3 ≡ false → Free (symbology_of s).allowed (size (symbology_of s).alphabet)
unfolding symbology_of symbologies
free-set s n = go (ℕ_discrete s 1) (ℕ_discrete s 2)
  where
    go : Dec (s ≡ 1) → Dec (s ≡ 2) → Free (symbology_of s).allowed (size (symbology_of s).alphabet)
    go (yes e) f = rw e (λ p v. refl)
    go (no e) (yes f) = rw f (λ p v. refl)
    go (no e) (no f) = let d : Digits (symbology_of s) = others s e f (eqb-false s 3 n) in rw (d.allowed, d.alphabet) (λ p v. refl)

pub below-allowed : (s : ℕ) → eqb s 3 ≡ false → (start : Bool) (r : List ℕ) → Below (size (symbology_of s).alphabet) r → all_allowed s start r ≡ true
below-allowed s n = below_free (symbology_of s).allowed (size (symbology_of s).alphabet) (free-set s n)

pub ready-below : (s : ℕ) (r : List ℕ) → eqb s 3 ≡ false → ready s r ≡ true → Below (size (symbology_of s).alphabet) r
ready-below s r n h = free-below (symbology_of s).allowed (size (symbology_of s).alphabet) (free-set s n) true r (ready-allowed s r h)

codabar-mode : (m : ℕ) → offered (symbology_of 3).limits m ≡ true → m ≡ 0
unfolding symbology_of symbologies
codabar-mode zero o = refl
codabar-mode (suc zero) o = cc
codabar-mode (suc (suc zero)) o = cc
codabar-mode (suc (suc (suc m))) o = cc

pub no-codabar : (s m : ℕ) → offered (symbology_of s).limits m ≡ true → m ≢ 0 → eqb s 3 ≡ false
no-codabar s m o n = go (ℕ_discrete s 3)
  where
    go : Dec (s ≡ 3) → eqb s 3 ≡ false
    go (yes e) = absurd (n (codabar-mode m (rw e at o)))
    go (no e) = ne_eqb s 3 e

-- ---- a row that is drawn is ready

pub drawn-ready : (s m : ℕ) (d r : List ℕ) → row_of s m d ≡ gives r → ready s r ≡ true
unfolding ready
drawn-ready s m d r e =
    let a : Reads (symbology_of s) m d r = reads s m d r ((undo s m d r).0 e) in
    both_true (counted s (length r)) (all_allowed s true r)
    (counted-by s (length r) m ((proper s).counts m a.offers).mode (rw (a.offers, a.count, a.paired)))
    (row_fits (symbology_of s) (proper s) m d r a)

-- ---- what a ready row shows fits: one unit a character, or a pair

fits-between : (start : List ℕ) (rows : List (List ℕ)) (stop r : List ℕ) → Below (length rows) r → Fits (part_units (length r) (between start rows stop)) r
fits-between start rows stop = repeated (length rows) (parted (free rows)) (parted (fixed stop)) (λ c h. (h, tt)) tt

fits-39 : (r : List ℕ) → Below 43 r → Fits (part_units (length r) starred) r
unfolding starred rows39 rows_of alphabet39 chars39 table42
fits-39 = fits-between star39 rows39 star39

fits-industrial : (r : List ℕ) → Below 10 r → Fits (part_units (length r) industrial) r
unfolding industrial industrial_rows digit_rows rows_of alphabet_digits table44
fits-industrial = fits-between industrial_start industrial_rows industrial_stop

fits-matrix : (r : List ℕ) → Below 10 r → Fits (part_units (length r) matrix) r
unfolding matrix matrix_rows digit_rows rows_of alphabet_digits table44
fits-matrix = fits-between matrix_ends matrix_rows matrix_ends

paired-below : (r : List ℕ) → Below 10 r → Below 100 (paired r)
paired-below [] p = tt
paired-below (a ∷ []) p = tt
paired-below (a ∷ b ∷ cs) p = (omega (arith, p.0, p.1.0), paired-below cs p.1.1)

paired-length : (r : List ℕ) → length r / 2 ≡ length (paired r)
paired-length [] = refl
paired-length (a ∷ []) = refl
paired-length (a ∷ b ∷ cs) = omega (arith, paired-length cs)

fits-interleaved : (r : List ℕ) → Below 10 r → Fits (part_units (length r) interleaved) (paired r)
unfolding interleaved interleaved_rows digit_rows rows_of alphabet_digits table44
fits-interleaved r p = rw paired-length (repeated 100 (bare (free interleaved_rows)) _ (λ c h. (h, tt)) tt (paired r) (paired-below r p))

-- ---- Codabar: a letter, the others, a letter

pub letter-high : (c : ℕ) → placed true c ≡ true → 16 ≤ c
letter-high c e = leb-true 16 c (both_left (leb 16 c) (ltb c 20) e)

pub letter-low : (c : ℕ) → placed true c ≡ true → c - 16 < 4
letter-low c e = omega (arith, ltb-true c 20 (both_right (leb 16 c) (ltb c 20) e))

fits-inner : (c : ℕ) (cs : List ℕ) → all_allowed 3 false (c ∷ cs) ≡ true → Fits (many (length cs) (parted (free inner_rows)) (parted (free letter_rows))) (lowered false (c ∷ cs))
unfolding symbology_of symbologies inner_rows letter_rows rows_of alphabet_codabar table41
fits-inner c [] e = (letter-low c (both_left (placed true c) true e), tt)
fits-inner c (d ∷ cs) e =
    (ltb-true c 16 (both_left (placed false c) (all_allowed 3 false (d ∷ cs)) e), fits-inner d cs (both_right (placed false c) (all_allowed 3 false (d ∷ cs)) e))

fits-codabar : (r : List ℕ) → 3 ≤ length r → all_allowed 3 true r ≡ true → Fits (part_units (length r) lettering) (lowered true r)
unfolding lettering symbology_of symbologies letter_rows rows_of alphabet_codabar table41
fits-codabar [] l e = absurd (omega arith)
fits-codabar (a ∷ []) l e = absurd (omega arith)
fits-codabar (a ∷ b ∷ cs) l e =
    let n : suc (suc (length cs)) - 2 ≡ length cs = omega arith in
    rw n (letter-low a (both_left (placed true a) (all_allowed 3 false (b ∷ cs)) e), fits-inner b cs (both_right (placed true a) (all_allowed 3 false (b ∷ cs)) e))

-- ---- EAN and UPC: two halves

fits-halves : (k : ℕ) (left : List (List ℕ)) (cs : List ℕ) (n : ℕ) → length cs ≡ k + k → Below (length left) (take k cs) → Below 10 (drop k cs)
    → Fits (part_units n (halved k left)) cs
unfolding halved right_rows patterns table52
fits-halves k left cs n l p q =
    let e : length (drop k cs) ≡ k = omega (arith, length-drop k cs) in
    fits-many (length left) (bare (free left)) _ (λ c h. (h, tt)) k cs (omega arith) p
    (rw e at (repeated 10 (bare (free right_rows)) (bare (fixed guard)) (λ c h. (h, tt)) tt (drop k cs) q))

-- n units, the first k of either left set
pub record Sided (k : ℕ) (cs : List ℕ) (n : ℕ) : Type 0 where
  pub long : length cs ≡ n
  pub left : Below 20 (take k cs)
  pub right : Below 10 (drop k cs)

sides-are : (p k : ℕ) (cs : List ℕ) → k ≤ length cs → Below 10 cs → Sided k (sides p k cs) (length cs)
sides-are p zero cs l b = record { long = refl; left = tt; right = b }
sides-are p (suc k) [] l b = absurd (not-suc-le-zero l)
sides-are p (suc k) (c ∷ cs) l b =
    let t : Sided k (sides p k cs) (length cs) = sides-are p k cs (le_of_suc-le-suc l) b.1 in
    let two : bit k p < 2 = mod-lt (p / 2 ^ k) (lit< tt) in
    record { long = ap suc t.long; left = (omega (arith, b.0), t.left); right = t.right }

pub sided-is : (r : List ℕ) → length r ≡ 13 → Below 10 r → Sided 6 (sided r) 12
sided-is [] l b = absurd (omega arith)
sided-is (d ∷ cs) l b = let n : length cs ≡ 12 = omega arith in rw n at (sides-are (parities_of d) 6 cs (omega arith) b.1)

fits-ean13 : (r : List ℕ) → length r ≡ 13 → Below 10 r → Fits (part_units (length r) (halved 6 left_rows)) (sided r)
unfolding left_rows odd_rows even_rows patterns table52
fits-ean13 r l b = let t : Sided 6 (sided r) 12 = sided-is r l b in fits-halves 6 left_rows (sided r) (length r) t.long t.left t.right

fits-odd : (k : ℕ) (r : List ℕ) → length r ≡ k + k → Below 10 r → Fits (part_units (length r) (halved k odd_rows)) r
unfolding odd_rows patterns table52
fits-odd k r l b = let t : Below 10 (take k r) × Below 10 (drop k r) = below_split 10 k r b in fits-halves k odd_rows r (length r) l t.0 t.1

-- ---- by number

abbrev Fit : ℕ → Type 0
Fit s = (r : List ℕ) → ready s r ≡ true → Fits (units_of s (length r)) ((symbology_of s).shows.choices r)

fits : From Fit 1 9
unfolding units_of symbology_of symbologies alphabet39 chars39 alphabet_digits table44
fits = (
  λ r h. fits-39 r (ready-below 1 r refl h),
  (
    λ r h. fits-39 r (ready-below 2 r refl h),
    (
      λ r h. fits-codabar r (counted-codabar (length r) (ready-counted 3 r h)).0 (ready-allowed 3 r h),
      (
        λ r h. fits-industrial r (ready-below 4 r refl h),
        (
          λ r h. fits-interleaved r (ready-below 5 r refl h),
          (
            λ r h. fits-matrix r (ready-below 6 r refl h),
            (
              λ r h. fits-ean13 r (counted-ean13 (length r) (ready-counted 7 r h)) (ready-below 7 r refl h),
              (
                λ r h. fits-odd 4 r (counted-ean8 (length r) (ready-counted 8 r h)) (ready-below 8 r refl h),
                (λ r h. fits-odd 6 r (counted-upc (length r) (ready-counted 9 r h)) (ready-below 9 r refl h), tt),
              ),
            ),
          ),
        ),
      ),
    ),
  ),
)

pub ready-fits : (s : ℕ) (r : List ℕ) → ready s r ≡ true → Fits (units_of s (length r)) ((symbology_of s).shows.choices r)
ready-fits s r h = by_number Fit fits s (length r) (ready-counted s r h) r h

-- ---- every free set is good, all but Codabar's inner one uniform

pub steady-39 : (n : ℕ) → Steady (part_units n starred)
unfolding starred rows39 rows_of alphabet39 chars39 table42
steady-39 = steady-parts starred ((tt, (uniform39, tt)), ((tt, tt), tt))

pub steady-industrial : (n : ℕ) → Steady (part_units n industrial)
unfolding industrial industrial_rows digit_rows rows_of alphabet_digits table44
steady-industrial = steady-parts industrial ((tt, (uniform-industrial, tt)), ((tt, tt), tt))

pub steady-interleaved : (n : ℕ) → Steady (part_units n interleaved)
unfolding interleaved interleaved_rows digit_rows rows_of alphabet_digits table44
steady-interleaved = steady-parts interleaved ((tt, (uniform-interleaved, tt)), ((tt, tt), tt))

pub steady-matrix : (n : ℕ) → Steady (part_units n matrix)
unfolding matrix matrix_rows digit_rows rows_of alphabet_digits table44
steady-matrix = steady-parts matrix ((tt, (uniform-matrix, tt)), ((tt, tt), tt))

steady-halves : (k : ℕ) (left : List (List ℕ)) → Steady (bare (free left)) → (n : ℕ) → Steady (part_units n (halved k left))
unfolding halved right_rows patterns table52
steady-halves k left g = steady-parts (halved k left) ((tt, g), ((tt, (uniform-right, tt)), ((tt, tt), tt)))

pub steady-left : (k n : ℕ) → Steady (part_units n (halved k left_rows))
unfolding left_rows odd_rows even_rows patterns table52
steady-left k = steady-halves k left_rows (uniform-left, tt)

pub steady-odd : (k n : ℕ) → Steady (part_units n (halved k odd_rows))
unfolding odd_rows patterns table52
steady-odd k = steady-halves k odd_rows (uniform-odd, tt)

good-codabar : (n : ℕ) → All (part_units n lettering)
unfolding lettering inner_rows letter_rows rows_of alphabet_codabar table41
good-codabar n =
    let l : All (free letter_rows ∷ []) = (uniform-letter.good, tt) in
    (l.0, all-many (n - 2) (parted (free inner_rows)) (parted (free letter_rows)) (good-inner, tt) l)

abbrev Goodly : Symbology → Type 0
Goodly y = (n : ℕ) → All (part_units n y.parts)

pub all-good : (s n : ℕ) → All (units_of s n)
unfolding units_of symbologies
all-good s n =
    by-line Goodly (
      λ n. tt,
      (
        λ n. steady-good (part_units n starred) (steady-39 n),
        (
          λ n. steady-good (part_units n starred) (steady-39 n),
          (
            good-codabar,
            (
              λ n. steady-good (part_units n industrial) (steady-industrial n),
              (
                λ n. steady-good (part_units n interleaved) (steady-interleaved n),
                (
                  λ n. steady-good (part_units n matrix) (steady-matrix n),
                  (
                    λ n. steady-good (part_units n (halved 6 left_rows)) (steady-left 6 n),
                    (λ n. steady-good (part_units n (halved 4 odd_rows)) (steady-odd 4 n), (λ n. steady-good (part_units n (halved 6 odd_rows)) (steady-odd 6 n), tt)),
                  ),
                ),
              ),
            ),
          ),
        ),
      ),
    )
    (λ n. tt) s n

-- ---- how many elements: no mode of any line draws more than the longest

abbrev roomy : Limits → ℕ → Bool
roomy l m = leb (elements_in l (most_of l m + added m)) longest

all-roomy : (s : ℕ) → in-modes (symbology_of s).limits (roomy (symbology_of s).limits) ≡ true
all-roomy = by-test (λ (y : Symbology). in-modes y.limits (roomy y.limits)) (unfold symbologies in refl) refl

pub few-elements : (s n : ℕ) → counted s n ≡ true → elements_of s n ≤ longest
unfolding elements_of
few-elements s n =
    by_mode s n
    (λ m b.
    let l : Limits = (symbology_of s).limits in
    let high : ℕ = most_of l m + added m in
    omega (arith, mul-le-mul_left l.step b.most, leb-true (elements_in l high) longest (mode-at s n m (roomy l) (all-roomy s) b)))

pub few : (s : ℕ) (r : List ℕ) → ready s r ≡ true → elements_of s (length r) ≤ longest
few s r h = few-elements s (length r) (ready-counted s r h)
