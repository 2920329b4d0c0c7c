-- What is looked through where a unit is sought is there, and its rows have small numbers.
--
--   seek-most, seek-pair, seek-few, seek-tens    what `seekable` says: of every unit, of a pair, of few rows, of more
--   ten-bound        the set of a word of Code 39 is one of five
--   sought-bounded   each set that is looked through is bounded, as `found_in` asks
--
-- Assumes nothing.
use Rattle.std.proofs.Common.{◌≡◌, refl, Bool, true, false, List, ℕ, ◌+◌, ◌*◌, ◌/◌, ◌%◌, ◌^◌, ◌<◌, ◌≤◌, arith, mod-lt, eqb, ltb, leb, lit<, length, take, drop, ltb-true, ltb-false, leb-true, leb-false, lt-ltb, le-ltb, le-leb}
use Rattle.std.proofs.lemmas.Bool.{lt-leb}
use Rattle.laws.specs.Search.{pick}
use Rattle.laws.proofs.Finite.{both_left, both_right, upto-at}
use Rattle.tables.specs.Bits.{bit}
use Rattle.shapes.specs.declared.parts.Unit.{Unit}
use Rattle.shapes.specs.Sets.{low}
use Rattle.shapes.specs.Searched.{every_second, seen, tens, ten_of, spaces_in, digit_in, few, seekable}
use Rattle.search.specs.declared.seek.Sought.{Sought}
use Rattle.search.specs.Sought.{parted_at, behind, nowhere, pair_in, rows_in, sought_in, sought_of, Bounded}
use Rattle.search.proofs.Matches.{digit-bound}

spaces-bound : (a b c d : ℕ) → a < 2 → b < 2 → c < 2 → d < 2 → a * 8 + b * 4 + c * 2 + d < 16
spaces-bound a b c d g h k l = omega arith

pub ten-bound : (w : ℕ) → ten_of w ≤ 4
unfolding ten_of
ten-bound w = leb-true (half (spaces_in w)) 4 (upto-at 16 (λ s. leb (half s) 4) refl (spaces_in w) most)
  where
    half : ℕ → ℕ
    half s = tens / 2 ^ (4 * s) % 16

    low_bit : (n : ℕ) → bit n w < 2
    low_bit n = mod-lt (w / 2 ^ n) (lit< tt)

    most : spaces_in w < 16
    most = spaces-bound (bit 9 w) (bit 25 w) (bit 41 w) (bit 57 w) (low_bit 9) (low_bit 25) (low_bit 41) (low_bit 57)

module _ (n : ℕ) (u : Unit) (s : seekable n u ≡ true) where
  abbrev rows-good : Bool
  rows-good = pick (leb u.size few) (leb (10 * u.set + u.size) (10 * n)) (leb (u.set + 5) n)

  abbrev set-good : Bool
  set-good = pick (ltb u.elements 10) rows-good (ltb u.set n)

  set_is : set-good ≡ true
  set_is = both_right (leb u.elements 10) set-good s

  pub seek-most : u.elements ≤ 10
  seek-most = leb-true u.elements 10 (both_left (leb u.elements 10) set-good s)

  pub seek-pair : 9 < u.elements → u.set < n
  seek-pair h = ltb-true u.set n (rw (le-ltb u.elements 10 h) at set_is)

  pub seek-few : u.elements ≤ 9 → u.size ≤ 20 → 10 * u.set + u.size ≤ 10 * n
  seek-few h k = leb-true (10 * u.set + u.size) (10 * n) (rw (lt-ltb u.elements 10 (omega arith), le-leb u.size 20 k) at set_is)

  pub seek-tens : u.elements ≤ 9 → 20 < u.size → u.set + 5 ≤ n
  seek-tens h k = leb-true (u.set + 5) n (rw (lt-ltb u.elements 10 (omega arith), lt-leb u.size 20 k) at set_is)

abbrev Fine : ℕ → ℕ → Sought → Type 0
Fine n i q = i < q.sets → Bounded n q i

fine-pick : (n i : ℕ) (b : Bool) (x y : Sought) → (b ≡ true → Fine n i x) → (b ≡ false → Fine n i y) → Fine n i (pick b x y)
fine-pick n i true x y f g = f refl
fine-pick n i false x y f g = g refl

fine-none : (n i at : ℕ) → Fine n i (nowhere at)
fine-none n i at h = absurd (omega arith)

module _ (sets : List (List ℕ)) (u : Unit) (s : seekable (length sets) u ≡ true) (i : ℕ) where
  abbrev n : ℕ
  n = length sets

  fine-pair : (xs : List ℕ) (at : ℕ) → 9 < u.elements → Fine n i (pair_in sets u.set xs at)
  fine-pair xs at h =
      let d : ℕ = digit_in sets u.set (low (every_second (take 9 xs))) in
      fine-pick n i (eqb d 0) _ _ (λ _. fine-none n i at)
      (λ _ l. record { there = omega (arith, seek-pair n u s h); low = omega (arith, digit-bound sets u.set (low (every_second (take 9 xs)))); few = omega arith })

  fine-rows : (w at : ℕ) → u.elements ≤ 9 → Fine n i (rows_in u w at)
  fine-rows w at h =
      fine-pick n i (leb u.size few) _ _
      (λ e l. let k : u.size ≤ 20 = leb-true u.size 20 e in record { there = omega (arith, seek-few n u s h k); low = omega arith; few = omega arith })
      (λ e l. record { there = omega (arith, ten-bound w, seek-tens n u s h (leb-false u.size 20 e)); low = omega (arith, ten-bound w); few = omega arith })

  fine-in : (xs : List ℕ) (at : ℕ) → Fine n i (sought_in sets u xs at)
  unfolding sought_in
  fine-in xs at =
      fine-pick n i (ltb 9 u.elements) _ _ (λ e. fine-pair xs at (ltb-true 9 u.elements e)) (λ e. fine-rows (seen u.elements xs) at (ltb-false 9 u.elements e))

  fine_of : (t : List ℕ) (at : ℕ) → Fine n i (sought_of sets u t at)
  unfolding sought_of
  fine_of t at =
      let p : ℕ = behind u.gap at in
      fine-pick n i (parted_at u.gap t at) _ _
      (λ _. fine-pick n i (leb (p + u.elements) (length t)) _ _ (λ _. fine-in (take u.elements (drop p t)) p) (λ _. fine-none n i p)) (λ _. fine-none n i at)

pub sought-bounded : (sets : List (List ℕ)) (u : Unit) (t : List ℕ) (at i : ℕ) → seekable (length sets) u ≡ true
    → i < (sought_of sets u t at).sets → Bounded (length sets) (sought_of sets u t at) i
sought-bounded sets u t at i s = fine_of sets u s i t at
