-- Rows of elements: when two are alike, how far apart they are, and what they add up to.
--
--   alike-true, alike_self   alike is equality
--   find-hit, find-own       what a search among rows finds, and that a row by itself is found
--   dist-self, dist-set      no distance from itself; one changed element is a distance of one
--   dist-append              rows of one length, one behind the other
--   stretch-long             a stretch inside a row has its length
--   sum-append               modules add up
--   sum-far                  rows of one length and one sum do not differ in exactly one element
--
-- Assumes nothing.
use Rattle.std.proofs.Common.{◌≡◌, refl, sym, ◌≢◌, Bool, true, false, List, [], ◌∷◌, ◌++◌, ℕ, zero, suc, ◌+◌, ◌<◌, ◌≤◌, arith, le_of_suc-le-suc, not-suc-le-zero, eqb, length, get_or, take, drop, set, length-drop, length-take-le, eqb-true, eq-eqb, ne_eqb}
use Rattle.std.proofs.lemmas.Bool.{eqb-false}
use Rattle.laws.specs.Search.{pick}
use Rattle.laws.specs.Elements.{alike, find, dist, sum}
use Rattle.laws.proofs.Finite.{both_left, both_right}
use Rattle.laws.proofs.Search.{first-hit}

pub alike-true : (a b : List ℕ) → alike a b ≡ true → a ≡ b
alike-true [] [] e = refl
alike-true [] (y ∷ ys) e = cc
alike-true (x ∷ xs) [] e = cc
alike-true (x ∷ xs) (y ∷ ys) e =
    let h : x ≡ y = eqb-true x y (both_left (eqb x y) (alike xs ys) e) in
    let t : xs ≡ ys = alike-true xs ys (both_right (eqb x y) (alike xs ys) e) in
    cc

pub alike_self : (a : List ℕ) → alike a a ≡ true
alike_self [] = refl
alike_self (x ∷ xs) = rw (eq-eqb x x refl) (alike_self xs)

pub find-hit : (rows : List (List ℕ)) (row : List ℕ) → find rows row < length rows → get_or rows (find rows row) [] ≡ row
find-hit rows row h = alike-true _ row (first-hit [] (λ r. alike r row) rows h)

pub find-own : (row : List ℕ) → find (row ∷ []) row ≡ 0
find-own row = rw (alike_self row)

pub dist-self : (a : List ℕ) → dist a a ≡ 0
dist-self [] = refl
dist-self (x ∷ xs) = rw (eq-eqb x x refl) (dist-self xs)

pub dist-set : (s : List ℕ) (i w : ℕ) → i < length s → w ≢ get_or s i 0 → dist s (set s i w) ≡ 1
dist-set [] i w h n = absurd (not-suc-le-zero h)
dist-set (x ∷ xs) zero w h n = rw (ne_eqb x w (λ e. n (sym e)), dist-self xs)
dist-set (x ∷ xs) (suc i) w h n = rw (eq-eqb x x refl) (dist-set xs i w (le_of_suc-le-suc h) n)

append-step : (b : Bool) (m n k : ℕ) → k ≡ m + n → pick b k (suc k) ≡ pick b m (suc m) + n
append-step true m n k e = e
append-step false m n k e = omega arith

pub dist-append : (a b c d : List ℕ) → length a ≡ length b → dist (a ++ c) (b ++ d) ≡ dist a b + dist c d
dist-append [] [] c d e = omega arith
dist-append [] (y ∷ ys) c d e = absurd (omega arith)
dist-append (x ∷ xs) [] c d e = absurd (omega arith)
dist-append (x ∷ xs) (y ∷ ys) c d e = append-step (eqb x y) (dist xs ys) (dist c d) _ (dist-append xs ys c d (omega arith))

pub stretch-long : (t : List ℕ) (at k : ℕ) → at + k ≤ length t → length (take k (drop at t)) ≡ k
stretch-long t at k h = length-take-le k (drop at t) (rw length-drop (omega arith))

pub sum-append : (a b : List ℕ) → sum (a ++ b) ≡ sum a + sum b
sum-append [] b = omega arith
sum-append (x ∷ xs) b = omega (arith, sum-append xs b)

-- rows that differ nowhere have one sum, so rows of one sum that differ differ twice
none-step : (b : Bool) (x y n u v : ℕ) → (b ≡ true → x ≡ y) → (n ≡ 0 → u ≡ v) → pick b n (suc n) ≡ 0 → x + u ≡ y + v
none-step true x y n u v t ih h = omega (arith, t refl, ih h)
none-step false x y n u v t ih h = absurd (omega arith)

dist-none : (a b : List ℕ) → dist a b ≡ 0 → sum a ≡ sum b
dist-none [] [] e = refl
dist-none [] (y ∷ ys) e = absurd (omega arith)
dist-none (x ∷ xs) [] e = absurd (omega arith)
dist-none (x ∷ xs) (y ∷ ys) e = none-step (eqb x y) x y (dist xs ys) (sum xs) (sum ys) (eqb-true x y) (dist-none xs ys) e

far-step : (b : Bool) (x y n u v : ℕ) → (b ≡ true → x ≡ y) → (b ≡ false → x ≢ y) → (u ≡ v → n ≢ 1) → (n ≡ 0 → u ≡ v)
    → x + u ≡ y + v → pick b n (suc n) ≢ 1
far-step true x y n u v t f ih z e h = ih (omega (arith, t refl)) h
far-step false x y n u v t f ih z e h = f refl (omega (arith, z (omega arith)))

pub sum-far : (a b : List ℕ) → length a ≡ length b → sum a ≡ sum b → dist a b ≢ 1
sum-far [] [] l e = omega arith
sum-far [] (y ∷ ys) l e = absurd (omega arith)
sum-far (x ∷ xs) [] l e = absurd (omega arith)
sum-far (x ∷ xs) (y ∷ ys) l e =
    far-step (eqb x y) x y (dist xs ys) (sum xs) (sum ys) (eqb-true x y) (eqb-false x y)
    (sum-far xs ys (omega arith)) (dist-none xs ys) e
