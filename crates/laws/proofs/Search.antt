-- Search in a table: what it finds.
--
--   first-le     the answer is at most the length
--   first-hit    below the length, the test passes there
--   first-most   where the test passes, the answer is at or before
--   position-index    std's search for a number gives its index, below the length
--   some-get     a list's entry at an index, if it has one
--   below-some   where `below` gives a number, it is the number, and below the bound
--   index-hit    below the length, the number stands there
--   index-own    where the numbers are distinct, each is found at its own index
--   distinct-test, distinct    by a test: each number is found at its own index
--
-- Assumes nothing.
use Rattle.std.proofs.Common.{◌≡◌, refl, sym, ap, ◌∙◌, Bool, true, false, List, [], ◌∷◌, ℕ, zero, suc, ◌+◌, ◌<◌, ◌≤◌, arith, le_of_suc-le-suc, not-suc-le-zero, eqb, ltb, length, get_or, eqb-true, eq-eqb, ltb-true, ltb-false, Some, None, cond, position, slice_get}
use Rattle.std.proofs.lemmas.Option.{slice_get-get_or, slice_get_past}
use Rattle.std.proofs.lemmas.List.Recursion.{is_position_or_len}
use Rattle.laws.specs.Search.{pick, first, is, index_in, some_if, below, Distinct}
use Rattle.laws.proofs.Finite.{every, every-at}

module _ {A : Type 0} (d : A) (test : A → Bool) where
  le_step : (b : Bool) (n m : ℕ) → n ≤ m → pick b 0 (suc n) ≤ suc m
  le_step true n m h = omega arith
  le_step false n m h = omega arith

  pub first-le : (xs : List A) → first test xs ≤ length xs
  first-le [] = omega arith
  first-le (x ∷ xs) = le_step (test x) (first test xs) (length xs) (first-le xs)

  hit-step : (b : Bool) (x : A) (xs : List A) (n : ℕ) → test x ≡ b → (n < length xs → test (get_or xs n d) ≡ true)
      → pick b 0 (suc n) < suc (length xs) → test (get_or (x ∷ xs) (pick b 0 (suc n)) d) ≡ true
  hit-step true x xs n e ih h = e
  hit-step false x xs n e ih h = ih (le_of_suc-le-suc h)

  pub first-hit : (xs : List A) → first test xs < length xs → test (get_or xs (first test xs) d) ≡ true
  first-hit [] h = absurd (not-suc-le-zero h)
  first-hit (x ∷ xs) h = hit-step (test x) x xs (first test xs) refl (first-hit xs) h

  pub first-most : (xs : List A) (i : ℕ) → i < length xs → test (get_or xs i d) ≡ true → first test xs ≤ i
  first-most [] i h e = absurd (not-suc-le-zero h)
  first-most (x ∷ xs) zero h e = rw e (omega arith)
  first-most (x ∷ xs) (suc i) h e = le_step (test x) (first test xs) i (first-most xs i (le_of_suc-le-suc h) e)

found-step : (b : Bool) (n : ℕ) → pick b 0 (suc n) ≡ cond b 0 (1 + n)
found-step true n = refl
found-step false n = omega arith

some-if : (b : Bool) (i : ℕ) → cond b (Some i) None ≡ some_if b i
some-if true i = refl
some-if false i = refl

pub position-index : (xs : List ℕ) (x : ℕ) → position (is x) xs ≡ below (length xs) (index_in xs x)
unfolding index_in
position-index xs x =
    let e = is_position_or_len (first (is x)) (is x) refl (λ y ys. found-step (is x y) (first (is x) ys)) xs in
    rw (← e) (some-if _ _)

get-case : (b : Bool) (xs : List ℕ) (i : ℕ) → ltb i (length xs) ≡ b → slice_get xs i ≡ some_if b (get_or xs i 0)
get-case true xs i t = slice_get-get_or xs i 0 (ltb-true i (length xs) t)
get-case false xs i t = slice_get_past xs i (ltb-false i (length xs) t)

pub some-get : (xs : List ℕ) (i : ℕ) → slice_get xs i ≡ some_if (ltb i (length xs)) (get_or xs i 0)
some-get xs i = get-case (ltb i (length xs)) xs i refl

some_if-some : (b : Bool) (k i n : ℕ) → ltb k n ≡ b → some_if b k ≡ Some i → (k ≡ i) × (i < n)
some_if-some true k i n t e = let same : k ≡ i = cc in (same, rw same at (ltb-true k n t))
some_if-some false k i n t e = (cc, absurd (cc))

pub below-some : (n k i : ℕ) → below n k ≡ Some i → (k ≡ i) × (i < n)
below-some n k i e = some_if-some (ltb k n) k i n refl e

pub index-hit : (xs : List ℕ) (x : ℕ) → index_in xs x < length xs → get_or xs (index_in xs x) 0 ≡ x
unfolding index_in
index-hit xs x h = eqb-true _ x (first-hit 0 (is x) xs h)

pub index-own : (xs : List ℕ) → Distinct xs → (i : ℕ) → i < length xs → index_in xs (get_or xs i 0) ≡ i
unfolding index_in
index-own xs u i h =
    let k : index_in xs (get_or xs i 0) < length xs = omega (arith, first-most 0 (is (get_or xs i 0)) xs i h (eq-eqb (get_or xs i 0) (get_or xs i 0) refl)) in
    u (index_in xs (get_or xs i 0)) i k h (index-hit xs (get_or xs i 0) k)

abbrev pub distinct-test : List ℕ → Bool
distinct-test xs = every 0 (λ i x. eqb (index_in xs x) i) 0 xs

pub distinct : (xs : List ℕ) → distinct-test xs ≡ true → Distinct xs
distinct xs t i j h k e =
    let own : (i : ℕ) → i < length xs → index_in xs (get_or xs i 0) ≡ i
    = λ i h. eqb-true _ i (every-at 0 (λ i x. eqb (index_in xs x) i) xs t i h) in
    sym (own i h) ∙ ap (index_in xs) e ∙ own j k
