-- When a set of rows is good, by tests that are computed over the whole set.
--
--   row-test        each row has n elements and is found at its own place, so no two are the same
--   level-test      each row has m modules
--   far-test        no two rows differ in exactly one element
--   level           a set passes the second
--   good-level      a good set, where all rows have one sum: then no two can differ in exactly one element
--   good-far        a good set, by the test of every pair
--   find-row        in a good set each row is found at its own place
--
-- Assumes nothing.
use Rattle.std.proofs.Common.{◌≡◌, sym, ap, ◌∙◌, Bool, true, ◌&&◌, not, List, [], ℕ, ◌<◌, arith, eqb, length, get_or, eqb-true}
use Rattle.std.proofs.lemmas.Bool.{eqb-false, not-true}
use Rattle.laws.specs.Elements.{alike, find, dist, sum}
use Rattle.laws.specs.Units.{Good, Level}
use Rattle.laws.proofs.Finite.{both_left, both_right, every, every-at}
use Rattle.laws.proofs.Search.{first-most}
use Rattle.laws.proofs.Elements.{alike_self, find-hit, sum-far}

abbrev pub row-test : ℕ → List (List ℕ) → Bool
row-test n k = every [] (λ i r. eqb (length r) n && eqb (find k r) i) 0 k

abbrev pub level-test : ℕ → List (List ℕ) → Bool
level-test m k = every [] (λ i r. eqb (sum r) m) 0 k

abbrev far_from : List (List ℕ) → List ℕ → Bool
far_from k r = every [] (λ j q. not (eqb (dist r q) 1)) 0 k

abbrev pub far-test : List (List ℕ) → Bool
far-test k = every [] (λ i r. far_from k r) 0 k

pub level : (m : ℕ) (k : List (List ℕ)) → level-test m k ≡ true → Level m k
level m k t i h = eqb-true _ m (every-at [] (λ i r. eqb (sum r) m) k t i h)

module _ (n : ℕ) (k : List (List ℕ)) (t : row-test n k ≡ true) where
  both : (i : ℕ) → i < length k → (eqb (length (get_or k i [])) n && eqb (find k (get_or k i [])) i) ≡ true
  both i h = every-at [] (λ i r. eqb (length r) n && eqb (find k r) i) k t i h

  long : (i : ℕ) → i < length k → length (get_or k i []) ≡ n
  long i h = eqb-true _ n (both_left _ (eqb (find k (get_or k i [])) i) (both i h))

  own : (i : ℕ) → i < length k → find k (get_or k i []) ≡ i
  own i h = eqb-true _ i (both_right (eqb (length (get_or k i [])) n) _ (both i h))

  different : (i j : ℕ) → i < length k → j < length k → get_or k i [] ≡ get_or k j [] → i ≡ j
  different i j h g e = sym (own i h) ∙ ap (find k) e ∙ own j g

  pub good-level : (m : ℕ) → Level m k → Good n k
  good-level m v = record {
    long = long;
    different = different;
    far = λ i j h g. sum-far (get_or k i []) (get_or k j []) (long i h ∙ sym (long j g)) (v i h ∙ sym (v j g));
  }

  pub good-far : far-test k ≡ true → Good n k
  good-far f = record {
    long = long;
    different = different;
    far = λ i j h g.
        eqb-false (dist (get_or k i []) (get_or k j [])) 1
        (not-true _ (every-at [] (λ j q. not (eqb (dist (get_or k i []) q) 1)) k (every-at [] (λ i r. far_from k r) k f i h) j g));
  }

pub find-row : (n : ℕ) (k : List (List ℕ)) → Good n k → (i : ℕ) → i < length k → find k (get_or k i []) ≡ i
find-row n k g i h =
    let r : List ℕ = get_or k i [] in
    let b : find k r < length k = omega (arith, first-most [] (λ q. alike q r) k i h (alike_self r)) in
    g.different (find k r) i b h (find-hit k r b)
