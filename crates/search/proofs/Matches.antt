-- A word looked for in a set, of which ten words are looked at: what is found is small.
--
--   match-last    of one word more that is looked at; past the end it is 0, which is not sought
--   match-bound   what is found among n words is at most n times the last one's number and one
--   digit-bound   and so a digit among ten is at most 100
--
-- Assumes nothing.
use Rattle.std.proofs.Common.{◌≡◌, refl, Bool, true, false, List, [], ◌∷◌, ℕ, zero, suc, ◌+◌, ◌*◌, ◌≤◌, zero-le, arith, suc-mul, add-one, add-zero, eqb, get_or, take}
use Rattle.laws.specs.Search.{pick}
use Rattle.shapes.specs.Searched.{matches, digit_in}

pub match-last : (w : ℕ) → eqb 0 w ≡ false → (xs : List ℕ) (n d : ℕ)
    → matches w (take (n + 1) xs) d ≡ matches w (take n xs) d + pick (eqb (get_or xs n 0) w) (d + n + 1) 0
match-last w e [] zero d = rw e refl
match-last w e [] (suc n) d = rw (e, add-one (suc n)) refl
match-last w e (x ∷ xs) zero d = rw (add-zero d) (omega arith)
match-last w e (x ∷ xs) (suc n) d =
    let p : d + 1 + n + 1 ≡ d + suc n + 1 = omega arith in
    rw (add-one (suc n)) (omega (arith, rw (add-one n, p) at (match-last w e xs n (d + 1))))

pick-bound : (b : Bool) (n : ℕ) → pick b n 0 ≤ n
pick-bound true n = omega arith
pick-bound false n = zero-le

pub match-bound : (m w : ℕ) (ws : List ℕ) (n d : ℕ) → d + n ≤ m → matches w (take n ws) d ≤ n * m
match-bound m w ws zero d h = zero-le
match-bound m w [] (suc n) d h = zero-le
match-bound m w (x ∷ ws) (suc n) d h = omega (arith, match-bound m w ws n (d + 1) (omega arith), pick-bound (eqb x w) (d + 1), suc-mul n m)

pub digit-bound : (sets : List (List ℕ)) (s w : ℕ) → digit_in sets s w ≤ 100
unfolding digit_in
digit-bound sets s w = go (eqb w 0)
  where
    go : (b : Bool) → pick b 0 (matches w (take 10 (get_or sets s [])) 0) ≤ 100
    go true = zero-le
    go false = match-bound 10 w (get_or sets s []) 10 0 (omega arith)
