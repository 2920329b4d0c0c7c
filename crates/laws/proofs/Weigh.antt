-- The weighted sum of a row, its check, and what a check catches: once, over the modulus and the weights. Values may pass the
-- modulus, weights may be any, and the check may stand anywhere in the row; it has a weight of its own.
--
--   dot-set       one value replaced in a weighted sum
--   replaced      one value replaced: the sum's remainder stays exactly if the value's does
--   catches       so a row that passes does not pass with one value replaced by another
--   one-check     exactly one value below the modulus passes as the check
--   inverses-turns, inverses-append, inverses-reverse     weights that have inverses
--   length-turns  as many weights as were asked for
--   turns-one     one weight that takes turns with itself
--   turns-turned  weights that take turns, counted from the other end, with weights behind them that go on taking turns
--
-- A row passes where its weighted sum is 0 by the modulus. All of it rests on `balance`. Assumes nothing.
use Rattle.std.proofs.Common.{◌≡◌, refl, sym, ap, ◌∙◌, ◌≢◌, ◌↔◌, List, [], ◌∷◌, ◌++◌, reverse, ℕ, zero, suc, ◌+◌, ◌*◌, ◌%◌, ◌<◌, arith, le_of_suc-le-suc, not-suc-le-zero, mod-eq_of_lt, mul-add, mul_comm, mul_assoc, mul_left_comm, mul-one, mul-zero, zero-add, add-zero, length, get_or, set}
use mathlib.Core.List.{reverse_aux}
use native.Mathlib.Nat.{add-mod-mod, zero-mod}
use Rattle.laws.specs.Weigh.{dot, turns, Inverses}
use Rattle.laws.proofs.Remainders.{mul-mod, times, plus, balance, apart}

-- ---- one value replaced

pub dot-set : (ws xs : List ℕ) (i y : ℕ) → i < length xs → dot ws (set xs i y) + get_or ws i 0 * get_or xs i 0 ≡ dot ws xs + get_or ws i 0 * y
dot-set [] xs i y h = omega arith
dot-set (w ∷ ws) [] i y h = absurd (not-suc-le-zero h)
dot-set (w ∷ ws) (x ∷ xs) zero y h = omega arith
dot-set (w ∷ ws) (x ∷ xs) (suc i) y h = omega (arith, dot-set ws xs i y (le_of_suc-le-suc h))

pub replaced : (m u : ℕ) (ws xs : List ℕ) (i y : ℕ) → 0 < m → i < length xs → u * get_or ws i 0 % m ≡ 1
    → (dot ws xs % m ≡ dot ws (set xs i y) % m) ↔ (get_or xs i 0 % m ≡ y % m)
replaced m u ws xs i y h l v =
    let b : (dot ws xs % m ≡ dot ws (set xs i y) % m) ↔ (get_or ws i 0 * get_or xs i 0 % m ≡ get_or ws i 0 * y % m)
    = balance (dot ws xs) (dot ws (set xs i y)) _ _ m h (dot-set ws xs i y l) in
    (λ e. apart m u (get_or ws i 0) (get_or xs i 0) y v (b.0 e), λ e. b.1 (times (get_or ws i 0) (get_or xs i 0) y m e))

inverse-at : (m : ℕ) (ws : List ℕ) (i : ℕ) → Inverses m ws → i < length ws → (u : ℕ) × (u * get_or ws i 0 % m ≡ 1)
inverse-at m [] i v h = absurd (not-suc-le-zero h)
inverse-at m (w ∷ ws) zero v h = v.0
inverse-at m (w ∷ ws) (suc i) v h = inverse-at m ws i v.1 (le_of_suc-le-suc h)

pub catches : (m : ℕ) (ws xs : List ℕ) (i y : ℕ) → 0 < m → Inverses m ws → length ws ≡ length xs → i < length xs → get_or xs i 0 % m ≢ y % m
    → dot ws xs % m ≡ 0 → dot ws (set xs i y) % m ≢ 0
catches m ws xs i y h v l k n e f =
    let u : (u : ℕ) × (u * get_or ws i 0 % m ≡ 1) = inverse-at m ws i v (omega arith) in
    n ((replaced m u.0 ws xs i y h k u.1).0 (e ∙ sym f))

-- ---- the check

dot-middle : (ws vs xs ys : List ℕ) (w x : ℕ) → length ws ≡ length xs → dot (ws ++ (w ∷ vs)) (xs ++ (x ∷ ys)) ≡ dot ws xs + dot vs ys + w * x
dot-middle [] vs [] ys w x l = omega arith
dot-middle [] vs (y ∷ xs) ys w x l = absurd (omega arith)
dot-middle (v ∷ ws) vs [] ys w x l = absurd (omega arith)
dot-middle (v ∷ ws) vs (y ∷ xs) ys w x l = omega (arith, dot-middle ws vs xs ys w x (omega arith))

-- w is the check's weight, and t is such that w * t is one below a multiple of the modulus
module _ (m w t : ℕ) (e : (w * t + 1) % m ≡ 0) where
  vanish : (x : ℕ) → x * (w * t + 1) % m ≡ 0
  vanish x = times x (w * t + 1) 0 m (e ∙ sym (zero-mod m)) ∙ rw mul-zero (zero-mod m)

  passes : (s : ℕ) → (s + w * (t * s % m)) % m ≡ 0
  passes s =
      let z : s + w * (t * s) ≡ s * (w * t + 1) = omega (arith, mul-add s (w * t) 1, mul_assoc w t s, mul_comm (w * t) s, mul-one s) in
      rw (← add-mod-mod s (w * (t * s % m)) m, mul-mod w (t * s) m, add-mod-mod s (w * (t * s)) m, z) (vanish s)

  alone : (s x : ℕ) → x < m → (s + w * x) % m ≡ 0 → x ≡ t * s % m
  alone s x l p =
      let left : (t * (s + w * x) + x) % m ≡ x
      = plus (t * (s + w * x)) 0 x m (times t (s + w * x) 0 m (p ∙ sym (zero-mod m)) ∙ rw mul-zero) ∙ rw zero-add (mod-eq_of_lt l) in
      let right : (t * s + x * (w * t + 1)) % m ≡ t * s % m = rw (← add-mod-mod (t * s) (x * (w * t + 1)) m, vanish x, add-zero) in
      let same : t * (s + w * x) + x ≡ t * s + x * (w * t + 1)
      = omega (arith, mul-add t s (w * x), mul-add x (w * t) 1, mul-one x, mul_left_comm t w x, mul_left_comm x w t, mul_comm x t) in
      sym left ∙ ap (λ (z : ℕ). z % m) same ∙ right

  pub one-check : (ws vs xs ys : List ℕ) → length ws ≡ length xs → (x : ℕ) → x < m
      → (dot (ws ++ (w ∷ vs)) (xs ++ (x ∷ ys)) % m ≡ 0) ↔ (x ≡ t * (dot ws xs + dot vs ys) % m)
  one-check ws vs xs ys l x k = (
    λ p. alone (dot ws xs + dot vs ys) x k (rw (dot-middle ws vs xs ys w x l) at p),
    λ q. rw (dot-middle ws vs xs ys w x l, q) (passes (dot ws xs + dot vs ys)),
  )

-- ---- weights that have inverses

pub inverses-append : (m : ℕ) (ws vs : List ℕ) → Inverses m ws → Inverses m vs → Inverses m (ws ++ vs)
inverses-append m [] vs a b = b
inverses-append m (w ∷ ws) vs a b = (a.0, inverses-append m ws vs a.1 b)

pub inverses-turns : (m w v n : ℕ) → ((u : ℕ) × (u * w % m ≡ 1)) → ((u : ℕ) × (u * v % m ≡ 1)) → Inverses m (turns w v n)
inverses-turns m w v zero a b = tt
inverses-turns m w v (suc n) a b = (a, inverses-turns m v w n b a)

inverses-aux : (m : ℕ) (ws vs : List ℕ) → Inverses m ws → Inverses m vs → Inverses m (reverse_aux ws vs)
inverses-aux m [] vs a b = b
inverses-aux m (w ∷ ws) vs a b = inverses-aux m ws (w ∷ vs) a.1 (a.0, b)

pub inverses-reverse : (m : ℕ) (ws : List ℕ) → Inverses m ws → Inverses m (reverse ws)
inverses-reverse m ws a = inverses-aux m ws [] a tt

pub length-turns : (w v n : ℕ) → length (turns w v n) ≡ n
length-turns w v zero = refl
length-turns w v (suc n) = ap suc (length-turns v w n)

pub turns-one : (w n i : ℕ) → i < n → get_or (turns w w n) i 0 ≡ w
turns-one w zero i h = absurd (not-suc-le-zero h)
turns-one w (suc n) zero h = refl
turns-one w (suc n) (suc i) h = turns-one w n i (le_of_suc-le-suc h)

pub turns-turned : (w v n m : ℕ)
    → (n % 2 ≡ 1 → reverse_aux (turns w v n) (turns v w m) ≡ turns w v (n + m)) × (n % 2 ≢ 1 → reverse_aux (turns w v n) (turns v w m) ≡ turns v w (n + m))
turns-turned w v zero m = (λ o. absurd (omega arith), λ o. rw zero-add)
turns-turned w v (suc n) m =
    let e : n + suc m ≡ suc n + m = omega arith in
    (λ o. (turns-turned v w n (suc m)).1 (omega arith) ∙ ap (turns w v) e, λ o. (turns-turned v w n (suc m)).0 (omega arith) ∙ ap (turns v w) e)
