-- A number's decimal digits: how many there are, and that they may be written from the last.
--
--   few            at most as many as were allowed
--   fixed          the last k digits of a number, leading zeros among them
--   digits-fixed   a number's digits are its last ones
--   counted        there is one more than the power of ten that the number reaches
--   zero-prints, largest-prints    the decimal digits of 0 and of the largest u64
--
-- Assumes nothing.
use Rattle.std.proofs.Common.{◌≡◌, refl, ap, Bool, true, false, List, [], ◌∷◌, ◌++◌, ℕ, zero, suc, ◌+◌, ◌*◌, ◌/◌, ◌%◌, ◌^◌, ◌<◌, ◌≤◌, arith, pow-suc, add-one, ltb, length, length-append, ltb-true, lt-ltb, le-ltb, Option, Some, None, IfNone, IfSome, unwrap_or}
use Rattle.laws.specs.Search.{pick}
use Rattle.tables.specs.Printed.{text}
use Rattle.lines.specs.Text.{digits_in, decimal}

few-by : (k n : ℕ) (b : Bool) (xs : List ℕ) → length xs ≤ k → length (pick b ((48 + n) ∷ []) (xs ++ ((48 + n % 10) ∷ []))) ≤ suc k
few-by k n true xs h = omega arith
few-by k n false xs h = rw length-append (omega arith)

few-in : (k n : ℕ) → length (digits_in k n) ≤ k
few-in zero n = omega arith
few-in (suc k) n = few-by k n (ltb n 10) (digits_in k (n / 10)) (few-in k (n / 10))

pub few : (n : ℕ) → length (decimal n) ≤ 20
unfolding decimal
few n = few-in 20 n

-- ---- from the last

abbrev pub fixed : ℕ → ℕ → List ℕ
fixed zero n = []
fixed (suc k) n = fixed k (n / 10) ++ ((48 + n % 10) ∷ [])

fixed-by : (n : ℕ) (b : Bool) (xs : List ℕ) → ltb n 10 ≡ b → xs ≡ fixed (length xs) (n / 10)
    → pick b ((48 + n) ∷ []) (xs ++ ((48 + n % 10) ∷ [])) ≡ fixed (length (pick b ((48 + n) ∷ []) (xs ++ ((48 + n % 10) ∷ [])))) n
fixed-by n true xs t e = ap (λ (x : ℕ). (48 + x) ∷ []) (omega (arith, ltb-true n 10 t))
fixed-by n false xs t e = rw (length-append, add-one (length xs)) (ap (λ (ys : List ℕ). ys ++ ((48 + n % 10) ∷ [])) e)

fixed_in : (k n : ℕ) → digits_in k n ≡ fixed (length (digits_in k n)) n
fixed_in zero n = refl
fixed_in (suc k) n = fixed-by n (ltb n 10) (digits_in k (n / 10)) refl (fixed_in k (n / 10))

pub digits-fixed : (n : ℕ) → decimal n ≡ fixed (length (decimal n)) n
unfolding decimal
digits-fixed n = fixed_in 20 n

-- ---- counted: one more than the power of ten that the number reaches

power-positive : (k : ℕ) → 1 ≤ 10 ^ k
power-positive zero = omega arith
power-positive (suc k) = omega (arith, pow-suc 10 k, power-positive k)

reaching : (steps k n : ℕ) → k ≤ steps → 10 ^ k ≤ n → n < 10 * 10 ^ k → k + 1 ≡ length (digits_in (suc steps) n)
reaching steps zero n s h l = rw (lt-ltb n 10 (omega arith))
reaching zero (suc k) n s h l = absurd (omega arith)
reaching (suc steps) (suc k) n s h l =
    let p = power-positive k in
    let q = pow-suc 10 k in
    let r = reaching steps k (n / 10) (omega arith) (omega (arith, p, q)) (omega (arith, p, q)) in
    rw (le-ltb n 10 (omega (arith, p, q)), length-append) (omega (arith, r))

counted-by : (n : ℕ) (r : Option ℕ) → IfNone r (n ≡ 0) → IfSome r (λ k. 10 ^ k ≤ n) → IfSome r (λ k. n < 10 * 10 ^ k) → IfSome r (λ k. k < 20)
    → unwrap_or r 0 + 1 ≡ length (digits_in 20 n)
counted-by n None z h l s = rw (z)
counted-by n (Some k) z h l s = reaching 19 k n (omega arith) h l

pub counted : (n : ℕ) (r : Option ℕ) → IfNone r (n ≡ 0) → IfSome r (λ k. 10 ^ k ≤ n) → IfSome r (λ k. n < 10 * 10 ^ k) → IfSome r (λ k. k < 20)
    → unwrap_or r 0 + 1 ≡ length (decimal n)
unfolding decimal
counted n r z h l s = counted-by n r z h l s

-- ---- the least and the largest

pub zero-prints : decimal 0 ≡ text "0"
unfolding decimal
zero-prints = refl

pub largest-prints : decimal 18446744073709551615 ≡ text "18446744073709551615"
unfolding decimal
largest-prints = refl
