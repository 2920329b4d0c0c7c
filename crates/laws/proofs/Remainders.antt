-- Remainders by a modulus.
--
--   mul-mod   a remainder may be taken before a product
--   times     equal remainders, multiplied
--   plus      equal remainders, with the same added
--   cancel    and taken off again
--   balance   THE ONE FACT: where e + p is d + q, the remainders of d and e agree exactly if those of p and q do. What a
--             check catches, for every modulus and all weights, is an instance of it
--   apart     a weight with an inverse tells remainders apart
--
-- Assumes nothing.
use Rattle.std.proofs.Common.{◌≡◌, sym, ap, ◌∙◌, ◌↔◌, ℕ, suc, ◌+◌, ◌-◌, ◌*◌, ◌/◌, ◌%◌, ◌<◌, arith, mod-lt, mul-add, mul_comm, mul_assoc, mul_left_comm, mul-one, mul-suc, add_comm}
use native.Mathlib.Nat.{mod-add-mod, mod-add-div, add-mul-mod_self_left}

pub mul-mod : (u a m : ℕ) → u * (a % m) % m ≡ u * a % m
mul-mod u a m = sym (add-mul-mod_self_left (u * (a % m)) m (u * (a / m))) ∙ ap (λ (x : ℕ). x % m) whole
  where
    whole : u * (a % m) + m * (u * (a / m)) ≡ u * a
    whole = rw (mul_left_comm m u (a / m), ← mul-add) (ap (λ (x : ℕ). u * x) (mod-add-div a m))

pub times : (u a b m : ℕ) → a % m ≡ b % m → u * a % m ≡ u * b % m
times u a b m e = sym (mul-mod u a m) ∙ ap (λ (x : ℕ). u * x % m) e ∙ mul-mod u b m

pub plus : (a b s m : ℕ) → a % m ≡ b % m → (a + s) % m ≡ (b + s) % m
plus a b s m e = sym (mod-add-mod a m s) ∙ ap (λ (x : ℕ). (x + s) % m) e ∙ mod-add-mod b m s

-- what brings s to a multiple of m takes s off
off : (a s m : ℕ) → 0 < m → (a + s + (m - s % m)) % m ≡ a % m
off a s m h = ap (λ (x : ℕ). x % m) whole ∙ add-mul-mod_self_left a m (suc (s / m))
  where
    whole : a + s + (m - s % m) ≡ a + m * suc (s / m)
    whole = omega (arith, mod-add-div s m, mod-lt s h, mul-suc m (s / m))

pub cancel : (a b s m : ℕ) → 0 < m → (a + s) % m ≡ (b + s) % m → a % m ≡ b % m
cancel a b s m h e = sym (off a s m h) ∙ plus (a + s) (b + s) (m - s % m) m e ∙ off b s m h

pub balance : (d e p q m : ℕ) → 0 < m → e + p ≡ d + q → (d % m ≡ e % m) ↔ (p % m ≡ q % m)
balance d e p q m h s = (there, back)
  where
    there : d % m ≡ e % m → p % m ≡ q % m
    there r = cancel p q e m h (ap (λ (x : ℕ). x % m) (omega arith) ∙ plus d e q m r ∙ ap (λ (x : ℕ). x % m) (add_comm e q))

    back : p % m ≡ q % m → d % m ≡ e % m
    back r = cancel d e p m h (ap (λ (x : ℕ). x % m) (add_comm d p) ∙ plus p q d m r ∙ ap (λ (x : ℕ). x % m) (omega arith))

pub apart : (m u w x y : ℕ) → u * w % m ≡ 1 → w * x % m ≡ w * y % m → x % m ≡ y % m
apart m u w x y i e = sym (whole x) ∙ times u (w * x) (w * y) m e ∙ whole y
  where
    whole : (z : ℕ) → u * (w * z) % m ≡ z % m
    whole z = rw (← mul_assoc u w z, mul_comm (u * w) z, ← mul-mod z (u * w) m, i, mul-one)
