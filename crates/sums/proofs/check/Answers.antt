-- `check` gives the remainder, or what brings the sum up to a multiple.
--
--   rest-of    the remainder, 0 by no modulus
--   brought, left    what a remainder stands for, where the sum is brought up by what it lacks, and elsewhere
--
-- Assumes nothing.
use Rattle.std.proofs.Common.{◌≡◌, ℕ, ◌-◌, ◌%◌, ◌<◌, Bool, true, false, ◌⊎◌, inl, inr, Option, Some, None, refl, sym, mod-eq_of_lt, arith, ne_eqb, SomeIff, unwrap_or}
use native.Mathlib.Nat.{mod_self, sub-zero}
use Rattle.sums.specs.Sums.{check_by}
use Rattle.sums.proofs.check.Goals as goal

rest-of : (m t : ℕ) (o : Option ℕ) → SomeIff o (0 < m) (t % m) → ((m ≡ 0) × (unwrap_or o 0 ≡ 0)) ⊎ ((0 < m) × (unwrap_or o 0 ≡ t % m))
rest-of m t None h = inl (omega (arith, h), refl)
rest-of m t (Some r) h = inr h

module _ (m t r : ℕ) where
  brought : ((m ≡ 0) × (r ≡ 0)) ⊎ ((0 < m) × (r ≡ t % m)) → (r ≡ 0 → ⊥) → m - r ≡ check_by m true t
  brought (inl h) n = absurd (n h.1)
  brought (inr h) n =
      let less : m - t % m < m = omega (arith, h.1) in
      rw (ne_eqb m 0 (omega (arith, h.0)), h.1) (sym (mod-eq_of_lt less))

  left : (up : Bool) → ((m ≡ 0) × (r ≡ 0)) ⊎ ((0 < m) × (r ≡ t % m)) → ((up ≡ true) × (r ≡ 0)) ⊎ (up ≡ false) → r ≡ check_by m up t
  left up (inl h) w = rw (h.0, h.1)
  left up (inr h) (inl w) = rw (ne_eqb m 0 (omega (arith, h.0)), w.0, ← h.1, w.1, sub-zero m) (sym (mod_self m))
  left up (inr h) (inr e) = rw (ne_eqb m 0 (omega (arith, h.0)), e) h.1

pub returns-then-rest-ne0 : goal.returns-then-rest-ne0
returns-then-rest-ne0 c =
    let rest = rest-of _ _ _ (rw c.from.ensures at c.checked_rem.ensures) in
    rw c.if-sum.true (brought _ _ _ (rw (← c.unwrap_or-rest.ensures) at rest) c.if-rest-ne0.true)

pub returns-else-sum : goal.returns-else-sum
returns-else-sum c =
    let rest = rest-of _ _ _ (rw c.from.ensures at c.checked_rem.ensures) in
    left _ _ _ _ (rw (← c.unwrap_or-rest.ensures) at rest) c.else-sum.either
