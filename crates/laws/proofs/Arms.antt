-- The arms of a `match` on a number, each by one computed test. An arm that is a range, or the default, is known to hold
-- between two bounds and off the single numbers that other arms take.
--
--   Off       b is none of these numbers: the last of them first, as the checker hands it over
--   unless    a test, or b is one of these numbers; so `stretch`: a test passes at n numbers from lo on, off these numbers
--   agree     two numbers agree there; `alike-there`, two lists; `same-there`, two numbers or none, by the test `same`
--
-- Assumes nothing.
use Rattle.std.proofs.Common.{◌≡◌, refl, ap, Bool, true, false, List, [], ◌∷◌, ℕ, ◌+◌, ◌-◌, ◌<◌, ◌≤◌, arith, eqb, ne_eqb, eqb-true, Option, Some, None}
use Rattle.laws.specs.Search.{pick, upto}
use Rattle.laws.specs.Elements.{alike}
use Rattle.laws.proofs.Finite.{upto-at}
use Rattle.laws.proofs.Elements.{alike-true}

abbrev pub Off : List ℕ → ℕ → Type 0
Off [] b = Unit {0}
Off (k ∷ ks) b = Off ks b × (b ≡ k → ⊥)

abbrev pub unless : List ℕ → (ℕ → Bool) → ℕ → Bool
unless [] f b = f b
unless (k ∷ ks) f b = let rest = unless ks f b in pick (eqb b k) true rest

unless-off : (ks : List ℕ) (f : ℕ → Bool) (b : ℕ) → Off ks b → unless ks f b ≡ true → f b ≡ true
unless-off [] f b o e = e
unless-off (k ∷ ks) f b o e = unless-off ks f b o.0 (rw (ne_eqb b k o.1) at e)

pub stretch : (ks : List ℕ) (lo n : ℕ) (f : ℕ → Bool) → upto n (λ i. unless ks f (lo + i)) ≡ true
    → (b : ℕ) → lo ≤ b → b < lo + n → Off ks b → f b ≡ true
stretch ks lo n f t b h l o =
    let e : lo + (b - lo) ≡ b = omega arith in
    unless-off ks f b o (rw e at (upto-at n (λ i. unless ks f (lo + i)) t (b - lo) (omega arith)))

pub agree : (ks : List ℕ) (lo n : ℕ) (p q : ℕ → ℕ) → upto n (λ i. unless ks (λ b. eqb (p b) (q b)) (lo + i)) ≡ true
    → (b : ℕ) → lo ≤ b → b < lo + n → Off ks b → p b ≡ q b
agree ks lo n p q t b h l o = eqb-true (p b) (q b) (stretch ks lo n (λ b. eqb (p b) (q b)) t b h l o)

pub alike-there : (ks : List ℕ) (lo n : ℕ) (p q : ℕ → List ℕ) → upto n (λ i. unless ks (λ b. alike (p b) (q b)) (lo + i)) ≡ true
    → (b : ℕ) → lo ≤ b → b < lo + n → Off ks b → p b ≡ q b
alike-there ks lo n p q t b h l o = alike-true (p b) (q b) (stretch ks lo n (λ b. alike (p b) (q b)) t b h l o)

abbrev pub same : Option ℕ → Option ℕ → Bool
same None None = true
same None (Some y) = false
same (Some x) None = false
same (Some x) (Some y) = eqb x y

same-true : (p q : Option ℕ) → same p q ≡ true → p ≡ q
same-true None None e = refl
same-true None (Some y) e = cc
same-true (Some x) None e = cc
same-true (Some x) (Some y) e = ap Some (eqb-true x y e)

pub same-there : (ks : List ℕ) (lo n : ℕ) (p q : ℕ → Option ℕ) → upto n (λ i. unless ks (λ b. same (p b) (q b)) (lo + i)) ≡ true
    → (b : ℕ) → lo ≤ b → b < lo + n → Off ks b → p b ≡ q b
same-there ks lo n p q t b h l o = same-true (p b) (q b) (stretch ks lo n (λ b. same (p b) (q b)) t b h l o)
