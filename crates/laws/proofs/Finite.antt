-- Computed tests over finite ranges, and what follows from them: a fact of every number below a bound, or of every row of a
-- table, is one `refl`.
--
--   both_left, both_right, both_true   what a conjunction of tests says, and when it passes
--   upto-at    what a test at every number below n says
--   line       two numbers agree below a bound
--   grid       two numbers agree at every pair below two bounds
--   every      a test at every entry of a list and its index; `every-at` reads it off
--   Each       a fact of every entry of a list; `each_at` reads it off, at an entry or past them
--   From       a fact of n numbers from lo on; `from_at` reads it off
--
-- Assumes nothing.
use Rattle.std.proofs.Common.{◌≡◌, refl, Bool, true, false, ◌&&◌, List, [], ◌∷◌, ℕ, zero, suc, ◌+◌, ◌<◌, ◌≤◌, arith, le_of_suc-le-suc, not-suc-le-zero, zero-add, add-zero, add-suc, suc-add, eqb, length, get_or, eqb-true}
use native.Mathlib.Decide.{ℕ_discrete}
use Rattle.std.proofs.lemmas.Bool.{eqb-false}
use Rattle.laws.specs.Search.{upto}

pub both_left : (a b : Bool) → (a && b) ≡ true → a ≡ true
both_left true b e = refl
both_left false b e = e

pub both_right : (a b : Bool) → (a && b) ≡ true → b ≡ true
both_right true b e = e
both_right false b e = cc

pub both_true : (a b : Bool) → a ≡ true → b ≡ true → (a && b) ≡ true
both_true a b p q = rw (p, q)

upto_step : (f : ℕ → Bool) (n i : ℕ) (b : Bool) → eqb i n ≡ b → f n ≡ true → (i < n → f i ≡ true) → i < suc n → f i ≡ true
upto_step f n i true e p ih h = rw (eqb-true i n e) p
upto_step f n i false e p ih h = ih (omega (arith, eqb-false i n e))

pub upto-at : (n : ℕ) (f : ℕ → Bool) → upto n f ≡ true → (i : ℕ) → i < n → f i ≡ true
upto-at zero f e i h = absurd (not-suc-le-zero h)
upto-at (suc n) f e i h = upto_step f n i (eqb i n) refl (both_left (f n) (upto n f) e) (upto-at n f (both_right (f n) (upto n f) e) i) h

pub line : (m : ℕ) (p q : ℕ → ℕ) → upto m (λ a. eqb (p a) (q a)) ≡ true → (a : ℕ) → a < m → p a ≡ q a
line m p q t a h = eqb-true (p a) (q a) (upto-at m (λ a. eqb (p a) (q a)) t a h)

pub grid : (m n : ℕ) (p q : ℕ → ℕ → ℕ) → upto m (λ a. upto n (λ b. eqb (p a b) (q a b))) ≡ true
    → (a b : ℕ) → a < m → b < n → p a b ≡ q a b
grid m n p q t a b h k = line n (p a) (q a) (upto-at m (λ a. upto n (λ b. eqb (p a b) (q a b))) t a h) b k

module _ {A : Type 0} (d : A) where
  abbrev pub every : (ℕ → A → Bool) → ℕ → List A → Bool
  every f i [] = true
  every f i (x ∷ xs) = let t = every f (suc i) xs in f i x && t

  every-from : (f : ℕ → A → Bool) (xs : List A) (i j : ℕ) → every f i xs ≡ true → j < length xs → f (i + j) (get_or xs j d) ≡ true
  every-from f [] i j e h = absurd (not-suc-le-zero h)
  every-from f (x ∷ xs) i zero e h = rw add-zero (both_left (f i x) (every f (suc i) xs) e)
  every-from f (x ∷ xs) i (suc j) e h =
      rw (add-suc, ← suc-add) (every-from f xs (suc i) j (both_right (f i x) (every f (suc i) xs) e) (le_of_suc-le-suc h))

  pub every-at : (f : ℕ → A → Bool) (xs : List A) → every f 0 xs ≡ true → (i : ℕ) → i < length xs → f i (get_or xs i d) ≡ true
  every-at f xs e i h = rw zero-add at (every-from f xs 0 i e h)

module _ {A : Type 0} (P : A → Type 0) where
  abbrev pub Each : List A → Type 0
  Each [] = Unit {0}
  Each (x ∷ xs) = P x × Each xs

  pub each_at : (xs : List A) (d : A) → Each xs → P d → (i : ℕ) → P (get_or xs i d)
  each_at [] d e p i = p
  each_at (x ∷ xs) d e p zero = e.0
  each_at (x ∷ xs) d e p (suc i) = each_at xs d e.1 p i

module _ (P : ℕ → Type 0) where
  abbrev pub From : ℕ → ℕ → Type 0
  From lo zero = Unit {0}
  From lo (suc n) = P lo × From (suc lo) n

  from_step : (lo n b : ℕ) → P lo → (lo < b → P b) → lo ≤ b → Dec (lo ≡ b) → P b
  from_step lo n b p ih h (yes e) = rw (← e) p
  from_step lo n b p ih h (no e) = ih (omega arith)

  pub from_at : (lo n : ℕ) → From lo n → (b : ℕ) → lo ≤ b → b < lo + n → P b
  from_at lo zero f b h l = absurd (omega arith)
  from_at lo (suc n) f b h l = from_step lo n b f.0 (λ k. from_at (suc lo) n f.1 b k (omega arith)) h (ℕ_discrete lo b)
