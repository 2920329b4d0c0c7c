-- Which bytes are kinds, and how long their bodies are.
--
--   none-behind    above 9 there is no kind; known-most, a kind is at most 9
--   body-field     a kind's body is mode, count and field
--   body-some      a byte that has a body is a kind
--   body-most      no record is longer than 37 bytes
--
-- Assumes nothing.
use Rattle.std.proofs.Common.{◌≡◌, refl, Bool, true, false, ℕ, ◌+◌, ◌<◌, ◌≤◌, arith, leb, leb-true, Some, None}
use Rattle.laws.specs.Search.{pick, some_if}
use Rattle.laws.proofs.Finite.{both_right, upto-at}
use Rattle.jobs.specs.Kinds.{fields, field_of, known, body_of}
use Rattle.jobs.specs.Found.{known_body}

pub known-most : (k : ℕ) → known k ≡ true → k ≤ 9
unfolding known
known-most k e = leb-true k 9 (both_right (leb 1 k) (leb k 9) e)

none-by : (k : ℕ) (b : Bool) → known k ≡ b → 9 < k → None ≡ some_if b (body_of k)
none-by k true e h = absurd (omega (arith, known-most k e))
none-by k false e h = refl

pub none-behind : (k : ℕ) → 7 ≤ k → (k ≡ 7 → ⊥) → (k ≡ 8 → ⊥) → (k ≡ 9 → ⊥) → None ≡ known_body k
none-behind k h a b d = none-by k (known k) refl (omega arith)

pub body-field : (k : ℕ) → known k ≡ true → body_of k ≡ 2 + field_of k
unfolding body_of
body-field k e = rw e

some-by : (k body : ℕ) (b : Bool) → known k ≡ b → some_if b (body_of k) ≡ Some body → (known k ≡ true) × (body ≡ body_of k)
some-by k body true e h = (e, cc)
some-by k body false e h = let z : ◌≡◌ {A = ℕ} 0 1 = cc in absurd (omega arith)

pub body-some : (k body : ℕ) → known_body k ≡ Some body → (known k ≡ true) × (body ≡ body_of k)
body-some k body e = some-by k body (known k) refl e

field-most : (k : ℕ) → k ≤ 9 → field_of k ≤ 34
unfolding field_of fields
field-most k h = leb-true (field_of k) 34 (upto-at 10 (λ k. leb (field_of k) 34) refl k (omega arith))

most-by : (k : ℕ) (b : Bool) → known k ≡ b → pick b (2 + field_of k) 0 ≤ 36
most-by k true e = omega (arith, field-most k (known-most k e))
most-by k false e = omega arith

pub body-most : (k : ℕ) → body_of k ≤ 36
unfolding body_of
body-most k = most-by k (known k) refl
