-- Full ASCII backwards: a stretch of items, by one test.
--
--   own    a byte that draws an item is its byte
--   owns   the bytes that draw them
--   lost   items that no byte draws
--
-- Assumes nothing.
use Rattle.std.proofs.Common.{◌≡◌, true, ◌&&◌, List, ◌∷◌, ℕ, ◌+◌, ◌<◌, ◌≤◌, eqb, ltb, Some, None}
use Rattle.laws.specs.Search.{upto, below}
use Rattle.laws.specs.Elements.{alike}
use Rattle.laws.specs.Spelling.{byte_for}
use Rattle.laws.proofs.Finite.{both_left, both_right}
use Rattle.laws.proofs.Elements.{alike-true}
use Rattle.laws.proofs.Arms.{Off, unless, stretch, agree}
use Rattle.symbologies.specs.Coders.{full_coder}
use Rattle.symbologies.proofs.Coders.{back, full-own, full-none}
use Rattle.coders.specs.Pieces.{edge}

pub own : (b x : ℕ) (xs : List ℕ) → ltb b 256 ≡ true → full_coder.drawn edge b ≡ x ∷ xs → Some b ≡ below 256 (byte_for full_coder edge (x ∷ xs))
own b x xs t e = rw (full-own edge b x xs e, t)

module _ (ks : List ℕ) (lo n : ℕ) (x : ℕ → ℕ) (xs : ℕ → List ℕ) where
  pub owns : (p : ℕ → ℕ) → upto n (λ i. unless ks (λ v. ltb (p v) 256 && alike (full_coder.drawn edge (p v)) (x v ∷ xs v)) (lo + i)) ≡ true
      → (v : ℕ) → lo ≤ v → v < lo + n → Off ks v → Some (p v) ≡ below 256 (byte_for full_coder edge (x v ∷ xs v))
  owns p t v h l o =
      let both = stretch ks lo n (λ v. ltb (p v) 256 && alike (full_coder.drawn edge (p v)) (x v ∷ xs v)) t v h l o in
      own (p v) (x v) (xs v) (both_left _ _ both) (alike-true _ _ (both_right _ _ both))

  pub lost : upto n (λ i. unless ks (λ v. eqb (back (x v ∷ xs v)) 256) (lo + i)) ≡ true
      → (v : ℕ) → lo ≤ v → v < lo + n → Off ks v → None ≡ below 256 (byte_for full_coder edge (x v ∷ xs v))
  lost t v h l o = rw (full-none edge (x v) (xs v) (agree ks lo n (λ v. back (x v ∷ xs v)) (λ v. 256) t v h l o))
