-- Weighted sums by a modulus (document 01, "Checks").
--
--   dot        the weighted sum: each value times the weight at its place
--   turns      n weights that take turns
--   after      the state after i characters: their weighted sum
--   Inverses   each weight has an inverse by the modulus: it takes part in telling values apart
use Rattle.std.specs.Prelude.{◌≡◌, List, [], ◌∷◌, ℕ, zero, suc, ◌+◌, ◌*◌, ◌%◌, take}

abbrev pub dot : List ℕ → List ℕ → ℕ
dot [] xs = 0
dot (w ∷ ws) [] = 0
dot (w ∷ ws) (x ∷ xs) = w * x + dot ws xs

abbrev pub turns : ℕ → ℕ → ℕ → List ℕ
turns w v zero = []
turns w v (suc n) = w ∷ turns v w n

abbrev pub after : List ℕ → List ℕ → ℕ → ℕ
after ws xs i = dot ws (take i xs)

abbrev pub Inverses : ℕ → List ℕ → Type 0
Inverses m [] = Unit {0}
Inverses m (w ∷ ws) = ((u : ℕ) × (u * w % m ≡ 1)) × Inverses m ws
