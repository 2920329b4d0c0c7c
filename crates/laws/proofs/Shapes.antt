-- Units that are repeated: what holds of the group and of the rest holds of the whole, for every number of repeats.
--
--   holds-many      a fact of kinds, of a repeated group
--   all-many        so of good sets
--   add-many        what adds up over kinds
--
-- Assumes nothing.
use Rattle.std.proofs.Common.{◌≡◌, List, [], ◌∷◌, ◌++◌, ℕ, zero, suc, ◌+◌, ◌*◌, arith, suc-mul}
use Rattle.laws.specs.Units.{Kind, fixed, free, All}
use Rattle.laws.specs.Shapes.{many}

-- a fact of kinds that holds of two lists and so of both, one behind the other
pub holds-many : (Q : List Kind → Type 0) → ((a b : List Kind) → Q a → Q b → Q (a ++ b)) → (n : ℕ) (group rest : List Kind) → Q group → Q rest → Q (many n group rest)
holds-many Q both zero group rest g h = h
holds-many Q both (suc n) group rest g h = both group (many n group rest) g (holds-many Q both n group rest g h)

all_append : (a b : List Kind) → All a → All b → All (a ++ b)
all_append [] b g h = h
all_append (fixed r ∷ a) b g h = all_append a b g h
all_append (free k ∷ a) b g h = (g.0, all_append a b g.1 h)

pub all-many : (n : ℕ) (group rest : List Kind) → All group → All rest → All (many n group rest)
all-many = holds-many All all_append

-- a measure of kinds that adds up: modules, or units
pub add-many : (f : List Kind → ℕ) → ((a b : List Kind) → f (a ++ b) ≡ f a + f b) → (n : ℕ) (group rest : List Kind) → f (many n group rest) ≡ n * f group + f rest
add-many f add zero group rest = omega arith
add-many f add (suc n) group rest = rw add (omega (arith, suc-mul n (f group), add-many f add n group rest))
