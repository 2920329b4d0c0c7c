-- Units that are repeated.
--
--   many     a group n times, and then the rest
--   gap      the parting space: one narrow element
use Rattle.std.specs.Prelude.{List, [], ◌∷◌, ◌++◌, ℕ, zero, suc}
use Rattle.laws.specs.Units.{Kind, fixed}

abbrev pub many : ℕ → List Kind → List Kind → List Kind
many zero group rest = rest
many (suc n) group rest = group ++ many n group rest

abbrev pub gap : Kind
gap = fixed (1 ∷ [])
