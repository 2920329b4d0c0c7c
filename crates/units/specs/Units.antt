-- Units one behind the other, as the code puts them.
--
--   laid     a unit for each choice
--   side_of   the set of EAN-13's unit i
use Rattle.std.specs.Prelude.{List, [], ◌∷◌, ◌++◌, ℕ, ◌-◌, ltb}
use Rattle.laws.specs.Search.{pick}
use Rattle.laws.specs.Units.{Kind, strip}
use Rattle.tables.specs.Bits.{bit}

abbrev pub laid : List Kind → List ℕ → List ℕ
laid u [] = []
laid u (c ∷ cs) = strip u (c ∷ []) ++ laid u cs

abbrev pub side_of : ℕ → ℕ → ℕ
side_of p i = pick (ltb i 6) (bit (5 - i) p) 0
