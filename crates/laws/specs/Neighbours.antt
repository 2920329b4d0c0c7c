-- Two neighbours that change places.
--
--   swapped      a row with two neighbours exchanged: the value at i and the one behind it
--   difference   how far two numbers are apart
use Rattle.std.specs.Prelude.{List, ℕ, suc, ◌+◌, ◌-◌, get_or, set}

abbrev pub swapped : List ℕ → ℕ → List ℕ
swapped xs i = set (set xs i (get_or xs (suc i) 0)) (suc i) (get_or xs i 0)

abbrev pub difference : ℕ → ℕ → ℕ
difference x y = (x - y) + (y - x)
