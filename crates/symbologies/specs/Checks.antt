-- The check rules (document 01, "Checks"; laws, `Rule`). The check's own weight is what brings the sum of the whole row to a multiple of
-- the modulus: proofs/Checks.antt.
--
--   remainder   what is left of a sum by a modulus
--   up_to        what brings a sum to the next multiple of a modulus, 0 where it is one already
--   by43        sum of the values, remainder by 43
--   right10     modulus 10, the rightmost beside the check weighs 3, then 1, 3 and so on (in 4 to 6 by ticket 1 of document 02, and no
--               longer by source 001, 4.6, which counts from the left)
--   no_check     no rule: modes 1 and 2 are not offered
use Rattle.std.specs.Prelude.{reverse, ℕ, ◌-◌, ◌%◌}
use Rattle.laws.specs.Weigh.{turns}
use Rattle.laws.specs.Rules.{Rule}

abbrev pub remainder : ℕ → ℕ → ℕ
remainder m sum = sum % m

abbrev pub up_to : ℕ → ℕ → ℕ
up_to m sum = (m - sum % m) % m

unfoldable pub by43 : Rule
by43 = record { modulus = 43; weights = λ n. turns 1 1 n; own = 42; behind = 0; check = remainder 43 }

unfoldable pub right10 : Rule
right10 = record { modulus = 10; weights = λ n. reverse (turns 3 1 n); own = 1; behind = 0; check = up_to 10 }

unfoldable pub no_check : Rule
no_check = record { modulus = 1; weights = λ n. turns 0 0 n; own = 0; behind = 0; check = remainder 1 }
