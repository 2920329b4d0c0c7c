-- A check character and its place in a row (document 01, "Checks"), for any modulus and weights.
--
--   inserted    a row with a value put in at an index; without, with the one at an index left out
--   Rule        a modulus; the weights of n characters, the check not among them; the check's own weight; how many characters stand
--               behind the check; and the check, by the weighted sum of the others
--   place_of     the check's index in a row of n characters
--   others_of    the characters of a row but its check
--   check_of     the check of the others
--   checked_of   the others with their check put in at its place
--   passes      whether the character at the check's place is the check of the others
--   weights_of   the weights of a row of n characters, the check's own among them
use Rattle.std.specs.Prelude.{Bool, List, ◌∷◌, ◌++◌, ℕ, suc, ◌-◌, eqb, length, get_or, take, drop}
use Rattle.laws.specs.Weigh.{dot}

abbrev pub inserted : ℕ → ℕ → List ℕ → List ℕ
inserted i x xs = take i xs ++ x ∷ drop i xs

abbrev pub without : ℕ → List ℕ → List ℕ
without i xs = take i xs ++ drop (suc i) xs

pub record Rule : Type 0 where
  pub modulus : ℕ
  pub weights : ℕ → List ℕ
  pub own : ℕ
  pub behind : ℕ
  pub check : ℕ → ℕ

abbrev pub place_of : Rule → ℕ → ℕ
place_of rule n = n - 1 - rule.behind

abbrev pub others_of : Rule → List ℕ → List ℕ
others_of rule r = without (place_of rule (length r)) r

unfoldable pub check_of : Rule → List ℕ → ℕ
check_of rule others = rule.check (dot (rule.weights (length others)) others)

abbrev pub checked_of : Rule → List ℕ → List ℕ
checked_of rule others = inserted (length others - rule.behind) (check_of rule others) others

abbrev pub passes : Rule → List ℕ → Bool
passes rule r = eqb (get_or r (place_of rule (length r)) 0) (check_of rule (others_of rule r))

abbrev pub weights_of : Rule → ℕ → List ℕ
weights_of rule n = inserted (place_of rule n) rule.own (rule.weights (n - 1))
