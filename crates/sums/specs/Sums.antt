-- The weighted sum as the code holds it.
--
--   wrapped        a sum with some values more, by the machine's word
--   summed         the same in numbers: with one value more `taken`
--   Small          a sum that is far from the word's end, after i values; Kept, so that it is kept as it is
--   check_by        the check, by the modulus: the remainder, or what brings the sum up to a multiple
--   begun          an empty sum of a rule: its modulus, the first two of the weights of n characters and two more, and whether the check
--                  weighs 1, so that it brings the sum up
--   Begins         an empty sum has the modulus, the weights of n characters, and the check of a rule: a wrong one breaks this
--   Suits          for how many characters a sum is begun: for n, and in full ASCII for any number
--   own_in          the index of the check among n bytes or characters: in mode 1 the last; so the number of the others
--   others_in       characters without the check that they hold in mode 1
--   Checks         a sum from which the check of characters can be worked out
use Rattle.std.specs.Prelude.{◌≡◌, ℕ, ◌+◌, ◌-◌, ◌*◌, ◌%◌, ◌^◌, ◌≤◌, Bool, ◌⊎◌, List, [], ◌∷◌, length, take, ◌==◌, slice_index}
use Rattle.laws.specs.Search.{pick}
use Rattle.laws.specs.Weigh.{turns}
use Rattle.laws.specs.Rules.{Rule, check_of}
use Rattle.symbologies.specs.Checks.{remainder, up_to}
use Rattle.sums.specs.declared.Sum.{Sum}

abbrev pub wrapped : Sum → List ℕ → Sum
wrapped s [] = s
wrapped s (v ∷ vs) = wrapped (record { modulus = s.modulus; up = s.up; weight = s.other; other = s.weight; total = (s.total + s.weight * v) % 2 ^ 64 }) vs

abbrev pub taken : Sum → ℕ → Sum
taken s v = record { modulus = s.modulus; up = s.up; weight = s.other; other = s.weight; total = s.total + s.weight * v }

abbrev pub summed : Sum → List ℕ → Sum
summed s [] = s
summed s (v ∷ vs) = summed (taken s v) vs

-- each value is a byte, each weight at most 100
pub record Small (i : ℕ) (s : Sum) : Type 0 where
  pub total : s.total ≤ 25500 * i
  pub weight : s.weight ≤ 100
  pub other : s.other ≤ 100

pub record Kept (j i : ℕ) (s : Sum) (vs : List ℕ) (r : Sum) : Type 0 where
  pub is : r ≡ summed s vs
  pub small : Small (i + j) r

abbrev pub check_by : ℕ → Bool → ℕ → ℕ
check_by m up sum = pick (m == 0) 0 (pick up (up_to m sum) (remainder m sum))

abbrev pub begun : Rule → ℕ → Sum
begun rule n = record { modulus = rule.modulus; up = (rule.own == 1); weight = slice_index (rule.weights (n + 2)) 0; other = slice_index (rule.weights (n + 2)) 1; total = 0 }

pub record Begins (rule : Rule) (n : ℕ) (s : Sum) : Type 0 where
  pub modulus : s.modulus ≡ rule.modulus
  pub weights : turns s.weight s.other n ≡ rule.weights n
  pub check : (sum : ℕ) → check_by rule.modulus s.up sum ≡ rule.check sum
  pub small : Small 0 s

abbrev pub Suits : ℕ → ℕ → ℕ → Type 0
Suits s n k = (k ≡ n) ⊎ (s ≡ 2)

abbrev pub own_in : ℕ → ℕ → ℕ
own_in m n = pick (m == 1) (n - 1) n

abbrev pub others_in : ℕ → List ℕ → List ℕ
others_in m cs = take (own_in m (length cs)) cs

abbrev pub Checks : Rule → List ℕ → Sum → Type 0
Checks rule others s = check_by s.modulus s.up s.total ≡ check_of rule others
