-- What is printed: numbers in decimal, widths as digits, and words with single blanks between them.
--
--   digits_in   a number's last digits, at most so many
--   decimal    a number's decimal digits, none of them a leading zero; 0 is one digit. 20 digits hold every u64
--   widths     each width as a digit
--   line       words with a blank between each two, and the newline behind the last
--   spaced     numbers, each with a blank behind it
--   roomy      a text for a buffer of so many bytes: none where they could not hold the longest line
use Rattle.std.specs.Prelude.{List, [], ◌∷◌, ◌++◌, map, ℕ, zero, suc, ◌+◌, ◌/◌, ◌%◌, ltb}
use Rattle.laws.specs.Search.{pick}
use Rattle.lines.specs.Sizes.{longest_line}

abbrev pub digits_in : ℕ → ℕ → List ℕ
digits_in zero n = []
digits_in (suc k) n = let front = digits_in k (n / 10) in pick (ltb n 10) ((48 + n) ∷ []) (front ++ ((48 + n % 10) ∷ []))

unfoldable pub decimal : ℕ → List ℕ
decimal n = digits_in 20 n

abbrev pub widths : List ℕ → List ℕ
widths strip = map (λ w. 48 + w) strip

abbrev pub line : List (List ℕ) → List ℕ
line [] = 10 ∷ []
line (w ∷ []) = w ++ (10 ∷ [])
line (w ∷ v ∷ ws) = w ++ (32 ∷ line (v ∷ ws))

abbrev pub spaced : List ℕ → List ℕ
spaced [] = []
spaced (n ∷ ns) = decimal n ++ (32 ∷ spaced ns)

abbrev pub roomy : ℕ → List ℕ → List ℕ
roomy room text = pick (ltb room longest_line) [] text
