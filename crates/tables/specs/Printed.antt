-- How a printed table is typed: a character in quotes, and what the table gives for it.
--
--   text     the bytes of a text
--   _is_     a line of a table: the byte of a character, and a number
--   bytes, numbers    the two columns
--   given    what a table gives for a byte; 0 where it has none
use Rattle.std.specs.Prelude.{List, [], ◌∷◌, map, ℕ, eqb}
use Prim.Native.Char.{Char, code}
use Prim.Native.String.{String, [] as []ˢ, ◌∷◌ as ◌∷ˢ◌}
use Rattle.laws.specs.Search.{pick}

infixr 80 ◌is◌
abbrev pub text : String → List ℕ
text []ˢ = []
text (c ∷ˢ s) = code c ∷ text s

abbrev pub ◌is◌ : Char → ℕ → ℕ × ℕ
c is n = (code c, n)

abbrev pub bytes : List (ℕ × ℕ) → List ℕ
bytes table = map (λ (line : ℕ × ℕ). line.0) table

abbrev pub numbers : List (ℕ × ℕ) → List ℕ
numbers table = map (λ (line : ℕ × ℕ). line.1) table

abbrev pub given : List (ℕ × ℕ) → ℕ → ℕ
given [] b = 0
given (line ∷ lines) b = let rest = given lines b in pick (eqb line.0 b) line.1 rest
