-- Search in a table.
--
--   pick      one of two, by a test
--   first     the first index at which a test passes, or the length
--   is        whether a number is the one sought
--   index_in   the first index at which a number stands, or the length
--   some_if   a number where a test passes, else none
--   below     a number below n, else none: numbers from n on stand for none
--   Distinct  no number stands at two indexes
--   upto      a test passes at every number below n
use Rattle.std.specs.Prelude.{◌≡◌, Bool, true, false, ◌&&◌, Option, Some, None, List, [], ◌∷◌, ℕ, zero, suc, ◌<◌, eqb, ltb, length, get_or}

abbrev pub pick : {A : Type 0} → Bool → A → A → A
pick true a b = a
pick false a b = b

-- what a `let` binds is computed only where it is read: the search ends at the first hit
abbrev pub first : {A : Type 0} → (A → Bool) → List A → ℕ
first test [] = 0
first test (x ∷ xs) = let n = first test xs in pick (test x) 0 (suc n)

abbrev pub is : ℕ → ℕ → Bool
is x y = eqb y x

unfoldable pub index_in : List ℕ → ℕ → ℕ
index_in xs x = first (is x) xs

abbrev pub some_if : Bool → ℕ → Option ℕ
some_if true i = Some i
some_if false i = None

abbrev pub below : ℕ → ℕ → Option ℕ
below n i = some_if (ltb i n) i

abbrev pub Distinct : List ℕ → Type 0
Distinct xs = (i j : ℕ) → i < length xs → j < length xs → get_or xs i 0 ≡ get_or xs j 0 → i ≡ j

abbrev pub upto : ℕ → (ℕ → Bool) → Bool
upto zero f = true
upto (suc n) f = let t = upto n f in f n && t
