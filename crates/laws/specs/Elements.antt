-- Rows of elements: a row is the widths of a unit's elements, in modules.
--
--   alike   whether two rows are the same, element by element
--   find    the first of a list of rows that is alike, or their number
--   dist    the number of places at which two rows differ
--   sum     the modules of a row
use Rattle.std.specs.Prelude.{Bool, true, false, ◌&&◌, List, [], ◌∷◌, ℕ, suc, ◌+◌, eqb, length}
use Rattle.laws.specs.Search.{pick, first}

abbrev pub alike : List ℕ → List ℕ → Bool
alike [] [] = true
alike [] (y ∷ ys) = false
alike (x ∷ xs) [] = false
alike (x ∷ xs) (y ∷ ys) = let t = alike xs ys in eqb x y && t

abbrev pub find : List (List ℕ) → List ℕ → ℕ
find rows row = first (λ r. alike r row) rows

abbrev pub dist : List ℕ → List ℕ → ℕ
dist [] [] = 0
dist [] (y ∷ ys) = suc (length ys)
dist (x ∷ xs) [] = suc (length xs)
dist (x ∷ xs) (y ∷ ys) = let n = dist xs ys in pick (eqb x y) n (suc n)

abbrev pub sum : List ℕ → ℕ
sum [] = 0
sum (x ∷ xs) = x + sum xs
