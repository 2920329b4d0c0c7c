-- From the bits that the sources print to elements. The highest bit is the leftmost.
--
--   bit       bit n of a code
--   ones      how many of the n low bits are 1: in a two-width code, its wide elements
--   spread    n bits as elements: 0 is narrow, 1 module, and 1 is wide, 3 modules (document 01, "Two-width strips")
--   runs      n bits as modules: 1 is a bar module, and equal neighbours are one element (document 01, "EAN and UPC strips"); runs_from,
--             with k modules of one colour before them
--   spaced    bars with a narrow space between each two (Industrial)
--   weave     the first row in the bars, the second in the spaces (Interleaved)
--   pairs     every row of one list woven with every row of another
--   number    bits as a number; number_from, behind those of n
use Rattle.std.specs.Prelude.{List, [], ◌∷◌, ◌++◌, map, ℕ, zero, suc, ◌+◌, ◌*◌, ◌/◌, ◌%◌, ◌^◌, eqb}
use Rattle.laws.specs.Search.{pick}

abbrev pub bit : ℕ → ℕ → ℕ
bit n c = c / 2 ^ n % 2

abbrev pub ones : ℕ → ℕ → ℕ
ones zero c = 0
ones (suc n) c = bit n c + ones n c

abbrev pub spread : ℕ → ℕ → List ℕ
spread zero c = []
spread (suc n) c = (1 + 2 * bit n c) ∷ spread n c

abbrev pub runs_from : ℕ → ℕ → ℕ → ℕ → List ℕ
runs_from zero c b k = k ∷ []
runs_from (suc n) c b k =
    let on = runs_from n c b (suc k) in
    let turn = k ∷ runs_from n c (bit n c) 1 in
    pick (eqb (bit n c) b) on turn

abbrev pub runs : ℕ → ℕ → List ℕ
runs zero c = []
runs (suc n) c = runs_from n c (bit n c) 1

abbrev pub spaced : List ℕ → List ℕ
spaced [] = []
spaced (x ∷ []) = x ∷ []
spaced (x ∷ y ∷ xs) = x ∷ 1 ∷ spaced (y ∷ xs)

abbrev pub weave : List ℕ → List ℕ → List ℕ
weave [] ys = []
weave (x ∷ xs) [] = []
weave (x ∷ xs) (y ∷ ys) = x ∷ y ∷ weave xs ys

abbrev pub pairs : List (List ℕ) → List (List ℕ) → List (List ℕ)
pairs [] bs = []
pairs (a ∷ rest) bs = map (weave a) bs ++ pairs rest bs

abbrev pub number_from : ℕ → List ℕ → ℕ
number_from n [] = n
number_from n (b ∷ bs) = number_from (2 * n + b) bs

abbrev pub number : List ℕ → ℕ
number bs = number_from 0 bs
