-- What a strip is and how it is read, for every symbology at once (document 01, "Units and working room").
--
--   Kind      what a unit may be: `fixed`, one row (a guard, a start, a stop, a parting space), or `free`, one of a set of
--             rows (a character, in Interleaved a pair)
--   rows, width    the rows of a kind, and its elements; widths, frees, the elements of a shape and its free units
--   strip     a shape drawn, with a row number for each free unit
--   Fits      the row numbers are as many as the free units, and each is in its set
--   Reading   what is read: the row numbers, or the first element of the first unit that is in no row
--   push      a row number before a reading; keep, a free unit's is handed back and a fixed unit's is not
--   next      one unit tested; read_at, the units left, from element `at` of the strip on
--   read      a shape read: the units are tested left to right, and the first that is in no row ends it
--   Good      what is asked of a set of rows; All, of every set of a shape
--   Level     each row of a set has m modules
use Rattle.std.specs.Prelude.{◌≡◌, ◌≢◌, Bool, true, false, List, [], ◌∷◌, ◌++◌, ℕ, suc, ◌+◌, ◌<◌, ltb, length, get_or, take, drop}
use Rattle.laws.specs.Elements.{find, dist, sum}

pub data Kind : Type 0 where
  fixed : List ℕ → Kind
  free : List (List ℕ) → Kind

abbrev pub rows : Kind → List (List ℕ)
rows (fixed r) = r ∷ []
rows (free k) = k

abbrev pub width : Kind → ℕ
width k = length (get_or (rows k) 0 [])

abbrev pub widths : List Kind → ℕ
widths [] = 0
widths (k ∷ ks) = width k + widths ks

abbrev pub frees : List Kind → ℕ
frees [] = 0
frees (fixed r ∷ ks) = frees ks
frees (free k ∷ ks) = suc (frees ks)

abbrev pub strip : List Kind → List ℕ → List ℕ
strip [] cs = []
strip (fixed r ∷ ks) cs = r ++ strip ks cs
strip (free k ∷ ks) [] = []
strip (free k ∷ ks) (c ∷ cs) = get_or k c [] ++ strip ks cs

abbrev pub Fits : List Kind → List ℕ → Type 0
Fits [] [] = Unit {0}
Fits [] (c ∷ cs) = ⊥
Fits (fixed r ∷ ks) cs = Fits ks cs
Fits (free k ∷ ks) [] = ⊥
Fits (free k ∷ ks) (c ∷ cs) = (c < length k) × Fits ks cs

pub data Reading : Type 0 where
  found : List ℕ → Reading
  stopped : ℕ → Reading

abbrev pub push : ℕ → Reading → Reading
push c (found cs) = found (c ∷ cs)
push c (stopped at) = stopped at

abbrev pub keep : Kind → ℕ → Reading → Reading
keep (fixed r) c rest = rest
keep (free k) c rest = push c rest

abbrev pub next : Bool → Kind → ℕ → ℕ → Reading → Reading
next true k c at rest = keep k c rest
next false k c at rest = stopped at

-- s is what is left of the strip: its first element is element `at` of the whole
abbrev pub read_at : List Kind → ℕ → List ℕ → Reading
read_at [] at s = found []
read_at (k ∷ ks) at s =
    let c = find (rows k) (take (width k) s) in
    let rest = read_at ks (at + width k) (drop (width k) s) in
    next (ltb c (length (rows k))) k c at rest

abbrev pub read : List Kind → List ℕ → Reading
read ks s = read_at ks 0 s

-- each row has n elements, no two rows are the same, and no two differ in exactly one element
pub record Good (n : ℕ) (k : List (List ℕ)) : Type 0 where
  pub long : (i : ℕ) → i < length k → length (get_or k i []) ≡ n
  pub different : (i j : ℕ) → i < length k → j < length k → get_or k i [] ≡ get_or k j [] → i ≡ j
  pub far : (i j : ℕ) → i < length k → j < length k → dist (get_or k i []) (get_or k j []) ≢ 1

abbrev pub All : List Kind → Type 0
All [] = Unit {0}
All (fixed r ∷ ks) = All ks
All (free k ∷ ks) = Good (width (free k)) k × All ks

abbrev pub Level : ℕ → List (List ℕ) → Type 0
Level m k = (i : ℕ) → i < length k → sum (get_or k i []) ≡ m
