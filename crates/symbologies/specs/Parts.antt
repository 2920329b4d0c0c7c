-- What a strip is made of (document 01, "Two-width strips", "EAN and UPC strips"): two or three parts, each a mark and then a number of
-- like units; and which row each free unit shows.
--
--   Part        a mark (a start, a stop, a guard, the centre, or none), how many units follow for n drawn characters, and a unit
--   parted, bare    a mark or a unit behind a parting space, and by itself
--   part, close     a part, and a mark with nothing behind it
--   part_units   the units of parts, in order, for n drawn characters
--   starred, lettering, between, paired, halved    the parts of Code 39; of Codabar; of Industrial and Matrix; of Interleaved; of EAN and UPC
--   Shown       the rows that the free units of a strip show, by their number from 0 on
--   Shows       which row each free unit shows, by the characters; the character at place j of n, by the rows that are shown; and whether
--               the rows belong to no characters (11)
--   each        a character is its own row's number
--   letters     Codabar: the letters A to D, values 16 to 19, are counted from 0 at both ends
--   pairs       Interleaved: two digits a unit
--   parity      EAN-13: the first digit is not drawn itself; it puts D2 to D7 into the odd or the even set; row 10 s + d is digit d of set s
use Rattle.std.specs.Prelude.{Bool, true, false, ◌||◌, List, [], ◌∷◌, ◌++◌, map, ℕ, zero, suc, ◌+◌, ◌*◌, ◌-◌, ◌/◌, ◌%◌, eqb, ltb}
use Rattle.laws.specs.Search.{pick}
use Rattle.laws.specs.Units.{Kind, fixed, free}
use Rattle.laws.specs.Shapes.{many, gap}
use Rattle.laws.specs.Spelling.{stands, is_end, counted}
use Rattle.tables.specs.Bits.{bit, number}
use Rattle.tables.specs.Code39.{rows39, star39}
use Rattle.tables.specs.Codabar.{inner_rows, letter_rows}
use Rattle.tables.specs.TwoOfFive.{industrial_rows, industrial_start, industrial_stop, interleaved_rows, interleaved_start, interleaved_stop, matrix_rows, matrix_ends}
use Rattle.tables.specs.Ean.{right_rows, guard, centre, parities_of, first_digit}

pub record Part : Type 0 where
  pub mark : List Kind
  pub count : ℕ → ℕ
  pub unit : List Kind

-- ---- parts

abbrev pub parted : Kind → List Kind
parted k = gap ∷ k ∷ []

abbrev pub bare : Kind → List Kind
bare k = k ∷ []

abbrev pub part : List Kind → (ℕ → ℕ) → List Kind → Part
part m c u = record { mark = m; count = c; unit = u }

abbrev pub close : List Kind → Part
close m = part m (λ n. 0) []

abbrev pub part_units : ℕ → List Part → List Kind
part_units n [] = []
part_units n (p ∷ ps) = p.mark ++ many (p.count n) p.unit (part_units n ps)

-- a start, the characters, a stop, with a narrow space between each two
abbrev pub between : List ℕ → List (List ℕ) → List ℕ → List Part
between start rows stop = part (bare (fixed start)) (λ n. n) (parted (free rows)) ∷ close (parted (fixed stop)) ∷ []

-- "* first and last", "one narrow space between characters"
unfoldable pub starred : List Part
starred = between star39 rows39 star39

-- "narrow space between. First and last byte are A, B, C or D"
unfoldable pub lettering : List Part
lettering =
    part [] (λ n. 1) (bare (free letter_rows))
    ∷ part [] (λ n. n - 2) (parted (free inner_rows))
    ∷ part [] (λ n. 1) (parted (free letter_rows))
    ∷ []

-- "a narrow space parts units"
unfoldable pub industrial : List Part
industrial = between industrial_start industrial_rows industrial_stop

-- "start 0000, then pairs", "no parting spaces"
unfoldable pub interleaved : List Part
interleaved = part (bare (fixed interleaved_start)) (λ n. n / 2) (bare (free interleaved_rows)) ∷ close (bare (fixed interleaved_stop)) ∷ []

-- "narrow space between; start and stop both 10000"
unfoldable pub matrix : List Part
matrix = between matrix_ends matrix_rows matrix_ends

-- a guard, the left units, the centre, as many right units, a guard
unfoldable pub halved : ℕ → List (List ℕ) → List Part
halved k left =
    part (bare (fixed guard)) (λ n. k) (bare (free left))
    ∷ part (bare (fixed centre)) (λ n. k) (bare (free right_rows))
    ∷ close (bare (fixed guard))
    ∷ []

-- ---- what the free units show

abbrev pub Shown : Type 0
Shown = ℕ → ℕ

pub record Shows : Type 0 where
  pub choices : List ℕ → List ℕ
  pub char : ℕ → Shown → ℕ → ℕ
  pub unlike : Shown → Bool

abbrev pub itself : List ℕ → List ℕ
itself r = r

abbrev pub each : Shows
each = record { choices = itself; char = λ n f j. f j; unlike = λ f. false }

abbrev pub lowered : Bool → List ℕ → List ℕ
lowered start [] = []
lowered start (c ∷ cs) = pick (is_end (stands start cs)) (c - 16) c ∷ lowered false cs

abbrev pub letter_at : ℕ → Shown → ℕ → ℕ
letter_at n f j = f j + pick (eqb j 0 || eqb (j + 1) n) 16 0

abbrev pub letters : Shows
letters = record { choices = lowered true; char = letter_at; unlike = λ f. false }

abbrev pub paired : List ℕ → List ℕ
paired [] = []
paired (a ∷ []) = []
paired (a ∷ b ∷ cs) = (10 * a + b) ∷ paired cs

abbrev pub digit_at : ℕ → Shown → ℕ → ℕ
digit_at n f j = pick (eqb (j % 2) 0) (f (j / 2) / 10) (f (j / 2) % 10)

abbrev pub pairs : Shows
pairs = record { choices = paired; char = digit_at; unlike = λ f. false }

-- the next k digits in the odd or the even set, by the k low bits of the parities, and then the others
abbrev pub sides : ℕ → ℕ → List ℕ → List ℕ
sides p zero cs = cs
sides p (suc k) [] = []
sides p (suc k) (c ∷ cs) = (10 * bit k p + c) ∷ sides p k cs

abbrev pub sided : List ℕ → List ℕ
sided [] = []
sided (d ∷ cs) = sides (parities_of d) 6 cs

-- the sets of the six left units, a bit each, D2's the highest
abbrev pub parities_in : Shown → ℕ
parities_in f = number (map (λ i. f i / 10) (counted 0 6))

abbrev pub side_at : ℕ → Shown → ℕ → ℕ
side_at n f j = pick (eqb j 0) (first_digit (parities_in f)) (f (j - 1) % 10)

abbrev pub parity : Shows
parity = record { choices = sided; char = side_at; unlike = λ f. ltb 9 (first_digit (parities_in f)) }
