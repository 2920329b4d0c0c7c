-- How a row is looked for among the rows of a unit: by its word.
--
--   every_second   the first of elements, the third, and so on
--   seen          the word that k elements make; 0, which is no row's, where nine make none
--   digit_in       the digit of a word in a set, which has ten, and one; 0 where it is not there
--   matches       of words counted from d on, each that is the one sought counts its number and one: no two are the same
--   tens, spaces_in, ten_of    Code 39: the set in which a word can stand, a half-byte for each way in which four spaces can be wide
--   found_in       the number of a set's row that has a word, and one, or what was found before; found_by, the same for k sets, the last first
--   row_by, pair_by, shown_by    the number of a unit's row, and one: by its word, by the words of its two digits, by its elements
--   few           up to so many rows are all looked through; where there are more they are Code 39's, in five sets
--   seekable      what the code needs of a unit where it looks for rows
--   own           a row's word is the one that its elements make
--   unit_reads     each row of a unit is found by its own word, and behind the last one its sets hold none; mark_reads, a mark's word is its own
use Rattle.std.specs.Prelude.{Bool, ◌&&◌, ◌||◌, not, List, [], ◌∷◌, ℕ, zero, suc, ◌+◌, ◌*◌, ◌-◌, ◌/◌, ◌%◌, ◌^◌, eqb, ltb, leb, length, get_or, take, drop}
use Rattle.laws.specs.Search.{pick, upto}
use Rattle.tables.specs.Bits.{bit}
use Rattle.shapes.specs.declared.parts.Mark.{Mark}
use Rattle.shapes.specs.declared.parts.Unit.{Unit}
use Rattle.shapes.specs.Sets.{low, word_of, row_of, word_at}

abbrev pub every_second : List ℕ → List ℕ
every_second [] = []
every_second (x ∷ []) = x ∷ []
every_second (x ∷ y ∷ xs) = x ∷ every_second xs

abbrev pub seen : ℕ → List ℕ → ℕ
seen k xs = pick (ltb k 9) (low xs) (pick (ltb (get_or xs 7 0) 16 && ltb (get_or xs 8 0) 16) (word_of xs) 0)

-- ---- in a set

abbrev pub matches : ℕ → List ℕ → ℕ → ℕ
matches w [] d = 0
matches w (x ∷ xs) d = pick (eqb x w) (d + 1) 0 + matches w xs (d + 1)

unfoldable pub digit_in : List (List ℕ) → ℕ → ℕ → ℕ
digit_in sets s w = pick (eqb w 0) 0 (matches w (take 10 (get_or sets s [])) 0)

-- ---- in several

abbrev pub found_in : List (List ℕ) → ℕ → ℕ → ℕ → ℕ → ℕ
found_in sets s n w f = pick (eqb (digit_in sets s w) 0) f (n + digit_in sets s w)

abbrev pub found_by : List (List ℕ) → ℕ → ℕ → ℕ → ℕ → ℕ → ℕ
found_by sets s n w zero f = f
found_by sets s n w (suc i) f = found_by sets s n w i (found_in sets (s + i) (n + 10 * i) w f)

-- ---- among the rows of a unit

abbrev pub tens : ℕ
tens = 0x4344444344404124

abbrev pub spaces_in : ℕ → ℕ
spaces_in w = bit 9 w * 8 + bit 25 w * 4 + bit 41 w * 2 + bit 57 w

unfoldable pub ten_of : ℕ → ℕ
ten_of w = tens / 2 ^ (4 * spaces_in w) % 16

abbrev pub few : ℕ
few = 20

abbrev pub row_by : List (List ℕ) → Unit → ℕ → ℕ
row_by sets u w = pick (leb u.size few) (found_by sets u.set 0 w ((u.size + 9) / 10) 0) (found_by sets (u.set + ten_of w) (10 * ten_of w) w 1 0)

abbrev pub pair_by : List (List ℕ) → Unit → ℕ → ℕ → ℕ
pair_by sets u a b = pick (eqb (digit_in sets u.set a) 0) 0 (found_by sets u.set (10 * (digit_in sets u.set a - 1)) b 1 0)

abbrev pub shown_by : List (List ℕ) → Unit → List ℕ → ℕ
shown_by sets u xs =
    pick (ltb u.elements 10) (row_by sets u (seen u.elements xs)) (pair_by sets u (low (every_second xs)) (low (every_second (drop 1 xs))))

-- ---- what is asked of a description

-- a pair has ten elements, and its digits come from one set
abbrev pub seekable : ℕ → Unit → Bool
seekable sets u =
    leb u.elements 10
    && pick (ltb u.elements 10)
    (pick (leb u.size few) (leb (10 * u.set + u.size) (10 * sets)) (leb (u.set + 5) sets))
    (ltb u.set sets)

abbrev pub own : ℕ → ℕ → Bool
own k w = eqb (seen k (row_of k w)) w && not (eqb w 0)

-- the last set of a unit, from its last row on
abbrev pub padding : Unit → ℕ
padding u = 10 * ((u.size + 9) / 10) - u.size

abbrev pub row_reads : List (List ℕ) → Unit → ℕ → Bool
row_reads sets u c = own u.elements (word_at sets u.set c) && eqb (row_by sets u (word_at sets u.set c)) (c + 1)

abbrev pub pair_reads : List (List ℕ) → Unit → ℕ → Bool
pair_reads sets u c =
    own 5 (word_at sets u.set (c / 10)) && own 5 (word_at sets u.set (c % 10))
    && eqb (pair_by sets u (word_at sets u.set (c / 10)) (word_at sets u.set (c % 10))) (c + 1)

abbrev pub unit_reads : List (List ℕ) → Unit → Bool
unit_reads sets u =
    seekable (length sets) u
    && pick (ltb u.elements 10)
    (upto u.size (row_reads sets u) && upto (padding u) (λ i. eqb (word_at sets u.set (u.size + i)) 0) && (leb u.size few || eqb ((u.size + 9) / 10) 5))
    (eqb u.size 100 && upto 100 (pair_reads sets u))

abbrev pub mark_reads : Mark → Bool
mark_reads m = eqb m.elements 0 || (leb m.elements 9 && own m.elements m.word)
