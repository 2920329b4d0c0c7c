-- What the code's description of a part means (symbologies, specs/Parts.antt).
--
--   gap_in     the parting space, where there is one
--   mark_in    a mark; one of no elements is none
--   row_in     what a unit shows for a choice: the row of that number in its sets, or a pair, woven of the rows of two digits
--   unit_in    a unit: one of so many rows
--   count_in   how many units follow for n drawn characters; is_none, none whatever n is
--   part_in    the part that is described; closed, a mark with no units behind it; nothing, no mark either
--   line_at    line i of a list, nothing past them
--   halves    the lines of EAN and UPC: a guard, half the units, the centre, the other half, a guard
--   sound     what the code needs of a description, by the number of sets: marks of three to nine elements, units of three to ten, and each
--             row within the sets
--   readable  what reading needs: a mark and each row of a unit are found by their own words
--   Describes a description means part i of a list, is sound and is readable
use Rattle.std.specs.Prelude.{◌≡◌, Bool, true, false, ◌&&◌, ◌||◌, List, [], ◌∷◌, ◌++◌, map, ℕ, ◌+◌, ◌*◌, ◌-◌, ◌/◌, ◌%◌, eqb, ltb, leb, length, get_or}
use Rattle.laws.specs.Search.{pick}
use Rattle.laws.specs.Units.{Kind, fixed, free}
use Rattle.laws.specs.Shapes.{gap}
use Rattle.laws.specs.Spelling.{counted}
use Rattle.tables.specs.Bits.{weave}
use Rattle.symbologies.specs.Parts.{Part, part, close}
use Rattle.shapes.specs.declared.parts.Mark.{Mark}
use Rattle.shapes.specs.declared.parts.Unit.{Unit}
use Rattle.shapes.specs.declared.parts.Count.{Count}
use Rattle.shapes.specs.declared.parts.Count.TheVariants.{Of, All, Inner, Half}
use Rattle.shapes.specs.declared.parts.Part.{Part as Line}
use Rattle.shapes.specs.Sets.{bytes, row_of, word_at}
use Rattle.shapes.specs.Searched.{mark_reads, unit_reads}

abbrev pub gap_in : Bool → List Kind
gap_in g = pick g (gap ∷ []) []

abbrev pub mark_in : Mark → List Kind
mark_in m = pick (eqb m.elements 0) [] (gap_in m.gap ++ (fixed (row_of m.elements m.word) ∷ []))

abbrev pub row_in : List (List ℕ) → Unit → ℕ → List ℕ
row_in sets u c =
    pick (ltb u.elements 10)
    (row_of u.elements (word_at sets u.set c))
    (weave (bytes 5 (word_at sets u.set (c / 10))) (bytes 5 (word_at sets u.set (c % 10))))

abbrev pub unit_in : List (List ℕ) → Unit → List Kind
unit_in sets u = gap_in u.gap ++ (free (map (row_in sets u) (counted 0 u.size)) ∷ [])

abbrev pub count_in : Count → ℕ → ℕ
count_in (Of k) n = k
count_in All n = n
count_in Inner n = n - 2
count_in Half n = n / 2

abbrev pub is_none : Count → Bool
is_none (Of k) = eqb k 0
is_none All = false
is_none Inner = false
is_none Half = false

abbrev pub part_in : List (List ℕ) → Line → Part
part_in sets p = part (mark_in p.mark) (count_in p.count) (pick (is_none p.count) [] (unit_in sets p.unit))

abbrev pub closed : Mark → Line
closed m = record { mark = m; count = Of 0; unit = record { gap = false; elements = 0; set = 0; size = 0 } }

abbrev pub nothing : Line
nothing = closed (record { gap = false; elements = 0; word = 0 })

unfoldable pub line_at : List Line → ℕ → Line
line_at ls i = get_or ls i nothing

abbrev pub halves : ℕ → ℕ → List Line
halves half left =
    record { mark = guard; count = Of half; unit = record { gap = false; elements = 4; set = 0; size = left } }
    ∷ record { mark = centre; count = Of half; unit = record { gap = false; elements = 4; set = 2; size = 10 } }
    ∷ closed guard
    ∷ []
  where
    guard : Mark
    guard = record { gap = false; elements = 3; word = 0x010101 }

    centre : Mark
    centre = record { gap = false; elements = 5; word = 0x0101010101 }

abbrev pub sizeable : ℕ → ℕ → Bool
sizeable most k = leb 3 k && leb k most

-- a pair's two digits come from one set
abbrev pub within : ℕ → Unit → Bool
within sets u = pick (ltb u.elements 10) (leb (10 * u.set + u.size) (10 * sets)) (leb u.size 100 && ltb u.set sets)

abbrev pub sound : ℕ → Line → Bool
sound sets p =
    (eqb p.mark.elements 0 || sizeable 9 p.mark.elements)
    && (is_none p.count || (sizeable 10 p.unit.elements && within sets p.unit))

abbrev pub readable : List (List ℕ) → Line → Bool
readable sets p = mark_reads p.mark && unit_reads sets p.unit

pub record Describes (sets : List (List ℕ)) (parts : List Part) (i : ℕ) (p : Line) : Type 0 where
  pub is : part_in sets p ≡ get_or parts i (close [])
  pub good : sound (length sets) p ≡ true
  pub reads : readable sets p ≡ true
