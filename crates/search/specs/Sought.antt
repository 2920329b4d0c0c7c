-- What stands at a place of a strip, in the structs of src/.
--
--   parted_at   whether a narrow space stands there, where there should be one; behind, the place behind it
--   begun       where so many elements begin behind that space, or the place where it or they are missing
--   mark_of     whether a mark stands there
--   among_at    a word sought in sets; nowhere, no row can be there
--   sought_in   what is sought by a unit's elements; pair_in, by a pair's
--   sought_of   what is sought at a place: nothing at the space if that is not narrow, nothing at the unit if it passes the strip's end
--   Bounded    set i of those that are looked through is there, and its rows have small numbers
--   found_of    the number of the row that is found, and one; 0 where there is none
use Rattle.std.specs.Prelude.{Bool, true, false, Result, Ok, Err, List, ℕ, ◌+◌, ◌*◌, ◌-◌, ◌/◌, ◌<◌, ◌≤◌, eqb, ltb, leb, length, get_or, take, drop}
use Rattle.laws.specs.Search.{pick}
use Rattle.words.specs.Order.{element_place}
use Rattle.shapes.specs.declared.parts.Mark.{Mark}
use Rattle.shapes.specs.declared.parts.Unit.{Unit}
use Rattle.shapes.specs.Sets.{low}
use Rattle.shapes.specs.Searched.{every_second, seen, digit_in, found_by, ten_of, few}
use Rattle.search.specs.declared.seek.Marked.{Marked}
use Rattle.search.specs.declared.seek.Sought.{Sought}

abbrev pub parted_at : Bool → List ℕ → ℕ → Bool
parted_at g t at = pick g (eqb (get_or t at 0) 1) true

abbrev pub behind : Bool → ℕ → ℕ
behind g at = pick g (at + 1) at

abbrev pub begun : Bool → List ℕ → ℕ → ℕ → Result ℕ ℕ
begun g t place k =
    pick (parted_at g t place) (pick (leb (behind g place + k) (length t)) (Ok (behind g place)) (Err (behind g place))) (Err place)

-- ---- marks

abbrev pub marked : ℕ → ℕ → Bool → Marked
marked at next stands = record { at = element_place at; next = element_place next; stands = stands }

abbrev pub mark_in : Mark → List ℕ → ℕ → Marked
mark_in m t at =
    pick (leb (at + m.elements) (length t)) (marked at (at + m.elements) (eqb (seen m.elements (take m.elements (drop at t))) m.word))
    (marked at at false)

unfoldable pub mark_of : Mark → List ℕ → ℕ → Marked
mark_of m t place =
    pick (eqb m.elements 0) (marked place place true)
    (pick (parted_at m.gap t place) (mark_in m t (behind m.gap place)) (marked place place false))

-- ---- units

abbrev pub among_at : ℕ → ℕ → ℕ → ℕ → ℕ → ℕ → Sought
among_at at k word set sets first = record { at = element_place at; next = element_place (at + k); word = word; set = set; sets = sets; first = first }

abbrev pub nowhere : ℕ → Sought
nowhere at = among_at at 0 0 0 0 0

abbrev pub pair_in : List (List ℕ) → ℕ → List ℕ → ℕ → Sought
pair_in sets s xs at =
    pick (eqb (digit_in sets s (low (every_second (take 9 xs)))) 0) (nowhere at)
    (among_at at 10 (low (every_second (drop 1 xs))) s 1 (10 * (digit_in sets s (low (every_second (take 9 xs))) - 1)))

abbrev pub rows_in : Unit → ℕ → ℕ → Sought
rows_in u w at =
    pick (leb u.size few) (among_at at u.elements w u.set ((u.size + 9) / 10) 0)
    (among_at at u.elements w (u.set + ten_of w) 1 (10 * ten_of w))

unfoldable pub sought_in : List (List ℕ) → Unit → List ℕ → ℕ → Sought
sought_in sets u xs at = pick (ltb 9 u.elements) (pair_in sets u.set xs at) (rows_in u (seen u.elements xs) at)

abbrev pub sought_behind : List (List ℕ) → Unit → List ℕ → ℕ → Sought
sought_behind sets u t at = pick (leb (at + u.elements) (length t)) (sought_in sets u (take u.elements (drop at t)) at) (nowhere at)

unfoldable pub sought_of : List (List ℕ) → Unit → List ℕ → ℕ → Sought
sought_of sets u t place = pick (parted_at u.gap t place) (sought_behind sets u t (behind u.gap place)) (nowhere place)

-- ---- rows

pub record Bounded (sets : ℕ) (q : Sought) (i : ℕ) : Type 0 where
  pub there : q.set + i < sets
  pub low : q.first ≤ 1000
  pub few : i ≤ 1000

abbrev pub found_of : List (List ℕ) → Sought → ℕ
found_of sets q = found_by sets q.set q.first q.word q.sets 0
