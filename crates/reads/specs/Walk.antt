-- How reading stands in the structs of src/.
--
--   Run, past, stop, walk_by     how far a part's units are read, and the places that their rows went to
--   Passed          units that were all read: the rows that they show, in their places, and the reading goes on behind them
--   PartEnds, PartRead    units, and a part: all are passed, or the one at a place is in no row
--   Ended           how a walk ends, by what is read
--   lead            the places before the first unit's: EAN-13's first digit has no unit
--   shown_in, row_of  the rows that the units show, and the places of the characters that they are
--   row_from, shown  11, or the row, by the rows that the units show; 10 before them, by a reading of the units
--   SeenIn          such an outcome in the places
use Rattle.std.specs.Prelude.{◌≡◌, Result, Ok, Err, List, [], ◌∷◌, ◌++◌, ℕ, zero, suc, ◌+◌, ◌-◌, ◌%◌, ◌<◌, eqb, length, get_or, drop, set}
use Rattle.laws.specs.Search.{pick}
use Rattle.laws.specs.Units.{Kind, Reading, found, stopped, read_at}
use Rattle.laws.specs.Shapes.{many}
use Rattle.laws.specs.Spelling.{join}
use Rattle.laws.specs.Writing.{Put}
use Rattle.words.specs.declared.ElementPlace.{ElementPlace}
use Rattle.words.specs.declared.Answer.{Answer}
use Rattle.words.specs.declared.Answer.TheVariants.{NoSuchUnit, NoSuchParities}
use Rattle.words.specs.Order.{check, first_of, Outcome, gives, turned, outcome, element_place}
use Rattle.symbologies.specs.Sizes.{places}
use Rattle.symbologies.specs.Parts.{Shown}
use Rattle.symbologies.specs.Symbologies.{symbology_of}
use Rattle.symbologies.specs.Rows.{stops, stop_at, finds}
use Rattle.symbologies.specs.Strips.{chars_of}
use Rattle.symbologies.specs.Told.{pad}
use Rattle.shapes.specs.declared.parts.Unit.{Unit as Like}
use Rattle.shapes.specs.declared.parts.Part.{Part as Line}
use Rattle.shapes.specs.Described.{mark_in, unit_in}
use Rattle.search.specs.Sought.{sought_of, found_of}

-- ---- the units of a part

-- the place behind the units, or that of the one that is in no row
pub record Run : Type 0 where
  pub walked : Result ElementPlace ElementPlace
  pub codes : List ℕ

abbrev pub past : ℕ → List ℕ → Run
past at codes = record { walked = Ok (element_place at); codes = codes }

abbrev pub stop : ℕ → List ℕ → Run
stop at codes = record { walked = Err (element_place at); codes = codes }

-- n units from element `at` on; the next row goes to place j
abbrev pub walk_by : List (List ℕ) → Like → List ℕ → ℕ → ℕ → ℕ → List ℕ → Run
walk_by sets u t zero at j codes = past at codes
walk_by sets u t (suc n) at j codes =
    let q = sought_of sets u t at in
    let rest = walk_by sets u t n q.next.0 (j + 1) (set codes j ((found_of sets q - 1) % 256)) in
    pick (eqb (found_of sets q) 0) (stop q.at.0 codes) rest

-- ---- a part, and all

-- `all rest` are the units and what stands behind them, from element `at` on; `next` is behind them
pub record Passed (all : List Kind → List Kind) (t : List ℕ) (at next first k : ℕ) (before after : List ℕ) : Type 0 where
  pub rows : List ℕ
  pub long : length rows ≡ k
  pub small : (i : ℕ) → get_or rows i 0 < 100
  pub is : (rest : List Kind) → read_at (all rest) at (drop at t) ≡ join rows (read_at rest next (drop next t))
  pub puts : Put before first rows after (first + k)

abbrev pub part_kinds : List (List ℕ) → Line → ℕ → List Kind → List Kind
part_kinds sets p k rest = mark_in p.mark ++ many k (unit_in sets p.unit) rest

-- all of the units are passed, or the one at a place is in no row
abbrev pub PartEnds : (List Kind → List Kind) → List ℕ → ℕ → ℕ → ℕ → List ℕ → List ℕ → Result ElementPlace ElementPlace → Type 0
PartEnds all t at first k before after (Ok next) = Passed all t at next.0 first k before after
PartEnds all t at first k before after (Err place) = (rest : List Kind) → read_at (all rest) at (drop at t) ≡ stopped place.0

pub record PartRead (sets : List (List ℕ)) (p : Line) (k : ℕ) (t : List ℕ) (at first : ℕ) (before : List ℕ) (r : Result ElementPlace ElementPlace) (after : List ℕ) : Type 0 where
  pub same : length after ≡ length before
  pub is : PartEnds (part_kinds sets p k) t at first k before after r

pub record Rowed (cs : List ℕ) (first : ℕ) (before : List ℕ) (r : Result (Unit {0}) ElementPlace) (after : List ℕ) : Type 0 where
  pub none : r ≡ Ok tt
  pub small : (i : ℕ) → get_or cs i 0 < 100
  pub puts : Put before first cs after (first + length cs)

pub record Stopped (at : ℕ) (r : Result (Unit {0}) ElementPlace) (before after : List ℕ) : Type 0 where
  pub is : r ≡ Err (element_place at)
  pub same : length after ≡ length before

abbrev pub Ended : Reading → ℕ → List ℕ → Result (Unit {0}) ElementPlace → List ℕ → Type 0
Ended (found cs) first before r after = Rowed cs first before r after
Ended (stopped at) first before r after = Stopped at r before after

-- ---- what is seen

abbrev pub lead : ℕ → ℕ
lead s = pick (eqb s 7) 1 0

abbrev pub shown_in : ℕ → List ℕ → Shown
shown_in s codes = λ i. get_or codes (lead s + i) 0

abbrev pub row_of : ℕ → ℕ → Shown → List ℕ
row_of s n f = pad places (chars_of s n f)

-- 11, or the row of n characters
abbrev pub row_from : ℕ → ℕ → Shown → Outcome
row_from s n f = outcome (check ((symbology_of s).shows.unlike f) NoSuchParities ∷ []) (chars_of s n f)

-- 10, 11, or the row
abbrev pub shown : ℕ → ℕ → Reading → Outcome
shown s n z = first_of turned (check (stops z) (NoSuchUnit (element_place (stop_at z))) ∷ []) (row_from s n (λ i. get_or (finds z) i 0))

-- an outcome in places: its characters, as many as n, or what turns it away
abbrev pub SeenIn : Outcome → ℕ → Result (Unit {0}) Answer → List ℕ → Type 0
SeenIn (gives cs) n r codes = (r ≡ Ok tt) × (codes ≡ pad places cs) × (length cs ≡ n)
SeenIn (turned a) n r codes = r ≡ Err a
