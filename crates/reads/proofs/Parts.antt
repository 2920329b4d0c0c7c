-- The loop over a strip's parts: what is read of the whole is the rows of the parts that were passed, and then what is read of the others.
--
--   Left, started, Turn, turn, ended, ended-part    what is left to read, a part of it, and its end
--   Arm, tables, by_key, by_two, last    the sets of each number, and where its rows begin
--   asks, gives   so what `read_parts` asks is met, and what it gives is the whole
--
-- Assumes nothing.
use native.Mathlib.Decide.{ℕ_discrete}
use Rattle.std.proofs.Common.{lit≤, Result, Ok, Err, take, append_assoc, zero-add, take-append-drop, drop-drop, length-take-le, length-append, length-drop, ◌≡◌, refl, sym, ap, ◌∙◌, Bool, true, false, List, [], ◌∷◌, ◌++◌, ℕ, zero, suc, ◌+◌, ◌<◌, ◌≤◌, arith, add-one, eqb, length, get_or, drop, drop_of_length-le, drop-cons}
use Rattle.laws.specs.Search.{pick}
use Rattle.laws.specs.Units.{Kind, fixed, free, frees, Reading, found, stopped, read_at, read}
use Rattle.laws.specs.Shapes.{many}
use Rattle.laws.specs.Spelling.{join}
use Rattle.laws.specs.Writing.{Put}
use Rattle.laws.proofs.Shapes.{add-many}
use Rattle.laws.proofs.Spelling.{join-append, join-found, join-stopped}
use Rattle.laws.proofs.Writing.{placed, none, then, same_place}
use Rattle.std.proofs.lemmas.List.{drop-append-le}
use borrow.Rule.Slice.PartMut.{put_mid}
use Rattle.words.specs.Order.{element_place}
use Rattle.symbologies.specs.Sizes.{places}
use Rattle.symbologies.specs.Parts.{Part, close, part_units}
use Rattle.symbologies.specs.Symbologies.{symbology_of}
use Rattle.symbologies.specs.Strips.{units_of, counted}
use Rattle.symbologies.proofs.Counted.{by_number, counted-few}
use Rattle.shapes.specs.declared.parts.Part.{Part as Line}
use Rattle.shapes.specs.Sets.{row_of, sets39, sets_codabar, sets_industrial, sets_digits, sets_ean, sets_of}
use Rattle.shapes.specs.Described.{gap_in, mark_in, unit_in, count_in, is_none, part_in, readable, Describes}
use Rattle.shapes.proofs.Lines.{none-count}
use Rattle.reads.proofs.Rows.{frees-append, rows_few}
use Rattle.words.specs.declared.ElementPlace.{ElementPlace}
use Rattle.reads.specs.Walk.{Passed, part_kinds, PartRead, Ended, lead}

-- ---- the free units of a part

part-frees : (sets : List (List ℕ)) (p : Line) (k : ℕ) (rest : List Kind) → frees (part_kinds sets p k rest) ≡ k + frees rest
part-frees sets p k rest =
    frees-append (mark_in p.mark) _
    ∙ rw (mark (eqb p.mark.elements 0) p.mark.gap, add-many frees frees-append k (unit_in sets p.unit) rest, unit p.unit.gap _) (omega arith)
  where
    mark : (b g : Bool) → frees (pick b [] (gap_in g ++ (fixed (row_of p.mark.elements p.mark.word) ∷ []))) ≡ 0
    mark true g = refl
    mark false true = refl
    mark false false = refl

    unit : (g : Bool) (rows : List (List ℕ)) → frees (gap_in g ++ (free rows ∷ [])) ≡ 1
    unit true rows = refl
    unit false rows = refl

part-kinds : (sets : List (List ℕ)) (p : Line) (n : ℕ) (rest : List Part) → part_units n (part_in sets p ∷ rest) ≡ part_kinds sets p (count_in p.count n) (part_units n rest)
part-kinds sets p n rest = ap (λ (ks : List Kind). mark_in p.mark ++ ks) (go (is_none p.count) refl)
  where
    go : (b : Bool) → is_none p.count ≡ b
        → many (count_in p.count n) (pick b [] (unit_in sets p.unit)) (part_units n rest) ≡ many (count_in p.count n) (unit_in sets p.unit) (part_units n rest)
    go true e = rw (none-count p.count n e) refl
    go false e = refl

-- ---- a strip, part by part

both_small : (a b : List ℕ) → ((i : ℕ) → get_or a i 0 < 100) → ((i : ℕ) → get_or b i 0 < 100) → (i : ℕ) → get_or (a ++ b) i 0 < 100
both_small [] b g h i = h i
both_small (x ∷ a) b g h zero = g 0
both_small (x ∷ a) b g h (suc i) = both_small a b (λ j. g (suc j)) h i

-- what is put in a part of the places stands in the places
part-put : (codes : List ℕ) (place m : ℕ) {rows after : List ℕ} {n : ℕ} → place + m ≤ length codes → Put (take m (drop place codes)) 0 rows after n
    → Put codes place rows (put_mid place m codes after) (place + n)
part-put codes place m {rows} {after} {n} h p =
    let d : List ℕ = drop place codes in
    let l : length (take m d) ≡ m = length-take-le m d (omega (arith, length-drop place codes)) in
    let few : length rows ≤ length (take m d) = omega (arith, p.fits) in
    let e : drop (length rows) (take m d) ++ drop m d ≡ drop (place + length rows) codes
    = sym (drop-append-le (length rows) (take m d) (drop m d) few) ∙ rw (take-append-drop m d, drop-drop (length rows) place codes) in
    let q : after ≡ rows ++ drop (length rows) (take m d) = p.is ∙ rw zero-add in
    placed codes rows (put_mid place m codes after) place (place + n) (omega (arith, p.fits))
    (rw (q, append_assoc rows, e)) (omega (arith, p.behind))

part-long : (codes after : List ℕ) (place m : ℕ) → place + m ≤ length codes → length after ≡ length (take m (drop place codes)) → length (put_mid place m codes after) ≡ length codes
part-long codes after place m h e =
    rw (length-append, length-append, length-drop, length-drop, length-take-le place codes (omega arith), e, length-take-le m (drop place codes) (omega (arith, length-drop place codes))) (omega arith)

module _ (s n : ℕ) (t before : List ℕ) where
  abbrev ps : List Part
  ps = (symbology_of s).parts

  -- the rows so far, in their places, and the parts that are left
  pub record Left (i at place : ℕ) (codes : List ℕ) : Type 0 where
    pub rows : List ℕ
    pub small : (j : ℕ) → get_or rows j 0 < 100
    pub is : read (units_of s n) t ≡ join rows (read_at (part_units n (drop i ps)) at (drop at t))
    pub puts : Put before 0 rows codes place
    pub room : place + frees (part_units n (drop i ps)) ≤ length before

  -- what a turn asks of the next part, and what it leaves in the places that are lent to it
  pub record Turn (sets : List (List ℕ)) (p : Line) (i at place k : ℕ) (codes : List ℕ) : Type 0 where
    pub reads : readable sets p ≡ true
    pub room : place + k ≤ length codes
    pub next : {m : ℕ} {r : Result ElementPlace ElementPlace} {after : List ℕ} {to : ElementPlace} → m ≡ k
        → PartRead sets p (length (take m (drop place codes))) t at 0 (take m (drop place codes)) r after → r ≡ Ok to → Left (i + 1) to.0 (place + k) (put_mid place m codes after)
    pub stops : {m : ℕ} {r : Result ElementPlace ElementPlace} {after : List ℕ} {stop : ElementPlace} → m ≡ k
        → PartRead sets p (length (take m (drop place codes))) t at 0 (take m (drop place codes)) r after → r ≡ Err stop
        → Ended (read (units_of s n) t) 0 before (Err stop) (put_mid place m codes after)

  pub started : frees (units_of s n) ≤ length before → Left 0 0 0 before
  unfolding units_of
  started h = record { rows = []; small = λ j. omega arith; is = refl; puts = none before 0 (omega arith); room = omega arith }

  module _ {i at place : ℕ} {codes : List ℕ} (sets : List (List ℕ)) (p : Line) (k : ℕ) (l : Left i at place codes) (h : i < length ps)
      (d : Describes (sets_of s) ps i p) (e : sets ≡ sets_of s) (q : k ≡ count_in p.count n) where
    abbrev rest : List Kind
    rest = part_units n (drop (i + 1) ps)

    part_is : part_units n (drop i ps) ≡ part_kinds sets p k rest
    part_is =
        let c : drop i ps ≡ part_in sets p ∷ drop (i + 1) ps = drop-cons ps i (close []) h ∙ rw (e, d.is, add-one i) in
        ap (part_units n) c ∙ rw q (part-kinds sets p n (drop (i + 1) ps))

    is_read : read (units_of s n) t ≡ join l.rows (read_at (part_kinds sets p k rest) at (drop at t))
    is_read = rw part_is at l.is

    room_left : place + (k + frees rest) ≤ length before
    room_left = omega (arith, l.room, ap frees part_is ∙ part-frees sets p k rest)

    part_of_places : (m : ℕ) → m ≡ k → length (take m (drop place codes)) ≡ k
    part_of_places m x = length-take-le m (drop place codes) (omega (arith, length-drop place codes, room_left, l.puts.long)) ∙ x

    passed : (m to : ℕ) (after : List ℕ) → m ≡ k → Passed (part_kinds sets p k) t at to 0 k (take m (drop place codes)) after
        → Left (i + 1) to (place + k) (put_mid place m codes after)
    passed m to after x a = record {
      rows = l.rows ++ a.rows;
      small = both_small l.rows a.rows l.small a.small;
      is = is_read ∙ rw (a.is rest) (sym (join-append l.rows a.rows (read_at rest to (drop to t))));
      puts = same_place (omega arith) (then l.puts (part-put codes place m (omega (arith, room_left, l.puts.long)) a.puts));
      room = omega (arith, room_left);
    }

    in_no_row : (m at_unit : ℕ) (after : List ℕ) → m ≡ k → length after ≡ length (take m (drop place codes))
        → ((rest : List Kind) → read_at (part_kinds sets p k rest) at (drop at t) ≡ stopped at_unit)
        → Ended (read (units_of s n) t) 0 before (Err (element_place at_unit)) (put_mid place m codes after)
    in_no_row m at_unit after x same a =
        rw (is_read ∙ ap (join l.rows) (a rest) ∙ join-stopped l.rows at_unit)
        (record { is = refl; same = part-long codes after place m (omega (arith, room_left, l.puts.long)) same ∙ l.puts.long })

    pub turn : Turn sets p i at place k codes
    turn = record {
      reads = rw e d.reads;
      room = omega (arith, room_left, l.puts.long);
      next = λ {m} {r} {after} {to} x w z. passed m to.0 after x (rw (part_of_places m x, z) at w.is);
      stops = λ {m} {r} {after} {stop} x w z. in_no_row m stop.0 after x w.same (rw (part_of_places m x, z) at w.is);
    }

  pub ended : {i at place : ℕ} {codes : List ℕ} → Left i at place codes → length ps ≤ i → Ended (read (units_of s n) t) 0 before (Ok tt) codes
  ended {i} {at} {place} {codes} l h =
      let e : drop i ps ≡ [] = drop_of_length-le ps {i = i} h in
      let is : read (units_of s n) t ≡ found l.rows = l.is ∙ rw e (join-found l.rows) in
      rw is (record { none = refl; small = l.small; puts = same_place l.puts.behind l.puts })

-- a walk in the places behind the first, or in all of them
pub ended-part : (z : Reading) (codes : List ℕ) (place m : ℕ) (r : Result (Unit {0}) ElementPlace) (after : List ℕ) → place + m ≤ length codes
    → Ended z 0 (take m (drop place codes)) r after → Ended z place codes r (put_mid place m codes after)
ended-part (found cs) codes place m r after h e = record { none = e.none; small = e.small; puts = same_place (omega arith) (part-put codes place m h e.puts) }
ended-part (stopped at) codes place m r after h e = record { is = e.is; same = part-long codes after place m h e.same }

-- ---- the symbologies, by number

-- the sets of a symbology, as the code has them, and the place of its first unit's row
pub record Arm (s : ℕ) (sets : List (List ℕ)) (first : ℕ) : Type 0 where
  pub table : sets ≡ sets_of s
  pub leads : first ≡ lead s

pub tables : (sets39 ≡ sets_of 1) × ((sets39 ≡ sets_of 2) × ((sets_codabar ≡ sets_of 3) × ((sets_industrial ≡ sets_of 4) × ((sets_digits ≡ sets_of 5) × ((sets_digits ≡ sets_of 6) × (sets_ean ≡ sets_of 7))))))
unfolding sets_of
tables = (refl, (refl, (refl, (refl, (refl, (refl, refl))))))

pub by_key : {s k : ℕ} {sets table : List (List ℕ)} → s ≡ k → sets ≡ table → table ≡ sets_of k → Arm s sets (lead k)
by_key e f g = record { table = f ∙ g ∙ ap sets_of (sym e); leads = ap lead (sym e) }

-- an arm for a number and the next
pub by_two : {s k : ℕ} {sets table : List (List ℕ)} → k ≤ s → s ≤ suc k → sets ≡ table → table ≡ sets_of k → table ≡ sets_of (suc k) → lead k ≡ lead (suc k) → Arm s sets (lead k)
by_two {s} {k} {sets} low high e f g l = go (ℕ_discrete s k)
  where
    go : Dec (s ≡ k) → Arm s sets (lead k)
    go (yes q) = by_key q e f
    go (no q) = let n : s ≡ suc k = omega arith in rw l (by_key n e g)

-- the last arm has the two symbologies that are left
pub last : {s : ℕ} {sets : List (List ℕ)} (n : ℕ) → counted s n ≡ true → (1 ≤ s → 8 ≤ s) → sets ≡ sets_ean → Arm s sets 0
unfolding sets_of
last {s} {sets} n c o f =
    by_number (λ s. (1 ≤ s → 8 ≤ s) → Arm s sets 0) (
      λ o. absurd (omega (arith, o (lit≤ tt))),
      (
        λ o. absurd (omega (arith, o (lit≤ tt))),
        (
          λ o. absurd (omega (arith, o (lit≤ tt))),
          (
            λ o. absurd (omega (arith, o (lit≤ tt))),
            (
              λ o. absurd (omega (arith, o (lit≤ tt))),
              (
                λ o. absurd (omega (arith, o (lit≤ tt))),
                (λ o. absurd (omega (arith, o (lit≤ tt))), (λ o. record { table = f; leads = refl }, (λ o. record { table = f; leads = refl }, tt))),
              ),
            ),
          ),
        ),
      ),
    )
    s n c o

module _ {s : ℕ} {sets : List (List ℕ)} {first : ℕ} (a : Arm s sets first) (n : ℕ) where
  -- the places from the first unit's row on are enough
  pub asks : counted s n ≡ true → (k : ℕ) → first + k ≡ places → (sets ≡ sets_of s) × (frees (units_of s n) ≤ k)
  asks c k l = (a.table, omega (arith, rows_few s n c, counted-few s n c, a.leads))

  pub gives : (t before : List ℕ) (r : Result (Unit {0}) ElementPlace) (after : List ℕ) → Ended (read (units_of s n) t) first before r after → Ended (read (units_of s n) t) (lead s) before r after
  gives t before r after e = go (read (units_of s n) t) e
    where
      go : (z : Reading) → Ended z first before r after → Ended z (lead s) before r after
      go z e = rw (← a.leads) e
