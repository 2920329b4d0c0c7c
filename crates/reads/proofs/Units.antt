-- What the code finds at a place of a strip is what reading the units there says: one unit behind its gap, many like units, a mark.
--
--   mark-few, mark-small, unit-seekable  what the code asks of a mark, and of a description that is readable
--   mark-read       a mark, and then the rest
--   went, unit-read a unit, and then the rest, by what is sought there
--   Walks, walks    many units: all are passed, or the one at a place is in no row
--   part-stops, part-goes    so a part, by its mark
--
-- Assumes nothing.
use Rattle.std.proofs.Common.{Result, Ok, Err, ◌≡◌, refl, sym, ap, ◌∙◌, ◌≢◌, Bool, true, false, ◌&&◌, List, [], ◌∷◌, ◌++◌, map, append_assoc, ℕ, zero, suc, ◌+◌, ◌*◌, ◌-◌, ◌/◌, ◌%◌, ◌<◌, ◌≤◌, arith, not-suc-le-zero, le_of_suc-le-suc, eqb, ltb, leb, length, get_or, take, drop, set, length-set, length-drop, length-take, drop-drop, take_all, get_or-take, get_or-drop, eqb-true, ne_eqb, ltb-true, ltb-false, le-ltb, leb-true, leb-false}
use native.Mathlib.Decide.{dec_lt}
use Rattle.std.proofs.lemmas.Bool.{eqb-false}
use Rattle.std.proofs.lemmas.List.{length-map}
use lib.ListN.{get_or-eq_default}
use lib.Seq.{drop-nil}
use Rattle.laws.specs.Search.{pick, upto}
use Rattle.laws.specs.Elements.{alike, find}
use Rattle.laws.specs.Units.{Kind, fixed, free, width, Reading, stopped, push, next, read_at}
use Rattle.laws.specs.Shapes.{many}
use Rattle.laws.specs.Spelling.{counted}
use Rattle.laws.proofs.Finite.{both_left, both_right}
use Rattle.laws.proofs.Elements.{alike-true, find-hit, stretch-long}
use Rattle.laws.proofs.Spelling.{counted-length}
use Rattle.laws.proofs.Writing.{none, one, then, same_place}
use Rattle.tables.specs.Bits.{weave}
use Rattle.shapes.specs.declared.parts.Mark.{Mark}
use Rattle.shapes.specs.declared.parts.Unit.{Unit}
use Rattle.shapes.specs.declared.parts.Part.{Part as Line}
use Rattle.shapes.specs.Sets.{low, bytes, row_of, word_at}
use Rattle.shapes.specs.Searched.{every_second, seen, digit_in, found_by, few, ten_of, row_by, pair_by, shown_by, seekable, own, padding, row_reads, unit_reads, mark_reads}
use Rattle.shapes.specs.Described.{gap_in, mark_in, row_in, unit_in, readable}
use Rattle.shapes.proofs.Words.{row-length, pair-length}
use Rattle.search.proofs.Found.{Bytes, mark-found, unit-found, few-rows}
use Rattle.search.specs.declared.seek.Marked.{Marked}
use Rattle.search.specs.declared.seek.Sought.{Sought}
use Rattle.words.specs.declared.ElementPlace.{ElementPlace}
use Rattle.search.specs.Sought.{parted_at, behind, marked, mark_in as mark_at, mark_of, among_at, nowhere, pair_in, rows_in, sought_in, sought_behind, sought_of, found_of}
use Rattle.reads.specs.Walk.{Run, stop, walk_by, PartEnds, part_kinds, PartRead}

-- ---- one row, and the parting space

fixed-read : (r : List ℕ) (k : ℕ) → length r ≡ k → (rest : List Kind) (t : List ℕ) (at : ℕ)
    → read_at (fixed r ∷ rest) at (drop at t) ≡ pick (alike r (take k (drop at t))) (read_at rest (at + k) (drop (at + k) t)) (stopped at)
fixed-read r k l rest t at = rw (l, drop-drop k at t) (step (alike r (take k (drop at t))) (read_at rest (at + k) (drop (at + k) t)))
  where
    step : (b : Bool) (z : Reading) → next (ltb (pick b 0 1) 1) (fixed r) (pick b 0 1) at z ≡ pick b z (stopped at)
    step true z = refl
    step false z = refl

narrow : (x : ℕ) (b : Bool) → eqb x 1 ≡ b → (eqb 1 x && true) ≡ b
narrow x true e = rw (eqb-true x 1 e) refl
narrow x false e = rw (ne_eqb 1 x (λ h. eqb-false x 1 e (sym h))) refl

space : (t : List ℕ) (at : ℕ) → alike (1 ∷ []) (take 1 (drop at t)) ≡ eqb (get_or t at 0) 1
space [] at = rw (drop-nil {A = ℕ} at) refl
space (x ∷ t) zero = narrow x (eqb x 1) refl
space (x ∷ t) (suc at) = space t at

gap-read : (g : Bool) (rest : List Kind) (t : List ℕ) (at : ℕ)
    → read_at (gap_in g ++ rest) at (drop at t) ≡ pick (parted_at g t at) (read_at rest (behind g at) (drop (behind g at) t)) (stopped at)
gap-read true rest t at = fixed-read (1 ∷ []) 1 refl rest t at ∙ ap (λ (b : Bool). pick b (read_at rest (at + 1) (drop (at + 1) t)) (stopped at)) (space t at)
gap-read false rest t at = refl

-- elements that pass the strip's end are too few for a row
short : (t : List ℕ) (at k : ℕ) → leb (at + k) (length t) ≡ false → 0 < k → length (take k (drop at t)) ≡ k → ⊥
short t at k e h l = omega (arith, leb-false (at + k) (length t) e, length-take k (drop at t), length-drop at t)

-- ---- a unit's rows

every_second-odd : (k : ℕ) (xs : List ℕ) → every_second (take (suc (k + k)) xs) ≡ every_second (take (suc (suc (k + k))) xs)
every_second-odd k [] = refl
every_second-odd zero (x ∷ []) = refl
every_second-odd zero (x ∷ y ∷ xs) = refl
every_second-odd (suc k) (x ∷ []) =
    let e : suc k + suc k ≡ suc (suc (k + k)) = omega arith in
    rw e refl
every_second-odd (suc k) (x ∷ y ∷ xs) =
    let e : suc k + suc k ≡ suc (suc (k + k)) = omega arith in
    rw e (ap (λ (l : List ℕ). x ∷ l) (every_second-odd k xs))

rows_long : (f : ℕ → List ℕ) (k : ℕ) → ((c : ℕ) → length (f c) ≡ k) → (cs : List ℕ) (i : ℕ) → i < length cs → length (get_or (map f cs) i []) ≡ k
rows_long f k h [] i l = absurd (not-suc-le-zero l)
rows_long f k h (c ∷ cs) zero l = h c
rows_long f k h (c ∷ cs) (suc i) l = rows_long f k h cs i (le_of_suc-le-suc l)

own-some : (k w : ℕ) → own k w ≡ true → 0 < k
own-some zero w e =
    let z : 0 ≡ w = eqb-true 0 w (both_left (eqb 0 w) _ e) in
    let f : ◌≡◌ {A = Bool} false true = rw (← z) at (both_right (eqb 0 w) _ e) in
    let n : ◌≡◌ {A = ℕ} 0 1 = cc in
    omega arith
own-some (suc k) w e = omega arith

upto-some : {P : Type 0} (n : ℕ) (test : ℕ → Bool) → 0 < n → upto n test ≡ true → ((i : ℕ) → test i ≡ true → P) → P
upto-some zero test h e f = absurd (not-suc-le-zero h)
upto-some (suc n) test h e f = f n (both_left (test n) (upto n test) e)

-- what is sought at a place, against a number that is found
record Sees (sets : List (List ℕ)) (q : Sought) (at k f : ℕ) : Type 0 where
  pub is : found_of sets q ≡ f
  pub here : q.at.0 ≡ at
  pub past : f ≢ 0 → q.next.0 ≡ at + k

-- one unit, and then the rest
abbrev pub went : List (List ℕ) → Sought → (ℕ → Reading) → Reading
went sets q rest = pick (eqb (found_of sets q) 0) (stopped q.at.0) (push (found_of sets q - 1) (rest q.next.0))

sees-went : (sets : List (List ℕ)) (q : Sought) (at k c : ℕ) (b : Bool) (rest : ℕ → Reading) → Sees sets q at k (pick b (suc c) 0)
    → pick b (push c (rest (at + k))) (stopped at) ≡ went sets q rest
sees-went sets q at k c true rest s =
    let e : suc c - 1 ≡ c = omega arith in
    let f : eqb (suc c) 0 ≡ false = ne_eqb (suc c) 0 (omega arith) in
    rw (s.is, s.past (omega arith), e, f) refl
sees-went sets q at k c false rest s = rw (s.is, s.here) refl

module _ (sets : List (List ℕ)) (u : Unit) (reads : unit_reads sets u ≡ true) where
  abbrev rows : List (List ℕ)
  rows = map (row_in sets u) (counted 0 u.size)

  -- the number of the row that the elements at a place are
  abbrev shown : List ℕ → ℕ → ℕ
  shown t at = find rows (take u.elements (drop at t))

  few-elements : u.elements ≤ 10
  few-elements = leb-true u.elements 10 (both_left (leb u.elements 10) _ (both_left (seekable (length sets) u) _ reads))

  row-long : (c : ℕ) → length (row_in sets u c) ≡ u.elements
  row-long c = go (ltb u.elements 10) refl
    where
      go : (b : Bool) → ltb u.elements 10 ≡ b → length (pick b (row_of u.elements (word_at sets u.set c)) (weave (bytes 5 (word_at sets u.set (c / 10))) (bytes 5 (word_at sets u.set (c % 10))))) ≡ u.elements
      go true e = row-length u.elements (word_at sets u.set c) (omega (arith, ltb-true u.elements 10 e))
      go false e = omega (arith, few-elements, ltb-false u.elements 10 e, pair-length (word_at sets u.set (c / 10)) (word_at sets u.set (c % 10)))

  many-rows : length rows ≡ u.size
  many-rows = length-map (counted 0 u.size) (row_in sets u) ∙ counted-length 0 u.size

  each_long : (i : ℕ) → i < u.size → length (get_or rows i []) ≡ u.elements
  each_long i h = rows_long (row_in sets u) u.elements row-long (counted 0 u.size) i (rw (counted-length 0 u.size) h)

  some-elements : 0 < u.size → 0 < u.elements
  some-elements h = go (ltb u.elements 10) refl
    where
      go : (b : Bool) → ltb u.elements 10 ≡ b → 0 < u.elements
      go true e =
          let r = rw e at (both_right (seekable (length sets) u) _ reads) in
          upto-some u.size (row_reads sets u) h (both_left (upto u.size (row_reads sets u)) _ (both_left (upto u.size (row_reads sets u) && upto (padding u) _) _ r))
          (λ i q. own-some u.elements (word_at sets u.set i) (both_left (own u.elements (word_at sets u.set i)) _ q))
      go false e = omega (arith, ltb-false u.elements 10 e)

  free-read : (rest : List Kind) (t : List ℕ) (at : ℕ)
      → read_at (free rows ∷ rest) at (drop at t)
      ≡ pick (ltb (shown t at) u.size) (push (shown t at) (read_at rest (at + u.elements) (drop (at + u.elements) t))) (stopped at)
  free-read rest t at = go (dec_lt 0 u.size)
    where
      by : ℕ → Reading
      by w = next (ltb (find rows (take w (drop at t))) (length rows)) (free rows) (find rows (take w (drop at t))) at (read_at rest (at + w) (drop w (drop at t)))

      step : (b : Bool) (c : ℕ) (z : Reading) → next b (free rows) c at z ≡ pick b (push c z) (stopped at)
      step true c z = refl
      step false c z = refl

      go : Dec (0 < u.size) → by (width (free rows))
          ≡ pick (ltb (shown t at) u.size) (push (shown t at) (read_at rest (at + u.elements) (drop (at + u.elements) t))) (stopped at)
      go (yes h) = ap by (each_long 0 h) ∙ rw (many-rows, drop-drop u.elements at t) (step (ltb (shown t at) u.size) _ _)
      go (no h) =
          let e : (c : ℕ) → ltb c u.size ≡ false = λ c. le-ltb c u.size (omega arith) in
          rw (many-rows, e (find rows (take (width (free rows)) (drop at t))), e (shown t at)) refl

  -- past the strip's end no row is alike
  no_row : (t : List ℕ) (at : ℕ) → leb (at + u.elements) (length t) ≡ false → ltb (shown t at) u.size ≡ false
  no_row t at e = go (ltb (shown t at) u.size) refl
    where
      go : (b : Bool) → ltb (shown t at) u.size ≡ b → b ≡ false
      go true f =
          let h : shown t at < u.size = ltb-true (shown t at) u.size f in
          let g : get_or rows (shown t at) [] ≡ take u.elements (drop at t) = find-hit rows (take u.elements (drop at t)) (rw many-rows h) in
          absurd (short t at u.elements e (some-elements (omega arith)) (sym (ap length g) ∙ each_long (shown t at) h))
      go false f = refl

  sought-in : (xs : List ℕ) (at : ℕ) → length xs ≡ u.elements → Sees sets (sought_in sets u xs at) at u.elements (shown_by sets u xs)
  unfolding sought_in
  sought-in xs at l = go (ltb u.elements 10) refl
    where
      w : ℕ
      w = seen u.elements xs

      by_rows : (b : Bool) → Sees sets (pick b (among_at at u.elements w u.set ((u.size + 9) / 10) 0) (among_at at u.elements w (u.set + ten_of w) 1 (10 * ten_of w))) at u.elements
          (pick b (found_by sets u.set 0 w ((u.size + 9) / 10) 0) (found_by sets (u.set + ten_of w) (10 * ten_of w) w 1 0))
      by_rows true = record { is = refl; here = refl; past = λ n. refl }
      by_rows false = record { is = refl; here = refl; past = λ n. refl }

      by-pair : (a d : ℕ) (b : Bool) → Sees sets (pick b (nowhere at) (among_at at 10 a u.set 1 (10 * (d - 1)))) at 10 (pick b 0 (found_by sets u.set (10 * (d - 1)) a 1 0))
      by-pair a d true = record { is = refl; here = refl; past = λ n. absurd (n refl) }
      by-pair a d false = record { is = refl; here = refl; past = λ n. refl }

      go : (b : Bool) → ltb u.elements 10 ≡ b
          → Sees sets (pick (ltb 9 u.elements) (pair_in sets u.set xs at) (rows_in u w at)) at u.elements (pick b (row_by sets u w) (pair_by sets u (low (every_second xs)) (low (every_second (drop 1 xs)))))
      go true e = rw (le-ltb 9 u.elements (omega (arith, ltb-true u.elements 10 e))) (by_rows (leb u.size few))
      go false e =
          let k : u.elements ≡ 10 = omega (arith, few-elements, ltb-false u.elements 10 e) in
          let o : every_second (take 9 xs) ≡ every_second xs = every_second-odd 4 xs ∙ ap every_second (take_all 10 xs (omega arith)) in
          rw (k, o) (by-pair (low (every_second (drop 1 xs))) (digit_in sets u.set (low (every_second xs))) (eqb (digit_in sets u.set (low (every_second xs))) 0))

-- ---- what the code asks

pub mark-few : (m : Mark) → mark_reads m ≡ true → m.elements ≤ 9
mark-few m h = go (eqb m.elements 0) refl
  where
    go : (z : Bool) → eqb m.elements 0 ≡ z → m.elements ≤ 9
    go true e = omega (arith, eqb-true m.elements 0 e)
    go false e =
        let s : (leb m.elements 9 && own m.elements m.word) ≡ true = rw e at h in
        leb-true m.elements 9 (both_left (leb m.elements 9) _ s)

pub mark-small : (sets : List (List ℕ)) (p : Line) → readable sets p ≡ true → p.mark.elements ≤ 9
mark-small sets p h = mark-few p.mark (both_left (mark_reads p.mark) _ h)

pub unit-seekable : (sets : List (List ℕ)) (p : Line) → readable sets p ≡ true → seekable (length sets) p.unit ≡ true
unit-seekable sets p h = both_left (seekable (length sets) p.unit) _ (both_right (mark_reads p.mark) _ h)

module _ (t : List ℕ) (b : Bytes t) where
  stretch-bytes : (k at : ℕ) → Bytes (take k (drop at t))
  stretch-bytes k at i = go (dec_lt i k)
    where
      go : Dec (i < k) → get_or (take k (drop at t)) i 0 < 256
      go (yes h) = rw (get_or-take k (drop at t) i 0 h, get_or-drop at t i 0) (b (at + i))
      go (no h) = rw (get_or-eq_default (take k (drop at t)) 0 {n = i} (omega (arith, length-take k (drop at t)))) (omega arith)

  -- ---- a mark

  pub mark-read : (m : Mark) → mark_reads m ≡ true → (rest : List Kind) (at : ℕ)
      → read_at (mark_in m ++ rest) at (drop at t)
      ≡ pick (mark_of m t at).stands (read_at rest (mark_of m t at).next.0 (drop (mark_of m t at).next.0 t)) (stopped (mark_of m t at).at.0)
  unfolding mark_of
  mark-read m h rest at = go (eqb m.elements 0) refl
    where
      r : List ℕ
      r = row_of m.elements m.word

      p : ℕ
      p = behind m.gap at

      to : Marked → Reading
      to q = pick q.stands (read_at rest q.next.0 (drop q.next.0 t)) (stopped q.at.0)

      row : length r ≡ m.elements
      row = row-length m.elements m.word (mark-few m h)

      unlike : (at : ℕ) → leb (at + m.elements) (length t) ≡ false → eqb m.elements 0 ≡ false → (a : Bool) → alike r (take m.elements (drop at t)) ≡ a → a ≡ false
      unlike at e n true f =
          absurd (short t at m.elements e (omega (arith, eqb-false m.elements 0 n)) (sym (ap length (alike-true r (take m.elements (drop at t)) f)) ∙ row))
      unlike at e n false f = refl

      here : (at : ℕ) (a : Bool) → leb (at + m.elements) (length t) ≡ a → eqb m.elements 0 ≡ false
          → pick (alike r (take m.elements (drop at t))) (read_at rest (at + m.elements) (drop (at + m.elements) t)) (stopped at)
          ≡ to (pick a (marked at (at + m.elements) (eqb (seen m.elements (take m.elements (drop at t))) m.word)) (marked at at false))
      here at true e n = rw (mark-found m (take m.elements (drop at t)) h n (stretch-long t at m.elements (leb-true _ _ e)) (stretch-bytes m.elements at)) refl
      here at false e n = rw (unlike at e n (alike r (take m.elements (drop at t))) refl) refl

      parts : (g : Bool) → eqb m.elements 0 ≡ false
          → pick g (read_at (fixed r ∷ rest) p (drop p t)) (stopped at) ≡ to (pick g (mark_at m t p) (marked at at false))
      parts true n = fixed-read r m.elements row rest t p ∙ here p (leb (p + m.elements) (length t)) refl n
      parts false n = refl

      go : (z : Bool) → eqb m.elements 0 ≡ z → read_at (pick z [] (gap_in m.gap ++ (fixed r ∷ [])) ++ rest) at (drop at t)
          ≡ to (pick z (marked at at true) (pick (parted_at m.gap t at) (mark_at m t p) (marked at at false)))
      go true e = refl
      go false e = rw (append_assoc (gap_in m.gap) (fixed r ∷ []) rest) (gap-read m.gap (fixed r ∷ rest) t at ∙ parts (parted_at m.gap t at) e)

  -- ---- units

  module _ (sets : List (List ℕ)) (u : Unit) (reads : unit_reads sets u ≡ true) where
    sees : (at : ℕ) → Sees sets (sought_behind sets u t at) at u.elements (pick (ltb (shown sets u reads t at) u.size) (suc (shown sets u reads t at)) 0)
    sees at = go (leb (at + u.elements) (length t)) refl
      where
        xs : List ℕ
        xs = take u.elements (drop at t)

        go : (a : Bool) → leb (at + u.elements) (length t) ≡ a
            → Sees sets (pick a (sought_in sets u xs at) (nowhere at)) at u.elements (pick (ltb (shown sets u reads t at) u.size) (suc (shown sets u reads t at)) 0)
        go true e =
            let l : length xs ≡ u.elements = stretch-long t at u.elements (leb-true _ _ e) in
            rw (← unit-found sets u xs reads l (stretch-bytes u.elements at)) (sought-in sets u reads xs at l)
        go false e = rw (no_row sets u reads t at e) (record { is = refl; here = refl; past = λ n. absurd (n refl) })

    pub unit-read : (rest : List Kind) (at : ℕ)
        → read_at (unit_in sets u ++ rest) at (drop at t) ≡ went sets (sought_of sets u t at) (λ next. read_at rest next (drop next t))
    unfolding sought_of
    unit-read rest at =
        rw (append_assoc (gap_in u.gap) (free (rows sets u reads) ∷ []) rest) (gap-read u.gap (free (rows sets u reads) ∷ rest) t at ∙ go (parted_at u.gap t at))
      where
        p : ℕ
        p = behind u.gap at

        go : (a : Bool) → pick a (read_at (free (rows sets u reads) ∷ rest) p (drop p t)) (stopped at)
            ≡ went sets (pick a (sought_behind sets u t p) (nowhere at)) (λ next. read_at rest next (drop next t))
        go true = free-read sets u reads rest t p ∙ sees-went sets (sought_behind sets u t p) p u.elements (shown sets u reads t p) (ltb (shown sets u reads t p) u.size) (λ next. read_at rest next (drop next t)) (sees p)
        go false = refl

    small : (at : ℕ) → found_of sets (sought_of sets u t at) ≤ 100
    unfolding sought_of
    small at = go (parted_at u.gap t at)
      where
        p : ℕ
        p = behind u.gap at

        low-one : (a : Bool) → ltb (shown sets u reads t p) u.size ≡ a → pick a (suc (shown sets u reads t p)) 0 ≤ 100
        low-one true e = omega (arith, ltb-true (shown sets u reads t p) u.size e, few-rows sets u reads)
        low-one false e = omega arith

        go : (a : Bool) → found_of sets (pick a (sought_behind sets u t p) (nowhere at)) ≤ 100
        go true = rw (sees p).is (low-one (ltb (shown sets u reads t p) u.size) refl)
        go false = omega arith

    pub record Walks (n at j : ℕ) (codes : List ℕ) (run : Run) : Type 0 where
      pub same : length run.codes ≡ length codes
      pub is : PartEnds (many n (unit_in sets u)) t at j n codes run.codes run.walked

    one_more : (n at j : ℕ) (codes : List ℕ) (run : Run) (a : Bool) → j < length codes → eqb (found_of sets (sought_of sets u t at)) 0 ≡ a
        → Walks n (sought_of sets u t at).next.0 (j + 1) (set codes j ((found_of sets (sought_of sets u t at) - 1) % 256)) run
        → Walks (suc n) at j codes (pick a (stop (sought_of sets u t at).at.0 codes) run)
    one_more n at j codes run true h e w = record { same = refl; is = λ rest. unit-read (many n (unit_in sets u) rest) at ∙ rw e refl }
    one_more n at j codes run false h e w = record { same = w.same ∙ length-set codes j (c % 256); is = on run.walked w.is }
      where
        c : ℕ
        c = found_of sets (sought_of sets u t at) - 1

        below : c < 100
        below = omega (arith, small at, eqb-false (found_of sets (sought_of sets u t at)) 0 e)

        lows : (cs : List ℕ) → ((i : ℕ) → get_or cs i 0 < 100) → (i : ℕ) → get_or (c ∷ cs) i 0 < 100
        lows cs s zero = below
        lows cs s (suc i) = s i

        on : (r : Result ElementPlace ElementPlace) → PartEnds (many n (unit_in sets u)) t (sought_of sets u t at).next.0 (j + 1) n (set codes j (c % 256)) run.codes r
            → PartEnds (many (suc n) (unit_in sets u)) t at j (suc n) codes run.codes r
        on (Ok to) p =
            let byte : c % 256 ≡ c = omega (arith, below) in
            record {
              rows = c ∷ p.rows;
              long = ap suc p.long;
              small = lows p.rows p.small;
              is = λ rest. unit-read (many n (unit_in sets u) rest) at ∙ rw (e, p.is rest) refl;
              puts = same_place (omega arith) (then (one codes j c h) (rw byte at p.puts));
            }
        on (Err place) f = λ rest. unit-read (many n (unit_in sets u) rest) at ∙ rw (e, f rest) refl

    pub walks : (n at j : ℕ) (codes : List ℕ) → j + n ≤ length codes → Walks n at j codes (walk_by sets u t n at j codes)
    walks zero at j codes h = record {
      same = refl;
      is = record { rows = []; long = refl; small = λ i. omega arith; is = λ rest. refl; puts = same_place (omega arith) (none codes j (omega arith)) };
    }
    walks (suc n) at j codes h =
        one_more n at j codes _ (eqb (found_of sets (sought_of sets u t at)) 0) (omega arith) refl
        (walks n (sought_of sets u t at).next.0 (j + 1) (set codes j ((found_of sets (sought_of sets u t at) - 1) % 256)) (rw length-set (omega arith)))

  -- ---- a part

  module _ (sets : List (List ℕ)) (p : Line) (k at first : ℕ) (codes : List ℕ) (h : readable sets p ≡ true) (m : Marked) (f : m ≡ mark_of p.mark t at) where
    go_on : (rest : List Kind) → read_at (part_kinds sets p k rest) at (drop at t)
        ≡ pick m.stands (read_at (many k (unit_in sets p.unit) rest) m.next.0 (drop m.next.0 t)) (stopped m.at.0)
    go_on rest = rw f (mark-read p.mark (both_left (mark_reads p.mark) _ h) (many k (unit_in sets p.unit) rest) at)

    pub part-stops : m.stands ≡ false → PartRead sets p k t at first codes (Err m.at) codes
    part-stops e = record { same = refl; is = λ rest. go_on rest ∙ rw e refl }

    pub part-goes : first + k ≤ length codes → m.stands ≡ true → (r : Result ElementPlace ElementPlace) (after : List ℕ)
        → r ≡ (walk_by sets p.unit t k m.next.0 first codes).walked → after ≡ (walk_by sets p.unit t k m.next.0 first codes).codes
        → PartRead sets p k t at first codes r after
    part-goes l e r after x y =
        let w = walks sets p.unit (both_right (mark_reads p.mark) _ h) k m.next.0 first codes l in
        rw (x, y) (record { same = w.same; is = by _ (walk_by sets p.unit t k m.next.0 first codes).walked w.is })
      where
        on : (rest : List Kind) → read_at (part_kinds sets p k rest) at (drop at t) ≡ read_at (many k (unit_in sets p.unit) rest) m.next.0 (drop m.next.0 t)
        on rest = go_on rest ∙ rw e refl

        by : (now : List ℕ) (r : Result ElementPlace ElementPlace) → PartEnds (many k (unit_in sets p.unit)) t m.next.0 first k codes now r
            → PartEnds (part_kinds sets p k) t at first k codes now r
        by now (Ok to) q = record { rows = q.rows; long = q.long; small = q.small; is = λ rest. on rest ∙ q.is rest; puts = q.puts }
        by now (Err place) f = λ rest. on rest ∙ f rest
