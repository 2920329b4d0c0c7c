-- What is seen, as the calls come to it: each return is one law.
--
--   read-sizes                  a row that is read is one of its set (`sizes`, the rows of each free unit's), and behind the last stands none
--   right-digits                EAN-13's right units show digits
--   put-at, put-before, put_small    what stands in places that were empty
--   Stood, stood                what stands in them where no unit is left; stop-seen, 10 where some are
--   is-first, is-none            a first digit, or none
--   given-row, no-first, first-row   a row, and EAN-13's: 11, or its row
--   letters-asks, pairs-asks, first-asks    what each way back asks is met
--   all_seen, row-seen, plain-seen          what is seen by the rows, a way back's row, and one that needs none
--   given_counted               a count that passes is one of the symbology
--   turned-seen, given-seen, refused-seen    1, 2, 9, or what the units show: the row, or 10, 11
--
-- Assumes nothing.
use Rattle.std.proofs.Common.{Result, Ok, Err, Option, ok_or, ltb-false, ◌≡◌, refl, sym, ap, ◌∙◌, Bool, true, false, List, [], ◌∷◌, ◌++◌, ℕ, zero, suc, ◌+◌, ◌*◌, ◌-◌, ◌/◌, ◌%◌, ◌<◌, ◌≤◌, arith, zero-add, eqb, ltb, leb, length, get_or, take, drop, set, length-set, length-take-le, get_or-append-add, get_or-take, get_or-drop, ltb-true, lt-ltb, le-ltb, leb-true, eq-eqb, ne_eqb}
use native.Mathlib.Decide.{dec_lt}
use lib.Dec.{eqb-suc-zero}
use Rattle.std.proofs.lemmas.Bool.{not-false}
use Rattle.std.proofs.lemmas.List.{length-map}
use lib.ListN.{get_or-append, get_or-eq_default}
use Rattle.laws.specs.Search.{pick, some_if, below}
use Rattle.laws.specs.Elements.{find}
use Rattle.laws.specs.Units.{Kind, fixed, free, rows, width, frees, Reading, found, stopped, next, read_at, read}
use Rattle.laws.specs.Spelling.{counted as numbered}
use Rattle.laws.specs.Writing.{Put}
use Rattle.laws.proofs.Finite.{each_at}
use Rattle.laws.proofs.Spelling.{counted-length, same-found, never}
use Rattle.words.specs.declared.Answer.{Answer}
use Rattle.words.specs.declared.Answer.TheVariants.{NoSuchUnit, NoSuchParities}
use Rattle.words.specs.Order.{Check, first_of, Outcome, gives, turned, element_place}
use Rattle.words.proofs.Order.{None, none-on}
use Rattle.tables.specs.Ean.{table52, patterns, odd_rows, even_rows, left_rows, right_rows, first_digit}
use Rattle.symbologies.specs.Sizes.{places}
use Rattle.symbologies.specs.Parts.{Shown, halved, parities_in, side_at}
use Rattle.symbologies.specs.Symbologies.{symbologies, symbology_of}
use Rattle.symbologies.specs.Rows.{count_checks}
use Rattle.symbologies.specs.Strips.{units_of, counted, count_for, chars_of, row_seen}
use Rattle.symbologies.specs.Told.{pad, told, filled_as, judged_count}
use Rattle.symbologies.proofs.Verdicts.{judged-none, judged-turned}
use Rattle.symbologies.proofs.Numbers.{only-seven}
use Rattle.symbologies.proofs.Counted.{counted-few, counted-codabar, counted-even, counted-ean13}
use Rattle.symbologies.proofs.Counting.{drawn-counted}
use Rattle.symbologies.proofs.Held.{length-pad}
use Rattle.words.specs.declared.ElementPlace.{ElementPlace}
use Rattle.reads.specs.Walk.{Ended, lead, shown_in, row_of, row_from, shown, SeenIn}
use Rattle.reads.proofs.Rows.{rows_are, rows_few}
use Rattle.reads.proofs.Characters.{row_is, set_at, plain-shows}

-- ---- the rows of a reading

abbrev sizes : List Kind → List ℕ
sizes [] = []
sizes (fixed r ∷ ks) = sizes ks
sizes (free k ∷ ks) = length k ∷ sizes ks

sizes-long : (ks : List Kind) → length (sizes ks) ≡ frees ks
sizes-long [] = refl
sizes-long (fixed r ∷ ks) = sizes-long ks
sizes-long (free k ∷ ks) = ap suc (sizes-long ks)

one-read : (b : Bool) (k : Kind) (ks : List Kind) (c at : ℕ) (z : Reading) (cs : List ℕ) → ltb c (length (rows k)) ≡ b → next b k c at z ≡ found cs
    → ((ds : List ℕ) → z ≡ found ds → (i : ℕ) → get_or ds i 0 < get_or (sizes ks) i 1) → (i : ℕ) → get_or cs i 0 < get_or (sizes (k ∷ ks)) i 1
one-read false k ks c at z cs l e f = absurd (never at cs e)
one-read true (fixed r) ks c at z cs l e f = f cs e
one-read true (free k) ks c at (stopped p) cs l e f = absurd (never p cs e)
one-read true (free k) ks c at (found ds) cs l e f = λ i. rw (← same-found (c ∷ ds) cs e) (go i)
  where
    go : (i : ℕ) → get_or (c ∷ ds) i 0 < get_or (length k ∷ sizes ks) i 1
    go zero = ltb-true c (length k) l
    go (suc i) = f ds refl i

read-sizes : (ks : List Kind) (cs : List ℕ) (at : ℕ) (t : List ℕ) → read_at ks at t ≡ found cs → (i : ℕ) → get_or cs i 0 < get_or (sizes ks) i 1
read-sizes [] cs at t e = λ i. rw (← same-found [] cs e) (omega arith)
read-sizes (k ∷ ks) cs at t e =
    one-read (ltb (find (rows k) (take (width k) t)) (length (rows k))) k ks (find (rows k) (take (width k) t)) at (read_at ks (at + width k) (drop (width k) t)) cs refl e
    (λ ds. read-sizes ks ds (at + width k) (drop (width k) t))

right-digits : (i : ℕ) → get_or (sizes (units_of 7 13)) (6 + i) 1 ≤ 10
unfolding units_of symbology_of symbologies halved left_rows odd_rows even_rows right_rows patterns table52
right-digits i =
    rw (← get_or-drop 6 (sizes (units_of 7 13)) i 1)
    (leb-true _ 10 (each_at (λ (x : ℕ). leb x 10 ≡ true) (drop 6 (sizes (units_of 7 13))) 1 (refl, (refl, (refl, (refl, (refl, (refl, tt)))))) refl i))

-- ---- what stands in the places

blank : (m i : ℕ) → get_or (pad m []) i 0 ≡ 0
blank zero i = refl
blank (suc m) zero = refl
blank (suc m) (suc i) = blank m i

behind : (cs : List ℕ) (k m i : ℕ) → get_or (cs ++ drop k (pad m [])) i 0 ≡ get_or cs i 0
behind [] k m i = get_or-drop k (pad m []) i 0 ∙ blank m (k + i)
behind (c ∷ cs) k m zero = refl
behind (c ∷ cs) k m (suc i) = behind cs k m i

module _ (m : ℕ) {at next : ℕ} {cs after : List ℕ} (p : Put (pad m []) at cs after next) where
  reach : length (take at (pad m [])) ≡ at
  reach = length-take-le at (pad m []) (omega (arith, p.fits))

  put-at : (i : ℕ) → get_or after (at + i) 0 ≡ get_or cs i 0
  put-at i =
      let front : List ℕ = take at (pad m []) in
      let rest : List ℕ = cs ++ drop (at + length cs) (pad m []) in
      ap (λ (q : List ℕ). get_or q (at + i) 0) p.is ∙ ap (λ (k : ℕ). get_or (front ++ rest) (k + i) 0) (sym reach) ∙ get_or-append-add front rest i 0
      ∙ behind cs (at + length cs) m i

  put-before : (i : ℕ) → i < at → get_or after i 0 ≡ 0
  put-before i h =
      ap (λ (q : List ℕ). get_or q i 0) p.is ∙ get_or-append (take at (pad m [])) _ 0 i (omega (arith, reach)) ∙ get_or-take at (pad m []) i 0 h
      ∙ blank m i

  put_small : ((i : ℕ) → get_or cs i 0 < 100) → (i : ℕ) → get_or after i 0 < 100
  put_small l i = go (dec_lt i at)
    where
      go : Dec (i < at) → get_or after i 0 < 100
      go (yes h) = omega (arith, put-before i h)
      go (no h) = let e : at + (i - at) ≡ i = omega arith in omega (arith, rw e at (put-at (i - at)), l (i - at))

pub record Stood (s n : ℕ) (z : Reading) (after : List ℕ) : Type 0 where
  pub count : counted s n ≡ true
  pub long : length after ≡ places
  pub small : (i : ℕ) → get_or after i 0 < 100
  pub before : (i : ℕ) → i < lead s → get_or after i 0 ≡ 0
  pub below : (i : ℕ) → get_or after (lead s + i) 0 < get_or (sizes (units_of s n)) i 1
  pub is : row_from s n (shown_in s after) ≡ shown s n z

module _ (s n : ℕ) (t before : List ℕ) (w : Result (Unit {0}) ElementPlace) (after : List ℕ) (c : (counted s n ≡ true) × (before ≡ pad places [])) where
  stood-by : (z : Reading) → read (units_of s n) t ≡ z → Ended z (lead s) (pad places []) w after → w ≡ Ok tt → Stood s n z after
  stood-by (found cs) r e h = record {
    count = c.0;
    long = e.puts.long ∙ length-pad places [];
    small = put_small places e.puts e.small;
    before = put-before places e.puts;
    below = λ i. rw (put-at places e.puts i) (read-sizes (units_of s n) cs 0 t r i);
    is = ap (row_from s n) (λ k i. put-at places e.puts i k);
  }
  stood-by (stopped at) r e h = let n : ◌≡◌ {A = ℕ} 0 1 = cc (e.is, h) in absurd (omega arith)

  pub stood : Ended (read (units_of s n) t) (lead s) before w after → w ≡ Ok tt → Stood s n (read (units_of s n) t) after
  stood e = stood-by (read (units_of s n) t) refl (rw c.1 at e)

  stop-by : (z : Reading) (at : ElementPlace) (now : List ℕ) → Ended z (lead s) before w after → w ≡ Err at → SeenIn (shown s n z) n (Err (NoSuchUnit at)) now
  stop-by (found cs) at now e h = let n : ◌≡◌ {A = ℕ} 0 1 = cc (e.none, h) in absurd (omega arith)
  stop-by (stopped place) at now e h = let q : at ≡ element_place place = cc (e.is, h) in cc

  pub stop-seen : (at : ElementPlace) (now : List ℕ) → Ended (read (units_of s n) t) (lead s) before w after → w ≡ Err at
      → SeenIn (shown s n (read (units_of s n) t)) n (Err (NoSuchUnit at)) now
  stop-seen = stop-by (read (units_of s n) t)

-- ---- 11, or the row

module _ (s n : ℕ) (f : Shown) where
  chars-long : length (chars_of s n f) ≡ n
  unfolding chars_of
  chars-long = length-map (numbered 0 n) ((symbology_of s).shows.char n f) ∙ counted-length 0 n

  given-row : (codes : List ℕ) → (symbology_of s).shows.unlike f ≡ false → codes ≡ row_of s n f → SeenIn (row_from s n f) n (Ok tt) codes
  given-row codes u e = rw u (refl, e, chars-long)

-- a first digit, or none
module _ (f : ℕ) {o : Option ℕ} {r : Result ℕ Answer} (is : o ≡ below 10 f) (q : r ≡ ok_or o NoSuchParities) where
  answers : (b : Bool) → ltb f 10 ≡ b → r ≡ ok_or (some_if b f) NoSuchParities
  answers b e = q ∙ rw (is, e)

  pub is-first : {x : ℕ} → r ≡ Ok x → (f ≤ 9) × (f ≡ x)
  is-first {x} h = go (ltb f 10) refl
    where
      go : (b : Bool) → ltb f 10 ≡ b → (f ≤ 9) × (f ≡ x)
      go true e = (omega (arith, ltb-true f 10 e), cc (answers true e, h))
      go false e = let n : ◌≡◌ {A = ℕ} 0 1 = cc (answers false e, h) in absurd (omega arith)

  pub is-none : {x : Answer} → r ≡ Err x → (9 < f) × (NoSuchParities ≡ x)
  is-none {x} h = go (ltb f 10) refl
    where
      go : (b : Bool) → ltb f 10 ≡ b → (9 < f) × (NoSuchParities ≡ x)
      go true e = let n : ◌≡◌ {A = ℕ} 0 1 = cc (answers true e, h) in absurd (omega arith)
      go false e = (omega (arith, ltb-false f 10 e), cc (answers false e, h))

module _ (rows : List ℕ) (bits : ℕ) (is : bits ≡ parities_in (shown_in 7 rows)) where
  like : (b : Bool) → ltb 9 (first_digit bits) ≡ b → (symbology_of 7).shows.unlike (shown_in 7 rows) ≡ b
  unfolding symbology_of symbologies
  like b e = rw (← is) e

  pub no-first : (now : List ℕ) → 9 < first_digit bits → SeenIn (row_from 7 13 (shown_in 7 rows)) 13 (Err NoSuchParities) now
  no-first now l = rw (like true (lt-ltb 9 (first_digit bits) l)) refl

  pub first-row : (codes : List ℕ) → first_digit bits ≤ 9 → ((i : ℕ) → 13 ≤ i → get_or rows i 0 ≡ 0) → length codes ≡ places
      → ((i : ℕ) → get_or codes i 0 ≡ get_or rows i 0 % 10) → SeenIn (row_from 7 13 (shown_in 7 rows)) 13 (Ok tt) (set codes 0 (first_digit bits))
  unfolding symbology_of symbologies
  first-row codes l z long digits =
      given-row 7 13 (shown_in 7 rows) (set codes 0 first) (like false (le-ltb 9 first l))
      (row_is 7 13 (shown_in 7 rows) (set codes 0 first) (length-set codes 0 first ∙ long) (λ j h. entry j) (λ j h. at j ∙ rw (ne_eqb j 0 (omega arith)) (digits j ∙ rw (z j (omega arith)))))
    where
      first : ℕ
      first = first_digit bits

      at : (j : ℕ) → get_or (set codes 0 first) j 0 ≡ pick (eqb j 0) first (get_or codes j 0)
      at j = set_at codes 0 first j (omega arith)

      entry : (j : ℕ) → get_or (set codes 0 first) j 0 ≡ side_at 13 (shown_in 7 rows) j
      entry zero = at zero ∙ ap first_digit is
      entry (suc k) = let e : 1 + (suc k - 1) ≡ suc k = omega arith in at (suc k) ∙ rw (eqb-suc-zero k, e) (digits (suc k))

-- ---- what each way back asks is met, and its row is what is seen

module _ {s n : ℕ} {z : Reading} {after : List ℕ} (p : Stood s n z after) where
  none-behind : (i : ℕ) → lead s + frees (units_of s n) ≤ i → get_or after i 0 ≡ 0
  none-behind i h =
      let q : lead s + (i - lead s) ≡ i = omega arith in
      let f : length (sizes (units_of s n)) ≤ i - lead s = rw sizes-long (omega arith) in
      omega (arith, rw (q, get_or-eq_default (sizes (units_of s n)) 1 f) at (p.below (i - lead s)))

  zeros : (i : ℕ) → n ≤ i → get_or after i 0 ≡ 0
  zeros i h = none-behind i (omega (arith, rows_few s n p.count))

  pub letters-asks : s ≡ 3 → ((2 ≤ n) × ((n ≤ places) × ((i : ℕ) → get_or after i 0 < 100))) × ((i : ℕ) → n ≤ i → get_or after i 0 ≡ 0)
  letters-asks k = ((omega (arith, (counted-codabar n (rw k at p.count)).0), (counted-few s n p.count, p.small)), zeros)

  pub pairs-asks : s ≡ 5 → ((n ≤ places) × (n ≡ 2 * (n / 2))) × ((i : ℕ) → n ≤ i + i → get_or after i 0 ≡ 0)
  pairs-asks k =
      let o : lead s ≡ 0 = rw k in (
        (counted-few s n p.count, counted-even n (rw k at p.count)),
        λ i h. none-behind i (omega (arith, rw (eq-eqb s 5 k) at (rows_are s n p.count))),
      )

  pub thirteen : s ≡ 7 → n ≡ 13
  thirteen k = counted-ean13 n (rw k at p.count)

  pub first-asks : s ≡ 7 → ((i : ℕ) → get_or after i 0 < 100)
      × ((get_or after 0 0 < 10) × (((i : ℕ) → 7 ≤ i → get_or after i 0 < 10) × ((i : ℕ) → 13 ≤ i → get_or after i 0 ≡ 0)))
  first-asks k = (p.small, (omega (arith, p.before 0 (rw k (omega arith))), (right, λ i h. zeros i (omega (arith, thirteen k)))))
    where
      right : (i : ℕ) → 7 ≤ i → get_or after i 0 < 10
      right i h =
          let q : 1 + (6 + (i - 7)) ≡ i = omega arith in
          let b : get_or after (1 + (6 + (i - 7))) 0 < get_or (sizes (units_of 7 13)) (6 + (i - 7)) 1 = rw (k, thirteen k) at (p.below (6 + (i - 7))) in
          omega (arith, right-digits (i - 7), rw q at b)

  -- an outcome by the rows is the one that is seen
  pub all_seen : (k m : ℕ) → s ≡ k → n ≡ m → (r : Result (Unit {0}) Answer) (codes : List ℕ) → SeenIn (row_from k m (shown_in k after)) m r codes → SeenIn (shown s n z) n r codes
  all_seen k m q h r codes e = rw (← p.is, q, h) e

  pub row-seen : (k : ℕ) → s ≡ k → (k ≡ 7 → ⊥) → (codes : List ℕ) → codes ≡ row_of k n (shown_in k after) → SeenIn (shown s n z) n (Ok tt) codes
  row-seen k q h codes e = all_seen k n q refl (Ok tt) codes (given-row k n (shown_in k after) codes (only-seven k h (shown_in k after)) e)

  pub plain-seen : (s ≡ 3 → ⊥) → (s ≡ 5 → ⊥) → (s ≡ 7 → ⊥) → SeenIn (shown s n z) n (Ok tt) after
  plain-seen a b h =
      row-seen s refl h after (row_is s n (shown_in s after) after p.long (λ j k. rw (plain-shows s a b h, ne_eqb s 7 h, zero-add)) zeros)

-- ---- 1, 2, 9, or what the units show

pub given_counted : (s m n : ℕ) → judged_count s m n ≡ Ok tt → counted s n ≡ true
unfolding judged_count
given_counted s m n e =
    let q : None (count_checks (symbology_of s) m n) = judged-none (count_checks (symbology_of s) m n) e in
    drawn-counted s m n (not-false _ q.1.0) (not-false _ q.1.1.0)

-- an outcome in the places is the same in the row
seen-told : (o : Outcome) (n : ℕ) (codes : List ℕ) → SeenIn o n (Ok tt) codes → filled_as (Ok tt) (record { codes = codes; len = n }) ≡ told o
seen-told (gives cs) n codes e = rw (e.1, ← e.2)
seen-told (turned a) n codes e = let n : ◌≡◌ {A = ℕ} 0 1 = cc in absurd (omega arith)

turned-told : (o : Outcome) (n : ℕ) (x : Answer) (codes : List ℕ) → SeenIn o n (Err x) codes → told (turned x) ≡ told o
turned-told (gives cs) n x codes e = let n : ◌≡◌ {A = ℕ} 0 1 = cc (e.0) in absurd (omega arith)
turned-told (turned a) n x codes e = let q : x ≡ a = cc in rw q

module _ (s m : ℕ) (t : List ℕ) (n : ℕ) (is : n ≡ count_for s (length t)) where
  seen-behind : row_seen s m t ≡ first_of turned (count_checks (symbology_of s) m n) (shown s n (read (units_of s n) t))
  unfolding row_seen
  seen-behind = rw is

  pub turned-seen : (x : Answer) → judged_count s m n ≡ Err x → told (turned x) ≡ told (row_seen s m t)
  unfolding judged_count
  turned-seen x e = ap told (sym (seen-behind ∙ judged-turned turned (count_checks (symbology_of s) m n) x _ e))

  seen_is : judged_count s m n ≡ Ok tt → shown s n (read (units_of s n) t) ≡ row_seen s m t
  unfolding judged_count
  seen_is e =
      let cs : List Check = count_checks (symbology_of s) m n in
      sym (seen-behind ∙ none-on turned cs _ (judged-none cs e))

  pub given-seen : (codes : List ℕ) → judged_count s m n ≡ Ok tt → SeenIn (shown s n (read (units_of s n) t)) n (Ok tt) codes
      → filled_as (Ok tt) (record { codes = codes; len = n }) ≡ told (row_seen s m t)
  given-seen codes e h = seen-told (shown s n (read (units_of s n) t)) n codes h ∙ ap told (seen_is e)

  pub refused-seen : (x : Answer) (codes : List ℕ) → judged_count s m n ≡ Ok tt → SeenIn (shown s n (read (units_of s n) t)) n (Err x) codes
      → told (turned x) ≡ told (row_seen s m t)
  refused-seen x codes e h = turned-told (shown s n (read (units_of s n) t)) n x codes h ∙ ap told (seen_is e)
