-- Refusals that belong to one symbology: document 01's table words 5 for Interleaved, 6 and 12 for full ASCII and 11 for EAN-13, and no
-- other symbology gets them; and 13 belongs to job records. (Reading has no 5, 6 and 13, and drawing no 11 and 12: Order.antt, the lists'
-- numbers.)
--
--   five-alone       drawing answers 5 in Interleaved alone: elsewhere no even count is asked for
--   six-alone        drawing answers 6 in full ASCII alone: elsewhere a byte draws one character, so the drawn ones fit the room
--   no-thirteen      plain data never get 13: no byte stands behind them
--   eleven-alone     reading answers 11 in EAN-13 alone
--   twelve-alone     reading answers 12 in full ASCII alone: elsewhere each character that a strip shows is drawn by a byte
--
-- Assumes nothing.
use Rattle.std.proofs.Common.{◌≡◌, refl, sym, ◌∙◌, ◌≢◌, Bool, true, false, ◌&&◌, List, [], ◌∷◌, ℕ, zero, suc, ◌+◌, ◌-◌, ◌<◌, ◌≤◌, arith, eqb, ltb, leb, length, take, length-take-le, eq-eqb, ne_eqb, ltb-true, lt-ltb, leb-true}
use native.Mathlib.Decide.{ℕ_discrete}
use Rattle.std.proofs.lemmas.Bool.{not-false}
use Rattle.laws.specs.Search.{pick}
use Rattle.laws.specs.Units.{Reading, found, stopped}
use Rattle.laws.specs.Spelling.{Place, ends, stands, is_end, fitting, Coder, spell, byte_for, gave, unspell}
use Rattle.laws.specs.Rules.{checked_of}
use Rattle.laws.proofs.Finite.{both_left, both_right}
use Rattle.laws.proofs.Spelling.{spell-same, below_split}
use Rattle.laws.proofs.Rules.{checked-long}
use Rattle.words.specs.Said.{said_of}
use Rattle.words.specs.Order.{gives, turned}
use Rattle.words.proofs.Order.{none-on, Reached, first-reached, hit}
use Rattle.tables.specs.Alphabet.{size}
use Rattle.tables.specs.Code39.{chars39, alphabet39}
use Rattle.tables.specs.Codabar.{table41, alphabet_codabar}
use Rattle.tables.specs.TwoOfFive.{table44, alphabet_digits}
use Rattle.symbologies.specs.Limits.{offered, holds, added}
use Rattle.symbologies.specs.Coders.{plain, codabar_coder}
use Rattle.symbologies.specs.Symbologies.{Symbology, symbologies, symbology_of}
use Rattle.symbologies.specs.Rows.{stops, stop_at, finds, spelled, row_drawn, chars_read, unspelled}
use Rattle.symbologies.specs.Strips.{all_allowed, ready, rows_read, row_read, seen_checks, row_seen}
use Rattle.symbologies.proofs.Coders.{byte_small, Single, alone39, alone-digits, placed-in, alone-codabar}
use Rattle.symbologies.proofs.Asked.{Counts}
use Rattle.symbologies.proofs.Numbers.{Digits, others, only-five, only-seven}
use Rattle.symbologies.proofs.Proper.{proper, single, last-place}
use Rattle.symbologies.proofs.Undo.{held, empty-rest}
use Rattle.symbologies.proofs.Ready.{ready-counted, ready-allowed, below-allowed, ready-below, no-codabar}
use Rattle.symbologies.proofs.Counted.{counted-some}
use Rattle.symbologies.proofs.Plain.{chars-front}
use Rattle.symbologies.proofs.Exact.{seen-drawn}
use Rattle.strip.specs.Drawing.{draw_field, drawing_checks, drawn_answer}
use Rattle.strip.specs.Reading.{read_strip, reading_checks, handed_answer}
use Rattle.strip.proofs.Order.{draw-first, read_first}

-- ---- drawing

-- outside full ASCII there are no more characters than bytes
spelled-few : (k : Coder) → Single k → (d : List ℕ) → length (finds (spell k true 0 d)) ≤ length d
spelled-few k u d = go (spell k true 0 d) refl
  where
    go : (z : Reading) → spell k true 0 d ≡ z → length (finds z) ≤ length d
    go (found h) e = omega (arith, spell-same k u d h true 0 e)
    go (stopped i) e = omega arith

-- and the check that mode 2 adds
row-few : (s m : ℕ) (h : List ℕ) → length (pick (eqb m 2) (checked_of (symbology_of s).rule h) h) ≤ length h + added m
row-few s m h = go (ℕ_discrete m 2)
  where
    go : Dec (m ≡ 2) → length (pick (eqb m 2) (checked_of (symbology_of s).rule h) h) ≤ length h + added m
    go (yes q) = rw (eq-eqb m 2 q) (omega (arith, checked-long (symbology_of s).rule h (omega (arith, last-place s))))
    go (no q) = rw (ne_eqb m 2 q) (omega arith)

drawn-fits : (s m count : ℕ) (field : List ℕ) → (s ≡ 2 → ⊥) → offered (symbology_of s).limits m ≡ true
    → (holds (symbology_of s).limits m count && leb count (length field)) ≡ true → length (row_drawn (symbology_of s) m (take count field)) ≤ (symbology_of s).limits.room
drawn-fits s m count field n o t =
    let y : Symbology = symbology_of s in
    let d : List ℕ = take count field in
    let l : length d ≡ count = length-take-le count field (leb-true count (length field) (both_right (holds y.limits m count) _ t)) in
    let b = held y.limits m count (both_left (holds y.limits m count) (leb count (length field)) t) in
    let c : Counts y m = (proper s).counts m o in
    omega (arith, spelled-few (y.coder m) (single s n m) d, row-few s m (finds (spelled y m d)), c.cap, b.1)

module _ (s m count : ℕ) (field out : List ℕ) where
  drawing-reached : (n : ℕ) → n ≢ 0 → (said_of (draw_field s m count field out).answer).number ≡ n → Reached n (drawing_checks s m count field out)
  unfolding drawn_answer
  drawing-reached n z e =
      first-reached n (drawing_checks s m count field out) (drawn_answer s m (take count field)) (λ q. z (sym q))
      (rw (draw-first s m count field out) at e)

  pub five-alone : (said_of (draw_field s m count field out).answer).number ≡ 5 → s ≡ 5
  unfolding drawing_checks
  five-alone e =
      let w : Reached 5 (drawing_checks s m count field out) = drawing-reached 5 (omega arith) e in
      go (both_left (symbology_of s).limits.even _ (hit (λ r. r.1.1.1) w.1.1.1.1.1)) (ℕ_discrete s 5)
    where
      go : (symbology_of s).limits.even ≡ true → Dec (s ≡ 5) → s ≡ 5
      go f (yes q) = q
      go f (no q) = let x : ◌≡◌ {A = Bool} true false = sym f ∙ only-five s q in let z : ◌≡◌ {A = ℕ} 0 1 = cc in absurd (omega arith)

  pub six-alone : (said_of (draw_field s m count field out).answer).number ≡ 6 → s ≡ 2
  unfolding drawing_checks
  six-alone e =
      let w : Reached 6 (drawing_checks s m count field out) = drawing-reached 6 (omega arith) e in
      let over : (symbology_of s).limits.room < length (row_drawn (symbology_of s) m (take count field)) = ltb-true _ _ (hit (λ r. r.1.1) w.1.1.1.1.1.1) in
      go over (not-false _ w.1.0) (not-false _ w.1.1.0) (ℕ_discrete s 2)
    where
      go : (symbology_of s).limits.room < length (row_drawn (symbology_of s) m (take count field)) → offered (symbology_of s).limits m ≡ true
          → (holds (symbology_of s).limits m count && leb count (length field)) ≡ true → Dec (s ≡ 2) → s ≡ 2
      go over o h (yes q) = q
      go over o h (no q) = absurd (omega (arith, drawn-fits s m count field q o h))

pub no-thirteen : (s m : ℕ) (d out : List ℕ) → (said_of (draw_field s m (length d) d out).answer).number ≢ 13
unfolding drawing_checks
no-thirteen s m d out e =
    let w : Reached 13 (drawing_checks s m (length d) d out) = drawing-reached s m (length d) d out 13 (omega arith) e in
    let x : ◌≡◌ {A = Bool} true false = sym (hit (λ r. r.1.1.1.1.1) w.1.1.1) ∙ empty-rest d in
    let z : ◌≡◌ {A = ℕ} 0 1 = cc in
    omega arith

-- ---- reading

-- outside full ASCII a character that may stand there is drawn by a byte, and begins no pair
pub record Lone (y : Symbology) : Type 0 where
  pub byte : (m : ℕ) (p : Place) (c : ℕ) → y.allowed p c ≡ true → byte_for (y.coder m) p (c ∷ []) < 256
  pub shift : (m : ℕ) (end : Bool) (c : ℕ) → (y.coder m).shift end c ≡ false

lone-39 : Lone (symbology_of 1)
unfolding symbology_of symbologies alphabet39 chars39 plain
lone-39 = record { byte = λ m p c a. rw (alone39 p c, a) (byte_small alphabet39 refl c (ltb-true c 43 a)); shift = λ m end c. refl }

lone-codabar : Lone (symbology_of 3)
unfolding symbology_of symbologies alphabet_codabar table41 codabar_coder
lone-codabar = record { byte = λ m p c a. rw (alone-codabar p c, a) (byte_small alphabet_codabar refl c (placed-in (is_end p) c a)); shift = λ m end c. refl }

lone-digits : (y : Symbology) → Digits y → Lone y
unfolding alphabet_digits table44 plain
lone-digits y d = record {
  byte = λ m p c a. let b : ltb c 10 ≡ true = rw d.allowed at a in rw (d.coder, alone-digits p c, b) (byte_small alphabet_digits refl c (ltb-true c 10 b));
  shift = λ m end c. rw d.coder;
}

lone : (s : ℕ) → (s ≡ 2 → ⊥) → Lone (symbology_of s)
lone s n = go (ℕ_discrete s 1) (ℕ_discrete s 3)
  where
    go : Dec (s ≡ 1) → Dec (s ≡ 3) → Lone (symbology_of s)
    go (yes e) f = rw e lone-39
    go (no e) (yes f) = rw f lone-codabar
    go (no e) (no f) = lone-digits (symbology_of s) (others s e n f)

-- so reading characters that may stand where they do never stops
gave-on : (b at i : ℕ) (z : Reading) → b < 256 → (z ≡ stopped i → ⊥) → gave at b z ≡ stopped i → ⊥
gave-on b at i (found d) h f e = let q : found (b ∷ d) ≡ stopped i = rw (lt-ltb b 256 h) at e in let x : ◌≡◌ {A = ℕ} 0 1 = cc in omega arith
gave-on b at i (stopped j) h f e = f (rw (lt-ltb b 256 h) at e)

never-stops : (y : Symbology) → Lone y → (m : ℕ) (r : List ℕ) (start : Bool) (at i : ℕ) → fitting y.allowed start r ≡ true → unspell (y.coder m) start at r ≡ stopped i → ⊥
never-stops y o m [] start at i a e = let x : ◌≡◌ {A = ℕ} 0 1 = cc in omega arith
never-stops y o m (c ∷ []) start at i a e =
    gave-on _ at i (found []) (o.byte m (stands start []) c (both_left (y.allowed (stands start []) c) true a)) (λ q. let x : ◌≡◌ {A = ℕ} 0 1 = cc in omega arith) e
never-stops y o m (c ∷ x ∷ cs) start at i a e =
    gave-on _ at i _ (o.byte m (stands start (x ∷ cs)) c (both_left (y.allowed (stands start (x ∷ cs)) c) (fitting y.allowed false (x ∷ cs)) a))
    (never-stops y o m (x ∷ cs) false (suc at) i (both_right (y.allowed (stands start (x ∷ cs)) c) (fitting y.allowed false (x ∷ cs)) a)) (rw (o.shift m (ends cs) c) at e)

-- the characters that spell the data are allowed too: where there is a check, the place does not matter
read-allowed : (s m : ℕ) (r : List ℕ) → offered (symbology_of s).limits m ≡ true → ready s r ≡ true → 0 < length r → all_allowed s true (chars_read (symbology_of s) m r) ≡ true
read-allowed s zero r o h k = ready-allowed s r h
read-allowed s (suc m) r o h k =
    let n : eqb s 3 ≡ false = no-codabar s (suc m) o (omega arith) in
    rw (chars-front s (suc m) r k)
    (below-allowed s n true (take (length r - added (suc m)) r) (below_split (size (symbology_of s).alphabet) (length r - added (suc m)) r (ready-below s r n h)).0)

stopped-at : (z : Reading) → stops z ≡ true → z ≡ stopped (stop_at z)
stopped-at (stopped i) e = refl
stopped-at (found d) e = let x : ◌≡◌ {A = ℕ} 0 1 = cc in absurd (omega arith)

module _ (s m : ℕ) (t out : List ℕ) where
  reading-reached : (n : ℕ) → n ≢ 0 → (said_of (read_strip s m t out).answer).number ≡ n → Reached n (reading_checks s m t out)
  unfolding handed_answer
  reading-reached n z e = first-reached n (reading_checks s m t out) (handed_answer s m t) (λ q. z (sym q)) (rw (read_first s m t out) at e)

  pub eleven-alone : (said_of (read_strip s m t out).answer).number ≡ 11 → s ≡ 7
  unfolding reading_checks
  eleven-alone e =
      let w : Reached 11 (reading_checks s m t out) = reading-reached 11 (omega arith) e in
      go (hit (λ r. r.1.1.1) w.1.1.1.1) (ℕ_discrete s 7)
    where
      go : (symbology_of s).shows.unlike (rows_read s t) ≡ true → Dec (s ≡ 7) → s ≡ 7
      go f (yes q) = q
      go f (no q) = let x : ◌≡◌ {A = Bool} true false = sym f ∙ only-seven s q (rows_read s t) in let z : ◌≡◌ {A = ℕ} 0 1 = cc in absurd (omega arith)

  pub twelve-alone : (said_of (read_strip s m t out).answer).number ≡ 12 → s ≡ 2
  unfolding reading_checks
  twelve-alone e =
      let w : Reached 12 (reading_checks s m t out) = reading-reached 12 (omega arith) e in
      let shows : row_seen s m t ≡ gives (row_read s t)
      = unfold row_seen in none-on turned (seen_checks s m t) _ (w.0, (w.1.0, (w.1.1.0, (w.1.1.1.0, (w.1.1.1.1.0, tt))))) in
      let h : ready s (row_read s t) ≡ true = (seen-drawn s m t (row_read s t) shows).0 in
      go (not-false _ w.1.0) h (counted-some s (length (row_read s t)) (ready-counted s (row_read s t) h)) (hit (λ r. r.1.1) w.1.1.1.1.1) (ℕ_discrete s 2)
    where
      go : offered (symbology_of s).limits m ≡ true → ready s (row_read s t) ≡ true → 0 < length (row_read s t) → stops (unspelled (symbology_of s) m (row_read s t)) ≡ true → Dec (s ≡ 2) → s ≡ 2
      go o h k f (yes q) = q
      go o h k f (no q) =
          absurd
          (never-stops (symbology_of s) (lone s q) m (chars_read (symbology_of s) m (row_read s t)) true 0 _ (read-allowed s m (row_read s t) o h k)
          (stopped-at (unspelled (symbology_of s) m (row_read s t)) f))
