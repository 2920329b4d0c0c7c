-- The refusals of reading in their order: what each return comes to, by what the tests before it said.
--
--   turned-away, too_short, handed-over    the answer and the lent buffer, by the outcome
--   no-expansion    12: what is read stops
--   bad-check, right-data, plain-data    7, or the data behind a right check or none
--   expansion, mapped    the answer in place of the place where what is read stops
--   count-turned, count-given, count_fits    1, 2, 9: a count that is turned away, and one that is not
--
-- Assumes nothing.
use Rattle.std.proofs.Common.{◌≡◌, refl, ap, ◌∙◌, ◌≢◌, Bool, true, false, not, List, ◌++◌, ℕ, zero, suc, ◌-◌, ◌<◌, ◌≤◌, arith, eqb, length, get_or, take, drop, eq-eqb, ne_eqb, lt-ltb, le-ltb, Result, Ok, Err, MatchResult, IsErrAnd}
use lib.Seq.{take-length}
use Rattle.std.proofs.lemmas.Bool.{not-false}
use Rattle.laws.specs.Search.{pick}
use Rattle.laws.specs.Units.{found}
use Rattle.laws.specs.Rules.{others_of, check_of}
use Rattle.laws.proofs.Finite.{both_left}
use Rattle.laws.proofs.Rules.{place-last, others-last, passes-last}
use Rattle.words.specs.declared.Answer.{Answer}
use Rattle.words.specs.declared.CharPlace.{CharPlace}
use Rattle.words.specs.declared.Answer.TheVariants.{BadCheck, NoExpansion, ShortForData}
use Rattle.words.specs.Order.{Check, first_of, Outcome, gives, turned, char_place, byte_count}
use Rattle.words.proofs.Order.{first-append, None, none-on}
use Rattle.symbologies.specs.declared.row.Row.{Row}
use Rattle.symbologies.specs.Sizes.{places}
use Rattle.symbologies.specs.Limits.{holds, odd, added}
use Rattle.symbologies.specs.Symbologies.{Symbology, symbology_of}
use Rattle.symbologies.specs.Rows.{wrong, chars_read, unspelled, data_read, count_checks, data_checks, data_of_count}
use Rattle.symbologies.specs.Told.{judged_count}
use Rattle.symbologies.proofs.Asked.{Counts}
use Rattle.symbologies.proofs.Undo.{held}
use Rattle.symbologies.proofs.Verdicts.{judged-none, judged-turned}
use Rattle.symbologies.proofs.Proper.{proper, last-place}
use Rattle.data.specs.declared.items.Measured.{Measured}
use Rattle.sums.specs.Sums.{check_by, others_in}
use Rattle.data.specs.Held.{MeasuredAll, MeasuredAs, read_data, data_of_row, handed_of, written}

-- ---- the lent buffer

module _ (o : Outcome) (out : List ℕ) where
  pub turned-away : (a : Answer) → o ≡ turned a → (Err a ≡ handed_of o (length out)) × (out ≡ written o out)
  turned-away a e = (rw e, rw e)

  module _ (d : List ℕ) (e : o ≡ gives d) (n : ℕ) (m : n ≡ length d) where
    pub too_short : length out < n → (Err (ShortForData (byte_count n)) ≡ handed_of o (length out)) × (out ≡ written o out)
    too_short h = (rw (e, ← m, lt-ltb (length out) n h), rw (e, ← m, lt-ltb (length out) n h))

    pub handed-over : n ≤ length out → (last : List ℕ) → last ≡ d ++ drop (length d) out → (Ok (byte_count n) ≡ handed_of o (length out)) × (last ≡ written o out)
    handed-over h last q = (rw (e, ← m, le-ltb (length out) n h), q ∙ rw (e, ← m, le-ltb (length out) n h))

-- ---- 12 in place of where what is read stops

abbrev pub expansion : Result Measured CharPlace → Result Measured Answer
expansion (Ok m) = Ok m
expansion (Err at) = Err (NoExpansion at)

pub mapped : (r : Result Measured CharPlace) (q : Result Measured Answer) → MatchResult r (λ m. q ≡ Ok m) (λ at. IsErrAnd q (λ a. a ≡ NoExpansion at)) → q ≡ expansion r
mapped (Ok m) q h = h
mapped (Err at) (Ok m) h = absurd h
mapped (Err at) (Err a) h = ap Err h

err-same : {A : Type 0} {a b : Answer} → ◌≡◌ {A = Result A Answer} (Err a) (Err b) → a ≡ b
err-same e = cc

ok-same : {j k : Measured} → ◌≡◌ {A = Result Measured Answer} (Ok j) (Ok k) → j ≡ k
ok-same e = cc

-- ---- 12 and 7, of a row's characters, of which some spell the data

module _ (s m : ℕ) (cs : List ℕ) (p : (m < 3) × ((added m < length cs) × (length cs ≤ places))) (sp : List ℕ) (e : sp ≡ take (length cs - added m) cs) where
  abbrev y : Symbology
  y = symbology_of s

  chars-are : chars_read y m cs ≡ sp
  chars-are = rw e (go (eqb m 2))
    where
      go : (t : Bool) → pick t (others_of y.rule cs) cs ≡ take (length cs - pick t 1 0) cs
      go true = others-last y.rule (last-place s) cs (omega (arith, p.1.0))
      go false = let z : length cs - 0 ≡ length cs = omega arith in rw (z, take-length)

  module _ (r : Result Measured CharPlace) (g : MeasuredAs y m sp r) where
    pub no-expansion : (a : Answer) → expansion r ≡ Err a → read_data y m cs ≡ turned a
    unfolding read_data
    no-expansion a q = go r g q
      where
        go : (r : Result Measured CharPlace) → MeasuredAs y m sp r → expansion r ≡ Err a → read_data y m cs ≡ turned a
        go (Ok k) h q = let z : ◌≡◌ {A = ℕ} 0 1 = cc in absurd (omega arith)
        go (Err at) h q = rw (chars-are, h) (ap turned (err-same q))

    pub measured-all : (k : Measured) → expansion r ≡ Ok k → MeasuredAll y m sp k
    measured-all k q = go r g q
      where
        go : (r : Result Measured CharPlace) → MeasuredAs y m sp r → expansion r ≡ Ok k → MeasuredAll y m sp k
        go (Ok j) h q = rw (ok-same q) at h
        go (Err at) h q = let z : ◌≡◌ {A = ℕ} 0 1 = cc in absurd (omega arith)

  module _ (k : Measured) (w : MeasuredAll y m sp k) where
    pub read-well : unspelled y m cs ≡ found w.text
    read-well = rw chars-are w.is

    pub plain-data : m ≡ 0 → read_data y m cs ≡ gives w.text
    unfolding read_data
    plain-data z = let f : wrong y m cs ≡ false = rw z in rw (read-well, f)

    -- the check is that of the characters before the last
    module _ (z : m ≢ 0) (c : ℕ) (q : c ≡ check_by k.sum.modulus k.sum.up k.sum.total) where
      beside : (m : ℕ) → m ≢ 0 → m < 3 → others_in m (take (length cs - added m) cs) ≡ take (length cs - 1) cs
      beside zero z l = absurd (z refl)
      beside (suc zero) z l =
          let f : length cs - 0 ≡ length cs = omega arith in
          rw (f, take-length)
      beside (suc (suc zero)) z l = take-length (take (length cs - 1) cs)
      beside (suc (suc (suc m))) z l = absurd (omega arith)

      check-is : c ≡ check_of y.rule (take (length cs - 1) cs)
      check-is = q ∙ w.sum ∙ rw e (ap (check_of y.rule) (beside m z p.0))

      wrong-is : wrong y m cs ≡ not (eqb (get_or cs (length cs - 1) 0) c)
      wrong-is = rw (ne_eqb m 0 z, passes-last y.rule (last-place s) cs (omega (arith, p.1.0)), check-is)

      pub bad-check : get_or cs (length cs - 1) 0 ≢ c → read_data y m cs ≡ turned (BadCheck (char_place (length cs - 1)))
      unfolding read_data
      bad-check x = rw (read-well, wrong-is, ne_eqb (get_or cs (length cs - 1) 0) c x, place-last y.rule (last-place s) (length cs))

      pub right-data : get_or cs (length cs - 1) 0 ≡ c → read_data y m cs ≡ gives w.text
      unfolding read_data
      right-data x = rw (read-well, wrong-is, eq-eqb (get_or cs (length cs - 1) 0) c x)

-- ---- 1, 2, 9

module _ (s m : ℕ) (row : Row) where
  abbrev chars : List ℕ
  chars = take row.len row.codes

  abbrev counts : List Check
  counts = count_checks (symbology_of s) m row.len

  behind-count : data_of_row s m row ≡ first_of turned counts (read_data (symbology_of s) m chars)
  unfolding data_of_row data_of_count read_data
  behind-count = first-append turned counts (data_checks (symbology_of s) m chars) (gives (data_read (symbology_of s) m chars))

  pub count-turned : (a : Answer) → judged_count s m row.len ≡ Err a → data_of_row s m row ≡ turned a
  unfolding judged_count
  count-turned a e = behind-count ∙ judged-turned turned counts a (read_data (symbology_of s) m chars) e

  module _ (e : judged_count s m row.len ≡ Ok tt) where
    passed : None counts
    unfolding judged_count
    passed = judged-none counts e

    pub count-given : data_of_row s m row ≡ read_data (symbology_of s) m chars
    count-given = behind-count ∙ none-on turned counts (read_data (symbology_of s) m chars) passed

    pub count_fits : (m < 3) × ((added m < row.len) × (row.len ≤ places))
    count_fits =
        let c : Counts (symbology_of s) m = (proper s).counts m (not-false _ passed.1.0) in
        let h : holds (symbology_of s).limits m (row.len - added m) ≡ true = both_left _ (not (odd (symbology_of s).limits row.len)) (not-false _ passed.1.1.0) in
        let g = held (symbology_of s).limits m (row.len - added m) h in
        (c.mode, (omega (arith, c.some, g.0), omega (arith, c.some, c.cap, g.0, g.1, (proper s).small)))
