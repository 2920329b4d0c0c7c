-- The refusals of drawing in their order: what each return comes to, by what the tests before it said.
--
--   drawn-long      how many characters are drawn
--   closed-plain, closed-wrong, closed-right, closed-added    7: no check, a wrong one, a right one, one that is put in
--   bad-byte        4; some-chars, few-chars, the characters of a text in which no byte is bad
--   let-fill        what is behind 4
--   not-drawn, let-close    5, 6, and then 7, of that text
--   field-turned, field-given    1, 2, 3, 13, and then that
--
-- Assumes nothing.
use Rattle.std.proofs.Common.{◌≡◌, sym, ap, ◌∙◌, ◌≢◌, Bool, true, false, not, List, [], ◌∷◌, ℕ, ◌+◌, ◌-◌, ◌<◌, ◌≤◌, arith, eqb, length, get_or, take, length-append, eq-eqb, ne_eqb, Ok, Err}
use Rattle.std.proofs.Math.Seq.{take-length}
use Rattle.laws.specs.Search.{pick}
use Rattle.laws.specs.Rules.{check_of, checked_of}
use Rattle.laws.proofs.Rules.{checked-passes, checked-last, place-last, passes-last}
use Rattle.laws.proofs.Spelling.{spell-few, spell-long}
use Rattle.words.specs.declared.Answer.{Answer}
use Rattle.words.specs.declared.Answer.TheVariants.{BadCheck}
use Rattle.words.specs.Order.{Check, check, first_of, gives, turned, outcome, char_place}
use Rattle.words.proofs.Order.{first-append, none-on}
use Rattle.symbologies.specs.declared.row.Row.{Row}
use Rattle.symbologies.specs.Sizes.{places}
use Rattle.symbologies.specs.Limits.{added}
use Rattle.symbologies.specs.Symbologies.{Symbology, symbology_of}
use Rattle.symbologies.specs.Rows.{wrong, wrong_at, drawn_of, row_drawn, drawn_checks, text_checks, field_checks, row_of_field}
use Rattle.symbologies.specs.Told.{row_in, told, judged_field, judged_drawn}
use Rattle.symbologies.proofs.Held.{get_or-pad}
use Rattle.symbologies.proofs.Proper.{proper, last-place}
use Rattle.symbologies.proofs.Verdicts.{judged-none, judged-turned}
use Rattle.sums.specs.declared.Sum.{Sum}
use Rattle.sums.specs.Sums.{others_in}
use Rattle.rows.specs.Held.{pushed, SpelledAll, Stopped, closed_row, finished_row, filled_row}
use Rattle.rows.proofs.Spellings.{push-in}

pub drawn-long : (y : Symbology) (m : ℕ) (h : List ℕ) → y.rule.behind ≡ 0 → length (drawn_of y m h) ≡ length h + added m
drawn-long y m h b = go (eqb m 2)
  where
    go : (t : Bool) → length (pick t (checked_of y.rule h) h) ≡ length h + pick t 1 0
    go true = rw (checked-last y.rule b h) (length-append h (check_of y.rule h ∷ []))
    go false = omega arith

-- ---- 7, as `close` has it

module _ (y : Symbology) (m : ℕ) (h : List ℕ) (b : y.rule.behind ≡ 0) (row : Row) (e : row ≡ row_in h) where
  len_is : row.len ≡ length h
  len_is = ap (λ (r : Row). r.len) e

  pub closed-plain : m ≡ 0 → record { verdict = Ok (tt {0}); row = row } ≡ told (closed_row y m h)
  unfolding closed_row
  closed-plain q = rw (e, q)

  module _ (q : m ≡ 1) (s : 0 < row.len) (f : row.len ≤ places) (right : ℕ) (c : right ≡ check_of y.rule (others_in m h)) where
    last-is : get_or row.codes (row.len - 1) 0 ≡ get_or h (length h - 1) 0
    last-is = ap (λ (r : Row). get_or r.codes (r.len - 1) 0) e ∙ get_or-pad places h (length h - 1) (omega (arith, len_is))

    right_is : right ≡ check_of y.rule (take (length h - 1) h)
    right_is = c ∙ rw (eq-eqb m 1 q)

    wrong-is : wrong y 1 h ≡ not (eqb (get_or row.codes (row.len - 1) 0) right)
    wrong-is = rw (passes-last y.rule b h (omega (arith, len_is)), ← right_is, ← last-is)

    pub closed-wrong : get_or row.codes (row.len - 1) 0 ≢ right → told (turned (BadCheck (char_place (row.len - 1)))) ≡ told (closed_row y m h)
    unfolding closed_row
    closed-wrong n = rw (q, wrong-is, ne_eqb (get_or row.codes (row.len - 1) 0) right n, place-last y.rule b (length h), len_is)

    pub closed-right : get_or row.codes (row.len - 1) 0 ≡ right → record { verdict = Ok (tt {0}); row = row } ≡ told (closed_row y m h)
    unfolding closed_row
    closed-right n = rw (q, wrong-is, eq-eqb (get_or row.codes (row.len - 1) 0) right n, e)

  pub closed-added : m ≡ 2 → (right : ℕ) → right ≡ check_of y.rule (others_in m h) → record { verdict = Ok (tt {0}); row = pushed row right } ≡ told (closed_row y m h)
  unfolding closed_row
  closed-added q right c =
      let r : right ≡ check_of y.rule h = c ∙ rw (q, take-length) in
      let p : pushed row right ≡ row_in (checked_of y.rule h)
      = ap (λ (x : Row). pushed x right) e ∙ push-in h right ∙ rw (r, checked-last y.rule b h) in
      rw (p, q, checked-passes y.rule h (omega (arith, b)))

-- ---- 4, 5 and 6, as `fill` has them

pub bad-byte : (y : Symbology) (m : ℕ) (text : List ℕ) (a : Answer) → Stopped y m text a → told (turned a) ≡ told (filled_row y m text)
unfolding filled_row
bad-byte y m text a w = rw (w.is, w.stops)

module _ (s m : ℕ) (text : List ℕ) (row : Row) (sum : Sum) (w : SpelledAll (symbology_of s) m text row sum) where
  len_of : row.len ≡ length w.body
  len_of = ap (λ (x : Row). x.len) w.row_is

  pub some-chars : 0 < length text → 0 < row.len
  some-chars h = omega (arith, len_of, spell-long ((symbology_of s).coder m) text w.body true 0 w.is)

  pub few-chars : length text ≤ places → row.len < 900
  few-chars h = omega (arith, len_of, spell-few ((symbology_of s).coder m) ((proper s).valid m) text w.body true 0 w.is)

  behind-text : filled_row (symbology_of s) m text ≡ finished_row (symbology_of s) m w.body
  unfolding filled_row finished_row
  behind-text = rw w.is

  pub let-fill : told (finished_row (symbology_of s) m w.body) ≡ told (filled_row (symbology_of s) m text)
  let-fill = ap told (sym behind-text)

  module _ (count : ℕ) (n : count ≡ row.len + added m) where
    long : length (drawn_of (symbology_of s) m w.body) ≡ count
    long = drawn-long (symbology_of s) m w.body (last-place s) ∙ sym (rw len_of at n)

    behind-drawn : finished_row (symbology_of s) m w.body ≡ first_of turned (drawn_checks (symbology_of s) count) (closed_row (symbology_of s) m w.body)
    unfolding finished_row closed_row
    behind-drawn =
        let r : List ℕ = drawn_of (symbology_of s) m w.body in
        first-append turned (drawn_checks (symbology_of s) (length r)) (check (wrong (symbology_of s) m r) (wrong_at (symbology_of s) r) ∷ []) (gives r)
        ∙ ap (λ (c : ℕ). first_of turned (drawn_checks (symbology_of s) c) (outcome (check (wrong (symbology_of s) m r) (wrong_at (symbology_of s) r) ∷ []) r)) long

    pub not-drawn : (a : Answer) → judged_drawn s count ≡ Err a → told (turned a) ≡ told (filled_row (symbology_of s) m text)
    unfolding judged_drawn
    not-drawn a e = ap told (sym (behind-text ∙ behind-drawn ∙ judged-turned turned (drawn_checks (symbology_of s) count) a _ e))

    pub let-close : judged_drawn s count ≡ Ok (tt {0}) → told (closed_row (symbology_of s) m w.body) ≡ told (filled_row (symbology_of s) m text)
    unfolding judged_drawn
    let-close e = ap told (sym (behind-text ∙ behind-drawn ∙ none-on turned (drawn_checks (symbology_of s) count) _ (judged-none (drawn_checks (symbology_of s) count) e)))

-- ---- 1, 2, 3, 13, as `row_of_field` has them

module _ (s m count : ℕ) (field : List ℕ) where
  abbrev checks : List Check
  checks = field_checks (symbology_of s) m count field

  behind-field : row_of_field s m count field ≡ first_of turned checks (filled_row (symbology_of s) m (take count field))
  unfolding row_of_field filled_row
  behind-field = first-append turned checks (text_checks (symbology_of s) m (take count field)) (gives (row_drawn (symbology_of s) m (take count field)))

  pub field-turned : (a : Answer) → judged_field s m count field ≡ Err a → told (turned a) ≡ told (row_of_field s m count field)
  unfolding judged_field
  field-turned a e = ap told (sym (behind-field ∙ judged-turned turned checks a _ e))

  pub field-given : judged_field s m count field ≡ Ok (tt {0}) → told (filled_row (symbology_of s) m (take count field)) ≡ told (row_of_field s m count field)
  unfolding judged_field
  field-given e = ap told (sym (behind-field ∙ none-on turned checks _ (judged-none checks e)))
