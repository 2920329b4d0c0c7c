-- The refusals that limits decide, in their order: the returns of `judge_field` and `judge_count`, each by what the tests before it said; and
-- what a verdict says of the checks that it is made of.
--
--   judged-given, judged-none    nothing against it: no check applies
--   judged-err, judged-turned    an answer: the checks turn away with it
--   judged-first                 the first checks' answer is that of more
--   Offered, offered-by          limits that a mode is offered with; no-field, no-count, without them 1 or 2 is the answer
--   bad-count, not-zero, all-zeros    3, 13 of a field
--   Held, field-held              a field that passes: its mode, its count, its bytes
--   drawn-few                    what passes 5 and 6 has places
--   not-held, not-even, is-drawable    9 of one that is read
--
-- Assumes nothing.
use Rattle.std.proofs.Common.{◌≡◌, refl, sym, ◌∙◌, ◌⊎◌, inl, inr, Bool, true, false, ◌&&◌, not, List, [], ◌∷◌, ◌++◌, ℕ, ◌+◌, ◌-◌, ◌<◌, ◌≤◌, arith, leb, length, take, drop, length-take-le, ltb-false, le-leb, leb-true, Result, Ok, Err}
use Rattle.std.proofs.lemmas.Bool.{not-false, lt-leb}
use Rattle.laws.specs.Search.{pick}
use Rattle.laws.proofs.Finite.{both_left, both_right}
use Rattle.words.specs.declared.Answer.{Answer}
use Rattle.words.specs.declared.Answer.TheVariants.{BadCount, BadLength, FieldNotZero}
use Rattle.words.specs.Order.{Check, check, first_of, data_place}
use Rattle.words.proofs.Order.{None, first-append, none-on}
use Rattle.symbologies.specs.declared.limits.Limits.{Limits}
use Rattle.symbologies.specs.Sizes.{places}
use Rattle.symbologies.specs.Limits.{holds, odd, added, drawable}
use Rattle.symbologies.specs.Symbologies.{Symbology, symbology_of}
use Rattle.symbologies.specs.Rows.{nonzero, unclean, offers, field_checks, drawn_checks}
use Rattle.symbologies.specs.Told.{judged, limits_for, judged_field, judged_drawn, judged_count}
use Rattle.symbologies.proofs.Asked.{Counts}
use Rattle.symbologies.proofs.Undo.{held}
use Rattle.symbologies.proofs.Proper.{proper}

-- ---- a verdict and its checks

pub judged-given : {A : Type 0} (cs : List Check) (x y : A) → judged cs x ≡ Ok y → None cs × (x ≡ y)
judged-given [] x y e = (tt, cc)
judged-given (c ∷ cs) x y e = go c.applies refl (judged-given cs x y) e
  where
    go : (b : Bool) → c.applies ≡ b → (judged cs x ≡ Ok y → None cs × (x ≡ y)) → pick b (Err c.answer) (judged cs x) ≡ Ok y → None (c ∷ cs) × (x ≡ y)
    go true t f e = let n : ◌≡◌ {A = ℕ} 0 1 = cc in absurd (omega arith)
    go false t f e = let p : None cs × (x ≡ y) = f e in ((t, p.0), p.1)

pub judged-none : (cs : List Check) → judged cs (tt {0}) ≡ Ok (tt {0}) → None cs
judged-none cs e = (judged-given cs (tt {0}) (tt {0}) e).0

pub judged-err : {A B : Type 0} (f : Answer → B) (cs : List Check) (a : Answer) (x : A) (z : B) → judged cs x ≡ Err a → first_of f cs z ≡ f a
judged-err f [] a x z e = let n : ◌≡◌ {A = ℕ} 0 1 = cc in absurd (omega arith)
judged-err f (c ∷ cs) a x z e = go c.applies (judged-err f cs a x z) e
  where
    go : (b : Bool) → (judged cs x ≡ Err a → first_of f cs z ≡ f a) → pick b (Err c.answer) (judged cs x) ≡ Err a → pick b (f c.answer) (first_of f cs z) ≡ f a
    go true h e = let q : c.answer ≡ a = cc in rw q
    go false h e = h e

pub judged-turned : {B : Type 0} (f : Answer → B) (cs : List Check) (a : Answer) (z : B) → judged cs (tt {0}) ≡ Err a → first_of f cs z ≡ f a
judged-turned f cs a z e = judged-err f cs a (tt {0}) z e

pub judged-first : {A B : Type 0} (cs ds : List Check) (a : Answer) (x : A) (y : B) → judged cs x ≡ Err a → judged (cs ++ ds) y ≡ Err a
judged-first cs ds a x y e = first-append Err cs ds (Ok y) ∙ judged-err Err cs a x (judged ds y) e

-- ---- 1, 2

abbrev field_only : Symbology → ℕ → ℕ → List ℕ → List Check
field_only y m count field =
    check (not (holds y.limits m count && leb count (length field))) BadCount
    ∷ check (unclean count field) (FieldNotZero (data_place (count + nonzero (drop count field))))
    ∷ []

abbrev count_only : Symbology → ℕ → ℕ → List Check
count_only y m n = check (not (drawable y.limits m n)) BadLength ∷ []

abbrev pub Offered : ℕ → ℕ → Limits → Type 0
Offered s m l = None (offers (symbology_of s) m) × ((symbology_of s).limits ≡ l)

module _ (s m : ℕ) (r : Result Limits Answer) (e : r ≡ limits_for s m) where
  pub offered-by : (l : Limits) → r ≡ Ok l → Offered s m l
  unfolding limits_for
  offered-by l h = judged-given (offers (symbology_of s) m) (symbology_of s).limits l (sym e ∙ h)

  turned-by : (a : Answer) (cs : List Check) → r ≡ Err a → Err a ≡ judged (offers (symbology_of s) m ++ cs) (tt {0})
  unfolding limits_for
  turned-by a cs h = sym (judged-first (offers (symbology_of s) m) cs a (symbology_of s).limits (tt {0}) (sym e ∙ h))

  pub no-field : (count : ℕ) (field : List ℕ) (a : Answer) → r ≡ Err a → Err a ≡ judged_field s m count field
  unfolding judged_field
  no-field count field a h = turned-by a (field_only (symbology_of s) m count field) h

  pub no-count : (n : ℕ) (a : Answer) → r ≡ Err a → Err a ≡ judged_count s m n
  unfolding judged_count
  no-count n a h = turned-by a (count_only (symbology_of s) m n) h

behind-offers : (s m : ℕ) (l : Limits) → Offered s m l → (cs : List Check) → judged (offers (symbology_of s) m ++ cs) (tt {0}) ≡ judged cs (tt {0})
behind-offers s m l o cs = first-append Err (offers (symbology_of s) m) cs (Ok (tt {0})) ∙ none-on Err (offers (symbology_of s) m) (judged cs (tt {0})) o.0

-- ---- 3, 13

module _ (s m : ℕ) (l : Limits) (o : Offered s m l) (count : ℕ) (field : List ℕ) (h : Bool) (eh : h ≡ holds l m count) where
  field_rest : judged_field s m count field ≡ pick (not (h && leb count (length field))) (Err BadCount) (pick (unclean count field) (Err (FieldNotZero (data_place (count + nonzero (drop count field))))) (Ok (tt {0})))
  unfolding judged_field
  field_rest = behind-offers s m l o (field_only (symbology_of s) m count field) ∙ rw (o.1, ← eh)

  pub bad-count : (h ≡ false) ⊎ ((h ≡ true) × (length field < count)) → Err BadCount ≡ judged_field s m count field
  bad-count (inl q) = rw (field_rest, q)
  bad-count (inr q) = rw (field_rest, q.0, lt-leb count (length field) q.1)

  module _ (q : h ≡ true) (f : count ≤ length field) where
    pub not-zero : (i : ℕ) → (unclean count field ≡ true) × (i ≡ nonzero (drop count field)) → Err (FieldNotZero (data_place (count + i))) ≡ judged_field s m count field
    not-zero i u = rw (field_rest, q, le-leb count (length field) f, u.0, u.1)

    pub all-zeros : unclean count field ≡ false → Ok (tt {0}) ≡ judged_field s m count field
    all-zeros u = rw (field_rest, q, le-leb count (length field) f, u)

pub record Held (m count : ℕ) (field : List ℕ) : Type 0 where
  pub mode : m < 3
  pub within : count ≤ length field
  pub some : 0 < length (take count field)
  pub few : length (take count field) ≤ places

pub field-held : (s m count : ℕ) (field : List ℕ) → judged_field s m count field ≡ Ok (tt {0}) → Held m count field
unfolding judged_field
field-held s m count field e =
    let n : None (field_checks (symbology_of s) m count field) = judged-none (field_checks (symbology_of s) m count field) e in
    let c : Counts (symbology_of s) m = (proper s).counts m (not-false _ n.1.0) in
    let t : (holds (symbology_of s).limits m count && leb count (length field)) ≡ true = not-false _ n.1.1.0 in
    let b = held (symbology_of s).limits m count (both_left (holds (symbology_of s).limits m count) (leb count (length field)) t) in
    let l : count ≤ length field = leb-true count (length field) (both_right (holds (symbology_of s).limits m count) (leb count (length field)) t) in
    record {
      mode = c.mode;
      within = l;
      some = omega (arith, length-take-le count field l, c.some, b.0);
      few = omega (arith, length-take-le count field l, c.cap, b.1, (proper s).small);
    }

-- ---- 5, 6

pub drawn-few : (s n : ℕ) → judged_drawn s n ≡ Ok (tt {0}) → n ≤ places
unfolding judged_drawn
drawn-few s n e = omega (arith, ltb-false _ n (judged-none (drawn_checks (symbology_of s) n) e).1.0, (proper s).small)

-- ---- 9

module _ (s m n : ℕ) (l : Limits) (o : Offered s m l) (d : ℕ) (ed : d ≡ n - added m) (h : Bool) (eh : h ≡ holds l m d) (b : Bool) (eb : b ≡ odd l n) where
  count_rest : judged_count s m n ≡ pick (not (h && not b)) (Err BadLength) (Ok (tt {0}))
  unfolding judged_count
  count_rest = behind-offers s m l o (count_only (symbology_of s) m n) ∙ rw (o.1, ← ed, ← eh, ← eb)

  pub not-held : h ≡ false → Err BadLength ≡ judged_count s m n
  not-held q = rw (count_rest, q)

  pub not-even : h ≡ true → b ≡ true → Err BadLength ≡ judged_count s m n
  not-even q r = rw (count_rest, q, r)

  pub is-drawable : h ≡ true → b ≡ false → Ok (tt {0}) ≡ judged_count s m n
  is-drawable q r = rw (count_rest, q, r)
