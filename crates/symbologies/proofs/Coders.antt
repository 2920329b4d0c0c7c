-- The coders are valid: what a byte draws is found again, and may stand there.
--
--   byte_small  the bytes of a table are bytes
--   Single      no byte draws a pair
--   alone39, alone-digits, alone-codabar  the byte that draws a character alone
--   pair39, pair-digits, pair-codabar     none draws a pair
--   plain39, plain-digits, codabar-all    by the alphabets, whose bytes and values undo one another
--   back39, back-digits                   so characters are read back as their own bytes
--   placed-in                             a character of Codabar, wherever it stands
--   back                                  full ASCII the other way: the byte of an item
--   full-own, full-none                   a byte that draws an item is found; none where `back` has none
--   for-same                              what draws the same finds the same
--   full-places, full-shift               found at one place is found at another; a shift before the last item is one elsewhere
--   full-valid, full-keeps                by a test of the 256 bytes
--   raw-alone-last, raw-pair-last         the raw last byte: a character of Code 39, and no pair
--   raw-alone-inside, raw-pair-inside     elsewhere it is full ASCII
--   raw-valid, raw-keeps, raw-last        by the two
--
-- Assumes nothing.
use Rattle.std.proofs.Common.{◌≡◌, refl, sym, ap, ◌∙◌, Bool, true, false, ◌&&◌, not, List, [], ◌∷◌, map, ℕ, suc, ◌+◌, ◌-◌, ◌<◌, ◌≤◌, arith, eqb, ltb, leb, length, eqb-true, ltb-true, lt-ltb}
use mathlib.Core.Bool.{and-false}
use native.Mathlib.Decide.{dec_lt}
use Rattle.std.proofs.lemmas.Bool.{lt-leb, not-true}
use Rattle.laws.specs.Search.{pick, first, index_in, upto}
use Rattle.laws.specs.Elements.{alike}
use Rattle.laws.specs.Units.{Reading, found, push}
use Rattle.laws.specs.Spelling.{Place, stands, is_end, Coder, counted, byte_for, gave, unspell}
use Rattle.laws.proofs.Finite.{both_left, both_right, upto-at, every, every-at}
use Rattle.laws.proofs.Spelling.{Drawn, none, alone, pair, Valid, for-own, for-none, Below, below-test}
use Rattle.laws.proofs.Fitting.{Piece, Keeps}
use Rattle.tables.specs.Alphabet.{Alphabet, size, value_of, byte_of}
use Rattle.tables.specs.Code39.{chars39, alphabet39}
use Rattle.tables.specs.Codabar.{table41, alphabet_codabar}
use Rattle.tables.specs.TwoOfFive.{table44, alphabet_digits}
use Rattle.tables.specs.FullAscii.{Range, ranges, drawn_in, drawing}
use Rattle.tables.proofs.Alphabets.{Proper, value-byte, byte-value, proper39, proper-codabar, proper-digits}
use Rattle.symbologies.specs.Coders.{single, anywhere, placed, lettered, alphabetic, plain, codabar_coder, shifts, full_coder, raw_coder}

-- no byte draws a pair
abbrev pub Single : Coder → Type 0
Single k = (p : Place) (b : ℕ) → length (k.drawn p b) ≤ 1

-- ---- the alphabets

head-same : (x y : ℕ) → x ∷ [] ≡ y ∷ [] → x ≡ y
head-same x y e = cc

no-pair : (t : Bool) (v c d : ℕ) (cs : List ℕ) → single t v ≡ c ∷ d ∷ cs → ⊥
no-pair true v c d cs e = let z : ◌≡◌ {A = ℕ} 0 1 = cc in omega arith
no-pair false v c d cs e = let z : ◌≡◌ {A = ℕ} 0 1 = cc in omega arith

module _ (a : Alphabet) (q : Proper a) (small : (b : ℕ) → value_of a b < size a → b < 256) (allowed : Place → ℕ → Bool) (in-it : (p : Place) (v : ℕ) → allowed p v ≡ true → v < size a) where
  -- what draws a character is its byte
  drew : (t : Bool) (b v : ℕ) → single t (value_of a b) ≡ v ∷ [] → (t ≡ true → value_of a b < size a) → b ≡ byte_of a v
  drew true b v e s = let u : value_of a b ≡ v = cc in sym (byte-value a q b (s refl)) ∙ ap (byte_of a) u
  drew false b v e s = let u : ◌≡◌ {A = ℕ} 0 1 = cc in absurd (omega arith)

  again : (p : Place) (b : ℕ) → allowed p (value_of a b) ≡ true → b < 256 → byte_for (alphabetic a allowed) p (value_of a b ∷ []) ≡ b
  again p b t h =
      for-own (alphabetic a allowed) p (value_of a b ∷ []) b (rw t) h
      (λ c e. drew (allowed p (value_of a c)) c (value_of a b) e (in-it p (value_of a c)) ∙ byte-value a q b (in-it p (value_of a b) t))

  -- the byte that draws a character alone
  alone-in : (p : Place) (v : ℕ) (t : Bool) → allowed p v ≡ t → byte_for (alphabetic a allowed) p (v ∷ []) ≡ pick t (byte_of a v) 256
  alone-in p v true t =
      let e : value_of a (byte_of a v) ≡ v = value-byte a q v (in-it p v t) in
      rw e at (again p (byte_of a v) (rw e t) (small (byte_of a v) (rw e (in-it p v t))))
  alone-in p v false t =
      for-none (alphabetic a allowed) p (v ∷ []) (λ b e. go (allowed p (value_of a b)) b refl e)
    where
      go : (u : Bool) (b : ℕ) → allowed p (value_of a b) ≡ u → single u (value_of a b) ≡ v ∷ [] → ⊥
      go true b u e = let w : ◌≡◌ {A = Bool} true false = sym u ∙ ap (allowed p) (head-same (value_of a b) v e) ∙ t in let z : ◌≡◌ {A = ℕ} 0 1 = cc in omega arith
      go false b u e = let z : ◌≡◌ {A = ℕ} 0 1 = cc in omega arith

  valid : Valid (alphabetic a allowed)
  valid p b = go (allowed p (value_of a b)) refl
    where
      go : (t : Bool) → allowed p (value_of a b) ≡ t → Drawn (alphabetic a allowed) p b
      go true t = alone (value_of a b) (rw t) (λ l end. refl) (again p b t (small b (in-it p (value_of a b) t))) (small b (in-it p (value_of a b) t))
      go false t = none (rw t)

  alone-each : Single (alphabetic a allowed)
  alone-each p b = go (allowed p (value_of a b))
    where
      go : (t : Bool) → length (single t (value_of a b)) ≤ 1
      go true = omega arith
      go false = omega arith

  keeps-each : Keeps allowed (alphabetic a allowed)
  keeps-each p b = go (allowed p (value_of a b)) refl
    where
      go : (t : Bool) → allowed p (value_of a b) ≡ t → Piece allowed p (single t (value_of a b))
      go true e = e
      go false e = tt

-- the bytes of a table are bytes
pub byte_small : (a : Alphabet) → every 0 (λ v b. ltb b 256) 0 a.chars ≡ true → (v : ℕ) → v < size a → byte_of a v < 256
unfolding byte_of
byte_small a t v h = ltb-true (byte_of a v) 256 (every-at 0 (λ v b. ltb b 256) a.chars t v h)

small_by : (a : Alphabet) → Proper a → every 0 (λ v b. ltb b 256) 0 a.chars ≡ true → (b : ℕ) → value_of a b < size a → b < 256
small_by a q t b h = rw (byte-value a q b h) at (byte_small a t (value_of a b) h)

plain-all : (a : Alphabet) → Proper a → every 0 (λ v b. ltb b 256) 0 a.chars ≡ true → Valid (plain a) × Single (plain a) × Keeps (anywhere a) (plain a)
unfolding plain
plain-all a q t =
    let in-it : (p : Place) (v : ℕ) → ltb v (size a) ≡ true → v < size a = λ p v e. ltb-true v (size a) e in
    (valid a q (small_by a q t) (anywhere a) in-it, alone-each a q (small_by a q t) (anywhere a) in-it, keeps-each a q (small_by a q t) (anywhere a) in-it)

plain-alone : (a : Alphabet) → Proper a → every 0 (λ v b. ltb b 256) 0 a.chars ≡ true → (p : Place) (v : ℕ) → byte_for (plain a) p (v ∷ []) ≡ pick (ltb v (size a)) (byte_of a v) 256
unfolding plain
plain-alone a q t p v = alone-in a q (small_by a q t) (anywhere a) (λ p v e. ltb-true v (size a) e) p v (ltb v (size a)) refl

plain-pair : (a : Alphabet) (p : Place) (c d : ℕ) (cs : List ℕ) → byte_for (plain a) p (c ∷ d ∷ cs) ≡ 256
unfolding plain
plain-pair a p c d cs = for-none (plain a) p (c ∷ d ∷ cs) (λ b e. no-pair (ltb (value_of a b) (size a)) (value_of a b) c d cs e)

pub alone39 : (p : Place) (v : ℕ) → byte_for (plain alphabet39) p (v ∷ []) ≡ pick (ltb v 43) (byte_of alphabet39 v) 256
unfolding alphabet39 chars39
alone39 = plain-alone alphabet39 proper39 refl

pub alone-digits : (p : Place) (v : ℕ) → byte_for (plain alphabet_digits) p (v ∷ []) ≡ pick (ltb v 10) (byte_of alphabet_digits v) 256
unfolding alphabet_digits table44
alone-digits = plain-alone alphabet_digits proper-digits refl

pub pair39 : (p : Place) (c d : ℕ) (cs : List ℕ) → byte_for (plain alphabet39) p (c ∷ d ∷ cs) ≡ 256
pair39 = plain-pair alphabet39

pub pair-digits : (p : Place) (c d : ℕ) (cs : List ℕ) → byte_for (plain alphabet_digits) p (c ∷ d ∷ cs) ≡ 256
pair-digits = plain-pair alphabet_digits

pub plain39 : Valid (plain alphabet39) × Single (plain alphabet39) × Keeps (anywhere alphabet39) (plain alphabet39)
unfolding alphabet39 chars39
plain39 = plain-all alphabet39 proper39 refl

pub plain-digits : Valid (plain alphabet_digits) × Single (plain alphabet_digits) × Keeps (anywhere alphabet_digits) (plain alphabet_digits)
unfolding alphabet_digits table44
plain-digits = plain-all alphabet_digits proper-digits refl

-- nothing but its own byte draws a character
module _ (a : Alphabet) (q : Proper a) (t : every 0 (λ v b. ltb b 256) 0 a.chars ≡ true) where
  no_shift : (end : Bool) (c : ℕ) → (plain a).shift end c ≡ false
  unfolding plain
  no_shift end c = refl

  gave-own : (p : Place) (at c : ℕ) (z : Reading) → c < size a → gave at (byte_for (plain a) p (c ∷ [])) z ≡ push (byte_of a c) z
  gave-own p at c z h = rw (plain-alone a q t p c, lt-ltb c (size a) h, lt-ltb (byte_of a c) 256 (byte_small a t c h))

  unspell-own : (cs : List ℕ) (start : Bool) (at : ℕ) → Below (size a) cs → unspell (plain a) start at cs ≡ found (map (byte_of a) cs)
  unspell-own [] start at b = refl
  unspell-own (c ∷ []) start at b = gave-own (stands start []) at c (found []) b.0
  unspell-own (c ∷ d ∷ cs) start at b =
      rw (no_shift _ c, gave-own (stands start (d ∷ cs)) at c (unspell (plain a) false (suc at) (d ∷ cs)) b.0, unspell-own (d ∷ cs) false (suc at) b.1)

pub back39 : (cs : List ℕ) → Below 43 cs → unspell (plain alphabet39) true 0 cs ≡ found (map (byte_of alphabet39) cs)
unfolding alphabet39 chars39
back39 cs = unspell-own alphabet39 proper39 refl cs true 0

pub back-digits : (cs : List ℕ) → Below 10 cs → unspell (plain alphabet_digits) true 0 cs ≡ found (map (byte_of alphabet_digits) cs)
unfolding alphabet_digits table44
back-digits cs = unspell-own alphabet_digits proper-digits refl cs true 0

pub placed-in : (end : Bool) (v : ℕ) → placed end v ≡ true → v < 20
placed-in true v e = ltb-true v 20 (both_right (leb 16 v) (ltb v 20) e)
placed-in false v e = omega (arith, ltb-true v 16 e)

lettered-in : (p : Place) (v : ℕ) → lettered p v ≡ true → v < 20
lettered-in p v e = placed-in (is_end p) v e

pub codabar-all : Valid codabar_coder × Single codabar_coder × Keeps lettered codabar_coder
unfolding codabar_coder alphabet_codabar table41
codabar-all =
    let s : (b : ℕ) → value_of alphabet_codabar b < 20 → b < 256 = small_by alphabet_codabar proper-codabar refl in
    (valid alphabet_codabar proper-codabar s lettered lettered-in, alone-each alphabet_codabar proper-codabar s lettered lettered-in, keeps-each alphabet_codabar proper-codabar s lettered lettered-in)

pub alone-codabar : (p : Place) (v : ℕ) → byte_for codabar_coder p (v ∷ []) ≡ pick (lettered p v) (byte_of alphabet_codabar v) 256
unfolding codabar_coder alphabet_codabar table41
alone-codabar p v = alone-in alphabet_codabar proper-codabar (small_by alphabet_codabar proper-codabar refl) lettered lettered-in p v (lettered p v) refl

pub pair-codabar : (p : Place) (c d : ℕ) (cs : List ℕ) → byte_for codabar_coder p (c ∷ d ∷ cs) ≡ 256
unfolding codabar_coder
pair-codabar p c d cs = for-none codabar_coder p (c ∷ d ∷ cs) (λ b e. no-pair (lettered p (value_of alphabet_codabar b)) (value_of alphabet_codabar b) c d cs e)

-- ---- full ASCII

-- the byte that an item stands for, the drawing codes read the other way: characters from one on to another stand for the
-- bytes from a third on
abbrev through : List (ℕ × ℕ × ℕ) → ℕ → ℕ
through [] v = 256
through (r ∷ rs) v =
    let n = through rs v in
    pick (leb r.0 v && leb v r.1) (r.2 + (v - r.0)) n

unfoldable pub back : List ℕ → ℕ
back [] = 256
back (v ∷ []) = pick (ltb v 39) (byte_of alphabet39 v) 256
back (c ∷ v ∷ []) =
    let slash = through ((10, 21, 0x21) ∷ (24, 24, 0x2F) ∷ (35, 35, 0x3A) ∷ []) v in
    let plus = through ((10, 35, 0x61) ∷ []) v in
    let percent = through ((15, 19, 0x3B) ∷ (20, 24, 0x5B) ∷ (25, 29, 0x7B) ∷ (31, 31, 0x40) ∷ (32, 32, 0x60) ∷ []) v in
    let other = pick (eqb c 42) percent 256 in
    let next = pick (eqb c 41) plus other in
    pick (eqb c 40) slash next
back (c ∷ v ∷ x ∷ cs) = 256

abbrev fine : ℕ → List ℕ → Bool
fine b [] = true
fine b (c ∷ []) = not (full_coder.shift true c) && eqb (back (c ∷ [])) b
fine b (c ∷ d ∷ []) = full_coder.shift true c && eqb (back (c ∷ d ∷ [])) b
fine b (c ∷ d ∷ e ∷ cs) = false

-- and every character is one of the 43
abbrev sound : ℕ → List ℕ → Bool
sound b p = below-test 43 p && fine b p

-- neither what is drawn nor what is a shift looks at the place
abbrev edge : Place
edge = record { first = true; last = true }

all_sound : upto 256 (λ b. sound b (full_coder.drawn edge b)) ≡ true
unfolding back byte_of full_coder shifts value_of alphabet39 chars39 index_in drawing ranges
all_sound = refl

pub full-shift : (s t : Bool) (c : ℕ) → full_coder.shift s c ≡ full_coder.shift t c
unfolding full_coder
full-shift s t c = refl

abbrev ending : List Range → Bool
ending [] = true
ending (r ∷ rs) = let t = ending rs in ltb r.to 256 && t

past : (rs : List Range) (b : ℕ) → ending rs ≡ true → 256 ≤ b → drawn_in rs b ≡ []
past [] b t h = refl
past (r ∷ rs) b t h =
    let l : leb b r.to ≡ false = lt-leb b r.to (omega (arith, ltb-true r.to 256 (both_left (ltb r.to 256) (ending rs) t))) in
    rw (l, and-false (leb r.from b)) (past rs b (both_right (ltb r.to 256) (ending rs) t) h)

full-past : (p : Place) (b : ℕ) → 256 ≤ b → full_coder.drawn p b ≡ []
unfolding full_coder drawing ranges
full-past p b h = rw (past ranges b refl h)

none-some : (x : ℕ) (xs : List ℕ) → [] ≡ x ∷ xs → ⊥
none-some x xs e = let z : ◌≡◌ {A = ℕ} 0 1 = cc in omega arith

fine_back : (b x : ℕ) (xs : List ℕ) → fine b (x ∷ xs) ≡ true → back (x ∷ xs) ≡ b
fine_back b x [] f = eqb-true _ b (both_right (not (full_coder.shift true x)) _ f)
fine_back b x (d ∷ []) f = eqb-true _ b (both_right (full_coder.shift true x) _ f)
fine_back b x (d ∷ e ∷ cs) f = let z : ◌≡◌ {A = ℕ} 0 1 = cc in absurd (omega arith)

sound-at : (p : Place) (b : ℕ) (cs : List ℕ) → full_coder.drawn p b ≡ cs → b < 256 → sound b cs ≡ true
unfolding full_coder
sound-at p b cs e h = rw e at (upto-at 256 (λ b. sound b (full_coder.drawn edge b)) all_sound b h)

fine-at : (p : Place) (b : ℕ) (cs : List ℕ) → full_coder.drawn p b ≡ cs → b < 256 → fine b cs ≡ true
fine-at p b cs e h = both_right (below-test 43 cs) (fine b cs) (sound-at p b cs e h)

back-own : (p : Place) (b x : ℕ) (xs : List ℕ) → full_coder.drawn p b ≡ x ∷ xs → (back (x ∷ xs) ≡ b) × (b < 256)
back-own p b x xs e = go (dec_lt b 256)
  where
    go : Dec (b < 256) → (back (x ∷ xs) ≡ b) × (b < 256)
    go (yes h) = (fine_back b x xs (fine-at p b (x ∷ xs) e h), h)
    go (no h) = absurd (none-some x xs (sym (full-past p b (omega arith)) ∙ e))

pub full-own : (p : Place) (b x : ℕ) (xs : List ℕ) → full_coder.drawn p b ≡ x ∷ xs → byte_for full_coder p (x ∷ xs) ≡ b
full-own p b x xs e =
    for-own full_coder p (x ∷ xs) b e (back-own p b x xs e).1 (λ a f. sym (back-own p a x xs f).0 ∙ (back-own p b x xs e).0)

pub full-none : (p : Place) (x : ℕ) (xs : List ℕ) → back (x ∷ xs) ≡ 256 → byte_for full_coder p (x ∷ xs) ≡ 256
full-none p x xs n = for-none full_coder p (x ∷ xs) (λ b e. omega (arith, (back-own p b x xs e).0, (back-own p b x xs e).1))

full-view : (p : Place) (b : ℕ) (cs : List ℕ) → full_coder.drawn p b ≡ cs → fine b cs ≡ true → b < 256 → Drawn full_coder p b
full-view p b [] e f h = none e
full-view p b (c ∷ []) e f h =
    alone c e (λ l end. full-shift end true c ∙ not-true _ (both_left _ (eqb (back (c ∷ [])) b) f)) (full-own p b c [] e) h
full-view p b (c ∷ d ∷ []) e f h = pair c d e (full-shift p.last true c ∙ both_left _ (eqb (back (c ∷ d ∷ [])) b) f) (full-own p b c (d ∷ []) e) h
full-view p b (c ∷ d ∷ x ∷ cs) e f h = let q : ◌≡◌ {A = ℕ} 0 1 = cc in absurd (omega arith)

first-same : (f g : ℕ → Bool) (l : List ℕ) → ((b : ℕ) → f b ≡ g b) → first f l ≡ first g l
first-same f g [] h = refl
first-same f g (x ∷ xs) h = rw (h x, first-same f g xs h)

-- what draws the same finds the same
pub for-same : (k l : Coder) (p q : Place) (item : List ℕ) → ((b : ℕ) → k.drawn p b ≡ l.drawn q b) → byte_for k p item ≡ byte_for l q item
unfolding byte_for
for-same k l p q item h = first-same (λ b. alike (k.drawn p b) item) (λ b. alike (l.drawn q b) item) (counted 0 256) (λ b. rw (h b))

pub full-places : (p q : Place) (item : List ℕ) → byte_for full_coder p item ≡ byte_for full_coder q item
unfolding full_coder
full-places p q item = for-same full_coder full_coder p q item (λ b. refl)

pub full-valid : Valid full_coder
full-valid p b = go (dec_lt b 256)
  where
    go : Dec (b < 256) → Drawn full_coder p b
    go (yes h) = full-view p b (full_coder.drawn p b) refl (fine-at p b (full_coder.drawn p b) refl h) h
    go (no h) = none (full-past p b (omega arith))

keeps-piece : (p : Place) (b : ℕ) (cs : List ℕ) → sound b cs ≡ true → Piece (anywhere alphabet39) p cs
unfolding alphabet39 chars39
keeps-piece p b [] s = tt
keeps-piece p b (c ∷ []) s = both_left (ltb c 43) true (both_left (below-test 43 (c ∷ [])) _ s)
keeps-piece p b (c ∷ d ∷ []) s =
    let t : below-test 43 (c ∷ d ∷ []) ≡ true = both_left _ (fine b (c ∷ d ∷ [])) s in
    (both_left (ltb c 43) _ t, both_left (ltb d 43) true (both_right (ltb c 43) (ltb d 43 && true) t))
keeps-piece p b (c ∷ d ∷ x ∷ cs) s = none_both (both_right (below-test 43 (c ∷ d ∷ x ∷ cs)) false s)
  where
    none_both : ◌≡◌ {A = Bool} false true → ⊥
    none_both e = let z : ◌≡◌ {A = ℕ} 0 1 = cc in omega arith

pub full-keeps : Keeps (anywhere alphabet39) full_coder
full-keeps p b = go (dec_lt b 256)
  where
    go : Dec (b < 256) → Piece (anywhere alphabet39) p (full_coder.drawn p b)
    go (yes h) = keeps-piece p b (full_coder.drawn p b) (sound-at p b (full_coder.drawn p b) refl h)
    go (no h) = rw (full-past p b (omega arith)) tt

-- ---- the raw last byte

drawn-last : (p : Place) (b : ℕ) → p.last ≡ true → raw_coder.drawn p b ≡ (plain alphabet39).drawn p b
unfolding raw_coder
drawn-last p b l = rw l

drawn-inside : (p : Place) (b : ℕ) → p.last ≡ false → raw_coder.drawn p b ≡ full_coder.drawn p b
unfolding raw_coder
drawn-inside p b l = rw l

for-last : (p : Place) (item : List ℕ) → p.last ≡ true → byte_for raw_coder p item ≡ byte_for (plain alphabet39) p item
for-last p item l = for-same raw_coder (plain alphabet39) p p item (λ b. drawn-last p b l)

for-inside : (p : Place) (item : List ℕ) → p.last ≡ false → byte_for raw_coder p item ≡ byte_for full_coder p item
for-inside p item l = for-same raw_coder full_coder p p item (λ b. drawn-inside p b l)

pub raw-alone-last : (p : Place) (v : ℕ) → p.last ≡ true → byte_for raw_coder p (v ∷ []) ≡ byte_for (plain alphabet39) p (v ∷ [])
raw-alone-last p v = for-last p (v ∷ [])

pub raw-alone-inside : (p : Place) (v : ℕ) → p.last ≡ false → byte_for raw_coder p (v ∷ []) ≡ byte_for full_coder p (v ∷ [])
raw-alone-inside p v = for-inside p (v ∷ [])

pub raw-pair-last : (p : Place) (c d : ℕ) (cs : List ℕ) → p.last ≡ true → byte_for raw_coder p (c ∷ d ∷ cs) ≡ 256
raw-pair-last p c d cs l = for-last p (c ∷ d ∷ cs) l ∙ pair39 p c d cs

pub raw-pair-inside : (p : Place) (c d : ℕ) (cs : List ℕ) → p.last ≡ false → byte_for raw_coder p (c ∷ d ∷ cs) ≡ byte_for full_coder p (c ∷ d ∷ cs)
raw-pair-inside p c d cs = for-inside p (c ∷ d ∷ cs)

raw-unshifted : (end : Bool) (c : ℕ) → full_coder.shift end c ≡ false → raw_coder.shift end c ≡ false
unfolding raw_coder
raw-unshifted end c e = rw (e, and-false (not end))

raw-shifted : (end : Bool) (c : ℕ) → end ≡ false → full_coder.shift end c ≡ true → raw_coder.shift end c ≡ true
unfolding raw_coder
raw-shifted end c l e = rw (e, l)

view-last : (p : Place) (b : ℕ) → p.last ≡ true → Drawn (plain alphabet39) p b → Drawn raw_coder p b
view-last p b l (none e) = none (drawn-last p b l ∙ e)
view-last p b l (alone c e s o h) = alone c (drawn-last p b l ∙ e) (λ n end. absurd (both (sym l ∙ n))) (for-last p (c ∷ []) l ∙ o) h
  where
    both : true ≡ false → ⊥
    both q = let z : ◌≡◌ {A = ℕ} 0 1 = cc in omega arith
view-last p b l (pair c d e s o h) = absurd (omega (arith, h, sym o ∙ pair39 p c d []))

view-inside : (p : Place) (b : ℕ) → p.last ≡ false → Drawn full_coder p b → Drawn raw_coder p b
view-inside p b l (none e) = none (drawn-inside p b l ∙ e)
view-inside p b l (alone c e s o h) = alone c (drawn-inside p b l ∙ e) (λ n end. raw-unshifted end c (s n end)) (for-inside p (c ∷ []) l ∙ o) h
view-inside p b l (pair c d e s o h) = pair c d (drawn-inside p b l ∙ e) (raw-shifted p.last c l s) (for-inside p (c ∷ d ∷ []) l ∙ o) h

pub raw-valid : Valid raw_coder
raw-valid p b = go p.last refl
  where
    go : (t : Bool) → p.last ≡ t → Drawn raw_coder p b
    go true l = view-last p b l (plain39.0 p b)
    go false l = view-inside p b l (full-valid p b)

pub raw-keeps : Keeps (anywhere alphabet39) raw_coder
raw-keeps p b = go p.last refl
  where
    go : (t : Bool) → p.last ≡ t → Piece (anywhere alphabet39) p (raw_coder.drawn p b)
    go true l = rw (drawn-last p b l) (plain39.2 p b)
    go false l = rw (drawn-inside p b l) (full-keeps p b)

pub raw-last : (p : Place) (b : ℕ) → p.last ≡ true → length (raw_coder.drawn p b) ≤ 1
raw-last p b l = rw (drawn-last p b l) (plain39.1 p b)
