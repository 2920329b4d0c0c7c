-- Rows and the choices that the free units show: each tells the other, for every symbology. What each does to a row has a way back, and the
-- choices that fit the units are just those of the rows that are ready.
--
--   shows                    the choices, by the number of the free unit
--   Many, many-fits          the choices that fit n units of one set are n at least, the first n each of the set, and the others fit the rest
--   Halves, halves-fit       so of two halves
--   later, entries, whole    the entries of a list, one by one, are the list; map_same, a map that changes nothing below b
--   Turns                    a symbology's choices and characters, each way
--   plain-turns              where the choices are the row
--   raised, raised_at        Codabar: 16 is put back at both ends; so are the characters
--   raised-lowered, lowered-raised    each undoes the other
--   inner-fits, codabar-fits    the choices that fit are as many as the characters, and then these may stand where they do
--   apart, apart-at          Interleaved: the two digits of each pair; so are the characters
--   apart-paired, paired-apart    each undoes the other; apart_below, they are digits
--   front, front_at          EAN-13: the first digit by the parities, and the digits; so are the characters
--   sides-digits, sides-bits, first-sided    the digits, the sets and the first digit of what a row shows
--   top, sides-again         a bit of a number that bits make; so the digits and the parities show the choices again
--   turns                    each way for every symbology that has a count
--
-- Assumes nothing.
use Rattle.std.proofs.Common.{◌≡◌, refl, sym, ap, ◌∙◌, Bool, true, false, ◌&&◌, ◌||◌, List, [], ◌∷◌, ◌++◌, map, ℕ, zero, suc, ◌+◌, ◌*◌, ◌-◌, ◌/◌, ◌%◌, ◌^◌, ◌<◌, ◌≤◌, arith, le_of_suc-le-suc, not-suc-le-zero, div-one, pow-suc, suc-add, eqb, length, get_or, take, drop, length-drop, take_all, length-take-le, ltb-false, lt-ltb, le-ltb, le-leb}
use native.Mathlib.Nat.{div-div-eq-div-mul}
use lib.Dec.{eqb-zero-suc, eqb-suc-zero, eqb-suc-suc}
use Rattle.std.proofs.lemmas.List.{length-map}
use Rattle.laws.specs.Search.{pick, index_in}
use Rattle.laws.specs.Units.{Kind, fixed, free, Fits}
use Rattle.laws.specs.Shapes.{many}
use Rattle.laws.specs.Spelling.{stands, is_end, counted as up_from}
use Rattle.laws.proofs.Finite.{both_left, both_right, line, From}
use Rattle.laws.proofs.Search.{index-hit}
use Rattle.laws.proofs.Spelling.{Below}
use Rattle.tables.specs.Bits.{bit, number, number_from}
use Rattle.tables.specs.Alphabet.{size, rows_of}
use Rattle.tables.specs.Code39.{chars39, alphabet39, rows39, star39, table42}
use Rattle.tables.specs.Codabar.{table41, alphabet_codabar, inner_rows, letter_rows}
use Rattle.tables.specs.TwoOfFive.{table44, alphabet_digits, digit_rows, industrial_rows, industrial_start, industrial_stop, interleaved_rows, interleaved_stop, matrix_rows, matrix_ends}
use Rattle.tables.specs.Ean.{table52, patterns, parities, odd_rows, even_rows, left_rows, right_rows, guard, centre, parities_of, first_digit}
use Rattle.symbologies.specs.Coders.{placed}
use Rattle.symbologies.specs.Parts.{parted, bare, part_units, between, starred, lettering, industrial, interleaved, matrix, halved, Shown, each, lowered, paired, digit_at, sides, sided, parities_in, side_at}
use Rattle.symbologies.specs.Symbologies.{symbologies, symbology_of}
use Rattle.symbologies.specs.Strips.{units_of, counted, all_allowed, ready, chars_of}
use Rattle.symbologies.proofs.Counted.{counted-codabar, counted-even, counted-ean13, counted-ean8, counted-upc, by_number}
use Rattle.symbologies.proofs.Ready.{ready-counted, ready-allowed, ready-below, below-allowed, letter-high}

abbrev pub shows : List ℕ → Shown
shows cs = λ i. get_or cs i 0

-- ---- what fits

record Many (n b : ℕ) (rest : List Kind) (cs : List ℕ) : Type 0 where
  few : n ≤ length cs
  below : Below b (take n cs)
  fits : Fits rest (drop n cs)

-- a group whose one free unit comes from k
module _ (k : List (List ℕ)) (group rest : List Kind) (one : (ks : List Kind) (cs : List ℕ) → Fits (group ++ ks) cs → Fits (free k ∷ ks) cs) where
  many-fits : (n : ℕ) (cs : List ℕ) → Fits (many n group rest) cs → Many n (length k) rest cs
  many-fits zero cs f = record { few = omega arith; below = tt; fits = f }
  many-fits (suc n) [] f = absurd (one (many n group rest) [] f)
  many-fits (suc n) (c ∷ cs) f =
      let t : (c < length k) × Fits (many n group rest) cs = one (many n group rest) (c ∷ cs) f in
      let w : Many n (length k) rest cs = many-fits n cs t.1 in
      record { few = omega (arith, w.few); below = (t.0, w.below); fits = w.fits }

-- where nothing free stands behind them
all-fits : (n b : ℕ) (rest : List Kind) (cs : List ℕ) → ((ds : List ℕ) → Fits rest ds → Fits [] ds) → Many n b rest cs → (n ≡ length cs) × Below b cs
all-fits n b rest cs none w =
    let e : length (drop n cs) ≡ 0 = ended (drop n cs) (none (drop n cs) w.fits) in
    let l : n ≡ length cs = omega (arith, length-drop n cs, w.few) in
    (l, rw (take_all n cs (omega arith)) at w.below)
  where
    ended : (cs : List ℕ) → Fits [] cs → length cs ≡ 0
    ended [] f = refl
    ended (c ∷ cs) f = absurd f

between-fits : (start : List ℕ) (rows : List (List ℕ)) (stop : List ℕ) (n : ℕ) (cs : List ℕ) → Fits (part_units n (between start rows stop)) cs
    → (n ≡ length cs) × Below (length rows) cs
between-fits start rows stop n cs f =
    all-fits n (length rows) (parted (fixed stop)) cs (λ ds g. g) (many-fits rows (parted (free rows)) (parted (fixed stop)) (λ ks ds g. g) n cs f)

record Halves (k b : ℕ) (cs : List ℕ) : Type 0 where
  long : length cs ≡ k + k
  left : Below b (take k cs)
  right : Below 10 (drop k cs)

halves-fit : (k : ℕ) (left : List (List ℕ)) (n : ℕ) (cs : List ℕ) → Fits (part_units n (halved k left)) cs → Halves k (length left) cs
unfolding halved right_rows patterns table52
halves-fit k left n cs f =
    let rest : List Kind = many k (bare (free right_rows)) (bare (fixed guard)) in
    let w : Many k (length left) (fixed centre ∷ rest) cs = many-fits left (bare (free left)) (fixed centre ∷ rest) (λ ks ds g. g) k cs f in
    let v : Many k 10 (bare (fixed guard)) (drop k cs) = many-fits right_rows (bare (free right_rows)) (bare (fixed guard)) (λ ks ds g. g) k (drop k cs) w.fits in
    let u : (k ≡ length (drop k cs)) × Below 10 (drop k cs) = all-fits k 10 (bare (fixed guard)) (drop k cs) (λ ds g. g) v in
    record { long = omega (arith, u.0, length-drop k cs, w.few); left = w.below; right = u.1 }

below-join : (b k : ℕ) (cs : List ℕ) → Below b (take k cs) → Below b (drop k cs) → Below b cs
below-join b zero cs p q = q
below-join b (suc k) [] p q = tt
below-join b (suc k) (c ∷ cs) p q = (p.0, below-join b k cs p.1 q)

odd-fits : (k n : ℕ) (cs : List ℕ) → n ≡ k + k → Fits (part_units n (halved k odd_rows)) cs → (n ≡ length cs) × Below 10 cs
unfolding odd_rows patterns table52
odd-fits k n cs e f = let h : Halves k 10 cs = halves-fit k odd_rows n cs f in (omega (arith, h.long), below-join 10 k cs h.left h.right)

-- ---- the entries of a list

later : (f : ℕ → ℕ) (i n : ℕ) → map f (up_from (suc i) n) ≡ map (λ j. f (suc j)) (up_from i n)
later f i zero = refl
later f i (suc n) = ap (λ (l : List ℕ). f (suc i) ∷ l) (later f (suc i) n)

entries : (g : ℕ → ℕ) (cs : List ℕ) (k : ℕ) → k ≤ length cs → map (λ i. g (get_or cs i 0)) (up_from 0 k) ≡ map g (take k cs)
entries g cs zero h = refl
entries g [] (suc k) h = absurd (not-suc-le-zero h)
entries g (c ∷ cs) (suc k) h = ap (λ (l : List ℕ). g c ∷ l) (later (λ i. g (get_or (c ∷ cs) i 0)) 0 k ∙ entries g cs k (le_of_suc-le-suc h))

whole : (g : ℕ → ℕ) (cs : List ℕ) (n : ℕ) → n ≡ length cs → map (λ i. g (get_or cs i 0)) (up_from 0 n) ≡ map g cs
whole g cs n e = entries g cs n (omega arith) ∙ ap (map g) (take_all n cs (omega arith))

map_same : (g : ℕ → ℕ) (b : ℕ) (cs : List ℕ) → ((c : ℕ) → c < b → g c ≡ c) → Below b cs → map g cs ≡ cs
map_same g b [] h p = refl
map_same g b (c ∷ cs) h p = rw (h c p.0, map_same g b cs h p.1)

-- ---- each way

pub record Turns (s : ℕ) : Type 0 where
  pub back : List ℕ → List ℕ
  pub chars : (n : ℕ) (cs : List ℕ) → counted s n ≡ true → Fits (units_of s n) cs → chars_of s n (shows cs) ≡ back cs
  pub like : (r : List ℕ) → ready s r ≡ true → (symbology_of s).shows.unlike (shows ((symbology_of s).shows.choices r)) ≡ false
  pub there : (r : List ℕ) → ready s r ≡ true → back ((symbology_of s).shows.choices r) ≡ r
  pub allows : (n : ℕ) (cs : List ℕ) → counted s n ≡ true → Fits (units_of s n) cs → (symbology_of s).shows.unlike (shows cs) ≡ false → all_allowed s true (back cs) ≡ true
  pub again : (n : ℕ) (cs : List ℕ) → counted s n ≡ true → Fits (units_of s n) cs → (symbology_of s).shows.unlike (shows cs) ≡ false → (symbology_of s).shows.choices (back cs) ≡ cs

-- ---- the choices are the row

module _ (s : ℕ) (n3 : eqb s 3 ≡ false) (p : (symbology_of s).shows ≡ each)
    (t : (n : ℕ) (cs : List ℕ) → counted s n ≡ true → Fits (units_of s n) cs → (n ≡ length cs) × Below (size (symbology_of s).alphabet) cs) where
  plain-chars : (n : ℕ) (cs : List ℕ) → counted s n ≡ true → Fits (units_of s n) cs → chars_of s n (shows cs) ≡ cs
  unfolding chars_of
  plain-chars n cs k f =
      let w : (n ≡ length cs) × Below (size (symbology_of s).alphabet) cs = t n cs k f in
      rw p (whole (λ c. c) cs n w.0 ∙ map_same (λ c. c) (size (symbology_of s).alphabet) cs (λ c h. refl) w.1)

  plain-turns : Turns s
  plain-turns = record {
    back = λ cs. cs;
    chars = plain-chars;
    like = λ r h. rw p;
    there = λ r h. rw p;
    allows = λ n cs k f u. below-allowed s n3 true cs (t n cs k f).1;
    again = λ n cs k f u. rw p;
  }

-- ---- Codabar: a letter at both ends

abbrev raised : Bool → List ℕ → List ℕ
raised start [] = []
raised start (c ∷ cs) = (c + pick (is_end (stands start cs)) 16 0) ∷ raised false cs

raised_at : (start : Bool) (cs : List ℕ) → map (λ j. get_or cs j 0 + pick ((start && eqb j 0) || eqb (j + 1) (length cs)) 16 0) (up_from 0 (length cs)) ≡ raised start cs
raised_at start [] = refl
raised_at start (c ∷ cs) =
    let h : ℕ → ℕ = λ j. get_or (c ∷ cs) j 0 + pick ((start && eqb j 0) || eqb (j + 1) (suc (length cs))) 16 0 in
    let e : map h (up_from 1 (length cs)) ≡ raised false cs = later h 0 (length cs) ∙ ap (λ (f : ℕ → ℕ). map f (up_from 0 (length cs))) (λ k j. inside start (length cs) j (get_or cs j 0) k) ∙ raised_at false cs in
    rw (e, first start cs)
  where
    inside : (b : Bool) (n j x : ℕ) → x + pick ((b && eqb (suc j) 0) || eqb (suc j + 1) (suc n)) 16 0 ≡ x + pick ((false && eqb j 0) || eqb (j + 1) n) 16 0
    inside true n j x = rw (eqb-suc-zero j, suc-add, eqb-suc-suc (j + 1) n)
    inside false n j x = rw (suc-add, eqb-suc-suc (j + 1) n)

    first : (b : Bool) (cs : List ℕ) → ((b && eqb 0 0) || eqb (0 + 1) (suc (length cs))) ≡ is_end (stands b cs)
    first true [] = refl
    first false [] = refl
    first true (c ∷ cs) = refl
    first false (c ∷ cs) = rw (eqb-suc-suc 0 (suc (length cs)), eqb-zero-suc (length cs))

end-raised : (start : Bool) (cs : List ℕ) → is_end (stands start (raised false cs)) ≡ is_end (stands start cs)
end-raised start [] = refl
end-raised start (c ∷ cs) = refl

end-lowered : (start : Bool) (cs : List ℕ) → is_end (stands start (lowered false cs)) ≡ is_end (stands start cs)
end-lowered start [] = refl
end-lowered start (c ∷ cs) = refl

raised-lowered : (start : Bool) (cs : List ℕ) → lowered start (raised start cs) ≡ cs
raised-lowered start [] = refl
raised-lowered start (c ∷ cs) = rw (end-raised start cs, one (is_end (stands start cs)), raised-lowered false cs)
  where
    one : (b : Bool) → pick b (c + pick b 16 0 - 16) (c + pick b 16 0) ≡ c
    one true = omega arith
    one false = omega arith

lowered-raised : (start : Bool) (r : List ℕ) → all_allowed 3 start r ≡ true → raised start (lowered start r) ≡ r
unfolding symbology_of symbologies
lowered-raised start [] e = refl
lowered-raised start (c ∷ cs) e =
    rw (
      end-lowered start cs,
      one (is_end (stands start cs)) (both_left (placed (is_end (stands start cs)) c) (all_allowed 3 false cs) e),
      lowered-raised false cs (both_right (placed (is_end (stands start cs)) c) (all_allowed 3 false cs) e),
    )
  where
    one : (b : Bool) → placed b c ≡ true → pick b (c - 16) c + pick b 16 0 ≡ c
    one true h = omega (arith, letter-high c h)
    one false h = omega arith

inner-fits : (n : ℕ) (cs : List ℕ) → Fits (many n (parted (free inner_rows)) (parted (free letter_rows))) cs → (length cs ≡ suc n) × (all_allowed 3 false (raised false cs) ≡ true)
unfolding symbology_of symbologies inner_rows letter_rows rows_of alphabet_codabar table41
inner-fits zero [] f = absurd f
inner-fits zero (c ∷ []) f = (refl, rw (le-leb 16 (c + 16) (omega arith), lt-ltb (c + 16) 20 (omega (arith, f.0))))
inner-fits zero (c ∷ d ∷ cs) f = absurd f.1
inner-fits (suc n) [] f = absurd f
inner-fits (suc n) (c ∷ []) f = absurd (omega (arith, (inner-fits n [] f.1).0))
inner-fits (suc n) (c ∷ d ∷ cs) f =
    let t : (length (d ∷ cs) ≡ suc n) × (all_allowed 3 false (raised false (d ∷ cs)) ≡ true) = inner-fits n (d ∷ cs) f.1 in
    (ap suc t.0, rw (lt-ltb (c + 0) 16 (omega (arith, f.0))) t.1)

codabar-fits : (n : ℕ) (cs : List ℕ) → Fits (part_units n lettering) cs → (length cs ≡ suc (suc (n - 2))) × (all_allowed 3 true (raised true cs) ≡ true)
unfolding lettering symbology_of symbologies letter_rows rows_of alphabet_codabar table41
codabar-fits n [] f = absurd f
codabar-fits n (c ∷ []) f = absurd (omega (arith, (inner-fits (n - 2) [] f.1).0))
codabar-fits n (c ∷ d ∷ cs) f =
    let t : (length (d ∷ cs) ≡ suc (n - 2)) × (all_allowed 3 false (raised false (d ∷ cs)) ≡ true) = inner-fits (n - 2) (d ∷ cs) f.1 in
    (ap suc t.0, rw (le-leb 16 (c + 16) (omega arith), lt-ltb (c + 16) 20 (omega (arith, f.0))) t.1)

codabar-chars : (n : ℕ) (cs : List ℕ) → n ≡ length cs → chars_of 3 n (shows cs) ≡ raised true cs
unfolding chars_of symbology_of symbologies
codabar-chars n cs e = rw e (raised_at true cs)

codabar-turns : Turns 3
unfolding units_of symbology_of symbologies
codabar-turns = record {
  back = raised true;
  chars = λ n cs k f. codabar-chars n cs (omega (arith, (codabar-fits n cs f).0, (counted-codabar n k).0));
  like = λ r h. refl;
  there = λ r h. lowered-raised true r (ready-allowed 3 r h);
  allows = λ n cs k f u. (codabar-fits n cs f).1;
  again = λ n cs k f u. raised-lowered true cs;
}

-- ---- Interleaved: two digits of a pair

abbrev apart : List ℕ → List ℕ
apart [] = []
apart (c ∷ cs) = c / 10 ∷ c % 10 ∷ apart cs

apart-at : (n : ℕ) (cs : List ℕ) (k : ℕ) → k ≡ 2 * length cs → map (digit_at n (shows cs)) (up_from 0 k) ≡ apart cs
apart-at n [] zero e = refl
apart-at n [] (suc k) e = absurd (omega arith)
apart-at n (c ∷ cs) zero e = absurd (omega arith)
apart-at n (c ∷ cs) (suc zero) e = absurd (omega arith)
apart-at n (c ∷ cs) (suc (suc k)) e =
    let h : ℕ → ℕ = digit_at n (shows (c ∷ cs)) in
    let rest : map h (up_from 2 k) ≡ apart cs
    = later h 1 k ∙ later (λ j. h (suc j)) 0 k ∙ ap (λ (g : ℕ → ℕ). map g (up_from 0 k)) (λ i j. two j i) ∙ apart-at n cs k (omega arith) in
    rw rest
  where
    two : (j : ℕ) → digit_at n (shows (c ∷ cs)) (suc (suc j)) ≡ digit_at n (shows cs) j
    two j =
        let a : suc (suc j) % 2 ≡ j % 2 = omega arith in
        let b : suc (suc j) / 2 ≡ suc (j / 2) = omega arith in
        rw (a, b)

apart-paired : (cs : List ℕ) → paired (apart cs) ≡ cs
apart-paired [] = refl
apart-paired (c ∷ cs) = let e : 10 * (c / 10) + c % 10 ≡ c = omega arith in rw (e, apart-paired cs)

paired-apart : (r : List ℕ) → length r % 2 ≡ 0 → Below 10 r → apart (paired r) ≡ r
paired-apart [] e p = refl
paired-apart (a ∷ []) e p = absurd (omega arith)
paired-apart (a ∷ b ∷ cs) e p =
    let x : (10 * a + b) / 10 ≡ a = omega (arith, p.1.0) in
    let y : (10 * a + b) % 10 ≡ b = omega (arith, p.1.0) in
    rw (x, y, paired-apart cs (omega arith) p.1.1)

apart_below : (cs : List ℕ) → Below 100 cs → Below 10 (apart cs)
apart_below [] p = tt
apart_below (c ∷ cs) p = (omega (arith, p.0), (omega arith, apart_below cs p.1))

pairs-fit : (n : ℕ) (cs : List ℕ) → Fits (part_units n interleaved) cs → (n / 2 ≡ length cs) × Below 100 cs
unfolding interleaved interleaved_rows digit_rows rows_of alphabet_digits table44
pairs-fit n cs f =
    let rest : List Kind = bare (fixed interleaved_stop) in
    all-fits (n / 2) 100 rest cs (λ ds g. g) (many-fits interleaved_rows (bare (free interleaved_rows)) rest (λ ks ds g. g) (n / 2) cs f)

interleaved-chars : (n : ℕ) (cs : List ℕ) → n ≡ 2 * length cs → chars_of 5 n (shows cs) ≡ apart cs
unfolding chars_of symbology_of symbologies
interleaved-chars n cs e = apart-at n cs n e

interleaved-turns : Turns 5
unfolding units_of symbology_of symbologies alphabet_digits table44
interleaved-turns = record {
  back = apart;
  chars = λ n cs k f. interleaved-chars n cs (omega (arith, (pairs-fit n cs f).0, counted-even n k));
  like = λ r h. refl;
  there = λ r h. paired-apart r (omega (arith, counted-even (length r) (ready-counted 5 r h))) (ready-below 5 r refl h);
  allows = λ n cs k f u. below-allowed 5 refl true (apart cs) (apart_below cs (pairs-fit n cs f).1);
  again = λ n cs k f u. apart-paired cs;
}

-- ---- EAN-13: the first digit by the parities

abbrev front : List ℕ → List ℕ
front cs = first_digit (parities_in (shows cs)) ∷ map (λ c. c % 10) cs

parities-are : (cs : List ℕ) → 6 ≤ length cs → parities_in (shows cs) ≡ number (map (λ c. c / 10) (take 6 cs))
parities-are cs h = ap number (entries (λ c. c / 10) cs 6 h)

front_at : (n : ℕ) (cs : List ℕ) → length cs ≡ 12 → map (side_at n (shows cs)) (up_from 0 13) ≡ front cs
front_at n cs l =
    let rest : map (side_at n (shows cs)) (up_from 1 12) ≡ map (λ c. c % 10) cs
    = later (side_at n (shows cs)) 0 12 ∙ ap (λ (g : ℕ → ℕ). map g (up_from 0 12)) (λ k j. next j k) ∙ whole (λ c. c % 10) cs 12 (sym l) in
    ap (λ (r : List ℕ). first_digit (parities_in (shows cs)) ∷ r) rest
  where
    next : (j : ℕ) → side_at n (shows cs) (suc j) ≡ get_or cs j 0 % 10
    next j = let e : suc j - 1 ≡ j = omega arith in rw (eqb-suc-zero j, e)

-- the digits of what a row shows
sides-digits : (p k : ℕ) (cs : List ℕ) → k ≤ length cs → Below 10 cs → map (λ c. c % 10) (sides p k cs) ≡ cs
sides-digits p zero cs h b = map_same (λ c. c % 10) 10 cs (λ c l. omega arith) b
sides-digits p (suc k) [] h b = absurd (not-suc-le-zero h)
sides-digits p (suc k) (c ∷ cs) h b =
    let e : (10 * bit k p + c) % 10 ≡ c = omega (arith, b.0) in rw (e, sides-digits p k cs (le_of_suc-le-suc h) b.1)

-- and its sets
abbrev bits : ℕ → ℕ → List ℕ
bits zero p = []
bits (suc k) p = bit k p ∷ bits k p

sides-bits : (p k : ℕ) (cs : List ℕ) → k ≤ length cs → Below 10 cs → map (λ c. c / 10) (take k (sides p k cs)) ≡ bits k p
sides-bits p zero cs h b = refl
sides-bits p (suc k) [] h b = absurd (not-suc-le-zero h)
sides-bits p (suc k) (c ∷ cs) h b =
    let e : (10 * bit k p + c) / 10 ≡ bit k p = omega (arith, b.0) in rw (e, sides-bits p k cs (le_of_suc-le-suc h) b.1)

sides-long : (p k : ℕ) (cs : List ℕ) → k ≤ length cs → length (sides p k cs) ≡ length cs
sides-long p zero cs h = refl
sides-long p (suc k) [] h = absurd (not-suc-le-zero h)
sides-long p (suc k) (c ∷ cs) h = ap suc (sides-long p k cs (le_of_suc-le-suc h))

first_found : (d : ℕ) → d < 10 → first_digit (number (bits 6 (parities_of d))) ≡ d
unfolding first_digit index_in parities_of parities table52
first_found = line 10 (λ d. first_digit (number (bits 6 (parities_of d)))) (λ d. d) refl

first-sided : (d : ℕ) (cs : List ℕ) → 6 ≤ length cs → d < 10 → Below 10 cs → first_digit (parities_in (shows (sided (d ∷ cs)))) ≡ d
first-sided d cs h l b =
    let p : ℕ = parities_of d in
    let e : parities_in (shows (sides p 6 cs)) ≡ number (bits 6 p)
    = parities-are (sides p 6 cs) (omega (arith, sides-long p 6 cs h)) ∙ ap number (sides-bits p 6 cs h b) in
    ap first_digit e ∙ first_found d l

-- bits behind a number
top : (k a : ℕ) (bs : List ℕ) → length bs ≡ k → Below 2 bs → number_from a bs / 2 ^ k ≡ a
top zero a [] l b = div-one a
top zero a (x ∷ bs) l b = absurd (omega arith)
top (suc k) a [] l b = absurd (omega arith)
top (suc k) a (x ∷ bs) l b =
    rw (pow-suc 2 k) (sym (div-div-eq-div-mul (number_from (2 * a + x) bs) (2 ^ k) 2))
    ∙ ap (λ (y : ℕ). y / 2) (top k (2 * a + x) bs (omega arith) b.1) ∙ omega (arith, b.0)

tens-below : (cs : List ℕ) → Below 20 cs → Below 2 (map (λ c. c / 10) cs)
tens-below [] p = tt
tens-below (c ∷ cs) p = (omega (arith, p.0), tens-below cs p.1)

digits-below : (cs : List ℕ) → Below 10 (map (λ c. c % 10) cs)
digits-below [] = tt
digits-below (c ∷ cs) = (omega arith, digits-below cs)

sides-again : (k a : ℕ) (cs : List ℕ) → k ≤ length cs → Below 20 (take k cs) → Below 10 (drop k cs)
    → sides (number_from a (map (λ c. c / 10) (take k cs))) k (map (λ c. c % 10) cs) ≡ cs
sides-again zero a cs h p q = map_same (λ c. c % 10) 10 cs (λ c l. omega arith) q
sides-again (suc k) a [] h p q = absurd (not-suc-le-zero h)
sides-again (suc k) a (c ∷ cs) h p q =
    let bs : List ℕ = map (λ c. c / 10) (take k cs) in
    let l : length bs ≡ k = length-map (take k cs) (λ c. c / 10) ∙ length-take-le k cs (le_of_suc-le-suc h) in
    let t : number_from (2 * a + c / 10) bs / 2 ^ k ≡ 2 * a + c / 10 = top k (2 * a + c / 10) bs l (tens-below (take k cs) p.1) in
    let e : 10 * ((2 * a + c / 10) % 2) + c % 10 ≡ c = omega (arith, p.0) in
    rw (t, e, sides-again k (2 * a + c / 10) cs (le_of_suc-le-suc h) p.1 q)

first-parities : (q : ℕ) → first_digit q ≤ 9 → parities_of (first_digit q) ≡ q
unfolding first_digit parities_of parities table52
first-parities q h = index-hit parities q (omega arith)

ean13-fits : (n : ℕ) (cs : List ℕ) → Fits (units_of 7 n) cs → Halves 6 20 cs
unfolding units_of symbology_of symbologies left_rows odd_rows even_rows patterns table52
ean13-fits n cs f = halves-fit 6 left_rows n cs f

ean13-chars : (n : ℕ) (cs : List ℕ) → n ≡ 13 → length cs ≡ 12 → chars_of 7 n (shows cs) ≡ front cs
unfolding chars_of symbology_of symbologies
ean13-chars n cs e l = rw e (front_at 13 cs l)

ean13-row : (r : List ℕ) → length r ≡ 13 → Below 10 r → front (sided r) ≡ r
ean13-row [] l b = absurd (omega arith)
ean13-row (d ∷ cs) l b = rw (first-sided d cs (omega arith) b.0 b.1, sides-digits (parities_of d) 6 cs (omega arith) b.1)

ean13-like : (r : List ℕ) → length r ≡ 13 → Below 10 r → (symbology_of 7).shows.unlike (shows (sided r)) ≡ false
unfolding symbology_of symbologies
ean13-like [] l b = absurd (omega arith)
ean13-like (d ∷ cs) l b = rw (first-sided d cs (omega arith) b.0 b.1) (le-ltb 9 d (omega (arith, b.0)))

ean13-again : (cs : List ℕ) → Halves 6 20 cs → first_digit (parities_in (shows cs)) ≤ 9 → sided (front cs) ≡ cs
ean13-again cs h l =
    rw (first-parities (parities_in (shows cs)) l, parities-are cs (omega (arith, h.long)))
    (sides-again 6 0 cs (omega (arith, h.long)) h.left h.right)

ean13-turns : Turns 7
unfolding symbology_of symbologies alphabet_digits table44
ean13-turns = record {
  back = front;
  chars = λ n cs k f. ean13-chars n cs (counted-ean13 n k) (ean13-fits n cs f).long;
  like = λ r h. ean13-like r (counted-ean13 (length r) (ready-counted 7 r h)) (ready-below 7 r refl h);
  there = λ r h. ean13-row r (counted-ean13 (length r) (ready-counted 7 r h)) (ready-below 7 r refl h);
  allows = λ n cs k f u. below-allowed 7 refl true (front cs) (omega (arith, ltb-false 9 (first_digit (parities_in (shows cs))) u), digits-below cs);
  again = λ n cs k f u. ean13-again cs (ean13-fits n cs f) (ltb-false 9 (first_digit (parities_in (shows cs))) u);
}

-- ---- by number

stars-fit : (n : ℕ) (cs : List ℕ) → Fits (part_units n starred) cs → (n ≡ length cs) × Below 43 cs
unfolding starred rows39 rows_of alphabet39 chars39 table42
stars-fit = between-fits star39 rows39 star39

industrial-fit : (n : ℕ) (cs : List ℕ) → Fits (part_units n industrial) cs → (n ≡ length cs) × Below 10 cs
unfolding industrial industrial_rows digit_rows rows_of alphabet_digits table44
industrial-fit = between-fits industrial_start industrial_rows industrial_stop

matrix-fit : (n : ℕ) (cs : List ℕ) → Fits (part_units n matrix) cs → (n ≡ length cs) × Below 10 cs
unfolding matrix matrix_rows digit_rows rows_of alphabet_digits table44
matrix-fit = between-fits matrix_ends matrix_rows matrix_ends

numbered : From Turns 1 9
unfolding units_of symbology_of symbologies alphabet39 chars39 alphabet_digits table44
numbered = (
  plain-turns 1 refl refl (λ n cs k f. stars-fit n cs f),
  (
    plain-turns 2 refl refl (λ n cs k f. stars-fit n cs f),
    (
      codabar-turns,
      (
        plain-turns 4 refl refl (λ n cs k f. industrial-fit n cs f),
        (
          interleaved-turns,
          (
            plain-turns 6 refl refl (λ n cs k f. matrix-fit n cs f),
            (ean13-turns, (plain-turns 8 refl refl (λ n cs k f. odd-fits 4 n cs (counted-ean8 n k) f), (plain-turns 9 refl refl (λ n cs k f. odd-fits 6 n cs (counted-upc n k) f), tt))),
          ),
        ),
      ),
    ),
  ),
)

pub turns : (s n : ℕ) → counted s n ≡ true → Turns s
turns = by_number Turns numbered
