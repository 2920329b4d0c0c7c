-- What is found by a word. Elements are bytes, so a row and its word tell each other; the computed tests `mark_reads` and `unit_reads` say
-- that each row is found by its own word, and a word that is found is one of the sets' and so a row's.
--
--   Bytes        each of a list is below 256; take-bytes, so are its first
--   low_below    what elements make, the last of which fits a half-byte
--   low-bound    k bytes make less than 256 ^ k; few-bound, four less than 2 ^ 32
--   mark-found   a mark is there exactly if its word is seen
--   few-rows     a readable unit has at most a hundred rows
--   unit-found   what is found of elements is the number of the unit's row that they are, and one; 0 where they are none
--
-- Assumes nothing.
use Rattle.std.proofs.Common.{◌^◌, pow-suc, lit<, ◌≡◌, refl, sym, ap, ◌∙◌, ◌≢◌, Bool, true, false, ◌&&◌, ◌||◌, List, [], ◌∷◌, ◌++◌, map, ℕ, zero, suc, ◌+◌, ◌*◌, ◌-◌, ◌/◌, ◌%◌, ◌<◌, ◌≤◌, arith, add-zero, eqb, ltb, leb, length, get_or, take, drop, length-drop, length-take, length-take-le, take-suc, take_all, get_or-take, get_or-drop, eqb-true, eq-eqb, ltb-true, ltb-false, leb-true}
use native.Mathlib.Nat.{pow-le-pow_right}
use Rattle.std.proofs.lemmas.Bool.{eqb-false, not-true}
use Rattle.std.proofs.lemmas.List.{length-map}
use Rattle.laws.specs.Search.{pick, upto}
use Rattle.laws.specs.Elements.{alike, find}
use Rattle.laws.specs.Spelling.{counted}
use Rattle.laws.proofs.Finite.{both_left, both_right, upto-at}
use Rattle.laws.proofs.Search.{first-most}
use Rattle.laws.proofs.Elements.{alike-true, alike_self, find-hit}
use Rattle.laws.proofs.Spelling.{counted-length, numbered}
use Rattle.tables.specs.Bits.{weave}
use Rattle.shapes.specs.declared.parts.Mark.{Mark}
use Rattle.shapes.specs.declared.parts.Unit.{Unit}
use Rattle.shapes.specs.Sets.{low, bytes, top, word_of, row_of, word_at}
use Rattle.shapes.specs.Searched.{every_second, seen, matches, digit_in, found_in, found_by, ten_of, few, row_by, pair_by, shown_by, seekable, own, padding, row_reads, pair_reads, unit_reads, mark_reads}
use Rattle.shapes.specs.Described.{row_in}
use Rattle.search.proofs.Bounds.{ten-bound}

abbrev pub Bytes : List ℕ → Type 0
Bytes xs = (i : ℕ) → get_or xs i 0 < 256

-- ---- rows and words

pub take-bytes : (n : ℕ) (xs : List ℕ) → Bytes xs → Bytes (take n xs)
take-bytes zero xs b i = omega arith
take-bytes (suc n) [] b i = omega arith
take-bytes (suc n) (x ∷ xs) b zero = b 0
take-bytes (suc n) (x ∷ xs) b (suc i) = take-bytes n xs (λ j. b (suc j)) i

bytes_low : (xs : List ℕ) → Bytes xs → bytes (length xs) (low xs) ≡ xs
bytes_low [] b = refl
bytes_low (x ∷ xs) b =
    let m : (x + 256 * low xs) % 256 ≡ x = omega (arith, b 0) in
    let d : (x + 256 * low xs) / 256 ≡ low xs = omega (arith, b 0) in
    rw (m, d, bytes_low xs (λ i. b (suc i)))

pub low_below : (n : ℕ) (xs : List ℕ) → length xs ≡ suc n → Bytes xs → get_or xs n 0 < 16 → low xs < 16 * 256 ^ n
low_below n [] l b h = absurd (omega arith)
low_below zero (x ∷ []) l b h = omega arith
low_below zero (x ∷ y ∷ xs) l b h = absurd (omega arith)
low_below (suc n) (x ∷ xs) l b h = omega (arith, b 0, low_below n xs (omega arith) (λ i. b (suc i)) h, pow-suc 256 n)

first-bound : (k : ℕ) (xs : List ℕ) → Bytes xs → low (take k xs) < 256 ^ k
first-bound zero xs b = omega arith
first-bound (suc k) [] b = omega (arith, first-bound k [] b, pow-suc 256 k)
first-bound (suc k) (x ∷ xs) b = omega (arith, b 0, first-bound k xs (λ i. b (suc i)), pow-suc 256 k)

module _ (t : List ℕ) (b : Bytes t) where
  pub low-bound : (k p : ℕ) → low (take k (drop p t)) < 256 ^ k
  low-bound k p = first-bound k (drop p t) (λ i. rw (get_or-drop p t i 0) (b (p + i)))

  pub few-bound : (k p : ℕ) → k ≤ 4 → low (take k (drop p t)) < 4294967296
  few-bound k p h = omega (arith, low-bound k p, pow-le-pow_right {n = 256} (lit< tt) {i = k} {j = 4} h)

-- nine elements, of which the eighth has a half-byte to spare
nine-back : (xs : List ℕ) → length xs ≡ 9 → Bytes xs → get_or xs 7 0 < 16 → row_of 9 (word_of xs) ≡ xs
nine-back xs l b h =
    let z : ℕ = get_or xs 8 0 in
    let front : List ℕ = take 8 xs in
    let long : length front ≡ 8 = length-take-le 8 xs (omega arith) in
    let small : low front < top = low_below 7 front long (take-bytes 8 xs b) (rw (get_or-take 8 xs 7 0 (omega arith)) h) in
    let m : (low front + top * z) % top ≡ low front = omega arith in
    let d : (low front + top * z) / top ≡ z = omega arith in
    let f : bytes 8 (low front) ≡ front = rw long at (bytes_low front (take-bytes 8 xs b)) in
    rw (m, d) (ap (λ (l : List ℕ). l ++ (z ∷ [])) f ∙ sym (take-suc xs 8 0 (omega arith)) ∙ take_all 9 xs (omega arith))

row_seen : (k : ℕ) (xs : List ℕ) → k ≤ 9 → length xs ≡ k → Bytes xs → seen k xs ≢ 0 → row_of k (seen k xs) ≡ xs
row_seen k xs h l b n = go (ltb k 9) refl n
  where
    guards : (g : Bool) → (ltb (get_or xs 7 0) 16 && ltb (get_or xs 8 0) 16) ≡ g → length xs ≡ 9 → pick g (word_of xs) 0 ≢ 0 → row_of 9 (pick g (word_of xs) 0) ≡ xs
    guards true e l m = nine-back xs l b (ltb-true _ _ (both_left (ltb (get_or xs 7 0) 16) _ e))
    guards false e l m = absurd (m refl)

    go : (t : Bool) → ltb k 9 ≡ t → seen k xs ≢ 0 → row_of k (seen k xs) ≡ xs
    go true e m = rw e (rw l at (bytes_low xs b))
    go false e m =
        let q : k ≡ 9 = omega (arith, ltb-false k 9 e) in
        rw q (guards (ltb (get_or xs 7 0) 16 && ltb (get_or xs 8 0) 16) refl (l ∙ q) (rw q at m))

own-seen : (k w : ℕ) → own k w ≡ true → seen k (row_of k w) ≡ w
own-seen k w o = eqb-true _ w (both_left (eqb (seen k (row_of k w)) w) _ o)

own-some : (k w : ℕ) → own k w ≡ true → w ≢ 0
own-some k w o = eqb-false w 0 (not-true (eqb w 0) (both_right (eqb (seen k (row_of k w)) w) _ o))

same : (a b : Bool) → (a ≡ true → b ≡ true) → (b ≡ true → a ≡ true) → a ≡ b
same true b f g = sym (f refl)
same false true f g = g refl
same false false f g = refl

word-found : (k w : ℕ) (xs : List ℕ) → k ≤ 9 → own k w ≡ true → length xs ≡ k → Bytes xs → eqb (seen k xs) w ≡ alike (row_of k w) xs
word-found k w xs h o l b = same _ _ there back
  where
    there : eqb (seen k xs) w ≡ true → alike (row_of k w) xs ≡ true
    there t =
        let q : seen k xs ≡ w = eqb-true _ w t in
        let s : row_of k w ≡ xs = rw q at (row_seen k xs h l b (rw q (own-some k w o))) in
        rw s (alike_self xs)

    back : alike (row_of k w) xs ≡ true → eqb (seen k xs) w ≡ true
    back t = eq-eqb _ w (rw (alike-true (row_of k w) xs t) at (own-seen k w o))

pub mark-found : (m : Mark) (xs : List ℕ) → mark_reads m ≡ true → eqb m.elements 0 ≡ false → length xs ≡ m.elements → Bytes xs
    → eqb (seen m.elements xs) m.word ≡ alike (row_of m.elements m.word) xs
mark-found m xs r e l b =
    let t : (leb m.elements 9 && own m.elements m.word) ≡ true = rw e at r in
    word-found m.elements m.word xs (leb-true _ 9 (both_left (leb m.elements 9) _ t)) (both_right (leb m.elements 9) _ t) l b

-- ---- among numbered rows

record Row (f : ℕ → List ℕ) (n : ℕ) (xs : List ℕ) : Type 0 where
  pub at : ℕ
  pub below : at < n
  pub is : f at ≡ xs

-- a number that is one more than that of any row that the elements are, and 0 unless there is one
module _ (f : ℕ → List ℕ) (n : ℕ) (xs : List ℕ) where
  abbrev rows : List (List ℕ)
  rows = map f (counted 0 n)

  row_at : (c : ℕ) → c < n → get_or rows c [] ≡ f c
  row_at c h = numbered f 0 n c h ∙ ap f (omega arith)

  many : length rows ≡ n
  many = length-map (counted 0 n) f ∙ counted-length 0 n

  by-find : (r : ℕ) → ((c : ℕ) → c < n → f c ≡ xs → r ≡ suc c) → (r ≢ 0 → Row f n xs) → r ≡ pick (ltb (find rows xs) n) (suc (find rows xs)) 0
  by-find r hit row = go (ltb (find rows xs) n) refl
    where
      none : (t : Bool) → eqb r 0 ≡ t → n ≤ find rows xs → r ≡ 0
      none true e h = eqb-true r 0 e
      none false e h =
          let w : Row f n xs = row (eqb-false r 0 e) in
          let a : alike (get_or rows w.at []) xs ≡ true = rw (row_at w.at w.below, w.is) (alike_self xs) in
          absurd (omega (arith, w.below, many, first-most [] (λ r. alike r xs) rows w.at (rw many w.below) a))

      go : (t : Bool) → ltb (find rows xs) n ≡ t → r ≡ pick t (suc (find rows xs)) 0
      go true e =
          let h : find rows xs < n = ltb-true _ n e in
          hit (find rows xs) h (sym (row_at (find rows xs) h) ∙ find-hit rows xs (rw many h))
      go false e = none (eqb r 0) refl (ltb-false _ n e)

-- ---- words in sets

record At (w : ℕ) (xs : List ℕ) : Type 0 where
  pub digit : ℕ
  pub below : digit < length xs
  pub is : get_or xs digit 0 ≡ w

matches-step : (w x : ℕ) (xs : List ℕ) (d n : ℕ) (t : Bool) → eqb x w ≡ t → (n ≢ 0 → At w xs) → pick t (d + 1) 0 + n ≢ 0 → At w (x ∷ xs)
matches-step w x xs d n true e ih m = record { digit = 0; below = omega arith; is = eqb-true x w e }
matches-step w x xs d n false e ih m =
    let a : At w xs = ih (λ q. m (omega arith)) in
    record { digit = suc a.digit; below = omega (arith, a.below); is = a.is }

matches-at : (w : ℕ) (xs : List ℕ) (d : ℕ) → matches w xs d ≢ 0 → At w xs
matches-at w [] d n = absurd (n refl)
matches-at w (x ∷ xs) d n = matches-step w x xs d (matches w xs (d + 1)) (eqb x w) refl (matches-at w xs (d + 1)) n

-- rows are counted on from set to set
word_on : (sets : List (List ℕ)) (s t c : ℕ) → word_at sets s (10 * t + c) ≡ word_at sets (s + t) c
word_on sets s t c =
    let q : s + (10 * t + c) / 10 ≡ s + t + c / 10 = omega arith in
    let r : (10 * t + c) % 10 ≡ c % 10 = omega arith in
    rw (q, r)

-- where a word stands in k sets from s on
record Stands (sets : List (List ℕ)) (s k w : ℕ) : Type 0 where
  pub at : ℕ
  pub below : at < 10 * k
  pub is : word_at sets s at ≡ w
  pub some : w ≢ 0

module _ (sets : List (List ℕ)) (s w m : ℕ) where
  digit-stands : (i : ℕ) → i < m → digit_in sets (s + i) w ≢ 0 → Stands sets s m w
  unfolding digit_in
  digit-stands i h n = go (eqb w 0) refl n
    where
      go : (t : Bool) → eqb w 0 ≡ t → pick t 0 (matches w (take 10 (get_or sets (s + i) [])) 0) ≢ 0 → Stands sets s m w
      go true e p = absurd (p refl)
      go false e p =
          let l : List ℕ = get_or sets (s + i) [] in
          let a : At w (take 10 l) = matches-at w (take 10 l) 0 p in
          let d : a.digit < 10 = omega (arith, a.below, length-take 10 l) in
          let q : s + i + a.digit / 10 ≡ s + i = omega arith in
          let r : a.digit % 10 ≡ a.digit = omega arith in
          record { at = 10 * i + a.digit; below = omega arith; is = word_on sets s i a.digit ∙ rw (q, r) (sym (get_or-take 10 l a.digit 0 d) ∙ a.is); some = eqb-false w 0 e }

  in-stands : (i n f : ℕ) → i < m → (f ≢ 0 → Stands sets s m w) → found_in sets (s + i) n w f ≢ 0 → Stands sets s m w
  in-stands i n f h ih p = go (eqb (digit_in sets (s + i) w) 0) refl p
    where
      go : (t : Bool) → eqb (digit_in sets (s + i) w) 0 ≡ t → pick t f (n + digit_in sets (s + i) w) ≢ 0 → Stands sets s m w
      go true e q = ih q
      go false e q = digit-stands i h (eqb-false _ 0 e)

  by-stands : (n k f : ℕ) → k ≤ m → (f ≢ 0 → Stands sets s m w) → found_by sets s n w k f ≢ 0 → Stands sets s m w
  by-stands n zero f h ih p = ih p
  by-stands n (suc i) f h ih p =
      by-stands n i (found_in sets (s + i) (n + 10 * i) w f) (omega arith) (in-stands i (n + 10 * i) f (omega arith) ih) p

found-stands : (sets : List (List ℕ)) (s n w k : ℕ) → found_by sets s n w k 0 ≢ 0 → Stands sets s k w
found-stands sets s n w k = by-stands sets s w k n k 0 (omega arith) (λ e. absurd (e refl))

-- ---- units of rows

abbrev sized : ℕ → Bool
sized n = leb n few || eqb ((n + 9) / 10) 5

row-stands : (sets : List (List ℕ)) (u : Unit) (w : ℕ) → sized u.size ≡ true → row_by sets u w ≢ 0
    → Stands sets u.set ((u.size + 9) / 10) w
row-stands sets u w z n = go (leb u.size few) z n
  where
    go : (t : Bool) → (t || eqb ((u.size + 9) / 10) 5) ≡ true
        → pick t (found_by sets u.set 0 w ((u.size + 9) / 10) 0) (found_by sets (u.set + ten_of w) (10 * ten_of w) w 1 0) ≢ 0
        → Stands sets u.set ((u.size + 9) / 10) w
    go true e m = found-stands sets u.set 0 w ((u.size + 9) / 10) m
    go false e m =
        let a : Stands sets (u.set + ten_of w) 1 w = found-stands sets (u.set + ten_of w) (10 * ten_of w) w 1 m in
        let five : (u.size + 9) / 10 ≡ 5 = eqb-true _ 5 e in
        record { at = 10 * ten_of w + a.at; below = omega (arith, ten-bound w, a.below, five); is = word_on sets u.set (ten_of w) a.at ∙ a.is; some = a.some }

-- behind the last row there is no word
within-size : (sets : List (List ℕ)) (u : Unit) (c : ℕ) → upto (padding u) (λ i. eqb (word_at sets u.set (u.size + i)) 0) ≡ true
    → c < 10 * ((u.size + 9) / 10) → word_at sets u.set c ≢ 0 → c < u.size
within-size sets u c t h n = go (ltb c u.size) refl
  where
    go : (b : Bool) → ltb c u.size ≡ b → c < u.size
    go true e = ltb-true c u.size e
    go false e =
        let l : u.size ≤ c = ltb-false c u.size e in
        let q : u.size + (c - u.size) ≡ c = omega arith in
        let z = upto-at (padding u) (λ i. eqb (word_at sets u.set (u.size + i)) 0) t (c - u.size) (omega arith) in
        absurd (n (rw q at (eqb-true (word_at sets u.set (u.size + (c - u.size))) 0 z)))

-- what is tested of a unit of rows
record Rows (sets : List (List ℕ)) (u : Unit) : Type 0 where
  pub rows : upto u.size (row_reads sets u) ≡ true
  pub behind : upto (padding u) (λ i. eqb (word_at sets u.set (u.size + i)) 0) ≡ true
  pub sizes : sized u.size ≡ true

module _ (sets : List (List ℕ)) (u : Unit) (r : Rows sets u) (xs : List ℕ) where
  abbrev row : ℕ → List ℕ
  row c = row_of u.elements (word_at sets u.set c)

  row-hit : (c : ℕ) → c < u.size → row c ≡ xs → row_by sets u (seen u.elements xs) ≡ suc c
  row-hit c h e =
      let w : ℕ = word_at sets u.set c in
      let t : row_reads sets u c ≡ true = upto-at u.size (row_reads sets u) r.rows c h in
      let s : seen u.elements xs ≡ w = rw e at (own-seen u.elements w (both_left (own u.elements w) _ t)) in
      rw s (eqb-true _ (c + 1) (both_right (own u.elements w) _ t) ∙ omega arith)

  row_back : u.elements ≤ 9 → length xs ≡ u.elements → Bytes xs → row_by sets u (seen u.elements xs) ≢ 0 → Row row u.size xs
  row_back h l b n =
      let a = row-stands sets u (seen u.elements xs) r.sizes n in
      record {
        at = a.at;
        below = within-size sets u a.at r.behind a.below (rw a.is a.some);
        is = rw a.is (row_seen u.elements xs h l b a.some);
      }

-- ---- units of pairs

second-length : (xs : List ℕ) → length (every_second xs) ≡ (length xs + 1) / 2
second-length [] = refl
second-length (x ∷ []) = refl
second-length (x ∷ y ∷ xs) = omega (arith, second-length xs)

second-bytes : (xs : List ℕ) → Bytes xs → Bytes (every_second xs)
second-bytes [] b i = b i
second-bytes (x ∷ []) b i = b i
second-bytes (x ∷ y ∷ xs) b zero = b 0
second-bytes (x ∷ y ∷ xs) b (suc i) = second-bytes xs (λ j. b (suc (suc j))) i

second-on : (x : ℕ) (xs : List ℕ) → every_second (x ∷ xs) ≡ x ∷ every_second (drop 1 xs)
second-on x [] = refl
second-on x (y ∷ xs) = refl

woven : (xs : List ℕ) → length xs % 2 ≡ 0 → weave (every_second xs) (every_second (drop 1 xs)) ≡ xs
woven [] e = refl
woven (x ∷ []) e = absurd (omega arith)
woven (x ∷ y ∷ xs) e = rw (second-on y xs, woven xs (omega arith))

five-back : (xs : List ℕ) → length xs ≡ 5 → Bytes xs → bytes 5 (low xs) ≡ xs
five-back xs l b = rw l at (bytes_low xs b)

module _ (sets : List (List ℕ)) (u : Unit) (r : upto 100 (pair_reads sets u) ≡ true) (xs : List ℕ) where
  abbrev digit : ℕ → ℕ
  digit c = word_at sets u.set c

  abbrev pair : ℕ → List ℕ
  pair c = weave (bytes 5 (digit (c / 10))) (bytes 5 (digit (c % 10)))

  pair-hit : (c : ℕ) → c < 100 → pair c ≡ xs → pair_by sets u (low (every_second xs)) (low (every_second (drop 1 xs))) ≡ suc c
  pair-hit c h e =
      let a : ℕ = digit (c / 10) in
      let b : ℕ = digit (c % 10) in
      let t : pair_reads sets u c ≡ true = upto-at 100 (pair_reads sets u) r c h in
      let o : (own 5 a && own 5 b) ≡ true = both_left (own 5 a && own 5 b) _ t in
      let p : low (every_second xs) ≡ a = rw (← e) (own-seen 5 a (both_left (own 5 a) _ o)) in
      let q : low (every_second (drop 1 xs)) ≡ b = rw (← e) (own-seen 5 b (both_right (own 5 a) _ o)) in
      rw (p, q) (eqb-true _ (c + 1) (both_right (own 5 a && own 5 b) _ t) ∙ omega arith)

  pair-back : length xs ≡ 10 → Bytes xs → pair_by sets u (low (every_second xs)) (low (every_second (drop 1 xs))) ≢ 0 → Row pair 100 xs
  pair-back l b n = go (eqb (digit_in sets u.set x) 0) refl n
    where
      rest : List ℕ
      rest = drop 1 xs

      x : ℕ
      x = low (every_second xs)

      y : ℕ
      y = low (every_second rest)

      is_x : bytes 5 x ≡ every_second xs
      is_x = five-back (every_second xs) (second-length xs ∙ rw l) (second-bytes xs b)

      is_y : bytes 5 y ≡ every_second rest
      is_y = five-back (every_second rest) (second-length rest ∙ rw (length-drop 1 xs, l)) (second-bytes rest (λ i. rw (get_or-drop 1 xs i 0) (b (1 + i))))

      both : Stands sets u.set 1 x → Stands sets u.set 1 y → Row pair 100 xs
      both f g =
          let p : (10 * f.at + g.at) / 10 ≡ f.at = omega (arith, g.below) in
          let q : (10 * f.at + g.at) % 10 ≡ g.at = omega (arith, g.below) in
          record {
            at = 10 * f.at + g.at;
            below = omega (arith, f.below, g.below);
            is = rw (p, q, f.is, g.is) ((λ i. weave (is_x i) (is_y i)) ∙ woven xs (rw l));
          }

      go : (t : Bool) → eqb (digit_in sets u.set x) 0 ≡ t → pick t 0 (found_by sets u.set (10 * (digit_in sets u.set x - 1)) y 1 0) ≢ 0 → Row pair 100 xs
      go true e m = absurd (m refl)
      go false e m =
          both (digit-stands sets u.set x 1 0 (omega arith) (rw (add-zero u.set) (eqb-false _ 0 e)))
          (found-stands sets u.set (10 * (digit_in sets u.set x - 1)) y 1 m)

-- ---- any unit

reads-rows : (sets : List (List ℕ)) (u : Unit) → unit_reads sets u ≡ true → ltb u.elements 10 ≡ true → Rows sets u
reads-rows sets u r e =
    let a : Bool = upto u.size (row_reads sets u) in
    let b : Bool = upto (padding u) (λ i. eqb (word_at sets u.set (u.size + i)) 0) in
    let t : (a && b && sized u.size) ≡ true = rw e at (both_right (seekable (length sets) u) _ r) in
    let f : (a && b) ≡ true = both_left (a && b) _ t in
    record { rows = both_left a b f; behind = both_right a b f; sizes = both_right (a && b) _ t }

-- what is tested of a unit of pairs
record Pairs (sets : List (List ℕ)) (u : Unit) : Type 0 where
  pub elements : u.elements ≡ 10
  pub size : u.size ≡ 100
  pub pairs : upto 100 (pair_reads sets u) ≡ true

reads-pairs : (sets : List (List ℕ)) (u : Unit) → unit_reads sets u ≡ true → ltb u.elements 10 ≡ false → Pairs sets u
reads-pairs sets u r e =
    let t : (eqb u.size 100 && upto 100 (pair_reads sets u)) ≡ true = rw e at (both_right (seekable (length sets) u) _ r) in
    let s : seekable (length sets) u ≡ true = both_left (seekable (length sets) u) _ r in
    let m : u.elements ≤ 10 = leb-true _ 10 (both_left (leb u.elements 10) _ s) in
    record { elements = omega (arith, ltb-false u.elements 10 e); size = eqb-true _ 100 (both_left (eqb u.size 100) _ t); pairs = both_right (eqb u.size 100) _ t }

sized-few : (n : ℕ) → sized n ≡ true → n ≤ 100
sized-few n z = go (leb n few) refl z
  where
    go : (t : Bool) → leb n few ≡ t → (t || eqb ((n + 9) / 10) 5) ≡ true → n ≤ 100
    go true e z = omega (arith, leb-true n few e)
    go false e z = omega (arith, eqb-true ((n + 9) / 10) 5 z)

pub few-rows : (sets : List (List ℕ)) (u : Unit) → unit_reads sets u ≡ true → u.size ≤ 100
few-rows sets u r = go (ltb u.elements 10) refl
  where
    go : (t : Bool) → ltb u.elements 10 ≡ t → u.size ≤ 100
    go true e = sized-few u.size (reads-rows sets u r e).sizes
    go false e = omega (arith, (reads-pairs sets u r e).size)

pub unit-found : (sets : List (List ℕ)) (u : Unit) (xs : List ℕ) → unit_reads sets u ≡ true
    → length xs ≡ u.elements → Bytes xs → shown_by sets u xs
    ≡ pick (ltb (find (map (row_in sets u) (counted 0 u.size)) xs) u.size) (suc (find (map (row_in sets u) (counted 0 u.size)) xs)) 0
unit-found sets u xs r l b = by-find (row_in sets u) u.size xs (shown_by sets u xs) (hit (ltb u.elements 10) refl) (back (ltb u.elements 10) refl)
  where
    hit : (t : Bool) → ltb u.elements 10 ≡ t → (c : ℕ) → c < u.size → row_in sets u c ≡ xs → shown_by sets u xs ≡ suc c
    hit true e c h q = rw e (row-hit sets u (reads-rows sets u r e) xs c h (rw e at q))
    hit false e c h q = rw e (pair-hit sets u (reads-pairs sets u r e).pairs xs c (rw (reads-pairs sets u r e).size at h) (rw e at q))

    back : (t : Bool) → ltb u.elements 10 ≡ t → shown_by sets u xs ≢ 0 → Row (row_in sets u) u.size xs
    back true e n =
        let a = row_back sets u (reads-rows sets u r e) xs (omega (arith, ltb-true u.elements 10 e)) l b (rw e at n) in
        record { at = a.at; below = a.below; is = rw e a.is }
    back false e n =
        let p = reads-pairs sets u r e in
        let a = pair-back sets u p.pairs xs (l ∙ p.elements) b (rw e at n) in
        record { at = a.at; below = omega (arith, a.below, p.size); is = rw e a.is }
