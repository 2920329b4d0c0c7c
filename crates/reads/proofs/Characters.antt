-- Characters from the rows that the units show, in the places where these stand: a row is known by its entries, so each loop says what
-- stands at every place.
--
--   row_is       places whose first n are the characters, with zeros behind, are the row
--   lettered     Codabar: 16 more at both ends
--   Paired       Interleaved: from place 2 i on stand the digits, and before place i still the rows; `none`, `next`, `full`
--   Sided        EAN-13: of six places those before place i hold digits, the others the rows, and i of the parities are in the number; `begun`,
--                `more`, `all_bits`, `all_digits`; `small`, before the last it is below 280
--   plain-shows  in all but 3, 5 and 7 a character is its own row's number
--
-- Assumes nothing.
use borrow.Rule.Slice.PartMut.{put_mid}
use Rattle.std.proofs.Math.ListN.{get_or-append}
use Rattle.std.proofs.lemmas.List.{get_or-append_right}
use Rattle.std.proofs.Common.{take, ◌++◌, length-take-le, length-drop, get_or-take, get_or-drop, ◌≡◌, refl, sym, ap, ◌∙◌, Bool, true, false, ◌||◌, List, [], ◌∷◌, map, ℕ, zero, suc, ◌+◌, ◌*◌, ◌-◌, ◌/◌, ◌%◌, ◌^◌, ◌<◌, ◌≤◌, arith, mul_comm, zero-add, add-zero, add-suc, suc-add, not-suc-le-zero, add-one, eqb, length, get_or, drop, set, length-set, get_or-set_same, get_or-set_other, pow_mono, eqb-true, eq-eqb, ne_eqb}
use native.Mathlib.Nat.{two-pow-succ}
use native.Mathlib.Decide.{ℕ_discrete, dec_lt}
use lib.Dec.{eqb-suc-suc}
use Rattle.laws.specs.Search.{pick}
use Rattle.laws.specs.Spelling.{counted}
use Rattle.laws.proofs.Finite.{each_at}
use Rattle.tables.specs.Bits.{number_from}
use Rattle.symbologies.specs.Sizes.{places}
use Rattle.symbologies.specs.Limits.{unknown}
use Rattle.symbologies.specs.Checks.{no_check}
use Rattle.symbologies.specs.Parts.{Shown, each, digit_at, parities_in}
use Rattle.symbologies.specs.Symbologies.{Symbology, digits, symbologies, symbology_of}
use Rattle.symbologies.specs.Strips.{chars_of}
use Rattle.symbologies.specs.Told.{pad}
use Rattle.reads.specs.Walk.{shown_in, row_of}

-- ---- places, entry by entry

padded : (g : ℕ → ℕ) (m i n : ℕ) (codes : List ℕ) → length codes ≡ m → ((j : ℕ) → j < n → get_or codes j 0 ≡ g (i + j)) → ((j : ℕ) → n ≤ j → get_or codes j 0 ≡ 0)
    → codes ≡ pad m (map g (counted i n))
padded g zero i n [] l h z = refl
padded g zero i n (c ∷ codes) l h z = absurd (omega arith)
padded g (suc m) i n [] l h z = absurd (omega arith)
padded g (suc m) i zero (c ∷ codes) l h z =
    let a : c ≡ 0 = z 0 (omega arith) in
    let b : codes ≡ pad m [] = padded g m i zero codes (omega arith) (λ j k. absurd (not-suc-le-zero k)) (λ j k. z (suc j) (omega arith)) in
    cc
padded g (suc m) i (suc n) (c ∷ codes) l h z =
    let a : c ≡ g i = rw add-zero at (h 0 (omega arith)) in
    let b : codes ≡ pad m (map g (counted (suc i) n))
    = padded g m (suc i) n codes (omega arith) (λ j k. rw (suc-add, ← add-suc) (h (suc j) (omega arith))) (λ j k. z (suc j) (omega arith)) in
    cc

pub row_is : (s n : ℕ) (f : Shown) (codes : List ℕ) → length codes ≡ places → ((j : ℕ) → j < n → get_or codes j 0 ≡ (symbology_of s).shows.char n f j)
    → ((j : ℕ) → n ≤ j → get_or codes j 0 ≡ 0) → codes ≡ row_of s n f
unfolding chars_of
row_is s n f codes l h z = padded ((symbology_of s).shows.char n f) places 0 n codes l (λ j k. rw zero-add (h j k)) z

pub set_at : (xs : List ℕ) (k v j : ℕ) → k < length xs → get_or (set xs k v) j 0 ≡ pick (eqb j k) v (get_or xs j 0)
set_at xs k v j h = go (ℕ_discrete j k)
  where
    go : Dec (j ≡ k) → get_or (set xs k v) j 0 ≡ pick (eqb j k) v (get_or xs j 0)
    go (yes e) = rw (eq-eqb j k e, e) (get_or-set_same xs k v 0 h)
    go (no e) = rw (ne_eqb j k e) (get_or-set_other xs k j v 0 e)

set-two : (xs : List ℕ) (a b v w j : ℕ) → a < length xs → b < length xs → get_or (set (set xs a v) b w) j 0 ≡ pick (eqb j b) w (pick (eqb j a) v (get_or xs j 0))
set-two xs a b v w j h k = set_at (set xs a v) b w j (rw length-set k) ∙ ap (pick (eqb j b) w) (set_at xs a v j h)

-- ---- Codabar

module _ (codes : List ℕ) (n : ℕ) (l : length codes ≡ places) (some : 2 ≤ n) (few : n ≤ places) (zeros : (j : ℕ) → n ≤ j → get_or codes j 0 ≡ 0) where
  pub lettered : (v w : ℕ) → v ≡ get_or codes 0 0 + 16 → w ≡ get_or codes (n - 1) 0 + 16 → set (set codes 0 v) (n - 1) w ≡ row_of 3 n (shown_in 3 codes)
  unfolding symbology_of symbologies
  lettered v w a b =
      row_is 3 n (shown_in 3 codes) (set (set codes 0 v) (n - 1) w) (length-set (set codes 0 v) (n - 1) w ∙ length-set codes 0 v ∙ l)
      (λ j h. at j ∙ ends j)
      (λ j h. at j ∙ rw (ne_eqb j (n - 1) (omega arith), ne_eqb j 0 (omega arith)) (zeros j h))
    where
      at : (j : ℕ) → get_or (set (set codes 0 v) (n - 1) w) j 0 ≡ pick (eqb j (n - 1)) w (pick (eqb j 0) v (get_or codes j 0))
      at j = set-two codes 0 (n - 1) v w j (omega arith) (omega arith)

      one : (p q : Bool) (x : ℕ) → (p ≡ true → v ≡ x + 16) → (q ≡ true → w ≡ x + 16) → pick q w (pick p v x) ≡ x + pick (p || q) 16 0
      one true true x h k = k refl
      one true false x h k = h refl
      one false true x h k = k refl
      one false false x h k = omega arith

      same : (j : ℕ) → eqb j (n - 1) ≡ eqb (j + 1) n
      same j = let e : suc (n - 1) ≡ n = omega arith in rw (add-one j) (sym (eqb-suc-suc j (n - 1)) ∙ ap (eqb (suc j)) e)

      ends : (j : ℕ) → pick (eqb j (n - 1)) w (pick (eqb j 0) v (get_or codes j 0)) ≡ get_or codes (0 + j) 0 + pick (eqb j 0 || eqb (j + 1) n) 16 0
      ends j =
          rw (← same j, zero-add j)
          (one (eqb j 0) (eqb j (n - 1)) (get_or codes j 0) (λ e. rw (eqb-true j 0 e) a) (λ e. rw (eqb-true j (n - 1) e) b))

-- ---- Interleaved

pub record Paired (f : Shown) (n : ℕ) (codes : List ℕ) (i : ℕ) : Type 0 where
  pub long : length codes ≡ places
  pub within : 2 * i ≤ n
  pub left : (j : ℕ) → j < i → get_or codes j 0 ≡ f j
  pub done : (j : ℕ) → 2 * i ≤ j → get_or codes j 0 ≡ digit_at n f j

nought : (n j : ℕ) (f : Shown) → f (j / 2) ≡ 0 → digit_at n f j ≡ 0
nought n j f e = rw e (go (eqb (j % 2) 0))
  where
    go : (b : Bool) → pick b (0 / 10) (0 % 10) ≡ 0
    go true = refl
    go false = refl

module _ (n : ℕ) (even : n ≡ 2 * (n / 2)) where
  pub none : (codes : List ℕ) → length codes ≡ places → ((j : ℕ) → n ≤ j + j → get_or codes j 0 ≡ 0) → Paired (shown_in 5 codes) n codes (n / 2)
  none codes l z = record {
    long = l;
    within = omega arith;
    left = λ j h. rw zero-add;
    done = λ j h. z j (omega arith) ∙ sym (nought n j (shown_in 5 codes) (rw zero-add (z (j / 2) (omega arith))));
  }

  module _ (f : Shown) (codes : List ℕ) (i : ℕ) (p : Paired f n codes i) where
    pub next : n ≤ places → (row : ℕ) → 0 < i → row ≡ get_or codes (i - 1) 0 → Paired f n (set (set codes (2 * (i - 1)) (row / 10)) (2 * (i - 1) + 1) (row % 10)) (i - 1)
    next few row h e = record {
      long = length-set (set codes a (row / 10)) b (row % 10) ∙ length-set codes a (row / 10) ∙ p.long;
      within = omega (arith, p.within);
      left = λ j k. at j ∙ rw (ne_eqb j b (omega arith), ne_eqb j a (omega arith)) (p.left j (omega arith));
      done = λ j k. at j ∙ two j k (ℕ_discrete j b) (ℕ_discrete j a);
    }
      where
        a : ℕ
        a = 2 * (i - 1)

        b : ℕ
        b = a + 1

        at : (j : ℕ) → get_or (set (set codes a (row / 10)) b (row % 10)) j 0 ≡ pick (eqb j b) (row % 10) (pick (eqb j a) (row / 10) (get_or codes j 0))
        at j = set-two codes a b (row / 10) (row % 10) j (omega (arith, p.within, p.long)) (omega (arith, p.within, p.long))

        shows : row ≡ f (i - 1)
        shows = e ∙ p.left (i - 1) (omega arith)

        two : (j : ℕ) → a ≤ j → Dec (j ≡ b) → Dec (j ≡ a) → pick (eqb j b) (row % 10) (pick (eqb j a) (row / 10) (get_or codes j 0)) ≡ digit_at n f j
        two j k (yes q) y =
            let x : j % 2 ≡ 1 = omega arith in
            let z : j / 2 ≡ i - 1 = omega arith in
            rw (eq-eqb j b q, x, z, ← shows)
        two j k (no q) (yes r) =
            let x : j % 2 ≡ 0 = omega arith in
            let z : j / 2 ≡ i - 1 = omega arith in
            rw (ne_eqb j b q, eq-eqb j a r, x, z, ← shows)
        two j k (no q) (no r) = rw (ne_eqb j b q, ne_eqb j a r) (p.done j (omega arith))

    pub full : i ≡ 0 → ((j : ℕ) → n ≤ j + j → f j ≡ 0) → codes ≡ row_of 5 n f
    unfolding symbology_of symbologies
    full h z =
        row_is 5 n f codes p.long (λ j k. p.done j (omega arith)) (λ j k. p.done j (omega arith) ∙ nought n j f (z (j / 2) (omega arith)))

-- ---- EAN-13

-- the six places behind the first, of which i are digits already
pub record Sided (f : Shown) (items : List ℕ) (bits i : ℕ) : Type 0 where
  pub long : length items ≡ 6
  pub done : (j : ℕ) → j < i → get_or items j 0 ≡ f j % 10
  pub left : (j : ℕ) → i ≤ j → j < 6 → get_or items j 0 ≡ f j
  pub low : bits + 9 ≤ 9 * 2 ^ i
  pub same : parities_in f ≡ number_from bits (map (λ k. f k / 10) (counted i (6 - i)))

pub begun : (codes : List ℕ) → length codes ≡ places → Sided (shown_in 7 codes) (take 6 (drop 1 codes)) 0 0
begun codes l = record {
  long = length-take-le 6 (drop 1 codes) (omega (arith, length-drop 1 codes));
  done = λ j h. absurd (omega arith);
  left = λ j h k. get_or-take 6 (drop 1 codes) j 0 k ∙ get_or-drop 1 codes j 0;
  low = omega arith;
  same = refl;
}

module _ (f : Shown) (items : List ℕ) (bits i : ℕ) (p : Sided f items bits i) where
  pub small : i < 6 → bits < 280
  small h = let few : i ≤ 5 = omega arith in omega (arith, p.low, pow_mono few)

  pub more : i < 6 → f i < 100 → Sided f (set items i (get_or items i 0 % 10)) (bits * 2 + get_or items i 0 / 10) (i + 1)
  more h l = record {
    long = length-set items i (get_or items i 0 % 10) ∙ p.long;
    done = λ j k. at j ∙ one j (ℕ_discrete j i) (omega arith);
    left = λ j k m. at j ∙ rw (ne_eqb j i (omega arith)) (p.left j (omega arith) m);
    low = rw (add-one i) (omega (arith, p.low, shows, two-pow-succ i));
    same = p.same ∙ rw (ahead, mul_comm bits 2, shows, ← add-one i);
  }
    where
      shows : get_or items i 0 ≡ f i
      shows = p.left i (omega arith) h

      at : (j : ℕ) → get_or (set items i (get_or items i 0 % 10)) j 0 ≡ pick (eqb j i) (get_or items i 0 % 10) (get_or items j 0)
      at j = set_at items i (get_or items i 0 % 10) j (omega (arith, p.long))

      one : (j : ℕ) → Dec (j ≡ i) → j ≤ i → pick (eqb j i) (get_or items i 0 % 10) (get_or items j 0) ≡ f j % 10
      one j (yes q) k = rw (eq-eqb j i q, q, shows)
      one j (no q) k = rw (ne_eqb j i q) (p.done j (omega arith))

      ahead : 6 - i ≡ suc (6 - (i + 1))
      ahead = omega arith

-- all six are digits: so are all of the places, if the others were
module _ (codes items : List ℕ) (bits : ℕ) (p : Sided (shown_in 7 codes) items bits 6) where
  pub all_bits : bits ≡ parities_in (shown_in 7 codes)
  all_bits = sym p.same

  pub all_digits : length codes ≡ places → get_or codes 0 0 < 10 → ((j : ℕ) → 7 ≤ j → get_or codes j 0 < 10)
      → (j : ℕ) → get_or (put_mid 1 6 codes items) j 0 ≡ get_or codes j 0 % 10
  all_digits l first right j = one (dec_lt j 1) (dec_lt j 7)
    where
      rest : List ℕ
      rest = drop 6 (drop 1 codes)

      front : length (take 1 codes) ≡ 1
      front = length-take-le 1 codes (omega arith)

      one : Dec (j < 1) → Dec (j < 7) → get_or (put_mid 1 6 codes items) j 0 ≡ get_or codes j 0 % 10
      one (yes h) d =
          let z : j ≡ 0 = omega arith in
          rw (get_or-append (take 1 codes) (items ++ rest) 0 j (omega (arith, front)), get_or-take 1 codes j 0 h, z) (omega arith)
      one (no n) (yes h) =
          let z : 1 + (j - 1) ≡ j = omega arith in
          get_or-append_right (take 1 codes) (items ++ rest) 1 j 0 front (omega arith) ∙ get_or-append items rest 0 (j - 1) (omega (arith, p.long))
          ∙ rw z at (p.done (j - 1) (omega arith))
      one (no n) (no m) =
          let z : 1 + (6 + (j - 1 - 6)) ≡ j = omega arith in
          get_or-append_right (take 1 codes) (items ++ rest) 1 j 0 front (omega arith) ∙ get_or-append_right items rest 6 (j - 1) 0 p.long (omega arith)
          ∙ get_or-drop 6 (drop 1 codes) (j - 1 - 6) 0 ∙ rw z at (get_or-drop 1 codes (6 + (j - 1 - 6)) 0) ∙ omega (arith, right j (omega arith))

-- ---- every other

pub plain-shows : (s : ℕ) → (s ≡ 3 → ⊥) → (s ≡ 5 → ⊥) → (s ≡ 7 → ⊥) → (symbology_of s).shows ≡ each
unfolding symbology_of symbologies
plain-shows zero a b c = refl
plain-shows (suc zero) a b c = refl
plain-shows (suc (suc zero)) a b c = refl
plain-shows (suc (suc (suc zero))) a b c = absurd (a refl)
plain-shows (suc (suc (suc (suc zero)))) a b c = refl
plain-shows (suc (suc (suc (suc (suc zero))))) a b c = absurd (b refl)
plain-shows (suc (suc (suc (suc (suc (suc zero)))))) a b c = refl
plain-shows (suc (suc (suc (suc (suc (suc (suc zero))))))) a b c = absurd (c refl)
plain-shows (suc (suc (suc (suc (suc (suc (suc (suc s)))))))) a b c =
    each_at (λ (y : Symbology). y.shows ≡ each) (drop 8 symbologies) (digits unknown no_check [] each) (refl, (refl, tt)) refl s
