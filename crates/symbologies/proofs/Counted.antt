-- How many characters a row has, by symbology: what `counted` passes is document 01's table. A count is drawn by a mode that is offered, so
-- it lies between what that mode takes, and what is the same in all three modes is a fact of every count.
--
--   ByMode, by_mode   a count of a symbology comes from a mode that is offered
--   counted-by        a count that some mode draws is a count of the symbology
--   in-modes          what holds of each mode that is offered, by a test of the three
--   counted-some, counted-few    at least one, and at most as many as there are places
--   counted-39, counted-full, counted-codabar, counted-industrial, counted-interleaved, counted-matrix    by symbology: from .. to ..
--   counted-even      in Interleaved an even number
--   counted-ean13, counted-ean8, counted-upc    in EAN and UPC just one
--   known             only the numbers 1 to 9 count anything
--   by_number         so a fact of those nine is a fact of every such symbology
--
-- Assumes nothing.
use Rattle.std.proofs.Common.{◌≡◌, refl, Bool, true, false, ◌&&◌, ◌||◌, not, [], ℕ, zero, suc, ◌+◌, ◌*◌, ◌-◌, ◌/◌, ◌%◌, ◌<◌, ◌≤◌, arith, leb, leb-true}
use native.Mathlib.Decide.{dec_lt}
use lib.ListN.{get_or-eq_default}
use Rattle.std.proofs.lemmas.Bool.{eqb-false, not-true, or_left, or_right}
use Rattle.laws.specs.Search.{pick, upto}
use Rattle.laws.proofs.Finite.{both_left, both_right, upto-at, From, from_at}
use Rattle.symbologies.specs.declared.limits.Limits.{Limits}
use Rattle.symbologies.specs.Sizes.{places}
use Rattle.symbologies.specs.Limits.{unknown, offered, holds, odd, added, drawable, least_of, most_of}
use Rattle.symbologies.specs.Checks.{no_check}
use Rattle.symbologies.specs.Parts.{each}
use Rattle.symbologies.specs.Symbologies.{digits, symbologies, symbology_of}
use Rattle.symbologies.specs.Strips.{counts, counted}
use Rattle.symbologies.proofs.Numbers.{room_small}
use Rattle.symbologies.proofs.Asked.{Counts}
use Rattle.symbologies.proofs.Undo.{held}
use Rattle.symbologies.proofs.Proper.{proper}

-- ---- a count comes from a mode

pub record ByMode (s n m : ℕ) : Type 0 where
  pub offers : offered (symbology_of s).limits m ≡ true
  pub least : least_of (symbology_of s).limits m + added m ≤ n
  pub most : n ≤ most_of (symbology_of s).limits m + added m
  pub paired : odd (symbology_of s).limits n ≡ false
  pub counts : Counts (symbology_of s) m

of-mode : (s n m : ℕ) → counts (symbology_of s) n m ≡ true → ByMode s n m
of-mode s n m e =
    let l : Limits = (symbology_of s).limits in
    let o : offered l m ≡ true = both_left (offered l m) (drawable l m n) e in
    let d : drawable l m n ≡ true = both_right (offered l m) (drawable l m n) e in
    let c : Counts (symbology_of s) m = (proper s).counts m o in
    let h : (least_of l m ≤ n - added m) × (n - added m ≤ most_of l m) = held l m (n - added m) (both_left (holds l m (n - added m)) (not (odd l n)) d) in
    record {
      offers = o;
      least = omega (arith, c.some, h.0);
      most = omega (arith, h.1);
      paired = not-true _ (both_right (holds l m (n - added m)) (not (odd l n)) d);
      counts = c;
    }

either : {A : Type 0} (a b : Bool) → (a ≡ true → A) → (b ≡ true → A) → (a || b) ≡ true → A
either true b f g e = f refl
either false b f g e = g e

pub by_mode : {A : Type 0} (s n : ℕ) → ((m : ℕ) → ByMode s n m → A) → counted s n ≡ true → A
unfolding counted
by_mode s n f =
    either (counts (symbology_of s) n 0) _ (λ e. f 0 (of-mode s n 0 e))
    (either (counts (symbology_of s) n 1) (counts (symbology_of s) n 2) (λ e. f 1 (of-mode s n 1 e)) (λ e. f 2 (of-mode s n 2 e)))

pub counted-by : (s n m : ℕ) → m < 3 → counts (symbology_of s) n m ≡ true → counted s n ≡ true
unfolding counted
counted-by s n zero l e = or_left _ _ e
counted-by s n (suc zero) l e = or_right (counts (symbology_of s) n 0) _ (or_left _ _ e)
counted-by s n (suc (suc zero)) l e = or_right (counts (symbology_of s) n 0) _ (or_right (counts (symbology_of s) n 1) _ e)
counted-by s n (suc (suc (suc m))) l e = absurd (omega arith)

pub counted-some : (s n : ℕ) → counted s n ≡ true → 0 < n
counted-some s n = by_mode s n (λ m b. omega (arith, b.counts.some, b.least))

pub counted-few : (s n : ℕ) → counted s n ≡ true → n ≤ places
counted-few s n = by_mode s n (λ m b. omega (arith, b.counts.cap, b.most, room_small s))

-- ---- by symbology

-- a test of each mode that is offered
abbrev pub in-modes : Limits → (ℕ → Bool) → Bool
in-modes l f = upto 3 (λ m. pick (offered l m) (f m) true)

pub mode-at : (s n m : ℕ) (f : ℕ → Bool) → in-modes (symbology_of s).limits f ≡ true → ByMode s n m → f m ≡ true
mode-at s n m f t b = rw b.offers at (upto-at 3 (λ m. pick (offered (symbology_of s).limits m) (f m) true) t m b.counts.mode)

abbrev within : Limits → ℕ → ℕ → ℕ → Bool
within l least most m = leb least (least_of l m + added m) && leb (most_of l m + added m) most

ranged : (s least most : ℕ) → in-modes (symbology_of s).limits (within (symbology_of s).limits least most) ≡ true → (n : ℕ) → counted s n ≡ true
    → (least ≤ n) × (n ≤ most)
ranged s least most t n =
    by_mode s n
    (λ m b.
    let l : Limits = (symbology_of s).limits in
    let low : ℕ = least_of l m + added m in
    let high : ℕ = most_of l m + added m in
    let w : (leb least low && leb high most) ≡ true = mode-at s n m (within l least most) t b in (
      omega (arith, leb-true least low (both_left (leb least low) (leb high most) w), b.least),
      omega (arith, leb-true high most (both_right (leb least low) (leb high most) w), b.most),
    ))

pub counted-39 : (n : ℕ) → counted 1 n ≡ true → (0 < n) × (n ≤ 32)
unfolding symbology_of symbologies
counted-39 = ranged 1 1 32 refl

pub counted-full : (n : ℕ) → counted 2 n ≡ true → (0 < n) × (n ≤ 32)
unfolding symbology_of symbologies
counted-full = ranged 2 1 32 refl

pub counted-codabar : (n : ℕ) → counted 3 n ≡ true → (3 ≤ n) × (n ≤ 34)
unfolding symbology_of symbologies
counted-codabar = ranged 3 3 34 refl

pub counted-industrial : (n : ℕ) → counted 4 n ≡ true → (0 < n) × (n ≤ 32)
unfolding symbology_of symbologies
counted-industrial = ranged 4 1 32 refl

pub counted-even : (n : ℕ) → counted 5 n ≡ true → n ≡ 2 * (n / 2)
unfolding symbology_of symbologies
counted-even n = by_mode 5 n (λ m b. omega (arith, eqb-false (n % 2) 1 b.paired))

pub counted-interleaved : (n : ℕ) → counted 5 n ≡ true → (2 ≤ n) × (n ≤ 32)
unfolding symbology_of symbologies
counted-interleaved n e = let r : (1 ≤ n) × (n ≤ 32) = ranged 5 1 32 refl n e in (omega (arith, r.0, counted-even n e), r.1)

pub counted-matrix : (n : ℕ) → counted 6 n ≡ true → (0 < n) × (n ≤ 32)
unfolding symbology_of symbologies
counted-matrix = ranged 6 1 32 refl

pub counted-ean13 : (n : ℕ) → counted 7 n ≡ true → n ≡ 13
unfolding symbology_of symbologies
counted-ean13 n e = omega (arith, ranged 7 13 13 refl n e)

pub counted-ean8 : (n : ℕ) → counted 8 n ≡ true → n ≡ 8
unfolding symbology_of symbologies
counted-ean8 n e = omega (arith, ranged 8 8 8 refl n e)

pub counted-upc : (n : ℕ) → counted 9 n ≡ true → n ≡ 12
unfolding symbology_of symbologies
counted-upc n e = omega (arith, ranged 9 12 12 refl n e)

-- ---- no other symbology

unknown-past : (s : ℕ) → 10 ≤ s → symbology_of s ≡ symbology_of 0
unfolding symbology_of symbologies
unknown-past s h = get_or-eq_default symbologies (digits unknown no_check [] each) {n = s} h

unknown-none : (s n : ℕ) → symbology_of s ≡ symbology_of 0 → counted s n ≡ false
unfolding counted symbology_of symbologies
unknown-none s n e = rw e

pub known : (s n : ℕ) → counted s n ≡ true → (0 < s) × (s < 10)
known s n e = (go (dec_lt 0 s), past (dec_lt s 10))
  where
    never : symbology_of s ≡ symbology_of 0 → ⊥
    never u = let f : counted s n ≡ false = unknown-none s n u in let z : ◌≡◌ {A = ℕ} 0 1 = cc in omega arith

    go : Dec (0 < s) → 0 < s
    go (yes h) = h
    go (no h) = let z : s ≡ 0 = omega arith in absurd (never (rw z))

    past : Dec (s < 10) → s < 10
    past (yes h) = h
    past (no h) = absurd (never (unknown-past s (omega arith)))

pub by_number : (P : ℕ → Type 0) → From P 1 9 → (s n : ℕ) → counted s n ≡ true → P s
by_number P f s n e = let k : (0 < s) × (s < 10) = known s n e in from_at P 1 9 f s k.0 k.1
