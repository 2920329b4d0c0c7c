-- Every symbology is proper: a symbology is data, and so is this. A line of specs/Symbologies.antt has one here.
--
--   proper      every symbology is proper
--   single      outside full ASCII no byte draws a pair
--   last-place  every check stands last today
--   undo        row_of s m d gives r exactly if data_of s m r gives d
--   same-data   so two data that give one row are the same, zeros at the front counted (for the reader: demand 3 says it of strips)
--
-- Assumes nothing.
use Rattle.std.proofs.Common.{◌≡◌, refl, sym, ◌∙◌, ap, ◌↔◌, ◌⊎◌, inl, inr, ◌≢◌, Bool, true, false, ◌&&◌, List, [], ℕ, zero, suc, ◌+◌, ◌-◌, ◌<◌, ◌≤◌, arith, eqb, ltb, leb, lit≤, length, ltb-true, leb-true, eqb-true}
use native.Mathlib.Decide.{ℕ_discrete, dec_lt}
use lib.ListN.{get_or-eq_default}
use Rattle.laws.specs.Search.{pick, upto}
use Rattle.laws.specs.Spelling.{Place, Coder}
use Rattle.laws.specs.Rules.{Rule}
use Rattle.laws.proofs.Finite.{both_left, both_right, upto-at}
use Rattle.laws.proofs.Spelling.{Valid}
use Rattle.laws.proofs.Fitting.{Keeps, free-inserted}
use Rattle.laws.proofs.Rules.{Sound}
use Rattle.words.specs.Order.{gives}
use Rattle.tables.specs.Code39.{chars39, alphabet39}
use Rattle.tables.specs.Codabar.{table41, alphabet_codabar}
use Rattle.tables.specs.TwoOfFive.{table44, alphabet_digits}
use Rattle.symbologies.specs.declared.limits.Limits.{Limits}
use Rattle.symbologies.specs.Sizes.{places}
use Rattle.symbologies.specs.Limits.{◌to◌, takes, unknown, offered, added, least_of, most_of, none}
use Rattle.symbologies.specs.Coders.{anywhere, raw_coder, full_coder, full}
use Rattle.symbologies.specs.Checks.{by43, right10, no_check}
use Rattle.symbologies.specs.Parts.{Part, Shows, each}
use Rattle.symbologies.specs.Symbologies.{Symbology, code39, codabar, digits, symbologies, symbology_of}
use Rattle.symbologies.specs.Rows.{row_of, data_of}
use Rattle.symbologies.proofs.Numbers.{by_number, by-test, others}
use Rattle.symbologies.proofs.Coders.{Single, plain39, plain-digits, codabar-all, full-valid, full-keeps, raw-valid, raw-keeps, raw-last}
use Rattle.symbologies.proofs.Checks.{sound43, sound-right, below_apart, check-43, check-10}
use Rattle.symbologies.proofs.Asked.{Counts, EndsAlone, Loose, Checked, Proper}
use Rattle.symbologies.proofs.Undo.{drew, drawn, reads, read, undone, redone}

-- ---- the limits, by one test of the three modes

abbrev count-test : Limits → ℕ → Bool
count-test l m = pick (offered l m) (ltb 0 (least_of l m) && leb (most_of l m + added m) l.room) true

-- a mode past 2 is never offered
in_three : (l : Limits) (m : ℕ) → length l.modes ≡ 3 → offered l m ≡ true → m < 3
in_three l m n o = go (dec_lt m 3)
  where
    go : Dec (m < 3) → m < 3
    go (yes h) = h
    go (no h) = absurd (omega (arith, ap (λ (p : ℕ × ℕ). p.1) (get_or-eq_default l.modes none {n = m} (omega arith)), ltb-true 0 (most_of l m) o))

counted : (y : Symbology) → length y.limits.modes ≡ 3 → upto 3 (count-test y.limits) ≡ true → (m : ℕ) → offered y.limits m ≡ true → Counts y m
counted y n t m o =
    let l : Limits = y.limits in
    let h : m < 3 = in_three l m n o in
    let c : (ltb 0 (least_of l m) && leb (most_of l m + added m) l.room) ≡ true = rw o at (upto-at 3 (count-test l) t m h) in
    record {
      some = ltb-true 0 _ (both_left _ (leb (most_of l m + added m) l.room) c);
      cap = leb-true _ l.room (both_right (ltb 0 (least_of l m)) _ c);
      mode = h;
    }

-- ---- a check at the end of a row whose set is the same at every place

module _ (y : Symbology) (n : ℕ) (same : (p : Place) (v : ℕ) → y.allowed p v ≡ ltb v n) (size_is : y.rule.modulus ≡ n) (low : (sum : ℕ) → y.rule.check sum < n) (last : y.rule.behind ≡ 0) where
  last-checked : (m : ℕ) → Counts y m → Sound y.rule places → Checked y m
  last-checked m c s = record {
    sound = s;
    apart = λ p v w a b e. below_apart n v w (rw (same p v) at a) (rw (same p w) at b) (rw size_is at e);
    inserts = λ h l f sum. free-inserted y.allowed n same (length h - y.rule.behind) (y.rule.check sum) h (low sum) f;
    enough = omega (arith, c.some);
  }

-- modes 1 and 2 are not offered
checkless : (y : Symbology) → length y.limits.modes ≡ 3 → upto 2 (λ i. eqb (most_of y.limits (suc i)) 0) ≡ true → (m : ℕ) → offered y.limits m ≡ true → m ≢ 0 → Checked y m
checkless y k t zero o z = absurd (z refl)
checkless y k t (suc m) o z = go (dec_lt m 2)
  where
    go : Dec (m < 2) → Checked y (suc m)
    go (yes h) =
        absurd (omega (arith, eqb-true (most_of y.limits (suc m)) 0 (upto-at 2 (λ i. eqb (most_of y.limits (suc i)) 0) t m h), ltb-true 0 (most_of y.limits (suc m)) o))
    go (no h) = absurd (omega (arith, ap (λ (p : ℕ × ℕ). p.1) (get_or-eq_default y.limits.modes none {n = suc m} (omega arith)), ltb-true 0 (most_of y.limits (suc m)) o))

digits_same : (p : Place) (v : ℕ) → anywhere alphabet_digits p v ≡ ltb v 10
unfolding alphabet_digits table44
digits_same p v = refl

same39 : (p : Place) (v : ℕ) → anywhere alphabet39 p v ≡ ltb v 43
unfolding alphabet39 chars39
same39 p v = refl

modulus-10 : right10.modulus ≡ 10
unfolding right10
modulus-10 = refl

behind-10 : right10.behind ≡ 0
unfolding right10
behind-10 = refl

modulus-43 : by43.modulus ≡ 43
unfolding by43
modulus-43 = refl

behind-43 : by43.behind ≡ 0
unfolding by43
behind-43 = refl

-- ---- each line

digital : (l : Limits) (r : Rule) (ps : List Part) (f : Shows) → length l.modes ≡ 3 → upto 3 (count-test l) ≡ true → l.room ≤ places
    → ((m : ℕ) → offered l m ≡ true → m ≢ 0 → Checked (digits l r ps f) m) → Proper (digits l r ps f)
digital l r ps f n t s c = record {
  valid = λ m. plain-digits.0;
  keeps = λ m. plain-digits.2;
  counts = counted (digits l r ps f) n t;
  checked = c;
  spread = inl (λ m. plain-digits.1);
  ends = λ p b h. plain-digits.1 p b;
  small = s;
}

-- no symbology
unoffered : Proper (digits unknown no_check [] each)
unoffered = digital unknown no_check [] each refl refl (lit≤ tt) (checkless (digits unknown no_check [] each) refl refl)

-- digits with a check by ten
by_ten : (l : Limits) (ps : List Part) (f : Shows) → length l.modes ≡ 3 → upto 3 (count-test l) ≡ true → l.room ≤ places → Proper (digits l right10 ps f)
by_ten l ps f n t s =
    digital l right10 ps f n t s (λ m o z. tens m (counted (digits l right10 ps f) n t m o))
  where
    tens : (m : ℕ) → Counts (digits l right10 ps f) m → Checked (digits l right10 ps f) m
    tens m c = last-checked (digits l right10 ps f) 10 digits_same modulus-10 check-10 behind-10 m c sound-right

-- Code 39, whose characters draw themselves or by full ASCII
by-43 : (l : Limits) (k : ℕ → Coder) → length l.modes ≡ 3 → upto 3 (count-test l) ≡ true → l.room ≤ places → ((m : ℕ) → Valid (k m)) → ((m : ℕ) → Keeps (anywhere alphabet39) (k m))
    → ((m : ℕ) → Single (k m)) ⊎ ((m : ℕ) → offered l m ≡ true → Loose (code39 l k) m) → EndsAlone (k 1) → Proper (code39 l k)
by-43 l k n t s v w e a = record {
  valid = v;
  keeps = w;
  counts = counted (code39 l k) n t;
  checked = λ m o z. last-checked (code39 l k) 43 same39 modulus-43 check-43 behind-43 m (counted (code39 l k) n t m o) sound43;
  spread = e;
  ends = a;
  small = s;
}

full-each : (P : Coder → Type 0) → P raw_coder → P full_coder → (m : ℕ) → P (full m)
full-each P a b m = go (eqb m 1)
  where
    go : (t : Bool) → P (pick t raw_coder full_coder)
    go true = a
    go false = b

-- the room is all that a mode takes; mode 1 asks for two bytes, of which the last draws one character
abbrev two-limits : Limits
two-limits = takes (1 to 32) (2 to 32) (1 to 31) false 32 (10, 20) (16, 32)

loose : (m : ℕ) → offered two-limits m ≡ true → Loose (code39 two-limits full) m
loose zero o = record { all = lit≤ tt; one = inl (lit≤ tt) }
loose (suc zero) o = record { all = lit≤ tt; one = inr (refl, lit≤ tt) }
loose (suc (suc zero)) o = record { all = lit≤ tt; one = inl (lit≤ tt) }
loose (suc (suc (suc m))) o = absurd (omega (arith, in_three two-limits (suc (suc (suc m))) refl o))

proper-codabar : Proper codabar
unfolding alphabet_codabar table41
proper-codabar = record {
  valid = λ m. codabar-all.0;
  keeps = λ m. codabar-all.2;
  counts = counted codabar refl refl;
  checked = checkless codabar refl refl;
  spread = inl (λ m. codabar-all.1);
  ends = λ p b h. codabar-all.1 p b;
  small = lit≤ tt;
}

pub proper : (s : ℕ) → Proper (symbology_of s)
unfolding symbologies
proper =
    by_number Proper (
      unoffered,
      (
        by-43 _ _ refl refl (lit≤ tt) (λ m. plain39.0) (λ m. plain39.2) (inl (λ m. plain39.1)) (λ p b h. plain39.1 p b),
        (
          by-43 two-limits full refl refl (lit≤ tt) (full-each Valid raw-valid full-valid) (full-each (Keeps (anywhere alphabet39)) raw-keeps full-keeps) (inr loose) raw-last,
          (
            proper-codabar,
            (
              by_ten _ _ _ refl refl (lit≤ tt),
              (
                by_ten _ _ _ refl refl (lit≤ tt),
                (
                  by_ten _ _ _ refl refl (lit≤ tt),
                  (by_ten _ _ _ refl refl (lit≤ tt), (by_ten _ _ _ refl refl (lit≤ tt), (by_ten _ _ _ refl refl (lit≤ tt), tt))),
                ),
              ),
            ),
          ),
        ),
      ),
    )
    unoffered

-- ---- by number

pub single : (s : ℕ) → (s ≡ 2 → ⊥) → (m : ℕ) → Single ((symbology_of s).coder m)
unfolding symbology_of symbologies
single s n m = go (ℕ_discrete s 1) (ℕ_discrete s 3)
  where
    go : Dec (s ≡ 1) → Dec (s ≡ 3) → Single ((symbology_of s).coder m)
    go (yes e) f = rw e plain39.1
    go (no e) (yes f) = rw f codabar-all.1
    go (no e) (no f) = rw (others s e n f).coder plain-digits.1

pub last-place : (s : ℕ) → (symbology_of s).rule.behind ≡ 0
last-place s = eqb-true (symbology_of s).rule.behind 0 (by-test (λ (y : Symbology). eqb y.rule.behind 0) (unfold symbologies by43 right10 no_check in refl) (unfold no_check in refl) s)

-- ---- the theorem

pub undo : (s m : ℕ) (d r : List ℕ) → (row_of s m d ≡ gives r) ↔ (data_of s m r ≡ gives d)
undo s m d r = (
  λ e. read s m d r (undone (symbology_of s) (proper s) m d r (drew s m d r e)),
  λ e. drawn s m d r (redone (symbology_of s) (proper s) m d r (reads s m d r e)),
)

pub same-data : (s m : ℕ) (d e r : List ℕ) → row_of s m d ≡ gives r → row_of s m e ≡ gives r → d ≡ e
same-data s m d e r a b = let q : gives d ≡ gives e = sym ((undo s m d r).0 a) ∙ (undo s m e r).0 b in cc
