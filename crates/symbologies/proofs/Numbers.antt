-- The symbologies by their numbers: what holds of every line, by a look at each.
--
--   by-test, by_number   what holds of each line, and of an unknown symbology, holds of every number
--   three-modes        every line has three modes
--   Digits, others     every number but 1, 2 and 3 draws digits
--   only-five, only_two    only Interleaved asks for an even count, and only full ASCII for fewer characters than there are places
--   only-seven         only EAN-13 has rows that belong to no characters
--   room_small         places are room enough
--   step_some          every step is at least 1; lengths-small, and steps and bases are small
--
-- Assumes nothing.
use Rattle.std.proofs.Common.{◌≡◌, refl, Bool, true, false, ◌&&◌, List, [], ◌∷◌, ℕ, zero, suc, ◌<◌, ◌≤◌, ltb, leb, eqb, length, drop, ltb-true, leb-true, eqb-true}
use Rattle.laws.proofs.Finite.{both_left, both_right, Each, each_at}
use Rattle.laws.specs.Rules.{Rule}
use Rattle.tables.specs.TwoOfFive.{alphabet_digits}
use Rattle.symbologies.specs.declared.limits.Limits.{Limits}
use Rattle.symbologies.specs.Sizes.{places}
use Rattle.symbologies.specs.Limits.{unknown}
use Rattle.symbologies.specs.Checks.{no_check}
use Rattle.symbologies.specs.Coders.{anywhere, plain}
use Rattle.symbologies.specs.Parts.{Part, Shown, Shows, each}
use Rattle.symbologies.specs.Symbologies.{Symbology, digits, symbologies, symbology_of}

pub by_number : (P : Symbology → Type 0) → Each P symbologies → P (digits unknown no_check [] each) → (s : ℕ) → P (symbology_of s)
unfolding symbology_of
by_number P e p s = each_at P symbologies (digits unknown no_check [] each) e p s

-- ---- by one test of each line

abbrev all_lines : (Symbology → Bool) → List Symbology → Bool
all_lines test [] = true
all_lines test (y ∷ ys) = let rest = all_lines test ys in test y && rest

lines-each : (test : Symbology → Bool) (ys : List Symbology) → all_lines test ys ≡ true → Each (λ (y : Symbology). test y ≡ true) ys
lines-each test [] t = tt
lines-each test (y ∷ ys) t = (both_left (test y) (all_lines test ys) t, lines-each test ys (both_right (test y) (all_lines test ys) t))

pub by-test : (test : Symbology → Bool) → all_lines test symbologies ≡ true → test (digits unknown no_check [] each) ≡ true → (s : ℕ) → test (symbology_of s) ≡ true
by-test test t u = by_number (λ (y : Symbology). test y ≡ true) (lines-each test symbologies t) u

pub three-modes : (s : ℕ) → length (symbology_of s).limits.modes ≡ 3
three-modes s = eqb-true (length (symbology_of s).limits.modes) 3 (by-test (λ (y : Symbology). eqb (length y.limits.modes) 3) (unfold symbologies in refl) refl s)

pub room_small : (s : ℕ) → (symbology_of s).limits.room ≤ places
room_small s = leb-true (symbology_of s).limits.room places (by-test (λ (y : Symbology). leb y.limits.room places) (unfold symbologies in refl) refl s)

pub step_some : (s : ℕ) → 0 < (symbology_of s).limits.step
step_some s = ltb-true 0 (symbology_of s).limits.step (by-test (λ (y : Symbology). ltb 0 y.limits.step) (unfold symbologies in refl) refl s)

abbrev small : Limits → Bool
small l = (leb l.step 20 && leb l.more 40) && (leb l.each 20 && leb l.rest 40)

lengths-test : (s : ℕ) → small (symbology_of s).limits ≡ true
lengths-test = by-test (λ (y : Symbology). small y.limits) (unfold symbologies in refl) refl

pub record Small (l : Limits) : Type 0 where
  pub step : l.step ≤ 20
  pub more : l.more ≤ 40
  pub each : l.each ≤ 20
  pub rest : l.rest ≤ 40

pub lengths-small : (s : ℕ) → Small (symbology_of s).limits
lengths-small s =
    let l : Limits = (symbology_of s).limits in
    let a : (leb l.step 20 && leb l.more 40) ≡ true = both_left (leb l.step 20 && leb l.more 40) _ (lengths-test s) in
    let b : (leb l.each 20 && leb l.rest 40) ≡ true = both_right (leb l.step 20 && leb l.more 40) _ (lengths-test s) in
    record {
      step = leb-true l.step 20 (both_left _ (leb l.more 40) a);
      more = leb-true l.more 40 (both_right (leb l.step 20) _ a);
      each = leb-true l.each 20 (both_left _ (leb l.rest 40) b);
      rest = leb-true l.rest 40 (both_right (leb l.each 20) _ b);
    }

-- ---- every number but 1, 2 and 3 draws digits

pub record Digits (y : Symbology) : Type 0 where
  pub coder : y.coder ≡ (λ m. plain alphabet_digits)
  pub alphabet : y.alphabet ≡ alphabet_digits
  pub allowed : y.allowed ≡ anywhere alphabet_digits

of : (l : Limits) (r : Rule) (ps : List Part) (f : Shows) → Digits (digits l r ps f)
of l r ps f = record { coder = refl; alphabet = refl; allowed = refl }

pub others : (s : ℕ) → (s ≡ 1 → ⊥) → (s ≡ 2 → ⊥) → (s ≡ 3 → ⊥) → Digits (symbology_of s)
unfolding symbology_of symbologies
others zero a b c = of _ _ _ _
others (suc zero) a b c = absurd (a refl)
others (suc (suc zero)) a b c = absurd (b refl)
others (suc (suc (suc zero))) a b c = absurd (c refl)
others (suc (suc (suc (suc n)))) a b c =
    each_at Digits (drop 4 symbologies) (digits unknown no_check [] each) (of _ _ _ _, (of _ _ _ _, (of _ _ _ _, (of _ _ _ _, (of _ _ _ _, (of _ _ _ _, tt)))))) (of _ _ _ _) n

pub only-five : (s : ℕ) → (s ≡ 5 → ⊥) → (symbology_of s).limits.even ≡ false
unfolding symbology_of symbologies
only-five zero n = refl
only-five (suc zero) n = refl
only-five (suc (suc zero)) n = refl
only-five (suc (suc (suc zero))) n = refl
only-five (suc (suc (suc (suc zero)))) n = refl
only-five (suc (suc (suc (suc (suc zero))))) n = absurd (n refl)
only-five (suc (suc (suc (suc (suc (suc s)))))) n =
    each_at (λ (y : Symbology). y.limits.even ≡ false) (drop 6 symbologies) (digits unknown no_check [] each) (refl, (refl, (refl, (refl, tt)))) refl s

pub only-seven : (s : ℕ) → (s ≡ 7 → ⊥) → (f : Shown) → (symbology_of s).shows.unlike f ≡ false
unfolding symbology_of symbologies
only-seven zero n f = refl
only-seven (suc zero) n f = refl
only-seven (suc (suc zero)) n f = refl
only-seven (suc (suc (suc zero))) n f = refl
only-seven (suc (suc (suc (suc zero)))) n f = refl
only-seven (suc (suc (suc (suc (suc zero))))) n f = refl
only-seven (suc (suc (suc (suc (suc (suc zero)))))) n f = refl
only-seven (suc (suc (suc (suc (suc (suc (suc zero))))))) n f = absurd (n refl)
only-seven (suc (suc (suc (suc (suc (suc (suc (suc s)))))))) n f =
    each_at (λ (y : Symbology). y.shows.unlike f ≡ false) (drop 8 symbologies) (digits unknown no_check [] each) (refl, (refl, tt)) refl s

pub only_two : (s : ℕ) → (s ≡ 2 → ⊥) → (symbology_of s).limits.room ≡ places
unfolding symbology_of symbologies
only_two zero n = refl
only_two (suc zero) n = refl
only_two (suc (suc zero)) n = absurd (n refl)
only_two (suc (suc (suc s))) n =
    each_at (λ (y : Symbology). y.limits.room ≡ places) (drop 3 symbologies) (digits unknown no_check [] each) (refl, (refl, (refl, (refl, (refl, (refl, (refl, tt))))))) refl s
