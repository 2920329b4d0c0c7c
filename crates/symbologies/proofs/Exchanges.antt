-- Ticket 2 of document 02, for rows: what a check sees of two neighbouring characters that are exchanged.
--
--   digits-passes     symbologies 4 to 9: the exchanged row passes exactly if the two characters are equal or differ by 5
--   before-passes     Code 39, full ASCII too: with two characters before the check exchanged it always passes
--   last-passes       with the last of them and the check, exactly if they are equal
--
-- All of it is the one law of `laws` with the weights of the row, the check's among them, and then arithmetic. Assumes nothing.
use Rattle.std.proofs.Common.{◌≡◌, refl, sym, ◌∙◌, ◌↔◌, ◌⊎◌, inl, inr, ◌≢◌, true, ◌||◌, List, [], ◌∷◌, ◌++◌, ℕ, suc, ◌+◌, ◌-◌, ◌*◌, ◌%◌, ◌<◌, ◌≤◌, arith, mod-eq_of_lt, zero-mul, eqb, ltb, length, get_or, drop_of_length-le, take_all, eqb-true, ne_eqb}
use mathlib.Core.Logic.Iff
use mathlib.Core.List.{reverse_aux, reverse_aux-eq}
use native.Mathlib.Nat.{zero-mod}
use native.Mathlib.Decide.{ℕ_discrete}
use lib.ListN.{get_or-append}
use Rattle.std.proofs.lemmas.List.{get_or_at}
use Rattle.laws.specs.Search.{pick}
use Rattle.laws.specs.Spelling.{Place}
use Rattle.laws.specs.Rules.{Rule, place_of, passes, weights_of}
use Rattle.laws.specs.Weigh.{turns}
use Rattle.laws.specs.Neighbours.{swapped, difference}
use Rattle.laws.proofs.Finite.{upto-at, from_at}
use Rattle.laws.proofs.Remainders.{apart}
use Rattle.laws.proofs.Rules.{Sound, exchanged}
use Rattle.laws.proofs.Weigh.{turns-one, turns-turned, length-turns}
use Rattle.laws.proofs.Neighbours.{turns-apart, length-swapped, below-swapped}
use Rattle.laws.proofs.Spelling.{Below, below_at}
use Rattle.laws.proofs.Fitting.{free-below}
use Rattle.tables.specs.Code39.{chars39, alphabet39}
use Rattle.tables.specs.TwoOfFive.{table44, alphabet_digits}
use Rattle.symbologies.specs.Sizes.{places}
use Rattle.symbologies.specs.Checks.{by43, right10}
use Rattle.symbologies.specs.Symbologies.{symbologies, symbology_of}
use Rattle.symbologies.proofs.Checks.{sound43, sound-right}
use Rattle.symbologies.proofs.Proper.{proper}
use Rattle.symbologies.proofs.Undo.{Reads}
use Rattle.symbologies.proofs.Within.{check-is, row_fits}

-- ---- by arithmetic, from the law: whether the modulus divides the product of the differences

fives : (d : ℕ) → d < 10 → 2 * d % 10 ≡ 0 → d ≢ 0 → d ≡ 5
fives d h e n = eqb-true d 5 (rw (e, ne_eqb d 0 n) at (upto-at 10 (λ d. pick (eqb (2 * d % 10) 0) (eqb d 0 || eqb d 5) true) refl d h))

-- 10, with weights 1 and 3
tens : (x y : ℕ) → x < 10 → y < 10 → (2 * difference x y % 10 ≡ 0) ↔ ((x ≡ y) ⊎ (difference x y ≡ 5))
tens x y h k = (λ e. there e (ℕ_discrete x y), back)
  where
    there : 2 * difference x y % 10 ≡ 0 → Dec (x ≡ y) → (x ≡ y) ⊎ (difference x y ≡ 5)
    there e (yes q) = inl q
    there e (no q) = inr (fives (difference x y) (omega arith) e (omega arith))

    back : (x ≡ y) ⊎ (difference x y ≡ 5) → 2 * difference x y % 10 ≡ 0
    back (inl q) = omega arith
    back (inr q) = rw q

-- 43, and every modulus, with weights 1 and 1
ones : (m x y : ℕ) → difference 1 1 * difference x y % m ≡ 0
ones m x y = rw zero-mul (zero-mod m)

-- 43, with weights 1 and 42, the check's own
checks : (x y : ℕ) → x < 43 → y < 43 → (difference 1 42 * difference x y % 43 ≡ 0) ↔ (x ≡ y)
checks x y h k =
    let small : difference x y < 43 = omega arith in
    (λ e. omega (arith, sym (mod-eq_of_lt small) ∙ apart 43 21 41 (difference x y) 0 refl e), λ q. omega arith)

-- ---- neighbouring weights, the check's among them

-- where the check is last, its weight is
last-weight : (rule : Rule) (n : ℕ) → rule.behind ≡ 0 → length (rule.weights n) ≡ n → weights_of rule (suc n) ≡ rule.weights n ++ rule.own ∷ []
last-weight rule n b l =
    let k : suc n - 1 ≡ n = omega arith in
    let p : place_of rule (suc n) ≡ n = omega arith in
    rw (p, k, take_all n (rule.weights n) (omega arith), drop_of_length-le (rule.weights n) {i = n} (omega arith))

-- from the right the weights take turns up to the check's own
apart-right : (n i : ℕ) → i < n → difference (get_or (weights_of right10 (suc n)) i 0) (get_or (weights_of right10 (suc n)) (suc i) 0) ≡ 2
unfolding right10
apart-right n i h = rw (last-weight right10 n refl (sound-right.long n), ← reverse_aux-eq (turns 3 1 n) (1 ∷ [])) (go (ℕ_discrete (n % 2) 1))
  where
    go : Dec (n % 2 ≡ 1) → difference (get_or (reverse_aux (turns 3 1 n) (1 ∷ [])) i 0) (get_or (reverse_aux (turns 3 1 n) (1 ∷ [])) (suc i) 0) ≡ 2
    go (yes o) = rw ((turns-turned 3 1 n 1).0 o) (turns-apart 3 1 (n + 1) i (omega arith))
    go (no o) = rw ((turns-turned 3 1 n 1).1 o) (turns-apart 1 3 (n + 1) i (omega arith))

one-43 : (n i : ℕ) → i < n → get_or (weights_of by43 (suc n)) i 0 ≡ 1
unfolding by43
one-43 n i h = rw (last-weight by43 n refl (length-turns 1 1 n)) (get_or-append (turns 1 1 n) (42 ∷ []) 0 i (rw (length-turns 1 1 n) h) ∙ turns-one 1 n i h)

last-43 : (n : ℕ) → get_or (weights_of by43 (suc n)) n 0 ≡ 42
unfolding by43
last-43 n = rw (last-weight by43 n refl (length-turns 1 1 n)) (get_or_at (turns 1 1 n) 42 [] 0 n (length-turns 1 1 n))

-- ---- every symbology that has these rules

abbrev Ruled : Rule → ℕ → ℕ → Type 0
Ruled rule n s = ((symbology_of s).rule ≡ rule) × ((p : Place) (v : ℕ) → (symbology_of s).allowed p v ≡ ltb v n)

digits-ruled : (s : ℕ) → 4 ≤ s → s < 10 → Ruled right10 10 s
unfolding symbology_of symbologies alphabet_digits table44
digits-ruled =
    from_at (Ruled right10 10) 4 6
    ((refl, λ p v. refl), ((refl, λ p v. refl), ((refl, λ p v. refl), ((refl, λ p v. refl), ((refl, λ p v. refl), ((refl, λ p v. refl), tt))))))

code39-ruled : (s : ℕ) → 1 ≤ s → s < 3 → Ruled by43 43 s
unfolding symbology_of symbologies alphabet39 chars39
code39-ruled = from_at (Ruled by43 43) 1 2 ((refl, λ p v. refl), ((refl, λ p v. refl), tt))

-- a row that reads, of a symbology with this rule
module _ (s m : ℕ) (d r : List ℕ) (z : m ≢ 0) (a : Reads (symbology_of s) m d r) (i : ℕ) (h : suc i < length r) where
  abbrev pub Passes : Type 0
  Passes = passes (symbology_of s).rule (swapped r i) ≡ true

  module _ (rule : Rule) (n : ℕ) (y : Ruled rule n s) where
    low : Below n r
    low = free-below (symbology_of s).allowed n y.1 true r (row_fits (symbology_of s) (proper s) m d r a)

    at_low : (j : ℕ) → j < length r → get_or r j 0 < n
    at_low j l = below_at n r j low l

    passing : Sound rule places → rule.modulus ≡ n → rule.behind < length r
        → Passes ↔ (difference (get_or (weights_of rule (length r)) i 0) (get_or (weights_of rule (length r)) (suc i) 0) * difference (get_or r i 0) (get_or r (suc i) 0) % n ≡ 0)
    passing o e b =
        let c : passes rule r ≡ true = rw y.0 at (check-is (symbology_of s) (proper s) m d r a z) in
        let l : get_or (swapped r i) (place_of rule (length r)) 0 < rule.modulus
        = rw e (below_at n (swapped r i) (place_of rule (length r)) (below-swapped n r i h low) (omega (arith, length-swapped r i))) in
        rw (y.0, ← e) (exchanged rule places o r i b h l c)

  long : suc (length r - 1) ≡ length r
  long = omega arith

  pub digits-passes : 4 ≤ s → s < 10 → Passes ↔ ((get_or r i 0 ≡ get_or r (suc i) 0) ⊎ (difference (get_or r i 0) (get_or r (suc i) 0) ≡ 5))
  unfolding right10
  digits-passes lo hi =
      let y : Ruled right10 10 s = digits-ruled s lo hi in
      let w : difference (get_or (weights_of right10 (length r)) i 0) (get_or (weights_of right10 (length r)) (suc i) 0) ≡ 2 = rw long at (apart-right (length r - 1) i (omega arith)) in
      Iff.trans (rw w at (passing right10 10 y sound-right refl (omega arith)))
      (tens (get_or r i 0) (get_or r (suc i) 0) (at_low right10 10 y i (omega arith)) (at_low right10 10 y (suc i) h))

  pub before-passes : 1 ≤ s → s < 3 → suc (suc i) < length r → Passes
  unfolding by43
  before-passes lo hi k =
      let y : Ruled by43 43 s = code39-ruled s lo hi in
      let v : get_or (weights_of by43 (length r)) i 0 ≡ 1 = rw long at (one-43 (length r - 1) i (omega arith)) in
      let w : get_or (weights_of by43 (length r)) (suc i) 0 ≡ 1 = rw long at (one-43 (length r - 1) (suc i) (omega arith)) in
      (passing by43 43 y sound43 refl (omega arith)).1 (rw (v, w) (ones 43 (get_or r i 0) (get_or r (suc i) 0)))

  pub last-passes : 1 ≤ s → s < 3 → suc (suc i) ≡ length r → Passes ↔ (get_or r i 0 ≡ get_or r (suc i) 0)
  unfolding by43
  last-passes lo hi k =
      let y : Ruled by43 43 s = code39-ruled s lo hi in
      let v : get_or (weights_of by43 (length r)) i 0 ≡ 1 = rw long at (one-43 (length r - 1) i (omega arith)) in
      let e : length r - 1 ≡ suc i = omega arith in
      let w : get_or (weights_of by43 (length r)) (suc i) 0 ≡ 42 = rw (← e) (rw long at (last-43 (length r - 1))) in
      Iff.trans (rw (v, w) at (passing by43 43 y sound43 refl (omega arith)))
      (checks (get_or r i 0) (get_or r (suc i) 0) (at_low by43 43 y i (omega arith)) (at_low by43 43 y (suc i) h))
