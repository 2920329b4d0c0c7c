-- The weighted sums that src/ holds, and the rules that they stand for.
--
--   product       a weight times a byte is far from overflow
--   small-taken   a small sum stays small with one value more; small-more, and later
--   one_more, kept-one, kept_more, kept-two, kept-none    what is taken up by the machine's word; a small sum is kept as it is
--   summed-append    values taken up one list behind the other
--   state         "its state after each character is the definition's" (document 01): the weighted sum of the characters up to it, by the
--                 weights of the rule
--   checks        so the check off the sum that is held is the definition's
--   begins        the sum that is begun for a symbology has modulus, weights and check of its rule
--   begun-43, begun-odd, begun-even, begun-none    that sum, as the match's arms ask for it
--
-- Assumes nothing.
use Rattle.std.proofs.Common.{◌≡◌, ℕ, zero, suc, ◌+◌, ◌*◌, ◌%◌, ◌^◌, ◌<◌, ◌≤◌, true, false, ◌≢◌, ◌⊎◌, List, [], ◌∷◌, ◌++◌, reverse, length, take, sym, refl, ap, ◌∙◌, inl, inr, add-zero, add_assoc, mul-le-mul, zero-add, arith, lit≤, length-take-le}
use native.Mathlib.Decide.{dec_lt, ℕ_discrete}
use lib.ListN.{get_or-eq_default}
use lib.Seq.{take-length}
use Rattle.laws.specs.Weigh.{dot, turns, after}
use Rattle.laws.specs.Rules.{Rule, check_of}
use Rattle.laws.proofs.Finite.{from_at}
use Rattle.laws.proofs.Weigh.{turns-turned}
use Rattle.symbologies.specs.Limits.{unknown}
use Rattle.symbologies.specs.Checks.{by43, right10, no_check}
use Rattle.symbologies.specs.Parts.{each}
use Rattle.symbologies.specs.Symbologies.{digits, symbologies, symbology_of}
use Rattle.sums.specs.declared.Sum.{Sum}
use Rattle.sums.specs.Sums.{Small, Kept, wrapped, taken, summed, begun, Begins, Suits, Checks}

-- ---- sums

pub product : {w v : ℕ} → w ≤ 100 → v ≤ 255 → w * v ≤ 25500
product h l = mul-le-mul h l

pub small-taken : (i : ℕ) (s : Sum) (v : ℕ) → v ≤ 255 → Small i s → Small (i + 1) (taken s v)
small-taken i s v l h = record { total = omega (arith, h.total, product h.weight l); weight = h.other; other = h.weight }

pub small-more : (i j : ℕ) (s : Sum) → i ≤ j → Small i s → Small j s
small-more i j s l h = record { total = omega (arith, h.total); weight = h.weight; other = h.other }

pub summed-append : (s : Sum) (xs ys : List ℕ) → summed (summed s xs) ys ≡ summed s (xs ++ ys)
summed-append s [] ys = refl
summed-append s (x ∷ xs) ys = summed-append (taken s x) xs ys

-- what a sum ends at: the weighted sum, with the weights taking turns; modulus and kind of check stay
summed-dot : (s : Sum) (n : ℕ) (xs : List ℕ) → length xs ≤ n → (summed s xs).total ≡ s.total + dot (turns s.weight s.other n) xs
summed-dot s zero [] h = sym (add-zero s.total)
summed-dot s zero (x ∷ xs) h = absurd (omega arith)
summed-dot s (suc n) [] h = sym (add-zero s.total)
summed-dot s (suc n) (x ∷ xs) h =
    summed-dot (taken s x) n xs (omega arith) ∙ add_assoc s.total (s.weight * x) (dot (turns s.other s.weight n) xs)

summed-modulus : (s : Sum) (xs : List ℕ) → (summed s xs).modulus ≡ s.modulus
summed-modulus s [] = refl
summed-modulus s (x ∷ xs) = summed-modulus (taken s x) xs

summed-up : (s : Sum) (xs : List ℕ) → (summed s xs).up ≡ s.up
summed-up s [] = refl
summed-up s (x ∷ xs) = summed-up (taken s x) xs

-- ---- what the sum of a rule stands for

module _ (rule : Rule) (n : ℕ) (s : Sum) (b : Begins rule n s) where
  from_start : (xs : List ℕ) → length xs ≤ n → (summed s xs).total ≡ dot (rule.weights n) xs
  from_start xs l =
      let z : s.total ≡ 0 = omega (arith, b.small.total) in
      summed-dot s n xs l ∙ rw (z, b.weights) (zero-add (dot (rule.weights n) xs))

  pub state : (xs : List ℕ) (i : ℕ) → length xs ≡ n → i ≤ n → (summed s (take i xs)).total ≡ after (rule.weights n) xs i
  state xs i l h = from_start (take i xs) (omega (arith, length-take-le i xs (omega arith)))

pub checks : (rule : Rule) (others : List ℕ) (s t : Sum) → Begins rule (length others) s → t ≡ summed s others → Checks rule others t
unfolding check_of
checks rule others s t b e =
    let m : t.modulus ≡ rule.modulus = ap (λ (x : Sum). x.modulus) e ∙ summed-modulus s others ∙ b.modulus in
    let u : t.up ≡ s.up = ap (λ (x : Sum). x.up) e ∙ summed-up s others in
    let w : t.total ≡ dot (rule.weights (length others)) others
    = ap (λ (x : Sum). x.total) e ∙ rw take-length at (state rule (length others) s b others (length others) refl (omega arith)) in
    rw (m, u, w) (b.check (dot (rule.weights (length others)) others))

-- ---- how the sum of each number begins

sum-43 : (k : ℕ) → Begins by43 k (record { modulus = 43; up = false; weight = 1; other = 1; total = 0 })
unfolding by43
sum-43 k = record { modulus = refl; weights = refl; check = λ sum. refl; small = record { total = lit≤ tt; weight = lit≤ tt; other = lit≤ tt } }

sum-none : (k : ℕ) → Begins no_check k (record { modulus = 1; up = false; weight = 0; other = 0; total = 0 })
unfolding no_check
sum-none k = record { modulus = refl; weights = refl; check = λ sum. refl; small = record { total = lit≤ tt; weight = lit≤ tt; other = lit≤ tt } }

sum-odd : (k : ℕ) → k % 2 ≡ 1 → Begins right10 k (record { modulus = 10; up = true; weight = 3; other = 1; total = 0 })
unfolding right10
sum-odd k o = record {
  modulus = refl;
  weights = sym ((turns-turned 3 1 k 0).0 o ∙ rw add-zero);
  check = λ sum. refl;
  small = record { total = lit≤ tt; weight = lit≤ tt; other = lit≤ tt };
}

sum-even : (k : ℕ) → k % 2 ≢ 1 → Begins right10 k (record { modulus = 10; up = true; weight = 1; other = 3; total = 0 })
unfolding right10
sum-even k o = record {
  modulus = refl;
  weights = sym ((turns-turned 3 1 k 0).1 o ∙ rw add-zero);
  check = λ sum. refl;
  small = record { total = lit≤ tt; weight = lit≤ tt; other = lit≤ tt };
}

rule-43 : (s : ℕ) → 1 ≤ s → s < 3 → (symbology_of s).rule ≡ by43
unfolding symbology_of symbologies
rule-43 s = from_at (λ s. (symbology_of s).rule ≡ by43) 1 2 (refl, (refl, tt)) s

rule-10 : (s : ℕ) → 4 ≤ s → s < 10 → (symbology_of s).rule ≡ right10
unfolding symbology_of symbologies
rule-10 s = from_at (λ s. (symbology_of s).rule ≡ right10) 4 6 (refl, (refl, (refl, (refl, (refl, (refl, tt)))))) s

rule-none : (s : ℕ) → (s ≡ 0) ⊎ ((s ≡ 3) ⊎ (10 ≤ s)) → (symbology_of s).rule ≡ no_check
unfolding symbology_of symbologies
rule-none s (inl e) = rw e
rule-none s (inr (inl e)) = rw e
rule-none s (inr (inr h)) = rw (get_or-eq_default symbologies (digits unknown no_check [] each) {n = s} h)

-- only full ASCII begins a sum for another number than it has
same_count : (s n k : ℕ) → 4 ≤ s → Suits s n k → k ≡ n
same_count s n k h (inl e) = e
same_count s n k h (inr e) = absurd (omega arith)

-- the first two weights, of two characters more
two-more : (n : ℕ) → n + 2 ≡ suc (suc n)
two-more n = omega arith

turned-odd : (n : ℕ) → n % 2 ≡ 1 → reverse (turns 3 1 (n + 2)) ≡ turns 3 1 (n + 2)
turned-odd n o = (turns-turned 3 1 (n + 2) 0).0 (omega arith) ∙ rw add-zero

turned-even : (n : ℕ) → n % 2 ≢ 1 → reverse (turns 3 1 (n + 2)) ≡ turns 1 3 (n + 2)
turned-even n o = (turns-turned 3 1 (n + 2) 0).1 (omega arith) ∙ rw add-zero

begun-by43 : (n : ℕ) → begun by43 n ≡ record { modulus = 43; up = false; weight = 1; other = 1; total = 0 }
unfolding by43
begun-by43 n = rw (two-more n)

begun-no_check : (n : ℕ) → begun no_check n ≡ record { modulus = 1; up = false; weight = 0; other = 0; total = 0 }
unfolding no_check
begun-no_check n = rw (two-more n)

begun-right-odd : (n : ℕ) → n % 2 ≡ 1 → begun right10 n ≡ record { modulus = 10; up = true; weight = 3; other = 1; total = 0 }
unfolding right10
begun-right-odd n o = rw (turned-odd n o, two-more n)

begun-right-even : (n : ℕ) → n % 2 ≢ 1 → begun right10 n ≡ record { modulus = 10; up = true; weight = 1; other = 3; total = 0 }
unfolding right10
begun-right-even n o = rw (turned-even n o, two-more n)

module _ (s n : ℕ) (r : Sum) where
  pub begun-43 : 1 ≤ s → s < 3 → r ≡ record { modulus = 43; up = false; weight = 1; other = 1; total = 0 } → r ≡ begun (symbology_of s).rule n
  begun-43 l h e = e ∙ sym (rw (rule-43 s l h) (begun-by43 n))

  pub begun-odd : 4 ≤ s → s < 10 → n % 2 ≡ 1 → r ≡ record { modulus = 10; up = true; weight = 3; other = 1; total = 0 } → r ≡ begun (symbology_of s).rule n
  begun-odd l h o e = e ∙ sym (rw (rule-10 s l h) (begun-right-odd n o))

  pub begun-even : 4 ≤ s → s < 10 → n % 2 ≢ 1 → r ≡ record { modulus = 10; up = true; weight = 1; other = 3; total = 0 } → r ≡ begun (symbology_of s).rule n
  begun-even l h o e = e ∙ sym (rw (rule-10 s l h) (begun-right-even n o))

  pub begun-none : (s ≡ 0) ⊎ ((s ≡ 3) ⊎ (10 ≤ s)) → r ≡ record { modulus = 1; up = false; weight = 0; other = 0; total = 0 } → r ≡ begun (symbology_of s).rule n
  begun-none w e = e ∙ sym (rw (rule-none s w) (begun-no_check n))

-- ---- and what it stands for

pub kinds : (s : ℕ) → ((1 ≤ s) × (s < 3)) ⊎ (((4 ≤ s) × (s < 10)) ⊎ ((s ≡ 0) ⊎ ((s ≡ 3) ⊎ (10 ≤ s))))
kinds s = go (dec_lt s 1) (dec_lt s 3) (dec_lt s 4) (dec_lt s 10)
  where
    go : Dec (s < 1) → Dec (s < 3) → Dec (s < 4) → Dec (s < 10) → ((1 ≤ s) × (s < 3)) ⊎ (((4 ≤ s) × (s < 10)) ⊎ ((s ≡ 0) ⊎ ((s ≡ 3) ⊎ (10 ≤ s))))
    go (yes a) _ _ _ = inr (inr (inl (omega arith)))
    go (no a) (yes b) _ _ = inl (omega arith, b)
    go (no a) (no b) (yes c) _ = inr (inr (inr (inl (omega arith))))
    go (no a) (no b) (no c) (yes d) = inr (inl (omega arith, d))
    go (no a) (no b) (no c) (no d) = inr (inr (inr (inr (omega arith))))

pub begins : (s n : ℕ) (r : Sum) → r ≡ begun (symbology_of s).rule n → (k : ℕ) → Suits s n k → Begins (symbology_of s).rule k r
begins s n r e k u = go (kinds s)
  where
    by-10 : 4 ≤ s → s < 10 → Dec (n % 2 ≡ 1) → Begins (symbology_of s).rule k r
    by-10 l h (yes o) = rw (e, rule-10 s l h, begun-right-odd n o) (sum-odd k (rw (same_count s n k l u) o))
    by-10 l h (no o) = rw (e, rule-10 s l h, begun-right-even n o) (sum-even k (rw (same_count s n k l u) o))

    go : ((1 ≤ s) × (s < 3)) ⊎ (((4 ≤ s) × (s < 10)) ⊎ ((s ≡ 0) ⊎ ((s ≡ 3) ⊎ (10 ≤ s)))) → Begins (symbology_of s).rule k r
    go (inl h) = rw (e, rule-43 s h.0 h.1, begun-by43 n) (sum-43 k)
    go (inr (inl h)) = by-10 h.0 h.1 (ℕ_discrete (n % 2) 1)
    go (inr (inr h)) = rw (e, rule-none s h, begun-no_check n) (sum-none k)

-- ---- nothing is lost in a word

pub one_more : (s : Sum) (v t : ℕ) → t ≡ (s.total + s.weight * v) % 2 ^ 64
    → record { modulus = s.modulus; up = s.up; weight = s.other; other = s.weight; total = t } ≡ wrapped s (v ∷ [])
one_more s v t e = rw e

pub kept-one : (i : ℕ) (s r : Sum) (v : ℕ) → v ≤ 255 → i ≤ 1001 → Small i s → r ≡ wrapped s (v ∷ []) → Kept 1 i s (v ∷ []) r
kept-one i s r v l h g e =
    let p : s.weight * v ≤ 25500 = product g.weight l in
    let t : (s.total + s.weight * v) % 2 ^ 64 ≡ s.total + s.weight * v = omega (arith, g.total, p) in
    let q : r ≡ taken s v = e ∙ rw t in
    record { is = q; small = rw q (small-taken i s v l g) }

-- after one value or two, or none, there is room for two
pub kept_more : (i : ℕ) (s r : Sum) (v : ℕ) → Kept 1 i s (v ∷ []) r → Kept 2 i s (v ∷ []) r
kept_more i s r v k = record { is = k.is; small = small-more (i + 1) (i + 2) r (omega arith) k.small }

pub kept-two : (i : ℕ) (s t r : Sum) (v w : ℕ) → Kept 1 i s (v ∷ []) t → Kept 1 (i + 1) t (w ∷ []) r → Kept 2 i s (v ∷ w ∷ []) r
kept-two i s t r v w k l = record { is = l.is ∙ ap (λ (x : Sum). summed x (w ∷ [])) k.is; small = small-more (i + 1 + 1) (i + 2) r (omega arith) l.small }

pub kept-none : (i : ℕ) (s : Sum) → Small i s → Kept 2 i s [] s
kept-none i s h = record { is = refl; small = small-more i (i + 2) s (omega arith) h }
