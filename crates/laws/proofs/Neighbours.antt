-- Two neighbours exchanged, and whether a check sees it: once, over the modulus and the two weights.
--
--   exchanged        a row that passes still passes with two neighbours exchanged exactly if the modulus divides the product of the
--                    differences: that of the two weights times that of the two values
--   length-swapped, below-swapped, swapped_same    as many values, below the same bound; and nothing changes where the two are equal
--   turns-apart      neighbouring weights that take turns are as far apart as the two that do
--
-- Values may pass the modulus, and the check may be one of the two. It rests on `balance`, as what one replaced value does. Assumes nothing.
use Rattle.std.proofs.Common.{◌≡◌, refl, sym, ◌∙◌, ◌↔◌, ◌⊎◌, inl, inr, List, ℕ, zero, suc, ◌+◌, ◌*◌, ◌%◌, ◌<◌, arith, mul-add, add-mul, length, get_or, set, length-set, get_or-set_other}
use native.Mathlib.Nat.{zero-mod}
use native.Mathlib.Decide.{dec_lt}
use Rattle.std.proofs.lemmas.List.{set-get_or}
use Rattle.laws.specs.Weigh.{dot, turns}
use Rattle.laws.specs.Neighbours.{swapped, difference}
use Rattle.laws.proofs.Remainders.{balance}
use Rattle.laws.proofs.Weigh.{dot-set}
use Rattle.laws.proofs.Spelling.{Below, below_at, below_set}

-- ---- the law

dot-swapped : (ws xs : List ℕ) (i : ℕ) → suc i < length xs
    → dot ws (swapped xs i) + (get_or ws i 0 * get_or xs i 0 + get_or ws (suc i) 0 * get_or xs (suc i) 0)
    ≡ dot ws xs + (get_or ws i 0 * get_or xs (suc i) 0 + get_or ws (suc i) 0 * get_or xs i 0)
dot-swapped ws xs i h =
    let x : ℕ = get_or xs i 0 in
    let y : ℕ = get_or xs (suc i) 0 in
    let first : dot ws (set xs i y) + get_or ws i 0 * x ≡ dot ws xs + get_or ws i 0 * y = dot-set ws xs i y (omega arith) in
    let second : dot ws (set (set xs i y) (suc i) x) + get_or ws (suc i) 0 * y ≡ dot ws (set xs i y) + get_or ws (suc i) 0 * x
    = rw (get_or-set_other xs i (suc i) y 0 (omega arith)) at (dot-set ws (set xs i y) (suc i) x (rw (length-set xs i y) h)) in
    omega (arith, first, second)

cross : (w v x y a b : ℕ) → w ≡ v + a → x ≡ y + b → w * x + v * y ≡ w * y + v * x + a * b
cross w v x y a b e f = rw (e, f) (omega (arith, mul-add (v + a) y b, add-mul v a b, mul-add v y b))

-- one of two numbers is the other and n
abbrev Apart : ℕ → ℕ → ℕ → Type 0
Apart p q n = (p ≡ q + n) ⊎ (q ≡ p + n)

-- straight and crossed, the two sums of products are apart by the product of the differences
crossed : (w v x y : ℕ) → Apart (w * x + v * y) (w * y + v * x) (difference w v * difference x y)
crossed w v x y = go (dec_lt w v) (dec_lt x y)
  where
    go : Dec (w < v) → Dec (x < y) → Apart (w * x + v * y) (w * y + v * x) (difference w v * difference x y)
    go (no h) (no k) = inl (cross w v x y _ _ (omega arith) (omega arith))
    go (no h) (yes k) = inr (cross w v y x _ _ (omega arith) (omega arith))
    go (yes h) (no k) = inr (omega (arith, cross v w x y (difference w v) (difference x y) (omega arith) (omega arith)))
    go (yes h) (yes k) = inl (omega (arith, cross v w y x (difference w v) (difference x y) (omega arith) (omega arith)))

-- of two sums that are apart by n, where the one is a multiple of the modulus, the other is exactly if n is
apart_by : (d e p q n m : ℕ) → 0 < m → e + p ≡ d + q → Apart p q n → d % m ≡ 0 → (e % m ≡ 0) ↔ (n % m ≡ 0)
apart_by d e p q n m h s (inl c) z =
    let b : (d % m ≡ e % m) ↔ (n % m ≡ 0 % m) = balance d e n 0 m h (omega arith) in
    (λ f. b.0 (z ∙ sym f) ∙ zero-mod m, λ f. sym (b.1 (f ∙ sym (zero-mod m))) ∙ z)
apart_by d e p q n m h s (inr c) z =
    let b : (d % m ≡ e % m) ↔ (0 % m ≡ n % m) = balance d e 0 n m h (omega arith) in
    (λ f. sym (b.0 (z ∙ sym f)) ∙ zero-mod m, λ f. sym (b.1 (zero-mod m ∙ sym f)) ∙ z)

pub exchanged : (m : ℕ) (ws xs : List ℕ) (i : ℕ) → 0 < m → suc i < length xs → dot ws xs % m ≡ 0
    → (dot ws (swapped xs i) % m ≡ 0) ↔ (difference (get_or ws i 0) (get_or ws (suc i) 0) * difference (get_or xs i 0) (get_or xs (suc i) 0) % m ≡ 0)
exchanged m ws xs i h l = apart_by _ _ _ _ _ m h (dot-swapped ws xs i l) (crossed (get_or ws i 0) (get_or ws (suc i) 0) (get_or xs i 0) (get_or xs (suc i) 0))

-- ---- the row

pub length-swapped : (xs : List ℕ) (i : ℕ) → length (swapped xs i) ≡ length xs
length-swapped xs i = length-set (set xs i (get_or xs (suc i) 0)) (suc i) (get_or xs i 0) ∙ length-set xs i (get_or xs (suc i) 0)

pub below-swapped : (n : ℕ) (xs : List ℕ) (i : ℕ) → suc i < length xs → Below n xs → Below n (swapped xs i)
below-swapped n xs i h b =
    below_set n (set xs i (get_or xs (suc i) 0)) (suc i) (get_or xs i 0) (below_set n xs i (get_or xs (suc i) 0) b (below_at n xs (suc i) b h)) (below_at n xs i b (omega arith))

pub swapped_same : (xs : List ℕ) (i : ℕ) → get_or xs i 0 ≡ get_or xs (suc i) 0 → swapped xs i ≡ xs
swapped_same xs i e = rw (← e, set-get_or xs i 0, e) (set-get_or xs (suc i) 0)

-- ---- the weights

pub turns-apart : (w v n i : ℕ) → suc i < n → difference (get_or (turns w v n) i 0) (get_or (turns w v n) (suc i) 0) ≡ difference w v
turns-apart w v zero i h = absurd (omega arith)
turns-apart w v (suc zero) i h = absurd (omega arith)
turns-apart w v (suc (suc n)) zero h = refl
turns-apart w v (suc (suc n)) (suc i) h = turns-apart v w (suc n) i (omega arith) ∙ omega arith
