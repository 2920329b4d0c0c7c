-- The count that a strip's length comes from: a symbology's lengths are one formula, so at most one count has a length.
--
--   drawn-counted   what a mode can give is a count of the symbology
--   count-back      the count of the elements of n characters is n; back_count, and the other way
--   same_count      the count of a length that a count has
--   same_length     the length of a count that a length has
--
-- Assumes nothing.
use Rattle.std.proofs.Common.{◌≡◌, refl, Bool, true, false, ℕ, ◌+◌, ◌*◌, ◌-◌, ◌/◌, ◌<◌, arith, mul-pos, eqb, leb, eqb-true, eq-eqb, le-leb}
use native.Mathlib.Nat.{mul-div_cancel_left}
use Rattle.laws.specs.Search.{pick}
use Rattle.symbologies.specs.declared.limits.Limits.{Limits}
use Rattle.symbologies.specs.Sizes.{longest}
use Rattle.symbologies.specs.Limits.{offered, drawable, elements_in, count_in}
use Rattle.symbologies.specs.Symbologies.{symbology_of}
use Rattle.symbologies.specs.Strips.{elements_of, counted, count_for}
use Rattle.symbologies.proofs.Numbers.{step_some}
use Rattle.symbologies.proofs.Proper.{proper}
use Rattle.symbologies.proofs.Counted.{counted-by, counted-some}
use Rattle.symbologies.proofs.Ready.{few-elements}

-- ---- what a mode can give

pub drawn-counted : (s m n : ℕ) → offered (symbology_of s).limits m ≡ true → drawable (symbology_of s).limits m n ≡ true → counted s n ≡ true
drawn-counted s m n o d = counted-by s n m ((proper s).counts m o).mode (rw (o, d))

-- ---- from a count to its length and back, by step and base

picked : (b : Bool) (n : ℕ) → 0 < pick b n 0 → (b ≡ true) × (pick b n 0 ≡ n)
picked true n h = (refl, refl)
picked false n h = absurd (omega arith)

pub count-back : (l : Limits) (n : ℕ) → 0 < l.step → 0 < n → count_in l (elements_in l n) ≡ n
unfolding count_in
count-back l n s h =
    let some : 0 < l.step * n = mul-pos s h in
    let e : elements_in l n + 1 ≡ l.step * n + l.more = omega arith in
    let u : l.step * n + l.more - l.more ≡ l.step * n = omega arith in
    rw (e, u, mul-div_cancel_left n s, eq-eqb (l.step * n + l.more) (l.step * n + l.more) refl)

pub back_count : (l : Limits) (long : ℕ) → 0 < count_in l long → elements_in l (count_in l long) ≡ long
unfolding count_in
back_count l long h =
    let n : ℕ = (long + 1 - l.more) / l.step in
    let p : (eqb (l.step * n + l.more) (long + 1) ≡ true) × (count_in l long ≡ n) = picked (eqb (l.step * n + l.more) (long + 1)) n h in
    rw p.1 (omega (arith, eqb-true (l.step * n + l.more) (long + 1) p.0))

pub same_count : (s n : ℕ) → counted s n ≡ true → count_for s (elements_of s n) ≡ n
unfolding count_for elements_of
same_count s n c = rw (le-leb (elements_of s n) longest (few-elements s n c)) (count-back (symbology_of s).limits n (step_some s) (counted-some s n c))

pub same_length : (s long : ℕ) → counted s (count_for s long) ≡ true → elements_of s (count_for s long) ≡ long
unfolding count_for elements_of
same_length s long c =
    let l : Limits = (symbology_of s).limits in
    let p : (leb long longest ≡ true) × (count_for s long ≡ count_in l long) = picked (leb long longest) (count_in l long) (counted-some s (count_for s long) c) in
    rw p.1 (back_count l long (rw p.1 at (counted-some s (count_for s long) c)))
