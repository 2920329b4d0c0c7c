-- The two check rules are sound (laws, Rules.antt: what a check catches follows).
--
--   sound43, sound-right    the rules by 43 and by 10
--   below_apart             values below the modulus differ by it
--   check-43, check-10      their checks are below the modulus
--   even-stays              for the reader: behind an even number of digits the check is the one that source 001, 4.6, works out with weights 1, 3
--                           and so on from the left; ticket 1 of document 02 changes odd numbers alone
--
-- Assumes nothing.
use Rattle.std.proofs.Common.{◌≡◌, refl, sym, ◌∙◌, List, ◌≢◌, ℕ, ◌%◌, ◌<◌, arith, one-mul, add-zero, mod-eq_of_lt, mod-lt, ltb, lit<, length, ltb-true}
use Rattle.std.proofs.lemmas.List.{length-reverse}
use Rattle.laws.specs.Weigh.{dot, turns}
use Rattle.laws.specs.Rules.{check_of}
use Rattle.laws.proofs.Weigh.{inverses-turns, inverses-reverse, length-turns, turns-turned}
use Rattle.laws.proofs.Rules.{Sound, Apart}
use Rattle.symbologies.specs.Sizes.{places}
use Rattle.symbologies.specs.Checks.{up_to, by43, right10}

pub sound43 : Sound by43 places
unfolding by43
sound43 = record {
  times = 1;
  above = lit< tt;
  brings = refl;
  worded = λ sum. rw one-mul;
  long = length-turns 1 1;
  tells = λ n h. inverses-turns 43 1 1 n (1, refl) (1, refl);
  owned = (42, refl);
}

pub sound-right : Sound right10 places
unfolding right10
sound-right = record {
  times = 9;
  above = lit< tt;
  brings = refl;
  worded = λ sum. omega arith;
  long = λ n. length-reverse (turns 3 1 n) ∙ length-turns 3 1 n;
  tells = λ n h. inverses-reverse 10 (turns 3 1 n) (inverses-turns 10 3 1 n (7, refl) (1, refl));
  owned = (1, refl);
}

pub below_apart : (m : ℕ) → Apart m (λ v. ltb v m)
below_apart m v w a b e = sym (mod-eq_of_lt (ltb-true v m a)) ∙ e ∙ mod-eq_of_lt (ltb-true w m b)

pub check-43 : (sum : ℕ) → by43.check sum < 43
unfolding by43
check-43 sum = mod-lt sum (lit< tt)

pub check-10 : (sum : ℕ) → right10.check sum < 10
unfolding right10
check-10 sum = mod-lt _ (lit< tt)

pub even-stays : (xs : List ℕ) → length xs % 2 ≢ 1 → check_of right10 xs ≡ up_to 10 (dot (turns 1 3 (length xs)) xs)
unfolding check_of right10
even-stays xs e = rw ((turns-turned 3 1 (length xs) 0).1 e, add-zero)
