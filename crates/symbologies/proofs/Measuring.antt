-- Document 01's formulas as the code works them out, from a symbology's limits.
--
--   small          the limits are small
--   less-most      no character has less than nothing; none-less, outside Codabar all have the most
--   apart          the modules of characters and what they have less, together, are the most for each
--   nothing-less   where none has less, together they have nothing less
--   less-under, modules-by    characters have no more less than there is; the modules of few
--   two-less       in Codabar two for each character below 12
--
-- Assumes nothing.
use Rattle.std.proofs.Common.{◌≡◌, refl, ◌∙◌, Bool, true, false, List, [], ◌∷◌, map, ℕ, zero, suc, ◌+◌, ◌*◌, ◌-◌, ◌≤◌, arith, suc-mul, zero-add, ltb, lit≤, length, take, drop, length-take-le, le-leb, cond, count_by}
use Rattle.std.proofs.lemmas.List.Recursion.{is_count_by}
use Rattle.laws.specs.Search.{pick}
use Rattle.laws.specs.Elements.{sum}
use Rattle.laws.proofs.Finite.{each_at}
use Rattle.symbologies.specs.declared.limits.Limits.{Limits}
use Rattle.symbologies.specs.Sizes.{places}
use Rattle.symbologies.specs.Limits.{unknown}
use Rattle.symbologies.specs.Checks.{no_check}
use Rattle.symbologies.specs.Parts.{each}
use Rattle.symbologies.specs.Symbologies.{Symbology, digits, symbologies, symbology_of}
use Rattle.symbologies.specs.Strips.{modules_of}
use Rattle.symbologies.specs.Told.{modules_within}
use Rattle.symbologies.proofs.Numbers.{by_number, Small, lengths-small}

pub small : (s : ℕ) (l : Limits) → l ≡ (symbology_of s).limits → Small l
small s l e = rw e (lengths-small s)

-- ---- modules

abbrev pub Less : Symbology → Type 0
Less y = (c : ℕ) → y.less c ≤ y.limits.each

two : (b : Bool) → pick b 2 0 ≤ 14
two true = lit≤ tt
two false = lit≤ tt

pub less-most : (s : ℕ) → Less (symbology_of s)
unfolding symbologies
less-most =
    by_number Less (
      λ c. omega arith,
      (
        λ c. omega arith,
        (
          λ c. omega arith,
          (λ c. two (ltb c 12), (λ c. omega arith, (λ c. omega arith, (λ c. omega arith, (λ c. omega arith, (λ c. omega arith, (λ c. omega arith, tt))))))),
        ),
      ),
    )
    (λ c. omega arith)

pub none-less : (s : ℕ) → (s ≡ 3 → ⊥) → (c : ℕ) → (symbology_of s).less c ≡ 0
unfolding symbology_of symbologies
none-less zero n c = refl
none-less (suc zero) n c = refl
none-less (suc (suc zero)) n c = refl
none-less (suc (suc (suc zero))) n c = absurd (n refl)
none-less (suc (suc (suc (suc s)))) n c =
    each_at (λ (y : Symbology). y.less c ≡ 0) (drop 4 symbologies) (digits unknown no_check [] each) (refl, (refl, (refl, (refl, (refl, (refl, tt)))))) refl s

pub apart : (each : ℕ) (less : ℕ → ℕ) → ((c : ℕ) → less c ≤ each) → (cs : List ℕ) → sum (map (λ c. each - less c) cs) + sum (map less cs) ≡ each * length cs
apart each less h [] = omega arith
apart each less h (c ∷ cs) = omega (arith, h c, apart each less h cs, suc-mul (length cs) each)

pub nothing-less : (less : ℕ → ℕ) → ((c : ℕ) → less c ≡ 0) → (cs : List ℕ) → sum (map less cs) ≡ 0
nothing-less less z [] = refl
nothing-less less z (c ∷ cs) = omega (arith, z c, nothing-less less z cs)

twice : (cs : List ℕ) → 2 * sum (map (λ c. pick (ltb c 12) 1 0) cs) ≡ sum (map (λ c. pick (ltb c 12) 2 0) cs)
twice [] = refl
twice (c ∷ cs) = go (ltb c 12) (twice cs)
  where
    go : (b : Bool) → 2 * sum (map (λ c. pick (ltb c 12) 1 0) cs) ≡ sum (map (λ c. pick (ltb c 12) 2 0) cs) → 2 * (pick b 1 0 + sum (map (λ c. pick (ltb c 12) 1 0) cs)) ≡ pick b 2 0 + sum (map (λ c. pick (ltb c 12) 2 0) cs)
    go true h = omega (arith, h)
    go false h = omega (arith, h)

ones : (cs : List ℕ) → sum (map (λ c. pick (ltb c 12) 1 0) cs) ≡ count_by (λ c. ltb c 12) cs
ones = is_count_by (λ cs. sum (map (λ c. pick (ltb c 12) 1 0) cs)) (λ c. ltb c 12) refl (λ x xs. go (ltb x 12) (sum (map (λ c. pick (ltb c 12) 1 0) xs)))
  where
    go : (b : Bool) (n : ℕ) → pick b 1 0 + n ≡ cond b (1 + n) n
    go true n = refl
    go false n = zero-add n

pub two-less : (s : ℕ) → s ≡ 3 → (cs : List ℕ) → 2 * count_by (λ v. ltb v 12) cs ≡ sum (map (symbology_of s).less cs)
unfolding symbology_of symbologies
two-less s e cs = rw (e, ← ones cs) (twice cs)

abbrev all-less : ℕ → List ℕ → ℕ
all-less s cs = sum (map (symbology_of s).less cs)

module _ (s : ℕ) (l : Limits) (e : l ≡ (symbology_of s).limits) (codes : List ℕ) (n : ℕ) (k : n ≤ length codes) where
  all_apart : sum (map (λ c. l.each - (symbology_of s).less c) (take n codes)) + all-less s (take n codes) ≡ l.each * n
  all_apart = rw e (apart (symbology_of s).limits.each (symbology_of s).less (less-most s) (take n codes) ∙ rw (length-take-le n codes k))

  pub less-under : all-less s (take n codes) ≤ l.each * n
  less-under = omega (arith, all_apart)

  pub modules-by : (less r : ℕ) → n ≤ places → less ≡ all-less s (take n codes) → r ≡ l.each * n + l.rest - less - 1 → r ≡ modules_within s (record { codes = codes; len = n })
  unfolding modules_within modules_of
  modules-by less r h q z = rw (le-leb n places h, ← e) (omega (arith, all_apart))
