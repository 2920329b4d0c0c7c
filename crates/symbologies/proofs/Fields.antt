-- The bytes of a field behind its data: where the first one stands that is not zero.
--
--   some-nonzero    a place that the search gave is that of the first byte that is not zero, and there is one
--   all-zero        where it gave none there is none
--
-- Assumes nothing.
use Rattle.std.proofs.Common.{◌≡◌, refl, sym, ap, ◌∙◌, Bool, true, false, cond, not, eqb, ltb, ℕ, suc, ◌+◌, ◌-◌, List, length, length-drop, take, drop, Option, Some, None, position, arith}
use Rattle.std.specs.List.{position_or_len}
use Rattle.std.proofs.lemmas.List.Recursion.{is_position_or_len}
use Rattle.std.proofs.lemmas.List.{take_all}
use Rattle.laws.specs.Search.{pick, first}
use Rattle.symbologies.specs.Rows.{nonzero, unclean}

abbrev marked : ℕ → Bool
marked b = not (eqb b 0)

nonzero-is : (rest : List ℕ) → nonzero rest ≡ position_or_len marked rest
nonzero-is = is_position_or_len (first marked) marked refl (λ x xs. go (marked x) (first marked xs))
  where
    go : (b : Bool) (n : ℕ) → pick b 0 (suc n) ≡ cond b 0 (1 + n)
    go true n = refl
    go false n = omega arith

found : (rest : List ℕ) → position marked rest ≡ pick (ltb (nonzero rest) (length rest)) (Some (nonzero rest)) None
found rest = rw (nonzero-is rest) (go (ltb (position_or_len marked rest) (length rest)))
  where
    go : (b : Bool) → cond b (Some (position_or_len marked rest)) None ≡ pick b (Some (position_or_len marked rest)) None
    go true = refl
    go false = refl

-- the bytes behind the data, as the code has them, and what the search for one gave
module _ (count : ℕ) (field : List ℕ) (r : Option ℕ) (e : r ≡ position marked (take (length field - count) (drop count field))) where
  behind : r ≡ pick (unclean count field) (Some (nonzero (drop count field))) None
  behind = e ∙ ap (position marked) (take_all (length field - count) (drop count field) (omega (arith, length-drop count field))) ∙ found (drop count field)

  pub some-nonzero : (i : ℕ) → r ≡ Some i → (unclean count field ≡ true) × (i ≡ nonzero (drop count field))
  some-nonzero i h = go (unclean count field) (sym behind ∙ h)
    where
      go : (b : Bool) → pick b (Some (nonzero (drop count field))) None ≡ Some i → (b ≡ true) × (i ≡ nonzero (drop count field))
      go true e = (refl, cc)
      go false e = let n : ◌≡◌ {A = ℕ} 0 1 = cc in absurd (omega arith)

  pub all-zero : r ≡ None → unclean count field ≡ false
  all-zero h = go (unclean count field) (sym behind ∙ h)
    where
      go : (b : Bool) → pick b (Some (nonzero (drop count field))) None ≡ None → b ≡ false
      go true e = let n : ◌≡◌ {A = ℕ} 0 1 = cc in absurd (omega arith)
      go false e = refl
