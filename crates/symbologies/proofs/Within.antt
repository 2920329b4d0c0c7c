-- What a row that is drawn holds: it fits its places, and every character may stand where it stands.
--
--   check-is      in modes 1 and 2 the character at the check's place is the check of the others
--   row_fits      every character of a row that reads may stand where it stands
--   row-few       a row that reads has 1 to as many characters as there are places; enough, and its check has its place
--
-- Assumes nothing.
use Rattle.std.proofs.Common.{◌≡◌, ◌≢◌, true, List, ℕ, ◌-◌, ◌<◌, ◌≤◌, arith, length, eq-eqb, ne_eqb}
use native.Mathlib.Decide.{ℕ_discrete}
use Rattle.laws.specs.Weigh.{dot}
use Rattle.laws.specs.Spelling.{fitting}
use Rattle.laws.specs.Rules.{check_of, checked_of, passes}
use Rattle.laws.proofs.Spelling.{spell-long}
use Rattle.laws.proofs.Fitting.{spell-fitting}
use Rattle.symbologies.specs.Sizes.{places}
use Rattle.symbologies.specs.Limits.{added, least_of}
use Rattle.symbologies.specs.Symbologies.{Symbology}
use Rattle.symbologies.proofs.Asked.{Counts, Proper}
use Rattle.symbologies.proofs.Undo.{held, Drew, Reads, redone, passing}

module _ (y : Symbology) (p : Proper y) (m : ℕ) (d r : List ℕ) (a : Reads y m d r) where
  counts : Counts y m
  counts = p.counts m a.offers

  pub row-few : (0 < length r) × (length r ≤ places)
  row-few =
      let g = held y.limits m (length r - added m) a.count in
      (omega (arith, counts.some, g.0), omega (arith, counts.some, counts.cap, g.0, g.1, p.small))

  pub enough : m ≢ 0 → y.rule.behind < length r
  enough n = omega (arith, (p.checked m a.offers n).enough, counts.some, (held y.limits m (length r - added m) a.count).0)

  pub check-is : m ≢ 0 → passes y.rule r ≡ true
  check-is n = passing y m r n a.right

  pub row_fits : fitting y.allowed true r ≡ true
  unfolding check_of
  row_fits = go (ℕ_discrete m 2)
    where
      w : Drew y m d r
      w = redone y p m d r a

      long : least_of y.limits m ≤ length w.head
      long = omega (arith, (held y.limits m (length d) w.count).0, spell-long (y.coder m) d w.head true 0 w.spells)

      spelt : fitting y.allowed true w.head ≡ true
      spelt = spell-fitting y.allowed (y.coder m) (p.keeps m) d w.head true 0 w.spells

      go : Dec (m ≡ 2) → fitting y.allowed true r ≡ true
      go (yes q) =
          let e : checked_of y.rule w.head ≡ r = rw (eq-eqb m 2 q) at w.is in
          rw (← e) (inserted-fits (omega arith))
        where
          inserted-fits : m ≢ 0 → fitting y.allowed true (checked_of y.rule w.head) ≡ true
          inserted-fits n = (p.checked m a.offers n).inserts w.head long spelt (dot (y.rule.weights (length w.head)) w.head)
      go (no q) = let e : w.head ≡ r = rw (ne_eqb m 2 q) at w.is in rw (← e) spelt
