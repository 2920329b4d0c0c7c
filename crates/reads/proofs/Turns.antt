-- What one more unit, and one more set, gives.
--
--   comes       what is left comes to, by what is found at the next unit
--   one_more    so much it comes to, by what is sought there
--   found_behind, set_more    what is found in a set of those that are looked through, and all of them, the last first
--
-- Assumes nothing.
use Rattle.std.proofs.Common.{◌≡◌, ap, ◌∙◌, List, ℕ, zero, suc, ◌+◌, ◌*◌, ◌-◌, ◌%◌, ◌<◌, arith, eqb, set}
use Rattle.laws.specs.Search.{pick}
use Rattle.shapes.specs.declared.parts.Unit.{Unit as Like}
use Rattle.shapes.specs.Searched.{found_in, found_by}
use Rattle.search.specs.declared.seek.Sought.{Sought}
use Rattle.search.specs.Sought.{sought_of, found_of}
use Rattle.reads.specs.Walk.{Run, stop, walk_by}

abbrev pub comes : List (List ℕ) → Like → List ℕ → ℕ → ℕ → List ℕ → Sought → ℕ → Run
comes sets x l j place zs y f = pick (eqb f 0) (stop y.at.0 zs) (walk_by sets x l (j - 1) y.next.0 (place + 1) (set zs place ((f - 1) % 256)))

less_one : (m : ℕ) → suc m - 1 ≡ m
less_one m = omega arith

pub one_more : (sets : List (List ℕ)) (x : Like) (l : List ℕ) (j at place : ℕ) (zs : List ℕ) (y : Sought) → 0 < j → y ≡ sought_of sets x l at
    → comes sets x l j place zs y (found_of sets y) ≡ walk_by sets x l j at place zs
one_more sets x l zero at place zs y lt e = absurd (omega (arith, lt))
one_more sets x l (suc m) at place zs y lt e =
    ap (λ (z : Sought). comes sets x l (suc m) place zs z (found_of sets z)) e
    ∙ ap (λ (k : ℕ). pick (eqb (found_of sets (sought_of sets x l at)) 0) (stop (sought_of sets x l at).at.0 zs) (walk_by sets x l k (sought_of sets x l at).next.0 (place + 1) (set zs place ((found_of sets (sought_of sets x l at) - 1) % 256))))
    (less_one m)

abbrev pub found_behind : List (List ℕ) → Sought → ℕ → ℕ → ℕ
found_behind sets y i f = found_in sets (y.set + i) (y.first + 10 * i) y.word f

pub set_more : (sets : List (List ℕ)) (y : Sought) (k f : ℕ) → 0 < k
    → found_by sets y.set y.first y.word (k - 1) (found_behind sets y (k - 1) f) ≡ found_by sets y.set y.first y.word k f
set_more sets y zero f lt = absurd (omega (arith, lt))
set_more sets y (suc m) f lt = ap (λ (z : ℕ). found_by sets y.set y.first y.word z (found_behind sets y z f)) (less_one m)
