-- What stands at a place, by where its elements begin.
--
--   by_begun      one of two, by whether elements begin there, as the tests of the definitions choose
--   begun-long    elements that begin there are all there
--   mark-begun    a mark of elements; sought-begun, what is sought
--
-- Assumes nothing.
use Rattle.std.proofs.Common.{Bool, true, false, List, Result, Ok, Err, ℕ, ◌+◌, ◌≤◌, ◌≡◌, refl, sym, ◌∙◌, eqb, leb, leb-true, length, take, drop, length-drop, length-take-le, arith}
use Rattle.laws.specs.Search.{pick}
use Rattle.shapes.specs.declared.parts.Mark.{Mark}
use Rattle.shapes.specs.declared.parts.Unit.{Unit}
use Rattle.shapes.specs.Searched.{seen}
use Rattle.search.specs.Sought.{parted_at, behind, begun, marked, mark_of, nowhere, sought_in, sought_of}

abbrev pub by_begun : {A : Type 0} → (ℕ → A) → (ℕ → A) → Result ℕ ℕ → A
by_begun f g (Ok at) = f at
by_begun f g (Err at) = g at

chosen : {A : Type 0} (f g : ℕ → A) (p l : Bool) (at place : ℕ)
    → by_begun f g (pick p (pick l (Ok at) (Err at)) (Err place)) ≡ pick p (pick l (f at) (g at)) (g place)
chosen f g true true at place = refl
chosen f g true false at place = refl
chosen f g false l at place = refl

inside : (p l : Bool) (b place k n at : ℕ) → leb (b + k) n ≡ l → pick p (pick l (Ok b) (Err b)) (Err place) ≡ Ok at → at + k ≤ n
inside true true b place k n at e h = let q : b ≡ at = cc in omega (arith, leb-true (b + k) n e)
inside true false b place k n at e h = cc
inside false l b place k n at e h = cc

pub begun-long : (g : Bool) (t : List ℕ) (place k at : ℕ) {r : Result ℕ ℕ} → r ≡ begun g t place k → r ≡ Ok at → length (take k (drop at t)) ≡ k
begun-long g t place k at e h =
    let l = inside (parted_at g t place) (leb (behind g place + k) (length t)) (behind g place) place k (length t) at refl (sym e ∙ h) in
    length-take-le k (drop at t) (omega (arith, length-drop at t))

module _ (t : List ℕ) (place : ℕ) {r : Result ℕ ℕ} where
  pub mark-begun : (m : Mark) → eqb m.elements 0 ≡ false → r ≡ begun m.gap t place m.elements
      → by_begun (λ at. marked at (at + m.elements) (eqb (seen m.elements (take m.elements (drop at t))) m.word)) (λ at. marked at at false) r ≡ mark_of m t place
  unfolding mark_of
  mark-begun m n e =
      let at : ℕ = behind m.gap place in
      rw (n, e) (chosen (λ at. marked at (at + m.elements) (eqb (seen m.elements (take m.elements (drop at t))) m.word)) (λ at. marked at at false) (parted_at m.gap t place) (leb (at + m.elements) (length t)) at place)

  pub sought-begun : (sets : List (List ℕ)) (u : Unit) → r ≡ begun u.gap t place u.elements
      → by_begun (λ at. sought_in sets u (take u.elements (drop at t)) at) nowhere r ≡ sought_of sets u t place
  unfolding sought_of
  sought-begun sets u e =
      let at : ℕ = behind u.gap place in
      rw e (chosen (λ at. sought_in sets u (take u.elements (drop at t)) at) nowhere (parted_at u.gap t place) (leb (at + u.elements) (length t)) at place)
