-- What a check catches, wherever it stands in its row: once, over the modulus, the weights and the allowed set at each place.
--
--   long-inserted, long-without    one value more, one less
--   without-inserted, inserted-without, at-inserted, set-inserted    a value put in, left out, looked at, replaced
--   checked-others, checked-place, checked-passes    others with their check put in: the others again, the place, and it passes
--   Sound       a rule whose check is the one value that brings the weighted sum of the whole row to a multiple of the modulus
--   Apart       the values allowed at a place differ by the modulus
--   weighs      a row passes exactly if its weighted sum, the check's own weight among the others, is 0 by the modulus
--   one_passes  exactly one allowed character passes as the check of given others: the one that document 01 words
--   caught      a row that passes does not pass with one of its characters replaced by another that is allowed there
--   checked-last, place-last, others-last, passes-last    a check that stands last
--   exchanged   a row that passes, two neighbours exchanged, passes exactly if the modulus divides the product of the differences
--
-- Assumes nothing.
use Rattle.std.proofs.Common.{◌≡◌, refl, sym, ap, ◌∙◌, ◌↔◌, ◌≢◌, Bool, true, List, [], ◌∷◌, ◌++◌, append-nil, ℕ, zero, suc, ◌+◌, ◌-◌, ◌*◌, ◌%◌, ◌<◌, ◌≤◌, arith, mod-lt, eqb, length, get_or, take, drop, set, length-append, length-drop, length-set, take-append-drop, drop_of_length-le, length-take-le, take_at, drop_at, eqb-true, eq-eqb}
use mathlib.Core.Logic.Iff
use Rattle.std.proofs.lemmas.List.{get_or_at, set_at}
use lib.Seq.{take-length, drop-length, split_at}
use Rattle.laws.specs.Weigh.{dot, Inverses}
use Rattle.laws.specs.Rules.{inserted, without, Rule, place_of, others_of, check_of, checked_of, passes, weights_of}
use Rattle.laws.specs.Neighbours.{swapped, difference}
use Rattle.laws.proofs.Weigh.{one-check, replaced, catches, inverses-append}
use Rattle.laws.proofs.Neighbours.{length-swapped, exchanged as swaps}

-- ---- a value put in, and left out

module _ (xs : List ℕ) (i : ℕ) where
  pub long-inserted : (x : ℕ) → i ≤ length xs → length (inserted i x xs) ≡ suc (length xs)
  long-inserted x h = length-append (take i xs) (x ∷ drop i xs) ∙ omega (arith, length-take-le i xs h, length-drop i xs)

  pub long-without : i < length xs → length (without i xs) ≡ length xs - 1
  long-without h = length-append (take i xs) (drop (suc i) xs) ∙ omega (arith, length-take-le i xs (omega arith), length-drop (suc i) xs)

  module _ (x : ℕ) (h : i ≤ length xs) where
    front_long : length (take i xs) ≡ i
    front_long = length-take-le i xs h

    behind : drop (suc i) (inserted i x xs) ≡ drop i xs
    behind =
        let e : take i xs ++ x ∷ drop i xs ≡ (take i xs ++ x ∷ []) ++ drop i xs = go (take i xs) in
        rw e (drop_at (take i xs ++ x ∷ []) (drop i xs) (suc i) (length-append (take i xs) (x ∷ []) ∙ omega (arith, front_long)))
      where
        go : (a : List ℕ) → a ++ x ∷ drop i xs ≡ (a ++ x ∷ []) ++ drop i xs
        go [] = refl
        go (y ∷ ys) = ap (λ (l : List ℕ). y ∷ l) (go ys)

    pub without-inserted : without i (inserted i x xs) ≡ xs
    without-inserted = rw (take_at (take i xs) (x ∷ drop i xs) i front_long, behind) (take-append-drop i xs)

    pub at-inserted : get_or (inserted i x xs) i 0 ≡ x
    at-inserted = get_or_at (take i xs) x (drop i xs) 0 i front_long

    pub set-inserted : (y : ℕ) → set (inserted i x xs) i y ≡ inserted i y xs
    set-inserted y = set_at (take i xs) x (drop i xs) y i front_long

pub inserted-without : (r : List ℕ) (i : ℕ) → i < length r → inserted i (get_or r i 0) (without i r) ≡ r
inserted-without r i h =
    let f : length (take i r) ≡ i = length-take-le i r (omega arith) in
    rw (take_at (take i r) (drop (suc i) r) i f, drop_at (take i r) (drop (suc i) r) i f) (sym (split_at r i 0 h))

-- ---- others with their check put in

module _ (rule : Rule) (h : List ℕ) (b : rule.behind ≤ length h) where
  pub checked-long : length (checked_of rule h) ≡ suc (length h)
  checked-long = long-inserted h (length h - rule.behind) (check_of rule h) (omega arith)

  pub checked-place : place_of rule (length (checked_of rule h)) ≡ length h - rule.behind
  checked-place = rw checked-long (omega arith)

  pub checked-others : others_of rule (checked_of rule h) ≡ h
  checked-others = rw checked-place (without-inserted h (length h - rule.behind) (check_of rule h) (omega arith))

  pub checked-passes : passes rule (checked_of rule h) ≡ true
  checked-passes =
      rw (checked-others, checked-place, at-inserted h (length h - rule.behind) (check_of rule h) (omega arith)) (eq-eqb (check_of rule h) (check_of rule h) refl)

-- a row that passes is its others with their check put in
pub passing-checked : (rule : Rule) (r : List ℕ) → rule.behind < length r → passes rule r ≡ true → checked_of rule (others_of rule r) ≡ r
passing-checked rule r h p =
    let l : length (others_of rule r) ≡ length r - 1 = long-without r (place_of rule (length r)) (omega arith) in
    let q : length (others_of rule r) - rule.behind ≡ place_of rule (length r) = omega arith in
    let e : check_of rule (others_of rule r) ≡ get_or r (place_of rule (length r)) 0 = sym (eqb-true (get_or r (place_of rule (length r)) 0) _ p) in
    rw (q, e) (inserted-without r (place_of rule (length r)) (omega arith))

-- ---- what is asked

-- for rows of at most so many characters: weights that count up pass the modulus some time
pub record Sound (rule : Rule) (most : ℕ) : Type 0 where
  pub times : ℕ
  pub above : 0 < rule.modulus
  pub brings : (rule.own * times + 1) % rule.modulus ≡ 0
  pub worded : (sum : ℕ) → rule.check sum ≡ times * sum % rule.modulus
  pub long : (n : ℕ) → length (rule.weights n) ≡ n
  pub tells : (n : ℕ) → n < most → Inverses rule.modulus (rule.weights n)
  pub owned : (u : ℕ) × (u * rule.own % rule.modulus ≡ 1)

abbrev pub Apart : ℕ → (ℕ → Bool) → Type 0
Apart m allowed = (v w : ℕ) → allowed v ≡ true → allowed w ≡ true → v % m ≡ w % m → v ≡ w

inverses-take : (m i : ℕ) (ws : List ℕ) → Inverses m ws → Inverses m (take i ws)
inverses-take m zero ws v = tt
inverses-take m (suc i) [] v = tt
inverses-take m (suc i) (w ∷ ws) v = (v.0, inverses-take m i ws v.1)

inverses-drop : (m i : ℕ) (ws : List ℕ) → Inverses m ws → Inverses m (drop i ws)
inverses-drop m zero ws v = v
inverses-drop m (suc i) [] v = tt
inverses-drop m (suc i) (w ∷ ws) v = inverses-drop m i ws v.1

dot-split : (i : ℕ) (ws xs : List ℕ) → i ≤ length ws → i ≤ length xs → dot ws xs ≡ dot (take i ws) (take i xs) + dot (drop i ws) (drop i xs)
dot-split zero ws xs h k = omega arith
dot-split (suc i) [] xs h k = absurd (omega arith)
dot-split (suc i) (w ∷ ws) [] h k = absurd (omega arith)
dot-split (suc i) (w ∷ ws) (x ∷ xs) h k = omega (arith, dot-split i ws xs (omega arith) (omega arith))

module _ (rule : Rule) (most : ℕ) (s : Sound rule most) where
  pub weights-long : (n : ℕ) → rule.behind < n → length (weights_of rule n) ≡ n
  weights-long n h = long-inserted (rule.weights (n - 1)) (place_of rule n) rule.own (omega (arith, s.long (n - 1))) ∙ omega (arith, s.long (n - 1))

  all_tell : (n : ℕ) → n - 1 < most → Inverses rule.modulus (weights_of rule n)
  all_tell n h =
      inverses-append rule.modulus (take (place_of rule n) (rule.weights (n - 1))) (rule.own ∷ drop (place_of rule n) (rule.weights (n - 1)))
      (inverses-take rule.modulus (place_of rule n) (rule.weights (n - 1)) (s.tells (n - 1) h))
      (s.owned, inverses-drop rule.modulus (place_of rule n) (rule.weights (n - 1)) (s.tells (n - 1) h))

  check-below : (others : List ℕ) → check_of rule others < rule.modulus
  unfolding check_of
  check-below others = rw s.worded (mod-lt _ s.above)

  -- others with any value below the modulus at the check's place
  row-weighs : (h : List ℕ) → rule.behind ≤ length h → (x : ℕ) → x < rule.modulus
      → (dot (inserted (length h - rule.behind) rule.own (rule.weights (length h))) (inserted (length h - rule.behind) x h) % rule.modulus ≡ 0) ↔ (x ≡ check_of rule h)
  unfolding check_of
  row-weighs h b x l =
      let k : length (rule.weights (length h)) ≡ length h = s.long (length h) in
      let i : ℕ = length h - rule.behind in
      let c : rule.check (dot (rule.weights (length h)) h) ≡ s.times * (dot (take i (rule.weights (length h))) (take i h) + dot (drop i (rule.weights (length h))) (drop i h)) % rule.modulus
      = s.worded _ ∙ ap (λ (z : ℕ). s.times * z % rule.modulus) (dot-split i (rule.weights (length h)) h (omega arith) (omega arith)) in
      rw c
      (one-check rule.modulus rule.own s.times s.brings (take i (rule.weights (length h))) (drop i (rule.weights (length h))) (take i h) (drop i h)
      (length-take-le i (rule.weights (length h)) (omega arith) ∙ sym (length-take-le i h (omega arith))) x l)

  -- a row passes exactly if it weighs 0 by the modulus
  pub weighs : (r : List ℕ) → rule.behind < length r → get_or r (place_of rule (length r)) 0 < rule.modulus
      → (dot (weights_of rule (length r)) r % rule.modulus ≡ 0) ↔ (passes rule r ≡ true)
  weighs r h l =
      let o : List ℕ = others_of rule r in
      let n : length o ≡ length r - 1 = long-without r (place_of rule (length r)) (omega arith) in
      let q : length o - rule.behind ≡ place_of rule (length r) = omega arith in
      let w : inserted (length o - rule.behind) rule.own (rule.weights (length o)) ≡ weights_of rule (length r) = rw (q, n) in
      let e : inserted (length o - rule.behind) (get_or r (place_of rule (length r)) 0) o ≡ r = rw q (inserted-without r (place_of rule (length r)) (omega arith)) in
      let i : (dot (weights_of rule (length r)) r % rule.modulus ≡ 0) ↔ (get_or r (place_of rule (length r)) 0 ≡ check_of rule o)
      = rw (w, e) at (row-weighs o (omega arith) (get_or r (place_of rule (length r)) 0) l) in
      (λ z. eq-eqb _ _ (i.0 z), λ z. i.1 (eqb-true _ _ z))

  -- the character at a row's check place, where it passes
  pub passing-below : (r : List ℕ) → passes rule r ≡ true → get_or r (place_of rule (length r)) 0 < rule.modulus
  passing-below r e = rw (eqb-true (get_or r (place_of rule (length r)) 0) (check_of rule (others_of rule r)) e) (check-below (others_of rule r))

  pub one_passes : (h : List ℕ) (x : ℕ) (allowed : ℕ → Bool) → rule.behind ≤ length h → Apart rule.modulus allowed → allowed x ≡ true → allowed (check_of rule h) ≡ true
      → (dot (weights_of rule (suc (length h))) (inserted (length h - rule.behind) x h) % rule.modulus ≡ 0) ↔ (x ≡ check_of rule h)
  one_passes h x allowed b a v c = (
    λ z. a x (check_of rule h) v c (only z),
    λ z. rw z (rw w at ((row-weighs h b (check_of rule h) (check-below h)).1 refl)),
  )
    where
      n : suc (length h) - 1 ≡ length h
      n = omega arith

      q : place_of rule (suc (length h)) ≡ length h - rule.behind
      q = omega arith

      w : inserted (length h - rule.behind) rule.own (rule.weights (length h)) ≡ weights_of rule (suc (length h))
      w = rw (q, n)

      at_own : get_or (inserted (length h - rule.behind) rule.own (rule.weights (length h))) (length h - rule.behind) 0 ≡ rule.own
      at_own = at-inserted (rule.weights (length h)) (length h - rule.behind) rule.own (omega (arith, s.long (length h)))

      only : dot (weights_of rule (suc (length h))) (inserted (length h - rule.behind) x h) % rule.modulus ≡ 0 → x % rule.modulus ≡ check_of rule h % rule.modulus
      only z =
          let i : ℕ = length h - rule.behind in
          let v : List ℕ = inserted i rule.own (rule.weights (length h)) in
          let t : set (inserted i x h) i (check_of rule h) ≡ inserted i (check_of rule h) h = set-inserted h i x (omega arith) (check_of rule h) in
          let y : dot v (inserted i (check_of rule h) h) % rule.modulus ≡ 0 = (row-weighs h b (check_of rule h) (check-below h)).1 refl in
          let f : dot v (inserted i x h) % rule.modulus ≡ dot v (set (inserted i x h) i (check_of rule h)) % rule.modulus = rw (w, t) (z ∙ sym (rw (← w) y)) in
          let g : get_or (inserted i x h) i 0 ≡ x = at-inserted h i x (omega arith) in
          let u : s.owned.0 * get_or v i 0 % rule.modulus ≡ 1 = rw at_own s.owned.1 in
          rw g at ((replaced rule.modulus s.owned.0 v (inserted i x h) i (check_of rule h) s.above (rw (long-inserted h i x (omega arith)) (omega arith)) u).0 f)

  pub caught : (r : List ℕ) (i v : ℕ) → rule.behind < length r → length r ≤ most → i < length r → get_or r i 0 % rule.modulus ≢ v % rule.modulus
      → passes rule r ≡ true → passes rule (set r i v) ≢ true
  caught r i v b m h d e f =
      let k : length (set r i v) ≡ length r = length-set r i v in
      catches rule.modulus (weights_of rule (length r)) r i v s.above (all_tell (length r) (omega arith)) (weights-long (length r) b) h d
      ((weighs r b (passing-below r e)).1 e)
      (rw k at ((weighs (set r i v) (omega arith) (passing-below (set r i v) f)).1 f))

  pub exchanged : (r : List ℕ) (i : ℕ) → rule.behind < length r → suc i < length r → get_or (swapped r i) (place_of rule (length r)) 0 < rule.modulus → passes rule r ≡ true
      → (passes rule (swapped r i) ≡ true)
      ↔ (difference (get_or (weights_of rule (length r)) i 0) (get_or (weights_of rule (length r)) (suc i) 0) * difference (get_or r i 0) (get_or r (suc i) 0) % rule.modulus ≡ 0)
  exchanged r i b h l e =
      let k : length (swapped r i) ≡ length r = length-swapped r i in
      let g : (dot (weights_of rule (length (swapped r i))) (swapped r i) % rule.modulus ≡ 0) ↔ (passes rule (swapped r i) ≡ true)
      = weighs (swapped r i) (omega arith) (rw k l) in
      let w : (dot (weights_of rule (length r)) (swapped r i) % rule.modulus ≡ 0) ↔ (passes rule (swapped r i) ≡ true)
      = (λ z. g.0 (rw k z), λ z. rw k at (g.1 z)) in
      Iff.trans (Iff.symm w) (swaps rule.modulus (weights_of rule (length r)) r i s.above h ((weighs r b (passing-below r e)).1 e))

-- ---- a check that stands last

module _ (rule : Rule) (b : rule.behind ≡ 0) where
  pub checked-last : (h : List ℕ) → checked_of rule h ≡ h ++ (check_of rule h ∷ [])
  checked-last h = let e : length h - rule.behind ≡ length h = omega arith in rw (e, take-length, drop-length)

  pub place-last : (n : ℕ) → place_of rule n ≡ n - 1
  place-last n = omega arith

  pub others-last : (r : List ℕ) → 0 < length r → others_of rule r ≡ take (length r - 1) r
  others-last r h = rw (place-last (length r), drop_of_length-le r {i = suc (length r - 1)} (omega arith)) (append-nil (take (length r - 1) r))

  pub passes-last : (r : List ℕ) → 0 < length r → passes rule r ≡ eqb (get_or r (length r - 1) 0) (check_of rule (take (length r - 1) r))
  passes-last r h = rw (others-last r h, place-last (length r))
