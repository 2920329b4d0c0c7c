-- The first check of a list that applies: laws that name no check.
--
--   first-append   one list behind the other: the second is asked where the first has nothing against it
--   first-through  what is made of the answer may be made before or behind
--   first-each     what is so of every answer and of the given one is so of the first
--   None, none-on  no check of a list applies, and then the given one is the answer
--   passed, given  a list behind its checks is given exactly if none of them applies
--   first-turned   what is turned away by a list is turned away by it and more; first-given, what is given is judged by the rest
--   Refusals, zero-none  every answer of a list has a number other than 0, so where the answer is 0 none of them applies
--   Reached, first-reached    the first check that applies has number n: none before it applies, and it does; hit, where no later one has it
--
-- Assumes nothing.
use Rattle.std.proofs.Common.{◌≡◌, refl, ap, ◌∙◌, ◌≢◌, ◌⊎◌, inl, inr, Bool, true, false, List, [], ◌∷◌, ◌++◌, ℕ, arith, eqb}
use Rattle.std.proofs.lemmas.Bool.{eqb-false}
use Rattle.laws.specs.Search.{pick}
use Rattle.words.specs.declared.Answer.{Answer}
use Rattle.words.specs.Said.{said_of}
use Rattle.words.specs.Order.{Check, first_of, Outcome, gives, turned, outcome}

pub first-append : {A : Type 0} (f : Answer → A) (ps qs : List Check) (z : A) → first_of f (ps ++ qs) z ≡ first_of f ps (first_of f qs z)
first-append f [] qs z = refl
first-append f (c ∷ ps) qs z = ap (pick c.applies (f c.answer)) (first-append f ps qs z)

pub first-through : {A B : Type 0} (f : Answer → A) (g : A → B) (cs : List Check) (z : A) → g (first_of f cs z) ≡ first_of (λ a. g (f a)) cs (g z)
first-through f g [] z = refl
first-through f g (c ∷ cs) z = go c.applies (first-through f g cs z)
  where
    go : (b : Bool) → g (first_of f cs z) ≡ first_of (λ a. g (f a)) cs (g z) → g (pick b (f c.answer) (first_of f cs z)) ≡ pick b (g (f c.answer)) (first_of (λ a. g (f a)) cs (g z))
    go true h = refl
    go false h = h

pub first-each : {A : Type 0} (P : A → Type 0) (f : Answer → A) (cs : List Check) (z : A) → ((a : Answer) → P (f a)) → P z → P (first_of f cs z)
first-each P f [] z h p = p
first-each P f (c ∷ cs) z h p = go c.applies (first-each P f cs z h p)
  where
    go : (b : Bool) → P (first_of f cs z) → P (pick b (f c.answer) (first_of f cs z))
    go true q = h c.answer
    go false q = q

abbrev pub None : List Check → Type 0
None [] = Unit {0}
None (c ∷ cs) = (c.applies ≡ false) × None cs

pub none-on : {A : Type 0} (f : Answer → A) (cs : List Check) (z : A) → None cs → first_of f cs z ≡ z
none-on f [] z n = refl
none-on f (c ∷ cs) z n = rw n.0 (none-on f cs z n.1)

pub none-append : (ps qs : List Check) → None ps → None qs → None (ps ++ qs)
none-append [] qs n m = m
none-append (c ∷ ps) qs n m = (n.0, none-append ps qs n.1 m)

pub none-split : (ps qs : List Check) → None (ps ++ qs) → None ps × None qs
none-split [] qs n = (tt, n)
none-split (c ∷ ps) qs n = let q : None ps × None qs = none-split ps qs n.1 in ((n.0, q.0), q.1)

pub passed : (cs : List Check) (z : Outcome) (q : List ℕ) → first_of turned cs z ≡ gives q → None cs × (z ≡ gives q)
passed [] z q e = (tt, e)
passed (c ∷ cs) z q e = go c.applies refl (passed cs z q) e
  where
    go : (b : Bool) → c.applies ≡ b → (first_of turned cs z ≡ gives q → None cs × (z ≡ gives q))
        → pick b (turned c.answer) (first_of turned cs z) ≡ gives q → None (c ∷ cs) × (z ≡ gives q)
    go true t f e = let n : ◌≡◌ {A = ℕ} 0 1 = cc in absurd (omega arith)
    go false t f e = let p : None cs × (z ≡ gives q) = f e in ((t, p.0), p.1)

same-list : (r q : List ℕ) → gives r ≡ gives q → r ≡ q
same-list r q e = cc

pub given : (cs : List Check) (r q : List ℕ) → outcome cs r ≡ gives q → None cs × (r ≡ q)
given cs r q e = let p : None cs × (gives r ≡ gives q) = passed cs (gives r) q e in (p.0, same-list r q p.1)

-- the checks behind a list that gave something are asked of what was given
pub first-given : {A : Type 0} (f : Answer → A) (cs : List Check) (ds : List ℕ → List Check) (z : List ℕ → A) (r q : List ℕ) → outcome cs r ≡ gives q → first_of f (cs ++ ds r) (z r) ≡ first_of f (ds q) (z q)
first-given f cs ds z r q e =
    let p : None cs × (r ≡ q) = given cs r q e in
    first-append f cs (ds r) (z r) ∙ none-on f cs (first_of f (ds r) (z r)) p.0 ∙ ap (λ (x : List ℕ). first_of f (ds x) (z x)) p.1

turned_on : {A : Type 0} (f : Answer → A) (cs : List Check) (r : List ℕ) (x : Answer) → outcome cs r ≡ turned x → (z : A) → first_of f cs z ≡ f x
turned_on f [] r x e z = let n : ◌≡◌ {A = ℕ} 0 1 = cc in absurd (omega arith)
turned_on f (c ∷ cs) r x e z = go c.applies (λ h. turned_on f cs r x h z) e
  where
    go : (b : Bool) → (outcome cs r ≡ turned x → first_of f cs z ≡ f x) → pick b (turned c.answer) (outcome cs r) ≡ turned x → pick b (f c.answer) (first_of f cs z) ≡ f x
    go true h e = let q : c.answer ≡ x = cc in rw q
    go false h e = h e

pub first-turned : {A : Type 0} (f : Answer → A) (cs ds : List Check) (r : List ℕ) (x : Answer) (z : A) → outcome cs r ≡ turned x → first_of f (cs ++ ds) z ≡ f x
first-turned f cs ds r x z e = first-append f cs ds z ∙ turned_on f cs r x e (first_of f ds z)

-- ---- numbers

abbrev pub Refusals : List Check → Type 0
Refusals [] = Unit {0}
Refusals (c ∷ cs) = ((said_of c.answer).number ≢ 0) × Refusals cs

-- an answer of number 0 is the given one: no check applies
pub zero-none : (cs : List Check) (z : Answer) → Refusals cs → (said_of (first_of (λ a. a) cs z)).number ≡ 0 → None cs
zero-none [] z r e = tt
zero-none (c ∷ cs) z r e = go c.applies refl (zero-none cs z r.1) e
  where
    go : (b : Bool) → c.applies ≡ b → ((said_of (first_of (λ a. a) cs z)).number ≡ 0 → None cs) → (said_of (pick b c.answer (first_of (λ a. a) cs z))).number ≡ 0 → None (c ∷ cs)
    go true t f e = absurd (r.0 e)
    go false t f e = (t, f e)

-- one check, by whether its number is the one: it applies, or it does not and the rest is as said
abbrev pub Here : Bool → Bool → Type 0 → Type 0
Here true applies rest = (applies ≡ true) ⊎ ((applies ≡ false) × rest)
Here false applies rest = (applies ≡ false) × rest

abbrev pub Reached : ℕ → List Check → Type 0
Reached n [] = ⊥
Reached n (c ∷ cs) = Here (eqb (said_of c.answer).number n) c.applies (Reached n cs)

reached-step : (t b : Bool) (a w : Answer) (n : ℕ) (R : Type 0) → eqb (said_of a).number n ≡ t → ((said_of w).number ≡ n → R) → (said_of (pick b a w)).number ≡ n → Here t b R
reached-step true true a w n R q f e = inl refl
reached-step true false a w n R q f e = inr (refl, f e)
reached-step false true a w n R q f e = absurd (eqb-false (said_of a).number n q e)
reached-step false false a w n R q f e = (refl, f e)

pub first-reached : (n : ℕ) (cs : List Check) (z : Answer) → (said_of z).number ≢ n → (said_of (first_of (λ a. a) cs z)).number ≡ n → Reached n cs
first-reached n [] z h e = h e
first-reached n (c ∷ cs) z h e =
    reached-step (eqb (said_of c.answer).number n) c.applies c.answer (first_of (λ a. a) cs z) n (Reached n cs) refl (first-reached n cs z h) e

pub hit : {b : Bool} {R : Type 0} → (R → ⊥) → (b ≡ true) ⊎ ((b ≡ false) × R) → b ≡ true
hit f (inl e) = e
hit f (inr r) = absurd (f r.1)
