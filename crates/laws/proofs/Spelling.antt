-- Spelling and its way back undo one another.
--
--   Drawn, Valid    what is asked of a coder: a byte draws nothing, one character that begins no pair where another stands behind it,
--                   or a pair; and the search finds it again
--   counted-length  n numbers from one on are n; numbered, what is made of each of them, at a place
--   for-hit         a byte that is found draws the item
--   for-own         and where no other byte draws it, that byte is found
--   for-none        where no byte draws an item, none is found
--   spell-unspell   what is spelled is read back
--   unspell-spell   what is read back spells the characters
--   found-nil       what is found empty is empty
--   spell-long      there are at least as many characters as bytes; unspell-short, also where they are read back
--   spell-same      and just as many where no byte draws a pair; spell-few, at most twice as many
--   spell-stops     a byte that is not allowed is one of them; unspell-stops, and so is the character where a failing item begins
--   Below, below-test, below, below_at, below_all    every entry is below a bound; by a test; at an index; if it is at each
--   below_set, below_split    one entry replaced by another below the bound; in two parts
--   spell-below     every character is below a bound where every drawn one is
--   join-append, join-found, join-stopped    characters before a reading
--   same_stop, same-found, never    a reading is found or stopped, and one of them
--   ends_at         what stands behind a place tells whether it is the last
--
-- Assumes nothing.
use Rattle.std.proofs.Common.{◌≡◌, refl, sym, ap, ◌∙◌, Bool, true, false, ◌&&◌, List, [], ◌∷◌, ◌++◌, map, ℕ, zero, suc, ◌+◌, ◌*◌, ◌<◌, ◌≤◌, arith, le_of_suc-le-suc, not-suc-le-zero, eqb, ltb, length, get_or, take, drop, set, drop_of_length-le, drop-cons, eq-eqb, ne_eqb, ltb-true, lt-ltb}
use native.Mathlib.Decide.{dec_lt}
use Rattle.laws.specs.Search.{pick}
use Rattle.laws.specs.Elements.{alike}
use Rattle.laws.specs.Units.{Reading, found, stopped, push}
use Rattle.laws.specs.Spelling.{Place, ends, stands, Coder, join, took, spell, counted, byte_for, gave, unspell}
use Rattle.laws.proofs.Finite.{both_left, both_right}
use Rattle.laws.proofs.Search.{first-le, first-hit, first-most}
use Rattle.laws.proofs.Elements.{alike-true, alike_self}
use Rattle.laws.proofs.Strips.{push-some, push-none}

pub data Drawn (k : Coder) (p : Place) (b : ℕ) : Type 0 where
  none : k.drawn p b ≡ [] → Drawn k p b
  alone : (c : ℕ) → k.drawn p b ≡ c ∷ [] → (p.last ≡ false → (end : Bool) → k.shift end c ≡ false) → byte_for k p (c ∷ []) ≡ b → b < 256 → Drawn k p b
  pair : (c d : ℕ) → k.drawn p b ≡ c ∷ d ∷ [] → k.shift p.last c ≡ true → byte_for k p (c ∷ d ∷ []) ≡ b → b < 256 → Drawn k p b

abbrev pub Valid : Coder → Type 0
Valid k = (p : Place) (b : ℕ) → Drawn k p b

-- ---- the search

counted-at : (i n j : ℕ) → j < n → get_or (counted i n) j 0 ≡ i + j
counted-at i zero j h = absurd (not-suc-le-zero h)
counted-at i (suc n) zero h = omega arith
counted-at i (suc n) (suc j) h = omega (arith, counted-at (suc i) n j (le_of_suc-le-suc h))

pub counted-length : (i n : ℕ) → length (counted i n) ≡ n
counted-length i zero = refl
counted-length i (suc n) = ap suc (counted-length (suc i) n)

pub numbered : (f : ℕ → List ℕ) (i n j : ℕ) → j < n → get_or (map f (counted i n)) j [] ≡ f (i + j)
numbered f i zero j h = absurd (not-suc-le-zero h)
numbered f i (suc n) zero h = ap f (omega arith)
numbered f i (suc n) (suc j) h =
    let e : suc i + j ≡ i + suc j = omega arith in
    numbered f (suc i) n j (le_of_suc-le-suc h) ∙ ap f e

pub for-hit : (k : Coder) (p : Place) (item : List ℕ) → byte_for k p item < 256 → k.drawn p (byte_for k p item) ≡ item
unfolding byte_for
for-hit k p item h =
    let e : get_or (counted 0 256) (byte_for k p item) 0 ≡ byte_for k p item = omega (arith, counted-at 0 256 (byte_for k p item) h) in
    rw e at (alike-true (k.drawn p (get_or (counted 0 256) (byte_for k p item) 0)) item (first-hit 0 (λ b. alike (k.drawn p b) item) (counted 0 256) (rw (counted-length 0 256) h)))

pub for-own : (k : Coder) (p : Place) (item : List ℕ) (b : ℕ) → k.drawn p b ≡ item → b < 256 → ((a : ℕ) → k.drawn p a ≡ item → a ≡ b) → byte_for k p item ≡ b
unfolding byte_for
for-own k p item b e h only =
    let at : get_or (counted 0 256) b 0 ≡ b = omega (arith, counted-at 0 256 b h) in
    let here : alike (k.drawn p (get_or (counted 0 256) b 0)) item ≡ true = rw (at, e) (alike_self item) in
    let low : byte_for k p item ≤ b = first-most 0 (λ a. alike (k.drawn p a) item) (counted 0 256) b (rw (counted-length 0 256) h) here in
    only (byte_for k p item) (for-hit k p item (omega arith))

pub for-none : (k : Coder) (p : Place) (item : List ℕ) → ((b : ℕ) → k.drawn p b ≡ item → ⊥) → byte_for k p item ≡ 256
unfolding byte_for
for-none k p item never = go (dec_lt (byte_for k p item) 256)
  where
    go : Dec (byte_for k p item < 256) → byte_for k p item ≡ 256
    go (yes h) = absurd (never (byte_for k p item) (for-hit k p item h))
    go (no h) = omega (arith, first-le 0 (λ b. alike (k.drawn p b) item) (counted 0 256), counted-length 0 256)

-- ---- one step each way

unspell-one : (k : Coder) (start : Bool) (at c : ℕ) (cs : List ℕ) → (ends cs ≡ false → (end : Bool) → k.shift end c ≡ false)
    → unspell k start at (c ∷ cs) ≡ gave at (byte_for k (stands start cs) (c ∷ [])) (unspell k false (suc at) cs)
unspell-one k start at c [] s = refl
unspell-one k start at c (d ∷ cs) s = rw (s refl (ends cs))

unspell-two : (k : Coder) (start : Bool) (at c d : ℕ) (cs : List ℕ) → k.shift (ends cs) c ≡ true
    → unspell k start at (c ∷ d ∷ cs) ≡ gave at (byte_for k (stands start cs) (c ∷ d ∷ [])) (unspell k false (suc (suc at)) cs)
unspell-two k start at c d cs s = rw s

gave_found : (at b : ℕ) (z : Reading) (t : Bool) (ds : List ℕ) → ltb b 256 ≡ t → pick t (push b z) (stopped at) ≡ found ds → (b < 256) × (push b z ≡ found ds)
gave_found at b z true ds e p = (ltb-true b 256 e, p)
gave_found at b z false ds e p = let q : ◌≡◌ {A = ℕ} 0 1 = cc in absurd (omega arith)

gave_some : (at b : ℕ) (z : Reading) (ds : List ℕ) → b < 256 → z ≡ found ds → gave at b z ≡ found (b ∷ ds)
gave_some at b z ds h e = rw (lt-ltb b 256 h, e)

-- a spelling ends where its data end
ends-step : (at : ℕ) (p : List ℕ) (z : Reading) (h : List ℕ) → took at p z ≡ found h → ends h ≡ false
ends-step at [] z h e = let q : ◌≡◌ {A = ℕ} 0 1 = cc in absurd (omega arith)
ends-step at (c ∷ cs) z [] e = absurd (push-none c (join cs z) e)
ends-step at (c ∷ cs) z (x ∷ h) e = refl

pub found-nil : (h : List ℕ) → found [] ≡ found h → [] ≡ h
found-nil h e = cc

pub same_end : (k : Coder) (f : Bool) (at : ℕ) (d h : List ℕ) → spell k f at d ≡ found h → ends d ≡ ends h
same_end k f at [] h e = rw (← found-nil h e)
same_end k f at (b ∷ bs) h e = sym (ends-step at (k.drawn (stands f bs) b) (spell k false (suc at) bs) h e)

-- ---- what is spelled is read back

Back : Coder → Bool → List ℕ → List ℕ → Type 0
Back k start h d = (at : ℕ) → unspell k start at h ≡ found d

back_one : (k : Coder) (start : Bool) (at b c : ℕ) (bs h : List ℕ) (z : Reading) → (ends bs ≡ false → (end : Bool) → k.shift end c ≡ false)
    → byte_for k (stands start bs) (c ∷ []) ≡ b → b < 256
    → spell k false at bs ≡ z → ((g : List ℕ) → z ≡ found g → Back k false g bs) → push c z ≡ found h → Back k start h (b ∷ bs)
unfolding Back
back_one k start at b c bs [] z s o l e ih p to = absurd (push-none c z p)
back_one k start at b c bs (x ∷ g) z s o l e ih p to =
    let q : (c ≡ x) × (z ≡ found g) = push-some c z x g p in
    let n : ends bs ≡ ends g = same_end k false at bs g (e ∙ q.1) in
    let f : byte_for k (stands start g) (c ∷ []) ≡ b = rw (← n) o in
    ap (λ (y : ℕ). unspell k start to (y ∷ g)) (sym q.0) ∙ unspell-one k start to c g (λ u. s (n ∙ u)) ∙ rw f (gave_some to b _ bs l (ih g q.1 (suc to)))

back-two : (k : Coder) (start : Bool) (at b c d : ℕ) (bs h : List ℕ) (z : Reading) → k.shift (ends bs) c ≡ true → byte_for k (stands start bs) (c ∷ d ∷ []) ≡ b → b < 256
    → spell k false at bs ≡ z → ((g : List ℕ) → z ≡ found g → Back k false g bs) → push c (push d z) ≡ found h → Back k start h (b ∷ bs)
unfolding Back
back-two k start at b c d bs [] z s o l e ih p to = absurd (push-none c (push d z) p)
back-two k start at b c d bs (x ∷ []) z s o l e ih p to = absurd (push-none d z (push-some c (push d z) x [] p).1)
back-two k start at b c d bs (x ∷ y ∷ g) z s o l e ih p to =
    let q : (c ≡ x) × (push d z ≡ found (y ∷ g)) = push-some c (push d z) x (y ∷ g) p in
    let r : (d ≡ y) × (z ≡ found g) = push-some d z y g q.1 in
    let n : ends bs ≡ ends g = same_end k false at bs g (e ∙ r.1) in
    let f : byte_for k (stands start g) (c ∷ d ∷ []) ≡ b = rw (← n) o in
    let t : k.shift (ends g) c ≡ true = rw (← n) s in
    ap (λ (w : ℕ). unspell k start to (w ∷ y ∷ g)) (sym q.0) ∙ ap (λ (w : ℕ). unspell k start to (c ∷ w ∷ g)) (sym r.0) ∙ unspell-two k start to c d g t ∙
    rw f (gave_some to b _ bs l (ih g r.1 (suc (suc to))))

back_step : (k : Coder) (start : Bool) (at b : ℕ) (bs h : List ℕ) → Drawn k (stands start bs) b
    → ((g : List ℕ) → spell k false (suc at) bs ≡ found g → Back k false g bs)
    → took at (k.drawn (stands start bs) b) (spell k false (suc at) bs) ≡ found h → Back k start h (b ∷ bs)
back_step k start at b bs h (none n) ih e = let q : ◌≡◌ {A = ℕ} 0 1 = cc (rw n at e) in absurd (omega arith)
back_step k start at b bs h (alone c n s o l) ih e = back_one k start (suc at) b c bs h _ s o l refl ih (rw n at e)
back_step k start at b bs h (pair c d n s o l) ih e = back-two k start (suc at) b c d bs h _ s o l refl ih (rw n at e)

spell-back : (k : Coder) → Valid k → (d h : List ℕ) (start : Bool) (at : ℕ) → spell k start at d ≡ found h → Back k start h d
unfolding Back
spell-back k v [] h start at e to = rw (← found-nil h e)
spell-back k v (b ∷ bs) h start at e to =
    back_step k start at b bs h (v (stands start bs) b) (λ g p. spell-back k v bs g false (suc at) p) e to

pub spell-unspell : (k : Coder) → Valid k → (d h : List ℕ) (start : Bool) (at to : ℕ) → spell k start at d ≡ found h → unspell k start to h ≡ found d
unfolding Back
spell-unspell k v d h start at to e = spell-back k v d h start at e to

-- ---- what is read back spells the characters

Forth : Coder → Bool → List ℕ → List ℕ → Type 0
Forth k start d h = (at : ℕ) → spell k start at d ≡ found h

-- an item and what stands behind it
forth-step : (k : Coder) (start : Bool) (to b c : ℕ) (cs g d : List ℕ) (z : Reading) → byte_for k (stands start g) (c ∷ cs) ≡ b
    → ((bs : List ℕ) → z ≡ found bs → Forth k false bs g) → gave to b z ≡ found d → Forth k start d (c ∷ cs ++ g)
unfolding Forth
forth-step k start to b c cs g d z o ih e at = go d (gave_found to b z (ltb b 256) d refl e)
  where
    joined : (xs ys : List ℕ) → join xs (found ys) ≡ found (xs ++ ys)
    joined [] ys = refl
    joined (x ∷ xs) ys = rw (joined xs ys)

    go : (d : List ℕ) → (b < 256) × (push b z ≡ found d) → spell k start at d ≡ found (c ∷ cs ++ g)
    go [] p = absurd (push-none b z p.1)
    go (x ∷ bs) p =
        let q : (b ≡ x) × (z ≡ found bs) = push-some b z x bs p.1 in
        let r : spell k false (suc at) bs ≡ found g = ih bs q.1 (suc at) in
        let n : k.drawn (stands start bs) x ≡ c ∷ cs
        = rw (← q.0, same_end k false (suc at) bs g r, ← o) (for-hit k (stands start g) (c ∷ cs) (rw o p.0)) in
        rw (r, n) (joined (c ∷ cs) g)

forth-two : (k : Coder) (start : Bool) (to c x : ℕ) (cs d : List ℕ) (t : Bool)
    → ((bs : List ℕ) → unspell k false (suc (suc to)) cs ≡ found bs → Forth k false bs cs)
    → ((bs : List ℕ) → unspell k false (suc to) (x ∷ cs) ≡ found bs → Forth k false bs (x ∷ cs))
    → pick t (gave to (byte_for k (stands start cs) (c ∷ x ∷ [])) (unspell k false (suc (suc to)) cs))
    (gave to (byte_for k (stands start (x ∷ cs)) (c ∷ [])) (unspell k false (suc to) (x ∷ cs))) ≡ found d
    → Forth k start d (c ∷ x ∷ cs)
forth-two k start to c x cs d true two one e = forth-step k start to _ c (x ∷ []) cs d _ refl two e
forth-two k start to c x cs d false two one e = forth-step k start to _ c [] (x ∷ cs) d _ refl one e

unspell-forth : (k : Coder) (h d : List ℕ) (start : Bool) (to : ℕ) → unspell k start to h ≡ found d → Forth k start d h
unfolding Forth
unspell-forth k [] d start to e at = rw (← found-nil d e)
unspell-forth k (c ∷ []) d start to e at = forth-step k start to _ c [] [] d (found []) refl (λ bs p at. rw (← found-nil bs p)) e at
unspell-forth k (c ∷ x ∷ cs) d start to e at =
    forth-two k start to c x cs d (k.shift (ends cs) c)
    (λ bs p. unspell-forth k cs bs false (suc (suc to)) p) (λ bs p. unspell-forth k (x ∷ cs) bs false (suc to) p) e at

pub unspell-spell : (k : Coder) (h d : List ℕ) (start : Bool) (to at : ℕ) → unspell k start to h ≡ found d → spell k start at d ≡ found h
unfolding Forth
unspell-spell k h d start to at e = unspell-forth k h d start to e at

-- ---- how many

push-length : (c : ℕ) (z : Reading) (h : List ℕ) (n : ℕ) → ((g : List ℕ) → z ≡ found g → n ≤ length g) → push c z ≡ found h → suc n ≤ length h
push-length c z [] n ih e = absurd (push-none c z e)
push-length c z (x ∷ g) n ih e = omega (arith, ih g (push-some c z x g e).1)

join-length : (cs : List ℕ) (z : Reading) (h : List ℕ) (n : ℕ) → ((g : List ℕ) → z ≡ found g → n ≤ length g) → join cs z ≡ found h → n ≤ length h
join-length [] z h n ih e = ih h e
join-length (c ∷ cs) z h n ih e = omega (arith, push-length c (join cs z) h n (λ g p. join-length cs z g n ih p) e)

long-step : (at : ℕ) (p : List ℕ) (z : Reading) (h : List ℕ) (n : ℕ) → ((g : List ℕ) → z ≡ found g → n ≤ length g) → took at p z ≡ found h → suc n ≤ length h
long-step at [] z h n ih e = let q : ◌≡◌ {A = ℕ} 0 1 = cc in absurd (omega arith)
long-step at (c ∷ cs) z h n ih e = push-length c (join cs z) h n (λ g p. join-length cs z g n ih p) e

pub spell-long : (k : Coder) (d h : List ℕ) (start : Bool) (at : ℕ) → spell k start at d ≡ found h → length d ≤ length h
spell-long k [] h start at e = omega arith
spell-long k (b ∷ bs) h start at e =
    long-step at (k.drawn (stands start bs) b) (spell k false (suc at) bs) h (length bs) (λ g p. spell-long k bs g false (suc at) p) e

pub unspell-short : (k : Coder) (h d : List ℕ) → unspell k true 0 h ≡ found d → length d ≤ length h
unspell-short k h d e = spell-long k d h true 0 (unspell-spell k h d true 0 0 e)

same_step : (at : ℕ) (p : List ℕ) (z : Reading) (h : List ℕ) (n : ℕ) → length p ≤ 1 → ((g : List ℕ) → z ≡ found g → length g ≡ n) → took at p z ≡ found h → length h ≡ suc n
same_step at [] z h n l ih e = let q : ◌≡◌ {A = ℕ} 0 1 = cc in absurd (omega arith)
same_step at (c ∷ []) z [] n l ih e = absurd (push-none c z e)
same_step at (c ∷ []) z (x ∷ g) n l ih e = ap suc (ih g (push-some c z x g e).1)
same_step at (c ∷ d ∷ cs) z h n l ih e = absurd (omega arith)

pub spell-same : (k : Coder) → ((p : Place) (b : ℕ) → length (k.drawn p b) ≤ 1) → (d h : List ℕ) (start : Bool) (at : ℕ) → spell k start at d ≡ found h → length h ≡ length d
spell-same k l [] h start at e = rw (← found-nil h e)
spell-same k l (b ∷ bs) h start at e =
    same_step at (k.drawn (stands start bs) b) (spell k false (suc at) bs) h (length bs) (l (stands start bs) b)
    (λ g p. spell-same k l bs g false (suc at) p) e

few-step : (k : Coder) (w : Place) (at b : ℕ) (z : Reading) (h : List ℕ) (n : ℕ) → Drawn k w b → ((g : List ℕ) → z ≡ found g → length g ≤ 2 * n)
    → took at (k.drawn w b) z ≡ found h → length h ≤ 2 * suc n
few-step k w at b z h n (none e) ih p = let q : ◌≡◌ {A = ℕ} 0 1 = cc (rw e at p) in absurd (omega arith)
few-step k w at b z [] n (alone c e s o l) ih p = omega arith
few-step k w at b z (x ∷ g) n (alone c e s o l) ih p = omega (arith, ih g (push-some c z x g (rw e at p)).1)
few-step k w at b z [] n (pair c d e s o l) ih p = omega arith
few-step k w at b z (x ∷ []) n (pair c d e s o l) ih p = omega arith
few-step k w at b z (x ∷ y ∷ g) n (pair c d e s o l) ih p =
    omega (arith, ih g (push-some d z y g (push-some c (push d z) x (y ∷ g) (rw e at p)).1).1)

pub spell-few : (k : Coder) → Valid k → (d h : List ℕ) (start : Bool) (at : ℕ) → spell k start at d ≡ found h → length h ≤ 2 * length d
spell-few k v [] h start at e = rw (← found-nil h e) (omega arith)
spell-few k v (b ∷ bs) h start at e =
    few-step k (stands start bs) at b (spell k false (suc at) bs) h (length bs) (v (stands start bs) b) (λ g p. spell-few k v bs g false (suc at) p) e

-- ---- where it stops

push-stopped : (c : ℕ) (z : Reading) (i : ℕ) → push c z ≡ stopped i → z ≡ stopped i
push-stopped c (found cs) i e = cc
push-stopped c (stopped j) i e = e

pub same_stop : (i j : ℕ) → stopped i ≡ stopped j → i ≡ j
same_stop i j e = cc

joined-stopped : (cs : List ℕ) (z : Reading) (i : ℕ) → join cs z ≡ stopped i → z ≡ stopped i
joined-stopped [] z i e = e
joined-stopped (c ∷ cs) z i e = joined-stopped cs z i (push-stopped c (join cs z) i e)

stops-step : (at : ℕ) (p : List ℕ) (z : Reading) (i n : ℕ) → (z ≡ stopped i → (suc at ≤ i) × (i < suc at + n)) → took at p z ≡ stopped i → (at ≤ i) × (i < at + suc n)
stops-step at [] z i n ih e = let q : at ≡ i = same_stop at i e in (omega arith, omega arith)
stops-step at (c ∷ cs) z i n ih e = let q : (suc at ≤ i) × (i < suc at + n) = ih (joined-stopped (c ∷ cs) z i e) in (omega (arith, q.0), omega (arith, q.1))

spell-between : (k : Coder) (d : List ℕ) (start : Bool) (at i : ℕ) → spell k start at d ≡ stopped i → (at ≤ i) × (i < at + length d)
spell-between k [] start at i e = let q : ◌≡◌ {A = ℕ} 0 1 = cc in absurd (omega arith)
spell-between k (b ∷ bs) start at i e = stops-step at (k.drawn (stands start bs) b) (spell k false (suc at) bs) i (length bs) (λ q. spell-between k bs false (suc at) i q) e

pub spell-stops : (k : Coder) (d : List ℕ) (start : Bool) (i : ℕ) → spell k start 0 d ≡ stopped i → i < length d
spell-stops k d start i e = omega (arith, (spell-between k d start 0 i e).1)

-- the way back

gave-stopped : (at b : ℕ) (z : Reading) (t : Bool) (i n : ℕ) → at < n → (z ≡ stopped i → i < n) → pick t (push b z) (stopped at) ≡ stopped i → i < n
gave-stopped at b (found d) true i n l ih e = let q : ◌≡◌ {A = ℕ} 0 1 = cc in absurd (omega arith)
gave-stopped at b (stopped j) true i n l ih e = ih e
gave-stopped at b z false i n l ih e = let q : at ≡ i = cc in omega arith

stops-two : (k : Coder) (start : Bool) (at i c d : ℕ) (cs : List ℕ) (n : ℕ) (t : Bool) → at < n
    → (unspell k false (suc (suc at)) cs ≡ stopped i → i < n) → (unspell k false (suc at) (d ∷ cs) ≡ stopped i → i < n)
    → pick t (gave at (byte_for k (stands start cs) (c ∷ d ∷ [])) (unspell k false (suc (suc at)) cs)) (gave at (byte_for k (stands start (d ∷ cs)) (c ∷ [])) (unspell k false (suc at) (d ∷ cs))) ≡ stopped i
    → i < n
stops-two k start at i c d cs n true l two one e = gave-stopped at _ _ (ltb (byte_for k (stands start cs) (c ∷ d ∷ [])) 256) i n l two e
stops-two k start at i c d cs n false l two one e = gave-stopped at _ _ (ltb (byte_for k (stands start (d ∷ cs)) (c ∷ [])) 256) i n l one e

none-stops : (i n : ℕ) → found [] ≡ stopped i → i < n
none-stops i n e = let q : ◌≡◌ {A = ℕ} 0 1 = cc in absurd (omega arith)

pub unspell-stops : (k : Coder) (h : List ℕ) (start : Bool) (at i : ℕ) → unspell k start at h ≡ stopped i → i < at + length h
unspell-stops k [] start at i e = none-stops i _ e
unspell-stops k (c ∷ []) start at i e = gave-stopped at _ (found []) (ltb (byte_for k (stands start []) (c ∷ [])) 256) i _ (omega arith) (none-stops i _) e
unspell-stops k (c ∷ d ∷ cs) start at i e =
    stops-two k start at i c d cs _ (k.shift (ends cs) c) (omega arith)
    (λ p. omega (arith, unspell-stops k cs false (suc (suc at)) i p)) (λ p. omega (arith, unspell-stops k (d ∷ cs) false (suc at) i p)) e

-- ---- how large

abbrev pub Below : ℕ → List ℕ → Type 0
Below n [] = Unit {0}
Below n (x ∷ xs) = (x < n) × Below n xs

abbrev pub below-test : ℕ → List ℕ → Bool
below-test n [] = true
below-test n (x ∷ xs) = let t = below-test n xs in ltb x n && t

pub below : (n : ℕ) (xs : List ℕ) → below-test n xs ≡ true → Below n xs
below n [] e = tt
below n (x ∷ xs) e = (ltb-true x n (both_left (ltb x n) (below-test n xs) e), below n xs (both_right (ltb x n) (below-test n xs) e))

pub below_at : (n : ℕ) (xs : List ℕ) (i : ℕ) → Below n xs → i < length xs → get_or xs i 0 < n
below_at n [] i b h = absurd (not-suc-le-zero h)
below_at n (x ∷ xs) zero b h = b.0
below_at n (x ∷ xs) (suc i) b h = below_at n xs i b.1 (le_of_suc-le-suc h)

pub below_all : (n : ℕ) (xs : List ℕ) → ((i : ℕ) → i < length xs → get_or xs i 0 < n) → Below n xs
below_all n [] f = tt
below_all n (x ∷ xs) f = (f 0 (omega arith), below_all n xs (λ i h. f (suc i) (omega arith)))

pub below_set : (n : ℕ) (xs : List ℕ) (i v : ℕ) → Below n xs → v < n → Below n (set xs i v)
below_set n [] i v b h = tt
below_set n (x ∷ xs) zero v b h = (h, b.1)
below_set n (x ∷ xs) (suc i) v b h = (b.0, below_set n xs i v b.1 h)

pub below_split : (n k : ℕ) (xs : List ℕ) → Below n xs → Below n (take k xs) × Below n (drop k xs)
below_split n zero xs b = (tt, b)
below_split n (suc k) [] b = (tt, tt)
below_split n (suc k) (x ∷ xs) b = let q : Below n (take k xs) × Below n (drop k xs) = below_split n k xs b.1 in ((b.0, q.0), q.1)

below-join : (n : ℕ) (cs : List ℕ) (z : Reading) (h : List ℕ) → Below n cs → ((g : List ℕ) → z ≡ found g → Below n g) → join cs z ≡ found h → Below n h
below-join n [] z h b ih e = ih h e
below-join n (c ∷ cs) z [] b ih e = tt
below-join n (c ∷ cs) z (x ∷ g) b ih e =
    let q : (c ≡ x) × (join cs z ≡ found g) = push-some c (join cs z) x g e in
    (rw (← q.0) b.0, below-join n cs z g b.1 ih q.1)

below_step : (n at : ℕ) (p : List ℕ) (z : Reading) (h : List ℕ) → Below n p → ((g : List ℕ) → z ≡ found g → Below n g) → took at p z ≡ found h → Below n h
below_step n at [] z h b ih e = let q : ◌≡◌ {A = ℕ} 0 1 = cc in absurd (omega arith)
below_step n at (c ∷ cs) z h b ih e = below-join n (c ∷ cs) z h b ih e

pub spell-below : (k : Coder) (n : ℕ) → ((p : Place) (b : ℕ) → Below n (k.drawn p b)) → (d h : List ℕ) (start : Bool) (at : ℕ) → spell k start at d ≡ found h → Below n h
spell-below k n l [] h start at e = rw (← found-nil h e) tt
spell-below k n l (b ∷ bs) h start at e =
    below_step n at (k.drawn (stands start bs) b) (spell k false (suc at) bs) h (l (stands start bs) b)
    (λ g p. spell-below k n l bs g false (suc at) p) e

-- ---- characters before a reading

pub join-append : (xs ys : List ℕ) (z : Reading) → join (xs ++ ys) z ≡ join xs (join ys z)
join-append [] ys z = refl
join-append (x ∷ xs) ys z = ap (push x) (join-append xs ys z)

pub join-found : (xs : List ℕ) → join xs (found []) ≡ found xs
join-found [] = refl
join-found (x ∷ xs) = rw (join-found xs)

pub join-stopped : (xs : List ℕ) (i : ℕ) → join xs (stopped i) ≡ stopped i
join-stopped [] i = refl
join-stopped (x ∷ xs) i = rw (join-stopped xs i)

pub same-found : (d e : List ℕ) → found d ≡ found e → d ≡ e
same-found d e p = cc

pub never : (i : ℕ) (d : List ℕ) → stopped i ≡ found d → ⊥
never i d e = let z : ◌≡◌ {A = ℕ} 0 1 = cc in omega arith

-- ---- the last place

pub ends_at : (xs : List ℕ) (i n : ℕ) → length xs ≡ n → i ≤ n → ends (drop i xs) ≡ eqb i n
ends_at xs i n m h = go (dec_lt i n)
  where
    go : Dec (i < n) → ends (drop i xs) ≡ eqb i n
    go (yes l) = rw (drop-cons xs i 0 (rw m l), ne_eqb i n (omega arith))
    go (no l) = rw (drop_of_length-le xs {i = i} (omega arith), eq-eqb i n (omega arith))
