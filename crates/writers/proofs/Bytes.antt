-- Elements written one behind the other, and a word's bytes as the code takes them out of it.
--
--   two-put       two elements, each in its place
--   first_bytes    the first of a word's eight bytes
--   weave-more    a bar and a space more of two lists
--   lapped        the first and the last bytes of a word, put so that they lap over
--
-- Assumes nothing.
use Rattle.std.proofs.Common.{◌≡◌, refl, sym, ap, ◌∙◌, List, [], ◌∷◌, ◌++◌, ℕ, ◌+◌, ◌*◌, ◌-◌, ◌/◌, ◌^◌, ◌≤◌, arith, length, set, shr-shr, take, take_at, w64, ◌<◌, add-one, get_or, zero, suc, le_of_suc-le-suc}
use Rattle.std.specs.Int.{to_le_bytes}
use Rattle.laws.specs.Writing.{Put}
use Rattle.laws.proofs.Writing.{one, more, over, same_text, same_place}
use Rattle.tables.specs.Bits.{weave}
use Rattle.shapes.specs.Sets.{bytes}
use Rattle.shapes.proofs.Words.{bytes-length, bytes-add}

pub two-put : (out : List ℕ) (at a b : ℕ) → at + 2 ≤ length out → Put out at (a ∷ b ∷ []) (set (set out at a) (at + 1) b) (at + 2)
two-put out at a b l = same_place (omega arith) (more (at + 1) b (one out at a (omega arith)) refl (omega arith))

shifted8 : (w : ℕ) → to_le_bytes w64 w ≡ bytes 8 w
shifted8 w = rw (shr-shr w 8 8, shr-shr w 16 8, shr-shr w 24 8, shr-shr w 32 8, shr-shr w 40 8, shr-shr w 48 8) refl

pub first_bytes : (n w : ℕ) → n ≤ 8 → take n (to_le_bytes w64 w) ≡ bytes n w
first_bytes n w h =
    let s : n + (8 - n) ≡ 8 = omega arith in
    ap (take n) (shifted8 w ∙ ap (λ (x : ℕ). bytes x w) (sym s) ∙ bytes-add n (8 - n) w) ∙ take_at (bytes n w) _ n (bytes-length n w)

-- a bar and a space more
pub weave-more : (xs ys : List ℕ) (i : ℕ) → i < length xs → i < length ys → weave (take (i + 1) xs) (take (i + 1) ys) ≡ weave (take i xs) (take i ys) ++ (get_or xs i 0 ∷ get_or ys i 0 ∷ [])
weave-more xs ys i h l = rw (add-one i) (go xs ys i h l)
  where
    go : (xs ys : List ℕ) (i : ℕ) → i < length xs → i < length ys → weave (take (suc i) xs) (take (suc i) ys) ≡ weave (take i xs) (take i ys) ++ (get_or xs i 0 ∷ get_or ys i 0 ∷ [])
    go [] ys i h l = absurd (omega arith)
    go (x ∷ xs) [] i h l = absurd (omega arith)
    go (x ∷ xs) (y ∷ ys) zero h l = refl
    go (x ∷ xs) (y ∷ ys) (suc i) h l = ap (λ (z : List ℕ). x ∷ y ∷ z) (go xs ys i (le_of_suc-le-suc h) (le_of_suc-le-suc l))

-- k bytes, put as the first m and the last m of them
pub lapped : (k m w : ℕ) {out p q : List ℕ} {at n i l : ℕ} → m ≤ k → k ≤ m + m → Put out at (bytes m w) p n → i ≡ at + k - m → Put p i (bytes m (w / 2 ^ (8 * k - 8 * m))) q l
    → Put out at (bytes k w) q (at + k)
lapped k m w {out} {p} {q} {at} {n} {i} {l} h g a e b =
    let j : ℕ = k - m in
    let s : j + (m - j) ≡ m = omega arith in
    let t : j + m ≡ k = omega arith in
    let z : 8 * k - 8 * m ≡ 8 * j = omega arith in
    let f : bytes m w ≡ bytes j w ++ bytes (m - j) (w / 2 ^ (8 * j)) = ap (λ (x : ℕ). bytes x w) (sym s) ∙ bytes-add j (m - j) w in
    let u : bytes j w ++ bytes m (w / 2 ^ (8 * j)) ≡ bytes k w = sym (bytes-add j m w) ∙ ap (λ (x : ℕ). bytes x w) t in
    let y : l ≡ at + k = omega (arith, b.behind, bytes-length m (w / 2 ^ (8 * k - 8 * m))) in
    same_place y
    (same_text u
    (over (bytes j w) (bytes (m - j) (w / 2 ^ (8 * j))) (same_text f a) (rw (bytes-length j w) (omega arith))
    (rw (bytes-length (m - j), bytes-length m) (omega arith)) (rw z at b)))
