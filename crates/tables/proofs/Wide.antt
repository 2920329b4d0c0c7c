-- The wide elements of a code are its ones, and so its modules are counted by them.
--
--   spread-sum     n bits, k of them 1, are n + 2 k modules
--   level-rows     where the code of each character has k ones, each of its rows has n + 2 k modules
--
-- Assumes nothing.
use Rattle.std.proofs.Common.{◌≡◌, List, [], ◌∷◌, map, ℕ, zero, suc, ◌+◌, ◌*◌, ◌<◌, arith, le_of_suc-le-suc, not-suc-le-zero, length, get_or, take, length-take, get_or-take}
use Rattle.laws.specs.Elements.{sum}
use Rattle.laws.specs.Units.{Level}
use Rattle.tables.specs.Bits.{ones, spread}
use Rattle.tables.specs.Alphabet.{Alphabet, size, bits_of, rows_of}

pub spread-sum : (n c : ℕ) → sum (spread n c) ≡ n + 2 * ones n c
spread-sum zero c = omega arith
spread-sum (suc n) c = omega (arith, spread-sum n c)

level-spread : (n k : ℕ) (codes : List ℕ) → ((i : ℕ) → i < length codes → ones n (get_or codes i 0) ≡ k) → Level (n + 2 * k) (map (spread n) codes)
level-spread n k [] o i h = absurd (not-suc-le-zero h)
level-spread n k (c ∷ cs) o zero h = omega (arith, spread-sum n c, o 0 (omega arith))
level-spread n k (c ∷ cs) o (suc i) h = level-spread n k cs (λ j l. o (suc j) (omega arith)) i (le_of_suc-le-suc h)

pub level-rows : (n k : ℕ) (a : Alphabet) → ((v : ℕ) → v < size a → ones n (bits_of a v) ≡ k) → Level (n + 2 * k) (rows_of n a)
unfolding bits_of rows_of
level-rows n k a o =
    level-spread n k (take (size a) a.codes)
    (λ i h.
    let l : i < size a = omega (arith, length-take (size a) a.codes) in
    rw (get_or-take (size a) a.codes i 0 l) (o i l))
