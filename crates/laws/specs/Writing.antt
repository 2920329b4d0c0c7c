-- Writing to a lent buffer: what stood before a place, what is written, what stands behind.
--
--   put_in    a text in a buffer from an index on: what stands before and behind stays
--   Put      so it was written, and `next` is the place behind it
--   front    a text at the buffer's front
use Rattle.std.specs.Prelude.{◌≡◌, List, ◌++◌, ℕ, ◌+◌, ◌≤◌, length, take, drop}

abbrev pub put_in : ℕ → List ℕ → List ℕ → List ℕ
put_in at text out = take at out ++ (text ++ drop (at + length text) out)

pub record Put (out : List ℕ) (at : ℕ) (text now : List ℕ) (next : ℕ) : Type 0 where
  pub is : now ≡ put_in at text out
  pub long : length now ≡ length out
  pub behind : next ≡ at + length text
  pub fits : at + length text ≤ length out

abbrev pub front : List ℕ → List ℕ → List ℕ
front text out = text ++ drop (length text) out
