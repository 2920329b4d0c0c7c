-- The loop of a program over a job file: it holds bytes, calls `run_held` on them with some room, prints what was written, and reads
-- another piece of the input where more is wanted.
--
--   joined     pieces one behind the other
--   closing    the last line where the input has ended: of nothing left, or of a cut record
--   Prints     from these held bytes and counts on, with these pieces still to be read, the loop prints this text
use Rattle.std.specs.Prelude.{◌≡◌, List, [], ◌∷◌, ◌++◌, ℕ, ◌≤◌, drop}
use Rattle.lines.specs.Sizes.{longest_line}
use Rattle.lines.specs.Line.{end_line, stop_line}
use Rattle.jobs.specs.declared.run.Ended.TheVariants.{More, Full, Stopped}
use Rattle.jobs.specs.Run.{Held, held_run}

abbrev pub joined : List (List ℕ) → List ℕ
joined [] = []
joined (piece ∷ pieces) = piece ++ joined pieces

abbrev pub closing : ℕ → ℕ → List ℕ → List ℕ
closing records drawn [] = end_line records drawn
closing records drawn (b ∷ bs) = stop_line records

-- each step is a call with some room, of at least a line; `h` is what it took and wrote
pub data Prints : List ℕ → ℕ → ℕ → List (List ℕ) → List ℕ → Type 0 where
  -- the room was full: the same bytes again, without those that were taken
  full : {held : List ℕ} {records drawn : ℕ} {pieces : List (List ℕ)} {t : List ℕ} (room : ℕ) (h : Held) → longest_line ≤ room
      → h ≡ held_run room records drawn held → h.ended ≡ Full
      → Prints (drop h.taken held) h.records h.drawn pieces t → Prints held records drawn pieces (h.text ++ t)
  -- more bytes are wanted: what is left, and the next piece behind it
  more : {held : List ℕ} {records drawn : ℕ} {piece : List ℕ} {pieces : List (List ℕ)} {t : List ℕ} (room : ℕ) (h : Held) → longest_line ≤ room
      → h ≡ held_run room records drawn held → h.ended ≡ More
      → Prints (drop h.taken held ++ piece) h.records h.drawn pieces t → Prints held records drawn (piece ∷ pieces) (h.text ++ t)
  -- more bytes are wanted, and the input has ended
  over : {held : List ℕ} {records drawn : ℕ} (room : ℕ) (h : Held) → longest_line ≤ room
      → h ≡ held_run room records drawn held → h.ended ≡ More
      → Prints held records drawn [] (h.text ++ closing h.records h.drawn (drop h.taken held))
  -- an unknown kind: the pieces that are still to come are not read
  stop : {held : List ℕ} {records drawn : ℕ} {pieces : List (List ℕ)} (room : ℕ) (h : Held) → longest_line ≤ room
      → h ≡ held_run room records drawn held → h.ended ≡ Stopped
      → Prints held records drawn pieces (h.text ++ stop_line h.records)
