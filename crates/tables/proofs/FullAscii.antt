-- Document 01's ranges give the drawing codes that source 004 prints in 10.1.3.
--
--   drawn   byte by byte, from 20h to 7Fh
--
-- Assumes nothing.
use Rattle.std.proofs.Common.{◌≡◌, refl, ℕ, ◌+◌, ◌<◌, get_or}
use Rattle.laws.specs.Elements.{alike}
use Rattle.laws.proofs.Finite.{upto-at}
use Rattle.laws.proofs.Elements.{alike-true}
use Rattle.tables.specs.Printed.{text}
use Rattle.tables.specs.FullAscii.{ranges, drawing, printed}

pub drawn : (i : ℕ) → i < 96 → drawing (0x20 + i) ≡ text (get_or printed i "")
unfolding drawing ranges printed
drawn i h =
    alike-true (drawing (0x20 + i)) (text (get_or printed i ""))
    (upto-at 96 (λ i. alike (drawing (0x20 + i)) (text (get_or printed i ""))) refl i h)
