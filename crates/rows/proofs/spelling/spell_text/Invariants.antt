-- `spell_text` spells: the loop keeps what `Spelling` says, piece by piece.
-- Assumes nothing.
use Rattle.std.proofs.Common.{length}
use Rattle.symbologies.specs.Symbologies.{symbology_of}
use Rattle.sums.specs.Sums.{own_in}
use Rattle.rows.proofs.Spellings.{Spelling}
use Rattle.rows.proofs.spelling.spell_text.Given as goal

abbrev pub invariant-loop-i : goal.invariant-loop-i
invariant-loop-i l = Spelling ((symbology_of l.symbology).coder l.mode) (own_in l.mode (length l.text)) l.text l.initial.sum l.row l.i l.sum
