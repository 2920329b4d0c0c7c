-- One answer for each input of this crate's public functions.
--
--   piece_of, piece-again    a piece is known by its characters
--
-- Assumes nothing.
use Rattle.std.proofs.Common.{◌≡◌, refl, sym, ap, ◌∙◌, List, [], ◌∷◌, ℕ}
use Rattle.laws.specs.One.{One}
use Rattle.laws.proofs.Only.{only}
use Rattle.coders.specs.declared.Piece.{Piece}
use Rattle.coders.specs.declared.Piece.TheVariants.{Alone, Pair, Nothing}
use Rattle.coders.specs.Pieces.{piece_list}
use Rattle.coders.proofs.drawn.Reads as Drawn
use Rattle.coders.proofs.drawn.Kinds as DrawnKinds
use Rattle.coders.proofs.is_nothing.Reads as IsNothing
use Rattle.coders.proofs.is_nothing.Kinds as IsNothingKinds
use Rattle.coders.proofs.alone.Reads as AloneByte
use Rattle.coders.proofs.alone.Kinds as AloneByteKinds
use Rattle.coders.proofs.is_alone.Reads as IsAlone
use Rattle.coders.proofs.is_alone.Kinds as IsAloneKinds
use Rattle.coders.proofs.is_shift.Reads as IsShift
use Rattle.coders.proofs.is_shift.Kinds as IsShiftKinds
use Rattle.coders.proofs.pair.Reads as PairByte
use Rattle.coders.proofs.pair.Kinds as PairByteKinds

abbrev piece_of : List ℕ → Piece
piece_of [] = Nothing
piece_of (c ∷ []) = Alone c
piece_of (c ∷ d ∷ cs) = Pair c d

piece-again : (p : Piece) → piece_of (piece_list p) ≡ p
piece-again (Alone c) = refl
piece-again (Pair c d) = refl
piece-again Nothing = refl

pub drawn : One 0 DrawnKinds.ps DrawnKinds.r Drawn.Learnt
drawn κs a p q x y h k = sym (piece-again p) ∙ ap piece_of (only h k) ∙ piece-again q

pub is-nothing : One 0 IsNothingKinds.ps IsNothingKinds.r IsNothing.Learnt
is-nothing κs a p q x y = only

pub alone : One 0 AloneByteKinds.ps AloneByteKinds.r AloneByte.Learnt
alone κs a p q x y = only

pub is-alone : One 0 IsAloneKinds.ps IsAloneKinds.r IsAlone.Learnt
is-alone κs a p q x y = only

pub is-shift : One 0 IsShiftKinds.ps IsShiftKinds.r IsShift.Learnt
is-shift κs a p q x y = only

pub pair : One 0 PairByteKinds.ps PairByteKinds.r PairByte.Learnt
pair κs a p q x y = only
