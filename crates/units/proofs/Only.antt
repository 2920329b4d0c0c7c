-- One answer for each input of this crate's public function, and one content of the lent buffer.
-- Assumes nothing.
use Rattle.laws.specs.One.{One, OneBuffer}
use Rattle.laws.proofs.Only.{only}
use Rattle.units.proofs.draw_row.Reads as DrawRow
use Rattle.units.proofs.draw_row.Kinds as DrawRowKinds

pub draw-row : One 1 DrawRowKinds.ps DrawRowKinds.r DrawRow.Learnt
draw-row κs a p q x y h k = only h.0 k.0

pub draw-row-buffer : OneBuffer 1 DrawRowKinds.ps DrawRowKinds.r (λ κs x. x.1.1.0.now) DrawRow.Learnt
draw-row-buffer κs a p q x y h k = only h.1 k.1
