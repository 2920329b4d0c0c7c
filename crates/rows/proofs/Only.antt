-- One answer for each input of this crate's public functions, and one content of what is lent to them.
-- Assumes nothing.
use Rattle.std.proofs.Common.{ap}
use Rattle.laws.specs.One.{One, OneBuffer}
use Rattle.laws.proofs.Only.{only}
use Rattle.symbologies.specs.Told.{Rowed}
use Rattle.rows.proofs.drawing.row_of_field.Reads as RowOfField
use Rattle.rows.proofs.drawing.row_of_field.Kinds as RowOfFieldKinds

pub row-of-field : One 2 RowOfFieldKinds.ps RowOfFieldKinds.r RowOfField.Learnt
row-of-field κs a p q x y h k = ap (λ (w : Rowed). w.verdict) (only h k)

pub row-of-field-places : OneBuffer 2 RowOfFieldKinds.ps RowOfFieldKinds.r (λ κs x. x.1.1.1.1.0.now) RowOfField.Learnt
row-of-field-places κs a p q x y h k = ap (λ (w : Rowed). w.row) (only h k)
