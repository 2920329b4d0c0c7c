-- One answer for each input of this crate's public function, and one content of what is lent to it.
-- Assumes nothing.
use Rattle.std.proofs.Common.{ap}
use Rattle.laws.specs.One.{One, OneBuffer}
use Rattle.laws.proofs.Only.{only}
use Rattle.symbologies.specs.Told.{Rowed}
use Rattle.reads.proofs.row_seen.Reads as RowSeen
use Rattle.reads.proofs.row_seen.Kinds as RowSeenKinds

pub row_seen : One 2 RowSeenKinds.ps RowSeenKinds.r RowSeen.Learnt
row_seen κs a p q x y h k = ap (λ (w : Rowed). w.verdict) (only h k)

pub row-seen-places : OneBuffer 2 RowSeenKinds.ps RowSeenKinds.r (λ κs x. x.1.1.1.0.now) RowSeen.Learnt
row-seen-places κs a p q x y h k = ap (λ (w : Rowed). w.row) (only h k)
