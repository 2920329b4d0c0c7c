-- One answer for each input of this crate's public functions, and one content of the lent buffer.
-- Assumes nothing.
use Rattle.laws.specs.One.{One, OneBuffer}
use Rattle.laws.proofs.Only.{only}
use Rattle.strip.proofs.draw.Reads as Draw
use Rattle.strip.proofs.draw.Kinds as DrawKinds
use Rattle.strip.proofs.draw_field.Reads as DrawField
use Rattle.strip.proofs.draw_field.Kinds as DrawFieldKinds
use Rattle.strip.proofs.read.Reads as ReadStrip
use Rattle.strip.proofs.read.Kinds as ReadStripKinds

pub draw : One 2 DrawKinds.ps DrawKinds.r Draw.Learnt
draw κs a p q x y h k = only h.0 k.0

pub draw-buffer : OneBuffer 2 DrawKinds.ps DrawKinds.r (λ κs x. x.1.1.1.0.now) Draw.Learnt
draw-buffer κs a p q x y h k = only h.1 k.1

pub draw-field : One 2 DrawFieldKinds.ps DrawFieldKinds.r DrawField.Learnt
draw-field κs a p q x y h k = only h.0 k.0

pub draw-field-buffer : OneBuffer 2 DrawFieldKinds.ps DrawFieldKinds.r (λ κs x. x.1.1.1.1.0.now) DrawField.Learnt
draw-field-buffer κs a p q x y h k = only h.1 k.1

pub read : One 2 ReadStripKinds.ps ReadStripKinds.r ReadStrip.Learnt
read κs a p q x y h k = only h.0 k.0

pub read-buffer : OneBuffer 2 ReadStripKinds.ps ReadStripKinds.r (λ κs x. x.1.1.1.0.now) ReadStrip.Learnt
read-buffer κs a p q x y h k = only h.1 k.1
