-- One content of the lent numbers for each input of the two calls for C, and one content of the lent buffer.
-- Assumes nothing.
use Rattle.laws.specs.One.{OneBuffer}
use Rattle.laws.proofs.Only.{only}
use Rattle.strip_c.proofs.strip_draw.Reads as DrawForC
use Rattle.strip_c.proofs.strip_draw.Kinds as DrawForCKinds
use Rattle.strip_c.proofs.strip_read.Reads as ReadForC
use Rattle.strip_c.proofs.strip_read.Kinds as ReadForCKinds

pub strip-draw : OneBuffer 3 DrawForCKinds.ps DrawForCKinds.r (λ κs x. x.1.1.1.1.0.now) DrawForC.Learnt
strip-draw κs a p q x y h k = only h.0 k.0

pub strip-draw-buffer : OneBuffer 3 DrawForCKinds.ps DrawForCKinds.r (λ κs x. x.1.1.1.0.now) DrawForC.Learnt
strip-draw-buffer κs a p q x y h k = only h.1 k.1

pub strip-read : OneBuffer 3 ReadForCKinds.ps ReadForCKinds.r (λ κs x. x.1.1.1.1.0.now) ReadForC.Learnt
strip-read κs a p q x y h k = only h.0 k.0

pub strip-read-buffer : OneBuffer 3 ReadForCKinds.ps ReadForCKinds.r (λ κs x. x.1.1.1.0.now) ReadForC.Learnt
strip-read-buffer κs a p q x y h k = only h.1 k.1
