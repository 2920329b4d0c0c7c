-- One answer for each input of this crate's public functions, and one content of the lent buffer.
-- Assumes nothing.
use Rattle.std.proofs.Common.{◌≡◌, ap, ◌∙◌, Bool, ℕ}
use Rattle.laws.specs.One.{One, OneBuffer}
use Rattle.laws.proofs.Only.{only}
use Rattle.lines.specs.declared.Written.{Written}
use Rattle.lines.proofs.put_line.Reads as PutLine
use Rattle.lines.proofs.put_line.Kinds as PutLineKinds
use Rattle.lines.proofs.end_line.Reads as EndLine
use Rattle.lines.proofs.end_line.Kinds as EndLineKinds
use Rattle.lines.proofs.stop_line.Reads as StopLine
use Rattle.lines.proofs.stop_line.Kinds as StopLineKinds

-- a place and a test are one answer
both : (p q : Written) → p.next ≡ q.next → p.drawn ≡ q.drawn → p ≡ q
both p q n d =
    let w : p ≡ record { next = q.next; drawn = p.drawn } = ap (λ (m : ℕ). record { next = m; drawn = p.drawn }) n in
    w ∙ ap (λ (b : Bool). record { next = q.next; drawn = b }) d

pub put-line : One 2 PutLineKinds.ps PutLineKinds.r PutLine.Learnt
put-line κs a p q x y h k = both p q (only h.0.behind k.0.behind) (only h.1 k.1)

pub put-line-buffer : OneBuffer 2 PutLineKinds.ps PutLineKinds.r (λ κs x. x.1.1.1.1.1.0.now) PutLine.Learnt
put-line-buffer κs a p q x y h k = only h.0.is k.0.is

pub end_line : One 1 EndLineKinds.ps EndLineKinds.r EndLine.Learnt
end_line κs a p q x y h k = only h.0 k.0

pub end-line-buffer : OneBuffer 1 EndLineKinds.ps EndLineKinds.r (λ κs x. x.1.1.0.now) EndLine.Learnt
end-line-buffer κs a p q x y h k = only h.1.0 k.1.0

pub stop-line : One 1 StopLineKinds.ps StopLineKinds.r StopLine.Learnt
stop-line κs a p q x y h k = only h.0 k.0

pub stop-line-buffer : OneBuffer 1 StopLineKinds.ps StopLineKinds.r (λ κs x. x.1.0.now) StopLine.Learnt
stop-line-buffer κs a p q x y h k = only h.1.0 k.1.0
