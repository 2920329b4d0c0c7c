-- One answer for each input of this crate's public functions, and one content of the row that is lent to them.
-- Assumes nothing.
use Rattle.std.proofs.Common.{ap}
use Rattle.laws.specs.One.{One, OneBuffer}
use Rattle.laws.proofs.Only.{only}
use Rattle.symbologies.proofs.judging.judge_field.Reads as JudgeField
use Rattle.symbologies.proofs.judging.judge_field.Kinds as JudgeFieldKinds
use Rattle.symbologies.proofs.judging.judge_drawn.Reads as JudgeDrawn
use Rattle.symbologies.proofs.judging.judge_drawn.Kinds as JudgeDrawnKinds
use Rattle.symbologies.proofs.judging.judge_count.Reads as JudgeCount
use Rattle.symbologies.proofs.judging.judge_count.Kinds as JudgeCountKinds
use Rattle.symbologies.proofs.lengths.elements_of.Reads as ElementsOf
use Rattle.symbologies.proofs.lengths.elements_of.Kinds as ElementsOfKinds
use Rattle.symbologies.proofs.lengths.modules_of.Reads as ModulesOf
use Rattle.symbologies.proofs.lengths.modules_of.Kinds as ModulesOfKinds
use Rattle.symbologies.proofs.lengths.count_for.Reads as CountFor
use Rattle.symbologies.proofs.lengths.count_for.Kinds as CountForKinds
use Rattle.symbologies.specs.Told.{Rowed}
use Rattle.symbologies.proofs.row.refuse.Reads as Refuse
use Rattle.symbologies.proofs.row.refuse.Kinds as RefuseKinds
use Rattle.symbologies.proofs.row.give.Reads as Give
use Rattle.symbologies.proofs.row.give.Kinds as GiveKinds

pub judge-field : One 1 JudgeFieldKinds.ps JudgeFieldKinds.r JudgeField.Learnt
judge-field κs a p q x y = only

pub judge-drawn : One 0 JudgeDrawnKinds.ps JudgeDrawnKinds.r JudgeDrawn.Learnt
judge-drawn κs a p q x y = only

pub judge-count : One 0 JudgeCountKinds.ps JudgeCountKinds.r JudgeCount.Learnt
judge-count κs a p q x y = only

pub elements-of : One 0 ElementsOfKinds.ps ElementsOfKinds.r ElementsOf.Learnt
elements-of κs a p q x y = only

pub modules-of : One 1 ModulesOfKinds.ps ModulesOfKinds.r ModulesOf.Learnt
modules-of κs a p q x y = only

pub count-for : One 0 CountForKinds.ps CountForKinds.r CountFor.Learnt
count-for κs a p q x y = only

pub refuse : One 1 RefuseKinds.ps RefuseKinds.r Refuse.Learnt
refuse κs a p q x y h k = ap (λ (w : Rowed). w.verdict) (only h k)

pub refuse-places : OneBuffer 1 RefuseKinds.ps RefuseKinds.r (λ κs x. x.1.0.now) Refuse.Learnt
refuse-places κs a p q x y h k = ap (λ (w : Rowed). w.row) (only h k)

pub give : One 1 GiveKinds.ps GiveKinds.r Give.Learnt
give κs a p q x y h k = only h.0 k.0

pub give-row : OneBuffer 1 GiveKinds.ps GiveKinds.r (λ κs x. x.1.0.now) Give.Learnt
give-row κs a p q x y h k = only h.1 k.1
