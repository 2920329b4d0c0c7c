-- One answer for each input of this crate's public functions. A part may be described in more than one way, since of a mark that is none
-- no word is asked: all that `part_of` may answer means the same part.
-- Assumes nothing.
use Rattle.std.proofs.Common.{◌≡◌}
use borrow.Fn.Kinds.{Dens, res_t, ended_of}
use contract.Lifetimes.{Lfts}
use denote.Triple.Clauses.{AtExit}
use Rattle.laws.specs.One.{One}
use Rattle.laws.proofs.Only.{only}
use Rattle.shapes.specs.Sets.{sets_of}
use Rattle.shapes.specs.Described.{part_in}
use Rattle.shapes.proofs.sets.code39.Reads as Code39
use Rattle.shapes.proofs.sets.code39.Kinds as Code39Kinds
use Rattle.shapes.proofs.sets.codabar.Reads as Codabar
use Rattle.shapes.proofs.sets.codabar.Kinds as CodabarKinds
use Rattle.shapes.proofs.sets.industrial.Reads as Industrial
use Rattle.shapes.proofs.sets.industrial.Kinds as IndustrialKinds
use Rattle.shapes.proofs.sets.digits.Reads as Digits
use Rattle.shapes.proofs.sets.digits.Kinds as DigitsKinds
use Rattle.shapes.proofs.sets.ean.Reads as Ean
use Rattle.shapes.proofs.sets.ean.Kinds as EanKinds
use Rattle.shapes.proofs.parts.part_of.Reads as PartOf
use Rattle.shapes.proofs.parts.part_of.Kinds as PartOfKinds
use Rattle.shapes.proofs.parts.part_count.Reads as PartCount
use Rattle.shapes.proofs.parts.part_count.Kinds as PartCountKinds
use Rattle.shapes.proofs.parts.count_in.Reads as CountIn
use Rattle.shapes.proofs.parts.count_in.Kinds as CountInKinds

pub code39 : One 0 Code39Kinds.ps Code39Kinds.r Code39.Learnt
code39 κs a p q x y = only

pub codabar : One 0 CodabarKinds.ps CodabarKinds.r Codabar.Learnt
codabar κs a p q x y = only

pub industrial : One 0 IndustrialKinds.ps IndustrialKinds.r Industrial.Learnt
industrial κs a p q x y = only

pub digits : One 0 DigitsKinds.ps DigitsKinds.r Digits.Learnt
digits κs a p q x y = only

pub ean : One 0 EanKinds.ps EanKinds.r Ean.Learnt
ean κs a p q x y = only

-- the symbology is the first argument
pub part_of : (κs : Lfts 0) (a : Dens κs PartOfKinds.ps) (p q : (res_t PartOfKinds.r κs).Denot) (x y : AtExit (ended_of 0 PartOfKinds.ps PartOfKinds.r) κs)
    → PartOf.Learnt κs a p x → PartOf.Learnt κs a q y → part_in (sets_of a.0) p ≡ part_in (sets_of a.0) q
part_of κs a p q x y h k = only h.is k.is

pub part_count : One 0 PartCountKinds.ps PartCountKinds.r PartCount.Learnt
part_count κs a p q x y = only

pub count-in : One 0 CountInKinds.ps CountInKinds.r CountIn.Learnt
count-in κs a p q x y = only
