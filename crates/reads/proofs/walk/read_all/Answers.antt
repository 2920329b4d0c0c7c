-- `read_all`: by its number each symbology has its sets, and the place of its first unit's row.
-- Assumes nothing.
use Rattle.std.proofs.Common.{refl, drop, length-take-le, length-drop, arith}
use Rattle.reads.proofs.Parts.{tables, by_key, by_two, last, asks, gives, ended-part}
use Rattle.reads.proofs.walk.read_all.Goals as goal
use Rattle.reads.proofs.walk.read_all.Goals.{in_default-via-then-symbology-lt1, in_default-via-else-symbology-lt1+else-symbology-lt3+else-symbology-lt7}

pub read_parts-requires-in-1 : goal.read_parts-requires-in-1
read_parts-requires-in-1 c = asks (by_two (omega arith) (omega arith) c.code39.ensures tables.0 tables.1.0 refl) c.args.n c.requires _ (omega arith)

pub read_parts-requires : goal.read_parts-requires
read_parts-requires c = asks (by_key c.in-3.is c.codabar.ensures tables.1.1.0) c.args.n c.requires _ (omega arith)

pub read_parts-requires-in-4 : goal.read_parts-requires-in-4
read_parts-requires-in-4 c = asks (by_key c.in-4.is c.industrial.ensures tables.1.1.1.0) c.args.n c.requires _ (omega arith)

pub read_parts-requires-in-5 : goal.read_parts-requires-in-5
read_parts-requires-in-5 c = asks (by_two (omega arith) (omega arith) c.digits.ensures tables.1.1.1.1.0 tables.1.1.1.1.1.0 refl) c.args.n c.requires _ (omega arith)

pub read_parts-requires-in-7 : goal.read_parts-requires-in-7
read_parts-requires-in-7 c =
    let l = length-take-le 33 (drop 1 c.args.codes.now) (omega (arith, length-drop 1 c.args.codes.now)) in
    asks (by_key c.in-7.is c.ean.ensures tables.1.1.1.1.1.1) c.args.n c.requires _ (omega (arith, l))

pub read_parts-requires-in_default : goal.read_parts-requires-in_default
read_parts-requires-in_default c =
    elim c.in_default.branch [
      | in_default-via-then-symbology-lt1 w ↦ asks (last c.args.n c.requires (λ h. absurd (omega arith)) c.ean-in_default.ensures) c.args.n c.requires _ (omega arith)
      | in_default-via-else-symbology-lt1+else-symbology-lt3+else-symbology-lt7 w ↦ asks (last c.args.n c.requires (λ h. omega arith) c.ean-in_default.ensures) c.args.n c.requires _ (omega arith)
    ]

pub returns-in-7 : goal.returns-in-7
returns-in-7 c =
    gives (by_key c.in-7.is c.ean.ensures tables.1.1.1.1.1.1) c.args.n c.args.strip.now c.args.codes.now _ _
    (ended-part _ c.args.codes.now 1 33 _ _ (omega arith) c.read_parts-in-7.ensures)
