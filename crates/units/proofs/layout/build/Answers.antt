-- `build`: by its number each symbology has its sets and its choices.
-- Assumes nothing.
use Rattle.std.proofs.Common.{◌≡◌, refl, arith, rules, length, length-take-le, sym, ◌/◌}
use Rattle.symbologies.specs.Sizes.{places}
use Rattle.units.proofs.Built.{built, starred, letters, industrial, pairs, matrix, parities, last, few-chars, letters-in, digits5, digits13}
use Rattle.symbologies.proofs.Ready.{ready-counted}
use Rattle.units.proofs.layout.build.Goals as goal

pub lettered-letters-requires : goal.lettered-letters-requires
lettered-letters-requires c =
    let a = c.args in
    let z = letters-in a.symbology a.chars.now c.requires.chars_value c.in-3.is in
    (omega (arith, z.0), (few-chars a.symbology a.chars.now c.requires.chars_value, z.1))

pub slice_bounds-letters-end : goal.slice_bounds-letters-end
slice_bounds-letters-end c =
    let l : length c.lettered-letters.result ≡ places = search rules in
    omega (arith, few-chars c.args.symbology c.args.chars.now c.requires.chars_value)

pub slice_bounds-put_parts-end-in-3 : goal.slice_bounds-put_parts-end-in-3
slice_bounds-put_parts-end-in-3 c =
    let l : length c.lettered-letters.result ≡ places = search rules in
    sym (length-take-le (length c.args.chars.now) c.lettered-letters.result (omega (arith, few-chars c.args.symbology c.args.chars.now c.requires.chars_value)))

pub paired-pairs-requires : goal.paired-pairs-requires
paired-pairs-requires c =
    let a = c.args in
    (few-chars a.symbology a.chars.now c.requires.chars_value, digits5 a.symbology a.chars.now c.requires.chars_value c.in-5.is)

pub slice_bounds-pairs-end : goal.slice_bounds-pairs-end
slice_bounds-pairs-end c =
    let l : length c.paired-pairs.result ≡ places = search rules in
    omega (arith, few-chars c.args.symbology c.args.chars.now c.requires.chars_value)

pub slice_bounds-put_parts-end-in-5-2 : goal.slice_bounds-put_parts-end-in-5-2
slice_bounds-put_parts-end-in-5-2 c =
    let l : length c.paired-pairs.result ≡ places = search rules in
    sym (length-take-le (length c.args.chars.now / 2) c.paired-pairs.result (omega (arith, few-chars c.args.symbology c.args.chars.now c.requires.chars_value)))

pub sided-requires : goal.sided-requires
sided-requires c = digits13 c.args.symbology c.args.chars.now c.requires.chars_value c.in-7.is

pub put_parts-requires-in-1 : goal.put_parts-requires-in-1
put_parts-requires-in-1 c =
    let a = c.args in
    let b = built a.symbology a.chars.now a.out.now c.requires.chars_value c.requires.chars_in_bounds (starred (search rules)) c.code39.ensures refl in
    record { sets_value = b.sets_value; fits = b.fits; choices_in_bounds = b.room }

pub returns-in-1 : goal.returns-in-1
returns-in-1 c =
    let a = c.args in
    (built a.symbology a.chars.now a.out.now c.requires.chars_value c.requires.chars_in_bounds (starred (search rules)) c.code39.ensures refl).gives c.put_parts-in-1.ensures

pub put_parts-requires : goal.put_parts-requires
put_parts-requires c =
    let a = c.args in
    let b = built a.symbology a.chars.now a.out.now c.requires.chars_value c.requires.chars_in_bounds (letters c.in-3.is) c.codabar.ensures c.lettered-letters.ensures in
    record { sets_value = b.sets_value; fits = b.fits; choices_in_bounds = b.room }

pub returns-in-3 : goal.returns-in-3
returns-in-3 c =
    let a = c.args in
    (built a.symbology a.chars.now a.out.now c.requires.chars_value c.requires.chars_in_bounds (letters c.in-3.is) c.codabar.ensures c.lettered-letters.ensures).gives c.put_parts.ensures

pub put_parts-requires-in-4 : goal.put_parts-requires-in-4
put_parts-requires-in-4 c =
    let a = c.args in
    let b = built a.symbology a.chars.now a.out.now c.requires.chars_value c.requires.chars_in_bounds (industrial c.in-4.is) c.industrial.ensures refl in
    record { sets_value = b.sets_value; fits = b.fits; choices_in_bounds = b.room }

pub returns-in-4 : goal.returns-in-4
returns-in-4 c =
    let a = c.args in
    (built a.symbology a.chars.now a.out.now c.requires.chars_value c.requires.chars_in_bounds (industrial c.in-4.is) c.industrial.ensures refl).gives c.put_parts-in-4.ensures

pub put_parts-requires-in-5 : goal.put_parts-requires-in-5
put_parts-requires-in-5 c =
    let a = c.args in
    let b = built a.symbology a.chars.now a.out.now c.requires.chars_value c.requires.chars_in_bounds (pairs c.in-5.is) c.digits.ensures c.paired-pairs.ensures in
    record { sets_value = b.sets_value; fits = b.fits; choices_in_bounds = b.room }

pub returns-in-5 : goal.returns-in-5
returns-in-5 c =
    let a = c.args in
    (built a.symbology a.chars.now a.out.now c.requires.chars_value c.requires.chars_in_bounds (pairs c.in-5.is) c.digits.ensures c.paired-pairs.ensures).gives c.put_parts-in-5.ensures

pub put_parts-requires-in-6 : goal.put_parts-requires-in-6
put_parts-requires-in-6 c =
    let a = c.args in
    let b = built a.symbology a.chars.now a.out.now c.requires.chars_value c.requires.chars_in_bounds (matrix c.in-6.is) c.digits-in-6.ensures refl in
    record { sets_value = b.sets_value; fits = b.fits; choices_in_bounds = b.room }

pub returns-in-6 : goal.returns-in-6
returns-in-6 c =
    let a = c.args in
    (built a.symbology a.chars.now a.out.now c.requires.chars_value c.requires.chars_in_bounds (matrix c.in-6.is) c.digits-in-6.ensures refl).gives c.put_parts-in-6.ensures

pub put_parts-requires-in-7 : goal.put_parts-requires-in-7
put_parts-requires-in-7 c =
    let a = c.args in
    let b = built a.symbology a.chars.now a.out.now c.requires.chars_value c.requires.chars_in_bounds (parities c.in-7.is) c.ean.ensures c.sided.ensures in
    record { sets_value = b.sets_value; fits = b.fits; choices_in_bounds = b.room }

pub returns-in-7 : goal.returns-in-7
returns-in-7 c =
    let a = c.args in
    (built a.symbology a.chars.now a.out.now c.requires.chars_value c.requires.chars_in_bounds (parities c.in-7.is) c.ean.ensures c.sided.ensures).gives c.put_parts-in-7.ensures

pub put_parts-requires-in_default : goal.put_parts-requires-in_default
put_parts-requires-in_default c =
    let a = c.args in
    let b = built a.symbology a.chars.now a.out.now c.requires.chars_value c.requires.chars_in_bounds (last a.symbology (length a.chars.now) (ready-counted a.symbology a.chars.now c.requires.chars_value) (search rules) (search rules) (search rules) (search rules) (search rules) (search rules) (search rules)) c.ean-in_default.ensures refl in
    record { sets_value = b.sets_value; fits = b.fits; choices_in_bounds = b.room }

pub returns-in_default : goal.returns-in_default
returns-in_default c =
    let a = c.args in
    (built a.symbology a.chars.now a.out.now c.requires.chars_value c.requires.chars_in_bounds (last a.symbology (length a.chars.now) (ready-counted a.symbology a.chars.now c.requires.chars_value) (search rules) (search rules) (search rules) (search rules) (search rules) (search rules) (search rules)) c.ean-in_default.ensures refl).gives c.put_parts-in_default.ensures
