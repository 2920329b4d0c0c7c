-- Document 01's P rows, computed from the definitions that the calls promise.
--
--   bench-holds   every row of specs/Bench.antt holds
--
-- Assumes nothing.
use Rattle.std.proofs.Common.{◌≡◌, refl, true}
use Rattle.laws.specs.Search.{index_in}
use Rattle.tables.specs.Alphabet.{value_of, byte_of, rows_of}
use Rattle.tables.specs.FullAscii.{drawing, ranges}
use Rattle.tables.specs.Code39.{alphabet39, chars39}
use Rattle.tables.specs.Codabar.{alphabet_codabar, table41, inner_rows, letter_rows}
use Rattle.tables.specs.TwoOfFive.{alphabet_digits, table44, digit_rows, industrial_rows, industrial_start, industrial_stop, interleaved_rows, interleaved_start, interleaved_stop, matrix_rows, matrix_ends}
use Rattle.laws.specs.Rules.{check_of}
use Rattle.symbologies.specs.Coders.{plain, codabar_coder, full_coder}
use Rattle.symbologies.specs.Checks.{by43, right10}
use Rattle.symbologies.specs.Parts.{lettering, industrial, interleaved, matrix}
use Rattle.symbologies.specs.Symbologies.{symbology_of, symbologies}
use Rattle.symbologies.specs.Rows.{row_of, row_of_field}
use Rattle.symbologies.specs.Strips.{elements_of, modules_of, units_of, strip_of}
use Rattle.strip.specs.Bench.{bench, all_hold}

pub bench-holds : all_hold bench ≡ true
unfolding bench row_of row_of_field symbology_of symbologies value_of byte_of rows_of plain codabar_coder full_coder check_of by43 right10 index_in drawing ranges alphabet39 chars39 alphabet_codabar table41 inner_rows letter_rows alphabet_digits table44 digit_rows industrial_rows industrial_start industrial_stop interleaved_rows interleaved_start interleaved_stop matrix_rows matrix_ends lettering industrial interleaved matrix units_of strip_of elements_of modules_of
bench-holds = refl
