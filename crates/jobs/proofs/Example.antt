-- Document 01's example, computed from the definitions that the calls promise.
--
--   example-prints   the two records print the three lines
--
-- Assumes nothing.
use Rattle.std.proofs.Common.{◌≡◌, refl}
use Rattle.laws.specs.Search.{index_in}
use Rattle.tables.specs.Alphabet.{value_of, byte_of, rows_of}
use Rattle.tables.specs.TwoOfFive.{alphabet_digits, table44, digit_rows, interleaved_rows, interleaved_start, interleaved_stop}
use Rattle.laws.specs.Rules.{check_of}
use Rattle.symbologies.specs.Coders.{plain}
use Rattle.symbologies.specs.Checks.{by43, right10}
use Rattle.symbologies.specs.Parts.{interleaved}
use Rattle.symbologies.specs.Symbologies.{symbology_of, symbologies}
use Rattle.symbologies.specs.Rows.{row_of, row_of_field}
use Rattle.symbologies.specs.Strips.{elements_of, modules_of, units_of, strip_of}
use Rattle.strip.specs.Drawing.{drawing_checks, draw_field}
use Rattle.jobs.specs.Kinds.{fields, field_of, known, body_of}
use Rattle.lines.specs.Text.{decimal}
use Rattle.lines.specs.Line.{call_of, line_of, end_line, stop_line}
use Rattle.jobs.specs.Run.{counted, run_from, run}
use Rattle.jobs.specs.Example.{example, printed}

pub example-prints : run example ≡ printed
unfolding example printed run_from counted end_line stop_line line_of call_of decimal body_of known field_of fields draw_field drawing_checks row_of row_of_field symbology_of symbologies value_of byte_of rows_of plain check_of by43 right10 index_in alphabet_digits table44 digit_rows interleaved_rows interleaved_start interleaved_stop interleaved units_of strip_of elements_of modules_of
example-prints = refl
