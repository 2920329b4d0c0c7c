-- The bytes of the longest line, by name, said once here and once in src/sizes.rt.
--
--   longest_line   five numbers of at most 20 digits, five blanks, the widths of the longest strip and the newline
use Rattle.std.specs.Prelude.{ℕ, ◌+◌}
use Rattle.symbologies.specs.Sizes.{longest}

abbrev pub longest_line : ℕ
longest_line = longest + 106
