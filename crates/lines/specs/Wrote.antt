-- What a call on a line keeps and writes.
--
--   Wrote   the same buffer is lent, with a text at the place, which then stands behind it
use Rattle.std.specs.Prelude.{◌≡◌, List, ℕ}
use Rattle.laws.specs.Writing.{Put}
use Rattle.lines.specs.declared.text.Line.{Line}

pub record Wrote (before : Line) (text : List ℕ) (behind : Line) : Type 0 where
  pub same : behind.out.ghost_name ≡ before.out.ghost_name
  pub put : Put before.out.now before.at text behind.out.now behind.at
