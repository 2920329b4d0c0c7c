-- What stands at the front of held bytes, as the code has it.
--
--   known_body the bytes behind the byte of a kind; none for a byte that is no kind
--   job_in     the record that was found
--   why_none   why there is none: more bytes are wanted behind nothing or the beginning of a record; an unknown kind ends the run
use Rattle.std.specs.Prelude.{Option, Some, None, ℕ}
use Rattle.laws.specs.Search.{some_if}
use Rattle.jobs.specs.Kinds.{known, body_of}
use Rattle.jobs.specs.declared.run.Ended.{Ended}
use Rattle.jobs.specs.declared.run.Ended.TheVariants.{More, Stopped}
use Rattle.jobs.specs.declared.run.Record.{Record}
use Rattle.jobs.specs.Run.{Job, Front, nothing, unknown, cut, whole}

abbrev pub known_body : ℕ → Option ℕ
known_body kind = some_if (known kind) (body_of kind)

abbrev pub job_in : Record → Job
job_in r = record { kind = r.kind; mode = r.mode; count = r.count; field = r.field.now }

abbrev pub why_none : Front → Option Ended
why_none nothing = Some More
why_none unknown = Some Stopped
why_none cut = Some More
why_none (whole x rest) = None
