-- A run over a job file (document 01, "Job file"), whole and in pieces.
--
--   Job        a record: kind, mode, count and field
--   job_of      the record of a kind and the bytes behind it
--   Front      how bytes begin: there are none, an unknown kind, a cut record (also the kind byte alone), or a whole record and
--              what stands behind it
--   front_of    how these do; `by`, a choice by it
--   counted    one more; the largest u64 stays, which no run reaches; counted_if, where a test passes
--   line_for, drawn_for    the line of a record, and the number of drawn ones with it
--   run_from    all that is printed for the bytes that are left, after so many records, of which so many were drawn;
--              run_by, in so many steps
--   run        all that is printed for an input
--   Held       what one call takes of the bytes that it is lent: how many, the text, the counts behind it, why it ended
--   ends, behind    a call that takes nothing, and one that takes a record first
--   held_run    one call with so much room. It ends with More where what is left begins a record or is nothing, with Full where
--              the room left could not hold the longest line, with Stopped at an unknown kind; held_by, in so many steps
--   halted_at, run_of    what a call answers, as it stands in the code
use Rattle.std.specs.Prelude.{Bool, List, [], ◌∷◌, ◌++◌, ℕ, zero, suc, ◌+◌, ◌-◌, ltb, leb, length, get_or, take, drop}
use Rattle.laws.specs.Search.{pick}
use Rattle.lines.specs.Sizes.{longest_line}
use Rattle.jobs.specs.declared.run.Ended.{Ended}
use Rattle.jobs.specs.declared.run.Ended.TheVariants.{More, Full, Stopped}
use Rattle.jobs.specs.declared.run.Run.{Run}
use Rattle.jobs.specs.Kinds.{symbology_of, field_of, known, body_of}
use Rattle.lines.specs.Line.{is_drawn, line_of, end_line, stop_line}

pub record Job : Type 0 where
  pub kind : ℕ
  pub mode : ℕ
  pub count : ℕ
  pub field : List ℕ

pub data Front : Type 0 where
  nothing : Front
  unknown : Front
  cut : Front
  whole : Job → List ℕ → Front

abbrev pub job_of : ℕ → List ℕ → Job
job_of kind body = record { kind = kind; mode = get_or body 0 0; count = get_or body 1 0; field = take (field_of kind) (drop 2 body) }

abbrev pub front_of : List ℕ → Front
front_of [] = nothing
front_of (kind ∷ rest) =
    pick (known kind) (pick (leb (body_of kind) (length rest)) (whole (job_of kind rest) (drop (body_of kind) rest)) cut) unknown

-- one of four, by how bytes begin
abbrev pub by : {A : Type 0} → Front → A → A → A → (Job → List ℕ → A) → A
by nothing a b c f = a
by unknown a b c f = b
by cut a b c f = c
by (whole x rest) a b c f = f x rest

unfoldable pub counted : ℕ → ℕ
counted n = pick (ltb n 18446744073709551615) (n + 1) n

abbrev pub counted_if : Bool → ℕ → ℕ
counted_if b n = pick b (counted n) n

abbrev pub line_for : ℕ → Job → List ℕ
line_for number x = line_of number (symbology_of x.kind) x.mode x.count x.field

abbrev pub drawn_for : ℕ → Job → ℕ
drawn_for drawn x = counted_if (is_drawn (symbology_of x.kind) x.mode x.count x.field) drawn

-- each record is at least a byte, so that as many steps as bytes are enough
abbrev pub run_by : ℕ → ℕ → ℕ → List ℕ → List ℕ
run_by zero records drawn bytes = end_line records drawn
run_by (suc steps) records drawn bytes =
    by (front_of bytes) (end_line records drawn) (stop_line records) (stop_line records)
    (λ x rest. line_for (counted records) x ++ run_by steps (counted records) (drawn_for drawn x) rest)

unfoldable pub run_from : ℕ → ℕ → List ℕ → List ℕ
run_from records drawn bytes = run_by (length bytes) records drawn bytes

abbrev pub run : List ℕ → List ℕ
run input = run_from 0 0 input

pub record Held : Type 0 where
  pub taken : ℕ
  pub text : List ℕ
  pub records : ℕ
  pub drawn : ℕ
  pub ended : Ended

abbrev pub ends : ℕ → ℕ → Ended → Held
ends records drawn why = record { taken = 0; text = []; records = records; drawn = drawn; ended = why }

-- so many bytes and this text, and then the rest
abbrev pub behind : ℕ → List ℕ → Held → Held
behind n t h = record { taken = n + h.taken; text = t ++ h.text; records = h.records; drawn = h.drawn; ended = h.ended }

abbrev pub held_by : ℕ → ℕ → ℕ → ℕ → List ℕ → Held
held_by zero room records drawn bytes = ends records drawn More
held_by (suc steps) room records drawn bytes =
    by (front_of bytes) (ends records drawn More) (ends records drawn Stopped) (ends records drawn More)
    (λ x rest.
    pick (ltb room longest_line) (ends records drawn Full)
    (behind (suc (body_of x.kind)) (line_for (counted records) x)
    (held_by steps (room - length (line_for (counted records) x)) (counted records) (drawn_for drawn x) rest)))

unfoldable pub held_run : ℕ → ℕ → ℕ → List ℕ → Held
held_run room records drawn bytes = held_by (length bytes) room records drawn bytes

abbrev pub halted_at : ℕ → ℕ → ℕ → ℕ → Ended → Run
halted_at taken written records drawn why = record { taken = taken; written = written; records = records; drawn = drawn; ended = why }

abbrev pub run_of : Held → Run
run_of h = halted_at h.taken (length h.text) h.records h.drawn h.ended
