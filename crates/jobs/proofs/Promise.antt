-- What `run_held` promises, in the words of a run: what it has written is the beginning of what the held bytes print, and what it has
-- not taken prints the rest, whatever bytes are still to come.
--
--   held-prints   so it is, over the function's own contract
--
-- Assumes nothing.
use Rattle.std.proofs.Common.{◌≡◌, List, ◌++◌, ℕ, length, take, drop}
use lib.Seq.{take-append_seam}
use borrow.Fn.Kinds.{Dens, res_t, ended_of}
use contract.Lifetimes.{Lfts}
use denote.Triple.Clauses.{AtExit}
use Rattle.jobs.specs.declared.run.Run.{Run}
use Rattle.laws.specs.Writing.{front}
use Rattle.jobs.specs.Run.{Held, held_run, run_from, run_of}
use Rattle.jobs.proofs.Pieces.{goes_on}
use Rattle.jobs.proofs.run.run_held.Reads as RunHeld
use Rattle.jobs.proofs.run.run_held.Kinds as RunHeldKinds

prints : (room records drawn : ℕ) (held out : List ℕ) (r : Run) (exit f : List ℕ) → let h : Held = held_run room records drawn held in
    r ≡ run_of h → exit ≡ front h.text out
    → run_from records drawn (held ++ f) ≡ take r.written exit ++ run_from r.records r.drawn (drop r.taken held ++ f)
prints room records drawn held out r exit f e q =
    let h : Held = held_run room records drawn held in
    rw (e, q, take-append_seam h.text (drop (length h.text) out)) (goes_on room records drawn held f)

-- Whatever bytes f follow the held ones: what a call wrote, and then what the bytes that it did not take print with f, is what the
-- held bytes and f print from these counts on.
pub held-prints : (κs : Lfts 2) (a : Dens κs RunHeldKinds.ps) (p : (res_t RunHeldKinds.r κs).Denot) (x : AtExit (ended_of 2 RunHeldKinds.ps RunHeldKinds.r) κs)
    → RunHeld.Learnt κs a p x → (f : List ℕ)
    → run_from a.1.0 a.1.1.0 (a.0.now ++ f)
    ≡ take p.written x.1.1.1.0.now ++ run_from p.records p.drawn (drop p.taken a.0.now ++ f)
held-prints κs a p x h f = prints (length a.1.1.1.0.now) a.1.0 a.1.1.0 a.0.now a.1.1.1.0.now p x.1.1.1.0.now f h.0 h.1.0
