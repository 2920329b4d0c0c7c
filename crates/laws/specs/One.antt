-- One possible answer: what it means that a function's promise leaves no choice. The promise is the function's own contract, under the
-- name `Learnt` of the module `Reads` that the checker makes of it.
--
--   One         whatever two results a promise allows for the same arguments, they are the same
--   OneBuffer   so are two contents of what is lent, a buffer or a row, which stands somewhere among the parameters at exit
use Rattle.std.specs.Prelude.{◌≡◌, List, ℕ}
use borrow.Fn.Kinds.{ParamKind, ResultKind, Dens, res_t, ended_of, Out}
use contract.Lifetimes.{Lfts}
use denote.Triple.Clauses.{AtExit}

abbrev pub One : (n : ℕ) (ps : List (ParamKind n)) (r : ResultKind n) → Out n ps r → Type 0
One n ps r Learnt =
    (κs : Lfts n) (a : Dens κs ps) (p q : (res_t r κs).Denot) (x y : AtExit (ended_of n ps r) κs)
    → Learnt κs a p x → Learnt κs a q y → p ≡ q

abbrev pub OneBuffer : {A : Type 0} (n : ℕ) (ps : List (ParamKind n)) (r : ResultKind n) → ((κs : Lfts n) → AtExit (ended_of n ps r) κs → A) → Out n ps r → Type 0
OneBuffer n ps r buffer Learnt =
    (κs : Lfts n) (a : Dens κs ps) (p q : (res_t r κs).Denot) (x y : AtExit (ended_of n ps r) κs)
    → Learnt κs a p x → Learnt κs a q y → buffer κs x ≡ buffer κs y
