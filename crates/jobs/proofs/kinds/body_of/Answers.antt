-- `body_of`: each arm is a line of the table of fields, with mode and count before the field.
-- Assumes nothing.
use Rattle.std.proofs.Common.{rules, ◌≡◌, refl, ℕ, ◌<◌, ◌≤◌, arith, Some}
use Rattle.laws.proofs.Finite.{from_at}
use Rattle.jobs.specs.Kinds.{fields, field_of, known, body_of}
use Rattle.jobs.specs.Found.{known_body}
use Rattle.jobs.proofs.Bodies.{none-behind}
use Rattle.jobs.proofs.kinds.body_of.Goals as goal

-- the five whose fields are 32 long
five : (k : ℕ) → 1 ≤ k → k < 7 → (k ≡ 3 → ⊥) → Some 34 ≡ known_body k
unfolding body_of known field_of fields
five = from_at (λ k. (k ≡ 3 → ⊥) → Some 34 ≡ known_body k) 1 6 (λ n. refl, (λ n. refl, (λ n. absurd (n refl), (λ n. refl, (λ n. refl, (λ n. refl, tt))))))

pub returns-in-1-clause-value : goal.returns-in-1-clause-value
returns-in-1-clause-value c = five _ (omega arith) (omega arith) (search rules)

pub returns-in_default-2-clause-value : goal.returns-in_default-2-clause-value
returns-in_default-2-clause-value c = none-behind _ (omega arith) (search rules) (search rules) (search rules)
