-- What `map_err` was given, by what it gave.
-- Assumes nothing.
use Rattle.std.proofs.Common.{Result, Ok, Err, MatchResult, IsErrAnd, ◌≡◌, ℕ, refl, arith}
use Rattle.std.proofs.lemmas.Result.{err_from_is_err_and}

module _ {T E F : Type 0} (P : E → F → Type 0) where
  pub was-ok : (r : Result T E) (q : Result T F) {x : T} → MatchResult r (λ x. q ≡ Ok x) (λ e. IsErrAnd q (P e)) → q ≡ Ok x → r ≡ Ok x
  was-ok (Ok y) q m h = cc
  was-ok (Err e) q m h =
      let w = err_from_is_err_and q m in
      let n : ◌≡◌ {A = ℕ} 0 1 = cc (w.1, h) in
      absurd (omega arith)

  pub was-err : (r : Result T E) (q : Result T F) {y : F} → MatchResult r (λ x. q ≡ Ok x) (λ e. IsErrAnd q (P e)) → q ≡ Err y
      → (e : E) × (r ≡ Err e) × P e y
  was-err (Ok x) q m h = let n : ◌≡◌ {A = ℕ} 0 1 = cc in absurd (omega arith)
  was-err (Err e) q {y} m h =
      let w = err_from_is_err_and q m in
      let s : w.0 ≡ y = cc (w.1, h) in
      (e, refl, rw s at w.2)
