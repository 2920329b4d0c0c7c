-- Drawing's returns: an answer handed on, or a row laid out.
--
--   turned-away     an answer handed on
--   laid_out        a row's strip, or 8
--
-- Assumes nothing.
use Rattle.std.proofs.Common.{Result, Ok, Err, ◌≡◌, refl, sym, ap, ◌∙◌, Bool, true, false, List, ℕ, ◌≤◌, arith, ltb, length, take, le-leb}
use Rattle.laws.specs.Search.{pick}
use Rattle.words.specs.declared.Elements.{Elements}
use Rattle.words.specs.declared.Modules.{Modules}
use Rattle.words.specs.declared.Answer.{Answer}
use Rattle.words.specs.Order.{Outcome, gives, turned}
use Rattle.symbologies.specs.Sizes.{places}
use Rattle.symbologies.specs.Rows.{row_of_field}
use Rattle.symbologies.specs.Strips.{elements_of, ready}
use Rattle.symbologies.specs.Told.{Rowed, row_in, told}
use Rattle.symbologies.proofs.Held.{take-pad}
use Rattle.symbologies.proofs.Ready.{drawn-ready, ready-counted}
use Rattle.symbologies.proofs.Counted.{counted-few}
use Rattle.units.specs.Laid.{chars_of, laid_of, laid_in}
use Rattle.strip.specs.Drawing.{Call, draw_field, answer_of}
use Rattle.strip.proofs.Fields.{field-data}
use Rattle.strip.proofs.Requests.{draw-given, draw-turned}

pub turned-away : (s m count : ℕ) (field out : List ℕ) (x : Rowed) (a : Answer) → x ≡ told (row_of_field s m count field) → x.verdict ≡ Err a
    → (a ≡ (draw_field s m count field out).answer) × (out ≡ (draw_field s m count field out).buffer)
turned-away s m count field out x a e v = go (row_of_field s m count field) refl e
  where
    go : (z : Outcome) → row_of_field s m count field ≡ z → x ≡ told z → (a ≡ (draw_field s m count field out).answer) × (out ≡ (draw_field s m count field out).buffer)
    go (gives r) w q = absurd (let u : Ok (tt {0}) ≡ Err a = sym (ap (λ (y : Rowed). y.verdict) q) ∙ v in let z : ◌≡◌ {A = ℕ} 0 1 = cc in omega arith)
    go (turned b) w q =
        let u : Err b ≡ Err a = sym (ap (λ (y : Rowed). y.verdict) q) ∙ v in
        let c : b ≡ a = cc in
        rw (draw-turned s m count field out b w) (sym c, refl)

-- a row that is given holds what the field draws
chars-of : (r : List ℕ) → length r ≤ places → chars_of (row_in r) ≡ r
chars-of r h = rw (le-leb (length r) places h) (take-pad places r h)

pick-answer : (b : Bool) (x y : Result (Elements × Modules) Answer) (p q : Call) → answer_of x ≡ p.answer → answer_of y ≡ q.answer → answer_of (pick b x y) ≡ (pick b p q).answer
pick-answer true x y p q e f = e
pick-answer false x y p q e f = f

pick-buffer : (b : Bool) (x y : List ℕ) (p q : Call) → x ≡ p.buffer → y ≡ q.buffer → pick b x y ≡ (pick b p q).buffer
pick-buffer true x y p q e f = e
pick-buffer false x y p q e f = f

module _ (s m count : ℕ) (field out r : List ℕ) (e : row_of_field s m count field ≡ gives r) where
  same_answer : answer_of (laid_of s r (length out)) ≡ (draw_field s m count field out).answer
  unfolding laid_of
  same_answer = rw (draw-given s m count field out r e) (pick-answer (ltb (length out) (elements_of s (length r))) _ _ _ _ refl refl)

  same-buffer : laid_in s r out ≡ (draw_field s m count field out).buffer
  unfolding laid_in
  same-buffer = rw (draw-given s m count field out r e) (pick-buffer (ltb (length out) (elements_of s (length r))) _ _ _ _ refl refl)

-- such a row is ready
module _ (s m count : ℕ) (field : List ℕ) (x : Rowed) (e : x ≡ told (row_of_field s m count field)) (v : x.verdict ≡ Ok (tt {0})) where
  given-ready : (r : List ℕ) → row_of_field s m count field ≡ gives r → x ≡ told (gives r) → (chars_of x.row ≡ r) × (ready s r ≡ true)
  given-ready r w q =
      let h : ready s r ≡ true = drawn-ready s m (take count field) r (field-data s m count field r w) in
      (ap (λ (y : Rowed). chars_of y.row) q ∙ chars-of r (counted-few s (length r) (ready-counted s r h)), h)

  not-turned : (b : Answer) → x ≡ told (turned b) → ⊥
  not-turned b q =
      let u : Err b ≡ Ok (tt {0}) = sym (ap (λ (y : Rowed). y.verdict) q) ∙ v in
      let z : ◌≡◌ {A = ℕ} 0 1 = cc in
      omega arith

  pub row-ready : ready s (chars_of x.row) ≡ true
  row-ready = go (row_of_field s m count field) refl e
    where
      go : (z : Outcome) → row_of_field s m count field ≡ z → x ≡ told z → ready s (chars_of x.row) ≡ true
      go (turned b) w q = absurd (not-turned b q)
      go (gives r) w q = let c = given-ready r w q in rw c.0 c.1

  pub laid_out : (out next : List ℕ) (a : Result (Elements × Modules) Answer) → a ≡ laid_of s (chars_of x.row) (length out) → next ≡ laid_in s (chars_of x.row) out
      → (answer_of a ≡ (draw_field s m count field out).answer) × (next ≡ (draw_field s m count field out).buffer)
  laid_out out next a f g = go (row_of_field s m count field) refl e
    where
      go : (z : Outcome) → row_of_field s m count field ≡ z → x ≡ told z → (answer_of a ≡ (draw_field s m count field out).answer) × (next ≡ (draw_field s m count field out).buffer)
      go (turned b) w q = absurd (not-turned b q)
      go (gives r) w q =
          let c = given-ready r w q in (
            ap answer_of f ∙ ap (λ (u : List ℕ). answer_of (laid_of s u (length out))) c.0 ∙ same_answer s m count field out r w,
            g ∙ ap (λ (u : List ℕ). laid_in s u out) c.0 ∙ same-buffer s m count field out r w,
          )
