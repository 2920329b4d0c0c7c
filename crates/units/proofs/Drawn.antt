-- What `draw_row` answers and leaves in the lent buffer, at each of its returns.
--
--   Drawing, drawing    a row that is ready has no more characters than places; held, they are the first of its codes; the number that the
--                       code works out is the strip's length, and at most as many as the longest strip has
--   room-long     so the room stays as long
--   too_short     a strip that is longer than the buffer
--   laid          a strip, copied in front of what stood there
--
-- Assumes nothing.
use Rattle.std.proofs.Common.{◌≡◌, refl, sym, ap, ◌∙◌, Bool, true, false, List, [], ◌++◌, ℕ, ◌<◌, ◌≤◌, arith, Ok, Err, ltb, leb, length, take, drop, length-append, length-drop, length-take-le, take_at, lt-ltb, le-ltb, le-leb, leb-true}
use Rattle.laws.specs.Search.{pick}
use Rattle.laws.specs.Writing.{front}
use Rattle.words.specs.Order.{element_count, module_count}
use Rattle.symbologies.specs.declared.row.Row.{Row}
use Rattle.symbologies.specs.Sizes.{places, longest}
use Rattle.symbologies.specs.Strips.{elements_of, modules_of, strip_of, ready}
use Rattle.symbologies.specs.Told.{elements_within, modules_within}
use Rattle.symbologies.proofs.Counted.{counted-some}
use Rattle.symbologies.proofs.Ready.{ready-counted, few}
use Rattle.symbologies.proofs.Totals.{elements}
use Rattle.words.specs.declared.Answer.TheVariants.{ShortForStrip}
use Rattle.units.specs.Laid.{chars_of, laid_of, laid_in}

pub record Drawing (s : ℕ) (row : Row) (n : ℕ) : Type 0 where
  pub few : row.len ≤ places
  pub held : chars_of row ≡ take row.len row.codes
  pub number : n ≡ elements_of s (length (chars_of row))
  pub count : length (strip_of s (take row.len row.codes)) ≡ n
  pub within : n ≤ longest

pub drawing : (s : ℕ) (row : Row) → length row.codes ≡ places → ready s (chars_of row) ≡ true → {n : ℕ} → n ≡ elements_within s row.len → Drawing s row n
unfolding elements_within
drawing s row all h {n} q =
    let k : row.len ≤ places = go (leb row.len places) refl (counted-some s (length (chars_of row)) (ready-counted s (chars_of row) h)) in
    let e : chars_of row ≡ take row.len row.codes = rw (le-leb row.len places k) refl in
    let m : n ≡ elements_of s (length (chars_of row))
    = rw (le-leb row.len places k) at q ∙ ap (elements_of s) (sym (ap length e ∙ length-take-le row.len row.codes (omega arith))) in
    record {
      few = k;
      held = e;
      number = m;
      count = ap (λ (r : List ℕ). length (strip_of s r)) (sym e) ∙ elements s (chars_of row) h ∙ sym m;
      within = omega (arith, few s (chars_of row) h);
    }
  where
    go : (b : Bool) → leb row.len places ≡ b → 0 < length (pick b (take row.len row.codes) []) → row.len ≤ places
    go true e z = leb-true row.len places e
    go false e z = absurd (omega arith)

module _ {s n : ℕ} {row : Row} (d : Drawing s row n) where
  pub room-long : (blank room : List ℕ) → length blank ≡ longest → room ≡ front (strip_of s (take row.len row.codes)) blank → length room ≡ longest
  room-long blank room b t =
      ap length t ∙ length-append (strip_of s (take row.len row.codes)) _
      ∙ rw (length-drop (length (strip_of s (take row.len row.codes))) blank, d.count, b) (omega (arith, d.within))

  pub too_short : (out : List ℕ) → length out < n → (Err (ShortForStrip (element_count n)) ≡ laid_of s (chars_of row) (length out)) × (out ≡ laid_in s (chars_of row) out)
  unfolding laid_of laid_in
  too_short out k =
      let t : ltb (length out) (elements_of s (length (chars_of row))) ≡ true = lt-ltb (length out) _ (omega (arith, d.number)) in
      (rw (t, ← d.number) refl, rw t refl)

  pub laid : (out blank room next : List ℕ) (m : ℕ) → n ≤ length out → m ≡ modules_within s row → length room ≡ longest
      → room ≡ front (strip_of s (take row.len row.codes)) blank → next ≡ take n room ++ drop n out
      → (Ok (element_count n, module_count m) ≡ laid_of s (chars_of row) (length out)) × (next ≡ laid_in s (chars_of row) out)
  unfolding laid_of laid_in modules_within
  laid out blank room next m k w l t f =
      let u : m ≡ modules_of s (chars_of row) = rw (le-leb row.len places d.few) at w ∙ ap (modules_of s) (sym d.held) in
      let a : take n room ≡ strip_of s (chars_of row)
      = ap (take n) t ∙ take_at (strip_of s (take row.len row.codes)) _ n d.count ∙ ap (strip_of s) (sym d.held) in
      let c : next ≡ strip_of s (chars_of row) ++ drop n out = rw a at f in
      let z : ltb (length out) (elements_of s (length (chars_of row))) ≡ false = le-ltb (length out) _ (omega (arith, d.number)) in
      (rw (z, ← d.number, u) refl, rw (z, ← d.number) c)
