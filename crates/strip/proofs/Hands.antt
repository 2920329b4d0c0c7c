-- Reading's returns: an answer handed on, or a row's data handed back.
--
--   with_total                 the bytes handed back, with a total
--   handed-on                  12, 7 or 8, or the data and the strip's modules
--   read-away, read-over       1, 2, 9, 10 or 11 handed on; what became of the row that was seen
--
-- Assumes nothing.
use Rattle.std.proofs.Common.{Result, Ok, Err, ◌≡◌, refl, sym, ap, ◌∙◌, Bool, true, false, List, ℕ, ◌≤◌, arith, ltb, length, le-leb}
use Rattle.laws.specs.Search.{pick}
use Rattle.laws.specs.Elements.{sum}
use Rattle.words.specs.declared.Bytes.{Bytes}
use Rattle.words.specs.declared.Modules.{Modules}
use Rattle.words.specs.declared.Answer.{Answer}
use Rattle.words.specs.Order.{Outcome, gives, turned, module_count}
use Rattle.words.proofs.Order.{first-turned}
use Rattle.symbologies.specs.Sizes.{places}
use Rattle.symbologies.specs.Symbologies.{symbology_of}
use Rattle.symbologies.specs.Rows.{data_read, data_checks, data_of}
use Rattle.symbologies.specs.Strips.{row_read, seen_checks, row_seen}
use Rattle.symbologies.specs.Told.{Rowed, row_in, told, modules_within}
use Rattle.symbologies.proofs.Held.{take-pad}
use Rattle.symbologies.proofs.Ready.{ready-counted}
use Rattle.symbologies.proofs.Counted.{counted-few}
use Rattle.symbologies.proofs.Exact.{seen-drawn, seen-modules}
use Rattle.data.specs.Held.{data_of_row, handed_of, written}
use Rattle.strip.specs.Drawing.{Call}
use Rattle.strip.specs.Reading.{data_seen, read_strip, answer_for}
use Rattle.strip.proofs.Requests.{seen_as, read-given, read-turned}

-- ---- the data of a row

-- the bytes handed back, with a total
abbrev pub with_total : Result Bytes Answer → ℕ → Result (Bytes × Modules) Answer
with_total (Ok n) total = Ok (n, module_count total)
with_total (Err a) total = Err a

pick-answer : (b : Bool) (x y : Result Bytes Answer) (total : ℕ) (p q : Call) → answer_for (with_total x total) ≡ p.answer → answer_for (with_total y total) ≡ q.answer
    → answer_for (with_total (pick b x y) total) ≡ (pick b p q).answer
pick-answer true x y total p q e f = e
pick-answer false x y total p q e f = f

pick-buffer : (b : Bool) (x y : List ℕ) (p q : Call) → x ≡ p.buffer → y ≡ q.buffer → pick b x y ≡ (pick b p q).buffer
pick-buffer true x y p q e f = e
pick-buffer false x y p q e f = f

handed-on : (s m : ℕ) (t out : List ℕ) (o : Outcome) → data_seen s m t ≡ o
    → (answer_for (with_total (handed_of o (length out)) (sum t)) ≡ (read_strip s m t out).answer) × (written o out ≡ (read_strip s m t out).buffer)
handed-on s m t out (gives d) e =
    rw (read-given s m t out d e) (pick-answer (ltb (length out) (length d)) _ _ (sum t) _ _ refl refl, pick-buffer (ltb (length out) (length d)) _ _ _ _ refl refl)
handed-on s m t out (turned a) e = rw (read-turned s m t out a e) (refl, refl)

-- ---- the row that was seen

seen-away : (s m : ℕ) (t : List ℕ) (a : Answer) → row_seen s m t ≡ turned a → data_seen s m t ≡ turned a
unfolding row_seen data_seen
seen-away s m t a e = first-turned turned (seen_checks s m t) (data_checks (symbology_of s) m (row_read s t)) (row_read s t) a (gives (data_read (symbology_of s) m (row_read s t))) e

seen_few : (s m : ℕ) (t r : List ℕ) → row_seen s m t ≡ gives r → length r ≤ places
seen_few s m t r e = counted-few s (length r) (ready-counted s r (seen-drawn s m t r e).0)

held-data : (s m : ℕ) (r : List ℕ) → length r ≤ places → data_of_row s m (row_in r) ≡ data_of s m r
unfolding data_of_row data_of
held-data s m r h = rw (take-pad places r h)

held-modules : (s m : ℕ) (t r : List ℕ) → row_seen s m t ≡ gives r → modules_within s (row_in r) ≡ sum t
unfolding modules_within
held-modules s m t r e = let h : length r ≤ places = seen_few s m t r e in rw (le-leb (length r) places h, take-pad places r h) (seen-modules s m t r e)

module _ (s m : ℕ) (t out : List ℕ) (x : Rowed) (e : x ≡ told (row_seen s m t)) where
  pub read-away : (a : Answer) → x.verdict ≡ Err a → (a ≡ (read_strip s m t out).answer) × (out ≡ (read_strip s m t out).buffer)
  read-away a v = go (row_seen s m t) refl e
    where
      go : (z : Outcome) → row_seen s m t ≡ z → x ≡ told z → (a ≡ (read_strip s m t out).answer) × (out ≡ (read_strip s m t out).buffer)
      go (gives r) w q = absurd (let u : Ok (tt {0}) ≡ Err a = sym (ap (λ (y : Rowed). y.verdict) q) ∙ v in let z : ◌≡◌ {A = ℕ} 0 1 = cc in omega arith)
      go (turned b) w q =
          let u : Err b ≡ Err a = sym (ap (λ (y : Rowed). y.verdict) q) ∙ v in
          let c : b ≡ a = cc in
          rw (read-turned s m t out b (seen-away s m t b w)) (sym c, refl)

  pub read-over : x.verdict ≡ Ok (tt {0}) → (h : Result Bytes Answer) (next : List ℕ) → h ≡ handed_of (data_of_row s m x.row) (length out)
      → next ≡ written (data_of_row s m x.row) out → (answer_for (with_total h (modules_within s x.row)) ≡ (read_strip s m t out).answer) × (next ≡ (read_strip s m t out).buffer)
  read-over v h next f g = go (row_seen s m t) refl e
    where
      go : (z : Outcome) → row_seen s m t ≡ z → x ≡ told z → (answer_for (with_total h (modules_within s x.row)) ≡ (read_strip s m t out).answer) × (next ≡ (read_strip s m t out).buffer)
      go (turned b) w q = absurd (let u : Err b ≡ Ok (tt {0}) = sym (ap (λ (y : Rowed). y.verdict) q) ∙ v in let z : ◌≡◌ {A = ℕ} 0 1 = cc in omega arith)
      go (gives r) w q =
          let k : x.row ≡ row_in r = ap (λ (y : Rowed). y.row) q in
          let d : data_of_row s m x.row ≡ data_seen s m t = ap (data_of_row s m) k ∙ held-data s m r (seen_few s m t r w) ∙ sym (seen_as s m t r w) in
          let n : modules_within s x.row ≡ sum t = ap (modules_within s) k ∙ held-modules s m t r w in
          let o = handed-on s m t out (data_seen s m t) refl in
          (rw (f, d, n) o.0, (rw d at g) ∙ o.1)
