-- Ticket 2 of document 02, over the definition that `read` promises: two neighbouring drawn characters exchanged.
--
--   Exchanged     a strip of an accepted request's row, two neighbouring drawn characters of it exchanged; one, other, the two
--   Named         the symbologies that the ticket names, 1 and 4 to 9
--   digits-valid, before-valid, last-valid    the ticket's sentences: when such a strip is read
--   handed-back, turned-back                  what is handed back where it is, and how it is refused where it is not
--   full-before                               full ASCII, of which the ticket does not speak: before the check its check sees nothing either
--
-- Assumes nothing.
use Rattle.std.proofs.Common.{◌≡◌, refl, sym, ap, ◌∙◌, ◌≢◌, ◌↔◌, ◌⊎◌, inl, inr, Bool, true, false, not, List, ◌++◌, ℕ, suc, ◌-◌, ◌<◌, ◌≤◌, arith, length, get_or, take, drop, length-take-le, le-ltb, ne_eqb}
use mathlib.Core.Logic.Iff
use Rattle.std.proofs.lemmas.List.{length-map}
use Rattle.laws.specs.Search.{pick}
use Rattle.laws.specs.Elements.{sum}
use Rattle.laws.specs.Units.{Reading, found, stopped}
use Rattle.laws.specs.Rules.{passes}
use Rattle.laws.specs.Neighbours.{swapped, difference}
use Rattle.laws.proofs.Neighbours.{length-swapped, swapped_same, below-swapped}
use Rattle.laws.proofs.Spelling.{Below, unspell-short}
use Rattle.words.specs.declared.Answer.{Answer}
use Rattle.words.specs.declared.Answer.TheVariants.{HandedBack, BadCheck, NoExpansion}
use Rattle.words.specs.Said.{said_of}
use Rattle.words.specs.Order.{Outcome, gives, turned, outcome, char_place, byte_count, module_count}
use Rattle.tables.specs.Alphabet.{size, byte_of}
use Rattle.symbologies.specs.Limits.{added}
use Rattle.symbologies.specs.Symbologies.{symbology_of}
use Rattle.symbologies.specs.Rows.{wrong_at, stops, stop_at, finds, row_of, chars_read, unspelled, data_read, data_checks}
use Rattle.symbologies.specs.Strips.{strip_of}
use Rattle.symbologies.proofs.Proper.{undo, last-place}
use Rattle.symbologies.proofs.Undo.{Reads, reads}
use Rattle.symbologies.proofs.Ready.{ready-below, no-codabar, drawn-ready}
use Rattle.symbologies.proofs.Plain.{Plain, chars-front, plain-read, data-long, digits-are-plain, code39-is-plain}
use Rattle.symbologies.proofs.Exchanges.{digits-passes, before-passes, last-passes}
use Rattle.strip.specs.Bench.{chars_of}
use Rattle.strip.specs.Drawing.{Call, refused}
use Rattle.strip.specs.Reading.{data_seen, read_strip}
use Rattle.strip.proofs.Requests.{Draws, seen-data, read-given, read-turned, read-exactly, read_whole, relaid-seen}

-- the strip t is laid out anew from an accepted request's row, of which the drawn characters at `place` and behind it are exchanged; the check is
-- the last of the row
pub record Exchanged (s m : ℕ) (d t : List ℕ) : Type 0 where
  pub row : List ℕ
  pub accepted : row_of s m d ≡ gives row
  pub place : ℕ
  pub behind : suc place < length row
  pub anew : t ≡ strip_of s (swapped row place)

module _ {s m : ℕ} {d t : List ℕ} (x : Exchanged s m d t) where
  abbrev pub one : ℕ
  one = get_or x.row x.place 0

  abbrev pub other : ℕ
  other = get_or x.row (suc x.place) 0

-- the symbologies that the ticket names
abbrev pub Named : ℕ → Type 0
Named s = (s ≡ 1) ⊎ ((4 ≤ s) × (s ≤ 9))

-- the answer is 0 with the one call, and not with the other
zero_or : (b : Bool) (p q : Call) → (said_of p.answer).number ≡ 0 → (said_of q.answer).number ≢ 0 → ((said_of (pick b p q).answer).number ≡ 0) ↔ (b ≡ true)
zero_or true p q e n = (λ f. refl, λ f. e)
zero_or false p q e n = (λ f. absurd (n f), λ f. cc)

-- a test that turns away, told as one that lets on
turn : {A : Type 0} (b : Bool) (x y : A) → pick (not b) x y ≡ pick b y x
turn true x y = refl
turn false x y = refl

module _ (s m : ℕ) (d t out : List ℕ) (x : Exchanged s m d t) (n : m ≢ 0) (l : length d ≤ length out) where
  abbrev row-swapped : List ℕ
  row-swapped = swapped x.row x.place

  abbrev passing : Bool
  passing = passes (symbology_of s).rule row-swapped

  accepted-read : Reads (symbology_of s) m d x.row
  accepted-read = reads s m d x.row ((undo s m d x.row).0 x.accepted)

  long-swapped : length row-swapped ≡ length x.row
  long-swapped = length-swapped x.row x.place

  some : 0 < length row-swapped
  some = omega (arith, long-swapped, x.behind)

  row_below : Below (size (symbology_of s).alphabet) x.row
  row_below = ready-below s x.row (no-codabar s m accepted-read.offers n) (drawn-ready s m d x.row x.accepted)

  below : Below (size (symbology_of s).alphabet) row-swapped
  below = below-swapped (size (symbology_of s).alphabet) x.row x.place x.behind row_below

  abbrev wrong : Answer
  wrong = BadCheck (char_place (length x.row - 1))

  wrong-at : wrong_at (symbology_of s) row-swapped ≡ wrong
  wrong-at = let e : length row-swapped - 1 - (symbology_of s).rule.behind ≡ length x.row - 1 = omega (arith, long-swapped, last-place s) in rw e

  -- 12, 7, or the data: by what the characters spell
  abbrev judged : Reading → Outcome
  judged u = pick (stops u) (turned (NoExpansion (char_place (stop_at u)))) (pick passing (gives (finds u)) (turned wrong))

  exchanged-seen : data_seen s m t ≡ judged (unspelled (symbology_of s) m row-swapped)
  exchanged-seen =
      let e : data_seen s m t ≡ outcome (data_checks (symbology_of s) m row-swapped) (data_read (symbology_of s) m row-swapped)
      = rw x.anew (seen-data s m (strip_of s row-swapped) row-swapped (relaid-seen s m d x.row row-swapped n x.accepted long-swapped below)) in
      e ∙ rw (ne_eqb m 0 n, wrong-at, turn passing (turned wrong) (gives (data_read (symbology_of s) m row-swapped)))

  abbrev done : Call
  done = record { answer = HandedBack (byte_count (length d)) (module_count (sum t)); buffer = chars_of s (take (length d) row-swapped) ++ drop (length d) out }

  abbrev turned-away : Call
  turned-away = refused out wrong

  -- a character is a byte: the first characters, as many as the data were
  spells : Plain s → unspelled (symbology_of s) m row-swapped ≡ found (chars_of s (take (length d) row-swapped))
  spells plain =
      let k : length row-swapped - added m ≡ length d = rw long-swapped (sym (data-long s m plain d x.row (omega (arith, x.behind)) row_below accepted-read)) in
      rw (plain-read s m plain row-swapped some below, k)

  data-seen : Plain s → data_seen s m t ≡ pick passing (gives (chars_of s (take (length d) row-swapped))) (turned wrong)
  data-seen plain = exchanged-seen ∙ rw (spells plain)

  as_long : Plain s → length (chars_of s (take (length d) row-swapped)) ≡ length d
  as_long plain =
      length-map (take (length d) row-swapped) (byte_of (symbology_of s).alphabet)
      ∙ length-take-le (length d) row-swapped (omega (arith, long-swapped, data-long s m plain d x.row (omega (arith, x.behind)) row_below accepted-read))

  call : Plain s → read_strip s m t out ≡ pick passing done turned-away
  call plain = go passing (data-seen plain)
    where
      go : (b : Bool) → data_seen s m t ≡ pick b (gives (chars_of s (take (length d) row-swapped))) (turned wrong) → read_strip s m t out ≡ pick b done turned-away
      go true e = read-given s m t out _ e ∙ rw (as_long plain, le-ltb (length out) (length d) l)
      go false e = read-turned s m t out wrong e

  -- an answer is 0 exactly if the check passes
  valid : Plain s → ((said_of (read_strip s m t out).answer).number ≡ 0) ↔ (passing ≡ true)
  valid plain = rw (call plain) (zero_or passing done turned-away refl (omega arith))

  pub digits-valid : 4 ≤ s → s ≤ 9 → ((said_of (read_strip s m t out).answer).number ≡ 0) ↔ ((one x ≡ other x) ⊎ (difference (one x) (other x) ≡ 5))
  digits-valid lo hi =
      Iff.trans (valid (digits-are-plain s lo (omega arith))) (digits-passes s m d x.row n accepted-read x.place x.behind lo (omega arith))

  pub before-valid : s ≡ 1 → suc (suc x.place) < length x.row → (said_of (read_strip s m t out).answer).number ≡ 0
  before-valid e k = (valid (rw e code39-is-plain)).1 (before-passes s m d x.row n accepted-read x.place x.behind (omega arith) (omega arith) k)

  -- in full ASCII too what is read has its check
  zero-passes : (said_of (read_strip s m t out).answer).number ≡ 0 → passing ≡ true
  zero-passes e = go (unspelled (symbology_of s) m row-swapped) passing refl exchanged-seen
    where
      go : (u : Reading) (b : Bool) → passing ≡ b → data_seen s m t ≡ pick (stops u) (turned (NoExpansion (char_place (stop_at u)))) (pick b (gives (finds u)) (turned wrong)) → passing ≡ true
      go u true p f = p
      go (found c) false p f = absurd (let q = rw (read-turned s m t out wrong f) at e in omega arith)
      go (stopped i) false p f = absurd (let q = rw (read-turned s m t out (NoExpansion (char_place i)) f) at e in omega arith)

  -- and what has its check is read where it is an expansion: it has no more bytes than characters
  zero-or-12 : passing ≡ true → length x.row ≤ length out → ((said_of (read_strip s m t out).answer).number ≡ 0) ⊎ ((said_of (read_strip s m t out).answer).number ≡ 12)
  zero-or-12 p k = go (unspelled (symbology_of s) m row-swapped) refl exchanged-seen
    where
      few : (c : List ℕ) → unspelled (symbology_of s) m row-swapped ≡ found c → length c ≤ length row-swapped
      few c u =
          let h : length c ≤ length (chars_read (symbology_of s) m row-swapped) = unspell-short ((symbology_of s).coder m) (chars_read (symbology_of s) m row-swapped) c u in
          omega (arith, ap length (chars-front s m row-swapped some), length-take-le (length row-swapped - added m) row-swapped (omega arith))

      go : (u : Reading) → unspelled (symbology_of s) m row-swapped ≡ u → data_seen s m t ≡ judged u
          → ((said_of (read_strip s m t out).answer).number ≡ 0) ⊎ ((said_of (read_strip s m t out).answer).number ≡ 12)
      go (found c) u f =
          let g : data_seen s m t ≡ gives c = rw p at f in
          inl (rw (read-given s m t out c g, le-ltb (length out) (length c) (omega (arith, few c u, long-swapped))))
      go (stopped i) u f = inr (rw (read-turned s m t out (NoExpansion (char_place i)) f))

  -- and the row itself, with two equal characters exchanged, is what was accepted
  same-valid : one x ≡ other x → (said_of (read_strip s m t out).answer).number ≡ 0
  same-valid e =
      let w : Draws s m d t = record { row = x.row; accepted = x.accepted; drawing = sym (x.anew ∙ ap (strip_of s) (swapped_same x.row x.place e)) } in
      rw (read_whole s m d t out w l)

  pub last-valid : 1 ≤ s → s ≤ 2 → suc (suc x.place) ≡ length x.row → ((said_of (read_strip s m t out).answer).number ≡ 0) ↔ (one x ≡ other x)
  last-valid lo hi k = (λ e. (last-passes s m d x.row n accepted-read x.place x.behind lo (omega arith) k).0 (zero-passes e), same-valid)

  pub full-before : s ≡ 2 → suc (suc x.place) < length x.row → length x.row ≤ length out
      → ((said_of (read_strip s m t out).answer).number ≡ 0) ⊎ ((said_of (read_strip s m t out).answer).number ≡ 12)
  full-before e k = zero-or-12 (before-passes s m d x.row n accepted-read x.place x.behind (omega arith) (omega arith) k)

  -- ---- what it answers

  plain_of : Named s → Plain s
  plain_of (inl e) = rw e code39-is-plain
  plain_of (inr h) = digits-are-plain s h.0 (omega (arith, h.1))

  pub handed-back : Named s → (said_of (read_strip s m t out).answer).number ≡ 0
      → (read_strip s m t out ≡ done) × Draws s m (chars_of s (take (length d) row-swapped)) t
  handed-back a e =
      let p : passing ≡ true = (valid (plain_of a)).0 e in
      (call (plain_of a) ∙ rw p, (read-exactly s m (chars_of s (take (length d) row-swapped)) t).0 (data-seen (plain_of a) ∙ rw p))

  not-passing : (b : Bool) → (b ≡ true → ⊥) → pick b done turned-away ≡ turned-away
  not-passing true f = absurd (f refl)
  not-passing false f = refl

  pub turned-back : Named s → (said_of (read_strip s m t out).answer).number ≢ 0 → read_strip s m t out ≡ turned-away
  turned-back a f = call (plain_of a) ∙ not-passing passing (λ e. f ((valid (plain_of a)).1 e))
