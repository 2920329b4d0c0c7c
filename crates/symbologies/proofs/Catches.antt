-- What a check catches, for rows: one theorem for all symbologies and modes that offer a check, wherever it stands.
--
--   replaced    demand 3's last sentence: a row that reads in mode 1 or 2, the check included, with any one character replaced by another that
--               is allowed there, does not read
--   one-check   for the reader: exactly one character that is allowed at the check's place brings the weighted sum of the row to a multiple of
--               the modulus, and it is the check as document 01 words it
--
-- Assumes nothing.
use Rattle.std.proofs.Common.{◌≡◌, sym, ◌≢◌, ◌↔◌, true, List, ℕ, suc, ◌-◌, ◌%◌, ◌<◌, ◌≤◌, length, get_or, set}
use Rattle.laws.specs.Spelling.{Place}
use Rattle.laws.specs.Weigh.{dot}
use Rattle.laws.specs.Rules.{inserted, check_of, weights_of}
use Rattle.laws.proofs.Fitting.{at, fitting-at}
use Rattle.laws.proofs.Rules.{caught, one_passes}
use Rattle.symbologies.specs.Sizes.{places}
use Rattle.symbologies.specs.Limits.{offered}
use Rattle.symbologies.specs.Symbologies.{Symbology}
use Rattle.symbologies.proofs.Asked.{Checked, Proper}
use Rattle.symbologies.proofs.Undo.{Reads}
use Rattle.symbologies.proofs.Within.{row-few, enough, check-is, row_fits}

pub replaced : (y : Symbology) → Proper y → (m : ℕ) (d e r : List ℕ) (i v : ℕ) → m ≢ 0 → Reads y m d r → i < length r
    → y.allowed (at i (length r)) v ≡ true → v ≢ get_or r i 0 → Reads y m e (set r i v) → ⊥
replaced y p m d e r i v n a h k q b =
    let c : Checked y m = p.checked m a.offers n in
    caught y.rule places c.sound r i v (enough y p m d r a n) (row-few y p m d r a).1 h
    (λ o. q (sym (c.apart (at i (length r)) (get_or r i 0) v (fitting-at y.allowed r i (row_fits y p m d r a) h) k o)))
    (check-is y p m d r a n) (check-is y p m e (set r i v) b n)

pub one-check : (y : Symbology) → Proper y → (m : ℕ) → offered y.limits m ≡ true → m ≢ 0 → (h : List ℕ) (p : Place) (x : ℕ) → y.rule.behind ≤ length h
    → y.allowed p x ≡ true → y.allowed p (check_of y.rule h) ≡ true
    → (dot (weights_of y.rule (suc (length h))) (inserted (length h - y.rule.behind) x h) % y.rule.modulus ≡ 0) ↔ (x ≡ check_of y.rule h)
one-check y q m o n h p x b a c = one_passes y.rule places (q.checked m o n).sound h x (y.allowed p) b ((q.checked m o n).apart p) a c
