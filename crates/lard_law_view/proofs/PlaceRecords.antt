-- The records of segments that are sent: whose they are, that they leave who acts, and how many packets there are.
use Rattle.std.proofs.Common.{◌≡◌, ℕ, ◌+◌, ◌-◌, ◌≤◌, ◌<◌, List, [], ◌∷◌, length, Bool, true, false, cond, Some, None, inr, refl, arith, nat_eq}
use Rattle.std.proofs.lemmas.Bool.Decides.{nat_tests}
use Rattle.std.proofs.lemmas.Option.{slice_get_within}
use Rattle.std.specs.Prelude.{slice_get}
use Rattle.lard_law_view.specs.Prelude.{Packet, Place, packet_at, sent_records}
use Rattle.lard_history.proofs.Acting.{IsAt, IsInside}
use Rattle.lard_history.proofs.Each.{Each}

-- ---- notes, segments, timers

pub sents-at : (k : ℕ) (p : Place) (ss : List (Place × List ℕ)) → Each (IsAt p) (sent_records k p ss)
sents-at k p [] = tt
sents-at k p (s ∷ ss) = (inr refl, sents-at (k + 1) p ss)

-- ---- records that leave who acts

above : (j k : ℕ) → k < j → nat_eq j k ≡ false
above j k h = grind (arith, nat_tests, h)

pub sents-inside : (k j : ℕ) (p : Place) (ss : List (Place × List ℕ)) → k < j → Each (IsInside k) (sent_records j p ss)
sents-inside k j p [] h = tt
sents-inside k j p (s ∷ ss) h = ((refl, above j k h), sents-inside k (j + 1) p ss (omega (arith, h)))

-- the number of a packet that was sent is among theirs
pub few : (net : List Packet) (k : ℕ) (q : Packet) → packet_at net k ≡ Some q → k ≤ length net
few net k q at = go (nat_eq k 0) at where
  go : (b : Bool) → cond b None (slice_get net (k - 1)) ≡ Some q → k ≤ length net
  go true e = let no : None ≡ Some q = e in absurd cc
  go false e = let h : k - 1 < length net = slice_get_within net (k - 1) q e in omega (arith, h)
