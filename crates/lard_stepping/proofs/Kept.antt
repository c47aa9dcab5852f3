-- The packet that was sent last is found by its number.
use Rattle.std.proofs.Common.{◌≡◌, ◌+◌, ◌-◌, [], ◌∷◌, ◌++◌, length, List, ℕ, Bool, true, false, cond, nat_eq, None, Some, refl, ap, ◌∙◌, arith}
use Rattle.std.specs.Prelude.{slice_get}
use Rattle.std.proofs.lemmas.Bool.Decides.{nat_tests}
use Rattle.lard_net.specs.Net.{Packet, packet_at}

behind : (net : List Packet) (p : Packet) → slice_get (net ++ p ∷ []) (length net) ≡ Some p
behind [] p = refl
behind (q ∷ net) p = behind net p

pub last_is_kept : (net : List Packet) (p : Packet) → packet_at (net ++ p ∷ []) (length net + 1) ≡ Some p
last_is_kept net p = go (nat_eq (length net + 1) 0) (grind (arith, nat_tests)) where
  go : (b : Bool) → b ≡ false → cond b None (slice_get (net ++ p ∷ []) (length net + 1 - 1)) ≡ Some p
  go true e = absurd (cc)
  go false e = let at : length net + 1 - 1 ≡ length net = omega arith in ap (λ (k : ℕ). slice_get (net ++ p ∷ []) k) at ∙ behind net p
