-- Before a step there are few packets and few records.
use Rattle.std.proofs.Common.{◌≡◌, ℕ, ◌<◌, ◌^◌, Bool, true, false, cond, nat_le, Option, Some, None, refl, arith}
use Rattle.std.proofs.lemmas.Bool.Decides.{nat_tests}
use Rattle.lard_law_view.specs.Prelude.{What, limit_of}
use Rattle.lard_rules.specs.declared.fault.What.TheVariants.{Answers, PacketBytes, Packets, Records}

-- ---- limits

-- before a step there are few packets and records
pub few-before : (packets bytes records answered : ℕ) → limit_of packets bytes records answered ≡ None → (packets < 1000000) × (records < 4000000)
few-before packets bytes records answered e = go (nat_le 1000000 packets) refl (nat_le (2 ^ 29) bytes) (nat_le 4000000 records) refl (nat_le (2 ^ 29) answered) e where
  go : (p : Bool) → nat_le 1000000 packets ≡ p → (b r : Bool) → nat_le 4000000 records ≡ r → (a : Bool)
      → cond {A = Option What} p (Some Packets) (cond b (Some PacketBytes) (cond r (Some Records) (cond a (Some Answers) None))) ≡ None → (packets < 1000000) × (records < 4000000)
  go true i b r j a e = cc
  go false i true r j a e = cc
  go false i false true j a e = cc
  go false i false false j a e = (grind (arith, nat_tests, i), grind (arith, nat_tests, j))
