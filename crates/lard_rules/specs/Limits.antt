-- The limits of a run, which are looked at before each step.
use Rattle.std.specs.Prelude.{ℕ, nat_le, if◌then◌else◌, Option, Some, None}
use Rattle.lard_base.specs.declared.limits.TheConstants.{MAX_PACKET_BYTES, MAX_PACKETS, MAX_RECORDS, MAX_RESPONSE_BYTES}
use Rattle.lard_rules.specs.declared.fault.What.{What}
use Rattle.lard_rules.specs.declared.fault.What.TheVariants.{Packets, PacketBytes, Records, Answers}

-- the first limit that was reached
abbrev pub limit_of : ℕ → ℕ → ℕ → ℕ → Option What
limit_of packets bytes records answered =
    if nat_le MAX_PACKETS packets then Some Packets else
    if nat_le MAX_PACKET_BYTES bytes then Some PacketBytes else
    if nat_le MAX_RECORDS records then Some Records else
    if nat_le MAX_RESPONSE_BYTES answered then Some Answers else
    None
