-- A packet comes to its place with the bytes that it shares.
use Rattle.std.proofs.Common.{◌≡◌, ℕ, List, Bool, false, cond, Some, Ok, Err, sym, ap, ◌∙◌}
use Rattle.lard_rules.specs.declared.fault.Refusal.TheVariants.{WasLost}
use Rattle.lard_rules.specs.declared.fault.StepFault.TheVariants.{Refused}
use Rattle.lard_rules.specs.declared.machine.Machine.{Machine}
use Rattle.lard_rules.specs.Machine.{delivered, to_place}
use Rattle.lard_net.specs.Net.{Packet, packet_at}

pub delivered_is : (m n : Machine) (k : ℕ) (p : Packet) (bytes : List ℕ) → Some p ≡ packet_at m.net k → p.lost ≡ false → bytes ≡ p.bytes
    → n ≡ to_place m k (record { from = p.from; to = p.to; bytes = bytes; lost = false }) p.to → delivered m k (packet_at m.net k) ≡ Ok n
unfolding delivered
delivered_is m n k p bytes at lost same is =
    let of : List ℕ → Bool → Packet = λ b l. record { from = p.from; to = p.to; bytes = b; lost = l } in
    let whole : of bytes false ≡ p = ap (λ (b : List ℕ). of b false) same ∙ ap (λ (l : Bool). of p.bytes l) (sym lost) in
    ap (delivered m k) (sym at) ∙ ap (λ (l : Bool). cond l (Err (Refused (WasLost k))) (Ok (to_place m k p p.to))) lost
    ∙ ap Ok (sym (is ∙ ap (λ (q : Packet). to_place m k q p.to) whole))
