-- One packet is marked in its place.
use Rattle.std.proofs.Common.{◌≡◌, ◌-◌, ◌<◌, ◌^◌, length, ℕ, List, sym, ◌∙◌, ap, subst, arith}
use Rattle.std.proofs.lemmas.List.{length-map}
use Rattle.lard_net.specs.Net.{Packet, AreSized, bytes_in, lose_at, packet_lent, packets_shown}
use Rattle.lard_net.proofs.Packets.{lost_bytes, lost_is, lost_length, lost_sized}
use Rattle.lard_net.proofs.net.Net.lose.Goals as goal

-- what holds of the packets, whichever field was set
pub invariant_of-self : goal.invariant_of-self
invariant_of-self c =
    let ps : List Packet = packets_shown c.self.inside.packets.items in
    let k : length (packets_shown c.self.inside.packets.items) ≡ length c.self.inside.packets.items = length-map c.self.inside.packets.items packet_lent in
    let v : length (packets_shown c.self.inside.packets.items) ≡ length c.args.self.now = ap length c.self.view_is in
    let i : c.args.k - 1 < length c.self.inside.packets.items = omega (arith, k, v, c.requires.sent) in
    let t : List Packet → Type 0 = λ (qs : List Packet). AreSized qs × (c.self.inside.bytes ≡ bytes_in qs) × (length qs < 2 ^ 32) in
    let l : length (lose_at (c.args.k - 1) ps) ≡ length ps = lost_length (c.args.k - 1) ps in
    let b : length (lose_at (c.args.k - 1) ps) < 2 ^ 32 = subst (λ (n : ℕ). n < 2 ^ 32) (sym l) c.self.invariant.2 in
    subst t (sym (lost_is c.self.inside.packets.items (c.args.k - 1) c.index_mut.result.now i c.index_mut.ensures.value))
    (lost_sized (c.args.k - 1) ps c.self.invariant.0, c.self.invariant.1 ∙ sym (lost_bytes (c.args.k - 1) ps), b)

pub returns : goal.returns
returns c =
    let k : length (packets_shown c.self.inside.packets.items) ≡ length c.self.inside.packets.items = length-map c.self.inside.packets.items packet_lent in
    let v : length (packets_shown c.self.inside.packets.items) ≡ length c.args.self.now = ap length c.self.view_is in
    let i : c.args.k - 1 < length c.self.inside.packets.items = omega (arith, k, v, c.requires.sent) in
    lost_is c.self.inside.packets.items (c.args.k - 1) c.index_mut.result.now i c.index_mut.ensures.value
    ∙ ap (lose_at (c.args.k - 1)) c.self.view_is
