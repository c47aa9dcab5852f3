-- The sum of all bytes fits, and the packet goes last.
use Rattle.std.proofs.Common.{◌≡◌, ◌<◌, ◌≤◌, ◌+◌, ◌-◌, ◌*◌, ◌^◌, ◌++◌, ◌∷◌, [], false, arith, length, ℕ, List, sym, ap, subst, ◌∙◌}
use Rattle.std.proofs.lemmas.List.{length-append, map-append}
use Rattle.std.proofs.lemmas.Grind.{common_steps}
use Rattle.lard_net.specs.Net.{Packet, AreSized, bytes_in, packet_lent, packets_shown}
use Rattle.lard_net.proofs.Packets.{bytes_bounded, bytes_pushed, sized_pushed, most}
use Rattle.lard_net.proofs.net.Net.send.Goals as goal

pub overflow_add-self : goal.overflow_add-self
overflow_add-self c =
    let b : bytes_in (packets_shown c.self.inside.packets.items) ≤ 2 ^ 21 * length (packets_shown c.self.inside.packets.items) = bytes_bounded (packets_shown c.self.inside.packets.items) c.self.invariant.0 in
    let one : length c.args.bytes ≤ 2 ^ 21 = let h = c.requires.sized.0 in omega (arith, h, most c.args.from) in
    grind (arith, common_steps, b, one, c.self.invariant.1, c.self.invariant.2, c.len-len.ensures)

pub invariant_of-self-2 : goal.invariant_of-self-2
invariant_of-self-2 c =
    let ps : List Packet = packets_shown c.self.inside.packets.items in
    let p : Packet = record { from = c.args.from; to = c.args.to; bytes = c.args.bytes; lost = false } in
    let kept : c.in_ok-bytes.bytes ≡ c.args.bytes = c.in_ok-bytes.ensures ∙ c.as_slice.ensures in
    let new : packets_shown c.push.new.self.items ≡ ps ++ p ∷ [] =
    ap packets_shown c.in_ok-push.ensures.items ∙ map-append packet_lent c.self.inside.packets.items (record { from = c.args.from; to = c.args.to; bytes = c.in_ok-bytes.bytes; lost = false } ∷ [])
    ∙ ap (λ (bytes : List ℕ). ps ++ record { from = c.args.from; to = c.args.to; bytes = bytes; lost = false } ∷ []) kept in
    let room : length ps < 2 ^ 32 - 1 = subst (λ (qs : List Packet). length qs < 2 ^ 32 - 1) (sym c.self.view_is) c.requires.room in
    let count = length-append ps (p ∷ []) in
    let all = bytes_pushed ps p in
    let t : List Packet → Type 0 = λ (qs : List Packet). AreSized qs × (c.self.inside.bytes + c.len-len.result ≡ bytes_in qs) × (length qs < 2 ^ 32) in
    subst t (sym new) (sized_pushed ps p c.self.invariant.0 c.requires.sized, omega (arith, all, c.self.invariant.1, c.len-len.ensures), omega (arith, count, room))
