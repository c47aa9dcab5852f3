use Rattle.std.proofs.Common.{◌≡◌, ℕ, ◌+◌, ◌%◌, ◌^◌, ◌≤◌, true, false, List, [], ◌∷◌, None, Some, Ok, refl, sym, ap, subst, ◌∙◌, arith}
use Rattle.std.specs.Prelude.{codes, drop, slice_index, take}
use Rattle.lard_law_view.specs.Prelude.{Client, Front, IsPartAt, Numbers, Packet, Said, ToClient, decoded, packet_at}
use Rattle.lard_refusals.specs.Packets.{acknowledgement, two_bytes}
use Rattle.lard_refusals.proofs.Segments.{acknowledgement-decodes, acknowledgement_says, same-numbers, same-said, two-bytes-decode, two_bytes_say}
use Rattle.lard_refusals.proofs.clients.takers_refuses.Goals as goal

pub returns-clause-accepts_out_of_nothing : goal.returns-clause-accepts_out_of_nothing
returns-clause-accepts_out_of_nothing c h = let e : None ≡ Some h.1.0.0.number = h.1.0.0.last in cc

-- the first packet went from the front end to client 1, with these bytes
abbrev letter : List ℕ → Packet
letter bytes = record { from = Front; to = Client 1; bytes = bytes; lost = false }

-- what the client got says what that packet says, where it was delivered last
got : (net : List Packet) (bytes : List ℕ) (says : Said) (number : ℕ) (packet : Packet) (said : Said)
    → packet_at net 1 ≡ Some (letter bytes) → decoded bytes 1 ToClient ≡ Ok says
    → Some 1 ≡ Some number → packet_at net number ≡ Some packet → decoded packet.bytes 1 ToClient ≡ Ok said → said ≡ says
got net bytes says number packet said there reads last sent decodes =
    let one : 1 ≡ number = cc in
    let first : packet_at net 1 ≡ Some packet = subst (λ (n : ℕ). packet_at net n ≡ Some packet) (sym one) sent in
    let same : letter bytes ≡ packet = cc in
    same-said (subst (λ (p : Packet). decoded p.bytes 1 ToClient ≡ Ok said) (sym same) decodes) reads

pub returns-clause-accepts_other_bytes : goal.returns-clause-accepts_other_bytes
returns-clause-accepts_other_bytes c h =
    let takes = h.1.1.1.0 in
    let g = takes.0 in
    let from : ℕ = takes.1 in
    let says : g.said ≡ two_bytes_say = got (letter two_bytes ∷ []) two_bytes two_bytes_say g.number g.packet g.said refl two-bytes-decode g.last g.sent g.decodes in
    let part = subst (λ (s : Said). IsPartAt from (codes "HX") s.payload) says takes.3 in
    let within : from + 2 ≤ 2 = part.within in
    let start : from ≡ 0 = omega arith in
    let same : take 2 (drop 0 (codes "HT")) ≡ codes "HX" = subst (λ (n : ℕ). take 2 (drop n (codes "HT")) ≡ codes "HX") start part.same in
    let letters : ◌≡◌ {A = ℕ} 84 88 = ap (λ (bytes : List ℕ). slice_index bytes 1) same in
    omega arith

-- the client got the segment of two bytes
module _ (number : ℕ) (packet : Packet) (said : Said) (iss from : ℕ) (last : Some 1 ≡ Some number) (sent : packet_at (letter two_bytes ∷ []) number ≡ Some packet) (decodes : decoded packet.bytes 1 ToClient ≡ Ok said)
    (first : iss ≡ 5000) where
  says : said ≡ two_bytes_say
  says = got (letter two_bytes ∷ []) two_bytes two_bytes_say number packet said refl two-bytes-decode last sent decodes

  -- so many bytes behind the cluster's SYN
  place : (n : ℕ) → (said.seq + from) % 2 ^ 32 ≡ (iss + n) % 2 ^ 32 → (5001 + from) % 2 ^ 32 ≡ (5000 + n) % 2 ^ 32
  place n next =
      let seq : said.seq ≡ 5001 = ap (λ (s : Said). s.seq) says in
      ap (λ (k : ℕ). (k + from) % 2 ^ 32) (sym seq) ∙ next ∙ ap (λ (k : ℕ). (k + n) % 2 ^ 32) first

  -- behind both there are no two more
  twice : (said.seq + from) % 2 ^ 32 ≡ (iss + 3) % 2 ^ 32 → IsPartAt from (codes "HT") said.payload → ⊥
  twice next part =
      let plain : (5001 + from) % 2 ^ 32 ≡ 5003 = place 3 next in
      let within : from + 2 ≤ 2 = (subst (λ (s : Said). IsPartAt from (codes "HT") s.payload) says part).within in
      omega arith

  -- and the second of them is not the first
  late : (said.seq + from) % 2 ^ 32 ≡ (iss + 1) % 2 ^ 32 → IsPartAt from (codes "T") said.payload → ⊥
  late next part =
      let plain : (5001 + from) % 2 ^ 32 ≡ 5001 = place 1 next in
      let there = subst (λ (s : Said). IsPartAt from (codes "T") s.payload) says part in
      let within : from + 1 ≤ 2 = there.within in
      let start : from ≡ 0 = omega arith in
      let same : take 1 (drop 0 (codes "HT")) ≡ codes "T" = subst (λ (n : ℕ). take 1 (drop n (codes "HT")) ≡ codes "T") start there.same in
      let letters : ◌≡◌ {A = ℕ} 72 84 = ap (λ (bytes : List ℕ). slice_index bytes 0) same in
      omega arith

pub returns-clause-accepts_twice : goal.returns-clause-accepts_twice
returns-clause-accepts_twice c h =
    let takes = h.1.1.1.1.1.0 in
    let g = takes.0 in
    twice g.number g.packet g.said g.numbers.iss takes.1 g.last g.sent g.decodes (ap (λ (n : Numbers). n.iss) (same-numbers g.numbers g.opened)) takes.2 takes.3

pub returns-clause-accepts_twice_when_touched : goal.returns-clause-accepts_twice_when_touched
returns-clause-accepts_twice_when_touched c h =
    let takes = h.1.1.1.1.1.1.0 in
    let g = takes.0 in
    twice g.number g.packet g.said g.numbers.iss takes.1 g.last g.sent g.decodes (ap (λ (n : Numbers). n.iss) (same-numbers g.numbers g.opened)) takes.2 takes.3

pub returns-clause-skips_a_byte_when_touched : goal.returns-clause-skips_a_byte_when_touched
returns-clause-skips_a_byte_when_touched c h =
    let takes = h.1.1.1.1.0 in
    let g = takes.0 in
    late g.number g.packet g.said g.numbers.iss takes.1 g.last g.sent g.decodes (ap (λ (n : Numbers). n.iss) (same-numbers g.numbers g.opened)) takes.2 takes.3

pub returns-clause-ends_without_a_fin : goal.returns-clause-ends_without_a_fin
returns-clause-ends_without_a_fin c h =
    let takes = h.1.1.1.0 in
    let g = takes.0 in
    let says : g.said ≡ acknowledgement_says = got (letter acknowledgement ∷ []) acknowledgement acknowledgement_says g.number g.packet g.said refl acknowledgement-decodes g.last g.sent g.decodes in
    let e : true ≡ false = sym takes.1 ∙ ap (λ (s : Said). s.flags.fin) says in
    cc

pub returns-clause-accepts_what_came : goal.returns-clause-accepts_what_came
returns-clause-accepts_what_came c = (
  tt,
  (
    tt,
    (
      tt,
      (
        (
          record {
            number = 1;
            last = refl;
            packet = letter two_bytes;
            sent = refl;
            goal = refl;
            said = two_bytes_say;
            decodes = two-bytes-decode;
            numbers = record { isn = 1000; iss = 5000 };
            opened = refl;
          },
          0,
          refl,
          record { within = omega arith; same = refl },
          omega arith,
        ),
        tt,
      ),
    ),
  ),
)

pub returns-clause-accepts_what_came_when_touched : goal.returns-clause-accepts_what_came_when_touched
returns-clause-accepts_what_came_when_touched c = (
  tt,
  (
    tt,
    (
      tt,
      (
        tt,
        (
          (
            record {
              number = 1;
              last = refl;
              packet = letter two_bytes;
              sent = refl;
              goal = refl;
              said = two_bytes_say;
              decodes = two-bytes-decode;
              numbers = record { isn = 1000; iss = 5000 };
              opened = refl;
            },
            0,
            refl,
            record { within = omega arith; same = refl },
            omega arith,
          ),
          tt,
        ),
      ),
    ),
  ),
)
