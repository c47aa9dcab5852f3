-- What a segment of the client makes of the front end's endpoint: no more is acknowledged than the client took, a reset
-- is the client's, and what was taken grows.
use Rattle.std.proofs.Common.{◌≡◌, ◌≤◌, ◌<◌, ◌^◌, ℕ, Bool, true, cond, List, arith, ap}
use Rattle.std.proofs.lemmas.Bool.{cond_both}
use Rattle.lard_law_view.specs.Prelude.{ControlBlock, Received, Said, after_ack, arrived, awaited, begins_after, bytes_taken, ends, fresh_bytes, on_segment, one_if, seq_offset}
use Rattle.lard_law_view.proofs.EndpointStreams.{segment-takes}
use Rattle.lard_law_view.proofs.Acknowledging.{ack-moves, acks-offset}
use Rattle.lard_law_view.proofs.Acked.{WordMay, heard_by}
use Rattle.lard_rules.proofs.Hearing.{Counts, segment-keeps}

-- no more is acknowledged than so much, and the peer reset the connection only where it aborted
abbrev pub Holds : ℕ → Bool → ControlBlock → Type 0
Holds most aborted b = (b.send.una ≤ most) × (b.reset ≡ true → aborted ≡ true)

-- ---- a segment arrives

-- one of a client that took so much: its ACK moves UNA, by what it acknowledges, and its RST resets, where the client aborted
pub arrival-holds : (first most : ℕ) (aborted : Bool) (b : ControlBlock) (s : Said) → first < 2 ^ 32 → first ≡ b.send.iss → Holds most aborted b → WordMay first most aborted s
    → Holds most aborted (on_segment b s).1
arrival-holds first most aborted b s fits e h may =
    segment-keeps b s (Holds most aborted) (record {
      rests = λ owed. h;
      resets = λ t. (h.0, λ r. may.resets t);
      acks = λ owed c. (moved c, h.1);
      comes = λ c some. (moved c, h.1);
    })
  where
    moved : Counts s b.send → (after_ack b.send s.ack s.seq s.wnd).una ≤ most
    moved c =
        let least = acks-offset first most s.ack fits (may.acks c.ack) in
        let same = ap (λ n. seq_offset s.ack n) e in
        (ack-moves most b.send s.ack s.seq s.wnd (omega arith)).1 h.0

-- ---- what is taken

-- it grows, unless all is left as it was
arrived-grows : (r : Received) (seq : ℕ) (data_ : List ℕ) (fin : Bool) → heard_by r ≤ heard_by (arrived r seq data_ fin)
arrived-grows r seq data_ fin =
    let P : Received → Type 0 = λ z. heard_by r ≤ heard_by z in
    let more : Received = bytes_taken r (fresh_bytes r seq data_) (ends r seq data_ fin) in
    cond_both (begins_after seq (awaited r)) r (cond r.fin r more) P (λ _. omega arith)
    (λ _. cond_both r.fin r more P (λ _. omega arith)
    (λ t. let none : one_if r.fin ≡ 0 = ap one_if t in omega arith))

-- and so it does with any segment
pub arrival-grows : (b : ControlBlock) (s : Said) → heard_by b.recv ≤ heard_by (on_segment b s).1.recv
arrival-grows b s =
    let P : Received → Type 0 = λ z. heard_by b.recv ≤ heard_by z in
    segment-takes P s b (omega arith) (arrived-grows b.recv s.seq s.payload s.flags.fin)
