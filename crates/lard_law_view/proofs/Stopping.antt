-- The front end reads until it has stopped: no request is left unread, and behind the client's FIN the cluster's follows.
use Rattle.std.proofs.Common.{◌≡◌, ℕ, Bool, true, false, cond, not, ◌&&◌, Some, None, refl, ap, ◌∙◌, sym}
use Rattle.std.proofs.lemmas.Bool.{cond_both, and_parts, not-true}
use Rattle.lard_answers.proofs.Growing.{blocks-nothing}
use Rattle.lard_law_view.specs.Prelude.{ControlBlock, HasStopped, Received, Said, Service, awaited, begins_after, blocks, bytes_taken, ends, fresh_bytes, listening, may_read, on_segment}
use Rattle.lard_law_view.proofs.EndpointStreams.{segment-takes}
use Rattle.lard_rules.proofs.Reading.{unread}

-- ---- endpoints that have stopped

-- one that discards what comes has
pub stopped-discarding : (b : ControlBlock) → b.recv.discarding ≡ true → HasStopped b
stopped-discarding b e = record { none = λ f. absurd (cc); finishes = λ f i. absurd (cc); only_then = λ f i. absurd (cc) }

-- so has one that begins
pub stopped-begun : (s : Said) (iss : ℕ) → HasStopped (listening s iss)
stopped-begun s iss = record { none = λ _. blocks-nothing; finishes = λ _ i. absurd (cc); only_then = λ _ i. absurd (cc) }

-- and one that has received and finished like one that has
pub stopped-alike : (b d : ControlBlock) → d.recv ≡ b.recv → d.send.finished ≡ b.send.finished → HasStopped b → HasStopped d
stopped-alike b d e f h =
    let keeps : d.recv.discarding ≡ b.recv.discarding = ap (λ r. r.discarding) e in
    let fin : d.recv.fin ≡ b.recv.fin = ap (λ r. r.fin) e in
    record {
      none = λ k. ap (λ r. blocks r.unread) e ∙ h.none (sym keeps ∙ k);
      finishes = λ k i. f ∙ h.finishes (sym keeps ∙ k) (sym fin ∙ i);
      only_then = λ k i. fin ∙ h.only_then (sym keeps ∙ k) (sym f ∙ i);
    }

-- one that finished, though no FIN came, discards what comes
discards-early : (b : ControlBlock) → HasStopped b → b.send.finished ≡ true → b.recv.fin ≡ false → b.recv.discarding ≡ true
discards-early b h f open_ = go b.recv.discarding refl where
  go : (t : Bool) → b.recv.discarding ≡ t → b.recv.discarding ≡ true
  go true e = e
  go false e = absurd (let fin = h.only_then e f in cc)

-- where it finished, a segment leaves it stopped
pub stopped-arrived : (b : ControlBlock) (s : Said) → (on_segment b s).1.send.finished ≡ b.send.finished → HasStopped b → (on_segment b s).1.send.finished ≡ true → HasStopped (on_segment b s).1
stopped-arrived b s same h f =
    let r = b.recv in
    let P : Received → Type 0 = λ z. HasStopped (record b { recv = z }) in
    let grown : Received = bytes_taken r (fresh_bytes r s.seq s.payload) (ends r s.seq s.payload s.flags.fin) in
    let kept : P (on_segment b s).1.recv = segment-takes P s b h
    (cond_both (begins_after s.seq (awaited r)) r (cond r.fin r grown) P (λ _. h)
    (λ _. cond_both r.fin r grown P (λ _. h) (λ open_. stopped-discarding (record b { recv = grown }) (discards-early b h (sym same ∙ f) open_)))) in
    stopped-alike (record b { recv = (on_segment b s).1.recv }) (on_segment b s).1 refl same kept

-- ---- reading

-- and has not finished
pub unfinished-there : (s : Service) → may_read s ≡ true → s.block.send.finished ≡ false
unfinished-there s may =
    let limit : Bool = elim s.over [ None ↦ true | Some total ↦ false ] in
    let rest = (and_parts (not s.block.reset) (not s.block.send.finished && limit) may).1 in
    not-true s.block.send.finished (and_parts (not s.block.send.finished) limit rest).0
