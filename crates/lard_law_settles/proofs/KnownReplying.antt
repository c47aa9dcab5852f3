-- What a segment of the cluster says that comes to the client, by the laws of bytes and of acknowledgements.
use Rattle.std.proofs.Common.{◌≡◌, ◌<◌, ◌≤◌, ◌^◌, ◌==◌, ℕ, true, false, List, length, Ok, ap, subst, arith}
use Rattle.lard_law_view.specs.Prelude.{Client, Conn, FilesAt, Front, IsStream, Letter, Node, Place, Said, Station, Talk, ToClient, Verdict, Was, decoded, one_if, seq_offset, spelled, symbols}
use Rattle.lard_bound.specs.Seats.{SeatNow, seat_of}
use Rattle.lard_bound.specs.Units.{symbols_taken}
use Rattle.lard_client.specs.declared.phase.Phase.TheVariants.{Open}
use Rattle.lard_laws.specs.Acks.{LetterActs, OpenActs, ReplyActs, bounds_of}
use Rattle.lard_law_connections.specs.BytesAgreement.{IsFair, IsOpen}
use Rattle.lard_law_connections.proofs.PlacesFrontRules.{has-each}
use Rattle.lard_law_settles.proofs.KnownSegments.{acks-most, bytes-within, read-is, symbols-within}
use Rattle.lard_law_settles.proofs.KnownForwarded.{Refuses}
use Rattle.lard_law_view.specs.Agreement as agreement
use Rattle.lard_law_view.proofs.Acked.{ReplyMay}
use Rattle.lard_law_progress.proofs.AnswersClientGiven.{IsReply, Matters, IsCluster}
use Rattle.lard_law_progress.proofs.AnswersClientHears.{took-taken}

-- Beside the two laws: no more of the client's was taken than it has, all of which it sent once it is established; only one that is
-- established took the FIN; before that its SYN is what is acknowledged; and a refusal has the number of what was acknowledged.
pub record MayReply (st : Station) (z : SeatNow) (heard : ℕ) (s : Said) : Type 0 where
  pub heard_most : st.client.phase ≡ Open → Matters z → heard ≤ symbols st.client.send
  pub all : st.client.phase ≡ Open → (st.client.send.una == 0) ≡ false → symbols st.client.send ≤ st.client.send.nxt
  pub few : symbols st.client.send < 2 ^ 32
  pub begun : st.client.eof ≡ true → (st.client.send.una == 0) ≡ false
  pub greets : st.client.phase ≡ Open → st.client.send.una ≡ 0 → s.flags.ack ≡ true → seq_offset s.ack st.client.send.iss ≡ 1
  pub refuses : Refuses st.iss (symbols_taken st.client) s

module _ (files : FilesAt) (x : Conn) (st : Station) (k : Talk) (pend : List Verdict) (o : IsOpen files x k pend st) (acts : OpenActs x st) where
  out-stream : IsStream k.out
  out-stream = record { number = o.says.number; most = o.says.most }

  pub reply-is : (s : Said) → agreement.IsReply k.w k.out k.was_reset s → ReplyMay st.client.send.iss acts.heard s → MayReply st (seat_of x.part) acts.heard s → IsReply st st.client (seat_of x.part) s
  reply-is s law may beside =
      let first : k.out.first ≡ st.iss = o.begins in
      let off : seq_offset s.seq k.out.first ≡ seq_offset s.seq st.iss = ap (seq_offset s.seq) first in record {
        ack_small = law.sendable.ack_fits;
        seq_small = law.sendable.seq_fits;
        greets = beside.greets;
        acks = λ open_ established matters acks.
            let h : acts.heard ≤ symbols st.client.send = beside.heard_most open_ matters in
            let f : symbols st.client.send < 2 ^ 32 = beside.few in
            let a = beside.all open_ established in
            let m = acks-most st.client.send.iss acts.heard s.ack o.client.speaks.number (omega (arith, h, f)) (may acks) in
            omega (arith, m, h, a);
        most = λ rst syn some. let h = bytes-within k.out out-stream s law.true_of syn some in omega (arith, h, off);
        last = λ rst eof some.
            let h = symbols-within k.out out-stream s law.true_of some in
            let f = o.client.accepts.final eof in
            let all : st.client.accepted ≡ length k.out.bytes = f.0 in
            let ended : one_if k.out.ended ≡ 1 = ap one_if f.1 in
            let one : one_if st.client.eof ≡ 1 = ap one_if eof in
            let t = took-taken st.client (beside.begun eof) in
            omega (arith, h, off, all, ended, one, t);
        refuses = beside.refuses;
      }

  -- one that was sent to it
  pub replies : (from : Place) (bytes : List ℕ) (s : Said) → IsCluster from → Was x from (Client x.c) bytes → decoded bytes x.c ToClient ≡ Ok s → MayReply st (seat_of x.part) acts.heard s → IsReply st st.client (seat_of x.part) s
  replies from bytes s cluster was read beside = by-place from cluster was where
    law : (f : Place) → IsCluster f → IsFair k x.c x.part (record { from = f; to = Client x.c; bytes = bytes }) → (said : Said) × (bytes ≡ spelled x.c ToClient said) × agreement.IsReply k.w k.out k.was_reset said
    law Front h fair = fair
    law (Node n) h fair = fair
    law (Client d) h fair = absurd h

    act : (f : Place) → IsCluster f → LetterActs x.c (bounds_of x st acts.heard) x.part (record { from = f; to = Client x.c; bytes = bytes }) → ReplyActs x.c (bounds_of x st acts.heard) bytes
    act Front h may = may
    act (Node n) h may = may
    act (Client d) h may = absurd h

    by-place : (f : Place) → IsCluster f → Was x f (Client x.c) bytes → IsReply st st.client (seat_of x.part) s
    by-place f h was =
        let l : Letter = record { from = f; to = Client x.c; bytes = bytes } in
        let fair = law f h (has-each (IsFair k x.c x.part) l x.letters was o.fair) in
        let may = act f h (has-each (LetterActs x.c (bounds_of x st acts.heard) x.part) l x.letters was acts.within.packets) s read in
        let same : fair.0 ≡ s = read-is x.c ToClient bytes fair.0 s fair.1 fair.2.sendable read in
        reply-is s (subst (agreement.IsReply k.w k.out k.was_reset) same fair.2) may beside
