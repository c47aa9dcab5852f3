-- While an open client is not established, the front end alone has its connection, and only its SYN is acknowledged to it.
use Rattle.std.proofs.Common.{◌≡◌, ℕ, true, List, Option, Some, None, Ok, sym, ap, ◌∙◌, subst}
use Rattle.lard_law_view.specs.Prelude.{BackRow, Client, Conn, ControlBlock, Final, Front, Letter, Node, Place, Said, Station, ToClient, Was, decoded, is_open_in, seq_offset}
use Rattle.lard_bound.specs.Seats.{Over, seat_of}
use Rattle.lard_client.specs.declared.phase.Phase.TheVariants.{Open}
use Rattle.lard_law_connections.proofs.PlacesFrontRules.{has-each}
use Rattle.lard_laws.specs.WindowsEarly.{EarlyOn, IsEarly, LetterIsEarly, RowIsFresh, StageIsFresh, StaysEarly, StaysEarlyOn}
use Rattle.lard_law_settles.proofs.KnownClientSide.{IsMet}
use Rattle.lard_law_settles.proofs.KnownSeating.{SeatHas, seat-has}
use Rattle.lard_handoff_back.specs.declared.row.BackConn.TheVariants as back
use Rattle.lard_law_progress.proofs.AnswersClientGiven.{IsCluster}
use Rattle.lard_law_progress.proofs.AnswersNodeGiven.{HasIt}

module _ (x : Conn) (st : Station) (at : x.part.station ≡ Some st) (stays : StaysEarly x) (open_ : st.client.phase ≡ Open) (una : st.client.send.una ≡ 0) where
  early : IsEarly x st
  early = subst (StaysEarlyOn x) at stays (ap is_open_in open_) una

  pub acks-first : (from : Place) (bytes : List ℕ) (s : Said) → IsCluster from → Was x from (Client x.c) bytes → decoded bytes x.c ToClient ≡ Ok s → s.flags.ack ≡ true → seq_offset s.ack st.client.send.iss ≡ 1
  acks-first from bytes s cluster was read acks =
      let l : Letter = record { from = from; to = Client x.c; bytes = bytes } in
      by-place from cluster (has-each (LetterIsEarly x.c st.client.send.iss) l x.letters was early.letters)
    where
      by-place : (f : Place) → IsCluster f → EarlyOn x.c st.client.send.iss f (Client x.c) bytes → seq_offset s.ack st.client.send.iss ≡ 1
      by-place Front c h = h s read acks
      by-place (Node n) c h = absurd h
      by-place (Client d) c h = absurd c

  pub nobody-has : (n e : ℕ) (b : ControlBlock) → HasIt x n e b → ⊥
  nobody-has n e b has = let bad : ◌≡◌ {A = Option BackRow} None (Some (record { stage = back.Here b; epoch = record { 0 = e } })) = sym (early.nodes n) ∙ has in cc

  pub goes-on : (last : Final) → seat_of x.part ≡ Over last → ⊥
  goes-on last eq =
      let has : SeatHas x.part (Over last) = subst (SeatHas x.part) eq (seat-has x.part) in
      let stage_ : StageIsFresh st.client.send.iss has.0.stage = subst (RowIsFresh st.client.send.iss) has.1 early.front in
      subst (StageIsFresh st.client.send.iss) has.2 stage_

pub met : (x : Conn) (st : Station) → x.part.station ≡ Some st → StaysEarly x → IsMet x st
met x st at stays = record {
  greets = acks-first x st at stays;
  there = nobody-has x st at stays;
  closed = λ open_ una last eq is. goes-on x st at stays open_ una last eq;
  limit = λ open_ una last eq is. goes-on x st at stays open_ una last eq;
}
