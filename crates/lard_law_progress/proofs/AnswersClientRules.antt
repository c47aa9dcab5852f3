-- What a client's rules owe of the packets that come to it.
use Rattle.std.proofs.Common.{◌≡◌, ◌+◌, ◌++◌, ℕ, suc, List, [], map, Some, Result, Ok, Err, refl, sym, ap, ◌∙◌, subst}
use Rattle.lard_base.specs.declared.event.Event.TheVariants as event
use Rattle.lard_law_view.specs.Prelude.{Client, ClientBlock, Conn, Front, GoesBetween, Letter, Move, Node, Place, Said, Seen, SegFault, Setting, Station, ToClient, Turn, Was, client_arrived, client_does, client_gets, client_speaks, client_timer, decoded, event_seen, letter, one_if, packet_seen, symbols, with_station}
use Rattle.lard_bound.specs.Nears.{Near, NearSegment, OfSegment}
use Rattle.lard_bound.specs.Seats.{seat_of}
use Rattle.lard_bound.specs.Spots.{Spot, spot_of}
use Rattle.lard_bound.specs.Units.{Whole}
use Rattle.lard_law_view.proofs.Turned.{between-has}
use Rattle.lard_law_progress.proofs.AnswersClientGiven.{ClientGiven, IsCluster}
use Rattle.lard_law_progress.proofs.AnswersClientReplies.{GoesOn}
use Rattle.lard_law_progress.proofs.AnswersClientTurns.{heard-answers, segments_of}
use Rattle.lard_law_progress.proofs.AnswersForm.{Owes, Replies, answers-by, no-reply, seated-is}
use Rattle.lard_law_progress.proofs.Clients.{speaks-told}

of-cluster : (c : ℕ) (from : Place) (bytes : List ℕ) → GoesBetween c from (Client c) bytes → IsCluster from
of-cluster c Front bytes h = tt
of-cluster c (Node n) bytes h = tt
of-cluster c (Client d) bytes h = h

module _ (k : Setting) (w : Whole) (x : Conn) (st : Station) (is : x.part.station ≡ Some st) where
  -- a timer fires: no packet comes
  pub fires-owes : Owes k w ClientGiven x (client_does x st (event_seen (event.Timer (Client x.c) x.c)) (client_timer st.client))
  fires-owes may after warm late lasts = tt

  module _ (from : Place) (bytes : List ℕ) (was : Was x from (Client x.c) bytes) where
    abbrev heads : List Seen
    heads = packet_seen from (Client x.c) bytes

    abbrev came : Letter
    came = record { from = from; to = Client x.c; bytes = bytes }

    abbrev given : Result Said SegFault → ClientBlock × Turn
    given r = client_gets st.client r

    abbrev after_client : Result Said SegFault → Station
    after_client r = record { client = (given r).0; iss = st.iss }

    -- behind the turn the spot tells of the client what it told before
    goes-on : (s : Said) → spot_of k.files (with_station x.part (after_client (Ok s))) (after_client (Ok s)) ≡ spot_of k.files x.part st → GoesOn st.client (client_arrived st.client s).1
    unfolding spot_of
    goes-on s same =
        let y = (client_arrived st.client s).1 in
        let told = speaks-told y in
        let ends : symbols (client_speaks y).1.send ≡ symbols y.send = λ i. 1 + told.ahead.total i + one_if (told.finished i) in
        record {
          phase = sym told.phase ∙ ap (λ (t : Spot). t.phase) same;
          una = sym told.una ∙ ap (λ (t : Spot). t.una) same;
          symbols_ = sym ends ∙ ap (λ (t : Spot). t.last) same;
        }

    abbrev does : Result Said SegFault → Move
    does r = client_does x st heads (given r)

    pub hears-owes : Owes k w ClientGiven x (client_does x st heads (given (decoded bytes x.c ToClient)))
    hears-owes = go (decoded bytes x.c ToClient) refl where
      far : (st : Station) (d : ℕ) (fault : SegFault) → decoded bytes x.c ToClient ≡ Err fault → IsCluster from → Near k.files (spot_of k.files x.part st) x.c d came → ⊥
      far st d fault e cluster near = by-place from cluster near where
        by-place : (f : Place) → IsCluster f → Near k.files (spot_of k.files x.part st) x.c d (record { from = f; to = Client x.c; bytes = bytes }) → ⊥
        by-place Front h near = subst (OfSegment (λ (s : Said). NearSegment (spot_of k.files x.part st) d s (spot_of k.files x.part st).post)) e near
        by-place (Node n) h near = subst (OfSegment (λ (s : Said). NearSegment (spot_of k.files x.part st) d s (spot_of k.files x.part st).post)) e near
        by-place (Client q) h near = h

      go : (r : Result Said SegFault) → decoded bytes x.c ToClient ≡ r → Owes k w ClientGiven x (does r)
      go (Err fault) e may after warm late lasts =
          let cluster = of-cluster x.c from bytes (between-has x.c came x.letters was may.sound.between) in
          answers-by k w x (does (Err fault)) came st (after_client (Err fault)) is refl lasts (λ up same. no-reply k.files (spot_of k.files x.part st) x.c came (λ d near. far st (suc d) fault e cluster near))
      go (Ok s) e may after warm late lasts =
          let cluster = of-cluster x.c from bytes (between-has x.c came x.letters was may.sound.between) in
          let c : st.client.c ≡ x.c = may.sound.client st is in
          let g = may.given in
          answers-by k w x (does (Ok s)) came st (after_client (Ok s)) is refl lasts (λ up same.
          let read : decoded bytes st.client.c ToClient ≡ Ok s = ap (λ n. decoded bytes n ToClient) c ∙ e in
          let h = heard-answers k.files x.part st (seat_of x.part) from cluster bytes s (g.calm st is) (g.seat st is) (g.replies st from bytes s is cluster was e) read (goes-on s same) in
          let R : ℕ → Spot → Type 0 = λ n t. Replies k.files t n (record { from = from; to = Client n; bytes = bytes }) (map (letter (Client n)) (segments_of (client_arrived st.client s)) ++ []) in
          subst (λ n. R n (spot_of k.files x.part st)) c (subst (R st.client.c) (sym (seated-is k.files x.part st)) h))

-- the rules of a client that a settle makes
pub record ClientInner (k : Setting) (P : Conn → Move → Type 0) : Type 0 where
  pub fires : (x : Conn) (s : Station) → x.part.station ≡ Some s → P x (client_does x s (event_seen (event.Timer (Client x.c) x.c)) (client_timer s.client))
  pub hears : (x : Conn) (s : Station) (from : Place) (bytes : List ℕ) → x.part.station ≡ Some s → Was x from (Client x.c) bytes
      → P x (client_does x s (packet_seen from (Client x.c) bytes) (client_gets s.client (decoded bytes x.c ToClient)))

pub client-answers : (k : Setting) (w : Whole) → ClientInner k (Owes k w ClientGiven)
client-answers k w = record {
  fires = λ x s is. fires-owes k w x s is;
  hears = λ x s from bytes is was. hears-owes k w x s is from bytes was;
}
