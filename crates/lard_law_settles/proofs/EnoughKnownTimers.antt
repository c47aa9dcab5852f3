-- What the timers of a settle rest on is so of each connection of each machine within.
use Rattle.std.proofs.Common.{◌≡◌, ◌==◌, ℕ, true, false, List, Option, Some, refl, subst, Ok}
use Rattle.lard_law_view.specs.Prelude.{ClientBlock, Config, Conn, ControlBlock, IsConnNumber, IsConnSound, IsReached, Machine, Reason, Setting, Station, config_check, conn, file_at, setting, tale_at, which_leave, with_leaving}
use Rattle.lard_base.specs.declared.place.Reason.TheVariants as reason
use Rattle.lard_bound.specs.Seats.{Over, seat_of}
use Rattle.lard_bound.specs.Units.{Whole}
use Rattle.lard_client.specs.declared.phase.Phase.TheVariants as phase
use Rattle.lard_law_connections.specs.BytesAgreement.{ConnAgrees, IsOpen}
use Rattle.lard_law_connections.proofs.BytesRuns.{states-truthful}
use Rattle.lard_laws.proofs.RecordsHolding.{Holds}
use Rattle.lard_laws.proofs.RecordsNamed.{AreNamed}
use Rattle.lard_law_view.proofs.Carried.{reached-viewed}
use Rattle.lard_law_settles.proofs.CourseTimingHeld.{IsSpeaking}
use Rattle.lard_law_settles.proofs.CourseTimingRules.{KnowsTimers, TimersKnown}
use Rattle.lard_handoff_front.specs.declared.row.FrontConn.TheVariants as stage
use Rattle.lard_law_settles.proofs.KnownAborts.{AbortedIsOver, each-aborted}
use Rattle.lard_law_settles.proofs.KnownRuns.{OpenActs, StationActs, connections-ack, number-of, story_at}
use Rattle.lard_law_settles.proofs.KnownTimed.{Speaking, SpeaksAt, client-low, held-acks, here-acks, irs-is, iss-small, peer-aborted, seat-speaks, took-few, unborn-none}
use Rattle.lard_law_progress.proofs.AnswersClientGiven.{EndTells, SeatTells}
use Rattle.lard_law_progress.proofs.Leading.{AllGiven}
use Rattle.lard_law_progress.proofs.Seating.{seat-at}
use Rattle.lard_law_settles.proofs.EnoughRenewals.{decided-are, renews-are}

module _ (config : Config) (files : List (List ℕ × List ℕ)) (checked : config_check config ≡ Ok tt) (m : Machine) (reached : IsReached config files m) (holds : Holds m) (named : AreNamed (file_at files)) (q : ℕ)
    (free : (tale_at (conn m q)).touched ≡ false) (all : ℕ → Whole) (given : AllGiven (with_leaving (setting config files) (which_leave m)) all (conn m q)) where
  abbrev x : Conn
  x = conn m q

  abbrev k : Setting
  k = with_leaving (setting config files) (which_leave m)

  sound : IsConnSound x
  sound = (reached-viewed config files m reached).sound q

  number : (st : Station) → x.part.station ≡ Some st → IsConnNumber q
  unfolding conn
  number st at = number-of x st sound at

  speaks-so : (st : Station) (b : ControlBlock) → Speaking st b → IsSpeaking st b
  speaks-so st b s = record { open_ = s.open_; bytes = s.bytes; speaks_ = s.speaks; iss = s.iss; low = s.low; here = s.here }

  -- an open client was not aborted
  open-not : (st : Station) → x.part.station ≡ Some st → (story_at x).aborted ≡ true → st.client.phase ≡ phase.Open → ⊥
  open-not st at aborted open_ = let told = subst (λ (o : Option Station). AbortedIsOver (record x { part = record x.part { station = o } })) at (each-aborted config files m reached q free) in told aborted open_

  established : (y : ClientBlock) (r : Reason) → EndTells y r → (r ≡ reason.Peer → ⊥) → (y.send.una == 0) ≡ false
  established y reason.Closed ends no_peer = ends
  established y reason.Limit ends no_peer = ends
  established y reason.Peer ends no_peer = absurd (no_peer refl)

  one : (st : Station) → x.part.station ≡ Some st → KnowsTimers k x st
  one st at =
      let truth = states-truthful config files checked m reached q free in
      let o : IsOpen (file_at files) x truth.talk truth.pend st = subst (ConnAgrees (file_at files) x truth.talk truth.pend) at truth.agrees in
      let acts : OpenActs x st = subst (StationActs x) at (connections-ack config files checked m reached q free) in
      let speaks : SpeaksAt st (seat_of x.part) = seat-speaks (file_at files) x st truth.talk truth.pend o acts (all x.c) (given.known st at).seat in
      record {
        renews = renews-are config files checked m reached holds named q (number st at);
        timed = record {
          named = sound.client st at;
          sound = o.client.sound;
          wide = o.client.wide;
          bytes = truth.talk.w.bytes;
          speaks_ = o.client.speaks;
          low = client-low (file_at files) x st truth.talk truth.pend o acts;
          small = iss-small (file_at files) x st truth.talk truth.pend o acts;
          unborn = unborn-none (file_at files) x st truth.talk truth.pend o acts;
          held = held-acks (file_at files) x st truth.talk truth.pend o acts;
          here = here-acks (file_at files) x st truth.talk truth.pend o acts;
          decided = decided-are config files checked m reached holds named q (number st at);
          over = λ row last front closed open_.
              let no_peer : last.reason ≡ reason.Peer → ⊥ = λ why. open-not st at (peer-aborted (file_at files) x st truth.talk truth.pend o acts row last front closed why) open_ in
              let seat : seat_of x.part ≡ Over last = seat-at x.part row (stage.Closed last) front closed in
              let ends : EndTells st.client last.reason = subst (SeatTells st.client) seat (given.client.seat st at open_) in
              let est = established st.client last.reason ends no_peer in
              record { established = est; no_peer = no_peer; irs = irs-is (file_at files) x st truth.talk truth.pend o acts est; few = took-few (file_at files) x st truth.talk truth.pend o acts };
        };
        held = λ b count seat. speaks-so st b (subst (SpeaksAt st) seat speaks);
        here = λ told n e b seat. speaks-so st b (subst (SpeaksAt st) seat speaks);
        waits = λ b count seat. subst (SpeaksAt st) seat speaks;
      }

  pub timers-known : TimersKnown k x
  timers-known st at = one st at
