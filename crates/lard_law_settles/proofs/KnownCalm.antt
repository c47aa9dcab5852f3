-- What a settle's rounds want of each machine within them, of each connection: of its client, of what comes to it, and of the Offers that are
-- kept; who opened; and how much is left to do.
use Rattle.std.proofs.Common.{◌≡◌, ◌<◌, ◌^◌, ◌&&◌, ℕ, Bool, true, false, List, [], Option, Some, None, Result, Ok, refl, sym, ap, ◌∙◌, subst}
use Rattle.lard_law_view.specs.Prelude.{Client, ClientBlock, Config, Conn, EndpointParts, Front, FrontConn, FrontRow, GoesBetween, IsClientBlock, IsReached, IsReply, Kept, Letter, Machine, Node, Place, Said, SegFault, Speaks, Station, Tale, Talk, ToClient, Verdict, Was, config_check, conn, decoded, file_at, is_holding, is_open_in, is_touched, sent_of, spelled, tale, tale_at, which_leave, wrote}
use Rattle.lard_base.proofs.Usable.{usable}
use Rattle.lard_bound.specs.Seats.{seat_of}
use Rattle.lard_bound.specs.Units.{tellers, whole_of}
use Rattle.lard_client.specs.declared.phase.Phase.TheVariants.{Open}
use Rattle.lard_law_connections.specs.BytesAgreement.{ConnAgrees, IsFair, IsFairOn, IsInner, IsOpen, IsConnUnopened}
use Rattle.lard_law_connections.proofs.BytesRuns.{states-truthful}
use Rattle.lard_law_connections.specs.Kept.{FrontRowKeeps, FrontStageKeeps}
use Rattle.lard_law_connections.proofs.KeptRuns.{connections-are-kept}
use Rattle.lard_law_connections.proofs.PlacesFrontRules.{has-each}
use Rattle.lard_law_connections.specs.Silence.{ClientHasSpoken, StationHasSpoken}
use Rattle.lard_law_connections.proofs.SilenceRuns.{connections-have-spoken}
use Rattle.lard_law_view.proofs.Turned.{between-has}
use Rattle.lard_rules.specs.Front.{message}
use Rattle.lard_handoff_front.specs.declared.row.FrontConn.TheVariants as stage
use Rattle.lard_history.proofs.Each.{Each}
use Rattle.lard_history.proofs.Lifting.{tale-own}
use Rattle.lard_history.proofs.Tales.{touched-tale, wrote-tale}
use Rattle.lard_law_settles.proofs.KnownRuns.{each-modest, view}
use Rattle.lard_message.specs.declared.message.Body.TheVariants as body
use Rattle.lard_law_progress.proofs.Most.{IsModest}
use Rattle.lard_segment.proofs.Again.{again}

-- ---- clients

-- its numbers fit, it keeps what is not acknowledged of what it wrote, and where it does not hold nothing lies in its window
pub record ClientFits (x : ClientBlock) : Type 0 where
  pub sound : IsClientBlock x
  pub fits : x.wnd < 2 ^ 16
  pub bytes : List ℕ
  pub speaks : Speaks x.send bytes
  pub held : x.holding ≡ false → x.held ≡ 0

-- one that is open and is no holder does not hold
pub open-free : (x : ClientBlock) → is_holding x ≡ false → x.phase ≡ Open → x.holding ≡ false
open-free x none open_ = go x.holding (sym (ap (λ p. is_open_in p && x.holding) open_) ∙ none) where
  go : (b : Bool) → (true && b) ≡ false → b ≡ false
  go b e = e

-- ---- Offers

-- what is sent of it is an Offer of connection c
abbrev pub IsOfferOf : ℕ → Kept → Type 0
IsOfferOf c k = (n e : ℕ) × (parts : EndpointParts) × (sent_of k ≡ (Node n, message c e (body.Offer parts)))

none-offers : (c : ℕ) (ks : List Kept) → ks ≡ [] → Each (IsOfferOf c) ks
none-offers c ks e = subst (Each (IsOfferOf c)) (sym e) tt

-- ---- openers

module _ (config : Config) (files : List (List ℕ × List ℕ)) (checked : config_check config ≡ Ok tt) (m : Machine) (reached : IsReached config files m) (q : ℕ) where
  abbrev x : Conn
  x = conn m q

  -- ---- as the journal says it

  pub its-tale : tale m.journal q ≡ tale_at x
  unfolding conn
  its-tale = tale-own m.journal q

  module _ (free : is_touched m.journal q ≡ false) where
    pub free-tale : (tale_at x).touched ≡ false
    free-tale = sym (ap (λ (t : Tale). t.touched) its-tale) ∙ sym (touched-tale m.journal q) ∙ free

    open-of : (st : Station) → x.part.station ≡ Some st → (k : Talk) × (pend : List Verdict) × IsOpen (file_at files) x k pend st
    open-of st at =
        let truth = states-truthful config files checked m reached q free-tale in
        (truth.talk, truth.pend, subst (ConnAgrees (file_at files) x truth.talk truth.pend) at truth.agrees)

    -- ---- its client

    pub client-fits : (st : Station) → x.part.station ≡ Some st → ClientFits st.client
    client-fits st at =
        let client = (open-of st at).2.client in
        let spoken : ClientHasSpoken st.client = subst StationHasSpoken at (connections-have-spoken config files (usable config checked).stream m reached q).client in
        record { sound = client.sound; fits = client.wide; bytes = (open-of st at).0.w.bytes; speaks = client.speaks; held = spoken.nothing_held }

    -- ---- what comes to it

    fair-acks : (st : Station) (k : Talk) (bytes : List ℕ) (s : Said) → ((t : Said) × (bytes ≡ spelled x.c ToClient t) × IsReply k.w k.out k.was_reset t) → decoded bytes x.c ToClient ≡ Ok s → s.ack < 2 ^ 32
    fair-acks st k bytes s fair read =
        let t : Said = fair.0 in
        let both : ◌≡◌ {A = Result Said SegFault} (Ok t) (Ok s) = sym (again x.c ToClient t fair.2.sendable) ∙ sym (ap (λ (bs : List ℕ). decoded bs x.c ToClient) fair.1) ∙ read in
        let same : t ≡ s = cc in
        subst (λ (u : Said). u.ack < 2 ^ 32) same fair.2.sendable.ack_fits

    pub acks-fit : (from : Place) (bytes : List ℕ) → Was x from (Client x.c) bytes → (s : Said) → decoded bytes x.c ToClient ≡ Ok s → s.ack < 2 ^ 32
    acks-fit from bytes was s read = go x.part.station refl where
      l : Letter
      l = record { from = from; to = Client x.c; bytes = bytes }

      between : GoesBetween x.c from (Client x.c) bytes
      between = between-has x.c l x.letters was ((view config files checked m reached q).sound q).between

      by-from : (f : Place) (st : Station) (k : Talk) → GoesBetween x.c f (Client x.c) bytes → IsFairOn k x.c x.part f (Client x.c) bytes → s.ack < 2 ^ 32
      by-from (Client d) st k b fair = absurd b
      by-from Front st k b fair = fair-acks st k bytes s fair read
      by-from (Node n) st k b fair = fair-acks st k bytes s fair read

      go : (o : Option Station) → x.part.station ≡ o → s.ack < 2 ^ 32
      go None at =
          let truth = states-truthful config files checked m reached q free-tale in
          let u : IsConnUnopened x = subst (ConnAgrees (file_at files) x truth.talk truth.pend) at truth.agrees in
          absurd (has-each IsInner l x.letters was u.inner).1
      go (Some st) at =
          let o = open-of st at in
          by-from from st o.0 between (has-each (IsFair o.0 x.c x.part) l x.letters was o.2.fair)

    -- ---- how much is left to do

    pub modest-of : (st : Station) → x.part.station ≡ Some st → IsModest (whole_of (file_at files) (which_leave m) (wrote m.journal q)) (tellers x.part.nodes m.config.nodes) (seat_of x.part)
    modest-of st at =
        let same : (tale_at x).wrote ≡ wrote m.journal q = sym (ap (λ (t : Tale). t.wrote) its-tale) ∙ sym (wrote-tale m.journal q) in
        subst (λ (bytes : List ℕ). IsModest (whole_of (file_at files) (which_leave m) bytes) (tellers x.part.nodes m.config.nodes) (seat_of x.part)) same (each-modest config files checked m reached q free-tale st at)

  -- ---- what the front end keeps of it

  pub offers-kept : Each (IsOfferOf x.c) x.part.front.kept
  offers-kept = go x.part.front.row (connections-are-kept config files m reached q).front where
    by-stage : (s : FrontConn) → FrontStageKeeps x.c x.part.front s → Each (IsOfferOf x.c) x.part.front.kept
    by-stage (stage.Held b) h = none-offers x.c x.part.front.kept h.1
    by-stage (stage.Waiting b) h = none-offers x.c x.part.front.kept h.1
    by-stage stage.Lent h = absurd h
    by-stage (stage.Offering n e) h = subst (Each (IsOfferOf x.c)) (sym h.1.1) ((n, e.0, h.1.0, refl), tt)
    by-stage (stage.Moved n e) h = none-offers x.c x.part.front.kept h.1
    by-stage (stage.Closed last) h = none-offers x.c x.part.front.kept h

    go : (o : Option FrontRow) → FrontRowKeeps x.c x.part.front o → Each (IsOfferOf x.c) x.part.front.kept
    go None h = none-offers x.c x.part.front.kept h
    go (Some row) h = by-stage row.stage h
