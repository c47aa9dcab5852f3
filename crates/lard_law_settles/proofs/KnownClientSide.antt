-- What a client's answers rest on, from the laws of every run.
use Rattle.std.proofs.Common.{◌≡◌, ◌≤◌, ◌==◌, ℕ, Bool, true, false, List, length, Some, Ok, refl, ap, subst, arith}
use Rattle.std.proofs.lemmas.Bool.{both_ways, eqb-true}
use Rattle.lard_law_view.specs.Prelude.{Client, Conn, ControlBlock, FilesAt, Final, Front, Letter, Node, Place, Reason, Said, Setting, Station, ToClient, Was, decoded, is_open_in, seq_offset, symbols}
use Rattle.lard_base.specs.declared.place.Reason.TheVariants.{Closed, Limit, Peer}
use Rattle.lard_bound.specs.Seats.{Held, Here, Over, SeatNow, seat_of}
use Rattle.lard_bound.specs.Units.{Whole, symbols_taken}
use Rattle.lard_client.specs.declared.phase.Phase.TheVariants.{Open}
use Rattle.lard_laws.specs.Acks.{FrontStageActs, OpenActs, bounds_of}
use Rattle.lard_law_connections.specs.BytesAgreement.{IsOpen}
use Rattle.lard_law_connections.proofs.PlacesFrontRules.{has-each}
use Rattle.lard_law_connections.specs.Silence.{ClientHasSpoken, StationHasSpoken}
use Rattle.lard_laws.specs.WindowsRefusals.{BytesRefuse, RefusesOn}
use Rattle.lard_laws.specs.WindowsRefusals as refusals
use Rattle.lard_laws.proofs.WindowsRefusals.{turned-down}
use Rattle.lard_laws.specs.WindowsWords.{Starts, StartsOn}
use Rattle.lard_law_settles.proofs.KnownCalming.{calms, nothing-next, sent-syn, tells-of}
use Rattle.lard_law_settles.proofs.KnownReplying.{MayReply, replies}
use Rattle.lard_law_settles.proofs.KnownSeating.{IsLawful, SeatHas, few-written, held-talks, node-acts, open-acts, open-reaches, opens, seat-has, stage-acts, talks-there}
use Rattle.lard_law_settles.proofs.KnownCounting.{one-most, taken-same}
use Rattle.lard_law_settles.proofs.KnownForwarded.{Refuses}
use Rattle.lard_handoff_front.specs.declared.row.FrontConn.TheVariants as stage
use Rattle.lard_law_view.proofs.Acked.{heard_by, taken_by}
use Rattle.lard_law_progress.proofs.AnswersClientGiven.{ClientGiven, EndTells, IsCalm, IsCluster, IsReply, Matters, SeatTells}
use Rattle.lard_law_progress.proofs.AnswersFrontGiven.{HasClosed, IsTalking}
use Rattle.lard_law_progress.proofs.AnswersNodeGiven.{HasIt}
use Rattle.lard_law_progress.proofs.Data.{heard}
use Rattle.lard_law_progress.proofs.Given.{Known}

-- Beside the laws so far: before a client is established, its SYN alone is acknowledged to it, no node has the connection, and neither both
-- sides nor the stream limit ended it.
pub record IsMet (x : Conn) (st : Station) : Type 0 where
  pub greets : st.client.phase ≡ Open → st.client.send.una ≡ 0 → (from : Place) (bytes : List ℕ) (s : Said) → IsCluster from → Was x from (Client x.c) bytes → decoded bytes x.c ToClient ≡ Ok s → s.flags.ack ≡ true
      → seq_offset s.ack st.client.send.iss ≡ 1
  pub there : st.client.phase ≡ Open → st.client.send.una ≡ 0 → (n e : ℕ) (b : ControlBlock) → HasIt x n e b → ⊥
  pub closed : st.client.phase ≡ Open → st.client.send.una ≡ 0 → (last : Final) → seat_of x.part ≡ Over last → last.reason ≡ Closed → ⊥
  pub limit : st.client.phase ≡ Open → st.client.send.una ≡ 0 → (last : Final) → seat_of x.part ≡ Over last → last.reason ≡ Limit → ⊥

module _ (files : FilesAt) (stream : ℕ) (x : Conn) (st : Station) (at : x.part.station ≡ Some st) (laws : IsLawful files stream x) (set : Setting) (w : Whole) (known : Known set w x st)
    (closed : (last : Final) → seat_of x.part ≡ Over last → HasClosed st last) (free : st.client.phase ≡ Open → st.client.holding ≡ false) where
  abbrev o : IsOpen files x laws.truth.talk laws.truth.pend st
  o = opens files stream x st at laws

  abbrev acts : OpenActs x st
  acts = open-acts files stream x st at laws

  few : length laws.truth.talk.w.bytes ≤ 16382
  few = few-written files stream x st at laws

  few-symbols : symbols st.client.send ≤ 16384
  few-symbols = let count : length laws.truth.talk.w.bytes ≡ st.client.send.total = o.client.speaks.part.count in let f = few in let e = one-most st.client.send.finished in omega (arith, count, f, e)

  talks-at : (n e : ℕ) (b : ControlBlock) → HasIt x n e b → IsTalking st b
  talks-at n e b has = talks-there files stream x st at laws set w known n e b has

  -- no more was taken than it has, where that matters
  heard-within : (z : SeatNow) → seat_of x.part ≡ z → st.client.phase ≡ Open → Matters z → acts.heard ≤ symbols st.client.send
  heard-within (Held b count) eq open_ m =
      let has : SeatHas x.part (Held b count) = subst (SeatHas x.part) eq (seat-has x.part) in
      let spoke : heard b.recv ≤ symbols st.client.send = (held-talks files stream x st at laws b has).spoke in
      let act : FrontStageActs (bounds_of x st acts.heard) (stage.Held b) = stage-acts files stream x st at laws has.0 has.1 (stage.Held b) has.2 in
      let h : acts.heard ≡ heard_by b.recv = act.0 in
      omega (arith, spoke, h)
  heard-within (Here told n e b s) eq open_ m =
      let has : SeatHas x.part (Here told n e b s) = subst (SeatHas x.part) eq (seat-has x.part) in
      let spoke : heard b.recv ≤ symbols st.client.send = (talks-at n e b has).spoke in
      let h : acts.heard ≡ heard_by b.recv = (node-acts files stream x st at laws n e b has).0 in
      omega (arith, spoke, h)
  heard-within (Over last) eq open_ m =
      let has : SeatHas x.part (Over last) = subst (SeatHas x.part) eq (seat-has x.part) in
      let act : FrontStageActs (bounds_of x st acts.heard) (stage.Closed last) = stage-acts files stream x st at laws has.0 has.1 (stage.Closed last) has.2 in
      let h : acts.heard ≡ seq_offset last.rcv.0 st.client.send.iss = act.0 in
      let c : seq_offset last.rcv.0 st.client.send.iss ≡ symbols st.client.send = ((closed last eq).all m open_).1 in
      omega (arith, h, c)
  heard-within _ eq open_ m = absurd m

  -- a refusal has the number of what was acknowledged
  refused : (from : Place) (bytes : List ℕ) (s : Said) → IsCluster from → Was x from (Client x.c) bytes → decoded bytes x.c ToClient ≡ Ok s → Refuses st.iss (symbols_taken st.client) s
  refused from bytes s cluster was read rst ack =
      let l : Letter = record { from = from; to = Client x.c; bytes = bytes } in
      let h = by-place from cluster (has-each (refusals.RefusesLetter x.c x.letters) l x.letters was laws.refusals) s read rst ack in
      let t = turned-down x st acts s.seq h.refuses in
      let a : t.0 ≤ taken_by st.client = t.2 in
      let same = taken-same st.client in
      (h.bare, t.0, t.1, omega (arith, a, same))
    where
      by-place : (f : Place) → IsCluster f → RefusesOn x.c x.letters f (Client x.c) bytes → BytesRefuse x.c x.letters bytes
      by-place Front c h = h
      by-place (Node n) c h = h
      by-place (Client d) c h = absurd c

  module _ (met : IsMet x st) where
    spoken : ClientHasSpoken st.client
    spoken = subst StationHasSpoken at laws.spoken.client

    starts : Starts st.client
    starts = subst StartsOn at laws.starts

    -- an open client sent its SYN
    begun : st.client.phase ≡ Open → st.client.send.una ≡ 0 → st.client.send.nxt ≡ 1
    begun open_ una =
        let most = starts.first una in
        let least = sent-syn st.client.send (nothing-next st.client (ap is_open_in open_) spoken.none) in
        omega (arith, most, least)

    calm : IsCalm st st.client
    calm = calms files x st laws.truth.talk laws.truth.pend o (record {
      none = spoken.none;
      held = λ open_. spoken.nothing_held (free open_);
      holding = free;
      some = starts.window;
      wide = (open-reaches files stream x st at laws).client.wide;
      alone = begun;
      few = few;
    })

    zero : (n : ℕ) → (n == 0) ≡ true → n ≡ 0
    zero n e = eqb-true n 0 e

    -- where a client that is not established cannot be, it is
    met-there : (st.client.send.una ≡ 0 → ⊥) → (st.client.send.una == 0) ≡ false
    met-there never = go (st.client.send.una == 0) refl where
      go : (t : Bool) → (st.client.send.una == 0) ≡ t → t ≡ false
      go false e = refl
      go true e = absurd (never (zero st.client.send.una e))

    at-end : (last : Final) → seat_of x.part ≡ Over last → st.client.phase ≡ Open → (why : Reason) → last.reason ≡ why → EndTells st.client why
    at-end last eq open_ Closed is = met-there (λ una. met.closed open_ una last eq is)
    at-end last eq open_ Peer is = tt
    at-end last eq open_ Limit is = met-there (λ una. met.limit open_ una last eq is)

    tells : (z : SeatNow) → seat_of x.part ≡ z → st.client.phase ≡ Open → SeatTells st.client z
    tells (Held b count) eq open_ =
        let has : SeatHas x.part (Held b count) = subst (SeatHas x.part) eq (seat-has x.part) in
        tells-of st b (held-talks files stream x st at laws b has)
    tells (Here told n e b s) eq open_ =
        let has : SeatHas x.part (Here told n e b s) = subst (SeatHas x.part) eq (seat-has x.part) in
        (tells-of st b (talks-at n e b has), met-there (λ una. met.there open_ una n e b has))
    tells (Over last) eq open_ = at-end last eq open_ last.reason refl
    tells _ eq open_ = tt

    may : (from : Place) (bytes : List ℕ) (s : Said) → IsCluster from → Was x from (Client x.c) bytes → decoded bytes x.c ToClient ≡ Ok s → MayReply st (seat_of x.part) acts.heard s
    may from bytes s cluster was read = record {
      heard_most = heard-within (seat_of x.part) refl;
      all = calm.all;
      few = let f = few-symbols in omega (arith, f);
      begun = fresh;
      greets = λ open_ una. met.greets open_ una from bytes s cluster was read;
      refuses = refused from bytes s cluster was read;
    } where
      fresh : st.client.eof ≡ true → (st.client.send.una == 0) ≡ false
      fresh eof = met-there (λ una. let none : st.client.eof ≡ false = ((open-reaches files stream x st at laws).client.fresh una).1 in both_ways st.client.eof none eof)

    pub reply : (from : Place) (bytes : List ℕ) (s : Said) → IsCluster from → Was x from (Client x.c) bytes → decoded bytes x.c ToClient ≡ Ok s → IsReply st st.client (seat_of x.part) s
    reply from bytes s cluster was read = replies files x st laws.truth.talk laws.truth.pend o acts from bytes s cluster was read (may from bytes s cluster was read)

    pub client-calm : IsCalm st st.client
    client-calm = calm

    pub client-tells : st.client.phase ≡ Open → SeatTells st.client (seat_of x.part)
    client-tells = tells (seat_of x.part) refl

-- ---- in the form of what is given

-- of whatever station is there
pub client-given : (files : FilesAt) (stream : ℕ) (x : Conn) → (laws : IsLawful files stream x) → (set : Setting) (w : Whole) → ((st : Station) → x.part.station ≡ Some st → Known set w x st)
    → ((st : Station) → x.part.station ≡ Some st → (last : Final) → seat_of x.part ≡ Over last → HasClosed st last) → ((st : Station) → x.part.station ≡ Some st → st.client.phase ≡ Open → st.client.holding ≡ false)
    → ((st : Station) (at : x.part.station ≡ Some st) → IsMet x st) → ClientGiven x
client-given files stream x laws set w known closed free met = record {
  calm = λ st at. client-calm files stream x st at laws set w (known st at) (closed st at) (free st at) (met st at);
  seat = λ st at. client-tells files stream x st at laws set w (known st at) (closed st at) (free st at) (met st at);
  replies = λ st from bytes s at. reply files stream x st at laws set w (known st at) (closed st at) (free st at) (met st at) from bytes s;
}
