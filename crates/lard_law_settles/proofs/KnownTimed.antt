-- What the timers of a settle rest on: of a connection's client, and of an endpoint wherever it is.
use Rattle.std.proofs.Common.{◌≡◌, ◌⊎◌, ◌≤◌, ◌<◌, ◌^◌, ◌+◌, ◌==◌, not, ℕ, Bool, true, false, List, [], length, Option, Some, None, inl, inr, ⊎_elim, refl, sym, ap, ◌∙◌, subst, arith}
use Rattle.std.proofs.lemmas.Bool.{and_parts, cond_both}
use Rattle.lard_law_view.specs.Prelude.{BackConn, BackRow, Conn, ControlBlock, FilesAt, Final, FrontConn, FrontRow, NodePart, Sending, Speaks, Station, Stay, Stream, Talk, Verdict, front_rest, is_clear, one_if}
use Rattle.lard_base.specs.declared.place.Reason.TheVariants as reason
use Rattle.lard_bound.specs.Seats.{Held, Here, SeatNow, Waiting, seat_away, seat_decided, seat_in, seat_of, seat_there, seat_untaken}
use Rattle.lard_bound.specs.Units.{Whole, symbols_taken}
use Rattle.lard_client.specs.declared.phase.Phase.TheVariants as phase
use Rattle.lard_laws.specs.Acks.{BackActs, FrontActs, FrontStageActs, OpenActs, bounds_of, story_at}
use Rattle.lard_law_connections.specs.BytesAgreement.{BackAgrees, HoldsItPending, IsOffering, IsOpen, NodeAgrees, RowAgrees, SeatAgrees, StageAgrees, StayAgrees}
use Rattle.lard_law_connections.specs.Places.{IsDecided, IsLeft, IsPast}
use Rattle.lard_handoff_back.specs.declared.row.BackConn.TheVariants as back
use Rattle.lard_handoff_front.specs.declared.row.FrontConn.TheVariants as stage
use Rattle.lard_law_settles.proofs.KnownCounting.{one-most, taken-same}
use Rattle.lard_law_progress.proofs.AnswersFrontSpots.{over-cases, untaken-cases}
use Rattle.lard_law_progress.proofs.Given.{SeatKnown}
use Rattle.lard_law_progress.proofs.Seating.{seat-at, seat-none}

-- what was acknowledged fits a number
una-fits : (s : Sending) (bytes : List ℕ) → Speaks s bytes → s.una < 2 ^ 32
una-fits s bytes h =
    let sent = h.sound.sent in
    let queued = h.sound.queued in
    let most : s.total ≤ 2 ^ 30 = h.sound.most in
    let one = one-most s.finished in
    omega (arith, sent, queued, most, one)

-- an endpoint speaks, with the cluster's numbers, to a client that was not reset
pub record Speaking (st : Station) (b : ControlBlock) : Type 0 where
  pub open_ : b.reset ≡ false
  pub bytes : List ℕ
  pub speaks : Speaks b.send bytes
  pub iss : st.iss ≡ b.send.iss
  pub low : b.send.una < 2 ^ 32
  pub here : st.client.phase ≡ phase.Reset → ⊥

-- so it is wherever there is one; one that waits has nothing more to say
abbrev pub SpeaksAt : Station → SeatNow → Type 0
SpeaksAt st (Held b count) = Speaking st b
SpeaksAt st (Waiting b count) = is_clear b.send ≡ true
SpeaksAt st (Here told n e b s) = Speaking st b
SpeaksAt st _ = Unit {0}

module _ (files : FilesAt) (x : Conn) (st : Station) (k : Talk) (pend : List Verdict) (o : IsOpen files x k pend st) (acts : OpenActs x st) where
  -- ---- its client

  pub client-low : st.client.send.una < 2 ^ 32
  client-low = una-fits st.client.send k.w.bytes o.client.speaks

  pub iss-small : st.iss < 2 ^ 32
  iss-small = subst (λ n. n < 2 ^ 32) o.begins o.says.number

  -- before the front end knows it, nothing is acknowledged
  pub unborn-none : x.part.front.row ≡ None → st.client.send.una ≡ 0
  unborn-none at =
      let none : acts.heard ≡ 0 = subst (FrontActs (bounds_of x st acts.heard)) at acts.within.front in
      let una : st.client.send.una ≤ acts.heard = acts.client.acknowledged in omega (arith, none, una)

  -- once it is established it knows the cluster's first number, and what it took fits a number
  pub irs-is : (st.client.send.una == 0) ≡ false → st.client.send.irs ≡ st.iss
  irs-is e = o.client.accepts.first (ap not e) ∙ o.begins

  pub took-few : 1 + st.client.accepted + one_if st.client.eof < 2 ^ 32
  took-few =
      let within = o.client.accepts.within in
      let most : length k.out.bytes ≤ 2 ^ 30 = o.says.most in
      let one = one-most st.client.eof in omega (arith, within, most, one)

  -- ---- what is acknowledged was taken

  pub held-acks : (row : FrontRow) (b : ControlBlock) → x.part.front.row ≡ Some row → row.stage ≡ stage.Held b → b.send.una ≤ symbols_taken st.client
  held-acks row b at is =
      let act : FrontStageActs (bounds_of x st acts.heard) (stage.Held b) = subst (FrontStageActs (bounds_of x st acts.heard)) is (subst (FrontActs (bounds_of x st acts.heard)) at acts.within.front) in
      let a = act.1.0 in let e = taken-same st.client in omega (arith, a, e)

  pub here-acks : (n e : ℕ) (b : ControlBlock) → (x.part.nodes n).row ≡ Some (record { stage = back.Here b; epoch = record { 0 = e } }) → b.send.una ≤ symbols_taken st.client
  here-acks n e b is =
      let act = subst (BackActs (bounds_of x st acts.heard)) is (acts.within.nodes n) in
      let a = act.1.0 in let s = taken-same st.client in omega (arith, a, s)

  -- one that its client reset was aborted
  pub peer-aborted : (row : FrontRow) (last : Final) → x.part.front.row ≡ Some row → row.stage ≡ stage.Closed last → last.reason ≡ reason.Peer → (story_at x).aborted ≡ true
  peer-aborted row last at is why =
      let act : FrontStageActs (bounds_of x st acts.heard) (stage.Closed last) = subst (FrontStageActs (bounds_of x st acts.heard)) is (subst (FrontActs (bounds_of x st acts.heard)) at acts.within.front) in
      act.1.1 why

  -- ---- endpoints

  speaking : (vs pending : List Verdict) (b : ControlBlock) (count : ℕ) → HoldsItPending k.w k.out vs pending b count → (st.client.phase ≡ phase.Reset → ⊥) → Speaking st b
  speaking vs pending b count h here = record {
    open_ = h.not_reset;
    bytes = k.out.bytes;
    speaks = h.speaks;
    iss = sym o.begins ∙ ap (λ (s : Stream). s.first) h.out_is;
    low = una-fits b.send k.out.bytes h.speaks;
    here = here;
  }

  module _ (w : Whole) where
    abbrev Tells : SeatNow → Type 0
    Tells z = SeatKnown w st.client z → SpeaksAt st z

    module _ (told : Bool) (n e count last : ℕ) (node : IsPast last (x.part.nodes n).row ⊎ RowAgrees k.w k.out k.vs pend k.was_reset x.c (x.part.nodes n) (x.part.nodes n).row) where
      abbrev q : NodePart
      q = x.part.nodes n

      by-stay : (b : ControlBlock) (s : Option Stay) → StayAgrees k.w k.out k.vs pend b s → (st.client.phase ≡ phase.Reset → ⊥) → Speaking st b
      by-stay b None h here = absurd h
      by-stay b (Some s) h here = speaking k.vs pend b s.served h.1 here

      there : (row : BackRow) → q.row ≡ Some row → (s : BackConn) → row.stage ≡ s → Tells (seat_there told n e count q s)
      there row at (back.Here b) eq = λ known.
          let agrees : StayAgrees k.w k.out k.vs pend b q.stay = ⊎_elim
          (λ (p : IsPast last q.row). let g : IsPast last (Some row) = subst (IsPast last) at p in absurd (subst (λ (s : BackConn). IsLeft s) eq g.1))
          (λ (r : RowAgrees k.w k.out k.vs pend k.was_reset x.c q q.row). subst (BackAgrees k.w k.out k.vs pend k.was_reset x.c row.epoch.0 q) eq (subst (RowAgrees k.w k.out k.vs pend k.was_reset x.c q) at r))
          node in
          by-stay b q.stay agrees known.2
      there row at back.Out eq = λ known. tt
      there row at back.Ended eq = over-cases told n e q Tells (λ known. tt) (λ served known. tt)
      there row at back.Gone eq = over-cases told n e q Tells (λ known. tt) (λ served known. tt)

      decided : (r : Option BackRow) → q.row ≡ r → Tells (seat_decided told n e count q r)
      decided None at = untaken-cases n e count q Tells (λ known. tt) (λ known. tt)
      decided (Some row) at = cond_both (row.epoch.0 == e) (seat_there told n e count q row.stage) (seat_untaken n e count q) Tells
          (λ t. there row at row.stage refl)
          (λ t. untaken-cases n e count q Tells (λ known. tt) (λ known. tt))

      away : Tells (seat_away told n e count q)
      away = decided q.row refl

    stage-agrees : (row : FrontRow) → x.part.front.row ≡ Some row → (s : FrontConn) → row.stage ≡ s → StageAgrees k.w k.out k.vs pend k.was_reset x.c x.part row.epoch.0 s
    stage-agrees row at s eq = subst (StageAgrees k.w k.out k.vs pend k.was_reset x.c x.part row.epoch.0) eq (subst (SeatAgrees k.w k.out k.vs pend k.was_reset x.c x.part) at o.seat)

    by-stage : (row : FrontRow) → x.part.front.row ≡ Some row → (s : FrontConn) → row.stage ≡ s → Tells (seat_in x.part.front x.part.nodes s)
    by-stage row at (stage.Held b) eq = λ known. speaking k.vs [] b (front_rest x.part.front.rest).count (stage-agrees row at (stage.Held b) eq).holds known.2
    by-stage row at (stage.Waiting b) eq = λ known. (and_parts _ _ (and_parts _ _ (stage-agrees row at (stage.Waiting b) eq).1).0).0
    by-stage row at stage.Lent eq = absurd (stage-agrees row at stage.Lent eq)
    by-stage row at (stage.Offering n d) eq = away false n d.0 (front_rest x.part.front.rest).count row.epoch.0 (⊎_elim
        (λ (p : IsPast row.epoch.0 (x.part.nodes n).row × IsOffering k.w k.out k.vs pend x.c n row.epoch.0 x.part.front.kept). inl p.0)
        (λ (d : IsDecided row.epoch.0 (x.part.nodes n).row × NodeAgrees k.w k.out k.vs pend k.was_reset x.c (x.part.nodes n)). inr d.1)
        (stage-agrees row at (stage.Offering n d) eq))
    by-stage row at (stage.Moved n d) eq = away true n d.0 (front_rest x.part.front.rest).count row.epoch.0 (inr (stage-agrees row at (stage.Moved n d) eq).1)
    by-stage row at (stage.Closed last) eq = λ known. tt

    pub seat-speaks : Tells (seat_of x.part)
    seat-speaks = go x.part.front.row refl where
      go : (r : Option FrontRow) → x.part.front.row ≡ r → Tells (seat_of x.part)
      go None at = subst Tells (sym (seat-none x.part at)) (λ known. tt)
      go (Some row) at = subst Tells (sym (seat-at x.part row row.stage at refl)) (by-stage row at row.stage refl)
