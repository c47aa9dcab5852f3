-- Wherever its endpoint is, it talks with the client: by the laws of every run, of a connection whose client wrote little.
use Rattle.std.proofs.Common.{◌≡◌, ◌≤◌, ◌==◌, ℕ, Bool, true, false, List, [], length, Option, Some, None, ⊎_elim, refl, sym, ◌∙◌, subst}
use Rattle.std.proofs.lemmas.Bool.{both_ways, cond_both, eqb-true}
use Rattle.lard_law_view.specs.Prelude.{BackConn, BackRow, Conn, ControlBlock, FilesAt, FrontConn, FrontRow, Part, Setting, Station, Stay, Talk, front_rest, may_freeze, tale_at}
use Rattle.lard_bound.specs.Seats.{Held, Here, Over, SeatNow, Waiting, seat_away, seat_decided, seat_in, seat_of, seat_there, seat_untaken}
use Rattle.lard_bound.specs.Units.{Whole}
use Rattle.lard_laws.specs.Acks.{AcksWhatWasTaken, BackActs, EndActs, FrontActs, FrontStageActs, OpenActs, StationActs, bounds_of}
use Rattle.lard_laws.proofs.AcksStory.{reset-told}
use Rattle.lard_law_connections.specs.BytesAgreement.{AwayAgrees, ConnAgrees, IsOffering, IsOpen, IsTruthful, NodeAgrees, RowAgrees, SeatAgrees, StageAgrees, StayAgrees}
use Rattle.lard_law_connections.specs.LimitsCounts.{BackCounts, FrontCounts, FrontStageCounts, CountsWhatWasServed, served_by_tale}
use Rattle.lard_law_connections.specs.Places.{IsDecided, IsPast}
use Rattle.lard_law_connections.specs.SilencePlaces.{BackHas, FrontHas, FrontStageHas, HereHas}
use Rattle.lard_law_connections.specs.Silence.{AllHaveSpoken, HasSpoken}
use Rattle.lard_laws.specs.WindowsRefusals.{RefusesSegments}
use Rattle.lard_laws.specs.Windows.{AnyBlock, EndSent, IsReaching, ReachesOn, StationReaches}
use Rattle.lard_laws.specs.WindowsWords.{HasStarted}
use Rattle.lard_law_settles.proofs.KnownTalking.{HasSaid, talks}
use Rattle.lard_handoff_back.specs.declared.row.BackConn.TheVariants as back
use Rattle.lard_handoff_front.specs.declared.row.FrontConn.TheVariants as stage
use Rattle.lard_law_progress.proofs.AnswersFrontGiven.{AtSeat, IsTalking}
use Rattle.lard_law_progress.proofs.AnswersFrontSpots.{over-cases, seat-row, untaken-cases}
use Rattle.lard_law_progress.proofs.AnswersNodeGiven.{HasIt}
use Rattle.lard_law_progress.proofs.Away.{IsWith}
use Rattle.lard_law_progress.proofs.Given.{IsAt, Known, SeatKnown}
use Rattle.lard_rules.specs.declared.places.Ending.TheVariants as ending

-- ---- who has it

-- what the front end, or a node, keeps at each seat
abbrev AtStage : Part → FrontConn → Type 0
AtStage p c = (row : FrontRow) × (p.front.row ≡ Some row) × (row.stage ≡ c)

abbrev pub SeatHas : Part → SeatNow → Type 0
SeatHas p (Held b count) = AtStage p (stage.Held b)
SeatHas p (Waiting b count) = AtStage p (stage.Waiting b)
SeatHas p (Here told n e b s) = (p.nodes n).row ≡ Some (record { stage = back.Here b; epoch = record { 0 = e } })
SeatHas p (Over last) = AtStage p (stage.Closed last)
SeatHas p _ = Unit {0}

pub seat-has : (p : Part) → SeatHas p (seat_of p)
seat-has p = go p.front.row refl where
  away : (told : Bool) (n e count : ℕ) → SeatHas p (seat_away told n e count (p.nodes n))
  away told n e count = by-row (p.nodes n).row refl where
    there : (row : BackRow) → (p.nodes n).row ≡ Some row → row.epoch.0 ≡ e → (c : BackConn) → row.stage ≡ c → SeatHas p (seat_there told n e count (p.nodes n) c)
    there row is same (back.Here b) eq = is ∙ (λ i. Some (record { stage = eq i; epoch = record { 0 = same i } }))
    there row is same back.Out eq = tt
    there row is same back.Ended eq = over-cases told n e (p.nodes n) (SeatHas p) tt (λ served. tt)
    there row is same back.Gone eq = over-cases told n e (p.nodes n) (SeatHas p) tt (λ served. tt)

    by-row : (o : Option BackRow) → (p.nodes n).row ≡ o → SeatHas p (seat_decided told n e count (p.nodes n) o)
    by-row None is = untaken-cases n e count (p.nodes n) (SeatHas p) tt tt
    by-row (Some row) is = cond_both (row.epoch.0 == e) (seat_there told n e count (p.nodes n) row.stage) (seat_untaken n e count (p.nodes n)) (SeatHas p)
        (λ same. there row is (eqb-true row.epoch.0 e same) row.stage refl) (λ other. untaken-cases n e count (p.nodes n) (SeatHas p) tt tt)

  at : (row : FrontRow) → p.front.row ≡ Some row → (c : FrontConn) → row.stage ≡ c → SeatHas p (seat_in p.front p.nodes c)
  at row is (stage.Held b) eq = (row, is, eq)
  at row is (stage.Waiting b) eq = (row, is, eq)
  at row is stage.Lent eq = tt
  at row is (stage.Offering n d) eq = away false n d.0 (front_rest p.front.rest).count
  at row is (stage.Moved n d) eq = away true n d.0 (front_rest p.front.rest).count
  at row is (stage.Closed last) eq = (row, is, eq)

  go : (o : Option FrontRow) → p.front.row ≡ o → SeatHas p (seat_of p)
  go None is = subst (SeatHas p) (sym (seat-row p None is)) tt
  go (Some row) is = subst (SeatHas p) (sym (seat-row p (Some row) is)) (at row is row.stage refl)

-- ---- it talks

-- what the laws of every run say of it, and that its client wrote little
pub record IsLawful (files : FilesAt) (stream : ℕ) (x : Conn) : Type 0 where
  pub truth : IsTruthful files x
  pub acks : AcksWhatWasTaken x
  pub counts : CountsWhatWasServed stream x
  pub spoken : AllHaveSpoken x
  pub reaches : IsReaching x
  pub refusals : RefusesSegments x
  pub starts : HasStarted x
  pub few : length (tale_at x).wrote ≤ 16382

module _ (files : FilesAt) (stream : ℕ) (x : Conn) (st : Station) (at : x.part.station ≡ Some st) (laws : IsLawful files stream x) where
  abbrev k : Talk
  k = laws.truth.talk

  pub opens : IsOpen files x k laws.truth.pend st
  opens = subst (ConnAgrees files x k laws.truth.pend) at laws.truth.agrees

  pub open-acts : OpenActs x st
  open-acts = subst (StationActs x) at laws.acks

  pub open-reaches : StationReaches x st
  open-reaches = subst (ReachesOn x) at laws.reaches

  pub few-written : length k.w.bytes ≤ 16382
  few-written = subst (λ (bytes : List ℕ). length bytes ≤ 16382) opens.tale.wrote laws.few

  abbrev Sent : ControlBlock → Type 0
  Sent = EndSent x.c st.client st.iss x.letters

  said : (b : ControlBlock) → HasSpoken b → Sent b → (served_by_tale (tale_at x)).was_reset ≡ false → HasSaid st.client k.w b
  said b h sent none = record {
    stays = h.stays;
    none = h.none;
    told = h.told;
    sent = sent.1.taken;
    here = λ was. absurd (both_ways (tale_at x).was_reset none (sym (reset-told x) ∙ open-acts.client.resets was));
    few = few-written;
  }

  -- ---- at the front end

  module _ (row : FrontRow) (is : x.part.front.row ≡ Some row) (s : FrontConn) (eq : row.stage ≡ s) where
    stage-agrees : StageAgrees k.w k.out k.vs laws.truth.pend k.was_reset x.c x.part row.epoch.0 s
    stage-agrees = subst (StageAgrees k.w k.out k.vs laws.truth.pend k.was_reset x.c x.part row.epoch.0) eq (subst (SeatAgrees k.w k.out k.vs laws.truth.pend k.was_reset x.c x.part) is opens.seat)

    pub stage-acts : FrontStageActs (bounds_of x st open-acts.heard) s
    stage-acts = subst (FrontStageActs (bounds_of x st open-acts.heard)) eq (subst (FrontActs (bounds_of x st open-acts.heard)) is open-acts.within.front)

    stage-counts : FrontStageCounts stream (served_by_tale (tale_at x)) s
    stage-counts = subst (FrontStageCounts stream (served_by_tale (tale_at x))) eq (subst (FrontCounts stream (served_by_tale (tale_at x))) is laws.counts.front)

    stage-spoke : FrontStageHas HasSpoken s
    stage-spoke = subst (FrontStageHas HasSpoken) eq (subst (FrontHas HasSpoken) is laws.spoken.front)

    stage-sent : FrontStageHas Sent s
    stage-sent = subst (FrontStageHas Sent) eq (subst (FrontHas Sent) is open-reaches.front)

  pub held-talks : (b : ControlBlock) → AtStage x.part (stage.Held b) → IsTalking st b
  held-talks b (row, is, eq) =
      let s = stage.Held b in
      let h = stage-agrees row is s eq in
      talks files x st k laws.truth.pend opens open-acts k.vs [] b (front_rest x.part.front.rest).count h.holds (stage-acts row is s eq) (said b (stage-spoke row is s eq) (stage-sent row is s eq) (stage-counts row is s eq).counts.not_reset)

  pub waiting-talks : (b : ControlBlock) → AtStage x.part (stage.Waiting b) → IsTalking st b
  waiting-talks b (row, is, eq) =
      let s = stage.Waiting b in
      let h = stage-agrees row is s eq in
      talks files x st k laws.truth.pend opens open-acts k.vs [] b (front_rest x.part.front.rest).count h.0.holds (stage-acts row is s eq) (said b (stage-spoke row is s eq) (stage-sent row is s eq) (stage-counts row is s eq).0.counts.not_reset)

  pub may-freeze : (b : ControlBlock) → AtStage x.part (stage.Waiting b) → may_freeze b ≡ true
  may-freeze b (row, is, eq) = (stage-agrees row is (stage.Waiting b) eq).1

  -- ---- at a node

  module _ (n e : ℕ) (b : ControlBlock) (has : HasIt x n e b) where
    abbrev There : BackRow
    There = record { stage = back.Here b; epoch = record { 0 = e } }

    decided : NodeAgrees k.w k.out k.vs laws.truth.pend k.was_reset x.c (x.part.nodes n) → StayAgrees k.w k.out k.vs laws.truth.pend b (x.part.nodes n).stay
    decided h = subst (RowAgrees k.w k.out k.vs laws.truth.pend k.was_reset x.c (x.part.nodes n)) has h

    of-away : (d : ℕ) → AwayAgrees k.w k.out k.vs laws.truth.pend k.was_reset x.c n d x.part → StayAgrees k.w k.out k.vs laws.truth.pend b (x.part.nodes n).stay
    of-away d = ⊎_elim
        (λ (p : IsPast d (x.part.nodes n).row × IsOffering k.w k.out k.vs laws.truth.pend x.c n d x.part.front.kept). let g : IsPast d (Some There) = subst (IsPast d) has p.0 in absurd g.1)
        (λ (p : IsDecided d (x.part.nodes n).row × NodeAgrees k.w k.out k.vs laws.truth.pend k.was_reset x.c (x.part.nodes n)). decided p.1)

    stays : IsAt x.part.front n e → StayAgrees k.w k.out k.vs laws.truth.pend b (x.part.nodes n).stay
    stays a = go a.told a.with_ where
      go : (t : Bool) → IsWith t n e a.row.stage → StayAgrees k.w k.out k.vs laws.truth.pend b (x.part.nodes n).stay
      go false eq = of-away a.row.epoch.0 (stage-agrees a.row a.front (stage.Offering n (record { 0 = e })) eq)
      go true eq = decided (stage-agrees a.row a.front (stage.Moved n (record { 0 = e })) eq).1

    pub node-acts : EndActs (bounds_of x st open-acts.heard) (ending.Here b 0)
    node-acts = subst (BackActs (bounds_of x st open-acts.heard)) has (open-acts.within.nodes n)

    pub here-talks : IsAt x.part.front n e → IsTalking st b
    here-talks a = go (x.part.nodes n).stay (stays a) (subst (λ (o : Option BackRow). BackHas HasSpoken HasSpoken o (x.part.nodes n).stay) has (laws.spoken.nodes n)) (subst (λ (o : Option BackRow). BackHas Sent AnyBlock o (x.part.nodes n).stay) has (open-reaches.nodes n)) where
      not-reset : (served_by_tale (tale_at x)).was_reset ≡ false
      not-reset = (subst (BackCounts stream (served_by_tale (tale_at x))) has (laws.counts.nodes n)).not_reset

      go : (o : Option Stay) → StayAgrees k.w k.out k.vs laws.truth.pend b o → HereHas HasSpoken HasSpoken b o → HereHas Sent AnyBlock b o → IsTalking st b
      go None h spoke sent = absurd h
      go (Some s) h spoke sent = talks files x st k laws.truth.pend opens open-acts k.vs laws.truth.pend b s.served h.1 node-acts (said b spoke sent not-reset)

  -- ---- in the forms of what is given

  module _ (set : Setting) (w : Whole) (known : Known set w x st) where
    pub talks-there : (n e : ℕ) (b : ControlBlock) → HasIt x n e b → IsTalking st b
    talks-there n e b has = here-talks n e b has (known.homes n e b has)

    pub held-given : (b : ControlBlock) (count : ℕ) → seat_of x.part ≡ Held b count → AtSeat w st (Held b count)
    held-given b count seat =
        let has : SeatHas x.part (Held b count) = subst (SeatHas x.part) seat (seat-has x.part) in
        let knows : SeatKnown w st.client (Held b count) = subst (SeatKnown w st.client) seat known.seat in
        (held-talks b has, knows.1, known.heard)

    pub waiting-given : (b : ControlBlock) (count : ℕ) → seat_of x.part ≡ Waiting b count → AtSeat w st (Waiting b count)
    waiting-given b count seat = let has : SeatHas x.part (Waiting b count) = subst (SeatHas x.part) seat (seat-has x.part) in (waiting-talks b has, may-freeze b has)
