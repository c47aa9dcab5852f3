-- What is known of a connection between two steps of a settle's rounds, from the laws of every run.
use Rattle.std.proofs.Common.{◌≡◌, ◌⊎◌, ◌≤◌, ◌+◌, ◌==◌, ℕ, Bool, true, false, cond, List, [], length, Option, Some, None, inl, inr, ⊎_elim, refl, sym, ◌∙◌, subst, arith}
use Rattle.std.proofs.lemmas.Bool.{both_ways, cond-true, cond_both, eq-eqb}
use Rattle.lard_law_view.specs.Prelude.{BackConn, BackRow, Conn, ControlBlock, FilesAt, FrontConn, FrontRow, NodePart, Station, Stay, Talk, Verdict, front_rest, tale_at}
use Rattle.lard_bound.specs.Seats.{Here, SeatNow, seat_away, seat_decided, seat_in, seat_of, seat_there, seat_untaken, stay_of, staying_of}
use Rattle.lard_bound.specs.Units.{Whole, symbols_taken, whole_of}
use Rattle.lard_client.specs.declared.phase.Phase.TheVariants as phase
use Rattle.lard_laws.specs.Acks.{BackActs, BackStageActs, FrontActs, FrontStageActs, OpenActs, bounds_of}
use Rattle.lard_laws.proofs.AcksStory.{reset-told}
use Rattle.lard_law_connections.specs.BytesAgreement.{AwayAgrees, BackAgrees, IsOffering, IsOpen, NodeAgrees, RowAgrees, SeatAgrees, StageAgrees, StayAgrees}
use Rattle.lard_law_connections.specs.LimitsCounts.{BackCounts, BackStageCounts, FrontCounts, FrontStageCounts, CountsWhatWasServed, served_by_tale}
use Rattle.lard_law_connections.specs.Places.{IsDecided, IsLeft, IsPast}
use Rattle.lard_handoff_back.specs.declared.row.BackConn.TheVariants as back
use Rattle.lard_handoff_front.specs.declared.row.FrontConn.TheVariants as stage
use Rattle.lard_law_settles.proofs.KnownCounting.{read-most, stay-most, taken-same}
use Rattle.lard_law_view.proofs.Acked.{taken_by}
use Rattle.lard_law_progress.proofs.AnswersFrontSpots.{over-cases, untaken-cases}
use Rattle.lard_law_progress.proofs.Given.{SeatKnown}
use Rattle.lard_law_progress.proofs.Placing.{freeze-open}
use Rattle.lard_law_progress.proofs.Seating.{seat-at, seat-none}

-- the front end placed it: it waits, or goes to a node, or is there
abbrev pub IsPlacing : FrontConn → Type 0
IsPlacing (stage.Waiting b) = Unit {0}
IsPlacing (stage.Offering n e) = Unit {0}
IsPlacing (stage.Moved n e) = Unit {0}
IsPlacing _ = ⊥

module _ (files : FilesAt) (x : Conn) (st : Station) (k : Talk) (pend : List Verdict) (o : IsOpen files x k pend st) (acts : OpenActs x st) (stream : ℕ) (counts : CountsWhatWasServed stream x)
    (w : Whole) (is : w ≡ whole_of files w.leaving k.w.bytes) (asks : (row : FrontRow) → x.part.front.row ≡ Some row → IsPlacing row.stage → 1 ≤ w.requests) where
  abbrev Here_ : SeatNow → Type 0
  Here_ z = SeatKnown w st.client z

  knows : (n : ℕ) → n ≤ taken_by st.client → n ≤ symbols_taken st.client
  knows n h = let e = taken-same st.client in omega (arith, h, e)

  -- an endpoint that is here was not reset for the stream limit, so its client was not
  open_ : (served_by_tale (tale_at x)).was_reset ≡ false → st.client.phase ≡ phase.Reset → ⊥
  open_ none was = absurd (both_ways (tale_at x).was_reset none (sym (reset-told x) ∙ acts.client.resets was))

  -- ---- at a node

  module _ (told : Bool) (n e count last : ℕ) (wants : 1 ≤ w.requests) (node : IsPast last (x.part.nodes n).row ⊎ RowAgrees k.w k.out k.vs pend k.was_reset x.c (x.part.nodes n) (x.part.nodes n).row) where
    abbrev q : NodePart
    q = x.part.nodes n

    here : (row : BackRow) → q.row ≡ Some row → (b : ControlBlock) → row.stage ≡ back.Here b → Here_ (Here told n e b (staying_of q))
    here row at b eq =
        let agrees : StayAgrees k.w k.out k.vs pend b q.stay = ⊎_elim
        (λ (p : IsPast last q.row). let g : IsPast last (Some row) = subst (IsPast last) at p in absurd (subst (λ (s : BackConn). IsLeft s) eq g.1))
        (λ (r : RowAgrees k.w k.out k.vs pend k.was_reset x.c q q.row). subst (BackAgrees k.w k.out k.vs pend k.was_reset x.c row.epoch.0 q) eq (subst (RowAgrees k.w k.out k.vs pend k.was_reset x.c q) at r))
        node in
        let act : BackStageActs (bounds_of x st acts.heard) (back.Here b) = subst (BackStageActs (bounds_of x st acts.heard)) eq (subst (BackActs (bounds_of x st acts.heard)) at (acts.within.nodes n)) in
        let counted : BackStageCounts stream (served_by_tale (tale_at x)) (back.Here b) = subst (BackStageCounts stream (served_by_tale (tale_at x))) eq (subst (BackCounts stream (served_by_tale (tale_at x))) at (counts.nodes n)) in
        (knows b.send.una act.1.0, by-stay q.stay agrees, open_ counted.not_reset)
      where
        by-stay : (s : Option Stay) → StayAgrees k.w k.out k.vs pend b s → (stay_of s).served + length (stay_of s).batch ≤ w.requests
        by-stay None h = absurd h
        by-stay (Some s) h = stay-most files x.c st k o.client o.says w is b pend s.served s.batch h.0 h.1

    there : (row : BackRow) → q.row ≡ Some row → (s : BackConn) → row.stage ≡ s → Here_ (seat_there told n e count q s)
    there row at (back.Here b) eq = here row at b eq
    there row at back.Out eq = wants
    there row at back.Ended eq = over-cases told n e q Here_ tt (λ served. tt)
    there row at back.Gone eq = over-cases told n e q Here_ tt (λ served. tt)

    untaken : Here_ (seat_untaken n e count q)
    untaken = untaken-cases n e count q Here_ wants tt

    decided : (r : Option BackRow) → q.row ≡ r → Here_ (seat_decided told n e count q r)
    decided None at = untaken
    decided (Some row) at = cond_both (row.epoch.0 == e) (seat_there told n e count q row.stage) (seat_untaken n e count q) Here_
        (λ t. there row at row.stage refl) (λ t. untaken)

    away : Here_ (seat_away told n e count q)
    away = decided q.row refl

  -- ---- at the front end

  module _ (row : FrontRow) (at : x.part.front.row ≡ Some row) (s : FrontConn) (eq : row.stage ≡ s) where
    agrees : StageAgrees k.w k.out k.vs pend k.was_reset x.c x.part row.epoch.0 s
    agrees = subst (StageAgrees k.w k.out k.vs pend k.was_reset x.c x.part row.epoch.0) eq (subst (SeatAgrees k.w k.out k.vs pend k.was_reset x.c x.part) at o.seat)

    act : FrontStageActs (bounds_of x st acts.heard) s
    act = subst (FrontStageActs (bounds_of x st acts.heard)) eq (subst (FrontActs (bounds_of x st acts.heard)) at acts.within.front)

    counted : FrontStageCounts stream (served_by_tale (tale_at x)) s
    counted = subst (FrontStageCounts stream (served_by_tale (tale_at x))) eq (subst (FrontCounts stream (served_by_tale (tale_at x))) at counts.front)

    wants : IsPlacing s → 1 ≤ w.requests
    wants p = asks row at (subst IsPlacing (sym eq) p)

  -- its node has not decided, or has it
  offered : (row : FrontRow) (n : ℕ) → AwayAgrees k.w k.out k.vs pend k.was_reset x.c n row.epoch.0 x.part
      → IsPast row.epoch.0 (x.part.nodes n).row ⊎ RowAgrees k.w k.out k.vs pend k.was_reset x.c (x.part.nodes n) (x.part.nodes n).row
  offered row n h = ⊎_elim
      (λ (p : IsPast row.epoch.0 (x.part.nodes n).row × IsOffering k.w k.out k.vs pend x.c n row.epoch.0 x.part.front.kept). inl p.0)
      (λ (d : IsDecided row.epoch.0 (x.part.nodes n).row × NodeAgrees k.w k.out k.vs pend k.was_reset x.c (x.part.nodes n)). inr d.1)
      h

  -- before the front end knows it, nothing is acknowledged, so it took nothing
  nobody : x.part.front.row ≡ None → symbols_taken st.client ≡ 0
  nobody at =
      let none : acts.heard ≡ 0 = subst (FrontActs (bounds_of x st acts.heard)) at acts.within.front in
      let una : st.client.send.una ≤ acts.heard = acts.client.acknowledged in
      let zero_ : (st.client.send.una == 0) ≡ true = eq-eqb st.client.send.una 0 (omega (arith, none, una)) in
      cond-true (st.client.send.una == 0) 0 (1 + st.client.accepted + cond st.client.eof 1 0) zero_

  stage-knows : (row : FrontRow) → x.part.front.row ≡ Some row → (s : FrontConn) → row.stage ≡ s → Here_ (seat_in x.part.front x.part.nodes s)
  stage-knows row at (stage.Held b) eq =
      let h = agrees row at (stage.Held b) eq in
      let few = read-most files x.c st k o.client o.says w is b [] (front_rest x.part.front.rest).count h.holds in
      (knows b.send.una (act row at (stage.Held b) eq).1.0, omega (arith, few), open_ (counted row at (stage.Held b) eq).counts.not_reset)
  stage-knows row at (stage.Waiting b) eq = (knows b.send.una (act row at (stage.Waiting b) eq).1.0, wants row at (stage.Waiting b) eq tt, freeze-open b (agrees row at (stage.Waiting b) eq).1)
  stage-knows row at stage.Lent eq = absurd (agrees row at stage.Lent eq)
  stage-knows row at (stage.Offering n d) eq =
      away false n d.0 (front_rest x.part.front.rest).count row.epoch.0 (wants row at (stage.Offering n d) eq tt) (offered row n (agrees row at (stage.Offering n d) eq))
  stage-knows row at (stage.Moved n d) eq =
      away true n d.0 (front_rest x.part.front.rest).count row.epoch.0 (wants row at (stage.Moved n d) eq tt) (inr (agrees row at (stage.Moved n d) eq).1)
  stage-knows row at (stage.Closed last) eq = tt

  pub seat-knows : Here_ (seat_of x.part)
  seat-knows = go x.part.front.row refl where
    go : (r : Option FrontRow) → x.part.front.row ≡ r → Here_ (seat_of x.part)
    go None at = subst Here_ (sym (seat-none x.part at)) (nobody at)
    go (Some row) at = subst Here_ (sym (seat-at x.part row row.stage at refl)) (stage-knows row at row.stage refl)
