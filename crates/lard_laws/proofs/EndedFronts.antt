-- What the front end keeps of an end is so: its own turns end truly, and what a node tells it was so.
use Rattle.std.proofs.Common.{◌≡◌, ◌⊎◌, ◌≤◌, not, ◌^◌, ℕ, true, false, List, [], map, Option, Some, None, inl, inr, ⊎_elim, refl, sym, ◌∙◌, subst}
use Rattle.std.proofs.lemmas.Bool.{and_parts, both_ways, not-true}
use Rattle.lard_law_view.specs.Prelude.{Conn, ControlBlock, EndpointParts, Ending, Final, Front, FrontConn, FrontDeed, FrontEnv, FrontGets, FrontPart, FrontRow, HasStopped, IsConnNumber, IsStream, IsWord, MayMove, Node, Place, Said, Seen, Service, Station, Talk, Verdict, after_timer, back_notes, front_does, front_fired, front_reads, front_rest, front_rule, given_sent, letter, may_freeze, parts_of, serving_settled, spoken, stage_after}
use Rattle.lard_law_connections.specs.BytesAgreement.{FrontHolds, IsOpen, SeatAgrees, StageAgrees}
use Rattle.lard_law_connections.proofs.BytesFrontReading.{reads-so}
use Rattle.lard_law_connections.proofs.BytesHolding.{adopted-serves, adopted-so, heard-so}
use Rattle.lard_law_connections.proofs.BytesServing.{So, counts-mute, counts-nothing}
use Rattle.lard_laws.proofs.AcksOffers.{IsOfferOf, refused-is}
use Rattle.lard_laws.specs.EndedEnds.{IsTrueEnd, LetterEnds, RowEnds, StageEnds, TellsEnds}
use Rattle.lard_laws.proofs.EndedEnding.{EndsTruly, ReadsNothing, open-ends, settled-end, timed-end}
use Rattle.lard_laws.proofs.EndedGrowing.{front-letters}
use Rattle.lard_laws.proofs.EndedTurns.{PlaceEnds}
use Rattle.lard_law_connections.proofs.PlacesFrontMessages.{no-give}
use Rattle.lard_law_connections.proofs.PlacesTurns.{IsPlaced}
use Rattle.lard_law_connections.specs.Stops.{FrontStageStops, FrontStops, HeldStops, IsHeldBack}
use Rattle.lard_law_connections.proofs.StopsFronts as stops
use Rattle.lard_law_connections.proofs.StopsSame.{Same, same-held, same-stopped, segment-closes, timer-same}
use Rattle.lard_rules.specs.Front.{Drops, Says, Does}
use Rattle.lard_rules.proofs.FrontBlocks.{segment-serves}
use Rattle.lard_rules.proofs.FrontTurns.{reads-stop}
use Rattle.lard_handoff_front.specs.declared.row.FrontConn.TheVariants as stage
use Rattle.lard_history.proofs.Each.{Each-append}
use Rattle.lard_rules.specs.declared.places.Ending.TheVariants as ending
use Rattle.lard_law_view.proofs.Speaking.{speaks-stream}
use Rattle.lard_law_connections.proofs.PlacesFrontRules.{has-each}
use Rattle.lard_law_view.proofs.EachFront.{FrontComes, HasBack, admission}
use Rattle.lard_laws.proofs.FrontComing.{heard-word, new-end}
use Rattle.lard_rules.proofs.FrontCases.{IsBack, IsInStage, KeptByFront, KeptByReturn, KeptBySegment, back_reading, back_service, begun_service, fired_before, fired_service, front-keeps, heard_reading, heard_service, of-stage, waiting_service}

-- one that may move has not closed its side
frozen-open : (b : ControlBlock) → may_freeze b ≡ true → b.send.finished ≡ false
frozen-open b e = not-true b.send.finished (and_parts _ (not b.send.finished) (and_parts _ _ e).0).1

-- what a deed leaves of an end
abbrev pub DeedEnds : (Final → Type 0) → FrontDeed → Type 0
DeedEnds P Drops = Unit {0}
DeedEnds P (Says turn) = Unit {0}
DeedEnds P (Does did) = RowEnds P did.part.row

module _ (P : Final → Type 0) (x : Conn) (h : TellsEnds P x) (heads : List Seen) where
  -- so it is of its move, since the front end tells no end to anybody
  deed-place : (d : FrontDeed) → DeedEnds P d → PlaceEnds x (front_does x heads d) P
  deed-place Drops k = record { front = h.front; letters = tt }
  deed-place (Says turn) k = record {
    front = h.front;
    letters = Each-append (LetterEnds P x.part.front.row) (map (letter Front) turn.segments) (map (letter Front) turn.messages) (front-letters P x.part.front.row turn.segments) (front-letters P x.part.front.row turn.messages);
  }
  deed-place (Does did) k = record {
    front = k;
    letters = Each-append (LetterEnds P did.part.row) (map (letter Front) did.turn.segments) (map (letter Front) did.turn.messages) (front-letters P did.part.row did.turn.segments) (front-letters P did.part.row did.turn.messages);
  }

-- ---- the rules

module _ (env : FrontEnv) (most : env.serve.stream ≤ 2 ^ 30) (x : Conn) (number : IsConnNumber x.c) (at_place : IsPlaced x) (s : Station) (l : Talk)
    (pend : List Verdict) (o : IsOpen env.serve.files x l pend s) (stopped : FrontStops env.serve.files x.part.front.row)
    (told : TellsEnds (IsTrueEnd env.serve.files l.w s.iss) x) (heads : List Seen) where
  abbrev P : Final → Type 0
  P = IsTrueEnd env.serve.files l.w s.iss

  abbrev q : FrontPart
  q = x.part.front

  abbrev Goes : FrontDeed → Type 0
  Goes d = DeedEnds P d

  abbrev Truly : Ending → Type 0
  Truly e = EndsTruly env.serve l.w s.iss e

  is_stream : IsStream l.w
  is_stream = subst IsStream (sym o.client.w_is) (speaks-stream s.client.send l.w.bytes o.client.speaks)

  held-stage : (e : Ending) → Truly e → StageEnds P (stage_after stage.Held e)
  held-stage (ending.Here b count) h = tt
  held-stage (ending.Over last) h = h.2

  waiting-stage : (e : Ending) → Truly e → StageEnds P (stage_after stage.Waiting e)
  waiting-stage (ending.Here b count) h = tt
  waiting-stage (ending.Over last) h = h.2

  -- where it has not closed its side nothing ends truly but by a reset
  open-turn : (w : Service) (before : List (Place × List ℕ)) → w.block.send.finished ≡ false → Truly (spoken env.serve w before).0
  open-turn w before open_ = open-ends env.serve l.w s.iss w before open_

  -- nothing that was read is left at the front end
  reads-nothing : (b : ControlBlock) → HasStopped b ⊎ IsHeldBack env.serve.files b → ReadsNothing b []
  reads-nothing b h closed = ⊎_elim (λ (t : HasStopped b). (t, λ keeps. refl)) (λ (t : IsHeldBack env.serve.files b). absurd (both_ways b.send.finished t.1 closed)) h

  -- ---- where the connection is

  stops-at : (row : FrontRow) (st : FrontConn) → IsInStage q row st → FrontStageStops env.serve.files st
  stops-at row st at = of-stage (FrontStops env.serve.files) q row st at stopped

  agrees-at : (row : FrontRow) (st : FrontConn) → IsInStage q row st → StageAgrees l.w l.out l.vs pend l.was_reset x.c x.part row.epoch.0 st
  agrees-at row st at = of-stage (SeatAgrees l.w l.out l.vs pend l.was_reset x.c x.part) q row st at o.seat

  -- ---- a segment

  -- what was read agrees, nothing of it is left, and what is to be placed may move
  abbrev Came : Service → Option (List ℕ) → Type 0
  Came w t = So env.serve l.w l.out l.vs w [] × stops.Rests env.serve (record { service = w; target = t }) × MayMove w.block t

  held-settled : (w : Service) → Came w None → StageEnds P (stage_after stage.Held (serving_settled env.serve w).0)
  held-settled w came = held-stage (serving_settled env.serve w).0
      (settled-end env.serve l.w s.iss l.out l.vs o.begins w [] came.0 (λ over calm. reads-nothing w.block (came.1 refl over calm)))

  module _ (sd : Said) (word : IsWord l.w sd) where
    reads-so-far : (row : FrontRow) (b : ControlBlock) → IsInStage q row (stage.Held b) → Came (front_reads env.serve (heard_reading q b sd)).service (front_reads env.serve (heard_reading q b sd)).target
    reads-so-far row b at =
        let h : FrontHolds l.w l.out l.vs pend b (front_rest q.rest).count = agrees-at row (stage.Held b) at in
        let count : ℕ = (front_rest q.rest).count in
        let start : Service = heard_service q b sd in
        let so = reads-so env.serve l.w l.out l.vs most start (heard-so env.serve l.w l.out l.vs o.says [] b count h.holds is_stream sd word) in
        let rests : stops.Rests env.serve (front_reads env.serve (heard_reading q b sd)) = stops.reads-rest env.serve start (λ over closed. stops.arrived-stops env q stopped b sd (stops-at row (stage.Held b) at) closed) in
        let may = reads-stop env.serve start (segment-serves count b sd h.serves) in
        (so.0, rests, may.1)

    by-segment : (bytes : List ℕ) → KeptBySegment env q bytes sd Came Goes
    by-segment bytes = record {
      drops = tt;
      begins = λ none plain. held-stage (spoken env.serve (begun_service env sd) []).0 (open-turn (begun_service env sd) [] refl);
      reads = reads-so-far;
      holds = λ row b w at came. held-settled w came;
      hands = λ row b w path choice at came is. tt;
      waits = λ row b w path at came is. waiting-stage (spoken env.serve (waiting_service env w) []).0 (open-turn (waiting_service env w) [] (frozen-open w.block came.2));
      stays = λ row b at. waiting-stage (spoken env.serve (heard_service q b sd) []).0 (open-turn (heard_service q b sd) [] (segment-closes b sd ∙ frozen-open b (agrees-at row (stage.Waiting b) at).1));
      forwards = λ row n e at. tt;
      words = λ row last at. tt;
    }

  -- ---- a connection that comes back

  -- a node refused it: what it goes on from is the endpoint that was frozen
  module _ (n epoch : ℕ) (m : HasBack x n epoch None heads) (row : FrontRow) (parts : EndpointParts) (back : IsBack q n epoch None row parts) where
    reads-back : Came (front_reads env.serve (back_reading env row parts)).service (front_reads env.serve (back_reading env row parts)).target
    reads-back =
        let frozen : IsOfferOf l pend parts = refused-is env.serve.files x number at_place s l pend o n epoch heads m row parts back in
        let held = frozen.holds in
        let start : Service = back_service env row (parts_of frozen.block frozen.count) in
        let notes = counts-mute env.serve.files env.serve.c l.w l.out l.vs l.vs l.out.bytes [] (back_notes env.serve.c row)
        (counts-nothing env.serve.files env.serve.c l.w l.out l.vs) (tt, (tt, tt)) refl refl refl in
        let so = reads-so env.serve l.w l.out l.vs most start
        (adopted-so env.serve l.w l.out l.vs o.says [] frozen.block frozen.count held.holds frozen.frozen (back_notes env.serve.c row) notes) in
        let rests : stops.Rests env.serve (front_reads env.serve (back_reading env row (parts_of frozen.block frozen.count))) =
        stops.reads-rest env.serve start (λ over closed. absurd (both_ways false refl closed)) in
        let may = reads-stop env.serve start (adopted-serves env.serve l.w l.out l.vs o.says [] frozen.block frozen.count held.holds frozen.frozen held.serves) in
        subst (λ (p : EndpointParts). Came (front_reads env.serve (back_reading env row p)).service (front_reads env.serve (back_reading env row p)).target) (sym frozen.same)
        (so.0, rests, may.1)

    by-return : KeptByReturn env q [] row parts Came Goes
    by-return = record {
      reads = reads-back;
      holds = λ w came. held-settled w came;
      hands = λ w path choice came is. tt;
      waits = λ w path came is. waiting-stage (spoken env.serve (waiting_service env w) []).0 (open-turn (waiting_service env w) [] (frozen-open w.block came.2));
    }

  returns-end : (n epoch : ℕ) (given : Option EndpointParts) → HasBack x n epoch given heads → (row : FrontRow) (parts : EndpointParts)
      → IsBack q n epoch given row parts
      → KeptByReturn env q (given_sent env.serve.c n epoch given) row parts Came Goes
  returns-end n epoch None m row parts back = by-return n epoch m row parts back
  returns-end n epoch (Some found) m row parts back = absurd (no-give x at_place n epoch found m.bytes m.was m.spells)

  -- ---- whatever comes

  by-rules : KeptByFront env q (FrontComes x env heads) Came Goes
  by-rules = record {
    drops = tt;
    hears = λ bytes sd m. by-segment sd (heard-word x s env bytes heads env.serve.files l pend o sd m) bytes;
    fires = λ m. record {
      drops = tt;
      holds = λ row b at.
          let h : FrontHolds l.w l.out l.vs pend b (front_rest q.rest).count = agrees-at row (stage.Held b) at in
          let held : HeldStops env.serve.files b = stops-at row (stage.Held b) at in
          let same : Same b (after_timer b) = timer-same b in
          held-stage (front_fired env (front_rest q.rest) b).0
          (timed-end env.serve l.w s.iss l.out l.vs o.begins o.says [] b (front_rest q.rest).count h.holds (fired_before env b) (λ calm. reads-nothing (after_timer b)
          (⊎_elim (λ (t : HasStopped b). inl (same-stopped b (after_timer b) same t)) (λ (t : IsHeldBack env.serve.files b). inr (same-held env.serve.files b (after_timer b) same t)) held.1)));
      stays = λ row b at. waiting-stage (front_fired env (front_rest q.rest) b).0 (open-turn (fired_service q b) (fired_before env b) ((timer-same b).3 ∙ frozen-open b (agrees-at row (stage.Waiting b) at).1));
      resends = λ row n e at. tt;
    };
    takes = λ n epoch m row i e at same. tt;
    tags_again = λ n epoch ask m rest found there same some. tt;
    assigns_next = λ n epoch ask m rest found there next. told.front;
    ends_again = λ n epoch last m row found away again. tt;
    ends = λ n epoch last m. new-end (P last) x at_place epoch ((has-each (LetterEnds P q.row) (record { from = Node n; to = Front; bytes = m.told.bytes }) x.letters m.told.was told.packets) _ m.told.spells);
    gives_again = λ n epoch parts m row found past. tt;
    returns = λ n epoch given m row parts back. returns-end n epoch given m row parts back;
    admits = λ choice made met row b path at target. tt;
  }

  pub rule-ends : (g : FrontGets) → FrontComes x env heads g → PlaceEnds x (front_does x heads (front_rule env q g)) P
  rule-ends g comes = deed-place P x told heads (front_rule env q g) (front-keeps env q (FrontComes x env heads) Came Goes by-rules g (admission x env heads g comes) comes)
