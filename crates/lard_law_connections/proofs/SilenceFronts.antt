-- What the front end does with an endpoint keeps what each of its operations keeps.
use Rattle.std.proofs.Common.{false, ◌≡◌, ℕ, true, List, [], ◌∷◌, Option, Some, None, Ok, IfSome, refl}
use Rattle.lard_law_view.specs.Prelude.{Call, ControlBlock, Ending, EndpointParts, Final, FrontConn, FrontDeed, FrontEnv, FrontGets, FrontHears, FrontPart, FrontRest, FrontRow, Place, ReturnedBy, Said, Service, Turn, adopted, back_rest, front_fired, front_rest, front_rule, given_sent, is_plain_syn, is_row_at, last_words, leaves_by, listening, placed, returned_row, serving_settled, spoken, stage_after, tombstone}
use Rattle.lard_law_connections.specs.SilencePlaces.{FrontHas, FrontStageHas, KnownHas}
use Rattle.lard_law_connections.proofs.SilencePlaces.{front-known}
use Rattle.lard_law_connections.proofs.SilenceTurns.{AreTold, EndHas, IsKept, TurnHas, fired-has, nobody, reads-keep, settled-has, spoken-has}
use Rattle.lard_dispatch.specs.declared.dispatch.First.TheVariants as first
use Rattle.lard_dispatch.specs.Laws as call
use Rattle.lard_rules.specs.Front.{Drops, Says, Does}
use Rattle.lard_handoff_front.specs.declared.row.FrontConn.TheVariants as stage
use Rattle.lard_rules.specs.declared.places.Ending.TheVariants as ending
use Rattle.lard_rules.proofs.FrontCases.{IsAsGiven, IsBack, KeptByFront, KeptByReturn, KeptBySegment, KeptByTimer, front-keeps, of-stage, back_reading, begun_row, begun_service, heard_reading, heard_service, rests_in, waiting_service}

-- what it keeps behind a deed, and what goes out: by the endpoint that stays, and else by some endpoint or by any
abbrev pub DeedHas : (ControlBlock → Type 0) → (ControlBlock → Said → Type 0) → ℕ → FrontDeed → Type 0
DeedHas R Reply c Drops = Unit {0}
DeedHas R Reply c (Says turn) = (d : ControlBlock) → AreTold c (Reply d) turn.segments
DeedHas R Reply c (Does did) = KnownHas (λ (b : ControlBlock). R b × AreTold c (Reply b) did.turn.segments) did.part.row × ((d : ControlBlock) × AreTold c (Reply d) did.turn.segments)

module _ (env : FrontEnv) (P R : ControlBlock → Type 0) (Word : Said → Type 0) (Reply : ControlBlock → Said → Type 0) (k : IsKept env.serve P R Word Reply) (p : FrontPart) (h : FrontHas R p.row) where
  abbrev pub Goes : FrontDeed → Type 0
  Goes d = DeedHas R Reply env.serve.c d

  abbrev pub Turns : Ending × Turn → Type 0
  Turns given = TurnHas env.serve P R Word Reply k given

  -- an endpoint that stays is in a stage that has it
  abbrev Stays : (ControlBlock → FrontConn) → Type 1
  Stays stays = (Q : ControlBlock → Type 0) (b : ControlBlock) → Q b → FrontStageHas Q (stays b)

  stage-has : (stays : ControlBlock → FrontConn) → Stays stays → (ss : List (Place × List ℕ)) (e : Ending) → EndHas env.serve P R Word Reply k ss e
      → FrontStageHas (λ (b : ControlBlock). R b × AreTold env.serve.c (Reply b) ss) (stage_after stays e)
  stage-has stays to ss (ending.Here b count) r = to (λ (b : ControlBlock). R b × AreTold env.serve.c (Reply b) ss) b r
  stage-has stays to ss (ending.Over last) r = tt

  rests-has : (row : FrontRow) (rest : FrontRest) (stays : ControlBlock → FrontConn) → Stays stays → (given : Ending × Turn) (calls : List Call) → Turns given
      → Goes (rests_in p row rest stays given calls)
  rests-has row rest stays to given calls t = (stage-has stays to given.1.segments given.0 t.ends, t.sent)

  -- one that is to be placed waits
  waits-has : (row : FrontRow) (rest : FrontRest) (w : Service) (path : List ℕ) → P w.block → Goes (Does (placed env p row rest w path first.Waits))
  waits-has row rest w path r =
      let given : Ending × Turn = spoken env.serve (waiting_service env w) [] in
      rests-has row (record rest { target = Some path }) stage.Waiting (λ Q b q. q) given (call.First env.serve.c path env.now ∷ leaves_by env.serve.c given.0)
      (spoken-has env.serve P R Word Reply k (waiting_service env w) [] r tt)

  -- ---- segments: a new connection is listened to, and one that ended has last words

  module _ (s : Said) (word : Word s) (listens : p.row ≡ None → is_plain_syn s ≡ true → P (listening s env.iss))
      (closes : (row : FrontRow) (last : Final) → p.row ≡ Some row → row.stage ≡ stage.Closed last → IfSome (last_words last.reason last s) (λ (t : Said). (d : ControlBlock) → Reply d t)) where
    tombstone-has : (w : Option Said) → IfSome w (λ (t : Said). (d : ControlBlock) → Reply d t) → (d : ControlBlock) → AreTold env.serve.c (Reply d) (tombstone env.serve w).segments
    tombstone-has None r d = tt
    tombstone-has (Some t) r d = ((refl, (t, refl, r d)), tt)

    by-segment : (bytes : List ℕ) → KeptBySegment env p bytes s (λ w o. P w.block) Goes
    by-segment bytes = record {
      drops = tt;
      begins = λ none plain. rests-has begun_row (front_rest None) stage.Held (λ Q b q. q) (spoken env.serve (begun_service env s) []) [] (spoken-has env.serve P R Word Reply k (begun_service env s) [] (listens none plain) tt);
      reads = λ row b at. reads-keep env.serve (λ (w : Service). P w.block) k.serves (heard_reading p b s) (k.hears b s (of-stage (FrontHas R) p row (stage.Held b) at h) word);
      holds = λ row b w at r. rests-has row (front_rest p.rest) stage.Held (λ Q b q. q) (serving_settled env.serve w) [] (settled-has env.serve P R Word Reply k w r);
      hands = λ row b w path choice at r is. (tt, (w.block, tt));
      waits = λ row b w path at r is. waits-has row (front_rest p.rest) w path r;
      stays = λ row b at.
          let given : Ending × Turn = spoken env.serve (heard_service p b s) [] in
          rests-has row (front_rest p.rest) stage.Waiting (λ Q b q. q) given (leaves_by env.serve.c given.0)
          (spoken-has env.serve P R Word Reply k (heard_service p b s) [] (k.hears b s (of-stage (FrontHas R) p row (stage.Waiting b) at h) word) tt);
      forwards = λ row n e at d. tt;
      words = λ row last at. tombstone-has (last_words last.reason last s) (closes row last at.0 at.1);
    }

  -- ---- timers

  by-timer : KeptByTimer env p Goes
  by-timer = record {
    drops = tt;
    holds = λ row b at.
        rests-has row (front_rest p.rest) stage.Held (λ Q b q. q) (front_fired env (front_rest p.rest) b) [] (fired-has env.serve P R Word Reply k b (front_rest p.rest).count (of-stage (FrontHas R) p row (stage.Held b) at h));
    stays = λ row b at.
        let given : Ending × Turn = front_fired env (front_rest p.rest) b in
        rests-has row (front_rest p.rest) stage.Waiting (λ Q b q. q) given (leaves_by env.serve.c given.0) (fired-has env.serve P R Word Reply k b (front_rest p.rest).count (of-stage (FrontHas R) p row (stage.Waiting b) at h));
    resends = λ row n e at d. tt;
  }

  -- ---- a connection that comes back

  by-return : (said : List (Place × List ℕ)) (row : FrontRow) (parts : EndpointParts) → P (adopted parts) → KeptByReturn env p said row parts (λ w o. P w.block) Goes
  by-return said row parts adopts = record {
    reads = reads-keep env.serve (λ (w : Service). P w.block) k.serves (back_reading env row parts) adopts;
    holds = λ w r. rests-has (returned_row parts row) (back_rest parts) stage.Held (λ Q b q. q) (serving_settled env.serve w) []
        (settled-has env.serve P R Word Reply k w r);
    hands = λ w path choice r is. (tt, (w.block, tt));
    waits = λ w path r is. waits-has (returned_row parts row) (back_rest parts) w path r;
  }

module _ (R : ControlBlock → Type 0) where
  still-has : (n epoch : ℕ) (q : Option FrontRow) → is_row_at n epoch q ≡ true → FrontHas R q → KnownHas (λ (b : ControlBlock). R b × Unit {0}) q
  still-has n epoch None there r = let no : false ≡ true = there in absurd cc
  still-has n epoch (Some row) there r = front-known R _ (λ b r. (r, tt)) row (Some row) refl r

-- ---- whatever comes

module _ (env : FrontEnv) (P R : ControlBlock → Type 0) (Word : Said → Type 0) (Reply : ControlBlock → Said → Type 0)
    (k : IsKept env.serve P R Word Reply) (p : FrontPart) (h : FrontHas R p.row) where
  -- of a segment its word is known, what is listened to, and the last words of one that ended; and of one that comes back its endpoint
  abbrev pub Given : FrontGets → Type 0
  Given (FrontHears bytes (Ok s)) = Word s × (p.row ≡ None → is_plain_syn s ≡ true → P (listening s env.iss))
      × ((row : FrontRow) (last : Final) → p.row ≡ Some row → row.stage ≡ stage.Closed last
      → IfSome (last_words last.reason last s) (λ (t : Said). (d : ControlBlock) → Reply d t))
  Given (ReturnedBy n epoch given) = (row : FrontRow) (parts : EndpointParts) → IsBack p n epoch given row parts → P (adopted parts)
  Given _ = Unit {0}

  rules_have : KeptByFront env p Given (λ w o. P w.block) (DeedHas R Reply env.serve.c)
  rules_have = record {
    drops = tt;
    hears = λ bytes s m. by-segment env P R Word Reply k p h s m.0 m.1 m.2 bytes;
    fires = λ m. by-timer env P R Word Reply k p h;
    takes = λ n epoch m row node e at same. (tt, (nobody, tt));
    tags_again = λ n epoch ask m rest found there same some d. tt;
    assigns_next = λ n epoch ask m rest found there next. (still-has R n epoch p.row there h, (nobody, tt));
    ends_again = λ n epoch last m row found away again d. tt;
    ends = λ n epoch last m row found away. (tt, (nobody, tt));
    gives_again = λ n epoch parts m row found past d. tt;
    returns = λ n epoch given m row parts back. by-return env P R Word Reply k p h (given_sent env.serve.c n epoch given) row parts (m row parts back);
    admits = λ choice made met row b path at target. (tt, (nobody, tt));
  }

  pub rule-has : (g : FrontGets) → IsAsGiven env p g → Given g → DeedHas R Reply env.serve.c (front_rule env p g)
  rule-has g is m = front-keeps env p Given (λ w o. P w.block) (DeedHas R Reply env.serve.c) rules_have g is m
