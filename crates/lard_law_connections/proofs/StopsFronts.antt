-- The front end reads until no request is left, or the next one is to be placed.
use Rattle.std.proofs.Common.{◌≡◌, ◌⊎◌, ◌+◌, ◌<◌, ℕ, zero, suc, Bool, true, false, List, [], length, Option, Some, None, inl, inr, ⊎_elim, refl, sym, ◌∙◌, arith}
use Rattle.std.proofs.lemmas.Bool.{both_ways, cond_both}
use Rattle.lard_law_view.specs.Prelude.{Conn, ControlBlock, Done, Ending, EndpointParts, FilesAt, Found, FrontConn, FrontDeed, FrontEnv, FrontGets, FrontPart, FrontRow, HasStopped, More, Place, Reading, Said, Seen, ServeEnv, Service, Step, Verdict, after_timer, answered, block_at, cut_of, front_does, front_fired, front_reads, front_rest, front_rule, given_sent, good_path, grown, may_freeze, may_read, on_segment, reading_left, reading_turn, reads_block, reads_found, runs_on, serving_consumed, serving_settled, speaks, spoken, stage_after, targeted}
use Rattle.lard_base.specs.declared.place.Via.TheVariants.{Own}
use Rattle.lard_block.specs.declared.block.Found.TheVariants as found
use Rattle.lard_law_connections.specs.Stops.{FrontStageStops, FrontStops, HeldStops, IsHeldBack, ReadingStopsBy}
use Rattle.lard_law_connections.proofs.StopsSame.{Same, Stays, answered-closes, closed-there, ended-stopped, none-behind, spoken-calm, same-held, same-stopped, segment-closes, speaks-same, timer-same}
use Rattle.lard_rules.specs.Front.{Drops, Says, Does}
use Rattle.lard_rules.proofs.FrontTurns.{falls}
use Rattle.lard_handoff_front.specs.declared.row.FrontConn.TheVariants as stage
use Rattle.lard_law_view.proofs.Stopping.{stopped-arrived, stopped-begun, stopped-discarding, unfinished-there}
use Rattle.lard_request.specs.declared.verdict.Code.TheVariants as code
use Rattle.lard_request.specs.declared.verdict.Verdict.TheVariants.{Fault}
use Rattle.lard_rules.specs.declared.places.Ending.TheVariants as ending
use Rattle.lard_rules.proofs.FrontCases.{KeptByReturn, KeptBySegment, IsInStage, of-stage, back_service, begun_service, fired_before, fired_service, heard_service, waiting_service, IsAsGiven, KeptByFront, front-keeps}
use Rattle.lard_rules.proofs.Endings.{settled-keeps}

-- ---- the loop

-- one that closed has stopped, unless it is to be reset or was
abbrev pub MayRest : Service → Type 0
MayRest s = s.over ≡ None → s.block.send.finished ≡ true → HasStopped s.block

module _ (env : ServeEnv) where
  -- no request is left, or the next one is held back; unless it is to be reset, or was, or is to be placed
  abbrev pub Rests : Reading → Type 0
  Rests x = x.target ≡ None → x.service.over ≡ None → x.service.block.reset ≡ false → HasStopped x.service.block ⊎ IsHeldBack env.files x.service.block

  abbrev StepRests : Step Reading → Type 0
  StepRests (More y) = MayRest y.service × (y.target ≡ None)
  StepRests (Done y) = Rests y

  answers-rest : (v : Verdict) (n : ℕ) (s : Service) → may_read s ≡ true → MayRest (answered env Own v (serving_consumed n s))
  answers-rest v n s may none closed = stopped-discarding (answered env Own v (serving_consumed n s)).block (answered-closes env Own v (serving_consumed n s) (unfinished-there s may) closed)

  targeted-rests : (x : Reading) (path : List ℕ) → IsHeldBack env.files x.service.block ⊎ (may_freeze x.service.block ≡ true) → Rests (targeted path x)
  targeted-rests x path h = cond_both (may_freeze x.service.block) (record x { target = Some path }) x Rests
      (λ t none. absurd (let no : Some path ≡ None = none in cc))
      (λ t none over calm. inr (⊎_elim (λ held. held) (λ may. absurd (both_ways (may_freeze x.service.block) t may)) h))

  good-rests : (x : Reading) (skip len : ℕ) (path : List ℕ) → cut_of x.service.block.recv.unread ≡ found.Block skip len → good_path env.files (block_at x skip len) ≡ Some path → may_read x.service ≡ true → Rests (targeted path x)
  good-rests x skip len path is good may = targeted-rests x path (go (may_freeze x.service.block) refl) where
    go : (t : Bool) → may_freeze x.service.block ≡ t → IsHeldBack env.files x.service.block ⊎ (may_freeze x.service.block ≡ true)
    go true e = inr e
    go false e = inl (record { skip = skip; len = len; path = path; found = is; good = good }, unfinished-there x.service may, e)

  found-rests : (x : Reading) → x.target ≡ None → may_read x.service ≡ true → (f : Found) → cut_of x.service.block.recv.unread ≡ f → StepRests (reads_found env x f)
  found-rests x none may (found.More skip) is = λ t over calm. inl (ended-stopped (serving_consumed skip x.service) (unfinished-there x.service may) (none-behind x.service.block.recv.unread skip is))
  found-rests x none may (found.Block skip len) is = by_path (good_path env.files (block_at x skip len)) refl where
    by_path : (o : Option (List ℕ)) → good_path env.files (block_at x skip len) ≡ o → StepRests (reads_block env x (skip + len) (block_at x skip len) o)
    by_path None e = (answers-rest (block_at x skip len) (skip + len) x.service may, none)
    by_path (Some path) e = good-rests x skip len path is e may
  found-rests x none may (found.TooLong skip) is = (answers-rest (Fault code.FieldsTooLarge) (length x.service.block.recv.unread) x.service may, none)

  turn-rests : (x : Reading) → MayRest x.service → x.target ≡ None → StepRests (reading_turn env x)
  turn-rests x h none = cond_both (may_read x.service) (reads_found env x (cut_of x.service.block.recv.unread)) (Done x) StepRests
      (λ may. found-rests x none may (cut_of x.service.block.recv.unread) refl)
      (λ may t over calm. inl (h over (closed-there x.service over calm may)))

  stops-on : (n : ℕ) (x : Reading) → reading_left x < n → MayRest x.service → x.target ≡ None → Rests (runs_on n (reading_turn env) x)
  unfolding runs_on
  stops-on zero x less h none = absurd (omega (arith, less))
  stops-on (suc n) x less h none = go (reading_turn env x) refl (turn-rests x h none) (stops-on n) where
    go : (s : Step Reading) → reading_turn env x ≡ s → StepRests s → ((y : Reading) → reading_left y < n → MayRest y.service → y.target ≡ None → Rests (runs_on n (reading_turn env) y)) → Rests (elim s as (λ s. Reading) [ More y ↦ runs_on n (reading_turn env) y | Done y ↦ y ])
    go (More y) e k later = let fall = falls env x y e in later y (omega (arith, fall, less)) k.0 k.1
    go (Done y) e k later = k

  pub reads-rest : (s : Service) → MayRest s → Rests (front_reads env (record { service = s; target = None }))
  reads-rest s h = stops-on (reading_left (record { service = s; target = None }) + 1) (record { service = s; target = None }) (omega arith) h refl

  -- ---- the end of a turn

  spoken-stops : (s : Service) (before : List (Place × List ℕ)) → (s.block.reset ≡ false → HasStopped s.block ⊎ IsHeldBack env.files s.block) → Stays (HeldStops env.files) (spoken env s before).0
  spoken-stops s before h =
      let b : ControlBlock = (speaks env.c s.block).1 in
      let same : Same s.block b = speaks-same env.c s.block in
      spoken-calm (HeldStops env.files) env s before (λ calm. (
        calm,
        ⊎_elim
            (λ (t : HasStopped s.block). inl (same-stopped s.block b same t))
            (λ (t : IsHeldBack env.files s.block). inr (same-held env.files s.block b same t))
            (h (sym same.4 ∙ calm)),
      ))

  settled-stops : (s : Service) → (s.over ≡ None → s.block.reset ≡ false → HasStopped s.block ⊎ IsHeldBack env.files s.block) → Stays (HeldStops env.files) (serving_settled env s).0
  settled-stops s h = settled-keeps (λ given. Stays (HeldStops env.files) given.0) env s (λ e. spoken-stops s [] (h e)) (λ total e. tt)

-- ---- what the front end keeps

-- what it keeps behind a deed
abbrev pub DeedStops : FilesAt → FrontDeed → Type 0
DeedStops files Drops = Unit {0}
DeedStops files (Says turn) = Unit {0}
DeedStops files (Does did) = FrontStops files did.part.row

module _ (env : FrontEnv) (p : FrontPart) (h : FrontStops env.serve.files p.row) where
  abbrev own : FilesAt
  own = env.serve.files

  abbrev Goes : FrontDeed → Type 0
  Goes d = DeedStops own d

  stage-held : (e : Ending) → Stays (HeldStops own) e → FrontStageStops own (stage_after stage.Held e)
  stage-held (ending.Here b count) k = k
  stage-held (ending.Over last) k = tt

  stage-waiting : (e : Ending) → FrontStageStops own (stage_after stage.Waiting e)
  stage-waiting (ending.Here b count) = tt
  stage-waiting (ending.Over last) = tt

  -- in this stage
  held-row : (row : FrontRow) (st : FrontConn) → IsInStage p row st → FrontStageStops own st
  held-row row st at = of-stage (FrontStops own) p row st at h

  -- what was read is to be placed, or has stopped
  abbrev Came : Service → Option (List ℕ) → Type 0
  Came w t = t ≡ None → w.over ≡ None → w.block.reset ≡ false → HasStopped w.block ⊎ IsHeldBack own w.block

  -- a segment that arrives leaves it stopped where it is closed
  pub arrived-stops : (b : ControlBlock) (s : Said) → HeldStops own b → (on_segment b s).1.send.finished ≡ true → HasStopped (on_segment b s).1
  arrived-stops b s held closed =
      let same = segment-closes b s in
      ⊎_elim (λ (t : HasStopped b). stopped-arrived b s same t closed) (λ (t : IsHeldBack own b). absurd (both_ways b.send.finished t.1 (sym same ∙ closed))) held.1

  by-segment : (bytes : List ℕ) (s : Said) → KeptBySegment env p bytes s Came Goes
  by-segment bytes s = record {
    drops = tt;
    begins = λ none plain. stage-held (spoken env.serve (begun_service env s) []).0 (spoken-stops env.serve (begun_service env s) [] (λ calm. inl (stopped-begun s env.iss)));
    reads = λ row b at. reads-rest env.serve (heard_service p b s) (λ none closed. arrived-stops b s (held-row row (stage.Held b) at) closed);
    holds = λ row b w at k. stage-held (serving_settled env.serve w).0 (settled-stops env.serve w (k refl));
    hands = λ row b w path choice at k is. tt;
    waits = λ row b w path at k is. stage-waiting (spoken env.serve (waiting_service env w) []).0;
    stays = λ row b at. stage-waiting (spoken env.serve (heard_service p b s) []).0;
    forwards = λ row n e at. tt;
    words = λ row last at. tt;
  }

  fired-stops : (row : FrontRow) (b : ControlBlock) → HeldStops own b → Stays (HeldStops own) (front_fired env (front_rest p.rest) b).0
  fired-stops row b held =
      let same : Same b (after_timer b) = timer-same b in
      spoken-stops env.serve (fired_service p b) (fired_before env b) (λ calm.
      ⊎_elim (λ (t : HasStopped b). inl (same-stopped b (after_timer b) same t)) (λ (t : IsHeldBack own b). inr (same-held own b (after_timer b) same t)) held.1)

  -- one that comes back is not closed
  by-return : (said : List (Place × List ℕ)) (row : FrontRow) (parts : EndpointParts) → KeptByReturn env p said row parts Came Goes
  by-return said row parts = record {
    reads = reads-rest env.serve (back_service env row parts) (λ none closed. absurd (both_ways false refl closed));
    holds = λ w k. stage-held (serving_settled env.serve w).0 (settled-stops env.serve w (k refl));
    hands = λ w path choice k is. tt;
    waits = λ w path k is. stage-waiting (spoken env.serve (waiting_service env w) []).0;
  }

  by-rules : KeptByFront env p (λ g. Unit {0}) Came Goes
  by-rules = record {
    drops = tt;
    hears = λ bytes s m. by-segment bytes s;
    fires = λ m. record {
      drops = tt;
      holds = λ row b at. stage-held (front_fired env (front_rest p.rest) b).0 (fired-stops row b (held-row row (stage.Held b) at));
      stays = λ row b at. stage-waiting (front_fired env (front_rest p.rest) b).0;
      resends = λ row n e at. tt;
    };
    takes = λ n epoch m row node e at same. tt;
    tags_again = λ n epoch ask m rest found there same some. tt;
    assigns_next = λ n epoch ask m rest found there next. h;
    ends_again = λ n epoch last m row found away again. tt;
    ends = λ n epoch last m row found away. tt;
    gives_again = λ n epoch parts m row found past. tt;
    returns = λ n epoch given m row parts back. by-return (given_sent env.serve.c n epoch given) row parts;
    admits = λ choice made met row b path at target. tt;
  }

  pub rule-stops : (g : FrontGets) → IsAsGiven env p g → Goes (front_rule env p g)
  rule-stops g is = front-keeps env p (λ g. Unit {0}) Came Goes by-rules g is tt

-- ---- its move

pub front-move : (leaving : ℕ → Bool) (files : FilesAt) (x : Conn) (heads : List Seen) (d : FrontDeed) → DeedStops files d → ReadingStopsBy leaving files x
    → ReadingStopsBy leaving files (grown x (front_does x heads d))
front-move leaving files x heads Drops k h = h
front-move leaving files x heads (Says turn) k h = h
front-move leaving files x heads (Does did) k h = (k, h.1)
