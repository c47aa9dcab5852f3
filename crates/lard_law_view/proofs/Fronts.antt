-- What each rule of the front end says is of its connection.
use Rattle.std.proofs.Common.{◌≡◌, ℕ, ◌+◌, Bool, true, false, List, [], ◌∷◌, length, map, Option, Some, None, Result, Ok, Err, refl, sym, ap, ◌∙◌, subst, arith, inl, ◌++◌}
use Rattle.std.proofs.lemmas.Bool.{cond_both}
use Rattle.std.proofs.lemmas.List.Sums.{fold-append}
use Rattle.std.specs.List.{fold}
use Rattle.lard_law_view.specs.Prelude.{Ask, ControlBlock, Ending, EndpointParts, Epoch, Final, FirstChoice, Found, Front, FrontDeed, FrontEnv, FrontGets, FrontPart, FrontRest, FrontRow, FrontTurn, IsConnNumber, Later, LaterChoice, Place, Reading, Rec, Said, SegFault, ServeEnv, Service, Step, Turn, Verdict, ack_sent, answered_step, assigned_notes, assigns, back_rest, block_at, cut_of, does_first, forwarded, front_admitted, front_asked, front_ended, front_fired, front_gets, front_reads, front_rest, front_rule, front_saying, front_taken, front_timer, given_sent, good_path, handed_off, holds, last_words, may_freeze, may_read, offer_kept, on_segment, over_note, placed, reading_left, reading_turn, reads_block, reads_found, returned_row, sent_of, serving, serving_consumed, serving_ready_of, serving_settled, spoken, stands_first, tag_sent, targeted, tombstone, turn_here, waits_on, without}
use Rattle.lard_base.specs.declared.place.TimerKind.TheVariants as kind
use Rattle.lard_base.specs.declared.place.Via.TheVariants.{Own}
use Rattle.lard_block.specs.declared.block.Found.TheVariants.{Block, More, TooLong}
use Rattle.lard_law_view.proofs.Saying.{AreMessages, NotedAt}
use Rattle.lard_law_view.proofs.Turned.{AreHeld, HeldBy, IsSaid, as-held, front-segments, spelled}
use Rattle.lard_dispatch.specs.declared.dispatch.First.TheVariants as first
use Rattle.lard_endpoint.specs.Leaving as leaving
use Rattle.lard_rules.specs.Front.{Drops, Says, Does}
use Rattle.lard_history.proofs.Each.{Each, Each-append}
use Rattle.lard_history.proofs.Seeing.{has-behind}
use Rattle.lard_journal.specs.declared.rec.Rec.TheVariants as rec
use Rattle.lard_message.specs.declared.message.Body.TheVariants as body
use Rattle.lard_request.specs.declared.verdict.Code.TheVariants as code
use Rattle.lard_request.specs.declared.verdict.Verdict.TheVariants.{Fault}
use Rattle.lard_resend.proofs.Ordered.{drop_all}
use Rattle.lard_rules.specs.Loop as loop
use Rattle.lard_rules.proofs.Runs.{runs_keep}
use Rattle.lard_law_view.proofs.EndpointSends as endpoints
use Rattle.lard_law_view.proofs.PlaceTurns as turns
use Rattle.lard_law_view.proofs.PlaceTurns.{AreNoted, IsServingTurn, NotesServing}
use Rattle.lard_rules.proofs.FrontCases.{IsAsGiven, KeptByFront, KeptByReturn, KeptBySegment, KeptByTimer, admitted-keeps, asked-keeps, back_reading, begun_row, begun_service, ended-keeps, front-keeps, heard_reading, heard_service, segment-keeps, taken-keeps, timer-keeps, waiting_service}

-- A turn is of connection c.
abbrev pub IsFrontTurn : ℕ → FrontTurn → Type 0
IsFrontTurn c t = IsSaid Front c t.notes t.segments t.gave t.messages t.answered

-- A rule's turn is of connection c, and what is held then was held before or is sent in it.
abbrev pub IsFrontDeed : ℕ → FrontPart → FrontDeed → Type 0
IsFrontDeed c p Drops = Unit {0}
IsFrontDeed c p (Says t) = IsFrontTurn c t
IsFrontDeed c p (Does x) = IsFrontTurn c x.turn × AreHeld x.turn.messages p.kept x.part.kept

-- So is that of an admission, which answers nothing.
abbrev pub IsAdmission : ℕ → FrontPart → FrontPart × FrontTurn → Type 0
IsAdmission c p given = IsSaid Front c given.1.notes given.1.segments given.1.gave given.1.messages 0 × AreHeld given.1.messages p.kept given.0.kept

-- What is noted while requests are read is noted for each that is answered.
module _ (serve : ServeEnv) (N : Rec → Type 0) (noting : NotesServing serve N) where
  abbrev NotedBy : Service → Type 0
  NotedBy w = AreNoted serve N noting w

  abbrev NotedStep : Step Reading → Type 0
  NotedStep (loop.More y) = NotedBy y.service
  NotedStep (loop.Done y) = NotedBy y.service

  targeted-noted : (path : List ℕ) (x : Reading) → NotedBy x.service → NotedBy (targeted path x).service
  targeted-noted path x h = cond_both (may_freeze x.service.block) (record x { target = Some path }) x (λ y. NotedBy y.service) (λ t. h) (λ t. h)

  block-noted : (x : Reading) (n : ℕ) (v : Verdict) (o : Option (List ℕ)) → NotedBy x.service → NotedStep (reads_block serve x n v o)
  block-noted x n v None h = turns.answered-noted serve N noting Own v (serving_consumed n x.service) h
  block-noted x n v (Some path) h = targeted-noted path x h

  found-noted : (x : Reading) (f : Found) → NotedBy x.service → NotedStep (reads_found serve x f)
  found-noted x (More skip) h = turns.ended-noted serve N noting (serving_consumed skip x.service) h
  found-noted x (Block skip len) h = block-noted x (skip + len) (block_at x skip len) (good_path serve.files (block_at x skip len)) h
  found-noted x (TooLong skip) h = turns.answered-noted serve N noting Own (Fault code.FieldsTooLarge) (serving_consumed (length x.service.block.recv.unread) x.service) h

  turn-noted : (x : Reading) → NotedBy x.service → NotedStep (reading_turn serve x)
  turn-noted x h = cond_both (may_read x.service) (reads_found serve x (cut_of x.service.block.recv.unread)) (loop.Done x) NotedStep
      (λ t. found-noted x (cut_of x.service.block.recv.unread) h) (λ t. h)

  pub reads-noted : (x : Reading) → NotedBy x.service → NotedBy (front_reads serve x).service
  reads-noted x h = runs_keep (reading_turn serve) reading_left (λ y. NotedBy y.service) (record {
    more = λ y z e p. subst NotedStep e (turn-noted y p);
    done = λ y z e p. subst NotedStep e (turn-noted y p);
  }) x h

-- The front end acts on connection c, whose number is one, and what it holds of it goes to nodes.
module _ (env : FrontEnv) (own : env.serve.place ≡ Front) (number : IsConnNumber env.serve.c) where
  abbrev N : Rec → Type 0
  N r = NotedAt Front env.serve.c r

  noting : NotesServing env.serve N
  noting = record {
    served = λ r code size via. subst (λ (p : Place). N (rec.Served p env.serve.c r code size via)) (sym own) refl;
    reset = λ total. subst (λ (p : Place). N (rec.Reset p env.serve.c total)) (sym own) refl;
  }

  abbrev Noted : Service → Type 0
  Noted w = AreNoted env.serve N noting w

  abbrev IsOfFront : FrontTurn → Type 0
  IsOfFront t = IsFrontTurn env.serve.c t

  here-turn : (t : Turn) → IsServingTurn N env.serve.c t → IsOfFront (turn_here t)
  here-turn t h = record { notes = h.notes; segments = front-segments env.serve.c t.segments h.to; gave = tt; messages = tt; counted = h.answered }

  said-turn : (messages : List (Place × List ℕ)) → AreMessages env.serve.c Front messages → IsOfFront (front_saying messages)
  said-turn messages of = record { notes = tt; segments = tt; gave = tt; messages = of; counted = λ n. omega arith }

  -- nothing was noted yet
  fresh : (b : ControlBlock) (count : ℕ) → Noted (serving b count [])
  fresh b count = (tt, λ n. omega arith)

  fired-turn : (rest : FrontRest) (b : ControlBlock) → IsServingTurn N env.serve.c (front_fired env rest b).1
  fired-turn rest b = turns.spoken-turn env.serve N noting (serving (leaving.after_timer b) rest.count []) (serving_ready_of env.serve (leaving.after_timer b) (leaving.timed b))
      (endpoints.ready-to env.serve (leaving.after_timer b) (leaving.timed b)) (fresh (leaving.after_timer b) rest.count)

  -- ---- what each rule comes to

  module _ (p : FrontPart) (kept : AreMessages env.serve.c Front (map sent_of p.kept)) where
    abbrev IsDeed : FrontDeed → Type 0
    IsDeed d = IsFrontDeed env.serve.c p d

    as-before : (messages : List (Place × List ℕ)) → AreHeld messages p.kept p.kept
    as-before messages = as-held messages p.kept

    holds-deed : (row : FrontRow) (rest : FrontRest) (given : Ending × Turn) → IsServingTurn N env.serve.c given.1 → IsDeed (holds p row rest given)
    holds-deed row rest given h = (here-turn given.1 h, as-before [])

    waits-deed : (row : FrontRow) (rest : FrontRest) (given : Ending × Turn) → IsServingTurn N env.serve.c given.1 → IsDeed (waits_on env p row rest given)
    waits-deed row rest given h = (here-turn given.1 h, as-before [])

    handed-turn : (row : FrontRow) (w : Service) (path : List ℕ) (choice : FirstChoice) → Noted w
        → IsOfFront (handed_off env row w path choice).1 × AreHeld (handed_off env row w path choice).1.messages p.kept (handed_off env row w path choice).0.kept
    handed-turn row w path choice h = (
      record {
        notes = Each-append N w.notes (rec.Admitted env.serve.c ∷ rec.AssignedFirst env.serve.c (w.count + 1) path choice.node choice.add choice.remove ∷ []) h.0 (refl, (refl, tt));
        segments = tt;
        gave = (refl, tt);
        messages = ((tt, spelled env.serve.c _ _ number), tt);
        counted = λ n. fold-append answered_step n w.notes (rec.Admitted env.serve.c ∷ rec.AssignedFirst env.serve.c (w.count + 1) path choice.node choice.add choice.remove ∷ []) ∙ h.1 n;
      },
      (inl (inl refl), tt),
    )

    waiting-deed : (row : FrontRow) (w : Service) (path : List ℕ) → Noted w → IsDeed (Does (placed env p row (front_rest p.rest) w path first.Waits))
    waiting-deed row w path h =
        let given : Ending × Turn = spoken env.serve (waiting_service env w) [] in (
          here-turn given.1 (record {
            notes = Each-append N w.notes (rec.Waits env.serve.c ∷ []) h.0 (refl, tt);
            to = (turns.spoken-turn env.serve N noting w [] tt h).to;
            answered = λ n. fold-append answered_step n w.notes (rec.Waits env.serve.c ∷ []) ∙ h.1 n;
          }),
          as-before [],
        )

    -- ---- segments

    forwarded-deed : (node : ℕ) (epoch : Epoch) (bytes : List ℕ) → IsDeed (forwarded env node epoch bytes)
    forwarded-deed node epoch bytes = said-turn _ ((tt, spelled env.serve.c epoch.0 (body.Forward bytes) number), tt)

    tombstone-turn : (o : Option Said) → IsServingTurn N env.serve.c (tombstone env.serve o)
    tombstone-turn None = record { notes = tt; to = tt; answered = λ n. omega arith }
    tombstone-turn (Some s) = record { notes = tt; to = (refl, tt); answered = λ n. omega arith }

    by-segment : (bytes : List ℕ) (s : Said) → KeptBySegment env p bytes s (λ w o. Noted w) IsDeed
    by-segment bytes s = record {
      drops = tt;
      begins = λ none plain. holds-deed begun_row (front_rest None) (spoken env.serve (begun_service env s) []) (turns.spoken-turn env.serve N noting (begun_service env s) [] tt ((refl, tt), λ n. omega arith));
      reads = λ row b at. reads-noted env.serve N noting (heard_reading p b s) (fresh (on_segment b s).1 (front_rest p.rest).count);
      holds = λ row b w at h. holds-deed row (front_rest p.rest) (serving_settled env.serve w) (turns.settled-turn env.serve N noting w h);
      hands = λ row b w path choice at h is. handed-turn row w path choice h;
      waits = λ row b w path at h is. waiting-deed row w path h;
      stays = λ row b at. waits-deed row (front_rest p.rest) (spoken env.serve (heard_service p b s) []) (turns.spoken-turn env.serve N noting (heard_service p b s) [] tt (fresh (on_segment b s).1 (front_rest p.rest).count));
      forwards = λ row n e at. forwarded-deed n e bytes;
      words = λ row last at. here-turn _ (tombstone-turn (last_words last.reason last s));
    }

    pub gets-deed : (bytes : List ℕ) (r : Result Said SegFault) → IsDeed (front_gets env p bytes r)
    gets-deed bytes (Err fault) = tt
    gets-deed bytes (Ok s) = segment-keeps env p bytes s (λ w o. Noted w) IsDeed (by-segment bytes s)

    -- ---- timers

    by-timer : KeptByTimer env p IsDeed
    by-timer = record {
      drops = tt;
      holds = λ row b at. holds-deed row (front_rest p.rest) (front_fired env (front_rest p.rest) b) (fired-turn (front_rest p.rest) b);
      stays = λ row b at. waits-deed row (front_rest p.rest) (front_fired env (front_rest p.rest) b) (fired-turn (front_rest p.rest) b);
      resends = λ row n e at. said-turn (map sent_of p.kept) kept;
    }

    pub fires-deed : IsDeed (front_timer env p)
    fires-deed = timer-keeps env p IsDeed by-timer

    -- ---- messages of nodes

    pub taken-deed : (epoch : ℕ) → IsDeed (front_taken p epoch)
    taken-deed epoch = taken-keeps p IsDeed tt epoch (λ row n e at same. (said-turn [] tt, drop_all (HeldBy [] p.kept) kind.Offer 0 p.kept (as-before [])))

    tags : (from epoch n : ℕ) (nodes : List ℕ) → AreMessages env.serve.c Front (tag_sent env from epoch n nodes)
    tags from epoch n nodes = ((tt, spelled env.serve.c epoch (body.Tag n nodes) number), tt)

    assigned-noted : (ask : Ask) (r : ℕ) (paths : List (List ℕ)) (choices : List LaterChoice) → Each N (assigned_notes env.serve.c ask r paths choices)
    assigned-noted ask r [] choices = tt
    assigned-noted ask r (path ∷ paths) [] = tt
    assigned-noted ask r (path ∷ paths) (choice ∷ choices) = (refl, assigned-noted ask (r + 1) paths choices)

    assigned-counted : (ask : Ask) (r : ℕ) (paths : List (List ℕ)) (choices : List LaterChoice) (n : ℕ) → fold answered_step n (assigned_notes env.serve.c ask r paths choices) ≡ n + 0
    assigned-counted ask r [] choices n = omega arith
    assigned-counted ask r (path ∷ paths) [] n = omega arith
    assigned-counted ask r (path ∷ paths) (choice ∷ choices) n = assigned-counted ask (r + 1) paths choices n

    over-noted : (b : Bool) → Each N (over_note env.serve.c b)
    over-noted true = (refl, tt)
    over-noted false = tt

    over-counted : (b : Bool) (n : ℕ) → fold answered_step n (over_note env.serve.c b) ≡ n
    over-counted true n = refl
    over-counted false n = refl

    assigns-deed : (rest : FrontRest) (from epoch : ℕ) (ask : Ask) (l : Later) → IsDeed (Does (assigns env p rest from epoch ask l))
    assigns-deed rest from epoch ask l =
        let assigned : List Rec = assigned_notes env.serve.c ask rest.assigned ask.paths l.choices in (
          record {
            notes = Each-append N (over_note env.serve.c l.over) assigned (over-noted l.over) (assigned-noted ask rest.assigned ask.paths l.choices);
            segments = tt;
            gave = tt;
            messages = tags from epoch ask.number (map (λ x. x.node) l.choices);
            counted = λ n. fold-append answered_step n (over_note env.serve.c l.over) assigned ∙ ap (λ k. fold answered_step k assigned) (over-counted l.over n)
                ∙ assigned-counted ask rest.assigned ask.paths l.choices n;
          },
          as-before (tag_sent env from epoch ask.number (map (λ x. x.node) l.choices)),
        )

    pub asked-deed : (from epoch : ℕ) (ask : Ask) → IsDeed (front_asked env p from epoch ask)
    asked-deed from epoch ask = asked-keeps p IsDeed tt env from epoch ask (λ rest found there same some. said-turn _ (tags from epoch rest.asks rest.tag)) (λ rest found there next. assigns-deed rest from epoch ask (env.later ask))

    acks : (from epoch : ℕ) → AreMessages env.serve.c Front (ack_sent env from epoch)
    acks from epoch = ((tt, spelled env.serve.c epoch body.EndedAck number), tt)

    pub ended-deed : (from epoch : ℕ) (last : Final) → IsDeed (front_ended env p from epoch last)
    ended-deed from epoch last = ended-keeps p IsDeed tt env from epoch last (λ row found away again. said-turn _ (acks from epoch)) (λ row found away. (
      record { notes = (refl, (refl, tt)); segments = tt; gave = tt; messages = acks from epoch; counted = λ n. omega arith },
      drop_all (HeldBy (ack_sent env from epoch) p.kept) kind.Offer 0 p.kept (as-before (ack_sent env from epoch)),
    ))

    -- ---- a connection that comes back

    givens : (from epoch : ℕ) (given : Option EndpointParts) → AreMessages env.serve.c Front (given_sent env.serve.c from epoch given)
    givens from epoch None = tt
    givens from epoch (Some parts) = ((tt, spelled env.serve.c epoch body.Given number), tt)

    -- behind messages of its own a deed is as it is without them
    first-turn : (said : List (Place × List ℕ)) (t : FrontTurn) → AreMessages env.serve.c Front said → IsOfFront t → IsOfFront (stands_first [] said t)
    first-turn said t of h = record { notes = h.notes; segments = h.segments; gave = h.gave; messages = Each-append _ said t.messages of h.messages; counted = h.counted }

    left : (messages : List (Place × List ℕ)) → AreHeld messages p.kept (without kind.Offer 0 p.kept)
    left messages = drop_all (HeldBy messages p.kept) kind.Offer 0 p.kept (as-before messages)

    by-return : (said : List (Place × List ℕ)) (row : FrontRow) (parts : EndpointParts) → AreMessages env.serve.c Front said → KeptByReturn env p said row parts (λ w o. Noted w) IsDeed
    by-return said row parts of = record {
      reads = reads-noted env.serve N noting (back_reading env row parts) ((refl, (refl, tt)), λ n. omega arith);
      holds = λ w h. (first-turn said _ of (here-turn (serving_settled env.serve w).1 (turns.settled-turn env.serve N noting w h)), left (said ++ []));
      hands = λ w path choice h is. (first-turn said _ of (handed-turn (returned_row parts row) w path choice h).0, (inl (has-behind (sent_of (offer_kept env.serve.c (returned_row parts row) w.block w.count choice.node)) said _ (inl refl)), tt));
      waits = λ w path h is. (first-turn said _ of (waiting-deed (returned_row parts row) w path h).0, left (said ++ []));
    }

    -- ---- the head of the line

    abbrev Admits : FrontPart × FrontTurn → Type 0
    Admits given = IsAdmission env.serve.c p given

    pub admitted-turn : (choice : FirstChoice) (given : FrontPart × FrontTurn) → front_admitted env p choice ≡ Some given → Admits given
    admitted-turn choice = admitted-keeps env p choice Admits (λ row b path at target. handed-turn row (serving b (front_rest p.rest).count []) path choice (fresh b (front_rest p.rest).count))

    -- ---- whatever comes

    abbrev Anything : FrontGets → Type 0
    Anything g = Unit {0}

    by-rules : KeptByFront env p Anything (λ w o. Noted w) IsDeed
    by-rules = record {
      drops = tt;
      hears = λ bytes s m. by-segment bytes s;
      fires = λ m. by-timer;
      takes = λ n epoch m row node e at same. (said-turn [] tt, drop_all (HeldBy [] p.kept) kind.Offer 0 p.kept (as-before []));
      tags_again = λ from epoch ask m rest found there same some. said-turn _ (tags from epoch rest.asks rest.tag);
      assigns_next = λ from epoch ask m rest found there next. assigns-deed rest from epoch ask (env.later ask);
      ends_again = λ from epoch last m row found away again. said-turn _ (acks from epoch);
      ends = λ from epoch last m row found away. (
        record { notes = (refl, (refl, tt)); segments = tt; gave = tt; messages = acks from epoch; counted = λ n. omega arith },
        drop_all (HeldBy (ack_sent env from epoch) p.kept) kind.Offer 0 p.kept (as-before (ack_sent env from epoch)),
      );
      gives_again = λ from epoch parts m row found past. said-turn _ (givens from epoch (Some parts));
      returns = λ from epoch given m row parts at. by-return (given_sent env.serve.c from epoch given) row parts (givens from epoch given);
      admits = λ choice given m row b path at target. handed-turn row (serving b (front_rest p.rest).count []) path choice (fresh b (front_rest p.rest).count);
    }

    pub rule-deed : (g : FrontGets) → IsAsGiven env p g → IsDeed (front_rule env p g)
    rule-deed g is = front-keeps env p Anything (λ w o. Noted w) IsDeed by-rules g is tt
