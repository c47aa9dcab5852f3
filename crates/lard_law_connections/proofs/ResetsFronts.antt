-- What the front end does keeps the law of RST.
use Rattle.std.proofs.Common.{ℕ, Bool, List, [], ◌∷◌, ◌++◌, map, Option, Some, None, subst}
use Rattle.lard_law_view.specs.Prelude.{Call, Conn, ControlBlock, Ending, EndpointParts, Final, FirstChoice, Front, FrontConn, FrontDeed, FrontEnv, FrontGets, FrontPart, FrontRest, FrontRow, FrontTurn, IsConnSound, IsFrontEnv, Later, Node, Place, Rec, Said as Segment, Seen, Service, Setting, Turn, ack_sent, after_timer, assigned_notes, back_part, back_rest, does_first, front_does, front_fired, front_rest, front_rule, front_saying, given_sent, handed_off, holds, last_words, leaves_by, over_note, placed, returned_row, sent_of, serving, serving_settled, spoken, stage_after, tag_sent, tale_at, tombstone, turn_here, waits_on}
use Rattle.lard_law_view.proofs.EachFront.{FrontComes, admission}
use Rattle.lard_dispatch.specs.declared.dispatch.First.TheVariants as first
use Rattle.lard_dispatch.specs.Laws as call
use Rattle.lard_handoff_front.specs.declared.row.FrontConn.TheVariants as stage
use Rattle.lard_history.proofs.Each.{Each, Each-append}
use Rattle.lard_history.proofs.Seeing.{has-each}
use Rattle.lard_law_connections.specs.ResetsLaws.{EndsAfter, LetterEndsBehind, RowEndsBehind, StageEndsBehind}
use Rattle.lard_law_connections.proofs.ResetsMoves.{IsBehindResets, MoveResets, kept-fair}
use Rattle.lard_law_connections.proofs.ResetsRows.{AllKeepRst, IsUnsentSeen, KeepsRst, resets-stay, resets_on, row-more}
use Rattle.lard_law_connections.proofs.ResetsTurns.{EndingAfter, IsBehind, SayTo, TurnResets, are-fair, reads-behind, settled-resets, spoken-resets, timed-plain, tombstone-says}
use Rattle.lard_message.specs.declared.message.Body.TheVariants as body
use Rattle.lard_rules.specs.declared.places.Ending.TheVariants as ending
use Rattle.lard_rules.specs.Front.{Does, Drops, Says, message}
use Rattle.lard_rules.proofs.FrontCases.{KeptByFront, KeptByReturn, KeptBySegment, back_reading, begun_row, begun_service, fired_before, front-keeps, hands_off, heard_reading, heard_service, of-stage, rests_in, waiting_service}

module _ (k : Setting) (x : Conn) (sound_x : IsConnSound x) (h : IsBehindResets x) (heads : List Seen) (seen : Each IsUnsentSeen heads) (env : FrontEnv) (is : IsFrontEnv k x.c env) where
  abbrev p : FrontPart
  p = x.part.front

  abbrev was : Bool
  was = (tale_at x).was_reset

  abbrev Stays : FrontDeed → Type 0
  Stays d = MoveResets x (front_does x heads d)

  dropped : Stays Drops
  dropped = record { heads = seen; segments = tt; messages = tt; front = h.ends.front }

  says : (ms : List (Place × List ℕ)) → AllKeepRst was Front ms → Stays (Says (front_saying ms))
  says ms fair = record { heads = seen; segments = tt; messages = fair; front = h.ends.front }

  -- a stage in which nothing is kept of an end
  abbrev IsFree : FrontConn → Type 0
  IsFree st = (b : Bool) → StageEndsBehind b st

  -- ---- an endpoint that is here

  -- behind messages that may be sent whether it was reset or not
  abbrev IsFair : List (Place × List ℕ) → Type 0
  IsFair said = (b : Bool) → AllKeepRst b Front said

  ends-behind : (said : List (Place × List ℕ)) → IsFair said
      → (q : FrontPart) (row : FrontRow) (rest : FrontRest) (stays : ControlBlock → FrontConn) (given : Ending × Turn) (calls : List Call)
      → ((b : ControlBlock) → IsFree (stays b)) → TurnResets env.serve.c was given → Stays (does_first [] said (rests_in q row rest stays given calls))
  ends-behind said fair q row rest stays given calls free turn =
      let t : TurnResets x.c was given = subst (λ (c : ℕ). TurnResets c was given) is.number turn in
      let then : Bool = resets_on x.c was given.1.notes in
      record {
        heads = seen;
        segments = are-fair x.c then Front given.1.segments t.says;
        messages = Each-append (KeepsRst then Front) said [] (fair then) tt;
        front = go then given.0 t.ends;
      } where
        go : (then : Bool) (e : Ending) → EndingAfter then e → StageEndsBehind then (stage_after stays e)
        go then (ending.Here b count) a = free b then
        go then (ending.Over last) a = a

  held-free : (b : ControlBlock) → IsFree (stage.Held b)
  held-free b reset = tt

  waiting-free : (b : ControlBlock) → IsFree (stage.Waiting b)
  waiting-free b reset = tt

  holds-behind : (row : FrontRow) (rest : FrontRest) (given : Ending × Turn) → TurnResets env.serve.c was given → Stays (holds p row rest given)
  holds-behind row rest given turn = ends-behind [] (λ b. tt) p row rest stage.Held given [] held-free turn

  waits-behind : (row : FrontRow) (rest : FrontRest) (given : Ending × Turn) → TurnResets env.serve.c was given → Stays (waits_on env p row rest given)
  waits-behind row rest given turn = ends-behind [] (λ b. tt) p row rest stage.Waiting given (leaves_by env.serve.c given.0) waiting-free turn

  -- one that is placed waits
  placed-behind : (said : List (Place × List ℕ)) → IsFair said → (q : FrontPart) (row : FrontRow) (rest : FrontRest) (w : Service) (path : List ℕ)
      → Stays (does_first [] said (Does (placed env q row rest w path first.Waits)))
  placed-behind said fair q row rest w path =
      let given : Ending × Turn = spoken env.serve (waiting_service env w) [] in
      ends-behind said fair q row (record rest { target = Some path }) stage.Waiting given (call.First env.serve.c path env.now ∷ leaves_by env.serve.c given.0)
      waiting-free (spoken-resets env.serve was (waiting_service env w) [] tt)

  -- it is handed off: an Offer goes out, and no segment
  handed-behind : (said : List (Place × List ℕ)) → IsFair said → (row : FrontRow) (s : Service) (path : List ℕ) (choice : FirstChoice) (calls : List Call)
      → Stays (does_first [] said (hands_off env row s path choice calls))
  handed-behind said fair row s path choice calls =
      let turn : FrontTurn = (handed_off env row s path choice).1 in
      let then : Bool = resets_on x.c was turn.notes in
      record { heads = seen; segments = tt; messages = Each-append (KeepsRst then Front) said turn.messages (fair then) ((tt, tt), tt); front = tt }

  -- ---- a segment

  tombstone-behind : (last : Final) (s : Segment) → EndsAfter was last.reason → Stays (Says (turn_here (tombstone env.serve (last_words last.reason last s))))
  tombstone-behind last s after = go (last_words last.reason last s) (tombstone-says env.serve was last s after) where
    go : (o : Option Segment) → SayTo env.serve.c was (tombstone env.serve o).segments → Stays (Says (turn_here (tombstone env.serve o)))
    go None say = dropped
    go (Some s) say = record { heads = seen; segments = are-fair env.serve.c was Front (tombstone env.serve (Some s)).segments say; messages = tt; front = h.ends.front }

  by-segment : (bytes : List ℕ) (s : Segment) → KeptBySegment env p bytes s (λ w o. IsBehind env.serve was w) Stays
  by-segment bytes s = record {
    drops = dropped;
    begins = λ none plain. holds-behind begun_row (front_rest None) (spoken env.serve (begun_service env s) []) (spoken-resets env.serve was (begun_service env s) [] tt);
    reads = λ row b at. reads-behind env.serve was (heard_reading p b s) tt;
    holds = λ row b w at behind. holds-behind row (front_rest p.rest) (serving_settled env.serve w) (settled-resets env.serve was w behind);
    hands = λ row b w path choice at behind is. handed-behind [] (λ b. tt) row w path choice (call.First env.serve.c path env.now ∷ []);
    waits = λ row b w path at behind is. placed-behind [] (λ b. tt) p row (front_rest p.rest) w path;
    stays = λ row b at. waits-behind row (front_rest p.rest) (spoken env.serve (heard_service p b s) []) (spoken-resets env.serve was (heard_service p b s) [] tt);
    forwards = λ row n e at. says ((Node n, message env.serve.c e.0 (body.Forward bytes)) ∷ []) ((tt, tt), tt);
    words = λ row last at. tombstone-behind last s (of-stage (RowEndsBehind was) p row (stage.Closed last) at h.ends.front);
  }

  -- ---- timers

  fired-behind : (rest : FrontRest) (b : ControlBlock) → TurnResets env.serve.c was (front_fired env rest b)
  fired-behind rest b = spoken-resets env.serve was (serving (after_timer b) rest.count []) (fired_before env b) (timed-plain env.serve b)

  -- ---- a connection that comes back

  given-fair : (n epoch : ℕ) (given : Option EndpointParts) → IsFair (given_sent env.serve.c n epoch given)
  given-fair n epoch None b = tt
  given-fair n epoch (Some parts) b = ((tt, tt), tt)

  by-return : (said : List (Place × List ℕ)) → IsFair said → (row : FrontRow) (parts : EndpointParts)
      → KeptByReturn env p said row parts (λ w o. IsBehind env.serve was w) Stays
  by-return said fair row parts = record {
    reads = reads-behind env.serve was (back_reading env row parts) tt;
    holds = λ w behind. ends-behind said fair (back_part p row parts) (returned_row parts row) (back_rest parts) stage.Held (serving_settled env.serve w) []
        held-free (settled-resets env.serve was w behind);
    hands = λ w path choice behind is. handed-behind said fair (returned_row parts row) w path choice (call.First env.serve.c path env.now ∷ []);
    waits = λ w path behind is. placed-behind said fair (back_part p row parts) (returned_row parts row) (back_rest parts) w path;
  }

  by-rules : KeptByFront env p (FrontComes x env heads) (λ w o. IsBehind env.serve was w) Stays
  by-rules = record {
    drops = dropped;
    hears = λ bytes s m. by-segment bytes s;
    fires = λ m. record {
      drops = dropped;
      holds = λ row b at. holds-behind row (front_rest p.rest) (front_fired env (front_rest p.rest) b) (fired-behind (front_rest p.rest) b);
      stays = λ row b at. waits-behind row (front_rest p.rest) (front_fired env (front_rest p.rest) b) (fired-behind (front_rest p.rest) b);
      resends = λ row n e at. says (map sent_of p.kept) (kept-fair x Front p.kept h.ends sound_x.front);
    };
    takes = λ n epoch m row node e at same. record { heads = seen; segments = tt; messages = tt; front = tt };
    tags_again = λ n epoch ask m rest found there same some. says (tag_sent env n epoch rest.asks rest.tag) ((tt, tt), tt);
    assigns_next = λ n epoch ask m rest found there next.
        let l : Later = env.later ask in
        let notes : List Rec = over_note env.serve.c l.over ++ assigned_notes env.serve.c ask rest.assigned ask.paths l.choices in
        record { heads = seen; segments = tt; messages = ((tt, tt), tt); front = row-more was (resets_on x.c was notes) p.row (resets-stay x.c notes was) h.ends.front };
    ends_again = λ n epoch last m row found away again. says (ack_sent env n epoch) ((tt, tt), tt);
    -- an Ended that came tells the limit only of a connection that was reset
    ends = λ n epoch last m row found away.
        let said = has-each (record { from = Node n; to = Front; bytes = m.told.bytes }) (LetterEndsBehind was) x.letters m.told.was h.ends.letters in
        record { heads = seen; segments = tt; messages = ((tt, tt), tt); front = said _ m.told.spells };
    gives_again = λ n epoch parts m row found past. says (given_sent env.serve.c n epoch (Some parts)) (given-fair n epoch (Some parts) was);
    returns = λ n epoch given m row parts back. by-return (given_sent env.serve.c n epoch given) (given-fair n epoch given) row parts;
    admits = λ choice made met row b path at target. handed-behind [] (λ b. tt) row (serving b (front_rest p.rest).count []) path choice [];
  }

  -- whatever comes
  pub front-behind : (g : FrontGets) → FrontComes x env heads g → Stays (front_rule env p g)
  front-behind g comes = front-keeps env p (FrontComes x env heads) (λ w o. IsBehind env.serve was w) Stays by-rules g (admission x env heads g comes) comes
