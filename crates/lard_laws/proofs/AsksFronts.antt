-- What each rule of the front end makes of Asks.
use Rattle.std.proofs.Common.{◌≡◌, ◌+◌, ℕ, false, cond, List, [], ◌∷◌, ◌++◌, map, Option, Some, None, refl, sym, ap, ◌∙◌, subst}
use Rattle.std.proofs.lemmas.List.{map-append}
use Rattle.std.proofs.lemmas.List.Sums.{fold-append}
use Rattle.std.specs.List.{fold}
use Rattle.lard_law_view.specs.Prelude.{AskedBy, Body, Call, Client, Conn, ControlBlock, Ending, EndpointParts, FirstChoice, Front, FrontConn, FrontDeed, FrontEnv, FrontGets, FrontPart, FrontRest, FrontRow, FrontTurn, IsFrontEnv, Kept, Kind, Move, Node, Place, Rec, Said as Segment, Seen, Service, Setting, Turn, ack_sent, after_timer, back_part, back_rest, by_front, does_first, epoch_at, front_does, front_ends, front_fired, front_rest, front_rests, front_rule, front_saying, given_sent, handed_off, holds, kind_of, last_words, leaves_by, listed, next_epoch, placed, returned_row, sent_of, serving, serving_settled, spoken, stage_after, stands_first, timed, tombstone, turn_here, with_front}
use Rattle.lard_laws.specs.Asks.{Answered, AskTale, ask_in, ask_tale, is_tag, row_done, tag_to}
use Rattle.lard_laws.proofs.AsksMoving.{Answers, IsCalm, RowTold, StageTold, Told, calm-answers}
use Rattle.lard_laws.proofs.FrontReturning.{reads-note}
use Rattle.lard_law_connections.specs.MotionStory.{picked}
use Rattle.lard_law_connections.proofs.MotionElsewhere.{IsKnown, IsOfferKept}
use Rattle.lard_law_connections.proofs.MotionNodes.{IsFirst}
use Rattle.lard_law_connections.proofs.MotionPicking.{pick, pick-append, segments-none}
use Rattle.lard_law_connections.proofs.PlacesHeads.{head, spelled-some}
use Rattle.lard_law_connections.proofs.PlacesLoops.{settled-is, spoken-to}
use Rattle.lard_law_view.specs.View.{sending}
use Rattle.lard_law_view.proofs.Fine.{IsItsOwn}
use Rattle.lard_dispatch.specs.Laws as call
use Rattle.lard_dispatch.specs.declared.dispatch.First.TheVariants.{Waits}
use Rattle.lard_rules.specs.Front.{Does, Drops, Says, message}
use Rattle.lard_handoff_front.specs.declared.row.FrontConn.TheVariants as stage
use Rattle.lard_history.proofs.Each.{Each, Each-append}
use Rattle.lard_journal.specs.declared.rec.Rec.TheVariants as rec
use Rattle.lard_message.specs.declared.kind.Kind.TheVariants as kind
use Rattle.lard_message.specs.declared.message.Body.TheVariants as body
use Rattle.lard_rules.specs.declared.places.Ending.TheVariants as ending
use Rattle.lard_law_view.proofs.EndpointSends.{AllTo, ready-to}
use Rattle.lard_rules.proofs.FrontCases.{IsAsGiven, KeptByFront, KeptByReturn, KeptBySegment, back_service, begun_row, begun_service, fired_before, fired_service, front-keeps, hands_off, heard_service, of-stage, rests_in, waiting_service}

-- ---- messages

is-not-tag : (k : Kind) (e : ℕ) → (k ≡ kind.Tag → ⊥) → is_tag (Some (head k e)) ≡ false
is-not-tag kind.Tag e other = absurd (other refl)
is-not-tag _ e other = refl

-- one of another kind is no Tag
pub not-tagged : (n c e : ℕ) (b : Body) → (kind_of b ≡ kind.Tag → ⊥) → tag_to (rec.Sent 0 Front (Node n) (message c e b)) ≡ None
not-tagged n c e b other =
    ap (λ h. cond (is_tag h) (Some (n, message c e b)) None) (spelled-some _) ∙ ap (λ t. cond t (Some (n, message c e b)) None) (is-not-tag (kind_of b) (epoch_at (message c e b)) other)

pub tagged-is : (n c e number : ℕ) (nodes : List ℕ) → tag_to (rec.Sent 0 Front (Node n) (message c e (body.Tag number nodes))) ≡ Some (n, message c e (body.Tag number nodes))
tagged-is n c e number nodes = ap (λ h. cond (is_tag h) (Some (n, message c e (body.Tag number nodes))) None) (spelled-some _)

-- an Offer that is kept is sent again
resent-none : (ks : List Kept) → Each IsOfferKept ks → pick tag_to (map (sending Front) (map sent_of ks)) ≡ []
resent-none [] h = refl
resent-none (k ∷ ks) h = ap (λ o. listed o ++ pick tag_to (map (sending Front) (map sent_of ks))) (one k.to) ∙ resent-none ks h.1 where
  one : (to : Place) → tag_to (rec.Sent 0 Front to k.bytes) ≡ None
  one Front = refl
  one (Client d) = refl
  one (Node n) = ap (λ o. cond (is_tag o) (Some (n, k.bytes)) None) h.0.1

-- ---- where no Ask comes

abbrev pub IsNoAsk : FrontGets → Type 0
IsNoAsk (AskedBy n epoch ask) = ⊥
IsNoAsk _ = Unit {0}

module _ (k : Setting) (x : Conn) (told : Told x) (known : IsKnown x) (heads : List Seen) (first : Each IsFirst heads) (none : picked ask_in heads ≡ []) (env : FrontEnv) (is : IsFrontEnv k x.c env) where
  abbrev p : FrontPart
  p = x.part.front

  abbrev t : AskTale
  t = ask_tale x.c x.seen

  -- it is given
  abbrev Goes : FrontDeed → Type 0
  Goes d = IsItsOwn x (front_does x heads d) → Answers x (front_does x heads d)

  abbrev move : FrontPart → FrontTurn → Move
  move part turn = record { place = Front; heads = heads; said = by_front turn; part = with_front x.part part }

  turn-answers : (part : FrontPart) (turn : FrontTurn) → Each IsCalm turn.notes → AllTo (Client x.c) turn.segments → pick tag_to (map (sending Front) turn.messages) ≡ []
      → RowTold (fold row_done t.done turn.notes) part.rest part.row → IsItsOwn x (move part turn) → Answers x (move part turn)
  turn-answers part turn calm to messages then own =
      calm-answers x (move part turn) own first none calm (segments-none tag_to Front x.c (λ i bytes. refl) turn.segments to) messages then

  drops-answers : Goes Drops
  drops-answers = turn-answers p (front_saying []) tt tt refl told

  says-answers : (turn : FrontTurn) → turn.notes ≡ [] → AllTo (Client x.c) turn.segments → pick tag_to (map (sending Front) turn.messages) ≡ [] → Goes (Says turn)
  says-answers turn notes to messages = turn-answers p turn (subst (Each IsCalm) (sym notes) tt) to messages (subst (λ (rs : List Rec). RowTold (fold row_done t.done rs) p.rest p.row) (sym notes) told)

  -- ---- an endpoint that stays here, or ends, behind messages that are no Tags

  -- no Tag is among these messages
  abbrev IsTagless : List (Place × List ℕ) → Type 0
  IsTagless messages = pick tag_to (map (sending Front) messages) ≡ []

  both-tagless : (said messages : List (Place × List ℕ)) → IsTagless said → IsTagless messages → IsTagless (said ++ messages)
  both-tagless said messages a b = ap (pick tag_to) (map-append (sending Front) said messages)
      ∙ pick-append tag_to (map (sending Front) said) (map (sending Front) messages) ∙ (λ i. a i ++ b i)

  -- in this stage it is away no longer
  abbrev IsHere : (ControlBlock → FrontConn) → Type 0
  IsHere stays = (d : Answered) (o : Option FrontRest) (b : ControlBlock) → StageTold d o (stays b)

  module _ (q : FrontPart) (said : List (Place × List ℕ)) (quiet : IsTagless said) where
    ends-answers : (row : FrontRow) (rest : FrontRest) (stays : ControlBlock → FrontConn) → IsHere stays → (given : Ending × Turn) (calls : List Call)
        → Each IsCalm given.1.notes → AllTo (Client env.serve.c) given.1.segments → Goes (does_first [] said (rests_in q row rest stays given calls))
    ends-answers row rest stays here given calls calm to =
        turn-answers (front_rests q row rest stays given.0) (stands_first [] said (turn_here given.1)) calm
        (subst (λ (c : ℕ). AllTo (Client c) given.1.segments) is.number to)
        (both-tagless said [] quiet refl) (go (fold row_done t.done given.1.notes) (front_rests q row rest stays given.0).rest given.0) where
          go : (d : Answered) (o : Option FrontRest) (e : Ending) → StageTold d o (stage_after stays e)
          go d o (ending.Here b count) = here d o b
          go d o (ending.Over last) = tt

    ends-spoken : (row : FrontRow) (rest : FrontRest) (stays : ControlBlock → FrontConn) → IsHere stays
        → (s : Service) (before : List (Place × List ℕ)) (calls : List Call)
        → Each IsCalm s.notes → AllTo (Client env.serve.c) before → Goes (does_first [] said (rests_in q row rest stays (spoken env.serve s before) calls))
    ends-spoken row rest stays here s before calls calm to = ends-answers row rest stays here (spoken env.serve s before) calls calm
        (spoken-to env.serve s before to)

    -- what was read is said, and it is held
    held-answers : (row : FrontRow) (rest : FrontRest) (w : Service) → Each IsCalm w.notes
        → Goes (does_first [] said (holds q row rest (serving_settled env.serve w)))
    held-answers row rest w calm =
        let done = settled-is env.serve w in
        ends-answers row rest stage.Held (λ d o b. tt) (serving_settled env.serve w) [] (subst (Each IsCalm) (sym done.notes) calm) done.to

    -- or it waits for this path
    waits-answers : (row : FrontRow) (rest : FrontRest) (w : Service) (path : List ℕ) → Each IsCalm w.notes
        → Goes (does_first [] said (Does (placed env q row rest w path Waits)))
    waits-answers row rest w path calm = ends-spoken row (record rest { target = Some path }) stage.Waiting (λ d o b. tt) (waiting_service env w) []
        (call.First env.serve.c path env.now ∷ leaves_by env.serve.c (spoken env.serve (waiting_service env w) []).0)
        (Each-append IsCalm w.notes (rec.Waits env.serve.c ∷ []) calm (tt, tt)) tt

    -- or it is handed off: no Ask was answered since, and its first request is assigned
    handed-answers : (row : FrontRow) (s : Service) (path : List ℕ) (choice : FirstChoice) (calls : List Call) → Each IsCalm s.notes
        → Goes (does_first [] said (hands_off env row s path choice calls))
    handed-answers row s path choice calls calm =
        let given : FrontPart × FrontTurn = handed_off env row s path choice in
        let more : List Rec = rec.Admitted env.serve.c ∷ rec.AssignedFirst env.serve.c (s.count + 1) path choice.node choice.add choice.remove ∷ [] in
        turn-answers given.0 (stands_first [] said given.1) (Each-append IsCalm s.notes more calm (tt, (tt, tt))) tt
        (both-tagless said given.1.messages quiet (ap (λ o. listed o ++ []) (not-tagged choice.node env.serve.c _ (body.Offer _) (λ i. cc))))
        (subst (λ (d : Answered). RowTold d given.0.rest given.0.row) (sym (fold-append row_done t.done s.notes more)) (refl, refl, refl))

  -- ---- segments

  tombstone-answers : (o : Option Segment) → Goes (Says (turn_here (tombstone env.serve o)))
  tombstone-answers None = says-answers (turn_here (tombstone env.serve None)) refl tt refl
  tombstone-answers (Some s) = says-answers (turn_here (tombstone env.serve (Some s))) refl (ap Client is.number, tt) refl

  by-segment : (bytes : List ℕ) (s : Segment) → KeptBySegment env p bytes s (λ w o. Each IsCalm w.notes) Goes
  by-segment bytes s = record {
    drops = drops-answers;
    begins = λ none plain. ends-spoken p [] refl begun_row (front_rest None) stage.Held (λ d o b. tt) (begun_service env s) [] [] (tt, tt) tt;
    reads = λ row b at. reads-note IsCalm env.serve (λ r code size. tt) (λ total. tt) (heard_service p b s) tt;
    holds = λ row b w at calm. held-answers p [] refl row (front_rest p.rest) w calm;
    hands = λ row b w path choice at calm is. handed-answers p [] refl row w path choice (call.First env.serve.c path env.now ∷ []) calm;
    waits = λ row b w path at calm is. waits-answers p [] refl row (front_rest p.rest) w path calm;
    stays = λ row b at. ends-spoken p [] refl row (front_rest p.rest) stage.Waiting (λ d o c. tt) (heard_service p b s) []
        (leaves_by env.serve.c (spoken env.serve (heard_service p b s) []).0) tt tt;
    forwards = λ row n d at. says-answers (front_saying ((Node n, message env.serve.c d.0 (body.Forward bytes)) ∷ [])) refl tt (ap (λ o. listed o ++ []) (not-tagged n env.serve.c d.0 (body.Forward bytes) (λ i. cc)));
    words = λ row last at. tombstone-answers (last_words last.reason last s);
  }

  -- ---- a connection that comes back

  given-none : (n epoch : ℕ) (given : Option EndpointParts) → IsTagless (given_sent env.serve.c n epoch given)
  given-none n epoch None = refl
  given-none n epoch (Some parts) = ap (λ o. listed o ++ []) (not-tagged n env.serve.c epoch body.Given (λ i. cc))

  by-return : (said : List (Place × List ℕ)) → IsTagless said → (row : FrontRow) (parts : EndpointParts)
      → KeptByReturn env p said row parts (λ w o. Each IsCalm w.notes) Goes
  by-return said quiet row parts = record {
    reads = reads-note IsCalm env.serve (λ r code size. tt) (λ total. tt) (back_service env row parts) (tt, (tt, tt));
    holds = λ w calm. held-answers (back_part p row parts) said quiet (returned_row parts row) (back_rest parts) w calm;
    hands = λ w path choice calm is. handed-answers (back_part p row parts) said quiet (returned_row parts row) w path choice
        (call.First env.serve.c path env.now ∷ []) calm;
    waits = λ w path calm is. waits-answers (back_part p row parts) said quiet (returned_row parts row) (back_rest parts) w path calm;
  }

  -- ---- whatever comes

  ack-none : (n epoch : ℕ) → pick tag_to (map (sending Front) (ack_sent env n epoch)) ≡ []
  ack-none n epoch = ap (λ o. listed o ++ []) (not-tagged n env.serve.c epoch body.EndedAck (λ i. cc))

  by-rules : KeptByFront env p IsNoAsk (λ w o. Each IsCalm w.notes) Goes
  by-rules = record {
    drops = drops-answers;
    hears = λ bytes s m. by-segment bytes s;
    fires = λ m. record {
      drops = drops-answers;
      holds = λ row b at. ends-spoken p [] refl row (front_rest p.rest) stage.Held (λ d o c. tt) (fired_service p b) (fired_before env b) [] tt
          (ready-to env.serve (after_timer b) (timed b));
      stays = λ row b at.
          ends-spoken p [] refl row (front_rest p.rest) stage.Waiting (λ d o c. tt) (fired_service p b) (fired_before env b)
          (leaves_by env.serve.c (front_fired env (front_rest p.rest) b).0) tt (ready-to env.serve (after_timer b) (timed b));
      resends = λ row n e at. says-answers (front_saying (map sent_of p.kept)) refl tt (resent-none p.kept known.kept);
    };
    takes = λ n epoch m row i d at same. turn-answers _ (front_saying []) tt tt refl (of-stage (RowTold t.done p.rest) p row (stage.Offering i d) at told);
    tags_again = λ n epoch ask m. absurd m;
    assigns_next = λ n epoch ask m. absurd m;
    ends_again = λ n epoch last m row found away again. says-answers (front_saying (ack_sent env n epoch)) refl tt (ack-none n epoch);
    ends = λ n epoch last m row found away. turn-answers _ (front_ends env p n epoch last row (next_epoch row)).turn (tt, (tt, tt)) tt (ack-none n epoch) tt;
    gives_again = λ n epoch parts m row found past. says-answers (front_saying (given_sent env.serve.c n epoch (Some parts))) refl tt
        (given-none n epoch (Some parts));
    returns = λ n epoch given m row parts at. by-return (given_sent env.serve.c n epoch given) (given-none n epoch given) row parts;
    admits = λ choice made met row b path at target. handed-answers p [] refl row (serving b (front_rest p.rest).count []) path choice [] tt;
  }

  pub rule-answers : (g : FrontGets) → IsAsGiven env p g → IsNoAsk g → Goes (front_rule env p g)
  rule-answers g made none-came = front-keeps env p IsNoAsk (λ w o. Each IsCalm w.notes) Goes by-rules g made none-came
