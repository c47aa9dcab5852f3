-- What the front end does acknowledges what was taken.
use Rattle.std.proofs.Common.{◌≡◌, ◌≤◌, ◌<◌, ◌&&◌, not, ◌^◌, ℕ, Bool, true, List, [], ◌∷◌, map, Option, Some, None, Ok, IfSome, inl, inr, ⊎_elim, ◌⊎◌, refl, sym, ap, ◌∙◌, subst, arith}
use Rattle.std.specs.List.{concat}
use Rattle.std.proofs.lemmas.Bool.{and_parts, cond_both}
use Rattle.lard_law_view.specs.Prelude.{AreSent, BackConn, BackRow, Call, Client, Conn, ControlBlock, EndpointParts, Ending, Epoch, Final, FirstChoice, Front, FrontConn, FrontDeed, FrontEnv, FrontGets, FrontPart, FrontRest, FrontRow, IsConnNumber, IsConnSound, IsFrontEnv, IsSendable, IsStream, IsWord, Kept, Move, Node, NodePart, Part, Place, Ready, Reading, Reason, Rec, Said as Segment, Seen, Service, Setting, Station, Stream, Talk, Turn, Verdict, ack_sent, adopted, after_timer, answer, assigns, back_notes, back_part, back_rest, filled, front_begun, front_does, front_ends, front_fired, front_reads, front_rest, front_rule, front_saying, given_sent, holds, is_plain_syn, is_telling, last_ack, last_words, leaves_by, letter, listening, next_epoch, on_segment, placed, refusal, returned_row, sent_of, seq_offset, serving, serving_ready_of, serving_settled, spoken, stage_after, tag_sent, taken_by, tale_at, timed, tombstone, turn_here}
use Rattle.lard_base.specs.declared.place.Reason.TheVariants as reason
use Rattle.lard_laws.specs.Acks.{ActsWithin, BackActs, Bounds, EndActs, FrontActs, FrontBodyActs, FrontStageActs, LetterActs, PartsAct, WordActs}
use Rattle.lard_laws.proofs.AcksGrowing.{replies-act}
use Rattle.lard_laws.proofs.AcksMessages.{forward-acts, offer-acts, other-front}
use Rattle.lard_laws.proofs.AcksOffers.{IsOfferOf, WasOffered, offered-acts, offered-between, refused-is, refused-was}
use Rattle.lard_laws.proofs.AcksReading.{reads-serves, settled-heard, spoken-heard, stays-heard, stays-holds}
use Rattle.lard_laws.proofs.AcksTurns.{PlaceActs, idle-acts}
use Rattle.lard_law_connections.proofs.BytesFrontMessages.{past-undecided}
use Rattle.lard_law_connections.specs.BytesAgreement.{EndedWithNumbers, FrontHolds, HoldsItPending, IsOpen, SeatAgrees, StageAgrees}
use Rattle.lard_law_connections.specs.Places.{ArePast, HasEnded, IsDecided, IsLeft, IsOffered, IsOver, IsPast, Offers, Owning, Sits, StageSits, owning}
use Rattle.lard_law_connections.proofs.PlacesFrontMessages.{IsRefusedThere, no-give, refused-past, refused-there}
use Rattle.lard_law_connections.proofs.PlacesFrontRules.{has-each}
use Rattle.lard_law_connections.proofs.PlacesTurns.{IsPlaced}
use Rattle.lard_dispatch.specs.declared.dispatch.First.TheVariants as first
use Rattle.lard_dispatch.specs.Laws as call
use Rattle.lard_rules.specs.Front.{Drops, Says, Does, message}
use Rattle.lard_handoff_back.specs.declared.row.BackConn.TheVariants as back
use Rattle.lard_handoff_front.specs.declared.row.FrontConn.TheVariants as stage
use Rattle.lard_history.proofs.Each.{Each, Each-append}
use Rattle.lard_law_view.proofs.EndpointStreams.{IsBetween, between-arrived, between-begun, between-sound, between-timed}
use Rattle.lard_law_view.proofs.Acked.{RepliesMay, ReplyMay, ServingActed, WordMay, heard_at, heard_by}
use Rattle.lard_law_view.proofs.Acked as Acked
use Rattle.lard_law_view.proofs.EndpointArriving.{Holds, arrival-grows, arrival-holds}
use Rattle.lard_law_view.proofs.EndpointReading.{Reads, Spans}
use Rattle.lard_law_view.proofs.EndpointActs.{settled-acts, spoken-acts}
use Rattle.lard_law_view.proofs.EndpointSaying.{timed-may, timer-left}
use Rattle.lard_message.specs.declared.message.Body.TheVariants as body
use Rattle.lard_rules.specs.declared.places.Ending.TheVariants as ending
use Rattle.lard_seq.proofs.Laws.{offset-add}
use Rattle.lard_law_view.proofs.Speaking.{speaks-stream}
use Rattle.lard_law_view.proofs.EachFront.{FrontComes, HasBack, admission}
use Rattle.lard_laws.proofs.FrontComing.{heard-number, heard-word, new-end}
use Rattle.lard_rules.proofs.FrontCases.{IsBack, IsInStage, KeptByFront, KeptByReturn, KeptBySegment, begun_row, begun_service, front-keeps, hands_off, heard_service, of-stage, rests_in, waiting_service}

-- ---- nodes that have nothing

left-acts : (b : Bounds) (st : BackConn) → IsLeft st → BackActs b (Some (record { stage = st; epoch = record { 0 = 0 } }))
left-acts b (back.Here block) h = absurd h
left-acts b _ h = tt

pub past-acts : (b : Bounds) (e : ℕ) (o : Option BackRow) → IsPast e o → BackActs b o
past-acts b e None h = tt
past-acts b e (Some row) h = left-acts b row.stage h.1

-- what is over was of an earlier epoch
pub past-over : (e d : ℕ) (o : Option BackRow) → IsPast e o → IsOver d o → d < e
past-over e d None h over = absurd over
past-over e d (Some row) h over = omega (arith, h.0, over.0)

-- an endpoint that agrees is between the two streams
pub between-held : (w out : Stream) (vs pend : List Verdict) (b : ControlBlock) (count : ℕ) → HoldsItPending w out vs pend b count → IsBetween w out b
between-held w out vs pend b count h = record { same_irs = h.sound.same_irs; speaks = h.speaks; out_is = h.out_is; hears = h.hears }

-- ---- last words

-- the last words on a connection that ended can be sent, and acknowledge what was taken
words-may : (w : Stream) (was_reset : Bool) (why : Reason) (last : Final) (s : Segment) → IsStream w → s.ack < 2 ^ 32 → EndedWithNumbers w was_reset last
    → IfSome (last_words why last s) (λ o. IsSendable o × ReplyMay w.first (heard_at w.first (ending.Over last)) o)
words-may w was_reset reason.Closed last s is fits h =
    let P : Option Segment → Type 0 = λ o. IfSome o (λ r. IsSendable r × ReplyMay w.first (heard_at w.first (ending.Over last)) r) in
    let ack = h.acks in
    let seq = h.snd_fits in
    let at = ack.1 in
    let le = ack.2 in
    let size = is.most in
    let taken : seq_offset last.rcv.0 w.first ≡ ack.0 = ap (λ n. seq_offset n w.first) at ∙ offset-add w.first ack.0 is.number (omega arith) in
    cond_both (is_telling s) (Some (last_ack last)) None P
    (λ _. (
      record { seq_fits = seq; ack_fits = omega arith; wnd_fits = omega arith; some_mss = tt; small_mss = tt; small_payload = omega arith; no_ack = λ f. absurd (cc) },
      λ _. (ack.0, at, omega arith),
    ))
    (λ _. tt)
words-may w was_reset reason.Peer last s is fits h = tt
words-may w was_reset reason.Limit last s is fits h =
    let P : Option Segment → Type 0 = λ o. IfSome o (λ r. IsSendable r × ReplyMay w.first (heard_at w.first (ending.Over last)) r) in
    cond_both (s.flags.ack && not s.flags.rst) (Some (refusal s.ack)) None P
    (λ _. (
      record { seq_fits = fits; ack_fits = omega arith; wnd_fits = omega arith; some_mss = tt; small_mss = tt; small_payload = omega arith; no_ack = λ _. refl },
      λ f. absurd (cc),
    ))
    (λ _. tt)

-- ---- one connection

module _ (k : Setting) (small : k.stream ≤ 2 ^ 30) (x : Conn) (number : IsConnNumber x.c) (sound_x : IsConnSound x) (at_place : IsPlaced x) (s : Station)
    (l : Talk) (pend : List Verdict) (o : IsOpen k.files x l pend s) (heard_so : ℕ) (aborted : Bool) where
  -- by the streams, what bounds the connection
  abbrev pub bounds : Bounds
  bounds = record { isn = l.w.first; iss = s.iss; heard = heard_so; taken = Acked.taken_by s.client; aborted = aborted }

  pub is_stream : IsStream l.w
  is_stream = subst IsStream (sym o.client.w_is) (speaks-stream s.client.send l.w.bytes o.client.speaks)

  pub iss_fits : s.iss < 2 ^ 32
  iss_fits = let n = o.says.number in let same = o.begins in omega arith

  module _ (there : x.part.station ≡ Some s) (h : ActsWithin x bounds) (heads : List Seen) (env : FrontEnv) (is : IsFrontEnv k x.c env) where
    abbrev p : FrontPart
    p = x.part.front

    abbrev nodes : ℕ → NodePart
    nodes = x.part.nodes

    abbrev own : Owning
    own = owning (tale_at x)

    abbrev Stays : FrontDeed → Type 0
    Stays d = PlaceActs x (front_does x heads d) bounds

    dropped : Stays Drops
    dropped = idle-acts x (front_does x heads Drops) bounds (record { front = h.front; nodes = h.nodes; letters = tt })

    -- messages go out
    says : (ms : List (Place × List ℕ)) → Each (LetterActs x.c bounds x.part) (map (letter Front) ms) → Stays (Says (front_saying ms))
    says ms sent = idle-acts x (front_does x heads (Says (front_saying ms))) bounds (record { front = h.front; nodes = h.nodes; letters = sent })

    -- ---- an endpoint that is here

    -- No node has the connection; and where more is taken than was, so much, it is offered to none, and the end of each stay is known.
    record IsOurs (then : ℕ) : Type 0 where
      e : ℕ
      past : ArePast e nodes
      unoffered : (then ≡ heard_so) ⊎ ((n d : ℕ) → IsOffered n d p.row → ⊥)
      over : (then ≡ heard_so) ⊎ ((n d : ℕ) → IsOver d (nodes n).row → HasEnded d p.row)

    none-offered-to : (then : ℕ) → IsOurs then → (then ≡ heard_so) ⊎ ((n d : ℕ) → IsOffered n d p.row → IsDecided d (nodes n).row)
    none-offered-to then ours = ⊎_elim (λ same. inl same)
        (λ (none : (n d : ℕ) → IsOffered n d p.row → ⊥). inr (λ n d offered. absurd (none n d offered))) ours.unoffered

    abbrev Turns : Ending × Turn → Type 0
    Turns given = ServingActed env.serve.c l.w.first s.iss (Acked.taken_by s.client) aborted heard_so given

    ends-act : (q : FrontPart) (row : FrontRow) (rest : FrontRest) (stays : ControlBlock → FrontConn) (given : Ending × Turn) (calls : List Call)
        → ((d : Bounds) (b : ControlBlock) → EndActs d (ending.Here b 0) → FrontStageActs d (stays b))
        → IsOurs (heard_at l.w.first given.0) → Turns given → Stays (rests_in q row rest stays given calls)
    ends-act q row rest stays given calls stay ours act =
        let v : Move = front_does x heads (rests_in q row rest stays given calls) in
        let then : ℕ = heard_at l.w.first given.0 in
        record {
          then = then;
          more = act.grows;
          offers = none-offered-to then ours;
          ends = ours.over;
          front = go (record bounds { heard = then }) given.0 (refl, act.holds);
          nodes = λ n. past-acts (record bounds { heard = then }) ours.e (nodes n).row (ours.past n);
          letters = Each-append (LetterActs x.c (record bounds { heard = then }) v.part) (map (letter Front) given.1.segments) []
              (replies-act x.c (record bounds { heard = then }) v.part Front given.1.segments (subst (λ (c : ℕ). RepliesMay c l.w.first then given.1.segments) is.number act.sent)) tt;
        } where
          go : (d : Bounds) (e : Ending) → EndActs d e → FrontStageActs d (stage_after stays e)
          go d (ending.Here b count) a = stay d b a
          go d (ending.Over last) a = a

    holds-act : (q : FrontPart) (row : FrontRow) (rest : FrontRest) (given : Ending × Turn) → IsOurs (heard_at l.w.first given.0) → Turns given
        → Stays (holds q row rest given)
    holds-act q row rest given = ends-act q row rest stage.Held given [] (λ d b a. a)

    waits-act : (q : FrontPart) (row : FrontRow) (rest : FrontRest) (given : Ending × Turn) (calls : List Call)
        → IsOurs (heard_at l.w.first given.0) → Turns given → Stays (rests_in q row rest stage.Waiting given calls)
    waits-act q row rest given calls = ends-act q row rest stage.Waiting given calls (λ d b a. a)

    -- an endpoint that goes on from here took no less, and acknowledges no more than was taken
    abbrev GoesOver : ControlBlock → Type 0
    GoesOver b = (heard_so ≤ heard_by b.recv) × Spans l.w s.iss b × Holds (Acked.taken_by s.client) aborted b

    -- it is handed off: its Offer has all that was taken
    handed-act : (row : FrontRow) (w : Service) (path : List ℕ) (choice : FirstChoice) (calls : List Call) → IsOurs (heard_by w.block.recv) → GoesOver w.block
        → Stays (hands_off env row w path choice calls)
    handed-act row w path choice calls ours goes =
        let v : Move = front_does x heads (hands_off env row w path choice calls) in
        let then : Bounds = record bounds { heard = heard_by w.block.recv } in
        record {
          then = heard_by w.block.recv;
          more = goes.0;
          offers = none-offered-to then.heard ours;
          ends = ours.over;
          front = tt;
          nodes = λ n. past-acts then ours.e (nodes n).row (ours.past n);
          letters = (offer-acts then v.part x.c choice.node env.serve.c (next_epoch row).0 w.block w.count (between-sound l.w goes.1.0 w.block goes.1.2) refl goes.2.0, tt);
        }

    says-act : (w : Service) (before : List (Place × List ℕ)) → GoesOver w.block → RepliesMay env.serve.c l.w.first (heard_by w.block.recv) before → Turns (spoken env.serve w before)
    says-act w before goes sent = spoken-acts env.serve l.w s.iss (Acked.taken_by s.client) aborted is_stream heard_so w before goes.0 goes.1 goes.2 sent

    abbrev within : env.serve.stream ≤ 2 ^ 30
    within = subst (λ (n : ℕ). n ≤ 2 ^ 30) (sym is.stream) small

    -- behind reading it goes on so
    reads-act : (b : ControlBlock) (w : Service) → GoesOver b → Reads l.w s.iss b w.block → GoesOver w.block
    reads-act b w goes read = (
      (let same = stays-heard b w.block read.0 in let le = goes.0 in omega arith),
      read.1,
      stays-holds b w.block (Acked.taken_by s.client) aborted read.0 goes.2,
    )

    -- ---- what was read goes on so

    abbrev Came : Service → Option (List ℕ) → Type 0
    Came w t = GoesOver w.block × IsOurs (heard_by w.block.recv)

    holds-on : (q : FrontPart) (row : FrontRow) (rest : FrontRest) (w : Service) → Came w None → Stays (holds q row rest (serving_settled env.serve w))
    holds-on q row rest w r =
        let goes : GoesOver w.block = r.0 in
        holds-act q row rest (serving_settled env.serve w) (subst IsOurs (sym (settled-heard env.serve l.w goes.1.0 is_stream w goes.1.2)) r.1)
        (settled-acts env.serve l.w s.iss (Acked.taken_by s.client) aborted is_stream heard_so w goes.0 goes.1 goes.2)

    hands-on : (q : FrontPart) (row : FrontRow) (rest : FrontRest) (w : Service) (path : List ℕ) (choice : FirstChoice) → Came w (Some path)
        → Stays (Does (placed env q row rest w path (first.Go choice)))
    hands-on q row rest w path choice r = handed-act row w path choice (call.First env.serve.c path env.now ∷ []) r.1 r.0

    waits-on : (q : FrontPart) (row : FrontRow) (rest : FrontRest) (w : Service) (path : List ℕ) → Came w (Some path)
        → Stays (Does (placed env q row rest w path first.Waits))
    waits-on q row rest w path r =
        let goes : GoesOver w.block = r.0 in
        let given : Ending × Turn = spoken env.serve (waiting_service env w) [] in
        waits-act q row (record rest { target = Some path }) given (call.First env.serve.c path env.now ∷ leaves_by env.serve.c given.0)
        (subst IsOurs (sym (spoken-heard env.serve l.w goes.1.0 is_stream (waiting_service env w) [] goes.1.2)) r.1)
        (says-act (waiting_service env w) [] goes tt)

    -- behind reading
    reads-came : (b : ControlBlock) (count : ℕ) (notes : List Rec) → GoesOver b → ((then : ℕ) → then ≡ heard_by b.recv → IsOurs then)
        → (let x : Reading = front_reads env.serve (record { service = serving b count notes; target = None }) in Came x.service x.target)
    reads-came b count notes goes ours =
        let w : Service = (front_reads env.serve (record { service = serving b count notes; target = None })).service in
        let read : Reads l.w s.iss b w.block = reads-serves l.w s.iss b env.serve within (serving b count notes) ((refl, refl, refl, refl), goes.1) in
        (reads-act b w goes read, ours (heard_by w.block.recv) (stays-heard b w.block read.0))

    -- ---- where the connection is

    abbrev HasIt : FrontConn → Type 0
    HasIt (stage.Held b) = Unit {0}
    HasIt (stage.Waiting b) = Unit {0}
    HasIt _ = ⊥

    acts-row : (row : FrontRow) (st : FrontConn) → IsInStage p row st → FrontStageActs bounds st
    acts-row row st at = of-stage (FrontActs bounds) p row st at h.front

    agrees-row : (row : FrontRow) (st : FrontConn) → IsInStage p row st → StageAgrees l.w l.out l.vs pend l.was_reset x.c x.part row.epoch.0 st
    agrees-row row st at = of-stage (SeatAgrees l.w l.out l.vs pend l.was_reset x.c x.part) p row st at o.seat

    none-offered : (st : FrontConn) → HasIt st → (n d : ℕ) → Offers n d st → ⊥
    none-offered (stage.Held b) has n d f = f
    none-offered (stage.Waiting b) has n d f = f
    none-offered _ has n d f = absurd has

    all-past : (e : ℕ) (st : FrontConn) → HasIt st → StageSits e own nodes st → ArePast e nodes
    all-past e (stage.Held b) has sits = sits.1.1
    all-past e (stage.Waiting b) has sits = sits.1.1
    all-past e _ has sits = absurd has

    ours-at : (row : FrontRow) (st : FrontConn) → IsInStage p row st → HasIt st → (then : ℕ) → IsOurs then
    ours-at row st at has then =
        let past : ArePast row.epoch.0 nodes = all-past row.epoch.0 st has (of-stage (Sits own nodes) p row st at at_place.sits).0 in
        record {
          e = row.epoch.0;
          past = past;
          unoffered = inr (λ n d. subst (λ (q : Option FrontRow). IsOffered n d q → ⊥) (sym at.0) (subst (λ (q : FrontConn). Offers n d q → ⊥) (sym at.1) (none-offered st has n d)));
          over = inr (λ n d over. subst (HasEnded d) (sym at.0) (past-over row.epoch.0 d (nodes n).row (past n) over));
        }

    -- the endpoint as it is
    goes-here : (b : ControlBlock) (count : ℕ) → EndActs bounds (ending.Here b 0) → FrontHolds l.w l.out l.vs pend b count → GoesOver b
    goes-here b count act agrees = ((let same = act.0 in omega arith), (l.out, o.begins, between-held l.w l.out l.vs [] b count agrees.holds), act.1)

    goes-held : (row : FrontRow) (b : ControlBlock) → IsInStage p row (stage.Held b) → GoesOver b
    goes-held row b at = goes-here b (front_rest p.rest).count (acts-row row (stage.Held b) at) (agrees-row row (stage.Held b) at)

    goes-waiting : (row : FrontRow) (b : ControlBlock) → IsInStage p row (stage.Waiting b) → GoesOver b
    goes-waiting row b at = goes-here b (front_rest p.rest).count (acts-row row (stage.Waiting b) at) (agrees-row row (stage.Waiting b) at).0

    -- ---- a segment

    module _ (begins : env.iss ≡ s.iss) (bytes : List ℕ) (sd : Segment) (word : IsWord l.w sd) (may : WordMay s.iss (Acked.taken_by s.client) aborted sd) (acts : WordActs x.c bounds bytes) where
      -- behind a segment that arrives
      goes-heard : (b : ControlBlock) → GoesOver b → GoesOver (on_segment b sd).1
      goes-heard b goes =
          let iss : s.iss ≡ b.send.iss = sym goes.1.1 ∙ ap (λ (z : Stream). z.first) goes.1.2.out_is in (
            (let up = arrival-grows b sd in let le = goes.0 in omega arith),
            (goes.1.0, goes.1.1, between-arrived l.w goes.1.0 b goes.1.2 sd is_stream word.true_of),
            arrival-holds s.iss (Acked.taken_by s.client) aborted b sd iss_fits iss goes.2 may,
          )

      begins-act : p.row ≡ None → is_plain_syn sd ≡ true → Stays (front_begun env p sd)
      begins-act none t =
          let start : Service = begun_service env sd in
          let at : Sits own nodes None = subst (Sits own nodes) none at_place.sits in
          let agrees : SeatAgrees l.w l.out l.vs pend l.was_reset x.c x.part None = subst (SeatAgrees l.w l.out l.vs pend l.was_reset x.c x.part) none o.seat in
          let zero_so : heard_so ≡ 0 = subst (FrontActs bounds) none h.front in
          let nothing : l.out.bytes ≡ [] = o.says.spoken ∙ ap (λ us. concat (map (answer k.files) us)) agrees.0 in
          let greets : sd.seq ≡ l.w.first = word.true_of.greets (and_parts sd.flags.syn _ t).0 in
          let between : IsBetween l.w l.out (listening sd env.iss) = subst (λ (n : ℕ). IsBetween l.w l.out (listening sd n)) (o.begins ∙ sym begins) (between-begun l.w l.out sd o.says.number nothing agrees.2 greets) in
          let ours : IsOurs (heard_at l.w.first (spoken env.serve start []).0) = record {
            e = 0;
            past = at.1;
            unoffered = inr (λ n d. subst (λ (q : Option FrontRow). IsOffered n d q → ⊥) (sym none) (λ f. f));
            over = inr (λ n d over. absurd (let less : d < 0 = past-over 0 d (nodes n).row (at.1 n) over in omega arith));
          } in
          holds-act p begun_row (front_rest None) (spoken env.serve start []) ours
          (says-act start [] ((omega arith), (l.out, o.begins, between), (omega arith, λ f. absurd cc)) tt)

      tombstone-act : (last : Final) → EndActs bounds (ending.Over last) → (w : Option Segment) → IfSome w (λ r. IsSendable r × ReplyMay l.w.first (heard_at l.w.first (ending.Over last)) r) → Stays (Says (turn_here (tombstone env.serve w)))
      tombstone-act last act None words = idle-acts x (front_does x heads (Says (turn_here (tombstone env.serve None)))) bounds (record { front = h.front; nodes = h.nodes; letters = tt })
      tombstone-act last act (Some t) words =
          let v : Move = front_does x heads (Says (turn_here (tombstone env.serve (Some t)))) in
          let replies : RepliesMay env.serve.c l.w.first heard_so (tombstone env.serve (Some t)).segments = ((refl, (t, refl, words.0, subst (λ (n : ℕ). ReplyMay l.w.first n t) (sym act.0) words.1)), tt) in
          idle-acts x v bounds (record {
            front = h.front;
            nodes = h.nodes;
            letters = Each-append (LetterActs x.c bounds x.part) (map (letter Front) (tombstone env.serve (Some t)).segments) []
                (replies-act x.c bounds x.part Front (tombstone env.serve (Some t)).segments (subst (λ (c : ℕ). RepliesMay c l.w.first heard_so (tombstone env.serve (Some t)).segments) is.number replies)) tt;
          })

      forwards : (n : ℕ) (e : Epoch) → Stays (Says (front_saying ((Node n, message env.serve.c e.0 (body.Forward bytes)) ∷ [])))
      forwards n e = says ((Node n, message env.serve.c e.0 (body.Forward bytes)) ∷ []) (forward-acts bounds x.part x.c n env.serve.c e.0 bytes acts, tt)

      by-segment : KeptBySegment env p bytes sd Came Stays
      by-segment = record {
        drops = dropped;
        begins = begins-act;
        reads = λ row b at. reads-came (on_segment b sd).1 (front_rest p.rest).count [] (goes-heard b (goes-held row b at))
            (λ then same. ours-at row (stage.Held b) at tt then);
        holds = λ row b w at r. holds-on p row (front_rest p.rest) w r;
        hands = λ row b w path choice at r is. hands-on p row (front_rest p.rest) w path choice r;
        waits = λ row b w path at r is. waits-on p row (front_rest p.rest) w path r;
        stays = λ row b at.
            let given : Ending × Turn = spoken env.serve (heard_service p b sd) [] in
            waits-act p row (front_rest p.rest) given (leaves_by env.serve.c given.0) (ours-at row (stage.Waiting b) at tt (heard_at l.w.first given.0))
            (says-act (heard_service p b sd) [] (goes-heard b (goes-waiting row b at)) tt);
        forwards = λ row n e at. forwards n e;
        words = λ row last at. tombstone-act last (acts-row row (stage.Closed last) at) (last_words last.reason last sd)
            (words-may l.w l.was_reset last.reason last sd is_stream word.sendable.ack_fits (agrees-row row (stage.Closed last) at));
      }

    -- ---- timers

    -- behind the segment that its timer sends
    fired-act : (b : ControlBlock) (count : ℕ) → GoesOver b → Turns (spoken env.serve (serving (after_timer b) count []) (serving_ready_of env.serve (after_timer b) (timed b)))
    fired-act b count goes =
        let left = timer-left b in
        let recv : heard_by (after_timer b).recv ≡ heard_by b.recv = ap heard_by left.0 in
        says-act (serving (after_timer b) count []) (serving_ready_of env.serve (after_timer b) (timed b)) (
          (let le = goes.0 in omega arith),
          (goes.1.0, goes.1.1, between-timed l.w goes.1.0 b goes.1.2),
          ((let same = left.1 in let le = goes.2.0 in omega arith), λ t. goes.2.1 (sym left.2 ∙ t)),
        )
        (subst (λ (n : ℕ). RepliesMay env.serve.c l.w.first n (serving_ready_of env.serve (after_timer b) (timed b))) (sym recv) (replies (timed b) refl))
      where
        replies : (r : Option Ready) → timed b ≡ r → RepliesMay env.serve.c l.w.first (heard_by b.recv) (serving_ready_of env.serve (after_timer b) r)
        replies None e = tt
        replies (Some r) e = let may = timed-may l.w goes.1.0 b r goes.1.2 e in ((refl, (filled (after_timer b) r, refl, may.0, may.1)), tt)

    resent-letters : (ks : List Kept) → AreSent x Front ks → Each (LetterActs x.c bounds x.part) (map (letter Front) (map sent_of ks))
    resent-letters [] sent = tt
    resent-letters (q ∷ ks) sent = (has-each (LetterActs x.c bounds x.part) (record { from = Front; to = q.to; bytes = q.bytes }) x.letters sent.0.1 h.packets, resent-letters ks sent.1)

    -- ---- what nodes say

    tag-letters : (n epoch number : ℕ) (tags : List ℕ) (q : Part) → Each (LetterActs x.c bounds q) (map (letter Front) (tag_sent env n epoch number tags))
    tag-letters n epoch number tags q = (other-front bounds q x.c n env.serve.c epoch (body.Tag number tags) (λ i. cc) (λ i. cc), tt)

    ack-letters : (n epoch : ℕ) (q : Part) → Each (LetterActs x.c bounds q) (map (letter Front) (ack_sent env n epoch))
    ack-letters n epoch q = (other-front bounds q x.c n env.serve.c epoch body.EndedAck (λ i. cc) (λ i. cc), tt)

    given-letters : (n epoch : ℕ) (parts : EndpointParts)
        → Each (LetterActs x.c bounds x.part) (map (letter Front) (given_sent env.serve.c n epoch (Some parts)))
    given-letters n epoch parts = (other-front bounds x.part x.c n env.serve.c epoch body.Given (λ i. cc) (λ i. cc), tt)

    -- ---- a connection that comes back

    -- a node refused it
    module _ (n epoch : ℕ) (m : HasBack x n epoch None heads) (row : FrontRow) (parts : EndpointParts) (back : IsBack p n epoch None row parts) where
      none-has : ArePast row.epoch.0 nodes
      none-has =
          let there : IsRefusedThere x n epoch row = refused-there x at_place n epoch heads m row parts back in
          subst (λ (e : ℕ). ArePast e nodes) (sym there.epoch_is) (refused-past x n epoch row there)

      -- what it goes on from is the endpoint that was frozen
      goes-back : GoesOver (adopted parts) × (heard_by (adopted parts).recv ≡ heard_so)
      goes-back =
          let of : IsOfferOf l pend parts = refused-is k.files x number at_place s l pend o n epoch heads m row parts back in
          let sent : WasOffered x n epoch parts = refused-was k.files x number at_place s l pend o n epoch heads m row parts back sound_x in
          let told : FrontBodyActs x.c bounds x.part n epoch (body.Offer parts) =
          has-each (LetterActs x.c bounds x.part) (record { from = Front; to = Node n; bytes = sent.bytes }) x.letters sent.was h.packets _ sent.spells in
          let now : row.epoch.0 ≡ epoch = (refused-there x at_place n epoch heads m row parts back).epoch_is in
          let act : PartsAct bounds parts = offered-acts bounds x.part x.c n epoch parts told row (back.refused refl).0 now
          (past-undecided epoch (nodes n).row (subst (λ (e : ℕ). IsPast e (nodes n).row) now (none-has n))) in
          (((let same = act.heard in omega arith), (l.out, o.begins, offered-between l pend parts of), (act.acknowledged, λ e. absurd cc)), sym act.heard)

      -- no node has it, and nothing more is taken
      ours-back : (then : ℕ) → then ≡ heard_so → IsOurs then
      ours-back then same = record { e = row.epoch.0; past = none-has; unoffered = inl same; over = inl same }

      by-return : KeptByReturn env p [] row parts Came Stays
      by-return = record {
        reads = reads-came (adopted parts) parts.served (back_notes env.serve.c row) goes-back.0 (λ then same. ours-back then (same ∙ goes-back.1));
        holds = λ w r. holds-on (back_part p row parts) (returned_row parts row) (back_rest parts) w r;
        hands = λ w path choice r is. hands-on (back_part p row parts) (returned_row parts row) (back_rest parts) w path choice r;
        waits = λ w path r is. waits-on (back_part p row parts) (returned_row parts row) (back_rest parts) w path r;
      }

    returns-act : (n epoch : ℕ) (given : Option EndpointParts) → HasBack x n epoch given heads
        → (row : FrontRow) (parts : EndpointParts) → IsBack p n epoch given row parts
        → KeptByReturn env p (given_sent env.serve.c n epoch given) row parts Came Stays
    returns-act n epoch None m row parts back = by-return n epoch m row parts back
    returns-act n epoch (Some found) m row parts back = absurd (no-give x at_place n epoch found m.bytes m.was m.spells)

    -- ---- whatever comes

    by-rules : KeptByFront env p (FrontComes x env heads) Came Stays
    by-rules = record {
      drops = dropped;
      hears = λ bytes sd m.
          let acts : WordActs x.c bounds bytes = has-each (LetterActs x.c bounds x.part) (record { from = Client x.c; to = Front; bytes = bytes }) x.letters m.was h.packets in
          by-segment (heard-number x s env bytes heads there (Ok sd) m) bytes sd (heard-word x s env bytes heads k.files l pend o sd m) (acts sd (sym m.read)) acts;
      fires = λ m. record {
        drops = dropped;
        holds = λ row b at.
            let given : Ending × Turn = front_fired env (front_rest p.rest) b in
            holds-act p row (front_rest p.rest) given (ours-at row (stage.Held b) at tt (heard_at l.w.first given.0))
            (fired-act b (front_rest p.rest).count (goes-held row b at));
        stays = λ row b at.
            let given : Ending × Turn = front_fired env (front_rest p.rest) b in
            waits-act p row (front_rest p.rest) given (leaves_by env.serve.c given.0) (ours-at row (stage.Waiting b) at tt (heard_at l.w.first given.0))
            (fired-act b (front_rest p.rest).count (goes-waiting row b at));
        resends = λ row n e at. says (map sent_of p.kept) (resent-letters p.kept sound_x.front);
      };
      takes = λ from epoch m row n e at same. idle-acts x (front_does x heads (taken_by p epoch (Some row) (Some n))) bounds (record { front = tt; nodes = h.nodes; letters = tt });
      tags_again = λ n epoch ask m rest found there same some. says (tag_sent env n epoch rest.asks rest.tag) (tag-letters n epoch rest.asks rest.tag x.part);
      assigns_next = λ n epoch ask m rest found there next.
          let v : Move = front_does x heads (Does (assigns env p rest n epoch ask (env.later ask))) in
          idle-acts x v bounds (record { front = h.front; nodes = h.nodes; letters = tag-letters n epoch ask.number (map (λ y. y.node) (env.later ask).choices) v.part });
      ends_again = λ n epoch last m row found away again. says (ack_sent env n epoch) (ack-letters n epoch x.part);
      ends = λ n epoch last m row found away.
          let v : Move = front_does x heads (Does (front_ends env p n epoch last row (next_epoch row))) in
          let told = (has-each (LetterActs x.c bounds x.part) (record { from = Node n; to = Front; bytes = m.told.bytes }) x.letters m.told.was h.packets) _ m.told.spells in
          idle-acts x v bounds (record { front = new-end (EndActs bounds (ending.Over last)) x at_place epoch told row found away; nodes = h.nodes; letters = ack-letters n epoch v.part });
      gives_again = λ n epoch parts m row found past. says (given_sent env.serve.c n epoch (Some parts)) (given-letters n epoch parts);
      returns = λ n epoch given m row parts back. returns-act n epoch given m row parts back;
      admits = λ choice made met row b path at target.
          handed-act row (serving b (front_rest p.rest).count []) path choice [] (ours-at row (stage.Waiting b) at tt (heard_by b.recv))
          (goes-waiting row b at);
    }

    pub rule-act : (g : FrontGets) → FrontComes x env heads g → Stays (front_rule env p g)
    rule-act g comes = front-keeps env p (FrontComes x env heads) Came Stays by-rules g (admission x env heads g comes) comes
