-- What each rule of the front end keeps of a connection, and that its turn is in range.
use Rattle.std.proofs.Common.{◌≡◌, ℕ, suc, ◌+◌, ◌-◌, ◌*◌, ◌≤◌, ◌<◌, ◌^◌, ◌==◌, ◌&&◌, not, List, [], ◌∷◌, length, map, Bool, true, false, Option, Some, None, IfSome, Ok, Err, Result, ⊎_elim, refl, sym, ap, ◌∙◌, subst, arith, eqb-true}
use Rattle.std.proofs.lemmas.Bool.{and_parts, cond_both, not-true}
use Rattle.std.specs.List.{AllByRecursion}
use Rattle.lard_law_view.specs.Prelude.{Ask, ControlBlock, Ending, EndpointParts, Epoch, Final, First, FirstChoice, Found, FrontConn, FrontDeed, FrontEnv, FrontPart, FrontRest, FrontRow, FrontTurn, IsChoiceInRange, IsMessage, IsNumber, IsPlaceInRange, IsRecordInRange, IsUnspaced, Kept, Later, LaterChoice, Place, Reading, Reason, Said, SegFault, Service, Step, Turn, Verdict, ack_sent, adopted, after_timer, ask_of, assigned_notes, assigns, back_part, back_rest, block_at, cut_of, forwarded, front_admitted, front_asked, front_ended, front_fired, front_gets, front_reads, front_rest, front_rests, front_saying, front_taken, front_timer, given_sent, good_path, handed_off, heard, holds, is_row_at, is_telling, is_with, last_ack, last_words, may_freeze, may_read, next_epoch, offer_kept, on_segment, over_note, parts_kept, placed, reading_left, reading_turn, reads_block, reads_found, reads_on, refusal, returned_row, sent_of, serving, serving_consumed, serving_ready_of, serving_settled, serving_told, settled_by, spoken, tag_sent, targeted, timed, tombstone, turn_here, waits_on, without}
use Rattle.lard_base.specs.declared.place.Place.TheVariants as place
use Rattle.lard_base.specs.declared.place.Reason.TheVariants as reason
use Rattle.lard_base.specs.declared.place.TimerKind.TheVariants as kind
use Rattle.lard_base.specs.declared.place.Via.TheVariants.{Own}
use Rattle.lard_block.specs.declared.block.Found.TheVariants.{Block, More, TooLong}
use Rattle.lard_rules.specs.Bounds as cluster
use Rattle.lard_law_connections.proofs.ReturnedParts.{ReadsOffer, reads-offer}
use Rattle.lard_laws.proofs.RecordsFit.{IsAdoptable, IsTold, fit-listening, keeping-adopted, keeping-segment, keeping-timer, offer-fits}
use Rattle.lard_laws.proofs.RecordsLetters.{IsLetter, bytes-message, conn-number, is-message, offer-read, spells}
use Rattle.lard_laws.proofs.RecordsNamed.{AreNamed, IsNamed, contents, verdict-named}
use Rattle.lard_laws.proofs.RecordsServing.{EndFits, EndKeeps, Keeps, Serves, TurnFits, answered-serves, consumed-serves, count-few, ended-serves, ready-few, ready-sent, settled-fits, spoken-fits, told-sent}
use Rattle.lard_laws.proofs.RecordsTurns.{AreHeld, IsTurn, held-less, held-sent, length-held, length-less, sends}
use Rattle.lard_dispatch.specs.declared.dispatch.First.TheVariants as first
use Rattle.lard_dispatch.specs.Sound as dispatch
use Rattle.lard_dispatch.proofs.Chosen.{IsChosen}
use Rattle.lard_rules.specs.Front.{Drops, Says, Does}
use Rattle.lard_rules.proofs.FrontBlocks.{EndsIdle, EndsServing, ServesAs, idle-of, segment-idle, segment-serves, settled-serves, spoken-idle, spoken-serves, timer-idle, timer-serves}
use Rattle.lard_rules.proofs.FrontCases.{IsInStage, KeptBySegment, admitted-keeps, asked-keeps, begun_row, begun_service, ended-keeps, fired_before, fired_service, heard_service, of-stage, segment-keeps, taken-keeps, timer-keeps, waiting_service}
use Rattle.lard_rules.proofs.FrontReturning.{adopted-serves}
use Rattle.lard_rules.proofs.FrontTurns.{HasStopped, reads-stop}
use Rattle.lard_handoff_front.specs.declared.row.FrontConn.TheVariants as stage
use Rattle.lard_history.proofs.Each.{Each, Each-append}
use Rattle.lard_journal.specs.declared.rec.Rec.TheVariants as rec
use Rattle.lard_law_view.proofs.ByteLists.{AreBytes}
use Rattle.lard_message.specs.declared.message.Body.TheVariants as body
use Rattle.lard_message.specs.Message as message
use Rattle.lard_request.specs.declared.verdict.Code.TheVariants as code
use Rattle.lard_request.specs.declared.verdict.Verdict.TheVariants.{Fault}
use Rattle.lard_rules.proofs.Runs.{runs_keep}
use Rattle.lard_rules.specs.declared.places.Ending.TheVariants as ending
use Rattle.lard_rules.specs.Loop as loop

-- ---- what is kept

-- a node that there can be
abbrev pub IsNode : ℕ → Type 0
IsNode n = dispatch.IsNode 64 n

pub node-number : (n : ℕ) → IsNode n → IsNumber n
node-number n h = let most = h.1 in omega (arith, most)

-- What is here is bytes, serves what was asked for, and may move where it waits; and where it is away is a node, in an epoch of messages.
abbrev pub StageKeeps : ℕ → FrontConn → Type 0
StageKeeps count (stage.Held b) = Keeps count b × ServesAs count b
StageKeeps count (stage.Waiting b) = Keeps count b × ServesAs count b × (may_freeze b ≡ true)
StageKeeps count stage.Lent = Unit {0}
StageKeeps count (stage.Offering node d) = IsNode node × (d.0 < 2 ^ 16)
StageKeeps count (stage.Moved node d) = IsNode node × (d.0 < 2 ^ 16)
StageKeeps count (stage.Closed last) = Unit {0}

abbrev pub RowKeeps : ℕ → ℕ → Option FrontRow → Type 0
RowKeeps c count None = Unit {0}
RowKeeps c count (Some row) = cluster.IsConnNumber c × StageKeeps count row.stage

-- its epoch has so much room in its field
abbrev pub HasRoom : ℕ → Option FrontRow → Type 0
HasRoom n None = Unit {0}
HasRoom n (Some row) = row.epoch.0 + n < 2 ^ 16

pub less-room : (n m : ℕ) (o : Option FrontRow) → m ≤ n → HasRoom n o → HasRoom m o
less-room n m None le h = tt
less-room n m (Some row) le h = omega (arith, le, h)

-- The path with which it waits names a file, and the last Tag has one to eight nodes. Each Ask that was answered assigned at most
-- eight requests.
pub record RestKeeps (rest : FrontRest) : Type 0 where
  pub assigned : rest.assigned ≤ 2 ^ 32 + 8 * rest.asks
  pub asks : rest.asks < 2 ^ 32
  pub tag : AllByRecursion IsNode rest.tag
  pub some : 0 < rest.asks → 1 ≤ length rest.tag
  pub short : length rest.tag ≤ 8
  pub target : IfSome rest.target IsNamed

pub record FrontKeeps (c : ℕ) (p : FrontPart) : Type 0 where
  pub row : RowKeeps c (front_rest p.rest).count p.row
  pub rest : RestKeeps (front_rest p.rest)
  pub kept : AreHeld place.Front p.kept
  pub few : length p.kept ≤ 1

-- nothing is known of what was done
pub no-rest : RestKeeps (front_rest None)
no-rest = record { assigned = omega arith; asks = omega arith; tag = tt; some = λ h. absurd (omega (arith, h)); short = omega arith; target = tt }

-- ---- what the dispatcher answers

abbrev pub FirstFits : First → Type 0
FirstFits (first.Go choice) = IsChosen 64 choice
FirstFits first.Waits = Unit {0}

pub record IsLater (choice : LaterChoice) : Type 0 where
  pub node : IsNode choice.node
  pub add : IfSome choice.add IsNode

-- each choice is of a node that there can be
pub record AnswersFit (env : FrontEnv) : Type 0 where
  pub first : (path : List ℕ) → FirstFits (env.first path)
  pub later : (ask : Ask) → IsNode ask.home → Each IsLater (env.later ask).choices
  pub as_many : (ask : Ask) → length (env.later ask).choices ≡ length ask.paths

choice-range : (o : Option ℕ) → IfSome o IsNode → IsChoiceInRange o
choice-range None h = tt
choice-range (Some n) h = node-number n h

-- ---- what a rule comes to

abbrev pub FrontTurnFits : FrontTurn → Type 0
FrontTurnFits t = IsTurn place.Front t.notes t.segments t.gave t.messages

abbrev pub DeedFits : ℕ → FrontDeed → Type 0
DeedFits c Drops = Unit {0}
DeedFits c (Says t) = FrontTurnFits t
DeedFits c (Does x) = FrontKeeps c x.part × FrontTurnFits x.turn

-- of one that ended, whose epoch has room still
abbrev pub EndedFits : ℕ → FrontDeed → Type 0
EndedFits c Drops = Unit {0}
EndedFits c (Says t) = FrontTurnFits t
EndedFits c (Does x) = FrontKeeps c x.part × HasRoom 1 x.part.row × FrontTurnFits x.turn

-- an endpoint's turn is one of the front end
here-fits : (t : Turn) → TurnFits place.Front t → FrontTurnFits (turn_here t)
here-fits t h = record { notes = h.notes; segments = h.sent; few = h.few; gave = tt; messages = tt; few_messages = omega arith }

-- the records by which the requests of an Ask are assigned
assigned-range : (c : ℕ) (ask : Ask) (r : ℕ) (paths : List (List ℕ)) (choices : List LaterChoice) → IsNumber c → r + length choices ≤ 2 ^ 40 → IsNumber ask.size → IsNumber ask.queue → Each IsUnspaced paths
    → Each IsLater choices → Each IsRecordInRange (assigned_notes c ask r paths choices)
assigned-range c ask r [] choices n few size queue ps cs = tt
assigned-range c ask r (path ∷ paths) [] n few size queue ps cs = tt
assigned-range c ask r (path ∷ paths) (choice ∷ choices) n few size queue ps cs =
    ((n, omega (arith, few), ps.0, node-number choice.node cs.0.node, choice-range choice.add cs.0.add, size, queue), assigned-range c ask (r + 1) paths choices n (omega (arith, few)) size queue ps.1 cs.1)

over-range : (c : ℕ) (b : Bool) → IsNumber c → Each IsRecordInRange (over_note c b)
over-range c true n = (n, tt)
over-range c false n = tt

-- the nodes of a Tag
nodes-of : (choices : List LaterChoice) → Each IsLater choices → AllByRecursion IsNode (map (λ x. x.node) choices)
nodes-of [] h = tt
nodes-of (x ∷ xs) h = (h.0.node, nodes-of xs h.1)

nodes-bytes : (nodes : List ℕ) → AllByRecursion IsNode nodes → AreBytes nodes
nodes-bytes [] h = tt
nodes-bytes (n ∷ ns) h = let most = h.0.1 in (omega (arith, most), nodes-bytes ns h.1)

nodes-length : (choices : List LaterChoice) → length (map (λ x. x.node) choices) ≡ length choices
nodes-length [] = refl
nodes-length (x ∷ xs) = ap suc (nodes-length xs)

-- the bytes of a segment, as a Forward has them
abbrev pub IsSegment : List ℕ → Type 0
IsSegment bytes = message.IsOfTable (body.Forward bytes)

-- an Ask as it was read
pub record IsAsked (z q n : ℕ) (ps : List (List ℕ)) : Type 0 where
  pub number : z < 2 ^ 32
  pub queue : q < 2 ^ 32
  pub size : n ≤ 8
  pub some : 1 ≤ length ps
  pub few : length ps ≤ 8
  pub paths : Each IsUnspaced ps

-- what may be read has not ended
pub may-open : (w : Service) → may_read w ≡ true → w.block.send.finished ≡ false
may-open w may = not-true w.block.send.finished (and_parts (not w.block.send.finished) _ (and_parts (not w.block.reset) _ may).1).0

-- ---- the rules, in an environment of the front end

module _ (env : FrontEnv) (own : env.serve.place ≡ place.Front) (conn : cluster.IsConnNumber env.serve.c) (small : env.serve.stream ≤ 2 ^ 30) (named : AreNamed env.serve.files) where
  abbrev c : ℕ
  c = env.serve.c

  abbrev number : IsNumber env.serve.c
  number = conn-number env.serve.c conn

  at : IsPlaceInRange env.serve.place
  at = subst IsPlaceInRange (sym own) tt

  abbrev IsServing : Service → Type 0
  IsServing w = Serves env.serve number small (contents env.serve.files named) at w

  -- a message of the front end
  abbrev IsSaid : Place × List ℕ → Type 0
  IsSaid s = IsLetter place.Front s

  spoken-front : (w : Service) (before : List (Place × List ℕ)) → Each (IsLetter env.serve.place) before → length before ≤ 1 → IsServing w → EndFits place.Front (spoken env.serve w before)
  spoken-front w before sent one h = subst (λ (p : Place). EndFits p (spoken env.serve w before)) own (spoken-fits env.serve number small (contents env.serve.files named) at w before sent one h)

  -- ---- reading

  abbrev IsReading : Reading → Type 0
  IsReading x = IsServing x.service × IfSome x.target IsNamed

  abbrev IsReadingIn : Step Reading → Type 0
  IsReadingIn (loop.More y) = IsReading y
  IsReadingIn (loop.Done y) = IsReading y

  targeted-reads : (path : List ℕ) (x : Reading) → IsNamed path → IsReading x → IsReading (targeted path x)
  targeted-reads path x n h = cond_both (may_freeze x.service.block) (record x { target = Some path }) x IsReading (λ t. (h.0, n)) (λ t. h)

  -- nothing is read behind the FIN
  abbrev IsOpen : Reading → Type 0
  IsOpen x = x.service.block.send.finished ≡ false

  block-reads : (x : Reading) (n : ℕ) (v : Verdict) (o : Option (List ℕ)) → IsOpen x → IfSome o IsNamed → IsReading x → IsReadingIn (reads_block env.serve x n v o)
  block-reads x n v None open_ k h = (answered-serves env.serve number small (contents env.serve.files named) at Own v (serving_consumed n x.service) tt open_ (consumed-serves env.serve number small (contents env.serve.files named) at n x.service h.0), h.1)
  block-reads x n v (Some path) open_ k h = targeted-reads path x k h

  found-reads : (x : Reading) (f : Found) → IsOpen x → IsReading x → IsReadingIn (reads_found env.serve x f)
  found-reads x (More skip) open_ h = (ended-serves env.serve number small (contents env.serve.files named) at (serving_consumed skip x.service) (consumed-serves env.serve number small (contents env.serve.files named) at skip x.service h.0), h.1)
  found-reads x (Block skip len) open_ h = block-reads x (skip + len) (block_at x skip len) (good_path env.serve.files (block_at x skip len)) open_ (verdict-named env.serve.files named (block_at x skip len)) h
  found-reads x (TooLong skip) open_ h = (
    answered-serves env.serve number small (contents env.serve.files named) at Own (Fault code.FieldsTooLarge) (serving_consumed (length x.service.block.recv.unread) x.service) tt open_
        (consumed-serves env.serve number small (contents env.serve.files named) at (length x.service.block.recv.unread) x.service h.0),
    h.1,
  )

  turn-reads : (x : Reading) → IsReading x → IsReadingIn (reading_turn env.serve x)
  turn-reads x h = cond_both (may_read x.service) (reads_found env.serve x (cut_of x.service.block.recv.unread)) (loop.Done x) IsReadingIn (λ t. found-reads x (cut_of x.service.block.recv.unread) (may-open x.service t) h) (λ t. h)

  reads-read : (x : Reading) → IsReading x → IsReading (front_reads env.serve x)
  reads-read x h = runs_keep (reading_turn env.serve) reading_left IsReading (record {
    more = λ y z e p. subst IsReadingIn e (turn-reads y p);
    done = λ y z e p. subst IsReadingIn e (turn-reads y p);
  }) x h

  -- ---- a connection that is here

  module _ (p : FrontPart) (held : FrontKeeps c p) where
    abbrev Fits : FrontDeed → Type 0
    Fits d = DeedFits c d

    -- it stays in a stage
    abbrev StaysIn : (ControlBlock → FrontConn) → Ending → Type 0
    StaysIn stays (ending.Here b count) = StageKeeps count (stays b)
    StaysIn stays (ending.Over last) = Unit {0}

    stays-held : (x : Ending) → EndKeeps x → EndsServing x → StaysIn stage.Held x
    stays-held (ending.Here b count) k serves = (k, serves)
    stays-held (ending.Over last) k serves = tt

    stays-waiting : (x : Ending) → EndKeeps x → EndsServing x → EndsIdle x → StaysIn stage.Waiting x
    stays-waiting (ending.Here b count) k serves idle = (k, serves, idle)
    stays-waiting (ending.Over last) k serves idle = tt

    rests-keep : (row : FrontRow) (rest : FrontRest) (stays : ControlBlock → FrontConn) (e : Ending) → StaysIn stays e → RestKeeps rest
        → FrontKeeps c (front_rests p row rest stays e)
    rests-keep row rest stays (ending.Here b count) on r = record {
      row = (conn, on);
      rest = record { assigned = r.assigned; asks = r.asks; tag = r.tag; some = r.some; short = r.short; target = r.target };
      kept = held.kept;
      few = held.few;
    }
    rests-keep row rest stays (ending.Over last) on r = record { row = (conn, tt); rest = no-rest; kept = held.kept; few = held.few }

    holds-fits : (row : FrontRow) (rest : FrontRest) (given : Ending × Turn) → RestKeeps rest → EndFits place.Front given → EndsServing given.0
        → Fits (holds p row rest given)
    holds-fits row rest given r h serves = (rests-keep row rest stage.Held given.0 (stays-held given.0 h.keeps serves) r, here-fits given.1 h.turn)

    waits-fits : (row : FrontRow) (rest : FrontRest) (given : Ending × Turn) → RestKeeps rest → EndFits place.Front given → EndsServing given.0
        → EndsIdle given.0
        → Fits (waits_on env p row rest given)
    waits-fits row rest given r h serves idle = (rests-keep row rest stage.Waiting given.0 (stays-waiting given.0 h.keeps serves idle) r, here-fits given.1 h.turn)

    -- ---- the hand-off

    handed-fits : (row : FrontRow) (w : Service) (path : List ℕ) (choice : FirstChoice) → row.epoch.0 + 1 < 2 ^ 16 → IsServing w → ServesAs w.count w.block
        → may_freeze w.block ≡ true → IsNamed path → IsChosen 64 choice
        → FrontKeeps c (handed_off env row w path choice).0 × FrontTurnFits (handed_off env row w path choice).1
    handed-fits row w path choice early h serves may n chosen =
        let few = count-few w.count w.block h.keeps in
        let parts = offer-fits w.block w.count may serves.asked h.keeps.2 in
        let offer : IsSaid (sent_of (offer_kept c row w.block w.count choice.node)) =
        (node-number choice.node chosen.node, bytes-message c (next_epoch row).0 (body.Offer _) h.keeps.1, tt, spells c (next_epoch row).0 (body.Offer _) conn (omega (arith, early)) parts.0 parts.1) in (
          record {
            row = (conn, (chosen.node, omega (arith, early)));
            rest = record { assigned = omega (arith, few); asks = omega arith; tag = tt; some = λ some. absurd (omega (arith, some)); short = omega arith; target = tt };
            kept = (offer, tt);
            few = omega arith;
          },
          record {
            notes = Each-append IsRecordInRange w.notes (rec.Admitted c ∷ rec.AssignedFirst c (w.count + 1) path choice.node choice.add choice.remove ∷ []) h.notes
                (number, ((number, omega (arith, few), n.0, node-number choice.node chosen.node, choice-range choice.add chosen.add, choice-range choice.remove chosen.remove), tt));
            segments = tt;
            few = omega arith;
            gave = ((tt, number, omega (arith, early)), tt);
            messages = (offer, tt);
            few_messages = omega arith;
          },
        )

    -- what holds in its stage
    kept-at : (row : FrontRow) (st : FrontConn) → IsInStage p row st → StageKeeps (front_rest p.rest).count st
    kept-at row st at = (of-stage (RowKeeps c (front_rest p.rest).count) p row st at held.row).1

    -- and that its epoch has room
    room-at : (n : ℕ) (row : FrontRow) → p.row ≡ Some row → HasRoom n p.row → row.epoch.0 + n < 2 ^ 16
    room-at n row found room = subst (HasRoom n) found room

    -- ---- segments

    forwarded-fits : (node : ℕ) (epoch : Epoch) (bytes : List ℕ) → IsNode node → epoch.0 < 2 ^ 16 → AreBytes bytes → IsSegment bytes → Fits (forwarded env node epoch bytes)
    forwarded-fits node epoch bytes n early h long = sends place.Front _ ((node-number node n, bytes-message c epoch.0 (body.Forward bytes) h, tt, spells c epoch.0 (body.Forward bytes) conn early long tt), tt) (omega arith)

    -- an ended connection answers by one segment without data, or none
    one-fits : (s : Said) → s.payload ≡ [] → FrontTurnFits (turn_here (tombstone env.serve (Some s)))
    one-fits s none = record { notes = tt; segments = (subst (λ (q : Place). IsLetter q (serving_told env.serve s)) own (told-sent env.serve number s none), tt); few = omega arith; gave = tt; messages = tt; few_messages = omega arith }

    none-fits : FrontTurnFits (turn_here (tombstone env.serve None))
    none-fits = sends place.Front [] tt (omega arith)

    abbrev Tells : Option Said → Type 0
    Tells o = FrontTurnFits (turn_here (tombstone env.serve o))

    ended-fits : (why : Reason) (last : Final) (s : Said) → Tells (last_words why last s)
    ended-fits reason.Closed last s = cond_both (is_telling s) (Some (last_ack last)) None Tells (λ t. one-fits (last_ack last) refl) (λ t. none-fits)
    ended-fits reason.Peer last s = none-fits
    ended-fits reason.Limit last s = cond_both (s.flags.ack && not s.flags.rst) (Some (refusal s.ack)) None Tells (λ t. one-fits (refusal s.ack) refl) (λ t. none-fits)

    fresh : (b : ControlBlock) (count : ℕ) → Keeps count b → IsServing (serving b count [])
    fresh b count k = record { notes = tt; keeps = k; over = tt }

    -- what was read is in range and serves what was asked for, and what is to be placed may move
    abbrev Came : Service → Option (List ℕ) → Type 0
    Came w o = IsReading (record { service = w; target = o }) × HasStopped (record { service = w; target = o })

    holds-came : (row : FrontRow) (rest : FrontRest) → RestKeeps rest → (w : Service) → Came w None → Fits (holds p row rest (serving_settled env.serve w))
    holds-came row rest r w came = holds-fits row rest (serving_settled env.serve w) r
        (subst (λ (q : Place). EndFits q (serving_settled env.serve w)) own (settled-fits env.serve number small (contents env.serve.files named) at w came.0.0))
        (settled-serves env.serve w came.1.0)

    hands-came : (row : FrontRow) (rest : FrontRest) → row.epoch.0 + 1 < 2 ^ 16 → (w : Service) (path : List ℕ) (choice : FirstChoice) → Came w (Some path)
        → IsChosen 64 choice
        → Fits (Does (placed env p row rest w path (first.Go choice)))
    hands-came row rest early w path choice came chosen = handed-fits row w path choice early came.0.0 came.1.0 came.1.1 came.0.1 chosen

    waits-came : (row : FrontRow) (rest : FrontRest) → RestKeeps rest → (w : Service) (path : List ℕ) → Came w (Some path)
        → Fits (Does (placed env p row rest w path first.Waits))
    waits-came row rest r w path came =
        let v : Service = waiting_service env w in
        let says : EndFits place.Front (spoken env.serve v []) =
        spoken-front v [] tt (omega arith)
        (record { notes = Each-append IsRecordInRange w.notes (rec.Waits c ∷ []) came.0.0.notes (number, tt); keeps = came.0.0.keeps; over = came.0.0.over }) in
        waits-fits row (record rest { target = Some path }) (spoken env.serve v [])
        (record { assigned = r.assigned; asks = r.asks; tag = r.tag; some = r.some; short = r.short; target = came.0.1 }) says
        (spoken-serves env.serve v [] came.1.0) (spoken-idle env.serve v [] (idle-of w.block came.1.1 came.1.0.sent))

    reads-came : (b : ControlBlock) (count : ℕ) → Keeps count b → ServesAs count b
        → (let x : Reading = front_reads env.serve (record { service = serving b count []; target = None }) in Came x.service x.target)
    reads-came b count keeps serves =
        (reads-read (record { service = serving b count []; target = None }) (fresh b count keeps, tt), reads-stop env.serve (serving b count []) serves)

    -- an endpoint reads on
    pub reads-fit : ((path : List ℕ) → FirstFits (env.first path)) → (row : FrontRow) (rest : FrontRest) → row.epoch.0 + 1 < 2 ^ 16 → RestKeeps rest
        → (b : ControlBlock)
        → Keeps rest.count b → ServesAs rest.count b → Fits (heard env p row rest b)
    reads-fit answers row rest early r b keeps serves = settled x.service x.target (reads-came b rest.count keeps serves) where
      x : Reading
      x = front_reads env.serve (record { service = serving b rest.count []; target = None })

      goes : (w : Service) (path : List ℕ) → Came w (Some path) → (f : First) → FirstFits f → Fits (Does (placed env p row rest w path f))
      goes w path came (first.Go choice) chosen = hands-came row rest early w path choice came chosen
      goes w path came first.Waits chosen = waits-came row rest r w path came

      settled : (w : Service) (o : Option (List ℕ)) → Came w o → Fits (settled_by env p row rest w o)
      settled w None came = holds-came row rest r w came
      settled w (Some path) came = goes w path came (env.first path) (answers path)

    by-segment : AnswersFit env → HasRoom 1 p.row → env.iss < 2 ^ 32 → (bytes : List ℕ) (s : Said) → AreBytes bytes → IsTold s → IsSegment bytes
        → KeptBySegment env p bytes s Came Fits
    by-segment answers room first bytes s h told long = record {
      drops = tt;
      begins = λ none plain. holds-fits begun_row (front_rest None) (spoken env.serve (begun_service env s) []) no-rest
          (spoken-front (begun_service env s) [] tt (omega arith) (record { notes = ((tt, number, omega arith), tt); keeps = ((tt, omega arith, omega arith), tt, fit-listening s env.iss told first); over = tt }))
          (spoken-serves env.serve (begun_service env s) [] (record { asked = omega arith; most = omega arith; sent = omega arith }));
      reads = λ row b at. let k = kept-at row (stage.Held b) at in
          reads-came (on_segment b s).1 (front_rest p.rest).count (keeping-segment ((front_rest p.rest).count - 2 ^ 30) b s told k.0)
          (segment-serves (front_rest p.rest).count b s k.1);
      holds = λ row b w here came. holds-came row (front_rest p.rest) held.rest w came;
      hands = λ row b w path choice here came is. hands-came row (front_rest p.rest) (room-at 1 row here.0 room) w path choice came (subst FirstFits is (answers.first path));
      waits = λ row b w path here came is. waits-came row (front_rest p.rest) held.rest w path came;
      stays = λ row b at.
          let k = kept-at row (stage.Waiting b) at in
          let w : Service = heard_service p b s in
          waits-fits row (front_rest p.rest) (spoken env.serve w []) held.rest
          (spoken-front w [] tt (omega arith) (fresh (on_segment b s).1 (front_rest p.rest).count (keeping-segment ((front_rest p.rest).count - 2 ^ 30) b s told k.0)))
          (spoken-serves env.serve w [] (segment-serves (front_rest p.rest).count b s k.1)) (spoken-idle env.serve w [] (segment-idle b s (idle-of b k.2 k.1.sent)));
      forwards = λ row n e at.
          let k = ⊎_elim (λ (i : IsInStage p row (stage.Offering n e)). kept-at row (stage.Offering n e) i) (λ (i : IsInStage p row (stage.Moved n e)). kept-at row (stage.Moved n e) i) at in
          forwarded-fits n e bytes k.0 k.1 h long;
      words = λ row last at. ended-fits last.reason last s;
    }

    pub gets-fits : AnswersFit env → HasRoom 1 p.row → env.iss < 2 ^ 32 → (bytes : List ℕ) (r : Result Said SegFault) → AreBytes bytes
        → ((s : Said) → r ≡ Ok s → IsTold s × IsSegment bytes) → Fits (front_gets env p bytes r)
    gets-fits answers room first bytes (Err fault) h d = tt
    gets-fits answers room first bytes (Ok s) h d = let said = d s refl in segment-keeps env p bytes s Came Fits (by-segment answers room first bytes s h said.0 said.1)

    -- ---- timers

    fired-fits : (rest : FrontRest) (b : ControlBlock) → Keeps rest.count b → EndFits place.Front (front_fired env rest b)
    fired-fits rest b k =
        let after : Keeps rest.count (after_timer b) = keeping-timer (rest.count - 2 ^ 30) b k in
        spoken-front (serving (after_timer b) rest.count []) (serving_ready_of env.serve (after_timer b) (timed b))
        (ready-sent env.serve number (rest.count - 2 ^ 30) (after_timer b) (timed b) after) (ready-few env.serve number (after_timer b) (timed b)) (fresh (after_timer b) rest.count after)

    fired-serves : (rest : FrontRest) (b : ControlBlock) → ServesAs rest.count b → EndsServing (front_fired env rest b).0
    fired-serves rest b h = spoken-serves env.serve (serving (after_timer b) rest.count []) (serving_ready_of env.serve (after_timer b) (timed b)) (timer-serves rest.count b h)

    pub fires-fits : Fits (front_timer env p)
    fires-fits = timer-keeps env p Fits (record {
      drops = tt;
      holds = λ row b at. let k = kept-at row (stage.Held b) at in
          holds-fits row (front_rest p.rest) (front_fired env (front_rest p.rest) b) held.rest (fired-fits (front_rest p.rest) b k.0) (fired-serves (front_rest p.rest) b k.1);
      stays = λ row b at. let k = kept-at row (stage.Waiting b) at in
          waits-fits row (front_rest p.rest) (front_fired env (front_rest p.rest) b) held.rest (fired-fits (front_rest p.rest) b k.0) (fired-serves (front_rest p.rest) b k.1)
          (spoken-idle env.serve (fired_service p b) (fired_before env b) (timer-idle b (idle-of b k.2 k.1.sent)));
      resends = λ row n e at.
          let few = held.few in
          let as_many = length-held p.kept in
          sends place.Front (map sent_of p.kept) (held-sent place.Front p.kept held.kept) (omega (arith, few, as_many));
    })

    -- ---- messages of nodes

    -- its Offer is held no longer
    less : AreHeld place.Front (without kind.Offer 0 p.kept)
    less = held-less kind.Offer 0 place.Front p.kept held.kept

    less-few : length (without kind.Offer 0 p.kept) ≤ 1
    less-few = let few = held.few in let fewer = length-less kind.Offer 0 p.kept in omega (arith, few, fewer)

    pub taken-fits : (epoch : ℕ) → epoch < 2 ^ 16 → Fits (front_taken p epoch)
    taken-fits epoch early = taken-keeps p Fits tt epoch (λ row n e at same. let k = kept-at row (stage.Offering n e) at in (
      record { row = (conn, (k.0, early)); rest = held.rest; kept = less; few = less-few },
      sends place.Front [] tt (omega arith),
    ))

    -- ---- an Ask

    with-fits : (count from epoch : ℕ) (x : FrontConn) → StageKeeps count x → is_with from epoch x ≡ true → IsNode from
    with-fits count from epoch (stage.Offering n d) k is = subst IsNode (eqb-true n from (and_parts (n == from) (d.0 == epoch) is).0) k.0
    with-fits count from epoch (stage.Moved n d) k is = subst IsNode (eqb-true n from (and_parts (n == from) (d.0 == epoch) is).0) k.0
    with-fits count from epoch _ k is = let no : false ≡ true = is in absurd cc

    -- the node that asks is one
    at-fits : (from epoch : ℕ) (o : Option FrontRow) → RowKeeps c (front_rest p.rest).count o → is_row_at from epoch o ≡ true → IsNode from
    at-fits from epoch None k is = let no : false ≡ true = is in absurd cc
    at-fits from epoch (Some row) k is = with-fits (front_rest p.rest).count from epoch row.stage k.1 is

    tag-fits : (from epoch n : ℕ) (nodes : List ℕ) → IsNode from → epoch < 2 ^ 16 → n < 2 ^ 32 → AllByRecursion IsNode nodes → 1 ≤ length nodes → length nodes ≤ 8 → FrontTurnFits (front_saying (tag_sent env from epoch n nodes))
    tag-fits from epoch n nodes node early low are some few =
        sends place.Front (tag_sent env from epoch n nodes)
        ((node-number from node, bytes-message c epoch (body.Tag n nodes) (omega (arith, few), nodes-bytes nodes are), tt, spells c epoch (body.Tag n nodes) conn early (some, few) (low, are)), tt) (omega arith)

    module _ (from epoch z queue size : ℕ) (early : epoch < 2 ^ 16) (paths : List (List ℕ)) (asked : IsAsked z queue size paths) (node : IsNode from) where
      abbrev ask : Ask
      ask = ask_of c from z queue size paths

      assigns-fits : (rest : FrontRest) → p.rest ≡ Some rest → z ≡ rest.asks + 1 → (l : Later) → Each IsLater l.choices → length l.choices ≡ length paths → Fits (Does (assigns env p rest from epoch ask l))
      assigns-fits rest there next l chosen few =
          let same : front_rest p.rest ≡ rest = ap front_rest there in
          let r : RestKeeps rest = subst RestKeeps same held.rest in
          let most = r.assigned in
          let asks = r.asks in
          let below = asked.number in
          let eight = asked.few in
          let size_small = asked.size in
          let queue_small = asked.queue in
          let as_many = nodes-length l.choices in
          let one = asked.some in
          let tag : FrontTurnFits (front_saying (tag_sent env from epoch z (map (λ x. x.node) l.choices))) =
          tag-fits from epoch z (map (λ x. x.node) l.choices) node early below (nodes-of l.choices chosen) (omega (arith, as_many, few, one)) (omega (arith, as_many, few, eight)) in (
            record {
              row = subst (λ (k : FrontRest). RowKeeps c k.count p.row) same held.row;
              rest = record {
                assigned = omega (arith, most, next, few, eight);
                asks = omega (arith, below);
                tag = nodes-of l.choices chosen;
                some = λ h. omega (arith, as_many, few, one);
                short = omega (arith, as_many, few, eight);
                target = r.target;
              };
              kept = held.kept;
              few = held.few;
            },
            record {
              notes = Each-append IsRecordInRange (over_note c l.over) (assigned_notes c ask rest.assigned paths l.choices) (over-range c l.over number)
                  (assigned-range c ask rest.assigned paths l.choices number (omega (arith, most, asks, few, eight)) (omega (arith, size_small)) (omega (arith, queue_small)) asked.paths chosen);
              segments = tt;
              few = omega arith;
              gave = tt;
              messages = tag.messages;
              few_messages = tag.few_messages;
            },
          )

    pub asked-fits : AnswersFit env → (from epoch z queue size : ℕ) (paths : List (List ℕ)) → epoch < 2 ^ 16 → IsAsked z queue size paths → Fits (front_asked env p from epoch (ask_of c from z queue size paths))
    asked-fits answers from epoch z queue size paths early asked = asked-keeps p Fits tt env from epoch (ask_of c from z queue size paths)
        (λ rest there is same some. let r : RestKeeps rest = subst RestKeeps (ap front_rest there) held.rest in
        tag-fits from epoch rest.asks rest.tag (at-fits from epoch p.row held.row is) early r.asks r.tag (r.some some) r.short)
        (λ rest there is next. let node : IsNode from = at-fits from epoch p.row held.row is in let its : Ask = ask_of c from z queue size paths in
        assigns-fits from epoch z queue size early paths asked node rest there next (env.later its) (answers.later its node) (answers.as_many its))

    -- ---- an end

    acks : (from epoch : ℕ) → IsNumber from → epoch < 2 ^ 16 → FrontTurnFits (front_saying (ack_sent env from epoch))
    acks from epoch n early = sends place.Front (ack_sent env from epoch) ((n, bytes-message c epoch body.EndedAck tt, tt, spells c epoch body.EndedAck conn early tt tt), tt) (omega arith)

    pub ended-deed : HasRoom 3 p.row → (from epoch : ℕ) (last : Final) → IsNumber from → epoch < 2 ^ 16 → EndedFits c (front_ended env p from epoch last)
    ended-deed room from epoch last n two = ended-keeps p (EndedFits c) tt env from epoch last (λ row found away again. acks from epoch n two) (λ row found away.
        let ack = acks from epoch n two in
        let early = room-at 3 row found room in (
          record { row = (conn, tt); rest = no-rest; kept = less; few = less-few },
          omega (arith, early),
          record { notes = ((tt, number, omega (arith, early)), (number, tt)); segments = tt; few = omega arith; gave = tt; messages = ack.messages; few_messages = ack.few_messages },
        ))

    -- ---- the head of the line

    pub admitted-fits : HasRoom 1 p.row → (choice : FirstChoice) → IsChosen 64 choice → (given : FrontPart × FrontTurn)
        → front_admitted env p choice ≡ Some given
        → FrontKeeps c given.0 × FrontTurnFits given.1
    admitted-fits room choice chosen = admitted-keeps env p choice (λ given. FrontKeeps c given.0 × FrontTurnFits given.1) (λ row b path at target. let k = kept-at row (stage.Waiting b) at in
        handed-fits row (serving b (front_rest p.rest).count []) path choice (room-at 1 row at.0 room) (fresh b (front_rest p.rest).count k.0) k.1 k.2
        (subst (λ (o : Option (List ℕ)). IfSome o IsNamed) target held.rest.target) chosen)

  -- ---- a connection that comes back

  module _ (p : FrontPart) (held : FrontKeeps c p) where
    -- what may have been given again is answered again
    pub given-fits : (from epoch : ℕ) (given : Option EndpointParts) → IsNumber from → epoch < 2 ^ 16
        → FrontTurnFits (front_saying (given_sent c from epoch given))
    given-fits from epoch None n early = sends place.Front [] tt (omega arith)
    given-fits from epoch (Some parts) n early = sends place.Front (given_sent c from epoch (Some parts))
        ((n, bytes-message c epoch body.Given tt, tt, spells c epoch body.Given conn early tt tt), tt) (omega arith)

    module _ (row : FrontRow) (parts : EndpointParts) (fit : IsAdoptable parts) where
      -- it is here with the endpoint that came back
      pub back-held : FrontKeeps c (back_part p row parts)
      back-held = record {
        row = (conn, (keeping-adopted parts fit, adopted-serves parts fit.valid));
        rest = record { assigned = omega arith; asks = omega arith; tag = tt; some = λ some. absurd (omega (arith, some)); short = omega arith; target = tt };
        kept = less p held;
        few = less-few p held;
      }

      pub returned-fits : row.epoch.0 + 2 < 2 ^ 16 → ((path : List ℕ) → FirstFits (env.first path)) → DeedFits c (reads_on env p row parts)
      returned-fits early answers =
          let back : FrontKeeps c (back_part p row parts) = back-held in
          reads-fit (back_part p row parts) back answers (returned_row parts row) (back_rest parts) (omega (arith, early)) back.rest (adopted parts) back.row.1.0 back.row.1.1

-- the endpoint of an Offer that is kept
pub kept-adoptable : (ks : List Kept) → AreHeld place.Front ks → (parts : EndpointParts) → parts_kept ks ≡ Some parts → IsAdoptable parts
kept-adoptable [] h parts is = let no : None ≡ Some parts = is in absurd cc
kept-adoptable (q ∷ ks) h parts is =
    let o : ReadsOffer q.bytes parts = reads-offer q.bytes parts is in
    let m : IsMessage o.read = is-message q.bytes o.read h.0.1 o.reads in
    record {
      valid = subst message.IsOfTable o.offers m.table;
      fits = subst message.FitsFields o.offers m.fits;
      unread = offer-read q.bytes o.read.c o.read.epoch.0 parts h.0.1 (o.reads ∙ (λ i. Ok (record o.read { body = o.offers i })));
    }
