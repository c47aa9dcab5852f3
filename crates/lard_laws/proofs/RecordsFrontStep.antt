-- A step of the front end: what it keeps of each connection, and what it does, is in range.
use Rattle.std.proofs.Common.{◌≡◌, ◌+◌, ℕ, ◌≤◌, ◌<◌, ◌^◌, List, [], ◌∷◌, ◌++◌, length, length-append, Option, Some, None, IfSome, Ok, Err, Result, refl, subst, arith}
use Rattle.std.proofs.lemmas.Bool.{cond_both}
use Rattle.lard_base.proofs.Usable.{usable}
use Rattle.lard_law_view.specs.Prelude.{Body, Did, DispatchStanding, EndpointParts, Final, FirstChoice, Front, FrontConn, FrontDeed, FrontEnv, FrontIn, FrontPart, FrontRest, FrontRow, FrontSetting, FrontState, FrontTurn, IsDispatcherSound, IsFrontSound, IsMessage, IsNumber, IsRecordInRange, IsRowSound, Kept, MAX_SEGMENT_BYTES, MayClose, MayCloseBy, MayCloseOn, Message, MsgFault, Out, Place, Rec, ToCluster, admits, admits_too, after_close, ask_of, back_part, closed_note, decoded, decoded_message, dispatch_standing, ended_answer, ended_deed, front_admitted, front_armed, front_asked, front_deed, front_drains, front_ended, front_env, front_gets, front_part, front_rest, front_saying, front_step, front_taken, front_timer, front_timers, front_told, given_sent, is_open, message_comes, nothing_done, parts_back, put_back, reads_on}
use Rattle.lard_law_connections.proofs.ReturnedSteps.{comes-keeps, head-books}
use Rattle.lard_rules.specs.Bounds as cluster
use Rattle.lard_laws.proofs.RecordsChoices as choices
use Rattle.lard_laws.proofs.RecordsFit.{IsAdoptable, some-decoded, told-decoded}
use Rattle.lard_laws.proofs.RecordsFronts as front
use Rattle.lard_laws.proofs.RecordsFronts.{AnswersFit, DeedFits, EndedFits, FirstFits, FrontKeeps, FrontTurnFits, HasRoom, IsAsked, RowKeeps, kept-adoptable, less-room}
use Rattle.lard_laws.proofs.RecordsLetters.{HasPaths, IsLetter, SaysPaths, conn-number, give-read, is-message}
use Rattle.lard_laws.proofs.RecordsNamed.{AreNamed}
use Rattle.lard_laws.proofs.RecordsTurns.{sends}
use Rattle.lard_laws.proofs.RecordsOuts.{OutFits, both-fit, nothing-fits, ordered-range, timers-range, turn-fits}
use Rattle.lard_dispatch.proofs.Chosen.{IsChosen}
use Rattle.lard_handoff_front.specs.declared.row.FrontConn.TheVariants as stage
use Rattle.lard_rules.proofs.FrontCases.{admitted-keeps, of-stage}
use Rattle.lard_rules.specs.Front.{Drops, Says, Does}
use Rattle.lard_rules.specs.FrontPlace.{HeadTurn, comes_back, env_behind, front_out_of, goes_behind, handed_head, head_turn, no_head, put_returned, returned_notes, returned_turn, returns}
use Rattle.lard_rules.specs.FrontSound.{HasOther, IsAwayAt, IsHereWith, IsStageSound, OpenNodes, open_nodes_of}
use Rattle.lard_rules.proofs.FrontClosing.{closes-stay}
use Rattle.lard_rules.proofs.FrontReturning.{returns-stay}
use Rattle.lard_rules.proofs.FrontKeeping.{put-all}
use Rattle.lard_history.proofs.Each.{Each, Each-append}
use Rattle.lard_journal.specs.declared.rec.Rec.TheVariants as rec
use Rattle.lard_law_view.proofs.ByteLists.{AreBytes}
use Rattle.lard_message.proofs.Fields.{some_same}
use Rattle.lard_message.specs.declared.message.Body.TheVariants as body
use Rattle.lard_rules.specs.declared.front.FrontIn.TheVariants as input

-- what a Give brings
abbrev Brings : Option EndpointParts → Type 0
Brings None = Unit {0}
Brings (Some parts) = IsAdoptable parts

-- what comes to the front end is of a connection or of a node in range, and has bytes; a segment fits a message
abbrev pub InputFits : FrontIn → Type 0
InputFits (input.Segment c iss bytes) = cluster.IsConnNumber c × AreBytes bytes × (iss.0 < 2 ^ 32) × (length bytes ≤ MAX_SEGMENT_BYTES)
InputFits (input.Message from bytes) = IsNumber from × AreBytes bytes × SaysPaths bytes
InputFits (input.Drain n) = IsNumber n
InputFits (input.Timer c) = cluster.IsConnNumber c

-- ---- epochs

stage-room : (k : OpenNodes) → k.all ≤ 64 → (rest : Option FrontRest) (kept : List Kept) (at : DispatchStanding) (e : ℕ) (st : FrontConn)
    → IsStageSound k e rest kept at st → e + 3 < 2 ^ 16
stage-room k few rest kept at e (stage.Held b) h = here rest h.0 where
  here : (rest : Option FrontRest) → IsHereWith k e b rest → e + 3 < 2 ^ 16
  here None is = absurd is
  here (Some r) is = let early = is.early in omega (arith, early, few)
stage-room k few rest kept at e (stage.Waiting b) h = here rest h.0 where
  here : (rest : Option FrontRest) → IsHereWith k e b rest → e + 3 < 2 ^ 16
  here None is = absurd is
  here (Some r) is = let early = is.early in omega (arith, early, few)
stage-room k few rest kept at e stage.Lent h = absurd h
stage-room k few rest kept at e (stage.Offering n d) h = let early = h.early in omega (arith, early, few)
stage-room k few rest kept at e (stage.Moved n d) h = let early = h.early in omega (arith, early, few)
stage-room k few rest kept at e (stage.Closed last) h = omega (arith, h.0, few)

row-room : (k : OpenNodes) → k.all ≤ 64 → (rest : Option FrontRest) (kept : List Kept) (at : DispatchStanding) (o : Option FrontRow)
    → IsRowSound k rest kept at o → HasRoom 3 o
row-room k few rest kept at None h = tt
row-room k few rest kept at (Some row) h = stage-room k few rest kept at row.epoch.0 row.stage h

-- ---- a step

-- the number of a connection of which a message is
pub message-number : (m : Message) → IsMessage m → cluster.IsConnNumber m.c
message-number m h = (h.some_connection, h.connection)

module _ (k : FrontSetting) (small : k.stream ≤ 2 ^ 30) (named : AreNamed k.files) (s : FrontState) (sound : IsFrontSound s) (held : (c : ℕ) → FrontKeeps c (front_part s c)) where
  abbrev StepFits : FrontState × Out → Type 0
  StepFits x = ((c : ℕ) → FrontKeeps c (front_part x.0 c)) × OutFits Front x.1

  answers : (c iss : ℕ) → AnswersFit (front_env k s c iss)
  answers c iss = record {
    first = λ path. choices.first-fits s.dispatch sound.books path k.now;
    later = λ ask node. choices.later-fits s.dispatch sound.books ask k.now node;
    as_many = λ ask. choices.later-length s.dispatch sound.books ask k.now;
  }

  -- each epoch has room in its field for all that a step makes of it
  all-few : (open_nodes_of s.dispatch).all ≤ 64
  all-few = (usable s.dispatch.config sound.books.usable).nodes

  room : (q : ℕ) → HasRoom 3 (front_part s q).row
  room q = row-room (open_nodes_of s.dispatch) all-few (front_part s q).rest (front_part s q).kept (dispatch_standing s.dispatch q) (front_part s q).row (sound.each q)

  one-room : (q : ℕ) → HasRoom 1 (front_part s q).row
  one-room q = less-room 3 1 (front_part s q).row (omega arith) (room q)

  still : StepFits (s, nothing_done)
  still = (held, nothing-fits Front)

  -- connection c is put back
  put-keeps : (c : ℕ) (x : Did) → FrontKeeps c x.part → (q : ℕ) → FrontKeeps q (front_part (put_back s c x) q)
  put-keeps c x h q = put-all FrontKeeps s c x.part h (λ q n. held q) q

  changed : (t : FrontState) (c : ℕ) (p : FrontPart) → cluster.IsConnNumber c → Each IsRecordInRange (front_timers c (front_part t c) p)
  changed t c p n = timers-range Front c (front_armed (front_part t c)) (front_armed p) tt (conn-number c n)

  did-fits : (c : ℕ) (x : Did) → cluster.IsConnNumber c → FrontKeeps c x.part → FrontTurnFits x.turn → StepFits (front_deed s c (Does x))
  did-fits c x n h t = (put-keeps c x h, turn-fits Front x.turn.notes x.turn.segments x.turn.gave x.turn.messages (front_timers c (front_part s c) x.part) x.turn.answered t (changed s c x.part n))

  deed-fits : (c : ℕ) (d : FrontDeed) → cluster.IsConnNumber c → DeedFits c d → StepFits (front_deed s c d)
  deed-fits c Drops n h = still
  deed-fits c (Says t) n h = (held, turn-fits Front t.notes t.segments t.gave t.messages [] t.answered h tt)
  deed-fits c (Does x) n h = did-fits c x n h.0 h.1

  -- ---- where a connection ended

  -- who waits has a number
  waits-number : (env : FrontEnv) (c : ℕ) (p : FrontPart) (choice : FirstChoice) (y : FrontPart × FrontTurn) → RowKeeps c (front_rest p.rest).count p.row → front_admitted env p choice ≡ Some y → cluster.IsConnNumber c
  waits-number env c p choice y h = admitted-keeps env p choice (λ given. cluster.IsConnNumber c) (λ row b path at target. (of-stage (RowKeeps c (front_rest p.rest).count) p row (stage.Waiting b) at h).0) y

  module _ (c : ℕ) (x : Did) (n : cluster.IsConnNumber c) (h : FrontKeeps c x.part) (small_epoch : HasRoom 1 x.part.row) (t : FrontTurnFits x.turn) where
    abbrev after : FrontState
    after = put_back s c x

    after-room : (q : ℕ) → HasRoom 1 (front_part after q).row
    after-room = put-all (λ q p. HasRoom 1 p.row) s c x.part small_epoch (λ q n. one-room q)

    admitted-fits : (d : ℕ) (choice : FirstChoice) (y : FrontPart × FrontTurn) → IsChosen 64 choice → front_admitted (front_env k after d 0) (front_part after d) choice ≡ Some y → StepFits (admits_too s after c x d (Some y))
    admitted-fits d choice y chosen e =
        let its : FrontKeeps d (front_part after d) = put-keeps c x h d in
        let number : cluster.IsConnNumber d = waits-number (front_env k after d 0) d (front_part after d) choice y its.row e in
        let both : FrontKeeps d y.0 × FrontTurnFits y.1 =
        front.admitted-fits (front_env k after d 0) refl number small named (front_part after d) its (after-room d) choice chosen y e in (
          put-all FrontKeeps after d y.0 both.0 (λ q other. put-keeps c x h q),
          both-fit Front x.turn.notes y.1.notes x.turn.segments y.1.segments x.turn.gave y.1.gave x.turn.messages y.1.messages _ x.turn.answered t both.1
              (ordered-range c d (front_timers c (front_part s c) x.part) (front_timers d (front_part after d) y.0) (changed s c x.part n) (changed after d y.0 number)),
        )

    too-fits : (d : ℕ) (choice : FirstChoice) (o : Option (FrontPart × FrontTurn)) → IsChosen 64 choice → front_admitted (front_env k after d 0) (front_part after d) choice ≡ o → StepFits (admits_too s after c x d o)
    too-fits d choice None chosen e = did-fits c x n h t
    too-fits d choice (Some y) chosen e = admitted-fits d choice y chosen e

    admits-fit : (o : Option (ℕ × FirstChoice)) → IfSome o (λ next. IsChosen 64 next.1) → StepFits (admits k s after c x o)
    admits-fit None chosen = did-fits c x n h t
    admits-fit (Some next) chosen = too-fits next.0 next.1 (front_admitted (front_env k after next.0 0) (front_part after next.0) next.1) chosen refl

  ended-fits : (c : ℕ) (d : FrontDeed) → cluster.IsConnNumber c → EndedFits c d → StepFits (ended_deed k s c d)
  ended-fits c Drops n h = still
  ended-fits c (Says t) n h = deed-fits c (Says t) n h
  ended-fits c (Does x) n h = admits-fit c x n h.0 h.1 h.2 (ended_answer s.dispatch c k.now) (choices.ended-fits s.dispatch sound.books c k.now)

  -- ---- where a connection comes back

  module _ (from c epoch : ℕ) (given : Option EndpointParts) (node : IsNumber from) (n : cluster.IsConnNumber c) (early : epoch < 2 ^ 16)
      (brings : Brings given) (other : HasOther s from) where
    abbrev p : FrontPart
    p = front_part s c

    abbrev said : List (Place × List ℕ)
    said = given_sent c from epoch given

    said-fits : FrontTurnFits (front_saying said)
    said-fits = front.given-fits (front_env k s c 0) refl n small named p (held c) from epoch given node early

    -- from a node that has it, and with such parts
    module _ (row : FrontRow) (parts : EndpointParts) (fit : IsAdoptable parts)
        (away : IsAwayAt (open_nodes_of s.dispatch) row.epoch.0 p.kept (dispatch_standing s.dispatch c) from) where
      abbrev held_again : FrontState
      held_again = put_returned k s from c row parts

      row-early : row.epoch.0 + 3 < 2 ^ 16
      row-early = let most = away.early in omega (arith, most, all-few)

      back-keeps : (q : ℕ) → FrontKeeps q (front_part held_again q)
      back-keeps = put-all FrontKeeps s c (back_part p row parts) (front.back-held (front_env k s c 0) refl n small named p (held c) row parts fit) (λ q n. held q)

      back-room : (q : ℕ) → HasRoom 1 (front_part held_again q).row
      back-room = put-all (λ q p. HasRoom 1 p.row) s c (back_part p row parts) (omega (arith, row-early)) (λ q n. one-room q)

      -- ---- the head of the line

      record HeadFits (h : HeadTurn) : Type 0 where
        keeps : (q : ℕ) → FrontKeeps q (front_part h.state q)
        turn : FrontTurnFits h.turn
        timers : (rs : List Rec) → Each IsRecordInRange rs → Each IsRecordInRange (h.timers rs)
        first : (path : List ℕ) → FirstFits (h.first path)

      no-head : IsDispatcherSound held_again.dispatch → HeadFits (no_head k held_again)
      no-head books = record {
        keeps = back-keeps;
        turn = sends Front [] tt (omega arith);
        timers = λ rs h. h;
        first = λ path. choices.first-fits held_again.dispatch books path k.now;
      }

      handed-fits : IsDispatcherSound held_again.dispatch → (d : ℕ) (choice : FirstChoice) → IsChosen 64 choice → (o : Option (FrontPart × FrontTurn))
          → front_admitted (front_env k held_again d 0) (front_part held_again d) choice ≡ o → HeadFits (handed_head k held_again c d o)
      handed-fits books d choice chosen None is = no-head books
      handed-fits books d choice chosen (Some y) is =
          let number : cluster.IsConnNumber d = waits-number (front_env k held_again d 0) d (front_part held_again d) choice y (back-keeps d).row is in
          let both : FrontKeeps d y.0 × FrontTurnFits y.1 =
          front.admitted-fits (front_env k held_again d 0) refl number small named (front_part held_again d) (back-keeps d) (back-room d) choice chosen y is in
          record {
            keeps = put-all FrontKeeps held_again d y.0 both.0 (λ q n. back-keeps q);
            turn = both.1;
            timers = λ rs h. ordered-range c d rs (front_timers d (front_part held_again d) y.0) h (changed held_again d y.0 number);
            first = λ path. tt;
          }

      head-fits : IsDispatcherSound held_again.dispatch → (o : Option (ℕ × FirstChoice)) → IfSome o (λ next. IsChosen 64 next.1)
          → HeadFits (head_turn k held_again c o)
      head-fits books None chosen = no-head books
      head-fits books (Some next) chosen = handed-fits books next.0 next.1 chosen (front_admitted (front_env k held_again next.0 0) (front_part held_again next.0) next.1) refl

      -- ---- and behind it

      abbrev notes : List Rec
      notes = returned_notes s.dispatch from c row

      notes-range : Each IsRecordInRange notes
      notes-range =
          let closed : Each IsRecordInRange (closed_note s.dispatch from) =
          cond_both (is_open s.dispatch.books.loads from) (rec.Closed from ∷ []) [] (Each IsRecordInRange) (λ t. (node, tt)) (λ t. tt) in
          ((tt, conn-number c n, omega (arith, row-early)), Each-append IsRecordInRange (closed_note s.dispatch from) (rec.Released c ∷ []) closed (conn-number c n, tt))

      turn-behind : (h : HeadTurn) → HeadFits h → (t : FrontTurn) → FrontTurnFits t → (timers : List Rec) → Each IsRecordInRange timers
          → OutFits Front (front_out_of (returned_turn notes said h.turn t) timers)
      turn-behind h hf t tf timers range =
          let a = said-fits.few_messages in
          let b = hf.turn.few_messages in
          let d = tf.few_messages in
          let e = hf.turn.few in
          let f = tf.few in
          let segments = length-append h.turn.segments t.segments in
          let inner = length-append said h.turn.messages in
          let outer = length-append (said ++ h.turn.messages) t.messages in
          record {
            notes = Each-append IsRecordInRange (notes ++ h.turn.notes) t.notes (Each-append IsRecordInRange notes h.turn.notes notes-range hf.turn.notes) tf.notes;
            segments = Each-append (IsLetter Front) h.turn.segments t.segments hf.turn.segments tf.segments;
            few = omega (arith, e, f, segments);
            gave = Each-append IsRecordInRange h.turn.gave t.gave hf.turn.gave tf.gave;
            messages = Each-append (IsLetter Front) (said ++ h.turn.messages) t.messages
                (Each-append (IsLetter Front) said h.turn.messages said-fits.messages hf.turn.messages) tf.messages;
            few_messages = omega (arith, a, b, d, inner, outer);
            timers = range;
          }

      behind-fits : (h : HeadTurn) → HeadFits h → (d : FrontDeed) → DeedFits c d → StepFits (goes_behind s c notes said h d)
      behind-fits h hf Drops fits = (hf.keeps, turn-behind h hf (front_saying []) (sends Front [] tt (omega arith)) (h.timers []) (hf.timers [] tt))
      behind-fits h hf (Says t) fits = (hf.keeps, turn-behind h hf t fits (h.timers []) (hf.timers [] tt))
      behind-fits h hf (Does x) fits = (
        put-all FrontKeeps h.state c x.part fits.0 (λ q n. hf.keeps q),
        turn-behind h hf x.turn fits.1 (h.timers (front_timers c p x.part)) (hf.timers (front_timers c p x.part) (changed s c x.part n)),
      )

      returns-fit : StepFits (returns k s from c said row parts)
      returns-fit =
          let next : Option (ℕ × FirstChoice) = ended_answer (after_close s.dispatch from) c k.now in
          let h : HeadTurn = head_turn k held_again c next in
          let books : IsDispatcherSound held_again.dispatch =
          subst IsDispatcherSound (head-books k s c row parts (after_close s.dispatch from)) (returns-stay k s from c row parts sound other away fit.valid [] [] Drops tt).sound.books in
          let hf : HeadFits h = head-fits books next (choices.ended-fits (after_close s.dispatch from) (closes-stay k.now s from other sound).sound.books c k.now) in
          behind-fits h hf (reads_on (env_behind k h c) p row parts)
          (front.returned-fits (env_behind k h c) refl n small named p (held c) row parts fit (omega (arith, row-early)) hf.first)

    parts-fit : (g : Option EndpointParts) → Brings g → (parts : EndpointParts) → parts_back p g ≡ Some parts → IsAdoptable parts
    parts-fit None b parts is = kept-adoptable p.kept (held c).kept parts is
    parts-fit (Some found) b parts is = subst IsAdoptable (some_same found parts is) b

    comes-fit : StepFits (comes_back k s from c epoch given)
    comes-fit = comes-keeps k s sound from c epoch given StepFits still (held, turn-fits Front [] [] [] said [] 0 said-fits tt)
        (λ row parts away are. returns-fit row parts (parts-fit given brings parts are) away)

  -- ---- what comes

  told-fits : (bytes : List ℕ) (from c epoch : ℕ) (b : Body) → AreBytes bytes
      → decoded_message bytes ≡ Ok (record { c = c; epoch = record { 0 = epoch }; body = b }) → MayCloseBy s from b
      → IsNumber from → IsMessage (record { c = c; epoch = record { 0 = epoch }; body = b }) → HasPaths b → StepFits (front_told k s from c epoch b)
  told-fits bytes from c epoch body.Taken h read may n is paths =
      let number = message-number _ is in deed-fits c (front_taken (front_part s c) epoch) number (front.taken-fits (front_env k s c 0) refl number small named (front_part s c) (held c) epoch is.epoch)
  told-fits bytes from c epoch (body.Ask z queue size ps) h read may n is paths =
      let number = message-number _ is in
      let asked : IsAsked z queue size ps = record { number = is.fits.0; queue = is.fits.1; size = is.table.0; some = is.table.1; few = (let a = is.table.0 in let b = is.table.2 in omega (arith, a, b)); paths = paths } in
      deed-fits c (front_asked (front_env k s c 0) (front_part s c) from epoch (ask_of c from z queue size ps)) number
      (front.asked-fits (front_env k s c 0) refl number small named (front_part s c) (held c) (answers c 0) from epoch z queue size ps is.epoch asked)
  told-fits bytes from c epoch (body.Ended reason snd rcv count) h read may n is paths =
      let number = message-number _ is in
      let last : Final = record { reason = reason; snd = record { 0 = snd }; rcv = record { 0 = rcv } } in
      ended-fits c (front_ended (front_env k s c 0) (front_part s c) from epoch last) number
      (front.ended-deed (front_env k s c 0) refl number small named (front_part s c) (held c) (room c) from epoch last n is.epoch)
  told-fits bytes from c epoch body.Refused h read may n is paths = comes-fit from c epoch None n (message-number _ is) is.epoch tt may
  told-fits bytes from c epoch (body.Give parts) h read may n is paths =
      comes-fit from c epoch (Some parts) n (message-number _ is) is.epoch (record { valid = is.table; fits = is.fits; unread = give-read bytes c epoch parts h read }) may
  told-fits bytes from c epoch _ h read may n is paths = still

  message-fits : (from : ℕ) (bytes : List ℕ) (r : Result Message MsgFault) → MayCloseOn s from r → IsNumber from → AreBytes bytes → SaysPaths bytes
      → decoded_message bytes ≡ r → StepFits (message_comes k s from r)
  message-fits from bytes (Err fault) may n h says is = still
  message-fits from bytes (Ok m) may n h says is = told-fits bytes from m.c m.epoch.0 m.body h is may n (is-message bytes m h is) (says m is)

  -- the node that is closed is in range, and nothing that is kept of connections moves
  drains-fit : (n : ℕ) → IsNumber n → StepFits (front_drains s n)
  drains-fit n h = (
    held,
    record {
      notes = cond_both (is_open s.dispatch.books.loads n) (rec.Closed n ∷ []) [] (Each IsRecordInRange) (λ t. (h, tt)) (λ t. tt);
      segments = tt;
      few = omega arith;
      gave = tt;
      messages = tt;
      few_messages = omega arith;
      timers = tt;
    },
  )

  pub step-fits : (i : FrontIn) → MayClose s i → InputFits i → StepFits (front_step k s i)
  step-fits (input.Segment c iss bytes) may h =
      deed-fits c (front_gets (front_env k s c iss.0) (front_part s c) bytes (decoded bytes c ToCluster)) h.0
      (front.gets-fits (front_env k s c iss.0) refl h.0 small named (front_part s c) (held c) (answers c iss.0) (one-room c) h.2 bytes (decoded bytes c ToCluster) h.1
      (λ said is. (told-decoded bytes c ToCluster said is h.1, (some-decoded bytes c ToCluster said is, h.3))))
  step-fits (input.Message from bytes) may h = message-fits from bytes (decoded_message bytes) may h.0 h.1 h.2 refl
  step-fits (input.Drain n) may h = drains-fit n h
  step-fits (input.Timer c) may h = deed-fits c (front_timer (front_env k s c 0) (front_part s c)) h (front.fires-fits (front_env k s c 0) refl h small named (front_part s c) (held c))
