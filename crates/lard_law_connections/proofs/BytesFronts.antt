-- The rules of the front end keep the agreement of a connection.
use Rattle.std.proofs.Common.{◌≡◌, ◌<◌, ◌+◌, ◌^◌, ◌||◌, ◌&&◌, ℕ, Bool, true, false, not, List, [], ◌∷◌, ◌++◌, map, length, Option, Some, None, Ok, IfSome, arith, refl, ap, ◌∙◌, sym, subst, inr, ⊎_elim}
use Rattle.std.specs.List.{concat, list_any}
use Rattle.std.proofs.lemmas.Bool.{and_parts, cond_both}
use Rattle.lard_law_view.specs.Prelude.{ControlBlock, Did, Ending, EndpointParts, Epoch, Final, FirstChoice, FrontConn, FrontDeed, FrontEnv, FrontGets, FrontHears, FrontPart, FrontRest, FrontRow, FrontTurn, IsReply, IsWord, MayMove, Place, Reading, Reason, Rec, Said, Serves, Service, Stream, Turn, Verdict, answer, back_notes, back_part, back_rest, front_admitted, front_begun, front_ended, front_fired, front_hears, front_reads, front_rest, front_rests, front_rule, handed_off, holds, is_away, is_reset_record, is_row_at, is_telling, is_with, last_ack, last_words, listening, may_freeze, next_epoch, parts_of, placed, refusal, returned_row, serving, serving_settled, spoken, stands_first, tombstone, turn_here, waits_on}
use Rattle.lard_base.specs.declared.place.Place.TheVariants as place
use Rattle.lard_base.specs.declared.place.Reason.TheVariants as reason
use Rattle.lard_law_connections.specs.BytesAgreement.{EndAgreesPending, EndedWithNumbers, FrontHolds, FrontWaits, HasReadPending, HoldsItPending}
use Rattle.lard_law_connections.specs.BytesKeeping.{AdmissionsKeep, AdmittedKeeps, EndsKeep, FrontPartAgrees, FrontDeedKeeps, FrontHearsTruth, FrontRowAgrees, FrontSays, FrontStageAgrees, FrontTimerKeeps, FrontTurned, IsFrontTalk}
use Rattle.lard_law_connections.specs.BytesTurning.{EndTurned, IsReading}
use Rattle.lard_law_connections.proofs.BytesEnding.{settled-ends, spoken-ends}
use Rattle.lard_law_connections.proofs.BytesFrontReading.{GoesOver, reads-so}
use Rattle.lard_law_connections.proofs.BytesHolding.{adopted-serves, adopted-so, begins-so, fired-ends, heard-so, same-so}
use Rattle.lard_law_connections.proofs.BytesServing.{So, counts-mute, noted-serves}
use Rattle.lard_endpoint.proofs.Adoption.{frozen_stands}
use Rattle.lard_rules.specs.Front.{Says}
use Rattle.lard_rules.proofs.FrontBlocks.{EndsIdle, EndsServing, idle-of, segment-idle, segment-serves, settled-serves, spoken-idle, spoken-serves, timer-idle, timer-serves}
use Rattle.lard_rules.proofs.FrontTurns.{reads-stop}
use Rattle.lard_dispatch.specs.declared.dispatch.First.TheVariants as first
use Rattle.lard_handoff_front.specs.declared.row.FrontConn.TheVariants as stage
use Rattle.lard_history.proofs.Each.{Each, Each-append}
use Rattle.lard_journal.specs.declared.rec.Rec.TheVariants as rec
use Rattle.lard_law_view.proofs.EndpointStreams.{IsBetween, between-begun, between-sound}
use Rattle.lard_law_view.proofs.Notes.{or-false}
use Rattle.lard_message.specs.declared.message.Body.TheVariants as body
use Rattle.lard_rules.specs.declared.places.Ending.TheVariants as ending
use Rattle.lard_law_view.proofs.Growth.{goes_on-same}
use Rattle.lard_law_view.proofs.Pieces.{bare-true}
use Rattle.lard_rules.proofs.FrontCases.{IsAsGiven, IsAwayWith, IsInStage, KeptByFront, KeptByReturn, KeptBySegment, KeptByTimer, back_reading, back_service, front-keeps, of-stage, fired_before, fired_service, heard_reading, heard_service, segment-keeps, ended-keeps, admitted-keeps}
use Rattle.lard_rules.proofs.FrontCases as cases

-- ---- where the connection is

-- the front end has it, or it ended, or nobody has it yet
abbrev pub IsOurs : FrontConn → Type 0
IsOurs (stage.Offering n d) = ⊥
IsOurs (stage.Moved n d) = ⊥
IsOurs _ = Unit {0}

abbrev pub RowIsOurs : Option FrontRow → Type 0
RowIsOurs None = Unit {0}
RowIsOurs (Some row) = IsOurs row.stage

-- so it is away in no epoch, and with no node
ours-here : (epoch : ℕ) (st : FrontConn) → IsOurs st → is_away epoch st ≡ true → ⊥
ours-here epoch (stage.Offering n d) ours away = ours
ours-here epoch (stage.Moved n d) ours away = ours
ours-here epoch _ ours away = let no : false ≡ true = away in cc

ours-alone : (n epoch : ℕ) (o : Option FrontRow) → RowIsOurs o → is_row_at n epoch o ≡ true → ⊥
ours-alone n epoch None ours at = let no : false ≡ true = at in cc
ours-alone n epoch (Some row) ours at = go row.stage ours at where
  go : (st : FrontConn) → IsOurs st → is_with n epoch st ≡ true → ⊥
  go (stage.Offering m d) ours at = ours
  go (stage.Moved m d) ours at = ours
  go _ ours at = let no : false ≡ true = at in cc

-- a connection that is with a node is not the front end's
pub away-not : (p : FrontPart) (row : FrontRow) (n : ℕ) (e : Epoch) → IsAwayWith p row n e → RowIsOurs p.row → ⊥
away-not p row n e away ours = ⊎_elim (λ (at : IsInStage p row (stage.Offering n e)). of-stage RowIsOurs p row (stage.Offering n e) at ours)
    (λ (at : IsInStage p row (stage.Moved n e)). of-stage RowIsOurs p row (stage.Moved n e) at ours) away

-- ---- what a turn keeps

module _ (env : FrontEnv) (w out : Stream) (vs : List Verdict) (was_reset : Bool) where
  abbrev Keeps : FrontDeed → Type 0
  Keeps d = FrontDeedKeeps env.serve.files env.serve.c w out vs was_reset d

  abbrev Turns : FrontPart → FrontTurn → Type 0
  Turns part turn = FrontTurned env.serve.files env.serve.c w out vs was_reset part turn

  abbrev Ends : Ending × Turn → Type 0
  Ends given = EndTurned env.serve.files env.serve.c w out vs was_reset [] given

  -- ---- the end of a turn of an endpoint that is here

  ends-turn : (part : FrontPart) (given : Ending × Turn) (h : Ends given) → FrontPartAgrees w h.out_after h.vs_after (was_reset || list_any is_reset_record given.1.notes) env.serve.c part → Turns part (turn_here given.1)
  ends-turn part given h agrees =
      record { out_after = h.out_after; vs_after = h.vs_after; longer = h.longer; says = h.says; agrees = agrees; noted = h.noted; sent = h.sent; said = tt }

  holds-keep : (p : FrontPart) (row : FrontRow) (rest : FrontRest) (given : Ending × Turn) → Ends given → EndsServing given.0 → Keeps (holds p row rest given)
  holds-keep p row rest given h serves = ends-turn (front_rests p row rest stage.Held given.0) given h (go given.0 h.agrees serves) where
    go : (e : Ending) → EndAgreesPending w h.out_after h.vs_after [] (was_reset || list_any is_reset_record given.1.notes) e → EndsServing e
        → FrontPartAgrees w h.out_after h.vs_after (was_reset || list_any is_reset_record given.1.notes) env.serve.c (front_rests p row rest stage.Held e)
    go (ending.Here b count) held serves = record { none = refl; serves = serves; holds = held }
    go (ending.Over last) ended serves = ended

  waits-turn : (p : FrontPart) (row : FrontRow) (rest : FrontRest) (given : Ending × Turn) → Ends given → EndsServing given.0 → EndsIdle given.0 → Turns (front_rests p row rest stage.Waiting given.0) (turn_here given.1)
  waits-turn p row rest given h serves idle = ends-turn (front_rests p row rest stage.Waiting given.0) given h (go given.0 h.agrees serves idle) where
    go : (e : Ending) → EndAgreesPending w h.out_after h.vs_after [] (was_reset || list_any is_reset_record given.1.notes) e → EndsServing e → EndsIdle e
        → FrontPartAgrees w h.out_after h.vs_after (was_reset || list_any is_reset_record given.1.notes) env.serve.c (front_rests p row rest stage.Waiting e)
    go (ending.Here b count) held serves idle = (record { none = refl; serves = serves; holds = held }, idle)
    go (ending.Over last) ended serves idle = ended

  -- ---- it is handed off, or waits

  -- what it was served so far, with nothing to reset
  module _ (s : Service) (so : So env.serve w out vs s []) (none : s.over ≡ None) (serves : Serves s.count s.block.recv s.block.send) (may : may_freeze s.block ≡ true) where
    read : HasReadPending w s.block so.vs_now []
    read = subst (λ (o : Option ℕ). IsReading w so.vs_now [] s.block s.notes o) none so.reading

    pub frozen-holds : HoldsItPending w so.out_now so.vs_now [] s.block s.count
    frozen-holds =
        let sound = between-sound w so.out_now s.block so.between in
        record {
          counted = so.counted;
          not_reset = (frozen_stands s.block sound may).reset_is;
          sound = sound;
          speaks = so.between.speaks;
          out_is = so.between.out_is;
          hears = so.between.hears;
          wide = so.wide;
          has_read = read;
        }

    handed-turn : (row : FrontRow) (path : List ℕ) (choice : FirstChoice) → Turns (handed_off env row s path choice).0 (handed_off env row s path choice).1
    handed-turn row path choice =
        let more : List Rec = rec.Admitted env.serve.c ∷ rec.AssignedFirst env.serve.c (s.count + 1) path choice.node choice.add choice.remove ∷ [] in
        record {
          out_after = so.out_now;
          vs_after = so.vs_now;
          longer = so.longer;
          says = so.says;
          agrees = record { block = s.block; count = s.count; frozen = may; holds = record { none = refl; serves = serves; holds = frozen-holds }; kept_is = refl };
          noted = counts-mute env.serve.files env.serve.c w out vs so.vs_now so.out_now.bytes s.notes more so.noted (tt, (tt, tt)) refl refl refl;
          sent = tt;
          said = ((choice.node, (next_epoch row).0, body.Offer (parts_of s.block s.count), refl, (_, refl, refl)), tt);
        }

    waiting-turn : (p : FrontPart) (row : FrontRow) (rest : FrontRest) (path : List ℕ)
        → Turns (front_rests p row (record rest { target = Some path }) stage.Waiting (spoken env.serve (record s { notes = s.notes ++ rec.Waits env.serve.c ∷ [] }) []).0)
        (turn_here (spoken env.serve (record s { notes = s.notes ++ rec.Waits env.serve.c ∷ [] }) []).1)
    waiting-turn p row rest path =
        let v : Service = record s { notes = s.notes ++ rec.Waits env.serve.c ∷ [] } in
        let more : So env.serve w out vs v [] = noted-serves env.serve w out vs (rec.Waits env.serve.c ∷ []) s [] (tt, tt) refl refl refl so in
        waits-turn p row (record rest { target = Some path }) (spoken env.serve v []) (spoken-ends env.serve w out vs was_reset v [] more [] (subst (λ (o : Option ℕ). IsReading w more.vs_now [] v.block v.notes o) none more.reading) tt)
        (spoken-serves env.serve v [] serves) (spoken-idle env.serve v [] (idle-of s.block may serves.sent))

  -- messages first
  first-turn : (said : List (Place × List ℕ)) → ((q : FrontPart) → Each (FrontSays env.serve.c q) said) → (part : FrontPart) (turn : FrontTurn)
      → Turns part turn → Turns part (stands_first [] said turn)
  first-turn said speaks part turn h = record {
    out_after = h.out_after;
    vs_after = h.vs_after;
    longer = h.longer;
    says = h.says;
    agrees = h.agrees;
    noted = h.noted;
    sent = h.sent;
    said = Each-append (FrontSays env.serve.c part) said turn.messages (speaks part) h.said;
  }

  -- ---- what is read

  -- what was read agrees, and what is to be placed may move
  abbrev pub Came : Service → Option (List ℕ) → Type 0
  Came v target = So env.serve w out vs v [] × GoesOver target v × Serves v.count v.block.recv v.block.send × MayMove v.block target

  -- so it is of a connection that was not the front end's
  abbrev pub CameBack : FrontPart → Service → Option (List ℕ) → Type 0
  CameBack p v target = (RowIsOurs p.row → ⊥) → Came v target

  module _ (talk : IsFrontTalk env w out vs) (p : FrontPart) where
    read-came : (v : Service) → So env.serve w out vs v [] → Serves v.count v.block.recv v.block.send
        → let x : Reading = front_reads env.serve (record { service = v; target = None }) in Came x.service x.target
    read-came v so serves =
        let read = reads-so env.serve w out vs talk.most v so in
        let stop = reads-stop env.serve v serves in
        (read.0, read.1, stop.0, stop.1)

    -- ---- segments

    heard-came : (row : FrontRow) (b : ControlBlock) (s : Said) → IsWord w s → FrontHolds w out vs [] b (front_rest p.rest).count
        → let x : Reading = front_reads env.serve (heard_reading p b s) in Came x.service x.target
    heard-came row b s word h = read-came (heard_service p b s)
        (heard-so env.serve w out vs talk.says [] b (front_rest p.rest).count h.holds talk.stream s word)
        (segment-serves (front_rest p.rest).count b s h.serves)

    waited-keep : (row : FrontRow) (b : ControlBlock) (s : Said) → IsWord w s → FrontWaits w out vs [] b (front_rest p.rest).count
        → Keeps (waits_on env p row (front_rest p.rest) (spoken env.serve (heard_service p b s) []))
    waited-keep row b s word h =
        let v : Service = heard_service p b s in
        let so = heard-so env.serve w out vs talk.says [] b (front_rest p.rest).count h.0.holds talk.stream s word in
        waits-turn p row (front_rest p.rest) (spoken env.serve v []) (spoken-ends env.serve w out vs was_reset v [] so [] so.reading tt)
        (spoken-serves env.serve v [] (segment-serves (front_rest p.rest).count b s h.0.serves)) (spoken-idle env.serve v [] (segment-idle b s (idle-of b h.1 h.0.serves.sent)))

    -- ---- a connection that begins

    begun-keep : (s : Said) → IsWord w s → vs ≡ [] → out.ended ≡ false → s.seq ≡ w.first → Keeps (front_begun env p s)
    begun-keep s word none open_ first =
        let row : FrontRow = record { stage = stage.Lent; epoch = record { 0 = 1 }; ended_by = None } in
        let start : Service = serving (listening s env.iss) 0 (rec.Took place.Front env.serve.c (record { 0 = 1 }) ∷ []) in
        let empty : out.bytes ≡ [] = talk.says.spoken ∙ ap (λ us. concat (map (answer env.serve.files) us)) none in
        let between : IsBetween w out (listening s env.iss) = subst (λ (n : ℕ). IsBetween w out (listening s n)) (sym talk.begins) (between-begun w out s talk.says.number empty open_ first) in
        let number : env.iss < 2 ^ 32 = subst (λ (n : ℕ). n < 2 ^ 32) (sym talk.begins) talk.says.number in
        let none-read : HasReadPending w (listening s env.iss) vs [] = subst (λ (us : List Verdict). HasReadPending w (listening s env.iss) us []) (sym none)
        (record { cut = λ f g z. refl; goes_on = λ f. refl; stops = λ f. absurd cc; fronts = λ z. (_, refl) }) in
        let so : So env.serve w out vs start [] = begins-so env.serve w out vs talk.says [] (listening s env.iss) 0 (rec.Took place.Front env.serve.c (record { 0 = 1 }) ∷ []) (sym (ap length none)) between
        (record { wnd = word.sendable.wnd_fits; wl1 = word.sendable.seq_fits; wl2 = number }) none-read (record { each = (tt, tt); served = omega arith; size = omega arith; unless_ended = inr refl; serve = λ t told. ((λ J e. tt), tt) }) in
        holds-keep p row (front_rest None) (spoken env.serve start []) (spoken-ends env.serve w out vs was_reset start [] so [] so.reading tt)
        (spoken-serves env.serve start [] (record { asked = omega arith; most = omega arith; sent = omega arith }))

    -- ---- a connection that ended

    words-reply : (why : Reason) (last : Final) (s : Said) → s.ack < 2 ^ 32 → last.reason ≡ why → EndedWithNumbers w was_reset last → IfSome (last_words why last s) (IsReply w out was_reset)
    words-reply reason.Closed last s fits e h =
        let P : Option Said → Type 0 = λ o. IfSome o (IsReply w out was_reset) in
        let ack = h.acks in
        let seq = h.snd_fits in
        let at = ack.1 in
        cond_both (is_telling s) (Some (last_ack last)) None P
        (λ t. record {
          sendable = record { seq_fits = seq; ack_fits = omega arith; wnd_fits = omega arith; some_mss = tt; small_mss = tt; small_payload = omega arith; no_ack = λ f. absurd cc };
          true_of = bare-true out (last_ack last) (λ f. absurd cc) refl refl;
          acks = λ f. ack;
          resets = λ f. absurd cc;
        })
        (λ t. tt)
    words-reply reason.Peer last s fits e h = tt
    words-reply reason.Limit last s fits e h =
        let P : Option Said → Type 0 = λ o. IfSome o (IsReply w out was_reset) in
        cond_both (s.flags.ack && not s.flags.rst) (Some (refusal s.ack)) None P
        (λ t. record {
          sendable = record { seq_fits = fits; ack_fits = omega arith; wnd_fits = omega arith; some_mss = tt; small_mss = tt; small_payload = omega arith; no_ack = λ f. refl };
          true_of = bare-true out (refusal s.ack) (λ f. absurd cc) refl refl;
          acks = λ f. absurd cc;
          resets = λ f. h.limit e;
        })
        (λ t. tt)

    tombstone-keeps : (o : Option Said) → IfSome o (IsReply w out was_reset) → Keeps (Says (turn_here (tombstone env.serve o)))
    tombstone-keeps None h = (refl, tt)
    tombstone-keeps (Some s) h = (refl, (refl, (s, refl, h), tt))

    -- ---- a connection that comes back

    -- it goes on from the parts of an endpoint that was frozen, behind these messages
    module _ (row : FrontRow) (b : ControlBlock) (count : ℕ) (h : FrontHolds w out vs [] b count) (frozen : may_freeze b ≡ true)
        (parts : EndpointParts) (same : parts ≡ parts_of b count) where
      back-came : let x : Reading = front_reads env.serve (back_reading env row parts) in Came x.service x.target
      back-came = subst (λ (q : EndpointParts). let x : Reading = front_reads env.serve (back_reading env row q) in Came x.service x.target) (sym same)
          (read-came (back_service env row (parts_of b count))
          (adopted-so env.serve w out vs talk.says [] b count h.holds frozen (back_notes env.serve.c row)
          (record {
            each = (tt, (tt, tt));
            served = omega arith;
            size = omega arith;
            unless_ended = inr refl;
            serve = λ t told. ((λ J e. tt), ((λ J e. tt), tt));
          }))
          (adopted-serves env.serve w out vs talk.says [] b count h.holds frozen h.serves))

      pub by-return : (said : List (Place × List ℕ)) → ((q : FrontPart) → Each (FrontSays env.serve.c q) said) → KeptByReturn env p said row parts Came Keeps
      by-return said speaks =
          let q : FrontPart = back_part p row parts in
          let r : FrontRow = returned_row parts row in
          record {
            reads = back-came;
            holds = λ v came. let given : Ending × Turn = serving_settled env.serve v in
                first-turn said speaks (front_rests q r (back_rest parts) stage.Held given.0) (turn_here given.1)
                (holds-keep q r (back_rest parts) given (settled-ends env.serve w out vs was_reset v [] came.0) (settled-serves env.serve v came.2));
            hands = λ v path choice came is. let given = handed_off env r v path choice in
                first-turn said speaks given.0 given.1 (handed-turn v came.0 came.1 came.2 came.3 r path choice);
            waits = λ v path came is. let did : Did = placed env q r (back_rest parts) v path first.Waits in
                first-turn said speaks did.part did.turn (waiting-turn v came.0 came.1 came.2 came.3 q r (back_rest parts) path);
          }

    -- ---- where it is

    module _ (h : FrontPartAgrees w out vs was_reset env.serve.c p) where
      agrees-at : (row : FrontRow) (st : FrontConn) → IsInStage p row st → FrontStageAgrees w out vs was_reset env.serve.c row.epoch.0 p st
      agrees-at row st at = of-stage (FrontRowAgrees w out vs was_reset env.serve.c p) p row st at h

      by-segment : (bytes : List ℕ) (s : Said) → IsWord w s → KeptBySegment env p bytes s Came Keeps
      by-segment bytes s word = record {
        drops = tt;
        begins = λ none syn.
            let at : FrontRowAgrees w out vs was_reset env.serve.c p None = subst (FrontRowAgrees w out vs was_reset env.serve.c p) none h in
            begun-keep s word at.0 at.1 (word.true_of.greets (and_parts s.flags.syn _ syn).0);
        reads = λ row b at. heard-came row b s word (agrees-at row (stage.Held b) at);
        holds = λ row b v at came. holds-keep p row (front_rest p.rest) (serving_settled env.serve v) (settled-ends env.serve w out vs was_reset v [] came.0) (settled-serves env.serve v came.2);
        hands = λ row b v path choice at came is. handed-turn v came.0 came.1 came.2 came.3 row path choice;
        waits = λ row b v path at came is. waiting-turn v came.0 came.1 came.2 came.3 p row (front_rest p.rest) path;
        stays = λ row b at. waited-keep row b s word (agrees-at row (stage.Waiting b) at);
        forwards = λ row n e at. (refl, tt);
        words = λ row last at. tombstone-keeps (last_words last.reason last s) (words-reply last.reason last s word.sendable.ack_fits refl (agrees-at row (stage.Closed last) at));
      }

      hears-keep : (bytes : List ℕ) (s : Said) → IsWord w s → Keeps (front_hears env p bytes s p.row)
      hears-keep bytes s word = segment-keeps env p bytes s Came Keeps (by-segment bytes s word)

      by-timer : KeptByTimer env p Keeps
      by-timer = record {
        drops = tt;
        holds = λ row b at.
            let k = agrees-at row (stage.Held b) at in
            holds-keep p row (front_rest p.rest) (front_fired env (front_rest p.rest) b) (fired-ends env.serve w out vs talk.says [] b (front_rest p.rest).count k.holds was_reset)
            (spoken-serves env.serve (fired_service p b) (fired_before env b) (timer-serves (front_rest p.rest).count b k.serves));
        stays = λ row b at.
            let k = agrees-at row (stage.Waiting b) at in
            waits-turn p row (front_rest p.rest) (front_fired env (front_rest p.rest) b) (fired-ends env.serve w out vs talk.says [] b (front_rest p.rest).count k.0.holds was_reset)
            (spoken-serves env.serve (fired_service p b) (fired_before env b) (timer-serves (front_rest p.rest).count b k.0.serves))
            (spoken-idle env.serve (fired_service p b) (fired_before env b) (timer-idle b (idle-of b k.1 k.0.serves.sent)));
        resends = λ row n e at. (refl, tt);
      }

      admits-keep : (choice : FirstChoice) (row : FrontRow) (b : ControlBlock) (path : List ℕ) → IsInStage p row (stage.Waiting b)
          → let given = handed_off env row (serving b (front_rest p.rest).count []) path choice in Turns given.0 given.1
      admits-keep choice row b path at = let k = agrees-at row (stage.Waiting b) at in
          handed-turn (serving b (front_rest p.rest).count []) (same-so env.serve w out vs talk.says [] b (front_rest p.rest).count k.0.holds)
          refl k.0.serves k.1 row path choice

      -- whatever comes, where it is the front end's
      module _ (ours : RowIsOurs p.row) where
        abbrev pub IsTrueWord : FrontGets → Type 0
        IsTrueWord (FrontHears bytes given) = (s : Said) → given ≡ Ok s → IsWord w s
        IsTrueWord _ = Unit {0}

        by-rules : KeptByFront env p IsTrueWord Came Keeps
        by-rules = record {
          drops = tt;
          hears = λ bytes s word. by-segment bytes s (word s refl);
          fires = λ m. by-timer;
          takes = λ n epoch m row node e at same. absurd (of-stage RowIsOurs p row (stage.Offering node e) at ours);
          tags_again = λ n epoch ask m rest found there same some. (refl, tt);
          assigns_next = λ n epoch ask m rest found there next. absurd (ours-alone n epoch p.row ours there);
          ends_again = λ n epoch last m row found away again. (refl, tt);
          ends = λ n epoch last m row found away. absurd (ours-here epoch row.stage (subst RowIsOurs found ours) away);
          gives_again = λ n epoch parts m row found past. (refl, tt);
          returns = λ n epoch given m row parts back. absurd (away-not p row n back.from back.at ours);
          admits = λ choice made met row b path at target. admits-keep choice row b path at;
        }

        pub rule-keeps : (g : FrontGets) → IsAsGiven env p g → IsTrueWord g → Keeps (front_rule env p g)
        rule-keeps g is word = front-keeps env p IsTrueWord Came Keeps by-rules g is word

    ends-keep : (from epoch : ℕ) (last : Final) → EndedWithNumbers w was_reset last → Keeps (front_ended env p from epoch last)
    ends-keep from epoch last h = ended-keeps p Keeps tt env from epoch last (λ row found away again. (refl, tt)) (λ row found away. record {
      out_after = out;
      vs_after = vs;
      longer = goes_on-same out;
      says = talk.says;
      agrees = subst (λ (r : Bool). EndedWithNumbers w r last) (or-false was_reset) h;
      noted = record { each = (tt, (tt, tt)); served = omega arith; size = omega arith; unless_ended = inr refl; serve = λ t told. ((λ J e. tt), ((λ J e. tt), tt)) };
      sent = tt;
      said = ((from, epoch, body.EndedAck, refl, tt), tt);
    })

-- ---- what is kept

pub front-hears : FrontHearsTruth
front-hears env w out vs was_reset p bytes s talk h word = hears-keep env w out vs was_reset talk p h bytes s word

pub timer-keeps : FrontTimerKeeps
timer-keeps env w out vs was_reset p talk h = cases.timer-keeps env p (Keeps env w out vs was_reset) (by-timer env w out vs was_reset talk p h)

pub ends-kept : EndsKeep
ends-kept env w out vs was_reset p from epoch last talk h = ends-keep env w out vs was_reset talk p from epoch last h

pub admissions-keep : AdmissionsKeep
admissions-keep env w out vs was_reset p choice talk h = go (front_admitted env p choice) refl where
  go : (o : Option (FrontPart × FrontTurn)) → front_admitted env p choice ≡ o → AdmittedKeeps env.serve.files env.serve.c w out vs was_reset o
  go None e = tt
  go (Some given) e = admitted-keeps env p choice (λ (g : FrontPart × FrontTurn). Turns env w out vs was_reset g.0 g.1)
      (λ row b path at target. admits-keep env w out vs was_reset talk p h choice row b path at) given e
