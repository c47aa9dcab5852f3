-- What the front end does leaves a connection on its way.
use Rattle.std.proofs.Common.{◌≡◌, ◌≤◌, ◌+◌, ◌^◌, ℕ, Bool, true, false, cond, inr, ⊎_elim, List, [], ◌∷◌, ◌++◌, map, length, take, Option, Some, None, refl, sym, ap, ◌∙◌, subst, arith, append-nil}
use Rattle.std.proofs.lemmas.List.{map-append}
use Rattle.lard_law_view.specs.Prelude.{Ask, Call, Client, Conn, ControlBlock, Ending, EndpointParts, Epoch, FilesAt, FirstChoice, Front, FrontConn, FrontDeed, FrontEnv, FrontGets, FrontPart, FrontRest, FrontRow, IsConnNumber, IsFrontEnv, IsPrefix, IsStream, IsWord, MayMove, Node, Place, Reading, Said, SaysAnswers, Seen, Serves, Service, Setting, Station, Stream, Talk, Turn, Verdict, adopted, after_timer, back_notes, back_part, back_rest, batch_of, by_front, forwarded, front_begun, front_does, front_fired, front_reads, front_rest, front_rests, front_rule, front_saying, given_sent, holds, is_row_at, last_words, leaves_by, may_freeze, on_segment, parts_of, placed, returned_row, sent_of, serving, serving_settled, spoken, stage_after, tale_at, timed, tombstone, turn_here, verdicts, with_front}
use Rattle.lard_law_connections.specs.BytesAgreement.{FrontHolds, FrontWaits, IsOpen, IsTruthful, SeatAgrees, StageAgrees}
use Rattle.lard_law_connections.specs.BytesKeeping.{IsFrontTalk}
use Rattle.lard_law_connections.proofs.BytesClientMoves.{has-fair, open-at}
use Rattle.lard_law_connections.proofs.BytesFrontMessages.{node-opens, opened-at, past-undecided}
use Rattle.lard_law_connections.proofs.BytesFrontMoves.{talk-of}
use Rattle.lard_law_connections.proofs.BytesFrontReading.{GoesOver, reads-so}
use Rattle.lard_law_connections.proofs.BytesFronts.{frozen-holds}
use Rattle.lard_law_connections.proofs.BytesHolding.{adopted-serves, adopted-so, heard-so}
use Rattle.lard_law_connections.proofs.BytesReading.{batch-read}
use Rattle.lard_law_connections.proofs.BytesReturns.{refused-offering, refused-parts}
use Rattle.lard_law_connections.proofs.BytesServing.{So}
use Rattle.lard_law_connections.specs.BytesTurning.{CountsResponses}
use Rattle.lard_law_connections.specs.Places.{ArePast, IsDecided, IsEarlyEpoch, IsOffered, IsPast, Offers, Sits, StageSits, owning}
use Rattle.lard_law_connections.proofs.PlacesFrontMessages.{IsRefusedThere, no-give, refused-past, refused-there}
use Rattle.lard_law_connections.proofs.PlacesGrowing.{past-later}
use Rattle.lard_law_connections.proofs.PlacesLoops.{settled-is, spoken-to}
use Rattle.lard_laws.specs.WaysState.{AskIs, BeginsWithRequest, GoesItsWay, IsAllAnswered, IsAtHome, IsBy, IsPlacedOnce, LetterWays, NodeSaysWays, SeatWays, StageWays, WaitsForNext, marks_at}
use Rattle.lard_laws.specs.Ways.{WayMarks, paths_assigned, paths_wanted}
use Rattle.lard_laws.specs.WaysUnder.{Assigned}
use Rattle.lard_laws.proofs.BackingLasting.{without-pushed}
use Rattle.lard_laws.proofs.FrontComing.{heard-word}
use Rattle.lard_laws.proofs.WaysFrontAnswers.{acks-makes, again-makes, assigns-makes, drops-makes, ends-makes, taken-moves}
use Rattle.lard_laws.proofs.WaysFronting.{IsFrozen, IsLatest, front-quiet, handed-makes, turned-makes}
use Rattle.lard_laws.proofs.WaysGoods.{front-of}
use Rattle.lard_laws.proofs.WaysLooking.{Looks, reads-look, waits-kept}
use Rattle.lard_laws.proofs.WaysMarking.{Rightly, marked, marked-append, rightly-append}
use Rattle.lard_laws.proofs.WaysMoving.{Keeps, sent-say, stands-makes}
use Rattle.lard_dispatch.specs.Laws as call
use Rattle.lard_dispatch.specs.declared.dispatch.First.TheVariants.{Waits}
use Rattle.lard_endpoint.proofs.Adoption.{frozen_stands}
use Rattle.lard_rules.specs.Front.{Does, Says, message}
use Rattle.lard_rules.proofs.FrontBlocks.{segment-keeps, segment-serves, speaks-keep, timer-keeps}
use Rattle.lard_rules.proofs.FrontTurns.{reads-stop}
use Rattle.lard_handoff_front.specs.declared.row.FrontConn.TheVariants as stage
use Rattle.lard_history.specs.Journal.{without_last}
use Rattle.lard_journal.specs.declared.rec.Rec.TheVariants as rec
use Rattle.lard_message.specs.declared.kind.Kind.TheVariants as kind
use Rattle.lard_message.specs.declared.message.Body.TheVariants as body
use Rattle.lard_rules.specs.declared.places.Ending.TheVariants as ending
use Rattle.lard_law_view.proofs.Speaking.{speaks-stream}
use Rattle.lard_law_view.proofs.EndpointSends.{AllTo, ready-to}
use Rattle.lard_law_connections.proofs.PlacesTurns.{IsPlaced, early-at}
use Rattle.lard_law_view.proofs.EachFront.{FrontComes, HasBack, admission}
use Rattle.lard_rules.proofs.Endings.{StaysWith, spoken-stays}
use Rattle.lard_rules.proofs.FrontCases.{IsBack, IsInStage, KeptByFront, KeptByReturn, KeptBySegment, KeptByTimer, back_reading, back_service, begun_row, begun_service, fired_before, fired_service, front-keeps, hands_off, heard_reading, heard_service, of-stage, rests_in, waiting_service}

module _ (k : Setting) (small : k.stream ≤ 2 ^ 30) (x : Conn) (truth : IsTruthful k.files x) (env : FrontEnv) (is : IsFrontEnv k x.c env) (heads : List Seen) where
  abbrev files : FilesAt
  files = env.serve.files

  abbrev m : WayMarks
  m = marks_at x

  abbrev p : FrontPart
  p = x.part.front

  abbrev count : ℕ
  count = (front_rest p.rest).count

  abbrev l : Talk
  l = truth.talk

  abbrev Goal : FrontDeed → Type 0
  Goal d = Keeps files x (front_does x heads d)

  seat-at : (row : FrontRow) (d : FrontConn) → IsInStage p row d → GoesItsWay files x → StageWays files m x.part row.epoch.0 d
  seat-at row d at g = of-stage (SeatWays files m x.part) p row d at g.seat

  sits-at : (row : FrontRow) (d : FrontConn) → IsInStage p row d → IsPlaced x → StageSits row.epoch.0 (owning (tale_at x)) x.part.nodes d
  sits-at row d at placed = (of-stage (Sits (owning (tale_at x)) x.part.nodes) p row d at placed.sits).0

  number : IsConnNumber x.c → IsConnNumber env.serve.c
  number h = subst IsConnNumber (sym is.number) h

  -- What was read, where all that was assigned is answered: what it notes is told, by the marks behind what was noted first, and what is
  -- left unread begins with the request that is to be placed.
  pub record Looked (w : Service) (target : Option (List ℕ)) : Type 0 where
    pub behind : WayMarks
    pub paths : IsPrefix (paths_assigned behind) (paths_wanted files behind)
    pub looks : Looks env.serve m behind w
    pub waits : WaitsForNext files w.block.recv.unread target
    pub frozen : (path : List ℕ) → target ≡ Some path → IsFrozen env x behind w path

  abbrev pub Came : Service → Option (List ℕ) → Type 0
  Came w target = IsConnNumber x.c → IsPlaced x → GoesItsWay files x → Looked w target

  -- where the front end has it, its epoch is the latest
  here-latest : (row : FrontRow) (st : FrontConn) → IsInStage p row st → ((i e : ℕ) → Offers i e st → ⊥) → IsEarlyEpoch row.epoch.0
      → ArePast row.epoch.0 x.part.nodes → IsLatest env x row
  here-latest row st at none early past = record {
    small = omega (arith, early);
    by = λ e by. subst (IsBy e) at.0 by;
    offered = λ i e offered. absurd (none i e (of-stage (IsOffered i e) p row st at offered));
    past = past;
  }

  -- ---- what is said alone

  tombs-makes : (said : Option Said) → Goal (Says (turn_here (tombstone env.serve said)))
  tombs-makes None = stands-makes files x Front heads (by_front (turn_here (tombstone env.serve None))) tt (λ old. tt) tt
  tombs-makes (Some sd) = stands-makes files x Front heads (by_front (turn_here (tombstone env.serve (Some sd)))) tt (λ old. (tt, tt)) tt

  forwards-makes : (n : ℕ) (e : Epoch) (bytes : List ℕ) → Goal (forwarded env n e bytes)
  forwards-makes n e bytes = stands-makes files x Front heads (by_front (front_saying ((Node n, message env.serve.c e.0 (body.Forward bytes)) ∷ []))) tt
      (λ old. (front-quiet files m x.part n env.serve.c e.0 (body.Forward bytes) (λ f. let z : kind.Forward ≡ kind.Offer = f in cc) (λ f. let z : kind.Forward ≡ kind.Tag = f in cc), tt)) tt

  -- ---- of one whose client opened

  module _ (s : Station) (there : x.part.station ≡ Some s) where
    abbrev pend : List Verdict
    pend = truth.pend

    abbrev o : IsOpen k.files x l pend s
    o = open-at k.files x s there truth

    truth-at : (row : FrontRow) (d : FrontConn) → IsInStage p row d → StageAgrees l.w l.out l.vs pend l.was_reset x.c x.part row.epoch.0 d
    truth-at row d at = of-stage (SeatAgrees l.w l.out l.vs pend l.was_reset x.c x.part) p row d at o.seat

    stream-is : IsStream l.w
    stream-is = subst IsStream (sym o.client.w_is) (speaks-stream s.client.send l.w.bytes o.client.speaks)

    -- so many were answered
    served-is : (n : ℕ) → n ≡ length l.vs → m ≡ record m { served = n }
    served-is n e = ap (λ (i : ℕ). record m { served = i }) (o.tale.served ∙ sym e)

    answered-at : (n : ℕ) → n ≡ length l.vs → IsAllAnswered files m → IsAllAnswered files (record m { served = n })
    answered-at n e h = subst (IsAllAnswered files) (served-is n e) h

    start-looks : (b : ControlBlock) (n : ℕ) → n ≡ length l.vs → IsAllAnswered files m → Looks env.serve m m (serving b n [])
    start-looks b n e h = record { noted_so = tt; told = served-is n e; answered = answered-at n e h }

    -- ---- it holds the connection, or lets it wait

    -- a stage in which nothing counts
    none-counts : (row : FrontRow) (stays : ControlBlock → FrontConn) → ((b : ControlBlock) (i e : ℕ) → is_row_at i e (Some (record row { stage = stays b })) ≡ true → ⊥) → (e : Ending) (i f : ℕ) → is_row_at i f (Some (record row { stage = stage_after stays e })) ≡ true → ⊥
    none-counts row stays h (ending.Here b n) i f c = h b i f c
    none-counts row stays h (ending.Over last) i f c = let no : false ≡ true = c in cc

    -- the next request is unread
    abbrev Awaits : Option (List ℕ) → ControlBlock → ℕ → Type 0
    Awaits t b n = WaitsForNext files b.recv.unread t

    -- it goes on to be held, or to wait, or ends
    module _ (q : FrontPart) (row : FrontRow) (rest : FrontRest) (given : Ending × Turn) (behind : WayMarks) (w : Service) (looks : Looks env.serve m behind w)
        (paths : IsPrefix (paths_assigned behind) (paths_wanted files behind)) (notes : given.1.notes ≡ w.notes)
        (to : AllTo (Client env.serve.c) given.1.segments) where
      abbrev counted : WayMarks
      counted = record behind { served = w.count }

      rests-makes : (stays : ControlBlock → FrontConn) (calls : List Call)
          → ((b : ControlBlock) (i e : ℕ) → is_row_at i e (Some (record row { stage = stays b })) ≡ true → ⊥)
          → StageWays files counted (with_front x.part (front_rests q row rest stays given.0)) row.epoch.0 (stage_after stays given.0)
          → Goal (rests_in q row rest stays given calls)
      rests-makes stays calls none seat =
          turned-makes env x heads (record { part = front_rests q row rest stays given.0; turn = turn_here given.1; calls = calls }) counted
          (subst (Rightly files m) (sym notes) looks.noted_so) (ap (marked m) notes ∙ looks.told) paths
          seat (none-counts row stays none given.0) to (λ r. tt)

      holds-makes : Goal (holds q row rest given)
      holds-makes = rests-makes stage.Held [] (λ b i e c. let no : false ≡ true = c in cc) (seat given.0) where
        seat : (e : Ending) → StageWays files counted (with_front x.part (front_rests q row rest stage.Held e)) row.epoch.0 (stage_after stage.Held e)
        seat (ending.Here b n) = looks.answered
        seat (ending.Over last) = tt

      waits-makes : (calls : List Call) → StaysWith (Awaits rest.target) given.0 → Goal (rests_in q row rest stage.Waiting given calls)
      waits-makes calls waits = rests-makes stage.Waiting calls (λ b i e c. let no : false ≡ true = c in cc) (seat given.0 waits) where
        seat : (e : Ending) → StaysWith (Awaits rest.target) e
            → StageWays files counted (with_front x.part (front_rests q row rest stage.Waiting e)) row.epoch.0 (stage_after stage.Waiting e)
        seat (ending.Here b n) h = (looks.answered, h)
        seat (ending.Over last) h = tt

    -- what was unread before a turn is so behind it
    spoken-waits : (v : Service) (before : List (Place × List ℕ)) (t : Option (List ℕ)) → WaitsForNext files v.block.recv.unread t → StaysWith (Awaits t) (spoken env.serve v before).0
    spoken-waits v before t h = spoken-stays (Awaits t) env.serve v before (λ stays. speaks-keep (λ r y. WaitsForNext files r.unread t) (waits-kept files t) env.serve.c v.block h)

    -- an endpoint with its next request unread
    frozen-is : (behind : WayMarks) → behind.wrote ≡ l.w.bytes → (v : Service) (path : List ℕ) (out : Stream) (vs : List Verdict)
        → FrontHolds l.w out vs [] v.block v.count → may_freeze v.block ≡ true → BeginsWithRequest files v.block.recv.unread path
        → Looks env.serve m behind v → IsFrozen env x behind v path
    frozen-is behind wrote v path out vs h frozen next looks =
        let stands = frozen_stands v.block h.holds.sound frozen in
        let read = batch-read l.w v.block vs h.holds.hears stands.discarding_is h.holds.has_read 8 in
        record {
          w = l.w;
          out = out;
          vs = vs;
          stream = stream-is;
          wrote = wrote;
          holds = h;
          frozen = frozen;
          next = next;
          looks = looks;
          before = vs;
          counted = h.holds.counted;
          others = take 7 next.others;
          fronts = subst (λ (us : List Verdict). IsPrefix (vs ++ us) (verdicts behind.wrote)) (ap (take 8) next.are)
              (subst (λ (q : List ℕ). IsPrefix (vs ++ batch_of 8 v.block.recv.unread) (verdicts q)) (append-nil l.w.bytes ∙ sym wrote) (read.fronts []));
        }

    -- what is read from here, by the marks behind what was noted first
    read-looked : (behind : WayMarks) → behind.wrote ≡ l.w.bytes → IsPrefix (paths_assigned behind) (paths_wanted files behind) → (start : Service)
        → So env.serve l.w l.out l.vs start [] → Serves start.count start.block.recv start.block.send
        → Looks env.serve m behind start → let y : Reading = front_reads env.serve (record { service = start; target = None }) in Looked y.service y.target
    read-looked behind wrote paths start so0 serves looks0 =
        let y : Reading = front_reads env.serve (record { service = start; target = None }) in
        let most : env.serve.stream ≤ 2 ^ 30 = subst (λ (n : ℕ). n ≤ 2 ^ 30) (sym is.stream) small in
        let so = reads-so env.serve l.w l.out l.vs most start so0 in
        let stop = reads-stop env.serve start serves in
        let looks = reads-look env.serve m behind l.w l.out l.vs wrote most start so0 looks0 in
        record {
          behind = behind;
          paths = paths;
          looks = looks.0;
          waits = looks.1;
          frozen = λ path e.
              let over : y.service.over ≡ None = subst (λ (t : Option (List ℕ)). GoesOver t y.service) e so.1 in
              let may : may_freeze y.service.block ≡ true = subst (MayMove y.service.block) e stop.1 in
              frozen-is behind wrote y.service path so.0.out_now so.0.vs_now
              (record { none = refl; serves = stop.0; holds = frozen-holds env l.w l.out l.vs l.was_reset y.service so.0 over stop.0 may }) may
              (subst (WaitsForNext files y.service.block.recv.unread) e looks.1) looks.0;
        }

    -- what was read is said, and it is held, or waits
    read-holds : (q : FrontPart) (row : FrontRow) (rest : FrontRest) (w : Service) → Looked w None → Goal (holds q row rest (serving_settled env.serve w))
    read-holds q row rest w looked =
        let done = settled-is env.serve w in
        holds-makes q row rest (serving_settled env.serve w) looked.behind w looked.looks looked.paths done.notes done.to

    read-waits : (q : FrontPart) (row : FrontRow) (rest : FrontRest) (w : Service) (path : List ℕ) → Looked w (Some path)
        → Goal (Does (placed env q row rest w path Waits))
    read-waits q row rest w path looked =
        let v : Service = waiting_service env w in
        let more : Looks env.serve m looked.behind v = record {
          noted_so = rightly-append files m w.notes (rec.Waits env.serve.c ∷ []) looked.looks.noted_so (tt, tt);
          told = marked-append m w.notes (rec.Waits env.serve.c ∷ []) ∙ looked.looks.told;
          answered = looked.looks.answered;
        } in
        waits-makes q row (record rest { target = Some path }) (spoken env.serve v []) looked.behind v more looked.paths refl (spoken-to env.serve v [] tt)
        (call.First env.serve.c path env.now ∷ leaves_by env.serve.c (spoken env.serve v []).0) (spoken-waits v [] (Some path) looked.waits)

    -- ---- a segment comes

    module _ (talk : IsFrontTalk env l.w l.out l.vs) (sd : Said) (word : IsWord l.w sd) where
      pub row-looks : (row : FrontRow) (b : ControlBlock) → IsInStage p row (stage.Held b) → Came (front_reads env.serve (heard_reading p b sd)).service (front_reads env.serve (heard_reading p b sd)).target
      row-looks row b at n placed g =
          let fh : FrontHolds l.w l.out l.vs pend b count = truth-at row (stage.Held b) at in
          let free : IsAllAnswered files m = seat-at row (stage.Held b) at g in
          let start : Service = heard_service p b sd in
          let so : So env.serve l.w l.out l.vs start [] = heard-so env.serve l.w l.out l.vs talk.says [] b count fh.holds talk.stream sd word in
          read-looked m o.tale.wrote g.paths start so (segment-serves count b sd fh.serves) (start-looks (on_segment b sd).1 count fh.holds.counted free)

      -- nobody has it yet
      begins-makes : p.row ≡ None → Goal (front_begun env p sd)
      begins-makes found help g =
          let agrees : (l.vs ≡ []) × (pend ≡ []) × (l.out.ended ≡ false) = subst (SeatAgrees l.w l.out l.vs pend l.was_reset x.c x.part) found o.seat in
          let free : IsAllAnswered files m = subst (SeatWays files m x.part) found g.seat in
          let v : Service = begun_service env sd in
          let zero_is : 0 ≡ length l.vs = sym (ap length agrees.0) in
          let took : marked m v.notes ≡ m = λ i. record m { assigned = cond (free.1 i) (without_last m.assigned) m.assigned; fresh = sym free.1 i } in
          let looks : Looks env.serve m m v = record { noted_so = (tt, tt); told = took ∙ served-is 0 zero_is; answered = answered-at 0 zero_is free } in
          holds-makes p begun_row (front_rest None) (spoken env.serve v []) m v looks g.paths refl (spoken-to env.serve v [] tt) help g

      by-segment : (bytes : List ℕ) → KeptBySegment env p bytes sd Came Goal
      by-segment bytes = record {
        drops = drops-makes env x heads;
        begins = λ none plain. begins-makes none;
        reads = row-looks;
        holds = λ row b w at came help g. read-holds p row (front_rest p.rest) w (came help.number help.placed g) help g;
        hands = λ row b w path choice at came is help g.
            let looked : Looked w (Some path) = came help.number help.placed g in
            handed-makes env x looked.behind row w path choice (looked.frozen path refl) heads (number help.number)
            (here-latest row (stage.Held b) at (λ i e h. h) (early-at x help.placed row at.0)
            (sits-at row (stage.Held b) at help.placed).1.1) help g;
        waits = λ row b w path at came is help g. read-waits p row (front_rest p.rest) w path (came help.number help.placed g) help g;
        stays = λ row b at help g.
            let fh : FrontWaits l.w l.out l.vs pend b count = truth-at row (stage.Waiting b) at in
            let seat = seat-at row (stage.Waiting b) at g in
            let v : Service = heard_service p b sd in
            waits-makes p row (front_rest p.rest) (spoken env.serve v []) m v (start-looks (on_segment b sd).1 count fh.0.holds.counted seat.0) g.paths refl
            (spoken-to env.serve v [] tt)
            (leaves_by env.serve.c (spoken env.serve v []).0) (spoken-waits v [] (front_rest p.rest).target
            (segment-keeps (λ r y. WaitsForNext files r.unread (front_rest p.rest).target) (waits-kept files (front_rest p.rest).target) b sd seat.1)) help g;
        forwards = λ row n e at. forwards-makes n e bytes;
        words = λ row last at. tombs-makes (last_words last.reason last sd);
      }

    -- ---- its node refused it

    module _ (n epoch : ℕ) (comes : HasBack x n epoch None heads) (row : FrontRow) (parts : EndpointParts) (back : IsBack p n epoch None row parts) where
      at : IsInStage p row (stage.Offering n back.from)
      at = back.refused refl

      -- what was assigned behind those that were answered is void
      module _ (placed : IsPlaced x) (g : GoesItsWay files x) where
        past : ArePast row.epoch.0 x.part.nodes
        past =
            let there = refused-there x placed n epoch heads comes row parts back in
            subst (λ (e : ℕ). ArePast e x.part.nodes) (sym there.epoch_is) (refused-past x n epoch row there)

        once : IsPlacedOnce files m (front_rest p.rest) n
        once = ⊎_elim
            (λ (a : IsPast row.epoch.0 (x.part.nodes n).row × IsPlacedOnce files m (front_rest p.rest) n). a.1)
            (λ (a : IsDecided row.epoch.0 (x.part.nodes n).row × IsAtHome files m (front_rest p.rest) n (x.part.nodes n).stay).
            absurd (past-undecided row.epoch.0 (x.part.nodes n).row (past n) a.0))
            (seat-at row (stage.Offering n back.from) at g).1

        behind : WayMarks
        behind = record m { assigned = once.before; fresh = false; home = None }

        told : marked m (back_notes env.serve.c row) ≡ behind
        unfolding behind
        told =
            ap (λ (b : Bool). record m { assigned = cond b (without_last m.assigned) m.assigned; fresh = false; home = None }) once.fresh
            ∙ ap (λ (all : List Assigned). record m { assigned = without_last all; fresh = false; home = None }) once.assigned
            ∙ ap (λ (all : List Assigned). record m { assigned = all; fresh = false; home = None }) (without-pushed once.before (once.path, n))

        before-paths : IsPrefix (paths_assigned behind) (paths_wanted files behind)
        unfolding behind
        before-paths = front-of (map (λ a. a.0) once.before) (once.path ∷ []) (paths_wanted files m)
            (subst (λ (ps : List (List ℕ)). IsPrefix ps (paths_wanted files m))
            (ap (map (λ a. a.0)) once.assigned ∙ map-append (λ a. a.0) once.before ((once.path, n) ∷ [])) g.paths)

        back-looks : (b : ControlBlock) (i : ℕ) → i ≡ length l.vs → Looks env.serve m behind (serving b i (back_notes env.serve.c row))
        unfolding behind
        back-looks b i same =
            let served : m.served ≡ i = o.tale.served ∙ sym same in
            record {
              noted_so = (tt, (tt, tt));
              told = told ∙ (λ j. record behind { served = served j });
              answered = subst (λ (j : ℕ). IsAllAnswered files (record behind { served = j })) served (once.answered, refl);
            }

      back-looked : Came (front_reads env.serve (back_reading env row parts)).service (front_reads env.serve (back_reading env row parts)).target
      unfolding behind
      back-looked n_is at_place g =
          let kept = refused-offering k.files x s l pend o at_place n epoch heads comes row parts back in
          let holds = kept.holds.holds in
          let says : SaysAnswers env.serve.files l.w l.out l.vs = subst (λ (fs : FilesAt). SaysAnswers fs l.w l.out l.vs) (sym is.files) o.says in
          subst (λ (q : EndpointParts). let y : Reading = front_reads env.serve (back_reading env row q) in Looked y.service y.target)
          (sym (refused-parts k.files x s l pend o at_place n epoch heads comes row parts back n_is))
          (read-looked (behind at_place g) o.tale.wrote (before-paths at_place g) (back_service env row (parts_of kept.block kept.count))
          (adopted-so env.serve l.w l.out l.vs says [] kept.block kept.count holds kept.frozen (back_notes env.serve.c row) none-told)
          (adopted-serves env.serve l.w l.out l.vs says [] kept.block kept.count holds kept.frozen kept.holds.serves)
          (back-looks at_place g (adopted (parts_of kept.block kept.count)) kept.count holds.counted)) where
            none-told : CountsResponses env.serve.files env.serve.c l.w l.out l.vs l.vs l.out.bytes (back_notes env.serve.c row)
            none-told = record {
              each = (tt, (tt, tt));
              served = omega arith;
              size = omega arith;
              unless_ended = inr refl;
              serve = λ t told. ((λ J e. tt), ((λ J e. tt), tt));
            }

      -- and it is the latest epoch in which it is back
      back-latest : IsPlaced x → IsLatest env x (returned_row parts row)
      back-latest placed =
          let there : IsRefusedThere x n epoch row = refused-there x placed n epoch heads comes row parts back in
          let early = there.early in
          let now = there.epoch_is in
          record {
            small = omega (arith, early, now);
            by = λ e by. let le : e ≤ row.epoch.0 = subst (IsBy e) at.0 by in omega (arith, le);
            offered = λ i e offered.
                let same = (of-stage (IsOffered i e) p row (stage.Offering n back.from) at offered).1 in
                let was = back.epoch_is in omega (arith, same, was, now);
            past = λ i. past-later epoch (row.epoch.0 + 1) (x.part.nodes i).row (omega (arith, now)) (refused-past x n epoch row there i);
          }

      by-refusal : KeptByReturn env p [] row parts Came Goal
      by-refusal =
          let q : FrontPart = back_part p row parts in
          let r : FrontRow = returned_row parts row in record {
            reads = back-looked;
            holds = λ w came help g. read-holds q r (back_rest parts) w (came help.number help.placed g) help g;
            hands = λ w path choice came is help g.
                let looked : Looked w (Some path) = came help.number help.placed g in
                handed-makes env x looked.behind r w path choice (looked.frozen path refl) heads (number help.number) (back-latest help.placed) help g;
            waits = λ w path came is help g. read-waits q r (back_rest parts) w path (came help.number help.placed g) help g;
          }

    -- ---- its timers

    by-timer : KeptByTimer env p Goal
    by-timer = record {
      drops = drops-makes env x heads;
      holds = λ row b at help g.
          let fh : FrontHolds l.w l.out l.vs pend b count = truth-at row (stage.Held b) at in
          let free : IsAllAnswered files m = seat-at row (stage.Held b) at g in
          let v : Service = fired_service p b in
          holds-makes p row (front_rest p.rest) (front_fired env (front_rest p.rest) b) m v
          (start-looks (after_timer b) count fh.holds.counted free) g.paths refl
          (spoken-to env.serve v (fired_before env b) (ready-to env.serve (after_timer b) (timed b))) help g;
      stays = λ row b at help g.
          let fh : FrontWaits l.w l.out l.vs pend b count = truth-at row (stage.Waiting b) at in
          let seat = seat-at row (stage.Waiting b) at g in
          let v : Service = fired_service p b in
          waits-makes p row (front_rest p.rest) (front_fired env (front_rest p.rest) b) m v
          (start-looks (after_timer b) count fh.0.holds.counted seat.0) g.paths refl
          (spoken-to env.serve v (fired_before env b) (ready-to env.serve (after_timer b) (timed b)))
          (leaves_by env.serve.c (front_fired env (front_rest p.rest) b).0)
          (spoken-waits v (fired_before env b) (front_rest p.rest).target (timer-keeps (λ r y. WaitsForNext files r.unread (front_rest p.rest).target) (waits-kept files (front_rest p.rest).target) b seat.1)) help g;
      resends = λ row n e at help g. stands-makes files x Front heads (by_front (front_saying (map sent_of p.kept))) tt (λ old. sent-say files m x.part x Front p.kept help.sound.front old) tt help g;
    }

    -- ---- it is admitted, from the head of the line, with the request for which it waited

    admits-makes : (row : FrontRow) (b : ControlBlock) (path : List ℕ) → IsInStage p row (stage.Waiting b) → (front_rest p.rest).target ≡ Some path → (choice : FirstChoice) → Goal (hands_off env row (serving b count []) path choice [])
    admits-makes row b path at is_target choice help g =
        let fh : FrontWaits l.w l.out l.vs pend b count = truth-at row (stage.Waiting b) at in
        let seat = seat-at row (stage.Waiting b) at g in
        let alone : FrontHolds l.w l.out l.vs [] b count = record { none = refl; serves = fh.0.serves; holds = fh.0.holds } in
        let next : BeginsWithRequest files b.recv.unread path = subst (WaitsForNext files b.recv.unread) is_target seat.1 in
        handed-makes env x m row (serving b count []) path choice (frozen-is m o.tale.wrote (serving b count []) path l.out l.vs alone fh.1 next
        (start-looks b count fh.0.holds.counted seat.0)) heads (number help.number)
        (here-latest row (stage.Waiting b) at (λ i e h. h) (early-at x help.placed row at.0)
        (sits-at row (stage.Waiting b) at help.placed).1.1) help g

  -- ---- it comes back

  gives-makes : (n epoch : ℕ) (parts : EndpointParts) → Goal (Says (front_saying (given_sent env.serve.c n epoch (Some parts))))
  gives-makes n epoch parts = stands-makes files x Front heads (by_front (front_saying (given_sent env.serve.c n epoch (Some parts)))) tt
      (λ old. (
        front-quiet files m x.part n env.serve.c epoch body.Given (λ f. let z : kind.Given ≡ kind.Offer = f in cc)
            (λ f. let z : kind.Given ≡ kind.Tag = f in cc),
        tt,
      )) tt

  pub returned-looks : (n epoch : ℕ) (given : Option EndpointParts) → HasBack x n epoch given heads → (row : FrontRow) (parts : EndpointParts)
      → IsBack p n epoch given row parts
      → let y : Reading = front_reads env.serve (back_reading env row parts) in Came y.service y.target
  returned-looks n epoch None comes row parts back =
      let opened = opened-at k.files x truth (node-opens x n comes.bytes comes.was) in back-looked opened.0 opened.1 n epoch comes row parts back
  returned-looks n epoch (Some q) comes row parts back = λ n_is placed g. absurd (no-give x placed n epoch q comes.bytes comes.was comes.spells)

  by-return : (n epoch : ℕ) (given : Option EndpointParts) → HasBack x n epoch given heads → (row : FrontRow) (parts : EndpointParts)
      → IsBack p n epoch given row parts
      → KeptByReturn env p (given_sent env.serve.c n epoch given) row parts Came Goal
  by-return n epoch None comes row parts back =
      let opened = opened-at k.files x truth (node-opens x n comes.bytes comes.was) in by-refusal opened.0 opened.1 n epoch comes row parts back
  by-return n epoch (Some q) comes row parts back = record {
    reads = λ number placed g. absurd (none placed);
    holds = λ w came help g. absurd (none help.placed);
    hands = λ w path choice came is help g. absurd (none help.placed);
    waits = λ w path came is help g. absurd (none help.placed);
  } where
    none : IsPlaced x → ⊥
    none placed = no-give x placed n epoch q comes.bytes comes.was comes.spells

  -- ---- whatever comes

  by-rules : KeptByFront env p (FrontComes x env heads) Came Goal
  by-rules = record {
    drops = drops-makes env x heads;
    hears = λ bytes sd c.
        let o : IsOpen k.files x l truth.pend c.station = open-at k.files x c.station c.there truth in
        by-segment c.station c.there (talk-of k small x env is c.station l truth.pend o c.iss_is) sd (heard-word x c.station env bytes heads k.files l truth.pend o sd c) bytes;
    fires = λ c. by-timer c.station c.there;
    takes = λ from epoch c row n e at same. taken-moves env x heads row n e epoch at same;
    tags_again = λ n epoch ask c rest found there same some. again-makes env x heads n epoch ask rest found there;
    assigns_next = λ n epoch ask c rest found there next help g.
        let said : NodeSaysWays files m x.part n epoch (body.Ask ask.number ask.queue ask.size ask.paths) = subst (λ (a : Ask). NodeSaysWays files m x.part n epoch (body.Ask a.number a.queue a.size a.paths)) (sym c.is)
        ((has-fair (LetterWays files m x.part) (record { from = Node n; to = Front; bytes = c.told.bytes }) x.letters c.told.was g.letters) _ c.told.spells) in
        assigns-makes env x heads n epoch ask rest found next there said.0 (subst (λ (r : FrontRest). AskIs files m r (x.part.nodes n).stay ask.number ask.paths) (ap front_rest found) (said.1 there)) help g;
    ends_again = λ n epoch last c row found away again. acks-makes env x heads n epoch;
    ends = λ n epoch last c row found away. ends-makes env x heads n epoch last row;
    gives_again = λ n epoch parts c row found past. gives-makes n epoch parts;
    returns = λ n epoch given c row parts back. by-return n epoch given c row parts back;
    admits = λ choice made met row b path at target.
        let opened = opened-at k.files x truth (λ u. let no : Some row ≡ None = sym at.0 ∙ u.front in absurd cc) in
        admits-makes opened.0 opened.1 row b path at target choice;
  }

  pub front-keep : (g : FrontGets) → FrontComes x env heads g → Keeps k.files x (front_does x heads (front_rule env p g))
  front-keep g comes = subst (λ (f : FilesAt). Keeps f x (front_does x heads (front_rule env p g))) is.files (front-keeps env p (FrontComes x env heads) Came Goal by-rules g (admission x env heads g comes) comes)
