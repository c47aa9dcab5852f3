-- What a node tells of an end is so: its turns end truly, and what it tells again it told before.
use Rattle.std.proofs.Common.{◌≡◌, ◌≤◌, ◌^◌, ℕ, true, List, [], ◌∷◌, ◌++◌, map, Option, Some, None, inr, refl, sym, ap, ◌∙◌, subst, arith}
use Rattle.lard_law_view.specs.Prelude.{Asked, Client, Conn, ControlBlock, Ending, EndpointParts, Final, Front, FrontRow, IsConnNumber, IsConnSound, IsStream, IsWord, Node, NodeDeed, NodeEnv, NodeGets, NodePart, Place, Progress, Said, Seen, Service, SpellsMessage, Station, Stay, Talk, Turn, Verdict, Want, Was, Work, after_timer, again_sent, all_sent, asked_sent, came_for, come_progress, ended_sent, give_kept, gives_back, goes_on, kept_after, letter, node_begins, node_does, node_fired, offer_answer, offered_by, on_segment, parts_of, read_progress, reads_batch, refused_sent, reset_count, sent_of, serving, serving_ready_of, serving_settled, spoken, state_of, tagged, taken_sent, timed, turn_by, wants_sent, with_work, without, work_of}
use Rattle.lard_base.specs.declared.place.TimerKind.TheVariants as timer
use Rattle.lard_laws.proofs.AcksOffers.{IsOfferOf, adopted-is, moved, new-is}
use Rattle.lard_law_connections.specs.BytesAgreement.{AreOnTheWay, HoldsItPending, IsOpen, RowAgrees, StayAgrees, StayComesOn}
use Rattle.lard_law_connections.proofs.BytesHolding.{begins-so, heard-so, same-so}
use Rattle.lard_law_connections.proofs.BytesNodeMoves.{has-it}
use Rattle.lard_law_connections.proofs.BytesServing.{MayGo, So, go-on}
use Rattle.lard_law_connections.proofs.BytesWays.{KeepsWay, batch-right, came-right, come_progress-on, read_progress-on, tagged-right}
use Rattle.lard_law_connections.proofs.BytesWorking.{Right, Works, came-so, first-so, goes-so, tagged-so, verdicts_of}
use Rattle.lard_laws.specs.EndedEnds.{IsTrueEnd, LetterEnds, TellsEnds}
use Rattle.lard_laws.proofs.EndedEnding.{EndsTruly, settled-end, timed-end}
use Rattle.lard_laws.proofs.EndedGrowing.{ended-ends, other-ends, reply-letters}
use Rattle.lard_laws.proofs.EndedTurns.{PlaceEnds}
use Rattle.lard_laws.proofs.NodeDeeds.{again-letters, forwarded-word}
use Rattle.lard_law_connections.proofs.PlacesTurns.{IsPlaced}
use Rattle.lard_law_connections.specs.Stops.{NodeRests, RowRests, StayStopsBy}
use Rattle.lard_law_connections.proofs.StopsNodes as stops
use Rattle.lard_law_connections.proofs.StopsSame.{segment-closes, timer-same}
use Rattle.lard_law_view.proofs.EachNode.{NodeComes, node_goes}
use Rattle.lard_endpoint.proofs.Adoption.{frozen_stands}
use Rattle.lard_handoff_back.specs.declared.table.Adopt.TheVariants.{New}
use Rattle.lard_history.proofs.Each.{Each, Each-append}
use Rattle.lard_journal.specs.declared.rec.Rec.TheVariants as rec
use Rattle.lard_law_view.proofs.Stopping.{stopped-arrived}
use Rattle.lard_message.specs.declared.message.Body.TheVariants as body
use Rattle.lard_rules.proofs.NodeCases.{IsHereWith, IsOfItsEpoch, KeptByNode, Turned, node-keeps, of-here}
use Rattle.lard_rules.specs.Node.{Drops, Says, Does}
use Rattle.lard_rules.specs.declared.places.Ending.TheVariants as ending
use Rattle.lard_law_view.proofs.Speaking.{speaks-stream}
use Rattle.lard_law_view.proofs.EndpointSends.{AllTo, ready-to}
use Rattle.lard_law_connections.proofs.PlacesLoops.{settled-is, spoken-to}

module _ (env : NodeEnv) (most : env.serve.stream ≤ 2 ^ 30) (x : Conn) (sound_x : IsConnSound x) (at_place : IsPlaced x) (s : Station) (l : Talk) (pend : List Verdict) (o : IsOpen env.serve.files x l pend s) (n : ℕ) (stopped : NodeRests env.leaving (x.part.nodes n)) (h : TellsEnds (IsTrueEnd env.serve.files l.w s.iss) x) (number : IsConnNumber x.c) (epoch : ℕ) (epoch_is : env.epoch ≡ epoch) (heads : List Seen) where
  abbrev P : Final → Type 0
  P = IsTrueEnd env.serve.files l.w s.iss

  abbrev row : Option FrontRow
  row = x.part.front.row

  abbrev ours : NodePart
  ours = x.part.nodes n

  abbrev Goes : NodeDeed → Type 0
  Goes d = PlaceEnds x (node_does x n heads d) P

  abbrev Truly : Ending → Type 0
  Truly e = EndsTruly env.serve l.w s.iss e

  is_stream : IsStream l.w
  is_stream = subst IsStream (sym o.client.w_is) (speaks-stream s.client.send l.w.bytes o.client.speaks)

  -- ---- what it says

  abbrev Tells : List (Place × List ℕ) → Type 0
  Tells ms = Each (LetterEnds P row) (map (letter (Node n)) ms)

  tells-append : (ms ns : List (Place × List ℕ)) → Tells ms → Tells ns → Tells (ms ++ ns)
  tells-append [] ns f g = g
  tells-append (m ∷ ms) ns f g = (f.0, tells-append ms ns f.1 g)

  asked-tells : (a : Option Asked) → Tells (asked_sent env a)
  asked-tells None = tt
  asked-tells (Some a) = (other-ends P row n env.serve.c env.epoch (body.Ask a.number a.queue a.size a.paths) (λ i. cc), tt)

  wants-tell : (ws : List Want) → Tells (wants_sent env ws)
  wants-tell [] = tt
  wants-tell (w ∷ ws) = (tt, wants-tell ws)

  taken-tells : Tells (taken_sent env)
  taken-tells = (other-ends P row n env.serve.c env.epoch body.Taken (λ i. cc), tt)

  refused-tells : Tells (refused_sent env)
  refused-tells = (other-ends P row n env.serve.c env.epoch body.Refused (λ i. cc), tt)

  all-tell : (before : List (Place × List ℕ)) (work : Work) → Tells before → Tells (all_sent env before work)
  all-tell before work first = tells-append (before ++ asked_sent env work.asked) (wants_sent env work.wants) (tells-append before (asked_sent env work.asked) first (asked-tells work.asked)) (wants-tell work.wants)

  give-tells : (work : Work) → Tells (sent_of (give_kept env work) ∷ [])
  give-tells work = (other-ends P row n env.serve.c env.epoch (body.Give (parts_of work.service.block work.service.count)) (λ i. cc), tt)

  ended-tells : (over : Option ℕ) (e : Ending) → Truly e → Tells (ended_sent env over e)
  ended-tells over (ending.Here b count) t = tt
  ended-tells over (ending.Over last) t = (ended-ends P row n env.serve.c env.epoch (reset_count over) last t.0 t.1 t.2, tt)

  again-tells : Tells (again_sent ours)
  again-tells = again-letters (LetterEnds P row) x sound_x h.packets n

  pub dropped : Goes Drops
  dropped = record { front = h.front; letters = tt }

  says : (ms : List (Place × List ℕ)) → Tells ms → Goes (Says ms)
  says ms t = record { front = h.front; letters = t }

  -- ---- its turns

  turn-ends : (part : NodePart) (before : List (Place × List ℕ)) (work : Work) (given : Ending × Turn) → Truly given.0 → AllTo (Client env.serve.c) given.1.segments → Tells before → Goes (Does (kept_after env part work given.0, turn_by env before work given))
  turn-ends part before work given t to first = record {
    front = h.front;
    letters = Each-append (LetterEnds P row) (map (letter (Node n)) given.1.segments) (map (letter (Node n)) (turn_by env before work given).messages)
        (reply-letters P row n env.serve.c given.1.segments to)
        (tells-append (all_sent env before work) (ended_sent env work.service.over given.0) (all-tell before work first) (ended-tells work.service.over given.0 t));
  }

  -- one that goes back tells of no end
  back-ends : (part : NodePart) (before : List (Place × List ℕ)) (work : Work) → Tells before → Goes (gives_back env part before work)
  back-ends part before work first = record { front = h.front; letters = tells-append (all_sent env before work) (sent_of (give_kept env work) ∷ []) (all-tell before work first) (give-tells work) }

  -- what is in hand agrees, and its requests are on their way
  abbrev InHand : Work → Type 0
  InHand k = Works env l.w l.out l.vs k

  abbrev OnTheWay : Work → Type 0
  OnTheWay k = Right env l.w l.out l.vs k

  -- a stay goes on, which stops behind the cluster's FIN
  goes-ends : (part : NodePart) (before : List (Place × List ℕ)) (k : Work) → InHand k → OnTheWay k → stops.MayRest env k → Tells before → Goes (with_work env part before (goes_on env k))
  goes-ends part before k works right may first =
      let on : Work = goes_on env k in
      let so : InHand on = goes-so env l.w l.out l.vs most k works right in
      let rests : stops.Rests env on = stops.goes-rest env k may in
      turn-ends part before on (serving_settled env.serve on.service)
      (settled-end env.serve l.w s.iss l.out l.vs o.begins on.service (verdicts_of on.batch) so (λ over calm closed. let t = (rests over calm).1 closed in (t.0, λ keeps. ap verdicts_of (t.1 keeps))))
      (settled-is env.serve on.service).to first

  -- or goes back
  turns-end : (part : NodePart) (k : Work) → InHand k → OnTheWay k → stops.MayRest env k → Turned Goes env part [] (goes_on env k)
  turns-end part k works right may = (λ rests. goes-ends part [] k works right may tt, λ back. back-ends part [] (goes_on env k) tt)

  -- ---- a stay that is here

  record IsStay (b : ControlBlock) (t : Stay) : Type 0 where
    pend_is : pend ≡ verdicts_of t.batch
    holds : HoldsItPending l.w l.out l.vs pend b t.served
    ways : AreOnTheWay env.serve.files t.batch
    stays : StayStopsBy env.leaving b t.batch

  stay-of : (b : ControlBlock) (t : Stay) → IsHereWith env.epoch ours b t → IsStay b t
  stay-of b t at =
      let it = has-it x l pend o.seat at_place n at.row b at.found at.staged in
      let agrees : StayAgrees l.w l.out l.vs pend b (Some t) =
      of-here (λ q u. RowAgrees l.w l.out l.vs pend l.was_reset x.c (record ours { stay = u }) q) env.epoch ours b t at it.agrees in
      record {
        pend_is = agrees.0;
        holds = agrees.1;
        ways = subst (StayComesOn env.serve.files) at.stays (o.ways n);
        stays = of-here (RowRests env.leaving) env.epoch ours b t at stopped;
      }

  same-works : (b : ControlBlock) (t : Stay) → IsStay b t → InHand (work_of b t)
  same-works b t i = subst (So env.serve l.w l.out l.vs (serving b t.served [])) i.pend_is (same-so env.serve l.w l.out l.vs o.says pend b t.served i.holds)

  -- ---- a segment that was forwarded

  heard-ends : (sd : Said) → IsWord l.w sd → (b : ControlBlock) (t : Stay) → IsStay b t
      → Turned Goes env ours [] (goes_on env (work_of (on_segment b sd).1 t))
  heard-ends sd word b t i = turns-end ours (work_of (on_segment b sd).1 t)
      (subst (So env.serve l.w l.out l.vs (serving (on_segment b sd).1 t.served [])) i.pend_is
      (heard-so env.serve l.w l.out l.vs o.says pend b t.served i.holds is_stream sd word)) i.ways
      (λ closed. let same = segment-closes b sd in let u = i.stays.closed (sym same ∙ closed) in
      (stopped-arrived b sd same u.0 closed, λ keeps. u.1 (stops.segment-keeps b sd keeps)))

  -- ---- a Tag, a content, a job

  tagged-ends : (tags : List ℕ) (b : ControlBlock) (t : Stay) → IsStay b t
      → Turned Goes env (record ours { kept = without timer.Ask 0 ours.kept }) [] (goes_on env (tagged env tags (work_of b t)))
  tagged-ends tags b t i = turns-end (record ours { kept = without timer.Ask 0 ours.kept }) (tagged env tags (work_of b t))
      (tagged-so env l.w l.out l.vs tags (work_of b t) (same-works b t i))
      (tagged-right env tags (work_of b t) i.ways) (stops.tagged-closes env tags b t i.stays.closed)

  came-ends : (part : NodePart) (f : Progress → Progress) → KeepsWay env.serve.files f → (r : ℕ) (b : ControlBlock) (t : Stay) → IsStay b t
      → Turned Goes env part [] (goes_on env (came_for f r (work_of b t)))
  came-ends part f on r b t i = turns-end part (came_for f r (work_of b t)) (came-so env l.w l.out l.vs f r (work_of b t) (same-works b t i))
      (came-right env.serve.files f on r (work_of b t) i.ways)
      (stops.came-closes env f r b t i.stays.closed)

  -- ---- its timer

  fired-ends : (b : ControlBlock) (t : Stay) → IsStay b t
      → Goes (Does (node_fired env ours (b, t) (spoken env.serve (serving (after_timer b) t.served []) (serving_ready_of env.serve (after_timer b) (timed b)))))
  fired-ends b t i =
      let w : Service = serving (after_timer b) t.served [] in
      let before : List (Place × List ℕ) = serving_ready_of env.serve (after_timer b) (timed b) in
      let rests : stops.IsAt env.leaving (after_timer b) t.batch = stops.same-at env.leaving b (after_timer b) t.batch (timer-same b) (i.stays.open_, i.stays.closed) in
      turn-ends ours (again_sent ours) (work_of (after_timer b) t) (spoken env.serve w before)
      (timed-end env.serve l.w s.iss l.out l.vs o.begins o.says pend b t.served i.holds before (λ calm closed. let u = rests.1 closed in (u.0, λ keeps. i.pend_is ∙ ap verdicts_of (u.1 keeps))))
      (spoken-to env.serve w before (ready-to env.serve (after_timer b) (timed b))) again-tells

  -- ---- an Offer

  module _ (parts : EndpointParts) (bytes : List ℕ) (spells : SpellsMessage x.c epoch (body.Offer parts) bytes) (was : Was x Front (Node n) bytes) where
    -- what is adopted has answered all that it read
    begins-works : IsOfferOf l pend parts → So env.serve l.w l.out l.vs (node_begins env parts).service []
    begins-works f =
        let held = f.holds.holds in
        subst (λ (q : EndpointParts). So env.serve l.w l.out l.vs (node_begins env q).service []) (sym f.same)
        (subst (λ (d : ControlBlock). So env.serve l.w l.out l.vs (serving d f.count (rec.Took (Node env.n) env.serve.c (record { 0 = env.epoch }) ∷ [])) []) (adopted-is f.block f.count (frozen_stands f.block held.sound f.frozen) held.sound.same_irs)
        (begins-so env.serve l.w l.out l.vs o.says [] (moved f.block) f.count (rec.Took (Node env.n) env.serve.c (record { 0 = env.epoch }) ∷ []) held.counted
        (record { same_irs = held.sound.same_irs; speaks = held.speaks; out_is = held.out_is; hears = held.hears })
        (record { wnd = held.wide.wnd; wl1 = held.wide.wl1; wl2 = held.wide.wl2 })
        (record { cut = held.has_read.cut; goes_on = held.has_read.goes_on; stops = held.has_read.stops; fronts = held.has_read.fronts })
        (record { each = (tt, tt); served = omega arith; size = omega arith; unless_ended = inr refl; serve = λ t told. ((λ J e. tt), tt) })))

    took-ends : IsOfferOf l pend parts → Goes (offered_by env parts ours New)
    took-ends f =
        let first : Work = node_begins env parts in
        let so : So env.serve l.w l.out l.vs first.service [] = begins-works f in
        let may : MayGo l.w so.vs_now [] first.service = go-on env.serve l.w l.out l.vs first.service [] so refl refl refl in
        goes-ends ours (taken_sent env) (state_of (reads_batch env true first)) (first-so env l.w l.out l.vs true first so may refl) (batch-right env true first refl tt) (stops.batch-at env true first refl refl).1 taken-tells

    new-ends : offer_answer epoch ours.row ≡ New → Goes (offered_by env parts ours New)
    new-ends new = took-ends (new-is env.serve.files x number at_place s l pend o n epoch parts bytes spells was new)

  -- ---- every rule

  rules_end : KeptByNode env ours (NodeComes x n epoch heads) Goes
  rules_end = record {
    drops = dropped;
    hears = λ sd b t m at. heard-ends sd (forwarded-word env.serve.files x s l pend o n epoch heads sd m) b t (stay-of b t at);
    tags = λ number tags b t m at asked same count. tagged-ends tags b t (stay-of b t at);
    comes = λ from r b t m at wanted. came-ends (record ours { fetches = without timer.Fetch r ours.fetches }) (come_progress from)
        (come_progress-on env.serve.files from) r b t (stay-of b t at);
    reads = λ r path b t m at. came-ends ours read_progress (read_progress-on env.serve.files) r b t (stay-of b t at);
    begins = λ parts m new may. new-ends parts m.bytes m.spells m.was (ap (λ e. offer_answer e ours.row) (sym epoch_is) ∙ new);
    takes_again = λ parts m again. says (taken_sent env) taken-tells;
    refuses = λ parts m is. record { front = h.front; letters = refused-tells };
    fires = λ b t m at. fired-ends b t (stay-of b t at);
    resends = λ m none. says (again_sent ours) again-tells;
    ends = λ back m told was. record { front = h.front; letters = tt };
    leaves = λ b t m at back. back-ends ours [] (work_of b t) tt;
  }

  pub rule-ends : (g : NodeGets) → IsOfItsEpoch env ours g → NodeComes x n epoch heads g → PlaceEnds x (node_goes x n env heads g) P
  rule-ends g at comes = let p = node-keeps env ours (NodeComes x n epoch heads) Goes rules_end g at comes in record { front = p.front; letters = p.letters }
