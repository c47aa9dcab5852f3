-- A connection that a place has, and both of whose ends rest, is complete.
use Rattle.std.proofs.Common.{◌≡◌, ◌&&◌, not, ℕ, Bool, true, false, List, [], length, map, Some, ⊎_elim, refl, sym, ap, ◌∙◌, subst, None}
use Rattle.std.proofs.lemmas.Bool.{both_ways}
use Rattle.lard_law_view.specs.Prelude.{Agrees, AtFront, BackConn, Config, Conn, ControlBlock, FilesAt, HasStopped, IsComplete, Machine, Nowhere, Rec, Seat, Station, Stream, Tale, Talk, Verdict, answer_bytes, answers, closes_any, conn, file_at, front_rest, has_aborted, is_clear, is_touched, may_freeze, seat_armed, tale_at, verdicts, was_reset, which_leave}
use Rattle.lard_laws.specs.Acks.{AcksWhatWasTaken, BackActs, BackStageActs, EndActs, FrontActs, FrontStageActs, OpenActs, StationActs, bounds_of, story_at}
use Rattle.lard_laws.proofs.AcksRuns.{connections-ack}
use Rattle.lard_laws.proofs.AcksStory.{reset-told}
use Rattle.lard_law_connections.specs.BytesAgreement.{HoldsItPending, IsOpen, IsTruthful, RowAgrees, SeatAgrees, StageAgrees, StayAgrees}
use Rattle.lard_law_connections.proofs.BytesClientMoves.{open-at}
use Rattle.lard_law_connections.proofs.BytesNodeMoves.{has-it}
use Rattle.lard_law_connections.proofs.BytesReading.{read-alone}
use Rattle.lard_law_connections.proofs.BytesRuns.{states-truthful}
use Rattle.lard_law_connections.proofs.PlacesRuns.{each-placed}
use Rattle.lard_law_connections.proofs.PlacesTurns.{IsPlaced}
use Rattle.lard_laws.specs.QuietRests.{ClientRests, HeldRests, RestingIsComplete, RestsSomewhere, StayRests}
use Rattle.lard_law_connections.specs.Stops.{BackStageRests, FirstIsAwaited, FrontStageStops, FrontStops, HeldStops, IsHeldBack, ReadingStopsBy, ReadsNone, RowRests, StayStopsBy}
use Rattle.lard_law_connections.proofs.StopsRuns.{each-stops}
use Rattle.lard_handoff_back.specs.declared.row.BackConn.TheVariants as back
use Rattle.lard_handoff_front.specs.declared.row.FrontConn.TheVariants as stage
use Rattle.lard_history.proofs.Lifting.{tale-own}
use Rattle.lard_history.proofs.Tales.{accepted-tale, served-tale, touched-tale, wrote-tale}
use Rattle.lard_law_view.specs.Agreement as one
use Rattle.lard_law_view.proofs.Acked.{ClientHolds, FrontHolds, heard_of, taken_by}
use Rattle.lard_law_view.proofs.Complete.{accepted-all, closes-ended, served-all, shut-ended}
use Rattle.lard_law_view.proofs.Holding.{ConnHolds}
use Rattle.lard_law_view.proofs.Story.{Story, aborted-story, ended-story, reset-story, shut-story}
use Rattle.lard_rules.specs.declared.places.Ending.TheVariants as ending

-- an endpoint with nothing that was read and is not answered, which has stopped
pub stopped-held : (w out : Stream) (vs : List Verdict) (b : ControlBlock) (count : ℕ) → HoldsItPending w out vs [] b count → HasStopped b → one.HoldsIt w out vs b count
stopped-held w out vs b count h stopped = record {
  counted = h.counted;
  not_reset = h.not_reset;
  sound = h.sound;
  speaks = h.speaks;
  out_is = h.out_is;
  hears = h.hears;
  has_read = read-alone w b vs h.has_read;
  stopped = stopped;
}

-- one that says nothing more and goes on may move
pub may-move : (w out : Stream) (vs us : List Verdict) (b : ControlBlock) (count : ℕ) → HoldsItPending w out vs us b count → is_clear b.send ≡ true → b.send.finished ≡ false → may_freeze b ≡ true
may-move w out vs us b count held clear open_ = by b.recv.discarding refl where
  by : (d : Bool) → b.recv.discarding ≡ d → may_freeze b ≡ true
  by true e = absurd (both_ways b.send.finished open_ (held.has_read.stops e).0)
  by false e = λ i. (clear i && not (open_ i)) && (not (e i) && not (held.not_reset i))

-- ---- one connection

-- what is so of it, in terms of its own story and tale
pub record IsDone (files : FilesAt) (x : Conn) : Type 0 where
  pub responses : (tale_at x).served ≡ length (answers files (tale_at x).wrote)
  pub all : (tale_at x).accepted ≡ answer_bytes files (tale_at x).wrote
  pub ends : closes_any (verdicts (tale_at x).wrote) ≡ true → (story_at x).ended ≡ true
  pub shut : (story_at x).shut ≡ true → (story_at x).ended ≡ true

module _ (files : FilesAt) (x : Conn) (truth : IsTruthful files x) (acts : AcksWhatWasTaken x) (leaving : ℕ → Bool) (stops : ReadingStopsBy leaving files x) (placed : IsPlaced x) (not_aborted : (story_at x).aborted ≡ false) (not_reset : (story_at x).reset ≡ false) (rests : ClientRests x) where
  abbrev s : Station
  s = rests.station

  abbrev l : Talk
  l = truth.talk

  abbrev pend : List Verdict
  pend = truth.pend

  o : IsOpen files x l pend s
  o = open-at files x s rests.there truth

  r : OpenActs x s
  r = subst (StationActs x) rests.there acts

  -- where it is, as a front end that has it or knows nothing of it would say
  seat-done : (f : Seat) → one.FrontAgrees l.w l.out l.vs (tale_at x).was_reset f → r.heard ≡ heard_of s.client.send.iss f → FrontHolds s.iss (taken_by s.client) (story_at x).aborted f → seat_armed f ≡ false → IsDone files x
  seat-done f front heard holds_at quiet = record {
    responses = served-all files x.c l.w l.out l.vs s f t y agrees holds told not_aborted not_reset rests.quiet quiet;
    all = accepted-all files x.c l.w l.out l.vs s f t y agrees holds told not_aborted not_reset rests.quiet quiet;
    ends = closes-ended files x.c l.w l.out l.vs s f t y agrees holds told not_aborted not_reset rests.quiet quiet;
    shut = shut-ended files x.c l.w l.out l.vs s f t y agrees holds told not_aborted not_reset rests.quiet quiet;
  } where
    t : Tale
    t = tale_at x

    y : Story
    y = story_at x

    agrees : Agrees files x.c l.w l.out l.vs s f t
    agrees = record {
      begins = o.begins;
      says = o.says;
      client = o.client;
      front = front;
      tale = record { numbers = o.tale.numbers; wrote = o.tale.wrote; accepted = o.tale.accepted_is; served = o.tale.served; served_bytes = o.tale.served_bytes; fin = o.tale.fin };
    }

    holds : ConnHolds s f y
    holds = record {
      client = subst (λ (n : ℕ). ClientHolds n y.aborted y.reset s.client) heard r.client;
      front = holds_at;
      ended = r.ended;
      shut = r.shut;
    }

    told : t.was_reset ≡ y.reset
    told = sym (reset-told x)

  -- an endpoint that rests, wherever it is
  rests-done : (b : ControlBlock) (count : ℕ) → one.HoldsIt l.w l.out l.vs b count → EndActs (bounds_of x s r.heard) (ending.Here b 0) → is_clear b.send ≡ true → IsDone files x
  rests-done b count held act clear = seat-done (AtFront b count) held act.0 act.1 (ap not clear)

  -- before the front end knows it
  pub nowhere-done : x.part.front.row ≡ None → IsDone files x
  nowhere-done none =
      let agrees : SeatAgrees l.w l.out l.vs pend l.was_reset x.c x.part None = subst (SeatAgrees l.w l.out l.vs pend l.was_reset x.c x.part) none o.seat in
      seat-done Nowhere (agrees.0, agrees.2) (subst (FrontActs (bounds_of x s r.heard)) none r.within.front) tt refl

  -- ---- at the front end

  held-done : HeldRests x → IsDone files x
  held-done h = rests-done h.block (front_rest x.part.front.rest).count (stopped-held l.w l.out l.vs h.block (front_rest x.part.front.rest).count agrees.holds stopped) act h.clear where
    b : ControlBlock
    b = h.block

    agrees : StageAgrees l.w l.out l.vs pend l.was_reset x.c x.part h.row.epoch.0 (stage.Held b)
    agrees = subst (StageAgrees l.w l.out l.vs pend l.was_reset x.c x.part h.row.epoch.0) h.at (subst (SeatAgrees l.w l.out l.vs pend l.was_reset x.c x.part) h.found o.seat)

    act : FrontStageActs (bounds_of x s r.heard) (stage.Held b)
    act = subst (FrontStageActs (bounds_of x s r.heard)) h.at (subst (FrontActs (bounds_of x s r.heard)) h.found r.within.front)

    stop : HeldStops files b
    stop = subst (FrontStageStops files) h.at (subst (FrontStops files) h.found stops.0)

    -- it would be placed
    stopped : HasStopped b
    stopped = ⊎_elim (λ (t : HasStopped b). t) (λ (t : IsHeldBack files b). absurd (both_ways (may_freeze b) t.2 (may-move l.w l.out l.vs [] b (front_rest x.part.front.rest).count agrees.holds h.clear t.1))) stop.1

  -- ---- at a node

  stay-done : (n : ℕ) → StayRests x n → IsDone files x
  stay-done n h = rests-done h.block h.stay.served (stopped-held l.w l.out l.vs h.block h.stay.served alone stopped.0) act h.clear where
    b : ControlBlock
    b = h.block

    back-agrees : BackConn → Type 0
    back-agrees st = RowAgrees l.w l.out l.vs pend l.was_reset x.c (x.part.nodes n) (Some (record { stage = st; epoch = h.row.epoch }))

    agrees : StayAgrees l.w l.out l.vs pend b (Some h.stay)
    agrees = subst (StayAgrees l.w l.out l.vs pend b) h.stays (subst back-agrees h.at (subst (RowAgrees l.w l.out l.vs pend l.was_reset x.c (x.part.nodes n)) h.found (has-it x l pend o.seat placed n h.row b h.found h.at).agrees))

    act : BackStageActs (bounds_of x s r.heard) (back.Here b)
    act = subst (BackStageActs (bounds_of x s r.heard)) h.at (subst (BackActs (bounds_of x s r.heard)) h.found (r.within.nodes n))

    row-stops : RowRests (leaving n) (Some h.row) (Some h.stay)
    row-stops = subst (RowRests (leaving n) (Some h.row)) h.stays (subst (λ (q : _). RowRests (leaving n) q (x.part.nodes n).stay) h.found (stops.1 n))

    stop : StayStopsBy (leaving n) b h.stay.batch
    stop = subst (λ (st : BackConn). BackStageRests (leaving n) st (Some h.stay)) h.at row-stops

    -- a node that leaves would give it back
    reads-none : (t : Bool) → b.send.finished ≡ false → ReadsNone t b → HasStopped b
    reads-none false open_ none = none
    reads-none true open_ none = absurd (both_ways (may_freeze b) none (may-move l.w l.out l.vs pend b h.stay.served agrees.1 h.clear open_))

    -- what comes is discarded behind the last of all
    nothing : (d : Bool) → b.recv.discarding ≡ d → (b.recv.discarding ≡ false → h.stay.batch ≡ []) → pend ≡ []
    nothing true e none = (agrees.1.has_read.stops e).2
    nothing false e none = agrees.0 ∙ ap (map (λ z. z.verdict)) (none e)

    stopped-by : (f : Bool) → b.send.finished ≡ f → HasStopped b × (pend ≡ [])
    stopped-by true e = let t = stop.closed e in (t.0, nothing b.recv.discarding refl t.1)
    stopped-by false e = ⊎_elim
        (λ (a : FirstIsAwaited h.stay.batch). absurd (h.ready a))
        (λ (t : ReadsNone (leaving n) b × (h.stay.batch ≡ [])). (reads-none (leaving n) e t.0, nothing b.recv.discarding refl (λ keeps. t.1))) (stop.open_ e)

    stopped : HasStopped b × (pend ≡ [])
    stopped = stopped-by b.send.finished refl

    alone : HoldsItPending l.w l.out l.vs [] b h.stay.served
    alone = subst (λ (us : List Verdict). HoldsItPending l.w l.out l.vs us b h.stay.served) stopped.1 agrees.1

  pub somewhere-done : RestsSomewhere x → IsDone files x
  somewhere-done h = ⊎_elim (λ (a : HeldRests x). held-done a) (λ (a : (n : ℕ) × StayRests x n). stay-done a.0 a.1) h

-- ---- every state

module _ (config : Config) (files : List (List ℕ × List ℕ)) (m : Machine) (c : ℕ) where
  abbrev J : List Rec
  J = m.journal

  -- what the connection sees is what the journal says
  pub complete : IsDone (file_at files) (conn m c) → IsComplete (file_at files) J c
  unfolding conn
  complete d =
      let wrote_is = wrote-tale J c ∙ ap (λ (u : Tale). u.wrote) (tale-own J c) in
      record {
        responses = served-tale J c ∙ ap (λ (u : Tale). u.served) (tale-own J c) ∙ d.responses ∙ ap (λ (bytes : List ℕ). length (answers (file_at files) bytes)) (sym wrote_is);
        all = accepted-tale J c ∙ ap (λ (u : Tale). u.accepted) (tale-own J c) ∙ d.all ∙ ap (answer_bytes (file_at files)) (sym wrote_is);
        ends = λ e. ended-story J c ∙ d.ends (ap (λ (l : List ℕ). closes_any (verdicts l)) (sym wrote_is) ∙ e);
        shut = λ e. ended-story J c ∙ d.shut (sym (shut-story J c) ∙ e);
      }

  pub calm-at : is_touched J c ≡ false → (tale_at (conn m c)).touched ≡ false
  unfolding conn
  calm-at calm = sym (touched-tale J c ∙ ap (λ (t : Tale). t.touched) (tale-own J c)) ∙ calm

  pub aborted-at : has_aborted J c ≡ false → (story_at (conn m c)).aborted ≡ false
  unfolding conn
  aborted-at e = sym (aborted-story J c) ∙ e

  pub reset-at : was_reset J c ≡ false → (story_at (conn m c)).reset ≡ false
  unfolding conn
  reset-at e = sym (reset-story J c) ∙ e

pub resting-complete : RestingIsComplete
resting-complete config files m checked r c calm not_aborted not_reset client rests =
    let here = calm-at config files m c calm in
    complete config files m c (somewhere-done (file_at files) (conn m c) (states-truthful config files checked m r c here) (connections-ack config files checked m r c here) (which_leave m) (each-stops config files m r c)
    (each-placed config files checked m r c) (aborted-at config files m c not_aborted) (reset-at config files m c not_reset) client rests)
