-- Wherever a connection is, the next of the requests that were acknowledged awaits something there.
use Rattle.std.proofs.Common.{◌≡◌, ◌⊎◌, ◌<◌, ◌≤◌, ◌+◌, ◌-◌, ◌==◌, not, cond, eqb-true, take_all, ℕ, Bool, true, false, List, [], ◌∷◌, map, length, take, Option, Some, None, inl, inr, ⊎_elim, refl, sym, ap, ◌∙◌, subst, arith}
use Rattle.std.proofs.lemmas.Bool.{and_parts, both_ways}
use Rattle.std.proofs.lemmas.List.{length-map}
use Rattle.std.specs.List.{find, list_any}
use Rattle.lard_law_view.specs.Prelude.{BackConn, BackRow, Client, Conn, ControlBlock, Entry, FilesAt, Front, FrontConn, FrontRest, FrontRow, Has, HasStopped, HasTarget, Kept, Node, NodePart, Place, Progress, Station, Stay, Tale, Talk, Verdict, and_path, answer, answers, back_endpoint, back_held, front_armed, front_rest, good_path, holds_kind, is_clear, is_under, is_unsaid, kind_rank, may_freeze, named_paths, next_by, node_armed, path_in, row_armed, stage_armed, tale_at, verdicts}
use Rattle.lard_answers.proofs.Growing.{answers-are, verdicts-nothing}
use Rattle.lard_base.specs.declared.place.TimerKind.TheVariants as timer
use Rattle.lard_handoff_back.specs.declared.row.BackConn.TheVariants as back
use Rattle.lard_handoff_front.specs.declared.row.FrontConn.TheVariants as stage
use Rattle.lard_law_view.proofs.Turned.{has-all}
use Rattle.lard_law_connections.specs.Awaits.{AwaitsWhatItAsked, BatchComes, FetchKept, IsToCome, RowComes, StageComes, StayComes}
use Rattle.lard_law_connections.specs.BytesAgreement.{AreOnTheWay, BackAgrees, ComesOn, FrontHolds, FrontWaits, HoldsItPending, IsEnding, IsOffering, IsOpen, IsReturning, IsTruthful, NodeAgrees, RowAgrees, SeatAgrees, StageAgrees, StayAgrees, StayComesOn}
use Rattle.lard_law_connections.specs.Places.{IsComing, IsDecided, IsPast, IsThere, Owning, Owns, Sits, StageSits, owning}
use Rattle.lard_law_connections.specs.Stops.{BackStageRests, FirstIsAwaited, FrontStageStops, FrontStops, HeldStops, IsHeldBack, ReadingStopsBy, ReadsNone, RowRests, StayStopsBy}
use Rattle.lard_law_connections.proofs.BytesClientMoves.{open-at}
use Rattle.lard_law_connections.proofs.PlacesTurns.{IsPlaced}
use Rattle.lard_law_view.proofs.Answered.{fewer-verdicts}
use Rattle.lard_laws.specs.Acks.{AcksWhatWasTaken, BackActs, BackStageActs, EndActs, FrontActs, FrontStageActs, OpenActs, StationActs, bounds_of, story_at}
use Rattle.lard_laws.specs.BackingRequests.{IsFor}
use Rattle.lard_laws.specs.Due.{AskIsOut, FetchIsOut}
use Rattle.lard_laws.specs.DueAnswers.{AwaitsAnswers, FetchKeptIsOut, HereIsOut, NamesAreOut, RowIsOut, StageIsOut, StayIsOut}
use Rattle.lard_laws.specs.EndedEnds.{EndsAreTrue}
use Rattle.lard_laws.specs.QuietStill.{IsWaiting}
use Rattle.lard_laws.specs.WaysState.{BeginsWithRequest, GoesItsWay, SeatWays, StageWays, WaitsForNext, marks_at}
use Rattle.lard_laws.proofs.BackingNext.{next-for}
use Rattle.lard_laws.proofs.DueReading.{all-served, held-for, read-for, some-path}
use Rattle.lard_laws.proofs.QuietClosed.{closed-done}
use Rattle.lard_laws.proofs.QuietComplete.{IsDone, may-move}
use Rattle.lard_law_connections.specs.Kept.{FrontRowKeeps, FrontStageKeeps, IsKeptByStage}
use Rattle.lard_law_connections.specs.KeptLaws.{AnyNode}
use Rattle.lard_rules.specs.declared.places.Ending.TheVariants as ending
use Rattle.lard_rules.specs.declared.stay.Next.TheVariants as next
use Rattle.lard_rules.specs.declared.stay.Progress.TheVariants as progress

-- what is found is one of the list, and as was looked for
pub found-is : (p : Kept → Bool) (ks : List Kept) (k : Kept) → find p ks ≡ Some k → Has k ks × (p k ≡ true)
found-is p [] k e = let no : None ≡ Some k = e in absurd cc
found-is p (j ∷ ks) k e = go (p j) refl e (λ f. found-is p ks k f) where
  go : (t : Bool) → p j ≡ t → cond t (Some j) (find p ks) ≡ Some k → (find p ks ≡ Some k → Has k ks × (p k ≡ true)) → Has k (j ∷ ks) × (p k ≡ true)
  go true is f later = let same : j ≡ k = cc in (inl same, ap p (sym same) ∙ is)
  go false is f later = let rest = later f in (inr rest.0, rest.1)

-- it is known for which path one waits
target-of : (o : Option FrontRest) → HasTarget o → (path : List ℕ) × ((front_rest o).target ≡ Some path)
target-of None h = absurd h
target-of (Some rest) h = go rest.target refl h where
  go : (t : Option (List ℕ)) → rest.target ≡ t → elim t as (λ t. Type 0) [ None ↦ ⊥ | Some path ↦ Unit {0} ] → (path : List ℕ) × (rest.target ≡ Some path)
  go None e h = absurd h
  go (Some path) e h = (path, e)

module _ (files : FilesAt) (x : Conn) where
  abbrev t : Tale
  t = tale_at x

  -- ---- what is awaited, in terms of what the places keep

  -- the node reads the file of the next request from its disk
  abbrev pub ReadsAt : ℕ → Type 0
  ReadsAt k = (row : BackRow) × (b : ControlBlock) × (st : Stay) × (e : Entry) × (es : List Entry)
      × ((x.part.nodes k).row ≡ Some row) × (row.stage ≡ back.Here b) × ((x.part.nodes k).stay ≡ Some st) × (st.batch ≡ e ∷ es) × (e.progress ≡ progress.Reading) × (st.served ≡ t.served)

  abbrev pub AwaitsTagAt : ℕ → List ℕ → Type 0
  AwaitsTagAt k path = (number : ℕ) × (others : List (List ℕ)) × AskIsOut x.seen k x.c t.epoch number (path ∷ others)

  abbrev pub AwaitsContentAt : ℕ → Type 0
  AwaitsContentAt k = (node : ℕ) × (path : List ℕ) × FetchIsOut x.seen k x.c t.epoch (t.served + 1) node path

  abbrev pub ComesLaterAt : ℕ → List ℕ → Type 0
  ComesLaterAt k path = AwaitsTagAt k path ⊎ (ReadsAt k ⊎ AwaitsContentAt k)

  -- the node leaves, and what its endpoint said is not acknowledged yet
  abbrev pub HoldsBackAt : (ℕ → Bool) → ℕ → Type 0
  HoldsBackAt leaving k = (leaving k ≡ true) × (node_armed (x.part.nodes k) timer.Tcp ≡ true)

  abbrev pub NextIsAwaitedBy : (ℕ → Bool) → Option Place → Type 0
  NextIsAwaitedBy leaving None = (front_armed x.part.front timer.Offer ≡ true) ⊎ ((k : ℕ) × (node_armed (x.part.nodes k) timer.Ended ≡ true))
  NextIsAwaitedBy leaving (Some Front) = (path : List ℕ) × IsFor files t.wrote (t.served + 1) path × ((front_armed x.part.front timer.Tcp ≡ true) ⊎ IsWaiting x)
  NextIsAwaitedBy leaving (Some (Node k)) = ((path : List ℕ) × IsFor files t.wrote (t.served + 1) path × ComesLaterAt k path) ⊎ HoldsBackAt leaving k
  NextIsAwaitedBy leaving (Some (Client d)) = ⊥

  module _ (truth : IsTruthful files x) (acts : AcksWhatWasTaken x) (leaving : ℕ → Bool) (stops : ReadingStopsBy leaving files x) (ends : EndsAreTrue files x) (awaits : AwaitsWhatItAsked files x) (kept : IsKeptByStage AnyNode files x)
      (outs : AwaitsAnswers files x) (ways : GoesItsWay files x) (placed : IsPlaced x) (not_aborted : (story_at x).aborted ≡ false) (not_reset : (story_at x).reset ≡ false) (s : Station) (there : x.part.station ≡ Some s) where
    abbrev NextIsAwaitedAt : Option Place → Type 0
    NextIsAwaitedAt = NextIsAwaitedBy leaving

    abbrev l : Talk
    l = truth.talk

    abbrev pend : List Verdict
    pend = truth.pend

    o : IsOpen files x l pend s
    o = open-at files x s there truth

    abbrev pub taken : OpenActs x s
    taken = subst (StationActs x) there acts

    module _ (n : ℕ) (few : n ≤ taken.heard) (more : t.served < length (verdicts (take (n - 1) t.wrote))) where
      -- more requests were acknowledged than answered
      left : length l.vs < length (verdicts (take (n - 1) l.w.bytes))
      left = let served = o.tale.served in let all = ap (λ (bytes : List ℕ). length (verdicts (take (n - 1) bytes))) o.tale.wrote in omega (arith, more, served, all)

      its-for : (count : ℕ) → count ≡ length l.vs → (path : List ℕ) → IsFor files l.w.bytes (count + 1) path → IsFor files t.wrote (t.served + 1) path
      its-for count same path f = subst (λ (q : List ℕ). IsFor files q (t.served + 1) path) (sym o.tale.wrote) (subst (λ (i : ℕ). IsFor files l.w.bytes (i + 1) path) (same ∙ sym o.tale.served) f)

      -- an endpoint whose reading has stopped has answered all
      never : (b : ControlBlock) (count : ℕ) → HoldsItPending l.w l.out l.vs [] b count → HasStopped b → EndActs (bounds_of x s taken.heard) (ending.Here b 0) → ⊥
      never b count h stopped act = all-served files l.w l.out l.vs b count o.says h stopped n (let heard = act.0 in omega (arith, few, heard)) left

      -- ---- at a node

      module _ (k : ℕ) where
        abbrev p : NodePart
        p = x.part.nodes k

        abbrev Comes : Type 0
        Comes = (path : List ℕ) × IsFor files t.wrote (t.served + 1) path × ComesLaterAt k path

        abbrev Goal : Type 0
        Goal = Comes ⊎ HoldsBackAt leaving k

        module _ (row : BackRow) (b : ControlBlock) (st : Stay) (found : p.row ≡ Some row) (at : row.stage ≡ back.Here b) (stays : p.stay ≡ Some st) (agrees : StayAgrees l.w l.out l.vs pend b (Some st)) (epoch : row.epoch.0 ≡ t.epoch) where
          act : EndActs (bounds_of x s taken.heard) (ending.Here b 0)
          act = subst (BackStageActs (bounds_of x s taken.heard)) at (subst (BackActs (bounds_of x s taken.heard)) found (taken.within.nodes k))

          stop : StayStopsBy (leaving k) b st.batch
          stop = subst (λ (d : BackConn). BackStageRests (leaving k) d (Some st)) at
              (subst (RowRests (leaving k) (Some row)) stays (subst (λ (q : Option BackRow). RowRests (leaving k) q p.stay) found (stops.1 k)))

          comes : BatchComes files p.kept p.fetches (st.served + 1) st.batch
          comes = subst (StayComes files p) stays (subst (StageComes files p) at (subst (RowComes files p) found (awaits k)))

          on-the-way : AreOnTheWay files st.batch
          on-the-way = subst (StayComesOn files) stays (o.ways k)

          out : StayIsOut files x.seen k x.c row.epoch.0 p.fetches st
          out = subst (HereIsOut files x.seen k x.c row.epoch.0 p.fetches) stays (subst (StageIsOut files x.seen k x.c row.epoch.0 p) at (subst (RowIsOut files x.seen k x.c p) found (outs k)))

          -- where nothing was read that is not answered it is held back
          none-read : st.batch ≡ [] → HoldsBackAt leaving k
          none-read none = by-end b.send.finished refl where
            alone : HoldsItPending l.w l.out l.vs [] b st.served
            alone = subst (λ (us : List Verdict). HoldsItPending l.w l.out l.vs us b st.served) (agrees.0 ∙ ap (map (λ z. z.verdict)) none) agrees.1

            goes-on : HasStopped b → ⊥
            goes-on stopped = never b st.served alone stopped act

            unsaid : (q : Bool) → is_clear b.send ≡ q → b.send.finished ≡ false → may_freeze b ≡ false → not q ≡ true
            unsaid true e open_ held = absurd (both_ways (may_freeze b) held (may-move l.w l.out l.vs [] b st.served alone e open_))
            unsaid false e open_ held = refl

            by-leaving : (f : Bool) → leaving k ≡ f → b.send.finished ≡ false → ReadsNone f b → HoldsBackAt leaving k
            by-leaving false e open_ stopped = absurd (goes-on stopped)
            by-leaving true e open_ held = (
              e,
              ap (λ (q : Option BackRow). is_unsaid (back_endpoint q)) found ∙ ap (λ (d : BackConn). is_unsaid (back_held d)) at ∙ unsaid (is_clear b.send) refl open_ held,
            )

            by-end : (f : Bool) → b.send.finished ≡ f → HoldsBackAt leaving k
            by-end true e = absurd (goes-on (stop.closed e).0)
            by-end false e = ⊎_elim (λ (a : FirstIsAwaited st.batch). absurd (subst FirstIsAwaited none a))
                (λ (a : ReadsNone (leaving k) b × (st.batch ≡ [])). by-leaving (leaving k) refl e a.0) (stop.open_ e)

          module _ (e : Entry) (es : List Entry) (is : st.batch ≡ e ∷ es) where
            abbrev Others : List Verdict
            Others = map (λ z. z.verdict) (e ∷ es)

            held : HoldsItPending l.w l.out l.vs Others b st.served
            held = subst (λ (us : List Verdict). HoldsItPending l.w l.out l.vs us b st.served) (agrees.0 ∙ ap (map (λ z. z.verdict)) is) agrees.1

            some : e ∷ es ≡ [] → ⊥
            some none = cc

            -- the first is not ready
            is-ready : next_by e.progress ≡ next.Serve → ⊥
            is-ready ready = by-end b.send.finished refl where
              discards : (d : Bool) → b.recv.discarding ≡ d → (b.recv.discarding ≡ false → st.batch ≡ []) → ⊥
              discards true f none = let no : Others ≡ [] = (held.has_read.stops f).2 in cc
              discards false f none = some (sym is ∙ none f)

              by-end : (f : Bool) → b.send.finished ≡ f → ⊥
              by-end true f = discards b.recv.discarding refl (stop.closed f).1
              by-end false f = ⊎_elim
                  (λ (a : FirstIsAwaited st.batch). let no : next.Serve ≡ next.Stop = sym ready ∙ subst FirstIsAwaited is a in cc)
                  (λ (a : ReadsNone (leaving k) b × (st.batch ≡ [])). some (sym is ∙ a.1)) (stop.open_ f)

            for-path : (path : List ℕ) → good_path files e.verdict ≡ Some path → IsFor files t.wrote (t.served + 1) path
            for-path path good = its-for st.served agrees.1.counted path (read-for files l.w l.out l.vs b st.served e es held path good)

            served-is : st.served ≡ t.served
            served-is = agrees.1.counted ∙ sym o.tale.served

            -- it has no node yet
            named : e.progress ≡ progress.Named → (path : List ℕ) → good_path files e.verdict ≡ Some path → AwaitsTagAt k path
            named first path good =
                let names : named_paths files st.batch ≡ path ∷ named_paths files es = ap (named_paths files) is ∙ ap (λ (q : Option (List ℕ)). and_path q (named_paths files es)) (ap (path_in files e) first ∙ good) in
                let asked : AskIsOut x.seen k x.c row.epoch.0 st.asks (path ∷ named_paths files es) = subst (NamesAreOut x.seen k x.c row.epoch.0 st.asks) names out.asks in
                (st.asks, named_paths files es, subst (λ (i : ℕ). AskIsOut x.seen k x.c i st.asks (path ∷ named_paths files es)) epoch asked)

            -- another node has its content
            fetched : (node : ℕ) → FetchKept (st.served + 1) node p.fetches → AwaitsContentAt k
            fetched node f =
                let has = found-is (is_under timer.Fetch (st.served + 1)) p.fetches f.0 f.1 in
                let kept_out : FetchKeptIsOut x.seen k x.c row.epoch.0 f.0 = has-all (FetchKeptIsOut x.seen k x.c row.epoch.0) f.0 p.fetches has.0 out.fetched in
                let number : f.0.r ≡ st.served + 1 = eqb-true f.0.r (st.served + 1) (and_parts (kind_rank f.0.kind == kind_rank timer.Fetch) (f.0.r == st.served + 1) has.1).1 in
                let r : kept_out.0 ≡ t.served + 1 = sym (ap (λ (q : Kept). q.r) kept_out.3) ∙ number ∙ ap (λ (i : ℕ). i + 1) served-is in
                (kept_out.1, kept_out.2, subst (λ (i : ℕ). FetchIsOut x.seen k x.c t.epoch i kept_out.1 kept_out.2) r (subst (λ (i : ℕ). FetchIsOut x.seen k x.c i kept_out.0 kept_out.1 kept_out.2) epoch kept_out.4))

            on-way : ComesOn files e.verdict e.progress
            on-way = (subst (AreOnTheWay files) is on-the-way).0

            by-progress : (q : Progress) → e.progress ≡ q → IsToCome files p.kept p.fetches (st.served + 1) e.verdict q → ComesOn files e.verdict q → Comes
            by-progress (progress.Ready way) first by way_on = absurd (is-ready (ap next_by first))
            by-progress progress.Named first by way_on = let good = some-path files e.verdict by.1 in (good.0, for-path good.0 good.1, inl (named first good.0 good.1))
            by-progress (progress.Awaited node) first by way_on = let good = some-path files e.verdict way_on in (good.0, for-path good.0 good.1, inr (inr (fetched node by)))
            by-progress progress.Reading first by way_on = let good = some-path files e.verdict way_on in (good.0, for-path good.0 good.1, inr (inl (row, b, st, e, es, found, at, stays, is, first, served-is)))

            first-awaits : Comes
            first-awaits = by-progress e.progress refl (subst (BatchComes files p.kept p.fetches (st.served + 1)) is comes).0 on-way

          batch-awaits : (es : List Entry) → st.batch ≡ es → Goal
          batch-awaits [] is = inr (none-read is)
          batch-awaits (e ∷ es) is = inl (first-awaits e es is)

        stay-awaits : (row : BackRow) (b : ControlBlock) → p.row ≡ Some row → row.stage ≡ back.Here b → (q : Option Stay) → p.stay ≡ q → StayAgrees l.w l.out l.vs pend b q → row.epoch.0 ≡ t.epoch → Goal
        stay-awaits row b found at None is agrees epoch = absurd agrees
        stay-awaits row b found at (Some st) is agrees epoch = batch-awaits row b st found at is agrees epoch st.batch refl

        stage-awaits : (e0 : ℕ) (row : BackRow) → p.row ≡ Some row → (d : BackConn) → row.stage ≡ d → BackAgrees l.w l.out l.vs pend l.was_reset x.c row.epoch.0 p d → (row.epoch.0 ≡ e0) × (t.epoch ≡ e0) × Owns k d t.owner → NextIsAwaitedAt t.owner
        stage-awaits e0 row found (back.Here b) at agrees sit = subst NextIsAwaitedAt (sym sit.2) (stay-awaits row b found at p.stay refl agrees (sit.0 ∙ sym sit.1))
        stage-awaits e0 row found back.Out at agrees sit = absurd agrees
        -- INTERIM: no connection goes back, so it ended there
        stage-awaits e0 row found back.Ended at agrees sit = subst NextIsAwaitedAt (sym sit.2) (⊎_elim
            (λ (ending : IsEnding l.w l.was_reset x.c row.epoch.0 p.kept). inr (k, ap (holds_kind timer.Ended) ending.kept_is))
            (λ (returning : IsReturning l.w l.out l.vs pend x.c row.epoch.0 p). absurd (let no : ◌≡◌ {A = Option ℕ} None (Some returning.count) = sym (placed.unreturned.ungiven k) ∙ returning.returned in cc)) agrees)
        stage-awaits e0 row found back.Gone at agrees sit = absurd agrees

        node-awaits : (e0 : ℕ) (q : Option BackRow) → p.row ≡ q → RowAgrees l.w l.out l.vs pend l.was_reset x.c p q → IsThere k e0 (owning t) q → NextIsAwaitedAt t.owner
        node-awaits e0 None found agrees sit = absurd agrees
        node-awaits e0 (Some row) found agrees sit = stage-awaits e0 row found row.stage refl agrees sit

        -- it is there, where the node decided
        decided-there : (e0 : ℕ) (q : Option BackRow) → IsDecided e0 q → IsComing e0 (owning t) q ⊎ IsThere k e0 (owning t) q → IsThere k e0 (owning t) q
        decided-there e0 None decided sit = absurd decided
        decided-there e0 (Some row) decided sit = ⊎_elim (λ (a : IsComing e0 (owning t) (Some row)). absurd (let past = a.2.0 in omega (arith, decided, past))) (λ (a : IsThere k e0 (owning t) (Some row)). a) sit

        -- it is on its way, where it did not
        past-coming : (e0 : ℕ) (q : Option BackRow) → IsPast e0 q → IsComing e0 (owning t) q ⊎ IsThere k e0 (owning t) q → t.owner ≡ None
        past-coming e0 None past sit = ⊎_elim (λ (a : IsComing e0 (owning t) None). a.0) (λ (a : IsThere k e0 (owning t) None). absurd a) sit
        past-coming e0 (Some row) past sit = ⊎_elim (λ (a : IsComing e0 (owning t) (Some row)). a.0) (λ (a : IsThere k e0 (owning t) (Some row)). absurd (let same = a.0 in let less = past.0 in omega (arith, same, less))) sit

      -- ---- at the front end

      module _ (row : FrontRow) (b : ControlBlock) (found : x.part.front.row ≡ Some row) where
        abbrev count : ℕ
        count = (front_rest x.part.front.rest).count

        -- it is held
        held-awaits : row.stage ≡ stage.Held b → FrontHolds l.w l.out l.vs pend b count → t.owner ≡ Some Front → NextIsAwaitedAt t.owner
        held-awaits at agrees mine = subst NextIsAwaitedAt (sym mine) (⊎_elim (λ (a : HasStopped b). absurd (never b count agrees.holds a act)) held-back stop.1) where
          act : EndActs (bounds_of x s taken.heard) (ending.Here b 0)
          act = subst (FrontStageActs (bounds_of x s taken.heard)) at (subst (FrontActs (bounds_of x s taken.heard)) found taken.within.front)

          stop : HeldStops files b
          stop = subst (FrontStageStops files) at (subst (FrontStops files) found stops.0)

          -- it would be placed
          unsaid : (q : Bool) → is_clear b.send ≡ q → IsHeldBack files b → not q ≡ true
          unsaid true e a = absurd (both_ways (may_freeze b) a.2 (may-move l.w l.out l.vs [] b count agrees.holds e a.1))
          unsaid false e a = refl

          held-back : IsHeldBack files b → NextIsAwaitedAt (Some Front)
          held-back a = (
            a.0.path,
            its-for count agrees.holds.counted a.0.path (held-for files l.w l.out l.vs b count agrees.holds a.1 a.0),
            inl (ap row_armed found ∙ ap stage_armed at ∙ unsaid (is_clear b.send) refl a),
          )

        -- it waits
        waiting-awaits : row.stage ≡ stage.Waiting b → FrontWaits l.w l.out l.vs pend b count → t.owner ≡ Some Front → NextIsAwaitedAt t.owner
        waiting-awaits at agrees mine =
            let keeps : FrontStageKeeps x.c x.part.front (stage.Waiting b) = subst (FrontStageKeeps x.c x.part.front) at (subst (FrontRowKeeps x.c x.part.front) found kept.front) in
            let target = target-of x.part.front.rest keeps.0 in
            let seat : StageWays files (marks_at x) x.part row.epoch.0 (stage.Waiting b) = subst (StageWays files (marks_at x) x.part row.epoch.0) at (subst (SeatWays files (marks_at x) x.part) found ways.seat) in
            let begins : BeginsWithRequest files b.recv.unread target.0 = subst (WaitsForNext files b.recv.unread) target.1 seat.1 in
            subst NextIsAwaitedAt (sym mine)
            (target.0, its-for count agrees.0.holds.counted target.0 (next-for files l.w l.out l.vs b count agrees.0.holds agrees.1 target.0 begins), inr (row, b, found, at))

      -- it ended, and had answered all
      all-done : IsDone files x → ⊥
      all-done d =
          let k : ℕ = (n - 1) + length t.wrote in
          let fewer = fewer-verdicts t.wrote (n - 1) k (omega arith) in
          let all : length (verdicts (take k t.wrote)) ≡ length (verdicts t.wrote) = ap (λ (bytes : List ℕ). length (verdicts bytes)) (take_all k t.wrote (omega arith)) in
          let answered : length (answers files t.wrote) ≡ length (verdicts t.wrote) = ap (λ (q : List (List ℕ)). length q) (answers-are files t.wrote) ∙ length-map (verdicts t.wrote) (answer files) in
          let done = d.responses in
          omega (arith, fewer, all, answered, done, more)

      stage-seated : (row : FrontRow) → x.part.front.row ≡ Some row → (d : FrontConn) → row.stage ≡ d → StageAgrees l.w l.out l.vs pend l.was_reset x.c x.part row.epoch.0 d → StageSits row.epoch.0 (owning t) x.part.nodes d → NextIsAwaitedAt t.owner
      stage-seated row found (stage.Held b) at agrees sit = held-awaits row b found at agrees (ap (λ (w : Owning). w.owner) sit.1.0)
      stage-seated row found (stage.Waiting b) at agrees sit = waiting-awaits row b found at agrees (ap (λ (w : Owning). w.owner) sit.1.0)
      stage-seated row found stage.Lent at agrees sit = absurd agrees
      stage-seated row found (stage.Offering k e) at agrees sit = ⊎_elim
          (λ (a : IsPast row.epoch.0 (x.part.nodes k).row × IsOffering l.w l.out l.vs pend x.c k row.epoch.0 x.part.front.kept).
          subst NextIsAwaitedAt (sym (past-coming k row.epoch.0 (x.part.nodes k).row a.0 sit.3)) (inl (ap (list_any (λ (q : Kept). kind_rank q.kind == kind_rank timer.Offer)) a.1.kept_is)))
          (λ (a : IsDecided row.epoch.0 (x.part.nodes k).row × NodeAgrees l.w l.out l.vs pend l.was_reset x.c (x.part.nodes k)).
          node-awaits k row.epoch.0 (x.part.nodes k).row refl a.1 (decided-there k row.epoch.0 (x.part.nodes k).row a.0 sit.3)) agrees
      stage-seated row found (stage.Moved k e) at agrees sit = node-awaits k row.epoch.0 (x.part.nodes k).row refl agrees.1 sit.3
      stage-seated row found (stage.Closed last) at agrees sit = absurd (all-done (closed-done files x truth acts ends not_aborted not_reset s there row last found at))

      seated : (q : Option FrontRow) → x.part.front.row ≡ q → SeatAgrees l.w l.out l.vs pend l.was_reset x.c x.part q → Sits (owning t) x.part.nodes q → NextIsAwaitedAt t.owner
      seated None found agrees sit =
          let heard : taken.heard ≡ 0 = subst (FrontActs (bounds_of x s taken.heard)) found taken.within.front in
          let none : n ≡ 0 = omega (arith, few, heard) in
          let nothing : length (verdicts (take (n - 1) t.wrote)) ≡ 0 = ap (λ (i : ℕ). length (verdicts (take (i - 1) t.wrote))) none ∙ ap (λ (vs : List Verdict). length vs) verdicts-nothing in
          absurd (omega (arith, more, nothing))
      seated (Some row) found agrees sit = stage-seated row found row.stage refl agrees sit.0

      -- wherever it is
      pub next-awaits : NextIsAwaitedAt t.owner
      next-awaits = seated x.part.front.row refl o.seat placed.sits
