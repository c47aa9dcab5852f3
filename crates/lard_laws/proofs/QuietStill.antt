-- A connection of which no timer runs is complete, or waits, or awaits a disk.
use Rattle.std.proofs.Common.{◌≡◌, ◌⊎◌, ◌+◌, ◌==◌, ◌||◌, not, ℕ, Bool, true, false, cond, List, [], ◌∷◌, Option, Some, None, inl, inr, ⊎_elim, refl, sym, ap, ◌∙◌, subst}
use Rattle.std.proofs.lemmas.Bool.{and_parts, both_ways}
use Rattle.std.specs.List.{find, list_any}
use Rattle.lard_law_view.specs.Prelude.{BackConn, BackRow, Client, Conn, ControlBlock, Entry, FilesAt, Front, FrontConn, FrontRow, Kept, Node, NodePart, Progress, Stay, Talk, TimerKind, Verdict, back_endpoint, back_held, conn, file_at, front_armed, holds_kind, is_clear, is_client_armed, is_under, is_unsaid, kind_rank, next_by, node_armed, row_armed, stage_armed, station_armed, which_leave}
use Rattle.lard_base.specs.declared.place.TimerKind.TheVariants as timer
use Rattle.lard_laws.specs.Acks.{AcksWhatWasTaken, story_at}
use Rattle.lard_laws.proofs.AcksRuns.{connections-ack}
use Rattle.lard_law_connections.specs.Awaits.{AwaitsWhatItAsked, BatchComes, IsToCome, RowComes, StageComes, StayComes}
use Rattle.lard_law_connections.proofs.AwaitsRuns.{connections-await}
use Rattle.lard_law_connections.specs.BytesAgreement.{BackAgrees, IsEnding, IsOffering, IsReturning, IsTruthful, NodeAgrees, RowAgrees, SeatAgrees, StageAgrees, StayAgrees}
use Rattle.lard_law_connections.proofs.BytesClientMoves.{open-at}
use Rattle.lard_law_connections.proofs.BytesRuns.{states-truthful}
use Rattle.lard_laws.specs.EndedEnds.{EndsAreTrue}
use Rattle.lard_laws.proofs.EndedRuns.{connections-were-closed}
use Rattle.lard_law_connections.specs.Places.{IsDecided, IsPast}
use Rattle.lard_law_connections.proofs.PlacesRuns.{each-placed}
use Rattle.lard_law_connections.proofs.PlacesTurns.{IsPlaced}
use Rattle.lard_laws.specs.QuietRests.{ClientRests}
use Rattle.lard_laws.specs.QuietStill.{AwaitsADisk, IsWaiting, QuietIsCompleteOrElse}
use Rattle.lard_laws.proofs.QuietClosed.{closed-done}
use Rattle.lard_laws.proofs.QuietComplete.{IsDone, aborted-at, calm-at, complete, nowhere-done, reset-at, somewhere-done}
use Rattle.lard_laws.proofs.StepsTimers.{timers-kept}
use Rattle.lard_law_connections.specs.Stops.{FirstIsAwaited, ReadingStopsBy}
use Rattle.lard_law_connections.proofs.StopsRuns.{each-stops}
use Rattle.lard_handoff_back.specs.declared.row.BackConn.TheVariants as back
use Rattle.lard_handoff_front.specs.declared.row.FrontConn.TheVariants as stage
use Rattle.lard_rules.specs.declared.stay.Next.TheVariants as next
use Rattle.lard_rules.specs.declared.stay.Progress.TheVariants as progress

-- what is found of a kind is held of it
found-held : (a : TimerKind) (r : ℕ) (ks : List Kept) (k : Kept) → find (is_under a r) ks ≡ Some k → holds_kind a ks ≡ true
found-held a r [] k e = let no : None ≡ Some k = e in absurd cc
found-held a r (x ∷ xs) k e = go (is_under a r x) refl e (found-held a r xs k) where
  or-first : (p q : Bool) → p ≡ true → (p || q) ≡ true
  or-first p q f = ap (λ b. b || q) f

  or-second : (p q : Bool) → q ≡ true → (p || q) ≡ true
  or-second true q f = refl
  or-second false q f = f

  go : (t : Bool) → is_under a r x ≡ t → cond t (Some x) (find (is_under a r) xs) ≡ Some k → (find (is_under a r) xs ≡ Some k → holds_kind a xs ≡ true) → holds_kind a (x ∷ xs) ≡ true
  go true f g later = or-first (kind_rank x.kind == kind_rank a) (holds_kind a xs) (and_parts (kind_rank x.kind == kind_rank a) (x.r == r) f).0
  go false f g later = or-second (kind_rank x.kind == kind_rank a) (holds_kind a xs) (later g)

unarmed : (t : Bool) → not t ≡ false → t ≡ true
unarmed true e = refl
unarmed false e = absurd (both_ways true e refl)

module _ (files : FilesAt) (x : Conn) (truth : IsTruthful files x) (acts : AcksWhatWasTaken x) (leaving : ℕ → Bool) (stops : ReadingStopsBy leaving files x) (ends : EndsAreTrue files x) (awaits : AwaitsWhatItAsked files x) (placed : IsPlaced x) (not_aborted : (story_at x).aborted ≡ false) (not_reset : (story_at x).reset ≡ false)
    (client : ClientRests x) (front : (a : TimerKind) → front_armed x.part.front a ≡ false) (nodes : (n : ℕ) (a : TimerKind) → node_armed (x.part.nodes n) a ≡ false) where
  abbrev Left : Type 0
  Left = IsDone files x ⊎ (IsWaiting x ⊎ AwaitsADisk x)

  abbrev l : Talk
  l = truth.talk

  abbrev pend : List Verdict
  pend = truth.pend

  -- ---- at a node

  module _ (n : ℕ) where
    abbrev p : NodePart
    p = x.part.nodes n

    module _ (row : BackRow) (b : ControlBlock) (t : Stay) (found : p.row ≡ Some row) (at : row.stage ≡ back.Here b) (stays : p.stay ≡ Some t) where
      clear : is_clear b.send ≡ true
      clear = unarmed (is_clear b.send) (sym (ap (λ (q : Option BackRow). is_unsaid (back_endpoint q)) found ∙ ap (λ (st : BackConn). is_unsaid (back_held st)) at) ∙ nodes n timer.Tcp)

      comes : BatchComes files p.kept p.fetches (t.served + 1) t.batch
      comes = subst (StayComes files p) stays (subst (StageComes files p) at (subst (RowComes files p) found (awaits n)))

      rests : (FirstIsAwaited t.batch → ⊥) → Left
      rests ready = inl (somewhere-done files x truth acts leaving stops placed not_aborted not_reset client (inr (n, record { row = row; block = b; stay = t; found = found; at = at; stays = stays; clear = clear; ready = ready })))

      by-first : (e : Entry) (es : List Entry) → t.batch ≡ e ∷ es → (q : Progress) → e.progress ≡ q → IsToCome files p.kept p.fetches (t.served + 1) e.verdict q → Left
      by-first e es is (progress.Ready way) first by = rests (λ a. let no : next.Serve ≡ next.Stop = sym (ap next_by first) ∙ subst FirstIsAwaited is a in cc)
      by-first e es is progress.Named first by = absurd (both_ways (holds_kind timer.Ask p.kept) (nodes n timer.Ask) (found-held timer.Ask 0 p.kept by.0.0 by.0.1))
      by-first e es is (progress.Awaited node) first by = absurd (both_ways (holds_kind timer.Fetch p.fetches) (nodes n timer.Fetch) (found-held timer.Fetch (t.served + 1) p.fetches by.0 by.1))
      by-first e es is progress.Reading first by = inr (inr (n, row, b, t, e, es, found, at, stays, is, first))

      here-left : (es : List Entry) → t.batch ≡ es → Left
      here-left [] is = rests (λ a. subst FirstIsAwaited is a)
      here-left (e ∷ es) is = by-first e es is e.progress refl (subst (BatchComes files p.kept p.fetches (t.served + 1)) is comes).0

    stay-left : (row : BackRow) (b : ControlBlock) → p.row ≡ Some row → row.stage ≡ back.Here b → (q : Option Stay) → p.stay ≡ q → StayAgrees l.w l.out l.vs pend b q → Left
    stay-left row b found at None is agrees = absurd agrees
    stay-left row b found at (Some t) is agrees = here-left row b t found at is t.batch refl

    stage-left : (row : BackRow) → p.row ≡ Some row → (st : BackConn) → row.stage ≡ st → BackAgrees l.w l.out l.vs pend l.was_reset x.c row.epoch.0 p st → Left
    stage-left row found (back.Here b) at agrees = stay-left row b found at p.stay refl agrees
    stage-left row found back.Out at agrees = absurd agrees
    stage-left row found back.Ended at agrees = absurd (⊎_elim
        (λ (ending : IsEnding l.w l.was_reset x.c row.epoch.0 p.kept). both_ways (holds_kind timer.Ended p.kept) (nodes n timer.Ended) (ap (holds_kind timer.Ended) ending.kept_is))
        (λ (returning : IsReturning l.w l.out l.vs pend x.c row.epoch.0 p). both_ways (holds_kind timer.Give p.kept) (nodes n timer.Give) (ap (holds_kind timer.Give) returning.kept_is)) agrees)
    stage-left row found back.Gone at agrees = absurd agrees

    node-left : (q : Option BackRow) → p.row ≡ q → RowAgrees l.w l.out l.vs pend l.was_reset x.c p q → Left
    node-left None found agrees = absurd agrees
    node-left (Some row) found agrees = stage-left row found row.stage refl agrees

  -- ---- at the front end

  front-left : (row : FrontRow) → x.part.front.row ≡ Some row → (st : FrontConn) → row.stage ≡ st → StageAgrees l.w l.out l.vs pend l.was_reset x.c x.part row.epoch.0 st → Left
  front-left row found (stage.Held b) at agrees =
      let clear : is_clear b.send ≡ true = unarmed (is_clear b.send) (sym (ap row_armed found ∙ ap stage_armed at) ∙ front timer.Tcp) in
      inl (somewhere-done files x truth acts leaving stops placed not_aborted not_reset client (inl (record { row = row; block = b; found = found; at = at; clear = clear })))
  front-left row found (stage.Waiting b) at agrees = inr (inl (row, b, found, at))
  front-left row found stage.Lent at agrees = absurd agrees
  front-left row found (stage.Offering n e) at agrees = ⊎_elim
      (λ (a : IsPast row.epoch.0 (x.part.nodes n).row × IsOffering l.w l.out l.vs pend x.c n row.epoch.0 x.part.front.kept).
      absurd (both_ways (front_armed x.part.front timer.Offer) (front timer.Offer) (ap (list_any (λ (q : Kept). kind_rank q.kind == kind_rank timer.Offer)) a.1.kept_is)))
      (λ (a : IsDecided row.epoch.0 (x.part.nodes n).row × NodeAgrees l.w l.out l.vs pend l.was_reset x.c (x.part.nodes n)). node-left n (x.part.nodes n).row refl a.1) agrees
  front-left row found (stage.Moved n e) at agrees = node-left n (x.part.nodes n).row refl agrees.1
  front-left row found (stage.Closed last) at agrees = inl (closed-done files x truth acts ends not_aborted not_reset client.station client.there row last found at)

  pub still-left : (q : Option FrontRow) → x.part.front.row ≡ q → SeatAgrees l.w l.out l.vs pend l.was_reset x.c x.part q → Left
  still-left None found agrees = inl (nowhere-done files x truth acts leaving stops placed not_aborted not_reset client found)
  still-left (Some row) found agrees = front-left row found row.stage refl agrees

-- ---- every state

pub quiet-or-else : QuietIsCompleteOrElse
unfolding conn
quiet-or-else config files m checked r c s there calm not_aborted not_reset quiet =
    let x : Conn = conn m c in
    let here = calm-at config files m c calm in
    let truth : IsTruthful (file_at files) x = states-truthful config files checked m r c here in
    let kept = timers-kept config files m r c in
    let armed : is_client_armed s.client ≡ false = ap station_armed (sym there) ∙ sym (kept (Client c) refl timer.Tcp) ∙ quiet (Client c) timer.Tcp in
    let client : ClientRests x = record { station = s; there = there; quiet = armed } in
    ⊎_elim (λ (d : IsDone (file_at files) x). inl (complete config files m c d)) (λ rest. inr rest)
    (still-left (file_at files) x truth (connections-ack config files checked m r c here) (which_leave m) (each-stops config files m r c) (connections-were-closed config files checked m r c here) (connections-await config files m r c) (each-placed config files checked m r c)
    (aborted-at config files m c not_aborted) (reset-at config files m c not_reset) client
    (λ a. sym (kept Front tt a) ∙ quiet Front a) (λ n a. sym (kept (Node n) tt a) ∙ quiet (Node n) a) x.part.front.row refl (open-at (file_at files) x s there truth).seat)
