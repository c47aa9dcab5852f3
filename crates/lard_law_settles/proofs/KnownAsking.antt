-- Where the front end placed a connection, its client asked for something; and where an Offer comes new, the node keeps nothing of it.
use Rattle.std.proofs.Common.{◌≡◌, ◌≤◌, ℕ, true, false, List, [], ◌∷◌, ◌++◌, map, length, Option, Some, None, ⊎_elim, refl, sym, ap, ◌∙◌, subst, arith, length-append}
use Rattle.std.specs.List.{slice_get}
use Rattle.lard_law_view.specs.Prelude.{BackConn, BackRow, Conn, ControlBlock, FilesAt, FrontConn, FrontRest, FrontRow, HasTarget, IsPrefix, NodePart, Station, Talk, Verdict, front_rest, is_gone, offer_answer, tale_at, verdicts}
use Rattle.lard_bound.specs.Units.{Whole, whole_of}
use Rattle.lard_laws.proofs.BackingNext.{next-for}
use Rattle.lard_law_connections.specs.BytesAgreement.{IsOpen, SeatAgrees, StageAgrees}
use Rattle.lard_law_connections.specs.Kept.{FrontKeeps, FrontRowKeeps, FrontStageKeeps, NodeKeepsMessages, NodeRowKeeps, NodeStageKeeps}
use Rattle.lard_law_connections.specs.Places.{IsDecided, IsPast}
use Rattle.lard_laws.specs.WaysState.{BeginsWithRequest, GoesItsWay, IsAtHome, IsAway, IsPlacedOnce, WaitsForNext, SeatWays, StageWays, marks_at}
use Rattle.lard_laws.specs.WaysUnder.{Assigned}
use Rattle.lard_laws.specs.Ways.{good_paths, paths_wanted}
use Rattle.lard_handoff_back.specs.declared.row.BackConn.TheVariants as back
use Rattle.lard_handoff_back.specs.declared.table.Adopt.TheVariants.{New}
use Rattle.lard_handoff_front.specs.declared.row.FrontConn.TheVariants as stage
use Rattle.lard_law_settles.proofs.KnownKnowing.{IsPlacing}
use Rattle.lard_law_settles.proofs.KnownSitting.{new-parts}

-- ---- there is a request

some-wanted : (files : FilesAt) (path : List ℕ) (paths : List (List ℕ)) (vs : List Verdict) → IsPrefix (path ∷ paths) (good_paths files vs) → 1 ≤ length vs
some-wanted files path paths [] p = absurd (let bad : ◌≡◌ {A = List (List ℕ)} [] (path ∷ (paths ++ p.0)) = p.1 in cc)
some-wanted files path paths (v ∷ vs) p = omega arith

pub some-got : (vs : List Verdict) (i : ℕ) (v : Verdict) → slice_get vs i ≡ Some v → 1 ≤ length vs
some-got [] i v e = absurd (let bad : ◌≡◌ {A = Option Verdict} None (Some v) = e in cc)
some-got (u ∷ us) i v e = omega arith

-- the path with which a connection waits
has-target : (r : Option FrontRest) → HasTarget r → (path : List ℕ) × ((front_rest r).target ≡ Some path)
has-target None h = absurd h
has-target (Some rest) h = go rest.target refl h where
  go : (t : Option (List ℕ)) → rest.target ≡ t → HasTarget (Some (record rest { target = t })) → (path : List ℕ) × (rest.target ≡ Some path)
  go None at h = absurd h
  go (Some path) at h = (path, at)

module _ (files : FilesAt) (x : Conn) (st : Station) (k : Talk) (pend : List Verdict) (o : IsOpen files x k pend st) (way : GoesItsWay files x) (keeps : FrontKeeps x.c x.part.front) (w : Whole) (is : w ≡ whole_of files w.leaving k.w.bytes) where
  requests-are : w.requests ≡ length (verdicts k.w.bytes)
  requests-are = ap (λ (w : Whole). w.requests) is

  was-assigned : (chosen : List Assigned) → (marks_at x).assigned ≡ chosen → (chosen ≡ [] → ⊥) → 1 ≤ w.requests
  was-assigned [] e none = absurd (none refl)
  was-assigned (a ∷ others) e none =
      let p : IsPrefix (a.0 ∷ map (λ (b : Assigned). b.0) others) (paths_wanted files (marks_at x)) = subst (λ (chosen : List Assigned). IsPrefix (map (λ (b : Assigned). b.0) chosen) (paths_wanted files (marks_at x))) e way.paths in
      let some = some-wanted files a.0 (map (λ (b : Assigned). b.0) others) (verdicts (tale_at x).wrote) p in
      let same : length (verdicts (tale_at x).wrote) ≡ length (verdicts k.w.bytes) = ap (λ (bytes : List ℕ). length (verdicts bytes)) o.tale.wrote in
      let r = requests-are in
      omega (arith, some, same, r)

  module _ (row : FrontRow) (at : x.part.front.row ≡ Some row) (s : FrontConn) (eq : row.stage ≡ s) where
    ways : StageWays files (marks_at x) x.part row.epoch.0 s
    ways = subst (StageWays files (marks_at x) x.part row.epoch.0) eq (subst (SeatWays files (marks_at x) x.part) at way.seat)

    agrees : StageAgrees k.w k.out k.vs pend k.was_reset x.c x.part row.epoch.0 s
    agrees = subst (StageAgrees k.w k.out k.vs pend k.was_reset x.c x.part row.epoch.0) eq (subst (SeatAgrees k.w k.out k.vs pend k.was_reset x.c x.part) at o.seat)

    kept : FrontStageKeeps x.c x.part.front s
    kept = subst (FrontStageKeeps x.c x.part.front) eq (subst (FrontRowKeeps x.c x.part.front) at keeps)

  away-asks : (home e : ℕ) → IsAway files (marks_at x) (front_rest x.part.front.rest) home e (x.part.nodes home) → 1 ≤ w.requests
  away-asks home e h = was-assigned (marks_at x).assigned refl (⊎_elim
      (λ (p : IsPast e (x.part.nodes home).row × IsPlacedOnce files (marks_at x) (front_rest x.part.front.rest) home).
      λ none. omega (arith, length-append p.1.before ((p.1.path, home) ∷ []), ap length (sym p.1.assigned ∙ none)))
      (λ (d : IsDecided e (x.part.nodes home).row × IsAtHome files (marks_at x) (front_rest x.part.front.rest) home (x.part.nodes home).stay). d.1.some)
      h.1)

  waits-asks : (row : FrontRow) → x.part.front.row ≡ Some row → (b : ControlBlock) → row.stage ≡ stage.Waiting b → 1 ≤ w.requests
  waits-asks row at b eq =
      let target = has-target x.part.front.rest (kept row at (stage.Waiting b) eq).0 in
      let begins : BeginsWithRequest files b.recv.unread target.0 = subst (WaitsForNext files b.recv.unread) target.1 (ways row at (stage.Waiting b) eq).1 in
      let h = agrees row at (stage.Waiting b) eq in
      let next = next-for files k.w k.out k.vs b (front_rest x.part.front.rest).count h.0.holds h.1 target.0 begins in
      let some = some-got (verdicts k.w.bytes) next.before next.verdict next.is in
      let r = requests-are in
      omega (arith, some, r)

  pub placing-asks : (row : FrontRow) → x.part.front.row ≡ Some row → IsPlacing row.stage → 1 ≤ w.requests
  placing-asks row at placing = go row.stage refl placing where
    go : (s : FrontConn) → row.stage ≡ s → IsPlacing s → 1 ≤ w.requests
    go (stage.Held b) eq p = absurd p
    go (stage.Waiting b) eq p = waits-asks row at b eq
    go stage.Lent eq p = absurd p
    go (stage.Offering n d) eq p = away-asks n row.epoch.0 (ways row at (stage.Offering n d) eq)
    go (stage.Moved n d) eq p = away-asks n row.epoch.0 (ways row at (stage.Moved n d) eq)
    go (stage.Closed last) eq p = absurd p

-- ---- nothing is kept

gone-idle : (N : ℕ → Type 0) (files : FilesAt) (c e n : ℕ) (q : NodePart) (s : BackConn) → is_gone s ≡ true → NodeStageKeeps N files c e n q s → (q.kept ≡ []) × (q.fetches ≡ [])
gone-idle N files c e n q back.Gone t h = h
gone-idle N files c e n q (back.Here b) t h = absurd (let bad : false ≡ true = t in cc)
gone-idle N files c e n q back.Out t h = absurd h
gone-idle N files c e n q back.Ended t h = absurd (let bad : false ≡ true = t in cc)

pub new-idle : (N : ℕ → Type 0) (files : FilesAt) (c n e : ℕ) (q : NodePart) → NodeKeepsMessages N files c n q → offer_answer e q.row ≡ New → (q.kept ≡ []) × (q.fetches ≡ [])
new-idle N files c n e q keeps new = go q.row keeps new where
  go : (o : Option BackRow) → NodeRowKeeps N files c n q o → offer_answer e o ≡ New → (q.kept ≡ []) × (q.fetches ≡ [])
  go None h new = h
  go (Some row) h new = gone-idle N files c row.epoch.0 n q row.stage (new-parts e row new).1 h
