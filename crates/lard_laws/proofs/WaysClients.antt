-- What a client does leaves its connection on its way.
use Rattle.std.proofs.Common.{◌≡◌, ◌≤◌, ◌^◌, ℕ, List, [], ◌∷◌, ◌++◌, map, length, Option, Some, None, inl, inr, ⊎_elim, refl, sym, ap, ◌∙◌, arith, append-nil, append_assoc}
use Rattle.std.proofs.lemmas.List.{length-append}
use Rattle.lard_law_view.specs.Prelude.{Client, ClientBlock, ClientRules, Conn, FilesAt, FrontConn, FrontRest, FrontRow, Move, NodePart, Part, Place, Rec, Seen, Setting, Station, Stay, Turn, client_does, client_rule, front_rest, letter, verdicts, with_station}
use Rattle.lard_law_view.proofs.EachClient.{client_seen, each-client}
use Rattle.lard_law_connections.specs.BytesAgreement.{ConnAgrees, IsTruthful}
use Rattle.lard_law_connections.specs.Places.{IsDecided, IsPast}
use Rattle.lard_law_view.proofs.Saying.{NotedAt}
use Rattle.lard_laws.specs.WaysState.{IsAtHome, IsAway, IsPlacedOnce, LetterWays, SeatWays, StageWays, StayWays, marks_at}
use Rattle.lard_laws.specs.Ways.{WayMarks, good_paths, paths_answered}
use Rattle.lard_laws.proofs.WaysGoods.{answered-grow, wanted-grow}
use Rattle.lard_laws.proofs.WaysLetters.{IsSame, assigned-same, carries-same}
use Rattle.lard_laws.proofs.WaysMarking.{Rightly, marked}
use Rattle.lard_laws.proofs.WaysMoving.{Keeps, makes}
use Rattle.lard_laws.proofs.WaysNodeRules.{Owes}
use Rattle.lard_handoff_front.specs.declared.row.FrontConn.TheVariants as stage
use Rattle.lard_history.proofs.Each.{Each}
use Rattle.lard_journal.specs.declared.rec.Rec.TheVariants as rec

-- ---- it writes on

abbrev more_of : WayMarks → List ℕ → WayMarks
more_of m z = record m { wrote = m.wrote ++ z }

record Writes (files : FilesAt) (m : WayMarks) (rs : List Rec) : Type 0 where
  more : List ℕ
  told : marked m rs ≡ more_of m more
  notes : Rightly files m rs

client-notes : (files : FilesAt) (e c : ℕ) (m : WayMarks) (rs : List Rec) → Each (NotedAt (Client e) c) rs → Writes files m rs
client-notes files e c m [] h = record { more = []; told = ap (λ (l : List ℕ). record m { wrote = l }) (sym (append-nil m.wrote)); notes = tt }
client-notes files e c m (rec.Wrote d bytes ∷ rs) h =
    let later = client-notes files e c (more_of m bytes) rs h.1 in
    record { more = bytes ++ later.more; told = later.told ∙ ap (λ (l : List ℕ). record m { wrote = l }) (append_assoc m.wrote bytes later.more); notes = (tt, later.notes) }
client-notes files e c m (rec.Accepted d bytes ∷ rs) h = let later = client-notes files e c m rs h.1 in record { more = later.more; told = later.told; notes = (tt, later.notes) }
client-notes files e c m (rec.Eof d ∷ rs) h = let later = client-notes files e c m rs h.1 in record { more = later.more; told = later.told; notes = (tt, later.notes) }
client-notes files e c m (rec.Aborted d ∷ rs) h = let later = client-notes files e c m rs h.1 in record { more = later.more; told = later.told; notes = (tt, later.notes) }
client-notes files e c m (_ ∷ rs) h = absurd h.0

-- ---- what was answered is as it was

module _ (files : FilesAt) (m : WayMarks) (z : List ℕ) (same : paths_answered files (more_of m z) ≡ paths_answered files m) (p : Part) where
  abbrev r : FrontRest
  r = front_rest p.front.rest

  stay-more : (home : ℕ) (o : Option Stay) → StayWays files home m r o → StayWays files home (more_of m z) r o
  stay-more home None h = tt
  stay-more home (Some s) h = record { gone = h.gone; under = h.under; walked = h.walked ∙ sym same; lies = h.lies; asking = h.asking }

  away-more : (home e : ℕ) (q : NodePart) → IsAway files m r home e q → IsAway files (more_of m z) r home e q
  away-more home e q h = (
    h.0,
    ⊎_elim
        (λ (a : IsPast e q.row × IsPlacedOnce files m r home).
        inl (a.0, record { before = a.1.before; path = a.1.path; assigned = a.1.assigned; fresh = a.1.fresh; answered = a.1.answered ∙ sym same; asks = a.1.asks }))
        (λ (a : IsDecided e q.row × IsAtHome files m r home q.stay). inr (a.0, record { some = a.1.some; fresh = a.1.fresh; stay = stay-more home q.stay a.1.stay })) h.1,
  )

  stage-more : (e : ℕ) (d : FrontConn) → StageWays files m p e d → StageWays files (more_of m z) p e d
  stage-more e (stage.Held b) h = (h.0 ∙ sym same, h.1)
  stage-more e (stage.Waiting b) h = ((h.0.0 ∙ sym same, h.0.1), h.1)
  stage-more e stage.Lent h = tt
  stage-more e (stage.Offering n d) h = away-more n e (p.nodes n) h
  stage-more e (stage.Moved n d) h = away-more n e (p.nodes n) h
  stage-more e (stage.Closed last) h = tt

  seat-more : (o : Option FrontRow) → SeatWays files m p o → SeatWays files (more_of m z) p o
  seat-more None h = (h.0 ∙ sym same, h.1)
  seat-more (Some row) h = stage-more row.epoch.0 row.stage h

-- no more is answered than was asked for
served-within : (files : FilesAt) (x : Conn) → IsTruthful files x → (marks_at x).served ≤ length (verdicts (marks_at x).wrote)
served-within files x h = go x.part.station h.agrees where
  go : (o : Option Station) → ConnAgrees files x h.talk h.pend o → (marks_at x).served ≤ length (verdicts (marks_at x).wrote)
  go None u = let zero_is = u.served in omega (arith, zero_is)
  go (Some s) o =
      let front = o.says.fronts [] in
      let all : verdicts (marks_at x).wrote ≡ h.talk.vs ++ front.0 = ap verdicts (o.tale.wrote ∙ sym (append-nil h.talk.w.bytes)) ∙ front.1 in
      let served = o.tale.served in
      omega (arith, served, ap length all, length-append h.talk.vs front.0)

-- ---- a move of the client

client-says : (files : FilesAt) (m : WayMarks) (p : Part) (c : ℕ) (ss : List (Place × List ℕ)) → Each (LetterWays files m p) (map (letter (Client c)) ss)
client-says files m p c [] = tt
client-says files m p c (s ∷ ss) = (tt, client-says files m p c ss)

abbrev client_move : Conn → List Seen → List Rec → List (Place × List ℕ) → Station → Move
client_move x heads notes segments s = record { place = Client x.c; heads = heads; said = record { notes = notes; segments = segments; gave = []; messages = [] }; part = with_station x.part s }

client-makes : (files : FilesAt) (x : Conn) (heads : List Seen) (notes : List Rec) (segments : List (Place × List ℕ)) (s : Station) → IsTruthful files x → Keeps files x (client_move x heads notes segments s)
client-makes files x heads notes segments s h help g =
    let m : WayMarks = marks_at x in
    let v : Move = client_move x heads notes segments s in
    let w : Writes files m notes = client-notes files x.c x.c m notes help.own.notes in
    let n : WayMarks = more_of m w.more in
    let same : paths_answered files n ≡ paths_answered files m = ap (good_paths files) (answered-grow m.served m.wrote w.more (served-within files x h)) in
    let is : IsSame files m n = record { assigned = refl; wanted = wanted-grow files m.wrote w.more } in
    makes files x v help g n w.notes w.told (assigned-same files m n is g.paths) (seat-more files m w.more same x.part x.part.front.row g.seat)
    (carries-same files m n is x.part v.part help.owes.grows refl refl (λ i e ps c d a. a))
    (λ old. none-behind n v.part segments (client-says files n v.part x.c segments)) tt where
      none-behind : (n : WayMarks) (q : Part) (ss : List (Place × List ℕ)) → Each (LetterWays files n q) (map (letter (Client x.c)) ss) → Each (LetterWays files n q) (map (letter (Client x.c)) ss ++ [])
      none-behind n q [] h = tt
      none-behind n q (y ∷ ss) h = (h.0, none-behind n q ss h.1)

module _ (k : Setting) (small : k.stream ≤ 2 ^ 30) where
  does : (x : Conn) (s : Station) (heads : List Seen) (given : ClientBlock × Turn) → Owes k small x (client_does x s heads given)
  does x s heads given h = client-makes k.files x heads given.1.notes given.1.segments (record { client = given.0; iss = s.iss }) h

  pub clients : ClientRules k (Owes k small)
  clients = each-client k (Owes k small) (record {
    opens = λ x isn iss wnd mss rule none h. client-makes k.files x _ _ _ _ h;
    does = λ x s g there comes. does x s (client_seen x.c g) (client_rule x.c s.client g);
  })
