-- What the front end answers to nodes, and whom it admits, leaves a connection on its way.
use Rattle.std.proofs.Common.{◌≡◌, ◌≤◌, ◌<◌, ◌+◌, ◌^◌, ◌==◌, ◌&&◌, ℕ, Bool, true, false, List, [], ◌∷◌, ◌++◌, map, length, Option, Some, None, inl, inr, ⊎_elim, refl, sym, ap, ◌∙◌, subst, arith, append-nil, append_assoc, eqb-true, eq-eqb}
use Rattle.std.specs.List.{slice_get}
use Rattle.std.proofs.lemmas.Bool.{and_from, and_parts}
use Rattle.std.proofs.lemmas.List.{length-append, length-map, map-append, nil_from_length}
use Rattle.lard_law_view.specs.Prelude.{Ask, Conn, Did, Epoch, FilesAt, Final, Front, FrontConn, FrontDeed, FrontEnv, FrontPart, FrontRest, FrontRow, IsPrefix, LaterChoice, Move, Node, NodePart, Part, Rec, Seen, Stay, ack_sent, assigned_notes, assignments_taken, assigns, by_front, front_does, front_ends, front_rest, front_saying, is_row_at, is_with, named_paths, next_epoch, nothing_said, over_note, tag_sent, taken_by, tale_at}
use Rattle.lard_law_connections.specs.Places.{IsDecided, IsEarlyEpoch, Sits, StageSits, owning}
use Rattle.lard_law_connections.proofs.PlacesTurns.{IsPlaced, early-at}
use Rattle.lard_laws.specs.WaysState.{AskIs, FrontSaysWays, IsAtHome, IsAway, IsBy, LetterWays, SeatWays, StageWays, StayAsks, StayWays, given_to, marks_at}
use Rattle.lard_laws.specs.WaysUnder.{Assigned}
use Rattle.lard_laws.specs.Ways.{WayMarks, paths_assigned, paths_wanted}
use Rattle.lard_laws.proofs.WaysFronting.{front-quiet}
use Rattle.lard_laws.proofs.WaysGoods.{front-of, next-get}
use Rattle.lard_laws.proofs.WaysLetters.{Counts, carries-none}
use Rattle.lard_laws.proofs.WaysMarking.{Rightly, choosing, chosen, marked}
use Rattle.lard_laws.proofs.WaysMoments.{taken-front}
use Rattle.lard_laws.proofs.WaysMoving.{Keeps, decided-home, makes, stands-makes}
use Rattle.lard_laws.proofs.WaysSpelling.{ReadsTag, epoch-reads, tag-reads}
use Rattle.lard_rules.specs.Front.{Does, Drops, Says, message}
use Rattle.lard_handoff_front.specs.declared.row.FrontConn.TheVariants as stage
use Rattle.lard_message.specs.declared.kind.Kind.TheVariants as kind
use Rattle.lard_message.specs.declared.message.Body.TheVariants as body
use Rattle.lard_rules.proofs.FrontCases.{IsInStage, of-stage}

-- ---- what an Ask assigns

module _ (files : FilesAt) (c : ℕ) (ask : Ask) where
  assigned-marked : (m : WayMarks) (r : ℕ) (paths : List (List ℕ)) (choices : List LaterChoice) → m.fresh ≡ false
      → marked m (assigned_notes c ask r paths choices) ≡ record m { assigned = m.assigned ++ given_to paths (map (λ c. c.node) choices) }
  assigned-marked m r [] choices f = ap (λ (l : List Assigned). record m { assigned = l }) (sym (append-nil m.assigned))
  assigned-marked m r (path ∷ paths) [] f = ap (λ (l : List Assigned). record m { assigned = l }) (sym (append-nil m.assigned))
  assigned-marked m r (path ∷ paths) (choice ∷ choices) f =
      assigned-marked (record m { assigned = m.assigned ++ (path, choice.node) ∷ []; fresh = false }) (r + 1) paths choices refl
      ∙ (λ i. record m { assigned = append_assoc m.assigned ((path, choice.node) ∷ []) (given_to paths (map (λ c. c.node) choices)) i; fresh = sym f i })

  -- the paths behind those that were assigned are the next good ones
  assigned-rightly : (m : WayMarks) (r : ℕ) (paths : List (List ℕ)) (choices : List LaterChoice) → IsPrefix (paths_assigned m ++ paths) (paths_wanted files m) → Rightly files m (assigned_notes c ask r paths choices)
  assigned-rightly m r [] choices h = tt
  assigned-rightly m r (path ∷ paths) [] h = tt
  assigned-rightly m r (path ∷ paths) (choice ∷ choices) h =
      let next : WayMarks = record m { assigned = m.assigned ++ (path, choice.node) ∷ []; fresh = false } in (
        ap (slice_get (paths_wanted files m)) (sym (length-map m.assigned (λ a. a.0))) ∙ next-get (paths_assigned m) paths (paths_wanted files m) path h,
        assigned-rightly next (r + 1) paths choices (subst (λ (l : List (List ℕ)). IsPrefix l (paths_wanted files m)) (sym (append_assoc (paths_assigned m) (path ∷ []) paths) ∙ ap (λ (l : List (List ℕ)). l ++ paths) (sym (map-append (λ a. a.0) m.assigned ((path, choice.node) ∷ [])))) h),
      )

  over-marked : (m : WayMarks) (b : Bool) (rs : List Rec) → marked m (over_note c b ++ rs) ≡ marked m rs
  over-marked m true rs = refl
  over-marked m false rs = refl

  over-rightly : (m : WayMarks) (b : Bool) (rs : List Rec) → Rightly files m rs → Rightly files m (over_note c b ++ rs)
  over-rightly m true rs h = (tt, h)
  over-rightly m false rs h = h

-- as many paths as have nodes
given-front : (paths : List (List ℕ)) (nodes : List ℕ) → (rest : List (List ℕ)) × (paths ≡ map (λ a. a.0) (given_to paths nodes) ++ rest)
given-front [] nodes = ([], refl)
given-front (path ∷ paths) [] = (path ∷ paths, refl)
given-front (path ∷ paths) (node ∷ nodes) = let h = given-front paths nodes in (h.0, ap (λ (l : List (List ℕ)). path ∷ l) h.1)

-- ---- where it is

-- it is with one node, in one epoch
one-alone : (n e i f j d : ℕ) → (j == n && d == e) ≡ true → (j == i && d == f) ≡ true → (i ≡ n) × (f ≡ e)
one-alone n e i f j d a b =
    let s = and_parts (j == n) (d == e) a in
    let t = and_parts (j == i) (d == f) b in
    (sym (eqb-true j i t.0) ∙ eqb-true j n s.0, sym (eqb-true d f t.1) ∙ eqb-true d e s.1)

with-one : (n e i f : ℕ) (d : FrontConn) → is_with n e d ≡ true → is_with i f d ≡ true → (i ≡ n) × (f ≡ e)
with-one n e i f (stage.Offering j d) a b = one-alone n e i f j d.0 a b
with-one n e i f (stage.Moved j d) a b = one-alone n e i f j d.0 a b
with-one n e i f _ a b = absurd (let no : false ≡ true = a in cc)

at-one : (n e i f : ℕ) (o : Option FrontRow) → is_row_at n e o ≡ true → is_row_at i f o ≡ true → (i ≡ n) × (f ≡ e)
at-one n e i f None a b = absurd (let no : false ≡ true = a in cc)
at-one n e i f (Some row) a b = with-one n e i f row.stage a b

module _ (x : Conn) where
  -- where it counts the connection is at this node, in this epoch, which is the front end's
  pub record IsWith (n epoch : ℕ) : Type 0 where
    pub row : FrontRow
    pub found : x.part.front.row ≡ Some row
    pub away : (fs : FilesAt) (k : WayMarks) (q : Part) → q.front.row ≡ Some row → (StageWays fs k q row.epoch.0 row.stage → IsAway fs k (front_rest q.front.rest) n row.epoch.0 (q.nodes n)) × (IsAway fs k (front_rest q.front.rest) n row.epoch.0 (q.nodes n) → StageWays fs k q row.epoch.0 row.stage)
    pub same : row.epoch.0 ≡ epoch
    pub early : IsEarlyEpoch row.epoch.0

  pub with-of : (n epoch : ℕ) → IsPlaced x → is_row_at n epoch x.part.front.row ≡ true → IsWith n epoch
  with-of n epoch placed at = go x.part.front.row refl at placed.sits where
    on : (row : FrontRow) → x.part.front.row ≡ Some row → (d : FrontConn) → row.stage ≡ d → StageSits row.epoch.0 (owning (tale_at x)) x.part.nodes d → is_with n epoch d ≡ true → IsWith n epoch
    on row found (stage.Offering i f) at sits c =
        let t = and_parts (i == n) (f.0 == epoch) c in
        let mine : i ≡ n = eqb-true i n t.0 in
        let when : f.0 ≡ epoch = eqb-true f.0 epoch t.1 in
        record {
          row = row;
          found = found;
          away = λ fs k q is. (
            (λ h. subst (λ (j : ℕ). IsAway fs k (front_rest q.front.rest) j row.epoch.0 (q.nodes j)) mine (subst (StageWays fs k q row.epoch.0) at h)),
            (λ h. subst (StageWays fs k q row.epoch.0) (sym at) (subst (λ (j : ℕ). IsAway fs k (front_rest q.front.rest) j row.epoch.0 (q.nodes j)) (sym mine) h)),
          );
          same = sym sits.1 ∙ when;
          early = early-at x placed row found;
        }
    on row found (stage.Moved i f) at sits c =
        let t = and_parts (i == n) (f.0 == epoch) c in
        let mine : i ≡ n = eqb-true i n t.0 in
        let when : f.0 ≡ epoch = eqb-true f.0 epoch t.1 in
        record {
          row = row;
          found = found;
          away = λ fs k q is. (
            (λ h. subst (λ (j : ℕ). IsAway fs k (front_rest q.front.rest) j row.epoch.0 (q.nodes j)) mine (subst (StageWays fs k q row.epoch.0) at h)),
            (λ h. subst (StageWays fs k q row.epoch.0) (sym at) (subst (λ (j : ℕ). IsAway fs k (front_rest q.front.rest) j row.epoch.0 (q.nodes j)) (sym mine) h)),
          );
          same = sym sits.1 ∙ when;
          early = early-at x placed row found;
        }
    on row found (stage.Held b) at sits c = let z : false ≡ true = c in absurd (let f : ⊥ = cc in f)
    on row found (stage.Waiting b) at sits c = let z : false ≡ true = c in absurd (let f : ⊥ = cc in f)
    on row found stage.Lent at sits c = let z : false ≡ true = c in absurd (let f : ⊥ = cc in f)
    on row found (stage.Closed last) at sits c = let z : false ≡ true = c in absurd (let f : ⊥ = cc in f)

    go : (o : Option FrontRow) → x.part.front.row ≡ o → is_row_at n epoch o ≡ true → Sits (owning (tale_at x)) x.part.nodes x.part.front.row → IsWith n epoch
    go None found c sits = let z : false ≡ true = c in absurd (let f : ⊥ = cc in f)
    go (Some row) found c sits = on row found row.stage refl (subst (Sits (owning (tale_at x)) x.part.nodes) found sits).0 c

-- ---- the rules

module _ (env : FrontEnv) (x : Conn) (heads : List Seen) where
  abbrev files : FilesAt
  files = env.serve.files

  abbrev m : WayMarks
  m = marks_at x

  abbrev p : FrontPart
  p = x.part.front

  abbrev Goal : FrontDeed → Type 0
  Goal d = Keeps files x (front_does x heads d)

  pub drops-makes : Goal Drops
  drops-makes = stands-makes files x Front heads nothing_said tt (λ old. tt) tt

  -- ---- a Taken

  pub taken-moves : (row : FrontRow) (n : ℕ) (d : Epoch) (epoch : ℕ) → IsInStage p row (stage.Offering n d) → d.0 ≡ epoch → Goal (taken_by p epoch (Some row) (Some n))
  taken-moves row n d epoch at same help g =
      let v : Move = front_does x heads (taken_by p epoch (Some row) (Some n)) in
      let seat : IsAway files m (front_rest p.rest) n row.epoch.0 (x.part.nodes n) = of-stage (SeatWays files m x.part) p row (stage.Offering n d) at g.seat in
      let was : (i e : ℕ) → Counts v.part i e → Counts x.part i e = λ i e c.
      let t = and_parts (n == i) (epoch == e) c in
      subst (λ (o : Option FrontRow). is_row_at i e o ≡ true) (sym at.0) (subst (λ (f : FrontConn). is_with i e f ≡ true) (sym at.1) (and_from (n == i) (d.0 == e) t.0 (eq-eqb d.0 e (same ∙ eqb-true epoch e t.1)))) in
      makes files x v help g m tt refl g.paths seat
      (record {
        grows = help.owes.grows;
        ask = λ i e number ps c decided h. h (was i e c);
        tag = λ i e number nodes c by h. h (was i e c);
        offer = λ i e parts c said f. f (was i e c);
      })
      (λ old. tt) tt

  -- ---- an end

  pub ends-makes : (from epoch : ℕ) (last : Final) (row : FrontRow) → Goal (Does (front_ends env p from epoch last row (next_epoch row)))
  ends-makes from epoch last row help g =
      let v : Move = front_does x heads (Does (front_ends env p from epoch last row (next_epoch row))) in
      let n : WayMarks = record (choosing m (assignments_taken Front (chosen m))) { home = None } in
      makes files x v help g n (tt, (tt, tt)) refl (taken-front Front (chosen m) (paths_wanted files m) g.paths) tt
      (carries-none files m n x.part v.part help.owes.grows (λ i e c. let z : false ≡ true = c in cc))
      (λ old. (front-quiet files n v.part from env.serve.c epoch body.EndedAck (λ f. let z : kind.EndedAck ≡ kind.Offer = f in cc) (λ f. let z : kind.EndedAck ≡ kind.Tag = f in cc), tt)) tt

  -- told again
  pub acks-makes : (from epoch : ℕ) → Goal (Says (front_saying (ack_sent env from epoch)))
  acks-makes from epoch = stands-makes files x Front heads (by_front (front_saying (ack_sent env from epoch))) tt
      (λ old. (front-quiet files m x.part from env.serve.c epoch body.EndedAck (λ f. let z : kind.EndedAck ≡ kind.Offer = f in cc) (λ f. let z : kind.EndedAck ≡ kind.Tag = f in cc), tt)) tt

  -- ---- an Ask

  -- a Tag that goes out
  tag-says : (k : WayMarks) (q : Part) (n epoch number : ℕ) (nodes : List ℕ) → epoch < 2 ^ 16 → IsBy epoch q.front.row → (front_rest q.front.rest).asks ≡ number → nodes ≡ (front_rest q.front.rest).tag → LetterWays files k q (record { from = Front; to = Node n; bytes = message env.serve.c epoch (body.Tag number nodes) })
  tag-says k q n epoch number nodes small by asks tag = λ msg d.
      let read : ReadsTag number nodes msg.body = tag-reads env.serve.c epoch number nodes msg d in
      let same : msg.epoch.0 ≡ epoch = epoch-reads env.serve.c epoch (body.Tag number nodes) small msg d in
      let le = read.less in
      subst (FrontSaysWays files k q n msg.epoch.0) (sym read.is)
      (subst (λ (e : ℕ). IsBy e q.front.row) (sym same) by, λ c. (omega (arith, asks, le), λ e. tag))

  module _ (n epoch : ℕ) (ask : Ask) (rest : FrontRest) (there : p.rest ≡ Some rest) where
    now : WayMarks
    now = record m { assigned = m.assigned ++ given_to ask.paths (map (λ c. c.node) (env.later ask).choices) }

    rest_now : FrontRest
    rest_now = record rest { asks = ask.number; tag = map (λ c. c.node) (env.later ask).choices; assigned = rest.assigned + length (env.later ask).choices }

    module _ (next : ask.number ≡ rest.asks + 1) where
      stay-now : (home : ℕ) (o : Option Stay) → StayAsks files (rest.asks + 1) ask.paths o → StayWays files home m rest o → StayWays files home now rest_now o
      unfolding now rest_now
      stay-now home None a h = tt
      stay-now home (Some s) a h = record {
        gone = h.gone;
        under = h.under;
        walked = h.walked;
        lies = h.lies;
        asking = ⊎_elim
            (λ (b : (s.asks ≡ rest.asks) × (m.assigned ≡ (h.gone ++ h.under) ++ given_to (named_paths files s.batch) rest.tag)). absurd (let c = b.0 in let d = a.0 in omega (arith, c, d)))
            (λ (b : (s.asks ≡ rest.asks + 1) × (m.assigned ≡ h.gone ++ h.under) × (named_paths files s.batch ≡ [] → ⊥)).
            inl (a.0 ∙ sym next, (λ i. b.1 i ++ given_to (a.1 i) (map (λ c. c.node) (env.later ask).choices)))) h.asking;
      }

      away-now : (e : ℕ) (q : NodePart) → IsDecided e q.row → StayAsks files (rest.asks + 1) ask.paths q.stay → IsAway files m rest n e q → IsAway files now rest_now n e q
      unfolding now rest_now
      away-now e q decided asks h =
          let has : IsAtHome files m rest n q.stay = decided-home files m rest n e q decided h in
          let given : List Assigned = given_to ask.paths (map (λ c. c.node) (env.later ask).choices) in (
            h.0,
            inr (
              decided,
              record {
                some = λ none. has.some (nil_from_length m.assigned (omega (arith, length-append m.assigned given, ap length none)));
                fresh = has.fresh;
                stay = stay-now n q.stay asks has.stay;
              },
            ),
          )

      paths-now : IsPrefix (paths_assigned m ++ ask.paths) (paths_wanted files m) → IsPrefix (paths_assigned now) (paths_wanted files now)
      unfolding now
      paths-now h =
          let nodes : List ℕ = map (λ c. c.node) (env.later ask).choices in
          let given : List Assigned = given_to ask.paths nodes in
          let f = given-front ask.paths nodes in
          let all : paths_assigned m ++ ask.paths ≡ (paths_assigned m ++ map (λ a. a.0) given) ++ f.0 = ap (λ (l : List (List ℕ)). paths_assigned m ++ l) f.1 ∙ sym (append_assoc (paths_assigned m) (map (λ a. a.0) given) f.0) in
          subst (λ (l : List (List ℕ)). IsPrefix l (paths_wanted files m)) (sym (map-append (λ a. a.0) m.assigned given))
          (front-of (paths_assigned m ++ map (λ a. a.0) given) f.0 (paths_wanted files m) (subst (λ (l : List (List ℕ)). IsPrefix l (paths_wanted files m)) all h))

      pub assigns-makes : is_row_at n epoch p.row ≡ true → IsDecided epoch (x.part.nodes n).row → AskIs files m rest (x.part.nodes n).stay ask.number ask.paths → Goal (Does (assigns env p rest n epoch ask (env.later ask)))
      unfolding now rest_now
      assigns-makes at decided is_ask help g =
          let did : Did = assigns env p rest n epoch ask (env.later ask) in
          let v : Move = front_does x heads (Does did) in
          let w = with-of x n epoch help.placed at in
          let asks : (ask.number ≡ rest.asks + 1) × IsPrefix (paths_assigned m ++ ask.paths) (paths_wanted files m) × StayAsks files (rest.asks + 1) ask.paths (x.part.nodes n).stay =
          ⊎_elim (λ (a : ask.number ≤ rest.asks). absurd (omega (arith, next, a))) (λ (a : (ask.number ≡ rest.asks + 1) × IsPrefix (paths_assigned m ++ ask.paths) (paths_wanted files m) × StayAsks files (rest.asks + 1) ask.paths (x.part.nodes n).stay). a) is_ask in
          let r_is : front_rest p.rest ≡ rest = ap front_rest there in
          let seat : IsAway files m rest n w.row.epoch.0 (x.part.nodes n) = subst (λ (r : FrontRest). IsAway files m r n w.row.epoch.0 (x.part.nodes n)) r_is ((w.away files m x.part w.found).0 (subst (SeatWays files m x.part) w.found g.seat)) in
          let here : IsDecided w.row.epoch.0 (x.part.nodes n).row = subst (λ (e : ℕ). IsDecided e (x.part.nodes n).row) (sym w.same) decided in
          let has : IsAtHome files m rest n (x.part.nodes n).stay = decided-home files m rest n w.row.epoch.0 (x.part.nodes n) here seat in
          let c_is : (i e : ℕ) → Counts v.part i e → Counts x.part i e = λ i e c. c in
          makes files x v help g now
          (over-rightly files env.serve.c ask m (env.later ask).over (assigned_notes env.serve.c ask rest.assigned ask.paths (env.later ask).choices) (assigned-rightly files env.serve.c ask m rest.assigned ask.paths (env.later ask).choices asks.1))
          (over-marked files env.serve.c ask m (env.later ask).over (assigned_notes env.serve.c ask rest.assigned ask.paths (env.later ask).choices) ∙ assigned-marked files env.serve.c ask m rest.assigned ask.paths (env.later ask).choices has.fresh)
          (paths-now asks.1)
          (subst (SeatWays files now v.part) (sym w.found) ((w.away files now v.part w.found).1 (away-now w.row.epoch.0 (x.part.nodes n) here asks.2 seat)))
          (record {
            grows = help.owes.grows;
            ask = λ i e number ps c decided was. inl (⊎_elim
                (λ (a : number ≤ (front_rest p.rest).asks). let le : number ≤ rest.asks = subst (λ (r : FrontRest). number ≤ r.asks) r_is a in omega (arith, le, next))
                (λ (a : (number ≡ (front_rest p.rest).asks + 1) × IsPrefix (paths_assigned m ++ ps) (paths_wanted files m) × StayAsks files ((front_rest p.rest).asks + 1) ps (x.part.nodes i).stay).
                let e : number ≡ rest.asks + 1 = subst (λ (r : FrontRest). number ≡ r.asks + 1) r_is a.0 in omega (arith, e, next)) (was (c_is i e c)));
            tag = λ i e number nodes c by was.
                let le : number ≤ rest.asks = subst (λ (r : FrontRest). number ≤ r.asks) r_is (was (c_is i e c)).0 in
                (omega (arith, le, next), λ same. absurd (omega (arith, le, next, same)));
            offer = λ i e parts c said f.
                let o = at-one n epoch i e p.row at (c_is i e c) in
                inl (subst (λ (f : ℕ). IsDecided f (x.part.nodes i).row) (sym o.1) (subst (λ (j : ℕ). IsDecided epoch (x.part.nodes j).row) (sym o.0) decided));
          })
          (λ old. (tag-says now v.part n epoch ask.number (map (λ c. c.node) (env.later ask).choices) (let e = w.same in let early = w.early in omega (arith, e, early)) (subst (IsBy epoch) (sym w.found) (let e = w.same in omega (arith, e))) refl refl, tt)) tt

    -- the last Ask again
    pub again-makes : is_row_at n epoch p.row ≡ true → Goal (Says (front_saying (tag_sent env n epoch rest.asks rest.tag)))
    again-makes at help g =
        let w = with-of x n epoch help.placed at in
        let r_is : rest ≡ front_rest p.rest = sym (ap front_rest there) in
        stands-makes files x Front heads (by_front (front_saying (tag_sent env n epoch rest.asks rest.tag))) tt
        (λ old. (tag-says m x.part n epoch rest.asks rest.tag (let e = w.same in let early = w.early in omega (arith, e, early)) (subst (IsBy epoch) (sym w.found) (let e = w.same in omega (arith, e))) (ap (λ (r : FrontRest). r.asks) (sym r_is)) (ap (λ (r : FrontRest). r.tag) r_is), tt)) tt help g
