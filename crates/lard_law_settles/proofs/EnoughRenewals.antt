-- What is known of a connection, so that what is sent again is near: what is kept are messages, and go where they are awaited.
use Rattle.std.proofs.Common.{◌≡◌, ◌⊎◌, ◌<◌, ◌≤◌, ◌+◌, ◌^◌, ℕ, Bool, true, false, List, [], ◌∷◌, length, Option, Some, None, IfSome, refl, sym, ap, ◌∙◌, subst, arith, inl, inr, ⊎_elim, Ok}
use Rattle.std.specs.List.{AllByRecursion}
use Rattle.lard_law_view.specs.Prelude.{BackConn, BackRow, Config, Conn, ControlBlock, EndpointParts, Entry, FilesAt, Front, FrontConn, FrontPart, FrontRow, IsConnNumber, IsReached, Kept, Machine, Node, NodePart, NodeState, Part, Progress, Stay, and_path, ask_kept, back_endpoint, config_check, conn, ended_kept, file_at, front_rest, kept_at, named_path, named_paths, node_at, node_part, part_of, path_in, tale_at}
use Rattle.lard_base.specs.declared.place.TimerKind.TheVariants as kind
use Rattle.lard_bound.specs.Seats.{seat_by, seat_in, seat_of}
use Rattle.lard_law_connections.specs.Awaits.{NodeComes, RowComes, StayComes}
use Rattle.lard_law_connections.proofs.AwaitsRuns.{connections-await}
use Rattle.lard_law_connections.proofs.PastRuns.{each-end-is-of-its-stay}
use Rattle.lard_law_connections.specs.Past.{IsOfStay, RowTells, stage_whereabouts, whereabouts}
use Rattle.lard_law_connections.specs.Kept.{AsksFor, FrontRowKeeps, FrontStageKeeps, HereKeeps, IsFetchFromOther, NodeRowKeeps, NodeStageKeeps, TellsOver}
use Rattle.lard_law_connections.specs.KeptLaws.{AnyNode}
use Rattle.lard_law_connections.proofs.KeptRuns.{connections-are-kept}
use Rattle.lard_law_connections.specs.Places.{IsEarlyEpoch, IsRowEarly, IsThere, Owning, Owns, Sits, StageSits, owning}
use Rattle.lard_law_connections.proofs.PlacesRuns.{each-placed}
use Rattle.lard_law_connections.proofs.PlacesTurns.{IsPlaced}
use Rattle.lard_law_connections.proofs.PlacesWithNode.{with-node}
use Rattle.lard_laws.proofs.RecordsHolding.{Holds, NodeHolds}
use Rattle.lard_laws.proofs.RecordsLetters.{IsLetter}
use Rattle.lard_laws.proofs.RecordsNamed.{AreNamed, IsNamed, verdict-named}
use Rattle.lard_laws.proofs.RecordsNodes as records
use Rattle.lard_laws.proofs.RecordsNodes.{BothKeep, IsEarly, NodeKeeps}
use Rattle.lard_laws.proofs.RecordsServing.{count-few}
use Rattle.lard_laws.proofs.RecordsTurns.{AreHeld}
use Rattle.lard_law_settles.proofs.CourseRenewing.{BackKept, IsAsk, IsFetched, IsTold, IsWithNode, Known, Left, OfferKept, Renews, RowKept, StageKept, StayKept, ToldKept}
use Rattle.lard_law_settles.proofs.CourseTimingClients.{IsDecided}
use Rattle.lard_handoff_back.specs.declared.row.BackConn.TheVariants as back
use Rattle.lard_handoff_front.specs.declared.row.FrontConn.TheVariants as stage
use Rattle.lard_history.proofs.Each.{Each}
use Rattle.lard_law_view.proofs.ByteLists.{each-all}
use Rattle.lard_message.specs.declared.message.Body.TheVariants as body
use Rattle.lard_message.specs.Message.{IsPath}
use Rattle.lard_rules.specs.declared.stay.Progress.TheVariants as progress
use Rattle.lard_rules.specs.Node.{message}
use Rattle.lard_law_progress.proofs.Away.{IsWith, away-ended, seat-with}
use Rattle.lard_law_settles.proofs.EnoughAwaited.{AreBelow, all-awaited}
use Rattle.lard_law_settles.proofs.EnoughSpelt.{ask-may, ended-may, fetch-may, give-may, offer-may}

-- ---- where it is

module _ (x : Conn) (placed : IsPlaced x) where
  -- a node has it, where the front end gave it
  pub homes-are : (n e : ℕ) (b : ControlBlock) → (x.part.nodes n).row ≡ Some (record { stage = back.Here b; epoch = record { 0 = e } }) → IsWithNode x.part n e
  homes-are n e b row =
      let h = with-node x placed n e b row in
      ⊎_elim (λ (s : h.row.stage ≡ stage.Offering n (record { 0 = e })). record { told = false; row = h.row; front = h.found; with_ = s })
      (λ (s : h.row.stage ≡ stage.Moved n (record { 0 = e })). record { told = true; row = h.row; front = h.found; with_ = s }) h.stage

  -- a node that has it said so of this epoch
  pub decided-is : (row : FrontRow) (n e : ℕ) → x.part.front.row ≡ Some row → row.stage ≡ stage.Moved n (record { 0 = e }) → IsDecided (x.part.nodes n) e
  decided-is row n e at moved = there (x.part.nodes n).row refl (subst (λ (d : ℕ). IsThere n d w (x.part.nodes n).row) (sym sits.1) sits.3) where
    w : Owning
    w = owning (tale_at x)

    sits : StageSits row.epoch.0 w x.part.nodes (stage.Moved n (record { 0 = e }))
    sits = subst (StageSits row.epoch.0 w x.part.nodes) moved (subst (Sits w x.part.nodes) at placed.sits).0

    by : (r : BackRow) → (x.part.nodes n).row ≡ Some r → r.epoch.0 ≡ e → (c : BackConn) → r.stage ≡ c → Owns n c w.owner → IsDecided (x.part.nodes n) e
    by r is same back.Gone at_ owns = absurd owns
    by r is same (back.Here b) at_ owns = record { row = r; is = is; epoch = same; stays = λ gone. let no : back.Here b ≡ back.Gone = sym at_ ∙ gone in cc }
    by r is same back.Out at_ owns = absurd owns
    by r is same back.Ended at_ owns = record { row = r; is = is; epoch = same; stays = λ gone. let no : back.Ended ≡ back.Gone = sym at_ ∙ gone in cc }

    there : (o : Option BackRow) → (x.part.nodes n).row ≡ o → IsThere n e w o → IsDecided (x.part.nodes n) e
    there None is h = absurd h
    there (Some r) is h = by r is h.0 r.stage refl h.2

-- who tells an end is where the front end gave it, or the front end has the last numbers
module _ (p : Part) (n e : ℕ) (is : (p.nodes n).row ≡ Some (record { stage = back.Ended; epoch = record { 0 = e } }))
    (ungiven : (p.nodes n).beside.returned ≡ None) where
  given-to : (told : Bool) (m d : ℕ) (row : FrontRow) → p.front.row ≡ Some row → IsWith told m d row.stage → (m ≡ n) × (d ≡ e) → IsTold (seat_of p) n e
  given-to told m d row at with_ its =
      let with_it : IsWith told n e row.stage = subst (λ (i : ℕ). IsWith told i e row.stage) its.0 (subst (λ (i : ℕ). IsWith told m i row.stage) its.1 with_) in
      Left told (seat-with p n e told row at with_it ∙ away-ended told n e (front_rest p.front.rest).count (p.nodes n) is ungiven)

  at-stage : (row : FrontRow) → p.front.row ≡ Some row → (c : FrontConn) → row.stage ≡ c → IsOfStay n e (stage_whereabouts row.ended_by c) → IsTold (seat_of p) n e
  unfolding seat_of
  at-stage row at (stage.Held b) is_ h = absurd h
  at-stage row at (stage.Waiting b) is_ h = absurd h
  at-stage row at stage.Lent is_ h = absurd h
  at-stage row at (stage.Offering m d) is_ h = given-to false m d.0 row at is_ h
  at-stage row at (stage.Moved m d) is_ h = given-to true m d.0 row at is_ h
  at-stage row at (stage.Closed last) is_ h = Known last (ap (seat_by p.front p.nodes) at ∙ ap (seat_in p.front p.nodes) is_)

  ends-in : (o : Option FrontRow) → p.front.row ≡ o → IsOfStay n e (whereabouts o) → IsTold (seat_of p) n e
  ends-in None at h = absurd h
  ends-in (Some row) at h = at-stage row at row.stage refl h

  pub ends-are : RowTells n (p.nodes n).row (whereabouts p.front.row) → IsTold (seat_of p) n e
  ends-are h = ends-in p.front.row refl (subst (λ (o : Option BackRow). RowTells n o (whereabouts p.front.row)) is h)

-- ---- what the front end keeps

module _ (c : ℕ) (number : IsConnNumber c) where
  offered : (n e : ℕ) (ks : List Kept) → e < 2 ^ 16 → AreHeld Front ks → (parts : EndpointParts) → ks ≡ record { kind = kind.Offer; r = 0; to = Node n; bytes = message c e (body.Offer parts) } ∷ [] → OfferKept c ks (stage.Offering n (record { 0 = e }))
  offered n e ks early held parts is =
      let its : AreHeld Front (record { kind = kind.Offer; r = 0; to = Node n; bytes = message c e (body.Offer parts) } ∷ []) = subst (AreHeld Front) is held in
      let may = offer-may c e number early parts its.0.3 in
      (may.0, is ∙ (λ i. record { kind = kind.Offer; r = 0; to = Node n; bytes = may.1 i } ∷ []), may.2)

  front-by : (p : FrontPart) (d : ℕ) (w : Owning) (nodes : ℕ → NodePart) → AreHeld Front p.kept → (st : FrontConn) → StageSits d w nodes st → IsEarlyEpoch d → FrontStageKeeps c p st → OfferKept c p.kept st
  front-by p d w nodes held (stage.Held b) sits early h = h.1
  front-by p d w nodes held (stage.Waiting b) sits early h = h.1
  front-by p d w nodes held stage.Lent sits early h = absurd h
  front-by p d w nodes held (stage.Offering n e) sits early h =
      let same = sits.1 in
      offered n e.0 p.kept (omega (arith, early, same)) held h.1.0 h.1.1
  front-by p d w nodes held (stage.Moved n e) sits early h = h.1
  front-by p d w nodes held (stage.Closed last) sits early h = h

  front-in : (p : FrontPart) (w : Owning) (nodes : ℕ → NodePart) → AreHeld Front p.kept → (o : Option FrontRow) → Sits w nodes o → IsRowEarly o → FrontRowKeeps c p o → RowKept c p.kept o
  front-in p w nodes held None sits early h = h
  front-in p w nodes held (Some row) sits early h = front-by p row.epoch.0 w nodes held row.stage sits.0 early h

  pub front-kept : (p : FrontPart) (w : Owning) (nodes : ℕ → NodePart) → AreHeld Front p.kept → Sits w nodes p.row → IsRowEarly p.row → FrontRowKeeps c p p.row → RowKept c p.kept p.row
  front-kept p w nodes held = front-in p w nodes held p.row

  -- ---- what a node keeps

  module _ (files : FilesAt) (named : AreNamed files) (n e most : ℕ) (p : NodePart) (early : e < 2 ^ 16) (keeps : NodeKeeps n most p) where
    -- the paths of an Ask are paths of files
    path-named : (y : Entry) (a : Progress) → IfSome (path_in files y a) IsNamed
    path-named y progress.Named = verdict-named files named y.verdict
    path-named y _ = tt

    paths-are : (es : List Entry) → Each IsPath (named_paths files es)
    paths-are [] = tt
    paths-are (y ∷ es) = go (named_path files y) (path-named y y.progress) (paths-are es) where
      go : (o : Option (List ℕ)) → IfSome o IsNamed → Each IsPath (named_paths files es) → Each IsPath (and_path o (named_paths files es))
      go None h rest = rest
      go (Some path) h rest = (h.2, rest)

    asked : (s : Stay) → s.asks < 2 ^ 32 → (paths : List (List ℕ)) → named_paths files s.batch ≡ paths → AsksFor c e s.asks paths p.kept → (p.kept ≡ []) ⊎ IsAsk files c e s p.kept
    asked s low [] is h = inl h
    asked s low (q ∷ qs) is h =
        let paths : List (List ℕ) = named_paths files s.batch in
        let kept : p.kept ≡ ask_kept c e (record { number = s.asks; queue = h.0; size = h.1; paths = paths }) ∷ [] = h.2 ∙ (λ i. ask_kept c e (record { number = s.asks; queue = h.0; size = h.1; paths = sym is i }) ∷ []) in
        let held : AreHeld (Node n) (ask_kept c e (record { number = s.asks; queue = h.0; size = h.1; paths = paths }) ∷ []) = subst (AreHeld (Node n)) kept keeps.kept in
        let may = ask-may c e number early s.asks h.0 h.1 paths low (each-all IsPath paths (paths-are s.batch)) held.0.3 in
        inr (record { queue = may.0; size = h.1; is = kept ∙ (λ i. record { kind = kind.Ask; r = 0; to = Front; bytes = may.1 i } ∷ []); may = may.2 })

    fetched : (top : ℕ) → top ≤ 2 ^ 32 → (ks : List Kept) → AreBelow top ks → AreHeld (Node n) ks → AllByRecursion (IsFetchFromOther AnyNode files c e n) ks → AllByRecursion (IsFetched files c e) ks
    fetched top low [] below held h = tt
    fetched top low (k ∷ ks) below held h =
        let f = h.0 in
        let less : f.r < top = subst (λ (x : Kept). x.r < top) f.is below.0 in
        let its : IsLetter (Node n) (Node f.node, message c e (body.Fetch f.r f.path)) = subst (λ (x : Kept). IsLetter (Node n) (x.to, x.bytes)) f.is held.0 in (
          record { r = f.r; node = f.node; path = f.path; is = f.is; file = f.file; may = fetch-may c e number early f.r f.path (omega (arith, less, low)) its.3 },
          fetched top low ks below.1 held.1 h.1,
        )

    stayed : (o : Option Stay) → records.HereKeeps (back_endpoint p.row) o → StayComes files p o → HereKeeps AnyNode files c e n p o → ((s : Stay) → o ≡ Some s → (b : ControlBlock) × BothKeep b s) → StayKept files c e p o
    stayed None r comes h both = absurd h
    stayed (Some s) r comes h both =
        let y = both s refl in
        let count = count-few s.served y.0 y.1.0 in
        let batch = y.1.2 in
        let asks = y.1.3 in (
          asked s (omega (arith, count, batch, asks)) (named_paths files s.batch) refl h.asks,
          fetched (s.served + 1 + length s.batch) (omega (arith, count, batch)) p.fetches (all-awaited files p.kept p.fetches (s.served + 1) s.batch comes h.few) keeps.fetches h.fetches,
        )

    staged : (st : BackConn) → p.row ≡ Some (record { stage = st; epoch = record { 0 = e } }) → RowComes files p (Some (record { stage = st; epoch = record { 0 = e } })) → NodeStageKeeps AnyNode files c e n p st → StageKept files c e p st
    staged (back.Here b) is comes h =
        let all : (o : Option Stay) → p.stay ≡ o → (s : Stay) → o ≡ Some s → (d : ControlBlock) × BothKeep d s =
        λ o at s some. (b, subst (records.HereKeeps (Some b)) (at ∙ some) (subst (λ (r : Option BackRow). records.HereKeeps (back_endpoint r) p.stay) is keeps.here)) in
        stayed p.stay keeps.here comes h (all p.stay refl)
    staged back.Out is comes h = absurd h
    staged back.Ended is comes h = (told p.beside.returned h.0, h.1) where
      told : (o : Option ℕ) → TellsOver c e o p.kept → ToldKept c e p.kept o
      told None g =
          let held : AreHeld (Node n) (ended_kept c e g.0 g.1 ∷ []) = subst (AreHeld (Node n)) g.2 keeps.kept in
          let may = ended-may c e number early g.0 g.1 held.0.3 in
          record { last = may.0; count = may.1; is = g.2 ∙ (λ i. record { kind = kind.Ended; r = 0; to = Front; bytes = may.2 i } ∷ []); may = may.3 }
      told (Some served) g =
          let held : AreHeld (Node n) (record { kind = kind.Give; r = 0; to = Front; bytes = message c e (body.Give g.0) } ∷ []) = subst (AreHeld (Node n)) g.1 keeps.kept in
          let may = give-may c e number early g.0 held.0.3 in
          record { parts = may.0; is = g.1 ∙ (λ i. record { kind = kind.Give; r = 0; to = Front; bytes = may.1 i } ∷ []); may = may.2 }
    staged back.Gone is comes h = h

  pub node-kept : (files : FilesAt) → AreNamed files → (n most : ℕ) (p : NodePart) → NodeKeeps n most p → NodeComes files p → NodeRowKeeps AnyNode files c n p p.row → BackKept files c p p.row
  node-kept files named n most p keeps comes h = go p.row refl keeps.early comes h where
    go : (o : Option BackRow) → p.row ≡ o → IsEarly o → RowComes files p o → NodeRowKeeps AnyNode files c n p o → BackKept files c p o
    go None is early comes_ k = k
    go (Some row) is early comes_ k = staged files named n row.epoch.0 most p early keeps row.stage is comes_ k

-- ---- in every state

module _ (config : Config) (files : List (List ℕ × List ℕ)) (checked : config_check config ≡ Ok tt) (m : Machine) (reached : IsReached config files m) (holds : Holds m) (named : AreNamed (file_at files)) (q : ℕ) (number : IsConnNumber q) where
  front-is : RowKept q (conn m q).part.front.kept (conn m q).part.front.row
  unfolding conn part_of
  front-is = front-kept q number (conn m q).part.front (owning (tale_at (conn m q))) (conn m q).part.nodes (holds.parts.front q).kept (each-placed config files checked m reached q).sits (each-placed config files checked m reached q).early (connections-are-kept config files m reached q).front

  node-in : (n : ℕ) (o : Option NodeState) → IfSome o (NodeHolds (length m.net) n) → NodeComes (file_at files) (kept_at q o) → NodeRowKeeps AnyNode (file_at files) q n (kept_at q o) (kept_at q o).row → BackKept (file_at files) q (kept_at q o) (kept_at q o).row
  node-in n None h comes kept = kept
  node-in n (Some s) h comes kept = node-kept q number (file_at files) named n (length m.net) (node_part s q) (h.1.each q) comes kept

  nodes-are : (n : ℕ) → BackKept (file_at files) q ((conn m q).part.nodes n) ((conn m q).part.nodes n).row
  unfolding conn part_of
  nodes-are n = node-in n (node_at m.nodes n) (holds.parts.nodes n) (connections-await config files m reached q n) ((connections-are-kept config files m reached q).nodes n)

  conn-is : (conn m q).c ≡ q
  unfolding conn part_of
  conn-is = refl

  pub renews-are : Renews (file_at files) (conn m q)
  renews-are = record {
    front = subst (λ (c : ℕ). RowKept c (conn m q).part.front.kept (conn m q).part.front.row) (sym conn-is) front-is;
    nodes = λ n. subst (λ (c : ℕ). BackKept (file_at files) c ((conn m q).part.nodes n) ((conn m q).part.nodes n).row) (sym conn-is) (nodes-are n);
    homes = homes-are (conn m q) (each-placed config files checked m reached q);
    ends = λ n e is none. ends-are (conn m q).part n e is none (each-end-is-of-its-stay config files checked m reached q n);
  }

  -- a connection that a node has, as the front end knows
  pub decided-are : (row : FrontRow) (n e : ℕ) → (conn m q).part.front.row ≡ Some row → row.stage ≡ stage.Moved n (record { 0 = e }) → IsDecided ((conn m q).part.nodes n) e
  decided-are = decided-is (conn m q) (each-placed config files checked m reached q)
