-- Each rule keeps what is told of an end: it was so, in every run.
use Rattle.std.proofs.Common.{◌≡◌, ◌≤◌, ◌^◌, ℕ, Bool, false, List, [], ◌∷◌, Some, refl, sym, ap, ◌∙◌, subst}
use Rattle.std.specs.List.{fold}
use Rattle.lard_base.proofs.Usable.{usable}
use Rattle.lard_law_view.specs.Prelude.{Conn, FilesAt, Final, FrontRules, IsMachine, IsNodeEnv, IsUntouchedLaw, MayRestOn, Move, Node, NodeEnv, NodeRules, Place, Seen, Setting, Station, Stream, TurnSaid as SaidIn, Untouched, UntouchedRules, brought_said, content_said, file_at, front_does, grown, letters_of, node_does, nothing_said, packet_seen, seen_step, setting, stands, tale_at, tale_step, with_leaving}
use Rattle.lard_law_connections.specs.BytesAgreement.{IsOpen, IsTruthful}
use Rattle.lard_law_connections.proofs.BytesClientMoves.{open-at}
use Rattle.lard_law_connections.proofs.BytesRuns.{states-truthful}
use Rattle.lard_laws.specs.EndedEnds.{EndsAreTrue, IsTrueEnd, LetterEnds, TellsEnds, written_by}
use Rattle.lard_laws.specs.EndedLaws.{ConnectionsWereClosed}
use Rattle.lard_laws.proofs.EndedClients.{Keeps, clients, written-is}
use Rattle.lard_laws.proofs.EndedFronts as fronts_of
use Rattle.lard_laws.proofs.EndedNodes as nodes_of
use Rattle.lard_laws.proofs.EndedTurns.{IsUnwritten, PlaceEnds, notes-unwritten, place-keeps}
use Rattle.lard_law_connections.proofs.LimitsMoves.{Helps}
use Rattle.lard_law_connections.proofs.PlacesLaw.{owing}
use Rattle.lard_law_connections.proofs.PlacesRuns.{each-placed}
use Rattle.lard_law_connections.proofs.PlacesTurns.{IsPlaced, Owes}
use Rattle.lard_law_view.proofs.NodeHeads.{of-heads}
use Rattle.lard_law_connections.specs.Stops.{NodeRests, ReadingStopsBy}
use Rattle.lard_law_connections.proofs.StopsRuns.{each-stops}
use Rattle.lard_law_view.proofs.Carried.{carried-leaving}
use Rattle.lard_law_view.proofs.EachFront.{each-front, of-front}
use Rattle.lard_law_view.proofs.EachNode.{Aside, Answers, Queues, Brings, aside_said, aside_seen, each-node, node_goes}
use Rattle.lard_law_view.proofs.Fine.{IsFine, fine}
use Rattle.lard_law_view.proofs.Guarded.{untouched-both, untouched-law, untouched-weaker}
use Rattle.lard_law_view.proofs.Rows.{tale_before}
use Rattle.lard_rules.specs.Front as front
use Rattle.lard_history.proofs.Each.{Each}
use Rattle.lard_journal.specs.declared.rec.Rec.TheVariants as rec
use Rattle.lard_rules.specs.Node as node
use Rattle.lard_law_view.proofs.Deeds.{front-heads, front-station, node-heads, node-station}

-- ---- what a place's move leaves alone

front-machine : (x : Conn) (heads : List Seen) (d : front.FrontDeed) → IsMachine (front_does x heads d).place
front-machine x heads front.Drops = tt
front-machine x heads (front.Says turn) = tt
front-machine x heads (front.Does did) = tt

node-machine : (x : Conn) (n : ℕ) (heads : List Seen) (d : node.NodeDeed) → IsMachine (node_does x n heads d).place
node-machine x n heads node.Drops = tt
node-machine x n heads (node.Says messages) = tt
node-machine x n heads (node.Does given) = tt

-- what is seen before the notes
abbrev told_by : Conn → List Seen → List ℕ
told_by x heads = (fold (seen_step (tale_step x.c)) (tale_at x) heads).wrote

module _ (k : Setting) (small : k.stream ≤ 2 ^ 30) where
  -- what a place tells, by the streams of a connection whose client opened
  abbrev Ends : FilesAt → Conn → Move → Type 0
  Ends files x v = (s : Station) → x.part.station ≡ Some s → (h : IsTruthful files x) → (o : IsOpen files x h.talk h.pend s) → ReadingStopsBy k.leaving files x → TellsEnds (IsTrueEnd files h.talk.w s.iss) x → PlaceEnds x v (IsTrueEnd files h.talk.w s.iss)

  by-streams : (x : Conn) (v : Move) → Ends k.files x v → IsTruthful k.files x → ReadingStopsBy k.leaving k.files x → (s : Station) → x.part.station ≡ Some s → TellsEnds (IsTrueEnd k.files (written_by x s) s.iss) x → PlaceEnds x v (IsTrueEnd k.files (written_by x s) s.iss)
  by-streams x v ends h stops s there told =
      let o : IsOpen k.files x h.talk h.pend s = open-at k.files x s there h in
      let same : h.talk.w ≡ written_by x s = written-is k.files x s h.talk h.pend o in
      subst (λ (w : Stream). PlaceEnds x v (IsTrueEnd k.files w s.iss)) same (ends s there h o stops (subst (λ (w : Stream). TellsEnds (IsTrueEnd k.files w s.iss) x) (sym same) told))

  place-rule : (x : Conn) (v : Move) → (tale_before x v).wrote ≡ (tale_at x).wrote → v.part.station ≡ x.part.station → (Helps x v → Each IsUnwritten v.said.notes) → (Helps x v → Ends k.files x v) → Keeps k small x v
  place-rule x v heads same notes ends help h stops told = place-keeps x v help k.files same heads (notes help) (by-streams x v (ends help) h stops) told

  -- the files of the rule are the run's
  by-files : (x : Conn) (v : Move) (files : FilesAt) → files ≡ k.files → Ends files x v → Ends k.files x v
  by-files x v files same ends = subst (λ (f : FilesAt). Ends f x v) same ends

  -- ---- the front end

  fronts : FrontRules k (Keeps k small)
  fronts = each-front k (Keeps k small) (λ x env heads g is comes.
      let d : front.FrontDeed = front.front_rule env x.part.front g in
      let v : Move = front_does x heads d in
      place-rule x v (ap (told_by x) (front-heads x heads d) ∙ of-front x (λ (ss : List Seen). told_by x ss ≡ (tale_at x).wrote) (λ from bytes. refl) refl refl env heads g comes) (front-station x heads d)
      (λ help. notes-unwritten v.place x.c v.said.notes (front-machine x heads d) help.own.notes)
      (λ help. by-files x v env.serve.files is.files (λ t at h o stops told.
      fronts_of.rule-ends env (subst (λ (m : ℕ). m ≤ 2 ^ 30) (sym is.stream) small) x help.number help.placed t h.talk h.pend o stops.0 told heads g comes)))

  -- ---- the nodes

  node-within : (c n epoch : ℕ) (env : NodeEnv) → IsNodeEnv k c n epoch env → env.serve.stream ≤ 2 ^ 30
  node-within c n epoch env is = subst (λ (m : ℕ). m ≤ 2 ^ 30) (sym is.stream) small

  -- what says nothing of an end
  stands-rule : (x : Conn) (place : Place) (heads : List Seen) (said : SaidIn) → told_by x heads ≡ (tale_at x).wrote → Each IsUnwritten said.notes → ((P : Final → Type 0) → Each (LetterEnds P x.part.front.row) (letters_of (stands x place heads said)))
      → Keeps k small x (stands x place heads said)
  stands-rule x place heads said plain notes letters = place-rule x (stands x place heads said) plain refl (λ help. notes) (λ help t at h o stops told. record { front = told.front; letters = letters (IsTrueEnd k.files h.talk.w t.iss) })

  asides : (x : Conn) (n : ℕ) (a : Aside) → Keeps k small x (stands x (Node n) (aside_seen n a) (aside_said k n x.c a))
  asides x n (Answers from epoch r path file bytes) = stands-rule x (Node n) (packet_seen (Node from) (Node n) bytes) (content_said k n from x.c epoch r path) refl tt (λ P. (tt, tt))
  asides x n (Queues from epoch r path file bytes) = stands-rule x (Node n) (packet_seen (Node from) (Node n) bytes) (record nothing_said { notes = rec.Queued n from x.c r path ∷ [] }) refl (tt, tt) (λ P. tt)
  asides x n (Brings from epoch r path) = stands-rule x (Node n) [] (brought_said k n from x.c epoch r path) refl (tt, tt) (λ P. (tt, tt))

  nodes : NodeRules k (Keeps k small)
  nodes = each-node k (Keeps k small) (record {
    does = λ x n epoch env heads g is its comes.
        let v : Move = node_goes x n env heads g in
        let d : node.NodeDeed = node.node_rule env (x.part.nodes n) g in
        place-rule x v (ap (told_by x) (node-heads x n heads d)
        ∙ of-heads x n (λ (ss : List Seen). told_by x ss ≡ (tale_at x).wrote) (λ from bytes. refl) refl refl epoch heads g comes) (node-station x n heads d)
        (λ help. notes-unwritten v.place x.c v.said.notes (node-machine x n heads d) help.own.notes)
        (λ help. by-files x v env.serve.files is.files (λ t at h o stops told.
        nodes_of.rule-ends env (node-within x.c n epoch env is) x help.sound help.placed t h.talk h.pend o n (subst (λ (l : Bool). NodeRests l (x.part.nodes n)) (sym is.leaves) (stops.1 n)) told help.number epoch is.epoch_is
        heads g its.0 comes));
    aside = λ x n a may. asides x n a;
  })

  -- ---- the law

  keeps : UntouchedRules k (Keeps k small)
  keeps = record {
    client = clients k small;
    front = fronts;
    node = nodes;
    ignores = λ x from to bytes was. stands-rule x to (packet_seen from to bytes) nothing_said refl tt (λ P. tt);
  }

  -- where it sits, that it agrees, and why it is read no further
  abbrev pub Given : Conn → Type 0
  Given x = IsPlaced x × Untouched (IsTruthful k.files) x × ReadingStopsBy k.leaving k.files x

  abbrev Owed : Conn → Move → Type 0
  Owed x v = MayRestOn Given x → IsPlaced x → Owes x v

  abbrev Wanted : Conn → Move → Type 0
  Wanted x v = MayRestOn Given x → (tale_at x).touched ≡ false → EndsAreTrue k.files x → EndsAreTrue k.files (grown x v)

  abbrev All : Conn → Move → Type 0
  All x v = (IsFine x v × Owed x v) × Keeps k small x v

  wanted : (x : Conn) (v : Move) → All x v → Wanted x v
  wanted x v all may untouched told = all.1
      (record { number = may.number; sound = may.sound; placed = may.given.0; owes = all.0.1 may may.given.0; own = (all.0.0 may.number may.sound).0 })
      (may.given.1 untouched) may.given.2 told

  ended-law : IsUntouchedLaw k Given (EndsAreTrue k.files)
  ended-law = record {
    begins = λ c. tt;
    moves = untouched-weaker k All Wanted wanted
        (untouched-both k (λ x v. IsFine x v × Owed x v) (Keeps k small) (untouched-both k IsFine Owed (fine k).untouched (owing k Given).untouched) keeps);
  }

-- In every state that events lead to.
pub connections-were-closed : ConnectionsWereClosed
connections-were-closed config files checked =
    let k : Setting = setting config files in
    let small : k.stream ≤ 2 ^ 30 = (usable config checked).stream in
    carried-leaving config files (λ l. Given (with_leaving k l) small) (λ l. Untouched (EndsAreTrue (file_at files))) (λ m n e rule is x h. h)
    (λ l. untouched-law (with_leaving k l) (Given (with_leaving k l) small) (EndsAreTrue (file_at files)) (ended-law (with_leaving k l) small))
    (λ m r q. (each-placed config files checked m r q, states-truthful config files checked m r q, each-stops config files m r q))
