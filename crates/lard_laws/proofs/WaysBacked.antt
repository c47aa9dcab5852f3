-- Each content that is served was there before.
use Rattle.std.proofs.Common.{ap, ◌∙◌, append_assoc, ◌≡◌, ℕ, ◌+◌, ◌==◌, true, List, [], ◌∷◌, ◌++◌, Option, Some, None, Ok, refl, sym, subst, inl}
use Rattle.std.proofs.lemmas.Bool.{cond_both}
use Rattle.lard_law_view.specs.Prelude.{BackRow, Came, Completed, Content, ControlBlock, Ending, EndpointParts, Entry, Has, Node, NodeDeed, NodeEnv, NodeGets, NodePart, NodeTurn, Place, Progress, Rec, Row, Seen, Service, Stay, Turn, Via, Work, after_timer, again_sent, came_for, come_progress, decoded_message, gives_back, goes_on, gone, kept_after, node_begins, node_rule, on_segment, read_progress, reads_batch, serving, serving_ready_of, serving_settled, spoken, state_of, tagged, taken_sent, timed, turn_by, with_work, without, work_of}
use Rattle.lard_base.specs.declared.place.TimerKind.TheVariants as timer
use Rattle.lard_base.specs.declared.place.Via.TheVariants as via
use Rattle.lard_law_connections.proofs.AwaitsNodes.{HasServed, settled-served, spoken-served}
use Rattle.lard_law_connections.proofs.PlacesLoops.{settled-is}
use Rattle.lard_laws.specs.WaysBefore.{SawBehind, WasRead, WasThere}
use Rattle.lard_laws.proofs.WaysBacking.{AreBacked, GoesBacked, IsBacked, IsNoted, came-backed, goes-backed, read-backed, tagged-backed}
use Rattle.lard_history.proofs.Each.{Each}
use Rattle.lard_history.proofs.Seeing.{has-before}
use Rattle.lard_journal.specs.declared.rec.Rec.TheVariants as rec
use Rattle.lard_message.specs.declared.message.Body.TheVariants as body
use Rattle.lard_rules.specs.declared.stay.Progress.TheVariants as progress
use Rattle.lard_rules.proofs.NodeCases.{IsHereWith, IsOfItsEpoch, KeptByNode, Turned, node-keeps}
use Rattle.lard_rules.specs.Node.{Drops, Says, Does}
use Rattle.lard_rules.specs.declared.places.Ending.TheVariants as ending

-- ---- more is seen

behind-more : (past more : List Seen) (n c epoch : ℕ) (it : Seen) → SawBehind past n c epoch it → SawBehind (past ++ more) n c epoch it
behind-more past more n c epoch it h = record {
  before = h.before;
  later = h.later ++ more;
  split = ap (λ (l : List Seen). l ++ more) h.split ∙ append_assoc h.before h.later more;
  took = h.took;
  saw = has-before it h.later more h.saw;
}

pub there-more : (past later : List Seen) (n c r : ℕ) (way : Via) → WasThere past n c r way → WasThere (past ++ later) n c r way
there-more past later n c r via.Own h = tt
there-more past later n c r via.Cache h = tt
there-more past later n c r via.Disk h = record { epoch = h.epoch; path = h.path; read = behind-more past later n c h.epoch (Row (rec.Read n n c r h.path)) h.read }
there-more past later n c r (via.Node m) h = record {
  epoch = h.epoch;
  file = h.file;
  bytes = h.bytes;
  came = behind-more past later n c h.epoch (Came (record { from = Node m; to = Node n; bytes = h.bytes })) h.came;
  reads = h.reads;
}

-- ---- what a node keeps of connection c

module _ (n c : ℕ) where
  -- it took the connection in this epoch
  abbrev pub TookIn : List Seen → ℕ → Type 0
  TookIn past e = Has (Row (rec.Took (Node n) c (record { 0 = e }))) past

  abbrev pub RowTook : List Seen → Option BackRow → Type 0
  RowTook past None = Unit {0}
  RowTook past (Some row) = TookIn past row.epoch.0

  abbrev pub StayThere : List Seen → Option Stay → Type 0
  StayThere past None = Unit {0}
  StayThere past (Some s) = AreBacked (WasThere past n c) (s.served + 1) s.batch

  pub record PartThere (past : List Seen) (p : NodePart) : Type 0 where
    pub row : RowTook past p.row
    pub stay : StayThere past p.stay

  batch-more : (past later : List Seen) (r : ℕ) (es : List Entry) → AreBacked (WasThere past n c) r es → AreBacked (WasThere (past ++ later) n c) r es
  batch-more past later r [] h = tt
  batch-more past later r (e ∷ es) h = (one e.progress h.0, batch-more past later (r + 1) es h.1) where
    one : (p : Progress) → IsBacked (WasThere past n c) r p → IsBacked (WasThere (past ++ later) n c) r p
    one (progress.Ready way) k = there-more past later n c r way k
    one _ k = tt

  row-more : (past later : List Seen) (o : Option BackRow) → RowTook past o → RowTook (past ++ later) o
  row-more past later None h = tt
  row-more past later (Some row) h = has-before (Row (rec.Took (Node n) c (record { 0 = row.epoch.0 }))) past later h

  pub stay-more : (past later : List Seen) (o : Option Stay) → StayThere past o → StayThere (past ++ later) o
  stay-more past later None h = tt
  stay-more past later (Some s) h = batch-more past later (s.served + 1) s.batch h

  pub part-more : (past later : List Seen) (p : NodePart) → PartThere past p → PartThere (past ++ later) p
  part-more past later p h = record { row = row-more past later p.row h.row; stay = stay-more past later p.stay h.stay }

  -- ---- a turn

  -- What is kept and noted was there, once it was seen that the node took the connection.
  pub record TurnThere (past : List Seen) (p : NodePart) (t : NodeTurn) : Type 0 where
    pub stay : StayThere past p.stay
    pub row : (later : List Seen) → ((e : ℕ) → Has (rec.Took (Node n) c (record { 0 = e })) t.notes → TookIn (past ++ later) e) → RowTook (past ++ later) p.row
    pub notes : Each (IsNoted (WasThere past n c)) t.notes

  abbrev pub DeedThere : List Seen → NodeDeed → Type 0
  DeedThere past Drops = Unit {0}
  DeedThere past (Says ms) = Unit {0}
  DeedThere past (Does given) = TurnThere past given.0 given.1

module _ (env : NodeEnv) (past : List Seen) where
  abbrev n : ℕ
  n = env.n

  abbrev c : ℕ
  c = env.serve.c

  abbrev B : ℕ → Via → Type 0
  B r way = WasThere past n c r way

  abbrev Quiet : List Rec → Type 0
  Quiet ns = Unit {0}

  abbrev Goes : Work → Type 0
  Goes w = GoesBacked B Quiet (λ ns r h. tt) w

  -- the row of the turn is of an epoch in which it took the connection, as soon as that is seen
  abbrev TookBy : List Rec → Type 0
  TookBy notes = (later : List Seen) → ((e : ℕ) → Has (rec.Took (Node n) c (record { 0 = e })) notes → TookIn n c (past ++ later) e) → TookIn n c (past ++ later) env.epoch

  took-before : (notes : List Rec) → TookIn n c past env.epoch → TookBy notes
  took-before notes took = λ later k. has-before (Row (rec.Took (Node n) c (record { 0 = env.epoch }))) past later took

  ends-there : (p : NodePart) (before : List (Place × List ℕ)) (w : Work) (given : Ending × Turn) → HasServed w.service.count given.0 → given.1.notes ≡ w.service.notes → AreBacked B (w.service.count + 1) w.batch → Each (IsNoted B) w.service.notes → TookBy given.1.notes
      → DeedThere n c past (Does (kept_after env p w given.0, turn_by env before w given))
  ends-there p before w given served same batch notes took = record { stay = stay given.0 served; row = row given.0; notes = subst (Each (IsNoted B)) (sym same) notes } where
    stay : (e : Ending) → HasServed w.service.count e → StayThere n c past (kept_after env p w e).stay
    stay (ending.Here b count) is = subst (λ (i : ℕ). AreBacked B (i + 1) w.batch) (sym is) batch
    stay (ending.Over last) is = tt

    row : (e : Ending) → (later : List Seen) → ((e : ℕ) → Has (rec.Took (Node n) c (record { 0 = e })) given.1.notes → TookIn n c (past ++ later) e) → RowTook n c (past ++ later) (kept_after env p w e).row
    row (ending.Here b count) = took
    row (ending.Over last) = took

  works-there : (p : NodePart) (before : List (Place × List ℕ)) (w : Work) → Goes w → TookIn n c past env.epoch → DeedThere n c past (with_work env p before w)
  works-there p before w h took =
      ends-there p before w (serving_settled env.serve w.service) (settled-served env.serve w.service) (settled-is env.serve w.service).notes h.batch h.notes.0 (took-before (serving_settled env.serve w.service).1.notes took)

  -- it goes back, and nothing of it is kept
  back-there : (p : NodePart) (before : List (Place × List ℕ)) (w : Work) → Goes w → TookIn n c past env.epoch → DeedThere n c past (gives_back env p before w)
  back-there p before w h took = record { stay = tt; row = took-before w.service.notes took; notes = h.notes.0 }

  fresh : (b : ControlBlock) (s : Stay) → AreBacked B (s.served + 1) s.batch → Goes (work_of b s)
  fresh b s h = record { batch = h; notes = (tt, tt) }

  goes : (w : Work) → Goes w → Goes (goes_on env w)
  goes w h = goes-backed B Quiet (λ ns r h. tt) env (λ r. tt) (λ r. tt) w h

  -- a content came from there in this epoch
  pub record CameFrom (from r : ℕ) : Type 0 where
    pub file : List ℕ
    pub bytes : List ℕ
    pub came : TookIn n c past env.epoch → SawBehind past n c env.epoch (Came (record { from = Node from; to = Node n; bytes = bytes }))
    pub reads : decoded_message bytes ≡ Ok (record { c = c; epoch = record { 0 = env.epoch }; body = body.Content r file })

  -- and a job was read
  abbrev pub MayCome : NodeGets → Type 0
  MayCome (Content from r) = CameFrom from r
  MayCome (Completed r path) = TookIn n c past env.epoch → WasRead past n c r
  MayCome _ = Unit {0}

  module _ (p : NodePart) (held : PartThere n c past p) where
    took-here : (b : ControlBlock) (s : Stay) → IsHereWith env.epoch p b s → TookIn n c past env.epoch
    took-here b s at = subst (TookIn n c past) at.epoch_is (subst (RowTook n c past) at.found held.row)

    batch-here : (b : ControlBlock) (s : Stay) → IsHereWith env.epoch p b s → AreBacked B (s.served + 1) s.batch
    batch-here b s at = subst (StayThere n c past) at.stays held.stay

    abbrev IsThere : NodeDeed → Type 0
    IsThere d = DeedThere n c past d

    -- a turn of a stay that is here
    turns : (b : ControlBlock) (s : Stay) → IsHereWith env.epoch p b s → (q : NodePart) (w : Work) → Goes w → Turned IsThere env q [] (goes_on env w)
    turns b s at q w h =
        let took = took-here b s at in
        (λ rests. works-there q [] (goes_on env w) (goes w h) took, λ back. back-there q [] (goes_on env w) (goes w h) took)

    come-backed : (from r : ℕ) → CameFrom from r → TookIn n c past env.epoch → (x : Progress) → IsBacked B r x → IsBacked B r (come_progress from x)
    come-backed from r m took progress.Named k = tt
    come-backed from r m took progress.Reading k = tt
    come-backed from r m took (progress.Ready way) k = k
    come-backed from r m took (progress.Awaited node) k = cond_both (node == from) (progress.Ready (via.Node from)) (progress.Awaited node) (IsBacked B r)
        (λ t. record { epoch = env.epoch; file = m.file; bytes = m.bytes; came = m.came took; reads = m.reads }) (λ t. tt)

    job-backed : (r : ℕ) → WasRead past n c r → (x : Progress) → IsBacked B r x → IsBacked B r (read_progress x)
    job-backed r so progress.Named k = tt
    job-backed r so progress.Reading k = so
    job-backed r so (progress.Ready way) k = k
    job-backed r so (progress.Awaited node) k = tt

    Taking : List Rec → Type 0
    Taking ns = Has (rec.Took (Node n) c (record { 0 = env.epoch })) ns

    more : (ns : List Rec) (r : Rec) → Taking ns → Taking (ns ++ r ∷ [])
    unfolding Taking
    more ns r h = has-before (rec.Took (Node n) c (record { 0 = env.epoch })) ns (r ∷ []) h

    begins : (parts : EndpointParts) → IsThere (with_work env p (taken_sent env) (goes_on env (state_of (reads_batch env true (node_begins env parts)))))
    unfolding Taking
    begins parts =
        let w : Work = state_of (reads_batch env true (node_begins env parts)) in
        let all : GoesBacked B Taking more (goes_on env w) = goes-backed B Taking more env (λ r. tt) (λ r. tt) w (read-backed B Taking more env (λ r. tt) (λ r. tt) true (node_begins env parts) refl (record { batch = tt; notes = ((tt, tt), inl refl) })) in
        let s : Service = (goes_on env w).service in
        let same = (settled-is env.serve s).notes in
        ends-there p (taken_sent env) (goes_on env w) (serving_settled env.serve s) (settled-served env.serve s) same all.batch all.notes.0 (λ later k. k env.epoch (subst Taking (sym same) all.notes.1))

    gone-took : (later : List Seen) (o : Option BackRow) → RowTook n c past o → RowTook n c (past ++ later) (gone o)
    gone-took later None h = tt
    gone-took later (Some row) h = has-before (Row (rec.Took (Node n) c (record { 0 = row.epoch.0 }))) past later h

    rules_there : KeptByNode env p MayCome IsThere
    rules_there = record {
      drops = tt;
      hears = λ said b s m at. turns b s at p (work_of (on_segment b said).1 s) (fresh (on_segment b said).1 s (batch-here b s at));
      tags = λ number nodes b s m at asked same count. turns b s at (record p { kept = without timer.Ask 0 p.kept }) (tagged env nodes (work_of b s))
          (tagged-backed B Quiet (λ ns r h. tt) env (λ r. tt) (λ r. tt) nodes (work_of b s) (fresh b s (batch-here b s at)));
      comes = λ from r b s m at wanted. turns b s at (record p { fetches = without timer.Fetch r p.fetches }) (came_for (come_progress from) r (work_of b s))
          (came-backed B Quiet (λ ns r h. tt) (come_progress from) r (work_of b s) (come-backed from r m (took-here b s at)) (fresh b s (batch-here b s at)));
      reads = λ r path b s m at. turns b s at p (came_for read_progress r (work_of b s))
          (came-backed B Quiet (λ ns r h. tt) read_progress r (work_of b s) (job-backed r (m (took-here b s at))) (fresh b s (batch-here b s at)));
      begins = λ parts m new may. begins parts;
      takes_again = λ parts m again. tt;
      refuses = λ parts m is. record { stay = held.stay; row = λ later k. row-more n c past later p.row held.row; notes = tt };
      fires = λ b s m at.
          let v : Service = serving (after_timer b) s.served [] in
          let before = serving_ready_of env.serve (after_timer b) (timed b) in
          ends-there p (again_sent p) (work_of (after_timer b) s) (spoken env.serve v before) (spoken-served env.serve v before) refl (batch-here b s at) tt (took-before [] (took-here b s at));
      resends = λ m none. tt;
      ends = λ back m told was. record { stay = held.stay; row = λ later k. gone-took later p.row held.row; notes = tt };
      leaves = λ b s m at back. back-there p [] (work_of b s) (fresh b s (batch-here b s at)) (took-here b s at);
    }

    pub rule-there : (g : NodeGets) → IsOfItsEpoch env p g → MayCome g → IsThere (node_rule env p g)
    rule-there g at m = node-keeps env p MayCome IsThere rules_there g at m
