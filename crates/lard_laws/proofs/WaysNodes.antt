-- Each rule of a node leaves a connection on its way.
use Rattle.std.proofs.Common.{◌≡◌, ◌≤◌, ◌<◌, ◌^◌, ℕ, List, [], ◌++◌, length, Some, sym, ap, ◌∙◌, subst, arith}
use Rattle.lard_law_view.specs.Prelude.{Conn, ControlBlock, FilesAt, Front, FrontRest, FrontRow, IsNodeEnv, IsWord, Node, NodeDeed, NodeEnv, NodePart, NodeTurn, Rec, Said, Seen, Setting, SpellsMessage, Stay, Talk, Was, after_timer, came_for, come_progress, front_rest, gives_back, goes_on, kept_back, named_paths, named_records, node_does, node_fired, node_rests, on_segment, read_progress, serving, serving_ready_of, spoken, tagged, timed, turn_back, without, work_of}
use Rattle.lard_base.specs.declared.place.TimerKind.TheVariants as timer
use Rattle.lard_history.proofs.Each.{Each}
use Rattle.lard_law_connections.specs.BytesAgreement.{IsTruthful}
use Rattle.lard_law_connections.proofs.BytesClientMoves.{has-fair}
use Rattle.lard_law_connections.proofs.BytesNodeMoves.{HasIt, IsAt}
use Rattle.lard_law_connections.proofs.BytesNodeTurns.{talk-of}
use Rattle.lard_law_connections.proofs.PlacesTurns.{IsPlaced, early-at}
use Rattle.lard_law_view.proofs.EachNode.{told_first}
use Rattle.lard_laws.specs.WaysState.{FrontSaysWays, GoesItsWay, LetterWays, StayWays, TagIs, marks_at}
use Rattle.lard_laws.specs.Ways.{WayMarks}
use Rattle.lard_laws.proofs.NodeStays.{StayHolds, stay-holds, with-row}
use Rattle.lard_laws.proofs.WaysHomes.{AtHome, at-home, does-makes, named-marked, named-rightly}
use Rattle.lard_laws.proofs.WaysMarking.{IsPlain, Rightly, marked, marked-append, plain-marked, plain-rightly, rightly-append}
use Rattle.lard_laws.proofs.WaysMoving.{Keeps}
use Rattle.lard_laws.proofs.WaysTurning.{Asked_by, DeedWays, IsAgreeing, TurnWays, comes-ways, fires-ways, hears-ways, leaves-ways, reads-ways, tags-ways}
use Rattle.lard_message.specs.declared.message.Body.TheVariants as body
use Rattle.lard_rules.proofs.NodeCases.{IsHereWith, Turned}
use Rattle.lard_rules.specs.Node.{Does}
use Rattle.lard_rules.specs.Stay.{Work}

module _ (k : Setting) (small : k.stream ≤ 2 ^ 30) (x : Conn) (truth : IsTruthful k.files x) (n epoch : ℕ) (env : NodeEnv) (is : IsNodeEnv k x.c n epoch env) where
  abbrev files : FilesAt
  files = env.serve.files

  abbrev m : WayMarks
  m = marks_at x

  abbrev r : FrontRest
  r = front_rest x.part.front.rest

  abbrev p : NodePart
  p = x.part.nodes n

  abbrev l : Talk
  l = truth.talk

  -- a Tag that came was sent by the front end
  tag-of : (number : ℕ) (nodes bytes : List ℕ) → SpellsMessage x.c epoch (body.Tag number nodes) bytes → Was x Front (Node n) bytes
      → (placed : IsPlaced x) (g : GoesItsWay files x) (row : FrontRow) → x.part.front.row ≡ Some row → IsAt n row.stage → row.epoch.0 ≡ env.epoch → TagIs r number nodes
  tag-of number nodes bytes spells was placed g row found at same =
      let f : FrontSaysWays files m x.part n epoch (body.Tag number nodes) = (has-fair (LetterWays files m x.part) (record { from = Front; to = Node n; bytes = bytes }) x.letters was g.letters) _ spells in
      f.1 (with-row x placed n epoch row found at (same ∙ is.epoch_is))

  -- ---- a stay that is here, behind the record of a job that was completed, or of none

  module _ (heads : List Seen) (first : List Rec) (plain : Each IsPlain first) (b : ControlBlock) (t : Stay) (here : IsHereWith env.epoch p b t) where
    abbrev After : NodeDeed → Type 0
    After d = Keeps files x (told_first first (node_does x n heads d))

    -- what is known of it
    record Known : Type 0 where
      agree : IsAgreeing env m r l truth.pend p b t
      placed : IsPlaced x
      way : GoesItsWay files x
      early : env.epoch < 2 ^ 16
      home : m.home ≡ Some n
      some : m.assigned ≡ [] → ⊥
      row : FrontRow
      found : x.part.front.row ≡ Some row
      at : IsAt n row.stage
      same : row.epoch.0 ≡ env.epoch

    known-of : IsPlaced x → GoesItsWay files x → Known
    known-of placed g =
        let y : StayHolds k small x truth n epoch env is b t = stay-holds k small x truth n epoch env is placed b t here in
        let has : HasIt x l truth.pend y.opened.seat placed n env.epoch = (y.it placed).0 in
        let h : AtHome files m r n p = at-home files x g n has.row has.found has.at has.decided in
        record {
          agree = record {
            home = record { place = is.place ∙ ap Node (sym is.node); home = h.home ∙ ap Some (sym is.node) };
            wrote = y.opened.tale.wrote;
            counted = y.opened.tale.served;
            talk = talk-of k small x y.station y.there l truth.pend y.opened n env epoch is;
            fresh = h.has.fresh;
            stay = subst (λ (i : ℕ). StayWays files i m r p.stay) (sym is.node) h.has.stay;
            held = y.held;
            is = here.stays;
          };
          placed = placed;
          way = g;
          early = let most = early-at x placed has.row has.found in let same = has.same in omega (arith, most, same);
          home = h.home;
          some = h.has.some;
          row = has.row;
          found = has.found;
          at = has.at;
          same = has.same;
        }

    does-here : (given : NodePart × NodeTurn) → (Known → TurnWays env m r p (Asked_by env m r p) given) → After (Does given)
    does-here given ways help g =
        let q : Known = known-of help.placed g in
        let turn : TurnWays env m r p (Asked_by env m r p) given = ways q in
        let named : List Rec = named_records given.1.notes in
        does-makes env x n is.node q.early heads (first ++ named) given (Asked_by env m r p) turn (λ e ps c d w. w)
        (rightly-append files m first named (plain-rightly files m first plain) (subst (λ (q : WayMarks). Rightly files q named) (sym (plain-marked m first plain)) (named-rightly files m given.1.notes turn.notes)))
        (marked-append m first named ∙ ap (λ (q : WayMarks). marked q named) (plain-marked m first plain) ∙ named-marked files m given.1.notes) q.row q.found q.at q.same q.home q.some help g

    -- it rests, or goes back
    turned-here : (part : NodePart) (w : Work) → (Known → Turned (λ d. DeedWays env m r p (Asked_by env m r p) d) env part [] w) → Turned After env part [] w
    turned-here part w ways = (
      λ rests. does-here (node_rests env part [] w) (λ q. (ways q).0 rests),
      λ back. does-here (kept_back env part w, turn_back env [] w) (λ q. (ways q).1 back),
    )

    pub hears : (said : Said) → IsWord l.w said → Turned After env p [] (goes_on env (work_of (on_segment b said).1 t))
    hears said word = turned-here p (goes_on env (work_of (on_segment b said).1 t)) (λ q. hears-ways env m r l truth.pend p b t q.agree said word)

    pub tags : (number : ℕ) (nodes bytes : List ℕ) → SpellsMessage x.c epoch (body.Tag number nodes) bytes → Was x Front (Node n) bytes → t.asks ≡ number
        → length nodes ≡ length (named_paths files t.batch)
        → Turned After env (record p { kept = without timer.Ask 0 p.kept }) [] (goes_on env (tagged env nodes (work_of b t)))
    tags number nodes bytes spells was same count = turned-here (record p { kept = without timer.Ask 0 p.kept }) (goes_on env (tagged env nodes (work_of b t)))
        (λ q. tags-ways env m r l truth.pend p b t q.agree number nodes (tag-of number nodes bytes spells was q.placed q.way q.row q.found q.at q.same) same count)

    pub comes : (from i : ℕ)
        → Turned After env (record p { fetches = without timer.Fetch i p.fetches }) [] (goes_on env (came_for (come_progress from) i (work_of b t)))
    comes from i = turned-here (record p { fetches = without timer.Fetch i p.fetches }) (goes_on env (came_for (come_progress from) i (work_of b t))) (λ q. comes-ways env m r l truth.pend p b t q.agree from i)

    pub leaves : After (gives_back env p [] (work_of b t))
    leaves = does-here (kept_back env p (work_of b t), turn_back env [] (work_of b t)) (λ q. leaves-ways env m r l truth.pend p b t q.agree)

    pub reads : (i : ℕ) → Turned After env p [] (goes_on env (came_for read_progress i (work_of b t)))
    reads i = turned-here p (goes_on env (came_for read_progress i (work_of b t))) (λ q. reads-ways env m r l truth.pend p b t q.agree i)

    pub fires : After (Does (node_fired env p (b, t) (spoken env.serve (serving (after_timer b) t.served []) (serving_ready_of env.serve (after_timer b) (timed b)))))
    fires = does-here (node_fired env p (b, t) (spoken env.serve (serving (after_timer b) t.served []) (serving_ready_of env.serve (after_timer b) (timed b)))) (λ q. fires-ways env m r l truth.pend p b t q.agree)
