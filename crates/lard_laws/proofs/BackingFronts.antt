-- The rules of the front end: a first assignment is of the next request, behind the answers to all that was assigned.
use Rattle.std.proofs.Common.{◌≡◌, ◌≤◌, ◌+◌, ◌^◌, ℕ, Bool, true, false, List, [], ◌∷◌, ◌++◌, Option, Some, None, refl, sym, ap, ◌∙◌, subst}
use Rattle.lard_law_view.specs.Prelude.{Ask, Conn, ControlBlock, EndpointParts, FilesAt, FirstChoice, Front, FrontConn, FrontDeed, FrontEnv, FrontGets, FrontPart, FrontRow, IsConnNumber, IsFrontEnv, IsWord, LaterChoice, Move, Node, Place, Rec, Said, Seen, Service, Setting, Station, Talk, Verdict, assigned_notes, front_does, front_reads, front_rest, front_rule, given_sent, last_words, over_note, serving, serving_settled, tombstone, turn_here}
use Rattle.lard_laws.specs.BackingRequests.{IsFor}
use Rattle.lard_laws.proofs.BackingMoving.{Keeps, makes, others-for}
use Rattle.lard_laws.proofs.BackingNext.{next-for}
use Rattle.lard_laws.proofs.BackingRows.{Backs, backs-append}
use Rattle.lard_laws.proofs.BackingTurns.{IsSteady, steady-backs}
use Rattle.lard_law_connections.specs.BytesAgreement.{FrontWaits, IsOpen, SeatAgrees, StageAgrees}
use Rattle.lard_law_connections.specs.BytesKeeping.{IsFrontTalk}
use Rattle.lard_law_connections.proofs.PlacesLoops.{settled-is}
use Rattle.lard_law_connections.proofs.PlacesTurns.{IsPlaced}
use Rattle.lard_laws.specs.WaysState.{BeginsWithRequest, GoesItsWay, WaitsForNext, SeatWays, StageWays, marks_at}
use Rattle.lard_laws.specs.Ways.{WayMarks}
use Rattle.lard_laws.proofs.WaysFrontStays as ways
use Rattle.lard_laws.proofs.WaysMarking.{mark}
use Rattle.lard_base.specs.declared.place.Via.TheVariants.{Own}
use Rattle.lard_rules.specs.Front.{Says}
use Rattle.lard_handoff_front.specs.declared.row.FrontConn.TheVariants as stage
use Rattle.lard_history.proofs.Each.{Each}
use Rattle.lard_journal.specs.declared.rec.Rec.TheVariants as rec
use Rattle.lard_law_connections.specs.BytesAgreement.{IsTruthful}
use Rattle.lard_law_connections.proofs.BytesClientMoves.{open-at}
use Rattle.lard_law_connections.proofs.BytesFrontMessages.{opened-at}
use Rattle.lard_law_connections.proofs.BytesFrontMoves.{talk-of}
use Rattle.lard_law_view.proofs.EachFront.{FrontComes, HasBack, admission}
use Rattle.lard_laws.proofs.FrontComing.{heard-word}
use Rattle.lard_laws.proofs.FrontReturning.{reads-note}
use Rattle.lard_rules.proofs.FrontCases.{IsBack, IsInStage, KeptByFront, KeptByReturn, KeptBySegment, back_service, front-keeps, hands_off, heard_reading, heard_service, of-stage}
use Rattle.lard_law_view.proofs.Deeds.{front-place}

-- ---- notes

-- later requests
later-backs : (files : FilesAt) (c : ℕ) (ask : Ask) (m : WayMarks) (r : ℕ) (paths : List (List ℕ)) (choices : List LaterChoice) → Backs files m (assigned_notes c ask r paths choices)
later-backs files c ask m r [] choices = tt
later-backs files c ask m r (path ∷ paths) [] = tt
later-backs files c ask m r (path ∷ paths) (choice ∷ choices) =
    (tt, later-backs files c ask (mark m (rec.AssignedLater c (r + 1) path choice.node choice.add ask.size ask.queue)) (r + 1) paths choices)

over-backs : (files : FilesAt) (c : ℕ) (m : WayMarks) (over : Bool) (rs : List Rec) → Backs files m rs → Backs files m (over_note c over ++ rs)
over-backs files c m true rs h = (tt, h)
over-backs files c m false rs h = h

-- ---- the rules

module _ (k : Setting) (small : k.stream ≤ 2 ^ 30) (x : Conn) (truth : IsTruthful k.files x) (env : FrontEnv) (is : IsFrontEnv k x.c env) (heads : List Seen) where
  abbrev files : FilesAt
  files = env.serve.files

  abbrev m : WayMarks
  m = marks_at x

  abbrev p : FrontPart
  p = x.part.front

  abbrev count : ℕ
  count = (front_rest p.rest).count

  abbrev l : Talk
  l = truth.talk

  seat-at : (row : FrontRow) (d : FrontConn) → IsInStage p row d → GoesItsWay files x → StageWays files m x.part row.epoch.0 d
  seat-at row d at g = of-stage (SeatWays files m x.part) p row d at g.seat

  -- what it notes is said rightly
  abbrev Goal : FrontDeed → Type 0
  Goal d = IsConnNumber x.c → IsPlaced x → GoesItsWay files x → Backs files m (front_does x heads d).said.notes

  -- What was read: what it notes is told, all that was assigned is answered then, and the next request is for the path that is to be placed.
  record Looked (w : Service) (target : Option (List ℕ)) : Type 0 where
    steady : Each (IsSteady files m) w.notes
    way : ways.Looked k small x truth env is heads w target

  abbrev Came : Service → Option (List ℕ) → Type 0
  Came w target = IsConnNumber x.c → IsPlaced x → GoesItsWay files x → Looked w target

  -- what is read and answered
  reads-steady : (w : Service) → Each (IsSteady files m) w.notes
      → Each (IsSteady files m) (front_reads env.serve (record { service = w; target = None })).service.notes
  reads-steady = reads-note (IsSteady files m) env.serve
      (λ r code size. subst (λ (place : Place). IsSteady files m (rec.Served place env.serve.c r code size Own)) (sym is.place) (tt, tt)) (λ total. (tt, tt))

  -- what it read is said, and then this
  looked-backs : (w : Service) (target : Option (List ℕ)) (more : List Rec) → (looked : Looked w target)
      → Backs files (record looked.way.behind { served = w.count }) more → Backs files m (w.notes ++ more)
  looked-backs w target more looked h =
      backs-append files m w.notes more (steady-backs files m w.notes looked.steady)
      (subst (λ (q : WayMarks). Backs files q more) (sym looked.way.looks.told) h)

  held-backs : (w : Service) → Looked w None → Backs files m (serving_settled env.serve w).1.notes
  held-backs w looked = subst (Backs files m) (sym (settled-is env.serve w).notes) (steady-backs files m w.notes looked.steady)

  placed-backs : (w : Service) (path : List ℕ) (choice : FirstChoice) → Looked w (Some path)
      → Backs files m (w.notes ++ rec.Admitted env.serve.c ∷ rec.AssignedFirst env.serve.c (w.count + 1) path choice.node choice.add choice.remove ∷ [])
  placed-backs w path choice looked =
      let f = looked.way.frozen path refl in
      let for : IsFor files looked.way.behind.wrote (w.count + 1) path =
      subst (λ (q : List ℕ). IsFor files q (w.count + 1) path) (sym f.wrote)
      (next-for files f.w f.out f.vs w.block w.count f.holds.holds f.frozen path f.next) in
      looked-backs w (Some path) (rec.Admitted env.serve.c ∷ rec.AssignedFirst env.serve.c (w.count + 1) path choice.node choice.add choice.remove ∷ []) looked
      (tt, ((looked.way.looks.answered.0, refl, for), tt))

  -- ---- of one whose client opened

  module _ (s : Station) (there : x.part.station ≡ Some s) where
    abbrev pend : List Verdict
    pend = truth.pend

    abbrev o : IsOpen k.files x l pend s
    o = open-at k.files x s there truth

    -- of what its client wrote
    written-for : (r : ℕ) (path : List ℕ) → IsFor files l.w.bytes r path → IsFor files m.wrote r path
    written-for r path h = subst (λ (q : List ℕ). IsFor files q r path) (sym o.tale.wrote) h

    truth-at : (row : FrontRow) (d : FrontConn) → IsInStage p row d → StageAgrees l.w l.out l.vs pend l.was_reset x.c x.part row.epoch.0 d
    truth-at row d at = of-stage (SeatAgrees l.w l.out l.vs pend l.was_reset x.c x.part) p row d at o.seat

    module _ (talk : IsFrontTalk env l.w l.out l.vs) (sd : Said) (word : IsWord l.w sd) where
      row-looks : (row : FrontRow) (b : ControlBlock) → IsInStage p row (stage.Held b) → Came (front_reads env.serve (heard_reading p b sd)).service (front_reads env.serve (heard_reading p b sd)).target
      row-looks row b at number placed g = record {
        steady = reads-steady (heard_service p b sd) tt;
        way = ways.row-looks k small x truth env is heads s there talk sd word row b at number placed g;
      }

      by-segment : (bytes : List ℕ) → KeptBySegment env p bytes sd Came Goal
      by-segment bytes = record {
        drops = λ number placed g. tt;
        begins = λ none plain number placed g. (tt, tt);
        reads = row-looks;
        holds = λ row b w at came number placed g. held-backs w (came number placed g);
        hands = λ row b w path choice at came is number placed g. placed-backs w path choice (came number placed g);
        waits = λ row b w path at came is number placed g. looked-backs w (Some path) (rec.Waits env.serve.c ∷ []) (came number placed g) (tt, tt);
        stays = λ row b at number placed g. tt;
        forwards = λ row n e at number placed g. tt;
        words = λ row last at. tombs (last_words last.reason last sd);
      } where
        tombs : (said : Option Said) → Goal (Says (turn_here (tombstone env.serve said)))
        tombs None number placed g = tt
        tombs (Some t) number placed g = tt

    -- it is admitted, from the head of the line
    admits-backs : (row : FrontRow) (b : ControlBlock) (path : List ℕ) → IsInStage p row (stage.Waiting b) → (front_rest p.rest).target ≡ Some path → (choice : FirstChoice) → Goal (hands_off env row (serving b count []) path choice [])
    admits-backs row b path at is_target choice number placed g =
        let fh : FrontWaits l.w l.out l.vs pend b count = truth-at row (stage.Waiting b) at in
        let seat = seat-at row (stage.Waiting b) at g in
        let next : BeginsWithRequest files b.recv.unread path = subst (WaitsForNext files b.recv.unread) is_target seat.1 in
        let for : IsFor files m.wrote (count + 1) path = written-for (count + 1) path (next-for files l.w l.out l.vs b count fh.0.holds fh.1 path next) in
        let served : count + 1 ≡ m.served + 1 = ap (λ (i : ℕ). i + 1) (fh.0.holds.counted ∙ sym o.tale.served) in
        (tt, ((seat.0.0, served, for), tt))

  -- ---- it comes back

  by-return : (n epoch : ℕ) (given : Option EndpointParts) → HasBack x n epoch given heads → (row : FrontRow) (parts : EndpointParts)
      → IsBack p n epoch given row parts
      → KeptByReturn env p (given_sent env.serve.c n epoch given) row parts Came Goal
  by-return n epoch given comes row parts back = record {
    reads = λ number placed g. record {
      steady = reads-steady (back_service env row parts) ((tt, tt), ((tt, tt), tt));
      way = ways.returned-looks k small x truth env is heads n epoch given comes row parts back number placed g;
    };
    holds = λ w came number placed g. held-backs w (came number placed g);
    hands = λ w path choice came is number placed g. placed-backs w path choice (came number placed g);
    waits = λ w path came is number placed g. looked-backs w (Some path) (rec.Waits env.serve.c ∷ []) (came number placed g) (tt, tt);
  }

  -- ---- whatever comes

  by-rules : KeptByFront env p (FrontComes x env heads) Came Goal
  by-rules = record {
    drops = λ number placed g. tt;
    hears = λ bytes sd c.
        let o : IsOpen k.files x l truth.pend c.station = open-at k.files x c.station c.there truth in
        by-segment c.station c.there (talk-of k small x env is c.station l truth.pend o c.iss_is) sd (heard-word x c.station env bytes heads k.files l truth.pend o sd c) bytes;
    fires = λ c. record { drops = λ number placed g. tt; holds = λ row b at number placed g. tt; stays = λ row b at number placed g. tt; resends = λ row n e at number placed g. tt };
    takes = λ from epoch c row n e at same number placed g. tt;
    tags_again = λ n epoch ask c rest found there same some number placed g. tt;
    assigns_next = λ n epoch ask c rest found there next number placed g.
        over-backs files env.serve.c m (env.later ask).over _ (later-backs files env.serve.c ask m rest.assigned ask.paths (env.later ask).choices);
    ends_again = λ n epoch last c row found away again number placed g. tt;
    ends = λ n epoch last c row found away number placed g. (tt, (tt, tt));
    gives_again = λ n epoch parts c row found past number placed g. tt;
    returns = λ n epoch given c row parts back. by-return n epoch given c row parts back;
    admits = λ choice made met row b path at target.
        let opened = opened-at k.files x truth (λ u. let no : Some row ≡ None = sym at.0 ∙ u.front in absurd cc) in
        admits-backs opened.0 opened.1 row b path at target choice;
  }

  pub front-makes : (g : FrontGets) → FrontComes x env heads g → Keeps k.files x (front_does x heads (front_rule env p g))
  front-makes g comes = subst (λ (f : FilesAt). Keeps f x v) is.files (λ help way old.
      makes files x v (front-keeps env p (FrontComes x env heads) Came Goal by-rules g (admission x env heads g comes) comes help.number help.placed way)
      (others-for files m.wrote v.place other v.said.segments) (others-for files m.wrote v.place other v.said.messages) help way old) where
        v : Move
        v = front_does x heads (front_rule env p g)

        at : v.place ≡ Front
        at = front-place x heads (front_rule env p g)

        other : (n : ℕ) → v.place ≡ Node n → ⊥
        other n e = let no : Front ≡ Node n = sym at ∙ e in cc
