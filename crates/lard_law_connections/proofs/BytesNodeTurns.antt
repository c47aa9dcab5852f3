-- The rules of a node leave a connection in agreement.
use Rattle.lard_handoff_back.specs.Leaving.{exceeds}
use Rattle.lard_handoff_back.specs.declared.row.BackConn.TheVariants as back
use Rattle.lard_handoff_front.specs.declared.row.FrontConn.TheVariants as stage
use Rattle.std.proofs.lemmas.Bool.{ltb-true}
use Rattle.lard_law_connections.proofs.BytesMoves.{idle-goes, move-goes}
use Rattle.lard_law_view.proofs.Parts.{put-each}
use Rattle.lard_law_connections.proofs.PlacesFrontMessages.{came-says}
use Rattle.lard_law_connections.proofs.BytesMessages.{offers-read}
use Rattle.lard_law_view.specs.Prelude.{Acknowledged, Adopt, BackConn, BackRow, Completed, Conn, Content, ControlBlock, EndpointParts, Epoch, FilesAt, Fires, Forwarded, Front, FrontConn, FrontRow, IsNodeEnv, IsStream, IsWord, Kept, Leaves, Move, Node, NodeDeed, NodeEnv, NodeGets, NodePart, Offered, Place, Rec, Said, SaysAnswers, SegFault, Seen, Setting, SpellsMessage, Station, Stay, Tagged, Talk, Verdict, Was, again_sent, back_endpoint, both_of, come_by, decoded_message, epoch_in, goes_back_by, here, kept_refused, letter, named_records, node_content, node_does, node_fired_by, node_forwarded, node_goes_back, node_heard_by, node_offered, node_put_back, node_read, node_read_by, node_rule, node_saying, node_tagged, node_timer, offer_answer, offer_decision, offered_by, parts_of, reads_first, refused_sent, tagged_by, taken_sent, tale_at, with_node}
use Rattle.lard_rules.specs.Front.{message}
use Rattle.lard_handoff_back.specs.declared.table.Adopt.TheVariants.{Again, New, Refuse, Stale}
use Rattle.lard_message.specs.declared.message.Body.TheVariants as body
use Rattle.lard_journal.specs.declared.rec.Rec.TheVariants as rec
use Rattle.lard_law_connections.proofs.BytesClientMoves.{has-fair}
use Rattle.std.proofs.Common.{true, List, None, Ok, Option, Result, Some, [], ap, arith, inl, inr, map, refl, subst, sym, ℕ, ⊎_elim, ◌<◌, ◌^◌, ◌∙◌, ◌∷◌, ◌≡◌, ◌≤◌, ◌⊎◌, ◌≢◌}
use Rattle.lard_law_connections.specs.BytesAgreement.{AwayAgrees, BackAgrees, IsEnding, IsFair, IsKept, IsOffering, IsOpen, IsReturning, NodeAgrees, RowAgrees, SeatAgrees, StageAgrees, StayComesOn}
use Rattle.lard_law_connections.specs.BytesKeeping.{DeedKeeps, IsTalk, NodeSays}
use Rattle.lard_law_connections.proofs.BytesLaw.{Helps, IsTrueMove}
use Rattle.lard_law_connections.specs.BytesTurning.{AnswersAfter}
use Rattle.lard_law_connections.proofs.BytesNext.{named-tells}
use Rattle.lard_law_connections.proofs.BytesNodeMoves.{HasIt, IsAt, Noted, again-fair, all-node, does-goes, has-it, known, stands-goes, ways-put}
use Rattle.lard_law_connections.proofs.BytesStays.{contents-keep, leaves-keep, node-hears, offers-keep, reads-keep, tags-keep, timer-keeps}
use Rattle.lard_law_connections.proofs.BytesTold.{bytes_of, named-each, named-resets, named-served, named-size}
use Rattle.lard_law_connections.proofs.BytesFair.{told-kept}
use Rattle.lard_law_connections.specs.Places.{HasEnded, IsDecided, IsOffered, IsOver, IsPast, IsReachedBy, IsRefusalKnown, Offers, Sits, StageSits, owning}
use Rattle.lard_law_connections.proofs.PlacesNodeRules.{new-below, not-decided}
use Rattle.lard_law_connections.proofs.PlacesTurns.{IsPlaced, early-at}
use Rattle.lard_law_view.proofs.Rows.{tale_before}
use Rattle.lard_history.proofs.Each.{Each}
use Rattle.lard_rules.proofs.NodeCases.{IsHereWith, decision-new, where-held, where-here}
use Rattle.lard_rules.specs.Node.{Does, Drops, Says}
use Rattle.lard_law_view.proofs.Speaking.{speaks-stream}

-- a node's notes that name a connection are counted as its notes
named-noted : (c : ℕ) (notes : List Rec) (k : Setting) (small : k.stream ≤ 2 ^ 30) (x : Conn) (s : Station) (there : x.part.station ≡ Some s) (l : Talk) (pend : List Verdict) (o : IsOpen k.files x l pend s) (n : ℕ) (heads : List Seen) → Noted k small x s there l pend o n heads c (named_records notes) notes
named-noted c notes k small x s there l pend o n heads = record { each = named-each c notes; served = named-served c notes; size = named-size c notes; reset = named-resets c notes; serve = λ e t f. named-tells (AnswersAfter k.files c) c t notes e f }

module _ (k : Setting) (small : k.stream ≤ 2 ^ 30) (x : Conn) (s : Station) (there : x.part.station ≡ Some s) (l : Talk) (pend : List Verdict) (o : IsOpen k.files x l pend s) (n : ℕ) (env : NodeEnv) (epoch : ℕ) (is : IsNodeEnv k x.c n epoch env) where
  abbrev pub p : NodePart
  p = x.part.nodes n

  abbrev pub It : ℕ → Type 0
  It e = (placed : IsPlaced x) → HasIt x l pend o.seat placed n e × ((f : ℕ) → IsOver f p.row → HasEnded f x.part.front.row)

  pub talk-of : IsTalk env l.w l.out l.vs
  talk-of = record {
    most = subst (λ (m : ℕ). m ≤ 2 ^ 30) (sym is.stream) small;
    stream = subst IsStream (sym o.client.w_is) (speaks-stream s.client.send l.w.bytes o.client.speaks);
    says = subst (λ (files : FilesAt). SaysAnswers files l.w l.out l.vs) (sym is.files) o.says;
  }

  own-keeps : (d : NodeDeed) → DeedKeeps env.serve.files env.serve.c env.epoch p l.w l.out l.vs l.was_reset d → DeedKeeps k.files x.c env.epoch p l.w l.out l.vs l.was_reset d
  own-keeps d h = subst (λ (files : FilesAt). DeedKeeps files x.c env.epoch p l.w l.out l.vs l.was_reset d) is.files (subst (λ (c : ℕ). DeedKeeps env.serve.files c env.epoch p l.w l.out l.vs l.was_reset d) is.number h)

  own-agrees : NodeAgrees l.w l.out l.vs pend l.was_reset x.c p → NodeAgrees l.w l.out l.vs pend l.was_reset env.serve.c p
  own-agrees h = subst (λ (c : ℕ). NodeAgrees l.w l.out l.vs pend l.was_reset c p) (sym is.number) h

  abbrev Goes : List Seen → NodeDeed → Type 0
  Goes heads d = Helps x (node_does x n heads d) → IsTrueMove k.files x (node_does x n heads d)

  abbrev IsQuiet : List Seen → Type 0
  IsQuiet heads = (d : NodeDeed) → bytes_of (tale_before x (node_does x n heads d)) ≡ bytes_of (tale_at x)

  drops-goes : (heads : List Seen) → IsQuiet heads → Goes heads Drops
  drops-goes heads quiet help = stands-goes k small x s there l pend o n heads [] [] tt refl refl refl (quiet Drops) tt help

  taken-fair : (ms : List (Place × List ℕ)) → ms ≡ (Front, message x.c env.epoch body.Taken) ∷ [] → Each (IsFair l x.c x.part) (map (letter (Node n)) ms)
  taken-fair ms is = all-node l x.c n x.part ms (subst (Each (NodeSays x.c p)) (sym is) (inr (env.epoch, body.Taken, refl, tt), tt))

  -- what it says alone was said before, or answers
  says-fair : (heads : List Seen) (ms : List (Place × List ℕ)) → DeedKeeps k.files x.c env.epoch p l.w l.out l.vs l.was_reset (Says ms) → Helps x (node_does x n heads (Says ms)) → Each (IsFair l x.c x.part) (map (letter (Node n)) ms)
  says-fair heads ms h help = ⊎_elim
      (λ (e : ms ≡ again_sent p). subst (λ (ns : List (Place × List ℕ)). Each (IsFair l x.c x.part) (map (letter (Node n)) ns)) (sym e) (again-fair k small x s there l pend o n heads (node_does x n heads (Says ms)) help))
      (taken-fair ms) h

  -- where the front end knows that it is at this node, in this epoch
  deed-with : (heads : List Seen) → IsQuiet heads → (d : NodeDeed) → DeedKeeps k.files x.c env.epoch p l.w l.out l.vs l.was_reset d → (row : FrontRow) → x.part.front.row ≡ Some row → IsAt n row.stage → row.epoch.0 ≡ env.epoch
      → ((f : ℕ) → IsOver f p.row → HasEnded f x.part.front.row) → Goes heads d
  deed-with heads quiet Drops keeps row found at same known help = drops-goes heads quiet help
  deed-with heads quiet (Says ms) keeps row found at same known help = stands-goes k small x s there l pend o n heads [] ms tt refl refl refl (quiet (Says ms)) (says-fair heads ms keeps help) help
  deed-with heads quiet (Does given) keeps row found at same known help =
      does-goes k small x s there l pend o n heads (named_records given.1.notes) given env.epoch (named-noted x.c given.1.notes k small x s there l pend o n heads) (quiet (Does given)) keeps row found at same known help

  deed-goes : (heads : List Seen) → IsQuiet heads → (d : NodeDeed) → DeedKeeps k.files x.c env.epoch p l.w l.out l.vs l.was_reset d → It env.epoch → Goes heads d
  deed-goes heads quiet d keeps it help = let has = it help.placed in deed-with heads quiet d keeps has.0.row has.0.found has.0.at has.0.same has.1 help

  -- where its endpoint is here
  it-here : (b : ControlBlock) (y : Stay) → IsHereWith env.epoch p b y → It env.epoch
  it-here b y at = subst It at.epoch_is
      (λ placed. (has-it x l pend o.seat placed n at.row b at.found at.staged, known x l pend o.seat placed n at.row b at.found at.staged))

  pub here-or : (here env.epoch p ≡ None) ⊎ It env.epoch
  here-or = where-here env.epoch p (λ h. (h ≡ None) ⊎ It env.epoch) (inl refl) (λ b y at. inr (it-here b y at))

  -- a rule over what is here
  by-here : (heads : List Seen) → IsQuiet heads → (rule : Option (ControlBlock × Stay) → NodeDeed) → rule None ≡ Drops → ((it : It env.epoch) (placed : IsPlaced x) → DeedKeeps k.files x.c env.epoch p l.w l.out l.vs l.was_reset (rule (here env.epoch p)))
      → Goes heads (rule (here env.epoch p))
  by-here heads quiet rule none keeps help = ⊎_elim
      (λ (e : here env.epoch p ≡ None). subst (Goes heads) (sym (ap rule e ∙ none)) (drops-goes heads quiet) help)
      (λ (it : It env.epoch). deed-goes heads quiet (rule (here env.epoch p)) (keeps it help.placed) it help) here-or

  pub agrees-by : It env.epoch → IsPlaced x → NodeAgrees l.w l.out l.vs pend l.was_reset env.serve.c p
  agrees-by it placed = own-agrees (it placed).0.agrees

  pub ways-here : StayComesOn env.serve.files p.stay
  ways-here = subst (λ (files : FilesAt). StayComesOn files p.stay) (sym is.files) (o.ways n)

  pub forwards-goes : (heads : List Seen) → IsQuiet heads → (sd : Said) → IsWord l.w sd → Goes heads (node_forwarded env p (Ok sd))
  forwards-goes heads quiet sd word = by-here heads quiet (node_heard_by env p (Ok sd)) refl (λ it placed. own-keeps (node_forwarded env p (Ok sd)) (node-hears env l.w l.out l.vs pend l.was_reset p sd talk-of (agrees-by it placed) ways-here word))

  pub tags-goes : (heads : List Seen) → IsQuiet heads → (number : ℕ) (nodes : List ℕ) → Goes heads (node_tagged env p number nodes)
  tags-goes heads quiet number nodes = by-here heads quiet (tagged_by env number nodes p) refl (λ it placed. own-keeps (node_tagged env p number nodes) (tags-keep number nodes env l.w l.out l.vs pend l.was_reset p talk-of (agrees-by it placed) ways-here))

  pub contents-goes : (heads : List Seen) → IsQuiet heads → (from r : ℕ) → Goes heads (node_content env p from r)
  contents-goes heads quiet from r = by-here heads quiet (come_by env from r p) refl (λ it placed. own-keeps (node_content env p from r) (contents-keep from r env l.w l.out l.vs pend l.was_reset p talk-of (agrees-by it placed) ways-here))

  -- ---- its timers

  pub endpoint-or : (r : Option BackRow) → p.row ≡ r → env.epoch ≡ elim r [ None ↦ 0 | Some row ↦ row.epoch.0 ] → (both_of (back_endpoint r) p.stay ≡ None) ⊎ It env.epoch
  endpoint-or r found same = subst (λ (q : Option BackRow). (both_of (back_endpoint q) p.stay ≡ None) ⊎ It env.epoch) found
      (where-held env.epoch p (λ h. (h ≡ None) ⊎ It env.epoch) (inl refl) (λ b y at. inr (it-here b y at))
      (λ row is_row. sym (same ∙ ap (λ (q : Option BackRow). elim q [ None ↦ 0 | Some back_row ↦ back_row.epoch.0 ]) (sym found ∙ is_row))))

  pub fires-goes : (heads : List Seen) → IsQuiet heads → env.epoch ≡ epoch_in p → Goes heads (node_timer env p)
  fires-goes heads quiet same help = ⊎_elim
      (λ (e : both_of (back_endpoint p.row) p.stay ≡ None). subst (Goes heads) (sym (ap (node_fired_by env p) e))
      (λ h. stands-goes k small x s there l pend o n heads [] (again_sent p) tt refl refl refl (quiet (Says (again_sent p))) (again-fair k small x s there l pend o n heads (node_does x n heads (Says (again_sent p))) h) h) help)
      (λ (it : It env.epoch). deed-goes heads quiet (node_timer env p) (own-keeps (node_timer env p) (timer-keeps env l.w l.out l.vs pend l.was_reset p talk-of (agrees-by it help.placed) ways-here)) it help)
      (endpoint-or p.row refl same)

  -- ---- it leaves

  pub leaves-goes : (heads : List Seen) → IsQuiet heads → env.epoch ≡ epoch_in p → Goes heads (node_goes_back env p)
  leaves-goes heads quiet same help = ⊎_elim
      (λ (e : both_of (back_endpoint p.row) p.stay ≡ None). subst (Goes heads) (sym (ap (goes_back_by env p) e)) (drops-goes heads quiet) help)
      (λ (it : It env.epoch). deed-goes heads quiet (node_goes_back env p)
      (own-keeps (node_goes_back env p) (leaves-keep env l.w l.out l.vs pend l.was_reset p talk-of (agrees-by it help.placed) ways-here)) it help)
      (endpoint-or p.row refl same)

  -- ---- whatever comes but an Offer, and but what answers the end of a stay

  abbrev pub DeedAgrees : NodeDeed → Type 0
  DeedAgrees d = DeedKeeps k.files x.c env.epoch p l.w l.out l.vs l.was_reset d

  abbrev pub IsOfStay : NodeGets → Type 0
  IsOfStay (Offered parts) = ⊥
  IsOfStay (Acknowledged back) = ⊥
  IsOfStay (Forwarded given) = (sd : Said) × (given ≡ Ok sd) × IsWord l.w sd
  IsOfStay Fires = env.epoch ≡ epoch_in p
  IsOfStay Leaves = env.epoch ≡ epoch_in p
  IsOfStay _ = Unit {0}

  here-agrees : (rule : Option (ControlBlock × Stay) → NodeDeed) → rule None ≡ Drops → (It env.epoch → DeedAgrees (rule (here env.epoch p)))
      → DeedAgrees (rule (here env.epoch p))
  here-agrees rule none keeps = ⊎_elim (λ (e : here env.epoch p ≡ None). subst DeedAgrees (sym (ap rule e ∙ none)) tt) keeps here-or

  endpoint-agrees : env.epoch ≡ epoch_in p → (rule : Option (ControlBlock × Stay) → NodeDeed) → DeedAgrees (rule None)
      → (It env.epoch → DeedAgrees (rule (both_of (back_endpoint p.row) p.stay))) → DeedAgrees (rule (both_of (back_endpoint p.row) p.stay))
  endpoint-agrees same rule none keeps = ⊎_elim
      (λ (e : both_of (back_endpoint p.row) p.stay ≡ None). subst DeedAgrees (sym (ap rule e)) none) keeps (endpoint-or p.row refl same)

  pub rule-agrees : IsPlaced x → (g : NodeGets) → IsOfStay g → DeedAgrees (node_rule env p g)
  rule-agrees placed (Offered parts) h = absurd h
  rule-agrees placed (Acknowledged back) h = absurd h
  rule-agrees placed (Forwarded given) h = subst (λ (r : Result Said SegFault). DeedAgrees (node_forwarded env p r)) (sym h.1)
      (here-agrees (node_heard_by env p (Ok h.0)) refl
      (λ it. own-keeps (node_forwarded env p (Ok h.0)) (node-hears env l.w l.out l.vs pend l.was_reset p h.0 talk-of (agrees-by it placed) ways-here h.2)))
  rule-agrees placed (Tagged number nodes) h = here-agrees (tagged_by env number nodes p) refl
      (λ it. own-keeps (node_tagged env p number nodes) (tags-keep number nodes env l.w l.out l.vs pend l.was_reset p talk-of (agrees-by it placed) ways-here))
  rule-agrees placed (Content from r) h = here-agrees (come_by env from r p) refl
      (λ it. own-keeps (node_content env p from r) (contents-keep from r env l.w l.out l.vs pend l.was_reset p talk-of (agrees-by it placed) ways-here))
  rule-agrees placed (Completed r path) h = here-agrees (node_read_by env r p) refl
      (λ it. own-keeps (node_read env p r) (reads-keep r env l.w l.out l.vs pend l.was_reset p talk-of (agrees-by it placed) ways-here))
  rule-agrees placed Fires h = endpoint-agrees h (node_fired_by env p) (inl refl)
      (λ it. own-keeps (node_timer env p) (timer-keeps env l.w l.out l.vs pend l.was_reset p talk-of (agrees-by it placed) ways-here))
  rule-agrees placed Leaves h = endpoint-agrees h (goes_back_by env p) tt
      (λ it. own-keeps (node_goes_back env p) (leaves-keep env l.w l.out l.vs pend l.was_reset p talk-of (agrees-by it placed) ways-here))

  -- ---- a completed job, whose record stands first

  module _ (r : ℕ) (path : List ℕ) where
    abbrev read_row : Rec
    read_row = rec.Read n n x.c r path

    abbrev GoesFirst : NodeDeed → Type 0
    GoesFirst d = Helps x (reads_first read_row (node_does x n [] d)) → IsTrueMove k.files x (reads_first read_row (node_does x n [] d))

    first-drops : GoesFirst Drops
    first-drops help = stands-goes k small x s there l pend o n [] (read_row ∷ []) [] (tt, tt) refl refl refl refl tt help

    first-goes : (d : NodeDeed) → DeedKeeps k.files x.c env.epoch p l.w l.out l.vs l.was_reset d → It env.epoch → GoesFirst d
    first-goes Drops keeps it help = first-drops help
    first-goes (Says ms) keeps it help = stands-goes k small x s there l pend o n [] (read_row ∷ []) ms (tt, tt) refl refl refl refl
        (⊎_elim (λ (e : ms ≡ again_sent p). subst (λ (ns : List (Place × List ℕ)). Each (IsFair l x.c x.part) (map (letter (Node n)) ns)) (sym e) (again-fair k small x s there l pend o n [] (reads_first read_row (node_does x n [] (Says ms))) help)) (taken-fair ms) keeps) help
    first-goes (Does given) keeps it help =
        let has = it help.placed in
        does-goes k small x s there l pend o n [] (read_row ∷ named_records given.1.notes) given env.epoch
        (record { each = λ e. (tt, named-each x.c given.1.notes e); served = named-served x.c given.1.notes; size = named-size x.c given.1.notes; reset = named-resets x.c given.1.notes; serve = λ e t f. ((λ J same. tt), named-tells (AnswersAfter k.files x.c) x.c t given.1.notes e f) }) refl keeps has.0.row has.0.found has.0.at has.0.same has.1 help

    pub read-goes : GoesFirst (node_read env p r)
    read-goes help = ⊎_elim
        (λ (e : here env.epoch p ≡ None). subst GoesFirst (sym (ap (node_read_by env r p) e)) first-drops help)
        (λ (it : It env.epoch). first-goes (node_read env p r) (own-keeps (node_read env p r) (reads-keep r env l.w l.out l.vs pend l.was_reset p talk-of (agrees-by it help.placed) ways-here)) it help)
        here-or

  -- ---- a refusal

  abbrev refusing : NodePart
  refusing = kept_refused env p

  -- what the node keeps of a stay is as it was
  refusing-stage : (e : ℕ) (d : BackConn) → BackAgrees l.w l.out l.vs pend l.was_reset x.c e p d → BackAgrees l.w l.out l.vs pend l.was_reset x.c e refusing d
  refusing-stage e (back.Here b) h = h
  refusing-stage e back.Out h = h
  refusing-stage e back.Ended h = ⊎_elim (λ (ending : IsEnding l.w l.was_reset x.c e p.kept). inl ending)
      (λ (r : IsReturning l.w l.out l.vs pend x.c e p).
      inr (record { block = r.block; count = r.count; frozen = r.frozen; holds = r.holds; returned = r.returned; kept_is = r.kept_is })) h
  refusing-stage e back.Gone h = h

  refusing-row : (q : Option BackRow) → RowAgrees l.w l.out l.vs pend l.was_reset x.c p q → RowAgrees l.w l.out l.vs pend l.was_reset x.c refusing q
  refusing-row None h = h
  refusing-row (Some row) h = refusing-stage row.epoch.0 row.stage h

  abbrev HasDecided : ℕ → NodePart → Type 0
  HasDecided e q = IsDecided e q.row × NodeAgrees l.w l.out l.vs pend l.was_reset x.c q

  refusing-decided : (m e : ℕ) → HasDecided e (x.part.nodes m) → HasDecided e (node_put_back x.part.nodes n refusing m)
  refusing-decided m e = put-each x.part.nodes n refusing (λ i q. HasDecided e (x.part.nodes i) → HasDecided e q) (λ h. (h.0, refusing-row p.row h.1)) (λ i other h. h) m

  refusing-seat : (e : ℕ) (d : FrontConn) → StageAgrees l.w l.out l.vs pend l.was_reset x.c x.part e d
      → StageAgrees l.w l.out l.vs pend l.was_reset x.c (with_node x.part n refusing) e d
  refusing-seat e (stage.Offering m d) h = ⊎_elim
      (λ (a : IsPast e (x.part.nodes m).row × IsOffering l.w l.out l.vs pend x.c m e x.part.front.kept).
      inl (put-each x.part.nodes n refusing (λ i q. IsPast e (x.part.nodes i).row → IsPast e q.row) (λ past. past) (λ i other past. past) m a.0, a.1))
      (λ (a : HasDecided e (x.part.nodes m)). inr (refusing-decided m e a)) h
  refusing-seat e (stage.Moved m d) h = refusing-decided m e h
  refusing-seat e _ h = h

  refusing-front : (q : Option FrontRow) → SeatAgrees l.w l.out l.vs pend l.was_reset x.c x.part q → SeatAgrees l.w l.out l.vs pend l.was_reset x.c (with_node x.part n refusing) q
  refusing-front None h = h
  refusing-front (Some row) h = refusing-seat row.epoch.0 row.stage h

  refuse-goes : (heads : List Seen) → IsQuiet heads → Goes heads (Does (refusing, node_saying (refused_sent env)))
  refuse-goes heads quiet help =
      let d : NodeDeed = Does (refusing, node_saying (refused_sent env)) in
      let v : Move = node_does x n heads d in
      move-goes k.files x s there l pend o v help
      (record {
        heads = quiet d;
        station = refl;
        offers = λ i f a b. refl;
        ends = λ i f over. inl (put-each x.part.nodes n refusing (λ m q. q.kept ≡ (x.part.nodes m).kept) refl (λ m other. refl) i);
      })
      (idle-goes k.files x s there l pend o v (record {
        each = tt;
        served = refl;
        size = refl;
        reset = refl;
        seat = refusing-front x.part.front.row o.seat;
        ways = ways-put x n refusing k.files o.ways (o.ways n);
        sent = tt;
        letters = all-node l x.c n v.part (refused_sent env)
            (subst (λ (c : ℕ). Each (NodeSays c (v.part.nodes n)) (refused_sent env)) is.number (inr (env.epoch, body.Refused, refl, tt), tt));
      }))

  -- ---- an Offer

  module _ (heads : List Seen) (quiet : IsQuiet heads) (parts : EndpointParts) (bytes : List ℕ) (spells : SpellsMessage x.c epoch (body.Offer parts) bytes) (was : Was x Front (Node n) bytes) where
    told : IsDecided epoch p.row ⊎ (HasEnded epoch x.part.front.row ⊎ IsKept x.part.front.kept bytes)
    told = (has-fair (IsFair l x.c x.part) (record { from = Front; to = Node n; bytes = bytes }) x.letters was o.fair) _ spells

    abbrev Decides : Adopt → Type 0
    Decides a = offer_decision env.leaving env.epoch p.row p.beside ≡ a

    takes : Decides New → offer_decision env.leaving env.epoch p.row p.beside ≢ Refuse
    takes new refuse = let no : New ≡ Refuse = sym new ∙ refuse in cc

    -- a node that takes it did not refuse it, and was offered it
    said-new : IsPlaced x → Decides New → (IsDecided epoch p.row → ⊥) → IsOffered n epoch x.part.front.row
    said-new placed new not = ⊎_elim (λ (d : IsDecided epoch p.row). absurd (not d))
        (λ (other : IsOffered n epoch x.part.front.row ⊎ IsRefusalKnown x.part n epoch). ⊎_elim (λ (offered : IsOffered n epoch x.part.front.row). offered)
        (λ (known : IsRefusalKnown x.part n epoch).
        let above : exceeds env.epoch p.beside.refused ≡ true = (decision-new env.leaving env.epoch p.row p.beside new).2 in
        absurd (reached p.beside.refused (subst (λ (e : ℕ). exceeds e p.beside.refused ≡ true) is.epoch_is above) known.0.0)) other)
        (came-says x Front (Node n) epoch (body.Offer parts) bytes placed.letters was spells) where
          reached : (o : Option Epoch) → exceeds epoch o ≡ true → IsReachedBy epoch o → ⊥
          reached None above h = h
          reached (Some d) above h = let less = ltb-true d.0 epoch above in omega (arith, less, h)

    offer-at : (row : FrontRow) (m : ℕ) (d : Epoch) → x.part.front.row ≡ Some row → row.stage ≡ stage.Offering m d → m ≡ n → d.0 ≡ epoch → Decides New → (IsDecided epoch p.row → ⊥) → ((f : ℕ) → IsOver f p.row → f < env.epoch) → Goes heads (node_offered env p parts)
    offer-at row m d found at mine when new not less help =
        let sits : StageSits row.epoch.0 (owning (tale_at x)) x.part.nodes (stage.Offering m d) = subst (StageSits row.epoch.0 (owning (tale_at x)) x.part.nodes) at (subst (Sits (owning (tale_at x)) x.part.nodes) found help.placed.sits).0 in
        let now : row.epoch.0 ≡ epoch = sym sits.1 ∙ when in
        let away : AwayAgrees l.w l.out l.vs pend l.was_reset x.c m row.epoch.0 x.part =
        subst (StageAgrees l.w l.out l.vs pend l.was_reset x.c x.part row.epoch.0) at (subst (SeatAgrees l.w l.out l.vs pend l.was_reset x.c x.part) found o.seat) in
        let kept : IsKept x.part.front.kept bytes = told-kept x.part n epoch bytes row found now not told in
        let offering : IsOffering l.w l.out l.vs pend x.c m row.epoch.0 x.part.front.kept = ⊎_elim
        (λ (a : IsPast row.epoch.0 (x.part.nodes m).row × IsOffering l.w l.out l.vs pend x.c m row.epoch.0 x.part.front.kept). a.1)
        (λ (a : IsDecided row.epoch.0 (x.part.nodes m).row × NodeAgrees l.w l.out l.vs pend l.was_reset x.c (x.part.nodes m)).
        absurd (not (subst (λ (e : ℕ). IsDecided e p.row) now (subst (λ (i : ℕ). IsDecided row.epoch.0 (x.part.nodes i).row) mine a.0)))) away in
        let spelled : message x.c row.epoch.0 (body.Offer (parts_of offering.block offering.count)) ≡ bytes = ap first_bytes (sym offering.kept_is ∙ kept.1) ∙ kept.2 in
        let early = early-at x help.placed row found in
        let same : parts ≡ parts_of offering.block offering.count = offers-read x.c row.epoch.0 l.w l.out l.vs pend offering.block offering.count help.number (omega (arith, early)) talk-of.stream offering.holds offering.frozen _ parts
        (ap decoded_message spelled ∙ spells) refl in
        let all = subst (λ (q : EndpointParts). DeedKeeps env.serve.files env.serve.c env.epoch p l.w l.out l.vs l.was_reset (node_offered env p q)) (sym same) (offers-keep env l.w l.out l.vs pend l.was_reset p offering.block offering.count talk-of offering.holds offering.frozen (takes new)) in
        deed-with heads quiet (node_offered env p parts) (own-keeps (node_offered env p parts) all) row found (subst (IsAt n) (sym at) mine) (now ∙ sym is.epoch_is)
        (λ f over. subst (HasEnded f) (sym found) (let le : f < env.epoch = less f over in omega (arith, le, is.epoch_is, now))) help where
          first_bytes : List Kept → List ℕ
          first_bytes [] = []
          first_bytes (q ∷ qs) = q.bytes

    offer-stage : (row : FrontRow) → x.part.front.row ≡ Some row → (d : FrontConn) → row.stage ≡ d → Offers n epoch d → Decides New → (IsDecided epoch p.row → ⊥) → ((f : ℕ) → IsOver f p.row → f < env.epoch) → Goes heads (node_offered env p parts)
    offer-stage row found (stage.Offering m d) at f new not less = offer-at row m d found at f.0 f.1 new not less
    offer-stage row found _ at f new not less = absurd f

    offer-row : (row : Option FrontRow) → x.part.front.row ≡ row → IsOffered n epoch row → Decides New → (IsDecided epoch p.row → ⊥) → ((f : ℕ) → IsOver f p.row → f < env.epoch) → Goes heads (node_offered env p parts)
    offer-row None found f new not less = absurd f
    offer-row (Some row) found f new not less = offer-stage row found row.stage refl f new not less

    offer-new : Decides New → (IsDecided epoch p.row → ⊥) → ((f : ℕ) → IsOver f p.row → f < env.epoch) → Goes heads (node_offered env p parts)
    offer-new new not less help = offer-row x.part.front.row refl (said-new help.placed new not) new not less help

    answer-goes : Goes heads (Says (taken_sent env))
    answer-goes help = stands-goes k small x s there l pend o n heads [] (taken_sent env) tt refl refl refl (quiet (Says (taken_sent env)))
        (says-fair heads (taken_sent env) (own-keeps (Says (taken_sent env)) (inr refl)) help) help

    over-below : (row : Option BackRow) (f : ℕ) → offer_answer env.epoch row ≡ New → IsOver f row → f < env.epoch
    over-below None f new over = absurd over
    over-below (Some row) f new over = let less : row.epoch.0 < env.epoch = new-below env.epoch row new in omega (arith, over.0, less)

    offer-back : (a : Adopt) → Decides a → Goes heads (node_offered env p parts)
    offer-back Again is_so = subst (λ (a : Adopt). Goes heads (offered_by env parts p a)) (sym is_so) answer-goes
    offer-back Stale is_so = subst (λ (a : Adopt). Goes heads (offered_by env parts p a)) (sym is_so) (drops-goes heads quiet)
    offer-back Refuse is_so = subst (λ (a : Adopt). Goes heads (offered_by env parts p a)) (sym is_so) (refuse-goes heads quiet)
    offer-back New is_so =
        let new : offer_answer env.epoch p.row ≡ New = (decision-new env.leaving env.epoch p.row p.beside is_so).0 in
        offer-new is_so (λ h. not-decided env.epoch p.row new (subst (λ (e : ℕ). IsDecided e p.row) (sym is.epoch_is) h)) (λ i over. over-below p.row i new over)

    pub offers-goes : Goes heads (node_offered env p parts)
    offers-goes = offer-back (offer_decision env.leaving env.epoch p.row p.beside) refl
