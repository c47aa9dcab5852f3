-- Each rule of a node tells its client all that came, and asks for what its batch is.
use Rattle.std.proofs.Common.{◌≡◌, ◌≤◌, ◌+◌, ◌^◌, ℕ, cond, List, [], ◌∷◌, ◌++◌, length, map, take, Option, Some, None, inl, refl, sym, ap, ◌∙◌, subst, arith}
use Rattle.std.proofs.lemmas.List.{map-append}
use Rattle.lard_law_view.specs.Prelude.{AreSent, BackRow, Completed, Conn, ControlBlock, EndpointParts, FilesAt, Front, IsConnNumber, IsConnSound, IsNodeEnv, Kept, Move, Node, NodeDeed, NodeEnv, NodeGets, NodePart, NodeRules, NodeTurn, Place, Rec, Seen, Setting, Stay, Tale, Talk, Work, after_timer, again_sent, came_for, come_progress, content_said, gives_back, goes_on, gone, named_records, node_does, node_fired, node_rule, nothing_said, offer_answer, offered_by, on_segment, packet_seen, read_progress, reads_first, seen_step, sent_of, served_in, serving, serving_ready_of, spoken, stands, tagged, taken_sent, tale_at, tale_step, timed, verdicts, with_node, with_work, without, work_of}
use Rattle.lard_base.specs.declared.place.TimerKind.TheVariants as timer
use Rattle.lard_law_connections.specs.BytesAgreement.{IsOpen, IsTruthful}
use Rattle.lard_law_connections.proofs.BytesLaw.{IsHead}
use Rattle.lard_law_connections.specs.BytesTurning.{IsNoteOf}
use Rattle.lard_law_connections.proofs.BytesClientMoves.{open-at}
use Rattle.lard_law_connections.proofs.BytesFrontMessages.{opened-at}
use Rattle.lard_law_connections.proofs.BytesNodeRest.{front-opens}
use Rattle.lard_law_connections.proofs.BytesNodeTurns.{talk-of}
use Rattle.lard_law_connections.proofs.BytesTold.{bytes_of, named-each, named-served}
use Rattle.lard_law_connections.proofs.LineSpeaking.{IsTold}
use Rattle.lard_law_connections.proofs.PlacesRows.{IsPlain}
use Rattle.lard_law_connections.proofs.PlacesTurns.{IsPlaced, Owes}
use Rattle.lard_laws.specs.Sizes.{SizeMarks, TakeOver, take_over_step}
use Rattle.lard_laws.proofs.SizesMoving.{IsSaid, IsTelling, acts, marks_now, node-said}
use Rattle.lard_laws.proofs.SizesOffers.{new-fits}
use Rattle.lard_laws.proofs.SizesReading.{HasGoodBehind}
use Rattle.lard_laws.proofs.SizesStays.{IsAgreeing, comes-fit, fires-fit, hears-fit, leaves-fit, reads-fit, tags-fit}
use Rattle.lard_laws.proofs.SizesTaken.{named-take, plain-taken}
use Rattle.lard_laws.proofs.SizesTurns.{DeedFits, PartLeft, PartReach, Reads, RowLeft, RowReach, RowReads, SaysFit, StayLeft, now_told, other-says, past_take_over, reads-reach}
use Rattle.lard_law_view.proofs.Fine.{IsItsOwn}
use Rattle.lard_law_view.proofs.Parts.{put-same}
use Rattle.lard_law_view.proofs.Rows.{tale_before}
use Rattle.lard_laws.specs.WaysState.{GoesItsWay}
use Rattle.lard_history.proofs.Each.{Each, Each-append}
use Rattle.lard_history.proofs.Seeing.{other_number}
use Rattle.lard_journal.specs.declared.rec.Rec.TheVariants as rec
use Rattle.lard_message.specs.declared.kind.Kind.TheVariants as kind
use Rattle.lard_message.specs.declared.message.Body.TheVariants as body
use Rattle.lard_handoff_back.specs.declared.table.Adopt.TheVariants.{New}
use Rattle.lard_law_view.proofs.EachNode.{Answers, Aside, Brings, HasCome, MayAside, NodeComes, Queues, aside_said, aside_seen, each-node, job_notes, told_first}
use Rattle.lard_law_view.proofs.NodeHeads.{heads-of}
use Rattle.lard_laws.proofs.NodeStays.{StayHolds, stay-holds, word-of}
use Rattle.lard_rules.proofs.NodeCases.{IsHereWith, IsOfItsEpoch, KeptByNode, Turned, node-keeps, of-here}
use Rattle.std.specs.List.{fold}
use Rattle.lard_rules.specs.Node.{Does, Drops, Says}
use Rattle.lard_rules.specs.NodePlace as node_place

-- it tells nothing of bytes
abbrev IsStill : Seen → Type 0
IsStill y = (c : ℕ) (t : Tale) → bytes_of (seen_step (tale_step c) t y) ≡ bytes_of t

-- ---- a deed as a move

module _ (files : FilesAt) (x : Conn) (n u : ℕ) (reads : Reads u x) where
  abbrev p : NodePart
  p = x.part.nodes n

  abbrev past : SizeMarks
  past = marks_now x

  -- what a move owes
  abbrev pub Said : Move → Type 0
  Said v = IsItsOwn x v → Owes x v → IsPlaced x → IsTelling files x → IsSaid files u x v

  -- the same is told behind these
  still-told : (notes : List Rec) → served_in notes ≡ 0 → Each IsPlain notes → past ≡ now_told files x.c x n u past notes []
  still-told notes none plain = λ i. record past { served = plus-none past.served (served_in notes) none i; taken = sym (plain-taken x.c (past_take_over files x.c x n u past) notes plain) i } where
    plus-none : (a b : ℕ) → b ≡ 0 → a ≡ a + b
    plus-none a b e = omega (arith, e)

  -- it says this alone, behind these notes
  pub stands-said : (heads : List Seen) (notes : List Rec) (ms : List (Place × List ℕ)) → Each IsHead heads → bytes_of (tale_before x (stands x (Node n) heads (record nothing_said { notes = notes; messages = ms }))) ≡ bytes_of (tale_at x) → Each (IsNoteOf x.c) notes → served_in notes ≡ 0
      → Each IsPlain notes → Each (SaysFit files x.c x n u past past) ms → Said (stands x (Node n) heads (record nothing_said { notes = notes; messages = ms }))
  stands-said heads notes ms are quiet each none plain says own owes placed h =
      let same : past ≡ now_told files x.c x n u past notes [] = still-told notes none plain in
      node-said files u x n heads notes [] [] ms x.part own owes placed are quiet each tt (λ q other. refl) (subst (λ (m : SizeMarks). PartLeft files m p) same (h.left n)) (reads-reach u past.wrote p.stay p.row (reads.here n))
      (subst (λ (m : SizeMarks). Each (SaysFit files x.c x n u past m) ms) same says) h reads

  -- a turn, whose notes are those that name a connection, behind others that tell nothing
  does-said : (heads : List Seen) (first : List Rec) (given : NodePart × NodeTurn) → Each IsHead heads → bytes_of (tale_before x (acts files u x n heads (first ++ named_records given.1.notes) given.1.segments given.1.gave given.1.messages (with_node x.part n given.0))) ≡ bytes_of (tale_at x)
      → Each (IsNoteOf x.c) (first ++ named_records given.1.notes) → served_in (first ++ named_records given.1.notes) ≡ served_in given.1.notes
      → ((t : TakeOver) → fold (take_over_step x.c) t (first ++ named_records given.1.notes) ≡ fold (take_over_step x.c) t given.1.notes) → DeedFits files x.c x n u past (Does given)
      → Said (acts files u x n heads (first ++ named_records given.1.notes) given.1.segments given.1.gave given.1.messages (with_node x.part n given.0))
  does-said heads first given are quiet each count takes t own owes placed h =
      let named : List Rec = first ++ named_records given.1.notes in
      let now : List Rec → SizeMarks = λ rs. now_told files x.c x n u past rs given.1.segments in
      let same : now given.1.notes ≡ now named = λ i. record (now given.1.notes) { served = past.served + sym count i; taken = (sym (takes (past_take_over files x.c x n u past)) i).taken } in
      node-said files u x n heads named given.1.segments given.1.gave given.1.messages (with_node x.part n given.0) own owes placed are quiet each t.to
      (λ q other. ap (λ b. cond b given.0 (x.part.nodes q)) (other_number q n other))
      (subst (λ (m : SizeMarks). PartLeft files m ((with_node x.part n given.0).nodes n)) same (subst (PartLeft files (now given.1.notes)) (sym (put-same x.part.nodes n given.0)) t.left))
      (subst (PartReach u past.wrote) (sym (put-same x.part.nodes n given.0)) t.reach)
      (subst (λ (m : SizeMarks). Each (SaysFit files x.c x n u past m) given.1.messages) same t.says) h reads

  pub deed-said : (heads : List Seen) (d : NodeDeed) → Each IsHead heads → ((v : NodeDeed) → bytes_of (tale_before x (node_does x n heads v)) ≡ bytes_of (tale_at x)) → DeedFits files x.c x n u past d → Said (node_does x n heads d)
  deed-said heads Drops are quiet f = stands-said heads [] [] are (quiet Drops) tt refl tt tt
  deed-said heads (Says ms) are quiet f = stands-said heads [] ms are (quiet (Says ms)) tt refl tt f
  deed-said heads (Does given) are quiet f = does-said heads [] given are (quiet (Does given)) (named-each x.c given.1.notes f.each) (named-served x.c given.1.notes f.each) (λ t. named-take x.c t given.1.notes) f

  -- behind the record of a job
  pub first-said : (i : ℕ) (path : List ℕ) (d : NodeDeed) → DeedFits files x.c x n u past d → Said (reads_first (rec.Read n n x.c i path) (node_does x n [] d))
  first-said i path Drops f = stands-said [] (rec.Read n n x.c i path ∷ []) [] tt refl (tt, tt) refl (tt, tt) tt
  first-said i path (Says ms) f = stands-said [] (rec.Read n n x.c i path ∷ []) ms tt refl (tt, tt) refl (tt, tt) f
  first-said i path (Does given) f = does-said [] (rec.Read n n x.c i path ∷ []) given tt refl (tt, named-each x.c given.1.notes f.each) (named-served x.c given.1.notes f.each) (λ t. named-take x.c t given.1.notes) f

  -- what is kept was sent before
  sent-says : (now : SizeMarks) (ks : List Kept) → AreSent x (Node n) ks → Each (SaysFit files x.c x n u past now) (map sent_of ks)
  sent-says now [] h = tt
  sent-says now (q ∷ ks) h = (inl h.0.1, sent-says now ks h.1)

  pub again-says : IsConnSound x → (now : SizeMarks) → Each (SaysFit files x.c x n u past now) (again_sent p)
  again-says sound now = subst (Each (SaysFit files x.c x n u past now)) (sym (map-append sent_of p.kept p.fetches))
      (Each-append (SaysFit files x.c x n u past now) (map sent_of p.kept) (map sent_of p.fetches) (sent-says now p.kept (sound.kept n)) (sent-says now p.fetches (sound.fetches n)))

  -- the end of a stay is acknowledged
  gone-left : (m : SizeMarks) (o : Option Stay) (row : Option BackRow) → RowLeft files m o (gone row)
  gone-left m o None = tt
  gone-left m o (Some row) = tt

  gone-reach : (wrote : List ℕ) (o : Option Stay) (row : Option BackRow) → RowReach u wrote o (gone row)
  gone-reach wrote o None = tt
  gone-reach wrote o (Some row) = tt

  -- what comes, and the record of a job that was completed, tell nothing
  still-bytes : (heads : List Seen) (t : Tale) → Each IsStill heads → bytes_of (fold (seen_step (tale_step x.c)) t heads) ≡ bytes_of t
  still-bytes [] t h = refl
  still-bytes (y ∷ ys) t h = still-bytes ys (seen_step (tale_step x.c) t y) h.1 ∙ h.0 x.c t

  pub rule-said : (epoch : ℕ) (heads : List Seen) (g : NodeGets) → NodeComes x n epoch heads g → (d : NodeDeed) → DeedFits files x.c x n u past d
      → Said (told_first (job_notes x.c n g) (node_does x n heads d))
  rule-said epoch heads (Completed r path) comes d f = subst (λ (hs : List Seen). Said (reads_first (rec.Read n n x.c r path) (node_does x n hs d))) (sym comes) (first-said r path d f)
  rule-said epoch heads g comes d f = deed-said heads d (heads-of IsHead (λ l. tt) (λ i c. tt) x n epoch heads g comes) quiet f where
    still : bytes_of (fold (seen_step (tale_step x.c)) (tale_at x) heads) ≡ bytes_of (tale_at x)
    still = still-bytes heads (tale_at x) (heads-of IsStill (λ l c t. refl) (λ i e c t. refl) x n epoch heads g comes)

    quiet : (v : NodeDeed) → bytes_of (tale_before x (node_does x n heads v)) ≡ bytes_of (tale_at x)
    quiet Drops = still
    quiet (Says messages) = still
    quiet (Does given) = still

-- ---- the rules

module _ (k : Setting) (small : k.stream ≤ 2 ^ 30) (x : Conn) (number : IsConnNumber x.c) (sound : IsConnSound x) (truth : IsTruthful k.files x) (g : GoesItsWay k.files x) (placed : IsPlaced x) (h : IsTelling k.files x) (u : ℕ) (reads : Reads u x)
    (n epoch : ℕ) (env : NodeEnv) (is : IsNodeEnv k x.c n epoch env) (heads : List Seen) where
  abbrev part : NodePart
  part = x.part.nodes n

  abbrev before : SizeMarks
  before = marks_now x

  abbrev l : Talk
  l = truth.talk

  abbrev pub Fits : NodeDeed → Type 0
  Fits d = DeedFits k.files x.c x n u before d

  -- of the run's files, and this connection
  own-fits : (d : NodeDeed) → DeedFits env.serve.files env.serve.c x n u before d → Fits d
  own-fits d f = subst (λ (files : FilesAt). DeedFits files x.c x n u before d) is.files (subst (λ (c : ℕ). DeedFits env.serve.files c x n u before d) is.number f)

  own-turned : (q : NodePart) (w : Work) → Turned (λ d. DeedFits env.serve.files env.serve.c x n u before d) env q [] w → Turned Fits env q [] w
  own-turned q w h = (λ rests. own-fits (with_work env q [] w) (h.0 rests), λ back. own-fits (gives_back env q [] w) (h.1 back))

  own-way : GoesItsWay env.serve.files x
  own-way = subst (λ (files : FilesAt). GoesItsWay files x) (sym is.files) g

  agreeing : (b : ControlBlock) (t : Stay) → IsHereWith env.epoch part b t → IsAgreeing env u before l truth.pend b t
  agreeing b t at =
      let y : StayHolds k small x truth n epoch env is b t = stay-holds k small x truth n epoch env is placed b t at in
      let o : IsOpen k.files x l truth.pend y.station = y.opened in
      let left : IsTold before.told b × StayLeft k.files before (Some t) = of-here (λ (row : Option BackRow) (stay : Option Stay). RowLeft k.files before stay row) env.epoch part b t at (h.left n) in
      record {
        talk = talk-of k small x y.station y.there l truth.pend o n env epoch is;
        num = record { isn = l.w.first; iss = l.out.first };
        numbers = o.tale.numbers;
        isn = refl;
        wrote = o.tale.wrote;
        counted = o.tale.served;
        held = y.held;
        told = left.0;
        read = of-here (λ (row : Option BackRow) (stay : Option Stay). RowReads u stay row) env.epoch part b t at (reads.here n);
        good = subst (λ (y : FilesAt × List ℕ). HasGoodBehind y.0 before.taken (take (t.served + length t.batch) (verdicts y.1))) (λ i. (sym is.files i, o.tale.wrote i)) left.1;
      }

  begins : (parts : EndpointParts) → HasCome x Front n epoch (body.Offer parts) heads → offer_answer env.epoch part.row ≡ New
      → Fits (offered_by env parts part New)
  begins parts come new =
      let s = opened-at k.files x truth (front-opens x n come.bytes come.was) in
      let o : IsOpen k.files x l truth.pend s.0 = open-at k.files x s.0 s.1 truth in
      own-fits (offered_by env parts part New)
      (new-fits k small x number s.0 s.1 l truth.pend o n epoch env is u before (record { isn = l.w.first; iss = l.out.first }) o.tale.numbers refl o.tale.wrote o.tale.served parts come.bytes come.spells come.was placed own-way reads new)

  rules_fit : KeptByNode env part (NodeComes x n epoch heads) Fits
  rules_fit = record {
    drops = tt;
    hears = λ said b t m at.
        own-turned part (goes_on env (work_of (on_segment b said).1 t)) (hears-fit env x n u before l truth.pend part b t (agreeing b t at) said (word-of k x truth n epoch heads said m));
    tags = λ ask nodes b t m at asked same count.
        own-turned (record part { kept = without timer.Ask 0 part.kept }) (goes_on env (tagged env nodes (work_of b t))) (tags-fit env x n u before l truth.pend part b t (agreeing b t at) nodes);
    comes = λ from r b t m at wanted. own-turned (record part { fetches = without timer.Fetch r part.fetches }) (goes_on env (came_for (come_progress from) r (work_of b t))) (comes-fit env x n u before l truth.pend part b t (agreeing b t at) from r);
    reads = λ r path b t m at.
        own-turned part (goes_on env (came_for read_progress r (work_of b t))) (reads-fit env x n u before l truth.pend part b t (agreeing b t at) r);
    begins = λ parts m new may. begins parts m new;
    takes_again = λ parts m again.
        own-fits (Says (taken_sent env)) (other-says env.serve.files x n u before before env.serve.c env.epoch Front body.Taken (λ e. let no : kind.Taken ≡ kind.Ask = e in absurd cc), tt);
    refuses = λ parts m is. record {
      each = tt;
      to = tt;
      left = h.left n;
      reach = reads-reach u before.wrote part.stay part.row (reads.here n);
      says = (other-says k.files x n u before _ env.serve.c env.epoch Front body.Refused (λ e. let no : kind.Refused ≡ kind.Ask = e in absurd cc), tt);
    };
    fires = λ b t m at.
        own-fits (Does (node_fired env part (b, t) (spoken env.serve (serving (after_timer b) t.served []) (serving_ready_of env.serve (after_timer b) (timed b)))))
        (fires-fit env x n u before l truth.pend part b t (agreeing b t at) (λ now. again-says env.serve.files x n u reads sound now));
    resends = λ m none. again-says k.files x n u reads sound before;
    ends = λ back m told was.
        record { each = tt; to = tt; left = gone-left k.files x n u reads before part.stay part.row; reach = gone-reach k.files x n u reads before.wrote part.stay part.row; says = tt };
    leaves = λ b t m at back. own-fits (gives_back env part [] (work_of b t)) (leaves-fit env x n u before l truth.pend part b t (agreeing b t at) back);
  }

  pub rule-fits : (g : NodeGets) → IsOfItsEpoch env part g → NodeComes x n epoch heads g → Fits (node_rule env part g)
  rule-fits g at comes = node-keeps env part (NodeComes x n epoch heads) Fits rules_fit g at comes

module _ (k : Setting) (small : k.stream ≤ 2 ^ 30) where
  -- what is owed of a move, where the laws below hold of its connection
  abbrev pub Owed : Conn → Move → Type 0
  Owed x v = IsConnNumber x.c → IsConnSound x → IsTruthful k.files x → GoesItsWay k.files x → IsItsOwn x v → Owes x v → IsPlaced x → IsTelling k.files x → (u : ℕ) → Reads u x → IsSaid k.files u x v

  content-says : (x : Conn) (n u from epoch r : ℕ) (path : List ℕ) → Each (SaysFit k.files x.c x n u (marks_now x) (marks_now x)) (content_said k n from x.c epoch r path).messages
  content-says x n u from epoch r path = (other-says k.files x n u (marks_now x) (marks_now x) x.c epoch (Node from) (body.Content r (node_place.content_bytes (k.files path))) (λ e. let no : kind.Content ≡ kind.Ask = e in absurd cc), tt)

  asides-said : (x : Conn) (n : ℕ) (a : Aside) → MayAside k x n a → Owed x (stands x (Node n) (aside_seen n a) (aside_said k n x.c a))
  asides-said x n (Answers from epoch r path file bytes) may number sound truth g own owes placed h u reads =
      stands-said k.files x n u reads (packet_seen (Node from) (Node n) bytes) [] (content_said k n from x.c epoch r path).messages (tt, tt) refl tt refl tt (content-says x n u from epoch r path) own owes placed h
  asides-said x n (Queues from epoch r path file bytes) may number sound truth g own owes placed h u reads =
      stands-said k.files x n u reads (packet_seen (Node from) (Node n) bytes) (rec.Queued n from x.c r path ∷ []) [] (tt, tt) refl (tt, tt) refl (tt, tt) tt own owes placed h
  asides-said x n (Brings from epoch r path) may number sound truth g own owes placed h u reads =
      stands-said k.files x n u reads [] (rec.Read n from x.c r path ∷ []) (content_said k n from x.c epoch r path).messages tt refl (tt, tt) refl (tt, tt) (content-says x n u from epoch r path) own owes placed h

  pub nodes : NodeRules k Owed
  nodes = each-node k Owed (record {
    does = λ x n epoch env heads g is at comes number sound truth way own owes placed h u reads.
        rule-said k.files x n u reads epoch heads g comes (node_rule env (x.part.nodes n) g) (rule-fits k small x number sound truth way placed h u reads n epoch env is heads g at.0 comes) own owes placed h;
    aside = asides-said;
  })
