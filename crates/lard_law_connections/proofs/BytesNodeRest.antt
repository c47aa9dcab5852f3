-- The acknowledgement of an end, what a node does for others, and what changes nothing, leave a connection in agreement.
use Rattle.lard_segment.specs.Segment as spelling
use Rattle.lard_law_view.specs.Prelude.{Acknowledged, BackRow, Completed, Conn, Content, EachRow, FilesAt, Fires, Forwarded, Front, FrontConn, FrontRow, IsNodeEnv, Leaves, Move, Node, NodeDeed, NodeEnv, NodeGets, NodePart, NodeRules, Offered, Place, Rec, Seen, SegFault, Setting, Station, Stream, Tagged, Tale, Talk, TimerKind, ToCluster, TurnSaid, Verdict, Was, awaits_ack, awaits_told, back_endpoint, both_of, bytes_served_in, come_by, content_said, decoded, goes_back_by, gone, grown, is_ended, is_reset_record, letter, letters_of, node_acknowledged, node_does, node_forwarded, node_put_back, node_read_by, node_rule, node_saying, nothing_said, packet_seen, seen_in, seen_step, served_in, stands, staying, tale_at, tale_step, timer_rows, told_kind, told_on, with_node, without}
use Rattle.lard_law_connections.specs.BytesTurning.{IsNoteOf}
use Rattle.std.proofs.Common.{Bool, List, None, Option, Result, Some, [], ap, arith, cond, eqb-true, false, inl, inr, map, refl, subst, sym, true, ℕ, ⊎_elim, ◌<◌, ◌==◌, ◌^◌, ◌∙◌, ◌∷◌, ◌≡◌, ◌≤◌}
use Rattle.std.specs.List.{fold, list_any}
use Rattle.std.proofs.lemmas.Bool.{and_parts, both_ways, cond_both}
use Rattle.lard_law_connections.specs.BytesAgreement.{ConnAgrees, IsFair, IsInner, IsOffering, IsOpen, IsTruthful, IsConnUnopened, NodeAgrees, SeatAgrees, StageAgrees}
use Rattle.lard_law_connections.proofs.BytesLaw.{Helps, IsSeenTrue, IsTrueMove, OwnerServes, StaysTruthful}
use Rattle.lard_law_connections.specs.BytesRecords.{IsOwnedTrueAfter}
use Rattle.lard_law_connections.proofs.BytesNext.{mute-answers}
use Rattle.lard_law_connections.proofs.BytesTelling.{Tells, gave-true, heads-true, messages-true, notes-true, timers-true}
use Rattle.lard_law_connections.proofs.BytesClientMoves.{has-fair, open-at}
use Rattle.lard_law_connections.proofs.BytesMoves.{idle-goes, move-goes}
use Rattle.lard_law_connections.proofs.BytesNodeMoves.{ends-put, stands-goes, ways-put}
use Rattle.lard_law_connections.proofs.BytesNodeTurns.{contents-goes, fires-goes, forwards-goes, leaves-goes, offers-goes, read-goes, tags-goes}
use Rattle.lard_law_connections.proofs.BytesTold.{Bytes, bytes_of, gave-fin, heads-fin, move-bytes, place-notes}
use Rattle.lard_law_view.proofs.NodeHeads.{of-heads}
use Rattle.lard_law_connections.specs.Places.{HasEnded, IsDecided, IsOver, IsPast, Owning, Sits, owning}
use Rattle.lard_law_view.specs.View.{sending}
use Rattle.lard_law_view.proofs.EachNode.{Answers, Aside, Brings, NodeComes, Queues, aside_said, aside_seen, each-node, job_notes, node_goes, told_first}
use Rattle.lard_law_view.proofs.Rows.{grown-tale, move-lawful, tale_before, tale_said}
use Rattle.lard_law_view.proofs.Timers.{timer_rows-are}
use Rattle.lard_handoff_back.specs.declared.row.BackConn.TheVariants as back
use Rattle.lard_handoff_front.specs.declared.row.FrontConn.TheVariants as stage
use Rattle.lard_history.proofs.Each.{Each, Each-append}
use Rattle.lard_journal.specs.declared.rec.Rec.TheVariants as rec
use Rattle.lard_rules.specs.Node.{Does, Drops, Says}
use Rattle.lard_segment.proofs.Again.{again}
use Rattle.lard_law_connections.proofs.PlacesNodeEnds.{acks-say}

-- ---- the acknowledgement of an end

module _ (k : Setting) (small : k.stream ≤ 2 ^ 30) (x : Conn) (s : Station) (there : x.part.station ≡ Some s) (l : Talk) (pend : List Verdict) (o : IsOpen k.files x l pend s) (n : ℕ) (heads : List Seen) (quiet : (d : NodeDeed) → bytes_of (tale_before x (node_does x n heads d)) ≡ bytes_of (tale_at x)) where
  abbrev p : NodePart
  p = x.part.nodes n

  abbrev Goes : NodeDeed → Type 0
  Goes d = Helps x (node_does x n heads d) → IsTrueMove k.files x (node_does x n heads d)

  module _ (told : TimerKind) (row : BackRow) (found : p.row ≡ Some row) (ended : HasEnded row.epoch.0 x.part.front.row) where
    abbrev q : NodePart
    q = record p { row = gone p.row; kept = without told 0 p.kept }

    gone-is : q.row ≡ Some (record row { stage = back.Gone })
    gone-is = ap gone found

    -- the connection is elsewhere: in a later epoch
    past-put : (m e : ℕ) → row.epoch.0 < e → IsPast e (x.part.nodes m).row → IsPast e (node_put_back x.part.nodes n q m).row
    past-put m e less h = go (m == n) where
      go : (b : Bool) → IsPast e (cond b q (x.part.nodes m)).row
      go true = subst (IsPast e) (sym gone-is) (less, tt)
      go false = h

    has-put : (m e : ℕ) → row.epoch.0 < e → IsDecided e (x.part.nodes m).row × NodeAgrees l.w l.out l.vs pend l.was_reset x.c (x.part.nodes m)
        → IsDecided e (node_put_back x.part.nodes n q m).row × NodeAgrees l.w l.out l.vs pend l.was_reset x.c (node_put_back x.part.nodes n q m)
    has-put m e less h = go (m == n) refl where
      go : (b : Bool) → (m == n) ≡ b → IsDecided e (cond b q (x.part.nodes m)).row × NodeAgrees l.w l.out l.vs pend l.was_reset x.c (cond b q (x.part.nodes m))
      go true same = let g : e ≤ row.epoch.0 = subst (IsDecided e) found (subst (λ (i : ℕ). IsDecided e (x.part.nodes i).row) (eqb-true m n same) h.0) in absurd (omega (arith, g, less))
      go false same = h

    stage-put : (e : ℕ) → row.epoch.0 < e → (d : FrontConn) → StageAgrees l.w l.out l.vs pend l.was_reset x.c x.part e d → StageAgrees l.w l.out l.vs pend l.was_reset x.c (with_node x.part n q) e d
    stage-put e less (stage.Offering m d) h = ⊎_elim
        (λ (a : IsPast e (x.part.nodes m).row × IsOffering l.w l.out l.vs pend x.c m e x.part.front.kept). inl (past-put m e less a.0, a.1))
        (λ (a : IsDecided e (x.part.nodes m).row × NodeAgrees l.w l.out l.vs pend l.was_reset x.c (x.part.nodes m)). inr (has-put m e less a)) h
    stage-put e less (stage.Moved m d) h = has-put m e less h
    stage-put e less _ h = h

    row-put : (r : Option FrontRow) → HasEnded row.epoch.0 r → SeatAgrees l.w l.out l.vs pend l.was_reset x.c x.part r → SeatAgrees l.w l.out l.vs pend l.was_reset x.c (with_node x.part n q) r
    row-put None less h = absurd less
    row-put (Some f) less h = stage-put f.epoch.0 less f.stage h

    over-known : (f : ℕ) → IsOver f p.row → (r : Option FrontRow) → HasEnded row.epoch.0 r → HasEnded f r
    over-known f over None less = absurd less
    over-known f over (Some g) less = let le : IsOver f (Some row) = subst (IsOver f) found over in omega (arith, le.0, less)

    gone-goes : Goes (Does (q, node_saying []))
    gone-goes help = move-goes k.files x s there l pend o (node_does x n heads (Does (q, node_saying []))) help
        (record { heads = quiet (Does (q, node_saying [])); station = refl; offers = λ i f a b. refl; ends = ends-put x n q (λ f over. over-known f over x.part.front.row ended) })
        (idle-goes k.files x s there l pend o (node_does x n heads (Does (q, node_saying []))) (record { each = tt; served = refl; size = refl; reset = refl; seat = row-put x.part.front.row ended o.seat; ways = ways-put x n q k.files o.ways (o.ways n); sent = tt; letters = tt }))

  rest-drops : Goes Drops
  rest-drops help = stands-goes k small x s there l pend o n heads [] [] tt refl refl refl (quiet Drops) tt help

  -- what answers that its stay is over
  acknowledged-goes : (env : NodeEnv) (back : Bool) → HasEnded env.epoch x.part.front.row → Goes (node_acknowledged env back p)
  acknowledged-goes env back ended = cond_both (awaits_told back env p) (Does (gone_part, node_saying [])) Drops Goes (λ t. by-row p.row refl (awaited back t)) (λ t. rest-drops) where
    gone_part : NodePart
    gone_part = record p { row = gone p.row; kept = without (told_kind back) 0 p.kept }

    awaited : (b : Bool) → awaits_told b env p ≡ true → awaits_ack env.epoch p.row ≡ true
    awaited true t = (and_parts (awaits_ack env.epoch p.row) _ t).0
    awaited false t = (and_parts (awaits_ack env.epoch p.row) _ t).0

    by-row : (r : Option BackRow) → p.row ≡ r → awaits_ack env.epoch r ≡ true → Goes (Does (gone_part, node_saying []))
    by-row None found t = absurd (both_ways false refl t)
    by-row (Some row) found t = gone-goes (told_kind back) row found
        (subst (λ (f : ℕ). HasEnded f x.part.front.row) (sym (eqb-true row.epoch.0 env.epoch (and_parts (row.epoch.0 == env.epoch) (is_ended row.stage) t).0)) ended)

-- ---- nothing of bytes happens to one whose client did not open

module _ (files : FilesAt) (x : Conn) (none : x.part.station ≡ None) (h : IsTruthful files x) where
  pub never : IsConnUnopened x
  never = subst (ConnAgrees files x h.talk h.pend) none h.agrees

  -- what is told then is of no stream
  abbrev nobody : Stream
  nobody = record { first = 0; bytes = []; ended = true }

  module _ (place : Place) (heads : List Seen) (said : TurnSaid) (each : Each (IsNoteOf x.c) said.notes) (served : served_in said.notes ≡ 0) (calm : list_any is_reset_record said.notes ≡ false) (silent : said.segments ≡ []) (help : Helps x (stands x place heads said)) where
    abbrev v : Move
    v = stands x place heads said

    abbrev before : Tale
    before = tale_before x v

    abbrev noted : Tale
    noted = told_on x.c before said.notes

    none-sent : told_on x.c noted (map (sending place) said.segments) ≡ noted
    none-sent = ap (λ (ss : List (Place × List ℕ)). told_on x.c noted (map (sending place) ss)) silent

    still-none : (tale_at (grown x v)).fin_sent ≡ false
    still-none = ap (λ (u : Tale). u.fin_sent) (grown-tale x v help.own.messages)
        ∙ gave-fin x.c x.c place said.gave (told_on x.c noted (map (sending place) said.segments)) help.own.gave
        ∙ ap (λ (u : Tale). u.fin_sent) none-sent
        ∙ (place-notes x.c before said.notes each).fin_sent
        ∙ heads-fin x.c heads (tale_at x) help.heads
        ∙ never.fin

    seen-true : EachRow (IsSeenTrue files x.c) x.seen (seen_in x v)
    seen-true = move-lawful (IsOwnedTrueAfter files x.c) x v (heads-true files x.c x.seen heads help.heads)
        (notes-true files x.c nobody before said.notes each (inr served) (λ e. refl)
        (subst (λ (o : Option Place). OwnerServes x.c o said.notes) (sym (ap (λ (w : Owning). w.owner) help.owes.same)) help.serves) (mute-answers files x.c before said.notes each served calm))
        (subst (λ (ss : List (Place × List ℕ)). Tells files x.c noted (map (sending place) ss)) (sym silent) tt)
        (gave-true files x.c place x.c _ said.gave help.own.gave)
        (messages-true files x.c place x.c (tale_said x v before) said.messages help.own.messages)
        (timers-true files x.c place x.c _ (timer_rows place x.c x.part x.part) (timer_rows-are place x.c x.part x.part))

    unopened-goes : bytes_of noted ≡ bytes_of (tale_at x) → Each IsInner (letters_of v) → IsTrueMove files x v
    unopened-goes told inner =
        let u = never in
        let same : bytes_of (tale_at (grown x v)) ≡ bytes_of (tale_at x) = move-bytes x v help.own.messages help.own.gave ∙ told in (
          record {
            talk = h.talk;
            pend = h.pend;
            agrees = subst (ConnAgrees files (grown x v) h.talk h.pend) (sym none) (record {
              front = u.front;
              stays = u.stays;
              inner = Each-append IsInner x.letters (letters_of v) u.inner inner;
              wrote = ap (λ (b : Bytes). b.wrote) same ∙ u.wrote;
              accepted = ap (λ (b : Bytes). b.accepted) same ∙ u.accepted;
              served = ap (λ (b : Bytes). b.served) same ∙ u.served;
              served_bytes = ap (λ (b : Bytes). b.served_bytes) same ∙ u.served_bytes;
              was_reset = ap (λ (b : Bytes). b.was_reset) same ∙ u.was_reset;
              fin = still-none;
            });
          },
          seen-true,
        )

  -- no node has it
  pub nothing-here : (n e : ℕ) → Sits (owning (tale_at x)) x.part.nodes x.part.front.row → both_of (staying e (x.part.nodes n).row) (x.part.nodes n).stay ≡ None
  nothing-here n e sits = go (x.part.nodes n).row ((subst (Sits (owning (tale_at x)) x.part.nodes) never.front sits).1 n) where
    go : (r : Option BackRow) → IsPast 0 r → both_of (staying e r) (x.part.nodes n).stay ≡ None
    go None past = refl
    go (Some row) past = absurd (omega (arith, past.0))

  pub nothing-held : (n : ℕ) → Sits (owning (tale_at x)) x.part.nodes x.part.front.row → both_of (back_endpoint (x.part.nodes n).row) (x.part.nodes n).stay ≡ None
  nothing-held n sits = go (x.part.nodes n).row ((subst (Sits (owning (tale_at x)) x.part.nodes) never.front sits).1 n) where
    go : (r : Option BackRow) → IsPast 0 r → both_of (back_endpoint r) (x.part.nodes n).stay ≡ None
    go None past = refl
    go (Some row) past = absurd (omega (arith, past.0))

-- ---- the rules

-- of one whose client did not open no packet comes between the front end and a node
pub front-opens : (x : Conn) (n : ℕ) (bytes : List ℕ) → Was x Front (Node n) bytes → IsConnUnopened x → ⊥
front-opens x n bytes was u = (has-fair IsInner (record { from = Front; to = Node n; bytes = bytes }) x.letters was u.inner).0

-- what is seen first is of no stream
abbrev IsQuiet : Conn → List Seen → Type 0
IsQuiet x heads = bytes_of (fold (seen_step (tale_step x.c)) (tale_at x) heads) ≡ bytes_of (tale_at x)

node-quiet : (x : Conn) (n : ℕ) (heads : List Seen) → IsQuiet x heads → (d : NodeDeed) → bytes_of (tale_before x (node_does x n heads d)) ≡ bytes_of (tale_at x)
node-quiet x n heads quiet Drops = quiet
node-quiet x n heads quiet (Says messages) = quiet
node-quiet x n heads quiet (Does given) = quiet

module _ (k : Setting) (small : k.stream ≤ 2 ^ 30) where
  -- by whether its client opened
  pub by-station : (x : Conn) (P : Type 0) → ((s : Station) → x.part.station ≡ Some s → P) → (x.part.station ≡ None → P) → P
  by-station x P opened none = go x.part.station refl where
    go : (o : Option Station) → x.part.station ≡ o → P
    go None e = none e
    go (Some s) e = opened s e

  module _ (x : Conn) (h : IsTruthful k.files x) (n epoch : ℕ) (env : NodeEnv) (is : IsNodeEnv k x.c n epoch env) (heads : List Seen)
      (quiet : (d : NodeDeed) → bytes_of (tale_before x (node_does x n heads d)) ≡ bytes_of (tale_at x)) where
    abbrev ours : NodePart
    ours = x.part.nodes n

    abbrev IsStill : NodeGets → NodeDeed → Type 0
    IsStill g d = Helps x (told_first (job_notes x.c n g) (node_does x n heads d))
        → IsTrueMove k.files x (told_first (job_notes x.c n g) (node_does x n heads d))

    module _ (s : Station) (there : x.part.station ≡ Some s) where
      open_now : IsOpen k.files x h.talk h.pend s
      open_now = open-at k.files x s there h

      opened-stays : (g : NodeGets) → NodeComes x n epoch heads g → IsStill g (node_rule env ours g)
      opened-stays (Offered parts) comes =
          offers-goes k small x s there h.talk h.pend open_now n env epoch is heads quiet parts comes.bytes comes.spells comes.was
      opened-stays (Forwarded given) comes =
          let f = (has-fair (IsFair h.talk x.c x.part)
          (record { from = Front; to = Node n; bytes = comes.came.bytes }) x.letters comes.came.was open_now.fair) _ comes.came.spells in
          subst (λ (r : Result spelling.Said SegFault). IsStill (Forwarded r) (node_forwarded env ours r))
          (sym (comes.read ∙ ap (λ (b : List ℕ). decoded b x.c ToCluster) f.1 ∙ again x.c ToCluster f.0 f.2.sendable))
          (forwards-goes k small x s there h.talk h.pend open_now n env epoch is heads quiet f.0 f.2)
      opened-stays (Tagged number nodes) comes = tags-goes k small x s there h.talk h.pend open_now n env epoch is heads quiet number nodes
      opened-stays (Content from r) comes = contents-goes k small x s there h.talk h.pend open_now n env epoch is heads quiet from r
      opened-stays (Acknowledged back) comes = λ help. acknowledged-goes k small x s there h.talk h.pend open_now n heads quiet env back
          (subst (λ (e : ℕ). HasEnded e x.part.front.row) (sym is.epoch_is) (acks-say x help.placed n epoch back comes.bytes comes.was comes.spells)) help
      opened-stays (Completed r path) comes = subst
          (λ (hs : List Seen). Helps x (node_goes x n env hs (Completed r path)) → IsTrueMove k.files x (node_goes x n env hs (Completed r path))) (sym comes)
          (read-goes k small x s there h.talk h.pend open_now n env epoch is r path)
      opened-stays Leaves comes = leaves-goes k small x s there h.talk h.pend open_now n env epoch is heads quiet (is.epoch_is ∙ comes.1)
      opened-stays Fires comes = fires-goes k small x s there h.talk h.pend open_now n env epoch is heads quiet (is.epoch_is ∙ comes.epoch_is)

    module _ (none : x.part.station ≡ None) where
      unopened : IsConnUnopened x
      unopened = never k.files x none h

      -- no node has it
      unopened-stays : (g : NodeGets) → NodeComes x n epoch heads g → IsStill g (node_rule env ours g)
      unopened-stays (Forwarded given) comes = absurd (front-opens x n comes.came.bytes comes.came.was unopened)
      unopened-stays (Content from r) comes = λ help. subst (IsStill (Content from r))
          (sym (ap (come_by env from r ours) (nothing-here k.files x none h n env.epoch help.placed.sits)))
          (λ o. unopened-goes k.files x none h (Node n) heads nothing_said tt refl refl refl o (quiet Drops) tt) help
      unopened-stays (Completed r path) comes = λ help. subst (IsStill (Completed r path))
          (sym (ap (node_read_by env r ours) (nothing-here k.files x none h n env.epoch help.placed.sits)))
          (λ o. unopened-goes k.files x none h (Node n) heads (record nothing_said { notes = rec.Read n n x.c r path ∷ [] }) (tt, tt) refl refl refl o
          (quiet Drops) tt) help
      unopened-stays Leaves comes = λ help. subst (IsStill Leaves) (sym (ap (goes_back_by env ours) (nothing-held k.files x none h n help.placed.sits)))
          (λ o. unopened-goes k.files x none h (Node n) heads nothing_said tt refl refl refl o (quiet Drops) tt) help
      unopened-stays Fires comes = let no : Some comes.station ≡ None = sym comes.there ∙ none in absurd cc
      unopened-stays g comes = absurd (front-opens x n comes.bytes comes.was unopened)

  -- what it does for another node
  for-others : (x : Conn) (n : ℕ) (heads : List Seen) (notes : List Rec) (messages : List (Place × List ℕ)) → Each (IsNoteOf x.c) notes → served_in notes ≡ 0 → bytes_served_in notes ≡ 0 → list_any is_reset_record notes ≡ false
      → ((t : Tale) → bytes_of (told_on x.c t notes) ≡ bytes_of t) → bytes_of (tale_before x (stands x (Node n) heads (record nothing_said { notes = notes; messages = messages }))) ≡ bytes_of (tale_at x)
      → Each IsInner (map (letter (Node n)) messages) → ((l : Talk) → Each (IsFair l x.c x.part) (map (letter (Node n)) messages)) → StaysTruthful k x (stands x (Node n) heads (record nothing_said { notes = notes; messages = messages }))
  for-others x n heads notes messages each served size reset mute quiet inner fair help h =
      by-station x (IsTrueMove k.files x (stands x (Node n) heads (record nothing_said { notes = notes; messages = messages })))
      (λ s there. stands-goes k small x s there h.talk h.pend (open-at k.files x s there h) n heads notes messages each served size reset quiet (fair h.talk) help)
      (λ none. unopened-goes k.files x none h (Node n) heads (record nothing_said { notes = notes; messages = messages }) each served reset refl help (mute _ ∙ quiet) inner)

  aside-stays : (x : Conn) (n : ℕ) (a : Aside) → StaysTruthful k x (stands x (Node n) (aside_seen n a) (aside_said k n x.c a))
  aside-stays x n (Answers from epoch r path file bytes) = for-others x n (packet_seen (Node from) (Node n) bytes) []
      (content_said k n from x.c epoch r path).messages tt refl refl refl (λ t. refl) refl ((tt, tt), tt) (λ l. (tt, tt))
  aside-stays x n (Queues from epoch r path file bytes) = for-others x n (packet_seen (Node from) (Node n) bytes) (rec.Queued n from x.c r path ∷ []) []
      (tt, tt) refl refl refl (λ t. refl) refl tt (λ l. tt)
  aside-stays x n (Brings from epoch r path) = for-others x n [] (rec.Read n from x.c r path ∷ []) (content_said k n from x.c epoch r path).messages
      (tt, tt) refl refl refl (λ t. refl) refl ((tt, tt), tt) (λ l. (tt, tt))

  does-stays : (x : Conn) (n epoch : ℕ) (env : NodeEnv) (heads : List Seen) (g : NodeGets) → IsNodeEnv k x.c n epoch env → NodeComes x n epoch heads g
      → StaysTruthful k x (node_goes x n env heads g)
  does-stays x n epoch env heads g is comes help h =
      let quiet = node-quiet x n heads (of-heads x n (IsQuiet x) (λ from bytes. refl) refl refl epoch heads g comes) in
      by-station x (IsTrueMove k.files x (node_goes x n env heads g)) (λ s there. opened-stays x h n epoch env is heads quiet s there g comes help)
      (λ none. unopened-stays x h n epoch env is heads quiet none g comes help)

  pub nodes : NodeRules k (StaysTruthful k)
  nodes = each-node k (StaysTruthful k)
      (record { does = λ x n epoch env heads g is at comes. does-stays x n epoch env heads g is comes; aside = λ x n a may. aside-stays x n a })

  -- a packet comes, and nothing is done
  pub ignores-stays : (x : Conn) (from to : Place) (bytes : List ℕ) → Was x from to bytes → StaysTruthful k x (stands x to (packet_seen from to bytes) nothing_said)
  ignores-stays x from to bytes was help h =
      let v : Move = stands x to (packet_seen from to bytes) nothing_said in
      by-station x (IsTrueMove k.files x v)
      (λ s there.
      let o = open-at k.files x s there h in
      move-goes k.files x s there h.talk h.pend o v help (record { heads = refl; station = refl; offers = λ i f a b. refl; ends = λ i f over. inl refl })
      (idle-goes k.files x s there h.talk h.pend o v (record { each = tt; served = refl; size = refl; reset = refl; seat = o.seat; ways = o.ways; sent = tt; letters = tt })))
      (λ none. unopened-goes k.files x none h to (packet_seen from to bytes) nothing_said tt refl refl refl help refl tt)
