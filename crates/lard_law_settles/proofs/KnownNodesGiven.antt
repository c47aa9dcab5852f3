-- What the rules of nodes want given, but of their endpoints and of the segments that come to these: so it is of each connection of a run
-- whose clients the schedule did not touch.
use Rattle.std.proofs.Common.{◌≡◌, ◌≤◌, ◌==◌, ◌&&◌, nat_eq, nat_lt, ℕ, Bool, true, false, cond, List, [], ◌∷◌, length, Option, Some, None, Ok, refl, sym, ap, ◌∙◌, subst, arith}
use Rattle.std.specs.Prelude.{All}
use Rattle.std.proofs.lemmas.Bool.{both_ways, cond_both, eq-eqb, le-ltb, ne_eqb, and_from, or_from}
use Rattle.lard_law_view.specs.Prelude.{AreBytes, BackConn, BackRow, Config, Conn, ControlBlock, Event, FilesAt, Front, FrontConn, FrontRow, Has, IsReached, Letter, Machine, Node, NodePart, Packet, Passes, Said, Setting, SpellsMessage, Station, Stay, ToCluster, Verdict, Was, config_check, conn, conn_of, decoded, file_at, front_rest, is_no_node, is_row_at, is_with, letter_of, letters, letters_in, machine_start, one_of, setting, tale_at, verdicts, which_leave, with_leaving}
use Rattle.lard_answers.proofs.Growing.{verdicts-nothing}
use Rattle.lard_bound.specs.Seats.{Held, Here, Offered, Over, SeatNow, Unborn, Waiting, seat_away, seat_decided, seat_in, seat_of, seat_there, seat_untaken, staying_of}
use Rattle.lard_laws.specs.BackingRequests.{IsFor}
use Rattle.lard_laws.specs.BackingState.{LetterFor, SaysFor}
use Rattle.lard_laws.proofs.BackingRules.{each-backed}
use Rattle.lard_law_connections.specs.BytesAgreement.{ConnAgrees, IsInner, IsConnUnopened}
use Rattle.lard_law_connections.proofs.BytesRuns.{states-truthful}
use Rattle.lard_law_connections.proofs.PastClosed.{connections-go-to-new}
use Rattle.lard_law_connections.specs.Past.{GoesToNew, IsNewTo, NewAt, stage_whereabouts, whereabouts}
use Rattle.lard_law_connections.specs.Kept.{HereKeeps, NodeRowKeeps, NodeStageKeeps}
use Rattle.lard_law_connections.specs.KeptLaws.{AnyNode}
use Rattle.lard_law_connections.proofs.KeptRuns.{connections-are-kept}
use Rattle.lard_law_connections.specs.Places.{IsPast, Sits, owning}
use Rattle.lard_law_connections.proofs.PlacesFrontMessages.{offer-says}
use Rattle.lard_law_connections.proofs.PlacesFrontRules.{has-each}
use Rattle.lard_law_connections.proofs.PlacesRuns.{each-placed}
use Rattle.lard_laws.specs.Records.{IsRunFile, IsScheduled}
use Rattle.lard_laws.proofs.RecordsHolding.{IsPacket}
use Rattle.lard_laws.proofs.RecordsReached.{run-holds}
use Rattle.lard_laws.proofs.TagsGoing.{each-with}
use Rattle.lard_laws.specs.WaysState.{marks_at}
use Rattle.lard_files.specs.Files as files_of
use Rattle.lard_files.proofs.Lookups.{file-kept}
use Rattle.lard_handoff_back.specs.declared.row.BackConn.TheVariants as back
use Rattle.lard_handoff_back.specs.Leaving.{is_this_epoch}
use Rattle.lard_handoff_front.specs.declared.row.FrontConn.TheVariants as stage
use Rattle.lard_history.proofs.Each.{Each, Each-append, Each-weaker}
use Rattle.lard_law_settles.proofs.KnownAsking.{some-got}
use Rattle.lard_law_settles.proofs.KnownRuns.{each-known, node-there, view, written_on}
use Rattle.lard_law_settles.proofs.KnownReturns.{each-ungiven, each-unrefused, never-refused}
use Rattle.lard_law_settles.proofs.KnownSitting.{said-offered, sits-at}
use Rattle.lard_law_view.proofs.ByteLists.{all-each, bytes-index, each-all}
use Rattle.lard_message.specs.declared.message.Body.TheVariants as body
use Rattle.lard_law_progress.proofs.AnswersFrontGiven.{IsTalking}
use Rattle.lard_law_progress.proofs.AnswersFrontSpots.{over-cases, untaken-cases}
use Rattle.lard_law_progress.proofs.AnswersNodeGiven.{HasIt, IsForwarded, NodeGiven}
use Rattle.lard_law_progress.proofs.Given.{SeatKnown}
use Rattle.lard_law_progress.proofs.Seating.{seat-at, seat-none}

-- ---- packets are bytes

of-bytes : (q : ℕ) (ps : List Packet) → Each IsPacket ps → Each (λ (l : Letter). AreBytes l.bytes) (letters_in q ps)
of-bytes q [] h = tt
of-bytes q (p ∷ ps) h = Each-append (λ (l : Letter). AreBytes l.bytes) (one_of q (conn_of p.from p.to p.bytes) (letter_of p)) (letters_in q ps) (one (conn_of p.from p.to p.bytes)) (of-bytes q ps h.1) where
  one : (o : Option ℕ) → Each (λ (l : Letter). AreBytes l.bytes) (one_of q o (letter_of p))
  one None = tt
  one (Some c) = cond_both (nat_eq c q) (letter_of p ∷ []) [] (Each (λ (l : Letter). AreBytes l.bytes)) (λ t. (bytes-index p.bytes h.0.1.1, tt)) (λ t. tt)

-- a node of the range is one
in-range : (nodes n : ℕ) → 1 ≤ n → n ≤ nodes → is_no_node nodes n ≡ false
in-range nodes n some within = or_from (n == 0) (nat_lt nodes n) (ne_eqb n 0 (λ (e : n ≡ 0). absurd (omega (arith, some, e)))) (le-ltb nodes n within)

-- ---- where a connection is offered

-- what a seat says of where it goes
abbrev node_in : SeatNow → ℕ
node_in (Offered n e count) = n
node_in _ = 0

abbrev epoch_in : SeatNow → ℕ
epoch_in (Offered n e count) = e
epoch_in _ = 0

module _ (N : ℕ → Type 0) (x : Conn) (files : FilesAt) (c n e count : ℕ) where
  -- it goes there, and the node does not know of it
  record IsAway (told : Bool) (m d : ℕ) : Type 0 where
    node : m ≡ n
    epoch : d ≡ e
    none : (x.part.nodes m).row ≡ None

  module _ (told : Bool) (m d cnt : ℕ) (keeps : NodeRowKeeps N files c m (x.part.nodes m) (x.part.nodes m).row) (knows : IsNewTo d (x.part.nodes m).row) where
    abbrev q : NodePart
    q = x.part.nodes m

    there : (row : BackRow) → q.row ≡ Some row → (s : BackConn) → row.stage ≡ s → seat_there told m d cnt q s ≡ Offered n e count → IsAway told m d
    there row at (back.Here b) is eq = absurd (let bad : Here told m d b (staying_of q) ≡ Offered n e count = eq in cc)
    there row at back.Out is eq = absurd (subst (NodeStageKeeps N files c row.epoch.0 m q) is (subst (NodeRowKeeps N files c m q) at keeps))
    there row at back.Ended is eq = over-cases told m d q (λ (z : SeatNow). z ≡ Offered n e count → IsAway told m d) (λ eq. absurd cc)
        (λ served eq. absurd cc) eq
    there row at back.Gone is eq = over-cases told m d q (λ (z : SeatNow). z ≡ Offered n e count → IsAway told m d) (λ eq. absurd cc)
        (λ served eq. absurd cc) eq

    decided : (o : Option BackRow) → q.row ≡ o → IsNewTo d o → seat_decided told m d cnt q o ≡ Offered n e count → IsAway told m d
    decided None at k eq = untaken-cases m d cnt q (λ (z : SeatNow). z ≡ Offered n e count → IsAway told m d)
        (λ eq. record { node = ap node_in eq; epoch = ap epoch_in eq; none = at }) (λ eq. absurd cc) eq
    decided (Some row) at k eq = go (row.epoch.0 == d) refl eq where
      go : (b : Bool) → (row.epoch.0 == d) ≡ b → cond b (seat_there told m d cnt q row.stage) (seat_untaken m d cnt q) ≡ Offered n e count → IsAway told m d
      go true t eq = there row at row.stage refl eq
      go false t eq = absurd (both_ways (row.epoch.0 == d) t (eq-eqb row.epoch.0 d k))

    away : seat_away told m d cnt q ≡ Offered n e count → IsAway told m d
    away eq = decided q.row refl knows eq

  -- the row of a connection that is offered so
  pub record IsOfferedTo : Type 0 where
    pub is_there : is_row_at n e x.part.front.row ≡ true
    pub none : (x.part.nodes n).row ≡ None

  module _ (keeps : (m : ℕ) → NodeRowKeeps N files c m (x.part.nodes m) (x.part.nodes m).row) (goes : GoesToNew x) where
    same-test : (m d : ℕ) → m ≡ n → d ≡ e → (m == n && d == e) ≡ true
    same-test m d a b = and_from (m == n) (d == e) (eq-eqb m n a) (eq-eqb d e b)

    by-stage : (row : FrontRow) → x.part.front.row ≡ Some row → (s : FrontConn) → row.stage ≡ s → NewAt x.part.nodes (stage_whereabouts row.ended_by s) → seat_in x.part.front x.part.nodes s ≡ Offered n e count → IsOfferedTo
    by-stage row at (stage.Held b) is h eq = absurd (let bad : Held b (front_rest x.part.front.rest).count ≡ Offered n e count = eq in cc)
    by-stage row at (stage.Waiting b) is h eq = absurd (let bad : Waiting b (front_rest x.part.front.rest).count ≡ Offered n e count = eq in cc)
    by-stage row at stage.Lent is h eq = absurd (let bad : Unborn ≡ Offered n e count = eq in cc)
    by-stage row at (stage.Offering m d) is h eq =
        let a = away false m d.0 (front_rest x.part.front.rest).count (keeps m) h eq in record {
          is_there = ap (is_row_at n e) at ∙ ap (is_with n e) is ∙ same-test m d.0 a.node a.epoch;
          none = subst (λ i. (x.part.nodes i).row ≡ None) a.node a.none;
        }
    by-stage row at (stage.Moved m d) is h eq =
        let a = away true m d.0 (front_rest x.part.front.rest).count (keeps m) h eq in record {
          is_there = ap (is_row_at n e) at ∙ ap (is_with n e) is ∙ same-test m d.0 a.node a.epoch;
          none = subst (λ i. (x.part.nodes i).row ≡ None) a.node a.none;
        }
    by-stage row at (stage.Closed last) is h eq = absurd (let bad : Over last ≡ Offered n e count = eq in cc)

    pub offered-to : seat_of x.part ≡ Offered n e count → IsOfferedTo
    offered-to eq = go x.part.front.row refl goes where
      go : (o : Option FrontRow) → x.part.front.row ≡ o → NewAt x.part.nodes (whereabouts o) → IsOfferedTo
      go None at h = absurd (let bad : Unborn ≡ Offered n e count = sym (seat-none x.part at) ∙ eq in cc)
      go (Some row) at h = by-stage row at row.stage refl h (sym (seat-at x.part row row.stage at refl) ∙ eq)

-- ---- every run

module _ (config : Config) (files : List (List ℕ × List ℕ)) (checked : config_check config ≡ Ok tt) (named : All IsRunFile files)
    (es : List Event) (given : All IsScheduled es) (m : Machine) (past : Passes (machine_start config files) es m) (same : m.config ≡ config) (q : ℕ) where
  abbrev reached : IsReached config files m
  reached = (es, past)

  abbrev x : Conn
  x = conn m q

  abbrev k : Setting
  k = with_leaving (setting config files) (which_leave m)

  letter-bytes : (l : Letter) → Has l x.letters → AreBytes l.bytes
  unfolding conn letters
  letter-bytes l has = has-each (λ (l : Letter). AreBytes l.bytes) l (letters_in q m.net) has (of-bytes q m.net (run-holds config files es m checked named given past).past.packets)

  module _ (free : (tale_at x).touched ≡ false) where
    -- what a connection whose client did not open has not
    by-opened : (IsConnUnopened x → ⊥) → (st : Station) × (x.part.station ≡ Some st)
    by-opened never = go x.part.station refl where
      go : (o : Option Station) → x.part.station ≡ o → (st : Station) × (x.part.station ≡ Some st)
      go None at =
          let truth = states-truthful config files checked m reached q free in
          let u : IsConnUnopened x = subst (ConnAgrees (file_at files) x truth.talk truth.pend) at truth.agrees in
          absurd (never u)
      go (Some st) at = (st, at)

    pub front-opened : (n : ℕ) (bytes : List ℕ) → Was x Front (Node n) bytes → (st : Station) × (x.part.station ≡ Some st)
    front-opened n bytes was = by-opened (λ u. (has-each IsInner (record { from = Front; to = Node n; bytes = bytes }) x.letters was u.inner).0)

    pub held-opened : (n e : ℕ) (b : ControlBlock) → HasIt x n e b → (st : Station) × (x.part.station ≡ Some st)
    held-opened n e b has = by-opened (λ u.
        let sits : Sits (owning (tale_at x)) x.part.nodes None = subst (Sits (owning (tale_at x)) x.part.nodes) u.front (each-placed config files checked m reached q).sits in
        let past : IsPast 0 (Some (record { stage = back.Here b; epoch = record { 0 = e } })) = subst (IsPast 0) has (sits.1 n) in
        past.1)

    pub fetch-opened : (i n e r : ℕ) (path bytes : List ℕ) → SpellsMessage x.c e (body.Fetch r path) bytes → Was x (Node i) (Node n) bytes → (st : Station) × (x.part.station ≡ Some st)
    fetch-opened i n e r path bytes spells was = by-opened (λ u.
        let letter : Letter = record { from = Node i; to = Node n; bytes = bytes } in
        let says : SaysFor (file_at files) (marks_at x).wrote (Node i) (Node n) bytes = has-each (LetterFor (file_at files) (marks_at x).wrote) letter x.letters was ((each-backed config files checked m reached q).0 free) in
        let known = says (record { c = x.c; epoch = record { 0 = e }; body = body.Fetch r path }) spells in
        let none : IsFor (file_at files) [] r path = subst (λ (bytes : List ℕ). IsFor (file_at files) bytes r path) u.wrote known.0 in
        let some = some-got (verdicts []) none.before none.verdict none.is in
        let nothing : length (verdicts []) ≡ 0 = ap (λ (vs : List Verdict). length vs) verdicts-nothing in
        absurd (omega (arith, some, nothing)))

    stays : (n e : ℕ) (b : ControlBlock) → HasIt x n e b → (s : Stay) × ((x.part.nodes n).stay ≡ Some s)
    stays n e b has = go (x.part.nodes n).stay refl (subst (NodeRowKeeps AnyNode (file_at files) x.c n (x.part.nodes n)) has ((connections-are-kept config files m reached q).nodes n)) where
      go : (o : Option Stay) → (x.part.nodes n).stay ≡ o → HereKeeps AnyNode (file_at files) x.c e n (x.part.nodes n) o → (s : Stay) × ((x.part.nodes n).stay ≡ Some s)
      go None at h = absurd h
      go (Some s) at h = (s, at)

    offered : (n e count : ℕ) → seat_of x.part ≡ Offered n e count → IsOfferedTo AnyNode x (file_at files) x.c n e count
    offered n e count eq = offered-to AnyNode x (file_at files) x.c n e count (connections-are-kept config files m reached q).nodes (connections-go-to-new config files m checked reached q) eq

    pub node-given : ((st : Station) (n e : ℕ) (b : ControlBlock) → x.part.station ≡ Some st → HasIt x n e b → IsTalking st b)
        → ((st : Station) (n e : ℕ) (b : ControlBlock) (segment bytes : List ℕ) (s : Said) → x.part.station ≡ Some st → HasIt x n e b → SpellsMessage x.c e (body.Forward segment) bytes → Was x Front (Node n) bytes
        → decoded segment x.c ToCluster ≡ Ok s → IsForwarded st b s)
        → NodeGiven k (written_on config files checked m reached q) x
    node-given talks words =
        let placed = each-placed config files checked m reached q in let unrefused = each-unrefused config files m reached q in record {
          opened = front-opened;
          fetched = fetch-opened;
          held = held-opened;
          bytes = letter-bytes;
          files = λ path file is. (file-kept files path file (each-all files_of.IsFile files (Each-weaker IsRunFile files_of.IsFile (λ f h. h.0) files (all-each IsRunFile files named))) is).1;
          homes = λ n e b has. let h = sits-at (owning (tale_at x)) x.part.front x.part.nodes placed.sits n e b has in (h.told, h.row, h.front, h.with_);
          stays = stays;
          news = λ n e parts bytes spells was new. let h = said-offered x.part.front n e (x.part.nodes n).row new
              (offer-says x placed n e parts bytes was spells) in
              (h.row, h.front, h.with_, ap (is_this_epoch e) (unrefused n));
          fresh = λ n e count eq. ((offered n e count eq).none, unrefused n);
          once = λ n row is. unrefused n;
          few = λ told n e b s eq.
              let o = by-opened (λ u. let bad : Unborn ≡ Here told n e b s = sym (seat-none x.part u.front) ∙ eq in cc) in
              let h : SeatKnown (written_on config files checked m reached q) o.0.client (Here told n e b s) = subst (SeatKnown (written_on config files checked m reached q) o.0.client) eq (each-known config files checked m reached q free o.0 o.1).seat in
              h.1;
          talks = talks;
          words = words;
          there = λ n row is. let t = node-there m (view config files checked m reached q) q n row is in in-range config.nodes n t.0 (omega (arith, t.1, same_nodes));
          placed = λ n e count eq. let t = each-with config files checked m reached q n e (offered n e count eq).is_there in in-range config.nodes n t.0 t.1;
          declined = λ n e count eq. absurd (never-refused x.part unrefused (each-ungiven config files m reached q) n e count eq);
        }
      where
        same_nodes : m.config.nodes ≡ config.nodes
        same_nodes = ap (λ (c : Config). c.nodes) same
