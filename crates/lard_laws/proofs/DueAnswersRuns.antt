-- In every state what a node asked for and has not got was sent, and no answer to it came behind that.
use Rattle.std.proofs.Common.{◌≡◌, ◌≢◌, ◌⊎◌, ◌<◌, ◌≤◌, ◌^◌, ◌==◌, ◌||◌, nat_lt, eqb-true, ℕ, zero, suc, Bool, true, false, List, [], ◌∷◌, ◌++◌, length, slice_get, Ok, Option, Some, None, inl, inr, ⊎_elim, refl, sym, ap, ◌∙◌, subst, arith}
use Rattle.std.proofs.lemmas.Bool.{both_ways, ltb-true}
use Rattle.lard_law_view.specs.Prelude.{BackRow, Body, Client, ClientBlock, ClientRules, Config, Conn, ControlBlock, FilesAt, Front, FrontConn, FrontRow, FrontRules, Has, IsLaw, IsNodeEnv, IsReached, IsUnheard, Letter, Machine, MayRestOn, Message, Move, Node, NodeEnv, NodePart, NodeRules, NodeState, Place, Row, Rules, Seen, Setting, SpellsMessage, Station, Stay, ToCluster, Turn, ack_body, brought_said, client_begins, client_does, client_injects, client_rule, conn, content_said, decoded, decoded_message, epoch_in, event_seen, file_at, front_does, front_rule, grown, here, inject_seen, is_no_node, kept_at, node_acknowledged, node_at, node_content, node_does, node_forwarded, node_offered, node_read, node_tagged, node_timer, nothing_kept, nothing_said, packet_seen, part_of, reads_first, seen_in, setting, stands, tale_at, with_leaving}
use Rattle.lard_law_view.proofs.EachFront.{each-front, of-front}
use Rattle.lard_law_view.proofs.EachClient.{each-client, of-client}
use Rattle.lard_base.specs.declared.event.Event.TheVariants as event
use Rattle.lard_handoff_front.specs.declared.row.FrontConn.TheVariants as stage
use Rattle.lard_history.proofs.Each.{Each}
use Rattle.lard_history.proofs.Seeing.{by_number}
use Rattle.lard_journal.specs.declared.rec.Rec.TheVariants as rec
use Rattle.lard_law_connections.specs.Kept.{IsKeptByStage, NodeKeepsMessages}
use Rattle.lard_law_connections.specs.KeptLaws.{AnyNode}
use Rattle.lard_law_connections.specs.Places.{IsComing, IsEarlyEpoch, IsPast, IsRowEarly, IsThere, OthersArePast, Owning, Sits, StageSits, owning}
use Rattle.lard_law_connections.proofs.KeptHere.{here-is}
use Rattle.lard_law_connections.proofs.KeptRuns.{connections-are-kept}
use Rattle.lard_law_connections.proofs.LeaversMoves.{SendersLeave, stays-ungiven}
use Rattle.lard_law_connections.proofs.LeaversSenders.{senders-leave}
use Rattle.lard_law_connections.proofs.PlacesRuns.{each-placed}
use Rattle.lard_law_connections.proofs.PlacesTurns.{IsPlaced}
use Rattle.lard_law_view.proofs.Carried.{carried-leaving, reached-viewed}
use Rattle.lard_law_view.proofs.Parts.{put-each}
use Rattle.lard_laws.specs.Due.{IsContentFor, IsTagFor}
use Rattle.lard_laws.specs.DueAnswers.{AwaitsAnswers, ConnectionsAwaitAnswers, PartIsOut}
use Rattle.lard_laws.proofs.DueAnswersMoves.{AllCalm, NoneCome, calm-part, message-seen, move-none}
use Rattle.lard_laws.proofs.DueAnswersNodes.{AreSeen, acknowledged-out, content-out, forwarded-out, messages_of, offered-out, part_behind, read-out, tagged-out, timer-out}
use Rattle.lard_laws.proofs.StepsLinking.{settings-stay}
use Rattle.lard_message.specs.declared.message.Body.TheVariants as body
use Rattle.lard_rules.specs.Front as front
use Rattle.lard_rules.specs.Node as node
use Rattle.lard_law_view.proofs.Deeds.{front-heads, node-heads, node-place}

-- what is kept, and where it is; a node that is not there keeps nothing, and one that gave it back leaves
record Known (k : Setting) (x : Conn) : Type 0 where
  pub kept : IsKeptByStage AnyNode k.files x
  pub placed : IsPlaced x
  pub absent : (n : ℕ) → is_no_node k.nodes n ≡ true → x.part.nodes n ≡ nothing_kept
  pub leave : SendersLeave k.leaving x

-- ---- what comes

-- what came to another place answers nothing
elsewhere : (files : FilesAt) (seen : List Seen) (x : Conn) (v : Move) (n : ℕ) (from to : Place) (bytes : List ℕ) → to ≢ Node n → v.heads ≡ packet_seen from to bytes → AllCalm files seen (seen_in x v) n x.c
elsewhere files seen x v n from to bytes other heads = record {
  tags = λ e number count. move-none (IsTagFor n x.c e number count) x v (subst (NoneCome (IsTagFor n x.c e number count)) (sym heads) ((λ a. other a.to), tt));
  contents = λ node e r. move-none (IsContentFor n node x.c e r) x v (subst (NoneCome (IsContentFor n node x.c e r)) (sym heads) ((λ a. other a.to), tt));
}

-- where no packet came
abbrev HasRowsOnly : Move → Type 1
HasRowsOnly v = (P : Letter → Type 0) → NoneCome P v.heads

quiet : (files : FilesAt) (seen : List Seen) (x : Conn) (v : Move) (n : ℕ) → HasRowsOnly v → AllCalm files seen (seen_in x v) n x.c
quiet files seen x v n rows = record {
  tags = λ e number count. move-none (IsTagFor n x.c e number count) x v (rows (IsTagFor n x.c e number count));
  contents = λ node e r. move-none (IsContentFor n node x.c e r) x v (rows (IsContentFor n node x.c e r));
}

-- a message of another kind answers nothing
abbrev AnswersNothing : Body → Type 0
AnswersNothing (body.Tag number nodes) = ⊥
AnswersNothing (body.Content r bytes) = ⊥
AnswersNothing _ = Unit {0}

acks-nothing : (back : Bool) → AnswersNothing (ack_body back)
acks-nothing true = tt
acks-nothing false = tt

others : (files : FilesAt) (seen : List Seen) (x : Conn) (v : Move) (n : ℕ) (from to : Place) (epoch : ℕ) (b : Body) (bytes : List ℕ) → AnswersNothing b → SpellsMessage x.c epoch b bytes → v.heads ≡ packet_seen from to bytes
    → AllCalm files seen (seen_in x v) n x.c
others files seen x v n from to epoch b bytes other spells heads = record {
  tags = λ e number count. move-none (IsTagFor n x.c e number count) x v (subst (NoneCome (IsTagFor n x.c e number count)) (sym heads) ((λ a. never (body.Tag number a.nodes) e a.reads (λ h. h)), tt));
  contents = λ node e r. move-none (IsContentFor n node x.c e r) x v (subst (NoneCome (IsContentFor n node x.c e r)) (sym heads) ((λ a. never (body.Content r a.file) e a.reads (λ h. h)), tt));
} where
  bodies : (m1 m2 : Message) → decoded_message bytes ≡ Ok m1 → decoded_message bytes ≡ Ok m2 → m1 ≡ m2
  bodies m1 m2 p q = cc

  never : (d : Body) (e : ℕ) → decoded_message bytes ≡ Ok (record { c = x.c; epoch = record { 0 = e }; body = d }) → (AnswersNothing d → ⊥) → ⊥
  never d e reads not = not (subst AnswersNothing (ap (λ (m : Message). m.body) (bodies (record { c = x.c; epoch = record { 0 = epoch }; body = b }) (record { c = x.c; epoch = record { 0 = e }; body = d }) spells reads)) other)

-- ---- epochs are few

past-low : (e : ℕ) (row : BackRow) → IsEarlyEpoch e → IsPast e (Some row) → IsEarlyEpoch row.epoch.0
past-low e row le past = let less = past.0 in omega (arith, less, le)

module _ (nodes : ℕ → NodePart) (w : Owning) (n : ℕ) (row : BackRow) (found : (nodes n).row ≡ Some row) where
  low-at : (e : ℕ) → IsEarlyEpoch e → IsPast e (nodes n).row → IsEarlyEpoch row.epoch.0
  low-at e le past = past-low e row le (subst (IsPast e) found past)

  there-low : (k e : ℕ) → n ≡ k → IsEarlyEpoch e → IsThere k e w (nodes k).row → IsEarlyEpoch row.epoch.0
  there-low k e same le there =
      let mine : IsThere k e w (Some row) = subst (IsThere k e w) (ap (λ (i : ℕ). (nodes i).row) (sym same) ∙ found) there in
      let is = mine.0 in
      omega (arith, is, le)

  away-low : (k e : ℕ) → IsEarlyEpoch e → OthersArePast k e nodes → IsComing e w (nodes k).row ⊎ IsThere k e w (nodes k).row → IsEarlyEpoch row.epoch.0
  away-low k e le past sit = by_number (IsEarlyEpoch row.epoch.0) n k
      (λ same. ⊎_elim (λ (a : IsComing e w (nodes k).row). low-at e le (subst (λ (i : ℕ). IsPast e (nodes i).row) (sym same) a.2)) (λ (a : IsThere k e w (nodes k).row). there-low k e same le a) sit)
      (λ other. low-at e le (past n other))

  stage-low : (e : ℕ) (d : FrontConn) → IsEarlyEpoch e → StageSits e w nodes d → IsEarlyEpoch row.epoch.0
  stage-low e (stage.Held b) le sit = low-at e le (sit.1.1 n)
  stage-low e (stage.Waiting b) le sit = low-at e le (sit.1.1 n)
  stage-low e stage.Lent le sit = absurd sit
  stage-low e (stage.Offering k d) le sit = away-low k e le sit.2 sit.3
  stage-low e (stage.Moved k d) le sit = away-low k e le sit.2 (inr sit.3)
  stage-low e (stage.Closed last) le sit = low-at e le (sit.1.1 n)

  row-low : (q : Option FrontRow) → IsRowEarly q → Sits w nodes q → IsEarlyEpoch row.epoch.0
  row-low None early sit = low-at 0 (omega arith) (sit.1 n)
  row-low (Some front) early sit = stage-low front.epoch.0 front.stage early sit.0

-- what is here is of a low epoch
here-low : (x : Conn) → IsPlaced x → (n e : ℕ) → (e < 2 ^ 16) ⊎ (here e (x.part.nodes n) ≡ None)
here-low x placed n e = go (here e (x.part.nodes n)) refl where
  go : (o : Option (ControlBlock × Stay)) → here e (x.part.nodes n) ≡ o → (e < 2 ^ 16) ⊎ (here e (x.part.nodes n) ≡ None)
  go None is = inr is
  go (Some y) is =
      let it = here-is e (x.part.nodes n) y.0 y.1 is in
      let low = row-low x.part.nodes (owning (tale_at x)) n _ it.row x.part.front.row placed.early placed.sits in
      inl (omega (arith, low))

-- ---- a move

module _ (k : Setting) where
  abbrev Goes : Conn → Move → Type 0
  Goes x v = MayRestOn (Known k) x → AwaitsAnswers k.files x → AwaitsAnswers k.files (grown x v)

  -- what nodes keep stays
  asides : (x : Conn) (v : Move) → ((n : ℕ) → v.part.nodes n ≡ x.part.nodes n) → ((n : ℕ) → AllCalm k.files x.seen (seen_in x v) n x.c) → AwaitsAnswers k.files x → AwaitsAnswers k.files (grown x v)
  asides x v same calm h n = subst (PartIsOut k.files (x.seen ++ seen_in x v) n x.c) (sym (same n)) (calm-part k.files x.seen (seen_in x v) n x.c (x.part.nodes n) (calm n) (h n))

  -- no packet comes
  by-rows : (x : Conn) (v : Move) → ((n : ℕ) → v.part.nodes n ≡ x.part.nodes n) → HasRowsOnly v → AwaitsAnswers k.files x → AwaitsAnswers k.files (grown x v)
  by-rows x v same rows h = asides x v same (λ n. quiet k.files x.seen x v n rows) h

  -- one comes to a place that is no node
  by-packet : (x : Conn) (v : Move) (from to : Place) (bytes : List ℕ) → v.heads ≡ packet_seen from to bytes → ((n : ℕ) → to ≢ Node n) → ((n : ℕ) → v.part.nodes n ≡ x.part.nodes n) → AwaitsAnswers k.files x → AwaitsAnswers k.files (grown x v)
  by-packet x v from to bytes heads other same h = asides x v same (λ n. elsewhere k.files x.seen x v n from to bytes (other n) heads) h

  front-parts : (x : Conn) (heads : List Seen) (d : front.FrontDeed) (n : ℕ) → (front_does x heads d).part.nodes n ≡ x.part.nodes n
  front-parts x heads front.Drops n = refl
  front-parts x heads (front.Says turn) n = refl
  front-parts x heads (front.Does did) n = refl

  -- the front end hears
  to-front : (x : Conn) (from : Place) (bytes : List ℕ) (d : front.FrontDeed) → AwaitsAnswers k.files x → AwaitsAnswers k.files (grown x (front_does x (packet_seen from Front bytes) d))
  to-front x from bytes d h = by-packet x (front_does x (packet_seen from Front bytes) d) from Front bytes (front-heads x (packet_seen from Front bytes) d) (λ n e. let no : Front ≡ Node n = e in cc) (front-parts x (packet_seen from Front bytes) d) h

  front-rows : (x : Conn) (heads : List Seen) (d : front.FrontDeed) → ((P : Letter → Type 0) → NoneCome P heads) → AwaitsAnswers k.files x
      → AwaitsAnswers k.files (grown x (front_does x heads d))
  front-rows x heads d rows h = by-rows x (front_does x heads d) (front-parts x heads d) (λ P. subst (NoneCome P) (sym (front-heads x heads d)) (rows P)) h

  -- a client does what no packet asked for
  client-goes : (x : Conn) (s : Station) (heads : List Seen) (given : ClientBlock × Turn) → ((P : Letter → Type 0) → NoneCome P heads) → AwaitsAnswers k.files x → AwaitsAnswers k.files (grown x (client_does x s heads given))
  client-goes x s heads given rows h = by-rows x (client_does x s heads given) (λ n. refl) rows h

  clients : ClientRules k Goes
  clients = each-client k Goes (record {
    opens = λ x isn iss wnd mss rule none may h. by-rows x (client_begins x isn iss wnd mss) (λ n. refl) (λ P. ((λ a. a), ((λ a. a), tt))) h;
    does = λ x s g there comes may h.
        let given : ClientBlock × Turn = client_rule x.c s.client g in
        of-client x.c (λ heads. AwaitsAnswers k.files (grown x (client_does x s heads given)))
        (λ from bytes. by-packet x (client_does x s (packet_seen from (Client x.c) bytes) given) from (Client x.c) bytes refl
        (λ n e. let no : Client x.c ≡ Node n = e in cc) (λ n. refl) h)
        (λ e. client-goes x s (event_seen e) given (λ P. ((λ a. a), tt)) h) g;
  })

  fronts : FrontRules k Goes
  fronts = each-front k Goes (λ x env heads g is comes may h.
      let d : front.FrontDeed = front_rule env x.part.front g in
      of-front x (λ hs. AwaitsAnswers k.files (grown x (front_does x hs d))) (λ from bytes. to-front x from bytes d h) (front-rows x [] d (λ P. tt) h)
      (front-rows x (event_seen (event.Timer Front x.c)) d (λ P. ((λ a. a), tt)) h) env heads g comes)

  -- ---- a rule of a node

  node-messages : (x : Conn) (n : ℕ) (heads : List Seen) (d : node.NodeDeed) → (node_does x n heads d).said.messages ≡ messages_of d
  node-messages x n heads node.Drops = refl
  node-messages x n heads (node.Says messages) = refl
  node-messages x n heads (node.Does given) = refl

  -- its messages are seen
  are-seen : (x : Conn) (n : ℕ) (heads : List Seen) (d : node.NodeDeed) (v : Move) → v.place ≡ Node n → v.said.messages ≡ messages_of d → AreSeen n (seen_in x v) d
  are-seen x n heads d v place messages m has = subst (λ (p : Place). Has (Row (rec.Sent 0 p m.0 m.1)) (seen_in x v)) place (message-seen x v m (subst (Has m) (sym messages) has))

  -- what it keeps is put back, and all other nodes keep what they did
  put-back : (x : Conn) (n : ℕ) (d : node.NodeDeed) (v : Move) → v.part.nodes ≡ (node_does x n [] d).part.nodes → ((i : ℕ) → i ≢ n → AllCalm k.files x.seen (seen_in x v) i x.c) → PartIsOut k.files (x.seen ++ seen_in x v) n x.c (part_behind (x.part.nodes n) d)
      → AwaitsAnswers k.files x → AwaitsAnswers k.files (grown x v)
  put-back x n d v same calm mine h i = subst (λ (nodes : ℕ → NodePart). PartIsOut k.files (x.seen ++ seen_in x v) i x.c (nodes i)) (sym same) (by-deed d mine i) where
    Out : ℕ → NodePart → Type 0
    Out i p = PartIsOut k.files (x.seen ++ seen_in x v) i x.c p

    rest : (i : ℕ) → i ≢ n → Out i (x.part.nodes i)
    rest i other = calm-part k.files x.seen (seen_in x v) i x.c (x.part.nodes i) (calm i other) (h i)

    all : Out n (x.part.nodes n) → (i : ℕ) → Out i (x.part.nodes i)
    all mine i = by_number (Out i (x.part.nodes i)) i n (λ is. subst (λ (j : ℕ). Out j (x.part.nodes j)) (sym is) mine) (λ other. rest i other)

    by-deed : (d : node.NodeDeed) → Out n (part_behind (x.part.nodes n) d) → (i : ℕ) → Out i ((node_does x n [] d).part.nodes i)
    by-deed node.Drops mine i = all mine i
    by-deed (node.Says messages) mine i = all mine i
    by-deed (node.Does given) mine i = put-each x.part.nodes n given.0 Out mine rest i

  -- a rule, over what its node keeps
  by-node : (x : Conn) (n epoch : ℕ) (env : NodeEnv) → IsNodeEnv k x.c n epoch env → MayRestOn (Known k) x → (d : node.NodeDeed) (v : Move) → v.part.nodes ≡ (node_does x n [] d).part.nodes
      → v.place ≡ Node n → v.said.messages ≡ messages_of d → ((i : ℕ) → i ≢ n → AllCalm k.files x.seen (seen_in x v) i x.c)
      → (NodeKeepsMessages AnyNode env.serve.files env.serve.c env.n (x.part.nodes n) → PartIsOut env.serve.files x.seen env.n env.serve.c (x.part.nodes n) → AreSeen env.n (seen_in x v) d → PartIsOut env.serve.files (x.seen ++ seen_in x v) env.n env.serve.c (part_behind (x.part.nodes n) d))
      → AwaitsAnswers k.files x → AwaitsAnswers k.files (grown x v)
  by-node x n epoch env is may d v parts place messages calm rule h =
      let all : ◌≡◌ {A = FilesAt × ℕ × ℕ} (env.serve.files, env.serve.c, env.n) (k.files, x.c, n) = λ i. (is.files i, is.number i, is.node i) in
      put-back x n d v parts calm
      (subst (λ (t : FilesAt × ℕ × ℕ). NodeKeepsMessages AnyNode t.0 t.1 t.2 (x.part.nodes n) → PartIsOut t.0 x.seen t.2 t.1 (x.part.nodes n) → AreSeen t.2 (seen_in x v) d → PartIsOut t.0 (x.seen ++ seen_in x v) t.2 t.1 (part_behind (x.part.nodes n) d)) all rule
      (may.given.kept.nodes n) (h n) (are-seen x n v.heads d v place messages)) h

  node-parts : (x : Conn) (n : ℕ) (heads : List Seen) (d : node.NodeDeed) → (node_does x n heads d).part.nodes ≡ (node_does x n [] d).part.nodes
  node-parts x n heads node.Drops = refl
  node-parts x n heads (node.Says messages) = refl
  node-parts x n heads (node.Does given) = refl

  -- no packet comes to it
  quiet-at : (x : Conn) (n epoch : ℕ) (env : NodeEnv) → IsNodeEnv k x.c n epoch env → (v : Move) → HasRowsOnly v → AllCalm env.serve.files x.seen (seen_in x v) env.n env.serve.c
  quiet-at x n epoch env is v rows =
      let all : ◌≡◌ {A = FilesAt × ℕ × ℕ} (env.serve.files, env.serve.c, env.n) (k.files, x.c, n) = λ i. (is.files i, is.number i, is.node i) in
      subst (λ (t : FilesAt × ℕ × ℕ). AllCalm t.0 x.seen (seen_in x v) t.2 t.1) (sym all) (quiet k.files x.seen x v n rows)

  any : (nodes : List ℕ) → Each AnyNode nodes
  any [] = tt
  any (n ∷ ns) = (tt, any ns)

  -- as a message comes to it
  module _ (x : Conn) (n epoch : ℕ) (env : NodeEnv) (is : IsNodeEnv k x.c n epoch env) (may : MayRestOn (Known k) x) (from : Place) (b : Body) (bytes : List ℕ) (spells : SpellsMessage x.c epoch b bytes) (d : node.NodeDeed) where
    abbrev heads : List Seen
    heads = packet_seen from (Node n) bytes

    abbrev v : Move
    v = node_does x n heads d

    not-same : (i : ℕ) → i ≢ n → Node n ≢ Node i
    not-same i other e = other (let same : n ≡ i = cc in sym same)

    by-message : (NodeKeepsMessages AnyNode env.serve.files env.serve.c env.n (x.part.nodes n) → PartIsOut env.serve.files x.seen env.n env.serve.c (x.part.nodes n) → AreSeen env.n (seen_in x v) d → PartIsOut env.serve.files (x.seen ++ seen_in x v) env.n env.serve.c (part_behind (x.part.nodes n) d))
        → AwaitsAnswers k.files x → AwaitsAnswers k.files (grown x v)
    by-message rule h = by-node x n epoch env is may d v (node-parts x n heads d) (node-place x n heads d) (node-messages x n heads d)
        (λ i other. elsewhere k.files x.seen x v i from (Node n) bytes (not-same i other) (node-heads x n heads d)) rule h

    -- one that answers nothing
    calm-here : AnswersNothing b → AllCalm env.serve.files x.seen (seen_in x v) env.n env.serve.c
    calm-here other = subst (λ (t : FilesAt × ℕ × ℕ). AllCalm t.0 x.seen (seen_in x v) t.2 t.1) (sym all) (others k.files x.seen x v n from (Node n) epoch b bytes other spells (node-heads x n heads d)) where
      all : ◌≡◌ {A = FilesAt × ℕ × ℕ} (env.serve.files, env.serve.c, env.n) (k.files, x.c, n)
      all = λ i. (is.files i, is.number i, is.node i)

    -- nothing else came
    only : (P : Letter → Type 0) → (P (record { from = from; to = Node n; bytes = bytes }) → ⊥) → NoneCome P (seen_in x v)
    only P not = move-none P x v (subst (NoneCome P) (sym (node-heads x n heads d)) (not, tt))

    -- it is of the node's connection and epoch
    reads : decoded_message bytes ≡ Ok (record { c = env.serve.c; epoch = record { 0 = env.epoch }; body = b })
    reads = spells ∙ (λ i. Ok (record { c = sym is.number i; epoch = record { 0 = sym is.epoch_is i }; body = b }))

  nodes : NodeRules k Goes
  nodes = record {
    offered = λ x n epoch env parts bytes is spells was may h.
        let d : node.NodeDeed = node_offered env (x.part.nodes n) parts in
        let ss : List Seen = seen_in x (node_does x n (packet_seen Front (Node n) bytes) d) in
        by-message x n epoch env is may Front (body.Offer parts) bytes spells d
        (λ kept outs said. offered-out env x.seen ss (x.part.nodes n) kept outs parts (λ remains. stays-ungiven k.leaving x may.given.leave n (sym is.leaves ∙ remains)) (calm-here x n epoch env is may Front (body.Offer parts) bytes spells d tt) said) h;
    forwarded = λ x n epoch env segment bytes is spells was may h.
        let d : node.NodeDeed = node_forwarded env (x.part.nodes n) (decoded segment x.c ToCluster) in
        let ss : List Seen = seen_in x (node_does x n (packet_seen Front (Node n) bytes) d) in
        by-message x n epoch env is may Front (body.Forward segment) bytes spells d
        (λ kept outs said. forwarded-out env x.seen ss (x.part.nodes n) kept outs (decoded segment x.c ToCluster) (calm-here x n epoch env is may Front (body.Forward segment) bytes spells d tt) said) h;
    tagged = λ x n epoch number tags env bytes is spells was may h.
        let d : node.NodeDeed = node_tagged env (x.part.nodes n) number tags in
        let ss : List Seen = seen_in x (node_does x n (packet_seen Front (Node n) bytes) d) in
        by-message x n epoch env is may Front (body.Tag number tags) bytes spells d
        (λ kept outs said. tagged-out env x.seen ss (x.part.nodes n) kept outs (record { from = Front; to = Node n; bytes = bytes }) (only x n epoch env is may Front (body.Tag number tags) bytes spells d) number tags refl
        (reads x n epoch env is may Front (body.Tag number tags) bytes spells d) said (λ y at same. any tags)) h;
    content = λ x n from epoch r env file bytes is spells was may h.
        let d : node.NodeDeed = node_content env (x.part.nodes n) from r in
        let ss : List Seen = seen_in x (node_does x n (packet_seen (Node from) (Node n) bytes) d) in
        by-message x n epoch env is may (Node from) (body.Content r file) bytes spells d
        (λ kept outs said. content-out env x.seen ss (x.part.nodes n) kept outs (record { from = Node from; to = Node n; bytes = bytes }) (only x n epoch env is may (Node from) (body.Content r file) bytes spells d) from r file refl
        (reads x n epoch env is may (Node from) (body.Content r file) bytes spells d) (here-low x may.given.placed n env.epoch) said) h;
    acknowledged = λ x n epoch back env bytes is spells was may h.
        let d : node.NodeDeed = node_acknowledged env back (x.part.nodes n) in
        let ss : List Seen = seen_in x (node_does x n (packet_seen Front (Node n) bytes) d) in
        by-message x n epoch env is may Front (ack_body back) bytes spells d
        (λ kept outs said. acknowledged-out env x.seen ss (x.part.nodes n) kept outs back (calm-here x n epoch env is may Front (ack_body back) bytes spells d (acks-nothing back))) h;
    read = λ x n epoch r env path is may h.
        let d : node.NodeDeed = node_read env (x.part.nodes n) r in
        let v : Move = reads_first (rec.Read n n x.c r path) (node_does x n [] d) in
        let rows : HasRowsOnly v = λ P. subst (NoneCome P) (sym (node-heads x n [] d)) tt in
        by-node x n epoch env is may d v refl (node-place x n [] d) (node-messages x n [] d) (λ i other. quiet k.files x.seen x v i rows)
        (λ kept outs said. read-out env x.seen (seen_in x v) (x.part.nodes n) kept outs r (quiet-at x n epoch env is v rows) said) h;
    fires = λ x s n env there is may h.
        let d : node.NodeDeed = node_timer env (x.part.nodes n) in
        let heads : List Seen = event_seen (event.Timer (Node n) x.c) in
        let v : Move = node_does x n heads d in
        let rows : HasRowsOnly v = λ P. subst (NoneCome P) (sym (node-heads x n heads d)) ((λ a. a), tt) in
        by-node x n (epoch_in (x.part.nodes n)) env is may d v (node-parts x n heads d) (node-place x n heads d) (node-messages x n heads d) (λ i other. quiet k.files x.seen x v i rows)
        (λ kept outs said. timer-out env x.seen (seen_in x v) (x.part.nodes n) kept outs is.epoch_is (quiet-at x n (epoch_in (x.part.nodes n)) env is v rows) said) h;
    answers = λ x n from epoch r path file bytes there spells was may h.
        let v : Move = stands x (Node n) (packet_seen (Node from) (Node n) bytes) (content_said k n from x.c epoch r path) in
        asides x v (λ i. refl) (λ i. others k.files x.seen x v i (Node from) (Node n) epoch (body.Fetch r path) bytes tt spells refl) h;
    queues = λ x n from epoch r path file bytes there spells was may h.
        let v : Move = stands x (Node n) (packet_seen (Node from) (Node n) bytes) (record nothing_said { notes = rec.Queued n from x.c r path ∷ [] }) in
        asides x v (λ i. refl) (λ i. others k.files x.seen x v i (Node from) (Node n) epoch (body.Fetch r path) bytes tt spells refl) h;
    brings = λ x n from epoch r path may h. by-rows x (stands x (Node n) [] (brought_said k n from x.c epoch r path)) (λ i. refl) (λ P. tt) h;
  }

  -- a packet that nobody hears: it answers nothing, or comes to a node that keeps nothing
  module _ (x : Conn) (from to : Place) (bytes : List ℕ) (unheard : IsUnheard k.nodes x.part.station from to bytes) (may : MayRestOn (Known k) x) (h : AwaitsAnswers k.files x) where
    abbrev passes : Move
    passes = stands x to (packet_seen from to bytes) nothing_said

    heard-at : (f t : Place) → f ≡ from → t ≡ to → IsUnheard k.nodes x.part.station f t bytes
    heard-at f t a b = subst (λ (q : Place). IsUnheard k.nodes x.part.station q t bytes) (sym a) (subst (λ (q : Place). IsUnheard k.nodes x.part.station from q bytes) (sym b) unheard)

    calm-at : (i : ℕ) → is_no_node k.nodes i ≡ false → AllCalm k.files x.seen (seen_in x passes) i x.c
    calm-at i there = record {
      tags = λ e number count. move-none (IsTagFor i x.c e number count) x passes ((λ a. both_ways (is_no_node k.nodes i) there (heard-at Front (Node i) (sym a.from) (sym a.to) _ a.reads tt)), tt);
      contents = λ node e r. move-none (IsContentFor i node x.c e r) x passes ((λ a. both_ways (is_no_node k.nodes i) there (heard-at (Node node) (Node i) (sym a.from) (sym a.to) _ a.reads tt)), tt);
    }

    ignored : AwaitsAnswers k.files (grown x passes)
    ignored i = go (is_no_node k.nodes i) refl where
      go : (b : Bool) → is_no_node k.nodes i ≡ b → PartIsOut k.files (x.seen ++ seen_in x passes) i x.c (x.part.nodes i)
      go true none = subst (PartIsOut k.files (x.seen ++ seen_in x passes) i x.c) (sym (may.given.absent i none)) tt
      go false there = calm-part k.files x.seen (seen_in x passes) i x.c (x.part.nodes i) (calm-at i there) (h i)

  rules : Rules k Goes
  rules = record {
    untouched = record { client = clients; front = fronts; node = nodes; ignores = λ x from to bytes was may h. ignored x from to bytes was.2 may h };
    injects = λ x s bytes there rule may h. client-goes x s (inject_seen x.c bytes) (client_injects s.client bytes) (λ P. ((λ a. a), ((λ a. a), tt))) h;
  }

  answers-law : IsLaw k (Known k) (AwaitsAnswers k.files)
  answers-law = record { begins = λ c n. tt; moves = rules }

-- ---- every state

none-at : (nodes : List NodeState) (count n : ℕ) → length nodes ≡ count → is_no_node count n ≡ true → node_at nodes n ≡ None
none-at all count zero same e = refl
none-at all count (suc i) same e = past all i (go (suc i == 0) refl e) where
  go : (b : Bool) → (suc i == 0) ≡ b → (b || nat_lt count (suc i)) ≡ true → length all ≤ i
  go true t f = let none : suc i ≡ 0 = eqb-true (suc i) 0 t in absurd (omega (arith, none))
  go false t f = let less = ltb-true count (suc i) f in omega (arith, less, same)

  past : (xs : List NodeState) (i : ℕ) → length xs ≤ i → slice_get xs i ≡ None
  past [] i le = refl
  past (x ∷ xs) zero le = absurd (omega (arith, le))
  past (x ∷ xs) (suc i) le = past xs i (omega (arith, le))

absent-at : (config : Config) (files : List (List ℕ × List ℕ)) (m : Machine) → IsReached config files m → (q n : ℕ) → is_no_node config.nodes n ≡ true → (conn m q).part.nodes n ≡ nothing_kept
unfolding conn part_of
absent-at config files m r q n none =
    let count : length m.nodes ≡ config.nodes = (reached-viewed config files m r).nodes ∙ ap (λ (c : Config). c.nodes) (settings-stay config files m r).0 in
    ap (kept_at q) (none-at m.nodes config.nodes n count none)

-- In every state that events lead to.
pub connections-await-answers : ConnectionsAwaitAnswers
connections-await-answers config files checked = carried-leaving config files (λ l. Known (with_leaving (setting config files) l)) (λ l. AwaitsAnswers (file_at files)) (λ m n e rule is x h. h)
    (λ l. answers-law (with_leaving (setting config files) l))
    (λ m r q. record {
      kept = connections-are-kept config files m r q;
      placed = each-placed config files checked m r q;
      absent = absent-at config files m r q;
      leave = senders-leave config files m r q;
    })
