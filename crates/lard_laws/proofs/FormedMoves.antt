-- Each move leaves it so that what is assigned names a file, and what is written, sent and accepted has a byte.
use Rattle.std.proofs.Common.{◌≡◌, ℕ, ◌≤◌, List, [], ◌∷◌, ◌++◌, length, map, Some, None, sym, subst, arith}
use Rattle.lard_history.proofs.Each.{Each, Each-append, Each-weaker}
use Rattle.lard_history.proofs.Seeing.{has-each}
use Rattle.lard_journal.specs.declared.rec.Rec.TheVariants as rec
use Rattle.lard_law_view.specs.Prelude.{AreSent, Ask, AskedBy, Client, ClientBlock, ClientGets, ClientRules, Config, Conn, FilesAt, Front, FrontEnv, FrontGets, FrontRules, GoesBetween, IsLaw, IsMachine, IsNodeEnv, Kept, Letter, MayRestOn, Move, Node, NodeDeed, NodeEnv, NodeGets, NodePart, OfEach, Place, Rec, Row, Rules, Seen, Setting, Station, ToWrite, Turn, again_sent, brought_said, client_begins, client_does, client_injects, client_opens, client_rule, content_said, file_at, front_does, front_rule, grown, inject_seen, letter, letters_of, named_in, named_records, node_does, node_rule, nothing_said, packet_seen, rows_of, seen_in, sent_of, setting, stands, timer_rows, with_leaving}
use Rattle.lard_law_view.specs.View.{sending}
use Rattle.lard_law_view.proofs.Carried.{carried}
use Rattle.lard_law_view.proofs.EachClient.{client_seen, each-client, of-client}
use Rattle.lard_law_view.proofs.EachFront.{FrontComes, admission, each-front, of-front}
use Rattle.lard_law_view.proofs.EachNode.{Answers, Aside, Brings, MayAside, NodeComes, Queues, aside_said, aside_seen, each-node, job_notes, node_goes, told_first}
use Rattle.lard_law_view.proofs.Fine.{IsFine, IsItsOwn, fine}
use Rattle.lard_law_view.proofs.Guarded.{both, weaker}
use Rattle.lard_law_view.proofs.NodeHeads.{heads-of}
use Rattle.lard_law_view.proofs.OfKinds.{of-gifts, of-timers}
use Rattle.lard_law_view.proofs.Saying.{AreMessages, NotedAt}
use Rattle.lard_laws.proofs.FormedClients.{ClientFits, GetsBytes, injects-fits, opens-fits, rule-fits}
use Rattle.lard_laws.proofs.FormedFronts.{ComesNamed, DeedFits, RestNamed, front-fits}
use Rattle.lard_laws.proofs.FormedNodes.{DeedNames, Names, node-names}
use Rattle.lard_laws.proofs.FormedSegments.{HasByte, SaysTo}
use Rattle.lard_laws.proofs.FormedTold.{IsToldSo, LetterNames, NamesBy, SeenGives, SeenToldSo}
use Rattle.lard_laws.specs.Formed.{AreFilePathsShort, IsOfFile}
use Rattle.lard_rules.proofs.NodeCases.{IsInItsEpoch}
use Rattle.lard_rules.specs.Front as front
use Rattle.lard_rules.specs.Node as node

-- ---- a connection

-- The path that a connection waits for names a file, as do those of each Ask that was ever sent. What it saw is told so, where what the schedule
-- gave has bytes.
pub record AreToldSo (files : FilesAt) (x : Conn) : Type 0 where
  pub target : RestNamed files x.part.front.rest
  pub letters : Each (LetterNames files) x.letters
  pub seen : Each SeenGives x.seen → Each (SeenToldSo files) x.seen

-- what is new with a move
record News (files : FilesAt) (v : Move) : Type 0 where
  target : RestNamed files v.part.front.rest
  letters : Each (LetterNames files) (letters_of v)
  heads : Each (SeenToldSo files) v.heads
  notes : Each SeenGives v.heads → Each (IsToldSo files) v.said.notes
  sent : Each SeenGives v.heads → Each HasByte v.said.segments
  spoken : Each HasByte v.said.messages

-- of two lists, one behind the other
parts : {A : Type 0} (P : A → Type 0) (xs ys : List A) → Each P (xs ++ ys) → Each P xs × Each P ys
parts P [] ys h = (tt, h)
parts P (x ∷ xs) ys h = let more = parts P xs ys h.1 in ((h.0, more.0), more.1)

module _ (files : FilesAt) where
  sends-told : (place : Place) (ss : List (Place × List ℕ)) → Each HasByte ss → Each (IsToldSo files) (map (sending place) ss)
  sends-told place [] h = tt
  sends-told place (s ∷ ss) h = (h.0, sends-told place ss h.1)

  rows-seen : (rs : List Rec) → Each (IsToldSo files) rs → Each (SeenToldSo files) (map Row rs)
  rows-seen [] h = tt
  rows-seen (r ∷ rs) h = (h.0, rows-seen rs h.1)

  rows-told : (x : Conn) (v : Move) → IsItsOwn x v → News files v → Each SeenGives v.heads → Each (IsToldSo files) (rows_of x v)
  rows-told x v own new gives =
      let a : List Rec = v.said.notes in
      let b : List Rec = map (sending v.place) v.said.segments in
      let d : List Rec = map (sending v.place) v.said.messages in
      Each-append (IsToldSo files) (a ++ b ++ v.said.gave ++ d) (timer_rows v.place x.c x.part v.part)
      (Each-append (IsToldSo files) (a ++ b ++ v.said.gave) d
      (Each-append (IsToldSo files) (a ++ b) v.said.gave
      (Each-append (IsToldSo files) a b (new.notes gives) (sends-told v.place v.said.segments (new.sent gives)))
      (of-gifts (IsToldSo files) (λ p e epoch. tt) v.place x.c v.said.gave own.gave))
      (sends-told v.place v.said.messages new.spoken))
      (of-timers (IsToldSo files) (λ p e kind. (tt, tt)) v.place x.c x.part v.part)

  moved : (x : Conn) (v : Move) → IsItsOwn x v → News files v → AreToldSo files x → AreToldSo files (grown x v)
  moved x v own new h = record {
    target = new.target;
    letters = Each-append (LetterNames files) x.letters (letters_of v) h.letters new.letters;
    seen = λ gives.
        let both = parts SeenGives x.seen (seen_in x v) gives in
        let heads = (parts SeenGives v.heads (map Row (rows_of x v)) both.1).0 in
        Each-append (SeenToldSo files) x.seen (seen_in x v) (h.seen both.0) (Each-append (SeenToldSo files) v.heads (map Row (rows_of x v)) new.heads (rows-seen (rows_of x v) (rows-told x v own new heads)));
  }

  -- ---- places

  -- what another place than a node sends is no Ask of it
  abbrev IsElse : Place → Type 0
  IsElse Front = Unit {0}
  IsElse (Client d) = Unit {0}
  IsElse (Node n) = ⊥

  else-names : (place : Place) (ss : List (Place × List ℕ)) → IsElse place → Each (LetterNames files) (map (letter place) ss)
  else-names Front [] h = tt
  else-names Front (s ∷ ss) h = (tt, else-names Front ss h)
  else-names (Client d) [] h = tt
  else-names (Client d) (s ∷ ss) h = (tt, else-names (Client d) ss h)
  else-names (Node n) ss h = absurd h

  -- nor is a segment
  segments-name : (n c : ℕ) (ss : List (Place × List ℕ)) → Each (SaysTo c) ss → Each (LetterNames files) (map (letter (Node n)) ss)
  segments-name n c [] h = tt
  segments-name n c (s ∷ ss) h = (subst (λ (p : Place). NamesBy files (Node n) p s.1) (sym h.0.0) tt, segments-name n c ss h.1)

  messages-name : (n : ℕ) (short : AreFilePathsShort files) (ss : List (Place × List ℕ)) → Each (Names files short n) ss → Each (LetterNames files) (map (letter (Node n)) ss)
  messages-name n short [] h = tt
  messages-name n short (s ∷ ss) h = (h.0, messages-name n short ss h.1)

  says-bytes : (c : ℕ) (ss : List (Place × List ℕ)) → Each (SaysTo c) ss → Each HasByte ss
  says-bytes c ss h = Each-weaker (SaysTo c) HasByte (λ s k. k.1) ss h

  -- a message names its connection, so it has bytes
  named-some : (bytes : List ℕ) (c : ℕ) → named_in bytes ≡ Some c → 1 ≤ length bytes
  named-some [] c e = let no : None ≡ Some c = e in cc
  named-some (b ∷ bs) c e = omega arith

  message-some : (c : ℕ) (place : Place) (s : Place × List ℕ) → IsMachine place → IsMachine s.0 × GoesBetween c place s.0 s.1 → 1 ≤ length s.1
  message-some c place s m h = go place s.0 m h.0 h.1 where
    go : (from to : Place) → IsMachine from → IsMachine to → GoesBetween c from to s.1 → 1 ≤ length s.1
    go Front (Node n) m k e = named-some s.1 c e
    go (Node n) Front m k e = named-some s.1 c e
    go (Node n) (Node i) m k e = named-some s.1 c e
    go Front Front m k e = absurd e
    go (Client d) to m k e = absurd m
    go from (Client d) m k e = absurd k

  messages-some : (c : ℕ) (place : Place) (ss : List (Place × List ℕ)) → IsMachine place → AreMessages c place ss → Each HasByte ss
  messages-some c place ss m h = Each-weaker (λ s. IsMachine s.0 × GoesBetween c place s.0 s.1) HasByte (λ s k. message-some c place s m k) ss h

  -- what a node notes
  node-told : (n c : ℕ) (r : Rec) → NotedAt (Node n) c r → IsToldSo files r
  node-told n c (rec.Wrote d bytes) h = absurd h
  node-told n c (rec.Sent k from to bytes) h = absurd h
  node-told n c (rec.Accepted d bytes) h = absurd h
  node-told n c (rec.AssignedFirst d r path m add remove) h = absurd h
  node-told n c (rec.AssignedLater d r path m add size queue) h = absurd h
  node-told n c _ h = tt

  nodes-told : (n c : ℕ) (rs : List Rec) → Each (NotedAt (Node n) c) rs → Each (IsToldSo files) rs
  nodes-told n c rs h = Each-weaker (NotedAt (Node n) c) (IsToldSo files) (node-told n c) rs h

-- ---- every rule

module _ (k : Setting) (short : AreFilePathsShort k.files) where
  abbrev fs : FilesAt
  fs = k.files

  abbrev Given : Conn → Type 0
  Given x = Unit {0}

  -- what is known of a move beside
  record Helps (x : Conn) (v : Move) : Type 0 where
    may : MayRestOn Given x
    own : IsItsOwn x v

  abbrev Moves : Conn → Move → Type 0
  Moves x v = Helps x v → AreToldSo fs x → AreToldSo fs (grown x v)

  -- ---- clients

  client-moves : (x : Conn) (s : Station) (heads : List Seen) (given : ClientBlock × Turn) → Each (SeenToldSo fs) heads → (Each SeenGives heads → ClientFits fs given) → Moves x (client_does x s heads given)
  client-moves x s heads given told fits help h = moved fs x (client_does x s heads given) help.own (record {
    target = h.target;
    letters = Each-append (LetterNames fs) (map (letter (Client x.c)) given.1.segments) [] (else-names fs (Client x.c) given.1.segments tt) tt;
    heads = told;
    notes = λ gives. (fits gives).0;
    sent = λ gives. (fits gives).1;
    spoken = tt;
  }) h

  opens-moves : (x : Conn) (isn iss wnd mss : ℕ) → Moves x (client_begins x isn iss wnd mss)
  opens-moves x isn iss wnd mss help h =
      let fits : ClientFits fs (client_opens x.c isn wnd mss) = opens-fits fs x.c isn wnd mss in
      moved fs x (client_begins x isn iss wnd mss) help.own (record {
        target = h.target;
        letters = Each-append (LetterNames fs) (map (letter (Client x.c)) (client_opens x.c isn wnd mss).1.segments) [] (else-names fs (Client x.c) (client_opens x.c isn wnd mss).1.segments tt) tt;
        heads = (tt, (tt, tt));
        notes = λ gives. fits.0;
        sent = λ gives. fits.1;
        spoken = tt;
      }) h

  -- what is seen first gives what it is to write
  gets-bytes : (c : ℕ) (g : ClientGets) → Each SeenGives (client_seen c g) → GetsBytes fs g
  gets-bytes c (ToWrite bytes) h = h.0
  gets-bytes c _ h = tt

  clients : ClientRules k Moves
  clients = each-client k Moves (record {
    opens = λ x isn iss wnd mss rule none. opens-moves x isn iss wnd mss;
    does = λ x s g there comes. client-moves x s (client_seen x.c g) (client_rule x.c s.client g) (of-client x.c (Each (SeenToldSo fs)) (λ from bytes. (tt, tt)) (λ e. (tt, tt)) g)
        (λ gives. rule-fits fs x.c s.client g (gets-bytes x.c g gives));
  })

  -- ---- the front end

  front-moves : (x : Conn) (env : FrontEnv) (same : env.serve.files ≡ fs) (heads : List Seen) (d : front.FrontDeed) → Each (SeenToldSo fs) heads → (RestNamed fs x.part.front.rest → DeedFits fs env same d) → Moves x (front_does x heads d)
  front-moves x env same heads front.Drops told fits help h = moved fs x (front_does x heads front.Drops) help.own (record { target = h.target; letters = tt; heads = told; notes = λ gives. tt; sent = λ gives. tt; spoken = tt }) h
  front-moves x env same heads (front.Says t) told fits help h =
      let v : Move = front_does x heads (front.Says t) in
      let turn = fits h.target in
      moved fs x v help.own (record {
        target = h.target;
        letters = Each-append (LetterNames fs) (map (letter Front) t.segments) (map (letter Front) t.messages) (else-names fs Front t.segments tt) (else-names fs Front t.messages tt);
        heads = told;
        notes = λ gives. turn.0;
        sent = λ gives. says-bytes fs env.serve.c t.segments turn.1;
        spoken = messages-some fs x.c Front t.messages tt help.own.messages;
      }) h
  front-moves x env same heads (front.Does did) told fits help h =
      let v : Move = front_does x heads (front.Does did) in
      let deed = fits h.target in
      moved fs x v help.own (record {
        target = deed.0;
        letters = Each-append (LetterNames fs) (map (letter Front) did.turn.segments) (map (letter Front) did.turn.messages) (else-names fs Front did.turn.segments tt) (else-names fs Front did.turn.messages tt);
        heads = told;
        notes = λ gives. deed.1.0;
        sent = λ gives. says-bytes fs env.serve.c did.turn.segments deed.1.1;
        spoken = messages-some fs x.c Front did.turn.messages tt help.own.messages;
      }) h

  -- an Ask that comes was sent, so its paths are those of files
  comes-named : (x : Conn) (env : FrontEnv) (same : env.serve.files ≡ fs) (heads : List Seen) (g : FrontGets) → FrontComes x env heads g → AreToldSo fs x → ComesNamed fs env same g
  comes-named x env same heads (AskedBy n epoch ask) comes h =
      let l : Letter = record { from = Node n; to = Front; bytes = comes.told.bytes } in
      let names = has-each l (LetterNames fs) x.letters comes.told.was h.letters in
      subst (λ (a : Ask). Each (IsOfFile fs) a.paths) (sym comes.is) (names _ comes.told.spells)
  comes-named x env same heads _ comes h = tt

  fronts : FrontRules k Moves
  fronts = each-front k Moves (λ x env heads g is comes help h. front-moves x env is.files heads (front_rule env x.part.front g) (of-front x (Each (SeenToldSo fs)) (λ from bytes. (tt, tt)) tt (tt, tt) env heads g comes)
      (λ target. front-fits fs env is.files x.part.front target g (admission x env heads g comes) (comes-named x env is.files heads g comes h)) help h)

  -- ---- nodes

  node-news : (x : Conn) (n : ℕ) (env : NodeEnv) (same : env.serve.files ≡ fs) (heads : List Seen) (d : NodeDeed) → RestNamed fs x.part.front.rest → Each (SeenToldSo fs) heads → DeedNames fs short n env same d
      → (rs : List Rec) → IsItsOwn x (told_first rs (node_does x n heads d)) → News fs (told_first rs (node_does x n heads d))
  node-news x n env same heads node.Drops target told names rs own =
      record { target = target; letters = tt; heads = told; notes = λ gives. nodes-told fs n x.c (rs ++ []) own.notes; sent = λ gives. tt; spoken = tt }
  node-news x n env same heads (node.Says ms) target told names rs own =
      record { target = target; letters = messages-name fs n short ms names; heads = told; notes = λ gives. nodes-told fs n x.c (rs ++ []) own.notes; sent = λ gives. tt; spoken = messages-some fs x.c (Node n) ms tt own.messages }
  node-news x n env same heads (node.Does given) target told names rs own = record {
    target = target;
    letters = Each-append (LetterNames fs) (map (letter (Node n)) given.1.segments) (map (letter (Node n)) given.1.messages) (segments-name fs n env.serve.c given.1.segments names.0) (messages-name fs n short given.1.messages names.1);
    heads = told;
    notes = λ gives. nodes-told fs n x.c (rs ++ named_records given.1.notes) own.notes;
    sent = λ gives. says-bytes fs env.serve.c given.1.segments names.0;
    spoken = messages-some fs x.c (Node n) given.1.messages tt own.messages;
  }

  -- what is held was sent before
  sent-names : (x : Conn) → AreToldSo fs x → (n : ℕ) (ks : List Kept) → AreSent x (Node n) ks → Each (Names fs short n) (map sent_of ks)
  sent-names x h n [] sent = tt
  sent-names x h n (q ∷ ks) sent = (has-each (record { from = Node n; to = q.to; bytes = q.bytes }) (LetterNames fs) x.letters sent.0.1 h.letters, sent-names x h n ks sent.1)

  sent-append : (x : Conn) (place : Place) (xs ys : List Kept) → AreSent x place xs → AreSent x place ys → AreSent x place (xs ++ ys)
  sent-append x place [] ys h g = g
  sent-append x place (q ∷ xs) ys h g = (h.0, sent-append x place xs ys h.1 g)

  node-moves : (x : Conn) (n epoch : ℕ) (env : NodeEnv) (heads : List Seen) (g : NodeGets) → IsNodeEnv k x.c n epoch env → IsInItsEpoch env (x.part.nodes n) g
      → NodeComes x n epoch heads g → Moves x (node_goes x n env heads g)
  node-moves x n epoch env heads g is at comes help h =
      let p : NodePart = x.part.nodes n in
      let again : Each (Names fs short n) (again_sent p) = sent-names x h n (p.kept ++ p.fetches) (sent-append x (Node n) p.kept p.fetches (help.may.sound.kept n) (help.may.sound.fetches n)) in
      moved fs x (node_goes x n env heads g) help.own (node-news x n env is.files heads (node_rule env p g) h.target (heads-of (SeenToldSo fs) (λ l. tt) (λ i c. tt) x n epoch heads g comes)
      (node-names fs short n env is.files p again g at.0) (job_notes x.c n g) help.own) h

  asides-move : (x : Conn) (n : ℕ) (a : Aside) → MayAside k x n a → Moves x (stands x (Node n) (aside_seen n a) (aside_said k n x.c a))
  asides-move x n (Answers from epoch r path file bytes) may help h = moved fs x (stands x (Node n) (packet_seen (Node from) (Node n) bytes) (content_said k n from x.c epoch r path)) help.own
      (record { target = h.target; letters = (tt, tt); heads = (tt, tt); notes = λ gives. tt; sent = λ gives. tt; spoken = messages-some fs x.c (Node n) (content_said k n from x.c epoch r path).messages tt help.own.messages }) h
  asides-move x n (Queues from epoch r path file bytes) may help h = moved fs x (stands x (Node n) (packet_seen (Node from) (Node n) bytes) (record nothing_said { notes = rec.Queued n from x.c r path ∷ [] })) help.own
      (record { target = h.target; letters = tt; heads = (tt, tt); notes = λ gives. (tt, tt); sent = λ gives. tt; spoken = tt }) h
  asides-move x n (Brings from epoch r path) may help h = moved fs x (stands x (Node n) [] (brought_said k n from x.c epoch r path)) help.own
      (record { target = h.target; letters = (tt, tt); heads = tt; notes = λ gives. (tt, tt); sent = λ gives. tt; spoken = messages-some fs x.c (Node n) (content_said k n from x.c epoch r path).messages tt help.own.messages }) h

  -- ---- all of them

  rules : Rules k Moves
  rules = record {
    untouched = record {
      client = clients;
      front = fronts;
      node = each-node k Moves (record { does = node-moves; aside = asides-move });
      ignores = λ x from to bytes was help h. moved fs x (stands x to (packet_seen from to bytes) nothing_said) help.own (record { target = h.target; letters = tt; heads = (tt, tt); notes = λ gives. tt; sent = λ gives. tt; spoken = tt }) h;
    };
    injects = λ x s bytes there rule. client-moves x s (inject_seen x.c bytes) (client_injects s.client bytes) (tt, (tt, tt)) (λ gives. injects-fits fs s.client bytes rule.0);
  }

  told-law : IsLaw k Given (AreToldSo fs)
  told-law = record {
    begins = λ c. record { target = tt; letters = tt; seen = λ gives. tt };
    moves = weaker k (λ x v. IsFine x v × Moves x v) (λ x v. MayRestOn Given x → AreToldSo fs x → AreToldSo fs (grown x v))
        (λ x v all may h. all.1 (record { may = may; own = (all.0 may.number may.sound).0 }) h) (both k IsFine Moves (fine k) rules);
  }

-- In every state that events lead to.
pub each-told : (config : Config) (files : List (List ℕ × List ℕ)) → AreFilePathsShort (file_at files) → OfEach config files (AreToldSo (file_at files))
each-told config files short = carried config files (λ x. Unit {0}) (AreToldSo (file_at files)) (λ l. told-law (with_leaving (setting config files) l) short) (λ m r q. tt)
