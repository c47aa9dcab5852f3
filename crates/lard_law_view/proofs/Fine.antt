-- A move of any rule leaves its connection sound.
use Rattle.std.proofs.Common.{◌≡◌, ℕ, is_some, cond, nat_eq, List, [], ◌∷◌, ◌++◌, map, Some, refl, sym, ap, ◌∙◌, subst, inl}
use Rattle.std.proofs.lemmas.Bool.{cond_both}
use Rattle.lard_base.specs.declared.event.Event.TheVariants as event
use Rattle.lard_law_view.specs.Prelude.{AreBetween, AreSent, ClientBlock, ClientRules, Conn, Front, FrontEnv, FrontPart, FrontRules, FrontTurn, IsConnNumber, IsConnSound, IsFrontEnv, IsNodeEnv, Kept, Letter, Move, Node, NodeEnv, NodePart, NodeRules, Place, Rec, Rules, Seen, Setting, Station, ToCluster, Turn, TurnSaid, brought_said, by_front, client_begins, client_does, client_injects, client_opens, client_rule, content_said, decoded, epoch_in, event_seen, front_admits, front_does, front_rule, grown, inject_seen, letter, letters_of, named_records, node_does, node_put_back, nothing_said, packet_seen, reads_first, sent_of, stands, whose, with_front}
use Rattle.lard_law_view.proofs.EachClient.{client_seen, each-client}
use Rattle.lard_law_view.proofs.Clients.{client-said}
use Rattle.lard_law_view.proofs.EachFront.{admission, each-front}
use Rattle.lard_law_view.proofs.Fronts as fronts
use Rattle.lard_law_view.proofs.Fronts.{IsAdmission, IsFrontDeed}
use Rattle.lard_law_view.proofs.Nodes as nodes
use Rattle.lard_law_view.proofs.Nodes.{IsNodeDeed}
use Rattle.lard_law_view.proofs.Saying.{AllBetween, AreMessages, GaveAt, NotedAt, messages-between}
use Rattle.lard_law_view.proofs.Turned.{AreHeld, IsSaid, held-sent, sent-messages, spelled}
use Rattle.lard_rules.specs.Front as front
use Rattle.lard_history.proofs.Each.{Each}
use Rattle.lard_history.proofs.Seeing.{by_number, other_number, same_number, has-before}
use Rattle.lard_journal.specs.declared.rec.Rec.TheVariants as rec
use Rattle.lard_message.specs.declared.message.Body.TheVariants as body
use Rattle.lard_rules.specs.Node as node
use Rattle.lard_law_view.proofs.PlaceTurns.{IsClientTurn, injects-turn, opens-turn, rule-turn}

-- All that a move says is of its connection.
pub record IsItsOwn (x : Conn) (v : Move) : Type 0 where
  pub notes : Each (NotedAt v.place x.c) v.said.notes
  pub segments : AllBetween x.c v.place v.said.segments
  pub gave : Each (GaveAt v.place x.c) v.said.gave
  pub messages : AreMessages x.c v.place v.said.messages

-- So is it of a sound connection with a number, which stays sound.
abbrev pub IsFine : Conn → Move → Type 0
IsFine x v = IsConnNumber x.c → IsConnSound x → IsItsOwn x v × IsConnSound (grown x v)

-- what is named of what a node notes is noted, too
named-noted : (place : Place) (c : ℕ) (rs : List Rec) → Each (NotedAt place c) rs → Each (NotedAt place c) (named_records rs)
named-noted place c [] e = tt
named-noted place c (r ∷ rs) e = cond_both (is_some (whose r)) (r ∷ named_records rs) (named_records rs) (Each (NotedAt place c)) (λ t. (e.0, named-noted place c rs e.1)) (λ t. named-noted place c rs e.1)

-- ---- packets

between-append : (c : ℕ) (xs ys : List Letter) → AreBetween c xs → AreBetween c ys → AreBetween c (xs ++ ys)
between-append c [] ys e f = f
between-append c (x ∷ xs) ys e f = (e.0, between-append c xs ys e.1 f)

between-sent : (c : ℕ) (place : Place) (ss : List (Place × List ℕ)) → AllBetween c place ss → AreBetween c (map (letter place) ss)
between-sent c place [] e = tt
between-sent c place (s ∷ ss) e = (e.0, between-sent c place ss e.1)

module _ (x : Conn) (v : Move) (sound : IsConnSound x) (segments : AllBetween x.c v.place v.said.segments) (messages : AreMessages x.c v.place v.said.messages) where
  between-grown : AreBetween x.c (grown x v).letters
  between-grown = between-append x.c x.letters (letters_of v) sound.between
      (between-append x.c (map (letter v.place) v.said.segments) (map (letter v.place) v.said.messages) (between-sent x.c v.place v.said.segments segments)
      (between-sent x.c v.place v.said.messages (messages-between x.c v.place v.said.messages messages)))

-- what was sent before, was
still-sent : (x : Conn) (v : Move) (place : Place) (ks : List Kept) → AreSent x place ks → AreSent (grown x v) place ks
still-sent x v place [] e = tt
still-sent x v place (k ∷ ks) e = ((e.0.0, has-before (letter place (sent_of k)) x.letters (letters_of v) e.0.1), still-sent x v place ks e.1)

some-same : {A : Type 0} (a b : A) → Some a ≡ Some b → a ≡ b
some-same a b e = cc

-- what a place says in a turn, as a move
its-own : (x : Conn) (v : Move) (answered : ℕ) → IsSaid v.place x.c v.said.notes v.said.segments v.said.gave v.said.messages answered → IsItsOwn x v
its-own x v answered of = record { notes = of.notes; segments = of.segments; gave = of.gave; messages = of.messages }

module _ (x : Conn) (number : IsConnNumber x.c) (sound : IsConnSound x) where
  -- what each rule's move owes
  abbrev Good : Move → Type 0
  Good v = IsItsOwn x v × IsConnSound (grown x v)

  -- nothing that is kept changes
  stands-fine : (place : Place) (heads : List Seen) (said : TurnSaid) → IsItsOwn x (stands x place heads said) → Good (stands x place heads said)
  stands-fine place heads said own = let v : Move = stands x place heads said in (
    own,
    record {
      number = inl number;
      between = between-grown x v sound own.segments own.messages;
      client = sound.client;
      front = still-sent x v Front x.part.front.kept sound.front;
      kept = λ n. still-sent x v (Node n) (x.part.nodes n).kept (sound.kept n);
      fetches = λ n. still-sent x v (Node n) (x.part.nodes n).fetches (sound.fetches n);
    },
  )

  -- a client's turn
  client-fine : (heads : List Seen) (iss : ℕ) (given : ClientBlock × Turn) → IsClientTurn x.c given → Good (client_does x (record { client = given.0; iss = iss }) heads given)
  client-fine heads iss given t =
      let s : Station = record { client = given.0; iss = iss } in
      let v : Move = client_does x s heads given in
      let own : IsItsOwn x v = its-own x v given.1.answered (client-said x.c given t) in (
        own,
        record {
          number = inl number;
          between = between-grown x v sound own.segments own.messages;
          client = λ y e. sym (ap (λ (z : Station). z.client.c) (some-same s y e)) ∙ t.number;
          front = still-sent x v Front x.part.front.kept sound.front;
          kept = λ n. still-sent x v (Node n) (x.part.nodes n).kept (sound.kept n);
          fetches = λ n. still-sent x v (Node n) (x.part.nodes n).fetches (sound.fetches n);
        },
      )

  -- the front end's, behind these heads
  module _ (heads : List Seen) (p : FrontPart) (t : FrontTurn) where
    abbrev fronts_move : Move
    fronts_move = record { place = Front; heads = heads; said = by_front t; part = with_front x.part p }

    front-fine : IsItsOwn x fronts_move → AreHeld t.messages x.part.front.kept p.kept → Good fronts_move
    front-fine own held = (
      own,
      record {
        number = inl number;
        between = between-grown x fronts_move sound own.segments own.messages;
        client = sound.client;
        front = held-sent x (grown x fronts_move) Front t.messages (map (letter Front) t.segments) refl x.part.front.kept p.kept own.messages sound.front held;
        kept = λ n. still-sent x fronts_move (Node n) (x.part.nodes n).kept (sound.kept n);
        fetches = λ n. still-sent x fronts_move (Node n) (x.part.nodes n).fetches (sound.fetches n);
      },
    )

  front-deed-fine : (heads : List Seen) (d : front.FrontDeed) → IsFrontDeed x.c x.part.front d → Good (front_does x heads d)
  front-deed-fine heads front.Drops of = stands-fine Front heads nothing_said (record { notes = tt; segments = tt; gave = tt; messages = tt })
  front-deed-fine heads (front.Says t) of = stands-fine Front heads (by_front t) (its-own x (front_does x heads (front.Says t)) t.answered of)
  front-deed-fine heads (front.Does y) of = front-fine heads y.part y.turn (its-own x (front_does x heads (front.Does y)) y.turn.answered of.0) of.1

  admits-fine : (given : FrontPart × FrontTurn) → IsAdmission x.c x.part.front given → Good (front_admits x given)
  admits-fine given of = front-fine [] given.0 given.1 (its-own x (front_admits x given) 0 of.0) of.1

  -- ---- a node's, behind these heads

  -- what one node keeps is put back
  put-all : (P : ℕ → NodePart → Type 0) (n : ℕ) (q : NodePart) → ((k : ℕ) → P k (x.part.nodes k)) → P n q → (k : ℕ) → P k (node_put_back x.part.nodes n q k)
  put-all P n q all one k = by_number (P k (node_put_back x.part.nodes n q k)) k n
      (λ same. subst (P k) (sym (ap (λ b. cond b q (x.part.nodes k)) (ap (λ j. nat_eq j n) same ∙ same_number n))) (subst (λ (j : ℕ). P j q) (sym same) one))
      (λ other. subst (P k) (sym (ap (λ b. cond b q (x.part.nodes k)) (other_number k n other))) (all k))

  node-deed-fine : (n : ℕ) (heads : List Seen) (d : node.NodeDeed) → IsNodeDeed n x.c (x.part.nodes n) d → Good (node_does x n heads d)
  node-deed-fine n heads node.Drops of = stands-fine (Node n) heads nothing_said (record { notes = tt; segments = tt; gave = tt; messages = tt })
  node-deed-fine n heads (node.Says messages) of = stands-fine (Node n) heads (record nothing_said { messages = messages }) (record { notes = tt; segments = tt; gave = tt; messages = of })
  node-deed-fine n heads (node.Does y) of =
      let v : Move = node_does x n heads (node.Does y) in
      let said = of.0.0 in
      let own : IsItsOwn x v = record { notes = named-noted (Node n) x.c y.1.notes said.notes; segments = said.segments; gave = said.gave; messages = said.messages } in (
        own,
        record {
          number = inl number;
          between = between-grown x v sound own.segments own.messages;
          client = sound.client;
          front = still-sent x v Front x.part.front.kept sound.front;
          kept = put-all (λ k p. AreSent (grown x v) (Node k) p.kept) n y.0 (λ k. still-sent x v (Node k) (x.part.nodes k).kept (sound.kept k))
              (held-sent x (grown x v) (Node n) y.1.messages (map (letter (Node n)) y.1.segments) refl (x.part.nodes n).kept y.0.kept said.messages (sound.kept n) of.1);
          fetches = put-all (λ k p. AreSent (grown x v) (Node k) p.fetches) n y.0 (λ k. still-sent x v (Node k) (x.part.nodes k).fetches (sound.fetches k))
              (held-sent x (grown x v) (Node n) y.1.messages (map (letter (Node n)) y.1.segments) refl (x.part.nodes n).fetches y.0.fetches said.messages (sound.fetches n) of.2);
        },
      )

  -- the record of a job that was read stands before
  read-fine : (n r : ℕ) (path : List ℕ) (d : node.NodeDeed) → Good (node_does x n [] d) → Good (reads_first (rec.Read n n x.c r path) (node_does x n [] d))
  read-fine n r path d h = (
    read_own d h.0,
    record { number = inl number; between = h.1.between; client = h.1.client; front = h.1.front; kept = h.1.kept; fetches = h.1.fetches },
  ) where
    read_own : (d : node.NodeDeed) → IsItsOwn x (node_does x n [] d) → IsItsOwn x (reads_first (rec.Read n n x.c r path) (node_does x n [] d))
    read_own node.Drops own = record { notes = ((refl, refl), own.notes); segments = own.segments; gave = own.gave; messages = own.messages }
    read_own (node.Says messages) own = record { notes = ((refl, refl), own.notes); segments = own.segments; gave = own.gave; messages = own.messages }
    read_own (node.Does y) own = record { notes = ((refl, refl), own.notes); segments = own.segments; gave = own.gave; messages = own.messages }

  -- ---- by the rules of the machines

  its-turn : (s : Station) (given : ClientBlock × Turn) → x.part.station ≡ Some s → (s.client.c ≡ x.c → IsClientTurn x.c given) → (heads : List Seen) → Good (client_does x s heads given)
  its-turn s given there turn heads = client-fine heads s.iss given (turn (sound.client s there))

  module _ (k : Setting) where
    front-rule : (env : FrontEnv) (is : IsFrontEnv k x.c env) (heads : List Seen) (d : front.FrontDeed)
        → (env.serve.place ≡ Front → IsConnNumber env.serve.c → AreMessages env.serve.c Front (map sent_of x.part.front.kept) → IsFrontDeed env.serve.c x.part.front d) → Good (front_does x heads d)
    front-rule env is heads d deed = front-deed-fine heads d (subst (λ (c : ℕ). IsFrontDeed c x.part.front d) is.number
        (deed is.place (subst IsConnNumber (sym is.number) number)
        (subst (λ (c : ℕ). AreMessages c Front (map sent_of x.part.front.kept)) (sym is.number) (sent-messages x Front x.part.front.kept sound.between sound.front))))

    node-rule : (n epoch : ℕ) (env : NodeEnv) (is : IsNodeEnv k x.c n epoch env) (heads : List Seen) (d : node.NodeDeed)
        → (env.serve.place ≡ Node env.n → IsConnNumber env.serve.c → IsNodeDeed env.n env.serve.c (x.part.nodes n) d) → Good (node_does x n heads d)
    node-rule n epoch env is heads d deed = node-deed-fine n heads d
        (subst (λ (c : ℕ). IsNodeDeed n c (x.part.nodes n) d) is.number (subst (λ (j : ℕ). IsNodeDeed j env.serve.c (x.part.nodes n) d) is.node
        (deed (is.place ∙ ap Node (sym is.node)) (subst IsConnNumber (sym is.number) number))))

    -- what a node holds goes to other machines
    node-held : (n epoch : ℕ) (env : NodeEnv) → IsNodeEnv k x.c n epoch env → (ks : List Kept) → AreSent x (Node n) ks → AreMessages env.serve.c (Node env.n) (map sent_of ks)
    node-held n epoch env is ks sent =
        subst (λ (c : ℕ). AreMessages c (Node env.n) (map sent_of ks)) (sym is.number) (subst (λ (j : ℕ). AreMessages x.c (Node j) (map sent_of ks)) (sym is.node)
        (sent-messages x (Node n) ks sound.between sent))

-- ---- each rule is fine

client-rules : (k : Setting) → ClientRules k IsFine
client-rules k = each-client k IsFine (record {
  opens = λ x isn iss wnd mss rule none number sound. begins x number sound isn iss wnd mss;
  does = λ x s g there comes number sound. its-turn x number sound s (client_rule x.c s.client g) there (λ own. rule-turn x.c s.client own g) (client_seen x.c g);
}) where
  begins : (x : Conn) → IsConnNumber x.c → IsConnSound x → (isn iss wnd mss : ℕ) → IsItsOwn x (client_begins x isn iss wnd mss) × IsConnSound (grown x (client_begins x isn iss wnd mss))
  begins x number sound isn iss wnd mss = client-fine x number sound (client_begins x isn iss wnd mss).heads iss (client_opens x.c isn wnd mss) (opens-turn x.c isn wnd mss)

front-rules : (k : Setting) → FrontRules k IsFine
front-rules k = each-front k IsFine (λ x env heads g is comes number sound. front-rule x number sound k env is heads (front_rule env x.part.front g)
    (λ own n kept. fronts.rule-deed env own n x.part.front kept g (admission x env heads g comes)))

node-rules : (k : Setting) → NodeRules k IsFine
node-rules k = record {
  offered = λ x n epoch env parts bytes is spells was number sound. node-rule x number sound k n epoch env is (packet_seen Front (Node n) bytes) (node.node_offered env (x.part.nodes n) parts)
      (λ own i. nodes.offered-deed env own i (x.part.nodes n) parts);
  forwarded = λ x n epoch env segment bytes is spells was number sound. node-rule x number sound k n epoch env is (packet_seen Front (Node n) bytes) (node.node_forwarded env (x.part.nodes n) (decoded segment x.c ToCluster))
      (λ own i. nodes.forwarded-deed env own i (x.part.nodes n) (decoded segment x.c ToCluster));
  tagged = λ x n epoch z ns env bytes is spells was number sound. node-rule x number sound k n epoch env is (packet_seen Front (Node n) bytes) (node.node_tagged env (x.part.nodes n) z ns)
      (λ own i. nodes.tagged-deed env own i (x.part.nodes n) z ns);
  content = λ x n from epoch r env file bytes is spells was number sound. node-rule x number sound k n epoch env is (packet_seen (Node from) (Node n) bytes) (node.node_content env (x.part.nodes n) from r)
      (λ own i. nodes.content-deed env own i (x.part.nodes n) from r);
  acknowledged = λ x n epoch back env bytes is spells was number sound. node-rule x number sound k n epoch env is (packet_seen Front (Node n) bytes) (node.node_acknowledged env back (x.part.nodes n))
      (λ own i. nodes.acknowledged-deed env own i (x.part.nodes n) back);
  read = λ x n epoch r env path is number sound. read-fine x number sound n r path (node.node_read env (x.part.nodes n) r)
      (node-rule x number sound k n epoch env is [] (node.node_read env (x.part.nodes n) r) (λ own i. nodes.read-deed env own i (x.part.nodes n) r));
  fires = λ x s n env there is number sound. node-rule x number sound k n (epoch_in (x.part.nodes n)) env is (event_seen (event.Timer (Node n) x.c)) (node.node_timer env (x.part.nodes n))
      (λ own i. nodes.fires-deed env own i (x.part.nodes n) (node-held x number sound k n (epoch_in (x.part.nodes n)) env is (x.part.nodes n).kept (sound.kept n))
      (node-held x number sound k n (epoch_in (x.part.nodes n)) env is (x.part.nodes n).fetches (sound.fetches n)));
  answers = λ x n from epoch r path file bytes there spells was number sound. stands-fine x number sound (Node n) (packet_seen (Node from) (Node n) bytes) (content_said k n from x.c epoch r path)
      (record { notes = tt; segments = tt; gave = tt; messages = ((tt, spelled x.c epoch (body.Content r _) number), tt) });
  queues = λ x n from epoch r path file bytes there spells was number sound. stands-fine x number sound (Node n) (packet_seen (Node from) (Node n) bytes) (record nothing_said { notes = rec.Queued n from x.c r path ∷ [] })
      (record { notes = ((refl, refl), tt); segments = tt; gave = tt; messages = tt });
  brings = λ x n from epoch r path number sound. stands-fine x number sound (Node n) [] (brought_said k n from x.c epoch r path)
      (record { notes = ((refl, refl), tt); segments = tt; gave = tt; messages = ((tt, spelled x.c epoch (body.Content r _) number), tt) });
}

pub fine : (k : Setting) → Rules k IsFine
fine k = record {
  untouched = record {
    client = client-rules k;
    front = front-rules k;
    node = node-rules k;
    ignores = λ x from to bytes was number sound. stands-fine x number sound to (packet_seen from to bytes) nothing_said (record { notes = tt; segments = tt; gave = tt; messages = tt });
  };
  injects = λ x s bytes there rule number sound. its-turn x number sound s (client_injects s.client bytes) there (λ own. injects-turn x.c s.client own bytes) (inject_seen x.c bytes);
}
