-- Each segment of the cluster has ACK, or it is the refusal of a segment of the client's: by each rule, as it was spelled.
use Rattle.std.proofs.Common.{◌≡◌, ◌⊎◌, ⊎_elim, inl, inr, ◌&&◌, not, ℕ, Bool, true, false, cond, List, [], ◌∷◌, ◌++◌, map, Option, Some, None, Ok, IfSome, refl, sym, subst}
use Rattle.std.proofs.lemmas.Bool.{and_parts, cond_both}
use Rattle.lard_law_view.specs.Prelude.{BackConn, BackRow, Client, ClientRules, Conn, ControlBlock, Final, Front, FrontRules, Has, IsLaw, IsMachine, IsNodeEnv, Letter, MayRestOn, Move, Node, NodeEnv, NodePart, NodeRules, Place, Ready, Reason, Rules, Said, Seen, ServeEnv, Setting, Stay, ToClient, ToCluster, ack_ready, advanced, client_does, client_injects, decoded, emitted, front_does, grown, inject_seen, is_telling, last_ack, last_words, letter, letters_of, next_piece, node_does, nothing_said, owed_ready, owes, packet_seen, ready_of, refusal, resent_piece, retried, spelled, stands, timed}
use Rattle.lard_base.specs.declared.place.Reason.TheVariants as reason
use Rattle.lard_law_connections.specs.SilencePlaces.{BackHas, BackStageHas, HereHas, NodeHas}
use Rattle.lard_law_connections.proofs.SilenceEndpoints.{Anything}
use Rattle.lard_law_connections.proofs.SilenceFronts as fronts
use Rattle.lard_law_connections.proofs.SilenceNodes as nodes
use Rattle.lard_law_connections.proofs.SilenceTurns.{AreTold, IsKept, nobody}
use Rattle.lard_law_view.proofs.EachFront.{FrontComes, admission, each-front}
use Rattle.lard_law_view.proofs.EachNode.{aside_said, aside_seen, each-node}
use Rattle.lard_law_view.proofs.Frames.{IsAtClient, Owed as Framed, clients-leave}
use Rattle.lard_law_view.proofs.Fine.{IsFine, IsItsOwn, fine}
use Rattle.lard_law_view.proofs.Guarded.{both, weaker, client-weaker}
use Rattle.lard_law_view.proofs.Saying.{AreMessages}
use Rattle.lard_laws.proofs.NodeDeeds.{aside-letters}
use Rattle.lard_laws.specs.Windows.{AnyBlock}
use Rattle.lard_laws.proofs.WindowsForwards.{any-front}
use Rattle.lard_rules.specs.Front as front
use Rattle.lard_handoff_back.specs.declared.row.BackConn.TheVariants as back
use Rattle.lard_history.proofs.Each.{Each, Each-append, Each-weaker}
use Rattle.lard_history.proofs.Seeing.{has-before}
use Rattle.lard_rules.specs.Node as node
use Rattle.lard_send.specs.declared.piece.Piece.{Piece}

-- ---- what an endpoint sends has ACK

acks-ready : (d : ControlBlock) (p : Option Piece) (b : Bool) → IfSome (ready_of d p (cond {A = Option Ready} b (Some (ack_ready d)) None)) (λ (r : Ready). r.flags.ack ≡ true)
acks-ready d (Some p) b = refl
acks-ready d None true = refl
acks-ready d None false = tt

emitted-acks : (b : ControlBlock) (r : Ready) → emitted b ≡ Some r → r.flags.ack ≡ true
emitted-acks b r e =
    let P : Option Ready → Type 0 = λ o. IfSome o (λ (q : Ready). q.flags.ack ≡ true) in
    subst P e (cond_both b.reset None (ready_of (advanced b) (next_piece b.send) (owed_ready (advanced b))) P (λ t. tt) (λ t. acks-ready (advanced b) (next_piece b.send) (owes (advanced b))))

timed-acks : (b : ControlBlock) (r : Ready) → timed b ≡ Some r → r.flags.ack ≡ true
timed-acks b r e =
    let P : Option Ready → Type 0 = λ o. IfSome o (λ (q : Ready). q.flags.ack ≡ true) in
    subst P e (cond_both b.reset None (ready_of (retried b) (resent_piece b.send) None) P (λ t. tt) (λ t. acks-ready (retried b) (resent_piece b.send) false))

-- ---- what goes out

module _ (c : ℕ) (ls : List Letter) where
  -- it is the refusal of a segment of the client's
  pub record IsRefused (s : Said) : Type 0 where
    pub bytes : List ℕ
    pub said : Said
    pub has : Has (record { from = Client c; to = Front; bytes = bytes }) ls
    pub read : decoded bytes c ToCluster ≡ Ok said
    pub acks : said.flags.ack ≡ true
    pub plain : said.flags.rst ≡ false
    pub same : s ≡ refusal said.ack

  abbrev pub Saying : Said → Type 0
  Saying s = (s.flags.ack ≡ true) ⊎ IsRefused s

  abbrev Says : ControlBlock → Said → Type 0
  Says b s = Saying s

  abbrev pub ReplyIs : List ℕ → Type 0
  ReplyIs bytes = (s : Said) × (bytes ≡ spelled c ToClient s) × Saying s

  abbrev pub ReplyIsOn : Place → Place → List ℕ → Type 0
  ReplyIsOn Front (Client d) bytes = ReplyIs bytes
  ReplyIsOn (Node n) (Client d) bytes = ReplyIs bytes
  ReplyIsOn _ _ bytes = Unit {0}

  abbrev pub LetterIs : Letter → Type 0
  LetterIs l = ReplyIsOn l.from l.to l.bytes

  says-kept : (env : ServeEnv) → IsKept env AnyBlock AnyBlock Anything Says
  says-kept env = record {
    begins = λ b h. tt;
    hears = λ b s h w. tt;
    fires = λ b h. tt;
    again = λ b r h e. inl (timed-acks b r e);
    emits = λ b h. tt;
    says = λ b r h e. inl (emitted-acks b r e);
    later = λ b s h r. r;
    cuts = λ b h. inl refl;
    serves = record { notes = λ w rs starts h. tt; reads = λ w n h. tt; ends = λ w h. tt; answers = λ w way v may h. tt };
    rests = λ b h stays. tt;
  }

  -- the words of an ended connection
  words-say : (bytes : List ℕ) (sd : Said) → Has (record { from = Client c; to = Front; bytes = bytes }) ls → decoded bytes c ToCluster ≡ Ok sd
      → (why : Reason) (last : Final) → IfSome (last_words why last sd) (λ (t : Said). (d : ControlBlock) → Says d t)
  words-say bytes sd has read reason.Closed last = cond_both (is_telling sd) (Some (last_ack last)) None (λ (q : Option Said). IfSome q (λ (t : Said). (d : ControlBlock) → Says d t)) (λ t d. inl refl) (λ t. tt)
  words-say bytes sd has read reason.Peer last = tt
  words-say bytes sd has read reason.Limit last = cond_both (sd.flags.ack && not sd.flags.rst) (Some (refusal sd.ack)) None (λ (q : Option Said). IfSome q (λ (t : Said). (d : ControlBlock) → Says d t))
      (λ t d. let both : (sd.flags.ack ≡ true) × (not sd.flags.rst ≡ true) = and_parts sd.flags.ack (not sd.flags.rst) t in inr (record { bytes = bytes; said = sd; has = has; read = read; acks = both.0; plain = off sd.flags.rst both.1; same = refl }))
      (λ t. tt)
    where
      off : (b : Bool) → not b ≡ true → b ≡ false
      off true e = absurd (let bad : false ≡ true = e in cc)
      off false e = refl

  -- segments to the client, by a place of the cluster
  from-machine : (place : Place) (bytes : List ℕ) → IsMachine place → ReplyIs bytes → ReplyIsOn place (Client c) bytes
  from-machine Front bytes m r = r
  from-machine (Node n) bytes m r = r
  from-machine (Client d) bytes m r = absurd m

  told-are : (place : Place) → IsMachine place → (ss : List (Place × List ℕ)) → AreTold c Saying ss → Each LetterIs (map (letter place) ss)
  told-are place m [] told = tt
  told-are place m (p ∷ ps) told = (subst (λ (to : Place). ReplyIsOn place to p.1) (sym told.0.0) (from-machine place p.1 m told.0.1), told-are place m ps told.1)

  -- messages are no segments
  to-machine : (from to : Place) (bytes : List ℕ) → IsMachine to → ReplyIsOn from to bytes
  to-machine Front Front bytes m = tt
  to-machine (Node k) Front bytes m = tt
  to-machine (Client d) Front bytes m = tt
  to-machine Front (Node n) bytes m = tt
  to-machine (Node k) (Node n) bytes m = tt
  to-machine (Client d) (Node n) bytes m = tt
  to-machine from (Client d) bytes m = absurd m

  messages-are : (place : Place) (ms : List (Place × List ℕ)) → AreMessages c place ms → Each LetterIs (map (letter place) ms)
  messages-are place [] all = tt
  messages-are place (p ∷ ps) all = (to-machine place p.0 p.1 all.0.0, messages-are place ps all.1)

  -- what a client sends is none of the cluster's
  from-client : (d : ℕ) (to : Place) (bytes : List ℕ) → ReplyIsOn (Client d) to bytes
  from-client d _ bytes = tt

  words-are : (d : ℕ) (ps : List (Place × List ℕ)) → Each LetterIs (map (letter (Client d)) ps)
  words-are d [] = tt
  words-are d (p ∷ ps) = (from-client d p.0 p.1, words-are d ps)

-- with more letters
module _ (c : ℕ) (old new : List Letter) where
  saying-later : (s : Said) → Saying c old s → Saying c (old ++ new) s
  saying-later s h = ⊎_elim (λ (a : s.flags.ack ≡ true). inl a)
      (λ (q : IsRefused c old s). inr (record { bytes = q.bytes; said = q.said; has = has-before (record { from = Client c; to = Front; bytes = q.bytes }) old new q.has; read = q.read; acks = q.acks; plain = q.plain; same = q.same })) h

  on-later : (from to : Place) (bytes : List ℕ) → ReplyIsOn c old from to bytes → ReplyIsOn c (old ++ new) from to bytes
  on-later Front (Client d) bytes r = (r.0, r.1, saying-later r.0 r.2)
  on-later (Node n) (Client d) bytes r = (r.0, r.1, saying-later r.0 r.2)
  on-later _ _ bytes r = tt

  letters-later : (ls : List Letter) → Each (LetterIs c old) ls → Each (LetterIs c (old ++ new)) ls
  letters-later ls h = Each-weaker (LetterIs c old) (LetterIs c (old ++ new)) (λ l r. on-later l.from l.to l.bytes r) ls h

any-node : (p : NodePart) → NodeHas AnyBlock AnyBlock p
any-node p = by-row p.row where
  of-stay : (b : ControlBlock) (o : Option Stay) → HereHas AnyBlock AnyBlock b o
  of-stay b None = tt
  of-stay b (Some s) = tt

  by-stage : (d : BackConn) → BackStageHas AnyBlock AnyBlock d p.stay
  by-stage (back.Here b) = of-stay b p.stay
  by-stage _ = tt

  by-row : (q : Option BackRow) → BackHas AnyBlock AnyBlock q p.stay
  by-row None = tt
  by-row (Some row) = by-stage row.stage

-- ---- the law of what was spelled

-- no other law is needed
abbrev pub Nothing : Conn → Type 0
Nothing x = Unit {0}

abbrev pub RepliesAre : Conn → Type 0
RepliesAre x = Each (LetterIs x.c x.letters) x.letters

module _ (k : Setting) where
  abbrev Keeps : Conn → Move → Type 0
  Keeps x v = MayRestOn Nothing x → IsItsOwn x v → RepliesAre x → RepliesAre (grown x v)

  grows : (x : Conn) (v : Move) → Each (LetterIs x.c x.letters) (letters_of v) → RepliesAre x → RepliesAre (grown x v)
  grows x v new h = letters-later x.c x.letters (letters_of v) (x.letters ++ letters_of v) (Each-append (LetterIs x.c x.letters) x.letters (letters_of v) h new)

  goes-out : (x : Conn) (place : Place) → IsMachine place → (ss ms : List (Place × List ℕ)) → AreTold x.c (Saying x.c x.letters) ss → AreMessages x.c place ms
      → Each (LetterIs x.c x.letters) (map (letter place) ss ++ map (letter place) ms)
  goes-out x place m ss ms told messages = Each-append (LetterIs x.c x.letters) (map (letter place) ss) (map (letter place) ms) (told-are x.c x.letters place m ss told) (messages-are x.c x.letters place ms messages)

  -- ---- the front end

  front-rule : (x : Conn) (heads : List Seen) (d : front.FrontDeed) → fronts.DeedHas AnyBlock (Says x.c x.letters) x.c d → Keeps x (front_does x heads d)
  front-rule x heads front.Drops told may own h = grows x (front_does x heads front.Drops) tt h
  front-rule x heads (front.Says turn) told may own h = grows x (front_does x heads (front.Says turn)) (goes-out x Front tt turn.segments turn.messages (told nobody) own.messages) h
  front-rule x heads (front.Does did) told may own h = grows x (front_does x heads (front.Does did)) (goes-out x Front tt did.turn.segments did.turn.messages told.1.1 own.messages) h

  heard-given : (x : Conn) (env : front.FrontEnv) (heads : List Seen) (g : front.FrontGets) → FrontComes x env heads g
      → fronts.Given env AnyBlock AnyBlock Anything (Says x.c x.letters) (says-kept x.c x.letters env.serve) x.part.front (any-front x.part.front.row) g
  heard-given x env heads (front.FrontHears bytes (Ok s)) comes = (tt, (λ none plain. tt), (λ row last found closed. words-say x.c x.letters bytes s comes.was (sym comes.read) last.reason last))
  heard-given x env heads (front.ReturnedBy n epoch back) comes = λ row parts at. tt
  heard-given x env heads _ comes = tt

  front-rules : FrontRules k Keeps
  front-rules = each-front k Keeps (λ x env heads g is comes.
      let d : front.FrontDeed = front.front_rule env x.part.front g in
      front-rule x heads d (subst (λ (c : ℕ). fronts.DeedHas AnyBlock (Says x.c x.letters) c d) is.number
      (fronts.rule-has env AnyBlock AnyBlock Anything (Says x.c x.letters) (says-kept x.c x.letters env.serve) x.part.front (any-front x.part.front.row) g (admission x env heads g comes) (heard-given x env heads g comes))))

  -- ---- the nodes

  node-rule : (x : Conn) (n epoch : ℕ) (env : NodeEnv) (heads : List Seen) (d : node.NodeDeed) → IsNodeEnv k x.c n epoch env
      → nodes.DeedHas AnyBlock AnyBlock (Says x.c x.letters) env.serve.c d
      → AreMessages x.c (node_does x n heads d).place (node_does x n heads d).said.messages → RepliesAre x → RepliesAre (grown x (node_does x n heads d))
  node-rule x n epoch env heads d is f messages h =
      go d (subst (λ (c : ℕ). nodes.DeedHas AnyBlock AnyBlock (Says x.c x.letters) c d) is.number f) messages where
        go : (d : node.NodeDeed) → nodes.DeedHas AnyBlock AnyBlock (Says x.c x.letters) x.c d
            → AreMessages x.c (node_does x n heads d).place (node_does x n heads d).said.messages → RepliesAre (grown x (node_does x n heads d))
        go node.Drops told own = grows x (node_does x n heads node.Drops) tt h
        go (node.Says ms) told own = grows x (node_does x n heads (node.Says ms)) (messages-are x.c x.letters (Node n) ms own) h
        go (node.Does given) told own = grows x (node_does x n heads (node.Does given)) (goes-out x (Node n) tt given.1.segments given.1.messages told.1.1 own) h

  given-any : (x : Conn) (env : NodeEnv) (p : NodePart) (g : node.NodeGets) → nodes.Given env AnyBlock AnyBlock AnyBlock Anything (Says x.c x.letters) (says-kept x.c x.letters env.serve) p g
  given-any x env p (node.Offered parts) = (any-node p, λ new. tt)
  given-any x env p (node.Forwarded given) = (any-node p, λ s e. tt)
  given-any x env p _ = any-node p

  node-rules : NodeRules k Keeps
  node-rules = each-node k Keeps (record {
    does = λ x n epoch env heads g is at comes may own. node-rule x n epoch env heads (node.node_rule env (x.part.nodes n) g) is
        (nodes.rule-has env AnyBlock AnyBlock AnyBlock Anything (Says x.c x.letters) (says-kept x.c x.letters env.serve) (x.part.nodes n) g at.0
        (given-any x env (x.part.nodes n) g)) own.messages;
    aside = λ x n a there may own h. grows x (stands x (Node n) (aside_seen n a) (aside_said k n x.c a))
        (aside-letters (LetterIs x.c x.letters) (λ n to bytes. tt) k x n a) h;
  })

  -- ---- clients

  client-rule : (x : Conn) (v : Move) → v.place ≡ Client x.c → Keeps x v
  client-rule x v at may own h = grows x v (subst
      (λ (place : Place). Each (LetterIs x.c x.letters) (map (letter place) v.said.segments ++ map (letter place) v.said.messages)) (sym at)
      (Each-append (LetterIs x.c x.letters) (map (letter (Client x.c)) v.said.segments) (map (letter (Client x.c)) v.said.messages)
      (words-are x.c x.letters x.c v.said.segments) (words-are x.c x.letters x.c v.said.messages))) h

  client-rules : ClientRules k Keeps
  client-rules = client-weaker k (Framed IsAtClient) Keeps (λ x v frame may. client-rule x v (frame may.number may.sound).client may)
      (clients-leave k IsAtClient (λ x v at own number sound. at))

  rules : Rules k Keeps
  rules = record {
    untouched = record { client = client-rules; front = front-rules; node = node-rules; ignores = λ x from to bytes was may own h. grows x (stands x to (packet_seen from to bytes) nothing_said) tt h };
    injects = λ x s bytes there rule. client-rule x (client_does x s (inject_seen x.c bytes) (client_injects s.client bytes)) refl;
  }

  abbrev Owed : Conn → Move → Type 0
  Owed x v = IsFine x v × Keeps x v

  abbrev Wanted : Conn → Move → Type 0
  Wanted x v = MayRestOn Nothing x → RepliesAre x → RepliesAre (grown x v)

  wanted : (x : Conn) (v : Move) → Owed x v → Wanted x v
  wanted x v owed may h = owed.1 may (owed.0 may.number may.sound).0 h

  pub replies-law : IsLaw k Nothing RepliesAre
  replies-law = record { begins = λ c. tt; moves = weaker k Owed Wanted wanted (both k IsFine Keeps (fine k) rules) }
