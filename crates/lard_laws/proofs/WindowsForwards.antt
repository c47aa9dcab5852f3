-- What the front end forwards was a packet of the client's.
use Rattle.std.proofs.Common.{◌≡◌, ℕ, List, [], ◌∷◌, ◌++◌, map, Option, Some, None, Ok, IfSome, refl, sym, ap, ◌∙◌, subst}
use Rattle.lard_law_view.specs.Prelude.{AreSent, Body, Client, ClientRules, Conn, ControlBlock, Front, FrontConn, FrontDeed, FrontEnv, FrontFires, FrontGets, FrontHears, FrontPart, FrontRow, FrontRules, Has, IsConnSound, IsLaw, Kept, Letter, MayRestOn, Message, Move, Node, NodeRules, Place, ReturnedBy, Rules, Said, Seen, ServeEnv, Setting, client_does, client_injects, decoded_message, front_does, front_rule, grown, inject_seen, kind_of, last_words, letter, letters_of, node_does, nothing_said, packet_seen, parts_of, sent_of, setting, stands, with_leaving}
use Rattle.lard_law_connections.proofs.BytesMessages.{forwards-read}
use Rattle.lard_law_connections.proofs.PlacesFrontRules.{has-each}
use Rattle.lard_law_connections.proofs.PlacesHeads.{kinds-same}
use Rattle.lard_law_connections.proofs.SilenceEndpoints.{AnyReply, Anything}
use Rattle.lard_law_connections.proofs.SilenceFronts as fronts
use Rattle.lard_law_connections.proofs.SilenceTurns.{AreTold, IsKept, nobody}
use Rattle.lard_law_connections.specs.SilencePlaces.{FrontHas, FrontStageHas}
use Rattle.lard_law_view.proofs.Carried.{carried}
use Rattle.lard_law_view.proofs.EachFront.{FrontComes, admission, each-front}
use Rattle.lard_law_view.proofs.EachNode.{aside_said, aside_seen, each-node}
use Rattle.lard_law_view.proofs.Frames.{IsAtClient, Owed, clients-leave}
use Rattle.lard_law_view.proofs.Guarded.{client-weaker}
use Rattle.lard_laws.proofs.ClientsTelling as telling
use Rattle.lard_laws.proofs.ClientsTelling.{DeedTells}
use Rattle.lard_laws.specs.WindowsLaws.{ForwardsComeFromClients}
use Rattle.lard_laws.specs.Windows.{AnyBlock}
use Rattle.lard_laws.specs.WindowsWords.{ForwardWas, ForwardWasOn, ForwardsWere}
use Rattle.lard_rules.specs.Front.{Drops, Says, Does, message}
use Rattle.lard_handoff_front.specs.declared.row.FrontConn.TheVariants as stage
use Rattle.lard_history.proofs.Each.{Each, Each-append, Each-weaker}
use Rattle.lard_history.proofs.Seeing.{has-before}
use Rattle.lard_message.specs.declared.kind.Kind.TheVariants as kind
use Rattle.lard_message.specs.declared.message.Body.TheVariants as body
use Rattle.lard_rules.specs.Node as node

-- ---- letters

module _ (c : ℕ) (ls : List Letter) where
  -- a message of the front end
  abbrev MessageWas : List ℕ → Type 0
  MessageWas bytes = (m : Message) (segment : List ℕ) → decoded_message bytes ≡ Ok m → m.body ≡ body.Forward segment → Has (record { from = Client c; to = Front; bytes = segment }) ls

  -- of another kind
  other-was : (c' e : ℕ) (b : Body) → (kind_of b ≡ kind.Forward → ⊥) → MessageWas (message c' e b)
  other-was c' e b other m segment d is = absurd (other (kinds-same (record { c = c'; epoch = record { 0 = e }; body = b }) m d ∙ ap kind_of is))

  -- what came is forwarded
  forward-was : (c' e : ℕ) (bytes : List ℕ) → Has (record { from = Client c; to = Front; bytes = bytes }) ls → MessageWas (message c' e (body.Forward bytes))
  forward-was c' e bytes has m segment d is = subst (λ (b : List ℕ). Has (record { from = Client c; to = Front; bytes = b }) ls) (sym (forwards-read c' e bytes segment m d is)) has

  -- of each message that the front end makes
  forwards-tell : (d : ℕ) → telling.TellsEach (λ to bytes. ForwardWasOn c ls Front to bytes) d AnyBlock
  forwards-tell d = record {
    offers = λ n e count b h. other-was d e (body.Offer (parts_of b count)) (λ f. let no : kind.Offer ≡ kind.Forward = f in cc);
    tags = λ n e number nodes. other-was d e (body.Tag number nodes) (λ f. let no : kind.Tag ≡ kind.Forward = f in cc);
    acks = λ n e. other-was d e body.EndedAck (λ f. let no : kind.EndedAck ≡ kind.Forward = f in cc);
    givens = λ n e. other-was d e body.Given (λ f. let no : kind.Given ≡ kind.Forward = f in cc);
  }

-- ---- segments go to the client

any-kept : (env : ServeEnv) → IsKept env AnyBlock AnyBlock Anything AnyReply
any-kept env = record {
  begins = λ b h. tt;
  hears = λ b s h w. tt;
  fires = λ b h. tt;
  again = λ b r h e. tt;
  emits = λ b h. tt;
  says = λ b r h e. tt;
  later = λ b s h r. tt;
  cuts = λ b h. tt;
  serves = record { notes = λ w rs starts h. tt; reads = λ w n h. tt; ends = λ w h. tt; answers = λ w way v may h. tt };
  rests = λ b h stays. tt;
}

pub any-front : (q : Option FrontRow) → FrontHas AnyBlock q
any-front None = tt
any-front (Some row) = go row.stage where
  go : (st : FrontConn) → FrontStageHas AnyBlock st
  go (stage.Held b) = tt
  go (stage.Waiting b) = tt
  go stage.Lent = tt
  go (stage.Offering n e) = tt
  go (stage.Moved n e) = tt
  go (stage.Closed last) = tt

any-words : (o : Option Said) → IfSome o (λ (t : Said). (d : ControlBlock) → AnyReply d t)
any-words None = tt
any-words (Some s) = λ d. tt

told-were : (c : ℕ) (ls : List Letter) (d : ℕ) (P : Said → Type 0) (ss : List (Place × List ℕ)) → AreTold d P ss → Each (ForwardWas c ls) (map (letter Front) ss)
told-were c ls d P [] h = tt
told-were c ls d P (s ∷ ss) h = (subst (λ (to : Place). ForwardWasOn c ls Front to s.1) (sym h.0.0) tt, told-were c ls d P ss h.1)

-- ---- the law

-- no other law is needed
abbrev Nothing : Conn → Type 0
Nothing x = Unit {0}

module _ (k : Setting) where
  abbrev Keeps : Conn → Move → Type 0
  Keeps x v = MayRestOn Nothing x → ForwardsWere x → ForwardsWere (grown x v)

  -- what goes out was so, with all that was sent before
  grows : (x : Conn) (v : Move) → Each (ForwardWas x.c (x.letters ++ letters_of v)) (letters_of v) → ForwardsWere x → ForwardsWere (grown x v)
  grows x v new h = Each-append (ForwardWas x.c (x.letters ++ letters_of v)) x.letters (letters_of v)
      (Each-weaker (ForwardWas x.c x.letters) (ForwardWas x.c (x.letters ++ letters_of v)) (λ l w. go l.from l.to l.bytes w) x.letters h) new
    where
      go : (from to : Place) (bytes : List ℕ) → ForwardWasOn x.c x.letters from to bytes → ForwardWasOn x.c (x.letters ++ letters_of v) from to bytes
      go Front (Node n) bytes w = λ m segment d is. has-before (record { from = Client x.c; to = Front; bytes = segment }) x.letters (letters_of v) (w m segment d is)
      go _ _ bytes w = tt

  from-front : (x : Conn) (ls : List Letter) (ms : List (Place × List ℕ)) → Each (λ (p : Place × List ℕ). ForwardWasOn x.c ls Front p.0 p.1) ms → Each (ForwardWas x.c ls) (map (letter Front) ms)
  from-front x ls [] h = tt
  from-front x ls (p ∷ ps) h = (h.0, from-front x ls ps h.1)

  front-rule : (x : Conn) (heads : List Seen) (d : FrontDeed) → fronts.DeedHas AnyBlock AnyReply x.c d → ((ls : List Letter) → ((l : Letter) → Has l x.letters → Has l ls) → DeedTells (λ to bytes. ForwardWasOn x.c ls Front to bytes) d) → Keeps x (front_does x heads d)
  front-rule x heads Drops told was may h = grows x (front_does x heads Drops) tt h
  front-rule x heads (Says turn) told was may h =
      let v : Move = front_does x heads (Says turn) in
      let ls : List Letter = x.letters ++ letters_of v in
      grows x v (Each-append (ForwardWas x.c ls) (map (letter Front) turn.segments) (map (letter Front) turn.messages) (told-were x.c ls x.c Anything turn.segments (told nobody)) (from-front x ls turn.messages (was ls (λ l has. has-before l x.letters (letters_of v) has)))) h
  front-rule x heads (Does did) told was may h =
      let v : Move = front_does x heads (Does did) in
      let ls : List Letter = x.letters ++ letters_of v in
      grows x v (Each-append (ForwardWas x.c ls) (map (letter Front) did.turn.segments) (map (letter Front) did.turn.messages) (told-were x.c ls x.c Anything did.turn.segments told.1.1) (from-front x ls did.turn.messages (was ls (λ l has. has-before l x.letters (letters_of v) has)))) h

  -- what is kept was sent
  kept-were : (x : Conn) (ls : List Letter) → ((l : Letter) → Has l x.letters → Has l ls) → ForwardsWere x → (ks : List Kept) → AreSent x Front ks → Each (λ (p : Place × List ℕ). ForwardWasOn x.c ls Front p.0 p.1) (map sent_of ks)
  kept-were x ls goes h [] sent = tt
  kept-were x ls goes h (q ∷ ks) sent = (later q.to q.bytes (has-each (ForwardWas x.c x.letters) (record { from = Front; to = q.to; bytes = q.bytes }) x.letters sent.0.1 h), kept-were x ls goes h ks sent.1) where
    later : (to : Place) (bytes : List ℕ) → ForwardWasOn x.c x.letters Front to bytes → ForwardWasOn x.c ls Front to bytes
    later (Node n) bytes w = λ m segment d is. goes (record { from = Client x.c; to = Front; bytes = segment }) (w m segment d is)
    later Front bytes w = tt
    later (Client e) bytes w = tt

  heard-given : (env : FrontEnv) (p : FrontPart) (g : FrontGets) → fronts.Given env AnyBlock AnyBlock Anything AnyReply (any-kept env.serve) p (any-front p.row) g
  heard-given env p (FrontHears bytes (Ok s)) = (tt, (λ none plain. tt), (λ row last found closed. any-words (last_words last.reason last s)))
  heard-given env p (ReturnedBy n epoch back) = λ row parts at. tt
  heard-given env p _ = tt

  module _ (x : Conn) (env : FrontEnv) (heads : List Seen) (sound : IsConnSound x) (h : ForwardsWere x) (ls : List Letter) (goes : (l : Letter) → Has l x.letters → Has l ls) where
    told-given : (g : FrontGets) → FrontComes x env heads g
        → telling.Given (λ to bytes. ForwardWasOn x.c ls Front to bytes) env AnyBlock (forwards-tell x.c ls env.serve.c) x.part.front (any-front x.part.front.row) AnyReply (any-kept env.serve) g
    told-given (FrontHears bytes given) comes = λ n e. forward-was x.c ls env.serve.c e bytes (goes (record { from = Client x.c; to = Front; bytes = bytes }) comes.was)
    told-given FrontFires comes = kept-were x ls goes h x.part.front.kept sound.front
    told-given (ReturnedBy n epoch back) comes = λ row parts at. tt
    told-given _ comes = tt

  front-rules : FrontRules k Keeps
  front-rules = each-front k Keeps (λ x env heads g is comes may h.
      let p : FrontPart = x.part.front in
      let d : FrontDeed = front_rule env p g in
      let made = admission x env heads g comes in
      front-rule x heads d (subst (λ (c : ℕ). fronts.DeedHas AnyBlock AnyReply c d) is.number
      (fronts.rule-has env AnyBlock AnyBlock Anything AnyReply (any-kept env.serve) p (any-front p.row) g made (heard-given env p g)))
      (λ ls goes. telling.rule-tells (λ to bytes. ForwardWasOn x.c ls Front to bytes) env AnyBlock (forwards-tell x.c ls env.serve.c) p (any-front p.row) AnyReply (any-kept env.serve) g made
      (told-given x env heads may.sound h ls goes g comes)) may h)

  -- ---- no other place forwards

  other-from : (x : Conn) (ls : List Letter) (place : Place) → (Front ≡ place → ⊥) → (ss : List (Place × List ℕ)) → Each (ForwardWas x.c ls) (map (letter place) ss)
  other-from x ls place other [] = tt
  other-from x ls place other (s ∷ ss) = (go place s.0 other, other-from x ls place other ss) where
    go : (from to : Place) → (Front ≡ from → ⊥) → ForwardWasOn x.c ls from to s.1
    go Front to differs = absurd (differs refl)
    go _ to differs = tt

  any-rule : (x : Conn) (v : Move) → (Front ≡ v.place → ⊥) → Keeps x v
  any-rule x v other may h =
      let ls : List Letter = x.letters ++ letters_of v in
      grows x v (Each-append (ForwardWas x.c ls) (map (letter v.place) v.said.segments) (map (letter v.place) v.said.messages)
      (other-from x ls v.place other v.said.segments) (other-from x ls v.place other v.said.messages)) h

  node-rule : (x : Conn) (n : ℕ) (heads : List Seen) (d : node.NodeDeed) → Keeps x (node_does x n heads d)
  node-rule x n heads node.Drops = any-rule x (node_does x n heads node.Drops) (λ e. cc)
  node-rule x n heads (node.Says ms) = any-rule x (node_does x n heads (node.Says ms)) (λ e. cc)
  node-rule x n heads (node.Does given) = any-rule x (node_does x n heads (node.Does given)) (λ e. cc)

  node-rules : NodeRules k Keeps
  node-rules = each-node k Keeps (record {
    does = λ x n epoch env heads g is at comes. node-rule x n heads (node.node_rule env (x.part.nodes n) g);
    aside = λ x n a may. any-rule x (stands x (Node n) (aside_seen n a) (aside_said k n x.c a)) (λ e. cc);
  })

  by-client : (x : Conn) (v : Move) → Owed IsAtClient x v → Keeps x v
  by-client x v frame may = any-rule x v (λ e. let no : Front ≡ Client x.c = e ∙ (frame may.number may.sound).client in cc) may

  client-rules : ClientRules k Keeps
  client-rules = client-weaker k (Owed IsAtClient) Keeps by-client (clients-leave k IsAtClient (λ x v at own number sound. at))

  rules : Rules k Keeps
  rules = record {
    untouched = record { client = client-rules; front = front-rules; node = node-rules; ignores = λ x from to bytes was may h. grows x (stands x to (packet_seen from to bytes) nothing_said) tt h };
    injects = λ x s bytes there rule. any-rule x (client_does x s (inject_seen x.c bytes) (client_injects s.client bytes)) (λ e. cc);
  }

  forwards-law : IsLaw k Nothing ForwardsWere
  forwards-law = record { begins = λ c. tt; moves = rules }

-- In every state that events lead to.
pub forwards-were : ForwardsComeFromClients
forwards-were config files = carried config files Nothing ForwardsWere (λ l. forwards-law (with_leaving (setting config files) l)) (λ m r q. tt)
