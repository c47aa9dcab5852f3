-- A connection has one first number of the cluster's side wherever it is, in every run: each rule keeps it.
use Rattle.std.proofs.Common.{◌≡◌, ◌<◌, ◌^◌, ℕ, List, [], ◌∷◌, ◌++◌, map, Option, Some, None, Ok, refl, sym, ap, ◌∙◌, subst}
use Rattle.lard_law_view.specs.Prelude.{AreSent, ClientBlock, ClientRules, Config, Conn, ControlBlock, EndpointParts, Front, FrontEnv, FrontFires, FrontGets, FrontHears, FrontRow, FrontRules, IsConnSound, IsFrontEnv, IsLaw, IsNodeEnv, Kept, MayRestOn, Move, Node, NodeEnv, NodeRules, OfEach, Place, Rec, ReturnedBy, Rules, Said, Seen, Setting, Station, Turn, TurnSaid, adopted, client_begins, client_does, client_injects, client_opens, client_rule, config_check, front_does, front_rule, grown, inject_seen, letter, letters_of, node_does, nothing_said, packet_seen, sent_of, setting, stands, with_leaving}
use Rattle.lard_law_view.proofs.EachClient.{client_seen, each-client}
use Rattle.lard_history.proofs.Each.{Each, Each-append}
use Rattle.lard_law_connections.proofs.PlacesFrontMessages.{no-give}
use Rattle.lard_law_connections.proofs.PlacesFrontRules.{has-each}
use Rattle.lard_law_connections.proofs.PlacesRuns.{each-placed}
use Rattle.lard_law_connections.proofs.PlacesTurns.{IsPlaced}
use Rattle.lard_law_connections.proofs.SilenceEndpoints.{Anything}
use Rattle.lard_law_connections.proofs.SilenceFronts as fronts
use Rattle.lard_law_connections.proofs.SilenceNodes as nodes
use Rattle.lard_law_connections.proofs.SilencePlaces.{known-front, node-weaker}
use Rattle.lard_law_connections.proofs.SilenceTurns.{nobody}
use Rattle.lard_law_connections.specs.SilencePlaces.{NodeHas}
use Rattle.lard_law_view.proofs.Carried.{carried}
use Rattle.lard_law_view.proofs.EachFront.{FrontComes, HasBack, admission, each-front}
use Rattle.lard_law_view.proofs.EachNode.{NodeComes, aside_said, aside_seen, each-node, job_notes, told_first}
use Rattle.lard_law_view.proofs.Fine.{IsFine, IsItsOwn, fine}
use Rattle.lard_law_view.proofs.Guarded.{both, weaker}
use Rattle.lard_law_view.proofs.Parts.{put-each}
use Rattle.lard_law_view.proofs.Saying.{AreMessages}
use Rattle.lard_laws.specs.ClientsFirsts.{AllHaveFirst, FirstOn, GreetsBy, HasFirstOn, HasOneFirst, IssIs, LetterHasFirst}
use Rattle.lard_laws.specs.Windows.{AnyBlock}
use Rattle.lard_laws.proofs.ClientsFirsts.{client-first, first-kept, forward-tells, front-first, front-tells, node-first, told-first, words-greet}
use Rattle.lard_laws.proofs.ClientsTelling as telling
use Rattle.lard_laws.proofs.ClientsTelling.{AllTell, DeedTells}
use Rattle.lard_laws.proofs.FrontComing.{IsKeptOffer, kept-offer}
use Rattle.lard_laws.proofs.NodeDeeds.{aside-letters}
use Rattle.lard_message.specs.declared.message.Body.TheVariants as body
use Rattle.lard_rules.proofs.FrontCases.{IsBack}
use Rattle.lard_rules.specs.Front as front
use Rattle.lard_rules.specs.Node as node
use Rattle.lard_law_view.proofs.Deeds.{front-station, node-station}

-- ---- of one number

-- what a segment of an endpoint of the connection is
abbrev Reply : ℕ → ControlBlock → Said → Type 0
Reply iss b s = GreetsBy iss s

-- all that goes out from a place
abbrev AllFirst : Conn → ℕ → Place → List (Place × List ℕ) → Type 0
AllFirst x iss place ss = Each (LetterHasFirst x.c iss) (map (letter place) ss)

module _ (x : Conn) (iss : ℕ) (small : iss < 2 ^ 32) (all : AllHaveFirst x iss) where
  more : (v : Move) → AllFirst x iss v.place v.said.segments → AllFirst x iss v.place v.said.messages → Each (LetterHasFirst x.c iss) (x.letters ++ letters_of v)
  more v segments messages = Each-append (LetterHasFirst x.c iss) x.letters (letters_of v) all.letters
      (Each-append (LetterHasFirst x.c iss) (map (letter v.place) v.said.segments) (map (letter v.place) v.said.messages) segments messages)

  -- nothing is kept anew
  stands-first : (place : Place) (heads : List Seen) (said : TurnSaid) → AllFirst x iss place said.segments → AllFirst x iss place said.messages → AllHaveFirst (grown x (stands x place heads said)) iss
  stands-first place heads said segments messages = record { front = all.front; nodes = all.nodes; letters = more (stands x place heads said) segments messages }

  client-does-first : (s : Station) (heads : List Seen) (given : ClientBlock × Turn) → AllHaveFirst (grown x (client_does x s heads given)) iss
  client-does-first s heads given = record {
    front = all.front;
    nodes = all.nodes;
    letters = more (client_does x s heads given) (client-first x.c iss x.c given.1.segments) tt;
  }

  front-does-first : (heads : List Seen) (d : front.FrontDeed) → fronts.DeedHas (IssIs iss) (Reply iss) x.c d → DeedTells (λ to bytes. HasFirstOn x.c iss Front to bytes) d
      → AllHaveFirst (grown x (front_does x heads d)) iss
  front-does-first heads front.Drops has tells = stands-first Front heads nothing_said tt tt
  front-does-first heads (front.Says turn) has tells = record {
    front = all.front;
    nodes = all.nodes;
    letters = more (front_does x heads (front.Says turn)) (told-first x.c iss small Front tt turn.segments (has nobody)) (front-first x.c iss turn.messages tells);
  }
  front-does-first heads (front.Does did) has tells = record {
    front = known-front _ (IssIs iss) (λ b r. r.0) did.part.row has.0;
    nodes = all.nodes;
    letters = more (front_does x heads (front.Does did)) (told-first x.c iss small Front tt did.turn.segments has.1.1) (front-first x.c iss did.turn.messages tells);
  }

  node-does-first : (n : ℕ) (heads : List Seen) (d : node.NodeDeed) → nodes.DeedHas (IssIs iss) AnyBlock (Reply iss) x.c d → AreMessages x.c (node_does x n heads d).place (node_does x n heads d).said.messages
      → AllHaveFirst (grown x (node_does x n heads d)) iss
  node-does-first n heads node.Drops has own = stands-first (Node n) heads nothing_said tt tt
  node-does-first n heads (node.Says ms) has own = stands-first (Node n) heads (record nothing_said { messages = ms }) tt (node-first x.c iss n ms own)
  node-does-first n heads (node.Does given) has own = record {
    front = all.front;
    nodes = put-each x.part.nodes n given.0 (λ m p. NodeHas (IssIs iss) AnyBlock p) (node-weaker _ (IssIs iss) AnyBlock (λ b r. r.0) given.0 has.0) (λ m other. all.nodes m);
    letters = more (node_does x n heads (node.Does given)) (told-first x.c iss small (Node n) tt given.1.segments has.1.1) (node-first x.c iss n given.1.messages own);
  }

  -- what is kept until it is answered was sent
  kept-first : (ks : List Kept) → AreSent x Front ks → AllTell (λ to bytes. HasFirstOn x.c iss Front to bytes) (map sent_of ks)
  kept-first [] sent = tt
  kept-first (q ∷ ks) sent = (has-each (LetterHasFirst x.c iss) (record { from = Front; to = q.to; bytes = q.bytes }) x.letters sent.0.1 all.letters, kept-first ks sent.1)

-- ---- every rule

none-some : (s : Station) → None ≡ Some s → ⊥
none-some s e = cc

some-station : (s t : Station) → Some s ≡ Some t → s ≡ t
some-station s t e = cc

module _ (k : Setting) where
  abbrev Keeps : Conn → Move → Type 0
  Keeps x v = IsItsOwn x v → MayRestOn IsPlaced x → HasOneFirst x → HasOneFirst (grown x v)

  -- a machine's move, whichever number it is
  by-number : (x : Conn) (v : Move) → v.part.station ≡ x.part.station
      → ((iss : ℕ) → iss < 2 ^ 32 → ((s : Station) → x.part.station ≡ Some s → s.iss ≡ iss) → AllHaveFirst x iss → AllHaveFirst (grown x v) iss) → HasOneFirst x → HasOneFirst (grown x v)
  by-number x v same f h = go x.part.station refl h where
    go : (o : Option Station) → x.part.station ≡ o → FirstOn x o → FirstOn (grown x v) v.part.station
    go None e r = subst (FirstOn (grown x v)) (sym (same ∙ e)) (λ iss small. f iss small (λ s there. absurd (none-some s (sym e ∙ there))) (r iss small))
    go (Some s) e r = subst (FirstOn (grown x v)) (sym (same ∙ e)) (r.0, f s.iss r.0 (λ t there. ap (λ (z : Station). z.iss) (some-station t s (sym there ∙ e))) r.1)

  -- ---- the front end

  front-rule : (x : Conn) (env : FrontEnv) (heads : List Seen) (d : front.FrontDeed) → IsFrontEnv k x.c env
      → ((iss : ℕ) → iss < 2 ^ 32 → ((s : Station) → x.part.station ≡ Some s → s.iss ≡ iss) → AllHaveFirst x iss → fronts.DeedHas (IssIs iss) (Reply iss) env.serve.c d)
      → ((iss : ℕ) → iss < 2 ^ 32 → AllHaveFirst x iss → DeedTells (λ to bytes. HasFirstOn x.c iss Front to bytes) d) → HasOneFirst x → HasOneFirst (grown x (front_does x heads d))
  front-rule x env heads d is has tells h = by-number x (front_does x heads d) (front-station x heads d)
      (λ iss small there all. front-does-first x iss small all heads d (subst (λ (c : ℕ). fronts.DeedHas (IssIs iss) (Reply iss) c d) is.number (has iss small there all)) (tells iss small all)) h

  module _ (x : Conn) (sound : IsConnSound x) (at_place : IsPlaced x) (env : FrontEnv) (heads : List Seen) (iss : ℕ) (small : iss < 2 ^ 32)
      (all : AllHaveFirst x iss) where
    -- one that comes back goes on from an Offer
    back-first : (n epoch : ℕ) (given : Option EndpointParts) → HasBack x n epoch given heads → (row : FrontRow) (parts : EndpointParts)
        → IsBack x.part.front n epoch given row parts → IssIs iss (adopted parts)
    back-first n epoch (Some found) comes row parts back = absurd (no-give x at_place n epoch found comes.bytes comes.was comes.spells)
    back-first n epoch None comes row parts back =
        let k : IsKeptOffer x parts = kept-offer x sound parts back.parts_are in
        has-each (LetterHasFirst x.c iss) (record { from = Front; to = Node k.node; bytes = k.first.bytes }) x.letters k.was all.letters
        (record { c = x.c; epoch = record { 0 = k.epoch }; body = body.Offer parts }) k.spells

    heard-given : ((s : Station) → x.part.station ≡ Some s → s.iss ≡ iss) → (g : FrontGets) → FrontComes x env heads g
        → fronts.Given env (IssIs iss) (IssIs iss) Anything (Reply iss) (first-kept iss env.serve) x.part.front all.front g
    heard-given at (FrontHears bytes (Ok s)) comes = (tt, (λ none plain. comes.iss_is ∙ at comes.station comes.there), (λ row last found closed. words-greet iss last.reason last s))
    heard-given at (ReturnedBy n epoch given) comes = back-first n epoch given comes
    heard-given at _ comes = tt

    told-given : (g : FrontGets) → FrontComes x env heads g
        → telling.Given (λ to bytes. HasFirstOn x.c iss Front to bytes) env (IssIs iss) (front-tells x.c iss small env.serve.c) x.part.front all.front (Reply iss) (first-kept iss env.serve) g
    told-given (FrontHears bytes given) comes = forward-tells x.c iss small env.serve.c bytes
    told-given FrontFires comes = kept-first x iss small all x.part.front.kept sound.front
    told-given (ReturnedBy n epoch given) comes = back-first n epoch given comes
    told-given _ comes = tt

  front-rules : FrontRules k Keeps
  front-rules = each-front k Keeps (λ x env heads g is comes own may. front-rule x env heads (front_rule env x.part.front g) is
      (λ n small at all. fronts.rule-has env (IssIs n) (IssIs n) Anything (Reply n) (first-kept n env.serve) x.part.front all.front g (admission x env heads g comes) (heard-given x may.sound may.given env heads n small all at g comes))
      (λ n small all. telling.rule-tells (λ to bytes. HasFirstOn x.c n Front to bytes) env (IssIs n) (front-tells x.c n small env.serve.c) x.part.front all.front (Reply n) (first-kept n env.serve) g
      (admission x env heads g comes) (told-given x may.sound may.given env heads n small all g comes)))

  -- ---- the nodes

  -- with what was noted before it
  node-rule : (x : Conn) (n epoch : ℕ) (env : NodeEnv) (heads : List Seen) (d : node.NodeDeed) (rs : List Rec) → IsNodeEnv k x.c n epoch env
      → ((iss : ℕ) → iss < 2 ^ 32 → AllHaveFirst x iss → nodes.DeedHas (IssIs iss) AnyBlock (Reply iss) env.serve.c d)
      → AreMessages x.c (node_does x n heads d).place (node_does x n heads d).said.messages
      → HasOneFirst x → HasOneFirst (grown x (told_first rs (node_does x n heads d)))
  node-rule x n epoch env heads d rs is has own h = by-number x (told_first rs (node_does x n heads d)) (node-station x n heads d) (λ iss small there all.
      let its = subst (λ (c : ℕ). nodes.DeedHas (IssIs iss) AnyBlock (Reply iss) c d) is.number (has iss small all) in
      let a = node-does-first x iss small all n heads d its own in
      record { front = a.front; nodes = a.nodes; letters = a.letters }) h

  -- the parts of an Offer that came, and what is here
  given-first : (x : Conn) (n epoch iss : ℕ) (env : NodeEnv) (heads : List Seen) (all : AllHaveFirst x iss) (g : node.NodeGets) → NodeComes x n epoch heads g
      → nodes.Given env (IssIs iss) (IssIs iss) AnyBlock Anything (Reply iss) (first-kept iss env.serve) (x.part.nodes n) g
  given-first x n epoch iss env heads all (node.Offered parts) comes = (
    all.nodes n,
    λ new. has-each (LetterHasFirst x.c iss) (record { from = Front; to = Node n; bytes = comes.bytes }) x.letters comes.was all.letters
        (record { c = x.c; epoch = record { 0 = epoch }; body = body.Offer parts }) comes.spells,
  )
  given-first x n epoch iss env heads all (node.Forwarded given) comes = (all.nodes n, λ s e. tt)
  given-first x n epoch iss env heads all _ comes = all.nodes n

  node-rules : NodeRules k Keeps
  node-rules = each-node k Keeps (record {
    does = λ x n epoch env heads g is at comes own may. node-rule x n epoch env heads (node.node_rule env (x.part.nodes n) g) (job_notes x.c n g) is
        (λ i small all. nodes.rule-has env (IssIs i) (IssIs i) AnyBlock Anything (Reply i) (first-kept i env.serve) (x.part.nodes n) g at.0
        (given-first x n epoch i env heads all g comes)) own.messages;
    aside = λ x n a there own may h. by-number x (stands x (Node n) (aside_seen n a) (aside_said k n x.c a)) refl (λ iss small there all.
        let v : Move = stands x (Node n) (aside_seen n a) (aside_said k n x.c a) in
        let new : Each (LetterHasFirst x.c iss) (letters_of v) = aside-letters (LetterHasFirst x.c iss) (λ n to bytes. tt) k x n a in
        record { front = all.front; nodes = all.nodes; letters = Each-append (LetterHasFirst x.c iss) x.letters (letters_of v) all.letters new }) h;
  })

  -- ---- clients

  client-rule : (x : Conn) (s : Station) (heads : List Seen) (given : ClientBlock × Turn) → x.part.station ≡ Some s → Keeps x (client_does x s heads given)
  client-rule x s heads given there own may h =
      let f : FirstOn x (Some s) = subst (FirstOn x) there h in
      (f.0, client-does-first x s.iss f.0 f.1 s heads given)

  client-rules : ClientRules k Keeps
  client-rules = each-client k Keeps (record {
    opens = λ x isn iss wnd mss rule none own may h.
        let f : FirstOn x None = subst (FirstOn x) none h in
        let a : AllHaveFirst x iss = f iss rule.5 in
        let more_letters = more x iss rule.5 a (client_begins x isn iss wnd mss) (client-first x.c iss x.c (client_opens x.c isn wnd mss).1.segments) tt in
        (rule.5, record { front = a.front; nodes = a.nodes; letters = more_letters });
    does = λ x s g there comes. client-rule x s (client_seen x.c g) (client_rule x.c s.client g) there;
  })

  rules : Rules k Keeps
  rules = record {
    untouched = record {
      client = client-rules;
      front = front-rules;
      node = node-rules;
      ignores = λ x from to bytes was own may h. by-number x (stands x to (packet_seen from to bytes) nothing_said) refl (λ iss small there all. stands-first x iss small all to (packet_seen from to bytes) nothing_said tt tt) h;
    };
    injects = λ x s bytes there rule. client-rule x s (inject_seen x.c bytes) (client_injects s.client bytes) there;
  }

  first-law : IsLaw k IsPlaced HasOneFirst
  first-law = record {
    begins = λ c iss small. record { front = tt; nodes = λ n. tt; letters = tt };
    moves = weaker k (λ x v. Keeps x v × IsFine x v) (λ x v. MayRestOn IsPlaced x → HasOneFirst x → HasOneFirst (grown x v)) (λ x v h may inv. h.0 (h.1 may.number may.sound).0 may inv) (both k Keeps IsFine rules (fine k));
  }

-- In every state that events lead to.
pub one-first : (config : Config) (files : List (List ℕ × List ℕ)) → config_check config ≡ Ok tt → OfEach config files HasOneFirst
one-first config files checked = carried config files IsPlaced HasOneFirst (λ l. first-law (with_leaving (setting config files) l)) (each-placed config files checked)
