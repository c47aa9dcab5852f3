-- What a move leaves of how far windows reach, by what goes out in it.
use Rattle.std.proofs.Common.{◌≡◌, ◌⊎◌, ⊎_elim, ◌≤◌, ◌<◌, ◌+◌, ◌^◌, ℕ, List, [], ◌++◌, map, Option, Some, None, sym, subst, arith}
use Rattle.lard_law_view.specs.Prelude.{Client, ClientBlock, Conn, ControlBlock, Front, FrontRow, IsMachine, Letter, Node, NodePart, Place, Said, Seen, Station, Turn, client_does, front_does, grown, letter, letters_of, node_does, stands}
use Rattle.lard_law_connections.specs.SilencePlaces.{FrontHas, KnownHas, NodeHas}
use Rattle.lard_law_connections.proofs.SilenceFronts as fronts
use Rattle.lard_law_connections.proofs.SilenceNodes as nodes
use Rattle.lard_law_connections.proofs.SilencePlaces.{front-weaker, known-front, node-weaker}
use Rattle.lard_law_connections.proofs.SilenceTurns.{AreTold, nobody}
use Rattle.lard_law_view.specs.View as view
use Rattle.lard_law_view.proofs.Fine.{IsItsOwn}
use Rattle.lard_law_view.proofs.Parts.{put-each}
use Rattle.lard_law_view.proofs.Saying.{AreMessages}
use Rattle.lard_laws.specs.Windows.{AnyBlock, ClientReaches, EndSent, FrontSent, IsEnd, LetterReaches, StationReaches, SymbolsWereSent}
use Rattle.lard_laws.proofs.WindowsEndpoints.{Goes, Replies}
use Rattle.lard_laws.proofs.WindowsLetters.{by-told, letters-more, messages-reach, told-reach}
use Rattle.lard_laws.proofs.WindowsPlaces.{FrontAlone, NodeAlone, RowIsAway, away-has, front-alone, past-has}
use Rattle.lard_rules.specs.Front as front
use Rattle.lard_history.proofs.Each.{Each, Each-append}
use Rattle.lard_law_view.proofs.Acked.{taken_by}
use Rattle.lard_rules.specs.Node as node

-- ---- a client's

module _ (x : Conn) (s : Station) (z : ClientBlock) (new : List Letter) (h : StationReaches x s) (iss_is : z.send.iss ≡ s.client.send.iss)
    (own : (u : ℕ) → Each (LetterReaches x.c z.send.iss s.iss u) new) (takes : (u : ℕ) → SymbolsWereSent x.c s.client s.iss x.letters u → taken_by z ≤ u) where
  abbrev all : List Letter
  all = x.letters ++ new

  client-letters : (u : ℕ) → Each (LetterReaches x.c s.client.send.iss s.iss u) x.letters → Each (LetterReaches x.c z.send.iss s.iss u) all
  client-letters u old = Each-append (LetterReaches x.c z.send.iss s.iss u) x.letters new (subst (λ (i : ℕ). Each (LetterReaches x.c i s.iss u) x.letters) (sym iss_is) old) (own u)

  client-sent : (u : ℕ) → SymbolsWereSent x.c s.client s.iss x.letters u → SymbolsWereSent x.c z s.iss all u
  client-sent u was = record { taken = takes u was; all = client-letters u was.all }

  client-end : (b : ControlBlock) → EndSent x.c s.client s.iss x.letters b → EndSent x.c z s.iss all b
  client-end b e = (subst (λ (i : ℕ). IsEnd i s.iss b) (sym iss_is) e.0, client-sent b.send.nxt e.1)

  client-begins : (q : Option FrontRow) → FrontSent x.c s.client s.iss x.letters q → FrontSent x.c z s.iss all q
  client-begins None was = client-sent 0 was
  client-begins (Some row) was = tt

  pub client-moves : (heads : List Seen) (given : ClientBlock × Turn) → given.0 ≡ z → map (letter (Client x.c)) given.1.segments ++ [] ≡ new → ClientReaches z
      → StationReaches (grown x (client_does x s heads given)) (record { client = given.0; iss = s.iss })
  client-moves heads given is are reaches = subst (λ (y : ClientBlock). StationReaches (grown x (client_does x s heads given)) (record { client = y; iss = s.iss })) (sym is)
      (subst (λ (ls : List Letter). StationReaches (record (grown x (client_does x s heads given)) { letters = x.letters ++ ls }) (record { client = z; iss = s.iss })) (sym are) moved)
    where
      moved : StationReaches (record (grown x (client_does x s heads given)) { letters = all }) (record { client = z; iss = s.iss })
      moved = record {
        client = reaches;
        most = h.most;
        letters = client-letters h.most h.letters;
        begins = client-begins x.part.front.row h.begins;
        front = front-weaker (EndSent x.c s.client s.iss x.letters) (EndSent x.c z s.iss all) client-end x.part.front.row h.front;
        nodes = λ n. node-weaker (EndSent x.c s.client s.iss x.letters) (EndSent x.c z s.iss all) AnyBlock client-end (x.part.nodes n) (h.nodes n);
      }

-- ---- a place's

module _ (x : Conn) (s : Station) (h : StationReaches x s) where
  abbrev isn : ℕ
  isn = s.client.send.iss

  abbrev Old : ControlBlock → Type 0
  Old b = EndSent x.c s.client s.iss x.letters b

  -- with what goes out, all of which reaches so far
  module _ (new : List Letter) where
    abbrev New : ControlBlock → Type 0
    New b = EndSent x.c s.client s.iss (x.letters ++ new) b

    old-letters : (n m : ℕ) → n ≤ m → Each (LetterReaches x.c isn s.iss n) x.letters → Each (LetterReaches x.c isn s.iss m) new → Each (LetterReaches x.c isn s.iss m) (x.letters ++ new)
    old-letters n m le old more = Each-append (LetterReaches x.c isn s.iss m) x.letters new (letters-more x.c isn s.iss n m le x.letters old) more

    old-sent : (n m : ℕ) → n ≤ m → SymbolsWereSent x.c s.client s.iss x.letters n → Each (LetterReaches x.c isn s.iss m) new → SymbolsWereSent x.c s.client s.iss (x.letters ++ new) m
    old-sent n m le was more = record { taken = let t = was.taken in omega (arith, t, le); all = old-letters n m le was.all more }

    old-end : ((u : ℕ) → Each (LetterReaches x.c isn s.iss u) new) → (b : ControlBlock) → Old b → New b
    old-end more b e = (e.0, old-sent b.send.nxt b.send.nxt (omega arith) e.1 (more b.send.nxt))

    old-begins : ((u : ℕ) → Each (LetterReaches x.c isn s.iss u) new) → (q : Option FrontRow) → FrontSent x.c s.client s.iss x.letters q → FrontSent x.c s.client s.iss (x.letters ++ new) q
    old-begins more None was = old-sent 0 0 (omega arith) was (more 0)
    old-begins more (Some row) was = tt

    old-front : ((u : ℕ) → Each (LetterReaches x.c isn s.iss u) new) → (q : Option FrontRow) → FrontHas Old q → FrontHas New q
    old-front more q f = front-weaker Old New (old-end more) q f

    old-node : ((u : ℕ) → Each (LetterReaches x.c isn s.iss u) new) → (p : NodePart) → NodeHas Old AnyBlock p → NodeHas New AnyBlock p
    old-node more p f = node-weaker Old New AnyBlock (old-end more) p f

  -- nothing goes out but what reaches in any case
  pub idle-moves : (place : Place) (heads : List Seen) (said : view.TurnSaid) → ((u : ℕ) → Each (LetterReaches x.c isn s.iss u) (letters_of (stands x place heads said))) → StationReaches (grown x (stands x place heads said)) s
  idle-moves place heads said more =
      let new : List Letter = letters_of (stands x place heads said) in
      record {
        client = h.client;
        most = h.most;
        letters = old-letters new h.most h.most (omega arith) h.letters (more h.most);
        begins = old-begins new more x.part.front.row h.begins;
        front = old-front new more x.part.front.row h.front;
        nodes = λ n. old-node new more (x.part.nodes n) (h.nodes n);
      }

  -- ---- an endpoint of this connection that sends, where so many were sent before

  module _ (sent : ℕ) (small : isn < 2 ^ 32) (A : Type 0) where
    -- what is known while an endpoint is at the place
    abbrev pub Known : Type 0
    Known = A × SymbolsWereSent x.c s.client s.iss x.letters sent

    abbrev pub known : Known → A
    known k = k.0

    abbrev pub GoesOn : ControlBlock → Type 0
    GoesOn b = Goes isn s.iss sent small Known A known b

    abbrev pub Says : ControlBlock → Said → Type 0
    Says d t = Replies isn s.iss sent small Known A known d t

    module _ (place : Place) (machine : IsMachine place) (ss ms : List (Place × List ℕ)) (messages : AreMessages x.c place ms) where
      abbrev new : List Letter
      new = map (letter place) ss ++ map (letter place) ms

      new-reach : (d : ControlBlock) → AreTold x.c (Says d) ss → Each (LetterReaches x.c isn s.iss d.send.nxt) new
      new-reach d told = Each-append (LetterReaches x.c isn s.iss d.send.nxt) (map (letter place) ss) (map (letter place) ms)
          (told-reach x.c isn s.iss d.send.nxt A place machine ss told) (messages-reach x.c isn s.iss d.send.nxt place ms messages)

      -- it has sent all that
      new-end : (b : ControlBlock) → GoesOn b × AreTold x.c (Says b) ss → New new b
      new-end b r = (r.0.0, old-sent new sent b.send.nxt r.0.1 r.0.2.1 (new-reach b r.1))

      -- all letters
      new-letters : (d : ControlBlock) → AreTold x.c (Says d) ss → Each (LetterReaches x.c isn s.iss (h.most + d.send.nxt)) (x.letters ++ new)
      new-letters d told = old-letters new h.most (h.most + d.send.nxt) (omega arith) h.letters (letters-more x.c isn s.iss d.send.nxt (h.most + d.send.nxt) (omega arith) new (new-reach d told))

      -- without a segment only messages go out
      silent : ss ≡ [] → (u : ℕ) → Each (LetterReaches x.c isn s.iss u) new
      silent none u = subst (λ (ts : List (Place × List ℕ)). Each (LetterReaches x.c isn s.iss u) (map (letter place) ts ++ map (letter place) ms)) (sym none) (messages-reach x.c isn s.iss u place ms messages)

      told-known : (d : ControlBlock) → AreTold x.c (Says d) ss → (ss ≡ []) ⊎ A
      told-known d told = by-told x.c (Says d) A (λ t r. r.2) ss told

  -- ---- the front end's

  module _ (sent : ℕ) (small : isn < 2 ^ 32) where
    abbrev pub Home : Type 0
    Home = FrontAlone x.part.nodes

    -- an endpoint that sent so many
    abbrev at_sent : ℕ → ControlBlock
    at_sent u = record nobody { send = record nobody.send { nxt = u } }

    pub front-moves : (heads : List Seen) (d : front.FrontDeed) → fronts.DeedHas (GoesOn sent small Home) (Says sent small Home) x.c d → IsItsOwn x (front_does x heads d) → StationReaches (grown x (front_does x heads d)) s
    front-moves heads front.Drops g own = idle-moves Front heads view.nothing_said (λ u. tt)
    front-moves heads (front.Says turn) g own =
        idle-moves Front heads (view.by_front turn) (λ u. new-reach sent small Home Front tt turn.segments turn.messages own.messages (at_sent u) (g (at_sent u)))
    front-moves heads (front.Does did) g own = record {
      client = h.client;
      most = h.most + g.1.0.send.nxt;
      letters = new-letters sent small Home Front tt ss ms own.messages g.1.0 g.1.1;
      begins = known-begins (λ (b : ControlBlock). GoesOn sent small Home b × AreTold x.c (Says sent small Home b) ss) all did.part.row g.0;
      front = known-front (λ (b : ControlBlock). GoesOn sent small Home b × AreTold x.c (Says sent small Home b) ss) (New all) (new-end sent small Home Front tt ss ms own.messages) did.part.row g.0;
      nodes = λ n. ⊎_elim
          (λ (none : ss ≡ []). old-node all (silent sent small Home Front tt ss ms own.messages none) (x.part.nodes n) (h.nodes n))
          (λ (home : Home). front-alone (New all) AnyBlock x.part.nodes home n)
          (told-known sent small Home Front tt ss ms own.messages g.1.0 g.1.1);
    } where
      ss : List (Place × List ℕ)
      ss = did.turn.segments

      ms : List (Place × List ℕ)
      ms = did.turn.messages

      all : List Letter
      all = map (letter Front) did.turn.segments ++ map (letter Front) did.turn.messages

      known-begins : (P : ControlBlock → Type 0) (ls : List Letter) (q : Option FrontRow) → KnownHas P q → FrontSent x.c s.client s.iss (x.letters ++ ls) q
      known-begins P ls None f = absurd f
      known-begins P ls (Some row) f = tt

  -- ---- a node's

  away-begins : (ls : List Letter) (q : Option FrontRow) → RowIsAway q → FrontSent x.c s.client s.iss (x.letters ++ ls) q
  away-begins ls None away = absurd away
  away-begins ls (Some row) away = tt

  module _ (n : ℕ) (sent : ℕ) (small : isn < 2 ^ 32) where
    abbrev pub There : Type 0
    There = NodeAlone n x.part

    pub node-moves : (heads : List Seen) (d : node.NodeDeed) → nodes.DeedHas (GoesOn sent small There) AnyBlock (Says sent small There) x.c d → AreMessages x.c (node_does x n heads d).place (node_does x n heads d).said.messages → StationReaches (grown x (node_does x n heads d)) s
    node-moves heads node.Drops g own = idle-moves (Node n) heads view.nothing_said (λ u. tt)
    node-moves heads (node.Says ms) g own = idle-moves (Node n) heads (record view.nothing_said { messages = ms }) (λ u. messages-reach x.c isn s.iss u (Node n) ms own)
    node-moves heads (node.Does given) g own = record {
      client = h.client;
      most = h.most + g.1.0.send.nxt;
      letters = new-letters sent small There (Node n) tt ss ms own g.1.0 g.1.1;
      begins = ⊎_elim (λ (none : ss ≡ []). old-begins all (quiet none) x.part.front.row h.begins) (λ (there : There). away-begins all x.part.front.row there.0) told;
      front = ⊎_elim (λ (none : ss ≡ []). old-front all (quiet none) x.part.front.row h.front) (λ (there : There). away-has (New all) x.part.front.row there.0) told;
      nodes = put-each x.part.nodes n given.0 (λ m p. NodeHas (New all) AnyBlock p)
          (node-weaker (λ (b : ControlBlock). GoesOn sent small There b × AreTold x.c (Says sent small There b) ss) (New all) AnyBlock (new-end sent small There (Node n) tt ss ms own) given.0 g.0)
          (λ m other. ⊎_elim
          (λ (none : ss ≡ []). old-node all (quiet none) (x.part.nodes m) (h.nodes m))
          (λ (there : There). past-has (New all) AnyBlock there.1.0 (x.part.nodes m) (there.1.1 m other)) told);
    } where
      ss : List (Place × List ℕ)
      ss = given.1.segments

      ms : List (Place × List ℕ)
      ms = given.1.messages

      all : List Letter
      all = map (letter (Node n)) given.1.segments ++ map (letter (Node n)) given.1.messages

      quiet : given.1.segments ≡ [] → (u : ℕ) → Each (LetterReaches x.c isn s.iss u) (map (letter (Node n)) given.1.segments ++ map (letter (Node n)) given.1.messages)
      quiet none = silent sent small There (Node n) tt given.1.segments given.1.messages own none

      told : (given.1.segments ≡ []) ⊎ There
      told = told-known sent small There (Node n) tt given.1.segments given.1.messages own g.1.0 g.1.1
