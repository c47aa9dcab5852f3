-- Each rule keeps that the segments of a client fit it, so it is in every run.
use Rattle.std.proofs.Common.{◌≡◌, ◌≤◌, ◌^◌, ℕ, false, List, [], ◌∷◌, ◌++◌, map, Option, Some, None, Result, Ok, refl, sym, ap, ◌∙◌, subst, arith}
use Rattle.lard_base.proofs.Usable.{usable}
use Rattle.lard_law_view.specs.Prelude.{Client, ClientAgrees, ClientBlock, ClientFires, ClientGets, ClientReceives, ClientRules, Config, Conn, Front, FrontRules, Has, HasRule, IsConnNumber, IsConnSound, IsMachine, IsUntouchedLaw, Letter, MayRestOn, Move, Node, NodeRules, OfEach, Part, Place, Said, Seen, SegFault, Setting, Station, ToAbort, ToCluster, ToGet, ToHold, ToShut, ToTake, ToWrite, Turn, Untouched, UntouchedRules, client_begins, client_does, client_gets, client_opened, client_opens, client_rule, config_check, decoded, grown, letter, letters_of, nothing_said, packet_seen, request, setting, stands, tale_at, with_leaving}
use Rattle.lard_base.specs.declared.event.Event.TheVariants as event
use Rattle.lard_law_connections.specs.BytesAgreement.{IsTruthful}
use Rattle.lard_law_connections.proofs.BytesClientMoves.{open-at}
use Rattle.lard_law_connections.proofs.BytesRuns.{states-truthful}
use Rattle.lard_law_view.proofs.Carried.{carried}
use Rattle.lard_law_view.proofs.EachClient.{ClientComes, client_seen, each-client}
use Rattle.lard_law_view.proofs.Frames.{IsAtMachine, KeepsAt, Owed, fronts-leave, nodes-leave}
use Rattle.lard_law_view.proofs.Guarded.{untouched-law, untouched-weaker, front-weaker, node-weaker}
use Rattle.lard_laws.proofs.ClientComing.{reply-of}
use Rattle.lard_laws.specs.WindowsLaws.{ClientsStart, WordsFit}
use Rattle.lard_laws.specs.WindowsWords.{BytesFit, FitsClient, FitsOn, HasFittingWords, HasStarted, IsNoWord, IsNoWordOn, StartsOn, WordFits, WordFitsOn}
use Rattle.lard_laws.proofs.WindowsWords.{IsLater, fits-later, later-self, starts-later}
use Rattle.lard_laws.proofs.WindowsWordTurns.{Out, Turned, aborts-turned, gets-turned, holds-turned, opens-turned, shuts-turned, takes-turned, timer-turned, writes-turned}
use Rattle.lard_history.proofs.Each.{Each, Each-append, Each-weaker}
use Rattle.lard_history.proofs.Seeing.{has-before}
use Rattle.lard_segment.proofs.Again.{again}

-- ---- letters go on fitting

module _ (c : ℕ) (x y : ClientBlock) (ls ms : List Letter) (later : IsLater x y) (goes : (l : Letter) → Has l ls → Has l ms) where
  on-later : (from to : Place) (bytes : List ℕ) → WordFitsOn c x ls from to bytes → WordFitsOn c y ms from to bytes
  on-later (Client d) Front bytes h = λ s e. fits-later c x y ls ms later goes s (h s e)
  on-later _ _ bytes h = tt

  letters-later : (all : List Letter) → Each (WordFits c x ls) all → Each (WordFits c y ms) all
  letters-later all h = Each-weaker (WordFits c x ls) (WordFits c y ms) (λ l f. on-later l.from l.to l.bytes f) all h

-- ---- what goes out from a machine of the cluster is no word of the client's

from-machine : (c : ℕ) (x : ClientBlock) (ls : List Letter) (from to : Place) (bytes : List ℕ) → IsMachine from → WordFitsOn c x ls from to bytes
from-machine c x ls Front to bytes m = tt
from-machine c x ls (Node n) to bytes m = tt
from-machine c x ls (Client d) to bytes m = absurd m

none-from : (from to : Place) → IsMachine from → IsNoWordOn from to
none-from Front to m = tt
none-from (Node n) to m = tt
none-from (Client d) to m = absurd m

module _ (c : ℕ) (x : ClientBlock) (ls : List Letter) (place : Place) (m : IsMachine place) where
  sent-fit : (ss : List (Place × List ℕ)) → Each (WordFits c x ls) (map (letter place) ss)
  sent-fit [] = tt
  sent-fit (s ∷ ss) = (from-machine c x ls place s.0 s.1 m, sent-fit ss)

sent-none : (place : Place) → IsMachine place → (ss : List (Place × List ℕ)) → Each IsNoWord (map (letter place) ss)
sent-none place m [] = tt
sent-none place m (s ∷ ss) = (none-from place s.0 m, sent-none place m ss)

-- ---- what a client sends

same-said : (a b : Said) → ◌≡◌ {A = Result Said SegFault} (Ok a) (Ok b) → a ≡ b
same-said a b e = cc

module _ (c d : ℕ) (x : ClientBlock) (ls : List Letter) where
  out-fit : (ss : List (Place × List ℕ)) → Each (Out c x ls) ss → Each (WordFits c x ls) (map (letter (Client d)) ss)
  out-fit [] h = tt
  out-fit (s ∷ ss) h = (subst (λ (to : Place). WordFitsOn c x ls (Client d) to s.1) (sym h.0.0) fits, out-fit ss h.1) where
    said : Said
    said = h.0.1.0

    fits : BytesFit c x ls s.1
    fits t e =
        let same : said ≡ t = same-said said t (sym (again c ToCluster said h.0.1.2.0) ∙ ap (λ l. decoded l c ToCluster) (sym h.0.1.1) ∙ e) in
        subst (λ (u : Said). FitsClient c x ls u) same h.0.1.2.1

-- what no client sent fits any client
none-fits : (c : ℕ) (x : ClientBlock) (ls all : List Letter) → Each IsNoWord all → Each (WordFits c x ls) all
none-fits c x ls all h = Each-weaker IsNoWord (WordFits c x ls) (λ l n. go l.from l.to l.bytes n) all h where
  go : (from to : Place) (bytes : List ℕ) → IsNoWordOn from to → WordFitsOn c x ls from to bytes
  go Front to bytes n = tt
  go (Node m) to bytes n = tt
  go (Client d) Front bytes n = absurd n
  go (Client d) _ bytes n = tt

-- the segments of its client fit it, and it starts so
abbrev All : Conn → Type 0
All x = HasFittingWords x × HasStarted x

module _ (k : Setting) (small : k.stream ≤ 2 ^ 30) where
  -- what is known beside the words
  pub record Helps (x : Conn) : Type 0 where
    pub number : IsConnNumber x.c
    pub sound : IsConnSound x
    pub truth : IsTruthful k.files x

  abbrev Keeps : Conn → Move → Type 0
  Keeps x v = Helps x → All x → All (grown x v)

  -- ---- places of the cluster, and what nobody does

  still-rule : (x : Conn) (v : Move) → v.part.station ≡ x.part.station → ((c : ℕ) (y : ClientBlock) (ls : List Letter) → Each (WordFits c y ls) (letters_of v)) → Each IsNoWord (letters_of v) → Keeps x v
  still-rule x v same fit none help h = (go x.part.station refl h.0, subst StartsOn (sym same) h.1) where
    go : (o : Option Station) → x.part.station ≡ o → FitsOn x o → FitsOn (grown x v) v.part.station
    go None e r = subst (FitsOn (grown x v)) (sym (same ∙ e)) (Each-append IsNoWord x.letters (letters_of v) r none)
    go (Some s) e r = subst (FitsOn (grown x v)) (sym (same ∙ e))
        (Each-append (WordFits x.c s.client (x.letters ++ letters_of v)) x.letters (letters_of v)
        (letters-later x.c s.client s.client x.letters (x.letters ++ letters_of v) (later-self s.client) (λ l has. has-before l x.letters (letters_of v) has) x.letters r) (fit x.c s.client (x.letters ++ letters_of v)))

  -- a machine's says no word of the client's
  machine-rule : (x : Conn) (v : Move) → IsMachine v.place → v.part.station ≡ x.part.station → Keeps x v
  machine-rule x v m same = still-rule x v same
      (λ c y ls. Each-append (WordFits c y ls) (map (letter v.place) v.said.segments) (map (letter v.place) v.said.messages)
      (sent-fit c y ls v.place m v.said.segments) (sent-fit c y ls v.place m v.said.messages))
      (Each-append IsNoWord (map (letter v.place) v.said.segments) (map (letter v.place) v.said.messages) (sent-none v.place m v.said.segments)
      (sent-none v.place m v.said.messages))

  station-stays : (place : Place) (p q : Part) → IsMachine place → KeepsAt place p q → q.station ≡ p.station
  station-stays Front p q m keeps = keeps.0
  station-stays (Node n) p q m keeps = keeps.0
  station-stays (Client d) p q m keeps = absurd m

  by-frame : (x : Conn) (v : Move) → Owed IsAtMachine x v → Keeps x v
  by-frame x v frame help =
      let at : IsAtMachine x v = frame help.number help.sound in
      machine-rule x v at.machine (station-stays v.place x.part v.part at.machine at.keeps) help

  fronts : FrontRules k Keeps
  fronts = front-weaker k (Owed IsAtMachine) Keeps by-frame (fronts-leave k IsAtMachine (λ x v at own number sound. at))

  nodes : NodeRules k Keeps
  nodes = node-weaker k (Owed IsAtMachine) Keeps by-frame (nodes-leave k IsAtMachine (λ x v at own number sound. at))

  -- ---- clients

  -- its turn, where what it says fits with all that was sent before
  client-rule : (x : Conn) (s : Station) (heads : List Seen) (given : ClientBlock × Turn) → x.part.station ≡ Some s → (IsTruthful k.files x → Turned x.c s.client x.letters given) → Keeps x (client_does x s heads given)
  client-rule x s heads given there turned help h0 =
      let h : Each (WordFits x.c s.client x.letters) x.letters = subst (FitsOn x) there h0.0 in
      let t : Turned x.c s.client x.letters given = turned help.truth in
      let new : List Letter = letters_of (client_does x s heads given) in
      let z : ClientBlock = given.0 in
      let goes : (l : Letter) → Has l x.letters → Has l (x.letters ++ new) = λ l has. has-before l x.letters new has in (
        Each-append (WordFits x.c z (x.letters ++ new)) x.letters new (letters-later x.c s.client z x.letters (x.letters ++ new) t.later goes x.letters h)
            (Each-append (WordFits x.c z (x.letters ++ new)) (map (letter (Client x.c)) given.1.segments) []
            (letters-later x.c z z x.letters (x.letters ++ new) (later-self z) goes (map (letter (Client x.c)) given.1.segments) (out-fit x.c x.c z x.letters given.1.segments t.words)) tt),
        starts-later s.client z t.later (subst StartsOn there h0.1),
      )

  agrees : (x : Conn) (s : Station) → x.part.station ≡ Some s → (h : IsTruthful k.files x) → ClientAgrees x.c h.talk.w h.talk.out s.client
  agrees x s there h = (open-at k.files x s there h).client

  -- by the law of bytes
  module _ (x : Conn) (s : Station) (there : x.part.station ≡ Some s) (h : IsTruthful k.files x) where
    abbrev a : ClientAgrees x.c h.talk.w h.talk.out s.client
    a = agrees x s there h

    pub rule-turned : IsConnSound x → (g : ClientGets) → ClientComes k x s g → Turned x.c s.client x.letters (client_rule x.c s.client g)
    rule-turned sound (ToGet path) fits = writes-turned x.c x.letters s.client a.numbered a.sound a.wide h.talk.w.bytes a.speaks k.stream (request path) small fits
    rule-turned sound (ToWrite bytes) fits = writes-turned x.c x.letters s.client a.numbered a.sound a.wide h.talk.w.bytes a.speaks k.stream bytes small fits
    rule-turned sound ToShut comes = shuts-turned x.c x.letters s.client a.numbered a.sound a.wide h.talk.w.bytes a.speaks
    rule-turned sound ToAbort comes = aborts-turned x.c x.letters s.client a.numbered a.sound a.wide h.talk.w.bytes a.speaks
    rule-turned sound ToHold comes = holds-turned x.c x.letters s.client a.numbered a.sound a.wide h.talk.w.bytes a.speaks
    rule-turned sound ToTake comes = takes-turned x.c x.letters s.client a.numbered a.sound a.wide h.talk.w.bytes a.speaks
    rule-turned sound ClientFires comes = timer-turned x.c x.letters s.client a.numbered a.sound a.wide h.talk.w.bytes a.speaks
    rule-turned sound (ClientReceives from bytes) was =
        let f = reply-of k small x s there h sound from bytes was in
        subst (λ (r : Result Said SegFault). Turned x.c s.client x.letters (client_gets s.client r)) (sym f.read)
        (gets-turned x.c x.letters s.client a.numbered a.sound a.wide h.talk.w.bytes a.speaks from bytes f.said was f.read f.reply.sendable.ack_fits)

  client-opens-so : (x : Conn) (isn iss wnd mss : ℕ) → HasRule (event.Open x.c isn iss wnd mss) → x.part.station ≡ None → Keeps x (client_begins x isn iss wnd mss)
  client-opens-so x isn iss wnd mss rule none help h0 =
      let z : ClientBlock = (client_opens x.c isn wnd mss).0 in
      let old : Each IsNoWord x.letters = subst (FitsOn x) none h0.0 in
      let new : List Letter = letters_of (client_begins x isn iss wnd mss) in
      let goes : (l : Letter) → Has l x.letters → Has l (x.letters ++ new) = λ l has. has-before l x.letters new has in
      let t : Turned x.c (client_opened x.c isn wnd mss) x.letters (client_opens x.c isn wnd mss) = opens-turned x.c x.letters isn wnd mss rule.4 rule.3 rule.1 rule.2 in
      let ss : List (Place × List ℕ) = (client_opens x.c isn wnd mss).1.segments in (
        Each-append (WordFits x.c z (x.letters ++ new)) x.letters new (none-fits x.c z (x.letters ++ new) x.letters old)
            (Each-append (WordFits x.c z (x.letters ++ new)) (map (letter (Client x.c)) ss) [] (letters-later x.c z z x.letters (x.letters ++ new) (later-self z) goes (map (letter (Client x.c)) ss) (out-fit x.c x.c z x.letters ss t.words)) tt),
        starts-later (client_opened x.c isn wnd mss) z t.later (record { window = rule.0; first = λ e. omega arith }),
      )

  clients : ClientRules k Keeps
  clients = each-client k Keeps (record {
    opens = client-opens-so;
    does = λ x s g there comes help. client-rule x s (client_seen x.c g) (client_rule x.c s.client g) there (λ h. rule-turned x s there h help.sound g comes) help;
  })

  -- ---- the law

  keeps : UntouchedRules k Keeps
  keeps = record {
    client = clients;
    front = fronts;
    node = nodes;
    ignores = λ x from to bytes was. still-rule x (stands x to (packet_seen from to bytes) nothing_said) refl (λ c y ls. tt) tt;
  }

  -- that it agrees
  abbrev pub Given : Conn → Type 0
  Given x = Untouched (IsTruthful k.files) x

  abbrev Wanted : Conn → Move → Type 0
  Wanted x v = MayRestOn Given x → (tale_at x).touched ≡ false → All x → All (grown x v)

  wanted : (x : Conn) (v : Move) → Keeps x v → Wanted x v
  wanted x v keeps may untouched h = keeps (record { number = may.number; sound = may.sound; truth = may.given untouched }) h

  fitting-law : IsUntouchedLaw k Given All
  fitting-law = record { begins = λ c. (tt, tt); moves = untouched-weaker k Keeps Wanted wanted keeps }

-- In every state that events lead to.
all-fits : (config : Config) (files : List (List ℕ × List ℕ)) → config_check config ≡ Ok tt → OfEach config files (Untouched All)
all-fits config files checked =
    let k : Setting = setting config files in
    let small : k.stream ≤ 2 ^ 30 = (usable config checked).stream in
    carried config files (Given k small) (Untouched All) (λ l. untouched-law (with_leaving k l) (Given k small) All (fitting-law (with_leaving k l) small)) (states-truthful config files checked)

pub words-fit : WordsFit
words-fit config files checked m r q untouched = (all-fits config files checked m r q untouched).0

pub clients-start : ClientsStart
clients-start config files checked m r q untouched = (all-fits config files checked m r q untouched).1
