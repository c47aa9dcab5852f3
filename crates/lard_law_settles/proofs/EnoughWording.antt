-- Each rule warms: behind a move of a settle's rounds each word of a client that goes out is fine, and so is each that the front end forwards,
-- where the one that came was.
use Rattle.std.proofs.Common.{◌≡◌, ◌⊎◌, ◌<◌, ◌^◌, ℕ, List, [], ◌∷◌, ◌++◌, map, Some, Result, Ok, inl, inr, ⊎_elim, refl, sym, ap, ◌∙◌, subst}
use Rattle.lard_base.specs.declared.event.Event.TheVariants as event
use Rattle.lard_law_view.specs.Prelude.{Body, Client, ClientBlock, ClientFires, ClientGets, ClientReceives, ClientRules, Conn, Front, FrontEnv, FrontGets, FrontHears, FrontRules, Has, Letter, MayRestOn, Message, Move, Node, Place, Said, Seen, SegFault, Setting, Station, ToClient, ToCluster, Turn, Was, client_does, client_gets, client_timer, decoded, decoded_message, event_seen, front_does, front_rule, grown, kind_of, letter, letters_of, packet_seen, spelled}
use Rattle.lard_law_view.proofs.EachClient.{ClientComes, client_goes, each-client}
use Rattle.lard_law_view.proofs.EachFront.{FrontComes, admission, each-front}
use Rattle.lard_bound.specs.Progress.{IfCame, came_in}
use Rattle.lard_law_connections.proofs.BytesMessages.{forwards-read}
use Rattle.lard_law_connections.proofs.PlacesFrontRules.{has-each}
use Rattle.lard_law_connections.proofs.PlacesHeads.{kinds-same}
use Rattle.lard_rules.specs.Front as front
use Rattle.lard_rules.specs.Front.{message}
use Rattle.lard_history.proofs.Each.{Each}
use Rattle.lard_message.specs.declared.message.Body.TheVariants as body
use Rattle.lard_message.specs.declared.kind.Kind.TheVariants as kind
use Rattle.lard_law_progress.proofs.Given.{IsRoundsSeen}
use Rattle.lard_law_progress.proofs.Clients.{OnPhase}
use Rattle.lard_segment.proofs.Again.{again}
use Rattle.lard_law_settles.proofs.EnoughForwarding.{BodyHas, DeedHas, IsOffer, IsWith, MessageHas, rule-has}
use Rattle.lard_law_settles.proofs.EnoughHolding.{fires-keeps, fires-phase, gets-keeps, gets-phase}
use Rattle.lard_law_settles.proofs.EnoughTalking.{AreSaid, IsCalm, IsFineWord, IsSaid, fine-stays, fires-says, gets-says}
use Rattle.lard_law_settles.proofs.EnoughWarming.{Warms}
use Rattle.lard_law_view.proofs.EndpointSends.{AllTo}

-- ---- what is so of packets

-- where these bytes are a segment of the client's, it is fine
abbrev pub AreWordsOf : Conn → List ℕ → Type 0
AreWordsOf x bytes = (st : Station) → x.part.station ≡ Some st → (s : Said) → decoded bytes x.c ToCluster ≡ Ok s → IsFineWord st.client s

-- of what a client sends to the front end
abbrev pub FirstOn : Conn → Place → Place → List ℕ → Type 0
FirstOn x (Client d) Front bytes = AreWordsOf x bytes
FirstOn x _ _ bytes = Unit {0}

abbrev pub First : Conn → Letter → Type 0
First x l = FirstOn x l.from l.to l.bytes

-- and of what the front end forwards to a node
abbrev pub Forwards : Conn → List ℕ → Type 0
Forwards x bytes = (m : Message) (segment : List ℕ) → decoded_message bytes ≡ Ok m → m.body ≡ body.Forward segment → AreWordsOf x segment

abbrev pub SecondOn : Conn → Place → Place → List ℕ → Type 0
SecondOn x (Client d) Front bytes = AreWordsOf x bytes
SecondOn x Front (Node n) bytes = Forwards x bytes
SecondOn x _ _ bytes = Unit {0}

abbrev pub Second : Conn → Letter → Type 0
Second x l = SecondOn x l.from l.to l.bytes

pub second-first : (x : Conn) (l : Letter) → Second x l → First x l
second-first x l h = go l.from l.to h where
  go : (from to : Place) → SecondOn x from to l.bytes → FirstOn x from to l.bytes
  go (Client d) Front k = k
  go _ _ k = tt

-- ---- what is known of a connection

pub record IsCalmConn (x : Conn) : Type 0 where
  pub calm : (st : Station) → x.part.station ≡ Some st → IsCalm st.client
  pub acks : (from : Place) (bytes : List ℕ) → Was x from (Client x.c) bytes → (s : Said) → decoded bytes x.c ToClient ≡ Ok s → s.ack < 2 ^ 32
  pub offers : Each (IsOffer x.c) x.part.front.kept

abbrev pub WarmsOwed : Conn → Move → Type 0
WarmsOwed x v = MayRestOn IsCalmConn x → Each IsRoundsSeen v.heads → Warms First Second x v

-- ---- what stays

-- words that were fine are so of y
module _ (x y : Conn) (stay : (bytes : List ℕ) → AreWordsOf x bytes → AreWordsOf y bytes) where
  first-on : (from to : Place) (bytes : List ℕ) → FirstOn x from to bytes → FirstOn y from to bytes
  first-on (Client d) Front bytes h = stay bytes h
  first-on _ _ bytes h = tt

  second-on : (from to : Place) (bytes : List ℕ) → SecondOn x from to bytes → SecondOn y from to bytes
  second-on (Client d) Front bytes h = stay bytes h
  second-on Front (Node n) bytes h = λ m segment d is. stay segment (h m segment d is)
  second-on _ _ bytes h = tt

same-words : (x : Conn) (v : Move) → v.part.station ≡ x.part.station → (bytes : List ℕ) → AreWordsOf x bytes → AreWordsOf (grown x v) bytes
same-words x v same bytes h st at = h st (sym same ∙ at)

-- ---- what is sent

has-map : {A B : Type 0} (f : A → B) (b : B) (as_ : List A) → Has b (map f as_) → (a : A) × Has a as_ × (f a ≡ b)
has-map f b [] h = absurd h
has-map f b (a ∷ as_) (inl e) = (a, inl refl, e)
has-map f b (a ∷ as_) (inr h) = let rest = has-map f b as_ h in (rest.0, inr rest.1, rest.2)

has-either : {A : Type 0} (a : A) (xs ys : List A) → Has a (xs ++ ys) → Has a xs ⊎ Has a ys
has-either a [] ys h = inr h
has-either a (x ∷ xs) ys (inl e) = inl (inl e)
has-either a (x ∷ xs) ys (inr h) = ⊎_elim (λ (k : Has a xs). inl (inr k)) (λ (k : Has a ys). inr k) (has-either a xs ys h)

-- P is so of each letter that goes out
sent-by : (P : Letter → Type 0) (v : Move) → ((p : Place × List ℕ) → Has p v.said.segments → P (letter v.place p)) → ((p : Place × List ℕ) → Has p v.said.messages → P (letter v.place p))
    → (l : Letter) → Has l (letters_of v) → P l
sent-by P v f g l h = ⊎_elim
    (λ (k : Has l (map (letter v.place) v.said.segments)). let a = has-map (letter v.place) l v.said.segments k in subst P a.2 (f a.0 a.1))
    (λ (k : Has l (map (letter v.place) v.said.messages)). let a = has-map (letter v.place) l v.said.messages k in subst P a.2 (g a.0 a.1))
    (has-either l (map (letter v.place) v.said.segments) (map (letter v.place) v.said.messages) h)

-- ---- a client's moves

module _ (x : Conn) (st : Station) (heads : List Seen) (given : ClientBlock × Turn) (there : x.part.station ≡ Some st) (numbered : st.client.c ≡ x.c)
    (wnd : given.0.wnd ≡ st.client.wnd) (on : OnPhase st.client.phase given.0.phase) (said : AreSaid st.client.c (IsFineWord given.0) given.1.segments) where
  v : Move
  v = client_does x st heads given

  some-is : {A : Type 0} (a b : A) → Some a ≡ Some b → a ≡ b
  some-is a b e = cc

  ok-is : (a b : Said) → ◌≡◌ {A = Result Said SegFault} (Ok a) (Ok b) → a ≡ b
  ok-is a b e = cc

  words-stay : (bytes : List ℕ) → AreWordsOf x bytes → AreWordsOf (grown x (client_does x st heads given)) bytes
  words-stay bytes h st' at s d =
      let same : record { client = given.0; iss = st.iss } ≡ st' = some-is (record { client = given.0; iss = st.iss }) st' at in
      subst (λ (z : Station). IsFineWord z.client s) same (fine-stays st.client given.0 on wnd s (h st there s d))

  -- what it says
  said-words : (p : Place × List ℕ) → IsSaid st.client.c (IsFineWord given.0) p → AreWordsOf (grown x (client_does x st heads given)) p.1
  said-words p h st' at s d =
      let same : record { client = given.0; iss = st.iss } ≡ st' = some-is (record { client = given.0; iss = st.iss }) st' at in
      let t : Said = h.1.0 in
      let spells : p.1 ≡ spelled x.c ToCluster t = h.1.1 ∙ ap (λ k. spelled k ToCluster t) numbered in
      let is : t ≡ s = ok-is t s (sym (again x.c ToCluster t h.1.2) ∙ ap (λ (bytes : List ℕ). decoded bytes x.c ToCluster) (sym spells) ∙ d) in
      subst (λ (z : Station). IsFineWord z.client s) same (subst (IsFineWord given.0) is h.1.3)

  first-said : (p : Place × List ℕ) → Has p given.1.segments → First (grown x (client_does x st heads given)) (letter (Client x.c) p)
  first-said p has =
      let h = has-each (IsSaid st.client.c (IsFineWord given.0)) p given.1.segments has said in
      subst (λ (to : Place). FirstOn (grown x (client_does x st heads given)) (Client x.c) to p.1) (sym h.0) (said-words p h)

  second-said : (p : Place × List ℕ) → Has p given.1.segments → Second (grown x (client_does x st heads given)) (letter (Client x.c) p)
  second-said p has =
      let h = has-each (IsSaid st.client.c (IsFineWord given.0)) p given.1.segments has said in
      subst (λ (to : Place). SecondOn (grown x (client_does x st heads given)) (Client x.c) to p.1) (sym h.0) (said-words p h)

  pub client-warms : Warms First Second x (client_does x st heads given)
  client-warms = record {
    first_stays = λ l h. first-on x (grown x (client_does x st heads given)) words-stay l.from l.to l.bytes h;
    second_stays = λ l h. second-on x (grown x (client_does x st heads given)) words-stay l.from l.to l.bytes h;
    first_sent = sent-by (First (grown x (client_does x st heads given))) (client_does x st heads given) first-said (λ p none. absurd none);
    second_sent = λ came. sent-by (Second (grown x (client_does x st heads given))) (client_does x st heads given) second-said (λ p none. absurd none);
  }

client-warmed : (k : Setting) (x : Conn) (st : Station) (g : ClientGets) → x.part.station ≡ Some st → ClientComes k x st g → WarmsOwed x (client_goes x st g)
client-warmed k x st ClientFires there comes may seen =
    client-warms x st (event_seen (event.Timer (Client x.c) x.c)) (client_timer st.client) there (may.sound.client st there)
    (fires-keeps st.client).wnd (fires-phase st.client) (fires-says st.client (may.given.calm st there))
client-warmed k x st (ClientReceives from bytes) there was may seen =
    let given : Result Said SegFault = decoded bytes x.c ToClient in
    client-warms x st (packet_seen from (Client x.c) bytes) (client_gets st.client given) there (may.sound.client st there)
    (gets-keeps st.client given).wnd (gets-phase st.client given) (gets-says st.client given (may.given.calm st there) (may.given.acks from bytes was))
client-warmed k x st _ there comes may seen = absurd seen.0

pub clients-warm : (k : Setting) → ClientRules k WarmsOwed
clients-warm k = each-client k WarmsOwed (record { opens = λ x isn iss wnd mss rule none may seen. absurd seen.0; does = client-warmed k })

-- ---- a machine's moves

-- of packets of the front end and of nodes the first says nothing, and the second of nothing that a node sends
machine-first : (y : Conn) (from to : Place) (bytes : List ℕ) → (d : Place) → FirstOn y Front to bytes × ((n : ℕ) → FirstOn y (Node n) to bytes)
machine-first y from _ bytes d = (tt, λ n. tt)

node-second : (y : Conn) (n : ℕ) (to : Place) (bytes : List ℕ) → SecondOn y (Node n) to bytes
node-second y n _ bytes = tt

-- a move whose place is a node's, or that says nothing
pub node-warms : (x : Conn) (v : Move) (n : ℕ) → v.place ≡ Node n → v.part.station ≡ x.part.station → Warms First Second x v
node-warms x v n is same = record {
  first_stays = λ l h. first-on x (grown x v) (same-words x v same) l.from l.to l.bytes h;
  second_stays = λ l h. second-on x (grown x v) (same-words x v same) l.from l.to l.bytes h;
  first_sent = sent-by (First (grown x v)) v (λ p has. first p) (λ p has. first p);
  second_sent = λ came. sent-by (Second (grown x v)) v (λ p has. second p) (λ p has. second p);
} where
  first : (p : Place × List ℕ) → First (grown x v) (letter v.place p)
  first p = subst (λ (from : Place). FirstOn (grown x v) from p.0 p.1) (sym is) ((machine-first (grown x v) Front p.0 p.1 Front).1 n)

  second : (p : Place × List ℕ) → Second (grown x v) (letter v.place p)
  second p = subst (λ (from : Place). SecondOn (grown x v) from p.0 p.1) (sym is) (node-second (grown x v) n p.0 p.1)

pub silent-warms : (x : Conn) (v : Move) → v.said.segments ≡ [] → v.said.messages ≡ [] → v.part.station ≡ x.part.station → Warms First Second x v
silent-warms x v segments messages same = record {
  first_stays = λ l h. first-on x (grown x v) (same-words x v same) l.from l.to l.bytes h;
  second_stays = λ l h. second-on x (grown x v) (same-words x v same) l.from l.to l.bytes h;
  first_sent = sent-by (First (grown x v)) v (λ p has. absurd (subst (Has p) segments has)) (λ p has. absurd (subst (Has p) messages has));
  second_sent = λ came. sent-by (Second (grown x v)) v (λ p has. absurd (subst (Has p) segments has)) (λ p has. absurd (subst (Has p) messages has));
}

-- ---- the front end's moves

-- a message of it forwards what W is so of
body-fine : (y : Conn) (b : Body) (bytes segment : List ℕ) → BodyHas (AreWordsOf y) b → (c e : ℕ) (m : Message) → decoded_message (message c e b) ≡ Ok m → m.body ≡ body.Forward segment → AreWordsOf y segment
body-fine y b bytes segment h c e m d is = go b (kinds-same (record { c = c; epoch = record { 0 = e }; body = b }) m d ∙ ap kind_of is) h d where
  go : (a : Body) → kind_of a ≡ kind.Forward → BodyHas (AreWordsOf y) a → decoded_message (message c e a) ≡ Ok m → AreWordsOf y segment
  go (body.Forward came) k fine reads = subst (AreWordsOf y) (sym (forwards-read c e came segment m reads is)) fine
  go _ k fine reads = absurd cc

body-more : (W V : List ℕ → Type 0) → ((bytes : List ℕ) → W bytes → V bytes) → (b : Body) → BodyHas W b → BodyHas V b
body-more W V f (body.Forward segment) h = f segment h
body-more W V f _ h = tt

module _ (x : Conn) (v : Move) (place : v.place ≡ Front) (same : v.part.station ≡ x.part.station) (c d : ℕ) where
  abbrev y : Conn
  y = grown x v

  first-front : (p : Place × List ℕ) → First y (letter v.place p)
  first-front p = subst (λ (from : Place). FirstOn y from p.0 p.1) (sym place) (machine-first y Front p.0 p.1 Front).0

  segment-front : (p : Place × List ℕ) → p.0 ≡ Client d → Second y (letter v.place p)
  segment-front p to = subst (λ (from : Place). SecondOn y from p.0 p.1) (sym place) (subst (λ (q : Place). SecondOn y Front q p.1) (sym to) tt)

  message-front : (p : Place × List ℕ) → MessageHas c (AreWordsOf x) p → Second y (letter v.place p)
  message-front p h =
      subst (λ (from : Place). SecondOn y from p.0 p.1) (sym place)
      (subst (λ (q : Place × List ℕ). SecondOn y Front q.0 q.1) (sym h.3)
      (λ m segment decodes is. body-fine y h.2 [] segment (body-more (AreWordsOf x) (AreWordsOf y) (same-words x v same) h.2 h.4) c h.1 m decodes is))

  pub front-warms : (IfCame (First x) (came_in v.heads) → AllTo (Client d) v.said.segments × Each (MessageHas c (AreWordsOf x)) v.said.messages) → Warms First Second x v
  front-warms f = record {
    first_stays = λ l h. first-on x y (same-words x v same) l.from l.to l.bytes h;
    second_stays = λ l h. second-on x y (same-words x v same) l.from l.to l.bytes h;
    first_sent = sent-by (First y) v (λ p has. first-front p) (λ p has. first-front p);
    second_sent = λ came.
        let says = f came in
        sent-by (Second y) v
        (λ p has. segment-front p (has-each (λ (q : Place × List ℕ). q.0 ≡ Client d) p v.said.segments has says.0))
        (λ p has. message-front p (has-each (MessageHas c (AreWordsOf x)) p v.said.messages has says.1));
  }

deed-warms : (x : Conn) (heads : List Seen) (c : ℕ) (d : front.FrontDeed) → (IfCame (First x) (came_in heads) → DeedHas c (AreWordsOf x) d) → Warms First Second x (front_does x heads d)
deed-warms x heads c front.Drops f = silent-warms x (front_does x heads front.Drops) refl refl refl
deed-warms x heads c (front.Says t) f = front-warms x (front_does x heads (front.Says t)) refl refl c c (λ came. let h = f came in (h.segments, h.messages))
deed-warms x heads c (front.Does z) f = front-warms x (front_does x heads (front.Does z)) refl refl c c (λ came. let h = f came in (h.segments, h.messages))

-- a segment that came is fine, where it is one of those of which the first law speaks
came-with : (x : Conn) (env : FrontEnv) (heads : List Seen) (g : FrontGets) → FrontComes x env heads g → IfCame (First x) (came_in heads) → IsWith (AreWordsOf x) g
came-with x env heads (FrontHears bytes given) comes came = subst (λ (ss : List Seen). IfCame (First x) (came_in ss)) comes.seen came
came-with x env heads _ comes came = tt

pub fronts-warm : (k : Setting) → FrontRules k WarmsOwed
fronts-warm k = each-front k WarmsOwed (λ x env heads g is comes may seen. deed-warms x heads env.serve.c (front_rule env x.part.front g)
    (λ came. rule-has env (AreWordsOf x) x.part.front (subst (λ (c : ℕ). Each (IsOffer c) x.part.front.kept) (sym is.number) may.given.offers) g (admission x env heads g comes) (came-with x env heads g comes came)))
