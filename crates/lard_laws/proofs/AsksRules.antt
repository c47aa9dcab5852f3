-- Each rule keeps what is known of the last Ask, and answers as it must.
use Rattle.std.proofs.Common.{◌≡◌, ◌≤◌, ℕ, List, [], ◌∷◌, ◌++◌, length, map, None, Result, Ok, Err, refl, sym, ap, ◌∙◌, subst, arith, Some}
use Rattle.std.specs.List.{fold}
use Rattle.lard_law_view.specs.Prelude.{Ask, AskedBy, Body, Client, ClientBlock, ClientRules, Conn, EndedBy, Front, FrontAdmits, FrontEnv, FrontFires, FrontGets, FrontHears, FrontPart, IsForFront, IsFrontEnv, IsOfTable, IsUnheard, Message, Move, MsgFault, Node, Place, Rec, ReturnedBy, Rules, Seen, Setting, SpellsMessage, Station, Turn, ask_of, client_begins, client_does, client_injects, client_opens, client_rule, decoded_message, event_seen, front_asked, front_does, front_rule, grown, inject_seen, kind_of, listed, node_does, nothing_said, packet_seen, stands}
use Rattle.lard_law_view.proofs.EachClient.{each-client, of-client}
use Rattle.lard_law_view.proofs.EachFront.{FrontComes, admission, each-front, of-front}
use Rattle.lard_law_view.proofs.EachNode.{aside_said, aside_seen, each-node, job_notes, told_first}
use Rattle.lard_law_view.proofs.NodeHeads.{heads-of, of-aside, of-heads}
use Rattle.lard_laws.specs.Asks.{Answered, ask_from, ask_in, ask_on, ask_tale, row_done, tag_to}
use Rattle.lard_laws.proofs.AsksAsked.{asked-answers}
use Rattle.lard_laws.proofs.AsksFronts as fronts
use Rattle.lard_laws.proofs.AsksMoving.{Answers, Fills, IsCalm, RowTold, Told, calm-answers}
use Rattle.lard_law_connections.specs.MotionStory.{picked}
use Rattle.lard_law_connections.proofs.MotionElsewhere.{IsElse, IsKnown}
use Rattle.lard_law_connections.proofs.MotionNodes.{IsFirst}
use Rattle.lard_law_connections.proofs.MotionPicking.{pick}
use Rattle.lard_rules.proofs.MessageTold.{IsTold, message-told}
use Rattle.lard_law_view.specs.View.{sending}
use Rattle.lard_law_view.proofs.Fine.{IsItsOwn}
use Rattle.lard_law_view.proofs.Saying.{NotedAt}
use Rattle.lard_history.proofs.Each.{Each, Each-weaker}
use Rattle.lard_journal.specs.declared.rec.Rec.TheVariants as rec
use Rattle.lard_message.specs.declared.message.Body.TheVariants as body
use Rattle.lard_rules.specs.Node as node
use Rattle.lard_law_view.proofs.OfKinds.{elsewhere}
use Rattle.lard_law_view.proofs.RecordKinds.{IsElsewhere, kind_of as record_kind}

-- the move is as it must be, and what is known stays known
abbrev pub Goes : Setting → Conn → Move → Type 0
Goes k x v = IsKnown x → Told x → IsItsOwn x v → Fills x (grown x v) → Answers x v

-- ---- elsewhere: a client, or a node

-- it is no assignment, and ends no shares
abbrev IsUnasked : Rec → Type 0
IsUnasked (rec.AssignedFirst c r path n add remove) = ⊥
IsUnasked (rec.AssignedLater c r path n add size queue) = ⊥
IsUnasked (rec.BatchOver c) = ⊥
IsUnasked _ = Unit {0}

unasked-calm : (r : Rec) → IsUnasked r → IsCalm r
unasked-calm (rec.AssignedLater c r path n add size queue) h = absurd h
unasked-calm (rec.BatchOver c) h = absurd h
unasked-calm _ h = tt

unasked-done : (d : Answered) (r : Rec) → IsUnasked r → row_done d r ≡ d
unasked-done d (rec.AssignedFirst c r path n add remove) h = absurd h
unasked-done d (rec.AssignedLater c r path n add size queue) h = absurd h
unasked-done d _ h = refl

all-done : (d : Answered) (rs : List Rec) → Each IsUnasked rs → fold row_done d rs ≡ d
all-done d [] e = refl
all-done d (r ∷ rs) e = ap (λ (x : Answered). fold row_done x rs) (unasked-done d r e.0) ∙ all-done d rs e.1

else-unasked : (r : Rec) → IsElsewhere (record_kind r) → IsUnasked r
else-unasked (rec.AssignedFirst c r path n add remove) h = absurd h
else-unasked (rec.AssignedLater c r path n add size queue) h = absurd h
else-unasked (rec.BatchOver c) h = absurd h
else-unasked _ h = tt

else-note : (place : Place) (c : ℕ) (r : Rec) → IsElse place → NotedAt place c r → IsUnasked r
else-note place c r m h = else-unasked r (elsewhere place c r h (λ e. subst IsElse e m))

else-sends : (place : Place) (ss : List (Place × List ℕ)) → IsElse place → pick tag_to (map (sending place) ss) ≡ []
else-sends Front ss m = absurd m
else-sends (Node n) [] m = refl
else-sends (Node n) (s ∷ ss) m = else-sends (Node n) ss m
else-sends (Client d) [] m = refl
else-sends (Client d) (s ∷ ss) m = else-sends (Client d) ss m

else-answers : (x : Conn) (v : Move) → Each IsFirst v.heads → picked ask_in v.heads ≡ [] → IsElse v.place → v.part.front ≡ x.part.front → Told x → IsItsOwn x v → Answers x v
else-answers x v first none m same told own =
    let unasked : Each IsUnasked v.said.notes = Each-weaker (NotedAt v.place x.c) IsUnasked (λ r. else-note v.place x.c r m) v.said.notes own.notes in
    calm-answers x v own first none (Each-weaker IsUnasked IsCalm unasked-calm v.said.notes unasked) (else-sends v.place v.said.segments m) (else-sends v.place v.said.messages m)
    (subst (λ (f : FrontPart). RowTold (fold row_done (ask_tale x.c x.seen).done v.said.notes) f.rest f.row) (sym same)
    (subst (λ (d : Answered). RowTold d x.part.front.rest x.part.front.row) (sym (all-done (ask_tale x.c x.seen).done v.said.notes unasked)) told))

-- ---- a client

module _ (k : Setting) (x : Conn) where
  client-goes : (heads : List Seen) (s : Station) (given : ClientBlock × Turn) → Each IsFirst heads → picked ask_in heads ≡ [] → Goes k x (client_does x s heads given)
  client-goes heads s given first none known told own fills = else-answers x (client_does x s heads given) first none tt refl told own

  event-goes : (e : _) (s : Station) (given : ClientBlock × Turn) → Goes k x (client_does x s (event_seen e) given)
  event-goes e s given = client-goes (event_seen e) s given (tt, tt) refl

  client-hears : (from : Place) (d : ℕ) (bytes : List ℕ) → picked ask_in (packet_seen from (Client d) bytes) ≡ []
  client-hears Front d bytes = refl
  client-hears (Node n) d bytes = refl
  client-hears (Client e) d bytes = refl

-- ---- the front end

module _ (k : Setting) (x : Conn) (env : FrontEnv) (is : IsFrontEnv k x.c env) where
  -- a message that is no Ask
  no-ask : (n epoch : ℕ) (b : Body) (bytes : List ℕ) → SpellsMessage x.c epoch b bytes → ask_from n (Ok (record { c = x.c; epoch = record { 0 = epoch }; body = b })) ≡ None → picked ask_in (packet_seen (Node n) Front bytes) ≡ []
  no-ask n epoch b bytes spells none = ap (λ r. listed (ask_from n r) ++ []) spells ∙ ap (λ o. listed o ++ []) none

  none-asked : (heads : List Seen) (g : FrontGets) → FrontComes x env heads g → fronts.IsNoAsk g → picked ask_in heads ≡ []
  none-asked heads (AskedBy n epoch ask) comes other = absurd other
  none-asked heads (EndedBy n epoch last) comes other = ap (picked ask_in) comes.told.seen ∙ no-ask n epoch (body.Ended last.reason last.snd.0 last.rcv.0 comes.count) comes.told.bytes comes.told.spells refl
  none-asked heads (ReturnedBy n epoch None) comes other = ap (picked ask_in) comes.seen ∙ no-ask n epoch body.Refused comes.bytes comes.spells refl
  none-asked heads (ReturnedBy n epoch (Some parts)) comes other = ap (picked ask_in) comes.seen ∙ no-ask n epoch (body.Give parts) comes.bytes comes.spells refl
  none-asked heads (FrontHears bytes given) comes other = ap (picked ask_in) comes.seen
  none-asked heads FrontFires comes other = ap (picked ask_in) comes.seen
  none-asked heads (FrontAdmits choice given) comes other = ap (picked ask_in) comes.seen
  none-asked heads g comes other = ap (picked ask_in) comes.seen ∙ no-ask _ _ _ comes.bytes comes.spells refl

  asked-goes : (n epoch number queue size : ℕ) (paths : List (List ℕ)) (bytes : List ℕ) → SpellsMessage x.c epoch (body.Ask number queue size paths) bytes
      → Goes k x (front_does x (packet_seen (Node n) Front bytes) (front_asked env x.part.front n epoch (ask_of x.c n number queue size paths)))
  asked-goes n epoch number queue size paths bytes spells known told own fills =
      let table : IsOfTable (body.Ask number queue size paths) = subst IsTold spells (message-told bytes) in
      asked-answers k x told known env is n epoch number queue size paths bytes spells (λ none. some-path table.1 none) own fills where
        some-path : 1 ≤ length paths → length paths ≡ 0 → ⊥
        some-path some none = omega (arith, some, none)

  others-go : (heads : List Seen) (g : FrontGets) → FrontComes x env heads g → fronts.IsNoAsk g → Goes k x (front_does x heads (front_rule env x.part.front g))
  others-go heads g comes other known told own fills =
      fronts.rule-answers k x told known heads (of-front x (Each IsFirst) (λ from bytes. (tt, tt)) tt (tt, tt) env heads g comes) (none-asked heads g comes other) env is g (admission x env heads g comes) other own

  front-goes : (heads : List Seen) (g : FrontGets) → FrontComes x env heads g → Goes k x (front_does x heads (front_rule env x.part.front g))
  front-goes heads (AskedBy n epoch ask) comes =
      subst (λ (t : Ask × List Seen). Goes k x (front_does x t.1 (front_asked env x.part.front n epoch t.0))) (λ i. (sym comes.is i, sym comes.told.seen i))
      (asked-goes n epoch comes.number comes.queue comes.size comes.paths comes.told.bytes comes.told.spells)
  front-goes heads g comes = others-go heads g comes tt

-- ---- a node

module _ (k : Setting) (x : Conn) (n : ℕ) where
  -- behind the record of a job of its own, or of none
  node-goes : (heads : List Seen) → Each IsFirst heads → picked ask_in heads ≡ [] → (rs : List Rec) (d : node.NodeDeed) → Goes k x (told_first rs (node_does x n heads d))
  node-goes heads first none rs node.Drops known told own fills = else-answers x (told_first rs (node_does x n heads node.Drops)) first none tt refl told own
  node-goes heads first none rs (node.Says ms) known told own fills = else-answers x (told_first rs (node_does x n heads (node.Says ms))) first none tt refl told own
  node-goes heads first none rs (node.Does y) known told own fills = else-answers x (told_first rs (node_does x n heads (node.Does y))) first none tt refl told own

  node-hears : (from : Place) (bytes : List ℕ) → picked ask_in (packet_seen from (Node n) bytes) ≡ []
  node-hears Front bytes = refl
  node-hears (Node i) bytes = refl
  node-hears (Client e) bytes = refl

-- ---- a packet that no rule hears

module _ (k : Setting) (x : Conn) where
  no-asking : (n : ℕ) (bytes : List ℕ) → ((m : Message) → decoded_message bytes ≡ Ok m → IsForFront (kind_of m.body) → ⊥) → ask_from n (decoded_message bytes) ≡ None
  no-asking n bytes other = go (decoded_message bytes) refl where
    body-of : (m : Message) → decoded_message bytes ≡ Ok m → (b : Body) → m.body ≡ b → ask_from n (Ok (record m { body = b })) ≡ None
    body-of m e (body.Ask number queue size paths) is = absurd (other m e (subst (λ (b : Body). IsForFront (kind_of b)) (sym is) tt))
    body-of m e _ is = refl

    go : (r : Result Message MsgFault) → decoded_message bytes ≡ r → ask_from n r ≡ None
    go (Err fault) e = refl
    go (Ok m) e = body-of m e m.body refl

  unheard-none : (from to : Place) (bytes : List ℕ) → IsUnheard k.nodes x.part.station from to bytes → ask_on from to bytes ≡ None
  unheard-none (Node n) Front bytes u = no-asking n bytes u
  unheard-none _ _ bytes u = refl

  ignores-goes : (from to : Place) (bytes : List ℕ) → IsUnheard k.nodes x.part.station from to bytes → Goes k x (stands x to (packet_seen from to bytes) nothing_said)
  ignores-goes from to bytes unheard known told own fills =
      calm-answers x (stands x to (packet_seen from to bytes) nothing_said) own (tt, tt) (ap (λ o. listed o ++ []) (unheard-none from to bytes unheard)) tt refl refl told

-- ---- every rule

module _ (k : Setting) where
  clients : ClientRules k (Goes k)
  clients = each-client k (Goes k) (record {
    opens = λ x isn iss wnd mss rule none. client-goes k x (client_begins x isn iss wnd mss).heads (record { client = (client_opens x.c isn wnd mss).0; iss = iss })
        (client_opens x.c isn wnd mss) (tt, (tt, tt)) refl;
    does = λ x s g there comes. of-client x.c (λ heads. Goes k x (client_does x s heads (client_rule x.c s.client g)))
        (λ from bytes. client-goes k x (packet_seen from (Client x.c) bytes) s (client_rule x.c s.client g) (tt, tt) (client-hears k x from x.c bytes))
        (λ e. event-goes k x e s (client_rule x.c s.client g)) g;
  })

  pub all-go : Rules k (Goes k)
  all-go = record {
    untouched = record {
      client = clients;
      front = each-front k (Goes k) (λ x env heads g is comes. front-goes k x env is heads g comes);
      node = each-node k (Goes k) (record {
        does = λ x n epoch env heads g is at comes. node-goes k x n heads (heads-of IsFirst (λ l. tt) (λ i c. tt) x n epoch heads g comes)
            (of-heads x n (λ hs. picked ask_in hs ≡ []) (node-hears k x n) refl refl epoch heads g comes) (job_notes x.c n g) (node.node_rule env (x.part.nodes n) g);
        aside = λ x n a may known told own fills. else-answers x (stands x (Node n) (aside_seen n a) (aside_said k n x.c a))
            (of-aside x n (Each IsFirst) (λ from bytes. (tt, tt)) tt a) (of-aside x n (λ hs. picked ask_in hs ≡ []) (node-hears k x n) refl a) tt refl told own;
      });
      ignores = λ x from to bytes was. ignores-goes k x from to bytes was.2;
    };
    injects = λ x s bytes there rule. client-goes k x (inject_seen x.c bytes) s (client_injects s.client bytes) (tt, (tt, tt)) refl;
  }
