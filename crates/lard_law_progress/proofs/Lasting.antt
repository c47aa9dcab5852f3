-- Every step of which a settle's rounds are made: no unit of a connection comes back, and where none goes, its spot is as it was.
use Rattle.std.proofs.Common.{◌≡◌, ℕ, List, Option, Some, None, Result, Ok, Err, refl, sym, ap, ◌∙◌, subst, arith, true}
use Rattle.lard_law_view.specs.Prelude.{Client, ClientBlock, ClientFires, ClientGets, ClientReceives, ClientRules, Conn, EndedBy, Front, FrontEnv, FrontGets, FrontHears, FrontRules, IsConnSound, IsNodeEnv, Letter, MayRestOn, Message, Move, MsgFault, Node, NodeEnv, NodeRules, Rec, ReturnedBy, Rules, Said, Seen, SegFault, Setting, SpellsMessage, Station, ToClient, ToCluster, Turn, client_does, client_gets, client_timer, decoded, decoded_message, event_seen, front_does, front_rule, grown, node_does, node_rule, nothing_said, offer_answer, packet_seen, stands}
use Rattle.lard_law_view.proofs.EachClient.{ClientComes, client_goes, each-client}
use Rattle.lard_bound.specs.Progress.{IfCame, IsWarm, IsWarmBy, IsWarmMessage, IsWarmSegment, Lasts, came_in, spot_with}
use Rattle.lard_bound.specs.Units.{Whole, left_to_client, units}
use Rattle.lard_rules.specs.Front as front
use Rattle.lard_handoff_back.specs.declared.table.Adopt.TheVariants.{New}
use Rattle.lard_handoff_back.specs.Leaving.{is_new_epoch}
use Rattle.lard_base.specs.declared.event.Event.TheVariants as event
use Rattle.lard_message.specs.declared.message.Body.TheVariants as body
use Rattle.lard_rules.specs.Node as node
use Rattle.lard_law_view.proofs.EachFront.{FrontComes, admission, each-front}
use Rattle.lard_law_view.proofs.EachNode.{NodeComes, aside_said, aside_seen, each-node, job_notes, told_first}
use Rattle.lard_law_progress.proofs.Clients.{Turned, client-less, client-steady, heard-turned, timer-turned}
use Rattle.lard_law_progress.proofs.Given.{Given, IsNewOffer, IsUnseen, Owed}
use Rattle.lard_law_progress.proofs.Less.{idles, lasts}
use Rattle.lard_law_progress.proofs.NodeMessages.{IsExpected, rule-lasts}
use Rattle.lard_law_progress.proofs.Placing.{IsAwaited, front-lasts}
use Rattle.lard_law_progress.proofs.Seating.{FrontLasts, NodeLasts}
use Rattle.lard_law_view.proofs.Deeds.{front-heads, node-heads}

-- ---- a move, by its client

-- nobody opened it: there is nothing to do
nobody : (k : Setting) (w : Whole) (x : Conn) (v : Move) → x.part.station ≡ None → v.part.station ≡ None → Lasts k w x v
unfolding units
nobody k w x v was is =
    let a : units w k.nodes x ≡ 0 = ap (left_to_client w k.nodes x.part) was in
    let b : units w k.nodes (grown x v) ≡ 0 = ap (left_to_client w k.nodes v.part) is in record {
      less = omega (arith, a, b);
      steady = λ up. ap (spot_with k.files (grown x v)) is ∙ sym (ap (spot_with k.files x) was);
    }

by-station : (k : Setting) (w : Whole) (x : Conn) (v : Move) → v.part.station ≡ x.part.station → ((st : Station) → x.part.station ≡ Some st → Lasts k w x v) → Lasts k w x v
by-station k w x v same h = go x.part.station refl where
  go : (o : Option Station) → x.part.station ≡ o → Lasts k w x v
  go None at = nobody k w x v at (same ∙ at)
  go (Some st) at = h st at

-- ---- what comes is warm

came-by : (x : Conn) {heads hs : List Seen} → heads ≡ hs → IfCame (IsWarm x) (came_in heads) → IfCame (IsWarm x) (came_in hs)
came-by x same h = subst (λ (ss : List Seen). IfCame (IsWarm x) (came_in ss)) same h

warm-word : (x : Conn) (st : Station) (bytes : List ℕ) → IsConnSound x → x.part.station ≡ Some st → IsWarm x (record { from = Client x.c; to = Front; bytes = bytes }) → IsWarmSegment st.client (decoded bytes x.c ToCluster)
warm-word x st bytes sound at h =
    let l : Letter = record { from = Client x.c; to = Front; bytes = bytes } in
    let its : IsWarmSegment st.client (decoded bytes st.client.c ToCluster) = subst (λ (o : Option Station). IsWarmBy o l) at h in
    subst (λ c. IsWarmSegment st.client (decoded bytes c ToCluster)) (sound.client st at) its

warm-forward : (x : Conn) (st : Station) (n epoch : ℕ) (segment bytes : List ℕ) → IsConnSound x → x.part.station ≡ Some st → SpellsMessage x.c epoch (body.Forward segment) bytes → IsWarm x (record { from = Front; to = Node n; bytes = bytes })
    → IsWarmSegment st.client (decoded segment x.c ToCluster)
warm-forward x st n epoch segment bytes sound at spells h =
    let l : Letter = record { from = Front; to = Node n; bytes = bytes } in
    let message : IsWarmMessage st.client (decoded_message bytes) = subst (λ (o : Option Station). IsWarmBy o l) at h in
    let its : IsWarmSegment st.client (decoded segment st.client.c ToCluster) = subst (λ (r : Result Message MsgFault). IsWarmMessage st.client r) spells message in
    subst (λ c. IsWarmSegment st.client (decoded segment c ToCluster)) (sound.client st at) its

module _ (k : Setting) (all : ℕ → Whole) where
  -- ---- a deed is a move

  front-deed : (x : Conn) (heads : List Seen) (d : front.FrontDeed)
      → ((st : Station) → x.part.station ≡ Some st → FrontLasts (all x.c) k.nodes k.files x.part st d) → Given k all (grown x (front_does x heads d))
      → Lasts k (all x.c) x (front_does x heads d)
  front-deed x heads front.Drops h g = idles k (all x.c) x (front_does x heads front.Drops) refl
  front-deed x heads (front.Says turn) h g = idles k (all x.c) x (front_does x heads (front.Says turn)) refl
  front-deed x heads (front.Does did) h g =
      let v = front_does x heads (front.Does did) in
      by-station k (all x.c) x v refl (λ st at. lasts k (all x.c) x v st st at at (h st at (g st at).seat))

  -- whatever was noted first
  node-deed : (x : Conn) (n : ℕ) (rs : List Rec) (heads : List Seen) (d : node.NodeDeed)
      → ((st : Station) → x.part.station ≡ Some st → NodeLasts (all x.c) k.nodes k.files x.part st n d)
      → Given k all (grown x (told_first rs (node_does x n heads d)))
      → Lasts k (all x.c) x (told_first rs (node_does x n heads d))
  node-deed x n rs heads node.Drops h g = idles k (all x.c) x (told_first rs (node_does x n heads node.Drops)) refl
  node-deed x n rs heads (node.Says messages) h g = idles k (all x.c) x (told_first rs (node_does x n heads (node.Says messages))) refl
  node-deed x n rs heads (node.Does given) h g =
      let v = told_first rs (node_does x n heads (node.Does given)) in
      by-station k (all x.c) x v refl (λ st at. lasts k (all x.c) x v st st at at (h st at (g st at).seat))

  -- ---- clients

  client-move : (x : Conn) (s : Station) (heads : List Seen) (given : ClientBlock × Turn) → x.part.station ≡ Some s → Turned s.client given.0 → Given k all (grown x (client_does x s heads given))
      → Lasts k (all x.c) x (client_does x s heads given)
  client-move x s heads given at turned g =
      let st : Station = record { client = given.0; iss = s.iss } in
      let known = g st refl in
      lasts k (all x.c) x (client_does x s heads given) s st at refl (record {
        less = client-less (all x.c) k.nodes k.files x.part s given.0 turned known.said known.heard;
        steady = client-steady (all x.c) k.nodes k.files x.part s given.0 turned known.said known.heard;
      })

  client-hears : (x : Conn) (s : Station) (heads : List Seen) (r : Result Said SegFault) → x.part.station ≡ Some s → Given k all (grown x (client_does x s heads (client_gets s.client r)))
      → Lasts k (all x.c) x (client_does x s heads (client_gets s.client r))
  client-hears x s heads (Err fault) at g =
      idles k (all x.c) x (client_does x s heads (client_gets s.client (Err fault))) (λ i. record { station = sym at i; front = x.part.front; nodes = x.part.nodes })
  client-hears x s heads (Ok said) at g = client-move x s heads (client_gets s.client (Ok said)) at (heard-turned s.client said) g

  -- an inner event is its timer, or a packet that comes
  client-lasts : (x : Conn) (s : Station) (g : ClientGets) → x.part.station ≡ Some s → ClientComes k x s g → Owed k all x (client_goes x s g)
  client-lasts x s ClientFires at comes m g inner came = client-move x s (event_seen (event.Timer (Client x.c) x.c)) (client_timer s.client) at (timer-turned s.client) g
  client-lasts x s (ClientReceives from bytes) at was m g inner came = client-hears x s (packet_seen from (Client x.c) bytes) (decoded bytes x.c ToClient) at g
  client-lasts x s _ at comes m g inner came = absurd inner.0

  clients : ClientRules k (Owed k all)
  clients = each-client k (Owed k all) (record { opens = λ x isn iss wnd mss rule none m g inner came. absurd inner.0; does = client-lasts })

  -- ---- the front end

  -- what comes to the front end is awaited there
  awaited : (x : Conn) (env : FrontEnv) (heads : List Seen) (g : FrontGets) → FrontComes x env heads g → MayRestOn (Given k all) x → IfCame (IsWarm x) (came_in heads)
      → (st : Station) → x.part.station ≡ Some st → IsAwaited (all x.c) k.nodes k.files x.part st g
  awaited x env heads (FrontHears bytes given) comes m came st at = subst (IsWarmSegment st.client) (sym comes.read) (warm-word x st bytes m.sound at (came-by x comes.seen came))
  awaited x env heads (EndedBy n epoch last) comes m came st at = (m.given st at).ends n epoch last.reason last.snd.0 last.rcv.0 comes.count comes.told.bytes comes.told.spells comes.told.was
  awaited x env heads (ReturnedBy n epoch given) comes m came st at = (m.given st at).returns n epoch given comes.bytes comes.spells comes.was
  awaited x env heads _ comes m came st at = tt

  fronts : FrontRules k (Owed k all)
  fronts = each-front k (Owed k all) (λ x env heads g is comes m after inner came. let d = front_rule env x.part.front g in
      front-deed x heads d
      (λ st at. let known = m.given st at in
      front-lasts (all x.c) k.nodes k.files x.part st env known.seat known.heard known.fresh g (admission x env heads g comes)
      (awaited x env heads g comes m (came-by x (front-heads x heads d) came) st at)) after)

  -- ---- nodes

  -- what comes to a node is expected there
  expected : (x : Conn) (n epoch : ℕ) (env : NodeEnv) (heads : List Seen) (g : node.NodeGets) → (is : IsNodeEnv k x.c n epoch env) → NodeComes x n epoch heads g
      → (m : MayRestOn (Given k all) x) → IfCame (IsWarm x) (came_in heads)
      → (st : Station) → (at : x.part.station ≡ Some st) → IsExpected (all x.c) k.nodes k.files x.part st n env (is.leaves ∙ sym ((m.given st at).leaves n)) g
  expected x n epoch env heads (node.Offered parts) is comes m came st at =
      let known = m.given st at in (
        subst (λ e. offer_answer e (x.part.nodes n).row ≡ New → IsNewOffer x.part st.client n e parts) (sym is.epoch_is)
            (known.offers n epoch parts comes.bytes comes.spells comes.was),
        λ leaving. subst (λ e. is_new_epoch e (x.part.nodes n).row (x.part.nodes n).beside ≡ true → IsUnseen k.nodes x.part n e) (sym is.epoch_is)
            (known.unseen n epoch parts comes.bytes comes.spells comes.was (sym is.leaves ∙ leaving)),
      )
  expected x n epoch env heads (node.Forwarded given) is comes m came st at =
      subst (IsWarmSegment st.client) (sym comes.read) (warm-forward x st n epoch comes.segment comes.came.bytes m.sound at comes.came.spells
      (came-by x comes.came.seen came))
  expected x n epoch env heads g is comes m came st at = tt

  nodes : NodeRules k (Owed k all)
  nodes = each-node k (Owed k all) (record {
    does = λ x n epoch env heads g is in_its comes m after inner came. let d = node_rule env (x.part.nodes n) g in
        node-deed x n (job_notes x.c n g) heads d
        (λ st at. let known = m.given st at in
        rule-lasts (all x.c) k.nodes k.files x.part st n env (is.leaves ∙ sym (known.leaves n)) known.seat known.heard (known.homes n env.epoch) (known.unreturned n env.epoch)
        (known.there n) g in_its.0
        (expected x n epoch env heads g is comes m (came-by x (node-heads x n heads d) came) st at)) after;
    aside = λ x n a may m after inner came. idles k (all x.c) x (stands x (Node n) (aside_seen n a) (aside_said k n x.c a)) refl;
  })

  -- ---- every rule

  pub rules-last : Rules k (Owed k all)
  rules-last = record {
    untouched = record {
      client = clients;
      front = fronts;
      node = nodes;
      ignores = λ x from to bytes h m g inner came. idles k (all x.c) x (stands x to (packet_seen from to bytes) nothing_said) refl;
    };
    injects = λ x s bytes at rule m g inner came. absurd inner.0;
  }
