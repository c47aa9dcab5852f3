-- A packet comes to a place, which acts on the connection that it is of, or does nothing.
use Rattle.std.proofs.Common.{◌≡◌, ℕ, true, false, List, [], ◌∷◌, map, Option, Some, None, Result, Ok, Err, refl, sym, ◌∙◌, subst, arith, ap}
use Rattle.std.proofs.lemmas.Bool.{cond_both}
use Rattle.std.specs.FinMap as table
use Rattle.std.specs.List.{list_any}
use Rattle.lard_base.specs.declared.event.Event.TheVariants as event
use Rattle.lard_law_view.specs.Prelude.{Ask, Body, Client, Conn, EndpointParts, Event, Final, Front, FrontEnv, FrontPart, IsConnNumber, IsForFront, IsForNode, IsForOtherNode, IsFrontEnv, IsNodeEnv, IsUnheard, IsViewed, Kind, Machine, Message, Move, MsgFault, Node, NodeDeed, NodeEnv, NodePart, NodeState, NodeTurn, Out, Packet, Place, ReturnedBy, Rules, Seen, SpellsMessage, ToCluster, Was, aside, ask_of, back_body, conn, conn_of, content_sent, decoded, decoded_message, fetched, fetched_file, file_at, front_asked, front_ended, front_env, front_gave, front_part, front_returned, front_setting, front_taken, front_told, has_path, is_for, kind_of, leaves_at, message_comes, node_acknowledged, node_at, node_content, node_deed, node_does, node_env, node_forwarded, node_gave, node_gets, node_hears, node_offered, node_part, node_saying, node_setting, node_tagged, nothing_done, packet_at, packet_seen, part_of, sent_of, setting_of}
use Rattle.lard_law_view.proofs.Ended.{ended-acts, ended-leaves}
use Rattle.lard_law_view.proofs.FrontActs.{front-acts}
use Rattle.lard_law_view.proofs.Fronts as fronts
use Rattle.lard_law_view.proofs.Fronts.{IsFrontDeed}
use Rattle.lard_law_view.proofs.Heads.{Begins, comes, was}
use Rattle.lard_law_view.proofs.Naming.{Names, decoded-names}
use Rattle.lard_law_view.proofs.NodeActs.{aside-acts, deed-acts}
use Rattle.lard_law_view.proofs.Nodes as nodes
use Rattle.lard_law_view.proofs.Nodes.{IsNodeDeed}
use Rattle.lard_law_view.proofs.Nothing.{node-nothing, told-nothing}
use Rattle.lard_law_view.proofs.Parts.{node-kept}
use Rattle.lard_law_view.proofs.Returning.{returned-acts}
use Rattle.lard_rules.specs.FrontPlace.{comes_back}
use Rattle.lard_law_view.proofs.Saying.{AreMessages}
use Rattle.lard_law_view.proofs.Shapes.{IsUnheardAt, Shapes}
use Rattle.lard_law_view.proofs.Turned.{sent-messages, spelled}
use Rattle.lard_journal.specs.declared.rec.Rec.TheVariants as rec
use Rattle.lard_message.specs.declared.message.Body.TheVariants as body

-- ---- a message comes to the front end, or to a node

module _ (m : Machine) (view : IsViewed m) (P : Conn → Move → Type 0) (R : Rules (setting_of m) P) (Q : Event → Machine → Type 0) (shapes : Shapes m P Q)
    (k : ℕ) (l : Packet) (at : packet_at m.net k ≡ Some l) (there : l.lost ≡ false) where
  abbrev e : Event
  e = event.Deliver k

  -- nothing is done
  front-silent : l.to ≡ Front → IsUnheardAt m l → Q e (front_gave m e (rec.Got k ∷ []) (m.front, nothing_done))
  front-silent is-to unheard = subst (Q e) (sym (told-nothing m e (rec.Got k ∷ []) Front)) (shapes.nobody k l at (there, (λ c to. let no : Front ≡ Client c = sym is-to ∙ to in absurd cc), unheard))

  ok-same : (x y : Message) → (let given : Result Message MsgFault = Ok x in given ≡ Ok y) → x ≡ y
  ok-same x y f = cc

  -- a message of a node that the front end does not hear, and one of the front end that no node hears
  node-unheard : (from : ℕ) → l.from ≡ Node from → l.to ≡ Front → ((msg : Message) → decoded_message l.bytes ≡ Ok msg → IsForFront (kind_of msg.body) → ⊥) → IsUnheardAt m l
  node-unheard from is-from is-to other d named =
      subst (λ (f : Place). IsUnheard m.config.nodes (table.get m.clients d) f l.to l.bytes) (sym is-from)
      (subst (λ (t : Place). IsUnheard m.config.nodes (table.get m.clients d) (Node from) t l.bytes) (sym is-to) other)

  front-unheard : (n : ℕ) → l.from ≡ Front → l.to ≡ Node n → ((msg : Message) → decoded_message l.bytes ≡ Ok msg → IsForNode (kind_of msg.body) → ⊥) → IsUnheardAt m l
  front-unheard n is-from is-to other d named =
      subst (λ (f : Place). IsUnheard m.config.nodes (table.get m.clients d) f l.to l.bytes) (sym is-from)
      (subst (λ (t : Place). IsUnheard m.config.nodes (table.get m.clients d) Front t l.bytes) (sym is-to) (λ msg is for. absurd (other msg is for)))

  other-unheard : (i n : ℕ) → l.from ≡ Node i → l.to ≡ Node n → ((msg : Message) → decoded_message l.bytes ≡ Ok msg → IsForOtherNode (kind_of msg.body) → ⊥) → IsUnheardAt m l
  other-unheard i n is-from is-to other d named =
      subst (λ (f : Place). IsUnheard m.config.nodes (table.get m.clients d) f l.to l.bytes) (sym is-from)
      (subst (λ (t : Place). IsUnheard m.config.nodes (table.get m.clients d) (Node i) t l.bytes) (sym is-to) (λ msg is for. absurd (other msg is for)))

  -- a client sends none to a node
  client-unheard : (c n : ℕ) → l.from ≡ Client c → l.to ≡ Node n → IsUnheardAt m l
  client-unheard c n is-from is-to d named =
      subst (λ (f : Place). IsUnheard m.config.nodes (table.get m.clients d) f l.to l.bytes) (sym is-from)
      (subst (λ (t : Place). IsUnheard m.config.nodes (table.get m.clients d) (Client c) t l.bytes) (sym is-to) tt)

  -- one message is read alone
  of-kind : (P : Kind → Type 0) (x : Message) → decoded_message l.bytes ≡ Ok x → (P (kind_of x.body) → ⊥) → (msg : Message) → decoded_message l.bytes ≡ Ok msg → P (kind_of msg.body) → ⊥
  of-kind P x spells other msg is for = other (subst (λ (y : Message). P (kind_of y.body)) (sym (ok-same x msg (sym spells ∙ is))) for)

  no-message : (P : Kind → Type 0) (fault : MsgFault) → decoded_message l.bytes ≡ Err fault → (msg : Message) → decoded_message l.bytes ≡ Ok msg → P (kind_of msg.body) → ⊥
  no-message P fault spells msg is for = let no : (let given : Result Message MsgFault = Err fault in given ≡ Ok msg) = sym spells ∙ is in absurd cc

  module _ (from : ℕ) (is-from : l.from ≡ Node from) (is-to : l.to ≡ Front) (c epoch : ℕ) (number : IsConnNumber c) (of : conn_of (Node from) Front l.bytes ≡ Some c) where
    abbrev heads : List Seen
    heads = packet_seen (Node from) Front l.bytes

    abbrev env : FrontEnv
    env = front_env (front_setting m) m.front c 0

    abbrev p : FrontPart
    p = front_part m.front c

    begins : Begins m e Front c heads
    begins = comes m k c l at (Node from) Front is-from is-to of there

    sent : Was (conn m c) (Node from) Front l.bytes
    sent = was m k c l at (Node from) Front is-from is-to of

    is-env : IsFrontEnv (setting_of m) c env
    is-env = record { place = refl; number = refl; files = refl; stream = refl }

    kept : AreMessages c Front (map sent_of p.kept)
    unfolding conn part_of
    kept = sent-messages (conn m c) Front p.kept (view.sound c).between (view.sound c).front

    -- it comes back
    module _ (given : Option EndpointParts) (spells : SpellsMessage c epoch (back_body given) l.bytes) where
      good : (its : FrontEnv) → IsFrontEnv (setting_of m) c its → IsFrontDeed c p (front_returned its p from epoch given)
      good its is = subst (λ (n : ℕ). IsFrontDeed n p (front_returned its p from epoch given)) is.number
          (fronts.rule-deed its is.place (subst IsConnNumber (sym is.number) number) p (subst (λ (n : ℕ). AreMessages n Front (map sent_of p.kept)) (sym is.number) kept) (ReturnedBy from epoch given) tt)

      returns-acts : Q e (front_gave m e (rec.Got k ∷ []) (comes_back (front_setting m) m.front from c epoch given))
      unfolding conn part_of
      returns-acts = returned-acts m view P R Q shapes e c heads number begins refl from epoch given
          (record { epoch = epoch; given = given; k = k; packet = l; delivers = refl; at = at; sender = is-from; goal = is-to; spells = spells })
          good (λ its is. R.untouched.front.returned (conn m c) its from epoch given l.bytes is spells sent)

    told-acts : (b : Body) → decoded_message l.bytes ≡ Ok (record { c = c; epoch = record { 0 = epoch }; body = b })
        → Q e (front_gave m e (rec.Got k ∷ []) (front_told (front_setting m) m.front from c epoch b))
    unfolding conn part_of
    told-acts body.Taken spells =
        front-acts m P Q shapes e c heads number begins refl (front_taken p epoch) (fronts.taken-deed env refl number p kept epoch) (R.untouched.front.taken (conn m c) env from epoch l.bytes is-env spells sent)
    told-acts (body.Ask n queue size paths) spells =
        let ask : Ask = ask_of c from n queue size paths in
        front-acts m P Q shapes e c heads number begins refl (front_asked env p from epoch ask) (fronts.asked-deed env refl number p kept from epoch ask)
        (R.untouched.front.asked (conn m c) env from epoch n queue size paths l.bytes is-env spells sent)
    told-acts (body.Ended reason snd rcv count) spells =
        let last : Final = record { reason = reason; snd = record { 0 = snd }; rcv = record { 0 = rcv } } in
        ended-acts m view P R Q shapes e c heads number begins refl (front_ended env p from epoch last) (ended-leaves env p from epoch last) (fronts.ended-deed env refl number p kept from epoch last)
        (R.untouched.front.ended (conn m c) env from epoch reason snd rcv count l.bytes is-env spells sent)
    told-acts body.Refused spells = returns-acts None spells
    told-acts (body.Give parts) spells = returns-acts (Some parts) spells
    told-acts _ spells = front-silent is-to (node-unheard from is-from is-to (of-kind IsForFront _ spells (λ for. for)))

  -- a message of node from comes to the front end
  pub front-message : (from : ℕ) → l.from ≡ Node from → l.to ≡ Front → (r : Result Message MsgFault) → decoded_message l.bytes ≡ r
      → Q e (front_gave m e (rec.Got k ∷ []) (message_comes (front_setting m) m.front from r))
  front-message from is-from is-to (Err fault) is = front-silent is-to (node-unheard from is-from is-to (no-message IsForFront fault is))
  front-message from is-from is-to (Ok msg) is =
      let of : Names l.bytes msg.c = decoded-names msg l.bytes is in
      told-acts from is-from is-to msg.c msg.epoch.0 of.number of.named msg.body is

  -- ---- to a node

  module _ (n : ℕ) (s : NodeState) (here : node_at m.nodes n ≡ Some s) (is-to : l.to ≡ Node n) where
    node-silent : IsUnheardAt m l → Q e (node_gave m e (rec.Got k ∷ []) n (s, nothing_done))
    node-silent unheard = subst (Q e) (sym (node-nothing m e (rec.Got k ∷ []) n s here)) (shapes.nobody k l at (there, (λ c to. let no : Node n ≡ Client c = sym is-to ∙ to in absurd cc), unheard))

    module _ (from : Place) (is-from : l.from ≡ from) (c epoch : ℕ) (number : IsConnNumber c) (of : conn_of from (Node n) l.bytes ≡ Some c) where
      abbrev its_heads : List Seen
      its_heads = packet_seen from (Node n) l.bytes

      abbrev its_env : NodeEnv
      its_env = node_env (node_setting m n) s c epoch

      its-begins : Begins m e (Node n) c its_heads
      its-begins = comes m k c l at from (Node n) is-from is-to of there

      its-sent : Was (conn m c) from (Node n) l.bytes
      its-sent = was m k c l at from (Node n) is-from is-to of

      is-node-env : IsNodeEnv (setting_of m) c n epoch its_env
      is-node-env = record { place = refl; number = refl; files = refl; stream = refl; node = refl; epoch_is = refl; leaves = ap leaves_at (sym here); remains = view.remain n s here }

      -- by this rule
      hears : (rule : NodePart → NodeDeed) → IsNodeDeed n c (node_part s c) (rule (node_part s c)) → P (conn m c) (node_does (conn m c) n its_heads (rule ((conn m c).part.nodes n)))
          → Q e (node_gave m e (rec.Got k ∷ []) n (node_deed (node_setting m n) s c (rule (node_part s c))))
      unfolding conn
      hears rule good does = deed-acts m P Q shapes e c its_heads number n its-begins refl s here [] tt (λ j. refl) (λ rs. refl) s.cache s.disk (view.jobs n s here) (node_setting m n) (rule (node_part s c)) refl good
          (subst (λ (p : NodePart). P (conn m c) (node_does (conn m c) n its_heads (rule p))) (node-kept m n s c here) does)

    module _ (c epoch : ℕ) (number : IsConnNumber c) where
      -- from the front end
      front-hears : (is-from : l.from ≡ Front) (of : conn_of Front (Node n) l.bytes ≡ Some c) (b : Body) → decoded_message l.bytes ≡ Ok (record { c = c; epoch = record { 0 = epoch }; body = b })
          → Q e (node_gave m e (rec.Got k ∷ []) n (node_hears (node_setting m n) s Front c epoch b))
      unfolding conn
      front-hears is-from of (body.Offer parts) spells =
          let env : NodeEnv = its_env Front is-from c epoch number of in
          hears Front is-from c epoch number of (λ p. node_offered env p parts) (nodes.offered-deed env refl number (node_part s c) parts)
          (R.untouched.node.offered (conn m c) n epoch env parts l.bytes (is-node-env Front is-from c epoch number of) spells (its-sent Front is-from c epoch number of))
      front-hears is-from of (body.Forward bytes) spells =
          let env : NodeEnv = its_env Front is-from c epoch number of in
          hears Front is-from c epoch number of (λ p. node_forwarded env p (decoded bytes c ToCluster)) (nodes.forwarded-deed env refl number (node_part s c) (decoded bytes c ToCluster))
          (R.untouched.node.forwarded (conn m c) n epoch env bytes l.bytes (is-node-env Front is-from c epoch number of) spells (its-sent Front is-from c epoch number of))
      front-hears is-from of (body.Tag x ns) spells =
          let env : NodeEnv = its_env Front is-from c epoch number of in
          hears Front is-from c epoch number of (λ p. node_tagged env p x ns) (nodes.tagged-deed env refl number (node_part s c) x ns)
          (R.untouched.node.tagged (conn m c) n epoch x ns env l.bytes (is-node-env Front is-from c epoch number of) spells (its-sent Front is-from c epoch number of))
      front-hears is-from of body.EndedAck spells =
          let env : NodeEnv = its_env Front is-from c epoch number of in
          hears Front is-from c epoch number of (λ p. node_acknowledged env false p) (nodes.acknowledged-deed env refl number (node_part s c) false)
          (R.untouched.node.acknowledged (conn m c) n epoch false env l.bytes (is-node-env Front is-from c epoch number of) spells (its-sent Front is-from c epoch number of))
      front-hears is-from of body.Given spells =
          let env : NodeEnv = its_env Front is-from c epoch number of in
          hears Front is-from c epoch number of (λ p. node_acknowledged env true p) (nodes.acknowledged-deed env refl number (node_part s c) true)
          (R.untouched.node.acknowledged (conn m c) n epoch true env l.bytes (is-node-env Front is-from c epoch number of) spells (its-sent Front is-from c epoch number of))
      front-hears is-from of _ spells = node-silent (front-unheard n is-from is-to (of-kind IsForNode _ spells (λ for. for)))

      module _ (from : ℕ) (is-from : l.from ≡ Node from) (of : conn_of (Node from) (Node n) l.bytes ≡ Some c) where
        -- a Fetch of a file
        file-fetched : (r : ℕ) (path file : List ℕ) → file_at m.files path ≡ Some file → decoded_message l.bytes ≡ Ok (record { c = c; epoch = record { 0 = epoch }; body = body.Fetch r path })
            → Q e (node_gave m e (rec.Got k ∷ []) n (aside s (fetched_file (node_setting m n) s from c epoch r path)))
        unfolding conn
        file-fetched r path file is spells =
            let sent = its-sent (Node from) is-from c epoch number of in
            let cached : NodeTurn = record (node_saying (content_sent (node_setting m n) from c epoch r path ∷ [])) { notes = rec.Hit n path ∷ [] } in
            let queued : NodeTurn = record (node_saying []) { notes = rec.Queued n from c r path ∷ []; jobs = record { origin = from; c = c; epoch = record { 0 = epoch }; r = r; path = path } ∷ [] } in
            let acts = aside-acts m P Q shapes e c (its_heads (Node from) is-from c epoch number of) number n (its-begins (Node from) is-from c epoch number of) refl s here [] tt (λ j. refl) (λ rs. refl) s.cache s.disk (view.jobs n s here) in
            cond_both (has_path s.cache.entries path) cached queued (λ (u : NodeTurn). Q e (node_gave m e (rec.Got k ∷ []) n (aside s u)))
            (λ t. acts cached (record { notes = (refl, tt); segments = tt; gave = tt; messages = ((tt, spelled c epoch (body.Content r _) number), tt); counted = λ n. omega arith }) tt
            (R.untouched.node.answers (conn m c) n from epoch r path file l.bytes is spells sent))
            (λ t. acts queued (record { notes = ((refl, refl), tt); segments = tt; gave = tt; messages = tt; counted = λ n. omega arith }) (number, tt)
            (R.untouched.node.queues (conn m c) n from epoch r path file l.bytes is spells sent))

        path-fetched : (r : ℕ) (path : List ℕ) (o : Option (List ℕ)) → file_at m.files path ≡ o → decoded_message l.bytes ≡ Ok (record { c = c; epoch = record { 0 = epoch }; body = body.Fetch r path })
            → Q e (node_gave m e (rec.Got k ∷ []) n (fetched (node_setting m n) s from c epoch r path o))
        path-fetched r path None is spells = node-silent (other-unheard from n is-from is-to (of-kind IsForOtherNode _ spells (λ for. for)))
        path-fetched r path (Some file) is spells =
            cond_both (list_any (is_for c epoch r) s.disk) (s, nothing_done) (aside s (fetched_file (node_setting m n) s from c epoch r path)) (λ (x : NodeState × Out). Q e (node_gave m e (rec.Got k ∷ []) n x))
            (λ t. node-silent (other-unheard from n is-from is-to (of-kind IsForOtherNode _ spells (λ for. for)))) (λ t. file-fetched r path file is spells)

        -- from another node
        other-hears : (b : Body) → decoded_message l.bytes ≡ Ok (record { c = c; epoch = record { 0 = epoch }; body = b })
            → Q e (node_gave m e (rec.Got k ∷ []) n (node_hears (node_setting m n) s (Node from) c epoch b))
        unfolding conn
        other-hears (body.Fetch r path) spells = path-fetched r path (file_at m.files path) refl spells
        other-hears (body.Content r bytes) spells =
            let env : NodeEnv = its_env (Node from) is-from c epoch number of in
            hears (Node from) is-from c epoch number of (λ p. node_content env p from r) (nodes.content-deed env refl number (node_part s c) from r)
            (R.untouched.node.content (conn m c) n from epoch r env bytes l.bytes (is-node-env (Node from) is-from c epoch number of) spells (its-sent (Node from) is-from c epoch number of))
        other-hears _ spells = node-silent (other-unheard from n is-from is-to (of-kind IsForOtherNode _ spells (λ for. for)))

      -- from a client, which sends none
      client-hears : (d : ℕ) → l.from ≡ Client d → (b : Body) → Q e (node_gave m e (rec.Got k ∷ []) n (node_hears (node_setting m n) s (Client d) c epoch b))
      client-hears d is-from _ = node-silent (client-unheard d n is-from is-to)

    message-from : (from : Place) → l.from ≡ from → (msg : Message) → decoded_message l.bytes ≡ Ok msg
        → Q e (node_gave m e (rec.Got k ∷ []) n (node_hears (node_setting m n) s from msg.c msg.epoch.0 msg.body))
    message-from Front is-from msg is = let of : Names l.bytes msg.c = decoded-names msg l.bytes is in front-hears msg.c msg.epoch.0 of.number is-from of.named msg.body is
    message-from (Node from) is-from msg is = let of : Names l.bytes msg.c = decoded-names msg l.bytes is in other-hears msg.c msg.epoch.0 of.number from is-from of.named msg.body is
    message-from (Client d) is-from msg is = let of : Names l.bytes msg.c = decoded-names msg l.bytes is in client-hears msg.c msg.epoch.0 of.number d is-from msg.body

    -- a message comes to node n
    pub node-message : (r : Result Message MsgFault) → decoded_message l.bytes ≡ r → Q e (node_gave m e (rec.Got k ∷ []) n (node_gets (node_setting m n) s l.from r))
    node-message (Err fault) is = node-silent (none-said l.from refl) where
      none-said : (from : Place) → l.from ≡ from → IsUnheardAt m l
      none-said Front is-from = front-unheard n is-from is-to (no-message IsForNode fault is)
      none-said (Node i) is-from = other-unheard i n is-from is-to (no-message IsForOtherNode fault is)
      none-said (Client c) is-from = client-unheard c n is-from is-to
    node-message (Ok msg) is = message-from l.from refl msg is
