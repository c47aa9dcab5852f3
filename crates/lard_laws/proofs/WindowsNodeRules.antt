-- The rules of the nodes keep how far windows reach.
use Rattle.std.proofs.Common.{◌≡◌, ◌≤◌, ◌^◌, ℕ, List, [], Some, refl, sym, ap, ◌∙◌, subst, arith}
use Rattle.lard_law_view.specs.Prelude.{Adopt, Conn, ControlBlock, EndpointParts, Forwarded, Front, IsConnNumber, IsNodeEnv, Move, Node, NodeEnv, NodeGets, NodeRules, Offered, Place, Rec, Said, Seen, Setting, SpellsMessage, Station, TurnSaid as SaidIn, Was, adopted, letters_of, node_does, offer_answer, offer_decision, offered_by, stands}
use Rattle.lard_law_connections.specs.BytesAgreement.{IsTruthful}
use Rattle.lard_law_connections.proofs.PlacesTurns.{IsPlaced}
use Rattle.lard_law_connections.specs.SilencePlaces.{NodeHas}
use Rattle.lard_law_connections.proofs.SilenceEndpoints.{Anything}
use Rattle.lard_law_connections.proofs.SilenceNodes as nodes
use Rattle.lard_law_connections.proofs.SilenceTurns.{IsKept}
use Rattle.lard_law_view.proofs.EachNode.{NodeComes, aside_said, aside_seen, each-node, job_notes, node_goes, told_first}
use Rattle.lard_laws.proofs.NodeDeeds.{aside-letters}
use Rattle.lard_laws.specs.Windows.{AnyBlock, EndSent, LetterReaches, StationReaches, SymbolsWereSent}
use Rattle.lard_laws.proofs.WindowsEndpoints.{endpoint-law}
use Rattle.lard_laws.proofs.WindowsMoves.{GoesOn, Known, Says, There, idle-moves, known, node-moves}
use Rattle.lard_laws.proofs.WindowsOffers.{Adopts, adopts}
use Rattle.lard_laws.proofs.WindowsPlaces.{here-alone, node-at, node-sent, node_sent}
use Rattle.lard_handoff_back.specs.declared.table.Adopt.TheVariants.{Again, New, Refuse, Stale}
use Rattle.lard_history.proofs.Each.{Each}
use Rattle.lard_message.specs.declared.message.Body.TheVariants as body
use Rattle.lard_rules.proofs.NodeCases.{IsOfItsEpoch, decision-new}
use Rattle.lard_rules.specs.Node as node
use Rattle.lard_laws.proofs.WindowsOpen as known
use Rattle.lard_laws.proofs.WindowsOpen.{by-station}
use Rattle.lard_law_view.proofs.Deeds.{node-station}

module _ (k : Setting) (small : k.stream ≤ 2 ^ 30) where
  abbrev Keeps : Conn → Move → Type 0
  Keeps x v = known.Keeps k small x v

  abbrev Helps : Conn → Move → Type 0
  Helps x v = known.Helps k small x v

  -- ---- the nodes

  module _ (x : Conn) (s : Station) (there : x.part.station ≡ Some s) (truth : IsTruthful k.files x) (placed : IsPlaced x) (h : StationReaches x s) (n : ℕ) where
    -- where so many were sent
    module _ (u : ℕ) where
      abbrev N : ControlBlock → Type 0
      N b = GoesOn x s h u (known.isn_small k small x s there truth) (There x s h n u (known.isn_small k small x s there truth)) b

      abbrev M : ControlBlock → Said → Type 0
      M b t = Says x s h u (known.isn_small k small x s there truth) (There x s h n u (known.isn_small k small x s there truth)) b t

      node-kept : (epoch : ℕ) (env : NodeEnv) → IsNodeEnv k x.c n epoch env → IsKept env.serve N N Anything M
      node-kept epoch env is = endpoint-law s.client.send.iss s.iss u (known.isn_small k small x s there truth) (Known x s h u (known.isn_small k small x s there truth) (There x s h n u (known.isn_small k small x s there truth)))
          (There x s h n u (known.isn_small k small x s there truth)) (known x s h u (known.isn_small k small x s there truth) (There x s h n u (known.isn_small k small x s there truth))) env.serve (subst (λ (m : ℕ). m ≤ 2 ^ 30) (sym is.stream) small)

      node-own : (epoch : ℕ) (env : NodeEnv) → IsNodeEnv k x.c n epoch env → (d : node.NodeDeed) → nodes.DeedHas N AnyBlock M env.serve.c d → nodes.DeedHas N AnyBlock M x.c d
      node-own epoch env is d f = subst (λ (c : ℕ). nodes.DeedHas N AnyBlock M c d) is.number f

    abbrev at : ℕ
    at = node_sent (x.part.nodes n).row

    node-have : NodeHas (N at) AnyBlock (x.part.nodes n)
    node-have = node-at (EndSent x.c s.client s.iss x.letters) (N at) AnyBlock (x.part.nodes n)
        (λ row b found is e.
        let same : at ≡ b.send.nxt = node-sent (x.part.nodes n).row row b found is in
        (e.0, omega (arith, same), (here-alone x placed n row b found is, subst (SymbolsWereSent x.c s.client s.iss x.letters) (sym same) e.1)))
        (h.nodes n)

    -- what is adopted from an Offer
    node-adopts : IsConnNumber x.c → (epoch : ℕ) (parts : EndpointParts) (bytes : List ℕ) → SpellsMessage x.c epoch (body.Offer parts) bytes → Was x Front (Node n) bytes → offer_answer epoch (x.part.nodes n).row ≡ New → N parts.una (adopted parts)
    node-adopts number epoch parts bytes spells was new =
        let a : Adopts k.files x number placed s truth.talk truth.pend (known.whole k small x s there truth) h n epoch parts bytes spells was new = adopts k.files x number placed s truth.talk truth.pend (known.whole k small x s there truth) h n epoch parts bytes spells was new in
        (a.goes.end, omega arith, (a.alone, a.goes.sent))

    -- An Offer: where it is taken so many were sent as its parts say, and where it is refused as many as before.
    offered-have : IsConnNumber x.c → (epoch : ℕ) (env : NodeEnv) → IsNodeEnv k x.c n epoch env → (parts : EndpointParts) (bytes : List ℕ) → SpellsMessage x.c epoch (body.Offer parts) bytes → Was x Front (Node n) bytes
        → (a : Adopt) → offer_decision env.leaving env.epoch (x.part.nodes n).row (x.part.nodes n).beside ≡ a → (u : ℕ) × nodes.DeedHas (N u) AnyBlock (M u) env.serve.c (offered_by env parts (x.part.nodes n) a)
    offered-have number epoch env is parts bytes spells was New takes =
        let new = (decision-new env.leaving env.epoch (x.part.nodes n).row (x.part.nodes n).beside takes).0 in
        let u : ℕ = parts.una in (
          u,
          nodes.offered-has env (N u) (N u) AnyBlock Anything (M u) (node-kept u epoch env is) (x.part.nodes n) parts New
              (λ e. node-adopts number epoch parts bytes spells was (ap (λ e. offer_answer e (x.part.nodes n).row) (sym is.epoch_is) ∙ new)) (λ e. absurd (let no : New ≡ Refuse = e in cc)),
        )
    offered-have number epoch env is parts bytes spells was Again takes = (0, tt)
    offered-have number epoch env is parts bytes spells was Stale takes = (0, tt)
    offered-have number epoch env is parts bytes spells was Refuse takes = (
      at,
      nodes.offered-has env (N at) (N at) AnyBlock Anything (M at) (node-kept at epoch env is) (x.part.nodes n) parts Refuse (λ e. absurd (let no : Refuse ≡ New = e in cc)) (λ e. node-have),
    )

  -- by what it does with its endpoint, where so many were sent; what was noted before it counts not
  node-rule : (x : Conn) (n epoch : ℕ) (env : NodeEnv) (heads : List Seen) (d : node.NodeDeed) (rs : List Rec) → IsNodeEnv k x.c n epoch env
      → (IsConnNumber x.c → (s : Station) (there : x.part.station ≡ Some s) (truth : IsTruthful k.files x) (placed : IsPlaced x) (h : StationReaches x s)
      → (u : ℕ) × nodes.DeedHas (N x s there truth placed h n u) AnyBlock (M x s there truth placed h n u) env.serve.c d)
      → Keeps x (told_first rs (node_does x n heads d))
  node-rule x n epoch env heads d rs is f help h = by-station x (told_first rs (node_does x n heads d)) (node-station x n heads d)
      (λ s there g.
      let t = f help.number s there help.truth help.placed g in
      let z = node-moves x s g n t.0 (known.isn_small k small x s there help.truth) heads d
      (node-own x s there help.truth help.placed g n t.0 epoch env is d t.1) help.own.messages in
      record { client = z.client; most = z.most; letters = z.letters; begins = z.begins; front = z.front; nodes = z.nodes }) h

  by-rule : (x : Conn) (n epoch : ℕ) (env : NodeEnv) (heads : List Seen) (g : NodeGets) → IsNodeEnv k x.c n epoch env → IsOfItsEpoch env (x.part.nodes n) g
      → NodeComes x n epoch heads g
      → Keeps x (node_goes x n env heads g)
  by-rule x n epoch env heads (Offered parts) is its comes =
      node-rule x n epoch env heads (node.node_offered env (x.part.nodes n) parts) [] is (λ number s there truth placed h.
      offered-have x s there truth placed h n number epoch env is parts comes.bytes comes.spells comes.was (offer_decision env.leaving env.epoch (x.part.nodes n).row (x.part.nodes n).beside) refl)
  by-rule x n epoch env heads (Forwarded given) is its comes =
      node-rule x n epoch env heads (node.node_forwarded env (x.part.nodes n) given) [] is (λ number s there truth placed h.
      let u : ℕ = at x s there truth placed h n in
      let P : ControlBlock → Type 0 = N x s there truth placed h n u in (
        u,
        nodes.rule-has env P P AnyBlock Anything (M x s there truth placed h n u) (node-kept x s there truth placed h n u epoch env is) (x.part.nodes n) (Forwarded given) its
            (node-have x s there truth placed h n, λ t e. tt),
      ))
  by-rule x n epoch env heads g is its comes =
      node-rule x n epoch env heads (node.node_rule env (x.part.nodes n) g) (job_notes x.c n g) is (λ number s there truth placed h.
      let u : ℕ = at x s there truth placed h n in
      let P : ControlBlock → Type 0 = N x s there truth placed h n u in (
        u,
        nodes.rule-has env P P AnyBlock Anything (M x s there truth placed h n u) (node-kept x s there truth placed h n u epoch env is) (x.part.nodes n) g its
            (node-have x s there truth placed h n),
      ))

  -- nothing changes but what is said between machines
  pub stands-rule : (x : Conn) (place : Place) (heads : List Seen) (said : SaidIn) → ((c isn iss u : ℕ) → Each (LetterReaches c isn iss u) (letters_of (stands x place heads said))) → Keeps x (stands x place heads said)
  stands-rule x place heads said more help h = by-station x (stands x place heads said) refl (λ s there r. idle-moves x s r place heads said (more x.c s.client.send.iss s.iss)) h

  pub node-rules : NodeRules k Keeps
  node-rules = each-node k Keeps (record {
    does = λ x n epoch env heads g is at comes. by-rule x n epoch env heads g is at.0 comes;
    aside = λ x n a may. stands-rule x (Node n) (aside_seen n a) (aside_said k n x.c a)
        (λ c isn iss u. aside-letters (LetterReaches c isn iss u) (λ n to bytes. tt) k x n a);
  })
