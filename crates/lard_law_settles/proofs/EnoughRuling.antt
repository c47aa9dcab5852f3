-- Every rule warms, so that each connection that moves in a round of a settle does.
use Rattle.std.proofs.Common.{◌≡◌, ℕ, inl, inr, ⊎_elim, Ok, refl, sym, subst}
use Rattle.lard_law_view.specs.Prelude.{Came, Event, GoesBy, IsViewed, Machine, Move, Node, NodeRules, Rec, Row, Rules, Seen, Setting, conn, grown, machine_step, node_rule, nothing_said, packet_seen, setting_of, stands}
use Rattle.lard_law_view.proofs.EachNode.{aside_said, aside_seen, each-node, node_goes}
use Rattle.lard_law_view.proofs.Steps.{IsShown, step_comes}
use Rattle.lard_history.proofs.Each.{Each-weaker}
use Rattle.lard_journal.specs.declared.rec.Rec.TheVariants as rec
use Rattle.lard_law_progress.proofs.Given.{IsRounds, IsRoundsSeen, rounds-rule}
use Rattle.lard_law_settles.proofs.EnoughWarming.{Warms}
use Rattle.lard_law_settles.proofs.EnoughWording.{First, IsCalmConn, Second, WarmsOwed, clients-warm, fronts-warm, node-warms, silent-warms}
use Rattle.lard_law_view.proofs.Deliveries.{IsHead}
use Rattle.lard_law_view.proofs.Deeds.{node-place, node-station}

nodes-warm : (k : Setting) → NodeRules k WarmsOwed
nodes-warm k = each-node k WarmsOwed (record {
  does = λ x n epoch env heads g is in_its comes may seen. let d = node_rule env (x.part.nodes n) g in node-warms x (node_goes x n env heads g) n
      (node-place x n heads d) (node-station x n heads d);
  aside = λ x n a allowed may seen. node-warms x (stands x (Node n) (aside_seen n a) (aside_said k n x.c a)) n refl refl;
})

pub rules-warm : (k : Setting) → Rules k WarmsOwed
rules-warm k = record {
  untouched = record {
    client = clients-warm k;
    front = fronts-warm k;
    node = nodes-warm k;
    ignores = λ x from to bytes was may seen. silent-warms x (stands x to (packet_seen from to bytes) nothing_said) refl refl refl;
  };
  injects = λ x st bytes there rule may seen. absurd seen.0;
}

-- ---- a step of a round

pub rounds-seen : (e : Event) → IsRounds e → (s : Seen) → IsHead e s → IsRoundsSeen s
rounds-seen e of (Row (rec.Event i d)) h = subst IsRounds (sym h) of
rounds-seen e of (Row r) h = other r h where
  other : (q : Rec) → IsHead e (Row q) → IsRoundsSeen (Row q)
  other (rec.Event i d) k = subst IsRounds (sym k) of
  other _ k = tt
rounds-seen e of (Came l) h = tt

-- each connection stays as it is, or makes a move that warms
pub step-warms : (m n : Machine) (e : Event) → IsViewed m → ((q : ℕ) → IsCalmConn (conn m q)) → IsRounds e → machine_step m e ≡ Ok n
    → (q : ℕ) → GoesBy (λ x v. IsShown m e x v × Warms First Second x v) (conn m q) (conn n q)
step-warms m n e view calm of is q = ⊎_elim
    (λ (same : conn n q ≡ conn m q). inl same)
    (λ (g : (v : Move) × (IsShown m e (conn m q) v × WarmsOwed (conn m q) v) × (conn n q ≡ grown (conn m q) v)).
    let shown : IsShown m e (conn m q) g.0 = g.1.0 in
    inr (g.0, (shown, g.1.1 (record { number = shown.number; sound = view.sound q; given = calm q }) (Each-weaker (IsHead e) IsRoundsSeen (rounds-seen e of) g.0.heads shown.event)), g.2))
    (step_comes m n e WarmsOwed view (rules-warm (setting_of m)) (rounds-rule e of) is q)
