-- Each rule keeps what holds of its connection: what was acknowledged was taken, in every run.
use Rattle.std.proofs.Common.{◌≡◌, ◌≤◌, ◌^◌, ℕ, false, List, Some, refl, sym, ap, ◌∙◌, subst}
use Rattle.std.proofs.Math.Bool.{or-false}
use Rattle.lard_base.specs.declared.event.Event.TheVariants as event
use Rattle.lard_base.proofs.Usable.{usable}
use Rattle.lard_law_view.specs.Prelude.{Conn, Front, FrontRules, IsUntouchedLaw, MayRestOn, Move, Node, NodeRules, Place, Seen, Setting, Station, Stream, TurnSaid as SaidIn, Untouched, UntouchedRules, event_seen, front_does, grown, letters_of, nothing_said, packet_seen, setting, stands, tale_at, with_leaving}
use Rattle.lard_laws.specs.Acks.{AcksWhatWasTaken, ActsWithin, Bounds, LetterActs, OpenActs, bounds_of, story_at}
use Rattle.lard_laws.specs.AcksLaws.{ConnectionsAckWhatWasTaken}
use Rattle.lard_laws.proofs.AcksClients.{Keeps, clients}
use Rattle.lard_laws.proofs.AcksFronts as fronts_of
use Rattle.lard_laws.proofs.AcksNodes.{rule-act}
use Rattle.lard_laws.proofs.NodeDeeds.{aside-letters}
use Rattle.lard_law_view.proofs.NodeHeads.{of-aside, of-heads}
use Rattle.lard_laws.proofs.AcksTurns.{PlaceActs, idle-acts, place-keeps}
use Rattle.lard_law_connections.specs.BytesAgreement.{IsOpen, IsTruthful}
use Rattle.lard_law_connections.proofs.BytesClientMoves.{open-at}
use Rattle.lard_law_connections.proofs.BytesRuns.{states-truthful}
use Rattle.lard_law_connections.proofs.LimitsMoves.{Helps}
use Rattle.lard_law_connections.proofs.PlacesLaw.{owing}
use Rattle.lard_law_connections.proofs.PlacesRuns.{each-placed}
use Rattle.lard_law_connections.proofs.PlacesTurns.{IsPlaced, Owes}
use Rattle.lard_law_view.proofs.Carried.{carried}
use Rattle.lard_law_view.proofs.EachFront.{each-front, of-front}
use Rattle.lard_law_view.proofs.EachNode.{aside_said, aside_seen, each-node, node_goes}
use Rattle.lard_law_view.proofs.Fine.{IsFine, fine}
use Rattle.lard_law_view.proofs.Guarded.{untouched-both, untouched-law, untouched-weaker}
use Rattle.lard_rules.specs.Front as front
use Rattle.lard_history.proofs.Each.{Each}
use Rattle.lard_law_view.proofs.Acked.{taken_by}
use Rattle.lard_law_view.proofs.Story.{story_seen}
use Rattle.lard_rules.specs.Node as node
use Rattle.lard_law_view.proofs.Deeds.{front-heads, front-station, node-heads, node-station}

-- ---- what is seen first

-- a timer that fires tells nothing of the client
timer-plain : (x : Conn) (place : Place) → story_seen x.c (story_at x) (event_seen (event.Timer place x.c)) ≡ story_at x
timer-plain x place = ap (λ b. record (story_at x) { shut = b }) (or-false (story_at x).shut)

-- ---- by the streams

abbrev bounds_by : ℕ → Conn → Station → ℕ → Bounds
bounds_by isn x s heard = record { isn = isn; iss = s.iss; heard = heard; taken = taken_by s.client; aborted = (story_at x).aborted }

module _ (k : Setting) (small : k.stream ≤ 2 ^ 30) where
  -- what a place does, of a connection whose client opened and which agrees
  abbrev Acts : Conn → Move → Type 0
  Acts x v = (s : Station) → x.part.station ≡ Some s → (h : IsTruthful k.files x) → (o : IsOpen k.files x h.talk h.pend s) → (heard : ℕ) → ActsWithin x (bounds_by h.talk.w.first x s heard) → PlaceActs x v (bounds_by h.talk.w.first x s heard)

  by-streams : (x : Conn) (v : Move) → Acts x v → IsTruthful k.files x → (s : Station) → x.part.station ≡ Some s → (r : OpenActs x s) → PlaceActs x v (bounds_of x s r.heard)
  by-streams x v acts h s there r =
      let o : IsOpen k.files x h.talk h.pend s = open-at k.files x s there h in
      let first_is : h.talk.w.first ≡ s.client.send.iss = ap (λ (u : Stream). u.first) o.client.w_is in
      subst (λ (n : ℕ). PlaceActs x v (bounds_by n x s r.heard)) first_is (acts s there h o r.heard (subst (λ (n : ℕ). ActsWithin x (bounds_by n x s r.heard)) (sym first_is) r.within))

  place-rule : (x : Conn) (v : Move) → story_seen x.c (story_at x) v.heads ≡ story_at x → v.part.station ≡ x.part.station → (Helps x v → Acts x v) → Keeps k small x v
  place-rule x v heads same acts help h r = place-keeps x v help heads same (by-streams x v (acts help) h) r

  -- ---- the front end

  fronts : FrontRules k (Keeps k small)
  fronts = each-front k (Keeps k small) (λ x env heads g is comes.
      let d : front.FrontDeed = front.front_rule env x.part.front g in
      place-rule x (front_does x heads d)
      (ap (story_seen x.c (story_at x)) (front-heads x heads d)
      ∙ of-front x (λ (ss : List Seen). story_seen x.c (story_at x) ss ≡ story_at x) (λ from bytes. refl) refl (timer-plain x Front) env heads g comes)
      (front-station x heads d) (λ help t at h o heard within.
      fronts_of.rule-act k small x help.number help.sound help.placed t h.talk h.pend o heard (story_at x).aborted at within heads env is g comes))

  -- ---- the nodes

  -- what says nothing of it
  stands-rule : (x : Conn) (place : Place) (heads : List Seen) (said : SaidIn) → story_seen x.c (story_at x) heads ≡ story_at x → ((b : Bounds) → Each (LetterActs x.c b x.part) (letters_of (stands x place heads said))) → Keeps k small x (stands x place heads said)
  stands-rule x place heads said plain letters = place-rule x (stands x place heads said) plain refl (λ help t at h o heard within.
      idle-acts x (stands x place heads said) (bounds_by h.talk.w.first x t heard) (record { front = within.front; nodes = within.nodes; letters = letters (bounds_by h.talk.w.first x t heard) }))

  nodes : NodeRules k (Keeps k small)
  nodes = each-node k (Keeps k small) (record {
    does = λ x n epoch env heads g is its comes.
        let d : node.NodeDeed = node.node_rule env (x.part.nodes n) g in
        place-rule x (node_goes x n env heads g)
        (ap (story_seen x.c (story_at x)) (node-heads x n heads d)
        ∙ of-heads x n (λ (ss : List Seen). story_seen x.c (story_at x) ss ≡ story_at x) (λ from bytes. refl) refl (timer-plain x (Node n)) epoch heads g comes)
        (node-station x n heads d) (λ help t at h o heard within.
        rule-act k small x help.number help.sound help.placed t h.talk h.pend o heard (story_at x).aborted within
        n epoch env is heads g its.0 comes help.owes.grows);
    aside = λ x n a may. stands-rule x (Node n) (aside_seen n a) (aside_said k n x.c a)
        (of-aside x n (λ (ss : List Seen). story_seen x.c (story_at x) ss ≡ story_at x) (λ from bytes. refl) refl a)
        (λ b. aside-letters (LetterActs x.c b x.part) (λ n to bytes. tt) k x n a);
  })

  -- ---- the law

  keeps : UntouchedRules k (Keeps k small)
  keeps = record {
    client = clients k small;
    front = fronts;
    node = nodes;
    ignores = λ x from to bytes was. stands-rule x to (packet_seen from to bytes) nothing_said refl (λ b. tt);
  }

  -- where it sits, and that it agrees
  abbrev pub Given : Conn → Type 0
  Given x = IsPlaced x × Untouched (IsTruthful k.files) x

  abbrev Owed : Conn → Move → Type 0
  Owed x v = MayRestOn Given x → IsPlaced x → Owes x v

  abbrev Wanted : Conn → Move → Type 0
  Wanted x v = MayRestOn Given x → (tale_at x).touched ≡ false → AcksWhatWasTaken x → AcksWhatWasTaken (grown x v)

  abbrev All : Conn → Move → Type 0
  All x v = (IsFine x v × Owed x v) × Keeps k small x v

  wanted : (x : Conn) (v : Move) → All x v → Wanted x v
  wanted x v all may untouched acts = all.1
      (record { number = may.number; sound = may.sound; placed = may.given.0; owes = all.0.1 may may.given.0; own = (all.0.0 may.number may.sound).0 })
      (may.given.1 untouched) acts

  acks-law : IsUntouchedLaw k Given AcksWhatWasTaken
  acks-law = record {
    begins = λ c. refl;
    moves = untouched-weaker k All Wanted wanted
        (untouched-both k (λ x v. IsFine x v × Owed x v) (Keeps k small) (untouched-both k IsFine Owed (fine k).untouched (owing k Given).untouched) keeps);
  }

-- In every state that events lead to.
pub connections-ack : ConnectionsAckWhatWasTaken
connections-ack config files checked =
    let k : Setting = setting config files in
    let small : k.stream ≤ 2 ^ 30 = (usable config checked).stream in
    carried config files (Given k small) (Untouched AcksWhatWasTaken) (λ l. untouched-law (with_leaving k l) (Given k small) AcksWhatWasTaken (acks-law (with_leaving k l) small))
    (λ m r q. (each-placed config files checked m r q, states-truthful config files checked m r q))
