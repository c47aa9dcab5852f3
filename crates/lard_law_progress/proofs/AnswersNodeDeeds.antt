-- What a node's deed owes, of a packet that came to it.
use Rattle.std.proofs.Common.{◌≡◌, ◌≤◌, ℕ, suc, Bool, List, map, Option, None, Some, refl, subst}
use Rattle.std.proofs.lemmas.Bool.{cond_both}
use Rattle.lard_law_view.specs.Prelude.{Conn, ControlBlock, Letter, Move, Node, NodeDeed, NodeEnv, NodePart, NodeTurn, Place, Setting, Station, Was, Work, gives_back, grown, kept_back, letter, letters_of, may_give_back, node_does, node_turns, nothing_said, packet_seen, stands, turn_back, with_node, with_work}
use Rattle.lard_bound.specs.Nears.{Near}
use Rattle.lard_bound.specs.Progress.{Answers, IsWarm, NearOn, spot_with}
use Rattle.lard_bound.specs.Spots.{spot_of}
use Rattle.lard_bound.specs.Units.{Whole, left_to_client, left_with, units}
use Rattle.lard_rules.specs.Node as node
use Rattle.lard_law_progress.proofs.AnswersForm.{IsLateOn, Owes, Replies, answers-by, no-reply}
use Rattle.lard_law_progress.proofs.AnswersNodeGiven.{HasIt, NodeGiven}
use Rattle.lard_law_progress.proofs.AnswersNodeSeats.{IsHere}
use Rattle.lard_law_progress.proofs.AnswersNodeStill.{back-moves}

-- a turn is never dropped
pub turns-does : (env : NodeEnv) (pp : NodePart) (before : List (Place × List ℕ)) (v : Work) → node_turns env pp before v ≡ node.Drops → ⊥
turns-does env pp before v = cond_both (may_give_back env v) (gives_back env pp before v) (with_work env pp before v) (λ (d : NodeDeed). d ≡ node.Drops → ⊥)
    (λ t e. cc) (λ t e. cc)

module _ (k : Setting) (w : Whole) (x : Conn) where
  -- where a node has it
  pub is-here : NodeGiven k w x → (n e : ℕ) (b : ControlBlock) → HasIt x n e b → (told : Bool) × IsHere x.part told n e b
  is-here given n e b has = let h = given.homes n e b has in (h.0, record { front = h.1; row = h.2; with_ = h.3; there = has })

  -- where no unit goes, so much is left as before
  pub left-same : (v : Move) (st : Station) → x.part.station ≡ Some st → v.part.station ≡ Some st → units w k.nodes x ≤ units w k.nodes (grown x v)
      → left_with w k.nodes x.part st ≤ left_with w k.nodes v.part st
  unfolding units
  left-same v st is now up =
      let at : left_to_client w k.nodes x.part (Some st) ≤ left_to_client w k.nodes v.part v.part.station =
      subst (λ (o : Option Station). left_to_client w k.nodes x.part o ≤ left_to_client w k.nodes v.part v.part.station) is up in
      subst (λ (o : Option Station). left_with w k.nodes x.part st ≤ left_to_client w k.nodes v.part o) now at

  module _ (n : ℕ) (from : Place) (bytes : List ℕ) (was : Was x from (Node n) bytes) where
    abbrev pub came_letter : Letter
    came_letter = record { from = from; to = Node n; bytes = bytes }

    abbrev pub OwesBy : NodeDeed → Type 0
    OwesBy deed = Owes k w (NodeGiven k w) x (node_does x n (packet_seen from (Node n) bytes) deed)

    abbrev pub IsFar : Station → Type 0
    IsFar st = (d : ℕ) → Near k.files (spot_of k.files x.part st) x.c (suc d) came_letter → ⊥

    -- it is dropped, and was not near
    pub drops-owes : ((given : NodeGiven k w x) (st : Station) → x.part.station ≡ Some st → IsFar st) → OwesBy node.Drops
    drops-owes far may after warm late lasts = go x.part.station refl where
      v : Move
      v = stands x (Node n) (packet_seen from (Node n) bytes) nothing_said

      go : (o : Option Station) → x.part.station ≡ o → Answers k w x v came_letter
      go None at = record { shorter = λ up. tt; leads = λ up d near. absurd (subst (λ (o : Option Station). NearOn k.files (spot_with k.files x o) x.c (suc d) came_letter) at near) }
      go (Some st) at = answers-by k w x v came_letter st st at at lasts (λ up same. no-reply k.files (spot_of k.files x.part st) x.c came_letter (far may.given st at))

    -- its client opened
    abbrev pub Opens : Type 0
    Opens = NodeGiven k w x → (st : Station) × (x.part.station ≡ Some st)

    -- these messages go out, and nothing else is done
    pub says-owes : Opens → (messages : List (Place × List ℕ)) → ((given : NodeGiven k w x) (st : Station) → x.part.station ≡ Some st → Replies k.files (spot_of k.files x.part st) x.c came_letter (map (letter (Node n)) messages))
        → OwesBy (node.Says messages)
    says-owes opens messages replies may after warm late lasts =
        let o = opens may.given in
        answers-by k w x (stands x (Node n) (packet_seen from (Node n) bytes) (record nothing_said { messages = messages })) came_letter o.0 o.0 o.1 o.1 lasts (λ up same. replies may.given o.0 o.1)

    -- the node keeps this from then on
    abbrev pub moved : NodePart × NodeTurn → Move
    moved given = node_does x n (packet_seen from (Node n) bytes) (node.Does given)

    pub does-owes : Opens → (given : NodePart × NodeTurn)
        → (NodeGiven k w x → NodeGiven k w (grown x (moved given)) → IsWarm x came_letter → IsLateOn x came_letter → (st : Station) → x.part.station ≡ Some st → st.client.c ≡ x.c
        → left_with w k.nodes x.part st ≤ left_with w k.nodes (with_node x.part n given.0) st → spot_of k.files (with_node x.part n given.0) st ≡ spot_of k.files x.part st
        → Replies k.files (spot_of k.files x.part st) x.c came_letter (letters_of (moved given)))
        → OwesBy (node.Does given)
    does-owes opens given wanted may after warm late lasts =
        let o = opens may.given in
        answers-by k w x (moved given) came_letter o.0 o.0 o.1 o.1 lasts
        (λ up same. wanted may.given after warm late o.0 o.1 (may.sound.client o.0 o.1) (left-same (moved given) o.0 o.1 o.1 up) same)

    -- a turn ends: where the connection goes back, that is a unit
    pub turns-owes : (env : NodeEnv) (pp : NodePart) (before : List (Place × List ℕ)) (v : Work) (b : ControlBlock) → HasIt x n env.epoch b
        → OwesBy (with_work env pp before v) → OwesBy (node_turns env pp before v)
    turns-owes env pp before v b has rests = cond_both (may_give_back env v) (gives_back env pp before v) (with_work env pp before v) OwesBy
        (λ t. does-owes (λ given. given.held n env.epoch b has) (kept_back env pp v, turn_back env before v) (λ given after warm late st st_is c_is up same.
        let home = is-here given n env.epoch b has in
        absurd (back-moves k.files x.part st home.0 n b env home.1 pp v same)))
        (λ f. rests)
