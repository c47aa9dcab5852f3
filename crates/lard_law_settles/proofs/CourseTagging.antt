-- With a Tag that counts a unit of its connection goes.
use Rattle.std.proofs.Common.{◌≡◌, ◌<◌, ◌≤◌, ℕ, Bool, List, [], Option, Some, ⊎_elim, sym, ap, ◌∙◌}
use Rattle.std.proofs.lemmas.Bool.{and_parts, cases_lt, cond_both}
use Rattle.lard_law_view.specs.Prelude.{Conn, ControlBlock, Event, IsNodeEnv, Machine, Move, NodeEnv, NodePart, NodeTurn, Part, Station, Stay, conn, file_at, gives_back, goes_on, is_tag_awaited, kept_back, may_give_back, node_rests, node_tagged, node_turns, part_of, setting_of, tagged, tagged_by, turn_back, with_node, with_work, without, work_of}
use Rattle.lard_base.specs.declared.place.TimerKind.TheVariants as kind
use Rattle.lard_bound.specs.Progress.{spot_at, spot_with}
use Rattle.lard_bound.specs.Spots.{Spot, spot_of}
use Rattle.lard_bound.specs.Units.{Whole, units}
use Rattle.lard_law_settles.proofs.CourseLasting.{steady}
use Rattle.lard_law_settles.proofs.CourseOwing.{IsStep}
use Rattle.lard_law_settles.proofs.CourseStocking.{TagsFall}
use Rattle.lard_rules.specs.Node as node
use Rattle.lard_law_progress.proofs.AnswersNodeDeeds.{is-here}
use Rattle.lard_law_progress.proofs.AnswersNodeGiven.{NodeGiven}
use Rattle.lard_law_progress.proofs.AnswersNodeSeats.{IsHere}
use Rattle.lard_law_progress.proofs.AnswersNodeStill.{back-moves, still, tag-falls}
use Rattle.lard_law_progress.proofs.Away.{here-row}
use Rattle.lard_rules.proofs.NodeCases.{IsHereWith, where-here}

module _ (Given : Conn → Type 0) (Came : Conn → Move → Type 0) (all : ℕ → Whole) (m n : Machine) (e : Event) (step : IsStep Given Came all m n e) (given : (q : ℕ) → NodeGiven (setting_of m) (all q) (conn m q)) where
  module _ (q i epoch number : ℕ) (nodes : List ℕ) (env : NodeEnv) (of : IsNodeEnv (setting_of m) q i epoch env) (g : NodePart × NodeTurn) (put : part_of n q ≡ with_node (part_of m q) i g.0) where
    abbrev p : Part
    p = (conn m q).part

    -- it counted, so the spot is another one
    counted : (b : ControlBlock) (s : Stay) → IsHereWith env.epoch (p.nodes i) b s → (x : NodePart × NodeTurn) → g ≡ x
        → ((told : Bool) (h : IsHere p told i env.epoch b) (st : Station) → spot_of (file_at m.files) (with_node p i x.0) st ≡ spot_of (file_at m.files) p st → ⊥)
        → spot_at (file_at m.files) (conn n q) ≡ spot_at (file_at m.files) (conn m q) → ⊥
    unfolding conn
    counted b s is x does moves spot =
        let row = here-row env.epoch (p.nodes i) b s is in
        let at = is-here (setting_of m) (all q) (conn m q) (given q) i env.epoch b row in
        let st = (given q).held i env.epoch b row in
        let part : part_of n q ≡ with_node p i x.0 = put ∙ ap (λ (y : NodePart × NodeTurn). with_node p i y.0) does in
        let S : Part → Option Station → Option Spot = λ y o. spot_with (file_at m.files) (record (conn n q) { part = y }) o in
        let behind : spot_at (file_at m.files) (conn n q) ≡ Some (spot_of (file_at m.files) (with_node p i x.0) st.0) =
        ap (λ (y : Part). S y y.station) part ∙ ap (S (with_node p i x.0)) st.1 in
        let before : spot_at (file_at m.files) (conn m q) ≡ Some (spot_of (file_at m.files) p st.0) = ap (spot_with (file_at m.files) (conn m q)) st.1 in
        moves at.0 at.1 st.0 (some-spot _ _ (sym behind ∙ spot ∙ before))
      where
        some-spot : (a b : Spot) → Some a ≡ Some b → a ≡ b
        some-spot a b h = cc

    does-is : (x : NodePart × NodeTurn) → node.Does x ≡ node.Does g → g ≡ x
    does-is x h = cc

    drops-not : node.Drops ≡ node.Does g → ⊥
    drops-not h = cc

    none-counts : node_tagged env (p.nodes i) number nodes ≡ node.Does g → spot_at (file_at m.files) (conn n q) ≡ spot_at (file_at m.files) (conn m q) → ⊥
    none-counts does spot = where-here env.epoch (p.nodes i) (λ o. tagged_by env number nodes (p.nodes i) o ≡ node.Does g → ⊥) drops-not
        (λ b s is.
        let pp : NodePart = record (p.nodes i) { kept = without kind.Ask 0 (p.nodes i).kept } in
        let w = goes_on env (tagged env nodes (work_of b s)) in
        let Never : node.NodeDeed → Type 0 = λ d. d ≡ node.Does g → ⊥ in
        cond_both (is_tag_awaited env number nodes (p.nodes i) s) (node_turns env pp [] w) node.Drops Never
        (λ t. cond_both (may_give_back env w) (gives_back env pp [] w) (with_work env pp [] w) Never
        (λ back h. counted b s is (kept_back env pp w, turn_back env [] w) (does-is _ h) (λ told at st same. back-moves (file_at m.files) p st told i b env at pp w same) spot)
        (λ rests h. counted b s is (node_rests env pp [] w) (does-is _ h)
        (λ told at st same. tag-falls (file_at m.files) p st told i b env at s nodes is.stays (and_parts _ _ t).0 (still (file_at m.files) p st told i b env at pp [] w same)) spot))
        (λ f. drops-not))
        does

    tag-takes : node_tagged env (p.nodes i) number nodes ≡ node.Does g → units (all q) m.config.nodes (conn n q) < units (all q) m.config.nodes (conn m q)
    tag-takes does = ⊎_elim
        (λ (falls : units (all q) m.config.nodes (conn n q) < units (all q) m.config.nodes (conn m q)). falls)
        (λ (up : units (all q) m.config.nodes (conn m q) ≤ units (all q) m.config.nodes (conn n q)). absurd (none-counts does (steady Given Came all m n e step q up)))
        (cases_lt (units (all q) m.config.nodes (conn n q)) (units (all q) m.config.nodes (conn m q)))

  pub tags-fall : TagsFall all m n
  unfolding conn
  tags-fall q i epoch number nodes env g is of does put = tag-takes q i epoch number nodes env of g put does
