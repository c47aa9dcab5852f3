-- The motion law in every run.
use Rattle.std.proofs.Common.{◌≡◌, ℕ, List, [], Some, None, refl, sym, ◌∙◌, Ok}
use Rattle.lard_law_view.specs.Prelude.{Config, Conn, IsLaw, IsStepLaw, MayRestOn, Move, OfEach, Rules, Seen, Setting, config_check, grown, seen_in, setting, with_leaving}
use Rattle.lard_law_connections.specs.Motion.{IsMotion, MustMove}
use Rattle.lard_law_connections.specs.MotionRuns.{ConnectionsMoveInSteps}
use Rattle.lard_law_connections.specs.MotionStory.{Story, story}
use Rattle.lard_law_connections.proofs.MotionElsewhere.{FrontMoves, Helps, no-forwards, no-syn, no-takes, none-back}
use Rattle.lard_law_connections.proofs.MotionNodes.{NodesMove}
use Rattle.lard_law_connections.proofs.MotionRules.{Goes, Way, all-go}
use Rattle.lard_law_connections.proofs.PlacesLaw.{owing}
use Rattle.lard_law_connections.proofs.PlacesRuns.{each-placed}
use Rattle.lard_law_connections.proofs.PlacesTurns.{IsPlaced, Owes}
use Rattle.lard_law_view.proofs.Carried.{carried}
use Rattle.lard_law_view.proofs.Fine.{IsFine, fine}
use Rattle.lard_law_view.proofs.Guarded.{both, weaker}
use Rattle.lard_law_view.proofs.InSteps.{carried-steps}
use Rattle.lard_law_connections.specs.Past.{GoesToNew}
use Rattle.lard_law_connections.proofs.PastClosed.{connections-go-to-new}

-- where nothing of it is seen, nothing of it is done
nothing-moves : (nodes c : ℕ) (past : List Seen) → IsMotion nodes c past []
nothing-moves nodes c past =
    let t : Story = story c past in
    record {
      takes_first = (no-takes t).0 ∙ sym (no-syn t);
      hands_off = tt;
      node_takes = λ n there. refl;
      node_ends = λ n. tt;
      takes_back = (no-takes t).1 ∙ sym (none-back t);
      steps_up = tt;
      node_steps_up = λ n. tt;
      forwards = sym (no-forwards c t);
    }

module _ (k : Setting) where
  abbrev Owed : Conn → Move → Type 0
  Owed x v = MayRestOn IsPlaced x → IsPlaced x → Owes x v

  abbrev All : Conn → Move → Type 0
  All x v = (IsFine x v × Owed x v) × Goes k x v

  all : Rules k All
  all = both k (λ x v. IsFine x v × Owed x v) (Goes k) (both k IsFine Owed (fine k) (owing k IsPlaced)) (all-go k)

  -- it sits where its tale says, and goes to a node that is new to it
  abbrev Stands : Conn → Type 0
  Stands x = IsPlaced x × GoesToNew x

  placed_in : (x : Conn) → MayRestOn Stands x → MayRestOn IsPlaced x
  placed_in x may = record { number = may.number; sound = may.sound; given = may.given.0 }

  helped : (x : Conn) (v : Move) → All x v → MayRestOn IsPlaced x → GoesToNew x → Helps x v
  helped x v h may new = record { new = new; number = may.number; sound = may.sound; placed = may.given; owes = h.0.1 may may.given; own = (h.0.0 may.number may.sound).0 }

  way-law : IsLaw k Stands Way
  way-law = record {
    begins = λ c. record {
      front = record { row = (refl, refl, record { away = refl; back = λ e is. let no : None ≡ Some e = is in absurd cc }); back = λ e among. absurd cc; kept = tt; fresh = λ none. tt };
      nodes = record { highest_is = λ n. refl; late = λ n. tt };
    };
    moves = weaker k All (λ x v. MayRestOn Stands x → Way x → Way (grown x v))
        (λ x v h may way. let gone = h.1 (placed_in x may) way (helped x v h (placed_in x may) may.given.1) in record { front = gone.0.1; nodes = gone.1.1 }) all;
  }

  -- what is known where a connection moves
  abbrev Given : Conn → Type 0
  Given x = Stands x × Way x

  motion-law : IsStepLaw k Given (IsMotion k.nodes)
  motion-law = record {
    still = nothing-moves k.nodes;
    moves = weaker k All (λ x v. MayRestOn Given x → IsMotion k.nodes x.c x.seen (seen_in x v))
        (λ x v h may.
        let placed : MayRestOn IsPlaced x = record { number = may.number; sound = may.sound; given = may.given.0.0 } in
        let gone = h.1 placed may.given.1 (helped x v h placed may.given.0.1) in
        let front : FrontMoves x.c x.seen (seen_in x v) = gone.0.0 in
        let nodes : NodesMove k.nodes x.seen (seen_in x v) = gone.1.0 in
        record {
          takes_first = front.takes_first;
          hands_off = front.hands_off;
          node_takes = nodes.takes;
          node_ends = nodes.ends;
          takes_back = front.takes_back;
          steps_up = front.steps_up;
          node_steps_up = nodes.ups;
          forwards = front.forwards;
        }) all;
  }

-- what is known of the way of each connection, in every state
pub each-way : (config : Config) (files : List (List ℕ × List ℕ)) → config_check config ≡ Ok tt → OfEach config files Way
each-way config files checked = carried config files (Stands (setting config files)) Way (λ l. way-law (with_leaving (setting config files) l))
    (λ m r q. (each-placed config files checked m r q, connections-go-to-new config files m checked r q))

pub connections-move : ConnectionsMoveInSteps
connections-move config files m checked r =
    let known : OfEach config files Way = each-way config files checked in
    carried-steps config files (Given (setting config files)) (MustMove config.nodes) (IsMotion config.nodes) (λ past s h. h) (λ l. motion-law (with_leaving (setting config files) l))
    (λ n s q. ((each-placed config files checked n s q, connections-go-to-new config files n checked s q), known n s q)) m r
