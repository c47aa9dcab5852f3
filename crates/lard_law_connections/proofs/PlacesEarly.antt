-- In every state of a run a connection is in an early epoch: the front end is sound, and there are 64 nodes at most.
use Rattle.std.proofs.Common.{◌≡◌, ◌≤◌, ℕ, List, Ok, Option, Some, None, subst, arith, sym}
use Rattle.lard_base.proofs.Usable.{usable}
use Rattle.lard_law_view.specs.Prelude.{Config, ControlBlock, DispatchStanding, FrontConn, FrontPart, FrontRest, FrontRow, IsRowSound, IsStageSound, Kept, OfEach, config_check, conn, dispatch_standing, front_part, part_of}
use Rattle.lard_law_connections.specs.Places.{HasEarlyEpoch, IsEarlyEpoch, IsRowEarly}
use Rattle.lard_law_connections.proofs.PolicyCounted.{IsCounted, reached-counted}
use Rattle.lard_handoff_front.specs.declared.row.FrontConn.TheVariants as stage
use Rattle.lard_rules.specs.FrontSound.{IsHereWith, OpenNodes, open_nodes_of}

module _ (k : OpenNodes) (few : k.all ≤ 64) where
  here-early : (e : ℕ) (b : ControlBlock) (rest : Option FrontRest) → IsHereWith k e b rest → IsEarlyEpoch e
  here-early e b None h = absurd h
  here-early e b (Some rest) h = let early = h.early in omega (arith, early, few)

  stage-early : (e : ℕ) (rest : Option FrontRest) (kept : List Kept) (at : DispatchStanding) (st : FrontConn) → IsStageSound k e rest kept at st → IsEarlyEpoch e
  stage-early e rest kept at (stage.Held b) h = here-early e b rest h.0
  stage-early e rest kept at (stage.Waiting b) h = here-early e b rest h.0
  stage-early e rest kept at stage.Lent h = absurd h
  stage-early e rest kept at (stage.Offering n d) h = let early = h.early in omega (arith, early, few)
  stage-early e rest kept at (stage.Moved n d) h = let early = h.early in omega (arith, early, few)
  stage-early e rest kept at (stage.Closed last) h = let early = h.0 in omega (arith, early, few)

  row-early : (rest : Option FrontRest) (kept : List Kept) (at : DispatchStanding) (o : Option FrontRow) → IsRowSound k rest kept at o → IsRowEarly o
  row-early rest kept at None h = tt
  row-early rest kept at (Some row) h = stage-early row.epoch.0 rest kept at row.stage h

pub each-early : (config : Config) (files : List (List ℕ × List ℕ)) → config_check config ≡ Ok tt → OfEach config files HasEarlyEpoch
unfolding conn part_of
each-early config files checked m r q =
    let counted : IsCounted config m = reached-counted config files checked m r in
    let nodes = (usable config checked).nodes in
    let few : m.front.dispatch.config.nodes ≤ 64 = subst (λ (c : Config). c.nodes ≤ 64) (sym counted.config_is) (omega (arith, nodes)) in
    let p : FrontPart = front_part m.front q in
    row-early (open_nodes_of m.front.dispatch) few p.rest p.kept (dispatch_standing m.front.dispatch q) p.row (counted.sound.each q)
