-- What the move of a deed of the front end or of a node leaves alone: what is seen first, the client's place, and at which place it is.
use Rattle.std.proofs.Common.{◌≡◌, ℕ, List, refl}
use Rattle.lard_law_view.specs.Prelude.{Conn, Front, FrontDeed, Node, NodeDeed, Seen, front_does, node_does}
use Rattle.lard_rules.specs.Front as front
use Rattle.lard_rules.specs.Node as node

module _ (x : Conn) (heads : List Seen) where
  pub front-heads : (d : FrontDeed) → (front_does x heads d).heads ≡ heads
  front-heads front.Drops = refl
  front-heads (front.Says turn) = refl
  front-heads (front.Does did) = refl

  pub front-station : (d : FrontDeed) → (front_does x heads d).part.station ≡ x.part.station
  front-station front.Drops = refl
  front-station (front.Says turn) = refl
  front-station (front.Does did) = refl

  pub front-place : (d : FrontDeed) → (front_does x heads d).place ≡ Front
  front-place front.Drops = refl
  front-place (front.Says turn) = refl
  front-place (front.Does did) = refl

module _ (x : Conn) (n : ℕ) (heads : List Seen) where
  pub node-heads : (d : NodeDeed) → (node_does x n heads d).heads ≡ heads
  node-heads node.Drops = refl
  node-heads (node.Says messages) = refl
  node-heads (node.Does given) = refl

  pub node-station : (d : NodeDeed) → (node_does x n heads d).part.station ≡ x.part.station
  node-station node.Drops = refl
  node-station (node.Says messages) = refl
  node-station (node.Does given) = refl

  pub node-place : (d : NodeDeed) → (node_does x n heads d).place ≡ Node n
  node-place node.Drops = refl
  node-place (node.Says messages) = refl
  node-place (node.Does given) = refl
