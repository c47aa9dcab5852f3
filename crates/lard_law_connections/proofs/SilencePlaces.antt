-- What is so of an endpoint wherever it is, so is what follows from that.
use Rattle.std.proofs.Common.{◌≡◌, Option, Some, None}
use Rattle.lard_law_connections.specs.SilencePlaces.{BackHas, BackStageHas, FrontHas, FrontStageHas, HereHas, KnownHas, NodeHas}
use Rattle.lard_law_view.specs.Prelude.{BackConn, BackRow, ControlBlock, FrontConn, FrontRow, NodePart, Stay}
use Rattle.lard_handoff_back.specs.declared.row.BackConn.TheVariants as back
use Rattle.lard_handoff_front.specs.declared.row.FrontConn.TheVariants as stage

module _ (P Q : ControlBlock → Type 0) (w : (b : ControlBlock) → P b → Q b) where
  stage-weaker : (st : FrontConn) → FrontStageHas P st → FrontStageHas Q st
  stage-weaker (stage.Held b) h = w b h
  stage-weaker (stage.Waiting b) h = w b h
  stage-weaker _ h = tt

  pub front-weaker : (q : Option FrontRow) → FrontHas P q → FrontHas Q q
  front-weaker None h = tt
  front-weaker (Some row) h = stage-weaker row.stage h

  pub known-front : (q : Option FrontRow) → KnownHas P q → FrontHas Q q
  known-front None h = absurd h
  known-front (Some row) h = stage-weaker row.stage h

  pub front-known : (row : FrontRow) (q : Option FrontRow) → q ≡ Some row → FrontHas P q → KnownHas Q q
  front-known row None e h = absurd (let no : ◌≡◌ {A = Option FrontRow} None (Some row) = e in cc)
  front-known row (Some r) e h = stage-weaker r.stage h

module _ (P Q R : ControlBlock → Type 0) (w : (b : ControlBlock) → P b → Q b) where
  here-weaker : (b : ControlBlock) (o : Option Stay) → HereHas P R b o → HereHas Q R b o
  here-weaker b None h = h
  here-weaker b (Some s) h = w b h

  back-weaker : (d : BackConn) (o : Option Stay) → BackStageHas P R d o → BackStageHas Q R d o
  back-weaker (back.Here b) o h = here-weaker b o h
  back-weaker _ o h = tt

  row-weaker : (q : Option BackRow) (o : Option Stay) → BackHas P R q o → BackHas Q R q o
  row-weaker None o h = tt
  row-weaker (Some row) o h = back-weaker row.stage o h

  pub node-weaker : (p : NodePart) → NodeHas P R p → NodeHas Q R p
  node-weaker p h = row-weaker p.row p.stay h
