-- Where one place has a connection, no other has it.
use Rattle.std.proofs.Common.{◌≡◌, ◌⊎◌, inl, inr, ⊎_elim, ℕ, List, Option, Some, None, refl, sym, ap, ◌∙◌, subst}
use Rattle.lard_law_view.specs.Prelude.{BackConn, BackRow, Conn, ControlBlock, EndpointParts, Epoch, Final, FrontConn, FrontRow, Kept, NodePart, Part, Stay, parts_kept, tale_at}
use Rattle.lard_law_connections.specs.Places.{ArePast, IsLeft, IsPast, OthersArePast, Owning, Sits, StageSits, owning}
use Rattle.lard_law_connections.proofs.PlacesNodeRules.{by-node, past-held}
use Rattle.lard_law_connections.proofs.PlacesTurns.{IsPlaced}
use Rattle.lard_law_connections.specs.SilencePlaces.{BackHas, BackStageHas, FrontHas, FrontStageHas, HereHas, NodeHas}
use Rattle.lard_laws.specs.Windows.{AnyBlock}
use Rattle.lard_handoff_back.specs.declared.row.BackConn.TheVariants as back
use Rattle.lard_handoff_front.specs.declared.row.FrontConn.TheVariants as stage

-- ---- what is known of endpoints by the rows in which they are

module _ (P R Q : ControlBlock → Type 0) (p : NodePart) (w : (row : BackRow) (b : ControlBlock) → p.row ≡ Some row → row.stage ≡ back.Here b → P b → R b) where
  pub node-at : NodeHas P Q p → NodeHas R Q p
  node-at h = by-row p.row refl h where
    of-stay : (row : BackRow) (b : ControlBlock) → p.row ≡ Some row → row.stage ≡ back.Here b → (o : Option Stay) → HereHas P Q b o → HereHas R Q b o
    of-stay row b found at None h = h
    of-stay row b found at (Some s) h = w row b found at h

    by-stage : (row : BackRow) → p.row ≡ Some row → (d : BackConn) → row.stage ≡ d → BackStageHas P Q d p.stay → BackStageHas R Q d p.stay
    by-stage row found (back.Here b) at h = of-stay row b found at p.stay h
    by-stage row found _ at h = tt

    by-row : (q : Option BackRow) → p.row ≡ q → BackHas P Q q p.stay → BackHas R Q q p.stay
    by-row None found h = tt
    by-row (Some row) found h = by-stage row found row.stage refl h

module _ (P R : ControlBlock → Type 0) (q : Option FrontRow) (w : (row : FrontRow) (b : ControlBlock) → q ≡ Some row → (row.stage ≡ stage.Held b) ⊎ (row.stage ≡ stage.Waiting b) → P b → R b) where
  pub front-at : FrontHas P q → FrontHas R q
  front-at h = by-row q refl h where
    by-stage : (row : FrontRow) → q ≡ Some row → (d : FrontConn) → row.stage ≡ d → FrontStageHas P d → FrontStageHas R d
    by-stage row found (stage.Held b) at h = w row b found (inl at) h
    by-stage row found (stage.Waiting b) at h = w row b found (inr at) h
    by-stage row found _ at h = tt

    by-row : (r : Option FrontRow) → q ≡ r → FrontHas P r → FrontHas R r
    by-row None found h = tt
    by-row (Some row) found h = by-stage row found row.stage refl h

-- ---- how much was sent by the endpoint of a row, or by that of the Offer that is kept

abbrev parts_sent : Option EndpointParts → ℕ
parts_sent None = 0
parts_sent (Some parts) = parts.una

abbrev stage_sent : List Kept → FrontConn → ℕ
stage_sent ks (stage.Held b) = b.send.nxt
stage_sent ks (stage.Waiting b) = b.send.nxt
stage_sent ks (stage.Offering n e) = parts_sent (parts_kept ks)
stage_sent ks _ = 0

abbrev pub front_sent : List Kept → Option FrontRow → ℕ
front_sent ks None = 0
front_sent ks (Some row) = stage_sent ks row.stage

pub front-sent : (ks : List Kept) (q : Option FrontRow) (row : FrontRow) (b : ControlBlock) → q ≡ Some row
    → (row.stage ≡ stage.Held b) ⊎ (row.stage ≡ stage.Waiting b)
    → front_sent ks q ≡ b.send.nxt
front-sent ks q row b found at = ap (front_sent ks) found
    ∙ ⊎_elim (λ (e : row.stage ≡ stage.Held b). ap (stage_sent ks) e) (λ (e : row.stage ≡ stage.Waiting b). ap (stage_sent ks) e) at

pub offered-sent : (ks : List Kept) (q : Option FrontRow) (row : FrontRow) (n : ℕ) (e : Epoch) (parts : EndpointParts) → q ≡ Some row
    → row.stage ≡ stage.Offering n e
    → parts_kept ks ≡ Some parts → front_sent ks q ≡ parts.una
offered-sent ks q row n e parts found at kept = ap (front_sent ks) found ∙ ap (stage_sent ks) at ∙ ap parts_sent kept

abbrev back_sent : BackConn → ℕ
back_sent (back.Here b) = b.send.nxt
back_sent _ = 0

abbrev pub node_sent : Option BackRow → ℕ
node_sent None = 0
node_sent (Some row) = back_sent row.stage

pub node-sent : (q : Option BackRow) (row : BackRow) (b : ControlBlock) → q ≡ Some row → row.stage ≡ back.Here b → node_sent q ≡ b.send.nxt
node-sent q row b found at = ap node_sent found ∙ ap back_sent at

-- one without a stay has no endpoint that counts
pub no-stay : (P : ControlBlock → Type 0) (p : NodePart) → p.stay ≡ None → NodeHas P AnyBlock p
no-stay P p none = subst (λ (o : Option Stay). BackHas P AnyBlock p.row o) (sym none) (by-row p.row) where
  by-stage : (d : BackConn) → BackStageHas P AnyBlock d None
  by-stage (back.Here b) = tt
  by-stage back.Out = tt
  by-stage back.Ended = tt
  by-stage back.Gone = tt

  by-row : (q : Option BackRow) → BackHas P AnyBlock q None
  by-row None = tt
  by-row (Some row) = by-stage row.stage

-- ---- a stay that is over has none

pub past-has : (P Q : ControlBlock → Type 0) (e : ℕ) (p : NodePart) → IsPast e p.row → NodeHas P Q p
past-has P Q e p past = by-row p.row past where
  by-stage : (d : BackConn) → IsLeft d → BackStageHas P Q d p.stay
  by-stage (back.Here b) left = absurd left
  by-stage _ left = tt

  by-row : (q : Option BackRow) → IsPast e q → BackHas P Q q p.stay
  by-row None past = tt
  by-row (Some row) past = by-stage row.stage past.1

-- while the front end has it, all stays are over
abbrev pub FrontAlone : (ℕ → NodePart) → Type 0
FrontAlone nodes = (e : ℕ) × ArePast e nodes

pub front-alone : (P Q : ControlBlock → Type 0) (nodes : ℕ → NodePart) → FrontAlone nodes → (n : ℕ) → NodeHas P Q (nodes n)
front-alone P Q nodes alone n = past-has P Q alone.0 (nodes n) (alone.1 n)

-- while a node has it, the front end gave it away, and all other stays are over
abbrev pub IsAway : FrontConn → Type 0
IsAway (stage.Offering n e) = Unit {0}
IsAway (stage.Moved n e) = Unit {0}
IsAway _ = ⊥

abbrev pub RowIsAway : Option FrontRow → Type 0
RowIsAway None = ⊥
RowIsAway (Some row) = IsAway row.stage

abbrev pub NodeAlone : ℕ → Part → Type 0
NodeAlone n p = RowIsAway p.front.row × ((e : ℕ) × OthersArePast n e p.nodes)

pub away-has : (P : ControlBlock → Type 0) (q : Option FrontRow) → RowIsAway q → FrontHas P q
away-has P None away = tt
away-has P (Some row) away = by-stage row.stage away where
  by-stage : (d : FrontConn) → IsAway d → FrontStageHas P d
  by-stage (stage.Held b) away = absurd away
  by-stage (stage.Waiting b) away = absurd away
  by-stage stage.Lent away = absurd away
  by-stage (stage.Offering n e) away = tt
  by-stage (stage.Moved n e) away = tt
  by-stage (stage.Closed last) away = absurd away

-- ---- by where the connection sits

module _ (x : Conn) (placed : IsPlaced x) where
  abbrev own : Owning
  own = owning (tale_at x)

  abbrev nodes : ℕ → NodePart
  nodes = x.part.nodes

  -- a row at the front end that has it, or has its last numbers
  pub held-alone : (row : FrontRow) (b : ControlBlock) → x.part.front.row ≡ Some row → row.stage ≡ stage.Held b → FrontAlone nodes
  held-alone row b found at = let w : StageSits row.epoch.0 own nodes (stage.Held b) = subst (StageSits row.epoch.0 own nodes) at (subst (Sits own nodes) found placed.sits).0 in (row.epoch.0, w.1.1)

  pub waiting-alone : (row : FrontRow) (b : ControlBlock) → x.part.front.row ≡ Some row → row.stage ≡ stage.Waiting b → FrontAlone nodes
  waiting-alone row b found at = let w : StageSits row.epoch.0 own nodes (stage.Waiting b) = subst (StageSits row.epoch.0 own nodes) at (subst (Sits own nodes) found placed.sits).0 in (row.epoch.0, w.1.1)

  pub closed-alone : (row : FrontRow) (last : Final) → x.part.front.row ≡ Some row → row.stage ≡ stage.Closed last → FrontAlone nodes
  closed-alone row last found at = let w : StageSits row.epoch.0 own nodes (stage.Closed last) = subst (StageSits row.epoch.0 own nodes) at (subst (Sits own nodes) found placed.sits).0 in (row.epoch.0, w.1.1)

  pub home-alone : (row : FrontRow) (b : ControlBlock) → x.part.front.row ≡ Some row → (row.stage ≡ stage.Held b) ⊎ (row.stage ≡ stage.Waiting b) → FrontAlone nodes
  home-alone row b found at = ⊎_elim (λ (e : row.stage ≡ stage.Held b). held-alone row b found e) (λ (e : row.stage ≡ stage.Waiting b). waiting-alone row b found e) at

  pub unborn-alone : x.part.front.row ≡ None → FrontAlone nodes
  unborn-alone found = let w : Sits own nodes None = subst (Sits own nodes) found placed.sits in (0, w.1)

  -- where it is offered
  pub offered-alone : (n : ℕ) (row : FrontRow) (m : ℕ) (e : Epoch) → x.part.front.row ≡ Some row → row.stage ≡ stage.Offering m e → m ≡ n → NodeAlone n x.part
  offered-alone n row m e found at same = (
    subst RowIsAway (sym found) (subst IsAway (sym at) tt),
    (row.epoch.0, subst (λ (j : ℕ). OthersArePast j row.epoch.0 nodes) same w.2),
  ) where
    w : StageSits row.epoch.0 own nodes (stage.Offering m e)
    w = subst (StageSits row.epoch.0 own nodes) at (subst (Sits own nodes) found placed.sits).0

  -- a node that has an endpoint of it
  pub here-alone : (n : ℕ) (row : BackRow) (b : ControlBlock) → (nodes n).row ≡ Some row → row.stage ≡ back.Here b → NodeAlone n x.part
  here-alone n row b is at = by-row x.part.front.row refl where
    over : (e : ℕ) → IsPast e (nodes n).row → ⊥
    over e past = past-held e (nodes n).row row b is at past

    away : (f : FrontRow) (d : FrontConn) → x.part.front.row ≡ Some f → f.stage ≡ d → IsAway d → RowIsAway x.part.front.row
    away f d found e there = subst RowIsAway (sym found) (subst IsAway (sym e) there)

    by-stage : (f : FrontRow) → x.part.front.row ≡ Some f → (d : FrontConn) → f.stage ≡ d → StageSits f.epoch.0 own nodes d → NodeAlone n x.part
    by-stage f found (stage.Held c) e w = absurd (over f.epoch.0 (w.1.1 n))
    by-stage f found (stage.Waiting c) e w = absurd (over f.epoch.0 (w.1.1 n))
    by-stage f found stage.Lent e w = absurd w
    by-stage f found (stage.Offering m d) e w = by-node m n (NodeAlone n x.part)
        (λ same. (away f (stage.Offering m d) found e tt, (f.epoch.0, subst (λ (j : ℕ). OthersArePast j f.epoch.0 nodes) (sym same) w.2)))
        (λ other. absurd (over f.epoch.0 (w.2 n other)))
    by-stage f found (stage.Moved m d) e w = by-node m n (NodeAlone n x.part)
        (λ same. (away f (stage.Moved m d) found e tt, (f.epoch.0, subst (λ (j : ℕ). OthersArePast j f.epoch.0 nodes) (sym same) w.2)))
        (λ other. absurd (over f.epoch.0 (w.2 n other)))
    by-stage f found (stage.Closed last) e w = absurd (over f.epoch.0 (w.1.1 n))

    by-row : (q : Option FrontRow) → x.part.front.row ≡ q → NodeAlone n x.part
    by-row None found = let w : Sits own nodes None = subst (Sits own nodes) found placed.sits in absurd (over 0 (w.1 n))
    by-row (Some f) found = by-stage f found f.stage refl (let w : Sits own nodes (Some f) = subst (Sits own nodes) found placed.sits in w.0)
