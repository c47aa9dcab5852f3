-- What was said of a packet stays so while the front end and the nodes go on.
use Rattle.std.proofs.Common.{◌≡◌, ◌⊎◌, ℕ, ◌≤◌, List, Option, Some, None, true, is_some, inl, inr, ⊎_elim, sym, ◌∙◌, arith}
use Rattle.lard_law_view.specs.Prelude.{BackRow, Front, FrontRow, Kind, Letter, Node, NodePart, Part, Place}
use Rattle.lard_law_connections.specs.Places.{FrontSaid, HasEnded, Head, HasStay, IsDecided, IsLeft, IsOffered, IsOver, IsPast, IsOfOther, IsRefusalKnown, IsRefusalTold, IsRefusedBy, LetterMay, MaySay, NodeSaid, Offers, OtherSaid}
use Rattle.lard_history.proofs.Each.{Each, Each-weaker}
use Rattle.lard_message.specs.declared.kind.Kind.TheVariants as kind

-- ---- rows go on

-- the epoch of a node's row never falls, and a stay that is over stays over
abbrev pub BackGrows : Option BackRow → Option BackRow → Type 0
BackGrows None o = Unit {0}
BackGrows (Some row) None = ⊥
BackGrows (Some row) (Some next) = (row.epoch.0 ≤ next.epoch.0) × (row.epoch.0 ≡ next.epoch.0 → IsLeft row.stage → IsLeft next.stage)

-- nor does that at the front end, and an Offer is told until the node took it, or its refusal is known
abbrev pub FrontGrows : (ℕ → NodePart) → Option FrontRow → Option FrontRow → Type 0
FrontGrows nodes None o = Unit {0}
FrontGrows nodes (Some row) None = ⊥
FrontGrows nodes (Some row) (Some next) = (row.epoch.0 ≤ next.epoch.0) × ((n e : ℕ) → Offers n e row.stage
    → Offers n e next.stage ⊎ (HasStay e (nodes n).row ⊎ (IsRefusedBy e (nodes n) × HasEnded e (Some next))))

-- what a node refused stays refused
abbrev pub KeepsRefusals : NodePart → NodePart → Type 0
KeepsRefusals p q = (e : ℕ) → IsRefusedBy e p → IsRefusedBy e q

-- and what it gave back was given back
abbrev pub KeepsReturn : NodePart → NodePart → Type 0
KeepsReturn p q = is_some p.beside.returned ≡ true → is_some q.beside.returned ≡ true

pub record Grows (p q : Part) : Type 0 where
  pub nodes : (n : ℕ) → BackGrows (p.nodes n).row (q.nodes n).row
  pub refusals : (n : ℕ) → KeepsRefusals (p.nodes n) (q.nodes n)
  pub returns : (n : ℕ) → KeepsReturn (p.nodes n) (q.nodes n)
  pub front : FrontGrows q.nodes p.front.row q.front.row

pub back-still : (o : Option BackRow) → BackGrows o o
back-still None = tt
back-still (Some row) = (omega arith, λ e left. left)

pub front-still : (nodes : ℕ → NodePart) (o : Option FrontRow) → FrontGrows nodes o o
front-still nodes None = tt
front-still nodes (Some row) = (omega arith, λ n e offers. inl offers)

pub grows-still : (p : Part) → Grows p p
grows-still p = record { nodes = λ n. back-still (p.nodes n).row; refusals = λ n e h. h; returns = λ n h. h; front = front-still p.nodes p.front.row }

-- ---- what was said stays so

pub decided-grows : (e : ℕ) (o r : Option BackRow) → BackGrows o r → IsDecided e o → IsDecided e r
decided-grows e None r g h = absurd h
decided-grows e (Some row) None g h = absurd g
decided-grows e (Some row) (Some next) g h = omega (arith, g.0, h)

pub over-grows : (e : ℕ) (o r : Option BackRow) → BackGrows o r → IsOver e o → IsOver e r
over-grows e None r g h = absurd h
over-grows e (Some row) None g h = absurd g
over-grows e (Some row) (Some next) g h =
    (omega (arith, g.0, h.0), λ is. let same : row.epoch.0 ≡ e = omega (arith, g.0, h.0, is) in g.1 (same ∙ sym is) (h.1 same))

pub ended-grows : (nodes : ℕ → NodePart) (e : ℕ) (o r : Option FrontRow) → FrontGrows nodes o r → HasEnded e o → HasEnded e r
ended-grows nodes e None r g h = absurd h
ended-grows nodes e (Some row) None g h = absurd g
ended-grows nodes e (Some row) (Some next) g h = omega (arith, g.0, h)

pub stay-decided : (e : ℕ) (o : Option BackRow) → HasStay e o → IsDecided e o
stay-decided e None h = h
stay-decided e (Some row) h = omega (arith, h)

stay-other : (e : ℕ) (o : Option BackRow) → HasStay e o → IsOfOther e o → ⊥
stay-other e None h other = h
stay-other e (Some row) h other = other h

offered-goes : (nodes : ℕ → NodePart) (n e : ℕ) (o r : Option FrontRow) → FrontGrows nodes o r → IsOffered n e o
    → IsOffered n e r ⊎ (HasStay e (nodes n).row ⊎ (IsRefusedBy e (nodes n) × HasEnded e r))
offered-goes nodes n e None r g h = absurd h
offered-goes nodes n e (Some row) None g h = absurd g
offered-goes nodes n e (Some row) (Some next) g h = g.1 n e h

pub offered-grows : (nodes : ℕ → NodePart) (n e : ℕ) (o r : Option FrontRow) → FrontGrows nodes o r → IsOffered n e o
    → IsOffered n e r ⊎ (IsDecided e (nodes n).row ⊎ (IsRefusedBy e (nodes n) × HasEnded e r))
offered-grows nodes n e o r g h = ⊎_elim
    (λ (still : IsOffered n e r). inl still)
    (λ (other : HasStay e (nodes n).row ⊎ (IsRefusedBy e (nodes n) × HasEnded e r)). inr (⊎_elim
    (λ (stay : HasStay e (nodes n).row). inl (stay-decided e (nodes n).row stay))
    (λ (known : IsRefusedBy e (nodes n) × HasEnded e r). inr known) other))
    (offered-goes nodes n e o r g h)

-- while it is offered to a node that refused it, that takes it no more
told-grows : (p q : Part) (n e : ℕ) → Grows p q → IsRefusalTold p n e → IsRefusalTold q n e
told-grows p q n e g h =
    let refused : IsRefusedBy e (q.nodes n) = g.refusals n e h.0 in (
      refused,
      ⊎_elim
          (λ (ended : HasEnded e p.front.row). inl (ended-grows q.nodes e p.front.row q.front.row g.front ended))
          (λ (offered : IsOffered n e p.front.row). ⊎_elim
          (λ (still : IsOffered n e q.front.row). inr still)
          (λ (other : HasStay e (q.nodes n).row ⊎ IsRefusalKnown q n e). ⊎_elim
          (λ (stay : HasStay e (q.nodes n).row). absurd (stay-other e (q.nodes n).row stay refused.1))
          (λ (known : IsRefusalKnown q n e). inl known.1) other)
          (offered-goes q.nodes n e p.front.row q.front.row g.front offered)) h.1,
    )

offer-grows : (p q : Part) (n e : ℕ) → Grows p q → FrontSaid p n e kind.Offer → FrontSaid q n e kind.Offer
offer-grows p q n e g h = ⊎_elim
    (λ (decided : IsDecided e (p.nodes n).row). inl (decided-grows e (p.nodes n).row (q.nodes n).row (g.nodes n) decided))
    (λ (other : IsOffered n e p.front.row ⊎ IsRefusalKnown p n e). ⊎_elim
    (λ (offered : IsOffered n e p.front.row). ⊎_elim
    (λ (still : IsOffered n e q.front.row). inr (inl still))
    (λ (now : IsDecided e (q.nodes n).row ⊎ IsRefusalKnown q n e). ⊎_elim
    (λ (decided : IsDecided e (q.nodes n).row). inl decided) (λ (known : IsRefusalKnown q n e). inr (inr known)) now)
    (offered-grows q.nodes n e p.front.row q.front.row g.front offered))
    (λ (known : IsRefusalKnown p n e). inr (inr (g.refusals n e known.0, ended-grows q.nodes e p.front.row q.front.row g.front known.1))) other) h

front_said-grows : (p q : Part) (n e : ℕ) (k : Kind) → Grows p q → FrontSaid p n e k → FrontSaid q n e k
front_said-grows p q n e kind.Offer g h = offer-grows p q n e g h
front_said-grows p q n e kind.EndedAck g h = ended-grows q.nodes e p.front.row q.front.row g.front h
front_said-grows p q n e kind.Given g h = ended-grows q.nodes e p.front.row q.front.row g.front h
front_said-grows p q n e _ g h = tt

node_said-grows : (p q : Part) (n e : ℕ) (k : Kind) → Grows p q → NodeSaid p n e k → NodeSaid q n e k
node_said-grows p q n e kind.Offer g h = absurd h
node_said-grows p q n e kind.Taken g h = decided-grows e (p.nodes n).row (q.nodes n).row (g.nodes n) h
node_said-grows p q n e kind.Ended g h = over-grows e (p.nodes n).row (q.nodes n).row (g.nodes n) h
node_said-grows p q n e kind.Give g h = (over-grows e (p.nodes n).row (q.nodes n).row (g.nodes n) h.0, g.returns n h.1)
node_said-grows p q n e kind.Refused g h = told-grows p q n e g h
node_said-grows p q n e _ g h = tt

other_said-grows : (o r : Option BackRow) (e : ℕ) (k : Kind) → BackGrows o r → OtherSaid o e k → OtherSaid r e k
other_said-grows o r e kind.Fetch g h = decided-grows e o r g h
other_said-grows o r e _ g h = tt

pub may_say-grows : (p q : Part) (from to : Place) (h : Option Head) → Grows p q → MaySay p from to h → MaySay q from to h
may_say-grows p q Front (Node n) (Some h) g m = front_said-grows p q n h.epoch h.kind g m
may_say-grows p q (Node n) Front (Some h) g m = node_said-grows p q n h.epoch h.kind g m
may_say-grows p q (Node n) (Node k) (Some h) g m = other_said-grows (p.nodes n).row (q.nodes n).row h.epoch h.kind (g.nodes n) m
may_say-grows p q _ _ _ g m = tt

pub letters-grow : (p q : Part) → Grows p q → (ls : List Letter) → Each (LetterMay p) ls → Each (LetterMay q) ls
letters-grow p q g ls h = Each-weaker (LetterMay p) (LetterMay q) (λ l. may_say-grows p q l.from l.to _ g) ls h

-- ---- epochs rise

pub past-later : (e d : ℕ) (o : Option BackRow) → e ≤ d → IsPast e o → IsPast d o
past-later e d None le h = tt
past-later e d (Some row) le h = (omega (arith, le, h.0), h.1)

-- the epoch of what the front end has of it, or 0 where nobody took it
abbrev pub front_epoch : Option FrontRow → ℕ
front_epoch None = 0
front_epoch (Some row) = row.epoch.0

-- what it has is of this epoch, or of a later one
abbrev pub IsFrom : ℕ → Option FrontRow → Type 0
IsFrom e None = Unit {0}
IsFrom e (Some row) = e ≤ row.epoch.0

pub grows-from : (nodes : ℕ → NodePart) (o r : Option FrontRow) → FrontGrows nodes o r → IsFrom (front_epoch o) r
grows-from nodes o None g = tt
grows-from nodes None (Some next) g = omega arith
grows-from nodes (Some row) (Some next) g = g.0
