-- What packets say of Asks, Tags and Offers stays so while the front end and the nodes go on.
use Rattle.std.proofs.Common.{◌≡◌, ◌≤◌, ◌+◌, ◌⊎◌, ℕ, true, List, [], ◌∷◌, ◌++◌, map, Option, Some, None, inl, inr, ⊎_elim, sym, ap, ◌∙◌, subst, arith}
use Rattle.lard_law_view.specs.Prelude.{Body, EndpointParts, FilesAt, Front, FrontRest, FrontRow, IsPrefix, Letter, Node, NodePart, Part, Place, Stay, front_rest, is_row_at, kind_of}
use Rattle.lard_answers.proofs.Growing.{IsPrefix-trans}
use Rattle.lard_law_connections.specs.Places.{FrontSaid, IsDecided, LetterMay, MaySay}
use Rattle.lard_law_connections.proofs.PlacesGrowing.{FrontGrows, Grows, decided-grows}
use Rattle.lard_law_connections.proofs.PlacesHeads.{decoded-head}
use Rattle.lard_laws.specs.WaysState.{AskIs, FrontSaysWays, IsBy, LetterWays, NodeSaysWays, OfferIs, SaysWays, StayAsks, TagIs}
use Rattle.lard_laws.specs.WaysUnder.{Assigned}
use Rattle.lard_laws.specs.Ways.{WayMarks, paths_assigned, paths_wanted}
use Rattle.lard_history.proofs.Each.{Each}
use Rattle.lard_message.specs.declared.kind.Kind.TheVariants as kind
use Rattle.lard_message.specs.declared.message.Body.TheVariants as body

-- ---- what a move carries on

-- it is where an Ask counts: at this node, in this epoch
abbrev pub Counts : Part → ℕ → ℕ → Type 0
Counts p i e = is_row_at i e p.front.row ≡ true

pub record Carries (files : FilesAt) (m n : WayMarks) (p q : Part) : Type 0 where
  pub grows : Grows p q
  pub ask : (i e number : ℕ) (ps : List (List ℕ)) → Counts q i e → IsDecided e (p.nodes i).row → (Counts p i e → AskIs files m (front_rest p.front.rest) (p.nodes i).stay number ps)
      → AskIs files n (front_rest q.front.rest) (q.nodes i).stay number ps
  pub tag : (i e number : ℕ) (nodes : List ℕ) → Counts q i e → IsBy e p.front.row → (Counts p i e → TagIs (front_rest p.front.rest) number nodes) → TagIs (front_rest q.front.rest) number nodes
  pub offer : (i e : ℕ) (parts : EndpointParts) → Counts q i e → FrontSaid p i e kind.Offer → (Counts p i e → IsDecided e (p.nodes i).row ⊎ OfferIs files m parts) → IsDecided e (q.nodes i).row ⊎ OfferIs files n parts

by-grows : (nodes : ℕ → NodePart) (e : ℕ) (o r : Option FrontRow) → FrontGrows nodes o r → IsBy e o → IsBy e r
by-grows nodes e None r g h = absurd h
by-grows nodes e (Some row) None g h = absurd g
by-grows nodes e (Some row) (Some next) g h = omega (arith, g.0, h)

module _ (files : FilesAt) (m n : WayMarks) (p q : Part) (c : Carries files m n p q) where
  node-on : (i e : ℕ) (b : Body) → NodeSaysWays files m p i e b → NodeSaysWays files n q i e b
  node-on i e (body.Ask number queue size paths) h = (decided-grows e (p.nodes i).row (q.nodes i).row (c.grows.nodes i) h.0, λ at. c.ask i e number paths at h.0 h.1)
  node-on i e _ h = h

  front-on : (i e : ℕ) (b : Body) → FrontSaid p i e (kind_of b) → FrontSaysWays files m p i e b → FrontSaysWays files n q i e b
  front-on i e (body.Offer parts) said h = λ at. c.offer i e parts at said h
  front-on i e (body.Tag number nodes) said h = (by-grows q.nodes e p.front.row q.front.row c.grows.front h.0, λ at. c.tag i e number nodes at h.0 h.1)
  front-on i e _ said h = h

  says-on : (from to : Place) (bytes : List ℕ) → LetterMay p (record { from = from; to = to; bytes = bytes }) → SaysWays files m p from to bytes → SaysWays files n q from to bytes
  says-on (Node i) Front bytes may h = λ msg d. node-on i msg.epoch.0 msg.body (h msg d)
  says-on Front (Node i) bytes may h = λ msg d. front-on i msg.epoch.0 msg.body (subst (MaySay p Front (Node i)) (decoded-head bytes msg d) may) (h msg d)
  says-on _ _ bytes may h = h

  pub letters-on : (ls : List Letter) → Each (LetterMay p) ls → Each (LetterWays files m p) ls → Each (LetterWays files n q) ls
  letters-on [] may h = tt
  letters-on (l ∷ ls) may h = (says-on l.from l.to l.bytes may.0 h.0, letters-on ls may.1 h.1)

-- ---- the same Asks and Tags count

-- what was assigned is the same, and the client may have written more
pub record IsSame (files : FilesAt) (m n : WayMarks) : Type 0 where
  pub assigned : n.assigned ≡ m.assigned
  pub wanted : IsPrefix (paths_wanted files m) (paths_wanted files n)

module _ (files : FilesAt) (m n : WayMarks) (same : IsSame files m n) where
  pub paths-same : paths_assigned n ≡ paths_assigned m
  paths-same = ap (map (λ (a : Assigned). a.0)) same.assigned

  pub prefix-same : (ps : List (List ℕ)) → IsPrefix (paths_assigned m ++ ps) (paths_wanted files m) → IsPrefix (paths_assigned n ++ ps) (paths_wanted files n)
  prefix-same ps h = subst (λ (l : List (List ℕ)). IsPrefix (l ++ ps) (paths_wanted files n)) (sym paths-same) (IsPrefix-trans (paths_assigned m ++ ps) (paths_wanted files m) (paths_wanted files n) h same.wanted)

  pub assigned-same : IsPrefix (paths_assigned m) (paths_wanted files m) → IsPrefix (paths_assigned n) (paths_wanted files n)
  assigned-same h = subst (λ (l : List (List ℕ)). IsPrefix l (paths_wanted files n)) (sym paths-same) (IsPrefix-trans (paths_assigned m) (paths_wanted files m) (paths_wanted files n) h same.wanted)

  pub ask-same : (r : FrontRest) (o s : Option Stay) (number : ℕ) (ps : List (List ℕ)) → (StayAsks files (r.asks + 1) ps o → StayAsks files (r.asks + 1) ps s) → AskIs files m r o number ps → AskIs files n r s number ps
  ask-same r o s number ps stays h = ⊎_elim (λ (a : number ≤ r.asks). inl a)
      (λ (a : (number ≡ r.asks + 1) × IsPrefix (paths_assigned m ++ ps) (paths_wanted files m) × StayAsks files (r.asks + 1) ps o). inr (a.0, prefix-same ps a.1, stays a.2)) h

  -- an Offer is decided, or has still what was assigned last
  pub offer-on : (p q : Part) → Grows p q → (i e : ℕ) (parts : EndpointParts) → IsDecided e (p.nodes i).row ⊎ OfferIs files m parts → IsDecided e (q.nodes i).row ⊎ OfferIs files n parts
  offer-on p q grows i e parts h = ⊎_elim
      (λ (d : IsDecided e (p.nodes i).row). inl (decided-grows e (p.nodes i).row (q.nodes i).row (grows.nodes i) d))
      (λ (o : OfferIs files m parts). inr (o.0, o.1, o.2, same.assigned ∙ o.3, o.4)) h

  -- the front end keeps what it kept, and each node still awaits what its Ask names
  pub carries-same : (p q : Part) → Grows p q → q.front.row ≡ p.front.row → q.front.rest ≡ p.front.rest
      → ((i e : ℕ) (ps : List (List ℕ)) → Counts p i e → IsDecided e (p.nodes i).row → StayAsks files ((front_rest p.front.rest).asks + 1) ps (p.nodes i).stay → StayAsks files ((front_rest p.front.rest).asks + 1) ps (q.nodes i).stay)
      → Carries files m n p q
  carries-same p q grows row rest stays = record {
    grows = grows;
    ask = λ i e number ps at decided h.
        let was : Counts p i e = sym (ap (is_row_at i e) row) ∙ at in
        subst (λ (r : FrontRest). AskIs files n r (q.nodes i).stay number ps) (ap front_rest (sym rest)) (ask-same (front_rest p.front.rest) (p.nodes i).stay (q.nodes i).stay number ps (stays i e ps was decided) (h was));
    tag = λ i e number nodes at by h. subst (λ (r : FrontRest). TagIs r number nodes) (ap front_rest (sym rest)) (h (sym (ap (is_row_at i e) row) ∙ at));
    offer = λ i e parts at said h. offer-on p q grows i e parts (h (sym (ap (is_row_at i e) row) ∙ at));
  }

-- nothing counts any more, or not yet
pub carries-none : (files : FilesAt) (m n : WayMarks) (p q : Part) → Grows p q → ((i e : ℕ) → Counts q i e → ⊥) → Carries files m n p q
carries-none files m n p q grows none = record {
  grows = grows;
  ask = λ i e number ps at decided h. absurd (none i e at);
  tag = λ i e number nodes at by h. absurd (none i e at);
  offer = λ i e parts at said h. absurd (none i e at);
}
