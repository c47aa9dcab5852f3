-- What a node does leaves the last Tag with as many nodes as requests wait for one.
use Rattle.std.proofs.Common.{◌≡◌, ◌⊎◌, ◌+◌, ℕ, true, List, [], length, Option, Some, None, refl, sym, ap, ◌∙◌, subst, arith, inl, inr, ⊎_elim, Bool, ◌||◌}
use Rattle.std.proofs.lemmas.Bool.{both_ways}
use Rattle.lard_law_view.specs.Prelude.{Adopt, BackRow, Conn, ControlBlock, EndpointParts, FilesAt, FrontRest, NodeDeed, NodeEnv, NodePart, Seen, Stay, front_rest, goes_on, grown, here, is_ended, is_gone, is_row_at, named_paths, node_begins, node_does, node_rests, offer_answer, offered_by, reads_batch, state_of, taken_sent}
use Rattle.lard_law_connections.proofs.KeptHere.{IsHere, here-is}
use Rattle.lard_law_connections.proofs.KeptNodes.{DeedGoes, IsOfEpoch, MayFollow, OfferFollows, StayFollows}
use Rattle.lard_law_connections.specs.Places.{IsPast}
use Rattle.lard_law_connections.proofs.PlacesNodeRules.{not-decided}
use Rattle.lard_law_connections.proofs.PlacesTurns.{IsPlaced}
use Rattle.lard_laws.specs.Tags.{FitsAt, NamesNodes}
use Rattle.lard_law_view.proofs.Parts.{put-each}
use Rattle.lard_laws.proofs.WaysFrontAnswers.{with-of}
use Rattle.lard_laws.specs.WaysState.{GoesItsWay, IsAway, SeatWays, StageWays, StayWays, marks_at}
use Rattle.lard_handoff_back.specs.declared.row.BackConn.TheVariants as back
use Rattle.lard_handoff_back.specs.declared.table.Adopt.TheVariants.{New, Refuse}
use Rattle.lard_rules.specs.Node.{Drops, Says, Does}

-- what is known of a connection beside its Tags
pub record Facts (files : FilesAt) (x : Conn) : Type 0 where
  pub placed : IsPlaced x
  pub ways : GoesItsWay files x

-- ---- what is known of its Asks

module _ (files : FilesAt) (x : Conn) (facts : Facts files x) (n e : ℕ) (r : FrontRest) (at : is_row_at n e x.part.front.row ≡ true) (found : x.part.front.rest ≡ Some r) where
  abbrev p : NodePart
  p = x.part.nodes n

  -- it is away with this node, in this epoch
  away-is : IsAway files (marks_at x) r n e p
  away-is =
      let w = with-of x n e facts.placed at in
      let seat : StageWays files (marks_at x) x.part w.row.epoch.0 w.row.stage = subst (SeatWays files (marks_at x) x.part) w.found facts.ways.seat in
      subst (λ (t : FrontRest × ℕ). IsAway files (marks_at x) t.0 n t.1 p) (λ i. (ap front_rest found i, w.same i)) ((w.away files (marks_at x) x.part w.found).0 seat)

  -- its last Ask was answered, or not yet
  pub asks-are : (b : ControlBlock) (s : Stay) → IsHere e p b s → (s.asks ≡ r.asks) ⊎ ((s.asks ≡ r.asks + 1) × (named_paths files s.batch ≡ [] → ⊥))
  asks-are b s h = ⊎_elim
      (λ past. absurd (subst (λ (o : Option BackRow). IsPast e o) h.row past.0).1)
      (λ there.
      let stay : StayWays files n (marks_at x) r (Some s) = subst (StayWays files n (marks_at x) r) h.stay there.1.stay in
      ⊎_elim (λ (q : _). inl q.0) (λ (q : _). inr (q.0, q.2)) stay.asking)
      away-is.1

  -- where an Offer of this epoch is new, no Ask was answered
  pub none-answered : offer_answer e p.row ≡ New → r.asks ≡ 0
  none-answered new = ⊎_elim (λ past. past.1.asks) (λ there. absurd (not-decided e p.row new there.0)) away-is.1

-- ---- a rule of a node

-- it has no stay, or one that is over
abbrev is_over : Option BackRow → Bool
is_over None = true
is_over (Some row) = is_ended row.stage || is_gone row.stage

module _ (N : ℕ → Type 0) (files : FilesAt) (x : Conn) (facts : Facts files x) (h : NamesNodes N files x) (n : ℕ) where
  abbrev ours : NodePart
  ours = x.part.nodes n

  -- the new part is of the epoch, and its stay goes on
  from-row : (d e : ℕ) (b : ControlBlock) (q : NodePart) → IsOfEpoch d q.row → q.row ≡ Some (record { stage = back.Here b; epoch = record { 0 = e } }) → e ≡ d
  from-row d e b q of row = subst (IsOfEpoch d) row of

  goes-on : (d : ℕ) (b0 : ControlBlock) (s0 : Stay) (q : NodePart) → IsHere d ours b0 s0 → MayFollow files s0.asks (named_paths files s0.batch) q.stay → IsOfEpoch d q.row → FitsAt files x.part.front n q
  goes-on d b0 s0 q was follows of e b s r at row stay rest answered =
      let same : e ≡ d = from-row d e b q of row in
      let then : is_row_at n d x.part.front.row ≡ true = subst (λ (i : ℕ). is_row_at n i x.part.front.row ≡ true) same at in
      let goes : StayFollows files s0.asks (named_paths files s0.batch) s = subst (MayFollow files s0.asks (named_paths files s0.batch)) stay follows in
      ⊎_elim
      (λ (k : (s.asks ≡ s0.asks) × ((named_paths files s.batch ≡ []) ⊎ (named_paths files s.batch ≡ named_paths files s0.batch))). ⊎_elim
      (λ (none : named_paths files s.batch ≡ []). inl none)
      (λ (as_was : named_paths files s.batch ≡ named_paths files s0.batch).
      subst (λ (ps : List (List ℕ)). (ps ≡ []) ⊎ (length r.tag ≡ length ps)) (sym as_was) (h.fits n d b0 s0 r then was.row was.stay rest (sym k.0 ∙ answered)))
      k.1)
      (λ (more : s.asks ≡ s0.asks + 1). ⊎_elim
      (λ (one : s0.asks ≡ r.asks). absurd (omega (arith, one, more, answered)))
      (λ (two : (s0.asks ≡ r.asks + 1) × (named_paths files s0.batch ≡ [] → ⊥)). absurd (let asks = two.0 in omega (arith, asks, more, answered)))
      (asks-are files x facts n d r then rest b0 s0 was))
      goes

  abbrev pub DeedFits : NodeDeed → Type 0
  DeedFits Drops = Unit {0}
  DeedFits (Says ms) = Unit {0}
  DeedFits (Does given) = FitsAt files x.part.front n given.0

  pub goes-fit : (e : ℕ) (d : NodeDeed) → DeedGoes files e (here e ours) d → DeedFits d
  goes-fit e Drops k = tt
  goes-fit e (Says ms) k = tt
  goes-fit e (Does given) k = go (here e ours) refl k where
    go : (o : Option (ControlBlock × Stay)) → here e ours ≡ o → DeedGoes files e o (Does given) → FitsAt files x.part.front n given.0
    go None is l = absurd l
    go (Some y) is l = goes-on e y.0 y.1 given.0 (here-is e ours y.0 y.1 is) l.0 l.1

  -- a stay that begins
  begins : (d : ℕ) (q : NodePart) → offer_answer d ours.row ≡ New → MayFollow files 0 [] q.stay → IsOfEpoch d q.row → FitsAt files x.part.front n q
  begins d q new follows of e b s r at row stay rest answered =
      let same : e ≡ d = from-row d e b q of row in
      let then : is_row_at n d x.part.front.row ≡ true = subst (λ (i : ℕ). is_row_at n i x.part.front.row ≡ true) same at in
      let none : r.asks ≡ 0 = none-answered files x facts n d r then rest new in
      let goes : StayFollows files 0 [] s = subst (MayFollow files 0 []) stay follows in
      ⊎_elim
      (λ (k : (s.asks ≡ 0) × ((named_paths files s.batch ≡ []) ⊎ (named_paths files s.batch ≡ []))). ⊎_elim (λ (e : named_paths files s.batch ≡ []). inl e) (λ (e : named_paths files s.batch ≡ []). inl e) k.1)
      (λ (more : s.asks ≡ 0 + 1). absurd (omega (arith, more, none, answered)))
      goes

  pub offered-fit : (env : NodeEnv) (parts : EndpointParts) (a : Adopt) → (a ≡ New → offer_answer env.epoch ours.row ≡ New)
      → OfferFollows files env.epoch a (offered_by env parts ours a) → DeedFits (offered_by env parts ours a)
  offered-fit env parts New new f = begins env.epoch (node_rests env ours (taken_sent env) (goes_on env (state_of (reads_batch env true (node_begins env parts))))).0 (new refl) f.0 f.1
  offered-fit env parts Refuse new f = h.fits n
  offered-fit env parts _ new f = tt

  -- without a stay it fits
  pub over-fits : (q : NodePart) → is_over q.row ≡ true → FitsAt files x.part.front n q
  over-fits q over e b s r at row stay rest answered = absurd (both_ways (is_over q.row) (ap is_over row) over)

  -- ---- its move

  pub node-move : (heads : List Seen) (d : NodeDeed) → DeedFits d → NamesNodes N files (grown x (node_does x n heads d))
  node-move heads Drops k = record { nodes = h.nodes; fits = h.fits }
  node-move heads (Says ms) k = record { nodes = h.nodes; fits = h.fits }
  node-move heads (Does given) k = record { nodes = h.nodes; fits = put-each x.part.nodes n given.0 (λ m p. FitsAt files x.part.front m p) k (λ m other. h.fits m) }
