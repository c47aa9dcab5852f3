-- An Offer that a node takes: which endpoint it brings, and which request was assigned with it.
use Rattle.std.proofs.Common.{◌≡◌, ◌≤◌, ◌<◌, ◌^◌, ◌⊎◌, ◌==◌, ℕ, true, List, [], ◌∷◌, ◌++◌, Option, Some, None, ⊎_elim, refl, sym, ap, ◌∙◌, subst, arith, eq-eqb}
use Rattle.std.proofs.lemmas.Bool.{and_from}
use Rattle.lard_law_view.specs.Prelude.{BackRow, Conn, EndpointParts, Epoch, FilesAt, Front, FrontConn, FrontRest, FrontRow, IsConnNumber, IsNodeEnv, Kept, Node, NodeEnv, NodePart, Setting, SpellsMessage, Station, Talk, Verdict, Was, decoded_message, front_rest, is_row_at, is_with, offer_answer, parts_of, tale_at}
use Rattle.lard_law_connections.proofs.BytesFair.{told-kept}
use Rattle.lard_law_connections.specs.BytesAgreement.{AwayAgrees, IsFair, IsKept, IsOffering, IsOpen, NodeAgrees, SeatAgrees, StageAgrees}
use Rattle.lard_law_connections.proofs.BytesClientMoves.{has-fair}
use Rattle.lard_law_connections.proofs.BytesMessages.{offers-read}
use Rattle.lard_law_connections.proofs.BytesNodeTurns.{talk-of}
use Rattle.lard_law_connections.specs.Places.{HasEnded, IsComing, IsDecided, IsOffered, IsPast, IsThere, Offers, Owning, Sits, StageSits, owning}
use Rattle.lard_law_connections.proofs.PlacesFrontMessages.{offer-says}
use Rattle.lard_law_connections.proofs.PlacesNodeRules.{not-decided}
use Rattle.lard_law_connections.proofs.PlacesTurns.{IsPlaced, early-at}
use Rattle.lard_laws.specs.WaysState.{BeginsWithRequest, GoesItsWay, IsAtHome, IsAway, IsPlacedOnce, LetterWays, OfferIs, SeatWays, StageWays, marks_at}
use Rattle.lard_laws.specs.WaysUnder.{Assigned}
use Rattle.lard_laws.specs.Ways.{WayMarks}
use Rattle.lard_handoff_back.specs.declared.table.Adopt.TheVariants.{New}
use Rattle.lard_handoff_front.specs.declared.row.FrontConn.TheVariants as stage
use Rattle.lard_message.specs.declared.message.Body.TheVariants as body
use Rattle.lard_rules.specs.Node.{message}

-- It is on its way from the front end, which froze this endpoint; the next request of that was assigned to this node, its home.
pub record IsTaken (files : FilesAt) (x : Conn) (l : Talk) (pend : List Verdict) (n epoch : ℕ) (parts : EndpointParts) : Type 0 where
  pub row : FrontRow
  pub found : x.part.front.row ≡ Some row
  pub to : Epoch
  pub staged : row.stage ≡ stage.Offering n to
  pub to_is : to.0 ≡ epoch
  pub epoch_is : row.epoch.0 ≡ epoch
  pub early : epoch < 2 ^ 16
  pub offering : IsOffering l.w l.out l.vs pend x.c n row.epoch.0 x.part.front.kept
  pub same : parts ≡ parts_of offering.block offering.count
  pub home : (marks_at x).home ≡ Some n
  pub once : IsPlacedOnce files (marks_at x) (front_rest x.part.front.rest) n
  pub next : BeginsWithRequest files offering.block.recv.unread once.path
  pub nobody : (tale_at x).owner ≡ None

-- the last of some assignments is of one path
last-path : (all xs ys : List Assigned) (a b : Assigned) → all ≡ xs ++ a ∷ [] → all ≡ ys ++ b ∷ [] → a.0 ≡ b.0
last-path all xs ys a b e f = sym (is xs a) ∙ ap last (sym e) ∙ ap last f ∙ is ys b where
  last : List Assigned → List ℕ
  last [] = []
  last (g ∷ []) = g.0
  last (g ∷ h ∷ gs) = last (h ∷ gs)

  is : (zs : List Assigned) (g : Assigned) → last (zs ++ g ∷ []) ≡ g.0
  is [] g = refl
  is (z ∷ []) g = refl
  is (z ∷ y ∷ zs) g = is (y ∷ zs) g

-- a node that has it has decided
there-decided : (n e : ℕ) (w : Owning) (row : Option BackRow) → IsThere n e w row → IsDecided e row
there-decided n e w None h = absurd h
there-decided n e w (Some row) h = let same = h.0 in omega (arith, same)

module _ (k : Setting) (small : k.stream ≤ 2 ^ 30) (x : Conn) (s : Station) (there : x.part.station ≡ Some s) (l : Talk) (pend : List Verdict) (o : IsOpen k.files x l pend s) (n epoch : ℕ) (env : NodeEnv) (is : IsNodeEnv k x.c n epoch env)
    (parts : EndpointParts) (bytes : List ℕ) (spells : SpellsMessage x.c epoch (body.Offer parts) bytes) (was : Was x Front (Node n) bytes) where
  abbrev files : FilesAt
  files = env.serve.files

  abbrev m : WayMarks
  m = marks_at x

  abbrev r : FrontRest
  r = front_rest x.part.front.rest

  abbrev p : NodePart
  p = x.part.nodes n

  told : IsDecided epoch p.row ⊎ (HasEnded epoch x.part.front.row ⊎ IsKept x.part.front.kept bytes)
  told = (has-fair (IsFair l x.c x.part) (record { from = Front; to = Node n; bytes = bytes }) x.letters was o.fair) _ spells

  first_bytes : List Kept → List ℕ
  first_bytes [] = []
  first_bytes (q ∷ qs) = q.bytes

  module _ (placed : IsPlaced x) (number : IsConnNumber x.c) (g : GoesItsWay files x) (not : IsDecided epoch p.row → ⊥) where
    -- it is on its way to this node
    taken-at : (row : FrontRow) (d : Epoch) → x.part.front.row ≡ Some row → row.stage ≡ stage.Offering n d → d.0 ≡ epoch → IsTaken files x l pend n epoch parts
    unfolding first_bytes
    taken-at row d found at when =
        let sits : StageSits row.epoch.0 (owning (tale_at x)) x.part.nodes (stage.Offering n d) = subst (StageSits row.epoch.0 (owning (tale_at x)) x.part.nodes) at (subst (Sits (owning (tale_at x)) x.part.nodes) found placed.sits).0 in
        let now : row.epoch.0 ≡ epoch = sym sits.1 ∙ when in
        let undecided : IsDecided row.epoch.0 p.row → ⊥ = λ a. not (subst (λ (e : ℕ). IsDecided e p.row) now a) in
        let away : AwayAgrees l.w l.out l.vs pend l.was_reset x.c n row.epoch.0 x.part =
        subst (StageAgrees l.w l.out l.vs pend l.was_reset x.c x.part row.epoch.0) at (subst (SeatAgrees l.w l.out l.vs pend l.was_reset x.c x.part) found o.seat) in
        let kept : IsKept x.part.front.kept bytes = told-kept x.part n epoch bytes row found now not told in
        let offering : IsOffering l.w l.out l.vs pend x.c n row.epoch.0 x.part.front.kept = ⊎_elim
        (λ (a : IsPast row.epoch.0 p.row × IsOffering l.w l.out l.vs pend x.c n row.epoch.0 x.part.front.kept). a.1)
        (λ (a : IsDecided row.epoch.0 p.row × NodeAgrees l.w l.out l.vs pend l.was_reset x.c p). absurd (undecided a.0)) away in
        let spelled : message x.c row.epoch.0 (body.Offer (parts_of offering.block offering.count)) ≡ bytes = ap first_bytes (sym offering.kept_is ∙ kept.1) ∙ kept.2 in
        let early = early-at x placed row found in
        let same : parts ≡ parts_of offering.block offering.count = offers-read x.c row.epoch.0 l.w l.out l.vs pend offering.block offering.count number (omega (arith, early))
        (talk-of k small x s there l pend o n env epoch is).stream offering.holds offering.frozen _ parts (ap decoded_message spelled ∙ spells) refl in
        let mine : IsAway files m r n row.epoch.0 p = subst (StageWays files m x.part row.epoch.0) at (subst (SeatWays files m x.part) found g.seat) in
        let once : IsPlacedOnce files m r n = ⊎_elim (λ (a : IsPast row.epoch.0 p.row × IsPlacedOnce files m r n). a.1)
        (λ (a : IsDecided row.epoch.0 p.row × IsAtHome files m r n p.stay). absurd (undecided a.0)) mine.1 in
        let counts : is_row_at n epoch x.part.front.row ≡ true =
        subst (λ (o : Option FrontRow). is_row_at n epoch o ≡ true) (sym found) (subst (λ (f : FrontConn). is_with n epoch f ≡ true) (sym at) (and_from (n == n) (d.0 == epoch) (eq-eqb n n refl) (eq-eqb d.0 epoch when))) in
        let offer : OfferIs files m parts = ⊎_elim (λ (a : IsDecided epoch p.row). absurd (not a)) (λ (a : OfferIs files m parts). a)
        ((has-fair (LetterWays files m x.part) (record { from = Front; to = Node n; bytes = bytes }) x.letters was g.letters) _ spells counts) in
        let paths : offer.1 ≡ once.path = last-path m.assigned offer.0 once.before (offer.1, offer.2) (once.path, n) offer.3 once.assigned in
        record {
          row = row;
          found = found;
          to = d;
          staged = at;
          to_is = when;
          epoch_is = now;
          early = omega (arith, early, now);
          offering = offering;
          same = same;
          home = mine.0;
          once = once;
          next = subst (λ (q : EndpointParts). BeginsWithRequest files q.unread once.path) same (subst (BeginsWithRequest files parts.unread) paths offer.4);
          nobody = ⊎_elim (λ (a : IsComing row.epoch.0 (owning (tale_at x)) p.row). a.0)
              (λ (a : IsThere n row.epoch.0 (owning (tale_at x)) p.row). absurd (undecided (there-decided n row.epoch.0 (owning (tale_at x)) p.row a))) sits.3;
        }

    taken-stage : (row : FrontRow) → x.part.front.row ≡ Some row → (d : FrontConn) → row.stage ≡ d → Offers n epoch d → IsTaken files x l pend n epoch parts
    taken-stage row found (stage.Offering i d) at f = taken-at row d found (at ∙ ap (λ (j : ℕ). stage.Offering j d) f.0) f.1
    taken-stage row found _ at f = absurd f

    taken-row : (row : Option FrontRow) → x.part.front.row ≡ row → IsOffered n epoch row → IsTaken files x l pend n epoch parts
    taken-row None found f = absurd f
    taken-row (Some row) found f = taken-stage row found row.stage refl f

  -- where it is new
  pub new-taken : IsPlaced x → IsConnNumber x.c → GoesItsWay files x → offer_answer env.epoch p.row ≡ New → IsTaken files x l pend n epoch parts
  new-taken placed number g new =
      let not : IsDecided epoch p.row → ⊥ = not-decided epoch p.row (subst (λ (i : ℕ). offer_answer i p.row ≡ New) is.epoch_is new) in
      let said : IsDecided epoch p.row ⊎ IsOffered n epoch x.part.front.row = offer-says x placed n epoch parts bytes was spells in
      taken-row placed number g not x.part.front.row refl (⊎_elim (λ f. absurd (not f)) (λ f. f) said)
