-- The endpoint that a node adopts is the one that the front end froze.
use Rattle.std.proofs.Common.{◌≡◌, ◌⊎◌, ◌<◌, ◌-◌, ℕ, true, List, [], ◌∷◌, Option, Some, None, ⊎_elim, refl, sym, ap, ◌∙◌, subst, arith}
use Rattle.lard_law_view.specs.Prelude.{Conn, ControlBlock, EndpointParts, Epoch, FilesAt, Front, FrontConn, FrontRow, IsConnNumber, IsConnSound, IsStream, Kept, Message, Node, NodePart, Part, Place, Seen, SpellsMessage, Station, Stream, Talk, Verdict, Was, adopted, decoded_message, may_freeze, offer_answer, parts_of, restored, resumed, tale_at}
use Rattle.lard_law_connections.specs.BytesAgreement.{AwayAgrees, FrontHolds, IsFair, IsKept, IsOffering, IsOpen, NodeAgrees, SeatAgrees, StageAgrees}
use Rattle.lard_law_connections.proofs.BytesClientMoves.{has-fair}
use Rattle.lard_law_connections.proofs.BytesFair.{told-kept}
use Rattle.lard_law_connections.proofs.BytesMessages.{offers-read}
use Rattle.lard_law_connections.proofs.BytesReturns.{refused-offering, refused-parts}
use Rattle.lard_law_connections.specs.Places.{HasEnded, Head, IsDecided, IsPast, Owning, Sits, StageSits, message_head, owning, IsOffered, Offers}
use Rattle.lard_law_connections.proofs.PlacesFrontMessages.{IsRefusedThere, offer-says, refused-there}
use Rattle.lard_law_connections.proofs.PlacesHeads.{decoded-head, head, spelled-head}
use Rattle.lard_law_connections.proofs.PlacesNodeRules.{not-decided}
use Rattle.lard_law_connections.proofs.PlacesTurns.{IsPlaced, early-at}
use Rattle.lard_endpoint.proofs.Adoption.{Stands, frozen_stands}
use Rattle.lard_handoff_back.specs.declared.table.Adopt.TheVariants.{New}
use Rattle.lard_handoff_front.specs.declared.row.FrontConn.TheVariants as stage
use Rattle.lard_law_view.proofs.EachFront.{HasBack}
use Rattle.lard_law_view.proofs.EndpointStreams.{IsBetween}
use Rattle.lard_laws.specs.Acks.{Bounds, FrontBodyActs, PartsAct}
use Rattle.lard_laws.proofs.FrontComing.{IsKeptOffer, kept-offer}
use Rattle.lard_message.proofs.Fields.{some_same}
use Rattle.lard_message.specs.declared.kind.Kind.TheVariants as kind
use Rattle.lard_message.specs.declared.message.Body.TheVariants as body
use Rattle.lard_rules.proofs.FrontCases.{IsBack}
use Rattle.lard_rules.specs.Node.{message}
use Rattle.lard_law_view.proofs.Speaking.{speaks-stream}

-- ---- what is adopted

-- the endpoint that was frozen, which owes an ACK
abbrev pub moved : ControlBlock → ControlBlock
moved b = record (adopted (parts_of b 0)) { recv = b.recv; send = b.send }

same-send : (b : ControlBlock) (count : ℕ) → Stands b → b.send.irs ≡ b.recv.irs → b.send ≡ resumed (parts_of b count)
same-send b count s irs = λ i. record b.send { irs = irs i; nxt = s.nxt_is i; rest = s.rest_is i; total = (let e : b.send.total ≡ b.send.una - 1 = omega (arith, s.una_is) in e) i; finished = s.finished_is i }

same-recv : (b : ControlBlock) → Stands b → b.recv ≡ restored b.recv.irs b.recv.got b.recv.fin b.recv.unread
same-recv b s = λ i. record b.recv { discarding = s.discarding_is i }

pub adopted-is : (b : ControlBlock) (count : ℕ) → Stands b → b.send.irs ≡ b.recv.irs → moved b ≡ adopted (parts_of b count)
adopted-is b count s irs = λ i. record (adopted (parts_of b count)) { recv = same-recv b s i; send = same-send b count s irs i }

-- so it is between the same two streams
pub adopted-between : (w out : Stream) (vs pend : List Verdict) (b : ControlBlock) (count : ℕ) → FrontHolds w out vs pend b count → may_freeze b ≡ true → IsBetween w out (adopted (parts_of b count))
adopted-between w out vs pend b count h frozen =
    let held = h.holds in
    subst (IsBetween w out) (adopted-is b count (frozen_stands b held.sound frozen) held.sound.same_irs)
    (record { same_irs = held.sound.same_irs; speaks = held.speaks; out_is = held.out_is; hears = held.hears })

-- ---- what an Offer has

-- an endpoint that the front end froze, which has answered all that it read
pub record IsOfferOf (l : Talk) (pend : List Verdict) (parts : EndpointParts) : Type 0 where
  pub block : ControlBlock
  pub count : ℕ
  pub frozen : may_freeze block ≡ true
  pub holds : FrontHolds l.w l.out l.vs pend block count
  pub same : parts ≡ parts_of block count

pub offered-between : (l : Talk) (pend : List Verdict) (parts : EndpointParts) → IsOfferOf l pend parts → IsBetween l.w l.out (adopted parts)
offered-between l pend parts of = subst (λ (q : EndpointParts). IsBetween l.w l.out (adopted q)) (sym of.same)
    (adopted-between l.w l.out l.vs pend of.block of.count of.holds of.frozen)

-- The front end offers the connection to a node to which an Offer is new, in that epoch, which the node has not decided.
pub record IsOfferedHere (x : Conn) (n epoch : ℕ) : Type 0 where
  pub row : FrontRow
  pub node : ℕ
  pub named : Epoch
  pub found : x.part.front.row ≡ Some row
  pub staged : row.stage ≡ stage.Offering node named
  pub node_is : node ≡ n
  pub epoch_is : named.0 ≡ epoch
  pub undecided : IsDecided epoch (x.part.nodes n).row → ⊥

pub new-offer : (x : Conn) → IsPlaced x → (n epoch : ℕ) (parts : EndpointParts) (bytes : List ℕ) → SpellsMessage x.c epoch (body.Offer parts) bytes → Was x Front (Node n) bytes
    → offer_answer epoch (x.part.nodes n).row ≡ New → IsOfferedHere x n epoch
new-offer x placed n epoch parts bytes spells was new =
    by-row x.part.front.row refl (⊎_elim (λ f. absurd (undecided f)) (λ f. f) (offer-says x placed n epoch parts bytes was spells)) where
      undecided : IsDecided epoch (x.part.nodes n).row → ⊥
      undecided = not-decided epoch (x.part.nodes n).row new

      by-stage : (row : FrontRow) → x.part.front.row ≡ Some row → (d : FrontConn) → row.stage ≡ d → Offers n epoch d → IsOfferedHere x n epoch
      by-stage row found (stage.Offering m e) staged offers =
          record { row = row; node = m; named = e; found = found; staged = staged; node_is = offers.0; epoch_is = offers.1; undecided = undecided }
      by-stage row found _ staged offers = absurd offers

      by-row : (q : Option FrontRow) → x.part.front.row ≡ q → IsOffered n epoch q → IsOfferedHere x n epoch
      by-row None found offers = absurd offers
      by-row (Some row) found offers = by-stage row found row.stage refl offers

first_bytes : List Kept → List ℕ
first_bytes [] = []
first_bytes (q ∷ qs) = q.bytes

module _ (files : FilesAt) (x : Conn) (number : IsConnNumber x.c) (at_place : IsPlaced x) (s : Station) (l : Talk) (pend : List Verdict) (o : IsOpen files x l pend s)
    (n epoch : ℕ) (parts : EndpointParts) (bytes : List ℕ) (spells : SpellsMessage x.c epoch (body.Offer parts) bytes) (was : Was x Front (Node n) bytes) where
  abbrev own : Owning
  own = owning (tale_at x)

  abbrev nodes : ℕ → NodePart
  nodes = x.part.nodes

  is_stream : IsStream l.w
  is_stream = subst IsStream (sym o.client.w_is) (speaks-stream s.client.send l.w.bytes o.client.speaks)

  told : IsDecided epoch (nodes n).row ⊎ (HasEnded epoch x.part.front.row ⊎ IsKept x.part.front.kept bytes)
  told = (has-fair (IsFair l x.c x.part) (record { from = Front; to = Node n; bytes = bytes }) x.letters was o.fair) _ spells

  -- one that its node has not decided is of the endpoint that the front end froze
  offer-is : (row : FrontRow) (m : ℕ) (d : Epoch) → x.part.front.row ≡ Some row → row.stage ≡ stage.Offering m d → m ≡ n → d.0 ≡ epoch → (IsDecided epoch (nodes n).row → ⊥) → IsOfferOf l pend parts
  unfolding first_bytes
  offer-is row m d found at mine when not =
      let sits : StageSits row.epoch.0 own nodes (stage.Offering m d) = subst (StageSits row.epoch.0 own nodes) at (subst (Sits own nodes) found at_place.sits).0 in
      let now : row.epoch.0 ≡ epoch = sym sits.1 ∙ when in
      let away : AwayAgrees l.w l.out l.vs pend l.was_reset x.c m row.epoch.0 x.part =
      subst (StageAgrees l.w l.out l.vs pend l.was_reset x.c x.part row.epoch.0) at (subst (SeatAgrees l.w l.out l.vs pend l.was_reset x.c x.part) found o.seat) in
      let kept : IsKept x.part.front.kept bytes = told-kept x.part n epoch bytes row found now not told in
      let offering : IsOffering l.w l.out l.vs pend x.c m row.epoch.0 x.part.front.kept = ⊎_elim
      (λ (a : IsPast row.epoch.0 (nodes m).row × IsOffering l.w l.out l.vs pend x.c m row.epoch.0 x.part.front.kept). a.1)
      (λ (a : IsDecided row.epoch.0 (nodes m).row × NodeAgrees l.w l.out l.vs pend l.was_reset x.c (nodes m)).
      absurd (not (subst (λ (e : ℕ). IsDecided e (nodes n).row) now (subst (λ (i : ℕ). IsDecided row.epoch.0 (nodes i).row) mine a.0)))) away in
      let spelled : message x.c row.epoch.0 (body.Offer (parts_of offering.block offering.count)) ≡ bytes = ap first_bytes (sym offering.kept_is ∙ kept.1) ∙ kept.2 in
      record {
        block = offering.block;
        count = offering.count;
        frozen = offering.frozen;
        holds = offering.holds;
        same = offers-read x.c row.epoch.0 l.w l.out l.vs pend offering.block offering.count number (let early = early-at x at_place row found in omega (arith, early)) is_stream offering.holds offering.frozen _ parts (ap decoded_message spelled ∙ spells) refl;
      }

  pub new-is : offer_answer epoch (nodes n).row ≡ New → IsOfferOf l pend parts
  new-is new = let f = new-offer x at_place n epoch parts bytes spells was new in offer-is f.row f.node f.named f.found f.staged f.node_is f.epoch_is f.undecided

-- ---- what an Offer tells

-- one that its node has not decided, in the epoch of the front end, has all that was taken
pub offered-acts : (b : Bounds) (p : Part) (c n epoch : ℕ) (parts : EndpointParts) → FrontBodyActs c b p n epoch (body.Offer parts) → (row : FrontRow)
    → p.front.row ≡ Some row
    → row.epoch.0 ≡ epoch → (IsDecided epoch (p.nodes n).row → ⊥) → PartsAct b parts
offered-acts b p c n epoch parts told row found now not = ⊎_elim (λ decided. absurd (not decided)) (λ other. ⊎_elim
    (λ (ended : HasEnded epoch p.front.row). let less : epoch < row.epoch.0 = subst (HasEnded epoch) found ended in absurd (omega (arith, less, now)))
    (λ (act : PartsAct b parts). act) other) told

-- ---- where its node refused it

-- an Offer of it was sent
pub record WasOffered (x : Conn) (n epoch : ℕ) (parts : EndpointParts) : Type 0 where
  pub bytes : List ℕ
  pub spells : SpellsMessage x.c epoch (body.Offer parts) bytes
  pub was : Was x Front (Node n) bytes

module _ (files : FilesAt) (x : Conn) (number : IsConnNumber x.c) (at_place : IsPlaced x) (s : Station) (l : Talk) (pend : List Verdict)
    (o : IsOpen files x l pend s) (n epoch : ℕ) (heads : List Seen) (comes : HasBack x n epoch None heads) (row : FrontRow) (parts : EndpointParts)
    (back : IsBack x.part.front n epoch None row parts) where
  abbrev offering : IsOffering l.w l.out l.vs pend x.c n row.epoch.0 x.part.front.kept
  offering = refused-offering files x s l pend o at_place n epoch heads comes row parts back

  -- what comes back is the endpoint that was frozen
  pub refused-is : IsOfferOf l pend parts
  refused-is = record {
    block = offering.block;
    count = offering.count;
    frozen = offering.frozen;
    holds = offering.holds;
    same = refused-parts files x s l pend o at_place n epoch heads comes row parts back number;
  }

  first_to : List Kept → Place
  first_to [] = Front
  first_to (q ∷ qs) = q.to

  -- as what is kept of it tells
  pub refused-was : IsConnSound x → WasOffered x n epoch parts
  unfolding first_bytes first_to
  refused-was sound =
      let there : IsRefusedThere x n epoch row = refused-there x at_place n epoch heads comes row parts back in
      let k : IsKeptOffer x parts = kept-offer x sound parts back.parts_are in
      let m : Message = record { c = x.c; epoch = record { 0 = row.epoch.0 }; body = body.Offer (parts_of offering.block offering.count) } in
      let bytes : message x.c row.epoch.0 m.body ≡ k.first.bytes = ap first_bytes (sym offering.kept_is ∙ k.kept_is) in
      let to : Node k.node ≡ Node n = sym k.to_is ∙ ap first_to (sym k.kept_is ∙ offering.kept_is) in
      let heads : Some (head kind.Offer row.epoch.0) ≡ Some (head kind.Offer k.epoch) =
      sym (spelled-head m (omega (arith, there.early, there.epoch_is))) ∙ ap message_head bytes ∙ decoded-head k.first.bytes _ k.spells in
      let same : k.epoch ≡ epoch = sym (ap (λ (h : Head). h.epoch) (some_same _ _ heads)) ∙ there.epoch_is in
      record {
        bytes = k.first.bytes;
        spells = subst (λ (e : ℕ). SpellsMessage x.c e (body.Offer parts) k.first.bytes) same k.spells;
        was = subst (λ (p : Place). Was x Front p k.first.bytes) to k.was;
      }
