-- What comes to the front end, once for the laws of this crate: a segment is a word of the client's, the cluster begins with the number that it was
-- given, an end that it does not know yet is told truly, and what a refusal rests on was offered.
use Rattle.std.proofs.Common.{◌≡◌, ◌⊎◌, ◌<◌, ℕ, true, false, List, [], ◌∷◌, None, Some, Result, Ok, ⊎_elim, refl, sym, ap, ◌∙◌, subst, arith, eqb-true}
use Rattle.lard_law_view.specs.Prelude.{AreSent, Client, Conn, EndpointParts, FilesAt, Front, FrontConn, FrontEnv, FrontRow, GoesBetween, IsConnSound, IsMachine, IsWord, Kept, Node, Place, Said, Seen, SegFault, SpellsMessage, Station, Talk, ToCluster, Verdict, Was, decoded, is_away, parts_kept, tale_at}
use Rattle.lard_law_connections.specs.BytesAgreement.{IsFair, IsFairOn, IsOpen}
use Rattle.lard_law_connections.proofs.BytesClientMoves.{has-fair, was-between}
use Rattle.lard_law_connections.specs.Places.{HasEnded, Sits, StageSits, owning}
use Rattle.lard_law_connections.proofs.PlacesTurns.{IsPlaced}
use Rattle.lard_law_connections.proofs.ReturnedParts.{ReadsOffer, reads-offer}
use Rattle.lard_handoff_front.specs.declared.row.FrontConn.TheVariants as stage
use Rattle.lard_law_view.proofs.EachFront.{HasSegment}
use Rattle.lard_law_view.proofs.Naming.{decoded-names}
use Rattle.lard_laws.proofs.NodeDeeds.{same-said}
use Rattle.lard_message.specs.declared.message.Body.TheVariants as body
use Rattle.lard_message.proofs.Fields.{some_same}
use Rattle.lard_segment.proofs.Again.{again}

module _ (x : Conn) (s : Station) (env : FrontEnv) (bytes : List ℕ) (heads : List Seen) where
  pub heard-word : (files : FilesAt) (l : Talk) (pend : List Verdict) → IsOpen files x l pend s → (said : Said)
      → HasSegment x env bytes (Ok said) heads → IsWord l.w said
  heard-word files l pend o said m =
      let f : IsFairOn l x.c x.part (Client x.c) Front bytes =
      has-fair (IsFair l x.c x.part) (record { from = Client x.c; to = Front; bytes = bytes }) x.letters m.was o.fair in
      let read : decoded bytes x.c ToCluster ≡ Ok f.0 = ap (λ (b : List ℕ). decoded b x.c ToCluster) f.1 ∙ again x.c ToCluster f.0 f.2.sendable in
      subst (IsWord l.w) (same-said f.0 said (sym read ∙ sym m.read)) f.2

  pub heard-number : x.part.station ≡ Some s → (given : Result Said SegFault) → HasSegment x env bytes given heads → env.iss ≡ s.iss
  heard-number there given m = m.iss_is ∙ ap (λ (t : Station). t.iss) (same m.station (sym m.there ∙ there)) where
    same : (t : Station) → Some t ≡ Some s → t ≡ s
    same t e = cc

-- a connection that is away is so in the epoch of its row
away-epoch : (x : Conn) (epoch now : ℕ) (st : FrontConn) → StageSits now (owning (tale_at x)) x.part.nodes st → is_away epoch st ≡ true
    → now ≡ epoch
away-epoch x epoch now (stage.Offering n e) sits away = sym sits.1 ∙ eqb-true e.0 epoch away
away-epoch x epoch now (stage.Moved n e) sits away = sym sits.1 ∙ eqb-true e.0 epoch away
away-epoch x epoch now _ sits away = let no : false ≡ true = away in absurd cc

pub new-end : (A : Type 0) (x : Conn) → IsPlaced x → (epoch : ℕ) → HasEnded epoch x.part.front.row ⊎ A → (row : FrontRow)
    → x.part.front.row ≡ Some row → is_away epoch row.stage ≡ true → A
new-end A x at epoch told row found away =
    let same : row.epoch.0 ≡ epoch = away-epoch x epoch row.epoch.0 row.stage (subst (Sits (owning (tale_at x)) x.part.nodes) found at.sits).0 away in
    ⊎_elim
    (λ (e : HasEnded epoch x.part.front.row).
    absurd (let less : epoch < row.epoch.0 = subst (HasEnded epoch) found e in omega (arith, less, same)))
    (λ (a : A). a) told

-- ---- a connection that comes back

-- What the front end keeps of an Offer is a packet to a node.
pub record IsKeptOffer (x : Conn) (parts : EndpointParts) : Type 0 where
  pub first : Kept
  pub rest : List Kept
  pub kept_is : x.part.front.kept ≡ first ∷ rest
  pub node : ℕ
  pub to_is : first.to ≡ Node node
  pub epoch : ℕ
  pub spells : SpellsMessage x.c epoch (body.Offer parts) first.bytes
  pub was : Was x Front (Node node) first.bytes

module _ (x : Conn) (sound : IsConnSound x) (parts : EndpointParts) where
  to-node : (to : Place) (bytes : List ℕ) → IsMachine to → GoesBetween x.c Front to bytes → (n : ℕ) × (to ≡ Node n)
  to-node (Node n) bytes machine between = (n, refl)
  to-node Front bytes machine between = absurd between
  to-node (Client d) bytes machine between = absurd machine

  of-kept : (ks : List Kept) → x.part.front.kept ≡ ks → AreSent x Front ks → parts_kept ks ≡ Some parts → IsKeptOffer x parts
  of-kept [] kept sent is = let no : None ≡ Some parts = is in absurd cc
  of-kept (q ∷ qs) kept sent is =
      let o : ReadsOffer q.bytes parts = reads-offer q.bytes parts is in
      let to = to-node q.to q.bytes sent.0.0 (was-between x Front q.to q.bytes sound sent.0.1) in
      let was : Was x Front (Node to.0) q.bytes = subst (λ (z : Place). Was x Front z q.bytes) to.1 sent.0.1 in
      let own : o.read.c ≡ x.c = some_same o.read.c x.c (sym (decoded-names o.read q.bytes o.reads).named ∙ was-between x Front (Node to.0) q.bytes sound was) in
      record {
        first = q;
        rest = qs;
        kept_is = kept;
        node = to.0;
        to_is = to.1;
        epoch = o.read.epoch.0;
        spells = o.reads ∙ (λ i. Ok (record o.read { c = own i; body = o.offers i }));
        was = was;
      }

  pub kept-offer : parts_kept x.part.front.kept ≡ Some parts → IsKeptOffer x parts
  kept-offer is = of-kept x.part.front.kept refl sound.front is
