-- All that the rules want given is so of each connection that the schedule did not touch, in every state that events lead to.
use Rattle.std.specs.Int.{from_be_bytes, to_be_bytes, w32}
use Rattle.std.proofs.lemmas.Nat.{from_be_bytes-to_be_bytes_4}
use Rattle.std.proofs.lemmas.Bool.{both_ways}
use Rattle.std.proofs.Common.{drop, take, ◌≡◌, ◌⊎◌, ◌≤◌, ◌<◌, ◌^◌, ℕ, false, List, [], ◌∷◌, Some, Ok, ⊎_elim, refl, sym, ap, ◌∙◌, subst, arith}
use Rattle.lard_law_view.specs.Prelude.{BackRow, Conn, EndpointParts, FilesAt, Front, FrontRow, IsConnNumber, IsStream, Kept, Node, Setting, SpellsMessage, Station, Stream, Talk, Verdict, Was, decoded_message, front_rest, offer_answer, parts_of, spelled_message, tale_at}
use Rattle.lard_base.specs.declared.place.TimerKind.TheVariants as kind
use Rattle.lard_bound.specs.Units.{Whole, whole_of}
use Rattle.lard_laws.specs.Acks.{OpenActs}
use Rattle.lard_law_connections.specs.BytesAgreement.{AwayAgrees, FrontTells, IsFair, IsKept, IsOffering, IsOpen, NodeAgrees, SeatAgrees, StageAgrees}
use Rattle.lard_law_connections.proofs.BytesMessages.{offers-read}
use Rattle.lard_law_connections.specs.Kept.{FrontKeeps, FrontRowKeeps, FrontStageKeeps}
use Rattle.lard_law_connections.specs.LimitsCounts.{CountsWhatWasServed}
use Rattle.lard_law_connections.specs.Places.{HasEnded, IsDecided, IsPast, Sits, StageSits, owning}
use Rattle.lard_law_connections.proofs.PlacesFrontMessages.{came-says, never-back, offer-says}
use Rattle.lard_law_connections.proofs.PlacesFrontRules.{has-each}
use Rattle.lard_law_connections.proofs.PlacesTurns.{IsPlaced, early-at}
use Rattle.lard_rules.specs.Front.{message}
use Rattle.lard_handoff_back.specs.declared.table.Adopt.TheVariants.{New}
use Rattle.lard_handoff_back.specs.Leaving.{is_this_epoch}
use Rattle.lard_handoff_front.specs.declared.row.FrontConn.TheVariants as stage
use Rattle.lard_law_settles.proofs.KnownCounting.{client-said, client-took, frozen-knows}
use Rattle.lard_law_settles.proofs.KnownKnowing.{IsPlacing, seat-knows}
use Rattle.lard_law_settles.proofs.KnownReturns.{IsUngiven, IsUnrefused}
use Rattle.lard_law_settles.proofs.KnownSitting.{IsOfferedAt, new-undecided, said-offered, sits-at, sits-fresh, sits-gone}
use Rattle.lard_law_settles.proofs.KnownSmall.{IsSmall, RowSmall, StageSmall}
use Rattle.lard_message.specs.declared.message.Body.TheVariants as body
use Rattle.lard_law_progress.proofs.Given.{IsNewOffer, Known}

-- What the law of what is kept, and the laws of ways, give beside: where the front end placed it, there is a request; a node to which an
-- Offer comes new keeps nothing of the connection; only nodes that are there have rows; and none refuses one, or gives one back.
pub record Beside (set : Setting) (w : Whole) (x : Conn) : Type 0 where
  pub leaves : (n : ℕ) → w.leaving n ≡ set.leaving n
  pub stays : (n : ℕ) → set.leaving n ≡ false  -- INTERIM: no node leaves yet
  pub asks : (row : FrontRow) → x.part.front.row ≡ Some row → IsPlacing row.stage → 1 ≤ w.requests
  pub idle : (n e : ℕ) → offer_answer e (x.part.nodes n).row ≡ New → ((x.part.nodes n).kept ≡ []) × ((x.part.nodes n).fetches ≡ [])
  pub there : (n : ℕ) (row : BackRow) → (x.part.nodes n).row ≡ Some row → (1 ≤ n) × (n ≤ set.nodes)
  pub keeps : FrontKeeps x.c x.part.front
  pub small : IsSmall x.part.front
  pub unrefused : IsUnrefused x
  pub ungiven : IsUngiven x

-- two Offers of the same bytes count as many responses
served-same : (c e d : ℕ) (p q : EndpointParts) → message c e (body.Offer p) ≡ message c d (body.Offer q) → p.served < 2 ^ 32 → q.served < 2 ^ 32 → p.served ≡ q.served
unfolding spelled_message
served-same c e d p q same a b =
    let bytes : to_be_bytes w32 p.served ≡ to_be_bytes w32 q.served = ap (λ (bs : List ℕ). take 4 (drop 39 bs)) same in
    sym (from_be_bytes-to_be_bytes_4 p.served a) ∙ ap (from_be_bytes w32) bytes ∙ from_be_bytes-to_be_bytes_4 q.served b

module _ (files : FilesAt) (x : Conn) (st : Station) (k : Talk) (pend : List Verdict) (o : IsOpen files x k pend st) (acts : OpenActs x st) (stream : ℕ) (counts : CountsWhatWasServed stream x) (placed : IsPlaced x)
    (number : IsConnNumber x.c) (w : Whole) (is : w ≡ whole_of files w.leaving k.w.bytes) (set : Setting) (beside : Beside set w x) where
  is-stream : IsStream k.w
  is-stream =
      let s = o.client.speaks in
      let count = s.part.count in
      let most = s.sound.most in record {
        number = subst (λ n. n < 2 ^ 32) (sym (ap (λ (y : Stream). y.first) o.client.w_is)) s.number;
        most = omega (arith, count, most);
      }

  -- ---- an Offer that is new

  module _ (n e : ℕ) (parts : EndpointParts) (bytes : List ℕ) (spells : SpellsMessage x.c e (body.Offer parts) bytes) (was : Was x Front (Node n) bytes) (new : offer_answer e (x.part.nodes n).row ≡ New) where
    at : IsOfferedAt x.part.front n e
    at = said-offered x.part.front n e (x.part.nodes n).row new (offer-says x placed n e parts bytes was spells)

    sits : StageSits at.row.epoch.0 (owning (tale_at x)) x.part.nodes (stage.Offering n (record { 0 = e }))
    sits = subst (StageSits at.row.epoch.0 (owning (tale_at x)) x.part.nodes) at.with_ (subst (Sits (owning (tale_at x)) x.part.nodes) at.front placed.sits).0

    agrees : AwayAgrees k.w k.out k.vs pend k.was_reset x.c n at.row.epoch.0 x.part
    agrees = subst (StageAgrees k.w k.out k.vs pend k.was_reset x.c x.part at.row.epoch.0) at.with_ (subst (SeatAgrees k.w k.out k.vs pend k.was_reset x.c x.part) at.front o.seat)

    offering : IsOffering k.w k.out k.vs pend x.c n at.row.epoch.0 x.part.front.kept
    offering = ⊎_elim
        (λ (p : IsPast at.row.epoch.0 (x.part.nodes n).row × IsOffering k.w k.out k.vs pend x.c n at.row.epoch.0 x.part.front.kept). p.1)
        (λ (d : IsDecided at.row.epoch.0 (x.part.nodes n).row × NodeAgrees k.w k.out k.vs pend k.was_reset x.c (x.part.nodes n)).
        absurd (new-undecided e (x.part.nodes n).row new (subst (λ i. IsDecided i (x.part.nodes n).row) (sym sits.1) d.0)))
        agrees

    -- the front end is not past it
    offered-still : HasEnded e x.part.front.row → ⊥
    offered-still h =
        let less : e < at.row.epoch.0 = subst (HasEnded e) at.front h in
        let same : e ≡ at.row.epoch.0 = sits.1 in
        omega (arith, less, same)

    -- it is the one that is kept
    kept : IsKept x.part.front.kept bytes
    kept =
        let fair = has-each (IsFair k x.c x.part) (record { from = Front; to = Node n; bytes = bytes }) x.letters was o.fair in
        let tells : FrontTells k x.c x.part n e bytes (body.Offer parts) = fair (record { c = x.c; epoch = record { 0 = e }; body = body.Offer parts }) spells in
        ⊎_elim (λ (d : IsDecided e (x.part.nodes n).row). absurd (new-undecided e (x.part.nodes n).row new d))
        (λ (h : HasEnded e x.part.front.row ⊎ IsKept x.part.front.kept bytes). ⊎_elim
        (λ (h : HasEnded e x.part.front.row). absurd (offered-still h)) (λ (i : IsKept x.part.front.kept bytes). i) h)
        tells

    its-bytes : bytes ≡ message x.c at.row.epoch.0 (body.Offer (parts_of offering.block offering.count))
    its-bytes =
        let one : Kept = record { kind = kind.Offer; r = 0; to = Node n; bytes = message x.c at.row.epoch.0 (body.Offer (parts_of offering.block offering.count)) } in
        let same : kept.0 ∷ [] ≡ one ∷ [] = sym kept.1 ∙ offering.kept_is in
        let k1 : kept.0 ≡ one = cc in
        sym kept.2 ∙ ap (λ (y : Kept). y.bytes) k1

    read : parts ≡ parts_of offering.block offering.count
    read =
        let small : at.row.epoch.0 < 2 ^ 16 = let early = early-at x placed at.row at.front in omega (arith, early) in
        offers-read x.c at.row.epoch.0 k.w k.out k.vs pend offering.block offering.count number small is-stream offering.holds offering.frozen
        (record { c = x.c; epoch = record { 0 = e }; body = body.Offer parts }) parts
        (subst (λ (bs : List ℕ). decoded_message bs ≡ Ok (record { c = x.c; epoch = record { 0 = e }; body = body.Offer parts })) its-bytes spells) refl

    -- as many as the front end does
    keeps : FrontStageKeeps x.c x.part.front (stage.Offering n (record { 0 = e }))
    keeps = subst (FrontStageKeeps x.c x.part.front) at.with_ (subst (FrontRowKeeps x.c x.part.front) at.front beside.keeps)

    small : (front_rest x.part.front.rest).count < 2 ^ 32
    small = subst (StageSmall (front_rest x.part.front.rest).count) at.with_ (subst (RowSmall (front_rest x.part.front.rest).count) at.front beside.small)

    serves : parts.served ≡ (front_rest x.part.front.rest).count
    serves =
        let own : EndpointParts = keeps.1.0 in
        let one : Kept = record { kind = kind.Offer; r = 0; to = Node n; bytes = message x.c e (body.Offer own) } in
        let same : kept.0 ∷ [] ≡ one ∷ [] = sym kept.1 ∙ keeps.1.1 in
        let k1 : kept.0 ≡ one = cc in
        let bytes_are : message x.c e (body.Offer own) ≡ message x.c at.row.epoch.0 (body.Offer (parts_of offering.block offering.count)) = sym (ap (λ (y : Kept). y.bytes) k1) ∙ kept.2 ∙ its-bytes in
        let count : own.served ≡ (front_rest x.part.front.rest).count = keeps.1.2 in
        let fits = small in
        let asked = offering.holds.serves.asked in
        let most : offering.block.recv.got ≤ 2 ^ 30 = offering.holds.serves.most in
        let is_own : own.served ≡ offering.count = served-same x.c e at.row.epoch.0 own (parts_of offering.block offering.count) bytes_are (omega (arith, count, fits)) (omega (arith, asked, most)) in
        ap (λ (p : EndpointParts). p.served) read ∙ sym is_own ∙ count

    new-offer : IsNewOffer x.part st.client n e parts
    new-offer =
        let free = beside.idle n e new in
        let knows = frozen-knows files x.c st k o.client o.says w is offering.block [] offering.count offering.holds.holds offering.frozen in
        let una : parts.una ≡ offering.block.send.una = ap (λ (p : EndpointParts). p.una) read in
        record {
          row = at.row;
          front = at.front;
          with_ = at.with_;
          unrefused = ap (is_this_epoch e) (beside.unrefused n);
          unreturned = beside.ungiven n;
          kept = free.0;
          fetches = free.1;
          served = serves;
          una = omega (arith, knows, una);
        }

  -- ---- all of it

  pub known : Known set w x st
  known = record {
    leaves = beside.leaves;
    said = client-said files x.c st k o.client o.says w is;
    heard = client-took files x.c st k o.client o.says w is;
    seat = seat-knows files x st k pend o acts stream counts w is beside.asks;
    fresh = sits-fresh (owning (tale_at x)) x.part.nodes beside.unrefused x.part.front.row placed.sits;
    homes = λ n e b at. sits-at (owning (tale_at x)) x.part.front x.part.nodes placed.sits n e b at;
    unreturned = λ n e b at. beside.ungiven n;
    there = beside.there;
    offers = new-offer;
    unseen = λ n e parts bytes spells was leaving new. absurd (both_ways (set.leaving n) (beside.stays n) leaving);
    ends = λ n e why snd rcv count bytes spells was row at t.
        sits-gone (owning (tale_at x)) x.part n e beside.ungiven
        (came-says x (Node n) Front e (body.Ended why snd rcv count) bytes placed.letters was spells) row at placed.sits t;
    returns = λ n e given bytes spells was row parts is. absurd (never-back x placed n e given bytes was spells);
  }
