-- A connection that comes back leaves it in agreement: the front end goes on from the Offer that it kept, or from the Give.
use Rattle.std.proofs.Common.{◌≡◌, ◌⊎◌, ◌+◌, ◌≤◌, ◌^◌, ℕ, List, [], Option, Some, None, arith, refl, ◌∙◌, sym, subst, ⊎_elim}
use Rattle.lard_law_view.specs.Prelude.{Conn, ControlBlock, Ending, EndpointParts, FilesAt, FrontConn, FrontDeed, FrontEnv, FrontPart, FrontRest, FrontRow, Front, IsConnNumber, IsFrontEnv, IsStream, Node, NodePart, Place, Seen, Setting, Station, Talk, Verdict, back_part, back_rest, does_first, front_does, given_sent, holds, parts_of, placed, returned_row, serving_settled, spoken, stage_after, tale_at}
use Rattle.lard_law_connections.specs.BytesAgreement.{AwayAgrees, IsFair, IsKept, IsOffering, IsOpen, NodeAgrees, SeatAgrees}
use Rattle.lard_law_connections.specs.BytesKeeping.{FrontDeedKeeps, IsFrontTalk}
use Rattle.lard_law_connections.proofs.BytesClientMoves.{has-fair}
use Rattle.lard_law_connections.proofs.BytesFrontMessages.{past-undecided}
use Rattle.lard_law_connections.proofs.BytesFrontMoves.{GoesSo, IsKeptFrom, MessagesFair, OffersStill, deed-from, deed-goes, past-found}
use Rattle.lard_law_connections.proofs.BytesFronts.{Came, CameBack, away-not}
use Rattle.lard_law_connections.proofs.BytesFronts as fronts
use Rattle.lard_law_connections.proofs.BytesMessages.{kept-read}
use Rattle.lard_law_connections.proofs.BytesOver.{GivesBack, over-tells, told-give}
use Rattle.lard_law_connections.proofs.BytesTold.{bytes_of}
use Rattle.lard_law_connections.specs.Places.{ArePast, HasEnded, IsDecided, IsOffered, IsPast, Offers, owning}
use Rattle.lard_law_connections.proofs.PlacesFrontMessages.{IsRefusedThere, over-decided, refused-past, refused-there}
use Rattle.lard_law_connections.proofs.PlacesReturning.{IsGivenThere, given-past, given-there}
use Rattle.lard_law_connections.proofs.PlacesTurns.{IsPlaced, early-at}
use Rattle.lard_law_view.proofs.EachFront.{HasBack}
use Rattle.lard_law_view.proofs.Rows.{tale_before}
use Rattle.lard_law_view.proofs.Speaking.{speaks-stream}
use Rattle.lard_dispatch.specs.declared.dispatch.First.TheVariants as first
use Rattle.lard_handoff_front.specs.declared.row.FrontConn.TheVariants as stage
use Rattle.lard_message.proofs.Fields.{some_same}
use Rattle.lard_message.specs.declared.message.Body.TheVariants as body
use Rattle.lard_rules.specs.Front.{Does}
use Rattle.lard_rules.specs.declared.places.Ending.TheVariants as ending
use Rattle.lard_rules.proofs.FrontCases.{IsBack, IsInStage, KeptByReturn, of-stage, waiting_service}

-- ---- its node refused it

module _ (files : FilesAt) (x : Conn) (s : Station) (l : Talk) (pend : List Verdict) (o : IsOpen files x l pend s) (at_place : IsPlaced x)
    (n epoch : ℕ) (heads : List Seen) (comes : HasBack x n epoch None heads) (row : FrontRow) (parts : EndpointParts)
    (back : IsBack x.part.front n epoch None row parts) where
  at : IsInStage x.part.front row (stage.Offering n back.from)
  at = back.refused refl

  is_refused : IsRefusedThere x n epoch row
  is_refused = refused-there x at_place n epoch heads comes row parts back

  -- its node has not taken it
  untaken : IsPast row.epoch.0 (x.part.nodes n).row
  untaken = subst (λ (e : ℕ). IsPast e (x.part.nodes n).row) (sym is_refused.epoch_is) is_refused.coming.2

  -- so the Offer that is kept has its endpoint
  pub refused-offering : IsOffering l.w l.out l.vs pend x.c n row.epoch.0 x.part.front.kept
  refused-offering =
      let seat : AwayAgrees l.w l.out l.vs pend l.was_reset x.c n row.epoch.0 x.part =
      of-stage (SeatAgrees l.w l.out l.vs pend l.was_reset x.c x.part) x.part.front row (stage.Offering n back.from) at o.seat in
      ⊎_elim
      (λ (a : IsPast row.epoch.0 (x.part.nodes n).row × IsOffering l.w l.out l.vs pend x.c n row.epoch.0 x.part.front.kept). a.1)
      (λ (a : IsDecided row.epoch.0 (x.part.nodes n).row × NodeAgrees l.w l.out l.vs pend l.was_reset x.c (x.part.nodes n)).
      absurd (past-undecided row.epoch.0 (x.part.nodes n).row untaken a.0)) seat

  -- and that is what comes back
  pub refused-parts : IsConnNumber x.c → parts ≡ parts_of refused-offering.block refused-offering.count
  refused-parts number =
      let early = early-at x at_place row at.0 in
      let stream : IsStream l.w = subst IsStream (sym o.client.w_is) (speaks-stream s.client.send l.w.bytes o.client.speaks) in
      kept-read x.c n row.epoch.0 l.w l.out l.vs pend x.part.front.kept refused-offering number (omega (arith, early)) stream parts back.parts_are

-- ---- what the front end does

-- of what stays here no Offer is told
rests-unoffered : (n e : ℕ) (stays : ControlBlock → FrontConn) → ((b : ControlBlock) → Offers n e (stays b) → ⊥) → (g : Ending)
    → Offers n e (stage_after stays g) → ⊥
rests-unoffered n e stays none (ending.Here b count) o = none b o
rests-unoffered n e stays none (ending.Over last) o = o

module _ (k : Setting) (small : k.stream ≤ 2 ^ 30) (x : Conn) (s : Station) (there : x.part.station ≡ Some s) (env : FrontEnv) (is : IsFrontEnv k x.c env)
    (l : Talk) (pend : List Verdict) (o : IsOpen k.files x l pend s)
    (talk : IsFrontTalk env l.w l.out l.vs) (number : IsConnNumber x.c) (at_place : IsPlaced x) where
  abbrev p : FrontPart
  p = x.part.front

  abbrev Keeps : FrontDeed → Type 0
  Keeps d = FrontDeedKeeps k.files x.c l.w l.out l.vs l.was_reset d

  module _ (n epoch : ℕ) (heads : List Seen) (comes : HasBack x n epoch None heads) (row : FrontRow) (parts : EndpointParts)
      (back : IsBack p n epoch None row parts) where
    -- so it is for its files and its number
    abbrev KeptFor : FilesAt → ℕ → Type 0
    KeptFor files c = KeptByReturn env p [] row parts (Came env l.w l.out l.vs l.was_reset) (λ d. FrontDeedKeeps files c l.w l.out l.vs l.was_reset d)

    pub refused-keeps : KeptByReturn env p [] row parts (CameBack env l.w l.out l.vs l.was_reset p) Keeps
    refused-keeps =
        let offering = refused-offering k.files x s l pend o at_place n epoch heads comes row parts back in
        let held = offering.holds in
        let read = refused-parts k.files x s l pend o at_place n epoch heads comes row parts back number in
        let kept : KeptFor k.files x.c = subst (λ (files : FilesAt). KeptFor files x.c) is.files (subst (KeptFor env.serve.files) is.number
        (fronts.by-return env l.w l.out l.vs l.was_reset talk p row offering.block offering.count
        (record { none = refl; serves = held.serves; holds = held.holds }) offering.frozen parts read [] (λ q. tt))) in
        let away = away-not p row n back.from back.at in
        record {
          reads = λ not. kept.reads;
          holds = λ v came. kept.holds v (came away);
          hands = λ v path choice came is. kept.hands v path choice (came away) is;
          waits = λ v path came is. kept.waits v path (came away) is;
        }

    -- ---- what it does leaves it in agreement

    module _ (quiet : (d : FrontDeed) → bytes_of (tale_before x (front_does x heads d)) ≡ bytes_of (tale_at x)) where
      abbrev Goes : FrontDeed → Type 0
      Goes d = GoesSo k small x s there env is l pend o talk heads quiet d

      it : IsRefusedThere x n epoch row
      it = refused-there x at_place n epoch heads comes row parts back

      -- its Offer was of this epoch, and what is told behind it is of a later one
      offered-then : (i e : ℕ) → IsOffered i e p.row → e ≡ row.epoch.0
      offered-then i e offered =
          sym (of-stage (IsOffered i e) p row (stage.Offering n back.from) (back.refused refl) offered).1 ∙ back.epoch_is ∙ sym it.epoch_is

      goes : (d : FrontDeed) → MessagesFair k small x s there l pend o d → ((i e : ℕ) → OffersStill k small x s there l pend o i e d → ⊥)
          → Keeps d → Goes d
      goes d fair anew kept keeps help = deed-goes k small x s there l pend o heads d quiet anew
          (past-found k small x s there env is l pend o (Some row) it.found
          (subst (λ (e : ℕ). ArePast e x.part.nodes) (sym it.epoch_is) (refused-past x n epoch row it))) fair kept help

      refused-goes : KeptByReturn env p [] row parts (CameBack env l.w l.out l.vs l.was_reset p) Goes
      refused-goes =
          let q : FrontPart = back_part p row parts in
          let r : FrontRow = returned_row parts row in
          let rest : FrontRest = back_rest parts in
          let kept = refused-keeps in
          record {
            reads = kept.reads;
            holds = λ v came. goes (does_first [] [] (holds q r rest (serving_settled env.serve v))) tt
                (λ i e still. rests-unoffered i e stage.Held (λ b h. h) (serving_settled env.serve v).0 still.1) (kept.holds v came);
            hands = λ v path choice came is. goes (does_first [] [] (Does (placed env q r rest v path (first.Go choice)))) tt
                (λ i e still. omega (arith, still.1.1, offered-then i e still.0)) (kept.hands v path choice came is);
            waits = λ v path came is. goes (does_first [] [] (Does (placed env q r rest v path first.Waits))) tt
                (λ i e still. rests-unoffered i e stage.Waiting (λ b h. h) (spoken env.serve (waiting_service env v) []).0 still.1) (kept.waits v path came is);
          }

  -- ---- its node gave it back

  module _ (n epoch : ℕ) (given : EndpointParts) (heads : List Seen) (comes : HasBack x n epoch (Some given) heads) (row : FrontRow) (parts : EndpointParts)
      (back : IsBack p n epoch (Some given) row parts) where
    gave : IsGivenThere x n epoch row
    gave = given-there x at_place n epoch given heads comes row parts back

    abbrev node : NodePart
    node = x.part.nodes n

    -- what its node keeps agrees
    node-agrees : NodeAgrees l.w l.out l.vs pend l.was_reset x.c node
    node-agrees = ⊎_elim
        (λ (at : IsInStage p row (stage.Offering n back.from)).
        let seat : AwayAgrees l.w l.out l.vs pend l.was_reset x.c n row.epoch.0 x.part =
        of-stage (SeatAgrees l.w l.out l.vs pend l.was_reset x.c x.part) p row (stage.Offering n back.from) at o.seat in
        ⊎_elim
        (λ (a : IsPast row.epoch.0 node.row × IsOffering l.w l.out l.vs pend x.c n row.epoch.0 p.kept).
        absurd (past-undecided row.epoch.0 node.row a.0 (subst (λ (e : ℕ). IsDecided e node.row) (sym gave.epoch_is) (over-decided epoch node.row gave.over))))
        (λ (a : IsDecided row.epoch.0 node.row × NodeAgrees l.w l.out l.vs pend l.was_reset x.c node). a.1) seat)
        (λ (at : IsInStage p row (stage.Moved n back.from)).
        let seat : IsDecided row.epoch.0 node.row × NodeAgrees l.w l.out l.vs pend l.was_reset x.c node =
        of-stage (SeatAgrees l.w l.out l.vs pend l.was_reset x.c x.part) p row (stage.Moved n back.from) at o.seat in seat.1)
        back.at

    -- and the Give is the one that it keeps
    kept-give : IsKept node.kept comes.bytes
    kept-give =
        let told : HasEnded epoch p.row ⊎ IsKept node.kept comes.bytes =
        (has-fair (IsFair l x.c x.part) (record { from = Node n; to = Front; bytes = comes.bytes }) x.letters comes.was o.fair) _ comes.spells in
        ⊎_elim
        (λ (past : HasEnded epoch p.row). let less : HasEnded epoch (Some row) = subst (HasEnded epoch) gave.found past in absurd (omega (arith, less, gave.epoch_is)))
        (λ (k : IsKept node.kept comes.bytes). k) told

    gives : GivesBack l.w l.out l.vs pend l.was_reset x.c epoch node given
    gives =
        let early = gave.early in
        told-give l.w l.out l.vs pend l.was_reset x.c epoch node number (omega (arith, early)) talk.stream comes.bytes
        (over-tells l.w l.out l.vs pend l.was_reset x.c epoch node n (owning (tale_at x)) gave.there gave.over node-agrees)
        kept-give _ given comes.spells refl

    abbrev said : List (Place × List ℕ)
    said = given_sent env.serve.c n epoch (Some given)

    abbrev GivenFor : FilesAt → ℕ → Type 0
    GivenFor files c = KeptByReturn env p said row parts (Came env l.w l.out l.vs l.was_reset) (λ d. FrontDeedKeeps files c l.w l.out l.vs l.was_reset d)

    pub given-keeps : KeptByReturn env p said row parts (CameBack env l.w l.out l.vs l.was_reset p) Keeps
    given-keeps =
        let held = gives.back.holds in
        let kept : GivenFor k.files x.c = subst (λ (files : FilesAt). GivenFor files x.c) is.files (subst (GivenFor env.serve.files) is.number
        (fronts.by-return env l.w l.out l.vs l.was_reset talk p row gives.back.block gives.back.count
        (record { none = refl; serves = held.serves; holds = held.holds }) gives.back.frozen parts (sym (some_same given parts back.parts_are) ∙ gives.parts_are)
        said (λ q. ((n, epoch, body.Given, refl, tt), tt)))) in
        let away = away-not p row n back.from back.at in
        record {
          reads = λ not. kept.reads;
          holds = λ v came. kept.holds v (came away);
          hands = λ v path choice came is. kept.hands v path choice (came away) is;
          waits = λ v path came is. kept.waits v path (came away) is;
        }

    module _ (quiet : (d : FrontDeed) → bytes_of (tale_before x (front_does x heads d)) ≡ bytes_of (tale_at x)) where
      abbrev GivenGoes : FrontDeed → Type 0
      GivenGoes d = GoesSo k small x s there env is l pend o talk heads quiet d

      -- its Offer was of this epoch
      offered-once : (i e : ℕ) → IsOffered i e p.row → e ≡ row.epoch.0
      offered-once i e offered = ⊎_elim
          (λ (at : IsInStage p row (stage.Offering n back.from)).
          sym (of-stage (IsOffered i e) p row (stage.Offering n back.from) at offered).1 ∙ back.epoch_is ∙ sym gave.epoch_is)
          (λ (at : IsInStage p row (stage.Moved n back.from)). absurd (of-stage (IsOffered i e) p row (stage.Moved n back.from) at offered))
          back.at

      then : (d : FrontDeed) → MessagesFair k small x s there l pend o d → ((i e : ℕ) → OffersStill k small x s there l pend o i e d → ⊥)
          → IsKeptFrom k small x s there l pend o (epoch + 1) d → Keeps d → GivenGoes d
      then d fair anew from kept keeps help =
          deed-from k small x s there l pend o heads d quiet anew (epoch + 1) from (given-past x n epoch row gave) fair kept help

      given-goes : KeptByReturn env p said row parts (CameBack env l.w l.out l.vs l.was_reset p) GivenGoes
      given-goes =
          let q : FrontPart = back_part p row parts in
          let r : FrontRow = returned_row parts row in
          let rest : FrontRest = back_rest parts in
          let kept = given-keeps in
          let same = gave.epoch_is in
          record {
            reads = kept.reads;
            holds = λ v came. then (does_first [] said (holds q r rest (serving_settled env.serve v))) tt
                (λ i e still. rests-unoffered i e stage.Held (λ b h. h) (serving_settled env.serve v).0 still.1) (omega (arith, same)) (kept.holds v came);
            hands = λ v path choice came is. then (does_first [] said (Does (placed env q r rest v path (first.Go choice)))) tt
                (λ i e still. omega (arith, still.1.1, offered-once i e still.0)) (omega (arith, same)) (kept.hands v path choice came is);
            waits = λ v path came is. then (does_first [] said (Does (placed env q r rest v path first.Waits))) tt
                (λ i e still. rests-unoffered i e stage.Waiting (λ b h. h) (spoken env.serve (waiting_service env v) []).0 still.1) (omega (arith, same))
                (kept.waits v path came is);
          }

  -- ---- whatever comes back

  module _ (heads : List Seen) (quiet : (d : FrontDeed) → bytes_of (tale_before x (front_does x heads d)) ≡ bytes_of (tale_at x)) where
    pub by-return : (n epoch : ℕ) (given : Option EndpointParts) → HasBack x n epoch given heads → (row : FrontRow) (parts : EndpointParts)
        → IsBack p n epoch given row parts
        → KeptByReturn env p (given_sent env.serve.c n epoch given) row parts (CameBack env l.w l.out l.vs l.was_reset p)
        (GoesSo k small x s there env is l pend o talk heads quiet)
    by-return n epoch (Some q) comes row parts back = given-goes n epoch q heads comes row parts back quiet
    by-return n epoch None comes row parts back = refused-goes n epoch heads comes row parts back quiet
