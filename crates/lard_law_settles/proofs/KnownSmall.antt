-- Of a connection that the front end offers to a node, it counts no more responses than a message has room for.
use Rattle.std.proofs.Common.{◌≡◌, ◌≤◌, ◌<◌, ◌+◌, ◌^◌, ℕ, false, List, [], length, Option, Some, None, refl, sym, ◌∙◌, subst, arith, Ok}
use Rattle.std.proofs.lemmas.List.{length-drop}
use Rattle.lard_law_view.specs.Prelude.{ClientRules, Config, Conn, ControlBlock, Ending, EndpointParts, FilesAt, FrontConn, FrontDeed, FrontEnv, FrontGets, FrontPart, FrontRest, FrontRow, FrontRules, IsConnNumber, IsControlBlock, IsUntouchedLaw, MayRestOn, Move, NodeRules, OfEach, Place, ReturnedBy, Said, Seen, ServeEnv, Service, Setting, Station, Talk, Untouched, Verdict, answered, back_part, back_rest, config_check, ended_at_fin, front_does, front_fired, front_reads, front_rest, front_rests, front_rule, given_sent, grown, node_does, on_segment, parts_of, returned_row, serving_consumed, serving_settled, setting, spoken, tale_at, with_leaving}
use Rattle.lard_base.specs.declared.place.Via.TheVariants.{Own}
use Rattle.lard_law_connections.specs.BytesAgreement.{ConnAgrees, FrontHolds, IsTruthful, SeatAgrees, StageAgrees}
use Rattle.lard_law_connections.proofs.BytesReturns.{refused-offering, refused-parts}
use Rattle.lard_law_connections.proofs.BytesRuns.{states-truthful}
use Rattle.lard_law_connections.proofs.PlacesFrontMessages.{no-give}
use Rattle.lard_law_connections.proofs.PlacesRuns.{each-placed}
use Rattle.lard_law_connections.proofs.PlacesTurns.{IsPlaced}
use Rattle.lard_law_view.proofs.Carried.{carried}
use Rattle.lard_law_view.proofs.EachFront.{FrontComes, HasBack, admission, each-front}
use Rattle.lard_law_view.proofs.EachNode.{each-node}
use Rattle.lard_law_view.proofs.Frames.{Owed, clients-leave}
use Rattle.lard_law_view.proofs.Guarded.{client-weaker, untouched-law}
use Rattle.lard_endpoint.proofs.Sound.{on_segment-sound}
use Rattle.lard_rules.specs.Front.{Does, Drops, Says}
use Rattle.lard_handoff_front.specs.declared.row.FrontConn.TheVariants as stage
use Rattle.lard_rules.specs.Node as node
use Rattle.lard_rules.specs.declared.places.Ending.TheVariants as ending
use Rattle.lard_rules.proofs.FrontReads.{reading-keeps}
use Rattle.lard_rules.proofs.Endings.{answered-keeps, at-fin-keeps}
use Rattle.lard_rules.proofs.Reading.{answered-unread}
use Rattle.lard_rules.proofs.FrontCases.{IsBack, KeptByFront, KeptByReturn, KeptBySegment, IsInStage, back_service, begun_row, begun_service, front-keeps, heard_reading, heard_service, waiting_service}

-- ---- reading answers no more requests than there are unread bytes

module _ (env : ServeEnv) (most : ℕ) where
  abbrev Within : Service → Type 0
  Within w = w.count + length w.block.recv.unread ≤ most

  answers-one : (v : Verdict) (n : ℕ) (w : Service) → (answered env Own v (serving_consumed n w)).count ≤ w.count + 1
  answers-one v n w = answered-keeps (λ (s : Service). s.count ≤ w.count + 1) env Own v (serving_consumed n w) (λ t. omega arith) (λ t. omega arith)

  stops-none : (n : ℕ) (w : Service) → (ended_at_fin (serving_consumed n w)).count ≤ w.count
  stops-none n w = at-fin-keeps (λ (s : Service). s.count ≤ w.count) (serving_consumed n w) (λ t. omega arith) (λ t. omega arith)

  reads-most : (a : Service) → Within a → (front_reads env (record { service = a; target = None })).service.count ≤ most
  reads-most = reading-keeps env Within (λ w o. w.count ≤ most) (record {
    answers = λ v n w may some within h. omega (arith, h, some, within, answers-one v n w, answered-unread env Own v (serving_consumed n w), length-drop n w.block.recv.unread);
    ends = λ n w may h. omega (arith, h, stops-none n w);
    places = λ path w may h. omega (arith, h);
    stops = λ w h. omega (arith, h);
  })

-- ---- what is kept

abbrev pub StageSmall : ℕ → FrontConn → Type 0
StageSmall count (stage.Offering n e) = count < 2 ^ 32
StageSmall count _ = Unit {0}

abbrev pub RowSmall : ℕ → Option FrontRow → Type 0
RowSmall count None = Unit {0}
RowSmall count (Some row) = StageSmall count row.stage

abbrev pub IsSmall : FrontPart → Type 0
IsSmall p = RowSmall (front_rest p.rest).count p.row

abbrev DeedSmall : FrontDeed → Type 0
DeedSmall Drops = Unit {0}
DeedSmall (Says turn) = Unit {0}
DeedSmall (Does did) = IsSmall did.part

-- where the front end has it, few were counted
abbrev StageFew : ℕ → FrontConn → Type 0
StageFew count (stage.Held b) = (count ≤ 2 ^ 30) × IsControlBlock b
StageFew count (stage.Waiting b) = count ≤ 2 ^ 30
StageFew count _ = Unit {0}

held-small : (f : FrontPart) (row : FrontRow) (rest : FrontRest) (e : Ending) → IsSmall (front_rests f row rest stage.Held e)
held-small f row rest (ending.Here b n) = tt
held-small f row rest (ending.Over last) = tt

waits-small : (f : FrontPart) (row : FrontRow) (rest : FrontRest) (e : Ending) → IsSmall (front_rests f row rest stage.Waiting e)
waits-small f row rest (ending.Here b n) = tt
waits-small f row rest (ending.Over last) = tt

-- what comes back counts few
abbrev IsFewBack : FrontPart → FrontGets → Type 0
IsFewBack p (ReturnedBy n epoch given) = (row : FrontRow) (parts : EndpointParts) → IsBack p n epoch given row parts
    → parts.served + length parts.unread ≤ 2 ^ 31
IsFewBack p _ = Unit {0}

module _ (p : FrontPart) (few : (row : FrontRow) → p.row ≡ Some row → StageFew (front_rest p.rest).count row.stage) where
  -- few were counted where what was read is to be placed
  abbrev Came : Service → Option (List ℕ) → Type 0
  Came w target = w.count < 2 ^ 32

  few-at : (row : FrontRow) (z : FrontConn) → IsInStage p row z → StageFew (front_rest p.rest).count z
  few-at row z at = subst (StageFew (front_rest p.rest).count) at.1 (few row at.0)

  reads-small : (env : FrontEnv) (s : Said) (row : FrontRow) (b : ControlBlock) → IsInStage p row (stage.Held b) → (front_reads env.serve (heard_reading p b s)).service.count < 2 ^ 32
  reads-small env s row b at =
      let h = few-at row (stage.Held b) at in
      let count : (front_rest p.rest).count ≤ 2 ^ 30 = h.0 in
      let d = (on_segment b s).1 in
      let kept = (on_segment-sound b s h.1).received in
      let got : d.recv.got ≤ 2 ^ 30 = kept.received in
      let within : length d.recv.unread ≤ d.recv.got = kept.within in
      let most : (front_reads env.serve (heard_reading p b s)).service.count ≤ 2 ^ 31 = reads-most env.serve (2 ^ 31) (heard_service p b s) (omega (arith, count, got, within)) in
      omega (arith, most)

  by-segment : (env : FrontEnv) (bytes : List ℕ) (s : Said) → KeptBySegment env p bytes s Came DeedSmall
  by-segment env bytes s = record {
    drops = tt;
    begins = λ none plain. held-small p begun_row (front_rest None) (spoken env.serve (begun_service env s) []).0;
    reads = reads-small env s;
    holds = λ row b w at small. held-small p row (front_rest p.rest) (serving_settled env.serve w).0;
    hands = λ row b w path choice at small is. small;
    waits = λ row b w path at small is. waits-small p row (record (front_rest p.rest) { target = Some path }) (spoken env.serve (waiting_service env w) []).0;
    stays = λ row b at. waits-small p row (front_rest p.rest) (spoken env.serve (heard_service p b s) []).0;
    forwards = λ row n e at. tt;
    words = λ row last at. tt;
  }

  -- it comes back
  by-return : (env : FrontEnv) (said : List (Place × List ℕ)) (row : FrontRow) (parts : EndpointParts) → parts.served + length parts.unread ≤ 2 ^ 31
      → KeptByReturn env p said row parts Came DeedSmall
  by-return env said row parts most = record {
    reads = let h = reads-most env.serve (2 ^ 31) (back_service env row parts) most in omega (arith, h);
    holds = λ w small. held-small (back_part p row parts) (returned_row parts row) (back_rest parts) (serving_settled env.serve w).0;
    hands = λ w path choice small is. small;
    waits = λ w path small is. waits-small (back_part p row parts) (returned_row parts row) (record (back_rest parts) { target = Some path })
        (spoken env.serve (waiting_service env w) []).0;
  }

  -- whatever comes
  by-rule : (env : FrontEnv) → IsSmall p → KeptByFront env p (IsFewBack p) Came DeedSmall
  by-rule env small = record {
    drops = tt;
    hears = λ bytes s m. by-segment env bytes s;
    fires = λ m. record {
      drops = tt;
      holds = λ row b at. held-small p row (front_rest p.rest) (front_fired env (front_rest p.rest) b).0;
      stays = λ row b at. waits-small p row (front_rest p.rest) (front_fired env (front_rest p.rest) b).0;
      resends = λ row n e at. tt;
    };
    takes = λ n epoch m row node e at same. tt;
    tags_again = λ n epoch ask m rest found there same some. tt;
    assigns_next = λ n epoch ask m rest found there next. subst (λ (o : Option FrontRest). RowSmall (front_rest o).count p.row) found small;
    ends_again = λ n epoch last m row found away again. tt;
    ends = λ n epoch last m row found away. tt;
    gives_again = λ n epoch parts m row found past. tt;
    returns = λ n epoch given few row parts at. by-return env (given_sent env.serve.c n epoch given) row parts (few row parts at);
    admits = λ choice made met row b path at target. let few-here : (front_rest p.rest).count ≤ 2 ^ 30 = few-at row (stage.Waiting b) at in omega (arith, few-here);
  }

-- ---- what the law of bytes says of what the front end has

holds-few : (k : Talk) (pend : List Verdict) (b : ControlBlock) (count : ℕ) → FrontHolds k.w k.out k.vs pend b count → count ≤ 2 ^ 30
holds-few k pend b count h =
    let asked = h.serves.asked in
    let most : b.recv.got ≤ 2 ^ 30 = h.serves.most in
    omega (arith, asked, most)

stage-few : (x : Conn) (k : Talk) (pend : List Verdict) (e : ℕ) (z : FrontConn) → StageAgrees k.w k.out k.vs pend k.was_reset x.c x.part e z → StageFew (front_rest x.part.front.rest).count z
stage-few x k pend e (stage.Held b) h = (holds-few k pend b (front_rest x.part.front.rest).count h, h.holds.sound)
stage-few x k pend e (stage.Waiting b) h = holds-few k pend b (front_rest x.part.front.rest).count h.0
stage-few x k pend e _ h = tt

truth-few : (files : FilesAt) (x : Conn) → IsTruthful files x → (row : FrontRow) → x.part.front.row ≡ Some row → StageFew (front_rest x.part.front.rest).count row.stage
truth-few files x truth row at = go x.part.station truth.agrees where
  go : (o : Option Station) → ConnAgrees files x truth.talk truth.pend o → StageFew (front_rest x.part.front.rest).count row.stage
  go None h = absurd (let bad : ◌≡◌ {A = Option FrontRow} (Some row) None = sym at ∙ h.front in cc)
  go (Some st) h = stage-few x truth.talk truth.pend row.epoch.0 row.stage
      (subst (SeatAgrees truth.talk.w truth.talk.out truth.talk.vs truth.pend truth.talk.was_reset x.c x.part) at h.seat)

-- and of an Offer that is kept
back-few : (files : FilesAt) (x : Conn) → IsTruthful files x → IsPlaced x → IsConnNumber x.c
    → (n epoch : ℕ) (given : Option EndpointParts) (heads : List Seen) → HasBack x n epoch given heads
    → (row : FrontRow) (parts : EndpointParts) → IsBack x.part.front n epoch given row parts → parts.served + length parts.unread ≤ 2 ^ 31
back-few files x truth placed number n epoch (Some q) heads comes row parts is = absurd (no-give x placed n epoch q comes.bytes comes.was comes.spells)
back-few files x truth placed number n epoch None heads comes row parts is = go x.part.station truth.agrees where
  go : (o : Option Station) → ConnAgrees files x truth.talk truth.pend o → parts.served + length parts.unread ≤ 2 ^ 31
  go None h = absurd (let bad : ◌≡◌ {A = Option FrontRow} (Some row) None = sym (is.refused refl).0 ∙ h.front in cc)
  go (Some st) h =
      let offering = refused-offering files x st truth.talk truth.pend h placed n epoch heads comes row parts is in
      let read : parts ≡ parts_of offering.block offering.count = refused-parts files x st truth.talk truth.pend h placed n epoch heads comes row parts is number in
      let count = holds-few truth.talk truth.pend offering.block offering.count offering.holds in
      let received = offering.holds.holds.sound.received in
      let got : offering.block.recv.got ≤ 2 ^ 30 = received.received in
      let within : length offering.block.recv.unread ≤ offering.block.recv.got = received.within in
      subst (λ (q : EndpointParts). q.served + length q.unread ≤ 2 ^ 31) (sym read) (omega (arith, count, got, within))

-- ---- the law

module _ (k : Setting) where
  abbrev Given : Conn → Type 0
  Given x = Untouched (IsTruthful k.files) x × IsPlaced x

  abbrev Wanted : Conn → Move → Type 0
  Wanted x v = MayRestOn Given x → (tale_at x).touched ≡ false → IsSmall x.part.front → IsSmall (grown x v).part.front

  front-deed : (x : Conn) (heads : List Seen) (d : FrontDeed) → DeedSmall d → IsSmall x.part.front → IsSmall (front_does x heads d).part.front
  front-deed x heads Drops h small = small
  front-deed x heads (Says turn) h small = small
  front-deed x heads (Does did) h small = h

  node-deed : (x : Conn) (n : ℕ) (heads : List Seen) (d : node.NodeDeed) → IsSmall x.part.front → IsSmall (node_does x n heads d).part.front
  node-deed x n heads node.Drops small = small
  node-deed x n heads (node.Says messages) small = small
  node-deed x n heads (node.Does given) small = small

  few-of : (x : Conn) → MayRestOn Given x → (tale_at x).touched ≡ false → (row : FrontRow) → x.part.front.row ≡ Some row → StageFew (front_rest x.part.front.rest).count row.stage
  few-of x m free = truth-few k.files x (m.given.0 free)

  few-back : (x : Conn) (env : FrontEnv) (heads : List Seen) (g : FrontGets) → FrontComes x env heads g → MayRestOn Given x → (tale_at x).touched ≡ false
      → IsFewBack x.part.front g
  few-back x env heads (ReturnedBy n epoch given) comes m free = back-few k.files x (m.given.0 free) m.given.1 m.number n epoch given heads comes
  few-back x env heads _ comes m free = tt

  clients : ClientRules k Wanted
  clients = client-weaker k (Owed Wanted) Wanted (λ x v owed m. owed m.number m.sound m)
      (clients-leave k Wanted (λ x v at own number sound m free h. subst IsSmall (sym at.keeps.0) h))

  fronts : FrontRules k Wanted
  fronts = each-front k Wanted (λ x env heads g is comes m free h. front-deed x heads (front_rule env x.part.front g)
      (front-keeps env x.part.front (IsFewBack x.part.front) (Came x.part.front (few-of x m free)) DeedSmall (by-rule x.part.front (few-of x m free) env h) g
      (admission x env heads g comes)
      (few-back x env heads g comes m free)) h)

  nodes : NodeRules k Wanted
  nodes = each-node k Wanted (record {
    does = λ x n epoch env heads g is in_its comes m free h. node-deed x n heads (node.node_rule env (x.part.nodes n) g) h;
    aside = λ x n a allowed m free h. h;
  })

  small-law : IsUntouchedLaw k Given (λ x. IsSmall x.part.front)
  small-law = record { begins = λ c. tt; moves = record { client = clients; front = fronts; node = nodes; ignores = λ x from to bytes h m free small. small } }

-- So it is of each connection that the schedule did not touch, in every state that events lead to.
pub each-small : (config : Config) (files : List (List ℕ × List ℕ)) → config_check config ≡ Ok tt → OfEach config files (Untouched (λ x. IsSmall x.part.front))
each-small config files checked =
    let k : Setting = setting config files in
    carried config files (Given k) (Untouched (λ x. IsSmall x.part.front)) (λ l. untouched-law (with_leaving k l) (Given k) (λ x. IsSmall x.part.front) (small-law (with_leaving k l)))
    (λ m r q. (states-truthful config files checked m r q, each-placed config files checked m r q))
