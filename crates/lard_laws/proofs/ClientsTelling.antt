-- What the front end tells nodes: what is so of each message that it makes is so of all.
use Rattle.std.proofs.Common.{ℕ, ◌+◌, ◌++◌, List, [], Option, Some, None, map}
use Rattle.lard_law_view.specs.Prelude.{ControlBlock, EndpointParts, FrontDeed, FrontEnv, FrontFires, FrontGets, FrontHears, FrontPart, FrontRow, Node, Place, ReturnedBy, Said, Service, adopted, front_rest, front_rule, given_sent, parts_of, returned_row, sent_of}
use Rattle.lard_handoff_front.specs.declared.row.FrontConn.TheVariants as stage
use Rattle.lard_history.proofs.Each.{Each, Each-append}
use Rattle.lard_law_connections.proofs.SilenceEndpoints.{Anything}
use Rattle.lard_law_connections.proofs.SilenceTurns.{IsKept, reads-keep}
use Rattle.lard_law_connections.specs.SilencePlaces.{FrontHas}
use Rattle.lard_message.specs.declared.message.Body.TheVariants as body
use Rattle.lard_rules.proofs.FrontCases.{IsAsGiven, IsBack, KeptByFront, KeptByReturn, back_reading, front-keeps, heard_reading, of-stage}
use Rattle.lard_rules.specs.Front.{Drops, Says, Does, message}

module _ (Tells : Place → List ℕ → Type 0) where
  abbrev pub AllTell : List (Place × List ℕ) → Type 0
  AllTell ms = Each (λ (p : Place × List ℕ). Tells p.0 p.1) ms

  abbrev pub DeedTells : FrontDeed → Type 0
  DeedTells Drops = Unit {0}
  DeedTells (Says turn) = AllTell turn.messages
  DeedTells (Does did) = AllTell did.turn.messages

  -- It is so of the Offer of each endpoint of which P is so, and of each Tag and each answer to an Ended or to a Give.
  pub record TellsEach (c : ℕ) (P : ControlBlock → Type 0) : Type 0 where
    pub offers : (n e count : ℕ) (b : ControlBlock) → P b → Tells (Node n) (message c e (body.Offer (parts_of b count)))
    pub tags : (n e number : ℕ) (nodes : List ℕ) → Tells (Node n) (message c e (body.Tag number nodes))
    pub acks : (n e : ℕ) → Tells (Node n) (message c e body.EndedAck)
    pub givens : (n e : ℕ) → Tells (Node n) (message c e body.Given)

  module _ (env : FrontEnv) (P : ControlBlock → Type 0) (t : TellsEach env.serve.c P) (p : FrontPart) (h : FrontHas P p.row) (Reply : ControlBlock → Said → Type 0) (k : IsKept env.serve P P Anything Reply) where
    -- what comes for a connection that is away is forwarded, by its timer what is kept is told again, and one that comes back has an endpoint
    abbrev pub Given : FrontGets → Type 0
    Given (FrontHears bytes given) = (n e : ℕ) → Tells (Node n) (message env.serve.c e (body.Forward bytes))
    Given FrontFires = AllTell (map sent_of p.kept)
    Given (ReturnedBy n epoch given) = (row : FrontRow) (parts : EndpointParts) → IsBack p n epoch given row parts → P (adopted parts)
    Given _ = Unit {0}

    given-tells : (n epoch : ℕ) (given : Option EndpointParts) → AllTell (given_sent env.serve.c n epoch given)
    given-tells n epoch None = tt
    given-tells n epoch (Some parts) = (t.givens n epoch, tt)

    -- nothing but the Offer stands behind these
    by-return : (n epoch : ℕ) (given : Option EndpointParts) (row : FrontRow) (parts : EndpointParts) → P (adopted parts)
        → KeptByReturn env p (given_sent env.serve.c n epoch given) row parts (λ w o. P w.block) DeedTells
    by-return n epoch given row parts goes =
        let said : List (Place × List ℕ) = given_sent env.serve.c n epoch given in
        let alone : AllTell (said ++ []) = Each-append _ said [] (given-tells n epoch given) tt in
        record {
          reads = reads-keep env.serve (λ (w : Service). P w.block) k.serves (back_reading env row parts) goes;
          holds = λ w r. alone;
          hands = λ w path choice r is. Each-append _ said _ (given-tells n epoch given) (t.offers choice.node ((returned_row parts row).epoch.0 + 1) w.count w.block r, tt);
          waits = λ w path r is. alone;
        }

    by-rules : KeptByFront env p Given (λ w o. P w.block) DeedTells
    by-rules = record {
      drops = tt;
      hears = λ bytes s forwards. record {
        drops = tt;
        begins = λ none plain. tt;
        reads = λ row b at. reads-keep env.serve (λ (w : Service). P w.block) k.serves (heard_reading p b s) (k.hears b s (of-stage (FrontHas P) p row (stage.Held b) at h) tt);
        holds = λ row b w at r. tt;
        hands = λ row b w path choice at r is. (t.offers choice.node (row.epoch.0 + 1) w.count w.block r, tt);
        waits = λ row b w path at r is. tt;
        stays = λ row b at. tt;
        forwards = λ row n e at. (forwards n e.0, tt);
        words = λ row last at. tt;
      };
      fires = λ kept. record { drops = tt; holds = λ row b at. tt; stays = λ row b at. tt; resends = λ row n e at. kept };
      takes = λ from epoch m row n e at same. tt;
      tags_again = λ n epoch ask m rest found there same some. (t.tags n epoch rest.asks rest.tag, tt);
      assigns_next = λ n epoch ask m rest found there next. (t.tags n epoch ask.number _, tt);
      ends_again = λ n epoch last m row found away again. (t.acks n epoch, tt);
      ends = λ n epoch last m row found away. (t.acks n epoch, tt);
      gives_again = λ n epoch parts m row found past. (t.givens n epoch, tt);
      returns = λ n epoch given m row parts back. by-return n epoch given row parts (m row parts back);
      admits = λ choice made met row b path at target. (t.offers choice.node (row.epoch.0 + 1) (front_rest p.rest).count b (of-stage (FrontHas P) p row (stage.Waiting b) at h), tt);
    }

    pub rule-tells : (g : FrontGets) → IsAsGiven env p g → Given g → DeedTells (front_rule env p g)
    rule-tells g is m = front-keeps env p Given (λ w o. P w.block) DeedTells by-rules g is m
