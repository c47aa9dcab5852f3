-- What the front end sends in the rounds of a settle: its segments go to the client, and of the messages to nodes one that forwards has the
-- segment that came.
use Rattle.std.proofs.Common.{◌≡◌, ℕ, List, [], ◌∷◌, map, Option, Some, None, refl}
use Rattle.lard_law_view.specs.Prelude.{Body, Client, ControlBlock, EndpointParts, FrontDeed, FrontEnv, FrontGets, FrontHears, FrontPart, FrontRest, FrontRow, FrontTurn, Kept, Node, Place, Said, ServeEnv, Service, after_timer, cut_off, front_rest, front_rule, front_saying, given_sent, handed_off, last_words, returned_row, sent_of, serving, serving_ready_of, serving_settled, speaks, speaks_symbols, spoken, stands_first, timed, tombstone, turn_here}
use Rattle.lard_rules.specs.Front.{Does, Drops, Says, message}
use Rattle.lard_history.proofs.Each.{Each, Each-append}
use Rattle.lard_message.specs.declared.message.Body.TheVariants as body
use Rattle.lard_law_view.proofs.EndpointSends.{AllTo, ready-to, speaks-to, speaks_symbols-to}
use Rattle.lard_rules.proofs.Endings.{settled-keeps}
use Rattle.lard_rules.proofs.FrontCases.{IsAsGiven, KeptByFront, KeptByReturn, KeptBySegment, begun_service, front-keeps, heard_service, waiting_service}

-- ---- segments

module _ (env : ServeEnv) where
  abbrev ToIts : List (Place × List ℕ) → Type 0
  ToIts ss = AllTo (Client env.c) ss

  spoken-to : (w : Service) (before : List (Place × List ℕ)) → ToIts before → ToIts (spoken env w before).1.segments
  spoken-to w before h = Each-append (λ s. s.0 ≡ Client env.c) before (speaks env.c w.block).0 h (speaks-to env.c w.block).to

  cut-to : (w : Service) → ToIts (cut_off env w).1.segments
  cut-to w = Each-append (λ s. s.0 ≡ Client env.c) (speaks_symbols env.c w.block).0 _ (speaks_symbols-to env.c w.block).to (refl, tt)

  settled-to : (w : Service) → ToIts (serving_settled env w).1.segments
  settled-to w = settled-keeps (λ given. ToIts given.1.segments) env w (λ e. spoken-to w [] tt) (λ total e. cut-to w)

  tombstone-to : (o : Option Said) → ToIts (tombstone env o).segments
  tombstone-to None = tt
  tombstone-to (Some s) = (refl, tt)

-- ---- messages

-- W is so of what it forwards
abbrev pub BodyHas : (List ℕ → Type 0) → Body → Type 0
BodyHas W (body.Forward segment) = W segment
BodyHas W _ = Unit {0}

-- a message to a node
abbrev pub MessageHas : ℕ → (List ℕ → Type 0) → Place × List ℕ → Type 0
MessageHas c W p = (n e : ℕ) × (b : Body) × (p ≡ (Node n, message c e b)) × BodyHas W b

abbrev pub MessagesHave : ℕ → (List ℕ → Type 0) → List (Place × List ℕ) → Type 0
MessagesHave c W ps = Each (MessageHas c W) ps

-- of a turn: its segments go to client c
pub record TurnHas (c : ℕ) (W : List ℕ → Type 0) (t : FrontTurn) : Type 0 where
  pub segments : AllTo (Client c) t.segments
  pub messages : MessagesHave c W t.messages

abbrev pub DeedHas : ℕ → (List ℕ → Type 0) → FrontDeed → Type 0
DeedHas c W Drops = Unit {0}
DeedHas c W (Says t) = TurnHas c W t
DeedHas c W (Does x) = TurnHas c W x.turn

-- what is kept is an Offer
abbrev pub IsOffer : ℕ → Kept → Type 0
IsOffer c k = (n e : ℕ) × (parts : EndpointParts) × (sent_of k ≡ (Node n, message c e (body.Offer parts)))

-- ---- each rule

-- W is so of a segment that comes
abbrev pub IsWith : (List ℕ → Type 0) → FrontGets → Type 0
IsWith W (FrontHears bytes given) = W bytes
IsWith W _ = Unit {0}

module _ (env : FrontEnv) (W : List ℕ → Type 0) where
  abbrev c : ℕ
  c = env.serve.c

  abbrev Has : FrontTurn → Type 0
  Has t = TurnHas c W t

  abbrev HasDeed : FrontDeed → Type 0
  HasDeed d = DeedHas c W d

  one-said : (n e : ℕ) (b : Body) → BodyHas W b → Has (front_saying ((Node n, message c e b) ∷ []))
  one-said n e b h = record { segments = tt; messages = ((n, e, b, refl, h), tt) }

  offers-said : (ks : List Kept) → Each (IsOffer c) ks → MessagesHave c W (map sent_of ks)
  offers-said [] h = tt
  offers-said (k ∷ ks) h = ((h.0.0, h.0.1, body.Offer h.0.2, h.0.3, tt), offers-said ks h.1)

  module _ (p : FrontPart) where
    by-segment : (bytes : List ℕ) → W bytes → (s : Said) → KeptBySegment env p bytes s (λ w o. Unit {0}) HasDeed
    by-segment bytes came s = record {
      drops = tt;
      begins = λ none plain. record { segments = spoken-to env.serve (begun_service env s) [] tt; messages = tt };
      reads = λ row b at. tt;
      holds = λ row b w at r. record { segments = settled-to env.serve w; messages = tt };
      hands = λ row b w path choice at r is. record { segments = tt; messages = ((choice.node, _, _, refl, tt), tt) };
      waits = λ row b w path at r is. record { segments = spoken-to env.serve (waiting_service env w) [] tt; messages = tt };
      stays = λ row b at. record { segments = spoken-to env.serve (heard_service p b s) [] tt; messages = tt };
      forwards = λ row n e at. one-said n e.0 (body.Forward bytes) came;
      words = λ row last at. record { segments = tombstone-to env.serve (last_words last.reason last s); messages = tt };
    }

    fired-has : (rest : FrontRest) (b : ControlBlock) → AllTo (Client c) (spoken env.serve (serving (after_timer b) rest.count []) (serving_ready_of env.serve (after_timer b) (timed b))).1.segments
    fired-has rest b = spoken-to env.serve (serving (after_timer b) rest.count []) (serving_ready_of env.serve (after_timer b) (timed b)) (ready-to env.serve (after_timer b) (timed b))

    -- its Given stands first
    given-said : (n epoch : ℕ) (given : Option EndpointParts) → MessagesHave c W (given_sent c n epoch given)
    given-said n epoch None = tt
    given-said n epoch (Some parts) = ((n, epoch, body.Given, refl, tt), tt)

    behind : (said : List (Place × List ℕ)) → MessagesHave c W said → (t : FrontTurn) → Has t → Has (stands_first [] said t)
    behind said h t has = record { segments = has.segments; messages = Each-append (MessageHas c W) said t.messages h has.messages }

    by-return : (said : List (Place × List ℕ)) (row : FrontRow) (parts : EndpointParts) → MessagesHave c W said
        → KeptByReturn env p said row parts (λ w o. Unit {0}) HasDeed
    by-return said row parts h = record {
      reads = tt;
      holds = λ w r. behind said h (turn_here (serving_settled env.serve w).1) (record { segments = settled-to env.serve w; messages = tt });
      hands = λ w path choice r is. behind said h (handed_off env (returned_row parts row) w path choice).1
          (record { segments = tt; messages = ((choice.node, _, _, refl, tt), tt) });
      waits = λ w path r is. behind said h (turn_here (spoken env.serve (waiting_service env w) []).1)
          (record { segments = spoken-to env.serve (waiting_service env w) [] tt; messages = tt });
    }

    by-rule : Each (IsOffer c) p.kept → KeptByFront env p (IsWith W) (λ w o. Unit {0}) HasDeed
    by-rule offers = record {
      drops = tt;
      hears = λ bytes s came. by-segment bytes came s;
      fires = λ m. record {
        drops = tt;
        holds = λ row b at. record { segments = fired-has (front_rest p.rest) b; messages = tt };
        stays = λ row b at. record { segments = fired-has (front_rest p.rest) b; messages = tt };
        resends = λ row n e at. record { segments = tt; messages = offers-said p.kept offers };
      };
      takes = λ n epoch m row node e at same. record { segments = tt; messages = tt };
      tags_again = λ n epoch ask m rest found there same some. one-said n epoch _ tt;
      assigns_next = λ n epoch ask m rest found there next. record { segments = tt; messages = ((n, epoch, _, refl, tt), tt) };
      ends_again = λ n epoch last m row found away again. one-said n epoch body.EndedAck tt;
      ends = λ n epoch last m row found away. record { segments = tt; messages = ((n, epoch, body.EndedAck, refl, tt), tt) };
      gives_again = λ n epoch parts m row found past. one-said n epoch body.Given tt;
      returns = λ n epoch given m row parts at. by-return (given_sent c n epoch given) row parts (given-said n epoch given);
      admits = λ choice made met row b path at target. record { segments = tt; messages = ((choice.node, _, _, refl, tt), tt) };
    }

    pub rule-has : Each (IsOffer c) p.kept → (g : FrontGets) → IsAsGiven env p g → IsWith W g → HasDeed (front_rule env p g)
    rule-has offers = front-keeps env p (IsWith W) (λ w o. Unit {0}) HasDeed (by-rule offers)
