-- What the front end does leaves the last Tag with nodes that are there, and with as many as requests wait for one.
use Rattle.std.proofs.Common.{◌≡◌, ◌≤◌, ◌+◌, ◌++◌, ◌==◌, ◌&&◌, ℕ, true, false, List, [], length, map, Option, Some, None, refl, sym, ap, ◌∙◌, subst, arith, eqb-true, inr, ⊎_elim}
use Rattle.std.proofs.lemmas.Bool.{and_parts}
use Rattle.lard_law_view.specs.Prelude.{Ask, Conn, ControlBlock, Did, Ending, EndpointParts, Epoch, FilesAt, Front, FrontConn, FrontDeed, FrontEnv, FrontGets, FrontPart, FrontRest, FrontRow, Move, Node, Place, Row, Said, Seen, Service, assigns, back_part, back_rest, front_does, front_ends, front_fired, front_rest, front_rests, front_rule, given_sent, grown, is_row_at, is_with, next_epoch, offering, packet_seen, returned_row, rows_of, serving, serving_settled, spoken, tale_at}
use Rattle.lard_laws.proofs.AsksMoving.{Fills}
use Rattle.lard_laws.proofs.FrontReturning.{AreWithin, IsWithin, away-within, past-within, within-later}
use Rattle.lard_law_connections.specs.Places.{Sits, owning}
use Rattle.lard_law_connections.proofs.PlacesFrontRules.{has-each}
use Rattle.lard_laws.specs.Tags.{FitsAt, NamesNodes, TagsAre}
use Rattle.lard_laws.proofs.TagsChoices.{Names}
use Rattle.lard_laws.proofs.TagsNodes.{Facts}
use Rattle.lard_laws.specs.WaysState.{AskIs, LetterWays, NodeSaysWays, StayAsks, marks_at}
use Rattle.lard_rules.specs.Front.{Drops, Says, Does}
use Rattle.lard_handoff_front.specs.declared.row.FrontConn.TheVariants as stage
use Rattle.lard_history.proofs.Each.{Each}
use Rattle.lard_message.specs.declared.message.Body.TheVariants as body
use Rattle.lard_rules.specs.declared.places.Ending.TheVariants as ending
use Rattle.lard_law_view.proofs.EachFront.{FrontComes, HasAsk, admission}
use Rattle.lard_rules.proofs.FrontCases.{IsAwayWith, IsInStage, KeptByFront, KeptByReturn, KeptBySegment, begun_row, begun_service, front-keeps, heard_service, of-stage, waiting_service}

-- the nodes of the Tag of what is kept, if anything is
tags-of : (N : ℕ → Type 0) (o : Option FrontRest) → ((r : FrontRest) → o ≡ Some r → Each N r.tag) → Each N (front_rest o).tag
tags-of N None h = tt
tags-of N (Some r) h = h r refl

-- of one rest alone
one-tag : (N : ℕ → Type 0) (q : FrontRest) → Each N q.tag → (r : FrontRest) → Some q ≡ Some r → Each N r.tag
one-tag N q h r e = subst (λ (o : FrontRest). Each N o.tag) (let same : q ≡ r = cc in same) h

module _ (N : ℕ → Type 0) (files : FilesAt) (x : Conn) (facts : Facts files x) (h : NamesNodes N files x) where
  abbrev p : FrontPart
  p = x.part.front

  -- what is so of what the front end keeps then
  abbrev pub PartFits : FrontPart → Type 0
  PartFits f = TagsAre N f × ((n : ℕ) → FitsAt files f n (x.part.nodes n))

  abbrev pub DeedFits : FrontDeed → Type 0
  DeedFits Drops = Unit {0}
  DeedFits (Says turn) = Unit {0}
  DeedFits (Does did) = PartFits did.part

  -- with no node
  at-none : (f : FrontPart) → ((n e : ℕ) → is_row_at n e f.row ≡ true → ⊥) → (n : ℕ) → FitsAt files f n (x.part.nodes n)
  at-none f none n e b s r at row stay rest answered = absurd (none n e at)

  -- ---- the end of a turn

  nowhere : (n e : ℕ) → false ≡ true → ⊥
  nowhere n e is = cc

  none-kept : (r : FrontRest) → None ≡ Some r → Each N r.tag
  none-kept r is = absurd cc

  module _ (q : FrontPart) (row : FrontRow) (rest : FrontRest) (tags : Each N rest.tag) where
    held-rests : (e : Ending) → PartFits (front_rests q row rest stage.Held e)
    held-rests (ending.Here b count) = (one-tag N (record rest { count = count }) tags, at-none (front_rests q row rest stage.Held (ending.Here b count)) nowhere)
    held-rests (ending.Over last) = (none-kept, at-none (front_rests q row rest stage.Held (ending.Over last)) nowhere)

    waiting-rests : (e : Ending) → PartFits (front_rests q row rest stage.Waiting e)
    waiting-rests (ending.Here b count) = (one-tag N (record rest { count = count }) tags, at-none (front_rests q row rest stage.Waiting (ending.Here b count)) nowhere)
    waiting-rests (ending.Over last) = (none-kept, at-none (front_rests q row rest stage.Waiting (ending.Over last)) nowhere)

  mine : Each N (front_rest p.rest).tag
  mine = tags-of N p.rest h.nodes

  -- it is offered in an epoch that no node knows yet
  offering-fits : (env : FrontEnv) (row : FrontRow) (w : Service) (path : List ℕ) (node : ℕ) → AreWithin row.epoch.0 x.part.nodes
      → PartFits (offering env row w path node)
  offering-fits env row w path node within = (
    one-tag N (record { count = w.count; asks = 0; tag = []; assigned = w.count + 1; target = None }) tt,
    λ n e b s r at here stay rest answered.
        let same : row.epoch.0 + 1 ≡ e = eqb-true (row.epoch.0 + 1) e (and_parts (node == n) ((row.epoch.0 + 1) == e) at).1 in
        let most : e ≤ row.epoch.0 = subst (IsWithin row.epoch.0) here (within n) in
        absurd (omega (arith, same, most)),
  )

  -- no node has one that is held or waits
  past-held : (row : FrontRow) (b : ControlBlock) → IsInStage p row (stage.Held b) → AreWithin row.epoch.0 x.part.nodes
  past-held row b at = past-within row.epoch.0 x.part.nodes (of-stage (Sits (owning (tale_at x)) x.part.nodes) p row (stage.Held b) at facts.placed.sits).0.1.1

  past-waiting : (row : FrontRow) (b : ControlBlock) → IsInStage p row (stage.Waiting b) → AreWithin row.epoch.0 x.part.nodes
  past-waiting row b at = past-within row.epoch.0 x.part.nodes
      (of-stage (Sits (owning (tale_at x)) x.part.nodes) p row (stage.Waiting b) at facts.placed.sits).0.1.1

  -- ---- an Ask

  -- it is with one node, in one epoch
  one-place : (o : Option FrontRow) (n m e d : ℕ) → is_row_at n e o ≡ true → is_row_at m d o ≡ true → (m ≡ n) × (d ≡ e)
  one-place None n m e d a b = let no : false ≡ true = a in absurd cc
  one-place (Some row) n m e d a b = go row.stage a b where
    go : (st : FrontConn) → is_with n e st ≡ true → is_with m d st ≡ true → (m ≡ n) × (d ≡ e)
    go (stage.Held c) a b = let no : false ≡ true = a in absurd cc
    go (stage.Waiting c) a b = let no : false ≡ true = a in absurd cc
    go stage.Lent a b = let no : false ≡ true = a in absurd cc
    go (stage.Closed last) a b = let no : false ≡ true = a in absurd cc
    go (stage.Offering node f) a b =
        let s = and_parts (node == n) (f.0 == e) a in
        let t = and_parts (node == m) (f.0 == d) b in (sym (eqb-true node m t.0) ∙ eqb-true node n s.0, sym (eqb-true f.0 d t.1) ∙ eqb-true f.0 e s.1)
    go (stage.Moved node f) a b =
        let s = and_parts (node == n) (f.0 == e) a in
        let t = and_parts (node == m) (f.0 == d) b in (sym (eqb-true node m t.0) ∙ eqb-true node n s.0, sym (eqb-true f.0 d t.1) ∙ eqb-true f.0 e s.1)

  module _ (env : FrontEnv) (heads : List Seen) where
    abbrev Fit : FrontDeed → Type 0
    Fit d = Fills x (grown x (front_does x heads d)) → Names N x (grown x (front_does x heads d)) → DeedFits d

    -- what was answered stays so, and what is answered now gets a node for each path
    assigned-fits : (n epoch : ℕ) (ask : Ask) → HasAsk x n epoch ask heads → (r : FrontRest) → p.rest ≡ Some r → is_row_at n epoch p.row ≡ true → ask.number ≡ r.asks + 1 → Fit (Does (assigns env p r n epoch ask (env.later ask)))
    assigned-fits n epoch ask m r found at next fills names =
        let did : Did = assigns env p r n epoch ask (env.later ask) in
        let v : Move = front_does x heads (Does did) in
        let told = m.told in
        let new : FrontRest = record r { asks = ask.number; tag = map (λ y. y.node) (env.later ask).choices; assigned = r.assigned + length (env.later ask).choices } in
        let mine : m.number ≡ r.asks + 1 = ap (λ (a : Ask). a.number) (sym m.is) ∙ next in
        let seen : (grown x v).seen ≡ x.seen ++ (packet_seen (Node n) Front told.bytes ++ map Row (rows_of x v)) = ap (λ (hs : List Seen). x.seen ++ (hs ++ map Row (rows_of x v))) told.seen in
        let full : length new.tag ≡ length m.paths = fills n epoch m.number m.queue m.size m.paths told.bytes (map Row (rows_of x v)) r new seen told.spells at found mine refl in
        let said : NodeSaysWays files (marks_at x) x.part n epoch (body.Ask m.number m.queue m.size m.paths) = (has-each (LetterWays files (marks_at x) x.part) _ x.letters told.was facts.ways.letters) _ told.spells in
        let is : AskIs files (marks_at x) r (x.part.nodes n).stay m.number m.paths = subst (λ (q : FrontRest). AskIs files (marks_at x) q (x.part.nodes n).stay m.number m.paths) (ap front_rest found) (said.1 at) in (
          one-tag N new (names n epoch m.number m.queue m.size m.paths told.bytes (map Row (rows_of x v)) r new seen told.spells at found mine refl),
          λ i e b s q there row stay rest answered.
              let place = one-place p.row n i epoch e at there in
              let same : new ≡ q = cc in
              let stay_is : (x.part.nodes n).stay ≡ Some s = ap (λ (j : ℕ). (x.part.nodes j).stay) (sym place.0) ∙ stay in
              ⊎_elim
              (λ (old : m.number ≤ r.asks). absurd (omega (arith, old, mine)))
              (λ (now : _).
              let asks : StayAsks files (r.asks + 1) m.paths (Some s) = subst (StayAsks files (r.asks + 1) m.paths) stay_is now.2 in
              inr (ap (λ (t : FrontRest). length t.tag) (sym same) ∙ full ∙ ap length asks.1))
              is,
        )

    -- ---- whatever comes

    by-segment : (bytes : List ℕ) (s : Said) → KeptBySegment env p bytes s (λ w o. Unit {0}) Fit
    by-segment bytes s = record {
      drops = λ fills names. tt;
      begins = λ none plain fills names. held-rests p begun_row (front_rest None) tt (spoken env.serve (begun_service env s) []).0;
      reads = λ row b at. tt;
      holds = λ row b w at r fills names. held-rests p row (front_rest p.rest) mine (serving_settled env.serve w).0;
      hands = λ row b w path choice at r is fills names. offering-fits env row w path choice.node (past-held row b at);
      waits = λ row b w path at r is fills names. waiting-rests p row (record (front_rest p.rest) { target = Some path }) mine
          (spoken env.serve (waiting_service env w) []).0;
      stays = λ row b at fills names. waiting-rests p row (front_rest p.rest) mine (spoken env.serve (heard_service p b s) []).0;
      forwards = λ row n e at fills names. tt;
      words = λ row last at fills names. tt;
    }

    by-return : (said : List (Place × List ℕ)) (n : ℕ) (from : Epoch) (row : FrontRow) (parts : EndpointParts) → IsAwayWith p row n from
        → KeptByReturn env p said row parts (λ w o. Unit {0}) Fit
    by-return said n from row parts at =
        let q : FrontPart = back_part p row parts in
        let back : FrontRow = returned_row parts row in record {
          reads = tt;
          holds = λ w r fills names. held-rests q back (back_rest parts) tt (serving_settled env.serve w).0;
          hands = λ w path choice r is fills names. offering-fits env back w path choice.node
              (within-later row.epoch.0 x.part.nodes (away-within x facts.placed row n from at));
          waits = λ w path r is fills names. waiting-rests q back (record (back_rest parts) { target = Some path }) tt
              (spoken env.serve (waiting_service env w) []).0;
        }

    by-rules : KeptByFront env p (FrontComes x env heads) (λ w o. Unit {0}) Fit
    by-rules = record {
      drops = λ fills names. tt;
      hears = λ bytes s m. by-segment bytes s;
      fires = λ m. record {
        drops = λ fills names. tt;
        holds = λ row b at fills names. held-rests p row (front_rest p.rest) mine (front_fired env (front_rest p.rest) b).0;
        stays = λ row b at fills names. waiting-rests p row (front_rest p.rest) mine (front_fired env (front_rest p.rest) b).0;
        resends = λ row n e at fills names. tt;
      };
      takes = λ from epoch m row node d at same fills names.
          (h.nodes, λ n e b s r there. h.fits n e b s r (ap (is_row_at n e) at.0 ∙ ap (is_with n e) at.1 ∙ ap (λ (i : ℕ). node == n && i == e) same ∙ there));
      tags_again = λ n epoch ask m rest found there same some fills names. tt;
      assigns_next = assigned-fits;
      ends_again = λ n epoch last m row found away again fills names. tt;
      ends = λ n epoch last m row found away fills names.
          (none-kept, at-none (front_ends env p n epoch last row (next_epoch row)).part nowhere);
      gives_again = λ n epoch parts m row found past fills names. tt;
      returns = λ n epoch given m row parts at. by-return (given_sent env.serve.c n epoch given) n at.from row parts at.at;
      admits = λ choice made met row b path at target fills names. offering-fits env row (serving b (front_rest p.rest).count []) path choice.node
          (past-waiting row b at);
    }

    front-move : (d : FrontDeed) → DeedFits d → NamesNodes N files (grown x (front_does x heads d))
    front-move Drops k = record { nodes = h.nodes; fits = h.fits }
    front-move (Says turn) k = record { nodes = h.nodes; fits = h.fits }
    front-move (Does did) k = record { nodes = k.0; fits = k.1 }

    pub rule-fits : (g : FrontGets) → FrontComes x env heads g → let y : Conn = grown x (front_does x heads (front_rule env p g)) in Fills x y → Names N x y → NamesNodes N files y
    rule-fits g comes fills names = front-move (front_rule env p g)
        (front-keeps env p (FrontComes x env heads) (λ w o. Unit {0}) Fit by-rules g (admission x env heads g comes) comes fills names)
