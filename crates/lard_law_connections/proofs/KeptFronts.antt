-- What the front end does leaves of a connection what its stage awaits.
use Rattle.std.proofs.Common.{⊎_elim, subst, ◌≡◌, ◌+◌, ℕ, true, false, List, [], length, map, Option, Some, None, refl, ap, ◌∙◌}
use Rattle.lard_law_view.specs.Prelude.{Conn, ControlBlock, Ending, EndpointParts, FilesAt, FrontConn, FrontDeed, FrontEnv, FrontGets, FrontPart, FrontRest, FrontRow, HasTarget, Place, Said, Seen, back_part, back_rest, front_does, front_fired, front_rest, front_rests, front_rule, given_sent, grown, is_away, is_row_at, is_with, parts_of, returned_row, serving_settled, spoken, without}
use Rattle.lard_base.specs.declared.place.TimerKind.TheVariants as kind
use Rattle.lard_law_connections.specs.Kept.{FrontKeeps, FrontRowKeeps, FrontStageKeeps, IsKeptByStage}
use Rattle.lard_rules.specs.Front.{Drops, Says, Does}
use Rattle.lard_handoff_front.specs.declared.row.FrontConn.TheVariants as stage
use Rattle.lard_rules.specs.declared.places.Ending.TheVariants as ending
use Rattle.lard_rules.proofs.FrontCases.{IsAsGiven, IsBack, IsInStage, KeptByFront, KeptByReturn, KeptBySegment, begun_row, begun_service, front-keeps, heard_service, of-stage, waiting_service}

abbrev pub DeedKeeps : ℕ → FrontDeed → Type 0
DeedKeeps c Drops = Unit {0}
DeedKeeps c (Says turn) = Unit {0}
DeedKeeps c (Does did) = FrontKeeps c did.part

-- ---- the end of a turn

module _ (c : ℕ) (p : FrontPart) (row : FrontRow) (rest : FrontRest) (none : p.kept ≡ []) where
  held-rests : (e : Ending) → FrontKeeps c (front_rests p row rest stage.Held e)
  held-rests (ending.Here b count) = (tt, none)
  held-rests (ending.Over last) = none

  waiting-rests : HasTarget (Some rest) → (e : Ending) → FrontKeeps c (front_rests p row rest stage.Waiting e)
  waiting-rests target (ending.Here b count) = (target, none)
  waiting-rests target (ending.Over last) = none

has-target : (o : Option FrontRest) → HasTarget o → HasTarget (Some (front_rest o))
has-target None h = absurd h
has-target (Some rest) h = h

module _ (env : FrontEnv) (p : FrontPart) (h : FrontKeeps env.serve.c p) where
  abbrev pub Keeps : FrontDeed → Type 0
  Keeps d = DeedKeeps env.serve.c d

  -- in this stage
  at-stage : (row : FrontRow) (st : FrontConn) → IsInStage p row st → FrontStageKeeps env.serve.c p st
  at-stage row st at = of-stage (FrontRowKeeps env.serve.c p) p row st at h

  -- no Offer is kept of one that is held
  none-held : (row : FrontRow) (b : ControlBlock) → IsInStage p row (stage.Held b) → p.kept ≡ []
  none-held row b at = (at-stage row (stage.Held b) at).1

  waits-keeps : (row : FrontRow) (b : ControlBlock) → IsInStage p row (stage.Waiting b) → (e : Ending) → FrontKeeps env.serve.c (front_rests p row (front_rest p.rest) stage.Waiting e)
  waits-keeps row b at e = let k = at-stage row (stage.Waiting b) at in waiting-rests env.serve.c p row (front_rest p.rest) k.1 (has-target p.rest k.0) e

  -- ---- segments

  by-segment : (bytes : List ℕ) (s : Said) → KeptBySegment env p bytes s (λ w o. Unit {0}) Keeps
  by-segment bytes s = record {
    drops = tt;
    begins = λ none plain. held-rests env.serve.c p begun_row (front_rest None) (subst (FrontRowKeeps env.serve.c p) none h) (spoken env.serve (begun_service env s) []).0;
    reads = λ row b at. tt;
    holds = λ row b w at r. held-rests env.serve.c p row (front_rest p.rest) (none-held row b at) (serving_settled env.serve w).0;
    hands = λ row b w path choice at r is. (tt, (parts_of w.block w.count, refl, refl));
    waits = λ row b w path at r is. waiting-rests env.serve.c p row (record (front_rest p.rest) { target = Some path }) (none-held row b at) tt (spoken env.serve (waiting_service env w) []).0;
    stays = λ row b at. waits-keeps row b at (spoken env.serve (heard_service p b s) []).0;
    forwards = λ row n e at. tt;
    words = λ row last at. tt;
  }

  -- what was done is known still
  rest-stage : (n epoch : ℕ) (rest : FrontRest) → (front_rest p.rest).count ≡ rest.count → (st : FrontConn) → is_with n epoch st ≡ true → FrontStageKeeps env.serve.c p st → FrontStageKeeps env.serve.c (record p { rest = Some rest }) st
  rest-stage n epoch rest same (stage.Held b) at k = (tt, k.1)
  rest-stage n epoch rest same (stage.Waiting b) at k = let no : false ≡ true = at in absurd cc
  rest-stage n epoch rest same stage.Lent at k = k
  rest-stage n epoch rest same (stage.Offering node e) at k = (tt, (k.1.0, k.1.1, k.1.2 ∙ same))
  rest-stage n epoch rest same (stage.Moved node e) at k = (tt, k.1)
  rest-stage n epoch rest same (stage.Closed last) at k = k

  rest-row : (n epoch : ℕ) (rest : FrontRest) → (front_rest p.rest).count ≡ rest.count → (o : Option FrontRow) → is_row_at n epoch o ≡ true → FrontRowKeeps env.serve.c p o → FrontRowKeeps env.serve.c (record p { rest = Some rest }) o
  rest-row n epoch rest same None at k = k
  rest-row n epoch rest same (Some row) at k = rest-stage n epoch rest same row.stage at k

  -- no Offer is kept of one that ended
  none-left : (epoch : ℕ) (st : FrontConn) → is_away epoch st ≡ true → FrontStageKeeps env.serve.c p st → without kind.Offer 0 p.kept ≡ []
  none-left epoch (stage.Offering node e) away k = ap (without kind.Offer 0) k.1.1
  none-left epoch (stage.Moved node e) away k = ap (without kind.Offer 0) k.1
  none-left epoch _ away k = let no : false ≡ true = away in absurd cc

  -- ---- a connection that comes back

  none-back : (n epoch : ℕ) (given : Option EndpointParts) (row : FrontRow) (parts : EndpointParts) → IsBack p n epoch given row parts
      → without kind.Offer 0 p.kept ≡ []
  none-back n epoch given row parts back = ⊎_elim
      (λ (at : IsInStage p row (stage.Offering n back.from)). ap (without kind.Offer 0) (at-stage row (stage.Offering n back.from) at).1.1)
      (λ (at : IsInStage p row (stage.Moved n back.from)). ap (without kind.Offer 0) (at-stage row (stage.Moved n back.from) at).1) back.at

  by-return : (said : List (Place × List ℕ)) (row : FrontRow) (parts : EndpointParts) → without kind.Offer 0 p.kept ≡ []
      → KeptByReturn env p said row parts (λ w o. Unit {0}) Keeps
  by-return said row parts none = record {
    reads = tt;
    holds = λ w r. held-rests env.serve.c (back_part p row parts) (returned_row parts row) (back_rest parts) none (serving_settled env.serve w).0;
    hands = λ w path choice r is. (tt, (parts_of w.block w.count, refl, refl));
    waits = λ w path r is. waiting-rests env.serve.c (back_part p row parts) (returned_row parts row) (record (back_rest parts) { target = Some path })
        none tt (spoken env.serve (waiting_service env w) []).0;
  }

  by-rules : KeptByFront env p (λ g. Unit {0}) (λ w o. Unit {0}) Keeps
  by-rules = record {
    drops = tt;
    hears = λ bytes s m. by-segment bytes s;
    fires = λ m. record {
      drops = tt;
      holds = λ row b at. held-rests env.serve.c p row (front_rest p.rest) (none-held row b at) (front_fired env (front_rest p.rest) b).0;
      stays = λ row b at. waits-keeps row b at (front_fired env (front_rest p.rest) b).0;
      resends = λ row n e at. tt;
    };
    takes = λ n epoch m row node e at same. let k = at-stage row (stage.Offering node e) at in (k.0, ap (without kind.Offer 0) k.1.1);
    tags_again = λ n epoch ask m rest found there same some. tt;
    assigns_next = λ n epoch ask m rest found there next.
        rest-row n epoch (record rest { asks = ask.number; tag = map (λ x. x.node) (env.later ask).choices; assigned = rest.assigned + length (env.later ask).choices }) (ap (λ (o : Option FrontRest). (front_rest o).count) found) p.row there h;
    ends_again = λ n epoch last m row found away again. tt;
    ends = λ n epoch last m row found away. none-left epoch row.stage away (at-stage row row.stage (found, refl));
    gives_again = λ n epoch parts m row found past. tt;
    returns = λ n epoch given m row parts back. by-return (given_sent env.serve.c n epoch given) row parts (none-back n epoch given row parts back);
    admits = λ choice made met row b path at target. (tt, (parts_of b (front_rest p.rest).count, refl, refl));
  }

  -- whatever comes
  pub rule-keep : (g : FrontGets) → IsAsGiven env p g → Keeps (front_rule env p g)
  rule-keep g is = front-keeps env p (λ g. Unit {0}) (λ w o. Unit {0}) Keeps by-rules g is tt

-- ---- its move

pub front-move : (N : ℕ → Type 0) (files : FilesAt) (x : Conn) (heads : List Seen) (d : FrontDeed) → DeedKeeps x.c d → IsKeptByStage N files x → IsKeptByStage N files (grown x (front_does x heads d))
front-move N files x heads Drops k h = record { front = h.front; nodes = h.nodes }
front-move N files x heads (Says turn) k h = record { front = h.front; nodes = h.nodes }
front-move N files x heads (Does did) k h = record { front = k; nodes = h.nodes }
