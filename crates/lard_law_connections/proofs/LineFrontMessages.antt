-- What timers and messages of nodes, and an admission, do to how a connection stands at the front end.
use Rattle.std.proofs.Common.{◌≡◌, ℕ, ◌+◌, ◌^◌, ◌≤◌, Bool, true, false, List, [], ◌∷◌, ◌++◌, Option, Some, None, inl, arith, refl, sym, ap, ◌∙◌, subst}
use Rattle.std.specs.List.{fold}
use Rattle.lard_dispatch.specs.declared.dispatch.First.TheVariants as first
use Rattle.lard_law_connections.proofs.LineFronts.{Counts, DeedStands, RowStands, StageStands, away-found, away-with, by-timer, placed-stands, read-stands, unplaced-stands}
use Rattle.lard_law_connections.proofs.LineHolding.{IsReady, Serves, all-read}
use Rattle.lard_law_connections.proofs.LineStands.{IsSame, Stand, all-same, row_step}
use Rattle.lard_law_connections.proofs.ReturnedParts.{back-valid}
use Rattle.lard_law_connections.proofs.SilenceEndpoints.{adopted-turns}
use Rattle.lard_law_view.proofs.EachFront.{FrontComes}
use Rattle.lard_law_view.specs.Prelude.{Ask, Conn, EndpointParts, FrontAdmits, FrontConn, FrontEnv, FrontGets, FrontHears, FrontPart, FrontRest, FrontRow, IsValidParts, Later, LaterChoice, MayMove, Place, Rec, ReturnedBy, Said, Seen, Service, admitted_by, adopted, assigned_notes, assigns, back_notes, back_part, back_rest, front_rule, given_sent, is_away, over_note, parts_back, returned_row}
use Rattle.lard_rules.specs.Front.{Drops, Does}
use Rattle.lard_handoff_front.specs.declared.row.FrontConn.TheVariants as stage
use Rattle.lard_history.proofs.Each.{Each, Each-append}
use Rattle.lard_rules.proofs.FrontCases.{IsAsGiven, KeptByFront, KeptByReturn, back_service, front-keeps, of-stage}

-- anything but a segment
abbrev pub IsNoSegment : FrontGets → Type 0
IsNoSegment (FrontHears bytes given) = ⊥
IsNoSegment _ = Unit {0}

-- where a connection comes back, its parts are in their ranges
abbrev pub BringsValid : FrontPart → FrontGets → Type 0
BringsValid p (ReturnedBy n epoch given) = (parts : EndpointParts) → parts_back p given ≡ Some parts → IsValidParts parts
BringsValid p _ = Unit {0}

pub brings-valid : (x : Conn) (env : FrontEnv) (heads : List Seen) (g : FrontGets) → FrontComes x env heads g → BringsValid x.part.front g
brings-valid x env heads (ReturnedBy n epoch given) comes = back-valid x n epoch given heads comes
brings-valid x env heads _ comes = tt

-- an endpoint that is adopted owes an ACK, and its SYN was acknowledged
pub adopted-ready : (o : Option Said) (parts : EndpointParts) → IsValidParts parts → IsReady o (adopted parts)
adopted-ready o parts valid = record {
  sound = record { block = (adopted-turns parts valid).0; number = λ none. let some = valid.syn_acknowledged in absurd (omega (arith, none, some)) };
  quiet = λ open_. inl refl;
}

over-same : (c d : ℕ) (over : Bool) → Each (IsSame c) (over_note d over)
over-same c d true = ((λ s. refl), tt)
over-same c d false = tt

assigned-same : (c d : ℕ) (ask : Ask) (r : ℕ) (paths : List (List ℕ)) (choices : List LaterChoice) → Each (IsSame c) (assigned_notes d ask r paths choices)
assigned-same c d ask r [] choices = tt
assigned-same c d ask r (path ∷ paths) [] = tt
assigned-same c d ask r (path ∷ paths) (choice ∷ choices) = ((λ s. refl), assigned-same c d ask (r + 1) paths choices)

module _ (env : FrontEnv) (small : env.serve.stream ≤ 2 ^ 30) (p : FrontPart) (s : Stand) (h : RowStands s p.row) where
  abbrev c : ℕ
  c = env.serve.c

  assigns-stands : (rest : FrontRest) (from epoch : ℕ) (ask : Ask) (l : Later) → DeedStands c s p (Does (assigns env p rest from epoch ask l))
  assigns-stands rest from epoch ask l =
      let notes : List Rec = over_note c l.over ++ assigned_notes c ask rest.assigned ask.paths l.choices in
      subst (λ (t : Stand). RowStands t p.row)
      (sym (all-same c s notes (Each-append (IsSame c) (over_note c l.over) (assigned_notes c ask rest.assigned ask.paths l.choices) (over-same c c l.over) (assigned-same c c ask rest.assigned ask.paths l.choices)))) h

  pub away-counts : (epoch : ℕ) (at : FrontConn) → is_away epoch at ≡ true → StageStands s at → Counts s false 0 true
  away-counts epoch (stage.Offering n e) is k = k
  away-counts epoch (stage.Moved n e) is k = k
  away-counts epoch _ is k = let no : false ≡ true = is in absurd cc

  -- ---- a connection that comes back: it is held, as one that is neither in the line nor admitted

  abbrev back : Stand
  back = record s { inside = false }

  -- behind the notes of its return it read on
  abbrev CameBack : Service → Option (List ℕ) → Type 0
  CameBack w o = (row : FrontRow) × (p.row ≡ Some row) × Serves s.told (back_notes c row) w × MayMove w.block o

  by-return : (said : List (Place × List ℕ)) (row : FrontRow) (parts : EndpointParts) → p.row ≡ Some row → IsValidParts parts → Counts s false 0 true
      → KeptByReturn env p said row parts CameBack (DeedStands c s p)
  by-return said row parts found valid away = record {
    reads = let read = all-read s.told env.serve small (back_notes c row) (back_service env row parts) refl (adopted-ready s.told parts valid) in
        (row, found, read.0, read.1);
    holds = λ w came. unplaced-stands env p q r rest s back out w (behind w came.0 came.2) came.2.ready;
    hands = λ w path choice came is. placed-stands env p q r rest s back out w (behind w came.0 came.2) came.2.ready path came.3 (first.Go choice);
    waits = λ w path came is. placed-stands env p q r rest s back out w (behind w came.0 came.2) came.2.ready path came.3 first.Waits;
  } where
    out : Counts back false 0 false
    out = record { waits_is = away.waits_is; times = away.times; inside_is = refl }

    q : FrontPart
    q = back_part p row parts

    r : FrontRow
    r = returned_row parts row

    rest : FrontRest
    rest = back_rest parts

    behind : (w : Service) (row : FrontRow) → Serves s.told (back_notes c row) w → fold (row_step c) s w.notes ≡ back
    behind w row serves = read-stands c s.told s back (back_notes c row) refl w serves

  -- ---- whatever comes

  abbrev Known : FrontGets → Type 0
  Known g = IsNoSegment g × BringsValid p g

  by-rules : KeptByFront env p Known CameBack (DeedStands c s p)
  by-rules = record {
    drops = h;
    hears = λ bytes said m. absurd m.0;
    fires = λ m. by-timer env p s h;
    takes = λ n epoch m row node e at same. of-stage (RowStands s) p row (stage.Offering node e) at h;
    tags_again = λ n epoch ask m rest found there same some. h;
    assigns_next = λ n epoch ask m rest found there next. assigns-stands rest n epoch ask (env.later ask);
    ends_again = λ n epoch last m row found away again. h;
    ends = λ n epoch last m row found away. let was : Counts s false 0 true = away-counts epoch row.stage away (subst (RowStands s) found h) in
        record { waits_is = was.waits_is; times = let few = was.times in omega (arith, few); inside_is = refl };
    gives_again = λ n epoch parts m row found past. h;
    returns = λ n epoch given m row parts is. by-return (given_sent c n epoch given) row parts (away-found p row n is.from is.at) (m.1 parts is.parts_are)
        (away-with s p h row n is.from is.at);
    admits = λ choice made met row b path at target. record { waits_is = refl; times = omega arith; inside_is = refl };
  }

  pub rule-stands : (g : FrontGets) → IsNoSegment g → BringsValid p g → IsAsGiven env p g → DeedStands c s p (front_rule env p g)
  rule-stands g other valid is = front-keeps env p Known CameBack (DeedStands c s p) by-rules g is (other, valid)

-- where no connection began, nothing else is done
pub none-drops : (env : FrontEnv) (p : FrontPart) (g : FrontGets) → IsNoSegment g → IsAsGiven env p g → p.row ≡ None → front_rule env p g ≡ Drops
none-drops env p (FrontHears bytes given) other is none = absurd other
none-drops env p (FrontAdmits choice given) other is none = let same : None ≡ Some given = sym (ap (admitted_by env p choice) none) ∙ is in absurd cc
none-drops env p g other is none = ap (λ (o : Option FrontRow). front_rule env (record p { row = o }) g) none
