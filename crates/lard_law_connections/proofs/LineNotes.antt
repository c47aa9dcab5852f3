-- What the front end notes of a connection in a turn, by its rules.
use Rattle.std.proofs.Common.{◌∙◌, ap, ◌≡◌, ℕ, ◌+◌, ◌^◌, ◌<◌, ◌≤◌, Bool, true, false, List, [], ◌∷◌, ◌++◌, append_assoc, Option, Some, None, Result, Ok, Err, refl, sym, subst}
use Rattle.lard_law_view.specs.Prelude.{Ask, ControlBlock, EndpointParts, FirstChoice, FrontAdmits, FrontConn, FrontDeed, FrontEnv, FrontGets, FrontHears, FrontPart, FrontRow, FrontTurn, IsValidParts, LaterChoice, Place, Reading, Rec, Said, SegFault, ServeEnv, Service, assigned_notes, back_notes, front_admitted, front_gets, front_reads, front_rest, front_rule, given_sent, last_words, over_note, serving_settled, tombstone}
use Rattle.lard_base.specs.declared.place.Place.TheVariants as place
use Rattle.lard_law_connections.proofs.LineFrontMessages.{BringsValid, adopted-ready, away-counts}
use Rattle.lard_law_connections.proofs.LineFronts.{Counts, RowStands, away-found, away-with, heard-ready}
use Rattle.lard_law_connections.proofs.LineHolding.{HasRead, IsRead, IsReady, all-read, settled-ends}
use Rattle.lard_law_connections.proofs.LineStands.{Stand}
use Rattle.lard_rules.specs.Front.{Drops, Says, Does}
use Rattle.lard_handoff_front.specs.declared.row.FrontConn.TheVariants as stage
use Rattle.lard_history.proofs.Each.{Each}
use Rattle.lard_journal.specs.declared.rec.Rec.TheVariants as rec
use Rattle.lard_rules.proofs.FrontCases.{IsAsGiven, IsInStage, KeptByFront, KeptByReturn, KeptBySegment, admitted-keeps, back_service, front-keeps, heard_service, of-stage, segment-keeps}

-- a later assignment
abbrev pub IsLater : Rec → Type 0
IsLater (rec.AssignedLater c r path n add size queue) = Unit {0}
IsLater _ = ⊥

-- What is so of a connection before a turn: whether it is in the line, whether it is admitted, and, by what the front end keeps of it, whether its
-- endpoint is held, and its epoch.
pub record Was : Type 0 where
  pub waits : Bool
  pub inside : Bool
  pub held : Bool
  pub epoch : ℕ

abbrev pub is_held : FrontConn → Bool
is_held (stage.Held b) = true
is_held _ = false

abbrev pub held_there : Option FrontRow → Bool
held_there None = false
held_there (Some row) = is_held row.stage

abbrev pub epoch_there : Option FrontRow → ℕ
epoch_there None = 0
epoch_there (Some row) = row.epoch.0

abbrev pub was : Stand → Option FrontRow → Was
was s o = record { waits = s.waits; inside = s.inside; held = held_there o; epoch = epoch_there o }

-- How the notes of a connection read that reads on: it is answered, and then it may be told to wait, or be admitted.
pub data IsReadOn (c : ℕ) : List Rec → Type 0 where
  Answers : (rs : List Rec) → Each IsRead rs → IsReadOn c rs
  Waits : (rs : List Rec) → Each IsRead rs → IsReadOn c (rs ++ rec.Waits c ∷ [])
  Goes : (rs : List Rec) (r : ℕ) (path : List ℕ) (n : ℕ) (add remove : Option ℕ) → Each IsRead rs
      → IsReadOn c (rs ++ rec.Admitted c ∷ rec.AssignedFirst c r path n add remove ∷ [])

-- How the notes of a turn read, on connection c, of which this was so before it. One that the front end takes back is released, and reads on, where
-- it did not end.
pub data Noted (c : ℕ) (s : Was) : List Rec → Type 0 where
  Silent : Noted c s []
  Begins : s.inside ≡ false → Noted c s (rec.Took place.Front c (record { 0 = 1 }) ∷ [])
  Reads : (rs : List Rec) → s.held ≡ true → s.waits ≡ false → IsReadOn c rs → Noted c s rs
  Shares : (over : Bool) (rs : List Rec) → Each IsLater rs → Noted c s (over_note c over ++ rs)
  Returns : (rs : List Rec) → s.inside ≡ true → s.waits ≡ false → IsReadOn c rs
      → Noted c s (rec.Took place.Front c (record { 0 = s.epoch + 1 }) ∷ rec.Released c ∷ rs)

abbrev pub DeedNotes : ℕ → Was → FrontDeed → Type 0
DeedNotes c s Drops = Unit {0}
DeedNotes c s (Says t) = Noted c s t.notes
DeedNotes c s (Does x) = Noted c s x.turn.notes

-- ---- what is read

module _ (serve : ServeEnv) where
  -- behind these notes
  abbrev pub Came : List Rec → Service → Type 0
  Came first w = (rs : List Rec) × (w.notes ≡ first ++ rs) × Each IsRead rs × ((serving_settled serve w).1.notes ≡ w.notes)

  reads-noted : serve.stream ≤ 2 ^ 30 → (o : Option Said) (first : List Rec) (w : Service) → w.notes ≡ first → IsReady o w.block
      → Came first (front_reads serve (record { service = w; target = None })).service
  reads-noted small o first w is ready =
      let x : Reading = front_reads serve (record { service = w; target = None }) in
      let read : HasRead o serve small first x = all-read o serve small first w is ready in
      (read.0.read, read.0.notes_are, read.0.notes, (settled-ends serve o x.service read.0.ready).noted)

  -- what is so of these notes with what is read on is so behind the reading
  module _ (first : List Rec) (N : List Rec → Type 0) (on : (rs : List Rec) → IsReadOn serve.c rs → N (first ++ rs)) (w : Service) (came : Came first w) where
    answers-noted : N (serving_settled serve w).1.notes
    answers-noted = subst N (sym (came.3 ∙ came.1)) (on came.0 (Answers came.0 came.2))

    came-behind : (last : List Rec) → first ++ (came.0 ++ last) ≡ w.notes ++ last
    came-behind last = sym (ap (λ (rs : List Rec). rs ++ last) came.1 ∙ append_assoc first came.0 last)

    waits-noted : N (w.notes ++ rec.Waits serve.c ∷ [])
    waits-noted = subst N (came-behind (rec.Waits serve.c ∷ [])) (on (came.0 ++ rec.Waits serve.c ∷ []) (Waits came.0 came.2))

    goes-noted : (r : ℕ) (path : List ℕ) (n : ℕ) (add remove : Option ℕ)
        → N (w.notes ++ rec.Admitted serve.c ∷ rec.AssignedFirst serve.c r path n add remove ∷ [])
    goes-noted r path n add remove =
        let last : List Rec = rec.Admitted serve.c ∷ rec.AssignedFirst serve.c r path n add remove ∷ [] in
        subst N (came-behind last) (on (came.0 ++ last) (Goes came.0 r path n add remove came.2))

-- ---- timers, and messages

assigned-later : (c : ℕ) (ask : Ask) (r : ℕ) (paths : List (List ℕ)) (choices : List LaterChoice) → Each IsLater (assigned_notes c ask r paths choices)
assigned-later c ask r [] choices = tt
assigned-later c ask r (path ∷ paths) [] = tt
assigned-later c ask r (path ∷ paths) (choice ∷ choices) = (tt, assigned-later c ask (r + 1) paths choices)

-- what is no segment, and no turn of the line
abbrev pub IsPlain : FrontGets → Type 0
IsPlain (FrontHears bytes given) = ⊥
IsPlain (FrontAdmits choice given) = ⊥
IsPlain _ = Unit {0}

-- ---- a turn

module _ (env : FrontEnv) (small : env.serve.stream ≤ 2 ^ 30) (p : FrontPart) (s : Stand) (h : RowStands s p.row) where
  abbrev c : ℕ
  c = env.serve.c

  abbrev IsTurn : List Rec → Type 0
  IsTurn rs = Noted c (was s p.row) rs

  abbrev Notes : FrontDeed → Type 0
  Notes d = DeedNotes c (was s p.row) d

  -- ---- a segment

  words-noted : (o : Option Said) → IsTurn (tombstone env.serve o).notes
  words-noted None = Silent
  words-noted (Some said) = Silent

  -- of one that is held
  held-on : (row : FrontRow) (b : ControlBlock) → IsInStage p row (stage.Held b) → (rs : List Rec) → IsReadOn c rs → IsTurn rs
  held-on row b at rs on = Reads rs (ap held_there at.0 ∙ ap is_held at.1) (of-stage (RowStands s) p row (stage.Held b) at h).0.waits_is on

  by-segment : env.iss < 2 ^ 32 → (bytes : List ℕ) (said : Said) → KeptBySegment env p bytes said (λ w o. Came env.serve [] w) Notes
  by-segment number bytes said = record {
    drops = tt;
    begins = λ none plain. let k : RowStands s None = subst (RowStands s) none h in Begins k.inside_is;
    reads = λ row b at. reads-noted env.serve small s.told [] (heard_service p b said) refl
        (heard-ready env small number p s b said (of-stage (RowStands s) p row (stage.Held b) at h).1);
    holds = λ row b w at came. answers-noted env.serve [] IsTurn (held-on row b at) w came;
    hands = λ row b w path choice at came is. goes-noted env.serve [] IsTurn (held-on row b at) w came (w.count + 1) path choice.node choice.add choice.remove;
    waits = λ row b w path at came is. waits-noted env.serve [] IsTurn (held-on row b at) w came;
    stays = λ row b at. Silent;
    forwards = λ row n e at. Silent;
    words = λ row last at. words-noted (last_words last.reason last said);
  }

  pub gets-noted : env.iss < 2 ^ 32 → (bytes : List ℕ) (r : Result Said SegFault) → Notes (front_gets env p bytes r)
  gets-noted number bytes (Err fault) = tt
  gets-noted number bytes (Ok said) = segment-keeps env p bytes said (λ w o. Came env.serve [] w) Notes (by-segment number bytes said)

  -- ---- a connection that is taken back

  back-on : (row : FrontRow) → p.row ≡ Some row → Counts s false 0 true → (rs : List Rec) → IsReadOn c rs → IsTurn (back_notes c row ++ rs)
  back-on row found away rs on =
      subst (λ (o : Option FrontRow). Noted c (was s o) (back_notes c row ++ rs)) (sym found) (Returns rs away.inside_is away.waits_is on)

  abbrev CameBack : Service → Option (List ℕ) → Type 0
  CameBack w o = (row : FrontRow) × (p.row ≡ Some row) × Came env.serve (back_notes c row) w

  by-return : (said : List (Place × List ℕ)) (row : FrontRow) (parts : EndpointParts) → p.row ≡ Some row → IsValidParts parts → Counts s false 0 true
      → KeptByReturn env p said row parts CameBack Notes
  by-return said row parts found valid away = record {
    reads = (row, found, reads-noted env.serve small s.told (back_notes c row) (back_service env row parts) refl (adopted-ready s.told parts valid));
    holds = λ w came. answers-noted env.serve (back_notes c came.0) IsTurn (back-on came.0 came.1 away) w came.2;
    hands = λ w path choice came is.
        goes-noted env.serve (back_notes c came.0) IsTurn (back-on came.0 came.1 away) w came.2 (w.count + 1) path choice.node choice.add choice.remove;
    waits = λ w path came is. waits-noted env.serve (back_notes c came.0) IsTurn (back-on came.0 came.1 away) w came.2;
  }

  -- ---- whatever comes but a segment

  abbrev Known : FrontGets → Type 0
  Known g = IsPlain g × BringsValid p g

  by-rules : KeptByFront env p Known CameBack Notes
  by-rules = record {
    drops = tt;
    hears = λ bytes said m. absurd m.0;
    fires = λ m. record { drops = tt; holds = λ row b at. Silent; stays = λ row b at. Silent; resends = λ row n e at. Silent };
    takes = λ n epoch m row node e at same. Silent;
    tags_again = λ n epoch ask m rest found there same some. Silent;
    assigns_next = λ n epoch ask m rest found there next. Shares (env.later ask).over (assigned_notes c ask rest.assigned ask.paths (env.later ask).choices)
        (assigned-later c ask rest.assigned ask.paths (env.later ask).choices);
    ends_again = λ n epoch last m row found away again. Silent;
    ends = λ n epoch last m row found away.
        back-on row found (away-counts env small p s h epoch row.stage away (subst (RowStands s) found h)) [] (Answers [] tt);
    gives_again = λ n epoch parts m row found past. Silent;
    returns = λ n epoch given m row parts is. by-return (given_sent c n epoch given) row parts (away-found p row n is.from is.at) (m.1 parts is.parts_are)
        (away-with s p h row n is.from is.at);
    admits = λ choice given m. absurd m.0;
  }

  pub rule-noted : (g : FrontGets) → IsPlain g → BringsValid p g → IsAsGiven env p g → Notes (front_rule env p g)
  rule-noted g plain valid is = front-keeps env p Known CameBack Notes by-rules g is (plain, valid)

-- ---- an admission

-- it is nothing but that
pub data Enters (c : ℕ) : List Rec → Type 0 where
  Alone : (r : ℕ) (path : List ℕ) (n : ℕ) (add remove : Option ℕ) → Enters c (rec.Admitted c ∷ rec.AssignedFirst c r path n add remove ∷ [])

pub admitted-enters : (env : FrontEnv) (p : FrontPart) (choice : FirstChoice) (given : FrontPart × FrontTurn) → front_admitted env p choice ≡ Some given → Enters env.serve.c given.1.notes
admitted-enters env p choice = admitted-keeps env p choice (λ given. Enters env.serve.c given.1.notes) (λ row b path at target. Alone ((front_rest p.rest).count + 1) path choice.node choice.add choice.remove)

-- who is admitted so was in the line
pub admitted-waits : (env : FrontEnv) (p : FrontPart) (s : Stand) → RowStands s p.row → (choice : FirstChoice) (given : FrontPart × FrontTurn) → front_admitted env p choice ≡ Some given → s.waits ≡ true
admitted-waits env p s h choice = admitted-keeps env p choice (λ given. s.waits ≡ true) (λ row b path at target. (of-stage (RowStands s) p row (stage.Waiting b) at h).0.waits_is)
