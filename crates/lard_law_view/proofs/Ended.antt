-- Where a connection ended at its node, the front end acts on it, and on the head of the line as well where that is admitted.
use Rattle.lard_history.proofs.Each.{Each, Each-append}
use Rattle.std.proofs.Common.{◌≡◌, ◌≢◌, ℕ, ◌+◌, nat_lt, Bool, true, false, cond, List, [], ◌++◌, Option, Some, None, refl, sym, ap, ◌∙◌, subst, inl, inr, append-nil, arith}
use Rattle.std.specs.Prelude.{◌⊎◌}
use Rattle.lard_law_view.specs.Prelude.{AreOwn, Conn, Did, Event, Final, FirstChoice, Front, FrontDeed, FrontEnv, FrontPart, FrontRow, FrontState, FrontTurn, IsConnNumber, IsViewed, Machine, Move, OnEnded, Out, Rec, Rules, Seen, admits, admits_too, conn, end_answer, ended_answer, ended_deed, front_admitted, front_does, front_ended, front_ended_by, front_env, front_gave, front_joined, front_out_of, front_part, front_put, front_setting, front_timers, in_order, machine_told, nothing_done, part_of, put_back, seen_on, setting_of, timer_rows, with_front}
use Rattle.lard_law_view.proofs.FrontActs.{front-acts, front-put}
use Rattle.lard_law_view.proofs.Fronts.{IsAdmission, IsFrontDeed, admitted-turn}
use Rattle.lard_law_view.proofs.Heads.{Begins}
use Rattle.lard_law_view.proofs.Numbers.{row-number}
use Rattle.lard_law_view.proofs.Parts.{front-mine, front-others}
use Rattle.lard_law_view.proofs.Saying.{notes-all, notes-closing, notes-other}
use Rattle.lard_law_view.proofs.Shapes.{ReadsOn, Shapes, both_out, move_of, with_rest}
use Rattle.lard_law_view.proofs.Turned.{notes-in, said-in, sent-messages}
use Rattle.lard_rules.specs.Front.{Drops, Says, Does}
use Rattle.lard_rules.proofs.FrontParts.{part_other, part_put}
use Rattle.lard_handoff_front.specs.declared.table.OnEnded.TheVariants.{New, Again, Stale}
use Rattle.lard_law_view.proofs.Firsts.{others_append}
use Rattle.lard_law_view.proofs.OwnRecords.{IsNoClosing, behind}

-- ---- what ended does not wait

-- the connection is not admitted as it is left, and nothing was read on
abbrev pub IsLeft : Did → Type 0
IsLeft x = ((env : FrontEnv) (choice : FirstChoice) → front_admitted env x.part choice ≡ None) × Each (λ r. ReadsOn r → ⊥) x.turn.notes

abbrev pub Leaves : FrontDeed → Type 0
Leaves Drops = Unit {0}
Leaves (Says t) = Unit {0}
Leaves (Does x) = IsLeft x

ended_by-leaves : (env : FrontEnv) (p : FrontPart) (from epoch : ℕ) (last : Final) (o : Option FrontRow) (given : OnEnded) → Leaves (front_ended_by env p from epoch last o given)
ended_by-leaves env p from epoch last None given = tt
ended_by-leaves env p from epoch last (Some row) (New next) = ((λ env choice. refl), ((λ h. h), ((λ h. h), tt)))
ended_by-leaves env p from epoch last (Some row) Again = tt
ended_by-leaves env p from epoch last (Some row) Stale = tt

pub ended-leaves : (env : FrontEnv) (p : FrontPart) (from epoch : ℕ) (last : Final) → Leaves (front_ended env p from epoch last)
ended-leaves env p from epoch last = ended_by-leaves env p from epoch last p.row (end_answer epoch p.row)

-- the head of the line has a row
pub admitted-row : (env : FrontEnv) (p : FrontPart) (choice : FirstChoice) (y : FrontPart × FrontTurn) → front_admitted env p choice ≡ Some y → (row : FrontRow) × (p.row ≡ Some row)
admitted-row env p choice y e = go p.row refl where
  go : (o : Option FrontRow) → p.row ≡ o → (row : FrontRow) × (p.row ≡ Some row)
  go None is = let no : ◌≡◌ {A = Option (FrontPart × FrontTurn)} None (Some y) = ap (λ (o : Option FrontRow). front_admitted env (record p { row = o }) choice) (sym is) ∙ e in absurd cc
  go (Some row) is = (row, is)

-- ---- nothing of it stands behind the head

plus-none : (n : ℕ) → n + 0 ≡ n
plus-none n = omega arith

rest-none : (a : Out) → with_rest a nothing_done ≡ a
rest-none a = λ i. record {
  notes = append-nil a.notes i;
  segments = append-nil a.segments i;
  gave = append-nil a.gave i;
  messages = append-nil a.messages i;
  timers = a.timers;
  answered = plus-none a.answered i;
}

both-none : (t u : FrontTurn) (rows as_ bs : List Rec) → both_out (front_out_of t as_) (front_out_of u bs) nothing_done rows ≡ front_out_of (front_joined t u) rows
both-none t u rows as_ bs = λ i. record {
  notes = append-nil (t.notes ++ u.notes) i;
  segments = append-nil (t.segments ++ u.segments) i;
  gave = append-nil (t.gave ++ u.gave) i;
  messages = append-nil (t.messages ++ u.messages) i;
  timers = rows;
  answered = plus-none t.answered i;
}

-- ---- the step

module _ (m : Machine) (view : IsViewed m) (P : Conn → Move → Type 0) (R : Rules (setting_of m) P) (Q : Event → Machine → Type 0) (shapes : Shapes m P Q)
    (e : Event) (c : ℕ) (heads : List Seen) (number : IsConnNumber c) (begins : Begins m e Front c heads) (own : AreOwn e (behind e)) where
  -- connection c is put back so
  module _ (x : Did) (of : IsFrontDeed c (front_part m.front c) (Does x)) (does : P (conn m c) (front_does (conn m c) heads (Does x))) (is_left : IsLeft x) where
    abbrev s : FrontState
    s = put_back m.front c x

    abbrev cs : List Rec
    cs = front_timers c (front_part m.front c) x.part

    alone : Q e (front_gave m e (behind e) (s, front_out_of x.turn cs))
    alone = front-acts m P Q shapes e c heads number begins own (Does x) of does

    -- the head is another connection
    apart : (d : ℕ) (env : FrontEnv) (choice : FirstChoice) (y : FrontPart × FrontTurn) → front_admitted env (front_part s d) choice ≡ Some y → d ≢ c
    apart d env choice y e same =
        let p : front_part s d ≡ x.part = ap (front_part s) same ∙ part_put m.front c x.part in
        let no : ◌≡◌ {A = Option (FrontPart × FrontTurn)} None (Some y) = sym (is_left.0 env choice) ∙ ap (λ (p : FrontPart). front_admitted env p choice) (sym p) ∙ e in absurd cc

    -- the head is admitted as well
    admitted : (d : ℕ) (choice : FirstChoice) (y : FrontPart × FrontTurn) → front_admitted (front_env (front_setting m) s d 0) (front_part s d) choice ≡ Some y
        → Q e (front_gave m e (behind e) (front_put s d y.0, front_out_of (front_joined x.turn y.1) (in_order c d cs (front_timers d (front_part s d) y.0))))
    unfolding conn part_of timer_rows
    admitted d choice y e_ =
        let env : FrontEnv = front_env (front_setting m) s d 0 in
        let n : d ≢ c = apart d env choice y e_ in
        let before : front_part s d ≡ front_part m.front d = part_other m.front c d x.part n in
        let now : front_admitted env (front_part m.front d) choice ≡ Some y = ap (λ (p : FrontPart). front_admitted env p choice) (sym before) ∙ e_ in
        let row = admitted-row env (front_part m.front d) choice y now in
        let its : IsConnNumber d = row-number (conn m d) row.0 (view.sound d) row.1 in
        let ds : List Rec = front_timers d (front_part s d) y.0 in
        let kept = sent-messages (conn m d) Front (front_part m.front d).kept (view.sound d).between (view.sound d).front in
        let admission : IsAdmission d (front_part m.front d) y = admitted-turn env refl its (front_part m.front d) kept choice y now in
        let rows : List Rec = in_order c d cs ds in
        let a : Out = front_out_of x.turn cs in
        let w : Machine = record m { front = front_put s d y.0 } in
        subst (λ (o : Out). Q e (machine_told w e (behind e) Front o)) (both-none x.turn y.1 rows cs ds)
        (shapes.two w e a (front_out_of y.1 ds) nothing_done rows c d heads x.turn.notes (with_front (part_of m c) x.part) (with_front (part_of m d) y.0)
        (record {
          put = front-put m (front_put s d y.0);
          number = number;
          number_too = its;
          apart = n;
          begins = begins;
          first = (
            behind e,
            x.turn.notes ++ y.1.notes ++ [],
            refl,
            own,
            others_append (x.turn.notes ++ y.1.notes) [] (others_append x.turn.notes y.1.notes (notes-other Front c x.turn.notes tt (notes-in Front c x.turn.notes of.0.notes)) (notes-other Front d y.1.notes tt (notes-in Front d y.1.notes admission.0.notes))) refl,
          );
          closes = inr (Each-append IsNoClosing (x.turn.notes ++ y.1.notes) []
              (Each-append IsNoClosing x.turn.notes y.1.notes (notes-closing Front c x.turn.notes of.0.notes) (notes-closing Front d y.1.notes admission.0.notes)) tt);
          said = said-in Front c x.turn.notes x.turn.segments x.turn.gave x.turn.messages x.turn.answered of.0;
          said_too = said-in Front d y.1.notes y.1.segments y.1.gave y.1.messages 0 admission.0;
          said_rest = record { notes = tt; segments = tt; gave = tt; messages = tt; counted = λ n. omega arith };
          before = is_left.1;
          reads_on = tt;
          notes = λ net. ap (seen_on c net) (append-nil x.turn.notes) ∙ notes-all Front c net x.turn.notes tt of.0.notes;
          notes_too = λ net. notes-all Front d net y.1.notes tt admission.0.notes;
          order = ordered (nat_lt d c) ds;
          timers = refl;
          timers_too = ap (λ (p : FrontPart). front_timers d p y.0) before;
          mine = front-mine m (front_put s d y.0) c x.part (part_other s d c y.0 (λ same. n (sym same)) ∙ part_put m.front c x.part);
          mine_too = front-mine m (front_put s d y.0) d y.0 (part_put s d y.0);
          others = λ q not_c not_d. front-others m (front_put s d y.0) q (part_other s d q y.0 not_d ∙ part_other m.front c q x.part not_c);
        })
        (subst (λ (o : Out). P (conn m c) (move_of Front heads x.turn.notes o (with_front (part_of m c) x.part))) (sym (rest-none a)) does)
        (R.untouched.front.admitted (conn m d) env choice y (record { place = refl; number = refl; files = refl; stream = refl }) now)) where
          ordered : (b : Bool) (ds : List Rec) → (cond b (ds ++ cs) (cs ++ ds) ≡ cs ++ ds) ⊎ (cond b (ds ++ cs) (cs ++ ds) ≡ ds ++ cs)
          ordered true ds = inr refl
          ordered false ds = inl refl

    -- what the books say of the line
    too : (d : ℕ) (choice : FirstChoice) (o : Option (FrontPart × FrontTurn)) → front_admitted (front_env (front_setting m) s d 0) (front_part s d) choice ≡ o
        → Q e (front_gave m e (behind e) (admits_too m.front s c x d o))
    too d choice None is = alone
    too d choice (Some y) is = admitted d choice y is

    next : (o : Option (ℕ × FirstChoice)) → Q e (front_gave m e (behind e) (admits (front_setting m) m.front s c x o))
    next None = alone
    next (Some n) = too n.0 n.1 (front_admitted (front_env (front_setting m) s n.0 0) (front_part s n.0) n.1) refl

    pub over : Q e (front_gave m e (behind e) (ended_deed (front_setting m) m.front c (Does x)))
    over = next (ended_answer m.front.dispatch c (front_setting m).now)

  -- a rule by which a connection may have ended
  pub ended-acts : (deed : FrontDeed) → Leaves deed → IsFrontDeed c (front_part m.front c) deed → P (conn m c) (front_does (conn m c) heads deed)
      → Q e (front_gave m e (behind e) (ended_deed (front_setting m) m.front c deed))
  ended-acts Drops leaves of does = front-acts m P Q shapes e c heads number begins own Drops of does
  ended-acts (Says t) leaves of does = front-acts m P Q shapes e c heads number begins own (Says t) of does
  ended-acts (Does x) leaves of does = over x of does leaves
