-- Where a connection comes back, the front end acts on it, and on the head of the line as well where that is admitted; behind that stands the rest.
use Rattle.std.proofs.Common.{◌≡◌, ◌≢◌, ℕ, ◌+◌, nat_lt, Bool, true, false, cond, List, [], ◌∷◌, ◌++◌, map, Option, Some, None, refl, sym, ap, ◌∙◌, subst, inl, inr, append-nil, append_assoc, arith}
use Rattle.std.proofs.lemmas.Bool.{cond_both}
use Rattle.std.proofs.lemmas.List.Sums.{fold-append}
use Rattle.std.specs.Prelude.{◌⊎◌}
use Rattle.std.specs.List.{fold}
use Rattle.lard_dispatch.specs.declared.dispatch.First.{First}
use Rattle.lard_dispatch.specs.declared.dispatch.First.TheVariants as first
use Rattle.lard_handoff_front.specs.declared.table.returns.Back.{Back}
use Rattle.lard_handoff_front.specs.declared.table.returns.Back.TheVariants as back
use Rattle.lard_journal.specs.declared.rec.Rec.TheVariants as rec
use Rattle.lard_law_view.specs.Prelude.{AreOwn, Call, Conn, Did, EndpointParts, Epoch, Event, FirstChoice, Front, FrontDeed, FrontEnv, FrontPart, FrontRow, FrontState, FrontTurn, IsConnNumber, IsFrontEnv, IsViewed, Machine, Move, Node, NodeState, Out, Packet, Part, Place, Reading, Rec, Row, Rules, Seen, ServeEnv, Service, adopted, after_close, answered_step, back_answer, back_notes, back_part, back_rest, conn, does_first, ended_answer, front_admitted, front_deed, front_does, front_env, front_gave, front_joined, front_out_of, front_part, front_put, front_reads, front_returned, front_saying, front_setting, front_timers, given_sent, holds, in_order, is_open, machine_told, nothing_done, part_of, parts_back, placed, put_back, reads_on, returned_by, returned_row, seen_on, serving, serving_settled, setting_of, settled_by, timer_rows, with_front}
use Rattle.lard_law_view.proofs.ByteLists.{each-before, each-behind}
use Rattle.lard_law_view.proofs.Ended.{admitted-row}
use Rattle.lard_law_view.proofs.Firsts.{others_append}
use Rattle.lard_law_view.proofs.FrontActs.{front-acts, front-put}
use Rattle.lard_law_view.proofs.Fronts.{IsAdmission, IsFrontDeed, admitted-turn, reads-noted}
use Rattle.lard_law_view.proofs.Heads.{Begins}
use Rattle.lard_law_view.proofs.Numbers.{row-number}
use Rattle.lard_law_view.proofs.OwnRecords.{IsNoClosing, behind}
use Rattle.lard_law_view.proofs.Parts.{front-mine, front-others}
use Rattle.lard_law_view.proofs.PlaceTurns.{NotesServing, settled-turn}
use Rattle.lard_law_view.proofs.Saying.{AreMessages, NotedAt, NotedIn, notes-all, notes-closing, notes-other, own-first}
use Rattle.lard_law_view.proofs.Shapes.{HearsReturn, ReadsOn, Shapes, both_out, move_of, with_rest}
use Rattle.lard_law_view.proofs.Turned.{notes-in, said-in, sent-messages}
use Rattle.lard_history.proofs.Each.{Each, Each-append}
use Rattle.lard_rules.proofs.FrontCases.{waiting_service}
use Rattle.lard_rules.proofs.FrontParts.{part_other, part_put}
use Rattle.lard_rules.specs.Front.{Drops, Says, Does}
use Rattle.lard_rules.specs.FrontPlace.{HeadTurn, closed_note, comes_back, env_behind, goes_behind, handed_head, head_turn, no_head, put_returned, returned_deed, returned_notes, returned_turn, returns}

-- ---- what reads on

-- it does something
pub does-read : (env : FrontEnv) (p : FrontPart) (row : FrontRow) (parts : EndpointParts) → (x : Did) × (reads_on env p row parts ≡ Does x)
does-read env p row parts = go (front_reads env.serve (record { service = serving (adopted parts) parts.served []; target = None })).target refl where
  w : Service
  w = (front_reads env.serve (record { service = serving (adopted parts) parts.served []; target = None })).service

  go : (o : Option (List ℕ)) → (front_reads env.serve (record { service = serving (adopted parts) parts.served []; target = None })).target ≡ o → (x : Did) × (reads_on env p row parts ≡ Does x)
  go o is = did o (ap (settled_by env (back_part p row parts) (returned_row parts row) (back_rest parts) w) is) where
    did : (o : Option (List ℕ)) → reads_on env p row parts ≡ settled_by env (back_part p row parts) (returned_row parts row) (back_rest parts) w o
        → (x : Did) × (reads_on env p row parts ≡ Does x)
    did None e = (_, e)
    did (Some path) e = (_, e)

reading-notes : (serve : ServeEnv) → NotesServing serve ReadsOn
reading-notes serve = record { served = λ r code size via. tt; reset = λ total. tt }

abbrev ReadsOnly : FrontDeed → Type 0
ReadsOnly Drops = Unit {0}
ReadsOnly (Says t) = Each ReadsOn t.notes
ReadsOnly (Does x) = Each ReadsOn x.turn.notes

-- where nobody is admitted it is answered, or it waits
pub reads-only : (env : FrontEnv) (p : FrontPart) (row : FrontRow) (parts : EndpointParts) → ((path : List ℕ) → env.first path ≡ first.Waits) → ReadsOnly (reads_on env p row parts)
reads-only env p row parts none = settled (front_reads env.serve x).service (front_reads env.serve x).target (reads-noted env.serve ReadsOn (reading-notes env.serve) x (tt, λ n. omega arith)) where
  x : Reading
  x = record { service = serving (adopted parts) parts.served []; target = None }

  waits : (w : Service) (path : List ℕ) → Each ReadsOn w.notes → (f : First) → f ≡ first.Waits → ReadsOnly (Does (placed env (back_part p row parts) (returned_row parts row) (back_rest parts) w path f))
  waits w path h (first.Go choice) is = let no : first.Go choice ≡ first.Waits = is in absurd cc
  waits w path h first.Waits is = Each-append ReadsOn w.notes (rec.Waits env.serve.c ∷ []) h (tt, tt)

  settled : (w : Service) (o : Option (List ℕ)) → Each ReadsOn w.notes × ((n : ℕ) → fold answered_step n w.notes ≡ n + w.answered)
      → ReadsOnly (settled_by env (back_part p row parts) (returned_row parts row) (back_rest parts) w o)
  settled w None h = (settled-turn env.serve ReadsOn (reading-notes env.serve) w h).notes
  settled w (Some path) h = waits w path h.0 (env.first path) (none path)

-- ---- what is noted of a return

module _ (c from : ℕ) (row : FrontRow) (x : FrontTurn) (of : Each (NotedAt Front c) (back_notes c row ++ x.notes)) where
  abbrev closes : Bool → List Rec
  closes b = cond b (rec.Closed from ∷ []) []

  -- the notes of the return, where its node was open or not
  abbrev noted : Bool → List Rec
  noted b = rec.Took Front c (record { 0 = row.epoch.0 + 1 }) ∷ closes b ++ rec.Released c ∷ []

  noted-in : (b : Bool) → Each (NotedIn Front c) (noted b)
  noted-in true = (inl refl, (inr tt, (inl refl, tt)))
  noted-in false = (inl refl, (inl refl, tt))

  -- nothing is read on before the head
  noted-first : (b : Bool) → Each (λ r. ReadsOn r → ⊥) (noted b)
  noted-first true = ((λ h. h), ((λ h. h), ((λ h. h), tt)))
  noted-first false = ((λ h. h), ((λ h. h), tt))

  all-in : (b : Bool) → Each (NotedIn Front c) (noted b ++ x.notes)
  all-in b = Each-append (NotedIn Front c) (noted b) x.notes (noted-in b) (notes-in Front c x.notes of.1.1)

  -- the connection sees its own
  all-seen : (b : Bool) (net : List Packet) → seen_on c net (noted b ++ x.notes) ≡ map Row (back_notes c row ++ x.notes)
  all-seen true net = notes-all Front c net (back_notes c row ++ x.notes) tt of
  all-seen false net = notes-all Front c net (back_notes c row ++ x.notes) tt of

  noted-counts : (b : Bool) (n : ℕ) → fold answered_step n (noted b) ≡ n
  noted-counts true n = refl
  noted-counts false n = refl

-- ---- the step

module _ (m : Machine) (view : IsViewed m) (P : Conn → Move → Type 0) (R : Rules (setting_of m) P) (Q : Event → Machine → Type 0) (shapes : Shapes m P Q)
    (e : Event) (c : ℕ) (heads : List Seen) (number : IsConnNumber c) (begins : Begins m e Front c heads) (own : AreOwn e (behind e))
    (from epoch : ℕ) (given : Option EndpointParts) (hears : HearsReturn m e c from)
    (good : (env : FrontEnv) → IsFrontEnv (setting_of m) c env → IsFrontDeed c (front_part m.front c) (front_returned env (front_part m.front c) from epoch given))
    (does : (env : FrontEnv) → IsFrontEnv (setting_of m) c env → P (conn m c) (front_does (conn m c) heads (front_returned env (front_part m.front c) from epoch given))) where
  abbrev s : FrontState
  s = m.front

  abbrev p : FrontPart
  p = front_part m.front c

  abbrev said : List (Place × List ℕ)
  said = given_sent c from epoch given

  is-env : (h : HeadTurn) → IsFrontEnv (setting_of m) c (env_behind (front_setting m) h c)
  is-env h = record { place = refl; number = refl; files = refl; stream = refl }

  -- it comes back with these parts
  module _ (row : FrontRow) (parts : EndpointParts) (comes : (env : FrontEnv) → env.serve.c ≡ c → front_returned env p from epoch given ≡ does_first (back_notes env.serve.c row) said (reads_on env p row parts)) where
    abbrev t : FrontState
    t = put_returned (front_setting m) s from c row parts

    abbrev open_ : Bool
    open_ = is_open s.dispatch.books.loads from

    -- what it does behind the head
    module _ (h : HeadTurn) (x : Did) (is : reads_on (env_behind (front_setting m) h c) p row parts ≡ Does x) where
      abbrev env : FrontEnv
      env = env_behind (front_setting m) h c

      deed-is : front_returned env p from epoch given ≡ does_first (back_notes c row) said (Does x)
      deed-is = comes env refl ∙ ap (does_first (back_notes c row) said) is

      of : IsFrontDeed c p (does_first (back_notes c row) said (Does x))
      of = subst (IsFrontDeed c p) deed-is (good env (is-env h))

      goes : P (conn m c) (front_does (conn m c) heads (does_first (back_notes c row) said (Does x)))
      goes = subst (λ (d : FrontDeed). P (conn m c) (front_does (conn m c) heads d)) deed-is (does env (is-env h))

      abbrev cs : List Rec
      cs = front_timers c p x.part

      -- nobody stands in the line
      alone : Q e (front_gave m e (behind e) (put_back t c x, front_out_of (returned_turn (returned_notes s.dispatch from c row) said (front_saying []) x.turn) cs))
      unfolding conn part_of timer_rows
      alone =
          let b : Bool = open_ in
          let o : Out = front_out_of (returned_turn (returned_notes s.dispatch from c row) said (front_saying []) x.turn) cs in
          let ns : List Rec = back_notes c row ++ x.turn.notes in
          let same : (noted c from row x.turn of.0.notes b ++ []) ++ x.turn.notes ≡ noted c from row x.turn of.0.notes b ++ x.turn.notes =
          ap (λ (rs : List Rec). rs ++ x.turn.notes) (append-nil (noted c from row x.turn of.0.notes b)) in
          let sent : (said ++ []) ++ x.turn.messages ≡ said ++ x.turn.messages = ap (λ (ms : List (Place × List ℕ)). ms ++ x.turn.messages) (append-nil said) in
          let all : Each (NotedIn Front c) o.notes = subst (Each (NotedIn Front c)) (sym same) (all-in c from row x.turn of.0.notes b) in
          shapes.one (record m { front = put_back t c x }) e Front o c heads ns (with_front (part_of m c) x.part)
          (record {
            put = front-put m (put_back t c x);
            number = number;
            begins = begins;
            said = record {
              notes = all;
              segments = of.0.segments;
              gave = of.0.gave;
              messages = subst (AreMessages c Front) (sym sent) of.0.messages;
              counted = λ n. ap (fold answered_step n) same ∙ fold-append answered_step n (noted c from row x.turn of.0.notes b) x.turn.notes
                  ∙ ap (λ k. fold answered_step k x.turn.notes) (noted-counts c from row x.turn of.0.notes b n) ∙ of.0.counted n;
            };
            first = own-first e Front c o.notes tt own all;
            closes = inl (record { from = from; hears = hears; taken = record { 0 = row.epoch.0 + 1 }; open_ = b; rest = x.turn.notes; are = same; none = notes-closing Front c x.turn.notes of.0.notes.1.1 });
            notes = λ net. ap (seen_on c net) same ∙ all-seen c from row x.turn of.0.notes b net;
            timers = refl;
            mine = front-mine m (put_back t c x) c x.part (part_put t c x.part);
            others = λ q n. front-others m (put_back t c x) q (part_other t c q x.part n ∙ part_other s c q (back_part p row parts) n);
          })
          (subst (λ (ms : List (Place × List ℕ)). P (conn m c) (record { place = Front; heads = heads; said = record { notes = ns; segments = x.turn.segments; gave = x.turn.gave; messages = ms }; part = with_front (part_of m c) x.part }))
          (sym sent) goes)

    -- the head of the line is handed off as well
    module _ (d : ℕ) (choice : FirstChoice) (y : FrontPart × FrontTurn) (admitted : front_admitted (front_env (front_setting m) t d 0) (front_part t d) choice ≡ Some y) where
      abbrev h : HeadTurn
      h = handed_head (front_setting m) t c d (Some y)

      abbrev k : FrontEnv
      k = front_env (front_setting m) t d 0

      -- who came back does not wait
      apart : d ≢ c
      apart same =
          let its : front_part t d ≡ back_part p row parts = ap (front_part t) same ∙ part_put s c (back_part p row parts) in
          let no : ◌≡◌ {A = Option (FrontPart × FrontTurn)} None (Some y) = ap (λ (q : FrontPart). front_admitted k q choice) (sym its) ∙ admitted in absurd cc

      before : front_part t d ≡ front_part m.front d
      before = part_other s c d (back_part p row parts) apart

      now : front_admitted k (front_part m.front d) choice ≡ Some y
      now = ap (λ (q : FrontPart). front_admitted k q choice) (sym before) ∙ admitted

      its-number : IsConnNumber d
      unfolding conn part_of
      its-number = let row = admitted-row k (front_part m.front d) choice y now in row-number (conn m d) row.0 (view.sound d) row.1

      admission : IsAdmission d (front_part m.front d) y
      unfolding conn part_of
      admission = admitted-turn k refl its-number (front_part m.front d) (sent-messages (conn m d) Front (front_part m.front d).kept (view.sound d).between (view.sound d).front) choice y now

      module _ (x : Did) (is : reads_on (env_behind (front_setting m) h c) p row parts ≡ Does x) where
        abbrev mine : IsFrontDeed c p (does_first (back_notes c row) said (Does x))
        mine = of h x is

        abbrev its : List Rec
        its = front_timers c p x.part

        abbrev ds : List Rec
        ds = front_timers d (front_part t d) y.0

        abbrev a : Out
        a = record { notes = returned_notes s.dispatch from c row; segments = []; gave = []; messages = said; timers = its; answered = 0 }

        abbrev z : Out
        z = record { notes = x.turn.notes; segments = x.turn.segments; gave = x.turn.gave; messages = x.turn.messages; timers = []; answered = x.turn.answered }

        ordered : (b : Bool) → (cond b (ds ++ its) (its ++ ds) ≡ its ++ ds) ⊎ (cond b (ds ++ its) (its ++ ds) ≡ ds ++ its)
        ordered true = inr refl
        ordered false = inl refl

        both : Q e (front_gave m e (behind e) (put_back h.state c x, front_out_of (returned_turn (returned_notes s.dispatch from c row) said y.1 x.turn) (in_order c d its ds)))
        unfolding conn part_of timer_rows
        both =
            let b : Bool = open_ in
            let notes : Each (NotedAt Front c) (back_notes c row ++ x.turn.notes) = mine.0.notes in
            let rows : List Rec = in_order c d its ds in
            let w : Machine = record m { front = put_back h.state c x } in
            let first_in : Each (NotedIn Front c) a.notes = noted-in c from row x.turn notes b in
            let rest_in : Each (NotedIn Front c) x.turn.notes = notes-in Front c x.turn.notes notes.1.1 in
            let its_in : Each (NotedIn Front d) y.1.notes = notes-in Front d y.1.notes admission.0.notes in
            let rest : List Rec = x.turn.notes in
            let counted : (n : ℕ) → fold answered_step n rest ≡ n + x.turn.answered = mine.0.counted in
            subst (λ (j : ℕ). Q e (machine_told w e (behind e) Front (record (both_out a (front_out_of y.1 ds) z rows) { answered = j }))) (none-more x.turn.answered)
            (shapes.two w e a (front_out_of y.1 ds) z rows c d heads (back_notes c row ++ x.turn.notes) (with_front (part_of m c) x.part) (with_front (part_of m d) y.0)
            (record {
              put = front-put m (put_back h.state c x);
              number = number;
              number_too = its-number;
              apart = apart;
              begins = begins;
              first = (
                behind e,
                a.notes ++ y.1.notes ++ x.turn.notes,
                refl,
                own,
                others_append (a.notes ++ y.1.notes) x.turn.notes (others_append a.notes y.1.notes (notes-other Front c a.notes tt first_in) (notes-other Front d y.1.notes tt its_in))
                    (notes-other Front c x.turn.notes tt rest_in),
              );
              closes = inl (record {
                from = from;
                hears = hears;
                taken = record { 0 = row.epoch.0 + 1 };
                open_ = b;
                rest = y.1.notes ++ x.turn.notes;
                are = append_assoc a.notes y.1.notes x.turn.notes;
                none = Each-append IsNoClosing y.1.notes x.turn.notes (notes-closing Front d y.1.notes admission.0.notes) (notes-closing Front c x.turn.notes notes.1.1);
              });
              said = record { notes = first_in; segments = tt; gave = tt; messages = givens; counted = λ n. noted-counts c from row x.turn notes b n ∙ omega arith };
              said_too = said-in Front d y.1.notes y.1.segments y.1.gave y.1.messages 0 admission.0;
              said_rest = record { notes = rest_in; segments = mine.0.segments; gave = mine.0.gave; messages = each-behind _ said x.turn.messages mine.0.messages; counted = counted };
              before = noted-first c from row x.turn notes b;
              reads_on = subst ReadsOnly is (reads-only (env_behind (front_setting m) h c) p row parts (λ path. refl));
              notes = λ net. all-seen c from row x.turn notes b net;
              notes_too = λ net. notes-all Front d net y.1.notes tt admission.0.notes;
              order = ordered (nat_lt d c);
              timers = refl;
              timers_too = ap (λ (q : FrontPart). front_timers d q y.0) before;
              mine = front-mine m (put_back h.state c x) c x.part (part_put h.state c x.part);
              mine_too = front-mine m (put_back h.state c x) d y.0 (part_other h.state c d x.part apart ∙ part_put t d y.0);
              others = λ q not_c not_d. front-others m (put_back h.state c x) q (part_other h.state c q x.part not_c ∙ part_other t d q y.0 not_d ∙ part_other s c q (back_part p row parts) not_c);
            })
            (goes h x is)
            (R.untouched.front.admitted (conn m d) k choice y (record { place = refl; number = refl; files = refl; stream = refl }) now)) where
              none-more : (n : ℕ) → 0 + n ≡ n
              none-more n = omega arith

              givens : AreMessages c Front said
              givens = each-before _ said x.turn.messages mine.0.messages

    -- what the books say of the line
    behind-head : (h : HeadTurn) → ((x : Did) → reads_on (env_behind (front_setting m) h c) p row parts ≡ Does x
        → Q e (front_gave m e (behind e) (goes_behind s c (returned_notes s.dispatch from c row) said h (Does x))))
        → Q e (front_gave m e (behind e) (goes_behind s c (returned_notes s.dispatch from c row) said h (reads_on (env_behind (front_setting m) h c) p row parts)))
    behind-head h each =
        let x = does-read (env_behind (front_setting m) h c) p row parts in
        subst (λ (d : FrontDeed). Q e (front_gave m e (behind e) (goes_behind s c (returned_notes s.dispatch from c row) said h d))) (sym x.1) (each x.0 x.1)

    nobody : Q e (front_gave m e (behind e) (goes_behind s c (returned_notes s.dispatch from c row) said (no_head (front_setting m) t)
        (reads_on (env_behind (front_setting m) (no_head (front_setting m) t) c) p row parts)))
    nobody = behind-head (no_head (front_setting m) t) (λ x is. alone (no_head (front_setting m) t) x is)

    too : (d : ℕ) (choice : FirstChoice) (o : Option (FrontPart × FrontTurn)) → front_admitted (front_env (front_setting m) t d 0) (front_part t d) choice ≡ o
        → Q e (front_gave m e (behind e) (goes_behind s c (returned_notes s.dispatch from c row) said (handed_head (front_setting m) t c d o)
        (reads_on (env_behind (front_setting m) (handed_head (front_setting m) t c d o) c) p row parts)))
    too d choice None is = nobody
    too d choice (Some y) is = behind-head (handed_head (front_setting m) t c d (Some y)) (λ x reads. both d choice y is x reads)

    next : (o : Option (ℕ × FirstChoice)) → Q e (front_gave m e (behind e) (goes_behind s c (returned_notes s.dispatch from c row) said (head_turn (front_setting m) t c o)
        (reads_on (env_behind (front_setting m) (head_turn (front_setting m) t c o) c) p row parts)))
    next None = nobody
    next (Some n) = too n.0 n.1 (front_admitted (front_env (front_setting m) t n.0 0) (front_part t n.0) n.1) refl

    over : Q e (front_gave m e (behind e) (returns (front_setting m) s from c said row parts))
    over = next (ended_answer (after_close s.dispatch from) c (front_setting m).now)

  -- by the answer, and the parts
  by-answer : (o : Option FrontRow) (answer : Back) (parts : Option EndpointParts) → p.row ≡ o → back_answer from epoch given o ≡ answer → parts_back p given ≡ parts
      → Q e (front_gave m e (behind e) (returned_deed (front_setting m) s from c said o answer parts))
  by-answer o answer parts at is comes = go o answer parts (λ env. λ i. returned_by env p (given_sent env.serve.c from epoch given) (at i) (told i) (comes i)) where
    told : back_answer from epoch given p.row ≡ answer
    told = ap (back_answer from epoch given) at ∙ is

    silent : ((env : FrontEnv) → front_returned env p from epoch given ≡ Drops) → Q e (front_gave m e (behind e) (s, nothing_done))
    silent drops = front-acts m P Q shapes e c heads number begins own Drops
        (subst (IsFrontDeed c p) (drops env) (good env is_env)) (subst (λ (d : FrontDeed). P (conn m c) (front_does (conn m c) heads d)) (drops env) (does env is_env)) where
          env : FrontEnv
          env = front_env (front_setting m) s c 0

          is_env : IsFrontEnv (setting_of m) c env
          is_env = record { place = refl; number = refl; files = refl; stream = refl }

    again : ((env : FrontEnv) → front_returned env p from epoch given ≡ Says (front_saying (given_sent env.serve.c from epoch given))) → Q e (front_gave m e (behind e) (s, front_out_of (front_saying said) []))
    again says = front-acts m P Q shapes e c heads number begins own (Says (front_saying said))
        (subst (IsFrontDeed c p) (says env) (good env is_env)) (subst (λ (d : FrontDeed). P (conn m c) (front_does (conn m c) heads d)) (says env) (does env is_env)) where
          env : FrontEnv
          env = front_env (front_setting m) s c 0

          is_env : IsFrontEnv (setting_of m) c env
          is_env = record { place = refl; number = refl; files = refl; stream = refl }

    go : (o : Option FrontRow) (answer : Back) (parts : Option EndpointParts)
        → ((env : FrontEnv) → front_returned env p from epoch given ≡ returned_by env p (given_sent env.serve.c from epoch given) o answer parts)
        → Q e (front_gave m e (behind e) (returned_deed (front_setting m) s from c said o answer parts))
    go (Some row) (back.New epoch_) (Some parts) k = over row parts (λ env same. k env ∙ ap (λ (n : ℕ). does_first (back_notes env.serve.c row) (given_sent n from epoch given) (reads_on env p row parts)) same)
    go (Some row) (back.New epoch_) None k = silent k
    go (Some row) back.Again parts k = again k
    go (Some row) back.Stale parts k = silent k
    go None answer parts k = silent k

  -- a Refused or a Give comes
  pub returned-acts : Q e (front_gave m e (behind e) (comes_back (front_setting m) m.front from c epoch given))
  returned-acts = by-answer p.row (back_answer from epoch given p.row) (parts_back p given) refl refl refl
