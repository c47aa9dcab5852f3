-- The calls of the dispatcher that a step of the front end makes: they may be made, close a node where its notes do, and name connections
-- where its notes do.
use Rattle.std.proofs.Common.{◌≡◌, ℕ, ◌≤◌, Bool, true, false, List, [], ◌∷◌, ◌++◌, length, is_some, Option, Some, None, Result, Ok, Err, arith, refl, sym, ap, ◌∙◌, subst, cond}
use Rattle.std.specs.List.{AllByRecursion}
use Rattle.lard_law_connections.proofs.PolicyNumbers.{IsNumbered}
use Rattle.lard_law_view.specs.Prelude.{AreAllowed, Ask, Body, Call, ClosesNone, Did, Dispatcher, Ending, EndpointParts, Final, First, FirstChoice, FrontDeed, FrontEnv, FrontIn, FrontPart, FrontRest, FrontRow, FrontSetting, FrontState, FrontTurn, IsCallInRange, IsFrontSound, IsOfTable, Later, LaterChoice, MayClose, MayCloseBy, MayCloseOn, Message, MsgFault, Out, Place, Reading, Rec, Said, SegFault, Service, ToCluster, Turn, admits, admits_too, after_call, after_calls, after_close, ask_of, assigned_notes, assigns, back_part, back_rest, decoded, decoded_message, dispatch_standing, ended_answer, ended_deed, front_admitted, front_asked, front_deed, front_drains, front_ended, front_ends, front_env, front_fired, front_gets, front_out_of, front_part, front_reads, front_rest, front_saying, front_step, front_taken, front_timer, front_told, home, is_open, leaves_by, message_comes, next_epoch, nothing_done, over_note, placed, put_back, reads_on, returned_row, serving_settled, sets_closed, settled_by, spoken, tally_closed}
use Rattle.lard_dispatch.specs.Calls.{after_ended}
use Rattle.lard_dispatch.specs.Laws as call
use Rattle.lard_dispatch.specs.declared.dispatch.First.TheVariants as first
use Rattle.lard_rules.specs.Front.{Does, Drops, Says, given_sent}
use Rattle.lard_rules.specs.FrontPlace.{HeadTurn, comes_back, goes_behind, returns}
use Rattle.lard_rules.specs.FrontSound.{HasOther, open_nodes_of}
use Rattle.lard_rules.proofs.FrontDeeds.{IsOf, asked-keeps, gets-keeps, many-choices, taken-keeps, timer-keeps}
use Rattle.lard_rules.proofs.FrontEnded.{Comes, IsAdmitted, end-comes, may-end}
use Rattle.lard_rules.proofs.FrontReturning.{AreValid, back-valid, read-on}
use Rattle.lard_rules.proofs.FrontKeeping.{DeedKeeps}
use Rattle.lard_rules.proofs.FrontOpen.{has-open}
use Rattle.lard_history.proofs.Each.{Each}
use Rattle.lard_journal.specs.declared.rec.Rec.TheVariants as rec
use Rattle.lard_message.specs.declared.message.Body.TheVariants as body
use Rattle.lard_law_connections.proofs.ReturnedSteps.{back_by, closed_where, comes-keeps, env_by, first_reading, head-books, head_by, notes_where, reads-does, reads_did}
use Rattle.lard_rules.proofs.MessageTold.{IsTold, message-told}
use Rattle.lard_rules.specs.declared.front.FrontIn.TheVariants as input
use Rattle.lard_rules.specs.declared.places.Ending.TheVariants as ending
use Rattle.lard_rules.proofs.FrontCases.{KeptBySegment, begun_service, heard_service, waiting_service, segment-keeps}
use Rattle.lard_rules.proofs.FrontCases as cases
use Rattle.lard_law_view.proofs.ByteLists.{each-before, each-behind}
use Rattle.lard_law_view.proofs.OwnRecords.{IsNoClosing}

-- ---- calls behind calls

pub calls-append : (d : Dispatcher) (xs ys : List Call) → after_calls d (xs ++ ys) ≡ after_calls (after_calls d xs) ys
calls-append d [] ys = refl
calls-append d (x ∷ xs) ys = calls-append (after_call d x) xs ys

pub allowed-append : (d : Dispatcher) (xs ys : List Call) → AreAllowed d xs → AreAllowed (after_calls d xs) ys → AreAllowed d (xs ++ ys)
allowed-append d [] ys h k = k
allowed-append d (x ∷ xs) ys h k = (h.0, allowed-append (after_call d x) xs ys h.1 k)

pub all-append : (P : Call → Type 0) (xs ys : List Call) → AllByRecursion P xs → AllByRecursion P ys → AllByRecursion P (xs ++ ys)
all-append P [] ys h k = k
all-append P (x ∷ xs) ys h k = (h.0, all-append P xs ys h.1 k)

-- ---- a deed

-- its calls close no node, and are in range where its notes are
pub record AreFit (notes : List Rec) (calls : List Call) : Type 0 where
  pub closes : AllByRecursion ClosesNone calls
  pub in_range : Each IsNumbered notes → AllByRecursion IsCallInRange calls

abbrev pub DeedFits : FrontDeed → Type 0
DeedFits Drops = Unit {0}
DeedFits (Says t) = Unit {0}
DeedFits (Does x) = AreFit x.turn.notes x.calls

-- a list has a numbered record at its end, or before another one
last-numbered : (rs : List Rec) (r : Rec) (more : List Rec) → Each IsNumbered (rs ++ r ∷ more) → IsNumbered r
last-numbered [] r more e = e.0
last-numbered (x ∷ rs) r more e = last-numbered rs r more e.1

no-calls : (notes : List Rec) → AreFit notes []
no-calls notes = record { closes = tt; in_range = λ e. tt }

leaves-fit : (c : ℕ) (notes : List Rec) (e : Ending) → AreFit notes (leaves_by c e)
leaves-fit c notes (ending.Here b count) = no-calls notes
leaves-fit c notes (ending.Over last) = record { closes = (tt, tt); in_range = λ e. (tt, tt) }

module _ (env : FrontEnv) (p : FrontPart) where
  abbrev c : ℕ
  c = env.serve.c

  placed-fits : (row : FrontRow) (rest : FrontRest) (w : Service) (path : List ℕ) (f : First) → DeedFits (Does (placed env p row rest w path f))
  placed-fits row rest w path (first.Go choice) = record { closes = (tt, tt); in_range = λ e. (last-numbered w.notes (rec.Admitted c) _ e, tt) }
  placed-fits row rest w path first.Waits =
      let l = leaves-fit c (w.notes ++ rec.Waits c ∷ []) (spoken env.serve (waiting_service env w) []).0 in
      record { closes = (tt, l.closes); in_range = λ e. (last-numbered w.notes (rec.Waits c) [] e, l.in_range e) }

  -- what was read is said, or it is placed
  pub settled-fits : (row : FrontRow) (rest : FrontRest) (w : Service) (o : Option (List ℕ)) → DeedFits (settled_by env p row rest w o)
  settled-fits row rest w None = no-calls (serving_settled env.serve w).1.notes
  settled-fits row rest w (Some path) = placed-fits row rest w path (env.first path)

  by-segment : (bytes : List ℕ) (said : Said) → KeptBySegment env p bytes said (λ w o. Unit {0}) DeedFits
  by-segment bytes said = record {
    drops = tt;
    begins = λ none plain. no-calls (spoken env.serve (begun_service env said) []).1.notes;
    reads = λ row b at. tt;
    holds = λ row b w at r. no-calls (serving_settled env.serve w).1.notes;
    hands = λ row b w path choice at r is. placed-fits row (front_rest p.rest) w path (first.Go choice);
    waits = λ row b w path at r is. placed-fits row (front_rest p.rest) w path first.Waits;
    stays = λ row b at. let given : Ending × Turn = spoken env.serve (heard_service p b said) [] in leaves-fit c given.1.notes given.0;
    forwards = λ row n e at. tt;
    words = λ row last at. tt;
  }

  pub gets-fit : (bytes : List ℕ) (r : Result Said SegFault) → DeedFits (front_gets env p bytes r)
  gets-fit bytes (Err fault) = tt
  gets-fit bytes (Ok said) = segment-keeps env p bytes said (λ w o. Unit {0}) DeedFits (by-segment bytes said)

  pub timer-fits : DeedFits (front_timer env p)
  timer-fits = cases.timer-keeps env p DeedFits (record {
    drops = tt;
    holds = λ row b at. no-calls [];
    stays = λ row b at. let given : Ending × Turn = front_fired env (front_rest p.rest) b in leaves-fit c given.1.notes given.0;
    resends = λ row n e at. tt;
  })

  pub taken-fits : (epoch : ℕ) → DeedFits (front_taken p epoch)
  taken-fits epoch = cases.taken-keeps p DeedFits tt epoch (λ row n e at same. no-calls [])

  -- an Ask has a request, and its assignment names the connection
  assigns-numbered : (ask : Ask) (r : ℕ) (paths : List (List ℕ)) (choices : List LaterChoice) (over : Bool) → 1 ≤ length paths → length choices ≡ length paths
      → Each IsNumbered (over_note c over ++ assigned_notes c ask r paths choices) → IsNumbered (rec.BatchOver c)
  assigns-numbered ask r [] choices over some same e = absurd (omega (arith, some))
  assigns-numbered ask r (path ∷ paths) [] over some same e = absurd (omega (arith, same))
  assigns-numbered ask r (path ∷ paths) (choice ∷ choices) true some same e = e.0
  assigns-numbered ask r (path ∷ paths) (choice ∷ choices) false some same e = e.0

  pub asked-fits : (d : Dispatcher) → IsOf env d → (from epoch number queue size : ℕ) (paths : List (List ℕ)) → 1 ≤ length paths → length paths ≤ size → DeedFits (front_asked env p from epoch (ask_of c from number queue size paths))
  asked-fits d of from epoch number queue size paths some within = cases.asked-keeps p DeedFits tt env from epoch (ask_of c from number queue size paths) (λ rest found there same more. tt) (λ rest found there next. new rest) where
    ask : Ask
    ask = ask_of c from number queue size paths

    many : length (env.later ask).choices ≡ length paths
    many = ap (λ (l : Later). length l.choices) (of.later ask) ∙ many-choices d ask env.now

    new : (rest : FrontRest) → DeedFits (Does (assigns env p rest from epoch ask (env.later ask)))
    new rest = record { closes = (tt, tt); in_range = λ e. ((assigns-numbered ask rest.assigned paths (env.later ask).choices (env.later ask).over some many e, within), tt) }

-- ---- a step

-- The dispatcher is called so.
pub record StepCalls (d : Dispatcher) (x : FrontState × Out) : Type 0 where
  pub calls : List Call
  pub is : x.0.dispatch ≡ after_calls d calls
  pub allowed : AreAllowed d calls
  pub closes : Each IsNoClosing x.1.notes → AllByRecursion ClosesNone calls
  pub in_range : Each IsNumbered x.1.notes → AllByRecursion IsCallInRange calls

module _ (k : FrontSetting) (s : FrontState) (sound : IsFrontSound s) where
  abbrev Calls : FrontState × Out → Type 0
  Calls x = StepCalls s.dispatch x

  still-calls : (t : Out) → Calls (s, t)
  still-calls t = record { calls = []; is = refl; allowed = tt; closes = λ e. tt; in_range = λ e. tt }

  deed-calls : (c : ℕ) (deed : FrontDeed) → DeedKeeps s.dispatch c k.now deed → DeedFits deed → Calls (front_deed s c deed)
  deed-calls c Drops keeps fits = still-calls _
  deed-calls c (Says t) keeps fits = still-calls _
  deed-calls c (Does x) keeps fits = record { calls = x.calls; is = refl; allowed = keeps.allowed; closes = λ e. fits.closes; in_range = fits.in_range }

  env-of : (c iss : ℕ) → IsOf (front_env k s c iss) s.dispatch
  env-of c iss = record { first = λ path. refl; later = λ ask. refl }

  -- a node that is open is closed
  abbrev closed : ℕ → Dispatcher
  closed n = record s.dispatch { books = record s.dispatch.books { loads = tally_closed s.dispatch.books.loads n; sets = sets_closed s.dispatch.books.sets n } }

  -- where a connection ended, and perhaps another one is admitted
  ended-calls : (c from epoch : ℕ) (last : Final) → Calls (ended_deed k s c (front_ended (front_env k s c 0) (front_part s c) from epoch last))
  ended-calls c from epoch last = go (front_ended env p from epoch last) (end-comes (open_nodes_of s.dispatch) env p from epoch last (dispatch_standing s.dispatch c) (sound.each c)) where
    env : FrontEnv
    env = front_env k s c 0

    p : FrontPart
    p = front_part s c

    too : (x : Did) (d : ℕ) (o : Option (FrontPart × FrontTurn)) → AreAllowed s.dispatch x.calls → AreFit x.turn.notes x.calls → Calls (admits_too s (put_back s c x) c x d o)
    too x d None allowed fit = record { calls = x.calls; is = refl; allowed = allowed; closes = λ e. fit.closes; in_range = fit.in_range }
    too x d (Some y) allowed fit = record {
      calls = x.calls;
      is = refl;
      allowed = allowed;
      closes = λ e. fit.closes;
      in_range = λ e. fit.in_range (each-before IsNumbered x.turn.notes y.1.notes e);
    }

    next : (x : Did) (o : Option (ℕ × FirstChoice)) → AreAllowed s.dispatch x.calls → AreFit x.turn.notes x.calls → Calls (admits k s (put_back s c x) c x o)
    next x None allowed fit = record { calls = x.calls; is = refl; allowed = allowed; closes = λ e. fit.closes; in_range = fit.in_range }
    next x (Some n) allowed fit = too x n.0 (front_admitted (front_env k (put_back s c x) n.0 0) (front_part (put_back s c x) n.0) n.1) allowed fit

    go : (deed : FrontDeed) → Comes (open_nodes_of s.dispatch) env p from epoch last (dispatch_standing s.dispatch c) deed → Calls (ended_deed k s c deed)
    go Drops comes = still-calls _
    go (Says t) comes = still-calls _
    go (Does x) comes = subst (λ (y : Did). Calls (ended_deed k s c (Does y))) (sym comes.1)
        (next (front_ends (front_env k s c 0) (front_part s c) from epoch last comes.0 (next_epoch comes.0)) (ended_answer s.dispatch c k.now) (may-end s.dispatch c k.now comes.2, tt)
        (record { closes = (tt, tt); in_range = λ e. (e.1.0, tt) }))

  -- ---- a connection that comes back

  module _ (from c : ℕ) (said : List (Place × List ℕ)) (row : FrontRow) (parts : EndpointParts) where
    -- Behind these calls, the last of which releases it from this dispatcher, and these notes of theirs.
    module _ (d : Dispatcher) (firsts : List Call) (are : after_ended d c k.now ≡ after_calls s.dispatch firsts) (may : AreAllowed s.dispatch firsts)
        (notes : List Rec) (closes : Each IsNoClosing notes → AllByRecursion ClosesNone firsts) (in_range : Each IsNumbered notes → AllByRecursion IsCallInRange firsts) where
      abbrev h : HeadTurn
      h = head_by k s c row parts d

      abbrev env : FrontEnv
      env = env_by k s c row parts d

      same : h.state.dispatch ≡ after_calls s.dispatch firsts
      same = head-books k s c row parts d ∙ are

      does-calls : (x : Did) → AreAllowed h.state.dispatch x.calls → AreFit x.turn.notes x.calls → Calls (goes_behind s c notes said h (Does x))
      does-calls x allowed fit = record {
        calls = firsts ++ x.calls;
        is = ap (λ (e : Dispatcher). after_calls e x.calls) same ∙ sym (calls-append s.dispatch firsts x.calls);
        allowed = allowed-append s.dispatch firsts x.calls may (subst (λ (e : Dispatcher). AreAllowed e x.calls) same allowed);
        closes = λ e. all-append ClosesNone firsts x.calls (closes (before IsNoClosing e)) fit.closes;
        in_range = λ e. all-append IsCallInRange firsts x.calls (in_range (before IsNumbered e)) (fit.in_range (each-behind IsNumbered heads x.turn.notes e));
      } where
        heads : List Rec
        heads = notes ++ h.turn.notes

        before : (P : Rec → Type 0) → Each P (notes ++ h.turn.notes ++ x.turn.notes) → Each P notes
        before P e = each-before P notes h.turn.notes (each-before P (notes ++ h.turn.notes) x.turn.notes e)

      read-calls : DeedKeeps h.state.dispatch c k.now (reads_on env (front_part s c) row parts) → Calls (back_by k s c row parts d notes said)
      read-calls keeps =
          let x : Reading = front_reads env.serve (first_reading parts) in
          let did : Did = reads_did env (front_part s c) row parts in
          let does : reads_on env (front_part s c) row parts ≡ Does did = reads-does env (front_part s c) row parts in
          let allowed : AreAllowed h.state.dispatch did.calls = (subst (DeedKeeps h.state.dispatch c k.now) does keeps).allowed in
          subst (λ (deed : FrontDeed). Calls (goes_behind s c notes said h deed)) (sym does) (does-calls did allowed
          (subst DeedFits does (settled-fits env (back_part (front_part s c) row parts) (returned_row parts row) (back_rest parts) x.service x.target)))

    -- its node is closed, where it was open
    abbrev Keeps : Dispatcher → Type 0
    Keeps d = DeedKeeps (head_by k s c row parts d).state.dispatch c k.now (reads_on (env_by k s c row parts d) (front_part s c) row parts)

    returned-calls : IsAdmitted (dispatch_standing s.dispatch c) → HasOther s from → Keeps (after_close s.dispatch from)
        → Calls (returns k s from c said row parts)
    returned-calls at other = go (is_open s.dispatch.books.loads from) refl where
      ends : is_some (home s.dispatch.books.loads c) ≡ true
      ends = may-end s.dispatch c k.now at

      go : (b : Bool) → is_open s.dispatch.books.loads from ≡ b → Keeps (closed_where s.dispatch from b)
          → Calls (back_by k s c row parts (closed_where s.dispatch from b) (notes_where from c row b) said)
      go true opened keeps = read-calls (closed from) (call.Close from ∷ call.Ended c k.now ∷ [])
          (sym (ap (λ b. after_ended (closed_where s.dispatch from b) c k.now) opened))
          (other, (subst (λ b. is_some (home (closed_where s.dispatch from b).books.loads c) ≡ true) (sym opened) ends, tt)) (notes_where from c row true)
          (λ e. absurd e.1.0) (λ e. (tt, (e.1.1.0, tt))) keeps
      go false e keeps = read-calls s.dispatch (call.Ended c k.now ∷ []) refl (ends, tt) (notes_where from c row false) (λ e. (tt, tt)) (λ e. (e.1.0, tt)) keeps

  back-calls : (from c epoch : ℕ) (given : Option EndpointParts) → HasOther s from → AreValid given → Calls (comes_back k s from c epoch given)
  back-calls from c epoch given other valid =
      let said : List (Place × List ℕ) = given_sent c from epoch given in
      comes-keeps k s sound from c epoch given Calls (still-calls nothing_done) (still-calls (front_out_of (front_saying said) []))
      (λ row parts away are. returned-calls from c said row parts (from, away.stands) other
      (read-on k s from c row parts sound other away (back-valid (front_part s c) given parts valid are)))

  told-calls : (from c epoch : ℕ) (b : Body) → MayCloseBy s from b → IsOfTable b → Calls (front_told k s from c epoch b)
  told-calls from c epoch body.Taken may table = deed-calls c (front_taken (front_part s c) epoch)
      (taken-keeps s.dispatch c k.now (front_part s c) epoch (sound.tags c) (sound.each c)) (taken-fits (front_env k s c 0) (front_part s c) epoch)
  told-calls from c epoch (body.Ask number queue size paths) may table =
      deed-calls c (front_asked (front_env k s c 0) (front_part s c) from epoch (ask_of c from number queue size paths))
      (asked-keeps s.dispatch (front_env k s c 0) (env-of c 0) (front_part s c) epoch (ask_of c from number queue size paths) refl (record { some = table.1; within = table.2; few = table.0 }) (sound.tags c) (sound.each c))
      (asked-fits (front_env k s c 0) (front_part s c) s.dispatch (env-of c 0) from epoch number queue size paths table.1 table.2)
  told-calls from c epoch (body.Ended reason snd rcv count) may table =
      ended-calls c from epoch (record { reason = reason; snd = record { 0 = snd }; rcv = record { 0 = rcv } })
  told-calls from c epoch body.Refused may table = back-calls from c epoch None may tt
  told-calls from c epoch (body.Give parts) may table = back-calls from c epoch (Some parts) may table
  told-calls from c epoch _ may table = still-calls _

  message-calls : (from : ℕ) (r : Result Message MsgFault) → MayCloseOn s from r → IsTold r → Calls (message_comes k s from r)
  message-calls from (Err e) may told = still-calls _
  message-calls from (Ok m) may told = told-calls from m.c m.epoch.0 m.body may told

  drain-calls : (n : ℕ) → MayClose s (input.Drain n) → Calls (front_drains s n)
  drain-calls n other = go (is_open s.dispatch.books.loads n) refl where
    go : (b : Bool) → is_open s.dispatch.books.loads n ≡ b
        → Calls (record s { dispatch = cond b (closed n) s.dispatch }, record nothing_done { notes = cond b (rec.Closed n ∷ []) [] })
    go true opened = record {
      calls = call.Close n ∷ [];
      is = sym (ap (λ b. cond b (closed n) s.dispatch) opened);
      allowed = (other, tt);
      closes = λ e. absurd e.0;
      in_range = λ e. (tt, tt);
    }
    go false e = still-calls nothing_done

  pub step-calls : (i : FrontIn) → MayClose s i → Calls (front_step k s i)
  step-calls (input.Segment c iss bytes) may =
      let env : FrontEnv = front_env k s c iss.0 in
      let p : FrontPart = front_part s c in
      let open_ = has-open s.dispatch sound.books sound.served in
      deed-calls c (front_gets env p bytes (decoded bytes c ToCluster))
      (gets-keeps s.dispatch env (env-of c iss.0) p (sound.tags c) sound.few_open open_ bytes (decoded bytes c ToCluster) (sound.each c))
      (gets-fit env p bytes (decoded bytes c ToCluster))
  step-calls (input.Message from bytes) may = message-calls from (decoded_message bytes) may (message-told bytes)
  step-calls (input.Drain n) may = drain-calls n may
  step-calls (input.Timer c) may =
      deed-calls c (front_timer (front_env k s c 0) (front_part s c)) (timer-keeps s.dispatch (front_env k s c 0) (env-of c 0) (front_part s c) (sound.tags c) (sound.each c)) (timer-fits (front_env k s c 0) (front_part s c))
