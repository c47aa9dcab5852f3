-- A step of the front end leaves each node open but the one that it closes: that of a drain, and that from which a connection comes back. Nothing else
-- is asked of the front end's state.
use Rattle.std.proofs.Common.{◌≡◌, ◌≢◌, ℕ, not, nat_eq, List, [], ◌∷◌, Option, Some, None, Result, Ok, Err, refl, sym, ap, subst}
use Rattle.std.proofs.lemmas.Bool.{cond_both}
use Rattle.std.specs.List.{AllByRecursion}
use Rattle.lard_dispatch.specs.Laws as call
use Rattle.lard_handoff_front.specs.declared.table.returns.Back.{Back}
use Rattle.lard_handoff_front.specs.declared.table.returns.Back.TheVariants as back
use Rattle.lard_history.proofs.Seeing.{other_number}
use Rattle.lard_law_connections.proofs.LineCalls.{DeedFits, asked-fits, gets-fit, settled-fits, taken-fits, timer-fits}
use Rattle.lard_law_connections.proofs.ReturnedSteps.{first_reading, head-books, head_by}
use Rattle.lard_law_view.specs.Prelude.{Body, Call, ClosesNone, Did, Dispatcher, EndpointParts, Final, FirstChoice, FrontDeed, FrontEnv, FrontIn, FrontPart, FrontRow, FrontSetting, FrontState, FrontTurn, IsOfTable, Message, MsgFault, Out, Place, Reading, Rec, ToCluster, admits, admits_too, after_call, after_calls, after_close, ask_of, back_answer, back_part, back_rest, decoded, decoded_message, ended_answer, ended_deed, front_deed, front_ended, front_ends, front_env, front_admitted, front_asked, front_gets, front_part, front_reads, front_step, front_taken, front_timer, front_told, is_open, message_comes, next_epoch, parts_back, put_back, reads_on, returned_row}
use Rattle.lard_loads.proofs.Firsts.{IsIn, in_filter}
use Rattle.lard_message.specs.declared.message.Body.TheVariants as body
use Rattle.lard_rules.proofs.FrontCases.{ended-keeps}
use Rattle.lard_rules.proofs.FrontDeeds.{IsOf}
use Rattle.lard_rules.proofs.FrontOpen.{ended-nodes, first-nodes, later-nodes}
use Rattle.lard_rules.proofs.MessageTold.{IsTold, message-told}
use Rattle.lard_rules.specs.Front.{Does, Drops, Says, given_sent}
use Rattle.lard_rules.specs.FrontPlace.{HeadTurn, comes_back, env_behind, goes_behind, returned_deed, returned_notes, returns}
use Rattle.lard_rules.specs.FrontSound.{OpenNodes, open_nodes_of}
use Rattle.lard_rules.specs.declared.front.FrontIn.TheVariants as input

-- ---- calls of the dispatcher

module _ (i : ℕ) where
  -- node i was not closed
  abbrev pub IsOpenIn : Dispatcher → Type 0
  IsOpenIn d = IsIn i d.books.loads.open_nodes

  nodes-open : (d e : Dispatcher) → open_nodes_of e ≡ open_nodes_of d → IsOpenIn d → IsOpenIn e
  nodes-open d e same h = subst (λ (k : OpenNodes). IsIn i k.left_open) (sym same) h

  call-open : (d : Dispatcher) (x : Call) → ClosesNone x → IsOpenIn d → IsOpenIn (after_call d x)
  call-open d (call.First c target now) none h = nodes-open d (after_call d (call.First c target now)) (first-nodes d c target now) h
  call-open d (call.Later ask now) none h = nodes-open d (after_call d (call.Later ask now)) (later-nodes d ask now) h
  call-open d (call.Ended c now) none h = nodes-open d (after_call d (call.Ended c now)) (ended-nodes d c now) h
  call-open d (call.Leave c) none h = h
  call-open d (call.Close n) none h = absurd none

  calls-open : (d : Dispatcher) (xs : List Call) → AllByRecursion ClosesNone xs → IsOpenIn d → IsOpenIn (after_calls d xs)
  calls-open d [] none h = h
  calls-open d (x ∷ xs) none h = calls-open (after_call d x) xs none.1 (call-open d x none.0 h)

  -- another one is closed
  close-open : (d : Dispatcher) (n : ℕ) → i ≢ n → IsOpenIn d → IsOpenIn (after_close d n)
  close-open d n apart h = cond_both (is_open d.books.loads n) _ d IsOpenIn
      (λ t. in_filter (λ m. not (nat_eq m n)) i d.books.loads.open_nodes (ap not (other_number i n apart)) h) (λ t. h)

  -- ---- what comes to the front end closes another one, if any

  abbrev pub SparesBy : ℕ → Body → Type 0
  SparesBy from body.Refused = i ≢ from
  SparesBy from (body.Give parts) = i ≢ from
  SparesBy from _ = Unit {0}

  abbrev pub SparesOn : ℕ → Result Message MsgFault → Type 0
  SparesOn from (Err fault) = Unit {0}
  SparesOn from (Ok m) = SparesBy from m.body

  abbrev pub Spares : FrontIn → Type 0
  Spares (input.Drain n) = i ≢ n
  Spares (input.Message from bytes) = SparesOn from (decoded_message bytes)
  Spares _ = Unit {0}

  -- ---- a step

  module _ (k : FrontSetting) (s : FrontState) (open_ : IsOpenIn s.dispatch) where
    abbrev Open : FrontState × Out → Type 0
    Open x = IsOpenIn x.0.dispatch

    deed-open : (c : ℕ) (deed : FrontDeed) → DeedFits deed → Open (front_deed s c deed)
    deed-open c Drops fits = open_
    deed-open c (Says t) fits = open_
    deed-open c (Does x) fits = calls-open s.dispatch x.calls fits.closes open_

    -- a connection ended, and perhaps another one is admitted
    ended-open : (c from epoch : ℕ) (last : Final) → Open (ended_deed k s c (front_ended (front_env k s c 0) (front_part s c) from epoch last))
    ended-open c from epoch last =
        ended-keeps (front_part s c) (λ deed. Open (ended_deed k s c deed)) open_ (front_env k s c 0) from epoch last (λ row found home same. open_)
        (λ row found away.
        next (front_ends (front_env k s c 0) (front_part s c) from epoch last row (next_epoch row)) (tt, tt) (ended_answer s.dispatch c k.now)) where
          too : (x : Did) → AllByRecursion ClosesNone x.calls → (d : ℕ) (o : Option (FrontPart × FrontTurn)) → Open (admits_too s (put_back s c x) c x d o)
          too x none d None = calls-open s.dispatch x.calls none open_
          too x none d (Some y) = calls-open s.dispatch x.calls none open_

          next : (x : Did) → AllByRecursion ClosesNone x.calls → (o : Option (ℕ × FirstChoice)) → Open (admits k s (put_back s c x) c x o)
          next x none None = calls-open s.dispatch x.calls none open_
          next x none (Some n) = too x none n.0 (front_admitted (front_env k (put_back s c x) n.0 0) (front_part (put_back s c x) n.0) n.1)

    -- a connection comes back from another node, which is closed
    module _ (from : ℕ) (apart : i ≢ from) (c : ℕ) where
      behind-open : (notes : List Rec) (said : List (Place × List ℕ)) (h : HeadTurn) → IsOpenIn h.state.dispatch → (deed : FrontDeed) → DeedFits deed
          → Open (goes_behind s c notes said h deed)
      behind-open notes said h on Drops fits = on
      behind-open notes said h on (Says t) fits = on
      behind-open notes said h on (Does x) fits = calls-open h.state.dispatch x.calls fits.closes on

      returns-open : (said : List (Place × List ℕ)) (row : FrontRow) (parts : EndpointParts) → Open (returns k s from c said row parts)
      returns-open said row parts =
          let d : Dispatcher = after_close s.dispatch from in
          let h : HeadTurn = head_by k s c row parts d in
          let freed : IsOpenIn (after_call d (call.Ended c k.now)) = call-open d (call.Ended c k.now) tt (close-open s.dispatch from apart open_) in
          let on : IsOpenIn h.state.dispatch = subst IsOpenIn (sym (head-books k s c row parts d)) freed in
          let env : FrontEnv = env_behind k h c in
          let x : Reading = front_reads env.serve (first_reading parts) in
          behind-open (returned_notes s.dispatch from c row) said h on (reads_on env (front_part s c) row parts)
          (settled-fits env (back_part (front_part s c) row parts) (returned_row parts row) (back_rest parts) x.service x.target)

      back-open : (epoch : ℕ) (given : Option EndpointParts) → Open (comes_back k s from c epoch given)
      back-open epoch given = go (front_part s c).row (back_answer from epoch given (front_part s c).row) (parts_back (front_part s c) given) where
        said : List (Place × List ℕ)
        said = given_sent c from epoch given

        go : (o : Option FrontRow) (answer : Back) (parts : Option EndpointParts) → Open (returned_deed k s from c said o answer parts)
        go (Some row) (back.New next) (Some parts) = returns-open said row parts
        go (Some row) (back.New next) None = open_
        go (Some row) back.Again parts = open_
        go (Some row) back.Stale parts = open_
        go None answer parts = open_

    told-open : (from c epoch : ℕ) (b : Body) → SparesBy from b → IsOfTable b → Open (front_told k s from c epoch b)
    told-open from c epoch body.Taken spares table =
        deed-open c (front_taken (front_part s c) epoch) (taken-fits (front_env k s c 0) (front_part s c) epoch)
    told-open from c epoch (body.Ask number queue size paths) spares table =
        let env : FrontEnv = front_env k s c 0 in
        let is : IsOf env s.dispatch = record { first = λ path. refl; later = λ ask. refl } in
        deed-open c (front_asked env (front_part s c) from epoch (ask_of c from number queue size paths))
        (asked-fits env (front_part s c) s.dispatch is from epoch number queue size paths table.1 table.2)
    told-open from c epoch (body.Ended reason snd rcv count) spares table =
        ended-open c from epoch (record { reason = reason; snd = record { 0 = snd }; rcv = record { 0 = rcv } })
    told-open from c epoch body.Refused spares table = back-open from spares c epoch None
    told-open from c epoch (body.Give parts) spares table = back-open from spares c epoch (Some parts)
    told-open from c epoch _ spares table = open_

    message-open : (from : ℕ) (r : Result Message MsgFault) → SparesOn from r → IsTold r → Open (message_comes k s from r)
    message-open from (Err e) spares told = open_
    message-open from (Ok m) spares told = told-open from m.c m.epoch.0 m.body spares told

    pub step-open : (x : FrontIn) → Spares x → Open (front_step k s x)
    step-open (input.Segment c iss bytes) spares =
        let env : FrontEnv = front_env k s c iss.0 in
        deed-open c (front_gets env (front_part s c) bytes (decoded bytes c ToCluster)) (gets-fit env (front_part s c) bytes (decoded bytes c ToCluster))
    step-open (input.Message from bytes) spares = message-open from (decoded_message bytes) spares (message-told bytes)
    step-open (input.Drain n) spares = close-open s.dispatch n spares open_
    step-open (input.Timer c) spares = deed-open c (front_timer (front_env k s c 0) (front_part s c)) (timer-fits (front_env k s c 0) (front_part s c))
