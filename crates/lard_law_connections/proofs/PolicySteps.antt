-- A step of the front end: its records go along with its dispatcher's books.
use Rattle.std.proofs.Common.{◌≡◌, ℕ, Bool, true, false, List, [], ◌∷◌, Option, Some, None, Result, Ok, Err, refl, sym, ap, subst, cond}
use Rattle.lard_law_view.specs.Prelude.{Body, Did, DispatchStanding, Final, FirstChoice, FrontDeed, FrontEnv, FrontIn, FrontPart, FrontRow, FrontSetting, FrontState, FrontTurn, IsFrontSound, IsOfTable, MayClose, MayCloseBy, MayCloseOn, Message, MsgFault, OnEnded, Out, ToCluster, admits, admits_too, ask_of, decoded, decoded_message, dispatch_standing, end_answer, ended_answer, ended_deed, front_admitted, front_asked, front_deed, front_did, front_drains, front_ended, front_ended_by, front_ends, front_env, front_gets, front_joined, front_out_of, front_part, front_put, front_step, front_taken, front_timer, front_timers, front_told, is_open, message_comes, next_epoch, nothing_done, put_back, sets_closed, tally_closed}
use Rattle.lard_base.specs.declared.place.Place.TheVariants as place
use Rattle.lard_law_connections.proofs.PolicyFronts.{DeedTells, IsMute, Tells, asked-tells, gets-tells, taken-tells, timer-tells}
use Rattle.lard_law_connections.proofs.PolicyHeads.{HeadTells, head-tells}
use Rattle.lard_law_connections.proofs.PolicyIns.{AreIn}
use Rattle.lard_law_connections.proofs.PolicyLeading.{close-leads, release-leads}
use Rattle.lard_law_connections.proofs.PolicyLines.{AreLined, targets}
use Rattle.lard_rules.proofs.MessageTold.{IsTold, message-told}
use Rattle.lard_law_connections.proofs.PolicyOrder.{none-ordered}
use Rattle.lard_law_connections.proofs.PolicyReturns.{back-tells}
use Rattle.lard_law_connections.proofs.PolicyTelling.{StepTells, put-lined, says-tells, still-tells, targets-other, targets-same, timers-aside}
use Rattle.lard_dispatch.proofs.AllCalls.{configs-stay}
use Rattle.lard_dispatch.proofs.Soundness.{is-in}
use Rattle.lard_rules.specs.Front.{Drops, Says, Does}
use Rattle.lard_rules.specs.FrontPlace.{HeadTurn, handed_head, head_turn, no_head}
use Rattle.lard_rules.specs.FrontSound.{open_nodes_of}
use Rattle.lard_rules.proofs.FrontDeeds.{IsOf}
use Rattle.lard_rules.proofs.FrontEnded.{Comes, IsAdmitted, end-comes, head-waiting, may-end}
use Rattle.lard_handoff_front.specs.declared.table.OnEnded.TheVariants.{New, Again, Stale}
use Rattle.lard_journal.specs.declared.rec.Rec.TheVariants as rec
use Rattle.lard_message.specs.declared.message.Body.TheVariants as body
use Rattle.lard_rules.specs.declared.front.FrontIn.TheVariants as input

-- an end that is told again is acknowledged, and nothing else is said
abbrev SaysMute : FrontDeed → Type 0
SaysMute Drops = Unit {0}
SaysMute (Says t) = IsMute t
SaysMute (Does x) = Unit {0}

front-mute : (env : FrontEnv) (p : FrontPart) (from epoch : ℕ) (last : Final) → SaysMute (front_ended env p from epoch last)
front-mute env p from epoch last = go p.row (end_answer epoch p.row) where
  go : (o : Option FrontRow) (given : OnEnded) → SaysMute (front_ended_by env p from epoch last o given)
  go None given = tt
  go (Some row) (New next) = tt
  go (Some row) Again = record { notes = refl; gave = refl }
  go (Some row) Stale = tt

module _ (k : FrontSetting) (s : FrontState) (sound : IsFrontSound s) (lined : AreLined (targets s) s.dispatch.books.line) (ins : List ℕ) (in_ : AreIn ins s.dispatch.books.loads.standings) where
  abbrev Fine : FrontState × Out → Type 0
  Fine x = StepTells k s ins x

  did-tells : (c : ℕ) (x : Did) → Tells s.dispatch c k.now ins (front_part s c) x → Fine (front_did s c x)
  did-tells c x h = record {
    leads = h.leads;
    gave = h.gave;
    timers = timers-aside c (front_part s c) x.part;
    lined = h.lines (targets s) (targets (front_put s c x.part)) (targets-other s c x.part) refl (targets-same s c x.part) lined;
    config = configs-stay s.dispatch x.calls;
    ordered = h.ordered s.dispatch.books.line sound.books.full;
    waits = h.waits;
  }

  deed-tells : (c : ℕ) (deed : FrontDeed) → DeedTells s.dispatch c k.now ins (front_part s c) deed → Fine (front_deed s c deed)
  deed-tells c Drops h = still-tells k s lined ins in_
  deed-tells c (Says t) h = says-tells k s lined ins in_ t h
  deed-tells c (Does x) h = did-tells c x h

  env-of : (c iss : ℕ) → IsOf (front_env k s c iss) s.dispatch
  env-of c iss = record { first = λ path. refl; later = λ ask. refl }

  -- ---- where a connection ended

  module _ (c from epoch : ℕ) (last : Final) (row : FrontRow) (admitted_ : IsAdmitted (dispatch_standing s.dispatch c)) where
    abbrev did : Did
    did = front_ends (front_env k s c 0) (front_part s c) from epoch last row (next_epoch row)

    abbrev HeadTold : HeadTurn → Type 0
    HeadTold h = HeadTells s.dispatch c k.now ins s.dispatch.books did.turn.notes (put_back s c did) h

    so-told : (h : HeadTurn) → HeadTold h → Fine (h.state, front_out_of (front_joined did.turn h.turn) (h.timers (front_timers c (front_part s c) did.part)))
    so-told h t = record {
      leads = t.leads;
      gave = t.gave;
      timers = t.timers (front_timers c (front_part s c) did.part) (timers-aside c (front_part s c) did.part);
      lined = t.lined;
      config = t.config;
      ordered = t.ordered;
      waits = t.waits;
    }

    with-head : (d : ℕ) (o : Option (FrontPart × FrontTurn)) → HeadTold (handed_head k (put_back s c did) c d o)
        → Fine (admits_too s (put_back s c did) c did d o)
    with-head d None h = so-told (no_head k (put_back s c did)) h
    with-head d (Some y) h = so-told (handed_head k (put_back s c did) c d (Some y)) h

    head-told : (o : Option (ℕ × FirstChoice)) → HeadTold (head_turn k (put_back s c did) c o) → Fine (admits k s (put_back s c did) c did o)
    head-told None h = so-told (no_head k (put_back s c did)) h
    head-told (Some next) h = with-head next.0 (front_admitted (front_env k (put_back s c did) next.0 0) (front_part (put_back s c did) next.0) next.1) h

    end-tells : Fine (ended_deed k s c (Does did))
    end-tells = head-told (ended_answer s.dispatch c k.now)
        (head-tells k s.dispatch sound.books ins s.dispatch.books c admitted_ (put_back s c did)
        (put-lined s c did.part (ap (λ (x : DispatchStanding). x.waits) admitted_.1) lined) (rec.Took place.Front c (next_epoch row) ∷ []) ((λ ys. refl), tt) (tt, tt)
        (release-leads s.dispatch.config k.now ins s.dispatch.books in_ c (next_epoch row)
        (is-in s.dispatch.books.loads c (may-end s.dispatch c k.now admitted_)))
        (open_nodes_of s.dispatch) (head-waiting k s sound c did admitted_))

  ended-tells : (c from epoch : ℕ) (last : Final) → Fine (ended_deed k s c (front_ended (front_env k s c 0) (front_part s c) from epoch last))
  ended-tells c from epoch last =
      go (front_ended env p from epoch last) (end-comes (open_nodes_of s.dispatch) env p from epoch last stands (sound.each c)) (front-mute env p from epoch last) where
        env : FrontEnv
        env = front_env k s c 0

        p : FrontPart
        p = front_part s c

        stands : DispatchStanding
        stands = dispatch_standing s.dispatch c

        go : (deed : FrontDeed) → Comes (open_nodes_of s.dispatch) env p from epoch last stands deed → SaysMute deed → Fine (ended_deed k s c deed)
        go Drops comes mute = still-tells k s lined ins in_
        go (Says t) comes mute = says-tells k s lined ins in_ t mute
        go (Does x) comes mute = subst (λ y. Fine (ended_deed k s c (Does y))) (sym comes.1) (end-tells c from epoch last comes.0 comes.2)

  -- ---- what comes

  told-tells : (from c epoch : ℕ) (b : Body) → MayCloseBy s from b → IsOfTable b → Fine (front_told k s from c epoch b)
  told-tells from c epoch body.Taken may table =
      deed-tells c (front_taken (front_part s c) epoch) (taken-tells s.dispatch ins in_ c k.now (front_part s c) epoch)
  told-tells from c epoch (body.Ask number queue size paths) may table =
      deed-tells c (front_asked (front_env k s c 0) (front_part s c) from epoch (ask_of c from number queue size paths))
      (asked-tells s.dispatch ins in_ sound.books (front_env k s c 0) (env-of c 0) (front_part s c) from epoch number queue size paths table.1 table.2 table.0 (sound.each c))
  told-tells from c epoch (body.Ended reason snd rcv count) may table =
      ended-tells c from epoch (record { reason = reason; snd = record { 0 = snd }; rcv = record { 0 = rcv } })
  told-tells from c epoch body.Refused may table = back-tells k s sound lined ins in_ from c epoch None may
  told-tells from c epoch (body.Give parts) may table = back-tells k s sound lined ins in_ from c epoch (Some parts) may
  told-tells from c epoch _ may table = still-tells k s lined ins in_

  message-tells : (from : ℕ) (r : Result Message MsgFault) → MayCloseOn s from r → IsTold r → Fine (message_comes k s from r)
  message-tells from (Err e) may told = still-tells k s lined ins in_
  message-tells from (Ok m) may told = told-tells from m.c m.epoch.0 m.body may told

  -- a node is closed, where it was open
  abbrev closing : ℕ → Bool → FrontState × Out
  closing n b = (
    record s { dispatch = cond b (record s.dispatch { books = record s.dispatch.books { loads = tally_closed s.dispatch.books.loads n; sets = sets_closed s.dispatch.books.sets n } }) s.dispatch },
    record nothing_done { notes = cond b (rec.Closed n ∷ []) [] },
  )

  drain-tells : (n : ℕ) → MayClose s (input.Drain n) → Fine (front_drains s n)
  drain-tells n other = go (is_open s.dispatch.books.loads n) refl where
    go : (b : Bool) → is_open s.dispatch.books.loads n ≡ b → Fine (closing n b)
    go true opened = record {
      leads = close-leads s.dispatch.config k.now ins s.dispatch.books in_ n opened other;
      gave = tt;
      timers = tt;
      lined = lined;
      config = refl;
      ordered = none-ordered s.dispatch.books.line (rec.Closed n ∷ []) (tt, tt);
      waits = λ ys within. within;
    }
    go false closed = still-tells k s lined ins in_

  pub step-tells : (i : FrontIn) → MayClose s i → Fine (front_step k s i)
  step-tells (input.Segment c iss bytes) may =
      deed-tells c (front_gets (front_env k s c iss.0) (front_part s c) bytes (decoded bytes c ToCluster))
      (gets-tells s.dispatch ins in_ sound.books (front_env k s c iss.0) (env-of c iss.0) (front_part s c) bytes (decoded bytes c ToCluster) (sound.each c))
  step-tells (input.Message from bytes) may = message-tells from (decoded_message bytes) may (message-told bytes)
  step-tells (input.Drain n) may = drain-tells n may
  step-tells (input.Timer c) may =
      deed-tells c (front_timer (front_env k s c 0) (front_part s c)) (timer-tells s.dispatch ins in_ sound.books (front_env k s c 0) (env-of c 0) (front_part s c) (sound.each c))
