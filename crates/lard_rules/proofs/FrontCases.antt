-- What each rule of the front end can come to, once: what a segment, a timer, a Taken, an Ask, an Ended and a return do, and what becomes of the
-- head of the line. A law says what it keeps for each outcome, and opens no rule.
use Rattle.std.proofs.Common.{◌≡◌, ◌⊎◌, inl, inr, ◌<◌, ◌+◌, ◌==◌, ◌&&◌, nat_lt, ℕ, Bool, true, false, cond, List, [], ◌∷◌, ◌++◌, map, Option, Some, None, Err, Ok, is_some, refl, subst, sym, ◌∙◌, arith}
use Rattle.std.proofs.lemmas.Bool.{and_parts, cond_both, eqb-true, ltb-true}
use Rattle.lard_base.specs.declared.ids.Epoch.{Epoch}
use Rattle.lard_base.specs.declared.parts.EndpointParts.{EndpointParts}
use Rattle.lard_base.specs.declared.place.Place.{Place}
use Rattle.lard_base.specs.declared.place.Place.TheVariants as place
use Rattle.lard_dispatch.specs.declared.dispatch.Ask.{Ask}
use Rattle.lard_dispatch.specs.declared.dispatch.First.{First}
use Rattle.lard_dispatch.specs.declared.dispatch.First.TheVariants as first
use Rattle.lard_dispatch.specs.Laws.{Call}
use Rattle.lard_endpoint.specs.declared.control.moving.Final.{Final}
use Rattle.lard_endpoint.specs.Arriving.{on_segment}
use Rattle.lard_endpoint.specs.Control.{ControlBlock, listening}
use Rattle.lard_endpoint.specs.Leaving.{after_timer, timed}
use Rattle.lard_endpoint.specs.Moving.{adopted}
use Rattle.lard_handoff_front.specs.declared.row.FrontConn.{FrontConn}
use Rattle.lard_handoff_front.specs.declared.row.FrontConn.TheVariants as stage
use Rattle.lard_handoff_front.specs.declared.row.FrontRow.{FrontRow}
use Rattle.lard_handoff_front.specs.declared.table.OnEnded.{OnEnded}
use Rattle.lard_handoff_front.specs.declared.table.OnEnded.TheVariants.{New, Again, Stale}
use Rattle.lard_handoff_front.specs.Front.{asked_node, end_answer, ended_with, next_epoch}
use Rattle.lard_handoff_front.specs.declared.table.returns.Back.{Back}
use Rattle.lard_handoff_front.specs.declared.table.returns.Back.TheVariants as back
use Rattle.lard_handoff_front.specs.Returns.{give_answer, refused_answer, returned_row}
use Rattle.lard_handoff_front.specs.Row.{is_away, offered_to}
use Rattle.lard_journal.specs.declared.rec.Rec.TheVariants as rec
use Rattle.lard_policy.specs.declared.first.FirstChoice.{FirstChoice}
use Rattle.lard_resend.specs.Pending.{sent_of}
use Rattle.lard_rules.specs.declared.front.FrontRest.{FrontRest}
use Rattle.lard_rules.specs.declared.front.FrontTurn.{FrontTurn}
use Rattle.lard_rules.specs.declared.places.Ending.{Ending}
use Rattle.lard_rules.specs.declared.places.Turn.{Turn}
use Rattle.lard_rules.specs.Front.{FrontDeed, Drops, Says, Does, FrontGets, FrontHears, FrontFires, TakenBy, AskedBy, EndedBy, ReturnedBy, FrontAdmits, back_answer, back_notes, back_part, back_rest, does_first, front_returned, given_sent, is_with, parts_back, reads_on, returned_by, front_rule, FrontEnv, FrontPart, ack_sent, admitted_at, admitted_by, asked_by, assigns, fires_at, forwarded, front_admitted, front_admitted_with, front_asked, front_begun, front_ended, front_ended_by, front_ends, front_fired, front_fired_by, front_hears, front_rest, front_rests, front_saying, front_taken, front_timer, handed_off, hears_at, holds, is_row_at, placed, settled_by, tag_sent, taken_by, turn_here, waits_on}
use Rattle.lard_rules.specs.FrontReading.{Reading, front_reads}
use Rattle.lard_rules.specs.Serving.{Service, serving, serving_ready_of, serving_settled, spoken}
use Rattle.lard_rules.proofs.FrontReturns.{read-noted}
use Rattle.lard_rules.specs.Tombstone.{is_plain_syn, last_words, tombstone}
use Rattle.lard_segment.specs.Segment.{Said}

-- ---- where the connection is

-- its row is this one, in this stage
abbrev pub IsInStage : FrontPart → FrontRow → FrontConn → Type 0
IsInStage p row st = (p.row ≡ Some row) × (row.stage ≡ st)

-- what is so of what is kept is so of its row in this stage
pub of-stage : (R : Option FrontRow → Type 0) (p : FrontPart) (row : FrontRow) (st : FrontConn) → IsInStage p row st → R p.row → R (Some (record row { stage = st }))
of-stage R p row st at h = subst (λ (q : FrontConn). R (Some (record row { stage = q }))) at.1 (subst R at.0 h)

-- a node has it, or it is on its way there, in this epoch
abbrev pub IsAwayWith : FrontPart → FrontRow → ℕ → Epoch → Type 0
IsAwayWith p row n e = IsInStage p row (stage.Offering n e) ⊎ IsInStage p row (stage.Moved n e)

-- ---- what the outcomes are made of

-- an endpoint stays in a stage of the front end, or ended, behind its turn
abbrev pub rests_in : FrontPart → FrontRow → FrontRest → (ControlBlock → FrontConn) → Ending × Turn → List Call → FrontDeed
rests_in p row rest stays given calls = Does (record { part = front_rests p row rest stays given.0; turn = turn_here given.1; calls = calls })

-- an endpoint is handed off
abbrev pub hands_off : FrontEnv → FrontRow → Service → List ℕ → FirstChoice → List Call → FrontDeed
hands_off env row w path choice calls = Does (record { part = (handed_off env row w path choice).0; turn = (handed_off env row w path choice).1; calls = calls })

-- a connection begins so
abbrev pub begun_row : FrontRow
begun_row = record { stage = stage.Lent; epoch = record { 0 = 1 }; ended_by = None }

abbrev pub begun_service : FrontEnv → Said → Service
begun_service env s = serving (listening s env.iss) 0 (rec.Took place.Front env.serve.c (record { 0 = 1 }) ∷ [])

-- it is noted that the endpoint waits
abbrev pub waiting_service : FrontEnv → Service → Service
waiting_service env w = record w { notes = w.notes ++ rec.Waits env.serve.c ∷ [] }

-- the endpoint behind its timer, and what the timer sends
abbrev pub fired_service : FrontPart → ControlBlock → Service
fired_service p b = serving (after_timer b) (front_rest p.rest).count []

abbrev pub fired_before : FrontEnv → ControlBlock → List (Place × List ℕ)
fired_before env b = serving_ready_of env.serve (after_timer b) (timed b)

-- the endpoint behind a segment, before anything is read
abbrev pub heard_service : FrontPart → ControlBlock → Said → Service
heard_service p b s = serving (on_segment b s).1 (front_rest p.rest).count []

abbrev pub heard_reading : FrontPart → ControlBlock → Said → Reading
heard_reading p b s = record { service = heard_service p b s; target = None }

-- ---- a segment

-- A connection begins. Of one that is held the requests are read: R tells what came of that, with the path that is to be placed, and it is held
-- on, handed off, or waits. One that waits says what it may, one that is away has its segment sent on, and one that ended has last words.
pub record KeptBySegment (env : FrontEnv) (p : FrontPart) (bytes : List ℕ) (s : Said) (R : Service → Option (List ℕ) → Type 0) (D : FrontDeed → Type 0) : Type 0 where
  pub drops : D Drops
  pub begins : p.row ≡ None → is_plain_syn s ≡ true → D (front_begun env p s)
  pub reads : (row : FrontRow) (b : ControlBlock) → IsInStage p row (stage.Held b)
      → R (front_reads env.serve (heard_reading p b s)).service (front_reads env.serve (heard_reading p b s)).target
  pub holds : (row : FrontRow) (b : ControlBlock) (w : Service) → IsInStage p row (stage.Held b) → R w None → D (holds p row (front_rest p.rest) (serving_settled env.serve w))
  pub hands : (row : FrontRow) (b : ControlBlock) (w : Service) (path : List ℕ) (choice : FirstChoice) → IsInStage p row (stage.Held b) → R w (Some path) → env.first path ≡ first.Go choice
      → D (Does (placed env p row (front_rest p.rest) w path (first.Go choice)))
  pub waits : (row : FrontRow) (b : ControlBlock) (w : Service) (path : List ℕ) → IsInStage p row (stage.Held b) → R w (Some path) → env.first path ≡ first.Waits
      → D (Does (placed env p row (front_rest p.rest) w path first.Waits))
  pub stays : (row : FrontRow) (b : ControlBlock) → IsInStage p row (stage.Waiting b) → D (waits_on env p row (front_rest p.rest) (spoken env.serve (heard_service p b s) []))
  pub forwards : (row : FrontRow) (n : ℕ) (e : Epoch) → IsAwayWith p row n e → D (forwarded env n e bytes)
  pub words : (row : FrontRow) (last : Final) → IsInStage p row (stage.Closed last) → D (Says (turn_here (tombstone env.serve (last_words last.reason last s))))

module _ (env : FrontEnv) (p : FrontPart) (bytes : List ℕ) (s : Said) (R : Service → Option (List ℕ) → Type 0) (D : FrontDeed → Type 0) (kept : KeptBySegment env p bytes s R D) where
  placed-keeps : (row : FrontRow) (b : ControlBlock) (w : Service) (path : List ℕ) → IsInStage p row (stage.Held b) → R w (Some path) → (f : First) → env.first path ≡ f
      → D (Does (placed env p row (front_rest p.rest) w path f))
  placed-keeps row b w path at r (first.Go choice) is = kept.hands row b w path choice at r is
  placed-keeps row b w path at r first.Waits is = kept.waits row b w path at r is

  settled-keeps : (row : FrontRow) (b : ControlBlock) (w : Service) (o : Option (List ℕ)) → IsInStage p row (stage.Held b) → R w o → D (settled_by env p row (front_rest p.rest) w o)
  settled-keeps row b w None at r = kept.holds row b w at r
  settled-keeps row b w (Some path) at r = placed-keeps row b w path at r (env.first path) refl

  stage-keeps : (row : FrontRow) (st : FrontConn) → IsInStage p row st → D (hears_at env p row bytes s st)
  stage-keeps row (stage.Held b) at =
      let x : Reading = front_reads env.serve (heard_reading p b s) in
      settled-keeps row b x.service x.target at (kept.reads row b at)
  stage-keeps row (stage.Waiting b) at = kept.stays row b at
  stage-keeps row stage.Lent at = kept.drops
  stage-keeps row (stage.Offering n e) at = kept.forwards row n e (inl at)
  stage-keeps row (stage.Moved n e) at = kept.forwards row n e (inr at)
  stage-keeps row (stage.Closed last) at = kept.words row last at

  row-keeps : (o : Option FrontRow) → p.row ≡ o → D (front_hears env p bytes s o)
  row-keeps None none = cond_both (is_plain_syn s) (front_begun env p s) Drops D (λ t. kept.begins none t) (λ t. kept.drops)
  row-keeps (Some row) found = stage-keeps row row.stage (found, refl)

  pub segment-keeps : D (front_hears env p bytes s p.row)
  segment-keeps = row-keeps p.row refl

-- ---- a timer

-- The endpoint of one that is held or waits says again, or an Offer is sent again.
pub record KeptByTimer (env : FrontEnv) (p : FrontPart) (D : FrontDeed → Type 0) : Type 0 where
  pub drops : D Drops
  pub holds : (row : FrontRow) (b : ControlBlock) → IsInStage p row (stage.Held b) → D (holds p row (front_rest p.rest) (front_fired env (front_rest p.rest) b))
  pub stays : (row : FrontRow) (b : ControlBlock) → IsInStage p row (stage.Waiting b) → D (waits_on env p row (front_rest p.rest) (front_fired env (front_rest p.rest) b))
  pub resends : (row : FrontRow) (n : ℕ) (e : Epoch) → IsInStage p row (stage.Offering n e) → D (Says (front_saying (map sent_of p.kept)))

module _ (env : FrontEnv) (p : FrontPart) (D : FrontDeed → Type 0) (kept : KeptByTimer env p D) where
  fired-keeps : (row : FrontRow) (st : FrontConn) → IsInStage p row st → D (fires_at env p row st)
  fired-keeps row (stage.Held b) at = kept.holds row b at
  fired-keeps row (stage.Waiting b) at = kept.stays row b at
  fired-keeps row (stage.Offering n e) at = kept.resends row n e at
  fired-keeps row _ at = kept.drops

  row-fires : (o : Option FrontRow) → p.row ≡ o → D (front_fired_by env p o)
  row-fires None none = kept.drops
  row-fires (Some row) found = fired-keeps row row.stage (found, refl)

  pub timer-keeps : D (front_timer env p)
  timer-keeps = row-fires p.row refl

-- ---- messages of nodes

module _ (p : FrontPart) (D : FrontDeed → Type 0) (drops : D Drops) where
  -- a Taken: it is where it was offered
  pub taken-keeps : (epoch : ℕ) → ((row : FrontRow) (n : ℕ) (e : Epoch) → IsInStage p row (stage.Offering n e) → e.0 ≡ epoch → D (taken_by p epoch (Some row) (Some n))) → D (front_taken p epoch)
  taken-keeps epoch takes = by p.row refl where
    in-stage : (row : FrontRow) (st : FrontConn) → IsInStage p row st → D (taken_by p epoch (Some row) (offered_to epoch st))
    in-stage row (stage.Offering n e) at = cond_both (e.0 == epoch) (Some n) None (λ (o : Option ℕ). D (taken_by p epoch (Some row) o)) (λ t. takes row n e at (eqb-true e.0 epoch t)) (λ t. drops)
    in-stage row _ at = drops

    by : (o : Option FrontRow) → p.row ≡ o → D (taken_by p epoch o (asked_node epoch o))
    by None none = drops
    by (Some row) found = in-stage row row.stage (found, refl)

  module _ (env : FrontEnv) where
    -- an Ask of its node: the last one gets its Tag again, and the next one is assigned
    pub asked-keeps : (n epoch : ℕ) (ask : Ask)
        → ((rest : FrontRest) → p.rest ≡ Some rest → is_row_at n epoch p.row ≡ true → ask.number ≡ rest.asks → 0 < rest.asks → D (Says (front_saying (tag_sent env n epoch rest.asks rest.tag))))
        → ((rest : FrontRest) → p.rest ≡ Some rest → is_row_at n epoch p.row ≡ true → ask.number ≡ rest.asks + 1 → D (Does (assigns env p rest n epoch ask (env.later ask))))
        → D (front_asked env p n epoch ask)
    asked-keeps n epoch ask again new = cond_both (is_row_at n epoch p.row) (asked_by env p n epoch ask p.rest) Drops D (λ there. by p.rest refl there) (λ t. drops) where
      both : (a b : Bool) → (a && b) ≡ true → (a ≡ true) × (b ≡ true)
      both true b h = (refl, h)
      both false b h = let no : false ≡ true = h in absurd cc

      by : (o : Option FrontRest) → p.rest ≡ o → is_row_at n epoch p.row ≡ true → D (asked_by env p n epoch ask o)
      by None found there = drops
      by (Some rest) found there =
          let told : FrontDeed = Says (front_saying (tag_sent env n epoch rest.asks rest.tag)) in
          cond_both (ask.number == rest.asks + 1) (Does (assigns env p rest n epoch ask (env.later ask))) (cond (ask.number == rest.asks && nat_lt 0 rest.asks) told Drops) D
          (λ t. new rest found there (eqb-true ask.number (rest.asks + 1) t))
          (λ t. cond_both (ask.number == rest.asks && nat_lt 0 rest.asks) told Drops D
          (λ u.
          let is = both (ask.number == rest.asks) (nat_lt 0 rest.asks) u in
          again rest found there (eqb-true ask.number rest.asks is.0) (ltb-true 0 rest.asks is.1))
          (λ u. drops))

    -- an Ended: it ends where it is away, and is acknowledged again where it ended so
    pub ended-keeps : (n epoch : ℕ) (last : Final)
        → ((row : FrontRow) → p.row ≡ Some row → is_away epoch row.stage ≡ false → ended_with epoch row.ended_by ≡ true → D (Says (front_saying (ack_sent env n epoch))))
        → ((row : FrontRow) → p.row ≡ Some row → is_away epoch row.stage ≡ true → D (Does (front_ends env p n epoch last row (next_epoch row))))
        → D (front_ended env p n epoch last)
    ended-keeps n epoch last again new = by p.row refl where
      by : (o : Option FrontRow) → p.row ≡ o → D (front_ended_by env p n epoch last o (end_answer epoch o))
      by None none = drops
      by (Some row) found =
          cond_both (is_away epoch row.stage) (New (next_epoch row)) (cond (ended_with epoch row.ended_by) Again Stale) (λ (a : OnEnded). D (front_ended_by env p n epoch last (Some row) a))
          (λ t. new row found t)
          (λ t. cond_both (ended_with epoch row.ended_by) Again Stale (λ (a : OnEnded). D (front_ended_by env p n epoch last (Some row) a)) (λ u. again row found t u) (λ u. drops))

-- ---- a connection that comes back

-- It comes back from its node, in its epoch, with these parts: one that was refused was not taken there.
pub record IsBack (p : FrontPart) (n epoch : ℕ) (given : Option EndpointParts) (row : FrontRow) (parts : EndpointParts) : Type 0 where
  pub from : Epoch
  pub at : IsAwayWith p row n from
  pub epoch_is : from.0 ≡ epoch
  pub refused : given ≡ None → IsInStage p row (stage.Offering n from)
  pub parts_are : parts_back p given ≡ Some parts

-- what is in hand before it is read on: the notes say that it is back
abbrev pub back_service : FrontEnv → FrontRow → EndpointParts → Service
back_service env row parts = serving (adopted parts) parts.served (back_notes env.serve.c row)

abbrev pub back_reading : FrontEnv → FrontRow → EndpointParts → Reading
back_reading env row parts = record { service = back_service env row parts; target = None }

-- It reads on, as one that is held, behind these messages.
pub record KeptByReturn (env : FrontEnv) (p : FrontPart) (said : List (Place × List ℕ)) (row : FrontRow) (parts : EndpointParts) (R : Service → Option (List ℕ) → Type 0) (D : FrontDeed → Type 0) : Type 0 where
  pub reads : R (front_reads env.serve (back_reading env row parts)).service (front_reads env.serve (back_reading env row parts)).target
  pub holds : (w : Service) → R w None → D (does_first [] said (holds (back_part p row parts) (returned_row parts row) (back_rest parts) (serving_settled env.serve w)))
  pub hands : (w : Service) (path : List ℕ) (choice : FirstChoice) → R w (Some path) → env.first path ≡ first.Go choice
      → D (does_first [] said (Does (placed env (back_part p row parts) (returned_row parts row) (back_rest parts) w path (first.Go choice))))
  pub waits : (w : Service) (path : List ℕ) → R w (Some path) → env.first path ≡ first.Waits
      → D (does_first [] said (Does (placed env (back_part p row parts) (returned_row parts row) (back_rest parts) w path first.Waits)))

module _ (env : FrontEnv) (p : FrontPart) (said : List (Place × List ℕ)) (row : FrontRow) (parts : EndpointParts) (R : Service → Option (List ℕ) → Type 0) (D : FrontDeed → Type 0) where
  pub return-keeps : KeptByReturn env p said row parts R D → D (does_first (back_notes env.serve.c row) said (reads_on env p row parts))
  return-keeps kept = subst D (sym (read-noted (back_notes env.serve.c row) env (back_part p row parts) (returned_row parts row) (back_rest parts) said (record { service = serving (adopted parts) parts.served []; target = None })))
      (settled x.service x.target kept.reads) where
        x : Reading
        x = front_reads env.serve (back_reading env row parts)

        goes : (w : Service) (path : List ℕ) → R w (Some path) → (f : First) → env.first path ≡ f
            → D (does_first [] said (Does (placed env (back_part p row parts) (returned_row parts row) (back_rest parts) w path f)))
        goes w path r (first.Go choice) is = kept.hands w path choice r is
        goes w path r first.Waits is = kept.waits w path r is

        settled : (w : Service) (o : Option (List ℕ)) → R w o → D (does_first [] said (settled_by env (back_part p row parts) (returned_row parts row) (back_rest parts) w o))
        settled w None r = kept.holds w r
        settled w (Some path) r = goes w path r (env.first path) refl

-- It comes back, or the Give of one that the front end is past is answered again.
module _ (env : FrontEnv) (p : FrontPart) (D : FrontDeed → Type 0) (drops : D Drops) (n epoch : ℕ) where
  is-with : (row : FrontRow) (st : FrontConn) → IsInStage p row st → is_with n epoch st ≡ true → (e : Epoch) × IsAwayWith p row n e × (e.0 ≡ epoch)
  is-with row (stage.Offering m e) at t =
      let k = and_parts (m == n) (e.0 == epoch) t in
      (e, subst (λ (z : ℕ). IsAwayWith p row z e) (eqb-true m n k.0) (inl at), eqb-true e.0 epoch k.1)
  is-with row (stage.Moved m e) at t =
      let k = and_parts (m == n) (e.0 == epoch) t in
      (e, subst (λ (z : ℕ). IsAwayWith p row z e) (eqb-true m n k.0) (inr at), eqb-true e.0 epoch k.1)
  is-with row _ at t = let no : false ≡ true = t in absurd cc

  abbrev Comes : Option EndpointParts → Option FrontRow → Back → Type 0
  Comes given o a = D (returned_by env p (given_sent env.serve.c n epoch given) o a (parts_back p given))

  pub returned-keeps : (given : Option EndpointParts)
      → ((parts : EndpointParts) → given ≡ Some parts → (row : FrontRow) → p.row ≡ Some row → epoch < row.epoch.0 → D (Says (front_saying (given_sent env.serve.c n epoch (Some parts)))))
      → ((row : FrontRow) (parts : EndpointParts) → IsBack p n epoch given row parts → D (does_first (back_notes env.serve.c row) (given_sent env.serve.c n epoch given) (reads_on env p row parts)))
      → D (front_returned env p n epoch given)
  returned-keeps given again new = by given refl p.row refl where
    comes : (row : FrontRow) (e : Epoch) → IsAwayWith p row n e → e.0 ≡ epoch → (given ≡ None → IsInStage p row (stage.Offering n e)) → (next : Epoch) → (o : Option EndpointParts) → parts_back p given ≡ o
        → D (returned_by env p (given_sent env.serve.c n epoch given) (Some row) (back.New next) o)
    comes row e at same refused next None is = drops
    comes row e at same refused next (Some parts) is = new row parts (record { from = e; at = at; epoch_is = same; refused = refused; parts_are = is })

    of-refused : given ≡ None → (row : FrontRow) (st : FrontConn) → IsInStage p row st → is_with n epoch st ≡ true → Comes given (Some row) (refused_answer epoch (Some (record row { stage = st })))
    of-refused none row (stage.Offering m e) at t =
        let k = and_parts (m == n) (e.0 == epoch) t in
        let there : IsInStage p row (stage.Offering n e) = subst (λ (z : ℕ). IsInStage p row (stage.Offering z e)) (eqb-true m n k.0) at in
        let same : e.0 ≡ epoch = eqb-true e.0 epoch k.1 in
        cond_both (is_some (cond (e.0 == epoch) (Some m) None)) (back.New (record { 0 = row.epoch.0 + 1 })) back.Stale (Comes given (Some row))
        (λ u. comes row e (inl there) same (λ z. there) (record { 0 = row.epoch.0 + 1 }) (parts_back p given) refl) (λ u. drops)
    of-refused none row (stage.Moved m e) at t = drops
    of-refused none row _ at t = let no : false ≡ true = t in absurd cc

    past : (parts : EndpointParts) → given ≡ Some parts → (row : FrontRow) → p.row ≡ Some row → Comes given (Some row) (cond (nat_lt epoch row.epoch.0) back.Again back.Stale)
    past parts is row found = cond_both (nat_lt epoch row.epoch.0) back.Again back.Stale (Comes given (Some row))
        (λ u. subst (λ (g : Option EndpointParts). D (Says (front_saying (given_sent env.serve.c n epoch g)))) (sym is) (again parts is row found (ltb-true epoch row.epoch.0 u))) (λ u. drops)

    of-given : (parts : EndpointParts) → given ≡ Some parts → (row : FrontRow) (e : Epoch) → p.row ≡ Some row → IsAwayWith p row n e → e.0 ≡ epoch → Comes given (Some row) (give_answer epoch (Some row))
    of-given parts is row e found at same =
        cond_both (is_away epoch row.stage) (back.New (record { 0 = row.epoch.0 + 1 })) (cond (nat_lt epoch row.epoch.0) back.Again back.Stale) (Comes given (Some row))
        (λ u. comes row e at same (λ none. let no : None ≡ Some parts = sym none ∙ is in absurd cc) (record { 0 = row.epoch.0 + 1 }) (parts_back p given) refl)
        (λ u. past parts is row found)

    by : (g : Option EndpointParts) → given ≡ g → (o : Option FrontRow) → p.row ≡ o → D (returned_by env p (given_sent env.serve.c n epoch given) o (back_answer n epoch g o) (parts_back p given))
    by g is None none = drops
    by None is (Some row) found =
        cond_both (is_with n epoch row.stage) (refused_answer epoch (Some row)) back.Stale (Comes given (Some row)) (λ t. of-refused is row row.stage (found, refl) t) (λ t. drops)
    by (Some parts) is (Some row) found =
        cond_both (is_with n epoch row.stage) (give_answer epoch (Some row)) (cond (nat_lt epoch row.epoch.0) back.Again back.Stale) (Comes given (Some row))
        (λ t. let w = is-with row row.stage (found, refl) t in of-given parts is row w.0 found w.1 w.2) (λ t. past parts is row found)

-- ---- the head of the line

-- it waited for this path, and is handed off
pub admitted-keeps : (env : FrontEnv) (p : FrontPart) (choice : FirstChoice) (A : FrontPart × FrontTurn → Type 0)
    → ((row : FrontRow) (b : ControlBlock) (path : List ℕ) → IsInStage p row (stage.Waiting b) → (front_rest p.rest).target ≡ Some path → A (handed_off env row (serving b (front_rest p.rest).count []) path choice))
    → (given : FrontPart × FrontTurn) → front_admitted env p choice ≡ Some given → A given
admitted-keeps env p choice A hands given = by p.row refl where
  with-target : (row : FrontRow) (b : ControlBlock) → IsInStage p row (stage.Waiting b) → (o : Option (List ℕ)) → (front_rest p.rest).target ≡ o → front_admitted_with env row (front_rest p.rest) b choice o ≡ Some given → A given
  with-target row b at None is e = let no : None ≡ Some given = e in absurd cc
  with-target row b at (Some path) is e =
      let same : handed_off env row (serving b (front_rest p.rest).count []) path choice ≡ given = cc in
      subst A same (hands row b path at is)

  in-stage : (row : FrontRow) (st : FrontConn) → IsInStage p row st → admitted_at env p choice row st ≡ Some given → A given
  in-stage row (stage.Waiting b) at e = with-target row b at (front_rest p.rest).target refl e
  in-stage row _ at e = let no : None ≡ Some given = e in absurd cc

  by : (o : Option FrontRow) → p.row ≡ o → admitted_by env p choice o ≡ Some given → A given
  by None none e = let no : None ≡ Some given = e in absurd cc
  by (Some row) found e = in-stage row row.stage (found, refl) e

-- ---- whatever comes

-- What is known of who is admitted: the rule says what comes of that.
abbrev pub IsAsGiven : FrontEnv → FrontPart → FrontGets → Type 0
IsAsGiven env p (FrontAdmits choice given) = front_admitted env p choice ≡ Some given
IsAsGiven env p _ = Unit {0}

-- M is what is known of what came, R what tells what reading came to: a segment, the timer, a Taken, the last Ask again and the next one, an Ended
-- again and a new one, and the head of the line.
pub record KeptByFront (env : FrontEnv) (p : FrontPart) (M : FrontGets → Type 0) (R : Service → Option (List ℕ) → Type 0) (D : FrontDeed → Type 0) : Type 0 where
  pub drops : D Drops
  pub hears : (bytes : List ℕ) (s : Said) → M (FrontHears bytes (Ok s)) → KeptBySegment env p bytes s R D
  pub fires : M FrontFires → KeptByTimer env p D
  pub takes : (n epoch : ℕ) → M (TakenBy n epoch) → (row : FrontRow) (node : ℕ) (e : Epoch) → IsInStage p row (stage.Offering node e) → e.0 ≡ epoch
      → D (taken_by p epoch (Some row) (Some node))
  pub tags_again : (n epoch : ℕ) (ask : Ask) → M (AskedBy n epoch ask) → (rest : FrontRest) → p.rest ≡ Some rest → is_row_at n epoch p.row ≡ true
      → ask.number ≡ rest.asks → 0 < rest.asks → D (Says (front_saying (tag_sent env n epoch rest.asks rest.tag)))
  pub assigns_next : (n epoch : ℕ) (ask : Ask) → M (AskedBy n epoch ask) → (rest : FrontRest) → p.rest ≡ Some rest → is_row_at n epoch p.row ≡ true
      → ask.number ≡ rest.asks + 1 → D (Does (assigns env p rest n epoch ask (env.later ask)))
  pub ends_again : (n epoch : ℕ) (last : Final) → M (EndedBy n epoch last) → (row : FrontRow) → p.row ≡ Some row → is_away epoch row.stage ≡ false
      → ended_with epoch row.ended_by ≡ true → D (Says (front_saying (ack_sent env n epoch)))
  pub ends : (n epoch : ℕ) (last : Final) → M (EndedBy n epoch last) → (row : FrontRow) → p.row ≡ Some row → is_away epoch row.stage ≡ true
      → D (Does (front_ends env p n epoch last row (next_epoch row)))
  pub gives_again : (n epoch : ℕ) (parts : EndpointParts) → M (ReturnedBy n epoch (Some parts)) → (row : FrontRow) → p.row ≡ Some row → epoch < row.epoch.0
      → D (Says (front_saying (given_sent env.serve.c n epoch (Some parts))))
  pub returns : (n epoch : ℕ) (given : Option EndpointParts) → M (ReturnedBy n epoch given) → (row : FrontRow) (parts : EndpointParts) → IsBack p n epoch given row parts
      → KeptByReturn env p (given_sent env.serve.c n epoch given) row parts R D
  pub admits : (choice : FirstChoice) (given : FrontPart × FrontTurn) → M (FrontAdmits choice given) → (row : FrontRow) (b : ControlBlock) (path : List ℕ) → IsInStage p row (stage.Waiting b)
      → (front_rest p.rest).target ≡ Some path → D (hands_off env row (serving b (front_rest p.rest).count []) path choice [])

module _ (env : FrontEnv) (p : FrontPart) (M : FrontGets → Type 0) (R : Service → Option (List ℕ) → Type 0) (D : FrontDeed → Type 0) (kept : KeptByFront env p M R D) where
  pub front-keeps : (g : FrontGets) → IsAsGiven env p g → M g → D (front_rule env p g)
  front-keeps (FrontHears bytes (Err fault)) is m = kept.drops
  front-keeps (FrontHears bytes (Ok s)) is m = segment-keeps env p bytes s R D (kept.hears bytes s m)
  front-keeps FrontFires is m = timer-keeps env p D (kept.fires m)
  front-keeps (TakenBy n epoch) is m = taken-keeps p D kept.drops epoch (kept.takes n epoch m)
  front-keeps (AskedBy n epoch ask) is m = asked-keeps p D kept.drops env n epoch ask (kept.tags_again n epoch ask m) (kept.assigns_next n epoch ask m)
  front-keeps (EndedBy n epoch last) is m = ended-keeps p D kept.drops env n epoch last (kept.ends_again n epoch last m) (kept.ends n epoch last m)
  front-keeps (ReturnedBy n epoch given) is m = returned-keeps env p D kept.drops n epoch given
      (λ parts same row found past. kept.gives_again n epoch parts (subst (λ (g : Option EndpointParts). M (ReturnedBy n epoch g)) same m) row found past)
      (λ row parts at. return-keeps env p (given_sent env.serve.c n epoch given) row parts R D (kept.returns n epoch given m row parts at))
  front-keeps (FrontAdmits choice given) is m = admitted-keeps env p choice (λ y. D (Does (record { part = y.0; turn = y.1; calls = [] }))) (kept.admits choice given m) given is
