-- A connection is adopted, and its stay begins; a node that leaves refuses it.
use Rattle.std.proofs.Common.{◌≡◌, ℕ, ◌==◌, nat_lt, ◌&&◌, Bool, true, false, cond, List, [], ◌∷◌, ◌++◌, Option, Some, None, Result, Ok, Err, IfOk, OnOk, refl, sym, ap, subst, ◌∙◌, arith}
use Rattle.std.proofs.lemmas.Bool.{and_parts, cond-true, eq-eqb}
use Rattle.std.specs.FinMap.{get, insert, remove}
use Rattle.lard_back.specs.declared.hand.At.{At}
use Rattle.lard_back.specs.declared.timers.Flags.{Flags}
use Rattle.lard_back.specs.Hand.{node_lent}
use Rattle.lard_back.specs.Place.{IsGone, ends_with, node_env_of, out_at, told_at}
use Rattle.lard_back.specs.Sound.{IsAtRest, IsNodeSound, IsStaying}
use Rattle.lard_back.specs.Timers.{timer_flags}
use Rattle.lard_back.proofs.Acted.{ends-rest, put-sound, told-sound}
use Rattle.lard_back.proofs.Deeds.{at-node, ends-did, told-did}
use Rattle.lard_back.proofs.Putting.{closes-is}
use Rattle.lard_base.specs.declared.errors.NoMemory.{NoMemory}
use Rattle.lard_base.specs.declared.ids.Epoch.{Epoch}
use Rattle.lard_base.specs.declared.parts.EndpointParts.{EndpointParts}
use Rattle.lard_base.specs.declared.place.Place.{Place}
use Rattle.lard_base.specs.declared.place.Place.TheVariants.{Node}
use Rattle.lard_base.specs.Parts.{IsValidParts}
use Rattle.lard_endpoint.specs.Control.{ControlBlock}
use Rattle.lard_endpoint.specs.Moving.{adopted}
use Rattle.lard_handoff_back.specs.declared.row.BackConn.{BackConn}
use Rattle.lard_handoff_back.specs.declared.row.BackConn.TheVariants as stage
use Rattle.lard_handoff_back.specs.declared.row.BackRow.{BackRow}
use Rattle.lard_handoff_back.specs.declared.table.Adopt.{Adopt}
use Rattle.lard_handoff_back.specs.declared.table.Adopt.TheVariants.{New, Again, Stale, Refuse}
use Rattle.lard_handoff_back.specs.Back.{offer_answer, stay_row, staying, back_taken}
use Rattle.lard_handoff_back.specs.Laws.{after_decision, decision_in}
use Rattle.lard_handoff_back.specs.Leaving.{after_offer}
use Rattle.lard_handoff_back.specs.Row.{is_gone}
use Rattle.lard_handoff_back.specs.Table.{Table, beside_in}
use Rattle.lard_handoff_back.proofs.Putting.{put_in_twice}
use Rattle.lard_journal.specs.declared.rec.Rec.{Rec}
use Rattle.lard_journal.specs.declared.rec.Rec.TheVariants as rec
use Rattle.lard_rules.specs.declared.node.NodeState.{NodeState}
use Rattle.lard_rules.specs.declared.node.NodeTurn.{NodeTurn}
use Rattle.lard_rules.specs.declared.stay.Stay.{Stay}
use Rattle.lard_rules.proofs.NodeCases.{decision-new}
use Rattle.lard_rules.specs.Node.{NodePart, kept_after, kept_refused, node_begins, node_offered, node_saying, offered_by, refused_sent, taken_sent, turn_by, work_of}
use Rattle.lard_rules.specs.NodePlace.{NodeSetting, node_deed, node_env, node_part, node_put, stores_told}
use Rattle.lard_rules.specs.Stay.{NodeEnv, Work, goes_on, reads_batch}
use Rattle.lard_resend.proofs.Lists.{list_got}
use Rattle.lard_rules.specs.declared.places.Out.{Out}
use Rattle.lard_rules.specs.declared.places.Ending.{Ending}
use Rattle.lard_rules.specs.declared.places.Ending.TheVariants as ending
use Rattle.lard_rules.specs.declared.places.Turn.{Turn}
use Rattle.lard_rules.specs.Loop.{state_of}
use Rattle.lard_rules.specs.Serving.{serving_settled}
use Rattle.lard_stay.specs.declared.work.Work.{Work as InHand}
use Rattle.lard_stay.specs.Work.{IsInHandSound, IsStaySound, work_seen}
use Rattle.lard_table.proofs.Map.{get_inserted, put_got}
use Rattle.lard_table.specs.Table.{put_or}

-- ---- what is in hand of a stay that begins

abbrev pub first_stay : ℕ → Stay
first_stay served = record { served = served; batch = []; asks = 0 }

begun-sound : (p : EndpointParts) → IsValidParts p → IsStaySound (adopted p) (first_stay p.served)
begun-sound p valid = record { within = omega (arith, valid.answered, valid.within); few = omega arith; asks = omega arith }

pub first-sound : (p : EndpointParts) (b : ControlBlock) (s : Stay) → s ≡ first_stay p.served → b ≡ adopted p → IsValidParts p → IsStaySound b s
first-sound p b s first new valid = subst (IsStaySound b) (sym first) (subst (λ (d : ControlBlock). IsStaySound d (first_stay p.served)) (sym new) (begun-sound p valid))

-- notes change nothing of what is sound
pub noted-sound : (b : ControlBlock) (w : InHand) (notes : List Rec) → IsInHandSound b w → IsInHandSound b (record w { service = record w.service { notes = notes } })
noted-sound b w notes s = record {
  counted = record { responses = s.counted.responses; bytes = s.counted.bytes };
  within = s.within;
  few = s.few;
  asks = s.asks;
  asked = s.asked;
  wants = s.wants;
}

abbrev first_note : NodeEnv → Rec
first_note env = rec.Took (Node env.n) env.serve.c (record { 0 = env.epoch })

pub begun-is : (env : NodeEnv) (p : EndpointParts) (b : ControlBlock) (w : InHand) (notes : List Rec) → work_seen b w ≡ work_of b (first_stay p.served) → b ≡ adopted p
    → notes ≡ w.service.notes ++ first_note env ∷ [] → work_seen b (record w { service = record w.service { notes = notes } }) ≡ node_begins env p
begun-is env p b w notes seen new noted =
    let first : List Rec → List Rec = λ ns. ns ++ first_note env ∷ [] in
    (λ i. record (work_seen b w) { service = record (work_seen b w).service { notes = noted i } })
    ∙ (λ i. record (seen i) { service = record (seen i).service { notes = first (seen i).service.notes } })
    ∙ (λ i. record (node_begins env p) { service = record (node_begins env p).service { block = new i } })

-- ---- the table

module _ (m : Table) (c : ℕ) (epoch : Epoch) (parts : EndpointParts) where
  -- the endpoint is here in the epoch of its Offer
  stays-new : staying epoch.0 (get (insert m.rows c (stay_row epoch parts)) c) ≡ Some (adopted parts)
  stays-new = ap (staying epoch.0) (get_inserted m.rows c (stay_row epoch parts)) ∙ cond-true (epoch.0 == epoch.0) (Some (adopted parts)) None (eq-eqb epoch.0 epoch.0 refl)

  is-new : (n : Table) → n ≡ after_decision m c epoch parts → New ≡ decision_in m c epoch.0 → n ≡ record m { rows = insert m.rows c (stay_row epoch parts) }
  is-new n is new = is ∙ ap (after_offer m c epoch parts) (sym new)

  pub found-new : (n : Table) → n ≡ after_decision m c epoch parts → New ≡ decision_in m c epoch.0 → staying epoch.0 (get n.rows c) ≡ Some (adopted parts)
  found-new n is new = ap (λ (l : Table). staying epoch.0 (get l.rows c)) (is-new n is new) ∙ stays-new

-- nothing stays of a connection that is new
new-gone : (st : BackConn) (v : Option Stay) → is_gone st ≡ true → IsStaying st v → v ≡ None
new-gone (stage.Here b) v g r = absurd cc
new-gone stage.Out v g r = absurd cc
new-gone stage.Ended v g r = absurd cc
new-gone stage.Gone None g r = refl
new-gone stage.Gone (Some s) g r = absurd r

new-rest : (e : ℕ) (o : Option BackRow) (v : Option Stay) → New ≡ offer_answer e o → IsAtRest o v → v ≡ None
new-rest e None None new r = refl
new-rest e None (Some s) new r = absurd r
new-rest e (Some row) v new r = by (row.epoch.0 == e) (nat_lt row.epoch.0 e && is_gone row.stage) refl new where
  by : (t u : Bool) → (nat_lt row.epoch.0 e && is_gone row.stage) ≡ u → New ≡ cond t Again (cond u New Stale) → v ≡ None
  by true u is h = absurd cc
  by false true is h = new-gone row.stage v (and_parts (nat_lt row.epoch.0 e) (is_gone row.stage) is).1 r
  by false false is h = absurd cc

-- ---- the rule

abbrev Begun : NodeEnv → EndpointParts → Work
Begun env parts = goes_on env (state_of (reads_batch env true (node_begins env parts)))

-- the connection is here, and has no stay yet
abbrev adopting : NodeState → At → EndpointParts → NodeState
adopting s at parts = record s { conns = record s.conns { rows = insert s.conns.rows at.c (stay_row at.epoch parts) } }

module _ (k : NodeSetting) (s : NodeState) (at : At) (parts : EndpointParts) where
  abbrev ruled : NodeEnv
  ruled = node_env k s at.c at.epoch.0

  abbrev Offered : NodeState → Out → Type 0
  Offered n out = (n, out) ≡ node_deed k s at.c (node_offered ruled (node_part s at.c) parts)

  abbrev Answers : Adopt → Type 0
  Answers a = a ≡ decision_in s.conns at.c at.epoch.0

  -- its row counts for nothing in what is put back
  part-same : (env : NodeEnv) (w : Work) (e : Ending) → kept_after env (node_part (adopting s at parts) at.c) w e ≡ kept_after env (node_part s at.c) w e
  part-same env w (ending.Here b count) = refl
  part-same env w (ending.Over last) = refl

  ends-adopted : (was : Flags) (before : List (Place × List ℕ)) (w : Work) (given : Ending × Turn) → ends_with k (adopting s at parts) at was before w given ≡ ends_with k s at was before w given
  ends-adopted was before w given =
      let q : NodePart = kept_after (node_env_of k s at) (node_part s at.c) w given.0 in
      let t : NodeTurn = turn_by (node_env_of k s at) before w given in
      (λ i. (stores_told (node_put (adopting s at parts) at.c (part-same (node_env_of k s at) w given.0 i)) t, out_at at was (part-same (node_env_of k s at) w given.0 i) t))
      ∙ (λ i. (stores_told (record (node_put s at.c q) { conns = put_in_twice s.conns at.c (Some (stay_row at.epoch parts)) q.row q.beside i }) t, out_at at was q t))

  none-stays : Answers New → IsNodeSound s → remove s.stays at.c ≡ s.stays
  none-stays new sound = ap (put_or s.stays at.c) (sym (new-rest at.epoch.0 (get s.conns.rows at.c) (get s.stays at.c) (sym by-row) (sound.stays at.c))) ∙ put_got s.stays at.c where
    by-row : offer_answer at.epoch.0 (get s.conns.rows at.c) ≡ New
    by-row = (decision-new s.conns.leaving at.epoch.0 (get s.conns.rows at.c) (beside_in s.conns at.c) (sym new)).0

  -- what is in hand was taken out of this state
  pub lent-new : {t : NodeState} {m : Table} → m ≡ after_decision s.conns at.c at.epoch parts
      → t ≡ record s { conns = record m { rows = back_taken m.rows at.c (get m.rows at.c) (staying at.epoch.0 (get m.rows at.c)) } } → Answers New → IsNodeSound s → t ≡ node_lent (adopting s at parts) at.c
  lent-new {m = m} after lends new sound =
      let now : Table = record s.conns { rows = insert s.conns.rows at.c (stay_row at.epoch parts) } in
      let is : m ≡ now = is-new s.conns at.c at.epoch parts m after new in
      lends
      ∙ (λ i. record s { conns = record (is i) { rows = back_taken (is i).rows at.c (get (is i).rows at.c) (staying at.epoch.0 (get (is i).rows at.c)) } })
      ∙ (λ i. record s { conns = record now { rows = back_taken now.rows at.c (get now.rows at.c) (stays-new s.conns at.c at.epoch parts i) } })
      ∙ (λ i. record (node_lent (adopting s at parts) at.c) { stays = sym (none-stays new sound) i })

  abbrev At_end : At → Flags → NodeState × Out
  At_end a was = let e = node_env_of k s a in let w = Begun e parts in ends_with k s a was (taken_sent e) w (serving_settled e.serve w.service)

  new-does : (n : NodeState) (was : Flags) (out : Out) → Answers New → was ≡ timer_flags (node_part s at.c) → at.n ≡ k.n → (n, out) ≡ At_end at was → Offered n out
  new-does n was out new flags node is =
      let w : Work = Begun ruled parts in
      is
      ∙ (λ i. At_end (at-node k at node i) (flags i))
      ∙ ends-did k s (record { n = k.n; c = at.c; epoch = at.epoch }) (timer_flags (node_part s at.c)) (taken_sent ruled) w (serving_settled ruled.serve w.service) refl refl
      ∙ ap (λ (a : Adopt). node_deed k s at.c (offered_by ruled parts (node_part s at.c) a)) new

  module _ (n : NodeState) (was : Flags) {t : NodeState} (lends : t ≡ node_lent (adopting s at parts) at.c) (new : Answers New) (sound : IsNodeSound s) where
    abbrev Ends : NodeState → Out → Type 0
    Ends u out = let e = node_env_of k u at in let w = Begun e parts in IsGone u at was (taken_sent e) w (serving_settled e.serve w.service) n out

    both : (out : Out) → Ends t out → ((n, out) ≡ At_end at was) × IsNodeSound n
    both out gone =
        let e : NodeEnv = node_env_of k s at in
        let w : Work = Begun e parts in
        let given : Ending × Turn = serving_settled e.serve w.service in
        let g : Ends (node_lent (adopting s at parts) at.c) out = subst (λ (u : NodeState). Ends u out) lends gone in
        let is : (n, out) ≡ At_end at was =
        g.closes
        ∙ closes-is k (adopting s at parts) at was (taken_sent e) (adopted parts) w given (stays-new s.conns at.c at.epoch parts) (sound.kept at.c) (sound.fetches at.c)
        ∙ ends-adopted was (taken_sent e) w given in
        let q : NodePart = kept_after e (node_part s at.c) w given.0 in
        let kept : IsNodeSound (stores_told (node_put s at.c q) (turn_by e (taken_sent e) w given)) =
        told-sound (node_put s at.c q) (turn_by e (taken_sent e) w given) (put-sound s at.c q (ends-rest e (node_part s at.c) w given.0 g.sound) sound) in
        (is, subst IsNodeSound (ap (λ (x : NodeState × Out). x.0) (sym is)) kept)

    pub new-by : (r : Result Out NoMemory) → was ≡ timer_flags (node_part s at.c) → at.n ≡ k.n → IfOk r (Ends t) → IfOk r (λ out. Offered n out)
    new-by (Ok out) flags node gone = new-does n was out new flags node (both out gone).0
    new-by (Err e) flags node gone = tt

    pub new-sound : (r : Result Out NoMemory) → IfOk r (Ends t) → OnOk r (IsNodeSound n)
    new-sound (Ok out) gone = (both out gone).1
    new-sound (Err e) gone = tt

  -- ---- it is refused

  -- the table knows it
  abbrev refusing : NodeState
  refusing = record s { conns = record s.conns { refused = insert s.conns.refused at.c at.epoch } }

  refused-put : IsNodeSound s → refusing ≡ node_put s at.c (kept_refused ruled (node_part s at.c))
  refused-put sound = λ i. record s {
    conns = record refusing.conns { rows = sym (put_got s.conns.rows at.c) i; returned = sym (put_got s.conns.returned at.c) i };
    stays = sym (put_got s.stays at.c) i;
    kept = sym (list_got s.kept at.c (sound.kept at.c)) i;
    fetches = sym (list_got s.fetches at.c (sound.fetches at.c)) i;
  }

  module _ (n : NodeState) (was : Flags) {t : NodeState} (after : t ≡ record s { conns = after_decision s.conns at.c at.epoch parts }) (answers : Answers Refuse) (sound : IsNodeSound s) where
    abbrev Refused : Out → Type 0
    Refused out = (n, out) ≡ told_at t at was (node_saying (refused_sent ruled))

    is-refused : t ≡ refusing
    is-refused = after ∙ ap (λ (a : Adopt). record s { conns = after_offer s.conns at.c at.epoch parts a }) (sym answers)

    pub refused-by : (r : Result Out NoMemory) → was ≡ timer_flags (node_part s at.c) → at.n ≡ k.n → IfOk r Refused → IfOk r (λ out. Offered n out)
    refused-by (Ok out) flags node told =
        told
        ∙ told-did k s t at was (kept_refused ruled (node_part s at.c)) (node_saying (refused_sent ruled)) (is-refused ∙ refused-put sound) flags node
        ∙ ap (λ (a : Adopt). node_deed k s at.c (offered_by ruled parts (node_part s at.c) a)) answers
    refused-by (Err e) flags node told = tt

    pub refused-sound : (r : Result Out NoMemory) → IfOk r Refused → OnOk r (IsNodeSound n)
    refused-sound (Ok out) told =
        let kept : IsNodeSound refusing = record { stays = sound.stays; kept = sound.kept; fetches = sound.fetches } in
        subst IsNodeSound (ap (λ (x : NodeState × Out). x.0) (sym told)) (told-sound t (node_saying (refused_sent ruled)) (subst IsNodeSound (sym is-refused) kept))
    refused-sound (Err e) told = tt
