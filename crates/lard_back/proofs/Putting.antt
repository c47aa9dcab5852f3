-- What was in hand and is put back: the tables are set at one connection, as if nothing had been taken out of them.
use Rattle.std.proofs.Common.{◌≡◌, ℕ, ◌==◌, Bool, true, false, cond, List, [], ◌∷◌, ◌++◌, Option, Some, None, refl, sym, ap, ◌∙◌}
use Rattle.std.proofs.lemmas.Bool.{eqb-true}
use Rattle.std.specs.FinMap.{get, insert, remove}
use Rattle.lard_back.specs.declared.hand.At.{At}
use Rattle.lard_back.specs.declared.hand.Rested.TheVariants as rested
use Rattle.lard_back.specs.declared.timers.Flags.{Flags}
use Rattle.lard_back.specs.Hand.{HeldMessages, ask_sent, asked_in, ended_message, fetch_message, handed_back, node_left, node_lent, work_rest, node_rested_in, sat, stay_epoch, turn_at, wanted}
use Rattle.lard_back.specs.Place.{deed_at, turn_closed, ends_with, give_bytes, given_up, node_env_of, out_at, silent_turn, told_at}
use Rattle.lard_base.specs.declared.place.Place.{Place}
use Rattle.lard_endpoint.specs.Control.{ControlBlock}
use Rattle.lard_endpoint.specs.Moving.{parts_of}
use Rattle.lard_handoff_back.specs.declared.row.BackConn.{BackConn}
use Rattle.lard_handoff_back.specs.declared.row.BackConn.TheVariants as stage
use Rattle.lard_handoff_back.specs.declared.row.BackRow.{BackRow}
use Rattle.lard_handoff_back.specs.Back.{Backs, staying, back_with_stage}
use Rattle.lard_handoff_back.specs.Row.{back_held}
use Rattle.lard_handoff_back.specs.Table.{beside_in, table_put}
use Rattle.lard_handoff_back.proofs.Putting.{beside_put, row_put_in}
use Rattle.lard_message.specs.declared.message.Body.TheVariants as body
use Rattle.lard_rules.specs.declared.node.NodeState.{NodeState}
use Rattle.lard_rules.specs.declared.node.NodeTurn.{NodeTurn}
use Rattle.lard_rules.specs.declared.stay.Asked.{Asked}
use Rattle.lard_rules.specs.declared.stay.Want.{Want}
use Rattle.lard_rules.specs.Node.{NodePart, ask_kept, asked_kept, asked_sent, ended_sent, give_kept, gives_back, kept_after, kept_back, message, stay_after, turn_back, turn_by, wants_kept, wants_sent}
use Rattle.lard_rules.specs.NodePlace.{NodeSetting, node_part, node_put, stores_told}
use Rattle.lard_rules.specs.Stay.{NodeEnv, Work}
use Rattle.lard_resend.specs.declared.kept.Kept.{Kept}
use Rattle.lard_resend.specs.Kept.{anew}
use Rattle.lard_resend.specs.Pending.{held, put_list, renewed, sent_of}
use Rattle.lard_resend.proofs.Lists.{held_put, list_got, list_twice, some_put}
use Rattle.lard_resend.proofs.Renewed.{renewed_is}
use Rattle.lard_rules.specs.declared.places.Ending.{Ending}
use Rattle.lard_rules.specs.declared.places.Ending.TheVariants as ending
use Rattle.lard_rules.specs.declared.places.Turn.{Turn}
use Rattle.lard_table.proofs.Map.{get_inserted, get_put_same, insert_twice, put_got, put_twice}

-- ---- the row

-- an endpoint that is here in an epoch is in a row of that epoch
row-epoch : (e : ℕ) (row : BackRow) (b : ControlBlock) → staying e (Some row) ≡ Some b → row.epoch.0 ≡ e
row-epoch e row b h = go (row.epoch.0 == e) refl h where
  go : (t : Bool) → (row.epoch.0 == e) ≡ t → cond t (back_held row.stage) None ≡ Some b → row.epoch.0 ≡ e
  go true is g = eqb-true _ _ is
  go false is g = let none : None ≡ Some b = g in absurd cc

pub row-back : (m : Backs) (c e : ℕ) (o : Option BackRow) (b : ControlBlock) (st : BackConn) → staying e o ≡ Some b
    → back_with_stage (back_with_stage m c stage.Out o) c st (get (back_with_stage m c stage.Out o) c) ≡ insert m c (record { stage = st; epoch = record { 0 = e } })
row-back m c e None b st h = let none : None ≡ Some b = h in absurd cc
row-back m c e (Some row) b st h =
    let out : BackRow = record row { stage = stage.Out } in
    ap (back_with_stage (insert m c out) c st) (get_inserted m c out) ∙ insert_twice m c out (record out { stage = st })
    ∙ ap (λ (n : ℕ). insert m c (record { stage = st; epoch = record { 0 = n } })) (row-epoch e row b h)

-- ---- the messages that are held

kept-back : (env : NodeEnv) (at : At) (o : Option Asked) (m : HeldMessages) → env.serve.c ≡ at.c → env.epoch ≡ at.epoch.0 → (get m at.c ≡ Some [] → ⊥)
    → asked_in at o m ≡ put_list m at.c (asked_kept env o (held m at.c))
kept-back env at None m c e some = sym (list_got m at.c some)
kept-back env at (Some a) m c e some =
    renewed_is m at.c (ask_kept at.c at.epoch.0 a) ∙ (λ i. put_list m at.c (anew (ask_kept (sym c i) (sym e i) a) (held m at.c)))

fetches-back : (env : NodeEnv) (at : At) (ws : List Want) (m : HeldMessages) → env.serve.c ≡ at.c → env.epoch ≡ at.epoch.0 → (get m at.c ≡ Some [] → ⊥)
    → wanted at ws m ≡ put_list m at.c (wants_kept env ws (held m at.c))
fetches-back env at [] m c e some = sym (list_got m at.c some)
fetches-back env at (w ∷ ws) m c e some =
    let k : Kept = fetch_message at w in
    let ks : List Kept = anew k (held m at.c) in
    let is : renewed m at.c k ≡ put_list m at.c ks = renewed_is m at.c k in
    ap (wanted at ws) is
    ∙ fetches-back env at ws (put_list m at.c ks) c e (some_put m at.c ks)
    ∙ list_twice m at.c ks (wants_kept env ws (held (put_list m at.c ks) at.c))
    ∙ ap (λ (ls : List Kept). put_list m at.c (wants_kept env ws ls)) (held_put m at.c ks)
    ∙ (λ i. put_list m at.c (wants_kept env ws (anew (fetch_kept-of (sym c i) (sym e i)) (held m at.c)))) where
      fetch_kept-of : ℕ → ℕ → Kept
      fetch_kept-of c e = fetch_message (record { n = at.n; c = c; epoch = record { 0 = e } }) w

-- what was awaited is forgotten, and one message held
over-back : (m : HeldMessages) (c : ℕ) (ks : List Kept) (k : Kept) → renewed (remove (put_list m c ks) c) c k ≡ put_list m c (k ∷ [])
over-back m c ks k =
    let n : HeldMessages = put_list m c ks in
    renewed_is (put_list n c []) c k
    ∙ ap (λ (ls : List Kept). put_list (put_list n c []) c (anew k ls)) (held_put n c [])
    ∙ list_twice n c [] (k ∷ []) ∙ list_twice m c ks (k ∷ [])

-- of all that the turn asked for nothing is awaited
kept-last : (env : NodeEnv) (at : At) (o : Option Asked) (m : HeldMessages) (k : Kept) → env.serve.c ≡ at.c → env.epoch ≡ at.epoch.0 → (get m at.c ≡ Some [] → ⊥)
    → renewed (remove (asked_in at o m) at.c) at.c k ≡ put_list m at.c (k ∷ [])
kept-last env at o m k c e some = ap (λ (l : HeldMessages). renewed (remove l at.c) at.c k) (kept-back env at o m c e some) ∙ over-back m at.c (asked_kept env o (held m at.c)) k

fetches-none : (env : NodeEnv) (at : At) (ws : List Want) (m : HeldMessages) → env.serve.c ≡ at.c → env.epoch ≡ at.epoch.0 → (get m at.c ≡ Some [] → ⊥)
    → remove (wanted at ws m) at.c ≡ put_list m at.c []
fetches-none env at ws m c e some = ap (λ (l : HeldMessages). remove l at.c) (fetches-back env at ws m c e some) ∙ list_twice m at.c (wants_kept env ws (held m at.c)) []

-- ---- one connection's part

pub part-put : (s : NodeState) (c : ℕ) (q : NodePart) → node_part (node_put s c q) c ≡ q
part-put s c q = λ i. record {
  row = get_put_same s.conns.rows c q.row i;
  stay = get_put_same s.stays c q.stay i;
  kept = held_put s.kept c q.kept i;
  fetches = held_put s.fetches c q.fetches i;
  beside = beside_put s.conns c q.row q.beside i;
}

-- ---- the end of a turn

-- the row of a connection that was in hand, and what stands beside it
conns-back : (s : NodeState) (at : At) (b : ControlBlock) (st : BackConn) → staying at.epoch.0 (get s.conns.rows at.c) ≡ Some b
    → (let m = back_with_stage s.conns.rows at.c stage.Out (get s.conns.rows at.c) in record s.conns { rows = back_with_stage m at.c st (get m at.c) })
    ≡ table_put s.conns at.c (Some (record { stage = st; epoch = record { 0 = at.epoch.0 } })) (beside_in s.conns at.c)
conns-back s at b st h = (λ i. record s.conns { rows = row-back s.conns.rows at.c at.epoch.0 (get s.conns.rows at.c) b st h i }) ∙ row_put_in s.conns at.c (Some (record { stage = st; epoch = record { 0 = at.epoch.0 } }))

pub left-is : (k : NodeSetting) (s : NodeState) (at : At) (b : ControlBlock) (w : Work) (e : Ending) → staying at.epoch.0 (get s.conns.rows at.c) ≡ Some b
    → (get s.kept at.c ≡ Some [] → ⊥) → (get s.fetches at.c ≡ Some [] → ⊥)
    → node_left (sat (node_lent s at.c) at.c e) at (work_rest w) (node_rested_in e) ≡ node_put s at.c (kept_after (node_env_of k s at) (node_part s at.c) w e)
left-is k s at b w (ending.Here d count) h kept fetches = λ i. record s {
  conns = conns-back s at b (stage.Here d) h i;
  stays = put_twice s.stays at.c None (Some (stay_after count w)) i;
  kept = kept-back (node_env_of k s at) at w.asked s.kept refl refl kept i;
  fetches = fetches-back (node_env_of k s at) at w.wants s.fetches refl refl fetches i;
}
left-is k s at b w (ending.Over last) h kept fetches =
    let env : NodeEnv = node_env_of k s at in
    (λ i. record s {
      conns = conns-back s at b stage.Ended h i;
      stays = remove s.stays at.c;
      kept = kept-last env at w.asked s.kept (ended_message at last w.service.over) refl refl kept i;
      fetches = fetches-none env at w.wants s.fetches refl refl fetches i;
    })

ask-same : (env : NodeEnv) (at : At) (o : Option Asked) → env.serve.c ≡ at.c → env.epoch ≡ at.epoch.0 → ask_sent at o ≡ asked_sent env o
ask-same env at None c e = refl
ask-same env at (Some a) c e = λ i. (ask_to (sym c i) (sym e i)) where
  ask_to : ℕ → ℕ → List (Place × List ℕ)
  ask_to c e = ask_sent (record { n = at.n; c = c; epoch = record { 0 = e } }) (Some a)

pub turn-is : (k : NodeSetting) (s : NodeState) (at : At) (before : List (Place × List ℕ)) (w : Work) (e : Ending) (turn : Turn)
    → turn_at at before (work_rest w) (node_rested_in e) turn ≡ turn_by (node_env_of k s at) before w (e, turn)
turn-is k s at before w (ending.Here d count) turn = λ i. record (turn_by (node_env_of k s at) before w (ending.Here d count, turn)) {
  messages = before ++ ask-same (node_env_of k s at) at w.asked refl refl i ++ wants_sent (node_env_of k s at) w.wants ++ [];
}
turn-is k s at before w (ending.Over last) turn = λ i. record (turn_by (node_env_of k s at) before w (ending.Over last, turn)) {
  messages = before ++ ask-same (node_env_of k s at) at w.asked refl refl i ++ wants_sent (node_env_of k s at) w.wants ++ ended_sent (node_env_of k s at) w.service.over (ending.Over last);
}

-- the endpoint is put back, and the rest follows: this is what the rules say
pub closes-is : (k : NodeSetting) (s : NodeState) (at : At) (was : Flags) (before : List (Place × List ℕ)) (b : ControlBlock) (w : Work) (given : Ending × Turn)
    → staying at.epoch.0 (get s.conns.rows at.c) ≡ Some b → (get s.kept at.c ≡ Some [] → ⊥) → (get s.fetches at.c ≡ Some [] → ⊥)
    → turn_closed (sat (node_lent s at.c) at.c given.0) at was before (work_rest w) (node_rested_in given.0) given.1 ≡ ends_with k s at was before w given
closes-is k s at was before b w given h kept fetches =
    let q : NodePart = kept_after (node_env_of k s at) (node_part s at.c) w given.0 in
    let t : NodeTurn = turn_by (node_env_of k s at) before w given in
    (λ i. told_at (left-is k s at b w given.0 h kept fetches i) at was (turn-is k s at before w given.0 given.1 i))
    ∙ ap (λ (p : NodePart). (stores_told (node_put s at.c q) t, out_at at was p t)) (part-put s at.c q)

-- ---- the connection goes back

-- a row that is out has the epoch of its stay
out-epoch : (m : Backs) (c e : ℕ) (o : Option BackRow) (b : ControlBlock) → staying e o ≡ Some b → stay_epoch (get (back_with_stage m c stage.Out o) c) ≡ e
out-epoch m c e None b h = let none : None ≡ Some b = h in absurd cc
out-epoch m c e (Some row) b h = ap stay_epoch (get_inserted m c (record row { stage = stage.Out })) ∙ row-epoch e row b h

-- the row is over, and how many responses were queued stands beside it
conns-given : (s : NodeState) (at : At) (b : ControlBlock) (served : ℕ) → staying at.epoch.0 (get s.conns.rows at.c) ≡ Some b
    → handed_back (node_lent s at.c).conns at.c served ≡ table_put s.conns at.c (Some (record { stage = stage.Ended; epoch = record { 0 = at.epoch.0 } })) (record (beside_in s.conns at.c) { returned = Some served })
conns-given s at b served h = λ i. record s.conns {
  rows = row-back s.conns.rows at.c at.epoch.0 (get s.conns.rows at.c) b stage.Ended h i;
  refused = sym (put_got s.conns.refused at.c) i;
  returned = insert s.conns.returned at.c served;
}

left-given : (k : NodeSetting) (s : NodeState) (at : At) (b : ControlBlock) (w : Work) → staying at.epoch.0 (get s.conns.rows at.c) ≡ Some b → (get s.kept at.c ≡ Some [] → ⊥) → (get s.fetches at.c ≡ Some [] → ⊥)
    → node_left (given_up (node_lent s at.c) at.c w.service.count) at (work_rest w) (rested.Back (give_kept (node_env_of k s at) w).bytes) ≡ node_put s at.c (kept_back (node_env_of k s at) (node_part s at.c) w)
left-given k s at b w h kept fetches =
    let env : NodeEnv = node_env_of k s at in
    (λ i. record s {
      conns = conns-given s at b w.service.count h i;
      stays = remove s.stays at.c;
      kept = kept-last env at w.asked s.kept (give_kept env w) refl refl kept i;
      fetches = fetches-none env at w.wants s.fetches refl refl fetches i;
    })

turn-given : (k : NodeSetting) (s : NodeState) (at : At) (w : Work)
    → turn_at at [] (work_rest w) (rested.Back (give_kept (node_env_of k s at) w).bytes) (silent_turn w.service) ≡ turn_back (node_env_of k s at) [] w
turn-given k s at w =
    let env : NodeEnv = node_env_of k s at in
    (λ i. record (turn_back env [] w) { messages = [] ++ ask-same env at w.asked refl refl i ++ wants_sent env w.wants ++ sent_of (give_kept env w) ∷ [] })

-- it is given up, and the rest follows: this is what the rules say
pub gives-is : (k : NodeSetting) (s : NodeState) (at : At) (was : Flags) (b : ControlBlock) (w : Work)
    → staying at.epoch.0 (get s.conns.rows at.c) ≡ Some b → (get s.kept at.c ≡ Some [] → ⊥) → (get s.fetches at.c ≡ Some [] → ⊥)
    → turn_closed (given_up (node_lent s at.c) at.c w.service.count) at was [] (work_rest w) (rested.Back (give_bytes (node_lent s at.c) at.c w.service)) (silent_turn w.service)
    ≡ deed_at s at was (gives_back (node_env_of k s at) (node_part s at.c) [] w)
gives-is k s at was b w h kept fetches =
    let q : NodePart = kept_back (node_env_of k s at) (node_part s at.c) w in
    let t : NodeTurn = turn_back (node_env_of k s at) [] w in
    let up : NodeState = given_up (node_lent s at.c) at.c w.service.count in
    ap (λ (e : ℕ). turn_closed up at was [] (work_rest w) (rested.Back (message at.c e (body.Give (parts_of w.service.block w.service.count)))) (silent_turn w.service))
    (out-epoch s.conns.rows at.c at.epoch.0 (get s.conns.rows at.c) b h)
    ∙ (λ i. told_at (left-given k s at b w h kept fetches i) at was (turn-given k s at w i))
    ∙ ap (λ (p : NodePart). (stores_told (node_put s at.c q) t, out_at at was p t)) (part-put s at.c q)
