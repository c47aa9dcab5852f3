-- The timers of a connection fire.
use Rattle.std.proofs.Common.{◌≡◌, ℕ, ◌==◌, List, Option, Some, None, Result, Ok, Err, IfOk, OnOk, refl, sym, ap, subst, ◌∙◌, arith}
use Rattle.std.proofs.lemmas.Bool.{cond-true, eq-eqb}
use Rattle.std.specs.FinMap.{get}
use Rattle.lard_back.specs.declared.hand.At.{At}
use Rattle.lard_back.specs.declared.hand.Rest.{Rest}
use Rattle.lard_back.specs.declared.timers.Flags.{Flags}
use Rattle.lard_back.specs.Bounds.{MayTellEnd}
use Rattle.lard_back.specs.Hand.{node_lent, work_rest, node_rested_in}
use Rattle.lard_back.specs.Place.{IsDone, IsGone, ends_with, node_env_of}
use Rattle.lard_back.specs.Sound.{EndsSound, IsNodeSound}
use Rattle.lard_back.specs.Timers.{timer_flags}
use Rattle.lard_back.proofs.Acted.{gone-ends, here-parts}
use Rattle.lard_back.proofs.Deeds.{at-node, ends-did}
use Rattle.lard_back.proofs.Turning.{spoken-sound, spoken-tells}
use Rattle.lard_base.specs.declared.errors.NoMemory.{NoMemory}
use Rattle.lard_base.specs.declared.place.Place.{Place}
use Rattle.lard_endpoint.specs.Control.{ControlBlock}
use Rattle.lard_endpoint.specs.Leaving.{after_timer, timed}
use Rattle.lard_handoff_back.specs.declared.row.BackRow.{BackRow}
use Rattle.lard_handoff_back.specs.Back.{back_endpoint, staying}
use Rattle.lard_handoff_back.specs.Row.{back_held}
use Rattle.lard_rules.specs.declared.node.NodeState.{NodeState}
use Rattle.lard_rules.specs.declared.stay.Stay.{Stay}
use Rattle.lard_rules.specs.Node.{again_sent, both_of, node_fired_by, here, node_timer, work_of}
use Rattle.lard_rules.specs.NodePlace.{NodeSetting, node_epoch_at, node_deed, node_env, node_part}
use Rattle.lard_rules.specs.Stay.{Work}
use Rattle.lard_rules.specs.declared.places.Out.{Out}
use Rattle.lard_rules.specs.declared.places.Ending.{Ending}
use Rattle.lard_rules.specs.declared.places.Turn.{Turn}
use Rattle.lard_rules.specs.Serving.{ServeEnv, serving_ready_of, spoken}
use Rattle.lard_serving.specs.Bounds.{IsTurn}
use Rattle.lard_stay.specs.Work.{IsStaySound}

-- ---- the endpoint in hand

-- the endpoint said what it may; nothing was read or asked for
pub spoken-is : (env : ServeEnv) (b : ControlBlock) (s : Stay) (before : List (Place × List ℕ)) (e : Ending) (turn : Turn) (rest : Rest) → IsStaySound b s → rest ≡ work_rest (work_of b s)
    → (e, turn) ≡ spoken env (work_of b s).service before → IsTurn turn → IsDone (work_of b s) (spoken env (work_of b s).service before) e (record { turn = turn; rest = rest })
spoken-is env b s before e turn rest sound left is fits =
    let w : Work = work_of b s in
    let ended : e ≡ (spoken env w.service before).0 = ap (λ (x : Ending × Turn). x.0) is in
    subst (λ (r : Rest). IsDone w (spoken env w.service before) e (record { turn = turn; rest = r })) (sym left) (record {
      rest = refl;
      turn = is;
      fits = fits;
      asked = tt;
      wants = tt;
      count = subst (λ (x : Ending). MayTellEnd (node_rested_in x) None) (sym ended) (spoken-tells env w.service before);
      jobs = omega arith;
      sound = subst (λ (x : Ending). EndsSound x w) (sym ended) (spoken-sound env w before (record { within = sound.within; few = sound.few; asks = sound.asks }));
    })

-- ---- the rule

-- the connection is here in the epoch of its row, where it is here at all
here-at : (s : NodeState) (c : ℕ) → here (node_epoch_at s c) (node_part s c) ≡ both_of (back_endpoint (get s.conns.rows c)) (get s.stays c)
here-at s c = ap (λ (o : Option ControlBlock). both_of o (get s.stays c)) (go (get s.conns.rows c)) where
  go : (o : Option BackRow) → staying (elim o [ None ↦ 0 | Some row ↦ row.epoch.0 ]) o ≡ back_endpoint o
  go None = refl
  go (Some row) = cond-true (row.epoch.0 == row.epoch.0) (back_held row.stage) None (eq-eqb row.epoch.0 row.epoch.0 refl)

-- what the timer of an endpoint comes to
abbrev fired_turn : ServeEnv → ControlBlock → Stay → Ending × Turn
fired_turn e b v = spoken e (work_of (after_timer b) v).service (serving_ready_of e (after_timer b) (timed b))

module _ (k : NodeSetting) (s : NodeState) (at : At) (of_row : at.epoch.0 ≡ node_epoch_at s at.c) where
  abbrev Timed : NodeState → Out → Type 0
  Timed n out = (n, out) ≡ node_deed k s at.c (node_timer (node_env k s at.c (node_epoch_at s at.c)) (node_part s at.c))

  found-at : (o : Option (ControlBlock × Stay)) → o ≡ here at.epoch.0 (node_part s at.c) → both_of (back_endpoint (get s.conns.rows at.c)) (get s.stays at.c) ≡ o
  found-at o h = sym (h ∙ ap (λ e. here e (node_part s at.c)) of_row ∙ here-at s at.c)

  -- its endpoint speaks, and all is put back
  abbrev At_end : At → Flags → ControlBlock → Stay → NodeState × Out
  At_end a was b v = ends_with k s a was (again_sent (node_part s at.c)) (work_of (after_timer b) v) (fired_turn (node_env_of k s a).serve b v)

  fired-does : (n : NodeState) (was : Flags) (b : ControlBlock) (v : Stay) (out : Out) → Some (b, v) ≡ here at.epoch.0 (node_part s at.c)
      → was ≡ timer_flags (node_part s at.c) → at.n ≡ k.n → (n, out) ≡ At_end at was b v → Timed n out
  fired-does n was b v out h flags node is =
      is ∙ (λ i. At_end (at-node k at node i) (flags i) b v)
      ∙ ends-did k s (record { n = k.n; c = at.c; epoch = at.epoch }) (timer_flags (node_part s at.c)) (again_sent (node_part s at.c)) (work_of (after_timer b) v)
      (fired_turn (node_env k s at.c at.epoch.0).serve b v) refl refl
      ∙ ap (λ (o : Option (ControlBlock × Stay)). node_deed k s at.c (node_fired_by (node_env k s at.c at.epoch.0) (node_part s at.c) o)) (sym (found-at (Some (b, v)) h))
      ∙ ap (λ e. node_deed k s at.c (node_timer (node_env k s at.c e) (node_part s at.c))) of_row

  module _ (n : NodeState) (was : Flags) {t : NodeState} {b : ControlBlock} {v : Stay} (found : Some (b, v) ≡ here at.epoch.0 (node_part s at.c)) (lends : t ≡ node_lent s at.c) (sound : IsNodeSound s) where
    abbrev Ends : NodeState → Out → Type 0
    Ends u out = IsGone u at was (again_sent (node_part u at.c)) (work_of (after_timer b) v) (fired_turn (node_env_of k u at).serve b v) n out

    both : (out : Out) → Ends t out → ((n, out) ≡ At_end at was b v) × IsNodeSound n
    both out gone =
        gone-ends k s at was (again_sent (node_part s at.c)) b (work_of (after_timer b) v) (fired_turn (node_env_of k s at).serve b v) n out
        (here-parts s at (b, v) (sym found)).0 sound (subst (λ (u : NodeState). Ends u out) lends gone)

    pub fired-by : (r : Result Out NoMemory) → was ≡ timer_flags (node_part s at.c) → at.n ≡ k.n → IfOk r (Ends t) → IfOk r (λ out. Timed n out)
    fired-by (Ok out) flags node gone = fired-does n was b v out found flags node (both out gone).0
    fired-by (Err e) flags node gone = tt

    pub fired-sound : (r : Result Out NoMemory) → IfOk r (Ends t) → OnOk r (IsNodeSound n)
    fired-sound (Ok out) gone = (both out gone).1
    fired-sound (Err e) gone = tt
