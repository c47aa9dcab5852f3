-- What was done to a connection in hand is what its rule says, and leaves the state sound.
use Rattle.std.proofs.Common.{◌≡◌, ℕ, ◌+◌, ◌-◌, ◌≤◌, ◌==◌, nat_lt, Bool, true, false, cond, List, [], length, Option, Some, None, Result, Ok, Err, IfOk, refl, sym, ap, subst, ◌∙◌, arith, inl, inr}
use Rattle.std.proofs.lemmas.Bool.{cases_eq}
use Rattle.std.specs.FinMap.{FinMap, get}
use Rattle.std.specs.FinMap as table
use Rattle.std.specs.Ordering.{nat_cmp}
use Rattle.lard_back.specs.declared.hand.At.{At}
use Rattle.lard_back.specs.declared.timers.Flags.{Flags}
use Rattle.lard_back.specs.Hand.{HeldMessages, node_lent}
use Rattle.lard_back.specs.Place.{HasTurned, IsActed, IsBack, IsGone, acted, deed_at, ends_with, node_env_of}
use Rattle.lard_back.specs.Sound.{EndsSound, IsAtRest, IsNodeSound, IsStaying, NoneEmpty}
use Rattle.lard_back.proofs.Keeping.{Gains, segment-gains}
use Rattle.lard_back.proofs.Putting.{closes-is, gives-is}
use Rattle.lard_base.specs.declared.errors.NoMemory.{NoMemory}
use Rattle.lard_base.specs.declared.place.Place.{Place}
use Rattle.lard_endpoint.specs.Arriving.{on_segment}
use Rattle.lard_endpoint.specs.Control.{ControlBlock}
use Rattle.lard_handoff_back.specs.declared.row.BackConn.{BackConn}
use Rattle.lard_handoff_back.specs.declared.row.BackRow.{BackRow}
use Rattle.lard_handoff_back.specs.declared.row.BackConn.TheVariants as stage
use Rattle.lard_handoff_back.specs.Back.{staying}
use Rattle.lard_handoff_back.specs.Row.{back_held}
use Rattle.lard_handoff_back.specs.Table.{Table, table_begun}
use Rattle.lard_rules.specs.declared.node.NodeState.{NodeState}
use Rattle.lard_rules.specs.declared.node.NodeTurn.{NodeTurn}
use Rattle.lard_rules.specs.declared.stay.Stay.{Stay}
use Rattle.lard_rules.specs.Node.{Does, NodePart, both_of, gives_back, here, kept_after, kept_back, may_give_back, turn_back, turn_by, with_work}
use Rattle.lard_rules.specs.NodePlace.{NodeSetting, node_part, node_put, stores_told}
use Rattle.lard_rules.specs.declared.stay.Progress.{Progress}
use Rattle.lard_rules.specs.Stay.{NodeEnv, Work, came_for, come_on}
use Rattle.lard_resend.proofs.Lists.{found_other, some_put}
use Rattle.lard_resend.specs.Pending.{put_list}
use Rattle.lard_resend.specs.declared.kept.Kept.{Kept}
use Rattle.lard_rules.specs.declared.places.Out.{Out}
use Rattle.lard_rules.specs.declared.places.Ending.{Ending}
use Rattle.lard_rules.specs.declared.places.Ending.TheVariants as ending
use Rattle.lard_rules.specs.declared.places.Turn.{Turn}
use Rattle.lard_rules.specs.Serving.{serving_settled}
use Rattle.lard_rules.proofs.Totals.{segment-many}
use Rattle.lard_segment.specs.Segment.{Said}
use Rattle.lard_stay.specs.declared.work.Work.{Work as InHand}
use Rattle.lard_stay.specs.Work.{IsInHandSound, IsStaySound, work_seen}
use Rattle.lard_table.proofs.Map.{get_put_same, get_put_other}

-- ---- a sound state

pub empty-put : (m : HeldMessages) (c : ℕ) (ks : List Kept) → NoneEmpty m → NoneEmpty (put_list m c ks)
empty-put m c ks all q h = elim (cases_eq q c) [
  | inl e ↦ some_put m c ks (subst (λ n. get (put_list m c ks) n ≡ Some []) e h)
  | inr n ↦ all q (sym (found_other m c q ks n) ∙ h)
]

pub put-sound : (s : NodeState) (c : ℕ) (q : NodePart) → IsAtRest q.row q.stay → IsNodeSound s → IsNodeSound (node_put s c q)
put-sound s c q rest sound = record {
  stays = λ p. elim (cases_eq p c) [
    | inl e ↦ subst (λ n. IsAtRest (get (node_put s c q).conns.rows n) (get (node_put s c q).stays n)) (sym e)
        (subst (λ row. IsAtRest row (get (node_put s c q).stays c)) (sym (get_put_same s.conns.rows c q.row)) (subst (IsAtRest q.row) (sym (get_put_same s.stays c q.stay)) rest))
    | inr n ↦ subst (λ row. IsAtRest row (get (node_put s c q).stays p)) (sym (get_put_other s.conns.rows c p q.row n)) (subst (IsAtRest (get s.conns.rows p)) (sym (get_put_other s.stays c p q.stay n)) (sound.stays p))
  ];
  kept = empty-put s.kept c q.kept sound.kept;
  fetches = empty-put s.fetches c q.fetches sound.fetches;
}

pub told-sound : (s : NodeState) (t : NodeTurn) → IsNodeSound s → IsNodeSound (stores_told s t)
told-sound s t sound = record { stays = sound.stays; kept = sound.kept; fetches = sound.fetches }

pub ends-rest : (env : NodeEnv) (p : NodePart) (w : Work) (e : Ending) → EndsSound e w → IsAtRest (kept_after env p w e).row (kept_after env p w e).stay
ends-rest env p w (ending.Here b count) s = s
ends-rest env p w (ending.Over last) s = tt

-- ---- what was in hand

both-parts : (o : Option ControlBlock) (p : Option Stay) (x : ControlBlock × Stay) → both_of o p ≡ Some x → (o ≡ Some x.0) × (p ≡ Some x.1)
both-parts None p x h = let none : None ≡ Some x = h in absurd cc
both-parts (Some b) None x h = let none : None ≡ Some x = h in absurd cc
both-parts (Some b) (Some s) x h = let same : (b, s) ≡ x = cc in (ap (λ (y : ControlBlock × Stay). Some y.0) same, ap (λ (y : ControlBlock × Stay). Some y.1) same)

pub here-parts : (s : NodeState) (at : At) (x : ControlBlock × Stay) → here at.epoch.0 (node_part s at.c) ≡ Some x
    → (staying at.epoch.0 (get s.conns.rows at.c) ≡ Some x.0) × (get s.stays at.c ≡ Some x.1)
here-parts s at x h = both-parts (staying at.epoch.0 (get s.conns.rows at.c)) (get s.stays at.c) x h

-- what is kept of it is at rest
did-sound : (s : NodeState) (at : At) (was : Flags) (q : NodePart) (t : NodeTurn) (n : NodeState) (out : Out) → IsAtRest q.row q.stay → IsNodeSound s → (n, out) ≡ deed_at s at was (Does (q, t)) → IsNodeSound n
did-sound s at was q t n out rest sound is = subst IsNodeSound (ap (λ (x : NodeState × Out). x.0) (sym is)) (told-sound (node_put s at.c q) t (put-sound s at.c q rest sound))

-- all of it is put back: this is what the rules say, and the state is sound
pub gone-ends : (k : NodeSetting) (s : NodeState) (at : At) (was : Flags) (before : List (Place × List ℕ)) (b : ControlBlock) (w : Work) (given : Ending × Turn) (n : NodeState) (out : Out)
    → staying at.epoch.0 (get s.conns.rows at.c) ≡ Some b → IsNodeSound s → IsGone (node_lent s at.c) at was before w given n out
    → ((n, out) ≡ ends_with k s at was before w given) × IsNodeSound n
gone-ends k s at was before b w given n out staying sound gone =
    let env : NodeEnv = node_env_of k s at in
    let is : (n, out) ≡ ends_with k s at was before w given = gone.closes ∙ closes-is k s at was before b w given staying (sound.kept at.c) (sound.fetches at.c) in
    (is, did-sound s at was (kept_after env (node_part s at.c) w given.0) (turn_by env before w given) n out (ends-rest env (node_part s at.c) w given.0 gone.sound) sound is)

-- the connection went back
back-ends : (k : NodeSetting) (s : NodeState) (at : At) (was : Flags) (b : ControlBlock) (w : Work) (n : NodeState) (out : Out)
    → staying at.epoch.0 (get s.conns.rows at.c) ≡ Some b → IsNodeSound s → IsBack (node_lent s at.c) at was w n out
    → ((n, out) ≡ deed_at s at was (gives_back (node_env_of k s at) (node_part s at.c) [] w)) × IsNodeSound n
back-ends k s at was b w n out staying sound back =
    let env : NodeEnv = node_env_of k s at in
    let is : (n, out) ≡ deed_at s at was (gives_back env (node_part s at.c) [] w) = back ∙ gives-is k s at was b w staying (sound.kept at.c) (sound.fetches at.c) in
    (is, did-sound s at was (kept_back env (node_part s at.c) w) (turn_back env [] w) n out tt sound is)

turned-ends : (k : NodeSetting) (s : NodeState) (at : At) (was : Flags) (b : ControlBlock) (w : Work) (n : NodeState) (out : Out) (back : Bool)
    → staying at.epoch.0 (get s.conns.rows at.c) ≡ Some b → IsNodeSound s → HasTurned back (node_env_of k s at).serve (node_lent s at.c) at was w n out
    → (let env = node_env_of k s at in let p = node_part s at.c in (n, out) ≡ deed_at s at was (cond back (gives_back env p [] w) (with_work env p [] w))) × IsNodeSound n
turned-ends k s at was b w n out true staying sound turned = back-ends k s at was b w n out staying sound turned
turned-ends k s at was b w n out false staying sound turned = gone-ends k s at was [] b w (serving_settled (node_env_of k s at).serve w.service) n out staying sound turned

-- ---- a stay that is found is sound

pub stay-sound : (s : NodeState) (at : At) (b : ControlBlock) (v : Stay) → here at.epoch.0 (node_part s at.c) ≡ Some (b, v) → IsNodeSound s → IsStaySound b v
stay-sound s at b v found sound =
    let parts = here-parts s at (b, v) found in
    go (get s.conns.rows at.c) parts.0 (subst (IsAtRest (get s.conns.rows at.c)) parts.1 (sound.stays at.c)) where
      in-stage : (stage : BackConn) → back_held stage ≡ Some b → IsStaying stage (Some v) → IsStaySound b v
      in-stage (stage.Here d) e h = let same : d ≡ b = cc in subst (λ d. IsStaySound d v) same h
      in-stage stage.Out e h = absurd h
      in-stage stage.Ended e h = absurd h
      in-stage stage.Gone e h = absurd h

      go : (o : Option BackRow) → staying at.epoch.0 o ≡ Some b → IsAtRest o (Some v) → IsStaySound b v
      go None e h = absurd h
      go (Some row) e h = in-stage row.stage (held-row (row.epoch.0 == at.epoch.0) e) h where
        held-row : (t : Bool) → cond t (back_held row.stage) None ≡ Some b → back_held row.stage ≡ Some b
        held-row true e = e
        held-row false e = let none : None ≡ Some b = e in absurd cc

-- ---- in the code

-- a turn of it is over, whose state was this one without the connection
abbrev Turned : NodeSetting → At → Flags → (NodeEnv → ControlBlock × Stay → Work) → ControlBlock × Stay → NodeState → Out → NodeState → Type 0
Turned k at was f x n out u = HasTurned (may_give_back (node_env_of k u at) (f (node_env_of k u at) x)) (node_env_of k u at).serve u at was (f (node_env_of k u at) x) n out

pub acted-by : (k : NodeSetting) (s t : NodeState) (at : At) (was : Flags) (f : NodeEnv → ControlBlock × Stay → Work) (x : ControlBlock × Stay) (w : Work) (n : NodeState) (r : Result Out NoMemory)
    → Some x ≡ here at.epoch.0 (node_part s at.c) → t ≡ node_lent s at.c → w ≡ f (node_env_of k t at) x → IsNodeSound s
    → IfOk r (λ out. HasTurned (may_give_back (node_env_of k t at) w) (node_env_of k t at).serve t at was w n out) → IfOk r (λ out. IsActed k s at was f n out)
acted-by k s t at was f x w n (Ok out) found lends is sound turned =
    let env : NodeEnv = node_env_of k s at in
    let g : Turned k at was f x n out t = subst (λ (u : Work). HasTurned (may_give_back (node_env_of k t at) u) (node_env_of k t at).serve t at was u n out) is turned in
    let h : Turned k at was f x n out (node_lent s at.c) = subst (Turned k at was f x n out) lends g in
    let all = turned-ends k s at was x.0 (f env x) n out (may_give_back env (f env x)) (here-parts s at x (sym found)).0 sound h in
    record { does = all.0 ∙ ap (acted k s at was f) found; sound = all.1 }
acted-by k s t at was f x w n (Err e) found lends is sound turned = tt

-- a segment was taken
pub heard-sound : (b d : ControlBlock) (s : Said) (w : InHand) → d ≡ (on_segment b s).1 → IsInHandSound b w → IsInHandSound d w
heard-sound b d s w e sound =
    let gains : Gains b.recv d.recv = subst (λ (c : ControlBlock). Gains b.recv c.recv) (sym e) (segment-gains b s) in
    let many : d.send.total ≡ b.send.total = ap (λ (c : ControlBlock). c.send.total) e ∙ segment-many b s in
    record {
      counted = record { responses = omega (arith, gains, sound.within); bytes = omega (arith, many, sound.counted.bytes) };
      within = omega (arith, gains, sound.within);
      few = sound.few;
      asks = sound.asks;
      asked = sound.asked;
      wants = sound.wants;
    }

-- what came adds no job
came-jobs : (f : Progress → Progress) (r : ℕ) (w : Work) → (came_for f r w).jobs ≡ w.jobs
came-jobs f r w = go (nat_lt w.service.count r) where
  go : (t : Bool) → (cond t (record w { batch = come_on f (r - (w.service.count + 1)) w.batch }) w).jobs ≡ w.jobs
  go true = refl
  go false = refl

pub came-few : (f : Progress → Progress) (r : ℕ) (b : ControlBlock) (v w : InHand) → work_seen b w ≡ came_for f r (work_seen b v) → v.jobs ≡ [] → length w.jobs ≤ 8
came-few f r b v w e none =
    let no : w.jobs ≡ [] = ap (λ (u : Work). u.jobs) e ∙ came-jobs f r (work_seen b v) ∙ none in
    let len : length w.jobs ≡ 0 = ap length no in
    omega (arith, len)

-- ---- a state with nothing in it

none-empty : (m : HeldMessages) → m ≡ table.empty → NoneEmpty m
none-empty m e c h = let none : None ≡ Some [] = sym (table.get-empty nat_cmp c) ∙ ap (λ (l : HeldMessages). get l c) (sym e) ∙ h in absurd cc

none-found : {V : Type 0} (m : FinMap nat_cmp V) (c : ℕ) → m ≡ table.empty → get m c ≡ None
none-found m c e = ap (λ l. get l c) e ∙ table.get-empty nat_cmp c

pub none_sound : (s : NodeState) → s.conns ≡ table_begun → s.stays ≡ table.empty → s.kept ≡ table.empty → s.fetches ≡ table.empty → IsNodeSound s
none_sound s conns stays kept fetches = record {
  stays = λ c. subst (λ row. IsAtRest row (get s.stays c)) (sym (none-found s.conns.rows c (ap (λ (t : Table). t.rows) conns))) (subst (IsAtRest None) (sym (none-found s.stays c stays)) tt);
  kept = none-empty s.kept kept;
  fetches = none-empty s.fetches fetches;
}
