-- What was done to a connection is the deed of its rule.
use Rattle.std.proofs.Common.{◌≡◌, ℕ, Bool, true, false, cond, List, [], ◌++◌, append_assoc, append-nil, Option, Some, None, is_some, Result, Ok, IfOk, refl, sym, ap, subst, ◌∙◌}
use Rattle.std.proofs.lemmas.Bool.{cond-true}
use Rattle.std.proofs.lemmas.Result.{IfOk-weaker}
use Rattle.lard_back.specs.declared.hand.At.{At}
use Rattle.lard_back.specs.declared.timers.Flags.{Flags}
use Rattle.lard_back.specs.Place.{IsActed, acted, deed_at, ends_with, out_at, told_at}
use Rattle.lard_back.specs.Awaiting.{awaits}
use Rattle.lard_back.specs.Hand.{HeldMessages}
use Rattle.lard_back.specs.Sound.{IsNodeSound, NoneEmpty}
use Rattle.lard_back.proofs.Acted.{empty-put}
use Rattle.lard_back.proofs.Putting.{part-put}
use Rattle.lard_back.specs.Timers.{flag_changes, timer_flags}
use Rattle.lard_base.specs.declared.errors.NoMemory.{NoMemory}
use Rattle.lard_base.specs.declared.place.Place.{Place}
use Rattle.lard_base.specs.declared.place.Place.TheVariants.{Node}
use Rattle.lard_base.specs.declared.place.TimerKind.{TimerKind}
use Rattle.lard_base.specs.declared.place.TimerKind.TheVariants.{Tcp, Ask, Fetch, Ended, Give}
use Rattle.lard_endpoint.specs.Arriving.{on_segment}
use Rattle.lard_endpoint.specs.Control.{ControlBlock}
use Rattle.lard_handoff_back.specs.Table.{table_put}
use Rattle.lard_journal.specs.declared.rec.Rec.{Rec}
use Rattle.lard_lateral.specs.Lateral.{after_content}
use Rattle.lard_lateral.specs.Lateral as lateral
use Rattle.lard_rules.specs.declared.node.NodeState.{NodeState}
use Rattle.lard_rules.specs.declared.stay.Progress.{Progress}
use Rattle.lard_rules.specs.declared.stay.Stay.{Stay}
use Rattle.lard_rules.specs.declared.node.NodeTurn.{NodeTurn}
use Rattle.lard_rules.specs.Node.{Does, Drops, NodeDeed, NodePart, Says, come_by, gives_back, node_heard_by, here, is_tag_awaited, kept_after, kept_back, may_give_back, node_armed, node_content, node_forwarded, node_read, node_tagged, node_read_by, node_rests, node_turns, tagged_by, turn_back, turn_by, with_work, work_of}
use Rattle.lard_rules.specs.NodePlace.{NodeSetting, node_deed, node_did, node_env, node_out, node_part, node_put, node_timers, stores_told}
use Rattle.lard_rules.specs.Stay.{NodeEnv, Work, came_for, come_progress, goes_on, read_progress, tagged}
use Rattle.lard_resend.specs.declared.kept.Kept.{Kept}
use Rattle.lard_resend.specs.Kept.{without}
use Rattle.lard_resend.specs.Pending.{held, put_list, pending_settled}
use Rattle.lard_resend.proofs.Lists.{list_got, list_twice}
use Rattle.lard_resend.proofs.Renewed.{held_settled, settled_is}
use Rattle.lard_rules.specs.declared.places.Out.{Out}
use Rattle.lard_rules.specs.declared.places.Ending.{Ending}
use Rattle.lard_rules.specs.declared.places.Turn.{Turn}
use Rattle.lard_table.specs.Table.{put_or}
use Rattle.lard_rules.specs.Outs.{kind_change}
use Rattle.lard_segment.specs.declared.fault.SegFault.{SegFault}
use Rattle.lard_segment.specs.Segment.{Said}

in_order : (a b c d e : List Rec) → a ++ b ++ c ++ d ++ e ≡ a ++ (b ++ (c ++ (d ++ (e ++ []))))
in_order a b c d e =
    append_assoc (a ++ b ++ c) d e ∙ append_assoc (a ++ b) c (d ++ e) ∙ append_assoc a b (c ++ (d ++ e)) ∙ ap (λ (l : List Rec). a ++ (b ++ (c ++ (d ++ l)))) (sym (append-nil e))

-- the records of the timers, kind by kind
pub changes-are : (n c : ℕ) (p q : NodePart) → flag_changes n c (timer_flags p) (timer_flags q) ≡ node_timers n c p q
changes-are n c p q = in_order (of Tcp) (of Ask) (of Fetch) (of Ended) (of Give) where
  of : TimerKind → List Rec
  of kind = kind_change (Node n) c kind (node_armed p kind) (node_armed q kind)

abbrev here_at : NodeSetting → At → At
here_at k at = record { n = k.n; c = at.c; epoch = at.epoch }

-- what a rule gave is told
did-is : (k : NodeSetting) (s : NodeState) (at : At) (d : NodeDeed) → deed_at s (here_at k at) (timer_flags (node_part s at.c)) d ≡ node_deed k s at.c d
did-is k s at Drops = refl
did-is k s at (Says messages) = refl
did-is k s at (Does given) = λ i. (stores_told (node_put s at.c given.0) given.1, record (node_out k.n at.c (node_part s at.c) given.0 given.1) { timers = changes-are k.n at.c (node_part s at.c) given.0 i })

-- what each of the rules does with the endpoint and its stay
abbrev hears : Said → NodeEnv → ControlBlock × Stay → Work
hears m env x = goes_on env (work_of (on_segment x.0 m).1 x.1)

abbrev tags : List ℕ → NodeEnv → ControlBlock × Stay → Work
tags nodes env x = goes_on env (tagged env nodes (work_of x.0 x.1))

abbrev comes : (Progress → Progress) → ℕ → NodeEnv → ControlBlock × Stay → Work
comes f r env x = goes_on env (came_for f r (work_of x.0 x.1))

heard-here : (k : NodeSetting) (s : NodeState) (at : At) (m : Said) (o : Option (ControlBlock × Stay))
    → acted k s (here_at k at) (timer_flags (node_part s at.c)) (hears m) o
    ≡ node_deed k s at.c (node_heard_by (node_env k s at.c at.epoch.0) (node_part s at.c) (Ok m) o)
heard-here k s at m None = refl
heard-here k s at m (Some x) =
    let env : NodeEnv = node_env k s at.c at.epoch.0 in
    did-is k s at (node_turns env (node_part s at.c) [] (hears m env x))

pub at-node : (k : NodeSetting) (at : At) → at.n ≡ k.n → at ≡ here_at k at
at-node k at e = λ i. record at { n = e i }

-- what is kept of the connection is put back, and its turn told
pub told-did : (k : NodeSetting) (s t : NodeState) (at : At) (was : Flags) (q : NodePart) (turn : NodeTurn) → t ≡ node_put s at.c q → was ≡ timer_flags (node_part s at.c) → at.n ≡ k.n
    → told_at t at was turn ≡ node_did k s at.c (q, turn)
told-did k s t at was q turn is flags node =
    (λ i. told_at (is i) at (flags i) turn)
    ∙ (λ i. (stores_told (node_put s at.c q) turn, out_at (at-node k at node i) (timer_flags (node_part s at.c)) (part-put s at.c q i) turn))
    ∙ did-is k s at (Does (q, turn))

-- all that was in hand is put back, wherever its turn ended
pub ends-did : (k : NodeSetting) (s : NodeState) (at : At) (was : Flags) (before : List (Place × List ℕ)) (w : Work) (given : Ending × Turn) → was ≡ timer_flags (node_part s at.c) → at.n ≡ k.n
    → ends_with k s at was before w given
    ≡ node_did k s at.c (kept_after (node_env k s at.c at.epoch.0) (node_part s at.c) w given.0, turn_by (node_env k s at.c at.epoch.0) before w given)
ends-did k s at was before w given flags node =
    let env : NodeEnv = node_env k s at.c at.epoch.0 in
    (λ i. ends_with k s (at-node k at node i) (flags i) before w given)
    ∙ did-is k s at (Does (kept_after env (node_part s at.c) w given.0, turn_by env before w given))

-- what was done to a connection, once what awaited an answer was dropped
acted-by : (k : NodeSetting) (s : NodeState) (at : At) (f : NodeEnv → ControlBlock × Stay → Work) (u n : NodeState) {t : NodeState} {was : Flags} {y : NodeState × Out}
    (r : Result Out NoMemory) → IfOk r (λ out. IsActed k t at was f n out) → t ≡ u → was ≡ timer_flags (node_part s at.c) → at.n ≡ k.n
    → acted k u (here_at k at) (timer_flags (node_part s at.c)) f (here at.epoch.0 (node_part u at.c)) ≡ y → IfOk r (λ out. (n, out) ≡ y)
acted-by k s at f u n {t = t} {was = was} {y = y} r done dropped flags node is =
    IfOk-weaker r (λ out. IsActed k t at was f n out) (λ out. (n, out) ≡ y)
    (λ out a. a.does ∙ (λ i. acted k (dropped i) (at-node k at node i) (flags i) f (here at.epoch.0 (node_part (dropped i) at.c))) ∙ is) done

-- a segment that decodes comes to the connection
pub forward-by : (k : NodeSetting) (s : NodeState) (at : At) (m : Said) (n : NodeState) {was : Flags} {d : Result Said SegFault} (r : Result Out NoMemory)
    → IfOk r (λ out. IsActed k s at was (hears m) n out) → was ≡ timer_flags (node_part s at.c) → at.n ≡ k.n → d ≡ Ok m
    → IfOk r (λ out. (n, out) ≡ node_deed k s at.c (node_forwarded (node_env k s at.c at.epoch.0) (node_part s at.c) d))
forward-by k s at m n r done flags node is =
    acted-by k s at (hears m) s n r done refl flags node (heard-here k s at m (here at.epoch.0 (node_part s at.c))
    ∙ ap (λ (e : Result Said SegFault). node_deed k s at.c (node_forwarded (node_env k s at.c at.epoch.0) (node_part s at.c) e)) (sym is))

-- ---- a message that awaited its answer is dropped before the rule

-- what else is put back is the same
put-over : (s t : NodeState) (c : ℕ) (ks fs : List Kept) (q : NodePart) → t.conns ≡ s.conns → t.stays ≡ s.stays → t.cache ≡ s.cache → t.disk ≡ s.disk
    → t.kept ≡ put_list s.kept c ks → t.fetches ≡ put_list s.fetches c fs → node_put t c q ≡ node_put s c q
put-over s t c ks fs q conns stays cache disk kept fetches = λ i. record {
  conns = table_put (conns i) c q.row q.beside;
  stays = put_or (stays i) c q.stay;
  kept = (ap (λ (m : HeldMessages). put_list m c q.kept) kept ∙ list_twice s.kept c ks q.kept) i;
  fetches = (ap (λ (m : HeldMessages). put_list m c q.fetches) fetches ∙ list_twice s.fetches c fs q.fetches) i;
  cache = cache i;
  disk = disk i;
}

-- the turn of a connection of which something that is held was dropped
module _ (k : NodeSetting) (s t : NodeState) (at : At) (ks fs : List Kept) (conns : t.conns ≡ s.conns) (stays : t.stays ≡ s.stays) (cache : t.cache ≡ s.cache) (disk : t.disk ≡ s.disk)
    (kept : t.kept ≡ put_list s.kept at.c ks) (fetches : t.fetches ≡ put_list s.fetches at.c fs) where
  over-did : (given : NodePart × NodeTurn) → deed_at t (here_at k at) (timer_flags (node_part s at.c)) (Does given) ≡ node_deed k s at.c (Does given)
  over-did given =
      (λ i. (stores_told (put-over s t at.c ks fs given.0 conns stays cache disk kept fetches i) given.1, out_at (here_at k at) (timer_flags (node_part s at.c)) given.0 given.1))
      ∙ did-is k s at (Does given)

  turns-over : (env : NodeEnv) (p : NodePart) (w : Work) → deed_at t (here_at k at) (timer_flags (node_part s at.c)) (node_turns env p [] w) ≡ node_deed k s at.c (node_turns env p [] w)
  turns-over env p w = go (may_give_back env w) where
    go : (back : Bool) → deed_at t (here_at k at) (timer_flags (node_part s at.c)) (cond back (gives_back env p [] w) (with_work env p [] w)) ≡ node_deed k s at.c (cond back (gives_back env p [] w) (with_work env p [] w))
    go true = over-did (kept_back env p w, turn_back env [] w)
    go false = over-did (node_rests env p [] w)

-- the Ask of a connection is dropped
abbrev unasked : NodeState → ℕ → NodeState
unasked s c = record s { kept = pending_settled s.kept c Ask 0 }

pub unasked-sound : (s : NodeState) (c : ℕ) → IsNodeSound s → IsNodeSound (unasked s c)
unasked-sound s c sound = record {
  stays = sound.stays;
  kept = subst NoneEmpty (sym (settled_is s.kept c Ask 0 (sound.kept c))) (empty-put s.kept c (without Ask 0 (held s.kept c)) sound.kept);
  fetches = sound.fetches;
}

abbrev unasked-part : NodePart → NodePart
unasked-part p = record p { kept = without Ask 0 p.kept }

-- the turn of a connection whose Ask was dropped
unasked-did : (k : NodeSetting) (s : NodeState) (at : At) (w : Work) → IsNodeSound s → (let env = node_env k s at.c at.epoch.0 in
    deed_at (unasked s at.c) (here_at k at) (timer_flags (node_part s at.c)) (node_turns env (node_part (unasked s at.c) at.c) [] w) ≡ node_deed k s at.c (node_turns env (unasked-part (node_part s at.c)) [] w))
unasked-did k s at w sound =
    let env : NodeEnv = node_env k s at.c at.epoch.0 in
    let same : node_part (unasked s at.c) at.c ≡ unasked-part (node_part s at.c) = λ i. record (node_part s at.c) { kept = held_settled s.kept at.c Ask 0 i } in
    ap (λ (p : NodePart). deed_at (unasked s at.c) (here_at k at) (timer_flags (node_part s at.c)) (node_turns env p [] w)) same
    ∙ turns-over k s (unasked s at.c) at (without Ask 0 (held s.kept at.c)) (held s.fetches at.c) refl refl refl refl (settled_is s.kept at.c Ask 0 (sound.kept at.c)) (sym (list_got s.fetches at.c (sound.fetches at.c)))
    env (unasked-part (node_part s at.c)) w

tagged-here : (k : NodeSetting) (s : NodeState) (at : At) (number : ℕ) (nodes : List ℕ) (o : Option (ControlBlock × Stay)) → IsNodeSound s → awaits k s at number nodes o ≡ true
    → acted k (unasked s at.c) (here_at k at) (timer_flags (node_part s at.c)) (tags nodes) o
    ≡ node_deed k s at.c (tagged_by (node_env k s at.c at.epoch.0) number nodes (node_part s at.c) o)
tagged-here k s at number nodes None sound h = absurd cc
tagged-here k s at number nodes (Some x) sound h =
    let env : NodeEnv = node_env k s at.c at.epoch.0 in
    let w : Work = tags nodes env x in
    unasked-did k s at w sound
    ∙ ap (node_deed k s at.c) (sym (cond-true (is_tag_awaited env number nodes (node_part s at.c) x.1) (node_turns env (unasked-part (node_part s at.c)) [] w) Drops h))

pub tag-by : (k : NodeSetting) (s : NodeState) (at : At) (number : ℕ) (nodes : List ℕ) (n : NodeState) {t : NodeState} {was : Flags} (r : Result Out NoMemory)
    → IfOk r (λ out. IsActed k t at was (tags nodes) n out) → t ≡ unasked s at.c → was ≡ timer_flags (node_part s at.c) → at.n ≡ k.n → IsNodeSound s
    → awaits k s at number nodes (here at.epoch.0 (node_part s at.c)) ≡ true
    → IfOk r (λ out. (n, out) ≡ node_deed k s at.c (node_tagged (node_env k s at.c at.epoch.0) (node_part s at.c) number nodes))
tag-by k s at number nodes n r done dropped flags node sound h =
    acted-by k s at (tags nodes) (unasked s at.c) n r done dropped flags node (tagged-here k s at number nodes (here at.epoch.0 (node_part s at.c)) sound h)

-- ---- a content comes

-- a Fetch of a connection is dropped
abbrev unfetched : NodeState → ℕ → ℕ → NodeState
unfetched s c r = record s { fetches = pending_settled s.fetches c Fetch r }

pub unfetched-sound : (s : NodeState) (c r : ℕ) → IsNodeSound s → IsNodeSound (unfetched s c r)
unfetched-sound s c r sound = record {
  stays = sound.stays;
  kept = sound.kept;
  fetches = subst NoneEmpty (sym (settled_is s.fetches c Fetch r (sound.fetches c))) (empty-put s.fetches c (without Fetch r (held s.fetches c)) sound.fetches);
}

abbrev unfetched-part : ℕ → NodePart → NodePart
unfetched-part r p = record p { fetches = without Fetch r p.fetches }

-- the turn of a connection a Fetch of which was dropped
unfetched-did : (k : NodeSetting) (s : NodeState) (at : At) (r : ℕ) (w : Work) → IsNodeSound s → (let env = node_env k s at.c at.epoch.0 in
    deed_at (unfetched s at.c r) (here_at k at) (timer_flags (node_part s at.c)) (node_turns env (node_part (unfetched s at.c r) at.c) [] w) ≡ node_deed k s at.c (node_turns env (unfetched-part r (node_part s at.c)) [] w))
unfetched-did k s at r w sound =
    let env : NodeEnv = node_env k s at.c at.epoch.0 in
    let same : node_part (unfetched s at.c r) at.c ≡ unfetched-part r (node_part s at.c) = λ i. record (node_part s at.c) { fetches = held_settled s.fetches at.c Fetch r i } in
    ap (λ (p : NodePart). deed_at (unfetched s at.c r) (here_at k at) (timer_flags (node_part s at.c)) (node_turns env p [] w)) same
    ∙ turns-over k s (unfetched s at.c r) at (held s.kept at.c) (without Fetch r (held s.fetches at.c)) refl refl refl refl (sym (list_got s.kept at.c (sound.kept at.c))) (settled_is s.fetches at.c Fetch r (sound.fetches at.c))
    env (unfetched-part r (node_part s at.c)) w

come-here : (k : NodeSetting) (s : NodeState) (at : At) (from r : ℕ) (o : Option (ControlBlock × Stay)) → IsNodeSound s → is_some o ≡ true → lateral.is_awaited s.fetches from at.c at.epoch.0 r ≡ true
    → acted k (unfetched s at.c r) (here_at k at) (timer_flags (node_part s at.c)) (comes (come_progress from) r) o
    ≡ node_deed k s at.c (come_by (node_env k s at.c at.epoch.0) from r (node_part s at.c) o)
come-here k s at from r None sound there h = absurd cc
come-here k s at from r (Some x) sound there h =
    let env : NodeEnv = node_env k s at.c at.epoch.0 in
    let w : Work = comes (come_progress from) r env x in
    unfetched-did k s at r w sound
    ∙ ap (node_deed k s at.c) (sym (cond-true (lateral.is_awaited s.fetches from at.c at.epoch.0 r) (node_turns env (unfetched-part r (node_part s at.c)) [] w) Drops h))

-- the Fetch that awaited it is dropped
fetch-gone : (s : NodeState) (c from epoch r : ℕ) {t : NodeState} → t ≡ record s { fetches = after_content s.fetches from c epoch r } → lateral.is_awaited s.fetches from c epoch r ≡ true
    → t ≡ unfetched s c r
fetch-gone s c from epoch r is h =
    is ∙ ap (λ (m : HeldMessages). record s { fetches = m }) (cond-true (lateral.is_awaited s.fetches from c epoch r) (pending_settled s.fetches c Fetch r) s.fetches h)

pub come-by : (k : NodeSetting) (s : NodeState) (at : At) (from r : ℕ) (n : NodeState) {t : NodeState} {was : Flags} (done : Result Out NoMemory)
    → IfOk done (λ out. IsActed k t at was (comes (come_progress from) r) n out) → t ≡ record s { fetches = after_content s.fetches from at.c at.epoch.0 r }
    → was ≡ timer_flags (node_part s at.c) → at.n ≡ k.n → IsNodeSound s → is_some (here at.epoch.0 (node_part s at.c)) ≡ true → lateral.is_awaited s.fetches from at.c at.epoch.0 r ≡ true
    → IfOk done (λ out. (n, out) ≡ node_deed k s at.c (node_content (node_env k s at.c at.epoch.0) (node_part s at.c) from r))
come-by k s at from r n done acts dropped flags node sound there h =
    acted-by k s at (comes (come_progress from) r) (unfetched s at.c r) n done acts (fetch-gone s at.c from at.epoch.0 r dropped h) flags node
    (come-here k s at from r (here at.epoch.0 (node_part s at.c)) sound there h)

pub come-sound : (s : NodeState) (c from epoch r : ℕ) {t : NodeState} → t ≡ record s { fetches = after_content s.fetches from c epoch r }
    → lateral.is_awaited s.fetches from c epoch r ≡ true → IsNodeSound s → IsNodeSound t
come-sound s c from epoch r is h sound = subst IsNodeSound (sym (fetch-gone s c from epoch r is h)) (unfetched-sound s c r sound)

-- ---- a job of this node's disk was completed

read-here : (k : NodeSetting) (s : NodeState) (at : At) (r : ℕ) (o : Option (ControlBlock × Stay))
    → acted k s (here_at k at) (timer_flags (node_part s at.c)) (comes read_progress r) o
    ≡ node_deed k s at.c (node_read_by (node_env k s at.c at.epoch.0) r (node_part s at.c) o)
read-here k s at r None = refl
read-here k s at r (Some x) =
    let env : NodeEnv = node_env k s at.c at.epoch.0 in
    did-is k s at (node_turns env (node_part s at.c) [] (comes read_progress r env x))

pub read-done : (k : NodeSetting) (s : NodeState) (at : At) (r : ℕ) (n : NodeState) {was : Flags} (done : Result Out NoMemory)
    → IfOk done (λ out. IsActed k s at was (comes read_progress r) n out) → was ≡ timer_flags (node_part s at.c) → at.n ≡ k.n
    → IfOk done (λ out. (n, out) ≡ node_deed k s at.c (node_read (node_env k s at.c at.epoch.0) (node_part s at.c) r))
read-done k s at r n done acts flags node =
    acted-by k s at (comes read_progress r) s n done acts refl flags node (read-here k s at r (here at.epoch.0 (node_part s at.c)))
