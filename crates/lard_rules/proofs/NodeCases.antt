-- What each rule of a node can come to, once: what a message, a completed job and a timer do where the connection is here, what an Offer does
-- and what answers the end of a stay, what is told again, and which connection goes back. A law says what it keeps for each outcome, and opens no
-- rule.
use Rattle.std.proofs.Common.{◌≡◌, ◌<◌, arith, ℕ, ◌==◌, ◌&&◌, not, Bool, true, false, cond, List, [], length, nat_lt, Option, Some, None, Result, Ok, Err, refl, sym, ap, ◌∙◌, subst, eqb-true}
use Rattle.std.proofs.lemmas.Bool.{and_parts, both_ways, cond_both}
use Rattle.std.proofs.lemmas.Bool.Decides.{nat_tests}
use Rattle.std.specs.List.{find}
use Rattle.std.specs.Prelude.{is_some}
use Rattle.lard_base.specs.declared.parts.EndpointParts.{EndpointParts}
use Rattle.lard_base.specs.declared.place.TimerKind.TheVariants as kind
use Rattle.lard_endpoint.specs.Arriving.{on_segment}
use Rattle.lard_endpoint.specs.Control.{ControlBlock}
use Rattle.lard_endpoint.specs.Leaving.{after_timer, timed}
use Rattle.lard_handoff_back.specs.declared.row.BackConn.{BackConn}
use Rattle.lard_handoff_back.specs.declared.row.BackConn.TheVariants as stage
use Rattle.lard_handoff_back.specs.declared.row.BackRow.{BackRow}
use Rattle.lard_handoff_back.specs.declared.table.Adopt.{Adopt}
use Rattle.lard_handoff_back.specs.declared.table.Adopt.TheVariants.{New, Again, Stale, Refuse}
use Rattle.lard_handoff_back.specs.Back.{awaits_ack, back_endpoint, offer_answer, staying}
use Rattle.lard_handoff_back.specs.Leaving.{exceeds, is_free, is_new_epoch, is_this_epoch, offer_decision, row_epoch}
use Rattle.lard_handoff_back.specs.Row.{back_held, is_gone}
use Rattle.lard_handoff_back.specs.Table.{Beside}
use Rattle.lard_lateral.specs.Lateral.{is_from}
use Rattle.lard_rules.specs.declared.stay.Stay.{Stay}
use Rattle.lard_rules.specs.Loop.{state_of}
use Rattle.lard_rules.specs.Node.{NodeDeed, Drops, Says, Does, NodeGets, Offered, Forwarded, Tagged, Content, Acknowledged, Completed, Fires, Leaves, NodePart, again_sent, awaits_told, both_of, come_by, gives_back, goes_back_by, gone, here, is_tag_awaited, kept_refused, may_give_back, node_acknowledged, node_begins, node_fired, node_fired_by, node_heard_by, node_read_by, node_rule, node_saying, node_turns, offered_by, refused_sent, tagged_by, taken_sent, told_kind, with_work, work_of}
use Rattle.lard_rules.specs.Serving.{serving, serving_ready_of, spoken}
use Rattle.lard_rules.specs.Stay.{NodeEnv, Work, came_for, come_progress, goes_on, named_paths, read_progress, reads_batch, tagged}
use Rattle.lard_base.specs.declared.place.Place.{Place}
use Rattle.lard_resend.specs.Kept.{is_under, without}
use Rattle.lard_segment.specs.declared.fault.SegFault.{SegFault}
use Rattle.lard_segment.specs.Segment.{Said}

-- ---- where the connection is

-- it is here in this epoch, with this endpoint and this stay
pub record IsHereWith (epoch : ℕ) (p : NodePart) (b : ControlBlock) (s : Stay) : Type 0 where
  pub row : BackRow
  pub found : p.row ≡ Some row
  pub staged : row.stage ≡ stage.Here b
  pub epoch_is : row.epoch.0 ≡ epoch
  pub stays : p.stay ≡ Some s

-- what is so of its row and its stay is so of these
pub of-here : (R : Option BackRow → Option Stay → Type 0) (epoch : ℕ) (p : NodePart) (b : ControlBlock) (s : Stay) (at : IsHereWith epoch p b s) → R p.row p.stay → R (Some (record at.row { stage = stage.Here b })) (Some s)
of-here R epoch p b s at h = subst (R (Some (record at.row { stage = stage.Here b }))) at.stays (subst (λ (d : BackConn). R (Some (record at.row { stage = d })) p.stay) at.staged (subst (λ (o : Option BackRow). R o p.stay) at.found h))

held-here : (d : BackConn) (b : ControlBlock) → back_held d ≡ Some b → d ≡ stage.Here b
held-here (stage.Here c) b e = let same : c ≡ b = cc in ap stage.Here same
held-here stage.Out b e = let no : None ≡ Some b = e in absurd cc
held-here stage.Ended b e = let no : None ≡ Some b = e in absurd cc
held-here stage.Gone b e = let no : None ≡ Some b = e in absurd cc

module _ (epoch : ℕ) (p : NodePart) (P : Option (ControlBlock × Stay) → Type 0) (none : P None) (some : (b : ControlBlock) (s : Stay) → IsHereWith epoch p b s → P (Some (b, s))) where
  of-stay : (row : BackRow) (b : ControlBlock) → p.row ≡ Some row → row.stage ≡ stage.Here b → row.epoch.0 ≡ epoch → (t : Option Stay) → p.stay ≡ t → P (both_of (Some b) t)
  of-stay row b found at same None e = none
  of-stay row b found at same (Some s) e = some b s (record { row = row; found = found; staged = at; epoch_is = same; stays = e })

  of-held : (row : BackRow) → p.row ≡ Some row → row.epoch.0 ≡ epoch → (o : Option ControlBlock) → back_held row.stage ≡ o → P (both_of o p.stay)
  of-held row found same None e = none
  of-held row found same (Some b) e = of-stay row b found (held-here row.stage b e) same p.stay refl

  of-row : (row : BackRow) → p.row ≡ Some row → P (both_of (staying epoch (Some row)) p.stay)
  of-row row found = cond_both (row.epoch.0 == epoch) (back_held row.stage) None (λ (o : Option ControlBlock). P (both_of o p.stay)) (λ t. of-held row found (eqb-true row.epoch.0 epoch t) (back_held row.stage) refl) (λ t. none)

  by-row : (o : Option BackRow) → p.row ≡ o → P (both_of (staying epoch o) p.stay)
  by-row None found = none
  by-row (Some row) found = of-row row found

  -- by the epoch that a message names
  pub where-here : P (here epoch p)
  where-here = by-row p.row refl

  endpoint-row : ((row : BackRow) → p.row ≡ Some row → row.epoch.0 ≡ epoch) → (o : Option BackRow) → p.row ≡ o → P (both_of (back_endpoint o) p.stay)
  endpoint-row same None found = none
  endpoint-row same (Some row) found = of-held row found (same row found) (back_held row.stage) refl

  -- by whatever epoch it is in
  pub where-held : ((row : BackRow) → p.row ≡ Some row → row.epoch.0 ≡ epoch) → P (both_of (back_endpoint p.row) p.stay)
  where-held same = endpoint-row same p.row refl

-- ---- an Offer

-- by each of the tests of a decision
of-decision : (P : Adopt → Type 0) (leaving : Bool) (e : ℕ) (row : Option BackRow) (b : Beside)
    → (is_new_epoch e row b ≡ true → leaving ≡ true → P Refuse) → (is_new_epoch e row b ≡ true → leaving ≡ false → is_free row ≡ true → P New)
    → (is_this_epoch e b.refused ≡ true → exceeds e (row_epoch row) ≡ true → P Refuse) → (is_this_epoch e (row_epoch row) ≡ true → exceeds e b.refused ≡ true → P Again) → P Stale
    → P (offer_decision leaving e row b)
of-decision P leaving e row b leaves takes refused taken stale =
    cond_both (is_new_epoch e row b) (cond leaving Refuse (cond (is_free row) New Stale))
    (cond (is_this_epoch e b.refused && exceeds e (row_epoch row)) Refuse (cond (is_this_epoch e (row_epoch row) && exceeds e b.refused) Again Stale)) P
    (λ new. cond_both leaving Refuse (cond (is_free row) New Stale) P (leaves new) (λ stays. cond_both (is_free row) New Stale P (takes new stays) (λ t. stale)))
    (λ old. cond_both (is_this_epoch e b.refused && exceeds e (row_epoch row)) Refuse (cond (is_this_epoch e (row_epoch row) && exceeds e b.refused) Again Stale) P
    (λ t. let both = and_parts (is_this_epoch e b.refused) (exceeds e (row_epoch row)) t in refused both.0 both.1)
    (λ f. cond_both (is_this_epoch e (row_epoch row) && exceeds e b.refused) Again Stale P
    (λ t. let both = and_parts (is_this_epoch e (row_epoch row)) (exceeds e b.refused) t in taken both.0 both.1) (λ t. stale)))

less-by : (m n : ℕ) → nat_lt m n ≡ true → m < n
less-by m n h = grind (arith, nat_tests, h)

-- what is new to the rows alone
row-new : (e : ℕ) (row : Option BackRow) → exceeds e (row_epoch row) ≡ true → is_free row ≡ true → offer_answer e row ≡ New
row-new e None above free = refl
row-new e (Some row) above free = go (row.epoch.0 == e) refl where
  go : (t : Bool) → (row.epoch.0 == e) ≡ t → cond t Again (cond (nat_lt row.epoch.0 e && is_gone row.stage) New Stale) ≡ New
  go true is = let same = eqb-true row.epoch.0 e is in let less = less-by row.epoch.0 e above in absurd (omega (arith, same, less))
  go false is = ap (λ t. cond (t && is_gone row.stage) New Stale) above ∙ ap (λ t. cond t New Stale) free

row-again : (e : ℕ) (row : Option BackRow) → is_this_epoch e (row_epoch row) ≡ true → offer_answer e row ≡ Again
row-again e None is = absurd (both_ways false refl is)
row-again e (Some row) is = ap (λ t. cond t Again (cond (nat_lt row.epoch.0 e && is_gone row.stage) New Stale)) is

-- it is taken by a node that stays, where it is new by the rows too
pub decision-new : (leaving : Bool) (e : ℕ) (row : Option BackRow) (b : Beside) → offer_decision leaving e row b ≡ New → (offer_answer e row ≡ New) × (leaving ≡ false) × (exceeds e b.refused ≡ true)
decision-new leaving e row b is = of-decision (λ a. offer_decision leaving e row b ≡ a → a ≡ New → (offer_answer e row ≡ New) × (leaving ≡ false) × (exceeds e b.refused ≡ true)) leaving e row b
    (λ new leaves at no. absurd cc)
    (λ new stays free at same. let both = and_parts (exceeds e (row_epoch row)) (exceeds e b.refused) new in (row-new e row both.0 free, stays, both.1))
    (λ this above at no. absurd cc) (λ this above at no. absurd cc) (λ at no. absurd cc) refl is

pub decision-again : (leaving : Bool) (e : ℕ) (row : Option BackRow) (b : Beside) → offer_decision leaving e row b ≡ Again → offer_answer e row ≡ Again
decision-again leaving e row b is = of-decision (λ a. a ≡ Again → offer_answer e row ≡ Again) leaving e row b
    (λ new leaves no. absurd cc) (λ new stays free no. absurd cc) (λ this above no. absurd cc) (λ this above same. row-again e row this) (λ no. absurd cc) is

-- ---- the rules

-- What is known where the timer of a connection fires, and where the node leaves: its environment has the epoch of the row.
abbrev pub IsOfItsEpoch : NodeEnv → NodePart → NodeGets → Type 0
IsOfItsEpoch env p Fires = (row : BackRow) → p.row ≡ Some row → row.epoch.0 ≡ env.epoch
IsOfItsEpoch env p Leaves = (row : BackRow) → p.row ≡ Some row → row.epoch.0 ≡ env.epoch
IsOfItsEpoch env p _ = Unit {0}

-- INTERIM: and no node leaves yet
abbrev pub IsInItsEpoch : NodeEnv → NodePart → NodeGets → Type 0
IsInItsEpoch env p g = IsOfItsEpoch env p g × (env.leaving ≡ false)

-- A turn ended, and D is so of it: the connection rests, or goes back.
abbrev pub Turned : (NodeDeed → Type 0) → NodeEnv → NodePart → List (Place × List ℕ) → Work → Type 0
Turned D env p before w = (may_give_back env w ≡ false → D (with_work env p before w)) × (may_give_back env w ≡ true → D (gives_back env p before w))

-- the node stays, and the epoch exceeds each in which it refused the connection
abbrev pub MayTake : NodeEnv → NodePart → Type 0
MayTake env p = (env.leaving ≡ false) × (exceeds env.epoch p.beside.refused ≡ true)

-- M is what is known of what came. A segment, the Tag, a content that is awaited and a job go on with the stay; an Offer that is new begins one, or
-- is refused where the node leaves; the timer says again what the endpoint did, or, where it is not here, what awaits an answer; the end of a stay is
-- acknowledged; and where the node leaves, a connection that is ready goes back.
pub record KeptByNode (env : NodeEnv) (p : NodePart) (M : NodeGets → Type 0) (D : NodeDeed → Type 0) : Type 0 where
  pub drops : D Drops
  pub hears : (said : Said) (b : ControlBlock) (s : Stay) → M (Forwarded (Ok said)) → IsHereWith env.epoch p b s → Turned D env p [] (goes_on env (work_of (on_segment b said).1 s))
  pub tags : (number : ℕ) (nodes : List ℕ) (b : ControlBlock) (s : Stay) → M (Tagged number nodes) → IsHereWith env.epoch p b s
      → is_some (find (is_under kind.Ask 0) p.kept) ≡ true → s.asks ≡ number → length nodes ≡ length (named_paths env.serve.files s.batch)
      → Turned D env (record p { kept = without kind.Ask 0 p.kept }) [] (goes_on env (tagged env nodes (work_of b s)))
  pub comes : (from r : ℕ) (b : ControlBlock) (s : Stay) → M (Content from r) → IsHereWith env.epoch p b s → is_from from env.epoch (find (is_under kind.Fetch r) p.fetches) ≡ true
      → Turned D env (record p { fetches = without kind.Fetch r p.fetches }) [] (goes_on env (came_for (come_progress from) r (work_of b s)))
  pub reads : (r : ℕ) (path : List ℕ) (b : ControlBlock) (s : Stay) → M (Completed r path) → IsHereWith env.epoch p b s → Turned D env p [] (goes_on env (came_for read_progress r (work_of b s)))
  pub begins : (parts : EndpointParts) → M (Offered parts) → offer_answer env.epoch p.row ≡ New → MayTake env p
      → D (with_work env p (taken_sent env) (goes_on env (state_of (reads_batch env true (node_begins env parts)))))
  pub takes_again : (parts : EndpointParts) → M (Offered parts) → offer_answer env.epoch p.row ≡ Again → D (Says (taken_sent env))
  pub refuses : (parts : EndpointParts) → M (Offered parts) → offer_decision env.leaving env.epoch p.row p.beside ≡ Refuse → D (Does (kept_refused env p, node_saying (refused_sent env)))
  pub fires : (b : ControlBlock) (s : Stay) → M Fires → IsHereWith env.epoch p b s
      → D (Does (node_fired env p (b, s) (spoken env.serve (serving (after_timer b) s.served []) (serving_ready_of env.serve (after_timer b) (timed b)))))
  pub resends : M Fires → both_of (back_endpoint p.row) p.stay ≡ None → D (Says (again_sent p))
  pub ends : (back : Bool) → M (Acknowledged back) → awaits_ack env.epoch p.row ≡ true → is_some p.beside.returned ≡ back
      → D (Does (record p { row = gone p.row; kept = without (told_kind back) 0 p.kept }, node_saying []))
  pub leaves : (b : ControlBlock) (s : Stay) → M Leaves → IsHereWith env.epoch p b s → may_give_back env (work_of b s) ≡ true → D (gives_back env p [] (work_of b s))

module _ (env : NodeEnv) (p : NodePart) (M : NodeGets → Type 0) (D : NodeDeed → Type 0) (kept : KeptByNode env p M D) where
  offer-keeps : (parts : EndpointParts) → M (Offered parts) → (a : Adopt) → offer_decision env.leaving env.epoch p.row p.beside ≡ a → D (offered_by env parts p a)
  offer-keeps parts m New is = let new = decision-new env.leaving env.epoch p.row p.beside is in kept.begins parts m new.0 (new.1, new.2)
  offer-keeps parts m Again is = kept.takes_again parts m (decision-again env.leaving env.epoch p.row p.beside is)
  offer-keeps parts m Stale is = kept.drops
  offer-keeps parts m Refuse is = kept.refuses parts m is

  turn-keeps : (q : NodePart) (before : List (Place × List ℕ)) (w : Work) → Turned D env q before w → D (node_turns env q before w)
  turn-keeps q before w h = cond_both (may_give_back env w) (gives_back env q before w) (with_work env q before w) D h.1 h.0

  heard-keeps : (given : Result Said SegFault) → M (Forwarded given) → D (node_heard_by env p given (here env.epoch p))
  heard-keeps (Err fault) m = kept.drops
  heard-keeps (Ok said) m = where-here env.epoch p (λ o. D (node_heard_by env p (Ok said) o)) kept.drops (λ b s at. turn-keeps p [] (goes_on env (work_of (on_segment b said).1 s)) (kept.hears said b s m at))

  tag-keeps : (number : ℕ) (nodes : List ℕ) → M (Tagged number nodes) → D (tagged_by env number nodes p (here env.epoch p))
  tag-keeps number nodes m = where-here env.epoch p (λ o. D (tagged_by env number nodes p o)) kept.drops
      (λ b s at. cond_both (is_tag_awaited env number nodes p s) (node_turns env (record p { kept = without kind.Ask 0 p.kept }) [] (goes_on env (tagged env nodes (work_of b s)))) Drops D
      (λ t.
      let asked = and_parts (is_some (find (is_under kind.Ask 0) p.kept)) (s.asks == number && length nodes == length (named_paths env.serve.files s.batch)) t in
      let its = and_parts (s.asks == number) (length nodes == length (named_paths env.serve.files s.batch)) asked.1 in
      turn-keeps (record p { kept = without kind.Ask 0 p.kept }) [] (goes_on env (tagged env nodes (work_of b s)))
      (kept.tags number nodes b s m at asked.0 (eqb-true s.asks number its.0) (eqb-true (length nodes) (length (named_paths env.serve.files s.batch)) its.1)))
      (λ t. kept.drops))

  come-keeps : (from r : ℕ) → M (Content from r) → D (come_by env from r p (here env.epoch p))
  come-keeps from r m = where-here env.epoch p (λ o. D (come_by env from r p o)) kept.drops
      (λ b s at. cond_both (is_from from env.epoch (find (is_under kind.Fetch r) p.fetches)) (node_turns env (record p { fetches = without kind.Fetch r p.fetches }) [] (goes_on env (came_for (come_progress from) r (work_of b s)))) Drops D
      (λ t. turn-keeps (record p { fetches = without kind.Fetch r p.fetches }) [] (goes_on env (came_for (come_progress from) r (work_of b s))) (kept.comes from r b s m at t))
      (λ t. kept.drops))

  job-keeps : (r : ℕ) (path : List ℕ) → M (Completed r path) → D (node_read_by env r p (here env.epoch p))
  job-keeps r path m = where-here env.epoch p (λ o. D (node_read_by env r p o)) kept.drops (λ b s at. turn-keeps p [] (goes_on env (came_for read_progress r (work_of b s))) (kept.reads r path b s m at))

  fire-keeps : ((row : BackRow) → p.row ≡ Some row → row.epoch.0 ≡ env.epoch) → M Fires → D (node_fired_by env p (both_of (back_endpoint p.row) p.stay))
  fire-keeps same m = where-held env.epoch p (λ o. both_of (back_endpoint p.row) p.stay ≡ o → D (node_fired_by env p o)) (λ is. kept.resends m is) (λ b s at is. kept.fires b s m at) same refl

  -- what answers it is awaited: the stay is over in this epoch, and it went back or ended
  told-keeps : (back : Bool) → M (Acknowledged back) → awaits_told back env p ≡ true → D (Does (record p { row = gone p.row; kept = without (told_kind back) 0 p.kept }, node_saying []))
  told-keeps true m is = let both = and_parts (awaits_ack env.epoch p.row) (is_some p.beside.returned) is in kept.ends true m both.0 both.1
  told-keeps false m is =
      let both = and_parts (awaits_ack env.epoch p.row) (not (is_some p.beside.returned)) is in
      kept.ends false m both.0 (not-so (is_some p.beside.returned) both.1) where
        not-so : (b : Bool) → not b ≡ true → b ≡ false
        not-so true e = sym e
        not-so false e = refl

  leave-keeps : ((row : BackRow) → p.row ≡ Some row → row.epoch.0 ≡ env.epoch) → M Leaves → D (goes_back_by env p (both_of (back_endpoint p.row) p.stay))
  leave-keeps same m = where-held env.epoch p (λ o. D (goes_back_by env p o)) kept.drops
      (λ b s at. cond_both (may_give_back env (work_of b s)) (gives_back env p [] (work_of b s)) Drops D (λ t. kept.leaves b s m at t) (λ t. kept.drops)) same

  -- whatever comes
  pub node-keeps : (g : NodeGets) → IsOfItsEpoch env p g → M g → D (node_rule env p g)
  node-keeps (Offered parts) same m = offer-keeps parts m (offer_decision env.leaving env.epoch p.row p.beside) refl
  node-keeps (Forwarded given) same m = heard-keeps given m
  node-keeps (Tagged number nodes) same m = tag-keeps number nodes m
  node-keeps (Content from r) same m = come-keeps from r m
  node-keeps (Acknowledged back) same m =
      cond_both (awaits_told back env p) (Does (record p { row = gone p.row; kept = without (told_kind back) 0 p.kept }, node_saying [])) Drops D (λ t. told-keeps back m t) (λ t. kept.drops)
  node-keeps (Completed r path) same m = job-keeps r path m
  node-keeps Fires same m = fire-keeps same m
  node-keeps Leaves same m = leave-keeps same m

-- ---- where no node leaves

-- INTERIM: no node leaves yet, so no connection goes back
pub record KeptByStaying (env : NodeEnv) (p : NodePart) (M : NodeGets → Type 0) (D : NodeDeed → Type 0) : Type 0 where
  pub drops : D Drops
  pub hears : (said : Said) (b : ControlBlock) (s : Stay) → M (Forwarded (Ok said)) → IsHereWith env.epoch p b s → D (with_work env p [] (goes_on env (work_of (on_segment b said).1 s)))
  pub tags : (number : ℕ) (nodes : List ℕ) (b : ControlBlock) (s : Stay) → M (Tagged number nodes) → IsHereWith env.epoch p b s
      → is_some (find (is_under kind.Ask 0) p.kept) ≡ true → s.asks ≡ number → length nodes ≡ length (named_paths env.serve.files s.batch)
      → D (with_work env (record p { kept = without kind.Ask 0 p.kept }) [] (goes_on env (tagged env nodes (work_of b s))))
  pub comes : (from r : ℕ) (b : ControlBlock) (s : Stay) → M (Content from r) → IsHereWith env.epoch p b s → is_from from env.epoch (find (is_under kind.Fetch r) p.fetches) ≡ true
      → D (with_work env (record p { fetches = without kind.Fetch r p.fetches }) [] (goes_on env (came_for (come_progress from) r (work_of b s))))
  pub reads : (r : ℕ) (path : List ℕ) (b : ControlBlock) (s : Stay) → M (Completed r path) → IsHereWith env.epoch p b s → D (with_work env p [] (goes_on env (came_for read_progress r (work_of b s))))
  pub begins : (parts : EndpointParts) → M (Offered parts) → offer_answer env.epoch p.row ≡ New → D (with_work env p (taken_sent env) (goes_on env (state_of (reads_batch env true (node_begins env parts)))))
  pub takes_again : (parts : EndpointParts) → M (Offered parts) → offer_answer env.epoch p.row ≡ Again → D (Says (taken_sent env))
  pub refuses : (parts : EndpointParts) → M (Offered parts) → offer_decision env.leaving env.epoch p.row p.beside ≡ Refuse → D (Does (kept_refused env p, node_saying (refused_sent env)))
  pub fires : (b : ControlBlock) (s : Stay) → M Fires → IsHereWith env.epoch p b s
      → D (Does (node_fired env p (b, s) (spoken env.serve (serving (after_timer b) s.served []) (serving_ready_of env.serve (after_timer b) (timed b)))))
  pub resends : M Fires → both_of (back_endpoint p.row) p.stay ≡ None → D (Says (again_sent p))
  pub ends : (back : Bool) → M (Acknowledged back) → awaits_ack env.epoch p.row ≡ true → is_some p.beside.returned ≡ back
      → D (Does (record p { row = gone p.row; kept = without (told_kind back) 0 p.kept }, node_saying []))

module _ (env : NodeEnv) (p : NodePart) (M : NodeGets → Type 0) (D : NodeDeed → Type 0) (kept : KeptByStaying env p M D) where
  never-back : env.leaving ≡ false → (w : Work) → may_give_back env w ≡ true → ⊥
  never-back remains w is = both_ways env.leaving remains (and_parts env.leaving _ is).0

  rests : env.leaving ≡ false → (q : NodePart) (before : List (Place × List ℕ)) (w : Work) → D (with_work env q before w) → Turned D env q before w
  rests remains q before w h = (λ stays. h, λ back. absurd (never-back remains w back))

  of-staying : env.leaving ≡ false → KeptByNode env p M D
  of-staying remains = record {
    drops = kept.drops;
    hears = λ said b s m at. rests remains p [] (goes_on env (work_of (on_segment b said).1 s)) (kept.hears said b s m at);
    tags = λ number nodes b s m at asked same count. rests remains (record p { kept = without kind.Ask 0 p.kept }) [] (goes_on env (tagged env nodes (work_of b s))) (kept.tags number nodes b s m at asked same count);
    comes = λ from r b s m at wanted. rests remains (record p { fetches = without kind.Fetch r p.fetches }) [] (goes_on env (came_for (come_progress from) r (work_of b s))) (kept.comes from r b s m at wanted);
    reads = λ r path b s m at. rests remains p [] (goes_on env (came_for read_progress r (work_of b s))) (kept.reads r path b s m at);
    begins = λ parts m new may. kept.begins parts m new;
    takes_again = kept.takes_again;
    refuses = kept.refuses;
    fires = kept.fires;
    resends = kept.resends;
    ends = kept.ends;
    leaves = λ b s m at back. absurd (never-back remains (work_of b s) back);
  }

  pub staying-keeps : (g : NodeGets) → IsInItsEpoch env p g → M g → D (node_rule env p g)
  staying-keeps g at m = node-keeps env p M D (of-staying at.1) g at.0 m
