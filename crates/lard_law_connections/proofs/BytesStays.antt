-- The rules of a node keep the agreement of a connection that it has.
use Rattle.std.proofs.Common.{Bool, List, None, Ok, Option, Some, [], ap, append-nil, append_assoc, arith, inl, inr, refl, subst, sym, true, ℕ, ◌++◌, ◌==◌, ◌||◌, ◌∙◌, ◌∷◌, ◌≡◌, ◌⊎◌, ◌≢◌}
use Rattle.std.specs.List.{find, list_any}
use Rattle.std.proofs.lemmas.Bool.{cond_both}
use Rattle.lard_law_view.specs.Prelude.{Adopt, Asked, BackConn, BackRow, ControlBlock, Ending, EndpointParts, IsWord, NodeDeed, NodeEnv, NodePart, NodeTurn, Place, Said, SaysAnswers, Stay, Stream, Turn, Verdict, Want, Work, adopted, after_timer, again_sent, asked_sent, back_endpoint, back_held, both_of, came_for, come_by, come_progress, ended_sent, gives_back, give_kept, goes_back_by, goes_on, here, is_from, is_reset_record, is_tag_awaited, is_under, kept_after, kept_back, may_freeze, may_give_back, node_begins, node_fired, node_fired_by, node_heard_by, node_read_by, node_turns, offer_decision, offered_by, on_segment, parts_of, read_progress, reads_batch, serving, serving_ready_of, sent_of, serving_settled, spoken, state_of, staying, tagged, tagged_by, taken_sent, timed, turn_back, turn_by, wants_sent, with_work, without, work_of}
use Rattle.lard_base.specs.declared.place.Place.TheVariants as place
use Rattle.lard_base.specs.declared.place.TimerKind.TheVariants as kind
use Rattle.lard_law_connections.specs.BytesAgreement.{AreOnTheWay, BackAgrees, EndAgreesPending, FrontHolds, HoldsItPending, NodeAgrees, RowAgrees, StayAgrees, StayComesOn}
use Rattle.lard_law_connections.specs.BytesKeeping.{ContentsKeep, DeedKeeps, IsTalk, LeavesKeep, NodeHearsTruth, NodeTimerKeeps, NodeSays, NodeTurned, OffersKeep, ReadsKeep, TagsKeep}
use Rattle.lard_law_connections.specs.BytesTurning.{EndTurned}
use Rattle.lard_law_connections.proofs.BytesBack.{back-frozen, back-holds}
use Rattle.lard_law_connections.proofs.BytesEnding.{settled-ends}
use Rattle.lard_law_connections.proofs.BytesHolding.{adopted-so, fired-ends, heard-so, same-so}
use Rattle.lard_law_connections.proofs.BytesServing.{MayGo, So, go-on}
use Rattle.lard_law_connections.proofs.BytesWorking.{Right, Works, came-so, first-so, goes-so, tagged-so, verdicts_of}
use Rattle.lard_law_connections.proofs.BytesWays.{batch-right, came-right, come_progress-on, goes-right, read_progress-on, tagged-right}
use Rattle.lard_handoff_back.specs.declared.row.BackConn.TheVariants as back
use Rattle.lard_handoff_back.specs.declared.table.Adopt.TheVariants.{New, Again, Stale, Refuse}
use Rattle.lard_journal.specs.declared.rec.Rec.TheVariants as rec
use Rattle.lard_message.specs.declared.message.Body.TheVariants as body
use Rattle.lard_history.proofs.Each.{Each, Each-append}
use Rattle.lard_law_connections.specs.Places.{IsDecided}
use Rattle.lard_rules.specs.Node.{Drops}
use Rattle.lard_rules.specs.Node as node
use Rattle.lard_rules.specs.declared.places.Ending.TheVariants as ending

module _ (env : NodeEnv) (w out : Stream) (vs : List Verdict) (was_reset : Bool) where
  abbrev Turns : NodePart → NodePart × NodeTurn → Type 0
  Turns p given = NodeTurned env.serve.files env.serve.c env.epoch p w out vs was_reset given

  abbrev Keeps : NodePart → NodeDeed → Type 0
  Keeps p d = DeedKeeps env.serve.files env.serve.c env.epoch p w out vs was_reset d

  -- ---- the end of a turn

  ends-agree : (p : NodePart) (k : Work) (now : Stream) (us : List Verdict) (r : Bool) (e : Ending) → EndAgreesPending w now us (verdicts_of k.batch) r e
      → NodeAgrees w now us (verdicts_of k.batch) r env.serve.c (kept_after env p k e)
  ends-agree p k now us r (ending.Here b count) h = (refl, h)
  ends-agree p k now us r (ending.Over last) h = inl (record { last = last; count = node.reset_count k.service.over; ended = h; kept_is = refl })

  ends-way : (p : NodePart) (k : Work) (e : Ending) → Right env w out vs k → StayComesOn env.serve.files (kept_after env p k e).stay
  ends-way p k (ending.Here b count) right = right
  ends-way p k (ending.Over last) right = tt

  after-decided : (p : NodePart) (k : Work) (e : Ending) → IsDecided env.epoch (kept_after env p k e).row
  after-decided p k (ending.Here b count) = omega arith
  after-decided p k (ending.Over last) = omega arith

  -- what it says
  wants-say : (q : NodePart) (ws : List Want) → Each (NodeSays env.serve.c q) (wants_sent env ws)
  wants-say q [] = tt
  wants-say q (x ∷ xs) = (inl (x.node, refl), wants-say q xs)

  asked-says : (q : NodePart) (o : Option Asked) → Each (NodeSays env.serve.c q) (asked_sent env o)
  asked-says q None = tt
  asked-says q (Some a) = (inr (env.epoch, body.Ask a.number a.queue a.size a.paths, refl, tt), tt)

  ended-says : (p : NodePart) (k : Work) (e : Ending) → Each (NodeSays env.serve.c (kept_after env p k e)) (ended_sent env k.service.over e)
  ended-says p k (ending.Here b count) = tt
  ended-says p k (ending.Over last) = (inr (env.epoch, body.Ended last.reason last.snd.0 last.rcv.0 (node.reset_count k.service.over), refl, (_, refl, refl)), tt)

  abbrev rest_of_it : Work → Ending → List (Place × List ℕ)
  rest_of_it k e = (asked_sent env k.asked ++ wants_sent env k.wants) ++ ended_sent env k.service.over e

  rest-says : (p : NodePart) (k : Work) (e : Ending) → Each (NodeSays env.serve.c (kept_after env p k e)) (rest_of_it k e)
  rest-says p k e =
      let q : NodePart = kept_after env p k e in
      Each-append (NodeSays env.serve.c q) (asked_sent env k.asked ++ wants_sent env k.wants) (ended_sent env k.service.over e)
      (Each-append (NodeSays env.serve.c q) (asked_sent env k.asked) (wants_sent env k.wants) (asked-says q k.asked) (wants-say q k.wants)) (ended-says p k e)

  -- what is said again stands before the rest, or what it says first is said as the rest is
  pub record Before (p q : NodePart) (before : List (Place × List ℕ)) : Type 0 where
    again : List (Place × List ℕ)
    first : List (Place × List ℕ)
    is : before ≡ again ++ first
    told : (again ≡ []) ⊎ (again ≡ again_sent p)
    said : Each (NodeSays env.serve.c q) first

  rests-turn : (old p : NodePart) (before : List (Place × List ℕ)) (k : Work) (given : Ending × Turn) → Before old (kept_after env p k given.0) before → Right env w out vs k
      → EndTurned env.serve.files env.serve.c w out vs was_reset (verdicts_of k.batch) given → Turns old (kept_after env p k given.0, turn_by env before k given)
  rests-turn old p before k given first right h = record {
    out_after = h.out_after;
    vs_after = h.vs_after;
    pend_after = verdicts_of k.batch;
    longer = h.longer;
    says = h.says;
    agrees = ends-agree p k h.out_after h.vs_after (was_reset || list_any is_reset_record given.1.notes) given.0 h.agrees;
    noted = h.noted;
    ways = ends-way p k given.0 right;
    sent = h.sent;
    decided = after-decided p k given.0;
    again = first.again;
    more = first.first ++ rest_of_it k given.0;
    messages = ap (λ (ms : List (Place × List ℕ)). ms ++ ended_sent env k.service.over given.0) (append_assoc before (asked_sent env k.asked) (wants_sent env k.wants))
        ∙ append_assoc before (asked_sent env k.asked ++ wants_sent env k.wants) (ended_sent env k.service.over given.0)
        ∙ ap (λ (ms : List (Place × List ℕ)). ms ++ rest_of_it k given.0) first.is ∙ append_assoc first.again first.first (rest_of_it k given.0);
    told = first.told;
    said = Each-append (NodeSays env.serve.c (kept_after env p k given.0)) first.first (rest_of_it k given.0) first.said (rest-says p k given.0);
  }

  none-before : (old q : NodePart) → Before old q []
  none-before old q = record { again = []; first = []; is = refl; told = inl refl; said = tt }

  work-turns : (old p : NodePart) (before : List (Place × List ℕ)) (k : Work) → ((q : NodePart) → Before old q before) → Works env w out vs k → Right env w out vs k → Keeps old (with_work env p before k)
  work-turns old p before k first h right = rests-turn old p before k (serving_settled env.serve k.service) (first _) right (settled-ends env.serve w out vs was_reset k.service (verdicts_of k.batch) h)

  -- ---- it goes back

  back-says : (p : NodePart) (k : Work) → Each (NodeSays env.serve.c (kept_back env p k)) (turn_back env [] k).messages
  back-says p k =
      let q : NodePart = kept_back env p k in
      Each-append (NodeSays env.serve.c q) (asked_sent env k.asked ++ wants_sent env k.wants) (sent_of (give_kept env k) ∷ [])
      (Each-append (NodeSays env.serve.c q) (asked_sent env k.asked) (wants_sent env k.wants) (asked-says q k.asked) (wants-say q k.wants))
      ((inr (env.epoch, body.Give (parts_of k.service.block k.service.count), refl, ((give_kept env k, refl, refl), tt))), tt)

  back-turns : (old p : NodePart) (k : Work) → Works env w out vs k → may_give_back env k ≡ true → Keeps old (gives_back env p [] k)
  back-turns old p k h back = record {
    out_after = h.out_now;
    vs_after = h.vs_now;
    pend_after = [];
    longer = h.longer;
    says = h.says;
    agrees = inr (record {
      block = k.service.block;
      count = k.service.count;
      frozen = back-frozen env w out vs k h back;
      holds = back-holds env w out vs k h back;
      returned = refl;
      kept_is = refl;
    });
    noted = h.noted;
    ways = tt;
    sent = tt;
    decided = omega arith;
    again = [];
    more = (turn_back env [] k).messages;
    messages = refl;
    told = inl refl;
    said = back-says p k;
  }

  -- a stay that agrees
  abbrev pub IsHeld : List Verdict → ControlBlock × Stay → Type 0
  IsHeld pend x = (pend ≡ verdicts_of x.1.batch) × HoldsItPending w out vs pend x.0 x.1.served × AreOnTheWay env.serve.files x.1.batch

  pub same-works : (pend : List Verdict) (x : ControlBlock × Stay) → SaysAnswers env.serve.files w out vs → IsHeld pend x → Works env w out vs (work_of x.0 x.1)
  same-works pend x says h = subst (So env.serve w out vs (serving x.0 x.1.served [])) h.0 (same-so env.serve w out vs says pend x.0 x.1.served h.1)

  -- ---- where the node has it

  -- it is so of none, and of each stay that agrees
  module _ (pend : List Verdict) (P : Option (ControlBlock × Stay) → Type 0) (none : P None) (some : (x : ControlBlock × Stay) → IsHeld pend x → P (Some x)) where
    of-stay : (b : ControlBlock) (o : Option Stay) → StayAgrees w out vs pend b o → StayComesOn env.serve.files o → P (both_of (Some b) o)
    of-stay b None h ways = absurd h
    of-stay b (Some s) h ways = some (b, s) (h.0, h.1, ways)

    of-stage : (p : NodePart) (c e : ℕ) (d : BackConn) → BackAgrees w out vs pend was_reset c e p d → StayComesOn env.serve.files p.stay → P (both_of (back_held d) p.stay)
    of-stage p c e (back.Here b) h ways = of-stay b p.stay h ways
    of-stage p c e _ h ways = none

    pub at-endpoint : (p : NodePart) (c : ℕ) (o : Option BackRow) → RowAgrees w out vs pend was_reset c p o → StayComesOn env.serve.files p.stay → P (both_of (back_endpoint o) p.stay)
    at-endpoint p c None h ways = absurd h
    at-endpoint p c (Some row) h ways = of-stage p c row.epoch.0 row.stage h ways

    pub at-epoch : (p : NodePart) (c : ℕ) (o : Option BackRow) → RowAgrees w out vs pend was_reset c p o → StayComesOn env.serve.files p.stay → P (both_of (staying env.epoch o) p.stay)
    at-epoch p c None h ways = absurd h
    at-epoch p c (Some row) h ways = cond_both (row.epoch.0 == env.epoch) (back_held row.stage) None (λ b. P (both_of b p.stay))
        (λ t. of-stage p c row.epoch.0 row.stage h ways) (λ t. none)

  -- ---- the rules

  module _ (talk : IsTalk env w out vs) (pend : List Verdict) (p : NodePart) (h : NodeAgrees w out vs pend was_reset env.serve.c p) (ways : StayComesOn env.serve.files p.stay) where
    goes-turn : (p_kept : NodePart) (k : Work) → Works env w out vs k → Right env w out vs k → Keeps p (node_turns env p_kept [] (goes_on env k))
    goes-turn p_kept k works right =
        let so = goes-so env w out vs talk.most k works right in
        cond_both (may_give_back env (goes_on env k)) (gives_back env p_kept [] (goes_on env k)) (with_work env p_kept [] (goes_on env k)) (Keeps p)
        (λ t. back-turns p p_kept (goes_on env k) so t) (λ t. work-turns p p_kept [] (goes_on env k) (none-before p) so (goes-right env k right))

    hears-turn : (s : Said) → IsWord w s → Keeps p (node_heard_by env p (Ok s) (here env.epoch p))
    hears-turn s word = at-epoch pend (λ x. Keeps p (node_heard_by env p (Ok s) x)) tt
        (λ x held. goes-turn p (work_of (on_segment x.0 s).1 x.1)
        (subst (So env.serve w out vs (serving (on_segment x.0 s).1 x.1.served [])) held.0 (heard-so env.serve w out vs talk.says pend x.0 x.1.served held.1 talk.stream s word)) held.2)
        p env.serve.c p.row h ways

    tags-turn : (number : ℕ) (nodes : List ℕ) → Keeps p (tagged_by env number nodes p (here env.epoch p))
    tags-turn number nodes = at-epoch pend (λ x. Keeps p (tagged_by env number nodes p x)) tt
        (λ x held. cond_both (is_tag_awaited env number nodes p x.1) (node_turns env (record p { kept = without kind.Ask 0 p.kept }) [] (goes_on env (tagged env nodes (work_of x.0 x.1)))) Drops (Keeps p)
        (λ t. goes-turn (record p { kept = without kind.Ask 0 p.kept }) (tagged env nodes (work_of x.0 x.1)) (tagged-so env w out vs nodes (work_of x.0 x.1) (same-works pend x talk.says held)) (tagged-right env nodes (work_of x.0 x.1) held.2))
        (λ t. tt))
        p env.serve.c p.row h ways

    comes-turn : (from r : ℕ) → Keeps p (come_by env from r p (here env.epoch p))
    comes-turn from r = at-epoch pend (λ x. Keeps p (come_by env from r p x)) tt
        (λ x held. cond_both (is_from from env.epoch (find (is_under kind.Fetch r) p.fetches))
        (node_turns env (record p { fetches = without kind.Fetch r p.fetches }) [] (goes_on env (came_for (come_progress from) r (work_of x.0 x.1)))) Drops (Keeps p)
        (λ t. goes-turn (record p { fetches = without kind.Fetch r p.fetches }) (came_for (come_progress from) r (work_of x.0 x.1))
        (came-so env w out vs (come_progress from) r (work_of x.0 x.1) (same-works pend x talk.says held))
        (came-right env.serve.files (come_progress from) (come_progress-on env.serve.files from) r (work_of x.0 x.1) held.2))
        (λ t. tt))
        p env.serve.c p.row h ways

    reads-turn : (r : ℕ) → Keeps p (node_read_by env r p (here env.epoch p))
    reads-turn r = at-epoch pend (λ x. Keeps p (node_read_by env r p x)) tt
        (λ x held. goes-turn p (came_for read_progress r (work_of x.0 x.1)) (came-so env w out vs read_progress r (work_of x.0 x.1) (same-works pend x talk.says held))
        (came-right env.serve.files read_progress (read_progress-on env.serve.files) r (work_of x.0 x.1) held.2))
        p env.serve.c p.row h ways

    fires-turn : Keeps p (node_fired_by env p (both_of (back_endpoint p.row) p.stay))
    fires-turn = at-endpoint pend (λ x. Keeps p (node_fired_by env p x)) (inl refl) (λ x held. fires x held) p env.serve.c p.row h ways where
      fires : (x : ControlBlock × Stay) → IsHeld pend x
          → Turns p (node_fired env p x (spoken env.serve (serving (after_timer x.0) x.1.served []) (serving_ready_of env.serve (after_timer x.0) (timed x.0))))
      fires x held =
          let given : Ending × Turn = spoken env.serve (serving (after_timer x.0) x.1.served []) (serving_ready_of env.serve (after_timer x.0) (timed x.0)) in
          rests-turn p p (again_sent p) (work_of (after_timer x.0) x.1) given (record { again = again_sent p; first = []; is = sym (append-nil (again_sent p)); told = inr refl; said = tt }) held.2
          (subst (λ (us : List Verdict). EndTurned env.serve.files env.serve.c w out vs was_reset us given) held.0 (fired-ends env.serve w out vs talk.says pend x.0 x.1.served held.1 was_reset))

    -- the node leaves
    leaves-turn : Keeps p (goes_back_by env p (both_of (back_endpoint p.row) p.stay))
    leaves-turn = at-endpoint pend (λ x. Keeps p (goes_back_by env p x)) tt
        (λ x held. cond_both (may_give_back env (work_of x.0 x.1)) (gives_back env p [] (work_of x.0 x.1)) Drops (Keeps p)
        (λ t. back-turns p p (work_of x.0 x.1) (same-works pend x talk.says held) t) (λ t. tt))
        p env.serve.c p.row h ways

  -- ---- an Offer

  module _ (talk : IsTalk env w out vs) (pend : List Verdict) (p : NodePart) (b : ControlBlock) (count : ℕ) (h : FrontHolds w out vs pend b count) (frozen : may_freeze b ≡ true) where
    abbrev parts : EndpointParts
    parts = parts_of b count

    abbrev pub Begins : ControlBlock → Type 0
    Begins d = So env.serve w out vs (serving d count (rec.Took (place.Node env.n) env.serve.c (record { 0 = env.epoch }) ∷ [])) []

    pub offered-so : Begins (adopted parts)
    offered-so = adopted-so env.serve w out vs talk.says [] b count h.holds frozen (rec.Took (place.Node env.n) env.serve.c (record { 0 = env.epoch }) ∷ [])
        (record { each = (tt, tt); served = omega arith; size = omega arith; unless_ended = inr refl; serve = λ t told. ((λ J e. tt), tt) })

    offers-turn : (a : Adopt) → a ≢ Refuse → Keeps p (offered_by env parts p a)
    offers-turn New other =
        let first : Work = node_begins env parts in
        let may : MayGo w offered-so.vs_now [] first.service = go-on env.serve w out vs first.service [] offered-so refl refl refl in
        let works = first-so env w out vs true first offered-so may refl in
        let right = batch-right env true first refl tt in
        work-turns p p (taken_sent env) (goes_on env (state_of (reads_batch env true first))) (λ q. record { again = []; first = taken_sent env; is = refl; told = inl refl; said = (inr (env.epoch, body.Taken, refl, tt), tt) }) (goes-so env w out vs talk.most (state_of (reads_batch env true first)) works right) (goes-right env (state_of (reads_batch env true first)) right)
    offers-turn Again other = inr refl
    offers-turn Stale other = tt
    offers-turn Refuse other = absurd (other refl)

-- ---- what is kept

pub node-hears : NodeHearsTruth
node-hears env w out vs pend was_reset p s talk h ways word = hears-turn env w out vs was_reset talk pend p h ways s word

pub tags-keep : TagsKeep
tags-keep number nodes env w out vs pend was_reset p talk h ways = tags-turn env w out vs was_reset talk pend p h ways number nodes

pub contents-keep : ContentsKeep
contents-keep from r env w out vs pend was_reset p talk h ways = comes-turn env w out vs was_reset talk pend p h ways from r

pub reads-keep : ReadsKeep
reads-keep r env w out vs pend was_reset p talk h ways = reads-turn env w out vs was_reset talk pend p h ways r

pub timer-keeps : NodeTimerKeeps
timer-keeps env w out vs pend was_reset p talk h ways = fires-turn env w out vs was_reset talk pend p h ways

pub leaves-keep : LeavesKeep
leaves-keep env w out vs pend was_reset p talk h ways = leaves-turn env w out vs was_reset talk pend p h ways

pub offers-keep : OffersKeep
offers-keep env w out vs pend was_reset p b count talk h frozen other =
    offers-turn env w out vs was_reset talk pend p b count h frozen (offer_decision env.leaving env.epoch p.row p.beside) other
