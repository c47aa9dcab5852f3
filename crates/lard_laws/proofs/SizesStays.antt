-- Each rule of a stay leaves its client told of all that came, and asks for what its batch is.
use Rattle.std.proofs.Common.{◌≡◌, ◌+◌, ℕ, true, List, [], ◌++◌, length, take, Some, None, inl, inr, refl, sym, ap, ◌∙◌, subst, arith}
use Rattle.lard_law_view.specs.Prelude.{Conn, ControlBlock, Ending, FilesAt, IsWord, NodeDeed, NodeEnv, NodePart, Numbers, Progress, Said, Stay, Talk, Turn, Verdict, Work, after_timer, again_sent, came_for, come_progress, gives_back, goes_on, kept_after, may_give_back, node_fired, on_segment, read_progress, serving, serving_ready_of, spoken, tagged, timed, verdicts, without, work_of}
use Rattle.lard_base.specs.declared.place.TimerKind.TheVariants as timer
use Rattle.lard_law_connections.proofs.AwaitsNodes.{HasServed, spoken-served}
use Rattle.lard_law_connections.specs.BytesKeeping.{IsTalk}
use Rattle.lard_law_connections.proofs.BytesHolding.{heard-so}
use Rattle.lard_law_connections.proofs.BytesServing.{So}
use Rattle.lard_law_connections.proofs.BytesStays.{IsHeld, same-works}
use Rattle.lard_law_connections.proofs.BytesWorking.{Right, Works, came-so, goes-so, tagged-so}
use Rattle.lard_law_connections.proofs.BytesWays.{KeepsWay, came-right, come_progress-on, read_progress-on, tagged-right}
use Rattle.lard_law_connections.proofs.LineHolding.{EndsHeld}
use Rattle.lard_law_connections.proofs.LineSpeaking.{IsSound, IsTold}
use Rattle.lard_law_connections.proofs.PlacesLoops.{came-notes, goes-notes, tagged-notes}
use Rattle.lard_law_connections.proofs.PlacesNodeRules.{plain-more}
use Rattle.lard_law_connections.proofs.PlacesRows.{IsPlain}
use Rattle.lard_laws.specs.Sizes.{SizeMarks}
use Rattle.lard_laws.proofs.SizesEntering.{Grows, came-grows, tagged-grows}
use Rattle.lard_laws.proofs.SizesReading.{AskSo, Fits, HasGood, HasGoodBehind}
use Rattle.lard_laws.proofs.SizesTaken.{plain-taken}
use Rattle.lard_laws.proofs.SizesTelling.{IsQuiet, fired-held, heard-quiet}
use Rattle.lard_laws.proofs.SizesTurns.{DeedFits, PartReach, SaysFit, back-fits, ended-says, goes-back-fits, goes-on-fits, now_told, part-left, past_take_over}
use Rattle.lard_history.proofs.Each.{Each, Each-append}
use Rattle.lard_rules.proofs.NodeCases.{Turned}
use Rattle.lard_rules.specs.Node.{Does}
use Rattle.lard_rules.specs.declared.places.Ending.TheVariants as ending

-- ---- the rules of a stay that is here, which agrees

pub record IsAgreeing (env : NodeEnv) (u : ℕ) (past : SizeMarks) (l : Talk) (pend : List Verdict) (b : ControlBlock) (s : Stay) : Type 0 where
  pub talk : IsTalk env l.w l.out l.vs
  pub num : Numbers
  pub numbers : past.numbers ≡ Some num
  pub isn : num.isn ≡ l.w.first
  pub wrote : past.wrote ≡ l.w.bytes
  pub counted : past.served ≡ length l.vs
  pub held : IsHeld env l.w l.out l.vs l.was_reset pend (b, s)
  pub told : IsTold past.told b
  pub read : u ≡ s.served + length s.batch
  pub good : HasGood env l.w l.out l.vs u past.taken (s.served + length s.batch)

module _ (env : NodeEnv) (x : Conn) (n u : ℕ) (past : SizeMarks) (l : Talk) (pend : List Verdict) (p : NodePart) (b : ControlBlock) (s : Stay) (a : IsAgreeing env u past l pend b s) where
  abbrev fs : FilesAt
  fs = env.serve.files

  abbrev pub Fit : NodeDeed → Type 0
  Fit d = DeedFits fs env.serve.c x n u past d

  none-said : (now : SizeMarks) → Each (SaysFit fs env.serve.c x n u past now) []
  none-said now = tt

  -- as many are read
  read-still : (d : ControlBlock) (k : Work) → Grows (work_of d s) k 0 → s.served + length s.batch ≡ k.service.count + length k.batch
  read-still d k g = let c = g.count in let size = g.size in omega (arith, c, size)

  -- it begins a turn as it is, but for its endpoint
  begins-fit : (d : ControlBlock) (k : Work) → Grows (work_of d s) k 0 → Fits env l.w l.out l.vs u past.taken k
  begins-fit d k g = record {
    good = subst (HasGood env l.w l.out l.vs u past.taken) (read-still d k g) a.good;
    reach = inl (sym (read-still d k g) ∙ sym a.read);
    asked = subst (AskSo env l.w l.out l.vs u past.taken k) (sym g.asked) tt;
  }

  -- no node takes it
  goes-turn : (d : ControlBlock) (part : NodePart) (k : Work) → Grows (work_of d s) k 0 → Works env l.w l.out l.vs k → Right env l.w l.out l.vs k
      → IsQuiet past.told d → Each IsPlain k.service.notes → Turned Fit env part [] (goes_on env k)
  goes-turn d part k g works right quiet plain =
      let fits = begins-fit d k g in
      let still : IsQuiet past.told k.service.block = subst (IsQuiet past.told) (sym g.block) quiet in
      let after = goes-so env l.w l.out l.vs a.talk.most k works right in
      let took = plain-taken env.serve.c (past_take_over fs env.serve.c x n u past) (goes_on env k).service.notes (goes-notes (Each IsPlain) plain-more env k plain) in (
        λ rests. goes-on-fits env x n u past.taken past l.w l.out l.vs a.talk a.num a.numbers a.isn a.wrote a.counted part [] none-said k works right fits still after took,
        λ back. goes-back-fits env x n u past.taken past l.w l.out l.vs a.talk a.num a.numbers a.isn a.wrote a.counted part [] none-said k works right fits still after took back,
      )

  same-grows : (d : ControlBlock) → Grows (work_of d s) (work_of d s) 0
  same-grows d = record { block = refl; count = refl; asked = refl; size = omega arith }

  quiet-so : IsQuiet past.told b
  quiet-so calm = inr a.told

  same : Works env l.w l.out l.vs (work_of b s)
  same = same-works env l.w l.out l.vs l.was_reset pend (b, s) a.talk.says a.held

  pub leaves-fit : may_give_back env (work_of b s) ≡ true → Fit (gives_back env p [] (work_of b s))
  leaves-fit back = back-fits env x n u past.taken past l.w l.out l.vs a.talk a.num a.numbers a.isn a.wrote a.counted (work_of b s) same (begins-fit b (work_of b s) (same-grows b)) quiet-so refl p back

  pub hears-fit : (said : Said) → IsWord l.w said → Turned Fit env p [] (goes_on env (work_of (on_segment b said).1 s))
  hears-fit said word =
      let d : ControlBlock = (on_segment b said).1 in
      goes-turn d p (work_of d s) (same-grows d)
      (subst (So env.serve l.w l.out l.vs (serving d s.served [])) a.held.0 (heard-so env.serve l.w l.out l.vs a.talk.says pend b s.served a.held.1 a.talk.stream said word)) a.held.2
      (heard-quiet past.told b said a.held.1.not_reset a.told) tt

  pub tags-fit : (nodes : List ℕ) → Turned Fit env (record p { kept = without timer.Ask 0 p.kept }) [] (goes_on env (tagged env nodes (work_of b s)))
  tags-fit nodes =
      let k : Work = work_of b s in
      goes-turn b (record p { kept = without timer.Ask 0 p.kept }) (tagged env nodes k) (tagged-grows env nodes k) (tagged-so env l.w l.out l.vs nodes k same) (tagged-right env nodes k a.held.2) quiet-so (tagged-notes (Each IsPlain) plain-more env nodes k tt)

  came-fit : (part : NodePart) (f : Progress → Progress) → KeepsWay fs f → (i : ℕ) → Turned Fit env part [] (goes_on env (came_for f i (work_of b s)))
  came-fit part f on i =
      let k : Work = work_of b s in goes-turn b part (came_for f i k) (came-grows f i k) (came-so env l.w l.out l.vs f i k same) (came-right fs f on i k a.held.2) quiet-so (came-notes (Each IsPlain) plain-more f i k tt)

  pub comes-fit : (from i : ℕ)
      → Turned Fit env (record p { fetches = without timer.Fetch i p.fetches }) [] (goes_on env (came_for (come_progress from) i (work_of b s)))
  comes-fit from i = came-fit (record p { fetches = without timer.Fetch i p.fetches }) (come_progress from) (come_progress-on fs from) i

  pub reads-fit : (i : ℕ) → Turned Fit env p [] (goes_on env (came_for read_progress i (work_of b s)))
  reads-fit i = came-fit p read_progress (read_progress-on fs) i

  -- ---- its timer fires: what is kept was sent before

  row-reach : (d : ControlBlock) (e : Ending) → HasServed s.served e → PartReach u past.wrote (kept_after env p (work_of d s) e)
  row-reach d (ending.Here b count) served = inl (ap (λ (j : ℕ). j + length s.batch) served ∙ sym a.read)
  row-reach d (ending.Over last) served = tt

  pub fires-fit : ((now : SizeMarks) → Each (SaysFit fs env.serve.c x n u past now) (again_sent p))
      → Fit (Does (node_fired env p (b, s) (spoken env.serve (serving (after_timer b) s.served []) (serving_ready_of env.serve (after_timer b) (timed b)))))
  fires-fit again =
      let sound : IsSound b = record { block = a.held.1.sound; number = λ e. a.held.1.speaks.number } in
      let given : Ending × Turn = spoken env.serve (serving (after_timer b) s.served []) (serving_ready_of env.serve (after_timer b) (timed b)) in
      let ends : EndsHeld env.serve.c past.told [] given = fired-held env.serve past.told b sound a.held.1.not_reset a.told s.served in
      let served : HasServed s.served given.0 = spoken-served env.serve (serving (after_timer b) s.served []) (serving_ready_of env.serve (after_timer b) (timed b)) in
      let now : SizeMarks = now_told fs env.serve.c x n u past given.1.notes given.1.segments in
      record {
        each = tt;
        to = ends.to;
        left = part-left fs now env p (work_of (after_timer b) s) given.0 ends.held served (subst (λ (w : List ℕ). HasGoodBehind fs past.taken (take (s.served + length s.batch) (verdicts w))) (sym a.wrote) a.good);
        reach = row-reach (after_timer b) given.0 served;
        says = Each-append (SaysFit fs env.serve.c x n u past now) ((again_sent p ++ []) ++ []) _
            (Each-append (SaysFit fs env.serve.c x n u past now) (again_sent p ++ []) [] (Each-append (SaysFit fs env.serve.c x n u past now) (again_sent p) [] (again now) tt) tt)
            (ended-says env x n u past.taken past l.w l.out l.vs a.talk a.num a.numbers a.isn a.wrote a.counted now None given.0);
      }
