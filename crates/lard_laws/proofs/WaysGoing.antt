-- A stay goes on turn by turn, from where it was, from what came for one of its requests, from a Tag, or from its first batch.
use Rattle.std.proofs.Common.{◌≡◌, ◌≤◌, ◌^◌, ◌+◌, ◌-◌, nat_lt, ℕ, Bool, true, false, List, [], ◌∷◌, ◌++◌, map, length, take, Option, Some, None, inl, inr, ⊎_elim, refl, sym, ap, ◌∙◌, subst, arith, append_assoc, append-nil}
use Rattle.std.proofs.lemmas.Bool.{and_parts, cond_both}
use Rattle.std.specs.Prelude.{not, ◌&&◌}
use Rattle.lard_law_view.specs.Prelude.{Asked, ControlBlock, Entry, FilesAt, FrontRest, NodeEnv, Progress, Service, Stay, Stream, Verdict, Work, asks_for, batch_of, bytes_used, came_for, come_on, enters, enters_first, goes_on, good_path, may_read, named_paths, read_entry, reads_these, serving_consumed, started_here, state_of, tagged, verdicts, work_of}
use Rattle.lard_law_connections.proofs.BytesWorking.{Right, Works, going_so}
use Rattle.lard_laws.specs.WaysState.{StayAsks, StayGoes, given_to}
use Rattle.lard_laws.specs.WaysUnder.{Assigned, Under}
use Rattle.lard_laws.specs.Ways.{WayMarks, good_paths}
use Rattle.lard_laws.proofs.WaysEntering.{AllStarted, Begun, Enters, all-start, begun-under, enters-both, here-begins, read-enter, read-under}
use Rattle.lard_laws.proofs.WaysLying.{KeepsStarted, came-named, came-under, under-append}
use Rattle.lard_laws.proofs.WaysMarking.{Rightly, marked}
use Rattle.lard_laws.proofs.WaysStaying.{AskIn, Goes, Home, StepReads, answered-goes, these-go, asks-go, entered-notes, entered-told, entered-walked, unasked, works-read}
use Rattle.lard_rules.proofs.StayWalking.{StepIn, both-going, goes-in}

none-over : (o : Option ℕ) → elim o [ None ↦ true | Some total ↦ false ] ≡ true → o ≡ None
none-over None e = refl
none-over (Some total) e = absurd cc

-- nothing is to be reset where it may read
may-none : (s : Service) → may_read s ≡ true → s.over ≡ None
may-none s may =
    let limit : Bool = elim s.over [ None ↦ true | Some total ↦ false ] in
    none-over s.over (and_parts (not s.block.send.finished) limit (and_parts (not s.block.reset) (not s.block.send.finished && limit) may).1).1

module _ (env : NodeEnv) (m : WayMarks) (r : FrontRest) (Before : List (List ℕ) → Type 0) (home : Home env m) (w out : Stream) (vs : List Verdict) (wrote : m.wrote ≡ w.bytes) where
  abbrev It : Work → Type 0
  It k = Goes env m r Before k

  -- it agrees, and each request of the batch is answered as it may be
  abbrev Agrees : Work → Type 0
  Agrees k = Right env w out vs k × Works env w out vs k

  asks-service : (size : ℕ) (paths : List (List ℕ)) (k : Work) → (asks_for env size paths k).service ≡ k.service
  asks-service size [] k = refl
  asks-service size (path ∷ paths) k = refl

  -- behind a batch that was read nothing is to be reset
  reads-later : (here : Bool) (used : ℕ) (k : Work) (us : List Verdict) → ((r : ℕ) (v : Verdict) (us : List Verdict) (start : Work) → (enters env here r (v ∷ us) start).service.over ≡ start.service.over) → k.service.over ≡ None
      → StepIn Agrees Agrees (reads_these env here used k us) → StepReads env m r Before (reads_these env here used k us)
  reads-later here used k [] over none h = tt
  reads-later here used k (v ∷ us) over none h =
      let start : Work = record k { service = serving_consumed used k.service } in
      let all : Work = enters env here (k.service.count + 1) (v ∷ us) start in
      works-read env m r Before w out vs wrote (asks_for env (length (v ∷ us)) (named_paths env.serve.files all.batch) all) h.1
      (ap (λ (s : Service). s.over) (asks-service (length (v ∷ us)) (named_paths env.serve.files all.batch) all) ∙ over (k.service.count + 1) v us start ∙ none)

  plain-over : (n : ℕ) (v : Verdict) (us : List Verdict) (start : Work) → (enters env false n (v ∷ us) start).service.over ≡ start.service.over
  plain-over n v us start = ap (λ (s : Service). s.over) (read-enter env n (v ∷ us) start).service

  -- the stay goes on
  pub stay-goes : env.serve.stream ≤ 2 ^ 30 → (k : Work) → Works env w out vs k → Right env w out vs k → It k → It (goes_on env k)
  stay-goes most k works right h = (goes-in env (λ k. Agrees k × It k) (λ k. Agrees k × It k) (both-going env Agrees It (going_so env w out vs most) (record {
    reads = λ k none may agrees it steps.
        let us : List Verdict = batch_of 8 k.service.block.recv.unread in
        let used : ℕ = bytes_used 8 k.service.block.recv.unread in
        these-go env m r Before used k us none it (reads-later false used k us plain-over (may-none k.service may) steps);
    serves = λ way e rest k may first is agrees it. answered-goes env m r Before home k e rest first way is it (works-read env m r Before w out vs wrote k agrees.1 (may-none k.service may));
  })) k ((right, works), h)).1

-- ---- where it was

module _ (env : NodeEnv) (m : WayMarks) (r : FrontRest) where
  abbrev files : FilesAt
  files = env.serve.files

  -- an Ask of the stay names its batch
  abbrev pub Awaits : Stay → List (List ℕ) → Type 0
  Awaits s ps = StayAsks files (r.asks + 1) ps (Some s)

  pub work-goes : (b : ControlBlock) (s : Stay) → m.served ≡ s.served → m.fresh ≡ false → StayGoes files env.n m r s → Goes env m r (Awaits s) (work_of b s)
  work-goes b s served fresh h = record {
    noted_so = tt;
    told = λ i. record m { served = served i; fresh = fresh i };
    gone = h.gone;
    under = h.under;
    walked = h.walked ∙ ap (λ (n : ℕ). good_paths files (take n (verdicts m.wrote))) served;
    lies = h.lies;
    asking = h.asking;
    asked = tt;
    kept = λ ps a. a;
  }

  -- ---- what came for one of its requests

  module _ (Before : List (List ℕ) → Type 0) where
    pub came-goes : (f : Progress → Progress) → KeepsStarted files env.n f → (i : ℕ) (k : Work) → Goes env m r Before k → Goes env m r Before (came_for f i k)
    came-goes f keeps i k h = cond_both (nat_lt k.service.count i) (record k { batch = come_on f (i - (k.service.count + 1)) k.batch }) k (Goes env m r Before) (λ t. came) (λ t. h) where
      names : named_paths files (come_on f (i - (k.service.count + 1)) k.batch) ≡ named_paths files k.batch
      names = came-named files env.n f keeps (i - (k.service.count + 1)) k.batch

      asked-on : (o : Option Asked) → AskIn env m r Before k o → AskIn env m r Before (record k { batch = come_on f (i - (k.service.count + 1)) k.batch }) o
      asked-on None a = tt
      asked-on (Some q) a = (a.0, (a.1.0, a.1.1 ∙ sym names), a.2)

      came : Goes env m r Before (record k { batch = come_on f (i - (k.service.count + 1)) k.batch })
      came = record {
        noted_so = h.noted_so;
        told = h.told;
        gone = h.gone;
        under = h.under;
        walked = h.walked;
        lies = came-under files env.n f keeps (i - (k.service.count + 1)) k.batch h.under h.lies;
        asking = ⊎_elim
            (λ (a : (k.asks ≡ r.asks) × (m.assigned ≡ (h.gone ++ h.under) ++ given_to (named_paths files k.batch) r.tag)). inl (a.0, a.1 ∙ ap (λ (ps : List (List ℕ)). (h.gone ++ h.under) ++ given_to ps r.tag) (sym names)))
            (λ (a : (k.asks ≡ r.asks + 1) × (m.assigned ≡ h.gone ++ h.under) × (named_paths files k.batch ≡ [] → ⊥)). inr (a.0, a.1, λ e. a.2 (sym names ∙ e))) h.asking;
        asked = asked-on k.asked h.asked;
        kept = λ ps b. let a = h.kept ps b in (a.0, a.1 ∙ sym names);
      }

    -- ---- the Tag of its last Ask

    pub tagged-goes : (k : Work) → Goes env m r Before k → k.asked ≡ None → k.asks ≡ r.asks → length r.tag ≡ length (named_paths files k.batch) → Goes env m r Before (tagged env r.tag k)
    tagged-goes k h unasked same size =
        let start : Work = record k { batch = [] } in
        let v : Work = tagged env r.tag k in
        let all : AllStarted env start v (h.under ++ given_to (named_paths files k.batch) r.tag) = all-start env r.tag [] r.tag 0 (k.service.count + 1) k.batch start h.under refl refl size h.lies in
        let assigned : m.assigned ≡ (h.gone ++ h.under) ++ given_to (named_paths files k.batch) r.tag = ⊎_elim
        (λ (a : (k.asks ≡ r.asks) × (m.assigned ≡ (h.gone ++ h.under) ++ given_to (named_paths files k.batch) r.tag)). a.1)
        (λ (a : (k.asks ≡ r.asks + 1) × (m.assigned ≡ h.gone ++ h.under) × (named_paths files k.batch ≡ [] → ⊥)). absurd (omega (arith, same, a.0))) h.asking in
        let names : named_paths files v.batch ≡ [] = ap (named_paths files) all.enters.batch ∙ all.none in
        record {
          noted_so = entered-notes env m r Before start v all.es all.enters h.noted_so;
          told = entered-told env m r Before start v all.es all.enters h.told;
          gone = h.gone;
          under = h.under ++ given_to (named_paths files k.batch) r.tag;
          walked = entered-walked env m r Before start v all.es h.gone all.enters h.walked;
          lies = subst (λ (es : List Entry). Under files env.n es (h.under ++ given_to (named_paths files k.batch) r.tag)) (sym all.enters.batch) all.under;
          asking = inl (
            all.enters.asks ∙ same,
            assigned ∙ append_assoc h.gone h.under (given_to (named_paths files k.batch) r.tag) ∙ sym (append-nil (h.gone ++ (h.under ++ given_to (named_paths files k.batch) r.tag)))
                ∙ ap (λ (ps : List (List ℕ)). (h.gone ++ (h.under ++ given_to (named_paths files k.batch) r.tag)) ++ given_to ps r.tag) (sym names),
          );
          asked = subst (AskIn env m r Before v) (sym (all.enters.asked ∙ unasked)) tt;
          kept = λ ps b. let a = h.kept ps b in absurd (omega (arith, same, a.0));
        }

-- ---- its first batch

module _ (env : NodeEnv) (m : WayMarks) (r : FrontRest) (before : List Assigned) (path : List ℕ) (assigned : m.assigned ≡ before ++ (path, env.n) ∷ []) (w out : Stream) (vs : List Verdict) (wrote : m.wrote ≡ w.bytes) where
  abbrev Never : List (List ℕ) → Type 0
  Never ps = ⊥

  -- the first of these requests is the one that was assigned last
  pub first-goes : (used : ℕ) (k : Work) (v : Verdict) (us : List Verdict) → good_path env.serve.files v ≡ Some path → k.batch ≡ [] → k.asked ≡ None → k.asks ≡ r.asks → k.service.over ≡ None
      → Rightly env.serve.files m k.service.notes → marked m k.service.notes ≡ record m { served = k.service.count; fresh = false } → map (λ a. a.0) before ≡ good_paths env.serve.files (take k.service.count (verdicts m.wrote))
      → Works env w out vs (state_of (reads_these env true used k (v ∷ us))) → Goes env m r Never (state_of (reads_these env true used k (v ∷ us)))
  unfolding enters
  first-goes used k v us good none quiet same over notes told answered so =
      let files : FilesAt = env.serve.files in
      let start : Work = record k { service = serving_consumed used k.service } in
      let n : ℕ = k.service.count + 1 in
      let one : Work = started_here env n path v start in
      let all : Work = enters env false (n + 1) us one in
      let whole : Work = enters env true n (v ∷ us) start in
      let is : whole ≡ all = ap (λ (o : Option (List ℕ)). enters env (enters_first env n v start o).0 (n + 1) us (enters_first env n v start o).1) good in
      let b : Begun env env.n env.n v start one = here-begins env env.n n path v start in
      let more : Enters one all (map (read_entry files) us) = read-enter env (n + 1) us one in
      let e : Enters start all ((b.entry ∷ []) ++ map (read_entry files) us) = enters-both start one all (b.entry ∷ []) (map (read_entry files) us) b.enters more in
      let batch : all.batch ≡ (b.entry ∷ []) ++ map (read_entry files) us = e.batch ∙ ap (λ (es : List Entry). es ++ ((b.entry ∷ []) ++ map (read_entry files) us)) none in
      let under : Under files env.n all.batch ((path, env.n) ∷ []) = subst (λ (es : List Entry). Under files env.n es ((path, env.n) ∷ [])) (sym batch)
      (under-append files env.n (b.entry ∷ []) (map (read_entry files) us) ((path, env.n) ∷ []) [] (inr refl) (begun-under env env.n env.n v path start one b good) (read-under env env.n us)) in
      let size : ℕ = length (v ∷ us) in
      let in_hand : Work → Work = λ u. asks_for env size (named_paths files u.batch) u in
      let later : Works env w out vs (in_hand all) = subst (λ (u : Work). Works env w out vs (in_hand u)) is so in
      let over_all : (in_hand all).service.over ≡ None = ap (λ (s : Service). s.over) (asks-service_of size (named_paths files all.batch) all) ∙ ap (λ (s : Service). s.over) e.service ∙ over in
      let reads = works-read env m r Never w out vs wrote (in_hand all) later over_all in
      subst (λ (u : Work). Goes env m r Never (in_hand u)) (sym is)
      (asks-go env m r Never size (named_paths files all.batch) all refl (unasked env m r Never size (named_paths files all.batch) all reads) (e.asks ∙ same) (e.asked ∙ unasked_now)
      (entered-notes env m r Never start all _ e notes) (entered-told env m r Never start all _ e told) before ((path, env.n) ∷ []) assigned
      (entered-walked env m r Never start all _ before e answered) under (λ ps b. b)) where
        unasked_now : k.asked ≡ None
        unasked_now = quiet

        asks-service_of : (size : ℕ) (paths : List (List ℕ)) (u : Work) → (asks_for env size paths u).service ≡ u.service
        asks-service_of size [] u = refl
        asks-service_of size (path ∷ paths) u = refl
