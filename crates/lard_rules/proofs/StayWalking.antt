-- The one walk over each loop of a stay: the requests of a batch are entered one by one, the stay goes on turn by turn, and the nodes of a
-- Tag go to the requests that it is for. A law says what each piece keeps; it may be another fact while a batch is read, behind its Ask,
-- and where the stay stops.
use Rattle.std.proofs.Common.{◌≡◌, ℕ, zero, suc, ◌+◌, ◌<◌, ◌==◌, Bool, true, false, cond, List, [], ◌∷◌, length, slice_get, Option, Some, None, refl, sym, ap, ◌∙◌, arith}
use Rattle.std.proofs.lemmas.Bool.{both_ways, cond_both}
use Rattle.std.proofs.lemmas.List.{length_push}
use Rattle.std.proofs.lemmas.Option.{slice_get-get_or}
use Rattle.std.specs.Prelude.{get_or}
use Rattle.lard_answers.specs.Answers.{good_path}
use Rattle.lard_base.specs.declared.place.Via.{Via}
use Rattle.lard_base.specs.declared.place.Via.TheVariants as via
use Rattle.lard_request.specs.declared.verdict.Verdict.{Verdict}
use Rattle.lard_rules.specs.declared.stay.Entry.{Entry}
use Rattle.lard_rules.specs.declared.stay.Next.{Next}
use Rattle.lard_rules.specs.declared.stay.Next.TheVariants as next
use Rattle.lard_rules.specs.declared.stay.Progress.{Progress}
use Rattle.lard_rules.specs.declared.stay.Progress.TheVariants as progress
use Rattle.lard_rules.specs.Loop.{Step, More, Done, runs_on, state_of}
use Rattle.lard_rules.specs.Serving.{answered, serving_consumed, ended_at_fin, may_read}
use Rattle.lard_rules.specs.Stay.{NodeEnv, Work, and_path, asks_for, entered, enters, enters_first, enters_one, goes_on, hit_here, work_left, named_path, named_paths, next_in, path_in, queued_here, read_entry, reads_batch, reads_these, serves_by, serves_first, serves_with, started, started_here, started_there, starts_at, starts_named, starts_one, stay_turn, tagged, turned}
use Rattle.lard_rules.proofs.StayFalling.{falls, none-left}

-- the number of the request that is entered next
abbrev pub next_number : Work → ℕ
next_number w = (w.service.count + 1) + length w.batch

-- P is so of a step that more follow, and D of the last one
abbrev pub StepIn : (Work → Type 0) → (Work → Type 0) → Step Work → Type 0
StepIn P D (More w) = P w
StepIn P D (Done w) = D w

pub state-in : (P : Work → Type 0) (s : Step Work) → StepIn P P s → P (state_of s)
state-in P (More w) h = h
state-in P (Done w) h = h

here-next : (env : NodeEnv) (r : ℕ) (path : List ℕ) (v : Verdict) (w : Work) → r ≡ next_number w → r + 1 ≡ next_number (started_here env r path v w)
here-next env r path v w is = cond_both (env.cached path) (hit_here env path v w) (queued_here env r path v w) (λ (u : Work). r + 1 ≡ next_number u)
    (λ t. omega (arith, is, length_push w.batch (record { verdict = v; progress = progress.Ready via.Cache }))) (λ t. omega (arith, is, length_push w.batch (record { verdict = v; progress = progress.Reading })))

started-next : (env : NodeEnv) (node r : ℕ) (path : List ℕ) (v : Verdict) (w : Work) → r ≡ next_number w → r + 1 ≡ next_number (started env node r path v w)
started-next env node r path v w is = cond_both (node == env.n) (started_here env r path v w) (started_there node r path v w) (λ (u : Work). r + 1 ≡ next_number u)
    (λ t. here-next env r path v w is) (λ t. omega (arith, is, length_push w.batch (record { verdict = v; progress = progress.Awaited node })))

-- ---- a batch is read

-- While a batch of so many is read, E is so of the requests that are still to be entered: the first for a file starts by a hit or a job where
-- it was assigned with the connection, each other is entered as it was read. Then P is so, with an Ask for those that have no node.
pub record KeptByReads (env : NodeEnv) (size : ℕ) (E : Bool → List Verdict → Work → Type 0) (P : Work → Type 0) : Type 0 where
  pub hits : (r : ℕ) (path : List ℕ) (v : Verdict) (vs : List Verdict) (w : Work) → good_path env.serve.files v ≡ Some path → r ≡ next_number w → env.cached path ≡ true → E true (v ∷ vs) w → E false vs (hit_here env path v w)
  pub queues : (r : ℕ) (path : List ℕ) (v : Verdict) (vs : List Verdict) (w : Work) → good_path env.serve.files v ≡ Some path → r ≡ next_number w → env.cached path ≡ false → E true (v ∷ vs) w → E false vs (queued_here env r path v w)
  pub enters : (here : Bool) (v : Verdict) (vs : List Verdict) (w : Work) → (here ≡ true → good_path env.serve.files v ≡ None) → E here (v ∷ vs) w → E here vs (entered (read_entry env.serve.files v) w)
  pub plain : (here : Bool) (w : Work) → named_paths env.serve.files w.batch ≡ [] → E here [] w → P w
  pub asks : (here : Bool) (path : List ℕ) (paths : List (List ℕ)) (w : Work) → named_paths env.serve.files w.batch ≡ path ∷ paths → E here [] w → P (asks_for env size (path ∷ paths) w)

module _ (env : NodeEnv) (size : ℕ) (E : Bool → List Verdict → Work → Type 0) (P : Work → Type 0) (kept : KeptByReads env size E P) where
  -- it is so of what follows, and the next request has number r
  abbrev EntersIn : ℕ → List Verdict → Bool × Work → Type 0
  EntersIn r vs one = E one.0 vs one.1 × (r ≡ next_number one.1)

  here-in : (r : ℕ) (path : List ℕ) (v : Verdict) (vs : List Verdict) (w : Work) → good_path env.serve.files v ≡ Some path → E true (v ∷ vs) w → r ≡ next_number w → EntersIn (r + 1) vs (false, started_here env r path v w)
  here-in r path v vs w good h is = (
    cond_both (env.cached path) (hit_here env path v w) (queued_here env r path v w) (E false vs) (λ t. kept.hits r path v vs w good is t h) (λ f. kept.queues r path v vs w good is f h),
    here-next env r path v w is,
  )

  read-in : (here : Bool) (r : ℕ) (v : Verdict) (vs : List Verdict) (w : Work) → (here ≡ true → good_path env.serve.files v ≡ None) → E here (v ∷ vs) w → r ≡ next_number w → EntersIn (r + 1) vs (here, entered (read_entry env.serve.files v) w)
  read-in here r v vs w only h is = (kept.enters here v vs w only h, omega (arith, is, length_push w.batch (read_entry env.serve.files v)))

  first-in : (r : ℕ) (v : Verdict) (vs : List Verdict) (w : Work) (o : Option (List ℕ)) → good_path env.serve.files v ≡ o → E true (v ∷ vs) w → r ≡ next_number w → EntersIn (r + 1) vs (enters_first env r v w o)
  first-in r v vs w None good h is = read-in true r v vs w (λ t. good) h is
  first-in r v vs w (Some path) good h is = here-in r path v vs w good h is

  one-in : (here : Bool) (r : ℕ) (v : Verdict) (vs : List Verdict) (w : Work) → E here (v ∷ vs) w → r ≡ next_number w → EntersIn (r + 1) vs (enters_one env here r v w)
  one-in false r v vs w h is = read-in false r v vs w (λ t. absurd (both_ways false refl t)) h is
  one-in true r v vs w h is = first-in r v vs w (good_path env.serve.files v) refl h is

  -- the requests are entered, the first with number r
  pub all-in : (here : Bool) (r : ℕ) (vs : List Verdict) (w : Work) → E here vs w → r ≡ next_number w → (b : Bool) × E b [] (enters env here r vs w)
  unfolding enters
  all-in here r [] w h is = (here, h)
  all-in here r (v ∷ vs) w h is =
      let one : EntersIn (r + 1) vs (enters_one env here r v w) = one-in here r v vs w h is in
      all-in (enters_one env here r v w).0 (r + 1) vs (enters_one env here r v w).1 one.0 one.1

  asks-in : (here : Bool) (paths : List (List ℕ)) (w : Work) → named_paths env.serve.files w.batch ≡ paths → E here [] w → P (asks_for env size paths w)
  asks-in here [] w e h = kept.plain here w e h
  asks-in here (path ∷ paths) w e h = kept.asks here path paths w e h

  asking-in : (w : Work) → (b : Bool) × E b [] w → P (asks_for env size (named_paths env.serve.files w.batch) w)
  asking-in w h = asks-in h.0 (named_paths env.serve.files w.batch) w refl h.1

  -- the work behind a batch, and its Ask
  pub all-asked : (here : Bool) (vs : List Verdict) (w : Work) → w.batch ≡ [] → E here vs w
      → P (asks_for env size (named_paths env.serve.files (enters env here (w.service.count + 1) vs w).batch) (enters env here (w.service.count + 1) vs w))
  all-asked here vs w none h = asking-in (enters env here (w.service.count + 1) vs w) (all-in here (w.service.count + 1) vs w h (omega (arith, ap (λ (es : List Entry). length es) none)))

-- the bytes of these verdicts are taken; where there are none, the cluster's FIN follows the client's
pub these-in : (env : NodeEnv) (E : Bool → List Verdict → Work → Type 0) (P D : Work → Type 0) (here : Bool) (used : ℕ) (w : Work) (vs : List Verdict) → KeptByReads env (length vs) E P → w.batch ≡ []
    → (vs ≡ [] → D (record w { service = ended_at_fin (serving_consumed used w.service) })) → ((v : Verdict) (us : List Verdict) → vs ≡ v ∷ us → E here vs (record w { service = serving_consumed used w.service }))
    → StepIn P D (reads_these env here used w vs)
these-in env E P D here used w [] kept none ends takes = ends refl
these-in env E P D here used w (v ∷ vs) kept none ends takes = all-asked env (length (v ∷ vs)) E P kept here (v ∷ vs) (record w { service = serving_consumed used w.service }) none (takes v vs refl)

-- ---- turn by turn

-- P is kept by each turn: where no request is left the next batch is read, and the first is served once it is ready. Where the stay stops,
-- since the first is not ready, nothing may be read, nothing came, or the node leaves, D is so.
pub record KeptByGoing (env : NodeEnv) (P D : Work → Type 0) : Type 0 where
  pub reads : (w : Work) → w.batch ≡ [] → may_read w.service ≡ true → P w → StepIn P D (reads_batch env false w)
  pub serves : (way : Via) (e : Entry) (rest : List Entry) (w : Work) → may_read w.service ≡ true → w.batch ≡ e ∷ rest → e.progress ≡ progress.Ready way → P w
      → P (serves_with (answered env.serve way e.verdict w.service) e rest w)
  pub stops : (w : Work) → (may_read w.service ≡ true → next_in w.batch ≡ next.Stop) → P w → D w
  pub holds : (w : Work) → env.leaving ≡ true → w.batch ≡ [] → may_read w.service ≡ true → P w → D w

module _ (env : NodeEnv) (P D : Work → Type 0) (kept : KeptByGoing env P D) where
  serves-by-in : (e : Entry) (rest : List Entry) (w : Work) (p : Progress) → e.progress ≡ p → may_read w.service ≡ true → w.batch ≡ e ∷ rest → P w → P (serves_by env e rest w p)
  serves-by-in e rest w (progress.Ready way) is may first h = kept.serves way e rest w may first is h
  serves-by-in e rest w _ is may first h = h

  serves-first-in : (w : Work) (es : List Entry) → w.batch ≡ es → may_read w.service ≡ true → P w → P (serves_first env w es)
  serves-first-in w [] first may h = h
  serves-first-in w (e ∷ rest) first may h = serves-by-in e rest w e.progress refl may first h

  turned-in : (w : Work) (n : Next) → next_in w.batch ≡ n → may_read w.service ≡ true → P w → StepIn P D (turned env w n)
  turned-in w next.Serve is may h = serves-first-in w w.batch refl may h
  turned-in w next.Read is may h = cond_both env.leaving (Done w) (reads_batch env false w) (StepIn P D)
      (λ leaves. kept.holds w leaves (none-left w.batch is) may h) (λ stays. kept.reads w (none-left w.batch is) may h)
  turned-in w next.Stop is may h = kept.stops w (λ m. is) h

  turn-in : (w : Work) → P w → StepIn P D (stay_turn env w)
  turn-in w h = go (may_read w.service) refl where
    go : (b : Bool) → may_read w.service ≡ b → StepIn P D (turned env w (cond b (next_in w.batch) next.Stop))
    go true may = turned-in w (next_in w.batch) refl may h
    go false may = kept.stops w (λ m. let no : true ≡ false = sym m ∙ may in absurd (let f : ⊥ = cc in f)) h

  runs-in : (n : ℕ) (w : Work) → work_left w < n → P w → D (runs_on n (stay_turn env) w)
  unfolding runs_on
  runs-in zero w less h = absurd (omega (arith, less))
  runs-in (suc n) w less h = go (stay_turn env w) refl (turn-in w h) (runs-in n) where
    go : (s : Step Work) → stay_turn env w ≡ s → StepIn P D s → ((y : Work) → work_left y < n → P y → D (runs_on n (stay_turn env) y)) → D (elim s as (λ s. Work) [ More y ↦ runs_on n (stay_turn env) y | Done y ↦ y ])
    go (More y) e g later = let fall = falls env w y e in later y (omega (arith, fall, less)) g
    go (Done y) e g later = g

  -- the stay goes on
  pub goes-in : (w : Work) → P w → D (goes_on env w)
  goes-in w h = runs-in (work_left w + 1) w (omega arith) h

-- Q is kept where P is: a law that rests on another one.
pub record KeptGiven (env : NodeEnv) (P Q : Work → Type 0) : Type 0 where
  pub reads : (w : Work) → w.batch ≡ [] → may_read w.service ≡ true → P w → Q w → StepIn P P (reads_batch env false w) → StepIn Q Q (reads_batch env false w)
  pub serves : (way : Via) (e : Entry) (rest : List Entry) (w : Work) → may_read w.service ≡ true → w.batch ≡ e ∷ rest → e.progress ≡ progress.Ready way → P w → Q w
      → Q (serves_with (answered env.serve way e.verdict w.service) e rest w)

pub both-in : (P Q : Work → Type 0) (s : Step Work) → StepIn P P s → StepIn Q Q s → StepIn (λ w. P w × Q w) (λ w. P w × Q w) s
both-in P Q (More w) p q = (p, q)
both-in P Q (Done w) p q = (p, q)

pub both-going : (env : NodeEnv) (P Q : Work → Type 0) → KeptByGoing env P P → KeptGiven env P Q → KeptByGoing env (λ w. P w × Q w) (λ w. P w × Q w)
both-going env P Q kept given = record {
  reads = λ w none may h. let p : StepIn P P (reads_batch env false w) = kept.reads w none may h.0 in both-in P Q (reads_batch env false w) p (given.reads w none may h.0 h.1 p);
  serves = λ way e rest w may first is h. (kept.serves way e rest w may first is h.0, given.serves way e rest w may first is h.0 h.1);
  stops = λ w may h. h;
  holds = λ w leaves none may h. h;
}

-- ---- a Tag comes

-- S is so of the requests of the batch that are left, with the place of the next node: where there is one, a request that is named starts by
-- a hit, by a job, or by a Fetch from it; any other stays as it is.
pub record KeptByStarts (env : NodeEnv) (nodes : List ℕ) (S : ℕ → List Entry → Work → Type 0) : Type 0 where
  pub stays : (at r : ℕ) (e : Entry) (es : List Entry) (w : Work) → r ≡ next_number w → named_path env.serve.files e ≡ None → S at (e ∷ es) w → S at es (entered e w)
  pub short : (at r : ℕ) (path : List ℕ) (e : Entry) (es : List Entry) (w : Work) → r ≡ next_number w → named_path env.serve.files e ≡ Some path → slice_get nodes at ≡ None → S at (e ∷ es) w → S at es (entered e w)
  pub hits : (at node r : ℕ) (path : List ℕ) (e : Entry) (es : List Entry) (w : Work) → r ≡ next_number w → named_path env.serve.files e ≡ Some path → slice_get nodes at ≡ Some node → (node == env.n) ≡ true → env.cached path ≡ true → S at (e ∷ es) w
      → S (at + 1) es (hit_here env path e.verdict w)
  pub queues : (at node r : ℕ) (path : List ℕ) (e : Entry) (es : List Entry) (w : Work) → r ≡ next_number w → named_path env.serve.files e ≡ Some path → slice_get nodes at ≡ Some node → (node == env.n) ≡ true → env.cached path ≡ false → S at (e ∷ es) w
      → S (at + 1) es (queued_here env r path e.verdict w)
  pub wants : (at node r : ℕ) (path : List ℕ) (e : Entry) (es : List Entry) (w : Work) → r ≡ next_number w → named_path env.serve.files e ≡ Some path → slice_get nodes at ≡ Some node → (node == env.n) ≡ false → S at (e ∷ es) w
      → S (at + 1) es (started_there node r path e.verdict w)

module _ (env : NodeEnv) (nodes : List ℕ) (S : ℕ → List Entry → Work → Type 0) (kept : KeptByStarts env nodes S) where
  abbrev StartsIn : ℕ → ℕ → List Entry → Bool × Work → Type 0
  StartsIn at r es one = S (cond one.0 (at + 1) at) es one.1 × (r ≡ next_number one.1)

  split-in : (at node r : ℕ) (path : List ℕ) (e : Entry) (es : List Entry) (w : Work) → r ≡ next_number w → named_path env.serve.files e ≡ Some path → slice_get nodes at ≡ Some node → S at (e ∷ es) w → S (at + 1) es (started env node r path e.verdict w)
  split-in at node r path e es w is named there h = cond_both (node == env.n) (started_here env r path e.verdict w) (started_there node r path e.verdict w) (S (at + 1) es)
      (λ t. cond_both (env.cached path) (hit_here env path e.verdict w) (queued_here env r path e.verdict w) (S (at + 1) es) (λ c. kept.hits at node r path e es w is named there t c h) (λ c. kept.queues at node r path e es w is named there t c h))
      (λ f. kept.wants at node r path e es w is named there f h)

  stay-next : (r : ℕ) (e : Entry) (w : Work) → r ≡ next_number w → r + 1 ≡ next_number (entered e w)
  stay-next r e w is = omega (arith, is, length_push w.batch e)

  named-in : (at node r : ℕ) (e : Entry) (es : List Entry) (w : Work) (o : Option (List ℕ)) → named_path env.serve.files e ≡ o → slice_get nodes at ≡ Some node → S at (e ∷ es) w → r ≡ next_number w
      → StartsIn at (r + 1) es (starts_named env node r e w o)
  named-in at node r e es w None named there h is = (kept.stays at r e es w is named h, stay-next r e w is)
  named-in at node r e es w (Some path) named there h is = (split-in at node r path e es w is named there h, started-next env node r path e.verdict w is)

  without-in : (at r : ℕ) (e : Entry) (es : List Entry) (w : Work) (o : Option (List ℕ)) → named_path env.serve.files e ≡ o → slice_get nodes at ≡ None → S at (e ∷ es) w → r ≡ next_number w → S at es (entered e w)
  without-in at r e es w None named there h is = kept.stays at r e es w is named h
  without-in at r e es w (Some path) named there h is = kept.short at r path e es w is named there h

  starts-one-in : (at r : ℕ) (e : Entry) (es : List Entry) (w : Work) (o : Option ℕ) → slice_get nodes at ≡ o → S at (e ∷ es) w → r ≡ next_number w → StartsIn at (r + 1) es (starts_one env o r e w)
  starts-one-in at r e es w None there h is = (without-in at r e es w (named_path env.serve.files e) refl there h is, stay-next r e w is)
  starts-one-in at r e es w (Some node) there h is = named-in at node r e es w (named_path env.serve.files e) refl there h is

  all-start-in : (at r : ℕ) (es : List Entry) (w : Work) → S at es w → r ≡ next_number w → (k : ℕ) × S k [] (starts_at env nodes at r es w)
  unfolding starts_at
  all-start-in at r [] w h is = (at, h)
  all-start-in at r (e ∷ es) w h is = go (starts_one env (slice_get nodes at) r e w) (starts-one-in at r e es w (slice_get nodes at) refl h is) (λ k x g n. all-start-in k (r + 1) es x g n) where
    go : (one : Bool × Work) → StartsIn at (r + 1) es one → ((k : ℕ) (x : Work) → S k es x → r + 1 ≡ next_number x → (i : ℕ) × S i [] (starts_at env nodes k (r + 1) es x))
        → (i : ℕ) × S i [] (elim one.0 as (λ b. Work) [ true ↦ starts_at env nodes (at + 1) (r + 1) es one.1 | false ↦ starts_at env nodes at (r + 1) es one.1 ])
    go (true, x) g later = later (at + 1) x g.0 g.1
    go (false, x) g later = later at x g.0 g.1

  pub tagged-in : (w : Work) → S 0 w.batch (record w { batch = [] }) → (k : ℕ) × S k [] (tagged env nodes w)
  tagged-in w h = all-start-in 0 (w.service.count + 1) w.batch (record w { batch = [] }) h (omega arith)

-- The same where there is a node for each that is named.
pub record KeptByNodes (env : NodeEnv) (nodes : List ℕ) (S : List Entry → Work → Type 0) : Type 0 where
  pub stays : (r : ℕ) (e : Entry) (es : List Entry) (w : Work) → r ≡ next_number w → named_path env.serve.files e ≡ None → S (e ∷ es) w → S es (entered e w)
  pub hits : (path : List ℕ) (e : Entry) (es : List Entry) (w : Work) → named_path env.serve.files e ≡ Some path → env.cached path ≡ true → S (e ∷ es) w → S es (hit_here env path e.verdict w)
  pub queues : (r : ℕ) (path : List ℕ) (e : Entry) (es : List Entry) (w : Work) → r ≡ next_number w → named_path env.serve.files e ≡ Some path → env.cached path ≡ false → S (e ∷ es) w → S es (queued_here env r path e.verdict w)
  pub wants : (at node r : ℕ) (path : List ℕ) (e : Entry) (es : List Entry) (w : Work) → r ≡ next_number w → named_path env.serve.files e ≡ Some path → slice_get nodes at ≡ Some node → (node == env.n) ≡ false → S (e ∷ es) w
      → S es (started_there node r path e.verdict w)

module _ (env : NodeEnv) (nodes : List ℕ) (S : List Entry → Work → Type 0) (kept : KeptByNodes env nodes S) where
  -- so many nodes are left as are named
  abbrev Counted : ℕ → List Entry → Work → Type 0
  Counted at es w = S es w × (at + length (named_paths env.serve.files es) ≡ length nodes)

  same-count : (at : ℕ) (e : Entry) (es : List Entry) (o : Option (List ℕ)) → named_path env.serve.files e ≡ o → at + length (named_paths env.serve.files (e ∷ es)) ≡ length nodes → at + length (and_path o (named_paths env.serve.files es)) ≡ length nodes
  same-count at e es o is count = ap (λ (o : Option (List ℕ)). at + length (and_path o (named_paths env.serve.files es))) (sym is) ∙ count

  not-short : (at : ℕ) (path : List ℕ) (e : Entry) (es : List Entry) → named_path env.serve.files e ≡ Some path → slice_get nodes at ≡ None → at + length (named_paths env.serve.files (e ∷ es)) ≡ length nodes → ⊥
  not-short at path e es named none count =
      let total : at + length (path ∷ named_paths env.serve.files es) ≡ length nodes = same-count at e es (Some path) named count in
      let got : slice_get nodes at ≡ Some (get_or nodes at 0) = slice_get-get_or nodes at 0 (omega (arith, total)) in
      let no : None ≡ Some (get_or nodes at 0) = sym none ∙ got in
      absurd (let f : ⊥ = cc in f)

  one-more : (at : ℕ) (path : List ℕ) (e : Entry) (es : List Entry) → named_path env.serve.files e ≡ Some path → at + length (named_paths env.serve.files (e ∷ es)) ≡ length nodes → (at + 1) + length (named_paths env.serve.files es) ≡ length nodes
  one-more at path e es named count = let total = same-count at e es (Some path) named count in omega (arith, total)

  by_count : KeptByStarts env nodes Counted
  by_count = record {
    stays = λ at r e es w is named h. (kept.stays r e es w is named h.0, same-count at e es None named h.1);
    short = λ at r path e es w is named none h. absurd (not-short at path e es named none h.1);
    hits = λ at node r path e es w is named there t c h. (kept.hits path e es w named c h.0, one-more at path e es named h.1);
    queues = λ at node r path e es w is named there t c h. (kept.queues r path e es w is named c h.0, one-more at path e es named h.1);
    wants = λ at node r path e es w is named there f h. (kept.wants at node r path e es w is named there f h.0, one-more at path e es named h.1);
  }

  pub tagged-all : (w : Work) → length (named_paths env.serve.files w.batch) ≡ length nodes → S w.batch (record w { batch = [] }) → S [] (tagged env nodes w)
  tagged-all w count h = (tagged-in env nodes Counted by_count w (h, omega (arith, count))).1.0

-- ---- a request that is named

-- what is named is for a file
pub good-named : (env : NodeEnv) (e : Entry) (path : List ℕ) → named_path env.serve.files e ≡ Some path → (e.progress ≡ progress.Named) × (good_path env.serve.files e.verdict ≡ Some path)
good-named env e path = go e.progress refl where
  go : (p : Progress) → e.progress ≡ p → path_in env.serve.files e p ≡ Some path → (e.progress ≡ progress.Named) × (good_path env.serve.files e.verdict ≡ Some path)
  go progress.Named is h = (is, h)
  go progress.Reading is h = absurd (let f : None ≡ Some path = h in cc)
  go (progress.Awaited node) is h = absurd (let f : None ≡ Some path = h in cc)
  go (progress.Ready way) is h = absurd (let f : None ≡ Some path = h in cc)
