-- What is entered one by one is entered, and what is in hand stays sound.
use Rattle.std.proofs.Common.{◌≡◌, ℕ, ◌+◌, ◌≤◌, Bool, true, false, List, [], ◌∷◌, ◌++◌, length, length-append, cond, refl, sym, ap, subst, ◌∙◌, arith}
use Rattle.std.specs.Prelude.{◌==◌, IfSome}
use Rattle.std.specs.List.{slice_get}
use Rattle.std.proofs.lemmas.Bool.Decides.{nat_tests}
use Rattle.lard_disk.specs.declared.disk.Job.{Job}
use Rattle.lard_endpoint.specs.Control.{ControlBlock}
use Rattle.lard_journal.specs.declared.rec.Rec.{Rec}
use Rattle.lard_rules.specs.declared.stay.Entry.{Entry}
use Rattle.lard_rules.specs.Stay.{NodeEnv, Work as Ruled, enters, enters_one, hit_here, queued_here, started, started_here, started_there, starts_at, starts_one}
use Rattle.lard_request.specs.declared.verdict.Verdict.{Verdict}
use Rattle.lard_seq.specs.Seq.{one_if}
use Rattle.lard_stay.specs.declared.work.Work.{Work}
use Rattle.lard_stay.specs.Work.{HasEntered, IsAskOfStay, IsInHandSound, StartsOne}

-- ---- one is started here

-- what the cache has can be served at once
pub hit-started : (env : NodeEnv) (r : ℕ) (path : List ℕ) (v : Verdict) (w : Ruled) {notes : List Rec} {batch : List Entry}
    → env.cached path ≡ true → notes ≡ (hit_here env path v w).service.notes → batch ≡ (hit_here env path v w).batch
    → record w { service = record w.service { notes = notes }; batch = batch } ≡ started_here env r path v w
hit-started env r path v w has noted put =
    (λ i. record w { service = record w.service { notes = noted i }; batch = put i })
    ∙ sym (ap (λ t. cond t (hit_here env path v w) (queued_here env r path v w)) has)

-- else a job reads it
pub queue-started : (env : NodeEnv) (r : ℕ) (path : List ℕ) (v : Verdict) (w : Ruled) {notes : List Rec} {batch : List Entry} {jobs : List Job}
    → env.cached path ≡ false → notes ≡ (queued_here env r path v w).service.notes
    → batch ≡ (queued_here env r path v w).batch → jobs ≡ (queued_here env r path v w).jobs
    → record w { service = record w.service { notes = notes }; batch = batch; jobs = jobs } ≡ started_here env r path v w
queue-started env r path v w has noted put queued =
    (λ i. record w { service = record w.service { notes = noted i }; batch = put i; jobs = queued i })
    ∙ sym (ap (λ t. cond t (hit_here env path v w) (queued_here env r path v w)) has)

-- one more stands behind the others
pub one-longer : {A : Type 0} (xs : List A) {ys : List A} (x : A) → ys ≡ xs ++ x ∷ [] → length ys ≤ length xs + 1
one-longer xs x e = omega (arith, ap length e, length-append xs (x ∷ []))

pub entered-one : (w : Work) (notes : List Rec) (batch : List Entry) (jobs : List Job) (e : Entry) → batch ≡ w.batch ++ e ∷ [] → length jobs ≤ length w.jobs + 1
    → HasEntered 1 w (record w { service = record w.service { notes = notes }; batch = batch; jobs = jobs })
entered-one w notes batch jobs e put few = record {
  batch = ap length put ∙ length-append w.batch (e ∷ []);
  count = refl;
  answered = refl;
  over = refl;
  asks = refl;
  asked = refl;
  jobs = few;
  wants = omega arith;
  short = λ h. h;
}

-- ---- one by one

pub entered_more : (n m : ℕ) (w v u : Work) → m ≡ n + 1 → HasEntered n w v → HasEntered 1 v u → HasEntered m w u
entered_more n m w v u e a b = record {
  batch = omega (arith, a.batch, b.batch, e);
  count = b.count ∙ a.count;
  answered = b.answered ∙ a.answered;
  over = b.over ∙ a.over;
  asks = b.asks ∙ a.asks;
  asked = b.asked ∙ a.asked;
  jobs = omega (arith, a.jobs, b.jobs, e);
  wants = omega (arith, a.wants, b.wants, e);
  short = λ h. b.short (a.short h);
}

pub starts_more : (here more last : Bool) (js ks ls : List Job) → StartsOne here more js ks → StartsOne more last ks ls → StartsOne here last js ls
starts_more false true last js ks ls a b = absurd (let f : true ≡ false = a.0 in cc)
starts_more false false last js ks ls a b = (b.0, b.1 ∙ a.1)
starts_more true true last js ks ls a b = omega (arith, a, b)
starts_more true false true js ks ls a b = absurd (let f : true ≡ false = b.0 in cc)
starts_more true false false js ks ls a b = let k : length ls ≡ length ks = cc (b.1) in omega (arith, a, k)

pub starts_few : (here more : Bool) (js ks : List Job) → StartsOne here more js ks → length ks ≤ length js + one_if here
starts_few false more js ks a = let k : length ks ≡ length js = cc (a.1) in omega (arith, k)
starts_few true true js ks a = omega (arith, a)
starts_few true false js ks a = omega (arith, a)

pub starts_same : (here more : Bool) (js ks : List Job) → StartsOne here more js ks → here ≡ false → ks ≡ js
starts_same false more js ks a e = a.1
starts_same true more js ks a e = absurd (let f : true ≡ false = e in cc)

-- ---- one more of a list

pub enters-more : (env : NodeEnv) (here : Bool) (r : ℕ) (v : Verdict) (vs : List Verdict) (w : Ruled) (more : Bool) (u : Ruled) → (more, u) ≡ enters_one env here r v w
    → enters env more (r + 1) vs u ≡ enters env here r (v ∷ vs) w
unfolding enters
enters-more env here r v vs w more u e = ap (λ (p : Bool × Ruled). enters env p.0 (r + 1) vs p.1) e

-- where the next place is, if one started
abbrev pub next_at : Bool → ℕ → ℕ
next_at true at = at + 1
next_at false at = at

pub starts-more : (env : NodeEnv) (nodes : List ℕ) (at r : ℕ) (e : Entry) (es : List Entry) (w : Ruled) (done : Bool) (u : Ruled) → (done, u) ≡ starts_one env (slice_get nodes at) r e w
    → starts_at env nodes (next_at done at) (r + 1) es u ≡ starts_at env nodes at r (e ∷ es) w
unfolding starts_at
starts-more env nodes at r e es w done u h = go done u ∙ ap after h where
  after : Bool × Ruled → Ruled
  after p = elim p.0 [ true ↦ starts_at env nodes (at + 1) (r + 1) es p.1 | false ↦ starts_at env nodes at (r + 1) es p.1 ]

  go : (d : Bool) (x : Ruled) → starts_at env nodes (next_at d at) (r + 1) es x ≡ after (d, x)
  go true x = refl
  go false x = refl

pub started-there : (env : NodeEnv) (node r : ℕ) (path : List ℕ) (v : Verdict) (w : Ruled) → (node ≡ env.n → ⊥) → started_there node r path v w ≡ started env node r path v w
started-there env node r path v w h =
    let t : (node == env.n) ≡ false = grind (arith, nat_tests, h) in
    sym (ap (λ b. cond b (started_here env r path v w) (started_there node r path v w)) t)

-- ---- soundness

-- all requests were taken out of the batch, and entered again
pub sound_tagged : (b : ControlBlock) (w v : Work) (n : ℕ) (es : List Entry) → length es ≡ 0 → n ≡ length w.batch → HasEntered n (record w { batch = es }) v → IsInHandSound b w → IsInHandSound b v
sound_tagged b w v n es z e h s = record {
  counted = record { responses = omega (arith, h.count, s.counted.responses); bytes = omega (arith, h.answered, s.counted.bytes) };
  within = omega (arith, h.count, h.batch, z, e, s.within);
  few = omega (arith, h.batch, z, e, s.few);
  asks = omega (arith, h.count, h.batch, h.asks, z, e, s.asks);
  asked = subst (λ o. IfSome o IsAskOfStay) (sym h.asked) s.asked;
  wants = h.short s.wants;
}
