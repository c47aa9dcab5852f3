-- The turns of a stay keep the agreement: batches are read, requests start, come on, and are served in order.
use Rattle.std.proofs.Common.{◌≡◌, ◌≤◌, ◌+◌, ◌-◌, ◌^◌, ℕ, zero, suc, Bool, true, false, nat_lt, List, [], ◌∷◌, ◌++◌, map, length, Option, Some, None, refl, ap, ◌∙◌, sym, subst, append_assoc, append-nil}
use Rattle.std.specs.List.{list_any}
use Rattle.std.proofs.lemmas.Bool.{cond_both}
use Rattle.std.proofs.lemmas.List.{map-append}
use Rattle.lard_base.specs.declared.place.Via.TheVariants as via
use Rattle.lard_law_connections.specs.BytesAgreement.{AreOnTheWay, ComesOn, HasReadPending}
use Rattle.lard_law_connections.specs.BytesTurning.{IsNoteOf}
use Rattle.lard_law_connections.proofs.BytesReading.{batch-read}
use Rattle.lard_law_connections.proofs.BytesServing.{MayGo, So, answered-serves, consumed-serves, ended-serves, go-on, left_of, may-go, noted-serves}
use Rattle.lard_law_view.specs.Prelude.{Entry, NodeEnv, Progress, Rec, Service, Stream, Verdict, Via, Work, answered, batch_of, bytes_served_in, bytes_used, came_for, come_on, consuming, ended_at_fin, entered, goes_on, is_reset_record, left_by, may_read, noted, read_entry, reads_batch, served_in, serves_with, serving_consumed, state_of, tagged}
use Rattle.lard_history.proofs.Each.{Each}
use Rattle.lard_journal.specs.declared.rec.Rec.TheVariants as rec
use Rattle.lard_rules.specs.declared.stay.Progress.TheVariants as progress
use Rattle.lard_rules.proofs.StayWalking.{KeptByGoing, KeptByReads, KeptByStarts, StepIn, both-going, goes-in, state-in, tagged-in, these-in}
use Rattle.lard_law_connections.proofs.BytesWays.{going_right}

abbrev pub verdicts_of : List Entry → List Verdict
verdicts_of es = map (λ e. e.verdict) es

-- ---- requests are entered: the batch grows by these verdicts, and paths that were hit or queued are noted

abbrev IsMute : Rec → Type 0
IsMute (rec.Hit n path) = Unit {0}
IsMute (rec.Queued n m c r path) = Unit {0}
IsMute _ = ⊥

-- one moves from those that are still to be entered into the batch
one-more : (e : Entry) (us : List Verdict) (es : List Entry) → verdicts_of es ++ e.verdict ∷ us ≡ verdicts_of (es ++ e ∷ []) ++ us
one-more e us es = sym (append_assoc (verdicts_of es) (e.verdict ∷ []) us) ∙ ap (λ l. l ++ us) (sym (map-append (λ x. x.verdict) es (e ∷ [])))

-- ---- what tells nothing changes nothing

mute-each : (c : ℕ) (rs : List Rec) → Each IsMute rs → Each (IsNoteOf c) rs
mute-each c [] h = tt
mute-each c (rec.Hit n path ∷ rs) h = (tt, mute-each c rs h.1)
mute-each c (rec.Queued n m d r path ∷ rs) h = (tt, mute-each c rs h.1)
mute-each c (_ ∷ rs) h = absurd h.0

mute-served : (rs : List Rec) → Each IsMute rs → served_in rs ≡ 0
mute-served [] h = refl
mute-served (rec.Hit n path ∷ rs) h = mute-served rs h.1
mute-served (rec.Queued n m d r path ∷ rs) h = mute-served rs h.1
mute-served (_ ∷ rs) h = absurd h.0

mute-resets : (rs : List Rec) → Each IsMute rs → list_any is_reset_record rs ≡ false
mute-resets [] h = refl
mute-resets (rec.Hit n path ∷ rs) h = mute-resets rs h.1
mute-resets (rec.Queued n m d r path ∷ rs) h = mute-resets rs h.1
mute-resets (_ ∷ rs) h = absurd h.0

mute-size : (rs : List Rec) → Each IsMute rs → bytes_served_in rs ≡ 0
mute-size [] h = refl
mute-size (rec.Hit n path ∷ rs) h = mute-size rs h.1
mute-size (rec.Queued n m d r path ∷ rs) h = mute-size rs h.1
mute-size (_ ∷ rs) h = absurd h.0

-- ---- turns

module _ (env : NodeEnv) (w out : Stream) (vs : List Verdict) where
  -- what is in hand agrees, with the verdicts of the batch
  abbrev pub Works : Work → Type 0
  Works k = So env.serve w out vs k.service (verdicts_of k.batch)

  noted-so : (notes : List Rec) (s : Service) (pend : List Verdict) → Each IsMute notes → So env.serve w out vs s pend → So env.serve w out vs (noted notes s) pend
  noted-so notes s pend mute h = noted-serves env.serve w out vs notes s pend (mute-each env.serve.c notes mute) (mute-served notes mute) (mute-size notes mute) (mute-resets notes mute) h

  -- and the verdicts that are still to be entered
  abbrev Pending : List Verdict → Work → Type 0
  Pending us k = So env.serve w out vs k.service (verdicts_of k.batch ++ us)

  entered-so : (e : Entry) (us : List Verdict) (k : Work) → Pending (e.verdict ∷ us) k → Pending us (entered e k)
  entered-so e us k h = subst (So env.serve w out vs k.service) (one-more e us k.batch) h

  started-so : (e : Entry) (us : List Verdict) (r : Rec) → IsMute r → (k : Work) → Pending (e.verdict ∷ us) k → Pending us (entered e (record k { service = noted (r ∷ []) k.service }))
  started-so e us r mute k h = subst (So env.serve w out vs (noted (r ∷ []) k.service)) (one-more e us k.batch) (noted-so (r ∷ []) k.service (verdicts_of k.batch ++ e.verdict ∷ us) (mute, tt) h)

  none-pends : (k : Work) → Pending [] k → Works k
  none-pends k h = subst (So env.serve w out vs k.service) (append-nil (verdicts_of k.batch)) h

  by_reads : (size : ℕ) → KeptByReads env size (λ here. Pending) Works
  by_reads size = record {
    hits = λ r path v us k good is t h. started-so (record { verdict = v; progress = progress.Ready via.Cache }) us (rec.Hit env.n path) tt k h;
    queues = λ r path v us k good is f h. started-so (record { verdict = v; progress = progress.Reading }) us (rec.Queued env.n env.n env.serve.c r path) tt k h;
    enters = λ here v us k only h. entered-so (read_entry env.serve.files v) us k h;
    plain = λ here k e h. none-pends k h;
    asks = λ here path paths k e h. none-pends k h;
  }

  none-waits : (k : Work) → k.batch ≡ [] → Works k → So env.serve w out vs k.service []
  none-waits k none h = subst (λ (es : List Entry). So env.serve w out vs k.service (verdicts_of es)) none h

  -- the next batch
  module _ (here : Bool) (k : Work) (h : So env.serve w out vs k.service []) (may : MayGo w h.vs_now [] k.service) (none : k.batch ≡ []) where
    abbrev used : ℕ
    used = bytes_used 8 k.service.block.recv.unread

    read-so : (us : List Verdict) → batch_of 8 k.service.block.recv.unread ≡ us → So env.serve w out vs (serving_consumed used k.service) us
    read-so us is = consumed-serves env.serve w out vs used k.service us h may.none
        (subst (HasReadPending w (consuming k.service.block used) h.vs_now) is (batch-read w k.service.block h.vs_now h.between.hears may.keeps may.read 8))

    these-so : StepIn Works Works (reads_batch env here k)
    these-so =
        let s : Service = serving_consumed used k.service in
        let us : List Verdict = batch_of 8 k.service.block.recv.unread in
        these-in env (λ here. Pending) Works Works here used k us (by_reads (length us)) none
        (λ e. let so : So env.serve w out vs s [] = read-so [] e in subst (λ (es : List Entry). So env.serve w out vs (ended_at_fin s) (verdicts_of es)) (sym none)
        (ended-serves env.serve w out vs s so (go-on env.serve w out vs s [] so may.none may.unfinished may.keeps)))
        (λ v vs2 e. subst (λ (es : List Entry). So env.serve w out vs s (verdicts_of es ++ us)) (sym none) (read-so us refl))

    -- the first batch of a stay
    pub first-so : Works (state_of (reads_batch env here k))
    first-so = state-in Works (reads_batch env here k) these-so

  -- the first request of the batch is served
  serves-so : env.serve.stream ≤ 2 ^ 30 → (way : Via) (e : Entry) (rest : List Entry) (k : Work) → k.batch ≡ e ∷ rest → may_read k.service ≡ true → Works k → ComesOn env.serve.files e.verdict (progress.Ready way)
      → Works (serves_with (answered env.serve way e.verdict k.service) e rest k)
  serves-so most way e rest k is may h on =
      let so : So env.serve w out vs k.service (e.verdict ∷ verdicts_of rest) = subst (λ (es : List Entry). So env.serve w out vs k.service (verdicts_of es)) is h in
      let s : Service = answered env.serve way e.verdict k.service in
      let given : So env.serve w out vs s (left_of env.serve w out vs s.over e.verdict (verdicts_of rest)) =
      answered-serves env.serve w out vs most way e.verdict (verdicts_of rest) k.service so (may-go w so.vs_now (e.verdict ∷ verdicts_of rest) k.service may so.reading) on in
      left-so s.over given where
        left-so : (o : Option ℕ) → So env.serve w out vs (answered env.serve way e.verdict k.service) (left_of env.serve w out vs o e.verdict (verdicts_of rest))
            → So env.serve w out vs (answered env.serve way e.verdict k.service) (verdicts_of (left_by o e rest))
        left-so None g = g
        left-so (Some total) g = g

  -- and each request of the batch is answered as it may be
  abbrev pub Right : Work → Type 0
  Right k = AreOnTheWay env.serve.files k.batch

  ready-right : (way : Via) (e : Entry) (rest : List Entry) (k : Work) → k.batch ≡ e ∷ rest → e.progress ≡ progress.Ready way → Right k → ComesOn env.serve.files e.verdict (progress.Ready way)
  ready-right way e rest k is at right = subst (ComesOn env.serve.files e.verdict) at (subst (AreOnTheWay env.serve.files) is right).0

  pub going_so : env.serve.stream ≤ 2 ^ 30 → KeptByGoing env (λ k. Right k × Works k) (λ k. Right k × Works k)
  going_so most = both-going env Right Works (going_right env) (record {
    reads = λ k none may right h p. let so = none-waits k none h in these-so false k so (may-go w so.vs_now [] k.service may so.reading) none;
    serves = λ way e rest k may first is right h. serves-so most way e rest k first may h (ready-right way e rest k first is right);
  })

  -- the stay goes on
  pub goes-so : env.serve.stream ≤ 2 ^ 30 → (k : Work) → Works k → Right k → Works (goes_on env k)
  goes-so most k h right = (goes-in env (λ k. Right k × Works k) (λ k. Right k × Works k) (going_so most) k (right, h)).1

  -- the nodes of an Ask come
  by_starts : (nodes : List ℕ) → KeptByStarts env nodes (λ at es. Pending (verdicts_of es))
  by_starts nodes = record {
    stays = λ at r e es k is named h. entered-so e (verdicts_of es) k h;
    short = λ at r path e es k is named none h. entered-so e (verdicts_of es) k h;
    hits = λ at node r path e es k is named there t c h. started-so (record { verdict = e.verdict; progress = progress.Ready via.Cache }) (verdicts_of es) (rec.Hit env.n path) tt k h;
    queues = λ at node r path e es k is named there t c h. started-so (record { verdict = e.verdict; progress = progress.Reading }) (verdicts_of es) (rec.Queued env.n env.n env.serve.c r path) tt k h;
    wants = λ at node r path e es k is named there f h. entered-so (record { verdict = e.verdict; progress = progress.Awaited node }) (verdicts_of es) k h;
  }

  pub tagged-so : (nodes : List ℕ) (k : Work) → Works k → Works (tagged env nodes k)
  tagged-so nodes k h = none-pends (tagged env nodes k) (tagged-in env nodes (λ at es. Pending (verdicts_of es)) (by_starts nodes) k h).1

  come-same : (f : Progress → Progress) (i : ℕ) (es : List Entry) → verdicts_of (come_on f i es) ≡ verdicts_of es
  come-same f i [] = refl
  come-same f zero (e ∷ es) = refl
  come-same f (suc i) (e ∷ es) = ap (λ l. e.verdict ∷ l) (come-same f i es)

  -- a request comes on
  pub came-so : (f : Progress → Progress) (r : ℕ) (k : Work) → Works k → Works (came_for f r k)
  came-so f r k h = cond_both (nat_lt k.service.count r) (record k { batch = come_on f (r - (k.service.count + 1)) k.batch }) k Works
      (λ t. subst (So env.serve w out vs k.service) (sym (come-same f (r - (k.service.count + 1)) k.batch)) h) (λ t. h)
