-- How many requests a node has in hand of a connection: each Ask that was made, and each job of a turn, is of a request that was served
-- or is in the batch.
use Rattle.std.proofs.Common.{◌≡◌, ℕ, zero, suc, ◌+◌, ◌-◌, ◌≤◌, nat_lt, List, [], ◌∷◌, ◌++◌, length, refl, ap, arith}
use Rattle.std.proofs.lemmas.Bool.{cond_both}
use Rattle.lard_law_view.specs.Prelude.{Entry, NodeEnv, Progress, Service, Verdict, Via, Work, answer, answered, came_for, come_on, entered, left_by, own_job, passed_over, queued, queued_here, tagged}
use Rattle.lard_base.specs.declared.place.Via.TheVariants as via
use Rattle.lard_rules.specs.declared.stay.Progress.TheVariants.{Reading, Awaited, Ready}
use Rattle.lard_rules.proofs.StayWalking.{KeptByStarts, tagged-in}
use Rattle.std.proofs.lemmas.List.{length_push}

-- no more Asks and no more jobs than requests
pub record IsCounted (w : Work) : Type 0 where
  pub asks : w.asks ≤ w.service.count + length w.batch
  pub jobs : length w.jobs ≤ w.service.count + length w.batch

-- what came is of one of them
pub come-length : (f : Progress → Progress) (i : ℕ) (es : List Entry) → length (come_on f i es) ≡ length es
come-length f i [] = refl
come-length f zero (e ∷ es) = refl
come-length f (suc i) (e ∷ es) = ap suc (come-length f i es)

module _ (env : NodeEnv) where
  -- ---- requests are entered

  pub entered-counts : (e : Entry) (w : Work) → IsCounted w → IsCounted (entered e w)
  entered-counts e w h = let more = length_push w.batch e in let asks = h.asks in let jobs = h.jobs in record { asks = omega (arith, more, asks); jobs = omega (arith, more, jobs) }

  pub queued-counts : (r : ℕ) (path : List ℕ) (v : Verdict) (w : Work) → IsCounted w → IsCounted (queued_here env r path v w)
  queued-counts r path v w h =
      let more = length_push w.batch (record { verdict = v; progress = Reading }) in
      let given = length_push w.jobs (own_job env r path) in
      let asks = h.asks in
      let jobs = h.jobs in
      record { asks = omega (arith, more, asks); jobs = omega (arith, more, given, jobs) }

  -- the nodes of an Ask come to those that are left: each Ask is of one that stands in the batch or is left, each job of one in the batch
  abbrev Left : ℕ → List Entry → Work → Type 0
  Left at es w = (w.asks ≤ w.service.count + (length w.batch + length es)) × (length w.jobs ≤ length w.batch)

  left-on : (e : Entry) (es : List Entry) (x : Entry) (w : Work) → Left 0 (e ∷ es) w → (w.asks ≤ w.service.count + (length (w.batch ++ x ∷ []) + length es)) × (length w.jobs ≤ length (w.batch ++ x ∷ []))
  left-on e es x w h = let more = length_push w.batch x in let asks = h.0 in let jobs = h.1 in (omega (arith, more, asks), omega (arith, more, jobs))

  by_starts : (nodes : List ℕ) → KeptByStarts env nodes Left
  by_starts nodes = record {
    stays = λ at r e es w is named h. left-on e es e w h;
    short = λ at r path e es w is named none h. left-on e es e w h;
    hits = λ at node r path e es w is named there t c h. left-on e es (record { verdict = e.verdict; progress = Ready via.Cache }) w h;
    queues = λ at node r path e es w is named there t c h.
        let x : Entry = record { verdict = e.verdict; progress = Reading } in
        let on = left-on e es x w h in
        let more = length_push w.batch x in
        let given = length_push w.jobs (own_job env r path) in
        let jobs = h.1 in
        (on.0, omega (arith, more, given, jobs));
    wants = λ at node r path e es w is named there f h. left-on e es (record { verdict = e.verdict; progress = Awaited node }) w h;
  }

  -- those of the batch are started, each once
  pub tagged-counts : (nodes : List ℕ) (w : Work) → length w.jobs ≤ 0 → IsCounted w → IsCounted (tagged env nodes w)
  tagged-counts nodes w none h =
      let before = h.asks in
      let all = (tagged-in env nodes Left (by_starts nodes) w (omega (arith, before), omega (arith, none))).1 in
      let asks = all.0 in
      let jobs = all.1 in
      record { asks = omega (arith, asks); jobs = omega (arith, jobs) }

  -- ---- what came

  pub came-counts : (f : Progress → Progress) (r : ℕ) (w : Work) → IsCounted w → IsCounted (came_for f r w)
  came-counts f r w h =
      let i : ℕ = r - (w.service.count + 1) in
      let same = come-length f i w.batch in
      let asks = h.asks in
      let jobs = h.jobs in
      cond_both (nat_lt w.service.count r) (record w { batch = come_on f i w.batch }) w IsCounted (λ t. record { asks = omega (arith, same, asks); jobs = omega (arith, same, jobs) }) (λ t. h)

  -- ---- serving

  pub served-counts : (way : Via) (e : Entry) (rest : List Entry) (w : Work) → w.batch ≡ e ∷ rest → IsCounted w
      → IsCounted (record w { service = answered env.serve way e.verdict w.service; batch = left_by (answered env.serve way e.verdict w.service).over e rest })
  served-counts way e rest w is h =
      let bytes : List ℕ = answer env.serve.files e.verdict in
      let total : ℕ = w.service.block.send.total + length bytes in
      let as_many : length w.batch ≡ length (e ∷ rest) = ap (λ (es : List Entry). length es) is in
      let asks = h.asks in
      let jobs = h.jobs in
      cond_both (nat_lt env.serve.stream total) (passed_over env.serve total w.service) (queued env.serve way e.verdict bytes w.service)
      (λ (s : Service). IsCounted (record w { service = s; batch = left_by s.over e rest }))
      (λ t. record { asks = omega (arith, as_many, asks); jobs = omega (arith, as_many, jobs) })
      (λ t. record { asks = omega (arith, as_many, asks); jobs = omega (arith, as_many, jobs) })
