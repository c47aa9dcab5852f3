-- What serving comes to, once: a response is queued or would pass the stream limit, the cluster's FIN follows the client's, and a turn ends
-- with the connection here, ended, or cut off at the stream limit.
use Rattle.std.proofs.Common.{◌≡◌, ℕ, ◌+◌, nat_lt, true, false, List, [], length, Option, Some, None, refl}
use Rattle.std.proofs.lemmas.Bool.{cond_both}
use Rattle.lard_answers.specs.Answers.{answer}
use Rattle.lard_base.specs.declared.place.Place.{Place}
use Rattle.lard_base.specs.declared.place.Via.{Via}
use Rattle.lard_endpoint.specs.Control.{ControlBlock, finishing}
use Rattle.lard_endpoint.specs.Moving.{may_end, end_reason, final_of}
use Rattle.lard_request.specs.declared.verdict.Verdict.{Verdict}
use Rattle.lard_rules.specs.declared.places.Ending.{Ending}
use Rattle.lard_rules.specs.declared.places.Ending.TheVariants.{Here, Over}
use Rattle.lard_rules.specs.declared.places.Turn.{Turn}
use Rattle.lard_rules.specs.Serving.{ServeEnv, Service, answered, cut_off, ended_at_fin, passed_over, queued, rested, serving_settled, spoken}
use Rattle.lard_rules.specs.Speaking.{speaks}

-- ---- while it serves

-- how many bytes of responses there are with this one
abbrev pub total_with : ServeEnv → Verdict → Service → ℕ
total_with env v w = w.block.send.total + length (answer env.files v)

pub answered-keeps : (P : Service → Type 0) (env : ServeEnv) (via : Via) (v : Verdict) (w : Service)
    → (nat_lt env.stream (total_with env v w) ≡ true → P (passed_over env (total_with env v w) w))
    → (nat_lt env.stream (total_with env v w) ≡ false → P (queued env via v (answer env.files v) w)) → P (answered env via v w)
answered-keeps P env via v w over goes = cond_both (nat_lt env.stream (total_with env v w)) (passed_over env (total_with env v w) w) (queued env via v (answer env.files v) w) P over goes

pub at-fin-keeps : (P : Service → Type 0) (w : Service) → (w.block.recv.fin ≡ true → P (record w { block = finishing w.block })) → (w.block.recv.fin ≡ false → P w) → P (ended_at_fin w)
at-fin-keeps P w ends stays = cond_both w.block.recv.fin (record w { block = finishing w.block }) w P ends stays

-- ---- the end of a turn

pub rested-keeps : (P : Ending → Type 0) (b : ControlBlock) (count : ℕ) → (may_end b ≡ true → P (Over (final_of b (end_reason b)))) → (may_end b ≡ false → P (Here b count)) → P (rested b count)
rested-keeps P b count over here = cond_both (may_end b) (Over (final_of b (end_reason b))) (Here b count) P over here

pub settled-keeps : (P : Ending × Turn → Type 0) (env : ServeEnv) (w : Service) → (w.over ≡ None → P (spoken env w [])) → ((total : ℕ) → w.over ≡ Some total → P (cut_off env w)) → P (serving_settled env w)
settled-keeps P env w says cuts = go w.over refl where
  go : (o : Option ℕ) → w.over ≡ o → P (elim o as (λ t. Ending × Turn) [ None ↦ spoken env w [] | Some total ↦ cut_off env w ])
  go None e = says e
  go (Some total) e = cuts total e

-- of what stays, with the count of its responses, P is so
abbrev pub StaysWith : (ControlBlock → ℕ → Type 0) → Ending → Type 0
StaysWith P (Here b count) = P b count
StaysWith P (Over last) = Unit {0}

module _ (P : ControlBlock → ℕ → Type 0) (env : ServeEnv) (w : Service) where
  pub spoken-stays : (before : List (Place × List ℕ)) → (may_end (speaks env.c w.block).1 ≡ false → P (speaks env.c w.block).1 w.count) → StaysWith P (spoken env w before).0
  spoken-stays before h = rested-keeps (StaysWith P) (speaks env.c w.block).1 w.count (λ t. tt) h

  pub settled-stays : (w.over ≡ None → may_end (speaks env.c w.block).1 ≡ false → P (speaks env.c w.block).1 w.count) → StaysWith P (serving_settled env w).0
  settled-stays h = settled-keeps (λ given. StaysWith P given.0) env w (λ e. spoken-stays [] (h e)) (λ total e. tt)
