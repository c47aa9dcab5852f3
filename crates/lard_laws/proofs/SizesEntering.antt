-- Requests that are entered into a batch, or come on in it, leave the endpoint, the count of responses and the Ask in hand as they were.
use Rattle.std.proofs.Common.{◌≡◌, ◌+◌, ◌-◌, ℕ, zero, suc, nat_lt, List, [], ◌∷◌, ◌++◌, length, refl, ap, arith}
use Rattle.std.proofs.lemmas.Bool.{cond_both}
use Rattle.std.proofs.lemmas.List.{length-append}
use Rattle.lard_base.specs.declared.place.Via.TheVariants as via
use Rattle.lard_law_view.specs.Prelude.{Entry, NodeEnv, Progress, Work, came_for, come_on, tagged}
use Rattle.lard_rules.specs.declared.stay.Progress.TheVariants as progress
use Rattle.lard_rules.proofs.StayWalking.{KeptByStarts, tagged-in}

-- So many requests more are in the batch.
pub record Grows (k u : Work) (n : ℕ) : Type 0 where
  pub block : u.service.block ≡ k.service.block
  pub count : u.service.count ≡ k.service.count
  pub asked : u.asked ≡ k.asked
  pub size : length u.batch ≡ length k.batch + n

module _ (env : NodeEnv) where
  -- the same, with those of the batch that are left
  abbrev Left : Work → ℕ → List Entry → Work → Type 0
  Left k at es u = (u.service.block ≡ k.service.block) × (u.service.count ≡ k.service.count) × (u.asked ≡ k.asked) × (length u.batch + length es ≡ length k.batch)

  left-on : (k : Work) (x e : Entry) (es : List Entry) (u : Work) → Left k 0 (e ∷ es) u → length (u.batch ++ x ∷ []) + length es ≡ length k.batch
  left-on k x e es u h = let more = length-append u.batch (x ∷ []) in let all = h.3 in omega (arith, more, all)

  by_starts : (k : Work) (nodes : List ℕ) → KeptByStarts env nodes (Left k)
  by_starts k nodes = record {
    stays = λ at r e es u is named h. (h.0, h.1, h.2, left-on k e e es u h);
    short = λ at r path e es u is named none h. (h.0, h.1, h.2, left-on k e e es u h);
    hits = λ at node r path e es u is named there t c h. (h.0, h.1, h.2, left-on k (record { verdict = e.verdict; progress = progress.Ready via.Cache }) e es u h);
    queues = λ at node r path e es u is named there t c h. (h.0, h.1, h.2, left-on k (record { verdict = e.verdict; progress = progress.Reading }) e es u h);
    wants = λ at node r path e es u is named there f h. (h.0, h.1, h.2, left-on k (record { verdict = e.verdict; progress = progress.Awaited node }) e es u h);
  }

  -- the batch is as long as it was
  pub tagged-grows : (nodes : List ℕ) (k : Work) → Grows k (tagged env nodes k) 0
  tagged-grows nodes k =
      let g = (tagged-in env nodes (Left k) (by_starts k nodes) k (refl, refl, refl, (let e : 0 + length k.batch ≡ length k.batch = omega arith in e))).1 in
      let size = g.3 in
      record { block = g.0; count = g.1; asked = g.2; size = omega (arith, size) }

-- ---- a request comes on

come-length : (f : Progress → Progress) (i : ℕ) (es : List Entry) → length (come_on f i es) ≡ length es
come-length f i [] = refl
come-length f zero (e ∷ es) = refl
come-length f (suc i) (e ∷ es) = ap suc (come-length f i es)

pub came-grows : (f : Progress → Progress) (r : ℕ) (k : Work) → Grows k (came_for f r k) 0
came-grows f r k = cond_both (nat_lt k.service.count r) (record k { batch = come_on f (r - (k.service.count + 1)) k.batch }) k (λ (u : Work). Grows k u 0)
    (λ t. let size = come-length f (r - (k.service.count + 1)) k.batch in record { block = refl; count = refl; asked = refl; size = omega (arith, size) }) (λ t. record { block = refl; count = refl; asked = refl; size = omega arith })
