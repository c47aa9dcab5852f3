-- What comes for the requests of a batch: the nodes of a Tag, a job that was done, a content.
use Rattle.std.proofs.Common.{◌≡◌, ◌≤◌, ◌+◌, ◌-◌, ◌==◌, nat_lt, ℕ, zero, suc, Bool, true, false, not, cond, List, [], ◌∷◌, ◌++◌, length, is_some, Option, Some, None, refl, ap, ◌∙◌, arith}
use Rattle.std.specs.List.{find}
use Rattle.std.proofs.lemmas.Bool.{cond_both}
use Rattle.std.proofs.lemmas.List.{length_push}
use Rattle.lard_law_view.specs.Prelude.{Entry, Kept, NodeEnv, Progress, TimerKind, Want, Work, anew, came_for, come_on, come_progress, entered, fetch_of, hit_here, is_from, is_under, path_in, queued_here, read_progress, started_there, tagged, wants_kept, without}
use Rattle.lard_base.specs.declared.place.Via.TheVariants as via
use Rattle.lard_bound.specs.Units.{batch_left, progress_left}
use Rattle.lard_rules.specs.declared.stay.Progress.TheVariants as progress
use Rattle.lard_resend.proofs.Lengths.{anew-more, without-less}
use Rattle.lard_rules.proofs.StayWalking.{KeptByStarts, tagged-in}

left-push : (es : List Entry) (e : Entry) → batch_left (es ++ e ∷ []) ≡ batch_left es + progress_left e.progress
left-push [] e = omega arith
left-push (x ∷ es) e = let rest = left-push es e in omega arith

wants-push : (env : NodeEnv) (ws : List Want) (w : Want) (ks : List Kept) → length (wants_kept env (ws ++ w ∷ []) ks) ≤ length (wants_kept env ws ks) + 1
wants-push env [] w ks = anew-more (fetch_of env w) ks
wants-push env (x ∷ ws) w ks = wants-push env ws w (anew (fetch_of env x) ks)

module _ (env : NodeEnv) (fetches : List Kept) where
  abbrev pub wanted : Work → ℕ
  wanted w = length (wants_kept env w.wants fetches)

  -- ---- a Tag: each request that it names starts

  -- with those that are left the batch is as long, and costs no more
  record Left (w : Work) (at : ℕ) (es : List Entry) (b : Work) : Type 0 where
    longer : length b.batch + length es ≡ length w.batch
    costs : (batch_left b.batch + wanted b) + batch_left es ≤ batch_left w.batch + wanted w
    block : b.service.block ≡ w.service.block
    count : b.service.count ≡ w.service.count
    over : b.service.over ≡ w.service.over
    asks : b.asks ≡ w.asks
    asked : b.asked ≡ w.asked

  -- one more stands in the batch, which costs no more than before with what it wants
  left-on : (w : Work) (at i : ℕ) (e x : Entry) (es : List Entry) (b u : Work) → u.batch ≡ b.batch ++ x ∷ [] → u.service.block ≡ b.service.block → u.service.count ≡ b.service.count → u.service.over ≡ b.service.over → u.asks ≡ b.asks → u.asked ≡ b.asked
      → progress_left x.progress + wanted u ≤ progress_left e.progress + wanted b → Left w at (e ∷ es) b → Left w i es u
  left-on w at i e x es b u batch block count over asks asked few h =
      let long : length u.batch ≡ length b.batch + 1 = ap (λ (es : List Entry). length es) batch ∙ length_push b.batch x in
      let cost : batch_left u.batch ≡ batch_left b.batch + progress_left x.progress = ap batch_left batch ∙ left-push b.batch x in
      record {
        longer = let all = h.longer in omega (arith, all, long);
        costs = let c = h.costs in omega (arith, c, cost, few);
        block = block ∙ h.block;
        count = count ∙ h.count;
        over = over ∙ h.over;
        asks = asks ∙ h.asks;
        asked = asked ∙ h.asked;
      }

  named-two : (e : Entry) (p : Progress) (path : List ℕ) → path_in env.serve.files e p ≡ Some path → progress_left p ≡ 2
  named-two e progress.Named path is = refl
  named-two e progress.Reading path is = refl
  named-two e (progress.Awaited node) path is = absurd (let bad : None ≡ Some path = is in cc)
  named-two e (progress.Ready way) path is = absurd (let bad : None ≡ Some path = is in cc)

  by_starts : (w : Work) (nodes : List ℕ) → KeptByStarts env nodes (Left w)
  by_starts w nodes = record {
    stays = λ at r e es b is named h. left-on w at at e e es b (entered e b) refl refl refl refl refl refl (omega arith) h;
    short = λ at r path e es b is named none h. left-on w at at e e es b (entered e b) refl refl refl refl refl refl (omega arith) h;
    hits = λ at node r path e es b is named there t c h. let two = named-two e e.progress path named in
        left-on w at (at + 1) e (record { verdict = e.verdict; progress = progress.Ready via.Cache }) es b (hit_here env path e.verdict b) refl refl refl refl refl refl (omega (arith, two)) h;
    queues = λ at node r path e es b is named there t c h. let two = named-two e e.progress path named in
        left-on w at (at + 1) e (record { verdict = e.verdict; progress = progress.Reading }) es b (queued_here env r path e.verdict b) refl refl refl refl refl refl (omega (arith, two)) h;
    wants = λ at node r path e es b is named there f h. let two = named-two e e.progress path named in let more = wants-push env b.wants (record { r = r; node = node; path = path }) fetches in
        left-on w at (at + 1) e (record { verdict = e.verdict; progress = progress.Awaited node }) es b (started_there node r path e.verdict b) refl refl refl refl refl refl (omega (arith, two, more)) h;
  }

  pub tagged-on : (nodes : List ℕ) (w : Work) → let b = tagged env nodes w in
      (length b.batch ≡ length w.batch) × (batch_left b.batch + wanted b ≤ batch_left w.batch + wanted w) × (b.service.block ≡ w.service.block) × (b.service.count ≡ w.service.count)
      × (b.service.over ≡ w.service.over) × (b.asked ≡ w.asked) × (b.asks ≡ w.asks)
  tagged-on nodes w =
      let h = (tagged-in env nodes (Left w) (by_starts w nodes) w (record { longer = omega arith; costs = omega arith; block = refl; count = refl; over = refl; asks = refl; asked = refl })).1 in
      let l = h.longer in
      let k = h.costs in
      (omega (arith, l), omega (arith, k), h.block, h.count, h.over, h.asked, h.asks)

-- ---- what comes for one request

-- it comes so far for no more
pub record Comes (f : Progress → Progress) : Type 0 where
  pub less : (p : Progress) → progress_left (f p) ≤ progress_left p

pub read-comes : Comes read_progress
read-comes = record { less = less } where
  less : (p : Progress) → progress_left (read_progress p) ≤ progress_left p
  less progress.Named = omega arith
  less progress.Reading = omega arith
  less (progress.Awaited node) = omega arith
  less (progress.Ready way) = omega arith

pub content-comes : (from : ℕ) → Comes (come_progress from)
content-comes from = record { less = less } where
  less : (p : Progress) → progress_left (come_progress from p) ≤ progress_left p
  less progress.Named = omega arith
  less progress.Reading = omega arith
  less (progress.Awaited node) = cond_both (node == from) (progress.Ready (via.Node from)) (progress.Awaited node) (λ (p : Progress). progress_left p ≤ 1) (λ t. omega arith) (λ t. omega arith)
  less (progress.Ready way) = omega arith

on-batch : (f : Progress → Progress) → Comes f → (i : ℕ) (es : List Entry) → (length (come_on f i es) ≡ length es) × (batch_left (come_on f i es) ≤ batch_left es)
on-batch f k i [] = (refl, omega arith)
on-batch f k zero (e ∷ es) = (refl, let l = k.less e.progress in omega arith)
on-batch f k (suc i) (e ∷ es) = let h = on-batch f k i es in (ap suc h.0, let l = h.1 in omega arith)

pub came-on : (f : Progress → Progress) → Comes f → (r : ℕ) (w : Work) → let b = came_for f r w in
    (length b.batch ≡ length w.batch) × (batch_left b.batch ≤ batch_left w.batch) × (b.service ≡ w.service) × (b.wants ≡ w.wants) × (b.asked ≡ w.asked) × (b.asks ≡ w.asks)
came-on f k r w =
    let h = on-batch f k (r - (w.service.count + 1)) w.batch in
    cond_both (nat_lt w.service.count r) (record w { batch = come_on f (r - (w.service.count + 1)) w.batch }) w
    (λ (b : Work). (length b.batch ≡ length w.batch) × (batch_left b.batch ≤ batch_left w.batch) × (b.service ≡ w.service) × (b.wants ≡ w.wants) × (b.asked ≡ w.asked) × (b.asks ≡ w.asks))
    (λ t. (h.0, h.1, refl, refl, refl, refl))
    (λ t. (refl, omega arith, refl, refl, refl, refl))

-- a job that makes nothing ready leaves the batch as it is
ready-is : (p : Progress) → progress_left p ≤ progress_left (read_progress p) → read_progress p ≡ p
ready-is progress.Reading e = absurd (omega arith)
ready-is _ e = refl

still-batch : (i : ℕ) (es : List Entry) → batch_left es ≤ batch_left (come_on read_progress i es) → come_on read_progress i es ≡ es
still-batch i [] e = refl
still-batch zero (e ∷ es) h = let is : read_progress e.progress ≡ e.progress = ready-is e.progress (omega arith) in λ j. record { verdict = e.verdict; progress = is j } ∷ es
still-batch (suc i) (e ∷ es) h = ap (λ (xs : List Entry). e ∷ xs) (still-batch i es (omega arith))

pub read-still : (r : ℕ) (w : Work) → batch_left w.batch ≤ batch_left (came_for read_progress r w).batch → (came_for read_progress r w).batch ≡ w.batch
read-still r w = cond_both (nat_lt w.service.count r) (record w { batch = come_on read_progress (r - (w.service.count + 1)) w.batch }) w (λ (b : Work). batch_left w.batch ≤ batch_left b.batch → b.batch ≡ w.batch)
    (λ t h. still-batch (r - (w.service.count + 1)) w.batch h)
    (λ t h. refl)

-- ---- what is kept no longer

-- one of this kind and number is kept, and then not
pub without-fewer : (kind : TimerKind) (r : ℕ) (ks : List Kept) → is_some (find (is_under kind r) ks) ≡ true → length (without kind r ks) + 1 ≤ length ks
without-fewer kind r [] some = absurd (let bad : false ≡ true = some in cc)
without-fewer kind r (k ∷ ks) some = go (is_under kind r k) some (without-less kind r ks) (without-fewer kind r ks) where
  go : (b : Bool) → is_some (cond b (Some k) (find (is_under kind r) ks)) ≡ true → length (without kind r ks) ≤ length ks
      → (is_some (find (is_under kind r) ks) ≡ true → length (without kind r ks) + 1 ≤ length ks)
      → length (cond (not b) (k ∷ without kind r ks) (without kind r ks)) + 1 ≤ suc (length ks)
  go true some less later = omega (arith, less)
  go false some less later = let rest = later some in omega (arith, rest)

-- what is awaited from a node is awaited
pub awaited-some : (from e : ℕ) (o : Option Kept) → is_from from e o ≡ true → is_some o ≡ true
awaited-some from e None t = absurd (let bad : false ≡ true = t in cc)
awaited-some from e (Some k) t = refl
