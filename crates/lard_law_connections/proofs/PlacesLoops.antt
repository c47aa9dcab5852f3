-- Reading and serving note plain records alone, at the front end and at a node; and what an endpoint says goes to its client.
use Rattle.std.proofs.Common.{◌≡◌, ℕ, ◌+◌, ◌-◌, Bool, nat_lt, List, [], ◌∷◌, ◌++◌, length, Option, Some, None, refl, subst}
use Rattle.std.proofs.lemmas.Bool.{cond_both}
use Rattle.lard_law_view.specs.Prelude.{Client, Done, Ending, Found, More, NodeEnv, Place, Progress, Reading, Rec, ServeEnv, Service, Step, Turn, Verdict, Via, Work, answer, answer_code, answered, block_at, came_for, come_on, cut_of, cut_off, ended_at_fin, final_of, goes_on, good_path, limit_said, may_freeze, may_read, reads_batch, reads_block, reads_found, serving_consumed, serving_settled, serving_told, speaks, speaks_symbols, spoken, state_of, tagged, targeted}
use Rattle.lard_base.specs.declared.place.Reason.TheVariants.{Limit}
use Rattle.lard_base.specs.declared.place.Via.TheVariants.{Own}
use Rattle.lard_block.specs.declared.block.Found.TheVariants as found
use Rattle.lard_law_connections.proofs.PlacesRows.{IsPlain}
use Rattle.lard_rules.specs.FrontReading as front
use Rattle.lard_history.proofs.Each.{Each, Each-append}
use Rattle.lard_journal.specs.declared.rec.Rec.TheVariants as rec
use Rattle.lard_request.specs.declared.verdict.Code.TheVariants as code
use Rattle.lard_request.specs.declared.verdict.Verdict.TheVariants.{Fault}
use Rattle.lard_rules.proofs.Runs.{runs_keep}
use Rattle.lard_law_view.proofs.EndpointSends.{AllTo, speaks-to, speaks_symbols-to}
use Rattle.lard_rules.proofs.StayKeeping.{KeptByNotes, batch-works, goes-works, tagged-works}
use Rattle.lard_rules.proofs.Endings.{answered-keeps, at-fin-keeps, settled-keeps}

-- ---- what is said

pub spoken-to : (env : ServeEnv) (w : Service) (before : List (Place × List ℕ)) → AllTo (Client env.c) before → AllTo (Client env.c) (spoken env w before).1.segments
spoken-to env w before to = Each-append (λ s. s.0 ≡ Client env.c) before (speaks env.c w.block).0 to (speaks-to env.c w.block).to

cut_off-to : (env : ServeEnv) (w : Service) → AllTo (Client env.c) (cut_off env w).1.segments
cut_off-to env w = Each-append (λ s. s.0 ≡ Client env.c) (speaks_symbols env.c w.block).0 (serving_told env (limit_said (final_of (speaks_symbols env.c w.block).1 Limit)) ∷ [])
    (speaks_symbols-to env.c w.block).to (refl, tt)

-- what was in hand is said, with the notes that it had
pub record IsSettled (env : ServeEnv) (w : Service) (given : Ending × Turn) : Type 0 where
  pub notes : given.1.notes ≡ w.notes
  pub to : AllTo (Client env.c) given.1.segments

pub settled-is : (env : ServeEnv) (w : Service) → IsSettled env w (serving_settled env w)
settled-is env w = settled-keeps (IsSettled env w) env w (λ e. record { notes = refl; to = spoken-to env w [] tt }) (λ total e. record { notes = refl; to = cut_off-to env w })

-- ---- what is noted: P is so of the notes, and of more plain ones behind them

module _ (P : List Rec → Type 0) (more : (ns rs : List Rec) → Each IsPlain rs → P ns → P (ns ++ rs)) where
  answered-notes : (env : ServeEnv) (via : Via) (v : Verdict) (w : Service) → P w.notes → P (answered env via v w).notes
  answered-notes env via v w h =
      let bytes : List ℕ = answer env.files v in
      let total : ℕ = w.block.send.total + length bytes in
      answered-keeps (λ s. P s.notes) env via v w
      (λ t. more w.notes (rec.Reset env.place env.c total ∷ []) (tt, tt) h)
      (λ t. more w.notes (rec.Served env.place env.c (w.count + 1) (answer_code env.files v) (length bytes) via ∷ []) (tt, tt) h)

  ended-notes : (w : Service) → P w.notes → P (ended_at_fin w).notes
  ended-notes w h = at-fin-keeps (λ s. P s.notes) w (λ t. h) (λ t. h)

  -- ---- the front end

  abbrev ReadsSo : Step Reading → Type 0
  ReadsSo (More y) = P y.service.notes
  ReadsSo (Done y) = P y.service.notes

  targeted-notes : (path : List ℕ) (x : Reading) → P x.service.notes → P (targeted path x).service.notes
  targeted-notes path x h = cond_both (may_freeze x.service.block) (record x { target = Some path }) x (λ y. P y.service.notes) (λ t. h) (λ t. h)

  block-notes : (env : ServeEnv) (x : Reading) (n : ℕ) (v : Verdict) (o : Option (List ℕ)) → P x.service.notes → ReadsSo (reads_block env x n v o)
  block-notes env x n v None h = answered-notes env Own v (serving_consumed n x.service) h
  block-notes env x n v (Some path) h = targeted-notes path x h

  found-notes : (env : ServeEnv) (x : Reading) (f : Found) → P x.service.notes → ReadsSo (reads_found env x f)
  found-notes env x (found.More skip) h = ended-notes (serving_consumed skip x.service) h
  found-notes env x (found.Block skip len) h = block-notes env x (skip + len) (block_at x skip len) (good_path env.files (block_at x skip len)) h
  found-notes env x (found.TooLong skip) h = answered-notes env Own (Fault code.FieldsTooLarge) (serving_consumed (length x.service.block.recv.unread) x.service) h

  front-turn : (env : ServeEnv) (x : Reading) → P x.service.notes → ReadsSo (front.reading_turn env x)
  front-turn env x h = cond_both (may_read x.service) (reads_found env x (cut_of x.service.block.recv.unread)) (Done x) ReadsSo
      (λ t. found-notes env x (cut_of x.service.block.recv.unread) h) (λ t. h)

  pub reads-notes : (env : ServeEnv) (x : Reading) → P x.service.notes → P (front.front_reads env x).service.notes
  reads-notes env x h = runs_keep (front.reading_turn env) front.reading_left (λ y. P y.service.notes) (record {
    more = λ y z e p. subst ReadsSo e (front-turn env y p);
    done = λ y z e p. subst ReadsSo e (front-turn env y p);
  }) x h

  -- ---- a node

  abbrev WorksSo : Work → Type 0
  WorksSo w = P w.service.notes

  by_plain : (env : NodeEnv) → KeptByNotes env (λ s jobs. P s.notes)
  by_plain env = record {
    hits = λ path v s jobs good t h. more s.notes (rec.Hit env.n path ∷ []) (tt, tt) h;
    queues = λ r path v s jobs good f h. more s.notes (rec.Queued env.n env.n env.serve.c r path ∷ []) (tt, tt) h;
    takes = λ used s jobs h. h;
    ends = λ s jobs h. ended-notes s h;
    answers = λ way v s jobs may h. answered-notes env.serve way v s h;
  }

  -- the state behind a batch
  pub batch-state : (env : NodeEnv) (here : Bool) (w : Work) → w.batch ≡ [] → WorksSo w → WorksSo (state_of (reads_batch env here w))
  batch-state env here w none h = batch-works env (λ s jobs. P s.notes) (by_plain env) here w none h

  pub goes-notes : (env : NodeEnv) (w : Work) → WorksSo w → WorksSo (goes_on env w)
  goes-notes env w h = goes-works env (λ s jobs. P s.notes) (by_plain env) w h

  pub tagged-notes : (env : NodeEnv) (nodes : List ℕ) (w : Work) → WorksSo w → WorksSo (tagged env nodes w)
  tagged-notes env nodes w h = tagged-works env (λ s jobs. P s.notes) (by_plain env) nodes w h

  pub came-notes : (f : Progress → Progress) (r : ℕ) (w : Work) → WorksSo w → WorksSo (came_for f r w)
  came-notes f r w h = cond_both (nat_lt w.service.count r) (record w { batch = come_on f (r - (w.service.count + 1)) w.batch }) w WorksSo (λ t. h) (λ t. h)
