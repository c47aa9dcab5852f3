-- The Ask that a node makes in a turn: at most one, whose number is the next, with the jobs that the disk has at the end of it.
use Rattle.std.proofs.Common.{◌≡◌, ℕ, ◌+◌, ◌-◌, nat_lt, Bool, false, List, [], ◌∷◌, length, Option, Some, None, refl, sym, ap, ◌∙◌, subst}
use Rattle.std.proofs.lemmas.Bool.{cond_both}
use Rattle.lard_law_view.specs.Prelude.{Asked, Entry, FilesAt, NodeEnv, Progress, Service, Verdict, Via, Work, and_path, answered, batch_of, bytes_used, came_for, come_on, ended_at_fin, goes_on, left_by, named_paths, path_in, reads_batch, serves_with, serving_consumed, state_of, tagged}
use Rattle.lard_rules.specs.declared.stay.Progress.TheVariants as progress
use Rattle.lard_rules.proofs.StayWalking.{KeptByReads, KeptByStarts, StepIn, goes-in, state-in, tagged-in, these-in}

module _ (env : NodeEnv) (was : ℕ) where
  abbrev files : FilesAt
  files = env.serve.files

  -- some request of the batch is to be assigned
  abbrev HasNamed : List Entry → Type 0
  HasNamed es = named_paths files es ≡ [] → ⊥

  -- so many Asks were sent before the turn; the one that is made in it stays awaited
  abbrev pub AskedSo : Work → Option Asked → Type 0
  AskedSo w None = w.asks ≡ was
  AskedSo w (Some a) = (a.number ≡ was + 1) × (w.asks ≡ was + 1) × (a.queue ≡ env.queue + length w.jobs) × HasNamed w.batch

  abbrev pub IsAsking : Work → Type 0
  IsAsking w = AskedSo w w.asked

  -- no Ask was made yet
  abbrev pub IsIdle : Work → Type 0
  IsIdle w = (w.asked ≡ None) × (w.asks ≡ was)

  pub idle-asking : (w : Work) → IsIdle w → IsAsking w
  idle-asking w h = subst (AskedSo w) (sym h.0) h.1

  -- ---- requests are started, and come on

  by_starts : (nodes : List ℕ) → KeptByStarts env nodes (λ at es. IsIdle)
  by_starts nodes = record {
    stays = λ at r e es w is named h. h;
    short = λ at r path e es w is named none h. h;
    hits = λ at node r path e es w is named there t c h. h;
    queues = λ at node r path e es w is named there t c h. h;
    wants = λ at node r path e es w is named there f h. h;
  }

  pub tagged-idle : (nodes : List ℕ) (w : Work) → IsIdle w → IsIdle (tagged env nodes w)
  tagged-idle nodes w h = (tagged-in env nodes (λ at es. IsIdle) (by_starts nodes) w h).1

  pub came-idle : (f : Progress → Progress) (r : ℕ) (w : Work) → IsIdle w → IsIdle (came_for f r w)
  came-idle f r w h = cond_both (nat_lt w.service.count r) (record w { batch = come_on f (r - (w.service.count + 1)) w.batch }) w IsIdle (λ t. h) (λ t. h)

  -- ---- a batch is read: an Ask names those that are to be assigned

  by_reads : (size : ℕ) → KeptByReads env size (λ here vs. IsIdle) IsAsking
  by_reads size = record {
    hits = λ r path v vs w good is t h. h;
    queues = λ r path v vs w good is f h. h;
    enters = λ here v vs w only h. h;
    plain = λ here w none h. idle-asking w h;
    asks = λ here path paths w are h. (ap (λ i. i + 1) h.1, ap (λ i. i + 1) h.1, refl, λ none. let no : path ∷ paths ≡ [] = sym are ∙ none in cc);
  }

  batch-asks : (here : Bool) (w : Work) → w.batch ≡ [] → IsIdle w → StepIn IsAsking IsAsking (reads_batch env here w)
  batch-asks here w none h =
      let used : ℕ = bytes_used 8 w.service.block.recv.unread in
      let vs : List Verdict = batch_of 8 w.service.block.recv.unread in
      these-in env (λ here vs. IsIdle) IsAsking IsAsking here used w vs (by_reads (length vs)) none (λ e. idle-asking (record w { service = ended_at_fin (serving_consumed used w.service) }) h) (λ v us e. h)

  pub batch-state : (here : Bool) (w : Work) → w.batch ≡ [] → IsIdle w → IsAsking (state_of (reads_batch env here w))
  batch-state here w none h = state-in IsAsking (reads_batch env here w) (batch-asks here w none h)

  -- ---- turn by turn

  -- of one whose batch changes
  on-batch : (w : Work) (s : Service) (es : List Entry) (o : Option Asked) → (HasNamed w.batch → HasNamed es) → AskedSo w o → AskedSo (record w { service = s; batch = es }) o
  on-batch w s es None more h = h
  on-batch w s es (Some a) more h = (h.0, h.1, h.2, more h.3)

  -- a request that is served is not to be assigned
  served-named : (e : Entry) (rest : List Entry) (way : _) (over : Option ℕ) → e.progress ≡ progress.Ready way → HasNamed (e ∷ rest) → HasNamed (left_by over e rest)
  served-named e rest way None at some none = some (ap (λ p. and_path (path_in files e p) (named_paths files rest)) at ∙ none)
  served-named e rest way (Some total) at some none = some none

  serves-so : (way : Via) (e : Entry) (rest : List Entry) (w : Work) → w.batch ≡ e ∷ rest → e.progress ≡ progress.Ready way → IsAsking w → IsAsking (serves_with (answered env.serve way e.verdict w.service) e rest w)
  serves-so way e rest w is at h =
      let s : Service = answered env.serve way e.verdict w.service in
      on-batch w s (left_by s.over e rest) w.asked (λ some. served-named e rest way s.over at (subst HasNamed is some)) h

  -- where no request is left, none was asked for
  read-idle : (w : Work) (o : Option Asked) → w.asked ≡ o → w.batch ≡ [] → AskedSo w o → IsIdle w
  read-idle w None is none h = (is, h)
  read-idle w (Some a) is none h = absurd (h.3 (ap (named_paths files) none))

  pub goes-so : (w : Work) → IsAsking w → IsAsking (goes_on env w)
  goes-so w h = goes-in env IsAsking IsAsking (record {
    reads = λ k none may a. batch-asks false k none (read-idle k k.asked refl none a);
    serves = λ way e rest k may first is a. serves-so way e rest k first is a;
    stops = λ k may a. a;
    holds = λ k leaves none may a. a;
  }) w h
