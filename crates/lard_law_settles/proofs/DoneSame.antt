-- A fold that takes an inner step for an event, and passes over the marks of settles, says the same of both journals.
use Rattle.std.proofs.Common.{◌≡◌, ℕ, Bool, true, false, ◌||◌, List, [], refl, sym, ap, ◌∙◌}
use Rattle.std.specs.List.{fold}
use Rattle.std.specs.Prelude.{sum_by}
use Rattle.lard_law_view.specs.Prelude.{FilesAt, Place, Rec, Recency, Tale, TimerKind, aborted_step, accepted, armed_step, assigned, bytes_step, ended_step, home_told, is_touched, last_epoch, lost_step, node_closed_step, numbers_of, owner, sent_step, served, served_bytes, shut_step, tale, tale_step, time_step, units_at, untold, was_reset, wrote}
use Rattle.lard_law_connections.specs.Line.{Line, line_step, nobody}
use Rattle.lard_counts.specs.Ledger.{blank_ledger, ledger_step}
use Rattle.lard_law_connections.specs.PolicyLoads.{charge_step}
use Rattle.lard_counts.specs.Stores.{Queue, cache_step, jobs_step, no_jobs}
use Rattle.lard_history.proofs.Tales.{accepted-tale, assigned-tale, epoch-tale, home-tale, numbers-tale, owner-tale, reset-tale, served-tale, served_bytes-tale, touched-tale, wrote-tale}
use Rattle.lard_law_settles.specs.DoneLaws.{WrittenOutTellsTheSame}
use Rattle.lard_law_settles.specs.DoneSame.{TellsClientsTheSame}
use Rattle.lard_law_settles.proofs.RoundsTold.{jobs-steps, line-steps}
use Rattle.lard_settling.proofs.Folds.{TakesSteps, fold-written}
use Rattle.lard_settling.specs.Written.{written_out}

or-none : (b : Bool) → (b || false) ≡ b
or-none true = refl
or-none false = refl

-- ---- steps of folds

tale-steps : (c : ℕ) → TakesSteps (tale_step c)
tale-steps c = record {
  events = λ t i k e. refl;
  inner = λ t i e. refl;
  settles = λ t i rounds. ap (λ (b : Bool). record t { has_closed = b }) (or-none t.has_closed);
  settled = λ t rounds. refl;
  unsettled = λ t rounds left. refl;
}

shut-steps : (c : ℕ) → TakesSteps (shut_step c)
shut-steps c = record { events = λ a i k e. refl; inner = λ a i e. refl; settles = λ a i rounds. or-none a; settled = λ a rounds. refl; unsettled = λ a rounds left. refl }

aborted-steps : (c : ℕ) → TakesSteps (aborted_step c)
aborted-steps c = record { events = λ a i j e. refl; inner = λ a i e. refl; settles = λ a i rounds. refl; settled = λ a rounds. refl; unsettled = λ a rounds left. refl }

ended-steps : (c : ℕ) → TakesSteps (ended_step c)
ended-steps c = record { events = λ a i j e. refl; inner = λ a i e. refl; settles = λ a i rounds. refl; settled = λ a rounds. refl; unsettled = λ a rounds left. refl }

armed-steps : (p : Place) (c : ℕ) (kind : TimerKind) → TakesSteps (armed_step p c kind)
armed-steps p c kind = record { events = λ a i j e. refl; inner = λ a i e. refl; settles = λ a i rounds. refl; settled = λ a rounds. refl; unsettled = λ a rounds left. refl }

cache-steps : (files : FilesAt) (n : ℕ) → TakesSteps (cache_step files n)
cache-steps files n = record { events = λ a i j e. refl; inner = λ a i e. refl; settles = λ a i rounds. refl; settled = λ a rounds. refl; unsettled = λ a rounds left. refl }

lost-steps : (k : ℕ) → TakesSteps (lost_step k)
lost-steps k = record { events = λ a i j e. refl; inner = λ a i e. refl; settles = λ a i rounds. refl; settled = λ a rounds. refl; unsettled = λ a rounds left. refl }

ledger-steps : TakesSteps ledger_step
ledger-steps = record { events = λ a i j e. refl; inner = λ a i e. refl; settles = λ a i rounds. refl; settled = λ a rounds. refl; unsettled = λ a rounds left. refl }

charge-steps : TakesSteps charge_step
charge-steps = record { events = λ a i j e. refl; inner = λ a i e. refl; settles = λ a i rounds. refl; settled = λ a rounds. refl; unsettled = λ a rounds left. refl }

closed-steps : (n : ℕ) → TakesSteps (node_closed_step n)
closed-steps n = record { events = λ a i j e. refl; inner = λ a i e. refl; settles = λ a i rounds. refl; settled = λ a rounds. refl; unsettled = λ a rounds left. refl }

sent-steps : TakesSteps sent_step
sent-steps = record { events = λ a i j e. refl; inner = λ a i e. refl; settles = λ a i rounds. refl; settled = λ a rounds. refl; unsettled = λ a rounds left. refl }

bytes-steps : TakesSteps bytes_step
bytes-steps = record { events = λ a i j e. refl; inner = λ a i e. refl; settles = λ a i rounds. refl; settled = λ a rounds. refl; unsettled = λ a rounds left. refl }

time-steps : TakesSteps time_step
time-steps = record { events = λ a i j e. refl; inner = λ a i e. refl; settles = λ a i rounds. refl; settled = λ a rounds. refl; unsettled = λ a rounds left. refl }

-- ---- the whole

module _ (J : List Rec) where
  -- of a fold from its beginning
  both : {A : Type 0} (step : A → Rec → A) → TakesSteps step → (a : A) → fold step a (written_out J) ≡ fold step a J
  both step takes a = fold-written step takes a 0 J

  -- of a field of what is told of a connection
  tale-same : (c : ℕ) → tale (written_out J) c ≡ tale J c
  unfolding tale
  tale-same c = both (tale_step c) (tale-steps c) untold

  by-tale : {A : Type 0} (told : List Rec → ℕ → A) (field : Tale → A) → ((K : List Rec) (c : ℕ) → told K c ≡ field (tale K c)) → (c : ℕ) → told (written_out J) c ≡ told J c
  by-tale told field is c = is (written_out J) c ∙ ap field (tale-same c) ∙ sym (is J c)

  clients-same : TellsClientsTheSame J (written_out J)
  clients-same = record {
    opened = by-tale numbers_of (λ t. t.numbers) numbers-tale;
    written = by-tale wrote (λ t. t.wrote) wrote-tale;
    taken = by-tale accepted (λ t. t.accepted) accepted-tale;
    touched = by-tale is_touched (λ t. t.touched) touched-tale;
    aborts = λ c. both (aborted_step c) (aborted-steps c) false;
    shuts = λ c. both (shut_step c) (shut-steps c) false;
    ends = λ c. both (ended_step c) (ended-steps c) false;
  }

pub tells-the-same : WrittenOutTellsTheSame
tells-the-same config files J = record {
  clients = clients-same J;
  owners = by-tale J owner (λ t. t.owner) owner-tale;
  epochs = by-tale J last_epoch (λ t. t.epoch) epoch-tale;
  responses = by-tale J served (λ t. t.served) served-tale;
  bytes = by-tale J served_bytes (λ t. t.served_bytes) served_bytes-tale;
  resets = by-tale J was_reset (λ t. t.was_reset) reset-tale;
  homes = by-tale J home_told (λ t. t.home) home-tale;
  requests = by-tale J assigned (λ t. t.assigned) assigned-tale;
  counted = both J ledger_step ledger-steps (blank_ledger config);
  loads = λ n. ap (sum_by (units_at n)) (both J charge_step charge-steps []);
  closings = λ n. both J (node_closed_step n) (closed-steps n) false;
  waits = ap (λ (l : Line). l.waits) (both J line_step line-steps nobody);
  disks = λ n. ap (λ (q : Queue). q.list) (both J (jobs_step n) (jobs-steps n) no_jobs);
  caches = λ limit n. ap (λ (r : Recency). r.entries) (both J (cache_step files n) (cache-steps files n) _);
  timers = λ p c kind. both J (armed_step p c kind) (armed-steps p c kind) false;
  packets = both J sent_step sent-steps 0;
  sizes = both J bytes_step bytes-steps 0;
  losses = λ k. both J (lost_step k) (lost-steps k) false;
  time = both J time_step time-steps 0;
}
