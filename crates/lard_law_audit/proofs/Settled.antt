-- A journal whose settles stand in order is sound, where it is lawful with them written out: each test looks up folds, which say the same
-- of both, and what stands directly before.
use Rattle.std.proofs.Common.{◌≡◌, ℕ, Bool, true, false, not, ◌&&◌, is_some, List, [], ◌∷◌, ◌++◌, Option, None, refl, sym, ap, ◌∙◌, subst}
use Rattle.lard_audit.specs.Sound.{broken, audit_due_behind, audit_files_of, first_broken, is_audit_job, audit_job_at, job_behind, keeps_admission, keeps_cache, keeps_choice, keeps_clock, keeps_network, keeps_owner, keeps_sender, audit_last_of, may_arrive}
use Rattle.lard_law_view.specs.Prelude.{Config, EachMay, Event, Rec, Recency, epoch_step, goal_step, last_epoch, lost_step, owner, owner_step, room_of, sent_count, sent_step}
use Rattle.lard_counts.specs.Ledger.{Ledger, ledger_admitted, blank_ledger, is_in_ledger, ledger, ledger_step}
use Rattle.lard_counts.specs.Stores.{Queue, Waiting, cache_step, cached, jobs, jobs_step, no_jobs}
use Rattle.lard_journal.specs.declared.rec.Rec.TheVariants as rec
use Rattle.lard_law_audit.specs.Laws.{SettledIsSound, file_lengths}
use Rattle.lard_law_audit.proofs.Behind.{PairsAt, event_in}
use Rattle.lard_law_audit.proofs.Keeping.{admission-kept, cache-kept, choice-kept, clock-kept, job-named, network-kept, owner-kept, sender-kept}
use Rattle.lard_law_audit.proofs.Lifting.{Lift, SameAt, lift-each, pairs-settled, same-each}
use Rattle.lard_law_audit.proofs.Sounding.{Stands, each-stands, homes-told}
use Rattle.lard_law_connections.specs.PolicyLaws.{MayAdmit}
use Rattle.lard_settling.proofs.Folds.{fold-written}
use Rattle.lard_settling.proofs.Plain.{is_mark}
use Rattle.lard_settling.specs.Written.{written_out}

module _ (config : Config) (files : List (List ℕ × List ℕ)) (past : List Rec) where
  abbrev w : List Rec
  w = written_out past

  abbrev l : Ledger
  l = ledger config past

  sent-same : sent_count w ≡ sent_count past
  sent-same = fold-written sent_step (record { events = λ a i k e. refl; inner = λ a i e. refl; settles = λ a i rounds. refl; settled = λ a rounds. refl; unsettled = λ a rounds left. refl }) 0 0 past

  arrive-same : (k : ℕ) → may_arrive w k ≡ may_arrive past k
  arrive-same k =
      let goal = fold-written (goal_step k) (record { events = λ a i j e. refl; inner = λ a i e. refl; settles = λ a i rounds. refl; settled = λ a rounds. refl; unsettled = λ a rounds left. refl }) None 0 past in
      let lost = fold-written (lost_step k) (record { events = λ a i j e. refl; inner = λ a i e. refl; settles = λ a i rounds. refl; settled = λ a rounds. refl; unsettled = λ a rounds left. refl }) false 0 past in
      λ i. is_some (goal i) && not (lost i)

  owner-same : (c : ℕ) → owner w c ≡ owner past c
  owner-same c = fold-written (owner_step c) (record { events = λ a i k e. refl; inner = λ a i e. refl; settles = λ a i rounds. refl; settled = λ a rounds. refl; unsettled = λ a rounds left. refl }) None 0 past

  epoch-same : (c : ℕ) → last_epoch w c ≡ last_epoch past c
  epoch-same c = fold-written (epoch_step c) (record { events = λ a i k e. refl; inner = λ a i e. refl; settles = λ a i rounds. refl; settled = λ a rounds. refl; unsettled = λ a rounds left. refl }) 0 0 past

  ledger-same : ledger config w ≡ ledger config past
  ledger-same = fold-written ledger_step (record { events = λ a i k e. refl; inner = λ a i e. refl; settles = λ a i rounds. refl; settled = λ a rounds. refl; unsettled = λ a rounds left. refl }) (blank_ledger config) 0 past

  jobs-same : (n : ℕ) → jobs w n ≡ jobs past n
  jobs-same n = ap (λ (q : Queue). q.list) (fold-written (jobs_step n) (record { events = λ a i k e. refl; inner = λ a i e. refl; settles = λ a i rounds. refl; settled = λ a rounds. refl; unsettled = λ a rounds left. refl }) no_jobs 0 past)

  cached-same : (n : ℕ) → cached (audit_files_of (file_lengths files)) config.cache w n ≡ cached (audit_files_of (file_lengths files)) config.cache past n
  cached-same n = ap (λ (x : Recency). x.entries) (fold-written (cache_step (audit_files_of (file_lengths files)) n) (record { events = λ a i k e. refl; inner = λ a i e. refl; settles = λ a i rounds. refl; settled = λ a rounds. refl; unsettled = λ a rounds left. refl })
      (record { entries = []; limit = config.cache }) 0 past)

  abbrev named_by : List Rec → ℕ → Option Waiting
  named_by J n = audit_job_at (jobs J n) (job_behind (audit_last_of J) n)

  -- the caches and disks of the written journal let the same stand
  cache-both : (r : Rec) → event_in (audit_last_of past) ≡ event_in (audit_last_of w) → Stands config files w r
      → keeps_cache (file_lengths files) (cached (audit_files_of (file_lengths files)) config.cache w) (named_by w) r ≡ keeps_cache (file_lengths files) (cached (audit_files_of (file_lengths files)) config.cache past) (named_by past) r
  cache-both (rec.Hit n path) same s = λ i. keeps_cache (file_lengths files) (λ n. cached-same n i) (named_by w) (rec.Hit n path)
  cache-both (rec.Queued n m c r path) same s = λ i. keeps_cache (file_lengths files) (λ n. cached-same n i) (named_by w) (rec.Queued n m c r path)
  cache-both (rec.Read n m c r path) same s =
      let e : Event = s.reads.0 in
      let job : job_behind (audit_last_of w) n ≡ job_behind (audit_last_of past) n = job-named (audit_last_of w) e n s.reads.1 ∙ sym (job-named (audit_last_of past) e n (same ∙ s.reads.1)) in
      λ i. is_audit_job (audit_job_at (jobs-same n i) (job i)) m c r path
  cache-both _ same s = refl

  -- a record that is no mark
  plain-keeps : (r : Rec) → Stands config files w r → PairsAt past r → event_in (audit_last_of past) ≡ event_in (audit_last_of w) → broken config (file_lengths files) past r ≡ None
  unfolding broken
  plain-keeps r s pairs same =
      let network : keeps_network (sent_count past) (may_arrive past) r ≡ true = sym (λ i. keeps_network (sent-same i) (λ k. arrive-same k i) r) ∙ network-kept w r s.network in
      let own : keeps_owner (owner past) (last_epoch past) r ≡ true = sym (λ i. keeps_owner (λ c. owner-same c i) (λ c. epoch-same c i) r) ∙ owner-kept w r s.owns s.sends in
      let sender : keeps_sender (owner past) r ≡ true = sym (λ i. keeps_sender (λ c. owner-same c i) r) ∙ sender-kept w r s.sends in
      let admission : keeps_admission (audit_due_behind (audit_last_of past)) (room_of config) (ledger_admitted l) (is_in_ledger l) r ≡ true =
      admission-kept config l (audit_due_behind (audit_last_of past)) r pairs (subst (λ (k : Ledger). MayAdmit config k r) ledger-same s.admits) in
      let choice : keeps_choice config l.now l.loads l.sets (is_in_ledger l) r ≡ true =
      subst (λ (k : Ledger). keeps_choice config k.now k.loads k.sets (is_in_ledger k) r ≡ true) ledger-same (choice-kept config (ledger config w) r (homes-told config files w s.homes) s.assigns) in
      let cache : keeps_cache (file_lengths files) (cached (audit_files_of (file_lengths files)) config.cache past) (named_by past) r ≡ true = sym (cache-both r same s) ∙ cache-kept files config.cache w r s.reads s.stores in
      let clock : keeps_clock l.now r ≡ true = subst (λ (k : Ledger). keeps_clock k.now r ≡ true) ledger-same (clock-kept w (ledger config w) r s.now s.tells) in
      λ i. first_broken (network i) (own i) (sender i) (admission i) (choice i) (cache i) (clock i)

  -- a record that begins a step, or that a settle tells of itself, has to keep one rule alone
  mark-keeps : (r : Rec) → is_mark r ≡ true → PairsAt past r → broken config (file_lengths files) past r ≡ None
  unfolding broken
  mark-keeps (rec.Event i e) mark pairs = λ j. first_broken true true true (admission-kept config l (audit_due_behind (audit_last_of past)) (rec.Event i e) pairs tt j) true true true
  mark-keeps (rec.Inner e) mark pairs = λ j. first_broken true true true (admission-kept config l (audit_due_behind (audit_last_of past)) (rec.Inner e) pairs tt j) true true true
  mark-keeps (rec.Settled rounds) mark pairs = λ j. first_broken true true true (admission-kept config l (audit_due_behind (audit_last_of past)) (rec.Settled rounds) pairs tt j) true true true
  mark-keeps (rec.Unsettled rounds left) mark pairs = λ j. first_broken true true true (admission-kept config l (audit_due_behind (audit_last_of past)) (rec.Unsettled rounds left) pairs tt j) true true true
  mark-keeps _ mark pairs = let no : false ≡ true = mark in absurd cc

  keeps : (r : Rec) → Lift (Stands config files) past r → PairsAt past r → SameAt past r → broken config (file_lengths files) past r ≡ None
  keeps r s pairs same = go (is_mark r) refl where
    go : (b : Bool) → is_mark r ≡ b → broken config (file_lengths files) past r ≡ None
    go true mark = mark-keeps r mark pairs
    go false plain = plain-keeps r (s plain) pairs (same plain)

all-sound : (config : Config) (files : List (List ℕ × List ℕ)) (past rs : List Rec) → EachMay (Lift (Stands config files)) past rs → EachMay PairsAt past rs → EachMay SameAt past rs
    → EachMay (λ past r. broken config (file_lengths files) past r ≡ None) past rs
all-sound config files past [] s p q = tt
all-sound config files past (r ∷ rs) s p q = (keeps config files past r s.0 p.0 q.0, all-sound config files (past ++ r ∷ []) rs s.1 p.1 q.1)

pub settled-sound : SettledIsSound
settled-sound config files J order h = all-sound config files [] J (lift-each (Stands config files) J (each-stands config files (written_out J) h)) (pairs-settled J order h.nodes) (same-each J order)
