-- Where a settle is closed with nothing left, each connection is done with.
use Rattle.std.proofs.Common.{◌≡◌, ◌⊎◌, inl, inr, ⊎_elim, ◌≤◌, ◌<◌, ℕ, zero, suc, ◌+◌, ◌==◌, ◌||◌, Bool, true, false, List, [], ◌∷◌, length, Ok, refl, sym, ap, ◌∙◌, subst, arith}
use Rattle.std.proofs.lemmas.Bool.{and_parts, both_ways, leb-false, leb-true}
use Rattle.std.proofs.lemmas.Bool.Decides.{nat_tests}
use Rattle.std.specs.List.{list_any}
use Rattle.std.specs.Prelude.{IsSome, nat_le}
use Rattle.lard_agenda.proofs.Due.{rest_is_told}
use Rattle.lard_agenda.specs.Agenda.{agenda_of, rests}
use Rattle.lard_law_view.specs.Prelude.{Config, Has, IsComplete, IsQuiet, Machine, Place, Rec, TimerKind, answer_bytes, answers, closes_any, config_check, file_at, has_aborted, is_running, is_touched, numbers_of, room_of, verdicts, was_reset}
use Rattle.lard_base.specs.declared.place.Place.TheVariants as place
use Rattle.lard_law_connections.proofs.LineRuns.{line-needs-a-full-room}
use Rattle.lard_law_connections.specs.Line.{waiting_line}
use Rattle.lard_counts.specs.Ledger.{ledger_admitted, ledger}
use Rattle.lard_laws.proofs.QuietEnds.{quiet-complete}
use Rattle.lard_laws.specs.Quiet.{HasNoJob, IsInLine, reads_for}
use Rattle.lard_laws.proofs.RecordsThere.{only-nodes}
use Rattle.lard_counts.specs.Stores.{jobs}
use Rattle.lard_history.proofs.Seeing.{by_number}
use Rattle.lard_law_settles.proofs.SettlesSeats.{seats-named}
use Rattle.lard_law_settles.proofs.DoneJobs.{no-jobs}
use Rattle.lard_law_settles.proofs.DoneSame.{tells-the-same}
use Rattle.lard_law_settles.proofs.DoneSeats.{running-seated}
use Rattle.lard_law_settles.specs.Done.{IsDoneWith}
use Rattle.lard_law_settles.specs.DoneSame.{TellsTheSame}
use Rattle.lard_law_settles.proofs.RoundsLeft.{left-quiet}
use Rattle.lard_law_settles.proofs.RoundsTold.{jobs-same, line-same, nodes-are, stalled-same}
use Rattle.lard_law_settles.specs.RoundsToDo.{is_stalled_at}
use Rattle.lard_settling.specs.Left.{jobs_at, jobs_from}
use Rattle.lard_settling.specs.Settling.{is_quiet, jobs_left, settle_left}
use Rattle.lard_settling.specs.Written.{IsWrittenOut}

-- ---- lists

-- who is found is among them
found-has : (c : ℕ) (cs : List ℕ) → list_any (λ w. w == c) cs ≡ true → Has c cs
found-has c [] found = absurd (both_ways false refl found)
found-has c (d ∷ cs) found = go (d == c) refl found (found-has c cs) where
  go : (b : Bool) → (d == c) ≡ b → (b || list_any (λ w. w == c) cs) ≡ true → (list_any (λ w. w == c) cs ≡ true → Has c cs) → Has c (d ∷ cs)
  go true same f rest = inl (grind (arith, nat_tests, same))
  go false other f rest = inr (rest f)

has-some : (c : ℕ) (cs : List ℕ) → Has c cs → 0 < length cs
has-some c [] h = absurd h
has-some c (d ∷ cs) h = omega arith

none-empty : {A : Type 0} (xs : List A) → length xs ≡ 0 → xs ≡ []
none-empty [] h = refl
none-empty (x ∷ xs) h = absurd (omega (arith, h))

-- of nodes that have no job together, none has one
each-none : (m : Machine) (n more k : ℕ) → jobs_from m n more ≡ 0 → n ≤ k → k < n + more → jobs_at m k ≡ 0
each-none m n zero k none from to = absurd (omega (arith, from, to))
each-none m n (suc more) k none from to = by_number (jobs_at m k ≡ 0) n k
    (λ same. let first : jobs_at m n ≡ 0 = omega (arith, none) in sym (ap (jobs_at m) same) ∙ first)
    (λ other. each-none m (n + 1) more k (omega (arith, none)) (omega (arith, from, other)) (omega (arith, to)))

-- ---- a state in which nothing is left

module _ (config : Config) (files : List (List ℕ × List ℕ)) (checked : config_check config ≡ Ok tt) (m : Machine) (w : IsWrittenOut config files m) (none : settle_left m ≡ 0) where
  abbrev J : List Rec
  J = m.journal

  abbrev K : List Rec
  K = w.plain.journal

  same : TellsTheSame config (file_at files) J K
  same = subst (TellsTheSame config (file_at files) J) (sym w.journal) (tells-the-same config (file_at files) J)

  quiet : is_quiet m ≡ true
  quiet = go (is_quiet m) refl where
    go : (b : Bool) → is_quiet m ≡ b → is_quiet m ≡ true
    go true is = is
    go false is = absurd (left-quiet m is none)

  -- ---- timers

  stalled : (c : ℕ) (p : Place) (kind : TimerKind) → is_running J p c kind ≡ true → is_stalled_at p (waiting_line J) c ≡ true
  stalled c p kind runs =
      let seats = seats-named config files m checked w in
      let rest : rests m.front.dispatch (agenda_of J) ≡ true = (and_parts (rests m.front.dispatch (agenda_of J)) (jobs_left m == 0) quiet).0 in
      let is = (rest_is_told m.front.dispatch J seats).0 rest p c kind (running-seated p c kind J seats runs) runs in
      sym (stalled-same p m.front.dispatch.books.line c ∙ ap (λ (l : List ℕ). is_stalled_at p l c) (line-same config files checked m w)) ∙ is

  -- those of one that is not in the line do not run
  unstalled : (c : ℕ) (p : Place) → list_any (λ (i : ℕ). i == c) (waiting_line J) ≡ false → is_stalled_at p (waiting_line J) c ≡ false
  unstalled c place.Front out = refl
  unstalled c (place.Node n) out = refl
  unstalled c (place.Client d) out = out

  rests-out : (c : ℕ) → list_any (λ (i : ℕ). i == c) (waiting_line J) ≡ false → IsQuiet J c
  rests-out c out p kind = go (is_running J p c kind) refl where
    go : (b : Bool) → is_running J p c kind ≡ b → is_running J p c kind ≡ false
    go true runs = absurd (both_ways (is_stalled_at p (waiting_line J) c) (unstalled c p out) (stalled c p kind runs))
    go false runs = runs

  -- ---- jobs

  all-none : jobs_from m 1 config.nodes ≡ 0
  all-none = let sum : jobs_from m 1 m.config.nodes ≡ 0 = omega (arith, none) in sym (ap (jobs_from m 1) (nodes-are config files checked m w)) ∙ sum

  no-jobs-at : (n : ℕ) → jobs J n ≡ []
  no-jobs-at n = go (nat_le 1 n) (nat_le n config.nodes) refl refl where
    out : ((1 ≤ n) × (n ≤ config.nodes) → ⊥) → jobs J n ≡ []
    out there = sym (same.disks n) ∙ no-jobs config.nodes n there K (only-nodes config files w.plain w.reached)

    go : (a b : Bool) → nat_le 1 n ≡ a → nat_le n config.nodes ≡ b → jobs J n ≡ []
    go true true from to =
        let low : 1 ≤ n = leb-true _ _ from in
        let high : n ≤ config.nodes = leb-true _ _ to in
        let at : jobs_at m n ≡ 0 = each-none m 1 config.nodes n all-none low (omega (arith, high)) in
        none-empty (jobs J n) (sym (jobs-same config files checked m w n low high) ∙ at)
    go true false from to = let more = leb-false _ _ to in out (λ there. let high = there.1 in omega (arith, more, high))
    go false b from to = let few = leb-false _ _ from in out (λ there. let low = there.0 in omega (arith, few, low))

  no-job : (c : ℕ) → HasNoJob J c
  no-job c n = ap (list_any (reads_for c)) (no-jobs-at n)

  -- ---- how it ends

  -- what is so of the journal written out
  complete-here : (c : ℕ) → IsComplete (file_at files) K c → IsComplete (file_at files) J c
  complete-here c h = record {
    responses = sym (same.responses c) ∙ h.responses ∙ ap (λ (bytes : List ℕ). length (answers (file_at files) bytes)) (same.clients.written c);
    all = sym (same.clients.taken c) ∙ h.all ∙ ap (answer_bytes (file_at files)) (same.clients.written c);
    ends = λ closes. sym (same.clients.ends c) ∙ h.ends (ap (λ (bytes : List ℕ). closes_any (verdicts bytes)) (same.clients.written c) ∙ closes);
    shut = λ was. sym (same.clients.ends c) ∙ h.shut (same.clients.shuts c ∙ was);
  }

  room-here : ledger_admitted (ledger config K) ≡ room_of config → ledger_admitted (ledger config J) ≡ room_of config
  room-here h = sym (ap ledger_admitted same.counted) ∙ h

  in-line : (c : ℕ) → list_any (λ (i : ℕ). i == c) (waiting_line J) ≡ true → IsInLine config J c
  in-line c found =
      let has : Has c (waiting_line J) = found-has c (waiting_line J) found in
      let some : 0 < length (waiting_line K) = has-some c (waiting_line K) (subst (Has c) (sym same.waits) has) in
      (has, room-here (line-needs-a-full-room config files w.plain checked w.reached some))

  ends-so : (c : ℕ) → IsSome (numbers_of J c) → is_touched J c ≡ false → has_aborted J c ≡ false → was_reset J c ≡ false → IsComplete (file_at files) J c ⊎ IsInLine config J c
  ends-so c opened calm stays whole = go (list_any (λ (i : ℕ). i == c) (waiting_line J)) refl where
    rests-there : IsQuiet J c → IsQuiet K c
    rests-there h p kind = same.timers p c kind ∙ h p kind

    go : (b : Bool) → list_any (λ (i : ℕ). i == c) (waiting_line J) ≡ b → IsComplete (file_at files) J c ⊎ IsInLine config J c
    go true found = inr (in-line c found)
    go false out = ⊎_elim
        (λ (done : IsComplete (file_at files) K c). inl (complete-here c done))
        (λ (waits : IsInLine config K c). inr (subst (Has c) same.waits waits.0, room-here waits.1))
        (quiet-complete config files checked w.plain w.reached c (subst IsSome (sym (same.clients.opened c)) opened)
        (same.clients.touched c ∙ calm) (same.clients.aborts c ∙ stays) (same.resets c ∙ whole) (rests-there (rests-out c out)) (λ n. ap (list_any (reads_for c)) (same.disks n) ∙ no-job c n))

  pub done-with : (c : ℕ) → IsSome (numbers_of J c) → IsDoneWith config (file_at files) J c
  done-with c opened = record { quiet = stalled c; jobs = no-job c; ends = ends-so c opened }
