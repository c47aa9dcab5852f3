-- Of a generated run that is done clients 1 to n are all, and what its journal counts is all that they are answered.
use Rattle.std.proofs.Common.{◌≡◌, ◌≤◌, ◌<◌, ◌^◌, inl, inr, ℕ, Bool, true, false, not, List, [], ◌∷◌, ◌++◌, All, length, Ok, append-nil, refl, sym, ap, ◌∙◌, subst, arith}
use Rattle.std.proofs.lemmas.List.Elements.{All-head, All-tail}
use Rattle.lard_law_view.specs.Prelude.{Config, Event, Follows, Has, Machine, Rec, aborted_step, answer_bytes, file_at, is_own, machine_start, touched_step, wrote, wrote_step}
use Rattle.lard_base.specs.declared.event.Event.TheVariants as event
use Rattle.lard_bound.specs.Bound.{bytes_both_ways, opener_step, openers, total_of}
use Rattle.lard_laws.proofs.Lawful.{journals-lawful}
use Rattle.lard_generate.specs.Clients.{drawn_actions, drawn_open}
use Rattle.lard_generate.specs.Draws.{each, seeded}
use Rattle.lard_generate.specs.Files.{drawn_size}
use Rattle.lard_generate.specs.Generated.{generated}
use Rattle.lard_generate.specs.Laws.{IsSpelled}
use Rattle.lard_generate.proofs.Spelled.{events_spelled}
use Rattle.lard_generate_bound.specs.Laws.{before_settle, generated_rounds}
use Rattle.lard_generate_bound.specs.Shares.{numbers_to}
use Rattle.lard_generate_bound.proofs.Reaching.{before-follows, before-plain, openers-are, reach-the-bound, settles-last}
use Rattle.lard_journal.specs.declared.rec.Rec.TheVariants as rec
use Rattle.lard_law_settles.proofs.EnoughTelling.{PassesOver, openers-over, touched-over, wrote-over}
use Rattle.lard_law_settles.proofs.EnoughWithin.{opener-steps, touched-steps, wrote-steps}
use Rattle.lard_law_settles.proofs.DoneRuns.{runs-are-done}
use Rattle.lard_law_settles.proofs.DoneSame.{tells-the-same}
use Rattle.lard_law_settles.specs.DoneSame.{TellsTheSame}
use Rattle.lard_settling.proofs.Folds.{TakesSteps}
use Rattle.lard_settling.specs.Events.{GoesThrough, event_step}
use Rattle.lard_settling.specs.Written.{IsWrittenOut}
use Rattle.lard_generate_answers.specs.Counted.{writes}
use Rattle.lard_generate_answers.specs.Laws.{GeneratedRunsAnswerAll}
use Rattle.lard_generate_answers.proofs.Joining.{IsTheirs, counts}
use Rattle.lard_generate_answers.proofs.Settled.{before-written, settle-says}
use Rattle.lard_generate_answers.proofs.Starting.{not-aborted, not-written, numbers-have}
use Rattle.lard_generate_answers.proofs.Sums.{IsTo}
use Rattle.lard_generate_answers.proofs.Writing.{keeps-all, writes-append}

-- the last of some events was done behind all others
last-apart : (es : List Event) (e : Event) (m n : Machine) → GoesThrough m (es ++ e ∷ []) n → (k : Machine) × GoesThrough m es k × (event_step k e ≡ Ok n)
last-apart [] e m n g = (m, refl, g.2 ∙ ap (λ (k : Machine). Ok k) (sym g.3))
last-apart (d ∷ es) e m n g = let more = last-apart es e g.0 n g.3 in (more.0, (g.0, g.1, g.2, more.1), more.2)

last-of : (P : Event → Type 0) (es : List Event) (e : Event) → All P (es ++ e ∷ []) → P e
last-of P [] e all = All-head P e [] all
last-of P (d ∷ es) e all = last-of P es e (All-tail P d (es ++ e ∷ []) all)

-- what one has, all have together
one-of-all : (f : ℕ → ℕ) (c : ℕ) (cs : List ℕ) → Has c cs → f c ≤ total_of f cs
one-of-all f c [] h = absurd h
one-of-all f c (d ∷ cs) (inl same) = let its : f d ≡ f c = ap f same in omega (arith, its)
one-of-all f c (d ∷ cs) (inr later) = omega (arith, one-of-all f c cs later)

-- ---- an inner step aborts no client

aborted-over : (c : ℕ) → PassesOver (aborted_step c)
aborted-over c = record { events = λ a i e. refl; comes = λ a k. refl; others = others } where
  others : (a : Bool) (r : Rec) → not (is_own r) ≡ true → aborted_step c a r ≡ a
  others a (rec.Aborted d) h = cc
  others a _ h = refl

aborted-steps : (c : ℕ) → TakesSteps (aborted_step c)
aborted-steps c = record { events = λ a i j e. refl; inner = λ a i e. refl; settles = λ a i rounds. refl; settled = λ a rounds. refl; unsettled = λ a rounds left. refl }

module _ (seed clients : ℕ) (few : clients ≤ 2000) (config : Config) (m n : Machine) (goes : GoesThrough (machine_start config (generated seed clients).files) (before_settle seed clients) m)
    (is : event_step m (event.Settle (generated_rounds seed clients)) ≡ Ok n) where
  abbrev files : List (List ℕ × List ℕ)
  files = (generated seed clients).files

  -- ---- before the settle

  told : Follows 1 (before_settle seed clients) m.journal
  told = before-follows seed clients config m goes

  written-out : IsWrittenOut config files m
  written-out = before-written config files (before_settle seed clients) m (before-plain seed clients) goes

  opened : openers m.journal ≡ numbers_to clients
  opened =
      let sizes = each drawn_size 256 (seeded seed) in
      let opens = each drawn_open clients sizes.1 in
      openers-are clients sizes.1 opens.1 (each drawn_actions clients opens.1).1 [] m.journal told

  rounds-fit : generated_rounds seed clients < 2 ^ 32
  rounds-fit = (last-of IsSpelled (before_settle seed clients) (event.Settle (generated_rounds seed clients)) (subst (All IsSpelled) (settles-last seed clients) (events_spelled seed clients few))).0.1

  -- the answers to one client have few bytes
  answers-small : (c : ℕ) → IsTo clients c → length (answer_bytes (file_at files) (wrote m.journal c)) ≤ 2 ^ 28
  answers-small c to =
      let bound = (reach-the-bound seed clients config m goes).0 in
      let one = one-of-all (bytes_both_ways (file_at files) m.journal) c (openers m.journal) (subst (Has c) (sym opened) (numbers-have c clients to)) in
      omega (arith, bound, one, rounds-fit)

  -- ---- and behind it

  behind : (c : ℕ) → IsWrittenOut config files n × (wrote n.journal c ≡ wrote m.journal c)
  behind c = settle-says config files (wrote_step c) (wrote-over c) (wrote-steps c) [] (wrote m.journal c) m n (generated_rounds seed clients) written-out refl is

  pub theirs : (stream : ℕ) → 2 ^ 28 ≤ stream → IsTheirs (file_at files) stream clients n.journal
  theirs stream wide = record {
    opened_are = (settle-says config files opener_step openers-over opener-steps [] (numbers_to clients) m n (generated_rounds seed clients) written-out opened is).1;
    alone = λ c none. (behind c).1 ∙ not-written seed clients c m.journal none told;
    untouched = λ c. (settle-says config files (touched_step c) (touched-over c) (touched-steps c) false false m n (generated_rounds seed clients) written-out ((reach-the-bound seed clients config m goes).1 c).0 is).1;
    unaborted = λ c. (settle-says config files (aborted_step c) (aborted-over c) (aborted-steps c) false false m n (generated_rounds seed clients) written-out (not-aborted c (before_settle seed clients) m.journal (before-plain seed clients) told) is).1;
    small = λ c to.
        let least = answers-small c to in
        let same : length (answer_bytes (file_at files) (wrote n.journal c)) ≡ length (answer_bytes (file_at files) (wrote m.journal c)) = ap (λ (q : List ℕ). length (answer_bytes (file_at files) q)) (behind c).1 in
        omega (arith, least, same, wide);
  }

  -- each client wrote what the events have it write
  settle-writes : (c rounds : ℕ) (es : List Event) → writes c (es ++ event.Settle rounds ∷ []) ≡ writes c es
  settle-writes c rounds es = writes-append c es (event.Settle rounds ∷ []) ∙ append-nil (writes c es)

  pub written-all : (c : ℕ) → wrote n.journal c ≡ writes c (generated seed clients).events
  written-all c =
      let sizes = each drawn_size 256 (seeded seed) in
      let opens = each drawn_open clients sizes.1 in
      let actions = each drawn_actions clients opens.1 in
      let all = keeps-all config files clients sizes.1 opens.1 actions.1 (machine_start config files) m ([], refl) (λ d to. absurd (omega (arith, to.0, to.1))) goes in
      (behind c).1 ∙ all.says c ∙ sym (settle-writes c (generated_rounds seed clients) (before_settle seed clients)) ∙ ap (writes c) (sym (settles-last seed clients))

pub runs-answer-all : GeneratedRunsAnswerAll
runs-answer-all seed clients config n before done few checked room wide goes settled =
    let files = (generated seed clients).files in
    let apart = last-apart (before_settle seed clients) (event.Settle (generated_rounds seed clients)) (machine_start config files) n (subst (λ (all : List Event). GoesThrough (machine_start config files) all n) (settles-last seed clients) goes) in
    let w : IsWrittenOut config files n = (behind seed clients few config apart.0 n apart.1 apart.2 0).0 in
    counts config (file_at files) clients n.journal w.plain.journal
    (theirs seed clients few config apart.0 n apart.1 apart.2 config.stream wide)
    (journals-lawful config files w.plain checked w.reached)
    (subst (TellsTheSame config (file_at files) n.journal) (sym w.journal) (tells-the-same config (file_at files) n.journal))
    (generated seed clients).events (written-all seed clients few config apart.0 n apart.1 apart.2)
    room before done settled (runs-are-done config files (generated seed clients).events n checked (inl goes))
