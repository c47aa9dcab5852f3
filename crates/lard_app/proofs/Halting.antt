-- What a line leaves that ends the run: all is as before it, or it is a settle that had begun.
use Rattle.std.proofs.Common.{◌≡◌, ◌⊎◌, inl, inr, ℕ, ◌<◌, List, [], ◌∷◌, length, Bool, true, false, cond, Option, Some, None, Result, Ok, Err, refl, sym, ap, ◌∙◌, arith, nat_lt}
use Rattle.std.proofs.lemmas.Bool.Decides.{nat_tests}
use Rattle.lard_law_view.specs.Prelude.{Event, Machine}
use Rattle.lard_base.specs.declared.event.Event.TheVariants as event
use Rattle.lard_schedule.specs.declared.item.Item.{Item}
use Rattle.lard_schedule.specs.declared.item.Item.TheVariants as item
use Rattle.lard_schedule.specs.Reader.{item_of}
use Rattle.lard_settling.specs.Events.{event_step}
use Rattle.lard_settling.specs.Settling.{Stop}
use Rattle.lard_app.specs.declared.status.Status.{Status}
use Rattle.lard_app.specs.declared.status.Why.{Why}
use Rattle.lard_app.specs.Replay.{Progress, begun_by, came_to, line_counted, event_listed, followed, item_found, halted, is_past, item_taken, judged, machine_behind, replay_moved, line_passed}
use Rattle.lard_app.proofs.Events.{event-stays}
use Rattle.lard_app.proofs.Passing.{judged_by, passed_by}

-- it is a settle that had begun, and the machine has come so far
pub record HadBegun (s : Progress) (line : List ℕ) : Type 0 where
  pub rounds : ℕ
  pub stop : Stop
  pub within : is_past s line ≡ false
  pub stands : item_of s.reader line ≡ Some (item.Event (event.Settle rounds))
  pub stops : event_step s.machine (event.Settle rounds) ≡ Err stop
  pub longer : length s.machine.journal < length stop.0.journal
  pub left : halted s line ≡ record s { machine = stop.0 }
  pub last : begun_by s line ≡ event.Settle rounds ∷ []

abbrev pub Leaves : Progress → List ℕ → Type 0
Leaves s line = ((halted s line ≡ s) × (begun_by s line ≡ [])) ⊎ HadBegun s line

pub halted_by : (s : Progress) (line : List ℕ) (b : Bool) (j : Result Item Why) → is_past s line ≡ b → judged s.reader line ≡ j → halted s line ≡ cond b s (record s { machine = machine_behind s.machine j })
unfolding halted
halted_by s line b j p i =
    ap (λ t. cond t s (record s { machine = machine_behind s.machine (judged s.reader line) })) p ∙ ap (λ (k : Result Item Why). cond b s (record s { machine = machine_behind s.machine k })) i

same_length : (n : ℕ) → nat_lt n n ≡ false
same_length n = grind (arith, nat_tests)

is_longer : (m n : ℕ) → m < n → nat_lt m n ≡ true
is_longer m n h = grind (arith, nat_tests, h)

module _ (s : Progress) (line : List ℕ) where
  as-before : halted s line ≡ s → Leaves s line
  as-before h = inl (
    h,
    ap (λ (t : Progress). cond (nat_lt (length s.machine.journal) (length t.machine.journal)) (event_listed (judged s.reader line)) []) h
        ∙ ap (λ b. cond b (event_listed (judged s.reader line)) []) (same_length (length s.machine.journal)),
  )

  further : (rounds : ℕ) (stop : Stop) → is_past s line ≡ false → item_of s.reader line ≡ Some (item.Event (event.Settle rounds)) → event_step s.machine (event.Settle rounds) ≡ Err stop
      → length s.machine.journal < length stop.0.journal → halted s line ≡ record s { machine = stop.0 } → Leaves s line
  further rounds stop within stands stops longer left = inr (record {
    rounds = rounds;
    stop = stop;
    within = within;
    stands = stands;
    stops = stops;
    longer = longer;
    left = left;
    last = ap (λ (t : Progress). cond (nat_lt (length s.machine.journal) (length t.machine.journal)) (event_listed (judged s.reader line)) []) left
        ∙ ap (λ b. cond b (event_listed (judged s.reader line)) []) (is_longer (length s.machine.journal) (length stop.0.journal) longer)
        ∙ ap event_listed (judged_by s.reader line (Some (item.Event (event.Settle rounds))) stands);
  })

  event-leaves : (status : Status) (e : Event) (r : Result Machine Stop) → is_past s line ≡ false → item_of s.reader line ≡ Some (item.Event e) → event_step s.machine e ≡ r
      → replay_moved (followed (line_counted s line) (item.Event e)) r ≡ Err status → Leaves s line
  event-leaves status e (Ok m) p i is h = cc
  event-leaves status e (Err stop) p i is h = go (event-stays s.machine e stop is) where
    left : halted s line ≡ record s { machine = stop.0 }
    left = halted_by s line false (Ok (item.Event e)) p (judged_by s.reader line (Some (item.Event e)) i) ∙ ap (λ (x : Result Machine Stop). record s { machine = came_to x }) is

    go : (stop.0 ≡ s.machine) ⊎ ((rounds : ℕ) × (e ≡ event.Settle rounds) × (length s.machine.journal < length stop.0.journal)) → Leaves s line
    go (inl same) = as-before (left ∙ ap (λ (m : Machine). record s { machine = m }) same)
    go (inr h) = further h.0 stop p (i ∙ ap (λ (d : Event). Some (item.Event d)) h.1) (sym (ap (event_step s.machine) h.1) ∙ is) h.2 left

  pub line-leaves : (status : Status) → line_passed s line ≡ Err status → Leaves s line
  line-leaves status e = go (is_past s line) (item_of s.reader line) refl refl where
    none : (x : Option Item) → is_past s line ≡ false → item_of s.reader line ≡ x → machine_behind s.machine (item_found x) ≡ s.machine → Leaves s line
    none x p i same = as-before (halted_by s line false (item_found x) p (judged_by s.reader line x i) ∙ ap (λ (m : Machine). record s { machine = m }) same)

    go : (b : Bool) (x : Option Item) → is_past s line ≡ b → item_of s.reader line ≡ x → Leaves s line
    go true x p i = as-before (halted_by s line true (judged s.reader line) p refl)
    go false None p i = none None p i refl
    go false (Some item.Header) p i = none (Some item.Header) p i refl
    go false (Some (item.Set key value)) p i = none (Some (item.Set key value)) p i refl
    go false (Some (item.File path bytes)) p i = none (Some (item.File path bytes)) p i refl
    go false (Some item.Go) p i = none (Some item.Go) p i refl
    go false (Some (item.Event d)) p i =
        event-leaves status d (event_step s.machine d) p i refl (ap (item_taken (line_counted s line)) (sym (judged_by s.reader line (Some (item.Event d)) i)) ∙ sym (passed_by s line false p) ∙ e)
