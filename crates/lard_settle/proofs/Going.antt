-- Calls behind calls: where the first is done, and where it is not.
use Rattle.std.proofs.Common.{◌≡◌, ℕ, suc, ◌+◌, arith, Bool, true, false, cond, List, [], ◌∷◌, length, Result, Ok, Err, refl, sym, ap, ◌∙◌, subst}
use Rattle.lard_agenda.specs.Agenda.{IsAgendaOf}
use Rattle.lard_agenda.specs.declared.agenda.Agenda.{Agenda}
use Rattle.lard_agenda.proofs.Follows.{still}
use Rattle.lard_base.specs.declared.event.Event.{Event}
use Rattle.lard_rules.specs.declared.fault.StepFault.{StepFault}
use Rattle.lard_rules.specs.declared.fault.StepFault.TheVariants.{Refused, Limit, NoMemory}
use Rattle.lard_rules.specs.declared.machine.Machine.{Machine}
use Rattle.lard_rules.specs.Machine.{Steps}
use Rattle.lard_world.proofs.Runs.{inner-goes-on}
use Rattle.lard_journal.specs.declared.rec.Rec.{Rec}
use Rattle.lard_settling.specs.declared.settled.Settled.{Settled}
use Rattle.lard_settling.specs.Settling.{DoesSettle, DoesRounds, IsFrontOf, Settles, Stop, all_inner, closed_by, come, completed_since, completions, rounds_journal, deliveries, is_quiet, nodes_complete, outcome, round, rounds_from, settled, settled_from}
use Rattle.lard_settle.proofs.Growth.{Grows, all-grow, begun-grows, closed-grows, completed-grows, front-over, front-same, nodes-grow, rounds-grow, settle-grows}
use Rattle.lard_settling.specs.Steps.{inner_step, settle_begun}

-- ---- journals that grow

-- an agenda of a journal is one of each that it is a front of
pub agenda-on : (a : Agenda) (J K : List Rec) → IsFrontOf J K → IsAgendaOf a J → IsAgendaOf a K
agenda-on a J K h agenda = subst (IsAgendaOf a) (sym h.1) (still a J h.0 agenda)

-- ---- inner steps

pub inner-none : (m : Machine) (es : List Event) → length es ≡ 0 → all_inner m es ≡ Ok m
unfolding all_inner
inner-none m [] none = refl
inner-none m (e ∷ es) none = absurd (omega (arith, none))

module _ (m : Machine) (e : Event) (es : List Event) where
  pub inner-on : (n : Machine) → inner_step m e ≡ Ok n → all_inner m (e ∷ es) ≡ all_inner n es
  unfolding all_inner
  inner-on n is = ap (λ (x : Result Machine StepFault). elim x as (λ r. Result Machine Stop) [ Err fault ↦ Err (m, fault) | Ok k ↦ all_inner k es ]) is

  inner-fault : (new : Machine) (fault : StepFault) → (new ≡ m) × (inner_step m e ≡ Err fault) → all_inner m (e ∷ es) ≡ Err (new, fault)
  unfolding all_inner
  inner-fault new fault h =
      ap (λ (x : Result Machine StepFault). elim x as (λ r. Result Machine Stop) [ Err fault ↦ Err (m, fault) | Ok k ↦ all_inner k es ]) h.1
      ∙ ap (λ (q : Machine). Err (q, fault)) (sym h.0)

  pub inner-stops : (new : Machine) (fault : StepFault) → Steps (inner_step m e) m new (Err fault) → DoesSettle (all_inner m (e ∷ es)) new (Err fault)
  inner-stops new NoMemory h = subst (λ (J : List Rec). IsFrontOf J (come (all_inner m (e ∷ es)))) (sym h) (all-grow (e ∷ es) m)
  inner-stops new (Refused reason) h = inner-fault new (Refused reason) h
  inner-stops new (Limit what) h = inner-fault new (Limit what) h

-- an inner step that is done takes no record back, and keeps the numbers of the run
pub inner-front : (m n : Machine) (e : Event) → inner_step m e ≡ Ok n → IsFrontOf m.journal n.journal
inner-front m n e is = let on = inner-goes-on m n e is in (on.more, on.journal, on.begins)

pub inner-config : (m n : Machine) (e : Event) → inner_step m e ≡ Ok n → n.config ≡ m.config
inner-config m n e is = (inner-goes-on m n e is).config

-- a step that is not done leaves the journal
pub undone-front : (given : Result Machine StepFault) (m new : Machine) (fault : StepFault) → Steps given m new (Err fault) → IsFrontOf m.journal new.journal
undone-front given m new NoMemory h = subst (IsFrontOf m.journal) (sym h) (front-same m.journal)
undone-front given m new _ h = subst (λ (n : Machine). IsFrontOf m.journal n.journal) (sym h.0) (front-same m.journal)

-- without memory for the list of events none of them is done
pub none-done : (m : Machine) (es : List Event) → DoesSettle (all_inner m es) m (Err NoMemory)
none-done m es = all-grow es m

-- ---- steps behind steps

module _ (x : Result Machine Stop) (f : Machine → Result Machine Stop) where
  abbrev then : Result Machine Stop
  then = elim x as (λ r. Result Machine Stop) [ Err stop ↦ Err stop | Ok n ↦ f n ]

module _ (f : Machine → Result Machine Stop) where
  pub goes : (x : Result Machine Stop) (n new : Machine) (result : Result (Unit {0}) StepFault) → x ≡ Ok n → DoesSettle (f n) new result → DoesSettle (then x f) new result
  goes x n new result is h = subst (λ (y : Result Machine Stop). DoesSettle (then y f) new result) (sym is) h

  module _ (grows : (n : Machine) → Grows n.journal (f n)) where
    come-then : (x : Result Machine Stop) → IsFrontOf (come x) (come (then x f))
    come-then (Err stop) = front-same stop.0.journal
    come-then (Ok n) = grows n

    pub stops : (x : Result Machine Stop) (new : Machine) (fault : StepFault) → DoesSettle x new (Err fault) → DoesSettle (then x f) new (Err fault)
    stops x new NoMemory h = front-over new.journal (come x) (come (then x f)) h (come-then x)
    stops x new _ h = ap (λ (y : Result Machine Stop). then y f) h

-- ---- a round

module _ (m : Machine) where
  pub round-stops : (new : Machine) (fault : StepFault) → DoesSettle (all_inner m (deliveries m)) new (Err fault) → DoesSettle (round m) new (Err fault)
  unfolding round
  round-stops new fault h = stops (completed_since (length m.journal)) (completed-grows (length m.journal)) (all_inner m (deliveries m)) new fault h

  pub round-goes : (n new : Machine) (result : Result (Unit {0}) StepFault) (records : ℕ) → records ≡ length m.journal → all_inner m (deliveries m) ≡ Ok n → DoesSettle (completed_since records n) new result → DoesSettle (round m) new result
  unfolding round
  round-goes n new result records are is h =
      goes (completed_since (length m.journal)) (all_inner m (deliveries m)) n new result is (subst (λ (i : ℕ). DoesSettle (completed_since i n) new result) are h)

-- ---- nodes

pub nodes-none : (m : Machine) (n more : ℕ) → more ≡ 0 → nodes_complete m n more ≡ Ok m
unfolding nodes_complete
nodes-none m n more none = ap (nodes_complete m n) none

module _ (m : Machine) (n more k : ℕ) (is : more ≡ suc k) where
  pub node-on : (q : Machine) → all_inner m (completions m n) ≡ Ok q → nodes_complete m n more ≡ nodes_complete q (n + 1) k
  unfolding nodes_complete
  node-on q done = ap (nodes_complete m n) is ∙ ap (λ (x : Result Machine Stop). then x (λ p. nodes_complete p (n + 1) k)) done

  pub node-stops : (new : Machine) (fault : StepFault) → DoesSettle (all_inner m (completions m n)) new (Err fault) → DoesSettle (nodes_complete m n more) new (Err fault)
  unfolding nodes_complete
  node-stops new fault h = subst (λ (i : ℕ). DoesSettle (nodes_complete m n i) new (Err fault)) (sym is)
      (stops (λ p. nodes_complete p (n + 1) k) (λ p. nodes-grow k (n + 1) p) (all_inner m (completions m n)) new fault h)

-- ---- rounds

pub rounds-none : (more done rounds : ℕ) (m : Machine) → more ≡ 0 → done ≡ rounds → rounds_from more done m ≡ Ok (m, rounds)
unfolding rounds_from
rounds-none more done rounds m none all = ap (λ (i : ℕ). rounds_from i done m) none ∙ ap (λ (i : ℕ). Ok (m, i)) all

abbrev rounds_then : Result Machine Stop → ℕ → ℕ → Result (Machine × ℕ) Stop
rounds_then x more done = elim x as (λ r. Result (Machine × ℕ) Stop) [ Err stop ↦ Err stop | Ok n ↦ rounds_from more done n ]

module _ (more done : ℕ) where
  come-rounds : (x : Result Machine Stop) → IsFrontOf (come x) (rounds_journal (rounds_then x more done))
  come-rounds (Err stop) = front-same stop.0.journal
  come-rounds (Ok n) = rounds-grow more done n

  rounds-behind : (x : Result Machine Stop) (new : Machine) (fault : StepFault) → DoesSettle x new (Err fault) → DoesRounds (rounds_then x more done) new (Err fault)
  rounds-behind x new NoMemory h = front-over new.journal (come x) (rounds_journal (rounds_then x more done)) h (come-rounds x)
  rounds-behind x new _ h = ap (λ (y : Result Machine Stop). rounds_then y more done) h

module _ (more k done : ℕ) (m : Machine) (is : more ≡ suc k) where
  abbrev by_quiet : Bool → Result (Machine × ℕ) Stop
  by_quiet quiet = cond quiet (Ok (m, done)) (rounds_then (round m) k (done + 1))

  rounds-by : (quiet : Bool) → is_quiet m ≡ quiet → rounds_from more done m ≡ by_quiet quiet
  unfolding rounds_from
  rounds-by quiet told = ap (λ (i : ℕ). rounds_from i done m) is ∙ ap by_quiet told

  pub rounds-quiet : is_quiet m ≡ true → rounds_from more done m ≡ Ok (m, done)
  rounds-quiet told = rounds-by true told

  pub rounds-on : (n : Machine) → is_quiet m ≡ false → round m ≡ Ok n → rounds_from more done m ≡ rounds_from k (done + 1) n
  rounds-on n told is = rounds-by false told ∙ ap (λ (y : Result Machine Stop). rounds_then y k (done + 1)) is

  pub rounds-stop : (new : Machine) (fault : StepFault) → is_quiet m ≡ false → DoesSettle (round m) new (Err fault) → DoesRounds (rounds_from more done m) new (Err fault)
  rounds-stop new fault told h = subst (λ (x : Result (Machine × ℕ) Stop). DoesRounds x new (Err fault)) (sym (rounds-by false told))
      (rounds-behind k (done + 1) (round m) new fault h)

-- ---- the whole

pub closed-stops : (x : Result (Machine × ℕ) Stop) (new : Machine) (fault : StepFault) → DoesRounds x new (Err fault) → Settles (closed_by x) new (Err fault)
closed-stops x new NoMemory h = closed-grows new.journal x h
closed-stops x new _ h = ap closed_by h

abbrev settled_then : Result Machine Stop → ℕ → Result (Machine × Settled) Stop
settled_then x rounds = elim x as (λ r. Result (Machine × Settled) Stop) [ Err stop ↦ Err stop | Ok n ↦ closed_by (rounds_from rounds 0 n) ]

module _ (rounds : ℕ) where
  come-settled : (x : Result Machine Stop) → IsFrontOf (come x) (outcome (settled_then x rounds))
  come-settled (Err stop) = front-same stop.0.journal
  come-settled (Ok n) = closed-grows n.journal (rounds_from rounds 0 n) (rounds-grow rounds 0 n)

  pub takes-stop : (x : Result Machine Stop) (new : Machine) (fault : StepFault) → DoesSettle x new (Err fault) → Settles (settled_then x rounds) new (Err fault)
  takes-stop x new NoMemory h = front-over new.journal (come x) (outcome (settled_then x rounds)) h (come-settled x)
  takes-stop x new _ h = ap (λ (y : Result Machine Stop). settled_then y rounds) h

module _ (m : Machine) (rounds : ℕ) where
  abbrev begun_then : Result Machine StepFault → Result (Machine × Settled) Stop
  begun_then x = elim x as (λ r. Result (Machine × Settled) Stop) [ Err fault ↦ Err (m, fault) | Ok n ↦ settled_from n rounds ]

  pub begun-on : (n : Machine) → settle_begun m rounds ≡ Ok n → settled m rounds ≡ settled_from n rounds
  unfolding settled
  begun-on n is = ap begun_then is

  begun-fault : (new : Machine) (fault : StepFault) → (new ≡ m) × (settle_begun m rounds ≡ Err fault) → settled m rounds ≡ Err (new, fault)
  unfolding settled
  begun-fault new fault h = ap begun_then h.1 ∙ ap (λ (q : Machine). Err (q, fault)) (sym h.0)

  pub begun-stops : (new : Machine) (fault : StepFault) → Steps (settle_begun m rounds) m new (Err fault) → Settles (settled m rounds) new (Err fault)
  begun-stops new NoMemory h = subst (λ (J : List Rec). IsFrontOf J (outcome (settled m rounds))) (sym h) (settle-grows m rounds)
  begun-stops new (Refused reason) h = begun-fault new (Refused reason) h
  begun-stops new (Limit what) h = begun-fault new (Limit what) h

  pub begun-front : (n : Machine) → settle_begun m rounds ≡ Ok n → IsFrontOf m.journal n.journal
  begun-front n is = begun-grows m n rounds is
