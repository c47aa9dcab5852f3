-- Journals only grow: no step of a settle takes a record back.
use Rattle.std.proofs.Common.{◌≡◌, ℕ, zero, suc, ◌+◌, Bool, true, false, cond, List, [], ◌∷◌, ◌++◌, length, Option, Some, None, Result, Ok, Err, refl, sym, ap, ◌∙◌, subst, append-nil, append_assoc}
use Rattle.lard_base.specs.declared.event.Event.{Event}
use Rattle.lard_base.specs.declared.event.Event.TheVariants as event
use Rattle.lard_rules.specs.declared.fault.StepFault.{StepFault}
use Rattle.lard_rules.specs.declared.machine.Machine.{Machine}
use Rattle.lard_rules.specs.Machine.{limit_reached, passed, unless_limit}
use Rattle.lard_world.proofs.Runs.{inner-goes-on}
use Rattle.lard_journal.specs.declared.rec.Rec.{Rec}
use Rattle.lard_journal.specs.declared.rec.Rec.TheVariants as rec
use Rattle.lard_rules.specs.declared.fault.What.{What}
use Rattle.lard_settling.specs.declared.settled.Settled.{Settled}
use Rattle.lard_settling.specs.Settling.{BeginsByMark, IsFrontOf, Stop, all_inner, closed_by, come, completed_since, completions, rounds_journal, deliveries, fired_since, firings, is_mark, is_quiet, settle_left, nodes_complete, outcome, round, rounds_from, settled, settled_from, takes}
use Rattle.lard_settling.specs.Steps.{closing, inner_step, settle_begun, settle_closed}

-- ---- fronts

pub front-same : (J : List Rec) → IsFrontOf J J
front-same J = ([], sym (append-nil J), tt)

begins-over : (rs ss : List Rec) → BeginsByMark rs → BeginsByMark ss → BeginsByMark (rs ++ ss)
begins-over [] ss h k = k
begins-over (r ∷ rs) ss h k = h

pub front-over : (J K L : List Rec) → IsFrontOf J K → IsFrontOf K L → IsFrontOf J L
front-over J K L h k = (h.0 ++ k.0, k.1 ∙ ap (λ (l : List Rec). l ++ k.0) h.1 ∙ append_assoc J h.0 k.0, begins-over h.0 k.0 h.2 k.2)

-- ---- inner steps

-- what a call comes to, to its end or not
abbrev pub Grows : List Rec → Result Machine Stop → Type 0
Grows J x = IsFrontOf J (come x)

pub inner-grows : (m n : Machine) (e : Event) → inner_step m e ≡ Ok n → IsFrontOf m.journal n.journal
inner-grows m n e is = let on = inner-goes-on m n e is in (on.more, on.journal, on.begins)

pub all-grow : (es : List Event) (m : Machine) → Grows m.journal (all_inner m es)
unfolding all_inner
all-grow [] m = front-same m.journal
all-grow (e ∷ es) m = go (all-grow es) (inner_step m e) refl where
  go : ((n : Machine) → Grows n.journal (all_inner n es)) → (x : Result Machine StepFault) → inner_step m e ≡ x → Grows m.journal (elim x as (λ r. Result Machine Stop) [ Err fault ↦ Err (m, fault) | Ok n ↦ all_inner n es ])
  go later (Err fault) is = front-same m.journal
  go later (Ok n) is = front-over m.journal n.journal (come (all_inner n es)) (inner-grows m n e is) (later n)

-- ---- one behind another

-- what grows from a journal that grew
grows-over : (J K : List Rec) (y : Result Machine Stop) → IsFrontOf J K → Grows K y → Grows J y
grows-over J K (Ok k) h g = front-over J K k.journal h g
grows-over J K (Err stop) h g = front-over J K stop.0.journal h g

-- of two calls, the second from where the first came to
then-grows : (J : List Rec) (x : Result Machine Stop) (f : Machine → Result Machine Stop) → Grows J x → ((n : Machine) → Grows n.journal (f n)) → Grows J (elim x as (λ r. Result Machine Stop) [ Err stop ↦ Err stop | Ok n ↦ f n ])
then-grows J (Err stop) f h g = h
then-grows J (Ok n) f h g = grows-over J n.journal (f n) h (g n)

-- ---- a round

pub nodes-grow : (more n : ℕ) (m : Machine) → Grows m.journal (nodes_complete m n more)
unfolding nodes_complete
nodes-grow zero n m = front-same m.journal
nodes-grow (suc more) n m = then-grows m.journal (all_inner m (completions m n)) (λ k. nodes_complete k (n + 1) more) (all-grow (completions m n) m) (λ k. nodes-grow more (n + 1) k)

fired-grows : (b : Bool) (n : Machine) → Grows n.journal (cond b (all_inner n (firings n)) (Ok n))
fired-grows true n = all-grow (firings n) n
fired-grows false n = front-same n.journal

pub since-grows : (records : ℕ) (n : Machine) → Grows n.journal (fired_since records n)
since-grows records n = fired-grows _ n

pub completed-grows : (records : ℕ) (n : Machine) → Grows n.journal (completed_since records n)
completed-grows records n = then-grows n.journal (nodes_complete n 1 n.config.nodes) (fired_since records) (nodes-grow n.config.nodes 1 n) (since-grows records)

pub round-grows : (m : Machine) → Grows m.journal (round m)
unfolding round
round-grows m = then-grows m.journal (all_inner m (deliveries m)) (completed_since (length m.journal)) (all-grow (deliveries m) m) (completed-grows (length m.journal))

-- ---- rounds, and the whole

abbrev pub RoundsGrow : List Rec → Result (Machine × ℕ) Stop → Type 0
RoundsGrow J x = IsFrontOf J (rounds_journal x)

rounds-over : (J K : List Rec) (y : Result (Machine × ℕ) Stop) → IsFrontOf J K → RoundsGrow K y → RoundsGrow J y
rounds-over J K (Ok (k, done)) h g = front-over J K k.journal h g
rounds-over J K (Err stop) h g = front-over J K stop.0.journal h g

pub rounds-grow : (more done : ℕ) (m : Machine) → RoundsGrow m.journal (rounds_from more done m)
unfolding rounds_from
rounds-grow zero done m = front-same m.journal
rounds-grow (suc more) done m = test (rounds-grow more (done + 1)) (is_quiet m) where
  go : ((n : Machine) → RoundsGrow n.journal (rounds_from more (done + 1) n)) → (x : Result Machine Stop) → Grows m.journal x → RoundsGrow m.journal (elim x as (λ r. Result (Machine × ℕ) Stop) [ Err stop ↦ Err stop | Ok n ↦ rounds_from more (done + 1) n ])
  go later (Err stop) h = h
  go later (Ok n) h = rounds-over m.journal n.journal (rounds_from more (done + 1) n) h (later n)

  test : ((n : Machine) → RoundsGrow n.journal (rounds_from more (done + 1) n)) → (b : Bool) → RoundsGrow m.journal (cond b (Ok (m, done)) (elim (round m) as (λ r. Result (Machine × ℕ) Stop) [ Err stop ↦ Err stop | Ok n ↦ rounds_from more (done + 1) n ]))
  test later true = front-same m.journal
  test later false = go later (round m) (round-grows m)

closes : (done count : ℕ) → is_mark (closing done count) ≡ true
closes done zero = refl
closes done (suc count) = refl

pub closed-front : (m : Machine) (done count : ℕ) → IsFrontOf m.journal (settle_closed m done count).journal
closed-front m done count = (closing done count ∷ [], refl, closes done count)

pub closed-grows : (J : List Rec) (x : Result (Machine × ℕ) Stop) → RoundsGrow J x → IsFrontOf J (outcome (closed_by x))
closed-grows J (Err stop) h = h
closed-grows J (Ok (n, done)) h = front-over J n.journal (n.journal ++ closing done (settle_left n) ∷ []) h (closed-front n done (settle_left n))

pub settled-from-grows : (m : Machine) (rounds : ℕ) → IsFrontOf m.journal (outcome (settled_from m rounds))
settled-from-grows m rounds = go (all_inner m (takes m)) (all-grow (takes m) m) where
  go : (x : Result Machine Stop) → Grows m.journal x → IsFrontOf m.journal (outcome (elim x as (λ r. Result (Machine × Settled) Stop) [ Err stop ↦ Err stop | Ok n ↦ closed_by (rounds_from rounds 0 n) ]))
  go (Err stop) h = h
  go (Ok n) h = front-over m.journal n.journal (outcome (closed_by (rounds_from rounds 0 n))) h (closed-grows n.journal (rounds_from rounds 0 n) (rounds-grow rounds 0 n))

pub begun-grows : (m n : Machine) (rounds : ℕ) → settle_begun m rounds ≡ Ok n → IsFrontOf m.journal n.journal
unfolding settle_begun
begun-grows m n rounds = go (limit_reached m) where
  go : (o : Option What) → unless_limit o (Ok (passed m (event.Settle rounds) [])) ≡ Ok n → IsFrontOf m.journal n.journal
  go None is = let same : passed m (event.Settle rounds) [] ≡ n = cc in subst (λ (q : Machine). IsFrontOf m.journal q.journal) same (rec.Event (m.events + 1) (event.Settle rounds) ∷ [], refl, refl)
  go (Some what) is = cc

-- the journal of a settle, done or not, begins with that before it
pub settle-grows : (m : Machine) (rounds : ℕ) → IsFrontOf m.journal (outcome (settled m rounds))
unfolding settled
settle-grows m rounds = go (settle_begun m rounds) refl where
  go : (x : Result Machine StepFault) → settle_begun m rounds ≡ x → IsFrontOf m.journal (outcome (elim x as (λ r. Result (Machine × Settled) Stop) [ Err fault ↦ Err (m, fault) | Ok n ↦ settled_from n rounds ]))
  go (Err fault) is = front-same m.journal
  go (Ok n) is = front-over m.journal n.journal (outcome (settled_from n rounds)) (begun-grows m n rounds is) (settled-from-grows n rounds)
