-- What a settle has to do in a state is what its journal leaves to be done.
use Rattle.std.proofs.Common.{◌≡◌, ◌≤◌, ℕ, zero, suc, ◌+◌, ◌==◌, ◌||◌, not, Bool, false, cond, List, [], ◌∷◌, filter, length, map, Option, Some, None, Ok, refl, sym, ap, ◌∙◌, subst, arith}
use Rattle.std.proofs.lemmas.Bool.Decides.{nat_tests}
use Rattle.std.specs.FinMap as table
use Rattle.std.specs.FinMap.{values}
use Rattle.std.specs.List.{list_any}
use Rattle.lard_agenda.specs.Agenda.{agenda_of, firing, kinds_in, stalled_at}
use Rattle.lard_agenda.specs.declared.kinds.Running.{Running}
use Rattle.lard_law_view.specs.Prelude.{Config, Machine, NodeState, Place, Rec, Station, Waiting, client_of, config_check, conn, is_no_node, line_waits, node_at, own, part_of}
use Rattle.lard_base.specs.declared.event.Event.TheVariants as event
use Rattle.lard_base.specs.declared.place.Place.TheVariants as place
use Rattle.lard_laws.proofs.ClientsTables.{client_at, clients-folded}
use Rattle.lard_law_connections.proofs.LineRuns.{line-kept}
use Rattle.lard_law_connections.specs.Line.{Line, waiting_line, line_step, nobody}
use Rattle.lard_law_connections.proofs.StoresStored.{jobs-told}
use Rattle.lard_counts.specs.Stores.{Queue, jobs, jobs_step, no_jobs}
use Rattle.lard_law_view.proofs.Carried.{reached-viewed}
use Rattle.lard_law_view.proofs.Nothing.{node-there}
use Rattle.lard_law_settles.proofs.SettlesFew.{config-is}
use Rattle.lard_law_settles.specs.RoundsToDo.{all_jobs, firing_in, firings_in, holds_in, is_holder_now, is_stalled_at, jobs_in, left_in, seats_of, takes_in}
use Rattle.lard_settling.proofs.Folds.{TakesSteps, fold-written}
use Rattle.lard_settling.specs.Left.{holds_there, is_holder, jobs_at, jobs_from, jobs_of}
use Rattle.lard_settling.specs.Settling.{firings, is_own_seat, settle_left, takes}
use Rattle.lard_settling.specs.Written.{IsWrittenOut}

-- ---- lists

-- of two tests that answer the same
filter-same : {A : Type 0} (f g : A → Bool) → ((a : A) → f a ≡ g a) → (as_ : List A) → filter f as_ ≡ filter g as_
filter-same f g same [] = refl
filter-same f g same (a ∷ as_) = ap (λ (b : Bool). cond b (a ∷ filter f as_) (filter f as_)) (same a) ∙ ap (λ xs. cond (g a) (a ∷ xs) xs) (filter-same f g same as_)

numbers-wait : (ws : List Waiting) (c : ℕ) → line_waits ws c ≡ list_any (λ w. w == c) (map (λ (w : Waiting). w.c) ws)
numbers-wait [] c = refl
numbers-wait (w ∷ ws) c = ap (λ (b : Bool). (w.c == c) || b) (numbers-wait ws c)

-- a timer is stalled by the line that is kept, as by the numbers of those in it
pub stalled-same : (p : Place) (ws : List Waiting) (c : ℕ) → stalled_at p ws c ≡ is_stalled_at p (map (λ (w : Waiting). w.c) ws) c
stalled-same place.Front ws c = refl
stalled-same (place.Node n) ws c = refl
stalled-same (place.Client d) ws c = numbers-wait ws c

pub line-steps : TakesSteps line_step
line-steps = record { events = λ a i k e. refl; inner = λ a i e. refl; settles = λ a i rounds. refl; settled = λ a rounds. refl; unsettled = λ a rounds left. refl }

pub jobs-steps : (n : ℕ) → TakesSteps (jobs_step n)
jobs-steps n = record { events = λ a i k e. refl; inner = λ a i e. refl; settles = λ a i rounds. refl; settled = λ a rounds. refl; unsettled = λ a rounds left. refl }

-- ---- a state

module _ (config : Config) (files : List (List ℕ × List ℕ)) (checked : config_check config ≡ Ok tt) (m : Machine) (w : IsWrittenOut config files m) where
  pub nodes-are : m.config.nodes ≡ config.nodes
  nodes-are = ap (λ (k : Machine). k.config.nodes) w.same ∙ ap (λ (c : Config). c.nodes) (config-is config files w.plain w.reached)

  -- ---- clients

  holder-same : (c : ℕ) → is_holder m c ≡ holds_in m.journal c
  unfolding conn part_of
  holder-same c =
      let folded : client_of c (own c w.plain.journal) ≡ client_at (table.get w.plain.clients c) = clients-folded config files w.plain w.reached c in
      let there : table.get m.clients c ≡ table.get w.plain.clients c = ap (λ (k : Machine). table.get k.clients c) w.same in
      ap holds_there there ∙ holds-by (table.get w.plain.clients c) ∙ sym (ap is_holder_now folded) ∙ ap (λ (J : List Rec). is_holder_now (client_of c (own c J))) w.journal where
        holds-by : (o : Option Station) → holds_there o ≡ is_holder_now (client_at o)
        holds-by None = refl
        holds-by (Some s) = refl

  pub takes-same : takes m ≡ takes_in m.journal
  takes-same = ap (map _) (filter-same (is_holder m) (holds_in m.journal) holder-same _)

  -- ---- timers

  pub line-same : map (λ (x : Waiting). x.c) m.front.dispatch.books.line ≡ waiting_line m.journal
  line-same =
      let plain : map (λ (x : Waiting). x.c) w.plain.front.dispatch.books.line ≡ waiting_line w.plain.journal = line-kept config files checked w.plain w.reached in
      let told : waiting_line w.plain.journal ≡ waiting_line m.journal = ap waiting_line w.journal ∙ ap (λ (l : Line). l.waits) (fold-written line_step line-steps nobody 0 m.journal) in
      ap (λ (k : Machine). map (λ (x : Waiting). x.c) k.front.dispatch.books.line) w.same ∙ plain ∙ told

  firing-same : firing m.front.dispatch (agenda_of m.journal) ≡ firing_in m.journal
  firing-same = filter-same (λ r. not (stalled_at r.place m.front.dispatch.books.line r.c)) (λ r. not (is_stalled_at r.place (waiting_line m.journal) r.c))
      (λ r. ap not (stalled-same r.place m.front.dispatch.books.line r.c ∙ ap (λ l. is_stalled_at r.place l r.c) line-same)) (values (agenda_of m.journal).running)

  pub firings-same : firings m ≡ firings_in m.journal
  firings-same = ap (λ (rs : List Running). map {A = Place × ℕ} (λ seat. event.Timer seat.0 seat.1) (filter is_own_seat (seats_of rs))) firing-same

  -- ---- jobs

  there : (n : ℕ) → 1 ≤ n → n ≤ config.nodes → (s : NodeState) × (node_at m.nodes n ≡ Some s)
  there n from to =
      let all : length m.nodes ≡ m.config.nodes = subst (λ (k : Machine). length k.nodes ≡ k.config.nodes) (sym w.same) (reached-viewed config files w.plain w.reached).nodes in
      let counted : is_no_node config.nodes n ≡ false = grind (arith, nat_tests, from, to) in
      node-there m.nodes config.nodes n (all ∙ nodes-are) counted

  pub jobs-same : (n : ℕ) → 1 ≤ n → n ≤ config.nodes → jobs_at m n ≡ jobs_in m.journal n
  jobs-same n from to =
      let at = there n from to in
      let s : NodeState = at.0 in
      let plain : node_at w.plain.nodes n ≡ Some s = sym (ap (λ (k : Machine). node_at k.nodes n) w.same) ∙ at.1 in
      let told : length (jobs w.plain.journal n) ≡ length s.disk = (jobs-told config files w.plain w.reached n s plain).1 in
      let same : jobs w.plain.journal n ≡ jobs m.journal n = ap (λ (J : List Rec). jobs J n) w.journal ∙ ap (λ (q : Queue). q.list) (fold-written (jobs_step n) (jobs-steps n) no_jobs 0 m.journal) in
      ap jobs_of at.1 ∙ sym told ∙ ap length same

  sum-same : (more n : ℕ) → 1 ≤ n → n + more ≤ config.nodes + 1 → jobs_from m n more ≡ all_jobs m.journal n more
  sum-same zero n from to = refl
  sum-same (suc more) n from to =
      let one = jobs-same n from (omega (arith, to)) in
      let rest = sum-same more (n + 1) (omega arith) (omega (arith, to)) in
      omega (arith, one, rest)

  -- ---- what is left

  pub left-same : settle_left m ≡ left_in config.nodes m.journal
  left-same =
      let timers : kinds_in (firing m.front.dispatch (agenda_of m.journal)) ≡ kinds_in (firing_in m.journal) = ap kinds_in firing-same in
      let same : jobs_from m 1 m.config.nodes ≡ jobs_from m 1 config.nodes = ap (jobs_from m 1) nodes-are in
      let all = sum-same config.nodes 1 (omega arith) (omega arith) in
      omega (arith, timers, same, all)
