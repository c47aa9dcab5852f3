-- Each node that the dispatcher names is one that there can be.
use Rattle.std.proofs.Common.{◌≡◌, ℕ, suc, ◌≤◌, List, [], ◌∷◌, length, true, Option, Some, None, IfSome, refl, ap, arith}
use Rattle.std.proofs.lemmas.Bool.{cond_both}
use Rattle.std.specs.List.{AllByRecursion}
use Rattle.lard_base.proofs.Usable.{usable}
use Rattle.lard_law_view.specs.Prelude.{Ask, Books, Config, Cost, Dispatcher, FirstChoice, IsDispatcherSound, Millis, Tally, Waiting, all_choices, batch_over, cheapest, choice_at, cost_at, ended_answer, first_answer, has, is_full, is_less, later_answer, later_choice, members_of, next_admission, node_numbers, numbers, released_from, set_of, shared_with, stays}
use Rattle.lard_laws.proofs.RecordsFronts.{FirstFits, IsLater, IsNode}
use Rattle.lard_dispatch.specs.declared.dispatch.First.TheVariants as first
use Rattle.lard_dispatch.specs.Sound as sound
use Rattle.lard_dispatch.proofs.Chosen.{IsChosen, all-filter, all-numbers, choice-within}
use Rattle.lard_dispatch.proofs.Counted.{cheapest-has}
use Rattle.lard_dispatch.proofs.Sharing.{add-home}
use Rattle.lard_history.proofs.Each.{Each}

-- ---- the first choice

some-wider : (nodes : ℕ) (o : Option ℕ) → nodes ≤ 64 → IfSome o (sound.IsNode nodes) → IfSome o IsNode
some-wider nodes None most h = tt
some-wider nodes (Some n) most h = let le = h.1 in (h.0, omega (arith, le, most))

wider : (nodes : ℕ) (choice : FirstChoice) → nodes ≤ 64 → IsChosen nodes choice → IsChosen 64 choice
wider nodes choice most h =
    let le = h.node.1 in record { node = (h.node.0, omega (arith, le, most)); add = some-wider nodes choice.add most h.add; remove = some-wider nodes choice.remove most h.remove }

-- ---- a later choice

module _ (t : Tally) (h set queue : ℕ) (cfg : Config) (node : IsNode h) where
  all-cheap : (cost : ℕ → Cost) (ms : List ℕ) → AllByRecursion IsNode ms → AllByRecursion (λ m. (k : ℕ) → is_less (cost m) (cost k) ≡ true → IsNode m) ms
  all-cheap cost [] k = tt
  all-cheap cost (m ∷ ms) k = (λ n e. k.0, all-cheap cost ms k.1)

  members : AllByRecursion IsNode (members_of set)
  unfolding members_of node_numbers
  members = all-filter IsNode (has set) (numbers 64) (all-numbers 64)

  later-is : IsLater (later_choice t h set queue cfg)
  unfolding later_choice
  later-is = record {
    node = cond_both (stays h set queue) h (cheapest (cost_at t cfg set) h (members_of set)) IsNode (λ e. node) (λ e. cheapest-has IsNode (cost_at t cfg set) h (members_of set) node (all-cheap (cost_at t cfg set) (members_of set) members));
    add = add-home t h set queue 64 cfg node;
  }

all-later : (cfg : Config) (ask : Ask) (now : Millis) (paths : List (List ℕ)) (b : Books) → IsNode ask.home → Each IsLater (all_choices cfg ask now paths b)
all-later cfg ask now [] b node = tt
all-later cfg ask now (p ∷ ps) b node = (later-is b.loads ask.home (set_of b.sets p).members ask.queue cfg node, all-later cfg ask now ps (shared_with cfg b ask p now) node)

as-many : (cfg : Config) (ask : Ask) (now : Millis) (paths : List (List ℕ)) (b : Books) → length (all_choices cfg ask now paths b) ≡ length paths
as-many cfg ask now [] b = refl
as-many cfg ask now (p ∷ ps) b = ap suc (as-many cfg ask now ps (shared_with cfg b ask p now))

-- ---- a dispatcher

module _ (d : Dispatcher) (is : IsDispatcherSound d) where
  few : d.config.nodes ≤ 64
  few = (usable d.config is.usable).nodes

  pub first-fits : (path : List ℕ) (now : Millis) → FirstFits (first_answer d path now)
  first-fits path now = cond_both (is_full d) first.Waits (first.Go (choice_at d.config d.books path now)) FirstFits (λ t. tt)
      (λ t. wider d.config.nodes (choice_at d.config d.books path now) few
      (choice-within d.books.loads (set_of d.books.sets path).members now (set_of d.books.sets path).modified d.config d.config.nodes is.nodes is.open_nodes is.some_open))

  pub later-fits : (ask : Ask) (now : Millis) → IsNode ask.home → Each IsLater (later_answer d ask now).choices
  later-fits ask now node = all-later d.config ask now ask.paths (batch_over d.books ask) node

  pub later-length : (ask : Ask) (now : Millis) → length (later_answer d ask now).choices ≡ length ask.paths
  later-length ask now = as-many d.config ask now ask.paths (batch_over d.books ask)

  next-fits : (c : ℕ) (now : Millis) (line : List Waiting) → IfSome (next_admission d.config now (released_from d.books c) line) (λ next. IsChosen 64 next.1)
  next-fits c now [] = tt
  next-fits c now (w ∷ ws) = wider d.config.nodes (choice_at d.config (released_from d.books c) w.target now) few
      (choice-within (released_from d.books c).loads (set_of d.books.sets w.target).members now (set_of d.books.sets w.target).modified d.config d.config.nodes is.nodes is.open_nodes is.some_open)

  pub ended-fits : (c : ℕ) (now : Millis) → IfSome (ended_answer d c now) (λ next. IsChosen 64 next.1)
  ended-fits c now = next-fits c now d.books.line
