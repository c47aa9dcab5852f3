-- What holds between two calls.
use Rattle.std.specs.Prelude.{◌≡◌, ℕ, ◌<◌, ◌≤◌, true, false, List, [], ◌∷◌, length, None, IfSome, Ok}
use Rattle.std.specs.FinMap as map
use Rattle.std.specs.FinMap.{FinMap}
use Rattle.std.specs.List.{AllByRecursion}
use Rattle.std.specs.Ordering.{nat_cmp}
use Rattle.lard_base.specs.Config.{config_check, room_of}
use Rattle.lard_base.specs.Members.{has}
use Rattle.lard_loads.specs.Tally.{Standing, admitted}
use Rattle.lard_sets.specs.Sets.{set_of}
use Rattle.lard_sets.specs.declared.sets.ServerSet.{ServerSet}
use Rattle.lard_dispatch.specs.declared.line.Waiting.{Waiting}
use Rattle.lard_dispatch.specs.Books.{Dispatcher}
use Rattle.lard_dispatch.specs.Line.{line_waits}

-- nobody waits who is admitted, and nobody twice
abbrev pub AreApart : FinMap nat_cmp Standing → List Waiting → Type 0
AreApart standings [] = Unit {0}
AreApart standings (w ∷ ws) = (map.get standings w.c ≡ None) × (line_waits ws w.c ≡ false) × AreApart standings ws

abbrev pub IsNode : ℕ → ℕ → Type 0
IsNode nodes n = (1 ≤ n) × (n ≤ nodes)

-- who is admitted is at a node that there is
abbrev pub AreAtNodes : ℕ → FinMap nat_cmp Standing → Type 0
AreAtNodes nodes standings = (c : ℕ) → IfSome (map.get standings c) (λ s. IsNode nodes s.home)

-- all that serve a target are nodes that there are
abbrev pub AreServedByNodes : ℕ → List (List ℕ × ServerSet) → Type 0
AreServedByNodes nodes sets = (target : List ℕ) (n : ℕ) → has (set_of sets target).members n ≡ true → n ≤ nodes

-- no set was changed after this time
abbrev pub AreBefore : ℕ → List (List ℕ × ServerSet) → Type 0
AreBefore now sets = (target : List ℕ) → (set_of sets target).modified.0 ≤ now

pub record IsDispatcherSound (d : Dispatcher) : Type 0 where
  pub usable : config_check d.config ≡ Ok tt
  pub nodes : d.books.loads.nodes ≡ d.config.nodes
  pub open_nodes : AllByRecursion (IsNode d.config.nodes) d.books.loads.open_nodes
  pub some_open : 0 < length d.books.loads.open_nodes
  pub at_nodes : AreAtNodes d.config.nodes d.books.loads.standings
  pub served : AreServedByNodes d.config.nodes d.books.sets
  pub room : admitted d.books.loads ≤ room_of d.config
  pub full : 0 < length d.books.line → admitted d.books.loads ≡ room_of d.config
  pub apart : AreApart d.books.loads.standings d.books.line
