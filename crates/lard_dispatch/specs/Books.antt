-- What the dispatcher keeps: its books.
use Rattle.std.specs.Prelude.{ℕ, List, [], refl}
use Rattle.std.specs.Coded.{Coded, code_by, coded×, coded_ℕ, coded_list}
use Rattle.lard_base.specs.contracts.config.Config as config
use Rattle.lard_base.specs.declared.config.Config.{Config}
use Rattle.lard_loads.specs.Tally.{Tally, coded_tally, tally_start}
use Rattle.lard_sets.specs.contracts.sets.ServerSet as server_set
use Rattle.lard_sets.specs.declared.sets.ServerSet.{ServerSet}
use Rattle.lard_dispatch.specs.contracts.line.Waiting as waiting
use Rattle.lard_dispatch.specs.declared.line.Waiting.{Waiting}

-- the loads of the nodes, the server sets of targets, and who waits, the first come first
pub record Books : Type 0 where
  pub loads : Tally
  pub sets : List (List ℕ × ServerSet)
  pub line : List Waiting

abbrev pub coded_books : Coded Books
coded_books = code_by _ (coded× coded_tally (coded× (coded_list (coded× (coded_list coded_ℕ) server_set.the_row.coded)) (coded_list waiting.the_row.coded)))
    (λ b. (b.loads, (b.sets, b.line))) (λ p. record { loads = p.0; sets = p.1.0; line = p.1.1 }) (λ _. refl)

-- the books, and the numbers by which the dispatcher chooses
pub record Dispatcher : Type 0 where
  pub config : Config
  pub books : Books

abbrev pub coded_dispatcher : Coded Dispatcher
coded_dispatcher = code_by _ (coded× config.the_row.coded coded_books) (λ d. (d.config, d.books)) (λ p. record { config = p.0; books = p.1 }) (λ _. refl)

-- no connection, no server set, and nobody waits
abbrev pub dispatch_begun : Config → Dispatcher
dispatch_begun cfg = record { config = cfg; books = record { loads = tally_start cfg.nodes; sets = []; line = [] } }
