-- What is kept of admission, loads and server sets, and what each record changes of it.
use Rattle.std.specs.Prelude.{◌≡◌, ℕ, ◌+◌, ◌<◌, Bool, false, ◌||◌, nat_eq, List, [], Option, Some, None, is_some, refl, IfSome}
use Rattle.std.specs.Coded.{Coded, code_by, coded×, coded_list, coded_option, coded_ℕ}
use Rattle.std.specs.FinMap as finite
use Rattle.lard_base.specs.Config.{room_of}
use Rattle.lard_base.specs.contracts.config.Config as config
use Rattle.lard_base.specs.declared.config.Config.{Config}
use Rattle.lard_base.specs.contracts.ids.Millis as millis
use Rattle.lard_base.specs.declared.ids.Millis.{Millis}
use Rattle.lard_dispatch.specs.Books.{Dispatcher}
use Rattle.lard_dispatch.specs.Calls.{joined, reduced}
use Rattle.lard_dispatch.specs.Sound.{AreBefore, IsDispatcherSound}
use Rattle.lard_journal.specs.declared.rec.Rec.{Rec}
use Rattle.lard_journal.specs.declared.rec.Rec.TheVariants as rec
use Rattle.lard_loads.specs.Tally.{Tally, admitted, batch_ended, coded_tally, connected, home, released, shared, tally_closed, tally_start}
use Rattle.lard_sets.specs.Sets.{sets_closed, touched}
use Rattle.lard_sets.specs.contracts.sets.ServerSet as server_set
use Rattle.lard_sets.specs.declared.sets.ServerSet.{ServerSet}

-- The time, the loads, the server sets, and the connection whose first assignment is due.
pub record AuditBooks : Type 0 where
  pub config : Config
  pub time : Millis
  pub loads : Tally
  pub sets : List (List ℕ × ServerSet)
  pub due : Option ℕ

abbrev pub audit_coded_books : Coded AuditBooks
audit_coded_books = code_by _ (coded× config.the_row.coded (coded× millis.the_row.coded (coded× coded_tally (coded× (coded_list (coded× (coded_list coded_ℕ) server_set.the_row.coded)) (coded_option coded_ℕ)))))
    (λ b. (b.config, (b.time, (b.loads, (b.sets, b.due))))) (λ p. record { config = p.0; time = p.1.0; loads = p.1.1.0; sets = p.1.1.1.0; due = p.1.1.1.1 }) (λ _. refl)

-- nobody came
abbrev pub blank_books : Config → AuditBooks
blank_books cfg = record { config = cfg; time = record { 0 = 0 }; loads = tally_start cfg.nodes; sets = []; due = None }

abbrev pub one_if_some : Option ℕ → ℕ
one_if_some None = 0
one_if_some (Some c) = 1

abbrev pub is_it : Option ℕ → ℕ → Bool
is_it None c = false
is_it (Some d) c = nat_eq d c

-- how many are in: those that have a node, and the one that is to have one
abbrev pub count_in : AuditBooks → ℕ
count_in b = admitted b.loads + one_if_some b.due

abbrev pub is_inside : AuditBooks → ℕ → Bool
is_inside b c = is_some (home b.loads c) || is_it b.due c

abbrev pub books_step : AuditBooks → Rec → AuditBooks
books_step b (rec.Clock time) = record b { time = time }
books_step b (rec.Admitted c) = record b { due = Some c }
books_step b (rec.Released c) = record b { loads = released b.loads c }
books_step b (rec.AssignedFirst c r path n add remove) =
    record b { loads = connected b.loads c n; sets = reduced (joined (touched b.sets path) path add b.time) path remove b.time; due = None }
books_step b (rec.AssignedLater c r path n add size queue) = record b { loads = shared b.loads c n size; sets = joined (touched b.sets path) path add b.time }
books_step b (rec.Closed n) = record b { loads = tally_closed b.loads n; sets = sets_closed b.sets n }
books_step b (rec.BatchOver c) = record b { loads = batch_ended b.loads c }
books_step b _ = b

-- the dispatcher of whom nobody waits
abbrev pub dispatcher_of : AuditBooks → Dispatcher
dispatcher_of b = record { config = b.config; books = record { loads = b.loads; sets = b.sets; line = [] } }

-- What holds of books between two records: what a dispatcher keeps; no set was changed later; and who is due has no node, while there
-- is room.
pub record AreSound (b : AuditBooks) : Type 0 where
  pub sound : IsDispatcherSound (dispatcher_of b)
  pub before : AreBefore b.time.0 b.sets
  pub free : IfSome b.due (λ c. (finite.get b.loads.standings c ≡ None) × (admitted b.loads < room_of b.config))
