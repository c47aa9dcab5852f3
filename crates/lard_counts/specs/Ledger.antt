-- What a journal says of admission, loads and server sets: folds over its records, the oldest first.
use Rattle.std.specs.Prelude.{ℕ, Bool, not, nat_eq, List, [], ◌∷◌, ◌++◌, length}
use Rattle.std.specs.List.{filter, fold, list_any}
use Rattle.lard_base.specs.declared.config.Config.{Config}
use Rattle.lard_base.specs.declared.ids.Millis.{Millis}
use Rattle.lard_dispatch.specs.Calls.{joined, reduced}
use Rattle.lard_journal.specs.declared.rec.Rec.{Rec}
use Rattle.lard_journal.specs.declared.rec.Rec.TheVariants as rec
use Rattle.lard_loads.specs.Tally.{Tally, batch_ended, connected, released, shared, tally_closed, tally_start}
use Rattle.lard_sets.specs.declared.sets.ServerSet.{ServerSet}
use Rattle.lard_sets.specs.Sets.{set_of, sets_closed, touched}

-- The time, who is admitted, the loads of the nodes, and which nodes serve each target.
pub record Ledger : Type 0 where
  pub now : Millis
  pub ins : List ℕ
  pub loads : Tally
  pub sets : List (List ℕ × ServerSet)

-- A connection is in from its `admitted` to its `released`. Its first assignment puts a whole on its node, until it is released; a
-- later one away from that node opens a share of its batch, until the batch is over. An assignment takes the node that is added
-- into the set of its path, and then the node that is removed out of it, and dates the set where there is one. A node that is closed is
-- open no longer, and out of every set.
abbrev pub ledger_step : Ledger → Rec → Ledger
ledger_step l (rec.Clock time) = record l { now = time }
ledger_step l (rec.Admitted c) = record l { ins = l.ins ++ c ∷ [] }
ledger_step l (rec.Released c) = record l { ins = filter (λ d. not (nat_eq c d)) l.ins; loads = released l.loads c }
ledger_step l (rec.AssignedFirst c r path n add remove) =
    record l { loads = connected l.loads c n; sets = reduced (joined (touched l.sets path) path add l.now) path remove l.now }
ledger_step l (rec.AssignedLater c r path n add size queue) = record l { loads = shared l.loads c n size; sets = joined (touched l.sets path) path add l.now }
ledger_step l (rec.Closed n) = record l { loads = tally_closed l.loads n; sets = sets_closed l.sets n }
ledger_step l (rec.BatchOver c) = record l { loads = batch_ended l.loads c }
ledger_step l _ = l

-- before anything: nobody is in, nothing is loaded, and no node serves a target
abbrev pub blank_ledger : Config → Ledger
blank_ledger cfg = record { now = record { 0 = 0 }; ins = []; loads = tally_start cfg.nodes; sets = [] }

abbrev pub ledger : Config → List Rec → Ledger
ledger cfg J = fold ledger_step (blank_ledger cfg) J

-- how many connections are admitted
abbrev pub ledger_admitted : Ledger → ℕ
ledger_admitted l = length l.ins

-- a connection is
abbrev pub is_in_ledger : Ledger → ℕ → Bool
is_in_ledger l c = list_any (nat_eq c) l.ins

-- which nodes serve a target, and when that changed last
abbrev pub server_set : Ledger → List ℕ → ServerSet
server_set l path = set_of l.sets path
