-- Loads as the journal tells them: what each record charges a node, until another record takes it back.
use Rattle.std.specs.Prelude.{ℕ, ◌/◌, true, false, not, List, [], ◌∷◌, ◌++◌, sum_by, if◌then◌else◌}
use Rattle.std.specs.List.{filter, fold}
use Rattle.lard_law_view.specs.Prelude.{Charge, Rec, is_charge_of, is_home, is_share_of, units_at}
use Rattle.lard_journal.specs.declared.rec.Rec.TheVariants as rec

-- A first assignment charges its node 840, until the connection is released. A later one to another node than that charges its node
-- 840 divided by the size of the batch, until the batch is over or the connection is released.
abbrev pub charge_step : List Charge → Rec → List Charge
charge_step xs (rec.AssignedFirst c r path n add remove) = xs ++ record { c = c; node = n; units = 840; share = false } ∷ []
charge_step xs (rec.AssignedLater c r path n add size queue) = if is_home xs c n then xs else xs ++ record { c = c; node = n; units = 840 / size; share = true } ∷ []
charge_step xs (rec.BatchOver c) = filter (λ x. not (is_share_of c x)) xs
charge_step xs (rec.Released c) = filter (λ x. not (is_charge_of c x)) xs
charge_step xs _ = xs

abbrev pub charges : List Rec → List Charge
charges J = fold charge_step [] J

-- the load of node n, in 840ths of a connection
abbrev pub load_told : List Rec → ℕ → ℕ
load_told J n = sum_by (units_at n) (charges J)
