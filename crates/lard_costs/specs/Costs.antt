-- What it costs to send a later request to a node: the three costs of the extended LARD policy (Aron, Druschel and
-- Zwaenepoel, USENIX 1999). L_idle, L_overload and Miss Cost are the numbers idle, over and miss of the configuration. They
-- count connections, as the costs do there: here loads and costs are in 840ths of one.
use Rattle.std.specs.Prelude.{ℕ, ◌+◌, ◌-◌, ◌*◌, Bool, true, false, ◌||◌, nat_lt, if◌then◌else◌}
use Rattle.lard_base.specs.declared.config.Config.{Config}
use Rattle.lard_base.specs.Members.{has}
use Rattle.lard_loads.specs.declared.loads.TheConstants.{WHOLE}
use Rattle.lard_loads.specs.Tally.{Tally, load}
use Rattle.lard_costs.specs.declared.cost.Cost.{Cost}
use Rattle.lard_costs.specs.declared.cost.Cost.TheVariants.{Units, Over}

-- cost_balancing: 0 if load < L_idle; infinity if load > L_overload; load - L_idle otherwise
abbrev pub cost_balancing : Config → ℕ → Cost
cost_balancing cfg load = if nat_lt load (cfg.idle * WHOLE) then Units 0 else if nat_lt (cfg.over * WHOLE) load then Over else Units (load - cfg.idle * WHOLE)

-- cost_locality: 1 if the target is mapped to the server; Miss Cost otherwise
abbrev pub cost_locality : Config → Bool → ℕ
cost_locality cfg is_member = (if is_member then 1 else cfg.miss) * WHOLE

-- cost_replacement: 0 if load < L_idle, or the target is mapped to the server; Miss Cost otherwise
abbrev pub cost_replacement : Config → ℕ → Bool → ℕ
cost_replacement cfg load is_member = if nat_lt load (cfg.idle * WHOLE) || is_member then 0 else cfg.miss * WHOLE

-- a cost and so many 840ths more
abbrev pub more : Cost → ℕ → Cost
more (Units units) others = Units (units + others)
more Over others = Over

-- the aggregate cost: the sum of the three
abbrev pub cost : Config → ℕ → Bool → Cost
cost cfg load is_member = more (cost_balancing cfg load) (cost_locality cfg is_member + cost_replacement cfg load is_member)

-- what it costs to send a request for a target with these members to a node
abbrev pub cost_at : Tally → Config → ℕ → ℕ → Cost
cost_at t cfg set n = cost cfg (load t n) (has set n)

-- a cost is less than another: infinity is the greatest
abbrev pub is_less : Cost → Cost → Bool
is_less (Units a) (Units b) = nat_lt a b
is_less (Units a) Over = true
is_less Over other = false
