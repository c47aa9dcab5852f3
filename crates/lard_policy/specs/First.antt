-- The first choice: the pseudo-code of LARD with replication (Pai and others, ASPLOS 1998). Its n, m and p are nodes; its
-- T_low, T_high and K are the numbers low, high and age of the configuration. Its loads count connections: here they are
-- in 840ths of one.
use Rattle.std.specs.Prelude.{ℕ, ◌-◌, ◌*◌, Bool, ◌&&◌, ◌||◌, nat_lt, nat_le, count_by, Option, Some, None, unwrap_or, if◌then◌else◌}
use Rattle.lard_base.specs.declared.config.Config.{Config}
use Rattle.lard_base.specs.declared.ids.Millis.{Millis}
use Rattle.lard_base.specs.Members.{has, node_numbers}
use Rattle.lard_loads.specs.declared.loads.TheConstants.{WHOLE}
use Rattle.lard_loads.specs.Tally.{Tally, load, least, least_of, most_of, any_below}
use Rattle.lard_sets.specs.Sets.{with_member}
use Rattle.lard_policy.specs.declared.first.FirstChoice.{FirstChoice}

-- {least loaded node}: of those that are open, the lowest number at a tie
abbrev pub least_node : Tally → ℕ
least_node t = unwrap_or (least t) 0

-- (n.load > T_high && some node has load < T_low) || n.load >= 2 T_high
abbrev pub is_overloaded : Tally → Config → ℕ → Bool
is_overloaded t cfg n = (nat_lt (cfg.high * WHOLE) (load t n) && any_below t (cfg.low * WHOLE)) || nat_le (2 * (cfg.high * WHOLE)) (load t n)

-- n; where it is overloaded, p in its place: {least loaded node}
abbrev pub relieved : Tally → Config → ℕ → ℕ
relieved t cfg n = if is_overloaded t cfg n then least_node t else n

-- add p to serverSet, unless it is there
abbrev pub joining : ℕ → ℕ → Option ℕ
joining set p = if has set p then None else Some p

-- |serverSet| > 1 && time() - serverSet.lastMod > K
abbrev pub may_shrink : ℕ → ℕ → ℕ → Bool
may_shrink set unchanged age = nat_lt 1 (count_by (has set) node_numbers) && nat_lt age unchanged

-- remove m from serverSet: of those that were there before p, the most loaded one
abbrev pub leaving : Tally → ℕ → ℕ → ℕ → ℕ → Option ℕ
leaving t set p unchanged age = if may_shrink (with_member set p) unchanged age then most_of t set else None

-- The choice, where n is {least loaded node in serverSet}. If serverSet is empty, n and serverSet become {least loaded node}.
abbrev pub chosen : Tally → Config → ℕ → ℕ → Option ℕ → FirstChoice
chosen t cfg set unchanged None = record { node = least_node t; add = Some (least_node t); remove = None }
chosen t cfg set unchanged (Some n) =
    let p = relieved t cfg n in
    record { node = p; add = joining set p; remove = leaving t set p unchanged cfg.age }

-- the first choice, at these loads, for a target with this set, at a time
unfoldable pub first_choice : Tally → ℕ → Millis → Millis → Config → FirstChoice
first_choice t set now last_mod cfg = chosen t cfg set (now.0 - last_mod.0) (least_of t set)
