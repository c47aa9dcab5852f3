-- The later choice: the node of a further request on a persistent connection, after the extended LARD policy (Aron, Druschel
-- and Zwaenepoel, USENIX 1999).
use Rattle.std.specs.Prelude.{ℕ, Bool, not, ◌&&◌, ◌||◌, nat_eq, nat_lt, List, [], ◌∷◌, filter, Option, Some, None, if◌then◌else◌}
use Rattle.lard_base.specs.declared.config.Config.{Config}
use Rattle.lard_base.specs.Members.{has, node_numbers}
use Rattle.lard_loads.specs.Tally.{Tally, is_open}
use Rattle.lard_costs.specs.Costs.{cost_at, is_less}
use Rattle.lard_costs.specs.declared.later.TheConstants.{SHORT_QUEUE}
use Rattle.lard_costs.specs.declared.cost.Cost.{Cost}
use Rattle.lard_costs.specs.declared.later.LaterChoice.{LaterChoice}

-- the connection's node serves the target, or its disk queue is short
abbrev pub stays : ℕ → ℕ → ℕ → Bool
stays h set queue = has set h || nat_lt queue SHORT_QUEUE

-- the members of a set, in the order of their numbers
unfoldable pub members_of : ℕ → List ℕ
members_of set = filter (has set) node_numbers

-- m where it costs less than n, else n
abbrev pub cheaper : (ℕ → Cost) → ℕ → ℕ → ℕ
cheaper cost n m = if is_less (cost m) (cost n) then m else n

-- the first of n and of these that costs least
abbrev pub cheapest : (ℕ → Cost) → ℕ → List ℕ → ℕ
cheapest cost n [] = n
cheapest cost n (m ∷ ms) = cheapest cost (cheaper cost n m) ms

-- the node: where the request does not stay at h, the cheapest of h and the members
abbrev pub later_placed : Tally → Config → ℕ → ℕ → ℕ → ℕ
later_placed t cfg h set queue = if stays h set queue then h else cheapest (cost_at t cfg set) h (members_of set)

-- h joins the set where it is chosen, is open and is no member
abbrev pub later_joining : Tally → ℕ → ℕ → ℕ → Option ℕ
later_joining t h set n = if nat_eq n h && is_open t h && not (has set h) then Some h else None

-- the later choice, at these loads, for a connection at home at h and a target with this set, with so many jobs in h's queue
unfoldable pub later_choice : Tally → ℕ → ℕ → ℕ → Config → LaterChoice
later_choice t h set queue cfg = let n = later_placed t cfg h set queue in record { node = n; add = later_joining t h set n }
