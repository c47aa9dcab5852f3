-- What holds of a node's state between two steps.
use Rattle.std.specs.Prelude.{◌≡◌, ℕ, List, [], Option, Some, None}
use Rattle.std.specs.FinMap as table
use Rattle.std.specs.FinMap.{FinMap}
use Rattle.std.specs.Ordering.{nat_cmp}
use Rattle.lard_handoff_back.specs.declared.row.BackConn.{BackConn}
use Rattle.lard_handoff_back.specs.declared.row.BackConn.TheVariants.{Here, Out, Ended, Gone}
use Rattle.lard_handoff_back.specs.declared.row.BackRow.{BackRow}
use Rattle.lard_rules.specs.declared.node.NodeState.{NodeState}
use Rattle.lard_rules.specs.declared.stay.Stay.{Stay}
use Rattle.lard_rules.specs.Stay.{Work}
use Rattle.lard_resend.specs.declared.kept.Kept.{Kept}
use Rattle.lard_rules.specs.declared.places.Ending.{Ending}
use Rattle.lard_rules.specs.declared.places.Ending.TheVariants as ending
use Rattle.lard_stay.specs.Work.{IsStaySound}

-- a stay stands exactly beside an endpoint that is here, and no endpoint is in hand
abbrev pub IsStaying : BackConn → Option Stay → Type 0
IsStaying (Here b) None = ⊥
IsStaying (Here b) (Some s) = IsStaySound b s
IsStaying Out s = ⊥
IsStaying Ended None = Unit {0}
IsStaying Ended (Some s) = ⊥
IsStaying Gone None = Unit {0}
IsStaying Gone (Some s) = ⊥

abbrev pub IsAtRest : Option BackRow → Option Stay → Type 0
IsAtRest None None = Unit {0}
IsAtRest None (Some s) = ⊥
IsAtRest (Some row) s = IsStaying row.stage s

-- an empty list is not kept
abbrev pub NoneEmpty : FinMap nat_cmp (List Kept) → Type 0
NoneEmpty m = (c : ℕ) → table.get m c ≡ Some [] → ⊥

pub record IsNodeSound (s : NodeState) : Type 0 where
  pub stays : (c : ℕ) → IsAtRest (table.get s.conns.rows c) (table.get s.stays c)
  pub kept : NoneEmpty s.kept
  pub fetches : NoneEmpty s.fetches

-- ---- in hand

-- what is in hand, as a stay
abbrev pub stay_in : Work → Stay
stay_in w = record { served = w.service.count; batch = w.batch; asks = w.asks }

abbrev pub IsWorkSound : Work → Type 0
IsWorkSound w = IsStaySound w.service.block (stay_in w)

-- the endpoint is still here, beside what was not served
abbrev pub EndsSound : Ending → Work → Type 0
EndsSound (ending.Here b count) w = IsStaySound b (record (stay_in w) { served = count })
EndsSound (ending.Over last) w = Unit {0}
