-- How a connection moves, step by step, in words of what it sees.
use Rattle.std.specs.Prelude.{◌≡◌, ◌⊎◌, ℕ, ◌+◌, ◌&&◌, nat_lt, not, Bool, true, false, if◌then◌else◌, List, [], ◌∷◌, map, Option, Some, None}
use Rattle.std.specs.List.{AllByRecursion, list_any}
use Rattle.lard_law_view.specs.Prelude.{Rec, Seen, is_no_node, net_of, own, seen_on}
use Rattle.lard_law_connections.specs.MotionStory.{Story, back_in, first_node, forward_to, from_node, front_gave_epoch, front_took, highest, is_among, is_syn_in, last_gave, node_gave_epoch, node_took, of_row, epoch_offered, picked, refused_in, segment_in, story, to_node}
use Rattle.lard_law_connections.specs.Places.{Head, message_head}
use Rattle.lard_rules.specs.Front.{message}
use Rattle.lard_message.specs.declared.kind.Kind.TheVariants as kind
use Rattle.lard_message.specs.declared.message.Body.TheVariants as body

-- ---- the front end takes it first

-- once, in epoch 1, at the first plain SYN
abbrev pub first_takes : Story → List ℕ → List ℕ
first_takes t takes = if t.took then [] else takes

abbrev pub first_syn : Story → Bool → List ℕ
first_syn t comes = if not t.syn && comes then 1 ∷ [] else []

-- The front end takes a connection first exactly in the step in which the first plain SYN of its client comes to it, in epoch 1.
abbrev pub TakesFirst : ℕ → List Seen → List Seen → Type 0
TakesFirst c past step = first_takes (story c past) (picked (of_row front_took) step) ≡ first_syn (story c past) (list_any (is_syn_in c) step)

-- ---- it gives it up

-- these messages have one to node n with this head
abbrev pub SaysTo : ℕ → Head → List (ℕ × List ℕ) → Type 0
SaysTo n h [] = ⊥
SaysTo n h (s ∷ ss) = ((s.0 ≡ n) × (message_head s.1 ≡ Some h)) ⊎ SaysTo n h ss

-- it is given up in these epochs, assigned first to these nodes, and this is said to nodes
abbrev pub IsHandedOff : List ℕ → List ℕ → List (ℕ × List ℕ) → Type 0
IsHandedOff [] [] said = Unit {0}
IsHandedOff (e ∷ []) (n ∷ []) said = SaysTo n (record { kind = kind.Offer; epoch = e + 1 }) said
IsHandedOff _ _ said = ⊥

-- The front end gives a connection up exactly in the step of a first assignment of it, and an Offer goes to the assigned node then, in
-- the next epoch.
abbrev pub HandsOff : List Seen → Type 0
HandsOff step = IsHandedOff (picked (of_row front_gave_epoch) step) (picked (of_row first_node) step) (picked (of_row to_node) step)

-- ---- a node takes it

-- those above an epoch
abbrev pub above : ℕ → List ℕ → List ℕ
above h [] = []
above h (e ∷ es) = if nat_lt h e then e ∷ above h es else above h es

-- A node that does not leave takes a connection exactly in the step in which an Offer comes to it whose epoch exceeds those in which it
-- took it before, in that epoch.
abbrev pub NodeTakes : ℕ → List Seen → List Seen → Type 0
NodeTakes n past step = picked (of_row (node_took n)) step ≡ above (highest (picked (of_row (node_took n)) past)) (picked (epoch_offered n) step)

-- ---- it gives it up

-- one of these messages has this head
abbrev pub Says : Head → List (List ℕ) → Type 0
Says h [] = ⊥
Says h (s ∷ ss) = (message_head s ≡ Some h) ⊎ Says h ss

abbrev pub EachIsTold : List ℕ → List (List ℕ) → Type 0
EachIsTold [] said = Unit {0}
EachIsTold (e ∷ es) said = (Says (record { kind = kind.Ended; epoch = e }) said ⊎ Says (record { kind = kind.Give; epoch = e }) said) × EachIsTold es said

-- In the step in which a node gives a connection up, an Ended or a Give of that epoch goes to the front end.
abbrev pub NodeEnds : ℕ → List Seen → Type 0
NodeEnds n step = EachIsTold (picked (of_row (node_gave_epoch n)) step) (picked (of_row (from_node n)) step)

-- ---- the front end takes it again

abbrev pub later_takes : Story → List ℕ → List ℕ
later_takes t takes = if t.took then takes else []

abbrev pub first_back : Story → List ℕ → List ℕ
first_back t comes = elim t.epoch as (λ o. List ℕ) [
  | None ↦ []
  | Some e ↦ if not (is_among e t.back) && is_among e comes then (e + 1) ∷ [] else []
]

-- The front end takes a connection again exactly in the step in which the first Ended, Give or Refused of the connection's epoch comes, in
-- the next epoch.
abbrev pub TakesBack : ℕ → List Seen → List Seen → Type 0
TakesBack c past step = later_takes (story c past) (picked (of_row front_took) step) ≡ first_back (story c past) (picked back_in step)

-- ---- each time in the next epoch

-- the epoch behind this one; or the next, where a Refused of the one between comes
abbrev pub IsNextUp : ℕ → List ℕ → ℕ → Type 0
IsNextUp gave refused e = (e ≡ gave + 1) ⊎ ((e ≡ gave + 2) × (is_among (gave + 1) refused ≡ true))

-- A place takes a connection in the epoch behind that in which it was given up last, first in epoch 1; or two behind it, where a Refused
-- of the epoch between comes in the step.
abbrev pub StepsUp : (Rec → Option ℕ) → List Seen → List Seen → Type 0
StepsUp took past step = AllByRecursion (IsNextUp (last_gave past) (picked refused_in step)) (picked (of_row took) step)

-- ---- meanwhile

-- to the connection's node, in its epoch, with these bytes each
abbrev pub forwards_by : ℕ → Option ℕ → Option ℕ → List (List ℕ) → List (ℕ × List ℕ)
forwards_by c (Some n) (Some e) segments = map (λ bytes. (n, message c e (body.Forward bytes))) segments
forwards_by c _ _ segments = []

abbrev pub forwards_of : ℕ → Story → List (List ℕ) → List (ℕ × List ℕ)
forwards_of c t segments = if t.away then forwards_by c t.node t.epoch segments else []

-- While the front end has given a connection up and not taken it again, it sends one Forward for each segment of the client that comes
-- and decodes, with the same bytes, in the connection's epoch and to its node; and no other Forward at any time.
abbrev pub Forwards : ℕ → List Seen → List Seen → Type 0
Forwards c past step = picked (of_row forward_to) step ≡ forwards_of c (story c past) (picked (segment_in c) step)

-- ---- all of it

-- of one connection, in a cluster of so many nodes
pub record IsMotion (nodes c : ℕ) (past step : List Seen) : Type 0 where
  pub takes_first : TakesFirst c past step
  pub hands_off : HandsOff step
  pub node_takes : (n : ℕ) → is_no_node nodes n ≡ false → NodeTakes n past step
  pub node_ends : (n : ℕ) → NodeEnds n step
  pub takes_back : TakesBack c past step
  pub steps_up : StepsUp front_took past step
  pub node_steps_up : (n : ℕ) → StepsUp (node_took n) past step
  pub forwards : Forwards c past step

abbrev pub MustMove : ℕ → List Rec → List Rec → Type 0
MustMove nodes past step = (c : ℕ) → IsMotion nodes c (own c past) (seen_on c (net_of past) step)
