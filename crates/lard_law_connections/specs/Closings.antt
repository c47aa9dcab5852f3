-- When nodes are closed, and that some node stays open.
use Rattle.std.specs.Prelude.{◌≡◌, ℕ, ◌&&◌, ◌≤◌, nat_eq, not, Bool, true, false, List, [], ◌∷◌, if◌then◌else◌, Option, Some, None, Result, Ok, Err}
use Rattle.std.specs.List.{filter, flat_map, list_any}
use Rattle.lard_law_view.specs.Prelude.{Body, Config, EachStep, Event, Front, Message, MsgFault, Node, Packet, Place, Rec, decoded_message, is_node_closed, net_of, packet_at, steps}
use Rattle.lard_base.specs.declared.event.Event.TheVariants as event
use Rattle.lard_counts.specs.Ledger.{Ledger}
use Rattle.lard_journal.specs.declared.rec.Rec.TheVariants as rec
use Rattle.lard_law_connections.specs.LineLaws.{AlwaysConfigured}
use Rattle.lard_law_connections.specs.PolicyLaws.{AtEveryMoment}
use Rattle.lard_message.specs.declared.message.Body.TheVariants as body

-- the node that a record says is closed
abbrev pub closing_of : Rec → List ℕ
closing_of (rec.Closed n) = n ∷ []
closing_of _ = []

abbrev pub closed_in : List Rec → List ℕ
closed_in step = flat_map closing_of step

-- ---- which node is to be closed

-- a message by which a node refuses a connection, or gives it back
abbrev pub is_return : Body → Bool
is_return body.Refused = true
is_return (body.Give parts) = true
is_return _ = false

-- the front end takes connection c
abbrev pub is_taking : ℕ → Rec → Bool
is_taking c (rec.Took Front d epoch) = nat_eq d c
is_taking c _ = false

-- who sends such a message, where the front end takes its connection back in the step
abbrev pub back_from : List Rec → ℕ → Result Message MsgFault → List ℕ
back_from step n (Err fault) = []
back_from step n (Ok m) = if is_return m.body && list_any (is_taking m.c) step then n ∷ [] else []

abbrev pub back_between : List Rec → Place → Place → List ℕ → List ℕ
back_between step (Node n) Front bytes = back_from step n (decoded_message bytes)
back_between step _ _ bytes = []

abbrev pub back_of : List Rec → Option Packet → List ℕ
back_of step None = []
back_of step (Some p) = back_between step p.from p.to p.bytes

-- the node of a `drain`, and the one from which a connection comes back by the packet that arrives
abbrev pub to_close : List Rec → List Rec → Event → List ℕ
to_close past step (event.Drain n) = n ∷ []
to_close past step (event.Deliver k) = back_of step (packet_at (net_of past) k)
to_close past step _ = []

-- where it is open
abbrev pub still_open : List Rec → List ℕ → List ℕ
still_open past ns = filter (λ n. not (is_node_closed past n)) ns

abbrev pub due_to_close : List Rec → List Rec → List ℕ
due_to_close past (rec.Event i e ∷ rs) = still_open past (to_close past rs e)
due_to_close past (rec.Inner e ∷ rs) = still_open past (to_close past rs e)
due_to_close past _ = []

-- A node is closed exactly where it was open, in the step of its `drain`, and in that in which a Refused or a Give of it comes and the front
-- end takes the connection back.
abbrev pub MustClose : List Rec → List Rec → Type 0
MustClose past step = closed_in step ≡ due_to_close past step

abbrev pub ClosesWhereDue : Type 0
ClosesWhereDue = AlwaysConfigured (λ config m. EachStep MustClose [] (steps m.journal))

-- Some node of the cluster is open.
abbrev pub SomeStays : Config → Ledger → List Rec → Type 0
SomeStays config l past = (n : ℕ) × (1 ≤ n) × (n ≤ config.nodes) × (is_node_closed past n ≡ false)

abbrev pub SomeNodeStays : Type 0
SomeNodeStays = AtEveryMoment SomeStays
