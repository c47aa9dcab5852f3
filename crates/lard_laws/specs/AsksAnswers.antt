-- When later requests are assigned, and which Tags are sent, in words of what a connection sees.
use Rattle.std.specs.Prelude.{◌≡◌, ℕ, ◌+◌, nat_lt, Bool, if◌then◌else◌, List, [], ◌∷◌, ◌++◌}
use Rattle.lard_law_view.specs.Prelude.{Config, Rec, Seen, net_of, open_shares, own, seen_on}
use Rattle.lard_laws.specs.Asks.{Asking, AskTale, LaterAssigned, ask_in, ask_tale, end_in, is_again, is_next, later_in, node_in, tag_to}
use Rattle.lard_law_connections.specs.MotionStory.{of_row, picked}
use Rattle.lard_counts.specs.Ledger.{ledger}
use Rattle.lard_rules.specs.Front.{message}
use Rattle.lard_message.specs.declared.message.Body.TheVariants as body

-- ---- assignments

-- one for each of these paths of an Ask, in order, with numbers that go on from r, and the size and queue that it says
abbrev pub later_assigned : Asking → ℕ → List (List ℕ) → List LaterAssigned
later_assigned a r [] = []
later_assigned a r (path ∷ paths) = record { r = r + 1; path = path; size = a.size; queue = a.queue } ∷ later_assigned a (r + 1) paths

-- what is due for these Asks
abbrev pub dues : AskTale → List Asking → List LaterAssigned
dues t [] = []
dues t (a ∷ more) = (if is_next t a then later_assigned a t.done.assigned a.paths else []) ++ dues t more

-- Later requests are assigned exactly in the step in which the next Ask comes, of the connection's node in its epoch: the paths
-- that it names, in order.
abbrev pub Assigns : ℕ → List Seen → List Seen → Type 0
Assigns c past step = picked (of_row later_in) step ≡ dues (ask_tale c past) (picked ask_in step)

-- ---- Tags

-- to the node that asked, with the number of its Ask
abbrev pub tag_for : ℕ → Asking → List ℕ → List (ℕ × List ℕ)
tag_for c a nodes = (a.from, message c a.epoch (body.Tag a.number nodes)) ∷ []

-- the next Ask gets these nodes, and the last that was answered gets those that it got
abbrev pub tag_due : ℕ → AskTale → List ℕ → Asking → List (ℕ × List ℕ)
tag_due c t nodes a = if is_next t a then tag_for c a nodes else if is_again t a then tag_for c a t.done.nodes else []

abbrev pub tags_due : ℕ → AskTale → List ℕ → List Asking → List (ℕ × List ℕ)
tags_due c t nodes [] = []
tags_due c t nodes (a ∷ more) = tag_due c t nodes a ++ tags_due c t nodes more

-- A Tag goes to the node in the step in which the next Ask comes, with the nodes that are assigned in it, and in each in which the
-- last one comes again, with the same; and no other Tag is sent.
abbrev pub Tags : ℕ → List Seen → List Seen → Type 0
Tags c past step = picked (of_row tag_to) step ≡ tags_due c (ask_tale c past) (picked (of_row node_in) step) (picked ask_in step)

-- ---- the batch before

-- where nothing is assigned, no batch is over
abbrev pub EndsWith : List LaterAssigned → List ℕ → Type 0
EndsWith [] ends = ends ≡ []
EndsWith (x ∷ xs) ends = Unit {0}

abbrev pub EndsBatches : List Seen → Type 0
EndsBatches step = EndsWith (picked (of_row later_in) step) (picked (of_row end_in) step)

-- ---- all of it

-- of one connection
pub record IsAnswered (c : ℕ) (past step : List Seen) : Type 0 where
  pub assigns : Assigns c past step
  pub tags : Tags c past step
  pub ends : EndsBatches step

abbrev pub MustAnswer : List Rec → List Rec → Type 0
MustAnswer past step = (c : ℕ) → IsAnswered c (own c past) (seen_on c (net_of past) step)

-- ---- shares of the batch before

-- it is over once, where some of its shares were open
abbrev pub ends_due : ℕ → Bool → List LaterAssigned → List ℕ
ends_due c opens [] = []
ends_due c opens (x ∷ xs) = if opens then c ∷ [] else []

-- The batch before is over in each step in which later requests are assigned and shares of the connection were open, by what the
-- journal counts before the step; and in no other.
abbrev pub MustEnd : Config → List Rec → List Rec → Type 0
MustEnd config past step = (c : ℕ) →
    let seen : List Seen = seen_on c (net_of past) step in
    picked (of_row end_in) seen ≡ ends_due c (nat_lt 0 (open_shares (ledger config past).loads c)) (picked (of_row later_in) seen)
