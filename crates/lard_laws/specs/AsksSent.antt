-- Which Asks a node sends, in words of the journal: the next one of a stay, or the last one again.
use Rattle.std.specs.Prelude.{◌≡◌, ◌⊎◌, ℕ, ◌+◌, ◌==◌, nat_eq, ◌&&◌, Bool, true, false, if◌then◌else◌, List, [], ◌∷◌, ◌++◌, length, Option, Some, None}
use Rattle.std.specs.List.{AllByRecursion, fold}
use Rattle.lard_law_view.specs.Prelude.{Front, Kind, Node, Rec, Seen, net_of, own, seen_on}
use Rattle.lard_law_connections.specs.MotionStory.{of_row, picked}
use Rattle.lard_law_connections.specs.Places.{Head, message_head}
use Rattle.lard_counts.specs.Stores.{jobs}
use Rattle.lard_journal.specs.declared.rec.Rec.TheVariants as rec
use Rattle.lard_message.specs.declared.kind.Kind.TheVariants as kind
use Rattle.lard_message.specs.declared.message.Body.TheVariants as body
use Rattle.lard_rules.specs.Node.{message}

-- ---- Asks that are sent

abbrev pub is_ask_kind : Kind → Bool
is_ask_kind kind.Ask = true
is_ask_kind _ = false

abbrev pub is_ask : ℕ → Option Head → Bool
is_ask e None = false
is_ask e (Some h) = is_ask_kind h.kind && h.epoch == e

-- an Ask of epoch e that node n sends to the front end
abbrev pub ask_by : ℕ → ℕ → Rec → Option (List ℕ)
ask_by n e (rec.Sent k (Node m) Front bytes) = if nat_eq m n && is_ask e (message_head bytes) then Some bytes else None
ask_by n e _ = None

-- the last of these, if there is one
abbrev pub newest : List (List ℕ) → Option (List ℕ)
newest all = fold (λ (last : Option (List ℕ)) (bytes : List ℕ). Some bytes) None all

abbrev pub last_ask : ℕ → ℕ → List Seen → Option (List ℕ)
last_ask n e seen = newest (picked (of_row (ask_by n e)) seen)

-- ---- the next one

-- the last Ask has this number, and where there is none it is 0
abbrev pub IsAskNumbered : ℕ → ℕ → Option (List ℕ) → ℕ → Type 0
IsAskNumbered c e None k = k ≡ 0
IsAskNumbered c e (Some bytes) k = (queue size : ℕ) × (paths : List (List ℕ)) × (bytes ≡ message c e (body.Ask k queue size paths))

-- An Ask whose number is one more than that of the last, and which says that so many jobs wait.
abbrev pub IsNextAsk : ℕ → ℕ → ℕ → Option (List ℕ) → List ℕ → Type 0
IsNextAsk c e waiting last bytes = (k size : ℕ) × (paths : List (List ℕ)) × IsAskNumbered c e last k × (bytes ≡ message c e (body.Ask (k + 1) waiting size paths))

-- Each of these is the last one again, or is the next one, and then no other is behind it.
abbrev pub AsksGoOn : (Option (List ℕ) → List ℕ → Type 0) → Option (List ℕ) → List (List ℕ) → Type 0
AsksGoOn next last [] = Unit {0}
AsksGoOn next last (bytes ∷ more) = ((last ≡ Some bytes) × AsksGoOn next last more) ⊎ (next last bytes × (more ≡ []))

-- ---- the jobs at that moment

-- a job is queued, or read
abbrev pub is_job : Rec → Bool
is_job (rec.Queued n m c r path) = true
is_job (rec.Read n m c r path) = true
is_job _ = false

abbrev pub NoJobs : List Rec → Type 0
NoJobs rs = AllByRecursion (λ r. is_job r ≡ false) rs

-- behind a packet that is sent none is
abbrev pub JobsFirst : List Rec → Type 0
JobsFirst [] = Unit {0}
JobsFirst (rec.Sent k from to bytes ∷ rs) = NoJobs rs
JobsFirst (_ ∷ rs) = JobsFirst rs

-- ---- a step

-- In each step all jobs are queued and read before anything is sent. A node sends the last Ask of a connection and an epoch again,
-- as it was, or the next one, at most one: its number is one more, and it says how many jobs wait at the node by the journal with
-- this step. So these are the jobs just before the Ask is sent.
pub record MustAsk (past step : List Rec) : Type 0 where
  pub jobs_first : JobsFirst step
  pub asks : (c n e : ℕ) → AsksGoOn (IsNextAsk c e (length (jobs (past ++ step) n))) (last_ask n e (own c past)) (picked (of_row (ask_by n e)) (seen_on c (net_of past) step))
