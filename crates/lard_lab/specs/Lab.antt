-- What each event does in a lab, and what the report gains by it.
use Rattle.std.specs.Prelude.{◌≡◌, ℕ, ◌+◌, ◌-◌, ◌/◌, ◌<◌, ◌≤◌, ◌^◌, Bool, nat_le, List, [], ◌∷◌, ◌++◌, length, Option, Some, None, Result, Ok, Err, refl, if◌then◌else◌}
use Rattle.std.specs.Coded.{Coded, code_by, coded×}
use Rattle.lard_base.specs.declared.config.Config.{Config}
use Rattle.lard_loads.specs.declared.loads.TheConstants.{WHOLE}
use Rattle.lard_loads.specs.Tally.{load}
use Rattle.lard_policy.specs.declared.first.FirstChoice.{FirstChoice}
use Rattle.lard_lab.specs.declared.assigner.TheConstants.{MAX_REQUESTS}
use Rattle.lard_lab.specs.declared.event.LabEvent.{LabEvent}
use Rattle.lard_lab.specs.declared.event.LabEvent.TheVariants.{Req, Done, Clock}
use Rattle.lard_lab.specs.declared.event.LabFault.{LabFault}
use Rattle.lard_lab.specs.declared.event.LabFault.TheVariants.{NoFile, NotOpen, Limit, NoMemory}
use Rattle.lard_lab.specs.declared.policy.Policy.{Policy}
use Rattle.lard_lab.specs.declared.targets.Target.{Target}
use Rattle.lard_lab.specs.Backends.{Stores, coded_stores, is_hit, stores_served, untouched}
use Rattle.lard_lab.specs.Desk.{Desk, answer_at, desk_assigned, desk_begun, coded_desk, done_with, is_request_open, later_by, request_passed_over}
use Rattle.lard_lab.specs.Targets.{fresh_target, target_at}
use Rattle.lard_lab.specs.Text.{node_lines, request_line, totals_line}

-- what the choices rest on, and what the nodes keep and count
pub record State : Type 0 where
  pub desk : Desk
  pub stores : Stores

abbrev pub coded_state : Coded State
coded_state = code_by _ (coded× coded_desk coded_stores) (λ s. (s.desk, s.stores)) (λ p. record { desk = p.0; stores = p.1 }) (λ _. refl)

-- no file, and no request
abbrev pub lab_opened : Policy → Config → State
lab_opened policy cfg = record { desk = desk_begun policy cfg; stores = untouched cfg.nodes cfg.cache }

-- files that were added before, and no request
abbrev pub opened_with : Policy → Config → List (List ℕ × Target) → State
opened_with policy cfg targets = record { desk = record (desk_begun policy cfg) { targets = targets }; stores = untouched cfg.nodes cfg.cache }

-- one file more
abbrev pub lab_filed : State → List ℕ → ℕ → State
lab_filed s path size = record s { desk = record s.desk { targets = s.desk.targets ++ (path, fresh_target size) ∷ [] } }

-- ---- a request

-- how many requests are open at a node, with one that comes
abbrev pub load_with_one : Desk → ℕ → ℕ
load_with_one d n = load d.loads n / WHOLE + 1

abbrev pub requested_by : State → List ℕ → Target → Option FirstChoice → State
requested_by s path target None = record s { desk = request_passed_over s.desk }
requested_by s path target (Some choice) = record { desk = desk_assigned s.desk path target choice; stores = stores_served s.stores choice.node path target.size (load_with_one s.desk choice.node) }

abbrev pub requested : State → List ℕ → Option Target → State
requested s path None = s
requested s path (Some target) = requested_by s path target (answer_at s.desk path target)

-- its node, and whether its path was in the cache there; none where it was full
abbrev pub outcome_by : State → List ℕ → Option FirstChoice → Option (ℕ × Bool)
outcome_by s path None = None
outcome_by s path (Some choice) = Some (choice.node, is_hit s.stores choice.node path)

abbrev pub request_told : State → List ℕ → Option Target → Option (List ℕ)
request_told s path None = None
request_told s path (Some target) = Some (request_line (s.desk.made + 1) path (outcome_by s path (answer_at s.desk path target)))

-- ---- any event

-- the state behind an event that is not refused
unfoldable pub lab_after : State → LabEvent → State
lab_after s (Req path) = requested s path (target_at s.desk.targets path)
lab_after s (Done i) = record s { desk = done_with s.desk i }
lab_after s (Clock ms) = record s { desk = later_by s.desk ms }

-- its line, where it is a request
unfoldable pub lab_told : State → LabEvent → Option (List ℕ)
lab_told s (Req path) = request_told s path (target_at s.desk.targets path)
lab_told s (Done i) = None
lab_told s (Clock ms) = None

abbrev pub path_fault : ℕ → Option Target → Option LabFault
path_fault made None = Some NoFile
path_fault made (Some target) = if nat_le MAX_REQUESTS made then Some Limit else None

-- the first cause that speaks against an event
unfoldable pub fault_of : State → LabEvent → Option LabFault
fault_of s (Req path) = path_fault s.desk.made (target_at s.desk.targets path)
fault_of s (Done i) = if is_request_open s.desk i then None else Some (NotOpen i)
fault_of s (Clock ms) = None

-- What a call answers: the line, where there is no cause against the event; or the first cause; or memory ran out.
abbrev pub AnswersEvent : Option LabFault → Option (List ℕ) → Result (Option (List ℕ)) LabFault → Type 0
AnswersEvent fault line (Ok given) = (fault ≡ None) × (given ≡ line)
AnswersEvent fault line (Err NoMemory) = fault ≡ None
AnswersEvent fault line (Err cause) = fault ≡ Some cause

-- the clock stays below 2^64
abbrev pub KeepsClock : State → LabEvent → Type 0
KeepsClock s (Req path) = Unit {0}
KeepsClock s (Done i) = Unit {0}
KeepsClock s (Clock ms) = s.desk.time.0 + ms < 2 ^ 64

-- the lines at the end of a report
unfoldable pub totals_text : State → List ℕ
totals_text s = totals_line s.desk.made s.stores.hits (s.desk.made - s.stores.requests) ++ node_lines 1 s.stores.nodes

-- What holds of a lab between two events: there is a store for each node, and the requests that were assigned are among those that were made.
pub record IsFitted (s : State) : Type 0 where
  pub each : length s.stores.nodes ≡ s.desk.config.nodes
  pub some : s.stores.requests ≤ s.desk.made
