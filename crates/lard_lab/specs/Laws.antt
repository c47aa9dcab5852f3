-- What holds of labs.
use Rattle.std.specs.Prelude.{◌≡◌, ℕ, ◌+◌, ◌%◌, ◌≤◌, false, List, [], ◌∷◌, ◌++◌, length, Option, Some, None, IfSome, Ok}
use Rattle.std.specs.List.{AllByRecursion}
use Rattle.lard_base.specs.declared.config.Config.{Config}
use Rattle.lard_base.specs.Config.{config_check, room_of}
use Rattle.lard_loads.specs.Tally.{admitted}
use Rattle.lard_policy.specs.First.{is_overloaded}
use Rattle.lard_policy.specs.declared.first.FirstChoice.{FirstChoice}
use Rattle.lard_lab.specs.declared.event.LabEvent.{LabEvent}
use Rattle.lard_lab.specs.declared.policy.Policy.{Policy}
use Rattle.lard_lab.specs.declared.policy.Policy.TheVariants.{Hash, Lard}
use Rattle.lard_lab.specs.declared.targets.Target.{Target}
use Rattle.lard_lab.specs.Desk.{Desk, answer_at, desk_assigned}
use Rattle.lard_lab.specs.Lab.{State, lab_after, fault_of, lab_filed, lab_opened, lab_told, totals_text}
use Rattle.lard_lab.specs.Policy.{hash_of}
use Rattle.lard_lab.specs.Report.{File, Request, all_hits, all_requests, lab_assignments, backends_of, desk_with, full_among, lab_report, node_chosen, peak_of, file_size_in}
use Rattle.lard_lab.specs.Targets.{target_at}
use Rattle.lard_lab.specs.Text.{lab_heading_line}

-- ---- a trace, call by call

-- a lab with these files
abbrev pub with_files : State → List File → State
with_files s [] = s
with_files s (f ∷ files) = with_files (lab_filed s f.0 f.1) files

-- a lab behind these events
abbrev pub lab_after_all : State → List LabEvent → State
lab_after_all s [] = s
lab_after_all s (e ∷ es) = lab_after_all (lab_after s e) es

abbrev pub line_in : Option (List ℕ) → List ℕ
line_in None = []
line_in (Some line) = line

-- the lines that it answers, one after another
abbrev pub told_all : State → List LabEvent → List ℕ
told_all s [] = []
told_all s (e ∷ es) = line_in (lab_told s e) ++ told_all (lab_after s e) es

-- no event is refused
abbrev pub PassAll : State → List LabEvent → Type 0
PassAll s [] = Unit {0}
PassAll s (e ∷ es) = (fault_of s e ≡ None) × PassAll (lab_after s e) es

-- a lab with these files, before the first event
abbrev pub lab_with : Policy → Config → List File → State
lab_with policy cfg files = with_files (lab_opened policy cfg) files

-- ---- laws

-- What the heading, the calls of a trace that is not refused and the totals answer is the report of the trace.
abbrev pub TellsTheReport : Type 0
TellsTheReport = (policy : Policy) (cfg : Config) (files : List File) (es : List LabEvent) → config_check cfg ≡ Ok tt → PassAll (lab_with policy cfg files) es
    → lab_heading_line policy cfg ++ told_all (lab_with policy cfg files) es ++ totals_text (lab_after_all (lab_with policy cfg files) es) ≡ lab_report policy cfg files es

-- What is kept and counted of each node is that of its subtrace alone.
abbrev pub CachesAreApart : Type 0
CachesAreApart = (policy : Policy) (cfg : Config) (files : List File) (es : List LabEvent) → config_check cfg ≡ Ok tt → PassAll (lab_with policy cfg files) es
    → let rs : List Request = lab_assignments (desk_with policy cfg files) es in
    (lab_after_all (lab_with policy cfg files) es).stores.nodes ≡ backends_of (file_size_in files) cfg rs (λ n. peak_of n (desk_with policy cfg files) es)

-- No more requests are open than there is room for.
abbrev pub RoomIsKept : Type 0
RoomIsKept = (policy : Policy) (cfg : Config) (files : List File) (es : List LabEvent) → admitted (lab_after_all (lab_with policy cfg files) es).desk.loads ≤ room_of cfg

-- Each request was assigned to one node or full, and no more hit than were assigned.
abbrev pub TotalsAddUp : Type 0
TotalsAddUp = (policy : Policy) (cfg : Config) (files : List File) (es : List LabEvent) → config_check cfg ≡ Ok tt → PassAll (lab_with policy cfg files) es
    → let rs : List Request = lab_assignments (desk_with policy cfg files) es in
    (length rs ≡ all_requests cfg rs + full_among rs) × (all_hits (file_size_in files) cfg rs ≤ all_requests cfg rs)

-- a request goes to this node, or is full
abbrev pub GoesTo : ℕ → Option ℕ → Type 0
GoesTo n None = Unit {0}
GoesTo n (Some m) = m ≡ n

-- By hash all requests for a path that are not full go to one node.
abbrev pub PathsKeepTheirNode : Type 0
PathsKeepTheirNode = (cfg : Config) (files : List File) (es : List LabEvent) → AllByRecursion (λ r. GoesTo (1 + hash_of r.0 % cfg.nodes) r.1) (lab_assignments (desk_with Hash cfg files) es)

-- In basic LARD the node of a target's last request is its server, and the next one goes there unless that is overloaded then.
pub record ServersAreKept : Type 0 where
  pub last : (d : Desk) (path : List ℕ) (target : Target) (choice : FirstChoice) → target_at d.targets path ≡ Some target
      → IfSome (target_at (desk_assigned d path target choice).targets path) (λ t. t.server ≡ Some choice.node)
  pub kept : (d : Desk) (path : List ℕ) (target : Target) (n : ℕ) → d.policy ≡ Lard → target.server ≡ Some n → is_overloaded d.loads d.config n ≡ false
      → GoesTo n (node_chosen (answer_at d path target))
