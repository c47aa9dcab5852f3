-- The report of a trace: the assignments first, the hits of each node from its own requests, and the lines of both.
use Rattle.std.specs.Prelude.{ℕ, ◌+◌, ◌/◌, Bool, false, nat_eq, max, if◌then◌else◌, List, [], ◌∷◌, ◌++◌, length, map, sum_by, Option, Some, None, is_none, unwrap_or}
use Rattle.std.specs.Map.{lookup}
use Rattle.std.specs.Str.{bytes_eq}
use Rattle.lard_base.specs.declared.config.Config.{Config}
use Rattle.lard_cache.specs.Recency.{Recency, has_path}
use Rattle.lard_loads.specs.declared.loads.TheConstants.{WHOLE}
use Rattle.lard_loads.specs.Tally.{load, numbers}
use Rattle.lard_policy.specs.declared.first.FirstChoice.{FirstChoice}
use Rattle.lard_lab.specs.declared.backends.Backend.{Backend}
use Rattle.lard_lab.specs.declared.event.LabEvent.{LabEvent}
use Rattle.lard_lab.specs.declared.event.LabEvent.TheVariants.{Req, Done, Clock}
use Rattle.lard_lab.specs.declared.policy.Policy.{Policy}
use Rattle.lard_lab.specs.declared.targets.Target.{Target}
use Rattle.lard_lab.specs.Backends.{empty, fed, one_if}
use Rattle.lard_lab.specs.Desk.{Desk, answer_at, desk_assigned, desk_begun, done_with, later_by, request_passed_over}
use Rattle.lard_lab.specs.Targets.{fresh_target, target_at}
use Rattle.lard_lab.specs.Text.{lab_heading_line, node_lines, request_line, totals_line}

-- ---- assignments, for which no cache is looked at

-- the desk behind a request
abbrev pub desk_by : Desk → List ℕ → Target → Option FirstChoice → Desk
desk_by d path target None = request_passed_over d
desk_by d path target (Some choice) = desk_assigned d path target choice

abbrev pub desk_requested : Desk → List ℕ → Option Target → Desk
desk_requested d path None = d
desk_requested d path (Some target) = desk_by d path target (answer_at d path target)

-- and behind any event
unfoldable pub desk_after : Desk → LabEvent → Desk
desk_after d (Req path) = desk_requested d path (target_at d.targets path)
desk_after d (Done i) = done_with d i
desk_after d (Clock ms) = later_by d ms

-- a request with its path, and its node, or none where it was full
abbrev pub Request : Type 0
Request = List ℕ × Option ℕ

abbrev pub node_chosen : Option FirstChoice → Option ℕ
node_chosen None = None
node_chosen (Some choice) = Some choice.node

abbrev pub request_of : Desk → List ℕ → Option Target → List Request
request_of d path None = []
request_of d path (Some target) = (path, node_chosen (answer_at d path target)) ∷ []

-- the request of an event, where it is one
unfoldable pub request_in : Desk → LabEvent → List Request
request_in d (Req path) = request_of d path (target_at d.targets path)
request_in d (Done i) = []
request_in d (Clock ms) = []

-- the requests of a trace with their nodes, in order, from a desk on
abbrev pub lab_assignments : Desk → List LabEvent → List Request
lab_assignments d [] = []
lab_assignments d (e ∷ es) = request_in d e ++ lab_assignments (desk_after d e) es

-- ---- the hits of a node

abbrev pub is_node_at : ℕ → Option ℕ → Bool
is_node_at n None = false
is_node_at n (Some m) = nat_eq m n

-- the paths of a node's requests alone, in order
abbrev pub subtrace : ℕ → List Request → List (List ℕ)
subtrace n [] = []
subtrace n (r ∷ rs) = if is_node_at n r.1 then r.0 ∷ subtrace n rs else subtrace n rs

-- the recency list that was fed with these paths, of files of these sizes
abbrev pub kept_by : (List ℕ → ℕ) → Recency → List (List ℕ) → Recency
kept_by size cache [] = cache
kept_by size cache (path ∷ paths) = kept_by size (fed cache path (size path)) paths

-- whether each of these paths is in the list when it comes
abbrev pub hits_of : (List ℕ → ℕ) → Recency → List (List ℕ) → List Bool
hits_of size cache [] = []
hits_of size cache (path ∷ paths) = has_path cache.entries path ∷ hits_of size (fed cache path (size path)) paths

abbrev pub count_true : List Bool → ℕ
count_true [] = 0
count_true (b ∷ bs) = one_if b + count_true bs

-- ---- the greatest load of a node

-- the most requests that are open there at once behind any of these events
abbrev pub peak_of : ℕ → Desk → List LabEvent → ℕ
peak_of n d [] = 0
peak_of n d (e ∷ es) = max (load (desk_after d e).loads n / WHOLE) (peak_of n (desk_after d e) es)

-- ---- the report

-- a file of a trace: its path, and how many bytes it has
abbrev pub File : Type 0
File = List ℕ × ℕ

-- how many bytes the file of a path has
abbrev pub file_size_in : List File → List ℕ → ℕ
file_size_in files path = unwrap_or (lookup (bytes_eq path) files) 0

-- the desk with these files, before the first event
abbrev pub desk_with : Policy → Config → List File → Desk
desk_with policy cfg files = record (desk_begun policy cfg) { targets = map (λ f. (f.0, fresh_target f.1)) files }

-- What is counted of a node: its cache, its requests and its hits are those of its subtrace alone.
abbrev pub backend_of : (List ℕ → ℕ) → ℕ → List Request → (ℕ → ℕ) → ℕ → Backend
backend_of size limit rs peaks n = record {
  cache = kept_by size (empty limit) (subtrace n rs);
  requests = length (subtrace n rs);
  hits = count_true (hits_of size (empty limit) (subtrace n rs));
  peak = peaks n;
}

abbrev pub backends_of : (List ℕ → ℕ) → Config → List Request → (ℕ → ℕ) → List Backend
backends_of size cfg rs peaks = map (backend_of size cfg.cache rs peaks) (numbers cfg.nodes)

-- the node of a request, and whether its path was in the list of the node's requests before
abbrev pub outcome_of : (List ℕ → ℕ) → ℕ → List Request → List ℕ → Option ℕ → Option (ℕ × Bool)
outcome_of size limit before path None = None
outcome_of size limit before path (Some n) = Some (n, has_path (kept_by size (empty limit) (subtrace n before)).entries path)

-- a line for each request, behind those before
abbrev pub lines_from : (List ℕ → ℕ) → ℕ → List Request → List Request → List ℕ
lines_from size limit before [] = []
lines_from size limit before (r ∷ rs) = request_line (length before + 1) r.0 (outcome_of size limit before r.0 r.1) ++ lines_from size limit (before ++ r ∷ []) rs

-- how many requests were full
abbrev pub full_among : List Request → ℕ
full_among [] = 0
full_among (r ∷ rs) = one_if (is_none r.1) + full_among rs

-- the hits of all nodes
abbrev pub all_hits : (List ℕ → ℕ) → Config → List Request → ℕ
all_hits size cfg rs = sum_by (λ n. count_true (hits_of size (empty cfg.cache) (subtrace n rs))) (numbers cfg.nodes)

-- the requests that went to a node
abbrev pub all_requests : Config → List Request → ℕ
all_requests cfg rs = sum_by (λ n. length (subtrace n rs)) (numbers cfg.nodes)

-- the lines at the end
abbrev pub totals_of : (List ℕ → ℕ) → Config → List Request → (ℕ → ℕ) → List ℕ
totals_of size cfg rs peaks = totals_line (length rs) (all_hits size cfg rs) (full_among rs) ++ node_lines 1 (backends_of size cfg rs peaks)

-- the report of a trace
unfoldable pub lab_report : Policy → Config → List File → List LabEvent → List ℕ
lab_report policy cfg files es =
    let d : Desk = desk_with policy cfg files in
    let rs : List Request = lab_assignments d es in
    lab_heading_line policy cfg ++ lines_from (file_size_in files) cfg.cache [] rs ++ totals_of (file_size_in files) cfg rs (λ n. peak_of n d es)
