-- A lab follows its trace: what it keeps and counts of each node is that of the node's requests so far, and it tells their lines.
use Rattle.std.proofs.Common.{◌≡◌, ◌≢◌, ℕ, zero, suc, ◌+◌, ◌-◌, ◌/◌, ◌<◌, ◌≤◌, Bool, true, false, ◌&&◌, Result, nat_eq, nat_le, max, cond, List, [], ◌∷◌, ◌++◌, length, sum_by, Option, Some, None, IfSome, is_some, unwrap_or, Ok, Err, slice_get, refl, sym, ap, subst, ◌∙◌, arith, append_assoc}
use Rattle.std.proofs.Math.ListN.{set}
use Rattle.std.proofs.lemmas.Bool.{ne_eqb}
use Rattle.std.proofs.lemmas.Bool.Decides.{nat_tests}
use Rattle.std.proofs.lemmas.List.{length-append}
use Rattle.std.specs.Map.{lookup}
use Rattle.std.specs.Str.{bytes_eq}
use Rattle.lard_base.specs.declared.config.Config.{Config}
use Rattle.lard_base.specs.declared.config.ConfigFault.{ConfigFault}
use Rattle.lard_base.specs.declared.config.ConfigFault.TheVariants.{Range}
use Rattle.lard_base.specs.declared.config.Key.TheVariants.{Nodes, Low, High, Age, Idle, Over, Miss, Cache, Stream}
use Rattle.lard_base.specs.Config.{checked_from, config_check}
use Rattle.lard_cache.specs.Recency.{has_path}
use Rattle.lard_loads.specs.declared.loads.TheConstants.{WHOLE}
use Rattle.lard_loads.specs.Tally.{Standing, home_of, load, numbers}
use Rattle.lard_loads.proofs.Charged.{each_sum}
use Rattle.lard_loads.proofs.Sums.{changed_sum}
use Rattle.lard_policy.specs.declared.first.FirstChoice.{FirstChoice}
use Rattle.lard_lab.specs.declared.backends.Backend.{Backend}
use Rattle.lard_lab.specs.declared.event.LabEvent.{LabEvent}
use Rattle.lard_lab.specs.declared.event.LabEvent.TheVariants.{Req, Done, Clock}
use Rattle.lard_lab.specs.declared.event.LabFault.{LabFault}
use Rattle.lard_lab.specs.declared.event.LabFault.TheVariants.{Limit, NotOpen}
use Rattle.lard_lab.specs.declared.targets.Target.{Target}
use Rattle.lard_lab.specs.Backends.{backend_after, empty, is_hit, keeps, node_after, one_if, stores_served, backends_after}
use Rattle.lard_lab.specs.Desk.{Desk, desk_assigned, desk_choice, chosen_for, done_with, is_desk_full, is_request_open, later_by, request_passed_over}
use Rattle.lard_lab.specs.Lab.{State, lab_after, fault_of, load_with_one, outcome_by, path_fault, requested, requested_by, lab_told, request_told}
use Rattle.lard_lab.specs.Laws.{PassAll, lab_after_all, line_in, told_all}
use Rattle.lard_lab.specs.Report.{File, Request, all_hits, all_requests, lab_assignments, backend_of, backends_of, count_true, desk_after, desk_by, desk_requested, full_among, hits_of, kept_by, lines_from, node_chosen, peak_of, request_in, request_of, file_size_in, subtrace}
use Rattle.lard_lab.specs.Sound.{IsDeskSound}
use Rattle.lard_lab.specs.Targets.{target_at}
use Rattle.lard_lab.specs.Text.{request_line}
use Rattle.lard_lab.proofs.Chosen.{IsNode, choice-node}
use Rattle.lard_lab.proofs.Kept.{one-written}
use Rattle.lard_lab.proofs.Loads.{fewer-open, more-open, same-open}
use Rattle.lard_lab.proofs.Sizes.{same-sizes, size_found}
use Rattle.lard_lab.proofs.Soundness.{assigned-sound, done-sound, later-sound, next-free, passed-sound}
use Rattle.lard_lab.proofs.Subtraces.{at-row, backend-behind, backend-other, full-behind, hits-behind, lines-behind, same-row, set-row, subtrace-behind, with_one}

-- each target that has a server has a node that there is
abbrev pub ServedBy : ℕ → Target → Type 0
ServedBy nodes t = IfSome t.server (IsNode nodes)

pub record Follows (files : List File) (s : State) (before : List Request) (peaks : ℕ → ℕ) : Type 0 where
  pub sound : IsDeskSound s.desk
  pub all_open : s.desk.loads.open_nodes ≡ numbers s.desk.config.nodes
  pub servers : (q : List ℕ) → IfSome (target_at s.desk.targets q) (ServedBy s.desk.config.nodes)
  pub sizes : (q : List ℕ) → size_found (target_at s.desk.targets q) ≡ lookup (bytes_eq q) files
  pub made : s.desk.made ≡ length before
  pub nodes : s.stores.nodes ≡ backends_of (file_size_in files) s.desk.config before peaks
  pub requests : s.stores.requests ≡ all_requests s.desk.config before
  pub full : s.stores.requests + full_among before ≡ length before
  pub hits : s.stores.hits ≡ all_hits (file_size_in files) s.desk.config before
  pub loads : (n : ℕ) → load s.desk.loads n / WHOLE ≤ peaks n

append-nil : {X : Type 0} (xs : List X) → xs ++ [] ≡ xs
append-nil [] = refl
append-nil {X} (x ∷ xs) = ap (λ (ys : List X). x ∷ ys) (append-nil xs)

-- ---- peaks

-- the same nodes with the same peaks
pub same-peaks : (size : List ℕ → ℕ) (cfg : Config) (rs : List Request) (p q : ℕ → ℕ) → ((n : ℕ) → p n ≡ q n) → backends_of size cfg rs p ≡ backends_of size cfg rs q
same-peaks size cfg rs p q same = same-row (backend_of size cfg.cache rs p) (backend_of size cfg.cache rs q) 1 cfg.nodes (λ n l h. one n (same n)) where
  one : (n : ℕ) → p n ≡ q n → backend_of size cfg.cache rs p n ≡ backend_of size cfg.cache rs q n
  one n e = ap (λ (k : ℕ). let paths : List (List ℕ) = subtrace n rs in let b : Backend = record { cache = kept_by size (empty cfg.cache) paths; requests = length paths; hits = count_true (hits_of size (empty cfg.cache) paths); peak = k } in b) e

repeaked : (files : List File) (s : State) (before : List Request) (p q : ℕ → ℕ) → ((n : ℕ) → p n ≡ q n) → Follows files s before p → Follows files s before q
repeaked files s before p q same f = record {
  sound = f.sound;
  all_open = f.all_open;
  servers = f.servers;
  sizes = f.sizes;
  made = f.made;
  nodes = f.nodes ∙ same-peaks (file_size_in files) s.desk.config before p q same;
  requests = f.requests;
  full = f.full;
  hits = f.hits;
  loads = λ n. let e : p n ≡ q n = same n in let l : load s.desk.loads n / WHOLE ≤ p n = f.loads n in omega (arith, e, l);
}

-- ---- one event

-- what an event leads to, tells and adds to the requests
pub record StepsBy (files : List File) (s t : State) (before : List Request) (peaks : ℕ → ℕ) (d : Desk) (line : Option (List ℕ)) (rs : List Request) : Type 0 where
  pub desk : t.desk ≡ d
  pub config : d.config ≡ s.desk.config
  pub text : line_in line ≡ lines_from (file_size_in files) s.desk.config.cache before rs
  pub next : Follows files t (before ++ rs) (λ n. max (peaks n) (load d.loads n / WHOLE))

abbrev StepsTo : List File → State → List Request → (ℕ → ℕ) → List ℕ → Target → Option FirstChoice → Type 0
StepsTo files s before peaks path target o = StepsBy files s (requested_by s path target o) before peaks (desk_by s.desk path target o) (Some (request_line (s.desk.made + 1) path (outcome_by s path o))) ((path, node_chosen o) ∷ [])

abbrev StepsAt : List File → State → List Request → (ℕ → ℕ) → List ℕ → Option Target → Type 0
StepsAt files s before peaks path o = StepsBy files s (requested s path o) before peaks (desk_requested s.desk path o) (request_told s path o) (request_of s.desk path o)

abbrev pub Steps : List File → State → List Request → (ℕ → ℕ) → LabEvent → Type 0
Steps files s before peaks e = StepsBy files s (lab_after s e) before peaks (desk_after s.desk e) (lab_told s e) (request_in s.desk e)

-- a desk on which nothing is said of requests: its open requests became no more
still : (files : List File) (s : State) (d : Desk) (before : List Request) (peaks : ℕ → ℕ) → Follows files s before peaks → IsDeskSound d → d.config ≡ s.desk.config → d.made ≡ s.desk.made → d.targets ≡ s.desk.targets
    → d.loads.open_nodes ≡ s.desk.loads.open_nodes → ((n : ℕ) → load d.loads n / WHOLE ≤ load s.desk.loads n / WHOLE)
    → Follows files (record s { desk = d }) (before ++ []) (λ n. max (peaks n) (load d.loads n / WHOLE))
still files s d before peaks f sound config made targets open_nodes fewer =
    subst (λ (rs : List Request). Follows files (record s { desk = d }) rs (λ n. max (peaks n) (load d.loads n / WHOLE))) (sym (append-nil before)) (record {
      sound = sound;
      all_open = open_nodes ∙ f.all_open ∙ ap (λ (c : Config). numbers c.nodes) (sym config);
      servers = λ q. subst (λ (c : Config). IfSome (target_at d.targets q) (ServedBy c.nodes)) (sym config) (subst (λ (ts : List (List ℕ × Target)). IfSome (target_at ts q) (ServedBy s.desk.config.nodes)) (sym targets) (f.servers q));
      sizes = λ q. ap (λ (ts : List (List ℕ × Target)). size_found (target_at ts q)) targets ∙ f.sizes q;
      made = made ∙ f.made;
      nodes = f.nodes ∙ ap (λ (c : Config). backends_of (file_size_in files) c before peaks) (sym config)
          ∙ same-peaks (file_size_in files) d.config before peaks (λ n. max (peaks n) (load d.loads n / WHOLE)) (λ n. let a = f.loads n in let b = fewer n in omega (arith, a, b));
      requests = f.requests ∙ ap (λ (c : Config). all_requests c before) (sym config);
      full = f.full;
      hits = f.hits ∙ ap (λ (c : Config). all_hits (file_size_in files) c before) (sym config);
      loads = λ n. omega arith;
    })

open-number : (d : Desk) (i : ℕ) → IsDeskSound d → is_request_open d i ≡ true → (1 ≤ i) × (i ≤ 16384)
open-number d i s there = (go i there, least (nat_le (suc d.made) i) refl) where
  go : (k : ℕ) → is_request_open d k ≡ true → 1 ≤ k
  go zero h = let none : is_request_open d 0 ≡ false = ap (λ (o : Option Standing). is_some (home_of o)) s.none in let never : false ≡ true = sym none ∙ h in absurd (cc)
  go (suc k) h = omega arith

  least : (b : Bool) → nat_le (suc d.made) i ≡ b → i ≤ 16384
  least true e =
      let above : d.made < i = grind (arith, nat_tests, e) in
      let none : is_request_open d i ≡ false = ap (λ (o : Option Standing). is_some (home_of o)) (s.free i above) in
      let never : false ≡ true = sym none ∙ there in absurd (cc)
  least false e = let few = s.few in let below : i ≤ d.made = grind (arith, nat_tests, e) in omega (arith, few, below)

is-open : (d : Desk) (i : ℕ) → cond {A = Option LabFault} (is_request_open d i) None (Some (NotOpen i)) ≡ None → is_request_open d i ≡ true
is-open d i h = go (is_request_open d i) h where
  go : (b : Bool) → cond {A = Option LabFault} b None (Some (NotOpen i)) ≡ None → b ≡ true
  go true e = refl
  go false e = cc

done-steps : (files : List File) (s : State) (before : List Request) (peaks : ℕ → ℕ) (i : ℕ) → Follows files s before peaks → fault_of s (Done i) ≡ None → Steps files s before peaks (Done i)
unfolding lab_after lab_told fault_of desk_after request_in
done-steps files s before peaks i f passes =
    let range : (1 ≤ i) × (i ≤ 16384) = open-number s.desk i f.sound (is-open s.desk i passes) in record {
      desk = refl;
      config = refl;
      text = refl;
      next = still files s (done_with s.desk i) before peaks f (done-sound s.desk i f.sound) refl refl refl refl (λ n. fewer-open s.desk.loads i n range.0 range.1);
    }

clock-steps : (files : List File) (s : State) (before : List Request) (peaks : ℕ → ℕ) (ms : ℕ) → Follows files s before peaks → Steps files s before peaks (Clock ms)
unfolding lab_after lab_told fault_of desk_after request_in
clock-steps files s before peaks ms f = record {
  desk = refl;
  config = refl;
  text = refl;
  next = still files s (later_by s.desk ms) before peaks f (later-sound s.desk ms f.sound) refl refl refl refl (λ n. omega arith);
}

-- ---- a request that is full

full-nodes : (files : List File) (s : State) (before : List Request) (peaks : ℕ → ℕ) (path : List ℕ) → Follows files s before peaks
    → s.stores.nodes ≡ backends_of (file_size_in files) s.desk.config (before ++ (path, None) ∷ []) (λ n. max (peaks n) (load s.desk.loads n / WHOLE))
full-nodes files s before peaks path f =
    f.nodes ∙ same-row (backend_of (file_size_in files) s.desk.config.cache before peaks) (backend_of (file_size_in files) s.desk.config.cache (before ++ (path, None) ∷ []) (λ n. max (peaks n) (load s.desk.loads n / WHOLE)))
    1 s.desk.config.nodes (λ n l h. sym (backend-other (file_size_in files) s.desk.config.cache before path None peaks n (max (peaks n) (load s.desk.loads n / WHOLE)) refl (let a = f.loads n in omega (arith, a))))

no-paths : (n : ℕ) (before : List Request) (path : List ℕ) → subtrace n (before ++ (path, None) ∷ []) ≡ subtrace n before
no-paths n before path = subtrace-behind n before (path, None)

full-follows : (files : List File) (s : State) (before : List Request) (peaks : ℕ → ℕ) (path : List ℕ) → s.desk.made < 16384 → Follows files s before peaks
    → Follows files (record s { desk = request_passed_over s.desk }) (before ++ (path, None) ∷ []) (λ n. max (peaks n) (load s.desk.loads n / WHOLE))
full-follows files s before peaks path few f =
    let long : length (before ++ (path, None) ∷ []) ≡ length before + 1 = length-append before ((path, None) ∷ []) in
    let more : full_among (before ++ (path, None) ∷ []) ≡ full_among before + 1 = full-behind before (path, None) in record {
      sound = passed-sound s.desk few f.sound;
      all_open = f.all_open;
      servers = f.servers;
      sizes = f.sizes;
      made = let made = f.made in omega (arith, made, long);
      nodes = full-nodes files s before peaks path f;
      requests = f.requests ∙ each_sum (λ n. length (subtrace n before)) (λ n. length (subtrace n (before ++ (path, None) ∷ []))) (λ n. ap length (sym (no-paths n before path))) (numbers s.desk.config.nodes);
      full = let full = f.full in omega (arith, full, long, more);
      hits = f.hits ∙ each_sum (λ n. count_true (hits_of (file_size_in files) (empty s.desk.config.cache) (subtrace n before))) (λ n. count_true (hits_of (file_size_in files) (empty s.desk.config.cache) (subtrace n (before ++ (path, None) ∷ []))))
          (λ n. ap (λ (ps : List (List ℕ)). count_true (hits_of (file_size_in files) (empty s.desk.config.cache) ps)) (sym (no-paths n before path))) (numbers s.desk.config.nodes);
      loads = λ n. omega arith;
    }

-- ---- a request that is assigned

module _ (files : List File) (s : State) (before : List Request) (peaks : ℕ → ℕ) (path : List ℕ) (target : Target) (choice : FirstChoice) (f : Follows files s before peaks)
    (there : target_at s.desk.targets path ≡ Some target) (few : s.desk.made < 16384) (node : IsNode s.desk.config.nodes choice.node) where
  abbrev behind : Desk
  behind = desk_assigned s.desk path target choice

  abbrev rows : List Request
  rows = before ++ (path, Some choice.node) ∷ []

  abbrev now_peaks : ℕ → ℕ
  now_peaks m = max (peaks m) (load behind.loads m / WHOLE)

  abbrev was : ℕ → Backend
  was = backend_of (file_size_in files) s.desk.config.cache before peaks

  abbrev is_now : ℕ → Backend
  is_now = backend_of (file_size_in files) s.desk.config.cache rows now_peaks

  size-is : target.size ≡ file_size_in files path
  size-is = ap (λ (o : Option ℕ). unwrap_or o 0) (sym (ap size_found there) ∙ f.sizes path)

  loaded : load behind.loads choice.node / WHOLE ≡ load_with_one s.desk choice.node
  loaded = let few : s.desk.made < 16384 = few in more-open s.desk.loads (s.desk.made + 1) choice.node (omega arith) (omega (arith, few)) (next-free s.desk f.sound)

  other-load : (m : ℕ) → nat_eq choice.node m ≡ false → load behind.loads m / WHOLE ≡ load s.desk.loads m / WHOLE
  other-load m other = let few : s.desk.made < 16384 = few in same-open s.desk.loads (s.desk.made + 1) choice.node m (omega arith) (omega (arith, few)) (next-free s.desk f.sound) other

  found : slice_get s.stores.nodes (choice.node - 1) ≡ Some (was choice.node)
  found =
      let low : 1 ≤ choice.node = node.0 in let high : choice.node ≤ s.desk.config.nodes = node.1 in
      ap (λ (bs : List Backend). slice_get bs (choice.node - 1)) f.nodes ∙ at-row was 1 s.desk.config.nodes (choice.node - 1) choice.node (omega (arith, low)) (omega (arith, low, high))

  same-node : nat_eq choice.node choice.node ≡ true
  same-node = grind (arith, nat_tests)

  one-now : backend_after (was choice.node) path target.size (load_with_one s.desk choice.node) ≡ is_now choice.node
  one-now =
      ap (λ (k : ℕ). backend_after (was choice.node) path k (load_with_one s.desk choice.node)) size-is
      ∙ sym (backend-behind (file_size_in files) s.desk.config.cache before path (Some choice.node) peaks choice.node (load_with_one s.desk choice.node) same-node)
      ∙ ap (λ (l : ℕ). backend_of (file_size_in files) s.desk.config.cache rows (λ m. max (peaks m) l) choice.node) (sym loaded)

  others-now : (m : ℕ) → m ≢ choice.node → is_now m ≡ was m
  others-now m apart =
      let other : nat_eq choice.node m ≡ false = ne_eqb choice.node m (λ e. apart (sym e)) in
      let load_same = other-load m other in let most = f.loads m in
      backend-other (file_size_in files) s.desk.config.cache before path (Some choice.node) peaks m (now_peaks m) other (omega (arith, load_same, most))

  nodes-now : node_after s.stores.nodes (choice.node - 1) path target.size (load_with_one s.desk choice.node) ≡ backends_of (file_size_in files) s.desk.config rows now_peaks
  nodes-now =
      let low : 1 ≤ choice.node = node.0 in let high : choice.node ≤ s.desk.config.nodes = node.1 in
      ap (λ (o : Option Backend). backends_after s.stores.nodes (choice.node - 1) o path target.size (load_with_one s.desk choice.node)) found
      ∙ ap (λ (b : Backend). set s.stores.nodes (choice.node - 1) b) one-now
      ∙ ap (λ (bs : List Backend). set bs (choice.node - 1) (is_now choice.node)) f.nodes
      ∙ set-row was is_now 1 s.desk.config.nodes (choice.node - 1) choice.node (omega (arith, low)) (omega (arith, low, high)) others-now

  -- what is in the cache
  hit : is_hit s.stores choice.node path ≡ has_path (kept_by (file_size_in files) (empty s.desk.config.cache) (subtrace choice.node before)).entries path
  hit = ap (λ (o : Option Backend). keeps o path) found

  paths-now : (m : ℕ) → subtrace m rows ≡ with_one (nat_eq choice.node m) (subtrace m before) path
  paths-now m = subtrace-behind m before (path, Some choice.node)

  -- a sum over all nodes grows by what that of one grows
  grown : (count : List (List ℕ) → ℕ) (more : ℕ) → count (subtrace choice.node before ++ path ∷ []) ≡ count (subtrace choice.node before) + more
      → sum_by (λ m. count (subtrace m before)) (numbers s.desk.config.nodes) + more ≡ sum_by (λ m. count (subtrace m rows)) (numbers s.desk.config.nodes)
  grown count more one =
      let low : 1 ≤ choice.node = node.0 in let high : choice.node ≤ s.desk.config.nodes = node.1 in
      let others : (m : ℕ) → m ≢ choice.node → count (subtrace m rows) ≡ count (subtrace m before) =
      λ m apart. ap count (paths-now m ∙ ap (λ (b : Bool). with_one b (subtrace m before) path) (ne_eqb choice.node m (λ e. apart (sym e)))) in
      let here : count (subtrace choice.node rows) ≡ count (subtrace choice.node before) + more =
      ap count (paths-now choice.node ∙ ap (λ (b : Bool). with_one b (subtrace choice.node before) path) same-node) ∙ one in
      let sum = changed_sum (λ m. count (subtrace m rows)) (λ m. count (subtrace m before)) choice.node 1 s.desk.config.nodes low (omega (arith, high)) others in
      omega (arith, sum, here)

  assigned-follows : Follows files (record { desk = behind; stores = stores_served s.stores choice.node path target.size (load_with_one s.desk choice.node) }) rows now_peaks
  assigned-follows =
      let long : length rows ≡ length before + 1 = length-append before ((path, Some choice.node) ∷ []) in
      let same : full_among rows ≡ full_among before = full-behind before (path, Some choice.node) ∙ omega arith in
      let high : choice.node ≤ s.desk.config.nodes = node.1 in record {
        sound = assigned-sound s.desk path target choice few there high f.sound;
        all_open = f.all_open;
        servers = λ q. one-written (ServedBy s.desk.config.nodes) s.desk.targets path (chosen_for target choice s.desk.time) q node (f.servers q);
        sizes = λ q. same-sizes s.desk.targets path target (chosen_for target choice s.desk.time) q there refl ∙ f.sizes q;
        made = let made = f.made in omega (arith, made, long);
        nodes = nodes-now;
        requests = ap (λ (k : ℕ). k + 1) f.requests ∙ grown length 1 (length-append (subtrace choice.node before) (path ∷ []));
        full = let full = f.full in omega (arith, full, long, same);
        hits = ap (λ (k : ℕ). k + one_if (is_hit s.stores choice.node path)) f.hits
            ∙ ap (λ (b : Bool). all_hits (file_size_in files) s.desk.config before + one_if b) hit
            ∙ grown (λ ps. count_true (hits_of (file_size_in files) (empty s.desk.config.cache) ps)) (one_if (has_path (kept_by (file_size_in files) (empty s.desk.config.cache) (subtrace choice.node before)).entries path))
            (hits-behind (file_size_in files) (empty s.desk.config.cache) (subtrace choice.node before) path);
        loads = λ n. omega arith;
      }

  assigned-text : request_line (s.desk.made + 1) path (Some (choice.node, is_hit s.stores choice.node path)) ≡ lines_from (file_size_in files) s.desk.config.cache before ((path, Some choice.node) ∷ [])
  assigned-text =
      ap (λ (k : ℕ). request_line (k + 1) path (Some (choice.node, is_hit s.stores choice.node path))) f.made
      ∙ ap (λ (b : Bool). request_line (length before + 1) path (Some (choice.node, b))) hit
      ∙ sym (append-nil (request_line (length before + 1) path (Some (choice.node, has_path (kept_by (file_size_in files) (empty s.desk.config.cache) (subtrace choice.node before)).entries path))))

-- ---- any request

some-node : (c : Config) → config_check c ≡ Ok tt → 1 ≤ c.nodes
some-node c h = first (nat_le 1 c.nodes) (nat_le c.nodes 64) (checked_from c (Low ∷ High ∷ Age ∷ Idle ∷ Over ∷ Miss ∷ Cache ∷ Stream ∷ [])) refl h where
  first : (a b : Bool) (rest : Result (Unit {0}) ConfigFault) → nat_le 1 c.nodes ≡ a → cond (a && b) rest (Err (Range Nodes c.nodes)) ≡ Ok tt → 1 ≤ c.nodes
  first true b rest e p = grind (arith, nat_tests, e)
  first false b rest e p = cc

few-made : (s : State) (path : List ℕ) (target : Target) → path_fault s.desk.made (Some target) ≡ None → s.desk.made < 16384
few-made s path target h = go (nat_le 16384 s.desk.made) refl h where
  go : (b : Bool) → nat_le 16384 s.desk.made ≡ b → cond {A = Option LabFault} b (Some Limit) None ≡ None → s.desk.made < 16384
  go true e p = cc
  go false e p = grind (arith, nat_tests, e)

-- a request with its target, and where it goes
requested-steps : (files : List File) (s : State) (before : List Request) (peaks : ℕ → ℕ) (path : List ℕ) (target : Target) → Follows files s before peaks → target_at s.desk.targets path ≡ Some target
    → s.desk.made < 16384 → IsNode s.desk.config.nodes (desk_choice s.desk path target).node → (full : Bool) → StepsTo files s before peaks path target (cond full None (Some (desk_choice s.desk path target)))
requested-steps files s before peaks path target f there few node true = record {
  desk = refl;
  config = refl;
  text = ap (λ (k : ℕ). request_line (k + 1) path None) f.made ∙ sym (append-nil (request_line (length before + 1) path None));
  next = full-follows files s before peaks path few f;
}
requested-steps files s before peaks path target f there few node false = record {
  desk = refl;
  config = refl;
  text = assigned-text files s before peaks path target (desk_choice s.desk path target) f there few node;
  next = assigned-follows files s before peaks path target (desk_choice s.desk path target) f there few node;
}

req-steps : (files : List File) (s : State) (before : List Request) (peaks : ℕ → ℕ) (path : List ℕ) → Follows files s before peaks → fault_of s (Req path) ≡ None → Steps files s before peaks (Req path)
unfolding lab_after lab_told fault_of desk_after request_in
req-steps files s before peaks path f passes = go (target_at s.desk.targets path) refl passes where
  node : (target : Target) → target_at s.desk.targets path ≡ Some target → IsNode s.desk.config.nodes (desk_choice s.desk path target).node
  node target there = choice-node s.desk.policy s.desk.config s.desk.loads s.desk.time s.desk.made path target (some-node s.desk.config f.sound.usable) f.sound.nodes f.all_open
      (subst (λ (o : Option Target). IfSome o (ServedBy s.desk.config.nodes)) there (f.servers path))

  go : (o : Option Target) → target_at s.desk.targets path ≡ o → path_fault s.desk.made o ≡ None → StepsAt files s before peaks path o
  go None e p = cc
  go (Some target) e p = requested-steps files s before peaks path target f e (few-made s path target p) (node target e) (is_desk_full s.desk)

steps : (files : List File) (s : State) (before : List Request) (peaks : ℕ → ℕ) (e : LabEvent) → Follows files s before peaks → fault_of s e ≡ None → Steps files s before peaks e
steps files s before peaks (Req path) f passes = req-steps files s before peaks path f passes
steps files s before peaks (Done i) f passes = done-steps files s before peaks i f passes
steps files s before peaks (Clock ms) f passes = clock-steps files s before peaks ms f

-- ---- all events

pub record Told (files : List File) (s : State) (before : List Request) (peaks : ℕ → ℕ) (es : List LabEvent) : Type 0 where
  pub config : (lab_after_all s es).desk.config ≡ s.desk.config
  pub text : told_all s es ≡ lines_from (file_size_in files) s.desk.config.cache before (lab_assignments s.desk es)
  pub last : Follows files (lab_after_all s es) (before ++ lab_assignments s.desk es) (λ n. max (peaks n) (peak_of n s.desk es))

told-more : (files : List File) (s : State) (before : List Request) (peaks : ℕ → ℕ) (e : LabEvent) (es : List LabEvent) → Steps files s before peaks e
    → Told files (lab_after s e) (before ++ request_in s.desk e) (λ n. max (peaks n) (load (desk_after s.desk e).loads n / WHOLE)) es → Told files s before peaks (e ∷ es)
told-more files s before peaks e es step rest =
    let d : Desk = desk_after s.desk e in
    let rs : List Request = request_in s.desk e in
    let config : (lab_after s e).desk.config ≡ s.desk.config = ap (λ (d : Desk). d.config) step.desk ∙ step.config in record {
      config = rest.config ∙ config;
      text = ap (λ (t : List ℕ). t ++ told_all (lab_after s e) es) step.text
          ∙ ap (λ (t : List ℕ). lines_from (file_size_in files) s.desk.config.cache before rs ++ t)
          (rest.text ∙ ap (λ (c : Config). lines_from (file_size_in files) c.cache (before ++ rs) (lab_assignments (lab_after s e).desk es)) config
          ∙ ap (λ (d : Desk). lines_from (file_size_in files) s.desk.config.cache (before ++ rs) (lab_assignments d es)) step.desk)
          ∙ sym (lines-behind (file_size_in files) s.desk.config.cache before rs (lab_assignments d es));
      last = repeaked files (lab_after_all (lab_after s e) es) (before ++ (rs ++ lab_assignments d es)) (λ n. max (max (peaks n) (load d.loads n / WHOLE)) (peak_of n d es)) (λ n. max (peaks n) (max (load d.loads n / WHOLE) (peak_of n d es)))
          (λ n. omega arith)
          (subst (λ (xs : List Request). Follows files (lab_after_all (lab_after s e) es) xs (λ n. max (max (peaks n) (load d.loads n / WHOLE)) (peak_of n d es))) (append_assoc before rs (lab_assignments d es))
          (subst (λ (x : Desk). Follows files (lab_after_all (lab_after s e) es) (before ++ rs ++ lab_assignments x es) (λ n. max (max (peaks n) (load d.loads n / WHOLE)) (peak_of n x es))) step.desk rest.last));
    }

pub follows : (files : List File) (es : List LabEvent) (s : State) (before : List Request) (peaks : ℕ → ℕ) → Follows files s before peaks → PassAll s es → Told files s before peaks es
follows files [] s before peaks f pass = record {
  config = refl;
  text = refl;
  last = subst (λ (xs : List Request). Follows files s xs (λ n. max (peaks n) 0)) (sym (append-nil before)) (repeaked files s before peaks (λ n. max (peaks n) 0) (λ n. omega arith) f);
}
follows files (e ∷ es) s before peaks f pass =
    let step = steps files s before peaks e f pass.0 in
    told-more files s before peaks e es step (follows files es (lab_after s e) (before ++ request_in s.desk e) (λ n. max (peaks n) (load (desk_after s.desk e).loads n / WHOLE)) step.next pass.1)
